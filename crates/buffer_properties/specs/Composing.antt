-- The third round of normalisation: combining marks are composed with their base (UAX 15, canonical composition, D117),
-- where the font has the composite.
use Rattle.std.specs.Prelude.{ℕ, ◌+◌, ◌==◌, ◌&&◌, Bool, true, nat_lt, if◌then◌else◌, List, [], ◌∷◌, ◌++◌, length, Option, None, option_map}
use Rattle.std.specs.Option.{option_and_then, option_map_or}
use Rattle.buffer_glyphs.specs.Items.{Item}
use Rattle.buffer_glyphs.specs.Levels.{InOutput}
use Rattle.buffer_glyphs.specs.Events.{Merge, Replace}
use Rattle.buffer_glyphs.specs.Rewriting.{Arrangement, eventless_arrangement}
use Rattle.buffer_properties.specs.Characters.{is_mark, mark_class, standing_for, with_glyph}
use Rattle.buffer_properties.specs.Normalizer.{Normalizer}

-- the class of the last of some items
abbrev pub last_class : ℕ → List Item → ℕ
last_class k [] = k
last_class k (x ∷ xs) = last_class (mark_class x) xs

-- whether a combining mark is not blocked from its starter (UAX 15, D115): it is directly after it, or after an item of
-- lesser class
abbrev pub is_not_blocked : List Item → Item → Bool
is_not_blocked [] x = true
is_not_blocked (y ∷ ys) x = nat_lt (last_class (mark_class y) ys) (mark_class x)

-- a starter as another character, where the font has that
abbrev pub becoming : Normalizer → Item → ℕ → Option Item
becoming c starter u = option_map (λ g. with_glyph g (standing_for c.tables u starter)) (c.glyph_of u)

-- the composite of a combining mark and the last starter; None where there is none
unfoldable pub composite : Normalizer → Item → List Item → Item → Option Item
composite c starter between x =
    if is_mark x && is_not_blocked between x then option_and_then (becoming c starter) (c.composes starter.number x.number) else None

-- the output merged from a starter to a combining mark, and the mark deleted
abbrev pub with_composition : ℕ → ℕ → Arrangement → Arrangement
with_composition starter mark a = record a { events = Merge InOutput starter (mark + 1) ∷ Replace mark 1 0 ∷ a.events }

-- the items done, the last starter and the items after it, and the items that are left
abbrev pub composition_from : Normalizer → List Item → Item → List Item → List Item → Arrangement
composition_from c done starter between [] = eventless_arrangement (done ++ starter ∷ between)
composition_from c done starter between (x ∷ xs) =
    option_map_or (λ composed. with_composition (length done) (length done + 1 + length between) (composition_from c done composed between xs))
    (composite c starter between x)
    (if mark_class x == 0 then composition_from c (done ++ starter ∷ between) x [] xs else composition_from c done starter (between ++ x ∷ []) xs)

-- a list composed: the first item is the starter until an item of class 0 follows
abbrev pub composed_list : Normalizer → List Item → Arrangement
composed_list c [] = eventless_arrangement []
composed_list c (x ∷ xs) = composition_from c [] x [] xs
