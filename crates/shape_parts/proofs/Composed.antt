-- Compositions keep the parts of a list: the part of a mark is united with its starter's before the mark is deleted.
use Rattle.std.proofs.Common.{ℕ, ◌≡◌, ◌<◌, ◌+◌, ◌-◌, ◌==◌, Bool, true, false, if◌then◌else◌, List, [], ◌∷◌, ◌++◌, length, Option, None, Some, arith, refl, sym, subst}
use Rattle.std.specs.Option.{option_map_or}
use Rattle.std.proofs.lemmas.List.{length-append}
use Rattle.buffer_glyphs.specs.declared.level.BufferClusterLevel.{BufferClusterLevel}
use Rattle.buffer_glyphs.specs.Events.{Merge, Replace}
use Rattle.buffer_glyphs.specs.Items.{Item}
use Rattle.buffer_glyphs.specs.Levels.{InOutput}
use Rattle.buffer_glyphs.specs.Rewriting.{Arrangement, eventless_arrangement}
use Rattle.buffer_parts.specs.Keeping.{AreKept}
use Rattle.buffer_parts.specs.Turns.{IsUnturned}
use Rattle.buffer_parts.specs.Lemmas.Keeping.{kept_in_turn, ligatures_keep_parts}
use Rattle.buffer_properties.specs.Characters.{mark_class}
use Rattle.buffer_properties.specs.Composing.{composed_list, composite, composition_from, with_composition}
use Rattle.buffer_properties.specs.Normalizer.{Normalizer}
use Rattle.buffer_parts.specs.Lemmas.Stages.{nothing_keeps}

-- an arrangement of n items keeps their parts, and reverses no list
pub record ArrangesInLine (n : ℕ) (a : Arrangement) : Type 0 where
  pub kept : (level : BufferClusterLevel) → AreKept level a.events n (length a.items)
  pub unturned : IsUnturned a.events

pub eventless_in_line : (n : ℕ) (xs : List Item) → length xs ≡ n → ArrangesInLine n (eventless_arrangement xs)
eventless_in_line n xs e = record { kept = λ level. subst (λ (k : ℕ). AreKept level [] k (length xs)) e (nothing_keeps level (length xs)); unturned = tt }

-- a merge from a starter to a mark, and the mark's deletion
pub composition_kept : (level : BufferClusterLevel) (at between n : ℕ) → at + 1 + between < n → AreKept level (Merge InOutput at (at + 1 + between + 1) ∷ Replace (at + 1 + between) 1 0 ∷ []) n (n - 1)
composition_kept level at between n lt =
    let end : at + 1 + between + 1 ≡ at + (between + 2) = omega arith in
    let mark : at + 1 + between ≡ at + (between + 1) - 0 = omega arith in
    let all = ligatures_keep_parts InOutput level at (between + 2) ((between + 1) ∷ []) n (omega (arith, lt)) (omega arith, omega arith, tt) in
    subst (λ (i : ℕ). AreKept level (Merge InOutput at i ∷ Replace (at + 1 + between) 1 0 ∷ []) n (n - 1)) (sym end)
    (subst (λ (i : ℕ). AreKept level (Merge InOutput at (at + (between + 2)) ∷ Replace i 1 0 ∷ []) n (n - 1)) (sym mark) all)

joined_many : (done : List Item) (starter : Item) (between : List Item) → length (done ++ starter ∷ between) ≡ length done + 1 + length between
joined_many done starter between = let e = length-append done (starter ∷ between) in omega (arith, e)

then_composed : (n : ℕ) (done : List Item) (between : List Item) (a : Arrangement) → length done + 1 + length between < n → ArrangesInLine (n - 1) a → ArrangesInLine n (with_composition (length done) (length done + 1 + length between) a)
then_composed n done between a lt p = record {
  kept = λ level. kept_in_turn level (Merge InOutput (length done) (length done + 1 + length between + 1) ∷ Replace (length done + 1 + length between) 1 0 ∷ []) a.events n (n - 1) (length a.items) (composition_kept level (length done) (length between) n lt) (p.kept level);
  unturned = p.unturned;
}

composed_in_line : (c : Normalizer) (done : List Item) (starter : Item) (between xs : List Item) (n : ℕ) → n ≡ length done + 1 + length between + length xs → ArrangesInLine n (composition_from c done starter between xs)
composed_in_line c done starter between [] n e = eventless_in_line n (done ++ starter ∷ between) (let many = joined_many done starter between in omega (arith, many, e))
composed_in_line c done starter between (x ∷ xs) n e =
    by_composite (composite c starter between x)
    (composed_in_line c (done ++ starter ∷ between) x [] xs n (let many = joined_many done starter between in omega (arith, many, e)))
    (composed_in_line c done starter (between ++ x ∷ []) xs n (let many = length-append between (x ∷ []) in omega (arith, many, e)))
    (λ z. composed_in_line c done z between xs (n - 1) (omega (arith, e)))
  where
    by_class : (b : Bool) → ArrangesInLine n (composition_from c (done ++ starter ∷ between) x [] xs) → ArrangesInLine n (composition_from c done starter (between ++ x ∷ []) xs)
        → ArrangesInLine n (if b then composition_from c (done ++ starter ∷ between) x [] xs else composition_from c done starter (between ++ x ∷ []) xs)
    by_class true next more = next
    by_class false next more = more

    by_composite : (o : Option Item) → ArrangesInLine n (composition_from c (done ++ starter ∷ between) x [] xs) → ArrangesInLine n (composition_from c done starter (between ++ x ∷ []) xs) → ((z : Item) → ArrangesInLine (n - 1) (composition_from c done z between xs))
        → ArrangesInLine n (option_map_or (λ composed. with_composition (length done) (length done + 1 + length between) (composition_from c done composed between xs)) o
        (if mark_class x == 0 then composition_from c (done ++ starter ∷ between) x [] xs else composition_from c done starter (between ++ x ∷ []) xs))
    by_composite None next more joined = by_class (mark_class x == 0) next more
    by_composite (Some z) next more joined = then_composed n done between (composition_from c done z between xs) (omega (arith, e)) (joined z)

pub composed_stays : (c : Normalizer) (xs : List Item) → ArrangesInLine (length xs) (composed_list c xs)
composed_stays c [] = eventless_in_line 0 [] refl
composed_stays c (x ∷ xs) = composed_in_line c [] x [] xs (length (x ∷ xs)) (omega arith)
