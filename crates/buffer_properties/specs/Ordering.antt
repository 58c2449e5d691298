-- The second round of normalisation: combining marks are sorted by their classes (UAX 15, canonical ordering, D109),
-- and grapheme joiners are shown where they separate nothing.
use Rattle.std.specs.Prelude.{ℕ, ◌+◌, ◌==◌, ◌&&◌, ◌||◌, Bool, nat_le, if◌then◌else◌, List, [], ◌∷◌, ◌++◌, length, map}
use Rattle.buffer_glyphs.specs.Items.{Item}
use Rattle.buffer_glyphs.specs.Events.{Sort}
use Rattle.buffer_unicode_tables.specs.ClassOrder.{run_order}
use Rattle.buffer_glyphs.specs.Rewriting.{Arrangement, eventless_arrangement, in_turn}
use Rattle.buffer_properties.specs.Characters.{mark_class, visible_item}
use Rattle.buffer_properties.specs.declared.normal_mode.TheConstants.{MAX_COMBINING_MARKS}

-- an index of a run, with the class of its item
pub record IndexedClass : Type 0 where
  pub class : ℕ
  pub index : ℕ

-- the indices of some classes, from an index on
abbrev pub indexed_classes_from : ℕ → List ℕ → List IndexedClass
indexed_classes_from i [] = []
indexed_classes_from i (k ∷ ks) = record { class = k; index = i } ∷ indexed_classes_from (i + 1) ks

-- the order of the indices of a run sorted by classes
abbrev pub sorted_order : List ℕ → List ℕ
sorted_order ks = map (λ (e : IndexedClass). e.index) (run_order (λ (e : IndexedClass). e.class) (indexed_classes_from 0 ks))

-- a run sorted by its classes, and then as the shaper reorders it
abbrev pub sorted_run : (List Item → Arrangement) → List Item → Arrangement
sorted_run reorders run =
    let sorted = run_order mark_class run in
    record { items = (reorders sorted).items; events = Sort 0 (sorted_order (map mark_class run)) ∷ (reorders sorted).events }

-- a run of at most 32 items sorted so; a longer one stays
unfoldable pub arranged_run : (List Item → Arrangement) → List Item → Arrangement
arranged_run reorders [] = eventless_arrangement []
arranged_run reorders (x ∷ xs) = if nat_le (length (x ∷ xs)) MAX_COMBINING_MARKS then sorted_run reorders (x ∷ xs) else eventless_arrangement (x ∷ xs)

-- the maximal runs of nonzero class, each sorted, and the starters between them; `run` is the last one read
abbrev pub arranged_runs : (List Item → Arrangement) → List Item → List Item → List Arrangement
arranged_runs reorders run [] = arranged_run reorders run ∷ []
arranged_runs reorders run (x ∷ xs) =
    if mark_class x == 0 then arranged_run reorders run ∷ eventless_arrangement (x ∷ []) ∷ arranged_runs reorders [] xs
    else arranged_runs reorders (run ++ x ∷ []) xs

-- a list with each run of combining marks sorted
abbrev pub ordered_list : (List Item → Arrangement) → List Item → Arrangement
ordered_list reorders xs = in_turn (arranged_runs reorders [] xs)

-- whether a grapheme joiner separates nothing: the class after it is 0, or not less than the one before it
abbrev pub separates_nothing : Item → Item → Bool
separates_nothing before after = mark_class after == 0 || nat_le (mark_class before) (mark_class after)

-- a grapheme joiner, shown where it separates nothing
abbrev pub joiner_between : Item → Item → Item → Item
joiner_between before x after = if x.number == 0x034F && separates_nothing before after then visible_item x else x

-- each later joiner shown where it separates nothing
abbrev pub with_joiners_shown : Item → List Item → List Item
with_joiners_shown before [] = []
with_joiners_shown before (x ∷ []) = x ∷ []
with_joiners_shown before (x ∷ y ∷ ys) = joiner_between before x y ∷ with_joiners_shown x (y ∷ ys)

-- each grapheme joiner between two items shown where it separates nothing
abbrev pub joiners_shown : List Item → List Item
joiners_shown [] = []
joiners_shown (x ∷ xs) = x ∷ with_joiners_shown x xs
