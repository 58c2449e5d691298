-- A syllable once its forms are made: left matras, the reph and a form before the base move to the position where
-- they are read (OpenType specification, script development for Indic scripts, final reordering; HarfBuzz:
-- final_reordering_syllable_indic).
use Rattle.std.specs.Prelude.{ℕ, ◌+◌, ◌-◌, ◌==◌, ◌&&◌, ◌||◌, not, Bool, false, min, nat_le, nat_lt, bit_and, if◌then◌else◌, List, [], ◌∷◌, ◌++◌, filter, length, drop, take, slice_get, unwrap_or, Option, None, Some}
use Rattle.std.specs.List.{position_or_len, range_with_len}
use Rattle.std.specs.Option.{option_map, option_map_or}
use Rattle.script_categories.specs.declared.ot_category_t.TheConstants as category
use Rattle.script_categories.specs.declared.ot_position_t.TheConstants as position
use Rattle.buffer_glyphs.specs.Items.{Item}
use Rattle.buffer_glyphs.specs.Levels.{InList}
use Rattle.buffer_glyphs.specs.Events.{Event, Merge, StrictBreak}
use Rattle.buffer_glyphs.specs.LigatureWords.{is_ligated}
use Rattle.buffer_stages.specs.Masks.{shares_mask}
use Rattle.buffer_glyphs.specs.Rewriting.{Arrangement, eventless_arrangement, and_arranged}
use Rattle.buffer_stages.specs.Rewriting.{within}
use Rattle.buffer_stages.specs.Ordering.{merged_in_order}
use Rattle.buffer_stages.specs.Parts.{first_to_back, item_with_features}
use Rattle.buffer_stages.specs.Bytes.{kind_of_byte}
use Rattle.script_indic_reordering.specs.Base.{joiners}
use Rattle.script_indic_reordering.specs.Glyphs.{is_free_halant, is_left, is_nukta_or_halant, stands_at}
use Rattle.script_indic_reordering.specs.Indices.{begins_with, first_at, last_at}

-- ---- the base, as the forms left it

-- an item has the position of the base or a later one
abbrev pub is_from_base : Item → Bool
is_from_base x = nat_le position.POS_BASE_C x.auxiliary

-- the index of the base, by the first item that has the position of the base or a later one: of that item, or of the
-- item before it where its position is later, since a ligature then took the base
abbrev pub base_or_before : ℕ → Option Item → ℕ
base_or_before i None = i
base_or_before i (Some x) = if stands_at position.POS_BASE_C x then i else i - 1

-- the index of the nearest item at or before an index that is no nukta and no halant, 0 where there is none
abbrev pub back_over : ℕ → List Item → ℕ
back_over i xs = unwrap_or (last_at (begins_with (λ x. not (is_nukta_or_halant x))) 0 (take (i + 1) xs)) 0

-- the index of the base once forms are made, the length of the syllable where there is none
abbrev pub formed_base : List Item → ℕ
formed_base xs =
    let i : ℕ = position_or_len is_from_base xs in
    if nat_lt i (length xs) then back_over (base_or_before i (slice_get xs i)) xs else length xs

-- ---- halants before the base

-- an item is a halant that left matras move after: it is no part of a ligature, and is attached to no left matra
abbrev pub stops_left : Item → Bool
stops_left x = is_free_halant x && not (is_left x)

-- the index after a halant, and after the joiner that follows it before the base
abbrev pub after_halant : ℕ → List Item → ℕ → ℕ
after_halant base xs h = h + 1 + joiners (take 1 (drop (h + 1) (take base xs)))

-- the index of the last halant before the base that left matras move after
abbrev pub last_halant : ℕ → List Item → Option ℕ
last_halant base xs = last_at (begins_with stops_left) 0 (take base xs)

-- ---- left matras

-- the item at an index is a left matra
abbrev pub is_left_at : List Item → ℕ → Bool
is_left_at xs i = option_map_or is_left (slice_get xs i) false

-- a list whose first n items without the left ones come first, then the rest, then the left ones; all merge
abbrev pub lefts_last : ℕ → List Item → Arrangement
lefts_last n xs = merged_in_order
    (filter (λ i. not (is_left_at xs i)) (range_with_len 0 n) ++ range_with_len n (length xs - n) ++ filter (is_left_at xs) (range_with_len 0 n))
    (filter (λ x. not (is_left x)) (take n xs) ++ drop n xs ++ filter is_left (take n xs))

-- the index of the first left matra before an index
abbrev pub left_before : ℕ → List Item → Option ℕ
left_before n xs = first_at (begins_with is_left) 0 (take n xs)

-- a syllable in which the left matras from the first one up to a halant follow the halant and its joiner
abbrev pub lefts_moved_from : ℕ → ℕ → List Item → Option ℕ → Arrangement
lefts_moved_from base h xs None = eventless_arrangement xs
lefts_moved_from base h xs (Some first) = within first (after_halant base xs h) (lefts_last (h - first)) xs

-- a syllable in which left matras follow the last halant before the base, where there is such a halant
abbrev pub lefts_moved_by : ℕ → List Item → Option ℕ → Arrangement
lefts_moved_by base xs None = eventless_arrangement xs
lefts_moved_by base xs (Some h) = lefts_moved_from base h xs (left_before h xs)

-- a syllable in which all from the first left matra up to the base merge
abbrev pub merged_to_base : ℕ → List Item → Option ℕ → Arrangement
merged_to_base base xs None = eventless_arrangement xs
merged_to_base base xs (Some first) = record { items = xs; events = Merge InList first (min (length xs) (base + 1)) ∷ [] }

-- a syllable in which all from the first left matra before the base up to the base merge
abbrev pub lefts_merged : ℕ → List Item → Arrangement
lefts_merged base xs = merged_to_base base xs (left_before base xs)

-- a syllable in which left matras follow the last halant before the base, and merge with all up to the base
abbrev pub lefts_moved : ℕ → List Item → Arrangement
lefts_moved base xs = and_arranged (lefts_moved_by base xs (last_halant base xs)) (lefts_merged base)

-- ---- the reph

-- an item is a ligature, or the character Repha
abbrev pub has_form : Item → Bool
has_form x = is_ligated x || x.category == category.OT_Repha

-- an item is a reph that the font has formed
abbrev pub is_reph : Item → Bool
is_reph x = stands_at position.POS_RA_TO_BECOME_REPH x && has_form x

-- a syllable of two items or more begins with a reph that the font has formed
abbrev pub begins_with_reph : List Item → Bool
begins_with_reph (x ∷ y ∷ ys) = is_reph x
begins_with_reph xs = false

-- an item has the position after the base, or an earlier one
abbrev pub stands_up_to_main : Item → Bool
stands_up_to_main x = nat_le x.auxiliary position.POS_AFTER_MAIN

-- an item has the position of a form after the base, the position after such a form, or that of syllable modifiers
abbrev pub stands_from_post : Item → Bool
stands_from_post x = stands_at position.POS_POST_C x || stands_at position.POS_AFTER_POST x || stands_at position.POS_SMVD x

-- an item has the position of syllable modifiers
abbrev pub is_sign : Item → Bool
is_sign x = stands_at position.POS_SMVD x

-- the number of items up to the syllable modifiers that end a syllable, 1 at least
abbrev pub up_to_signs : List Item → ℕ
up_to_signs xs = 1 + unwrap_or (last_at (begins_with (λ x. not (is_sign x))) 1 (drop 1 xs)) 0

-- the number of items up to where the reph of a script moves, in a syllable with a base: after the base and what has
-- its position, after the forms below the base, or before the final syllable modifiers
abbrev pub passed_from_base : ℕ → ℕ → List Item → ℕ
passed_from_base reph_pos base xs =
    if reph_pos == position.POS_AFTER_MAIN then base + 1 + position_or_len (λ x. not (stands_up_to_main x)) (drop (base + 1) xs)
    else if reph_pos == position.POS_AFTER_SUB then base + 1 + position_or_len stands_from_post (drop (base + 1) xs)
    else up_to_signs xs

-- the number of items up to where the reph of a script moves, where no halant decides; before the final syllable
-- modifiers in a syllable without a base
abbrev pub passed_by_position : ℕ → ℕ → List Item → ℕ
passed_by_position reph_pos base xs = if nat_lt base (length xs) then passed_from_base reph_pos base xs else up_to_signs xs

-- the number of items up to where the reph moves: after a halant before the base and its joiner, else where the
-- script puts it
abbrev pub passed_by_halant : ℕ → ℕ → List Item → Option ℕ → ℕ
passed_by_halant reph_pos base xs None = passed_by_position reph_pos base xs
passed_by_halant reph_pos base xs (Some h) = after_halant base xs h

-- the index of the first halant before the base, after the first item
abbrev pub first_halant : ℕ → List Item → Option ℕ
first_halant base xs = first_at (begins_with (λ x. is_free_halant x)) 1 (drop 1 (take base xs))

-- the number of items up to where the reph moves, with the reph counted; halants decide nothing in scripts whose reph
-- follows all forms
abbrev pub passed_by_reph : ℕ → ℕ → List Item → ℕ
passed_by_reph reph_pos base xs = if reph_pos == position.POS_AFTER_POST then up_to_signs xs else passed_by_halant reph_pos base xs (first_halant base xs)

-- a syllable with its reph moved, and the index of its base in the new order
pub record RephMoved : Type 0 where
  pub rewritten : Arrangement
  pub base : ℕ

-- the index of the base in the new order, where the reph moved after a number of items
abbrev pub base_passed : ℕ → ℕ → ℕ
base_passed passed base = if nat_lt base passed then base - 1 else base

-- a syllable in which a formed reph is at the position of its script, and all that it passed merged
abbrev pub reph_moved : ℕ → ℕ → List Item → RephMoved
reph_moved reph_pos base xs =
    if begins_with_reph xs
    then record { rewritten = within 0 (passed_by_reph reph_pos base xs) (first_to_back 1) xs; base = base_passed (passed_by_reph reph_pos base xs) base }
    else record { rewritten = eventless_arrangement xs; base = base }

-- ---- the form of the feature pref

-- an item is a ligature of a halant and a consonant, made with the feature pref
abbrev pub is_pref : ℕ → Item → Bool
is_pref bits x = shares_mask bits x.mask && is_ligated x

-- the index of the first form after the base that the feature pref made
abbrev pub pref_form : ℕ → ℕ → List Item → Option ℕ
pref_form bits base xs = first_at (begins_with (is_pref bits)) (base + 1) (drop (base + 1) xs)

-- the index to which a form before the base moves: after the last halant before the base and its joiner, else before
-- the base
abbrev pub pref_target : ℕ → List Item → Option ℕ → ℕ
pref_target base xs None = base
pref_target base xs (Some h) = after_halant base xs h

-- a syllable in which the form at an index moves before the base, where there is such a form
abbrev pub pref_moved_from : ℕ → List Item → Option ℕ → Arrangement
pref_moved_from base xs None = eventless_arrangement xs
pref_moved_from base xs (Some i) = let to : ℕ = pref_target base xs (last_halant base xs) in within to (i + 1) (first_to_back (i - to)) xs

-- a syllable in which the first form of the feature pref moves before the base
abbrev pub pref_moved : ℕ → ℕ → List Item → Arrangement
pref_moved bits base xs = pref_moved_from base xs (pref_form bits base xs)

-- ---- a syllable

-- a syllable whose reph moved, in which then the first form of the feature pref moves before the base
abbrev pub then_pref : ℕ → RephMoved → Arrangement
then_pref bits r = and_arranged r.rewritten (pref_moved bits r.base)

-- a syllable in which left matras, then the reph, then the form of the feature pref have moved
abbrev pub final_reordered : ℕ → ℕ → List Item → Arrangement
final_reordered reph_pos pref xs = and_arranged (lefts_moved (formed_base xs) xs) (λ ys. then_pref pref (reph_moved reph_pos (formed_base xs) ys))

-- ---- words

-- the number of a general category is that of a format character, unassigned or private character, letter or
-- nonspacing mark: one from Cf to Mn
abbrev pub is_word_category : ℕ → Bool
is_word_category n = nat_le 1 n && nat_le n 12

-- a word continues after an item: the general category of the item is one of words
abbrev pub continues_word : Option Item → Bool
continues_word None = false
continues_word (Some x) = is_word_category (bit_and x.unicode_props 0x1F)

-- an item is of the syllable with a byte
abbrev pub is_of_syllable : ℕ → Option Item → Bool
is_of_syllable byte None = false
is_of_syllable byte (Some x) = x.syllable == byte

-- an item is a left matra that begins a reordered syllable and a word, by the item before it
abbrev pub begins_word : (ℕ → Bool) → Option Item → Item → Bool
begins_word is_reordered before x = not (is_of_syllable x.syllable before) && is_reordered (kind_of_byte x.syllable) && is_left x && not (continues_word before)

-- an item is a left matra that begins a reordered syllable, and no word for the item before it alone
abbrev pub is_left_in_word : (ℕ → Bool) → Option Item → Item → Bool
is_left_in_word is_reordered before x = not (is_of_syllable x.syllable before) && is_reordered (kind_of_byte x.syllable) && is_left x && continues_word before

-- the events of such matras from an index on: each depends on the item before it (HarfBuzz: unsafe_to_break in
-- final_reordering_syllable_indic)
abbrev pub word_events : (ℕ → Bool) → Option Item → ℕ → List Item → List Event
word_events is_reordered before at [] = []
word_events is_reordered before at (x ∷ xs) = (if is_left_in_word is_reordered before x then StrictBreak (at - 1) (at + 1) ∷ [] else []) ++ word_events is_reordered (Some x) (at + 1) xs

-- a list in which the left matras that begin words have the features of a mask
abbrev pub words_begun : (ℕ → Bool) → ℕ → Option Item → List Item → List Item
words_begun is_reordered bits before [] = []
words_begun is_reordered bits before (x ∷ xs) = (if begins_word is_reordered before x then item_with_features bits x else x) ∷ words_begun is_reordered bits (Some x) xs
