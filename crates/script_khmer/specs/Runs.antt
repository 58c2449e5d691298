-- Runs of a Khmer syllable: items that are handled at once, where those that move do so one after another, as the walk
-- moves them.
use Rattle.std.specs.Prelude.{ℕ, ◌≡◌, ◌+◌, ◌-◌, ◌==◌, ◌&&◌, not, Bool, true, false, nat_le, if◌then◌else◌, List, [], ◌∷◌, length, slice_get, slice_range, Some}
use Rattle.script_categories.specs.declared.ot_category_t.TheConstants as category
use Rattle.buffer_glyphs.specs.Items.{Item}
use Rattle.buffer_core.specs.Sides.{Sides, all_glyphs, items_of}
use Rattle.buffer_stages.specs.Ready.{IsReady}
use Rattle.buffer_glyphs.specs.Rewriting.{Arrangement, eventless_arrangement, and_arranged}
use Rattle.buffer_stages.specs.Rewriting.{within}
use Rattle.buffer_stages.specs.SyllableBuffers.{IsRewritten}
use Rattle.buffer_stages.specs.Parts.{fronts_moved, item_with_features, items_with_features}
use Rattle.script_khmer.specs.declared.khmer.KhmerMasks.{KhmerMasks}
use Rattle.script_khmer.specs.Khmer.{khmer_walk}

-- a coeng and the Ro after it, where coengs make forms
abbrev pub together : Bool → Item → Item → Bool
together forms x y = forms && (x.category == category.OT_H && y.category == category.OT_Ra)

-- an item is a left matra
abbrev pub is_vowel : Item → Bool
is_vowel x = x.category == category.OT_VPre

-- the first of some items ends a run: a coeng of no form, while few coengs were counted
abbrev pub ends_run : Bool → Bool → List Item → Bool
ends_run forms few [] = false
ends_run forms few (x ∷ []) = x.category == category.OT_H && few
ends_run forms few (x ∷ y ∷ zs) = (x.category == category.OT_H && few) && not (together forms x y)

-- no item ends the run
abbrev pub IsRun : Bool → Bool → List Item → Type 0
IsRun forms few [] = Unit {0}
IsRun forms few (x ∷ xs) = (ends_run forms few (x ∷ xs) ≡ false) × IsRun forms few xs

-- the number of items before the first that ends the run
abbrev pub run_length : Bool → Bool → List Item → ℕ
run_length forms few [] = 0
run_length forms few (x ∷ xs) = if ends_run forms few (x ∷ xs) then 0 else 1 + run_length forms few xs

-- an item is neither a coeng nor a left matra: nothing changes where the walk meets it again
abbrev pub IsPlain : Item → Type 0
IsPlain t = ((t.category == category.OT_H) ≡ false) × ((t.category == category.OT_VPre) ≡ false)

-- a form is at the index, few coengs were counted, and the item before it is plain
pub record OpensForms (count index : ℕ) (xs : List Item) : Type 0 where
  pub few : nat_le count 2 ≡ true
  pub before : Item
  pub coeng : Item
  pub ra : Item
  pub before_there : slice_get xs (index - 1) ≡ Some before
  pub coeng_there : slice_get xs index ≡ Some coeng
  pub ra_there : slice_get xs (index + 1) ≡ Some ra
  pub plain : IsPlain before
  pub form : together true coeng ra ≡ true

-- a list with a change made to both items of each pair
abbrev pub forms_masked : {X : Type 0} → (X → X → Bool) → (X → X) → List X → List X
forms_masked pair f [] = []
forms_masked pair f (x ∷ []) = x ∷ []
forms_masked pair f (x ∷ y ∷ zs) = if pair x y then f x ∷ f y ∷ forms_masked pair f zs else x ∷ forms_masked pair f (y ∷ zs)

-- the number of items that move to the start with the first of them
abbrev pub front_count : Bool → List Item → ℕ
front_count forms [] = 0
front_count forms (x ∷ []) = if is_vowel x then 1 else 0
front_count forms (x ∷ y ∷ zs) = if together forms x y then 2 else if is_vowel x then 1 else 0

-- the syllable after a run between two indices that begins with a form: the items have their masks, and forms and left
-- matras are at the start
abbrev pub forms_moved : KhmerMasks → ℕ → ℕ → List Item → Arrangement
forms_moved m index to xs =
    and_arranged (and_arranged (within (index + 2) (length xs) (items_with_features m.cfar) xs) (within index to (λ ys. eventless_arrangement (forms_masked (together true) (item_with_features m.pref) ys))))
    (within 0 to (fronts_moved (together true) is_vowel index))

-- the syllable was walked between two indices, and that many coengs were counted: whatever the rest of the walk yields
-- then is what the walk from the first index yields
pub record IsWalked (m : KhmerMasks) (start end index count to met : ℕ) (old now : Sides) : Type 0 where
  pub ready : IsReady now
  pub size : length (all_glyphs now) ≡ length (all_glyphs old)
  pub does : (new : Sides) → IsRewritten (khmer_walk m (end - start - to) to met (slice_range (items_of now) start end)) start end now new
      → IsRewritten (khmer_walk m (end - start - index) index count (slice_range (items_of old) start end)) start end old new
