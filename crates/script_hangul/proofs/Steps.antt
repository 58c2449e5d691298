-- Steps of a text of Hangul, each with the merge of its syllable.
use Rattle.std.proofs.Common.{ℕ, suc, ◌≡◌, ◌≢◌, ◌<◌, ◌≤◌, ◌+◌, Bool, true, false, if◌then◌else◌, List, [], ◌∷◌, ◌++◌, Option, Some, None, length, take, drop, map, arith, refl, sym, ap, ap₂, subst, ◌∙◌}
use Rattle.std.proofs.lemmas.Bool.{cond-true, cond-false}
use Rattle.std.proofs.lemmas.Bool.Decides.{nat_tests}
use Rattle.std.specs.Prelude.{unwrap_or}
use Rattle.std.proofs.lemmas.List.{length-append, length-map, length-take-le, map-append, take-append-drop}
use Rattle.layout_face.specs.declared.parts.FaceParts.{FaceParts}
use Rattle.buffer_glyphs.specs.declared.info.hb_glyph_info_t.{hb_glyph_info_t}
use Rattle.buffer_glyphs.specs.declared.level.BufferClusterLevel.{BufferClusterLevel}
use Rattle.buffer_glyphs.specs.declared.level.BufferClusterLevel.TheVariants.{Graphemes}
use Rattle.buffer_glyphs.specs.Items.{Item, item_of, strip}
use Rattle.buffer_glyphs.specs.Events.{Event, MergeGrapheme}
use Rattle.buffer_glyphs.specs.Glyphs.{glyphs_merged_as}
use Rattle.buffer_glyphs.specs.Levels.{grapheme_manner}
use Rattle.buffer_glyphs.specs.Replacements.{item_numbered}
use Rattle.buffer_core.specs.Readings.{View}
use Rattle.buffer_core.specs.Merging.{with_grapheme_merged}
use Rattle.buffer_core.specs.Sides.{Sides, all_glyphs, items_of, origins_by, origins_of, requests_breaks, settings_of, view_of}
use Rattle.buffer_stages.specs.Walks.{HasWalked, renumbered_first}
use Rattle.buffer_stages.proofs.Lemmas.Walked.{nothing_walked, sides_kept}
use Rattle.script_hangul.specs.declared.jamo.Letters.{Letters}
use Rattle.script_hangul.specs.declared.jamo.Letters.TheVariants.{Two, Three}
use Rattle.script_hangul.specs.declared.actions.Action.{Action}
use Rattle.script_hangul.specs.declared.actions.Action.TheVariants.{Keep, Apart, Compose, Split}
use Rattle.script_hangul.specs.Actions.{action_on}
use Rattle.script_hangul.specs.Jamo.{is_tone}
use Rattle.script_hangul.specs.Steps.{Step, keep_step, letters_from, letters_of_first, numbers_of, step_of, tone_step}
use Rattle.script_hangul.specs.Hangul.{character_at, step, step_by}
use Rattle.script_hangul.specs.Stepped.{IsStepped, IsWritten, fits_rest}
use Rattle.script_hangul.specs.Written.{MergesAnywhere, action_merge, merge_if, syllable_merge, written_count, written_merge_by}
use Rattle.script_hangul.proofs.Letters.{letters_long}
use Rattle.script_hangul.proofs.Walk.{written_after, written_alone}

-- ---- the merge

pub anywhere : (s : Sides) → requests_breaks s ≡ false → s.level ≢ Graphemes → MergesAnywhere s
anywhere s unasked level = record { unasked = unasked; level = level }

-- a grapheme of the output that was merged
grapheme_walked : (from to : ℕ) (s new : Sides) → new ≡ with_grapheme_merged from to s → items_of new ≡ items_of s → origins_of new ≡ origins_by (MergeGrapheme from to ∷ []) s → s.is_open ≡ true
    → HasWalked (strip s.behind) (strip s.ahead) (MergeGrapheme from to ∷ []) s new
grapheme_walked from to s new e items from_where opened =
    let P : Sides → Type 0 = λ n. items_of n ≡ items_of s → origins_of n ≡ origins_by (MergeGrapheme from to ∷ []) s → HasWalked (strip s.behind) (strip s.ahead) (MergeGrapheme from to ∷ []) s n in
    let gs = glyphs_merged_as (grapheme_manner s.level) from to (all_glyphs s) in
    subst P (sym e) (λ same o.
    let whole : strip gs ≡ strip s.behind ++ strip s.ahead = ap strip (sym (take-append-drop (length s.behind) gs)) ∙ same ∙ map-append item_of s.behind s.ahead in
    let parts = sides_kept (length s.behind) gs (strip s.behind) (strip s.ahead) (sym (length-map s.behind item_of)) whole in
    record { behind = parts.0; ahead = parts.1; happened = o; view = refl; settings = refl; opened = opened; unrefused = refl }) items from_where

pub none_written : (merges : Bool) (action : Action) (at : ℕ) (s : Sides) → s.is_open ≡ true → action_merge merges action at ≡ [] → HasWalked (strip s.behind) (strip s.ahead) (action_merge merges action at) s s
none_written merges action at s opened none = subst (λ es. HasWalked (strip s.behind) (strip s.ahead) es s s) (sym none) (nothing_walked s opened)

pub unmerged : (merges : Bool) (action : Action) (at : ℕ) → merges ≡ false → action_merge merges action at ≡ []
unmerged true action at e = absurd (let bad = e in cc)
unmerged false action at e = refl

pub single : (merges : Bool) (action : Action) (at : ℕ) → written_count action ≡ None → action_merge merges action at ≡ []
single false action at e = refl
single true (Keep whole) at e = refl
single true (Apart n) at e = cc
single true (Compose n u) at e = refl
single true (Split letters joins) at e = cc

several : (merges : Bool) (action : Action) (at n : ℕ) → merges ≡ true → written_count action ≡ Some n → action_merge merges action at ≡ MergeGrapheme at (at + n) ∷ []
several false action at n m e = absurd (let bad = m in cc)
several true (Keep whole) at n m e = cc
several true (Apart k) at n m e = let same : k ≡ n = cc in ap (λ j. MergeGrapheme at (at + j) ∷ []) same
several true (Compose k u) at n m e = cc
several true (Split letters joins) at n m e = let same : length (numbers_of letters) + (if joins then 1 else 0) ≡ n = cc in ap (λ j. MergeGrapheme at (at + j) ∷ []) same

pub several_written : (merges : Bool) (action : Action) (at n : ℕ) (s new : Sides) → merges ≡ true → written_count action ≡ Some n → new ≡ with_grapheme_merged at (at + n) s → items_of new ≡ items_of s → origins_of new ≡ origins_by (MergeGrapheme at (at + n) ∷ []) s → s.is_open ≡ true
    → HasWalked (strip s.behind) (strip s.ahead) (action_merge merges action at) s new
several_written merges action at n s new m count e items from opened =
    subst (λ es. HasWalked (strip s.behind) (strip s.ahead) es s new) (sym (several merges action at n m count)) (grapheme_walked at (at + n) s new e items from opened)

pub count_within : (action : Action) (at n m : ℕ) → written_count action ≡ Some n → at + unwrap_or (written_count action) 0 ≤ m → at + n ≤ m
count_within action at n m e le = let same : unwrap_or (written_count action) 0 ≡ n = ap (λ o. unwrap_or o 0) e in omega (arith, same, le)

-- ---- a step with it

pub merged_action : (merges : Bool) (action : Action) (at n : ℕ) (a b c : Sides) → at ≡ length a.behind → IsStepped (step_of action (strip a.behind) (strip a.ahead)) n a b → HasWalked (strip b.behind) (strip b.ahead) (action_merge merges action at) b c
    → IsWritten (step_of action (strip a.behind) (strip a.ahead)) (action_merge merges action (length a.behind)) n a c
merged_action merges action at n a b c e d w =
    written_after (step_of action (strip a.behind) (strip a.ahead)) (action_merge merges action (length a.behind)) n a b c d (subst (λ k. HasWalked (strip b.behind) (strip b.ahead) (action_merge merges action k) b c) e w)

-- as many jamo as an action writes are in the output
written_long : (action : Action) (out xs : List Item) → fits_rest action (length xs) ≡ true → length out + unwrap_or (written_count action) 0 ≤ length (step_of action out xs).out
written_long (Keep whole) out xs f = let n = length-append out (take 1 xs) in omega (arith, n)
written_long (Compose k u) out xs f = let n = length-append out (renumbered_first u xs) in omega (arith, n)
written_long (Apart k) out xs f =
    let fits : k ≤ length xs = grind (arith, nat_tests, f) in
    let n = length-append out (letters_from 1 (take k xs)) in
    let m = letters_long 1 (take k xs) in
    let t = length-take-le k xs fits in
    omega (arith, n, m, t)
written_long (Split letters joins) out [] f = absurd (no_items letters joins f)
  where
    no_items : (ls : Letters) (j : Bool) → fits_rest (Split ls j) 0 ≡ true → ⊥
    no_items ls true g = let bad = g in cc
    no_items ls false g = let bad = g in cc
written_long (Split letters joins) out (x ∷ xs) f =
    let new : List Item = letters_of_first letters (x ∷ xs) ++ take (if joins then 1 else 0) xs in
    let n = length-append out (letters_from 1 new) in
    let m = letters_long 1 new in
    let s = length-append (letters_of_first letters (x ∷ xs)) (take (if joins then 1 else 0) xs) in
    let k = length-map (numbers_of letters) (item_numbered x) in
    let j = joined_many joins xs f in
    omega (arith, n, m, s, k, j)
  where
    joined_many : (b : Bool) (ys : List Item) → fits_rest (Split letters b) (suc (length ys)) ≡ true → length (take (if b then 1 else 0) ys) ≡ (if b then 1 else 0)
    joined_many false ys g = refl
    joined_many true [] g = absurd (let bad = g in cc)
    joined_many true (y ∷ ys) g = refl

pub many_written : (action : Action) (at n : ℕ) (a b : Sides) → fits_rest action (length a.ahead) ≡ true → at ≡ length a.behind → IsStepped (step_of action (strip a.behind) (strip a.ahead)) n a b → at + unwrap_or (written_count action) 0 ≤ length b.behind
many_written action at n a b f e d =
    let fits : fits_rest action (length (strip a.ahead)) ≡ true = ap (fits_rest action) (length-map a.ahead item_of) ∙ f in
    let long = written_long action (strip a.behind) (strip a.ahead) fits in
    let old = length-map a.behind item_of in
    let new = length-map b.behind item_of in
    let out = ap (λ (xs : List Item). length xs) d.walked.behind in
    omega (arith, e, long, old, new, out)

-- ---- the next step

pub tone_written : (merges : Bool) (font : FaceParts) (circles : Bool) (start n u : ℕ) (a b : Sides) → character_at 0 (strip a.ahead) ≡ Some u → is_tone u ≡ true → IsStepped (tone_step font circles start u (strip a.behind) (strip a.ahead)) n a b
    → IsWritten (step font circles start (strip a.behind) (strip a.ahead)) (merge_if merges font (length (strip a.behind)) (strip a.ahead)) n a b
tone_written merges font circles start n u a b first tone d =
    let bs = strip a.behind in
    let xs = strip a.ahead in
    let same : step font circles start bs xs ≡ tone_step font circles start u bs xs = ap (λ o. step_by font circles start o bs xs) first ∙ cond-true _ _ _ tone in
    written_alone (step font circles start bs xs) (merge_if merges font (length bs) xs) n a b (none merges) (subst (λ s. IsStepped s n a b) (sym same) d)
  where
    none : (m : Bool) → merge_if m font (length (strip a.behind)) (strip a.ahead) ≡ []
    none true = ap (λ o. written_merge_by font o (length (strip a.behind)) (strip a.ahead)) first ∙ cond-true _ _ _ tone
    none false = refl

pub other_written : (merges : Bool) (font : FaceParts) (circles : Bool) (start n u : ℕ) (a b : Sides) → character_at 0 (strip a.ahead) ≡ Some u → is_tone u ≡ false
    → IsWritten (step_of (action_on font u (character_at 1 (strip a.ahead)) (character_at 2 (strip a.ahead))) (strip a.behind) (strip a.ahead)) (action_merge merges (action_on font u (character_at 1 (strip a.ahead)) (character_at 2 (strip a.ahead))) (length a.behind)) n a b
    → IsWritten (step font circles start (strip a.behind) (strip a.ahead)) (merge_if merges font (length (strip a.behind)) (strip a.ahead)) n a b
other_written merges font circles start n u a b first other d =
    let bs = strip a.behind in
    let xs = strip a.ahead in
    let act = action_on font u (character_at 1 xs) (character_at 2 xs) in
    let same : step font circles start bs xs ≡ step_of act bs xs = ap (λ o. step_by font circles start o bs xs) first ∙ cond-false _ _ _ other in
    subst (λ s. IsWritten s (merge_if merges font (length bs) xs) n a b) (sym same) (subst (λ es. IsWritten (step_of act bs xs) es n a b) (merge_is merges) d)
  where
    merge_is : (m : Bool) → action_merge m (action_on font u (character_at 1 (strip a.ahead)) (character_at 2 (strip a.ahead))) (length a.behind) ≡ merge_if m font (length (strip a.behind)) (strip a.ahead)
    merge_is false = refl
    merge_is true =
        ap (syllable_merge (action_on font u (character_at 1 (strip a.ahead)) (character_at 2 (strip a.ahead)))) (sym (length-map a.behind item_of))
        ∙ sym (ap (λ o. written_merge_by font o (length (strip a.behind)) (strip a.ahead)) first ∙ cond-false _ _ _ other)

pub number_written : (merges : Bool) (font : FaceParts) (circles : Bool) (start n : ℕ) (a b : Sides) → character_at 0 (strip a.ahead) ≡ None → IsStepped (keep_step false (strip a.behind) (strip a.ahead)) n a b
    → IsWritten (step font circles start (strip a.behind) (strip a.ahead)) (merge_if merges font (length (strip a.behind)) (strip a.ahead)) n a b
number_written merges font circles start n a b first d =
    let bs = strip a.behind in
    let xs = strip a.ahead in
    let same : step font circles start bs xs ≡ keep_step false bs xs = ap (λ o. step_by font circles start o bs xs) first in
    written_alone (step font circles start bs xs) (merge_if merges font (length bs) xs) n a b (none merges) (subst (λ s. IsStepped s n a b) (sym same) d)
  where
    none : (m : Bool) → merge_if m font (length (strip a.behind)) (strip a.ahead) ≡ []
    none true = ap (λ o. written_merge_by font o (length (strip a.behind)) (strip a.ahead)) first
    none false = refl
