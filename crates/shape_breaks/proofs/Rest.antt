-- A cut of what is left of a text is tested by its piece and the text's last marks.
use Rattle.std.proofs.Common.{ℕ, zero, suc, ◌≡◌, ◌≤◌, ◌+◌, ◌-◌, ◌&&◌, ◌||◌, not, nat_le, nat_lt, if◌then◌else◌, Bool, true, false, List, [], ◌∷◌, take, drop, Option, None, Some, arith, refl, sym, ap, ◌∙◌}
use Rattle.std.specs.Prelude.{is_none, option_map, slice_range}
use Rattle.std.specs.List.{list_any}
use Rattle.std.specs.Option.{option_map_or, option_or}
use Rattle.std.proofs.lemmas.Bool.Decides.{nat_tests}
use Rattle.std.proofs.lemmas.Grind.{common_steps}
use Rattle.buffer_common.specs.Direction.{is_backward, is_vertical}
use Rattle.buffer_common.specs.declared.direction.Direction.{Direction}
use Rattle.buffer_common.specs.declared.script.Script.{Script}
use Rattle.buffer_unicode_tables.specs.Tables.{Tables}
use Rattle.script_categories.specs.declared.shaper.hb_ot_script_shaper_t.TheVariants.{ARABIC_SHAPER, HANGUL_SHAPER, HEBREW_SHAPER, INDIC_SHAPER, KHMER_SHAPER, MYANMAR_SHAPER, MYANMAR_ZAWGYI_SHAPER, THAI_SHAPER, UNIVERSAL_SHAPER}
use Rattle.script_dispatch.specs.declared.any_shaper.hb_ot_any_shaper_t.{hb_ot_any_shaper_t}
use Rattle.script_dispatch.specs.declared.any_shaper.hb_ot_any_shaper_t.TheVariants as any
use Rattle.script_joining.specs.Joining.{is_mongolian}
use Rattle.shape_breaks.specs.declared.premises.BreakPremises.{BreakPremises}
use Rattle.shape_breaks.specs.declared.texts.Occurrences.{Occurrences}
use Rattle.shape_breaks.specs.declared.texts.Property.{Property}
use Rattle.shape_breaks.specs.declared.texts.Property.TheVariants.{Mark, PlainMark, SaraAm, Letter}
use Rattle.shape_breaks.specs.Cuts.{follows_joiner, have_alike, is_inside, is_marked_after, is_marked_before, is_plain_beginning, may_be_broken, may_be_cut_by, passes_at}
use Rattle.shape_breaks.specs.Texts.{has_property, index_from, is_above, is_after, is_before, is_from, is_nowhere, last_index, occurrences, piece_marks, piece_occurrences, text_marks}
use Rattle.shape_breaks.proofs.Indices.{before_is}

-- ---- indices

chosen_same : (a b : Bool) (m n : ℕ) → (a ≡ true → b ≡ true) → (b ≡ true → a ≡ true) → (b ≡ true → m ≡ n) → (if a then Some m else None) ≡ (if b then Some n else None)
chosen_same true true m n f g h = ap Some (h refl)
chosen_same false false m n f g h = refl
chosen_same true false m n f g h = absurd (let no : false ≡ true = f refl in cc)
chosen_same false true m n f g h = absurd (let no : false ≡ true = g refl in cc)

from_start : (o : Option ℕ) → index_from 0 o ≡ o
from_start None = refl
from_start (Some n) = chosen_same (nat_le 0 n) true (n - 0) n (λ e. refl) (λ e. grind (arith, nat_tests)) (λ e. omega arith)

none_below : (k : ℕ) → (if nat_le (suc k) 0 then Some (0 - suc k) else None) ≡ None
none_below k = ap (λ b. if b then Some (0 - suc k) else None) (let e : nat_le (suc k) 0 ≡ false = grind (arith, nat_tests, common_steps) in e)

from_further : (k : ℕ) (o : Option ℕ) (b : Bool) → index_from (suc k) (option_or (option_map (λ n. n + 1) o) (if b then Some 0 else None)) ≡ index_from k o
from_further k None true = none_below k
from_further k None false = refl
from_further k (Some n) b = chosen_same (nat_le (suc k) (n + 1)) (nat_le k n) (n + 1 - suc k) (n - k) (λ e. grind (arith, nat_tests, e)) (λ e. grind (arith, nat_tests, e)) (λ e. omega arith)

last_from : (p : ℕ → Bool) (from : ℕ) (us : List ℕ) → index_from from (last_index p us) ≡ last_index p (drop from us)
last_from p zero us = from_start (last_index p us)
last_from p (suc k) [] = refl
last_from p (suc k) (u ∷ us) = from_further k (last_index p us) (p u) ∙ last_from p k us

take_twice : (n : ℕ) (us : List ℕ) → take n (take n us) ≡ take n us
take_twice zero us = refl
take_twice (suc n) [] = refl
take_twice (suc n) (u ∷ us) = ap (λ vs. u ∷ vs) (take_twice n us)

-- ---- tests

module _ (t : Tables) (us : List ℕ) (from at : ℕ) where
  abbrev rest : List ℕ
  rest = drop from us

  abbrev n : ℕ
  n = at - from

  abbrev piece : Property → Occurrences
  piece q = piece_occurrences from (occurrences (has_property t q) us) (occurrences (has_property t q) (slice_range us from at))

  abbrev own : Property → Occurrences
  own q = occurrences (has_property t q) rest

  before_same : (q : Property) → is_before (piece q) n ≡ is_before (own q) n
  before_same q =
      let p = has_property t q in
      sym (before_is p (take n rest) n) ∙ ap (λ vs. list_any p (drop 1 vs)) (take_twice n rest) ∙ before_is p rest n

  last_same : (q : Property) → index_from from (last_index (has_property t q) us) ≡ last_index (has_property t q) rest
  last_same q = last_from (has_property t q) from us

  after_same : (q : Property) → is_after (piece q) n ≡ is_after (own q) n
  after_same q = ap (λ o. option_map_or (λ i. nat_lt n i) o false) (last_same q)

  from_same : (q : Property) → is_from (piece q) n ≡ is_from (own q) n
  from_same q = ap (λ o. option_map_or (λ i. nat_le n i) o false) (last_same q)

  nowhere_same : (q : Property) → is_nowhere (piece q) ≡ is_nowhere (own q)
  nowhere_same q = ap (λ (o : Option ℕ). is_none o) (last_same q)

  alike_same : have_alike (piece Mark) n ≡ have_alike (own Mark) n
  alike_same =
      ap (λ b. b || (is_before (piece Mark) n && is_after (piece Mark) n)) (nowhere_same Mark) ∙ ap (λ b. is_nowhere (own Mark) || (b && is_after (piece Mark) n)) (before_same Mark)
      ∙ ap (λ b. is_nowhere (own Mark) || (is_before (own Mark) n && b)) (after_same Mark)

  marked_before_same : (is_before (piece PlainMark) n || (not (passes_at is_above rest 0) && is_before (piece SaraAm) n)) ≡ (is_before (own PlainMark) n || (not (passes_at is_above rest 0) && is_before (own SaraAm) n))
  marked_before_same =
      ap (λ b. b || (not (passes_at is_above rest 0) && is_before (piece SaraAm) n)) (before_same PlainMark) ∙ ap (λ b. is_before (own PlainMark) n || (not (passes_at is_above rest 0) && b)) (before_same SaraAm)

  marked_after_same : (is_after (piece PlainMark) n || (not (passes_at is_above rest n) && is_after (piece SaraAm) n)) ≡ (is_after (own PlainMark) n || (not (passes_at is_above rest n) && is_after (own SaraAm) n))
  marked_after_same =
      ap (λ b. b || (not (passes_at is_above rest n) && is_after (piece SaraAm) n)) (after_same PlainMark) ∙ ap (λ b. is_after (own PlainMark) n || (not (passes_at is_above rest n) && b)) (after_same SaraAm)

  marks_same : (have_alike (piece Mark) n && not (follows_joiner rest n)) ≡ (have_alike (own Mark) n && not (follows_joiner rest n))
  marks_same = ap (λ b. b && not (follows_joiner rest n)) alike_same

  cut_same : (shaper : hb_ot_any_shaper_t) (b : BreakPremises) (d : Direction) (s : Option Script)
      → may_be_cut_by shaper b d s rest (piece_marks from (text_marks t us) (text_marks t (slice_range us from at))) n ≡ may_be_cut_by shaper b d s rest (text_marks t rest) n
  cut_same any.Default b d s = marks_same
  cut_same any.Dumber b d s = marks_same
  cut_same (any.Script HEBREW_SHAPER) b d s = marks_same
  cut_same (any.Script MYANMAR_ZAWGYI_SHAPER) b d s = marks_same
  cut_same (any.Script ARABIC_SHAPER) b d s =
      let line = not ((is_backward d && is_vertical d) || is_mongolian s) in
      ap (λ c. (b.keeps_types && c) && (is_from (piece Letter) n && line)) marks_same
      ∙ ap (λ c. (b.keeps_types && (have_alike (own Mark) n && not (follows_joiner rest n))) && (c && line)) (from_same Letter)
  cut_same (any.Script THAI_SHAPER) b d s =
      let first = b.keeps_private_marks && passes_at is_plain_beginning rest n in
      let unjoined = not (follows_joiner rest n) in
      let before = is_before (piece PlainMark) n || (not (passes_at is_above rest 0) && is_before (piece SaraAm) n) in
      let after = is_after (piece PlainMark) n || (not (passes_at is_above rest n) && is_after (piece SaraAm) n) in
      let before_own = is_before (own PlainMark) n || (not (passes_at is_above rest 0) && is_before (own SaraAm) n) in
      ap (λ c. first && (unjoined && ((c && is_nowhere (piece SaraAm)) || (before && after)))) (nowhere_same Mark)
      ∙ ap (λ c. first && (unjoined && ((is_nowhere (own Mark) && c) || (before && after)))) (nowhere_same SaraAm)
      ∙ ap (λ c. first && (unjoined && ((is_nowhere (own Mark) && is_nowhere (own SaraAm)) || (c && after)))) marked_before_same
      ∙ ap (λ c. first && (unjoined && ((is_nowhere (own Mark) && is_nowhere (own SaraAm)) || (before_own && c)))) marked_after_same
  cut_same (any.Script HANGUL_SHAPER) b d s = ap (λ c. c && not (follows_joiner rest n)) (nowhere_same Mark)
  cut_same (any.Script INDIC_SHAPER) b d s = refl
  cut_same (any.Script KHMER_SHAPER) b d s = refl
  cut_same (any.Script MYANMAR_SHAPER) b d s = refl
  cut_same (any.Script UNIVERSAL_SHAPER) b d s = refl

  pub broken_same : (shaper : hb_ot_any_shaper_t) (b : BreakPremises) (d : Direction) (s : Option Script)
      → may_be_broken b shaper d s rest (piece_marks from (text_marks t us) (text_marks t (slice_range us from at))) n ≡ may_be_broken b shaper d s rest (text_marks t rest) n
  broken_same shaper b d s = ap (λ c. (is_inside rest n && (b.is_lawful && b.keeps_marks)) && c) (cut_same shaper b d s)
