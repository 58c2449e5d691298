-- A text that leaves some of its budget of nested lookups has enough of it.
use Rattle.std.proofs.Common.{ℕ, zero, suc, ℤ, pos, negsuc, ◌≡◌, ◌≤◌, ◌+◌, ◌-◌, ◌-ℤ◌, nat_le, true, [], ◌∷◌, Ok, Err, arith, refl, sym, ap, subst, ◌∙◌}
use Rattle.std.specs.Prelude.{Result}
use Rattle.std.proofs.lemmas.Int.{ints}
use Rattle.std.proofs.lemmas.Bool.Decides.{nat_tests}
use Rattle.std.proofs.lemmas.Grind.{common_steps}
use Rattle.buffer_glyphs.specs.declared.cause.ShapeCause.{ShapeCause}
use Rattle.buffer_core.specs.Readings.{BufferState, Read, Reading, Stage, View}
use Rattle.buffer_core.specs.Sides.{state_of}
use Rattle.buffer_parts.specs.Counting.{CountsBudget, IsFair, ReadingCounts, at_budget, with_budget_changed}
use Rattle.script_dispatch.specs.Lemmas.Limits.{rules_depend_on_no_limit}
use Rattle.script_dispatch.specs.Requests.{any_kind}
use Rattle.script_plan.specs.Plans.{planned_shaper, text_plan}
use Rattle.shape_pipeline.specs.Budget.{before_reset, glyphs_hidden, left_by, reading_before_reset}
use Rattle.shape_pipeline.specs.Glyphs.{glyphs_substituted, glyphs_taken}
use Rattle.shape_pipeline.specs.Masks.{masks_set, ranges_set}
use Rattle.shape_pipeline.specs.Reading.{before_ranges, clusters_after, positioning_stage}
use Rattle.shape_pipeline.specs.ReadingLaws.{have_no_ranges}
use Rattle.shape_pipeline.specs.Shaped.{by_text, language_tags}
use Rattle.shape_pipeline.specs.Shaping.{Shaping}
use Rattle.shape_laws.specs.Laws.{ReadTextsHaveEnoughBudget, TextsHaveEnoughBudget}
use Rattle.shape_laws.specs.Stages.{allows, budget_of, characters_stage, glyphs_stage}
use Rattle.shape_laws.proofs.Alike.{allowed_is, hiding_stages, own_budget, parted_before, planned_line, ranges_led, runs_count_nested}
use Rattle.shape_laws.proofs.Chosen.{chosen_is}
use Rattle.shape_laws.proofs.Limits.{glyphs_depend_on_no_limit}
use Rattle.shape_laws.proofs.Passing.{Passes, Reaches, in_order_passes, passes_in_order}
use Rattle.shape_laws.proofs.Shapers.{shapers_normalize_as_unicode}
use Rattle.layout_map.proofs.StageEnds.{self_most as own_count}
use Rattle.buffer_facts.proofs.Numbers.{test_of_at_most as within}

-- ---- the way of a text up to the reset

-- the views that a text's reading passes: after the characters, and before the reset
record IsRead (p : Shaping) (v w : View) : Type 0 where
  pub chosen : View
  pub chooses : Reaches (characters_stage p) v chosen
  pub shapes : Reaches (glyphs_stage p) chosen w

parted_hidden : (p : Shaping) (v w : View) → Reaches (glyphs_hidden p) v w → Passes (hiding_stages p) v w
unfolding glyphs_hidden
parted_hidden p v w k = in_order_passes (hiding_stages p) v w k

parted_within : (p : Shaping) (masked v w : View) → Reaches (masks_set p) masked v → Reaches (before_reset p) v w → Reaches (glyphs_stage p) masked w
unfolding before_reset glyphs_stage
parted_within p masked v w masks k =
    let (one, first, (two, second, (three, third, (four, fourth, same)))) = in_order_passes (glyphs_taken p ∷ glyphs_substituted p ∷ positioning_stage p ∷ glyphs_hidden p ∷ []) v w k in
    let hidden : Passes (hiding_stages p) three w = subst (Passes (hiding_stages p) three) same (parted_hidden p three four fourth) in
    passes_in_order (masks_set p ∷ glyphs_taken p ∷ glyphs_substituted p ∷ positioning_stage p ∷ hiding_stages p) masked w (v, masks, (one, first, (two, second, (three, third, hidden))))

text_passes : (p : Shaping) (run : BufferState) (r : Read) → have_no_ranges p.features ≡ true → reading_before_reset p run ≡ Ok r → IsRead p run.view r.view
unfolding reading_before_reset
text_passes p run r h e =
    let ns = clusters_after (before_ranges p run.view) run in
    let (one, first, (two, second, (three, third, same))) = in_order_passes (before_ranges p ∷ ranges_set p ns ∷ before_reset p ∷ []) run.view r.view (record { read = r; is = e; view = refl }) in
    let (chosen, chooses, masks) = parted_before p run.view one first in
    let ranged : one ≡ two = ranges_led p ns one two h second in
    let shapes : Reaches (glyphs_stage p) chosen three = parted_within p chosen two three (subst (Reaches (masks_set p) chosen) ranged masks) third in
    record { chosen = chosen; chooses = chooses; shapes = subst (Reaches (glyphs_stage p) chosen) same shapes }

-- what a reading leaves is what is in its view
read_left : (q : Reading) (left : ℤ) → left_by q ≡ Ok left → (r : Read) × (q ≡ Ok r) × (r.view.max_ops ≡ left)
read_left (Ok r) left e = (r, refl, inside r.view.max_ops left e)
  where
    value_or : ℤ → Result ℤ ShapeCause → ℤ
    value_or z (Ok x) = x
    value_or z (Err c) = z

    inside : (a b : ℤ) → ◌≡◌ {A = Result ℤ ShapeCause} (Ok a) (Ok b) → a ≡ b
    inside a b h = ap (value_or a) h
read_left (Err c) left e = cc

-- ---- a budget is never raised

unfelt : (d : ℕ) → IsFair (λ z. allows z d) (λ z. z)
unfelt d = record {
  before = before;
  stays = λ z e l. e;
  ends = λ z e l. e;
  less = λ z. refl;
}
  where
    le_next : (n : ℕ) → nat_le d n ≡ true → nat_le d (suc n) ≡ true
    le_next n e = grind (arith, nat_tests, common_steps)

    one_less : (n : ℕ) → pos (suc n) -ℤ pos 1 ≡ pos n
    one_less n = omega (arith, ints)

    before : (z : ℤ) → allows (z -ℤ pos 1) d ≡ true → allows z d ≡ true
    before (pos zero) e = cc
    before (pos (suc n)) e = le_next n (subst (λ (z : ℤ). allows z d ≡ true) (one_less n) e)
    before (negsuc n) e = cc

never_raised : (stage : Stage) (v : View) (r : Read) (d : ℕ) → CountsBudget stage → stage v ≡ Ok r → allows r.view.max_ops d ≡ true → allows v.max_ops d ≡ true
never_raised stage v r d counts e l =
    (subst (λ (x : Reading). ReadingCounts (λ z. allows z d) (λ z. z) v.max_ops x (stage (with_budget_changed (λ z. z) v))) e (counts (λ z. allows z d) (λ z. z) (unfelt d) v) l).0

-- ---- enough budget

pub read_texts_have_enough_budget : ReadTextsHaveEnoughBudget
read_texts_have_enough_budget p text k line runs set unmarked n rules h e =
    let (r, reads, left) = read_left (reading_before_reset p (state_of text)) (pos (suc k)) e in
    let way = text_passes p (state_of text) r h reads in
    let chosen = way.chooses.read in
    let shaped = way.shapes.read in
    let is : glyphs_stage p chosen.view ≡ Ok shaped = ap (glyphs_stage p) way.chooses.view ∙ way.shapes.is in
    let leaves : shaped.view.max_ops ≡ pos (suc k) = ap (λ (v : View). v.max_ops) way.shapes.view ∙ left in
    let some : allows shaped.view.max_ops (suc k) ≡ true = ap (λ (z : ℤ). allows z (suc k)) leaves ∙ own_count (suc k) in
    let there : allows chosen.view.max_ops (suc k) ≡ true = never_raised (glyphs_stage p) chosen.view shaped (suc k) (glyphs_depend_on_no_limit p rules).budget is some in
    let (m, budget, le) = allowed_is chosen.view.max_ops (suc k) there in
    let count : ℕ = m - suc k in
    let whole : m ≡ count + suc k = omega (arith, le) in
    let own : at_budget (pos (count + suc k)) chosen.view ≡ chosen.view = own_budget chosen.view (pos (count + suc k)) (budget ∙ ap (λ (x : ℕ). pos x) whole) in
    let nests = runs_count_nested p text chosen shaped count k rules way.chooses.is (ap (glyphs_stage p) own ∙ is) leaves in
    let (begun, start, normal) = chosen_is p text chosen line n runs set unmarked way.chooses.is in
    let of_text : budget_of text ≡ pos m = sym (ap (λ (v : View). v.max_ops) normal ∙ start.max_ops) ∙ budget in
    let less : count ≤ m = omega (arith, le) in
    record {
      count = count;
      nests = nests;
      allowed = ap (λ (z : ℤ). allows z count) of_text ∙ within count m less;
    }

pub texts_have_enough_budget : TextsHaveEnoughBudget
texts_have_enough_budget font tables tags spans features text k runs unmarked h keeps e =
    let p = by_text font tables tags spans features text in
    let shaper = planned_shaper any_kind font (language_tags tags text) text.direction text.script in
    let plan = text_plan any_kind font (language_tags tags text) text.direction text.script features in
    read_texts_have_enough_budget p text k (planned_line font tables tags spans features text ∙ runs.line) runs refl unmarked (shapers_normalize_as_unicode shaper plan keeps) (rules_depend_on_no_limit shaper plan) h e
