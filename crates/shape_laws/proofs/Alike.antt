-- Canonically equivalent texts shape alike.
use Rattle.std.proofs.Common.{ℕ, ℤ, pos, negsuc, ◌≡◌, ◌≢◌, ne_eqb, ◌≤◌, ◌+◌, ◌-◌, ◌==◌, ◌&&◌, Bool, true, false, if◌then◌else◌, List, [], ◌∷◌, drop, map, length, refl, sym, ap, subst, ◌∙◌, arith}
use Rattle.std.specs.Prelude.{nat_le, Ok, Err, Option}
use Rattle.std.specs.List.{list_any}
use Rattle.std.proofs.lemmas.Bool.Decides.{nat_tests}
use Rattle.std.proofs.lemmas.List.{length-map}
use Rattle.buffer_common.specs.declared.direction.Direction.{Direction}
use Rattle.buffer_common.specs.declared.direction.Direction.TheVariants.{LeftToRight}
use Rattle.buffer_common.specs.declared.language.Language.{Language}
use Rattle.buffer_common.specs.declared.tag.Tag.{Tag}
use Rattle.buffer_common.specs.ScriptTags.{wanted_language_tags}
use Rattle.buffer_tags.specs.declared.feature.Feature.{Feature}
use Rattle.buffer_tags.specs.Feature.{is_global}
use Rattle.buffer_glyphs.specs.declared.info.hb_glyph_info_t.{hb_glyph_info_t}
use Rattle.buffer_glyphs.specs.Items.{Item, Position, item_of}
use Rattle.buffer_core.specs.Masks.{items_set}
use Rattle.buffer_core.specs.Readings.{BufferState, Follows, Read, Reading, Stage, View, always, as_it_is, with_events}
use Rattle.buffer_core.specs.Segment.{after_guess_segment_properties}
use Rattle.buffer_core.specs.Sides.{Sides, all_glyphs, state_of, view_of}
use Rattle.buffer_stages.specs.Settings.{TextSettings, text_settings}
use Rattle.buffer_parts.specs.Alike.{attachment_bit}
use Rattle.buffer_parts.specs.Counting.{SeenAlikeInAll, Uses, at_budget}
use Rattle.buffer_parts.proofs.Lemmas.Both.{used_alike_are_read}
use Rattle.buffer_parts.specs.Lemmas.Counting.{counting_has_uses, counting_spares_budget, sparing_reads_the_same}
use Rattle.buffer_unicode_tables.specs.Tables.{Tables}
use Rattle.buffer_properties.specs.Properties.{is_mark_character}
use Rattle.layout_face.specs.declared.parts.FaceParts.{FaceParts}
use Rattle.layout_map.specs.Compiled.{OtMapValue}
use Rattle.script_dispatch.specs.Lemmas.Limits.{rules_depend_on_no_limit}
use Rattle.script_dispatch.specs.Requests.{any_kind}
use Rattle.script_plan.specs.Plans.{planned_shaper, text_plan}
use Rattle.script_plan.specs.Rules.{RulesDependOnNoLimit, Spans}
use Rattle.shape_glyphs.specs.Flags.{with_flags_spread}
use Rattle.shape_glyphs.specs.Ignorables.{ignorables_hidden}
use Rattle.shape_glyphs.specs.Selectors.{with_selectors}
use Rattle.shape_text.specs.Ranges.{bits_of, shifted_value, with_all_ranges, with_range}
use Rattle.shape_premises.specs.Texts.{IsRegularText}
use Rattle.shape_pipeline.specs.Characters.{characters_chosen, text_begun}
use Rattle.shape_pipeline.specs.Endings.{text_ended}
use Rattle.shape_pipeline.specs.Glyphs.{glyphs_substituted, glyphs_taken}
use Rattle.shape_pipeline.specs.Limits.{final_view, unshaped_text}
use Rattle.shape_pipeline.specs.Masks.{masks_set, ranges_set}
use Rattle.shape_pipeline.specs.Reading.{after_ranges, before_ranges, clusters_after, positioning_stage, reading, shaping_stage}
use Rattle.shape_pipeline.specs.ReadingLaws.{have_no_ranges}
use Rattle.shape_pipeline.specs.Results.{IsShapedBy}
use Rattle.shape_pipeline.specs.Shaped.{by_shaper, by_text, text_reading}
use Rattle.shape_pipeline.specs.Shaping.{Shaping, postprocessing_stage}
use Rattle.shape_laws.specs.Shapers.{NormalizesAsUnicode}
use Rattle.shape_laws.specs.Stages.{GreaterBudgetsReadTheSame, RunsCountNested, allows, budget_of, characters_stage, glyphs_stage}
use Rattle.shape_laws.specs.Texts.{AreOneShaping, ArePair, HasEnoughBudget, RunsFromLeft, text_characters}
use Rattle.shape_laws.specs.Laws.{AreChosenAlike, EquivalentResultsAgree, EquivalentsLookAlike, EquivalentsReadAlike, EquivalentsShapeAlike}
use Rattle.shape_laws.proofs.Passing.{Passes, Reaches, always_led, in_order_passes, passes_in_order, reached_is, reaches_as, reaches_read}
use Rattle.shape_laws.proofs.Begun.{IsBegun}
use Rattle.shape_laws.proofs.Chosen.{chosen_is, normalized_view, views_alike}
use Rattle.shape_laws.proofs.Limits.{glyphs_depend_on_no_limit}
use Rattle.shape_laws.proofs.Shapers.{shapers_normalize_as_unicode}
use Rattle.shape_pipeline.proofs.Alike.{range_none, no_ranges}

-- ---- nested lookups

pub runs_count_nested : RunsCountNested
runs_count_nested p text chosen r n k rules is e left = record {
  chosen = chosen;
  is = is;
  uses = counting_has_uses (glyphs_stage p) chosen.view n k r (glyphs_depend_on_no_limit p rules).budget e left;
}

pub greater_budgets_read_the_same : GreaterBudgetsReadTheSame
greater_budgets_read_the_same p v m k d r rules e left =
    sparing_reads_the_same (glyphs_stage p) v m k d r (counting_spares_budget (glyphs_stage p) (glyphs_depend_on_no_limit p rules).budget) e left

-- ---- no masks of ranges

ranges_same : (p : Shaping) (ns : List ℕ) (v : View) → have_no_ranges p.features ≡ true → ranges_set p ns v ≡ as_it_is v
ranges_same p ns v h = ap (λ xs. Ok (with_events [] (record v { items = xs }))) (no_ranges p.map p.features ns v.items h)

-- ---- the way of a text to its glyphs

-- the views that a text's reading passes: after the characters, and before the end
record IsRead (p : Shaping) (v : View) (r : Read) : Type 0 where
  pub chosen : View
  pub shaped : View
  pub chooses : Reaches (characters_stage p) v chosen
  pub shapes : Reaches (glyphs_stage p) chosen shaped
  pub ends : (final_view p.direction shaped).view ≡ r.view

pub ranges_led : (p : Shaping) (ns : List ℕ) (v w : View) → have_no_ranges p.features ≡ true → Reaches (ranges_set p ns) v w → v ≡ w
ranges_led p ns v w h k = always_led (with_events []) v w (reaches_as (ranges_set p ns) (always (with_events [])) v w (sym (ranges_same p ns v h)) k)

-- the stages before the masks of ranges
pub parted_before : (p : Shaping) (v w : View) → Reaches (before_ranges p) v w → (chosen : View) × Reaches (characters_stage p) v chosen × Reaches (masks_set p) chosen w
unfolding before_ranges characters_stage
parted_before p v w k =
    let (begun, one, (chosen, two, (masked, three, same))) = in_order_passes (text_begun p ∷ characters_chosen p ∷ masks_set p ∷ []) v w k in
    (chosen, passes_in_order (text_begun p ∷ characters_chosen p ∷ []) v chosen (begun, one, (chosen, two, refl)), subst (Reaches (masks_set p) chosen) same three)

-- the stages of the end, but for the last
abbrev pub hiding_stages : Shaping → List Stage
hiding_stages p =
    always (with_selectors p.settings.not_found_variation_selector) ∷
    always (ignorables_hidden p.settings.flags p.settings.invisible p.font) ∷
    postprocessing_stage p ∷
    always with_flags_spread ∷
    []

parted_end : (p : Shaping) (v w : View) → Reaches (text_ended p) v w → (shaped : View) × Passes (hiding_stages p) v shaped × ((final_view p.direction shaped).view ≡ w)
unfolding text_ended
parted_end p v w k =
    let (one, first, (two, second, (three, third, (four, fourth, (five, last, same))))) =
    in_order_passes
    (always (with_selectors p.settings.not_found_variation_selector) ∷ always (ignorables_hidden p.settings.flags p.settings.invisible p.font) ∷ postprocessing_stage p ∷ always with_flags_spread ∷ always (final_view p.direction) ∷ [])
    v w k in
    (four, (one, first, (two, second, (three, third, (four, fourth, refl)))), always_led (final_view p.direction) four five last ∙ same)

parted_after : (p : Shaping) (masked v w : View) → Reaches (masks_set p) masked v → Reaches (after_ranges p) v w → (shaped : View) × Reaches (glyphs_stage p) masked shaped × ((final_view p.direction shaped).view ≡ w)
unfolding after_ranges glyphs_stage
parted_after p masked v w masks k =
    let (one, first, (two, second, (three, third, (four, fourth, same)))) = in_order_passes (glyphs_taken p ∷ glyphs_substituted p ∷ positioning_stage p ∷ text_ended p ∷ []) v w k in
    let (shaped, hidden, ends) = parted_end p three four fourth in (
      shaped,
      passes_in_order (masks_set p ∷ glyphs_taken p ∷ glyphs_substituted p ∷ positioning_stage p ∷ hiding_stages p) masked shaped (v, masks, (one, first, (two, second, (three, third, hidden)))),
      ends ∙ same,
    )

shaping_passes : (p : Shaping) (ns : List ℕ) (v : View) (r : Read) → have_no_ranges p.features ≡ true → shaping_stage p ns v ≡ Ok r → IsRead p v r
unfolding shaping_stage
shaping_passes p ns v r h e =
    let (one, first, (two, second, (three, third, same))) = in_order_passes (before_ranges p ∷ ranges_set p ns ∷ after_ranges p ∷ []) v r.view (reaches_read (shaping_stage p ns) v r e) in
    let (chosen, chooses, masks) = parted_before p v one first in
    let ranged : one ≡ two = ranges_led p ns one two h second in
    let (shaped, shapes, ends) = parted_after p chosen two three (subst (Reaches (masks_set p) chosen) ranged masks) third in
    record { chosen = chosen; shaped = shaped; chooses = chooses; shapes = shapes; ends = ends ∙ same }

-- a text with a later mark has characters
marked_length : (us : List ℕ) → list_any is_mark_character (drop 1 us) ≡ true → (length us == 0) ≡ false
marked_length [] h = cc
marked_length (u ∷ us) h = let some : length (u ∷ us) ≢ 0 = omega arith in ne_eqb (length (u ∷ us)) 0 some

-- where a text has characters its reading is that of its run
read_if : (b : Bool) (p : Shaping) (run : BufferState) (r : Read) → b ≡ false → (if b then Ok (unshaped_text run.view) else reading p run) ≡ Ok r → reading p run ≡ Ok r
read_if true p run r h e = cc
read_if false p run r h e = e

reading_of_text : (p : Shaping) (text : Sides) (r : Read) → list_any is_mark_character (drop 1 (text_characters text)) ≡ true → text_reading p (state_of text) ≡ Ok r → reading p (state_of text) ≡ Ok r
unfolding text_reading
reading_of_text p text r marked e =
    let same : length (view_of text).items ≡ length (text_characters text) = length-map (all_glyphs text) item_of ∙ sym (length-map (all_glyphs text) (λ (g : hb_glyph_info_t). g.glyph_id)) in
    read_if (length (view_of text).items == 0) p (state_of text) r (ap (λ n. n == 0) same ∙ marked_length (text_characters text) marked) e

text_is_read : (p : Shaping) (text : Sides) (r : Read) → IsRegularText p.font p.tables (text_characters text) → have_no_ranges p.features ≡ true → text_reading p (state_of text) ≡ Ok r → IsRead p (view_of text) r
unfolding reading
text_is_read p text r regular h e = shaping_passes p (clusters_after (before_ranges p (view_of text)) (state_of text)) (view_of text) r h (reading_of_text p text r regular.has_later_mark e)

-- ---- what is read within the budget

-- a budget that allows a number is that number and more
pub allowed_is : (k : ℤ) (n : ℕ) → allows k n ≡ true → (m : ℕ) × (k ≡ pos m) × (n ≤ m)
allowed_is (pos m) n h = (m, refl, within m n h)
  where
    within : (m n : ℕ) → nat_le n m ≡ true → n ≤ m
    within m n h = grind (arith, nat_tests, h)
allowed_is (negsuc m) n h = cc

pub own_budget : (v : View) (k : ℤ) → v.max_ops ≡ k → at_budget k v ≡ v
own_budget v k e = ap (λ z. at_budget z v) (sym e)

-- what a text shapes to, by what it takes of a budget
record IsCounted (p : Shaping) (text : Sides) (r : Read) : Type 0 where
  pub chosen : Read
  pub begun : View
  pub is_begun : IsBegun p text begun
  pub normalized : chosen.view ≡ normalized_view p begun
  pub count : ℕ
  pub uses : Uses (glyphs_stage p) chosen.view count 0
  pub items : r.view.items ≡ uses.read.view.items
  pub positions : r.view.positions ≡ uses.read.view.positions
  pub direction : r.view.direction ≡ p.direction

counted : (p : Shaping) (text : Sides) (r : Read) → p.direction ≡ LeftToRight → RunsFromLeft text → p.settings ≡ text_settings text → NormalizesAsUnicode p.traits p.rules → IsRegularText p.font p.tables (text_characters text)
    → have_no_ranges p.features ≡ true → HasEnoughBudget p text → text_reading p (state_of text) ≡ Ok r → IsCounted p text r
counted p text r line runs set n regular h nests e =
    let way = text_is_read p text r regular h e in
    let chosen = nests.nests.chosen in
    let uses = nests.nests.uses in
    let (begun, start, normal) = chosen_is p text chosen line n runs set regular.starts_unmarked nests.nests.is in
    let (m, budget, le) = allowed_is (budget_of text) nests.count nests.allowed in
    let own : at_budget (pos m) chosen.view ≡ chosen.view = own_budget chosen.view (pos m) (ap (λ (v : View). v.max_ops) normal ∙ (start.max_ops ∙ budget)) in
    let same : chosen.view ≡ way.chosen = reached_is (characters_stage p) (view_of text) way.chosen chosen way.chooses nests.nests.is in
    let left : ℕ = 0 + (m - nests.count) in
    let there : glyphs_stage p way.chosen ≡ Ok (record uses.read { view = at_budget (pos left) uses.read.view }) = ap (glyphs_stage p) (sym (own ∙ same)) ∙ uses.same m le in
    let shaped : at_budget (pos left) uses.read.view ≡ way.shaped = reached_is (glyphs_stage p) way.chosen way.shaped (record uses.read { view = at_budget (pos left) uses.read.view }) way.shapes there in
    record {
      chosen = chosen;
      begun = begun;
      is_begun = start;
      normalized = normal;
      count = nests.count;
      uses = uses;
      items = sym (ap (λ (v : View). v.items) way.ends) ∙ sym (ap (λ (v : View). v.items) shaped);
      positions = sym (ap (λ (v : View). v.positions) way.ends) ∙ sym (ap (λ (v : View). v.positions) shaped);
      direction = sym (ap (λ (v : View). v.direction) way.ends);
    }

-- ---- views that differ in their limits

abbrev view_with : View → View → List Item → List Position → ℕ → ℕ → Direction → View
view_with a b items positions lig_id random direction = record {
  items = items;
  positions = positions;
  lig_id = lig_id;
  max_ops = a.max_ops;
  random = random;
  max_len = b.max_len;
  direction = direction;
  scratch_flags = b.scratch_flags;
}

seen_alike : (r s : Read) → AreChosenAlike r s → attachment_bit r.view.scratch_flags ≡ attachment_bit s.view.scratch_flags → SeenAlikeInAll r.view s.view
seen_alike r s c e =
    let a = r.view in
    let b = s.view in
    record {
      scratch_flags = e;
      same =
          ap (λ xs. view_with a b xs b.positions b.lig_id b.random b.direction) (sym c.items)
          ∙ (ap (λ ps. view_with a b a.items ps b.lig_id b.random b.direction) (sym c.positions)
          ∙ (ap (λ n. view_with a b a.items a.positions n b.random b.direction) (sym c.lig_id)
          ∙ (ap (λ n. view_with a b a.items a.positions a.lig_id n b.direction) (sym c.random)
          ∙ ap (λ d. view_with a b a.items a.positions a.lig_id a.random d) (sym c.direction))));
    }

-- the characters of a text attach no glyph
bits_clear : (p : Shaping) (text : Sides) (r : Read) (v : View) → IsBegun p text v → r.view ≡ normalized_view p v → attachment_bit r.view.scratch_flags ≡ 0
bits_clear p text r v b e = ap (λ (w : View). attachment_bit w.scratch_flags) e ∙ b.attached

-- ---- equivalent texts

pub equivalents_read_alike : EquivalentsReadAlike
equivalents_read_alike p a b r s one texts n rules h first_nests second_nests e f =
    let x = counted p a r one.line one.first_runs one.first_settings n texts.first h first_nests e in
    let y = counted p b s one.line one.second_runs one.second_settings n texts.second h second_nests f in
    let alike = views_alike p a b x.begun y.begun x.chosen y.chosen texts n x.is_begun y.is_begun x.normalized y.normalized in
    let clear = bits_clear p a x.chosen x.begun x.is_begun x.normalized ∙ sym (bits_clear p b y.chosen y.begun y.is_begun y.normalized) in
    let both = used_alike_are_read (glyphs_stage p) x.chosen.view y.chosen.view x.count y.count 0 0 (glyphs_depend_on_no_limit p rules).limit (seen_alike x.chosen y.chosen alike clear) x.uses y.uses in
    record {
      items = x.items ∙ (both.1 ∙ sym y.items);
      positions = x.positions ∙ (both.2 ∙ sym y.positions);
      direction = x.direction ∙ sym y.direction;
    }

-- ---- results

followed : (q : Reading) (old new : BufferState) → Follows q old new → (r : Read) × (q ≡ Ok r) × (new.view ≡ r.view)
followed (Ok r) old new f = (r, refl, ap (λ (run : BufferState). run.view) f)
followed (Err c) old new f = absurd f

pub equivalent_results_agree : EquivalentResultsAgree
equivalent_results_agree p a b x y one texts n rules h first_nests second_nests shaped other =
    let (r, e, left) = followed (text_reading p (state_of a)) (state_of a) (state_of x) shaped in
    let (s, f, right) = followed (text_reading p (state_of b)) (state_of b) (state_of y) other in
    let alike = equivalents_read_alike p a b r s one texts n rules h first_nests second_nests e f in
    record {
      items = ap (λ (v : View). v.items) left ∙ (alike.items ∙ sym (ap (λ (v : View). v.items) right));
      positions = ap (λ (v : View). v.positions) left ∙ (alike.positions ∙ sym (ap (λ (v : View). v.positions) right));
      direction = ap (λ (v : View). v.direction) left ∙ (alike.direction ∙ sym (ap (λ (v : View). v.direction) right));
    }

-- ---- texts without a plan

-- the `Shaping` of a text with a direction, a language and settings
abbrev shaping_of : FaceParts → Tables → (List ℕ → List Tag) → Spans → List Feature → Direction → Option Language → TextSettings → Shaping
shaping_of font tables tags spans features d language settings =
    let languages = wanted_language_tags tags language in
    by_shaper (planned_shaper any_kind font languages d settings.script) (text_plan any_kind font languages d settings.script features) features font tables spans settings

shapings_same : (font : FaceParts) (tables : Tables) (tags : List ℕ → List Tag) (spans : Spans) (features : List Feature) (a b : Sides) → a.direction ≡ b.direction → a.language ≡ b.language → text_settings a ≡ text_settings b
    → by_text font tables tags spans features a ≡ by_text font tables tags spans features b
shapings_same font tables tags spans features a b d language settings =
    ap (λ x. shaping_of font tables tags spans features x a.language (text_settings a)) d
    ∙ (ap (λ x. shaping_of font tables tags spans features b.direction x (text_settings a)) language
    ∙ ap (λ x. shaping_of font tables tags spans features b.direction b.language x) settings)

pub planned_line : (font : FaceParts) (tables : Tables) (tags : List ℕ → List Tag) (spans : Spans) (features : List Feature) (a : Sides) → (by_text font tables tags spans features a).direction ≡ a.direction
unfolding text_plan
planned_line font tables tags spans features a = refl

-- what a pair of texts is shaped by
record IsPlannedPair (font : FaceParts) (tables : Tables) (tags : List ℕ → List Tag) (spans : Spans) (features : List Feature) (a b : Sides) : Type 0 where
  pub same : by_text font tables tags spans features b ≡ by_text font tables tags spans features a
  pub one : AreOneShaping (by_text font tables tags spans features a) a b
  pub normalizes : NormalizesAsUnicode (by_text font tables tags spans features a).traits (by_text font tables tags spans features a).rules
  pub rules : RulesDependOnNoLimit (by_text font tables tags spans features a).rules
  pub nests : HasEnoughBudget (by_text font tables tags spans features a) b

planned_pair : (font : FaceParts) (tables : Tables) (tags : List ℕ → List Tag) (spans : Spans) (features : List Feature) (a b : Sides) → ArePair font tables tags spans features a b → IsPlannedPair font tables tags spans features a b
planned_pair font tables tags spans features a b pair =
    let languages = wanted_language_tags tags a.language in
    let shaper = planned_shaper any_kind font languages a.direction a.script in
    let plan = text_plan any_kind font languages a.direction a.script features in
    let same : by_text font tables tags spans features b ≡ by_text font tables tags spans features a =
    sym (shapings_same font tables tags spans features a b (pair.first_runs.line ∙ sym pair.second_runs.line) pair.language pair.settings) in
    record {
      same = same;
      one = record { line = planned_line font tables tags spans features a ∙ pair.first_runs.line; first_runs = pair.first_runs; second_runs = pair.second_runs; first_settings = refl; second_settings = pair.settings };
      normalizes = shapers_normalize_as_unicode shaper plan pair.shaper;
      rules = rules_depend_on_no_limit shaper plan;
      nests = subst (λ q. HasEnoughBudget q b) same pair.second_nests;
    }

pub equivalents_shape_alike : EquivalentsShapeAlike
equivalents_shape_alike font tables tags spans features a b r s pair e f =
    let p = by_text font tables tags spans features a in
    let planned = planned_pair font tables tags spans features a b pair in
    equivalents_read_alike p a b r s planned.one pair.texts planned.normalizes planned.rules pair.ranges pair.first_nests planned.nests e (subst (λ q. text_reading q (state_of b) ≡ Ok s) planned.same f)

pub equivalents_look_alike : EquivalentsLookAlike
equivalents_look_alike font tables tags spans features a b x y pair shaped other =
    let first = after_guess_segment_properties a in
    let second = after_guess_segment_properties b in
    let p = by_text font tables tags spans features first in
    let planned = planned_pair font tables tags spans features first second pair in
    equivalent_results_agree p first second x y planned.one pair.texts planned.normalizes planned.rules pair.ranges pair.first_nests planned.nests shaped (subst (λ q. IsShapedBy q second y) planned.same other)
