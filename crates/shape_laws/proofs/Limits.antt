-- The stages on glyphs depend on no limit.
use Rattle.std.proofs.Common.{ℕ, zero, suc, ℤ, ◌≡◌, ◌+◌, ◌-◌, ◌==◌, ◌||◌, not, reverse, Bool, true, false, if◌then◌else◌, List, [], ◌∷◌, length, refl, sym, ap, subst, ◌∙◌}
use Rattle.std.specs.Prelude.{Option, Some, None, Ok}
use Rattle.buffer_common.specs.Direction.{is_backward}
use Rattle.buffer_glyphs.specs.Events.{Break, Concat, Reverse}
use Rattle.buffer_core.specs.Readings.{Read, Stage, View, always, then_read, with_events}
use Rattle.buffer_stages.specs.PositionMaps.{with_positions_mapped}
use Rattle.shape_glyphs.specs.Widths.{ignorable_position}
use Rattle.buffer_parts.specs.Alike.{ReadAlike, ReadingsAlike, attachment_bit, with_limit_and_flags}
use Rattle.buffer_parts.specs.Counting.{ReadingCounts, with_budget_changed}
use Rattle.buffer_parts.specs.Lemmas.Alike.{at_alike, views_alike}
use Rattle.layout_offsets.specs.Finishing.{all_drawn_if, has_attachments, links_followed}
use Rattle.layout_offsets.specs.Starting.{links_cleared}
use Rattle.layout_laws.proofs.Lemmas.Budgets.{positioning_counts_budget, substitution_counts_budget}
use Rattle.layout_laws.proofs.Lemmas.Lengths.{positioning_depends_on_no_length, substitution_depends_on_no_length}
use Rattle.layout_positioning.specs.Positioning.{positioning_stages}
use Rattle.layout_substitution.specs.Substituting.{substitution_stages}
use Rattle.script_plan.specs.Lemmas.Limits.{always_by, same_by, then_by}
use Rattle.script_plan.specs.Rules.{DependsOnNoLimit, RulesDependOnNoLimit}
use Rattle.script_plan.specs.declared.planned.TheConstants.{HB_OT_SHAPE_ZERO_WIDTH_MARKS_BY_GDEF_EARLY, HB_OT_SHAPE_ZERO_WIDTH_MARKS_BY_GDEF_LATE}
use Rattle.shape_fallback.specs.Classes.{with_fallback_classes}
use Rattle.shape_fallback.specs.Spaces.{with_spaces}
use Rattle.shape_glyphs.specs.Advances.{with_default_positions}
use Rattle.layout_gsub.specs.GlyphClasses.{with_font_classes}
use Rattle.shape_glyphs.specs.Flags.{with_flags_spread}
use Rattle.shape_glyphs.specs.Glyphs.{with_glyphs, with_synthesized_classes}
use Rattle.shape_glyphs.specs.Ignorables.{ignorables_hidden, ignorables_hidden_by, invisible_glyph, preserves_ignorables}
use Rattle.shape_glyphs.specs.Selectors.{with_selectors}
use Rattle.shape_glyphs.specs.Widths.{keeps_widths, zero_widths}
use Rattle.shape_text.specs.Fractions.{around_slash, digits_after, digits_before, fraction_at, fraction_items, fractions_to, is_slash_at, with_fractions}
use Rattle.shape_text.specs.declared.fractions.FractionMasks.{FractionMasks}
use Rattle.shape_pipeline.specs.Chains.{in_order, only_if}
use Rattle.shape_pipeline.specs.Glyphs.{glyphs_substituted, glyphs_taken}
use Rattle.shape_pipeline.specs.Masks.{fraction_masks, masks_set}
use Rattle.shape_pipeline.specs.Positioning.{marks_positioned, marks_zeroed, positions_adjusted, positions_begun, positions_ended, visual_order, with_zero_positions, zeroes_marks}
use Rattle.shape_pipeline.specs.Reading.{positioning_stage}
use Rattle.shape_pipeline.specs.Shaping.{Shaping, pauses_of, postprocessing_stage, shaper_masks_set}
use Rattle.shape_laws.specs.Stages.{GlyphsDependOnNoLimit, glyphs_stage}

-- ---- functions that read no limit

-- a view with other limits and scratch flags
abbrev limits_as : ℕ → ℤ → ℕ → View → View
limits_as limit budget scratch_flags v = record v { max_len = limit; max_ops = budget; scratch_flags = scratch_flags }

-- what was read, with other limits and scratch flags
abbrev limited_as : ℕ → ℤ → ℕ → Read → Read
limited_as limit budget scratch_flags r = record r { view = limits_as limit budget scratch_flags r.view }

-- a function reads no limit and no scratch flag, and leaves them
abbrev ReadsNoLimit : (View → Read) → Type 0
ReadsNoLimit f = (limit : ℕ) (budget : ℤ) (scratch_flags : ℕ) (v : View) → f (limits_as limit budget scratch_flags v) ≡ limited_as limit budget scratch_flags (f v)

kept_flags : (f : View → Read) → ReadsNoLimit f → (v : View) → (f v).view.scratch_flags ≡ v.scratch_flags
kept_flags f h v = ap (λ (r : Read). r.view.scratch_flags) (h v.max_len v.max_ops v.scratch_flags v)

kept_budget : (f : View → Read) → ReadsNoLimit f → (v : View) → (f v).view.max_ops ≡ v.max_ops
kept_budget f h v = ap (λ (r : Read). r.view.max_ops) (h v.max_len v.max_ops v.scratch_flags v)

kept_limit : (f : View → Read) → ReadsNoLimit f → (v : View) → (f v).view.max_len ≡ v.max_len
kept_limit f h v = ap (λ (r : Read). r.view.max_len) (h v.max_len v.max_ops v.scratch_flags v)

unlimited : (f : View → Read) → ReadsNoLimit f → DependsOnNoLimit (always f)
unlimited f h = always_by f record {
  seen = λ v limit scratch_flags. h limit v.max_ops scratch_flags v ∙ ap (λ (z : ℤ). limited_as limit z scratch_flags (f v)) (sym (kept_budget f h v));
  scratch_flags = kept_flags f h;
  tested = λ change v. refl;
  budgeted = λ change v. h v.max_len (change v.max_ops) v.scratch_flags v
      ∙ (ap (λ (z : ℤ). limited_as v.max_len (change z) v.scratch_flags (f v)) (sym (kept_budget f h v))
      ∙ (ap (λ (n : ℕ). limited_as n (change (f v).view.max_ops) v.scratch_flags (f v)) (sym (kept_limit f h v))
      ∙ ap (λ (n : ℕ). limited_as (f v).view.max_len (change (f v).view.max_ops) n (f v)) (sym (kept_flags f h v))));
  budget = kept_budget f h;
}

-- ---- fractions

around_reads : (m : FractionMasks) (at before after : ℕ) (b : Bool) (limit : ℕ) (budget : ℤ) (scratch_flags : ℕ) (v : View)
    → (let w = limits_as limit budget scratch_flags v in if b then with_events (Concat at (at + 1) ∷ []) w else with_events (Break (at - before) (at + 1 + after) ∷ []) (record w { items = fraction_items v.direction m (at - before) at (at + 1 + after) v.items }))
    ≡ limited_as limit budget scratch_flags (if b then with_events (Concat at (at + 1) ∷ []) v else with_events (Break (at - before) (at + 1 + after) ∷ []) (record v { items = fraction_items v.direction m (at - before) at (at + 1 + after) v.items }))
around_reads m at before after true limit budget scratch_flags v = refl
around_reads m at before after false limit budget scratch_flags v = refl

slash_reads : (m : FractionMasks) (at : ℕ) (b : Bool) (limit : ℕ) (budget : ℤ) (scratch_flags : ℕ) (v : View)
    → (let w = limits_as limit budget scratch_flags v in if b then around_slash m at (digits_before at v.items) (digits_after at v.items) w else with_events [] w)
    ≡ limited_as limit budget scratch_flags (if b then around_slash m at (digits_before at v.items) (digits_after at v.items) v else with_events [] v)
slash_reads m at true limit budget scratch_flags v =
    let before = digits_before at v.items in
    let after = digits_after at v.items in
    around_reads m at before after (before == 0 || after == 0) limit budget scratch_flags v
slash_reads m at false limit budget scratch_flags v = refl

fractions_read : (m : FractionMasks) (n : ℕ) → ReadsNoLimit (fractions_to m n)
fractions_read m zero limit budget scratch_flags v = refl
fractions_read m (suc n) limit budget scratch_flags v =
    ap (λ (r : Read). then_read r (fraction_at m n r.view)) (fractions_read m n limit budget scratch_flags v)
    ∙ ap (λ (q : Read). then_read (limited_as limit budget scratch_flags (fractions_to m n v)) q) (slash_reads m n (is_slash_at n (fractions_to m n v).view.items) limit budget scratch_flags (fractions_to m n v).view)

-- ---- links

drawn_alike : (a : View) (limit scratch_flags : ℕ) (b : Bool) → attachment_bit a.scratch_flags ≡ attachment_bit scratch_flags → ReadAlike (all_drawn_if b a) (all_drawn_if b (with_limit_and_flags limit scratch_flags a))
drawn_alike a limit scratch_flags true e = record { view = views_alike (all_drawn_if true a).view limit scratch_flags e; events = λ level. refl }
drawn_alike a limit scratch_flags false e = record { view = views_alike a limit scratch_flags e; events = λ level. refl }

drawn_counts : (ample : ℤ → Bool) (change : ℤ → ℤ) (v : View) (b : Bool) → ReadingCounts ample change v.max_ops (Ok (all_drawn_if b v)) (Ok (all_drawn_if b (with_budget_changed change v)))
drawn_counts ample change v true = λ l. (l, refl)
drawn_counts ample change v false = λ l. (l, refl)

links_limits : DependsOnNoLimit (always links_followed)
links_limits = record {
  limit = λ a b k. at_alike a b (λ w. ReadingsAlike (always links_followed a) (always links_followed w)) k (λ limit scratch_flags e.
      subst (λ (n : ℕ). ReadAlike (links_followed a) (all_drawn_if (not (n == 0)) (with_limit_and_flags limit scratch_flags a))) e (drawn_alike a limit scratch_flags (has_attachments a.scratch_flags) e));
  budget = λ ample change fair v. drawn_counts ample change v (has_attachments v.scratch_flags);
}

-- ---- stages of the pipeline

if_reads : (b : Bool) (f g : View → Read) → ReadsNoLimit f → ReadsNoLimit g → ReadsNoLimit (λ v. if b then f v else g v)
if_reads true f g p q = p
if_reads false f g p q = q

hidden_reads : (glyph : Option ℕ) → ReadsNoLimit (ignorables_hidden_by glyph)
hidden_reads (Some glyph) limit budget scratch_flags v = refl
hidden_reads None limit budget scratch_flags v = refl

selectors_read : (glyph : Option ℕ) → ReadsNoLimit (with_selectors glyph)
selectors_read (Some glyph) limit budget scratch_flags v = refl
selectors_read None limit budget scratch_flags v = refl

-- a view in visual order, where the direction is known to be backward or not
abbrev ordered_if : Bool → View → Read
ordered_if b v = if b then with_events (Reverse ∷ []) (record v { items = reverse v.items; positions = reverse v.positions }) else with_events [] v

ordered_reads : (b : Bool) → ReadsNoLimit (ordered_if b)
ordered_reads true limit budget scratch_flags v = refl
ordered_reads false limit budget scratch_flags v = refl

order_reads : ReadsNoLimit visual_order
order_reads limit budget scratch_flags v = ordered_reads (is_backward v.direction) limit budget scratch_flags v

only_limits : (b : Bool) (stage : Stage) → DependsOnNoLimit stage → DependsOnNoLimit (only_if b stage)
only_limits true stage d = d
only_limits false stage d = same_by

-- each of some stages depends on no limit
abbrev AllUnlimited : List Stage → Type 0
AllUnlimited [] = Unit {0}
AllUnlimited (stage ∷ stages) = DependsOnNoLimit stage × AllUnlimited stages

chained : (stages : List Stage) → AllUnlimited stages → DependsOnNoLimit (in_order stages)
chained [] all = same_by
chained (stage ∷ stages) all = then_by stage (in_order stages) all.0 (chained stages all.1)

masks_limits : (p : Shaping) → RulesDependOnNoLimit p.rules → DependsOnNoLimit (masks_set p)
unfolding masks_set
masks_limits p rules = chained (only_if p.choices.has_frac (always (with_fractions (fraction_masks p.map))) ∷ shaper_masks_set p ∷ []) (
  only_limits p.choices.has_frac (always (with_fractions (fraction_masks p.map))) (unlimited (with_fractions (fraction_masks p.map)) (λ limit budget scratch_flags v. fractions_read (fraction_masks p.map) (length v.items) limit budget scratch_flags v)),
  (
    rules.sets_masks p.font p.tables p.settings,
    tt,
  ),
)

taken_limits : (p : Shaping) → DependsOnNoLimit (glyphs_taken p)
unfolding glyphs_taken
taken_limits p = chained (only_if p.choices.fallback_mark_positioning (always with_fallback_classes) ∷ always with_glyphs ∷ []) (
  only_limits p.choices.fallback_mark_positioning (always with_fallback_classes) (unlimited with_fallback_classes (λ limit budget scratch_flags v. refl)),
  (
    unlimited with_glyphs (λ limit budget scratch_flags v. refl),
    tt,
  ),
)

substituted_limits : (p : Shaping) → RulesDependOnNoLimit p.rules → DependsOnNoLimit (glyphs_substituted p)
unfolding glyphs_substituted
substituted_limits p rules = chained (always (with_font_classes p.font) ∷ only_if p.choices.fallback_glyph_classes (always with_synthesized_classes) ∷ substitution_stages p.font p.map (pauses_of p) ∷ []) (
  unlimited (with_font_classes p.font) (λ limit budget scratch_flags v. refl),
  (
    only_limits p.choices.fallback_glyph_classes (always with_synthesized_classes) (unlimited with_synthesized_classes (λ limit budget scratch_flags v. refl)),
    (
      record {
        limit = substitution_depends_on_no_length p.font p.map (pauses_of p) (λ n. (rules.pauses p.font p.tables p.spans p.settings n).limit);
        budget = substitution_counts_budget p.font p.map (pauses_of p) (λ n. (rules.pauses p.font p.tables p.spans p.settings n).budget);
      },
      tt,
    ),
  ),
)

begun_limits : (p : Shaping) → DependsOnNoLimit (positions_begun p)
unfolding positions_begun
begun_limits p = chained (always with_zero_positions ∷ always (with_default_positions p.font) ∷ always (with_spaces p.font) ∷ always links_cleared ∷ []) (
  unlimited with_zero_positions (λ limit budget scratch_flags v. refl),
  (
    unlimited (with_default_positions p.font) (λ limit budget scratch_flags v. refl),
    (
      unlimited (with_spaces p.font) (λ limit budget scratch_flags v. refl),
      (
        unlimited links_cleared (λ limit budget scratch_flags v. refl),
        tt,
      ),
    ),
  ),
)

adjusted_limits : (p : Shaping) → RulesDependOnNoLimit p.rules → DependsOnNoLimit (positions_adjusted p)
unfolding positions_adjusted
adjusted_limits p rules = chained (only_if (zeroes_marks HB_OT_SHAPE_ZERO_WIDTH_MARKS_BY_GDEF_EARLY p) (always (marks_zeroed p)) ∷ only_if p.choices.apply_gpos (positioning_stages p.font p.map (pauses_of p)) ∷ only_if (zeroes_marks HB_OT_SHAPE_ZERO_WIDTH_MARKS_BY_GDEF_LATE p) (always (marks_zeroed p)) ∷ []) (
  only_limits (zeroes_marks HB_OT_SHAPE_ZERO_WIDTH_MARKS_BY_GDEF_EARLY p) (always (marks_zeroed p)) (unlimited (marks_zeroed p) (λ limit budget scratch_flags v. refl)),
  (
    only_limits p.choices.apply_gpos (positioning_stages p.font p.map (pauses_of p)) record {
      limit = positioning_depends_on_no_length p.font p.map (pauses_of p) (λ n. (rules.pauses p.font p.tables p.spans p.settings n).limit);
      budget = positioning_counts_budget p.font p.map (pauses_of p) (λ n. (rules.pauses p.font p.tables p.spans p.settings n).budget);
    },
    (
      only_limits (zeroes_marks HB_OT_SHAPE_ZERO_WIDTH_MARKS_BY_GDEF_LATE p) (always (marks_zeroed p)) (unlimited (marks_zeroed p) (λ limit budget scratch_flags v. refl)),
      tt,
    ),
  ),
)

ended_limits : (p : Shaping) → DependsOnNoLimit (positions_ended p)
unfolding positions_ended
ended_limits p = chained (always (zero_widths p.settings.flags) ∷ always links_followed ∷ only_if p.choices.fallback_mark_positioning (always (marks_positioned p)) ∷ always visual_order ∷ []) (
  unlimited (zero_widths p.settings.flags) (if_reads (keeps_widths p.settings.flags) (with_events []) (with_positions_mapped ignorable_position) (λ limit budget scratch_flags v. refl) (λ limit budget scratch_flags v. refl)),
  (
    links_limits,
    (
      only_limits p.choices.fallback_mark_positioning (always (marks_positioned p)) (unlimited (marks_positioned p) (λ limit budget scratch_flags v. refl)),
      (
        unlimited visual_order order_reads,
        tt,
      ),
    ),
  ),
)

positioned_limits : (p : Shaping) → RulesDependOnNoLimit p.rules → DependsOnNoLimit (positioning_stage p)
unfolding positioning_stage
positioned_limits p rules = chained (positions_begun p ∷ positions_adjusted p ∷ positions_ended p ∷ []) (
  begun_limits p,
  (
    adjusted_limits p rules,
    (
      ended_limits p,
      tt,
    ),
  ),
)

pub glyphs_depend_on_no_limit : GlyphsDependOnNoLimit
unfolding glyphs_stage
glyphs_depend_on_no_limit p rules =
    let flags = p.settings.flags in
    let glyph = invisible_glyph flags p.settings.invisible p.font in
    chained (masks_set p ∷ glyphs_taken p ∷ glyphs_substituted p ∷ positioning_stage p ∷ always (with_selectors p.settings.not_found_variation_selector) ∷ always (ignorables_hidden flags p.settings.invisible p.font) ∷ postprocessing_stage p ∷ always with_flags_spread ∷ []) (
      masks_limits p rules,
      (
        taken_limits p,
        (
          substituted_limits p rules,
          (
            positioned_limits p rules,
            (
              unlimited (with_selectors p.settings.not_found_variation_selector) (selectors_read p.settings.not_found_variation_selector),
              (
                unlimited (ignorables_hidden flags p.settings.invisible p.font) (if_reads (preserves_ignorables flags) (with_events []) (ignorables_hidden_by glyph) (λ limit budget scratch_flags v. refl) (hidden_reads glyph)),
                (
                  rules.postprocesses p.font p.settings,
                  (
                    unlimited with_flags_spread (λ limit budget scratch_flags v. refl),
                    tt,
                  ),
                ),
              ),
            ),
          ),
        ),
      ),
    )
