-- The stages of a text from its glyphs to the end, one after another.
use Rattle.std.proofs.Common.{ℕ, ◌≡◌, ◌≤◌, ◌+◌, Bool, true, false, if◌then◌else◌, List, [], ◌∷◌, ◌++◌, Ok, arith, refl, sym, ap, ◌∙◌}
use Rattle.buffer_glyphs.specs.declared.level.BufferClusterLevel.{BufferClusterLevel}
use Rattle.buffer_glyphs.specs.Events.{Event, Merge, MergeGrapheme, Replace, Circle, Delete, Move, Arrange, Sort, Reverse, Break, Concat, Tatweel, StrictBreak, Spread, Reset}
use Rattle.buffer_glyphs.specs.Origins.{Origin}
use Rattle.buffer_glyphs.specs.Lemmas.Origins.{origins_after_both}
use Rattle.buffer_parts.specs.Lemmas.Stages.{both_read, same_read}
use Rattle.buffer_core.specs.Readings.{View, Read, Stage, BufferState, always, and_then, state_after, then_read, then_reading, with_events, Reading}
use Rattle.buffer_parts.specs.Breaks.Concat.{without_concats}
use Rattle.buffer_parts.specs.Breaks.Divisible.{merges}
use Rattle.layout_offsets.specs.Finishing.{links_followed}
use Rattle.layout_offsets.specs.Starting.{links_cleared}
use Rattle.shape_fallback.specs.Classes.{with_fallback_classes}
use Rattle.shape_fallback.specs.Spaces.{with_spaces}
use Rattle.shape_glyphs.specs.Advances.{with_default_positions}
use Rattle.shape_glyphs.specs.Flags.{with_flags_spread}
use Rattle.shape_glyphs.specs.Glyphs.{with_glyphs}
use Rattle.shape_glyphs.specs.Ignorables.{ignorables_hidden}
use Rattle.shape_glyphs.specs.Selectors.{with_selectors}
use Rattle.shape_glyphs.specs.Widths.{zero_widths}
use Rattle.shape_pipeline.specs.Budget.{before_reset, glyphs_hidden}
use Rattle.shape_pipeline.specs.Chains.{in_order, only_if}
use Rattle.shape_pipeline.specs.Glyphs.{glyphs_substituted, glyphs_taken}
use Rattle.shape_pipeline.specs.Positioning.{marks_positioned, positions_adjusted, positions_begun, positions_ended, visual_order, with_zero_positions}
use Rattle.shape_pipeline.specs.Reading.{positioning_stage}
use Rattle.shape_pipeline.specs.Shaping.{Shaping, postprocessing_stage}
use Rattle.shape_laws.specs.Breaks.Apart.{before_end}
use Rattle.shape_laws.proofs.BreakLemmas.PlainDivision.{state_by}
use Rattle.buffer_parts.proofs.BreakLemmas.Division.{without_both, merges_both}

-- ---- merges of events

-- how many ranges what was read merges at a level
abbrev pub merge_count : BufferClusterLevel → Read → ℕ
merge_count level r = merges (without_concats (r.events level))

-- ---- two stages, one after the other

-- what a stage and those after it leave of a state, and what each merges
pub record AreBoth (first rest : Stage) (s : BufferState) (r : Read) : Type 0 where
  pub once : Read
  pub again : Read
  pub once_is : first s.view ≡ Ok once
  pub again_is : rest once.view ≡ Ok again
  pub both : state_after r s ≡ state_after again (state_after once s)
  pub many : merge_count s.level r ≡ merge_count s.level once + merge_count s.level again

pub both_of : (first rest : Stage) (s : BufferState) (r : Read) → and_then (first s.view) rest ≡ Ok r → AreBoth first rest s r
both_of first rest s r e =
    let two = both_read (first s.view) rest r e in
    record {
      once = two.first;
      again = two.second;
      once_is = two.first_is;
      again_is = two.second_is;
      both = sym (ap (λ (x : Read). state_after x s) two.both)
          ∙ ap (λ (os : List Origin). record { view = two.second.view; origins = os; level = s.level; asks = s.asks }) (origins_after_both s.asks s.level (two.first.events s.level) (two.second.events s.level) s.origins);
      many = ap (merge_count s.level) (sym two.both) ∙ ap merges (without_both (two.first.events s.level) (two.second.events s.level)) ∙ merges_both (without_concats (two.first.events s.level)) (without_concats (two.second.events s.level));
    }

-- the state after a stage that never refuses, where a condition holds, and else the state before it
abbrev pub state_if : Bool → (View → Read) → BufferState → BufferState
state_if b f s = if b then state_by f s else s

-- what such a stage and those after it leave
pub record IsThen (t : BufferState) (rest : Stage) (s : BufferState) (r : Read) : Type 0 where
  pub again : Read
  pub again_is : rest t.view ≡ Ok again
  pub both : state_after r s ≡ state_after again t
  pub many : merge_count s.level again ≤ merge_count s.level r

wanted_once : (b : Bool) (f : View → Read) (s : BufferState) (r : Read) → only_if b (always f) s.view ≡ Ok r → state_after r s ≡ state_if b f s
wanted_once true f s r e = ap (λ (x : Read). state_after x s) (sym (same_read (f s.view) r e))
wanted_once false f s r e = ap (λ (x : Read). state_after x s) (sym (same_read (with_events [] s.view) r e))

pub wanted_then : (b : Bool) (f : View → Read) (rest : Stage) (s : BufferState) (r : Read) → and_then (only_if b (always f) s.view) rest ≡ Ok r → IsThen (state_if b f s) rest s r
wanted_then b f rest s r e =
    let two = both_of (only_if b (always f)) rest s r e in
    let many = two.many in
    let is = wanted_once b f s two.once two.once_is in
    record {
      again = two.again;
      again_is = ap (λ (t : BufferState). rest t.view) (sym is) ∙ two.again_is;
      both = two.both ∙ ap (state_after two.again) is;
      many = omega (arith, many);
    }

pub state_by_then : (f : View → Read) (rest : Stage) (s : BufferState) (r : Read) → and_then (always f s.view) rest ≡ Ok r → IsThen (state_by f s) rest s r
state_by_then f rest s r e = wanted_then true f rest s r e

-- the end of stages
pub nothing_then : (s : BufferState) (r : Read) → in_order [] s.view ≡ Ok r → state_after r s ≡ s
nothing_then s r e = ap (λ (x : Read). state_after x s) (sym (same_read (with_events [] s.view) r e))

-- ---- the stages of a text

-- the state of a text when each character is a glyph
abbrev pub glyph_state : Shaping → BufferState → BufferState
glyph_state p s = state_by with_glyphs (state_if p.choices.fallback_mark_positioning with_fallback_classes s)

-- the state of a text when each glyph has its advance and no link
abbrev pub advance_state : Shaping → BufferState → BufferState
advance_state p s = state_by links_cleared (state_by (with_spaces p.font) (state_by (with_default_positions p.font) (state_by with_zero_positions s)))

-- the state of a text when the links of its glyphs are followed
abbrev pub link_state : Shaping → BufferState → BufferState
link_state p s = state_by links_followed (state_by (zero_widths p.settings.flags) s)

-- the state of a text when its glyphs are in visual order
abbrev pub visual_state : Shaping → BufferState → BufferState
visual_state p s = state_by visual_order (state_if p.choices.fallback_mark_positioning (marks_positioned p) s)

-- the state of a text when default ignorables are hidden
abbrev pub ignorables_state : Shaping → BufferState → BufferState
ignorables_state p s = state_by (ignorables_hidden p.settings.flags p.settings.invisible p.font) (state_by (with_selectors p.settings.not_found_variation_selector) s)

-- what is read of a text up to the reset of limits
pub record IsRoute (p : Shaping) (s : BufferState) (r : Read) : Type 0 where
  pub substituted : Read
  pub adjusted : Read
  pub reached : Read
  pub finished : Read
  pub substituted_is : glyphs_substituted p (glyph_state p s).view ≡ Ok substituted
  pub adjusted_is : positions_adjusted p (advance_state p (state_after substituted (glyph_state p s))).view ≡ Ok adjusted
  pub reached_is : before_end p s.view ≡ Ok reached
  pub there : reached.view ≡ (ignorables_state p (visual_state p (link_state p (state_after adjusted (advance_state p (state_after substituted (glyph_state p s))))))).view
  pub finished_is : postprocessing_stage p (ignorables_state p (visual_state p (link_state p (state_after adjusted (advance_state p (state_after substituted (glyph_state p s))))))).view ≡ Ok finished
  pub end : state_after r s ≡ state_by with_flags_spread (state_after finished (ignorables_state p (visual_state p (link_state p (state_after adjusted (advance_state p (state_after substituted (glyph_state p s))))))))
  pub many : merge_count s.level substituted + merge_count s.level adjusted ≤ merge_count s.level r

pub in_turn_is : (first rest : Stage) (v : View) (a b : Read) → first v ≡ Ok a → rest a.view ≡ Ok b → and_then (first v) rest ≡ Ok (then_read a b)
in_turn_is first rest v a b e f = ap (λ (x : Reading). and_then x rest) e ∙ ap (then_reading a) f

taken_once : (p : Shaping) (s : BufferState) (r : Read) → glyphs_taken p s.view ≡ Ok r → state_after r s ≡ glyph_state p s
unfolding glyphs_taken
taken_once p s r e =
    let one = wanted_then p.choices.fallback_mark_positioning with_fallback_classes (in_order (always with_glyphs ∷ [])) s r e in
    let s1 = state_if p.choices.fallback_mark_positioning with_fallback_classes s in
    let two = state_by_then with_glyphs (in_order []) s1 one.again one.again_is in
    one.both ∙ two.both ∙ nothing_then (state_by with_glyphs s1) two.again two.again_is

begun_once : (p : Shaping) (s : BufferState) (r : Read) → positions_begun p s.view ≡ Ok r → state_after r s ≡ advance_state p s
unfolding positions_begun
begun_once p s r e =
    let rest3 = in_order (always links_cleared ∷ []) in
    let rest2 = in_order (always (with_spaces p.font) ∷ always links_cleared ∷ []) in
    let rest1 = in_order (always (with_default_positions p.font) ∷ always (with_spaces p.font) ∷ always links_cleared ∷ []) in
    let one = state_by_then with_zero_positions rest1 s r e in
    let s1 = state_by with_zero_positions s in
    let two = state_by_then (with_default_positions p.font) rest2 s1 one.again one.again_is in
    let s2 = state_by (with_default_positions p.font) s1 in
    let three = state_by_then (with_spaces p.font) rest3 s2 two.again two.again_is in
    let s3 = state_by (with_spaces p.font) s2 in
    let four = state_by_then links_cleared (in_order []) s3 three.again three.again_is in
    one.both ∙ two.both ∙ three.both ∙ four.both ∙ nothing_then (state_by links_cleared s3) four.again four.again_is

ended_once : (p : Shaping) (s : BufferState) (r : Read) → positions_ended p s.view ≡ Ok r → state_after r s ≡ visual_state p (link_state p s)
unfolding positions_ended
ended_once p s r e =
    let marks = only_if p.choices.fallback_mark_positioning (always (marks_positioned p)) in
    let rest3 = in_order (always visual_order ∷ []) in
    let rest2 = in_order (marks ∷ always visual_order ∷ []) in
    let rest1 = in_order (always links_followed ∷ marks ∷ always visual_order ∷ []) in
    let one = state_by_then (zero_widths p.settings.flags) rest1 s r e in
    let s1 = state_by (zero_widths p.settings.flags) s in
    let two = state_by_then links_followed rest2 s1 one.again one.again_is in
    let s2 = state_by links_followed s1 in
    let three = wanted_then p.choices.fallback_mark_positioning (marks_positioned p) rest3 s2 two.again two.again_is in
    let s3 = state_if p.choices.fallback_mark_positioning (marks_positioned p) s2 in
    let four = state_by_then visual_order (in_order []) s3 three.again three.again_is in
    one.both ∙ two.both ∙ three.both ∙ four.both ∙ nothing_then (state_by visual_order s3) four.again four.again_is

-- what hiding default ignorables and the shaper's last stage leave
record IsHidden (p : Shaping) (s : BufferState) (r : Read) : Type 0 where
  finished : Read
  finished_is : postprocessing_stage p (ignorables_state p s).view ≡ Ok finished
  both : state_after r s ≡ state_by with_flags_spread (state_after finished (ignorables_state p s))

is_hidden : (p : Shaping) (s : BufferState) (r : Read) → glyphs_hidden p s.view ≡ Ok r → IsHidden p s r
unfolding glyphs_hidden
is_hidden p s r e =
    let hides = ignorables_hidden p.settings.flags p.settings.invisible p.font in
    let selects = with_selectors p.settings.not_found_variation_selector in
    let post = postprocessing_stage p in
    let rest3 = in_order (always with_flags_spread ∷ []) in
    let rest2 = in_order (post ∷ always with_flags_spread ∷ []) in
    let rest1 = in_order (always hides ∷ post ∷ always with_flags_spread ∷ []) in
    let one = state_by_then selects rest1 s r e in
    let s1 = state_by selects s in
    let two = state_by_then hides rest2 s1 one.again one.again_is in
    let s2 = state_by hides s1 in
    let three = both_of post rest3 s2 two.again two.again_is in
    let s3 = state_after three.once s2 in
    let four = state_by_then with_flags_spread (in_order []) s3 three.again three.again_is in
    record {
      finished = three.once;
      finished_is = three.once_is;
      both = one.both ∙ two.both ∙ three.both ∙ four.both ∙ nothing_then (state_by with_flags_spread s3) four.again four.again_is;
    }

-- what is read up to the shaper's last stage
end_reached : (p : Shaping) (v : View) (a b c : Read) → glyphs_taken p v ≡ Ok a → glyphs_substituted p a.view ≡ Ok b → positioning_stage p b.view ≡ Ok c
    → (r : Read) × (before_end p v ≡ Ok r) × (r.view ≡ (ignorables_hidden p.settings.flags p.settings.invisible p.font (with_selectors p.settings.not_found_variation_selector c.view).view).view)
end_reached p v a b c e f g =
    let hides = ignorables_hidden p.settings.flags p.settings.invisible p.font in
    let selects = with_selectors p.settings.not_found_variation_selector in
    let x = selects c.view in
    let y = hides x.view in
    let none = with_events [] y.view in
    let rest5 = in_order [] in
    let rest4 = in_order (always hides ∷ []) in
    let rest3 = in_order (always selects ∷ always hides ∷ []) in
    let rest2 = in_order (positioning_stage p ∷ always selects ∷ always hides ∷ []) in
    let rest1 = in_order (glyphs_substituted p ∷ positioning_stage p ∷ always selects ∷ always hides ∷ []) in
    let last = in_turn_is (always hides) rest5 x.view y none refl refl in
    let four = in_turn_is (always selects) rest4 c.view x (then_read y none) refl last in
    let three = in_turn_is (positioning_stage p) rest3 b.view c (then_read x (then_read y none)) g four in
    let two = in_turn_is (glyphs_substituted p) rest2 a.view b (then_read c (then_read x (then_read y none))) f three in
    (then_read a (then_read b (then_read c (then_read x (then_read y none)))), in_turn_is (glyphs_taken p) rest1 v a (then_read b (then_read c (then_read x (then_read y none)))) e two, refl)

pub route : (p : Shaping) (s : BufferState) (r : Read) → before_reset p s.view ≡ Ok r → IsRoute p s r
unfolding before_reset positioning_stage
route p s r e =
    let rest3 = in_order (glyphs_hidden p ∷ []) in
    let positions = in_order (positions_begun p ∷ positions_adjusted p ∷ positions_ended p ∷ []) in
    let rest2 = in_order (positions ∷ glyphs_hidden p ∷ []) in
    let rest1 = in_order (glyphs_substituted p ∷ positions ∷ glyphs_hidden p ∷ []) in
    let one = both_of (glyphs_taken p) rest1 s r e in
    let s1 = state_after one.once s in
    let s1_is : s1 ≡ glyph_state p s = taken_once p s one.once one.once_is in
    let two = both_of (glyphs_substituted p) rest2 s1 one.again one.again_is in
    let s2 = state_after two.once s1 in
    let three = both_of positions rest3 s2 two.again two.again_is in
    let s5 = state_after three.once s2 in
    let four = both_of (positions_begun p) (in_order (positions_adjusted p ∷ positions_ended p ∷ [])) s2 three.once three.once_is in
    let s3 = state_after four.once s2 in
    let s3_is : s3 ≡ advance_state p s2 = begun_once p s2 four.once four.once_is in
    let five = both_of (positions_adjusted p) (in_order (positions_ended p ∷ [])) s3 four.again four.again_is in
    let s4 = state_after five.once s3 in
    let six = both_of (positions_ended p) (in_order []) s4 five.again five.again_is in
    let s5_is : s5 ≡ visual_state p (link_state p s4) = four.both ∙ five.both ∙ six.both ∙ nothing_then (state_after six.once s4) six.again six.again_is ∙ ended_once p s4 six.once six.once_is in
    let seven = both_of (glyphs_hidden p) (in_order []) s5 three.again three.again_is in
    let hidden = is_hidden p s5 seven.once seven.once_is in
    let last : state_after r s ≡ state_by with_flags_spread (state_after hidden.finished (ignorables_state p s5)) = one.both ∙ two.both ∙ three.both ∙ seven.both ∙ nothing_then (state_after seven.once s5) seven.again seven.again_is ∙ hidden.both in
    let all : s5 ≡ visual_state p (link_state p (state_after five.once (advance_state p (state_after two.once (glyph_state p s))))) = s5_is ∙ ap (λ (t : BufferState). visual_state p (link_state p (state_after five.once t))) (s3_is ∙ ap (λ (t : BufferState). advance_state p (state_after two.once t)) s1_is) in
    let reached = end_reached p s.view one.once two.once three.once one.once_is two.once_is three.once_is in
    let m1 = one.many in
    let m2 = two.many in
    let m3 = three.many in
    let m4 = four.many in
    let m5 = five.many in
    record {
      substituted = two.once;
      adjusted = five.once;
      reached = reached.0;
      finished = hidden.finished;
      substituted_is = ap (λ (t : BufferState). glyphs_substituted p t.view) (sym s1_is) ∙ two.once_is;
      adjusted_is = ap (λ (t : BufferState). positions_adjusted p (advance_state p (state_after two.once t)).view) (sym s1_is) ∙ ap (λ (t : BufferState). positions_adjusted p t.view) (sym s3_is) ∙ five.once_is;
      reached_is = reached.1;
      there = reached.2 ∙ ap (λ (t : BufferState). (ignorables_state p t).view) all;
      finished_is = ap (λ (t : BufferState). postprocessing_stage p (ignorables_state p t).view) (sym all) ∙ hidden.finished_is;
      end = last ∙ ap (λ (t : BufferState). state_by with_flags_spread (state_after hidden.finished (ignorables_state p t))) all;
      many = omega (arith, m1, m2, m3, m4, m5);
    }
