-- The reading of a text that is broken into two.
use Rattle.std.proofs.Common.{◌≡◌, ◌≤◌, ◌⊎◌, inl, inr, Bool, true, false, List, [], ◌∷◌, Ok, Err, arith, refl, sym, ap, subst, ◌∙◌}
use Rattle.std.specs.Prelude.{IfOk}
use Rattle.buffer_glyphs.specs.Origins.{Origin, numbers, without_marks}
use Rattle.buffer_glyphs.specs.Order.{IsInOrder}
use Rattle.buffer_glyphs.specs.Lemmas.Origins.{origins_after_both}
use Rattle.buffer_parts.specs.Counting.{is_left}
use Rattle.buffer_core.specs.Readings.{BufferState, Follows, Read, Reading, Stage, View, always, state_after, then_read, with_events}
use Rattle.buffer_parts.specs.Breaks.Concat.{without_concats}
use Rattle.buffer_parts.specs.Breaks.Divisible.{IsSpared, merges}
use Rattle.buffer_parts.specs.Breaks.Unsafe.{HaveNoTatweel}
use Rattle.buffer_parts.proofs.BreakLemmas.Clear.{no_tatweel_stays, cleared as unmarked_clear}
use Rattle.shape_glyphs.specs.Flags.{with_flags_spread}
use Rattle.shape_glyphs.specs.Ignorables.{ignorables_hidden}
use Rattle.shape_glyphs.specs.Selectors.{with_selectors}
use Rattle.shape_text.specs.Masks.{with_one_mask}
use Rattle.shape_text.specs.Properties.{with_properties}
use Rattle.shape_text.specs.Circle.{first_circle}
use Rattle.shape_text.specs.Clusters.{with_clusters}
use Rattle.shape_text.specs.NativeOrder.{native_order}
use Rattle.shape_text.specs.Ranges.{with_ranges}
use Rattle.shape_pipeline.specs.Budget.{before_reset, glyphs_hidden, left_by, reading_before_reset}
use Rattle.shape_pipeline.specs.Chains.{in_order}
use Rattle.shape_pipeline.specs.Characters.{characters_chosen, text_begun}
use Rattle.shape_pipeline.specs.Endings.{text_ended}
use Rattle.shape_pipeline.specs.Glyphs.{glyphs_substituted, glyphs_taken}
use Rattle.shape_pipeline.specs.Limits.{final_view, initial_view}
use Rattle.shape_pipeline.specs.Masks.{masks_set, ranges_set}
use Rattle.shape_pipeline.specs.Reading.{after_ranges, before_ranges, clusters_after, positioning_stage, reading, shaping_stage}
use Rattle.shape_pipeline.specs.Shaping.{Shaping, postprocessing_stage}
use Rattle.shape_laws.specs.Breaks.InLine.{MayBeCutAt, ShowsBoth, final_state}
use Rattle.shape_laws.specs.Breaks.SafeBreaks.{HasEnough, TextsShowBoth}
use Rattle.shape_laws.specs.Breaks.Texts.{StaysBroken}
use Rattle.shape_laws.proofs.BreakLemmas.Glyphs.{glyphs_show_both, tatweel_step as still_clear}
use Rattle.shape_laws.proofs.BreakLemmas.PlainDivision.{state_by}
use Rattle.shape_laws.proofs.BreakLemmas.Route.{both_of, in_turn_is, merge_count, nothing_then, state_by_then}
use Rattle.shape_laws.proofs.BreakLemmas.Stages.{ranges_of_both_divide}
use Rattle.buffer_parts.proofs.BreakLemmas.Division.{state_in_turn}

-- ---- stages, and the same without the last one

-- what is read without the last stage, of which some was read
record IsSplit (short : Stage) (f : View → Read) (s : BufferState) (b : Read) : Type 0 where
  read : Read
  read_is : short s.view ≡ Ok read
  last : state_after b s ≡ state_by f (state_after read s)

abbrev Splits : Stage → Stage → (View → Read) → Type 0
Splits long short f = (s : BufferState) (b : Read) → long s.view ≡ Ok b → IsSplit short f s b

splits_end : (f : View → Read) → Splits (in_order (always f ∷ [])) (in_order []) f
splits_end f s b e =
    let one = state_by_then f (in_order []) s b e in
    record { read = with_events [] s.view; read_is = refl; last = one.both ∙ nothing_then (state_by f s) one.again one.again_is }

splits_more : (stage : Stage) (gs hs : List Stage) (f : View → Read) → Splits (in_order gs) (in_order hs) f → Splits (in_order (stage ∷ gs)) (in_order (stage ∷ hs)) f
splits_more stage gs hs f rest s b e =
    let one = both_of stage (in_order gs) s b e in
    let next = rest (state_after one.once s) one.again one.again_is in
    record {
      read = then_read one.once next.read;
      read_is = in_turn_is stage (in_order hs) s.view one.once next.read one.once_is next.read_is;
      last = one.both ∙ next.last ∙ ap (state_by f) (sym (state_in_turn one.once next.read s));
    }

splits_last : (long short : Stage) (f : View → Read) → Splits long short f → Splits (in_order (long ∷ [])) (in_order (short ∷ [])) f
splits_last long short f h s b e =
    let one = both_of long (in_order []) s b e in
    let first = h s one.once one.once_is in
    let nothing = with_events [] first.read.view in
    record {
      read = then_read first.read nothing;
      read_is = in_turn_is short (in_order []) s.view first.read nothing first.read_is refl;
      last = one.both ∙ nothing_then (state_after one.once s) one.again one.again_is ∙ first.last ∙ ap (state_by f) (sym (state_in_turn first.read nothing s));
    }

ended_splits : (p : Shaping) → Splits (text_ended p) (glyphs_hidden p) (final_view p.direction)
unfolding text_ended glyphs_hidden
ended_splits p =
    let f = final_view p.direction in
    let end = always f ∷ [] in
    let spread = always with_flags_spread in
    let post = postprocessing_stage p in
    let hides = always (ignorables_hidden p.settings.flags p.settings.invisible p.font) in
    splits_more (always (with_selectors p.settings.not_found_variation_selector)) (hides ∷ post ∷ spread ∷ end) (hides ∷ post ∷ spread ∷ []) f
    (splits_more hides (post ∷ spread ∷ end) (post ∷ spread ∷ []) f (splits_more post (spread ∷ end) (spread ∷ []) f (splits_more spread end [] f (splits_end f))))

after_splits : (p : Shaping) → Splits (after_ranges p) (before_reset p) (final_view p.direction)
unfolding after_ranges before_reset
after_splits p =
    let f = final_view p.direction in
    splits_more (glyphs_taken p) (glyphs_substituted p ∷ positioning_stage p ∷ text_ended p ∷ []) (glyphs_substituted p ∷ positioning_stage p ∷ glyphs_hidden p ∷ []) f
    (splits_more (glyphs_substituted p) (positioning_stage p ∷ text_ended p ∷ []) (positioning_stage p ∷ glyphs_hidden p ∷ []) f
    (splits_more (positioning_stage p) (text_ended p ∷ []) (glyphs_hidden p ∷ []) f (splits_last (text_ended p) (glyphs_hidden p) f (ended_splits p))))

-- the pipeline stages up to the reset of limits, by the cluster numbers of a text at the masks of ranges
abbrev up_to_reset : Shaping → BufferState → Stage
up_to_reset p s = in_order (before_ranges p ∷ ranges_set p (clusters_after (before_ranges p s.view) s) ∷ before_reset p ∷ [])

reset_is : (p : Shaping) (s : BufferState) → up_to_reset p s s.view ≡ reading_before_reset p s
unfolding reading_before_reset
reset_is p s = refl

reading_splits : (p : Shaping) (s : BufferState) (b : Read) → reading p s ≡ Ok b → IsSplit (up_to_reset p s) (final_view p.direction) s b
unfolding reading shaping_stage
reading_splits p s b e =
    let f = final_view p.direction in
    let ranges = ranges_set p (clusters_after (before_ranges p s.view) s) in
    splits_more (before_ranges p) (ranges ∷ after_ranges p ∷ []) (ranges ∷ before_reset p ∷ []) f (splits_more ranges (after_ranges p ∷ []) (before_reset p ∷ []) f (splits_last (after_ranges p) (before_reset p) f (after_splits p))) s b e

-- ---- the reading of a text up to the reset of its limits

-- a text with the masks of ranges
abbrev range_state : Shaping → BufferState → BufferState
range_state p s = state_after (with_ranges p.map p.features (numbers s.origins) s.view) s

record IsRead (p : Shaping) (s : BufferState) (r : Read) : Type 0 where
  chars : Read
  last : Read
  chars_is : before_ranges p s.view ≡ Ok chars
  last_is : before_reset p (range_state p (state_after chars s)).view ≡ Ok last
  both : state_after r s ≡ state_after last (range_state p (state_after chars s))
  many : merge_count s.level last ≤ merge_count s.level r

is_read : (p : Shaping) (s : BufferState) (r : Read) → reading_before_reset p s ≡ Ok r → IsRead p s r
unfolding reading_before_reset
is_read p s r e =
    let clusters = clusters_after (before_ranges p s.view) s in
    let one = both_of (before_ranges p) (in_order (ranges_set p clusters ∷ before_reset p ∷ [])) s r e in
    let s1 = state_after one.once s in
    let here : clusters ≡ numbers s1.origins = ap (λ (x : Reading). clusters_after x s) one.once_is in
    let two = state_by_then (with_ranges p.map p.features clusters) (in_order (before_reset p ∷ [])) s1 one.again one.again_is in
    let s2 = state_by (with_ranges p.map p.features clusters) s1 in
    let s2_is : s2 ≡ range_state p s1 = ap (λ ns. state_by (with_ranges p.map p.features ns) s1) here in
    let three = both_of (before_reset p) (in_order []) s2 two.again two.again_is in
    let m1 = one.many in
    let m2 = two.many in
    let m3 = three.many in
    record {
      chars = one.once;
      last = three.once;
      chars_is = one.once_is;
      last_is = ap (λ (t : BufferState). before_reset p t.view) (sym s2_is) ∙ three.once_is;
      both = one.both ∙ two.both ∙ three.both ∙ nothing_then (state_after three.once s2) three.again three.again_is ∙ ap (state_after three.once) s2_is;
      many = omega (arith, m1, m2, m3);
    }

-- the limits are enough for its glyphs
enough_spared : (p : Shaping) (s : BufferState) (r : Read) (q : IsRead p s r) → reading_before_reset p s ≡ Ok r → HasEnough p s → (state_after q.chars s).view.lig_id ≡ 0 → IsSpared s.level (range_state p (state_after q.chars s)).view q.last
enough_spared p s r q is h none =
    let left : is_left r.view.max_ops ≡ true = subst (λ (x : Reading). IfOk (left_by x) (λ n. is_left n ≡ true)) is h.budget in
    let most : merges (without_concats (r.events s.level)) ≤ 7 = subst (λ (x : Reading). IfOk x (λ (y : Read). merges (without_concats (y.events s.level)) ≤ 7)) is h.numbers in
    let many = q.many in
    record { budget = ap is_left (sym (ap (λ (t : BufferState). t.view.max_ops) q.both)) ∙ left; numbers = omega (arith, most, many, none) }

-- ---- SAFE_TO_INSERT_TATWEEL is cleared at first

begun_clear : (p : Shaping) (s : BufferState) (r : Read) → s.asks.tatweel ≡ false → text_begun p s.view ≡ Ok r → HaveNoTatweel (state_after r s).origins
unfolding text_begun
begun_clear p s r none e =
    let mask = p.map.global_mask in
    let circle = first_circle p.tables p.font p.settings.flags p.settings.pre_context in
    let rest2 = in_order (always (with_properties p.tables) ∷ circle ∷ always with_clusters ∷ always (native_order p.settings.script) ∷ []) in
    let rest1 = in_order (always (with_one_mask mask) ∷ always (with_properties p.tables) ∷ circle ∷ always with_clusters ∷ always (native_order p.settings.script) ∷ []) in
    let one = state_by_then initial_view rest1 s r e in
    let s1 = state_by initial_view s in
    let two = state_by_then (with_one_mask mask) rest2 s1 one.again one.again_is in
    let s2 = state_by (with_one_mask mask) s1 in
    subst (λ (t : BufferState). HaveNoTatweel t.origins) (sym (one.both ∙ two.both)) (still_clear two.again s2 none (unmarked_clear s.origins))

chars_clear : (p : Shaping) (s : BufferState) (r : Read) → s.asks.tatweel ≡ false → before_ranges p s.view ≡ Ok r → HaveNoTatweel (state_after r s).origins
unfolding before_ranges
chars_clear p s r none e =
    let one = both_of (text_begun p) (in_order (characters_chosen p ∷ masks_set p ∷ [])) s r e in
    subst (λ (t : BufferState). HaveNoTatweel t.origins) (sym one.both) (still_clear one.again (state_after one.once s) none (begun_clear p s one.once none one.once_is))

tatweel_of : (p : Shaping) (s : BufferState) (r : Read) → before_ranges p s.view ≡ Ok r → (s.asks.tatweel ≡ true) ⊎ HaveNoTatweel (state_after r s).origins
tatweel_of p s r e = by_test s.asks.tatweel refl
  where
    by_test : (t : Bool) → s.asks.tatweel ≡ t → (s.asks.tatweel ≡ true) ⊎ HaveNoTatweel (state_after r s).origins
    by_test true is = inl is
    by_test false is = inr (chars_clear p s r is e)

-- ---- results

record IsFollowed (a : Reading) (old new : BufferState) : Type 0 where
  read : Read
  read_is : a ≡ Ok read
  state : new ≡ state_after read old

is_followed : (a : Reading) (old new : BufferState) → Follows a old new → IsFollowed a old new
is_followed (Ok r) old new h = record { read = r; read_is = refl; state = h }
is_followed (Err e) old new h = absurd h

-- what was read of a text up to the reset of its limits, and what that leaves
record IsResult (p : Shaping) (s result : BufferState) : Type 0 where
  all : Read
  all_is : reading_before_reset p s ≡ Ok all
  parts : IsRead p s all
  state : result ≡ final_state p parts.last (range_state p (state_after parts.chars s))

is_result : (p : Shaping) (s result : BufferState) → Follows (reading p s) s result → IsResult p s result
is_result p s result h =
    let followed = is_followed (reading p s) s result h in
    let split = reading_splits p s followed.read followed.read_is in
    let is = sym (reset_is p s) ∙ split.read_is in
    let parts = is_read p s split.read is in
    record { all = split.read; all_is = is; parts = parts; state = followed.state ∙ split.last ∙ ap (state_by (final_view p.direction)) parts.both }

ranged_as : (p q : Shaping) (s : BufferState) → q ≡ record p { settings = q.settings } → range_state p s ≡ range_state q s
ranged_as p q s e = ap (λ (k : Shaping). range_state k s) (sym e)

pub texts_show_both : TextsShowBoth
texts_show_both seam p p1 p2 c whole earlier later result first second falls shapings texts apart ends early_ends late_ends enough early_enough late_enough follows_r follows_e follows_l cut order =
    let rr = is_result p whole result follows_r in
    let ee = is_result p1 earlier first follows_e in
    let ll = is_result p2 later second follows_l in
    let w1 = state_after rr.parts.chars whole in
    let e1 = state_after ee.parts.chars earlier in
    let l1 = state_after ll.parts.chars later in
    let stays = texts rr.parts.chars ee.parts.chars ll.parts.chars rr.parts.chars_is ee.parts.chars_is ll.parts.chars_is in
    let ranges = ranges_of_both_divide p.map p.features c w1 e1 l1 stays in
    let broken : StaysBroken c (range_state p w1) (range_state p1 e1) (range_state p2 l1) =
    subst (λ (s : BufferState). StaysBroken c (range_state p w1) s (range_state p2 l1)) (ranged_as p p1 e1 shapings.early_is) (subst (λ (s : BufferState). StaysBroken c (range_state p w1) (range_state p e1) s) (ranged_as p p2 l1 shapings.late_is) ranges) in
    let shows = glyphs_show_both seam p p1 p2 c (range_state p w1) (range_state p1 e1) (range_state p2 l1) rr.parts.last ee.parts.last ll.parts.last falls shapings broken apart (ends rr.parts.chars rr.parts.chars_is) (early_ends ee.parts.chars ee.parts.chars_is) (late_ends ll.parts.chars ll.parts.chars_is) rr.parts.last_is ee.parts.last_is ll.parts.last_is
    (enough_spared p whole rr.all rr.parts rr.all_is enough stays.numbers.whole_none) (enough_spared p1 earlier ee.all ee.parts ee.all_is early_enough stays.numbers.early_none)
    (enough_spared p2 later ll.all ll.parts ll.all_is late_enough stays.numbers.late_none) (tatweel_of p whole rr.parts.chars rr.parts.chars_is)
    (subst (MayBeCutAt c) rr.state cut) (subst (λ (s : BufferState). IsInOrder falls (numbers s.origins)) rr.state order) in
    let w2 = final_state p rr.parts.last (range_state p w1) in
    let e2 = final_state p1 ee.parts.last (range_state p1 e1) in
    let l2 = final_state p2 ll.parts.last (range_state p2 l1) in
    subst (λ (s : BufferState). ShowsBoth falls s first second) (sym rr.state) (subst (λ (s : BufferState). ShowsBoth falls w2 s second) (sym ee.state) (subst (λ (s : BufferState). ShowsBoth falls w2 e2 s) (sym ll.state) shows))
