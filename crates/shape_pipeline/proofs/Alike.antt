-- Readings of runs that are seen alike.
use Rattle.std.proofs.Common.{ℕ, ◌≡◌, ◌&&◌, Bool, true, false, if◌then◌else◌, List, [], ◌∷◌, Ok, Err, refl, sym, ap, ◌∙◌}
use Rattle.buffer_tags.specs.declared.feature.Feature.{Feature}
use Rattle.buffer_tags.specs.Feature.{is_global}
use Rattle.buffer_glyphs.specs.Items.{Item}
use Rattle.buffer_core.specs.Readings.{Reading, BufferState, Stage, View, and_then, then_reading, with_events}
use Rattle.buffer_core.specs.Masks.{items_set}
use Rattle.buffer_core.specs.Sides.{Settings}
use Rattle.buffer_stages.specs.Settings.{text_flags, text_settings_of}
use Rattle.layout_map.specs.Compiled.{OtMapValue}
use Rattle.shape_text.specs.Ranges.{bits_of, shifted_value, with_all_ranges, with_range}
use Rattle.shape_pipeline.specs.Chains.{in_order}
use Rattle.shape_pipeline.specs.ReadingLaws.{have_no_ranges}
use Rattle.shape_pipeline.specs.Masks.{ranges_set}
use Rattle.shape_pipeline.specs.Reading.{after_ranges, before_ranges, clusters_after, reading, shaping_stage}
use Rattle.shape_pipeline.specs.Shaping.{Shaping}
use Rattle.buffer_facts.proofs.Truth.{both_true as parts_hold}

pub range_none : (b : Bool) (xs ys : List Item) → b ≡ true → (if b then xs else ys) ≡ xs
range_none true xs ys h = refl
range_none false xs ys h = cc

-- features for all glyphs set no mask of a range
pub no_ranges : (map : OtMapValue) (fs : List Feature) (ns : List ℕ) (xs : List Item) → have_no_ranges fs ≡ true → with_all_ranges map fs ns xs ≡ xs
no_ranges map [] ns xs h = refl
no_ranges map (f ∷ fs) ns xs h =
    let both = parts_hold (is_global f) (have_no_ranges fs) h in
    let first : with_range map f ns xs ≡ xs = range_none (is_global f) xs (items_set (shifted_value f map) (bits_of f map) f.start f.end ns xs) both.0 in
    ap (with_all_ranges map fs ns) first ∙ no_ranges map fs ns xs both.1

ranges_alike : (p : Shaping) (ns ms : List ℕ) (v : View) → have_no_ranges p.features ≡ true → ranges_set p ns v ≡ ranges_set p ms v
ranges_alike p ns ms v h = ap (λ xs. Ok (with_events [] (record v { items = xs }))) (no_ranges p.map p.features ns v.items h ∙ sym (no_ranges p.map p.features ms v.items h))

pub then_alike : (r : Reading) (a b : Stage) → ((v : View) → a v ≡ b v) → and_then r a ≡ and_then r b
then_alike (Ok r) a b same = ap (then_reading r) (same r.view)
then_alike (Err e) a b same = refl

shaped_alike : (p : Shaping) (ns ms : List ℕ) (v : View) → have_no_ranges p.features ≡ true → shaping_stage p ns v ≡ shaping_stage p ms v
unfolding shaping_stage
shaped_alike p ns ms v h =
    then_alike (before_ranges p v) (in_order (ranges_set p ns ∷ after_ranges p ∷ [])) (in_order (ranges_set p ms ∷ after_ranges p ∷ []))
    (λ w. ap (λ r. and_then r (in_order (after_ranges p ∷ []))) (ranges_alike p ns ms w h))

pub runs_read_alike : (p : Shaping) (a b : BufferState) → have_no_ranges p.features ≡ true → a.view ≡ b.view → reading p a ≡ reading p b
unfolding reading
runs_read_alike p a b h same =
    shaped_alike p (clusters_after (before_ranges p a.view) a) (clusters_after (before_ranges p b.view) b) a.view h ∙ ap (shaping_stage p (clusters_after (before_ranges p b.view) b)) same

pub settings_read_alike : (a b : Settings) → b ≡ record a { level = b.level; flags = b.flags } → text_flags a.flags ≡ text_flags b.flags → text_settings_of a ≡ text_settings_of b
settings_read_alike a b e same =
    let there : text_settings_of (record a { level = b.level; flags = b.flags }) ≡ text_settings_of b = ap text_settings_of (sym e) in
    ap (λ fs. record (text_settings_of a) { flags = fs }) same ∙ there
