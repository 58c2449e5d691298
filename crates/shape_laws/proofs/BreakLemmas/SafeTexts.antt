-- Safe breaks of texts, by the plans of their shapers.
use Rattle.std.proofs.Common.{ℕ, ◌≡◌, ◌<◌, ◌==◌, ◌+◌, Bool, true, false, if◌then◌else◌, List, [], Option, Ok, length, arith, refl, sym, ap, subst, ◌∙◌}
use Rattle.std.specs.Prelude.{⊤}
use Rattle.std.proofs.lemmas.Bool.Decides.{nat_tests}
use Rattle.std.proofs.lemmas.List.{length-append}
use Rattle.buffer_common.specs.ScriptTags.{wanted_language_tags}
use Rattle.buffer_common.specs.declared.direction.Direction.{Direction}
use Rattle.buffer_common.specs.declared.script.Script.{Script}
use Rattle.buffer_common.specs.declared.tag.Tag.{Tag}
use Rattle.buffer_tags.specs.declared.feature.Feature.{Feature}
use Rattle.buffer_glyphs.specs.Origins.{numbers}
use Rattle.buffer_unicode_tables.specs.Lawful.{AsciiHasNoMarks}
use Rattle.buffer_unicode_tables.specs.Tables.{Tables}
use Rattle.buffer_parts.specs.Counting.{is_left}
use Rattle.buffer_parts.specs.Lemmas.Stages.{same_read}
use Rattle.buffer_core.specs.Readings.{BufferState, Follows, Read, Reading, Stage, View, as_it_is, state_after, with_events}
use Rattle.buffer_core.specs.Sides.{Sides, state_of}
use Rattle.buffer_stages.specs.Settings.{TextSettings, text_settings}
use Rattle.layout_laws.specs.Breaks.Seams.{IsDivisibleAtSeam}
use Rattle.layout_face.specs.declared.parts.FaceParts.{FaceParts}
use Rattle.layout_map.specs.Compiled.{OtMapValue}
use Rattle.layout_substitution.specs.Substituting.{substitution_stages}
use Rattle.script_categories.specs.declared.shaper.hb_ot_script_shaper_t.TheVariants.{ARABIC_SHAPER, HANGUL_SHAPER, HEBREW_SHAPER, INDIC_SHAPER, KHMER_SHAPER, MYANMAR_SHAPER, MYANMAR_ZAWGYI_SHAPER, THAI_SHAPER, UNIVERSAL_SHAPER}
use Rattle.script_dispatch.specs.declared.any_shaper.hb_ot_any_shaper_t.{hb_ot_any_shaper_t}
use Rattle.script_dispatch.specs.declared.any_shaper.hb_ot_any_shaper_t.TheVariants as any
use Rattle.script_dispatch.specs.Requests.{any_kind}
use Rattle.script_dispatch.specs.Rules.{rules_of, script_rules}
use Rattle.script_plan.specs.Plans.{planned_map, planned_shaper, text_map, text_plan}
use Rattle.script_plan.specs.Rules.{ShaperRules, Spans}
use Rattle.script_plan.specs.declared.plan.hb_script_plan_t.{hb_script_plan_t}
use Rattle.script_plan.specs.declared.plan.hb_ot_shape_plan_t.{hb_ot_shape_plan_t}
use Rattle.shape_pipeline.specs.Characters.{normalizer}
use Rattle.shape_text.specs.Ranges.{with_ranges}
use Rattle.shape_pipeline.specs.Limits.{unshaped_text}
use Rattle.shape_pipeline.specs.Plans.{IsPlanOf}
use Rattle.shape_pipeline.specs.Reading.{reading}
use Rattle.shape_pipeline.specs.Shaped.{by_shaper, by_text, language_tags, text_reading}
use Rattle.shape_pipeline.specs.Shaping.{Shaping, pauses_of, postprocessing_stage}
use Rattle.shape_laws.specs.Breaks.Apart.{EndsPlainly, HasNoEnd}
use Rattle.shape_laws.specs.Breaks.ByShaper.{ArabicMayBeCut, HangulMayBeCut, HasNoTiles, MarksMayBeCut, MayBeCutBy, ThaiMayBeCut}
use Rattle.shape_laws.specs.Breaks.Characters.{KeepsMarks, OrderEndsUnjoined}
use Rattle.shape_laws.specs.Breaks.PlannedPauses.{FindsNoSyllables}
use Rattle.shape_laws.specs.Breaks.Rewrites.{HasNoStages}
use Rattle.shape_laws.specs.Breaks.SafeBreaks.{TextEndsPlainly, TextsStayBroken}
use Rattle.shape_laws.specs.Breaks.SafeTexts.{AreCut, AreOfOneLanguage, AreShapedBy, HaveEnough, HavePlainEnds, IsSafelyCut, PlannedTextsHaveSafeBreaks, SafeBreaks, SafeBreaksOfPlans, planned_shaping}
use Rattle.shape_laws.specs.Breaks.Seams.{EndPlainly, are_apart}
use Rattle.shape_laws.specs.Breaks.Texts.{AreBrokenShapings, IsNativeLine, KnowsGraphemes}
use Rattle.shape_laws.proofs.BreakLemmas.Adjusted.{glyphs_are_positioned_apart}
use Rattle.shape_laws.proofs.BreakLemmas.HangulApart.{hangul_characters_divide}
use Rattle.shape_laws.proofs.BreakLemmas.Known.{ascii_knows_graphemes}
use Rattle.shape_laws.proofs.BreakLemmas.Plain.{plain_rules_have_no_stages}
use Rattle.shape_laws.proofs.BreakLemmas.Readings.{texts_show_both}
use Rattle.shape_laws.proofs.BreakLemmas.Scripts.{arabic_characters_divide, characters_divide, hebrew_rules_have_no_stages, mark_orders_end_unjoined, none_rewrites}
use Rattle.shape_laws.proofs.BreakLemmas.SeamPlans.{planned_positioning_ends_plainly, planned_substitution_keeps_seams}
use Rattle.shape_laws.proofs.BreakLemmas.Substituted.{glyphs_are_substituted_apart}
use Rattle.shape_laws.proofs.BreakLemmas.ThaiApart.{thai_characters_divide}
use Rattle.shape_laws.proofs.BreakLemmas.Untiled.{untiled_end}

-- ---- shapers

-- a shaper has no stage of its own but an order of marks: the default one, the dumber one, and those of Hebrew and Zawgyi
abbrev HasNoOwnStages : hb_ot_any_shaper_t → Type 0
HasNoOwnStages any.Default = Unit {0}
HasNoOwnStages any.Dumber = Unit {0}
HasNoOwnStages (any.Script HEBREW_SHAPER) = Unit {0}
HasNoOwnStages (any.Script MYANMAR_ZAWGYI_SHAPER) = Unit {0}
HasNoOwnStages (any.Script ARABIC_SHAPER) = ⊥
HasNoOwnStages (any.Script HANGUL_SHAPER) = ⊥
HasNoOwnStages (any.Script THAI_SHAPER) = ⊥
HasNoOwnStages (any.Script INDIC_SHAPER) = ⊥
HasNoOwnStages (any.Script KHMER_SHAPER) = ⊥
HasNoOwnStages (any.Script MYANMAR_SHAPER) = ⊥
HasNoOwnStages (any.Script UNIVERSAL_SHAPER) = ⊥

no_stages : (shaper : hb_ot_any_shaper_t) (plan : hb_script_plan_t ⊤) → HasNoOwnStages shaper → HasNoStages (rules_of shaper plan)
no_stages any.Default plan h = plain_rules_have_no_stages
no_stages any.Dumber plan h = plain_rules_have_no_stages
no_stages (any.Script HEBREW_SHAPER) plan h = hebrew_rules_have_no_stages plan
no_stages (any.Script MYANMAR_ZAWGYI_SHAPER) plan h = record { preprocesses = λ font t settings. refl; sets_masks = λ font t settings. refl; reorders = none_rewrites }
no_stages (any.Script ARABIC_SHAPER) plan h = absurd h
no_stages (any.Script HANGUL_SHAPER) plan h = absurd h
no_stages (any.Script THAI_SHAPER) plan h = absurd h
no_stages (any.Script INDIC_SHAPER) plan h = absurd h
no_stages (any.Script KHMER_SHAPER) plan h = absurd h
no_stages (any.Script MYANMAR_SHAPER) plan h = absurd h
no_stages (any.Script UNIVERSAL_SHAPER) plan h = absurd h

no_end : (shaper : hb_ot_any_shaper_t) (plan : hb_script_plan_t ⊤) → HasNoOwnStages shaper → (font : FaceParts) (settings : TextSettings) → (rules_of shaper plan).postprocesses font settings ≡ as_it_is
no_end any.Default plan h font settings = refl
no_end any.Dumber plan h font settings = refl
no_end (any.Script HEBREW_SHAPER) plan h font settings = refl
no_end (any.Script MYANMAR_ZAWGYI_SHAPER) plan h font settings = refl
no_end (any.Script ARABIC_SHAPER) plan h font settings = absurd h
no_end (any.Script HANGUL_SHAPER) plan h font settings = absurd h
no_end (any.Script THAI_SHAPER) plan h font settings = absurd h
no_end (any.Script INDIC_SHAPER) plan h font settings = absurd h
no_end (any.Script KHMER_SHAPER) plan h font settings = absurd h
no_end (any.Script MYANMAR_SHAPER) plan h font settings = absurd h
no_end (any.Script UNIVERSAL_SHAPER) plan h font settings = absurd h

no_syllables : (shaper : hb_ot_any_shaper_t) → HasNoOwnStages shaper → FindsNoSyllables shaper
no_syllables any.Default h = tt
no_syllables any.Dumber h = tt
no_syllables (any.Script HEBREW_SHAPER) h = tt
no_syllables (any.Script MYANMAR_ZAWGYI_SHAPER) h = tt
no_syllables (any.Script ARABIC_SHAPER) h = absurd h
no_syllables (any.Script HANGUL_SHAPER) h = absurd h
no_syllables (any.Script THAI_SHAPER) h = absurd h
no_syllables (any.Script INDIC_SHAPER) h = absurd h
no_syllables (any.Script KHMER_SHAPER) h = absurd h
no_syllables (any.Script MYANMAR_SHAPER) h = absurd h
no_syllables (any.Script UNIVERSAL_SHAPER) h = absurd h

-- ---- plans

planned_is : (font : FaceParts) (languages : List Tag) (d : Direction) (script : Option Script) (features : List Feature)
    → (text_plan any_kind font languages d script features).map ≡ planned_map (any_kind.asking (planned_shaper any_kind font languages d script)) font languages d script features
unfolding text_plan text_map
planned_is font languages d script features = refl

-- what a text is shaped by, of its language, its direction, its script and its settings
abbrev shaping_in : (font : FaceParts) (tables : Tables) (tags : List ℕ → List Tag) (spans : Spans) (features : List Feature) → List Tag → Direction → Option Script → TextSettings → Shaping
shaping_in font tables tags spans features languages d script settings =
    by_shaper (planned_shaper any_kind font languages d script) (text_plan any_kind font languages d script features) features font tables spans settings

shaped_alike : (font : FaceParts) (tables : Tables) (tags : List ℕ → List Tag) (spans : Spans) (features : List Feature) (a b : Sides) → b.language ≡ a.language → b.direction ≡ a.direction → b.script ≡ a.script
    → by_text font tables tags spans features b ≡ record (by_text font tables tags spans features a) { settings = (by_text font tables tags spans features b).settings }
shaped_alike font tables tags spans features a b l d s =
    ap (λ languages. shaping_in font tables tags spans features (wanted_language_tags tags languages) b.direction b.script (text_settings b)) l
    ∙ ap (λ (e : Direction). shaping_in font tables tags spans features (language_tags tags a) e b.script (text_settings b)) d
    ∙ ap (λ (script : Option Script). shaping_in font tables tags spans features (language_tags tags a) a.direction script (text_settings b)) s

shapings_of : (font : FaceParts) (tables : Tables) (tags : List ℕ → List Tag) (spans : Spans) (features : List Feature) (c : ℕ) (whole earlier later : Sides) → AreCut c whole earlier later → AreOfOneLanguage whole earlier later
    → AreBrokenShapings (by_text font tables tags spans features whole) (by_text font tables tags spans features earlier) (by_text font tables tags spans features later)
shapings_of font tables tags spans features c whole earlier later h one = record {
  early_is = shaped_alike font tables tags spans features whole earlier one.early h.broken.early_of.direction (ap (λ (t : TextSettings). t.script) h.settings.early_is);
  late_is = shaped_alike font tables tags spans features whole later one.late h.broken.late_of.direction (ap (λ (t : TextSettings). t.script) h.settings.late_is);
  settings = h.settings;
}

-- GSUB by a shaping
abbrev gsub_of : Shaping → Stage
gsub_of p = substitution_stages p.font p.map (pauses_of p)

-- of shapings alike but for their settings
gsub_at_seam : (p p1 p2 : Shaping) → p1 ≡ record p { settings = p1.settings } → p2 ≡ record p { settings = p2.settings }
    → ((early late : TextSettings) → IsDivisibleAtSeam false (gsub_of p) (gsub_of (record p { settings = early })) (gsub_of (record p { settings = late }))) → IsDivisibleAtSeam false (gsub_of p) (gsub_of p1) (gsub_of p2)
gsub_at_seam p p1 p2 e f h =
    subst (λ (q : Shaping). IsDivisibleAtSeam false (gsub_of p) (gsub_of p1) (gsub_of q)) (sym f) (subst (λ (q : Shaping). IsDivisibleAtSeam false (gsub_of p) (gsub_of q) (gsub_of (record p { settings = p2.settings }))) (sym e) (h p1.settings p2.settings))

no_end_of : (p q : Shaping) → q ≡ record p { settings = q.settings } → ((font : FaceParts) (settings : TextSettings) → p.rules.postprocesses font settings ≡ as_it_is) → postprocessing_stage q ≡ as_it_is
no_end_of p q e h = ap (λ (k : Shaping). postprocessing_stage k) e ∙ h p.font q.settings

-- a shaper without a last stage leaves texts as they are
plain_end : (p : Shaping) → HasNoEnd p → (v : View) → EndsPlainly p v
plain_end p none v = record {
  same = λ a r is_a many is. sym (nothing p none a.view r is);
  budget = λ w r is left. subst (λ (x : Read). is_left x.view.max_ops ≡ true) (sym (nothing p none w r is)) left;
}
  where
    nothing : (p : Shaping) → HasNoEnd p → (w : View) (r : Read) → postprocessing_stage p w ≡ Ok r → with_events [] w ≡ r
    nothing p none w r is = same_read (with_events [] w) r (sym (ap (λ (f : Stage). f w) none) ∙ is)

plain_text_end : (p : Shaping) → HasNoEnd p → (t : BufferState) → TextEndsPlainly p t
plain_text_end p none t r is = plain_end p none (with_ranges p.map p.features (numbers (state_after r t).origins) r.view).view

-- ---- texts

-- a text with characters is read as it is shaped
reading_of_text : (p : Shaping) (s : BufferState) → 0 < length s.view.items → text_reading p s ≡ reading p s
unfolding text_reading
reading_of_text p s some = by_test (length s.view.items == 0) refl
  where
    by_test : (b : Bool) → (length s.view.items == 0) ≡ b → (if b then Ok (unshaped_text s.view) else reading p s) ≡ reading p s
    by_test true e = absurd (let none : length s.view.items ≡ 0 = grind (arith, nat_tests, e) in omega (arith, none, some))
    by_test false e = refl

-- safe breaks by a plan's shaper, its map, and the settings of three texts
shows_by : (shaper : hb_ot_any_shaper_t) (plan : hb_script_plan_t ⊤) (own : List Feature) (font : FaceParts) (tables : Tables) (spans : Spans) (languages : List Tag) (d : Direction) (script : Option Script) (features : List Feature)
    (p p1 p2 : Shaping) (c : ℕ) (whole earlier later result first second : Sides) → p ≡ by_shaper shaper plan own font tables spans (text_settings whole) → AreBrokenShapings p p1 p2
    → plan.map ≡ planned_map (any_kind.asking shaper) font languages d script features → FindsNoSyllables shaper → AreCut c whole earlier later
    → TextsStayBroken p p1 p2 c (state_of whole) (state_of earlier) (state_of later) → HavePlainEnds p p1 p2 whole earlier later → HaveEnough p p1 p2 whole earlier later → AreShapedBy p p1 p2 whole earlier later result first second
    → IsSafelyCut c result first second
shows_by shaper plan own font tables spans languages d script features p p1 p2 c whole earlier later result first second by shapings is none cut texts ends enough shaped falls at order =
    let b = cut.broken in
    let early_items : 0 < length (state_of earlier).view.items = let some = b.early_some in let many = b.early_whole.origins in omega (arith, some, many) in
    let late_items : 0 < length (state_of later).view.items = let some = b.late_some in let many = b.late_whole.origins in omega (arith, some, many) in
    let items : 0 < length (state_of whole).view.items =
    let many : length (state_of whole).view.items ≡ length (state_of earlier).view.items + length (state_of later).view.items = ap length b.items ∙ length-append (state_of earlier).view.items (state_of later).view.items in omega (arith, many, early_items) in
    let seams : (early late : TextSettings) → IsDivisibleAtSeam false (gsub_of p) (gsub_of (record p { settings = early })) (gsub_of (record p { settings = late })) =
    λ early late. subst (λ (q : Shaping). IsDivisibleAtSeam false (gsub_of q) (gsub_of (record q { settings = early })) (gsub_of (record q { settings = late }))) (sym by)
    (planned_substitution_keeps_seams false shaper plan font languages d script features tables spans (text_settings whole) early late none is) in
    let gsub = gsub_at_seam p p1 p2 shapings.early_is shapings.late_is seams in
    let gpos = subst (λ (q : Shaping). EndPlainly q.map.tables.gpos.stages) (sym by) (subst (λ (m : OtMapValue). EndPlainly m.tables.gpos.stages) (sym is) (planned_positioning_ends_plainly shaper font languages d script features)) in
    texts_show_both are_apart p p1 p2 c (state_of whole) (state_of earlier) (state_of later) (state_of result) (state_of first) (state_of second) falls shapings texts
    (record { substitutes = glyphs_are_substituted_apart p p1 p2 shapings gsub; positions = glyphs_are_positioned_apart p p1 p2 shapings gpos }) ends.all ends.early ends.late
    enough.all enough.early enough.late (subst (λ (a : Reading). Follows a (state_of whole) (state_of result)) (reading_of_text p (state_of whole) items) shaped.all)
    (subst (λ (a : Reading). Follows a (state_of earlier) (state_of first)) (reading_of_text p1 (state_of earlier) early_items) shaped.early)
    (subst (λ (a : Reading). Follows a (state_of later) (state_of second)) (reading_of_text p2 (state_of later) late_items) shaped.late) at order

-- ---- by shaper

-- what is known of a shaper's text that is cut
record IsReadyToCut (shaper : hb_ot_any_shaper_t) (p p1 p2 : Shaping) (c : ℕ) (whole earlier later : Sides) : Type 0 where
  none : FindsNoSyllables shaper
  texts : TextsStayBroken p p1 p2 c (state_of whole) (state_of earlier) (state_of later)
  ends : HavePlainEnds p p1 p2 whole earlier later

-- what is known of each shaper's text
record IsKnownCut (p p1 p2 : Shaping) (c : ℕ) (whole earlier later : Sides) : Type 0 where
  shapings : AreBrokenShapings p p1 p2
  cut : AreCut c whole earlier later
  native : IsNativeLine p.settings.script whole.direction
  graphemes : KnowsGraphemes p.tables
  keeps : KeepsMarks (normalizer p)

-- texts of shapers without a last stage
plain_ends : (p p1 p2 : Shaping) (whole earlier later : Sides) → AreBrokenShapings p p1 p2 → ((font : FaceParts) (settings : TextSettings) → p.rules.postprocesses font settings ≡ as_it_is) → HavePlainEnds p p1 p2 whole earlier later
plain_ends p p1 p2 whole earlier later shapings none = record {
  all = plain_text_end p (none p.font p.settings) (state_of whole);
  early = plain_text_end p1 (no_end_of p p1 shapings.early_is none) (state_of earlier);
  late = plain_text_end p2 (no_end_of p p2 shapings.late_is none) (state_of later);
}

-- texts of shapers without stages of their own
ready_plainly : (shaper : hb_ot_any_shaper_t) (plan : hb_script_plan_t ⊤) (p p1 p2 : Shaping) (c : ℕ) (whole earlier later : Sides) → HasNoOwnStages shaper → p.rules ≡ rules_of shaper plan → IsKnownCut p p1 p2 c whole earlier later → MarksMayBeCut earlier later
    → IsReadyToCut shaper p p1 p2 c whole earlier later
ready_plainly shaper plan p p1 p2 c whole earlier later none rules k may =
    let stages : HasNoStages p.rules = subst HasNoStages (sym rules) (no_stages shaper plan none) in
    let unjoined : OrderEndsUnjoined p.rules.reorders = subst (λ (q : ShaperRules). OrderEndsUnjoined q.reorders) (sym rules) (mark_orders_end_unjoined shaper plan) in
    record {
      none = no_syllables shaper none;
      texts = λ r e l is_r is_e is_l. characters_divide p p1 p2 c (state_of whole) (state_of earlier) (state_of later) r e l k.shapings stages k.keeps unjoined k.graphemes k.cut.ready k.cut.broken k.native may is_r is_e is_l;
      ends = plain_ends p p1 p2 whole earlier later k.shapings (λ font settings. ap (λ (q : ShaperRules). q.postprocesses font settings) rules ∙ no_end shaper plan none font settings);
    }

-- a text of the Arabic shaper without tiles
untiled_text_end : (plan : hb_script_plan_t ⊤) (p : Shaping) (text : Sides) → p.rules ≡ script_rules ARABIC_SHAPER plan → HasNoTiles p text → TextEndsPlainly p (state_of text)
untiled_text_end plan p text rules none r is =
    untiled_end p (with_ranges p.map p.features (numbers (state_after r (state_of text)).origins) r.view).view (λ w. ap (λ (q : ShaperRules). q.postprocesses p.font p.settings w) rules) (λ a is_a. none r a is is_a)

ready_joined : (plan : hb_script_plan_t ⊤) (p p1 p2 : Shaping) (c : ℕ) (whole earlier later : Sides) → p.rules ≡ script_rules ARABIC_SHAPER plan → IsKnownCut p p1 p2 c whole earlier later → ArabicMayBeCut plan p p1 p2 whole earlier later
    → IsReadyToCut (any.Script ARABIC_SHAPER) p p1 p2 c whole earlier later
ready_joined plan p p1 p2 c whole earlier later rules k may = record {
  none = tt;
  texts = λ r e l is_r is_e is_l. arabic_characters_divide plan p p1 p2 c (state_of whole) (state_of earlier) (state_of later) r e l rules may.script k.shapings k.keeps may.types may.direction k.graphemes k.cut.ready k.cut.broken k.native may.marks may.shown is_r is_e is_l;
  ends = record {
    all = untiled_text_end plan p whole rules may.untiled;
    early = untiled_text_end plan p1 earlier (ap (λ (q : Shaping). q.rules) k.shapings.early_is ∙ rules) may.early_untiled;
    late = untiled_text_end plan p2 later (ap (λ (q : Shaping). q.rules) k.shapings.late_is ∙ rules) may.late_untiled;
  };
}

ready_thai : (plan : hb_script_plan_t ⊤) (p p1 p2 : Shaping) (c : ℕ) (whole earlier later : Sides) → p.rules ≡ script_rules THAI_SHAPER plan → IsKnownCut p p1 p2 c whole earlier later → ThaiMayBeCut p earlier later
    → IsReadyToCut (any.Script THAI_SHAPER) p p1 p2 c whole earlier later
ready_thai plan p p1 p2 c whole earlier later rules k may = record {
  none = tt;
  texts = λ r e l is_r is_e is_l. thai_characters_divide plan p p1 p2 c (state_of whole) (state_of earlier) (state_of later) r e l rules k.shapings k.keeps may.forms k.graphemes k.cut.ready k.cut.broken k.native may.begins may.marks is_r is_e is_l;
  ends = plain_ends p p1 p2 whole earlier later k.shapings (λ font settings. ap (λ (q : ShaperRules). q.postprocesses font settings) rules);
}

ready_hangul : (plan : hb_script_plan_t ⊤) (p p1 p2 : Shaping) (c : ℕ) (whole earlier later : Sides) → p.rules ≡ script_rules HANGUL_SHAPER plan → IsKnownCut p p1 p2 c whole earlier later → HangulMayBeCut p earlier later
    → IsReadyToCut (any.Script HANGUL_SHAPER) p p1 p2 c whole earlier later
ready_hangul plan p p1 p2 c whole earlier later rules k may = record {
  none = tt;
  texts = λ r e l is_r is_e is_l. hangul_characters_divide plan p p1 p2 c (state_of whole) (state_of earlier) (state_of later) r e l rules k.shapings k.keeps k.graphemes k.cut.ready k.cut.broken k.native may.begins may.marks is_r is_e is_l;
  ends = plain_ends p p1 p2 whole earlier later k.shapings (λ font settings. ap (λ (q : ShaperRules). q.postprocesses font settings) rules);
}

ready_by : (shaper : hb_ot_any_shaper_t) (plan : hb_script_plan_t ⊤) (p p1 p2 : Shaping) (c : ℕ) (whole earlier later : Sides) → p.rules ≡ rules_of shaper plan → IsKnownCut p p1 p2 c whole earlier later → MayBeCutBy shaper plan p p1 p2 whole earlier later
    → IsReadyToCut shaper p p1 p2 c whole earlier later
ready_by any.Default plan p p1 p2 c whole earlier later rules k may = ready_plainly any.Default plan p p1 p2 c whole earlier later tt rules k may
ready_by any.Dumber plan p p1 p2 c whole earlier later rules k may = ready_plainly any.Dumber plan p p1 p2 c whole earlier later tt rules k may
ready_by (any.Script HEBREW_SHAPER) plan p p1 p2 c whole earlier later rules k may = ready_plainly (any.Script HEBREW_SHAPER) plan p p1 p2 c whole earlier later tt rules k may
ready_by (any.Script MYANMAR_ZAWGYI_SHAPER) plan p p1 p2 c whole earlier later rules k may = ready_plainly (any.Script MYANMAR_ZAWGYI_SHAPER) plan p p1 p2 c whole earlier later tt rules k may
ready_by (any.Script ARABIC_SHAPER) plan p p1 p2 c whole earlier later rules k may = ready_joined plan p p1 p2 c whole earlier later rules k may
ready_by (any.Script THAI_SHAPER) plan p p1 p2 c whole earlier later rules k may = ready_thai plan p p1 p2 c whole earlier later rules k may
ready_by (any.Script HANGUL_SHAPER) plan p p1 p2 c whole earlier later rules k may = ready_hangul plan p p1 p2 c whole earlier later rules k may
ready_by (any.Script INDIC_SHAPER) plan p p1 p2 c whole earlier later rules k may = absurd may
ready_by (any.Script KHMER_SHAPER) plan p p1 p2 c whole earlier later rules k may = absurd may
ready_by (any.Script MYANMAR_SHAPER) plan p p1 p2 c whole earlier later rules k may = absurd may
ready_by (any.Script UNIVERSAL_SHAPER) plan p p1 p2 c whole earlier later rules k may = absurd may

-- safe breaks by what a shaper asks
cut_by : (shaper : hb_ot_any_shaper_t) (plan : hb_script_plan_t ⊤) (own : List Feature) (font : FaceParts) (tables : Tables) (spans : Spans) (languages : List Tag) (d : Direction) (script : Option Script) (features : List Feature)
    (p p1 p2 : Shaping) (c : ℕ) (whole earlier later result first second : Sides) → p ≡ by_shaper shaper plan own font tables spans (text_settings whole) → AreBrokenShapings p p1 p2
    → plan.map ≡ planned_map (any_kind.asking shaper) font languages d script features → AreCut c whole earlier later → MayBeCutBy shaper plan p p1 p2 whole earlier later → AsciiHasNoMarks
    → KeepsMarks (normalizer p) → HaveEnough p p1 p2 whole earlier later → AreShapedBy p p1 p2 whole earlier later result first second → IsSafelyCut c result first second
cut_by shaper plan own font tables spans languages d script features p p1 p2 c whole earlier later result first second by shapings is cut may ascii keeps enough shaped =
    let native : IsNativeLine p.settings.script whole.direction = subst (λ (q : Shaping). IsNativeLine q.settings.script whole.direction) (sym by) cut.native in
    let known : IsKnownCut p p1 p2 c whole earlier later = record { shapings = shapings; cut = cut; native = native; graphemes = ascii_knows_graphemes p.tables ascii; keeps = keeps } in
    let ready = ready_by shaper plan p p1 p2 c whole earlier later (ap (λ (q : Shaping). q.rules) by) known may in
    shows_by shaper plan own font tables spans languages d script features p p1 p2 c whole earlier later result first second by shapings is ready.none cut ready.texts ready.ends enough shaped

-- ---- by a plan

plan_map_is : (font : FaceParts) (plan : hb_ot_shape_plan_t hb_ot_any_shaper_t ⊤) → IsPlanOf font plan
    → plan.script_plan.map ≡ planned_map (any_kind.asking plan.shaper) font plan.language_tags.items plan.script_plan.direction plan.script_plan.script plan.user_features.items
plan_map_is font plan h =
    let languages = plan.language_tags.items in
    let d = plan.script_plan.direction in
    let script = plan.script_plan.script in
    let features = plan.user_features.items in
    ap (λ (q : hb_script_plan_t ⊤). q.map) h.script_plan ∙ planned_is font languages d script features ∙ ap (λ (s : hb_ot_any_shaper_t). planned_map (any_kind.asking s) font languages d script features) (sym h.shaper)

plan_shapings : (plan : hb_ot_shape_plan_t hb_ot_any_shaper_t ⊤) (font : FaceParts) (tables : Tables) (spans : Spans) (c : ℕ) (whole earlier later : Sides) → AreCut c whole earlier later
    → AreBrokenShapings (planned_shaping plan font tables spans whole) (planned_shaping plan font tables spans earlier) (planned_shaping plan font tables spans later)
plan_shapings plan font tables spans c whole earlier later cut = record { early_is = refl; late_is = refl; settings = cut.settings }

pub planned_texts_have_safe_breaks : PlannedTextsHaveSafeBreaks
planned_texts_have_safe_breaks font tables spans plan c whole earlier later result first second of none cut texts ends enough shaped =
    shows_by plan.shaper plan.script_plan plan.user_features.items font tables spans plan.language_tags.items plan.script_plan.direction plan.script_plan.script plan.user_features.items
    (planned_shaping plan font tables spans whole) (planned_shaping plan font tables spans earlier) (planned_shaping plan font tables spans later) c whole earlier later result first second refl
    (plan_shapings plan font tables spans c whole earlier later cut) (plan_map_is font plan of) none cut texts ends enough shaped

pub safe_breaks_of_plans : SafeBreaksOfPlans
safe_breaks_of_plans font tables spans plan c whole earlier later result first second of cut may ascii keeps enough shaped =
    cut_by plan.shaper plan.script_plan plan.user_features.items font tables spans plan.language_tags.items plan.script_plan.direction plan.script_plan.script plan.user_features.items
    (planned_shaping plan font tables spans whole) (planned_shaping plan font tables spans earlier) (planned_shaping plan font tables spans later) c whole earlier later result first second refl
    (plan_shapings plan font tables spans c whole earlier later cut) (plan_map_is font plan of) cut may ascii keeps enough shaped

-- ---- without a plan

pub safe_breaks : SafeBreaks
safe_breaks font tables tags spans features c whole earlier later result first second cut one may ascii keeps enough shaped =
    let languages = language_tags tags whole in
    cut_by (planned_shaper any_kind font languages whole.direction whole.script) (text_plan any_kind font languages whole.direction whole.script features) features font tables spans languages whole.direction whole.script features
    (by_text font tables tags spans features whole) (by_text font tables tags spans features earlier) (by_text font tables tags spans features later) c whole earlier later result first second refl
    (shapings_of font tables tags spans features c whole earlier later cut one) (planned_is font languages whole.direction whole.script features) cut may ascii keeps enough shaped
