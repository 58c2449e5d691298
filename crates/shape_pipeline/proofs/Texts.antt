-- Laws of all texts that are shaped.
use Rattle.std.proofs.Common.{ℕ, ◌≡◌, ◌==◌, Bool, true, false, if◌then◌else◌, List, [], ◌∷◌, length, Ok, Err, refl, sym, ap, subst, ◌∙◌}
use Rattle.std.specs.Prelude.{IsTrue, Option}
use Rattle.std.proofs.lemmas.Bool.{eqb-true}
use Rattle.std.proofs.lemmas.List.{length-map, nil_from_length}
use Rattle.buffer_common.specs.ScriptTags.{wanted_language_tags}
use Rattle.buffer_common.specs.declared.direction.Direction.{Direction}
use Rattle.buffer_common.specs.declared.language.Language.{Language}
use Rattle.buffer_common.specs.declared.script.Script.{Script}
use Rattle.buffer_common.specs.declared.tag.Tag.{Tag}
use Rattle.buffer_tags.specs.declared.feature.Feature.{Feature}
use Rattle.layout_face.specs.declared.parts.FaceParts.{FaceParts}
use Rattle.buffer_unicode_tables.specs.Tables.{Tables}
use Rattle.buffer_glyphs.specs.declared.info.hb_glyph_info_t.{hb_glyph_info_t}
use Rattle.buffer_glyphs.specs.EventParts.{AreEvenRuns, HaveNoConcat}
use Rattle.buffer_glyphs.specs.Items.{Item, item_of}
use Rattle.buffer_glyphs.specs.Order.{BringsNone, has_number}
use Rattle.buffer_glyphs.specs.Origins.{Origin, numbers, origins}
use Rattle.buffer_core.specs.Readings.{Follows, Reading, BufferState, View, always}
use Rattle.buffer_core.specs.Sides.{Sides, all_glyphs, flag_requests_of, items_of, origins_of, state_of, view_of}
use Rattle.buffer_stages.specs.Settings.{TextSettings, text_settings}
use Rattle.script_plan.specs.Plans.{planned_shaper, text_plan}
use Rattle.script_dispatch.specs.Requests.{any_kind}
use Rattle.shape_pipeline.specs.ReadingLaws.{ReadingKeepsNumbers, ResultsAreEven, ResultsHaveNoConcat, RunsReadAlike, have_no_ranges}
use Rattle.shape_pipeline.specs.Limits.{unshaped_text}
use Rattle.shape_pipeline.specs.Reading.{reading}
use Rattle.shape_pipeline.specs.Shaping.{Shaping}
use Rattle.script_plan.specs.Rules.{Spans}
use Rattle.shape_pipeline.specs.Laws.{AreAlike}
use Rattle.shape_pipeline.specs.Shaped.{by_shaper, by_text, language_tags, text_reading}

read_if : (p : Shaping) (text : BufferState) (empty : Bool) → (length text.view.items == 0) ≡ empty → text_reading p text ≡ (if empty then Ok (unshaped_text text.view) else reading p text)
unfolding text_reading
read_if p text empty e = ap (λ b. if b then Ok (unshaped_text text.view) else reading p text) e

pub empty_texts_stay : (p : Shaping) (text : BufferState) → text.view.items ≡ [] → text_reading p text ≡ always unshaped_text text.view
empty_texts_stay p text none = read_if p text true (ap (λ xs. length xs == 0) none)

-- ---- a text without characters, and another

no_glyphs : (gs : List hb_glyph_info_t) → (length gs == 0) ≡ true → gs ≡ []
no_glyphs gs e = nil_from_length gs (eqb-true (length gs) 0 e)

by_count : (P : List Origin → Type 0) (p : Shaping) (text : Sides) (result : BufferState) → ((gs : List hb_glyph_info_t) → gs ≡ [] → P (origins gs)) → (Follows (reading p (state_of text)) (state_of text) result → P result.origins)
    → Follows (text_reading p (state_of text)) (state_of text) result → (b : Bool) → (length (items_of text) == 0) ≡ b → P result.origins
by_count P p text result empty read f true none =
    let R : Reading → Type 0 = λ r. Follows r (state_of text) result in
    let same : Follows (always unshaped_text (view_of text)) (state_of text) result = subst R (read_if p (state_of text) true none) f in
    let bare : all_glyphs text ≡ [] = no_glyphs (all_glyphs text) (ap (λ n. n == 0) (sym (length-map (all_glyphs text) item_of)) ∙ none) in
    let Q : BufferState → Type 0 = λ run. P run.origins in
    subst Q (sym same) (empty (all_glyphs text) bare)
by_count P p text result empty read f false some =
    let R : Reading → Type 0 = λ r. Follows r (state_of text) result in
    read (subst R (read_if p (state_of text) false some) f)

-- where all readings have something of their results, and the text itself has it where it has no glyph, all texts have
-- it
of_texts : (P : List Origin → Type 0) (p : Shaping) (text : Sides) (result : BufferState) → ((gs : List hb_glyph_info_t) → gs ≡ [] → P (origins gs)) → (Follows (reading p (state_of text)) (state_of text) result → P result.origins)
    → Follows (text_reading p (state_of text)) (state_of text) result → P result.origins
of_texts P p text result empty read f = by_count P p text result empty read f (length (items_of text) == 0) refl

brings_nothing : (ns : List ℕ) (n : ℕ) → IsTrue (has_number (numbers (origins [])) n) → IsTrue (has_number ns n)
brings_nothing ns n h = cc

none_brought : (ns : List ℕ) (gs : List hb_glyph_info_t) → gs ≡ [] → BringsNone ns (numbers (origins gs))
none_brought ns gs e =
    let P : List hb_glyph_info_t → Type 0 = λ xs. BringsNone ns (numbers (origins xs)) in
    subst P (sym e) (brings_nothing ns)

pub texts_keep_numbers : ReadingKeepsNumbers → (p : Shaping) (text : Sides) (result : BufferState) → Follows (text_reading p (state_of text)) (state_of text) result → BringsNone (numbers (origins_of text)) (numbers result.origins)
texts_keep_numbers law p text result f = of_texts (λ os. BringsNone (numbers (origins_of text)) (numbers os)) p text result (none_brought (numbers (origins_of text))) (law p (state_of text) result) f

even_none : (gs : List hb_glyph_info_t) → gs ≡ [] → AreEvenRuns (origins gs)
even_none [] e = tt
even_none (g ∷ gs) e = cc

pub texts_are_even : ResultsAreEven → (p : Shaping) (text : Sides) (result : BufferState) → Follows (text_reading p (state_of text)) (state_of text) result → AreEvenRuns result.origins
texts_are_even law p text result f = of_texts AreEvenRuns p text result even_none (law p (state_of text) result) f

unconcat_none : (gs : List hb_glyph_info_t) → gs ≡ [] → HaveNoConcat (origins gs)
unconcat_none [] e = tt
unconcat_none (g ∷ gs) e = cc

pub texts_have_no_concat : ResultsHaveNoConcat → (p : Shaping) (text : Sides) (result : BufferState) → (flag_requests_of text).concat ≡ false → Follows (text_reading p (state_of text)) (state_of text) result → HaveNoConcat result.origins
texts_have_no_concat law p text result unasked f = of_texts HaveNoConcat p text result unconcat_none (law p (state_of text) result unasked) f

-- ---- texts that are alike

-- what is read depends only on what is seen
seen_alike : RunsReadAlike → (p : Shaping) (a b : BufferState) → have_no_ranges p.features ≡ true → a.view ≡ b.view → text_reading p a ≡ text_reading p b
unfolding text_reading
seen_alike law p a b unranged same =
    let by : View → Reading → Reading = λ v r. if length v.items == 0 then Ok (unshaped_text v) else r in
    ap (λ v. by v (reading p a)) same ∙ ap (by b.view) (law p a b unranged same)

-- what a text is shaped by is the same
by_alike : (font : FaceParts) (tables : Tables) (tags : List ℕ → List Tag) (spans : Spans) (features : List Feature) (a b : Sides) → AreAlike a b → by_text font tables tags spans features a ≡ by_text font tables tags spans features b
by_alike font tables tags spans features a b alike =
    let by : Direction → Option Script → List Tag → TextSettings → Shaping = λ d script languages settings.
    by_shaper (planned_shaper any_kind font languages d script) (text_plan any_kind font languages d script features) features font tables spans settings in
    ap (λ (v : View). by v.direction a.script (language_tags tags a) (text_settings a)) alike.views
    ∙ ap (λ (x : TextSettings). by b.direction x.script (language_tags tags a) x) alike.settings
    ∙ ap (λ l. by b.direction b.script (wanted_language_tags tags l) (text_settings b)) alike.languages

pub texts_read_alike : RunsReadAlike → (font : FaceParts) (tables : Tables) (tags : List ℕ → List Tag) (spans : Spans) (features : List Feature) (a b : Sides) → have_no_ranges features ≡ true → AreAlike a b
    → text_reading (by_text font tables tags spans features a) (state_of a) ≡ text_reading (by_text font tables tags spans features b) (state_of b)
texts_read_alike law font tables tags spans features a b unranged alike =
    ap (λ p. text_reading p (state_of a)) (by_alike font tables tags spans features a b alike)
    ∙ seen_alike law (by_text font tables tags spans features b) (state_of a) (state_of b) unranged alike.views
