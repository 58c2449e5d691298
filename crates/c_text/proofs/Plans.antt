-- Texts that are shaped by plans that are kept.
use Rattle.std.proofs.Common.{ℕ, ◌≡◌, ◌≢◌, Err, List, ap, subst, ◌∙◌}
use Rattle.std.specs.Prelude.{⊤, Option}
use Rattle.buffer_common.specs.ScriptTags.{wanted_language_tags}
use Rattle.buffer_common.specs.declared.direction.Direction.{Direction}
use Rattle.buffer_common.specs.declared.language.Language.{Language}
use Rattle.buffer_common.specs.declared.script.Script.{Script}
use Rattle.buffer_common.specs.declared.tag.Tag.{Tag}
use Rattle.buffer_core.specs.Segment.{after_guess_segment_properties}
use Rattle.buffer_core.specs.Sides.{Settings, Sides, state_of}
use Rattle.buffer_glyphs.specs.declared.cause.ShapeCause.{ShapeCause}
use Rattle.buffer_glyphs.specs.declared.cause.ShapeCause.TheVariants.{OutOfMemory as NoMemory}
use Rattle.buffer_tags.specs.LanguageTable.{tags_of_table}
use Rattle.buffer_tags.specs.declared.feature.Feature.{Feature}
use Rattle.shape_pipeline.specs.buffer_unicode_tables.Tables.{Tables}
use Rattle.layout_face.specs.declared.parts.FaceParts.{FaceParts}
use Rattle.script_categories.specs.LongestMatch.{syllable_at}
use Rattle.script_dispatch.specs.Requests.{any_kind}
use Rattle.script_dispatch.specs.declared.any_shaper.hb_ot_any_shaper_t.{hb_ot_any_shaper_t}
use Rattle.script_plan.specs.Plans.{IsPlanned}
use Rattle.script_plan.specs.declared.plan.hb_ot_shape_plan_t.{hb_ot_shape_plan_t}
use Rattle.shape_pipeline.specs.Plans.{IsPlanFor}
use Rattle.shape_pipeline.specs.script_plan.Rules.{Spans}
use Rattle.shape_pipeline.specs.Results.{IsResultOf}
use Rattle.shape_pipeline.specs.Shaped.{by_text, text_reading}
use Rattle.shell_readers.specs.declared.fault.RunFault.{RunFault}
use Rattle.shell_readers.specs.declared.fault.RunFault.TheVariants.{OutOfMemory}
use Rattle.shell_readers.specs.Fault.{fault_of_cause}
use Rattle.shell_readers.specs.declared.input.RunInput.{RunInput}
use Rattle.c_text.specs.Fonts.{IsUnshaped}

-- a result has the script of its text
pub script_handed_on : (text glyphs : Sides) → IsResultOf text glyphs → glyphs.script ≡ text.script
script_handed_on text glyphs is = ap (λ (s : Settings). s.script) is.settings

-- a fault names the cause for which the text is refused, by what was read
pub refused_by_data : (input : RunInput) (face : FaceParts) (tables : Tables) (tags : List ℕ → List Tag) (spans : Spans) (features : List Feature) (text : Sides) (cause : ShapeCause) (e : RunFault)
    → face ≡ input.face → tables ≡ input.tables.characters → tags ≡ tags_of_table input.tables.languages → spans ≡ syllable_at input.tables.syllables
    → (cause ≢ NoMemory → text_reading (by_text face tables tags spans features (after_guess_segment_properties text)) (state_of (after_guess_segment_properties text)) ≡ Err cause)
    → e ≡ fault_of_cause cause → e ≢ OutOfMemory → IsUnshaped input features text e
refused_by_data input face tables tags spans features text cause e f t l s refused named memory =
    let own = after_guess_segment_properties text in
    let read = refused (λ none. memory (named ∙ ap fault_of_cause none)) in
    let by_face = subst (λ x. text_reading (by_text x tables tags spans features own) (state_of own) ≡ Err cause) f read in
    let by_tables = subst (λ x. text_reading (by_text input.face x tags spans features own) (state_of own) ≡ Err cause) t by_face in
    let by_tags = subst (λ x. text_reading (by_text input.face input.tables.characters x spans features own) (state_of own) ≡ Err cause) l by_tables in
    record { cause = cause; refused = subst (λ x. text_reading (by_text input.face input.tables.characters (tags_of_table input.tables.languages) x features own) (state_of own) ≡ Err cause) s by_tags; named = named }

-- the plan that is made for a text's direction, script and language, by what was read, is the one for the text
pub plan_for_text : (input : RunInput) (face : FaceParts) (tags : List ℕ → List Tag) (features : List Feature) (text : Sides) (d : Direction) (s : Option Script) (l : Option Language) (plan : hb_ot_shape_plan_t hb_ot_any_shaper_t ⊤)
    → face ≡ input.face → tags ≡ tags_of_table input.tables.languages → d ≡ text.direction → s ≡ text.script → l ≡ text.language
    → IsPlanned any_kind face (wanted_language_tags tags l) d s features plan → IsPlanFor input.face (tags_of_table input.tables.languages) features text plan
plan_for_text input face tags features text d s l plan f t ed es el is =
    let own = tags_of_table input.tables.languages in
    let F : FaceParts → Type 0 = λ x. IsPlanned any_kind x (wanted_language_tags tags l) d s features plan in
    let T : (List ℕ → List Tag) → Type 0 = λ x. IsPlanned any_kind input.face (wanted_language_tags x l) d s features plan in
    let L : Option Language → Type 0 = λ x. IsPlanned any_kind input.face (wanted_language_tags own x) d s features plan in
    let D : Direction → Type 0 = λ x. IsPlanned any_kind input.face (wanted_language_tags own text.language) x s features plan in
    let S : Option Script → Type 0 = λ x. IsPlanned any_kind input.face (wanted_language_tags own text.language) text.direction x features plan in
    subst S es (subst D ed (subst L el (subst T t (subst F f is))))
