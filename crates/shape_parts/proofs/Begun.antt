-- The first pipeline stage keeps the parts of a text, and the order of its clusters along the line.
use Rattle.std.proofs.Common.{ℕ, ◌≡◌, List, [], ◌∷◌, Ok, length, refl, sym, ap, subst, ◌∙◌}
use Rattle.buffer_common.specs.declared.constants.BufferFlags.{BufferFlags}
use Rattle.buffer_common.specs.declared.script.Script.{Script}
use Rattle.std.specs.Prelude.{Option}
use Rattle.buffer_glyphs.specs.declared.level.BufferClusterLevel.{BufferClusterLevel}
use Rattle.buffer_parts.specs.Keeping.{AreKept}
use Rattle.buffer_parts.specs.Lemmas.Keeping.{kept_in_turn}
use Rattle.buffer_unicode_tables.specs.Lawful.{AsciiHasNoMarks}
use Rattle.buffer_unicode_tables.specs.Tables.{Tables}
use Rattle.buffer_core.specs.Readings.{Read, Stage, View, always, then_reading}
use Rattle.buffer_core.specs.Steps.{then_as_it_is}
use Rattle.buffer_parts.specs.Lemmas.Stages.{at_read, both_read, stages_keep_parts}
use Rattle.buffer_parts.specs.Lemmas.PlainStages.{even_plainly}
use Rattle.buffer_parts.specs.Stages.{KeepsParts}
use Rattle.layout_face.specs.declared.parts.FaceParts.{FaceParts}
use Rattle.shape_text.specs.Masks.{with_one_mask}
use Rattle.shape_text.specs.Circle.{first_circle}
use Rattle.shape_text.specs.Clusters.{with_clusters}
use Rattle.shape_text.specs.NativeOrder.{native_order}
use Rattle.shape_text.specs.Properties.{with_properties}
use Rattle.shape_parts.specs.Graphemes.{graphemes_ordered}
use Rattle.shape_parts.specs.Lines.{KeepsFall, KeepsPartsOnLine, StaysInLine}
use Rattle.shape_parts.proofs.StageLines.{always_in_line, in_line_keeps_parts_on_line, then_keeps_fall}
use Rattle.shape_parts.proofs.Characters.{circle_stays, properties_stay}
use Rattle.shape_parts.proofs.Graphemes.{graphemes_are_known, graphemes_keep_fall, graphemes_keep_parts}
use Rattle.shape_parts.proofs.Masks.{first_mask_stays}
use Rattle.shape_pipeline.specs.Chains.{in_order}
use Rattle.shape_pipeline.specs.Characters.{text_begun}
use Rattle.shape_pipeline.specs.Limits.{initial_view}
use Rattle.shape_pipeline.specs.Shaping.{Shaping}
use Rattle.shape_parts.specs.Premises.{ShapingKeepsParts}

-- the stage that forms clusters of graphemes and brings the text to its script's direction, as the end of the first pipeline stage
abbrev ordered_last : Option Script → Stage
ordered_last script = in_order (always with_clusters ∷ always (native_order script) ∷ [])

ordered_is : (script : Option Script) (v : View) → ordered_last script v ≡ graphemes_ordered script v
ordered_is script v = ap (then_reading (with_clusters v)) (then_as_it_is (always (native_order script) (with_clusters v).view))

-- ---- parts

abbrev KeptFrom : ℕ → BufferClusterLevel → Read → Type 0
KeptFrom n level r = AreKept level (r.events level) n (length r.view.items)

-- the properties of characters, the first circle, clusters and the script's direction
characters_keep : (t : Tables) (font : FaceParts) (flags : BufferFlags) (context : List ℕ) (script : Option Script) → AsciiHasNoMarks
    → KeepsParts (in_order (always (with_properties t) ∷ first_circle t font flags context ∷ always with_clusters ∷ always (native_order script) ∷ []))
characters_keep t font flags context script law v r level e =
    let one = both_read (always (with_properties t) v) (in_order (first_circle t font flags context ∷ always with_clusters ∷ always (native_order script) ∷ [])) r e in
    let two = both_read (first_circle t font flags context one.first.view) (ordered_last script) one.second one.second_is in
    let circled : first_circle t font flags context (with_properties t v).view ≡ Ok two.first =
    at_read (λ q. first_circle t font flags context q.view ≡ Ok two.first → first_circle t font flags context (with_properties t v).view ≡ Ok two.first) (with_properties t v) one.first one.first_is (λ f. f) two.first_is in
    let known = graphemes_are_known t font flags context v two.first law circled in
    let n = length v.items in
    let prepared = (properties_stay t).kept.parts v one.first level one.first_is in
    let marked = (circle_stays t font flags context).kept.parts one.first.view two.first level two.first_is in
    let ordered = graphemes_keep_parts script two.first.view two.second level known (sym (ordered_is script two.first.view) ∙ two.second_is) in
    let rest : KeptFrom (length one.first.view.items) level one.second =
    subst (KeptFrom (length one.first.view.items) level) two.both
    (kept_in_turn level (two.first.events level) (two.second.events level) (length one.first.view.items) (length two.first.view.items) (length two.second.view.items) marked ordered) in
    subst (KeptFrom n level) one.both (kept_in_turn level (one.first.events level) (one.second.events level) n (length one.first.view.items) (length one.second.view.items) prepared rest)

-- ---- the line

pub line_of : (s : Stage) → StaysInLine s → KeepsFall s
line_of s p = (in_line_keeps_parts_on_line s p).fall

ordered_keeps_fall : (script : Option Script) → KeepsFall (ordered_last script)
ordered_keeps_fall script v r level falls mono e = graphemes_keep_fall script v r level falls mono (sym (ordered_is script v) ∙ e)

characters_keep_fall : (t : Tables) (font : FaceParts) (flags : BufferFlags) (context : List ℕ) (script : Option Script) → KeepsFall (in_order (always (with_properties t) ∷ first_circle t font flags context ∷ always with_clusters ∷ always (native_order script) ∷ []))
characters_keep_fall t font flags context script =
    then_keeps_fall (always (with_properties t)) (in_order (first_circle t font flags context ∷ always with_clusters ∷ always (native_order script) ∷ [])) (line_of (always (with_properties t)) (properties_stay t))
    (then_keeps_fall (first_circle t font flags context) (ordered_last script) (line_of (first_circle t font flags context) (circle_stays t font flags context)) (ordered_keeps_fall script))

-- ---- the stage

pub initial_stays : StaysInLine (always initial_view)
initial_stays = always_in_line initial_view (λ v level. even_plainly [] v (initial_view v).view level tt refl) (λ v. refl)

pub begun_texts_keep_parts : (p : Shaping) → ShapingKeepsParts p → KeepsPartsOnLine (text_begun p)
unfolding text_begun
begun_texts_keep_parts p h =
    let circle = first_circle p.tables p.font p.settings.flags p.settings.pre_context in
    let last = in_order (always (with_properties p.tables) ∷ circle ∷ always with_clusters ∷ always (native_order p.settings.script) ∷ []) in
    let mask = always (with_one_mask p.map.global_mask) in
    let masked = in_order (mask ∷ always (with_properties p.tables) ∷ circle ∷ always with_clusters ∷ always (native_order p.settings.script) ∷ []) in
    record {
      parts =
          stages_keep_parts (always initial_view) masked initial_stays.kept.parts
          (stages_keep_parts mask last (first_mask_stays p.map.global_mask).kept.parts (characters_keep p.tables p.font p.settings.flags p.settings.pre_context p.settings.script h.tables.ascii_has_no_marks));
      fall =
          then_keeps_fall (always initial_view) masked (line_of (always initial_view) initial_stays)
          (then_keeps_fall mask last (line_of mask (first_mask_stays p.map.global_mask)) (characters_keep_fall p.tables p.font p.settings.flags p.settings.pre_context p.settings.script));
    }
