-- Outside of an edit's range the glyphs of both results are those of texts that both are cut into.
use Rattle.std.proofs.Common.{ℕ, ◌+◌, ◌≡◌, ◌<◌, true, arith, inl, refl, sym, ap, subst, ◌∙◌}
use Rattle.std.proofs.lemmas.Bool.{and_parts}
use Rattle.kuspveli.specs.shape_laws.Breaks.InLine.{glyph_numbers}
use Rattle.kuspveli.specs.shape_laws.Breaks.SafeTexts.{SafeBreaks}
use Rattle.kuspveli.specs.shape_pipeline.Laws.{TextsKeepNumbers, TextsReadAlike}
use Rattle.kuspveli.specs.shaping_buffer.buffer_core.Readings.{View}
use Rattle.line_pieces.specs.EditLaws.{EditKeepsTheFront, EditKeepsTheRest}
use Rattle.line_pieces.specs.Edits.{new_length, old_length}
use Rattle.line_pieces.specs.Lines.{is_safe_at}
use Rattle.line_pieces.specs.Steps.{text_steps}
use Rattle.line_pieces.proofs.Alone.{alike_view, own_range}
use Rattle.line_pieces.proofs.Edited.{end_safe}

pub edit_front : SafeBreaks → TextsKeepNumbers → EditKeepsTheFront
edit_front law keeps s d e r before after front a b ascii is fronts some first second =
    let low = is.range.from.before in
    let old_ordered = is.compared.edit.old_ordered in
    let new_ordered = is.compared.edit.new_ordered in
    let safe = and_parts (is_safe_at (text_steps d before.result) (old_length e) r.from) (is_safe_at (text_steps d after.result) (new_length e) r.from) is.range.from.safe in
    let one = own_range law keeps s d (old_length e) 0 r.from before before front a ascii is.compared.old_line some (omega (arith, low, old_ordered)) refl safe.0 first is.old_bytes (inl (refl, refl)) fronts.of_old in
    let two = own_range law keeps s d (new_length e) 0 r.from after after front b ascii is.compared.new_line some (omega (arith, low, new_ordered)) refl safe.1 second is.new_bytes (inl (refl, refl)) fronts.of_new in
    (record { glyphs = one.0.glyphs ∙ sym two.0.glyphs; positions = one.0.positions ∙ sym two.0.positions }, one.1 ∙ sym two.1)

pub edit_rest : SafeBreaks → TextsKeepNumbers → TextsReadAlike → EditKeepsTheRest
edit_rest law keeps alike s d e r before after old_rest new_rest a b ascii is rests plain some first second =
    let old_to = is.range.old_to in
    let new_to = is.range.new_to in
    let both = and_parts (is_safe_at (text_steps d before.result) (old_length e) (e.old_end + is.range.count)) (is_safe_at (text_steps d after.result) (new_length e) (e.new_end + is.range.count)) is.range.to.safe in
    let P : ℕ → Type 0 = λ n. is_safe_at (text_steps d before.result) (old_length e) n ≡ true in
    let Q : ℕ → Type 0 = λ n. is_safe_at (text_steps d after.result) (new_length e) n ≡ true in
    let more : r.new_to < new_length e = omega (arith, some, old_to, new_to) in
    let one = own_range law keeps s d (old_length e) r.old_to (old_length e) before old_rest old_rest a ascii is.compared.old_line some (omega arith) (subst P (sym old_to) both.0) (end_safe (text_steps d before.result) (old_length e)) first is.old_bytes rests.of_old (inl (refl, refl)) in
    let two = own_range law keeps s d (new_length e) r.new_to (new_length e) after new_rest new_rest b ascii is.compared.new_line more (omega arith) (subst Q (sym new_to) both.1) (end_safe (text_steps d after.result) (new_length e)) second is.new_bytes rests.of_new (inl (refl, refl)) in
    let same = alike_view alike s old_rest new_rest plain rests.alike in
    record {
      glyphs = one.0.glyphs ∙ ap (λ (v : View). glyph_numbers v.items) same ∙ sym two.0.glyphs;
      positions = one.0.positions ∙ ap (λ (v : View). v.positions) same ∙ sym two.0.positions;
    }
