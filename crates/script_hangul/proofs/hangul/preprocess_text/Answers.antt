use Rattle.std.proofs.Common.{◌≡◌, ◌≤◌, List, true, length, sym, ap, ◌∙◌, arith}
use Rattle.buffer_glyphs.specs.declared.info.hb_glyph_info_t.{hb_glyph_info_t}
use Rattle.buffer_glyphs.specs.Items.{strip}
use Rattle.buffer_core.specs.Sides.{all_glyphs, items_of}
use Rattle.script_hangul.specs.Kept.{is_kept}
use Rattle.script_hangul.proofs.Unchanged.{kept_followed}
use Rattle.script_hangul.proofs.hangul.preprocess_text.Goals as goal

pub returns-then-is_kept : goal.returns-then-is_kept
returns-then-is_kept c =
    let s = c.args.buffer.now in
    let font = c.args.face.now in
    let count = c.len-len.ensures.count c.requires.ready.closed in
    let within = c.len-len.ensures.within c.requires.ready.closed in
    let few : length (all_glyphs s) ≤ s.max_len = omega (arith, count, within) in
    let kept : is_kept font (items_of s) ≡ true = ap (λ (gs : List hb_glyph_info_t). is_kept font (strip gs)) (sym c.info_slice.ensures) ∙ sym c.is_kept.ensures ∙ c.if-is_kept.true in
    rw c.clear_positions.ensures (kept_followed font s.flags s c.requires.ready few kept)
