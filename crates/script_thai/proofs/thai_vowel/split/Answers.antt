use Rattle.std.proofs.Common.{List, ◌∷◌, [], length, arith, refl, ap, ap₂, ◌∙◌}
use Rattle.buffer_glyphs.specs.declared.info.hb_glyph_info_t.{hb_glyph_info_t}
use Rattle.buffer_glyphs.specs.Items.{strip}
use Rattle.script_thai.specs.ThaiVowel.{count_above}
use Rattle.script_thai.proofs.Vowel.{vowel_walked}
use Rattle.script_thai.proofs.thai_vowel.split.Goals as goal

pub returns-clause-ok : goal.returns-clause-ok
returns-clause-ok c =
    let within = c.count_above-marks.ensures.within in
    let same = ap (λ (gs : List hb_glyph_info_t). length gs) c.out_info.ensures in
    let at = c.out_len-at.ensures in
    vowel_walked c.out_len-at.result c.count_above-marks.result c.args.glyph.now (c.nikhahit.result ∷ c.sara_aa.result ∷ []) c.args.buffer.now c.replace_current.new.buffer c.move_half.new.buffer c.requires.there c.out_len-at.ensures
    (c.count_above-marks.ensures.count ∙ ap (λ gs. count_above (strip gs)) c.out_info.ensures) (omega (arith, within, same, at)) (ap₂ (λ a b. a ∷ b ∷ []) c.nikhahit.ensures.item c.sara_aa.ensures.item) refl c.in_ok-replace_current.ensures.ok c.move_half.ensures
