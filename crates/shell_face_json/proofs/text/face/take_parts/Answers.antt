use Rattle.std.proofs.Common.{◌≡◌, codes, pos, length, Ok, refl, sym, ap, subst, ◌∙◌}
use Rattle.serde_json.specs.Data.{object}
use Rattle.shell_json.specs.Cell.{u16_value, i16_value}
use Rattle.shell_json.specs.Objects.{read_or}
use Rattle.shell_face_json.specs.FontRows.{character_row, variation_row, extents, name_row}
use Rattle.shell_face_json.specs.Glyphs.{glyph_limit, glyph_row}
use Rattle.shell_face_json.specs.Lists.{number_below}
use Rattle.shell_face_json.specs.Row.{only}
use Rattle.shell_face_json.proofs.OfText.Definitions.{definition_found}
use Rattle.shell_face_json.proofs.OfText.Fonts.{advances_read, characters_read, drawing_read, font_read, layouts_read}
use Rattle.shell_face_json.proofs.OfText.OfKeys.{rows_found, value_found}
use Rattle.shell_face_json.proofs.OfText.Sets.{positioning_found, substitution_found}
use Rattle.shell_face_json.proofs.text.face.take_parts.Goals as goal

pub returns : goal.returns
returns c =
    let keys = c.font_keys.result in
    let names = c.font_keys.ensures in
    let found = c.take_text.new.found in
    let all = c.in_ok-take_text.ensures.ok (((refl, refl), (refl, refl)), ((refl, refl), (((refl, refl), refl), (refl, (refl, refl))))) in
    let ms = all.0 in
    let d = object ms in
    let h = all.2 in
    let got = c.in_ok-groups.ensures in
    let g = c.in_ok-groups.groups in
    let upem = subst (λ o. read_or 0 u16_value o ≡ Ok g.0.0) (value_found keys.0.0.0.name.now (codes "upem") ms found.0.0.0 names.metrics.0 h.0.0.0) got.metrics.0 in
    let ascender = subst (λ o. read_or (pos 0) i16_value o ≡ Ok g.0.1) (value_found keys.0.0.1.name.now (codes "ascender") ms found.0.0.1 names.metrics.1 h.0.0.1) got.metrics.1 in
    let characters =
    characters_read d g.1.0 g.1.1
    (rows_found _ _ character_row keys.0.1.0.taker.limit glyph_limit keys.0.1.0.name.now (codes "cmap") ms found.0.1.0 g.1.0 names.characters.2 names.characters.0 got.characters.0 h.0.1.0)
    (rows_found _ _ variation_row keys.0.1.1.taker.limit glyph_limit keys.0.1.1.name.now (codes "variants") ms found.0.1.1 g.1.1 names.characters.3 names.characters.1 got.characters.1 h.0.1.1) in
    let advances =
    advances_read d g.2.0 g.2.1 (rows_found _ _ (λ limit. glyph_row (only (number_below limit))) keys.1.0.0.taker.limit glyph_limit keys.1.0.0.name.now (codes "h") ms found.1.0.0 g.2.0 names.advances.2 names.advances.0 got.advances.0 h.1.0.0)
    (rows_found _ _ (λ limit. glyph_row (only (number_below limit))) keys.1.0.1.taker.limit glyph_limit keys.1.0.1.name.now (codes "v") ms found.1.0.1 g.2.1 names.advances.3 names.advances.1 got.advances.1 h.1.0.1) in
    let drawing =
    drawing_read d g.3.0 g.3.1.0 g.3.1.1
    (rows_found _ _ (λ _. glyph_row (only i16_value)) keys.1.1.0.0.0.taker.limit glyph_limit keys.1.1.0.0.0.name.now (codes "origins") ms found.1.1.0.0.0 g.3.0 names.drawing.2 names.drawing.0 got.drawing.0 h.1.1.0.0.0)
    (rows_found _ _ (λ _. glyph_row extents) keys.1.1.0.0.1.taker.limit glyph_limit keys.1.1.0.0.1.name.now (codes "extents") ms found.1.1.0.0.1 g.3.1.0 names.drawing.3 names.drawing.1 got.drawing.1 h.1.1.0.0.1)
    (rows_found _ _ name_row keys.1.1.0.1.taker.limit glyph_limit keys.1.1.0.1.name.now (codes "names") ms found.1.1.0.1 g.3.1.1 names.names.1 names.names.0 got.drawing.2 h.1.1.0.1) in
    let layouts =
    layouts_read d g.4.0 g.4.1.0 g.4.1.1 (definition_found keys.1.1.1.0.name.now ms found.1.1.1.0 g.4.0 names.definitions got.definition h.1.1.1.0)
    (substitution_found keys.1.1.1.1.0.taker.set_count (length g.4.0.sets) keys.1.1.1.1.0.name.now ms found.1.1.1.1.0 g.4.1.0 names.tables.0 h.1.1.1.1.0 got.substitution)
    (positioning_found keys.1.1.1.1.1.taker.set_count (length g.4.0.sets) keys.1.1.1.1.1.name.now ms found.1.1.1.1.1 g.4.1.1 names.tables.1 h.1.1.1.1.1 got.positioning) in
    let groups = font_read d g.0.0 g.0.1 g.1 g.2 g.3 g.4 (upem, ascender) characters advances drawing layouts in
    (d, all.1, refl, groups ∙ ap (λ x. Ok x) (sym c.face_parts.ensures))
