use Rattle.std.proofs.Common.{refl, rules}
use Rattle.layout_gsub.specs.GlyphClasses.{item_with_font_class}
use Rattle.buffer_stages.proofs.Mapped.{mapped_done}
use Rattle.layout_gsub.proofs.glyph_classes._hb_ot_layout_set_glyph_props.Goals as goal

pub returns : goal.returns
returns c = mapped_done (item_with_font_class c.args.face.now) (λ x. refl) _ _ (c.map_glyphs.ensures (item_with_font_class c.args.face.now) (λ g h r. search rules))
