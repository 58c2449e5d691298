use Rattle.std.proofs.Common.{refl, rules}
use Rattle.shape_glyphs.specs.Glyphs.{item_with_synthesized_class}
use Rattle.buffer_stages.proofs.Mapped.{mapped_done}
use Rattle.shape_glyphs.proofs.glyphs.hb_synthesize_glyph_classes.Goals as goal

pub returns : goal.returns
returns c = mapped_done item_with_synthesized_class (λ x. refl) _ _ (c.map_glyphs.ensures item_with_synthesized_class (λ g h r. search rules))
