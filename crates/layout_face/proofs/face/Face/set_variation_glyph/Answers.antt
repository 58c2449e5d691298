use Rattle.std.proofs.Common.{ap, ◌∙◌, sym}
use Rattle.std.proofs.lemmas.Result.{on_ok_weaker}
use Rattle.layout_face.proofs.CharacterMap.{variation_inserted, variation_removed, variation_set}
use Rattle.layout_face.specs.CharacterMap.{with_variation}
use Rattle.layout_face.proofs.face.Face.set_variation_glyph.Goals as goal

pub returns-in-Some-clause-set : goal.returns-in-Some-clause-set
returns-in-Some-clause-set c =
    on_ok_weaker c.insert.result
    (λ inserted. variation_set c.args.c c.args.selector c.args.glyph _ _ c.insert.new.self c.self.view_is
    (inserted ∙ variation_inserted c.args.c c.args.selector c.in-Some.glyph c.self.inside.parts.variants
    ∙ ap (λ glyph. with_variation c.args.c c.args.selector glyph c.self.inside.parts.variants) (sym c.in-Some.is)))
    c.insert.ensures.inserted

pub returns-in-None-clause-set : goal.returns-in-None-clause-set
returns-in-None-clause-set c =
    variation_set c.args.c c.args.selector c.args.glyph _ _ c.remove.new.self c.self.view_is
    (c.remove.ensures ∙ variation_removed c.args.c c.args.selector c.self.inside.parts.variants
    ∙ ap (λ glyph. with_variation c.args.c c.args.selector glyph c.self.inside.parts.variants) (sym c.in-None.is))
