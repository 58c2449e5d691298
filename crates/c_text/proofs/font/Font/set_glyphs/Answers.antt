use Rattle.std.proofs.Common.{◌≡◌, refl, subst}
use Rattle.std.specs.Prelude.{Some}
use Rattle.c_text.specs.contracts.font.Font.{the_view}
use Rattle.c_text.specs.CharacterGlyphs.{glyphs_refusal}
use Rattle.c_text.specs.Fonts.{AreSetAtFrontIn, KeptFont}
use Rattle.c_text.proofs.SettingGlyphs.{front_set, plans_stay}
use Rattle.c_text.proofs.font.Font.set_glyphs.Goals as goal

-- the plans that are kept are of the font with its new characters too
pub invariant_of-self : goal.invariant_of-self
invariant_of-self c =
    let of_font = plans_stay c.set_glyphs.result c.self.inside.input c.set_glyphs.new.self c.args.given.now c.self.inside.plans c.set_glyphs.ensures.set c.set_glyphs.ensures.memory c.set_glyphs.ensures.tables c.set_glyphs.ensures.kept c.self.invariant.0 in
    (of_font, c.self.invariant.1)

pub returns-clause-memory : goal.returns-clause-memory
returns-clause-memory c =
    let new : KeptFont = the_view (record c.self.inside { input = c.set_glyphs.new.self }) in
    let P : KeptFont → Type 0 = λ f. c.set_glyphs.result ≡ 1 → (glyphs_refusal c.args.given.now ≡ 0) × AreSetAtFrontIn c.args.given.now f (Some new) in
    subst P c.self.view_is (front_set c.args.given.now (the_view c.self.inside) new c.set_glyphs.result c.set_glyphs.new.self c.set_glyphs.ensures.memory c.set_glyphs.ensures.tables refl)
