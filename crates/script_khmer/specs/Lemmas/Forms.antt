-- Forms of a coeng and a Ro do not overlap.
use Rattle.std.proofs.Common.{◌≡◌, ◌==◌, ◌&&◌, Bool, true, false, refl, ap}
use Rattle.std.proofs.lemmas.Bool.{and_parts, eqb-true}
use Rattle.script_categories.specs.declared.ot_category_t.TheConstants as category
use Rattle.buffer_glyphs.specs.Items.{Item}
use Rattle.buffer_stages.specs.Fronts.{StandApart}
use Rattle.script_khmer.specs.Runs.{together}

-- a Ra is no coeng
pub ra_no_coeng : (x : Item) → (x.category == category.OT_Ra) ≡ true → (x.category == category.OT_H) ≡ false
ra_no_coeng x e = ap (λ n. n == category.OT_H) (eqb-true x.category category.OT_Ra e)

pub forms_apart : (forms : Bool) → StandApart (together forms)
forms_apart true x y z e = let ra = (and_parts (x.category == category.OT_H) (y.category == category.OT_Ra) e).1 in ap (λ b. b && (z.category == category.OT_Ra)) (ra_no_coeng y ra)
forms_apart false x y z e = refl
