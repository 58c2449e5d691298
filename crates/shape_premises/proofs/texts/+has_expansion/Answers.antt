use Rattle.std.proofs.Common.{◌≡◌, ◌∙◌, ◌&&◌, Bool, true, false, sym, arith}
use Rattle.buffer_unicode_tables.specs.Tables.{split_of}
use Rattle.shape_premises.specs.Texts.{is_in_font}
use Rattle.shape_premises.proofs.Runs.{all_second}
use Rattle.shape_premises.proofs.texts.+has_expansion.Goals as goal

both : (x y z : Bool) → x ≡ true → z ≡ y → z ≡ (x && y)
both true y z e f = f
both false y z e f = cc

pub returns-else-second-eq0 : goal.returns-else-second-eq0
returns-else-second-eq0 t c =
    both _ (is_in_font c.args.face.now c.in-Some.second) _ (sym c.has_expansion.ensures ∙ c.if-not-has_expansion.false) c.has_character-else-second-eq0.ensures
    ∙ sym (all_second (is_in_font c.args.face.now) (split_of c.args.tables.now) c.args.depth c.args.u c.in-Some.first c.in-Some.second (sym c.in-Some.ensures.pieces) (omega arith) (omega arith))
