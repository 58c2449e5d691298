use Rattle.std.proofs.Common.{◌≡◌, true, None, Ok, sym, ap, ◌∙◌, arith}
use Rattle.buffer_rows.specs.Keys.{is_rising}
use Rattle.shell_face_json.proofs.OfText.InTurn.{rows_in_order}
use Rattle.shell_face_json.proofs.text.rows.RowTakerValueTaker.take_value.Goals as goal

pub returns-clause-ok : goal.returns-clause-ok
returns-clause-ok g c =
    let took = c.in_ok-rows.ensures.ok in
    let rising : is_rising g.R.Key.Ord.cmp g.R.Keyed.key_of None c.in_ok-rows.rows.items ≡ true = grind arith in
    (took.0, took.1, rows_in_order g.R.Key.Ord.cmp g.R.Keyed.key_of (g.R.FromJson.font_value c.args.self.now.limit) took.0 c.in_ok-rows.rows.items took.2 rising ∙ ap (λ xs. Ok xs) (sym c.new.ensures))
