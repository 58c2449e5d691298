use Rattle.std.proofs.Common.{◌∷◌, []}
use Rattle.buffer_glyphs.specs.Items.{strip}
use Rattle.script_hangul.proofs.Put.{circle_stepped, thin_circled, wide_circled}
use Rattle.script_hangul.proofs.tones.put_circle.Goals as goal

pub returns-then-is_thin-clause-ok : goal.returns-then-is_thin-clause-ok
returns-then-is_thin-clause-ok c =
    let s = c.args.buffer.now in
    let g = c.cur.result.now in
    let h = c.circle_for-circle.result in
    circle_stepped c.args.is_thin c.out_len-end.result (strip (h ∷ g ∷ [])) s c.replace_current.new.buffer (thin_circled c.args.is_thin g h s c.if-is_thin.true c.cur.ensures c.circle_for-circle.ensures.item) c.out_len-end.ensures c.in_ok-replace_current.ensures.ok

pub returns-clause-ok : goal.returns-clause-ok
returns-clause-ok c =
    let s = c.args.buffer.now in
    let g = c.cur.result.now in
    let h = c.circle_for-circle.result in
    circle_stepped c.args.is_thin c.out_len-end-2.result (strip (g ∷ h ∷ [])) s c.replace_current-2.new.buffer (wide_circled c.args.is_thin g h s c.if-is_thin.false c.cur.ensures c.circle_for-circle.ensures.item) c.out_len-end-2.ensures c.in_ok-replace_current-2.ensures.ok
