use Rattle.std.proofs.Common.{◌∙◌, ◌-◌, ap, sym, drop, length, arith}
use Rattle.std.proofs.lemmas.List.{drop-map, length-drop, take_all}
use Rattle.buffer_glyphs.specs.Items.{item_of, strip}
use Rattle.script_syllabic.specs.Features.{connects}
use Rattle.script_syllabic.proofs.forms.connects_at.Goals as goal

pub returns : goal.returns
returns c =
    let gs = c.info_slice.result.now in
    let rest = drop c.args.at gs in
    c.connects.ensures ∙ ap (λ hs. connects (strip hs)) (take_all (length gs - c.args.at) rest (omega (arith, length-drop c.args.at gs)))
    ∙ ap connects (sym (drop-map item_of c.args.at gs) ∙ ap (λ hs. drop c.args.at (strip hs)) c.info_slice.ensures)
