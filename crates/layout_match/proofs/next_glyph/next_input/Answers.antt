use Rattle.buffer_glyphs.specs.Items.{strip}
use Rattle.layout_match.specs.Applied.{apply_context_of, own_search}
use Rattle.layout_match.proofs.Next.{found_told}
use Rattle.layout_match.proofs.next_glyph.next_input.Goals as goal

pub returns-in-Some-clause-input : goal.returns-in-Some-clause-input
returns-in-Some-clause-input c =
    let xs = strip c.args.buffer.now.ahead in
    found_told c.input_admitted.result (own_search (apply_context_of c.args.ctx.now) xs) 1 xs c.in-Some.info.now c.in-Some.ensures c.input_admitted.ensures
