use Rattle.std.proofs.Common.{◌≡◌, true, ap, sym}
use Rattle.buffer_glyphs.specs.Items.{item_of}
use Rattle.layout_match.specs.Applied.{apply_context_of}
use Rattle.layout_match.specs.Searches.{is_in_syllable}
use Rattle.layout_contexts.proofs.chain.is_in_own_syllable.Goals as goal
use Rattle.layout_match.proofs.Own.{syllable_there}

pub returns-else-not-ctx : goal.returns-else-not-ctx
returns-else-not-ctx c =
    let per_syllable : c.args.ctx.now.per_syllable ≡ true = cc in
    let own = syllable_there (apply_context_of c.args.ctx.now) c.args.buffer.now.ahead c.cur.result.now c.cur.ensures per_syllable in
    sym (ap (λ s. is_in_syllable s (item_of c.args.info.now)) own)
