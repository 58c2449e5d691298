use Rattle.std.proofs.Common.{◌≡◌, ◌⊎◌, inl, inr, ap}
use Rattle.buffer_glyphs.specs.declared.level.BufferClusterLevel.{BufferClusterLevel}
use Rattle.buffer_glyphs.specs.declared.level.BufferClusterLevel.TheVariants.{MonotoneGraphemes, MonotoneCharacters}
use Rattle.buffer_glyphs.specs.Levels.{InOutput, Unites, manner}
use Rattle.buffer_lists.proofs.Ordered.{order_united}
use Rattle.buffer_lists.proofs.merges.merge_output.Goals as goal

unites : (level : BufferClusterLevel) → (level ≡ MonotoneGraphemes) ⊎ (level ≡ MonotoneCharacters) → manner InOutput level ≡ Unites
unites level which = elim which [ inl e ↦ ap (manner InOutput) e | inr e ↦ ap (manner InOutput) e ]

pub returns-in-MonotoneGraphemes : goal.returns-in-MonotoneGraphemes
returns-in-MonotoneGraphemes c =
    let does = unites c.args.level c.in-MonotoneGraphemes.is in
    let output = c.unite_output.ensures.output in
    let input = c.unite_output.ensures.input in
    record {
      output = rw does output;
      input = rw does input;
      order = c.walked.ensures (order_united c.args.known c.args.start c.args.end c.args.output.now c.args.input.now _ _ c.requires.ordered c.requires.within output input c.requires.known);
    }
