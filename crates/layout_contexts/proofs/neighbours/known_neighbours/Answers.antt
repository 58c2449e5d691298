use Rattle.layout_contexts.proofs.neighbours.known_neighbours.Goals as goal

pub returns : goal.returns
returns c = record {
  behind = c.before-2.ensures.context;
  input = c.after.ensures.input;
  lookahead = c.after.ensures.lookahead;
  unflagged = λ asked. (c.before-2.ensures.unflagged asked, c.after.ensures.unflagged asked);
}
