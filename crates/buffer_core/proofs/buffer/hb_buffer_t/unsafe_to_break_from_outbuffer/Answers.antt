use Rattle.buffer_core.proofs.Marked.{closed_index}
use Rattle.buffer_core.proofs.MarkedOrigins.{range_told, broken_items_across, broken_across}
use Rattle.buffer_core.specs.Sides.{items_of, origins_of}
use Rattle.std.proofs.lemmas.Grind.{common_steps}
use Rattle.std.proofs.Common.{◌≡◌, ap, ◌∙◌, rules, arith, ◌+◌, length}
use Rattle.buffer_core.specs.Marking.{end_or, start_or, with_flagged_apart, after_mark_across}
use Rattle.buffer_core.specs.Merging.{index_in_all}
use Rattle.buffer_core.proofs.buffer.hb_buffer_t.unsafe_to_break_from_outbuffer.Goals as goal

pub returns-then-not-self-clause-marked : goal.returns-then-not-self-clause-marked
returns-then-not-self-clause-marked c =
    let s = c.args.self.now in
    let e : index_in_all (start_or c.args.start) s ≡ start_or c.args.start = rw (← c.self.view_is) (closed_index (start_or c.args.start) c.self.inside c.if-not-self.true c.self.invariant.cursor) in
    c.unsafe_to_break.ensures.marked ∙ ap (λ i. with_flagged_apart 3 i (index_in_all (end_or c.args.end s) s) s) e

marked : (c : goal.After-mark_output) → c.mark_output.new.self ≡ after_mark_across 3 c.args.start c.args.end c.args.self.now
marked c =
    let s = c.args.self.now in
    let count : c.len-count.result ≡ s.read + length s.ahead = first_of (search rules, grind (arith, common_steps)) in
    c.mark_output.ensures.marked ∙ range_told (λ i j. with_flagged_apart 3 i (index_in_all j s) s) c.args.start c.args.end s _ _ _ c.unwrap_or.ensures count c.unwrap_or-2.ensures

pub returns-clause-marked : goal.returns-clause-marked
returns-clause-marked c = marked c

pub returns-clause-items : goal.returns-clause-items
returns-clause-items c = ap items_of (marked c) ∙ broken_items_across c.args.start c.args.end c.args.self.now c.requires.begins c.requires.unread

pub returns-clause-origins : goal.returns-clause-origins
returns-clause-origins c = ap origins_of (marked c) ∙ broken_across c.args.start c.args.end c.args.self.now c.requires.begins c.requires.unread
