use Rattle.buffer_core.proofs.MarkedOrigins.{range_told, broken_items, broken_origins}
use Rattle.buffer_core.specs.Marking.{range_flagged_apart, with_flagged_apart}
use Rattle.buffer_core.specs.Sides.{items_of, origins_of}
use Rattle.std.proofs.lemmas.Grind.{common_steps}
use Rattle.std.proofs.Common.{◌≡◌, ◌+◌, ap, ◌∙◌, length, rules, arith}
use Rattle.buffer_core.proofs.buffer.hb_buffer_t.unsafe_to_break.Goals as goal
use Rattle.buffer_core.specs.Merging.{index_in_all}

marked : (c : goal.After-mark_range) → c.mark_range.new.self ≡ range_flagged_apart 3 c.args.start c.args.end c.args.self.now
marked c =
    let s = c.args.self.now in
    let count : c.len-count.result ≡ s.read + length s.ahead = first_of (search rules, grind (arith, common_steps)) in
    c.mark_range.ensures.marked ∙ range_told (λ i j. with_flagged_apart 3 (index_in_all i s) (index_in_all j s) s) c.args.start c.args.end s _ _ _ c.unwrap_or.ensures count c.unwrap_or-2.ensures

pub returns-clause-marked : goal.returns-clause-marked
returns-clause-marked c = marked c

pub returns-clause-items : goal.returns-clause-items
returns-clause-items c = ap items_of (marked c) ∙ broken_items c.args.start c.args.end c.args.self.now c.requires.ordered

pub returns-clause-origins : goal.returns-clause-origins
returns-clause-origins c = ap origins_of (marked c) ∙ broken_origins c.args.start c.args.end c.args.self.now c.requires.ordered
