use Rattle.buffer_core.proofs.MarkedOrigins.{range_told, concat_items_across, concat_across}
use Rattle.buffer_core.specs.Marking.{concat_marked_across, with_flagged, after_flag_across, requests_concat}
use Rattle.buffer_core.specs.Sides.{items_of, origins_of}
use Rattle.std.proofs.lemmas.Grind.{common_steps}
use Rattle.std.proofs.Common.{◌≡◌, ◌∙◌, ap, rules, arith, ◌+◌, length, sym, true, if◌then◌else◌}
use Rattle.buffer_core.proofs.buffer.hb_buffer_t.unsafe_to_concat_from_outbuffer.Goals as goal
use Rattle.buffer_core.specs.Merging.{index_in_all}

marked : (c : goal.After-flag_output) → c.flag_output.new.self ≡ concat_marked_across c.args.start c.args.end c.args.self.now
marked c =
    let s = c.args.self.now in
    let count : c.len-count.result ≡ s.read + length s.ahead = first_of (search rules, grind (arith, common_steps)) in
    let asked : requests_concat s ≡ true = sym c.asks_concat.ensures ∙ c.if-asks_concat.true in
    c.flag_output.ensures.marked ∙ range_told (λ i j. with_flagged 2 i (index_in_all j s) s) c.args.start c.args.end s _ _ _ c.unwrap_or.ensures count c.unwrap_or-then-asks_concat.ensures
    ∙ sym (ap (λ b. if b then after_flag_across 2 c.args.start c.args.end s else s) asked)

pub returns-then-asks_concat-clause-marked : goal.returns-then-asks_concat-clause-marked
returns-then-asks_concat-clause-marked c = marked c

pub returns-then-asks_concat-clause-items : goal.returns-then-asks_concat-clause-items
returns-then-asks_concat-clause-items c = ap items_of (marked c) ∙ concat_items_across c.args.start c.args.end c.args.self.now c.requires.begins c.requires.unread

pub returns-then-asks_concat-clause-origins : goal.returns-then-asks_concat-clause-origins
returns-then-asks_concat-clause-origins c = ap origins_of (marked c) ∙ concat_across c.args.start c.args.end c.args.self.now c.requires.begins c.requires.unread
