use Rattle.buffer_core.proofs.MarkedOrigins.{range_told, tatweel_items, tatweel_origins}
use Rattle.buffer_core.specs.Marking.{tatweel_marked, with_flagged_apart, range_flagged_apart, requests_tatweel}
use Rattle.buffer_core.specs.Sides.{items_of, origins_of}
use Rattle.std.proofs.lemmas.Grind.{common_steps}
use Rattle.std.proofs.Common.{◌≡◌, ◌∙◌, ap, rules, arith, ◌+◌, length, sym, true, if◌then◌else◌}
use Rattle.buffer_core.proofs.buffer.hb_buffer_t.safe_to_insert_tatweel.Goals as goal
use Rattle.buffer_core.specs.Merging.{index_in_all}

marked : (c : goal.After-mark_range) → c.mark_range.new.self ≡ tatweel_marked c.args.start c.args.end c.args.self.now
marked c =
    let s = c.args.self.now in
    let count : c.len-count.result ≡ s.read + length s.ahead = first_of (search rules, grind (arith, common_steps)) in
    let asked : requests_tatweel s ≡ true = first_of (search rules, grind (arith, common_steps)) in
    c.mark_range.ensures.marked ∙ range_told (λ i j. with_flagged_apart 4 (index_in_all i s) (index_in_all j s) s) c.args.start c.args.end s _ _ _ c.unwrap_or.ensures count c.unwrap_or-then-contains.ensures
    ∙ sym (ap (λ b. if b then range_flagged_apart 4 c.args.start c.args.end s else range_flagged_apart 3 c.args.start c.args.end s) asked)

pub returns-then-contains-clause-marked : goal.returns-then-contains-clause-marked
returns-then-contains-clause-marked c = marked c

pub returns-then-contains-clause-items : goal.returns-then-contains-clause-items
returns-then-contains-clause-items c = ap items_of (marked c) ∙ tatweel_items c.args.start c.args.end c.args.self.now c.requires.ordered

pub returns-then-contains-clause-origins : goal.returns-then-contains-clause-origins
returns-then-contains-clause-origins c = ap origins_of (marked c) ∙ tatweel_origins c.args.start c.args.end c.args.self.now c.requires.ordered
