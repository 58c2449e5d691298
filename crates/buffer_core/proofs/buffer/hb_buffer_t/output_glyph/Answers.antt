use Rattle.std.proofs.Common.{◌≡◌, true, false, rules, arith, ap, sym, ◌∙◌}
use Rattle.buffer_core.specs.Sides.{items_of, origins_of}
use Rattle.buffer_core.proofs.Apart.{copy_items}
use Rattle.buffer_core.proofs.MergedOrigins.{copy_origins}
use Rattle.buffer_core.proofs.Stays.{copy_stays, has_room}
use Rattle.buffer_core.proofs.buffer.hb_buffer_t.output_glyph.Goals as goal

pub returns-clause-items : goal.returns-clause-items
returns-clause-items c e = ap items_of c.in_ok-put_copy.ensures.put ∙ copy_items c.args.glyph_index c.args.self.now

pub returns-clause-origins : goal.returns-clause-origins
returns-clause-origins c e = ap origins_of c.in_ok-put_copy.ensures.put ∙ copy_origins c.args.glyph_index c.args.self.now

pub returns-then-not-has_output_room-clause-stays : goal.returns-then-not-has_output_room-clause-stays
returns-then-not-has_output_room-clause-stays c e =
    let s = c.args.self.now in
    let stays = copy_stays c.args.glyph_index s (search rules) e in
    let room = has_room s 1 (omega (arith, stays.1)) (c.has_output_room.ensures.within stays.0) in
    absurd (let bad : true ≡ false = sym room ∙ sym c.has_output_room.ensures.room ∙ c.if-not-has_output_room.true in cc)

pub returns-in_err-put_copy-clause-stays : goal.returns-in_err-put_copy-clause-stays
returns-in_err-put_copy-clause-stays c e =
    let s = c.args.self.now in
    let stays = copy_stays c.args.glyph_index s (search rules) e in
    absurd (let bad : false ≡ true = c.in_err-put_copy.ensures.stays (omega (arith, stays.1)) in cc)
