use Rattle.std.proofs.Common.{◌≡◌, true, false, arith, ap, sym, ◌∙◌}
use Rattle.buffer_core.specs.Sides.{items_of, origins_of}
use Rattle.buffer_core.proofs.Apart.{put_items, put_origins}
use Rattle.buffer_core.proofs.Stays.{has_room, put_stays}
use Rattle.buffer_core.proofs.buffer.hb_buffer_t.output_info.Goals as goal

pub returns-clause-items : goal.returns-clause-items
returns-clause-items c e = ap items_of c.in_ok-put_info.ensures.put ∙ put_items c.args.glyph_info c.args.self.now

pub returns-clause-origins : goal.returns-clause-origins
returns-clause-origins c e = ap origins_of c.in_ok-put_info.ensures.put ∙ put_origins c.args.glyph_info c.args.self.now

pub returns-then-not-has_output_room-clause-stays : goal.returns-then-not-has_output_room-clause-stays
returns-then-not-has_output_room-clause-stays c e =
    let s = c.args.self.now in
    let stays = put_stays c.args.glyph_info s e in
    let room = has_room s 1 (omega (arith, stays.1)) (c.has_output_room.ensures.within stays.0) in
    absurd (let bad : true ≡ false = sym room ∙ sym c.has_output_room.ensures.room ∙ c.if-not-has_output_room.true in cc)
