use Rattle.std.proofs.Common.{◌≡◌, true, false, arith, ap, sym, ◌∙◌}
use Rattle.buffer_core.specs.Sides.{items_of}
use Rattle.buffer_core.proofs.Apart.{renumbered_items}
use Rattle.buffer_core.proofs.Stays.{has_room}
use Rattle.buffer_core.proofs.buffer.hb_buffer_t.replace_glyph.Goals as goal

pub returns-clause-items : goal.returns-clause-items
returns-clause-items c e = ap items_of c.pass_renumbered.ensures.replaced ∙ renumbered_items c.args.glyph_index c.args.self.now c.requires.current.current

pub returns-then-not-has_output_room-clause-stays : goal.returns-then-not-has_output_room-clause-stays
returns-then-not-has_output_room-clause-stays c e =
    let s = c.args.self.now in
    let le = c.has_output_room.ensures.in_place e in
    let room = has_room s 1 (omega (arith, le, c.requires.current.current)) (c.has_output_room.ensures.within e) in
    absurd (let bad : true ≡ false = sym room ∙ sym c.has_output_room.ensures.room ∙ c.if-not-has_output_room.true in cc)
