use Rattle.std.proofs.Common.{◌≡◌, true, false, rules, arith, ◌∷◌, [], length, ap, sym, ◌∙◌}
use Rattle.buffer_glyphs.specs.Events.{Replace}
use Rattle.buffer_core.specs.Sides.{items_of, origins_by, origins_of}
use Rattle.buffer_core.proofs.HandedOn.{replaced_origins}
use Rattle.buffer_core.proofs.Replaced.{replaced_items}
use Rattle.buffer_core.proofs.Stays.{has_room, replaced_stays}
use Rattle.buffer_core.proofs.buffer.hb_buffer_t.replace_glyphs.Goals as goal

pub returns-clause-items : goal.returns-clause-items
returns-clause-items c e = ap items_of c.in_ok-replace_taken.ensures.replaced ∙ replaced_items c.args.num_in c.args.glyph_data.now c.args.self.now

pub returns-clause-origins : goal.returns-clause-origins
returns-clause-origins c e =
    let s = c.args.self.now in
    ap origins_of c.in_ok-replace_taken.ensures.replaced ∙ replaced_origins c.args.num_in c.args.glyph_data.now s ∙ ap (λ n. origins_by (Replace (length s.behind) c.args.num_in n ∷ []) s) (sym c.requires.given)

pub returns-then-not-has_output_room-clause-stays : goal.returns-then-not-has_output_room-clause-stays
returns-then-not-has_output_room-clause-stays c e =
    let s = c.args.self.now in
    let stays = replaced_stays c.args.num_in c.args.glyph_data.now s (search rules) e in
    let room = has_room s c.args.num_out (omega (arith, stays.1, c.requires.taken, c.requires.given)) (c.has_output_room.ensures.within stays.0) in
    absurd (let bad : true ≡ false = sym room ∙ sym c.has_output_room.ensures.room ∙ c.if-not-has_output_room.true in cc)

pub returns-in_err-replace_taken-clause-stays : goal.returns-in_err-replace_taken-clause-stays
returns-in_err-replace_taken-clause-stays c e =
    let s = c.args.self.now in
    let stays = replaced_stays c.args.num_in c.args.glyph_data.now s (search rules) e in
    absurd (let bad : false ≡ true = c.in_err-replace_taken.ensures.stays stays.1 in cc)
