use Rattle.std.proofs.Common.{◌≡◌, ◌≤◌, ◌+◌, ◌∙◌, length, false, ap, arith}
use Rattle.std.proofs.lemmas.Grind.{common_steps}
use Rattle.buffer_core.specs.Sides.{items_of, with_added, origins_of}
use Rattle.buffer_core.specs.Text.{added_text}
use Rattle.buffer_core.proofs.Apart.{text_added_items, text_added_origins}
use Rattle.buffer_core.proofs.Chars.{length_added}
use Rattle.buffer_core.proofs.Appended.{appended_sound, appended_view}
use Rattle.buffer_core.proofs.buffer.hb_buffer_t.push_str.Goals as goal

pub returns-clause-added : goal.returns-clause-added
returns-clause-added c e =
    let closed : c.self.inside.have_output ≡ false = rw (← c.self.view_is) at c.requires in
    appended_view c.self.inside c.append_text.new.glyphs c.append_text.new.positions c.of-self-inside.result (added_text c.args.text.now) closed c.self.invariant c.in_ok-append_text.ensures.ok ∙ ap (with_added (added_text c.args.text.now)) c.self.view_is

pub returns-clause-items : goal.returns-clause-items
returns-clause-items c e = ap items_of (returns-clause-added c e) ∙ text_added_items c.args.text.now c.args.self.now

pub returns-clause-origins : goal.returns-clause-origins
returns-clause-origins c e = ap origins_of (returns-clause-added c e) ∙ text_added_origins c.args.text.now c.args.self.now

pub invariant_of-self-2 : goal.invariant_of-self-2
invariant_of-self-2 c =
    let closed : c.self.inside.have_output ≡ false = rw (← c.self.view_is) at c.requires in
    let count = length_added c.args.text.now in
    let room : length c.self.inside.info.items + length (added_text c.args.text.now) ≤ c.self.inside.max_len = grind (arith, common_steps, count) in
    appended_sound c.self.inside _ _ _ (added_text c.args.text.now) closed c.self.invariant c.of-self-inside.ensures.lent (rw (c.deref.ensures.value, ← c.of-self-inside.ensures.known) at c.order_of_text-known.ensures) room c.in_ok-append_text.ensures.ok
