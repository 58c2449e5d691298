use Rattle.std.proofs.Common.{[], ◌∷◌, rules, arith, ap, ◌∙◌}
use Rattle.std.proofs.lemmas.Grind.{common_steps}
use Rattle.buffer_core.specs.Sides.{items_of, origins_of}
use Rattle.buffer_core.proofs.HandedOn.{handed_origins}
use Rattle.buffer_core.proofs.Replaced.{handed_items}
use Rattle.buffer_core.proofs.buffer.hb_buffer_t.hand_on.Goals as goal

pub returns-then-asks_breaks-clause-handed : goal.returns-then-asks_breaks-clause-handed
returns-then-asks_breaks-clause-handed c = first_of (search rules, grind (arith, common_steps))

pub returns-then-asks_breaks-clause-items : goal.returns-then-asks_breaks-clause-items
returns-then-asks_breaks-clause-items c = ap items_of (returns-then-asks_breaks-clause-handed c) ∙ handed_items (c.args.glyph ∷ []) c.args.self.now

pub returns-then-asks_breaks-clause-origins : goal.returns-then-asks_breaks-clause-origins
returns-then-asks_breaks-clause-origins c = ap origins_of (returns-then-asks_breaks-clause-handed c) ∙ handed_origins (c.args.glyph ∷ []) c.args.self.now
