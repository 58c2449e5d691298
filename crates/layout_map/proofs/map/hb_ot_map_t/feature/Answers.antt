use Rattle.layout_map.proofs.Slotted.{none_found}
use Rattle.layout_map.proofs.map.hb_ot_map_t.feature.Goals as goal

pub returns-in-None-clause-found : goal.returns-in-None-clause-found
returns-in-None-clause-found c =
    rw (← c.self.view_is) (none_found c.self.inside.slots.slots c.args.tag.0 c.self.inside.features.items c.self.invariant.3 (c.guess.ensures c.in-None.is))
