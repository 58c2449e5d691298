use Rattle.std.proofs.Common.{refl}
use Rattle.buffer_stages.specs.LayoutStages.{item_not_substituted}
use Rattle.buffer_stages.proofs.Mapped.{mapped_brings_none, mapped_done}
use Rattle.buffer_stages.proofs.layout_stages._hb_clear_substitution_flags.Goals as goal

pub returns-clause-ok : goal.returns-clause-ok
returns-clause-ok c = mapped_done item_not_substituted (λ x. refl) _ _ c.without_substitutions.ensures

pub returns-clause-brings_none : goal.returns-clause-brings_none
returns-clause-brings_none c = mapped_brings_none item_not_substituted (λ x. refl) _ _ c.without_substitutions.ensures
