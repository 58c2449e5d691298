use Rattle.layout_gpos.specs.declared.bases.Sought.TheVariants.{Base, Ligature}
use Rattle.layout_gpos.specs.Bases.{any_sought}
use Rattle.layout_gpos.proofs.bases.LastSearches.new.Goals as goal

pub returns : goal.returns
returns c = λ a xs. record { base = c.new.ensures (any_sought Base a) xs; ligature = c.new-2.ensures (any_sought Ligature a) xs }
