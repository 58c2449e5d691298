use Rattle.layout_gsub.specs.Ligating.{passed_item}
use Rattle.layout_gsub.specs.Uniting.{ArePassedAs}
use Rattle.layout_gsub.proofs.ligate.pass_between.Given as goal

-- so many are passed
abbrev pub invariant-loop : goal.invariant-loop
invariant-loop l = ArePassedAs (passed_item l.numbering.renumbers l.numbering.lig_id l.numbering.ended l.numbering.own) l.counter l.initial.buffer l.buffer
