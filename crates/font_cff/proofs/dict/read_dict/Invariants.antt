use Rattle.std.proofs.Common.{◌≡◌, ◌-◌}
use Rattle.font_cff.specs.Dict.{dict_runs, start_of}
use Rattle.font_cff.proofs.dict.read_dict.Given as goal

-- the steps that are left lead where all lead
abbrev pub invariant-loop-index : goal.invariant-loop-index
invariant-loop-index l = dict_runs l.table l.span.end (l.index-end - l.index) l.state ≡ dict_runs l.table l.span.end (l.span.end - l.span.at) (start_of l.span.at)
