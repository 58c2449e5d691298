use Rattle.std.proofs.Common.{◌≤◌, vec_len}
use Rattle.std.specs.Io.KnownBytes.{Consumes}
use Rattle.shell_run.proofs.read.read_all.Given as goal

-- what was read so far was consumed, at least a byte each time
abbrev pub invariant-loop : goal.invariant-loop
invariant-loop g l = record {
  consumed : Consumes (g.R.Read.remaining l.initial.reader) (g.R.Read.remaining l.reader) l.bytes.items;
  progress : l.counter ≤ vec_len l.bytes;
}
