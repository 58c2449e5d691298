use Rattle.std.proofs.Common.{◌+◌, length-append, arith}
use Rattle.shell_tables_bytes.specs.Languages.{tags_at}
use Rattle.shell_tables_bytes.proofs.Pushes.{tag_pushed, tags_read}
use Rattle.shell_tables_bytes.proofs.languages.tags_of.Goals as goal

pub loop-index-preserved : goal.loop-index-preserved
loop-index-preserved c = record {
  tags = tag_pushed c.args.bytes.now (c.args.at + 14) c.args.count c.loop-index.index c.loop-index.tags.items c.push.new.self.items (tags_at c.args.bytes.now c.args.at) _
      (omega arith) c.push.ensures.items c.long.ensures c.loop-index.invariant.tags;
  count = rw c.push.ensures.items (simp length-append (omega arith));
}

pub returns : goal.returns
returns c =
    tags_read c.args.bytes.now (c.args.at + 14) c.args.count c.loop-index.index c.loop-index.tags.items (tags_at c.args.bytes.now c.args.at) (omega arith) c.loop-index.invariant.tags
