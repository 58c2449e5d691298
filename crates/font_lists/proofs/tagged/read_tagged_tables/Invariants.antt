use Rattle.std.proofs.Common.{◌≡◌, drop, take, map}
use Rattle.font_common.specs.Offsets.{after}
use Rattle.font_lists.specs.Tagged.{tagged_tables}
use Rattle.font_lists.proofs.tagged.read_tagged_tables.Given as goal

-- the values so far, and those of the records that are left, are all; they have the tags of their records
abbrev pub invariant-loop-one : goal.invariant-loop-one
invariant-loop-one g l = record {
  all : tagged_tables (λ r t. g.R.TaggedReader.value_of l.reader r l.table t) l.fn.room.left l.tagged
      ≡ after l.values.items (tagged_tables (λ r t. g.R.TaggedReader.value_of l.reader r l.table t) l.room.left (drop l.one-index l.tagged));
  tags : map g.R.TaggedReader.tag_of l.values.items ≡ map (λ t. t.tag.0) (take l.one-index l.tagged);
}
