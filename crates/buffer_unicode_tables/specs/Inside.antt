-- The tables of a value's fields, and their invariant.
use Rattle.std.specs.Prelude.{◌≡◌, true}
use Rattle.buffer_unicode.specs.Keys.{is_rising}
use Rattle.buffer_unicode_tables.specs.declared.tables.UnicodeTables.TheInside.{Inside}
use Rattle.buffer_unicode_tables.specs.SecondHalves.{HaveSeconds}
use Rattle.buffer_unicode_tables.specs.Tables.{Tables, splits_of}
use Rattle.buffer_unicode_tables.specs.Expansion.{EndWithin}

-- the tables of a value's fields
abbrev pub tables_in : Inside → Tables
tables_in t = record {
  splits = t.splits;
  pairs = t.pairs.items;
  classes = t.classes;
  mirrored = t.mirrored;
  vertical = t.vertical;
  pictographic = t.pictographic;
  joining = t.joining;
  indic = t.indic;
  universal = t.universal;
  thai = t.thai.items;
}

-- the keys of each table rise, the slots are those of the pairs, and each chain of first halves ends within eight
-- decompositions
pub record IsSound (t : Inside) : Type 0 where
  pub seconds : HaveSeconds t.seconds.slots.items t.pairs.items
  pub pairs_rise : is_rising (λ r. r.first) (λ r. r.second) t.pairs.items ≡ true
  pub classes_rise : is_rising (λ _. 0) (λ r. r.character) t.classes ≡ true
  pub thai_rise : is_rising (λ r. r.character) (λ r. r.action) t.thai.items ≡ true
  pub shallow : EndWithin (splits_of t.splits) 8
