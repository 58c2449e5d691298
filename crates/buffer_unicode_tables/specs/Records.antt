-- The records of all tables, as a caller gives them.
use Rattle.std.specs.Prelude.{◌≡◌, true}
use Rattle.buffer_unicode.specs.Keys.{is_rising}
use Rattle.buffer_unicode_tables.specs.declared.records.UnicodeRecords.{UnicodeRecords}
use Rattle.buffer_unicode_tables.specs.Tables.{Tables}

-- the tables of records
abbrev pub tables_of_records : UnicodeRecords → Tables
tables_of_records r = record {
  splits = r.splits.items;
  pairs = r.pairs.items;
  classes = r.classes.items;
  mirrored = r.mirrored.items;
  vertical = r.vertical.items;
  pictographic = r.pictographic.items;
  joining = r.joining.items;
  indic = r.indic.items;
  universal = r.universal.items;
  thai = r.thai.items;
}

-- the keys of each table rise
pub record AreRising (r : UnicodeRecords) : Type 0 where
  pub splits : is_rising (λ _. 0) (λ s. s.whole) r.splits.items ≡ true
  pub pairs : is_rising (λ p. p.first) (λ p. p.second) r.pairs.items ≡ true
  pub classes : is_rising (λ _. 0) (λ c. c.character) r.classes.items ≡ true
  pub mirrored : is_rising (λ _. 0) (λ c. c.character) r.mirrored.items ≡ true
  pub vertical : is_rising (λ _. 0) (λ c. c.character) r.vertical.items ≡ true
  pub pictographic : is_rising (λ _. 0) (λ c. c.first) r.pictographic.items ≡ true
  pub joining : is_rising (λ _. 0) (λ j. j.character) r.joining.items ≡ true
  pub indic : is_rising (λ _. 0) (λ i. i.character) r.indic.items ≡ true
  pub universal : is_rising (λ _. 0) (λ u. u.character) r.universal.items ≡ true
  pub thai : is_rising (λ t. t.character) (λ t. t.action) r.thai.items ≡ true
