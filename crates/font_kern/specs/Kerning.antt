-- What a subtable of the table kern does in a text of one direction.
use Rattle.std.specs.Prelude.{ℕ, ◌-◌, Bool, if◌then◌else◌, List, Result, Ok, Err}
use Rattle.font_bytes.specs.declared.fault.TableFault.{TableFault}
use Rattle.font_bytes.specs.Results.{and_then}
use Rattle.layout_common.specs.Coverage.{in_order}
use Rattle.layout_tables.specs.declared.pair.PairRow.{PairRow}
use Rattle.layout_tables.specs.declared.pair.PairPos.TheVariants.{Glyphs}
use Rattle.font_kern.specs.declared.kerning.Kerning.{Kerning}
use Rattle.font_kern.specs.declared.subtables.Subtable.{Subtable}
use Rattle.font_kern.specs.Pairs.{pairs_at, rows_of_pairs, firsts_of}
use Rattle.font_kern.specs.Classes.{classes_at}

-- pairs of glyphs
abbrev pub pair_kerning : List PairRow → Kerning
pair_kerning rows = record { firsts = in_order (firsts_of rows); pairs = Glyphs (record { rows = rows }) }

-- format 0
abbrev pub pair_kerning_at : Bool → ℕ → List ℕ → ℕ → Result (Kerning × ℕ) TableFault
pair_kerning_at is_backward room table at = and_then (pairs_at is_backward room table at) (λ p. Ok (pair_kerning (rows_of_pairs p.0), p.1))

-- the glyphs that come first in pairs, and the pairs with what is added to their glyphs
abbrev pub kerning_at : Bool → ℕ → List ℕ → Subtable → Result (Kerning × ℕ) TableFault
kerning_at is_backward room table s =
    if s.by_classes then classes_at is_backward room table (s.body - s.header) s.body
    else pair_kerning_at is_backward room table s.body
