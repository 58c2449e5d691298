-- What a search among the rows of a first glyph says of the pair.
use Rattle.std.proofs.Common.{◌≡◌, ℕ, ◌==◌, Bool, true, false, not, if◌then◌else◌, List, length, Option, Some, None, sym, ap, ◌∙◌}
use Rattle.std.specs.List.{list_any}
use Rattle.layout_tables.specs.declared.pair.PairRow.{PairRow}
use Rattle.layout_tables.specs.declared.pair.PairValues.{PairValues}
use Rattle.layout_tables.specs.Pairs.{glyph_pair_values}
use Rattle.layout_tables.specs.PairRows.{rows_of_first, second_values}
use Rattle.layout_tables.proofs.PairRuns.{first_any, values_found}

-- what is sought of a pair, by whether the glyph is the first of pairs
abbrev pub sought_of : ℕ → ℕ → List PairRow → Bool → Option (Option PairValues)
sought_of first second rows b = if b then Some (glyph_pair_values first second rows) else None

-- a glyph without rows is the first of no pairs
missing : (first : ℕ) (rows found : List PairRow) (empty : Bool) → found ≡ rows_of_first first rows → empty ≡ (length found == 0) → empty ≡ not (list_any (λ (r : PairRow). r.first == first) rows)
missing first rows found empty e is = is ∙ ap (λ (rs : List PairRow). length rs == 0) e ∙ first_any first rows

other_way : (a b : Bool) → a ≡ not b → not a ≡ b
other_way a true e = ap not e
other_way a false e = ap not e

pub first_sought : (first : ℕ) (rows found : List PairRow) (empty : Bool) → found ≡ rows_of_first first rows → empty ≡ (length found == 0) → not empty ≡ list_any (λ (r : PairRow). r.first == first) rows
first_sought first rows found empty e is = other_way empty _ (missing first rows found empty e is)

pub none_sought : (first second : ℕ) (rows found : List PairRow) (empty : Bool) → found ≡ rows_of_first first rows → empty ≡ (length found == 0) → empty ≡ true
    → None ≡ sought_of first second rows (list_any (λ (r : PairRow). r.first == first) rows)
none_sought first second rows found empty e is none = ap (sought_of first second rows) (ap not (sym none) ∙ first_sought first rows found empty e is)

pub some_sought : (first second : ℕ) (rows found : List PairRow) (empty : Bool) → found ≡ rows_of_first first rows → empty ≡ (length found == 0) → empty ≡ false
    → Some (second_values second found) ≡ sought_of first second rows (list_any (λ (r : PairRow). r.first == first) rows)
some_sought first second rows found empty e is some =
    ap (λ (rs : List PairRow). Some (second_values second rs)) e ∙ ap (λ (v : Option PairValues). Some v) (values_found first second rows)
    ∙ ap (sought_of first second rows) (ap not (sym some) ∙ first_sought first rows found empty e is)
