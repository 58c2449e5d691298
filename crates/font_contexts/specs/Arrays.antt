-- The arrays of a rule (OpenType, chapter 2, sequence rule and chained sequence rule tables).
use Rattle.std.specs.Prelude.{ℕ, ◌+◌, ◌-◌, ◌*◌, Bool, if◌then◌else◌, List, Result, Ok}
use Rattle.font_bytes.specs.declared.fault.TableFault.{TableFault}
use Rattle.font_bytes.specs.Results.{and_then}
use Rattle.font_bytes.specs.Words.{need, word}
use Rattle.font_contexts.specs.declared.arrays.ElementArray.{ElementArray}
use Rattle.font_contexts.specs.declared.arrays.RuleArrays.{RuleArrays}

-- no array
abbrev pub no_array : ElementArray
no_array = record { at = 0; count = 0 }

-- the offset past an array of elements of a width
abbrev pub end_of : ℕ → ElementArray → ℕ
end_of width a = a.at + width * a.count

-- an array of n elements of a width at an offset, within the table
abbrev pub array_at : ℕ → List ℕ → ℕ → ℕ → Result ElementArray TableFault
array_at width table at count = and_then (need table at (width * count)) (λ _. Ok (record { at = at; count = count }))

-- an array after its count, of whose elements the first ones are missing
abbrev pub counted_array : ℕ → ℕ → List ℕ → ℕ → Result ElementArray TableFault
counted_array width missing table at = and_then (need table at 2) (λ _. array_at width table (at + 2) (word table at - missing))

-- sequence rule, and format 3 of contexts: glyphCount at 0, seqLookupCount at 2, from 4 on the input sequence, of which a
-- rule's has no first glyph, then seqLookupRecords
abbrev pub plain_arrays : ℕ → List ℕ → ℕ → Result RuleArrays TableFault
plain_arrays missing table at = and_then (need table at 4)
    (λ _. and_then (array_at 2 table (at + 4) (word table at - missing)) (λ input. and_then (array_at 4 table (end_of 2 input) (word table (at + 2)))
    (λ records. Ok (record { backtrack = no_array; input = input; lookahead = no_array; records = records }))))

-- chained sequence rule, and format 3 of chained contexts: the backtrack sequence, the input sequence, of which a rule's has
-- no first glyph, the lookahead sequence and seqLookupRecords, each after its count
abbrev pub chained_arrays : ℕ → List ℕ → ℕ → Result RuleArrays TableFault
chained_arrays missing table at = and_then (counted_array 2 0 table at)
    (λ backtrack. and_then (counted_array 2 missing table (end_of 2 backtrack)) (λ input. and_then (counted_array 2 0 table (end_of 2 input))
    (λ lookahead. and_then (counted_array 4 0 table (end_of 2 lookahead))
    (λ records. Ok (record { backtrack = backtrack; input = input; lookahead = lookahead; records = records })))))

-- the arrays of a rule
abbrev pub arrays_at : Bool → ℕ → List ℕ → ℕ → Result RuleArrays TableFault
arrays_at chained missing table at = if chained then chained_arrays missing table at else plain_arrays missing table at

-- how many elements the arrays have
abbrev pub element_count : RuleArrays → ℕ
element_count p = p.backtrack.count + p.input.count + p.lookahead.count + p.records.count
