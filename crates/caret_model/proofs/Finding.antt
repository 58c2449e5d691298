-- The slice that has a byte, slice by slice.
use Rattle.std.proofs.Common.{ℕ, ◌≡◌, ◌≤◌, ◌<◌, ◌+◌, List, length, take, inl, inr, subst}
use Rattle.std.specs.Prelude.{All, slice_index_or}
use Rattle.std.proofs.lemmas.Bool.{cases_lt}
use Rattle.std.proofs.lemmas.List.{take_all}
use Rattle.std.proofs.lemmas.List.Elements.{All-more}
use Rattle.std.proofs.lemmas.Option.{get_or_from_slice_get, slice_get_within}
use Rattle.kuspveli.specs.buffer_parts.Slices.{IsIn}
use Rattle.kuspveli.specs.shape_slices.declared.slices.SourceSlice.{SourceSlice}
use Rattle.kuspveli.specs.shape_slices.Runs.{byte_range}
use Rattle.caret_model.specs.Lines.{IsLine, Line}
use Rattle.caret_model.proofs.OneSlice.{bytes_are_in_one_slice}

-- a slice doesn't have a byte
abbrev pub HasNot : ℕ → SourceSlice → Type 0
HasNot byte s = ¬ IsIn (byte_range s) byte

pub none_more : (byte : ℕ) (ss : List SourceSlice) (i : ℕ) (e : SourceSlice) → i < length ss → All (HasNot byte) (take i ss) → HasNot byte (slice_index_or ss i e) → All (HasNot byte) (take (i + 1) ss)
none_more byte ss i e within none here = All-more (HasNot byte) ss i e within none here

-- a byte that no slice has is past the end of the text
pub past_end : (l : Line) (ss : List SourceSlice) (i byte : ℕ) → IsLine l → ss ≡ l.slices → length ss ≤ i → All (HasNot byte) (take i ss) → l.end ≤ byte
past_end l ss i byte is same past none = elim (cases_lt byte l.end) [
  | inl within ↦
      let P : List SourceSlice → Type 0 = λ rs. All (HasNot byte) rs in
      let all : P l.slices = subst P same (subst P (take_all i ss past) none) in
      let one = bytes_are_in_one_slice l byte is within in
      let Q : SourceSlice → Type 0 = λ s. HasNot byte s in
      absurd (subst Q (get_or_from_slice_get l.slices one.index one.slice one.slice one.is) (all one.index one.slice (slice_get_within l.slices one.index one.slice one.is)) one.has)
  | inr le ↦ le
]
