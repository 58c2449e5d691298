-- Slices whose first one is at the beginning of the line join along it.
use Rattle.std.proofs.Common.{ℕ, ◌≡◌, ◌==◌, Bool, true, false, List, [], ◌∷◌, ◌++◌, length, map, reverse, arith, inl, inr, refl, sym, ap, subst, ◌∙◌}
use Rattle.std.specs.Str.{IsUtf8}
use Rattle.std.proofs.lemmas.Bool.Decides.{nat_tests}
use Rattle.std.proofs.lemmas.Grind.{common_steps}
use Rattle.std.proofs.lemmas.List.{reverse-append, reverse-reverse}
use Rattle.kuspveli.specs.buffer_parts.Fits.{FitsText}
use Rattle.kuspveli.specs.buffer_parts.Slices.{AreJoined}
use Rattle.kuspveli.specs.shape_slices.declared.slices.SourceSlice.{SourceSlice}
use Rattle.kuspveli.specs.shape_slices.Fitting.{character_starts}
use Rattle.kuspveli.specs.shape_slices.Laws.{SourceSlicesJoin}
use Rattle.kuspveli.specs.shape_slices.Runs.{AreSourceSlices, along_glyphs, byte_range}
use Rattle.caret_model.specs.Pens.{are_at_beginning}
use Rattle.caret_model.proofs.Joins.{joined_before, joined_none}
use Rattle.buffer_facts.proofs.Numbers.{same_by_test as same_from_test, test_of_same as test_from_same}

turned : (s : SourceSlice) (ss : List SourceSlice) → reverse (byte_range s ∷ map byte_range ss) ≡ reverse (map byte_range ss) ++ byte_range s ∷ []
turned s ss = reverse-append (byte_range s ∷ []) (map byte_range ss)

-- ---- a line whose slices run the other way has one slice at most

one_forward : (end : ℕ) (ss : List SourceSlice) → AreJoined 0 end (reverse (map byte_range ss)) → are_at_beginning false end ss ≡ true → AreJoined 0 end (map byte_range ss)
one_forward end [] h test = h
one_forward end (s ∷ ss) h test =
    let parts = joined_before 0 end (reverse (map byte_range ss)) (byte_range s) (subst (AreJoined 0 end) (turned s ss) h) in
    let first : s.start ≡ 0 = same_from_test s.start 0 test in
    let none : reverse (map byte_range ss) ≡ [] = joined_none 0 s.start (reverse (map byte_range ss)) (sym first) parts.2 in
    let empty : map byte_range ss ≡ [] = sym (reverse-reverse (map byte_range ss)) ∙ ap reverse none in
    let P : List (ℕ × ℕ) → Type 0 = λ rs. AreJoined 0 end (byte_range s ∷ rs) in
    subst P (sym empty) (first, parts.0, parts.1)

one_backward : (end : ℕ) (ss : List SourceSlice) → AreJoined 0 end (map byte_range ss) → are_at_beginning true end ss ≡ true → AreJoined 0 end (reverse (map byte_range ss))
one_backward end [] h test = h
one_backward end (s ∷ ss) h test =
    let last : s.end ≡ end = same_from_test s.end end test in
    let empty : map byte_range ss ≡ [] = joined_none s.end end (map byte_range ss) last h.2 in
    let P : List (ℕ × ℕ) → Type 0 = λ rs. AreJoined 0 end (reverse (byte_range s ∷ rs)) in
    subst P (sym empty) (h.0, h.1, last)

-- slices of a text that fits, the first one at the beginning of the line, join along it
pub line_joins : SourceSlicesJoin → (falls : Bool) (text ns : List ℕ) (ss : List SourceSlice) → IsUtf8 text → FitsText (character_starts text) ns → AreSourceSlices ns (length text) ss
    → are_at_beginning falls (length text) ss ≡ true → AreJoined 0 (length text) (along_glyphs falls (map byte_range ss))
line_joins law false text ns ss utf8 fits are test = elim fits.ordered [
  | inl rising ↦ law false text ns ss utf8 fits rising are
  | inr falling ↦ one_forward (length text) ss (law true text ns ss utf8 fits falling are) test
]
line_joins law true text ns ss utf8 fits are test = elim fits.ordered [
  | inl rising ↦ one_backward (length text) ss (law false text ns ss utf8 fits rising are) test
  | inr falling ↦ law true text ns ss utf8 fits falling are
]

-- the first one of slices that join along a line is at its beginning
pub joined_begins : (falls : Bool) (end : ℕ) (ss : List SourceSlice) → AreJoined 0 end (along_glyphs falls (map byte_range ss)) → are_at_beginning falls end ss ≡ true
joined_begins falls end [] h = refl
joined_begins false end (s ∷ ss) h = test_from_same s.start 0 h.0
joined_begins true end (s ∷ ss) h =
    let parts = joined_before 0 end (reverse (map byte_range ss)) (byte_range s) (subst (AreJoined 0 end) (turned s ss) h) in
    test_from_same s.end end parts.1
