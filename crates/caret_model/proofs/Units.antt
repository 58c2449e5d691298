-- The lines of texts of units.
use Rattle.std.proofs.Common.{ℕ, zero, suc, ◌≡◌, ◌≤◌, ◌<◌, ◌+◌, Bool, true, false, List, [], ◌∷◌, length, arith, refl, sym, ap, subst, ◌∙◌}
use Rattle.std.specs.List.{repeat}
use Rattle.std.specs.Str.{IsAscii, chars}
use Rattle.std.proofs.lemmas.Str.{IsUtf8-from_ascii, chars-IsAscii}
use Rattle.kuspveli.specs.buffer_common.Direction.{is_backward}
use Rattle.kuspveli.specs.buffer_common.declared.direction.Direction.{Direction}
use Rattle.kuspveli.specs.buffer_glyphs.Items.{clusters}
use Rattle.kuspveli.specs.buffer_glyphs.Lemmas.Numbers.{Has, has_here, has_more}
use Rattle.kuspveli.specs.shape_slices.declared.slices.SourceSlice.{SourceSlice}
use Rattle.kuspveli.specs.shape_slices.Fitting.{SlicesFit, UnitsFit, character_starts}
use Rattle.kuspveli.specs.shape_slices.Laws.{SourceSlicesJoin}
use Rattle.kuspveli.specs.shape_slices.Runs.{AreSourceSlices}
use Rattle.kuspveli.specs.shaping_buffer.buffer_core.Sides.{Sides, all_glyphs}
use Rattle.kuspveli.specs.shaping_buffer.buffer_core.Text.{offsets_from}
use Rattle.caret_model.specs.declared.carets.Caret.{Caret}
use Rattle.caret_model.specs.Lines.{HasLineTo, IsLineTo, carets_of}
use Rattle.caret_model.specs.Pens.{are_at_beginning}
use Rattle.caret_model.proofs.Beginnings.{joined_begins}
use Rattle.caret_model.proofs.Made.{made_line}

-- as many letters as a text has units
abbrev letters : ℕ → List ℕ
letters n = repeat n (97 ∷ [])

letters_count : (n : ℕ) → length (letters n) ≡ n
letters_count zero = refl
letters_count (suc n) = ap suc (letters_count n)

are_ascii : (n : ℕ) → IsAscii (letters n)
are_ascii zero i = omega arith
are_ascii (suc n) zero = omega arith
are_ascii (suc n) (suc i) = are_ascii n i

-- a letter begins at each unit
start_at : (at n i : ℕ) → i < n → Has (offsets_from at (letters n)) (at + i)
start_at at zero i lt = absurd (omega (arith, lt))
start_at at (suc n) zero lt = subst (Has (offsets_from at (letters (suc n)))) (omega arith) (has_here at (offsets_from (at + 1) (letters n)))
start_at at (suc n) (suc i) lt = has_more at (at + suc i) (offsets_from (at + 1) (letters n)) (subst (Has (offsets_from (at + 1) (letters n))) (omega arith) (start_at (at + 1) n i (omega (arith, lt))))

starts : (n i : ℕ) → i < n → Has (character_starts (letters n)) i
starts n i lt =
    let there : Has (offsets_from 0 (letters n)) i = subst (Has (offsets_from 0 (letters n))) (zero_plus i) (start_at 0 n i lt) in
    subst (λ cs. Has (offsets_from 0 cs) i) (sym (chars-IsAscii (letters n) (are_ascii n))) there
  where
    zero_plus : (i : ℕ) → 0 + i ≡ i
    zero_plus i = omega arith

-- clusters that fit a text of units fit the text of as many letters
fits_letters : (result : Sides) (end : ℕ) → UnitsFit result end → SlicesFit result (letters end)
fits_letters result end fits = record { ordered = fits.ordered; starting = λ n there. starts end n (fits.within n there); zero_there = fits.zero_there }

-- slices whose first one is at the beginning of the line are those of a line
pub units_line : SourceSlicesJoin → (d : Direction) (result : Sides) (end : ℕ) (ss : List SourceSlice) (cs : List Caret) (backward test : Bool) → UnitsFit result end → AreSourceSlices (clusters (all_glyphs result)) end ss
    → backward ≡ is_backward d → test ≡ are_at_beginning backward end ss → test ≡ true → cs ≡ carets_of d result.positions end ss
    → IsLineTo d result end (record { slices = ss; carets = cs; backward = backward; end = end })
units_line law d result end ss cs backward test fits are same is passed carets =
    let text = letters end in
    let P : ℕ → Type 0 = λ n. AreSourceSlices (clusters (all_glyphs result)) n ss → test ≡ are_at_beginning backward n ss → cs ≡ carets_of d result.positions n ss → IsLineTo d result n (record { slices = ss; carets = cs; backward = backward; end = n }) in
    let of_letters : P (length text) = λ are is carets. made_line law d result text ss cs backward test (IsUtf8-from_ascii text (are_ascii end)) (fits_letters result end fits) are same is passed carets in
    subst P (letters_count end) of_letters are is carets

-- slices whose first one is not there don't join along the line
pub units_without_line : (d : Direction) (result : Sides) (end : ℕ) (ss : List SourceSlice) (backward test : Bool) → AreSourceSlices (clusters (all_glyphs result)) end ss → backward ≡ is_backward d → test ≡ are_at_beginning backward end ss → test ≡ false
    → ¬ HasLineTo d result end
units_without_line d result end ss backward test are same is failed has =
    let begins : are_at_beginning backward end ss ≡ true = ap (λ b. are_at_beginning b end ss) same ∙ joined_begins (is_backward d) end ss (has.joined ss are) in
    let contrary : false ≡ true = sym failed ∙ is ∙ begins in
    cc

-- a result that doesn't fit has no line
pub without_fit : (d : Direction) (result : Sides) (end : ℕ) → ¬ UnitsFit result end → ¬ HasLineTo d result end
without_fit d result end unfit has = unfit (record { ordered = has.ordered; within = has.within; zero_there = has.zero_there })
