-- The line of a result, as it is made.
use Rattle.std.proofs.Common.{ℕ, ◌≡◌, Bool, true, false, List, length, refl, sym, ap, subst, ◌∙◌}
use Rattle.std.specs.Str.{IsUtf8}
use Rattle.kuspveli.specs.buffer_common.Direction.{is_backward}
use Rattle.kuspveli.specs.buffer_common.declared.direction.Direction.{Direction}
use Rattle.kuspveli.specs.buffer_glyphs.Items.{clusters}
use Rattle.kuspveli.specs.shape_slices.declared.slices.SourceSlice.{SourceSlice}
use Rattle.kuspveli.specs.shape_slices.Fitting.{SlicesFit}
use Rattle.kuspveli.specs.shape_slices.Laws.{SourceSlicesJoin}
use Rattle.kuspveli.specs.shape_slices.Runs.{AreSourceSlices}
use Rattle.kuspveli.specs.shaping_buffer.buffer_core.Sides.{Sides, all_glyphs}
use Rattle.caret_model.specs.declared.carets.Caret.{Caret}
use Rattle.caret_model.specs.Lines.{HasLine, IsLine, IsLineOf, carets_of}
use Rattle.caret_model.specs.Pens.{are_at_beginning}
use Rattle.caret_model.proofs.Beginnings.{joined_begins, line_joins}
use Rattle.caret_model.proofs.PenSteps.{are_line}

-- slices whose first one is not at the beginning of the line don't join along it
pub has_no_line : (d : Direction) (result : Sides) (text : List ℕ) (ss : List SourceSlice) (backward test : Bool) → AreSourceSlices (clusters (all_glyphs result)) (length text) ss → backward ≡ is_backward d → test ≡ are_at_beginning backward (length text) ss → test ≡ false
    → ¬ HasLine d result text
has_no_line d result text ss backward test are same is failed has =
    let begins : are_at_beginning backward (length text) ss ≡ true = ap (λ b. are_at_beginning b (length text) ss) same ∙ joined_begins (is_backward d) (length text) ss (has.joined ss are) in
    let contrary : false ≡ true = sym failed ∙ is ∙ begins in
    cc

-- else they are those of a line
pub made_line : SourceSlicesJoin → (d : Direction) (result : Sides) (text : List ℕ) (ss : List SourceSlice) (cs : List Caret) (backward test : Bool) → IsUtf8 text → SlicesFit result text → AreSourceSlices (clusters (all_glyphs result)) (length text) ss
    → backward ≡ is_backward d → test ≡ are_at_beginning backward (length text) ss → test ≡ true → cs ≡ carets_of d result.positions (length text) ss
    → IsLineOf d result text (record { slices = ss; carets = cs; backward = backward; end = length text })
made_line law d result text ss cs backward test utf8 fits are same is passed carets =
    let begins : are_at_beginning (is_backward d) (length text) ss ≡ true = ap (λ b. are_at_beginning b (length text) ss) (sym same) ∙ sym is ∙ passed in
    let joined = line_joins law (is_backward d) text (clusters (all_glyphs result)) ss utf8 fits are begins in
    let P : Bool → Type 0 = λ b. IsLine (record { slices = ss; carets = cs; backward = b; end = length text }) in
    record { slices = are; carets = carets; backward = same; end = refl; line = subst P (sym same) (are_line d result.positions (length text) ss cs joined carets) }
