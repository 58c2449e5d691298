-- What a call leaves that does a stage, from what it leaves on Ok and on Err.
use Rattle.std.proofs.Common.{◌≡◌, ◌≢◌, Result, Ok, Err, OnOk, IfErr, sym, subst}
use Rattle.std.specs.Result.{IsErrAnd}
use Rattle.buffer_glyphs.specs.declared.cause.ShapeCause.{ShapeCause}
use Rattle.buffer_glyphs.specs.declared.cause.ShapeCause.TheVariants.{OutOfMemory}
use Rattle.buffer_core.specs.Readings.{Stage, reading_of}
use Rattle.buffer_core.specs.Sides.{Sides, state_of}
use Rattle.buffer_stages.specs.Ready.{DoesGlyphStage, IsDone}
use Rattle.buffer_stages.specs.Stages.{DoesStage, IsFollowed}

pub does_stage : {X : Type 0} (stage : Stage) (r : Result X ShapeCause) (old new : Sides) → OnOk r (IsFollowed stage old new) → IfErr r (λ (e : ShapeCause). e ≢ OutOfMemory → reading_of stage (state_of old) ≡ Err e) → DoesStage stage r old new
does_stage stage (Ok x) old new ok err = ok
does_stage stage (Err e) old new ok err = err

-- an error that `?` hands on
pub passed_stage : {X : Type 0} (stage : Stage) (r : Result X ShapeCause) (e : ShapeCause) (old new : Sides) → IsErrAnd r (λ (f : ShapeCause). f ≡ e) → (e ≢ OutOfMemory → reading_of stage (state_of old) ≡ Err e) → DoesStage stage r old new
passed_stage stage (Ok x) e old new h refused = absurd h
passed_stage stage (Err f) e old new h refused = let P : ShapeCause → Type 0 = λ g. g ≢ OutOfMemory → reading_of stage (state_of old) ≡ Err g in subst P (sym h) refused

pub passed_glyph_stage : {X : Type 0} (stage : Stage) (r : Result X ShapeCause) (e : ShapeCause) (old new : Sides) → IsErrAnd r (λ (f : ShapeCause). f ≡ e) → (e ≢ OutOfMemory → reading_of stage (state_of old) ≡ Err e) → DoesGlyphStage stage r old new
passed_glyph_stage stage (Ok x) e old new h refused = absurd h
passed_glyph_stage stage (Err f) e old new h refused = let P : ShapeCause → Type 0 = λ g. g ≢ OutOfMemory → reading_of stage (state_of old) ≡ Err g in subst P (sym h) refused
