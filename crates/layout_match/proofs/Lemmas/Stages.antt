-- The refusal of a stage by a cause that `?` passes on.
use Rattle.std.proofs.Common.{ℕ, ◌≡◌, ◌≢◌, Ok, Err, sym, subst}
use Rattle.std.specs.Prelude.{Result, IsErrAnd}
use Rattle.buffer_glyphs.specs.declared.cause.ShapeCause.{ShapeCause}
use Rattle.buffer_glyphs.specs.declared.cause.ShapeCause.TheVariants.{OutOfMemory}
use Rattle.buffer_core.specs.Readings.{Stage, reading_of}
use Rattle.buffer_core.specs.Sides.{Sides}
use Rattle.buffer_stages.specs.Ready.{DoesGlyphStageFrom, state_with}

pub stage_refused : {X : Type 0} (r : Result X ShapeCause) (e : ShapeCause) (before after : ℕ) (stage : Stage) (old new : Sides) → IsErrAnd r (λ (f : ShapeCause). f ≡ e) → (e ≢ OutOfMemory → reading_of stage (state_with before old) ≡ Err e) → DoesGlyphStageFrom before after stage r old new
stage_refused (Ok x) e before after stage old new h p = absurd h
stage_refused (Err f) e before after stage old new h p = subst (λ (k : ShapeCause). k ≢ OutOfMemory → reading_of stage (state_with before old) ≡ Err k) (sym h) p
