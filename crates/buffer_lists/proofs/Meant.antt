-- What is meant while a walk merges, and turns parts round.
use Rattle.std.proofs.Common.{ℕ, ◌≡◌, ◌≤◌, Bool, true, false, List, length, drop, arith, refl}
use Rattle.buffer_glyphs.specs.declared.info.hb_glyph_info_t.{hb_glyph_info_t as Glyph}
use Rattle.buffer_glyphs.specs.declared.level.BufferClusterLevel.{BufferClusterLevel as Level}
use Rattle.buffer_lists.specs.declared.due.falling.DueRange.{DueRange}
use Rattle.buffer_lists.specs.declared.due.Due.{Due}
use Rattle.buffer_lists.specs.declared.due.Due.TheVariants.{Nothing, Falling}
use Rattle.buffer_lists.specs.Turning.{glyphs_merged_if, range_reversed}
use Rattle.buffer_lists.specs.Falling.{with_range_in_cluster, IsDueBefore}
use Rattle.buffer_lists.specs.Due.{with_due, IsDue, IsWithin, MayBeDue, MayBeRound}
use Rattle.buffer_lists.proofs.Carried.{drop_carried}
use Rattle.buffer_lists.proofs.CarriedTurned.{carried_long, carried_turned, stretch_turned}

pub due_later : (level : Level) (at later : ℕ) (due : Due) (gs : List Glyph) → at ≤ later → MayBeDue level at due gs → MayBeDue level later due gs
due_later level at later Nothing gs le h = (tt, tt)
due_later level at later (Falling d) gs le h = (h.0, record { ordered = h.1.ordered; before = omega (arith, h.1.before, le); some = h.1.some; above = h.1.above; least = h.1.least; falls = h.1.falls })

pub due_within : (level : Level) (at n : ℕ) (due : Due) (gs : List Glyph) → at ≤ n → MayBeDue level at due gs → IsWithin n due
due_within level at n Nothing gs le h = tt
due_within level at n (Falling d) gs le h = (h.1.ordered, omega (arith, h.1.before, le))

-- as long as before
pub meant_long : (level : Level) (at : ℕ) (due : Due) (gs : List Glyph) → at ≤ length gs → MayBeDue level at due gs → length (with_due due gs) ≡ length gs
meant_long level at Nothing gs le h = refl
meant_long level at (Falling d) gs le h = carried_long d gs h.1.ordered (omega (arith, h.1.before, le))

pub meant_turned : (level : Level) (start end : ℕ) (due : Due) (gs : List Glyph) → start ≤ end → end ≤ length gs → MayBeDue level end due gs → MayBeRound start end due → with_due due (range_reversed start end gs) ≡ range_reversed start end (with_due due gs)
meant_turned level start end Nothing gs le within h round = refl
meant_turned level start end (Falling d) gs le within h round = carried_turned d start end gs le within h.1.ordered round

-- a group that was merged is reversed in its place
pub due_turned : (merge : Bool) (level : Level) (start end : ℕ) (due : Due) (old gs : List Glyph) → start ≤ end → end ≤ length gs → MayBeDue level end due gs → MayBeRound start end due → (merge ≡ false → due ≡ Nothing) → with_due due gs ≡ glyphs_merged_if merge level start end old → MayBeDue level end due (range_reversed start end gs)
due_turned merge level start end Nothing old gs le within h round plain e = (tt, tt)
due_turned false level start end (Falling d) old gs le within h round plain e = let no = plain refl in cc
due_turned true level start end (Falling d) old gs le within h round plain e = (h.0, stretch_turned level d start end old gs h.0 le within h.1 round e)

-- what is ahead is as it is meant where a range is due
pub meant_ahead : (at : ℕ) (d : DueRange) (gs : List Glyph) → at ≤ length gs → IsDueBefore at d gs → drop at (with_range_in_cluster d gs) ≡ drop at gs
meant_ahead at d gs le h = drop_carried d gs at h.ordered (omega (arith, h.before, le)) h.before

pub ahead_as_meant : (at : ℕ) (due : Due) (gs : List Glyph) → at ≤ length gs → IsDue at due gs → drop at (with_due due gs) ≡ drop at gs
ahead_as_meant at Nothing gs le h = refl
ahead_as_meant at (Falling d) gs le h = meant_ahead at d gs le h
