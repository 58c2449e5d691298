-- What is unsafe to break is shown in the end.
use Rattle.std.proofs.Common.{◌≡◌, ◌⊎◌, inl, inr, Bool, true, false, List, [], ◌∷◌, refl, sym, subst}
use Rattle.buffer_glyphs.specs.declared.level.BufferClusterLevel.{BufferClusterLevel}
use Rattle.buffer_glyphs.specs.Origins.{Origin, Asks}
use Rattle.buffer_glyphs.specs.Events.{Event, Spread, origins_after}
use Rattle.buffer_glyphs.specs.Lemmas.Origins.{origins_after_both}
use Rattle.buffer_parts.specs.Breaks.Unsafe.{IsFlaggedAt, HaveNoTatweel}
use Rattle.buffer_parts.specs.Breaks.Laws.{UnsafeIsShown}
use Rattle.buffer_parts.proofs.BreakLemmas.Events.{unsafe_stays}
use Rattle.buffer_parts.proofs.BreakLemmas.Spread.{spread_shows_unsafe}
use Rattle.buffer_parts.proofs.BreakLemmas.Clear.{no_tatweel_stays}

either : (asks : Asks) (level : BufferClusterLevel) (es : List Event) (os : List Origin) → HaveNoTatweel os → (t : Bool) → asks.tatweel ≡ t → (asks.tatweel ≡ true) ⊎ HaveNoTatweel (origins_after asks level es os)
either asks level es os none true e = inl e
either asks level es os none false e = inr (no_tatweel_stays asks level es os e none)

pub unsafe_is_shown : UnsafeIsShown
unsafe_is_shown asks level es os c s h l none u =
    subst (IsFlaggedAt c) (sym (origins_after_both asks level es (Spread ∷ []) os))
    (spread_shows_unsafe asks (origins_after asks level es os) c (either asks level es os none asks.tatweel refl) (unsafe_stays asks level es os c s h l u))
