-- What such shapers do at the default level.
use Rattle.std.proofs.Common.{ℕ, ◌≡◌, inl, inr, false, [], ◌∷◌, arith, refl, ap}
use Rattle.buffer_glyphs.specs.declared.level.BufferClusterLevel.TheVariants.{MonotoneGraphemes}
use Rattle.buffer_glyphs.specs.Items.{Item}
use Rattle.buffer_glyphs.specs.Order.{IsRising}
use Rattle.buffer_core.specs.Readings.{View}
use Rattle.buffer_parts.specs.Alike.{SeenAlike}
use Rattle.tests_pipeline.specs.Refused.{DroppingIsRefused, LimitsAreRefused, ReversingIsRefused}

pub reversing_is_refused : ReversingIsRefused
reversing_is_refused font t settings v keep = (keep.preprocesses font t settings).unturned v _ MonotoneGraphemes tt refl

abbrev rising : IsRising (0 ∷ 1 ∷ [])
rising = ((omega arith, tt), (tt, tt))

-- of two characters with the clusters 0 and 1 the first is dropped, and no other glyph has its cluster
pub dropping_is_refused : DroppingIsRefused
dropping_is_refused font t settings v x keep =
    let kept = (keep.preprocesses font t settings).parts (record v { items = x ∷ x ∷ [] }) _ MonotoneGraphemes refl in
    elim (kept.giving false (0 ∷ 1 ∷ []) tt refl rising).0 [ inl some ↦ absurd (omega arith) | inr shares ↦ cc ]

-- of two views of one item, with the limits 1 and 2, the first is emptied
pub limits_are_refused : LimitsAreRefused
limits_are_refused font t settings v x keep =
    let one : View = record v { items = x ∷ []; max_len = 1 } in
    let two : View = record v { items = x ∷ []; max_len = 2 } in
    let alike : SeenAlike one two = record { scratch_flags = refl; same = refl } in
    let read = (keep.preprocesses font t settings).limit one two alike in
    let same : x ∷ [] ≡ [] = ap (λ (w : View). w.items) read.view.same in
    cc
