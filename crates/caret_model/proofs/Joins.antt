-- Slices that join.
use Rattle.std.proofs.Common.{ℕ, ◌≡◌, ◌≤◌, ◌<◌, List, [], ◌∷◌, ◌++◌, arith, refl, sym}
use Rattle.kuspveli.specs.buffer_parts.Slices.{AreJoined}

-- joined slices end no earlier than they begin
pub joined_rises : (from to : ℕ) (rs : List (ℕ × ℕ)) → AreJoined from to rs → from ≤ to
joined_rises from to [] h = omega (arith, h)
joined_rises from to (r ∷ rs) h =
    let up = joined_rises r.1 to rs h.2 in
    let first = h.0 in
    let some = h.1 in
    omega (arith, up, first, some)

-- the last of joined slices, and those before it
pub joined_before : (from to : ℕ) (rs : List (ℕ × ℕ)) (r : ℕ × ℕ) → AreJoined from to (rs ++ r ∷ []) → (r.0 < r.1) × (r.1 ≡ to) × AreJoined from r.0 rs
joined_before from to [] r h = (h.1, h.2, sym h.0)
joined_before from to (q ∷ rs) r h = let rest = joined_before q.1 to rs r h.2 in (rest.0, rest.1, (h.0, h.1, rest.2))

-- no slice joins where nothing is
pub joined_none : (from to : ℕ) (rs : List (ℕ × ℕ)) → from ≡ to → AreJoined from to rs → rs ≡ []
joined_none from to [] same h = refl
joined_none from to (r ∷ rs) same h =
    let up = joined_rises r.1 to rs h.2 in
    let first = h.0 in
    let some = h.1 in
    absurd (omega (arith, up, first, some, same))
