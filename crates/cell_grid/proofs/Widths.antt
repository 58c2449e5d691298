-- The cells before bytes of a text.
use Rattle.std.proofs.Common.{ℕ, ◌≡◌, ◌≤◌, ◌<◌, ◌+◌, Bool, nat_lt, List, [], ◌∷◌, filter, arith, refl, ap, cond, ◌∙◌, sum_by}
use Rattle.std.specs.Prelude.{All}
use Rattle.std.proofs.lemmas.List.Elements.{All-cons, All-nil, All-weaker}
use Rattle.std.proofs.lemmas.List.Sums.{sum_by-cons}
use Rattle.buffer_facts.proofs.Numbers.{test_of_less, test_of_not_less}
use Rattle.kuspveli.specs.buffer_parts.Slices.{AreJoined}
use Rattle.cell_grid.specs.Widths.{slice_width, width_before}

-- whether a slice begins before a byte
abbrev is_before : ℕ → ℕ × ℕ → Bool
is_before byte s = nat_lt s.0 byte

-- with a slice that begins before a byte
before_with : (text : List ℕ) (s : ℕ × ℕ) (ss : List (ℕ × ℕ)) (byte : ℕ) → s.0 < byte → width_before text (s ∷ ss) byte ≡ slice_width text s + width_before text ss byte
before_with text s ss byte less =
    ap (λ b. sum_by (slice_width text) (cond b (s ∷ filter (is_before byte) ss) (filter (is_before byte) ss))) (test_of_less s.0 byte less)
    ∙ sum_by-cons (slice_width text) s (filter (is_before byte) ss)

-- a slice that doesn't begin before a byte adds nothing
before_without : (text : List ℕ) (s : ℕ × ℕ) (ss : List (ℕ × ℕ)) (byte : ℕ) → byte ≤ s.0 → width_before text (s ∷ ss) byte ≡ width_before text ss byte
before_without text s ss byte le = ap (λ b. sum_by (slice_width text) (cond b (s ∷ filter (is_before byte) ss) (filter (is_before byte) ss))) (test_of_not_less s.0 byte le)

-- nothing is before the first slice
pub none_before : (text : List ℕ) (from to byte : ℕ) (ss : List (ℕ × ℕ)) → AreJoined from to ss → byte ≤ from → width_before text ss byte ≡ 0
none_before text from to byte [] joined le = refl
none_before text from to byte (s ∷ ss) joined le =
    let first = joined.0 in
    let some = joined.1 in
    before_without text s ss byte (omega (arith, le, first)) ∙ none_before text s.1 to byte ss joined.2 (omega (arith, le, first, some))

-- the cells of a slice are those between its bytes
abbrev pub IsStep : (ℕ → ℕ) → List ℕ → ℕ × ℕ → Type 0
IsStep W text s = W s.1 ≡ W s.0 + slice_width text s

-- a slice at a byte or after it
abbrev IsFrom : ℕ → ℕ × ℕ → Type 0
IsFrom from s = (from ≤ s.0) × (s.0 < s.1)

all_from : (from to : ℕ) (ss : List (ℕ × ℕ)) → AreJoined from to ss → All (IsFrom from) ss
all_from from to [] joined = All-nil (IsFrom from)
all_from from to (s ∷ ss) joined =
    let first = joined.0 in
    let some = joined.1 in
    All-cons (IsFrom from) s ss (omega (arith, first), some) (All-weaker (IsFrom s.1) (IsFrom from) (λ r is. let low = is.0 in (omega (arith, low, first, some), is.1)) ss (all_from s.1 to ss joined.2))

-- both of two facts of each element
both : {X : Type 0} (P Q R : X → Type 0) → ((x : X) → P x → Q x → R x) → (xs : List X) → All P xs → All Q xs → All R xs
both P Q R give xs ps qs k d within = give _ (ps k d within) (qs k d within)

-- so it is with each slice of a text
pub width_steps : (text : List ℕ) (from to : ℕ) (ss : List (ℕ × ℕ)) → AreJoined from to ss → All (IsStep (width_before text ss) text) ss
width_steps text from to [] joined = All-nil (IsStep (width_before text []) text)
width_steps text from to (s ∷ ss) joined =
    All-cons (IsStep (width_before text (s ∷ ss)) text) s ss first
    (both (IsStep (width_before text ss) text) (IsFrom s.1) (IsStep (width_before text (s ∷ ss)) text) later ss (width_steps text s.1 to ss joined.2) (all_from s.1 to ss joined.2))
  where
    first : IsStep (width_before text (s ∷ ss)) text s
    first =
        let one = before_with text s ss s.1 joined.1 in
        let none = none_before text s.1 to s.1 ss joined.2 (omega arith) in
        let own = before_without text s ss s.0 (omega arith) in
        let some = joined.1 in
        let before = none_before text s.1 to s.0 ss joined.2 (omega (arith, some)) in
        omega (arith, one, none, own, before)

    later : (r : ℕ × ℕ) → IsStep (width_before text ss) text r → IsFrom s.1 r → IsStep (width_before text (s ∷ ss)) text r
    later r step from =
        let some = joined.1 in
        let low = from.0 in
        let high = from.1 in
        let end = before_with text s ss r.1 (omega (arith, some, low, high)) in
        let start = before_with text s ss r.0 (omega (arith, some, low)) in
        omega (arith, end, start, step)
