-- The order of carets by their bytes.
use Rattle.std.proofs.Common.{ℕ, zero, suc, ◌≡◌, ◌≤◌, ◌<◌, ◌==◌, Bool, true, false, not, List, [], ◌∷◌, ◌++◌, length, map, reverse, arith, sym, ap, subst, ◌∙◌}
use Rattle.std.specs.Prelude.{Some, option_map, slice_get}
use Rattle.std.proofs.lemmas.Bool.Decides.{nat_tests}
use Rattle.std.proofs.lemmas.Grind.{common_steps}
use Rattle.std.proofs.lemmas.List.{length-map, length_push, reverse-append}
use Rattle.std.proofs.lemmas.Option.{slice_get-map}
use Rattle.kuspveli.specs.buffer_glyphs.Order.{AllFrom, IsChain}
use Rattle.kuspveli.specs.buffer_parts.Slices.{AreJoined}
use Rattle.kuspveli.specs.shape_slices.declared.slices.SourceSlice.{SourceSlice}
use Rattle.kuspveli.specs.shape_slices.Runs.{along_glyphs, byte_range}
use Rattle.caret_model.specs.declared.carets.Caret.{Caret}
use Rattle.caret_model.specs.Lines.{IsLine, Line, caret_bytes, left_byte, right_end}
use Rattle.caret_model.specs.Moves.{IsPast}
use Rattle.caret_model.proofs.Joins.{joined_before}

-- ---- bytes past others

pub past_other : (back : Bool) (m n : ℕ) → IsPast back m n → (m == n) ≡ false
past_other false m n h = grind (arith, nat_tests, common_steps, h)
past_other true m n h = grind (arith, nat_tests, common_steps, h)

pub past_not_itself : (back : Bool) (n : ℕ) → ¬ IsPast back n n
past_not_itself false n h = omega (arith, h)
past_not_itself true n h = omega (arith, h)

pub past_one_way : (back : Bool) (m n : ℕ) → IsPast back m n → ¬ IsPast back n m
past_one_way false m n h g = omega (arith, h, g)
past_one_way true m n h g = omega (arith, h, g)

pub past_along : (back : Bool) (l m n : ℕ) → IsPast back l m → IsPast back m n → IsPast back l n
past_along false l m n h g = omega (arith, h, g)
past_along true l m n h g = omega (arith, h, g)

-- the other way round
pub past_turned : (back : Bool) (m n : ℕ) → IsPast (not back) m n → IsPast back n m
past_turned false m n h = h
past_turned true m n h = h

pub past_turned_back : (back : Bool) (m n : ℕ) → IsPast back n m → IsPast (not back) m n
past_turned_back false m n h = h
past_turned_back true m n h = h

-- ---- chains

all_above_more : (m k : ℕ) (ns : List ℕ) → m < k → AllFrom (λ i j. i ≤ j) k ns → AllFrom (λ i j. i < j) m ns
all_above_more m k [] less h = tt
all_above_more m k (n ∷ ns) less h = let first = h.0 in (omega (arith, first, less), all_above_more m k ns less h.1)

all_above_least : (m k : ℕ) (ns : List ℕ) → m ≤ k → AllFrom (λ i j. i ≤ j) k ns → AllFrom (λ i j. i ≤ j) m ns
all_above_least m k [] less h = tt
all_above_least m k (n ∷ ns) less h = let first = h.0 in (omega (arith, first, less), all_above_least m k ns less h.1)

all_below_more : (m k : ℕ) (ns : List ℕ) → k < m → AllFrom (λ i j. j ≤ i) k ns → AllFrom (λ i j. j < i) m ns
all_below_more m k [] less h = tt
all_below_more m k (n ∷ ns) less h = let first = h.0 in (omega (arith, first, less), all_below_more m k ns less h.1)

all_below_greatest : (m k : ℕ) (ns : List ℕ) → k ≤ m → AllFrom (λ i j. j ≤ i) k ns → AllFrom (λ i j. j ≤ i) m ns
all_below_greatest m k [] less h = tt
all_below_greatest m k (n ∷ ns) less h = let first = h.0 in (omega (arith, first, less), all_below_greatest m k ns less h.1)

rising_bytes : (from to : ℕ) (ss : List SourceSlice) → AreJoined from to (map byte_range ss)
    → AllFrom (λ i j. i ≤ j) from (map (left_byte false) ss ++ to ∷ []) × IsChain (λ i j. i < j) (map (left_byte false) ss ++ to ∷ [])
rising_bytes from to [] h = ((omega (arith, h), tt), (tt, tt))
rising_bytes from to (s ∷ ss) h =
    let rest = rising_bytes s.end to ss h.2 in
    let ns = map (left_byte false) ss ++ to ∷ [] in
    let first = h.0 in
    let some = h.1 in
    let under : from ≤ s.start = omega (arith, first) in
    let within : from ≤ s.end = omega (arith, first, some) in
    ((under, all_above_least from s.end ns within rest.0), (all_above_more s.start s.end ns some rest.0, rest.1))

falling_bytes : (from to : ℕ) (ss : List SourceSlice) → AreJoined from to (reverse (map byte_range ss))
    → AllFrom (λ i j. j ≤ i) to (map (left_byte true) ss ++ from ∷ []) × IsChain (λ i j. j < i) (map (left_byte true) ss ++ from ∷ [])
falling_bytes from to [] h = ((omega (arith, h), tt), (tt, tt))
falling_bytes from to (s ∷ ss) h =
    let turned : reverse (byte_range s ∷ map byte_range ss) ≡ reverse (map byte_range ss) ++ byte_range s ∷ [] = reverse-append (byte_range s ∷ []) (map byte_range ss) in
    let parts = joined_before from to (reverse (map byte_range ss)) (byte_range s) (subst (AreJoined from to) turned h) in
    let rest = falling_bytes from s.start ss parts.2 in
    let ns = map (left_byte true) ss ++ from ∷ [] in
    let some = parts.0 in
    let last = parts.1 in
    let above : s.end ≤ to = omega (arith, last) in
    let within : s.start ≤ to = omega (arith, last, some) in
    ((above, all_below_greatest to s.start ns within rest.0), (all_below_more s.end s.start ns some rest.0, rest.1))

-- the bytes of carets follow one another
pub bytes_in_order : (falls : Bool) (end : ℕ) (ss : List SourceSlice) → AreJoined 0 end (along_glyphs falls (map byte_range ss)) → IsChain (IsPast falls) (caret_bytes falls end ss)
bytes_in_order false end ss h = let both = rising_bytes 0 end ss h in both.1
bytes_in_order true end ss h = let both = falling_bytes 0 end ss h in both.1

-- ---- by indices

all_from_at : (R : ℕ → ℕ → Type 0) (m : ℕ) (ns : List ℕ) (j n : ℕ) → AllFrom R m ns → slice_get ns j ≡ Some n → R m n
all_from_at R m [] j n h at = cc
all_from_at R m (k ∷ ks) zero n h at = let same : k ≡ n = cc in subst (R m) same h.0
all_from_at R m (k ∷ ks) (suc j) n h at = all_from_at R m ks j n h.1 at

chain_at : (R : ℕ → ℕ → Type 0) (ns : List ℕ) (i j m n : ℕ) → IsChain R ns → i < j → slice_get ns i ≡ Some m → slice_get ns j ≡ Some n → R m n
chain_at R [] i j m n h less at to = cc
chain_at R (k ∷ ks) zero zero m n h less at to = absurd (omega (arith, less))
chain_at R (k ∷ ks) zero (suc j) m n h less at to = let same : k ≡ m = cc in let P : ℕ → Type 0 = λ x. R x n in subst P same (all_from_at R k ks j n h.0 to)
chain_at R (k ∷ ks) (suc i) zero m n h less at to = absurd (omega (arith, less))
chain_at R (k ∷ ks) (suc i) (suc j) m n h less at to = chain_at R ks i j m n h.1 (omega (arith, less)) at to

-- the byte of the caret at an index
byte_at : (cs : List Caret) (i : ℕ) (c : Caret) → slice_get cs i ≡ Some c → slice_get (map (λ (d : Caret). d.byte) cs) i ≡ Some c.byte
byte_at cs i c at = slice_get-map (λ (d : Caret). d.byte) cs i ∙ ap (option_map (λ (d : Caret). d.byte)) at

-- of two carets of a line, the one to the right is past the other
pub carets_in_order : (l : Line) (i j : ℕ) (c d : Caret) → IsLine l → i < j → slice_get l.carets i ≡ Some c → slice_get l.carets j ≡ Some d → IsPast l.backward c.byte d.byte
carets_in_order l i j c d is less at to =
    chain_at (IsPast l.backward) (map (λ (e : Caret). e.byte) l.carets) i j c.byte d.byte
    (subst (IsChain (IsPast l.backward)) (sym is.bytes) (bytes_in_order l.backward l.end l.slices is.joined))
    less (byte_at l.carets i c at) (byte_at l.carets j d to)
