-- The borders of slices, of clusters in order.
use Rattle.std.proofs.Common.{ℕ, ◌≡◌, ◌≤◌, ◌<◌, ◌==◌, Bool, true, false, if◌then◌else◌, nat_lt, List, [], ◌∷◌, ◌++◌, fold, reverse, arith, refl, sym, ap, ◌∙◌, append_assoc}
use Rattle.std.proofs.lemmas.Bool.Decides.{nat_tests}
use Rattle.std.proofs.lemmas.Grind.{common_steps}
use Rattle.std.proofs.lemmas.List.{append-nil, reverse-append}
use Rattle.buffer_glyphs.specs.Order.{AllFrom, IsFalling, IsRising}
use Rattle.buffer_parts.specs.Slices.{borders, first_or, intervals, with_border}

-- numbers in order after n, each once
abbrev pub distinct_after : ℕ → List ℕ → List ℕ
distinct_after n [] = []
distinct_after n (m ∷ ms) = if n == m then distinct_after n ms else m ∷ distinct_after m ms

test_below : (m n : ℕ) → m < n → (n == m) ≡ false
test_below m n lt = grind (arith, nat_tests, common_steps, lt)

not_under : (m n : ℕ) → m ≤ n → nat_lt n m ≡ false
not_under m n le = grind (arith, nat_tests, common_steps, le)

-- a number that is no less than the last border is that border, or a new last one
border_last : (bs : List ℕ) (n m : ℕ) → AllFrom (λ k b. b < k) n bs → n ≤ m → with_border (bs ++ n ∷ []) m ≡ (if n == m then bs ++ n ∷ [] else bs ++ n ∷ m ∷ [])
border_last [] n m below le = by_test (n == m) refl
  where
    by_test : (t : Bool) → (n == m) ≡ t → with_border (n ∷ []) m ≡ (if t then n ∷ [] else n ∷ m ∷ [])
    by_test true e = let same : (m == n) ≡ true = grind (arith, common_steps, e) in rw same refl
    by_test false e = let other : (m == n) ≡ false = grind (arith, nat_tests, common_steps, e) in let over : nat_lt m n ≡ false = not_under n m le in rw (other, over) refl
border_last (b ∷ bs) n m below le =
    let lt : b < m = let first = below.0 in omega (arith, first, le) in
    let other = test_below b m lt in
    let over : nat_lt m b ≡ false = not_under b m (omega (arith, lt)) in
    rw (other, over) (ap (λ ms. b ∷ ms) (border_last bs n m below.1 le) ∙ by_test (n == m))
  where
    by_test : (t : Bool) → b ∷ (if t then bs ++ n ∷ [] else bs ++ n ∷ m ∷ []) ≡ (if t then b ∷ (bs ++ n ∷ []) else b ∷ (bs ++ n ∷ m ∷ []))
    by_test true = refl
    by_test false = refl

all_below_more : (n m : ℕ) (bs : List ℕ) → AllFrom (λ k b. b < k) n bs → n < m → AllFrom (λ k b. b < k) m (bs ++ n ∷ [])
all_below_more n m [] below lt = (lt, tt)
all_below_more n m (b ∷ bs) below lt = let first = below.0 in (omega (arith, first, lt), all_below_more n m bs below.1 lt)

other_after : (n m : ℕ) → n ≤ m → (n == m) ≡ false → n < m
other_after n m le e = grind (arith, nat_tests, common_steps, le, e)

rising_on : (bs : List ℕ) (n : ℕ) (ns : List ℕ) → AllFrom (λ k b. b < k) n bs → IsRising (n ∷ ns) → fold with_border (bs ++ n ∷ []) ns ≡ bs ++ n ∷ distinct_after n ns
rising_on bs n [] below h = refl
rising_on bs n (m ∷ ms) below h = ap (λ cs. fold with_border cs ms) (border_last bs n m below h.0.0) ∙ by_test (n == m) refl (rising_on bs n ms below (h.0.1, h.1.1)) (λ lt. rising_on (bs ++ n ∷ []) m ms (all_below_more n m bs below lt) h.1)
  where
    by_test : (t : Bool) → (n == m) ≡ t → fold with_border (bs ++ n ∷ []) ms ≡ bs ++ n ∷ distinct_after n ms → (n < m → fold with_border ((bs ++ n ∷ []) ++ m ∷ []) ms ≡ (bs ++ n ∷ []) ++ m ∷ distinct_after m ms)
        → fold with_border (if t then bs ++ n ∷ [] else bs ++ n ∷ m ∷ []) ms ≡ bs ++ n ∷ (if t then distinct_after n ms else m ∷ distinct_after m ms)
    by_test true e same other = same
    by_test false e same other =
        ap (λ cs. fold with_border cs ms) (sym (append_assoc bs (n ∷ []) (m ∷ [])))
        ∙ other (other_after n m h.0.0 e)
        ∙ append_assoc bs (n ∷ []) (m ∷ distinct_after m ms)

-- the borders of clusters that rise
pub rising_borders : (n : ℕ) (ns : List ℕ) → IsRising (n ∷ ns) → borders (n ∷ ns) ≡ n ∷ distinct_after n ns
rising_borders n ns h = rising_on [] n ns tt h

border_first : (n m : ℕ) (bs : List ℕ) → m ≤ n → with_border (n ∷ bs) m ≡ (if n == m then n ∷ bs else m ∷ n ∷ bs)
border_first n m bs le = by_test (n == m) refl
  where
    by_test : (t : Bool) → (n == m) ≡ t → with_border (n ∷ bs) m ≡ (if t then n ∷ bs else m ∷ n ∷ bs)
    by_test true e = let same : (m == n) ≡ true = grind (arith, common_steps, e) in rw same refl
    by_test false e = let other : (m == n) ≡ false = grind (arith, nat_tests, common_steps, e) in let under : nat_lt m n ≡ true = grind (arith, nat_tests, common_steps, e, le) in rw (other, under) refl

falling_on : (n : ℕ) (bs ns : List ℕ) → IsFalling (n ∷ ns) → fold with_border (n ∷ bs) ns ≡ reverse (distinct_after n ns) ++ n ∷ bs
falling_on n bs [] h = refl
falling_on n bs (m ∷ ms) h = ap (λ cs. fold with_border cs ms) (border_first n m bs h.0.0) ∙ by_test (n == m) (falling_on n bs ms (h.0.1, h.1.1)) (falling_on m (n ∷ bs) ms h.1)
  where
    by_test : (t : Bool) → fold with_border (n ∷ bs) ms ≡ reverse (distinct_after n ms) ++ n ∷ bs → fold with_border (m ∷ n ∷ bs) ms ≡ reverse (distinct_after m ms) ++ m ∷ n ∷ bs
        → fold with_border (if t then n ∷ bs else m ∷ n ∷ bs) ms ≡ reverse (if t then distinct_after n ms else m ∷ distinct_after m ms) ++ n ∷ bs
    by_test true same other = same
    by_test false same other =
        other
        ∙ sym (append_assoc (reverse (distinct_after m ms)) (m ∷ []) (n ∷ bs))
        ∙ ap (λ cs. cs ++ n ∷ bs) (sym (reverse-append (m ∷ []) (distinct_after m ms)))

-- the borders of clusters that fall
pub falling_borders : (n : ℕ) (ns : List ℕ) → IsFalling (n ∷ ns) → borders (n ∷ ns) ≡ reverse (n ∷ distinct_after n ns)
falling_borders n ns h = falling_on n [] ns h ∙ sym (reverse-append (n ∷ []) (distinct_after n ns))

-- ---- intervals from the last to the first

-- the intervals of falling numbers: each ends where the previous one begins, and the first at `end`
abbrev pub intervals_back : ℕ → List ℕ → List (ℕ × ℕ)
intervals_back end [] = []
intervals_back end (n ∷ ns) = (n, end) ∷ intervals_back n ns

intervals_last : (ns : List ℕ) (n end : ℕ) → intervals (ns ++ n ∷ []) end ≡ intervals ns n ++ (n, end) ∷ []
intervals_last [] n end = refl
intervals_last (m ∷ []) n end = refl
intervals_last (m ∷ k ∷ ns) n end = ap (λ ss. (m, k) ∷ ss) (intervals_last (k ∷ ns) n end)

pub turned_intervals : (end : ℕ) (ns : List ℕ) → intervals_back end ns ≡ reverse (intervals (reverse ns) end)
turned_intervals end [] = refl
turned_intervals end (n ∷ ns) =
    ap (λ ss. (n, end) ∷ ss) (turned_intervals n ns)
    ∙ sym (reverse-append (intervals (reverse ns) n) ((n, end) ∷ []))
    ∙ ap reverse (sym (intervals_last (reverse ns) n end))
    ∙ ap (λ ms. reverse (intervals ms end)) (sym (reverse-append (n ∷ []) ns))
