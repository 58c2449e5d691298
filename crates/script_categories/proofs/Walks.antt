-- The longest accepted found, and a walk that finds it.
use Rattle.std.proofs.Common.{ℕ, zero, suc, ◌≡◌, ◌<◌, ◌≤◌, ◌+◌, ◌-◌, List, [], ◌∷◌, length, take, drop, get_or, fold, Option, Some, None, refl, sym, ap, subst, ◌∙◌, arith, add-one, Bool, true, false, ◌==◌, nat_lt}
use Rattle.std.proofs.lemmas.Grind.{common_steps}
use Rattle.std.proofs.lemmas.Bool.Decides.{nat_tests}
use Rattle.std.proofs.lemmas.List.{get_or-drop, get_or-take, length-drop, length-take-le, take_more}
use Rattle.std.proofs.lemmas.List.Elements.{All-get_or}
use Rattle.std.specs.List.{All}
use Rattle.std.proofs.Math.Seq.{take-add}
use Rattle.std.proofs.lemmas.List.Sums.{fold-append}
use Rattle.script_categories.specs.LongestMatch.{kind_in, state_by, state_after, kind_of_prefix, found_or, longest_up_to, longest_syllable, IsLongest, IsLongestMatch, LongestIsLongest, LongestIsUnique}
use Rattle.script_categories.specs.declared.scan.FoundSyllable.{FoundSyllable}
use Rattle.script_categories.specs.Machines.{Machine, accepted_kind}

-- one category more
pub led_on : (m : Machine) (cs : List ℕ) (i d s : ℕ) → i < length cs → Some s ≡ state_after m (take i cs)
    → state_after m (take (i + 1) cs) ≡ state_by m (Some s) (get_or cs i d)
led_on m cs i d s lt e =
    ap (state_after m) (take_more cs i d lt) ∙ fold-append (state_by m) (Some 0) (take i cs) (get_or cs i d ∷ [])
    ∙ ap (λ t. state_by m t (get_or cs i d)) (sym e)

pub longer_found : (m : Machine) (cs : List ℕ) (i : ℕ)
    → longest_up_to m cs (i + 1) ≡ found_or (kind_of_prefix m (take (i + 1) cs)) (i + 1) (longest_up_to m cs i)
longer_found m cs i = rw add-one refl

-- ---- a run of alike categories, each of which leads back to the state

-- the category at an index of the run
alike_at : (cs : List ℕ) (i n k c : ℕ) → i + n ≤ length cs → k < n → All (λ x. x ≡ c) (take n (drop i cs)) → get_or cs (i + k) 0 ≡ c
alike_at cs i n k c le lt all =
    let size : length (drop i cs) ≡ length cs - i = length-drop i cs in
    let room : n ≤ length (drop i cs) = omega (arith, size, le) in
    let cut : length (take n (drop i cs)) ≡ n = length-take-le n (drop i cs) room in
    let inside : k < length (take n (drop i cs)) = omega (arith, cut, lt) in
    sym (get_or-drop i cs k 0) ∙ sym (get_or-take n (drop i cs) k 0 lt) ∙ All-get_or (λ x. x ≡ c) (take n (drop i cs)) k 0 inside all

found_again : (kind : Option ℕ) (n k : ℕ) (other : Option FoundSyllable) → found_or kind k (found_or kind n other) ≡ found_or kind k other
found_again (Some kind) n k other = refl
found_again None n k other = refl

-- a walk that was before the category at an index has come to a state, and has found what is found there
pub record IsLed (m : Machine) (cs : List ℕ) (i s j : ℕ) : Type 0 where
  pub state : Some s ≡ state_after m (take j cs)
  pub found : longest_up_to m cs j ≡ found_or (accepted_kind m s) j (longest_up_to m cs i)

-- one category more that leads back
back_once : (m : Machine) (cs : List ℕ) (i s : ℕ) → i < length cs → Some s ≡ state_after m (take i cs)
    → state_by m (Some s) (get_or cs i 0) ≡ Some s → IsLed m cs i s (i + 1)
back_once m cs i s lt e back =
    let state : Some s ≡ state_after m (take (i + 1) cs) = sym (led_on m cs i 0 s lt e ∙ back) in
    record {
      state = state;
      found = longer_found m cs i ∙ ap (λ t. found_or (kind_in m t) (i + 1) (longest_up_to m cs i)) (sym state);
    }

back_more : (m : Machine) (cs : List ℕ) (i s j : ℕ) → IsLed m cs i s j → IsLed m cs j s (j + 1) → IsLed m cs i s (j + 1)
back_more m cs i s j before last = record {
  state = last.state;
  found = last.found ∙ ap (found_or (accepted_kind m s) (j + 1)) before.found ∙ found_again (accepted_kind m s) j (j + 1) (longest_up_to m cs i);
}

back_within : (m : Machine) (cs : List ℕ) (i s n k : ℕ) → i + n ≤ length cs → k < n → Some s ≡ state_after m (take i cs)
    → state_by m (Some s) (get_or cs i 0) ≡ Some s → All (λ x. x ≡ get_or cs i 0) (take n (drop i cs)) → IsLed m cs i s (i + suc k)
back_within m cs i s n zero le lt e back all =
    let one : i + 1 ≡ i + suc 0 = omega arith in
    subst (IsLed m cs i s) one (back_once m cs i s (omega (arith, le, lt)) e back)
back_within m cs i s n (suc k) le lt e back all =
    let more : i + suc k + 1 ≡ i + suc (suc k) = omega arith in
    let before = back_within m cs i s n k le (omega (arith, lt)) e back all in
    let alike : get_or cs (i + suc k) 0 ≡ get_or cs i 0 = alike_at cs i n (suc k) (get_or cs i 0) le lt all in
    let last = back_once m cs (i + suc k) s (omega (arith, le, lt)) before.state (ap (state_by m (Some s)) alike ∙ back) in
    subst (IsLed m cs i s) more (back_more m cs i s (i + suc k) before last)

-- where the run ends
pub back_after : (m : Machine) (cs : List ℕ) (i s j : ℕ) → i < j → j ≤ length cs → Some s ≡ state_after m (take i cs)
    → state_by m (Some s) (get_or cs i 0) ≡ Some s → All (λ x. x ≡ get_or cs i 0) (take (j - i) (drop i cs)) → IsLed m cs i s j
back_after m cs i s j lt le e back all =
    let within : i + (j - i) ≤ length cs = omega (arith, lt, le) in
    let inside : j - i - 1 < j - i = omega (arith, lt) in
    let ends : i + suc (j - i - 1) ≡ j = omega (arith, lt) in
    subst (IsLed m cs i s) ends (back_within m cs i s (j - i) (j - i - 1) within inside e back all)

-- one step of the walk: to the next category, or past all that lead back
pub stepped : (m : Machine) (cs : List ℕ) (i j s next : ℕ) → i < length cs → i < j → j ≤ length cs → Some s ≡ state_after m (take i cs)
    → state_by m (Some s) (get_or cs i 0) ≡ Some next → ((next == s) ≡ false → j ≡ i + 1)
    → All (λ x. x ≡ get_or cs i 0) (take (j - i) (drop i cs)) → IsLed m cs i next j
stepped m cs i j s next here on within e led one alike = by_state (next == s) refl
  where
    by_state : (b : Bool) → (next == s) ≡ b → IsLed m cs i next j
    by_state true t =
        let same : next ≡ s = grind (arith, common_steps, t) in
        let at_next : Some next ≡ state_after m (take i cs) = ap Some same ∙ e in
        let back : state_by m (Some next) (get_or cs i 0) ≡ Some next = ap (λ q. state_by m (Some q) (get_or cs i 0)) same ∙ led in
        back_after m cs i next j on within at_next back alike
    by_state false t =
        let state : Some next ≡ state_after m (take (i + 1) cs) = sym (led_on m cs i 0 s here e ∙ led) in
        let first : IsLed m cs i next (i + 1) = record {
          state = state;
          found = longer_found m cs i ∙ ap (λ q. found_or (kind_in m q) (i + 1) (longest_up_to m cs i)) (sym state);
        } in
        subst (IsLed m cs i next) (sym (one t)) first

lost : (m : Machine) (cs : List ℕ) → fold (state_by m) None cs ≡ None
lost m [] = refl
lost m (c ∷ cs) = lost m cs

-- categories that lead nowhere lead nowhere with more after them
lost_on : (m : Machine) (cs : List ℕ) (i k : ℕ) → state_after m (take i cs) ≡ None → state_after m (take (i + k) cs) ≡ None
lost_on m cs i k e =
    ap (state_after m) (take-add i k cs) ∙ fold-append (state_by m) (Some 0) (take i cs) (take k (drop i cs))
    ∙ ap (λ s. fold (state_by m) s (take k (drop i cs))) e ∙ lost m (take k (drop i cs))

ended : (m : Machine) (cs : List ℕ) (i k : ℕ) → state_after m (take (i + 1) cs) ≡ None → longest_up_to m cs (i + k) ≡ longest_up_to m cs i
ended m cs i zero e = let n : i + 0 ≡ i = omega arith in rw n refl
ended m cs i (suc k) e =
    let n : i + suc k ≡ suc (i + k) = omega arith in
    let j : i + 1 + k ≡ suc (i + k) = omega arith in
    let none : state_after m (take (suc (i + k)) cs) ≡ None = subst (λ j. state_after m (take j cs) ≡ None) j (lost_on m cs (i + 1) k e) in
    rw (n, none) (ended m cs i k e)

-- where the next category leads nowhere, all is found
pub ends_here : (m : Machine) (cs : List ℕ) (i : ℕ) → i < length cs → state_after m (take (i + 1) cs) ≡ None → longest_syllable m cs ≡ longest_up_to m cs i
ends_here m cs i lt e =
    let n : i + (length cs - i) ≡ length cs = omega arith in
    ap (longest_up_to m cs) (sym n) ∙ ended m cs i (length cs - i) e

-- ---- it is the longest

abbrev IsFoundIn : Machine → List ℕ → ℕ → Option FoundSyllable → Type 0
IsFoundIn m cs most (Some f) =
    (0 < f.length) × (f.length ≤ most) × (kind_of_prefix m (take f.length cs) ≡ Some f.kind)
    × ((n : ℕ) → f.length < n → n ≤ most → kind_of_prefix m (take n cs) ≡ None)
IsFoundIn m cs most None = (n : ℕ) → 0 < n → n ≤ most → kind_of_prefix m (take n cs) ≡ None

found_in : (m : Machine) (cs : List ℕ) (most : ℕ) → IsFoundIn m cs most (longest_up_to m cs most)
found_in m cs zero = λ n lt le. absurd (omega (arith, lt, le))
found_in m cs (suc k) = by_kind (kind_of_prefix m (take (suc k) cs)) refl (longest_up_to m cs k) (found_in m cs k)
  where
    no_more : (from : ℕ) → ((n : ℕ) → from < n → n ≤ k → kind_of_prefix m (take n cs) ≡ None) → kind_of_prefix m (take (suc k) cs) ≡ None
        → (n : ℕ) → from < n → n ≤ suc k → kind_of_prefix m (take n cs) ≡ None
    no_more from h none n lt le = by_last (n == suc k) refl
      where
        by_last : (t : Bool) → (n == suc k) ≡ t → kind_of_prefix m (take n cs) ≡ None
        by_last true e = let same : n ≡ suc k = grind (arith, common_steps, e) in rw same none
        by_last false e = h n lt (grind (arith, common_steps, nat_tests, e, le))

    by_kind : (o : Option ℕ) → kind_of_prefix m (take (suc k) cs) ≡ o → (f : Option FoundSyllable) → IsFoundIn m cs k f → IsFoundIn m cs (suc k) (found_or o (suc k) f)
    by_kind (Some kind) e f h = (omega arith, omega arith, e, λ n lt le. absurd (omega (arith, lt, le)))
    by_kind None e (Some f) h = (h.0, omega (arith, h.1), h.2, no_more f.length h.3 e)
    by_kind None e None h = no_more 0 h e

is_found : (m : Machine) (cs : List ℕ) (f : Option FoundSyllable) → IsFoundIn m cs (length cs) f → IsLongestMatch m cs f
is_found m cs (Some f) h = record { nonempty = h.0; inside = h.1; accepted = h.2; longest = h.3 }
is_found m cs None h = h

pub is_longest : LongestIsLongest
is_longest m cs = is_found m cs (longest_syllable m cs) (found_in m cs (length cs))

-- ---- it is the only one

abbrev found : ℕ → ℕ → FoundSyllable
found n kind = record { length = n; kind = kind }

same_found : (m : Machine) (cs : List ℕ) (f g : FoundSyllable) → IsLongest m cs f → IsLongest m cs g → f ≡ g
same_found m cs f g p q = by_order (nat_lt f.length g.length) refl (nat_lt g.length f.length) refl
  where
    by_order : (s : Bool) → nat_lt f.length g.length ≡ s → (t : Bool) → nat_lt g.length f.length ≡ t → f ≡ g
    by_order true e t h =
        let below : f.length < g.length = grind (arith, nat_tests, e) in
        let none : kind_of_prefix m (take g.length cs) ≡ None = p.longest g.length below q.inside in
        let some : Some g.kind ≡ None = sym q.accepted ∙ none in
        cc
    by_order false e true h =
        let below : g.length < f.length = grind (arith, nat_tests, h) in
        let none : kind_of_prefix m (take f.length cs) ≡ None = q.longest f.length below p.inside in
        let some : Some f.kind ≡ None = sym p.accepted ∙ none in
        cc
    by_order false e false h =
        let same : f.length ≡ g.length = grind (arith, nat_tests, e, h) in
        let kinds : Some f.kind ≡ Some g.kind = sym p.accepted ∙ ap (λ n. kind_of_prefix m (take n cs)) same ∙ q.accepted in
        let kind : f.kind ≡ g.kind = cc in
        ap (λ n. found n f.kind) same ∙ ap (found g.length) kind

pub is_unique : LongestIsUnique
is_unique m cs f h = by_found (longest_syllable m cs) (is_longest m cs)
  where
    by_found : (o : Option FoundSyllable) → IsLongestMatch m cs o → o ≡ Some f
    by_found (Some g) p = ap Some (same_found m cs g f p h)
    by_found None p =
        let none : kind_of_prefix m (take f.length cs) ≡ None = p f.length h.nonempty h.inside in
        let some : Some f.kind ≡ None = sym h.accepted ∙ none in
        cc
