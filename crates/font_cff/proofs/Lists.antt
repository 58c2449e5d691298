-- Lists that loops append to, one element at a time.
use Rattle.std.proofs.Common.{◌≡◌, ◌≢◌, true, ℕ, zero, suc, ◌+◌, ◌-◌, ◌<◌, List, [], ◌∷◌, ◌++◌, Result, Ok, Err, refl, sym, ap, ◌∙◌, append_assoc, add-one, arith}
use Rattle.font_bytes.specs.declared.fault.TableFault.{TableFault}
use Rattle.font_bytes.specs.Results.{and_then}
use Rattle.font_common.specs.Offsets.{after}
use Rattle.font_common.proofs.Tables.{after_after}
use Rattle.font_strings.specs.Standard.{expert_sid, subset_sid}
use Rattle.font_cff.specs.declared.selects.SelectRange.{SelectRange}
use Rattle.font_cff.specs.Selects.{copies, is_select, are_selects}
use Rattle.font_cff.specs.Fonts.{numbers}
use Rattle.font_cff.specs.Charset.{expert_sids, subset_sids}
use Rattle.buffer_facts.proofs.Lists.{one_done}

copies_step : (x n : ℕ) → n ≢ 0 → copies x n ≡ x ∷ copies x (n - 1)
copies_step x zero some = absurd (some refl)
copies_step x (suc n) some = let e : suc n - 1 ≡ n = omega arith in rw e refl

-- one more copy is pushed
pub copy_pushed : (done all : List ℕ) (x count index : ℕ) → index < count → done ++ copies x (count - index) ≡ all → (done ++ x ∷ []) ++ copies x (count - (index + 1)) ≡ all
copy_pushed done all x count index inside h =
    let some : count - index ≢ 0 = omega arith in
    let left : count - index - 1 ≡ count - (index + 1) = omega arith in
    let e : copies x (count - index) ≡ x ∷ copies x (count - index - 1) = copies_step x (count - index) some in
    one_done done _ all x (ap (λ xs. done ++ xs) (sym (rw left at e)) ∙ h)

run_step : (first count : ℕ) → count ≢ 0 → numbers first count ≡ first ∷ numbers (first + 1) (count - 1)
run_step first zero some = absurd (some refl)
run_step first (suc count) some = let e : suc count - 1 ≡ count = omega arith in rw e refl

-- the number with an index, and those after it
pub numbers_more : (first count index : ℕ) → index < count → numbers (first + index) (count - index) ≡ (first + index) ∷ numbers (first + (index + 1)) (count - (index + 1))
numbers_more first count index inside =
    let some : count - index ≢ 0 = omega arith in
    let next : first + index + 1 ≡ first + (index + 1) = omega arith in
    let left : count - index - 1 ≡ count - (index + 1) = omega arith in
    let e : numbers (first + index) (count - index) ≡ (first + index) ∷ numbers (first + index + 1) (count - index - 1) = run_step (first + index) (count - index) some in
    rw (next, left) at e

-- the number with an index of those from 0 on, and those after it
pub numbers_next : (count index : ℕ) → index < count → numbers index (count - index) ≡ index ∷ numbers (index + 1) (count - (index + 1))
numbers_next count index inside =
    let some : count - index ≢ 0 = omega arith in
    let left : count - index - 1 ≡ count - (index + 1) = omega arith in
    let e : numbers index (count - index) ≡ index ∷ numbers (index + 1) (count - index - 1) = run_step index (count - index) some in
    rw left at e

-- no number is left
pub numbers_end : (first count : ℕ) → count ≡ 0 → numbers first count ≡ []
numbers_end first zero none = refl
numbers_end first (suc count) none = absurd (omega arith)

-- one more string number is pushed
pub sid_pushed : (done all : List ℕ) (first count index : ℕ) → index < count → done ++ numbers (first + index) (count - index) ≡ all
    → (done ++ (first + index) ∷ []) ++ numbers (first + (index + 1)) (count - (index + 1)) ≡ all
sid_pushed done all first count index inside h = one_done done _ all (first + index) (ap (λ xs. done ++ xs) (sym (numbers_more first count index inside)) ∙ h)

-- a range that follows
pub selects_step : (first : ℕ) (r : SelectRange) (rs : List SelectRange) → is_select first r ≡ true → are_selects first (r ∷ rs) ≡ are_selects r.next rs
selects_step first r rs next = rw next refl

-- one more glyph of Expert
pub expert_next : (count : ℕ) → expert_sids (count + 1) ≡ expert_sids count ++ expert_sid count ∷ []
expert_next count = rw add-one refl

-- one more glyph of ExpertSubset
pub subset_next : (count : ℕ) → subset_sids (count + 1) ≡ subset_sids count ++ subset_sid count ∷ []
subset_next count = rw add-one refl

same_ok : {A E : Type 0} (a b : A) → ◌≡◌ {A = Result A E} (Ok a) (Ok b) → a ≡ b
same_ok a b h = cc

-- rows of one more glyph are done
pub rows_done : {A : Type 0} (x : Result (List A × ℕ) TableFault) (rest : ℕ → Result (List A × ℕ) TableFault) (done rows : List A) (left : ℕ)
    → after done x ≡ Ok (rows, left) → after done (and_then x (λ r. after r.0 (rest r.1))) ≡ after rows (rest left)
rows_done (Ok r) rest done rows left h =
    let p = same_ok (done ++ r.0, r.1) (rows, left) h in
    let e : done ++ r.0 ≡ rows = ap (λ q. q.0) p in
    let f : r.1 ≡ left = ap (λ q. q.1) p in
    rw (← e, ← f) (after_after done r.0 (rest r.1))
rows_done (Err e) rest done rows left h = cc
