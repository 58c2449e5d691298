-- Answers that are what the data mean, but for lack of memory.
use Rattle.std.proofs.Common.{◌≡◌, ◌≢◌, ℕ, zero, suc, ◌<◌, Bool, true, false, List, [], ◌∷◌, length, get_or, take, Result, Ok, Err, IfOk, IfErr, refl, sym, ap, subst, ◌∙◌, ◌+◌, add-one, arith}
use Rattle.std.proofs.lemmas.Bool.Decides.{nat_tests}
use Rattle.std.specs.Prelude.{nat_le}
use Rattle.std.specs.Global.{Vec}
use Rattle.std.specs.Result.{result_map_both}
use Rattle.serde_json.specs.Data.{Data}
use Rattle.serde_json.specs.View.{view, items_view}
use Rattle.serde_json.specs.declared.value.Value.{Value}
use Rattle.shell_json.specs.declared.fault.JsonFault.{JsonFault}
use Rattle.shell_json.specs.declared.fault.JsonFault.TheVariants.{NotJson, WrongShape, FloatNumber, UnknownName, OutOfOrder, OutOfRange, SplitDepth, OutOfMemory}
use Rattle.shell_json.specs.Cell.{rank_of, first_fault, both}
use Rattle.shell_face_json.specs.Lists.{in_front, after_all, items_of}
use Rattle.buffer_facts.proofs.Numbers.{test_through as le_through}

abbrev pub Means : {A : Type 0} → Result A JsonFault → Result A JsonFault → Type 0
Means meant (Ok a) = meant ≡ Ok a
Means meant (Err e) = e ≢ OutOfMemory → meant ≡ Err e

pub means_of : {A : Type 0} (meant answer : Result A JsonFault) → IfOk answer (λ a. meant ≡ Ok a) → IfErr answer (λ e. e ≢ OutOfMemory → meant ≡ Err e) → Means meant answer
means_of meant (Ok a) ok refused = ok
means_of meant (Err e) ok refused = refused

-- ---- the fault that comes first

memory_first : (f : JsonFault) → first_fault OutOfMemory f ≡ OutOfMemory
memory_first OutOfMemory = refl
memory_first NotJson = refl
memory_first WrongShape = refl
memory_first FloatNumber = refl
memory_first UnknownName = refl
memory_first OutOfRange = refl
memory_first OutOfOrder = refl
memory_first SplitDepth = refl

memory_last : (e : JsonFault) → first_fault e OutOfMemory ≡ OutOfMemory
memory_last OutOfMemory = refl
memory_last NotJson = refl
memory_last WrongShape = refl
memory_last FloatNumber = refl
memory_last UnknownName = refl
memory_last OutOfRange = refl
memory_last OutOfOrder = refl
memory_last SplitDepth = refl

first_left : (e f : JsonFault) → nat_le (rank_of e) (rank_of f) ≡ true → first_fault e f ≡ e
first_left e f h = rw h refl

first_right : (e f : JsonFault) → nat_le (rank_of e) (rank_of f) ≡ false → first_fault e f ≡ f
first_right e f h = rw h refl

not_le_through : (a b c : ℕ) → nat_le a b ≡ false → nat_le b c ≡ false → nat_le a c ≡ false
not_le_through a b c p q = grind (arith, nat_tests)

first_by : (e f g : JsonFault) (p q : Bool) → nat_le (rank_of e) (rank_of f) ≡ p → nat_le (rank_of f) (rank_of g) ≡ q → first_fault (first_fault e f) g ≡ first_fault e (first_fault f g)
first_by e f g true true p q =
    ap (λ x. first_fault x g) (first_left e f p) ∙ first_left e g (le_through _ _ _ p q) ∙ sym (ap (λ x. first_fault e x) (first_left f g q) ∙ first_left e f p)
first_by e f g true false p q = ap (λ x. first_fault x g) (first_left e f p) ∙ sym (ap (λ x. first_fault e x) (first_right f g q))
first_by e f g false true p q =
    ap (λ x. first_fault x g) (first_right e f p) ∙ first_left f g q ∙ sym (ap (λ x. first_fault e x) (first_left f g q) ∙ first_right e f p)
first_by e f g false false p q =
    ap (λ x. first_fault x g) (first_right e f p) ∙ first_right f g q ∙ sym (ap (λ x. first_fault e x) (first_right f g q) ∙ first_right e g (not_le_through _ _ _ p q))

first_of_three : (e f g : JsonFault) → first_fault (first_fault e f) g ≡ first_fault e (first_fault f g)
first_of_three e f g = first_by e f g (nat_le (rank_of e) (rank_of f)) (nat_le (rank_of f) (rank_of g)) refl refl

no_memory_left : (e f : JsonFault) → first_fault e f ≢ OutOfMemory → e ≢ OutOfMemory
no_memory_left e f ne same = ne (ap (λ x. first_fault x f) same ∙ memory_first f)

no_memory_right : (e f : JsonFault) → first_fault e f ≢ OutOfMemory → f ≢ OutOfMemory
no_memory_right e f ne same = ne (ap (λ x. first_fault e x) same ∙ memory_last e)

-- ---- items

means_after : {A : Type 0} (m : Result (List A) JsonFault) (n : Result A JsonFault) (a : Result (List A) JsonFault) (b : Result A JsonFault) → Means m a → Means n b → Means (after_all m n) (after_all a b)
means_after m n (Ok x) (Ok y) p q = rw (p, q) refl
means_after m n (Ok x) (Err f) p q = λ ne. let r : n ≡ Err f = q ne in rw (p, r) refl
means_after m n (Err e) (Ok y) p q = λ ne. let r : m ≡ Err e = p ne in rw (r, q) refl
means_after m n (Err e) (Err f) p q = λ ne. let r : m ≡ Err e = p (no_memory_left e f ne) in let s : n ≡ Err f = q (no_memory_right e f ne) in rw (r, s) refl

front_after : {A : Type 0} (a : Result A JsonFault) (rest : Result (List A) JsonFault) (b : Result A JsonFault) → in_front a (after_all rest b) ≡ after_all (in_front a rest) b
front_after (Ok x) (Ok xs) (Ok y) = refl
front_after (Ok x) (Ok xs) (Err g) = refl
front_after (Ok x) (Err f) (Ok y) = refl
front_after (Ok x) (Err f) (Err g) = refl
front_after (Err e) (Ok xs) (Ok y) = refl
front_after (Err e) (Ok xs) (Err g) = refl
front_after (Err e) (Err f) (Ok y) = refl
front_after (Err e) (Err f) (Err g) = ap (λ x. Err x) (sym (first_of_three e f g))

first_item : {A : Type 0} (a : Result A JsonFault) → in_front a (Ok []) ≡ after_all (Ok []) a
first_item (Ok x) = refl
first_item (Err e) = refl

-- one item more
items_snoc : {A : Type 0} (read : Data → Result A JsonFault) (vs : List Value) (i : ℕ) (d : Value) → i < length vs
    → items_of read (items_view (take (suc i) vs)) ≡ after_all (items_of read (items_view (take i vs))) (read (view (get_or vs i d)))
items_snoc read [] i d h = absurd (omega (arith, h))
items_snoc read (v ∷ vs) zero d h = first_item (read (view v))
items_snoc read (v ∷ vs) (suc i) d h = ap (λ x. in_front (read (view v)) x) (items_snoc read vs i d (omega (arith, h))) ∙ front_after (read (view v)) (items_of read (items_view (take i vs))) (read (view (get_or vs i d)))

of_items : {A : Type 0} (m a : Result (List A) JsonFault) (answer : Result (Vec A) JsonFault) → Means m a
    → IfOk answer (λ v. a ≡ Ok v.items) → IfErr answer (λ e. e ≢ OutOfMemory → a ≡ Err e) → Means m (result_map_both (λ v. v.items) (λ e. e) answer)
of_items m a (Ok v) h ok refused = subst (λ r. Means m r) ok h
of_items m a (Err e) h ok refused = λ ne. let p : Means m (Err e) = subst (λ r. Means m r) (refused ne) h in p ne

-- a list of items with one item more
pub items_step : {A : Type 0} (read : Data → Result A JsonFault) (vs : List Value) (i : ℕ) (v : Value) → i < length vs → v ≡ get_or vs i v
    → (so_far : Result (List A) JsonFault) (item : Result A JsonFault) (answer : Result (Vec A) JsonFault)
    → Means (items_of read (items_view (take i vs))) so_far
    → IfOk item (λ p. read (view v) ≡ Ok p) → IfErr item (λ e. e ≢ OutOfMemory → read (view v) ≡ Err e)
    → IfOk answer (λ w. after_all so_far item ≡ Ok w.items) → IfErr answer (λ e. e ≢ OutOfMemory → after_all so_far item ≡ Err e)
    → Means (items_of read (items_view (take (i + 1) vs))) (result_map_both (λ w. w.items) (λ e. e) answer)
items_step read vs i v h is so_far item answer before ok refused ok' refused' =
    let read_one : items_of read (items_view (take (suc i) vs)) ≡ after_all (items_of read (items_view (take i vs))) (read (view v)) =
    items_snoc read vs i v h ∙ ap (λ x. after_all (items_of read (items_view (take i vs))) (read (view x))) (sym is) in
    rw (add-one, read_one) (of_items _ (after_all so_far item) answer (means_after _ _ so_far item before (means_of _ item ok refused)) ok' refused')
