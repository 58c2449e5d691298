-- How a rule fits where it is tried.
use Rattle.std.proofs.Common.{ℕ, ◌≡◌, ◌≤◌, ◌<◌, ◌+◌, ◌-◌, true, false, Bool, List, [], ◌∷◌, length, map, drop, Option, Some, Result, Ok, Err, if◌then◌else◌, refl, sym, ap, ◌∙◌, arith}
use Rattle.std.specs.Prelude.{nat_le, ◌&&◌}
use Rattle.std.proofs.lemmas.List.{drop-map, length-drop}
use Rattle.buffer_glyphs.specs.Items.{Item}
use Rattle.buffer_glyphs.specs.Parts.{first_of}
use Rattle.buffer_glyphs.specs.Events.{Break}
use Rattle.layout_match.specs.Applied.{ApplyContext, own_search, context_search}
use Rattle.layout_match.specs.Matches.{input_end, input_indices, lookahead_end, backtrack_end}
use Rattle.layout_match.specs.Sequences.{test_at}
use Rattle.buffer_stages.specs.Actions.{Cut, Passes, Action, at_first, later, attempt_around}
use Rattle.layout_contexts.specs.Nested.{each_nested, cut_after_match}
use Rattle.layout_contexts.specs.Chains.{Chain, begins, by_backtrack, by_input, by_lookahead, chain_at, chain_rule}
use Rattle.std.proofs.lemmas.Bool.{and_from, and_left, and_right}

pub map_behind_first : {X Y : Type 0} (f : X → Y) (xs ys : List X) → ys ≡ drop 1 xs → map f ys ≡ drop 1 (map f xs)
map_behind_first f xs ys e = ap (map f) e ∙ sym (drop-map f 1 xs)

-- the items after the first of 64 at most
pub few_behind : {X : Type 0} (xs ys : List X) (n : ℕ) → ys ≡ drop 1 xs → n ≡ length xs → n ≤ 64 → length ys < 64
few_behind xs ys n e is le =
    let same : length ys ≡ length xs - 1 = ap length e ∙ length-drop 1 xs in
    omega (arith, same, is, le)

at_item : (nest : Option (ℕ → Action)) (a : ApplyContext) (r : Chain) (x : Item) (c : Cut) → first_of c.rest ≡ Some x → chain_rule nest a r c ≡ chain_at nest a r x c
at_item nest a r x c e = ap (λ (o : Option Item). at_first (chain_at nest a r) o c) e

pub begins_by : (tests : List (Item → Bool)) (x : Item) → test_at tests 0 x ≡ begins tests x
begins_by [] x = refl
begins_by (test ∷ tests) x = refl

off : (nest : Option (ℕ → Action)) (a : ApplyContext) (r : Chain) (x : Item) (c : Cut) → first_of c.rest ≡ Some x → (begins r.input x && nat_le (length r.input) 64) ≡ false → chain_rule nest a r c ≡ Passes []
off nest a r x c e f = at_item nest a r x c e ∙ ap (λ b. if b then by_input nest a r (input_end (own_search a c.rest) (drop 1 r.input) c.rest) c else Passes []) f

pub unbegun : (nest : Option (ℕ → Action)) (a : ApplyContext) (r : Chain) (x : Item) (c : Cut) → first_of c.rest ≡ Some x → begins r.input x ≡ false → chain_rule nest a r c ≡ Passes []
unbegun nest a r x c e f = off nest a r x c e (and_left (begins r.input x) (nat_le (length r.input) 64) f)

pub other_first : (nest : Option (ℕ → Action)) (a : ApplyContext) (r : Chain) (x : Item) (c : Cut) → first_of c.rest ≡ Some x → test_at r.input 0 x ≡ false → chain_rule nest a r c ≡ Passes []
other_first nest a r x c e f = unbegun nest a r x c e (sym (begins_by r.input x) ∙ f)

is_over : (n : ℕ) → 64 < n → nat_le n 64 ≡ false
is_over n lt = grind (arith, lt)

is_under : (n : ℕ) → n ≤ 64 → nat_le n 64 ≡ true
is_under n le = grind (arith, le)

pub too_many : (nest : Option (ℕ → Action)) (a : ApplyContext) (r : Chain) (x : Item) (c : Cut) → first_of c.rest ≡ Some x → 64 < length r.input → chain_rule nest a r c ≡ Passes []
too_many nest a r x c e lt = off nest a r x c e (and_right (begins r.input x) (nat_le (length r.input) 64) (is_over (length r.input) lt))

tried : (nest : Option (ℕ → Action)) (a : ApplyContext) (r : Chain) (x : Item) (c : Cut) → first_of c.rest ≡ Some x → test_at r.input 0 x ≡ true → length r.input ≤ 64 → (end : Result ℕ ℕ) → input_end (own_search a c.rest) (drop 1 r.input) c.rest ≡ end
    → chain_rule nest a r c ≡ by_input nest a r end c
tried nest a r x c e f le end is =
    let on = and_from (begins r.input x) (nat_le (length r.input) 64) (sym (begins_by r.input x) ∙ f) (is_under (length r.input) le) in
    at_item nest a r x c e ∙ ap (λ b. if b then by_input nest a r (input_end (own_search a c.rest) (drop 1 r.input) c.rest) c else Passes []) on ∙ ap (λ (n : Result ℕ ℕ). by_input nest a r n c) is

pub input_fails : (nest : Option (ℕ → Action)) (a : ApplyContext) (r : Chain) (x : Item) (c : Cut) (ahead : ℕ) → first_of c.rest ≡ Some x → test_at r.input 0 x ≡ true → length r.input ≤ 64 → input_end (own_search a c.rest) (drop 1 r.input) c.rest ≡ Err ahead
    → chain_rule nest a r c ≡ attempt_around 0 ahead c
input_fails nest a r x c ahead e f le is = tried nest a r x c e f le (Err ahead) is

pub lookahead_fails : (nest : Option (ℕ → Action)) (a : ApplyContext) (r : Chain) (x : Item) (c : Cut) (end ahead : ℕ) → first_of c.rest ≡ Some x → test_at r.input 0 x ≡ true → length r.input ≤ 64 → input_end (own_search a c.rest) (drop 1 r.input) c.rest ≡ Ok end
    → lookahead_end (context_search a c.rest) r.lookahead end c.rest ≡ Err ahead → chain_rule nest a r c ≡ attempt_around 0 ahead c
lookahead_fails nest a r x c end ahead e f le is la = tried nest a r x c e f le (Ok end) is ∙ ap (λ (n : Result ℕ ℕ). by_lookahead nest a r end n c) la

pub backtrack_fails : (nest : Option (ℕ → Action)) (a : ApplyContext) (r : Chain) (x : Item) (c : Cut) (end ahead back : ℕ) → first_of c.rest ≡ Some x → test_at r.input 0 x ≡ true → length r.input ≤ 64 → input_end (own_search a c.rest) (drop 1 r.input) c.rest ≡ Ok end
    → lookahead_end (context_search a c.rest) r.lookahead end c.rest ≡ Ok ahead → backtrack_end (context_search a c.rest) r.backtrack c.front ≡ Err back → chain_rule nest a r c ≡ attempt_around back 1 c
backtrack_fails nest a r x c end ahead back e f le is la ba =
    tried nest a r x c e f le (Ok end) is ∙ ap (λ (n : Result ℕ ℕ). by_lookahead nest a r end n c) la ∙ ap (λ (n : Result ℕ ℕ). by_backtrack nest a r end ahead n c) ba

pub all_fits : (nest : Option (ℕ → Action)) (a : ApplyContext) (r : Chain) (x : Item) (c : Cut) (ps : List ℕ) (end ahead back : ℕ) → first_of c.rest ≡ Some x → test_at r.input 0 x ≡ true → length r.input ≤ 64 → input_end (own_search a c.rest) (drop 1 r.input) c.rest ≡ Ok end
    → lookahead_end (context_search a c.rest) r.lookahead end c.rest ≡ Ok ahead → backtrack_end (context_search a c.rest) r.backtrack c.front ≡ Ok back → ps ≡ input_indices (own_search a c.rest) (drop 1 r.input) c.rest
    → chain_rule nest a r c ≡ later (Break (length c.front - back) (length c.front + ahead) ∷ []) (cut_after_match (each_nested nest r.records c (map (λ k. k + length c.front) ps) (length c.front + end)))
all_fits nest a r x c ps end ahead back e f le is la ba at =
    tried nest a r x c e f le (Ok end) is ∙ ap (λ (n : Result ℕ ℕ). by_lookahead nest a r end n c) la ∙ ap (λ (n : Result ℕ ℕ). by_backtrack nest a r end ahead n c) ba
    ∙ ap (λ (qs : List ℕ). later (Break (length c.front - back) (length c.front + ahead) ∷ []) (cut_after_match (each_nested nest r.records c (map (λ k. k + length c.front) qs) (length c.front + end)))) (sym at)
