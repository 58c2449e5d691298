-- Rules that cannot match by a glyph beside the one where they are tried.
use Rattle.std.proofs.Common.{ℕ, ◌≡◌, ◌≤◌, ◌<◌, ◌+◌, ◌-◌, true, false, Bool, List, [], ◌∷◌, length, map, drop, get_or, Option, Some, None, option_map, slice_get, Result, Ok, Err, reverse, if◌then◌else◌, inl, inr, refl, sym, ap, ◌∙◌, arith}
use Rattle.std.proofs.lemmas.List.{length-map}
use Rattle.std.proofs.lemmas.Option.{slice_get-map, slice_get_read}
use Rattle.std.specs.Prelude.{nat_le, ◌&&◌}
use Rattle.buffer_glyphs.specs.Items.{Item}
use Rattle.buffer_glyphs.specs.Parts.{first_of}
use Rattle.layout_match.specs.declared.next_glyph.NextGlyphs.{NextGlyphs}
use Rattle.layout_match.specs.Applied.{ApplyContext, own_search, context_search}
use Rattle.layout_match.specs.Matches.{answers_of, backtrack_end, input_end, lookahead_end, sequence_end, then_sequence_end}
use Rattle.layout_match.specs.Next.{Fails, IsNext, may_find}
use Rattle.layout_match.specs.Searches.{Search, answer}
use Rattle.layout_match.specs.Sequences.{test_at}
use Rattle.buffer_stages.specs.Actions.{Cut, Passes, Action, at_first, attempt_around}
use Rattle.layout_contexts.specs.Chains.{Chain, begins, by_backtrack, by_input, by_lookahead, chain_at, chain_rule}
use Rattle.layout_contexts.specs.Following.{NeverMatches, OnlyTries, may_find_second, may_follow}

-- ---- the test

pub second_input : (next : NextGlyphs) (input lookahead : List (Item → Bool)) → 1 < length input → may_find next.input (test_at input 1) ≡ may_find_second next (drop 1 input) lookahead
second_input next [] lookahead lt = absurd (omega (arith, lt))
second_input next (a ∷ []) lookahead lt = absurd (omega (arith, lt))
second_input next (a ∷ b ∷ input) lookahead lt = refl

pub first_lookahead : (next : NextGlyphs) (input lookahead : List (Item → Bool)) → length input ≤ 1 → 0 < length lookahead → may_find next.lookahead (test_at lookahead 0) ≡ may_find_second next (drop 1 input) lookahead
first_lookahead next [] [] le lt = absurd (omega (arith, lt))
first_lookahead next [] (c ∷ lookahead) le lt = refl
first_lookahead next (a ∷ []) [] le lt = absurd (omega (arith, lt))
first_lookahead next (a ∷ []) (c ∷ lookahead) le lt = refl
first_lookahead next (a ∷ b ∷ input) lookahead le lt = absurd (omega (arith, le))

pub alone : (next : NextGlyphs) (input lookahead : List (Item → Bool)) → length input ≤ 1 → length lookahead ≤ 0 → true ≡ may_find_second next (drop 1 input) lookahead
alone next [] [] le none = refl
alone next (a ∷ []) [] le none = refl
alone next (a ∷ b ∷ input) lookahead le none = absurd (omega (arith, le))
alone next input (c ∷ lookahead) le none = absurd (omega (arith, none))

-- the test of the rule at an index
pub test_there : {X : Type 0} (next : NextGlyphs) (chain : X → Chain) (seen rules : List X) (i : ℕ) (rule : X) (b : Bool) → i < length (map chain rules) → seen ≡ rules → rule ≡ get_or seen i rule → b ≡ may_follow next (chain rule) → slice_get (map (may_follow next) (map chain rules)) i ≡ Some b
test_there next chain seen rules i rule b lt same at told =
    let within : i < length rules = omega (arith, length-map rules chain, lt) in
    let there : slice_get rules i ≡ Some rule = slice_get_read rules (length rules) i rule refl within (at ∙ ap (λ l. get_or l i rule) same) in
    slice_get-map (may_follow next) (map chain rules) i ∙ ap (option_map (may_follow next)) (slice_get-map chain rules i ∙ ap (option_map chain) there) ∙ ap Some (sym told)

-- ---- the rule

-- a sequence whose first item isn't found
sequence_fails : (s : Search) (test : Item → Bool) (tests : List (Item → Bool)) (from : ℕ) (xs : List Item) → Fails (answer s test) from xs → (end : ℕ) × (sequence_end (answers_of s (test ∷ tests)) from xs ≡ Err end)
sequence_fails s test tests from xs fails = (fails.0, ap (λ found. then_sequence_end found (λ next. sequence_end (answers_of s tests) next xs)) fails.1)

-- the search for the item after the first finds none: that of the input after its first, else the first of the lookahead
abbrev pub SecondFails : ApplyContext → List Item → List (Item → Bool) → List (Item → Bool) → Type 0
SecondFails a rest (test ∷ input) lookahead = Fails (answer (own_search a rest) test) 1 rest
SecondFails a rest [] (test ∷ lookahead) = Fails (answer (context_search a rest) test) 1 rest
SecondFails a rest [] [] = ⊥

-- by the items of a rule's input after its first, and those of its lookahead
second_tries : (nest : Option (ℕ → Action)) (a : ApplyContext) (r : Chain) (c : Cut) (input lookahead : List (Item → Bool)) → drop 1 r.input ≡ input → r.lookahead ≡ lookahead → SecondFails a c.rest input lookahead → OnlyTries (by_input nest a r (input_end (own_search a c.rest) (drop 1 r.input) c.rest) c)
second_tries nest a r c (test ∷ input) lookahead is at fail =
    let found = sequence_fails (own_search a c.rest) test input 1 c.rest fail in
    let fails : by_input nest a r (input_end (own_search a c.rest) (drop 1 r.input) c.rest) c ≡ attempt_around 0 found.0 c = rw (is, found.1) refl in
    inr (length c.front - 0, length c.front + found.0, fails)
second_tries nest a r c [] (test ∷ lookahead) is at fail =
    let found = sequence_fails (context_search a c.rest) test lookahead 1 c.rest fail in
    let fails : by_input nest a r (input_end (own_search a c.rest) (drop 1 r.input) c.rest) c ≡ attempt_around 0 found.0 c = rw (is, at, found.1) refl in
    inr (length c.front - 0, length c.front + found.0, fails)
second_tries nest a r c [] [] is at fail = absurd fail

second_excluded : (a : ApplyContext) (rest : List Item) (next : NextGlyphs) (input lookahead : List (Item → Bool)) → IsNext next.input (own_search a rest) 1 rest → IsNext next.lookahead (context_search a rest) 1 rest
    → may_find_second next input lookahead ≡ false → SecondFails a rest input lookahead
second_excluded a rest next (test ∷ input) lookahead own context none = own test none
second_excluded a rest next [] (test ∷ lookahead) own context none = context test none
second_excluded a rest next [] [] own context none = cc

by_start : (nest : Option (ℕ → Action)) (a : ApplyContext) (r : Chain) (c : Cut) (b : Bool) → OnlyTries (by_input nest a r (input_end (own_search a c.rest) (drop 1 r.input) c.rest) c) → OnlyTries (if b then by_input nest a r (input_end (own_search a c.rest) (drop 1 r.input) c.rest) c else Passes [])
by_start nest a r c true tries = tries
by_start nest a r c false tries = inl refl

by_first : (nest : Option (ℕ → Action)) (a : ApplyContext) (r : Chain) (c : Cut) (first : Option Item) → OnlyTries (by_input nest a r (input_end (own_search a c.rest) (drop 1 r.input) c.rest) c) → OnlyTries (at_first (chain_at nest a r) first c)
by_first nest a r c None tries = inl refl
by_first nest a r c (Some x) tries = by_start nest a r c (begins r.input x && nat_le (length r.input) 64) tries

-- a rule whose second item isn't found passes, after an attempt at most
pub second_never : (a : ApplyContext) (r : Chain) (c : Cut) → SecondFails a c.rest (drop 1 r.input) r.lookahead → NeverMatches a r c
second_never a r c fails nest = by_first nest a r c (first_of c.rest) (second_tries nest a r c (drop 1 r.input) r.lookahead refl refl fails)

-- a rule excluded by the next glyph passes, after an attempt at most
pub excluded_tries : (nest : Option (ℕ → Action)) (a : ApplyContext) (r : Chain) (c : Cut) (next : NextGlyphs) → IsNext next.input (own_search a c.rest) 1 c.rest → IsNext next.lookahead (context_search a c.rest) 1 c.rest → may_follow next r ≡ false → OnlyTries (chain_rule nest a r c)
excluded_tries nest a r c next own context none = second_never a r c (second_excluded a c.rest next (drop 1 r.input) r.lookahead own context none) nest

-- ---- before the cursor

by_lookahead_tries : (nest : Option (ℕ → Action)) (a : ApplyContext) (r : Chain) (c : Cut) (end back : ℕ) (found : Result ℕ ℕ) → backtrack_end (context_search a c.rest) r.backtrack c.front ≡ Err back → OnlyTries (by_lookahead nest a r end found c)
by_lookahead_tries nest a r c end back (Ok ahead) e = inr (length c.front - back, length c.front + 1, ap (λ o. by_backtrack nest a r end ahead o c) e)
by_lookahead_tries nest a r c end back (Err ahead) e = inr (length c.front - 0, length c.front + ahead, refl)

by_input_tries : (nest : Option (ℕ → Action)) (a : ApplyContext) (r : Chain) (c : Cut) (back : ℕ) (found : Result ℕ ℕ) → backtrack_end (context_search a c.rest) r.backtrack c.front ≡ Err back → OnlyTries (by_input nest a r found c)
by_input_tries nest a r c back (Ok end) e = by_lookahead_tries nest a r c end back (lookahead_end (context_search a c.rest) r.lookahead end c.rest) e
by_input_tries nest a r c back (Err ahead) e = inr (length c.front - 0, length c.front + ahead, refl)

first_fails : (s : Search) (tests : List (Item → Bool)) (front : List Item) → 0 < length tests → Fails (answer s (test_at tests 0)) 0 (reverse front) → (back : ℕ) × (backtrack_end s tests front ≡ Err back)
first_fails s [] front lt fails = absurd (omega (arith, lt))
first_fails s (test ∷ tests) front lt fails = sequence_fails s test tests 0 (reverse front) fails

-- a rule whose first item before the cursor isn't found passes, after an attempt at most
pub behind_never : (a : ApplyContext) (r : Chain) (c : Cut) → 0 < length r.backtrack → Fails (answer (context_search a c.rest) (test_at r.backtrack 0)) 0 (reverse c.front) → NeverMatches a r c
behind_never a r c some fails nest =
    let back = first_fails (context_search a c.rest) r.backtrack c.front some fails in
    by_first nest a r c (first_of c.rest) (by_input_tries nest a r c back.0 (input_end (own_search a c.rest) (drop 1 r.input) c.rest) back.1)
