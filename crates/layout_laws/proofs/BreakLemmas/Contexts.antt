-- Contexts are local where the lookups nested in them are.
use Rattle.std.proofs.Common.{ℕ, ◌≡◌, ◌≤◌, ◌<◌, ◌+◌, ◌-◌, ◌&&◌, inl, inr, Bool, true, false, nat_le, min, if◌then◌else◌, List, [], ◌∷◌, Option, Result, Ok, Err, length, map, drop, reverse, arith, refl, ap, sym, subst, ◌∙◌}
use Rattle.std.proofs.lemmas.List.{length-append, length-map, length-reverse}
use Rattle.buffer_facts.proofs.Numbers.{at_most_by_test}
use Rattle.buffer_facts.proofs.Truth.{second_true}
use Rattle.buffer_glyphs.specs.declared.cause.ShapeCause.TheVariants.{TooLong}
use Rattle.buffer_glyphs.specs.Items.{Item}
use Rattle.buffer_glyphs.specs.Events.{Event, Break, Concat}
use Rattle.layout_tables.specs.declared.context.ContextSubtable.{ContextSubtable}
use Rattle.layout_tables.specs.declared.context.ContextSubtable.TheVariants.{Glyphs, Classes, Coverage}
use Rattle.layout_tables.specs.declared.context.ClassRules.{ClassRules}
use Rattle.layout_tables.specs.declared.context.SequenceRule.{SequenceRule}
use Rattle.buffer_stages.specs.Actions.{Cut, whole, Outcome, Passes, Acts, Refuses, Action, later, first_rule, attempt_around}
use Rattle.layout_match.specs.Applied.{ApplyContext, own_search, context_search}
use Rattle.layout_match.specs.Matches.{answers_of, sequence_end, input_indices, indices, nearest_from, with_index}
use Rattle.layout_match.specs.Searches.{answer}
use Rattle.layout_match.specs.Sequences.{is_covered_by}
use Rattle.layout_match.specs.declared.search.match_t.{match_t}
use Rattle.layout_contexts.specs.MatchIndices.{AreRising}
use Rattle.layout_contexts.specs.Nested.{RecordsOutcome, Walks, Stops, cut_at, holds, each_nested, cut_after_match}
use Rattle.layout_contexts.specs.Chains.{Chain, glyph_chain, class_chain, coverage_chain, begins, nested_lookups, by_backtrack, by_lookahead, by_input, chain_at, chain_rule, class_rules, context_subtable}
use Rattle.buffer_parts.specs.Breaks.Concat.{without_concats}
use Rattle.buffer_parts.specs.Breaks.Fragments.{with_ligature_renamed}
use Rattle.layout_laws.specs.Breaks.Matching.{IsBlind, AreBlind, EndsSame}
use Rattle.layout_laws.specs.Breaks.Frames.{Outside, Inside, framed_cut, IsFramed}
use Rattle.layout_laws.specs.Breaks.Binding.{BindOutside}
use Rattle.layout_laws.specs.Breaks.Local.{Placing, IsBeside, IsLocal, IsOfWhole}
use Rattle.layout_laws.proofs.BreakLemmas.Matching.{Agree, match_agrees, LiesWithin, match_lies}
use Rattle.layout_laws.proofs.BreakLemmas.Blind.{answers_blind, glyphs_blind, classes_blind, sets_blind}
use Rattle.layout_laws.proofs.BreakLemmas.Frames.{front_long, rest_long, backward_framed}
use Rattle.layout_laws.proofs.BreakLemmas.Outcomes.{binds_beside, first_local, at_first_local, items_from_local}
use Rattle.layout_laws.proofs.BreakLemmas.Indices.{farther}
use Rattle.layout_laws.proofs.BreakLemmas.Records.{IsUnderway, NestLocal, nested_beside}

-- ---- outcomes of matches

abbrev Never : Outcome → Type 0
Never (Passes es) = ⊥
Never (Acts d es) = Unit {0}
Never (Refuses x) = Unit {0}

matched_never : (a : RecordsOutcome) → Never (cut_after_match a)
matched_never (Stops x) = tt
matched_never (Walks w ps end es) = by_test (holds (min end (length (whole w))) w)
  where
    by_test : (t : Bool) → Never (if t then Acts (cut_at (min end (length (whole w))) w) es else Refuses TooLong)
    by_test true = tt
    by_test false = tt

-- a match that reaches what is outside binds the fragment, whatever the fragment does alone
break_over : (P : Placing) (o : Outside) (s : Inside) (c : Cut) (from to : ℕ) (q b : Outcome) → Never q → ((es : List Event) → BindOutside (length o.before) (length (whole c)) (length o.after) (Break from to ∷ es)) → IsBeside P o s c (later (Break from to ∷ []) q) b
break_over P o s c from to (Passes es) b never binds = absurd never
break_over P o s c from to (Acts w es) b never binds = binds_beside P o s c w (Break from to ∷ es) b (binds (without_concats es))
break_over P o s c from to (Refuses x) b never binds = tt

-- a match inside the fragment flags in the text what it flags alone
break_inside : (P : Placing) (o : Outside) (s : Inside) (c : Cut) (from to : ℕ) (q b : Outcome) → from ≤ length (whole c) → to ≤ length (whole c) → Never q → IsBeside P o s c q b → IsBeside P o s c (later (Break (length o.before + from) (length o.before + to) ∷ []) q) (later (Break from to ∷ []) b)
break_inside P o s c from to (Passes es) b le within never h = absurd never
break_inside P o s c from to (Refuses x) b le within never h = tt
break_inside P o s c from to (Acts w es) (Passes fs) le within never h = inr (Break from to, refl, (le, within), h)
break_inside P o s c from to (Acts w es) (Refuses y) le within never h = tt
break_inside P o s c from to (Acts w es) (Acts d fs) le within never h = λ x y. elim (h x y) [
  | inl binds ↦ inl (inr (Break from to, refl, (le, within), binds))
  | inr made ↦ inr (record {
    inside = made.inside;
    cut_is = made.cut_is;
    frames = made.frames;
    extended = made.extended;
    some = made.some;
    reach = made.reach;
    placed = made.placed;
    events = ap (λ (gs : List Event). Break (length o.before + from) (length o.before + to) ∷ gs) made.events;
    bounded = ((le, within), made.bounded);
  })
]

-- ---- indices of the input

farther_moved : (left front at : ℕ) (ps : List ℕ) → at ≡ left + front → map (λ k. k + at) ps ≡ farther left (map (λ k. k + front) ps)
farther_moved left front at [] e = refl
farther_moved left front at (p ∷ ps) e =
    let here : p + at ≡ left + (p + front) = omega (arith, e) in
    ap (λ (k : ℕ). k ∷ map (λ k. k + at) ps) here ∙ ap (λ (ks : List ℕ). (left + (p + front)) ∷ ks) (farther_moved left front at ps e)

rising_plus : (low high n : ℕ) (ps : List ℕ) → AreRising low high ps → AreRising (low + n) (high + n) (map (λ k. k + n) ps)
rising_plus low high n [] h = tt
rising_plus low high n (p ∷ ps) h = (omega (arith, h.0), omega (arith, h.1), subst (λ (k : ℕ). AreRising k (high + n) (map (λ k. k + n) ps)) (plus_one p n) (rising_plus (p + 1) high n ps h.2))
  where
    plus_one : (a b : ℕ) → a + 1 + b ≡ a + b + 1
    plus_one a b = omega arith

-- a match has no more indices than tests
with_index_few : (n : ℕ) (r : Result ℕ ℕ) (next : ℕ → List ℕ) → ((at : ℕ) → length (next at) ≤ n) → length (with_index r next) ≤ n + 1
with_index_few n (Ok at) next k = let few = k (at + 1) in omega (arith, few)
with_index_few n (Err end) next k = omega arith

indices_few : (asks : List (Item → match_t)) (at : ℕ) (xs : List Item) → length (indices asks at xs) ≤ length asks
indices_few [] at xs = omega arith
indices_few (ask ∷ asks) at xs = let few = with_index_few (length asks) (nearest_from ask at xs) (λ next. indices asks next xs) (λ next. indices_few asks next xs) in omega (arith, few)

rest_few : (tests : List (Item → Bool)) (n : ℕ) → 0 < n → length tests ≤ n → length (drop 1 tests) + 1 ≤ n
rest_few [] n some le = omega (arith, some)
rest_few (test ∷ tests) n some le = omega (arith, le)

-- ---- a chain

-- the tests of a rule read no ligature number
pub record IsBlindChain (r : Chain) : Type 0 where
  pub backtrack : AreBlind r.backtrack
  pub input : AreBlind r.input
  pub lookahead : AreBlind r.lookahead

pub begins_blind : (tests : List (Item → Bool)) → AreBlind tests → IsBlind (begins tests)
begins_blind [] h f x = refl
begins_blind (test ∷ tests) h f x = h.0 f x

pub rest_blind : (tests : List (Item → Bool)) → AreBlind tests → AreBlind (drop 1 tests)
rest_blind [] h = tt
rest_blind (test ∷ tests) h = h.1

module _ (P : Placing) (over : IsOfWhole P) (nest : Option (ℕ → Action)) (inner : NestLocal P nest) (a : ApplyContext) (r : Chain) (blind : IsBlindChain r) (o : Outside) (s : Inside) (c : Cut) (x : Item) (xs : List Item) (f : IsFramed o s (record c { rest = x ∷ xs })) (k : P o (record c { rest = x ∷ xs })) where
  abbrev here : Cut
  here = record c { rest = x ∷ xs }

  abbrev there : Cut
  there = framed_cut o s (record c { rest = x ∷ xs })

  size : length (whole here) ≡ length c.front + length {A = Item} (x ∷ xs)
  size = length-append c.front (x ∷ xs)

  -- a match that reads past the end of the fragment
  past_end : (end ahead : ℕ) → length {A = Item} (x ∷ xs) < ahead → ahead ≤ length there.rest → (back : Result ℕ ℕ) (ours : List Event) → without_concats ours ≡ [] → IsBeside P o s here (by_backtrack nest a r end ahead back there) (Passes ours)
  past_end end ahead past within (Err back) ours e = (refl, e)
  past_end end ahead past within (Ok back) ours e =
      let at = front_long o s c.front in
      let long = rest_long o s (x ∷ xs) in
      break_over P o s here (length there.front - back) (length there.front + ahead) (nested_lookups nest a r end there) (Passes ours) (matched_never (each_nested nest r.records there (map (λ k. k + length there.front) (input_indices (own_search a there.rest) (drop 1 r.input) there.rest)) (length there.front + end)))
      (λ es. inl (inr (omega (arith, at, size), omega (arith, at, size, past), omega (arith, at, size, within, long))))

  -- the indices of a match
  short_match : length r.input ≤ 64 → length (map (λ k. k + length c.front) (0 ∷ indices (answers_of (own_search a (x ∷ xs)) (drop 1 r.input)) 1 (x ∷ xs))) ≤ 64
  short_match few =
      let asks = answers_of (own_search a (x ∷ xs)) (drop 1 r.input) in
      let ours = indices asks 1 (x ∷ xs) in
      let found = indices_few asks 1 (x ∷ xs) in
      let asked : length asks ≡ length (drop 1 r.input) = length-map (drop 1 r.input) (answer (own_search a (x ∷ xs))) in
      let less = rest_few r.input 64 (omega arith) few in
      omega (arith, length-map (0 ∷ ours) (λ (k : ℕ). k + length c.front), found, asked, less)

  -- the backtrack sequence, where input and lookahead match inside the fragment
  backtrack_beside : length r.input ≤ 64 → (end ahead : ℕ) → LiesWithin 1 end (length {A = Item} (x ∷ xs)) (indices (answers_of (own_search a (x ∷ xs)) (drop 1 r.input)) 1 (x ∷ xs)) → end ≤ ahead → ahead ≤ length {A = Item} (x ∷ xs)
      → indices (answers_of (own_search a (x ∷ xs)) (drop 1 r.input)) 1 there.rest ≡ indices (answers_of (own_search a (x ∷ xs)) (drop 1 r.input)) 1 (x ∷ xs) → (far near : Result ℕ ℕ) → EndsSame (length (reverse c.front)) far near
      → ((back : ℕ) → far ≡ Ok back → back ≤ length there.front) → IsBeside P o s here (by_backtrack nest a r end ahead far there) (by_backtrack nest a r end ahead near here)
  backtrack_beside few end ahead lies after within same (Ok i) (Ok j) h bound =
      let at : length there.front ≡ length o.before + length c.front = front_long o s c.front in
      let short : j ≤ length c.front = omega (arith, h.1, length-reverse c.front) in
      let from : length there.front - i ≡ length o.before + (length c.front - j) = omega (arith, at, h.0, short) in
      let to : length there.front + ahead ≡ length o.before + (length c.front + ahead) = omega (arith, at) in
      let ours = indices (answers_of (own_search a (x ∷ xs)) (drop 1 r.input)) 1 (x ∷ xs) in
      let ps = map (λ k. k + length c.front) (0 ∷ ours) in
      let nested : nested_lookups nest a r end there ≡ cut_after_match (each_nested nest r.records there (farther (length o.before) ps) (length o.before + (length c.front + end))) =
      ap (λ (qs : List ℕ). cut_after_match (each_nested nest r.records there (map (λ k. k + length there.front) (0 ∷ qs)) (length there.front + end))) same
      ∙ ap (λ (qs : List ℕ). cut_after_match (each_nested nest r.records there qs (length there.front + end))) (farther_moved (length o.before) (length c.front) (length there.front) (0 ∷ ours) at)
      ∙ ap (λ (n : ℕ). cut_after_match (each_nested nest r.records there (farther (length o.before) ps) n)) (omega (arith, at)) in
      let rises : AreRising 0 end (0 ∷ ours) = (omega arith, omega (arith, lies.rises), lies.indices) in
      let under : IsUnderway P o s (length c.front) here ps (length c.front + end) = record {
        frames = f;
        placed = k;
        some = omega (arith, size);
        reach = λ e. omega (arith, size);
        high = end + length c.front;
        rises = subst (λ (n : ℕ). AreRising n (end + length c.front) ps) (plus_zero (length c.front)) (rising_plus 0 end (length c.front) (0 ∷ ours) rises);
        few = short_match few;
        near = omega arith;
        below = λ e. omega (arith, size, lies.within);
        within = λ e. omega (arith, size, lies.within);
      } in
      subst (λ (n : ℕ). IsBeside P o s here (later (Break n (length there.front + ahead) ∷ []) (nested_lookups nest a r end there)) (by_backtrack nest a r end ahead (Ok j) here)) (sym from)
      (subst (λ (n : ℕ). IsBeside P o s here (later (Break (length o.before + (length c.front - j)) n ∷ []) (nested_lookups nest a r end there)) (by_backtrack nest a r end ahead (Ok j) here)) (sym to)
      (subst (λ (q : Outcome). IsBeside P o s here (later (Break (length o.before + (length c.front - j)) (length o.before + (length c.front + ahead)) ∷ []) q) (by_backtrack nest a r end ahead (Ok j) here)) (sym nested)
      (break_inside P o s here (length c.front - j) (length c.front + ahead) (cut_after_match (each_nested nest r.records there (farther (length o.before) ps) (length o.before + (length c.front + end)))) (cut_after_match (each_nested nest r.records here ps (length c.front + end)))
      (omega (arith, size)) (omega (arith, size, within)) (matched_never (each_nested nest r.records there (farther (length o.before) ps) (length o.before + (length c.front + end)))) (nested_beside P over nest inner r.records o s here ps (length c.front + end) under))))
    where
      plus_zero : (n : ℕ) → 0 + n ≡ n
      plus_zero n = omega arith
  backtrack_beside few end ahead lies after within same (Ok i) (Err d) h bound =
      let at = front_long o s c.front in
      let le = bound i refl in
      break_over P o s here (length there.front - i) (length there.front + ahead) (nested_lookups nest a r end there) (attempt_around d 1 here) (matched_never (each_nested nest r.records there (map (λ k. k + length there.front) (input_indices (own_search a there.rest) (drop 1 r.input) there.rest)) (length there.front + end)))
      (λ es. inl (inl (omega (arith, at, h, length-reverse c.front, le), omega (arith, at, after, lies.rises), omega (arith, at, size, within))))
  backtrack_beside few end ahead lies after within same (Err d) (Ok j) h bound = absurd h
  backtrack_beside few end ahead lies after within same (Err d) (Err e) h bound = (refl, refl)

  abbrev input_asks : List (Item → match_t)
  input_asks = answers_of (own_search a (x ∷ xs)) (drop 1 r.input)

  abbrev ahead_asks : List (Item → match_t)
  ahead_asks = answers_of (context_search a (x ∷ xs)) r.lookahead

  abbrev back_asks : List (Item → match_t)
  back_asks = answers_of (context_search a (x ∷ xs)) r.backtrack

  back_ends : EndsSame (length (reverse c.front)) (sequence_end back_asks 0 (reverse there.front)) (sequence_end back_asks 0 (reverse c.front))
  back_ends = subst (λ (ys : List Item). EndsSame (length (reverse c.front)) (sequence_end back_asks 0 ys) (sequence_end back_asks 0 (reverse c.front))) (sym (backward_framed o s c.front))
      (match_agrees back_asks s.name 0 (reverse c.front) (reverse o.before) (answers_blind (context_search a (x ∷ xs)) r.backtrack blind.backtrack) (omega arith)).ends

  back_within : (back : ℕ) → sequence_end back_asks 0 (reverse there.front) ≡ Ok back → back ≤ length there.front
  back_within back e = let lies = match_lies back_asks 0 back (reverse there.front) (omega arith) e in omega (arith, lies.within, length-reverse there.front)

  -- the lookahead sequence, where the input matches inside the fragment
  lookahead_beside : length r.input ≤ 64 → (end : ℕ) → LiesWithin 1 end (length {A = Item} (x ∷ xs)) (indices input_asks 1 (x ∷ xs)) → indices input_asks 1 there.rest ≡ indices input_asks 1 (x ∷ xs) → (far near : Result ℕ ℕ) → sequence_end ahead_asks end there.rest ≡ far → sequence_end ahead_asks end (x ∷ xs) ≡ near
      → EndsSame (length {A = Item} (x ∷ xs)) far near → IsBeside P o s here (by_lookahead nest a r end far there) (by_lookahead nest a r end near here)
  lookahead_beside few end lies same (Ok i) (Ok j) ef en h =
      let ours = match_lies ahead_asks end j (x ∷ xs) lies.within en in
      subst (λ (n : ℕ). IsBeside P o s here (by_backtrack nest a r end n (sequence_end back_asks 0 (reverse there.front)) there) (by_lookahead nest a r end (Ok j) here)) (sym h.0)
      (backtrack_beside few end j lies ours.rises ours.within same (sequence_end back_asks 0 (reverse there.front)) (sequence_end back_asks 0 (reverse c.front)) back_ends back_within)
  lookahead_beside few end lies same (Ok i) (Err d) ef en h =
      let long = rest_long o s (x ∷ xs) in
      let theirs = match_lies ahead_asks end i there.rest (omega (arith, lies.within, long)) ef in
      past_end end i h theirs.within (sequence_end back_asks 0 (reverse there.front)) (Concat (length c.front - 0) (length c.front + d) ∷ []) refl
  lookahead_beside few end lies same (Err d) (Ok j) ef en h = absurd h
  lookahead_beside few end lies same (Err d) (Err e) ef en h = (refl, refl)

  -- where the input ends past the fragment, alone the rule passes
  over_beside : (end : ℕ) → length {A = Item} (x ∷ xs) < end → end ≤ length there.rest → (far : Result ℕ ℕ) → sequence_end ahead_asks end there.rest ≡ far → (ours : List Event) → without_concats ours ≡ [] → IsBeside P o s here (by_lookahead nest a r end far there) (Passes ours)
  over_beside end past within (Ok ahead) ef ours e =
      let theirs = match_lies ahead_asks end ahead there.rest within ef in
      past_end end ahead (omega (arith, past, theirs.rises)) theirs.within (sequence_end back_asks 0 (reverse there.front)) ours e
  over_beside end past within (Err d) ef ours e = (refl, e)

  input_beside : length r.input ≤ 64 → (far near : Result ℕ ℕ) → sequence_end input_asks 1 there.rest ≡ far → sequence_end input_asks 1 (x ∷ xs) ≡ near → Agree (length {A = Item} (x ∷ xs)) far near (indices input_asks 1 there.rest) (indices input_asks 1 (x ∷ xs)) → IsBeside P o s here (by_input nest a r far there) (by_input nest a r near here)
  input_beside few (Ok i) (Ok j) ef en h =
      let lies = match_lies input_asks 1 j (x ∷ xs) (omega arith) en in
      let agree = match_agrees ahead_asks s.name j (x ∷ xs) o.after (answers_blind (context_search a (x ∷ xs)) r.lookahead blind.lookahead) lies.within in
      subst (λ (n : ℕ). IsBeside P o s here (by_lookahead nest a r n (sequence_end ahead_asks n there.rest) there) (by_input nest a r (Ok j) here)) (sym h.ends.0)
      (lookahead_beside few j lies (h.found j refl) (sequence_end ahead_asks j there.rest) (sequence_end ahead_asks j (x ∷ xs)) refl refl agree.ends)
  input_beside few (Ok i) (Err d) ef en h =
      let long = rest_long o s (x ∷ xs) in
      let lies = match_lies input_asks 1 i there.rest (omega (arith, long)) ef in
      over_beside i h.ends lies.within (sequence_end ahead_asks i there.rest) refl (Concat (length c.front - 0) (length c.front + d) ∷ []) refl
  input_beside few (Err d) (Ok j) ef en h = absurd h.ends
  input_beside few (Err d) (Err e) ef en h = (refl, refl)

  chain_beside : IsBeside P o s here (chain_at nest a r (with_ligature_renamed s.name x) there) (chain_at nest a r x here)
  chain_beside =
      subst (λ (t : Bool). IsBeside P o s here (if t && nat_le (length r.input) 64 then by_input nest a r (sequence_end input_asks 1 there.rest) there else Passes []) (chain_at nest a r x here)) (sym (begins_blind r.input blind.input s.name x))
      (by_test (begins r.input x && nat_le (length r.input) 64)
      (λ e. input_beside (at_most_by_test (length r.input) 64 (second_true (begins r.input x) (nat_le (length r.input) 64) e)) (sequence_end input_asks 1 there.rest) (sequence_end input_asks 1 (x ∷ xs)) refl refl
      (match_agrees input_asks s.name 1 (x ∷ xs) o.after (answers_blind (own_search a (x ∷ xs)) (drop 1 r.input) (rest_blind r.input blind.input)) (omega arith))))
    where
      by_test : (t : Bool) → (t ≡ true → IsBeside P o s here (by_input nest a r (sequence_end input_asks 1 there.rest) there) (by_input nest a r (sequence_end input_asks 1 (x ∷ xs)) here))
          → IsBeside P o s here (if t then by_input nest a r (sequence_end input_asks 1 there.rest) there else Passes []) (if t then by_input nest a r (sequence_end input_asks 1 (x ∷ xs)) here else Passes [])
      by_test true h = h refl
      by_test false h = (refl, refl)

-- ---- all contexts

chain_local : (P : Placing) → IsOfWhole P → (nest : Option (ℕ → Action)) → NestLocal P nest → (a : ApplyContext) (r : Chain) → IsBlindChain r → IsLocal P (chain_rule nest a r)
chain_local P over nest inner a r blind = at_first_local P (chain_at nest a r) (λ o s c x xs f k. chain_beside P over nest inner a r blind o s c x xs f k)

pub glyph_blind : (r : SequenceRule ℕ) → IsBlindChain (glyph_chain r)
glyph_blind r = record { backtrack = glyphs_blind r.backtrack; input = glyphs_blind r.input; lookahead = glyphs_blind r.lookahead }

pub class_blind : (s : ClassRules) (r : SequenceRule ℕ) → IsBlindChain (class_chain s r)
class_blind s r = record { backtrack = classes_blind s.backtrack r.backtrack; input = classes_blind s.input r.input; lookahead = classes_blind s.lookahead r.lookahead }

pub coverage_blind : (r : SequenceRule (List ℕ)) → IsBlindChain (coverage_chain r)
coverage_blind r = record { backtrack = sets_blind r.backtrack; input = sets_blind r.input; lookahead = sets_blind r.lookahead }

pub context_local : (P : Placing) → IsOfWhole P → (nest : Option (ℕ → Action)) → NestLocal P nest → (a : ApplyContext) (t : ContextSubtable) → IsLocal P (context_subtable nest a t)
context_local P over nest inner a (Glyphs rules) = first_local P (λ r. chain_rule nest a (glyph_chain r)) rules (λ r. chain_local P over nest inner a (glyph_chain r) (glyph_blind r))
context_local P over nest inner a (Classes s) = at_first_local P (class_rules nest a s) (items_from_local P (class_rules nest a s) covered (λ f x. refl))
  where
    covered : (y : Item) → IsLocal P (class_rules nest a s y)
    covered y o t c f k some = by_test (is_covered_by s.first y) (first_local P (λ r. chain_rule nest a (class_chain s r)) s.rules (λ r. chain_local P over nest inner a (class_chain s r) (class_blind s r)) o t c f k some)
      where
        by_test : (b : Bool) → IsBeside P o t c (first_rule (λ r. chain_rule nest a (class_chain s r)) s.rules (framed_cut o t c)) (first_rule (λ r. chain_rule nest a (class_chain s r)) s.rules c)
            → IsBeside P o t c (if b then first_rule (λ r. chain_rule nest a (class_chain s r)) s.rules (framed_cut o t c) else Passes []) (if b then first_rule (λ r. chain_rule nest a (class_chain s r)) s.rules c else Passes [])
        by_test true h = h
        by_test false h = (refl, refl)
context_local P over nest inner a (Coverage rules) = first_local P (λ r. chain_rule nest a (coverage_chain r)) rules (λ r. chain_local P over nest inner a (coverage_chain r) (coverage_blind r))
