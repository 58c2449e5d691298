-- Reverse chaining substitution is local, and acts one for one.
use Rattle.std.proofs.Common.{ℕ, ◌≡◌, ◌≤◌, ◌<◌, ◌+◌, ◌-◌, inl, inr, Bool, true, false, if◌then◌else◌, List, [], ◌∷◌, ◌++◌, Option, Some, None, Result, Ok, Err, length, map, take, drop, reverse, arith, refl, ap, sym, subst, ◌∙◌}
use Rattle.std.proofs.lemmas.List.{length-append, length-reverse}
use Rattle.buffer_glyphs.specs.Items.{Item}
use Rattle.buffer_glyphs.specs.Parts.{first_of}
use Rattle.buffer_glyphs.specs.Events.{Event, Break, Concat}
use Rattle.buffer_parts.specs.Counts.{count_after}
use Rattle.layout_common.specs.Rows.{value_of}
use Rattle.layout_face.specs.declared.parts.GlyphDefinition.{GlyphDefinition}
use Rattle.layout_face.specs.declared.substitution.SubstitutionSubtables.{SubstitutionSubtables}
use Rattle.layout_face.specs.declared.substitution.SubstitutionSubtables.TheVariants.{Single, Multiple, Alternate, Ligature, Context, ChainContext, ReverseChainSingle}
use Rattle.layout_tables.specs.declared.reverse.ReverseChainSubst.{ReverseChainSubst}
use Rattle.buffer_stages.specs.Actions.{Cut, whole, Outcome, Passes, Acts, Refuses, Action, later, or_else, first_rule, at_first}
use Rattle.layout_match.specs.Applied.{ApplyContext, context_search}
use Rattle.layout_match.specs.Matches.{answers_of, sequence_end, backtrack_end, lookahead_end}
use Rattle.layout_match.specs.Sequences.{is_covered_by}
use Rattle.layout_match.specs.Trying.{meets, at_met}
use Rattle.layout_match.specs.declared.search.match_t.{match_t}
use Rattle.layout_gsub.specs.Replacements.{substituted_item}
use Rattle.layout_gsub.specs.Reverses.{cut_with_substitute_kept, reverse_after_backtrack, reverse_after_lookahead, reverse_substitution, reverse_subtable}
use Rattle.layout_substitution.specs.Lookups.{first_reverse}
use Rattle.buffer_parts.specs.Breaks.Concat.{without_concats}
use Rattle.buffer_parts.specs.Breaks.Divisible.{merges}
use Rattle.layout_laws.specs.Breaks.Matching.{AreBlind, EndsSame}
use Rattle.layout_laws.specs.Breaks.Frames.{Outside, Inside, framed_cut, IsFramed}
use Rattle.layout_laws.specs.Breaks.Local.{AnyPositions, IsBeside, IsLocal}
use Rattle.layout_laws.specs.Breaks.Backward.{ReplacesOneForOne, ActsOneForOne, ReversesAreLocal, ReversesActOneForOne}
use Rattle.layout_laws.proofs.BreakLemmas.Matching.{match_agrees, match_lies}
use Rattle.layout_laws.proofs.BreakLemmas.Blind.{answers_blind, sets_blind}
use Rattle.layout_laws.proofs.BreakLemmas.Frames.{front_long, rest_long, backward_framed, still_framed}
use Rattle.layout_laws.proofs.BreakLemmas.Outcomes.{none_more, IsLocalAt, passes_local, first_local, at_first_local}
use Rattle.layout_laws.proofs.BreakLemmas.Singles.{made_beside}
use Rattle.layout_laws.proofs.BreakLemmas.Rules.{met_local}

-- ---- a glyph in a context, in a text and in its fragment

module _ (a : ApplyContext) (glyph : ℕ) (backtrack lookahead : List (Item → Bool)) (back_blind : AreBlind backtrack) (ahead_blind : AreBlind lookahead) (o : Outside) (s : Inside) (c : Cut) (x : Item) (xs : List Item) (f : IsFramed o s (record c { rest = x ∷ xs })) where
  abbrev gdef : GlyphDefinition
  gdef = a.font.gdef

  abbrev here : Cut
  here = record c { rest = x ∷ xs }

  abbrev there : Cut
  there = framed_cut o s (record c { rest = x ∷ xs })

  size : length (whole here) ≡ length c.front + length {A = Item} (x ∷ xs)
  size = length-append c.front (x ∷ xs)

  abbrev after : Cut
  after = cut_with_substitute_kept gdef glyph here

  after_size : length (whole after) ≡ length (whole here)
  after_size = length-append c.front (substituted_item gdef glyph x ∷ xs) ∙ sym (length-append c.front (x ∷ xs))

  -- a context that reads past the end of the fragment
  past_end : (ahead : ℕ) → length {A = Item} (x ∷ xs) < ahead → ahead ≤ length there.rest → (back : Result ℕ ℕ) (ours : List Event) → without_concats ours ≡ [] → IsBeside AnyPositions o s here (reverse_after_backtrack gdef glyph ahead back there) (Passes ours)
  past_end ahead past within (Err back) ours e = (refl, e)
  past_end ahead past within (Ok back) ours e =
      let at = front_long o s c.front in
      let long = rest_long o s (x ∷ xs) in
      inl (inr (omega (arith, at, size), omega (arith, at, size, past), omega (arith, at, size, within, long)))

  -- the backtrack sequence, where the lookahead sequence matches inside the fragment
  backtrack_beside : (ahead : ℕ) → 1 ≤ ahead → ahead ≤ length {A = Item} (x ∷ xs) → (far near : Result ℕ ℕ) → EndsSame (length (reverse c.front)) far near → ((back : ℕ) → far ≡ Ok back → back ≤ length there.front)
      → IsBeside AnyPositions o s here (reverse_after_backtrack gdef glyph ahead far there) (reverse_after_backtrack gdef glyph ahead near here)
  backtrack_beside ahead some within (Ok i) (Ok j) h bound =
      let at : length there.front ≡ length o.before + length c.front = front_long o s c.front in
      let short : j ≤ length c.front = omega (arith, h.1, length-reverse c.front) in
      let from : length there.front - i ≡ length o.before + (length c.front - j) = omega (arith, at, h.0, short) in
      let to : length there.front + ahead ≡ length o.before + (length c.front + ahead) = omega (arith, at) in
      made_beside o s here (cut_with_substitute_kept gdef glyph there) after (Break (length there.front - i) (length there.front + ahead) ∷ []) (Break (length c.front - j) (length c.front + ahead) ∷ []) refl (omega (arith, after_size, size)) (λ there. omega (arith, after_size, size)) refl
      (still_framed o s here after refl f.front f.rest f)
      (ap (λ (n : ℕ). Break n (length there.front + ahead) ∷ []) from ∙ ap (λ (n : ℕ). Break (length o.before + (length c.front - j)) n ∷ []) to)
      ((omega (arith, size), omega (arith, size, within)), tt)
  backtrack_beside ahead some within (Ok i) (Err d) h bound =
      let at = front_long o s c.front in
      let le = bound i refl in
      inl (inl (omega (arith, at, h, length-reverse c.front, le), omega (arith, at, some), omega (arith, at, size, within)))
  backtrack_beside ahead some within (Err d) (Ok j) h bound = absurd h
  backtrack_beside ahead some within (Err d) (Err e) h bound = (refl, refl)

  abbrev ahead_asks : List (Item → match_t)
  ahead_asks = answers_of (context_search a (x ∷ xs)) lookahead

  abbrev back_asks : List (Item → match_t)
  back_asks = answers_of (context_search a (x ∷ xs)) backtrack

  back_ends : EndsSame (length (reverse c.front)) (sequence_end back_asks 0 (reverse there.front)) (sequence_end back_asks 0 (reverse c.front))
  back_ends = subst (λ (ys : List Item). EndsSame (length (reverse c.front)) (sequence_end back_asks 0 ys) (sequence_end back_asks 0 (reverse c.front))) (sym (backward_framed o s c.front))
      (match_agrees back_asks s.name 0 (reverse c.front) (reverse o.before) (answers_blind (context_search a (x ∷ xs)) backtrack back_blind) (omega arith)).ends

  back_within : (back : ℕ) → sequence_end back_asks 0 (reverse there.front) ≡ Ok back → back ≤ length there.front
  back_within back e = let lies = match_lies back_asks 0 back (reverse there.front) (omega arith) e in omega (arith, lies.within, length-reverse there.front)

  lookahead_beside : (far near : Result ℕ ℕ) → sequence_end ahead_asks 1 there.rest ≡ far → sequence_end ahead_asks 1 (x ∷ xs) ≡ near → EndsSame (length {A = Item} (x ∷ xs)) far near
      → IsBeside AnyPositions o s here (reverse_after_lookahead a glyph backtrack far there) (reverse_after_lookahead a glyph backtrack near here)
  lookahead_beside (Ok i) (Ok j) ef en h =
      let ours = match_lies ahead_asks 1 j (x ∷ xs) (omega arith) en in
      subst (λ (n : ℕ). IsBeside AnyPositions o s here (reverse_after_backtrack gdef glyph n (sequence_end back_asks 0 (reverse there.front)) there) (reverse_after_lookahead a glyph backtrack (Ok j) here)) (sym h.0)
      (backtrack_beside j ours.rises ours.within (sequence_end back_asks 0 (reverse there.front)) (sequence_end back_asks 0 (reverse c.front)) back_ends back_within)
  lookahead_beside (Ok i) (Err d) ef en h =
      let long = rest_long o s (x ∷ xs) in
      let theirs = match_lies ahead_asks 1 i there.rest (omega (arith, long)) ef in
      past_end i h theirs.within (sequence_end back_asks 0 (reverse there.front)) (Concat (length c.front - 0) (length c.front + d) ∷ []) refl
  lookahead_beside (Err d) (Ok j) ef en h = absurd h
  lookahead_beside (Err d) (Err e) ef en h = (refl, refl)

  substituted_beside : IsBeside AnyPositions o s here (reverse_substitution a backtrack lookahead (Some glyph) there) (reverse_substitution a backtrack lookahead (Some glyph) here)
  substituted_beside =
      lookahead_beside (sequence_end ahead_asks 1 there.rest) (sequence_end ahead_asks 1 (x ∷ xs)) refl refl (match_agrees ahead_asks s.name 1 (x ∷ xs) o.after (answers_blind (context_search a (x ∷ xs)) lookahead ahead_blind) (omega arith)).ends

-- ---- all rules

substitution_at : (a : ApplyContext) (t : ReverseChainSubst) → IsLocalAt AnyPositions (λ x. reverse_substitution a (map is_covered_by t.backtrack) (map is_covered_by t.lookahead) (value_of x.number t.rows))
substitution_at a t o s c x xs f p = by_glyph (value_of x.number t.rows)
  where
    by_glyph : (glyph : Option ℕ)
        → IsBeside AnyPositions o s (record c { rest = x ∷ xs }) (reverse_substitution a (map is_covered_by t.backtrack) (map is_covered_by t.lookahead) glyph (framed_cut o s (record c { rest = x ∷ xs })))
        (reverse_substitution a (map is_covered_by t.backtrack) (map is_covered_by t.lookahead) glyph (record c { rest = x ∷ xs }))
    by_glyph None = (refl, refl)
    by_glyph (Some glyph) = substituted_beside a glyph (map is_covered_by t.backtrack) (map is_covered_by t.lookahead) (sets_blind t.backtrack) (sets_blind t.lookahead) o s c x xs f

subtables_local : (a : ApplyContext) (s : SubstitutionSubtables) → IsLocal AnyPositions (first_reverse a s)
subtables_local a (ReverseChainSingle subtables) = first_local AnyPositions (reverse_subtable a) subtables (λ t. at_first_local AnyPositions (λ x. reverse_substitution a (map is_covered_by t.backtrack) (map is_covered_by t.lookahead) (value_of x.number t.rows)) (substitution_at a t))
subtables_local a (Single subtables) = passes_local AnyPositions
subtables_local a (Multiple subtables) = passes_local AnyPositions
subtables_local a (Alternate subtables) = passes_local AnyPositions
subtables_local a (Ligature subtables) = passes_local AnyPositions
subtables_local a (Context subtables) = passes_local AnyPositions
subtables_local a (ChainContext subtables) = passes_local AnyPositions

pub reverses_are_local : ReversesAreLocal
reverses_are_local a lookup = met_local AnyPositions a (first_reverse a lookup.subtables) (subtables_local a lookup.subtables)

-- ---- one for one

later_one_for_one : (c : Cut) (es : List Event) (o : Outcome) → without_concats es ≡ [] → ReplacesOneForOne c o → ReplacesOneForOne c (later es o)
later_one_for_one c es (Passes fs) e h = none_more es fs e ∙ h
later_one_for_one c es (Acts d fs) e h =
    let same : without_concats (es ++ fs) ≡ without_concats fs = none_more es fs e in
    record {
      long = h.long;
      positions = h.positions;
      number = h.number;
      budget = h.budget;
      merged = ap merges same ∙ h.merged;
      counted = λ n. ap (λ (gs : List Event). count_after gs n) same ∙ h.counted n;
    }
later_one_for_one c es (Refuses x) e h = tt

either_one_for_one : (c : Cut) (o second : Outcome) → ReplacesOneForOne c o → ReplacesOneForOne c second → ReplacesOneForOne c (or_else o second)
either_one_for_one c (Passes es) second h k = later_one_for_one c es second h k
either_one_for_one c (Acts d es) second h k = h
either_one_for_one c (Refuses x) second h k = tt

first_one_for_one : {R : Type 0} (act : R → Action) (rules : List R) → ((r : R) → ActsOneForOne (act r)) → ActsOneForOne (first_rule act rules)
first_one_for_one act [] k c = refl
first_one_for_one act (r ∷ rules) k c = either_one_for_one c (act r c) (first_rule act rules c) (k r c) (first_one_for_one act rules k c)

at_first_one_for_one : (act : Item → Action) → ((x : Item) → ActsOneForOne (act x)) → ActsOneForOne (λ c. at_first act (first_of c.rest) c)
at_first_one_for_one act k c = by_first (first_of c.rest)
  where
    by_first : (x : Option Item) → ReplacesOneForOne c (at_first act x c)
    by_first None = refl
    by_first (Some x) = k x c

one_long : (f : Item → Item) (ys : List Item) → length (map f (take 1 ys) ++ drop 1 ys) ≡ length ys
one_long f [] = refl
one_long f (y ∷ ys) = refl

backtrack_one_for_one : (gdef : GlyphDefinition) (glyph ahead : ℕ) (back : Result ℕ ℕ) → ActsOneForOne (reverse_after_backtrack gdef glyph ahead back)
backtrack_one_for_one d glyph ahead (Err back) c = refl
backtrack_one_for_one d glyph ahead (Ok back) c =
    let f = substituted_item d glyph in
    record {
      long = length-append c.front (map f (take 1 c.rest) ++ drop 1 c.rest) ∙ ap (λ (n : ℕ). length c.front + n) (one_long f c.rest) ∙ sym (length-append c.front c.rest);
      positions = refl;
      number = refl;
      budget = refl;
      merged = refl;
      counted = λ n. refl;
    }

lookahead_one_for_one : (a : ApplyContext) (glyph : ℕ) (backtrack : List (Item → Bool)) (ahead : Result ℕ ℕ) → ActsOneForOne (reverse_after_lookahead a glyph backtrack ahead)
lookahead_one_for_one a glyph backtrack (Err ahead) c = refl
lookahead_one_for_one a glyph backtrack (Ok ahead) c = backtrack_one_for_one a.font.gdef glyph ahead (backtrack_end (context_search a c.rest) backtrack c.front) c

substitution_one_for_one : (a : ApplyContext) (backtrack lookahead : List (Item → Bool)) (o : Option ℕ) → ActsOneForOne (reverse_substitution a backtrack lookahead o)
substitution_one_for_one a backtrack lookahead None c = refl
substitution_one_for_one a backtrack lookahead (Some glyph) c = lookahead_one_for_one a glyph backtrack (lookahead_end (context_search a c.rest) lookahead 1 c.rest) c

subtables_one_for_one : (a : ApplyContext) (s : SubstitutionSubtables) → ActsOneForOne (first_reverse a s)
subtables_one_for_one a (ReverseChainSingle subtables) =
    first_one_for_one (reverse_subtable a) subtables (λ t. at_first_one_for_one (λ x. reverse_substitution a (map is_covered_by t.backtrack) (map is_covered_by t.lookahead) (value_of x.number t.rows)) (λ x. substitution_one_for_one a (map is_covered_by t.backtrack) (map is_covered_by t.lookahead) (value_of x.number t.rows)))
subtables_one_for_one a (Single subtables) = λ c. refl
subtables_one_for_one a (Multiple subtables) = λ c. refl
subtables_one_for_one a (Alternate subtables) = λ c. refl
subtables_one_for_one a (Ligature subtables) = λ c. refl
subtables_one_for_one a (Context subtables) = λ c. refl
subtables_one_for_one a (ChainContext subtables) = λ c. refl

met_one_for_one : (a : ApplyContext) (act : Action) → ActsOneForOne act → (x : Item) → ActsOneForOne (at_met a act x)
met_one_for_one a act k x c = by_test (meets a x)
  where
    by_test : (t : Bool) → ReplacesOneForOne c (if t then act c else Passes [])
    by_test true = k c
    by_test false = refl

pub reverses_act_one_for_one : ReversesActOneForOne
reverses_act_one_for_one a lookup = at_first_one_for_one (at_met a (first_reverse a lookup.subtables)) (λ x. met_one_for_one a (first_reverse a lookup.subtables) (subtables_one_for_one a lookup.subtables) x)
