-- Contexts that can't act between the glyphs beside the cursor need not be tried.
use mathlib.Core.Bool.{false≢true}
use Rattle.std.proofs.Common.{ℕ, zero, suc, ◌≡◌, ◌==◌, ◌||◌, ◌≤◌, ◌<◌, ◌+◌, ◌-◌, ◌⊎◌, Bool, true, false, inl, inr, List, [], ◌∷◌, ◌++◌, drop, length, get_or, map, reverse, Option, Some, None, Ok, slice_get, refl, sym, ap, subst, ◌∙◌, arith}
use Rattle.std.specs.Prelude.{◌&&◌}
use Rattle.std.specs.List.{list_any}
use Rattle.std.proofs.lemmas.Bool.{and_right}
use Rattle.std.proofs.lemmas.List.{drop-map, drop_all}
use Rattle.std.proofs.lemmas.Option.{get_or_from_slice_get, slice_get_cases, slice_get_within}
use Rattle.buffer_glyphs.specs.declared.info.hb_glyph_info_t.{hb_glyph_info_t}
use Rattle.buffer_glyphs.specs.Items.{Item, item_of, strip}
use Rattle.buffer_glyphs.specs.Origins.{Asks}
use Rattle.buffer_core.specs.Sides.{Sides, flag_requests_of}
use Rattle.layout_common.specs.Coverage.{is_covered}
use Rattle.layout_common.specs.Neighbours.{may_stand}
use Rattle.layout_common.specs.declared.neighbours.Neighbour.{Neighbour}
use Rattle.layout_common.specs.declared.neighbours.Neighbour.TheVariants.{Unknown, Missing, Glyph}
use Rattle.layout_common.specs.declared.neighbours.Side.TheVariants.{Before, After}
use Rattle.layout_tables.specs.Covers.{admits_context, covers_context, first_admits, items_on}
use Rattle.layout_tables.specs.declared.context.ContextSubtable.{ContextSubtable}
use Rattle.layout_tables.specs.declared.context.ContextSubtable.TheVariants.{Glyphs, Classes, Coverage}
use Rattle.layout_match.specs.Applied.{ApplyContext, own_search, context_search}
use Rattle.layout_match.specs.Next.{Fails, IsBeside}
use Rattle.layout_match.specs.Searches.{Search, answer}
use Rattle.layout_match.specs.Sequences.{is_covered_by, is_glyph, is_number}
use Rattle.layout_match.proofs.Lemmas.Met.{not_tried}
use Rattle.buffer_stages.specs.Actions.{Action, Acts, Cut, Outcome, Passes, Refuses, first_rule, or_else}
use Rattle.buffer_stages.specs.Buffers.{IsStill, cut_of}
use Rattle.buffer_stages.specs.Performing.{IsPerformed, cut_with}
use Rattle.buffer_stages.proofs.Lemmas.Does.{passed_same}
use Rattle.buffer_stages.proofs.Lemmas.Frames.{same_asks, still_settings}
use Rattle.buffer_stages.proofs.Lemmas.Performed.{ArePassed, passed_all, passed_next, performs_later}
use Rattle.layout_contexts.specs.Chains.{Chain, chain_rule, context_subtable, coverage_chain, glyph_chain}
use Rattle.layout_contexts.specs.Following.{NeverMatches, OnlyTries}
use Rattle.layout_contexts.specs.Neighbours.{AreNeighbours, ArePassedOver}
use Rattle.layout_contexts.proofs.Followed.{SecondFails, behind_never, second_never}
use Rattle.layout_contexts.proofs.Lemmas.Following.{tries_nothing}
use Rattle.layout_contexts.proofs.Lemmas.Uncovered.{context_uncovered}

-- ---- an item of a rule

-- an item doesn't match a glyph whose number it doesn't cover
abbrev pub Agrees : {I : Type 0} → (I → Item → Bool) → (I → ℕ → Bool) → Type 0
Agrees {I} test covers = (i : I) (x : Item) → covers i x.number ≡ false → test i x ≡ false

glyph_agrees : Agrees is_glyph (λ glyph g. g == glyph)
glyph_agrees i x e = e

set_agrees : Agrees is_covered_by (λ set g. is_covered g set)
set_agrees set x e = and_right (is_number x.number) (is_covered x.number set) e

excluded : {I : Type 0} (test : I → Item → Bool) (covers : I → ℕ → Bool) (n : Neighbour) (s : Search) (from : ℕ) (xs : List Item) (i : I) (items : List I) → Agrees test covers → IsBeside n s from xs → may_stand (first_admits covers (i ∷ items)) n ≡ false → Fails (answer s (test i)) from xs
excluded test covers Unknown s from xs i items agree beside none = cc
excluded test covers Missing s from xs i items agree beside none = beside (test i)
excluded test covers (Glyph g) s from xs i items agree beside none = beside (test i) (λ x e. agree i x (ap (covers i) e ∙ none))

-- where no item is required anything may stand
free : {I : Type 0} (covers : I → ℕ → Bool) (n : Neighbour) → may_stand (first_admits covers []) n ≡ false → ⊥
free covers Unknown none = cc
free covers Missing none = cc
free covers (Glyph g) none = cc

-- ---- a rule

behind_excluded : {I : Type 0} (test : I → Item → Bool) (covers : I → ℕ → Bool) (n : Neighbour) (a : ApplyContext) (k : Chain) (c : Cut) (items : List I) → k.backtrack ≡ map test items → Agrees test covers → IsBeside n (context_search a c.rest) 0 (reverse c.front)
    → may_stand (first_admits covers items) n ≡ false → NeverMatches a k c
behind_excluded test covers n a k c [] e agree beside none = absurd (free covers n none)
behind_excluded test covers n a k c (i ∷ items) e agree beside none =
    behind_never a k c (rw e (omega arith)) (rw e (excluded test covers n (context_search a c.rest) 0 (reverse c.front) i items agree beside none))

ahead_fails : {I : Type 0} (test : I → Item → Bool) (covers : I → ℕ → Bool) (n : Neighbour) (a : ApplyContext) (rest : List Item) (input lookahead : List I) → Agrees test covers → IsBeside n (own_search a rest) 1 rest → IsBeside n (context_search a rest) 1 rest
    → may_stand (first_admits covers (input ++ lookahead)) n ≡ false → SecondFails a rest (map test input) (map test lookahead)
ahead_fails test covers n a rest (i ∷ input) lookahead agree own context none = excluded test covers n (own_search a rest) 1 rest i (input ++ lookahead) agree own none
ahead_fails test covers n a rest [] (i ∷ lookahead) agree own context none = excluded test covers n (context_search a rest) 1 rest i lookahead agree context none
ahead_fails test covers n a rest [] [] agree own context none = absurd (free covers n none)

ahead_excluded : {I : Type 0} (test : I → Item → Bool) (covers : I → ℕ → Bool) (n : Neighbour) (a : ApplyContext) (k : Chain) (c : Cut) (input lookahead : List I) → k.input ≡ map test input → k.lookahead ≡ map test lookahead → Agrees test covers → IsBeside n (own_search a c.rest) 1 c.rest
    → IsBeside n (context_search a c.rest) 1 c.rest → may_stand (first_admits covers (drop 1 input ++ lookahead)) n ≡ false → NeverMatches a k c
ahead_excluded test covers n a k c input lookahead e f agree own context none =
    let behind : drop 1 k.input ≡ map test (drop 1 input) = ap (drop 1) e ∙ drop-map test 1 input in
    second_never a k c (rw (behind, f) (ahead_fails test covers n a c.rest (drop 1 input) lookahead agree own context none))

-- ---- rules that pass one after another

then_none : (o p : Outcome) (r : ℕ) (s : Sides) → IsPerformed o false r r s s → IsPerformed p false r r s s → IsPerformed (or_else o p) false r r s s
then_none (Passes es) p r s d e = performs_later es p (Ok false) r r s s s d.2 e
then_none (Acts cut es) p r s d e = cc
then_none (Refuses cause) p r s d e = absurd d

none_performed : {R : Type 0} (act : R → Action) (rules : List R) (r : ℕ) (s : Sides) → (flag_requests_of s).concat ≡ false → ((k : ℕ) (x : R) → slice_get rules k ≡ Some x → OnlyTries (act x (cut_with r s))) → IsPerformed (first_rule act rules (cut_with r s)) false r r s s
none_performed act [] r s unasked never = (refl, refl, passed_same s)
none_performed act (x ∷ rules) r s unasked never =
    then_none (act x (cut_with r s)) (first_rule act rules (cut_with r s)) r s (tries_nothing r s (act x (cut_with r s)) unasked (never zero x refl)) (none_performed act rules r s unasked (λ k y at. never (suc k) y at))

neither : (p q : Bool) → (p || q) ≡ false → (p ≡ false) × (q ≡ false)
neither true q e = cc
neither false q e = (refl, e)

none_at : {R : Type 0} (p : R → Bool) (rules : List R) (k : ℕ) (x : R) → list_any p rules ≡ false → slice_get rules k ≡ Some x → p x ≡ false
none_at p [] k x none at = cc
none_at p (y ∷ rules) zero x none at = let same : y ≡ x = cc in ap p (sym same) ∙ (neither (p y) (list_any p rules) none).0
none_at p (y ∷ rules) (suc k) x none at = none_at p rules k x (neither (p y) (list_any p rules) none).1 at

each_excluded : {R : Type 0} (admits : R → Option ℕ → Bool) (n : Neighbour) (rules : List R) (k : ℕ) (x : R) → may_stand (λ o. list_any (λ q. admits q o) rules) n ≡ false → slice_get rules k ≡ Some x → may_stand (admits x) n ≡ false
each_excluded admits Unknown rules k x none at = cc
each_excluded admits Missing rules k x none at = none_at (λ q. admits q None) rules k x none at
each_excluded admits (Glyph g) rules k x none at = none_at (λ q. admits q (Some g)) rules k x none at

-- ---- a subtable

unsaid : (n : Neighbour) → may_stand (λ o. true) n ≡ false → ⊥
unsaid Unknown none = cc
unsaid Missing none = cc
unsaid (Glyph g) none = cc

excluded_before : (nest : Option (ℕ → Action)) (a : ApplyContext) (x : ContextSubtable) (n : Neighbour) (r : ℕ) (s : Sides) → (flag_requests_of s).concat ≡ false → IsBeside n (context_search a (strip s.ahead)) 0 (reverse (strip s.behind)) → may_stand (admits_context x Before) n ≡ false
    → IsPerformed (context_subtable nest a x (cut_with r s)) false r r s s
excluded_before nest a (Glyphs rules) n r s unasked beside none =
    none_performed (λ q. chain_rule nest a (glyph_chain q)) rules r s unasked
    (λ k q at. behind_excluded is_glyph (λ glyph g. g == glyph) n a (glyph_chain q) (cut_with r s) q.backtrack refl glyph_agrees beside (each_excluded (λ q o. first_admits (λ glyph g. g == glyph) (items_on Before q) o) n rules k q none at) nest)
excluded_before nest a (Classes c) n r s unasked beside none = absurd (unsaid n none)
excluded_before nest a (Coverage rules) n r s unasked beside none =
    none_performed (λ q. chain_rule nest a (coverage_chain q)) rules r s unasked
    (λ k q at. behind_excluded is_covered_by (λ set g. is_covered g set) n a (coverage_chain q) (cut_with r s) q.backtrack refl set_agrees beside (each_excluded (λ q o. first_admits (λ set g. is_covered g set) (items_on Before q) o) n rules k q none at) nest)

excluded_after : (nest : Option (ℕ → Action)) (a : ApplyContext) (x : ContextSubtable) (n : Neighbour) (r : ℕ) (s : Sides) → (flag_requests_of s).concat ≡ false → IsBeside n (own_search a (strip s.ahead)) 1 (strip s.ahead) → IsBeside n (context_search a (strip s.ahead)) 1 (strip s.ahead)
    → may_stand (admits_context x After) n ≡ false → IsPerformed (context_subtable nest a x (cut_with r s)) false r r s s
excluded_after nest a (Glyphs rules) n r s unasked own context none =
    none_performed (λ q. chain_rule nest a (glyph_chain q)) rules r s unasked
    (λ k q at. ahead_excluded is_glyph (λ glyph g. g == glyph) n a (glyph_chain q) (cut_with r s) q.input q.lookahead refl refl glyph_agrees own context (each_excluded (λ q o. first_admits (λ glyph g. g == glyph) (items_on After q) o) n rules k q none at) nest)
excluded_after nest a (Classes c) n r s unasked own context none = absurd (unsaid n none)
excluded_after nest a (Coverage rules) n r s unasked own context none =
    none_performed (λ q. chain_rule nest a (coverage_chain q)) rules r s unasked
    (λ k q at. ahead_excluded is_covered_by (λ set g. is_covered g set) n a (coverage_chain q) (cut_with r s) q.input q.lookahead refl refl set_agrees own context (each_excluded (λ q o. first_admits (λ set g. is_covered g set) (items_on After q) o) n rules k q none at) nest)

-- where something is known, failed matches aren't flagged
unasked_where_known : (asked : Bool) (admits : Option ℕ → Bool) (n : Neighbour) → (asked ≡ true → n ≡ Unknown) → may_stand admits n ≡ false → asked ≡ false
unasked_where_known false admits n unknown none = refl
unasked_where_known true admits n unknown none = absurd (false≢true (sym none ∙ ap (may_stand admits) (unknown refl)))

-- a context that can't act at the glyph at the cursor, between those beside it
pub left_out : (nest : Option (ℕ → Action)) (a : ApplyContext) (x : ContextSubtable) (before after : Neighbour) (r n : ℕ) (s : Sides) (g : hb_glyph_info_t) → slice_get s.ahead 0 ≡ Some g → n ≡ g.glyph_id → AreNeighbours before after a s
    → (covers_context x n && may_stand (admits_context x Before) before && may_stand (admits_context x After) after) ≡ false → IsPerformed (context_subtable nest a x (cut_with r s)) false r r s s
left_out nest a x before after r n s g at is beside none = by (covers_context x n) (may_stand (admits_context x Before) before) (may_stand (admits_context x After) after) refl refl refl none
  where
    by : (c b d : Bool) → covers_context x n ≡ c → may_stand (admits_context x Before) before ≡ b → may_stand (admits_context x After) after ≡ d → (c && b && d) ≡ false → IsPerformed (context_subtable nest a x (cut_with r s)) false r r s s
    by false b d c_is b_is d_is e = not_tried (context_subtable nest a x) r s g at (context_uncovered nest a x (item_of g) (ap (covers_context x) (sym is) ∙ c_is))
    by true false d c_is b_is d_is e =
        let unasked = unasked_where_known (flag_requests_of s).concat (admits_context x Before) before (λ h. (beside.unflagged h).0) b_is in
        excluded_before nest a x before r s unasked beside.behind b_is
    by true true false c_is b_is d_is e =
        let unasked = unasked_where_known (flag_requests_of s).concat (admits_context x After) after (λ h. (beside.unflagged h).1) d_is in
        excluded_after nest a x after r s unasked beside.input beside.lookahead d_is
    by true true true c_is b_is d_is e = cc

-- what is known stays known while rules pass
pub same_neighbours : (before after : Neighbour) (a : ApplyContext) (start now : Sides) → cut_of now ≡ cut_of start → IsStill start now → AreNeighbours before after a start → AreNeighbours before after a now
same_neighbours before after a start now same still beside =
    let rest : strip now.ahead ≡ strip start.ahead = ap (λ (c : Cut). c.rest) same in
    let front : strip now.behind ≡ strip start.behind = ap (λ (c : Cut). c.front) same in
    let asks : flag_requests_of now ≡ flag_requests_of start = same_asks start now (still_settings start now still) in
    record {
      behind = rw (rest, front) beside.behind;
      input = rw rest beside.input;
      lookahead = rw rest beside.lookahead;
      unflagged = λ asked. beside.unflagged (sym (ap (λ (q : Asks). q.concat) asks) ∙ asked);
    }

-- ---- contexts that pass need not be tried

one_over : (act : ContextSubtable → Action) (all : List ContextSubtable) (r k from next : ℕ) (start now : Sides) → ArePassedOver act all from next r now → from ≤ k → k < next → ArePassed act all (drop k all) r start now
    → ((x : ContextSubtable) × (k < length all) × (slice_get all k ≡ Some x) × (get_or all k x ≡ x)) ⊎ ((length all ≤ k) × (slice_get all k ≡ None)) → ArePassed act all (drop (k + 1) all) r start now
one_over act all r k from next start now passing low high t (inl there) =
    let x = there.0 in
    (passed_next act all k x r r start now now there.1 (sym there.3) t (passing k x low high there.2)).0
one_over act all r k from next start now passing low high t (inr past) =
    let le = past.0 in
    let P : List ContextSubtable → Type 0 = λ xs. ArePassed act all xs r start now in
    subst P (drop_all k all le ∙ sym (drop_all (k + 1) all (omega (arith, le)))) t

over_by : (act : ContextSubtable → Action) (all : List ContextSubtable) (r k next n : ℕ) (start now : Sides) → ArePassedOver act all k next r now → k + n ≤ next → ArePassed act all (drop k all) r start now → ArePassed act all (drop (k + n) all) r start now
over_by act all r k next zero start now passing le t =
    let P : ℕ → Type 0 = λ m. ArePassed act all (drop m all) r start now in
    let same : k ≡ k + 0 = omega arith in
    subst P same t
over_by act all r k next (suc n) start now passing le t =
    let so_far = over_by act all r k next n start now passing (omega (arith, le)) t in
    let P : ℕ → Type 0 = λ m. ArePassed act all (drop m all) r start now in
    let same : k + n + 1 ≡ k + suc n = omega arith in
    subst P same (one_over act all r (k + n) k next start now passing (omega arith) (omega (arith, le)) so_far (slice_get_cases all (k + n)).1)

pub jumped_over : (act : ContextSubtable → Action) (all : List ContextSubtable) (r k next : ℕ) (start now : Sides) → ArePassedOver act all k next r now → k ≤ next → ArePassed act all (drop k all) r start now → ArePassed act all (drop next all) r start now
jumped_over act all r k next start now passing le t =
    let P : ℕ → Type 0 = λ m. ArePassed act all (drop m all) r start now in
    let same : k + (next - k) ≡ next = omega (arith, le) in
    subst P same (over_by act all r k next (next - k) start now passing (omega (arith, le)) t)

-- a context that is there
pub is_there : {R : Type 0} (all : List R) (k : ℕ) (x : R) → slice_get all k ≡ Some x → (k < length all) × (x ≡ get_or all k x)
is_there all k x at = (slice_get_within all k x at, sym (get_or_from_slice_get all k x x at))

none_there : (all : List ContextSubtable) (k : ℕ) → slice_get all k ≡ None → length all ≤ k
none_there all k none = elim (slice_get_cases all k).1 [
  | inl there ↦ let some = there.2 in cc
  | inr past ↦ past.0
]

-- none is left
pub jumped_over_all : (act : ContextSubtable → Action) (all : List ContextSubtable) (r q k next : ℕ) (start now : Sides) → ArePassedOver act all k next q now → k ≤ next → ArePassed act all (drop k all) q start now → None ≡ slice_get all next → r ≡ q
    → IsPerformed (first_rule act all (cut_with q start)) false q r start now
jumped_over_all act all r q k next start now passing le t none same =
    let P : ℕ → Type 0 = λ n. IsPerformed (first_rule act all (cut_with q start)) false q n start now in
    subst P (sym same) (passed_all act all next q start now (none_there all next (sym none)) (jumped_over act all q k next start now passing le t))
