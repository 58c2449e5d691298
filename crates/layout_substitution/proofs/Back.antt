-- A lookup of reverse chaining on its way back over a buffer.
use mathlib.Core.Bool.{false≢true}
use Rattle.std.proofs.Common.{ℕ, suc, ◌≡◌, ◌+◌, Bool, true, false, if◌then◌else◌, map, List, [], length, Ok, Err, refl, sym, ap, subst, ◌∙◌, arith}
use Rattle.std.specs.Prelude.{Option, Some, None, Result}
use Rattle.std.proofs.lemmas.List.{map-append, take-map, drop-map, take-append-drop, length-map, length-append}
use Rattle.buffer_glyphs.specs.Items.{Item, item_of, strip}
use Rattle.buffer_glyphs.specs.Origins.{origins}
use Rattle.buffer_glyphs.specs.Events.{Event, origins_after}
use Rattle.buffer_glyphs.specs.Parts.{first_of}
use Rattle.buffer_core.specs.Readings.{View, Reading, BufferState, Follows, then_reading, with_events, reading_of}
use Rattle.buffer_core.specs.Steps.{follows_happened, follows_from}
use Rattle.buffer_core.specs.Sides.{Sides, all_glyphs, state_of, items_of, settings_of, flag_requests_of}
use Rattle.buffer_core.specs.Moving.{after_move_to}
use Rattle.layout_common.specs.Rows.{value_of}
use Rattle.layout_face.specs.declared.substitution.SubstLookup.{SubstLookup}
use Rattle.layout_face.specs.declared.substitution.SubstitutionSubtables.{SubstitutionSubtables}
use Rattle.layout_face.specs.declared.substitution.SubstitutionSubtables.TheVariants.{Single, Multiple, Alternate, Ligature, Context, ChainContext, ReverseChainSingle}
use Rattle.layout_tables.specs.declared.reverse.ReverseChainSubst.{ReverseChainSubst}
use Rattle.layout_match.specs.Applied.{ApplyContext, context_search}
use Rattle.layout_match.specs.Matches.{backtrack_end, lookahead_end}
use Rattle.layout_match.specs.Sequences.{is_covered_by}
use Rattle.buffer_stages.specs.Actions.{Cut, view_at, uncut_with_positions, Outcome, Passes, Acts, Refuses, Action}
use Rattle.buffer_stages.specs.Buffers.{cut_of, are_glyphs, IsStill, HasHappened}
use Rattle.buffer_stages.specs.Performing.{cut_with, PerformsWithoutOutput}
use Rattle.buffer_stages.specs.Ready.{IsReady, IsDoneFrom, state_with}
use Rattle.buffer_stages.proofs.Lemmas.Frames.{still_settings, still_refused, still_direction, still_open, same_level, same_asks, same_numbers}
use Rattle.buffer_stages.proofs.Lemmas.Performed.{same_with}
use Rattle.layout_gsub.specs.Reverses.{reverse_after_lookahead, reverse_substitution, reverse_after_backtrack, reverse_subtable}
use Rattle.layout_match.specs.Trying.{after_outcome, meets, at_met}
use Rattle.layout_substitution.specs.Lookups.{cut_at_index, backward_trials, backward_pass, reverse_action, first_reverse}
use Rattle.layout_substitution.specs.Steps.{IsStepBack}
use Rattle.layout_substitution.proofs.Blind.{IsBlind, drawing, leaving, first_blind, at_first_blind}
use Rattle.buffer_core.proofs.Moved.{moved_to_all as moved_all}

-- ---- reverse chaining draws nothing

before_blind : (a : ApplyContext) (glyph ahead : ℕ) (found : Result ℕ ℕ) (r : ℕ) (c : Cut) → reverse_after_backtrack a.font.gdef glyph ahead found (drawing r c) ≡ leaving r (reverse_after_backtrack a.font.gdef glyph ahead found c)
before_blind a glyph ahead (Ok back) r c = refl
before_blind a glyph ahead (Err back) r c = refl

after_blind : (a : ApplyContext) (glyph : ℕ) (backtrack : List (Item → Bool)) (found : Result ℕ ℕ) (r : ℕ) (c : Cut) → reverse_after_lookahead a glyph backtrack found (drawing r c) ≡ leaving r (reverse_after_lookahead a glyph backtrack found c)
after_blind a glyph backtrack (Ok ahead) r c = before_blind a glyph ahead (backtrack_end (context_search a c.rest) backtrack c.front) r c
after_blind a glyph backtrack (Err ahead) r c = refl

around_blind : (a : ApplyContext) (backtrack lookahead : List (Item → Bool)) (o : Option ℕ) → IsBlind (reverse_substitution a backtrack lookahead o)
around_blind a backtrack lookahead None r c = refl
around_blind a backtrack lookahead (Some glyph) r c = after_blind a glyph backtrack (lookahead_end (context_search a c.rest) lookahead 1 c.rest) r c

subtable_blind : (a : ApplyContext) (s : ReverseChainSubst) → IsBlind (reverse_subtable a s)
subtable_blind a s r c =
    at_first_blind (λ (x : Item). reverse_substitution a (map is_covered_by s.backtrack) (map is_covered_by s.lookahead) (value_of x.number s.rows)) (first_of c.rest) (λ x. around_blind a (map is_covered_by s.backtrack) (map is_covered_by s.lookahead) (value_of x.number s.rows)) r c

subtables_blind : (a : ApplyContext) (subtables : SubstitutionSubtables) → IsBlind (first_reverse a subtables)
subtables_blind a (ReverseChainSingle subtables) = first_blind (reverse_subtable a) subtables (subtable_blind a)
subtables_blind a (Single subtables) = λ r c. refl
subtables_blind a (Multiple subtables) = λ r c. refl
subtables_blind a (Alternate subtables) = λ r c. refl
subtables_blind a (Ligature subtables) = λ r c. refl
subtables_blind a (Context subtables) = λ r c. refl
subtables_blind a (ChainContext subtables) = λ r c. refl

met_blind : (b : Bool) (act : Action) → IsBlind act → IsBlind (λ c. if b then act c else Passes [])
met_blind true act blind = blind
met_blind false act blind = λ r c. refl

reverse_blind : (a : ApplyContext) (lookup : SubstLookup) → IsBlind (reverse_action a lookup)
reverse_blind a lookup r c = at_first_blind (at_met a (first_reverse a lookup.subtables)) (first_of c.rest) (λ x. met_blind (meets a x) (first_reverse a lookup.subtables) (subtables_blind a lookup.subtables)) r c

-- ---- one index

moved_cut : (at r : ℕ) (s : Sides) → cut_with r (after_move_to at s) ≡ cut_at_index at (cut_with r s)
moved_cut at r s = rw (← take-map, ← drop-map, ← map-append) refl

-- what is tried at an index
tried_there : (act : Action) (v : View) (at r : ℕ) (s : Sides) (o : Outcome) → IsBlind act → act (cut_of (after_move_to at s)) ≡ o
    → backward_trials act v (suc at) (cut_with r s) ≡ after_outcome (leaving r o) (backward_trials act v at) v (cut_with r (after_move_to at s))
tried_there act v at r s o blind e =
    let here = cut_of (after_move_to at s) in
    let same : act (cut_with r (after_move_to at s)) ≡ leaving r o = blind r here ∙ ap (leaving r) e in
    ap (λ c. after_outcome (act c) (backward_trials act v at) v c) (sym (moved_cut at r s)) ∙ ap (λ q. after_outcome q (backward_trials act v at) v (cut_with r (after_move_to at s))) same

then_back : (act : Action) (v : View) (at r : ℕ) (es : List Event) (w : View) (c : Cut) (s new : Sides) (final : BufferState) → backward_trials act v (suc at) (cut_with r s) ≡ then_reading (with_events es w) (backward_trials act v at c) → cut_with r new ≡ c
    → IsStill s new → HasHappened es s new → Follows (backward_trials act v at (cut_with r new)) (state_of new) final → Follows (backward_trials act v (suc at) (cut_with r s)) (state_of s) final
then_back act v at r es w c s new final is same still happened f =
    let P : Reading → Type 0 = λ q. Follows q (state_of s) final in
    let Q : Cut → Type 0 = λ d. Follows (backward_trials act v at d) (state_of new) final in
    let settings = still_settings s new still in
    subst P (sym is) (follows_happened es w (backward_trials act v at c) (state_of s) (state_of new) final happened (same_level s new settings) (same_asks s new settings) (subst Q same f))

back_by : (act : Action) (at : ℕ) (acted : Bool) (s new : Sides) (o : Outcome) → IsBlind act → act (cut_of (after_move_to at s)) ≡ o → length (all_glyphs new) ≡ length (all_glyphs s) → PerformsWithoutOutput o acted (after_move_to at s) new → IsStepBack act at s new
back_by act at acted s new (Passes es) blind e count d =
    let p = d.1 in
    let mid = after_move_to at s in
    record {
      still = p.still;
      count = count;
      numbers = λ h. ap are_glyphs (same_numbers mid new p.cut_is) ∙ ap (λ gs. are_glyphs (strip gs)) (moved_all at s) ∙ h;
      follows = λ r v final f.
          then_back act v at r es (view_at v (cut_with r mid)) (cut_with r mid) s new final (tried_there act v at r s (Passes es) blind e) (same_with r mid new p.cut_is) p.still (p.happened ∙ ap (λ gs. origins_after (flag_requests_of s) s.level es (origins gs)) (moved_all at s)) f;
    }
back_by act at acted s new (Acts cut es) blind e count d =
    let p = d.1 in
    let mid = after_move_to at s in
    record {
      still = p.still;
      count = count;
      numbers = λ h. p.numbers (ap (λ gs. are_glyphs (strip gs)) (moved_all at s) ∙ h);
      follows = λ r v final f.
          then_back act v at r es (view_at v (drawing r cut)) (drawing r cut) s new final (tried_there act v at r s (Acts cut es) blind e) (ap (drawing r) p.cut_is) p.still (p.happened ∙ ap (λ gs. origins_after (flag_requests_of s) s.level es (origins gs)) (moved_all at s)) f;
    }
back_by act at acted s new (Refuses cause) blind e count d = absurd d

pub step_back : (a : ApplyContext) (lookup : SubstLookup) (at : ℕ) (acted : Bool) (s mid new : Sides) → length (all_glyphs new) ≡ length (all_glyphs s) → mid ≡ after_move_to at s → PerformsWithoutOutput (reverse_action a lookup (cut_of mid)) acted mid new
    → IsStepBack (reverse_action a lookup) at s new
step_back a lookup at acted s mid new count is d =
    let P : Sides → Type 0 = λ t. PerformsWithoutOutput (reverse_action a lookup (cut_of t)) acted t new in
    back_by (reverse_action a lookup) at acted s new (reverse_action a lookup (cut_of (after_move_to at s))) (reverse_blind a lookup) refl count (subst P is d)

-- ---- all indices

-- so many indices are left
pub record IsOnItsWayBack (act : Action) (count left : ℕ) (start now : Sides) : Type 0 where
  pub still : IsStill start now
  pub count_is : length (all_glyphs now) ≡ length (all_glyphs start)
  pub numbers : are_glyphs (items_of start) ≡ true → are_glyphs (items_of now) ≡ true
  pub follows : (r : ℕ) (v : View) (final : BufferState) → Follows (backward_trials act v left (cut_with r now)) (state_of now) final → Follows (backward_trials act v count (cut_with r start)) (state_of start) final

pub back_begun : (act : Action) (count : ℕ) (s : Sides) → IsOnItsWayBack act count count s s
back_begun act count s = record { still = refl; count_is = refl; numbers = λ h. h; follows = λ r v final f. f }

pub gone_back : (act : Action) (count at : ℕ) (start now next : Sides) → IsOnItsWayBack act count (suc at) start now → IsStepBack act at now next → IsOnItsWayBack act count at start next
gone_back act count at start now next u st = record {
  still = st.still ∙ u.still;
  count_is = st.count ∙ u.count_is;
  numbers = λ h. st.numbers (u.numbers h);
  follows = λ r v final f. u.follows r v final (st.follows r v final f);
}

back_view : (r : ℕ) (s new : Sides) → IsStill s new → (state_with r new).view ≡ view_at (state_with r s).view (cut_with r new)
back_view r s new still =
    ap (λ xs. record (state_with r new).view { items = xs }) (map-append item_of new.behind new.ahead) ∙ ap (λ d. record (view_at (state_with r s).view (cut_with r new)) { direction = d }) (still_direction s new still)

ready_cut : (r : ℕ) (s : Sides) → s.behind ≡ [] → cut_with r s ≡ uncut_with_positions (state_with r s).view
ready_cut r s none = rw none refl

-- without an output as many glyphs were read as stand behind the cursor
read_at_front : (n : ℕ) (s : Sides) → n ≡ s.read + length s.ahead → n ≡ length (all_glyphs s) → (after_move_to 0 s).read ≡ 0
read_at_front n s input count = let both = length-append s.behind s.ahead in omega (arith, input, count, both)

-- a lookup that was tried everywhere, once the cursor is before all glyphs
pub looked_back_done : (act : Action) (n k : ℕ) (s now new : Sides) → IsReady s → k ≡ length (all_glyphs s) → IsOnItsWayBack act k 0 s now → n ≡ now.read + length now.ahead → n ≡ length (all_glyphs now) → new ≡ after_move_to 0 now → length new.positions ≡ length (all_glyphs new) → (r : ℕ) → IsDoneFrom r r (backward_pass act) s new
looked_back_done act end k s now new ready counted v0 input count is placed r =
    let K : ℕ → Type 0 = λ m. IsOnItsWayBack act m 0 s now in
    let u = subst K counted v0 in
    let v = (state_with r s).view in
    let all : all_glyphs new ≡ all_glyphs now = ap all_glyphs is ∙ moved_all 0 now in
    let still : IsStill s now = u.still in
    let same : state_with r new ≡ state_with r now = ap (state_with r) is ∙ ap (λ gs. record (state_with r now) { view = record (state_with r now).view { items = strip gs }; origins = origins gs }) (moved_all 0 now) in
    let settings = still_settings s now still in
    let ended : Follows (backward_trials act v 0 (cut_with r now)) (state_of now) (state_with r now) = ap (λ w. record { view = w; origins = (state_of now).origins; level = now.level; asks = (state_of now).asks }) (back_view r s now still) in
    let start : cut_with r s ≡ uncut_with_positions v = ready_cut r s ready.front in
    let Q : Cut → Type 0 = λ c. Follows (backward_trials act v (length (all_glyphs s)) c) (state_of s) (state_with r now) in
    let walked = subst Q start (u.follows r v (state_with r now) ended) in
    let n : length (strip (all_glyphs s)) ≡ length (all_glyphs s) = length-map (all_glyphs s) item_of in
    let there : Follows (backward_trials act v (length v.items) (uncut_with_positions v)) (state_with r s) (state_with r now) = rw n (follows_from (backward_trials act v (length (all_glyphs s)) (uncut_with_positions v)) (state_of s) (state_with r s) (state_with r now) refl refl refl walked) in
    let F : BufferState → Type 0 = λ q. Follows (reading_of (backward_pass act) (state_with r s)) (state_with r s) q in
    record {
      follows = subst F (sym same) there;
      settings = ap settings_of is ∙ settings;
      ready = record {
        closed = ap (λ (t : Sides). t.is_open) is ∙ still_open s now still ∙ ready.closed;
        front = ap (λ (t : Sides). t.behind) is;
        unread = ap (λ (t : Sides). t.read) is ∙ read_at_front end now input count;
        placed = placed;
        unrefused = ap (λ (t : Sides). t.has_refused) is ∙ still_refused s now still ∙ ready.unrefused;
      };
      numbers = λ h. ap (λ gs. are_glyphs (strip gs)) all ∙ u.numbers h;
    }

-- what is done in place leaves the positions
pub acted_still : (o : Outcome) (acted : Bool) (s new : Sides) → PerformsWithoutOutput o acted s new → new.positions ≡ s.positions
acted_still (Passes es) acted s new d = ap (λ (c : Cut). c.positions) d.1.cut_is
acted_still (Acts cut es) acted s new d = d.1.positions
acted_still (Refuses cause) acted s new d = absurd d

-- where it didn't act, the items are as before
pub idle_items : (o : Outcome) (acted : Bool) (at : ℕ) (s mid new : Sides) → mid ≡ after_move_to at s → PerformsWithoutOutput o acted mid new → acted ≡ false → items_of new ≡ items_of s
idle_items (Passes es) acted at s mid new there d e = same_numbers mid new d.1.cut_is ∙ ap items_of there ∙ ap strip (moved_all at s)
idle_items (Acts cut es) acted at s mid new there d e = absurd (false≢true (sym e ∙ d.0))
idle_items (Refuses cause) acted at s mid new there d e = absurd d
