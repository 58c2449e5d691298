-- Glyphs beside the one where a rule is tried, which end the searches that they don't match.
use Rattle.std.proofs.Common.{ℕ, ◌≡◌, ◌≤◌, ◌<◌, ◌+◌, ◌-◌, true, false, Bool, List, [], ◌∷◌, length, drop, reverse, get_or, slice_get, Some, refl, sym, ap, ◌∙◌, arith}
use Rattle.std.specs.Prelude.{◌&&◌, not}
use Rattle.std.proofs.lemmas.List.{get_or-reverse, length-reverse}
use Rattle.std.proofs.lemmas.Option.{slice_get-get_or, get_or_from_slice_get}
use Rattle.buffer_glyphs.specs.Lemmas.EventParts.{map-reverse}
use Rattle.buffer_glyphs.specs.declared.info.hb_glyph_info_t.{hb_glyph_info_t}
use Rattle.buffer_glyphs.specs.Items.{Item, item_of, strip}
use Rattle.buffer_glyphs.specs.PropertyWords.{is_default_ignorable}
use Rattle.buffer_stages.specs.Masks.{shares_mask}
use Rattle.layout_match.specs.Applied.{ApplyContext, own_search, context_search, own_syllable}
use Rattle.layout_match.specs.declared.search.match_t.TheVariants.{NOT_MATCH}
use Rattle.layout_match.specs.Matches.{by_answer, nearest_from}
use Rattle.layout_match.specs.Next.{Fails}
use Rattle.layout_match.specs.Searches.{Search, answer, has_mask, is_in_syllable, is_left_out, is_skippable, is_wanted}
use Rattle.layout_match.specs.Sequences.{test_at}
use Rattle.buffer_stages.proofs.Lemmas.Glyphs.{first_item}
use Rattle.layout_contexts.proofs.Followed.{SecondFails}
use Rattle.layout_match.proofs.Next.{untested as fits_not}

-- an item that no search skips
pub record IsSeen (props : ℕ) (sets : List (List ℕ)) (x : Item) : Type 0 where
  pub shown : is_default_ignorable x ≡ false
  pub admitted : is_left_out props sets x ≡ false

seen_if : (hidden out : Bool) → (not hidden && not out) ≡ true → (hidden ≡ false) × (out ≡ false)
seen_if true out e = cc
seen_if false true e = cc
seen_if false false e = (refl, refl)

pub is_seen : (props : ℕ) (sets : List (List ℕ)) (x : Item) → (not (is_default_ignorable x) && not (is_left_out props sets x)) ≡ true → IsSeen props sets x
is_seen props sets x e =
    let both = seen_if (is_default_ignorable x) (is_left_out props sets x) e in
    record { shown = both.0; admitted = both.1 }

ends : (s : Search) (test : Item → Bool) (x : Item) → IsSeen s.props s.sets x → is_wanted s test x ≡ false → answer s test x ≡ NOT_MATCH
ends s test x seen other =
    let kept : is_skippable s x ≡ false = rw (seen.shown) refl in
    rw (seen.admitted, other, kept) refl

-- ---- after the one at the cursor

pub fails_ahead : (s : Search) (test : Item → Bool) (gs : List hb_glyph_info_t) (g : hb_glyph_info_t) → slice_get gs 1 ≡ Some g → IsSeen s.props s.sets (item_of g) → is_wanted s test (item_of g) ≡ false → Fails (answer s test) 1 (strip gs)
fails_ahead s test [] g at seen other = cc
fails_ahead s test (h ∷ []) g at seen other = cc
fails_ahead s test (h ∷ k ∷ gs) g at seen other =
    let same : k ≡ g = cc in
    let refused : answer s test (item_of k) ≡ NOT_MATCH = ap (λ i. answer s test (item_of i)) same ∙ ends s test (item_of g) seen other in
    (2, ap (λ m. by_answer m 1 (nearest_from (answer s test) 2 (strip (h ∷ k ∷ gs)))) refused)

pub fails_at_end : (s : Search) (test : Item → Bool) (gs : List hb_glyph_info_t) → length gs < 2 → Fails (answer s test) 1 (strip gs)
fails_at_end s test [] lt = (1, refl)
fails_at_end s test (h ∷ []) lt = (1, refl)
fails_at_end s test (h ∷ k ∷ gs) lt = absurd (omega (arith, lt))

pub second_of_input : (a : ApplyContext) (rest : List Item) (input lookahead : List (Item → Bool)) → 1 < length input → Fails (answer (own_search a rest) (test_at input 1)) 1 rest → SecondFails a rest (drop 1 input) lookahead
second_of_input a rest [] lookahead lt fails = absurd (omega (arith, lt))
second_of_input a rest (t ∷ []) lookahead lt fails = absurd (omega (arith, lt))
second_of_input a rest (t ∷ u ∷ input) lookahead lt fails = fails

pub first_of_lookahead : (a : ApplyContext) (rest : List Item) (input lookahead : List (Item → Bool)) → length input ≤ 1 → 0 < length lookahead → Fails (answer (context_search a rest) (test_at lookahead 0)) 1 rest → SecondFails a rest (drop 1 input) lookahead
first_of_lookahead a rest input [] le lt fails = absurd (omega (arith, lt))
first_of_lookahead a rest [] (c ∷ lookahead) le lt fails = fails
first_of_lookahead a rest (t ∷ []) (c ∷ lookahead) le lt fails = fails
first_of_lookahead a rest (t ∷ u ∷ input) (c ∷ lookahead) le lt fails = absurd (omega (arith, le))

-- neither search finds anything
pub second_of_any : (a : ApplyContext) (rest : List Item) (input lookahead : List (Item → Bool)) → (length input ≤ 1 → 0 < length lookahead) → ((test : Item → Bool) → Fails (answer (own_search a rest) test) 1 rest) → ((test : Item → Bool) → Fails (answer (context_search a rest) test) 1 rest)
    → SecondFails a rest (drop 1 input) lookahead
second_of_any a rest [] [] some own context = let lt = some (omega arith) in absurd (omega (arith, lt))
second_of_any a rest [] (c ∷ lookahead) some own context = context c
second_of_any a rest (t ∷ []) [] some own context = let lt = some (omega arith) in absurd (omega (arith, lt))
second_of_any a rest (t ∷ []) (c ∷ lookahead) some own context = context c
second_of_any a rest (t ∷ u ∷ input) lookahead some own context = own u

-- ---- before the cursor

last_first : (gs : List hb_glyph_info_t) (g : hb_glyph_info_t) → 0 < length gs → slice_get gs (length gs - 1) ≡ Some g → slice_get (reverse gs) 0 ≡ Some g
last_first gs g some at =
    let long = length-reverse gs in
    let last : get_or gs (length gs - 1) g ≡ g = get_or_from_slice_get gs (length gs - 1) g g at in
    let same : length gs - 1 - 0 ≡ length gs - 1 = omega arith in
    slice_get-get_or (reverse gs) 0 g (omega (arith, long, some)) ∙ ap (λ x. Some x) (get_or-reverse gs 0 g some ∙ ap (λ k. get_or gs k g) same ∙ last)

begun_by : (s : Search) (test : Item → Bool) (hs : List hb_glyph_info_t) (g : hb_glyph_info_t) → slice_get hs 0 ≡ Some g → answer s test (item_of g) ≡ NOT_MATCH → Fails (answer s test) 0 (strip hs)
begun_by s test [] g at refused = cc
begun_by s test (h ∷ hs) g at refused =
    let same : h ≡ g = cc in
    (1, ap (λ m. by_answer m 0 (nearest_from (answer s test) 1 (strip (h ∷ hs)))) (ap (λ i. answer s test (item_of i)) same ∙ refused))

pub fails_behind : (s : Search) (test : Item → Bool) (gs : List hb_glyph_info_t) (g : hb_glyph_info_t) → 0 < length gs → slice_get gs (length gs - 1) ≡ Some g → IsSeen s.props s.sets (item_of g) → is_wanted s test (item_of g) ≡ false → Fails (answer s test) 0 (reverse (strip gs))
fails_behind s test gs g some at seen other =
    rw (sym (map-reverse item_of gs)) (begun_by s test (reverse gs) g (last_first gs g some at) (ends s test (item_of g) seen other))

pub fails_at_start : (s : Search) (test : Item → Bool) (gs : List hb_glyph_info_t) → length gs ≡ 0 → Fails (answer s test) 0 (reverse (strip gs))
fails_at_start s test [] e = (0, refl)
fails_at_start s test (g ∷ gs) e = absurd (omega (arith, e))

-- ---- what the glyph lacks

lacks : (p q t : Bool) → q ≡ false → (p && q && t) ≡ false
lacks true q t e = rw e refl
lacks false q t e = refl

pub of_other_syllable : (s : Search) (test : Item → Bool) (x : Item) → is_in_syllable s.syllable x ≡ false → is_wanted s test x ≡ false
of_other_syllable s test x e = lacks (has_mask s.mask x) (is_in_syllable s.syllable x) (test x) e

pub of_other_mask : (s : Search) (test : Item → Bool) (x : Item) → has_mask s.mask x ≡ false → is_wanted s test x ≡ false
of_other_mask s test x e = rw e refl

pub of_other_test : (s : Search) (test : Item → Bool) (x : Item) → test x ≡ false → is_wanted s test x ≡ false
of_other_test s test x e = fits_not (has_mask s.mask x) (is_in_syllable s.syllable x) (test x) e
