-- Results of texts that are cut.
use Rattle.std.proofs.Common.{ℕ, ◌≡◌, ◌≤◌, ◌<◌, ◌==◌, ◌&&◌, ◌||◌, ◌↔◌, ◌⊎◌, Bool, true, false, List, [], ◌∷◌, ◌++◌, length, bit_and, arith, inl, inr, refl, sym, ap, subst, ◌∙◌}
use Rattle.std.specs.Prelude.{Some, slice_get, slice_range}
use Rattle.std.proofs.lemmas.List.{append_assoc, length-map}
use Rattle.std.proofs.lemmas.List.Folds.{list_any-append}
use Rattle.std.proofs.lemmas.Nat.{and_assoc}
use Rattle.kuspveli.specs.buffer_glyphs.Items.{Item, Position}
use Rattle.kuspveli.specs.buffer_glyphs.Order.{IsInOrder}
use Rattle.kuspveli.specs.buffer_glyphs.Origins.{Origin, numbers}
use Rattle.kuspveli.specs.buffer_glyphs.Lemmas.Merges.{chain_left, chain_right}
use Rattle.kuspveli.specs.buffer_glyphs.Lemmas.Numbers.{Has, has_either, has_left, has_right}
use Rattle.kuspveli.specs.buffer_parts.Slices.{IsIn}
use Rattle.kuspveli.specs.buffer_parts.Breaks.Concat.{SameButConcat}
use Rattle.kuspveli.specs.buffer_parts.Breaks.Fragments.{IsWhole, as_they_stand, standing_first, standing_last}
use Rattle.kuspveli.specs.buffer_parts.Breaks.Unsafe.{has_flagged_of, is_flagged_of}
use Rattle.kuspveli.specs.shape_laws.Breaks.InLine.{MayBeCutAt, ShowsBoth, glyph_numbers}
use Rattle.kuspveli.specs.shaping_buffer.buffer_core.Readings.{BufferState}
use Rattle.line_pieces.proofs.Middles.{range_is_middle, range_of_middle}
use Rattle.buffer_facts.proofs.Truth.{neither_true as neither}

-- a result shows two others, the clusters of the earlier one before byte c and those of the later one from it on
pub record IsShownCut (falls : Bool) (c : ℕ) (whole earlier later : BufferState) : Type 0 where
  pub both : ShowsBoth falls whole earlier later
  pub below : (n : ℕ) → Has (numbers earlier.origins) n → n < c
  pub above : (n : ℕ) → Has (numbers later.origins) n → c ≤ n
  pub early_whole : IsWhole earlier
  pub late_whole : IsWhole later

-- ---- what may be cut in the whole may be cut in the rest

flagged_alike : (c : ℕ) (os qs : List Origin) → SameButConcat os qs → has_flagged_of c os ≡ has_flagged_of c qs
flagged_alike c [] [] same = refl
flagged_alike c [] (q ∷ qs) same = absurd same
flagged_alike c (o ∷ os) [] same = absurd same
flagged_alike c (o ∷ os) (q ∷ qs) same =
    let bits : bit_and o.flags 1 ≡ bit_and q.flags 1 = sym (and_assoc 1 o.flags 5) ∙ ap (λ n. bit_and n 1) same.1 ∙ and_assoc 1 q.flags 5 in
    let here : is_flagged_of c o ≡ is_flagged_of c q = ap (λ n. n == c && bit_and o.flags 1 == 1) same.0 ∙ ap (λ n. q.cluster == c && n == 1) bits in
    ap (λ t. t || has_flagged_of c os) here ∙ ap (λ t. is_flagged_of c q || t) (flagged_alike c os qs same.2)

unflagged_both : (falls : Bool) (c : ℕ) (os qs : List Origin) → has_flagged_of c (as_they_stand falls os qs) ≡ false → (has_flagged_of c os ≡ false) × (has_flagged_of c qs ≡ false)
unflagged_both false c os qs e = neither (has_flagged_of c os) (has_flagged_of c qs) (sym (list_any-append (is_flagged_of c) os qs) ∙ e)
unflagged_both true c os qs e = let turned = neither (has_flagged_of c qs) (has_flagged_of c os) (sym (list_any-append (is_flagged_of c) qs os) ∙ e) in (turned.1, turned.0)

has_standing : (falls : Bool) (n : ℕ) (xs ys : List ℕ) → Has (as_they_stand falls xs ys) n → Has xs n ⊎ Has ys n
has_standing false n xs ys has = has_either n xs ys has
has_standing true n xs ys has = elim (has_either n ys xs has) [ inl one ↦ inr one | inr two ↦ inl two ]

pub rest_may : (falls : Bool) (c e : ℕ) (whole earlier rest : BufferState) → IsShownCut falls c whole earlier rest → c ≤ e → MayBeCutAt e whole → MayBeCutAt e rest
rest_may falls c e whole earlier rest is after may = record { there = there; safe = safe }
  where
    there : Has (numbers rest.origins) e
    there = elim (has_standing falls e (numbers earlier.origins) (numbers rest.origins) (subst (λ ns. Has ns e) is.both.clusters may.there)) [
      | inl before ↦ let less = is.below e before in absurd (omega (arith, less, after))
      | inr has ↦ has
    ]

    safe : has_flagged_of e rest.origins ≡ false
    safe = (unflagged_both falls e earlier.origins rest.origins (sym (flagged_alike e whole.origins (as_they_stand falls earlier.origins rest.origins) is.both.flags) ∙ may.safe)).1

order_standing : (falls : Bool) (xs ys : List ℕ) → IsInOrder falls (as_they_stand falls xs ys) → IsInOrder falls ys
order_standing false xs ys order = chain_right (λ m n. m ≤ n) xs ys order
order_standing true xs ys order = chain_left (λ m n. n ≤ m) ys xs order

pub rest_order : (falls : Bool) (c : ℕ) (whole earlier rest : BufferState) → IsShownCut falls c whole earlier rest → IsInOrder falls (numbers whole.origins) → IsInOrder falls (numbers rest.origins)
rest_order falls c whole earlier rest is order = order_standing falls (numbers earlier.origins) (numbers rest.origins) (subst (IsInOrder falls) is.both.clusters order)

-- ---- a line between two cuts

-- what stands between others
standing_between : {X : Type 0} (falls : Bool) (es ls rs : List X) → as_they_stand falls es (as_they_stand falls ls rs) ≡ standing_first falls es rs ++ (ls ++ standing_last falls es rs)
standing_between false es ls rs = refl
standing_between true es ls rs = append_assoc rs ls es

shown_between : {X : Type 0} (falls : Bool) (ws es ks ls rs : List X) → ws ≡ as_they_stand falls es ks → ks ≡ as_they_stand falls ls rs → ws ≡ standing_first falls es rs ++ (ls ++ standing_last falls es rs)
shown_between falls ws es ks ls rs first second = first ∙ ap (as_they_stand falls es) second ∙ standing_between falls es ls rs

-- what holds of both that stand around
around : {X : Type 0} (P : X → Type 0) (falls : Bool) (a b : X) → P a → P b → P (standing_first falls a b) × P (standing_last falls a b)
around P false a b p q = (p, q)
around P true a b p q = (q, p)

-- the part of a result that shaping a line alone gives
pub record IsRangeOf (whole line : BufferState) (start end : ℕ) : Type 0 where
  pub glyphs : slice_range (glyph_numbers whole.view.items) start end ≡ glyph_numbers line.view.items
  pub positions : slice_range whole.view.positions start end ≡ line.view.positions
  pub clusters : slice_range (numbers whole.origins) start end ≡ numbers line.origins

module _ (falls : Bool) (c e : ℕ) (whole earlier rest line later : BufferState) (first : IsShownCut falls c whole earlier rest) (second : IsShownCut falls e rest line later) (ordered : c ≤ e) where
  as_numbers : (s : BufferState) → IsWhole s → (length (glyph_numbers s.view.items) ≡ length (numbers s.origins)) × (length s.view.positions ≡ length (numbers s.origins))
  as_numbers s is =
      let many = length-map s.view.items (λ (x : Item). x.number) in
      let origins = length-map s.origins (λ (o : Origin). o.cluster) in
      let same = is.origins in
      let placed = is.positions in
      (omega (arith, many, origins, same), omega (arith, placed, origins, same))

  abbrev before : BufferState
  before = standing_first falls earlier later

  abbrev after : BufferState
  after = standing_last falls earlier later

  abbrev Outside : BufferState → Type 0
  Outside s = (n : ℕ) → Has (numbers s.origins) n → ¬ (IsIn (c, e) n)

  outside : Outside before × Outside after
  outside = around Outside falls earlier later (λ n has is. let less = first.below n has in let low = is.0 in omega (arith, less, low)) (λ n has is. let le = second.above n has in let high = is.1 in omega (arith, le, high))

  inside : (n : ℕ) → Has (numbers line.origins) n → IsIn (c, e) n
  inside n has = (first.above n (among n has), second.below n has)
    where
      stands : (b : Bool) (n : ℕ) (xs ys : List ℕ) → Has xs n → Has (as_they_stand b xs ys) n
      stands false n xs ys has = has_left n xs ys has
      stands true n xs ys has = has_right n ys xs has

      among : (n : ℕ) → Has (numbers line.origins) n → Has (numbers rest.origins) n
      among n has = subst (λ ns. Has ns n) (sym second.both.clusters) (stands falls n (numbers line.origins) (numbers later.origins) has)

  whole_around : IsWhole before × IsWhole after
  whole_around = around IsWhole falls earlier later first.early_whole second.late_whole

  split : {X : Type 0} (f : BufferState → List X) → f whole ≡ as_they_stand falls (f earlier) (f rest) → f rest ≡ as_they_stand falls (f line) (f later) → f whole ≡ f before ++ (f line ++ f after)
  split f one two = shown_between falls (f whole) (f earlier) (f rest) (f line) (f later) one two ∙ apart falls
    where
      apart : (b : Bool) → standing_first b (f earlier) (f later) ++ (f line ++ standing_last b (f earlier) (f later)) ≡ f (standing_first b earlier later) ++ (f line ++ f (standing_last b earlier later))
      apart false = refl
      apart true = refl

  pub line_range : (start end : ℕ) → start ≤ end → end ≤ length (numbers whole.origins) → ((k n : ℕ) → slice_get (numbers whole.origins) k ≡ Some n → IsIn (start, end) k ↔ IsIn (c, e) n) → IsRangeOf whole line start end
  line_range start end le within exact =
      let ns : BufferState → List ℕ = λ s. numbers s.origins in
      let gs : BufferState → List ℕ = λ s. glyph_numbers s.view.items in
      let ps : BufferState → List Position = λ s. s.view.positions in
      let clusters = split ns first.both.clusters second.both.clusters in
      let glyphs = split gs first.both.glyphs second.both.glyphs in
      let positions = split ps first.both.positions second.both.positions in
      let is = range_is_middle (ns before) (ns line) (ns after) (c, e) outside.0 inside outside.1 start end le (subst (λ ms. end ≤ length ms) clusters within) (λ k n at. exact k n (ap (λ ms. slice_get ms k) clusters ∙ at)) in
      let begins = as_numbers before whole_around.0 in
      let alone = as_numbers line second.early_whole in
      record {
        glyphs = ap (λ xs. slice_range xs start end) glyphs ∙ range_of_middle (gs before) (gs line) (gs after) (ns before) (ns line) start end begins.0 alone.0 is;
        positions = ap (λ (xs : List Position). slice_range xs start end) positions ∙ range_of_middle (ps before) (ps line) (ps after) (ns before) (ns line) start end begins.1 alone.1 is;
        clusters = ap (λ xs. slice_range xs start end) clusters ∙ range_of_middle (ns before) (ns line) (ns after) (ns before) (ns line) start end refl refl is;
      }
