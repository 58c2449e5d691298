-- A text that is cut before many clusters at once shows all its pieces.
use Rattle.std.proofs.Common.{ℕ, ◌≡◌, ◌≤◌, ◌<◌, ◌==◌, ◌&&◌, ◌||◌, ◌⊎◌, Bool, true, false, List, [], ◌∷◌, ◌++◌, length, map, bit_and, arith, inl, inr, refl, sym, ap, subst, ◌∙◌}
use Rattle.std.specs.List.{All, list_any}
use Rattle.std.proofs.lemmas.List.Folds.{list_any-append}
use Rattle.std.proofs.lemmas.List.Elements.{All-head, All-tail, All-cons, All-nil}
use Rattle.std.proofs.lemmas.Nat.{and_assoc}
use Rattle.buffer_facts.proofs.Truth.{neither_true}
use Rattle.buffer_glyphs.specs.Order.{IsInOrder}
use Rattle.buffer_glyphs.specs.Origins.{Origin, numbers}
use Rattle.buffer_glyphs.specs.Lemmas.Merges.{chain_left, chain_right}
use Rattle.buffer_glyphs.specs.Lemmas.Numbers.{Has, has_either, has_here, has_left, has_right}
use Rattle.buffer_unicode_tables.specs.Lawful.{AsciiHasNoMarks}
use Rattle.buffer_core.specs.Readings.{BufferState}
use Rattle.buffer_core.specs.Sides.{state_of}
use Rattle.buffer_parts.specs.Breaks.Concat.{SameButConcat}
use Rattle.buffer_parts.specs.Breaks.Fragments.{as_they_stand}
use Rattle.buffer_parts.specs.Breaks.Unsafe.{has_flagged_of, is_flagged_of}
use Rattle.buffer_parts.proofs.BreakLemmas.Concat.{same_both, same_refl}
use Rattle.buffer_parts.proofs.BreakLemmas.Concats.{same_trans}
use Rattle.shape_pipeline.specs.Laws.{TextsKeepNumbers}
use Rattle.shape_laws.specs.Breaks.InLine.{MayBeCutAt, ShowsBoth, glyph_numbers}
use Rattle.shape_laws.specs.Breaks.SafeTexts.{SafeBreaks}
use Rattle.shape_laws.proofs.BreakLemmas.Removed.{some_number}
use Rattle.shape_breaks.specs.ManyCuts.{AreCutInto, CutPiece, IsCutAt, Setup, ShapedText, ShowsAll, TextsShowAllPieces, piece_results, shaping_of, standing}

-- ---- the same flags

flagged_alike : (c : ℕ) (os qs : List Origin) → SameButConcat os qs → has_flagged_of c os ≡ has_flagged_of c qs
flagged_alike c [] [] same = refl
flagged_alike c [] (q ∷ qs) same = absurd same
flagged_alike c (o ∷ os) [] same = absurd same
flagged_alike c (o ∷ os) (q ∷ qs) same =
    let bits : bit_and o.flags 1 ≡ bit_and q.flags 1 = sym (and_assoc 1 o.flags 5) ∙ ap (λ n. bit_and n 1) same.1 ∙ and_assoc 1 q.flags 5 in
    let here : is_flagged_of c o ≡ is_flagged_of c q = ap (λ n. n == c && bit_and o.flags 1 == 1) same.0 ∙ ap (λ n. q.cluster == c && n == 1) bits in
    ap (λ t. t || has_flagged_of c os) here ∙ ap (λ t. is_flagged_of c q || t) (flagged_alike c os qs same.2)

same_standing : (falls : Bool) (os rs ss : List Origin) → SameButConcat rs ss → SameButConcat (as_they_stand falls os rs) (as_they_stand falls os ss)
same_standing false os rs ss p = same_both os os rs ss (same_refl os) p
same_standing true os rs ss p = same_both rs ss os os p (same_refl os)

-- ---- what is left of a text after its first piece

unflagged_both : (falls : Bool) (c : ℕ) (os qs : List Origin) → has_flagged_of c (as_they_stand falls os qs) ≡ false → (has_flagged_of c os ≡ false) × (has_flagged_of c qs ≡ false)
unflagged_both false c os qs e = neither_true (has_flagged_of c os) (has_flagged_of c qs) (sym (list_any-append (is_flagged_of c) os qs) ∙ e)
unflagged_both true c os qs e = let turned = neither_true (has_flagged_of c qs) (has_flagged_of c os) (sym (list_any-append (is_flagged_of c) qs os) ∙ e) in (turned.1, turned.0)

has_standing : (falls : Bool) (n : ℕ) (xs ys : List ℕ) → Has (as_they_stand falls xs ys) n → Has xs n ⊎ Has ys n
has_standing false n xs ys has = has_either n xs ys has
has_standing true n xs ys has = elim (has_either n ys xs has) [ inl one ↦ inr one | inr two ↦ inl two ]

rest_may : (falls : Bool) (c e : ℕ) (whole earlier rest : BufferState) → ShowsBoth falls whole earlier rest → ((n : ℕ) → Has (numbers earlier.origins) n → n < c) → c ≤ e → MayBeCutAt e whole → MayBeCutAt e rest
rest_may falls c e whole earlier rest both below after may = record { there = there; safe = safe }
  where
    there : Has (numbers rest.origins) e
    there = elim (has_standing falls e (numbers earlier.origins) (numbers rest.origins) (subst (λ ns. Has ns e) both.clusters may.there)) [
      | inl before ↦ let less = below e before in absurd (omega (arith, less, after))
      | inr has ↦ has
    ]

    safe : has_flagged_of e rest.origins ≡ false
    safe = (unflagged_both falls e earlier.origins rest.origins (sym (flagged_alike e whole.origins (as_they_stand falls earlier.origins rest.origins) both.flags) ∙ may.safe)).1

order_standing : (falls : Bool) (xs ys : List ℕ) → IsInOrder falls (as_they_stand falls xs ys) → IsInOrder falls ys
order_standing false xs ys order = chain_right (λ m n. m ≤ n) xs ys order
order_standing true xs ys order = chain_left (λ m n. n ≤ m) ys xs order

-- ---- cuts rise

module _ (s : Setup) where
  abbrev Text : Type 0
  Text = ShapedText s

  abbrev Numbers : Text → ℕ → Type 0
  Numbers t n = Has (numbers (state_of t.text).origins) n

  -- each cut of a text whose clusters are not below a number isn't either
  cuts_above : (c : ℕ) (whole last : Text) (qs : List (CutPiece s)) → AreCutInto s whole qs last → ((n : ℕ) → Numbers whole n → c ≤ n) → All (λ (q : CutPiece s). c ≤ q.cut) qs
  cuts_above c whole last [] cuts above = All-nil (λ (q : CutPiece s). c ≤ q.cut)
  cuts_above c whole last (q ∷ qs) cuts above =
      let rest = cuts.0 in
      let cut = cuts.1.0 in
      let first = some_number (state_of q.piece.text).origins cut.texts.broken.early_some in
      let low = cut.texts.broken.below first.0 first.1 in
      let high = above first.0 (subst (λ ns. Has ns first.0) (sym cut.texts.broken.clusters) (has_left first.0 (numbers (state_of q.piece.text).origins) (numbers (state_of rest.text).origins) first.1)) in
      All-cons (λ (r : CutPiece s). c ≤ r.cut) q qs (omega (arith, low, high))
      (cuts_above c rest last qs cuts.1.1 (λ n has. above n (subst (λ ns. Has ns n) (sym cut.texts.broken.clusters) (has_right n (numbers (state_of q.piece.text).origins) (numbers (state_of rest.text).origins) has))))

  -- what may be cut at numbers
  may_each : (P Q : ℕ → Type 0) (c : ℕ) (qs : List (CutPiece s)) → ((e : ℕ) → c ≤ e → P e → Q e) → All (λ (q : CutPiece s). c ≤ q.cut) qs → All (λ (q : CutPiece s). P q.cut) qs → All (λ (q : CutPiece s). Q q.cut) qs
  may_each P Q c [] f above h = All-nil (λ (q : CutPiece s). Q q.cut)
  may_each P Q c (q ∷ qs) f above h =
      All-cons (λ (r : CutPiece s). Q r.cut) q qs (f q.cut (All-head (λ (r : CutPiece s). c ≤ r.cut) q qs above) (All-head (λ (r : CutPiece s). P r.cut) q qs h))
      (may_each P Q c qs f (All-tail (λ (r : CutPiece s). c ≤ r.cut) q qs above) (All-tail (λ (r : CutPiece s). P r.cut) q qs h))

-- ---- all pieces

module _ (law : SafeBreaks) (keeps : TextsKeepNumbers) (s : Setup) (falls : Bool) (ascii : AsciiHasNoMarks) where
  abbrev shown : ShapedText s → BufferState
  shown t = state_of t.result

  brought : (t : ShapedText s) (n : ℕ) → Has (numbers (shown t).origins) n → Has (numbers (state_of t.text).origins) n
  brought t = keeps (shaping_of s t.text) t.text (shown t) t.shaped

  cut_shown : (c : ℕ) (whole earlier later : ShapedText s) → IsCutAt s c whole earlier later → MayBeCutAt c (shown whole) → IsInOrder falls (numbers (shown whole).origins) → ShowsBoth falls (shown whole) (shown earlier) (shown later)
  cut_shown c whole earlier later cut may order =
      law s.font s.tables s.tags s.spans s.features c whole.text earlier.text later.text whole.result earlier.result later.result cut.texts cut.language cut.shaper ascii cut.characters cut.limits
      (record { all = whole.shaped; early = earlier.shaped; late = later.shaped }) falls may order

  all_shown : (whole last : ShapedText s) (qs : List (CutPiece s)) → AreCutInto s whole qs last → All (λ (q : CutPiece s). MayBeCutAt q.cut (shown whole)) qs → IsInOrder falls (numbers (shown whole).origins)
      → ShowsAll falls (shown whole) (piece_results s qs) (shown last)
  all_shown whole last [] cuts may order = subst (λ (t : ShapedText s). ShowsAll falls (shown whole) [] (shown t)) cuts (record { glyphs = refl; positions = refl; clusters = refl; flags = same_refl (shown whole).origins })
  all_shown whole last (q ∷ qs) cuts may order =
      let rest = cuts.0 in
      let cut = cuts.1.0 in
      let c = q.cut in
      let early = shown q.piece in
      let left = shown rest in
      let both = cut_shown c whole q.piece rest cut (All-head (λ (r : CutPiece s). MayBeCutAt r.cut (shown whole)) q qs may) order in
      let below : (n : ℕ) → Has (numbers early.origins) n → n < c = λ n has. cut.texts.broken.below n (brought q.piece n has) in
      let above : All (λ (r : CutPiece s). c ≤ r.cut) qs = cuts_above s c rest last qs cuts.1.1 (λ n has. cut.texts.broken.above n has) in
      let later : All (λ (r : CutPiece s). MayBeCutAt r.cut left) qs =
      may_each s (λ e. MayBeCutAt e (shown whole)) (λ e. MayBeCutAt e left) c qs (λ e le h. rest_may falls c e (shown whole) early left both below le h) above (All-tail (λ (r : CutPiece s). MayBeCutAt r.cut (shown whole)) q qs may) in
      let others = all_shown rest last qs cuts.1.1 later (order_standing falls (numbers early.origins) (numbers left.origins) (subst (IsInOrder falls) both.clusters order)) in
      record {
        glyphs = both.glyphs ∙ ap (as_they_stand falls (glyph_numbers early.view.items)) others.glyphs;
        positions = both.positions ∙ ap (as_they_stand falls early.view.positions) others.positions;
        clusters = both.clusters ∙ ap (as_they_stand falls (numbers early.origins)) others.clusters;
        flags = same_trans (shown whole).origins (as_they_stand falls early.origins left.origins) (standing falls (map (λ (r : BufferState). r.origins) (piece_results s (q ∷ qs))) (shown last).origins) both.flags
            (same_standing falls early.origins left.origins (standing falls (map (λ (r : BufferState). r.origins) (piece_results s qs)) (shown last).origins) others.flags);
      }

pub texts_show_all : SafeBreaks → TextsKeepNumbers → TextsShowAllPieces
texts_show_all law keeps s falls whole last qs ascii cuts may order = all_shown law keeps s falls ascii whole last qs cuts may order
