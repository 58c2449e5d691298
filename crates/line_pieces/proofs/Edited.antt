-- Where breaks are safe in a text before and after an edit.
use Rattle.std.proofs.Common.{ℕ, zero, suc, ◌+◌, ◌-◌, ◌≡◌, ◌≢◌, ◌≤◌, ◌<◌, ◌==◌, ◌&&◌, ◌||◌, Bool, true, false, not, if◌then◌else◌, List, [], ◌∷◌, length, pos, add-zero, arith, inl, inr, refl, sym, ap, subst, ◌∙◌}
use Rattle.std.specs.Prelude.{Some, slice_get}
use Rattle.std.specs.List.{list_any}
use Rattle.std.proofs.lemmas.Bool.{and_parts, cases_lt}
use Rattle.std.proofs.lemmas.Option.{slice_get_within}
use Rattle.kuspveli.specs.buffer_common.declared.direction.Direction.{Direction}
use Rattle.kuspveli.specs.shaping_buffer.buffer_core.Sides.{Sides}
use Rattle.line_pieces.specs.declared.edits.Cuts.{Cuts}
use Rattle.line_pieces.specs.declared.edits.Edit.{Edit}
use Rattle.line_pieces.specs.declared.steps.Step.{Step}
use Rattle.line_pieces.specs.Edits.{IsEdit, IsFirstAfter, IsLastBefore, are_safe_at, new_length, old_length}
use Rattle.line_pieces.specs.EditsInHand.{AreCuts, byte_if_safe}
use Rattle.line_pieces.specs.Lines.{is_of, is_safe_at, is_unsafe_of}
use Rattle.line_pieces.specs.Steps.{text_steps}
use Rattle.line_pieces.proofs.Filled.{cut_first}
use Rattle.line_pieces.proofs.TextOrder.{IsStepOf, Rises}
use Rattle.line_pieces.proofs.Walks.{not_at_ends}
use Rattle.buffer_facts.proofs.Numbers.{same_by_test as same_from, test_of_same as same_is}

-- ---- safe bytes

any_at : (byte : ℕ) (ss : List Step) → list_any (is_of byte) ss ≡ true → (k : ℕ) × IsStepOf ss k byte
any_at byte [] some = cc
any_at byte (s ∷ ss) some = by_test (s.cluster == byte) refl some (λ h. any_at byte ss h)
  where
    by_test : (t : Bool) → (s.cluster == byte) ≡ t → (t || list_any (is_of byte) ss) ≡ true → (list_any (is_of byte) ss ≡ true → (k : ℕ) × IsStepOf ss k byte) → (k : ℕ) × IsStepOf (s ∷ ss) k byte
    by_test true e h more = (0, record { step = s; is = refl; of = same_from s.cluster byte e })
    by_test false e h more = let rest = more h in (suc rest.0, record { step = rest.1.step; is = rest.1.is; of = rest.1.of })

-- a safe byte within a text has a glyph
safe_inside : (ss : List Step) (end byte : ℕ) → is_safe_at ss end byte ≡ true → byte ≢ 0 → byte ≢ end → (k : ℕ) × IsStepOf ss k byte
safe_inside ss end byte safe first last =
    let any = list_any (is_of byte) ss in
    let none = not (list_any (is_unsafe_of byte) ss) in
    let shown : (any && none) ≡ true = sym (ap (λ t. t || (any && none)) (not_at_ends byte end first last)) ∙ safe in
    any_at byte ss (and_parts any none shown).0

-- the end of a text is safe
pub end_safe : (ss : List Step) (end : ℕ) → is_safe_at ss end end ≡ true
end_safe ss end = by_start (end == 0)
  where
    by_start : (t : Bool) → ((t || end == end) || (list_any (is_of end) ss && not (list_any (is_unsafe_of end) ss))) ≡ true
    by_start true = refl
    by_start false = ap (λ u. u || (list_any (is_of end) ss && not (list_any (is_unsafe_of end) ss))) (same_is end end refl)

-- the glyphs so far are passed: none of their bytes after `from` is safe
pub record IsPassedTo (d : Direction) (old new : Sides) (e : Edit) (i : ℕ) (last : Cuts) (from : ℕ) : Type 0 where
  pub cuts : AreCuts d old new e last
  pub alike : last.after.byte ≡ last.before.byte
  pub ahead : (k : ℕ) (s : Step) → i ≤ k → slice_get (text_steps d old) k ≡ Some s → last.before.byte ≤ s.cluster
  pub before : from ≤ e.start
  pub safe : are_safe_at d old new e from from ≡ true
  pub passed : (k : ℕ) (s : Step) → k < i → slice_get (text_steps d old) k ≡ Some s → are_safe_at d old new e s.cluster s.cluster ≡ true → s.cluster ≤ from

-- the glyphs so far are passed: none of their bytes after the edit is safe
pub record IsNoneTo (d : Direction) (old new : Sides) (e : Edit) (i : ℕ) (last : Cuts) : Type 0 where
  pub cuts : AreCuts d old new e last
  pub past : e.old_end ≤ last.before.byte
  pub alike : last.after.byte + e.old_end ≡ last.before.byte + e.new_end
  pub ahead : (k : ℕ) (s : Step) → i ≤ k → slice_get (text_steps d old) k ≡ Some s → last.before.byte ≤ s.cluster
  pub unsafe : are_safe_at d old new e e.old_end e.new_end ≡ false
  pub none : (k n : ℕ) (s : Step) → k < i → slice_get (text_steps d old) k ≡ Some s → s.cluster ≡ e.old_end + n → are_safe_at d old new e (e.old_end + n) (e.new_end + n) ≡ false

module _ (d : Direction) (old new : Sides) (e : Edit) where
  -- whether breaks at two cuts are safe
  pub cuts_safe : (c : Cuts) (a b : ℕ) → AreCuts d old new e c → c.before.byte ≡ a → c.after.byte ≡ b → (c.before.is_safe && c.after.is_safe) ≡ are_safe_at d old new e a b
  cuts_safe c a b is one two =
      ap (λ t. t && c.after.is_safe) is.before_cut.safe
      ∙ ap (λ t. is_safe_at (text_steps d old) (old_length e) c.before.byte && t) is.after_cut.safe
      ∙ ap (λ n. is_safe_at (text_steps d old) (old_length e) n && is_safe_at (text_steps d new) (new_length e) c.after.byte) one
      ∙ ap (λ n. is_safe_at (text_steps d old) (old_length e) a && is_safe_at (text_steps d new) (new_length e) n) two

  -- the old text's half of it
  old_safe : (a b : ℕ) → are_safe_at d old new e a b ≡ true → is_safe_at (text_steps d old) (old_length e) a ≡ true
  old_safe a b safe = (and_parts (is_safe_at (text_steps d old) (old_length e) a) (is_safe_at (text_steps d new) (new_length e) b) safe).0

  pub first_are_cuts : AreCuts d old new e (record { before = record { byte = 0; glyphs = 0; pen = pos 0; is_safe = true }; after = record { byte = 0; glyphs = 0; pen = pos 0; is_safe = true } })
  first_are_cuts = record { before_cut = cut_first (text_steps d old) (old_length e); after_cut = cut_first (text_steps d new) (new_length e) }

  -- ---- before the edit

  pub none_passed : (c : Cuts) → c ≡ record { before = record { byte = 0; glyphs = 0; pen = pos 0; is_safe = true }; after = record { byte = 0; glyphs = 0; pen = pos 0; is_safe = true } } → IsPassedTo d old new e 0 c 0
  none_passed c same = let P : Cuts → Type 0 = λ b. IsPassedTo d old new e 0 b 0 in subst P (sym same) (record {
    cuts = first_are_cuts;
    alike = refl;
    ahead = λ k s le at. omega arith;
    before = omega arith;
    safe = refl;
    passed = λ k s less at safe. absurd (omega (arith, less));
  })

  pub pass_more : (i : ℕ) (s : Step) (last next : Cuts) (from : ℕ) → Rises (text_steps d old) → IsPassedTo d old new e i last from → slice_get (text_steps d old) i ≡ Some s → s.cluster < e.start
      → AreCuts d old new e next → next.before.byte ≡ s.cluster → next.after.byte ≡ s.cluster → IsPassedTo d old new e (i + 1) next (byte_if_safe next s.cluster from)
  pass_more i s last next from rise is at less cuts one two = by_test (next.before.is_safe && next.after.is_safe) (cuts_safe next s.cluster s.cluster cuts one two)
    where
      ahead : (k : ℕ) (t : Step) → i + 1 ≤ k → slice_get (text_steps d old) k ≡ Some t → next.before.byte ≤ t.cluster
      ahead k t le there = let up = rise i k s t (omega (arith, le)) at there in omega (arith, up, one)

      same_step : (k : ℕ) (t : Step) → k ≡ i → slice_get (text_steps d old) k ≡ Some t → s ≡ t
      same_step k t same there = let both : Some s ≡ Some t = sym at ∙ ap (slice_get (text_steps d old)) (sym same) ∙ there in cc

      by_test : (t : Bool) → t ≡ are_safe_at d old new e s.cluster s.cluster → IsPassedTo d old new e (i + 1) next (if t then s.cluster else from)
      by_test true shown = record {
        cuts = cuts;
        alike = two ∙ sym one;
        ahead = ahead;
        before = omega (arith, less);
        safe = sym shown;
        passed = λ k t under there safe. rise k i t s (omega (arith, under)) there at;
      }
      by_test false shown = record {
        cuts = cuts;
        alike = two ∙ sym one;
        ahead = ahead;
        before = is.before;
        safe = is.safe;
        passed = λ k t under there safe. elim (cases_lt k i) [
          | inl lower ↦ is.passed k t lower there safe
          | inr le ↦
              let same = same_step k t (omega (arith, under, le)) there in
              let P : Step → Type 0 = λ u. are_safe_at d old new e u.cluster u.cluster ≡ true in
              let here = subst P (sym same) safe in
              let no : false ≡ true = shown ∙ here in
              cc
        ];
      }

  -- no later byte before the edit is safe, where the glyphs that are left aren't before it
  pub passed_all : IsEdit e → (i : ℕ) (last : Cuts) (from : ℕ) → IsPassedTo d old new e i last from → ((k : ℕ) (s : Step) → i ≤ k → slice_get (text_steps d old) k ≡ Some s → e.start ≤ s.cluster)
      → (byte : ℕ) → byte < e.start → are_safe_at d old new e byte byte ≡ true → byte ≤ from
  passed_all edit i last from is rest zero under safe = omega arith
  passed_all edit i last from is rest (suc b) under safe =
      let byte = suc b in
      let ordered = edit.old_ordered in
      let one = safe_inside (text_steps d old) (old_length e) byte (old_safe byte byte safe) (λ n. absurd (omega (arith, n))) (λ n. absurd (omega (arith, n, under, ordered))) in
      let of = one.1.of in
      elim (cases_lt one.0 i) [
        | inl lower ↦
            let P : ℕ → Type 0 = λ n. are_safe_at d old new e n n ≡ true in
            let le = is.passed one.0 one.1.step lower one.1.is (subst P (sym of) safe) in
            omega (arith, le, of)
        | inr le ↦ let past = rest one.0 one.1.step le one.1.is in absurd (omega (arith, past, of, under))
      ]

  -- the last byte up to the edit
  pub last_of : (start : Cuts) (inside : ℕ) → AreCuts d old new e start → start.before.byte ≡ e.start → start.after.byte ≡ e.start → inside ≤ e.start → are_safe_at d old new e inside inside ≡ true
      → ((byte : ℕ) → byte < e.start → are_safe_at d old new e byte byte ≡ true → byte ≤ inside) → IsLastBefore d old new e (byte_if_safe start e.start inside)
  last_of start inside cuts one two le safe last = by_test (start.before.is_safe && start.after.is_safe) (cuts_safe start e.start e.start cuts one two)
    where
      by_test : (t : Bool) → t ≡ are_safe_at d old new e e.start e.start → IsLastBefore d old new e (if t then e.start else inside)
      by_test true shown = record { before = omega arith; safe = sym shown; last = λ byte below at. below }
      by_test false shown = record {
        before = le;
        safe = safe;
        last = λ byte below at. elim (cases_lt byte e.start) [
          | inl lower ↦ last byte lower at
          | inr past ↦
              let same : byte ≡ e.start = omega (arith, below, past) in
              let P : ℕ → Type 0 = λ n. are_safe_at d old new e n n ≡ true in
              let here = subst P same at in
              let no : false ≡ true = shown ∙ here in
              cc
        ];
      }

  -- ---- after the edit

  pub none_first : (last : Cuts) → AreCuts d old new e last → last.before.byte ≡ e.old_end → last.after.byte ≡ e.new_end → (last.before.is_safe && last.after.is_safe) ≡ false → IsNoneTo d old new e last.before.glyphs last
  none_first last cuts one two other = record {
    cuts = cuts;
    past = omega (arith, one);
    alike = omega (arith, one, two);
    ahead = λ k s le at. elim (cases_lt s.cluster last.before.byte) [ inl less ↦ let under = (cuts.before_cut.walked.split k s at).1 less in absurd (omega (arith, under, le)) | inr more ↦ more ];
    unsafe = sym (cuts_safe last e.old_end e.new_end cuts one two) ∙ other;
    none = λ k n s less at same. let under = (cuts.before_cut.walked.split k s at).0 less in absurd (omega (arith, under, same, one));
  }

  pub none_more : (i count : ℕ) (s : Step) (last next : Cuts) → Rises (text_steps d old) → IsNoneTo d old new e i last → slice_get (text_steps d old) i ≡ Some s → count ≡ s.cluster - e.old_end
      → AreCuts d old new e next → next.before.byte ≡ e.old_end + count → next.after.byte ≡ e.new_end + count → (next.before.is_safe && next.after.is_safe) ≡ false → IsNoneTo d old new e (i + 1) next
  none_more i count s last next rise is at counted cuts one two other =
      let low = is.ahead i s (omega arith) at in
      let past = is.past in
      record {
        cuts = cuts;
        past = omega (arith, one);
        alike = omega (arith, one, two);
        ahead = λ k t le there. let up = rise i k s t (omega (arith, le)) at there in omega (arith, up, one, counted, low, past);
        unsafe = is.unsafe;
        none = λ k n t under there same. elim (cases_lt k i) [
          | inl lower ↦ is.none k n t lower there same
          | inr le ↦
              let index : i ≡ k = omega (arith, under, le) in
              let both : Some s ≡ Some t = sym at ∙ ap (slice_get (text_steps d old)) index ∙ there in
              let step : s ≡ t = cc in
              let cluster : s.cluster ≡ e.old_end + n = ap (λ (u : Step). u.cluster) step ∙ same in
              let number : count ≡ n = omega (arith, counted, cluster) in
              let P : ℕ → Type 0 = λ m. are_safe_at d old new e (e.old_end + m) (e.new_end + m) ≡ false in
              subst P number (sym (cuts_safe next (e.old_end + count) (e.new_end + count) cuts one two) ∙ other)
        ];
      }

  -- nothing before so many bytes after the edit is safe, where the glyphs that are left aren't before them
  none_earlier : (i m : ℕ) (last : Cuts) → IsNoneTo d old new e i last → m ≤ e.rest → ((k : ℕ) (s : Step) → i ≤ k → slice_get (text_steps d old) k ≡ Some s → e.old_end + m ≤ s.cluster)
      → (n : ℕ) → n ≤ e.rest → are_safe_at d old new e (e.old_end + n) (e.new_end + n) ≡ true → m ≤ n
  none_earlier i m last is most left n within safe = elim (cases_lt n m) [ inr le ↦ le | inl less ↦ absurd (earlier less) ]
    where
      at_zero : n ≡ 0 → ⊥
      at_zero same =
          let P : ℕ → Type 0 = λ k. are_safe_at d old new e (e.old_end + k) (e.new_end + k) ≡ true in
          let Q : ℕ → Type 0 = λ k. are_safe_at d old new e k (e.new_end + 0) ≡ true in
          let R : ℕ → Type 0 = λ k. are_safe_at d old new e e.old_end k ≡ true in
          let here = subst R (add-zero e.new_end) (subst Q (add-zero e.old_end) (subst P same safe)) in
          let no : false ≡ true = sym is.unsafe ∙ here in
          cc

      earlier : n < m → ⊥
      earlier less = elim (cases_lt 0 (e.old_end + n)) [
        | inr nothing ↦ at_zero (omega (arith, nothing))
        | inl some ↦
            let one = safe_inside (text_steps d old) (old_length e) (e.old_end + n) (old_safe (e.old_end + n) (e.new_end + n) safe) (λ b. absurd (omega (arith, b, some))) (λ b. absurd (omega (arith, b, less, most))) in
            let of = one.1.of in
            elim (cases_lt one.0 i) [
              | inl lower ↦ let not_safe = is.none one.0 n one.1.step lower one.1.is of in let no : false ≡ true = sym not_safe ∙ safe in cc
              | inr le ↦ let past = left one.0 one.1.step le one.1.is in omega (arith, past, of, less)
            ]
      ]

  ends_safe : are_safe_at d old new e (e.old_end + e.rest) (e.new_end + e.rest) ≡ true
  ends_safe = ap (λ t. t && is_safe_at (text_steps d new) (new_length e) (new_length e)) (end_safe (text_steps d old) (old_length e)) ∙ end_safe (text_steps d new) (new_length e)

  -- breaks are safe at the end of the edit
  pub after_none : (last : Cuts) → AreCuts d old new e last → last.before.byte ≡ e.old_end → last.after.byte ≡ e.new_end → (last.before.is_safe && last.after.is_safe) ≡ true → IsFirstAfter d old new e 0
  after_none last cuts one two safe = record {
    within = omega arith;
    safe = sym (cuts_safe last (e.old_end + 0) (e.new_end + 0) cuts (one ∙ sym (add-zero e.old_end)) (two ∙ sym (add-zero e.new_end))) ∙ safe;
    first = λ n within at. omega arith;
  }

  -- at a glyph after it
  pub after_glyph : (i count : ℕ) (s : Step) (last next : Cuts) → Rises (text_steps d old) → IsNoneTo d old new e i last → slice_get (text_steps d old) i ≡ Some s → count ≡ s.cluster - e.old_end → count < e.rest
      → AreCuts d old new e next → next.before.byte ≡ e.old_end + count → next.after.byte ≡ e.new_end + count → (next.before.is_safe && next.after.is_safe) ≡ true → IsFirstAfter d old new e count
  after_glyph i count s last next rise is at counted under cuts one two safe =
      let low = is.ahead i s (omega arith) at in
      let past = is.past in
      record {
        within = omega (arith, under);
        safe = sym (cuts_safe next (e.old_end + count) (e.new_end + count) cuts one two) ∙ safe;
        first = none_earlier i count last is (omega (arith, under)) (λ k t le there. let up = rise i k s t le at there in omega (arith, up, counted, low, past));
      }

  -- or at the end of the text, past which a glyph is
  pub after_rest : (i count : ℕ) (s : Step) (last : Cuts) → Rises (text_steps d old) → IsNoneTo d old new e i last → slice_get (text_steps d old) i ≡ Some s → count ≡ s.cluster - e.old_end → e.rest ≤ count → IsFirstAfter d old new e e.rest
  after_rest i count s last rise is at counted over =
      let low = is.ahead i s (omega arith) at in
      let past = is.past in
      record {
        within = omega arith;
        safe = ends_safe;
        first = none_earlier i e.rest last is (omega arith) (λ k t le there. let up = rise i k s t le at there in omega (arith, up, counted, over, low, past));
      }

  -- or no glyph is
  pub after_all : (i : ℕ) (last : Cuts) → IsNoneTo d old new e i last → length (text_steps d old) ≤ i → IsFirstAfter d old new e e.rest
  after_all i last is all = record {
    within = omega arith;
    safe = ends_safe;
    first = none_earlier i e.rest last is (omega arith) (λ k t le there. let inside = slice_get_within (text_steps d old) k t there in absurd (omega (arith, inside, le, all)));
  }
