-- Fallback positions of marks in a text and in its fragments.
use Rattle.std.proofs.Common.{ℕ, suc, ◌≡◌, ◌+◌, ◌⊎◌, inl, inr, Bool, true, false, if◌then◌else◌, List, [], ◌∷◌, ◌++◌, length, map, Some, arith, refl, sym, ap, subst, ◌∙◌, append_assoc}
use Rattle.std.proofs.lemmas.List.{length-map, length-append}
use Rattle.buffer_common.specs.declared.direction.Direction.{Direction}
use Rattle.buffer_glyphs.specs.Items.{Item, Position}
use Rattle.buffer_glyphs.specs.Events.{Break}
use Rattle.buffer_glyphs.specs.Rewriting.{shifted_event}
use Rattle.buffer_parts.specs.Counts.{count_after}
use Rattle.buffer_parts.specs.Lemmas.Orderly.{plain_is_orderly}
use Rattle.buffer_parts.specs.Lemmas.Plainly.{steady_count, steady_plain}
use Rattle.buffer_core.specs.Readings.{View, Read, BufferState, always}
use Rattle.buffer_properties.specs.Characters.{is_mark}
use Rattle.buffer_parts.specs.Breaks.Beside.{IsReadBeside}
use Rattle.buffer_parts.specs.Breaks.Concat.{without_concats}
use Rattle.buffer_parts.specs.Breaks.Divisible.{IsBreakable, IsFreelyDivisible}
use Rattle.buffer_parts.specs.Breaks.Fragments.{AreFragments, AreGiven, IsNaming, with_ligature_renamed}
use Rattle.buffer_parts.specs.Breaks.Sides.{AreBounded}
use Rattle.buffer_parts.specs.Breaks.Unsafe.{IsUnsafeAt}
use Rattle.buffer_parts.proofs.BreakLemmas.Beside.{crossing_is_unsafe}
use Rattle.layout_face.specs.declared.parts.FaceParts.{FaceParts}
use Rattle.shape_fallback.proofs.Lemmas.MarkPositions.{AreMarks, AreUpTo, KeepsApart, around_base, around_many, around_marks, around_renamed, positions_around}
use Rattle.shape_fallback.specs.Marks.{base_events, components_direction, marks, with_positioned_marks}
use Rattle.shape_pipeline.specs.Positioning.{adjusts_marks}
use Rattle.shape_laws.specs.Breaks.GlyphLaws.{FallbackMarksDivide}
use Rattle.shape_laws.proofs.BreakLemmas.MarkEvents.{AreRanges, EndsWithMarks, base_first, events_are_ranges, events_on, events_renamed, events_seam, events_shifted, last_base, marks_most, marks_on, no_events}
use Rattle.shape_laws.proofs.BreakLemmas.PlainDivision.{IsPlainStage, beside_divides, plain_is_divisible, state_by, state_by_lossless}

-- the view with marks positioned around their bases; a mark whose advance is zeroed is shifted back in some directions
abbrev pub marks_placed : FaceParts → Direction → (Direction → Bool) → View → Read
marks_placed font components adjust v = with_positioned_marks font components (adjust v.direction) v

keeps_apart : (f : ℕ → ℕ) (last given : ℕ) → IsNaming f last given → KeepsApart f last
keeps_apart f last given h = record { none = h.none; apart = h.apart }

up_to : (last : ℕ) (xs : List Item) → AreGiven last xs → AreUpTo last xs
up_to last [] h = tt
up_to last (x ∷ xs) h = (h.0, up_to last xs h.1)

ranges_of : (xs : List Item) → AreRanges (length xs) (base_events 0 xs)
ranges_of xs = events_are_ranges 0 (length xs) xs (omega arith)

placed_is_plain : (font : FaceParts) (components : Direction) (adjust : Direction → Bool) → IsPlainStage (marks_placed font components adjust)
placed_is_plain font components adjust = record {
  plain = λ v level. steady_plain (base_events 0 v.items) (ranges_of v.items).steady;
  lossless = λ v level. (ranges_of v.items).lossless (length v.items);
  counted = λ v level. steady_count (length v.items) (base_events 0 v.items) (ranges_of v.items).steady;
  positions = λ v e. around_many font components (adjust v.direction) v.direction v.items v.positions e ∙ e;
}

-- ---- a base of the earlier fragment before a mark of the later one: unsafe to break

across : (font : FaceParts) (components : Direction) (adjust : Direction → Bool) (c : ℕ) (whole earlier later : BufferState) (xs ys : List Item) (y : Item) → IsBreakable whole → AreFragments false c whole earlier later
    → whole.view.items ≡ xs ++ y ∷ ys → length earlier.origins ≡ length xs → length later.origins ≡ suc (length ys) → is_mark y ≡ true → EndsWithMarks xs → IsUnsafeAt c (state_by (marks_placed font components adjust) whole).origins
across font components adjust c whole earlier later xs ys y ready j all many more marked h =
    let rest = h.rest ++ y ∷ ys in
    let from = 0 + length h.front in
    let es = base_events 0 h.front in
    let fs = base_events (from + 1) rest in
    let n = length h.front + suc (length h.rest) in
    let long : length xs ≡ n = ap length h.all ∙ length-append h.front (h.base ∷ h.rest) in
    let counted : marks rest ≡ length h.rest + suc (marks ys) = marks_on h.rest (y ∷ ys) h.alone ∙ ap (λ k. length h.rest + k) (first_marks y ys marked) in
    let some : marks rest ≡ suc (length h.rest + marks ys) = omega (arith, counted) in
    let most = marks_most ys in
    let e = Break from (from + 1 + marks rest) in
    let line : whole.view.items ≡ h.front ++ h.base ∷ rest = all ∙ ap (λ zs. zs ++ y ∷ ys) h.all ∙ append_assoc h.front (h.base ∷ h.rest) (y ∷ ys) in
    let events : base_events 0 whole.view.items ≡ es ++ e ∷ fs =
    ap (base_events 0) line ∙ events_seam 0 h.front h.base rest h.none ∙ ap (λ zs. es ++ zs) (base_first from h.base rest (length h.rest + marks ys) h.none some) in
    let front = events_are_ranges 0 (length earlier.origins) h.front (omega (arith, many, long)) in
    let steps = steady_count (length earlier.origins) es front.steady in
    crossing_is_unsafe false c whole earlier later (marks_placed font components adjust whole.view) es fs e (record { from = from; to = from + 1 + marks rest }) ready j
    (plain_is_orderly whole.asks whole.level (base_events 0 whole.view.items) whole.origins (steady_plain (base_events 0 whole.view.items) (ranges_of whole.view.items).steady))
    (state_by_lossless (marks_placed font components adjust) (placed_is_plain font components adjust) whole ready) ((ranges_of whole.view.items).no_concat ∙ events) front.bounded refl (omega (arith, steps, many, long)) (omega (arith, steps, many, long, some))
    (omega (arith, steps, many, long, more, some, most))
  where
    first_marks : (y : Item) (ys : List Item) → is_mark y ≡ true → marks (y ∷ ys) ≡ suc (marks ys)
    first_marks y ys e = ap (λ (b : Bool). if b then marks ys + 1 else 0) e ∙ (omega arith)

-- ---- both fragments, one after the other

-- two texts, one after the other, have the flags of each and the positions of each
record ArePlacedApart (font : FaceParts) (components : Direction) (adjust : Bool) (d : Direction) (f g : ℕ → ℕ) (xs ys : List Item) (ps qs : List Position) : Type 0 where
  events : base_events 0 (map (with_ligature_renamed f) xs ++ map (with_ligature_renamed g) ys) ≡ base_events 0 xs ++ base_events (0 + length xs) ys
  positions : positions_around font components adjust d (map (with_ligature_renamed f) xs ++ map (with_ligature_renamed g) ys) (ps ++ qs)
      ≡ positions_around font components adjust d (map (with_ligature_renamed f) xs) ps ++ positions_around font components adjust d (map (with_ligature_renamed g) ys) qs

at_base : (font : FaceParts) (components : Direction) (adjust : Bool) (d : Direction) (f g : ℕ → ℕ) (xs : List Item) (y : Item) (ys : List Item) (ps qs : List Position) → length ps ≡ length xs → is_mark y ≡ false
    → ArePlacedApart font components adjust d f g xs (y ∷ ys) ps qs
at_base font components adjust d f g xs y ys ps qs many e = record {
  events = events_seam 0 (map (with_ligature_renamed f) xs) (with_ligature_renamed g y) (map (with_ligature_renamed g) ys) e
      ∙ ap (λ es. es ++ base_events (0 + length (map (with_ligature_renamed f) xs)) (map (with_ligature_renamed g) (y ∷ ys))) (events_renamed f 0 xs)
      ∙ ap (λ (n : ℕ). base_events 0 xs ++ base_events (0 + n) (map (with_ligature_renamed g) (y ∷ ys))) (length-map xs (with_ligature_renamed f))
      ∙ ap (λ es. base_events 0 xs ++ es) (events_renamed g (0 + length xs) (y ∷ ys));
  positions = around_base font components adjust d (map (with_ligature_renamed f) xs) (with_ligature_renamed g y) (map (with_ligature_renamed g) ys) ps qs (many ∙ sym (length-map xs (with_ligature_renamed f))) e;
}

marks_renamed_alone : (f : ℕ → ℕ) (xs : List Item) → AreMarks (map (with_ligature_renamed f) xs) → AreMarks xs
marks_renamed_alone f [] h = tt
marks_renamed_alone f (x ∷ xs) h = (h.0, marks_renamed_alone f xs h.1)

after_marks : (font : FaceParts) (components : Direction) (adjust : Bool) (d : Direction) (f g : ℕ → ℕ) (xs ys : List Item) (ps qs : List Position) → length ps ≡ length xs → AreMarks (map (with_ligature_renamed f) xs)
    → ArePlacedApart font components adjust d f g xs ys ps qs
after_marks font components adjust d f g xs ys ps qs many h = record {
  events = events_on 0 (map (with_ligature_renamed f) xs) (map (with_ligature_renamed g) ys) h ∙ ap (λ (n : ℕ). base_events (0 + n) (map (with_ligature_renamed g) ys)) (length-map xs (with_ligature_renamed f))
      ∙ events_renamed g (0 + length xs) ys ∙ ap (λ es. es ++ base_events (0 + length xs) ys) (sym (no_events 0 xs (marks_renamed_alone f xs h)));
  positions = around_marks font components adjust d (map (with_ligature_renamed f) xs) (map (with_ligature_renamed g) ys) ps qs (many ∙ sym (length-map xs (with_ligature_renamed f))) h;
}

placed_beside : (font : FaceParts) (components : Direction) (adjust : Direction → Bool) (c : ℕ) (whole earlier later : BufferState) (j : AreFragments false c whole earlier later)
    → ArePlacedApart font components (adjust whole.view.direction) whole.view.direction j.early_name j.late_name earlier.view.items later.view.items earlier.view.positions later.view.positions
    → IsReadBeside false false whole.level (length earlier.origins) (length later.origins) (marks_placed font components adjust whole.view) (marks_placed font components adjust earlier.view) (marks_placed font components adjust later.view)
placed_beside font components adjust c whole earlier later j apart =
    let d = whole.view.direction in
    let f = j.early_name in
    let g = j.late_name in
    let xs = earlier.view.items in
    let ys = later.view.items in
    let ps = earlier.view.positions in
    let qs = later.view.positions in
    let m = length earlier.origins in
    let n = length later.origins in
    let es = base_events 0 xs in
    let fs = base_events 0 ys in
    let first = events_are_ranges 0 m xs (let many = j.early_whole.origins in omega (arith, many)) in
    let second = events_are_ranges 0 n ys (let many = j.late_whole.origins in omega (arith, many)) in
    let here : 0 + length xs ≡ m + 0 = let many = j.early_whole.origins in omega (arith, many) in
    record {
      early_name = f;
      late_name = g;
      names = record { early = j.names.early; late = j.names.late; apart = j.names.apart; early_given = j.names.early_given; late_given = j.names.late_given };
      items = j.items;
      positions = ap (λ zs. positions_around font components (adjust d) d zs whole.view.positions) j.items
          ∙ ap (positions_around font components (adjust d) d (map (with_ligature_renamed f) xs ++ map (with_ligature_renamed g) ys)) j.positions ∙ apart.positions
          ∙ ap (λ zs. positions_around font components (adjust d) d (map (with_ligature_renamed f) xs) ps ++ zs)
          (around_renamed g later.view.lig_id font components (adjust d) d ys qs (keeps_apart g later.view.lig_id whole.view.lig_id j.names.late) (up_to later.view.lig_id ys j.names.late_given))
          ∙ ap (λ zs. zs ++ positions_around font components (adjust d) d ys qs)
          (around_renamed f earlier.view.lig_id font components (adjust d) d xs ps (keeps_apart f earlier.view.lig_id whole.view.lig_id j.names.early) (up_to earlier.view.lig_id xs j.names.early_given))
          ∙ ap (λ (b : Direction). positions_around font components (adjust b) b xs ps ++ positions_around font components (adjust d) d ys qs) (sym j.early_of.direction)
          ∙ ap (λ (b : Direction). positions_around font components (adjust earlier.view.direction) earlier.view.direction xs ps ++ positions_around font components (adjust b) b ys qs) (sym j.late_of.direction);
      events = (ranges_of whole.view.items).no_concat ∙ ap (base_events 0) j.items ∙ apart.events ∙ ap (λ (k : ℕ). es ++ base_events k ys) here ∙ ap (λ zs. es ++ zs) (sym (events_shifted m 0 ys))
          ∙ ap (λ (k : ℕ). es ++ map (shifted_event k) fs) (sym (steady_count m es first.steady)) ∙ ap (λ zs. zs ++ map (shifted_event (count_after zs m)) fs) (sym first.no_concat)
          ∙ ap (λ zs. without_concats es ++ map (shifted_event (count_after (without_concats es) m)) zs) (sym second.no_concat);
      early_direction = j.early_of.direction;
      late_direction = j.late_of.direction;
      early = record {
        bounded = subst (λ zs. AreBounded zs m) (sym first.no_concat) first.bounded;
        positions = around_many font components (adjust earlier.view.direction) earlier.view.direction xs ps j.early_whole.positions ∙ j.early_whole.positions;
        counted = steady_count m es first.steady ∙ j.early_whole.origins;
        some = let some = j.early_some in let many = j.early_whole.origins in omega (arith, some, many);
      };
      late = record {
        bounded = subst (λ zs. AreBounded zs n) (sym second.no_concat) second.bounded;
        positions = around_many font components (adjust later.view.direction) later.view.direction ys qs j.late_whole.positions ∙ j.late_whole.positions;
        counted = steady_count n fs second.steady ∙ j.late_whole.origins;
        some = let some = j.late_some in let many = j.late_whole.origins in omega (arith, some, many);
      };
    }

-- ---- the stage divides

placed_apart : (font : FaceParts) (components : Direction) (adjust : Direction → Bool) (c : ℕ) (whole earlier later : BufferState) → IsBreakable whole → (j : AreFragments false c whole earlier later)
    → IsUnsafeAt c (state_by (marks_placed font components adjust) whole).origins ⊎ ArePlacedApart font components (adjust whole.view.direction) whole.view.direction j.early_name j.late_name earlier.view.items later.view.items earlier.view.positions later.view.positions
placed_apart font components adjust c whole earlier later ready j = by_later later.view.items refl
  where
    first : List Item
    first = map (with_ligature_renamed j.early_name) earlier.view.items

    many : length earlier.origins ≡ length first
    many = j.early_whole.origins ∙ sym (length-map earlier.view.items (with_ligature_renamed j.early_name))

    Apart : List Item → Type 0
    Apart ys = ArePlacedApart font components (adjust whole.view.direction) whole.view.direction j.early_name j.late_name earlier.view.items ys earlier.view.positions later.view.positions

    by_mark : (y : Item) (ys : List Item) → later.view.items ≡ y ∷ ys → (b : Bool) → is_mark y ≡ b → IsUnsafeAt c (state_by (marks_placed font components adjust) whole).origins ⊎ Apart (y ∷ ys)
    by_mark y ys e false h = inr (at_base font components (adjust whole.view.direction) whole.view.direction j.early_name j.late_name earlier.view.items y ys earlier.view.positions later.view.positions j.early_whole.positions h)
    by_mark y ys e true h = elim (last_base first) [
      | inl alone ↦ inr (after_marks font components (adjust whole.view.direction) whole.view.direction j.early_name j.late_name earlier.view.items (y ∷ ys) earlier.view.positions later.view.positions j.early_whole.positions alone)
      | inr base ↦
          inl (across font components adjust c whole earlier later first (map (with_ligature_renamed j.late_name) ys) (with_ligature_renamed j.late_name y) ready j (j.items ∙ ap (λ zs. first ++ map (with_ligature_renamed j.late_name) zs) e) many
          (j.late_whole.origins ∙ ap length e ∙ ap suc (sym (length-map ys (with_ligature_renamed j.late_name)))) h base)
    ]

    by_later : (ys : List Item) → later.view.items ≡ ys → IsUnsafeAt c (state_by (marks_placed font components adjust) whole).origins ⊎ Apart later.view.items
    by_later [] e = absurd (let some = j.late_some in let all = j.late_whole.origins in let none : length later.view.items ≡ 0 = ap length e in omega (arith, some, all, none))
    by_later (y ∷ ys) e = subst (λ zs. IsUnsafeAt c (state_by (marks_placed font components adjust) whole).origins ⊎ Apart zs) (sym e) (by_mark y ys e (is_mark y) refl)

marks_divide : (font : FaceParts) (components : Direction) (adjust : Direction → Bool) → IsFreelyDivisible false false (always (marks_placed font components adjust)) (always (marks_placed font components adjust)) (always (marks_placed font components adjust))
marks_divide font components adjust =
    let f = marks_placed font components adjust in
    let plain = placed_is_plain font components adjust in
    plain_is_divisible false false f f f plain (λ c whole earlier later ready j. beside_divides false false f f f plain c whole earlier later ready j (elim (placed_apart font components adjust c whole earlier later ready j) [
      | inl unsafe ↦ inl unsafe
      | inr apart ↦ inr (placed_beside font components adjust c whole earlier later j apart)
    ]))

pub fallback_marks_divide : FallbackMarksDivide
fallback_marks_divide p = marks_divide p.font (components_direction p.direction (Some p.script)) (adjusts_marks p)
