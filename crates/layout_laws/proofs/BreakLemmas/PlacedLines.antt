-- A rule of positioning that is local or idle, over a text that stands as its fragments, one after the other on the line.
use Rattle.std.proofs.Common.{ℕ, ◌≡◌, ◌≤◌, ◌-◌, ◌==◌, ◌&&◌, ◌⊎◌, inl, inr, Bool, true, false, not, nat_lt, List, [], ◌∷◌, Option, Some, None, Ok, length, map, reverse, arith, refl, ap, sym, subst, ◌∙◌}
use Rattle.std.proofs.lemmas.List.{length-map}
use Rattle.buffer_glyphs.specs.declared.level.BufferClusterLevel.{BufferClusterLevel}
use Rattle.buffer_glyphs.specs.Items.{Item, Position}
use Rattle.buffer_glyphs.specs.LigatureWords.{is_mark, is_multiplied, lig_comp, lig_id}
use Rattle.buffer_glyphs.specs.Parts.{first_of}
use Rattle.buffer_core.specs.Readings.{View, Read, BufferState, state_after}
use Rattle.buffer_stages.specs.Actions.{Cut, whole, view_at, Action}
use Rattle.buffer_parts.specs.Breaks.Unsafe.{IsUnsafeAt}
use Rattle.buffer_parts.specs.Breaks.Fragments.{with_ligature_renamed, IsNaming, AreGiven}
use Rattle.buffer_parts.specs.Breaks.Divisible.{IsSpared}
use Rattle.buffer_parts.specs.Breaks.Beside.{IsReadBeside}
use Rattle.layout_positioning.specs.Lookups.{positioning_pass}
use Rattle.layout_laws.specs.Breaks.Frames.{Outside, Inside, named_items, IsFramed}
use Rattle.layout_laws.specs.Breaks.Local.{IsLocalOrIdle, IsSteady}
use Rattle.layout_laws.specs.Breaks.Positioned.{LeadInside, continues, AreApart, ArePlaced}
use Rattle.layout_laws.proofs.BreakLemmas.PassWalks.{IsEnough}
use Rattle.layout_laws.proofs.BreakLemmas.Frames.{given_both, reverse_named as reverse_mapped}
use Rattle.layout_laws.proofs.BreakLemmas.Words.{number_named, component_named}
use Rattle.layout_laws.proofs.BreakLemmas.Singles.{same_test}
use Rattle.layout_laws.proofs.BreakLemmas.Placed.{placed_of_whole}
use Rattle.layout_laws.proofs.BreakLemmas.Marks.{given_reverse as given_reversed}
use Rattle.layout_laws.proofs.BreakLemmas.Ways.{beside, start, its_positions, forward_way}
use Rattle.layout_laws.proofs.BreakLemmas.Lines.{IsReadOf, IsLine, line_reads}
use Rattle.layout_laws.proofs.BreakLemmas.Standing.{line_beside}
use Rattle.buffer_facts.proofs.Numbers.{same_by_test as equal_numbers}

-- ---- the seam under other names

-- whether an item continues the one before it, where that has another name
continues_named : (name : ℕ → ℕ) (last given : ℕ) → IsNaming name last given → (y x : Item) → lig_id y ≤ last → continues (with_ligature_renamed name y) x ≡ continues y x
continues_named name last given names y x le =
    let z = with_ligature_renamed name y in
    ap (λ (n : ℕ). lig_id x == 0 && (is_multiplied x && is_multiplied y && not (is_mark y) && lig_id x == n && nat_lt 0 (lig_comp x) && lig_comp z == lig_comp x - 1)) (number_named name y)
    ∙ ap (λ (n : ℕ). lig_id x == 0 && (is_multiplied x && is_multiplied y && not (is_mark y) && lig_id x == name (lig_id y) && nat_lt 0 (lig_comp x) && n == lig_comp x - 1)) (component_named name y) ∙ by_number (lig_id x == 0) refl
  where
    by_number : (t : Bool) → (lig_id x == 0) ≡ t → (t && (is_multiplied x && is_multiplied y && not (is_mark y) && lig_id x == name (lig_id y) && nat_lt 0 (lig_comp x) && lig_comp y == lig_comp x - 1))
        ≡ (t && (is_multiplied x && is_multiplied y && not (is_mark y) && lig_id x == lig_id y && nat_lt 0 (lig_comp x) && lig_comp y == lig_comp x - 1))
    by_number true e =
        let none : lig_id x ≡ 0 = equal_numbers (lig_id x) 0 e in
        let same : (lig_id x == name (lig_id y)) ≡ (lig_id x == lig_id y) =
        same_test (lig_id x) (name (lig_id y)) (lig_id x) (lig_id y) (λ f. none ∙ names.apart 0 (lig_id y) (omega arith) le (names.none ∙ sym none ∙ f)) (λ f. none ∙ sym names.none ∙ ap name (sym none ∙ f)) in
        ap (λ (b : Bool). is_multiplied x && is_multiplied y && not (is_mark y) && b && nat_lt 0 (lig_comp x) && lig_comp y == lig_comp x - 1) same
    by_number false e = refl

apart_first : (name : ℕ → ℕ) (last given : ℕ) → IsNaming name last given → (ys : List Item) (next : Option Item) → AreGiven last ys → AreApart (first_of ys) next → AreApart (first_of (map (with_ligature_renamed name) ys)) next
apart_first name last given names [] next h k = tt
apart_first name last given names (y ∷ ys) None h k = tt
apart_first name last given names (y ∷ ys) (Some x) h k = continues_named name last given names y x h.0 ∙ k

apart_named : (name : ℕ → ℕ) (last given : ℕ) → IsNaming name last given → (xs : List Item) (next : Option Item) → AreGiven last xs → AreApart (first_of (reverse xs)) next → AreApart (first_of (reverse (map (with_ligature_renamed name) xs))) next
apart_named name last given names xs next h k =
    subst (λ (ys : List Item). AreApart (first_of ys) next) (sym (reverse_mapped (with_ligature_renamed name) xs)) (apart_first name last given names (reverse xs) next (given_reversed last xs h) k)

-- ---- a line

-- links lead inside each of two fragments, and the first item of the second is no later component
pub record IsPlacedLine (first second : View) : Type 0 where
  pub first_links : LeadInside first.positions
  pub second_links : LeadInside second.positions
  pub seam : AreApart (first_of (reverse first.items)) (first_of second.items)

second_placed : (first second : View) (e : Read) (o : Outside) (s : Inside) (end : Cut) → IsPlacedLine first second → length second.positions ≡ length second.items → e.view.items ≡ first.items → IsFramed o s end → ArePlaced o end → e.view ≡ view_at first end
    → ArePlaced (beside true (named_items s (whole end)) end.positions) (start its_positions second)
second_placed first second e o s end q filled stays f k view =
    let same : first.items ≡ whole end = sym stays ∙ ap (λ (v : View). v.items) view in
    record {
      left = k.positions ∙ sym (length-map (whole end) (with_ligature_renamed s.name));
      positions = filled;
      links = q.second_links;
      apart = apart_named s.name end.lig_id s.lig_id f.names (whole end) (first_of second.items) (given_both end.lig_id end.front end.rest f.front f.rest) (subst (λ (xs : List Item). AreApart (first_of (reverse xs)) (first_of second.items)) same q.seam);
    }

read_filled : (level : BufferClusterLevel) (n : ℕ) (r : Read) → IsReadOf ArePlaced level n r → length r.view.positions ≡ length r.view.items
read_filled level n r k = ap (λ (ps : List Position). length ps) k.positions ∙ k.placed.positions ∙ ap (λ (xs : List Item). length xs) (sym k.items)

enough_spared : (level : BufferClusterLevel) (v : View) (r : Read) → IsSpared level v r → IsEnough level v.lig_id r
enough_spared level v r h = record { budget = h.budget; numbers = h.numbers }

pub placed_line_reads : (act : Action) → IsLocalOrIdle ArePlaced act → IsSteady act → (c : ℕ) (text first second : BufferState) (r e l : Read) → IsLine false its_positions c text first second (r.events text.level) → IsPlacedLine first.view second.view
    → positioning_pass act text.view ≡ Ok r → positioning_pass act first.view ≡ Ok e → positioning_pass act second.view ≡ Ok l → e.view.items ≡ first.view.items → l.view.items ≡ second.view.items → IsSpared text.level text.view r → IsSpared text.level first.view e → IsSpared text.level second.view l
    → IsUnsafeAt c (state_after r text).origins ⊎ (IsReadBeside false false text.level (length first.origins) (length second.origins) r e l × IsPlacedLine e.view l.view)
placed_line_reads act local steady c text first second r e l is q is_r is_e is_l first_stays second_stays ar ae al =
    let level = text.level in
    let m = length first.origins in
    let n = length second.origins in
    elim (line_reads false ArePlaced its_positions c text first second (forward_way ArePlaced act its_positions level text.view placed_of_whole local steady) r e l is
    (record { left = refl; positions = is.first_whole.positions; links = q.first_links; apart = tt }) (λ s end f k v. second_placed first.view second.view e (beside false (map (with_ligature_renamed is.second_name) second.view.items) second.view.positions) s end q is.second_whole.positions first_stays f k v)
    (is_r, enough_spared level text.view r ar) (is_e, enough_spared level first.view e ae) (is_l, enough_spared level second.view l al)) [
      | inl unsafe ↦ inl unsafe
      | inr read ↦ inr (
        line_beside false ArePlaced level m n r e l read (read_filled level m e read.first) (read_filled level n l read.second),
        record {
          first_links = subst LeadInside (sym read.first.positions) read.first.placed.links;
          second_links = subst LeadInside (sym read.second.positions) read.second.placed.links;
          seam = subst (λ (xs : List Item). AreApart (first_of (reverse xs)) (first_of l.view.items)) (sym first_stays) (subst (λ (xs : List Item). AreApart (first_of (reverse first.view.items)) (first_of xs)) (sym second_stays) q.seam);
        },
      )
    ]
