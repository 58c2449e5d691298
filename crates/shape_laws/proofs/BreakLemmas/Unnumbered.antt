-- Fragments without ligature numbers.
use Rattle.std.proofs.Common.{ℕ, ◌≡◌, ◌+◌, ◌*◌, ◌%◌, ◌≤◌, false, List, [], ◌∷◌, ◌++◌, map, arith, refl, sym, ap, subst, ◌∙◌}
use Rattle.std.proofs.lemmas.Nat.{div-add-mod'}
use Rattle.buffer_glyphs.specs.declared.level.BufferClusterLevel.{BufferClusterLevel}
use Rattle.buffer_glyphs.specs.Events.{Event, Merge, MergeGrapheme, Replace, Circle, Delete, Move, Arrange, Sort, Reverse, Break, Concat, Tatweel, StrictBreak, Spread, Reset}
use Rattle.buffer_glyphs.specs.Items.{Item}
use Rattle.buffer_glyphs.specs.LigatureWords.{lig_id}
use Rattle.buffer_parts.specs.Counts.{count_after, count_after_event}
use Rattle.buffer_core.specs.Readings.{Read, BufferState}
use Rattle.buffer_parts.specs.Breaks.Concat.{without_concats}
use Rattle.buffer_parts.specs.Breaks.Fragments.{AreFragments, AreGiven, with_ligature_renamed}
use Rattle.buffer_parts.specs.Breaks.Beside.{IsReadAlone, IsReadBeside, events_in_line}
use Rattle.buffer_parts.proofs.BreakLemmas.Division.{unnumbered, none_renamed}
use Rattle.shape_laws.specs.Breaks.Texts.{AreUnnumbered}

-- an item without a number stays as it is under each name that leaves 0
same_item : (name : ℕ → ℕ) (x : Item) → name 0 ≡ 0 → lig_id x ≤ 0 → with_ligature_renamed name x ≡ x
same_item name x none given =
    let zero_id : lig_id x ≡ 0 = omega (arith, given) in
    ap (λ (n : ℕ). record x { lig_props = n * 0x2000_0000 + x.lig_props % 0x2000_0000 }) (ap name zero_id ∙ none ∙ sym zero_id) ∙ ap (λ (n : ℕ). record x { lig_props = n }) (div-add-mod' x.lig_props 0x2000_0000)

same_items : (name : ℕ → ℕ) (xs : List Item) → name 0 ≡ 0 → AreGiven 0 xs → map (with_ligature_renamed name) xs ≡ xs
same_items name [] none given = refl
same_items name (x ∷ xs) none given = rw (same_item name x none given.0, same_items name xs none given.1) refl

pub given_early : (c : ℕ) (whole earlier later : BufferState) → AreFragments false c whole earlier later → AreUnnumbered whole.view earlier.view later.view → AreGiven 0 earlier.view.items
given_early c whole earlier later j u = subst (λ (n : ℕ). AreGiven n earlier.view.items) u.early_none j.names.early_given

pub given_late : (c : ℕ) (whole earlier later : BufferState) → AreFragments false c whole earlier later → AreUnnumbered whole.view earlier.view later.view → AreGiven 0 later.view.items
given_late c whole earlier later j u = subst (λ (n : ℕ). AreGiven n later.view.items) u.late_none j.names.late_given

-- the items of such a text are those of its fragments
pub plain_items : (c : ℕ) (whole earlier later : BufferState) → AreFragments false c whole earlier later → AreUnnumbered whole.view earlier.view later.view → whole.view.items ≡ earlier.view.items ++ later.view.items
plain_items c whole earlier later j u =
    j.items ∙ ap (λ zs. zs ++ map (with_ligature_renamed j.late_name) later.view.items) (same_items j.early_name earlier.view.items j.names.early.none (given_early c whole earlier later j u))
    ∙ ap (λ zs. earlier.view.items ++ zs) (same_items j.late_name later.view.items j.names.late.none (given_late c whole earlier later j u))

-- what is read of such a text, and leaves none a number, is what is read of its fragments
pub record ArePlainlyBeside (level : BufferClusterLevel) (m n : ℕ) (r e l : Read) : Type 0 where
  pub numbers : AreUnnumbered r.view e.view l.view
  pub early_given : AreGiven 0 e.view.items
  pub late_given : AreGiven 0 l.view.items
  pub items : r.view.items ≡ e.view.items ++ l.view.items
  pub positions : r.view.positions ≡ e.view.positions ++ l.view.positions
  pub events : without_concats (r.events level) ≡ events_in_line false (without_concats (e.events level)) (without_concats (l.events level)) m
  pub early_direction : e.view.direction ≡ r.view.direction
  pub late_direction : l.view.direction ≡ r.view.direction
  pub early : IsReadAlone level m e
  pub late : IsReadAlone level n l

pub plainly_beside : (level : BufferClusterLevel) (m n : ℕ) (r e l : Read) → ArePlainlyBeside level m n r e l → IsReadBeside false false level m n r e l
plainly_beside level m n r e l p = record {
  early_name = λ k. k;
  late_name = λ k. k;
  names = unnumbered r.view e.view l.view p.numbers.whole_none p.numbers.early_none p.numbers.late_none p.early_given p.late_given;
  items = p.items ∙ ap (λ zs. zs ++ l.view.items) (sym (none_renamed e.view.items)) ∙ ap (λ zs. map (with_ligature_renamed (λ k. k)) e.view.items ++ zs) (sym (none_renamed l.view.items));
  positions = p.positions;
  events = p.events;
  early_direction = p.early_direction;
  late_direction = p.late_direction;
  early = p.early;
  late = p.late;
}

-- ---- events without those that set UNSAFE_TO_CONCAT
