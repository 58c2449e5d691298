-- Stages that change each item by itself are divisible.
use Rattle.std.proofs.Common.{ℕ, ◌≡◌, inr, Bool, true, false, List, [], ◌∷◌, map, arith, refl, ap, sym, subst, ◌∙◌}
use Rattle.std.proofs.lemmas.List.{map-append, length-map}
use Rattle.buffer_glyphs.specs.Items.{Item}
use Rattle.buffer_core.specs.Readings.{Read, always, BufferState, state_after}
use Rattle.buffer_parts.specs.Lemmas.Stages.{same_read}
use Rattle.buffer_stages.specs.Stages.{with_items_mapped}
use Rattle.buffer_parts.specs.Breaks.Unsafe.{IsUnsafeAt}
use Rattle.buffer_parts.specs.Breaks.Fragments.{AreGiven, with_ligature_renamed, as_they_stand, IsWhole, AreFragments}
use Rattle.buffer_parts.specs.Breaks.Divisible.{IsBreakable, IsSpent, OnlySpends, StaysDivided}
use Rattle.layout_laws.specs.Breaks.ItemMaps.{SparesNumbers, ItemMapsAreDivisible}
use Rattle.buffer_parts.proofs.BreakLemmas.Division.{line_mapped}

abbrev mapped_state : (Item → Item) → BufferState → BufferState
mapped_state f s = state_after (with_items_mapped f s.view) s

each_renamed : (f : Item → Item) (name : ℕ → ℕ) (xs : List Item) → SparesNumbers f → map f (map (with_ligature_renamed name) xs) ≡ map (with_ligature_renamed name) (map f xs)
each_renamed f name [] spares = refl
each_renamed f name (x ∷ xs) spares =
    ap (λ (y : Item). y ∷ map f (map (with_ligature_renamed name) xs)) (spares.renamed name x) ∙ ap (λ (ys : List Item). with_ligature_renamed name (f x) ∷ ys) (each_renamed f name xs spares)

each_given : (f : Item → Item) (last : ℕ) (xs : List Item) → SparesNumbers f → AreGiven last xs → AreGiven last (map f xs)
each_given f last [] spares h = tt
each_given f last (x ∷ xs) spares h = (omega (arith, spares.kept x, h.0), each_given f last xs spares h.1)

mapped_whole : (f : Item → Item) (s : BufferState) → IsWhole s → IsWhole (mapped_state f s)
mapped_whole f s w = record { positions = w.positions ∙ sym (length-map s.view.items f); origins = w.origins ∙ sym (length-map s.view.items f) }

mapped_breakable : (f : Item → Item) (s : BufferState) → IsBreakable s → IsBreakable (mapped_state f s)
mapped_breakable f s b = record { breaks = b.breaks; whole = mapped_whole f s b.whole }

mapped_fragments : (f : Item → Item) → SparesNumbers f → (falls : Bool) (c : ℕ) (whole earlier later : BufferState) → AreFragments falls c whole earlier later → AreFragments falls c (mapped_state f whole) (mapped_state f earlier) (mapped_state f later)
mapped_fragments f spares falls c whole earlier later j =
    let g = j.early_name in
    let h = j.late_name in
    let xs = earlier.view.items in
    let ys = later.view.items in
    record {
      early_name = g;
      late_name = h;
      names = record {
        early = j.names.early;
        late = j.names.late;
        apart = j.names.apart;
        early_given = each_given f earlier.view.lig_id xs spares j.names.early_given;
        late_given = each_given f later.view.lig_id ys spares j.names.late_given;
      };
      items = ap (map f) j.items ∙ line_mapped falls f (map (with_ligature_renamed g) xs) (map (with_ligature_renamed h) ys)
          ∙ ap (λ (zs : List Item). as_they_stand falls zs (map f (map (with_ligature_renamed h) ys))) (each_renamed f g xs spares)
          ∙ ap (λ (zs : List Item). as_they_stand falls (map (with_ligature_renamed g) (map f xs)) zs) (each_renamed f h ys spares);
      positions = j.positions;
      origins = j.origins;
      below = j.below;
      above = j.above;
      early_some = j.early_some;
      late_some = j.late_some;
      early_whole = mapped_whole f earlier j.early_whole;
      late_whole = mapped_whole f later j.late_whole;
      early_of = record { direction = j.early_of.direction; level = j.early_of.level; requests = j.early_of.requests };
      late_of = record { direction = j.late_of.direction; level = j.late_of.level; requests = j.late_of.requests };
    }

map_spends : (f : Item → Item) → OnlySpends (always (with_items_mapped f))
map_spends f level v r e = subst (IsSpent level v) (same_read (with_items_mapped f v) r e) (record { budget = λ h. h; numbers = λ few. omega arith })

pub item_maps_are_divisible : ItemMapsAreDivisible
item_maps_are_divisible falls f spares = record {
  divides = λ c whole earlier later r e l ready fragments is_r is_e is_l spared_r spared_e spared_l.
      let sr = ap (λ (x : Read). state_after x whole) (same_read (with_items_mapped f whole.view) r is_r) in
      let se = ap (λ (x : Read). state_after x earlier) (same_read (with_items_mapped f earlier.view) e is_e) in
      let sl = ap (λ (x : Read). state_after x later) (same_read (with_items_mapped f later.view) l is_l) in
      subst (λ (x : BufferState). StaysDivided falls c x (state_after e earlier) (state_after l later)) sr
      (subst (λ (x : BufferState). StaysDivided falls c (mapped_state f whole) x (state_after l later)) se
      (subst (λ (x : BufferState). StaysDivided falls c (mapped_state f whole) (mapped_state f earlier) x) sl (inr (mapped_fragments f spares falls c whole earlier later fragments))));
  breakable = λ s r is b. subst (λ (x : Read). IsBreakable (state_after x s)) (same_read (with_items_mapped f s.view) r is) (mapped_breakable f s b);
  unsafe = λ s r c is b u. subst (λ (x : Read). IsUnsafeAt c (state_after x s).origins) (same_read (with_items_mapped f s.view) r is) u;
  spends = map_spends f;
  early_spends = map_spends f;
  late_spends = map_spends f;
}
