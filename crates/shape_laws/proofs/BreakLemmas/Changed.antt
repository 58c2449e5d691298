-- Fragments of a text whose items and positions change without events.
use Rattle.std.proofs.Common.{ℕ, suc, ◌≡◌, inr, Bool, true, false, List, [], ◌∷◌, ◌++◌, Ok, length, map, arith, refl, sym, ap, subst, ◌∙◌}
use Rattle.std.proofs.lemmas.List.{length-map, map-append}
use Rattle.buffer_common.specs.declared.direction.Direction.{Direction}
use Rattle.buffer_glyphs.specs.Items.{Item, Position}
use Rattle.buffer_core.specs.Readings.{View, Read, BufferState, always, state_after, with_events}
use Rattle.buffer_parts.specs.Lemmas.Stages.{same_read}
use Rattle.buffer_stages.specs.PositionMaps.{positions_mapped}
use Rattle.buffer_parts.specs.Breaks.Unsafe.{IsUnsafeAt}
use Rattle.buffer_parts.specs.Breaks.Fragments.{AreFragments, AreGiven, IsNaming, IsWhole, as_they_stand, with_ligature_renamed}
use Rattle.buffer_parts.specs.Breaks.Divisible.{IsBreakable, IsFreelyDivisible}
use Rattle.shape_laws.proofs.BreakLemmas.Changes.{IgnoresLigatures, RenamesAlike}
use Rattle.buffer_parts.proofs.BreakLemmas.Division.{line_mapped}

-- ---- views that change without events

-- a state with another view
abbrev pub with_view : View → BufferState → BufferState
with_view v s = record s { view = v }

-- a view keeps its direction, its last ligature number and its counts
pub record IsLikeView (old new : View) : Type 0 where
  pub direction : new.direction ≡ old.direction
  pub lig_id : new.lig_id ≡ old.lig_id
  pub items : length new.items ≡ length old.items
  pub positions : length new.positions ≡ length old.positions

pub like_whole : (s : BufferState) (v : View) → IsLikeView s.view v → IsWhole s → IsWhole (with_view v s)
like_whole s v same w = record { positions = same.positions ∙ w.positions ∙ sym same.items; origins = w.origins ∙ sym same.items }

naming_alike : (name : ℕ → ℕ) (last last' given given' : ℕ) → last' ≡ last → given' ≡ given → IsNaming name last given → IsNaming name last' given'
naming_alike name last last' given given' e f h = subst (λ (n : ℕ). IsNaming name n given') (sym e) (subst (IsNaming name last) (sym f) h)

pub changed_fragments : (falls : Bool) (c : ℕ) (whole earlier later : BufferState) (vw ve vl : View) (j : AreFragments falls c whole earlier later) → IsLikeView whole.view vw → IsLikeView earlier.view ve → IsLikeView later.view vl
    → AreGiven earlier.view.lig_id ve.items → AreGiven later.view.lig_id vl.items
    → vw.items ≡ as_they_stand falls (map (with_ligature_renamed j.early_name) ve.items) (map (with_ligature_renamed j.late_name) vl.items) → vw.positions ≡ as_they_stand falls ve.positions vl.positions
    → AreFragments falls c (with_view vw whole) (with_view ve earlier) (with_view vl later)
changed_fragments falls c whole earlier later vw ve vl j w e l early late items positions =
    let en = e.lig_id in
    let ln = l.lig_id in
    record {
      early_name = j.early_name;
      late_name = j.late_name;
      names = record {
        early = naming_alike j.early_name earlier.view.lig_id ve.lig_id whole.view.lig_id vw.lig_id en w.lig_id j.names.early;
        late = naming_alike j.late_name later.view.lig_id vl.lig_id whole.view.lig_id vw.lig_id ln w.lig_id j.names.late;
        apart = λ m n p q same. j.names.apart m n (omega (arith, p, en)) (omega (arith, q, ln)) same;
        early_given = subst (λ (n : ℕ). AreGiven n ve.items) (sym en) early;
        late_given = subst (λ (n : ℕ). AreGiven n vl.items) (sym ln) late;
      };
      items = items;
      positions = positions;
      origins = j.origins;
      below = j.below;
      above = j.above;
      early_some = j.early_some;
      late_some = j.late_some;
      early_whole = like_whole earlier ve e j.early_whole;
      late_whole = like_whole later vl l j.late_whole;
      early_of = record { direction = e.direction ∙ j.early_of.direction ∙ sym w.direction; level = j.early_of.level; requests = j.early_of.requests };
      late_of = record { direction = l.direction ∙ j.late_of.direction ∙ sym w.direction; level = j.late_of.level; requests = j.late_of.requests };
    }

-- ---- stages without events

-- what a change does to views, and that it does to the fragments of a text what it does to the text
pub record ChangesApart (falls : Bool) (g g1 g2 : View → View) : Type 0 where
  pub like : (v : View) → length v.positions ≡ length v.items → IsLikeView v (g v)
  pub apart : (c : ℕ) (whole earlier later : BufferState) → IsWhole whole → AreFragments falls c whole earlier later → AreFragments falls c (with_view (g whole.view) whole) (with_view (g1 earlier.view) earlier) (with_view (g2 later.view) later)

abbrev pub eventless : (View → View) → View → Read
eventless g v = with_events [] (g v)

changed_read : (g : View → View) (s : BufferState) (r : Read) → always (eventless g) s.view ≡ Ok r → with_view (g s.view) s ≡ state_after r s
changed_read g s r is = ap (λ (x : Read). state_after x s) (same_read (eventless g s.view) r is)

pub eventless_is_divisible : (falls : Bool) (g g1 g2 : View → View) → ChangesApart falls g g1 g2 → IsFreelyDivisible falls falls (always (eventless g)) (always (eventless g1)) (always (eventless g2))
eventless_is_divisible falls g g1 g2 h = record {
  divides = λ c whole earlier later r e l ready fragments is_r is_e is_l.
      inr (subst (λ (x : BufferState). AreFragments falls c x (state_after e earlier) (state_after l later)) (changed_read g whole r is_r)
      (subst (λ (x : BufferState). AreFragments falls c (with_view (g whole.view) whole) x (state_after l later)) (changed_read g1 earlier e is_e)
      (subst (λ (x : BufferState). AreFragments falls c (with_view (g whole.view) whole) (with_view (g1 earlier.view) earlier) x) (changed_read g2 later l is_l) (h.apart c whole earlier later ready.whole fragments))));
  breakable = λ s r is b. subst IsBreakable (changed_read g s r is)
      (record { breaks = record { requested = b.breaks.requested; monotone = b.breaks.monotone; ordered = b.breaks.ordered }; whole = like_whole s (g s.view) (h.like s.view b.whole.positions) b.whole });
  unsafe = λ s r c is b u. subst (λ (x : BufferState). IsUnsafeAt c x.origins) (changed_read g s r is) u;
}

-- ---- positions, each by its item

pub mapped_many : (k : Item → Position → Position) (xs : List Item) (ps : List Position) → length ps ≡ length xs → length (positions_mapped k xs ps) ≡ length ps
mapped_many k [] ps e = omega (arith, e)
mapped_many k (x ∷ xs) [] e = refl
mapped_many k (x ∷ xs) (p ∷ ps) e = ap suc (mapped_many k xs ps (omega (arith, e)))

mapped_both : (k : Item → Position → Position) (xs ys : List Item) (ps qs : List Position) → length ps ≡ length xs → positions_mapped k (xs ++ ys) (ps ++ qs) ≡ positions_mapped k xs ps ++ positions_mapped k ys qs
mapped_both k [] ys [] qs e = refl
mapped_both k [] ys (p ∷ ps) qs e = absurd (omega (arith, e))
mapped_both k (x ∷ xs) ys [] qs e = absurd (omega (arith, e))
mapped_both k (x ∷ xs) ys (p ∷ ps) qs e = ap (λ (zs : List Position). k x p ∷ zs) (mapped_both k xs ys ps qs (omega (arith, e)))

mapped_renamed : (k : Item → Position → Position) → IgnoresLigatures k → (f : ℕ → ℕ) (xs : List Item) (ps : List Position) → positions_mapped k (map (with_ligature_renamed f) xs) ps ≡ positions_mapped k xs ps
mapped_renamed k none f [] ps = refl
mapped_renamed k none f (x ∷ xs) [] = refl
mapped_renamed k none f (x ∷ xs) (p ∷ ps) = rw (none (with_ligature_renamed f x).lig_props x p, mapped_renamed k none f xs ps) refl

pub line_positions : (falls : Bool) (k : Item → Position → Position) → IgnoresLigatures k → (f g : ℕ → ℕ) (xs ys : List Item) (ps qs : List Position) → length ps ≡ length xs → length qs ≡ length ys
    → positions_mapped k (as_they_stand falls (map (with_ligature_renamed f) xs) (map (with_ligature_renamed g) ys)) (as_they_stand falls ps qs) ≡ as_they_stand falls (positions_mapped k xs ps) (positions_mapped k ys qs)
line_positions false k none f g xs ys ps qs e h =
    mapped_both k (map (with_ligature_renamed f) xs) (map (with_ligature_renamed g) ys) ps qs (e ∙ sym (length-map xs (with_ligature_renamed f)))
    ∙ ap (λ zs. zs ++ positions_mapped k (map (with_ligature_renamed g) ys) qs) (mapped_renamed k none f xs ps) ∙ ap (λ zs. positions_mapped k xs ps ++ zs) (mapped_renamed k none g ys qs)
line_positions true k none f g xs ys ps qs e h =
    mapped_both k (map (with_ligature_renamed g) ys) (map (with_ligature_renamed f) xs) qs ps (h ∙ sym (length-map ys (with_ligature_renamed g)))
    ∙ ap (λ zs. zs ++ positions_mapped k (map (with_ligature_renamed f) xs) ps) (mapped_renamed k none g ys qs) ∙ ap (λ zs. positions_mapped k ys qs ++ zs) (mapped_renamed k none f xs ps)

-- a view with its positions changed by its items, as its direction says
abbrev pub positions_changed : (Direction → Item → Position → Position) → View → View
positions_changed k v = record v { positions = positions_mapped (k v.direction) v.items v.positions }

positions_like : (k : Direction → Item → Position → Position) (v : View) → length v.positions ≡ length v.items → IsLikeView v (positions_changed k v)
positions_like k v e = record { direction = refl; lig_id = refl; items = refl; positions = mapped_many (k v.direction) v.items v.positions e }

pub positions_apart : (falls : Bool) (k : Direction → Item → Position → Position) → ((d : Direction) → IgnoresLigatures (k d)) → ChangesApart falls (positions_changed k) (positions_changed k) (positions_changed k)
positions_apart falls k none = record {
  like = positions_like k;
  apart = λ c whole earlier later w j.
      let d = whole.view.direction in
      let xs = earlier.view.items in
      let ys = later.view.items in
      let ps = earlier.view.positions in
      let qs = later.view.positions in
      changed_fragments falls c whole earlier later (positions_changed k whole.view) (positions_changed k earlier.view) (positions_changed k later.view) j (positions_like k whole.view w.positions) (positions_like k earlier.view j.early_whole.positions)
      (positions_like k later.view j.late_whole.positions) j.names.early_given j.names.late_given j.items
      (ap (λ (zs : List Item). positions_mapped (k d) zs whole.view.positions) j.items
      ∙ ap (positions_mapped (k d) (as_they_stand falls (map (with_ligature_renamed j.early_name) xs) (map (with_ligature_renamed j.late_name) ys))) j.positions
      ∙ line_positions falls (k d) (none d) j.early_name j.late_name xs ys ps qs j.early_whole.positions j.late_whole.positions
      ∙ ap (λ (b : Direction). as_they_stand falls (positions_mapped (k b) xs ps) (positions_mapped (k d) ys qs)) (sym j.early_of.direction)
      ∙ ap (λ (b : Direction). as_they_stand falls (positions_mapped (k earlier.view.direction) xs ps) (positions_mapped (k b) ys qs)) (sym j.late_of.direction));
}

-- ---- items, each by itself, under every name of its ligature

each_renamed : (f : Item → Item) → RenamesAlike f → (g : ℕ → ℕ) (xs : List Item) → g 0 ≡ 0 → map f (map (with_ligature_renamed g) xs) ≡ map (with_ligature_renamed g) (map f xs)
each_renamed f h g [] none = refl
each_renamed f h g (x ∷ xs) none = rw (h.renamed g x none, each_renamed f h g xs none) refl

each_given : (f : Item → Item) → RenamesAlike f → (last : ℕ) (xs : List Item) → AreGiven last xs → AreGiven last (map f xs)
each_given f h last [] g = tt
each_given f h last (x ∷ xs) g = (h.given last x g.0, each_given f h last xs g.1)

pub line_items : (falls : Bool) (f : Item → Item) → RenamesAlike f → (g h : ℕ → ℕ) (xs ys : List Item) → g 0 ≡ 0 → h 0 ≡ 0
    → map f (as_they_stand falls (map (with_ligature_renamed g) xs) (map (with_ligature_renamed h) ys)) ≡ as_they_stand falls (map (with_ligature_renamed g) (map f xs)) (map (with_ligature_renamed h) (map f ys))
line_items falls f spares g h xs ys p q =
    line_mapped falls f (map (with_ligature_renamed g) xs) (map (with_ligature_renamed h) ys)
    ∙ ap (λ (zs : List Item). as_they_stand falls zs (map f (map (with_ligature_renamed h) ys))) (each_renamed f spares g xs p)
    ∙ ap (λ (zs : List Item). as_they_stand falls (map (with_ligature_renamed g) (map f xs)) zs) (each_renamed f spares h ys q)

-- a view with its items changed each by itself
abbrev pub items_changed : (Item → Item) → View → View
items_changed f v = record v { items = map f v.items }

items_like : (f : Item → Item) (v : View) → IsLikeView v (items_changed f v)
items_like f v = record { direction = refl; lig_id = refl; items = length-map v.items f; positions = refl }

pub items_apart : (falls : Bool) (f : Item → Item) → RenamesAlike f → ChangesApart falls (items_changed f) (items_changed f) (items_changed f)
items_apart falls f h = record {
  like = λ v e. items_like f v;
  apart = λ c whole earlier later w j.
      let xs = earlier.view.items in
      let ys = later.view.items in
      changed_fragments falls c whole earlier later (items_changed f whole.view) (items_changed f earlier.view) (items_changed f later.view) j (items_like f whole.view) (items_like f earlier.view) (items_like f later.view)
      (each_given f h earlier.view.lig_id xs j.names.early_given) (each_given f h later.view.lig_id ys j.names.late_given)
      (ap (map f) j.items ∙ line_items falls f h j.early_name j.late_name xs ys j.names.early.none j.names.late.none) j.positions;
}

-- two changes, one after the other
pub apart_in_turn : (falls : Bool) (f f1 f2 g g1 g2 : View → View) → ChangesApart falls f f1 f2 → ChangesApart falls g g1 g2 → ChangesApart falls (λ v. g (f v)) (λ v. g1 (f1 v)) (λ v. g2 (f2 v))
apart_in_turn falls f f1 f2 g g1 g2 p q = record {
  like = λ v e.
      let one = p.like v e in
      let two = q.like (f v) (one.positions ∙ e ∙ sym one.items) in
      record { direction = two.direction ∙ one.direction; lig_id = two.lig_id ∙ one.lig_id; items = two.items ∙ one.items; positions = two.positions ∙ one.positions };
  apart = λ c whole earlier later w j.
      q.apart c (with_view (f whole.view) whole) (with_view (f1 earlier.view) earlier) (with_view (f2 later.view) later) (like_whole whole (f whole.view) (p.like whole.view w.positions) w) (p.apart c whole earlier later w j);
}
