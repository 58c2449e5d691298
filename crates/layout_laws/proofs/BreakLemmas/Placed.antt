-- Rules that change positions of a fragment, in the text and alone.
use Rattle.std.proofs.Common.{ℕ, zero, suc, ◌≡◌, ◌≤◌, ◌<◌, ◌+◌, ◌-◌, ◌&&◌, inl, inr, nat_le, List, [], ◌∷◌, ◌++◌, length, map, take, drop, set, reverse, Some, arith, refl, ap, sym, subst, ◌∙◌, append_assoc}
use Rattle.std.specs.Prelude.{slice_get}
use Rattle.std.proofs.lemmas.Bool.{cases_eq}
use Rattle.std.proofs.lemmas.Int.{ints}
use Rattle.std.proofs.lemmas.List.{length-append, length-map, length-set, take-append-drop, take-map, drop-map, take-append-le, drop-append-le, get_or-append-add, get_or_append_left, get_or-set_same, get_or-set_other, set-append_left, set-append_right}
use Rattle.buffer_glyphs.specs.Items.{Item, Position, zero_position}
use Rattle.buffer_glyphs.specs.Events.{Event}
use Rattle.buffer_glyphs.specs.Parts.{first_of}
use Rattle.buffer_glyphs.specs.Rewriting.{shifted_event}
use Rattle.buffer_stages.specs.Actions.{Cut, whole, Acts}
use Rattle.layout_offsets.specs.Links.{position_at, is_near, link_to}
use Rattle.layout_gpos.specs.Moving.{cut_with_positions}
use Rattle.buffer_parts.specs.Breaks.Concat.{without_concats}
use Rattle.buffer_parts.specs.Breaks.Sides.{AreBounded}
use Rattle.buffer_parts.specs.Breaks.Fragments.{with_ligature_renamed}
use Rattle.layout_laws.specs.Breaks.Frames.{Outside, Inside, named_items, framed_cut, IsFramed}
use Rattle.layout_laws.specs.Breaks.Local.{IsBeside, IsOfWhole}
use Rattle.layout_laws.specs.Breaks.Positioned.{LeadsInside, LeadInside, AreApart, ArePlaced, around}
use Rattle.layout_laws.proofs.BreakLemmas.Frames.{front_joined, given_both, still_framed}
use Rattle.layout_gpos.proofs.Lemmas.Left.{past_left as items_stay}
use Rattle.buffer_parts.proofs.BreakLemmas.Division.{given_take, given_drop}

-- ---- positions of a fragment, in the text

pub at_around : (o : Outside) (ps : List Position) (n i : ℕ) → length o.left ≡ n → i < length ps → position_at (n + i) (around o ps) ≡ position_at i ps
at_around o ps n i e lt =
    subst (λ (k : ℕ). position_at (k + i) (around o ps) ≡ position_at i ps) e (get_or_append_left (o.left ++ ps) o.right zero_position (length o.left + i) (omega (arith, lt, length-append o.left ps)) ∙ get_or-append-add o.left ps i zero_position)

pub set_around : (o : Outside) (ps : List Position) (n i : ℕ) (p : Position) → length o.left ≡ n → i < length ps → set (around o ps) (n + i) p ≡ around o (set ps i p)
set_around o ps n i p e lt =
    let same : n + i - n ≡ i = omega arith in
    set-append_left (o.left ++ ps) o.right (n + i) p (omega (arith, e, lt, length-append o.left ps)) ∙ ap (λ (qs : List Position). qs ++ o.right) (set-append_right o.left ps n (n + i) p e (omega arith) ∙ ap (λ (k : ℕ). o.left ++ set ps k p) same)

-- a position changed by a function of it
pub change_around : (o : Outside) (f : Position → Position) (ps : List Position) (n i : ℕ) → length o.left ≡ n → i < length ps → set (around o ps) (n + i) (f (position_at (n + i) (around o ps))) ≡ around o (set ps i (f (position_at i ps)))
change_around o f ps n i e lt = ap (λ (p : Position). set (around o ps) (n + i) (f p)) (at_around o ps n i e lt) ∙ set_around o ps n i (f (position_at i ps)) e lt

-- ---- links

pub near_farther : (n i j : ℕ) → is_near (n + i) (n + j) ≡ is_near i j
near_farther n i j =
    let up : n + i - (n + j) ≡ i - j = omega arith in
    let down : n + j - (n + i) ≡ j - i = omega arith in
    ap (λ (k : ℕ). nat_le k 32767 && nat_le (n + j - (n + i)) 32767) up ∙ ap (λ (k : ℕ). nat_le (i - j) 32767 && nat_le k 32767) down

pub link_farther : (n i j : ℕ) → link_to (n + i) (n + j) ≡ link_to i j
link_farther n i j = omega (arith, ints)

-- links lead inside where one more does
pub leads_set : (ps : List Position) (i : ℕ) (p : Position) → LeadInside ps → LeadsInside (length ps) i p.attach_chain → LeadInside (set ps i p)
leads_set ps i p h k j lt =
    subst (λ (n : ℕ). LeadsInside n j (position_at j (set ps i p)).attach_chain) (sym (length-set ps i p)) (elim (cases_eq j i) [
      | inl same ↦
          subst (λ (m : ℕ). LeadsInside (length ps) m (position_at m (set ps i p)).attach_chain) (sym same)
          (subst (λ (q : Position). LeadsInside (length ps) i q.attach_chain) (sym (get_or-set_same ps i p zero_position (omega (arith, lt, same, length-set ps i p)))) k)
      | inr other ↦ subst (λ (q : Position). LeadsInside (length ps) j q.attach_chain) (sym (get_or-set_other ps i j p zero_position other)) (h j (omega (arith, lt, length-set ps i p)))
    ])

-- ---- cuts

pub placed_of_whole : IsOfWhole ArePlaced
placed_of_whole o c d items positions h = record {
  left = h.left;
  positions = ap (λ (ps : List Position). length ps) positions ∙ h.positions ∙ ap (λ (xs : List Item). length xs) (sym items);
  links = subst LeadInside (sym positions) h.links;
  apart = subst (λ (xs : List Item). AreApart (first_of (reverse o.before)) (first_of xs)) (sym items) h.apart;
}

-- a rule that moves over n items, and changes positions in the text as it does alone, with the same events
pub acted_beside : (o : Outside) (s : Inside) (c : Cut) (n : ℕ) (theirs ours : List Position) (f g : ℕ) (es fs : List Event) → IsFramed o s c → ArePlaced o c → 0 < length c.rest → n ≤ length c.rest → length ours ≡ length c.positions → LeadInside ours
    → theirs ≡ around o ours → without_concats es ≡ map (shifted_event (length o.before)) (without_concats fs) → AreBounded (without_concats fs) (length (whole c))
    → IsBeside ArePlaced o s c (Acts (record (cut_with_positions n theirs (framed_cut o s c)) { scratch_flags = f }) es) (Acts (record (cut_with_positions n ours c) { scratch_flags = g }) fs)
acted_beside o s c n theirs ours f g es fs h k some le same_long links same events bounded = λ a b.
    let t : Inside = record s { scratch_flags = f } in
    let d : Cut = record (cut_with_positions n ours c) { scratch_flags = g } in
    let w : Cut = record (cut_with_positions n theirs (framed_cut o s c)) { scratch_flags = f } in
    let r : Item → Item = with_ligature_renamed s.name in
    let short : n ≤ length (map r c.rest) = omega (arith, le, length-map c.rest r) in
    let long : length (whole d) ≡ length (whole c) = ap (λ (xs : List Item). length xs) (items_stay n c) in
    let before : List Item = o.before ++ named_items s (c.front ++ take n c.rest) in
    let front : (o.before ++ named_items s c.front) ++ take n (named_items s c.rest ++ o.after) ≡ before =
    ap (λ (xs : List Item). (o.before ++ named_items s c.front) ++ xs) (take-append-le n (named_items s c.rest) o.after short ∙ take-map r n c.rest) ∙ front_joined o s c.front (take n c.rest) in
    let rest : drop n (named_items s c.rest ++ o.after) ≡ named_items s (drop n c.rest) ++ o.after = drop-append-le n (named_items s c.rest) o.after short ∙ ap (λ (xs : List Item). xs ++ o.after) (drop-map r n c.rest) in
    let now : IsFramed o t c = record { names = h.names; front = h.front; rest = h.rest; before = h.before; after = h.after; foreign_before = h.foreign_before; foreign_after = h.foreign_after; some = h.some } in
    inr (record {
      inside = t;
      cut_is = ap (λ (xs : List Item). record w { front = xs }) front ∙ ap (λ (xs : List Item). record w { front = before; rest = xs }) rest ∙ ap (λ (ps : List Position). record w { front = before; rest = named_items s (drop n c.rest) ++ o.after; positions = ps }) same;
      frames = still_framed o t c d refl (given_both c.lig_id c.front (take n c.rest) h.front (given_take c.lig_id n c.rest h.rest)) (given_drop c.lig_id n c.rest h.rest) now;
      extended = record { up = omega arith; names = λ m le. inl (le, refl) };
      some = omega (arith, long, some, length-append c.front c.rest);
      reach = λ there. omega (arith, long, some, length-append c.front c.rest);
      placed = record {
        left = k.left;
        positions = same_long ∙ k.positions ∙ sym long;
        links = links;
        apart = subst (λ (xs : List Item). AreApart (first_of (reverse o.before)) (first_of xs)) (sym (items_stay n c)) k.apart;
      };
      events = events;
      bounded = bounded;
    })

-- one event of a range, in the text and alone
pub range_same : (event : ℕ → ℕ → Event) (a b c d : ℕ) → a ≡ c → b ≡ d → event a b ∷ [] ≡ event c d ∷ []
range_same event a b c d e f = ap (λ (n : ℕ). event n b ∷ []) e ∙ ap (λ (n : ℕ). event c n ∷ []) f

-- an item of a list, in a longer one
pub item_named : (f : ℕ → ℕ) (xs ys : List Item) (i : ℕ) (x : Item) → slice_get xs i ≡ Some x → slice_get (map (with_ligature_renamed f) xs ++ ys) i ≡ Some (with_ligature_renamed f x)
item_named f [] ys i x e = cc
item_named f (z ∷ xs) ys zero x e = let same : z ≡ x = cc in ap (λ (y : Item). Some (with_ligature_renamed f y)) same
item_named f (z ∷ xs) ys (suc i) x e = item_named f xs ys i x e
