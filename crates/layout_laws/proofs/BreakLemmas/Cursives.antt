-- Cursive attachment is local.
use Rattle.std.proofs.Common.{ℕ, zero, suc, ℤ, pos, neg_ℤ, ◌+ℤ◌, ◌-ℤ◌, ◌≡◌, ◌≤◌, ◌<◌, ◌+◌, ◌-◌, ◌==◌, ◌&&◌, inl, inr, Bool, true, false, nat_le, if◌then◌else◌, List, ◌∷◌, ◌++◌, Option, Some, None, length, set, arith, refl, ap, sym, subst, ◌∙◌}
use Rattle.std.specs.Prelude.{nat_abs, int_le, int_lt}
use Rattle.std.specs.Int.{w16}
use Rattle.std.specs.Int.RustNames.{FitsSigned}
use Rattle.std.proofs.lemmas.Int.{ints, int_wrap_fits}
use Rattle.std.proofs.lemmas.Bool.Decides.{nat_tests}
use Rattle.std.proofs.lemmas.Grind.{common_steps}
use Rattle.std.proofs.lemmas.List.{length-append, length-set}
use Rattle.buffer_common.specs.declared.direction.Direction.{Direction}
use Rattle.buffer_common.specs.Direction.{is_forward, is_horizontal}
use Rattle.buffer_glyphs.specs.Items.{Item, Position}
use Rattle.buffer_glyphs.specs.Events.{Break}
use Rattle.layout_common.specs.declared.glyph_row.GlyphRow.{GlyphRow}
use Rattle.layout_tables.specs.declared.cursive.EntryExit.{EntryExit}
use Rattle.layout_tables.specs.declared.value.Anchor.{Anchor}
use Rattle.buffer_stages.specs.Actions.{Cut, whole, attempt_around}
use Rattle.layout_offsets.specs.Links.{position_at, without_link, link_target, parent, is_near, link_to}
use Rattle.layout_offsets.specs.Cursive.{turned_link, with_link_reversed, turned_position, unless_at, old_parent, turned_beyond, chain_reversed_from, most_links, chain_turned, child_position, freed_position, is_child_of, with_parent_freed, with_child_attached, with_cursive_attached, first_ends, position_from_anchor, change_at, joined_advances, attaches_earlier, with_cursive_offset, cursive_attachment}
use Rattle.layout_offsets.proofs.Lemmas.Linked.{linked_there}
use Rattle.layout_match.specs.Applied.{ApplyContext}
use Rattle.layout_gpos.specs.Anchors.{with_attachment_flag}
use Rattle.layout_gpos.specs.Moving.{break_around}
use Rattle.layout_gpos.specs.Marks.{item_before}
use Rattle.layout_positioning.specs.Joins.{join_if, exit_of, on_exit, entry_of, from_entry, cursive_subtable}
use Rattle.layout_laws.specs.Breaks.Frames.{Outside, Inside, framed_cut, IsFramed}
use Rattle.layout_laws.specs.Breaks.Local.{IsBeside, IsLocal}
use Rattle.layout_laws.specs.Breaks.Positioned.{LeadsInside, LeadInside, ArePlaced, around}
use Rattle.layout_laws.proofs.BreakLemmas.Frames.{front_long}
use Rattle.layout_laws.proofs.BreakLemmas.Singles.{same_test}
use Rattle.layout_laws.proofs.BreakLemmas.Outcomes.{at_first_local}
use Rattle.layout_laws.proofs.BreakLemmas.Placed.{at_around, set_around, change_around, near_farther, link_farther, leads_set, acted_beside, range_same}
use Rattle.layout_laws.proofs.BreakLemmas.Marks.{found_beside, before_found}
use Rattle.layout_offsets.proofs.Lemmas.Turned.{unless_there}
use Rattle.buffer_facts.proofs.Truth.{both_true}
use Rattle.buffer_facts.proofs.Numbers.{at_most_by_test as at_most}

-- ---- where links lead, in the text

-- an index, after n other positions
abbrev pub index_farther : ℕ → Option ℕ → Option ℕ
index_farther n None = None
index_farther n (Some i) = Some (n + i)

inside_test : (j n : ℕ) → j < n → (int_le (pos 0) (pos j) && int_lt (pos j) (pos n)) ≡ true
inside_test j n lt = grind (arith, nat_tests, common_steps)

-- a link to an index below n, where it isn't 0
link_there : (none : Bool) (n i j : ℕ) (link : ℤ) → j < n → pos i +ℤ link ≡ pos j → (if none then None else if int_le (pos 0) (pos i +ℤ link) && int_lt (pos i +ℤ link) (pos n) then Some (nat_abs (pos i +ℤ link)) else None) ≡ (if none then None else Some j)
link_there true n i j link lt e = refl
link_there false n i j link lt e =
    ap (λ (z : ℤ). if int_le (pos 0) z && int_lt z (pos n) then Some (nat_abs z) else None) e ∙ ap (λ (b : Bool). if b then Some j else None) (inside_test j n lt)

target_farther : (n size total i : ℕ) (link : ℤ) → n + size ≤ total → LeadsInside size i link → link_target total (n + i) link ≡ index_farther n (link_target size i link)
target_farther n size total i link le (inl none) =
    ap (link_target total (n + i)) none ∙ sym (ap (λ (z : ℤ). index_farther n (link_target size i z)) none)
target_farther n size total i link le (inr there) =
    let j = there.0 in
    let here : pos i +ℤ link ≡ pos j = ap (λ (z : ℤ). pos i +ℤ z) there.3 ∙ to_index i j in
    let farther : pos (n + i) +ℤ link ≡ pos (n + j) = ap (λ (z : ℤ). pos (n + i) +ℤ z) there.3 ∙ to_farther n i j in
    link_there (nat_abs link == 0) total (n + i) (n + j) link (omega (arith, le, there.1)) farther ∙ by_test (nat_abs link == 0) j ∙ ap (index_farther n) (sym (link_there (nat_abs link == 0) size i j link there.1 here))
  where
    to_index : (a b : ℕ) → pos a +ℤ (pos b -ℤ pos a) ≡ pos b
    to_index a b = omega (arith, ints)

    to_farther : (m a b : ℕ) → pos (m + a) +ℤ (pos b -ℤ pos a) ≡ pos (m + b)
    to_farther m a b = omega (arith, ints)

    by_test : (none : Bool) (j : ℕ) → (if none then None else Some (n + j)) ≡ index_farther n (if none then None else Some j)
    by_test true j = refl
    by_test false j = refl

pub around_long : (o : Outside) (n : ℕ) (ps : List Position) → length o.left ≡ n → n + length ps ≤ length (around o ps)
around_long o n ps e = omega (arith, e, length-append (o.left ++ ps) o.right, length-append o.left ps)

pub parent_around : (o : Outside) (n i : ℕ) (ps : List Position) → length o.left ≡ n → i < length ps → LeadInside ps → parent (n + i) (around o ps) ≡ index_farther n (parent i ps)
parent_around o n i ps e lt h =
    ap (λ (p : Position). link_target (length (around o ps)) (n + i) p.attach_chain) (at_around o ps n i e lt) ∙ target_farther n (length ps) (length (around o ps)) i (position_at i ps).attach_chain (around_long o n ps e) (h i lt)

unless_farther : (n stop : ℕ) (j : Option ℕ) → unless_at (n + stop) (index_farther n j) ≡ index_farther n (unless_at stop j)
unless_farther n stop None = refl
unless_farther n stop (Some j) =
    ap (λ (b : Bool). if b then None else Some (n + j)) (same_test (n + j) (n + stop) j stop (λ e. omega (arith, e)) (λ e. omega (arith, e))) ∙ by_test (j == stop)
  where
    by_test : (b : Bool) → (if b then None else Some (n + j)) ≡ index_farther n (if b then None else Some j)
    by_test true = refl
    by_test false = refl

old_parent_around : (o : Outside) (n stop i : ℕ) (ps : List Position) → length o.left ≡ n → i < length ps → LeadInside ps → old_parent (n + stop) (n + i) (around o ps) ≡ index_farther n (old_parent stop i ps)
old_parent_around o n stop i ps e lt h =
    ap (λ (p : Position). if p.attach_type == 2 then unless_at (n + stop) (parent (n + i) (around o ps)) else None) (at_around o ps n i e lt)
    ∙ ap (λ (j : Option ℕ). if (position_at i ps).attach_type == 2 then unless_at (n + stop) j else None) (parent_around o n i ps e lt h)
    ∙ ap (λ (j : Option ℕ). if (position_at i ps).attach_type == 2 then j else None) (unless_farther n stop (parent i ps)) ∙ by_kind ((position_at i ps).attach_type == 2)
  where
    by_kind : (b : Bool) → (if b then index_farther n (unless_at stop (parent i ps)) else None) ≡ index_farther n (if b then unless_at stop (parent i ps) else None)
    by_kind true = refl
    by_kind false = refl

-- ---- links turned round

near_back : (i j : ℕ) → is_near i j ≡ true → is_near j i ≡ true
near_back i j e = let both = both_true (nat_le (i - j) 32767) (nat_le (j - i) 32767) e in ap (λ (b : Bool). b && nat_le (i - j) 32767) both.1 ∙ both.0

fits_near : (i j : ℕ) → i - j ≤ 32767 → j - i ≤ 32767 → FitsSigned w16 (pos i -ℤ pos j)
fits_near i j le more = omega (arith, ints)

turned_back : (i j : ℕ) → is_near i j ≡ true → turned_link (link_to i j) ≡ link_to j i
turned_back i j e =
    let both = both_true (nat_le (i - j) 32767) (nat_le (j - i) 32767) e in
    let back : neg_ℤ (pos j -ℤ pos i) ≡ pos i -ℤ pos j = omega (arith, ints) in
    let fits : FitsSigned w16 (pos i -ℤ pos j) = fits_near i j (at_most (i - j) 32767 both.0) (at_most (j - i) 32767 both.1) in
    let fits_there : FitsSigned w16 (neg_ℤ (pos j -ℤ pos i)) = subst (FitsSigned w16) (sym back) fits in
    int_wrap_fits w16 (neg_ℤ (pos j -ℤ pos i)) fits_there ∙ back

turned_none_link : turned_link (pos 0) ≡ pos 0
turned_none_link = int_wrap_fits w16 (pos 0) (omega (arith, ints))

reversed_link : (across : Bool) (c p : Position) → (with_link_reversed across c p).attach_chain ≡ turned_link c.attach_chain
reversed_link true c p = refl
reversed_link false c p = refl

-- the link of a glyph of an old chain, turned round, leads inside
turned_leads : (n i j : ℕ) (link : ℤ) → i < n → pos j ≡ pos i +ℤ link → LeadsInside n i link → LeadsInside n j (turned_link link)
turned_leads n i j link lt e (inl none) = inl (ap turned_link none ∙ turned_none_link)
turned_leads n i j link lt e (inr there) =
    let same : j ≡ there.0 = same_index i j there.0 (e ∙ ap (λ (z : ℤ). pos i +ℤ z) there.3) in
    let near : is_near i j ≡ true = ap (is_near i) same ∙ there.2 in
    inr (i, lt, near_back i j near, ap turned_link (there.3 ∙ ap (link_to i) (sym same)) ∙ turned_back i j near)
  where
    same_index : (a b c : ℕ) → pos b ≡ pos a +ℤ (pos c -ℤ pos a) → b ≡ c
    same_index a b c f = omega (arith, ints)

-- ---- a chain reversed

old_parent_is : (stop i j : ℕ) (ps : List Position) → old_parent stop i ps ≡ Some j → parent i ps ≡ Some j
old_parent_is stop i j ps e = by_kind ((position_at i ps).attach_type == 2) e
  where
    by_kind : (b : Bool) → (if b then unless_at stop (parent i ps) else None) ≡ Some j → parent i ps ≡ Some j
    by_kind true f = unless_there stop j (parent i ps) f
    by_kind false f = cc

-- positions changed in a text as they are alone, with links that lead inside, and as many as before
pub record AreChangedAlike (o : Outside) (size : ℕ) (theirs ours : List Position) : Type 0 where
  pub same : theirs ≡ around o ours
  pub links : LeadInside ours
  pub long : length ours ≡ size

abbrev IsAlike : Outside → Direction → ℕ → ℕ → ℕ → Type 0
IsAlike o d n stop fuel = (j : ℕ) (r : Position) (qs : List Position) → j < length qs → LeadInside qs → LeadsInside (length qs) j r.attach_chain → AreChangedAlike o (length qs) (chain_reversed_from d (n + stop) fuel (n + j) r (around o qs)) (chain_reversed_from d stop fuel j r qs)

chain_alike : (o : Outside) (d : Direction) (n stop fuel i : ℕ) (new : Position) (ps : List Position) → length o.left ≡ n → i < length ps → LeadInside ps → LeadsInside (length ps) i new.attach_chain
    → AreChangedAlike o (length ps) (chain_reversed_from d (n + stop) fuel (n + i) new (around o ps)) (chain_reversed_from d stop fuel i new ps)
unfolding chain_reversed_from
chain_alike o d n stop zero i new ps e lt h k = record { same = refl; links = h; long = refl }
chain_alike o d n stop (suc fuel) i new ps e lt h k =
    let p = position_at i ps in
    let qs = set ps i new in
    let theirs : turned_beyond d (chain_reversed_from d (n + stop) fuel) (position_at (n + i) (around o ps)) (old_parent (n + stop) (n + i) (around o ps)) (set (around o ps) (n + i) new)
    ≡ turned_beyond d (chain_reversed_from d (n + stop) fuel) p (index_farther n (old_parent stop i ps)) (around o qs) =
    ap (λ (q : Position). turned_beyond d (chain_reversed_from d (n + stop) fuel) q (old_parent (n + stop) (n + i) (around o ps)) (set (around o ps) (n + i) new)) (at_around o ps n i e lt)
    ∙ ap (λ (j : Option ℕ). turned_beyond d (chain_reversed_from d (n + stop) fuel) p j (set (around o ps) (n + i) new)) (old_parent_around o n stop i ps e lt h)
    ∙ ap (turned_beyond d (chain_reversed_from d (n + stop) fuel) p (index_farther n (old_parent stop i ps))) (set_around o ps n i new e lt) in
    subst (λ (rs : List Position). AreChangedAlike o (length ps) rs (turned_beyond d (chain_reversed_from d stop fuel) p (old_parent stop i ps) qs)) (sym theirs)
    (beyond (λ j r qs lt h k. chain_alike o d n stop fuel j r qs e lt h k) (old_parent stop i ps) refl)
  where
    first : LeadInside (set ps i new)
    first = leads_set ps i new h k

    beyond : IsAlike o d n stop fuel → (j : Option ℕ) → old_parent stop i ps ≡ j → AreChangedAlike o (length ps) (turned_beyond d (chain_reversed_from d (n + stop) fuel) (position_at i ps) (index_farther n j) (around o (set ps i new))) (turned_beyond d (chain_reversed_from d stop fuel) (position_at i ps) j (set ps i new))
    beyond shorter None f = record { same = refl; links = first; long = length-set ps i new }
    beyond shorter (Some j) f =
        let p = position_at i ps in
        let qs = set ps i new in
        let long : length qs ≡ length ps = length-set ps i new in
        let there = linked_there (length ps) i p.attach_chain j (old_parent_is stop i j ps f) in
        let within : j < length qs = omega (arith, long, there.0) in
        let r = turned_position d p (position_at j qs) in
        let leads : LeadsInside (length qs) j r.attach_chain =
        subst (LeadsInside (length qs) j) (sym (reversed_link (is_horizontal d) p (position_at j qs))) (subst (λ (m : ℕ). LeadsInside m j (turned_link p.attach_chain)) (sym long) (turned_leads (length ps) i j p.attach_chain lt there.1 (h i lt))) in
        let rest = shorter j r qs within first leads in
        record {
          same = ap (λ (q : Position). chain_reversed_from d (n + stop) fuel (n + j) (turned_position d p q) (around o qs)) (at_around o qs n j e within) ∙ rest.same;
          links = rest.links;
          long = rest.long ∙ long;
        }

turned_alike : (o : Outside) (d : Direction) (n stop i : ℕ) (ps : List Position) → length o.left ≡ n → i < length ps → LeadInside ps → AreChangedAlike o (length ps) (chain_turned d (n + stop) (n + i) (around o ps)) (chain_turned d stop i ps)
turned_alike o d n stop i ps e lt h =
    subst (λ (p : Position). AreChangedAlike o (length ps) (if p.attach_type == 2 then chain_reversed_from d (n + stop) most_links (n + i) (without_link p) (around o ps) else around o ps) (chain_turned d stop i ps)) (sym (at_around o ps n i e lt))
    (by_kind ((position_at i ps).attach_type == 2))
  where
    by_kind : (b : Bool) → AreChangedAlike o (length ps) (if b then chain_reversed_from d (n + stop) most_links (n + i) (without_link (position_at i ps)) (around o ps) else around o ps) (if b then chain_reversed_from d stop most_links i (without_link (position_at i ps)) ps else ps)
    by_kind true = chain_alike o d n stop most_links i (without_link (position_at i ps)) ps e lt h (inl refl)
    by_kind false = record { same = refl; links = h; long = refl }

-- ---- a child attached

child_link : (across : Bool) (x y link : ℤ) (p : Position) → (child_position across x y link p).attach_chain ≡ link
child_link true x y link p = refl
child_link false x y link p = refl

freed_link : (across : Bool) (p : Position) → (freed_position across p).attach_chain ≡ pos 0
freed_link true p = refl
freed_link false p = refl

-- a change of one position after others
pub changed_after : (o : Outside) (n size i : ℕ) (f : Position → Position) (theirs ours : List Position) → length o.left ≡ n → i < size → AreChangedAlike o size theirs ours → LeadsInside size i (f (position_at i ours)).attach_chain
    → AreChangedAlike o size (set theirs (n + i) (f (position_at (n + i) theirs))) (set ours i (f (position_at i ours)))
changed_after o n size i f theirs ours e lt h k =
    let p = f (position_at i ours) in
    record {
      same = ap (λ (ps : List Position). set ps (n + i) (f (position_at (n + i) ps))) h.same ∙ change_around o f ours n i e (omega (arith, lt, h.long));
      links = leads_set ours i p h.links (subst (λ (m : ℕ). LeadsInside m i p.attach_chain) (sym h.long) k);
      long = length-set ours i p ∙ h.long;
    }

child_alike : (o : Outside) (d : Direction) (n size child to : ℕ) (x y : ℤ) (theirs ours : List Position) → length o.left ≡ n → child < size → to < size → is_near child to ≡ true → AreChangedAlike o size theirs ours
    → AreChangedAlike o size (with_child_attached d (n + child) (n + to) x y theirs) (with_child_attached d child to x y ours)
child_alike o d n size child to x y theirs ours e lt within near h =
    let across = is_horizontal d in
    subst (λ (link : ℤ). AreChangedAlike o size (set theirs (n + child) (child_position across x y link (position_at (n + child) theirs))) (with_child_attached d child to x y ours)) (sym (link_farther n child to))
    (changed_after o n size child (child_position across x y (link_to child to)) theirs ours e lt h (inr (to, within, near, child_link across x y (link_to child to) (position_at child ours))))

child_test : (n child : ℕ) (j : Option ℕ) → is_child_of (n + child) (index_farther n j) ≡ is_child_of child j
child_test n child None = refl
child_test n child (Some j) = same_test (n + j) (n + child) j child (λ e. omega (arith, e)) (λ e. omega (arith, e))

freed_alike : (o : Outside) (d : Direction) (n size child to : ℕ) (theirs ours : List Position) → length o.left ≡ n → to < size → AreChangedAlike o size theirs ours → AreChangedAlike o size (with_parent_freed d (n + child) (n + to) theirs) (with_parent_freed d child to ours)
freed_alike o d n size child to theirs ours e lt h =
    let across = is_horizontal d in
    let tested : is_child_of (n + child) (parent (n + to) theirs) ≡ is_child_of child (parent to ours) =
    ap (λ (ps : List Position). is_child_of (n + child) (parent (n + to) ps)) h.same ∙ ap (is_child_of (n + child)) (parent_around o n to ours e (omega (arith, lt, h.long)) h.links) ∙ child_test n child (parent to ours) in
    subst (λ (b : Bool). AreChangedAlike o size (if b then set theirs (n + to) (freed_position across (position_at (n + to) theirs)) else theirs) (with_parent_freed d child to ours)) (sym tested) (by_child (is_child_of child (parent to ours)))
  where
    by_child : (b : Bool) → AreChangedAlike o size (if b then set theirs (n + to) (freed_position (is_horizontal d) (position_at (n + to) theirs)) else theirs) (if b then set ours to (freed_position (is_horizontal d) (position_at to ours)) else ours)
    by_child true = changed_after o n size to (freed_position (is_horizontal d)) theirs ours e lt h (inl (freed_link (is_horizontal d) (position_at to ours)))
    by_child false = h

attached_alike : (o : Outside) (d : Direction) (n size child to : ℕ) (x y : ℤ) (theirs ours : List Position) → length o.left ≡ n → child < size → to < size → AreChangedAlike o size theirs ours
    → AreChangedAlike o size (with_cursive_attached d (n + child) (n + to) x y theirs) (with_cursive_attached d child to x y ours)
attached_alike o d n size child to x y theirs ours e lt within h =
    subst (λ (b : Bool). AreChangedAlike o size (if b then with_parent_freed d (n + child) (n + to) (with_child_attached d (n + child) (n + to) x y (chain_turned d (n + to) (n + child) theirs)) else theirs) (with_cursive_attached d child to x y ours)) (sym (near_farther n child to))
    (by_near (is_near child to) refl)
  where
    turned : AreChangedAlike o size (chain_turned d (n + to) (n + child) theirs) (chain_turned d to child ours)
    turned =
        let t = turned_alike o d n to child ours e (omega (arith, lt, h.long)) h.links in
        record { same = ap (chain_turned d (n + to) (n + child)) h.same ∙ t.same; links = t.links; long = t.long ∙ h.long }

    by_near : (b : Bool) → is_near child to ≡ b
        → AreChangedAlike o size (if b then with_parent_freed d (n + child) (n + to) (with_child_attached d (n + child) (n + to) x y (chain_turned d (n + to) (n + child) theirs)) else theirs) (if b then with_parent_freed d child to (with_child_attached d child to x y (chain_turned d to child ours)) else ours)
    by_near true near = freed_alike o d n size child to (with_child_attached d (n + child) (n + to) x y (chain_turned d (n + to) (n + child) theirs)) (with_child_attached d child to x y (chain_turned d to child ours)) e within
        (child_alike o d n size child to x y (chain_turned d (n + to) (n + child) theirs) (chain_turned d to child ours) e lt within near turned)
    by_near false near = h

-- ---- two glyphs joined

pub ends_link : (across : Bool) (exit : Anchor) (p : Position) → (first_ends across exit p).attach_chain ≡ p.attach_chain
ends_link true exit p = refl
ends_link false exit p = refl

pub anchor_link : (across : Bool) (anchor : Anchor) (p : Position) → (position_from_anchor across anchor p).attach_chain ≡ p.attach_chain
anchor_link true anchor p = refl
anchor_link false anchor p = refl

-- a change of one position that keeps its link
kept_after : (o : Outside) (n size i : ℕ) (f : Position → Position) (theirs ours : List Position) → length o.left ≡ n → i < size → AreChangedAlike o size theirs ours → ((p : Position) → (f p).attach_chain ≡ p.attach_chain) → AreChangedAlike o size (change_at f (n + i) theirs) (change_at f i ours)
kept_after o n size i f theirs ours e lt h kept =
    changed_after o n size i f theirs ours e lt h (subst (LeadsInside size i) (sym (kept (position_at i ours))) (subst (λ (m : ℕ). LeadsInside m i (position_at i ours).attach_chain) h.long (h.links i (omega (arith, lt, h.long)))))

advances_alike : (o : Outside) (forward across : Bool) (n size first second : ℕ) (exit entry : Anchor) (theirs ours : List Position) → length o.left ≡ n → first < size → second < size → AreChangedAlike o size theirs ours
    → AreChangedAlike o size (joined_advances forward across (n + first) exit (n + second) entry theirs) (joined_advances forward across first exit second entry ours)
advances_alike o true across n size first second exit entry theirs ours e lt less h =
    kept_after o n size second (position_from_anchor across entry) (change_at (first_ends across exit) (n + first) theirs) (change_at (first_ends across exit) first ours) e less (kept_after o n size first (first_ends across exit) theirs ours e lt h (ends_link across exit)) (anchor_link across entry)
advances_alike o false across n size first second exit entry theirs ours e lt less h =
    kept_after o n size second (first_ends across entry) (change_at (position_from_anchor across exit) (n + first) theirs) (change_at (position_from_anchor across exit) first ours) e less (kept_after o n size first (position_from_anchor across exit) theirs ours e lt h (anchor_link across exit)) (ends_link across entry)

offset_alike : (o : Outside) (d : Direction) (earlier : Bool) (n size first second : ℕ) (exit entry : Anchor) (theirs ours : List Position) → length o.left ≡ n → first < size → second < size → AreChangedAlike o size theirs ours
    → AreChangedAlike o size (with_cursive_offset d earlier (n + first) exit (n + second) entry theirs) (with_cursive_offset d earlier first exit second entry ours)
offset_alike o d true n size first second exit entry theirs ours e lt less h = attached_alike o d n size first second (entry.x -ℤ exit.x) (entry.y -ℤ exit.y) theirs ours e lt less h
offset_alike o d false n size first second exit entry theirs ours e lt less h = attached_alike o d n size second first (exit.x -ℤ entry.x) (exit.y -ℤ entry.y) theirs ours e less lt h

cursive_alike : (o : Outside) (d : Direction) (earlier : Bool) (n first second : ℕ) (exit entry : Anchor) (ps : List Position) → length o.left ≡ n → first < length ps → second < length ps → LeadInside ps
    → AreChangedAlike o (length ps) (cursive_attachment d earlier (n + first) exit (n + second) entry (around o ps)) (cursive_attachment d earlier first exit second entry ps)
cursive_alike o d earlier n first second exit entry ps e lt less h =
    let forward = is_forward d in
    let across = is_horizontal d in
    offset_alike o d earlier n (length ps) first second exit entry (joined_advances forward across (n + first) exit (n + second) entry (around o ps)) (joined_advances forward across first exit second entry ps) e lt less
    (advances_alike o forward across n (length ps) first second exit entry (around o ps) ps e lt less (record { same = refl; links = h; long = refl }))

-- ---- the rule

module _ (d : Direction) (a : ApplyContext) (entry : Anchor) (o : Outside) (s : Inside) (c : Cut) (x : Item) (xs : List Item) (h : IsFramed o s (record c { rest = x ∷ xs })) (k : ArePlaced o (record c { rest = x ∷ xs })) where
  abbrev here : Cut
  here = record c { rest = x ∷ xs }

  abbrev there : Cut
  there = framed_cut o s (record c { rest = x ∷ xs })

  at : length there.front ≡ length o.before + length c.front
  at = front_long o s c.front

  size : length (whole here) ≡ length c.front + length {A = Item} (x ∷ xs)
  size = length-append c.front (x ∷ xs)

  -- a join to an item of the fragment
  join_inside : (exit : Option Anchor) (back : ℕ) → back < length c.front → IsBeside ArePlaced o s here (join_if d a exit entry back there) (join_if d a exit entry back here)
  join_inside None back lt = (refl, refl)
  join_inside (Some exit) back lt =
      let earlier = attaches_earlier a.props in
      let i = length c.front in
      let j = length c.front - (back + 1) in
      let second : i < length c.positions = omega (arith, k.positions, size) in
      let to : length there.front - (back + 1) ≡ length o.before + j = omega (arith, at, lt) in
      let made = cursive_alike o d earlier (length o.before) j i exit entry c.positions k.left (omega (arith, second)) second k.links in
      acted_beside o s here 1 (cursive_attachment d earlier (length there.front - (back + 1)) exit (length there.front) entry (around o c.positions)) (cursive_attachment d earlier j exit i entry c.positions)
      (with_attachment_flag (is_near (length there.front) (length there.front - (back + 1))) s.scratch_flags) (with_attachment_flag (is_near i j) c.scratch_flags) (break_around (back + 1) 1 there) (break_around (back + 1) 1 here) h k (omega arith) (omega arith) made.long made.links
      (ap (λ (m : ℕ). cursive_attachment d earlier m exit (length there.front) entry (around o c.positions)) to ∙ ap (λ (m : ℕ). cursive_attachment d earlier (length o.before + j) exit m entry (around o c.positions)) at ∙ made.same)
      (range_same Break (length there.front - (back + 1)) (length there.front + 1) (length o.before + j) (length o.before + (i + 1)) to (omega (arith, at))) ((omega (arith, size), omega (arith, size)), tt)

  -- a join to an item before the fragment
  join_outside : (exit : Option Anchor) (back end : ℕ) → length c.front ≤ back → back < length there.front → IsBeside ArePlaced o s here (join_if d a exit entry back there) (attempt_around end 1 here)
  join_outside None back end past lt = (refl, refl)
  join_outside (Some exit) back end past lt = inl (inl (omega (arith, at, past, lt), omega (arith, at), omega (arith, at, size)))

  entry_beside : (rows : List (GlyphRow EntryExit)) → IsBeside ArePlaced o s here (from_entry d a rows (Some entry) there) (from_entry d a rows (Some entry) here)
  entry_beside rows =
      found_beside o s c x xs h k (on_exit d a rows entry) (on_exit d a rows entry) (λ back y lt le. join_inside (exit_of rows y.number) back lt) (λ back end. (refl, refl)) (λ back end y past lt. join_outside (exit_of rows y.number) back end past lt) (item_before a there) (item_before a here)
      (before_found o s c x xs h k a)

pub cursive_local : (d : Direction) (a : ApplyContext) (rows : List (GlyphRow EntryExit)) → IsLocal ArePlaced (cursive_subtable d a rows)
cursive_local d a rows = at_first_local ArePlaced (λ x. from_entry d a rows (entry_of rows x.number)) (λ o s c x xs h k. by_entry (entry_of rows x.number) o s c x xs h k)
  where
    by_entry : (entry : Option Anchor) (o : Outside) (s : Inside) (c : Cut) (x : Item) (xs : List Item) → IsFramed o s (record c { rest = x ∷ xs }) → ArePlaced o (record c { rest = x ∷ xs })
        → IsBeside ArePlaced o s (record c { rest = x ∷ xs }) (from_entry d a rows entry (framed_cut o s (record c { rest = x ∷ xs }))) (from_entry d a rows entry (record c { rest = x ∷ xs }))
    by_entry None o s c x xs h k = (refl, refl)
    by_entry (Some entry) o s c x xs h k = entry_beside d a entry o s c x xs h k rows
