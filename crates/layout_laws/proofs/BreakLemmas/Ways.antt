-- Two ways to try a rule at each index of a text that stands as two fragments on its line: from the left, and from the right.
use Rattle.std.proofs.Common.{ℕ, ◌≡◌, ◌<◌, ◌+◌, Bool, true, false, not, List, [], ◌++◌, Ok, length, map, arith, refl, ap, sym, ◌∙◌}
use Rattle.std.proofs.lemmas.List.{append-nil, length-append, length-map}
use Rattle.buffer_glyphs.specs.declared.level.BufferClusterLevel.{BufferClusterLevel}
use Rattle.buffer_glyphs.specs.Items.{Item, Position}
use Rattle.buffer_core.specs.Readings.{View, Read, with_events}
use Rattle.buffer_stages.specs.Actions.{Cut, whole, view_at, uncut, Action}
use Rattle.buffer_parts.specs.Breaks.Fragments.{with_ligature_renamed, as_they_stand}
use Rattle.layout_match.specs.Trying.{trials}
use Rattle.layout_substitution.specs.Lookups.{backward_trials, backward_pass}
use Rattle.layout_laws.specs.Breaks.Frames.{Outside, Inside, named_items, framed_cut, IsFramed}
use Rattle.layout_laws.specs.Breaks.Local.{Placing, AnyPositions, IsLocal, IsLocalOrIdle, IsSteady, IsOfWhole}
use Rattle.layout_laws.specs.Breaks.Backward.{ActsOneForOne}
use Rattle.layout_laws.proofs.BreakLemmas.PassWalks.{Reads, Walked, IsEnough, IsTried, IsTriedAfter}
use Rattle.layout_laws.proofs.BreakLemmas.Frames.{whole_framed}
use Rattle.layout_laws.proofs.BreakLemmas.Walks.{walks_are_local}
use Rattle.layout_laws.proofs.BreakLemmas.BackwardWalks.{IsReady, IsTriedBack, IsTriedBefore, recut, walks_back}
use Rattle.layout_match.proofs.Lemmas.Steps.{ended as trials_end}
use Rattle.buffer_parts.specs.Lemmas.Stages.{same_read as read_same}

-- ---- a fragment, and what stands on one side of it

-- items and their positions stand before a fragment, or after it
abbrev pub beside : Bool → List Item → List Position → Outside
beside false xs ps = record { before = []; after = xs; left = []; right = ps }
beside true xs ps = record { before = xs; after = []; left = ps; right = [] }

pub whole_beside : (before : Bool) (xs : List Item) (ps : List Position) (s : Inside) (c : Cut) → whole (framed_cut (beside before xs ps) s c) ≡ as_they_stand before (named_items s (whole c)) xs
whole_beside false xs ps s c = whole_framed (beside false xs ps) s c
whole_beside true xs ps s c = whole_framed (beside true xs ps) s c ∙ ap (λ (ys : List Item). xs ++ ys) (append-nil (named_items s (whole c)))

pub positions_beside : (before : Bool) (xs : List Item) (ps : List Position) (s : Inside) (c : Cut) → (framed_cut (beside before xs ps) s c).positions ≡ as_they_stand before c.positions ps
positions_beside false xs ps s c = refl
positions_beside true xs ps s c = append-nil (ps ++ c.positions)

-- the cut before the first item of a view, with positions that it has for the rule
abbrev pub start : (View → List Position) → View → Cut
start put v = record (uncut v) { positions = put v }

-- the state of a text, with names for a fragment's ligature numbers
abbrev pub inside_of : View → (ℕ → ℕ) → Inside
inside_of v name = record { name = name; lig_id = v.lig_id; max_ops = v.max_ops; random = v.random; max_len = v.max_len; scratch_flags = v.scratch_flags }

-- ---- ways

-- a way to try a rule at each index of a text, v, and of a fragment of it: the text is tried first where the fragment is that stands first, or last
-- where the way goes backward
pub record IsWay (backward : Bool) (P : Placing) (put : View → List Position) (level : BufferClusterLevel) (v : View) : Type 1 where
  -- the rule is tried from the fragment's begin on, from its end on, and in a view alone
  pub Tried : Reads
  pub Leads : Reads
  pub Alone : View → Read → Type 0
  pub begins : (u : View) (name : ℕ → ℕ) (xs : List Item) (ps : List Position) (r : Read) → v.items ≡ as_they_stand backward (map (with_ligature_renamed name) u.items) xs → put v ≡ as_they_stand backward (put u) ps → Alone v r
      → Tried (beside backward xs ps) (inside_of v name) (start put u) r
  pub walks : (u : View) (o : Outside) (s : Inside) (r e : Read) → IsFramed o s (start put u) → P o (start put u) → 0 < length u.items → Tried o s (start put u) r → Alone u e → Walked P Leads level u o s (start put u) r e
  -- from the end of one fragment on it is tried in the other
  pub goes_on : (u : View) (name : ℕ → ℕ) (s : Inside) (end : Cut) (r : Read) → Leads (beside backward (map (with_ligature_renamed name) u.items) (put u)) s end r → Tried (beside (not backward) (named_items s (whole end)) end.positions) (record s { name = name }) (start put u) r
  -- and from the end of that in nothing
  pub ends : (xs : List Item) (ps : List Position) (s : Inside) (end : Cut) (r : Read) → Leads (beside (not backward) xs ps) s end r → with_events [] (view_at v (framed_cut (beside (not backward) xs ps) s end)) ≡ r

-- ---- from the left

-- what is read of a view alone, where enough of the limits is left
abbrev pub ReadForward : Action → (View → List Position) → BufferClusterLevel → View → Read → Type 0
ReadForward act put level u e = (trials act u (length u.items) (start put u) ≡ Ok e) × IsEnough level u.lig_id e

module _ (P : Placing) (act : Action) (put : View → List Position) (level : BufferClusterLevel) (v : View) where
  pub forward_begins : (u : View) (name : ℕ → ℕ) (xs : List Item) (ps : List Position) (r : Read) → v.items ≡ map (with_ligature_renamed name) u.items ++ xs → put v ≡ put u ++ ps → ReadForward act put level v r → IsTried act level v (beside false xs ps) (inside_of v name) (start put u) r
  forward_begins u name xs ps r items positions alone =
      let ours = map (with_ligature_renamed name) u.items in
      let at : start put v ≡ framed_cut (beside false xs ps) (inside_of v name) (start put u) =
      ap (λ (ys : List Item). record (start put v) { rest = ys }) items ∙ ap (λ (qs : List Position). record (start put v) { rest = ours ++ xs; positions = qs }) positions in
      record {
        steps = length v.items;
        many = omega (arith, ap (λ (ys : List Item). length ys) items, length-append ours xs, length-map u.items (with_ligature_renamed name));
        read = ap (λ (z : Cut). trials act v (length v.items) z) (sym at) ∙ alone.0;
        enough = alone.1;
      }

  pub forward_goes_on : (u : View) (name : ℕ → ℕ) (s : Inside) (end : Cut) (r : Read) → IsTriedAfter act level v (beside false (map (with_ligature_renamed name) u.items) (put u)) s end r
      → IsTried act level v (beside true (named_items s (whole end)) end.positions) (record s { name = name }) (start put u) r
  forward_goes_on u name s end r leads =
      let ours = map (with_ligature_renamed name) u.items in
      let here : Cut = framed_cut (beside false ours (put u)) s end in
      let done : whole end ≡ end.front = ap (λ (ys : List Item). end.front ++ ys) leads.0 ∙ append-nil end.front in
      let front = named_items s (whole end) ++ [] in
      let at : here ≡ framed_cut (beside true (named_items s (whole end)) end.positions) (record s { name = name }) (start put u) =
      ap (λ (ys : List Item). record here { rest = named_items s ys ++ ours }) leads.0
      ∙ ap (λ (ys : List Item). record here { front = ys; rest = ours }) (ap (named_items s) (sym done) ∙ sym (append-nil (named_items s (whole end))))
      ∙ ap (λ (ys : List Item). record here { front = front; rest = ys }) (sym (append-nil ours))
      ∙ ap (λ (qs : List Position). record here { front = front; rest = ours ++ []; positions = qs }) (sym (append-nil (end.positions ++ put u))) in
      record {
        steps = leads.1.steps;
        many = omega (arith, leads.1.many, length-map u.items (with_ligature_renamed name));
        read = ap (λ (z : Cut). trials act v leads.1.steps z) (sym at) ∙ leads.1.read;
        enough = leads.1.enough;
      }

  pub forward_ends : (xs : List Item) (ps : List Position) (s : Inside) (end : Cut) (r : Read) → IsTriedAfter act level v (beside true xs ps) s end r → with_events [] (view_at v (framed_cut (beside true xs ps) s end)) ≡ r
  forward_ends xs ps s end r leads =
      let d : Cut = framed_cut (beside true xs ps) s end in
      read_same (with_events [] (view_at v d)) r (sym (trials_end act v leads.1.steps d (ap (λ (ys : List Item). named_items s ys ++ []) leads.0)) ∙ leads.1.read)

  abbrev pub forward_way : IsOfWhole P → IsLocalOrIdle P act → IsSteady act → IsWay false P put level v
  forward_way over local steady = record {
    Tried = IsTried act level v;
    Leads = IsTriedAfter act level v;
    Alone = ReadForward act put level;
    begins = forward_begins;
    walks = λ u o s r e f k some t alone. walks_are_local P act over local steady level v u o s (start put u) r e f k some t alone.0 alone.1;
    goes_on = forward_goes_on;
    ends = forward_ends;
  }

-- ---- from the right

abbrev pub its_positions : View → List Position
its_positions u = u.positions

abbrev pub ReadBackward : Action → View → Read → Type 0
ReadBackward act u e = (backward_pass act u ≡ Ok e) × IsReady u.max_ops u.lig_id

module _ (act : Action) (level : BufferClusterLevel) (v : View) where
  -- where a list is cut is no matter
  same_list : (n : ℕ) (c : Cut) (xs ys : List Item) (ps : List Position) → xs ++ ys ≡ whole c → ps ≡ c.positions → backward_trials act v n (record c { front = xs; rest = ys; positions = ps }) ≡ backward_trials act v n c
  same_list n c xs ys ps e f = recut act v n (record c { positions = ps }) xs ys e ∙ ap (λ (qs : List Position). backward_trials act v n (record c { positions = qs })) f

  pub backward_begins : (u : View) (name : ℕ → ℕ) (xs : List Item) (ps : List Position) (r : Read) → v.items ≡ xs ++ map (with_ligature_renamed name) u.items → v.positions ≡ ps ++ u.positions → ReadBackward act v r → IsTriedBack act v (beside true xs ps) (inside_of v name) (start its_positions u) r
  backward_begins u name xs ps r items positions alone =
      let c : Cut = start its_positions u in
      let s = inside_of v name in
      let ours = map (with_ligature_renamed name) u.items in
      let n : ℕ = length xs + length u.items in
      let long : length v.items ≡ n = omega (arith, ap (λ (ys : List Item). length ys) items, length-append xs ours, length-map u.items (with_ligature_renamed name)) in (
        alone.1,
        same_list n (start its_positions v) (xs ++ []) (ours ++ []) (ps ++ u.positions ++ []) (whole_beside true xs ps s c ∙ sym items) (positions_beside true xs ps s c ∙ sym positions)
            ∙ ap (λ (m : ℕ). backward_trials act v m (start its_positions v)) (sym long) ∙ alone.0,
      )

  pub backward_goes_on : (u : View) (name : ℕ → ℕ) (s : Inside) (end : Cut) (r : Read) → IsTriedBefore act v (beside true (map (with_ligature_renamed name) u.items) u.positions) s end r
      → IsTriedBack act v (beside false (named_items s (whole end)) end.positions) (record s { name = name }) (start its_positions u) r
  backward_goes_on u name s end r leads =
      let ours = map (with_ligature_renamed name) u.items in
      let here : Cut = framed_cut (beside true ours u.positions) s end in
      let n : ℕ = 0 + length u.items in
      let long : length ours ≡ n = omega (arith, length-map u.items (with_ligature_renamed name)) in (
        leads.0,
        same_list n here [] (ours ++ named_items s (whole end)) (u.positions ++ end.positions) (sym (whole_beside true ours u.positions s end)) (sym (positions_beside true ours u.positions s end))
            ∙ ap (λ (m : ℕ). backward_trials act v m here) (sym long) ∙ leads.1,
      )

  abbrev pub backward_way : IsLocal AnyPositions act → ActsOneForOne act → IsWay true AnyPositions its_positions level v
  backward_way local still = record {
    Tried = IsTriedBack act v;
    Leads = IsTriedBefore act v;
    Alone = ReadBackward act;
    begins = backward_begins;
    walks = λ u o s r e f k some t alone. walks_back act local still level v u o s (start its_positions u) r e f some t alone.1 alone.0;
    goes_on = backward_goes_on;
    ends = λ xs ps s end r leads. read_same (with_events [] (view_at v (framed_cut (beside false xs ps) s end))) r leads.1;
  }
