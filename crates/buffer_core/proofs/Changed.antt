-- A buffer with other glyphs, as many as before.
use Rattle.std.specs.Global.{Vec}
use Rattle.std.proofs.Common.{ℕ, ◌≡◌, ◌≤◌, ◌+◌, ◌-◌, ◌++◌, Bool, true, false, None, length, take, drop, if◌then◌else◌, refl, arith, ap, sym, subst, ◌∙◌}
use Rattle.std.proofs.lemmas.List.{map-append, take-append-drop, length-drop, length-take-le}
use Rattle.std.specs.Bool.{OnFalse, OnTrue}
use Rattle.buffer_glyphs.specs.declared.info.hb_glyph_info_t.{hb_glyph_info_t}
use Rattle.buffer_glyphs.specs.Items.{clusters}
use Rattle.buffer_lists.specs.declared.order.ClusterOrder.{ClusterOrder}
use Rattle.buffer_lists.specs.Known.{HasOrder}
use Rattle.buffer_core.specs.declared.buffer.hb_buffer_t.TheInside.{Inside}
use Rattle.buffer_core.specs.Inside.{sides_of, IsSound}
use Rattle.buffer_core.specs.Sides.{all_glyphs}
use Rattle.buffer_core.proofs.Ordered.{all_own}

-- where the output ends and the input begins; with no output open all glyphs are the input
abbrev pub ends_of : Inside → ℕ × ℕ
ends_of b = if b.have_output then (b.out_len, b.idx) else (0, 0)

pub parts_seen : (b : Inside) (p : ℕ × ℕ) → p ≡ ends_of b → clusters (take p.0 b.info.items) ++ clusters (drop p.1 b.info.items) ≡ clusters (all_glyphs (sides_of b))
parts_seen b p e = by_open b.have_output refl
  where
    by_open : (t : Bool) → b.have_output ≡ t → clusters (take p.0 b.info.items) ++ clusters (drop p.1 b.info.items) ≡ clusters (all_glyphs (sides_of b))
    by_open true h = let at : p ≡ (b.out_len, b.idx) = rw h at e in rw (at, h) (sym (map-append (λ (g : hb_glyph_info_t). g.cluster) (take b.out_len b.info.items) (drop b.idx b.info.items)))
    by_open false h = let at : p ≡ (0, 0) = rw h at e in rw (at, h) (sym (ap clusters (take-append-drop b.idx b.info.items)))

pub open_ends : (b : Inside) → b.have_output ≡ true → (b.out_len, b.idx) ≡ ends_of b
open_ends b h = rw h refl

pub front_before : (b : Inside) → IsSound b → b.have_output ≡ true → b.out_len ≤ b.idx
front_before b s h = rw h at s.out_len

pub front_long : (b : Inside) → IsSound b → b.have_output ≡ true → length (take b.out_len b.info.items) ≡ b.out_len
front_long b s h = length-take-le b.out_len b.info.items (let le = front_before b s h in omega (arith, le, s.cursor))

-- with no output open, nothing was opened
pub closed_gap : (b : Inside) → IsSound b → b.have_output ≡ false → b.gap ≡ 0
closed_gap b s h = let together : b.is_apart ≡ false = rw h at s.together in rw together at s.unopened

-- the cursor may have moved on
pub sound_changed : (b : Inside) (info : Vec hb_glyph_info_t) (order : ClusterOrder) (idx flags : ℕ) → IsSound b → length info.items ≡ length b.info.items → b.idx ≤ idx → idx ≤ length b.info.items → order.lent ≡ None
    → HasOrder order.known (clusters (all_glyphs (sides_of (record b { info = info; idx = idx; order = order; scratch_flags = flags }))))
    → IsSound (record b { info = info; idx = idx; order = order; scratch_flags = flags })
sound_changed b info order idx flags s long later within back o = record {
  cursor = rw long within;
  opened = omega (arith, s.opened, later);
  unopened = s.unopened;
  input_within = rw long s.input_within;
  output_within = s.output_within;
  out_len = moved b.have_output s.out_len;
  together = s.together;
  placed = subst (λ n. OnFalse b.have_output (length b.pos.items ≡ n)) (sym long) s.placed;
  counted = subst (λ n. OnFalse b.is_apart (length b.pos.items ≡ n)) (sym long) s.counted;
  cleared = s.cleared;
  ordered = rw back (subst (HasOrder order.known) (all_own (record b { info = info; idx = idx; order = order; scratch_flags = flags })) o);
}
  where
    moved : (t : Bool) → OnTrue t (b.out_len ≤ b.idx) → OnTrue t (b.out_len ≤ idx)
    moved true le = omega (arith, le, later)
    moved false le = tt

-- an index of the input, and its place in the list
pub input_after : (b : Inside) (i : ℕ) → IsSound b → ((sides_of b).is_open ≡ true → (sides_of b).read ≤ i) → (if b.have_output then b.idx else 0) ≤ i + b.gap
input_after b i s unread = by_open b.have_output refl
  where
    by_open : (t : Bool) → b.have_output ≡ t → (if b.have_output then b.idx else 0) ≤ i + b.gap
    by_open true h = let first : b.idx - b.gap ≤ i = (rw h at unread) refl in rw h (omega (arith, first, s.opened))
    by_open false h = rw h (omega arith)

pub places_within : (b : Inside) (i : ℕ) → IsSound b → i ≤ (sides_of b).read + length (sides_of b).ahead → i + b.gap ≤ length b.info.items
places_within b i s within = by_open b.have_output refl
  where
    by_open : (t : Bool) → b.have_output ≡ t → i + b.gap ≤ length b.info.items
    by_open true h = let there : i ≤ b.idx - b.gap + length (drop b.idx b.info.items) = rw h at within in omega (arith, there, length-drop b.idx b.info.items, s.opened, s.cursor)
    by_open false h =
        let there : i ≤ b.idx + length (drop b.idx b.info.items) = rw h at within in
        let none = closed_gap b s h in
        omega (arith, there, length-drop b.idx b.info.items, s.cursor, none)

-- the same clusters on both sides
pub same_ends : (b : Inside) (info : Vec hb_glyph_info_t) (order : ClusterOrder) (flags : ℕ) → b.have_output ≡ true → clusters (take b.out_len info.items) ≡ clusters (take b.out_len b.info.items) → clusters (drop b.idx info.items) ≡ clusters (drop b.idx b.info.items)
    → clusters (all_glyphs (sides_of b)) ≡ clusters (all_glyphs (sides_of (record b { info = info; order = order; scratch_flags = flags })))
same_ends b info order flags h o i =
    sym (parts_seen b (b.out_len, b.idx) (open_ends b h)) ∙ ap (λ ns. ns ++ clusters (drop b.idx b.info.items)) (sym o) ∙ ap (λ ns. clusters (take b.out_len info.items) ++ ns) (sym i)
    ∙ parts_seen (record b { info = info; order = order; scratch_flags = flags }) (b.out_len, b.idx) (open_ends b h)
