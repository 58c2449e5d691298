-- Positions written, and the cursor moved on: what rules of positioning do to a buffer.
use Rattle.std.proofs.Common.{if◌then◌else◌, Bool, true, false, ℕ, ◌≡◌, ◌<◌, ◌≤◌, ◌+◌, ◌-◌, set, List, [], ◌∷◌, ◌++◌, Some, None, length, take, drop, arith, refl, sym, ap, subst, ◌∙◌, slice_get}
use Rattle.std.proofs.lemmas.List.{take_at, length-set, length-map, length-drop, length-append, map-append, take-map, drop-map, take-append-drop, append_assoc}
use Rattle.buffer_common.specs.declared.direction.Direction.{Direction}
use Rattle.buffer_glyphs.specs.declared.info.hb_glyph_info_t.{hb_glyph_info_t}
use Rattle.buffer_glyphs.specs.Items.{Item, Position, item_of, strip}
use Rattle.buffer_glyphs.specs.Origins.{origins}
use Rattle.buffer_glyphs.specs.Events.{Break}
use Rattle.buffer_core.specs.Lending.{with_positions_refilled}
use Rattle.buffer_core.specs.Sides.{Sides, all_glyphs, after_next_glyphs, stage_flags}
use Rattle.layout_common.specs.Rows.{value_of}
use Rattle.layout_common.specs.declared.glyph_row.GlyphRow.{GlyphRow}
use Rattle.layout_tables.specs.declared.value.ValueRecord.{ValueRecord}
use Rattle.buffer_stages.specs.Actions.{Outcome, Acts, at_first}
use Rattle.buffer_stages.specs.Buffers.{IsPassed, are_glyphs, cut_of}
use Rattle.buffer_stages.specs.Performing.{IsMade, IsPerformed, cut_with}
use Rattle.buffer_stages.proofs.Lemmas.Glyphs.{first_item}
use Rattle.buffer_stages.proofs.Lemmas.Performed.{passes_nothing}
use Rattle.layout_offsets.specs.Links.{position_at}
use Rattle.layout_tables.specs.declared.value.Anchor.{Anchor}
use Rattle.layout_gpos.specs.Anchors.{anchored_position, with_mark_attached}
use Rattle.layout_offsets.specs.Links.{is_near, link_to}
use Rattle.layout_gpos.specs.Values.{with_adjusted_position}
use Rattle.layout_gpos.specs.Moving.{break_around, cut_with_positions}
use Rattle.layout_gpos.specs.Singles.{single_adjusted, single_subtable}

-- as many positions come back as were lent
pub adjusted_back : (ps : List Position) (d : Direction) (i : ℕ) (v : ValueRecord) (s new : Sides) → new ≡ with_positions_refilled ps s → ps ≡ with_adjusted_position d i v s.positions
    → new ≡ record s { positions = with_adjusted_position d i v s.positions }
adjusted_back ps d i v s new e is =
    let qs = with_adjusted_position d i v s.positions in
    e ∙ ap (λ rs. with_positions_refilled rs s) is ∙ ap (λ rs. record s { positions = rs }) (take_at qs (drop (length qs) s.positions) (length s.positions) (length-set s.positions i _))

-- ---- the cursor moves on

same_all : (n : ℕ) (s : Sides) → (s.behind ++ take n s.ahead) ++ drop n s.ahead ≡ all_glyphs s
same_all n s = append_assoc s.behind (take n s.ahead) (drop n s.ahead) ∙ ap (λ gs. s.behind ++ gs) (take-append-drop n s.ahead)

-- positions that were written, told by flags, before the cursor moves on
pub placed_made : (n r f : ℕ) (ps : List Position) (s : Sides) → 0 < n → n ≤ length s.ahead
    → IsMade (record (cut_with_positions n ps (cut_with r s)) { scratch_flags = stage_flags f }) [] r s (after_next_glyphs n (record s { positions = ps; scratch_flags = f }))
placed_made n r f ps s some le =
    let front : strip (s.behind ++ take n s.ahead) ≡ strip s.behind ++ take n (strip s.ahead) = map-append item_of s.behind (take n s.ahead) ∙ ap (λ xs. strip s.behind ++ xs) (sym (take-map item_of n s.ahead)) in
    let rest : strip (drop n s.ahead) ≡ drop n (strip s.ahead) = sym (drop-map item_of n s.ahead) in
    let c = cut_with r s in
    let len = length-drop n s.ahead in
    record {
      cut_is = ap (λ (xs : List Item). record c { front = xs; rest = strip (drop n s.ahead); positions = ps; scratch_flags = stage_flags f }) front
          ∙ ap (λ (xs : List Item). record c { front = c.front ++ take n c.rest; rest = xs; positions = ps; scratch_flags = stage_flags f }) rest;
      happened = ap origins (same_all n s);
      still = refl;
      fewer = omega (arith, some, le, len);
      kept = let more = length-append s.behind (take n s.ahead) in omega (arith, more);
      numbers = λ h. ap (λ gs. are_glyphs (strip gs)) (same_all n s) ∙ h;
    }

-- ---- single adjustment

pub front_count : (r : ℕ) (s : Sides) → length s.behind ≡ length (cut_with r s).front
front_count r s = sym (length-map s.behind item_of)

first_is : (r n : ℕ) (d : Direction) (rows : List (GlyphRow ValueRecord)) (s : Sides) (g : hb_glyph_info_t) → slice_get s.ahead 0 ≡ Some g → n ≡ g.glyph_id
    → single_subtable d rows (cut_with r s) ≡ single_adjusted d (value_of n rows) (cut_with r s)
first_is r n d rows s g at is = ap (λ q. at_first (λ x. single_adjusted d (value_of x.number rows)) q (cut_with r s)) (first_item s.ahead g at) ∙ ap (λ m. single_adjusted d (value_of m rows) (cut_with r s)) (sym is)

pub single_passed : (r n : ℕ) (d : Direction) (rows : List (GlyphRow ValueRecord)) (s : Sides) (g : hb_glyph_info_t) → slice_get s.ahead 0 ≡ Some g → n ≡ g.glyph_id → value_of n rows ≡ None
    → IsPerformed (single_subtable d rows (cut_with r s)) false r r s s
single_passed r n d rows s g at is none = passes_nothing r s (single_subtable d rows (cut_with r s)) (first_is r n d rows s g at is ∙ ap (λ o. single_adjusted d o (cut_with r s)) none)

pub single_acted : (r n i : ℕ) (v : ValueRecord) (rows : List (GlyphRow ValueRecord)) (s new : Sides) (g : hb_glyph_info_t) → slice_get s.ahead 0 ≡ Some g → n ≡ g.glyph_id → value_of n rows ≡ Some v → i ≡ length s.behind → 0 < length s.ahead
    → new ≡ after_next_glyphs 1 (record s { positions = with_adjusted_position s.direction i v s.positions }) → IsPerformed (single_subtable s.direction rows (cut_with r s)) true r r s new
single_acted r n i v rows s new g at is some here there e =
    let acts : single_subtable s.direction rows (cut_with r s) ≡ Acts (cut_with_positions 1 (with_adjusted_position s.direction i v s.positions) (cut_with r s)) [] =
    first_is r n s.direction rows s g at is ∙ ap (λ o. single_adjusted s.direction o (cut_with r s)) some
    ∙ ap (λ k. Acts (cut_with_positions 1 (with_adjusted_position s.direction k v s.positions) (cut_with r s)) []) (sym (here ∙ front_count r s)) in
    let P : Outcome → Type 0 = λ o. IsPerformed o true r r s new in
    let Q : Sides → Type 0 = λ t. IsMade (cut_with_positions 1 (with_adjusted_position s.direction i v s.positions) (cut_with r s)) [] r s t in
    subst P (sym acts) (refl, subst Q (sym e) (placed_made 1 r s.scratch_flags (with_adjusted_position s.direction i v s.positions) s (omega arith) there))

-- ---- marks that come or not

pub break_passed : (back ahead : ℕ) (s new : Sides) → IsPassed (Break (length s.behind - back) (length s.behind + ahead) ∷ []) s new → IsPassed (break_around back ahead (cut_of s)) s new
break_passed back ahead s new p =
    let P : ℕ → Type 0 = λ k. IsPassed (Break (k - back) (k + ahead) ∷ []) s new in
    subst P (sym (length-map s.behind item_of)) p

pub hung_back : (ps : List Position) (at base : ℕ) (b m : Anchor) (s new : Sides) → new ≡ with_positions_refilled ps s → ps ≡ with_mark_attached at base b m s.positions
    → new ≡ record s { positions = with_mark_attached at base b m s.positions }
hung_back ps at base b m s new e is =
    let qs = with_mark_attached at base b m s.positions in
    e ∙ ap (λ rs. with_positions_refilled rs s) is ∙ ap (λ rs. record s { positions = rs }) (take_at qs (drop (length qs) s.positions) (length s.positions) (same_many (is_near at base)))
  where
    same_many : (near : Bool) → length (if near then set s.positions at (anchored_position b m (link_to at base) (position_at at s.positions)) else s.positions) ≡ length s.positions
    same_many true = length-set s.positions at (anchored_position b m (link_to at base) (position_at at s.positions))
    same_many false = refl
