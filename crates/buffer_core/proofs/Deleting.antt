-- The glyph at the cursor was deleted.
use Rattle.std.specs.Global.{Vec}
use Rattle.std.proofs.Common.{ℕ, ◌≡◌, ◌≤◌, ◌+◌, ◌-◌, Bool, true, List, ◌∷◌, ◌++◌, take, drop, refl, ap, sym, ◌∙◌, get_or, arith, ◌<◌, [], length}
use Rattle.std.proofs.lemmas.List.{drop-drop, map-append}
use Rattle.buffer_glyphs.specs.declared.info.hb_glyph_info_t.{hb_glyph_info_t as Glyph}
use Rattle.buffer_glyphs.specs.Items.{item_of, strip}
use Rattle.buffer_glyphs.proofs.Deleted.{items_deleted}
use Rattle.buffer_glyphs.specs.Deleting.{glyphs_deleted, Deletes}
use Rattle.buffer_core.specs.declared.buffer.hb_buffer_t.TheInside.{Inside}
use Rattle.buffer_lists.specs.declared.order.ClusterOrder.{ClusterOrder}
use Rattle.buffer_core.specs.Grouping.{with_current_deleted}
use Rattle.buffer_core.specs.Inside.{sides_of}
use Rattle.buffer_core.specs.Merging.{with_glyph_passed, with_has_glyph_flags}
use Rattle.buffer_core.specs.Sides.{Sides, items_of}
use Rattle.buffer_core.specs.Moving.{zero_glyph}

pub skipped_view : (b : Inside) → b.gap ≤ b.idx → b.have_output ≡ true → sides_of (record b { idx = b.idx + 1 }) ≡ with_glyph_passed (sides_of b)
skipped_view b le h =
    let read : b.idx + 1 - b.gap ≡ b.idx - b.gap + 1 = omega (arith, le) in
    rw (h, ← drop-drop 1 b.idx b.info.items, read) refl

pub deleted_view : (b : Inside) (info : Vec Glyph) (order : ClusterOrder) (flags : ℕ) (m : Bool) (g : Glyph) (back : List Glyph) → b.gap ≤ b.idx → b.have_output ≡ true → drop b.idx b.info.items ≡ g ∷ back
    → Deletes b.cluster_level (take b.out_len b.info.items) (drop b.idx b.info.items) (take b.out_len info.items) (drop (b.idx + 1) info.items) m → flags ≡ with_has_glyph_flags m b.scratch_flags
    → sides_of (record b { info = info; idx = b.idx + 1; scratch_flags = flags; order = order }) ≡ with_current_deleted g back (sides_of b)
deleted_view b info order flags m g back le h e gone f =
    let read : b.idx + 1 - b.gap ≡ b.idx - b.gap + 1 = omega (arith, le) in
    let one = gone.front_is g back e in
    let two = gone.back_is g back e in
    let three = gone.marked_is g back e in
    rw (h, one, two, f, three, read) refl

pub left_items : (g : Glyph) (back : List Glyph) (s : Sides) → s.ahead ≡ g ∷ back → items_of (with_current_deleted g back s) ≡ strip s.behind ++ drop 1 (strip s.ahead)
left_items g back s e =
    let left = glyphs_deleted s.level s.behind g back in
    let both = items_deleted s.level s.behind g back in
    map-append item_of left.front left.back ∙ ap (λ xs. xs ++ strip left.back) both.0 ∙ ap (λ xs. strip s.behind ++ xs) (both.1 ∙ ap (λ hs. drop 1 (strip hs)) (sym e))

-- the first of some glyphs, and the others
pub first_is : (gs : List Glyph) → 0 < length gs → gs ≡ get_or gs 0 zero_glyph ∷ drop 1 gs
first_is [] some = absurd (omega arith)
first_is (g ∷ gs) some = refl
