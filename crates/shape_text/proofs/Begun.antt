-- One mask for all glyphs.
use Rattle.std.proofs.Common.{ℕ, ◌≡◌, List, [], ◌∷◌, length, map, take, refl, sym, ap, ◌∙◌}
use Rattle.std.proofs.lemmas.List.{length-map}
use Rattle.buffer_glyphs.specs.declared.info.hb_glyph_info_t.{hb_glyph_info_t}
use Rattle.buffer_glyphs.specs.Items.{Item, glyph_masked, item_masked, item_of}
use Rattle.buffer_glyphs.specs.Events.{Reset}
use Rattle.buffer_core.specs.Readings.{View, always}
use Rattle.buffer_core.specs.Masks.{with_masks}
use Rattle.buffer_core.specs.Sides.{Sides, all_glyphs, items_of, origins_by, origins_of, settings_of, stage_flags, view_of}
use Rattle.buffer_stages.specs.Buffers.{are_glyphs}
use Rattle.buffer_stages.specs.Ready.{IsDone, IsReady}
use Rattle.buffer_stages.specs.Lemmas.Written.{happened_followed}
use Rattle.shape_text.specs.Masks.{with_one_mask}

kept_numbers : (m : ℕ) (xs : List Item) → are_glyphs (map (item_masked m) xs) ≡ are_glyphs xs
kept_numbers m [] = refl
kept_numbers m (x ∷ xs) = rw (kept_numbers m xs) refl

abbrev seen_with : List Item → Sides → View
seen_with xs n = record { items = xs; positions = n.positions; lig_id = n.lig_id; max_ops = n.max_ops; random = 1; max_len = n.max_len; direction = n.direction; scratch_flags = stage_flags n.scratch_flags }

pub reset_done : (m : ℕ) (s new : Sides) → new ≡ with_masks m s → items_of new ≡ map (item_masked m) (items_of s) → origins_of new ≡ origins_by (Reset ∷ []) s → IsReady s → IsDone (always (with_one_mask m)) s new
reset_done m s new e items from ready =
    let settings : settings_of new ≡ settings_of s = ap settings_of e in
    let same : length (all_glyphs s) ≡ length (all_glyphs new) =
    sym (length-map (all_glyphs s) item_of) ∙ sym (length-map (items_of s) (item_masked m)) ∙ ap (λ (ys : List Item). length ys) (sym items) ∙ length-map (all_glyphs new) item_of in
    let ready' : IsReady new = record {
      closed = ap (λ (n : Sides). n.is_open) e ∙ ready.closed;
      front = ap (λ (n : Sides). n.behind) e ∙ ap (λ (ys : List hb_glyph_info_t). take (length ys) (map (glyph_masked m) (all_glyphs s))) ready.front;
      unread = ap (λ (n : Sides). n.read) e ∙ ready.unread;
      placed = ap (λ (n : Sides). length n.positions) e ∙ ready.placed ∙ same;
      unrefused = ap (λ (n : Sides). n.has_refused) e ∙ ready.unrefused;
    } in
    let f = happened_followed (Reset ∷ []) (record (view_of s) { items = map (item_masked m) (items_of s) }) (always (with_one_mask m)) s new
    (ap (seen_with (items_of new)) e ∙ ap (λ xs. seen_with xs s) items) from settings ready' refl in
    record {
      follows = f.follows;
      settings = settings;
      ready = ready';
      numbers = λ are. ap are_glyphs items ∙ kept_numbers m (items_of s) ∙ are;
    }
