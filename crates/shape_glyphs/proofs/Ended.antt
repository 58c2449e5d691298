-- Stages over glyphs.
use Rattle.std.proofs.Common.{ℕ, suc, nat_le, ◌≡◌, ◌∷◌, arith, Bool, true, false, not, if◌then◌else◌, List, [], length, map, min, take, refl, sym, ap, ◌∙◌}
use Rattle.std.proofs.lemmas.List.{length-map}
use Rattle.std.proofs.lemmas.Bool.{and_parts, le-leb}
use mir.Syntax.{w16}
use mir.Val.{Fits}
use Rattle.buffer_glyphs.specs.declared.info.hb_glyph_info_t.{hb_glyph_info_t}
use Rattle.buffer_glyphs.specs.Items.{Item, Position, item_of, item_masked}
use Rattle.buffer_glyphs.specs.Events.{Spread}
use Rattle.buffer_core.specs.Readings.{View, always}
use Rattle.buffer_lists.specs.DeletionWalk.{DeletionState, whole_walk}
use Rattle.buffer_lists.specs.Events.{deletions}
use Rattle.buffer_lists.specs.Facts.{items_kept, positions_kept}
use Rattle.buffer_core.specs.Grouping.{with_picked_deleted}
use Rattle.buffer_core.specs.Merging.{with_has_glyph_flags, with_glyphs as with_all}
use Rattle.buffer_core.proofs.Told.{stage_flags_ignore_glyph_flags}
use Rattle.buffer_glyphs.specs.PropertyWords.{is_default_ignorable}
use Rattle.buffer_core.specs.Sides.{Sides, all_glyphs, items_of, origins_by, origins_of, requests_breaks, settings_of, stage_flags, view_of}
use Rattle.buffer_stages.specs.Buffers.{are_glyphs}
use Rattle.buffer_stages.specs.Ready.{IsDone, IsReady}
use Rattle.buffer_stages.specs.Stages.{IsFollowed, with_items_mapped}
use Rattle.buffer_stages.specs.Lemmas.Written.{happened_followed}
use Rattle.buffer_stages.proofs.Mapped.{kept_numbers, mapped_items}
use Rattle.shape_glyphs.specs.Glyphs.{as_glyph}
use Rattle.shape_glyphs.specs.Flags.{with_flags_spread}
use Rattle.shape_glyphs.specs.Ignorables.{hidden_item, without_ignorables}
use Rattle.shape_glyphs.specs.Selectors.{is_recorded_selector, shown_selector}
use Rattle.ucd_category.specs.declared.GeneralCategory.TheVariants.{NonspacingMark}
use Rattle.buffer_unicode.specs.Category.{category_number}
use Rattle.buffer_properties.specs.Properties.{without_bits}
use Rattle.buffer_properties.specs.Characters.{with_category}

-- ---- numbers

pub glyph_if : (n : ℕ) (b : Bool) → nat_le n 65535 ≡ b → nat_le (if b then n else 0) 65535 ≡ true
glyph_if n true h = h
glyph_if n false h = refl

chosen_numbers : (xs : List Item) → are_glyphs (map as_glyph xs) ≡ true
chosen_numbers [] = refl
chosen_numbers (x ∷ xs) = rw (glyph_if x.glyph_index (nat_le x.glyph_index 65535) refl, chosen_numbers xs) refl

-- chosen glyphs are glyphs
pub chosen_glyphs : (old new : Sides) → IsFollowed (always (with_items_mapped as_glyph)) old new → are_glyphs (items_of new) ≡ true
chosen_glyphs old new f = ap are_glyphs (mapped_items as_glyph old new f) ∙ chosen_numbers (items_of old)

-- items of which some show a glyph
shown_each : (b : Bool) (x y : Item) → nat_le y.number 65535 ≡ true → nat_le x.number 65535 ≡ true → nat_le (if b then y else x).number 65535 ≡ true
shown_each true x y h k = h
shown_each false x y h k = k

shown_numbers : (g : ℕ) (is_shown : Item → Bool) (shown : Item → Item) → ((x : Item) → (shown x).number ≡ g) → nat_le g 65535 ≡ true → (xs : List Item) → are_glyphs xs ≡ true → are_glyphs (map (λ x. if is_shown x then shown x else x) xs) ≡ true
shown_numbers g is_shown shown same h [] k = refl
shown_numbers g is_shown shown same h (x ∷ xs) k =
    let both = and_parts (nat_le x.number 65535) (are_glyphs xs) k in
    rw (shown_each (is_shown x) x (shown x) (ap (λ n. nat_le n 65535) (same x) ∙ h) both.0, shown_numbers g is_shown shown same h xs both.1) refl

shown_done : (g : ℕ) (is_shown : Item → Bool) (shown : Item → Item) → ((x : Item) → (shown x).number ≡ g) → nat_le g 65535 ≡ true → (old new : Sides) → IsFollowed (always (with_items_mapped (λ x. if is_shown x then shown x else x))) old new
    → IsDone (always (with_items_mapped (λ x. if is_shown x then shown x else x))) old new
shown_done g is_shown shown same h old new f = record {
  follows = f.follows;
  settings = f.settings;
  ready = f.ready;
  numbers = λ are. ap are_glyphs (mapped_items (λ x. if is_shown x then shown x else x) old new f) ∙ shown_numbers g is_shown shown same h (items_of old) are;
}

fits_glyph : (g : ℕ) → Fits w16 g → nat_le g 65535 ≡ true
fits_glyph g h = let under = h.fits in le-leb g 65535 (omega (arith, under))

-- an ignorable is shown as a glyph
pub hidden_done : (g : ℕ) (old new : Sides) → Fits w16 g → IsFollowed (always (with_items_mapped (hidden_item g))) old new → IsDone (always (with_items_mapped (hidden_item g))) old new
hidden_done g old new h f = shown_done g is_default_ignorable (λ x. record x { number = g }) (λ x. refl) (fits_glyph g h) old new f

-- and so is a selector
pub selectors_done : (g : ℕ) (old new : Sides) → Fits w16 g → IsFollowed (always (with_items_mapped (shown_selector g))) old new → IsDone (always (with_items_mapped (shown_selector g))) old new
selectors_done g old new h f =
    shown_done g is_recorded_selector (λ x. record x { number = g; unicode_props = without_bits 0x400 (with_category (category_number NonspacingMark) x.unicode_props) }) (λ x. refl) (fits_glyph g h) old new f

-- glyphs, some of which are deleted
kept_each : (b : Bool) (x : Item) (xs : List Item) → nat_le x.number 65535 ≡ true → are_glyphs xs ≡ true → are_glyphs (if not b then x ∷ xs else xs) ≡ true
kept_each true x xs h k = k
kept_each false x xs h k = rw (h, k) refl

kept_glyphs : (q : Item → Bool) (xs : List Item) → are_glyphs xs ≡ true → are_glyphs (items_kept q xs) ≡ true
kept_glyphs q [] h = refl
kept_glyphs q (x ∷ xs) h =
    let both = and_parts (nat_le x.number 65535) (are_glyphs xs) h in
    kept_each (q x) x (items_kept q xs) both.0 (kept_glyphs q xs both.1)

-- ---- flags

-- what stages see of a buffer, with other items
abbrev seen_with : List Item → Sides → View
seen_with xs n = record { items = xs; positions = n.positions; lig_id = n.lig_id; max_ops = n.max_ops; random = 1; max_len = n.max_len; direction = n.direction; scratch_flags = stage_flags n.scratch_flags }

many : (a b : Sides) (xs : List Item) → items_of a ≡ xs → length xs ≡ length (all_glyphs b) → length (all_glyphs b) ≡ length (all_glyphs a)
many a b xs e f = sym f ∙ ap (λ (ys : List Item). length ys) (sym e) ∙ length-map (all_glyphs a) item_of

pub spread_done : (s new : Sides) → new ≡ with_all (all_glyphs new) s → items_of new ≡ map (item_masked 0) (items_of s) → origins_of new ≡ origins_by (Spread ∷ []) s → IsReady s → IsDone (always with_flags_spread) s new
spread_done s new e items from ready =
    let settings : settings_of new ≡ settings_of s = ap settings_of e in
    let same : length (all_glyphs s) ≡ length (all_glyphs new) = many new s (map (item_masked 0) (items_of s)) items (length-map (items_of s) (item_masked 0) ∙ length-map (all_glyphs s) item_of) in
    let ready' : IsReady new = record {
      closed = ap (λ (n : Sides). n.is_open) e ∙ ready.closed;
      front = ap (λ (n : Sides). n.behind) e ∙ ap (λ (ys : List hb_glyph_info_t). take (length ys) (all_glyphs new)) ready.front;
      unread = ap (λ (n : Sides). n.read) e ∙ ready.unread;
      placed = ap (λ (n : Sides). length n.positions) e ∙ ready.placed ∙ same;
      unrefused = ap (λ (n : Sides). n.has_refused) e ∙ ready.unrefused;
    } in
    let f = happened_followed (Spread ∷ []) (record (view_of s) { items = map (item_masked 0) (items_of s) }) (always with_flags_spread) s new
    (ap (seen_with (items_of new)) e ∙ ap (λ xs. seen_with xs s) items) from settings ready' refl in
    record {
      follows = f.follows;
      settings = settings;
      ready = ready';
      numbers = λ are. ap are_glyphs items ∙ kept_numbers (item_masked 0) (λ x. refl) (items_of s) ∙ are;
    }

-- ---- deletion

pub same_length : (q : Item → Bool) (xs : List Item) (ps : List Position) → length ps ≡ length xs → length (positions_kept q xs ps) ≡ length (items_kept q xs)
same_length q [] [] e = refl
same_length q [] (p ∷ ps) e = absurd (omega (arith, e))
same_length q (x ∷ xs) [] e = absurd (omega (arith, e))
same_length q (x ∷ xs) (p ∷ ps) e = by_test (q x) (same_length q xs ps (omega (arith, e)))
  where
    by_test : (b : Bool) → length (positions_kept q xs ps) ≡ length (items_kept q xs) → length (if b then positions_kept q xs ps else p ∷ positions_kept q xs ps) ≡ length (if not b then x ∷ items_kept q xs else items_kept q xs)
    by_test true h = h
    by_test false h = ap suc h

deleted_followed : (s new : Sides) (goes : hb_glyph_info_t → Bool) → new ≡ with_picked_deleted goes s
    → items_of new ≡ items_kept is_default_ignorable (items_of s) → new.positions ≡ positions_kept is_default_ignorable (items_of s) s.positions
    → origins_of new ≡ origins_by (deletions is_default_ignorable (items_of s)) s → IsReady s → IsFollowed (always without_ignorables) s new
deleted_followed s new goes e items positions from ready =
    let t : DeletionState = whole_walk (requests_breaks s) s.level goes (all_glyphs s) s.positions in
    let none : min s.read (length t.kept) ≡ 0 = omega (arith, ready.unread) in
    let xs = items_kept is_default_ignorable (items_of s) in
    let ps = positions_kept is_default_ignorable (items_of s) s.positions in
    happened_followed (deletions is_default_ignorable (items_of s)) (record (view_of s) { items = xs; positions = ps }) (always without_ignorables) s new
    (ap (λ (n : Sides). record { items = items_of new; positions = new.positions; lig_id = n.lig_id; max_ops = n.max_ops; random = 1; max_len = n.max_len; direction = n.direction; scratch_flags = stage_flags n.scratch_flags }) e
    ∙ ap (λ ys. record (view_of s) { items = ys; positions = new.positions; scratch_flags = stage_flags (with_has_glyph_flags t.is_marked s.scratch_flags) }) items
    ∙ ap (λ qs. record (view_of s) { items = xs; positions = qs; scratch_flags = stage_flags (with_has_glyph_flags t.is_marked s.scratch_flags) }) positions
    ∙ ap (λ f. record (view_of s) { items = xs; positions = ps; scratch_flags = f }) (stage_flags_ignore_glyph_flags t.is_marked s.scratch_flags))
    from (ap settings_of e)
    (record {
      closed = ap (λ (n : Sides). n.is_open) e ∙ ready.closed;
      front = ap (λ (n : Sides). n.behind) e ∙ ap (λ k. take k t.kept) none;
      unread = ap (λ (n : Sides). n.read) e ∙ none;
      placed = ap (λ (qs : List Position). length qs) positions
          ∙ same_length is_default_ignorable (items_of s) s.positions (ready.placed ∙ sym (length-map (all_glyphs s) item_of))
          ∙ ap (λ (ys : List Item). length ys) (sym items) ∙ length-map (all_glyphs new) item_of;
      unrefused = ap (λ (n : Sides). n.has_refused) e ∙ ready.unrefused;
    })
    refl

pub deleted_done : (s new : Sides) (goes : hb_glyph_info_t → Bool) → new ≡ with_picked_deleted goes s
    → items_of new ≡ items_kept is_default_ignorable (items_of s) → new.positions ≡ positions_kept is_default_ignorable (items_of s) s.positions
    → origins_of new ≡ origins_by (deletions is_default_ignorable (items_of s)) s → IsReady s → IsDone (always without_ignorables) s new
deleted_done s new goes e items positions from ready =
    let f = deleted_followed s new goes e items positions from ready in
    record {
      follows = f.follows;
      settings = f.settings;
      ready = f.ready;
      numbers = λ are. ap are_glyphs items ∙ kept_glyphs is_default_ignorable (items_of s) are;
    }
