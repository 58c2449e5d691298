-- What requests for glyph flags do to items, and to the origins of glyphs.
use Rattle.std.proofs.Common.{ℕ, ◌≡◌, ◌≤◌, ◌<◌, ◌+◌, true, false, if◌then◌else◌, [], ◌∷◌, length, refl, ap, ◌∙◌, arith}
use Rattle.std.specs.Prelude.{Option, unwrap_or}
use Rattle.buffer_glyphs.specs.Origins.{origins, origins_marked, origins_flagged}
use Rattle.buffer_glyphs.specs.Events.{Break, Concat, StrictBreak, Tatweel, concat_marked as origins_concat, strictly_marked as origins_strict, tatweel_marked as origins_tatweel}
use Rattle.buffer_glyphs.specs.Lemmas.Origins.{origins_of_marked, origins_of_flagged}
use Rattle.buffer_core.specs.Sides.{Sides, all_glyphs, items_of, origins_of, origins_by, requests_breaks}
use Rattle.buffer_core.specs.Marking.{start_or, end_or, start_in_all, end_in_all, with_flagged_apart, with_flagged, range_flagged_apart, flagged_range, after_mark_across, after_flag_across, strictly_marked, requests_concat, requests_tatweel, concat_marked, tatweel_marked, concat_marked_across}
use Rattle.buffer_core.proofs.Marked.{all_marked, all_flagged, marked_items, flagged_items}

marked_origins : (bits from to : ℕ) (s : Sides) → bits < 8 → from ≤ to → origins_of (with_flagged_apart bits from to s) ≡ origins_marked bits from to (origins_of s)
marked_origins bits from to s lt le = ap origins (all_marked bits from to s) ∙ origins_of_marked bits from to (all_glyphs s) lt le

flagged_origins : (bits from to : ℕ) (s : Sides) → bits < 8 → from ≤ to → origins_of (with_flagged bits from to s) ≡ origins_flagged bits from to (origins_of s)
flagged_origins bits from to s lt le = ap origins (all_flagged bits from to s) ∙ origins_of_flagged bits from to (all_glyphs s) lt le

-- a range of the input, and one that begins in the output
input_ordered : (start end : Option ℕ) (s : Sides) → start_or start ≤ end_or end s → start_in_all start s ≤ end_in_all end s
input_ordered start end s le = omega arith

across_ordered : (start end : Option ℕ) (s : Sides) → start_or start ≤ length s.behind → s.read ≤ end_or end s → start_or start ≤ end_in_all end s
across_ordered start end s begins unread = omega arith

-- the ends of a range, told or not
pub range_told : {X : Type 0} (f : ℕ → ℕ → X) (start end : Option ℕ) (s : Sides) (i j count : ℕ) → i ≡ start_or start → count ≡ s.read + length s.ahead → j ≡ unwrap_or end count → f i j ≡ f (start_or start) (end_or end s)
range_told f start end s i j count from long to = ap (λ k. f k j) from ∙ ap (f (start_or start)) (to ∙ ap (unwrap_or end) long)

-- ---- `unsafe_to_break`

pub broken_items : (start end : Option ℕ) (s : Sides) → start_or start ≤ end_or end s → items_of (range_flagged_apart 3 start end s) ≡ items_of s
broken_items start end s le = marked_items 3 (start_in_all start s) (end_in_all end s) s (omega arith) (input_ordered start end s le)

pub broken_origins : (start end : Option ℕ) (s : Sides) → start_or start ≤ end_or end s
    → origins_of (range_flagged_apart 3 start end s) ≡ origins_by (Break (start_in_all start s) (end_in_all end s) ∷ []) s
broken_origins start end s le = marked_origins 3 (start_in_all start s) (end_in_all end s) s (omega arith) (input_ordered start end s le)

-- `unsafe_to_break_from_outbuffer`
pub broken_items_across : (start end : Option ℕ) (s : Sides) → start_or start ≤ length s.behind → s.read ≤ end_or end s → items_of (after_mark_across 3 start end s) ≡ items_of s
broken_items_across start end s begins unread = marked_items 3 (start_or start) (end_in_all end s) s (omega arith) (across_ordered start end s begins unread)

pub broken_across : (start end : Option ℕ) (s : Sides) → start_or start ≤ length s.behind → s.read ≤ end_or end s
    → origins_of (after_mark_across 3 start end s) ≡ origins_by (Break (start_or start) (end_in_all end s) ∷ []) s
broken_across start end s begins unread = marked_origins 3 (start_or start) (end_in_all end s) s (omega arith) (across_ordered start end s begins unread)

-- ---- `unsafe_to_concat`

pub concat_items : (start end : Option ℕ) (s : Sides) → start_or start ≤ end_or end s → items_of (concat_marked start end s) ≡ items_of s
concat_items start end s le =
    elim (requests_concat s) as (λ b. items_of (if b then flagged_range 2 start end s else s) ≡ items_of s)
    [ true ↦ flagged_items 2 (start_in_all start s) (end_in_all end s) s (omega arith) (input_ordered start end s le) | false ↦ refl ]

pub concat_origins : (start end : Option ℕ) (s : Sides) → start_or start ≤ end_or end s
    → origins_of (concat_marked start end s) ≡ origins_by (Concat (start_in_all start s) (end_in_all end s) ∷ []) s
concat_origins start end s le =
    let from = start_in_all start s in
    let to = end_in_all end s in
    elim (requests_concat s) as (λ b. origins_of (if b then flagged_range 2 start end s else s) ≡ origins_concat b from to (origins_of s))
    [ true ↦ flagged_origins 2 from to s (omega arith) (input_ordered start end s le) | false ↦ refl ]

-- `unsafe_to_concat_from_outbuffer`
pub concat_items_across : (start end : Option ℕ) (s : Sides) → start_or start ≤ length s.behind → s.read ≤ end_or end s → items_of (concat_marked_across start end s) ≡ items_of s
concat_items_across start end s begins unread =
    elim (requests_concat s) as (λ b. items_of (if b then after_flag_across 2 start end s else s) ≡ items_of s)
    [ true ↦ flagged_items 2 (start_or start) (end_in_all end s) s (omega arith) (across_ordered start end s begins unread) | false ↦ refl ]

pub concat_across : (start end : Option ℕ) (s : Sides) → start_or start ≤ length s.behind → s.read ≤ end_or end s
    → origins_of (concat_marked_across start end s) ≡ origins_by (Concat (start_or start) (end_in_all end s) ∷ []) s
concat_across start end s begins unread =
    let from = start_or start in
    let to = end_in_all end s in
    elim (requests_concat s) as (λ b. origins_of (if b then after_flag_across 2 start end s else s) ≡ origins_concat b from to (origins_of s))
    [ true ↦ flagged_origins 2 from to s (omega arith) (across_ordered start end s begins unread) | false ↦ refl ]

-- ---- `safe_to_insert_tatweel`

pub tatweel_items : (start end : Option ℕ) (s : Sides) → start_or start ≤ end_or end s → items_of (tatweel_marked start end s) ≡ items_of s
tatweel_items start end s le =
    let from = start_in_all start s in
    let to = end_in_all end s in
    let ordered = input_ordered start end s le in
    elim (requests_tatweel s) as (λ b. items_of (if b then range_flagged_apart 4 start end s else range_flagged_apart 3 start end s) ≡ items_of s)
    [ true ↦ marked_items 4 from to s (omega arith) ordered | false ↦ marked_items 3 from to s (omega arith) ordered ]

pub tatweel_origins : (start end : Option ℕ) (s : Sides) → start_or start ≤ end_or end s
    → origins_of (tatweel_marked start end s) ≡ origins_by (Tatweel (start_in_all start s) (end_in_all end s) ∷ []) s
tatweel_origins start end s le =
    let from = start_in_all start s in
    let to = end_in_all end s in
    let ordered = input_ordered start end s le in
    elim (requests_tatweel s) as (λ b. origins_of (if b then range_flagged_apart 4 start end s else range_flagged_apart 3 start end s) ≡ origins_tatweel b from to (origins_of s))
    [ true ↦ marked_origins 4 from to s (omega arith) ordered | false ↦ marked_origins 3 from to s (omega arith) ordered ]

-- ---- `unsafe_to_break_strictly`

pub strict_items : (start end : Option ℕ) (s : Sides) → start_or start ≤ end_or end s → items_of (strictly_marked start end s) ≡ items_of s
strict_items start end s le =
    elim (requests_breaks s) as (λ b. items_of (if b then range_flagged_apart 3 start end s else s) ≡ items_of s)
    [ true ↦ broken_items start end s le | false ↦ refl ]

pub strict_origins : (start end : Option ℕ) (s : Sides) → start_or start ≤ end_or end s
    → origins_of (strictly_marked start end s) ≡ origins_by (StrictBreak (start_in_all start s) (end_in_all end s) ∷ []) s
strict_origins start end s le =
    let from = start_in_all start s in
    let to = end_in_all end s in
    elim (requests_breaks s) as (λ b. origins_of (if b then range_flagged_apart 3 start end s else s) ≡ origins_strict b from to (origins_of s))
    [ true ↦ marked_origins 3 from to s (omega arith) (input_ordered start end s le) | false ↦ refl ]
