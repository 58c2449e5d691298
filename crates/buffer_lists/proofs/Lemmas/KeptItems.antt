-- What the walk that deletes leaves of items and of positions.
use Rattle.std.proofs.Common.{ℕ, suc, zero, ◌≡◌, ◌≤◌, not, Bool, true, false, if◌then◌else◌, List, [], ◌∷◌, ◌++◌, length, take, drop, arith, refl, ap, sym, ◌∙◌, append_assoc}
use Rattle.std.proofs.lemmas.List.{append-nil, length-map, map-append}
use Rattle.buffer_glyphs.specs.declared.info.hb_glyph_info_t.{hb_glyph_info_t as Glyph}
use Rattle.buffer_glyphs.specs.declared.level.BufferClusterLevel.{BufferClusterLevel as Level}
use Rattle.buffer_glyphs.specs.Items.{Item, Position, item_of, strip}
use Rattle.buffer_glyphs.specs.Deleting.{glyphs_deleted, sides_after_deletion}
use Rattle.buffer_glyphs.proofs.Deleted.{items_deleted}
use Rattle.buffer_glyphs.specs.Lemmas.Handed.{sides_back_items, sides_front_items}
use Rattle.buffer_lists.specs.DeletionWalk.{DeletionState, with_glyph, without_glyph, many_steps, whole_walk}
use Rattle.buffer_lists.specs.Facts.{items_kept, positions_kept}

pub back_length : (breaks : Bool) (level : Level) (front : List Glyph) (g : Glyph) (back : List Glyph) → length (sides_after_deletion breaks level front g back).back ≡ length back
back_length breaks level front g back = sym (length-map (sides_after_deletion breaks level front g back).back item_of) ∙ ap length (sides_back_items breaks (g ∷ []) (glyphs_deleted level front g back) ∙ (items_deleted level front g back).1) ∙ length-map back item_of

items_many : (n : ℕ) (breaks : Bool) (level : Level) (q : Item → Bool) (ks : List Glyph) (kp : List Position) (rest_glyphs : List Glyph) (pa : List Position) (m : Bool) → length rest_glyphs ≤ n
    → strip (many_steps breaks level (λ g. q (item_of g)) n (record { kept = ks; kept_positions = kp; rest_glyphs = rest_glyphs; rest_positions = pa; is_marked = m })).kept ≡ strip ks ++ items_kept q (strip rest_glyphs)
items_many zero breaks level q ks kp [] pa m le = sym (append-nil (strip ks))
items_many zero breaks level q ks kp (g ∷ back) pa m le = absurd (omega arith)
items_many (suc n) breaks level q ks kp [] pa m le = items_many n breaks level q ks kp [] pa m (omega arith)
items_many (suc n) breaks level q ks kp (g ∷ back) pa m le =
    let w : DeletionState = record { kept = ks; kept_positions = kp; rest_glyphs = g ∷ back; rest_positions = pa; is_marked = m } in
    let left = sides_after_deletion breaks level ks g back in
    let plain = glyphs_deleted level ks g back in
    let same = items_deleted level ks g back in
    elim (q (item_of g)) as (λ t. strip (many_steps breaks level (λ h. q (item_of h)) n (if t then without_glyph breaks level w g back else with_glyph w g back)).kept ≡ strip ks ++ (if not t then item_of g ∷ items_kept q (strip back) else items_kept q (strip back))) [
      | true ↦ items_many n breaks level q left.front kp left.back (drop 1 pa) _ (omega (arith, back_length breaks level ks g back)) ∙ ap (λ xs. xs ++ items_kept q (strip left.back)) (sides_front_items breaks (g ∷ []) plain ∙ same.0) ∙ ap (λ xs. strip ks ++ items_kept q xs) (sides_back_items breaks (g ∷ []) plain ∙ same.1)
      | false ↦ items_many n breaks level q (ks ++ g ∷ []) (kp ++ take 1 pa) back (drop 1 pa) m (omega arith) ∙ ap (λ xs. xs ++ items_kept q (strip back)) (map-append item_of ks (g ∷ [])) ∙ append_assoc (strip ks) (item_of g ∷ []) (items_kept q (strip back))
    ]

-- the items that stay are those that the test does not pick
pub items_all : (breaks : Bool) (level : Level) (q : Item → Bool) (gs : List Glyph) (ps : List Position) → strip (whole_walk breaks level (λ g. q (item_of g)) gs ps).kept ≡ items_kept q (strip gs)
items_all breaks level q gs ps = items_many (length gs) breaks level q [] [] gs ps false (omega arith)

no_positions : (q : Item → Bool) (xs : List Item) → positions_kept q xs [] ≡ []
no_positions q [] = refl
no_positions q (x ∷ xs) = refl

first_position : (q : Item → Bool) (x : Item) (xs : List Item) (ps : List Position) → positions_kept q (x ∷ xs) ps ≡ (if q x then positions_kept q xs (drop 1 ps) else take 1 ps ++ positions_kept q xs (drop 1 ps))
first_position q x xs [] = elim (q x) as (λ t. [] ≡ (if t then positions_kept q xs [] else positions_kept q xs [])) [ true ↦ sym (no_positions q xs) | false ↦ sym (no_positions q xs) ]
first_position q x xs (p ∷ ps) = refl

positions_many : (n : ℕ) (breaks : Bool) (level : Level) (q : Item → Bool) (ks : List Glyph) (kp : List Position) (rest_glyphs : List Glyph) (pa : List Position) (m : Bool) → length rest_glyphs ≤ n
    → (many_steps breaks level (λ g. q (item_of g)) n (record { kept = ks; kept_positions = kp; rest_glyphs = rest_glyphs; rest_positions = pa; is_marked = m })).kept_positions ≡ kp ++ positions_kept q (strip rest_glyphs) pa
positions_many zero breaks level q ks kp [] pa m le = sym (append-nil kp)
positions_many zero breaks level q ks kp (g ∷ back) pa m le = absurd (omega arith)
positions_many (suc n) breaks level q ks kp [] pa m le = positions_many n breaks level q ks kp [] pa m (omega arith)
positions_many (suc n) breaks level q ks kp (g ∷ back) pa m le =
    let w : DeletionState = record { kept = ks; kept_positions = kp; rest_glyphs = g ∷ back; rest_positions = pa; is_marked = m } in
    let left = sides_after_deletion breaks level ks g back in
    let rest = positions_kept q (strip back) (drop 1 pa) in
    elim (q (item_of g)) as (λ t. (many_steps breaks level (λ h. q (item_of h)) n (if t then without_glyph breaks level w g back else with_glyph w g back)).kept_positions ≡ kp ++ (if t then rest else take 1 pa ++ rest)) [
      | true ↦ positions_many n breaks level q left.front kp left.back (drop 1 pa) _ (omega (arith, back_length breaks level ks g back)) ∙ ap (λ xs. kp ++ positions_kept q xs (drop 1 pa)) (sides_back_items breaks (g ∷ []) (glyphs_deleted level ks g back) ∙ (items_deleted level ks g back).1)
      | false ↦ positions_many n breaks level q (ks ++ g ∷ []) (kp ++ take 1 pa) back (drop 1 pa) m (omega arith) ∙ append_assoc kp (take 1 pa) rest
    ]
    ∙ ap (λ ps. kp ++ ps) (sym (first_position q (item_of g) (strip back) pa))

-- and so are their positions
pub positions_all : (breaks : Bool) (level : Level) (q : Item → Bool) (gs : List Glyph) (ps : List Position) → (whole_walk breaks level (λ g. q (item_of g)) gs ps).kept_positions ≡ positions_kept q (strip gs) ps
positions_all breaks level q gs ps = positions_many (length gs) breaks level q [] [] gs ps false (omega arith)
