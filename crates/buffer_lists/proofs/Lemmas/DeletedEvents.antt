-- Deletions in place are events.
use Rattle.std.proofs.Common.{ℕ, suc, zero, ◌≡◌, ◌≤◌, ◌+◌, Bool, true, false, if◌then◌else◌, List, [], ◌∷◌, ◌++◌, length, take, drop, arith, ap, sym, ◌∙◌, append_assoc}
use Rattle.std.proofs.lemmas.List.{append-nil, drop-map, length-append, length-map}
use Rattle.std.proofs.Math.Seq.{drop-append_seam}
use Rattle.buffer_glyphs.specs.declared.info.hb_glyph_info_t.{hb_glyph_info_t as Glyph}
use Rattle.buffer_glyphs.specs.declared.level.BufferClusterLevel.{BufferClusterLevel as Level}
use Rattle.buffer_glyphs.specs.Items.{Item, Position, item_of, strip}
use Rattle.buffer_glyphs.specs.Origins.{Asks, origin_of, origins, origins_deleted, origins_handed_if}
use Rattle.buffer_glyphs.specs.Events.{Delete, origins_after, IsPlain}
use Rattle.buffer_glyphs.specs.Deleting.{glyphs_deleted, sides_after_deletion}
use Rattle.buffer_glyphs.proofs.Deleted.{items_deleted}
use Rattle.buffer_glyphs.proofs.DeletedOrigins.{deletion_after_front}
use Rattle.buffer_glyphs.specs.Lemmas.Handed.{sides_back_items, sides_front_count, sides_origins}
use Rattle.buffer_lists.specs.DeletionWalk.{DeletionState, with_glyph, without_glyph, many_steps, whole_walk}
use Rattle.buffer_lists.specs.Events.{deletions_from, deletions}
use Rattle.buffer_lists.proofs.Lemmas.KeptItems.{back_length}

plain_length : (level : Level) (front : List Glyph) (g : Glyph) (back : List Glyph) → length (glyphs_deleted level front g back).front ≡ length front
plain_length level front g back = sym (length-map (glyphs_deleted level front g back).front item_of) ∙ ap length (items_deleted level front g back).0 ∙ length-map front item_of

front_length : (breaks : Bool) (level : Level) (front : List Glyph) (g : Glyph) (back : List Glyph) → length (sides_after_deletion breaks level front g back).front ≡ length front
front_length breaks level front g back = sides_front_count breaks (g ∷ []) (glyphs_deleted level front g back) ∙ plain_length level front g back

-- the origins after one deletion
one_deleted : (breaks : Bool) (level : Level) (front : List Glyph) (g : Glyph) (back : List Glyph)
    → origins ((sides_after_deletion breaks level front g back).front ++ (sides_after_deletion breaks level front g back).back)
    ≡ origins_handed_if breaks (take 1 (drop (length front) (origins (front ++ g ∷ back)))) (length front) (origins_deleted level (length front) (origins (front ++ g ∷ back)))
one_deleted breaks level front g back =
    let os = origins (front ++ g ∷ back) in
    let there : drop (length front) os ≡ origins (g ∷ back) = drop-map origin_of (length front) (front ++ g ∷ back) ∙ ap origins (drop-append_seam front (g ∷ back)) in
    sides_origins breaks (g ∷ []) (glyphs_deleted level front g back)
    ∙ ap (λ n. origins_handed_if breaks (origin_of g ∷ []) n (origins ((glyphs_deleted level front g back).front ++ (glyphs_deleted level front g back).back))) (plain_length level front g back)
    ∙ ap (origins_handed_if breaks (origin_of g ∷ []) (length front)) (deletion_after_front level front g back)
    ∙ ap (λ qs. origins_handed_if breaks (take 1 qs) (length front) (origins_deleted level (length front) os)) (sym there)

deletions_many : (n : ℕ) (asks : Asks) (level : Level) (q : Item → Bool) (ks : List Glyph) (kp : List Position) (rest_glyphs : List Glyph) (pa : List Position) (m : Bool) → length rest_glyphs ≤ n
    → origins (many_steps asks.breaks level (λ g. q (item_of g)) n (record { kept = ks; kept_positions = kp; rest_glyphs = rest_glyphs; rest_positions = pa; is_marked = m })).kept ≡ origins_after asks level (deletions_from q (length ks) (strip rest_glyphs)) (origins (ks ++ rest_glyphs))
deletions_many zero asks level q ks kp [] pa m le = ap origins (sym (append-nil ks))
deletions_many zero asks level q ks kp (g ∷ back) pa m le = absurd (omega arith)
deletions_many (suc n) asks level q ks kp [] pa m le = deletions_many n asks level q ks kp [] pa m (omega arith)
deletions_many (suc n) asks level q ks kp (g ∷ back) pa m le =
    let w : DeletionState = record { kept = ks; kept_positions = kp; rest_glyphs = g ∷ back; rest_positions = pa; is_marked = m } in
    let at = length ks in
    let left = sides_after_deletion asks.breaks level ks g back in
    elim (q (item_of g))
    as (λ t. origins (many_steps asks.breaks level (λ h. q (item_of h)) n (if t then without_glyph asks.breaks level w g back else with_glyph w g back)).kept ≡ origins_after asks level (if t then Delete at ∷ deletions_from q at (strip back) else deletions_from q (at + 1) (strip back)) (origins (ks ++ g ∷ back))) [
      | true ↦ deletions_many n asks level q left.front kp left.back (drop 1 pa) _ (omega (arith, back_length asks.breaks level ks g back))
          ∙ ap (λ i. origins_after asks level (deletions_from q i (strip left.back)) (origins (left.front ++ left.back))) (front_length asks.breaks level ks g back)
          ∙ ap (λ xs. origins_after asks level (deletions_from q at xs) (origins (left.front ++ left.back))) (sides_back_items asks.breaks (g ∷ []) (glyphs_deleted level ks g back) ∙ (items_deleted level ks g back).1)
          ∙ ap (origins_after asks level (deletions_from q at (strip back))) (one_deleted asks.breaks level ks g back)
      | false ↦ deletions_many n asks level q (ks ++ g ∷ []) (kp ++ take 1 pa) back (drop 1 pa) m (omega arith)
          ∙ ap (λ i. origins_after asks level (deletions_from q i (strip back)) (origins ((ks ++ g ∷ []) ++ back))) (length-append ks (g ∷ []))
          ∙ ap (λ hs. origins_after asks level (deletions_from q (at + 1) (strip back)) (origins hs)) (append_assoc ks (g ∷ []) back)
    ]

-- the origins of the glyphs that a walk of deletions leaves
pub deletions_are_events : (asks : Asks) (level : Level) (q : Item → Bool) (gs : List Glyph) (ps : List Position) → origins (whole_walk asks.breaks level (λ g. q (item_of g)) gs ps).kept ≡ origins_after asks level (deletions q (strip gs)) (origins gs)
deletions_are_events asks level q gs ps = deletions_many (length gs) asks level q [] [] gs ps false (omega arith)

-- none of them rearranges glyphs
pub deletions_are_plain : {X : Type 0} (goes : X → Bool) (at : ℕ) (xs : List X) → IsPlain (deletions_from goes at xs)
deletions_are_plain goes at [] = tt
deletions_are_plain goes at (x ∷ xs) = elim (goes x) as (λ t. IsPlain (if t then Delete at ∷ deletions_from goes at xs else deletions_from goes (at + 1) xs)) [ true ↦ deletions_are_plain goes at xs | false ↦ deletions_are_plain goes (at + 1) xs ]
