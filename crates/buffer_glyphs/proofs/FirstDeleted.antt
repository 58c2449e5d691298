-- The first of some glyphs deleted.
use Rattle.std.proofs.Common.{ℕ, ◌≡◌, ◌≢◌, ◌≤◌, ◌<◌, ◌+◌, ◌==◌, true, false, Bool, List, [], ◌∷◌, ◌++◌, length, take, drop, get_or, arith, refl, ap, sym, subst, ◌∙◌}
use Rattle.std.proofs.lemmas.Grind.{common_steps}
use Rattle.std.proofs.lemmas.List.{drop_more, drop_all, length-take-le}
use Rattle.std.proofs.Math.Seq.{drop-append-add}
use Rattle.buffer_glyphs.specs.declared.info.hb_glyph_info_t.{hb_glyph_info_t as Glyph}
use Rattle.buffer_glyphs.specs.declared.level.BufferClusterLevel.{BufferClusterLevel as Level}
use Rattle.buffer_glyphs.specs.declared.level.BufferClusterLevel.TheVariants.{MonotoneGraphemes, MonotoneCharacters, Characters, Graphemes}
use Rattle.buffer_glyphs.specs.Levels.{Marks}
use Rattle.buffer_glyphs.specs.Items.{clusters}
use Rattle.buffer_glyphs.specs.Parts.{first_of, is_number}
use Rattle.buffer_glyphs.specs.Glyphs.{glyphs_merged_at, is_marked_as, is_marked_at}
use Rattle.buffer_glyphs.specs.Lemmas.Glyphs.{length_merged_at}
use Rattle.buffer_glyphs.specs.Deleting.{Deletes}
use Rattle.buffer_glyphs.proofs.OneDeleted.{deletes_as}

pub beyond_front : (at : ℕ) (gs ys : List Glyph) → at ≤ length gs → drop (at + 1) (take at gs ++ ys) ≡ drop 1 ys
beyond_front at gs ys le =
    let long : length (take at gs) ≡ at = length-take-le at gs le in
    ap (λ n. drop (n + 1) (take at gs ++ ys)) (sym long) ∙ drop-append-add (take at gs) ys 1

none_marked : (n : ℕ) → false ≡ is_marked_as Marks 0 2 (n ∷ [])
none_marked n = let same : (n == n) ≡ true = grind (arith, common_steps) in rw same refl

none_apart : (level : Level) (n : ℕ) → false ≡ is_marked_at level 0 2 (n ∷ [])
none_apart MonotoneGraphemes n = refl
none_apart MonotoneCharacters n = refl
none_apart Characters n = none_marked n
none_apart Graphemes n = none_marked n

lone : (level : Level) (g : Glyph) → drop 1 (glyphs_merged_at level 0 2 (g ∷ [])) ≡ []
lone level g = drop_all 1 (glyphs_merged_at level 0 2 (g ∷ [])) (omega (arith, length_merged_at level 0 2 (g ∷ []) (omega arith)))

-- one glyph alone
pub first_alone : (level : Level) (ahead : List Glyph) → length ahead < 2 → Deletes level [] ahead [] (drop 1 ahead) false
first_alone level [] lt = record { front_is = λ g back e. cc; back_is = λ g back e. cc; marked_is = λ g back e. cc }
first_alone level (g ∷ []) lt = deletes_as level [] (g ∷ []) g [] [] [] false refl (ap (λ (hs : List Glyph). record { front = []; back = hs }) (lone level g)) (none_apart level g.cluster)
first_alone level (g ∷ h ∷ hs) lt = absurd (omega arith)

-- the next is of its cluster
pub first_same : (level : Level) (ahead : List Glyph) (d : Glyph) → 2 ≤ length ahead → (get_or ahead 0 d).cluster ≡ (get_or ahead 1 d).cluster → Deletes level [] ahead [] (drop 1 ahead) false
first_same level [] d le same = absurd (omega arith)
first_same level (x ∷ []) d le same = absurd (omega arith)
first_same level (x ∷ y ∷ ys) d le same =
    let equal : (y.cluster == x.cluster) ≡ true = grind (arith, common_steps, same) in
    deletes_as level [] (x ∷ y ∷ ys) x (y ∷ ys) [] (y ∷ ys) false refl (rw equal refl) (rw equal refl)

pub first_other : (level : Level) (ahead new : List Glyph) (marked : Bool) (d : Glyph) → 2 ≤ length ahead → (get_or ahead 0 d).cluster ≢ (get_or ahead 1 d).cluster → new ≡ glyphs_merged_at level 0 2 ahead → marked ≡ is_marked_at level 0 2 (clusters ahead)
    → Deletes level [] ahead [] (drop 1 new) marked
first_other level [] new marked d le other n m = absurd (omega arith)
first_other level (x ∷ []) new marked d le other n m = absurd (omega arith)
first_other level (x ∷ y ∷ ys) new marked d le other n m =
    let apart : (y.cluster == x.cluster) ≡ false = grind (arith, common_steps, other) in
    deletes_as level [] (x ∷ y ∷ ys) x (y ∷ ys) [] (drop 1 new) marked refl (rw apart (ap (λ (hs : List Glyph). record { front = []; back = drop 1 hs }) (sym n))) (rw apart m)

pub next_is : (gs : List Glyph) (at c : ℕ) (d : Glyph) → at < length gs → ((get_or gs at d).cluster == c) ≡ is_number (first_of (clusters (drop at gs))) c
next_is gs at c d lt = rw (drop_more gs at d lt) refl

pub next_none : (gs : List Glyph) (at c : ℕ) → length gs ≤ at → false ≡ is_number (first_of (clusters (drop at gs))) c
next_none gs at c le = let none : drop at gs ≡ [] = drop_all at gs le in rw none refl

-- the rest of a list, from an index on
pub rest_deletes : (level : Level) (at : ℕ) (gs front rest new : List Glyph) (m : Bool) → at ≤ length gs → front ≡ take at gs → rest ≡ drop at gs → Deletes level [] rest [] (drop 1 new) m → Deletes level [] (drop at gs) [] (drop (at + 1) (front ++ new)) m
rest_deletes level at gs front rest new m le f r gone =
    let beyond : drop (at + 1) (front ++ new) ≡ drop 1 new = ap (λ hs. drop (at + 1) (hs ++ new)) f ∙ beyond_front at gs new le in
    subst (λ (hs : List Glyph). Deletes level [] (drop at gs) [] hs m) (sym beyond) (subst (λ (hs : List Glyph). Deletes level [] hs [] (drop 1 new) m) r gone)
