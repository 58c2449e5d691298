-- One glyph deleted: the glyphs left before and after it, and that clusters stay in order.
use Rattle.std.proofs.Common.{ℕ, ◌≡◌, ◌≤◌, ◌<◌, ◌==◌, ◌||◌, inl, inr, nat_lt, Bool, true, false, if◌then◌else◌, List, [], ◌∷◌, ◌++◌, Option, Some, None, length, drop, arith, refl, ap, sym, subst, ◌∙◌}
use Rattle.std.proofs.lemmas.Bool.Decides.{nat_tests}
use Rattle.std.proofs.lemmas.Grind.{common_steps}
use Rattle.buffer_glyphs.specs.declared.info.hb_glyph_info_t.{hb_glyph_info_t as Glyph}
use Rattle.buffer_glyphs.specs.declared.level.BufferClusterLevel.{BufferClusterLevel as Level}
use Rattle.buffer_glyphs.specs.declared.level.BufferClusterLevel.TheVariants.{MonotoneGraphemes, MonotoneCharacters, Characters, Graphemes}
use Rattle.buffer_glyphs.specs.Items.{clusters}
use Rattle.buffer_glyphs.specs.Parts.{DeletePart, first_of, last_of, last_from, is_number}
use Rattle.buffer_glyphs.specs.Deletions.{number_deleted}
use Rattle.buffer_glyphs.specs.Order.{IsInOrder, IsOrdered}
use Rattle.buffer_glyphs.specs.Levels.{IsMonotone}
use Rattle.buffer_glyphs.specs.Merges.{numbers_merged_at}
use Rattle.buffer_glyphs.specs.Lemmas.Deletions.{deletion_is_event, last_is, no_last}
use Rattle.buffer_glyphs.specs.Lemmas.Parts.{event_keeps_order}
use Rattle.buffer_glyphs.proofs.Deleted.{clusters_deleted}
use Rattle.buffer_glyphs.specs.Deleting.{DeletionSides, end_recast, glyphs_deleted, deletion_marks, Deletes}
use Rattle.buffer_facts.proofs.Truth.{or_true}

pub has_last : (ns : List ℕ) → 0 < length ns → (p : ℕ) × (last_of ns ≡ Some p)
has_last [] lt = absurd (omega arith)
has_last (x ∷ xs) lt = (last_from x xs, last_is x xs)

-- what is left where the first glyph ahead is known
pub deletes_as : (level : Level) (front ahead : List Glyph) (g : Glyph) (rest new_front new_back : List Glyph) (m : Bool) → ahead ≡ g ∷ rest → glyphs_deleted level front g rest ≡ record { front = new_front; back = new_back } → m ≡ deletion_marks level (clusters front) g.cluster (clusters rest)
    → Deletes level front ahead new_front new_back m
deletes_as level front ahead g rest new_front new_back m a is marks = record {
  front_is = λ h back e. sym (ap (λ (l : DeletionSides). l.front) (found h back e));
  back_is = λ h back e. sym (ap (λ (l : DeletionSides). l.back) (found h back e));
  marked_is = λ h back e. scratch_flags h back e;
}
  where
    found : (h : Glyph) (back : List Glyph) → ahead ≡ h ∷ back → glyphs_deleted level front h back ≡ record { front = new_front; back = new_back }
    found h back e =
        let same : g ≡ h = cc in
        let tail : rest ≡ back = cc in
        subst (λ (k : Glyph). glyphs_deleted level front k back ≡ record { front = new_front; back = new_back }) same (subst (λ (ks : List Glyph). glyphs_deleted level front g ks ≡ record { front = new_front; back = new_back }) tail is)

    scratch_flags : (h : Glyph) (back : List Glyph) → ahead ≡ h ∷ back → m ≡ deletion_marks level (clusters front) h.cluster (clusters back)
    scratch_flags h back e =
        let same : g ≡ h = cc in
        let tail : rest ≡ back = cc in
        subst (λ (k : Glyph). m ≡ deletion_marks level (clusters front) k.cluster (clusters back)) same (subst (λ (ks : List Glyph). m ≡ deletion_marks level (clusters front) g.cluster (clusters ks)) tail marks)

-- the last before it is of no greater cluster
pub kept_least : (level : Level) (front ahead : List Glyph) (g : Glyph) (rest : List Glyph) (p : ℕ) → ahead ≡ g ∷ rest → last_of (clusters front) ≡ Some p → p ≤ g.cluster → Deletes level front ahead front rest false
kept_least level front ahead g rest p a last le =
    let less : nat_lt g.cluster p ≡ false = grind (arith, nat_tests, common_steps) in
    let left : DeletionSides = record { front = front; back = rest } in
    deletes_as level front ahead g rest front rest false a
    (rw (last, less) (elim ((p == g.cluster) || is_number (first_of (clusters rest)) g.cluster) as (λ t. (if t then left else left) ≡ left) [ true ↦ refl | false ↦ refl ]))
    (rw last (elim ((p == g.cluster) || is_number (first_of (clusters rest)) g.cluster) as (λ t. false ≡ (if t then false else false)) [ true ↦ refl | false ↦ refl ]))

-- the next is of its cluster
pub kept_next : (level : Level) (front ahead : List Glyph) (g : Glyph) (rest : List Glyph) → ahead ≡ g ∷ rest → is_number (first_of (clusters rest)) g.cluster ≡ true → Deletes level front ahead front rest false
kept_next level front ahead g rest a next =
    let found = or_true (is_number (last_of (clusters front)) g.cluster) in
    deletes_as level front ahead g rest front rest false a (rw (next, found) refl) (rw (next, found) refl)

-- its cluster is less than that of the last before it, and other than that of the next
pub taken_less : (level : Level) (front ahead new : List Glyph) (g : Glyph) (rest : List Glyph) (p : ℕ) → ahead ≡ g ∷ rest → last_of (clusters front) ≡ Some p → g.cluster < p → is_number (first_of (clusters rest)) g.cluster ≡ false → new ≡ end_recast g front
    → Deletes level front ahead new rest false
taken_less level front ahead new g rest p a last lt next n =
    let apart : (p == g.cluster) ≡ false = grind (arith, common_steps, lt) in
    let less : nat_lt g.cluster p ≡ true = grind (arith, nat_tests, common_steps) in
    deletes_as level front ahead g rest new rest false a (rw (last, apart, next, less, n) (ap (λ (hs : List Glyph). record { front = hs; back = rest }) (rw last refl))) (rw (last, apart, next) refl)

-- clusters stay in order
order_at : (falls : Bool) (level : Level) (front : List ℕ) (n : ℕ) (back : List ℕ) → IsMonotone level → IsInOrder falls (front ++ n ∷ back) → IsInOrder falls (number_deleted level front n back)
order_at falls level front n back mono o = subst (IsInOrder falls) (sym (deletion_is_event level falls front n back mono o)) (event_keeps_order (DeletePart (length front)) falls (front ++ n ∷ back) o)

tail_of : (falls : Bool) (n : ℕ) (ns : List ℕ) → IsInOrder falls (n ∷ ns) → IsInOrder falls ns
tail_of false n ns o = o.1
tail_of true n ns o = o.1

-- at a level whose merges change no number
order_apart : (falls : Bool) (level : Level) (front : List ℕ) (n : ℕ) (back : List ℕ) → ((ns : List ℕ) → numbers_merged_at level 0 2 ns ≡ ns) → IsInOrder falls (front ++ n ∷ back) → IsInOrder falls (number_deleted level front n back)
order_apart falls level front n back same o = by_last (last_of front) refl
  where
    alike : (p : ℕ) → last_of front ≡ Some p → number_deleted MonotoneGraphemes front n back ≡ number_deleted level front n back
    alike p e = rw e refl

    none : front ≡ [] → number_deleted level front n back ≡ back
    none e = rw e (elim (is_number (first_of back) n) as (λ t. (if t then back else drop 1 (numbers_merged_at level 0 2 (n ∷ back))) ≡ back) [ true ↦ refl | false ↦ ap (drop 1) (same (n ∷ back)) ])

    by_last : (l : Option ℕ) → last_of front ≡ l → IsInOrder falls (number_deleted level front n back)
    by_last (Some p) e = subst (IsInOrder falls) (alike p e) (order_at falls MonotoneGraphemes front n back tt o)
    by_last None e =
        let empty = no_last front e in
        let all : IsInOrder falls (n ∷ back) = subst (λ (ms : List ℕ). IsInOrder falls (ms ++ n ∷ back)) empty o in
        subst (IsInOrder falls) (sym (none empty)) (tail_of falls n back all)

pub order_deleted : (falls : Bool) (level : Level) (front : List ℕ) (n : ℕ) (back : List ℕ) → IsInOrder falls (front ++ n ∷ back) → IsInOrder falls (number_deleted level front n back)
order_deleted falls MonotoneGraphemes front n back o = order_at falls MonotoneGraphemes front n back tt o
order_deleted falls MonotoneCharacters front n back o = order_at falls MonotoneCharacters front n back tt o
order_deleted falls Characters front n back o = order_apart falls Characters front n back (λ ns. refl) o
order_deleted falls Graphemes front n back o = order_apart falls Graphemes front n back (λ ns. refl) o

-- in one direction or the other
pub ordered_deleted : (level : Level) (front : List ℕ) (n : ℕ) (back : List ℕ) → IsOrdered (front ++ n ∷ back) → IsOrdered (number_deleted level front n back)
ordered_deleted level front n back o = elim o [ inl rises ↦ inl (order_deleted false level front n back rises) | inr falls ↦ inr (order_deleted true level front n back falls) ]

-- the clusters that are left
pub left_clusters : (level : Level) (front ahead new_front new_back : List Glyph) (m : Bool) (g : Glyph) (back : List Glyph) → ahead ≡ g ∷ back → Deletes level front ahead new_front new_back m → clusters new_front ++ clusters new_back ≡ number_deleted level (clusters front) g.cluster (clusters back)
left_clusters level front ahead new_front new_back m g back e gone =
    ap (λ hs. clusters hs ++ clusters new_back) (gone.front_is g back e) ∙ ap (λ hs. clusters (glyphs_deleted level front g back).front ++ clusters hs) (gone.back_is g back e) ∙ clusters_deleted level front g back
