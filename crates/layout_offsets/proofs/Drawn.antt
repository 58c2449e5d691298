-- Each glyph is drawn from what it is attached to, where links form no ring.
use Rattle.std.proofs.Common.{ℕ, zero, suc, ℤ, pos, ◌≡◌, ◌≢◌, ◌≤◌, ◌<◌, ◌+◌, ◌==◌, ◌⊎◌, inl, inr, Bool, true, false, if◌then◌else◌, List, [], ◌∷◌, Option, Some, None, length, map, set, arith, refl, ap, sym, subst, ◌∙◌}
use Rattle.std.specs.Prelude.{slice_range}
use Rattle.std.specs.List.{fold}
use Rattle.std.proofs.lemmas.Bool.Decides.{eqb_tells}
use Rattle.std.proofs.lemmas.List.{map-set, length-set, get_or-set_same, set-get_or}
use Rattle.buffer_glyphs.specs.Items.{Position, zero_position}
use Rattle.buffer_glyphs.proofs.Lists.{get_or_mapped}
use Rattle.buffer_glyphs.specs.Lemmas.Origins.{slice_seen}
use Rattle.buffer_common.specs.declared.direction.Direction.{Direction}
use Rattle.buffer_common.specs.Direction.{is_forward, is_horizontal}
use Rattle.layout_offsets.specs.FollowedLinks.{with_link_cleared, offset_by, back_over, on_over, mark_drawn, child_drawn, drawn_position, with_child_drawn, with_parent_drawn, with_link_followed, with_links_followed_from, with_links_followed, kinds_tested}
use Rattle.layout_offsets.specs.Links.{position_at, link_target, parent, without_link}
use Rattle.layout_offsets.specs.Trees.{HaveDepths, only_advances, position_drawn_from, final, AreDrawn, TreesAreDrawn, ArePartlyDrawn}
use Rattle.layout_offsets.proofs.Lemmas.Linked.{linked_there}
use Rattle.layout_offsets.proofs.Going.{followed_step, elsewhere}
use Rattle.buffer_facts.proofs.Truth.{not_both}

-- ---- what is drawn reads only the advances of others

fold_only : (f : Position → Position → Position) → ((p r : Position) → f p (only_advances r) ≡ f p r) → (p : Position) (rs : List Position) → fold f p (map only_advances rs) ≡ fold f p rs
fold_only f same p [] = refl
fold_only f same p (r ∷ rs) = fold_only f same (f p (only_advances r)) rs ∙ ap (λ (q : Position). fold f q rs) (same p r)

pub range_same : (f : Position → Position → Position) → ((p r : Position) → f p (only_advances r) ≡ f p r) → (p : Position) (from to : ℕ) (ps qs : List Position) → map only_advances ps ≡ map only_advances qs → fold f p (slice_range ps from to) ≡ fold f p (slice_range qs from to)
range_same f same p from to ps qs e =
    sym (fold_only f same p (slice_range ps from to)) ∙ ap (fold f p) (slice_seen only_advances from to ps ∙ ap (λ (xs : List Position). slice_range xs from to) e ∙ sym (slice_seen only_advances from to qs)) ∙ fold_only f same p (slice_range qs from to)

mark_same : (forward : Bool) (i j : ℕ) (ps qs : List Position) → position_at i ps ≡ position_at i qs → position_at j ps ≡ position_at j qs → map only_advances ps ≡ map only_advances qs → mark_drawn forward i j ps ≡ mark_drawn forward i j qs
mark_same true i j ps qs here there e =
    ap (λ (q : Position). fold back_over (offset_by q (position_at i ps)) (slice_range ps j i)) there ∙ ap (λ (p : Position). fold back_over (offset_by (position_at j qs) p) (slice_range ps j i)) here
    ∙ range_same back_over (λ p r. refl) (offset_by (position_at j qs) (position_at i qs)) j i ps qs e
mark_same false i j ps qs here there e =
    ap (λ (q : Position). fold on_over (offset_by q (position_at i ps)) (slice_range ps (j + 1) (i + 1))) there ∙ ap (λ (p : Position). fold on_over (offset_by (position_at j qs) p) (slice_range ps (j + 1) (i + 1))) here
    ∙ range_same on_over (λ p r. refl) (offset_by (position_at j qs) (position_at i qs)) (j + 1) (i + 1) ps qs e

pub drawn_same : (d : Direction) (i j : ℕ) (ps qs : List Position) → position_at i ps ≡ position_at i qs → position_at j ps ≡ position_at j qs → map only_advances ps ≡ map only_advances qs → drawn_position d i j ps ≡ drawn_position d i j qs
drawn_same d i j ps qs here there e =
    ap (λ (m : Position). if (position_at i ps).attach_type == 2 then child_drawn (is_horizontal d) (position_at j ps) (position_at i ps) else m) (mark_same (is_forward d) i j ps qs here there e)
    ∙ ap (λ (q : Position). if (position_at i ps).attach_type == 2 then child_drawn (is_horizontal d) q (position_at i ps) else mark_drawn (is_forward d) i j qs) there
    ∙ ap (λ (p : Position). if p.attach_type == 2 then child_drawn (is_horizontal d) (position_at j qs) p else mark_drawn (is_forward d) i j qs) here

-- ---- a drawn glyph keeps its advances and its link

fold_keeps : {V : Type 0} (v : Position → V) (f : Position → Position → Position) → ((p r : Position) → v (f p r) ≡ v p) → (p : Position) (rs : List Position) → v (fold f p rs) ≡ v p
fold_keeps v f same p [] = refl
fold_keeps v f same p (r ∷ rs) = fold_keeps v f same (f p r) rs ∙ same p r

pub mark_keeps : {V : Type 0} (v : Position → V) → ((p q : Position) → v (offset_by q p) ≡ v p) → ((p r : Position) → v (back_over p r) ≡ v p) → ((p r : Position) → v (on_over p r) ≡ v p)
    → (forward : Bool) (i j : ℕ) (ps : List Position) → v (mark_drawn forward i j ps) ≡ v (position_at i ps)
mark_keeps v first back on true i j ps = fold_keeps v back_over back (offset_by (position_at j ps) (position_at i ps)) (slice_range ps j i) ∙ first (position_at i ps) (position_at j ps)
mark_keeps v first back on false i j ps = fold_keeps v on_over on (offset_by (position_at j ps) (position_at i ps)) (slice_range ps (j + 1) (i + 1)) ∙ first (position_at i ps) (position_at j ps)

child_advances : (across : Bool) (q p : Position) → only_advances (child_drawn across q p) ≡ only_advances p
child_advances true q p = refl
child_advances false q p = refl

pub child_chain : (across : Bool) (q p : Position) → (child_drawn across q p).attach_chain ≡ p.attach_chain
child_chain true q p = refl
child_chain false q p = refl

pub drawn_advances : (d : Direction) (i j : ℕ) (ps : List Position) → only_advances (drawn_position d i j ps) ≡ only_advances (position_at i ps)
drawn_advances d i j ps = elim ((position_at i ps).attach_type == 2) as (λ b. only_advances (if b then child_drawn (is_horizontal d) (position_at j ps) (position_at i ps) else mark_drawn (is_forward d) i j ps) ≡ only_advances (position_at i ps)) [
  | true ↦ child_advances (is_horizontal d) (position_at j ps) (position_at i ps)
  | false ↦ mark_keeps only_advances (λ p q. refl) (λ p r. refl) (λ p r. refl) (is_forward d) i j ps
]

pub drawn_chain : (d : Direction) (i j : ℕ) (ps : List Position) → (drawn_position d i j ps).attach_chain ≡ (position_at i ps).attach_chain
drawn_chain d i j ps = elim ((position_at i ps).attach_type == 2) as (λ b. (if b then child_drawn (is_horizontal d) (position_at j ps) (position_at i ps) else mark_drawn (is_forward d) i j ps).attach_chain ≡ (position_at i ps).attach_chain) [
  | true ↦ child_chain (is_horizontal d) (position_at j ps) (position_at i ps)
  | false ↦ mark_keeps (λ (p : Position). p.attach_chain) (λ p q. refl) (λ p r. refl) (λ p r. refl) (is_forward d) i j ps
]

-- a place is written with another of the same advances
pub set_advances : (i : ℕ) (p : Position) (ps : List Position) → only_advances p ≡ only_advances (position_at i ps) → map only_advances (set ps i p) ≡ map only_advances ps
set_advances i p ps e = map-set only_advances ps i p ∙ ap (λ (q : Position). set (map only_advances ps) i q) (e ∙ sym (get_or_mapped only_advances ps i zero_position)) ∙ set-get_or (map only_advances ps) i zero_position

pub position_here : (i : ℕ) (p : Position) (ps : List Position) → i < length ps → position_at i (set ps i p) ≡ p
position_here i p ps lt = get_or-set_same ps i p zero_position lt

-- ---- a change of a glyph that is not drawn yet

-- what is attached to others is drawn alike
final_elsewhere : (d : Direction) (recorded recorded' now : List Position) (i k : ℕ) (p : Position) (o : Option ℕ)
    → length now ≡ length recorded → k < length recorded → k ≢ i → position_at k recorded' ≡ position_at k recorded → only_advances p ≡ only_advances (position_at i now)
    → ((j : ℕ) → o ≡ Some j → (j ≢ i) × (j ≢ k))
    → position_drawn_from d recorded' (set now i p) k o ≡ position_drawn_from d recorded now k o
final_elsewhere d recorded recorded' now i k p None long lt other same e apart = ap without_link same
final_elsewhere d recorded recorded' now i k p (Some j) long lt other same e apart =
    let r = without_link (position_at k recorded) in
    let a = apart j refl in
    let len = length-set now i p in
    let within : k < length now = omega (arith, long, lt) in
    let within_set : k < length (set now i p) = omega (arith, len, within) in
    let here : position_at k (set (set now i p) k r) ≡ position_at k (set now k r) = position_here k r (set now i p) within_set ∙ sym (position_here k r now within) in
    let there : position_at j (set (set now i p) k r) ≡ position_at j (set now k r) = elsewhere k j r (set now i p) a.1 ∙ elsewhere i j p now a.0 ∙ sym (elsewhere k j r now a.1) in
    let adv : map only_advances (set (set now i p) k r) ≡ map only_advances (set now k r) = map-set only_advances (set now i p) k r ∙ ap (λ (xs : List Position). set xs k (only_advances r)) (set_advances i p now e) ∙ sym (map-set only_advances now k r) in
    ap (λ (q : Position). drawn_position d k j (set (set now i p) k (without_link q))) same ∙ drawn_same d k j (set (set now i p) k r) (set now k r) here there adv

-- ---- links

parent_elsewhere : (i k : ℕ) (p : Position) (ps : List Position) → k ≢ i → parent k (set ps i p) ≡ parent k ps
parent_elsewhere i k p ps other = ap (λ (n : ℕ). link_target n k (position_at k (set ps i p)).attach_chain) (length-set ps i p) ∙ ap (λ (q : Position). link_target (length ps) k q.attach_chain) (elsewhere i k p ps other)

pub parent_none : (i : ℕ) (ps : List Position) → (position_at i ps).attach_chain ≡ pos 0 → parent i ps ≡ None
parent_none i ps e = ap (link_target (length ps) i) e

parent_unlinked : (i : ℕ) (ps : List Position) → i < length ps → parent i (with_link_cleared i ps) ≡ None
parent_unlinked i ps lt = parent_none i (with_link_cleared i ps) (ap (λ (p : Position). p.attach_chain) (position_here i (without_link (position_at i ps)) ps lt))

none_or_some : {P : Type 0} (j : ℕ) (o : Option ℕ) → o ≡ None → o ≡ Some j → P
none_or_some j o e f = absurd (let both : None ≡ Some j = sym e ∙ f in cc)

pub AreLesser : (ℕ → ℕ) → List Position → Type 0
AreLesser depth ps = (k j : ℕ) → parent k ps ≡ Some j → depth j < depth k

lesser_unlinked : (depth : ℕ → ℕ) (i : ℕ) (ps : List Position) → i < length ps → AreLesser depth ps → AreLesser depth (with_link_cleared i ps)
unfolding AreLesser
lesser_unlinked depth i ps lt lesser k j e = elim (eqb_tells k i) [
  | inl is ↦ none_or_some j (parent k (with_link_cleared i ps)) (ap (λ (m : ℕ). parent m (with_link_cleared i ps)) is.1 ∙ parent_unlinked i ps lt) e
  | inr other ↦ lesser k j (sym (parent_elsewhere i k (without_link (position_at i ps)) ps other.1) ∙ e)
]

same_without : (p : Position) → p.attach_chain ≡ pos 0 → without_link p ≡ p
same_without p e = ap (λ (z : ℤ). record p { attach_chain = z }) (sym e)

-- a glyph without a link stays, and all others
pub followed_linkless : (d : Direction) (fuel next i : ℕ) (ps : List Position) → fuel ≡ suc next → (position_at i ps).attach_chain ≡ pos 0 → with_link_followed (drawn_position d) fuel i ps ≡ ps
followed_linkless d fuel next i ps is e =
    followed_step (drawn_position d) fuel next i ps is ∙ ap (λ (o : Option ℕ). with_parent_drawn (drawn_position d) (with_link_followed (drawn_position d) next) i o ps) (parent_none i ps e) ∙ ap (λ (p : Position). set ps i p) (same_without (position_at i ps) e) ∙ set-get_or ps i zero_position

final_chain : (d : Direction) (recorded now : List Position) (k : ℕ) (o : Option ℕ) → k < length now → (position_drawn_from d recorded now k o).attach_chain ≡ pos 0
final_chain d recorded now k None lt = refl
final_chain d recorded now k (Some j) lt =
    let r = without_link (position_at k recorded) in
    drawn_chain d k j (set now k r) ∙ ap (λ (p : Position). p.attach_chain) (position_here k r now lt)

-- ---- glyphs that are done

abbrev marked : ℕ → (ℕ → Bool) → ℕ → Bool
marked i done k = if k == i then true else done k

marked_here : (i : ℕ) (done : ℕ → Bool) → marked i done i ≡ true
marked_here i done = elim (eqb_tells i i) [ inl is ↦ ap (λ (b : Bool). if b then true else done i) is.0 | inr other ↦ absurd (other.1 refl) ]

marked_else : (i k : ℕ) (done : ℕ → Bool) → k ≢ i → marked i done k ≡ done k
marked_else i k done apart = elim (eqb_tells k i) [ inl is ↦ absurd (apart is.1) | inr other ↦ ap (λ (b : Bool). if b then true else done k) other.0 ]

marked_more : (i k : ℕ) (done : ℕ → Bool) → done k ≡ true → marked i done k ≡ true
marked_more i k done e = elim (eqb_tells k i) [ inl is ↦ ap (λ (b : Bool). if b then true else done k) is.0 | inr other ↦ marked_else i k done other.1 ∙ e ]

record IsDrawnWith (d : Direction) (recorded result : List Position) (done : ℕ → Bool) (depth : ℕ → ℕ) (i : ℕ) : Type 0 where
  marks : ℕ → Bool
  partly : ArePartlyDrawn d recorded result marks
  here : marks i ≡ true
  more : (k : ℕ) → done k ≡ true → marks k ≡ true
  only : (k : ℕ) → marks k ≡ true → (done k ≡ true) ⊎ (depth k ≤ depth i)

-- a glyph is drawn, once that is drawn which it is attached to: `before` is the list that it is attached to nothing in
drawn_more : (d : Direction) (recorded before now : List Position) (i : ℕ) (p : Position) (done : ℕ → Bool)
    → i < length recorded → before ≡ with_link_cleared i recorded → ArePartlyDrawn d before now done → done i ≡ false
    → only_advances p ≡ only_advances (position_at i now)
    → p ≡ final d recorded (set now i p) i
    → ((j : ℕ) → parent i recorded ≡ Some j → done j ≡ true)
    → ((k j : ℕ) → parent k recorded ≡ Some j → j ≢ k)
    → ArePartlyDrawn d recorded (set now i p) (marked i done)
drawn_more d recorded before now i p done lt is partly undone same drawn_here parents apart =
    let r = without_link (position_at i recorded) in
    let len = length-set recorded i r in
    let len_before : length before ≡ length recorded = ap length is ∙ len in
    let adv_before : map only_advances before ≡ map only_advances recorded = ap (map only_advances) is ∙ set_advances i r recorded refl in
    let long = partly.long in
    let within : i < length now = omega (arith, long, len_before, lt) in
    let same_before : (k : ℕ) → k ≢ i → position_at k before ≡ position_at k recorded = λ k other. ap (position_at k) is ∙ elsewhere i k r recorded other in
    let parent_before : (k : ℕ) → k ≢ i → parent k before ≡ parent k recorded = λ k other. ap (parent k) is ∙ parent_elsewhere i k r recorded other in
    let undone_other : (k : ℕ) → done k ≡ true → k ≢ i = λ k e is_i. not_both (done k) e (ap done is_i ∙ undone) in
    record {
      long = length-set now i p ∙ long ∙ len_before;
      advances = set_advances i p now same ∙ partly.advances ∙ adv_before;
      kept = λ k e. elim (eqb_tells k i) [
        | inl is_i ↦ absurd (not_both (marked i done k) (ap (marked i done) is_i.1 ∙ marked_here i done) e)
        | inr other ↦ elsewhere i k p now other.1 ∙ partly.kept k (sym (marked_else i k done other.1) ∙ e) ∙ same_before k other.1
      ];
      drawn = λ k lt_k e. elim (eqb_tells k i) [
        | inl is_i ↦ subst (λ (m : ℕ). position_at m (set now i p) ≡ final d recorded (set now i p) m) (sym is_i.1) (position_here i p now within ∙ drawn_here)
        | inr other ↦
            let done_k = sym (marked_else i k done other.1) ∙ e in
            let lt_before : k < length before = omega (arith, len_before, lt_k) in
            let there : position_at k now ≡ position_drawn_from d before now k (parent k recorded) = partly.drawn k lt_before done_k ∙ ap (position_drawn_from d before now k) (parent_before k other.1) in
            elsewhere i k p now other.1 ∙ there ∙ sym (final_elsewhere d before recorded now i k p (parent k recorded) partly.long lt_before other.1 (sym (same_before k other.1)) same
            (λ j f. (undone_other j (partly.closed k j done_k (parent_before k other.1 ∙ f)), apart k j f)))
      ];
      closed = λ k j e f. elim (eqb_tells k i) [
        | inl is_i ↦ marked_more i j done (parents j (sym (ap (λ (m : ℕ). parent m recorded) is_i.1) ∙ f))
        | inr other ↦ marked_more i j done (partly.closed k j (sym (marked_else i k done other.1) ∙ e) (parent_before k other.1 ∙ f))
      ];
    }

-- ---- one glyph followed

unlinked_partly : (d : Direction) (recorded now : List Position) (i : ℕ) (done : ℕ → Bool) → i < length recorded → done i ≡ false → ArePartlyDrawn d recorded now done → ((k j : ℕ) → parent k recorded ≡ Some j → j ≢ k) → ArePartlyDrawn d (with_link_cleared i recorded) (with_link_cleared i now) done
unlinked_partly d recorded now i done lt undone partly apart =
    let r = without_link (position_at i recorded) in
    let q = without_link (position_at i now) in
    let long = partly.long in
    let len = length-set recorded i r in
    let kept_here : position_at i now ≡ position_at i recorded = partly.kept i undone in
    let within : i < length now = omega (arith, long, lt) in
    let undone_other : (k : ℕ) → done k ≡ true → k ≢ i = λ k e is_i. not_both (done k) e (ap done is_i ∙ undone) in
    record {
      long = length-set now i q ∙ long ∙ sym len;
      advances = set_advances i q now refl ∙ partly.advances ∙ sym (set_advances i r recorded refl);
      kept = λ k e. elim (eqb_tells k i) [
        | inl is ↦ ap (λ (m : ℕ). position_at m (with_link_cleared i now)) is.1 ∙ position_here i q now within ∙ ap without_link kept_here ∙ sym (position_here i r recorded lt) ∙ ap (λ (m : ℕ). position_at m (with_link_cleared i recorded)) (sym is.1)
        | inr other ↦ elsewhere i k q now other.1 ∙ partly.kept k e ∙ sym (elsewhere i k r recorded other.1)
      ];
      drawn = λ k lt_k e.
          let other = undone_other k e in
          let lt_rec : k < length recorded = omega (arith, len, lt_k) in
          elsewhere i k q now other ∙ partly.drawn k lt_rec e
          ∙ sym (ap (position_drawn_from d (with_link_cleared i recorded) (with_link_cleared i now) k) (parent_elsewhere i k r recorded other)
          ∙ final_elsewhere d recorded (with_link_cleared i recorded) now i k q (parent k recorded) long lt_rec other (elsewhere i k r recorded other) refl (λ j f. (undone_other j (partly.closed k j e f), apart k j f)));
      closed = λ k j e f. partly.closed k j e (sym (parent_elsewhere i k r recorded (undone_other k e)) ∙ f);
    }

pub never_own : (depth : ℕ → ℕ) (ps : List Position) → AreLesser depth ps → (k j : ℕ) → parent k ps ≡ Some j → j ≢ k
unfolding AreLesser
never_own depth ps lesser k j e is = let lt = lesser k j e in let same = ap depth is in absurd (omega (arith, lt, same))

pub hangs_on_other : (depth : ℕ → ℕ) (ps : List Position) → HaveDepths depth ps → (k j : ℕ) → parent k ps ≡ Some j → j ≢ k
unfolding AreLesser
hangs_on_other depth ps have = never_own depth ps have.lesser

false_or : (b : Bool) → (b ≡ true → ⊥) → b ≡ false
false_or true n = absurd (n refl)
false_or false n = refl

follow_partly : (d : Direction) (depth : ℕ → ℕ) (fuel i : ℕ) (recorded now : List Position) (done : ℕ → Bool)
    → AreLesser depth recorded → depth i < fuel → i < length recorded → ArePartlyDrawn d recorded now done
    → IsDrawnWith d recorded (with_link_followed (drawn_position d) fuel i now) done depth i
unfolding AreLesser
follow_partly d depth zero i recorded now done lesser low lt partly = absurd (omega (arith, low))
follow_partly d depth (suc fuel) i recorded now done lesser low lt partly = by_done (done i) refl (λ j rs xs m a b c p. follow_partly d depth fuel j rs xs m a b c p)
  where
    by_done : (b : Bool) → done i ≡ b → ((j : ℕ) (rs xs : List Position) (m : ℕ → Bool) → AreLesser depth rs → depth j < fuel → j < length rs → ArePartlyDrawn d rs xs m → IsDrawnWith d rs (with_link_followed (drawn_position d) fuel j xs) m depth j) → IsDrawnWith d recorded (with_link_followed (drawn_position d) (suc fuel) i now) done depth i
    by_done true e before_it =
        let long = partly.long in
        let within : i < length now = omega (arith, long, lt) in
        let chain : (position_at i now).attach_chain ≡ pos 0 = ap (λ (p : Position). p.attach_chain) (partly.drawn i lt e) ∙ final_chain d recorded now i (parent i recorded) within in
        subst (λ (xs : List Position). IsDrawnWith d recorded xs done depth i) (sym (followed_linkless d (suc fuel) fuel i now refl chain))
        record { marks = done; partly = partly; here = e; more = λ k f. f; only = λ k f. inl f }
    by_done false e before_it = by_parent (parent i recorded) refl
      where
        here_now : position_at i now ≡ position_at i recorded
        here_now = partly.kept i e

        parent_now : parent i now ≡ parent i recorded
        parent_now = ap (λ (n : ℕ). link_target n i (position_at i now).attach_chain) partly.long ∙ ap (λ (p : Position). link_target (length recorded) i p.attach_chain) here_now

        own : (k j : ℕ) → parent k recorded ≡ Some j → j ≢ k
        own = never_own depth recorded lesser

        by_parent : (o : Option ℕ) → parent i recorded ≡ o → IsDrawnWith d recorded (with_link_followed (drawn_position d) (suc fuel) i now) done depth i
        by_parent None f =
            let unlinked_is : with_link_followed (drawn_position d) (suc fuel) i now ≡ with_link_cleared i now = followed_step (drawn_position d) (suc fuel) fuel i now refl ∙ ap (λ (o : Option ℕ). with_parent_drawn (drawn_position d) (with_link_followed (drawn_position d) fuel) i o now) (parent_now ∙ f) in
            let q = without_link (position_at i now) in
            let before = with_link_cleared i recorded in
            let mid = unlinked_partly d recorded now i done lt e partly own in
            let long = partly.long in
            let within : i < length now = omega (arith, long, lt) in
            let mid_here : position_at i (with_link_cleared i now) ≡ q = position_here i q now within in
            let is_final : q ≡ final d recorded (set (with_link_cleared i now) i q) i = ap without_link here_now ∙ sym (ap (position_drawn_from d recorded (set (with_link_cleared i now) i q) i) f) in
            let more_drawn = drawn_more d recorded before (with_link_cleared i now) i q done lt refl mid e (ap only_advances (sym mid_here)) is_final (λ j g. none_or_some j (parent i recorded) f g) own in
            let written : set (with_link_cleared i now) i q ≡ with_link_cleared i now = ap (λ (p : Position). set (with_link_cleared i now) i p) (sym mid_here) ∙ set-get_or (with_link_cleared i now) i zero_position in
            subst (λ (xs : List Position). IsDrawnWith d recorded xs done depth i) (sym unlinked_is)
            record {
              marks = marked i done;
              partly = subst (λ (xs : List Position). ArePartlyDrawn d recorded xs (marked i done)) written more_drawn;
              here = marked_here i done;
              more = λ k g. marked_more i k done g;
              only = λ k g. elim (eqb_tells k i) [ inl is ↦ inr (let same = ap depth is.1 in omega (arith, same)) | inr other ↦ inl (sym (marked_else i k done other.1) ∙ g) ];
            }
        by_parent (Some j) f =
            let step : with_link_followed (drawn_position d) (suc fuel) i now ≡ with_child_drawn (drawn_position d) i j (with_link_followed (drawn_position d) fuel j (with_link_cleared i now)) = followed_step (drawn_position d) (suc fuel) fuel i now refl ∙ ap (λ (o : Option ℕ). with_parent_drawn (drawn_position d) (with_link_followed (drawn_position d) fuel) i o now) (parent_now ∙ f) in
            let before = with_link_cleared i recorded in
            let r = without_link (position_at i recorded) in
            let len = length-set recorded i r in
            let lower : depth j < depth i = lesser i j f in
            let there = linked_there (length recorded) i (position_at i recorded).attach_chain j f in
            let mid = unlinked_partly d recorded now i done lt e partly own in
            let first = before_it j before (with_link_cleared i now) done (lesser_unlinked depth i recorded lt lesser) (omega (arith, low, lower)) (omega (arith, len, there.0)) mid in
            at_parent j f step first lower
          where
            at_parent : (j : ℕ) → parent i recorded ≡ Some j → with_link_followed (drawn_position d) (suc fuel) i now ≡ with_child_drawn (drawn_position d) i j (with_link_followed (drawn_position d) fuel j (with_link_cleared i now)) → IsDrawnWith d (with_link_cleared i recorded) (with_link_followed (drawn_position d) fuel j (with_link_cleared i now)) done depth j → depth j < depth i → IsDrawnWith d recorded (with_link_followed (drawn_position d) (suc fuel) i now) done depth i
            at_parent j f step first lower =
                let now' = with_link_followed (drawn_position d) fuel j (with_link_cleared i now) in
                let r = without_link (position_at i recorded) in
                let len = length-set recorded i r in
                let p = drawn_position d i j now' in
                let long = first.partly.long in
                let within : i < length now' = omega (arith, long, len, lt) in
                let undone : first.marks i ≡ false = false_or (first.marks i) (λ g. elim (first.only i g) [ inl was ↦ not_both (done i) was e | inr le ↦ absurd (omega (arith, le, lower)) ]) in
                let here : position_at i now' ≡ r = first.partly.kept i undone ∙ position_here i r recorded lt in
                let j_other : j ≢ i = own i j f in
                let is_final : p ≡ final d recorded (set now' i p) i =
                drawn_same d i j now' (set (set now' i p) i r) (here ∙ sym (position_here i r (set now' i p) (let l = length-set now' i p in omega (arith, l, within))))
                (sym (elsewhere i j r (set now' i p) j_other ∙ elsewhere i j p now' j_other))
                (sym (set_advances i r (set now' i p) (sym (ap only_advances (position_here i p now' within) ∙ drawn_advances d i j now' ∙ ap only_advances here)) ∙ set_advances i p now' (drawn_advances d i j now')))
                ∙ sym (ap (position_drawn_from d recorded (set now' i p) i) f) in
                let more_drawn = drawn_more d recorded (with_link_cleared i recorded) now' i p first.marks lt refl first.partly undone (drawn_advances d i j now') is_final
                (λ m g. let same : Some m ≡ Some j = sym g ∙ f in let is : m ≡ j = cc in ap first.marks is ∙ first.here) own in
                subst (λ (xs : List Position). IsDrawnWith d recorded xs done depth i) (sym step)
                record {
                  marks = marked i first.marks;
                  partly = more_drawn;
                  here = marked_here i first.marks;
                  more = λ k g. marked_more i k first.marks (first.more k g);
                  only = λ k g. elim (eqb_tells k i) [
                    | inl is ↦ inr (let same = ap depth is.1 in omega (arith, same))
                    | inr other ↦ elim (first.only k (sym (marked_else i k first.marks other.1) ∙ g)) [ inl was ↦ inl was | inr le ↦ inr (omega (arith, le, lower)) ]
                  ];
                }

-- ---- all glyphs followed

record AreFollowed (d : Direction) (recorded now : List Position) (i : ℕ) : Type 0 where
  marks : ℕ → Bool
  partly : ArePartlyDrawn d recorded now marks
  each : (k : ℕ) → k < i → marks k ≡ true

follow_all : (d : Direction) (depth : ℕ → ℕ) (recorded : List Position) → HaveDepths depth recorded → (n i : ℕ) (now : List Position) → i + n ≡ length recorded → AreFollowed d recorded now i → AreFollowed d recorded (with_links_followed_from (drawn_position d) i n now) (i + n)
unfolding AreLesser
follow_all d depth recorded have zero i now e a = let none : i ≡ i + 0 = omega arith in subst (λ (m : ℕ). AreFollowed d recorded now m) none a
follow_all d depth recorded have (suc n) i now e a =
    let lt : i < length recorded = omega (arith, e) in
    let long = a.partly.long in
    let low = have.within i lt in
    let one = follow_partly d depth (length now) i recorded now a.marks have.lesser (omega (arith, long, low)) lt a.partly in
    let next : AreFollowed d recorded (with_link_followed (drawn_position d) (length now) i now) (i + 1) = record {
      marks = one.marks;
      partly = one.partly;
      each = λ k lt_k. elim (eqb_tells k i) [ inl is ↦ ap one.marks is.1 ∙ one.here | inr other ↦ one.more k (a.each k (let apart = other.1 in omega (arith, lt_k, apart))) ];
    } in
    let sum : i + 1 + n ≡ i + suc n = omega arith in
    subst (λ (m : ℕ). AreFollowed d recorded (with_links_followed_from (drawn_position d) (i + 1) n (with_link_followed (drawn_position d) (length now) i now)) m) sum (follow_all d depth recorded have n (i + 1) (with_link_followed (drawn_position d) (length now) i now) (sum ∙ e) next)

pub each_is_drawn : (d : Direction) (depth : ℕ → ℕ) (ps : List Position) → HaveDepths depth ps → AreDrawn d ps (with_links_followed (drawn_position d) ps)
each_is_drawn d depth ps have =
    let none : ArePartlyDrawn d ps ps (λ k. false) = record { long = refl; advances = refl; kept = λ k e. refl; drawn = λ k lt e. absurd (not_both false e refl); closed = λ k j e f. absurd (not_both false e refl) } in
    let all = follow_all d depth ps have (length ps) 0 ps (omega arith) (record { marks = λ k. false; partly = none; each = λ k lt. absurd (omega (arith, lt)) }) in
    record { long = all.partly.long; advances = all.partly.advances; each = λ k lt. all.partly.drawn k lt (all.each k (omega (arith, lt))) }

pub trees_are_drawn : TreesAreDrawn
trees_are_drawn d depth ps have = each_is_drawn d depth (kinds_tested ps) have
