-- Characters at the front of a text that get their glyphs before the walk over the others.
use Rattle.std.proofs.Common.{ℕ, ◌≡◌, ◌≢◌, ◌≤◌, ◌<◌, ◌+◌, ◌-◌, ◌&&◌, ◌||◌, Bool, false, true, List, [], ◌∷◌, ◌++◌, Option, Some, None, get_or, length, map, take, drop, refl, sym, ap, ap₂, subst, ◌∙◌, append_assoc, arith}
use Rattle.std.specs.Prelude.{slice_set, suc, unwrap_or, is_some, is_none, if◌then◌else◌}
use Rattle.std.specs.List.{list_all, list_any, prefix_len}
use Rattle.std.proofs.lemmas.Bool.{and_parts, cond-true, cond-false}
use Rattle.std.proofs.lemmas.List.{append-nil, map-append, length-map, length-append, length-take-le, take-append-drop, length-drop, drop_all, take-map, drop-map, take_at}
use Rattle.std.proofs.lemmas.List.Sums.{prefix_len-le-length}
use borrow.Rule.Slice.PartMut.{put_mid}
use Rattle.std.proofs.Math.Seq.{drop-append_seam, take-append-add, drop-append-add}
use Rattle.buffer_glyphs.specs.declared.cause.ShapeCause.{ShapeCause}
use Rattle.buffer_glyphs.specs.declared.cause.ShapeCause.TheVariants.{OutOfMemory, TooLong}
use Rattle.buffer_glyphs.specs.declared.info.hb_glyph_info_t.{hb_glyph_info_t}
use Rattle.buffer_glyphs.specs.Items.{Item, item_of, strip}
use Rattle.buffer_glyphs.specs.Origins.{Origin, origin_of, origins}
use Rattle.buffer_glyphs.specs.Events.{origins_after}
use Rattle.buffer_glyphs.specs.Rewriting.{Arrangement, beside, eventless_arrangement, in_turn, replacement}
use Rattle.buffer_core.specs.Readings.{View}
use Rattle.buffer_core.specs.Sides.{Sides, after_next_glyphs, all_glyphs, flag_requests_of, items_of, with_output}
use Rattle.buffer_core.specs.Lending.{with_refilled}
use Rattle.buffer_properties.specs.Characters.{is_mark, is_selector, with_glyph}
use Rattle.buffer_properties.specs.Expanding.{expanded_group, expanded_groups, expanded_item, expanded_list, item_expansion, items_for, whole_item, with_found_glyph, with_own_glyph}
use Rattle.buffer_properties.specs.Normalizer.{Normalizer, has_character, reach_alone, reach_with_marks}
use Rattle.buffer_properties.specs.SupportedExpansion.{by_supported, expansion, in_pieces, supported_expansion}
use Rattle.buffer_properties.specs.declared.normal_mode.Reach.{Reach}
use Rattle.buffer_properties.specs.declared.normal_mode.Reach.TheVariants.{Least, Greatest}
use Rattle.buffer_stages.specs.Appending.{AppendsArrangement, RefusesRoomFor, frame_of, with_arranged}
use Rattle.buffer_stages.specs.Ready.{IsReady}
use Rattle.buffer_stages.specs.Stages.{Becomes}
use Rattle.buffer_stages.specs.Lemmas.Written.{written_all, written_becomes}
use Rattle.shape_normalize.specs.Fronts.{StaysWhole, TakesFront, TakesGlyphs, expansion_after, glyph_with_index, glyph_with_own, is_undecomposed, is_whole, is_whole_character}
use Rattle.shape_normalize.specs.Rounds.{IsArranged}
use Rattle.shape_normalize.proofs.Joined.{list_overfills}
use Rattle.shape_normalize.proofs.Lemmas.Chain.{beside_assoc, brought_then, in_turn_both, none_beside, overfills_behind}
use Rattle.buffer_stages.specs.Lemmas.Rewritings.{by_settings}
use Rattle.buffer_facts.proofs.Numbers.{one_more}

-- ---- one character

own_whole : (c : Normalizer) (x : Item) (o : Option ℕ) → c.glyph_of x.number ≡ o → is_some o ≡ true → whole_item c x ≡ with_own_glyph c x
own_whole c x (Some n) e t = ap (with_found_glyph c x) e ∙ sym (ap (λ o. with_glyph (unwrap_or o 0) x) e)
own_whole c x None e t = absurd (let bad = t in cc)

undecomposed : (c : Normalizer) (reach : Reach) (u : ℕ) → has_character c u ≡ true → is_undecomposed reach (c.splits u) ≡ true → expansion reach (has_character c) c.splits u ≡ None
unfolding in_pieces
undecomposed c Least u has stays = cond-true _ _ _ has
undecomposed c Greatest u has stays = by_case (c.splits u) refl stays
  where
    by_case : (o : Option (ℕ × ℕ)) → c.splits u ≡ o → is_none o ≡ true → by_supported (has_character c) (supported_expansion Greatest (has_character c) c.splits 8) (c.splits u) ≡ None
    by_case None e t = ap (by_supported (has_character c) (supported_expansion Greatest (has_character c) c.splits 8)) e
    by_case (Some p) e t = absurd (let bad = t in cc)

-- a character that stays whole
pub one_whole : (c : Normalizer) (reach : Reach) (x : Item) → is_whole c reach x ≡ true → item_expansion c reach x ≡ eventless_arrangement (with_own_glyph c x ∷ [])
unfolding expanded_item
one_whole c reach x whole =
    let both = and_parts (is_some (c.glyph_of x.number)) (is_undecomposed reach (c.splits x.number)) whole in
    ap (λ o. replacement 1 (items_for c x o)) (undecomposed c reach x.number both.0 both.1) ∙ ap (λ y. eventless_arrangement (y ∷ [])) (own_whole c x (c.glyph_of x.number) refl both.0)

-- ---- a character with its marks

all_whole : (c : Normalizer) (reach : Reach) (gs : List hb_glyph_info_t) → list_all (λ (g : hb_glyph_info_t). is_whole c reach (item_of g)) gs ≡ true
    → in_turn (map (item_expansion c reach) (strip gs)) ≡ eventless_arrangement (map (with_own_glyph c) (strip gs))
all_whole c reach [] all = refl
all_whole c reach (g ∷ gs) all =
    let both = and_parts (is_whole c reach (item_of g)) (list_all (λ (g : hb_glyph_info_t). is_whole c reach (item_of g)) gs) all in
    ap₂ beside (one_whole c reach (item_of g) both.0) (all_whole c reach gs both.1)

any_selector : (gs : List hb_glyph_info_t) → list_any is_selector (strip gs) ≡ list_any (λ (g : hb_glyph_info_t). is_selector (item_of g)) gs
any_selector [] = refl
any_selector (g ∷ gs) = ap (λ b. is_selector (item_of g) || b) (any_selector gs)

pub lone_stays : (c : Normalizer) (gs : List hb_glyph_info_t) → length gs < 2 → list_all (λ (g : hb_glyph_info_t). is_whole c (reach_alone c.mode) (item_of g)) gs ≡ true → StaysWhole c gs
lone_stays c gs few all x [] e = subst (λ xs. in_turn (map (item_expansion c (reach_alone c.mode)) xs) ≡ eventless_arrangement (map (with_own_glyph c) xs)) e (all_whole c (reach_alone c.mode) gs all)
lone_stays c gs few all x (m ∷ ms) e = absurd (let many = ap length e in omega (arith, few, many, length-map gs item_of))

pub marked_stays : (c : Normalizer) (gs : List hb_glyph_info_t) → 2 ≤ length gs → list_any (λ (g : hb_glyph_info_t). is_selector (item_of g)) gs ≡ false
    → list_all (λ (g : hb_glyph_info_t). is_whole c (reach_with_marks c.mode) (item_of g)) gs ≡ true → StaysWhole c gs
marked_stays c gs many none all x [] e = absurd (let few = ap length e in omega (arith, few, many, length-map gs item_of))
marked_stays c gs many none all x (m ∷ ms) e =
    ap in_turn (cond-false _ _ _ (ap (list_any is_selector) (sym e) ∙ any_selector gs ∙ none))
    ∙ subst (λ xs. in_turn (map (item_expansion c (reach_with_marks c.mode)) xs) ≡ eventless_arrangement (map (with_own_glyph c) xs)) e (all_whole c (reach_with_marks c.mode) gs all)

abbrev pub groups_of : Normalizer → List Item → List Arrangement
groups_of c [] = []
groups_of c (y ∷ ys) = expanded_groups c y [] ys

pub groups_list : (c : Normalizer) (xs : List Item) → in_turn (groups_of c xs) ≡ expanded_list c xs
groups_list c [] = refl
groups_list c (x ∷ xs) = refl

-- a character with the marks after it, and the rest
pub groups_over : (c : Normalizer) (x : Item) (ms ys : List Item) → expanded_groups c x ms ys ≡ expanded_group c x (ms ++ take (prefix_len is_mark ys) ys) ++ groups_of c (drop (prefix_len is_mark ys) ys)
groups_over c x ms [] = ap (expanded_group c x) (sym (append-nil ms)) ∙ sym (append-nil (expanded_group c x (ms ++ [])))
groups_over c x ms (y ∷ ys) = by_mark (is_mark y) refl (groups_over c x (ms ++ y ∷ []) ys)
  where
    by_mark : (t : Bool) → is_mark y ≡ t → expanded_groups c x (ms ++ y ∷ []) ys ≡ expanded_group c x ((ms ++ y ∷ []) ++ take (prefix_len is_mark ys) ys) ++ groups_of c (drop (prefix_len is_mark ys) ys)
        → expanded_groups c x ms (y ∷ ys) ≡ expanded_group c x (ms ++ take (prefix_len is_mark (y ∷ ys)) (y ∷ ys)) ++ groups_of c (drop (prefix_len is_mark (y ∷ ys)) (y ∷ ys))
    by_mark true m over =
        let more : prefix_len is_mark (y ∷ ys) ≡ suc (prefix_len is_mark ys) = cond-true _ _ _ m ∙ one_more (prefix_len is_mark ys) in
        cond-true _ _ _ m ∙ over
        ∙ ap (λ zs. expanded_group c x zs ++ groups_of c (drop (prefix_len is_mark ys) ys)) (append_assoc ms (y ∷ []) (take (prefix_len is_mark ys) ys))
        ∙ sym (ap (λ n. expanded_group c x (ms ++ take n (y ∷ ys)) ++ groups_of c (drop n (y ∷ ys))) more)
    by_mark false m over =
        let none : prefix_len is_mark (y ∷ ys) ≡ 0 = cond-false _ _ _ m in
        cond-false _ _ _ m ∙ ap (λ zs. expanded_group c x zs ++ groups_of c (y ∷ ys)) (sym (append-nil ms))
        ∙ sym (ap (λ n. expanded_group c x (ms ++ take n (y ∷ ys)) ++ groups_of c (drop n (y ∷ ys))) none)

prefix_seen : (gs : List hb_glyph_info_t) → prefix_len is_mark (strip gs) ≡ prefix_len (λ (g : hb_glyph_info_t). is_mark (item_of g)) gs
prefix_seen [] = refl
prefix_seen (g ∷ gs) = ap (λ n. if is_mark (item_of g) then 1 + n else 0) (prefix_seen gs)

pub glyphs_given : (c : Normalizer) (gs : List hb_glyph_info_t) → strip (map (glyph_with_own c) gs) ≡ map (with_own_glyph c) (strip gs)
glyphs_given c [] = refl
glyphs_given c (g ∷ gs) = ap (λ xs. with_own_glyph c (item_of g) ∷ xs) (glyphs_given c gs)

pub origins_given : (c : Normalizer) (gs : List hb_glyph_info_t) → origins (map (glyph_with_own c) gs) ≡ origins gs
origins_given c [] = refl
origins_given c (g ∷ gs) = ap (λ os. origin_of g ∷ os) (origins_given c gs)

group_taken : (c : Normalizer) (k n : ℕ) (g : hb_glyph_info_t) (gs new : List hb_glyph_info_t) → k ≡ prefix_len (λ (g : hb_glyph_info_t). is_mark (item_of g)) gs → n ≡ suc k → StaysWhole c (take n (g ∷ gs))
    → new ≡ map (glyph_with_own c) (take n (g ∷ gs)) ++ drop n (g ∷ gs) → TakesGlyphs c n (g ∷ gs) new
group_taken c k n g gs new count more stays is =
    let few : prefix_len is_mark (strip gs) ≡ k = prefix_seen gs ∙ sym count in
    let group : strip (take n (g ∷ gs)) ≡ item_of g ∷ take k (strip gs) = ap (λ j. strip (take j (g ∷ gs))) more ∙ ap (λ xs. item_of g ∷ xs) (sym (take-map item_of k gs)) in
    let others : strip (drop n (g ∷ gs)) ≡ drop k (strip gs) = ap (λ j. strip (drop j (g ∷ gs))) more ∙ sym (drop-map item_of k gs) in
    let given : strip (map (glyph_with_own c) (take n (g ∷ gs))) ≡ map (with_own_glyph c) (item_of g ∷ take k (strip gs)) = glyphs_given c (take n (g ∷ gs)) ∙ ap (map (with_own_glyph c)) group in
    let seen : strip new ≡ map (with_own_glyph c) (item_of g ∷ take k (strip gs)) ++ drop k (strip gs) =
    ap strip is ∙ map-append item_of (map (glyph_with_own c) (take n (g ∷ gs))) (drop n (g ∷ gs)) ∙ ap₂ (λ xs ys. xs ++ ys) given others in
    let within : k ≤ length (strip gs) = let le = prefix_len-le-length is_mark (strip gs) in omega (arith, le, few) in
    let long : length (map (with_own_glyph c) (item_of g ∷ take k (strip gs))) ≡ n =
    let one = length-map (item_of g ∷ take k (strip gs)) (with_own_glyph c) in let two = length-take-le k (strip gs) within in omega (arith, one, two, within, more) in
    let front : take n (strip new) ≡ map (with_own_glyph c) (item_of g ∷ take k (strip gs)) = ap (take n) seen ∙ take_at (map (with_own_glyph c) (item_of g ∷ take k (strip gs))) (drop k (strip gs)) n long in
    let back : drop n (strip new) ≡ drop k (strip gs) =
    ap (drop n) seen ∙ ap (λ j. drop j (map (with_own_glyph c) (item_of g ∷ take k (strip gs)) ++ drop k (strip gs))) (sym long) ∙ drop-append_seam (map (with_own_glyph c) (item_of g ∷ take k (strip gs))) (drop k (strip gs)) in
    record {
      expanded =
          ap in_turn (groups_over c (item_of g) [] (strip gs)) ∙ ap (λ j. in_turn (expanded_group c (item_of g) (take j (strip gs)) ++ groups_of c (drop j (strip gs)))) few
          ∙ sym (in_turn_both (expanded_group c (item_of g) (take k (strip gs))) (groups_of c (drop k (strip gs))))
          ∙ ap₂ beside (stays (item_of g) (take k (strip gs)) group) (groups_list c (drop k (strip gs)))
          ∙ ap₂ (λ xs ys. beside (eventless_arrangement xs) (expanded_list c ys)) (sym front) (sym back);
      origins =
          ap origins is ∙ map-append origin_of (map (glyph_with_own c) (take n (g ∷ gs))) (drop n (g ∷ gs)) ∙ ap (λ os. os ++ origins (drop n (g ∷ gs))) (origins_given c (take n (g ∷ gs)))
          ∙ sym (map-append origin_of (take n (g ∷ gs)) (drop n (g ∷ gs))) ∙ ap origins (take-append-drop n (g ∷ gs));
      within =
          let all = ap length seen in
          let sides = length-append (map (with_own_glyph c) (item_of g ∷ take k (strip gs))) (drop k (strip gs)) in
          omega (arith, all, sides, long, length-map new item_of);
    }

pub given_group : (c : Normalizer) (k : ℕ) (hs : List hb_glyph_info_t) (g : hb_glyph_info_t) (gs given : List hb_glyph_info_t) → hs ≡ g ∷ gs → k ≡ prefix_len (λ (g : hb_glyph_info_t). is_mark (item_of g)) gs → StaysWhole c (take (k + 1) hs)
    → given ≡ map (glyph_with_own c) (take (k + 1) hs) → TakesGlyphs c (k + 1) hs (given ++ drop (k + 1) hs)
given_group c k hs g gs given e count stays is =
    subst (λ ws. StaysWhole c (take (k + 1) ws) → given ≡ map (glyph_with_own c) (take (k + 1) ws) → TakesGlyphs c (k + 1) ws (given ++ drop (k + 1) ws)) (sym e)
    (λ st i. group_taken c k (k + 1) g gs (given ++ drop (k + 1) (g ∷ gs)) count (omega arith) st (ap (λ xs. xs ++ drop (k + 1) (g ∷ gs)) i)) stays is

-- ---- a character without marks

pub no_glyph : (c : Normalizer) (u : ℕ) → c.glyph_of u ≡ None → None ≡ (if is_whole_character c (reach_alone c.mode) u then c.glyph_of u else None)
no_glyph c u none = sym (cond-false _ _ _ (ap (λ o. is_some o && is_undecomposed (reach_alone c.mode) (c.splits u)) none))

pub split_glyph : (c : Normalizer) (n u : ℕ) → c.glyph_of u ≡ Some n → is_undecomposed (reach_alone c.mode) (c.splits u) ≡ false → None ≡ (if is_whole_character c (reach_alone c.mode) u then c.glyph_of u else None)
split_glyph c n u found splits = sym (cond-false _ _ _ (ap₂ (λ o b. is_some o && b) found splits))

pub own_glyph : (c : Normalizer) (n u : ℕ) → c.glyph_of u ≡ Some n → is_undecomposed (reach_alone c.mode) (c.splits u) ≡ true → Some n ≡ (if is_whole_character c (reach_alone c.mode) u then c.glyph_of u else None)
own_glyph c n u found stays = sym found ∙ sym (cond-true _ _ _ (ap₂ (λ o b. is_some o && b) found stays))

pub lone_taken : (c : Normalizer) (k n : ℕ) (hs : List hb_glyph_info_t) (g h d : hb_glyph_info_t) (gs : List hb_glyph_info_t) → hs ≡ g ∷ gs → k ≡ prefix_len (λ (g : hb_glyph_info_t). is_mark (item_of g)) gs → k + 1 ≡ 1
    → Some n ≡ (if is_whole_character c (reach_alone c.mode) g.glyph_id then c.glyph_of g.glyph_id else None) → h ≡ glyph_with_index n (get_or hs 0 d) → TakesGlyphs c 1 hs (slice_set hs 0 h)
lone_taken c k n hs g h d gs e count one found given = by_case (is_whole_character c (reach_alone c.mode) g.glyph_id) refl
  where
    by_case : (t : Bool) → is_whole_character c (reach_alone c.mode) g.glyph_id ≡ t → TakesGlyphs c 1 hs (slice_set hs 0 h)
    by_case false w = absurd (let bad : Some n ≡ None = found ∙ cond-false _ _ _ w in cc)
    by_case true w =
        let is : Some n ≡ c.glyph_of g.glyph_id = found ∙ cond-true _ _ _ w in
        let same : h ≡ glyph_with_own c g = given ∙ ap (λ (ws : List hb_glyph_info_t). glyph_with_index n (get_or ws 0 d)) e ∙ ap (λ o. record g { glyph_index = unwrap_or o 0 }) is in
        let none : 0 ≡ prefix_len (λ (g : hb_glyph_info_t). is_mark (item_of g)) gs = omega (arith, count, one) in
        subst (λ ws. TakesGlyphs c 1 ws (slice_set ws 0 h)) (sym e)
        (subst (λ x. TakesGlyphs c 1 (g ∷ gs) (x ∷ gs)) (sym same)
        (group_taken c 0 1 g gs (glyph_with_own c g ∷ gs) none refl (lone_stays c (g ∷ []) (omega arith) (ap (λ b. b && true) w)) refl))

-- ---- so many

same_length : (old new : List hb_glyph_info_t) → origins new ≡ origins old → length new ≡ length old
same_length old new same = sym (length-map new origin_of) ∙ ap (λ (os : List Origin). length os) same ∙ length-map old origin_of

pub nothing_taken : (c : Normalizer) (gs : List hb_glyph_info_t) → TakesGlyphs c 0 gs gs
nothing_taken c gs = record { expanded = sym (none_beside (expanded_list c (strip gs))); origins = refl; within = omega arith }

pub nothing_given : (c : Normalizer) (n : ℕ) (hs given : List hb_glyph_info_t) → given ≡ take n hs → TakesGlyphs c 0 hs (given ++ drop n hs)
nothing_given c n hs given same = subst (TakesGlyphs c 0 hs) (sym (ap (λ gs. gs ++ drop n hs) same ∙ take-append-drop n hs)) (nothing_taken c hs)

both_taken : (c : Normalizer) (at n : ℕ) (start now new next : List hb_glyph_info_t) → TakesGlyphs c at start now → TakesGlyphs c n (drop at now) new → next ≡ take at now ++ new → TakesGlyphs c (at + n) start next
both_taken c at n start now new next before takes is =
    let seen : strip next ≡ take at (strip now) ++ strip new = ap strip is ∙ map-append item_of (take at now) new ∙ ap (λ xs. xs ++ strip new) (sym (take-map item_of at now)) in
    let long : length (take at (strip now)) ≡ at = let all = length-map now item_of in let le = before.within in length-take-le at (strip now) (omega (arith, all, le)) in
    let front : take (at + n) (strip next) ≡ take at (strip now) ++ take n (strip new) =
    ap (take (at + n)) seen ∙ ap (λ k. take (k + n) (take at (strip now) ++ strip new)) (sym long) ∙ take-append-add (take at (strip now)) (strip new) n in
    let back : drop (at + n) (strip next) ≡ drop n (strip new) =
    ap (drop (at + n)) seen ∙ ap (λ k. drop (k + n) (take at (strip now) ++ strip new)) (sym long) ∙ drop-append-add (take at (strip now)) (strip new) n in
    record {
      expanded =
          before.expanded ∙ ap (λ xs. beside (eventless_arrangement (take at (strip now))) (expanded_list c xs)) (drop-map item_of at now) ∙ ap (beside (eventless_arrangement (take at (strip now)))) takes.expanded
          ∙ sym (beside_assoc (eventless_arrangement (take at (strip now))) (eventless_arrangement (take n (strip new))) (expanded_list c (drop n (strip new))))
          ∙ ap₂ (λ xs ys. beside (eventless_arrangement xs) (expanded_list c ys)) (sym front) (sym back);
      origins =
          ap origins is ∙ map-append origin_of (take at now) new ∙ ap (λ os. origins (take at now) ++ os) takes.origins ∙ sym (map-append origin_of (take at now) (drop at now)) ∙ ap origins (take-append-drop at now)
          ∙ before.origins;
      within =
          let all = ap length seen in
          let sides = length-append (take at (strip now)) (strip new) in
          let le = takes.within in
          omega (arith, all, sides, long, le, length-map next item_of, length-map new item_of);
    }

put_rest : (at : ℕ) (xs ys : List hb_glyph_info_t) → put_mid at (length xs - at) xs ys ≡ take at xs ++ ys
put_rest at xs ys =
    let long = length-drop at xs in
    ap (λ zs. take at xs ++ (ys ++ zs)) (drop_all (length xs - at) (drop at xs) (omega (arith, long))) ∙ ap (λ zs. take at xs ++ zs) (append-nil ys)

pub more_taken : (c : Normalizer) (at n : ℕ) (start now rest new : List hb_glyph_info_t) → TakesGlyphs c at start now → rest ≡ drop at now → TakesGlyphs c n rest new → TakesGlyphs c (at + n) start (put_mid at (length now - at) now new)
more_taken c at n start now rest new before is takes = both_taken c at n start now new (put_mid at (length now - at) now new) before (subst (λ gs. TakesGlyphs c n gs new) is takes) (put_rest at now new)

pub none_more : (c : Normalizer) (at n : ℕ) (start now : List hb_glyph_info_t) → n ≡ 0 → TakesGlyphs c (at + n) start now → TakesGlyphs c at start now
none_more c at n start now none takes = let same : at + n ≡ at = omega (arith, none) in subst (λ k. TakesGlyphs c k start now) same takes

-- ---- on the buffer

pub front_taken : (c : Normalizer) (n : ℕ) (gs : List hb_glyph_info_t) (s : Sides) → IsReady s → TakesGlyphs c n (all_glyphs s) gs → TakesFront c n s (with_refilled gs s)
front_taken c n gs s ready takes =
    let long = same_length (all_glyphs s) gs takes.origins in
    let all : all_glyphs (with_refilled gs s) ≡ gs = written_all gs s long in
    record {
      expanded = takes.expanded ∙ ap (λ hs. expansion_after c n (strip hs)) (sym all);
      becomes = subst (λ xs. Becomes xs s.positions s (with_refilled gs s)) (ap strip (sym all)) (written_becomes gs s (strip gs) long refl takes.origins ready);
      within = subst (λ (hs : List hb_glyph_info_t). n ≤ length hs) (sym all) takes.within;
    }

-- glyphs that are output as they are
pub front_brought : (n : ℕ) (s t : Sides) → t ≡ after_next_glyphs n s → all_glyphs t ≡ all_glyphs s → AppendsArrangement (eventless_arrangement (take n (strip s.ahead))) (drop n (strip s.ahead)) s t
front_brought n s t is kept = record {
  behind = ap (λ (q : Sides). strip q.behind) is ∙ map-append item_of s.behind (take n s.ahead) ∙ ap (λ xs. strip s.behind ++ xs) (sym (take-map item_of n s.ahead));
  ahead = ap (λ (q : Sides). strip q.ahead) is ∙ sym (drop-map item_of n s.ahead);
  happened = ap origins kept;
  frame = ap frame_of is;
}

pub after_front : (c : Normalizer) (n : ℕ) (s t u : Sides) → t ≡ after_next_glyphs n s → all_glyphs t ≡ all_glyphs s → AppendsArrangement (expanded_list c (strip t.ahead)) [] t u
    → AppendsArrangement (expansion_after c n (strip s.ahead)) [] s u
after_front c n s t u is kept rest =
    let front = front_brought n s t is kept in
    brought_then (eventless_arrangement (take n (strip s.ahead))) (expanded_list c (drop n (strip s.ahead))) (drop n (strip s.ahead)) [] s t u front
    (subst (λ xs. AppendsArrangement (expanded_list c xs) [] t u) front.ahead rest)

pub too_many_after : (c : Normalizer) (n : ℕ) (e : ShapeCause) (s t : Sides) → t ≡ after_next_glyphs n s → all_glyphs t ≡ all_glyphs s → RefusesRoomFor (length (expanded_list c (strip t.ahead)).items) e t
    → RefusesRoomFor (length (expansion_after c n (strip s.ahead)).items) e s
too_many_after c n e s t is kept over =
    let front = front_brought n s t is kept in
    let count = length-append (take n (strip s.ahead)) (expanded_list c (drop n (strip s.ahead))).items in
    subst (λ k. RefusesRoomFor k e s) (sym count)
    (overfills_behind (eventless_arrangement (take n (strip s.ahead))) (drop n (strip s.ahead)) (length (expanded_list c (drop n (strip s.ahead))).items) e s t front
    (subst (λ xs. RefusesRoomFor (length (expanded_list c xs).items) e t) front.ahead over))

-- ---- the whole list

pub front_arranged : (c : Normalizer) (n : ℕ) (s t u : Sides) → TakesFront c n s t → IsArranged (expansion_after c n (items_of t)) t u → IsArranged (expanded_list c (items_of s)) s u
front_arranged c n s t u takes is =
    subst (λ a. IsArranged a s u) (sym takes.expanded) (record {
      view = is.view ∙ ap (λ (v : View). (with_arranged (expansion_after c n (items_of t)) v).view) takes.becomes.view;
      origins = is.origins ∙ by_settings (expansion_after c n (items_of t)).events s t takes.becomes.settings ∙ ap (origins_after (flag_requests_of s) s.level (expansion_after c n (items_of t)).events) takes.becomes.origins;
      settings = is.settings ∙ takes.becomes.settings;
      ready = is.ready;
    })

front_limit : (c : Normalizer) (n : ℕ) (s t : Sides) → TakesFront c n s t → t.max_len ≡ s.max_len
front_limit c n s t takes = ap (λ (v : View). v.max_len) takes.becomes.view

pub front_fits : (c : Normalizer) (n : ℕ) (s t : Sides) → TakesFront c n s t → length (expansion_after c n (items_of t)).items ≤ t.max_len → length (expanded_list c (items_of s)).items ≤ s.max_len
front_fits c n s t takes le =
    let count = ap (λ (a : Arrangement). length a.items) takes.expanded in
    omega (arith, count, le, front_limit c n s t takes)

pub front_overfills : (c : Normalizer) (n : ℕ) (s t : Sides) → TakesFront c n s t → t.max_len < length (expansion_after c n (items_of t)).items → s.max_len < length (expanded_list c (items_of s)).items
front_overfills c n s t takes lt =
    let count = ap (λ (a : Arrangement). length a.items) takes.expanded in
    omega (arith, count, lt, front_limit c n s t takes)

-- the others are too many
pub rest_overfills : (c : Normalizer) (n : ℕ) (e : ShapeCause) (s t u : Sides) → TakesFront c n s t → u ≡ with_output t → RefusesRoomFor (length (expansion_after c n (strip u.ahead)).items) e u → e ≢ OutOfMemory
    → (e ≡ TooLong) × (s.max_len < length (expanded_list c (items_of s)).items)
rest_overfills c n e s t u takes opened over some =
    let past = list_overfills (expansion_after c n (items_of t)) t e (subst (λ (q : Sides). RefusesRoomFor (length (expansion_after c n (strip q.ahead)).items) e q) opened over) some in
    (past.0, front_overfills c n s t takes past.1)
