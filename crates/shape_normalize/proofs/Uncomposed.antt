-- The search for the first mark that is composed.
use Rattle.std.proofs.Common.{ℕ, ◌≡◌, ◌≢◌, ◌≤◌, ◌<◌, ◌+◌, ◌-◌, ◌==◌, ◌&&◌, nat_lt, Bool, true, false, List, [], ◌∷◌, ◌++◌, length, refl, sym, ap, ap₂, ◌∙◌, append_assoc, arith}
use Rattle.std.specs.Prelude.{slice_get, option_map, is_some, Option, Some, None, if◌then◌else◌}
use Rattle.std.specs.Option.{option_and_then}
use Rattle.std.proofs.lemmas.Option.{slice_get-map}
use Rattle.std.proofs.lemmas.Bool.{cond-true, cond-false}
use Rattle.std.proofs.lemmas.Bool.Decides.{nat_tests}
use Rattle.std.proofs.lemmas.List.{append-nil, length-append}
use Rattle.buffer_glyphs.specs.declared.info.hb_glyph_info_t.{hb_glyph_info_t}
use Rattle.buffer_glyphs.specs.Items.{Item, item_of, strip}
use Rattle.buffer_glyphs.specs.Rewriting.{eventless_arrangement}
use Rattle.buffer_properties.specs.Characters.{is_mark, mark_class}
use Rattle.buffer_properties.specs.Composing.{becoming, composite, composed_list, composition_from, is_not_blocked, last_class}
use Rattle.buffer_properties.specs.Normalizer.{Normalizer}
use Rattle.shape_normalize.specs.Starters.{become, IsUncomposed, StaysApart}
use Rattle.shape_normalize.proofs.Walk.{no_mark, out_of_reach, passed_from}
use Rattle.shape_normalize.proofs.Remembered.{has_none as none_there}
use Rattle.buffer_lists.specs.Lemmas.Picked.{got_after as get_seam}

-- ---- the mark at an index

-- a glyph's item
pub item_seen : (gs : List hb_glyph_info_t) (i : ℕ) (g : hb_glyph_info_t) (y : Item) → slice_get gs i ≡ Some g → slice_get (strip gs) i ≡ Some y → item_of g ≡ y
item_seen gs i g y at seen = let both : Some (item_of g) ≡ Some y = sym (slice_get-map item_of gs i ∙ ap (option_map item_of) at) ∙ seen in cc

seen_mark : (n at : ℕ) (xs done : List Item) (x : Item) (between : List Item) (y : Item) (ys : List Item) → xs ≡ done ++ x ∷ (between ++ y ∷ ys) → length done + 1 + length between ≡ at → slice_get xs at ≡ Some y
seen_mark n at xs done x between y ys pieces ends =
    let sides = length-append done (x ∷ between) in
    let index : at ≡ length (done ++ x ∷ between) = omega (arith, sides, ends) in
    ap₂ slice_get (pieces ∙ sym (append_assoc done (x ∷ between) (y ∷ ys))) index ∙ get_seam (done ++ x ∷ between) y ys

seen_starter : (n : ℕ) (xs done : List Item) (x : Item) (rest : List Item) → xs ≡ done ++ x ∷ rest → length done ≡ n → slice_get xs n ≡ Some x
seen_starter n xs done x rest pieces starts = ap₂ slice_get pieces (sym starts) ∙ get_seam done x rest

last_before : (xs : List Item) (z : Item) (zs rest : List Item) (w : Item) → slice_get (xs ++ z ∷ (zs ++ rest)) (length xs + length zs) ≡ Some w → last_class (mark_class z) zs ≡ mark_class w
last_before xs z [] rest w e =
    let both : Some z ≡ Some w = sym (get_seam xs z rest) ∙ ap (slice_get (xs ++ z ∷ rest)) (none_more (length xs)) ∙ e in
    let same : z ≡ w = cc in
    ap mark_class same
  where
    none_more : (n : ℕ) → n ≡ n + 0
    none_more n = omega arith
last_before xs z (v ∷ zs) rest w e =
    last_before (xs ++ z ∷ []) v zs rest w
    (ap₂ slice_get (append_assoc xs (z ∷ []) (v ∷ (zs ++ rest))) (let one = length-append xs (z ∷ []) in omega (arith, one)) ∙ e)

-- what is no mark is not composed
pub no_mark_stays : (c : Normalizer) (n at : ℕ) (gs : List hb_glyph_info_t) (g : hb_glyph_info_t) → slice_get gs at ≡ Some g → is_mark (item_of g) ≡ false → StaysApart c n at (strip gs)
no_mark_stays c n at gs g there off done x between y ys pieces starts ends =
    let same = item_seen gs at g y there (seen_mark n at (strip gs) done x between y ys pieces ends) in
    no_mark c x between y (ap is_mark (sym same) ∙ off)

-- nor is a mark that is blocked
pub blocked_stays : (c : Normalizer) (n at : ℕ) (gs : List hb_glyph_info_t) (g h : hb_glyph_info_t) → slice_get gs at ≡ Some g → is_mark (item_of g) ≡ true → n + 1 < at → slice_get gs (at - 1) ≡ Some h
    → mark_class (item_of g) ≤ mark_class (item_of h) → StaysApart c n at (strip gs)
blocked_stays c n at gs g h there on far before le done x [] y ys pieces starts ends = absurd (omega (arith, starts, ends, far))
blocked_stays c n at gs g h there on far before le done x (z ∷ zs) y ys pieces starts ends =
    let same = item_seen gs at g y there (seen_mark n at (strip gs) done x (z ∷ zs) y ys pieces ends) in
    let sides = length-append done (x ∷ []) in
    let index : length (done ++ x ∷ []) + length zs ≡ at - 1 = omega (arith, sides, ends) in
    let seam : (done ++ x ∷ []) ++ z ∷ (zs ++ y ∷ ys) ≡ strip gs = append_assoc done (x ∷ []) (z ∷ (zs ++ y ∷ ys)) ∙ sym pieces in
    let last : slice_get (strip gs) (at - 1) ≡ Some (item_of h) = slice_get-map item_of gs (at - 1) ∙ ap (option_map item_of) before in
    let class : last_class (mark_class z) zs ≡ mark_class (item_of h) = last_before (done ++ x ∷ []) z zs (y ∷ ys) (item_of h) (ap₂ slice_get seam index ∙ last) in
    let own : mark_class (item_of g) ≡ mark_class y = ap mark_class same in
    let t : nat_lt (last_class (mark_class z) zs) (mark_class y) ≡ false = grind (arith, nat_tests, class, own, le) in
    out_of_reach c x (z ∷ zs) y (ap is_mark (sym same) ∙ on) t

-- nor is one with which the starter has no composite in the font
pub uncomposed_stays : (c : Normalizer) (n at : ℕ) (gs : List hb_glyph_info_t) (f g : hb_glyph_info_t) (o : Option (ℕ × ℕ)) → slice_get gs n ≡ Some f → slice_get gs at ≡ Some g
    → become c (item_of f) o ≡ option_and_then (becoming c (item_of f)) (c.composes f.glyph_id g.glyph_id) → is_some o ≡ false → StaysApart c n at (strip gs)
unfolding composite
uncomposed_stays c n at gs f g o first there is none done x between y ys pieces starts ends =
    let same = item_seen gs at g y there (seen_mark n at (strip gs) done x between y ys pieces ends) in
    let starter = item_seen gs n f x first (seen_starter n (strip gs) done x (between ++ y ∷ ys) pieces starts) in
    let nothing : option_and_then (becoming c x) (c.composes x.number y.number) ≡ None =
    sym (ap₂ (λ (a b : Item). option_and_then (becoming c a) (c.composes a.number b.number)) starter same) ∙ sym is ∙ ap (become c (item_of f)) (none_there o none) in
    by_test (is_mark y && is_not_blocked between y) nothing
  where
    by_test : (t : Bool) → option_and_then (becoming c x) (c.composes x.number y.number) ≡ None → (if t then option_and_then (becoming c x) (c.composes x.number y.number) else None) ≡ None
    by_test true e = e
    by_test false e = refl

-- ---- the search

pub search_begun : (c : Normalizer) (gs : List hb_glyph_info_t) → length gs ≢ 0 → IsUncomposed c 1 0 (strip gs)
search_begun c [] some = absurd (some refl)
search_begun c (g ∷ gs) some = record { done = []; x = item_of g; between = []; ys = strip gs; pieces = refl; starts = refl; ends = refl; whole = refl }

pub search_more : (c : Normalizer) (at n m : ℕ) (xs : List Item) → at < length xs → IsUncomposed c at n xs → StaysApart c n at xs → ((y : Item) → slice_get xs at ≡ Some y → m ≡ (if mark_class y == 0 then at else n))
    → IsUncomposed c (at + 1) m xs
search_more c at n m xs lt w stays next = by_case w.ys refl
  where
    by_case : (zs : List Item) → w.ys ≡ zs → IsUncomposed c (at + 1) m xs
    by_case [] e =
        let all = ap length (w.pieces ∙ ap (λ zs. w.done ++ w.x ∷ (w.between ++ zs)) e ∙ ap (λ zs. w.done ++ w.x ∷ zs) (append-nil w.between)) in
        let sides = length-append w.done (w.x ∷ w.between) in
        let ends = w.ends in
        absurd (omega (arith, all, sides, ends, lt))
    by_case (y ∷ ys) e = by_class (mark_class y == 0) refl
      where
        seam : xs ≡ w.done ++ w.x ∷ (w.between ++ y ∷ ys)
        seam = w.pieces ∙ ap (λ zs. w.done ++ w.x ∷ (w.between ++ zs)) e

        starter : m ≡ (if mark_class y == 0 then at else n)
        starter = next y (seen_mark n at xs w.done w.x w.between y ys seam w.ends)

        passed : composed_list c xs ≡ (if mark_class y == 0 then composition_from c (w.done ++ w.x ∷ w.between) y [] ys else composition_from c w.done w.x (w.between ++ y ∷ []) ys)
        passed = w.whole ∙ ap (composition_from c w.done w.x w.between) e ∙ passed_from c w.done w.x w.between y ys (stays w.done w.x w.between y ys seam w.starts w.ends)

        by_class : (t : Bool) → (mark_class y == 0) ≡ t → IsUncomposed c (at + 1) m xs
        by_class true t = record {
          done = w.done ++ w.x ∷ w.between;
          x = y;
          between = [];
          ys = ys;
          pieces = seam ∙ sym (append_assoc w.done (w.x ∷ w.between) (y ∷ ys));
          starts = let sides = length-append w.done (w.x ∷ w.between) in let ends = w.ends in let is = starter ∙ cond-true _ _ _ t in omega (arith, sides, ends, is);
          ends = let sides = length-append w.done (w.x ∷ w.between) in let ends = w.ends in omega (arith, sides, ends);
          whole = passed ∙ cond-true _ _ _ t;
        }
        by_class false t = record {
          done = w.done;
          x = w.x;
          between = w.between ++ y ∷ [];
          ys = ys;
          pieces = seam ∙ ap (λ zs. w.done ++ w.x ∷ zs) (sym (append_assoc w.between (y ∷ []) ys));
          starts = w.starts ∙ sym (starter ∙ cond-false _ _ _ t);
          ends = let sides = length-append w.between (y ∷ []) in let ends = w.ends in omega (arith, sides, ends);
          whole = passed ∙ cond-false _ _ _ t;
        }
