-- The walk over the indices of a Khmer syllable.
use Rattle.std.proofs.Common.{ℕ, zero, suc, ◌≡◌, ◌≤◌, ◌<◌, ◌+◌, ◌-◌, ◌==◌, ◌&&◌, Bool, true, false, nat_le, List, [], ◌∷◌, ◌++◌, Some, slice_get, length, take, drop, refl, sym, ap, subst, ◌∙◌, arith}
use Rattle.std.specs.Prelude.{slice_range}
use Rattle.std.proofs.lemmas.Bool.{and_parts, true≢false}
use Rattle.std.proofs.lemmas.List.{length-take-le, drop-drop, take-append-drop, take-take}
use Rattle.buffer_glyphs.specs.declared.info.hb_glyph_info_t.{hb_glyph_info_t}
use Rattle.buffer_glyphs.specs.Items.{Item, item_of, strip}
use Rattle.buffer_core.specs.Sides.{Sides, all_glyphs, items_of}
use Rattle.buffer_stages.specs.Ready.{IsReady}
use Rattle.script_categories.specs.declared.ot_category_t.TheConstants as category
use Rattle.buffer_stages.specs.SyllableBuffers.{IsRewritten}
use Rattle.buffer_stages.specs.Lemmas.Fronted.{gathered_after_length}
use Rattle.buffer_stages.specs.Lemmas.Rewritings.{rewritten_next, rewritten_same, counted}
use Rattle.buffer_glyphs.specs.Rewriting.{Arrangement, eventless_arrangement, and_arranged}
use Rattle.buffer_stages.specs.Rewriting.{within}
use Rattle.buffer_stages.specs.Parts.{fronts_moved, item_with_features, items_with_features}
use Rattle.buffer_stages.specs.Lemmas.Parts.{masked_size, range_size, range_within, rewritten_part, within_size}
use Rattle.script_khmer.specs.declared.khmer.KhmerMasks.{KhmerMasks}
use Rattle.script_khmer.specs.Khmer.{khmer_at, khmer_walk, khmer_reordered}
use Rattle.script_khmer.specs.Runs.{IsRun, IsWalked, OpensForms, forms_masked, forms_moved, is_vowel, run_length, together}
use Rattle.script_khmer.specs.Lemmas.KhmerSize.{khmer_at_size, after_size}
use Rattle.script_khmer.proofs.KhmerMoves.{masked_count}
use Rattle.script_khmer.proofs.KhmerRuns.{formed_size, forms_walked, vowels_walked}
use Rattle.script_khmer.proofs.KhmerScan.{run_is}
use Rattle.buffer_stages.proofs.Lemmas.Counts.{rewritten_even}
use Rattle.buffer_glyphs.specs.Lemmas.Origins.{slice_seen as range_seen}

-- ---- one part after another

pub none_walked : (m : KhmerMasks) (start end index count : ℕ) (s : Sides) → IsReady s → IsWalked m start end index count index count s s
none_walked m start end index count s ready = record { ready = ready; size = refl; does = λ new f. f }

pub both_walked : (m : KhmerMasks) (start end i ci j cj k ck : ℕ) (a b c : Sides) → IsWalked m start end i ci j cj a b → IsWalked m start end j cj k ck b c → IsWalked m start end i ci k ck a c
both_walked m start end i ci j cj k ck a b c f g = record { ready = g.ready; size = g.size ∙ f.size; does = λ new h. f.does new (g.does new h) }

pub all_walked : (m : KhmerMasks) (start end index count : ℕ) (old now : Sides) → start ≤ end → end - start ≤ index → IsWalked m start end 1 0 index count old now
    → IsRewritten (khmer_walk m (end - start - 1) 1 0 (slice_range (items_of old) start end)) start end old now
all_walked m start end index count old now le past u =
    let none : end - start - index ≡ 0 = omega (arith, past) in
    let P : ℕ → Type 0 = λ n. IsRewritten (khmer_walk m n index count (slice_range (items_of now) start end)) start end now now in
    u.does now (subst P (sym none) (rewritten_same start end now le u.ready))

-- a part that a rule rewrote, where the walk is that rule and then the walk of the others
by_rule : (m : KhmerMasks) (start end index count to met : ℕ) (rule : List Item → Arrangement) (a b : Sides) → start ≤ end → end ≤ length (all_glyphs a)
    → length (rule (slice_range (items_of a) start end)).items ≡ length (slice_range (items_of a) start end)
    → khmer_walk m (end - start - index) index count (slice_range (items_of a) start end) ≡ and_arranged (rule (slice_range (items_of a) start end)) (khmer_walk m (end - start - to) to met)
    → IsRewritten (rule (slice_range (items_of a) start end)) start end a b → IsWalked m start end index count to met a b
by_rule m start end index count to met rule a b le fits keeps walk f =
    let xs = slice_range (items_of a) start end in
    let there : end ≤ length (items_of a) = omega (arith, counted a, fits) in
    record {
      ready = f.ready;
      size = rewritten_even (rule xs) start end a b le fits keeps f;
      does = λ new g. subst (λ r. IsRewritten r start end a new) (sym walk) (rewritten_next (rule xs) (khmer_walk m (end - start - to) to met) start end a b new le there (keeps ∙ range_size start end (items_of a) le there) f g);
    }

-- one index
pub one_walked : (m : KhmerMasks) (start end index count met : ℕ) (a b : Sides) → start + index < end → end ≤ length (all_glyphs a)
    → IsRewritten (khmer_at m index count (slice_range (items_of a) start end)).rewritten start end a b
    → met ≡ (khmer_at m index count (slice_range (items_of a) start end)).count → IsWalked m start end index count (index + 1) met a b
one_walked m start end index count met a b lt fits f counts =
    let xs = slice_range (items_of a) start end in
    let left : end - start - index ≡ suc (end - start - (index + 1)) = omega (arith, lt) in
    by_rule m start end index count (index + 1) met (λ ys. (khmer_at m index count ys).rewritten) a b (omega (arith, lt)) fits (khmer_at_size m index count xs)
    (ap (λ n. khmer_walk m n index count xs) left ∙ ap (λ n. and_arranged (khmer_at m index count xs).rewritten (khmer_walk m (end - start - (index + 1)) (index + 1) n)) (sym counts)) f

-- ---- a run

cut_at : (xs : List Item) (index to : ℕ) → index ≤ to → to ≤ length xs → take index xs ++ (slice_range xs index to ++ drop to xs) ≡ xs
cut_at xs index to le fits =
    let at : to - index + index ≡ to = omega (arith, le) in
    let on : index + (to - index) ≡ to = omega (arith, le) in
    ap (λ ys. take index xs ++ (slice_range xs index to ++ ys)) (sym (drop-drop (to - index) index xs ∙ ap (λ n. drop n xs) on)) ∙ ap (λ ys. take index xs ++ ys) (take-append-drop (to - index) (drop index xs)) ∙ take-append-drop index xs

pub vowels_walked_at : (m : KhmerMasks) (start end index count to : ℕ) (a b : Sides) → 0 < index → index ≤ to → start + to ≤ end → end ≤ length (all_glyphs a)
    → IsRun false (nat_le count 2) (slice_range (items_of a) (start + index) (start + to))
    → IsRewritten (fronts_moved (together false) is_vowel index (slice_range (items_of a) start (start + to))) start (start + to) a b → IsWalked m start end index count to count a b
vowels_walked_at m start end index count to a b some le last fits run f =
    let xs = slice_range (items_of a) start end in
    let ordered : start ≤ end = omega (arith, last) in
    let there : end ≤ length (items_of a) = omega (arith, counted a, fits) in
    let size : length xs ≡ end - start = range_size start end (items_of a) ordered there in
    let zs = slice_range xs index to in
    let front = take index xs in
    let post = drop to xs in
    let at : index ≡ length front = sym (length-take-le index xs (omega (arith, size, le, last))) in
    let long : length zs ≡ to - index = range_size index to xs le (omega (arith, size, last)) in
    let whole : front ++ (zs ++ post) ≡ xs = cut_at xs index to le (omega (arith, size, last)) in
    let part : slice_range (items_of a) (start + index) (start + to) ≡ zs = sym (range_within start end index to (items_of a) le last) in
    let rule : List Item → Arrangement = within 0 to (fronts_moved (together false) is_vowel index) in
    let count_is : end - start - index ≡ length zs + (end - start - to) = omega (arith, long, le, last) in
    let walk = vowels_walked m count (end - start - to) index to front zs post at (omega (arith, long, le)) some (subst (IsRun false (nat_le count 2)) part run) in
    by_rule m start end index count to count rule a b ordered fits
    (within_size (fronts_moved (together false) is_vowel index) 0 to xs (λ ys. gathered_after_length (together false) is_vowel index ys) (omega arith) (omega (arith, size, last)))
    (ap (λ n. khmer_walk m n index count xs) count_is ∙ ap (khmer_walk m (length zs + (end - start - to)) index count) (sym whole) ∙ walk ∙ ap (λ ys. and_arranged (rule ys) (khmer_walk m (end - start - to) to count)) whole)
    (rewritten_part (fronts_moved (together false) is_vowel index) start end 0 to start (start + to) a b (omega arith) refl (omega arith) last there f)

-- ---- a run of forms

far_size : (m : KhmerMasks) (index : ℕ) (xs : List Item) → index + 2 ≤ length xs → length (within (index + 2) (length xs) (items_with_features m.cfar) xs).items ≡ length xs
far_size m index xs le = within_size (items_with_features m.cfar) (index + 2) (length xs) xs (masked_size m.cfar) le (omega arith)

formed_part : (m : KhmerMasks) (index to : ℕ) (xs : List Item) → index ≤ to → to ≤ length xs → length (within index to (λ ys. eventless_arrangement (forms_masked (together true) (item_with_features m.pref) ys)) xs).items ≡ length xs
formed_part m index to xs le fits = within_size (λ ys. eventless_arrangement (forms_masked (together true) (item_with_features m.pref) ys)) index to xs (λ ys. formed_size (together true) (item_with_features m.pref) ys) le fits

both_masked : (m : KhmerMasks) (index to : ℕ) (xs : List Item) → index + 2 ≤ to → to ≤ length xs
    → length (and_arranged (within (index + 2) (length xs) (items_with_features m.cfar) xs) (within index to (λ ys. eventless_arrangement (forms_masked (together true) (item_with_features m.pref) ys)))).items ≡ length xs
both_masked m index to xs le fits =
    let first = far_size m index xs (omega (arith, le, fits)) in
    let ys = (within (index + 2) (length xs) (items_with_features m.cfar) xs).items in
    formed_part m index to ys (omega (arith, le)) (omega (arith, first, fits)) ∙ first

forms_size : (m : KhmerMasks) (index to : ℕ) (xs : List Item) → index + 2 ≤ to → to ≤ length xs → length (forms_moved m index to xs).items ≡ length xs
forms_size m index to xs le fits =
    let second = both_masked m index to xs le fits in
    let ys = (and_arranged (within (index + 2) (length xs) (items_with_features m.cfar) xs) (within index to (λ zs. eventless_arrangement (forms_masked (together true) (item_with_features m.pref) zs)))).items in
    within_size (fronts_moved (together true) is_vowel index) 0 to ys (λ zs. gathered_after_length (together true) is_vowel index zs) (omega arith) (omega (arith, second, fits)) ∙ second

pub forms_do : (m : KhmerMasks) (start end index to : ℕ) (a b c d : Sides) → index + 2 ≤ to → start + to ≤ end → end ≤ length (all_glyphs a)
    → IsRewritten (items_with_features m.cfar (slice_range (items_of a) (start + (index + 2)) end)) (start + (index + 2)) end a b
    → IsRewritten (eventless_arrangement (forms_masked (together true) (item_with_features m.pref) (slice_range (items_of b) (start + index) (start + to)))) (start + index) (start + to) b c
    → IsRewritten (fronts_moved (together true) is_vowel index (slice_range (items_of c) start (start + to))) start (start + to) c d
    → IsRewritten (forms_moved m index to (slice_range (items_of a) start end)) start end a d
forms_do m start end index to a b c d two last fits f g h =
    let le : start ≤ end = omega (arith, last) in
    let xs = slice_range (items_of a) start end in
    let inside : end ≤ length (items_of a) = omega (arith, counted a, fits) in
    let size : length xs ≡ end - start = range_size start end (items_of a) le inside in
    let few : to ≤ length xs = omega (arith, size, last) in
    let rule : List Item → Arrangement = λ ys. eventless_arrangement (forms_masked (together true) (item_with_features m.pref) ys) in
    let count_b = masked_count m.cfar (start + (index + 2)) end a b (omega (arith, two, last)) fits f in
    let count_c = rewritten_even (rule (slice_range (items_of b) (start + index) (start + to))) (start + index) (start + to) b c (omega (arith, two)) (omega (arith, last, fits, count_b)) (formed_size (together true) (item_with_features m.pref) (slice_range (items_of b) (start + index) (start + to))) g in
    let first = rewritten_part (items_with_features m.cfar) start end (index + 2) (length xs) (start + (index + 2)) end a b refl (omega (arith, size, le)) (omega (arith, two, few)) (omega (arith, size, le)) inside f in
    let second = rewritten_part rule start end index to (start + index) (start + to) b c refl refl (omega (arith, two)) last (omega (arith, counted b, count_b, fits)) g in
    let third = rewritten_part (fronts_moved (together true) is_vowel index) start end 0 to start (start + to) c d (omega arith) refl (omega arith) last (omega (arith, counted c, count_c, count_b, fits)) h in
    rewritten_next (and_arranged (within (index + 2) (length xs) (items_with_features m.cfar) xs) (within index to rule)) (within 0 to (fronts_moved (together true) is_vowel index)) start end a c d le inside (both_masked m index to xs two few ∙ size)
    (rewritten_next (within (index + 2) (length xs) (items_with_features m.cfar) xs) (within index to rule) start end a b c le inside (far_size m index xs (omega (arith, two, few)) ∙ size) first second) third

got_split : (xs : List Item) (i : ℕ) (x : Item) → slice_get xs i ≡ Some x → drop i xs ≡ x ∷ drop (i + 1) xs
got_split [] i x e = cc
got_split (y ∷ xs) zero x e = let same : y ≡ x = cc in ap (λ k. k ∷ xs) same
got_split (y ∷ xs) (suc i) x e = let next : suc i + 1 ≡ suc (i + 1) = omega arith in got_split xs i x e ∙ ap (λ n. x ∷ drop n (y ∷ xs)) (sym next)

got_front : (xs : List Item) (i : ℕ) (x : Item) → slice_get xs i ≡ Some x → take (i + 1) xs ≡ take i xs ++ x ∷ []
got_front [] i x e = cc
got_front (y ∷ xs) zero x e = let same : y ≡ x = cc in ap (λ k. k ∷ []) same
got_front (y ∷ xs) (suc i) x e = let next : suc i + 1 ≡ suc (i + 1) = omega arith in ap (λ n. take n (y ∷ xs)) next ∙ ap (λ ys. y ∷ ys) (got_front xs i x e)

-- a run that begins with a form has both of its items
run_two : (n : ℕ) (x y : Item) (rest : List Item) → together true x y ≡ true → IsRun true true (take (suc n) (x ∷ y ∷ rest)) → 0 < n
run_two zero x y rest pair run = absurd (true≢false (sym (ap (λ b. b && true) (and_parts (x.category == category.OT_H) (y.category == category.OT_Ra) pair).0) ∙ run.0))
run_two (suc n) x y rest pair run = omega arith

-- the items of a sublist where a form is at an index
record IsCut (index to : ℕ) (t x y : Item) (fs zs xs : List Item) : Type 0 where
  front : take index xs ≡ fs ++ t ∷ []
  part : slice_range xs index to ≡ x ∷ y ∷ zs

forms_two_in : (index count to : ℕ) (xs : List Item) → index < to → OpensForms count index xs → IsRun true (nat_le count 2) (slice_range xs index to) → index + 2 ≤ to
forms_two_in index count to xs lt o run =
    let x = o.coeng in
    let y = o.ra in
    let rest = drop (index + 1 + 1) xs in
    let first : drop index xs ≡ x ∷ y ∷ rest = got_split xs index x o.coeng_there ∙ ap (λ ys. x ∷ ys) (got_split xs (index + 1) y o.ra_there) in
    let n = to - index - 1 in
    let more : to - index ≡ suc n = omega (arith, lt) in
    let shape : slice_range xs index to ≡ take (suc n) (x ∷ y ∷ rest) = ap (take (to - index)) first ∙ ap (λ k. take k (x ∷ y ∷ rest)) more in
    let two = run_two n x y rest o.form (subst (λ b. IsRun true b (take (suc n) (x ∷ y ∷ rest))) o.few (subst (IsRun true (nat_le count 2)) shape run)) in
    omega (arith, more, two)

forms_cut : (index count to : ℕ) (xs : List Item) → 0 < index → index + 2 ≤ to → (o : OpensForms count index xs) → IsCut index to o.before o.coeng o.ra (take (index - 1) xs) (take (to - index - 2) (drop (index + 2) xs)) xs
forms_cut index count to xs some two o =
    let x = o.coeng in
    let y = o.ra in
    let on : index + 1 + 1 ≡ index + 2 = omega arith in
    let back : index - 1 + 1 ≡ index = omega (arith, some) in
    let n = to - index - 2 in
    let more : to - index ≡ suc (suc n) = omega (arith, two) in
    let first : drop index xs ≡ x ∷ y ∷ drop (index + 2) xs = got_split xs index x o.coeng_there ∙ ap (λ ys. x ∷ ys) (got_split xs (index + 1) y o.ra_there) ∙ ap (λ k. x ∷ y ∷ drop k xs) on in
    record {
      front = ap (λ k. take k xs) (sym back) ∙ got_front xs (index - 1) o.before o.before_there;
      part = ap (take (to - index)) first ∙ ap (λ k. take k (x ∷ y ∷ drop (index + 2) xs)) more;
    }

range_part : (start end index to : ℕ) (ys : List Item) → index ≤ to → start + to ≤ end → slice_range ys (start + index) (start + to) ≡ slice_range (slice_range ys start end) index to
range_part start end index to ys le last = sym (range_within start end index to ys le last)

pub forms_two : (start end index count to : ℕ) (a : Sides) → index < to → start + to ≤ end → OpensForms count index (slice_range (items_of a) start end) → IsRun true (nat_le count 2) (slice_range (items_of a) (start + index) (start + to)) → index + 2 ≤ to
forms_two start end index count to a lt last o run =
    forms_two_in index count to (slice_range (items_of a) start end) lt o (subst (IsRun true (nat_le count 2)) (range_part start end index to (items_of a) (omega (arith, lt)) last) run)

pub forms_walked_at : (m : KhmerMasks) (start end index count to : ℕ) (a b : Sides) → 0 < index → index < to → start + to ≤ end → end ≤ length (all_glyphs a)
    → OpensForms count index (slice_range (items_of a) start end) → IsRun true (nat_le count 2) (slice_range (items_of a) (start + index) (start + to))
    → IsRewritten (forms_moved m index to (slice_range (items_of a) start end)) start end a b → IsWalked m start end index count to 2 a b
forms_walked_at m start end index count to a b some lt last fits o run f =
    let xs = slice_range (items_of a) start end in
    let ordered : start ≤ end = omega (arith, last) in
    let there : end ≤ length (items_of a) = omega (arith, counted a, fits) in
    let size : length xs ≡ end - start = range_size start end (items_of a) ordered there in
    let le : index ≤ to = omega (arith, lt) in
    let few : to ≤ length xs = omega (arith, size, last) in
    let inside = subst (IsRun true (nat_le count 2)) (range_part start end index to (items_of a) le last) run in
    let two = forms_two_in index count to xs lt o inside in
    let cut = forms_cut index count to xs some two o in
    let fs = take (index - 1) xs in
    let t = o.before in
    let x = o.coeng in
    let y = o.ra in
    let zs = take (to - index - 2) (drop (index + 2) xs) in
    let post = drop to xs in
    let part = cut.part in
    let front = cut.front in
    let at : index ≡ length (fs ++ t ∷ []) = sym (ap length (sym front) ∙ length-take-le index xs (omega (arith, le, few))) in
    let long : length (x ∷ y ∷ zs) ≡ to - index = sym (ap length part) ∙ range_size index to xs le few in
    let whole : (fs ++ t ∷ []) ++ ((x ∷ y ∷ zs) ++ post) ≡ xs = ap (λ ys. ys ++ ((x ∷ y ∷ zs) ++ post)) (sym front) ∙ ap (λ ys. take index xs ++ (ys ++ post)) (sym part) ∙ cut_at xs index to le few in
    let is_run : IsRun true true (x ∷ y ∷ zs) = subst (IsRun true true) part (subst (λ b. IsRun true b (slice_range xs index to)) o.few inside) in
    let count_is : end - start - index ≡ length (x ∷ y ∷ zs) + (end - start - to) = omega (arith, long, le, last) in
    let walk = forms_walked m count (end - start - to) index to x y t fs zs post at (omega (arith, long, le)) o.plain o.few o.form is_run in
    by_rule m start end index count to 2 (forms_moved m index to) a b ordered fits (forms_size m index to xs two few)
    (ap (λ n. khmer_walk m n index count xs) count_is ∙ ap (khmer_walk m (length (x ∷ y ∷ zs) + (end - start - to)) index count) (sym whole) ∙ walk ∙ ap (λ ys. and_arranged (forms_moved m index to ys) (khmer_walk m (end - start - to) to 2)) whole) f

-- ---- the glyphs of a run

pub run_inside : (start end index n : ℕ) (gs : List hb_glyph_info_t) (a : Sides) → start + index < end → end ≤ length (all_glyphs a) → gs ≡ all_glyphs a → n ≤ length (slice_range gs (start + index) end) → start + (index + n) ≤ end
run_inside start end index n gs a lt fits same few =
    let size = ap (λ hs. length (slice_range hs (start + index) end)) same ∙ range_size (start + index) end (all_glyphs a) (omega (arith, lt)) fits in
    omega (arith, size, few, lt)

pub run_told : (forms few : Bool) (start end index n : ℕ) (gs : List hb_glyph_info_t) (a : Sides) → start + index < end → end ≤ length (all_glyphs a) → gs ≡ all_glyphs a
    → n ≡ run_length forms few (strip (slice_range gs (start + index) end)) → n ≤ length (slice_range gs (start + index) end) → IsRun forms few (slice_range (items_of a) (start + index) (start + (index + n)))
run_told forms few start end index n gs a lt fits same e short =
    let from = start + index in
    let part = slice_range (items_of a) from end in
    let seen : strip (slice_range gs from end) ≡ part = ap (λ hs. strip (slice_range hs from end)) same ∙ range_seen item_of from end (all_glyphs a) in
    let inside = run_inside start end index n gs a lt fits same short in
    let is : n ≡ run_length forms few part = e ∙ ap (run_length forms few) seen in
    let less : n ≤ end - from = omega (arith, inside, lt) in
    let long : start + (index + n) - from ≡ n = omega arith in
    let shape : take n part ≡ slice_range (items_of a) from (start + (index + n)) = take-take n (end - from) (drop from (items_of a)) less ∙ ap (λ k. take k (drop from (items_of a))) (sym long) in
    subst (IsRun forms few) shape (subst (λ k. IsRun forms few (take k part)) (sym is) (run_is forms few part))

pub reordered_does : (m : KhmerMasks) (start end : ℕ) (a b c : Sides) → start < end → end ≤ length (all_glyphs a)
    → IsRewritten (items_with_features m.post_base (slice_range (items_of a) (start + 1) end)) (start + 1) end a b
    → IsRewritten (khmer_walk m (end - start - 1) 1 0 (slice_range (items_of b) start end)) start end b c
    → IsRewritten (khmer_reordered m (slice_range (items_of a) start end)) start end a c
reordered_does m start end a b c lt fits f g =
    let le : start ≤ end = omega (arith, lt) in
    let xs = slice_range (items_of a) start end in
    let inside : end ≤ length (items_of a) = omega (arith, counted a, fits) in
    let size : length xs ≡ end - start = range_size start end (items_of a) le inside in
    let some : 0 < length xs = omega (arith, size, lt) in
    let first = rewritten_part (items_with_features m.post_base) start end 1 (length xs) (start + 1) end a b refl (omega (arith, size, le)) (omega (arith, some)) (omega (arith, size, le)) inside f in
    let P : ℕ → Type 0 = λ n. IsRewritten (khmer_walk m (n - 1) 1 0 (slice_range (items_of b) start end)) start end b c in
    rewritten_next (within 1 (length xs) (items_with_features m.post_base) xs) (khmer_walk m (length xs - 1) 1 0) start end a b c le inside (after_size m xs some ∙ size) first (subst P (sym size) g)
