-- Glyphs that were written one by one, each in its place: from the first on, and from the last on.
use Rattle.std.proofs.Common.{ℕ, zero, suc, ◌≡◌, ◌≤◌, ◌<◌, ◌+◌, List, [], ◌∷◌, ◌++◌, length, map, take, drop, get_or, set, refl, sym, ap, subst, ◌∙◌, arith}
use Rattle.std.proofs.lemmas.List.{length-map, map-set, append-nil, take_all, drop_all}
use Rattle.buffer_glyphs.specs.declared.info.hb_glyph_info_t.{hb_glyph_info_t}
use Rattle.buffer_glyphs.specs.Items.{Item, clusters, item_of, strip}
use Rattle.buffer_glyphs.specs.Origins.{Origin, origin_of, origins}
use Rattle.buffer_stages.specs.Ordering.{AreMade}

-- their clusters stay
pub made_clusters : (old new : List hb_glyph_info_t) → origins new ≡ origins old → clusters new ≡ clusters old
made_clusters old new e = sym (seen new) ∙ ap (map (λ (o : Origin). o.cluster)) e ∙ seen old
  where
    seen : (gs : List hb_glyph_info_t) → map (λ (o : Origin). o.cluster) (origins gs) ≡ clusters gs
    seen [] = refl
    seen (g ∷ gs) = ap (λ ns. g.cluster ∷ ns) (seen gs)

-- they are as many
pub made_many : (xs : List Item) (old new : List hb_glyph_info_t) → AreMade xs old new → length new ≡ length old
made_many xs old new h = sym (length-map new origin_of) ∙ ap length h.origins ∙ length-map old origin_of

-- ---- from the first on

-- glyphs before an index were written, and what a function makes of the others is left
pub record AreWritten (rest : List Item → List Item) (i : ℕ) (all : List Item) (old now : List hb_glyph_info_t) : Type 0 where
  pub items : take i (strip now) ++ rest (drop i (strip now)) ≡ all
  pub origins : origins now ≡ origins old
  pub many : length now ≡ length old

pub none_written : (rest : List Item → List Item) (gs : List hb_glyph_info_t) → AreWritten rest 0 (rest (strip gs)) gs gs
none_written rest gs = record { items = refl; origins = refl; many = refl }

set_origin : (gs : List hb_glyph_info_t) (i : ℕ) (d g : hb_glyph_info_t) → i < length gs → origin_of g ≡ origin_of (get_or gs i d) → origins (set gs i g) ≡ origins gs
set_origin [] i d g lt e = absurd (omega (arith, lt))
set_origin (h ∷ gs) zero d g lt e = ap (λ o. o ∷ origins gs) e
set_origin (h ∷ gs) (suc i) d g lt e = ap (λ os. origin_of h ∷ os) (set_origin gs i d g (omega (arith, lt)) e)

set_items : (rest next : List Item → List Item) (gs : List hb_glyph_info_t) (i : ℕ) (d g : hb_glyph_info_t) → i < length gs
    → rest (item_of (get_or gs i d) ∷ strip (drop (suc i) gs)) ≡ item_of g ∷ next (strip (drop (suc i) gs))
    → take (suc i) (strip (set gs i g)) ++ next (drop (suc i) (strip (set gs i g))) ≡ take i (strip gs) ++ rest (drop i (strip gs))
set_items rest next [] i d g lt e = absurd (omega (arith, lt))
set_items rest next (h ∷ gs) zero d g lt e = sym e
set_items rest next (h ∷ gs) (suc i) d g lt e = ap (λ xs. item_of h ∷ xs) (set_items rest next gs i d g (omega (arith, lt)) e)

set_many : {X : Type 0} (xs : List X) (i : ℕ) (x : X) → length (set xs i x) ≡ length xs
set_many [] i x = refl
set_many (y ∷ ys) zero x = refl
set_many (y ∷ ys) (suc i) x = ap suc (set_many ys i x)

-- one glyph more
pub next_written : (rest next : List Item → List Item) (i : ℕ) (all : List Item) (old now : List hb_glyph_info_t) (d g : hb_glyph_info_t) → i < length now → AreWritten rest i all old now
    → rest (item_of (get_or now i d) ∷ strip (drop (i + 1) now)) ≡ item_of g ∷ next (strip (drop (i + 1) now)) → origin_of g ≡ origin_of (get_or now i d)
    → AreWritten next (i + 1) all old (set now i g)
next_written rest next i all old now d g lt h e f =
    let one : i + 1 ≡ suc i = omega arith in
    let step : rest (item_of (get_or now i d) ∷ strip (drop (suc i) now)) ≡ item_of g ∷ next (strip (drop (suc i) now)) =
    subst (λ n. rest (item_of (get_or now i d) ∷ strip (drop n now)) ≡ item_of g ∷ next (strip (drop n now))) one e in
    record {
      items = ap (λ n. take n (strip (set now i g)) ++ next (drop n (strip (set now i g)))) one ∙ set_items rest next now i d g lt step ∙ h.items;
      origins = set_origin now i d g lt f ∙ h.origins;
      many = set_many now i g ∙ h.many;
    }

-- all of them
pub all_written : (rest : List Item → List Item) (i : ℕ) (all : List Item) (old now : List hb_glyph_info_t) → length now ≤ i → rest [] ≡ [] → AreWritten rest i all old now → AreMade all old now
all_written rest i all old now le none h =
    let past : length (strip now) ≤ i = omega (arith, le, length-map now item_of) in
    record {
      items = sym (ap (λ xs. take i (strip now) ++ rest xs) (drop_all i (strip now) past) ∙ ap (λ xs. take i (strip now) ++ xs) none ∙ append-nil (take i (strip now)) ∙ take_all i (strip now) past) ∙ h.items;
      origins = h.origins;
    }

-- ---- from the last on

-- glyphs from an index on were written as a function makes them, and the others stand as they stood
pub record AreWrittenBack (made : List Item → List Item) (i : ℕ) (old now : List hb_glyph_info_t) : Type 0 where
  pub items : strip now ≡ take i (strip old) ++ made (drop i (strip old))
  pub origins : origins now ≡ origins old
  pub many : length now ≡ length old
  pub front : take i now ≡ take i old

pub none_written_back : (made : List Item → List Item) (i : ℕ) (gs : List hb_glyph_info_t) → length gs ≤ i → made [] ≡ [] → AreWrittenBack made i gs gs
none_written_back made i gs le none =
    let past : length (strip gs) ≤ i = omega (arith, le, length-map gs item_of) in
    record {
      items = sym (ap (λ xs. take i (strip gs) ++ made xs) (drop_all i (strip gs) past) ∙ ap (λ xs. take i (strip gs) ++ xs) none ∙ append-nil (take i (strip gs)) ∙ take_all i (strip gs) past);
      origins = refl;
      many = refl;
      front = refl;
    }

set_front : {X : Type 0} (xs : List X) (i : ℕ) (x : X) → take i (set xs i x) ≡ take i xs
set_front [] i x = refl
set_front (y ∷ ys) zero x = refl
set_front (y ∷ ys) (suc i) x = ap (λ zs. y ∷ zs) (set_front ys i x)

take_less : {X : Type 0} (i : ℕ) (xs ys : List X) → take (suc i) xs ≡ take (suc i) ys → take i xs ≡ take i ys
take_less zero xs ys e = refl
take_less (suc i) [] [] e = refl
take_less (suc i) [] (y ∷ ys) e = cc
take_less (suc i) (x ∷ xs) [] e = cc
take_less {X = X} (suc i) (x ∷ xs) (y ∷ ys) e =
    let first : x ≡ y = cc in
    let rest : take (suc i) xs ≡ take (suc i) ys = cc in
    ap (λ z. z ∷ take i xs) first ∙ ap (λ zs. y ∷ zs) (take_less i xs ys rest)

-- the glyph at an index, which is still as it was
pub still_there : (made : List Item → List Item) (i : ℕ) (d : hb_glyph_info_t) (old now : List hb_glyph_info_t) → i < length old → AreWrittenBack made (i + 1) old now → get_or now i d ≡ get_or old i d
still_there made i d old now lt h = same i now old (omega (arith, lt, h.many)) lt (subst (λ n. take n now ≡ take n old) (let one : i + 1 ≡ suc i = omega arith in one) h.front)
  where
    same : (j : ℕ) (xs ys : List hb_glyph_info_t) → j < length xs → j < length ys → take (suc j) xs ≡ take (suc j) ys → get_or xs j d ≡ get_or ys j d
    same j [] ys a b e = absurd (omega (arith, a))
    same j (x ∷ xs) [] a b e = absurd (omega (arith, b))
    same zero (x ∷ xs) (y ∷ ys) a b e = cc
    same (suc j) (x ∷ xs) (y ∷ ys) a b e = let rest : take (suc j) xs ≡ take (suc j) ys = cc in same j xs ys (omega (arith, a)) (omega (arith, b)) rest

set_back : (made : List Item → List Item) (i : ℕ) (d g : hb_glyph_info_t) (old : List hb_glyph_info_t) (now : List Item) → i < length old
    → made (item_of (get_or old i d) ∷ strip (drop (suc i) old)) ≡ item_of g ∷ made (strip (drop (suc i) old))
    → now ≡ take (suc i) (strip old) ++ made (drop (suc i) (strip old)) → set now i (item_of g) ≡ take i (strip old) ++ made (drop i (strip old))
set_back made i d g [] now lt e f = absurd (omega (arith, lt))
set_back made zero d g (h ∷ old) now lt e f = ap (λ xs. set xs 0 (item_of g)) f ∙ sym e
set_back made (suc i) d g (h ∷ old) now lt e f = ap (λ xs. set xs (suc i) (item_of g)) f ∙ ap (λ xs. item_of h ∷ xs) (set_back made i d g old (take (suc i) (strip old) ++ made (drop (suc i) (strip old))) (omega (arith, lt)) e refl)

-- one glyph before them
pub next_written_back : (made : List Item → List Item) (i : ℕ) (d g : hb_glyph_info_t) (old now : List hb_glyph_info_t) → i < length old → AreWrittenBack made (i + 1) old now
    → made (item_of (get_or old i d) ∷ strip (drop (i + 1) old)) ≡ item_of g ∷ made (strip (drop (i + 1) old)) → origin_of g ≡ origin_of (get_or now i d)
    → AreWrittenBack made i old (set now i g)
next_written_back made i d g old now lt h e f =
    let one : i + 1 ≡ suc i = omega arith in
    let step : made (item_of (get_or old i d) ∷ strip (drop (suc i) old)) ≡ item_of g ∷ made (strip (drop (suc i) old)) =
    subst (λ n. made (item_of (get_or old i d) ∷ strip (drop n old)) ≡ item_of g ∷ made (strip (drop n old))) one e in
    let items : strip now ≡ take (suc i) (strip old) ++ made (drop (suc i) (strip old)) = subst (λ n. strip now ≡ take n (strip old) ++ made (drop n (strip old))) one h.items in
    record {
      items = map-set item_of now i g ∙ set_back made i d g old (strip now) lt step items;
      origins = set_origin now i d g (omega (arith, lt, h.many)) f ∙ h.origins;
      many = set_many now i g ∙ h.many;
      front = set_front now i g ∙ take_less i now old (subst (λ n. take n now ≡ take n old) one h.front);
    }

-- all from the first on
pub all_written_back : (made : List Item → List Item) (old now : List hb_glyph_info_t) → AreWrittenBack made 0 old now → AreMade (made (strip old)) old now
all_written_back made old now h = record { items = h.items; origins = h.origins }
