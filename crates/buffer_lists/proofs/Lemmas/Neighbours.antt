-- What a walk over neighbours knows of their group.
use Rattle.std.proofs.Common.{ℕ, suc, ◌≡◌, ◌≤◌, ◌<◌, ◌+◌, ◌-◌, ◌==◌, Bool, true, false, List, [], length, take, drop, get_or, arith, refl, ap, ◌∙◌}
use Rattle.std.specs.List.{prefix_len}
use Rattle.std.proofs.lemmas.List.{drop_more, drop_all, take_all, length-drop}
use Rattle.std.proofs.lemmas.List.Sums.{prefix_len-le-length}
use Rattle.buffer_glyphs.specs.declared.info.hb_glyph_info_t.{hb_glyph_info_t as Glyph}
use Rattle.buffer_lists.specs.Runs.{run_length, continues, grapheme_length}
use Rattle.buffer_lists.specs.Groups.{joined_count, group_length}

-- what an index past the end would give
abbrev pub no_glyph : Glyph
no_glyph = record { glyph_id = 0; mask = 0; cluster = 0; glyph_index = 0; unicode_props = record { 0 = 0 }; modified_combining_class = 0; glyph_props = record { 0 = 0 }; lig_props = 0; syllable = 0; category = 0; auxiliary = 0 }

-- a group begins with one
pub group_begins : {X : Type 0} (p : X → X → Bool) (xs : List X) (i : ℕ) (d : X) → i < length xs → i + group_length p (drop i xs) ≡ i + 1 + joined_count p (get_or xs (i + 1 - 1) d) (drop (i + 1) xs)
group_begins p xs i d lt =
    let here : i + 1 - 1 ≡ i = omega arith in
    rw (here, drop_more xs i d lt) (omega arith)

-- a group continues with one more element
pub group_continues : {X : Type 0} (p : X → X → Bool) (xs : List X) (i n : ℕ) (d : X) → i < length xs → p (get_or xs (i - 1) d) (get_or xs i d) ≡ true
    → n ≡ i + joined_count p (get_or xs (i - 1) d) (drop i xs) → n ≡ i + 1 + joined_count p (get_or xs (i + 1 - 1) d) (drop (i + 1) xs)
group_continues p xs i n d lt so before =
    let here : i + 1 - 1 ≡ i = omega arith in
    let cut : joined_count p (get_or xs (i - 1) d) (drop i xs) ≡ suc (joined_count p (get_or xs i d) (drop (i + 1) xs)) = rw (drop_more xs i d lt, so) refl in
    rw here (omega (arith, before, cut))

-- until the test fails
pub group_stops : {X : Type 0} (p : X → X → Bool) (xs : List X) (i n : ℕ) (d : X) → i < length xs → p (get_or xs (i - 1) d) (get_or xs i d) ≡ false
    → n ≡ i + joined_count p (get_or xs (i - 1) d) (drop i xs) → i ≡ n
group_stops p xs i n d lt off before =
    let cut : joined_count p (get_or xs (i - 1) d) (drop i xs) ≡ 0 = rw (drop_more xs i d lt, off) refl in
    omega (arith, before, cut)

-- or no glyph is left
pub group_ends : {X : Type 0} (p : X → X → Bool) (xs : List X) (i n : ℕ) (d : X) → i ≤ length xs → length xs ≤ i
    → n ≡ i + joined_count p (get_or xs (i - 1) d) (drop i xs) → i ≡ n
group_ends p xs i n d le ge before =
    let none : drop i xs ≡ [] = drop_all i xs ge in
    let cut : joined_count p (get_or xs (i - 1) d) (drop i xs) ≡ 0 = rw none refl in
    omega (arith, before, cut)

pub front_within : {X : Type 0} (p : X → Bool) (n : ℕ) (xs : List X) → n ≡ prefix_len p xs → n ≤ length xs
front_within p n xs e = let few = prefix_len-le-length p xs in omega (arith, few, e)

pub rest_whole : {X : Type 0} (i : ℕ) (xs : List X) → take (length xs - i) (drop i xs) ≡ drop i xs
rest_whole i xs = take_all (length xs - i) (drop i xs) (omega (arith, length-drop i xs))

-- a run begins with one
pub run_from : {X : Type 0} (key : X → ℕ) (i n : ℕ) (xs : List X) (d : X) → i < length xs → n ≡ prefix_len (λ y. key y == key (get_or xs i d)) (take (length xs - (i + 1)) (drop (i + 1) xs)) → i + 1 + n ≡ i + run_length key (drop i xs)
run_from key i n xs d lt e =
    let cut = rest_whole (i + 1) xs in
    let many : n ≡ prefix_len (λ y. key y == key (get_or xs i d)) (drop (i + 1) xs) = e ∙ ap (prefix_len (λ y. key y == key (get_or xs i d))) cut in
    rw (drop_more xs i d lt) (omega (arith, many))

pub grapheme_from : (i n : ℕ) (xs : List Glyph) (d : Glyph) → i < length xs → n ≡ prefix_len continues (take (length xs - (i + 1)) (drop (i + 1) xs)) → i + 1 + n ≡ i + grapheme_length (drop i xs)
grapheme_from i n xs d lt e =
    let cut = rest_whole (i + 1) xs in
    let many : n ≡ prefix_len continues (drop (i + 1) xs) = e ∙ ap (prefix_len continues) cut in
    rw (drop_more xs i d lt) (omega (arith, many))

-- past the end there is none
pub none_from : {X : Type 0} (key : X → ℕ) (i : ℕ) (xs : List X) → length xs ≤ i → i ≡ i + run_length key (drop i xs)
none_from key i xs le = let none : drop i xs ≡ [] = drop_all i xs le in rw none (omega arith)
