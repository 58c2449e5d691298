-- The nearest item before the cursor that a search takes, one after another.
use Rattle.std.proofs.Common.{ℕ, suc, ◌≡◌, ◌≤◌, ◌<◌, ◌+◌, Bool, true, false, if◌then◌else◌, List, [], ◌∷◌, length, drop, reverse, get_or, Option, Some, None, Ok, Err, slice_get, sym, ap, ◌∙◌, arith}
use Rattle.std.proofs.lemmas.Option.{slice_get_within, get_or_from_slice_get}
use Rattle.std.proofs.lemmas.List.{drop_all, drop_more, length-map, length-reverse}
use Rattle.buffer_glyphs.specs.declared.info.hb_glyph_info_t.{hb_glyph_info_t}
use Rattle.buffer_glyphs.specs.Items.{Item, item_of, strip}
use Rattle.buffer_glyphs.specs.Parts.{first_of}
use Rattle.layout_gpos.specs.Bases.{takes_first}
use Rattle.layout_gpos.specs.Marks.{nearest_taken}
use Rattle.layout_gpos.proofs.Lemmas.Nearest.{item_back}

pub back_long : (gs : List hb_glyph_info_t) → length (reverse (strip gs)) ≡ length gs
back_long gs = length-reverse (strip gs) ∙ length-map gs item_of

rest_is : (gs : List hb_glyph_info_t) (k : ℕ) (g : hb_glyph_info_t) → slice_get (reverse gs) k ≡ Some g → drop k (reverse (strip gs)) ≡ item_of g ∷ drop (k + 1) (reverse (strip gs))
rest_is gs k g at =
    let xs = reverse (strip gs) in
    let there = item_back gs k g at in
    drop_more xs k (item_of g) (slice_get_within xs k (item_of g) there) ∙ ap (λ (y : Item). y ∷ drop (k + 1) xs) (get_or_from_slice_get xs k (item_of g) (item_of g) there)

-- no glyph stands before the first
pub none_before : (gs : List hb_glyph_info_t) (k n : ℕ) → k ≡ n → n ≡ length gs → first_of (drop k (reverse (strip gs))) ≡ None
none_before gs k n e is =
    let le : length (reverse (strip gs)) ≤ k = omega (arith, e, is, back_long gs) in
    ap first_of (drop_all k (reverse (strip gs)) le)

pub one_before : (gs : List hb_glyph_info_t) (k : ℕ) (g : hb_glyph_info_t) → slice_get (reverse gs) k ≡ Some g → first_of (drop k (reverse (strip gs))) ≡ Some (item_of g)
one_before gs k g at = ap first_of (rest_is gs k g at)

-- what a test says of the glyph there, with the one before it
pub first_there : (test : Item → Option Item → Bool) (gs : List hb_glyph_info_t) (k : ℕ) (g : hb_glyph_info_t) → slice_get (reverse gs) k ≡ Some g → takes_first test (drop k (reverse (strip gs))) ≡ test (item_of g) (first_of (drop (k + 1) (reverse (strip gs))))
first_there test gs k g at = ap (takes_first test) (rest_is gs k g at)

step : (test : Item → Option Item → Bool) (at : ℕ) (xs : List Item) (x : Item) (rest : List Item) (b : Bool) → xs ≡ x ∷ rest → takes_first test xs ≡ b → nearest_taken test at xs ≡ (if b then Ok at else nearest_taken test (at + 1) rest)
step test at xs x rest b cut is =
    let said : test x (first_of rest) ≡ b = sym (ap (takes_first test) cut) ∙ is in
    ap (nearest_taken test at) cut ∙ ap (λ (c : Bool). if c then Ok at else nearest_taken test (at + 1) rest) said

-- any item, for what stands past the end of a list
abbrev no_item : Item
no_item = item_of (record { glyph_id = 0; mask = 0; cluster = 0; glyph_index = 0; unicode_props = record { 0 = 0 }; modified_combining_class = 0; glyph_props = record { 0 = 0 }; lig_props = 0; syllable = 0; category = 0; auxiliary = 0 })

cut_there : (gs : List hb_glyph_info_t) (at : ℕ) → at < length gs → drop at (reverse (strip gs)) ≡ get_or (reverse (strip gs)) at no_item ∷ drop (at + 1) (reverse (strip gs))
cut_there gs at lt = drop_more (reverse (strip gs)) at no_item (omega (arith, lt, back_long gs))

pub taken_there : (test : Item → Option Item → Bool) (at : ℕ) (gs : List hb_glyph_info_t) (b : Bool) → at < length gs → b ≡ takes_first test (drop at (reverse (strip gs))) → b ≡ true → nearest_taken test at (drop at (reverse (strip gs))) ≡ Ok at
taken_there test at gs b lt is on = step test at (drop at (reverse (strip gs))) (get_or (reverse (strip gs)) at no_item) (drop (at + 1) (reverse (strip gs))) true (cut_there gs at lt) (sym is ∙ on)

pub passed_there : (test : Item → Option Item → Bool) (at : ℕ) (gs : List hb_glyph_info_t) (b : Bool) → at < length gs → b ≡ takes_first test (drop at (reverse (strip gs))) → b ≡ false → nearest_taken test at (drop at (reverse (strip gs))) ≡ nearest_taken test (at + 1) (drop (at + 1) (reverse (strip gs)))
passed_there test at gs b lt is off = step test at (drop at (reverse (strip gs))) (get_or (reverse (strip gs)) at no_item) (drop (at + 1) (reverse (strip gs))) false (cut_there gs at lt) (sym is ∙ off)

-- a search that takes nothing reads all
pub read_all : (test : Item → Option Item → Bool) (at end : ℕ) (xs : List Item) → nearest_taken test at xs ≡ Err end → end ≤ at + length xs
read_all test at end [] e = let same : at ≡ end = cc in omega (arith, same)
read_all test at end (x ∷ xs) e = by_test (test x (first_of xs)) e (λ f. read_all test (at + 1) end xs f)
  where
    by_test : (b : Bool) → (if b then Ok at else nearest_taken test (at + 1) xs) ≡ Err end → (nearest_taken test (at + 1) xs ≡ Err end → end ≤ at + 1 + length xs) → end ≤ at + suc (length xs)
    by_test true f rest = cc
    by_test false f rest = let le = rest f in omega (arith, le)
