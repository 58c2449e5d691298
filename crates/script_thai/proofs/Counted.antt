-- Marks above that end a text, counted from its end.
use Rattle.std.proofs.Common.{ℕ, suc, ◌≡◌, ◌<◌, ◌≤◌, ◌+◌, ◌-◌, Bool, true, false, if◌then◌else◌, List, [], ◌∷◌, ◌++◌, length, take, arith, ap, sym, ◌∙◌}
use Rattle.std.specs.List.{prefix_len}
use Rattle.std.proofs.Math.ListN.{get_or}
use Rattle.std.proofs.Math.Seq.{take-length, take-suc}
use Rattle.std.proofs.lemmas.List.{map-append, reverse-append}
use Rattle.buffer_glyphs.specs.declared.info.hb_glyph_info_t.{hb_glyph_info_t}
use Rattle.buffer_glyphs.specs.Items.{Item, item_of, strip}
use Rattle.script_thai.specs.ThaiVowel.{count_above, is_mark_above}

-- so many at the end are marks above, and the others end with as many as are missing
abbrev pub IsCounted : ℕ → List hb_glyph_info_t → Type 0
IsCounted i gs = count_above (strip gs) ≡ i + count_above (strip (take (length gs - i) gs))

pub none_counted : (gs : List hb_glyph_info_t) → IsCounted 0 gs
none_counted gs = let same : length gs - 0 ≡ length gs = omega arith in ap (λ hs. count_above (strip hs)) (sym (take-length gs) ∙ ap (λ k. take k gs) (sym same)) ∙ sym (let z : 0 + count_above (strip (take (length gs - 0) gs)) ≡ count_above (strip (take (length gs - 0) gs)) = omega arith in z)

pub last_counted : (xs : List Item) (x : Item) → count_above (xs ++ x ∷ []) ≡ (if is_mark_above x then 1 + count_above xs else 0)
last_counted xs x = ap (prefix_len is_mark_above) (reverse-append xs (x ∷ []))

cut : (i : ℕ) (gs : List hb_glyph_info_t) (d : hb_glyph_info_t) → i < length gs → strip (take (length gs - i) gs) ≡ strip (take (length gs - (i + 1)) gs) ++ item_of (get_or gs (length gs - 1 - i) d) ∷ []
cut i gs d lt =
    let k = length gs - 1 - i in
    let one : length gs - i ≡ suc k = omega (arith, lt) in
    let other : length gs - (i + 1) ≡ k = omega (arith, lt) in
    ap (λ n. strip (take n gs)) one ∙ ap strip (take-suc gs k d (omega (arith, lt))) ∙ map-append item_of (take k gs) (get_or gs k d ∷ []) ∙ ap (λ n. strip (take n gs) ++ item_of (get_or gs k d) ∷ []) (sym other)

counted_by : (i : ℕ) (gs : List hb_glyph_info_t) (d : hb_glyph_info_t) (t : Bool) → i < length gs → t ≡ is_mark_above (item_of (get_or gs (length gs - 1 - i) d)) → IsCounted i gs
    → count_above (strip gs) ≡ i + (if t then 1 + count_above (strip (take (length gs - (i + 1)) gs)) else 0)
counted_by i gs d t lt e h =
    h ∙ ap (λ xs. i + count_above xs) (cut i gs d lt) ∙ ap (λ n. i + n) (last_counted (strip (take (length gs - (i + 1)) gs)) (item_of (get_or gs (length gs - 1 - i) d)))
    ∙ ap (λ b. i + (if b then 1 + count_above (strip (take (length gs - (i + 1)) gs)) else 0)) (sym e)

-- one more
pub next_counted : (i : ℕ) (gs : List hb_glyph_info_t) (d : hb_glyph_info_t) (t : Bool) → i < length gs → t ≡ is_mark_above (item_of (get_or gs (length gs - 1 - i) d)) → t ≡ true → IsCounted i gs → IsCounted (i + 1) gs
next_counted i gs d true lt e is h = counted_by i gs d true lt e h ∙ (let m = count_above (strip (take (length gs - (i + 1)) gs)) in let z : i + (1 + m) ≡ i + 1 + m = omega arith in z)
next_counted i gs d false lt e is h = cc

-- one that is none ends them
pub last_found : (i : ℕ) (gs : List hb_glyph_info_t) (d : hb_glyph_info_t) (t : Bool) → i < length gs → t ≡ is_mark_above (item_of (get_or gs (length gs - 1 - i) d)) → t ≡ false → IsCounted i gs → i ≡ count_above (strip gs)
last_found i gs d false lt e is h = let z : i + 0 ≡ i = omega arith in sym z ∙ sym (counted_by i gs d false lt e h)
last_found i gs d true lt e is h = cc

-- all were counted
pub all_counted : (n i : ℕ) (gs : List hb_glyph_info_t) → n ≡ length gs → n ≤ i → i ≤ n → IsCounted i gs → n ≡ count_above (strip gs)
all_counted n i gs e le ge h =
    let none : length gs - i ≡ 0 = omega (arith, e, le) in
    let c : count_above (strip gs) ≡ i + 0 = h ∙ ap (λ k. i + count_above (strip (take k gs))) none in
    omega (arith, c, le, ge)
