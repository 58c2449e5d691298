-- How wide the tiles of a run are with their copies.
use Rattle.std.proofs.Common.{ℕ, ℤ, zero, suc, pos, negsuc, ◌≡◌, ◌≤◌, ◌<◌, ◌+◌, ◌-◌, ◌*◌, ◌+ℤ◌, ◌-ℤ◌, ◌&&◌, ◌||◌, not, Bool, true, false, if◌then◌else◌, List, [], ◌∷◌, ◌++◌, Option, None, Some, length, refl, sym, ap, ◌∙◌, arith}
use Rattle.std.specs.List.{list_all}
use Rattle.std.proofs.lemmas.Int.{ints}
use Rattle.std.proofs.lemmas.Bool.Decides.{nat_tests}
use Rattle.std.proofs.Math.Nat.{mul-le-mul_right}
use Rattle.layout_face.specs.declared.parts.FaceParts.{FaceParts}
use Rattle.buffer_glyphs.specs.Items.{Item, Position}
use Rattle.buffer_glyphs.specs.Parts.{first_of}
use Rattle.script_arabic.specs.declared.runs.Run.{Run}
use Rattle.script_arabic.specs.declared.runs.Before.{Before}
use Rattle.script_arabic.specs.declared.runs.Before.TheVariants.{Tiles, Word}
use Rattle.script_arabic.specs.Copies.{copies, left_of_word, natural}
use Rattle.script_arabic.specs.Runs.{next_before, unmeasured_run, runs, tile_run, width, with_tile, with_tiles, word_after}
use Rattle.script_arabic.specs.Tiles.{is_fixed, is_repeating, is_tile}
use Rattle.script_arabic.specs.declared.tile.Tile.{Tile}
use Rattle.script_arabic.specs.Laying.{copies_of, overlap, tile_in_run, tile_of, tiles}
use Rattle.script_arabic.specs.TilePositions.{begin, begins_at, copy_positions, copy_begin, all_positions, tile_at}
use Rattle.script_arabic.specs.TileLaws.{LeftmostIsThere, TilesReach, begins_otherwise}
use Rattle.script_arabic.proofs.Numbers.{between, copies_begin, fixed_grown, grown}
use Rattle.script_arabic.proofs.Shared.{are_enough, repeats_some}
use Rattle.buffer_facts.proofs.Truth.{both_true as both_parts, false_by_not as no_tile}

-- ---- the leftmost

first_placed : (p : Position) (t : Tile) (x : ℤ) (n : ℕ) (qs : List Position) → first_of (copy_positions p t x n ++ qs) ≡ Some (tile_at p (copy_begin t x n))
first_placed p t x zero qs = refl
first_placed p t x (suc n) qs = refl

pub leftmost_is_there : LeftmostIsThere
leftmost_is_there p ps t ts = first_placed p t (begin ts) t.copies (all_positions ps ts)

-- ---- the tiles of one run

-- where the tiles of a run begin, where the next glyph begins at 0
abbrev begin_of : FaceParts → Run → List Item → ℤ
begin_of font r [] = pos 0
begin_of font r (x ∷ xs) = copy_begin (tile_in_run font x r) (begin_of font r xs) (copies_of x r)

none_begins : (o : Option Tile) (z : ℤ) → o ≡ None → begins_at o z ≡ pos 0
none_begins None z e = refl
none_begins (Some t) z e = cc

ends_begin : (font : FaceParts) (r : Run) (rest : List Item) (ps : List Position) → begins_otherwise rest ≡ true → length ps ≡ length rest → begin (tiles font rest (runs font (Tiles r) rest ps)) ≡ pos 0
ends_begin font r [] ps e long = refl
ends_begin font r (y ∷ ys) [] e long = refl
ends_begin font r (y ∷ ys) (p ∷ ps) e long =
    let b : Before = next_before font (Tiles r) (y ∷ ys) p in
    let no : is_tile y ≡ false = no_tile (is_tile y) e in
    let none : tile_of font y (tile_run b) ≡ None = ap (λ t. tile_of font y (tile_run (if t then Tiles r else Word (word_after (Tiles r) y p)))) no in
    none_begins (tile_of font y (tile_run b)) (begin (tiles font ys (runs font b ys ps))) none

run_begin : (font : FaceParts) (r : Run) (xs rest : List Item) (ps : List Position) → list_all is_tile xs ≡ true → begins_otherwise rest ≡ true → length ps ≡ length (xs ++ rest)
    → begin (tiles font (xs ++ rest) (runs font (Tiles r) (xs ++ rest) ps)) ≡ begin_of font r xs
run_begin font r [] rest ps all e long = ends_begin font r rest ps e long
run_begin font r (x ∷ xs) rest [] all e long = absurd (omega (arith, long))
run_begin font r (x ∷ xs) rest (p ∷ ps) all e long =
    let a = both_parts (is_tile x) (list_all is_tile xs) all in
    let h = run_begin font r xs rest ps a.1 e (omega (arith, long)) in
    let b : next_before font (Tiles r) (x ∷ (xs ++ rest)) p ≡ Tiles r = ap (λ t. if t then Tiles r else Word (word_after (Tiles r) x p)) a.0 in
    ap (λ q. begins_at (tile_of font x (tile_run q)) (begin (tiles font (xs ++ rest) (runs font q (xs ++ rest) ps)))) b ∙ ap (λ z. copy_begin (tile_in_run font x r) z (copies_of x r)) h

-- what is no tile ends a run
run_ends : (font : FaceParts) (r : Run) (xs rest : List Item) → list_all is_tile xs ≡ true → begins_otherwise rest ≡ true → with_tiles font r (xs ++ rest) ≡ with_tiles font r xs
run_ends font r [] [] all e = refl
run_ends font r [] (y ∷ ys) all e = ap (λ t. if t then with_tiles font (with_tile font r y) ys else r) (no_tile (is_tile y) e)
run_ends font r (x ∷ xs) rest all e =
    let a = both_parts (is_tile x) (list_all is_tile xs) all in
    let h = run_ends font (with_tile font r x) xs rest a.1 e in
    ap (λ t. if t then with_tiles font (with_tile font r x) (xs ++ rest) else r) a.0 ∙ h ∙ sym (ap (λ t. if t then with_tiles font (with_tile font r x) xs else r) a.0)

text_begin : (font : FaceParts) (word : ℤ) (x : Item) (xs rest : List Item) (ps : List Position) → list_all is_tile (x ∷ xs) ≡ true → begins_otherwise rest ≡ true → length ps ≡ length ((x ∷ xs) ++ rest)
    → begin (tiles font ((x ∷ xs) ++ rest) (runs font (Word word) ((x ∷ xs) ++ rest) ps)) ≡ begin_of font (with_tiles font (unmeasured_run word) (x ∷ xs)) (x ∷ xs)
text_begin font word x xs rest [] all e long = absurd (omega (arith, long))
text_begin font word x xs rest (p ∷ ps) all e long =
    let r = with_tiles font (unmeasured_run word) (x ∷ xs) in
    let a = both_parts (is_tile x) (list_all is_tile xs) all in
    let h = run_begin font r xs rest ps a.1 e (omega (arith, long)) in
    let b : next_before font (Word word) (x ∷ (xs ++ rest)) p ≡ Tiles r =
    ap (λ t. if t then Tiles (with_tiles font (unmeasured_run word) (x ∷ (xs ++ rest))) else Word (word_after (Word word) x p)) a.0 ∙ ap Tiles (run_ends font (unmeasured_run word) (x ∷ xs) rest all e) in
    ap (λ q. begins_at (tile_of font x (tile_run q)) (begin (tiles font (xs ++ rest) (runs font q (xs ++ rest) ps)))) b ∙ ap (λ z. copy_begin (tile_in_run font x r) z (copies_of x r)) h

-- ---- sums

-- where tiles begin of which so many repeat, so wide
abbrev begin_by : ℕ → ℕ → Run → ℤ
begin_by c o r = pos (c * r.tiles * o) -ℤ pos (r.fixed + (c + 1) * r.repeating)

only_one : (x : Item) → is_tile x ≡ true → is_fixed x ≡ true → is_repeating x ≡ false
only_one x t e = grind (arith, nat_tests, e)

the_other : (a b : Bool) → (a || b) ≡ true → a ≡ false → b ≡ true
the_other true b e f = cc
the_other false b e f = e

one_more : (font : FaceParts) (r q : Run) (x : Item) (y z : ℤ) → is_tile x ≡ true → y ≡ begin_by (copies r) (overlap r) q +ℤ z
    → begin_by (copies r) (overlap r) (with_tile font q x) +ℤ z ≡ begin_by (copies r) (overlap r) q +ℤ copy_begin (tile_in_run font x r) z (copies_of x r)
one_more font r q x y z tile e = by_test (is_fixed x) refl
  where
    by_test : (t : Bool) → is_fixed x ≡ t → begin_by (copies r) (overlap r) (with_tile font q x) +ℤ z ≡ begin_by (copies r) (overlap r) q +ℤ copy_begin (tile_in_run font x r) z (copies_of x r)
    by_test true f =
        let c = copies r in
        let o = overlap r in
        let w = width font x in
        let was = begin_by c o q in
        let none : copies_of x r ≡ 0 = ap (λ t. if t then c else 0) (only_one x tile f) in
        let now : begin_by c o (with_tile font q x) ≡ pos (c * q.tiles * o) -ℤ pos (q.fixed + w + (c + 1) * q.repeating) =
        ap (λ t. begin_by c o (if t then record q { fixed = q.fixed + w } else record q { repeating = q.repeating + w; tiles = q.tiles + 1 })) f in
        let sum = fixed_grown (was -ℤ pos w) was c q.tiles o w q.fixed q.repeating refl refl in
        let left : copy_begin (tile_in_run font x r) z (copies_of x r) ≡ z -ℤ pos w = ap (copy_begin (tile_in_run font x r) z) none in
        omega (arith, ints, now, sum, left)
    by_test false f =
        let c = copies r in
        let o = overlap r in
        let w = width font x in
        let was = begin_by c o q in
        let some : copies_of x r ≡ c = ap (λ t. if t then c else 0) (the_other (is_fixed x) (is_repeating x) tile f) in
        let now : begin_by c o (with_tile font q x) ≡ pos (c * (q.tiles + 1) * o) -ℤ pos (q.fixed + (c + 1) * (q.repeating + w)) =
        ap (λ t. begin_by c o (if t then record q { fixed = q.fixed + w } else record q { repeating = q.repeating + w; tiles = q.tiles + 1 })) f in
        let sum = grown (was +ℤ pos (c * o) -ℤ pos ((c + 1) * w)) was c q.tiles o w q.fixed q.repeating refl refl in
        let left : copy_begin (tile_in_run font x r) z (copies_of x r) ≡ z +ℤ pos (c * o) -ℤ pos ((c + 1) * w) =
        ap (copy_begin (tile_in_run font x r) z) some ∙ copies_begin (tile_in_run font x r) z c w o refl refl in
        omega (arith, ints, now, sum, left)

all_more : (font : FaceParts) (r q : Run) (xs : List Item) → list_all is_tile xs ≡ true → begin_by (copies r) (overlap r) (with_tiles font q xs) ≡ begin_by (copies r) (overlap r) q +ℤ begin_of font r xs
all_more font r q [] all = omega (arith, ints)
all_more font r q (x ∷ xs) all =
    let a = both_parts (is_tile x) (list_all is_tile xs) all in
    let h = all_more font r (with_tile font q x) xs a.1 in
    ap (λ t. begin_by (copies r) (overlap r) (if t then with_tiles font (with_tile font q x) xs else q)) a.0 ∙ h ∙ one_more font r q x (begin_by (copies r) (overlap r) q +ℤ begin_of font r xs) (begin_of font r xs) a.0 refl

nothing_by : (c o : ℕ) (word : ℤ) → begin_by c o (unmeasured_run word) ≡ pos 0
nothing_by c o word =
    let a : c * 0 * o ≡ 0 = (let z : c * 0 ≡ 0 = omega arith in ap (λ m. m * o) z ∙ (let k : 0 * o ≡ 0 = omega arith in k)) in
    let b : (c + 1) * 0 ≡ 0 = omega arith in
    omega (arith, ints, a, b)

-- ---- what a run keeps of its word, and of its tiles

word_kept : (font : FaceParts) (q : Run) (xs : List Item) → (with_tiles font q xs).word ≡ q.word
word_kept font q [] = refl
word_kept font q (x ∷ xs) = by_test (is_tile x) (is_fixed x) (word_kept font (record q { fixed = q.fixed + width font x }) xs) (word_kept font (record q { repeating = q.repeating + width font x; tiles = q.tiles + 1 }) xs)
  where
    by_test : (t f : Bool) → (with_tiles font (record q { fixed = q.fixed + width font x }) xs).word ≡ q.word → (with_tiles font (record q { repeating = q.repeating + width font x; tiles = q.tiles + 1 }) xs).word ≡ q.word
        → (if t then with_tiles font (if f then record q { fixed = q.fixed + width font x } else record q { repeating = q.repeating + width font x; tiles = q.tiles + 1 }) xs else q).word ≡ q.word
    by_test true true a b = a
    by_test true false a b = b
    by_test false f a b = refl

-- without a repeating tile they have no width
widths_counted : (font : FaceParts) (q : Run) (xs : List Item) → (q.tiles ≡ 0 → q.repeating ≡ 0) → (with_tiles font q xs).tiles ≡ 0 → (with_tiles font q xs).repeating ≡ 0
widths_counted font q [] h = h
widths_counted font q (x ∷ xs) h = by_test (is_tile x) (is_fixed x) (widths_counted font (record q { fixed = q.fixed + width font x }) xs h) (widths_counted font (record q { repeating = q.repeating + width font x; tiles = q.tiles + 1 }) xs (λ e. absurd (omega (arith, e)))) h
  where
    none_then : Run → Type 0
    none_then r = r.tiles ≡ 0 → r.repeating ≡ 0

    by_test : (t f : Bool) → none_then (with_tiles font (record q { fixed = q.fixed + width font x }) xs) → none_then (with_tiles font (record q { repeating = q.repeating + width font x; tiles = q.tiles + 1 }) xs) → none_then q
        → none_then (if t then with_tiles font (if f then record q { fixed = q.fixed + width font x } else record q { repeating = q.repeating + width font x; tiles = q.tiles + 1 }) xs else q)
    by_test true true a b d = a
    by_test true false a b d = b
    by_test false f a b d = d

-- ---- the whole

word_is : (w : ℤ) (f : ℕ) → 0 < natural w - f → w ≡ pos (natural w - f + f)
word_is (pos n) f lt = ap pos (let e : n ≡ n - f + f = omega arith in e)
word_is (negsuc n) f lt = absurd (omega (arith, lt))

some_both : (c n : ℕ) → 0 < c → 0 < n → 0 < c * n
some_both c n a b = (let e : 1 * n ≤ c * n = mul-le-mul_right n (omega (arith, a)) in omega (arith, e, b))

pub tiles_reach_the_word : TilesReach
tiles_reach_the_word font word x xs rest ps all e long lt =
    let r = with_tiles font (unmeasured_run word) (x ∷ xs) in
    let c = copies r in
    let kept : r.word ≡ word = word_kept font (unmeasured_run word) (x ∷ xs) in
    let wide = repeats_some r lt in
    let left : 0 < left_of_word r = wide.some in
    let n : 0 < r.tiles = (let z = widths_counted font (unmeasured_run word) (x ∷ xs) (λ k. refl) in let w = wide.repeating in positive r.tiles (λ k. absurd (let v = z k in omega (arith, v, w)))) in
    let is : word ≡ pos (left_of_word r + r.fixed) = sym kept ∙ word_is r.word r.fixed left in
    let at : begin (tiles font ((x ∷ xs) ++ rest) (runs font (Word word) ((x ∷ xs) ++ rest) ps)) ≡ pos (c * r.tiles * overlap r) -ℤ pos (r.fixed + (c + 1) * r.repeating) =
    text_begin font word x xs rest ps all e long ∙ (let s = all_more font r (unmeasured_run word) (x ∷ xs) all in let z = nothing_by c (overlap r) word in omega (arith, ints, s, z)) in
    let b = between word (begin (tiles font ((x ∷ xs) ++ rest) (runs font (Word word) ((x ∷ xs) ++ rest) ps))) (left_of_word r) r.fixed r.repeating c r.tiles (overlap r) ((c + 1) * r.repeating - left_of_word r)
    is (are_enough r lt).enough (some_both c r.tiles lt n) refl refl at in
    record { enough = b.enough; little = b.little }
  where
    positive : (m : ℕ) → (m ≡ 0 → 0 < m) → 0 < m
    positive zero f = f refl
    positive (suc m) f = omega arith
