-- A glyph that was written through the cursor.
use Rattle.std.proofs.Common.{ℕ, zero, suc, ◌≡◌, ◌≤◌, ◌+◌, ◌-◌, ◌<◌, [], ◌∷◌, ap, sym, ◌∙◌, get_or, slice_get, Some, length, drop, Bool, true, false, if◌then◌else◌, List, take, refl, arith}
use Rattle.std.specs.Bool.{OnTrue}
use Rattle.std.specs.Vec.{with_item}
use Rattle.std.proofs.lemmas.List.{drop-set-add, drop-set-lt, length-take-le, take-set-le, get_or-drop}
use Rattle.std.proofs.lemmas.Option.{slice_get_read}
use Rattle.std.proofs.Math.ListN.{set}
use Rattle.buffer_glyphs.specs.declared.info.hb_glyph_info_t.{hb_glyph_info_t}
use Rattle.buffer_core.specs.declared.buffer.hb_buffer_t.TheInside.{Inside}
use Rattle.buffer_core.specs.Inside.{sides_of, IsSound}
use Rattle.buffer_core.specs.Lending.{with_glyph_ahead, with_last_behind}

-- how many glyphs of the list are behind the cursor
abbrev pub end_of : Inside → ℕ
end_of b = if b.have_output then b.out_len else b.idx

pub end_before : (b : Inside) → IsSound b → end_of b ≤ b.idx
end_before b s = by_open b.have_output s.out_len
  where
    by_open : (t : Bool) → OnTrue t (b.out_len ≤ b.idx) → (if t then b.out_len else b.idx) ≤ b.idx
    by_open true le = le
    by_open false le = omega arith

behind_is : (b : Inside) → (sides_of b).behind ≡ take (end_of b) b.info.items
behind_is b = by_open b.have_output
  where
    by_open : (t : Bool) → (if t then take b.out_len b.info.items else take b.idx b.info.items) ≡ take (if t then b.out_len else b.idx) b.info.items
    by_open true = refl
    by_open false = refl

pub end_long : (b : Inside) → IsSound b → length (sides_of b).behind ≡ end_of b
end_long b s = ap length (behind_is b) ∙ length-take-le (end_of b) b.info.items (omega (arith, end_before b s, s.cursor))

pub glyph_written : (b : Inside) (i : ℕ) (g : hb_glyph_info_t) → IsSound b → sides_of (record b { info = with_item b.info (b.idx + i) g }) ≡ with_glyph_ahead i g (sides_of b)
glyph_written b i g s =
    let stays = take-set-le (end_of b) b.info.items (b.idx + i) g (omega (arith, end_before b s)) in
    ap (λ gs. record (sides_of (record b { info = with_item b.info (b.idx + i) g })) { behind = gs }) (behind_is (record b { info = with_item b.info (b.idx + i) g }) ∙ stays ∙ sym (behind_is b))
    ∙ ap (λ gs. record (sides_of b) { ahead = gs }) (drop-set-add b.idx b.info.items i g)

-- the i-th glyph from the n-th on, where it was read
pub glyph_read : (gs : List hb_glyph_info_t) (n i : ℕ) (g : hb_glyph_info_t) → i < length (drop n gs) → g ≡ get_or gs (n + i) g → slice_get (drop n gs) i ≡ Some g
glyph_read gs n i g lt e = slice_get_read (drop n gs) (length (drop n gs)) i g refl lt (rw get_or-drop e)

-- the last of some elements at the front of a list
put_in : {X : Type 0} (xs : List X) (n : ℕ) (x : X) → take (suc n) (set xs n x) ≡ set (take (suc n) xs) n x
put_in [] zero x = refl
put_in [] (suc n) x = refl
put_in (y ∷ ys) zero x = refl
put_in (y ∷ ys) (suc n) x = ap (λ zs. y ∷ zs) (put_in ys n x)

get_in : {X : Type 0} (xs : List X) (n : ℕ) (d : X) → get_or (take (suc n) xs) n d ≡ get_or xs n d
get_in [] zero d = refl
get_in [] (suc n) d = refl
get_in (y ∷ ys) zero d = refl
get_in (y ∷ ys) (suc n) d = get_in ys n d

end_written : (gs : List hb_glyph_info_t) (m : ℕ) (g : hb_glyph_info_t) → 0 < m → m ≤ length gs → take m (set gs (m - 1) g) ≡ set (take m gs) (length (take m gs) - 1) g
end_written gs m g some le =
    let n = m - 1 in
    let e : m ≡ suc n = omega (arith, some) in
    let long : length (take m gs) ≡ m = length-take-le m gs le in
    ap (λ k. take k (set gs n g)) e ∙ put_in gs n g ∙ ap (λ k. set (take k gs) n g) (sym e) ∙ ap (λ k. set (take m gs) (k - 1) g) (sym long)

-- the last glyph behind the cursor
pub last_written : (b : Inside) (g : hb_glyph_info_t) → IsSound b → 0 < end_of b → sides_of (record b { info = with_item b.info (end_of b - 1) g }) ≡ with_last_behind g (sides_of b)
last_written b g s some =
    let new = record b { info = with_item b.info (end_of b - 1) g } in
    let behind = behind_is new ∙ end_written b.info.items (end_of b) g some (omega (arith, end_before b s, s.cursor)) ∙ ap (λ gs. set gs (length gs - 1) g) (sym (behind_is b)) in
    let ahead : drop b.idx (set b.info.items (end_of b - 1) g) ≡ drop b.idx b.info.items = drop-set-lt b.idx b.info.items (end_of b - 1) g (omega (arith, some, end_before b s)) in
    ap (λ gs. record (sides_of new) { behind = gs }) behind ∙ ap (λ gs. record (with_last_behind g (sides_of b)) { ahead = gs }) ahead

passed_read : (gs : List hb_glyph_info_t) (n : ℕ) (g : hb_glyph_info_t) → 0 < n → n ≤ length gs → g ≡ get_or gs (n - 1) g → slice_get (take n gs) (length (take n gs) - 1) ≡ Some g
passed_read gs n g some le read =
    let e : n ≡ suc (n - 1) = omega (arith, some) in
    let long : length (take n gs) ≡ n = length-take-le n gs le in
    let there : get_or gs (n - 1) g ≡ get_or (take n gs) (length (take n gs) - 1) g =
    sym (get_in gs (n - 1) g) ∙ ap (λ k. get_or (take k gs) (n - 1) g) (sym e) ∙ ap (λ k. get_or (take n gs) (k - 1) g) (sym long) in
    slice_get_read (take n gs) (length (take n gs)) (length (take n gs) - 1) g refl (omega (arith, long, some)) (read ∙ there)

pub last_read : (b : Inside) (g : hb_glyph_info_t) → IsSound b → 0 < end_of b → g ≡ get_or b.info.items (end_of b - 1) g → slice_get (sides_of b).behind (length (sides_of b).behind - 1) ≡ Some g
last_read b g s some read = rw (behind_is b) (passed_read b.info.items (end_of b) g some (omega (arith, end_before b s, s.cursor)) read)
