-- Runs that two lines draw alike.
use Rattle.std.proofs.Common.{ℕ, zero, suc, ◌≡◌, ◌≢◌, ◌≤◌, ◌<◌, ◌+◌, ◌-◌, ◌&&◌, Decides, eqb, int_eq, min, Bool, true, false, List, [], ◌∷◌, ◌++◌, Some, length, map, reverse, take, slice_get, arith, inl, inr, refl, sym, ap, subst, ◌∙◌}
use Rattle.std.proofs.lemmas.Bool.{cases_lt}
use Rattle.std.proofs.lemmas.Bool.Decides.{Decides-eqb, Decides-int_eq}
use Rattle.std.proofs.lemmas.List.{length-map, map-append, reverse-append, take_more_same}
use Rattle.std.proofs.lemmas.Option.{get_or_from_slice_get, slice_get_within}
use Rattle.buffer_facts.proofs.Truth.{and_true, both_true}
use Rattle.caret_model.specs.Stops.{in_text_order}
use Rattle.caret_model.proofs.TextOrder.{order_count}
use Rattle.cell_grid.specs.declared.cells.CellGlyph.{CellGlyph}
use Rattle.cell_grid.specs.declared.cells.CellRun.{CellRun}
use Rattle.cell_grid.specs.Drawing.{RunPicture, ShareFront, picture, pictures}
use Rattle.cell_grid.specs.Grids.{Grid}

-- ---- equal glyphs

-- the test of glyphs
abbrev pub same_tests : CellGlyph → CellGlyph → Bool
same_tests a b = eqb a.glyph_id b.glyph_id && (int_eq a.x_advance b.x_advance && (int_eq a.y_advance b.y_advance && (int_eq a.x_offset b.x_offset && int_eq a.y_offset b.y_offset)))

pub glyph_decides : (a b : CellGlyph) → Decides (same_tests a b) (a ≡ b)
glyph_decides a b = (there, λ same. subst (λ c. same_tests a c ≡ true) same itself)
  where
    there : same_tests a b ≡ true → a ≡ b
    there tests =
        let one = both_true _ _ tests in
        let two = both_true _ _ one.1 in
        let three = both_true _ _ two.1 in
        let four = both_true _ _ three.1 in
        let p = (Decides-eqb a.glyph_id b.glyph_id).0 one.0 in
        let q = (Decides-int_eq a.x_advance b.x_advance).0 two.0 in
        let r = (Decides-int_eq a.y_advance b.y_advance).0 three.0 in
        let s = (Decides-int_eq a.x_offset b.x_offset).0 four.0 in
        let t = (Decides-int_eq a.y_offset b.y_offset).0 four.1 in
        λ k. record { glyph_id = p k; x_advance = q k; y_advance = r k; x_offset = s k; y_offset = t k }

    itself : same_tests a a ≡ true
    itself =
        and_true _ _ ((Decides-eqb a.glyph_id a.glyph_id).1 refl)
        (and_true _ _ ((Decides-int_eq a.x_advance a.x_advance).1 refl)
        (and_true _ _ ((Decides-int_eq a.y_advance a.y_advance).1 refl) (and_true _ _ ((Decides-int_eq a.x_offset a.x_offset).1 refl) ((Decides-int_eq a.y_offset a.y_offset).1 refl))))

-- ---- the front that two lists share

get_taken : {X : Type 0} (m : ℕ) (xs : List X) (i : ℕ) → i < m → slice_get (take m xs) i ≡ slice_get xs i
get_taken zero xs i lt = absurd (omega (arith, lt))
get_taken (suc m) [] i lt = refl
get_taken (suc m) (x ∷ xs) zero lt = refl
get_taken (suc m) (x ∷ xs) (suc i) lt = get_taken m xs i (omega (arith, lt))

share_more : {X : Type 0} (xs ys : List X) (i : ℕ) (x y : X) → slice_get xs i ≡ Some x → slice_get ys i ≡ Some y → x ≡ y → take i xs ≡ take i ys → take (i + 1) xs ≡ take (i + 1) ys
share_more xs ys i x y at there same front =
    let here : slice_get ys i ≡ Some x = there ∙ ap Some (sym same) in
    take_more_same xs ys i x (slice_get_within xs i x at) (slice_get_within ys i x here) front (get_or_from_slice_get xs i x x at ∙ sym (get_or_from_slice_get ys i x x here))

share_end : {X : Type 0} (xs ys : List X) (i : ℕ) (x y : X) → slice_get xs i ≡ Some x → slice_get ys i ≡ Some y → x ≢ y → take i xs ≡ take i ys → ShareFront xs ys i
share_end xs ys i x y at there other front =
    let one = slice_get_within xs i x at in
    let two = slice_get_within ys i y there in
    record { first = omega (arith, one); second = omega (arith, two); same = front; most = most }
  where
    most : (m : ℕ) → m ≤ length xs → m ≤ length ys → take m xs ≡ take m ys → m ≤ i
    most m le to same = elim (cases_lt i m) [
      | inl less ↦
          let met : Some x ≡ Some y = sym at ∙ sym (get_taken m xs i less) ∙ ap (λ zs. slice_get zs i) same ∙ get_taken m ys i less ∙ there in
          let equal : x ≡ y = cc in
          absurd (other equal)
      | inr more ↦ more
    ]

share_all : {X : Type 0} (xs ys : List X) (n : ℕ) → n ≡ min (length xs) (length ys) → take n xs ≡ take n ys → ShareFront xs ys n
share_all xs ys n is front = record { first = omega (arith, is); second = omega (arith, is); same = front; most = λ m le to same. omega (arith, is, le, to) }

-- ---- what is drawn, from either end

get_map : {X Y : Type 0} (f : X → Y) (xs : List X) (i : ℕ) (x : X) → slice_get xs i ≡ Some x → slice_get (map f xs) i ≡ Some (f x)
get_map f [] i x at = cc
get_map f (y ∷ xs) zero x at = let same : y ≡ x = cc in ap (λ z. Some (f z)) same
get_map f (y ∷ xs) (suc i) x at = get_map f xs i x at

pub turned_map : {X Y : Type 0} (f : X → Y) (xs : List X) → reverse (map f xs) ≡ map f (reverse xs)
turned_map f [] = refl
turned_map f (x ∷ xs) =
    reverse-append (f x ∷ []) (map f xs) ∙ ap (λ ys. ys ++ f x ∷ []) (turned_map f xs) ∙ sym (map-append f (reverse xs) (x ∷ [])) ∙ ap (map f) (sym (reverse-append (x ∷ []) xs))

module _ (b : Bool) where
  abbrev lists : Grid → List RunPicture
  lists g = in_text_order b (pictures g)

  along : (f : CellRun → RunPicture) (rs : List CellRun) → in_text_order b (map f rs) ≡ map f (in_text_order b rs)
  along f rs = by_order b
    where
      by_order : (c : Bool) → in_text_order c (map f rs) ≡ map f (in_text_order c rs)
      by_order false = refl
      by_order true = turned_map f rs

  pub many : (g : Grid) → length (lists g) ≡ length g.runs
  many g = order_count b (pictures g) ∙ length-map g.runs (picture g.glyphs)

  picture_at : (g : Grid) (i : ℕ) (r : CellRun) → slice_get (in_text_order b g.runs) i ≡ Some r → slice_get (lists g) i ≡ Some (picture g.glyphs r)
  picture_at g i r at = ap (λ ds. slice_get ds i) (along (picture g.glyphs) g.runs) ∙ get_map (picture g.glyphs) (in_text_order b g.runs) i r at

  pub alike_more : (old new : Grid) (i : ℕ) (r s : CellRun) → slice_get (in_text_order b old.runs) i ≡ Some r → slice_get (in_text_order b new.runs) i ≡ Some s → picture old.glyphs r ≡ picture new.glyphs s → take i (lists old) ≡ take i (lists new)
      → take (i + 1) (lists old) ≡ take (i + 1) (lists new)
  alike_more old new i r s at there same front = share_more (lists old) (lists new) i (picture old.glyphs r) (picture new.glyphs s) (picture_at old i r at) (picture_at new i s there) same front

  pub alike_end : (old new : Grid) (i : ℕ) (r s : CellRun) → slice_get (in_text_order b old.runs) i ≡ Some r → slice_get (in_text_order b new.runs) i ≡ Some s → picture old.glyphs r ≢ picture new.glyphs s → take i (lists old) ≡ take i (lists new)
      → ShareFront (lists old) (lists new) i
  alike_end old new i r s at there other front = share_end (lists old) (lists new) i (picture old.glyphs r) (picture new.glyphs s) (picture_at old i r at) (picture_at new i s there) other front

  pub alike_all : (old new : Grid) (n : ℕ) → n ≡ min (length old.runs) (length new.runs) → take n (lists old) ≡ take n (lists new) → ShareFront (lists old) (lists new) n
  alike_all old new n is front = let one = many old in let two = many new in share_all (lists old) (lists new) n (is ∙ (λ k. min (sym one k) (sym two k))) front
