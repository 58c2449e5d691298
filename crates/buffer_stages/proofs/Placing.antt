-- A loop that writes each position.
use Rattle.std.proofs.Common.{ℕ, suc, zero, ◌≡◌, ◌<◌, ◌≤◌, ◌+◌, List, [], ◌∷◌, ◌++◌, Option, Some, None, unwrap_or, length, false, take, drop, set, get_or, arith, refl, ap, sym, subst, ◌∙◌}
use Rattle.std.proofs.lemmas.List.{length-map, length-set, get_or-map, drop_all}
use Rattle.buffer_glyphs.specs.declared.info.hb_glyph_info_t.{hb_glyph_info_t}
use Rattle.buffer_glyphs.specs.Items.{Item, Position, item_of}
use Rattle.buffer_core.specs.Readings.{always}
use Rattle.buffer_core.specs.Sides.{Sides, all_glyphs, items_of}
use Rattle.buffer_core.specs.Lending.{refilled_list, with_positions_refilled}
use Rattle.buffer_stages.specs.Ready.{IsDone, IsReady}
use Rattle.buffer_stages.specs.PositionMaps.{with_positions_mapped, positions_mapped}
use Rattle.buffer_stages.specs.Lemmas.Written.{refilled_whole}

step : (k : Item → Position → Position) (xs : List Item) (ps : List Position) (i : ℕ) (q : Position) (x : Item) (p : Position) → i < length xs → i < length ps → q ≡ k (get_or xs i x) (get_or ps i p)
    → set (positions_mapped k (take i xs) (take i ps) ++ drop i ps) i q ≡ positions_mapped k (take (suc i) xs) (take (suc i) ps) ++ drop (suc i) ps
step k [] ps i q x p lt le e = absurd (omega (arith, lt))
step k (y ∷ xs) [] i q x p lt le e = absurd (omega (arith, le))
step k (y ∷ xs) (r ∷ ps) zero q x p lt le e = ap (λ z. z ∷ ps) e
step k (y ∷ xs) (r ∷ ps) (suc i) q x p lt le e = ap (λ zs. k y r ∷ zs) (step k xs ps i q x p (omega (arith, lt)) (omega (arith, le)) e)

still : (k : Item → Position → Position) (xs : List Item) (ps : List Position) (i : ℕ) (x : Item) (p : Position) → i < length xs → i < length ps → k (get_or xs i x) (get_or ps i p) ≡ get_or ps i p
    → positions_mapped k (take i xs) (take i ps) ++ drop i ps ≡ positions_mapped k (take (suc i) xs) (take (suc i) ps) ++ drop (suc i) ps
still k [] ps i x p lt le e = absurd (omega (arith, lt))
still k (y ∷ xs) [] i x p lt le e = absurd (omega (arith, le))
still k (y ∷ xs) (r ∷ ps) zero x p lt le e = ap (λ z. z ∷ ps) (sym e)
still k (y ∷ xs) (r ∷ ps) (suc i) x p lt le e = ap (λ zs. k y r ∷ zs) (still k xs ps i x p (omega (arith, lt)) (omega (arith, le)) e)

left : (k : Item → Position → Position) (xs : List Item) (ps : List Position) (i : ℕ) (p : Position) → i < length xs → i < length ps → get_or (positions_mapped k (take i xs) (take i ps) ++ drop i ps) i p ≡ get_or ps i p
left k [] ps i p lt le = absurd (omega (arith, lt))
left k (y ∷ xs) [] i p lt le = absurd (omega (arith, le))
left k (y ∷ xs) (r ∷ ps) zero p lt le = refl
left k (y ∷ xs) (r ∷ ps) (suc i) p lt le = left k xs ps i p (omega (arith, lt)) (omega (arith, le))

whole : (k : Item → Position → Position) (xs : List Item) (ps : List Position) (i : ℕ) → length xs ≤ i → length ps ≤ i → positions_mapped k (take i xs) (take i ps) ++ drop i ps ≡ positions_mapped k xs ps
whole k [] ps zero le lf = drop_all zero ps (omega (arith, lf))
whole k [] ps (suc i) le lf = drop_all (suc i) ps (omega (arith, lf))
whole k (y ∷ xs) ps zero le lf = absurd (omega (arith, le))
whole k (y ∷ xs) [] (suc i) le lf = refl
whole k (y ∷ xs) (r ∷ ps) (suc i) le lf = ap (λ zs. k y r ∷ zs) (whole k xs ps i (omega (arith, le)) (omega (arith, lf)))

-- positions of a buffer are written, and nothing else
pub record AreOnlyPlaced (count : ℕ) (old new : Sides) : Type 0 where
  pub same : new ≡ record old { positions = new.positions }
  pub closed : new.is_open ≡ false
  pub glyphs : length (all_glyphs new) ≡ count
  pub many : length new.positions ≡ count

-- so many are what a map makes of them
abbrev pub AreWritten : (Item → Position → Position) → ℕ → Sides → Sides → Type 0
AreWritten k i old new = new.positions ≡ positions_mapped k (take i (items_of old)) (take i old.positions) ++ drop i old.positions

pub none_placed : (s : Sides) → IsReady s → AreOnlyPlaced (length (all_glyphs s)) s s
none_placed s ready = record { same = refl; closed = ready.closed; glyphs = refl; many = ready.placed }

placed_there : (count i : ℕ) (q : Position) (s now : Sides) → AreOnlyPlaced count s now → AreOnlyPlaced count s (with_positions_refilled (set now.positions i q) now)
placed_there count i q s now a =
    let e = refilled_whole (set now.positions i q) now.positions (length-set now.positions i q) in
    record {
      same = ap (λ (t : Sides). record t { positions = refilled_list (set now.positions i q) now.positions }) a.same;
      closed = a.closed;
      glyphs = a.glyphs;
      many = ap length e ∙ length-set now.positions i q ∙ a.many;
    }

-- one more position is written
pub one_placed : (count i : ℕ) (q : Position) (ps : List Position) (s now : Sides) → ps ≡ now.positions → AreOnlyPlaced count s now → AreOnlyPlaced count s (with_positions_refilled (set ps i q) now)
one_placed count i q ps s now lent a =
    let P : List Position → Type 0 = λ qs. AreOnlyPlaced count s (with_positions_refilled (set qs i q) now) in
    subst P (sym lent) (placed_there count i q s now a)

written_there : (k : Item → Position → Position) (count i : ℕ) (g : hb_glyph_info_t) (p q : Position) (s now : Sides) → AreOnlyPlaced count s now → length s.positions ≡ count → length (all_glyphs s) ≡ count → i < count
    → q ≡ k (item_of (get_or (all_glyphs now) i g)) (get_or now.positions i p) → AreWritten k i s now → AreWritten k (i + 1) s (with_positions_refilled (set now.positions i q) now)
written_there k count i g p q s now a many all lt e w =
    let items : length (items_of s) ≡ count = length-map (all_glyphs s) item_of ∙ all in
    let kept : get_or now.positions i p ≡ get_or s.positions i p = ap (λ ps. get_or ps i p) w ∙ left k (items_of s) s.positions i p (omega (arith, lt, items)) (omega (arith, lt, many)) in
    let glyph : item_of (get_or (all_glyphs now) i g) ≡ get_or (items_of s) i (item_of g) = ap (λ (t : Sides). item_of (get_or (all_glyphs t) i g)) a.same ∙ sym (get_or-map item_of (all_glyphs s) i g (item_of g) (omega (arith, lt, all))) in
    let made : q ≡ k (get_or (items_of s) i (item_of g)) (get_or s.positions i p) = e ∙ ap (λ x. k x (get_or now.positions i p)) glyph ∙ ap (k (get_or (items_of s) i (item_of g))) kept in
    let more : suc i ≡ i + 1 = omega arith in
    let P : ℕ → Type 0 = λ n. refilled_list (set now.positions i q) now.positions ≡ positions_mapped k (take n (items_of s)) (take n s.positions) ++ drop n s.positions in
    subst P more (refilled_whole (set now.positions i q) now.positions (length-set now.positions i q) ∙ ap (λ ps. set ps i q) w ∙ step k (items_of s) s.positions i q (item_of g) p (omega (arith, lt, items)) (omega (arith, lt, many)) made)

pub next_written : (k : Item → Position → Position) (count i : ℕ) (g : hb_glyph_info_t) (p q : Position) (gs : List hb_glyph_info_t) (ps lent : List Position) (s now : Sides) → gs ≡ all_glyphs now → ps ≡ now.positions → lent ≡ now.positions
    → AreOnlyPlaced count s now → length s.positions ≡ count → length (all_glyphs s) ≡ count → i < count → q ≡ k (item_of (get_or gs i g)) (get_or ps i p) → AreWritten k i s now → AreWritten k (i + 1) s (with_positions_refilled (set lent i q) now)
next_written k count i g p q gs ps lent s now glyphs there is a many all lt made w =
    let P : List Position → Type 0 = λ qs. AreWritten k (i + 1) s (with_positions_refilled (set qs i q) now) in
    subst P (sym is) (written_there k count i g p q s now a many all lt (made ∙ ap (λ hs. k (item_of (get_or hs i g)) (get_or ps i p)) glyphs ∙ ap (λ qs. k (item_of (get_or (all_glyphs now) i g)) (get_or qs i p)) there) w)

-- one more position need not be written
still_written : (k : Item → Position → Position) (count i : ℕ) (g : hb_glyph_info_t) (p : Position) (gs : List hb_glyph_info_t) (ps : List Position) (s now : Sides) → gs ≡ all_glyphs now → ps ≡ now.positions
    → AreOnlyPlaced count s now → length s.positions ≡ count → length (all_glyphs s) ≡ count → i < count → get_or ps i p ≡ k (item_of (get_or gs i g)) (get_or ps i p) → AreWritten k i s now → AreWritten k (i + 1) s now
still_written k count i g p gs ps s now glyphs there a many all lt same w =
    let items : length (items_of s) ≡ count = length-map (all_glyphs s) item_of ∙ all in
    let kept : get_or ps i p ≡ get_or s.positions i p = ap (λ qs. get_or qs i p) (there ∙ w) ∙ left k (items_of s) s.positions i p (omega (arith, lt, items)) (omega (arith, lt, many)) in
    let glyph : item_of (get_or gs i g) ≡ get_or (items_of s) i (item_of g) = ap (λ hs. item_of (get_or hs i g)) glyphs ∙ ap (λ (t : Sides). item_of (get_or (all_glyphs t) i g)) a.same ∙ sym (get_or-map item_of (all_glyphs s) i g (item_of g) (omega (arith, lt, all))) in
    let stays : k (get_or (items_of s) i (item_of g)) (get_or s.positions i p) ≡ get_or s.positions i p = ap (k (get_or (items_of s) i (item_of g))) (sym kept) ∙ ap (λ x. k x (get_or ps i p)) (sym glyph) ∙ sym same ∙ kept in
    let more : suc i ≡ i + 1 = omega arith in
    let P : ℕ → Type 0 = λ n. now.positions ≡ positions_mapped k (take n (items_of s)) (take n s.positions) ++ drop n s.positions in
    subst P more (w ∙ still k (items_of s) s.positions i (item_of g) p (omega (arith, lt, items)) (omega (arith, lt, many)) stays)

-- one more position is what a function made of it, or as it was where the function made none
pub next_changed : (k : Item → Position → Position) (count i : ℕ) (g : hb_glyph_info_t) (p q : Position) (made : Option Position) (gs : List hb_glyph_info_t) (ps lent : List Position) (s now : Sides) → gs ≡ all_glyphs now → ps ≡ now.positions → lent ≡ now.positions
    → AreOnlyPlaced count s now → length s.positions ≡ count → length (all_glyphs s) ≡ count → i < count → made ≡ Some q → unwrap_or made (get_or ps i p) ≡ k (item_of (get_or gs i g)) (get_or ps i p) → AreWritten k i s now → AreWritten k (i + 1) s (with_positions_refilled (set lent i q) now)
next_changed k count i g p q made gs ps lent s now glyphs there is a many all lt some changed w =
    next_written k count i g p q gs ps lent s now glyphs there is a many all lt (ap (λ o. unwrap_or o (get_or ps i p)) (sym some) ∙ changed) w

pub none_changed : (k : Item → Position → Position) (count i : ℕ) (g : hb_glyph_info_t) (p : Position) (made : Option Position) (gs : List hb_glyph_info_t) (ps : List Position) (s now : Sides) → gs ≡ all_glyphs now → ps ≡ now.positions
    → AreOnlyPlaced count s now → length s.positions ≡ count → length (all_glyphs s) ≡ count → i < count → made ≡ None → unwrap_or made (get_or ps i p) ≡ k (item_of (get_or gs i g)) (get_or ps i p) → AreWritten k i s now → AreWritten k (i + 1) s now
none_changed k count i g p made gs ps s now glyphs there a many all lt none changed w =
    still_written k count i g p gs ps s now glyphs there a many all lt (ap (λ o. unwrap_or o (get_or ps i p)) (sym none) ∙ changed) w

-- all are written
pub all_placed : (k : Item → Position → Position) (count i : ℕ) (s now : Sides) → IsReady s → count ≤ i → AreOnlyPlaced count s now → length s.positions ≡ count → length (all_glyphs s) ≡ count → AreWritten k i s now → IsDone (always (with_positions_mapped k)) s now
all_placed k count i s now ready le a many all w =
    let items : length (items_of s) ≡ count = length-map (all_glyphs s) item_of ∙ all in
    let there : now.positions ≡ positions_mapped k (items_of s) s.positions = w ∙ whole k (items_of s) s.positions i (omega (arith, le, items)) (omega (arith, le, many)) in
    let same : now ≡ record s { positions = positions_mapped k (items_of s) s.positions } = a.same ∙ ap (λ ps. record s { positions = ps }) there in
    let long : length (positions_mapped k (items_of s) s.positions) ≡ length s.positions = ap length (sym there) ∙ a.many ∙ sym many in
    let P : Sides → Type 0 = λ t. IsDone (always (with_positions_mapped k)) s t in
    subst P (sym same) (record {
      follows = refl;
      settings = refl;
      ready = record { closed = ready.closed; front = ready.front; unread = ready.unread; placed = long ∙ ready.placed; unrefused = ready.unrefused };
      numbers = λ are. are;
    })
