-- Marks ahead of the cursor that belong to another ligature now.
use Rattle.std.proofs.Common.{ℕ, zero, suc, ◌≡◌, ◌≤◌, ◌<◌, ◌+◌, ◌==◌, ◌&&◌, not, true, false, List, [], ◌∷◌, ◌++◌, length, take, drop, set, refl, sym, ap, ◌∙◌, arith, append_assoc, Some, slice_get}
use Rattle.std.proofs.lemmas.List.{take_more_set, drop-set-lt, map-set, drop_more, drop_all, append-nil, take_all, length-map, length-set, take-append-drop}
use Rattle.std.proofs.lemmas.Option.{get_or_from_slice_get, slice_get_within}
use Rattle.buffer_glyphs.specs.declared.info.hb_glyph_info_t.{hb_glyph_info_t}
use Rattle.buffer_glyphs.specs.Items.{Item, item_of, strip}
use Rattle.buffer_glyphs.specs.Origins.{origin_of, origins}
use Rattle.buffer_core.specs.Sides.{Sides}
use Rattle.buffer_core.specs.Lending.{with_glyph_ahead}
use Rattle.buffer_glyphs.specs.LigatureWords.{lig_comp, lig_id}
use Rattle.layout_gsub.specs.Ligating.{following_items, with_component}
use Rattle.layout_gsub.specs.Uniting.{IsRenumbered}
use Rattle.buffer_stages.proofs.Reversed.{got_strip as item_at}
use Rattle.buffer_stages.proofs.Lemmas.Elements.{split_at as some_left}

-- so many were renumbered
pub record IsFollowing (id last ended own : ℕ) (s : Sides) (i : ℕ) (now : Sides) : Type 0 where
  pub items : take i (strip now.ahead) ++ following_items id last ended own (drop i (strip now.ahead)) ≡ following_items id last ended own (strip s.ahead)
  pub origin : origins now.ahead ≡ origins s.ahead
  pub others : now ≡ record s { ahead = now.ahead }
  pub count : length now.ahead ≡ length s.ahead

same_origins : (gs : List hb_glyph_info_t) (i : ℕ) (g mark : hb_glyph_info_t) → slice_get gs i ≡ Some g → origin_of mark ≡ origin_of g → origins (set gs i mark) ≡ origins gs
same_origins [] i g mark at from = cc
same_origins (h ∷ gs) zero g mark at from = let same : h ≡ g = cc in ap (λ o. o ∷ origins gs) (from ∙ ap origin_of (sym same))
same_origins (h ∷ gs) (suc i) g mark at from = ap (λ os. origin_of h ∷ os) (same_origins gs i g mark at from)

-- one more is
pub one_following : (id last ended own i : ℕ) (s now next : Sides) (g mark : hb_glyph_info_t) → slice_get now.ahead i ≡ Some g → ((lig_id (item_of g) == last) && not (lig_comp (item_of g) == 0)) ≡ true → item_of mark ≡ with_component id ended own (item_of g) → origin_of mark ≡ origin_of g
    → IsFollowing id last ended own s i now → next ≡ with_glyph_ahead i mark now → IsFollowing id last ended own s (i + 1) next
one_following id last ended own i s now next g mark at same item from f is =
    let xs = strip now.ahead in
    let lt : i < length now.ahead = slice_get_within now.ahead i g at in
    let ahead : next.ahead ≡ set now.ahead i mark = ap (λ (t : Sides). t.ahead) is in
    let y = with_component id ended own (item_of g) in
    let items : strip next.ahead ≡ set xs i y = ap strip ahead ∙ map-set item_of now.ahead i mark ∙ ap (set xs i) item in
    let there : slice_get xs i ≡ Some (item_of g) = item_at now.ahead i g at in
    let left : drop i xs ≡ item_of g ∷ drop (i + 1) xs = some_left xs i (item_of g) there in
    let rest = following_items id last ended own (drop (i + 1) xs) in
    let marked : following_items id last ended own (drop i xs) ≡ y ∷ rest = ap (following_items id last ended own) left ∙ rw (same) refl in
    let within : i < length xs = let all = length-map now.ahead item_of in omega (arith, all, lt) in
    let taken : take (i + 1) (set xs i y) ≡ take i xs ++ y ∷ [] = take_more_set xs i y within in
    let dropped : drop (i + 1) (set xs i y) ≡ drop (i + 1) xs = drop-set-lt (i + 1) xs i y (omega arith) in
    record {
      items = ap (λ ys. take (i + 1) ys ++ following_items id last ended own (drop (i + 1) ys)) items ∙ ap (λ ys. ys ++ following_items id last ended own (drop (i + 1) (set xs i y))) taken ∙ ap (λ ys. (take i xs ++ y ∷ []) ++ following_items id last ended own ys) dropped ∙ append_assoc (take i xs) (y ∷ []) rest ∙ ap (λ ys. take i xs ++ ys) (sym marked) ∙ f.items;
      origin = ap origins ahead ∙ same_origins now.ahead i g mark at from ∙ f.origin;
      others = is ∙ ap (λ (t : Sides). record t { ahead = set now.ahead i mark }) f.others ∙ ap (λ (gs : List hb_glyph_info_t). record s { ahead = gs }) (sym ahead);
      count = ap length ahead ∙ length-set now.ahead i mark ∙ f.count;
    }

other_stops : (id last ended own : ℕ) (x : Item) (xs : List Item) → ((lig_id x == last) && not (lig_comp x == 0)) ≡ false → following_items id last ended own (x ∷ xs) ≡ x ∷ xs
other_stops id last ended own x xs none = rw (none) refl

-- the next is no such mark
pub following_stops : (id last ended own i : ℕ) (s now : Sides) (g : hb_glyph_info_t) → slice_get now.ahead i ≡ Some g → ((lig_id (item_of g) == last) && not (lig_comp (item_of g) == 0)) ≡ false → IsFollowing id last ended own s i now → IsRenumbered (following_items id last ended own (strip s.ahead)) s now
following_stops id last ended own i s now g at none f =
    let xs = strip now.ahead in
    let left : drop i xs ≡ item_of g ∷ drop (i + 1) xs = some_left xs i (item_of g) (item_at now.ahead i g at) in
    let stays : following_items id last ended own (drop i xs) ≡ drop i xs = ap (following_items id last ended own) left ∙ other_stops id last ended own (item_of g) (drop (i + 1) xs) none ∙ sym left in
    record {
      items = sym (take-append-drop i xs) ∙ ap (λ ys. take i xs ++ ys) (sym stays) ∙ f.items;
      origin = f.origin;
      others = f.others;
    }
