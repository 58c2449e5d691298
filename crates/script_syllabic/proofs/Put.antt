-- A circle that is appended to the output.
use Rattle.std.proofs.Common.{ℕ, zero, suc, ◌≡◌, ◌≤◌, ◌<◌, ◌+◌, ◌-◌, ◌||◌, Bool, List, [], ◌∷◌, ◌++◌, length, take, drop, true, false, Some, slice_get, sym, ap, ◌∙◌, arith, append_assoc}
use Rattle.std.proofs.Math.Seq.{take-append_seam, drop-append_seam}
use Rattle.std.proofs.lemmas.List.{map-append, length-map, drop_all, drop-map, take-append-drop, take-append-le, drop-append-le}
use Rattle.buffer_glyphs.specs.declared.info.hb_glyph_info_t.{hb_glyph_info_t}
use Rattle.buffer_glyphs.specs.Items.{glyph_flags, item_of, strip}
use Rattle.buffer_glyphs.specs.Origins.{Origin, origin_of, origins, flags_at, first_circled}
use Rattle.buffer_core.specs.Sides.{Sides, all_glyphs, origins_of}
use Rattle.buffer_core.specs.Merging.{with_output_info}
use Rattle.std.specs.List.{list_any}
use Rattle.script_syllabic.specs.declared.circles.CircleRule.{CircleRule}
use Rattle.script_syllabic.specs.Circles.{is_broken}
use Rattle.script_syllabic.specs.Rules.{IsCircled}
use Rattle.buffer_stages.proofs.Lemmas.Elements.{split_at}

put_all : (g : hb_glyph_info_t) (s : Sides) → origins_of (with_output_info g s) ≡ origins s.behind ++ (origin_of g ∷ origins s.ahead)
put_all g s = ap origins (append_assoc s.behind (g ∷ []) s.ahead) ∙ map-append origin_of s.behind (g ∷ s.ahead)

first_from : {X : Type 0} (xs : List X) (i : ℕ) (x : X) → slice_get xs i ≡ Some x → drop i xs ≡ x ∷ drop (suc i) xs
first_from [] i x e = cc
first_from (y ∷ ys) zero x e = let same : y ≡ x = cc in ap (λ z. z ∷ ys) same
first_from (y ∷ ys) (suc i) x e = first_from ys i x e

flags_of_first : (os : List Origin) (i : ℕ) (o : Origin) → slice_get os i ≡ Some o → flags_at i os ≡ o.flags
flags_of_first [] i o e = cc
flags_of_first (p ∷ os) zero o e = let same : p ≡ o = cc in ap (λ (q : Origin). q.flags) same
flags_of_first (p ∷ os) (suc i) o e = flags_of_first os i o e

pub put_before : (circle : hb_glyph_info_t) (s new : Sides) → slice_get (origins_of s) (length s.behind) ≡ Some (origin_of circle) → new ≡ with_output_info circle s → IsCircled (item_of circle) 0 s new
put_before circle s new first e =
    let os = origins_of s in
    let n = length s.behind in
    let whole : os ≡ origins s.behind ++ origins s.ahead = map-append origin_of s.behind s.ahead in
    let len : length (origins s.behind) ≡ n = length-map s.behind origin_of in
    let front : take n os ≡ origins s.behind = ap (take n) whole ∙ ap (λ k. take k (origins s.behind ++ origins s.ahead)) (sym len) ∙ take-append_seam (origins s.behind) (origins s.ahead) in
    let back : drop n os ≡ origins s.ahead = ap (drop n) whole ∙ ap (λ k. drop k (origins s.behind ++ origins s.ahead)) (sym len) ∙ drop-append_seam (origins s.behind) (origins s.ahead) in
    let there : drop n os ≡ origin_of circle ∷ drop (suc n) os = first_from os n (origin_of circle) first in
    let flags : flags_at n os ≡ glyph_flags circle = flags_of_first os n (origin_of circle) first in
    record {
      behind = ap (λ (t : Sides). strip t.behind) e ∙ map-append item_of s.behind (circle ∷ []);
      ahead = ap (λ (t : Sides). t.ahead) e;
      origins = ap origins_of e ∙ put_all circle s ∙ ap (λ ys. origins s.behind ++ (origin_of circle ∷ ys)) (sym back ∙ there)
          ∙ sym (ap (λ ys. ys ++ first_circled false (flags_at n os) (drop n os)) front ∙ ap (λ ys. origins s.behind ++ first_circled false (flags_at n os) ys) there
          ∙ ap (λ k. origins s.behind ++ (record { cluster = circle.cluster; flags = k } ∷ origin_of circle ∷ drop (suc n) os)) flags);
      rest = ap (λ (t : Sides). record t { behind = []; is_apart = false }) e;
    }

-- the last of a list
ended : {X : Type 0} (xs : List X) (x : X) → 0 < length xs → slice_get xs (length xs - 1) ≡ Some x → drop (length xs - 1) xs ≡ x ∷ []
ended xs x some e =
    first_from xs (length xs - 1) x e ∙ ap (λ ys. x ∷ ys) (drop_all (suc (length xs - 1)) xs (omega (arith, some)))

pub put_behind : (rephas : ℕ) (circle h : hb_glyph_info_t) (s new : Sides) → 0 < rephas → rephas ≤ length s.behind → slice_get s.behind (length s.behind - 1) ≡ Some h
    → slice_get (origins_of s) (length s.behind - rephas) ≡ Some (origin_of circle) → new ≡ with_output_info (record circle { cluster = h.cluster }) s → IsCircled (item_of circle) rephas s new
put_behind zero circle h s new some le at first e = absurd (omega (arith, some))
put_behind (suc k) circle h s new some le at first e =
    let os = origins_of s in
    let n = length s.behind in
    let m = n - 1 in
    let bs = origins s.behind in
    let g : hb_glyph_info_t = record circle { cluster = h.cluster } in
    let whole : os ≡ bs ++ origins s.ahead = map-append origin_of s.behind s.ahead in
    let len : length bs ≡ n = length-map s.behind origin_of in
    let inside : m ≤ length bs = omega (arith, len) in
    let last : drop m bs ≡ origin_of h ∷ [] = drop-map origin_of m s.behind ∙ ap origins (ended s.behind h (omega (arith, le)) at) in
    let front : take m os ≡ take m bs = ap (take m) whole ∙ take-append-le m bs (origins s.ahead) inside in
    let back : drop m os ≡ origin_of h ∷ origins s.ahead = ap (drop m) whole ∙ drop-append-le m bs (origins s.ahead) inside ∙ ap (λ ys. ys ++ origins s.ahead) last in
    let all : bs ≡ take m bs ++ (origin_of h ∷ []) = sym (take-append-drop m bs) ∙ ap (λ ys. take m bs ++ ys) last in
    let flags : flags_at (n - suc k) os ≡ glyph_flags circle = flags_of_first os (n - suc k) (origin_of circle) first in
    record {
      behind = ap (λ (t : Sides). strip t.behind) e ∙ map-append item_of s.behind (g ∷ []);
      ahead = ap (λ (t : Sides). t.ahead) e;
      origins = ap origins_of e ∙ put_all g s
          ∙ ap (λ ys. ys ++ (origin_of g ∷ origins s.ahead)) all
          ∙ append_assoc (take m bs) (origin_of h ∷ []) (origin_of g ∷ origins s.ahead)
          ∙ sym (ap (λ ys. ys ++ first_circled true (flags_at (n - suc k) os) (drop m os)) front ∙ ap (λ ys. take m bs ++ first_circled true (flags_at (n - suc k) os) ys) back
          ∙ ap (λ j. take m bs ++ (origin_of h ∷ record { cluster = h.cluster; flags = j } ∷ origins s.ahead)) flags);
      rest = ap (λ (t : Sides). record t { behind = []; is_apart = false }) e;
    }

-- where the first of a syllable comes from
pub first_origin : (i : ℕ) (g circle : hb_glyph_info_t) (s : Sides) → slice_get (all_glyphs s) i ≡ Some g → origin_of circle ≡ origin_of g → slice_get (origins_of s) i ≡ Some (origin_of circle)
first_origin i g circle s at same = seen (all_glyphs s) i at ∙ ap Some (sym same)
  where
    seen : (gs : List hb_glyph_info_t) (j : ℕ) → slice_get gs j ≡ Some g → slice_get (origins gs) j ≡ Some (origin_of g)
    seen [] j e = cc
    seen (h ∷ hs) zero e = let first : h ≡ g = cc in ap (λ k. Some (origin_of k)) first
    seen (h ∷ hs) (suc j) e = seen hs j e

-- ---- the search for a broken syllable

pub broken_here : (r : CircleRule) (gs : List hb_glyph_info_t) (i : ℕ) (g : hb_glyph_info_t) (b : Bool) → slice_get gs i ≡ Some g → is_broken r (item_of g) ≡ true → list_any (is_broken r) (strip (drop i gs)) ≡ b → true ≡ b
broken_here r gs i g b at e f = sym (ap (λ t. t || list_any (is_broken r) (strip (drop (i + 1) gs))) e) ∙ ap (λ hs. list_any (is_broken r) (strip hs)) (sym (split_at gs i g at)) ∙ f

pub broken_later : (r : CircleRule) (gs : List hb_glyph_info_t) (i : ℕ) (g : hb_glyph_info_t) (b : Bool) → slice_get gs i ≡ Some g → is_broken r (item_of g) ≡ false → list_any (is_broken r) (strip (drop i gs)) ≡ b → list_any (is_broken r) (strip (drop (i + 1) gs)) ≡ b
broken_later r gs i g b at e f = sym (ap (λ t. t || list_any (is_broken r) (strip (drop (i + 1) gs))) e) ∙ ap (λ hs. list_any (is_broken r) (strip hs)) (sym (split_at gs i g at)) ∙ f

pub none_broken : (r : CircleRule) (gs : List hb_glyph_info_t) (i : ℕ) (b : Bool) → length gs ≤ i → list_any (is_broken r) (strip (drop i gs)) ≡ b → false ≡ b
none_broken r gs i b past f = ap (λ hs. list_any (is_broken r) (strip hs)) (sym (drop_all i gs past)) ∙ f
