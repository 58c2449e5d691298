-- Links of neither kind cleared, one after another.
use Rattle.std.proofs.Common.{ℕ, ℤ, pos, negsuc, int_lt, ◌≡◌, ◌<◌, ◌≤◌, ◌+◌, ◌-◌, ◌&&◌, ◌||◌, Bool, true, false, if◌then◌else◌, List, [], ◌∷◌, ◌++◌, length, map, set, take, drop, arith, refl, ap, sym, subst, ◌∙◌}
use Rattle.std.specs.List.{list_any}
use Rattle.std.proofs.lemmas.List.{get_or-append_right, get_or-drop, length-map, length-set, length-take-le, set-get_or, take_all}
use Rattle.std.proofs.lemmas.List.Folds.{list_any_more}
use Rattle.buffer_glyphs.specs.Items.{Position, zero_position}
use Rattle.buffer_glyphs.proofs.Lists.{get_or_mapped, map_step}
use Rattle.buffer_common.specs.declared.direction.Direction.{Direction}
use Rattle.layout_offsets.specs.FollowedLinks.{is_far_back, with_link_cleared, has_kind, kind_tested, kinds_tested, drawn_position, with_links_followed, finished_positions}
use Rattle.layout_offsets.specs.Links.{position_at, without_link}
use Rattle.layout_offsets.specs.AdvanceSums.{drawing}
use Rattle.layout_offsets.specs.Walks.{is_open, are_shut}
use Rattle.layout_offsets.proofs.Kept.{tested_linkless}
use Rattle.layout_offsets.proofs.BySums.{tested_closed}

-- ---- a position

stays : (at : ℕ) (ps : List Position) → kind_tested (position_at at ps) ≡ position_at at ps → ps ≡ set ps at (kind_tested (position_at at ps))
stays at ps same = sym (ap (set ps at) same ∙ set-get_or ps at zero_position)

-- without a link it stays
pub linkless_tested : (at : ℕ) (ps : List Position) → (position_at at ps).attach_chain ≡ pos 0 → ps ≡ set ps at (kind_tested (position_at at ps))
linkless_tested at ps e = stays at ps (tested_linkless (position_at at ps) e)

-- with a link of a kind it stays
pub kind_stays : (at : ℕ) (ps : List Position) → has_kind (position_at at ps) ≡ true → ps ≡ set ps at (kind_tested (position_at at ps))
kind_stays at ps e = stays at ps (ap (λ (b : Bool). if b then position_at at ps else without_link (position_at at ps)) e)

-- any other link is cleared
pub other_tested : (at : ℕ) (ps qs : List Position) → has_kind (position_at at ps) ≡ false → qs ≡ with_link_cleared at ps → qs ≡ set ps at (kind_tested (position_at at ps))
other_tested at ps qs e is = is ∙ sym (ap (λ (b : Bool). set ps at (if b then position_at at ps else without_link (position_at at ps))) e)

-- ---- whether it is far

linkless_near_by : (b : Bool) → false ≡ (b && false)
linkless_near_by true = refl
linkless_near_by false = refl

pub linkless_near : (at : ℕ) (ps : List Position) → (position_at at ps).attach_chain ≡ pos 0 → false ≡ is_far_back (position_at at ps)
linkless_near at ps e = linkless_near_by (has_kind (position_at at ps)) ∙ sym (ap (λ (z : ℤ). has_kind (position_at at ps) && int_lt z (negsuc 15)) e)

pub other_near : (at : ℕ) (ps : List Position) → has_kind (position_at at ps) ≡ false → false ≡ is_far_back (position_at at ps)
other_near at ps e = sym (ap (λ (b : Bool). b && int_lt (position_at at ps).attach_chain (negsuc 15)) e)

pub kind_far : (at : ℕ) (ps : List Position) → has_kind (position_at at ps) ≡ true → int_lt (position_at at ps).attach_chain (negsuc 15) ≡ is_far_back (position_at at ps)
kind_far at ps e = sym (ap (λ (b : Bool). b && int_lt (position_at at ps).attach_chain (negsuc 15)) e)

-- ---- all

pub tested_next : (old ps qs : List Position) (i : ℕ) → (ps ≡ map kind_tested (take i old) ++ drop i old) × (length ps ≡ length old) → i < length ps → qs ≡ set ps i (kind_tested (position_at i ps))
    → (qs ≡ map kind_tested (take (i + 1) old) ++ drop (i + 1) old) × (length qs ≡ length old)
tested_next old ps qs i before lt e =
    let len = before.1 in
    let z = kind_tested (position_at i ps) in
    subst (λ (xs : List Position). (xs ≡ map kind_tested (take (i + 1) old) ++ drop (i + 1) old) × (length xs ≡ length old)) (sym e)
    (map_step kind_tested old ps i zero_position z (omega (arith, lt, len)) len before.0 refl, length-set ps i z ∙ len)

-- one more glyph, which is as it was
pub far_next : (old ps : List Position) (i : ℕ) (seen far : Bool) → ps ≡ map kind_tested (take i old) ++ drop i old → length ps ≡ length old → i < length ps → seen ≡ list_any is_far_back (take i old) → far ≡ is_far_back (position_at i ps)
    → (seen || far) ≡ list_any is_far_back (take (i + 1) old)
far_next old ps i seen far e len lt before is =
    let inside : i < length old = omega (arith, lt, len) in
    let front : length (map kind_tested (take i old)) ≡ i = length-map (take i old) kind_tested ∙ length-take-le i old (omega (arith, inside)) in
    let there : position_at i ps ≡ position_at i old =
    ap (position_at i) e ∙ get_or-append_right (map kind_tested (take i old)) (drop i old) i i zero_position front (omega arith) ∙ get_or-drop i old (i - i) zero_position ∙ ap (λ (n : ℕ). position_at n old) (omega arith) in
    ap (λ (b : Bool). b || far) before ∙ ap (λ (b : Bool). list_any is_far_back (take i old) || b) (is ∙ ap is_far_back there) ∙ sym (list_any_more is_far_back old i zero_position inside)

pub all_seen : (old : List Position) (i : ℕ) (seen : Bool) → length old ≤ i → seen ≡ list_any is_far_back (take i old) → seen ≡ list_any is_far_back old
all_seen old i seen long before = before ∙ ap (list_any is_far_back) (take_all i old long)

pub tested_shut : (ps qs : List Position) → qs ≡ kinds_tested ps → are_shut qs
tested_shut ps qs e k = ap (λ (xs : List Position). is_open (position_at k xs)) e ∙ ap is_open (get_or_mapped kind_tested ps k zero_position) ∙ tested_closed (position_at k ps)

tested_twice : (p : Position) → kind_tested (kind_tested p) ≡ kind_tested p
tested_twice p = by_kind (has_kind p) refl
  where
    by_kind : (b : Bool) → has_kind p ≡ b → kind_tested (if b then p else without_link p) ≡ (if b then p else without_link p)
    by_kind true e = ap (λ (c : Bool). if c then p else without_link p) e
    by_kind false e = tested_linkless (without_link p) refl

all_tested_twice : (ps : List Position) → kinds_tested (kinds_tested ps) ≡ kinds_tested ps
all_tested_twice [] = refl
all_tested_twice (p ∷ ps) = ap (λ (q : Position). q ∷ kinds_tested (kinds_tested ps)) (tested_twice p) ∙ ap (λ qs. kind_tested p ∷ qs) (all_tested_twice ps)

-- where no link is far
pub finished_near : (d : Direction) (ps qs rs : List Position) → qs ≡ kinds_tested ps → rs ≡ with_links_followed (drawing false d) qs → rs ≡ finished_positions d ps
finished_near d ps qs rs e f = f ∙ ap (with_links_followed (drawn_position d)) e

-- where one is
pub finished_far : (d : Direction) (ps qs rs : List Position) → qs ≡ kinds_tested ps → rs ≡ finished_positions d qs → rs ≡ finished_positions d ps
finished_far d ps qs rs e f = f ∙ ap (finished_positions d) e ∙ ap (with_links_followed (drawn_position d)) (all_tested_twice ps)
