-- Links are cleared, and advances and positions without links stay.
use Rattle.std.proofs.Common.{ℕ, zero, suc, pos, ◌≡◌, ◌≢◌, ◌≤◌, ◌<◌, ◌+◌, ◌-◌, inl, inr, true, false, if◌then◌else◌, List, [], ◌∷◌, Option, Some, None, length, map, arith, refl, ap, sym, ◌∙◌}
use Rattle.std.proofs.lemmas.Bool.Decides.{eqb_tells}
use Rattle.std.proofs.lemmas.List.{length-map, length-set}
use Rattle.buffer_glyphs.specs.Items.{Position, zero_position}
use Rattle.buffer_glyphs.proofs.Lists.{get_or_mapped}
use Rattle.buffer_common.specs.declared.direction.Direction.{Direction}
use Rattle.layout_offsets.specs.FollowedLinks.{with_link_cleared, drawn_position, with_parent_drawn, with_link_followed, with_links_followed_from, with_links_followed, has_kind, kind_tested, kinds_tested, finished_positions}
use Rattle.layout_offsets.specs.Links.{position_at, parent, without_link}
use Rattle.layout_offsets.specs.Trees.{only_advances}
use Rattle.layout_offsets.specs.Finished.{IsFinished, LinksAreCleared}
use Rattle.layout_offsets.proofs.Going.{followed_step, followed_none, elsewhere}
use Rattle.layout_offsets.proofs.Drawn.{set_advances, position_here, drawn_advances, drawn_chain, followed_linkless}

pub same_length : (ps qs : List Position) → map only_advances ps ≡ map only_advances qs → length ps ≡ length qs
same_length ps qs e = sym (length-map ps only_advances) ∙ ap length e ∙ length-map qs only_advances

pub followed_advances : (d : Direction) (fuel i : ℕ) (ps : List Position) → map only_advances (with_link_followed (drawn_position d) fuel i ps) ≡ map only_advances ps
followed_advances d zero i ps = ap (map only_advances) (followed_none (drawn_position d) i ps)
followed_advances d (suc fuel) i ps = ap (map only_advances) (followed_step (drawn_position d) (suc fuel) fuel i ps refl) ∙ by_parent (parent i ps) (λ j qs. followed_advances d fuel j qs)
  where
    by_parent : (o : Option ℕ) → ((j : ℕ) (qs : List Position) → map only_advances (with_link_followed (drawn_position d) fuel j qs) ≡ map only_advances qs) → map only_advances (with_parent_drawn (drawn_position d) (with_link_followed (drawn_position d) fuel) i o ps) ≡ map only_advances ps
    by_parent None before = set_advances i (without_link (position_at i ps)) ps refl
    by_parent (Some j) before =
        let now = with_link_followed (drawn_position d) fuel j (with_link_cleared i ps) in
        set_advances i (drawn_position d i j now) now (drawn_advances d i j now) ∙ before j (with_link_cleared i ps) ∙ set_advances i (without_link (position_at i ps)) ps refl

-- a glyph without a link stays
linkless_stays : (d : Direction) (fuel i k : ℕ) (ps : List Position) → (position_at k ps).attach_chain ≡ pos 0 → position_at k (with_link_followed (drawn_position d) fuel i ps) ≡ position_at k ps
linkless_stays d zero i k ps e = ap (position_at k) (followed_none (drawn_position d) i ps)
linkless_stays d (suc fuel) i k ps e = elim (eqb_tells k i) [
  | inl is ↦ ap (position_at k) (followed_linkless d (suc fuel) fuel i ps refl (sym (ap (λ (m : ℕ). (position_at m ps).attach_chain) is.1) ∙ e))
  | inr other ↦ ap (position_at k) (followed_step (drawn_position d) (suc fuel) fuel i ps refl) ∙ by_parent other.1 (parent i ps) (λ j qs f. linkless_stays d fuel j k qs f)
]
  where
    by_parent : k ≢ i → (o : Option ℕ) → ((j : ℕ) (qs : List Position) → (position_at k qs).attach_chain ≡ pos 0 → position_at k (with_link_followed (drawn_position d) fuel j qs) ≡ position_at k qs) → position_at k (with_parent_drawn (drawn_position d) (with_link_followed (drawn_position d) fuel) i o ps) ≡ position_at k ps
    by_parent other None before = elsewhere i k (without_link (position_at i ps)) ps other
    by_parent other (Some j) before =
        let now = with_link_followed (drawn_position d) fuel j (with_link_cleared i ps) in
        let same = elsewhere i k (without_link (position_at i ps)) ps other in
        elsewhere i k (drawn_position d i j now) now other ∙ before j (with_link_cleared i ps) (ap (λ (p : Position). p.attach_chain) same ∙ e) ∙ same

-- a glyph's own link is cleared
followed_clears : (d : Direction) (fuel next i : ℕ) (ps : List Position) → fuel ≡ suc next → i < length ps → (position_at i (with_link_followed (drawn_position d) fuel i ps)).attach_chain ≡ pos 0
followed_clears d fuel next i ps is lt = ap (λ (qs : List Position). (position_at i qs).attach_chain) (followed_step (drawn_position d) fuel next i ps is) ∙ by_parent (parent i ps)
  where
    free : (position_at i (with_link_cleared i ps)).attach_chain ≡ pos 0
    free = ap (λ (p : Position). p.attach_chain) (position_here i (without_link (position_at i ps)) ps lt)

    by_parent : (o : Option ℕ) → (position_at i (with_parent_drawn (drawn_position d) (with_link_followed (drawn_position d) next) i o ps)).attach_chain ≡ pos 0
    by_parent None = free
    by_parent (Some j) =
        let now = with_link_followed (drawn_position d) next j (with_link_cleared i ps) in
        let len = same_length now (with_link_cleared i ps) (followed_advances d next j (with_link_cleared i ps)) in
        let len_set = length-set ps i (without_link (position_at i ps)) in
        ap (λ (p : Position). p.attach_chain) (position_here i (drawn_position d i j now) now (omega (arith, len, len_set, lt))) ∙ drawn_chain d i j now
        ∙ ap (λ (p : Position). p.attach_chain) (linkless_stays d next j i (with_link_cleared i ps) free) ∙ free

from_advances : (d : Direction) (n i : ℕ) (ps : List Position) → map only_advances (with_links_followed_from (drawn_position d) i n ps) ≡ map only_advances ps
from_advances d zero i ps = refl
from_advances d (suc n) i ps = from_advances d n (i + 1) (with_link_followed (drawn_position d) (length ps) i ps) ∙ followed_advances d (length ps) i ps

from_linkless : (d : Direction) (n i k : ℕ) (ps : List Position) → (position_at k ps).attach_chain ≡ pos 0 → position_at k (with_links_followed_from (drawn_position d) i n ps) ≡ position_at k ps
from_linkless d zero i k ps e = refl
from_linkless d (suc n) i k ps e =
    let same = linkless_stays d (length ps) i k ps e in
    from_linkless d n (i + 1) k (with_link_followed (drawn_position d) (length ps) i ps) (ap (λ (p : Position). p.attach_chain) same ∙ e) ∙ same

from_clears : (d : Direction) (n i k : ℕ) (ps : List Position) → i + n ≡ length ps → i ≤ k → k < length ps → (position_at k (with_links_followed_from (drawn_position d) i n ps)).attach_chain ≡ pos 0
from_clears d zero i k ps e le lt = absurd (omega (arith, e, le, lt))
from_clears d (suc n) i k ps e le lt =
    let now = with_link_followed (drawn_position d) (length ps) i ps in
    let len = same_length now ps (followed_advances d (length ps) i ps) in
    elim (eqb_tells k i) [
      | inl is ↦
          let own : (position_at k now).attach_chain ≡ pos 0 = ap (λ (m : ℕ). (position_at m now).attach_chain) is.1 ∙ followed_clears d (length ps) (length ps - 1) i ps (omega (arith, e)) (omega (arith, e)) in
          ap (λ (p : Position). p.attach_chain) (from_linkless d n (i + 1) k now own) ∙ own
      | inr other ↦ let apart = other.1 in from_clears d n (i + 1) k now (omega (arith, e, len)) (omega (arith, le, apart)) (omega (arith, lt, len))
    ]

each_link_is_cleared : (d : Direction) (ps : List Position) → IsFinished ps (with_links_followed (drawn_position d) ps)
each_link_is_cleared d ps = record {
  advances = from_advances d (length ps) 0 ps;
  cleared = λ k lt. from_clears d (length ps) 0 k ps (omega arith) (omega arith) lt;
  linkless = λ k e. from_linkless d (length ps) 0 k ps e;
}

-- ---- links of no kind

tested_advances : (p : Position) → only_advances (kind_tested p) ≡ only_advances p
tested_advances p = elim (has_kind p) as (λ b. only_advances (if b then p else without_link p) ≡ only_advances p) [ true ↦ refl | false ↦ refl ]

all_tested_advances : (ps : List Position) → map only_advances (kinds_tested ps) ≡ map only_advances ps
all_tested_advances [] = refl
all_tested_advances (p ∷ ps) = ap (λ (q : Position). q ∷ map only_advances (kinds_tested ps)) (tested_advances p) ∙ ap (λ qs. only_advances p ∷ qs) (all_tested_advances ps)

pub tested_linkless : (p : Position) → p.attach_chain ≡ pos 0 → kind_tested p ≡ p
tested_linkless p e = elim (has_kind p) as (λ b. (if b then p else without_link p) ≡ p) [ true ↦ refl | false ↦ ap (λ z. record p { attach_chain = z }) (sym e) ]

pub links_are_cleared : LinksAreCleared
links_are_cleared d ps =
    let there = each_link_is_cleared d (kinds_tested ps) in
    let tested : (k : ℕ) → position_at k (kinds_tested ps) ≡ kind_tested (position_at k ps) = λ k. get_or_mapped kind_tested ps k zero_position in
    record {
      advances = there.advances ∙ all_tested_advances ps;
      cleared = λ k lt. there.cleared k (let len = length-map ps kind_tested in omega (arith, len, lt));
      linkless = λ k e.
          let same = tested k ∙ tested_linkless (position_at k ps) e in
          there.linkless k (ap (λ (p : Position). p.attach_chain) same ∙ e) ∙ same;
    }

pub finished_length : (d : Direction) (ps : List Position) → length (finished_positions d ps) ≡ length ps
finished_length d ps = same_length (finished_positions d ps) ps ((links_are_cleared d ps).advances)

pub finished_advances : (d : Direction) (ps : List Position) → map only_advances (finished_positions d ps) ≡ map only_advances ps
finished_advances d ps = (links_are_cleared d ps).advances
