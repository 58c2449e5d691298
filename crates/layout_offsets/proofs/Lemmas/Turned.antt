-- Old chains reversed.
use Rattle.std.proofs.Common.{ℕ, zero, suc, refl, length, set, ◌≡◌, ◌<◌, ◌+◌, ◌-◌, Bool, true, false, if◌then◌else◌, ◌==◌, List, Option, Some, None, length, set, arith, refl, ap, ◌∙◌}
use Rattle.buffer_glyphs.specs.Items.{Position}
use Rattle.buffer_common.specs.declared.direction.Direction.{Direction}
use Rattle.std.proofs.lemmas.List.{length-set}
use Rattle.layout_offsets.specs.Links.{position_at, parent, without_link}
use Rattle.layout_offsets.proofs.Lemmas.Linked.{linked_there}
use Rattle.layout_offsets.specs.Cursive.{chain_turned, unless_at, old_parent, turned_position, turned_beyond, chain_reversed_from, most_links}

pub turned_none : (d : Direction) (stop i : ℕ) (new : Position) (ps : List Position) → chain_reversed_from d stop 0 i new ps ≡ ps
unfolding chain_reversed_from
turned_none d stop i new ps = refl

turned_step : (d : Direction) (stop fuel next i : ℕ) (new : Position) (ps : List Position) → fuel ≡ suc next → chain_reversed_from d stop fuel i new ps ≡ turned_beyond d (chain_reversed_from d stop next) (position_at i ps) (old_parent stop i ps) (set ps i new)
unfolding chain_reversed_from
turned_step d stop fuel next i new ps e = ap (λ (n : ℕ). chain_reversed_from d stop n i new ps) e

pub turned_stops : (d : Direction) (stop count done i : ℕ) (new : Position) (ps : List Position) → done < count → old_parent stop i ps ≡ None → chain_reversed_from d stop (count - done) i new ps ≡ set ps i new
turned_stops d stop count done i new ps lt e =
    turned_step d stop (count - done) (count - done - 1) i new ps (omega (arith, lt)) ∙ ap (λ (o : Option ℕ). turned_beyond d (chain_reversed_from d stop (count - done - 1)) (position_at i ps) o (set ps i new)) e

pub turned_goes : (d : Direction) (stop count done i j : ℕ) (new : Position) (ps : List Position) → done < count → old_parent stop i ps ≡ Some j → chain_reversed_from d stop (count - done) i new ps ≡ chain_reversed_from d stop (count - (done + 1)) j (turned_position d (position_at i ps) (position_at j (set ps i new))) (set ps i new)
turned_goes d stop count done i j new ps lt e =
    turned_step d stop (count - done) (count - (done + 1)) i new ps (omega (arith, lt)) ∙ ap (λ (o : Option ℕ). turned_beyond d (chain_reversed_from d stop (count - (done + 1))) (position_at i ps) o (set ps i new)) e

pub unless_there : (stop j : ℕ) (o : Option ℕ) → unless_at stop o ≡ Some j → o ≡ Some j
unless_there stop j None e = e
unless_there stop j (Some k) e = by_stop (k == stop) e
  where
    by_stop : (b : Bool) → (if b then None else Some k) ≡ Some j → Some k ≡ Some j
    by_stop true f = cc
    by_stop false f = f

old_parent_by : (b : Bool) (stop j : ℕ) (o : Option ℕ) → (if b then unless_at stop o else None) ≡ Some j → o ≡ Some j
old_parent_by true stop j o e = unless_there stop j o e
old_parent_by false stop j o e = cc

pub old_parent_within : (stop i j : ℕ) (ps : List Position) → old_parent stop i ps ≡ Some j → j < length ps
old_parent_within stop i j ps e = (linked_there (length ps) i (position_at i ps).attach_chain j (old_parent_by ((position_at i ps).attach_type == 2) stop j (parent i ps) e)).0

-- ---- as many positions as before

turned_from_length : (d : Direction) (stop fuel i : ℕ) (new : Position) (ps : List Position) → length (chain_reversed_from d stop fuel i new ps) ≡ length ps
turned_from_length d stop zero i new ps = ap length (turned_none d stop i new ps)
turned_from_length d stop (suc fuel) i new ps = ap length (turned_step d stop (suc fuel) fuel i new ps refl) ∙ beyond (old_parent stop i ps) (λ j p qs. turned_from_length d stop fuel j p qs)
  where
    beyond : (o : Option ℕ) → ((j : ℕ) (p : Position) (qs : List Position) → length (chain_reversed_from d stop fuel j p qs) ≡ length qs) → length (turned_beyond d (chain_reversed_from d stop fuel) (position_at i ps) o (set ps i new)) ≡ length ps
    beyond None before = length-set ps i new
    beyond (Some j) before = before j _ (set ps i new) ∙ length-set ps i new

pub turned_length : (d : Direction) (stop i : ℕ) (ps : List Position) → length (chain_turned d stop i ps) ≡ length ps
turned_length d stop i ps = by_kind ((position_at i ps).attach_type == 2)
  where
    by_kind : (b : Bool) → length (if b then chain_reversed_from d stop most_links i (without_link (position_at i ps)) ps else ps) ≡ length ps
    by_kind true = turned_from_length d stop most_links i (without_link (position_at i ps)) ps
    by_kind false = refl
