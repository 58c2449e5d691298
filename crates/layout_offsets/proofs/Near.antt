-- A glyph whose parent has no link is drawn in one step.
use Rattle.std.proofs.Common.{ℕ, zero, suc, ℤ, pos, ◌≡◌, ◌<◌, inl, inr, Bool, List, Option, length, set, arith, refl, ap, sym, ◌∙◌, ◌-◌}
use Rattle.std.proofs.lemmas.Bool.Decides.{eqb_tells}
use Rattle.std.proofs.lemmas.List.{length-set, get_or-set_same, set-get_or}
use Rattle.buffer_glyphs.specs.Items.{Position, zero_position}
use Rattle.buffer_common.specs.declared.direction.Direction.{Direction}
use Rattle.layout_offsets.specs.FollowedLinks.{Drawing, with_link_cleared, with_child_drawn, with_parent_drawn, with_link_followed}
use Rattle.layout_offsets.specs.Links.{position_at, link_target, without_link}
use Rattle.layout_offsets.specs.AdvanceSums.{drawing}
use Rattle.layout_offsets.specs.Walks.{is_open, are_shut, HasLinklessParent}
use Rattle.layout_offsets.proofs.Shut.{unlinked_closed}
use Rattle.layout_offsets.proofs.Going.{followed_step, followed_none, elsewhere}
use Rattle.layout_offsets.proofs.Drawings.{is_drawing}

-- over any number of links a glyph without one stays
pub stays : (draw : Drawing) (fuel j : ℕ) (ps : List Position) → (position_at j ps).attach_chain ≡ pos 0 → with_link_followed draw fuel j ps ≡ ps
stays draw zero j ps e = followed_none draw j ps
stays draw (suc fuel) j ps e =
    let same : without_link (position_at j ps) ≡ position_at j ps = ap (λ (d : ℤ). record (position_at j ps) { attach_chain = d }) (sym e) in
    followed_step draw (suc fuel) fuel j ps refl ∙ ap (λ (o : Option ℕ). with_parent_drawn draw (with_link_followed draw fuel) j o ps) (ap (link_target (length ps) j) e) ∙ ap (set ps j) same ∙ set-get_or ps j zero_position

here_unlinked : (i : ℕ) (ps : List Position) → i < length ps → position_at i (with_link_cleared i ps) ≡ without_link (position_at i ps)
here_unlinked i ps lt = get_or-set_same ps i (without_link (position_at i ps)) zero_position lt

parent_linkless : (i j : ℕ) (ps : List Position) → i < length ps → (position_at j ps).attach_chain ≡ pos 0 → (position_at j (with_link_cleared i ps)).attach_chain ≡ pos 0
parent_linkless i j ps lt e = elim (eqb_tells j i) [
  | inl is ↦ ap (λ (m : ℕ). (position_at m (with_link_cleared i ps)).attach_chain) is.1 ∙ ap (λ (p : Position). p.attach_chain) (here_unlinked i ps lt)
  | inr other ↦ ap (λ (p : Position). p.attach_chain) (elsewhere i j (without_link (position_at i ps)) ps other.1) ∙ e
]

pub drawn_at_once : (draw : Drawing) (i j : ℕ) (ps qs rs : List Position) → i < length ps → HasLinklessParent i j ps → qs ≡ with_link_cleared i ps → rs ≡ with_child_drawn draw i j qs
    → rs ≡ with_link_followed draw (length ps) i ps
drawn_at_once draw i j ps qs rs lt near is f =
    let n = length ps - 1 in
    let fuel : length ps ≡ suc n = omega (arith, lt) in
    let step = followed_step draw (length ps) n i ps fuel ∙ ap (λ (o : Option ℕ). with_parent_drawn draw (with_link_followed draw n) i o ps) near.1 in
    f ∙ ap (with_child_drawn draw i j) (is ∙ sym (stays draw n j (with_link_cleared i ps) (parent_linkless i j ps lt near.2))) ∙ sym step

pub shut_at_once : (by_sums : Bool) (d : Direction) (i j : ℕ) (ps qs rs : List Position) → i < length ps → are_shut ps → qs ≡ with_link_cleared i ps → rs ≡ with_child_drawn (drawing by_sums d) i j qs → are_shut rs
shut_at_once by_sums d i j ps qs rs lt shut is f k =
    let cleared = with_link_cleared i ps in
    let p = drawing by_sums d i j cleared in
    let len = length-set ps i (without_link (position_at i ps)) in
    let whole : rs ≡ set cleared i p = f ∙ ap (with_child_drawn (drawing by_sums d) i j) is in
    ap (λ (xs : List Position). is_open (position_at k xs)) whole ∙ elim (eqb_tells k i) [
      | inl same ↦
          ap (λ (m : ℕ). is_open (position_at m (set cleared i p))) same.1 ∙ ap is_open (get_or-set_same cleared i p zero_position (omega (arith, len, lt))) ∙ (is_drawing by_sums d).hold i j cleared
          ∙ ap is_open (here_unlinked i ps lt) ∙ unlinked_closed (position_at i ps)
      | inr other ↦ ap is_open (elsewhere i k p cleared other.1 ∙ elsewhere i k (without_link (position_at i ps)) ps other.1) ∙ shut k
    ]
