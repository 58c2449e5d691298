-- A walk along links and back, without a stack: a glyph that it came through stores the link by which the walk reached
-- it, with 128 added to its kind.
use Rattle.std.specs.Prelude.{ℕ, ℤ, pos, ◌+ℤ◌, ◌+◌, ◌-◌, ◌<◌, ◌≡◌, ◌≢◌, Bool, true, false, nat_le, nat_abs, not, ◌&&◌, ◌==◌, ◌⊎◌, List, [], ◌∷◌, map, set, length, Some, None}
use Rattle.buffer_glyphs.specs.Items.{Position}
use Rattle.layout_offsets.specs.FollowedLinks.{Drawing, with_link_cleared, with_child_drawn, with_link_followed}
use Rattle.layout_offsets.specs.Links.{position_at, parent}

-- whether a position has a link
abbrev pub is_link : ℤ → Bool
is_link d = not (nat_abs d == 0)

-- whether a walk came through a glyph
abbrev pub is_open : Position → Bool
is_open p = nat_le 128 p.attach_type && is_link p.attach_chain

-- no glyph is open: no walk is under way
abbrev pub are_shut : List Position → Type 0
are_shut ps = (k : ℕ) → is_open (position_at k ps) ≡ false

-- a position that stores the link back, and is open
abbrev pub opened_link : ℤ → Position → Position
opened_link by p = record p { attach_chain = by; attach_type = p.attach_type + 128 }

-- a position shut where the test holds
abbrev pub closed_link_if : Bool → Position → Position
closed_link_if true p = record p { attach_chain = pos 0; attach_type = p.attach_type - 128 }
closed_link_if false p = p

-- a position without its link
abbrev pub closed_link : Position → Position
closed_link p = closed_link_if (is_open p) p

-- all positions shut
abbrev pub closed_links : List Position → List Position
closed_links ps = map closed_link ps

-- a glyph is not on a trail
abbrev pub Apart : ℕ → List ℕ → Type 0
Apart k [] = Unit {0}
Apart k (c ∷ rest) = (k ≢ c) × Apart k rest

-- the glyphs that a walk came through, the last first
abbrev pub Trail : List Position → ℕ → ℤ → List ℕ → Type 0
Trail ps at by [] = Unit {0}
Trail ps at by (c ∷ rest) = (c < length ps) × (is_open (position_at c ps) ≡ true) × (pos at ≡ pos c +ℤ by) × Apart c rest × Trail ps c (position_at c ps).attach_chain rest

-- the glyphs of a trail drawn, where the last of them is attached to `at`
abbrev pub trail_drawn : Drawing → ℕ → List ℕ → List Position → List Position
trail_drawn draw at [] ps = ps
trail_drawn draw at (c ∷ rest) ps = trail_drawn draw c rest (with_child_drawn draw c at ps)

-- a walk is at a glyph, which it reached by a link, after `depth` glyphs
pub record IsWalk (count at : ℕ) (by : ℤ) (depth : ℕ) (ps : List Position) : Type 0 where
  pub stack : List ℕ
  pub long : length ps ≡ count
  pub here : at < count
  pub trail : Trail ps at by stack
  pub depth_is : length stack ≡ depth
  pub only : (k : ℕ) → is_open (position_at k ps) ≡ true → Apart k stack → ⊥

-- the rest of the way along the links, and then of the way back, leads to a list
pub record IsGoing (draw : Drawing) (goal : List Position) (count fuel at : ℕ) (by : ℤ) (depth : ℕ) (ps : List Position) : Type 0 where
  pub walk : IsWalk count at by depth ps
  pub moves : is_link by ≡ true
  pub leads : trail_drawn draw at walk.stack (with_link_followed draw fuel at (closed_links ps)) ≡ goal

-- the rest of the way back leads to a list
pub record IsComing (draw : Drawing) (goal : List Position) (count at : ℕ) (by : ℤ) (depth : ℕ) (ps : List Position) : Type 0 where
  pub walk : IsWalk count at by depth ps
  pub leads : trail_drawn draw at walk.stack (closed_links ps) ≡ goal

-- a walk stops at a glyph: one that it came through, or one whose link leads nowhere and is cleared
abbrev pub WalkStops : ℕ → List Position → List Position → Type 0
WalkStops at old new = ((is_open (position_at at old) ≡ true) × (new ≡ old)) ⊎ ((is_open (position_at at old) ≡ false) × (parent at old ≡ None) × (new ≡ with_link_cleared at old))

-- a walk follows a link to another glyph
abbrev pub StepsToParent : ℕ → ℤ → ℕ → ℤ → List Position → List Position → Type 0
StepsToParent to link at by old new = (is_open (position_at at old) ≡ false) × (parent at old ≡ Some to) × (link ≡ (position_at at old).attach_chain) × (new ≡ set old at (opened_link by (position_at at old)))

-- there is a glyph from which the walk came
abbrev pub HasReturn : ℕ → ℤ → List Position → Type 0
HasReturn at by ps = (c : ℕ) × (c < length ps) × (pos at ≡ pos c +ℤ by) × (is_open (position_at c ps) ≡ true)

-- a walk returns to that glyph, which is drawn
abbrev pub StepsBack : Drawing → ℕ → ℤ → ℕ → ℤ → List Position → List Position → Type 0
StepsBack draw to link at by old new = (pos at ≡ pos to +ℤ by) × (link ≡ (position_at to old).attach_chain) × (is_open (closed_link (position_at to old)) ≡ false) × (new ≡ with_child_drawn draw to at (set old to (closed_link (position_at to old))))

-- a glyph is attached to one that has no link
abbrev pub HasLinklessParent : ℕ → ℕ → List Position → Type 0
HasLinklessParent i j ps = (j < length ps) × (parent i ps ≡ Some j) × ((position_at j ps).attach_chain ≡ pos 0)
