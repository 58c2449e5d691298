-- Ligatures that their members follow: no number of one needs to differ from another's.
use Rattle.std.specs.Prelude.{ℕ, ◌≡◌, ◌==◌, ◌&&◌, Bool, not, true, if◌then◌else◌, List, [], ◌∷◌}
use Rattle.buffer_glyphs.specs.Items.{Item}
use Rattle.buffer_glyphs.specs.LigatureWords.{lig_comp, lig_id}
use Rattle.layout_gsub.specs.Ligating.{following_items, with_component}

-- whether an item belongs to a component of a numbered ligature, and is not the ligature itself
abbrev pub is_member : Item → Bool
is_member x = not (lig_id x == 0) && not (lig_comp x == 0)

-- each member of a ligature directly follows the ligature or another member of it; `number` is that of the item before the list, 0 where there
-- is none
abbrev pub FollowOwn : ℕ → List Item → Type 0
FollowOwn number [] = Unit {0}
FollowOwn number (x ∷ xs) = (is_member x ≡ true → lig_id x ≡ number) × FollowOwn (lig_id x) xs

-- the members that a list begins with, renumbered
abbrev pub members_renumbered : ℕ → ℕ → ℕ → List Item → List Item
members_renumbered id ended own [] = []
members_renumbered id ended own (y ∷ ys) = if is_member y then with_component id ended own y ∷ members_renumbered id ended own ys else y ∷ ys

-- law: where members follow their ligature, the marks after a ligature's last component that are renumbered are the members after it: no two
-- numbers are compared but that of a member with its own
abbrev pub FollowersAreMembers : Type 0
FollowersAreMembers = (id last ended own : ℕ) (ys : List Item) → (last ≡ 0 → ⊥) → FollowOwn last ys → following_items id last ended own ys ≡ members_renumbered id ended own ys

-- law: and they follow the new ligature then
abbrev pub RenumberedFollow : Type 0
RenumberedFollow = (id last ended own : ℕ) (ys : List Item) → FollowOwn last ys → FollowOwn id (members_renumbered id ended own ys)
