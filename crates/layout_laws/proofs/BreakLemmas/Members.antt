-- Members that follow their ligature.
use Rattle.std.proofs.Common.{ℕ, ◌≡◌, ◌==◌, ◌&&◌, Bool, true, false, not, if◌then◌else◌, List, [], ◌∷◌, arith, refl, ap, sym, subst, ◌∙◌}
use Rattle.std.proofs.lemmas.Grind.{common_steps}
use Rattle.buffer_glyphs.specs.Items.{Item}
use Rattle.buffer_glyphs.specs.LigatureWords.{lig_comp, lig_id}
use Rattle.layout_gsub.specs.Ligating.{component_now, following_items, with_component}
use Rattle.layout_laws.specs.Breaks.Members.{is_member, FollowOwn, members_renumbered, FollowersAreMembers, RenumberedFollow}
use Rattle.layout_laws.proofs.BreakLemmas.Words.{number_of_component}
use Rattle.buffer_facts.proofs.Numbers.{same_by_test as equal_numbers, test_of_same as same_number}

member_by : (y : Item) → (lig_id y == 0) ≡ false → (lig_comp y == 0) ≡ false → is_member y ≡ true
member_by y e f = ap (λ (b : Bool). not b && not (lig_comp y == 0)) e ∙ ap (λ (b : Bool). not b) f

pub followers_are_members : FollowersAreMembers
followers_are_members id last ended own [] some h = refl
followers_are_members id last ended own (y ∷ ys) some h =
    by_tests (lig_id y == last) (lig_id y == 0) (lig_comp y == 0) refl refl refl (λ same. followers_are_members id last ended own ys some (subst (λ (n : ℕ). FollowOwn n ys) same h.1))
  where
    by_tests : (e t u : Bool) → (lig_id y == last) ≡ e → (lig_id y == 0) ≡ t → (lig_comp y == 0) ≡ u → (lig_id y ≡ last → following_items id last ended own ys ≡ members_renumbered id ended own ys)
        → (if e && not u then with_component id ended own y ∷ following_items id last ended own ys else y ∷ ys) ≡ (if not t && not u then with_component id ended own y ∷ members_renumbered id ended own ys else y ∷ ys)
    by_tests true true u p q r k = absurd (some (sym (equal_numbers (lig_id y) last p) ∙ equal_numbers (lig_id y) 0 q))
    by_tests true false true p q r k = refl
    by_tests false true u p q r k = refl
    by_tests false false true p q r k = refl
    by_tests true false false p q r k = ap (λ (zs : List Item). with_component id ended own y ∷ zs) (k (equal_numbers (lig_id y) last p))
    by_tests false false false p q r k = let own_number = same_number (lig_id y) last (h.0 (member_by y q r)) in cc

renumbered : (id ended own : ℕ) (y : Item) → lig_id (with_component id ended own y) ≡ id
renumbered id ended own y = number_of_component id (component_now ended own y) y

pub renumbered_follow : RenumberedFollow
renumbered_follow id last ended own [] h = tt
renumbered_follow id last ended own (y ∷ ys) h = by_test (is_member y) refl (renumbered_follow id (lig_id y) ended own ys h.1)
  where
    by_test : (t : Bool) → is_member y ≡ t → FollowOwn id (members_renumbered id ended own ys) → FollowOwn id (if t then with_component id ended own y ∷ members_renumbered id ended own ys else y ∷ ys)
    by_test true e k = (λ m. renumbered id ended own y, subst (λ (n : ℕ). FollowOwn n (members_renumbered id ended own ys)) (sym (renumbered id ended own y)) k)
    by_test false e k = (λ m. cc, h.1)
