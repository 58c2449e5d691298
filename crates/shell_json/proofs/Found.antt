-- What is found of the member of a name when a member is passed.
use Rattle.std.proofs.Common.{◌≡◌, ℕ, List, Option, Some, sym, ap, ◌∙◌, subst}
use Rattle.serde_json.specs.Data.{Data, Members, put}
use Rattle.serde_json.specs.Find.{get_member}
use Rattle.serde_json.proofs.Views.{get_member-put, get_member-put_other}
use Rattle.shell_json.specs.TextValues.{IsFound, HasMember}

module _ {A : Type 0} (Means : Data → A → Type 0) (name key : List ℕ) (d : Data) (ms : Members) where
  pub found_here : (a : A) → name ≡ key → Means d a → HasMember Means key (put name d ms) (Some a)
  found_here a same h = subst (λ o. IsFound Means o (Some a)) (sym (ap (λ k. get_member key (put k d ms)) same ∙ get_member-put key d ms)) h

  pub found_before : (found : Option A) → (name ≡ key → ⊥) → HasMember Means key ms found → HasMember Means key (put name d ms) found
  found_before found other h = subst (λ o. IsFound Means o found) (sym (get_member-put_other key name d ms (λ same. other (sym same)))) h
