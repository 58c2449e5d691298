-- The machine values of handles, whatever they hold. Assumes `Logic`.
use Rattle.std.proofs.Common.{◌≡◌, ℕ, List, [], ◌∷◌, refl}
use mathlib.Core.Bool.{Bool, true, false}
use Rattle.std.specs.Prelude.{Option, None, Some}
use seplogic.Ra.Ura.{Ura}
use mir.Syntax.{impl, tnil, dnil}
use mir.Raw.{raw as bare}
use mir.Val.{Val, vstruct, vcons, vnil}
use base.Fml.{ftrue}
use base.Logic.{never, fst∗, never_e}
use types.Logic.{Logic, sem}
use types.Kit.{Item, Goal, Seq, ‵, ◌$◌, drop, given, learn, use1}
use denote.RattleType.{RattleType}
use denote.Memory.{lone}
use denote.RawPtr.{Ptr, block_ptr, null_ptr, in_a_block}
use denote.Steps.{nothing}
use Rattle.core.proofs.alloc.Calls.{Al}
use Rattle.std.specs.contracts.alloc.Global as heap
use Rattle.std.proofs.alloc.Global.TheLaws as heap_laws
use Rattle.std.specs.contracts.impls.GlobalAllocator.TheImpl.{ghosts}
use Rattle.std_alloc.specs.Box.Ownership.{box_owns}
use Rattle.c_text.specs.Ownership.{handle_owns}
use Rattle.c_text.specs.contracts.handle.Handle as handle

abbrev pub three : Val → Val → Val → Val
three u v w = vstruct (vcons u (vcons v (vcons w vnil)))

abbrev pub Z : RattleType
Z = heap.the_row

abbrev pub al : Al
al = record { row = Z; laws = heap_laws.the_row_laws; g = ghosts; d = impl [] tnil dnil; drops = impl [] tnil dnil }

module _ (R : RattleType) {M : Type 1} {𝓤 : Ura M} {𝓛 : Logic 𝓤} {K : Type 0} {Γ : List (Item 𝓤)} {G : Goal 𝓤 𝓛.H} where
  -- what a handle owns beside its fields: nothing, or a box
  pub either : K → (a : Z.Denot) (p : Ptr) (y : Bool) (o : Option R.Denot)
      → (y ≡ false → o ≡ None → Seq K 𝓛 Γ G)
      → ((b c : ℕ) (x : R.Denot) → p ≡ block_ptr b c → y ≡ true → o ≡ Some x → Seq K 𝓛 (‵ (box_owns (ghosts.dealloc_token a) R (block_ptr b c) x) ∷ Γ) G)
      → Seq K 𝓛 (‵ (handle_owns (box_owns (ghosts.dealloc_token a) R p) y o) ∷ Γ) G
  either t a p true (Some x) empty one = in_a_block t p (λ q. box_owns (ghosts.dealloc_token a) R q x) (fst∗ 𝓤 (never 𝓤) (sem 𝓛 (ghosts.dealloc_token a (bare (lone R.mir)) null_ptr))) (λ b c e. one b c x e refl refl)
  either t a p true None empty one = use1 𝓛 (given ⊥ (‵ ftrue)) (never_e 𝓤 _) $ learn t (λ z. absurd z)
  either t a p false (Some x) empty one = use1 𝓛 (given ⊥ (‵ ftrue)) (never_e 𝓤 _) $ learn t (λ z. absurd z)
  either t a p false None empty one = drop t $ empty refl refl
