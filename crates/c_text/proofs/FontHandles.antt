-- The machine values of a `Handle`. Assumes `Logic`.
use Rattle.std.proofs.Common.{◌≡◌, List, [], ◌∷◌, ◌++◌, refl, subst}
use mathlib.Core.Bool.{Bool}
use Rattle.std.specs.Prelude.{Option}
use seplogic.Ra.Ura.{Ura}
use mir.Val.{Val, vbool, vstruct, of_list, has_ty}
use types.Logic.{Logic}
use types.Kit.{Item, Goal, Seq, Step, step, ‵, ◌$◌, move, drop, fsplit, fjoin, fpick, fpack, feq_i, feq_l}
use denote.RattleType.{RattleType, Valss}
use denote.Builtin.{RawPtr, bool}
use denote.RawPtr.{Ptr, block_ptr, null_ptr, ptr_val}
use denote.Steps.{nothing}
use denote.Param.{layout}
use denote.Struct.Struct.{within}
use denote.Struct.Owning.{shape, to}
use Rattle.core.proofs.alloc.Calls.{handle_tells}
use Rattle.core.proofs.cell.Inside.{Good}
use Rattle.core.proofs.atomic.Steps.{Ptr-Good}
use Rattle.std.specs.contracts.impls.GlobalAllocator.TheImpl.{ghosts}
use Rattle.std_alloc.specs.Box.Ownership.{box_owns}
use Rattle.std_alloc.proofs.ResultValues.{and_tt}
use Rattle.c_text.specs.contracts.font.Font.{the_row as State}
use Rattle.c_text.specs.Ownership.{handle_owns}
use Rattle.c_text.specs.contracts.handle.Handle as handle
use Rattle.c_text.proofs.Handles.{three, Z, al}

abbrev pub Handle : RattleType
Handle = handle.the_row

module _ {M : Type 1} {𝓤 : Ura M} {𝓛 : Logic 𝓤} {K : Type 0} {Γ : List (Item 𝓤)} {G : Goal 𝓤 𝓛.H} where
  pub handle_out : K → (d : Handle.Denot) (vs : List Val)
      → ((h : Val) → vs ≡ three (ptr_val d.at) (vbool d.live) h ∷ [] → Good (layout Z) h → Seq K 𝓛 (‵ (handle_owns (box_owns (ghosts.dealloc_token d.alloc) State d.at) d.live d.value) ∷ ‵ (Z.own_val d.alloc (h ∷ [])) ∷ Γ) G)
      → Seq K 𝓛 (‵ (Handle.own_val d vs) ∷ Γ) G
  handle_out t d vs k =
      fsplit t $ fpick t (λ vss. fsplit t $ feq_l t (λ ev. fsplit t $ feq_l t (λ ep. fsplit t $ feq_l t (λ el. fsplit t $ handle_tells al t d.alloc vss.1.1.0 (λ h ea fits.
      move t (1 ∷ []) $ drop t $ move t (1 ∷ []) $ k h
      (subst (λ (ws : List Val). vs ≡ vstruct (of_list (ptr_val d.at ∷ vbool d.live ∷ (ws ++ []))) ∷ []) ea
      (subst (λ (ls : List Val). vs ≡ vstruct (of_list (ptr_val d.at ∷ (ls ++ (vss.1.1.0 ++ [])))) ∷ []) el
      (subst (λ (ps : List Val). vs ≡ vstruct (of_list (ps ++ (vss.1.0 ++ (vss.1.1.0 ++ [])))) ∷ []) ep ev))) fits)))))

  pub handle_in : K → (p : Ptr) (y : Bool) (h : Val) (a : Z.Denot) (o : Option State.Denot)
      → Step K 𝓛 (‵ (Handle.own_val (record { at = p; live = y; alloc = a; value = o }) (three (ptr_val p) (vbool y) h ∷ [])) ∷ Γ) G (‵ (handle_owns (box_owns (ghosts.dealloc_token a) State p) y o) ∷ ‵ (Z.own_val a (h ∷ [])) ∷ Γ) G
  handle_in t p y h a o = step (λ s. let v : Val = three (ptr_val p) (vbool y) h in
      nothing t $ move t (2 ∷ 0 ∷ []) $ fjoin t $ feq_i t (List Val) (vbool y ∷ []) (vbool y ∷ []) refl $ fjoin t $ feq_i t (List Val) (ptr_val p ∷ []) (ptr_val p ∷ []) refl $ fjoin t $ feq_i t (List Val) (v ∷ []) (v ∷ []) refl $ fjoin t $
      fpack t (Valss (RawPtr ∷ bool ∷ Z ∷ [])) (within (shape handle.the_type) (to handle.the_type (record { at = p; live = y; alloc = a; value = o })) (v ∷ [])) (ptr_val p ∷ [], (vbool y ∷ [], (h ∷ [], tt))) $ fjoin t $ s)

pub three_good : (p : Ptr) (y : Bool) (h : Val) → Good (layout Z) h → Good (layout Handle) (three (ptr_val p) (vbool y) h)
three_good (block_ptr b o) y h fits = (and_tt (has_ty (layout Z) h) fits.0, (tt, (tt, (fits.1, tt))))
three_good null_ptr y h fits = (and_tt (has_ty (layout Z) h) fits.0, ((Ptr-Good null_ptr).1, (tt, (fits.1, tt))))
