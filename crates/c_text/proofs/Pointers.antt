-- The machine value of a `BoxPointer`, and what it owns. Assumes `Logic`.
--     stored         the machine value: the pointer, then the allocator's handle
--     Pointer        the type's row
--     stored_fits    a pointer into a block and a handle that fits make a value that fits
--     opened         a proof's step: what is owned of a `BoxPointer` is [the value in memory with the right to free it; the handle]
--     sealed         the way back
use Rattle.std.proofs.Common.{◌≡◌, ℕ, List, [], ◌∷◌, ◌++◌, refl, ap, ◌∙◌}
use mathlib.Core.Bool.{true, ◌&&◌}
use lib.Dec.{T}
use seplogic.Ra.Ura.{Ura}
use mir.Syntax.{impl, tnil, dnil}
use mir.Raw.{raw as bare}
use mir.Val.{Val, vptr, vstruct, vcons, vnil, of_list, has_ty, WT}
use base.Fml.{Fml}
use base.Logic.{never, fst∗}
use types.Logic.{Logic, sem}
use types.Kit.{Item, Goal, Seq, Step, step, ‵, ◌$◌, move, drop, fsplit, fjoin, fpick, fpack, feq_i, feq_l}
use denote.RattleType.{RattleType, Valss}
use denote.Builtin.{RawPtr}
use denote.Memory.{lone}
use denote.RawPtr.{Ptr, block_ptr, null_ptr, ptr_val, in_a_block}
use denote.Steps.{nothing}
use denote.Param.{layout}
use denote.Param.Laws.{Laws}
use denote.Struct.Struct.{within}
use denote.Struct.Owning.{shape}
use Rattle.core.specs.declared.alloc.Allocator.{Ghosts}
use Rattle.core.proofs.alloc.Calls.{Al, handle_tells}
use Rattle.core.proofs.cell.Inside.{Good}
use Rattle.std_alloc.specs.Box.Ownership.{box_owns}
use Rattle.std_alloc.proofs.ResultValues.{and_tt}
use Rattle.c_text.specs.contracts.pointer.BoxPointer as pointer

abbrev pub stored : Val → Val → Val
stored at handle = vstruct (vcons at (vcons handle vnil))

module _ (R Z : RattleType) (L : Laws Z) (g : Ghosts Z.Denot) where
  abbrev pub Pointer : RattleType
  Pointer = pointer.the_row R Z g

  abbrev allocator : Al
  allocator = record { row = Z; laws = L; g = g; d = impl [] tnil dnil; drops = impl [] tnil dnil }

  abbrev boxed : Z.Denot → Ptr → R.Denot → Fml
  boxed a p x = box_owns (g.dealloc_token a) R p x

  pub stored_fits : (b o : ℕ) (h : Val) → Good (layout Z) h → T (has_ty (layout Z) h && true) × WT (stored (vptr b o) h)
  stored_fits b o h fits = (and_tt (has_ty (layout Z) h) fits.0, (tt, (fits.1, tt)))

  module _ {M : Type 1} {𝓤 : Ura M} {𝓛 : Logic 𝓤} {K : Type 0} {Γ : List (Item 𝓤)} {G : Goal 𝓤 𝓛.H} where
    pub opened : K → (d : Pointer.Denot) (vs : List Val)
        → ((b o : ℕ) (h : Val) → d.at ≡ block_ptr b o → vs ≡ stored (vptr b o) h ∷ [] → Good (layout Z) h
        → Seq K 𝓛 (‵ (boxed d.alloc (block_ptr b o) d.value) ∷ ‵ (Z.own_val d.alloc (h ∷ [])) ∷ Γ) G)
        → Seq K 𝓛 (‵ (Pointer.own_val d vs) ∷ Γ) G
    opened t d vs rest =
        let whole : List Val → List Val → List Val = λ at handle. vstruct (of_list (at ++ (handle ++ []))) ∷ [] in
        -- [the struct's machine value, with its fields; the box]
        fsplit t $ fpick t (λ fields. fsplit t $ feq_l t (λ of_fields. fsplit t $ feq_l t (λ of_at. fsplit t $
        handle_tells allocator t d.alloc fields.1.0 (λ h of_handle fits.
        -- [the handle; nothing; the box]
        move t (1 ∷ []) $ drop t $ move t (1 ∷ []) $
        in_a_block t d.at (λ p. boxed d.alloc p d.value) (fst∗ 𝓤 (never 𝓤) (sem 𝓛 (g.dealloc_token d.alloc (bare (lone R.mir)) null_ptr)))
        (λ b o in_block. rest b o h in_block
        (of_fields ∙ ap (λ (at : List Val). whole at fields.1.0) of_at ∙ ap (whole (ptr_val d.at ∷ [])) of_handle ∙ ap (λ (p : Ptr). whole (ptr_val p ∷ []) (h ∷ [])) in_block)
        fits)))))

    pub sealed : K → (b o : ℕ) (h : Val) (a : Z.Denot) (x : R.Denot)
        → Step K 𝓛 (‵ (Pointer.own_val (record { at = block_ptr b o; alloc = a; value = x }) (stored (vptr b o) h ∷ [])) ∷ Γ) G (‵ (boxed a (block_ptr b o) x) ∷ ‵ (Z.own_val a (h ∷ [])) ∷ Γ) G
    sealed t b o h a x = step (λ rest. let vs : List Val = stored (vptr b o) h ∷ [] in
        -- the fields: the handle, then the pointer, which owns nothing
        nothing t $ move t (2 ∷ 0 ∷ []) $ fjoin t $
        feq_i t (List Val) (vptr b o ∷ []) (vptr b o ∷ []) refl $ fjoin t $
        feq_i t (List Val) vs vs refl $ fjoin t $
        fpack t (Valss (RawPtr ∷ Z ∷ [])) (within (shape (pointer.the_type R Z g)) (block_ptr b o, (a, tt)) vs) (vptr b o ∷ [], (h ∷ [], tt)) $
        fjoin t $ rest)
