use Rattle.std.proofs.Common.{ℕ, ℤ, ◌≡◌, ◌&&◌, ◌∙◌, Bool, Decides, ap, refl, subst}
use Rattle.std.proofs.lemmas.Bool.{and_from, and_parts}
use Rattle.std.proofs.lemmas.Bool.Decides.{Decides-eqb, Decides-int_eq}
use Rattle.std.proofs.lemmas.Slice.Eq.{slice_eq-Decides}
use Rattle.buffer_glyphs.specs.declared.position.GlyphPosition.{GlyphPosition}
use Rattle.shape_trials.proofs.alike.are_same_positions.Goals as goal

both : {r s : Bool} {P Q : Type 0} → Decides r P → Decides s Q → Decides (r && s) (P × Q)
both {r} {s} d e = (λ h. let parts = and_parts r s h in (d.0 parts.0, e.0 parts.1), λ p. and_from r s (d.1 p.0) (e.1 p.1))

abbrev Fields : GlyphPosition → GlyphPosition → Type 0
Fields a b = (a.x_advance ≡ b.x_advance) × ((a.y_advance ≡ b.y_advance) × ((a.x_offset ≡ b.x_offset) × ((a.y_offset ≡ b.y_offset) × ((a.attach_chain ≡ b.attach_chain) × (a.attach_type ≡ b.attach_type)))))

alike : (a b : GlyphPosition) → Fields a b → a ≡ b
alike a b p =
    ap (λ (v : ℤ). record a { x_advance = v }) p.0
    ∙ ap (λ (v : ℤ). record a { x_advance = b.x_advance; y_advance = v }) p.1.0
    ∙ ap (λ (v : ℤ). record a { x_advance = b.x_advance; y_advance = b.y_advance; x_offset = v }) p.1.1.0
    ∙ ap (λ (v : ℤ). record a { x_advance = b.x_advance; y_advance = b.y_advance; x_offset = b.x_offset; y_offset = v }) p.1.1.1.0
    ∙ ap (λ (v : ℤ). record b { attach_chain = v; attach_type = a.attach_type }) p.1.1.1.1.0
    ∙ ap (λ (v : ℕ). record b { attach_type = v }) p.1.1.1.1.1

fields : (a b : GlyphPosition) → a ≡ b → Fields a b
fields a b e = subst (λ (x : GlyphPosition). Fields a x) e (refl, (refl, (refl, (refl, (refl, refl)))))

by_fields : (a b : GlyphPosition) (r : Bool) → Decides r (Fields a b) → Decides r (a ≡ b)
by_fields a b r d = (λ h. alike a b (d.0 h), λ e. d.1 (fields a b e))

pub returns : goal.returns
returns c = slice_eq-Decides (λ a b. by_fields a b _ (both (Decides-int_eq a.x_advance b.x_advance) (both (Decides-int_eq a.y_advance b.y_advance) (both (Decides-int_eq a.x_offset b.x_offset) (both (Decides-int_eq a.y_offset b.y_offset) (both (Decides-int_eq a.attach_chain b.attach_chain) (Decides-eqb a.attach_type b.attach_type))))))) _ _ _ c.eq.ensures
