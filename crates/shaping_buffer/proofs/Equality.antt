-- `==` of records whose fields are compared one by one.
use Rattle.std.proofs.Common.{◌≡◌, ◌==◌, Bool, true, false, ◌&&◌, ◌∙◌, ap, refl, ℤ, ℕ}
use Rattle.std.specs.Bool.{Decides}
use Rattle.std.proofs.lemmas.Bool.Decides.{Decides-eqb, Decides-int_eq}
use Rattle.std.specs.Ordering.{int_eq}
use Rattle.buffer_glyphs.specs.declared.position.GlyphPosition.{GlyphPosition}
use Rattle.buffer_glyphs.specs.declared.names.hb_glyph_extents_t.{hb_glyph_extents_t}

both : {P Q : Type 0} (r s : Bool) → Decides r P → Decides s Q → Decides (r && s) (P × Q)
both true s p q = (λ e. (p.0 refl, q.0 e), λ pq. q.1 pq.1)
both false s p q = (λ e. absurd (false_is_not_true e), λ pq. p.1 pq.0)
  where
    false_is_not_true : false ≡ true → ⊥
    false_is_not_true e = cc

carried : {P Q : Type 0} (r : Bool) → (P → Q) → (Q → P) → Decides r P → Decides r Q
carried r to from d = (λ e. to (d.0 e), λ q. d.1 (from q))

four : (r s t u : Bool) {P Q R S : Type 0} → Decides r P → Decides s Q → Decides t R → Decides u S → Decides (r && (s && (t && u))) (P × (Q × (R × S)))
four r s t u p q v w = both r (s && (t && u)) p (both s (t && u) q (both t u v w))

abbrev the_extents : ℤ → ℤ → ℤ → ℤ → hb_glyph_extents_t
the_extents x y w h = record { x_bearing = x; y_bearing = y; width = w; height = h }

abbrev the_position : ℤ → ℤ → ℤ → ℤ → ℤ → ℕ → GlyphPosition
the_position x y u v c t = record { x_advance = x; y_advance = y; x_offset = u; y_offset = v; attach_chain = c; attach_type = t }

pub extents : (a b : hb_glyph_extents_t) → Decides (int_eq a.x_bearing b.x_bearing && (int_eq a.y_bearing b.y_bearing && (int_eq a.width b.width && int_eq a.height b.height))) (a ≡ b)
extents a b = carried (int_eq a.x_bearing b.x_bearing && (int_eq a.y_bearing b.y_bearing && (int_eq a.width b.width && int_eq a.height b.height))) same fields
    (four (int_eq a.x_bearing b.x_bearing) (int_eq a.y_bearing b.y_bearing) (int_eq a.width b.width) (int_eq a.height b.height) (Decides-int_eq a.x_bearing b.x_bearing) (Decides-int_eq a.y_bearing b.y_bearing) (Decides-int_eq a.width b.width) (Decides-int_eq a.height b.height))
  where
    same : (a.x_bearing ≡ b.x_bearing) × ((a.y_bearing ≡ b.y_bearing) × ((a.width ≡ b.width) × (a.height ≡ b.height))) → a ≡ b
    same f = ap (λ v. the_extents (v) (a.y_bearing) (a.width) (a.height)) f.0 ∙ ap (λ v. the_extents (b.x_bearing) (v) (a.width) (a.height)) f.1.0 ∙ ap (λ v. the_extents (b.x_bearing) (b.y_bearing) (v) (a.height)) f.1.1.0 ∙ ap (λ v. the_extents (b.x_bearing) (b.y_bearing) (b.width) (v)) f.1.1.1

    fields : a ≡ b → (a.x_bearing ≡ b.x_bearing) × ((a.y_bearing ≡ b.y_bearing) × ((a.width ≡ b.width) × (a.height ≡ b.height)))
    fields e = (ap (λ (p : hb_glyph_extents_t). p.x_bearing) e, (ap (λ (p : hb_glyph_extents_t). p.y_bearing) e, (ap (λ (p : hb_glyph_extents_t). p.width) e, ap (λ (p : hb_glyph_extents_t). p.height) e)))

pub positions : (a b : GlyphPosition) → Decides (int_eq a.x_advance b.x_advance && (int_eq a.y_advance b.y_advance && (int_eq a.x_offset b.x_offset && (int_eq a.y_offset b.y_offset && (int_eq a.attach_chain b.attach_chain && (a.attach_type == b.attach_type)))))) (a ≡ b)
positions a b = carried (int_eq a.x_advance b.x_advance && (int_eq a.y_advance b.y_advance && (int_eq a.x_offset b.x_offset && (int_eq a.y_offset b.y_offset && (int_eq a.attach_chain b.attach_chain && (a.attach_type == b.attach_type)))))) same fields
    (both (int_eq a.x_advance b.x_advance) (int_eq a.y_advance b.y_advance && (int_eq a.x_offset b.x_offset && (int_eq a.y_offset b.y_offset && (int_eq a.attach_chain b.attach_chain && (a.attach_type == b.attach_type))))) (Decides-int_eq a.x_advance b.x_advance)
    (both (int_eq a.y_advance b.y_advance) (int_eq a.x_offset b.x_offset && (int_eq a.y_offset b.y_offset && (int_eq a.attach_chain b.attach_chain && (a.attach_type == b.attach_type)))) (Decides-int_eq a.y_advance b.y_advance)
    (four (int_eq a.x_offset b.x_offset) (int_eq a.y_offset b.y_offset) (int_eq a.attach_chain b.attach_chain) (a.attach_type == b.attach_type) (Decides-int_eq a.x_offset b.x_offset) (Decides-int_eq a.y_offset b.y_offset) (Decides-int_eq a.attach_chain b.attach_chain) (Decides-eqb a.attach_type b.attach_type))))
  where
    same : (a.x_advance ≡ b.x_advance) × ((a.y_advance ≡ b.y_advance) × ((a.x_offset ≡ b.x_offset) × ((a.y_offset ≡ b.y_offset) × ((a.attach_chain ≡ b.attach_chain) × (a.attach_type ≡ b.attach_type))))) → a ≡ b
    same f = ap (λ v. the_position (v) (a.y_advance) (a.x_offset) (a.y_offset) (a.attach_chain) (a.attach_type)) f.0 ∙ ap (λ v. the_position (b.x_advance) (v) (a.x_offset) (a.y_offset) (a.attach_chain) (a.attach_type)) f.1.0 ∙ ap (λ v. the_position (b.x_advance) (b.y_advance) (v) (a.y_offset) (a.attach_chain) (a.attach_type)) f.1.1.0 ∙ ap (λ v. the_position (b.x_advance) (b.y_advance) (b.x_offset) (v) (a.attach_chain) (a.attach_type)) f.1.1.1.0 ∙ ap (λ v. the_position (b.x_advance) (b.y_advance) (b.x_offset) (b.y_offset) (v) (a.attach_type)) f.1.1.1.1.0 ∙ ap (λ v. the_position (b.x_advance) (b.y_advance) (b.x_offset) (b.y_offset) (b.attach_chain) (v)) f.1.1.1.1.1

    fields : a ≡ b → (a.x_advance ≡ b.x_advance) × ((a.y_advance ≡ b.y_advance) × ((a.x_offset ≡ b.x_offset) × ((a.y_offset ≡ b.y_offset) × ((a.attach_chain ≡ b.attach_chain) × (a.attach_type ≡ b.attach_type)))))
    fields e = (ap (λ (p : GlyphPosition). p.x_advance) e, (ap (λ (p : GlyphPosition). p.y_advance) e, (ap (λ (p : GlyphPosition). p.x_offset) e, (ap (λ (p : GlyphPosition). p.y_offset) e, (ap (λ (p : GlyphPosition). p.attach_chain) e, ap (λ (p : GlyphPosition). p.attach_type) e)))))
