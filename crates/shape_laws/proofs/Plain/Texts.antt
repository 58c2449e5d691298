-- Stages on texts whose items are paired with characters.
use Rattle.std.proofs.Common.{ℕ, ◌≡◌, ◌≤◌, Bool, true, false, not, List, [], ◌∷◌, Ok, map, length, refl, sym, ap, subst, ◌∙◌}
use Rattle.std.specs.Prelude.{bit_and, nat_le, Option, Some, None, unwrap_or}
use Rattle.std.specs.Option.{option_map_or}
use Rattle.std.proofs.lemmas.Bool.{and_parts}
use lib.Utf8.{scalar}
use Rattle.buffer_unicode.specs.Character.{is_default_ignorable_character}
use Rattle.buffer_common.specs.declared.direction.Direction.TheVariants.{LeftToRight}
use Rattle.layout_face.specs.declared.parts.FaceParts.{FaceParts}
use Rattle.layout_face.specs.Glyphs.{nominal_glyph}
use Rattle.buffer_properties.specs.Properties.{is_mark_character}
use Rattle.buffer_glyphs.specs.Items.{Item}
use Rattle.buffer_core.specs.Readings.{Read, Stage, View, always, and_then, as_it_is, then_read, then_reading, with_events}
use Rattle.shape_pipeline.specs.Chains.{in_order, only_if}
use Rattle.shape_laws.specs.PlainTexts.{glyph_of, has_glyph, is_plain, is_space_character}
use Rattle.buffer_facts.proofs.Truth.{false_by_not as denied}

-- ---- plain characters

pub record IsPlain (font : FaceParts) (u : ℕ) : Type 0 where
  pub character : scalar u ≡ true
  pub glyph : has_glyph font u ≡ true
  pub unmarked : is_mark_character u ≡ false
  pub printed : is_space_character u ≡ false
  pub shown : is_default_ignorable_character u ≡ false

pub plain_facts : (font : FaceParts) (u : ℕ) → is_plain font u ≡ true → IsPlain font u
plain_facts font u h =
    let e = and_parts _ (not (is_default_ignorable_character u)) h in
    let d = and_parts _ (not (is_space_character u)) e.0 in
    let c = and_parts _ (not (is_mark_character u)) d.0 in
    let b = and_parts (scalar u) (has_glyph font u) c.0 in
    record { character = b.0; glyph = b.1; unmarked = denied (is_mark_character u) c.1; printed = denied (is_space_character u) d.1; shown = denied (is_default_ignorable_character u) e.1 }

glyph_there : (o : Option ℕ) → option_map_or (λ g. nat_le g 65535) o false ≡ true → (o ≡ Some (unwrap_or o 0)) × (nat_le (unwrap_or o 0) 65535 ≡ true)
glyph_there None h = cc
glyph_there (Some g) h = (refl, h)

pub its_glyph : (font : FaceParts) (u : ℕ) → IsPlain font u → nominal_glyph u font ≡ Some (glyph_of font u)
its_glyph font u p = (glyph_there (nominal_glyph u font) p.glyph).0

pub its_number : (font : FaceParts) (u : ℕ) → IsPlain font u → nat_le (glyph_of font u) 65535 ≡ true
its_number font u p = (glyph_there (nominal_glyph u font) p.glyph).1

-- ---- items beside characters

abbrev pub Are : (ℕ → Item → Type 0) → List ℕ → List Item → Type 0
Are P [] [] = Unit {0}
Are P [] (x ∷ xs) = ⊥
Are P (u ∷ us) [] = ⊥
Are P (u ∷ us) (x ∷ xs) = P u x × Are P us xs

pub are_mapped : (P Q : ℕ → Item → Type 0) (k : Item → Item) → ((u : ℕ) (x : Item) → P u x → Q u (k x)) → (us : List ℕ) (xs : List Item) → Are P us xs → Are Q us (map k xs)
are_mapped P Q k h [] [] a = tt
are_mapped P Q k h [] (x ∷ xs) a = absurd a
are_mapped P Q k h (u ∷ us) [] a = absurd a
are_mapped P Q k h (u ∷ us) (x ∷ xs) a = (h u x a.0, are_mapped P Q k h us xs a.1)

-- a map that changes none of them
pub are_same : (P : ℕ → Item → Type 0) (k : Item → Item) → ((u : ℕ) (x : Item) → P u x → k x ≡ x) → (us : List ℕ) (xs : List Item) → Are P us xs → map k xs ≡ xs
are_same P k h [] [] a = refl
are_same P k h [] (x ∷ xs) a = absurd a
are_same P k h (u ∷ us) [] a = absurd a
are_same P k h (u ∷ us) (x ∷ xs) a = rw (h u x a.0, are_same P k h us xs a.1) refl

pub are_many : (P : ℕ → Item → Type 0) (us : List ℕ) (xs : List Item) → Are P us xs → length xs ≡ length us
are_many P [] [] a = refl
are_many P [] (x ∷ xs) a = absurd a
are_many P (u ∷ us) [] a = absurd a
are_many P (u ∷ us) (x ∷ xs) a = rw (are_many P us xs a.1) refl

-- ---- views

pub record Stands (P : ℕ → Item → Type 0) (us : List ℕ) (v : View) : Type 0 where
  pub items : Are P us v.items
  pub line : v.direction ≡ LeftToRight
  pub scratch_flags : bit_and v.scratch_flags 8 ≡ 0
  pub room : length us ≤ v.max_len

-- a stage does not refuse, and leaves a view of a kind
abbrev pub Leads : (View → Type 0) → (View → Type 0) → Stage → Type 0
Leads A B stage = (v : View) → A v → (r : Read) × ((stage v ≡ Ok r) × B r.view)

pub always_leads : (A B : View → Type 0) (f : View → Read) → ((v : View) → A v → B (f v).view) → Leads A B (always f)
always_leads A B f h v a = (f v, (refl, h v a))

pub rests : (A : View → Type 0) → Leads A A as_it_is
rests A v a = (with_events [] v, (refl, a))

pub leads_as : (A B : View → Type 0) (stage other : Stage) → ((v : View) → other v ≡ stage v) → Leads A B stage → Leads A B other
leads_as A B stage other same f v a = let (r, (e, b)) = f v a in (r, (same v ∙ e, b))

pub both_lead : (A B C : View → Type 0) (a : Stage) (rest : List Stage) → Leads A B a → Leads B C (in_order rest) → Leads A C (in_order (a ∷ rest))
both_lead A B C a rest f g v h =
    let (r, (e, k)) = f v h in
    let (s, (d, l)) = g r.view k in
    (then_read r s, (ap (λ q. and_then q (in_order rest)) e ∙ ap (then_reading r) d, l))

pub last_leads : (A B : View → Type 0) (a : Stage) → Leads A B a → Leads A B (in_order (a ∷ []))
last_leads A B a f = both_lead A B B a [] f (rests B)

pub skipped : (A : View → Type 0) (b : Bool) (stage : Stage) → b ≡ false → Leads A A (only_if b stage)
skipped A b stage e = let P : Bool → Type 0 = λ c. Leads A A (only_if c stage) in subst P (sym e) (rests A)

pub acted : (A B : View → Type 0) (b : Bool) (stage : Stage) → b ≡ true → Leads A B stage → Leads A B (only_if b stage)
acted A B b stage e f = let P : Bool → Type 0 = λ c. Leads A B (only_if c stage) in subst P (sym e) f

pub either : (A : View → Type 0) (b : Bool) (stage : Stage) → Leads A A stage → Leads A A (only_if b stage)
either A true stage f = f
either A false stage f = rests A
