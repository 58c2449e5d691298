-- The glyphs of a plain text.
use Rattle.std.proofs.Common.{ℕ, ◌≡◌, ◌&&◌, ◌||◌, ◌==◌, Bool, true, false, if◌then◌else◌, nat_le, List, [], ◌∷◌, Ok, map, refl, sym, ap, subst, ◌∙◌}
use Rattle.std.specs.Prelude.{◌+◌, bit_and, Option, Some, None}
use Rattle.std.specs.Option.{option_map_or}
use Rattle.ucd_category.specs.declared.GeneralCategory.TheVariants.{NonspacingMark}
use Rattle.buffer_unicode.specs.Category.{category_number}
use Rattle.layout_face.specs.declared.parts.FaceParts.{FaceParts}
use Rattle.buffer_properties.specs.Properties.{properties_of}
use Rattle.buffer_glyphs.specs.Items.{Item, Position}
use Rattle.buffer_core.specs.Readings.{Read, Stage, View, always, and_then, as_it_is, then_read, then_reading, with_events}
use Rattle.layout_face.specs.declared.substitution.SubstitutionTable.{SubstitutionTable}
use Rattle.layout_map_features.specs.declared.lookup.lookup_map_t.{lookup_map_t}
use Rattle.layout_map.specs.declared.stages.StageMap.{StageMap}
use Rattle.layout_map.specs.Compiled.{TableStages, lookups_of_stage}
use Rattle.layout_substitution.specs.Lookups.{lookup_stage, lookups_stage}
use Rattle.layout_substitution.specs.Substituting.{substitution_stages, table_stage, table_stages}
use Rattle.buffer_stages.specs.Pauses.{Pauses, pause_stage, with_own_random}
use Rattle.buffer_properties.specs.Characters.{is_mark_number}
use Rattle.buffer_properties.specs.Categories.{is_nonspacing_mark}
use Rattle.shape_fallback.specs.Classes.{fallback_class, item_with_fallback_class, with_fallback_classes}
use Rattle.layout_gsub.specs.GlyphClasses.{item_with_font_class, with_font_classes}
use Rattle.shape_glyphs.specs.Glyphs.{as_glyph, item_with_synthesized_class, glyph_or_missing, with_glyphs, with_synthesized_classes}
use Rattle.script_plan.specs.Rules.{ShaperRules}
use Rattle.shape_pipeline.specs.Chains.{only_if}
use Rattle.shape_pipeline.specs.Glyphs.{glyphs_substituted, glyphs_taken}
use Rattle.shape_pipeline.specs.Shaping.{Shaping, pauses_of}
use Rattle.shape_laws.specs.PlainTexts.{IsPlainShaping, glyph_of}
use Rattle.shape_laws.proofs.Plain.Texts.{IsPlain, Leads, acted, always_leads, are_mapped, both_lead, either, its_number, last_leads}
use Rattle.shape_laws.proofs.Plain.Chosen.{Chosen, Placed}
use Rattle.shape_laws.proofs.Plain.Words.{word_mark}

-- a glyph of a plain character
pub record Shown (font : FaceParts) (u : ℕ) (x : Item) : Type 0 where
  pub number : x.number ≡ glyph_of font u
  pub plain : IsPlain font u
  pub word : x.unicode_props ≡ properties_of u

-- with its class, a base
pub record Based (font : FaceParts) (u : ℕ) (x : Item) : Type 0 where
  pub number : x.number ≡ glyph_of font u
  pub plain : IsPlain font u
  pub word : x.unicode_props ≡ properties_of u
  pub base : x.glyph_props ≡ 2

-- ---- no nonspacing mark

last_of : (a b c : Bool) → (a || (b || c)) ≡ false → c ≡ false
last_of true b c e = cc
last_of false true c e = cc
last_of false false c e = e

pub not_nonspacing : (font : FaceParts) (u w : ℕ) → IsPlain font u → w ≡ properties_of u → (bit_and w 0x1F == category_number NonspacingMark) ≡ false
not_nonspacing font u w p e =
    let mark : is_mark_number (bit_and w 0x1F) ≡ false = ap (λ n. is_mark_number (bit_and n 0x1F)) e ∙ word_mark false u p.shown ∙ p.unmarked in
    last_of _ _ _ mark

pub unchanged_if : (b : Bool) (x y : Item) → b ≡ false → (if b then y else x) ≡ x
unchanged_if true x y e = cc
unchanged_if false x y e = refl

class_kept : (font : FaceParts) (u : ℕ) (x : Item) → Chosen font u x → item_with_fallback_class x ≡ x
class_kept font u x g = unchanged_if (is_nonspacing_mark x) x (record x { class = fallback_class x.number x.class }) (not_nonspacing font u x.unicode_props g.plain g.word)

class_chosen : (font : FaceParts) (u : ℕ) (x : Item) → Chosen font u x → Chosen font u (item_with_fallback_class x)
class_chosen font u x g = subst (Chosen font u) (sym (class_kept font u x g)) g

-- ---- each character as its glyph

as_number : (g : ℕ) → nat_le g 65535 ≡ true → glyph_or_missing g ≡ g
as_number g e = rw e refl

as_shown : (font : FaceParts) (u : ℕ) (x : Item) → Chosen font u x → Shown font u (as_glyph x)
as_shown font u x g = record { number = ap glyph_or_missing g.index ∙ as_number (glyph_of font u) (its_number font u g.plain); plain = g.plain; word = g.word }

-- items that are mapped in place
pub mapped_stand : (P Q : ℕ → Item → Type 0) (ps : List Position) (k : Item → Item) → ((u : ℕ) (x : Item) → P u x → Q u (k x)) → (us : List ℕ) (v : View) → Placed P ps us v → Placed Q ps us (record v { items = map k v.items })
mapped_stand P Q ps k h us v a =
    let s = a.stands in
    record { stands = record { items = are_mapped P Q k h us v.items s.items; line = s.line; scratch_flags = s.scratch_flags; room = s.room }; positions = a.positions }

pub taken_leads : (p : Shaping) (ps : List Position) (us : List ℕ) → Leads (Placed (Chosen p.font) ps us) (Placed (Shown p.font) ps us) (glyphs_taken p)
unfolding glyphs_taken
taken_leads p ps us =
    let C = Placed (Chosen p.font) ps us in
    let S = Placed (Shown p.font) ps us in
    both_lead C C S (only_if p.choices.fallback_mark_positioning (always with_fallback_classes)) (always with_glyphs ∷ [])
    (either C p.choices.fallback_mark_positioning (always with_fallback_classes) (always_leads C C with_fallback_classes (λ v a. mapped_stand (Chosen p.font) (Chosen p.font) ps item_with_fallback_class (class_chosen p.font) us v a)))
    (last_leads C S (always with_glyphs) (always_leads C S with_glyphs (λ v a. mapped_stand (Chosen p.font) (Shown p.font) ps as_glyph (as_shown p.font) us v a)))

-- ---- classes

begun_shown : (font : FaceParts) (u : ℕ) (x : Item) → Shown font u x → Shown font u (item_with_font_class font x)
begun_shown font u x s = record { number = s.number; plain = s.plain; word = s.word }

abbrev class_if : Bool → ℕ
class_if b = if b then 8 else 2

base_if : (b c : Bool) → b ≡ false → class_if (b && c) ≡ 2
base_if true c e = cc
base_if false c e = refl

as_based : (font : FaceParts) (u : ℕ) (x : Item) → Shown font u x → Based font u (item_with_synthesized_class x)
as_based font u x s = record { number = s.number; plain = s.plain; word = s.word; base = base_if (is_nonspacing_mark x) _ (not_nonspacing font u x.unicode_props s.plain s.word) }

-- ---- no lookups

-- a stage that leaves the view
abbrev Stays : Stage → Type 0
Stays stage = (v : View) → (r : Read) × ((stage v ≡ Ok r) × (r.view ≡ v))

idle : Stays as_it_is
idle v = (with_events [] v, (refl, refl))

both_stay : (a b : Stage) → Stays a → Stays b → Stays (λ v. and_then (a v) b)
both_stay a b f g v =
    let (r, (e, k)) = f v in
    let (s, (d, l)) = g r.view in
    (then_read r s, (ap (λ q. and_then q b) e ∙ ap (then_reading r) d, l ∙ k))

no_lookups : (font : FaceParts) (maps : List lookup_map_t) → Stays (lookups_stage font [] maps)
no_lookups font [] = idle
no_lookups font (m ∷ maps) = both_stay (lookup_stage font [] None m) (lookups_stage font [] maps) idle (no_lookups font maps)

own_stays : (stage : Stage) → Stays stage → Stays (with_own_random stage)
own_stays stage f v =
    let (r, (e, k)) = f (record v { random = 1 }) in
    let back : View → Read = λ w. with_events [] (record w { random = v.random }) in
    (then_read r (back r.view), (ap (λ q. and_then q (always back)) e, ap (λ (w : View). record w { random = v.random }) k))

no_pause : (pauses : Pauses) → ((n : ℕ) → Stays (pauses n)) → (o : Option ℕ) → Stays (pause_stage pauses o)
no_pause pauses h None = idle
no_pause pauses h (Some n) = own_stays (pauses n) (h n)

no_stages : (font : FaceParts) (t : TableStages) (pauses : Pauses) → ((n : ℕ) → Stays (pauses n)) → (i : ℕ) (ss : List StageMap) → Stays (table_stages font [] t pauses i ss)
no_stages font t pauses h i [] = idle
no_stages font t pauses h i (s ∷ ss) =
    both_stay (table_stage font [] t pauses i s.pause) (table_stages font [] t pauses (i + 1) ss)
    (both_stay (lookups_stage font [] (lookups_of_stage t i)) (pause_stage pauses s.pause) (no_lookups font (lookups_of_stage t i)) (no_pause pauses h s.pause)) (no_stages font t pauses h (i + 1) ss)

plain_pauses : (p : Shaping) → IsPlainShaping p → (n : ℕ) → Stays (pauses_of p n)
plain_pauses p plain n =
    let P : ShaperRules → Type 0 = λ r. Stays (r.pauses p.font p.tables p.spans p.settings n) in
    subst P (sym plain.rules) idle

substituted_stays : (p : Shaping) → IsPlainShaping p → Stays (substitution_stages p.font p.map (pauses_of p))
substituted_stays p plain =
    let t = p.map.tables.gsub in
    let P : Option SubstitutionTable → Type 0 = λ o. Stays (with_own_random (table_stages p.font (option_map_or (λ (s : SubstitutionTable). s.lookups) o []) t (pauses_of p) 0 t.stages)) in
    subst P (sym plain.gsub) (own_stays (table_stages p.font [] t (pauses_of p) 0 t.stages) (no_stages p.font t (pauses_of p) (plain_pauses p plain) 0 t.stages))

stays_leads : (A : View → Type 0) (stage : Stage) → Stays stage → Leads A A stage
stays_leads A stage f v a = let (r, (e, k)) = f v in (r, (e, subst A (sym k) a))

pub substituted_leads : (p : Shaping) (ps : List Position) (us : List ℕ) → IsPlainShaping p → Leads (Placed (Shown p.font) ps us) (Placed (Based p.font) ps us) (glyphs_substituted p)
unfolding glyphs_substituted
substituted_leads p ps us plain =
    let S = Placed (Shown p.font) ps us in
    let B = Placed (Based p.font) ps us in
    let lookups = substitution_stages p.font p.map (pauses_of p) in
    both_lead S S B (always (with_font_classes p.font)) (only_if p.choices.fallback_glyph_classes (always with_synthesized_classes) ∷ lookups ∷ [])
    (always_leads S S (with_font_classes p.font) (λ v a. mapped_stand (Shown p.font) (Shown p.font) ps (item_with_font_class p.font) (begun_shown p.font) us v a))
    (both_lead S B B (only_if p.choices.fallback_glyph_classes (always with_synthesized_classes)) (lookups ∷ [])
    (acted S B p.choices.fallback_glyph_classes (always with_synthesized_classes) plain.synthesized (always_leads S B with_synthesized_classes (λ v a. mapped_stand (Shown p.font) (Based p.font) ps item_with_synthesized_class (as_based p.font) us v a)))
    (last_leads B B lookups (stays_leads B lookups (substituted_stays p plain))))
