-- The indices and classes of a font that was read stay within their lists.
use Rattle.std.proofs.Common.{◌≡◌, ℕ, Bool, true, false, List, length, Option, Some, None, Result, Ok, Err, codes, pos, refl, subst}
use Rattle.std.specs.Prelude.{⊤, ◌&&◌, nat_lt, nat_le}
use Rattle.std.specs.List.{list_all}
use Rattle.std.specs.Option.{option_map_or}
use Rattle.serde_json.specs.Data.{Data}
use Rattle.serde_json.specs.Find.{get}
use Rattle.shell_json.specs.declared.fault.JsonFault.{JsonFault}
use Rattle.shell_json.specs.declared.fault.JsonFault.TheVariants.{OutOfRange}
use Rattle.shell_json.specs.Cell.{and_then, u16_value, i16_value}
use Rattle.shell_json.specs.Objects.{read_or, optional_value}
use Rattle.shell_json.specs.Items.{list_at}
use Rattle.shell_face_json.specs.Lists.{number_below, is_object, lookup_in_table, rows_at, rows_in_turn, count_at, within}
use Rattle.shell_face_json.specs.Glyphs.{coverage, class_definition, classes_in, glyph_limit, subtables_of}
use Rattle.shell_face_json.specs.Contexts.{context}
use Rattle.shell_face_json.specs.Positions.{single_pos, pair_pos, cursive_pos}
use Rattle.shell_face_json.specs.Marks.{mark_base, mark_lig}
use Rattle.shell_face_json.specs.Scripts.{layout_of}
use Rattle.shell_face_json.specs.declared.position_table.PositioningType.{PositioningType}
use Rattle.shell_face_json.specs.declared.position_table.PositioningType.TheVariants.{Single, Pair, Cursive, MarkToBase, MarkToLigature, MarkToMark, Context, ChainContext}
use Rattle.shell_face_json.specs.SubstitutionTable.{substitution_type_in, substitutions, substitution_lookup, substitution_table}
use Rattle.shell_face_json.specs.PositionTable.{positioning_type_in, positionings, positioning_lookup, positioning_table}
use Rattle.shell_face_json.specs.Face.{few_sets, glyph_definition, glyph_definition_in, no_definition, character_keys, advance_keys, drawing_keys, layout_keys, face_keys}
use Rattle.shell_face_json.proofs.Inverted.{through, below_limit, list_length, all_in_turn, of_optional}
use Rattle.shell_face_json.proofs.LayoutFits.{layout_within}
use Rattle.shell_face_json.proofs.ClassesFit.{pair_within, mark_base_within, mark_lig_within}
use Rattle.layout_face.specs.declared.substitution.SubstLookup.{SubstLookup}
use Rattle.layout_face.specs.declared.substitution.SubstitutionTable.{SubstitutionTable}
use Rattle.layout_face.specs.declared.positioning.PositioningSubtables.{PositioningSubtables}
use Rattle.layout_face.specs.declared.positioning.PositioningSubtables.TheVariants as Subtables
use Rattle.layout_face.specs.declared.positioning.PositioningLookup.{PositioningLookup}
use Rattle.layout_face.specs.declared.positioning.PositioningTable.{PositioningTable}
use Rattle.layout_face.specs.declared.parts.GlyphDefinition.{GlyphDefinition}
use Rattle.layout_face.specs.declared.parts.FaceParts.{FaceParts}
use Rattle.layout_tables.specs.Fits.{marks_fit_bases, marks_fit_ligatures}
use Rattle.layout_tables.specs.Indices as lists
use Rattle.layout_face.specs.LookupIndices.{set_fits, pair_classes_fit, positioning_classes_fit, substitution_fits, substitution_lookup_fits, substitution_nested_fit, positioning_lookup_fits, positioning_nested_fit, positioning_fits}
use Rattle.layout_face.specs.Indices.{set_limit, indices_fit}

-- ---- glyph definitions

few : (sets xs : List (List ℕ)) (b : Bool) → nat_le (length sets) set_limit ≡ b → few_sets sets ≡ Ok xs → nat_le (length xs) set_limit ≡ true
few sets xs true t e = let found : few_sets sets ≡ Ok sets = rw t refl in let same : sets ≡ xs = cc in subst (λ x. nat_le (length x) set_limit ≡ true) same t
few sets xs false t e = let found : few_sets sets ≡ Err OutOfRange = rw t refl in absurd (cc)

definition_within : (d : Data) (g : GlyphDefinition) → glyph_definition d ≡ Ok g → nat_le (length g.sets) set_limit ≡ true
definition_within d g e =
    let classes = optional_value (class_definition glyph_limit) (get (codes "classes") d) in
    let attach = rows_at (codes "attach") (classes_in glyph_limit) d in
    let listed = rows_at (codes "sets") (rows_in_turn (coverage glyph_limit)) d in
    let whole = through (is_object d) _ g e in
    let c = through classes _ g whole.2 in
    let a = through attach _ g c.2 in
    let s = through (and_then listed few_sets) _ g a.2 in
    let many = through listed few_sets s.0 s.1 in
    let same : s.0 ≡ g.sets = cc in
    subst (λ x. nat_le (length x) set_limit ≡ true) same (few many.0 s.0 (nat_le (length many.0) set_limit) refl many.2)

definitions_within : (o : Option Data) (g : GlyphDefinition) → glyph_definition_in o ≡ Ok g → nat_le (length g.sets) set_limit ≡ true
definitions_within None g e = let none : no_definition ≡ g = cc in subst (λ x. nat_le (length x.sets) set_limit ≡ true) none refl
definitions_within (Some d) g e = definition_within d g e

-- ---- lookups

all_subtables : {A : Type 0} (read : Data → Result A JsonFault) (P : A → Bool) → ((d : Data) (a : A) → read d ≡ Ok a → P a ≡ true) → (d : Data) (s : List A) → subtables_of read d ≡ Ok s → list_all P s ≡ true
all_subtables read P each d s e = let step = through (list_at (codes "subtables") d) (rows_in_turn read) s e in all_in_turn read P each step.0 s step.2

classes_within : (t : PositioningType) (d : Data) (s : PositioningSubtables) → positionings t d ≡ Ok s → positioning_classes_fit s ≡ true
classes_within Single d s e =
    let step = through (subtables_of single_pos d) _ s e in
    let same : Subtables.Single step.0 ≡ s = cc in
    subst (λ x. positioning_classes_fit x ≡ true) same refl
classes_within Pair d s e =
    let step = through (subtables_of (pair_pos glyph_limit) d) _ s e in
    let same : Subtables.Pair step.0 ≡ s = cc in
    subst (λ x. positioning_classes_fit x ≡ true) same (all_subtables (pair_pos glyph_limit) (λ p. pair_classes_fit p) (pair_within glyph_limit) d step.0 step.1)
classes_within Cursive d s e =
    let step = through (subtables_of cursive_pos d) _ s e in
    let same : Subtables.Cursive step.0 ≡ s = cc in
    subst (λ x. positioning_classes_fit x ≡ true) same refl
classes_within MarkToBase d s e =
    let step = through (subtables_of (mark_base glyph_limit) d) _ s e in
    let same : Subtables.MarkToBase step.0 ≡ s = cc in
    subst (λ x. positioning_classes_fit x ≡ true) same (all_subtables (mark_base glyph_limit) (λ p. marks_fit_bases p.marks p.bases) (mark_base_within glyph_limit) d step.0 step.1)
classes_within MarkToLigature d s e =
    let step = through (subtables_of (mark_lig glyph_limit) d) _ s e in
    let same : Subtables.MarkToLigature step.0 ≡ s = cc in
    subst (λ x. positioning_classes_fit x ≡ true) same (all_subtables (mark_lig glyph_limit) (λ p. marks_fit_ligatures p.marks p.ligatures) (mark_lig_within glyph_limit) d step.0 step.1)
classes_within MarkToMark d s e =
    let step = through (subtables_of (mark_base glyph_limit) d) _ s e in
    let same : Subtables.MarkToMark step.0 ≡ s = cc in
    subst (λ x. positioning_classes_fit x ≡ true) same (all_subtables (mark_base glyph_limit) (λ p. marks_fit_bases p.marks p.bases) (mark_base_within glyph_limit) d step.0 step.1)
classes_within Context d s e =
    let step = through (subtables_of (context glyph_limit) d) _ s e in
    let same : Subtables.Context step.0 ≡ s = cc in
    subst (λ x. positioning_classes_fit x ≡ true) same refl
classes_within ChainContext d s e =
    let step = through (subtables_of (context glyph_limit) d) _ s e in
    let same : Subtables.ChainContext step.0 ≡ s = cc in
    subst (λ x. positioning_classes_fit x ≡ true) same refl

-- ---- lookups that name others

is_within : {A : Type 0} (P Q : A → Bool) (b a : A) (t : Bool) → Q b ≡ t → P b ≡ true → within (Q b) b ≡ Ok a → (P a && Q a) ≡ true
is_within P Q b a true t p e =
    let found : within (Q b) b ≡ Ok b = rw t refl in
    let same : b ≡ a = cc in
    subst (λ x. (P x && Q x) ≡ true) same (rw (p, t) refl)
is_within P Q b a false t p e = let found : within (Q b) b ≡ Err OutOfRange = rw t refl in absurd (cc)

both_within : {A : Type 0} (read : Data → Result A JsonFault) (P Q : A → Bool) → ((d : Data) (a : A) → read d ≡ Ok a → P a ≡ true) → (d : Data) (a : A) → lookup_in_table Q read d ≡ Ok a → (P a && Q a) ≡ true
both_within read P Q each d a e =
    let step = through (read d) (λ x. within (Q x) x) a e in
    is_within P Q step.0 a (Q step.0) refl (each d step.0 step.1) step.2

module _ (sets : ℕ) where
  set_within : (o : Option Data) (set : Option ℕ) → optional_value (number_below sets) o ≡ Ok set → set_fits sets set ≡ true
  set_within o set e = of_optional (number_below sets) (λ i. nat_lt i sets) (below_limit sets) o set e

  substitution_within : (d : Data) (l : SubstLookup) → substitution_lookup sets d ≡ Ok l → set_fits sets l.mark_filtering_set ≡ true
  substitution_within d l e =
      let flags = read_or 0 u16_value (get (codes "flags") d) in
      let named = optional_value (number_below sets) (get (codes "set") d) in
      let type_of = substitution_type_in (get (codes "type") d) in
      let whole = through (is_object d) _ l e in
      let f = through flags _ l whole.2 in
      let s = through named _ l f.2 in
      let t = through type_of _ l s.2 in
      let x = through (substitutions t.0 d) _ l t.2 in
      let same : s.0 ≡ l.mark_filtering_set = cc in
      subst (λ i. set_fits sets i ≡ true) same (set_within (get (codes "set") d) s.0 s.1)

  positioning_within : (d : Data) (l : PositioningLookup) → positioning_lookup sets d ≡ Ok l → (set_fits sets l.mark_filtering_set && positioning_classes_fit l.subtables) ≡ true
  positioning_within d l e =
      let flags = read_or 0 u16_value (get (codes "flags") d) in
      let named = optional_value (number_below sets) (get (codes "set") d) in
      let type_of = positioning_type_in (get (codes "type") d) in
      let whole = through (is_object d) _ l e in
      let f = through flags _ l whole.2 in
      let s = through named _ l f.2 in
      let t = through type_of _ l s.2 in
      let x = through (positionings t.0 d) _ l t.2 in
      let set = set_within (get (codes "set") d) s.0 s.1 in
      let classes = classes_within t.0 d x.0 x.1 in
      let both_fit : (set_fits sets s.0 && positioning_classes_fit x.0) ≡ true = rw (set, classes) refl in
      let same : ◌≡◌ {A = PositioningLookup} (record { flags = f.0; mark_filtering_set = s.0; subtables = x.0 }) l = cc in
      subst (λ y. (set_fits sets y.mark_filtering_set && positioning_classes_fit y.subtables) ≡ true) same both_fit

  -- ---- tables

  gsub_within : (d : Data) (t : SubstitutionTable) → substitution_table sets d ≡ Ok t → substitution_fits sets t ≡ true
  gsub_within d t e =
      let named = count_at (codes "lookups") d in
      let read = lookup_in_table (λ x. substitution_nested_fit named x.subtables) (substitution_lookup sets) in
      let lookups = rows_at (codes "lookups") (rows_in_turn read) d in
      let whole = through (is_object d) _ t e in
      let i = through (layout_of d) _ t whole.2 in
      let l = through lookups _ t i.2 in
      let listed = through (list_at (codes "lookups") d) (rows_in_turn read) l.0 l.1 in
      let count : named ≡ length l.0 = list_length read (get (codes "lookups") d) l.0 l.1 in
      let inner = subst (λ n. lists.indices_fit n i.0 ≡ true) count (layout_within d i.0 i.1) in
      let each = both_within (substitution_lookup sets) (λ x. set_fits sets x.mark_filtering_set) (λ x. substitution_nested_fit named x.subtables) substitution_within in
      let all = subst (λ n. list_all (λ x. substitution_lookup_fits sets n x) l.0 ≡ true) count (all_in_turn read (λ x. substitution_lookup_fits sets named x) each listed.0 l.0 listed.2) in
      let both_fit : substitution_fits sets (record { inner = i.0; lookups = l.0 }) ≡ true = rw (inner, all) refl in
      let same : ◌≡◌ {A = SubstitutionTable} (record { inner = i.0; lookups = l.0 }) t = cc in
      subst (λ x. substitution_fits sets x ≡ true) same both_fit

  gpos_within : (d : Data) (t : PositioningTable) → positioning_table sets d ≡ Ok t → positioning_fits sets t ≡ true
  gpos_within d t e =
      let named = count_at (codes "lookups") d in
      let read = lookup_in_table (λ x. positioning_nested_fit named x.subtables) (positioning_lookup sets) in
      let lookups = rows_at (codes "lookups") (rows_in_turn read) d in
      let whole = through (is_object d) _ t e in
      let i = through (layout_of d) _ t whole.2 in
      let l = through lookups _ t i.2 in
      let listed = through (list_at (codes "lookups") d) (rows_in_turn read) l.0 l.1 in
      let count : named ≡ length l.0 = list_length read (get (codes "lookups") d) l.0 l.1 in
      let inner = subst (λ n. lists.indices_fit n i.0 ≡ true) count (layout_within d i.0 i.1) in
      let each = both_within (positioning_lookup sets) (λ x. set_fits sets x.mark_filtering_set && positioning_classes_fit x.subtables) (λ x. positioning_nested_fit named x.subtables) positioning_within in
      let all = subst (λ n. list_all (λ x. positioning_lookup_fits sets n x) l.0 ≡ true) count (all_in_turn read (λ x. positioning_lookup_fits sets named x) each listed.0 l.0 listed.2) in
      let both_fit : positioning_fits sets (record { inner = i.0; lookups = l.0 }) ≡ true = rw (inner, all) refl in
      let same : ◌≡◌ {A = PositioningTable} (record { inner = i.0; lookups = l.0 }) t = cc in
      subst (λ x. positioning_fits sets x ≡ true) same both_fit

-- ---- the font

abbrev TablesFit : GlyphDefinition → Option SubstitutionTable → Option PositioningTable → Type 0
TablesFit g gsub gpos =
    (nat_le (length g.sets) set_limit ≡ true) × (option_map_or (λ t. substitution_fits (length g.sets) t) gsub true ≡ true)
    × (option_map_or (λ t. positioning_fits (length g.sets) t) gpos true ≡ true)

-- the tables of a font without a fault
abbrev AllFit : Result FaceParts JsonFault → Type 0
AllFit (Ok p) = TablesFit p.gdef p.gsub p.gpos
AllFit (Err f) = ⊤

tables_fit : (d : Data) (l : GlyphDefinition × (Option SubstitutionTable × Option PositioningTable)) → layout_keys d ≡ Ok l → TablesFit l.0 l.1.0 l.1.1
tables_fit d l e =
    let g = through (glyph_definition_in (get (codes "gdef") d)) _ l e in
    let s = through (optional_value (substitution_table (length g.0.sets)) (get (codes "gsub") d)) _ l g.2 in
    let p = through (optional_value (positioning_table (length g.0.sets)) (get (codes "gpos") d)) _ l s.2 in
    let sets = definitions_within (get (codes "gdef") d) g.0 g.1 in
    let gsub = of_optional (substitution_table (length g.0.sets)) (λ t. substitution_fits (length g.0.sets) t) (gsub_within (length g.0.sets)) (get (codes "gsub") d) s.0 s.1 in
    let gpos = of_optional (positioning_table (length g.0.sets)) (λ t. positioning_fits (length g.0.sets) t) (gpos_within (length g.0.sets)) (get (codes "gpos") d) p.0 p.1 in
    let same : (g.0, (s.0, p.0)) ≡ l = cc in
    subst (λ x. TablesFit x.0 x.1.0 x.1.1) same (sets, gsub, gpos)

-- the font of keys that were read has indices within their lists
pub keys_fit : (d : Data) (p : FaceParts) → face_keys d ≡ Ok p → indices_fit p ≡ true
keys_fit d p e =
    let upem = through (read_or 0 u16_value (get (codes "upem") d)) _ p e in
    let ascender = through (read_or (pos 0) i16_value (get (codes "ascender") d)) _ p upem.2 in
    let characters = through (character_keys d) _ p ascender.2 in
    let advances = through (advance_keys d) _ p characters.2 in
    let drawing = through (drawing_keys d) _ p advances.2 in
    let layout = through (layout_keys d) _ p drawing.2 in
    let all : TablesFit p.gdef p.gsub p.gpos = subst AllFit layout.2 (tables_fit d layout.0 layout.1) in
    rw (all.0, all.1, all.2) refl
