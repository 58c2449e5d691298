-- What was found of the keys of `gdef` is what the font says of glyphs.
use Rattle.std.proofs.Common.{◌≡◌, ℕ, List, [], codes, Option, Some, None, Result, Ok, Err, refl, sym, ap, ◌∙◌, subst}
use Rattle.std.specs.Prelude.{unwrap_or}
use Rattle.serde_json.specs.Data.{Data, Items, no_items, Members, object}
use Rattle.serde_json.specs.Find.{get, get_member}
use Rattle.shell_json.specs.TextValues.{IsFound, HasMember}
use Rattle.shell_json.specs.declared.fault.JsonFault.{JsonFault}
use Rattle.shell_json.specs.Cell.{and_then}
use Rattle.shell_json.specs.Objects.{optional_value}
use Rattle.shell_json.specs.Items.{list_of, list_or_none}
use Rattle.shell_face_json.specs.Lists.{number_below, rows_in_turn}
use Rattle.shell_face_json.specs.Row.{only}
use Rattle.shell_face_json.specs.Contexts.{no_classes}
use Rattle.shell_face_json.specs.Face.{few_sets, glyph_definition, glyph_definition_in, no_definition}
use Rattle.shell_face_json.specs.Glyphs.{class_definition, classes_in, coverage, glyph_limit, glyph_rows}
use Rattle.shell_face_json.proofs.OfText.Tables.{list_found}
use Rattle.layout_face.specs.declared.parts.GlyphDefinition.{GlyphDefinition}
use Rattle.layout_common.specs.declared.class_definition.ClassDefinition.{ClassDefinition}
use Rattle.layout_common.specs.declared.glyph_row.GlyphRow.{GlyphRow}

abbrev of_rows : List (GlyphRow ℕ) → Result ClassDefinition JsonFault
of_rows rows = Ok (record { rows = rows })

rows_of_list : (o : Result Items JsonFault) (read : Items → Result (List (GlyphRow ℕ)) JsonFault) (rows : List (GlyphRow ℕ)) → and_then o read ≡ Ok rows → and_then o (λ ds. and_then (read ds) of_rows) ≡ of_rows rows
rows_of_list (Ok ds) read rows e = ap (λ x. and_then x of_rows) e
rows_of_list (Err f) read rows e = absurd (cc)

-- the rows of a list are its classes
pub classes_taken : (limit : ℕ) (d : Data) (rows : List (GlyphRow ℕ)) → limit ≡ glyph_limit → and_then (list_of d) (glyph_rows (only (number_below limit))) ≡ Ok rows → class_definition glyph_limit d ≡ of_rows rows
classes_taken limit d rows l e = ap (λ n. class_definition n d) (sym l) ∙ rows_of_list (list_of d) (glyph_rows (only (number_below limit))) rows e

there_found : {A : Type 0} (read : Data → Result A JsonFault) (o : Option Data) (found : Option A) → IsFound (λ d a. read d ≡ Ok a) o found → optional_value read o ≡ Ok found
there_found read None found e = ap (λ f. Ok f) (sym e)
there_found read (Some d) None h = absurd h
there_found read (Some d) (Some a) e = ap (λ x. and_then x (λ y. Ok (Some y))) e

no_class_rows : (limit : ℕ) → classes_in limit no_items ≡ Ok no_classes
unfolding Rattle.shell_face_json.specs.Sorted.rows_by_key
no_class_rows limit = refl

classes_found : (limit : ℕ) (o : Option Data) (found : Option ClassDefinition) → IsFound (λ d c. class_definition limit d ≡ Ok c) o found
    → and_then (list_or_none o) (classes_in limit) ≡ Ok (unwrap_or found no_classes)
classes_found limit None found e = no_class_rows limit ∙ ap (λ f. Ok (unwrap_or f no_classes)) (sym e)
classes_found limit (Some d) None h = absurd h
classes_found limit (Some d) (Some c) e = e

abbrev joined : Result (Option ClassDefinition) JsonFault → Result ClassDefinition JsonFault → Result (List (List ℕ)) JsonFault → Result GlyphDefinition JsonFault
joined a b c =
    and_then a (λ classes.
    and_then b (λ attach.
    and_then (and_then c few_sets) (λ sets.
    Ok (record { classes = classes; attach = attach; sets = sets }))))

-- the definition by what was found of its keys
pub definition_taken : (limit : ℕ) (n0 n1 n2 : List ℕ) (d : Data) (ms : Members) (classes attach : Option ClassDefinition) (found : Option (List (List ℕ))) (attached : ClassDefinition) (listed few : List (List ℕ))
    → (n0 ≡ codes "classes") × (n1 ≡ codes "attach") × (n2 ≡ codes "sets") → limit ≡ glyph_limit → attached ≡ unwrap_or attach no_classes → listed ≡ unwrap_or found [] → few_sets listed ≡ Ok few → d ≡ object ms
    → HasMember (λ x c. class_definition glyph_limit x ≡ Ok c) n0 ms classes
    × (HasMember (λ x c. class_definition glyph_limit x ≡ Ok c) n1 ms attach × HasMember (λ x a. and_then (list_of x) (rows_in_turn (coverage limit)) ≡ Ok a) n2 ms found)
    → glyph_definition d ≡ Ok (record { classes = classes; attach = attached; sets = few })
definition_taken limit n0 n1 n2 d ms classes attach found attached listed few names l is was fit e h =
    let first = subst (λ n. HasMember (λ x c. class_definition glyph_limit x ≡ Ok c) n ms classes) names.0 h.0 in
    let second = subst (λ n. HasMember (λ x c. class_definition glyph_limit x ≡ Ok c) n ms attach) names.1 h.1.0 in
    let named = subst (λ n. HasMember (λ x a. and_then (list_of x) (rows_in_turn (coverage limit)) ≡ Ok a) n ms found) names.2 h.1.1 in
    let third = subst (λ m. HasMember (λ x a. and_then (list_of x) (rows_in_turn (coverage m)) ≡ Ok a) (codes "sets") ms found) l named in
    let a = there_found (class_definition glyph_limit) (get_member (codes "classes") ms) classes first in
    let b = classes_found glyph_limit (get_member (codes "attach") ms) attach second ∙ ap (λ c. Ok c) (sym is) in
    let c = list_found (rows_in_turn (coverage glyph_limit)) (get_member (codes "sets") ms) found refl third ∙ ap (λ xs. Ok xs) (sym was) in
    let r0 = optional_value (class_definition glyph_limit) (get_member (codes "classes") ms) in
    let r1 = and_then (list_or_none (get_member (codes "attach") ms)) (classes_in glyph_limit) in
    let r2 = and_then (list_or_none (get_member (codes "sets") ms)) (rows_in_turn (coverage glyph_limit)) in
    ap glyph_definition e ∙ ap (λ x. joined x r1 r2) a ∙ ap (λ x. joined (Ok classes) x r2) b ∙ ap (λ x. joined (Ok classes) (Ok attached) x) c
    ∙ ap (λ x. and_then x (λ sets. Ok (record { classes = classes; attach = attached; sets = sets }))) fit

-- what was found of the key of a font
definition_in : (o : Option Data) (found : Option GlyphDefinition) → IsFound (λ d g. glyph_definition d ≡ Ok g) o found → glyph_definition_in o ≡ Ok (unwrap_or found no_definition)
definition_in None found e = ap (λ f. Ok (unwrap_or f no_definition)) (sym e)
definition_in (Some d) None h = absurd h
definition_in (Some d) (Some g) e = e

pub definition_found : (name : List ℕ) (ms : Members) (found : Option GlyphDefinition) (definition : GlyphDefinition) → name ≡ codes "gdef" → definition ≡ unwrap_or found no_definition
    → HasMember (λ x g. glyph_definition x ≡ Ok g) name ms found → glyph_definition_in (get (codes "gdef") (object ms)) ≡ Ok definition
definition_found name ms found definition n is h =
    ap (λ k. glyph_definition_in (get k (object ms))) (sym n) ∙ definition_in (get_member name ms) found h ∙ ap (λ g. Ok g) (sym is)
