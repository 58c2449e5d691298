-- What was found of a font's keys is what the font has.
use Rattle.std.proofs.Common.{◌≡◌, ℕ, Bool, List, [], Option, None, Result, Ok, option_map, refl, sym, ap, ◌∙◌}
use Rattle.std.specs.Prelude.{unwrap_or}
use Rattle.std.specs.declared.cmp.Ordering.{Ordering}
use Rattle.serde_json.specs.Data.{Data, no_items, Members, object}
use Rattle.serde_json.specs.Find.{get, get_member}
use Rattle.serde_json.specs.View.{view}
use Rattle.serde_json.specs.declared.value.Value.{Value}
use Rattle.shell_json.specs.TextValues.{HasMember}
use Rattle.shell_json.specs.declared.fault.JsonFault.{JsonFault}
use Rattle.shell_json.specs.Cell.{and_then}
use Rattle.shell_json.specs.Items.{list_of}
use Rattle.shell_face_json.specs.Lists.{is_object, lookups_of, rows_at}
use Rattle.shell_face_json.specs.Sorted.{rows_by_key}
use Rattle.shell_face_json.specs.Scripts.{layout_of}
use Rattle.shell_face_json.specs.SubstitutionTable.{substitution_lookup, substitution_table}
use Rattle.shell_face_json.specs.PositionTable.{positioning_lookup, positioning_table}
use Rattle.shell_face_json.proofs.OfText.Tables.{list_found, whole_found}
use Rattle.layout_tables.specs.Layout.{LayoutLists}
use Rattle.layout_face.specs.LookupIndices.{positioning_nested_fit, substitution_nested_fit}
use Rattle.layout_face.specs.declared.substitution.SubstLookup.{SubstLookup}
use Rattle.layout_face.specs.declared.positioning.PositioningLookup.{PositioningLookup}

no_rows : {R K : Type 0} (order : K → K → Ordering) (key : R → K) (read : Data → Result R JsonFault) → rows_by_key order key read None no_items ≡ Ok []
unfolding rows_by_key
no_rows order key read = refl

-- rows by their keys
pub rows_found : {R K : Type 0} (order : K → K → Ordering) (key : R → K) (part : ℕ → Data → Result R JsonFault) (limit limit' : ℕ) (name name' : List ℕ) (ms : Members) (found : Option (List R)) (rows : List R)
    → limit ≡ limit' → name ≡ name' → rows ≡ unwrap_or found [] → HasMember (λ x rs. and_then (list_of x) (rows_by_key order key (part limit) None) ≡ Ok rs) name ms found
    → rows_at name' (rows_by_key order key (part limit') None) (object ms) ≡ Ok rows
rows_found order key part limit limit' name name' ms found rows l n r h =
    ap (λ k. rows_at name' (rows_by_key order key (part k) None) (object ms)) (sym l) ∙ ap (λ k. rows_at k (rows_by_key order key (part limit) None) (object ms)) (sym n)
    ∙ list_found (rows_by_key order key (part limit) None) (get_member name ms) found (no_rows order key (part limit)) h ∙ ap (λ xs. Ok xs) (sym r)

-- a value that was taken whole
pub value_found : (name name' : List ℕ) (ms : Members) (found : Option Value) → name ≡ name' → HasMember (λ x v. view v ≡ x) name ms found → option_map view found ≡ get name' (object ms)
value_found name name' ms found n h = whole_found (get_member name ms) found h ∙ ap (λ k. get k (object ms)) n

-- ---- tables

abbrev pub IsTable : {L : Type 0} → (ℕ → L → Bool) → (Data → Result L JsonFault) → Data → LayoutLists × List L → Type 0
IsTable fits read d t = (is_object d ≡ Ok tt) × (layout_of d ≡ Ok t.0) × (lookups_of fits read d ≡ Ok t.1)

abbrev pub substitution_names : ℕ → SubstLookup → Bool
substitution_names count lookup = substitution_nested_fit count lookup.subtables

abbrev pub positioning_names : ℕ → PositioningLookup → Bool
positioning_names count lookup = positioning_nested_fit count lookup.subtables

-- a table by its scripts, features and lookups
pub substitution_read : (sets : ℕ) (d : Data) (t : LayoutLists × List SubstLookup) → IsTable substitution_names (substitution_lookup sets) d t
    → substitution_table sets d ≡ Ok (record { inner = t.0; lookups = t.1 })
substitution_read sets d t e =
    ap (λ o. and_then o (λ _. and_then (layout_of d) (λ inner. and_then (lookups_of substitution_names (substitution_lookup sets) d) (λ lookups. Ok (record { inner = inner; lookups = lookups }))))) e.0
    ∙ ap (λ o. and_then o (λ inner. and_then (lookups_of substitution_names (substitution_lookup sets) d) (λ lookups. Ok (record { inner = inner; lookups = lookups })))) e.1
    ∙ ap (λ o. and_then o (λ lookups. Ok (record { inner = t.0; lookups = lookups }))) e.2

pub positioning_read : (sets : ℕ) (d : Data) (t : LayoutLists × List PositioningLookup) → IsTable positioning_names (positioning_lookup sets) d t
    → positioning_table sets d ≡ Ok (record { inner = t.0; lookups = t.1 })
positioning_read sets d t e =
    ap (λ o. and_then o (λ _. and_then (layout_of d) (λ inner. and_then (lookups_of positioning_names (positioning_lookup sets) d) (λ lookups. Ok (record { inner = inner; lookups = lookups }))))) e.0
    ∙ ap (λ o. and_then o (λ inner. and_then (lookups_of positioning_names (positioning_lookup sets) d) (λ lookups. Ok (record { inner = inner; lookups = lookups })))) e.1
    ∙ ap (λ o. and_then o (λ lookups. Ok (record { inner = t.0; lookups = lookups }))) e.2
