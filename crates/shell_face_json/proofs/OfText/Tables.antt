-- What was found of a table's keys is what the table has.
use Rattle.std.proofs.Common.{◌≡◌, ℕ, Bool, true, false, ◌&&◌, List, [], ◌∷◌, length, codes, Option, Some, None, Result, Ok, option_map, refl, sym, ap, ◌∙◌, subst}
use Rattle.std.specs.Prelude.{unwrap_or}
use Rattle.std.specs.List.{list_all}
use Rattle.std.specs.Option.{ok_or, option_map_or}
use Rattle.serde_json.specs.Data.{Data, Items, no_items, item, Members, object}
use Rattle.serde_json.specs.Find.{get, get_member, as_array}
use Rattle.serde_json.specs.View.{view, items_view}
use Rattle.serde_json.specs.declared.value.Value.{Value}
use Rattle.shell_json.specs.TextValues.{IsFound, HasMember}
use Rattle.shell_json.specs.declared.fault.JsonFault.{JsonFault}
use Rattle.shell_json.specs.declared.fault.JsonFault.TheVariants.{WrongShape}
use Rattle.shell_json.specs.Cell.{and_then}
use Rattle.shell_json.specs.Items.{list_at, list_of, list_or_none}
use Rattle.shell_json.specs.Rows.{after, ok_cons}
use Rattle.shell_face_json.specs.Lists.{item_count, count_at, count_of, is_object, lookup_in_table, lookups_of, rows_at, rows_in_turn, within}
use Rattle.shell_face_json.specs.Sorted.{rows_by_key}
use Rattle.shell_face_json.proofs.Split.{count_is_length}
use Rattle.shell_face_json.proofs.Inverted.{list_length, through}
use Rattle.shell_face_json.specs.Scripts.{layout_of, script, feature}
use Rattle.shell_face_json.specs.Text.Table.{layout_in}
use Rattle.layout_tables.specs.Layout.{LayoutLists, ScriptTable, FeatureTable}
use Rattle.std.specs.Ordering.{nat_cmp}
use Rattle.buffer_facts.proofs.Truth.{first_true as and_first, second_true as and_second}

-- a value that was taken whole
pub whole_found : (o : Option Data) (found : Option Value) → IsFound (λ d v. view v ≡ d) o found → option_map view found ≡ o
whole_found None found e = ap (option_map view) e
whole_found (Some d) None h = absurd h
whole_found (Some d) (Some v) e = ap (λ x. Some x) e

-- a list that was taken, which is empty where the key is missing
pub list_found : {A : Type 0} (read : Items → Result (List A) JsonFault) (o : Option Data) (found : Option (List A)) → read no_items ≡ Ok []
    → IsFound (λ d a. and_then (list_of d) read ≡ Ok a) o found → and_then (list_or_none o) read ≡ Ok (unwrap_or found [])
list_found read None found none e = none ∙ ap (λ f. Ok (unwrap_or f [])) (sym e)
list_found read (Some d) None none h = absurd h
list_found read (Some d) (Some a) none e = e

module _ {L : Type 0} (read : Data → Result L JsonFault) where
  pub table_found : (ms : Members) (scripts features : Option Value) (found : Option (List L)) (layout : LayoutLists)
      → HasMember (λ d v. view v ≡ d) (codes "scripts") ms scripts → HasMember (λ d v. view v ≡ d) (codes "features") ms features
      → HasMember (λ d a. and_then (list_of d) (rows_in_turn read) ≡ Ok a) (codes "lookups") ms found
      → layout_in (option_map view scripts) (option_map view features) (length (unwrap_or found [])) ≡ Ok layout
      → (layout_of (object ms) ≡ Ok layout) × (rows_at (codes "lookups") (rows_in_turn read) (object ms) ≡ Ok (unwrap_or found []))
  table_found ms scripts features found layout s f l e =
      let lookups = list_found (rows_in_turn read) (get_member (codes "lookups") ms) found refl l in
      let count = list_length read (get_member (codes "lookups") ms) (unwrap_or found []) lookups in
      let by_scripts = ap (λ x. layout_in x (get_member (codes "features") ms) (count_of (get_member (codes "lookups") ms))) (sym (whole_found (get_member (codes "scripts") ms) scripts s)) in
      let by_features = ap (λ x. layout_in (option_map view scripts) x (count_of (get_member (codes "lookups") ms))) (sym (whole_found (get_member (codes "features") ms) features f)) in
      (by_scripts ∙ by_features ∙ ap (layout_in (option_map view scripts) (option_map view features)) count ∙ e, lookups)

-- the same by the names and the limit that the keys were made with
pub table_taken : {L : Type 0} (part : ℕ → Data → Result L JsonFault) (limit limit' : ℕ) (n0 n1 n2 : List ℕ) (d : Data) (ms : Members) (scripts features : Option Value) (found : Option (List L)) (lookups : List L)
    (layout : LayoutLists) → (n0 ≡ codes "scripts") × (n1 ≡ codes "features") × (n2 ≡ codes "lookups") → limit ≡ limit' → lookups ≡ unwrap_or found [] → d ≡ object ms
    → HasMember (λ x v. view v ≡ x) n0 ms scripts × (HasMember (λ x v. view v ≡ x) n1 ms features × HasMember (λ x a. and_then (list_of x) (rows_in_turn (part limit)) ≡ Ok a) n2 ms found)
    → layout_in (option_map view scripts) (option_map view features) (length lookups) ≡ Ok layout
    → (is_object d ≡ Ok tt) × (layout_of d ≡ Ok layout) × (rows_at (codes "lookups") (rows_in_turn (part limit')) d ≡ Ok lookups)
table_taken part limit limit' n0 n1 n2 d ms scripts features found lookups layout names l r e h read =
    let s = subst (λ n. HasMember (λ x v. view v ≡ x) n ms scripts) names.0 h.0 in
    let f = subst (λ n. HasMember (λ x v. view v ≡ x) n ms features) names.1 h.1.0 in
    let named = subst (λ n. HasMember (λ x a. and_then (list_of x) (rows_in_turn (part limit)) ≡ Ok a) n ms found) names.2 h.1.1 in
    let k = subst (λ m. HasMember (λ x a. and_then (list_of x) (rows_in_turn (part m)) ≡ Ok a) (codes "lookups") ms found) l named in
    let got = table_found (part limit') ms scripts features found layout s f k (ap (λ x. layout_in (option_map view scripts) (option_map view features) (length x)) (sym r) ∙ read) in
    (ap is_object e, ap layout_of e ∙ got.0, ap (rows_at (codes "lookups") (rows_in_turn (part limit'))) e ∙ got.1 ∙ ap (λ xs. Ok xs) (sym r))

-- ---- lookups that name others

module _ {L : Type 0} (read : Data → Result L JsonFault) where
  -- lookups that were read, and of each of which a test holds
  all_within : (fits : L → Bool) (ds : Items) (xs : List L) → rows_in_turn read ds ≡ Ok xs → list_all fits xs ≡ true → rows_in_turn (lookup_in_table fits read) ds ≡ Ok xs
  all_within fits no_items xs e all = e
  all_within fits (item d ds) xs e all =
      let row = through (read d) _ xs e in
      let next = rows_in_turn (lookup_in_table fits read) ds in
      ok_cons row.0 (rows_in_turn read ds) xs (λ ys. list_all fits ys ≡ true → rows_in_turn (lookup_in_table fits read) (item d ds) ≡ Ok ys) row.2
      (λ ys was fit.
      ap (λ x. and_then (and_then x (λ a. within (fits a) a)) (λ r. after (r ∷ []) next)) row.1
      ∙ ap (λ b. and_then (within b row.0) (λ r. after (r ∷ []) next)) (and_first (fits row.0) (list_all fits ys) fit)
      ∙ ap (λ x. after (row.0 ∷ []) x) (all_within fits ds ys was (and_second (fits row.0) (list_all fits ys) fit))) all

  pub nested_taken : (fits : ℕ → L → Bool) (d : Data) (xs : List L) → rows_at (codes "lookups") (rows_in_turn read) d ≡ Ok xs → list_all (λ l. fits (length xs) l) xs ≡ true → lookups_of fits read d ≡ Ok xs
  nested_taken fits d xs e all =
      let step = through (list_at (codes "lookups") d) (rows_in_turn read) xs e in
      let count : count_at (codes "lookups") d ≡ length xs = list_length read (get (codes "lookups") d) xs e in
      ap (λ r. and_then r (rows_in_turn (lookup_in_table (fits (count_at (codes "lookups") d)) read))) step.1
      ∙ ap (λ n. rows_in_turn (lookup_in_table (fits n) read) step.0) count
      ∙ all_within (fits (length xs)) step.0 xs step.2 all

-- ---- scripts and features

counted_items : (o : Option Items) (vs : List Value) → ok_or o WrongShape ≡ Ok (items_view vs) → option_map_or item_count o 0 ≡ length vs
counted_items None vs e = absurd (cc)
counted_items (Some ds) vs e = let same : ds ≡ items_view vs = cc in ap item_count same ∙ count_is_length vs

counted_values : (o : Option Data) (vs : List Value) → list_or_none o ≡ Ok (items_view vs) → count_of o ≡ length vs
counted_values None [] e = refl
counted_values None (v ∷ vs) e = absurd (cc)
counted_values (Some d) vs e = counted_items (as_array d) vs e

abbrev joined : Result Items JsonFault → Result Items JsonFault → ℕ → ℕ → Result LayoutLists JsonFault
joined a b count n =
    and_then (and_then a (rows_by_key nat_cmp (λ s. s.tag.0) (script count) None)) (λ ss.
    and_then (and_then b (rows_in_turn (feature n))) (λ fs.
    Ok (record { scripts = ss; features = fs })))

pub layout_read : (s f : Option Data) (n : ℕ) (vs ws : List Value) (scripts : List ScriptTable) (features : List FeatureTable) → list_or_none s ≡ Ok (items_view vs) → list_or_none f ≡ Ok (items_view ws)
    → rows_by_key nat_cmp (λ x. x.tag.0) (script (length ws)) None (items_view vs) ≡ Ok scripts → rows_in_turn (feature n) (items_view ws) ≡ Ok features
    → layout_in s f n ≡ Ok (record { scripts = scripts; features = features })
layout_read s f n vs ws scripts features a b c e =
    ap (λ x. joined x (list_or_none f) (count_of f) n) a ∙ ap (λ x. joined (Ok (items_view vs)) x (count_of f) n) b ∙ ap (λ x. joined (Ok (items_view vs)) (Ok (items_view ws)) x n) (counted_values f ws b)
    ∙ ap (λ x. and_then x (λ ss. and_then (rows_in_turn (feature n) (items_view ws)) (λ fs. Ok (record { scripts = ss; features = fs })))) c
    ∙ ap (λ x. and_then x (λ fs. Ok (record { scripts = scripts; features = fs }))) e

pub layout_of_parts : (scripts : List ScriptTable) (features items : List FeatureTable) (layout : LayoutLists) → items ≡ features → layout ≡ record { scripts = scripts; features = items }
    → ◌≡◌ {A = Result LayoutLists JsonFault} (Ok (record { scripts = scripts; features = features })) (Ok layout)
layout_of_parts scripts features items layout i l = ap (λ xs. Ok (record { scripts = scripts; features = xs })) (sym i) ∙ ap (λ x. Ok x) (sym l)
