-- Lookups that were read with any index of a mark glyph set, and whose sets exist.
use Rattle.std.proofs.Common.{◌≡◌, ℕ, Bool, true, false, List, [], ◌∷◌, codes, Option, Some, None, Result, Ok, Err, option_map, refl, sym, ap, ◌∙◌, subst}
use Rattle.std.proofs.lemmas.Bool.{and_parts}
use Rattle.std.specs.Prelude.{nat_lt}
use Rattle.std.specs.List.{list_all}
use Rattle.std.specs.Option.{option_map_or}
use Rattle.serde_json.specs.Data.{Data, Items, no_items, item, Members, object}
use Rattle.serde_json.specs.Find.{get, get_member}
use Rattle.shell_json.specs.TextValues.{IsFound, HasMember}
use Rattle.shell_json.specs.declared.fault.JsonFault.{JsonFault}
use Rattle.shell_json.specs.declared.fault.JsonFault.TheVariants.{OutOfRange}
use Rattle.shell_json.specs.Cell.{and_then, u16_value}
use Rattle.shell_json.specs.Objects.{read_or, optional_value}
use Rattle.shell_json.specs.Items.{list_at}
use Rattle.shell_json.specs.Rows.{after, ok_cons}
use Rattle.shell_face_json.specs.Lists.{below, count_at, is_object, lookup_in_table, lookups_of, number_below, rows_in_turn, within}
use Rattle.shell_face_json.specs.SubstitutionTable.{substitution_lookup, substitution_table, substitution_type_in, substitutions}
use Rattle.shell_face_json.specs.PositionTable.{positioning_lookup, positioning_table, positioning_type_in, positionings}
use Rattle.shell_face_json.proofs.Inverted.{through}
use Rattle.shell_face_json.proofs.OfText.OfKeys.{IsTable, positioning_names, positioning_read, substitution_names, substitution_read}
use Rattle.layout_tables.specs.Layout.{LayoutLists}
use Rattle.layout_face.specs.LookupIndices.{set_fits}
use Rattle.layout_face.specs.declared.substitution.SubstLookup.{SubstLookup}
use Rattle.layout_face.specs.declared.substitution.SubstitutionTable.{SubstitutionTable}
use Rattle.layout_face.specs.declared.positioning.PositioningLookup.{PositioningLookup}
use Rattle.layout_face.specs.declared.positioning.PositioningTable.{PositioningTable}

-- ---- one lookup

module _ (any n : ℕ) where
  low : (m i : ℕ) (b : Bool) → nat_lt m any ≡ b → below any m ≡ Ok i → nat_lt i n ≡ true → below n m ≡ Ok i
  low m i true t e fit = let found : below any m ≡ Ok m = rw t refl in let same : m ≡ i = cc in let less : nat_lt m n ≡ true = subst (λ k. nat_lt k n ≡ true) (sym same) fit in rw less (ap (λ k. Ok k) same)
  low m i false t e fit = let found : below any m ≡ Err OutOfRange = rw t refl in absurd (cc)

  low_number : (d : Data) (i : ℕ) → number_below any d ≡ Ok i → nat_lt i n ≡ true → number_below n d ≡ Ok i
  low_number d i e fit =
      let m = through (u16_value d) (below any) i e in
      ap (λ r. and_then r (below n)) m.1 ∙ low m.0 i (nat_lt m.0 any) refl m.2 fit

  some_set : (d : Data) (x : Option ℕ) (i : ℕ) → number_below any d ≡ Ok i → x ≡ Some i → set_fits n x ≡ true → and_then (number_below n d) (λ a. Ok (Some a)) ≡ Ok x
  some_set d x i e is fit =
      let less : nat_lt i n ≡ true = subst (λ y. set_fits n y ≡ true) is fit in
      ap (λ r. and_then r (λ a. Ok (Some a))) (low_number d i e less) ∙ ap (λ y. Ok y) (sym is)

  set_again : (o : Option Data) (x : Option ℕ) → optional_value (number_below any) o ≡ Ok x → set_fits n x ≡ true → optional_value (number_below n) o ≡ Ok x
  set_again None x e fit = e
  set_again (Some d) x e fit =
      let i = through (number_below any d) (λ a. Ok (Some a)) x e in
      let is : x ≡ Some i.0 = cc in
      some_set d x i.0 i.1 is fit

  substitution_again : (d : Data) (l : SubstLookup) → substitution_lookup any d ≡ Ok l → set_fits n l.mark_filtering_set ≡ true → substitution_lookup n d ≡ Ok l
  substitution_again d l e fit =
      let whole = through (is_object d) _ l e in
      let flags = through (read_or 0 u16_value (get (codes "flags") d)) _ l whole.2 in
      let set = through (optional_value (number_below any) (get (codes "set") d)) _ l flags.2 in
      let kind = through (substitution_type_in (get (codes "type") d)) _ l set.2 in
      let subtables = through (substitutions kind.0 d) _ l kind.2 in
      let same : ◌≡◌ {A = SubstLookup} (record { flags = flags.0; mark_filtering_set = set.0; subtables = subtables.0 }) l = cc in
      let fits : set_fits n set.0 ≡ true = subst (λ x. set_fits n x ≡ true) (sym (ap (λ x. x.mark_filtering_set) same)) fit in
      let next = λ (f : ℕ) (s : Option ℕ). and_then (substitution_type_in (get (codes "type") d)) (λ t. and_then (substitutions t d) (λ subtables. Ok (record { flags = f; mark_filtering_set = s; subtables = subtables }))) in
      ap (λ r. and_then r (λ _. and_then (read_or 0 u16_value (get (codes "flags") d)) (λ f. and_then (optional_value (number_below n) (get (codes "set") d)) (next f)))) whole.1
      ∙ ap (λ r. and_then r (λ f. and_then (optional_value (number_below n) (get (codes "set") d)) (next f))) flags.1
      ∙ ap (λ r. and_then r (next flags.0)) (set_again (get (codes "set") d) set.0 set.1 fits) ∙ set.2

  positioning_again : (d : Data) (l : PositioningLookup) → positioning_lookup any d ≡ Ok l → set_fits n l.mark_filtering_set ≡ true → positioning_lookup n d ≡ Ok l
  positioning_again d l e fit =
      let whole = through (is_object d) _ l e in
      let flags = through (read_or 0 u16_value (get (codes "flags") d)) _ l whole.2 in
      let set = through (optional_value (number_below any) (get (codes "set") d)) _ l flags.2 in
      let kind = through (positioning_type_in (get (codes "type") d)) _ l set.2 in
      let subtables = through (positionings kind.0 d) _ l kind.2 in
      let same : ◌≡◌ {A = PositioningLookup} (record { flags = flags.0; mark_filtering_set = set.0; subtables = subtables.0 }) l = cc in
      let fits : set_fits n set.0 ≡ true = subst (λ x. set_fits n x ≡ true) (sym (ap (λ x. x.mark_filtering_set) same)) fit in
      let next = λ (f : ℕ) (s : Option ℕ). and_then (positioning_type_in (get (codes "type") d)) (λ t. and_then (positionings t d) (λ subtables. Ok (record { flags = f; mark_filtering_set = s; subtables = subtables }))) in
      ap (λ r. and_then r (λ _. and_then (read_or 0 u16_value (get (codes "flags") d)) (λ f. and_then (optional_value (number_below n) (get (codes "set") d)) (next f)))) whole.1
      ∙ ap (λ r. and_then r (λ f. and_then (optional_value (number_below n) (get (codes "set") d)) (next f))) flags.1
      ∙ ap (λ r. and_then r (next flags.0)) (set_again (get (codes "set") d) set.0 set.1 fits) ∙ set.2

-- ---- the lookups of a table

if_within : {L : Type 0} (b : Bool) (a l : L) → within b a ≡ Ok l → a ≡ l
if_within true a l e = cc
if_within false a l e = absurd (cc)

module _ {L : Type 0} (read again : Data → Result L JsonFault) (fit : L → Bool) (same : (d : Data) (l : L) → read d ≡ Ok l → fit l ≡ true → again d ≡ Ok l) where
  in_table_again : (fits : L → Bool) (d : Data) (l : L) → lookup_in_table fits read d ≡ Ok l → fit l ≡ true → lookup_in_table fits again d ≡ Ok l
  in_table_again fits d l e is =
      let a = through (read d) _ l e in
      let one = if_within (fits a.0) a.0 l a.2 in
      ap (λ r. and_then r (λ x. within (fits x) x)) (same d a.0 a.1 (subst (λ x. fit x ≡ true) (sym one) is)) ∙ a.2

  rows_again : (ds : Items) (xs : List L) → rows_in_turn read ds ≡ Ok xs → list_all fit xs ≡ true → rows_in_turn again ds ≡ Ok xs
  rows_again no_items xs e all = e
  rows_again (item d ds) xs e all =
      let row = through (read d) _ xs e in
      let next = rows_in_turn again ds in
      ok_cons row.0 (rows_in_turn read ds) xs (λ ys. list_all fit ys ≡ true → rows_in_turn again (item d ds) ≡ Ok ys) row.2
      (λ ys was each.
      let both = and_parts (fit row.0) (list_all fit ys) each in
      ap (λ x. and_then x (λ r. after (r ∷ []) next)) (same d row.0 row.1 both.0) ∙ ap (λ x. after (row.0 ∷ []) x) (rows_again ds ys was both.1)) all

lookups_again : {L : Type 0} (read again : Data → Result L JsonFault) (fit : L → Bool) → ((d : Data) (l : L) → read d ≡ Ok l → fit l ≡ true → again d ≡ Ok l)
    → (fits : ℕ → L → Bool) (d : Data) (xs : List L) → lookups_of fits read d ≡ Ok xs → list_all fit xs ≡ true → lookups_of fits again d ≡ Ok xs
lookups_again read again fit same fits d xs e all =
    let count = count_at (codes "lookups") d in
    let listed = through (list_at (codes "lookups") d) (rows_in_turn (lookup_in_table (fits count) read)) xs e in
    let rows = rows_again (lookup_in_table (fits count) read) (lookup_in_table (fits count) again) fit (in_table_again read again fit same (fits count)) listed.0 xs listed.2 all in
    ap (λ r. and_then r (rows_in_turn (lookup_in_table (fits count) again))) listed.1 ∙ rows

-- ---- the tables

module _ (any n : ℕ) where
  substitution_in : (o : Option Data) (found : Option (LayoutLists × List SubstLookup)) → IsFound (IsTable substitution_names (substitution_lookup any)) o found
      → option_map_or (λ x. list_all (λ l. set_fits n l.mark_filtering_set) x.1) found true ≡ true
      → optional_value (substitution_table n) o ≡ Ok (option_map (λ t. record { inner = t.0; lookups = t.1 }) found)
  substitution_in None found e all = ap (λ f. Ok (option_map (λ t. record { inner = t.0; lookups = t.1 }) f)) (sym e)
  substitution_in (Some d) None h all = absurd h
  substitution_in (Some d) (Some t) e all =
      let lookups = lookups_again (substitution_lookup any) (substitution_lookup n) (λ l. set_fits n l.mark_filtering_set) (substitution_again any n) substitution_names d t.1 e.2 all in
      ap (λ r. and_then r (λ x. Ok (Some x))) (substitution_read n d t (e.0, e.1, lookups))

  pub substitution_found : (name : List ℕ) (ms : Members) (found : Option (LayoutLists × List SubstLookup)) (t : Option SubstitutionTable) → name ≡ codes "gsub"
      → HasMember (IsTable substitution_names (substitution_lookup any)) name ms found
      → (t ≡ option_map (λ x. record { inner = x.0; lookups = x.1 }) found) × (option_map_or (λ x. list_all (λ l. set_fits n l.mark_filtering_set) x.1) found true ≡ true)
      → optional_value (substitution_table n) (get (codes "gsub") (object ms)) ≡ Ok t
  substitution_found name ms found t is h made =
      ap (λ k. optional_value (substitution_table n) (get k (object ms))) (sym is) ∙ substitution_in (get_member name ms) found h made.1 ∙ ap (λ x. Ok x) (sym made.0)

  positioning_in : (o : Option Data) (found : Option (LayoutLists × List PositioningLookup)) → IsFound (IsTable positioning_names (positioning_lookup any)) o found
      → option_map_or (λ x. list_all (λ l. set_fits n l.mark_filtering_set) x.1) found true ≡ true
      → optional_value (positioning_table n) o ≡ Ok (option_map (λ t. record { inner = t.0; lookups = t.1 }) found)
  positioning_in None found e all = ap (λ f. Ok (option_map (λ t. record { inner = t.0; lookups = t.1 }) f)) (sym e)
  positioning_in (Some d) None h all = absurd h
  positioning_in (Some d) (Some t) e all =
      let lookups = lookups_again (positioning_lookup any) (positioning_lookup n) (λ l. set_fits n l.mark_filtering_set) (positioning_again any n) positioning_names d t.1 e.2 all in
      ap (λ r. and_then r (λ x. Ok (Some x))) (positioning_read n d t (e.0, e.1, lookups))

  pub positioning_found : (name : List ℕ) (ms : Members) (found : Option (LayoutLists × List PositioningLookup)) (t : Option PositioningTable) → name ≡ codes "gpos"
      → HasMember (IsTable positioning_names (positioning_lookup any)) name ms found
      → (t ≡ option_map (λ x. record { inner = x.0; lookups = x.1 }) found) × (option_map_or (λ x. list_all (λ l. set_fits n l.mark_filtering_set) x.1) found true ≡ true)
      → optional_value (positioning_table n) (get (codes "gpos") (object ms)) ≡ Ok t
  positioning_found name ms found t is h made =
      ap (λ k. optional_value (positioning_table n) (get k (object ms))) (sym is) ∙ positioning_in (get_member name ms) found h made.1 ∙ ap (λ x. Ok x) (sym made.0)
