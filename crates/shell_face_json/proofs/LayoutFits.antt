-- The indices of a layout table that was read stay within its lists.
use Rattle.std.proofs.Common.{◌≡◌, ℕ, Bool, true, false, List, length, Option, None, Result, Ok, Err, codes, refl, subst}
use Rattle.std.specs.Prelude.{⊤, nat_lt}
use Rattle.std.specs.List.{list_all}
use Rattle.std.specs.Ordering.{nat_cmp}
use Rattle.serde_json.specs.Data.{Data}
use Rattle.serde_json.specs.Find.{get}
use Rattle.shell_json.specs.declared.fault.JsonFault.{JsonFault}
use Rattle.shell_json.specs.declared.fault.JsonFault.TheVariants.{OutOfOrder}
use Rattle.shell_json.specs.Cell.{both}
use Rattle.shell_json.specs.Items.{list_of, list_at, tag}
use Rattle.shell_face_json.specs.Lists.{number_below, or_null, is_object, items_of, value_list, rows_at, rows_in_turn, count_at}
use Rattle.shell_face_json.specs.Row.{first_and_rest, no_more, row_of_two, row_of_three}
use Rattle.shell_face_json.specs.Sorted.{rows_by_key}
use Rattle.shell_face_json.specs.Scripts.{required_feature, system_features, lang_sys, lang_sys_entry, script_of_fields, script, feature, layout_of}
use Rattle.shell_face_json.proofs.Inverted.{through, of_both, of_first, below_limit, turn_of_items, list_length, all_in_turn, all_in_list, of_optional, of_nullable}
use Rattle.shell_face_json.proofs.Limits.{turn_of_rising}
use Rattle.buffer_common.specs.declared.tag.Tag.{Tag}
use Rattle.layout_tables.specs.Keyed.{is_rising}
use Rattle.layout_tables.specs.Indices.{all_below, system_fits, script_fits, indices_fit}
use Rattle.layout_tables.specs.Layout.{LangSysTable, LangSysEntry, ScriptTable, FeatureTable, LayoutLists}

-- ---- rows

pub second_of_two : {A B : Type 0} (a : Data → Result A JsonFault) (b : Data → Result B JsonFault) (d : Data) (p : A × (B × ⊤)) → row_of_two a b d ≡ Ok p → (x : Data) × (b x ≡ Ok p.1.0)
second_of_two a b d p e =
    let items = through (list_of d) (first_and_rest a (first_and_rest b no_more)) p e in
    let first = of_first a (first_and_rest b no_more) items.0 p items.2 in
    let second = of_first b no_more first.1 p.1 first.4 in
    (second.0, second.3)

second_and_third : {A B C : Type 0} (a : Data → Result A JsonFault) (b : Data → Result B JsonFault) (c : Data → Result C JsonFault) (d : Data) (p : A × (B × (C × ⊤))) → row_of_three a b c d ≡ Ok p
    → (x : Data) × (y : Data) × (b x ≡ Ok p.1.0) × (c y ≡ Ok p.1.1.0)
second_and_third a b c d p e =
    let items = through (list_of d) (first_and_rest a (first_and_rest b (first_and_rest c no_more))) p e in
    let first = of_first a (first_and_rest b (first_and_rest c no_more)) items.0 p items.2 in
    let second = of_first b (first_and_rest c no_more) first.1 p.1 first.4 in
    let third = of_first c no_more second.1 p.1.1 second.4 in
    (second.0, third.0, second.3, third.3)

-- ---- scripts

of_fields : (p : Tag × (Option LangSysTable × (List LangSysEntry × ⊤))) (s : ScriptTable) (b : Bool) → is_rising (λ t. t.tag.0) None p.1.1.0 ≡ b → script_of_fields p ≡ Ok s
    → ◌≡◌ {A = ScriptTable} (record { tag = p.0; default_lang_sys = p.1.0; lang_systems = p.1.1.0 }) s
of_fields p s true t e = let found : script_of_fields p ≡ Ok (record { tag = p.0; default_lang_sys = p.1.0; lang_systems = p.1.1.0 }) = rw t refl in cc
of_fields p s false t e = let found : script_of_fields p ≡ Err OutOfOrder = rw t refl in absurd (cc)

module _ (limit : ℕ) where
  listed_below : (d : Data) (is : List ℕ) → system_features limit d ≡ Ok is → all_below limit is ≡ true
  listed_below d is e =
      let step = through (list_at (codes "features") d) (items_of (number_below limit)) is e in
      all_in_turn (number_below limit) (λ i. nat_lt i limit) (below_limit limit) step.0 is (turn_of_items (number_below limit) step.0 is step.2)

  system_within : (d : Data) (s : LangSysTable) → lang_sys limit d ≡ Ok s → system_fits limit s ≡ true
  system_within d s e =
      let tail = λ (p : Option ℕ × List ℕ). Ok (record { required_feature = p.0; features = p.1 }) in
      let whole = through (is_object d) _ s e in
      let keys = through (both (required_feature limit d) (system_features limit d)) tail s whole.2 in
      let fields = of_both (required_feature limit d) (system_features limit d) keys.0 keys.1 in
      let required = of_optional (number_below limit) (λ i. nat_lt i limit) (below_limit limit) (get (codes "required") d) keys.0.0 fields.0 in
      let listed = listed_below d keys.0.1 fields.1 in
      let both_fit : system_fits limit (record { required_feature = keys.0.0; features = keys.0.1 }) ≡ true = rw (required, listed) refl in
      let same : ◌≡◌ {A = LangSysTable} (record { required_feature = keys.0.0; features = keys.0.1 }) s = cc in
      subst (λ t. system_fits limit t ≡ true) same both_fit

  entry_within : (d : Data) (s : LangSysEntry) → lang_sys_entry limit d ≡ Ok s → system_fits limit s.lang_sys ≡ true
  entry_within d s e =
      let step = through (row_of_two tag (lang_sys limit) d) _ s e in
      let second = second_of_two tag (lang_sys limit) d step.0 step.1 in
      let same : step.0.1.0 ≡ s.lang_sys = cc in
      subst (λ t. system_fits limit t ≡ true) same (system_within second.0 step.0.1.0 second.1)

  script_within : (d : Data) (s : ScriptTable) → script limit d ≡ Ok s → script_fits limit s ≡ true
  script_within d s e =
      let step = through (row_of_three tag (or_null (lang_sys limit)) (value_list (lang_sys_entry limit)) d) script_of_fields s e in
      let fields = second_and_third tag (or_null (lang_sys limit)) (value_list (lang_sys_entry limit)) d step.0 step.1 in
      let default = of_nullable (lang_sys limit) (λ t. system_fits limit t) system_within fields.0 step.0.1.0 fields.2 in
      let systems = all_in_list (lang_sys_entry limit) (λ t. system_fits limit t.lang_sys) entry_within fields.1 step.0.1.1.0 fields.3 in
      let both_fit : script_fits limit (record { tag = step.0.0; default_lang_sys = step.0.1.0; lang_systems = step.0.1.1.0 }) ≡ true = rw (default, systems) refl in
      subst (λ t. script_fits limit t ≡ true) (of_fields step.0 s (is_rising (λ t. t.tag.0) None step.0.1.1.0) refl step.2) both_fit

  feature_within : (d : Data) (f : FeatureTable) → feature limit d ≡ Ok f → all_below limit f.lookups ≡ true
  feature_within d f e =
      let step = through (row_of_two tag (value_list (number_below limit)) d) _ f e in
      let second = second_of_two tag (value_list (number_below limit)) d step.0 step.1 in
      let same : step.0.1.0 ≡ f.lookups = cc in
      subst (λ is. all_below limit is ≡ true) same (all_in_list (number_below limit) (λ i. nat_lt i limit) (below_limit limit) second.0 step.0.1.0 second.1)

-- the scripts and features of a table that was read exist, in a table with as many lookups as were listed
pub layout_within : (d : Data) (t : LayoutLists) → layout_of d ≡ Ok t → indices_fit (count_at (codes "lookups") d) t ≡ true
layout_within d t e =
    let features = count_at (codes "features") d in
    let lookups = count_at (codes "lookups") d in
    let by_tag = rows_by_key nat_cmp (λ s. s.tag.0) (script features) None in
    let turn = rows_in_turn (feature lookups) in
    let one = through (rows_at (codes "scripts") by_tag d) _ t e in
    let two = through (rows_at (codes "features") turn d) _ t one.2 in
    let listed = through (list_at (codes "scripts") d) by_tag one.0 one.1 in
    let scripts_in_turn = turn_of_rising nat_cmp (λ s. s.tag.0) (script features) listed.0 one.0 listed.2 in
    let scripts_fit = all_in_turn (script features) (λ s. script_fits features s) (script_within features) listed.0 one.0 scripts_in_turn in
    let count : features ≡ length two.0 = list_length (feature lookups) (get (codes "features") d) two.0 two.1 in
    let listed_features = through (list_at (codes "features") d) turn two.0 two.1 in
    let features_fit = all_in_turn (feature lookups) (λ f. all_below lookups f.lookups) (feature_within lookups) listed_features.0 two.0 listed_features.2 in
    let counted : list_all (λ s. script_fits (length two.0) s) one.0 ≡ true = subst (λ n. list_all (λ s. script_fits n s) one.0 ≡ true) count scripts_fit in
    let both_fit : indices_fit lookups (record { scripts = one.0; features = two.0 }) ≡ true = rw (counted, features_fit) refl in
    let same : ◌≡◌ {A = LayoutLists} (record { scripts = one.0; features = two.0 }) t = cc in
    subst (λ x. indices_fit lookups x ≡ true) same both_fit
