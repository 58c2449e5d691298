-- How many rows the scripts have that the table kern gives GPOS.
use Rattle.std.proofs.Common.{◌≡◌, ℕ, ◌+◌, ◌*◌, ◌<◌, ◌≤◌, ◌==◌, Bool, true, false, if◌then◌else◌, List, [], ◌∷◌, ◌++◌, length, map, find, Option, Some, None, refl, ap, ◌∙◌, inl, inr, arith}
use Rattle.std.specs.Prelude.{unwrap_or, is_some}
use Rattle.std.specs.Option.{option_or, option_and_then}
use Rattle.std.specs.List.{filter}
use Rattle.std.specs.Ordering.{nat_cmp, is_lt}
use Rattle.std.proofs.Math.ListN.{length-append}
use Rattle.std.proofs.Math.Nat.{mul-le-mul_right}
use Rattle.std.proofs.lemmas.Bool.{cases_order, cases_Bool}
use Rattle.std.proofs.lemmas.Bool.Decides.{nat_tests}
use Rattle.std.proofs.lemmas.List.{length-map}
use Rattle.buffer_common.specs.declared.tag.Tag.{Tag}
use Rattle.buffer_common.specs.Direction.{is_among}
use Rattle.buffer_rows.specs.Keys.{is_above}
use Rattle.buffer_rows.specs.KeyOrder.{key_order}
use Rattle.layout_face.specs.declared.parts.CharacterRow.{CharacterRow}
use Rattle.layout_tables.specs.Layout.{LangSysTable, LangSysEntry, ScriptTable, FeatureTable, script_with}
use Rattle.layout_tables.specs.Choice.{default_scripts, first_script}
use Rattle.font_kern.specs.declared.scripts.BackwardScript.{BackwardScript}
use Rattle.font_kern.specs.declared.scripts.ScriptRow.{ScriptRow}
use Rattle.font_common.specs.Rows.{first_rows}
use Rattle.font_kern.specs.Scripts.{backward_scripts, scripts_of, has_kern, lacks_kern, plain_script, usual_script, script_row, backward_rows, served_rows, offered_rows, script_rows, source_script, kerned_default, kerned_entry, kerned_entries, kerned_script, index_of_direction, kerned_scripts}
use Rattle.font_laws.specs.RowCounts.{total_row_count, optional_row_count}
use Rattle.font_laws.specs.Lists.{lang_sys_row_count, lang_sys_entry_row_count, script_row_count}
use Rattle.font_laws.proofs.Totals.{weigh, total_is_weight, weigh_append, share, key_order_weight, first_rows_weight, filter_length, when_short}

-- ---- weights

weigh_sum : {A : Type 0} (f g h : A → ℕ) → ((a : A) → f a ≤ g a + h a) → (xs : List A) → weigh f xs ≤ weigh g xs + weigh h xs
weigh_sum f g h each [] = omega arith
weigh_sum f g h each (x ∷ xs) = let here = each x in let rest = weigh_sum f g h each xs in omega arith

weigh_less : {A : Type 0} (f g : A → ℕ) → ((a : A) → f a ≤ g a) → (xs : List A) → weigh f xs ≤ weigh g xs
weigh_less f g each [] = omega arith
weigh_less f g each (x ∷ xs) = let here = each x in let rest = weigh_less f g each xs in omega arith

weigh_bound : {A : Type 0} (f : A → ℕ) (bound : ℕ) → ((a : A) → f a ≤ bound) → (xs : List A) → weigh f xs ≤ length xs * bound
weigh_bound f bound each [] = omega arith
weigh_bound f bound each (x ∷ xs) = let here = each x in let rest = weigh_bound f bound each xs in omega arith

weigh_map : {A B : Type 0} (f : B → ℕ) (g : A → B) (xs : List A) → weigh f (map g xs) ≡ weigh (λ a. f (g a)) xs
weigh_map f g [] = refl
weigh_map f g (x ∷ xs) = let rest = weigh_map f g xs in omega arith

-- ---- the systems of a script

system_fits : (features : List FeatureTable) (index : ℕ) (system : LangSysTable) (t : Bool)
    → lang_sys_row_count (if t then system else record { required_feature = system.required_feature; features = system.features ++ index ∷ [] }) ≤ lang_sys_row_count system + 1
system_fits features index system true = omega arith
system_fits features index system false = let split = length-append system.features (index ∷ []) in omega arith

default_fits : (features : List FeatureTable) (index : ℕ) (d : Option LangSysTable) → lang_sys_row_count (kerned_default features index d) ≤ optional_row_count lang_sys_row_count d + 1
default_fits features index None = omega arith
default_fits features index (Some system) = system_fits features index system (has_kern features system)

entries_fit : (features : List FeatureTable) (index : ℕ) (rs : List LangSysEntry)
    → total_row_count lang_sys_entry_row_count (kerned_entries features index rs) ≤ 2 * total_row_count lang_sys_entry_row_count rs
entries_fit features index rs =
    let rising = first_rows_weight (λ r. 1 + lang_sys_entry_row_count r) nat_cmp (λ r. r.tag.0) None (map (kerned_entry features index) rs) in
    let mapped = weigh_map (λ r. 1 + lang_sys_entry_row_count r) (kerned_entry features index) rs in
    let one = total_is_weight lang_sys_entry_row_count (kerned_entries features index rs) in
    let other = total_is_weight lang_sys_entry_row_count rs in
    let doubled = weigh_sum (λ r. 1 + lang_sys_entry_row_count (kerned_entry features index r)) (λ r. 1 + lang_sys_entry_row_count r) (λ r. 1 + lang_sys_entry_row_count r)
    (λ r. let here = system_fits features index r.lang_sys (has_kern features r.lang_sys) in omega arith) rs in
    omega arith

kerned_fits : (features : List FeatureTable) (index : ℕ) (tag : Tag) (s : ScriptTable)
    → 1 + script_row_count (kerned_script features index tag s) ≤ (1 + script_row_count s) + (1 + script_row_count s)
kerned_fits features index tag s =
    let one = default_fits features index s.default_lang_sys in
    let other = entries_fit features index s.lang_systems in
    omega arith

-- ---- the scripts of a table, each of which is one row's

abbrev found_weight : Option ScriptTable → ℕ
found_weight None = 0
found_weight (Some s) = 1 + script_row_count s

abbrev missing_weight : ℕ → Option ScriptTable → ℕ
missing_weight weight None = weight
missing_weight weight (Some s) = 0

above_more : (before : Option ℕ) (a b : ℕ) → is_above nat_cmp before a ≡ true → a < b → is_above nat_cmp before b ≡ true
above_more None a b h k = refl
above_more (Some c) a b h k = grind (arith, nat_tests)

share_once : (weight k : ℕ) (before : Option ℕ) (rows : List ScriptRow)
    → weigh (λ r. share weight (k == r.tag.0)) (first_rows nat_cmp (λ r. r.tag.0) before rows) ≤ share weight (is_above nat_cmp before k)
share_once weight k before [] = omega arith
share_once weight k before (r ∷ rows) =
    elim (cases_Bool (is_above nat_cmp before r.tag.0)) [
      | inl above ↦
          let rest = share_once weight k (Some r.tag.0) rows in
          elim (cases_order k r.tag.0) [
            | inl same ↦
                let here : (k == r.tag.0) ≡ true = grind (arith, nat_tests, same) in
                let after : is_lt (nat_cmp r.tag.0 k) ≡ false = grind (arith, nat_tests, same) in
                let own : is_above nat_cmp before k ≡ true = ap (is_above nat_cmp before) same ∙ above in
                let none = rw after at rest in
                rw (above, here, own) (omega arith)
            | inr (inl below) ↦
                let here : (k == r.tag.0) ≡ false = grind (arith, nat_tests, below) in
                let after : is_lt (nat_cmp r.tag.0 k) ≡ false = grind (arith, nat_tests, below) in
                let none = rw after at rest in
                rw (above, here) (omega arith)
            | inr (inr more) ↦
                let here : (k == r.tag.0) ≡ false = grind (arith, nat_tests, more) in
                let after : is_lt (nat_cmp r.tag.0 k) ≡ true = grind (arith, nat_tests, more) in
                let own = above_more before r.tag.0 k above more in
                let all = rw after at rest in
                rw (above, here, own) (omega arith)
          ]
      | inr below ↦ let rest = share_once weight k before rows in rw below rest
    ]

found_step : (s : ScriptTable) (t : Bool) (o : Option ScriptTable) → found_weight (if t then Some s else o) ≤ share (1 + script_row_count s) t + found_weight o
found_step s true o = omega arith
found_step s false o = omega arith

found_none : (rows : List ScriptRow) → weigh (λ r. 0) rows ≡ 0
found_none [] = refl
found_none (r ∷ rows) = let rest = found_none rows in omega arith

found_fits : (scripts : List ScriptTable) (rows : List ScriptRow)
    → weigh (λ r. found_weight (script_with r.tag scripts)) (first_rows nat_cmp (λ r. r.tag.0) None rows) ≤ total_row_count script_row_count scripts
found_fits [] rows = let none = found_none (first_rows nat_cmp (λ r. r.tag.0) None rows) in omega arith
found_fits (s ∷ scripts) rows =
    let split = weigh_sum (λ r. found_weight (script_with r.tag (s ∷ scripts))) (λ r. share (1 + script_row_count s) (s.tag.0 == r.tag.0)) (λ r. found_weight (script_with r.tag scripts))
    (λ r. found_step s (s.tag.0 == r.tag.0) (script_with r.tag scripts)) (first_rows nat_cmp (λ r. r.tag.0) None rows) in
    let one = share_once (1 + script_row_count s) s.tag.0 None rows in
    let rest = found_fits scripts rows in
    omega arith

-- ---- the usual script, which the others have

found_either : (s : ScriptTable) (t : Bool) (o : Option ScriptTable) (total : ℕ) → found_weight o ≤ total → found_weight (if t then Some s else o) ≤ 1 + script_row_count s + total
found_either s true o total h = omega arith
found_either s false o total h = omega arith

found_one : (tag : Tag) (scripts : List ScriptTable) → found_weight (script_with tag scripts) ≤ total_row_count script_row_count scripts
found_one tag [] = omega arith
found_one tag (s ∷ scripts) = found_either s (s.tag.0 == tag.0) (script_with tag scripts) (total_row_count script_row_count scripts) (found_one tag scripts)

first_fits : (scripts : List ScriptTable) (tag : Option Tag) → found_weight (option_and_then (λ t. script_with t scripts) tag) ≤ total_row_count script_row_count scripts
first_fits scripts None = omega arith
first_fits scripts (Some tag) = found_one tag scripts

or_plain : (o : Option ScriptTable) → script_row_count (unwrap_or o plain_script) ≤ found_weight o
or_plain None = omega arith
or_plain (Some s) = omega arith

usual_fits : (scripts : List ScriptTable) → script_row_count (usual_script scripts) ≤ total_row_count script_row_count scripts
usual_fits scripts =
    let one = or_plain (first_script default_scripts scripts) in
    let other = first_fits scripts (find (λ tag. is_some (script_with tag scripts)) default_scripts) in
    omega arith

missing_less : (weight : ℕ) (s : ScriptTable) (t : Bool) (o : Option ScriptTable) → missing_weight weight (if t then Some s else o) ≤ missing_weight weight o
missing_less weight s true None = omega arith
missing_less weight s true (Some other) = omega arith
missing_less weight s false o = omega arith

none_missing : (weight : ℕ) (scripts : List ScriptTable) → weigh (λ r. missing_weight weight (script_with r.tag scripts)) (map (λ s. script_row s.tag) scripts) ≡ 0
none_missing weight [] = refl
none_missing weight (s ∷ scripts) =
    let here : (s.tag.0 == s.tag.0) ≡ true = grind (arith, nat_tests) in
    let own : missing_weight weight (script_with s.tag (s ∷ scripts)) ≡ 0 = rw here refl in
    let less = weigh_less (λ r. missing_weight weight (script_with r.tag (s ∷ scripts))) (λ r. missing_weight weight (script_with r.tag scripts))
    (λ r. missing_less weight s (s.tag.0 == r.tag.0) (script_with r.tag scripts)) (map (λ s. script_row s.tag) scripts) in
    let rest = none_missing weight scripts in
    omega arith

missing_most : (weight : ℕ) (o : Option ScriptTable) → missing_weight weight o ≤ weight
missing_most weight None = omega arith
missing_most weight (Some s) = omega arith

served_length : (features : List FeatureTable) (scripts : List ScriptTable) (characters : List CharacterRow) → length (served_rows features scripts characters) ≤ 34
served_length features scripts characters =
    let all : length backward_scripts ≡ 34 = refl in
    let few = filter_length (λ b. is_among (scripts_of characters) b.script) backward_scripts in
    let same = length-map (filter (λ (b : BackwardScript). is_among (scripts_of characters) b.script) backward_scripts) (λ b. script_row b.tag) in
    when_short (lacks_kern features (usual_script scripts)) (backward_rows characters) 34 (omega arith)

missing_fits : (weight : ℕ) (features : List FeatureTable) (scripts : List ScriptTable) (characters : List CharacterRow)
    → weigh (λ r. missing_weight weight (script_with r.tag scripts)) (script_rows features scripts characters) ≤ 35 * weight
missing_fits weight features scripts characters =
    let f = λ (r : ScriptRow). missing_weight weight (script_with r.tag scripts) in
    let others = script_row (usual_script scripts).tag ∷ served_rows features scripts characters in
    let rising = first_rows_weight f nat_cmp (λ r. r.tag.0) None (key_order (λ r. r.tag.0) (offered_rows features scripts characters)) in
    let ordered = key_order_weight f (λ r. r.tag.0) (offered_rows features scripts characters) in
    let split = weigh_append f (map (λ s. script_row s.tag) scripts) others in
    let own = none_missing weight scripts in
    let usual = missing_most weight (script_with (usual_script scripts).tag scripts) in
    let served = weigh_bound f weight (λ r. missing_most weight (script_with r.tag scripts)) (served_rows features scripts characters) in
    let few = served_length features scripts characters in
    let most : length (served_rows features scripts characters) * weight ≤ 34 * weight = mul-le-mul_right weight few in
    omega arith

-- ---- all scripts

source_either : (o other : Option ScriptTable)
    → 1 + script_row_count (unwrap_or (option_or o other) plain_script) ≤ found_weight o + missing_weight (1 + script_row_count (unwrap_or other plain_script)) o
source_either None other = omega arith
source_either (Some s) other = omega arith

pub scripts_fit : (features : List FeatureTable) (scripts : List ScriptTable) (characters : List CharacterRow) (lacks_forward : Bool)
    → total_row_count script_row_count (kerned_scripts features scripts lacks_forward (script_rows features scripts characters)) ≤ 72 * total_row_count script_row_count scripts + 70
scripts_fit features scripts characters lacks_forward =
    let rows = script_rows features scripts characters in
    let usual = 1 + script_row_count (usual_script scripts) in
    let kerned = λ (r : ScriptRow). kerned_script features (index_of_direction (length features) lacks_forward r.is_backward) r.tag (source_script scripts r.tag) in
    let source = λ (r : ScriptRow). 1 + script_row_count (source_script scripts r.tag) in
    let all = total_is_weight script_row_count (kerned_scripts features scripts lacks_forward rows) in
    let mapped = weigh_map (λ s. 1 + script_row_count s) kerned rows in
    let doubled = weigh_sum (λ r. 1 + script_row_count (kerned r)) source source
    (λ r. kerned_fits features (index_of_direction (length features) lacks_forward r.is_backward) r.tag (source_script scripts r.tag)) rows in
    let split = weigh_sum source (λ r. found_weight (script_with r.tag scripts)) (λ r. missing_weight usual (script_with r.tag scripts))
    (λ r. source_either (script_with r.tag scripts) (first_script default_scripts scripts)) rows in
    let found = found_fits scripts (key_order (λ r. r.tag.0) (offered_rows features scripts characters)) in
    let missing = missing_fits usual features scripts characters in
    let few = usual_fits scripts in
    omega arith
