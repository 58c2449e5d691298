-- Where stages end.
use Rattle.std.proofs.Common.{ℕ, zero, suc, ◌≡◌, ◌<◌, ◌≤◌, ◌+◌, ◌-◌, ◌==◌, ◌&&◌, nat_le, Bool, true, false, List, [], ◌∷◌, length, refl, sym, arith}
use Rattle.std.specs.List.{flat_map}
use Rattle.std.proofs.lemmas.Bool.Decides.{nat_tests}
use Rattle.std.proofs.lemmas.List.{length-append}
use Rattle.layout_map_features.specs.declared.lookup.lookup_map_t.{lookup_map_t}
use Rattle.layout_map.specs.declared.stages.StageMap.{StageMap}
use Rattle.layout_map.specs.Lookups.{Stage, stage_ends}
use Rattle.layout_map.specs.Compiled.{are_ends, stage_start, stage_end}
use Rattle.buffer_facts.proofs.Truth.{both_true as both}
use Rattle.buffer_facts.proofs.Numbers.{at_most_by_test as at_most}

ends_past : (before : ℕ) (stages : List StageMap) (total : ℕ) → are_ends before stages total ≡ true → before ≤ total
ends_past before [] total h = at_most before total h
ends_past before (s ∷ stages) total h =
    let parts = both (nat_le before s.last_lookup) (are_ends s.last_lookup stages total) h in
    let first : before ≤ s.last_lookup = at_most before s.last_lookup parts.0 in
    let later : s.last_lookup ≤ total = ends_past s.last_lookup stages total parts.1 in
    omega (arith, first, later)

-- a stage's end is at least the one before it, and at most the number of all lookups
ends_within : (before : ℕ) (stages : List StageMap) (total i : ℕ) → are_ends before stages total ≡ true → i < length stages
    → (before ≤ stage_end stages i) × (stage_end stages i ≤ total)
ends_within before [] total i h lt = absurd (omega (arith, lt))
ends_within before (s ∷ stages) total zero h lt =
    let parts = both (nat_le before s.last_lookup) (are_ends s.last_lookup stages total) h in
    (at_most before s.last_lookup parts.0, ends_past s.last_lookup stages total parts.1)
ends_within before (s ∷ stages) total (suc i) h lt =
    let parts = both (nat_le before s.last_lookup) (are_ends s.last_lookup stages total) h in
    let first : before ≤ s.last_lookup = at_most before s.last_lookup parts.0 in
    let later = ends_within s.last_lookup stages total i parts.1 (omega (arith, lt)) in
    (omega (arith, first, later.0), later.1)

ends_rise : (before : ℕ) (stages : List StageMap) (total i : ℕ) → are_ends before stages total ≡ true → suc i < length stages → stage_end stages i ≤ stage_end stages (suc i)
ends_rise before [] total i h lt = absurd (omega (arith, lt))
ends_rise before (s ∷ stages) total zero h lt =
    let parts = both (nat_le before s.last_lookup) (are_ends s.last_lookup stages total) h in
    (ends_within s.last_lookup stages total 0 parts.1 (omega (arith, lt))).0
ends_rise before (s ∷ stages) total (suc i) h lt =
    let parts = both (nat_le before s.last_lookup) (are_ends s.last_lookup stages total) h in
    ends_rise s.last_lookup stages total i parts.1 (omega (arith, lt))

start_is : (stages : List StageMap) (i : ℕ) → stage_start stages (suc i) ≡ stage_end stages i
start_is stages i =
    let there : (suc i == 0) ≡ false = grind (arith, nat_tests) in
    let before : suc i - 1 ≡ i = omega arith in
    rw (there, before) refl

pub stage_in_order : (stages : List StageMap) (total i : ℕ) → are_ends 0 stages total ≡ true → i < length stages → stage_start stages i ≤ stage_end stages i
stage_in_order stages total zero h lt = omega arith
stage_in_order stages total (suc i) h lt = rw (start_is stages i) (ends_rise 0 stages total i h lt)

pub stage_within : (stages : List StageMap) (total i : ℕ) → are_ends 0 stages total ≡ true → i < length stages → stage_end stages i ≤ total
stage_within stages total i h lt = (ends_within 0 stages total i h lt).1

pub self_most : (n : ℕ) → nat_le n n ≡ true
self_most n = grind (arith, nat_tests)

more_most : (n m : ℕ) → nat_le n (n + m) ≡ true
more_most n m = grind (arith, nat_tests)

ends_from : (before : ℕ) (stages : List Stage) (total : ℕ) → before + length (flat_map (λ (s : Stage). s.lookups) stages) ≡ total → are_ends before (stage_ends before stages) total ≡ true
ends_from before [] total e = rw (sym e) (more_most before 0)
ends_from before (s ∷ stages) total e =
    let parts = length-append s.lookups (flat_map (λ (s : Stage). s.lookups) stages) in
    let whole : (before + length s.lookups) + length (flat_map (λ (s : Stage). s.lookups) stages) ≡ total = omega (arith, e, parts) in
    rw (more_most before (length s.lookups)) (ends_from (before + length s.lookups) stages total whole)

pub stages_end : (stages : List Stage) (lookups : List lookup_map_t) (ends : List StageMap)
    → lookups ≡ flat_map (λ (s : Stage). s.lookups) stages → ends ≡ stage_ends 0 stages → are_ends 0 ends (length lookups) ≡ true
stages_end stages lookups ends l e = rw (l, e) (ends_from 0 stages (length (flat_map (λ (s : Stage). s.lookups) stages)) (omega arith))
