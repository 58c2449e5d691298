-- A syllable begins and ends inside the list.
use Rattle.std.specs.Prelude.{ℕ, zero, suc, ◌≡◌, ◌<◌, ◌≤◌, ◌-◌, List, length, take, drop, Option, None, Some, IfSome}
use Rattle.std.specs.Option.{option_and_then}
use Rattle.std.proofs.Common.{arith, sym, subst, length-drop}
use Rattle.script_categories.specs.Shapers.{non_kind_of}
use Rattle.script_categories.specs.declared.shaper.hb_ot_script_shaper_t.{hb_ot_script_shaper_t}
use Rattle.script_categories.specs.LongestMatch.{found_or, kind_of_prefix, longest_syllable, longest_up_to, span_at, syllable_at}
use Rattle.script_categories.specs.Machines.{Machine, Machines, machine_of}
use Rattle.script_categories.specs.declared.scan.FoundSyllable.{FoundSyllable}

-- a prefix is not empty, and at most of a length
abbrev IsWithin : ℕ → Option FoundSyllable → Type 0
IsWithin most found = IfSome found (λ (f : FoundSyllable). (0 < f.length) × (f.length ≤ most))

syllable_within : (most n : ℕ) (kind : Option ℕ) (other : Option FoundSyllable) → 0 < n → n ≤ most → IsWithin most other → IsWithin most (found_or kind n other)
syllable_within most n (Some kind) other some le h = (some, le)
syllable_within most n None other some le h = h

up_to_within : (m : Machine) (cs : List ℕ) (most n : ℕ) → n ≤ most → IsWithin most (longest_up_to m cs n)
up_to_within m cs most zero le = tt
up_to_within m cs most (suc n) le =
    syllable_within most (suc n) (kind_of_prefix m (take (suc n) cs)) (longest_up_to m cs n) (omega arith) le (up_to_within m cs most n (omega arith))

found_within : (cs : List ℕ) (o : Option Machine) → IsWithin (length cs) (option_and_then (λ m. longest_syllable m cs) o)
found_within cs None = tt
found_within cs (Some m) = up_to_within m cs (length cs) (length cs) (omega arith)

-- the longest found is not empty, and within the list
pub longest_within : (m : Machine) (cs : List ℕ) (found : Option FoundSyllable) → found ≡ longest_syllable m cs
    → IfSome found (λ (f : FoundSyllable). (0 < f.length) × (f.length ≤ length cs))
longest_within m cs found e = subst (IsWithin (length cs)) (sym e) (up_to_within m cs (length cs) (length cs) (omega arith))

span_after : (start other most : ℕ) (found : Option FoundSyllable) → IsWithin most found → start < (span_at start other found).0
span_after start other most None h = omega arith
span_after start other most (Some found) h = omega (arith, h.0)

span_inside : (start other len : ℕ) (found : Option FoundSyllable) → start < len → IsWithin (len - start) found → (span_at start other found).0 ≤ len
span_inside start other len None lt h = omega arith
span_inside start other len (Some found) lt h = omega (arith, h.1)

-- lemma: a syllable ends after its start
pub ends_after_start : (ms : Machines) (shaper : hb_ot_script_shaper_t) (categories : List ℕ) (start : ℕ)
    → start < length categories → start < (syllable_at ms shaper categories start).0
ends_after_start ms shaper cs start lt =
    span_after start (non_kind_of shaper) (length (drop start cs)) _ (found_within (drop start cs) (machine_of ms shaper))

-- lemma: a syllable ends within the list
pub ends_inside : (ms : Machines) (shaper : hb_ot_script_shaper_t) (categories : List ℕ) (start : ℕ)
    → start < length categories → (syllable_at ms shaper categories start).0 ≤ length categories
ends_inside ms shaper cs start lt =
    let found : Option FoundSyllable = option_and_then (λ m. longest_syllable m (drop start cs)) (machine_of ms shaper) in
    let within : IsWithin (length cs - start) found = subst (λ n. IsWithin n found) (length-drop start cs) (found_within (drop start cs) (machine_of ms shaper)) in
    span_inside start (non_kind_of shaper) (length cs) found lt within
