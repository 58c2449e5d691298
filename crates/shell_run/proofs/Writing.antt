-- A line that is written front by front.
use Rattle.std.proofs.Common.{◌≡◌, ℕ, ◌+◌, ◌-◌, ◌≤◌, arith, List, Option, take, drop, length, subst, sym}
use Rattle.std.proofs.Math.Seq.{take-add}
use Rattle.std.proofs.lemmas.List.{take_all, length-drop}
use Rattle.std.proofs.KnownBytes.{Appends-nil, Appends-trans, Appends-kept}
use Rattle.std.specs.Io.KnownBytes.{Appends, Keeps}
use Rattle.shell_run.specs.Run.{AppendsFront}

pub front_none : (a : Option (List ℕ)) (line : List ℕ) → Appends a a (take 0 line)
front_none a line = Appends-nil a

-- the rest of a line, as a slice from an index on
rest_whole : (line : List ℕ) (i : ℕ) → take (length line - i) (drop i line) ≡ drop i line
rest_whole line i = take_all (length line - i) (drop i line) (omega (arith, length-drop i line))

pub front_inside : (line : List ℕ) (i k : ℕ) → i ≤ length line → k ≤ length (take (length line - i) (drop i line)) → i + k ≤ length line
front_inside line i k h le = let more : k ≤ length (drop i line) = subst (λ (l : List ℕ). k ≤ length l) (rest_whole line i) le in omega (arith, length-drop i line, more)

pub front_more : (a b c : Option (List ℕ)) (line : List ℕ) (i k : ℕ) → Appends a b (take i line) → Appends b c (take k (take (length line - i) (drop i line)))
    → Appends a c (take (i + k) line)
front_more a b c line i k p q =
    let more : Appends b c (take k (drop i line)) = subst (λ (l : List ℕ). Appends b c (take k l)) (rest_whole line i) q in
    subst (Appends a c) (sym (take-add i k line)) (Appends-trans a b c (take i line) (take k (drop i line)) p more)

pub front_stays : (a b c : Option (List ℕ)) (line : List ℕ) (i : ℕ) → Appends a b (take i line) → Keeps b c → AppendsFront a c line
front_stays a b c line i p q = (i, Appends-kept a b c (take i line) p q)

pub front_whole : (a b : Option (List ℕ)) (line : List ℕ) (i : ℕ) → length line ≤ i → Appends a b (take i line) → Appends a b line
front_whole a b line i h p = subst (Appends a b) (take_all i line h) p
