-- Lines that are printed one after another.
use Rattle.std.proofs.Common.{ℕ, ◌≡◌, ◌≢◌, ◌+◌, List, ◌∷◌, ◌++◌, length, take, drop, map, Result, Ok, Err, refl, sym, ap, subst, ◌∙◌, append_assoc, add-one}
use Rattle.std.specs.Prelude.{Option, Some, None, IfSome, OnErr}
use Rattle.std.specs.List.{flat_map}
use Rattle.std.specs.Option.{option_map}
use Rattle.std.specs.Io.KnownBytes.{Appends}
use Rattle.std.proofs.KnownBytes.{Appends-trans}
use Rattle.std.proofs.lemmas.List.{take_at, take-append-drop}
use Rattle.buffer_glyphs.specs.Parts.{or}
use Rattle.shell_readers.specs.declared.fault.RunFault.{RunFault}
use Rattle.shell_readers.specs.declared.fault.RunFault.TheVariants as run
use Rattle.shell_readers.specs.Faults.{IsOfRun}
use Rattle.shell_run.specs.Lines.{IsOfLine, IsOfText, fault_of, first_fault, in_line, printed_or_named, text_lines}
use Rattle.shell_run.specs.Run.{AppendsFront}

-- ---- lines

module _ (f : List ℕ → Result (List ℕ) RunFault) where
  pub line_printed : (text line rest : List ℕ) → text_lines text ≡ line ∷ text_lines rest
      → flat_map printed_or_named (map f (text_lines text)) ≡ printed_or_named (f line) ++ flat_map printed_or_named (map f (text_lines rest))
  line_printed text line rest cut = ap (λ (lines : List (List ℕ)). flat_map printed_or_named (map f lines)) cut

  first_by : (n : ℕ) (answer : Result (List ℕ) RunFault) (answers : List (Result (List ℕ) RunFault))
      → first_fault n (answer ∷ answers) ≡ or (option_map (in_line n) (fault_of answer)) (first_fault (n + 1) answers)
  first_by n (Ok printed) answers = ap (λ m. first_fault m answers) (sym (add-one n))
  first_by n (Err fault) answers = refl

  pub line_refused : (n : ℕ) (text line rest : List ℕ) → text_lines text ≡ line ∷ text_lines rest
      → first_fault n (map f (text_lines text)) ≡ or (option_map (in_line n) (fault_of (f line))) (first_fault (n + 1) (map f (text_lines rest)))
  line_refused n text line rest cut = ap (λ (lines : List (List ℕ)). first_fault n (map f lines)) cut ∙ first_by n (f line) (map f (text_lines rest))

or_assoc : {A : Type 0} (a b c : Option A) → or a (or b c) ≡ or (or a b) c
or_assoc (Some a) b c = refl
or_assoc None b c = refl

-- the first fault, once one line more was read
pub first_more : (whole first first' fault line rest : Option RunFault) → whole ≡ or first rest → rest ≡ or fault line → first' ≡ or first fault → whole ≡ or first' line
first_more whole first first' fault line rest p q r = p ∙ ap (or first) q ∙ or_assoc first fault line ∙ ap (λ o. or o line) (sym r)

line_of_text : (n : ℕ) (fault : RunFault) → IsOfText fault → IsOfLine (in_line n fault)
line_of_text n run.NotUtf8 h = tt
line_of_text n (run.Shape cause) h = tt
line_of_text n _ h = absurd h

first_of_line : (n : ℕ) (first fault : Option RunFault) → IfSome first IsOfLine → IfSome fault IsOfText → IfSome (or first (option_map (in_line n) fault)) IsOfLine
first_of_line n (Some first) fault p q = p
first_of_line n None (Some fault) p q = line_of_text n fault q
first_of_line n None None p q = tt

pub first_more_of_line : (n : ℕ) (first fault first' : Option RunFault) → first' ≡ or first (option_map (in_line n) fault) → IfSome first IsOfLine → IfSome fault IsOfText → IfSome first' IsOfLine
first_more_of_line n first fault first' e p q = let P : Option RunFault → Type 0 = λ o. IfSome o IsOfLine in subst P (sym e) (first_of_line n first fault p q)

of_run : (n : ℕ) (fault : RunFault) → (fault ≢ run.OutOfMemory → IsOfText fault) → IsOfRun (in_line n fault)
of_run n run.NotUtf8 h = tt
of_run n (run.Shape cause) h = tt
of_run n run.OutOfMemory h = tt
of_run n _ h = absurd (h (λ e. cc))

-- a text's fault as that of a line is one of a run
pub line_of_run : (n : ℕ) (fault result : RunFault) → result ≡ in_line n fault → (fault ≢ run.OutOfMemory → IsOfText fault) → IsOfRun result
line_of_run n fault result e h = subst IsOfRun (sym e) (of_run n fault h)

-- ---- what is written

-- what was written, the part that was not, and what is left, once one line more was printed
pub line_pushed : (whole done part rest line after part' : List ℕ) → whole ≡ done ++ (part ++ rest) → rest ≡ line ++ after → part' ≡ part ++ line → whole ≡ done ++ (part' ++ after)
line_pushed whole done part rest line after part' e more pushed =
    e ∙ ap (λ xs. done ++ (part ++ xs)) more ∙ ap (λ xs. done ++ xs) (sym (append_assoc part line after) ∙ ap (λ xs. xs ++ after) (sym pushed))

-- the same, once some of the part was written
pub part_written : (whole done part after done' part' : List ℕ) → whole ≡ done ++ (part ++ after) → part ≡ done' ++ part' → whole ≡ (done ++ done') ++ (part' ++ after)
part_written whole done part after done' part' e wrote =
    e ∙ ap (λ xs. done ++ xs) (ap (λ xs. xs ++ after) wrote ∙ append_assoc done' part' after) ∙ sym (append_assoc done done' (part' ++ after))

-- a front of what is written
pub front_written : (a b : Option (List ℕ)) (done rest whole : List ℕ) → Appends a b done → whole ≡ done ++ rest → AppendsFront a b whole
front_written a b done rest whole p e =
    (length done, subst (Appends a b) (sym (ap (take (length done)) e ∙ take_at done rest (length done) refl)) p)

-- what was written, and a front of the next part
pub front_then : (a b c : Option (List ℕ)) (done part rest whole : List ℕ) → Appends a b done → whole ≡ done ++ (part ++ rest) → AppendsFront b c part → AppendsFront a c whole
front_then a b c done part rest whole p e (count, q) =
    front_written a c (done ++ take count part) (drop count part ++ rest) whole (Appends-trans a b c done (take count part) p q)
    (e ∙ ap (λ xs. done ++ xs) (ap (λ xs. xs ++ rest) (sym (take-append-drop count part)) ∙ append_assoc (take count part) (drop count part) rest)
    ∙ sym (append_assoc done (take count part) (drop count part ++ rest)))

-- a fact that holds anyway
pub on_any : {A E : Type 0} (r : Result A E) (P : Type 0) → P → OnErr r P
on_any (Ok a) P p = tt
on_any (Err e) P p = p
