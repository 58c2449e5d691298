-- Runs of bytes that pass a test.
use Rattle.std.proofs.Common.{◌≡◌, ℕ, ◌+◌, Bool, true, false, List, [], ◌∷◌, ◌++◌, suc, length, refl, sym, ◌∙◌, arith, ◌&&◌, append-nil}
use Rattle.std.specs.List.{prefix_len, list_all, take_while}
use Rattle.std.proofs.lemmas.List.{take-append-drop}
use Rattle.std.proofs.Math.Seq.{drop-append_seam, take-append_seam}
use Rattle.buffer_tags.specs.TextParser.{after_run}
use Rattle.buffer_tags.specs.FeatureGrammar.{BeginsWithout}
use Rattle.buffer_facts.proofs.Truth.{both_true}
use Rattle.buffer_facts.proofs.Numbers.{one_more}

-- by a test's answer
pub by_cases : {G : Type 0} (b : Bool) → (b ≡ true → G) → (b ≡ false → G) → G
by_cases true f g = f refl
by_cases false f g = g refl

pub prefix_len-run : (p : ℕ → Bool) (run rest : List ℕ) → list_all p run ≡ true → BeginsWithout p rest → prefix_len p (run ++ rest) ≡ length run
prefix_len-run p [] [] all stops = refl
prefix_len-run p [] (byte ∷ rest) all stops = rw stops refl
prefix_len-run p (byte ∷ run) rest all stops =
    let parts : (p byte ≡ true) × (list_all p run ≡ true) = both_true (p byte) (list_all p run) all in
    let first : p byte ≡ true = parts.0 in
    rw first (omega (arith, prefix_len-run p run rest parts.1 stops))

pub take_while-run : (p : ℕ → Bool) (run rest : List ℕ) → list_all p run ≡ true → BeginsWithout p rest → take_while p (run ++ rest) ≡ run
take_while-run p run rest all stops = rw (prefix_len-run p run rest all stops) (take-append_seam run rest)

pub after_run-run : (p : ℕ → Bool) (run rest : List ℕ) → list_all p run ≡ true → BeginsWithout p rest → after_run p (run ++ rest) ≡ rest
after_run-run p run rest all stops = rw (prefix_len-run p run rest all stops) (drop-append_seam run rest)

-- a run before a text changes nothing of what is after all runs
pub after_run-more : (p : ℕ → Bool) (run rest : List ℕ) → list_all p run ≡ true → after_run p (run ++ rest) ≡ after_run p rest
after_run-more p [] rest all = refl
after_run-more p (byte ∷ run) rest all =
    let parts : (p byte ≡ true) × (list_all p run ≡ true) = both_true (p byte) (list_all p run) all in
    let first : p byte ≡ true = parts.0 in
    rw (first, one_more (prefix_len p (run ++ rest))) (after_run-more p run rest parts.1)

pub after_run-none : (p : ℕ → Bool) (text : List ℕ) → BeginsWithout p text → after_run p text ≡ text
after_run-none p [] stops = refl
after_run-none p (byte ∷ rest) stops = rw stops refl

pub after_run-stops : (p : ℕ → Bool) (text : List ℕ) → BeginsWithout p (after_run p text)
after_run-stops p [] = tt
after_run-stops p (byte ∷ rest) =
    by_cases (p byte)
    (λ e. rw (e, one_more (prefix_len p rest)) (after_run-stops p rest))
    (λ e. rw e e)

pub list_all-run : (p : ℕ → Bool) (text : List ℕ) → list_all p (take_while p text) ≡ true
list_all-run p [] = refl
list_all-run p (byte ∷ rest) =
    by_cases (p byte)
    (λ e. rw (e, one_more (prefix_len p rest)) (let others : list_all p (take_while p rest) ≡ true = list_all-run p rest in rw (e, others) refl))
    (λ e. rw e refl)

pub run_and_rest : (p : ℕ → Bool) (text : List ℕ) → text ≡ take_while p text ++ after_run p text
run_and_rest p text = sym (take-append-drop (prefix_len p text) text)

-- a text with nothing after its run is that run
pub list_all-whole : (p : ℕ → Bool) (text : List ℕ) → after_run p text ≡ [] → list_all p text ≡ true
list_all-whole p text e =
    let whole : take_while p text ++ [] ≡ text = sym (rw e at (run_and_rest p text)) in
    let same : take_while p text ≡ text = sym (append-nil (take_while p text)) ∙ whole in
    rw same at (list_all-run p text)
