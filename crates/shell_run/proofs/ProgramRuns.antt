-- The program's runs.
use Rattle.std.proofs.Common.{ℕ, ◌≡◌, ◌≢◌, List, [], Result, Ok, Err, refl, ap, subst, sym, inl, inr, false}
use Rattle.std.specs.Prelude.{◌⊎◌, ⊤, Option, Some, None, IfErr, IsErrAnd, OnOk, string_bytes}
use Rattle.std.specs.Io.KnownBytes.{Appends, Keeps}
use Rattle.shell_readers.specs.declared.fault.RunFault.{RunFault}
use Rattle.shell_readers.specs.declared.fault.RunFault.TheVariants.{OutOfMemory, Read, ReadLimit, Words, Write}
use Rattle.shell_readers.specs.declared.options.Options.{Options}
use Rattle.shell_readers.specs.Faults.{IsOfBytes}
use Rattle.shell_words.specs.declared.options.CommandLine.{CommandLine}
use Rattle.shell_words.specs.Words.{options_of, settings_in}
use Rattle.shell_run.specs.Answer.{IsAnswer}
use Rattle.shell_run.specs.Lines.{fault_of}
use Rattle.shell_run.specs.Program.{Asks, EndsAtMissing, HasBytes, IsRun, Opening, ReachesReadLimit, Runs, Source, all_opened, sources_of, text_source}
use Rattle.shell_run.specs.Program.IsProgram.{missing, no_memory, refused, run}
use Rattle.shell_run.specs.Program.Source.{File}
use Rattle.shell_run.specs.Run.{AppendsFront, OfAnswer, OnKnown, SomeBytes, may_have_written}
use Rattle.shell_run.proofs.Openings.{asks_none}

stays : (a : Option (List ℕ)) → Keeps a a
stays None = tt
stays (Some x) = refl

module _ (words : List (List ℕ)) (bytes : Source → Option (List ℕ)) where
  -- the words are refused, or memory is short
  pub ends_with_words : (asked : Option (List Opening)) (old : Option (List ℕ)) (e : RunFault) → (e ≢ OutOfMemory → options_of words ≡ Err e) → Runs words bytes asked asked old old (Some e)
  ends_with_words asked old OutOfMemory h = ([], asks_none asked, no_memory (stays old))
  ends_with_words asked old e h = ([], asks_none asked, refused e (h (λ bad. cc)) (stays old))

  -- a source can't be opened
  pub ends_with_missing : (asked asked' : Option (List Opening)) (old : Option (List ℕ)) (line : CommandLine) → options_of words ≡ Ok (settings_in line)
      → (openings : List Opening) × Asks asked asked' openings × EndsAtMissing (sources_of line) openings → Runs words bytes asked asked' old old (Some Read)
  ends_with_missing asked asked' old line same (openings, asks, ends) = (openings, asks, missing line openings same ends (stays old))

  -- it is a run
  pub ends_with_run : (asked asked' : Option (List Opening)) (old new : Option (List ℕ)) (line : CommandLine) (end : Option RunFault) → options_of words ≡ Ok (settings_in line)
      → Asks asked asked' (all_opened (sources_of line))
      → IsRun line.options (bytes (File (string_bytes line.tables))) (bytes (File (string_bytes line.font))) (bytes (text_source (string_bytes line.text))) old new end
      → Runs words bytes asked asked' old new end
  ends_with_run asked asked' old new line end same asks is = (all_opened (sources_of line), asks, run line end same is)

-- ---- a run over sources whose bytes are known

known_as : (P : List ℕ → List ℕ → List ℕ → Type 0) (ts fs xs rs ss us : Option (List ℕ)) → HasBytes ts rs → HasBytes fs ss → HasBytes xs us → OnKnown rs ss us P → OnKnown ts fs xs P
known_as P (Some t) (Some f) (Some x) rs ss us p q r h =
    let A : Option (List ℕ) → Type 0 = λ k. OnKnown k ss us P in
    let B : Option (List ℕ) → Type 0 = λ k. OnKnown (Some t) k us P in
    let C : Option (List ℕ) → Type 0 = λ k. OnKnown (Some t) (Some f) k P in
    subst C r (subst B q (subst A p h))
known_as P (Some t) (Some f) None rs ss us p q r h = tt
known_as P (Some t) None xs rs ss us p q r h = tt
known_as P None fs xs rs ss us p q r h = tt

either_known : (K A B : Type 0) → (A → B) → K ⊎ A → K ⊎ B
either_known K A B f (inl k) = inl k
either_known K A B f (inr a) = inr (f a)

pub reaches_known : (known remaining : Option (List ℕ)) → HasBytes known remaining → ReachesReadLimit remaining → ReachesReadLimit known
reaches_known None remaining has long = tt
reaches_known (Some bytes) remaining has long = subst ReachesReadLimit has long

module _ (options : Options) (ts fs xs rs ss us old new : Option (List ℕ)) (p : HasBytes ts rs) (q : HasBytes fs ss) (r : HasBytes xs us) where
  some_reaches : ReachesReadLimit rs ⊎ ReachesReadLimit ss ⊎ ReachesReadLimit us → ReachesReadLimit ts ⊎ ReachesReadLimit fs ⊎ ReachesReadLimit xs
  some_reaches (inl tables) = inl (reaches_known ts rs p tables)
  some_reaches (inr (inl font)) = inr (inl (reaches_known fs ss q font))
  some_reaches (inr (inr text)) = inr (inr (reaches_known xs us r text))

  -- what `run` ensures
  pub is_run : (result : Result ⊤ RunFault)
      → OnOk result (OnKnown rs ss us (λ a b c. SomeBytes (IsAnswer options a b c) None (Appends old new)))
      → IfErr result (λ e. IsOfBytes e → OnKnown rs ss us (λ a b c. SomeBytes (IsAnswer options a b c) (Some e) (Appends old new)))
      → (result ≡ Err Write → OnKnown rs ss us (λ a b c. OfAnswer (IsAnswer options a b c) (AppendsFront old new)))
      → (result ≡ Err OutOfMemory → Keeps old new ⊎ OnKnown rs ss us (λ a b c. OfAnswer (IsAnswer options a b c) (AppendsFront old new)))
      → IfErr result (λ e. may_have_written options e ≡ false → Keeps old new)
      → result ≢ Err Words
      → (result ≡ Err ReadLimit → ReachesReadLimit rs ⊎ ReachesReadLimit ss ⊎ ReachesReadLimit us)
      → IsRun options ts fs xs old new (fault_of result)
  is_run (Ok done) written refuses front memory kept parsed limit = record {
    answered = λ _. known_as (λ a b c. SomeBytes (IsAnswer options a b c) None (Appends old new)) ts fs xs rs ss us p q r written;
    write_last = λ same. cc;
    no_memory = λ same. let no : ⊥ = cc in absurd no;
    kept = tt;
    not_words = λ same. let no : ⊥ = cc in absurd no;
    read_limit = λ same. let no : ⊥ = cc in absurd no;
  }
  is_run (Err e) written refuses front memory kept parsed limit = record {
    answered = λ of. known_as (λ a b c. SomeBytes (IsAnswer options a b c) (Some e) (Appends old new)) ts fs xs rs ss us p q r (refuses of);
    write_last = λ same. let is : e ≡ Write = cc in known_as (λ a b c. OfAnswer (IsAnswer options a b c) (AppendsFront old new)) ts fs xs rs ss us p q r (front (ap Err is));
    no_memory = λ same. let is : e ≡ OutOfMemory = cc in
        either_known (Keeps old new) _ _ (λ some. known_as (λ a b c. OfAnswer (IsAnswer options a b c) (AppendsFront old new)) ts fs xs rs ss us p q r some) (memory (ap Err is));
    kept = kept;
    not_words = λ same. let is : e ≡ Words = cc in parsed (ap Err is);
    read_limit = λ same. let is : e ≡ ReadLimit = cc in some_reaches (limit (ap Err is));
  }

-- the end of a result that `?` passes on
pub ended_with : (result : Result ⊤ RunFault) (e : RunFault) (P : Option RunFault → Type 0) → IsErrAnd result (λ (f : RunFault). f ≡ e) → P (Some e) → P (fault_of result)
ended_with (Ok done) e P h p = absurd h
ended_with (Err f) e P h p = subst (λ (x : RunFault). P (Some x)) (sym h) p
