-- The program's files and standard input, the line of a fault, and what the program does with its command-line words.
use Rattle.std.specs.Prelude.{◌≡◌, ◌≢◌, ◌≤◌, ◌^◌, ℕ, ◌⊎◌, ⊤, Bool, true, false, if◌then◌else◌, List, [], ◌∷◌, ◌++◌, Option, Some, None, Ok, Err, IfSome, codes, length, string_bytes}
use Rattle.std.specs.Io.KnownBytes.{Appends, Keeps}
use Rattle.std.specs.Str.{bytes_eq}
use Rattle.shell_readers.specs.declared.fault.RunFault.{RunFault}
use Rattle.shell_readers.specs.declared.fault.RunFault.TheVariants.{OutOfMemory, Read, ReadLimit, Words, Write}
use Rattle.shell_readers.specs.declared.options.Options.{Options}
use Rattle.shell_readers.specs.Fault.{message_of, status_of}
use Rattle.shell_readers.specs.Faults.{IsOfBytes}
use Rattle.shell_words.specs.declared.options.CommandLine.{CommandLine}
use Rattle.shell_words.specs.Words.{options_of, settings_in}
use Rattle.shell_run.specs.Answer.{IsAnswer}
use Rattle.shell_run.specs.Run.{AppendsFront, OfAnswer, OnKnown, SomeBytes, may_have_written}

-- ---- files

-- where bytes are read from: the file of a name, or standard input
pub data Source : Type 0 where
  File : List ℕ → Source
  Input : Source

-- a source that was asked for, with whether it could be opened
abbrev pub Opening : Type 0
Opening = Source × Bool

-- more sources were asked for after those before, where these are known
abbrev pub Asks : Option (List Opening) → Option (List Opening) → List Opening → Type 0
Asks None new more = ⊤
Asks (Some before) None more = ⊥
Asks (Some before) (Some after) more = after ≡ before ++ more

-- the source of the text: standard input where its name is `-`
abbrev pub text_source : List ℕ → Source
text_source name = if bytes_eq name (codes "-") then Input else File name

-- the sources of a command line, in the order in which they are opened: tables, font and text
abbrev pub sources_of : CommandLine → List Source
sources_of line = File (string_bytes line.tables) ∷ File (string_bytes line.font) ∷ text_source (string_bytes line.text) ∷ []

-- all sources can be opened
abbrev pub all_opened : List Source → List Opening
all_opened [] = []
all_opened (source ∷ sources) = (source, true) ∷ all_opened sources

-- a source that was opened has these bytes left, where its bytes are known
abbrev pub HasBytes : Option (List ℕ) → Option (List ℕ) → Type 0
HasBytes known remaining = IfSome known (λ bytes. remaining ≡ Some bytes)

-- sources are opened up to one that can't be, after which none is asked for
pub data EndsAtMissing : List Source → List Opening → Type 0 where
  missing : (source : Source) (rest : List Source) → EndsAtMissing (source ∷ rest) ((source, false) ∷ [])
  opened : (source : Source) (rest : List Source) (openings : List Opening) → EndsAtMissing rest openings → EndsAtMissing (source ∷ rest) ((source, true) ∷ openings)

-- ---- the end of the program

-- the exit status: that of the fault, 0 where there is none
abbrev pub status_of_end : Option RunFault → ℕ
status_of_end None = 0
status_of_end (Some fault) = status_of fault

-- the line of a fault: the program's name, the fault's text, and a line feed; nothing where there is none
abbrev pub line_of_end : Option RunFault → List ℕ
line_of_end None = []
line_of_end (Some fault) = codes "hb_shape: " ++ (message_of fault ++ 10 ∷ [])

-- the line of an end is written; nothing is said of a stream that could not be written
abbrev pub Reports : Bool → Option (List ℕ) → Option (List ℕ) → List ℕ → Type 0
Reports true old new line = Appends old new line
Reports false old new line = ⊤

-- ---- the program

-- an end without a fault, or with one of the bytes that were read
abbrev pub IsAnswered : Option RunFault → Type 0
IsAnswered None = ⊤
IsAnswered (Some fault) = IsOfBytes fault

-- a source that is not at its end after 2^26 reads has a byte for each, where its bytes are known
abbrev pub ReachesReadLimit : Option (List ℕ) → Type 0
ReachesReadLimit bytes = IfSome bytes (λ bs. 2 ^ 26 ≤ length bs)

-- what a run over tables, a font and a text writes, by its end, where the bytes of the three are known
pub record IsRun (options : Options) (tables font text old new : Option (List ℕ)) (end : Option RunFault) : Type 0 where
  -- the bytes of the answer that has this end are written
  pub answered : IsAnswered end → OnKnown tables font text (λ ts fs xs. SomeBytes (IsAnswer options ts fs xs) end (Appends old new))
  -- where a write failed, a prefix of the answer's bytes was written
  pub write_last : end ≡ Some Write → OnKnown tables font text (λ ts fs xs. OfAnswer (IsAnswer options ts fs xs) (AppendsFront old new))
  -- for want of memory nothing is written, or a prefix
  pub no_memory : end ≡ Some OutOfMemory → Keeps old new ⊎ OnKnown tables font text (λ ts fs xs. OfAnswer (IsAnswer options ts fs xs) (AppendsFront old new))
  -- before other faults nothing is written
  pub kept : IfSome end (λ fault. may_have_written options fault ≡ false → Keeps old new)
  -- words that were parsed are not refused
  pub not_words : end ≢ Some Words
  -- the limit of reads is reached by one of the three
  pub read_limit : end ≡ Some ReadLimit → ReachesReadLimit tables ⊎ ReachesReadLimit font ⊎ ReachesReadLimit text

-- what the program does with its command-line words, by the sources that it asks for and by its end
pub data IsProgram (words : List (List ℕ)) (bytes : Source → Option (List ℕ)) (old new : Option (List ℕ)) : List Opening → Option RunFault → Type 0 where
  -- memory is short before a source is opened
  no_memory : Keeps old new → IsProgram words bytes old new [] (Some OutOfMemory)
  -- the words are refused
  refused : (fault : RunFault) → options_of words ≡ Err fault → Keeps old new → IsProgram words bytes old new [] (Some fault)
  -- a source can't be opened
  missing : (line : CommandLine) (openings : List Opening) → options_of words ≡ Ok (settings_in line) → EndsAtMissing (sources_of line) openings → Keeps old new
      → IsProgram words bytes old new openings (Some Read)
  -- all sources are opened, and it is a run over their bytes
  run : (line : CommandLine) (end : Option RunFault) → options_of words ≡ Ok (settings_in line)
      → IsRun line.options (bytes (File (string_bytes line.tables))) (bytes (File (string_bytes line.font))) (bytes (text_source (string_bytes line.text))) old new end
      → IsProgram words bytes old new (all_opened (sources_of line)) end

-- the program asks for sources as it does with its words and this end
abbrev pub Runs : List (List ℕ) → (Source → Option (List ℕ)) → Option (List Opening) → Option (List Opening) → Option (List ℕ) → Option (List ℕ) → Option RunFault → Type 0
Runs words bytes asked_old asked_new old new end =
    (openings : List Opening) × Asks asked_old asked_new openings × IsProgram words bytes old new openings end
