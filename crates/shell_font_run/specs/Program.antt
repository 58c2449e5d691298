-- The lines of faults of the program kuspveli, and what the program does with its command-line words.
use Rattle.std.specs.Prelude.{ℕ, ◌≡◌, ◌⊎◌, ⊤, Bool, true, false, List, [], ◌∷◌, ◌++◌, Option, Some, None, Result, Ok, Err, IfSome, codes, string_bytes}
use Rattle.std.specs.Io.KnownBytes.{Appends, Keeps}
use Rattle.shell_readers.specs.declared.fault.RunFault.{RunFault}
use Rattle.shell_readers.specs.declared.fault.RunFault.TheVariants as run
use Rattle.shell_readers.specs.Fault.{message_of}
use Rattle.shell_words.specs.declared.font_options.FontLine.{FontLine}
use Rattle.shell_words.specs.Words.{font_request_of, font_settings_in}
use Rattle.shell_words.specs.Words.FontRequest.{Shaping, PrintingFont, Usage, Version}
use Rattle.shell_run.specs.declared.program.Ending.{Ending}
use Rattle.shell_run.specs.Program.{Asks, IsAnswered, Opening, ReachesReadLimit, Reports, Source}
use Rattle.shell_run.specs.Program.Source.{File, Input}
use Rattle.shell_run.specs.Run.{AppendsFront, OfAnswer, SomeBytes, may_have_written}
use Rattle.shell_font_run.specs.declared.fault.FaultSubject.{FaultSubject}
use Rattle.shell_font_run.specs.declared.fault.FaultSubject.TheVariants as subject
use Rattle.shell_font_run.specs.declared.fault.FontRunFault.{FontRunFault}
use Rattle.shell_font_run.specs.declared.texts.TheConstants.{USAGE, VERSION_LINE}
use Rattle.shell_run.specs.Lines.{Answer}
use Rattle.shell_font_run.specs.Run.{IsFontAnswer, font_answer}

-- ---- faults and their lines

-- what a run's fault is about: the font file for one of its format, the text for one of its bytes, the output for writing
abbrev pub subject_of : RunFault → FaultSubject
subject_of (run.Font fault) = subject.Font
subject_of run.NotUtf8 = subject.Text
subject_of (run.Shape cause) = subject.Text
subject_of (run.Line number fault) = subject.Text
subject_of run.Write = subject.Output
subject_of fault = subject.Neither

-- a fault of a run, about what its cause says
abbrev pub fault_of_run : RunFault → FontRunFault
fault_of_run cause = record { cause = cause; subject = subject_of cause }

-- a text after what a fault is about, for a font file of a name
abbrev pub about : List ℕ → FaultSubject → List ℕ → List ℕ
about font subject.Font text = font ++ (codes ": " ++ text)
about font subject.Text text = codes "text: " ++ text
about font subject.Output text = codes "output: " ++ text
about font subject.Neither text = text

-- the line of a fault: the program's name, what the fault is about, its cause, and a line feed
abbrev pub line_of_fault : List ℕ → FontRunFault → List ℕ
line_of_fault font fault = codes "kuspveli: " ++ about font fault.subject (message_of fault.cause ++ 10 ∷ [])

-- ---- how it ends

-- the causes by which a result ends the program: none for Ok
abbrev pub cause_of : Result ⊤ FontRunFault → Option RunFault
cause_of (Ok done) = None
cause_of (Err fault) = Some fault.cause

-- the line that a result ends the program with, for a font file of a name: none for Ok
abbrev pub line_of : List ℕ → Result ⊤ FontRunFault → List ℕ
line_of font (Ok done) = []
line_of font (Err fault) = line_of_fault font fault

-- the result of an end by the run's own faults
abbrev pub result_of : Option RunFault → Result ⊤ FontRunFault
result_of None = Ok tt
result_of (Some cause) = Err (fault_of_run cause)

-- ---- a run

-- what a run that has such answers writes, by its end; `may_have_written` says before which faults it may have written
pub record IsRunOf (Answers : Answer → Type 0) (may_have_written : RunFault → Bool) (old new : Option (List ℕ)) (end : Option RunFault) : Type 0 where
  -- without a fault, or with one of the bytes, the bytes of the answer that has this end are written
  pub answered : IsAnswered end → SomeBytes Answers end (Appends old new)
  -- else nothing is written, or a prefix of the answer's bytes
  pub front : Keeps old new ⊎ OfAnswer Answers (AppendsFront old new)
  -- before other faults nothing is written
  pub kept : IfSome end (λ fault. may_have_written fault ≡ false → Keeps old new)

-- a run over the bytes of a font file and of a text
abbrev pub IsFontRun : FontLine → List ℕ → List ℕ → Option (List ℕ) → Option (List ℕ) → Option RunFault → Type 0
IsFontRun line font text = IsRunOf (IsFontAnswer line.options line.face font text) (may_have_written line.options)

-- a fault of writing
abbrev pub is_of_writing : RunFault → Bool
is_of_writing run.Write = true
is_of_writing fault = false

-- a run that prints the font with an index of the bytes of a font file
abbrev pub IsFontPrint : ℕ → List ℕ → Option (List ℕ) → Option (List ℕ) → Option RunFault → Type 0
IsFontPrint face font = IsRunOf (λ answer. answer ≡ font_answer face font) is_of_writing

-- why a source isn't read: it can't be opened, a read fails, the limit of reads is reached, or memory is short
pub data FailsToRead (bytes : Option (List ℕ)) : RunFault → Type 0 where
  failed : FailsToRead bytes run.Read
  limit : ReachesReadLimit bytes → FailsToRead bytes run.ReadLimit
  no_memory : FailsToRead bytes run.OutOfMemory

-- bytes are those of a source, where these are known
abbrev pub AreBytes : Option (List ℕ) → List ℕ → Type 0
AreBytes known bytes = IfSome known (λ known_bytes. bytes ≡ known_bytes)

-- what the program does with the text of a command line, or of standard input, in the bytes of the font file, by the
-- sources that it asks for and by its result
pub data RunsText (line : FontLine) (bytes : Source → Option (List ℕ)) (old new : Option (List ℕ)) (font : List ℕ) : List Opening → Result ⊤ FontRunFault → Type 0 where
  -- the text is among the words
  given : (text : List ℕ) (end : Option RunFault) → (font_settings_in line).text ≡ Some text → IsFontRun line font text old new end
      → RunsText line bytes old new font [] (result_of end)
  -- it is standard input's
  input : (text : List ℕ) (end : Option RunFault) → (font_settings_in line).text ≡ None → AreBytes (bytes Input) text → IsFontRun line font text old new end
      → RunsText line bytes old new font ((Input, true) ∷ []) (result_of end)
  -- standard input can't be read
  unread : (opened : Bool) (cause : RunFault) → (font_settings_in line).text ≡ None → FailsToRead (bytes Input) cause → Keeps old new
      → RunsText line bytes old new font ((Input, opened) ∷ []) (Err (record { cause = cause; subject = subject.Text }))

-- what the program does with the bytes of a font file that is printed: nothing else is asked for
pub data PrintsFont (face : ℕ) (old new : Option (List ℕ)) (font : List ℕ) : List Opening → Result ⊤ FontRunFault → Type 0 where
  printed : (end : Option RunFault) → IsFontPrint face font old new end → PrintsFont face old new font [] (result_of end)

-- what the program does with a font file of a name, and then with its bytes, by the sources that it asks for and by its
-- result
pub data ReadsFont (name : List ℕ) (bytes : Source → Option (List ℕ)) (old new : Option (List ℕ)) (Then : List ℕ → List Opening → Result ⊤ FontRunFault → Type 0)
    : List Opening → Result ⊤ FontRunFault → Type 0 where
  -- the font file can't be read, and nothing else is asked for
  unread : (opened : Bool) (cause : RunFault) → FailsToRead (bytes (File name)) cause → Keeps old new
      → ReadsFont name bytes old new Then ((File name, opened) ∷ []) (Err (record { cause = cause; subject = subject.Font }))
  -- its bytes are read
  read : (font : List ℕ) (openings : List Opening) (result : Result ⊤ FontRunFault) → AreBytes (bytes (File name)) font → Then font openings result
      → ReadsFont name bytes old new Then ((File name, true) ∷ openings) result

-- a font file of a name is asked for, read and used, with this result
abbrev pub DoesFont : List ℕ → (Source → Option (List ℕ)) → Option (List Opening) → Option (List Opening) → Option (List ℕ) → Option (List ℕ)
    → (List ℕ → List Opening → Result ⊤ FontRunFault → Type 0) → Result ⊤ FontRunFault → Type 0
DoesFont name bytes asked_old asked_new old new Then result =
    (openings : List Opening) × Asks asked_old asked_new openings × ReadsFont name bytes old new Then openings result

-- ---- the program

-- what writing a text of the program's own does to standard output, by its end
pub data IsSaying (text : List ℕ) (old new : Option (List ℕ)) : Option RunFault → Type 0 where
  -- it is written
  said : Appends old new text → IsSaying text old new None
  -- a write fails after a prefix of it
  cut : AppendsFront old new text → IsSaying text old new (Some run.Write)

-- what the program does with its command-line words, by the sources that it asks for, its end and the line of its fault
pub data IsFontProgram (words : List (List ℕ)) (bytes : Source → Option (List ℕ)) (old new : Option (List ℕ)) : List Opening → Option RunFault → List ℕ → Type 0 where
  -- memory is short before a source is opened
  no_memory : Keeps old new → IsFontProgram words bytes old new [] (Some run.OutOfMemory) (line_of_fault [] (fault_of_run run.OutOfMemory))
  -- the words are refused
  refused : (fault : RunFault) → font_request_of words ≡ Err fault → Keeps old new
      → IsFontProgram words bytes old new [] (Some fault) (line_of_fault [] (fault_of_run fault))
  -- it says what its words are
  usage : (end : Option RunFault) → font_request_of words ≡ Ok Usage → IsSaying USAGE.now old new end
      → IsFontProgram words bytes old new [] end (line_of [] (result_of end))
  -- it says which version it is
  version : (end : Option RunFault) → font_request_of words ≡ Ok Version → IsSaying VERSION_LINE.now old new end
      → IsFontProgram words bytes old new [] end (line_of [] (result_of end))
  -- it shapes a text in a font file
  shaping : (line : FontLine) (openings : List Opening) (result : Result ⊤ FontRunFault) → font_request_of words ≡ Ok (Shaping (font_settings_in line))
      → ReadsFont (string_bytes line.font) bytes old new (RunsText line bytes old new) openings result
      → IsFontProgram words bytes old new openings (cause_of result) (line_of (string_bytes line.font) result)
  -- it prints a font
  printing : (name : List ℕ) (face : ℕ) (openings : List Opening) (result : Result ⊤ FontRunFault) → font_request_of words ≡ Ok (PrintingFont name face)
      → ReadsFont name bytes old new (PrintsFont face old new) openings result
      → IsFontProgram words bytes old new openings (cause_of result) (line_of name result)

-- the program asks for sources and ends as it does with its words, and the line of its fault is written
abbrev pub EndsFontProgram : List (List ℕ) → (Source → Option (List ℕ)) → Option (List Opening) → Option (List Opening) → Option (List ℕ) → Option (List ℕ) → Option (List ℕ) → Option (List ℕ) → Ending → Type 0
EndsFontProgram words bytes asked_old asked_new old new err_old err_new ending =
    (openings : List Opening) × (line : List ℕ) × Asks asked_old asked_new openings
    × IsFontProgram words bytes old new openings ending.fault line × Reports ending.is_reported err_old err_new line
