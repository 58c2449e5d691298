-- The command lines of the programs: hb_shape [options] TABLES FONT TEXT, and kuspveli [options] FONT [TEXT].
use Rattle.std.specs.Prelude.{ℕ, ⊤, is_some, Bool, true, false, not, List, [], ◌∷◌, codes, if◌then◌else◌, Option, Some, None, Result, Ok, Err, string_bytes, unwrap_or, ◌++◌, ◌==◌, ◌+◌, ◌*◌, ◌-◌, ◌&&◌, nat_le}
use Rattle.std.specs.List.{slice_split, flat_map}
use Rattle.buffer_tags.specs.declared.feature.Feature.{Feature}
use Rattle.buffer_tags.specs.FeatureText.{feature_of_text}
use Rattle.std.specs.Str.{bytes_eq, str_to_ascii_lowercase}
use Rattle.std.specs.Char.{is_ascii_digit}
use Rattle.std.specs.Option.{option_map, option_map_or, ok_or}
use Rattle.std.specs.Result.{result_map_both}
use Rattle.clap.specs.Words.{App, Kinds, Row, Rule, all_of, fault_of, first_of, matched_of, matches_of, new_app, new_rule, raw_values, with_rule}
use Rattle.clap.specs.declared.parser.matches.Found.{Found}
use Rattle.clap.specs.declared.builder.ArgAction.TheVariants.{Set, SetTrue, Append}
use Rattle.clap.specs.declared.error.kind.ErrorKind.{ErrorKind}
use Rattle.clap.specs.declared.error.kind.ErrorKind.TheVariants as kind
use Rattle.buffer_glyphs.specs.declared.flags.SerializeFlags.{SerializeFlags}
use Rattle.buffer_glyphs.specs.declared.level.BufferClusterLevel.{BufferClusterLevel}
use Rattle.buffer_glyphs.specs.declared.level.BufferClusterLevel.TheVariants.{MonotoneGraphemes, MonotoneCharacters, Characters, Graphemes}
use Rattle.shell_readers.specs.declared.fault.RunFault.{RunFault}
use Rattle.shell_readers.specs.declared.fault.RunFault.TheVariants.{Words, OutOfMemory}
use Rattle.shell_words.specs.declared.command.Kind.{Kind}
use Rattle.shell_words.specs.declared.command.Kind.TheVariants.{Value, Values, Switch, File, Optional}
use Rattle.shell_readers.specs.declared.options.Options.{Options}
use Rattle.shell_words.specs.declared.font_options.FontLine.{FontLine}
use Rattle.shell_words.specs.declared.font_options.FontCommand.{FontCommand}
use Rattle.shell_words.specs.declared.font_options.FontCommand.TheVariants as command
use Rattle.shell_words.specs.declared.options.CommandLine.{CommandLine}
use Rattle.shell_words.specs.declared.options.Printing.{Printing}
use Rattle.buffer_common.specs.declared.constants.BufferFlags.{BufferFlags}
use Rattle.buffer_common.specs.Language.{language_text}
use Rattle.buffer_common.specs.declared.direction.Direction.{Direction}
use Rattle.buffer_common.specs.declared.direction.Direction.TheVariants.{Invalid}
use Rattle.buffer_common.specs.declared.script.Script.{Script}
use Rattle.buffer_common.specs.declared.script.InvalidScript.{InvalidScript}
use Rattle.buffer_common.specs.Direction.{direction_of_text}
use Rattle.buffer_common.specs.Script.{script_of_text}

-- ---- the command

-- a file name, which is required
abbrev pub file_rule : List ℕ → Rule
file_rule id = record (new_rule id) { required = true; action = Some Set }

-- an option with a value: `--name value` or `--name=value`
abbrev pub option_rule : List ℕ → Rule
option_rule id = record (new_rule id) { long = Some id; action = Some Set }

-- an option with a value that may occur several times
abbrev pub list_rule : List ℕ → Rule
list_rule id = record (new_rule id) { long = Some id; action = Some Append }

-- an option without a value
abbrev pub switch_rule : List ℕ → Rule
switch_rule id = record (new_rule id) { long = Some id; action = Some SetTrue }

-- a switch with a short name too
abbrev pub short_rule : ℕ → List ℕ → Rule
short_rule short id = record (new_rule id) { long = Some id; short = Some short; action = Some SetTrue }

-- the name of a file, or a text, that may be missing
abbrev pub optional_rule : List ℕ → Rule
optional_rule id = record (new_rule id) { action = Some Set }

-- the rule of an argument of a kind
abbrev pub rule_by : Kind → List ℕ → Rule
rule_by Value id = option_rule id
rule_by Values id = list_rule id
rule_by Switch id = switch_rule id
rule_by File id = file_rule id
rule_by Optional id = optional_rule id

-- a command with an argument for each name
abbrev pub with_all : (List ℕ → Rule) → List (List ℕ) → App → App
with_all rule [] app = app
with_all rule (id ∷ ids) app = with_all rule ids (with_rule app (rule id))

-- the options with a value
abbrev pub value_names : List (List ℕ)
value_names = codes "direction" ∷ codes "script" ∷ codes "language" ∷ codes "cluster-level" ∷ []

-- the switches, those of the text first, then those of the output
abbrev pub switch_names : List (List ℕ)
switch_names = codes "bot" ∷ codes "eot" ∷ codes "preserve-default-ignorables" ∷ codes "remove-default-ignorables" ∷ codes "no-dotted-circle"
    ∷ codes "unsafe-to-concat" ∷ codes "safe-to-insert-tatweel" ∷ codes "safe-breaks"
    ∷ codes "no-clusters" ∷ codes "no-positions" ∷ codes "no-glyph-names" ∷ codes "show-extents" ∷ codes "show-flags" ∷ codes "no-advances" ∷ codes "slices"
    ∷ codes "lines" ∷ codes "keep-going" ∷ []

-- the names of the three files
abbrev pub file_names : List (List ℕ)
file_names = codes "tables" ∷ codes "font" ∷ codes "text" ∷ []

-- a command with the options of a text; `--features` is the only option that may occur several times
abbrev pub with_options : App → App
with_options app = with_all switch_rule switch_names (with_all list_rule (codes "features" ∷ []) (with_all option_rule value_names app))

-- the command of the program `hb_shape`: the options, and three files
abbrev pub hb_shape : App
hb_shape = with_all file_rule file_names (with_options (new_app (codes "hb_shape")))

-- a command without clap's own switch for help
abbrev pub plain_app : List ℕ → App
plain_app name = record { top = record (new_app name).top { disable_help_flag = true }; subs = [] }

-- the command of the program `kuspveli`: the options, the index of a font, whether the font is printed, help, version, a
-- font file, and a text that may be missing; the font file may be missing beside help and version
abbrev pub kuspveli : App
kuspveli =
    with_all optional_rule (codes "font" ∷ codes "text" ∷ [])
    (with_rule (with_rule
    (with_all switch_rule (codes "json" ∷ []) (with_all option_rule (codes "face" ∷ []) (with_options (plain_app (codes "kuspveli")))))
    (short_rule 104 (codes "help")))
    (short_rule 86 (codes "version")))

-- ---- the options

-- the options, without the memory that their strings occupy
pub record OptionValues : Type 0 where
  pub direction : Direction
  pub script : Option Script
  -- the language: a tag of BCP 47 in lower case
  pub language : Option (List ℕ)
  pub features : List Feature
  pub cluster_level : BufferClusterLevel
  pub buffer_flags : BufferFlags
  pub flags : SerializeFlags
  pub slices : Bool
  pub lines : Bool
  pub keep_going : Bool

-- the options and file names of `hb_shape`, without the memory that their strings occupy
pub record Settings : Type 0 where
  pub tables : List ℕ
  pub font : List ℕ
  pub text : List ℕ
  pub options : OptionValues

-- the options, the font file, the index of its font and the text of `kuspveli`; no text is standard input's
pub record FontSettings : Type 0 where
  pub font : List ℕ
  pub face : ℕ
  pub text : Option (List ℕ)
  pub options : OptionValues

-- the values of options
abbrev pub values_of : Options → OptionValues
values_of o = record {
  direction = o.direction;
  script = o.script;
  language = option_map language_text o.language;
  features = o.features.items;
  cluster_level = o.cluster_level;
  buffer_flags = o.buffer_flags;
  flags = o.flags;
  slices = o.slices;
  lines = o.lines;
  keep_going = o.keep_going;
}

-- the options and file names of a command line of `hb_shape`
abbrev pub settings_in : CommandLine → Settings
settings_in c = record {
  tables = string_bytes c.tables;
  font = string_bytes c.font;
  text = string_bytes c.text;
  options = values_of c.options;
}

-- what the command-line words of `kuspveli` request
pub data FontRequest : Type 0 where
  -- to shape a text in a font file
  Shaping : FontSettings → FontRequest
  -- to print the font with an index of a font file
  PrintingFont : (font : List ℕ) (face : ℕ) → FontRequest
  -- to say what the words are
  Usage : FontRequest
  -- to say which version it is
  Version : FontRequest

-- the options and names of a command line of `kuspveli`
abbrev pub font_settings_in : FontLine → FontSettings
font_settings_in c = record {
  font = string_bytes c.font;
  face = c.face;
  text = option_map string_bytes c.text;
  options = values_of c.options;
}

-- the request of a command line of `kuspveli`
abbrev pub request_in : FontCommand → FontRequest
request_in (command.Shaping line) = Shaping (font_settings_in line)
request_in (command.Printing font face) = PrintingFont (string_bytes font) face
request_in command.Usage = Usage
request_in command.Version = Version

-- the first value of an id among the parsed words, if there is one
abbrev pub Lookup : Type 0
Lookup = List ℕ → Option (List ℕ)

-- the next step after a result without a fault
abbrev pub and_then : {A B : Type 0} → Result A RunFault → (A → Result B RunFault) → Result B RunFault
and_then (Ok a) next = next a
and_then (Err e) next = Err e

-- a result, with the fault of command-line words
abbrev pub or_words : {A E : Type 0} → Result A E → Result A RunFault
or_words (Ok a) = Ok a
or_words (Err e) = Err Words

-- the value of an option as its type parses it, or `missing` without the option
abbrev pub read_or : {A E : Type 0} → A → (List ℕ → Result A E) → Option (List ℕ) → Result A RunFault
read_or missing read None = Ok missing
read_or missing read (Some text) = or_words (read text)

-- the name of a file
abbrev pub file_in : List ℕ → Lookup → Result (List ℕ) RunFault
file_in id value = ok_or (value id) Words

-- the direction among the options
abbrev pub direction_in : Lookup → Result Direction RunFault
direction_in value = read_or Invalid direction_of_text (value (codes "direction"))

-- the script of a text
abbrev pub some_script : List ℕ → Result (Option Script) InvalidScript
some_script text = result_map_both Some (λ e. e) (script_of_text text)

-- the script among the options
abbrev pub script_in : Lookup → Result (Option Script) RunFault
script_in value = read_or None some_script (value (codes "script"))

-- the language of a text: any text but the empty one, in lower case
abbrev pub language_of_text : List ℕ → Result (Option (List ℕ)) RunFault
language_of_text [] = Err Words
language_of_text (byte ∷ bytes) = Ok (Some (str_to_ascii_lowercase (byte ∷ bytes)))

-- the language of an optional text
abbrev pub language_or_none : Option (List ℕ) → Result (Option (List ℕ)) RunFault
language_or_none None = Ok None
language_or_none (Some text) = language_of_text text

-- the language among the options
abbrev pub language_in : Lookup → Result (Option (List ℕ)) RunFault
language_in value = language_or_none (value (codes "language"))

-- the cluster level of a number, 0 to 3
abbrev pub level_of_text : List ℕ → Result BufferClusterLevel RunFault
level_of_text text =
    if bytes_eq text (codes "0") then Ok MonotoneGraphemes
    else if bytes_eq text (codes "1") then Ok MonotoneCharacters
    else if bytes_eq text (codes "2") then Ok Characters
    else if bytes_eq text (codes "3") then Ok Graphemes
    else Err Words

-- the cluster level of an optional text
abbrev pub level_or_default : Option (List ℕ) → Result BufferClusterLevel RunFault
level_or_default None = Ok MonotoneGraphemes
level_or_default (Some text) = level_of_text text

-- the cluster level among the options
abbrev pub level_in : Lookup → Result BufferClusterLevel RunFault
level_in value = level_or_default (value (codes "cluster-level"))

-- the pieces of a text between its commas
abbrev pub pieces_of : List ℕ → List (List ℕ)
pieces_of text = slice_split (λ byte. byte == 44) text

-- features before other features
abbrev pub after : List Feature → Result (List Feature) RunFault → Result (List Feature) RunFault
after features (Ok rest) = Ok (features ++ rest)
after features (Err e) = Err e

-- the features of pieces
abbrev pub features_of : List (List ℕ) → Result (List Feature) RunFault
features_of [] = Ok []
features_of (part ∷ parts) = and_then (or_words (feature_of_text part)) (λ feature. after (feature ∷ []) (features_of parts))

-- the features of the values of an option
abbrev pub features_in : List (List ℕ) → Result (List Feature) RunFault
features_in values = features_of (flat_map pieces_of values)

-- a switch is given
abbrev pub is_given : List ℕ → Lookup → Bool
is_given id value = option_map_or (λ text. bytes_eq text (codes "true")) (value id) false

-- a flag where its switch is given, else 0
abbrev pub flag_of : List ℕ → ℕ → Lookup → ℕ
flag_of id flag value = if is_given id value then flag else 0

-- the serialize flags of the switches
abbrev pub flags_in : Lookup → SerializeFlags
flags_in value = record {
  0 = flag_of (codes "no-clusters") 1 value
      + (flag_of (codes "no-positions") 2 value
      + (flag_of (codes "no-glyph-names") 4 value
      + (flag_of (codes "show-extents") 8 value
      + (flag_of (codes "show-flags") 16 value
      + flag_of (codes "no-advances") 32 value))));
}

-- slices are those of a whole text, and only a run over lines keeps going
abbrev pub are_consistent : Printing → Bool
are_consistent p = if p.lines then not p.slices else not p.keep_going

-- what is printed by the switches; switches that contradict each other are refused
abbrev pub consistent : Printing → Result Printing RunFault
consistent p = if are_consistent p then Ok p else Err Words

-- what is printed by the switches
abbrev pub printing_in : Lookup → Result Printing RunFault
printing_in value = consistent (record {
  slices = is_given (codes "slices") value;
  lines = is_given (codes "lines") value;
  keep_going = is_given (codes "keep-going") value;
})

-- the buffer flags of the switches
abbrev pub buffer_flags_in : Lookup → BufferFlags
buffer_flags_in value = record {
  0 = flag_of (codes "bot") 1 value
      + (flag_of (codes "eot") 2 value
      + (flag_of (codes "preserve-default-ignorables") 4 value
      + (flag_of (codes "remove-default-ignorables") 8 value
      + (flag_of (codes "no-dotted-circle") 16 value
      + (flag_of (codes "unsafe-to-concat") 64 value
      + (flag_of (codes "safe-to-insert-tatweel") 128 value
      + flag_of (codes "safe-breaks") 256 value))))));
}

-- the options of the first value of each id and all values of `features`
abbrev pub option_values : Lookup → List (List ℕ) → Result OptionValues RunFault
option_values value features =
    and_then (direction_in value) (λ direction.
    and_then (script_in value) (λ script.
    and_then (language_in value) (λ language.
    and_then (features_in features) (λ requests.
    and_then (level_in value) (λ level.
    and_then (printing_in value) (λ printing.
    Ok (record {
      direction = direction;
      script = script;
      language = language;
      features = requests;
      cluster_level = level;
      buffer_flags = buffer_flags_in value;
      flags = flags_in value;
      slices = printing.slices;
      lines = printing.lines;
      keep_going = printing.keep_going;
    })))))))

-- the file names and the options of `hb_shape`
abbrev pub settings_of : Lookup → List (List ℕ) → Result Settings RunFault
settings_of value features =
    and_then (file_in (codes "tables") value) (λ tables.
    and_then (file_in (codes "font") value) (λ font.
    and_then (file_in (codes "text") value) (λ text.
    and_then (option_values value features) (λ options.
    Ok (record { tables = tables; font = font; text = text; options = options })))))

-- the number that decimal digits write after the number of those before them; one above 65,539 is refused
abbrev pub digits_after : ℕ → List ℕ → Result ℕ RunFault
digits_after number [] = Ok number
digits_after number (digit ∷ digits) =
    if is_ascii_digit digit && nat_le number 6553 then digits_after (10 * number + (digit - 48)) digits else Err Words

-- the index of a font by a text of one or more decimal digits, at most 65,539
abbrev pub face_of_text : List ℕ → Result ℕ RunFault
face_of_text [] = Err Words
face_of_text (digit ∷ digits) = digits_after 0 (digit ∷ digits)

-- the index of a font by an optional text, 0 without it
abbrev pub face_or_first : Option (List ℕ) → Result ℕ RunFault
face_or_first None = Ok 0
face_or_first (Some text) = face_of_text text

-- the index of a font among the options
abbrev pub face_in : Lookup → Result ℕ RunFault
face_in value = face_or_first (value (codes "face"))

-- the font file, the index of its font, the text and the options of `kuspveli`
abbrev pub font_settings_of : Lookup → List (List ℕ) → Result FontSettings RunFault
font_settings_of value features =
    and_then (file_in (codes "font") value) (λ font.
    and_then (face_in value) (λ face.
    and_then (option_values value features) (λ options.
    Ok (record { font = font; face = face; text = value (codes "text"); options = options }))))

-- there is no text among the words
abbrev pub no_text : Lookup → Result ⊤ RunFault
no_text value = if is_some (value (codes "text")) then Err Words else Ok tt

-- the font file and the index of the font that is to be printed, which needs no text and no other option
abbrev pub printing_of : Lookup → Result FontRequest RunFault
printing_of value =
    and_then (file_in (codes "font") value) (λ font.
    and_then (face_in value) (λ face.
    and_then (no_text value) (λ none.
    Ok (PrintingFont font face))))

-- the request of `kuspveli`: help before the version, both before a font, and a font before a text
abbrev pub request_of : Lookup → List (List ℕ) → Result FontRequest RunFault
request_of value features =
    if is_given (codes "help") value then Ok Usage
    else if is_given (codes "version") value then Ok Version
    else if is_given (codes "json") value then printing_of value
    else and_then (font_settings_of value features) (λ settings. Ok (Shaping settings))

-- the run's fault of a parsing error
abbrev pub refusal_of : ErrorKind → RunFault
refusal_of kind.OutOfMemory = OutOfMemory
refusal_of _ = Words

-- all values of an id, none without it
abbrev pub values_in : Option (List (List ℕ)) → List (List ℕ)
values_in found = unwrap_or found []

-- all values of `features` that were parsed
abbrev pub feature_values : Found → List (List ℕ)
feature_values found = values_in (option_map raw_values (matched_of found (codes "features")))

-- what words say, where a command has these faults and values
abbrev pub said_or_fault : {S : Type 0} → (Lookup → List (List ℕ) → Result S RunFault) → Kinds → List Row → Result S RunFault
said_or_fault said [] rows = said (λ id. first_of id rows) (values_in (all_of (codes "features") rows))
said_or_fault said (fault ∷ faults) rows = Err Words

-- the options and file names of the command-line words of `hb_shape`, the first of which is the program's name; they are
-- refused where the command refuses them, and where the value of an option is not of its type
unfoldable pub options_of : List (List ℕ) → Result Settings RunFault
options_of words = said_or_fault settings_of (fault_of hb_shape words) (matches_of hb_shape words)

-- the request of the command-line words of `kuspveli`, the first of which is the program's name; they are refused where
-- the command refuses them, and, but beside help and version, where the font file is missing or the value of an option
-- is not of its type
unfoldable pub font_request_of : List (List ℕ) → Result FontRequest RunFault
font_request_of words = said_or_fault request_of (fault_of kuspveli words) (matches_of kuspveli words)
