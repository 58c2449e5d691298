-- Command-line words are refused by `Words` alone.
use Rattle.std.proofs.Common.{◌≡◌, ℕ, Bool, true, false, List, [], ◌∷◌, Option, Some, None, Result, Ok, Err, ap, codes}
use Rattle.std.specs.Option.{ok_or}
use Rattle.std.specs.Prelude.{if◌then◌else◌, is_some, nat_le, ◌&&◌, ◌+◌, ◌*◌, ◌-◌}
use Rattle.std.specs.Char.{is_ascii_digit}
use Rattle.std.specs.Str.{bytes_eq}
use Rattle.buffer_glyphs.specs.declared.level.BufferClusterLevel.TheVariants.{MonotoneGraphemes, MonotoneCharacters, Characters, Graphemes}
use Rattle.std.specs.List.{flat_map}
use Rattle.buffer_tags.specs.declared.feature.Feature.{Feature}
use Rattle.buffer_tags.specs.FeatureText.{feature_of_text}
use Rattle.clap.specs.Words.{Kinds, Row, Text, all_of, fault_of, first_of, matches_of}
use Rattle.shell_readers.specs.declared.fault.RunFault.{RunFault}
use Rattle.shell_readers.specs.declared.fault.RunFault.TheVariants.{Words}
use Rattle.buffer_common.specs.declared.direction.Direction.TheVariants.{Invalid}
use Rattle.buffer_common.specs.Direction.{direction_of_text}
use Rattle.shell_words.specs.declared.options.Printing.{Printing}
use Rattle.shell_words.specs.Words.{Lookup, and_then, said_or_fault, option_values, font_settings_of, font_request_of, request_of, printing_of, no_text, is_given, face_in, face_or_first, digits_after, kuspveli, after, features_in, features_of, pieces_of, values_in, direction_in, file_in, hb_shape, options_of, or_words, read_or, script_in, settings_of, some_script, language_in, language_or_none, level_in, level_of_text, level_or_default, are_consistent, consistent, printing_in}
use Rattle.shell_words.specs.Words.FontRequest.{Usage, Version}

-- a result that is refused by Words alone
abbrev RefusedByWords : {A : Type 0} → Result A RunFault → Type 0
RefusedByWords r = (e : RunFault) → r ≡ Err e → e ≡ Words

then_words : {A B : Type 0} (r : Result A RunFault) (next : A → Result B RunFault) → RefusedByWords r → ((a : A) → RefusedByWords (next a)) → RefusedByWords (and_then r next)
then_words (Ok a) next first rest e same = rest a e same
then_words (Err f) next first rest e same = let fault : f ≡ e = cc in first e (ap Err fault)

or_words-refused : {A E : Type 0} (r : Result A E) → RefusedByWords (or_words r)
or_words-refused (Ok a) e same = let no : ⊥ = cc in absurd no
or_words-refused (Err f) e same = cc

read_or-refused : {A E : Type 0} (missing : A) (read : List ℕ → Result A E) (o : Option (List ℕ)) → RefusedByWords (read_or missing read o)
read_or-refused missing read None e same = let no : ⊥ = cc in absurd no
read_or-refused missing read (Some text) e same = or_words-refused (read text) e same

file-refused : (o : Option (List ℕ)) → RefusedByWords (ok_or o Words)
file-refused None e same = cc
file-refused (Some name) e same = let no : ⊥ = cc in absurd no

after-refused : (fs : List Feature) (rest : Result (List Feature) RunFault) → RefusedByWords rest → RefusedByWords (after fs rest)
after-refused fs (Ok gs) h e same = let no : ⊥ = cc in absurd no
after-refused fs (Err f) h e same = let fault : f ≡ e = cc in h e (ap Err fault)

features-refused : (parts : List (List ℕ)) → RefusedByWords (features_of parts)
features-refused [] e same = let no : ⊥ = cc in absurd no
features-refused (part ∷ parts) e same =
    then_words (or_words (feature_of_text part)) _ (or_words-refused (feature_of_text part)) (λ f. after-refused (f ∷ []) (features_of parts) (features-refused parts)) e same

language-refused : (o : Option (List ℕ)) → RefusedByWords (language_or_none o)
language-refused None e same = let no : ⊥ = cc in absurd no
language-refused (Some []) e same = cc
language-refused (Some (byte ∷ bytes)) e same = let no : ⊥ = cc in absurd no

if-refused : {A : Type 0} (b : Bool) (r s : Result A RunFault) → RefusedByWords r → RefusedByWords s → RefusedByWords (if b then r else s)
if-refused true r s hr hs = hr
if-refused false r s hr hs = hs

ok-refused : {A : Type 0} (a : A) → RefusedByWords (Ok a)
ok-refused a e same = let no : ⊥ = cc in absurd no

words-refused : {A : Type 0} → RefusedByWords {A = A} (Err Words)
words-refused e same = cc

level-text-refused : (text : List ℕ) → RefusedByWords (level_of_text text)
level-text-refused text =
    if-refused (bytes_eq text (codes "0")) _ _ (ok-refused MonotoneGraphemes)
    (if-refused (bytes_eq text (codes "1")) _ _ (ok-refused MonotoneCharacters)
    (if-refused (bytes_eq text (codes "2")) _ _ (ok-refused Characters)
    (if-refused (bytes_eq text (codes "3")) _ _ (ok-refused Graphemes) words-refused)))

level-refused : (o : Option (List ℕ)) → RefusedByWords (level_or_default o)
level-refused None = ok-refused MonotoneGraphemes
level-refused (Some text) = level-text-refused text

consistent-refused : (p : Printing) → RefusedByWords (consistent p)
consistent-refused p = if-refused (are_consistent p) (Ok p) (Err Words) (ok-refused p) words-refused

digits-refused : (number : ℕ) (digits : List ℕ) → RefusedByWords (digits_after number digits)
digits-refused number [] = ok-refused number
digits-refused number (digit ∷ digits) = if-refused (is_ascii_digit digit && nat_le number 6553) _ _ (digits-refused (10 * number + (digit - 48)) digits) words-refused

face-refused : (o : Option (List ℕ)) → RefusedByWords (face_or_first o)
face-refused None = ok-refused 0
face-refused (Some []) = words-refused
face-refused (Some (digit ∷ digits)) = digits-refused 0 (digit ∷ digits)

values-refused : (value : Lookup) (features : List (List ℕ)) → RefusedByWords (option_values value features)
values-refused value features =
    then_words (direction_in value) _ (read_or-refused Invalid direction_of_text (value (codes "direction"))) (λ direction.
    then_words (script_in value) _ (read_or-refused None some_script (value (codes "script"))) (λ script.
    then_words (language_in value) _ (language-refused (value (codes "language"))) (λ language.
    then_words (features_in features) _ (features-refused (flat_map pieces_of features)) (λ requests.
    then_words (level_in value) _ (level-refused (value (codes "cluster-level"))) (λ level.
    then_words (printing_in value) _ (consistent-refused _) (λ printing e same. let no : ⊥ = cc in absurd no))))))

settings-refused : (value : Lookup) (features : List (List ℕ)) → RefusedByWords (settings_of value features)
settings-refused value features =
    then_words (file_in (codes "tables") value) _ (file-refused (value (codes "tables"))) (λ tables.
    then_words (file_in (codes "font") value) _ (file-refused (value (codes "font"))) (λ font.
    then_words (file_in (codes "text") value) _ (file-refused (value (codes "text"))) (λ text.
    then_words (option_values value features) _ (values-refused value features) (λ options e same. let no : ⊥ = cc in absurd no))))

font-settings-refused : (value : Lookup) (features : List (List ℕ)) → RefusedByWords (font_settings_of value features)
font-settings-refused value features =
    then_words (file_in (codes "font") value) _ (file-refused (value (codes "font"))) (λ font.
    then_words (face_in value) _ (face-refused (value (codes "face"))) (λ face.
    then_words (option_values value features) _ (values-refused value features) (λ options e same. let no : ⊥ = cc in absurd no)))

printing-refused : (value : Lookup) → RefusedByWords (printing_of value)
printing-refused value =
    then_words (file_in (codes "font") value) _ (file-refused (value (codes "font"))) (λ font.
    then_words (face_in value) _ (face-refused (value (codes "face"))) (λ face.
    then_words (no_text value) _ (if-refused (is_some (value (codes "text"))) _ _ words-refused (ok-refused tt)) (λ none e same. let no : ⊥ = cc in absurd no)))

request-refused : (value : Lookup) (features : List (List ℕ)) → RefusedByWords (request_of value features)
request-refused value features =
    if-refused (is_given (codes "help") value) _ _ (ok-refused Usage)
    (if-refused (is_given (codes "version") value) _ _ (ok-refused Version)
    (if-refused (is_given (codes "json") value) _ _ (printing-refused value)
    (then_words (font_settings_of value features) _ (font-settings-refused value features) (λ settings e same. let no : ⊥ = cc in absurd no))))

said-refused : {S : Type 0} (said : Lookup → List Text → Result S RunFault) (faults : Kinds) (rows : List Row)
    → ((value : Lookup) (features : List Text) → RefusedByWords (said value features)) → RefusedByWords (said_or_fault said faults rows)
said-refused said [] rows h e same = h (λ id. first_of id rows) (values_in (all_of (codes "features") rows)) e same
said-refused said (fault ∷ faults) rows h e same = cc

-- command-line words of `hb_shape` are refused by Words alone
pub options-refused : (words : List Text) (e : RunFault) → options_of words ≡ Err e → e ≡ Words
unfolding options_of
options-refused words = said-refused settings_of (fault_of hb_shape words) (matches_of hb_shape words) settings-refused

-- those of `kuspveli` too
pub font-request-refused : (words : List Text) (e : RunFault) → font_request_of words ≡ Err e → e ≡ Words
unfolding font_request_of
font-request-refused words = said-refused request_of (fault_of kuspveli words) (matches_of kuspveli words) request-refused
