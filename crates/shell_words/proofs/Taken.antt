-- What a parse answers, by what the command makes of the words.
use Rattle.std.proofs.Common.{◌≡◌, ◌≢◌, ◌∙◌, List, [], ◌∷◌, codes, Option, Err, true, ap, sym, subst, refl, inl, inr, Result}
use Rattle.std.specs.Option.{option_map}
use Rattle.clap.specs.Words.{App, HasKind, HasMatchesOf, IsAmong, Kinds, Row, Text, fault_of, first_of, first_value, found_of, is_simple, is_simple_and_free, kind_of, matched_of, matches_of, raw_values, rows_of, all_of}
use Rattle.clap.specs.declared.error.Error.{Error}
use Rattle.clap.specs.declared.error.kind.ErrorKind.{ErrorKind}
use Rattle.clap.specs.declared.error.kind.ErrorKind.TheVariants as kind
use Rattle.clap.specs.declared.parser.matches.ArgMatches.{ArgMatches}
use Rattle.clap.proofs.WalkLemmas.{first_value-rows, raw_values-rows}
use Rattle.shell_readers.specs.declared.fault.RunFault.TheVariants.{Words, OutOfMemory}
use Rattle.shell_readers.specs.declared.fault.RunFault.{RunFault}
use Rattle.shell_words.specs.Words.{Lookup, hb_shape, kuspveli, said_or_fault, options_of, font_request_of, refusal_of, settings_of, request_of, values_in}

simple : is_simple hb_shape ≡ true
simple = refl

simple_and_free : is_simple_and_free hb_shape ≡ true
simple_and_free = refl

simple_font : is_simple kuspveli ≡ true
simple_font = refl

simple_and_free_font : is_simple_and_free kuspveli ≡ true
simple_and_free_font = refl

said_of_none : {S : Type 0} (said : Lookup → List Text → Result S RunFault) (faults : Kinds) (rows : List Row) → faults ≡ []
    → said_or_fault said faults rows ≡ said (λ id. first_of id rows) (values_in (all_of (codes "features") rows))
said_of_none said faults rows none = ap (λ (ks : Kinds). said_or_fault said ks rows) none

said_of_some : {S : Type 0} (said : Lookup → List Text → Result S RunFault) (faults : Kinds) (rows : List Row) (k : ErrorKind) → IsAmong k faults
    → said_or_fault said faults rows ≡ Err Words
said_of_some said [] rows k among = absurd among
said_of_some said (fault ∷ faults) rows k among = refl

-- words that a command accepts say what the values found say
taken_by : {S : Type 0} (said : Lookup → List Text → Result S RunFault) (command a : App) (words : List Text) (m : ArgMatches) → is_simple command ≡ true → is_simple_and_free command ≡ true
    → a ≡ command → HasMatchesOf a words m → (is_simple_and_free a ≡ true → fault_of a words ≡ [])
    → said_or_fault said (fault_of command words) (matches_of command words) ≡ said (first_value (found_of m)) (values_in (option_map raw_values (matched_of (found_of m) (codes "features"))))
taken_by said command a words m simple free same matches faultless =
    let none : fault_of command words ≡ [] = subst (λ (b : App). is_simple_and_free b ≡ true → fault_of b words ≡ []) same faultless free in
    let has : HasMatchesOf command words m = subst (λ (b : App). HasMatchesOf b words m) same matches in
    let rows : rows_of (found_of m) ≡ matches_of command words = (has simple).0 in
    said_of_none said (fault_of command words) (matches_of command words) none
    ∙ ap (λ (rs : List Row). said (λ id. first_of id rs) (values_in (all_of (codes "features") rs))) (sym rows)
    ∙ ap (λ (value : Lookup). said value (values_in (all_of (codes "features") (rows_of (found_of m))))) (λ i id. sym (first_value-rows (found_of m) id) i)
    ∙ ap (λ (found : Option (List Text)). said (first_value (found_of m)) (values_in found)) (sym (raw_values-rows (found_of m) (codes "features")))

-- command-line words of `hb_shape` that are accepted have the values found
pub taken : (a : App) (words : List Text) (m : ArgMatches) → a ≡ hb_shape → HasMatchesOf a words m → (is_simple_and_free a ≡ true → fault_of a words ≡ [])
    → options_of words ≡ settings_of (first_value (found_of m)) (values_in (option_map raw_values (matched_of (found_of m) (codes "features"))))
unfolding options_of
taken a words m same matches faultless = taken_by settings_of hb_shape a words m simple simple_and_free same matches faultless

-- those of `kuspveli`
pub font_taken : (a : App) (words : List Text) (m : ArgMatches) → a ≡ kuspveli → HasMatchesOf a words m → (is_simple_and_free a ≡ true → fault_of a words ≡ [])
    → font_request_of words ≡ request_of (first_value (found_of m)) (values_in (option_map raw_values (matched_of (found_of m) (codes "features"))))
unfolding font_request_of
font_taken a words m same matches faultless = taken_by request_of kuspveli a words m simple_font simple_and_free_font same matches faultless

refused_words : (k : ErrorKind) → refusal_of k ≢ OutOfMemory → (k ≢ kind.OutOfMemory) × (refusal_of k ≡ Words)
refused_words kind.OutOfMemory other = absurd (other refl)
refused_words _ other = (λ e. cc, refl)

-- words that a command refuses, but for memory, have a fault
refused_by : {S : Type 0} (said : Lookup → List Text → Result S RunFault) (command a : App) (words : List Text) (e : Error) → is_simple_and_free command ≡ true
    → a ≡ command → (is_simple_and_free a ≡ true → HasKind (fault_of a words) e) → refusal_of (kind_of e) ≢ OutOfMemory
    → said_or_fault said (fault_of command words) (matches_of command words) ≡ Err (refusal_of (kind_of e))
refused_by said command a words e free same fails other =
    let facts = refused_words (kind_of e) other in
    elim (subst (λ (b : App). is_simple_and_free b ≡ true → HasKind (fault_of b words) e) same fails free) [
      | inl memory ↦ absurd (facts.0 memory)
      | inr among ↦ said_of_some said (fault_of command words) (matches_of command words) (kind_of e) among ∙ ap Err (sym facts.1)
    ]

-- words of `hb_shape` that are refused, but for memory, have a fault
pub refused : (a : App) (words : List Text) (e : Error) → a ≡ hb_shape → (is_simple_and_free a ≡ true → HasKind (fault_of a words) e) → refusal_of (kind_of e) ≢ OutOfMemory
    → options_of words ≡ Err (refusal_of (kind_of e))
unfolding options_of
refused a words e same fails other = refused_by settings_of hb_shape a words e simple_and_free same fails other

-- those of `kuspveli`
pub font_refused : (a : App) (words : List Text) (e : Error) → a ≡ kuspveli → (is_simple_and_free a ≡ true → HasKind (fault_of a words) e) → refusal_of (kind_of e) ≢ OutOfMemory
    → font_request_of words ≡ Err (refusal_of (kind_of e))
unfolding font_request_of
font_refused a words e same fails other = refused_by request_of kuspveli a words e simple_and_free_font same fails other
