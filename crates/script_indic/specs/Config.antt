-- What the scripts of the Indic shaper differ in (HarfBuzz: indic_config_t).
use Rattle.std.specs.Prelude.{ℕ, ◌==◌, Bool, true, false, List, [], ◌∷◌, Option, None, Some, find, unwrap_or}
use Rattle.std.specs.Option.{option_map}
use Rattle.buffer_common.specs.declared.script.Script.{Script}
use Rattle.buffer_common.specs.declared.script.TheConstants as script
use Rattle.script_categories.specs.declared.ot_position_t.TheConstants.{POS_AFTER_MAIN, POS_AFTER_POST, POS_AFTER_SUB, POS_BEFORE_POST, POS_BEFORE_SUB}
use Rattle.script_indic_reordering.specs.declared.script.RephMode.{RephMode}
use Rattle.script_indic_reordering.specs.declared.script.RephMode.TheVariants.{Explicit, Implicit, Logical}
use Rattle.script_indic.specs.declared.config.BlwfMode.{BlwfMode}
use Rattle.script_indic.specs.declared.config.BlwfMode.TheVariants.{PostOnly, PreAndPost}
use Rattle.script_indic.specs.declared.config.IndicConfig.{IndicConfig}

-- the values of a script by its virama, the position that a reph moves to, how a reph is encoded, where blwf forms
-- consonants, and whether only rules without context count
abbrev pub config : ℕ → ℕ → RephMode → BlwfMode → Bool → IndicConfig
config virama reph_pos mode blwf zero = record { virama = Some virama; reph_pos = reph_pos; reph_mode = mode; blwf_mode = blwf; zero_context = zero }

-- the nine scripts of the Indic shaper with their values
abbrev pub config_rows : List (Script × IndicConfig)
config_rows =
    (script.DEVANAGARI, config 0x094D POS_BEFORE_POST Implicit PreAndPost true) ∷
    (script.BENGALI, config 0x09CD POS_AFTER_SUB Implicit PreAndPost true) ∷
    (script.GURMUKHI, config 0x0A4D POS_BEFORE_SUB Implicit PreAndPost true) ∷
    (script.GUJARATI, config 0x0ACD POS_BEFORE_POST Implicit PreAndPost true) ∷
    (script.ORIYA, config 0x0B4D POS_AFTER_MAIN Implicit PreAndPost true) ∷
    (script.TAMIL, config 0x0BCD POS_AFTER_POST Implicit PreAndPost true) ∷
    (script.TELUGU, config 0x0C4D POS_AFTER_POST Explicit PostOnly true) ∷
    (script.KANNADA, config 0x0CCD POS_AFTER_POST Implicit PostOnly true) ∷
    (script.MALAYALAM, config 0x0D4D POS_AFTER_MAIN Logical PreAndPost false) ∷
    []

-- the values of a script that is none of the nine: without a virama no consonant has a form below or after the base
abbrev pub default_config : IndicConfig
default_config = record { virama = None; reph_pos = POS_BEFORE_POST; reph_mode = Implicit; blwf_mode = PreAndPost; zero_context = true }

-- the values in a script's row
abbrev pub row_of : List (Script × IndicConfig) → Script → Option IndicConfig
row_of rows s = option_map (λ (row : Script × IndicConfig). row.1) (find (λ (row : Script × IndicConfig). row.0.0.0 == s.0.0) rows)

-- the values of a script, if the text has one
abbrev pub indic_config : Option Script → IndicConfig
indic_config None = default_config
indic_config (Some s) = unwrap_or (row_of config_rows s) default_config
