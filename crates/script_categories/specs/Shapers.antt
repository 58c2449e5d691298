-- The shapers that find syllables: their categories of characters and their kinds of syllables.
use Rattle.std.specs.Prelude.{ℕ, Bool, ◌==◌, List, [], ◌∷◌, Option, Some, None, codes, unwrap_or, if◌then◌else◌}
use Rattle.std.specs.List.{list_any}
use Rattle.std.specs.Str.{bytes_eq}
use Rattle.script_categories.specs.declared.shaper.hb_ot_script_shaper_t.{hb_ot_script_shaper_t}
use Rattle.script_categories.specs.declared.shaper.hb_ot_script_shaper_t.TheVariants.{INDIC_SHAPER, KHMER_SHAPER, MYANMAR_SHAPER, UNIVERSAL_SHAPER}
use Rattle.script_categories.specs.declared.syllable_kinds.indic.TheConstants as indic
use Rattle.script_categories.specs.declared.syllable_kinds.khmer.TheConstants as khmer
use Rattle.script_categories.specs.declared.syllable_kinds.myanmar.TheConstants as myanmar
use Rattle.script_categories.specs.declared.syllable_kinds.universal.TheConstants as universal
use Rattle.script_categories.specs.Indic.{ot_categories}
use Rattle.script_categories.specs.Names.{AreNumbered, number_of}
use Rattle.script_categories.specs.Universal.{universal_categories}

-- the names of the Indic shaper's kinds
abbrev pub indic_kinds : List (List ℕ × ℕ)
indic_kinds =
    (codes "consonant", indic.CONSONANT_SYLLABLE) ∷
    (codes "vowel", indic.VOWEL_SYLLABLE) ∷
    (codes "standalone", indic.STANDALONE_CLUSTER) ∷
    (codes "symbol", indic.SYMBOL_CLUSTER) ∷
    (codes "broken", indic.BROKEN_CLUSTER) ∷
    (codes "non", indic.NON_INDIC_CLUSTER) ∷
    []

-- the names of the Khmer shaper's kinds
abbrev pub khmer_kinds : List (List ℕ × ℕ)
khmer_kinds = (codes "consonant", khmer.CONSONANT_SYLLABLE) ∷ (codes "broken", khmer.BROKEN_CLUSTER) ∷ (codes "non", khmer.NON_KHMER_CLUSTER) ∷ []

-- the names of the Myanmar shaper's kinds
abbrev pub myanmar_kinds : List (List ℕ × ℕ)
myanmar_kinds =
    (codes "consonant", myanmar.CONSONANT_SYLLABLE) ∷ (codes "broken", myanmar.BROKEN_CLUSTER) ∷ (codes "non", myanmar.NON_MYANMAR_CLUSTER) ∷ []

-- the names of the universal shaper's kinds
abbrev pub universal_kinds : List (List ℕ × ℕ)
universal_kinds =
    (codes "independent", universal.INDEPENDENT_CLUSTER) ∷
    (codes "virama", universal.VIRAMA_TERMINATED_CLUSTER) ∷
    (codes "sakot", universal.SAKOT_TERMINATED_CLUSTER) ∷
    (codes "standard", universal.STANDARD_CLUSTER) ∷
    (codes "number_joiner", universal.NUMBER_JOINER_TERMINATED_CLUSTER) ∷
    (codes "numeral", universal.NUMERAL_CLUSTER) ∷
    (codes "symbol", universal.SYMBOL_CLUSTER) ∷
    (codes "hieroglyph", universal.HIEROGLYPH_CLUSTER) ∷
    (codes "broken", universal.BROKEN_CLUSTER) ∷
    (codes "non", universal.NON_CLUSTER) ∷
    []

-- the names of a shaper's kinds of syllables, none where it finds no syllables
abbrev pub kinds_of : hb_ot_script_shaper_t → List (List ℕ × ℕ)
kinds_of INDIC_SHAPER = indic_kinds
kinds_of KHMER_SHAPER = khmer_kinds
kinds_of MYANMAR_SHAPER = myanmar_kinds
kinds_of UNIVERSAL_SHAPER = universal_kinds
kinds_of _ = []

-- the kind of non-clusters, 0 where the shaper has none
abbrev pub non_kind_of : hb_ot_script_shaper_t → ℕ
non_kind_of shaper = unwrap_or (number_of (kinds_of shaper) (codes "non")) 0

-- the kinds whose syllables are reordered
abbrev pub reordered_kinds : hb_ot_script_shaper_t → List ℕ
reordered_kinds INDIC_SHAPER = indic.CONSONANT_SYLLABLE ∷ indic.VOWEL_SYLLABLE ∷ indic.STANDALONE_CLUSTER ∷ indic.BROKEN_CLUSTER ∷ []
reordered_kinds KHMER_SHAPER = khmer.CONSONANT_SYLLABLE ∷ khmer.BROKEN_CLUSTER ∷ []
reordered_kinds MYANMAR_SHAPER = myanmar.CONSONANT_SYLLABLE ∷ myanmar.BROKEN_CLUSTER ∷ []
reordered_kinds UNIVERSAL_SHAPER =
    universal.VIRAMA_TERMINATED_CLUSTER ∷ universal.SAKOT_TERMINATED_CLUSTER ∷ universal.STANDARD_CLUSTER ∷ universal.SYMBOL_CLUSTER
    ∷ universal.BROKEN_CLUSTER ∷ []
reordered_kinds _ = []

-- the shaper reorders syllables of the kind
abbrev pub is_reordered : hb_ot_script_shaper_t → ℕ → Bool
is_reordered shaper kind = list_any (λ reordered. kind == reordered) (reordered_kinds shaper)

-- the names of a shaper's categories
abbrev pub categories_of : hb_ot_script_shaper_t → List (List ℕ × ℕ)
categories_of INDIC_SHAPER = ot_categories
categories_of KHMER_SHAPER = ot_categories
categories_of MYANMAR_SHAPER = ot_categories
categories_of UNIVERSAL_SHAPER = universal_categories
categories_of _ = []

-- the shaper of a machine's name
abbrev pub machine_shaper : List ℕ → Option hb_ot_script_shaper_t
machine_shaper name =
    if bytes_eq name (codes "indic") then Some INDIC_SHAPER
    else if bytes_eq name (codes "khmer") then Some KHMER_SHAPER
    else if bytes_eq name (codes "myanmar") then Some MYANMAR_SHAPER
    else if bytes_eq name (codes "universal") then Some UNIVERSAL_SHAPER
    else None

-- law: the kinds of each shaper are numbered from 0 on, each with a name of its own
abbrev pub KindsAreNumbered : Type 0
KindsAreNumbered = (shaper : hb_ot_script_shaper_t) → AreNumbered (kinds_of shaper)
