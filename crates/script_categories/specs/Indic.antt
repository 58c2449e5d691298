-- The categories, positions and features of the Indic, Khmer and Myanmar shapers.
use Rattle.std.specs.Prelude.{ℕ, List, [], ◌∷◌, codes}
use Rattle.script_categories.specs.declared.ot_category_t.TheConstants as category
use Rattle.script_categories.specs.declared.ot_position_t.TheConstants as position
use Rattle.script_categories.specs.declared.indic_feature.TheConstants as indic
use Rattle.script_categories.specs.declared.khmer_feature.TheConstants as khmer
use Rattle.script_categories.specs.Names.{AreInOrder, AreNumbered}

-- the names of the categories of characters in syllables
abbrev pub ot_categories : List (List ℕ × ℕ)
ot_categories =
    (codes "X", category.OT_X) ∷
    (codes "C", category.OT_C) ∷
    (codes "V", category.OT_V) ∷
    (codes "N", category.OT_N) ∷
    (codes "H", category.OT_H) ∷
    (codes "ZWNJ", category.OT_ZWNJ) ∷
    (codes "ZWJ", category.OT_ZWJ) ∷
    (codes "M", category.OT_M) ∷
    (codes "SM", category.OT_SM) ∷
    (codes "A", category.OT_A) ∷
    (codes "VD", category.OT_VD) ∷
    (codes "PLACEHOLDER", category.OT_PLACEHOLDER) ∷
    (codes "DOTTEDCIRCLE", category.OT_DOTTEDCIRCLE) ∷
    (codes "RS", category.OT_RS) ∷
    (codes "MPst", category.OT_MPst) ∷
    (codes "Repha", category.OT_Repha) ∷
    (codes "Ra", category.OT_Ra) ∷
    (codes "CM", category.OT_CM) ∷
    (codes "Symbol", category.OT_Symbol) ∷
    (codes "CS", category.OT_CS) ∷
    (codes "VAbv", category.OT_VAbv) ∷
    (codes "VBlw", category.OT_VBlw) ∷
    (codes "VPre", category.OT_VPre) ∷
    (codes "VPst", category.OT_VPst) ∷
    (codes "Robatic", category.OT_Robatic) ∷
    (codes "Xgroup", category.OT_Xgroup) ∷
    (codes "Ygroup", category.OT_Ygroup) ∷
    (codes "As", category.OT_As) ∷
    (codes "MH", category.OT_MH) ∷
    (codes "MR", category.OT_MR) ∷
    (codes "MW", category.OT_MW) ∷
    (codes "MY", category.OT_MY) ∷
    (codes "PT", category.OT_PT) ∷
    (codes "VS", category.OT_VS) ∷
    (codes "ML", category.OT_ML) ∷
    []

-- law: the categories are numbered from 0 on, each with a name of its own
abbrev pub CategoriesAreNumbered : Type 0
CategoriesAreNumbered = AreNumbered ot_categories

-- the names of the positions of characters around the base of a syllable
abbrev pub ot_positions : List (List ℕ × ℕ)
ot_positions =
    (codes "START", position.POS_START) ∷
    (codes "RA_TO_BECOME_REPH", position.POS_RA_TO_BECOME_REPH) ∷
    (codes "PRE_M", position.POS_PRE_M) ∷
    (codes "PRE_C", position.POS_PRE_C) ∷
    (codes "BASE_C", position.POS_BASE_C) ∷
    (codes "AFTER_MAIN", position.POS_AFTER_MAIN) ∷
    (codes "ABOVE_C", position.POS_ABOVE_C) ∷
    (codes "BEFORE_SUB", position.POS_BEFORE_SUB) ∷
    (codes "BELOW_C", position.POS_BELOW_C) ∷
    (codes "AFTER_SUB", position.POS_AFTER_SUB) ∷
    (codes "BEFORE_POST", position.POS_BEFORE_POST) ∷
    (codes "POST_C", position.POS_POST_C) ∷
    (codes "AFTER_POST", position.POS_AFTER_POST) ∷
    (codes "SMVD", position.POS_SMVD) ∷
    (codes "END", position.POS_END) ∷
    []

-- law: the positions are numbered from 0 on, each with a name of its own
abbrev pub PositionsAreNumbered : Type 0
PositionsAreNumbered = AreNumbered ot_positions

-- the features of the Indic shaper, by their indices
abbrev pub indic_features : List ℕ
indic_features = indic.NUKT ∷ indic.AKHN ∷ indic.RPHF ∷ indic.RKRF ∷ indic.PREF ∷ indic.BLWF ∷ indic.ABVF ∷ indic.HALF ∷ indic.PSTF ∷ indic.VATU ∷ indic.CJCT ∷ indic.INIT ∷ indic.PRES ∷ indic.ABVS ∷ indic.BLWS ∷ indic.PSTS ∷ indic.HALN ∷ []

-- law: the Indic features are numbered from 0 on
abbrev pub IndicFeaturesAreInOrder : Type 0
IndicFeaturesAreInOrder = AreInOrder indic_features

-- the features of the Khmer shaper, by their indices
abbrev pub khmer_features : List ℕ
khmer_features = khmer.PREF ∷ khmer.BLWF ∷ khmer.ABVF ∷ khmer.PSTF ∷ khmer.CFAR ∷ []

-- law: the Khmer features are numbered from 0 on
abbrev pub KhmerFeaturesAreInOrder : Type 0
KhmerFeaturesAreInOrder = AreInOrder khmer_features
