-- The categories of the universal shaper.
use Rattle.std.specs.Prelude.{ℕ, List, [], ◌∷◌, codes}
use Rattle.script_categories.specs.declared.category.TheConstants as category
use Rattle.script_categories.specs.Names.{AreNumbered}

-- the names of the categories of characters in clusters
abbrev pub universal_categories : List (List ℕ × ℕ)
universal_categories =
    (codes "O", category.O) ∷
    (codes "B", category.B) ∷
    (codes "N", category.N) ∷
    (codes "GB", category.GB) ∷
    (codes "CGJ", category.CGJ) ∷
    (codes "SUB", category.SUB) ∷
    (codes "H", category.H) ∷
    (codes "HN", category.HN) ∷
    (codes "ZWNJ", category.ZWNJ) ∷
    (codes "WJ", category.WJ) ∷
    (codes "RSV", category.RSV) ∷
    (codes "R", category.R) ∷
    (codes "S", category.S) ∷
    (codes "CS", category.CS) ∷
    (codes "IS", category.IS) ∷
    (codes "Sk", category.Sk) ∷
    (codes "FAbv", category.FAbv) ∷
    (codes "FBlw", category.FBlw) ∷
    (codes "FPst", category.FPst) ∷
    (codes "MAbv", category.MAbv) ∷
    (codes "MBlw", category.MBlw) ∷
    (codes "MPst", category.MPst) ∷
    (codes "MPre", category.MPre) ∷
    (codes "CMAbv", category.CMAbv) ∷
    (codes "CMBlw", category.CMBlw) ∷
    (codes "VAbv", category.VAbv) ∷
    (codes "VBlw", category.VBlw) ∷
    (codes "VPst", category.VPst) ∷
    (codes "VPre", category.VPre) ∷
    (codes "VMAbv", category.VMAbv) ∷
    (codes "VMBlw", category.VMBlw) ∷
    (codes "VMPst", category.VMPst) ∷
    (codes "VMPre", category.VMPre) ∷
    (codes "SMAbv", category.SMAbv) ∷
    (codes "SMBlw", category.SMBlw) ∷
    (codes "FMAbv", category.FMAbv) ∷
    (codes "FMBlw", category.FMBlw) ∷
    (codes "FMPst", category.FMPst) ∷
    (codes "G", category.G) ∷
    (codes "J", category.J) ∷
    (codes "SB", category.SB) ∷
    (codes "SE", category.SE) ∷
    (codes "HVM", category.HVM) ∷
    (codes "HM", category.HM) ∷
    (codes "HR", category.HR) ∷
    []

-- law: the categories are numbered from 0 on, each with a name of its own
abbrev pub UniversalCategoriesAreNumbered : Type 0
UniversalCategoriesAreNumbered = AreNumbered universal_categories
