-- Scripts with the feature, one at a time.
use Rattle.std.proofs.Common.{◌≡◌, ℕ, ◌&&◌, Bool, List, [], ◌∷◌, Option, Some, None, refl, ap}
use Rattle.std.specs.Ordering.{nat_cmp}
use Rattle.buffer_rows.specs.Keys.{is_above, is_rising}
use Rattle.layout_tables.specs.Layout.{ScriptTable, FeatureTable}
use Rattle.font_kern.specs.declared.scripts.ScriptRow.{ScriptRow}
use Rattle.font_kern.specs.Scripts.{kerned_scripts}

-- the scripts' tags are those of the rows
pub kerned_rise : (features : List FeatureTable) (scripts : List ScriptTable) (lacks : Bool) (before : Option ℕ) (rows : List ScriptRow)
    → is_rising nat_cmp (λ s. s.tag.0) before (kerned_scripts features scripts lacks rows) ≡ is_rising nat_cmp (λ r. r.tag.0) before rows
kerned_rise features scripts lacks before [] = refl
kerned_rise features scripts lacks before (r ∷ rows) = ap (λ b. is_above nat_cmp before r.tag.0 && b) (kerned_rise features scripts lacks (Some r.tag.0) rows)
