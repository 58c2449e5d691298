-- The table kern as lookups and features of GPOS.
use Rattle.std.specs.Prelude.{ℕ, ◌+◌, ◌-◌, ◌*◌, ◌==◌, ◌&&◌, ◌||◌, nat_le, Bool, true, false, if◌then◌else◌, List, [], ◌∷◌, ◌++◌, length, Option, Some, None, Result, Ok, Err}
use Rattle.font_bytes.specs.declared.fault.TableFault.{TableFault}
use Rattle.font_bytes.specs.declared.fault.TableFault.TheVariants.{TooLarge}
use Rattle.font_bytes.specs.Results.{and_then}
use Rattle.layout_tables.specs.Layout.{FeatureTable, LayoutLists}
use Rattle.layout_face.specs.declared.parts.CharacterRow.{CharacterRow}
use Rattle.layout_face.specs.declared.positioning.PositioningLookup.{PositioningLookup}
use Rattle.layout_face.specs.declared.positioning.PositioningTable.{PositioningTable}
use Rattle.font_kern.specs.declared.subtables.Subtable.{Subtable}
use Rattle.font_kern.specs.declared.scripts.ScriptRow.{ScriptRow}
use Rattle.font_kern.specs.Subtables.{subtables_at}
use Rattle.font_kern.specs.Lookups.{kern_lookups, kern_feature}
use Rattle.font_kern.specs.Scripts.{needs_kern, lacks_direction, script_rows, kerned_scripts}
use Rattle.font_kern.specs.Marks.{loses_marks}

-- features and lookups
pub record KernLists : Type 0 where
  pub features : List FeatureTable
  pub lookups : List PositioningLookup

-- the lists with the feature of a direction and its lookups
abbrev pub with_feature : Bool → List ℕ → List Subtable → KernLists × ℕ → Result (KernLists × ℕ) TableFault
with_feature is_backward table subtables l = and_then (kern_lookups is_backward table l.1 (length l.0.lookups) subtables)
    (λ r. Ok (record { features = l.0.features ++ kern_feature (length l.0.lookups) (length subtables) ∷ []; lookups = l.0.lookups ++ r.0 }, r.1))

-- the lists with the feature of a direction where a script of the direction lacks it
abbrev pub with_direction : Bool → Bool → List ℕ → List Subtable → KernLists × ℕ → Result (KernLists × ℕ) TableFault
with_direction lacks is_backward table subtables l = if lacks then with_feature is_backward table subtables l else Ok l

-- the lists with features and lookups for the directions of those of a table's scripts that lack the feature
abbrev pub with_lists : ℕ → List ℕ → List Subtable → LayoutLists → KernLists → List ScriptRow → Result (KernLists × ℕ) TableFault
with_lists room table subtables t l rows =
    and_then (with_direction (lacks_direction false t.features t.scripts rows) false table subtables (l, room))
    (with_direction (lacks_direction true t.features t.scripts rows) true table subtables)

-- the scripts with the feature of their direction, and features
abbrev pub kerned_lists : LayoutLists → List ScriptRow → List FeatureTable → LayoutLists
kerned_lists t rows features = record {
  scripts = kerned_scripts t.features t.scripts (lacks_direction false t.features t.scripts rows) rows;
  features = features;
}

-- the lists as a table
abbrev pub kerned_table : LayoutLists → List ScriptRow → KernLists × ℕ → PositioningTable × ℕ
kerned_table t rows l = (record { inner = kerned_lists t rows l.0.features; lookups = l.0.lookups }, l.1)

-- whether the indices of all that is added are below 65536
abbrev pub has_indices : LayoutLists → List PositioningLookup → List Subtable → Bool
has_indices t lookups subtables =
    nat_le (length t.features) 65534 && nat_le (length subtables) 16384 && nat_le (length lookups) (65536 - 4 * length subtables)

-- a table with its scripts
abbrev pub with_rows : ℕ → List ℕ → List Subtable → LayoutLists → List PositioningLookup → List ScriptRow → Result (PositioningTable × ℕ) TableFault
with_rows room table subtables t lookups rows =
    and_then (with_lists room table subtables t (record { features = t.features; lookups = lookups }) rows) (λ l. Ok (kerned_table t rows l))

-- a table with some subtables of kern
abbrev pub with_subtables : ℕ → List ℕ → List Subtable → List CharacterRow → LayoutLists → List PositioningLookup → Result (PositioningTable × ℕ) TableFault
with_subtables room table subtables characters t lookups =
    if has_indices t lookups subtables then with_rows room table subtables t lookups (script_rows t.features t.scripts characters) else Err TooLarge

-- a table with kern, unchanged where no subtable is taken
abbrev pub with_table : ℕ → List ℕ → List Subtable → List CharacterRow → PositioningTable → Result (PositioningTable × ℕ) TableFault
with_table room table [] characters t = Ok (t, room)
with_table room table (s ∷ subtables) characters t = with_subtables room table (s ∷ subtables) characters t.inner t.lookups

-- a table that is there
abbrev pub some_table : PositioningTable × ℕ → Option PositioningTable × ℕ
some_table t = (Some t.0, t.1)

-- a table without scripts, features and lookups
abbrev pub empty_table : PositioningTable
empty_table = record { inner = record { scripts = []; features = [] }; lookups = [] }

-- a table of kern alone, none where no subtable is taken or marks would lose their positions
abbrev pub alone_with : List ℕ → List CharacterRow → List Subtable × ℕ → Result (Option PositioningTable × ℕ) TableFault
alone_with table characters s =
    if length s.0 == 0 || loses_marks characters then Ok (None, s.1)
    else and_then (with_table s.1 table s.0 characters empty_table) (λ t. Ok (some_table t))

-- the table of a font without GPOS
abbrev pub kern_alone : ℕ → List ℕ → List CharacterRow → Result (Option PositioningTable × ℕ) TableFault
kern_alone room table characters = and_then (subtables_at room table) (alone_with table characters)

-- GPOS with kern where a script lacks the feature
abbrev pub kern_beside : ℕ → List ℕ → List CharacterRow → PositioningTable → Result (PositioningTable × ℕ) TableFault
kern_beside room table characters t =
    if needs_kern t.inner then and_then (subtables_at room table) (λ s. with_table s.1 table s.0 characters t) else Ok (t, room)

-- the bytes of the table kern, a font's characters and its GPOS: GPOS with the table kern for those language systems that lack the
-- feature `kern`, and the room that is left
abbrev pub gpos_with_kern : ℕ → List ℕ → List CharacterRow → Option PositioningTable → Result (Option PositioningTable × ℕ) TableFault
gpos_with_kern room table characters None = kern_alone room table characters
gpos_with_kern room table characters (Some t) = and_then (kern_beside room table characters t) (λ k. Ok (some_table k))
