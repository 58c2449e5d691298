-- The item that stands first after a break is no later component of a multiple substitution (GSUB lookup type 2).
use Rattle.std.specs.Prelude.{ℕ, ◌≡◌, ◌==◌, ◌&&◌, ◌⊎◌, Bool, false, nat_lt, List, [], ◌∷◌, Option, Some, None, reverse, Ok}
use Rattle.buffer_glyphs.specs.Items.{Item}
use Rattle.buffer_glyphs.specs.LigatureWords.{lig_comp, lig_id}
use Rattle.buffer_glyphs.specs.Parts.{first_of}
use Rattle.buffer_core.specs.Readings.{View, Read, Stage, BufferState, state_after, and_then, always, as_it_is}
use Rattle.buffer_stages.specs.Stages.{with_items_mapped}
use Rattle.buffer_stages.specs.Pauses.{Pauses, with_own_random}
use Rattle.layout_face.specs.declared.parts.FaceParts.{FaceParts}
use Rattle.layout_face.specs.declared.substitution.SubstLookup.{SubstLookup}
use Rattle.layout_map.specs.declared.stages.StageMap.{StageMap}
use Rattle.layout_map.specs.Compiled.{OtMapValue}
use Rattle.layout_map_features.specs.declared.lookup.lookup_map_t.{lookup_map_t}
use Rattle.layout_substitution.specs.Lookups.{lookups_stage}
use Rattle.layout_substitution.specs.Substituting.{substitution_stages}
use Rattle.buffer_parts.specs.Breaks.Unsafe.{IsUnsafeAt}
use Rattle.buffer_parts.specs.Breaks.Fragments.{standing_first, standing_last, AreFragments}
use Rattle.buffer_parts.specs.Breaks.Divisible.{IsSpared, IsBreakable, IsDivisible}
use Rattle.layout_laws.specs.Breaks.ItemMaps.{SparesNumbers}
use Rattle.layout_laws.specs.Breaks.Positioned.{AreApart}

-- an item is of a ligature, or it is no later component
abbrev pub IsOwn : Item → Type 0
IsOwn x = (lig_id x == 0 && nat_lt 0 (lig_comp x)) ≡ false

-- the first item of a list, if there is one, is so
abbrev pub IsOwnFirst : Option Item → Type 0
IsOwnFirst None = Unit {0}
IsOwnFirst (Some x) = IsOwn x

-- the item that stands first after a break is so
abbrev pub IsOwnSeam : Bool → BufferState → BufferState → Type 0
IsOwnSeam falls earlier later = IsOwnFirst (first_of (standing_last falls earlier.view.items later.view.items))

-- what a stage does to a breakable text, two others do to its fragments: after it the item that stands first after the break is its own
-- where it was, or it is unsafe to break there
abbrev pub SeamStays : Bool → Stage → Stage → Stage → Type 0
SeamStays falls stage early late = (c : ℕ) (whole earlier later : BufferState) (r e l : Read) → IsBreakable whole → AreFragments falls c whole earlier later → IsOwnSeam falls earlier later
    → stage whole.view ≡ Ok r → early earlier.view ≡ Ok e → late later.view ≡ Ok l → IsSpared whole.level whole.view r → IsSpared earlier.level earlier.view e → IsSpared later.level later.view l
    → IsUnsafeAt c (state_after r whole).origins ⊎ IsOwnSeam falls (state_after e earlier) (state_after l later)

-- a divisible stage after which the seam stays so
pub record IsDivisibleAtSeam (falls : Bool) (stage early late : Stage) : Type 0 where
  pub divisible : IsDivisible falls falls stage early late
  pub seam : SeamStays falls stage early late

-- a stage leaves the first item of a list its own where it was
abbrev pub KeepsOwn : Stage → Type 0
KeepsOwn stage = (v : View) (r : Read) → stage v ≡ Ok r → IsOwnFirst (first_of v.items) → IsOwnFirst (first_of r.view.items)

-- a pause of a text, if there is one, is divisible at the seam
abbrev pub IsPauseAtSeam : Bool → Pauses → Pauses → Pauses → Option ℕ → Type 0
IsPauseAtSeam falls pauses early late None = Unit {0}
IsPauseAtSeam falls pauses early late (Some n) = IsDivisibleAtSeam falls (pauses n) (early n) (late n)

-- the pauses that end some stages are
abbrev pub ArePausesAtSeam : Bool → Pauses → Pauses → Pauses → List StageMap → Type 0
ArePausesAtSeam falls pauses early late [] = Unit {0}
ArePausesAtSeam falls pauses early late (s ∷ stages) = IsPauseAtSeam falls pauses early late s.pause × ArePausesAtSeam falls pauses early late stages

-- ---- laws

-- law: where the item that stands first after a break is its own, it is no later component of the one before the break, whatever that is
abbrev pub OwnSeamIsApart : Type 0
OwnSeamIsApart = (falls : Bool) (earlier later : BufferState) → IsOwnSeam falls earlier later → AreApart (first_of (reverse (standing_first falls earlier.view.items later.view.items))) (first_of (standing_last falls earlier.view.items later.view.items))

-- law: an item with an empty ligature word is its own
abbrev pub UnnumberedIsOwn : Type 0
UnnumberedIsOwn = (x : Item) → x.lig_props ≡ 0 → IsOwn x

-- law: a divisible stage that leaves the first item of each fragment its own is divisible at the seam
abbrev pub KeepingIsDivisibleAtSeam : Type 0
KeepingIsDivisibleAtSeam = (falls : Bool) (stage early late : Stage) → IsDivisible falls falls stage early late → KeepsOwn early → KeepsOwn late → IsDivisibleAtSeam falls stage early late

-- law: a stage that changes each item by itself, spares ligature numbers and keeps the ligature word is divisible at the seam
abbrev pub ItemMapsKeepSeams : Type 0
ItemMapsKeepSeams = (falls : Bool) (f : Item → Item) → SparesNumbers f → ((x : Item) → (f x).lig_props ≡ x.lig_props) → IsDivisibleAtSeam falls (always (with_items_mapped f)) (always (with_items_mapped f)) (always (with_items_mapped f))

-- law: a stage that changes nothing is divisible at the seam
abbrev pub NothingKeepsSeams : Type 0
NothingKeepsSeams = (falls : Bool) → IsDivisibleAtSeam falls as_it_is as_it_is as_it_is

-- law: stages that are divisible at the seam are so one after the other
abbrev pub SeamStaysInTurn : Type 0
SeamStaysInTurn = (falls : Bool) (s s1 s2 t t1 t2 : Stage) → IsDivisibleAtSeam falls s s1 s2 → IsDivisibleAtSeam falls t t1 t2 → IsDivisibleAtSeam falls (λ v. and_then (s v) t) (λ v. and_then (s1 v) t1) (λ v. and_then (s2 v) t2)

-- law: the lookups of a map, one after another, are divisible at the seam
abbrev pub LookupsKeepSeams : Type 0
LookupsKeepSeams = (falls : Bool) (font : FaceParts) (table : List SubstLookup) (maps : List lookup_map_t) → IsDivisibleAtSeam falls (lookups_stage font table maps) (lookups_stage font table maps) (lookups_stage font table maps)

-- law: a stage that is divisible at the seam is so where it draws from a random state of its own
abbrev pub OwnRandomKeepsSeams : Type 0
OwnRandomKeepsSeams = (falls : Bool) (stage early late : Stage) → IsDivisibleAtSeam falls stage early late → IsDivisibleAtSeam falls (with_own_random stage) (with_own_random early) (with_own_random late)

-- law: all substitution by a map is divisible at the seam where the pauses are
abbrev pub SubstitutionKeepsSeams : Type 0
SubstitutionKeepsSeams = (falls : Bool) (font : FaceParts) (m : OtMapValue) (pauses early late : Pauses) → ArePausesAtSeam falls pauses early late m.tables.gsub.stages
    → IsDivisibleAtSeam falls (substitution_stages font m pauses) (substitution_stages font m early) (substitution_stages font m late)
