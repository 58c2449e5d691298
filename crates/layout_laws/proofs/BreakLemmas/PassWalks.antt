-- A rule tried at each index of a fragment, in the text and alone.
use Rattle.std.specs.Prelude.{ℕ, ◌≡◌, ◌≤◌, ◌<◌, ◌+◌, ◌⊎◌, ◌++◌, true, [], length, map, Ok}
use Rattle.buffer_glyphs.specs.declared.level.BufferClusterLevel.{BufferClusterLevel}
use Rattle.buffer_glyphs.specs.Rewriting.{shifted_event}
use Rattle.buffer_parts.specs.Counts.{count_after}
use Rattle.buffer_core.specs.Readings.{View, Read}
use Rattle.buffer_stages.specs.Actions.{Cut, whole, view_at, Action}
use Rattle.buffer_parts.specs.Counting.{is_left}
use Rattle.buffer_parts.specs.Breaks.Concat.{without_concats}
use Rattle.buffer_parts.specs.Breaks.Divisible.{merges}
use Rattle.buffer_parts.specs.Breaks.Sides.{AreBounded}
use Rattle.layout_match.specs.Trying.{trials}
use Rattle.layout_laws.specs.Breaks.Frames.{Outside, Inside, framed_cut, IsFramed, IsExtended}
use Rattle.layout_laws.specs.Breaks.Local.{Placing, Binds, IsLocalOrIdle, IsSteady, IsOfWhole}

-- what is read of a text from a cut of its fragment on
abbrev pub Reads : Type 1
Reads = Outside → Inside → Cut → Read → Type 0

-- a rule tried over a fragment, in the text (r, from a cut of the fragment on) and alone (e): it was tried up to the fragment's end, where
-- the text has `last` to be read still
pub record IsWalked (P : Placing) (Leads : Reads) (level : BufferClusterLevel) (u : View) (o : Outside) (s : Inside) (c : Cut) (r e : Read) : Type 0 where
  pub end : Cut
  pub inside : Inside
  pub last : Read
  pub frames : IsFramed o inside end
  pub extended : IsExtended s c inside end
  pub some : 0 < length (whole end)
  pub placed : P o end
  pub view : e.view ≡ view_at u end
  pub leads : Leads o inside end last
  pub view_is : r.view ≡ last.view
  pub events : without_concats (r.events level) ≡ map (shifted_event (length o.before)) (without_concats (e.events level)) ++ without_concats (last.events level)
  pub bounded : AreBounded (without_concats (e.events level)) (length (whole c))
  pub counted : count_after (without_concats (e.events level)) (length (whole c)) ≡ length (whole end)

-- what a rule does alone it does in the text up to the fragment's end, or it binds the fragment to what is outside
abbrev pub Walked : Placing → Reads → BufferClusterLevel → View → Outside → Inside → Cut → Read → Read → Type 0
Walked P Leads level u o s c r e = Binds o c (r.events level) ⊎ IsWalked P Leads level u o s c r e

-- ---- from the left

-- enough was left of the limits for what was read, from a last ligature number on: some budget of nested lookups, and a number for each
-- merge
pub record IsEnough (level : BufferClusterLevel) (last : ℕ) (r : Read) : Type 0 where
  pub budget : is_left r.view.max_ops ≡ true
  pub numbers : last + merges (without_concats (r.events level)) ≤ 7

-- a rule is tried in a text, from a cut of its fragment on, at all indices
pub record IsTried (act : Action) (level : BufferClusterLevel) (v : View) (o : Outside) (s : Inside) (c : Cut) (r : Read) : Type 0 where
  pub steps : ℕ
  pub many : length c.rest + length o.after ≤ steps
  pub read : trials act v steps (framed_cut o s c) ≡ Ok r
  pub enough : IsEnough level s.lig_id r

-- it is tried so from the fragment's end on
abbrev pub IsTriedAfter : Action → BufferClusterLevel → View → Reads
IsTriedAfter act level v o s c r = (c.rest ≡ []) × IsTried act level v o s c r

-- law: a rule that is local or idle, tried over a fragment, in the text and alone, does alone what it does in the text up to the fragment's end, or
-- binds the fragment to what is outside
abbrev pub WalksAreLocal : Type 1
WalksAreLocal = (P : Placing) (act : Action) → IsOfWhole P → IsLocalOrIdle P act → IsSteady act → (level : BufferClusterLevel) (v u : View) (o : Outside) (s : Inside) (c : Cut) (r e : Read) → IsFramed o s c → P o c → 0 < length (whole c)
    → IsTried act level v o s c r → trials act u (length c.rest) c ≡ Ok e → IsEnough level c.lig_id e → Walked P (IsTriedAfter act level v) level u o s c r e
