-- The glyphs that a GPOS lookup isn't tried at, moved over at once.
use Rattle.std.proofs.Common.{ℕ, ◌≡◌, ◌≤◌, ◌&&◌, false, List, length, take}
use Rattle.std.specs.List.{list_any}
use Rattle.buffer_common.specs.declared.direction.Direction.{Direction}
use Rattle.buffer_glyphs.specs.Items.{Item, strip}
use Rattle.buffer_core.specs.Sides.{Sides, all_glyphs, after_next_glyphs}
use Rattle.layout_face.specs.Lookups.{positioning_covers}
use Rattle.layout_face.specs.declared.positioning.PositioningLookup.{PositioningLookup}
use Rattle.layout_match.specs.Applied.{ApplyContext}
use Rattle.layout_match.specs.Steps.{IsIdleRun}
use Rattle.layout_match.specs.Trying.{meets}
use Rattle.layout_match.proofs.Lemmas.Runs.{run_closed}
use Rattle.layout_positioning.specs.Lookups.{first_subtable, lookup_action, nested_actions}
use Rattle.layout_positioning.proofs.Uncovered.{first_uncovered}

pub lookup_run : (table : List PositioningLookup) (d : Direction) (a : ApplyContext) (lookup : PositioningLookup) (k n : ℕ) (s new : Sides) → k ≤ length s.ahead → list_any (λ (x : Item). meets a x && positioning_covers lookup.subtables x.number) (take k (strip s.ahead)) ≡ false → n ≡ length (all_glyphs s) → n ≤ s.max_len → new ≡ after_next_glyphs k s
    → IsIdleRun (lookup_action table d a lookup) s new
lookup_run table d a lookup k n s new within idle count limit moved =
    let nest = nested_actions table 64 d a in
    run_closed a (first_subtable nest d a lookup.subtables) (positioning_covers lookup.subtables) k n s new within (λ x none. first_uncovered nest d a lookup.subtables x none) idle count limit moved
