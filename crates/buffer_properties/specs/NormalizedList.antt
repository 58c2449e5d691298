-- The normalised list of a text.
use Rattle.std.specs.Prelude.{Bool, ◌&&◌, if◌then◌else◌, List, drop}
use Rattle.std.specs.List.{list_any}
use Rattle.buffer_glyphs.specs.Items.{Item}
use Rattle.buffer_glyphs.specs.Rewriting.{Arrangement, eventless_arrangement, and_arranged}
use Rattle.buffer_properties.specs.Characters.{is_mark}
use Rattle.buffer_properties.specs.Normalizer.{Normalizer, is_composing}
use Rattle.buffer_properties.specs.Expanding.{expanded_list}
use Rattle.buffer_properties.specs.Ordering.{ordered_list, joiners_shown}
use Rattle.buffer_properties.specs.Composing.{composed_list}

-- whether an item after the first is a combining mark
abbrev pub has_later_mark : List Item → Bool
has_later_mark xs = list_any is_mark (drop 1 xs)

-- a list with its combining marks in order, where that is requested
abbrev pub ordering_if : Bool → Normalizer → List Item → Arrangement
ordering_if b c xs = if b then ordered_list c.reorders xs else eventless_arrangement xs

-- a list composed, where that is requested
abbrev pub composition_if : Bool → Normalizer → List Item → Arrangement
composition_if b c xs = if b then composed_list c xs else eventless_arrangement xs

-- an expanded list, its combining marks sorted, its joiners shown, and composed
unfoldable pub arranged_marks : Bool → Normalizer → List Item → Arrangement
arranged_marks b c xs = and_arranged (ordering_if b c xs) (λ ys. composition_if (b && is_composing c.mode) c (joiners_shown ys))

-- the normalised list of a text: combining marks are sorted and composed only where one is after the first item of the
-- text
unfoldable pub normalized_items : Normalizer → List Item → Arrangement
normalized_items c xs = and_arranged (expanded_list c xs) (arranged_marks (has_later_mark xs) c)
