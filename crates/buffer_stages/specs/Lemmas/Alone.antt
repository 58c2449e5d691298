-- One alone merges with none.
use Rattle.std.proofs.Common.{ℕ, ◌≡◌, ◌+◌, ◌-◌, ◌==◌, ◌||◌, max, Bool, true, false, if◌then◌else◌, List, [], ◌∷◌, ◌++◌, map, take, drop, refl, sym, ap, ◌∙◌, arith}
use Rattle.std.proofs.lemmas.Grind.{common_steps}
use Rattle.std.proofs.lemmas.List.{drop-map}
use Rattle.buffer_glyphs.specs.Parts.{range_of}
use Rattle.buffer_glyphs.specs.Merges.{least_number, merged_number}
use Rattle.buffer_glyphs.specs.Origins.{Origin, numbers, cast, added_outside, Manner, Unites, Marks, Keeps, origins_merged_as}
use Rattle.buffer_glyphs.specs.Lemmas.Origins.{cut_in_three}
use Rattle.buffer_facts.proofs.Numbers.{test_of_itself as itself, chosen_same as alone}
use Rattle.buffer_facts.proofs.Lists.{map_same}
use Rattle.buffer_core.proofs.MergedOrigins.{no_range, one_marked, short_range, one_range, cast_self}
