-- Lookups that several features apply.
use Rattle.std.specs.Prelude.{ℕ, ◌&&◌, nat_lt, if◌then◌else◌, List, fold}
use Rattle.std.specs.Int.RustNames.{bit_or}
use Rattle.layout_map_features.specs.declared.lookup.lookup_map_t.{lookup_map_t}
use Rattle.layout_map_features.specs.Groups.{groups_below}
use Rattle.layout_map_features.specs.Entering.{entries_with}

-- one lookup of several features: on where any of them is, with joiners skipped if all features say so; random
-- alternates and syllables are as the first feature says
abbrev pub joined_lookups : lookup_map_t → List lookup_map_t → lookup_map_t
joined_lookups first later = record {
  index = first.index;
  mask = fold (λ mask l. bit_or mask l.mask) first.mask later;
  auto_zwnj = fold (λ all l. all && l.auto_zwnj) first.auto_zwnj later;
  auto_zwj = fold (λ all l. all && l.auto_zwj) first.auto_zwj later;
  random = first.random;
  per_syllable = first.per_syllable;
}

-- a lookup with one more feature that applies it
abbrev pub lookup_with : lookup_map_t → lookup_map_t → lookup_map_t
lookup_with l later = record l {
  mask = bit_or l.mask later.mask;
  auto_zwnj = l.auto_zwnj && later.auto_zwnj;
  auto_zwj = l.auto_zwj && later.auto_zwj;
}

-- the lookups below a count, by index, each merged from its features
abbrev pub merged_lookups : ℕ → List lookup_map_t → List lookup_map_t
merged_lookups count uses = groups_below (λ l. l.index) joined_lookups count uses

-- the entries with one more lookup, if it is below a count
abbrev pub entries_below_with : ℕ → List (ℕ × lookup_map_t) → lookup_map_t → List (ℕ × lookup_map_t)
entries_below_with count entries l = if nat_lt l.index count then entries_with (λ k. k.index) joined_lookups lookup_with entries l else entries
