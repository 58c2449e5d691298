-- Laws of all builders.
use Rattle.std.specs.Prelude.{◌≡◌}
use Rattle.layout_map.specs.Compiled.{MapRequests, OtMapValue, compiled_map}

-- builders with the same requests compile the same map
abbrev pub OneBuilderOneMap : Type 0
OneBuilderOneMap = (first second : MapRequests) (one other : OtMapValue) → first ≡ second → one ≡ compiled_map first → other ≡ compiled_map second → one ≡ other
