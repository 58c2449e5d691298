-- How long lists are that are cut.
use Rattle.std.proofs.Common.{ℕ, ◌≡◌, ◌+◌, ◌++◌, length, arith}
use Rattle.std.proofs.lemmas.List.{length-map, length-append}
use Rattle.buffer_glyphs.specs.Items.{item_of, strip}
use Rattle.buffer_core.specs.Sides.{Sides}
use Rattle.buffer_stages.specs.Actions.{whole}
use Rattle.buffer_stages.specs.Buffers.{cut_of}

pub front_length : (s : Sides) → length (cut_of s).front ≡ length s.behind
front_length s = length-map s.behind item_of

pub whole_length : (s : Sides) → length (whole (cut_of s)) ≡ length s.behind + length s.ahead
whole_length s =
    let front : length (strip s.behind) ≡ length s.behind = length-map s.behind item_of in
    let rest : length (strip s.ahead) ≡ length s.ahead = length-map s.ahead item_of in
    let both : length (strip s.behind ++ strip s.ahead) ≡ length (strip s.behind) + length (strip s.ahead) = length-append (strip s.behind) (strip s.ahead) in
    omega (arith, front, rest, both)

pub whole_count : (s : Sides) (a b : ℕ) → a ≡ length s.behind → b ≡ length s.ahead → a + b ≡ length (whole (cut_of s))
whole_count s a b e f = let long = whole_length s in omega (arith, e, f, long)
