-- What a walk over a buffer leaves as it was, and whether all that it wrote fits.
use Rattle.std.proofs.Common.{◌≡◌, ◌+◌, ◌&&◌, Bool, true, false, not, nat_le, List, [], length, sym, ap, ◌∙◌, arith}
use Rattle.std.proofs.lemmas.Bool.{and_parts}
use Rattle.std.proofs.lemmas.Bool.Decides.{nat_tests}
use Rattle.std.proofs.lemmas.List.{length-append, length-map}
use Rattle.buffer_glyphs.specs.Items.{Item, item_of}
use Rattle.buffer_glyphs.specs.Events.{Event}
use Rattle.buffer_core.specs.Readings.{View}
use Rattle.buffer_core.specs.Sides.{Settings, Sides, all_glyphs, fits_joined, with_output}
use Rattle.buffer_stages.specs.Ready.{IsReady}
use Rattle.buffer_stages.specs.Walks.{HasWalked}

pub limit_same : (o r : List Item) (es : List Event) (s t : Sides) → HasWalked o r es s t → t.max_len ≡ s.max_len
limit_same o r es s t w = ap (λ (v : View). v.max_len) w.view

-- at the end of a walk a buffer holds what was written
count_written : (xs : List Item) (es : List Event) (s t : Sides) → HasWalked xs [] es s t → length (all_glyphs t) ≡ length xs
count_written xs es s t w =
    let a = length-append t.behind t.ahead in
    let b : length t.behind ≡ length xs = sym (length-map t.behind item_of) ∙ ap (λ (ys : List Item). length ys) w.behind in
    let c : length t.ahead ≡ 0 = sym (length-map t.ahead item_of) ∙ ap (λ (ys : List Item). length ys) w.ahead in
    omega (arith, a, b, c)

-- where both sides fit, so do the items that were written
pub written_fit : (xs : List Item) (es : List Event) (s t : Sides) → HasWalked xs [] es (with_output s) t → fits_joined t ≡ true → nat_le (length xs) s.max_len ≡ true
written_fit xs es s t w fits =
    let limit = limit_same xs [] es (with_output s) t w in
    let many = count_written xs es (with_output s) t w in
    let room = (and_parts (not t.has_refused) (nat_le (length (all_glyphs t) + 0) t.max_len) fits).1 in
    grind (arith, nat_tests, room, many, limit)

unless : (a b : Bool) → a ≡ false → (not a && b) ≡ false → b ≡ false
unless true b n e = cc
unless false b n e = e

-- and where they don't, the items are too many
pub written_exceed : (xs : List Item) (es : List Event) (s t : Sides) → IsReady s → HasWalked xs [] es (with_output s) t → fits_joined t ≡ false → nat_le (length xs) s.max_len ≡ false
written_exceed xs es s t ready w over =
    let limit = limit_same xs [] es (with_output s) t w in
    let many = count_written xs es (with_output s) t w in
    let room = unless t.has_refused (nat_le (length (all_glyphs t) + 0) t.max_len) (w.unrefused ∙ ready.unrefused) over in
    grind (arith, nat_tests, room, many, limit)
