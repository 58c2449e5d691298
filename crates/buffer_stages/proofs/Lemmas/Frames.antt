-- What stays while rules are tried.
use Rattle.std.proofs.Common.{◌≡◌, List, ◌++◌, length, sym, ap, ◌∙◌}
use Rattle.std.proofs.lemmas.List.{length-map, map-append}
use Rattle.std.specs.Prelude.{bit_and, ◌==◌}
use Rattle.buffer_glyphs.specs.declared.level.BufferClusterLevel.{BufferClusterLevel}
use Rattle.buffer_common.specs.declared.constants.BufferFlags.{BufferFlags}
use Rattle.buffer_glyphs.specs.Items.{item_of}
use Rattle.buffer_glyphs.specs.Origins.{Asks}
use Rattle.buffer_glyphs.specs.Events.{Event, origins_after}
use Rattle.buffer_glyphs.specs.Lemmas.Origins.{origins_after_both}
use Rattle.buffer_core.specs.Sides.{Sides, Settings, settings_of, items_of, origins_of, flag_requests_of}
use Rattle.buffer_stages.specs.Actions.{Cut, whole}
use Rattle.buffer_stages.specs.Buffers.{cut_of, Frame, IsStill, HasHappened}

abbrev pub asks_with : BufferFlags → Asks
asks_with f = record { concat = bit_and f.0 64 == 64; tatweel = bit_and f.0 128 == 128; breaks = bit_and f.0 256 == 256 }

-- settings that stay

pub same_level : (a b : Sides) → settings_of b ≡ settings_of a → b.level ≡ a.level
same_level a b e = ap (λ (s : Settings). s.level) e

pub same_asks : (a b : Sides) → settings_of b ≡ settings_of a → flag_requests_of b ≡ flag_requests_of a
same_asks a b e = ap (λ (s : Settings). asks_with s.flags) e

-- a frame that stays

pub still_settings : (a b : Sides) → IsStill a b → settings_of b ≡ settings_of a
still_settings a b e = ap (λ (f : Frame). f.settings) e

pub still_open : (a b : Sides) → IsStill a b → b.is_open ≡ a.is_open
still_open a b e = ap (λ (f : Frame). f.is_open) e

pub still_refused : (a b : Sides) → IsStill a b → b.has_refused ≡ a.has_refused
still_refused a b e = ap (λ (f : Frame). f.has_refused) e

pub still_limit : (a b : Sides) → IsStill a b → b.max_len ≡ a.max_len
still_limit a b e = ap (λ (f : Frame). f.max_len) e

pub still_direction : (a b : Sides) → IsStill a b → b.direction ≡ a.direction
still_direction a b e = ap (λ (f : Frame). f.direction) e

-- events one after another
pub then_happened : (es fs : List Event) (a b c : Sides) → settings_of b ≡ settings_of a → HasHappened es a b → HasHappened fs b c → HasHappened (es ++ fs) a c
then_happened es fs a b c same f g =
    g ∙ ap (λ (l : BufferClusterLevel). origins_after (flag_requests_of b) l fs (origins_of b)) (same_level a b same) ∙ ap (λ (k : Asks). origins_after k a.level fs (origins_of b)) (same_asks a b same)
    ∙ ap (origins_after (flag_requests_of a) a.level fs) f ∙ sym (origins_after_both (flag_requests_of a) a.level es fs (origins_of a))

-- both sides are as long where the cut is the same
pub same_lengths : (a b : Sides) → cut_of b ≡ cut_of a → (length b.behind ≡ length a.behind) × (length b.ahead ≡ length a.ahead)
same_lengths a b e = (
  sym (length-map b.behind item_of) ∙ ap (λ (c : Cut). length c.front) e ∙ length-map a.behind item_of,
  sym (length-map b.ahead item_of) ∙ ap (λ (c : Cut). length c.rest) e ∙ length-map a.ahead item_of,
)

pub same_numbers : (a b : Sides) → cut_of b ≡ cut_of a → items_of b ≡ items_of a
same_numbers a b e = map-append item_of b.behind b.ahead ∙ ap whole e ∙ sym (map-append item_of a.behind a.ahead)
