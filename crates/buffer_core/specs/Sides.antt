-- A buffer as its clients see it: the glyphs behind the cursor and the glyphs ahead of it.
use Rattle.std.specs.Prelude.{ℕ, ℤ, pos, ◌+◌, ◌==◌, ◌≡◌, ◌<◌, bit_and, Bool, true, false, nat_le, nat_lt, not, ◌&&◌, ◌||◌, if◌then◌else◌, List, [], ◌++◌, length, take, drop, reverse, replicate, Option, None}
use Rattle.buffer_glyphs.specs.declared.info.hb_glyph_info_t.{hb_glyph_info_t}
use Rattle.buffer_glyphs.specs.declared.level.BufferClusterLevel.{BufferClusterLevel}
use Rattle.buffer_glyphs.specs.declared.level.BufferClusterLevel.TheVariants.{MonotoneGraphemes}
pub use Rattle.buffer_glyphs.specs.Items.{flags_of}
use Rattle.buffer_glyphs.specs.Items.{Item, Position, strip, zero_position}
use Rattle.buffer_glyphs.specs.Origins.{Origin, origins, Asks}
use Rattle.buffer_glyphs.specs.Events.{Event, origins_after}
use Rattle.buffer_core.specs.Readings.{View, BufferState}
use Rattle.buffer_common.specs.declared.constants.BufferFlags.{BufferFlags}
use Rattle.buffer_common.specs.declared.direction.Direction.{Direction}
use Rattle.buffer_common.specs.declared.direction.Direction.TheVariants.{Invalid}
use Rattle.buffer_common.specs.declared.language.Language.{Language}
use Rattle.buffer_common.specs.declared.script.Script.{Script}

-- a buffer as its clients see it: the two sides of the cursor, positions and settings
pub record Sides : Type 0 where
  -- the output while one is open, else the glyphs before the cursor
  pub behind : List hb_glyph_info_t
  pub ahead : List hb_glyph_info_t
  -- a position for each glyph; none while an output is open
  pub positions : List Position
  pub is_open : Bool
  -- whether the output is no longer in the place of what was read since it was opened
  pub is_apart : Bool
  -- how many glyphs were read since the output was opened; with none open, how many are behind the cursor
  pub read : ℕ
  pub has_refused : Bool
  pub max_len : ℕ
  pub max_ops : ℤ
  -- the last ligature number given out, 0 for none
  pub lig_id : ℕ
  pub level : BufferClusterLevel
  pub direction : Direction
  pub script : Option Script
  pub language : Option Language
  -- the characters before the text and after it, nearest first
  pub pre_context : List ℕ
  pub post_context : List ℕ
  -- the glyphs that replace invisible characters, and variation selectors that the font does not support
  pub invisible : Option ℕ
  pub not_found_variation_selector : Option ℕ
  -- the glyph of characters that the font lacks
  pub not_found : ℕ
  -- the flags that the stages of shaping set for each other
  pub scratch_flags : ℕ
  -- the requests for the shaping (`hb_buffer_flags_t`)
  pub flags : BufferFlags

-- all glyphs, in order
abbrev pub all_glyphs : Sides → List hb_glyph_info_t
all_glyphs s = s.behind ++ s.ahead

-- the glyphs without their clusters
abbrev pub items_of : Sides → List Item
items_of s = strip (all_glyphs s)

-- the scratch flags without HAS_GLYPH_FLAGS
abbrev pub stage_flags : ℕ → ℕ
stage_flags flags = bit_and flags 0xFFFF_FFDF

-- what pipeline stages see of a buffer; each draws random numbers from the state 1
abbrev pub view_of : Sides → View
view_of s = record { items = items_of s; positions = s.positions; lig_id = s.lig_id; max_ops = s.max_ops; random = 1; max_len = s.max_len; direction = s.direction; scratch_flags = stage_flags s.scratch_flags }

-- the requests for glyph flags
abbrev pub flag_requests_of : Sides → Asks
flag_requests_of s = record { concat = bit_and s.flags.0 64 == 64; tatweel = bit_and s.flags.0 128 == 128; breaks = bit_and s.flags.0 256 == 256 }

-- whether safe breaks are requested (PRODUCE_SAFE_BREAKS)
abbrev pub requests_breaks : Sides → Bool
requests_breaks s = bit_and s.flags.0 256 == 256

-- the clusters and glyph flags of all glyphs
abbrev pub origins_of : Sides → List Origin
origins_of s = origins (all_glyphs s)

-- the clusters and glyph flags after events
abbrev pub origins_by : List Event → Sides → List Origin
origins_by es s = origins_after (flag_requests_of s) s.level es (origins_of s)

-- the state of a buffer as pipeline stages know it
abbrev pub state_of : Sides → BufferState
state_of s = record { view = view_of s; origins = origins_of s; level = s.level; asks = flag_requests_of s }

-- an output is open, and the input has a current glyph
pub record HasCurrent (s : Sides) : Type 0 where
  pub opened : s.is_open ≡ true
  pub current : 0 < length s.ahead

-- no output is open, and the cursor is at a glyph
pub record HasCurrentInPlace (s : Sides) : Type 0 where
  pub closed : s.is_open ≡ false
  pub current : 0 < length s.ahead

-- the settings of a text that no pipeline stage changes
pub record Settings : Type 0 where
  pub level : BufferClusterLevel
  pub script : Option Script
  pub language : Option Language
  pub pre_context : List ℕ
  pub post_context : List ℕ
  pub invisible : Option ℕ
  pub not_found_variation_selector : Option ℕ
  pub not_found : ℕ
  pub flags : BufferFlags

-- the settings of a buffer
abbrev pub settings_of : Sides → Settings
settings_of s = record {
  level = s.level;
  script = s.script;
  language = s.language;
  pre_context = s.pre_context;
  post_context = s.post_context;
  invisible = s.invisible;
  not_found_variation_selector = s.not_found_variation_selector;
  not_found = s.not_found;
  flags = s.flags;
}

-- n zero positions
abbrev pub zero_positions : ℕ → List Position
zero_positions n = replicate n zero_position

-- the buffer that `new` makes
abbrev pub empty_buffer : Sides
empty_buffer = record {
  behind = [];
  ahead = [];
  positions = [];
  is_open = false;
  is_apart = false;
  read = 0;
  has_refused = false;
  max_len = 0x3FFF_FFFF;
  max_ops = pos 0x1FFF_FFFF;
  lig_id = 0;
  level = MonotoneGraphemes;
  direction = Invalid;
  script = None;
  language = None;
  pre_context = [];
  post_context = [];
  invisible = None;
  not_found_variation_selector = None;
  not_found = 0;
  scratch_flags = 0;
  flags = record { 0 = 0 };
}

-- glyphs appended to the list, with zero positions
abbrev pub with_added : List hb_glyph_info_t → Sides → Sides
with_added gs s = record s { ahead = s.ahead ++ gs; positions = s.positions ++ zero_positions (length gs) }

-- whether the list may have n more glyphs
abbrev pub has_room : ℕ → Sides → Bool
has_room n s = nat_le (length (all_glyphs s) + n) s.max_len

-- the cursor before all glyphs, and an empty output open (`clear_output`)
abbrev pub with_output : Sides → Sides
with_output s = record s { behind = []; ahead = all_glyphs s; positions = []; is_open = true; is_apart = false; read = 0 }

-- other glyphs in the output, which is no longer in the place of what was read once it has more glyphs than were read
abbrev pub with_behind : List hb_glyph_info_t → Sides → Sides
with_behind gs s = record s { behind = gs; is_apart = s.is_apart || nat_lt s.read (length gs) }

-- the first n glyphs ahead moved behind the cursor
abbrev pub after_next_glyphs : ℕ → Sides → Sides
after_next_glyphs n s = record s { behind = s.behind ++ take n s.ahead; ahead = drop n s.ahead; read = s.read + n }

-- whether the output may have n more glyphs
abbrev pub has_output_room : ℕ → Sides → Bool
has_output_room n s = nat_le (length s.behind + n) s.max_len

-- whether the cursor may move over n glyphs: an open output must have room for them
abbrev pub fits_next : ℕ → Sides → Bool
fits_next n s = if s.is_open then has_output_room n s else true

-- the buffer after a refusal for length: no later `sync` succeeds
abbrev pub after_refusal : Sides → Sides
after_refusal s = record s { has_refused = true }

-- whether both sides fit in one list, after no refusal
abbrev pub fits_joined : Sides → Bool
fits_joined s = not s.has_refused && has_room 0 s

-- both sides joined to one list with zero positions, and the cursor at its front (`sync`)
abbrev pub after_sync : Sides → Sides
after_sync s = record s { behind = []; ahead = all_glyphs s; positions = zero_positions (length (all_glyphs s)); is_open = false; is_apart = false; read = 0 }

-- other glyphs and positions, as many as before; the cursor stays
abbrev pub with_list : List hb_glyph_info_t → List Position → Sides → Sides
with_list gs ps s = record s { behind = take s.read gs; ahead = drop s.read gs; positions = ps }

-- glyphs and positions reversed (`reverse`)
abbrev pub after_reverse : Sides → Sides
after_reverse s = with_list (reverse (all_glyphs s)) (reverse s.positions) s

-- a buffer with another cluster level
abbrev pub with_level : BufferClusterLevel → Sides → Sides
with_level l s = record s { level = l }

-- a buffer with other scratch flags
abbrev pub with_scratch_flags : ℕ → Sides → Sides
with_scratch_flags f s = record s { scratch_flags = f }

-- a buffer with other requests
abbrev pub with_flags : BufferFlags → Sides → Sides
with_flags f s = record s { flags = f }

-- a buffer with another limit of the length
abbrev pub with_max_len : ℕ → Sides → Sides
with_max_len n s = record s { max_len = n }

-- a buffer with every position zero (`clear_positions`)
abbrev pub with_cleared_positions : Sides → Sides
with_cleared_positions s = record s { positions = zero_positions (length s.positions) }
