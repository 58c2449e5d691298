-- How the lists of a buffer give its sides.
use Rattle.std.specs.Prelude.{ℕ, ◌≤◌, ◌≡◌, ◌+◌, ◌-◌, ◌++◌, false, if◌then◌else◌, List, [], length, take, drop, not}
use Rattle.std.specs.Bool.{OnFalse, OnTrue}
use Rattle.buffer_core.specs.declared.buffer.hb_buffer_t.TheInside.{Inside}
use Rattle.buffer_glyphs.specs.Items.{clusters}
use Rattle.buffer_lists.specs.Known.{HasOrder, known_clusters}
use Rattle.buffer_core.specs.Sides.{Sides, zero_positions}
use Rattle.buffer_core.specs.Settings.{number_set}

-- the sides that clients see, of a buffer's fields
abbrev pub sides_of : Inside → Sides
sides_of b = record {
  behind = if b.have_output then take b.out_len b.info.items else take b.idx b.info.items;
  ahead = drop b.idx b.info.items;
  positions = if b.have_output then [] else b.pos.items;
  is_open = b.have_output;
  is_apart = b.is_apart;
  read = if b.have_output then b.idx - b.gap else b.idx;
  has_refused = not b.successful;
  max_len = b.max_len;
  max_ops = b.max_ops;
  lig_id = b.lig_id;
  level = b.cluster_level;
  direction = b.direction;
  script = b.script;
  language = b.language;
  pre_context = b.pre_context.items;
  post_context = b.post_context.items;
  invisible = number_set b.invisible;
  not_found_variation_selector = number_set b.not_found_variation_selector;
  not_found = b.not_found.0;
  scratch_flags = b.scratch_flags;
  flags = b.flags;
}

-- the clusters of the list, with that of a lent glyph as it was
abbrev pub list_clusters : Inside → List ℕ
list_clusters b = known_clusters b.order.lent (clusters b.info.items)

-- the clusters of all glyphs; while an output is open, what is between its end and the cursor has no meaning
abbrev pub all_clusters : Inside → List ℕ
all_clusters b = if b.have_output then take b.out_len (list_clusters b) ++ drop b.idx (list_clusters b) else list_clusters b

-- the invariant of a buffer's fields
pub record IsSound (b : Inside) : Type 0 where
  pub cursor : b.idx ≤ length b.info.items
  -- what was opened before the cursor is no part of what was read
  pub opened : b.gap ≤ b.idx
  pub unopened : OnFalse b.is_apart (b.gap ≡ 0)
  pub input_within : length b.info.items ≤ b.max_len + b.gap
  pub output_within : OnTrue b.have_output (b.out_len ≤ b.max_len)
  -- the output ends before the cursor
  pub out_len : OnTrue b.have_output (b.out_len ≤ b.idx)
  pub together : OnFalse b.have_output (b.is_apart ≡ false)
  pub placed : OnFalse b.have_output (length b.pos.items ≡ length b.info.items)
  -- an output in place takes no memory when it is closed
  pub counted : OnFalse b.is_apart (length b.pos.items ≡ length b.info.items)
  -- where no position may be other than zero, each is zero
  pub cleared : OnFalse b.is_placed (b.pos.items ≡ zero_positions (length b.pos.items))
  pub ordered : HasOrder b.order.known (all_clusters b)
