-- The buffer of a text at the start of shaping.
use Rattle.std.specs.Prelude.{ℕ, List}
use Rattle.buffer_core.specs.Sides.{Sides, with_added, with_flags, with_level, empty_buffer}
use Rattle.buffer_core.specs.Segment.{after_guess_segment_properties, with_segment}
use Rattle.buffer_core.specs.Settings.{with_language}
use Rattle.buffer_core.specs.Text.{added_text}
use Rattle.shell_readers.specs.declared.options.Options.{Options}

-- an empty buffer with the settings of the options but the language
abbrev pub plain_buffer : Options → Sides
plain_buffer options = with_segment options.direction options.script (with_flags options.buffer_flags (with_level options.cluster_level empty_buffer))

-- an empty buffer with the settings of the options
abbrev pub options_buffer : Options → Sides
options_buffer options = with_language options.language (plain_buffer options)

-- the buffer of a text; settings that the options lack are guessed
abbrev pub text_buffer : Options → List ℕ → Sides
text_buffer options text = after_guess_segment_properties (with_added (added_text text) (options_buffer options))
