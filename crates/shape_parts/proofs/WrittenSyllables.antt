-- Syllables of Hangul whose graphemes are merged before, or once each is written.
use Rattle.std.proofs.Common.{◌≡◌, Bool, true, false, if◌then◌else◌, nat_le, List, [], Ok, Err, length}
use Rattle.buffer_glyphs.specs.declared.cause.ShapeCause.TheVariants.{TooLong}
use Rattle.buffer_glyphs.specs.Items.{Item}
use Rattle.buffer_parts.specs.Lemmas.Stages.{at_read}
use Rattle.buffer_core.specs.Readings.{Read, Reading, then_read, then_reading}
use Rattle.buffer_core.specs.Sides.{zero_positions}
use Rattle.script_syllabic.specs.Graphemes.{with_graphemes_merged}
use Rattle.script_hangul.specs.Hangul.{events_after, jamo_rule, text_after, wants_circles}
use Rattle.script_hangul.proofs.WrittenSyllables.{AreWrittenAlike, whole_text}
use Rattle.shape_parts.specs.WrittenMerges.{SyllablesMergeWhereWritten}

pub syllables_merge_where_written : SyllablesMergeWhereWritten
syllables_merge_where_written font flags text r long e = by_limit (nat_le (length formed) text.view.max_len) e
  where
    formed : List Item
    formed = text_after font (wants_circles flags) (length text.view.items) 0 [] text.view.items

    formed_read : Read
    formed_read = record {
      view = record text.view { items = formed; positions = zero_positions (length formed) };
      events = λ level. events_after font (wants_circles flags) level (length text.view.items) 0 [] text.view.items;
    }

    by_limit : (b : Bool) → ◌≡◌ {A = Reading} (then_reading (with_graphemes_merged (jamo_rule font) text.view) (if b then Ok formed_read else Err TooLong)) (Ok r)
        → AreWrittenAlike font flags text.asks text.level text.view.items (r.events text.level) text.origins
    by_limit true f =
        at_read (λ q. AreWrittenAlike font flags text.asks text.level text.view.items (q.events text.level) text.origins) (then_read (with_graphemes_merged (jamo_rule font) text.view) formed_read) r f
        (whole_text font flags text.asks text.level text.view.items text.origins long)
    by_limit false f = cc
