-- A stage that inserts no glyph number, before one that may.
use Rattle.std.proofs.Common.{◌≡◌, Bool, true, List, length, Ok, Err, sym, ap, subst, ◌∙◌}
use Rattle.std.specs.Prelude.{◌≢◌, nat_lt, IfOk, Result}
use Rattle.buffer_glyphs.specs.declared.cause.ShapeCause.{ShapeCause}
use Rattle.buffer_glyphs.specs.declared.cause.ShapeCause.TheVariants.{OutOfMemory}
use Rattle.buffer_glyphs.specs.Items.{Item}
use Rattle.buffer_core.specs.Readings.{Stage, and_then, reading_of}
use Rattle.buffer_core.specs.Steps.{follows_then, refused_then}
use Rattle.buffer_core.specs.Sides.{Sides, Settings, items_of, state_of}
use Rattle.buffer_stages.specs.Buffers.{are_glyphs}
use Rattle.buffer_stages.specs.Pauses.{BringsNoGlyph}
use Rattle.buffer_stages.specs.Ready.{DoesGlyphStage}
use Rattle.buffer_stages.specs.Settings.{text_settings, text_settings_of}
use Rattle.script_syllabic.specs.Quiet.{IsQuiet}
use Rattle.script_syllabic.proofs.Quiet.{quiet_length}
use Rattle.script_syllabic.proofs.PermutedNumbers.{permuted_brings_none, permuted_glyphs}

pub done_then : (s t : Stage) (a b c : Sides) (r : Result Bool ShapeCause) → IsQuiet s a b → DoesGlyphStage t r b c → DoesGlyphStage (λ v. and_then (s v) t) r a c
done_then s t a b c (Ok x) q d = record {
  follows = follows_then (reading_of s (state_of a)) t (state_of a) (state_of b) (state_of c) q.followed.follows d.follows;
  settings = d.settings ∙ q.followed.settings;
  ready = d.ready;
  numbers = λ e. d.numbers (permuted_glyphs (items_of a) (items_of b) q.numbers e);
}
done_then s t a b c (Err e) q d = λ other. refused_then (reading_of s (state_of a)) t (state_of a) (state_of b) e q.followed.follows (d other)

pub brings_then : (s : Stage) (a b : Sides) (ys : List Item) → IsQuiet s a b → BringsNoGlyph (items_of b) ys → BringsNoGlyph (items_of a) ys
brings_then s a b ys q h = λ n e. permuted_brings_none (items_of a) (items_of b) q.numbers n (h n e)

pub longer_then : (s : Stage) (a b : Sides) (ys : List Item) (r : Result Bool ShapeCause) → IsQuiet s a b → IfOk r (λ inserted. inserted ≡ nat_lt (length (items_of b)) (length ys)) → IfOk r (λ inserted. inserted ≡ nat_lt (length (items_of a)) (length ys))
longer_then s a b ys (Ok inserted) q h = h ∙ ap (λ n. nat_lt n (length ys)) (sym (quiet_length s a b q))
longer_then s a b ys (Err e) q h = h

pub same_flags : (s : Stage) (a b : Sides) → IsQuiet s a b → (text_settings b).flags ≡ (text_settings a).flags
same_flags s a b q = ap (λ (k : Settings). (text_settings_of k).flags) q.followed.settings

pub numbers_stay : (s : Stage) (a b : Sides) → IsQuiet s a b → are_glyphs (items_of a) ≡ true → are_glyphs (items_of b) ≡ true
numbers_stay s a b q e = permuted_glyphs (items_of a) (items_of b) q.numbers e
