-- Dotted circles for tone marks are inserted by a setting that is no request for glyph flags.
use Rattle.std.proofs.Common.{◌≡◌, ◌==◌, not, Bool, if◌then◌else◌, nat_le, List, [], length, Result, Ok, Err, sym, ap, subst}
use Rattle.std.proofs.lemmas.Nat.{and_assoc}
use Rattle.buffer_glyphs.specs.declared.cause.ShapeCause.{ShapeCause}
use Rattle.buffer_glyphs.specs.declared.cause.ShapeCause.TheVariants.{TooLong}
use Rattle.buffer_common.specs.declared.constants.BufferFlags.{BufferFlags}
use Rattle.layout_face.specs.declared.parts.FaceParts.{FaceParts}
use Rattle.buffer_glyphs.specs.Items.{Item}
use Rattle.buffer_core.specs.Readings.{Stage, always, and_then}
use Rattle.buffer_core.specs.Sides.{Sides, zero_positions}
use Rattle.buffer_stages.specs.Settings.{text_flags}
use Rattle.buffer_stages.specs.Stages.{DoesStage}
use Rattle.script_hangul.specs.Hangul.{events_after, hangul_text, jamo_rule, text_after, wants_circles}
use Rattle.script_syllabic.specs.Graphemes.{with_graphemes_merged}

circles_kept : (flags : BufferFlags) → wants_circles flags ≡ wants_circles (text_flags flags)
circles_kept flags = ap (λ n. not (n == 16)) (sym (and_assoc 16 flags.0 0x3F))

abbrev formed_if : Bool → FaceParts → Stage
formed_if b font v =
    let xs : List Item = text_after font b (length v.items) 0 [] v.items in
    if nat_le (length xs) v.max_len
    then Ok (record { view = record v { items = xs; positions = zero_positions (length xs) }; events = λ level. events_after font b level (length v.items) 0 [] v.items })
    else Err TooLong

pub formed_by_settings : {A : Type 0} (r : Result A ShapeCause) (font : FaceParts) (flags : BufferFlags) (old new : Sides) → DoesStage (hangul_text font flags) r old new → DoesStage (hangul_text font (text_flags flags)) r old new
formed_by_settings r font flags old new f = let P : Bool → Type 0 = λ b. DoesStage (λ v. and_then (always (with_graphemes_merged (jamo_rule font)) v) (formed_if b font)) r old new in subst P (circles_kept flags) f
