-- Stages that read what is set for a text.
use Rattle.std.proofs.Common.{ℕ, ◌≡◌, ◌==◌, ◌&&◌, Bool, if◌then◌else◌, List, length, Err, refl, sym, subst}
use Rattle.std.specs.Prelude.{bit_and, is_some, [], Option, None}
use Rattle.std.specs.Option.{option_or}
use Rattle.std.proofs.lemmas.Nat.{and_assoc}
use Rattle.buffer_glyphs.specs.declared.cause.ShapeCause.{ShapeCause}
use Rattle.buffer_common.specs.declared.constants.BufferFlags.{BufferFlags}
use Rattle.buffer_unicode_tables.specs.Tables.{Tables}
use Rattle.layout_face.specs.declared.parts.FaceParts.{FaceParts}
use Rattle.layout_face.specs.Glyphs.{nominal_glyph}
use Rattle.buffer_core.specs.Readings.{Read, Stage, View, always, as_it_is, reading_of, with_events}
use Rattle.buffer_core.specs.Sides.{Sides, Settings, settings_of, state_of}
use Rattle.buffer_stages.specs.Ready.{IsDone}
use Rattle.buffer_stages.specs.Settings.{TextSettings, text_flags, text_settings, text_settings_of}
use Rattle.buffer_stages.specs.Stages.{IsFollowed}
use Rattle.buffer_stages.specs.PositionMaps.{with_positions_mapped}
use Rattle.shape_glyphs.specs.Ignorables.{ignorables_hidden, ignorables_hidden_by, preserves_ignorables, removes_ignorables}
use Rattle.shape_glyphs.specs.Widths.{ignorable_position, keeps_widths, zero_widths}
use Rattle.shape_pipeline.specs.Shaping.{Shaping}
use Rattle.shape_text.specs.Circle.{DOTTED_CIRCLE, flags_want_circle, begins_with_mark, first_circle, with_circle}

-- ---- a stage that reads what is set, after stages that left that as it was

-- what a text is shaped by, with what is set in another buffer
abbrev pub set_as : Sides → Shaping → Shaping
set_as s q = record q { settings = text_settings s }

pub followed_as_set : (stage : Shaping → Stage) (q : Shaping) (was old new : Sides) → q.settings ≡ text_settings was → settings_of old ≡ settings_of was → IsFollowed (stage (set_as old q)) old new → IsFollowed (stage q) old new
followed_as_set stage q was old new set same f =
    let P : Settings → Type 0 = λ st. IsFollowed (stage (record q { settings = text_settings_of st })) old new in
    let R : TextSettings → Type 0 = λ x. IsFollowed (stage (record q { settings = x })) old new in
    subst R (sym set) (subst P same f)

pub done_as_set : (stage : Shaping → Stage) (q : Shaping) (was old new : Sides) → q.settings ≡ text_settings was → settings_of old ≡ settings_of was → IsDone (stage (set_as old q)) old new → IsDone (stage q) old new
done_as_set stage q was old new set same f =
    let P : Settings → Type 0 = λ st. IsDone (stage (record q { settings = text_settings_of st })) old new in
    let R : TextSettings → Type 0 = λ x. IsDone (stage (record q { settings = x })) old new in
    subst R (sym set) (subst P same f)

pub refused_as_set : (stage : Shaping → Stage) (q : Shaping) (was old : Sides) (cause : ShapeCause) → q.settings ≡ text_settings was → settings_of old ≡ settings_of was → reading_of (stage (set_as old q)) (state_of old) ≡ Err cause → reading_of (stage q) (state_of old) ≡ Err cause
refused_as_set stage q was old cause set same e =
    let P : Settings → Type 0 = λ st. reading_of (stage (record q { settings = text_settings_of st })) (state_of old) ≡ Err cause in
    let R : TextSettings → Type 0 = λ x. reading_of (stage (record q { settings = x })) (state_of old) ≡ Err cause in
    subst R (sym set) (subst P same e)

-- ---- requests but those for flags of glyphs

-- a bit of the others
abbrev kept_bit : ℕ → Type 0
kept_bit bit = (n : ℕ) → bit_and (bit_and n 0x3F) bit ≡ bit_and n bit

kept_1 : kept_bit 1
kept_1 n = and_assoc 1 n 0x3F

kept_16 : kept_bit 16
kept_16 n = and_assoc 16 n 0x3F

kept_4 : kept_bit 4
kept_4 n = and_assoc 4 n 0x3F

kept_8 : kept_bit 8
kept_8 n = and_assoc 8 n 0x3F

circle_asked : (flags : BufferFlags) → flags_want_circle (text_flags flags) ≡ flags_want_circle flags
circle_asked flags = rw (kept_1 flags.0, kept_16 flags.0) refl

-- a circle where it is required
abbrev circle_if : Bool → Tables → FaceParts → List ℕ → Stage
circle_if b t font context v = if b && length context == 0 && begins_with_mark v.items && is_some (nominal_glyph DOTTED_CIRCLE font) then with_circle t v else as_it_is v

circle_followed : (t : Tables) (font : FaceParts) (flags : BufferFlags) (context : List ℕ) (old new : Sides) → IsFollowed (first_circle t font flags context) old new → IsFollowed (first_circle t font (text_flags flags) context) old new
circle_followed t font flags context old new f = let P : Bool → Type 0 = λ b. IsFollowed (circle_if b t font context) old new in subst P (sym (circle_asked flags)) f

circle_refused : (t : Tables) (font : FaceParts) (flags : BufferFlags) (context : List ℕ) (old : Sides) (cause : ShapeCause) → reading_of (first_circle t font flags context) (state_of old) ≡ Err cause → reading_of (first_circle t font (text_flags flags) context) (state_of old) ≡ Err cause
circle_refused t font flags context old cause e = let P : Bool → Type 0 = λ b. reading_of (circle_if b t font context) (state_of old) ≡ Err cause in subst P (sym (circle_asked flags)) e

abbrev circle_set : Shaping → Stage
circle_set q v = first_circle q.tables q.font q.settings.flags q.settings.pre_context v

pub circle_as_set : (q : Shaping) (was old new : Sides) → q.settings ≡ text_settings was → settings_of old ≡ settings_of was → IsFollowed (first_circle q.tables q.font old.flags old.pre_context) old new
    → IsFollowed (first_circle q.tables q.font q.settings.flags q.settings.pre_context) old new
circle_as_set q was old new set same f = followed_as_set circle_set q was old new set same (circle_followed q.tables q.font old.flags old.pre_context old new f)

pub circle_refused_as_set : (q : Shaping) (was old : Sides) (cause : ShapeCause) → q.settings ≡ text_settings was → settings_of old ≡ settings_of was → reading_of (first_circle q.tables q.font old.flags old.pre_context) (state_of old) ≡ Err cause
    → reading_of (first_circle q.tables q.font q.settings.flags q.settings.pre_context) (state_of old) ≡ Err cause
circle_refused_as_set q was old cause set same e = refused_as_set circle_set q was old cause set same (circle_refused q.tables q.font old.flags old.pre_context old cause e)

-- ---- ignorables

widths_kept : (flags : BufferFlags) → keeps_widths (text_flags flags) ≡ keeps_widths flags
widths_kept flags = rw (kept_4 flags.0, kept_8 flags.0) refl

abbrev widths_if : Bool → View → Read
widths_if b v = if b then with_events [] v else with_positions_mapped ignorable_position v

pub widths_followed : (flags : BufferFlags) (old new : Sides) → IsFollowed (always (zero_widths flags)) old new → IsFollowed (always (zero_widths (text_flags flags))) old new
widths_followed flags old new f = let P : Bool → Type 0 = λ b. IsFollowed (always (widths_if b)) old new in subst P (sym (widths_kept flags)) f

ignorables_preserved : (flags : BufferFlags) → preserves_ignorables (text_flags flags) ≡ preserves_ignorables flags
ignorables_preserved flags = rw (kept_4 flags.0) refl

ignorables_removed : (flags : BufferFlags) → removes_ignorables (text_flags flags) ≡ removes_ignorables flags
ignorables_removed flags = rw (kept_8 flags.0) refl

abbrev hidden_if : Bool → Bool → Option ℕ → FaceParts → View → Read
hidden_if preserves removes set font v = if preserves then with_events [] v else ignorables_hidden_by (if removes then None else option_or set (nominal_glyph 0x20 font)) v

pub hidden_as_asked : (flags : BufferFlags) (set : Option ℕ) (font : FaceParts) (old new : Sides) → IsDone (always (ignorables_hidden flags set font)) old new → IsDone (always (ignorables_hidden (text_flags flags) set font)) old new
hidden_as_asked flags set font old new f =
    let P : Bool → Type 0 = λ b. IsDone (always (hidden_if b (removes_ignorables flags) set font)) old new in
    let Q : Bool → Type 0 = λ b. IsDone (always (hidden_if (preserves_ignorables (text_flags flags)) b set font)) old new in
    subst Q (sym (ignorables_removed flags)) (subst P (sym (ignorables_preserved flags)) f)
