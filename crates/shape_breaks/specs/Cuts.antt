-- Where a text may be cut into two, as far as its characters, its shaper, tables and font decide it.
use Rattle.std.specs.Prelude.{ℕ, ◌-◌, ◌↔◌, ◌==◌, ◌&&◌, ◌||◌, Bool, false, not, nat_le, nat_lt, IsTrue, List, Option, bit_and, drop, length, slice_get}
use Rattle.std.specs.List.{list_any}
use Rattle.std.specs.Option.{option_map_or}
use Rattle.buffer_common.specs.Direction.{is_backward, is_vertical}
use Rattle.buffer_common.specs.declared.direction.Direction.{Direction}
use Rattle.buffer_common.specs.declared.script.Script.{Script}
use Rattle.buffer_glyphs.specs.declared.info.TheConstants.{UNSAFE_TO_BREAK}
use Rattle.buffer_glyphs.specs.declared.info.hb_glyph_info_t.{hb_glyph_info_t}
use Rattle.buffer_unicode_tables.specs.Lawful.{IsLawful}
use Rattle.buffer_unicode_tables.specs.Tables.{Tables}
use Rattle.buffer_properties.specs.Properties.{is_mark_character}
use Rattle.layout_face.specs.declared.parts.FaceParts.{FaceParts}
use Rattle.script_categories.specs.declared.shaper.hb_ot_script_shaper_t.TheVariants.{ARABIC_SHAPER, HANGUL_SHAPER, HEBREW_SHAPER, INDIC_SHAPER, KHMER_SHAPER, MYANMAR_SHAPER, MYANMAR_ZAWGYI_SHAPER, THAI_SHAPER, UNIVERSAL_SHAPER}
use Rattle.script_dispatch.specs.declared.any_shaper.hb_ot_any_shaper_t.{hb_ot_any_shaper_t}
use Rattle.script_dispatch.specs.declared.any_shaper.hb_ot_any_shaper_t.TheVariants as any
use Rattle.script_joining.specs.Joining.{is_mongolian}
use Rattle.shape_breaks.specs.declared.premises.BreakPremises.{BreakPremises}
use Rattle.shape_breaks.specs.declared.texts.Occurrences.{Occurrences}
use Rattle.shape_breaks.specs.declared.texts.TextMarks.{TextMarks}
use Rattle.shape_breaks.specs.Tables.{KeepMarks, KeepPrivateMarks, KeepTypes}
use Rattle.shape_breaks.specs.Texts.{is_above, is_after, is_before, is_from, is_nowhere, text_marks}

-- premises that were tested of tables and a font
pub record AreTested (t : Tables) (font : FaceParts) (b : BreakPremises) : Type 0 where
  pub lawful : IsTrue b.is_lawful ↔ IsLawful t
  pub marks : IsTrue b.keeps_marks ↔ KeepMarks t font
  pub types : IsTrue b.keeps_types ↔ KeepTypes t
  pub private_marks : IsTrue b.keeps_private_marks ↔ KeepPrivateMarks t

-- ---- the characters beside a cut

-- the character at an index passes a test
abbrev pub passes_at : (ℕ → Bool) → List ℕ → ℕ → Bool
passes_at p us i = option_map_or p (slice_get us i) false

-- both pieces have characters
abbrev pub is_inside : List ℕ → ℕ → Bool
is_inside us at = nat_lt 0 at && nat_lt at (length us)

-- both pieces have such a character after their first one, or no piece has one
abbrev pub have_alike : Occurrences → ℕ → Bool
have_alike o at = is_nowhere o || (is_before o at && is_after o at)

-- U+034F COMBINING GRAPHEME JOINER
abbrev pub is_grapheme_joiner : ℕ → Bool
is_grapheme_joiner u = u == 0x34F

-- U+034F is directly before the cut
abbrev pub follows_joiner : List ℕ → ℕ → Bool
follows_joiner us at = passes_at is_grapheme_joiner us (at - 1)

-- normalizing is as for each piece alone: both have a mark after their first character, or neither has a mark; and U+034F
-- is not directly before the cut
abbrev pub marks_may_be_cut : List ℕ → TextMarks → ℕ → Bool
marks_may_be_cut us m at = have_alike m.marks at && not (follows_joiner us at)

-- ---- by shaper

-- Arabic and Syriac, but not Mongolian: tables keep joining types, a letter is after the cut, for contexts of five
-- characters to show it, and the line isn't backward and vertical at once
abbrev pub arabic_may_be_cut : BreakPremises → Direction → Option Script → List ℕ → TextMarks → ℕ → Bool
arabic_may_be_cut b d s us m at = (b.keeps_types && marks_may_be_cut us m at) && (is_from m.letters at && not ((is_backward d && is_vertical d) || is_mongolian s))

-- a piece of Thai or Lao has a mark after its first character that is no SARA AM, or a SARA AM where its first character
-- is no mark above: the mark that is split off is not moved before that one. So it is of the piece before the cut
abbrev pub is_marked_before : List ℕ → TextMarks → ℕ → Bool
is_marked_before us m at = is_before m.plain_marks at || (not (passes_at is_above us 0) && is_before m.vowels at)

-- so it is of the piece after the cut
abbrev pub is_marked_after : List ℕ → TextMarks → ℕ → Bool
is_marked_after us m at = is_after m.plain_marks at || (not (passes_at is_above us at) && is_after m.vowels at)

-- a character is a mark, or none that the Thai shaper takes for one: a mark above of Thai or Lao, or U+0E38 to U+0E3A
abbrev pub is_plain_beginning : ℕ → Bool
is_plain_beginning u = is_mark_character u || not (is_above u || (nat_le 0x0E38 u && nat_le u 0x0E3A))

-- Thai and Lao: private forms keep marks; both pieces have marks, or neither has a mark or SARA AM; U+034F is not directly
-- before the cut; and what is after it begins plainly
abbrev pub thai_may_be_cut : BreakPremises → List ℕ → TextMarks → ℕ → Bool
thai_may_be_cut b us m at =
    (b.keeps_private_marks && passes_at is_plain_beginning us at)
    && (not (follows_joiner us at) && ((is_nowhere m.marks && is_nowhere m.vowels) || (is_marked_before us m at && is_marked_after us m at)))

-- Hangul: the text has no mark, and so no tone mark that is moved before its syllable
abbrev pub hangul_may_be_cut : List ℕ → TextMarks → ℕ → Bool
hangul_may_be_cut us m at = is_nowhere m.marks && not (follows_joiner us at)

-- a shaper allows a cut; none is allowed where it finds syllables
abbrev pub may_be_cut_by : hb_ot_any_shaper_t → BreakPremises → Direction → Option Script → List ℕ → TextMarks → ℕ → Bool
may_be_cut_by any.Default b d s us m at = marks_may_be_cut us m at
may_be_cut_by any.Dumber b d s us m at = marks_may_be_cut us m at
may_be_cut_by (any.Script HEBREW_SHAPER) b d s us m at = marks_may_be_cut us m at
may_be_cut_by (any.Script MYANMAR_ZAWGYI_SHAPER) b d s us m at = marks_may_be_cut us m at
may_be_cut_by (any.Script ARABIC_SHAPER) b d s us m at = arabic_may_be_cut b d s us m at
may_be_cut_by (any.Script THAI_SHAPER) b d s us m at = thai_may_be_cut b us m at
may_be_cut_by (any.Script HANGUL_SHAPER) b d s us m at = hangul_may_be_cut us m at
may_be_cut_by (any.Script INDIC_SHAPER) b d s us m at = false
may_be_cut_by (any.Script KHMER_SHAPER) b d s us m at = false
may_be_cut_by (any.Script MYANMAR_SHAPER) b d s us m at = false
may_be_cut_by (any.Script UNIVERSAL_SHAPER) b d s us m at = false

-- a text may be broken before the character at an index by a plan's shaper, direction and script: tables are lawful and keep
-- marks with the font, and the shaper allows it
abbrev pub may_be_broken : BreakPremises → hb_ot_any_shaper_t → Direction → Option Script → List ℕ → TextMarks → ℕ → Bool
may_be_broken b shaper d s us m at = (is_inside us at && (b.is_lawful && b.keeps_marks)) && may_be_cut_by shaper b d s us m at

-- a line of a text, from the character at an index to that at another one, may be cut out of it: first the text is cut before
-- it, unless the line begins it, then what is left of the text is cut after it, unless the line ends it
abbrev pub line_may_be_cut : BreakPremises → Tables → hb_ot_any_shaper_t → Direction → Option Script → List ℕ → ℕ → ℕ → Bool
line_may_be_cut b t shaper d s us from to =
    (from == 0 || may_be_broken b shaper d s us (text_marks t us) from)
    && (to == length us || may_be_broken b shaper d s (drop from us) (text_marks t (drop from us)) (to - from))

-- ---- of a result

-- a glyph is of a cluster
abbrev pub is_of : ℕ → hb_glyph_info_t → Bool
is_of c g = g.cluster == c

-- a glyph is of a cluster, and has UNSAFE_TO_BREAK
abbrev pub is_unsafe_of : ℕ → hb_glyph_info_t → Bool
is_unsafe_of c g = g.cluster == c && not (bit_and g.mask UNSAFE_TO_BREAK == 0)

-- there are glyphs of a cluster, and none of these has UNSAFE_TO_BREAK
abbrev pub has_safe_glyph : ℕ → List hb_glyph_info_t → Bool
has_safe_glyph c gs = list_any (is_of c) gs && not (list_any (is_unsafe_of c) gs)
