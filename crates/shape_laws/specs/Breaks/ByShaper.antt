-- What each shaper asks of a text that is cut into two.
use Rattle.std.specs.Prelude.{⊤, ◌≡◌, ◌&&◌, false, Ok}
use Rattle.std.specs.List.{list_any}
use Rattle.buffer_common.specs.Direction.{is_backward, is_vertical}
use Rattle.buffer_glyphs.specs.Origins.{numbers}
use Rattle.buffer_core.specs.Readings.{Read, state_after}
use Rattle.buffer_core.specs.Sides.{Sides, items_of, state_of}
use Rattle.script_arabic.specs.Tiles.{is_tile}
use Rattle.script_categories.specs.declared.shaper.hb_ot_script_shaper_t.TheVariants.{ARABIC_SHAPER, HANGUL_SHAPER, HEBREW_SHAPER, INDIC_SHAPER, KHMER_SHAPER, MYANMAR_SHAPER, MYANMAR_ZAWGYI_SHAPER, THAI_SHAPER, UNIVERSAL_SHAPER}
use Rattle.script_dispatch.specs.declared.any_shaper.hb_ot_any_shaper_t.{hb_ot_any_shaper_t}
use Rattle.script_dispatch.specs.declared.any_shaper.hb_ot_any_shaper_t.TheVariants as any
use Rattle.script_joining.specs.Joining.{is_mongolian}
use Rattle.script_plan.specs.declared.plan.hb_script_plan_t.{hb_script_plan_t}
use Rattle.shape_text.specs.Ranges.{with_ranges}
use Rattle.shape_pipeline.specs.Characters.{normalizer}
use Rattle.shape_pipeline.specs.Reading.{before_ranges}
use Rattle.shape_pipeline.specs.Shaping.{Shaping}
use Rattle.shape_laws.specs.Breaks.Apart.{before_end}
use Rattle.shape_laws.specs.Breaks.ChainLaws.{BeginsPlainly}
use Rattle.shape_laws.specs.Breaks.Characters.{MayBreak, characters}
use Rattle.shape_laws.specs.Breaks.HangulCharacters.{MayBreakHangul, begins_toned}
use Rattle.shape_laws.specs.Breaks.ThaiCharacters.{KeepsPrivateMarks, MayBreakThai}
use Rattle.shape_laws.specs.Breaks.Types.{CharactersShow, KeepsTypes}

-- both texts have a mark after their first character, or neither has a mark, and U+034F is not directly before the cut
abbrev pub MarksMayBeCut : (earlier later : Sides) → Type 0
MarksMayBeCut earlier later = MayBreak (characters (items_of earlier)) (characters (items_of later))

-- no glyph of a text is a tile where the Arabic shaper would lay tiles over words (feature stch)
abbrev pub HasNoTiles : Shaping → Sides → Type 0
HasNoTiles p text = (r a : Read) → before_ranges p (state_of text).view ≡ Ok r → before_end p (with_ranges p.map p.features (numbers (state_after r (state_of text)).origins) r.view).view ≡ Ok a → list_any is_tile a.view.items ≡ false

-- Arabic and Syriac, but not Mongolian: the contexts of the two texts show the letters on both sides of the cut; what
-- stands for a character keeps its joining type; the line isn't backward and vertical at once; and no glyph is a tile
pub record ArabicMayBeCut (plan : hb_script_plan_t ⊤) (p p1 p2 : Shaping) (whole earlier later : Sides) : Type 0 where
  pub marks : MarksMayBeCut earlier later
  pub shown : CharactersShow p.tables p.settings.pre_context p.settings.post_context p1.settings.post_context p2.settings.pre_context (characters (items_of earlier)) (characters (items_of later))
  pub types : KeepsTypes (normalizer p)
  pub direction : (is_backward p.direction && is_vertical p.direction) ≡ false
  pub script : is_mongolian plan.script ≡ false
  pub untiled : HasNoTiles p whole
  pub early_untiled : HasNoTiles p1 earlier
  pub late_untiled : HasNoTiles p2 later

-- Thai and Lao: both texts have a mark, or SARA AM after what it may follow, or neither text has one; U+034F is not directly
-- before the cut; the later text begins with no mark above that is no mark; and private forms of marks are marks
pub record ThaiMayBeCut (p : Shaping) (earlier later : Sides) : Type 0 where
  pub marks : MayBreakThai (items_of earlier) (items_of later)
  pub begins : BeginsPlainly (items_of later)
  pub forms : KeepsPrivateMarks p.tables

-- Hangul: both texts have a mark after their first character, where a tone mark that is moved before their first syllable
-- doesn't count, or neither text has a mark; U+034F is not directly before the cut; and no tone mark is moved before a
-- syllable that begins the later text
pub record HangulMayBeCut (p : Shaping) (earlier later : Sides) : Type 0 where
  pub marks : MayBreakHangul p.font (characters (items_of earlier)) (characters (items_of later))
  pub begins : begins_toned p.font (characters (items_of later)) ≡ false

-- what a shaper asks of a text that is cut into two; nothing is promised where it finds syllables
abbrev pub MayBeCutBy : hb_ot_any_shaper_t → hb_script_plan_t ⊤ → (p p1 p2 : Shaping) (whole earlier later : Sides) → Type 0
MayBeCutBy any.Default plan p p1 p2 whole earlier later = MarksMayBeCut earlier later
MayBeCutBy any.Dumber plan p p1 p2 whole earlier later = MarksMayBeCut earlier later
MayBeCutBy (any.Script HEBREW_SHAPER) plan p p1 p2 whole earlier later = MarksMayBeCut earlier later
MayBeCutBy (any.Script MYANMAR_ZAWGYI_SHAPER) plan p p1 p2 whole earlier later = MarksMayBeCut earlier later
MayBeCutBy (any.Script ARABIC_SHAPER) plan p p1 p2 whole earlier later = ArabicMayBeCut plan p p1 p2 whole earlier later
MayBeCutBy (any.Script THAI_SHAPER) plan p p1 p2 whole earlier later = ThaiMayBeCut p earlier later
MayBeCutBy (any.Script HANGUL_SHAPER) plan p p1 p2 whole earlier later = HangulMayBeCut p earlier later
MayBeCutBy (any.Script INDIC_SHAPER) plan p p1 p2 whole earlier later = ⊥
MayBeCutBy (any.Script KHMER_SHAPER) plan p p1 p2 whole earlier later = ⊥
MayBeCutBy (any.Script MYANMAR_SHAPER) plan p p1 p2 whole earlier later = ⊥
MayBeCutBy (any.Script UNIVERSAL_SHAPER) plan p p1 p2 whole earlier later = ⊥
