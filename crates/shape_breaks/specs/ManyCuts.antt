-- A text that is cut before many clusters at once.
use Rattle.std.specs.Prelude.{ℕ, ◌≡◌, ◌⊎◌, Bool, true, false, List, [], ◌∷◌, drop, map}
use Rattle.std.specs.List.{All, flat_map, list_any}
use Rattle.buffer_common.specs.declared.tag.Tag.{Tag}
use Rattle.buffer_tags.specs.declared.feature.Feature.{Feature}
use Rattle.buffer_glyphs.specs.Order.{IsInOrder}
use Rattle.buffer_glyphs.specs.Origins.{numbers}
use Rattle.buffer_unicode_tables.specs.Lawful.{AsciiHasNoMarks}
use Rattle.buffer_unicode_tables.specs.Tables.{Tables}
use Rattle.buffer_core.specs.Readings.{BufferState}
use Rattle.buffer_core.specs.Sides.{Sides, state_of}
use Rattle.buffer_properties.specs.Properties.{is_mark_character}
use Rattle.buffer_parts.specs.Breaks.Concat.{SameButConcat}
use Rattle.buffer_parts.specs.Breaks.Fragments.{as_they_stand}
use Rattle.layout_face.specs.declared.parts.FaceParts.{FaceParts}
use Rattle.script_dispatch.specs.Requests.{any_kind}
use Rattle.script_plan.specs.Plans.{planned_shaper, text_plan}
use Rattle.script_plan.specs.Rules.{Spans}
use Rattle.shape_pipeline.specs.Characters.{normalizer}
use Rattle.shape_pipeline.specs.Results.{IsResultOf, IsShapedBy}
use Rattle.shape_pipeline.specs.Shaped.{by_text, language_tags}
use Rattle.shape_pipeline.specs.Shaping.{Shaping}
use Rattle.shape_laws.specs.Breaks.ByShaper.{MayBeCutBy}
use Rattle.shape_laws.specs.Breaks.Characters.{HaveLikeMarks, KeepsMarks}
use Rattle.shape_laws.specs.Breaks.InLine.{MayBeCutAt, glyph_numbers}
use Rattle.shape_laws.specs.Breaks.SafeTexts.{AreCut, AreOfOneLanguage, HaveEnough}

-- what texts are shaped with: a font, the tables of characters, the tags of languages, the scan for syllables, and features
pub record Setup : Type 0 where
  pub font : FaceParts
  pub tables : Tables
  pub tags : List ℕ → List Tag
  pub spans : Spans
  pub features : List Feature

-- what a text is shaped by
abbrev pub shaping_of : Setup → Sides → Shaping
shaping_of s text = by_text s.font s.tables s.tags s.spans s.features text

-- a text whose direction and script are known, and the result that `shape` gives of it
pub record ShapedText (s : Setup) : Type 0 where
  pub text : Sides
  pub result : Sides
  pub shaped : IsShapedBy (shaping_of s text) text result
  pub is : IsResultOf text result

-- a text is cut before cluster c into two, where the law of safe breaks speaks of it (`law_safe_breaks`)
pub record IsCutAt (s : Setup) (c : ℕ) (whole earlier later : ShapedText s) : Type 0 where
  pub texts : AreCut c whole.text earlier.text later.text
  pub language : AreOfOneLanguage whole.text earlier.text later.text
  pub shaper : MayBeCutBy (planned_shaper any_kind s.font (language_tags s.tags whole.text) whole.text.direction whole.text.script) (text_plan any_kind s.font (language_tags s.tags whole.text) whole.text.direction whole.text.script s.features)
      (shaping_of s whole.text) (shaping_of s earlier.text) (shaping_of s later.text) whole.text earlier.text later.text
  pub characters : KeepsMarks (normalizer (shaping_of s whole.text))
  pub limits : HaveEnough (shaping_of s whole.text) (shaping_of s earlier.text) (shaping_of s later.text) whole.text earlier.text later.text

-- a piece of a text, and the cluster before which the text is cut after it
pub record CutPiece (s : Setup) : Type 0 where
  pub piece : ShapedText s
  pub cut : ℕ

-- a text is cut into pieces, one after the other, and a last one: each cut is one of what is left of the text
abbrev pub AreCutInto : (s : Setup) → ShapedText s → List (CutPiece s) → ShapedText s → Type 0
AreCutInto s whole [] last = whole ≡ last
AreCutInto s whole (q ∷ qs) last = (rest : ShapedText s) × (IsCutAt s q.cut whole q.piece rest × AreCutInto s rest qs last)

-- the lists of some pieces and of a last one in the order of the line: where clusters fall, the last one stands first
abbrev pub standing : {X : Type 0} → Bool → List (List X) → List X → List X
standing falls [] last = last
standing falls (xs ∷ xss) last = as_they_stand falls xs (standing falls xss last)

-- the results of pieces
abbrev pub piece_results : (s : Setup) → List (CutPiece s) → List BufferState
piece_results s qs = map (λ (q : CutPiece s). state_of q.piece.result) qs

-- a shaped text shows pieces one after the other, and a last one, where clusters fall in the other order: the glyphs, the
-- positions, the clusters, and the flags but for UNSAFE_TO_CONCAT
pub record ShowsAll (falls : Bool) (whole : BufferState) (pieces : List BufferState) (last : BufferState) : Type 0 where
  pub glyphs : glyph_numbers whole.view.items ≡ standing falls (map (λ (r : BufferState). glyph_numbers r.view.items) pieces) (glyph_numbers last.view.items)
  pub positions : whole.view.positions ≡ standing falls (map (λ (r : BufferState). r.view.positions) pieces) last.view.positions
  pub clusters : numbers whole.origins ≡ standing falls (map (λ (r : BufferState). numbers r.origins) pieces) (numbers last.origins)
  pub flags : SameButConcat whole.origins (standing falls (map (λ (r : BufferState). r.origins) pieces) last.origins)

-- law: a text that is cut before many clusters shows all its pieces, where its own result may be cut at each of them: the flags of
-- the whole are enough, and the results of what is left need not be seen. Its premises are those of each cut of what is left
-- of the text, and not those of each cut of the whole: a piece without marks between pieces with marks has none of its own
-- to be normalized by, though at each of its ends the whole has marks on both sides
abbrev pub TextsShowAllPieces : Type 0
TextsShowAllPieces = (s : Setup) (falls : Bool) (whole last : ShapedText s) (qs : List (CutPiece s)) → AsciiHasNoMarks → AreCutInto s whole qs last
    → All (λ (q : CutPiece s). MayBeCutAt q.cut (state_of whole.result)) qs → IsInOrder falls (numbers (state_of whole.result).origins) → ShowsAll falls (state_of whole.result) (piece_results s qs) (state_of last.result)

-- ---- marks of pieces

-- each of some pieces has a mark after its first character, or none of them has a mark
abbrev pub AreMarkedAlike : List (List ℕ) → Type 0
AreMarkedAlike ps = All (λ us. list_any is_mark_character (drop 1 us) ≡ true) ps ⊎ All (λ us. list_any is_mark_character us ≡ false) ps

-- law: the first of such pieces and all that is left of the text have marks alike, so that each cut of what is left is one
-- that the law allows as far as marks are asked for
abbrev pub AlikePiecesHaveLikeMarks : Type 0
AlikePiecesHaveLikeMarks = (us vs : List ℕ) (ps : List (List ℕ)) → AreMarkedAlike (us ∷ vs ∷ ps) → HaveLikeMarks us (flat_map (λ ws. ws) (vs ∷ ps))
