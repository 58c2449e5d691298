-- At the level Graphemes: the clusters of a shaped text are the first ones of its graphemes.
use Rattle.std.specs.Prelude.{ℕ, ◌≡◌, None, List, [], ◌∷◌, ◌++◌, take, drop}
use Rattle.buffer_glyphs.specs.declared.level.BufferClusterLevel.TheVariants.{Graphemes}
use Rattle.buffer_glyphs.specs.Items.{Item, clusters}
use Rattle.buffer_glyphs.specs.Order.{BringsNone, IsRising}
use Rattle.buffer_unicode_tables.specs.Lawful.{IsLawful}
use Rattle.buffer_unicode_tables.specs.Tables.{Tables}
use Rattle.buffer_core.specs.Sides.{Sides, all_glyphs, items_of}
use Rattle.buffer_core.specs.Text.{added_text, text_items}
use Rattle.shape_text.specs.Clusters.{grapheme_lengths}
use Rattle.shape_text.specs.Properties.{items_prepared}
use Rattle.shape_pipeline.specs.Results.{IsShapedBy}
use Rattle.shape_pipeline.specs.Shaping.{Shaping}
use Rattle.shape_slices.specs.Fitting.{character_starts}

-- the first number of each range of the given lengths, one range after another
abbrev pub first_numbers : List ℕ → List ℕ → List ℕ
first_numbers [] ns = []
first_numbers (n ∷ lens) ns = take 1 ns ++ first_numbers lens (drop n ns)

-- the first number of each grapheme of a text, by the numbers of its characters (UAX 29, as HarfBuzz cuts graphemes)
abbrev pub grapheme_numbers : Tables → List Item → List ℕ → List ℕ
grapheme_numbers t xs ns = first_numbers (grapheme_lengths (items_prepared t None xs)) ns

-- the bytes at which the graphemes of a text begin
abbrev pub grapheme_starts : Tables → List ℕ → List ℕ
grapheme_starts t text = grapheme_numbers t (text_items text) (character_starts text)

-- by lawful tables, each glyph that a text whose clusters rise is shaped to has the cluster of a grapheme's first
-- character
abbrev pub ShapedClustersAreGraphemes : Type 0
ShapedClustersAreGraphemes = (p : Shaping) (text result : Sides) → IsLawful p.tables → text.level ≡ Graphemes → IsRising (clusters (all_glyphs text)) → IsShapedBy p text result
    → BringsNone (grapheme_numbers p.tables (items_of text) (clusters (all_glyphs text))) (clusters (all_glyphs result))

-- of a text that was pushed once, the byte at which a grapheme begins
abbrev pub PushedClustersAreGraphemes : Type 0
PushedClustersAreGraphemes = (p : Shaping) (bytes : List ℕ) (text result : Sides) → IsLawful p.tables → text.level ≡ Graphemes → all_glyphs text ≡ added_text bytes → IsShapedBy p text result
    → BringsNone (grapheme_starts p.tables bytes) (clusters (all_glyphs result))
