-- Where a text is cut, and what its pieces show.
use Rattle.std.specs.Prelude.{ℕ, pos, ◌≡◌, ◌==◌, ◌&&◌, ◌||◌, ◌⊎◌, ⊤, Bool, true, false, not, if◌then◌else◌, nat_lt, List, [], ◌∷◌, ◌++◌, drop, fold, map, Option, None, Some}
use Rattle.std.specs.Int.RustNames.{bit_and}
use Rattle.std.specs.List.{find, list_all, list_any}
use lib.Utf8.{scalar}
use Rattle.unicode.specs.GeneralCategory.{general_category}
use Rattle.buffer_common.specs.declared.direction.Direction.{Direction}
use Rattle.buffer_common.specs.declared.direction.Direction.TheVariants.{TopToBottom}
use Rattle.buffer_common.specs.declared.script.Script.{Script}
use Rattle.buffer_glyphs.specs.declared.info.hb_glyph_info_t.{hb_glyph_info_t}
use Rattle.buffer_glyphs.specs.declared.position.GlyphPosition.{GlyphPosition}
use Rattle.buffer_glyphs.specs.Items.{glyph_flags}
use Rattle.buffer_core.specs.Segment.{direction_of}
use Rattle.buffer_core.specs.Sides.{Sides, all_glyphs}
use Rattle.buffer_properties.specs.Properties.{is_mark_character}
use Rattle.buffer_unicode.specs.Category.{category_number}
use Rattle.buffer_unicode_tables.specs.Tables.{Tables, class_of, counterpart_in, split_of, universal_of}
use Rattle.script_hangul.specs.Jamo.{is_tone, is_trailing, is_vowel}
use Rattle.script_joining.specs.Joining.{is_letter}
use Rattle.script_joining.specs.Types.{JoiningType, joining_type, type_of_character}
use Rattle.script_categories.specs.declared.category.TheConstants as category
use Rattle.script_categories.specs.declared.joining_types.hb_arabic_joining_type_t.TheVariants.{U, L, R, D, GroupAlaph, GroupDalathRish, T, X}
use Rattle.script_categories.specs.declared.shaper.hb_ot_script_shaper_t.TheVariants.{ARABIC_SHAPER, HANGUL_SHAPER, HEBREW_SHAPER, INDIC_SHAPER, KHMER_SHAPER, MYANMAR_SHAPER, MYANMAR_ZAWGYI_SHAPER, THAI_SHAPER, UNIVERSAL_SHAPER}
use Rattle.script_dispatch.specs.declared.any_shaper.hb_ot_any_shaper_t.{hb_ot_any_shaper_t}
use Rattle.script_dispatch.specs.declared.any_shaper.hb_ot_any_shaper_t.TheVariants.{Default, Dumber, Script as OfScript}
use Rattle.shape_trials.specs.declared.joined.SeenGlyph.{SeenGlyph}

-- ---- where a text is cut

-- no glyph of a cluster is unsafe to break
abbrev pub is_safe_at : List hb_glyph_info_t → ℕ → Bool
is_safe_at gs c = list_all (λ (g : hb_glyph_info_t). not (g.cluster == c) || (bit_and g.mask 1 == 0)) gs

-- a text may be cut before a cluster but 0 that is safe, at its first glyph of a run of one cluster
abbrev pub is_cut : List hb_glyph_info_t → Option ℕ → ℕ → Bool
is_cut gs None c = nat_lt 0 c && is_safe_at gs c
is_cut gs (Some last) c = nat_lt 0 c && (not (last == c) && is_safe_at gs c)

-- a cluster where the text may be cut before it
abbrev pub cut_before : List hb_glyph_info_t → Option ℕ → ℕ → List ℕ
cut_before gs last c = if is_cut gs last c then c ∷ [] else []

-- the clusters of glyphs, after a glyph of a cluster, before which the text may be cut
abbrev pub cuts_after : List hb_glyph_info_t → Option ℕ → List hb_glyph_info_t → List ℕ
cuts_after all last [] = []
cuts_after all last (g ∷ gs) = cut_before all last g.cluster ++ cuts_after all (Some g.cluster) gs

-- ---- premises

-- a line from top to bottom, or in the direction of its script
abbrev pub IsNative : Direction → Option Script → Type 0
IsNative d s = (d ≡ TopToBottom) ⊎ (d ≡ direction_of s)

-- whether a shaper decomposes SARA AM of Thai and AM of Lao into a mark and a letter, in a text of any script
abbrev pub splits_sara_am : hb_ot_any_shaper_t → Bool
splits_sara_am Default = false
splits_sara_am Dumber = false
splits_sara_am (OfScript ARABIC_SHAPER) = false
splits_sara_am (OfScript HANGUL_SHAPER) = false
splits_sara_am (OfScript HEBREW_SHAPER) = false
splits_sara_am (OfScript INDIC_SHAPER) = false
splits_sara_am (OfScript KHMER_SHAPER) = false
splits_sara_am (OfScript MYANMAR_SHAPER) = false
splits_sara_am (OfScript MYANMAR_ZAWGYI_SHAPER) = false
splits_sara_am (OfScript THAI_SHAPER) = true
splits_sara_am (OfScript UNIVERSAL_SHAPER) = false

-- SARA AM of Thai or AM of Lao
abbrev pub is_sara_am : ℕ → Bool
is_sara_am u = u == 0xE33 || u == 0xEB3

-- U+0E3B and U+0EC7 are no characters, so they continue no grapheme, but the Thai shaper takes them for marks above
abbrev pub is_taken_for_mark : ℕ → Bool
is_taken_for_mark u = u == 0xE3B || u == 0xEC7

-- a text begins with neither U+0E3B nor U+0EC7
abbrev pub begins_plainly : List ℕ → Bool
begins_plainly [] = true
begins_plainly (u ∷ us) = not (is_taken_for_mark u)

-- a text begins neither with a mark nor with what the Thai shaper takes for one
abbrev pub begins_unmarked : List ℕ → Bool
begins_unmarked [] = true
begins_unmarked (u ∷ us) = not (is_mark_character u || is_taken_for_mark u)

-- what follows the syllable of Hangul that begins a text: the first character after the first one that is neither a vowel nor
-- a trailing consonant
abbrev pub character_after_syllable : List ℕ → Option ℕ
character_after_syllable us = find (λ u. not (is_vowel u || is_trailing u)) (drop 1 us)

-- a character, where there is one, is a tone mark of Hangul
abbrev pub is_tone_mark : Option ℕ → Bool
is_tone_mark None = false
is_tone_mark (Some u) = is_tone u

-- a mark, and none of Hangul's tone marks, which may be moved before the first character of a text
abbrev pub is_staying_mark : ℕ → Bool
is_staying_mark u = is_mark_character u && not (is_tone u)

-- a text has a mark after its first character that stays after it
abbrev pub has_staying_mark : List ℕ → Bool
has_staying_mark us = list_any is_staying_mark (drop 1 us)

-- a text has SARA AM after a number of characters
abbrev pub has_sara_am_past : ℕ → List ℕ → Bool
has_sara_am_past n us = list_any is_sara_am (drop n us)

-- a text has a mark that stays after its first character; or SARA AM, where that is decomposed and no mark begins the
-- text, before which its own mark might be moved
abbrev pub is_marked : Bool → List ℕ → Bool
is_marked splits us = has_staying_mark us || (splits && (begins_unmarked us && has_sara_am_past 1 us))

-- a text has a mark
abbrev pub has_mark : List ℕ → Bool
has_mark us = list_any is_mark_character us

-- a text has no mark, and no SARA AM where that is decomposed
abbrev pub is_unmarked : Bool → List ℕ → Bool
is_unmarked splits us = not (has_mark us) && not (splits && has_sara_am_past 0 us)

-- both pieces have marks as normalization counts them, or neither has one
abbrev pub have_like_marks : Bool → List ℕ → List ℕ → Bool
have_like_marks splits us vs = (is_marked splits us && is_marked splits vs) || (is_unmarked splits us && is_unmarked splits vs)

-- a text ends with COMBINING GRAPHEME JOINER
abbrev pub ends_with_joiner : List ℕ → Bool
ends_with_joiner us = fold (λ _ u. u == 0x34F) false us

-- what begins a text stays there: it is neither of the two numbers before which SARA AM may be moved, nor a syllable before
-- which a tone mark of Hangul may be moved
abbrev pub keeps_beginning : List ℕ → Bool
keeps_beginning us = begins_plainly us && not (is_tone_mark (character_after_syllable us))

-- a text may be cut between two pieces by a shaper
abbrev pub may_be_cut : hb_ot_any_shaper_t → List ℕ → List ℕ → Bool
may_be_cut shaper us vs = have_like_marks (splits_sara_am shaper) us vs && (not (ends_with_joiner us) && keeps_beginning vs)

-- shapers that may join letters as Arabic ones
abbrev pub may_join : hb_ot_any_shaper_t → Bool
may_join Default = false
may_join Dumber = false
may_join (OfScript ARABIC_SHAPER) = true
may_join (OfScript UNIVERSAL_SHAPER) = true
may_join (OfScript HANGUL_SHAPER) = false
may_join (OfScript HEBREW_SHAPER) = false
may_join (OfScript INDIC_SHAPER) = false
may_join (OfScript KHMER_SHAPER) = false
may_join (OfScript MYANMAR_SHAPER) = false
may_join (OfScript MYANMAR_ZAWGYI_SHAPER) = false
may_join (OfScript THAI_SHAPER) = false

-- ---- premises on tables: a context has the characters of a text, and the text may have others for them

-- each character passes
abbrev pub EachCharacter : (ℕ → Type 0) → Type 0
EachCharacter P = (u : ℕ) → scalar u ≡ true → P u

-- the type of the first letter of two characters; transparent where neither is a letter
abbrev pub first_letter : JoiningType → JoiningType → JoiningType
first_letter s t = if is_letter s then s else t

-- the joining type of a second half; an absent one (0) counts as transparent
abbrev pub type_of_half : Tables → ℕ → JoiningType
type_of_half t b = if b == 0 then T else type_of_character t b

-- two characters are to their neighbours on both sides as one of some type is
abbrev pub AreSeenAs : JoiningType → JoiningType → JoiningType → Type 0
AreSeenAs whole s t = (first_letter s t ≡ whole) × (first_letter t s ≡ whole)

-- the halves of a decomposition, where there is one, are to their neighbours as a character of some type
abbrev pub HalvesKeepType : Tables → JoiningType → Option (ℕ × ℕ) → Type 0
HalvesKeepType t whole None = ⊤
HalvesKeepType t whole (Some (a, b)) = AreSeenAs whole (type_of_character t a) (type_of_half t b)

-- the counterpart of a character in another direction, where there is one, has its joining type: by the general
-- category of the character, which it keeps, and by its own
abbrev pub CounterpartKeepsType : Tables → ℕ → Option ℕ → Type 0
CounterpartKeepsType t u None = ⊤
CounterpartKeepsType t u (Some c) =
    (joining_type t c (category_number (general_category u)) ≡ type_of_character t u)
    × (type_of_character t c ≡ type_of_character t u)

-- transparent or non-joining: of characters of these types letters see the same in any order
abbrev pub joins_nothing : JoiningType → Bool
joins_nothing U = true
joins_nothing L = false
joins_nothing R = false
joins_nothing D = false
joins_nothing GroupAlaph = false
joins_nothing GroupDalathRish = false
joins_nothing T = true
joins_nothing X = false

-- a character is to its neighbours as what may stand for it: its decomposition, its mirror image, its vertical form;
-- and one that canonical ordering may move (UAX 15, D109) is transparent or non-joining
pub record KeepsType (t : Tables) (u : ℕ) : Type 0 where
  pub halves : HalvesKeepType t (type_of_character t u) (split_of t u)
  pub mirrored : CounterpartKeepsType t u (counterpart_in t.mirrored u)
  pub vertical : CounterpartKeepsType t u (counterpart_in t.vertical u)
  pub ordered : (class_of t u == 0 || joins_nothing (type_of_character t u)) ≡ true

-- a context shows the letters that the text has
abbrev pub KeepTypes : Tables → Type 0
KeepTypes t = EachCharacter (KeepsType t)

-- a mark, or ZERO WIDTH JOINER: it continues a grapheme (UAX 29, GB9)
abbrev pub continues : ℕ → Bool
continues u = is_mark_character u || (u == 0x200D)

-- what stands for a character, where something does, continues a grapheme exactly where the character does
abbrev pub ContinuesAlike : ℕ → Option ℕ → Type 0
ContinuesAlike u None = ⊤
ContinuesAlike u (Some c) = continues c ≡ continues u

-- the first half of a decomposition
abbrev pub first_half : Option (ℕ × ℕ) → Option ℕ
first_half None = None
first_half (Some (a, b)) = Some a

-- a category that syllables of the universal shaper pass over: that of the combining grapheme joiner
abbrev pub is_passed_over : Option ℕ → Bool
is_passed_over None = false
is_passed_over (Some n) = n == category.CGJ

-- a character that syllables pass over continues a grapheme, and so does, exactly where the character does, what may
-- stand for it
pub record KeepsGraphemes (t : Tables) (u : ℕ) : Type 0 where
  pub joiner : (not (is_passed_over (universal_of t u)) || continues u) ≡ true
  pub halves : ContinuesAlike u (first_half (split_of t u))
  pub mirrored : ContinuesAlike u (counterpart_in t.mirrored u)
  pub vertical : ContinuesAlike u (counterpart_in t.vertical u)

-- no grapheme begins with what syllables pass over, or with a mark that stands for a character
abbrev pub KeepGraphemes : Tables → Type 0
KeepGraphemes t = EachCharacter (KeepsGraphemes t)

-- ---- what pieces show

-- what a caller reads of a glyph
abbrev pub seen_glyph : hb_glyph_info_t → SeenGlyph
seen_glyph g = record { glyph_id = g.glyph_id; cluster = g.cluster; flags = glyph_flags g }

-- a position without its link
abbrev pub without_link : GlyphPosition → GlyphPosition
without_link p = record p { attach_chain = pos 0; attach_type = 0 }

-- a result shows the glyphs of two others, one after the other, at their positions
abbrev pub ArePieces : Sides → Sides → Sides → Type 0
ArePieces whole first second =
    (map seen_glyph (all_glyphs whole) ≡ map seen_glyph (all_glyphs first) ++ map seen_glyph (all_glyphs second))
    × (map without_link whole.positions ≡ map without_link first.positions ++ map without_link second.positions)

-- a result shows the glyphs of an earlier piece and of a later one, in the line's order
abbrev pub AreInOrder : Bool → Sides → Sides → Sides → Type 0
AreInOrder true whole early late = ArePieces whole late early
AreInOrder false whole early late = ArePieces whole early late
