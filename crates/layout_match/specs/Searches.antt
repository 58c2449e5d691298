-- The answers of a search for the glyphs of a rule (OpenType, chapter 2, lookupFlag; GDEF).
use Rattle.std.specs.Prelude.{ℕ, ◌==◌, ◌/◌, ◌&&◌, ◌||◌, Bool, not, true, if◌then◌else◌, List, Option, Some, None, bit_and}
use Rattle.buffer_glyphs.specs.Items.{Item}
use Rattle.buffer_glyphs.specs.LigatureWords.{has_bits}
use Rattle.buffer_glyphs.specs.PropertyWords.{is_default_ignorable}
use Rattle.layout_face.specs.Glyphs.{mark_set_has}
use Rattle.layout_match.specs.Sequences.{is_number, test_at, tests_of}
use Rattle.layout_match.specs.declared.sequence.MatchSequence.{MatchSequence}
use Rattle.layout_match.specs.declared.search.GlyphSearch.{GlyphSearch}
use Rattle.layout_match.specs.declared.search.match_t.{match_t}
use Rattle.layout_match.specs.declared.search.match_t.TheVariants.{MATCH, SKIP, NOT_MATCH}

-- the parameters of a search
pub record Search : Type 0 where
  -- the lookup flag, and above its 16 bits the index of its mark filtering set
  pub props : ℕ
  -- the font's mark glyph sets
  pub sets : List (List ℕ)
  -- whether non-joiners, joiners, and hidden characters are skipped
  pub zwnj : Bool
  pub zwj : Bool
  pub hidden : Bool
  -- the feature bits of which an item needs one, where there is such a condition
  pub mask : Option ℕ
  -- the syllable byte that an item needs, where there is such a condition
  pub syllable : Option ℕ

-- the parameters of a glyph search
abbrev pub search_of : GlyphSearch → Search
search_of s = record { props = s.lookup_props; sets = s.face.now.gdef.sets; zwnj = s.ignore_zwnj; zwj = s.ignore_zwj; hidden = s.ignore_hidden; mask = s.mask; syllable = s.syllable }

-- an item of class MARK that the lookup flag leaves out: one outside its filtering set, or else of another attachment
-- class than the one it names
abbrev pub is_other_mark : ℕ → List (List ℕ) → Item → Bool
is_other_mark props sets x =
    if has_bits 16 props then not (is_number x.number && mark_set_has (props / 65536) x.number sets)
    else has_bits 0xFF00 props && not (bit_and props 0xFF00 == bit_and x.glyph_props 0xFF00)

-- whether the lookup flag leaves out an item, by its class (the flag's bits are those of the classes) or as a mark
abbrev pub is_left_out : ℕ → List (List ℕ) → Item → Bool
is_left_out props sets x = has_bits (bit_and props 14) x.glyph_props || (has_bits 8 x.glyph_props && is_other_mark props sets x)

-- whether an item may be skipped where it doesn't match
abbrev pub is_skippable : Search → Item → Bool
is_skippable s x =
    is_default_ignorable x && (s.hidden || not (has_bits 0x40 x.unicode_props)) && (s.zwnj || not (has_bits 0x200 x.unicode_props))
    && (s.zwj || not (has_bits 0x100 x.unicode_props))

-- whether an item has one of the feature bits, where there is such a condition
abbrev pub has_mask : Option ℕ → Item → Bool
has_mask None x = true
has_mask (Some bits) x = has_bits bits x.mask

-- whether an item has the syllable byte, where there is such a condition
abbrev pub is_in_syllable : Option ℕ → Item → Bool
is_in_syllable None x = true
is_in_syllable (Some syllable) x = x.syllable == syllable

-- whether a search matches an item that passes a test
abbrev pub is_wanted : Search → (Item → Bool) → Item → Bool
is_wanted s test x = has_mask s.mask x && is_in_syllable s.syllable x && test x

-- a search's answer for an item
abbrev pub answer : Search → (Item → Bool) → Item → match_t
answer s test x = if is_left_out s.props s.sets x then SKIP else if is_wanted s test x then MATCH else if is_skippable s x then SKIP else NOT_MATCH

-- the k-th test of a sequence; without a sequence a search matches the items that it can't skip
abbrev pub test_of : Search → Option MatchSequence → ℕ → Item → Bool
test_of s None k = λ x. not (is_skippable s x)
test_of s (Some sequence) k = test_at (tests_of sequence) k
