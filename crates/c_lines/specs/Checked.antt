-- Lines that keep a text's glyphs only where the law of safe breaks speaks of both of their ends.
use Rattle.std.specs.Prelude.{ℕ, ⊤, ◌+◌, ◌≡◌, ◌==◌, ◌||◌, not, false, if◌then◌else◌, nat_lt, bit_and, List, [], ◌∷◌, map}
use lib.Utf8.{scalar}
use Rattle.buffer_core.specs.Segment.{after_guess_segment_properties}
use Rattle.buffer_core.specs.Sides.{Sides, all_glyphs}
use Rattle.buffer_glyphs.specs.declared.info.hb_glyph_info_t.{hb_glyph_info_t}
use Rattle.buffer_tags.specs.LanguageTable.{tags_of_table}
use Rattle.buffer_tags.specs.declared.feature.Feature.{Feature}
use Rattle.buffer_unicode_tables.specs.Tables.{Tables}
use Rattle.c_lines.specs.declared.types.kus_line_t.{kus_line_t}
use Rattle.c_text.specs.Texts.{IsTextOf, features_of}
use Rattle.c_text.specs.declared.types.kus_text_t.{kus_text_t}
use Rattle.script_dispatch.specs.declared.any_shaper.hb_ot_any_shaper_t.{hb_ot_any_shaper_t}
use Rattle.script_plan.specs.declared.plan.hb_ot_shape_plan_t.{hb_ot_shape_plan_t}
use Rattle.shape_breaks.specs.Cuts.{line_may_be_cut}
use Rattle.shape_breaks.specs.declared.premises.BreakPremises.{BreakPremises}
use Rattle.shape_pipeline.specs.Plans.{IsPlanFor}
use Rattle.shell_readers.specs.declared.input.RunInput.{RunInput}

-- premises as C passes them: a bit for each, lawful tables, marks, joining types, marks in private forms of Thai
abbrev pub premises_numbered : ℕ → BreakPremises
premises_numbered n = record {
  is_lawful = not (bit_and n 1 == 0);
  keeps_marks = not (bit_and n 2 == 0);
  keeps_types = not (bit_and n 4 == 0);
  keeps_private_marks = not (bit_and n 8 == 0);
}

-- the index of the first character of a text that is not before a unit; how many characters it has where all are
abbrev pub first_from : ℕ → List hb_glyph_info_t → ℕ
first_from unit [] = 0
first_from unit (g ∷ gs) = if nat_lt g.cluster unit then first_from unit gs + 1 else 0

-- the character of a text's glyph; U+FFFD REPLACEMENT CHARACTER for a number that is none
abbrev pub character_of : hb_glyph_info_t → ℕ
character_of g = if scalar g.glyph_id then g.glyph_id else 0xFFFD

-- a line without glyphs, which has to be shaped again
abbrev pub without_glyphs : kus_line_t → kus_line_t
without_glyphs l = record l { first_glyph = 0; end_glyph = 0; is_own = false }

-- a line between two indices of a text's characters, which keeps the text's glyphs where both of its ends may be cut by a plan
abbrev pub line_between : BreakPremises → Tables → hb_ot_shape_plan_t hb_ot_any_shaper_t ⊤ → List ℕ → (from to : ℕ) → kus_line_t → kus_line_t
line_between b t plan us from to l =
    if not l.is_own || line_may_be_cut b t plan.shaper plan.script_plan.direction plan.script_plan.script us from to then l else without_glyphs l

-- a line of the characters of a text, between its units
abbrev pub checked_line : BreakPremises → Tables → hb_ot_shape_plan_t hb_ot_any_shaper_t ⊤ → List hb_glyph_info_t → kus_line_t → kus_line_t
checked_line b t plan gs l = line_between b t plan (map (λ (g : hb_glyph_info_t). g.glyph_id) gs) (first_from l.start gs) (first_from l.end gs) l

-- lines of a text in its buffer, with features, were checked by the plan for it
pub record AreCheckedIn (input : RunInput) (b : BreakPremises) (features : List Feature) (text : Sides) (before now : List kus_line_t) : Type 0 where
  pub plan : hb_ot_shape_plan_t hb_ot_any_shaper_t ⊤
  pub of_text : IsPlanFor input.face (tags_of_table input.tables.languages) features text plan
  pub lines : now ≡ map (checked_line b input.tables.characters plan (all_glyphs text)) before

-- lines of a text of C were checked
pub record AreChecked (input : RunInput) (b : BreakPremises) (text : kus_text_t) (before now : List kus_line_t) : Type 0 where
  pub buffer : Sides
  pub of_text : IsTextOf text buffer
  pub lines : AreCheckedIn input b (features_of text) (after_guess_segment_properties buffer) before now
