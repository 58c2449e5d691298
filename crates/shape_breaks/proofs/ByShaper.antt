-- A text that may be broken by the tests may be cut by its shaper.
use Rattle.std.proofs.Common.{ℕ, suc, zero, ◌≡◌, ◌≢◌, ◌≤◌, ◌<◌, ◌==◌, ◌&&◌, ◌||◌, not, nat_le, nat_lt, inl, inr, if◌then◌else◌, Bool, true, false, List, [], ◌∷◌, ◌++◌, length, map, take, drop, Option, None, Some, arith, refl, sym, ap, subst, ◌∙◌}
use Rattle.std.specs.Prelude.{⊤, reverse, slice_get}
use Rattle.std.specs.List.{list_all, list_any}
use Rattle.std.specs.Option.{option_map_or}
use Rattle.std.proofs.lemmas.Bool.Decides.{nat_tests}
use Rattle.buffer_facts.proofs.Numbers.{test_of_apart}
use Rattle.buffer_facts.proofs.Truth.{both_true, either_true, false_by_not, neither_true}
use Rattle.buffer_common.specs.Direction.{is_backward, is_vertical}
use Rattle.buffer_unicode_tables.specs.Lawful.{IsLawful}
use Rattle.buffer_unicode_tables.specs.Tables.{Tables, pair_of, split_of}
use Rattle.buffer_glyphs.specs.Items.{Item}
use Rattle.buffer_properties.specs.Properties.{is_mark_character}
use Rattle.buffer_core.specs.Sides.{Sides, items_of}
use Rattle.layout_face.specs.declared.parts.FaceParts.{FaceParts}
use Rattle.script_categories.specs.declared.shaper.hb_ot_script_shaper_t.TheVariants.{ARABIC_SHAPER, HANGUL_SHAPER, HEBREW_SHAPER, INDIC_SHAPER, KHMER_SHAPER, MYANMAR_SHAPER, MYANMAR_ZAWGYI_SHAPER, THAI_SHAPER, UNIVERSAL_SHAPER}
use Rattle.script_dispatch.specs.declared.any_shaper.hb_ot_any_shaper_t.{hb_ot_any_shaper_t}
use Rattle.script_dispatch.specs.declared.any_shaper.hb_ot_any_shaper_t.TheVariants as any
use Rattle.script_dispatch.specs.Rules.{rules_of}
use Rattle.script_hangul.specs.Jamo.{is_tone}
use Rattle.script_hangul.specs.Steps.{has_no_width}
use Rattle.script_joining.specs.Joining.{is_mongolian, types_of_characters}
use Rattle.script_plan.specs.declared.plan.hb_script_plan_t.{hb_script_plan_t}
use Rattle.script_plan.specs.Rules.{ShaperRules}
use Rattle.script_thai.specs.declared.thai_private.Mark.TheVariants.{AV, BV, NotMark, T as MarkT}
use Rattle.script_thai.specs.ThaiPrivate.{mark_of}
use Rattle.script_thai.specs.ThaiVowel.{is_mark_above, is_sara_am}
use Rattle.shape_pipeline.specs.Characters.{normalizer}
use Rattle.shape_pipeline.specs.Shaping.{Shaping}
use Rattle.shape_laws.specs.Breaks.ByShaper.{ArabicMayBeCut, HangulMayBeCut, MarksMayBeCut, MayBeCutBy, ThaiMayBeCut}
use Rattle.shape_laws.specs.Breaks.ChainLaws.{BeginsPlainly, NearestContextsShow, TonesAreMarks}
use Rattle.shape_laws.specs.Breaks.Characters.{KeepsMarks, MayBreak, characters, ends_with_joiner}
use Rattle.shape_laws.specs.Breaks.HangulCharacters.{MayBreakHangul, begins_syllable, begins_toned, continues_syllable, is_moved_tone, is_toned}
use Rattle.shape_laws.specs.Breaks.Joining.{has_letter}
use Rattle.shape_laws.specs.Breaks.ThaiCharacters.{IsMarkedText, IsUnmarkedText, MayBreakThai, is_plain_mark}
use Rattle.shape_laws.specs.Breaks.Types.{CharactersShow, KeepsTypes}
use Rattle.shape_breaks.specs.declared.premises.BreakPremises.{BreakPremises}
use Rattle.shape_breaks.specs.declared.texts.Property.{Property}
use Rattle.shape_breaks.specs.declared.texts.Property.TheVariants.{Mark, PlainMark, SaraAm, Letter}
use Rattle.shape_breaks.specs.Cuts.{AreTested, follows_joiner, have_alike, is_inside, is_marked_after, is_marked_before, is_plain_beginning, marks_may_be_cut, may_be_broken, may_be_cut_by, passes_at}
use Rattle.shape_breaks.specs.Laws.{AreJoinedApart, ArePieces, AreTextsAt, FollowsTables, TablesKeepTypes}
use Rattle.shape_breaks.specs.Tables.{HaveNoFault}
use Rattle.shape_breaks.specs.Texts.{has_property, is_above, is_after, is_before, is_from, is_nowhere, is_vowel_am, occurrences, text_marks}
use Rattle.shape_breaks.proofs.Indices.{after_is, before_is, from_is, joiner_before, nowhere_is}
use Rattle.shape_breaks.proofs.Keeps.{keep_private_marks}

-- ---- the indices of a cut

inside_is : (us : List ℕ) (at : ℕ) → is_inside us at ≡ true → (0 < at) × (at < length us)
inside_is us at h =
    let two = both_true (nat_lt 0 at) (nat_lt at (length us)) h in
    (grind (arith, nat_tests, two.0), grind (arith, nat_tests, two.1))

joiner_apart : (us : List ℕ) (at : ℕ) → is_inside us at ≡ true → not (follows_joiner us at) ≡ true → ends_with_joiner false (take at us) ≡ false
joiner_apart us at inside h = let two = inside_is us at inside in joiner_before us at two.0 two.1 ∙ false_by_not (follows_joiner us at) h

-- ---- marks

-- a test of two names is one
any_same : (p q : ℕ → Bool) → ((u : ℕ) → p u ≡ q u) → (us : List ℕ) → list_any p us ≡ list_any q us
any_same p q same [] = refl
any_same p q same (u ∷ us) = ap (λ b. b || list_any p us) (same u) ∙ ap (λ b. q u || b) (any_same p q same us)

module _ (t : Tables) (us : List ℕ) (at : ℕ) where
  marks_in : (vs : List ℕ) → list_any (has_property t Mark) vs ≡ list_any is_mark_character vs
  marks_in vs = any_same (has_property t Mark) is_mark_character (λ u. refl) vs

  unmarked : is_nowhere (occurrences (has_property t Mark) us) ≡ true → (list_any is_mark_character (take at us) ≡ false) × (list_any is_mark_character (drop at us) ≡ false)
  unmarked e =
      let two = nowhere_is (has_property t Mark) us at e in
      (sym (marks_in (take at us)) ∙ two.0, sym (marks_in (drop at us)) ∙ two.1)

  pub marks_break : is_inside us at ≡ true → marks_may_be_cut us (text_marks t us) at ≡ true → MayBreak (take at us) (drop at us)
  marks_break inside h =
      let o = occurrences (has_property t Mark) us in
      let two = both_true (have_alike o at) (not (follows_joiner us at)) h in
      record {
        marks = elim (either_true (is_nowhere o) (is_before o at && is_after o at) two.0) [
          | inl none ↦ inr (unmarked none)
          | inr some ↦
              let both = both_true (is_before o at) (is_after o at) some in
              inl (sym (marks_in (drop 1 (take at us))) ∙ before_is (has_property t Mark) us at ∙ both.0, sym (marks_in (drop 1 (drop at us))) ∙ after_is (has_property t Mark) us at ∙ both.1)
        ];
        ends = joiner_apart us at inside two.1;
      }

  -- ---- letters

  letters_in : (vs : List ℕ) → has_letter (types_of_characters t vs) ≡ list_any (has_property t Letter) vs
  letters_in [] = refl
  letters_in (v ∷ vs) = ap (λ b. has_property t Letter v || b) (letters_in vs)

  pub letter_after : is_from (occurrences (has_property t Letter) us) at ≡ true → has_letter (types_of_characters t (drop at us)) ≡ true
  letter_after h = letters_in (drop at us) ∙ from_is (has_property t Letter) us at ∙ h

-- ---- Thai

-- items have some characters
abbrev Have : List Item → List ℕ → Type 0
Have xs vs = characters xs ≡ vs

plain_marks_in : (t : Tables) (xs : List Item) → list_any is_plain_mark xs ≡ list_any (has_property t PlainMark) (characters xs)
plain_marks_in t [] = refl
plain_marks_in t (x ∷ xs) = ap (λ b. is_plain_mark x || b) (plain_marks_in t xs)

vowels_in : (t : Tables) (xs : List Item) → list_any is_sara_am xs ≡ list_any (has_property t SaraAm) (characters xs)
vowels_in t [] = refl
vowels_in t (x ∷ xs) = ap (λ b. is_sara_am x || b) (vowels_in t xs)

marks_of_items : (t : Tables) (xs : List Item) → list_any (λ (x : Item). is_mark_character x.number) xs ≡ list_any (has_property t Mark) (characters xs)
marks_of_items t [] = refl
marks_of_items t (x ∷ xs) = ap (λ b. is_mark_character x.number || b) (marks_of_items t xs)

-- characters have a mark that stays after the first one, or such a vowel after a first one that is no mark above
abbrev are_marked : Tables → List ℕ → Bool
are_marked t vs = list_any (has_property t PlainMark) (drop 1 vs) || (not (passes_at is_above vs 0) && list_any (has_property t SaraAm) (drop 1 vs))

marked : (t : Tables) (xs : List Item) → are_marked t (characters xs) ≡ true → IsMarkedText xs
marked t [] h = absurd (let no : false ≡ true = h in cc)
marked t (x ∷ xs) h = elim (either_true (list_any (has_property t PlainMark) (characters xs)) (not (is_above x.number) && list_any (has_property t SaraAm) (characters xs)) h) [
  | inl plain ↦ inl (plain_marks_in t xs ∙ plain)
  | inr other ↦
      let two = both_true (not (is_above x.number)) (list_any (has_property t SaraAm) (characters xs)) other in
      inr (false_by_not (is_above x.number) two.0, vowels_in t xs ∙ two.1)
]

unmarked_text : (t : Tables) (xs : List Item) → list_any (has_property t Mark) (characters xs) ≡ false → list_any (has_property t SaraAm) (characters xs) ≡ false → IsUnmarkedText xs
unmarked_text t xs none others = (marks_of_items t xs ∙ none, vowels_in t xs ∙ others)

-- what is first in a piece
first_before : (p : ℕ → Bool) (us : List ℕ) (at : ℕ) → 0 < at → passes_at p (take at us) 0 ≡ passes_at p us 0
first_before p us zero some = absurd (omega (arith, some))
first_before p [] (suc n) some = refl
first_before p (u ∷ us) (suc n) some = refl

first_from : (p : ℕ → Bool) (us : List ℕ) (at : ℕ) → passes_at p (drop at us) 0 ≡ passes_at p us at
first_from p [] zero = refl
first_from p [] (suc n) = refl
first_from p (u ∷ us) zero = refl
first_from p (u ∷ us) (suc n) = first_from p us n

-- a character that the Thai shaper takes for no mark
not_taken : (u : ℕ) → is_above u ≡ false → (nat_le 0x0E38 u && nat_le u 0x0E3A) ≡ false → mark_of u ≡ NotMark
not_taken u above below = by_tests (list_any (λ v. u == v) vowels) (nat_le 0x0E38 u && nat_le u 0x0E3A) (nat_le 0x0E48 u && nat_le u 0x0E4C) (among_none vowels refl) below (tones (nat_le 0x0E48 u) (nat_le u 0x0E4C) refl refl)
  where
    vowels : List ℕ
    vowels = 0x0E31 ∷ 0x0E34 ∷ 0x0E35 ∷ 0x0E36 ∷ 0x0E37 ∷ 0x0E47 ∷ 0x0E4D ∷ 0x0E4E ∷ []

    other : (v : ℕ) → is_above v ≡ true → u ≢ v
    other v e same = absurd (let both : true ≡ false = sym e ∙ ap is_above (sym same) ∙ above in cc)

    among_none : (vs : List ℕ) → list_all is_above vs ≡ true → list_any (λ v. u == v) vs ≡ false
    among_none [] e = refl
    among_none (v ∷ vs) e =
        let two = both_true (is_above v) (list_all is_above vs) e in
        ap (λ b. b || list_any (λ w. u == w) vs) (test_of_apart u v (other v two.0)) ∙ among_none vs two.1

    tones : (a b : Bool) → nat_le 0x0E48 u ≡ a → nat_le u 0x0E4C ≡ b → (a && b) ≡ false
    tones true true e f =
        let low : 0x0E48 ≤ u = grind (arith, nat_tests, e) in
        let high : u ≤ 0x0E4C = grind (arith, nat_tests, f) in
        absurd (omega (arith, low, high, other 0x0E48 refl, other 0x0E49 refl, other 0x0E4A refl, other 0x0E4B refl, other 0x0E4C refl))
    tones true false e f = refl
    tones false b e f = refl

    by_tests : (a b c : Bool) → a ≡ false → b ≡ false → c ≡ false → (if a then AV else if b then BV else if c then MarkT else NotMark) ≡ NotMark
    by_tests false false false e f g = refl
    by_tests true b c e f g = cc
    by_tests false true c e f g = cc
    by_tests false false true e f g = cc

begins : (xs : List Item) → passes_at is_plain_beginning (characters xs) 0 ≡ true → BeginsPlainly xs
begins [] h = tt
begins (x ∷ xs) h = λ none.
    let plain : (is_above x.number || (nat_le 0x0E38 x.number && nat_le x.number 0x0E3A)) ≡ false =
    false_by_not (is_above x.number || (nat_le 0x0E38 x.number && nat_le x.number 0x0E3A)) (sym (ap (λ b. b || not (is_above x.number || (nat_le 0x0E38 x.number && nat_le x.number 0x0E3A))) none) ∙ h) in
    let two = neither_true (is_above x.number) (nat_le 0x0E38 x.number && nat_le x.number 0x0E3A) plain in
    (not_taken x.number two.0 two.1, two.0)

-- ---- Hangul

no_tone : TonesAreMarks → (font : FaceParts) (u : ℕ) → is_mark_character u ≡ false → is_moved_tone font u ≡ false
no_tone tones font u none = by_test (is_tone u) refl
  where
    by_test : (b : Bool) → is_tone u ≡ b → (b && not (has_no_width font u)) ≡ false
    by_test true e = absurd (let both : true ≡ false = sym (tones u e) ∙ none in cc)
    by_test false e = refl

no_toned : TonesAreMarks → (font : FaceParts) (us : List ℕ) → list_any is_mark_character us ≡ false → is_toned font us ≡ false
no_toned tones font [] none = refl
no_toned tones font (u ∷ us) none =
    let two = neither_true (is_mark_character u) (list_any is_mark_character us) none in
    by_test (continues_syllable u) (no_toned tones font us two.1) (no_tone tones font u two.0)
  where
    by_test : (b : Bool) → is_toned font us ≡ false → is_moved_tone font u ≡ false → (if b then is_toned font us else is_moved_tone font u) ≡ false
    by_test true e f = e
    by_test false e f = f

untoned : TonesAreMarks → (font : FaceParts) (us : List ℕ) → list_any is_mark_character us ≡ false → begins_toned font us ≡ false
untoned tones font [] none = refl
untoned tones font (u ∷ us) none = by_test (begins_syllable u) (no_toned tones font us (neither_true (is_mark_character u) (list_any is_mark_character us) none).1)
  where
    by_test : (b : Bool) → is_toned font us ≡ false → (b && is_toned font us) ≡ false
    by_test true e = e
    by_test false e = refl

-- ---- shapers

-- the shapers of which the law of safe breaks speaks decompose and compose as tables do, but that of Hebrew, which composes presentation forms
follows_by : (p : Shaping) (rules : ShaperRules) → p.rules ≡ rules → ((u : ℕ) → rules.splits p.tables u ≡ split_of p.tables u) → (u : ℕ) → p.rules.splits p.tables u ≡ split_of p.tables u
follows_by p rules same is u = ap (λ (r : ShaperRules). r.splits p.tables u) same ∙ is u

pub splits_as_tables : (shaper : hb_ot_any_shaper_t) (plan : hb_script_plan_t ⊤) (p : Shaping) (b : BreakPremises) (us : List ℕ) (at : ℕ) → p.rules ≡ rules_of shaper plan → may_be_broken b shaper plan.direction plan.script us (text_marks p.tables us) at ≡ true
    → (u : ℕ) → p.rules.splits p.tables u ≡ split_of p.tables u
splits_as_tables shaper plan p b us at same h = by_shaper shaper same (both_true (is_inside us at && (b.is_lawful && b.keeps_marks)) (may_be_cut_by shaper b plan.direction plan.script us (text_marks p.tables us) at) h).1
  where
    by_shaper : (s : hb_ot_any_shaper_t) → p.rules ≡ rules_of s plan → may_be_cut_by s b plan.direction plan.script us (text_marks p.tables us) at ≡ true → (u : ℕ) → p.rules.splits p.tables u ≡ split_of p.tables u
    by_shaper any.Default e k = follows_by p (rules_of any.Default plan) e (λ u. refl)
    by_shaper any.Dumber e k = follows_by p (rules_of any.Dumber plan) e (λ u. refl)
    by_shaper (any.Script HEBREW_SHAPER) e k = follows_by p (rules_of (any.Script HEBREW_SHAPER) plan) e (λ u. refl)
    by_shaper (any.Script MYANMAR_ZAWGYI_SHAPER) e k = follows_by p (rules_of (any.Script MYANMAR_ZAWGYI_SHAPER) plan) e (λ u. refl)
    by_shaper (any.Script ARABIC_SHAPER) e k = follows_by p (rules_of (any.Script ARABIC_SHAPER) plan) e (λ u. refl)
    by_shaper (any.Script THAI_SHAPER) e k = follows_by p (rules_of (any.Script THAI_SHAPER) plan) e (λ u. refl)
    by_shaper (any.Script HANGUL_SHAPER) e k = follows_by p (rules_of (any.Script HANGUL_SHAPER) plan) e (λ u. refl)
    by_shaper (any.Script INDIC_SHAPER) e k = absurd (let no : false ≡ true = k in cc)
    by_shaper (any.Script KHMER_SHAPER) e k = absurd (let no : false ≡ true = k in cc)
    by_shaper (any.Script MYANMAR_SHAPER) e k = absurd (let no : false ≡ true = k in cc)
    by_shaper (any.Script UNIVERSAL_SHAPER) e k = absurd (let no : false ≡ true = k in cc)

module _ (tones : TonesAreMarks) (nearest : NearestContextsShow) (keeps : TablesKeepTypes) (plan : hb_script_plan_t ⊤) (p p1 p2 : Shaping) (b : BreakPremises) (us : List ℕ) (at : ℕ) (whole earlier later : Sides)
    (sound : HaveNoFault p.tables) (tested : AreTested p.tables p.font b) (line : p.direction ≡ plan.direction) (inside : is_inside us at ≡ true) (lawful : b.is_lawful ≡ true) (texts : AreTextsAt us at earlier later) where
  abbrev t : Tables
  t = p.tables

  -- what holds of the characters of the pieces holds of their items
  abbrev Of : (List ℕ → List ℕ → Type 0) → Type 0
  Of P = P (characters (items_of earlier)) (characters (items_of later))

  of_pieces : (P : List ℕ → List ℕ → Type 0) → P (take at us) (drop at us) → Of P
  of_pieces P h = subst (λ vs. P vs (characters (items_of later))) (sym texts.early) (subst (P (take at us)) (sym texts.late) h)

  marks_may : marks_may_be_cut us (text_marks t us) at ≡ true → MarksMayBeCut earlier later
  marks_may h = of_pieces MayBreak (marks_break t us at inside h)

  arabic_may : p.rules ≡ rules_of (any.Script ARABIC_SHAPER) plan → may_be_cut_by (any.Script ARABIC_SHAPER) b plan.direction plan.script us (text_marks t us) at ≡ true → AreJoinedApart us at p p1 p2 whole earlier later
      → ArabicMayBeCut plan p p1 p2 whole earlier later
  arabic_may rules h pieces =
      let m = text_marks t us in
      let two = both_true (b.keeps_types && marks_may_be_cut us m at) (is_from m.letters at && not ((is_backward plan.direction && is_vertical plan.direction) || is_mongolian plan.script)) h in
      let first = both_true b.keeps_types (marks_may_be_cut us m at) two.0 in
      let second = both_true (is_from m.letters at) (not ((is_backward plan.direction && is_vertical plan.direction) || is_mongolian plan.script)) two.1 in
      let none = neither_true (is_backward plan.direction && is_vertical plan.direction) (is_mongolian plan.script) (false_by_not ((is_backward plan.direction && is_vertical plan.direction) || is_mongolian plan.script) second.1) in
      let follows : FollowsTables p = record {
        splits = λ u. ap (λ (r : ShaperRules). r.splits t u) rules;
        composes = λ c d u e. sym (ap (λ (r : ShaperRules). r.composes t c d) rules) ∙ e;
      } in
      let shown : CharactersShow t p.settings.pre_context p.settings.post_context p1.settings.post_context p2.settings.pre_context (take at us) (drop at us) =
      nearest t 5 p.settings.pre_context p.settings.post_context p1.settings.post_context p2.settings.pre_context (take at us) (drop at us)
      (record { before = pieces.before; after = pieces.after; letter = inl (letter_after t us at second.0) }) in
      record {
        marks = marks_may first.1;
        shown = of_pieces (λ vs ws. CharactersShow t p.settings.pre_context p.settings.post_context p1.settings.post_context p2.settings.pre_context vs ws) shown;
        types = keeps p sound (tested.lawful.0 lawful) follows (tested.types.0 first.0);
        direction = ap (λ d. is_backward d && is_vertical d) line ∙ none.0;
        script = none.1;
        untiled = pieces.untiled;
        early_untiled = pieces.early_untiled;
        late_untiled = pieces.late_untiled;
      }

  thai_may : may_be_cut_by (any.Script THAI_SHAPER) b plan.direction plan.script us (text_marks t us) at ≡ true → ThaiMayBeCut p earlier later
  thai_may h =
      let m = text_marks t us in
      let none = is_nowhere m.marks && is_nowhere m.vowels in
      let some = is_marked_before us m at && is_marked_after us m at in
      let two = both_true (b.keeps_private_marks && passes_at is_plain_beginning us at) (not (follows_joiner us at) && (none || some)) h in
      let first = both_true b.keeps_private_marks (passes_at is_plain_beginning us at) two.0 in
      let second = both_true (not (follows_joiner us at)) (none || some) two.1 in
      record {
        marks = record {
          marks = elim (either_true none some second.1) [
            | inl e ↦
                let both = both_true (is_nowhere m.marks) (is_nowhere m.vowels) e in
                let marks = nowhere_is (has_property t Mark) us at both.0 in
                let vowels = nowhere_is (has_property t SaraAm) us at both.1 in
                inr (
                  unmarked_text t (items_of earlier) (ap (list_any (has_property t Mark)) texts.early ∙ marks.0) (ap (list_any (has_property t SaraAm)) texts.early ∙ vowels.0),
                  unmarked_text t (items_of later) (ap (list_any (has_property t Mark)) texts.late ∙ marks.1) (ap (list_any (has_property t SaraAm)) texts.late ∙ vowels.1),
                )
            | inr e ↦
                let both = both_true (is_marked_before us m at) (is_marked_after us m at) e in
                inl (marked t (items_of earlier) (early_tests both.0), marked t (items_of later) (late_tests both.1))
          ];
          ends = ap (ends_with_joiner false) texts.early ∙ joiner_apart us at inside second.0;
        };
        begins = begins (items_of later) (ap (λ vs. passes_at is_plain_beginning vs 0) texts.late ∙ first_from is_plain_beginning us at ∙ first.1);
        forms = keep_private_marks t sound (tested.private_marks.0 first.0);
      }
    where
      early_tests : is_marked_before us (text_marks t us) at ≡ true → are_marked t (characters (items_of earlier)) ≡ true
      early_tests e =
          ap (are_marked t) texts.early ∙ ap (λ c. c || (not (passes_at is_above (take at us) 0) && list_any (has_property t SaraAm) (drop 1 (take at us)))) (before_is (has_property t PlainMark) us at)
          ∙ ap (λ c. is_before (occurrences (has_property t PlainMark) us) at || (not c && list_any (has_property t SaraAm) (drop 1 (take at us)))) (first_before is_above us at (inside_is us at inside).0)
          ∙ ap (λ c. is_before (occurrences (has_property t PlainMark) us) at || (not (passes_at is_above us 0) && c)) (before_is (has_property t SaraAm) us at) ∙ e

      late_tests : is_marked_after us (text_marks t us) at ≡ true → are_marked t (characters (items_of later)) ≡ true
      late_tests e =
          ap (are_marked t) texts.late ∙ ap (λ c. c || (not (passes_at is_above (drop at us) 0) && list_any (has_property t SaraAm) (drop 1 (drop at us)))) (after_is (has_property t PlainMark) us at)
          ∙ ap (λ c. is_after (occurrences (has_property t PlainMark) us) at || (not c && list_any (has_property t SaraAm) (drop 1 (drop at us)))) (first_from is_above us at)
          ∙ ap (λ c. is_after (occurrences (has_property t PlainMark) us) at || (not (passes_at is_above us at) && c)) (after_is (has_property t SaraAm) us at) ∙ e

  hangul_may : may_be_cut_by (any.Script HANGUL_SHAPER) b plan.direction plan.script us (text_marks t us) at ≡ true → HangulMayBeCut p earlier later
  hangul_may h =
      let m = text_marks t us in
      let two = both_true (is_nowhere m.marks) (not (follows_joiner us at)) h in
      let none = unmarked t us at two.0 in
      record {
        marks = of_pieces (MayBreakHangul p.font) (record { marks = inr none; ends = joiner_apart us at inside two.1 });
        begins = ap (begins_toned p.font) texts.late ∙ untoned tones p.font (drop at us) none.1;
      }

  pub may_by : (s : hb_ot_any_shaper_t) → p.rules ≡ rules_of s plan → may_be_cut_by s b plan.direction plan.script us (text_marks t us) at ≡ true → ArePieces s us at p p1 p2 whole earlier later → MayBeCutBy s plan p p1 p2 whole earlier later
  may_by any.Default rules h pieces = marks_may h
  may_by any.Dumber rules h pieces = marks_may h
  may_by (any.Script HEBREW_SHAPER) rules h pieces = marks_may h
  may_by (any.Script MYANMAR_ZAWGYI_SHAPER) rules h pieces = marks_may h
  may_by (any.Script ARABIC_SHAPER) rules h pieces = arabic_may rules h (pieces refl)
  may_by (any.Script THAI_SHAPER) rules h pieces = thai_may h
  may_by (any.Script HANGUL_SHAPER) rules h pieces = hangul_may h
  may_by (any.Script INDIC_SHAPER) rules h pieces = absurd (let no : false ≡ true = h in cc)
  may_by (any.Script KHMER_SHAPER) rules h pieces = absurd (let no : false ≡ true = h in cc)
  may_by (any.Script MYANMAR_SHAPER) rules h pieces = absurd (let no : false ≡ true = h in cc)
  may_by (any.Script UNIVERSAL_SHAPER) rules h pieces = absurd (let no : false ≡ true = h in cc)
