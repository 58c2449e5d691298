-- Lines of a text that are checked in place.
use Rattle.std.proofs.Common.{ℕ, zero, suc, ◌≡◌, ◌≤◌, ◌<◌, ◌+◌, ◌-◌, ◌==◌, ◌&&◌, ◌||◌, nat_lt, if◌then◌else◌, Bool, true, false, List, [], ◌∷◌, ◌++◌, get_or, length, map, take, drop, set, refl, sym, ap, subst, ◌∙◌, arith}
use Rattle.std.proofs.lemmas.Bool.Decides.{nat_tests}
use Rattle.std.proofs.lemmas.List.{append_assoc, drop_more, get_or_at, get_or-map, length-map, length-set, length-take, set_at, take_more}
use Rattle.std.proofs.lemmas.List.Elements.{All-head, All-tail}
use Rattle.std.specs.List.{All}
use Rattle.std.specs.Int.RustNames.{bit_or}
use Rattle.std.specs.Prelude.{⊤, Option}
use Rattle.buffer_common.specs.declared.direction.Direction.{Direction}
use Rattle.buffer_common.specs.declared.script.Script.{Script}
use Rattle.buffer_core.specs.Segment.{after_guess_segment_properties}
use Rattle.buffer_core.specs.Sides.{Sides, all_glyphs}
use Rattle.buffer_facts.proofs.Numbers.{test_of_apart}
use Rattle.buffer_tags.specs.LanguageTable.{tags_of_table}
use Rattle.buffer_tags.specs.declared.feature.Feature.{Feature}
use Rattle.buffer_unicode_tables.specs.Tables.{Tables}
use Rattle.script_dispatch.specs.declared.any_shaper.hb_ot_any_shaper_t.{hb_ot_any_shaper_t}
use Rattle.layout_face.specs.declared.parts.FaceParts.{FaceParts}
use Rattle.script_plan.specs.declared.plan.hb_ot_shape_plan_t.{hb_ot_shape_plan_t}
use Rattle.shape_breaks.specs.Cuts.{AreTested, line_may_be_cut, may_be_broken}
use Rattle.shape_breaks.specs.Texts.{text_marks}
use Rattle.shape_breaks.specs.declared.premises.BreakPremises.{BreakPremises}
use Rattle.buffer_glyphs.specs.declared.info.hb_glyph_info_t.{hb_glyph_info_t}
use Rattle.buffer_wrappers.specs.Wrappers.{IsCharacter, IsText}
use Rattle.c_lines.specs.Checked.{AreChecked, AreCheckedIn, character_of, checked_line, first_from, premises_numbered}
use Rattle.c_lines.specs.declared.types.kus_line_t.{kus_line_t}
use Rattle.c_text.specs.Texts.{IsTextOf, features_of}
use Rattle.c_text.specs.declared.types.kus_text_t.{kus_text_t}
use Rattle.shape_pipeline.specs.Plans.{IsPlanFor}
use Rattle.shell_readers.specs.declared.input.RunInput.{RunInput}

step_within : (b : Bool) (n m : ℕ) → n ≤ m → (if b then n + 1 else 0) ≤ suc m
step_within true n m h = omega (arith, h)
step_within false n m h = omega arith

pub first_within : (unit : ℕ) (gs : List hb_glyph_info_t) → first_from unit gs ≤ length gs
first_within unit [] = omega arith
first_within unit (g ∷ gs) = step_within (nat_lt g.cluster unit) (first_from unit gs) (length gs) (first_within unit gs)

below_too : (c known unit : ℕ) → known ≤ unit → nat_lt c known ≡ true → nat_lt c unit ≡ true
below_too c known unit h e = grind (arith, nat_tests, h, e)

pub first_later : (known unit : ℕ) (gs : List hb_glyph_info_t) → known ≤ unit → first_from unit gs ≡ first_from known gs + first_from unit (drop (first_from known gs) gs)
first_later known unit [] h = refl
first_later known unit (g ∷ gs) h = by_test (nat_lt g.cluster known) refl (first_later known unit gs h)
  where
    by_test : (b : Bool) → nat_lt g.cluster known ≡ b → first_from unit gs ≡ first_from known gs + first_from unit (drop (first_from known gs) gs)
        → first_from unit (g ∷ gs) ≡ (if b then first_from known gs + 1 else 0) + first_from unit (drop (if b then first_from known gs + 1 else 0) (g ∷ gs))
    by_test true e later =
        let n = first_from known gs in
        let here : first_from unit (g ∷ gs) ≡ first_from unit gs + 1 = ap (λ b. if b then first_from unit gs + 1 else 0) (below_too g.cluster known unit h e) in
        let next : n + 1 ≡ suc n = omega arith in
        let rest : first_from unit (drop (n + 1) (g ∷ gs)) ≡ first_from unit (drop n gs) = ap (λ k. first_from unit (drop k (g ∷ gs))) next in
        omega (arith, here, rest, later)
    by_test false e later = let one : 0 + first_from unit (g ∷ gs) ≡ first_from unit (g ∷ gs) = omega arith in sym one

pub first_zero : (gs : List hb_glyph_info_t) → first_from 0 gs ≡ 0
first_zero [] = refl
first_zero (g ∷ gs) = let test : nat_lt g.cluster 0 ≡ false = grind (arith, nat_tests) in ap (λ b. if b then first_from 0 gs + 1 else 0) test

-- the walk goes on past a character before the unit, and ends at another one
pub first_goes : (unit : ℕ) (gs : List hb_glyph_info_t) (k : ℕ) (g : hb_glyph_info_t) → k < length gs → g ≡ get_or gs k g → g.cluster < unit → first_from unit (drop k gs) ≡ first_from unit (drop (k + 1) gs) + 1
first_goes unit gs k g less is before =
    let test : nat_lt g.cluster unit ≡ true = grind (arith, nat_tests, before) in
    ap (first_from unit) (drop_more gs k g less) ∙ ap (λ (x : hb_glyph_info_t). first_from unit (x ∷ drop (k + 1) gs)) (sym is) ∙ ap (λ b. if b then first_from unit (drop (k + 1) gs) + 1 else 0) test

pub first_stops : (unit : ℕ) (gs : List hb_glyph_info_t) (k : ℕ) (g : hb_glyph_info_t) → k < length gs → g ≡ get_or gs k g → unit ≤ g.cluster → first_from unit (drop k gs) ≡ 0
first_stops unit gs k g less is after =
    let test : nat_lt g.cluster unit ≡ false = grind (arith, nat_tests, after) in
    ap (first_from unit) (drop_more gs k g less) ∙ ap (λ (x : hb_glyph_info_t). first_from unit (x ∷ drop (k + 1) gs)) (sym is) ∙ ap (λ b. if b then first_from unit (drop (k + 1) gs) + 1 else 0) test

ended : (gs : List hb_glyph_info_t) (k : ℕ) → length gs ≤ k → drop k gs ≡ []
ended [] zero h = refl
ended [] (suc k) h = refl
ended (g ∷ gs) zero h = absurd (omega (arith, h))
ended (g ∷ gs) (suc k) h = ended gs k (omega (arith, h))

pub first_ends : (unit : ℕ) (gs : List hb_glyph_info_t) (k : ℕ) → length gs ≤ k → first_from unit (drop k gs) ≡ 0
first_ends unit gs k h = ap (first_from unit) (ended gs k h)

-- ---- lines in place

-- the item of a list that is mapped in place up to it
pub item_left : {X : Type 0} (f : X → X) (xs now : List X) (k : ℕ) (d : X) → now ≡ take k (map f xs) ++ drop k xs → k < length xs → get_or now k d ≡ get_or xs k d
item_left f xs now k d is inside =
    let front = take k (map f xs) in let count = length-map xs f in
    let long : length front ≡ k = omega (arith, length-take k (map f xs), count, inside) in
    ap (λ l. get_or l k d) (is ∙ ap (λ l. front ++ l) (drop_more xs k d inside)) ∙ get_or_at front (get_or xs k d) (drop (k + 1) xs) d k long

-- one more item is mapped in place
pub mapped_next : {X : Type 0} (f : X → X) (xs now : List X) (k : ℕ) (d z : X) → (now ≡ take k (map f xs) ++ drop k xs) × (length now ≡ length xs) → k < length now → z ≡ f (get_or now k d)
    → (set now k z ≡ take (k + 1) (map f xs) ++ drop (k + 1) xs) × (length (set now k z) ≡ length xs)
mapped_next f xs now k d z before lt given =
    let front = take k (map f xs) in let count = length-map xs f in
    let inside : k < length xs = omega (arith, lt, before.1) in
    let long : length front ≡ k = omega (arith, length-take k (map f xs), count, inside) in
    let parts : now ≡ front ++ get_or xs k d ∷ drop (k + 1) xs = before.0 ∙ ap (λ l. front ++ l) (drop_more xs k d inside) in
    let own : z ≡ f (get_or xs k d) = given ∙ ap f (item_left f xs now k d before.0 inside) in (
      ap (λ l. set l k z) parts ∙ set_at front _ _ z k long ∙ sym (append_assoc front (z ∷ []) _)
          ∙ ap (λ l. l ++ drop (k + 1) xs) (ap (λ y. front ++ y ∷ []) (own ∙ sym (get_or-map f xs k d (f d) inside)) ∙ sym (take_more (map f xs) k (f d) (omega (arith, count, inside)))),
      length-set now k z ∙ before.1,
    )

-- ---- lines that end before they begin

and_false : (a b : Bool) → b ≡ false → (a && b) ≡ false
and_false true b e = e
and_false false b e = refl

or_false : (a b : Bool) → a ≡ false → b ≡ false → (a || b) ≡ false
or_false true b e f = cc
or_false false b e f = f

pub backward_line : (b : BreakPremises) (t : Tables) (shaper : hb_ot_any_shaper_t) (d : Direction) (s : Option Script) (us : List ℕ) (from to : ℕ) → to < from → from ≤ length us
    → line_may_be_cut b t shaper d s us from to ≡ false
backward_line b t shaper d s us from to less inside =
    let none : to - from ≡ 0 = omega (arith, less) in
    let apart : (to == length us) ≡ false = test_of_apart to (length us) (λ e. absurd (omega (arith, e, less, inside))) in
    let rest : may_be_broken b shaper d s (drop from us) (text_marks t (drop from us)) (to - from) ≡ false = ap (λ n. may_be_broken b shaper d s (drop from us) (text_marks t (drop from us)) n) none in
    and_false (from == 0 || may_be_broken b shaper d s us (text_marks t us) from) _ (or_false (to == length us) (may_be_broken b shaper d s (drop from us) (text_marks t (drop from us)) (to - from)) apart rest)

-- ---- characters

-- the glyphs of characters have their numbers
pub characters_are : (gs : List hb_glyph_info_t) → All IsCharacter gs → map character_of gs ≡ map (λ (g : hb_glyph_info_t). g.glyph_id) gs
characters_are [] all = refl
characters_are (g ∷ gs) all =
    let here : character_of g ≡ g.glyph_id = ap (λ b. if b then g.glyph_id else 0xFFFD) (All-head IsCharacter g gs all).scalar_value in
    ap (λ us. character_of g ∷ us) (characters_are gs (All-tail IsCharacter g gs all)) ∙ ap (λ u. u ∷ map (λ (x : hb_glyph_info_t). x.glyph_id) gs) here

-- ---- a text and its plan

-- a text in its buffer is one where its direction and script are guessed
pub guessed_is_text : (text guessed : Sides) → guessed ≡ after_guess_segment_properties text → IsText text → IsText guessed
guessed_is_text text guessed e is = subst IsText (sym e) (record { closed = is.closed; unrefused = is.unrefused; characters = is.characters })

pub lines_checked_in : (input : RunInput) (t : Tables) (b : BreakPremises) (features : List Feature) (text : Sides) (plan : hb_ot_shape_plan_t hb_ot_any_shaper_t ⊤) (gs : List hb_glyph_info_t) (before now : List kus_line_t)
    → IsPlanFor input.face (tags_of_table input.tables.languages) features text plan → t ≡ input.tables.characters → gs ≡ all_glyphs text → now ≡ map (checked_line b t plan gs) before
    → AreCheckedIn input b features text before now
lines_checked_in input t b features text plan gs before now of_text same are lines = record {
  plan = plan;
  of_text = of_text;
  lines = lines ∙ ap (λ x. map (checked_line b x plan gs) before) same ∙ ap (λ xs. map (checked_line b input.tables.characters plan xs) before) are;
}

pub lines_checked : (input : RunInput) (b : BreakPremises) (text : kus_text_t) (features : List Feature) (buffer guessed : Sides) (before now : List kus_line_t)
    → IsTextOf text buffer → guessed ≡ after_guess_segment_properties buffer → features ≡ features_of text → AreCheckedIn input b features guessed before now → AreChecked input b text before now
lines_checked input b text features buffer guessed before now of_text guess same checked =
    let F : List Feature → Type 0 = λ fs. AreCheckedIn input b fs guessed before now in
    let B : Sides → Type 0 = λ s. AreCheckedIn input b (features_of text) s before now in
    record { buffer = buffer; of_text = of_text; lines = subst B guess (subst F same checked) }

-- ---- premises

-- what was tested of a font's tables and parts, by the numbers of premises
pub tested_of_font : (input : RunInput) (t : Tables) (font : FaceParts) (b c : BreakPremises) → t ≡ input.tables.characters → font ≡ input.face → AreTested t font b → c ≡ b → AreTested input.tables.characters input.face c
tested_of_font input t font b c tables face tested same =
    let T : Tables → Type 0 = λ x. AreTested x font b in
    let F : FaceParts → Type 0 = λ x. AreTested input.tables.characters x b in
    let P : BreakPremises → Type 0 = λ x. AreTested input.tables.characters input.face x in
    subst P (sym same) (subst F face (subst T tables tested))

pub numbered_back : (b : BreakPremises) (one two three four : ℕ) → one ≡ (if b.is_lawful then 1 else 0) → two ≡ (if b.keeps_marks then 2 else 0) → three ≡ (if b.keeps_types then 4 else 0) → four ≡ (if b.keeps_private_marks then 8 else 0)
    → premises_numbered (bit_or (bit_or (bit_or one two) three) four) ≡ b
numbered_back b one two three four e f g h =
    ap (λ n. premises_numbered (bit_or (bit_or (bit_or n two) three) four)) e ∙ ap (λ n. premises_numbered (bit_or (bit_or (bit_or (if b.is_lawful then 1 else 0) n) three) four)) f
    ∙ ap (λ n. premises_numbered (bit_or (bit_or (bit_or (if b.is_lawful then 1 else 0) (if b.keeps_marks then 2 else 0)) n) four)) g
    ∙ ap (λ n. premises_numbered (bit_or (bit_or (bit_or (if b.is_lawful then 1 else 0) (if b.keeps_marks then 2 else 0)) (if b.keeps_types then 4 else 0)) n)) h
    ∙ by_tests b.is_lawful b.keeps_marks b.keeps_types b.keeps_private_marks
  where
    by_tests : (p q r s : Bool) → premises_numbered (bit_or (bit_or (bit_or (if p then 1 else 0) (if q then 2 else 0)) (if r then 4 else 0)) (if s then 8 else 0)) ≡ record { is_lawful = p; keeps_marks = q; keeps_types = r; keeps_private_marks = s }
    by_tests true true true true = refl
    by_tests true true true false = refl
    by_tests true true false true = refl
    by_tests true true false false = refl
    by_tests true false true true = refl
    by_tests true false true false = refl
    by_tests true false false true = refl
    by_tests true false false false = refl
    by_tests false true true true = refl
    by_tests false true true false = refl
    by_tests false true false true = refl
    by_tests false true false false = refl
    by_tests false false true true = refl
    by_tests false false true false = refl
    by_tests false false false true = refl
    by_tests false false false false = refl
