-- What is sought among the glyphs of a syllable, one index after another.
use Rattle.std.proofs.Common.{ℕ, zero, suc, ◌≡◌, ◌≤◌, ◌<◌, ◌+◌, ◌-◌, Bool, true, false, if◌then◌else◌, List, [], ◌∷◌, length, drop, get_or, Option, Some, None, refl, sym, ap, subst, ◌∙◌, arith, inl, inr}
use Rattle.std.specs.Prelude.{nat_lt}
use Rattle.std.specs.List.{filter}
use Rattle.std.specs.Option.{option_or}
use Rattle.std.proofs.lemmas.Bool.Decides.{nat_tests}
use Rattle.std.proofs.lemmas.Grind.{common_steps}
use Rattle.std.proofs.lemmas.List.{length-map}
use Rattle.buffer_glyphs.specs.declared.info.hb_glyph_info_t.{hb_glyph_info_t}
use Rattle.buffer_glyphs.specs.Items.{Item, item_of, strip}
use Rattle.script_indic_reordering.specs.Glyphs.{is_left_matra}
use Rattle.script_indic_reordering.specs.Initial.{has_two_matras}
use Rattle.script_indic_reordering.specs.Indices.{begins_with, first_at, last_at}
use Rattle.script_indic_reordering.specs.Lemmas.Indices.{first_hit, first_skip, last_found, last_next}
use Rattle.script_indic_reordering.proofs.Lemmas.Positions.{begins_at, items_from, past_end}
use Rattle.buffer_facts.proofs.Numbers.{more_than_one as two_more, more_than_none as one_more}

pub first_here : (p : Item → Bool) (gs : List hb_glyph_info_t) (i : ℕ) (o : Option ℕ) (d : hb_glyph_info_t) → i < length gs → p (item_of (get_or gs i d)) ≡ true → first_at (begins_with p) i (drop i (strip gs)) ≡ o → Some i ≡ o
first_here p gs i o d lt e f = let m = length-map gs item_of in first_hit (begins_with p) i (strip gs) o (omega (arith, lt, m)) (begins_at p gs i d true lt e) f

pub first_later : (p : Item → Bool) (gs : List hb_glyph_info_t) (i : ℕ) (o : Option ℕ) (d : hb_glyph_info_t) → i < length gs → p (item_of (get_or gs i d)) ≡ false → first_at (begins_with p) i (drop i (strip gs)) ≡ o
    → first_at (begins_with p) (i + 1) (drop (i + 1) (strip gs)) ≡ o
first_later p gs i o d lt e f = let m = length-map gs item_of in first_skip (begins_with p) i (strip gs) o (omega (arith, lt, m)) (begins_at p gs i d false lt e) f

pub last_here : (p : Item → Bool) (gs : List hb_glyph_info_t) (from i : ℕ) (d : hb_glyph_info_t) → from < i → i ≤ length gs → p (item_of (get_or gs (i - 1) d)) ≡ true → last_at (begins_with p) i (drop i (strip gs)) ≡ None
    → Some (i - 1) ≡ last_at (begins_with p) from (drop from (strip gs))
last_here p gs from i d lt le e f =
    let m = length-map gs item_of in
    let at : i ≡ (i - 1) + 1 = omega (arith, lt) in
    sym (last_found (begins_with p) from (i - 1) (strip gs) (omega (arith, lt)) (omega (arith, m, le, lt)) (begins_at p gs (i - 1) d true (omega (arith, le, lt)) e) (subst (λ n. last_at (begins_with p) n (drop n (strip gs)) ≡ None) at f))

pub last_sooner : (p : Item → Bool) (gs : List hb_glyph_info_t) (i : ℕ) (d : hb_glyph_info_t) → 0 < i → i ≤ length gs → p (item_of (get_or gs (i - 1) d)) ≡ false → last_at (begins_with p) i (drop i (strip gs)) ≡ None
    → last_at (begins_with p) (i - 1) (drop (i - 1) (strip gs)) ≡ None
last_sooner p gs i d some le e f =
    let m = length-map gs item_of in
    let at : i ≡ (i - 1) + 1 = omega (arith, some) in
    last_next (begins_with p) (i - 1) (strip gs) (omega (arith, m, le, some)) (begins_at p gs (i - 1) d false (omega (arith, le, some)) e) (subst (λ n. last_at (begins_with p) n (drop n (strip gs)) ≡ None) at f)

no_first : (a b : Option ℕ) → option_or a b ≡ None → a ≡ None
no_first None b e = refl
no_first (Some x) b e = cc

none_after : {X : Type 0} (test : List X → Bool) (j i : ℕ) (xs : List X) → last_at test j (drop i xs) ≡ None → last_at test (j + 1) (drop (suc i) xs) ≡ None
none_after test j zero [] e = refl
none_after test j (suc i) [] e = refl
none_after test j zero (x ∷ xs) e = no_first (last_at test (j + 1) xs) (if test (x ∷ xs) then Some j else None) e
none_after test j (suc i) (x ∷ xs) e = none_after test j i xs e

none_from : {X : Type 0} (test : List X → Bool) (n i : ℕ) (xs : List X) → last_at test i (drop i xs) ≡ None → last_at test (i + n) (drop (i + n) xs) ≡ None
none_from test zero i xs e = ap (λ m. last_at test m (drop m xs)) (let same : i + 0 ≡ i = omega arith in same) ∙ e
none_from test (suc n) i xs e =
    let step : i + suc n ≡ (i + 1) + n = omega arith in
    let one : suc i ≡ i + 1 = omega arith in
    ap (λ m. last_at test m (drop m xs)) step ∙ none_from test n (i + 1) xs (ap (λ m. last_at test (i + 1) (drop m xs)) (sym one) ∙ none_after test i i xs e)

pub last_none : (p : Item → Bool) (gs : List hb_glyph_info_t) (from i : ℕ) → i ≤ from → last_at (begins_with p) i (drop i (strip gs)) ≡ None → None ≡ last_at (begins_with p) from (drop from (strip gs))
last_none p gs from i le e = sym (subst (λ n. last_at (begins_with p) n (drop n (strip gs)) ≡ None) (let at : i + (from - i) ≡ from = omega (arith, le) in at) (none_from (begins_with p) (from - i) i (strip gs) e))

-- ---- two left matras

-- whether the left matras of a list, with the one that was met, are two
abbrev pub are_two : Bool → List Item → Bool
are_two met xs = if met then nat_lt 0 (length (filter is_left_matra xs)) else nat_lt 1 (length (filter is_left_matra xs))

lefts_here : (gs : List hb_glyph_info_t) (i : ℕ) (d : hb_glyph_info_t) (t : Bool) → i < length gs → is_left_matra (item_of (get_or gs i d)) ≡ t
    → filter is_left_matra (drop i (strip gs)) ≡ (if t then item_of (get_or gs i d) ∷ filter is_left_matra (drop (i + 1) (strip gs)) else filter is_left_matra (drop (i + 1) (strip gs)))
lefts_here gs i d t lt e =
    let rest = filter is_left_matra (drop (i + 1) (strip gs)) in
    ap (filter is_left_matra) (items_from gs i d lt) ∙ ap (λ (b : Bool). if b then item_of (get_or gs i d) ∷ rest else rest) e

pub first_left_met : (gs : List hb_glyph_info_t) (i : ℕ) (b met : Bool) (d : hb_glyph_info_t) → i < length gs → is_left_matra (item_of (get_or gs i d)) ≡ true → met ≡ false → are_two met (drop i (strip gs)) ≡ b → are_two true (drop (i + 1) (strip gs)) ≡ b
first_left_met gs i b met d lt e none f =
    sym (ap (λ m. are_two m (drop i (strip gs))) none ∙ ap (λ (xs : List Item). nat_lt 1 (length xs)) (lefts_here gs i d true lt e) ∙ two_more (length (filter is_left_matra (drop (i + 1) (strip gs))))) ∙ f

pub second_left_met : (gs : List hb_glyph_info_t) (i : ℕ) (b met : Bool) (d : hb_glyph_info_t) → i < length gs → is_left_matra (item_of (get_or gs i d)) ≡ true → met ≡ true → are_two met (drop i (strip gs)) ≡ b → true ≡ b
second_left_met gs i b met d lt e one f =
    sym (ap (λ m. are_two m (drop i (strip gs))) one ∙ ap (λ (xs : List Item). nat_lt 0 (length xs)) (lefts_here gs i d true lt e) ∙ one_more (length (filter is_left_matra (drop (i + 1) (strip gs))))) ∙ f

pub none_left_met : (gs : List hb_glyph_info_t) (i : ℕ) (b met : Bool) (d : hb_glyph_info_t) → i < length gs → is_left_matra (item_of (get_or gs i d)) ≡ false → are_two met (drop i (strip gs)) ≡ b → are_two met (drop (i + 1) (strip gs)) ≡ b
none_left_met gs i b met d lt e f = sym (ap (λ (xs : List Item). if met then nat_lt 0 (length xs) else nat_lt 1 (length xs)) (lefts_here gs i d false lt e)) ∙ f

pub no_second_met : (gs : List hb_glyph_info_t) (i : ℕ) (b met : Bool) → length gs ≤ i → are_two met (drop i (strip gs)) ≡ b → false ≡ b
no_second_met gs i b met le f = by_met met ∙ ap (are_two met) (sym (past_end gs i le)) ∙ f
  where
    by_met : (m : Bool) → false ≡ are_two m []
    by_met true = refl
    by_met false = refl
