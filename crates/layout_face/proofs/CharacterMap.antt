-- The rows of a character map where one is set.
use Rattle.std.proofs.Common.{◌≡◌, ℕ, List, [], ◌∷◌, ◌++◌, filter, nat_lt, Option, Some, None, sym, ap, ◌∙◌, append_assoc, arith}
use Rattle.std.specs.Ordering.{is_lt, is_gt, nat_cmp, ordering_then}
use Rattle.std.proofs.lemmas.Bool.Decides.{nat_tests}
use Rattle.std.proofs.lemmas.List.Elements.{filter_agree}
use Rattle.buffer_rows.specs.Keys.{with_inserted, without_key}
use Rattle.layout_face.specs.declared.parts.CharacterRow.{CharacterRow}
use Rattle.layout_face.specs.declared.parts.FaceParts.{FaceParts}
use Rattle.layout_face.specs.declared.parts.VariationRow.{VariationRow}
use Rattle.layout_face.specs.CharacterMap.{precedes, with_character, with_variation, with_variation_glyph}

less_test : (a b : ℕ) → is_lt (nat_cmp a b) ≡ nat_lt a b
less_test a b = grind (arith, nat_tests)

more_test : (a b : ℕ) → is_gt (nat_cmp a b) ≡ nat_lt b a
more_test a b = grind (arith, nat_tests)

lesser : (c : ℕ) (rows : List CharacterRow) → filter (λ (r : CharacterRow). is_lt (nat_cmp r.character c)) rows ≡ filter (λ (r : CharacterRow). nat_lt r.character c) rows
lesser c rows = filter_agree (λ (r : CharacterRow). is_lt (nat_cmp r.character c)) (λ r. nat_lt r.character c) (λ r. less_test r.character c) rows

greater : (c : ℕ) (rows : List CharacterRow) → filter (λ (r : CharacterRow). is_gt (nat_cmp r.character c)) rows ≡ filter (λ (r : CharacterRow). nat_lt c r.character) rows
greater c rows = filter_agree (λ (r : CharacterRow). is_gt (nat_cmp r.character c)) (λ r. nat_lt c r.character) (λ r. more_test r.character c) rows

pub character_inserted : (c glyph : ℕ) (rows : List CharacterRow) → with_inserted nat_cmp (λ (r : CharacterRow). r.character) (record { character = c; glyph = glyph }) rows ≡ with_character c (Some glyph) rows
character_inserted c glyph rows =
    let row : CharacterRow = record { character = c; glyph = glyph } in
    ap (λ l. l ++ row ∷ filter (λ (r : CharacterRow). is_gt (nat_cmp r.character c)) rows) (lesser c rows) ∙ ap (λ l. filter (λ (r : CharacterRow). nat_lt r.character c) rows ++ row ∷ l) (greater c rows)
    ∙ sym (append_assoc (filter (λ (r : CharacterRow). nat_lt r.character c) rows) (row ∷ []) (filter (λ (r : CharacterRow). nat_lt c r.character) rows))

pub character_removed : (c : ℕ) (rows : List CharacterRow) → without_key nat_cmp (λ (r : CharacterRow). r.character) c rows ≡ with_character c None rows
character_removed c rows =
    ap (λ l. l ++ filter (λ (r : CharacterRow). is_gt (nat_cmp r.character c)) rows) (lesser c rows) ∙ ap (λ l. filter (λ (r : CharacterRow). nat_lt r.character c) rows ++ l) (greater c rows)
    ∙ sym (append_assoc (filter (λ (r : CharacterRow). nat_lt r.character c) rows) [] (filter (λ (r : CharacterRow). nat_lt c r.character) rows))

-- ---- pairs

before_test : (a x b y : ℕ) → is_lt (ordering_then (nat_cmp a b) (nat_cmp x y)) ≡ precedes a x b y
before_test a x b y = grind (arith, nat_tests)

after_test : (a x b y : ℕ) → is_gt (ordering_then (nat_cmp a b) (nat_cmp x y)) ≡ precedes b y a x
after_test a x b y = grind (arith, nat_tests)

preceding : (c selector : ℕ) (rows : List VariationRow) → filter (λ (r : VariationRow). is_lt (ordering_then (nat_cmp r.character c) (nat_cmp r.selector selector))) rows ≡ filter (λ (r : VariationRow). precedes r.character r.selector c selector) rows
preceding c selector rows = filter_agree (λ (r : VariationRow). is_lt (ordering_then (nat_cmp r.character c) (nat_cmp r.selector selector))) (λ r. precedes r.character r.selector c selector) (λ r. before_test r.character r.selector c selector) rows

following : (c selector : ℕ) (rows : List VariationRow) → filter (λ (r : VariationRow). is_gt (ordering_then (nat_cmp r.character c) (nat_cmp r.selector selector))) rows ≡ filter (λ (r : VariationRow). precedes c selector r.character r.selector) rows
following c selector rows = filter_agree (λ (r : VariationRow). is_gt (ordering_then (nat_cmp r.character c) (nat_cmp r.selector selector))) (λ r. precedes c selector r.character r.selector) (λ r. after_test r.character r.selector c selector) rows

pub variation_inserted : (c selector glyph : ℕ) (rows : List VariationRow)
    → with_inserted (λ (x y : ℕ × ℕ). ordering_then (nat_cmp x.0 y.0) (nat_cmp x.1 y.1)) (λ (r : VariationRow). (r.character, r.selector)) (record { character = c; selector = selector; glyph = glyph }) rows ≡ with_variation c selector (Some glyph) rows
variation_inserted c selector glyph rows =
    let row : VariationRow = record { character = c; selector = selector; glyph = glyph } in
    ap (λ l. l ++ row ∷ filter (λ (r : VariationRow). is_gt (ordering_then (nat_cmp r.character c) (nat_cmp r.selector selector))) rows) (preceding c selector rows)
    ∙ ap (λ l. filter (λ (r : VariationRow). precedes r.character r.selector c selector) rows ++ row ∷ l) (following c selector rows)
    ∙ sym (append_assoc (filter (λ (r : VariationRow). precedes r.character r.selector c selector) rows) (row ∷ []) (filter (λ (r : VariationRow). precedes c selector r.character r.selector) rows))

pub variation_removed : (c selector : ℕ) (rows : List VariationRow)
    → without_key (λ (x y : ℕ × ℕ). ordering_then (nat_cmp x.0 y.0) (nat_cmp x.1 y.1)) (λ (r : VariationRow). (r.character, r.selector)) (c, selector) rows ≡ with_variation c selector None rows
variation_removed c selector rows =
    ap (λ l. l ++ filter (λ (r : VariationRow). is_gt (ordering_then (nat_cmp r.character c) (nat_cmp r.selector selector))) rows) (preceding c selector rows)
    ∙ ap (λ l. filter (λ (r : VariationRow). precedes r.character r.selector c selector) rows ++ l) (following c selector rows)
    ∙ sym (append_assoc (filter (λ (r : VariationRow). precedes r.character r.selector c selector) rows) [] (filter (λ (r : VariationRow). precedes c selector r.character r.selector) rows))

-- a font with the rows of a set variation sequence
pub variation_set : (c selector : ℕ) (glyph : Option ℕ) (font now : FaceParts) (rows : List VariationRow) → font ≡ now → rows ≡ with_variation c selector glyph font.variants → record font { variants = rows } ≡ with_variation_glyph c selector glyph now
variation_set c selector glyph font now rows same set = ap (λ (v : List VariationRow). record font { variants = v }) set ∙ ap (with_variation_glyph c selector glyph) same
