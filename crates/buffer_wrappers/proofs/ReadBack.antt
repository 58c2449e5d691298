-- A run's numbers and flags are read back from its text.
use Rattle.std.proofs.Common.{◌≡◌, ℕ, zero, suc, ◌+◌, ◌^◌, ◌<◌, ◌==◌, nat_lt, ◌⊎◌, inl, inr, Bool, true, false, cond, not, ◌&&◌, bit_and, ◌%◌, List, [], ◌∷◌, ◌++◌, refl, sym, ap, subst, ◌∙◌, ℤ, pos, ◌+ℤ◌, arith, append_assoc, append-nil, length, length-append, map}
use Rattle.std.proofs.lemmas.Bool.Decides.{Decides-int_eq}
use Rattle.std.proofs.lemmas.Fmt.{decimal_nonempty, hex_one_digit}
use Rattle.std.proofs.Math.IntN.{+ℤ_idl}
use Rattle.std.proofs.lemmas.Nat.{and_mask}
use Rattle.std.specs.Prelude.{Option}
use Rattle.std.specs.Fmt.{decimal, signed_decimal, digits}
use Rattle.std.specs.Int.{w32}
use Rattle.std.specs.Int.RustNames.{FitsSigned}
use Rattle.std.specs.List.{All, AllByRecursion, join_with_byte, zip}
use Rattle.std.specs.Ordering.{int_eq}
use Rattle.buffer_glyphs.specs.declared.info.hb_glyph_info_t.{hb_glyph_info_t}
use Rattle.buffer_glyphs.specs.declared.names.hb_glyph_extents_t.{hb_glyph_extents_t}
use Rattle.buffer_glyphs.specs.declared.position.GlyphPosition.{GlyphPosition}
use Rattle.buffer_wrappers.specs.Pen.{pen_after}
use Rattle.buffer_wrappers.specs.Printed.{name_text, cluster_text, offset_text, advance_text, position_text, flag_text, extents_text, glyph_text, glyph_texts, printed_text}
use Rattle.buffer_wrappers.specs.Shown.{ShownGlyph, shown_glyph, numbers_and_flags, HasTypedNumbers, EqualTextsShowEqualRuns}
use Rattle.buffer_wrappers.proofs.Numerals.{IsClear, decimal_split, signed_split}
use Rattle.buffer_glyphs.specs.Lemmas.Handed.{flags_defined as below_eight}
use Rattle.buffer_facts.proofs.Truth.{both_true}

-- a glyph's text ends here
abbrev IsEnd : List ℕ → Type 0
IsEnd [] = Unit {0}
IsEnd (c ∷ cs) = c ≡ 124

-- `#` and the flags, if one is set, and what follows
abbrev flags_then : ℕ → List ℕ → List ℕ
flags_then zero rest = rest
flags_then (suc n) rest = 35 ∷ (48 + suc n) ∷ rest

flags_clear : (d : ℕ) (rest : List ℕ) → IsEnd rest → IsClear (flags_then d rest)
flags_clear zero [] end = tt
flags_clear zero (c ∷ cs) end = inr (omega arith)
flags_clear (suc n) rest end = inl (omega arith)

flags_is : (d : ℕ) (rest : List ℕ) → d < 8 → cond (not (d == 0)) (35 ∷ digits 16 false d) [] ++ rest ≡ flags_then d rest
flags_is zero rest small = refl
flags_is (suc n) rest small = let below : suc n < 16 = omega arith in let low : nat_lt (suc n) 10 ≡ true = grind arith in
    let nonzero : (suc n == 0) ≡ false = grind arith in rw (hex_one_digit false (suc n) below, nonzero, low)

flags_split : (d d' : ℕ) (rest rest' : List ℕ) → IsEnd rest → IsEnd rest' → flags_then d rest ≡ flags_then d' rest' → (d ≡ d') × (rest ≡ rest')
flags_split zero zero rest rest' end end' e = (refl, e)
flags_split zero (suc n) rest rest' end end' e = let h = subst IsEnd e end in absurd (omega arith)
flags_split (suc n) zero rest rest' end end' e = let h = subst IsEnd (sym e) end' in absurd (omega arith)
flags_split (suc m) (suc n) rest rest' end end' e =
    let same : 48 + suc m ≡ 48 + suc n = cc in let rests : rest ≡ rest' = cc in (omega arith, rests)

-- what follows does not begin with this character
abbrev Avoids : ℕ → List ℕ → Type 0
Avoids c [] = Unit {0}
Avoids c (d ∷ ds) = d ≡ c → ⊥

flags_avoid : (d : ℕ) (rest : List ℕ) → IsEnd rest → Avoids 44 (flags_then d rest)
flags_avoid zero [] end = tt
flags_avoid zero (c ∷ cs) end = λ e. omega arith
flags_avoid (suc n) rest end = λ e. omega arith

-- a number is 0, or the test says that it is not
known_test : {P : Type 0} (b : Bool) → (b ≡ true → P) → P ⊎ (b ≡ false)
known_test true h = inl (h refl)
known_test false h = inr refl

zero_or_not : (z : ℤ) → (z ≡ pos 0) ⊎ (int_eq z (pos 0) ≡ false)
zero_or_not z = known_test (int_eq z (pos 0)) (Decides-int_eq z (pos 0)).0

clear_cases : (b : Bool) (xs ys : List ℕ) → IsClear xs → IsClear ys → IsClear (cond b xs ys)
clear_cases true xs ys cx cy = cx
clear_cases false xs ys cx cy = cy

-- `,` and the advance in y, if that is not 0, and what follows
abbrev second_then : ℤ → List ℕ → List ℕ
second_then y rest = cond (int_eq y (pos 0)) rest (44 ∷ (signed_decimal y ++ rest))

second_if_zero : (y : ℤ) (rest : List ℕ) → y ≡ pos 0 → second_then y rest ≡ rest
second_if_zero y rest e = let P : ℤ → Type 0 = λ z. second_then z rest ≡ rest in subst P (sym e) refl

second_otherwise : (y : ℤ) (rest : List ℕ) → int_eq y (pos 0) ≡ false → second_then y rest ≡ 44 ∷ (signed_decimal y ++ rest)
second_otherwise y rest e = ap (λ b. cond b rest (44 ∷ (signed_decimal y ++ rest))) e

second_split : (y y' : ℤ) (rest rest' : List ℕ) → FitsSigned w32 y → FitsSigned w32 y' → IsClear rest → IsClear rest' → Avoids 44 rest → Avoids 44 rest'
    → second_then y rest ≡ second_then y' rest' → (y ≡ y') × (rest ≡ rest')
second_split y y' rest rest' fits fits' clear clear' avoids avoids' e = elim (zero_or_not y) [
  | inl z ↦ elim (zero_or_not y') [
    | inl z' ↦ (z ∙ sym z', sym (second_if_zero y rest z) ∙ (e ∙ second_if_zero y' rest' z'))
    | inr n' ↦ absurd (subst (Avoids 44) (sym (second_if_zero y rest z) ∙ (e ∙ second_otherwise y' rest' n')) avoids refl)
  ]
  | inr n ↦ elim (zero_or_not y') [
    | inl z' ↦ absurd (subst (Avoids 44) (sym (second_if_zero y' rest' z') ∙ (sym e ∙ second_otherwise y rest n)) avoids' refl)
    | inr n' ↦ let whole = sym (second_otherwise y rest n) ∙ (e ∙ second_otherwise y' rest' n') in
        let tails : signed_decimal y ++ rest ≡ signed_decimal y' ++ rest' = cc in
        signed_split y y' rest rest' fits fits' clear clear' tails
  ]
]

-- `@x,y` if one is not 0, and what follows
abbrev offset_then : ℤ → ℤ → List ℕ → List ℕ
offset_then x y rest = cond (int_eq x (pos 0) && int_eq y (pos 0)) rest (64 ∷ (signed_decimal x ++ (44 ∷ (signed_decimal y ++ rest))))

zeros_or_not : (x y : ℤ) → ((x ≡ pos 0) × (y ≡ pos 0)) ⊎ ((int_eq x (pos 0) && int_eq y (pos 0)) ≡ false)
zeros_or_not x y = known_test (int_eq x (pos 0) && int_eq y (pos 0))
    (λ e. let both = both_true _ _ e in ((Decides-int_eq x (pos 0)).0 both.0, (Decides-int_eq y (pos 0)).0 both.1))

offset_if_zero : (x y : ℤ) (rest : List ℕ) → (x ≡ pos 0) × (y ≡ pos 0) → offset_then x y rest ≡ rest
offset_if_zero x y rest e = rw (e.0, e.1)

offset_otherwise : (x y : ℤ) (rest : List ℕ) → (int_eq x (pos 0) && int_eq y (pos 0)) ≡ false
    → offset_then x y rest ≡ 64 ∷ (signed_decimal x ++ (44 ∷ (signed_decimal y ++ rest)))
offset_otherwise x y rest e = ap (λ b. cond b rest (64 ∷ (signed_decimal x ++ (44 ∷ (signed_decimal y ++ rest))))) e

offset_split : (x y x' y' : ℤ) (rest rest' : List ℕ) → FitsSigned w32 x → FitsSigned w32 y → FitsSigned w32 x' → FitsSigned w32 y'
    → IsClear rest → IsClear rest' → Avoids 64 rest → Avoids 64 rest' → offset_then x y rest ≡ offset_then x' y' rest'
    → (x ≡ x') × (y ≡ y') × (rest ≡ rest')
offset_split x y x' y' rest rest' fx fy fx' fy' clear clear' avoids avoids' e = elim (zeros_or_not x y) [
  | inl z ↦ elim (zeros_or_not x' y') [
    | inl z' ↦ (z.0 ∙ sym z'.0, z.1 ∙ sym z'.1, sym (offset_if_zero x y rest z) ∙ (e ∙ offset_if_zero x' y' rest' z'))
    | inr n' ↦ absurd (subst (Avoids 64) (sym (offset_if_zero x y rest z) ∙ (e ∙ offset_otherwise x' y' rest' n')) avoids refl)
  ]
  | inr n ↦ elim (zeros_or_not x' y') [
    | inl z' ↦ absurd (subst (Avoids 64) (sym (offset_if_zero x' y' rest' z') ∙ (sym e ∙ offset_otherwise x y rest n)) avoids' refl)
    | inr n' ↦ let whole = sym (offset_otherwise x y rest n) ∙ (e ∙ offset_otherwise x' y' rest' n') in
        let tails : signed_decimal x ++ (44 ∷ (signed_decimal y ++ rest)) ≡ signed_decimal x' ++ (44 ∷ (signed_decimal y' ++ rest')) = cc in
        let first = signed_split x x' _ _ fx fx' (inl (omega arith)) (inl (omega arith)) tails in
        let equal_tails = first.1 in
        let seconds : signed_decimal y ++ rest ≡ signed_decimal y' ++ rest' = cc in
        let second = signed_split y y' rest rest' fy fy' clear clear' seconds in
        (first.0, second.0, second.1)
  ]
]

-- a glyph's text of numbers and flags, and what follows
abbrev after_cluster : ShownGlyph → List ℕ → List ℕ
after_cluster s rest = 43 ∷ (signed_decimal s.x_advance ++ second_then s.y_advance (flags_then s.glyph_flags rest))

abbrev plain_text : ShownGlyph → List ℕ → List ℕ
plain_text s rest = decimal s.number ++ (61 ∷ (decimal s.cluster ++ offset_then s.x_offset s.y_offset (after_cluster s rest)))

record IsTyped (s : ShownGlyph) : Type 0 where
  number : s.number < 2 ^ 64
  cluster : s.cluster < 2 ^ 64
  x_offset : FitsSigned w32 s.x_offset
  y_offset : FitsSigned w32 s.y_offset
  x_advance : FitsSigned w32 s.x_advance
  y_advance : FitsSigned w32 s.y_advance

second_clear : (s : ShownGlyph) (rest : List ℕ) → IsEnd rest → IsClear (second_then s.y_advance (flags_then s.glyph_flags rest))
second_clear s rest end = clear_cases (int_eq s.y_advance (pos 0)) _ _ (flags_clear s.glyph_flags rest end) (inl (omega arith))

offset_clear : (x y : ℤ) (rest : List ℕ) → IsClear rest → IsClear (offset_then x y rest)
offset_clear x y rest clear = clear_cases (int_eq x (pos 0) && int_eq y (pos 0)) _ _ clear (inr (omega arith))

after_cluster_split : (s t : ShownGlyph) (rest rest' : List ℕ) → IsTyped s → IsTyped t → IsEnd rest → IsEnd rest'
    → after_cluster s rest ≡ after_cluster t rest'
    → (s.x_advance ≡ t.x_advance) × (s.y_advance ≡ t.y_advance) × (s.glyph_flags ≡ t.glyph_flags) × (rest ≡ rest')
after_cluster_split s t rest rest' typed typed' end end' e =
    let tails : signed_decimal s.x_advance ++ second_then s.y_advance (flags_then s.glyph_flags rest)
    ≡ signed_decimal t.x_advance ++ second_then t.y_advance (flags_then t.glyph_flags rest') = cc in
    let first = signed_split _ _ _ _ typed.x_advance typed'.x_advance (second_clear s rest end) (second_clear t rest' end') tails in
    let second = second_split _ _ _ _ typed.y_advance typed'.y_advance (flags_clear _ _ end) (flags_clear _ _ end') (flags_avoid _ _ end) (flags_avoid _ _ end') first.1 in
    let third = flags_split _ _ rest rest' end end' second.1 in
    (first.0, second.0, third.0, third.1)

abbrev shown : ℕ → ℕ → ℤ → ℤ → ℤ → ℤ → ℕ → ShownGlyph
shown n c x y a b f = record { number = n; cluster = c; x_offset = x; y_offset = y; x_advance = a; y_advance = b; glyph_flags = f }

same_shown : (s t : ShownGlyph) → s.number ≡ t.number → s.cluster ≡ t.cluster → s.x_offset ≡ t.x_offset → s.y_offset ≡ t.y_offset
    → s.x_advance ≡ t.x_advance → s.y_advance ≡ t.y_advance → s.glyph_flags ≡ t.glyph_flags → s ≡ t
same_shown s t number cluster x_offset y_offset x_advance y_advance glyph_flags =
    ap (λ v. shown v s.cluster s.x_offset s.y_offset s.x_advance s.y_advance s.glyph_flags) number
    ∙ (ap (λ v. shown t.number v s.x_offset s.y_offset s.x_advance s.y_advance s.glyph_flags) cluster
    ∙ (ap (λ v. shown t.number t.cluster v s.y_offset s.x_advance s.y_advance s.glyph_flags) x_offset
    ∙ (ap (λ v. shown t.number t.cluster t.x_offset v s.x_advance s.y_advance s.glyph_flags) y_offset
    ∙ (ap (λ v. shown t.number t.cluster t.x_offset t.y_offset v s.y_advance s.glyph_flags) x_advance
    ∙ (ap (λ v. shown t.number t.cluster t.x_offset t.y_offset t.x_advance v s.glyph_flags) y_advance
    ∙ ap (λ v. shown t.number t.cluster t.x_offset t.y_offset t.x_advance t.y_advance v) glyph_flags)))))

plain_split : (s t : ShownGlyph) (rest rest' : List ℕ) → IsTyped s → IsTyped t → IsEnd rest → IsEnd rest'
    → plain_text s rest ≡ plain_text t rest' → (s ≡ t) × (rest ≡ rest')
plain_split s t rest rest' typed typed' end end' e =
    let number = decimal_split s.number t.number _ _ typed.number typed'.number (inr (omega arith)) (inr (omega arith)) e in
    let after_number = number.1 in
    let clusters : decimal s.cluster ++ offset_then s.x_offset s.y_offset (after_cluster s rest) ≡ decimal t.cluster ++ offset_then t.x_offset t.y_offset (after_cluster t rest') = cc in
    let cluster = decimal_split s.cluster t.cluster _ _ typed.cluster typed'.cluster
    (offset_clear s.x_offset s.y_offset (after_cluster s rest) (inl (omega arith)))
    (offset_clear t.x_offset t.y_offset (after_cluster t rest') (inl (omega arith))) clusters in
    let offset = offset_split _ _ _ _ (after_cluster s rest) (after_cluster t rest') typed.x_offset typed.y_offset typed'.x_offset typed'.y_offset
    (inl (omega arith)) (inl (omega arith)) (λ h. omega arith) (λ h. omega arith) cluster.1 in
    let others = after_cluster_split s t rest rest' typed typed' end end' offset.2 in
    (same_shown s t number.0 cluster.0 offset.0 offset.1 others.0 others.1 others.2, others.3)

-- ---- a glyph's text

append_cases : (b : Bool) (xs ys rest : List ℕ) → cond b xs ys ++ rest ≡ cond b (xs ++ rest) (ys ++ rest)
append_cases true xs ys rest = refl
append_cases false xs ys rest = refl

flag_text_is : (mask : ℕ) (rest : List ℕ) → flag_text numbers_and_flags mask ++ rest ≡ flags_then (bit_and mask 7) rest
unfolding flag_text
flag_text_is mask rest = let small = below_eight mask in flags_is (bit_and mask 7) rest small

-- with advances printed the pen rests
rests : (x : ℤ) → pos 0 +ℤ x ≡ x
rests x = +ℤ_idl x

advance_text_is : (position : GlyphPosition) (rest : List ℕ)
    → advance_text numbers_and_flags position ++ rest ≡ 43 ∷ (signed_decimal position.x_advance ++ second_then position.y_advance rest)
unfolding advance_text
advance_text_is position rest = simp append_assoc (rw (append_cases (int_eq position.y_advance (pos 0))))

offset_text_is : (x y : ℤ) (rest : List ℕ) → offset_text (record { x = x; y = y }) ++ rest ≡ offset_then x y rest
unfolding offset_text
offset_text_is x y rest = rw (append_cases (int_eq x (pos 0) && int_eq y (pos 0))) (simp append_assoc)

position_text_is : (position : GlyphPosition) (rest : List ℕ)
    → position_text numbers_and_flags (record { x = pos 0; y = pos 0 }) position ++ rest
    ≡ offset_then position.x_offset position.y_offset (43 ∷ (signed_decimal position.x_advance ++ second_then position.y_advance rest))
unfolding position_text
position_text_is position rest = simp rests (rw (append_assoc, advance_text_is, offset_text_is))

glyph_text_is : (name_of : ℕ → Option (List ℕ)) (extents_of : ℕ → Option hb_glyph_extents_t) (before : List GlyphPosition)
    (glyph : hb_glyph_info_t) (position : GlyphPosition) (rest : List ℕ)
    → glyph_text name_of extents_of numbers_and_flags (pen_after numbers_and_flags before) glyph position ++ rest ≡ plain_text (shown_glyph (glyph, position)) rest
unfolding glyph_text name_text cluster_text extents_text
glyph_text_is name_of extents_of before glyph position rest =
    simp append_assoc (rw (flag_text_is, position_text_is))

-- ---- a run's text

-- the texts with `|` between them
abbrev run_text : List ShownGlyph → List ℕ
run_text [] = []
run_text (s ∷ []) = plain_text s []
run_text (s ∷ t ∷ more) = plain_text s (124 ∷ run_text (t ∷ more))

join_is : (name_of : ℕ → Option (List ℕ)) (extents_of : ℕ → Option hb_glyph_extents_t) (before : List GlyphPosition)
    (glyphs : List hb_glyph_info_t) (positions : List GlyphPosition)
    → join_with_byte 124 (glyph_texts name_of extents_of numbers_and_flags before glyphs positions) ≡ run_text (map shown_glyph (zip glyphs positions))
join_is name_of extents_of before [] positions = refl
join_is name_of extents_of before (g ∷ glyphs) [] = refl
join_is name_of extents_of before (g ∷ []) (p ∷ positions) =
    sym (append-nil _) ∙ glyph_text_is name_of extents_of before g p []
join_is name_of extents_of before (g ∷ h ∷ glyphs) (p ∷ []) =
    sym (append-nil _) ∙ glyph_text_is name_of extents_of before g p []
join_is name_of extents_of before (g ∷ h ∷ glyphs) (p ∷ q ∷ positions) =
    ap (λ rest. glyph_text name_of extents_of numbers_and_flags (pen_after numbers_and_flags before) g p ++ (124 ∷ rest))
    (join_is name_of extents_of (before ++ p ∷ []) (h ∷ glyphs) (q ∷ positions))
    ∙ glyph_text_is name_of extents_of before g p _

decimal_is_not_empty : (m : ℕ) (rest : List ℕ) → m < 2 ^ 64 → decimal m ++ rest ≡ [] → ⊥
decimal_is_not_empty m rest small e = omega (arith, decimal_nonempty m small, length-append (decimal m) rest, ap length e)

run_is_not_empty : (s : ShownGlyph) (more : List ShownGlyph) → IsTyped s → run_text (s ∷ more) ≡ [] → ⊥
run_is_not_empty s [] typed e = decimal_is_not_empty s.number _ typed.number e
run_is_not_empty s (t ∷ more) typed e = decimal_is_not_empty s.number _ typed.number e

-- what follows a glyph's text
abbrev after_glyph : List ShownGlyph → List ℕ
after_glyph [] = []
after_glyph (t ∷ more) = 124 ∷ run_text (t ∷ more)

after_is_end : (more : List ShownGlyph) → IsEnd (after_glyph more)
after_is_end [] = tt
after_is_end (t ∷ more) = refl

run_cons : (s : ShownGlyph) (more : List ShownGlyph) → run_text (s ∷ more) ≡ plain_text s (after_glyph more)
run_cons s [] = refl
run_cons s (t ∷ more) = refl

after_split : (ss ts : List ShownGlyph) → AllByRecursion IsTyped ss → AllByRecursion IsTyped ts → after_glyph ss ≡ after_glyph ts → ss ≡ ts
after_split [] [] typed typed' e = refl
after_split [] (t ∷ ts) typed typed' e = absurd (cc)
after_split (s ∷ ss) [] typed typed' e = absurd (cc)
after_split (s ∷ ss) (t ∷ ts) typed typed' e =
    let runs : run_text (s ∷ ss) ≡ run_text (t ∷ ts) = cc in
    let parts = plain_split s t (after_glyph ss) (after_glyph ts) typed.0 typed'.0 (after_is_end ss) (after_is_end ts)
    (sym (run_cons s ss) ∙ (runs ∙ run_cons t ts)) in
    let more = after_split ss ts typed.1 typed'.1 parts.1 in
    ap (λ x. x ∷ ss) parts.0 ∙ ap (λ xs. t ∷ xs) more

runs_split : (ss ts : List ShownGlyph) → AllByRecursion IsTyped ss → AllByRecursion IsTyped ts → run_text ss ≡ run_text ts → ss ≡ ts
runs_split [] [] typed typed' e = refl
runs_split [] (t ∷ ts) typed typed' e = absurd (run_is_not_empty t ts typed'.0 (sym e))
runs_split (s ∷ ss) [] typed typed' e = absurd (run_is_not_empty s ss typed.0 e)
runs_split (s ∷ ss) (t ∷ ts) typed typed' e = after_split (s ∷ ss) (t ∷ ts) typed typed' (ap (λ q. 124 ∷ q) e)

typed_shown : (es : List (hb_glyph_info_t × GlyphPosition)) → All HasTypedNumbers es → AllByRecursion IsTyped (map shown_glyph es)
typed_shown [] typed = tt
typed_shown (e ∷ es) typed =
    let first = typed 0 e (omega arith) in
    let one : IsTyped (shown_glyph e) = record {
      number = omega (arith, first.number);
      cluster = omega (arith, first.cluster);
      x_offset = first.x_offset;
      y_offset = first.y_offset;
      x_advance = first.x_advance;
      y_advance = first.y_advance;
    } in
    (one, typed_shown es (λ k d lt. typed (suc k) d (omega arith)))

pub equal_texts_show_equal_runs : EqualTextsShowEqualRuns
unfolding printed_text
equal_texts_show_equal_runs name_of other_name_of extents_of other_extents_of glyphs others positions other_positions typed other_typed e =
    runs_split (map shown_glyph (zip glyphs positions)) (map shown_glyph (zip others other_positions))
    (typed_shown (zip glyphs positions) typed) (typed_shown (zip others other_positions) other_typed)
    (sym (join_is name_of extents_of [] glyphs positions) ∙ (e ∙ join_is other_name_of other_extents_of [] others other_positions))
