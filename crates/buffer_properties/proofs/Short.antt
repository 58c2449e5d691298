-- Runs that are short in the full expansion are short in every expansion.
use Rattle.std.proofs.Common.{ℕ, zero, suc, ◌≡◌, ◌≢◌, ◌≤◌, ◌+◌, ◌==◌, ◌||◌, Bool, true, false, if◌then◌else◌, List, [], ◌∷◌, ◌++◌, length, Option, Some, None, refl, sym, ap, ap₂, subst, ◌∙◌, arith, inl, inr, ne_eqb, eq-eqb}
use Rattle.std.proofs.lemmas.Bool.{cases_Bool, cases_eq, cond-true, cond-false, eqb-false}
use Rattle.std.proofs.lemmas.List.{append-nil, map-append, length-append}
use Rattle.std.proofs.lemmas.List.Concat.{flat_map-append}
use Rattle.std.specs.List.{flat_map}
use Rattle.buffer_unicode_tables.specs.Expansion.{Splits, with_second_piece, by_halves, expansion_by_splits, EndWithin}
use Rattle.buffer_unicode_tables.specs.Lawful.{SecondHalvesStay, SplitsKeepClass}
use Rattle.buffer_unicode_tables.proofs.Orders.{IsRun}
use Rattle.buffer_unicode_tables.specs.Tables.{Tables, split_of, class_of}
use Rattle.buffer_unicode_tables.specs.Texts.{full_expansion, full_text}
use Rattle.buffer_unicode_tables.proofs.Expansions.{expansion_of_pieces, expansion_alone}
use Rattle.buffer_glyphs.specs.Items.{Item}
use Rattle.buffer_properties.specs.Characters.{mark_class, characters_of, items_of_text, standing_for}
use Rattle.buffer_properties.specs.Expanding.{items_for, expanded_item, expanded_groups, expanded_list}
use Rattle.buffer_properties.specs.NormalLaws.{ExpansionKeepsRunsShort}
use Rattle.buffer_properties.specs.Normalizer.{Normalizer, has_character}
use Rattle.buffer_properties.specs.Premises.{SplitsAsUnicode, HasNoSelector, HasShortRuns}
use Rattle.buffer_properties.specs.SupportedExpansion.{Reach, Least, Greatest, alone, by_supported, supported_expansion, in_pieces, expansion}
use Rattle.buffer_properties.proofs.Alike.{no_selector_in_text}
use Rattle.buffer_properties.proofs.Expanded.{items_in_turn}
use Rattle.buffer_properties.proofs.Kept.{alone_is, preferred_is, mapped_is, number_found, characters_of_pieces, AreOfTables, IsKept, groups_keep}
use Rattle.buffer_properties.proofs.Preserved.{text_of_tables, characters_of_text, expanded_keeps}
use Rattle.buffer_properties.proofs.Runs.{run_append}
use Rattle.buffer_unicode_tables.proofs.Steps.{full_append}

full_alone : (t : Tables) (u : ℕ) → full_text t (u ∷ []) ≡ full_expansion t u
full_alone t u = append-nil (full_expansion t u)

full_followed : (t : Tables) (b : ℕ) (vs ws : List ℕ) → (b ≢ 0 → split_of t b ≡ None) → full_text t vs ≡ ws → full_text t (with_second_piece b vs) ≡ with_second_piece b ws
full_followed t b vs ws stays e =
    elim (cases_Bool (b == 0)) [
      | inl none ↦ rw none e
      | inr some ↦
          let second = full_alone t b ∙ expansion_alone t b (stays (eqb-false b 0 some)) in
          rw some (full_append t vs (b ∷ []) ∙ ap₂ (λ x y. x ++ y) e second)
    ]

by_supported_full : (t : Tables) (has : ℕ → Bool) (expand : ℕ → Option (List ℕ)) (u : ℕ) (o : Option (ℕ × ℕ)) (ws : List ℕ) → EndWithin (split_of t) 8 → SecondHalvesStay t → split_of t u ≡ o
    → ((a : ℕ) (vs : List ℕ) → expand a ≡ Some vs → full_text t vs ≡ full_expansion t a) → by_supported has expand o ≡ Some ws → full_text t ws ≡ full_expansion t u
by_supported_full t has expand u None ws ends stay s h e = absurd (let none : None ≡ Some ws = e in cc)
by_supported_full t has expand u (Some (a, b)) ws ends stay s h e =
    elim (cases_Bool (b == 0 || has b)) [
      | inl found ↦
          let at = mapped_is (with_second_piece b) (expand a) ws (sym (cond-true _ _ _ found) ∙ e) in
          ap (full_text t) (sym at.1.1) ∙ (full_followed t b at.0 (full_expansion t a) (λ n. stay u a b s n) (h a at.0 at.1.0) ∙ sym (expansion_of_pieces t u a b ends s))
      | inr lacks ↦ absurd (let none : None ≡ Some ws = sym (cond-false _ _ _ lacks) ∙ e in cc)
    ]

supported_in_full : (t : Tables) (reach : Reach) (has : ℕ → Bool) (splits : Splits) (depth u : ℕ) (ws : List ℕ) → EndWithin (split_of t) 8 → SecondHalvesStay t → ((v : ℕ) → splits v ≡ split_of t v)
    → supported_expansion reach has splits depth u ≡ Some ws → full_text t ws ≡ full_expansion t u
unfolding supported_expansion
supported_in_full t reach has splits zero u ws ends stay h e = ap (full_text t) (sym (alone_is has u ws e)) ∙ full_alone t u
supported_in_full t reach has splits (suc depth) u ws ends stay h e =
    elim (preferred_is reach (alone has u) (by_supported has (supported_expansion reach has splits depth) (splits u)) ws e) [
      | inl whole ↦ ap (full_text t) (sym (alone_is has u ws whole)) ∙ full_alone t u
      | inr pieces ↦ by_supported_full t has (supported_expansion reach has splits depth) u (splits u) ws ends stay (sym (h u)) (λ a vs k. supported_in_full t reach has splits depth a vs ends stay h k) pieces
    ]

pieces_in_full : (t : Tables) (reach : Reach) (has : ℕ → Bool) (splits : Splits) (u : ℕ) (ws : List ℕ) → EndWithin (split_of t) 8 → SecondHalvesStay t → ((v : ℕ) → splits v ≡ split_of t v)
    → in_pieces reach has splits u ≡ Some ws → full_text t ws ≡ full_expansion t u
unfolding in_pieces
pieces_in_full t reach has splits u ws ends stay h e =
    by_supported_full t has (supported_expansion reach has splits 8) u (splits u) ws ends stay (sym (h u)) (λ a vs k. supported_in_full t reach has splits 8 a vs ends stay h k) e

expansion_in_full : (t : Tables) (reach : Reach) (has : ℕ → Bool) (splits : Splits) (u : ℕ) (ws : List ℕ) → EndWithin (split_of t) 8 → SecondHalvesStay t → ((v : ℕ) → splits v ≡ split_of t v)
    → expansion reach has splits u ≡ Some ws → full_text t ws ≡ full_expansion t u
expansion_in_full t Greatest has splits u ws ends stay h e = pieces_in_full t Greatest has splits u ws ends stay h e
expansion_in_full t Least has splits u ws ends stay h e =
    elim (cases_Bool (has u)) [
      | inl found ↦ absurd (let none : None ≡ Some ws = sym (cond-true _ _ _ found) ∙ e in cc)
      | inr lacks ↦ pieces_in_full t Least has splits u ws ends stay h (sym (cond-false _ _ _ lacks) ∙ e)
    ]

items_in_full : (c : Normalizer) (x : Item) (o : Option (List ℕ)) → ((ws : List ℕ) → o ≡ Some ws → full_text c.tables ws ≡ full_expansion c.tables x.number)
    → full_text c.tables (characters_of (items_for c x o)) ≡ full_expansion c.tables x.number
items_in_full c x None h = ap (λ n. full_text c.tables (n ∷ [])) (number_found c x (c.glyph_of x.number)) ∙ full_alone c.tables x.number
items_in_full c x (Some us) h = ap (full_text c.tables) (characters_of_pieces c x us) ∙ h us refl

item_in_full : (c : Normalizer) (r : Reach) (x : Item) → EndWithin (split_of c.tables) 8 → SecondHalvesStay c.tables → SplitsAsUnicode c → full_text c.tables (characters_of (expanded_item c r x)) ≡ full_expansion c.tables x.number
unfolding expanded_item
item_in_full c r x ends stay unicode =
    items_in_full c x (expansion r (has_character c) c.splits x.number) (λ ws e. expansion_in_full c.tables r (has_character c) c.splits x.number ws ends stay unicode e)

-- one list has the full expansion of another
abbrev HasFullExpansion : Tables → List Item → List Item → Type 0
HasFullExpansion t xs ys = full_text t (characters_of xs) ≡ full_text t (characters_of ys)

full_items : (t : Tables) (xs ys : List Item) → full_text t (characters_of (xs ++ ys)) ≡ full_text t (characters_of xs) ++ full_text t (characters_of ys)
full_items t xs ys = ap (full_text t) (map-append (λ (x : Item). x.number) xs ys) ∙ full_append t (characters_of xs) (characters_of ys)

full_both : (t : Tables) (ws xs ys zs : List Item) → HasFullExpansion t ws xs → HasFullExpansion t ys zs → HasFullExpansion t (ws ++ ys) (xs ++ zs)
full_both t ws xs ys zs h k = full_items t ws ys ∙ (ap₂ (λ a b. a ++ b) h k ∙ sym (full_items t xs zs))

full_each : (c : Normalizer) (r : Reach) (xs : List Item) → EndWithin (split_of c.tables) 8 → SecondHalvesStay c.tables → SplitsAsUnicode c → HasFullExpansion c.tables xs (flat_map (expanded_item c r) xs)
full_each c r [] ends stay unicode = refl
full_each c r (x ∷ xs) ends stay unicode =
    full_both c.tables (x ∷ []) (expanded_item c r x) xs (flat_map (expanded_item c r) xs) (full_alone c.tables x.number ∙ sym (item_in_full c r x ends stay unicode)) (full_each c r xs ends stay unicode)

expansion_keeps_full : (c : Normalizer) → EndWithin (split_of c.tables) 8 → SecondHalvesStay c.tables → SplitsAsUnicode c → IsKept c (HasFullExpansion c.tables)
expansion_keeps_full c ends stay unicode = record { each = λ r xs. full_each c r xs ends stay unicode; both = full_both c.tables }

-- a mark expands to marks
run_followed : (class : ℕ → ℕ) (b : ℕ) (xs : List ℕ) → IsRun class xs → (b ≢ 0 → class b ≢ 0) → IsRun class (with_second_piece b xs)
run_followed class b xs r n =
    elim (cases_Bool (b == 0)) [
      | inl none ↦ rw none r
      | inr some ↦ rw some (run_append class xs (b ∷ []) r (n (eqb-false b 0 some), tt))
    ]

run_of_pieces : (class : ℕ → ℕ) (expand : ℕ → List ℕ) (u : ℕ) (o : Option (ℕ × ℕ)) → class u ≢ 0 → ((a b : ℕ) → o ≡ Some (a, b) → IsRun class (expand a) × (b ≢ 0 → class b ≢ 0)) → IsRun class (by_halves expand u o)
run_of_pieces class expand u None n h = (n, tt)
run_of_pieces class expand u (Some (a, b)) n h = let pieces = h a b refl in run_followed class b (expand a) pieces.0 pieces.1

run_of_mark : (t : Tables) → SplitsKeepClass t → (depth u : ℕ) → class_of t u ≢ 0 → IsRun (class_of t) (expansion_by_splits (split_of t) depth u)
unfolding expansion_by_splits
run_of_mark t keeps zero u n = (n, tt)
run_of_mark t keeps (suc depth) u n =
    run_of_pieces (class_of t) (expansion_by_splits (split_of t) depth) u (split_of t u) n
    (λ a b s. let kept = keeps u a b s n in (run_of_mark t keeps depth a (λ z. n (sym kept.0 ∙ z)), λ m z. n (sym (kept.1 m) ∙ z)))

followed_some : (b : ℕ) (xs : List ℕ) → 1 ≤ length xs → 1 ≤ length (with_second_piece b xs)
followed_some b xs le =
    elim (b == 0) as (λ test. 1 ≤ length (if test then xs else xs ++ b ∷ [])) [
      | true ↦ le
      | false ↦ omega (arith, length-append xs (b ∷ []))
    ]

pieces_some : (expand : ℕ → List ℕ) (u : ℕ) (o : Option (ℕ × ℕ)) → ((a : ℕ) → 1 ≤ length (expand a)) → 1 ≤ length (by_halves expand u o)
pieces_some expand u None h = omega arith
pieces_some expand u (Some (a, b)) h = followed_some b (expand a) (h a)

expansion_some : (splits : Splits) (depth u : ℕ) → 1 ≤ length (expansion_by_splits splits depth u)
unfolding expansion_by_splits
expansion_some splits zero u = omega arith
expansion_some splits (suc depth) u = pieces_some (expansion_by_splits splits depth) u (splits u) (λ a. expansion_some splits depth a)

short_less : (class : ℕ → ℕ) (m n : ℕ) (xs : List ℕ) → m ≤ n → HasShortRuns class n xs → HasShortRuns class m xs
short_less class m n [] le h = omega (arith, le, h)
short_less class m n (x ∷ xs) le h =
    elim (cases_Bool (class x == 0)) [
      | inl at ↦ (omega (arith, le, h.0), rw at (rw at at h.1))
      | inr off ↦ (omega (arith, le, h.0), rw off (short_less class (m + 1) (n + 1) xs (omega (arith, le)) (rw off at h.1)))
    ]

short_from : (class : ℕ → ℕ) (met : ℕ) (zs xs : List ℕ) → HasShortRuns class met (zs ++ xs) → HasShortRuns class 0 xs
short_from class met [] xs h = short_less class 0 met xs (omega arith) h
short_from class met (z ∷ zs) xs h = short_from class (if class z == 0 then 0 else met + 1) zs xs h.1

short_after : (class : ℕ → ℕ) (met n : ℕ) (zs xs : List ℕ) → IsRun class zs → n ≤ met + length zs → HasShortRuns class met (zs ++ xs) → HasShortRuns class n xs
short_after class met n [] xs r le h = short_less class n met xs (omega (arith, le)) h
short_after class met n (z ∷ zs) xs r le h =
    let off : (class z == 0) ≡ false = ne_eqb (class z) 0 r.0 in
    short_after class (met + 1) n zs xs r.1 (omega (arith, le)) (rw off at h.1)

pub short_first : (class : ℕ → ℕ) (met : ℕ) (xs : List ℕ) → HasShortRuns class met xs → met ≤ 32
short_first class met [] h = h
short_first class met (x ∷ xs) h = h.0

-- a text whose full expansion has short runs has short runs
short_unexpanded : (t : Tables) → SplitsKeepClass t → (us : List ℕ) (n m : ℕ) → n ≤ m → HasShortRuns (class_of t) m (full_text t us) → HasShortRuns (class_of t) n us
short_unexpanded t keeps [] n m le h = omega (arith, le, h)
short_unexpanded t keeps (u ∷ us) n m le h =
    let first = short_first (class_of t) m (full_text t (u ∷ us)) h in
    elim (cases_eq (class_of t u) 0) [
      | inl z ↦
          let at : (class_of t u == 0) ≡ true = eq-eqb (class_of t u) 0 z in
          (omega (arith, le, first), rw at (short_unexpanded t keeps us 0 0 (omega arith) (short_from (class_of t) m (full_expansion t u) (full_text t us) h)))
      | inr nonzero ↦
          let off : (class_of t u == 0) ≡ false = ne_eqb (class_of t u) 0 nonzero in
          let some = expansion_some (split_of t) 8 u in
          (omega (arith, le, first), rw off (short_unexpanded t keeps us (n + 1) (n + 1) (omega arith) (short_after (class_of t) m (n + 1) (full_expansion t u) (full_text t us) (run_of_mark t keeps 8 u nonzero) (omega (arith, le, some)) h)))
    ]

short_items : (t : Tables) (met : ℕ) (xs : List Item) → AreOfTables t xs → HasShortRuns (class_of t) met (characters_of xs) → HasShortRuns mark_class met xs
short_items t met [] o h = h
short_items t met (x ∷ xs) o h =
    let same : (mark_class x == 0) ≡ (class_of t x.number == 0) = ap (λ k. k == 0) o.0 in
    (h.0, rw same (short_items t (if class_of t x.number == 0 then 0 else met + 1) xs o.1 h.1))

full_of_list : (c : Normalizer) (x : Item) (us : List ℕ) → EndWithin (split_of c.tables) 8 → SecondHalvesStay c.tables → SplitsAsUnicode c → HasNoSelector us
    → full_text c.tables us ≡ full_text c.tables (characters_of (expanded_list c (items_of_text c.tables x us)).items)
full_of_list c x [] ends stay unicode none = refl
full_of_list c x (u ∷ us) ends stay unicode none =
    ap (full_text c.tables) (sym (characters_of_text c.tables x (u ∷ us)))
    ∙ (groups_keep c (HasFullExpansion c.tables) (standing_for c.tables u x) [] (items_of_text c.tables x us) (expansion_keeps_full c ends stay unicode) (no_selector_in_text c.tables x (u ∷ us) none)
    ∙ ap (λ ys. full_text c.tables (characters_of ys)) (sym (items_in_turn (expanded_groups c (standing_for c.tables u x) [] (items_of_text c.tables x us)))))

pub expansion_keeps_runs_short : ExpansionKeepsRunsShort
expansion_keeps_runs_short c x us ends lawful unicode none short =
    let keeps = expanded_keeps c x us lawful.classes_are_of_marks unicode none in
    let of_tables = keeps.of_tables (text_of_tables c.tables x us lawful.classes_are_of_marks) in
    let full = full_of_list c x us ends lawful.second_pieces_stay unicode none in
    short_items c.tables 0 (expanded_list c (items_of_text c.tables x us)).items of_tables
    (short_unexpanded c.tables lawful.splits_keep_class (characters_of (expanded_list c (items_of_text c.tables x us)).items) 0 0 (omega arith) (subst (HasShortRuns (class_of c.tables) 0) full short))
