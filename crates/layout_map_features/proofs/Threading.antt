-- Fields one after another, with the lowest free bit handed on.
use Rattle.std.proofs.Common.{ℕ, zero, suc, ◌≡◌, ◌<◌, ◌≤◌, ◌+◌, nat_lt, true, false, if◌then◌else◌, List, [], ◌∷◌, ◌++◌, length, drop, get_or, fold, refl, sym, ap, ◌∙◌, arith, add-one, append_assoc}
use Rattle.std.specs.List.{flat_map}
use Rattle.std.proofs.Math.Seq.{drop-cons}
use Rattle.std.proofs.lemmas.Bool.Decides.{nat_tests}
use Rattle.std.proofs.lemmas.List.{append-nil}
use Rattle.std.proofs.lemmas.List.Elements.{filter-append}
use Rattle.std.proofs.lemmas.List.Sums.{fold-append}
use Rattle.layout_map_features.specs.declared.request.MergedRequest.{MergedRequest}
use Rattle.layout_map_features.specs.declared.kept_fields.KeptField.{KeptField}
use Rattle.layout_map_features.specs.Entering.{RisesFrom}
use Rattle.layout_map_features.specs.Fields.{first_feature_bit, field_of, bit_after, free_bit, below_tag, field_among, kept_field, kept_fields}

-- one request more is seen
pub below_step : (tag next : ℕ) (ms : List MergedRequest) (i : ℕ) (m : MergedRequest) → i < length ms → get_or ms i m ≡ m
    → fold bit_after next (below_tag tag (drop i ms)) ≡ fold bit_after (if nat_lt m.tag.0 tag then bit_after next m else next) (below_tag tag (drop (i + 1) ms))
below_step tag next ms i m lt at =
    let front : drop i ms ≡ m ∷ drop (i + 1) ms = rw (drop-cons ms i m lt, at, add-one) refl in
    rw front (elim (nat_lt m.tag.0 tag) as (λ b. fold bit_after next (if b then m ∷ below_tag tag (drop (i + 1) ms) else below_tag tag (drop (i + 1) ms)) ≡ fold bit_after (if b then bit_after next m else next) (below_tag tag (drop (i + 1) ms))) [
      | true ↦ refl
      | false ↦ refl
    ])

-- the fields of requests from a free bit on
abbrev pub kept_from : ℕ → List MergedRequest → List KeptField
kept_from next [] = []
kept_from next (m ∷ ms) = kept_field m (field_of next m) ++ kept_from (bit_after next m) ms

pub kept_step : (next : ℕ) (ms : List MergedRequest) (i : ℕ) (m : MergedRequest) → i < length ms → get_or ms i m ≡ m
    → kept_from next (drop i ms) ≡ kept_field m (field_of next m) ++ kept_from (bit_after next m) (drop (i + 1) ms)
kept_step next ms i m lt at =
    let front : drop i ms ≡ m ∷ drop (i + 1) ms = rw (drop-cons ms i m lt, at, add-one) refl in
    rw front refl

-- ---- the tags before a tag that rises

abbrev AllBelow : ℕ → List MergedRequest → Type 0
AllBelow tag [] = Unit {0}
AllBelow tag (m ∷ ms) = (m.tag.0 < tag) × AllBelow tag ms

all_below : (tag : ℕ) (ms : List MergedRequest) → AllBelow tag ms → below_tag tag ms ≡ ms
all_below tag [] h = refl
all_below tag (m ∷ ms) h =
    let on : nat_lt m.tag.0 tag ≡ true = grind (arith, nat_tests, h.0) in
    rw on (ap (λ xs. m ∷ xs) (all_below tag ms h.1))

none_below : (tag low : ℕ) (ms : List MergedRequest) → tag ≤ low → RisesFrom (λ m. m.tag.0) low ms → below_tag tag ms ≡ []
none_below tag low [] le h = refl
none_below tag low (m ∷ ms) le h =
    let off : nat_lt m.tag.0 tag ≡ false = grind (arith, nat_tests, h.0, le) in
    rw off (none_below tag (m.tag.0 + 1) ms (omega (arith, h.0, le)) h.1)

below_weaker : (tag more : ℕ) (ms : List MergedRequest) → tag ≤ more → AllBelow tag ms → AllBelow more ms
below_weaker tag more [] le h = tt
below_weaker tag more (m ∷ ms) le h = (omega (arith, h.0, le), below_weaker tag more ms le h.1)

below_one_more : (tag : ℕ) (ms : List MergedRequest) (m : MergedRequest) → AllBelow tag ms → m.tag.0 < tag → AllBelow tag (ms ++ m ∷ [])
below_one_more tag [] m h lt = (lt, tt)
below_one_more tag (n ∷ ms) m h lt = (h.0, below_one_more tag ms m h.1 lt)

-- the requests before one are those of lower tags
before_is : (front ms : List MergedRequest) (m : MergedRequest) (low : ℕ) → AllBelow low front → RisesFrom (λ n. n.tag.0) low (m ∷ ms)
    → below_tag m.tag.0 (front ++ m ∷ ms) ≡ front
before_is front ms m low h r =
    let off : nat_lt m.tag.0 m.tag.0 ≡ false = grind (arith, nat_tests) in
    let rest = none_below m.tag.0 (m.tag.0 + 1) ms (omega arith) r.1 in
    let kept = all_below m.tag.0 front (below_weaker low m.tag.0 front r.0 h) in
    filter-append (λ n. nat_lt n.tag.0 m.tag.0) front (m ∷ ms) ∙ rw (off, rest, kept) (append-nil front)

threaded_from : (all front ms : List MergedRequest) (low : ℕ) → all ≡ front ++ ms → AllBelow low front → RisesFrom (λ n. n.tag.0) low ms
    → flat_map (λ m. kept_field m (field_among all m)) ms ≡ kept_from (free_bit front) ms
threaded_from all front [] low e h r = refl
threaded_from all front (m ∷ ms) low e h r =
    let before : below_tag m.tag.0 all ≡ front = rw e (before_is front ms m low h r) in
    let more = fold-append bit_after first_feature_bit front (m ∷ []) in
    let split : all ≡ (front ++ m ∷ []) ++ ms = e ∙ sym (append_assoc front (m ∷ []) ms) in
    let below = below_one_more (m.tag.0 + 1) front m (below_weaker low (m.tag.0 + 1) front (omega (arith, r.0)) h) (omega arith) in
    let rest = threaded_from all (front ++ m ∷ []) ms (m.tag.0 + 1) split below r.1 in
    rw (before, rest, more) refl

pub kept_threaded : (ms : List MergedRequest) → RisesFrom (λ m. m.tag.0) 0 ms → kept_from first_feature_bit ms ≡ kept_fields ms
kept_threaded ms r = sym (threaded_from ms [] ms 0 refl tt r)

past_end : {X : Type 0} (xs : List X) (i : ℕ) → length xs ≤ i → drop i xs ≡ []
past_end [] zero h = refl
past_end [] (suc i) h = refl
past_end (x ∷ xs) zero h = absurd (omega (arith, h))
past_end (x ∷ xs) (suc i) h = past_end xs i (omega (arith, h))

-- all requests are seen
pub kept_done : (ms : List MergedRequest) (out : List KeptField) (next i : ℕ) → RisesFrom (λ m. m.tag.0) 0 ms → length ms ≤ i
    → out ++ kept_from next (drop i ms) ≡ kept_from first_feature_bit ms → out ≡ kept_fields ms
kept_done ms out next i r h e =
    let end = past_end ms i h in
    let all : out ++ kept_from next [] ≡ kept_from first_feature_bit ms = rw end at e in
    sym (append-nil out) ∙ all ∙ kept_threaded ms r
