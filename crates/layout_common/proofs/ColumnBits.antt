-- The index of a lookup's subtables by the glyphs beside the one at which they are tried.
use mathlib.Core.Bool.{false≢true}
use Rattle.std.specs.Int.{bit_at}
use Rattle.std.proofs.Common.{ℕ, ◌≡◌, ◌==◌, ◌||◌, ◌<◌, ◌≤◌, ◌^◌, ◌%◌, ◌/◌, ◌*◌, ◌+◌, ◌-◌, Bool, true, false, List, [], ◌∷◌, length, slice_get, Option, Some, None, bit_and, min, inl, inr, refl, sym, ap, ◌∙◌, arith}
use Rattle.std.specs.Prelude.{◌&&◌}
use Rattle.std.proofs.lemmas.Bool.{cases_lt}
use Rattle.std.proofs.lemmas.Bool.Decides.{nat_tests}
use Rattle.std.proofs.lemmas.Nat.Bits.{bit_at_and, bit_at-lt}
use Rattle.layout_common.specs.Bits.{has_bit, word_has}
use Rattle.layout_common.specs.Buckets.{has_bucket}
use Rattle.layout_common.specs.LowBits.{has_low_bits}
use Rattle.layout_common.specs.Neighbours.{AreColumns, AreKeptBits, IsClear, IsClearAt, column_of, in_column, may_stand}
use Rattle.layout_common.specs.Subtables.{AreIndexed}
use Rattle.layout_common.specs.declared.neighbours.Neighbour.{Neighbour}
use Rattle.layout_common.specs.declared.neighbours.Neighbour.TheVariants.{Unknown, Missing, Glyph}
use Rattle.layout_common.proofs.Bits.{empty_mask, full_mask}
use Rattle.layout_common.proofs.Indexed.{not_at}
use Rattle.buffer_facts.proofs.Numbers.{test_of_itself as same_number}
use Rattle.buffer_facts.proofs.Truth.{or_first, or_second}

-- ---- a bit is set

-- words became others by a bit more
abbrev pub SetsBit : List ℕ → List ℕ → ℕ → ℕ → Type 0
SetsBit old new at bit = (i b : ℕ) → word_has (slice_get new i) b ≡ (word_has (slice_get old i) b || (i == at && b == bit))

both_same : (i b : ℕ) → (i == i && b == b) ≡ true
both_same i b = rw (same_number i, same_number b) refl

pub set_there : (old new : List ℕ) (at bit : ℕ) → SetsBit old new at bit → word_has (slice_get new at) bit ≡ true
set_there old new at bit sets = sets at bit ∙ or_second (word_has (slice_get old at) bit) (at == at && bit == bit) (both_same at bit)

pub bit_stays : (old new : List ℕ) (at bit i b : ℕ) → SetsBit old new at bit → word_has (slice_get old i) b ≡ true → word_has (slice_get new i) b ≡ true
bit_stays old new at bit i b sets there = sets i b ∙ or_first (word_has (slice_get old i) b) (i == at && b == bit) there

pub kept_more : (start old new : List ℕ) (at bit : ℕ) → AreKeptBits start old → SetsBit old new at bit → AreKeptBits start new
kept_more start old new at bit kept sets i b there = bit_stays old new at bit i b sets (kept i b there)

pub kept_on : (start mid new : List ℕ) → AreKeptBits start mid → AreKeptBits mid new → AreKeptBits start new
kept_on start mid new first second i b there = second i b (first i b there)

-- ---- columns of 64 buckets

-- the columns of so many buckets have a bit
abbrev pub HasBuckets : ℕ → List ℕ → ℕ → ℕ → ℕ → Type 0
HasBuckets buckets words first bit n = (b : ℕ) → b < n → has_bucket buckets b ≡ true → word_has (slice_get words (first + b)) bit ≡ true

pub bucket_set : (buckets first bit n : ℕ) (old new : List ℕ) → HasBuckets buckets old first bit n → SetsBit old new (first + n) bit → HasBuckets buckets new first bit (n + 1)
bucket_set buckets first bit n old new before sets b lt has = elim (cases_lt b n) [
  | inl less ↦ bit_stays old new (first + n) bit (first + b) bit sets (before b less has)
  | inr ge ↦
      let same : first + b ≡ first + n = omega (arith, lt, ge) in
      ap (λ i. word_has (slice_get new i) bit) same ∙ set_there old new (first + n) bit sets
]

pub bucket_left : (buckets first bit n : ℕ) (words : List ℕ) → HasBuckets buckets words first bit n → has_bucket buckets n ≡ false → HasBuckets buckets words first bit (n + 1)
bucket_left buckets first bit n words before none b lt has = elim (cases_lt b n) [
  | inl less ↦ before b less has
  | inr ge ↦
      let same : n ≡ b = omega (arith, lt, ge) in
      absurd (false≢true (sym none ∙ ap (has_bucket buckets) same ∙ has))
]

-- ---- columns of a set's glyphs

-- the columns of a set's glyphs in so many words have a bit
abbrev pub HasGlyphs : List ℕ → List ℕ → ℕ → ℕ → ℕ → Type 0
HasGlyphs glyphs words start bit n = (g : ℕ) → g % 1024 / 64 < n → has_low_bits glyphs g ≡ true → word_has (slice_get words (start + g % 512)) bit ≡ true

-- the bits of a word are those of a set
abbrev pub IsWordOf : List ℕ → ℕ → ℕ → Type 0
IsWordOf glyphs i word = (b : ℕ) → b < 64 → has_bucket word b ≡ has_low_bits glyphs (i * 64 + b)

bit_of_glyph : (glyphs : List ℕ) (i word g : ℕ) → IsWordOf glyphs i word → g % 1024 / 64 ≡ i → has_low_bits glyphs g ≡ true → has_bucket word (g % 64) ≡ true
bit_of_glyph glyphs i word g is at has =
    let same : (i * 64 + g % 64) % 1024 ≡ g % 1024 = omega (arith, at) in
    is (g % 64) (omega arith) ∙ ap (λ n. has_bit 0 glyphs n) same ∙ has

pub glyphs_set : (glyphs : List ℕ) (start bit i word first : ℕ) (old new : List ℕ) → HasGlyphs glyphs old start bit i → AreKeptBits old new → IsWordOf glyphs i word → first ≡ start + i % 8 * 64
    → ((b : ℕ) → b < 64 → has_bucket word b ≡ true → word_has (slice_get new (first + b)) bit ≡ true) → HasGlyphs glyphs new start bit (i + 1)
glyphs_set glyphs start bit i word first old new before kept is at added g lt has = elim (cases_lt (g % 1024 / 64) i) [
  | inl less ↦ kept (start + g % 512) bit (before g less has)
  | inr ge ↦
      let here : g % 1024 / 64 ≡ i = omega (arith, lt, ge) in
      let column : start + g % 512 ≡ first + g % 64 = omega (arith, at, here) in
      ap (λ n. word_has (slice_get new n) bit) column ∙ added (g % 64) (omega arith) (bit_of_glyph glyphs i word g is here has)
]

pub glyphs_left : (glyphs : List ℕ) (start bit i word : ℕ) (words : List ℕ) → HasGlyphs glyphs words start bit i → IsWordOf glyphs i word → word ≡ 0 → HasGlyphs glyphs words start bit (i + 1)
glyphs_left glyphs start bit i word words before is none g lt has = elim (cases_lt (g % 1024 / 64) i) [
  | inl less ↦ before g less has
  | inr ge ↦
      let here : g % 1024 / 64 ≡ i = omega (arith, lt, ge) in
      absurd (false≢true (sym (empty_mask (g % 64)) ∙ ap (λ w. has_bucket w (g % 64)) (sym none) ∙ bit_of_glyph glyphs i word g is here has))
]

pub all_glyphs_set : (glyphs words : List ℕ) (start bit n g : ℕ) → 16 ≤ n → HasGlyphs glyphs words start bit n → has_low_bits glyphs g ≡ true → word_has (slice_get words (start + g % 512)) bit ≡ true
all_glyphs_set glyphs words start bit n g le all has = all g (omega (arith, le)) has

-- ---- all columns

-- so many columns have a bit
abbrev pub HasColumns : List ℕ → ℕ → ℕ → ℕ → Type 0
HasColumns words start bit n = (c : ℕ) → c < n → word_has (slice_get words (start + c)) bit ≡ true

pub column_set : (start bit n : ℕ) (old new : List ℕ) → HasColumns old start bit n → SetsBit old new (start + n) bit → HasColumns new start bit (n + 1)
column_set start bit n old new before sets c lt = elim (cases_lt c n) [
  | inl less ↦ bit_stays old new (start + n) bit (start + c) bit sets (before c less)
  | inr ge ↦
      let same : start + c ≡ start + n = omega (arith, lt, ge) in
      ap (λ i. word_has (slice_get new i) bit) same ∙ set_there old new (start + n) bit sets
]

-- ---- a subtable

column_small : (o : Option ℕ) → column_of o < 513
column_small None = omega arith
column_small (Some g) = omega arith

-- in each column
pub admits_any : (words : List ℕ) (k start bit : ℕ) (o : Option ℕ) → start ≡ k / 64 * 513 → bit ≡ k % 64 → ((c : ℕ) → c < 513 → word_has (slice_get words (start + c)) bit ≡ true) → in_column words k (column_of o) ≡ true
admits_any words k start bit o at is all = rw (sym at, sym is) (all (column_of o) (column_small o))

-- in those of its glyphs
pub admits_some : (admits : Option ℕ → Bool) (glyphs words : List ℕ) (k start bit : ℕ) (o : Option ℕ) → start ≡ k / 64 * 513 → bit ≡ k % 64 → admits None ≡ false → ((g : ℕ) → admits (Some g) ≡ true → has_low_bits glyphs g ≡ true)
    → ((g : ℕ) → has_low_bits glyphs g ≡ true → word_has (slice_get words (start + g % 512)) bit ≡ true) → admits o ≡ true → in_column words k (column_of o) ≡ true
admits_some admits glyphs words k start bit None at is none has set may = absurd (false≢true (sym none ∙ may))
admits_some admits glyphs words k start bit (Some g) at is none has set may = rw (sym at, sym is) (set g (has g may))

-- the columns have the bits of so many subtables
abbrev pub HasSubtables : {S : Type 0} → (S → Option ℕ → Bool) → List S → List ℕ → ℕ → Type 0
HasSubtables {S} admits subtables words n = (k : ℕ) (o : Option ℕ) (s : S) → k < n → slice_get subtables k ≡ Some s → admits s o ≡ true → in_column words k (column_of o) ≡ true

pub subtable_set : {S : Type 0} (admits : S → Option ℕ → Bool) (subtables : List S) (old new : List ℕ) (n : ℕ) (x : S) → slice_get subtables n ≡ Some x → HasSubtables admits subtables old n → AreKeptBits old new
    → ((o : Option ℕ) → admits x o ≡ true → in_column new n (column_of o) ≡ true) → HasSubtables admits subtables new (n + 1)
subtable_set admits subtables old new n x there before kept added k o s lt at may = elim (cases_lt k n) [
  | inl less ↦ kept (k / 64 * 513 + column_of o) (k % 64) (before k o s less at may)
  | inr ge ↦
      let same : k ≡ n = omega (arith, lt, ge) in
      let is : x ≡ s = cc in
      ap (λ i. in_column new i (column_of o)) same ∙ added o (ap (λ y. admits y o) is ∙ may)
]

pub all_subtables_set : {S : Type 0} (admits : S → Option ℕ → Bool) (subtables : List S) (words : List ℕ) (n : ℕ) → length subtables ≤ n → HasSubtables admits subtables words n → AreColumns admits subtables words
all_subtables_set admits subtables words n le all k word o s there may at =
    let lt = Rattle.std.proofs.lemmas.Option.slice_get_within subtables k s there in
    sym (ap (λ w. word_has w (k % 64)) at) ∙ all k o s (omega (arith, lt, le)) there may

-- ---- a word is read

pub never_clear : (b : ℕ) → b < 64 → has_bucket (2 ^ 64 - 1) b ≡ false → ⊥
never_clear b lt none = false≢true (sym none ∙ full_mask b lt)

pub clear_there : (words : List ℕ) (at i word b : ℕ) → Some word ≡ slice_get words i → i ≡ at → has_bucket word b ≡ false → IsClearAt words at b
clear_there words at i word b there same none = (word, ap (slice_get words) (sym same) ∙ sym there, none)

bit_of_both : (m n : ℕ) → m < 2 → n < 2 → (min m n == 1) ≡ (m == 1 && n == 1)
bit_of_both m n lt less = grind (arith, nat_tests, lt, less)

bucket_of_both : (w v b : ℕ) → has_bucket (bit_and w v) b ≡ (has_bucket w b && has_bucket v b)
bucket_of_both w v b = ap (λ n. n == 1) (bit_at_and w v b) ∙ bit_of_both (bit_at w b) (bit_at v b) (bit_at-lt w b) (bit_at-lt v b)

not_covered : {S : Type 0} (covers : S → ℕ → Bool) (subtables : List S) (words : List ℕ) (k g bucket : ℕ) (s : S) → AreIndexed covers subtables words → bucket ≡ g % 1024 → IsClearAt words (k / 64 * 1024 + bucket) (k % 64) → slice_get subtables k ≡ Some s → covers s g ≡ false
not_covered covers subtables words k g bucket s indexed b clear at = not_at covers subtables words (k / 64) bucket clear.0 k g s indexed clear.1 b refl clear.2 at

not_admitted_at : {S : Type 0} (admits : S → Option ℕ → Bool) (subtables : List S) (words : List ℕ) (k : ℕ) (o : Option ℕ) (s : S) → AreColumns admits subtables words → slice_get subtables k ≡ Some s → IsClearAt words (k / 64 * 513 + column_of o) (k % 64) → admits s o ≡ false
not_admitted_at admits subtables words k o s columns at clear = by (admits s o) refl
  where
    by : (t : Bool) → admits s o ≡ t → admits s o ≡ false
    by false e = e
    by true e = absurd (false≢true (sym clear.2 ∙ columns k clear.0 o s at e clear.1))

not_admitted : {S : Type 0} (admits : S → Option ℕ → Bool) (subtables : List S) (words : List ℕ) (k : ℕ) (n : Neighbour) (s : S) → AreColumns admits subtables words → slice_get subtables k ≡ Some s → IsClear words (k / 64) n (k % 64) → may_stand (admits s) n ≡ false
not_admitted admits subtables words k Unknown s columns at clear = absurd clear
not_admitted admits subtables words k Missing s columns at clear = not_admitted_at admits subtables words k None s columns at clear
not_admitted admits subtables words k (Glyph g) s columns at clear = not_admitted_at admits subtables words k (Some g) s columns at clear

none_of_three : (p q r c b a : Bool) → ((p && q) && r) ≡ false → (p ≡ false → c ≡ false) → (q ≡ false → b ≡ false) → (r ≡ false → a ≡ false) → (c && b && a) ≡ false
none_of_three false q r c b a e one two three = rw (one refl) refl
none_of_three true false r true b a e one two three = rw (two refl) refl
none_of_three true false r false b a e one two three = refl
none_of_three true true false true true a e one two three = three refl
none_of_three true true false true false a e one two three = refl
none_of_three true true false false b a e one two three = refl
none_of_three true true true c b a e one two three = cc

-- a bit of the word for a glyph between two others is clear
pub clear_between : {S : Type 0} (covers : S → ℕ → Bool) (before after : S → Option ℕ → Bool) (subtables : List S) (own back ahead : List ℕ) (k g bucket w u v : ℕ) (b a : Neighbour) (s : S) → AreIndexed covers subtables own → AreColumns before subtables back
    → AreColumns after subtables ahead → bucket ≡ g % 1024 → ((i : ℕ) → i < 64 → has_bucket w i ≡ false → IsClearAt own (k / 64 * 1024 + bucket) i) → ((i : ℕ) → i < 64 → has_bucket u i ≡ false → IsClear back (k / 64) b i)
    → ((i : ℕ) → i < 64 → has_bucket v i ≡ false → IsClear ahead (k / 64) a i) → slice_get subtables k ≡ Some s → has_bucket (bit_and (bit_and w u) v) (k % 64) ≡ false
    → (covers s g && may_stand (before s) b && may_stand (after s) a) ≡ false
clear_between covers before after subtables own back ahead k g bucket w u v b a s indexed first second is one two three at none =
    let i = k % 64 in
    let small : i < 64 = omega arith in
    let all : ((has_bucket w i && has_bucket u i) && has_bucket v i) ≡ false = sym (bucket_of_both (bit_and w u) v i ∙ ap (λ t. t && has_bucket v i) (bucket_of_both w u i)) ∙ none in
    none_of_three (has_bucket w i) (has_bucket u i) (has_bucket v i) (covers s g) (may_stand (before s) b) (may_stand (after s) a) all
    (λ e. not_covered covers subtables own k g bucket s indexed is (one i small e) at) (λ e. not_admitted before subtables back k b s first at (two i small e)) (λ e. not_admitted after subtables ahead k a s second at (three i small e))

-- ---- subtables are left out

-- a test that the subtables from one on fail, up to another
abbrev pub AreLeftOut : {S : Type 0} → (S → Bool) → List S → ℕ → ℕ → Type 0
AreLeftOut {S} test subtables from next = (k : ℕ) (s : S) → from ≤ k → k < next → slice_get subtables k ≡ Some s → test s ≡ false

pub left_out_more : {S : Type 0} (test : S → Bool) (subtables : List S) (word from at bit next : ℕ) → ((k : ℕ) (s : S) → k / 64 ≡ at / 64 → slice_get subtables k ≡ Some s → has_bucket word (k % 64) ≡ false → test s ≡ false)
    → ((b : ℕ) → at % 64 ≤ b → b < bit → has_bucket word b ≡ false) → bit ≤ 64 → next ≤ at / 64 * 64 + bit → AreLeftOut test subtables from at → AreLeftOut test subtables from next
left_out_more test subtables word from at bit next clear none le up before k s low high is = elim (cases_lt k at) [
  | inl lt ↦ before k s low lt is
  | inr ge ↦
      let row : k / 64 ≡ at / 64 = omega (arith, ge, high, up, le) in
      let first : at % 64 ≤ k % 64 = omega (arith, row, ge) in
      let last : k % 64 < bit = omega (arith, row, high, up) in
      clear k s row is (none (k % 64) first last)
]
