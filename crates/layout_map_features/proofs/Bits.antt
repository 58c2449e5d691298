-- The bits of fields that follow one another.
use Rattle.std.proofs.Common.{ℕ, zero, suc, ◌≡◌, ◌<◌, ◌≤◌, ◌+◌, ◌-◌, ◌*◌, ◌^◌, ◌==◌, nat_lt, Bool, true, false, if◌then◌else◌, List, [], ◌∷◌, ◌++◌, slice_get, bit_and, Some, None, refl, ap, ◌∙◌, arith, subst, mul_comm, pow_mono}
use Rattle.std.proofs.lemmas.Bool.Decides.{nat_tests}
use Rattle.std.proofs.lemmas.Nat.{and_block, and_le_r, and_comm, pow-add, pow_pos}
use Rattle.layout_map_features.specs.declared.field.FeatureField.{FeatureField}
use Rattle.layout_map_features.specs.declared.request.MergedRequest.{MergedRequest}
use Rattle.layout_map_features.specs.declared.kept_fields.KeptField.{KeptField}
use Rattle.layout_map_features.specs.Entering.{RisesFrom}
use Rattle.layout_map_features.specs.Fields.{global_bit, global_field, own_field, first_feature_bit, bits_needed, uses_global_bit, kept_field, kept_fields}
use Rattle.layout_map_features.proofs.Threading.{kept_from, kept_threaded}
use Rattle.buffer_rows.proofs.Paged.{under as below_is}

-- ---- numbers that share no bit

none_of : (n : ℕ) → bit_and n 0 ≡ 0
none_of n = let le : bit_and n 0 ≤ 0 = and_le_r n 0 in omega (arith, le)

apart : (k x s : ℕ) → s < 2 ^ k → bit_and (x * 2 ^ k) s ≡ 0
apart k x s lt =
    let block = and_block k x 0 0 s (pow_pos k) lt in
    let left : x * 2 ^ k + 0 ≡ x * 2 ^ k = omega arith in
    let right : 0 * 2 ^ k + s ≡ s = omega arith in
    let high = none_of x in
    let low : bit_and 0 s ≡ 0 = and_comm 0 s ∙ none_of s in
    let whole : bit_and (x * 2 ^ k) s ≡ bit_and x 0 * 2 ^ k + bit_and 0 s = rw (left, right) at block in
    whole ∙ rw (high, low) (omega arith)

pow_up : (i j : ℕ) → i ≤ j → 2 ^ i ≤ 2 ^ j
pow_up i j le = pow_mono le

-- one less than a number of units is less than that number
less_times : (n u : ℕ) → 0 < n → 0 < u → (n - 1) * u < u * n
less_times zero u there unit = absurd (omega (arith, there))
less_times (suc n) u there unit =
    let one : suc n - 1 ≡ n = omega arith in
    let more : u * suc n ≡ u * n + u = omega arith in
    let swap : n * u ≡ u * n = mul_comm n u in
    rw (one, more, swap) (omega (arith, unit))

-- ---- fields in a row

-- bits of its own from one bit on, up to another
pub record Own (low end : ℕ) (f : FeatureField) : Type 0 where
  pub count : ℕ
  pub mask : f.mask ≡ (2 ^ count - 1) * 2 ^ low
  pub is_end : end ≡ low + count
  pub within : end < 31

abbrev AreFrom : ℕ → List KeptField → Type 0
AreFrom next [] = Unit {0}
AreFrom next (k ∷ ks) = (end : ℕ) × (next ≤ end) × (uses_global_bit k.request ≡ false → Own next end k.field) × AreFrom end ks

some_own : (next count value : ℕ) → next + count < 31 → Own next (next + count) (own_field next count value)
some_own next count value lt = record { count = count; mask = refl; is_end = refl; within = lt }

from_cases : (off fits : Bool) (glob : Bool) (next count value : ℕ) (m : MergedRequest) (ms : List MergedRequest)
    → uses_global_bit m ≡ glob → nat_lt (next + count) 31 ≡ fits
    → AreFrom next (kept_from next ms) → AreFrom (next + count) (kept_from (next + count) ms)
    → AreFrom next (kept_field m (if off then None else if glob then Some global_field else if fits then Some (own_field next count value) else None)
    ++ kept_from (if off then next else if glob then next else if fits then next + count else next) ms)
from_cases true fits glob next count value m ms g lt here after = here
from_cases false fits true next count value m ms g lt here after = (next, omega arith, (λ no. cc), here)
from_cases false true false next count value m ms g lt here after =
    let own = λ (no : uses_global_bit m ≡ false). some_own next count value (below_is (next + count) 31 lt) in
    (next + count, omega arith, own, after)
from_cases false false false next count value m ms g lt here after = here

kept_are_from : (next : ℕ) (ms : List MergedRequest) → AreFrom next (kept_from next ms)
kept_are_from next [] = tt
kept_are_from next (m ∷ ms) =
    from_cases (m.max_value == 0) (nat_lt (next + bits_needed m.max_value) 31) (uses_global_bit m) next (bits_needed m.max_value) m.default_value m ms refl refl
    (kept_are_from next ms) (kept_are_from (next + bits_needed m.max_value) ms)

-- the field at an index begins at a bit that is not before the first
pub record Stands (next : ℕ) (f : FeatureField) : Type 0 where
  pub low : ℕ
  pub end : ℕ
  pub after : next ≤ low
  pub own : Own low end f

some_same : (a b : KeptField) → Some a ≡ Some b → a ≡ b
some_same a b h = cc

stands_lower : (low next : ℕ) (f : FeatureField) → low ≤ next → Stands next f → Stands low f
stands_lower low next f le s = record { low = s.low; end = s.end; after = omega (arith, le, s.after); own = s.own }

stands : (next : ℕ) (ks : List KeptField) (i : ℕ) (k : KeptField) → AreFrom next ks → slice_get ks i ≡ Some k → uses_global_bit k.request ≡ false → Stands next k.field
stands next [] i k h at own = cc
stands next (first ∷ ks) zero k h at own =
    let same : first ≡ k = some_same first k at in
    let o : uses_global_bit first.request ≡ false = rw same own in
    let f : Own next h.0 first.field = h.2 o in
    subst (λ (q : KeptField). Stands next q.field) same (record { low = next; end = h.0; after = omega arith; own = f })
stands next (first ∷ ks) (suc i) k h at own = stands_lower next h.0 k.field h.1 (stands h.0 ks i k h.3 at own)

-- ---- masks

below_end : (low end : ℕ) (f : FeatureField) → Own low end f → f.mask < 2 ^ end
below_end low end f o =
    let there : 0 < 2 ^ o.count = pow_pos o.count in
    let unit : 0 < 2 ^ low = pow_pos low in
    let sum : 2 ^ end ≡ 2 ^ low * 2 ^ o.count = ap (λ n. 2 ^ n) o.is_end ∙ pow-add 2 low o.count in
    let mask : f.mask ≡ (2 ^ o.count - 1) * 2 ^ low = o.mask in
    rw (mask, sum) (less_times (2 ^ o.count) (2 ^ low) there unit)

two_apart : (next : ℕ) (ks : List KeptField) (i j : ℕ) (a b : KeptField) → AreFrom next ks → i < j → slice_get ks i ≡ Some a → slice_get ks j ≡ Some b
    → uses_global_bit a.request ≡ false → uses_global_bit b.request ≡ false → bit_and a.field.mask b.field.mask ≡ 0
two_apart next [] i j a b h lt at bt oa ob = cc
two_apart next (first ∷ ks) i zero a b h lt at bt oa ob = absurd (omega (arith, lt))
two_apart next (first ∷ ks) zero (suc j) a b h lt at bt oa ob =
    let same : first ≡ a = some_same first a at in
    let o : uses_global_bit first.request ≡ false = rw same oa in
    let f : Own next h.0 first.field = h.2 o in
    let later : Stands h.0 b.field = stands h.0 ks j b h.3 bt ob in
    let below : first.field.mask < 2 ^ h.0 = below_end next h.0 first.field f in
    let up : 2 ^ h.0 ≤ 2 ^ later.low = pow_up h.0 later.low later.after in
    let small : first.field.mask < 2 ^ later.low = omega (arith, below, up) in
    let none = apart later.low (2 ^ later.own.count - 1) first.field.mask small in
    let mask : b.field.mask ≡ (2 ^ later.own.count - 1) * 2 ^ later.low = later.own.mask in
    subst (λ (q : KeptField). bit_and q.field.mask b.field.mask ≡ 0) same (and_comm first.field.mask b.field.mask ∙ rw mask none)
two_apart next (first ∷ ks) (suc i) (suc j) a b h lt at bt oa ob = two_apart h.0 ks i j a b h.3 (omega (arith, lt)) at bt oa ob

pub own_bits_are_apart : (requests : List MergedRequest) (i j : ℕ) (a b : KeptField) → RisesFrom (λ m. m.tag.0) 0 requests
    → i < j → slice_get (kept_fields requests) i ≡ Some a → slice_get (kept_fields requests) j ≡ Some b
    → uses_global_bit a.request ≡ false → uses_global_bit b.request ≡ false → bit_and a.field.mask b.field.mask ≡ 0
own_bits_are_apart requests i j a b r lt at bt oa ob =
    let all = kept_threaded requests r in
    two_apart first_feature_bit (kept_from first_feature_bit requests) i j a b (kept_are_from first_feature_bit requests) lt
    (ap (λ ks. slice_get ks i) all ∙ at) (ap (λ ks. slice_get ks j) all ∙ bt) oa ob

pub own_bits_are_free : (requests : List MergedRequest) (i : ℕ) (k : KeptField) → RisesFrom (λ m. m.tag.0) 0 requests
    → slice_get (kept_fields requests) i ≡ Some k → uses_global_bit k.request ≡ false
    → (bit_and k.field.mask 7 ≡ 0) × (bit_and k.field.mask global_bit ≡ 0)
own_bits_are_free requests i k r at own =
    let all = kept_threaded requests r in
    let s : Stands 4 k.field = stands 4 (kept_from 4 requests) i k (kept_are_from 4 requests) (ap (λ ks. slice_get ks i) all ∙ at) own in
    let low : 4 ≤ s.low = s.after in
    let mask : k.field.mask ≡ (2 ^ s.own.count - 1) * 2 ^ s.low = s.own.mask in
    let up : 2 ^ 4 ≤ 2 ^ s.low = pow_up 4 s.low low in
    let flags = apart s.low (2 ^ s.own.count - 1) 7 (omega (arith, up)) in
    let below : k.field.mask < 2 ^ s.end = below_end s.low s.end k.field s.own in
    let within : s.end < 31 = s.own.within in
    let high : 2 ^ s.end ≤ 2 ^ 31 = pow_up s.end 31 (omega (arith, within)) in
    let global = apart 31 1 k.field.mask (omega (arith, below, high)) in
    (rw mask flags, and_comm k.field.mask global_bit ∙ global)
