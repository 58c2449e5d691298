-- What moves of the cursor and of the budget do to the cut of a buffer.
use Rattle.std.proofs.Common.{ℕ, ◌≡◌, ◌≤◌, ◌+◌, ◌-◌, inl, inr, Bool, true, false, nat_le, nat_lt, if◌then◌else◌, List, length, take, drop, refl, sym, ap, subst, ◌∙◌, arith}
use Rattle.std.specs.Prelude.{ℤ, pos, ◌-ℤ◌}
use Rattle.std.proofs.lemmas.List.{length-map, length-append, take-map, drop-map, map-append, take-append-drop}
use Rattle.std.proofs.lemmas.Bool.Decides.{nat_tests}
use Rattle.buffer_glyphs.specs.declared.cause.ShapeCause.{ShapeCause}
use Rattle.buffer_glyphs.specs.declared.cause.ShapeCause.TheVariants.{OutOfMemory, TooLong}
use Rattle.buffer_glyphs.specs.Items.{Item, item_of, strip}
use Rattle.buffer_glyphs.specs.Origins.{origins}
use Rattle.buffer_core.specs.Sides.{Sides, all_glyphs}
use Rattle.buffer_core.specs.Moving.{after_move_to, fits_moved}
use Rattle.buffer_core.specs.Settings.{with_max_ops}
use Rattle.buffer_stages.specs.Actions.{whole}
use Rattle.buffer_stages.specs.Buffers.{cut_of, are_glyphs}
use Rattle.buffer_stages.specs.Performing.{cut_with}
use Rattle.layout_contexts.proofs.Lemmas.Lengths.{whole_length}
use Rattle.layout_contexts.specs.Nested.{cut_at, holds}
use Rattle.layout_contexts.specs.Records.{after_spending, IsMoved, IsMoveRefusal, IsSpent}

cut_moved : (p r : ℕ) (s : Sides) → cut_with r (after_move_to p s) ≡ cut_at p (cut_with r s)
cut_moved p r s =
    let all : strip (all_glyphs s) ≡ whole (cut_of s) = map-append item_of s.behind s.ahead in
    let front : strip (take p (all_glyphs s)) ≡ take p (whole (cut_of s)) = sym (take-map item_of p (all_glyphs s)) ∙ ap (take p) all in
    let rest : strip (drop p (all_glyphs s)) ≡ drop p (whole (cut_of s)) = sym (drop-map item_of p (all_glyphs s)) ∙ ap (drop p) all in
    ap (λ (xs : List Item). record (cut_with r s) { front = xs; rest = strip (drop p (all_glyphs s)) }) front ∙ ap (λ (xs : List Item). record (cut_with r s) { front = take p (whole (cut_of s)); rest = xs }) rest

pub went_there : (p : ℕ) (s t : Sides) → t ≡ after_move_to p s → IsMoved p s t
went_there p s t e =
    let P : Sides → Type 0 = λ u. IsMoved p s u in
    let there : P (after_move_to p s) = λ r. record {
      cut_is = cut_moved p r s;
      happened = ap origins (take-append-drop p (all_glyphs s));
      still = refl;
      numbers = λ h. ap (λ gs. are_glyphs (strip gs)) (take-append-drop p (all_glyphs s)) ∙ h;
    } in
    subst P (sym e) there

-- with an output open, where no call refused before
held_open : (p : ℕ) (s : Sides) → s.is_open ≡ true → s.has_refused ≡ false → fits_moved p s ≡ holds p (cut_of s)
held_open p s opened kept =
    let front : length (strip s.behind) ≡ length s.behind = length-map s.behind item_of in
    let rest : length (strip s.ahead) ≡ length s.ahead = length-map s.ahead item_of in
    rw (opened, kept, front, rest) refl

is_within : (b : Bool) (i j m : ℕ) → (b ≡ true → i ≤ m) → (b ≡ false → j ≤ m) → (if b then nat_le i m else nat_le j m) ≡ true
is_within true i j m first second = let le = first refl in grind (arith, nat_tests, le)
is_within false i j m first second = let le = second refl in grind (arith, nat_tests, le)

-- a list without an output is within the limit, wherever it is cut
held_closed : (p : ℕ) (s : Sides) → p ≤ length (whole (cut_of s)) → length (all_glyphs s) ≤ s.max_len → holds p (cut_of s) ≡ true
held_closed p s le within =
    let front : length (strip s.behind) ≡ length s.behind = length-map s.behind item_of in
    let rest : length (strip s.ahead) ≡ length s.ahead = length-map s.ahead item_of in
    let both = length-append s.behind s.ahead in
    let long = whole_length s in
    is_within (nat_lt (length (strip s.behind)) p) p (length (strip s.ahead) + (length (strip s.behind) - p)) s.max_len (λ e. omega (arith, le, long, both, within)) (λ e. omega (arith, front, rest, both, within))

pub held_is : (p n : ℕ) (s : Sides) → p ≤ length (whole (cut_of s)) → s.has_refused ≡ false → (s.is_open ≡ false → n ≡ length (all_glyphs s)) → (s.is_open ≡ false → n ≤ s.max_len) → fits_moved p s ≡ holds p (cut_of s)
held_is p n s le kept count within = by s.is_open refl
  where
    by : (b : Bool) → s.is_open ≡ b → fits_moved p s ≡ holds p (cut_of s)
    by true opened = held_open p s opened kept
    by false closed =
        let all = count closed in
        let most = within closed in
        rw closed (sym (held_closed p s le (omega (arith, all, most))))

pub not_held : (p : ℕ) (s : Sides) (e : ShapeCause) → holds p (cut_of s) ≡ false → e ≡ TooLong → IsMoveRefusal p (cut_of s) e
not_held p s e off is = inr (is, off)

pub short_memory : (p : ℕ) (s : Sides) (e : ShapeCause) → e ≡ OutOfMemory → IsMoveRefusal p (cut_of s) e
short_memory p s e is = inl is

pub spent_left : (s : Sides) (left : ℤ) (new : Sides) → left ≡ s.max_ops → new ≡ with_max_ops (left -ℤ pos 1) s → IsSpent s new
spent_left s left new e is =
    let P : Sides → Type 0 = λ t. IsSpent s t in
    let Q : ℤ → Type 0 = λ z. IsSpent s (with_max_ops (z -ℤ pos 1) s) in
    let there : IsSpent s (with_max_ops (s.max_ops -ℤ pos 1) s) = λ r. record { cut_is = refl; happened = refl; still = refl; numbers = λ h. h } in
    subst P (sym is) (subst Q (sym e) there)

pub spent_there : (s : Sides) (left : ℤ) (new : Sides) → left ≡ s.max_ops → new ≡ with_max_ops (left -ℤ pos 1) s → new ≡ after_spending s
spent_there s left new e is = is ∙ ap (λ (z : ℤ). with_max_ops (z -ℤ pos 1) s) e
