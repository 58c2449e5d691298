-- The third round of normalizing two texts, one after the other.
use Rattle.std.proofs.Common.{ℕ, ◌≡◌, ◌≤◌, ◌<◌, ◌+◌, ◌-◌, ◌==◌, ◌&&◌, Bool, true, false, if◌then◌else◌, List, [], ◌∷◌, ◌++◌, length, map, Option, None, Some, append_assoc, arith, refl, sym, ap, subst, ◌∙◌}
use Rattle.std.specs.Prelude.{option_map}
use Rattle.std.specs.Option.{option_and_then, option_map_or}
use Rattle.std.proofs.lemmas.List.{append-nil, length-append}
use Rattle.buffer_glyphs.specs.Events.{Event, Merge, Replace}
use Rattle.buffer_glyphs.specs.Items.{Item}
use Rattle.buffer_glyphs.specs.Levels.{InOutput}
use Rattle.buffer_glyphs.specs.LigatureWords.{lig_id}
use Rattle.buffer_glyphs.specs.Rewriting.{Arrangement, beside, eventless_arrangement, shifted_event}
use Rattle.buffer_parts.specs.Counts.{count_after, count_after_event}
use Rattle.buffer_parts.specs.Breaks.Fragments.{AreGiven}
use Rattle.buffer_parts.specs.Breaks.Sides.{AreBounded}
use Rattle.buffer_parts.specs.Breaks.Lossless.{AreLossless}
use Rattle.buffer_properties.specs.Characters.{is_mark, mark_class, standing_for, with_glyph}
use Rattle.buffer_properties.specs.Composing.{becoming, composed_list, composite, composition_from, is_not_blocked, with_composition}
use Rattle.buffer_properties.specs.Normalizer.{Normalizer}
use Rattle.shape_normalize.proofs.Lemmas.Chain.{none_beside}
use Rattle.shape_laws.specs.Breaks.Rewrites.{IsWholeRewrite}
use Rattle.shape_laws.proofs.BreakLemmas.Rewrites.{replaced_count}
use Rattle.shape_normalize.proofs.Walk.{no_mark as starter_alone}
use Rattle.layout_laws.proofs.BreakLemmas.Frames.{given_both}

-- ---- apart

-- a composition after some items
then_beside : (front done between : List Item) (a : Arrangement)
    → with_composition (length (front ++ done)) (length (front ++ done) + 1 + length between) (beside (eventless_arrangement front) a) ≡ beside (eventless_arrangement front) (with_composition (length done) (length done + 1 + length between) a)
then_beside front done between a =
    let many : length (front ++ done) ≡ length front + length done = length-append front done in
    let start : length (front ++ done) ≡ length front + length done = many in
    let end : length (front ++ done) + 1 + length between + 1 ≡ length front + (length done + 1 + length between + 1) = omega (arith, many) in
    let mark : length (front ++ done) + 1 + length between ≡ length front + (length done + 1 + length between) = omega (arith, many) in
    let rest : List Event = map (shifted_event (length front)) a.events in
    let all : List Item = front ++ a.items in
    ap (λ (i : ℕ). record { items = all; events = Merge InOutput i (length (front ++ done) + 1 + length between + 1) ∷ Replace (length (front ++ done) + 1 + length between) 1 0 ∷ rest }) start
    ∙ ap (λ (i : ℕ). record { items = all; events = Merge InOutput (length front + length done) i ∷ Replace (length (front ++ done) + 1 + length between) 1 0 ∷ rest }) end
    ∙ ap (λ (i : ℕ). record { items = all; events = Merge InOutput (length front + length done) (length front + (length done + 1 + length between + 1)) ∷ Replace i 1 0 ∷ rest }) mark

after_front : (c : Normalizer) (front done : List Item) (starter : Item) (between xs : List Item) → composition_from c (front ++ done) starter between xs ≡ beside (eventless_arrangement front) (composition_from c done starter between xs)
after_front c front done starter between [] = ap eventless_arrangement (append_assoc front done (starter ∷ between))
after_front c front done starter between (x ∷ xs) =
    by_composite (composite c starter between x)
    (ap (λ ys. composition_from c ys x [] xs) (append_assoc front done (starter ∷ between)) ∙ after_front c front (done ++ starter ∷ between) x [] xs)
    (after_front c front done starter (between ++ x ∷ []) xs) (λ z. after_front c front done z between xs)
  where
    by_class : (b : Bool) → composition_from c ((front ++ done) ++ starter ∷ between) x [] xs ≡ beside (eventless_arrangement front) (composition_from c (done ++ starter ∷ between) x [] xs)
        → composition_from c (front ++ done) starter (between ++ x ∷ []) xs ≡ beside (eventless_arrangement front) (composition_from c done starter (between ++ x ∷ []) xs)
        → (if b then composition_from c ((front ++ done) ++ starter ∷ between) x [] xs else composition_from c (front ++ done) starter (between ++ x ∷ []) xs)
        ≡ beside (eventless_arrangement front) (if b then composition_from c (done ++ starter ∷ between) x [] xs else composition_from c done starter (between ++ x ∷ []) xs)
    by_class true next more = next
    by_class false next more = more

    by_composite : (o : Option Item) → composition_from c ((front ++ done) ++ starter ∷ between) x [] xs ≡ beside (eventless_arrangement front) (composition_from c (done ++ starter ∷ between) x [] xs)
        → composition_from c (front ++ done) starter (between ++ x ∷ []) xs ≡ beside (eventless_arrangement front) (composition_from c done starter (between ++ x ∷ []) xs)
        → ((z : Item) → composition_from c (front ++ done) z between xs ≡ beside (eventless_arrangement front) (composition_from c done z between xs))
        → option_map_or (λ composed. with_composition (length (front ++ done)) (length (front ++ done) + 1 + length between) (composition_from c (front ++ done) composed between xs)) o
        (if mark_class x == 0 then composition_from c ((front ++ done) ++ starter ∷ between) x [] xs else composition_from c (front ++ done) starter (between ++ x ∷ []) xs)
        ≡ beside (eventless_arrangement front) (option_map_or (λ composed. with_composition (length done) (length done + 1 + length between) (composition_from c done composed between xs)) o
        (if mark_class x == 0 then composition_from c (done ++ starter ∷ between) x [] xs else composition_from c done starter (between ++ x ∷ []) xs))
    by_composite None next more joined = by_class (mark_class x == 0) next more
    by_composite (Some z) next more joined =
        ap (with_composition (length (front ++ done)) (length (front ++ done) + 1 + length between)) (joined z) ∙ then_beside front done between (composition_from c done z between xs)

starter_next : (c : Normalizer) (done : List Item) (starter : Item) (between : List Item) (y : Item) (ys : List Item) → is_mark y ≡ false → composition_from c done starter between (y ∷ ys) ≡ composition_from c (done ++ starter ∷ between) y [] ys
starter_next c done starter between y ys e =
    ap (λ o. option_map_or (λ composed. with_composition (length done) (length done + 1 + length between) (composition_from c done composed between ys)) o (if mark_class y == 0 then composition_from c (done ++ starter ∷ between) y [] ys else composition_from c done starter (between ++ y ∷ []) ys)) (starter_alone c starter between y e)
    ∙ ap (λ b. if (if b then y.class else 0) == 0 then composition_from c (done ++ starter ∷ between) y [] ys else composition_from c done starter (between ++ y ∷ []) ys) e

from_apart : (c : Normalizer) (done : List Item) (starter : Item) (between zs : List Item) (y : Item) (ys : List Item) → is_mark y ≡ false → composition_from c done starter between (zs ++ y ∷ ys) ≡ beside (composition_from c done starter between zs) (composed_list c (y ∷ ys))
from_apart c done starter between [] y ys e =
    let front = done ++ starter ∷ between in
    starter_next c done starter between y ys e ∙ ap (λ zs. composition_from c zs y [] ys) (sym (append-nil front)) ∙ after_front c front [] y [] ys
from_apart c done starter between (z ∷ zs) y ys e =
    by_composite (composite c starter between z) (from_apart c (done ++ starter ∷ between) z [] zs y ys e) (from_apart c done starter (between ++ z ∷ []) zs y ys e) (λ w. from_apart c done w between zs y ys e)
  where
    last : Arrangement
    last = composed_list c (y ∷ ys)

    by_class : (b : Bool) → composition_from c (done ++ starter ∷ between) z [] (zs ++ y ∷ ys) ≡ beside (composition_from c (done ++ starter ∷ between) z [] zs) last
        → composition_from c done starter (between ++ z ∷ []) (zs ++ y ∷ ys) ≡ beside (composition_from c done starter (between ++ z ∷ []) zs) last
        → (if b then composition_from c (done ++ starter ∷ between) z [] (zs ++ y ∷ ys) else composition_from c done starter (between ++ z ∷ []) (zs ++ y ∷ ys))
        ≡ beside (if b then composition_from c (done ++ starter ∷ between) z [] zs else composition_from c done starter (between ++ z ∷ []) zs) last
    by_class true next more = next
    by_class false next more = more

    by_composite : (o : Option Item) → composition_from c (done ++ starter ∷ between) z [] (zs ++ y ∷ ys) ≡ beside (composition_from c (done ++ starter ∷ between) z [] zs) last
        → composition_from c done starter (between ++ z ∷ []) (zs ++ y ∷ ys) ≡ beside (composition_from c done starter (between ++ z ∷ []) zs) last
        → ((w : Item) → composition_from c done w between (zs ++ y ∷ ys) ≡ beside (composition_from c done w between zs) last)
        → option_map_or (λ composed. with_composition (length done) (length done + 1 + length between) (composition_from c done composed between (zs ++ y ∷ ys))) o
        (if mark_class z == 0 then composition_from c (done ++ starter ∷ between) z [] (zs ++ y ∷ ys) else composition_from c done starter (between ++ z ∷ []) (zs ++ y ∷ ys))
        ≡ beside (option_map_or (λ composed. with_composition (length done) (length done + 1 + length between) (composition_from c done composed between zs)) o
        (if mark_class z == 0 then composition_from c (done ++ starter ∷ between) z [] zs else composition_from c done starter (between ++ z ∷ []) zs)) last
    by_composite None next more joined = by_class (mark_class z == 0) next more
    by_composite (Some w) next more joined = ap (with_composition (length done) (length done + 1 + length between)) (joined w)

-- two texts of which the second begins with a starter are composed each by itself
pub composed_apart : (c : Normalizer) (xs : List Item) (y : Item) (ys : List Item) → is_mark y ≡ false → composed_list c (xs ++ y ∷ ys) ≡ beside (composed_list c xs) (composed_list c (y ∷ ys))
composed_apart c [] y ys e = sym (none_beside (composed_list c (y ∷ ys)))
composed_apart c (x ∷ xs) y ys e = from_apart c [] x [] xs y ys e

-- ---- rewrites

-- a composite has no ligature number
abbrev IsGivenIf : Option Item → Type 0
IsGivenIf None = Unit {0}
IsGivenIf (Some z) = lig_id z ≤ 0

composite_given : (c : Normalizer) (starter : Item) (between : List Item) (x : Item) → lig_id starter ≤ 0 → IsGivenIf (composite c starter between x)
unfolding composite
composite_given c starter between x h = by_test (is_mark x && is_not_blocked between x)
  where
    by_glyph : (u : ℕ) (o : Option ℕ) → c.glyph_of u ≡ o → IsGivenIf (becoming c starter u)
    by_glyph u None e = subst IsGivenIf (sym (ap (option_map (λ g. with_glyph g (standing_for c.tables u starter))) e)) tt
    by_glyph u (Some g) e = subst IsGivenIf (sym (ap (option_map (λ g. with_glyph g (standing_for c.tables u starter))) e)) h

    by_found : (o : Option ℕ) → IsGivenIf (option_and_then (becoming c starter) o)
    by_found None = tt
    by_found (Some u) = by_glyph u (c.glyph_of u) refl

    by_test : (b : Bool) → IsGivenIf (if b then option_and_then (becoming c starter) (c.composes starter.number x.number) else None)
    by_test true = by_found (c.composes starter.number x.number)
    by_test false = tt

then_rewrite : (n : ℕ) (done between : List Item) (a : Arrangement) → length done + 1 + length between < n → IsWholeRewrite (n - 1) a → IsWholeRewrite n (with_composition (length done) (length done + 1 + length between) a)
then_rewrite n done between a lt p =
    let mark = length done + 1 + length between in
    let left : count_after_event n (Replace mark 1 0) ≡ n - 1 = replaced_count mark 1 0 n (omega arith) (omega (arith, lt)) ∙ omega arith in
    record {
      bounded = ((omega (arith, lt), omega (arith, lt)), ((lt, omega (arith, lt)), subst (AreBounded a.events) (sym left) p.bounded));
      lossless = (tt, (tt, subst (AreLossless a.events) (sym left) p.lossless));
      counted = ap (count_after a.events) left ∙ p.counted;
      plain = p.plain;
      no_concat = ap (λ es. Merge InOutput (length done) (mark + 1) ∷ Replace mark 1 0 ∷ es) p.no_concat;
      given = p.given;
    }

from_rewrite : (c : Normalizer) (done : List Item) (starter : Item) (between xs : List Item) (n : ℕ) → n ≡ length done + 1 + length between + length xs → AreGiven 0 done → lig_id starter ≤ 0 → AreGiven 0 between → AreGiven 0 xs
    → IsWholeRewrite n (composition_from c done starter between xs)
from_rewrite c done starter between [] n e d s b k =
    let many = length-append done (starter ∷ between) in
    record { bounded = tt; lossless = tt; counted = omega (arith, many, e); plain = tt; no_concat = refl; given = given_both 0 done (starter ∷ between) d (s, b) }
from_rewrite c done starter between (x ∷ xs) n e d s b k =
    by_composite (composite c starter between x) (composite_given c starter between x s)
    (from_rewrite c (done ++ starter ∷ between) x [] xs n (let many = length-append done (starter ∷ between) in omega (arith, many, e)) (given_both 0 done (starter ∷ between) d (s, b)) k.0 tt k.1)
    (from_rewrite c done starter (between ++ x ∷ []) xs n (let many = length-append between (x ∷ []) in omega (arith, many, e)) d s (given_both 0 between (x ∷ []) b (k.0, tt)) k.1)
    (λ z h. from_rewrite c done z between xs (n - 1) (omega (arith, e)) d h b k.1)
  where
    by_class : (t : Bool) → IsWholeRewrite n (composition_from c (done ++ starter ∷ between) x [] xs) → IsWholeRewrite n (composition_from c done starter (between ++ x ∷ []) xs)
        → IsWholeRewrite n (if t then composition_from c (done ++ starter ∷ between) x [] xs else composition_from c done starter (between ++ x ∷ []) xs)
    by_class true next more = next
    by_class false next more = more

    by_composite : (o : Option Item) → IsGivenIf o → IsWholeRewrite n (composition_from c (done ++ starter ∷ between) x [] xs) → IsWholeRewrite n (composition_from c done starter (between ++ x ∷ []) xs)
        → ((z : Item) → lig_id z ≤ 0 → IsWholeRewrite (n - 1) (composition_from c done z between xs))
        → IsWholeRewrite n (option_map_or (λ composed. with_composition (length done) (length done + 1 + length between) (composition_from c done composed between xs)) o
        (if mark_class x == 0 then composition_from c (done ++ starter ∷ between) x [] xs else composition_from c done starter (between ++ x ∷ []) xs))
    by_composite None h next more joined = by_class (mark_class x == 0) next more
    by_composite (Some z) h next more joined = then_rewrite n done between (composition_from c done z between xs) (omega (arith, e)) (joined z h)

pub composed_rewrite : (c : Normalizer) (xs : List Item) → AreGiven 0 xs → IsWholeRewrite (length xs) (composed_list c xs)
composed_rewrite c [] h = record { bounded = tt; lossless = tt; counted = refl; plain = tt; no_concat = refl; given = tt }
composed_rewrite c (x ∷ xs) h = from_rewrite c [] x [] xs (length (x ∷ xs)) (omega arith) tt h.0 tt h.1

-- ---- a composition leaves its first starter

from_some : (c : Normalizer) (done : List Item) (starter : Item) (between xs : List Item) → 0 < length (composition_from c done starter between xs).items
from_some c done starter between [] = let many = length-append done (starter ∷ between) in omega (arith, many)
from_some c done starter between (x ∷ xs) = by_composite (composite c starter between x) (from_some c (done ++ starter ∷ between) x [] xs) (from_some c done starter (between ++ x ∷ []) xs) (λ z. from_some c done z between xs)
  where
    by_class : (t : Bool) → 0 < length (composition_from c (done ++ starter ∷ between) x [] xs).items → 0 < length (composition_from c done starter (between ++ x ∷ []) xs).items
        → 0 < length (if t then composition_from c (done ++ starter ∷ between) x [] xs else composition_from c done starter (between ++ x ∷ []) xs).items
    by_class true next more = next
    by_class false next more = more

    by_composite : (o : Option Item) → 0 < length (composition_from c (done ++ starter ∷ between) x [] xs).items → 0 < length (composition_from c done starter (between ++ x ∷ []) xs).items → ((z : Item) → 0 < length (composition_from c done z between xs).items)
        → 0 < length (option_map_or (λ composed. with_composition (length done) (length done + 1 + length between) (composition_from c done composed between xs)) o
        (if mark_class x == 0 then composition_from c (done ++ starter ∷ between) x [] xs else composition_from c done starter (between ++ x ∷ []) xs)).items
    by_composite None next more joined = by_class (mark_class x == 0) next more
    by_composite (Some z) next more joined = joined z

pub composed_some : (c : Normalizer) (xs : List Item) → 0 < length xs → 0 < length (composed_list c xs).items
composed_some c [] some = absurd (omega (arith, some))
composed_some c (x ∷ xs) some = from_some c [] x [] xs
