-- Slices join to the whole text, and part its characters as the parts do.
use Rattle.std.proofs.Common.{ℕ, ◌≡◌, ◌≤◌, ◌<◌, ◌==◌, ◌⊎◌, inl, inr, Bool, true, false, nat_lt, nat_le, if◌then◌else◌, List, [], ◌∷◌, ◌++◌, length, drop, arith, refl, ap, subst, sym, ◌∙◌}
use Rattle.std.specs.Prelude.{fold, slice_range}
use Rattle.std.proofs.lemmas.Bool.Decides.{nat_tests}
use Rattle.std.proofs.lemmas.Grind.{common_steps}
use Rattle.std.proofs.lemmas.List.Folds.{drop_split}
use Rattle.std.proofs.Math.Seq.{drop-length}
use Rattle.buffer_glyphs.specs.Parts.{after_part_events}
use Rattle.buffer_glyphs.specs.Order.{AllFrom, IsChain, IsLeast}
use Rattle.buffer_glyphs.specs.Lemmas.Numbers.{Has, has_here, has_more, has_cases}
use Rattle.buffer_parts.specs.CharacterParts.{part_after, IsGreatestUpTo}
use Rattle.buffer_parts.specs.Slices.{with_border, borders, first_or, intervals, slices, AreJoined, text_of_slices, IsIn, ShareSlice}
use Rattle.buffer_parts.specs.Laws.{SlicesJoin, SlicesAreText, SlicesShareParts, SlicesAreNoCoarser}
use Rattle.buffer_parts.specs.Lemmas.CharacterParts.{slices_are_parts, parts_are_united}

-- ---- borders

abbrev pub IsStrict : List ℕ → Type 0
IsStrict ns = IsChain (λ m n. m < n) ns

abbrev AllAbove : ℕ → List ℕ → Type 0
AllAbove m ns = AllFrom (λ j k. j < k) m ns

above_has : (m n : ℕ) (ns : List ℕ) → AllAbove m ns → Has ns n → m < n
above_has m n [] a h = cc
above_has m n (k ∷ ks) a h = elim (has_cases k n ks h) [ inl e ↦ subst (λ (j : ℕ). m < j) e a.0 | inr later ↦ above_has m n ks a.1 later ]

above_less : (l m : ℕ) (ns : List ℕ) → l < m → AllAbove m ns → AllAbove l ns
above_less l m [] lt a = tt
above_less l m (n ∷ ns) lt a = let here = a.0 in (omega (arith, here, lt), above_less l m ns lt a.1)

above_border : (l n : ℕ) (ms : List ℕ) → l < n → AllAbove l ms → AllAbove l (with_border ms n)
above_border l n [] lt a = (lt, tt)
above_border l n (m ∷ ms) lt a = by_tests (n == m) (nat_lt n m) (above_border l n ms lt a.1)
  where
    by_tests : (s t : Bool) → AllAbove l (with_border ms n) → AllAbove l (if s then m ∷ ms else if t then n ∷ m ∷ ms else m ∷ with_border ms n)
    by_tests true t later = a
    by_tests false true later = (lt, a)
    by_tests false false later = (a.0, later)

border_rises : (n : ℕ) (ms : List ℕ) → IsStrict ms → IsStrict (with_border ms n)
border_rises n [] c = (tt, tt)
border_rises n (m ∷ ms) c = by_tests (n == m) (nat_lt n m) refl refl (border_rises n ms c.1)
  where
    by_tests : (s t : Bool) → (n == m) ≡ s → nat_lt n m ≡ t → IsStrict (with_border ms n) → IsStrict (if s then m ∷ ms else if t then n ∷ m ∷ ms else m ∷ with_border ms n)
    by_tests true t e f later = c
    by_tests false true e f later = let less : n < m = grind (arith, nat_tests, f) in ((less, above_less n m ms less c.0), c)
    by_tests false false e f later = let more : m < n = grind (arith, nat_tests, common_steps, e, f) in (above_border m n ms more c.0, later)

border_has : (k n : ℕ) (ms : List ℕ) → Has (with_border ms n) k → (k ≡ n) ⊎ Has ms k
border_has k n [] h = elim (has_cases n k [] h) [ inl e ↦ inl (sym e) | inr none ↦ cc ]
border_has k n (m ∷ ms) h = by_tests (n == m) (nat_lt n m) (border_has k n ms) h
  where
    by_tests : (s t : Bool) → (Has (with_border ms n) k → (k ≡ n) ⊎ Has ms k) → Has (if s then m ∷ ms else if t then n ∷ m ∷ ms else m ∷ with_border ms n) k → (k ≡ n) ⊎ Has (m ∷ ms) k
    by_tests true t later g = inr g
    by_tests false true later g = elim (has_cases n k (m ∷ ms) g) [ inl e ↦ inl (sym e) | inr old ↦ inr old ]
    by_tests false false later g = elim (has_cases m k (with_border ms n) g) [
      | inl e ↦ let P : ℕ → Type 0 = λ j. Has (m ∷ ms) j in inr (subst P e (has_here m ms))
      | inr rest ↦ elim (later rest) [ inl new ↦ inl new | inr old ↦ inr (has_more m k ms old) ]
    ]

has_border : (k n : ℕ) (ms : List ℕ) → (k ≡ n) ⊎ Has ms k → Has (with_border ms n) k
has_border k n [] h = elim h [ inl e ↦ let P : ℕ → Type 0 = λ j. Has (n ∷ []) j in subst P (sym e) (has_here n []) | inr none ↦ cc ]
has_border k n (m ∷ ms) h = by_tests (n == m) (nat_lt n m) refl (has_border k n ms)
  where
    by_tests : (s t : Bool) → (n == m) ≡ s → ((k ≡ n) ⊎ Has ms k → Has (with_border ms n) k) → Has (if s then m ∷ ms else if t then n ∷ m ∷ ms else m ∷ with_border ms n) k
    by_tests true t e later = elim h [
      | inl new ↦ let same : n ≡ m = grind (arith, common_steps, e) in let P : ℕ → Type 0 = λ j. Has (m ∷ ms) j in subst P (sym same ∙ sym new) (has_here m ms)
      | inr old ↦ old
    ]
    by_tests false true e later = elim h [
      | inl new ↦ let P : ℕ → Type 0 = λ j. Has (n ∷ m ∷ ms) j in subst P (sym new) (has_here n (m ∷ ms))
      | inr old ↦ has_more n k (m ∷ ms) old
    ]
    by_tests false false e later = elim h [
      | inl new ↦ has_more m k (with_border ms n) (later (inl new))
      | inr old ↦ elim (has_cases m k ms old) [
        | inl first ↦ let P : ℕ → Type 0 = λ j. Has (m ∷ with_border ms n) j in subst P first (has_here m (with_border ms n))
        | inr rest ↦ has_more m k (with_border ms n) (later (inr rest))
      ]
    ]

folded_rises : (ns ms : List ℕ) → IsStrict ms → IsStrict (fold with_border ms ns)
folded_rises [] ms c = c
folded_rises (n ∷ ns) ms c = folded_rises ns (with_border ms n) (border_rises n ms c)

folded_has : (k : ℕ) (ns ms : List ℕ) → Has (fold with_border ms ns) k → Has ms k ⊎ Has ns k
folded_has k [] ms h = inl h
folded_has k (n ∷ ns) ms h = elim (folded_has k ns (with_border ms n) h) [
  | inl there ↦ elim (border_has k n ms there) [ inl e ↦ let P : ℕ → Type 0 = λ j. Has (n ∷ ns) j in inr (subst P (sym e) (has_here n ns)) | inr old ↦ inl old ]
  | inr later ↦ inr (has_more n k ns later)
]

has_folded : (k : ℕ) (ns ms : List ℕ) → Has ms k ⊎ Has ns k → Has (fold with_border ms ns) k
has_folded k [] ms h = elim h [ inl there ↦ there | inr none ↦ cc ]
has_folded k (n ∷ ns) ms h = elim h [
  | inl there ↦ has_folded k ns (with_border ms n) (inl (has_border k n ms (inr there)))
  | inr new ↦ elim (has_cases n k ns new) [
    | inl e ↦ has_folded k ns (with_border ms n) (inl (has_border k n ms (inl (sym e))))
    | inr later ↦ has_folded k ns (with_border ms n) (inr later)
  ]
]

pub borders_rise : (ns : List ℕ) → IsStrict (borders ns)
borders_rise ns = folded_rises ns [] tt

pub borders_have : (k : ℕ) (ns : List ℕ) → Has (borders ns) k → Has ns k
borders_have k ns h = elim (folded_has k ns [] h) [ inl none ↦ cc | inr there ↦ there ]

pub have_borders : (k : ℕ) (ns : List ℕ) → Has ns k → Has (borders ns) k
have_borders k ns h = has_folded k ns [] (inr h)

-- ---- the slices join

intervals_join : (b end : ℕ) (bs : List ℕ) → IsStrict (b ∷ bs) → ((n : ℕ) → Has (b ∷ bs) n → n < end) → AreJoined b end (intervals (b ∷ bs) end)
intervals_join b end [] c below = (refl, below b (has_here b []), refl)
intervals_join b end (n ∷ ns) c below = (refl, c.0.0, intervals_join n end ns c.1 (λ k h. below k (has_more b k (n ∷ ns) h)))

first_least : (b m : ℕ) (bs : List ℕ) → IsStrict (b ∷ bs) → IsLeast m (b ∷ bs) → b ≡ m
first_least b m bs c l = elim (has_cases b m bs l.among) [
  | inl e ↦ e
  | inr later ↦ let less = above_has b m bs c.0 later in let low = l.below b (has_here b bs) in absurd (omega (arith, less, low))
]

joined_from : (m end : ℕ) (bs : List ℕ) → IsStrict bs → IsLeast m bs → ((n : ℕ) → Has bs n → n < end) → AreJoined m end (intervals bs end)
joined_from m end [] c l below = let none = l.among in cc
joined_from m end (b ∷ bs) c l below = subst (λ (k : ℕ). AreJoined k end (intervals (b ∷ bs) end)) (first_least b m bs c l) (intervals_join b end bs c below)

pub slices_join : SlicesJoin
slices_join ns end l below =
    joined_from 0 end (borders ns) (borders_rise ns)
    (record { among = have_borders 0 ns l.among; below = λ n h. l.below n (borders_have n ns h) })
    (λ n h. below n (borders_have n ns h))

text_from : (from : ℕ) (text : List ℕ) (ss : List (ℕ × ℕ)) → AreJoined from (length text) ss → text_of_slices text ss ≡ drop from text
text_from from text [] j = sym (ap (λ k. drop k text) j ∙ drop-length text)
text_from from text (s ∷ ss) j =
    let le : s.0 ≤ s.1 = omega (arith, j.1) in
    ap (λ xs. slice_range text s.0 s.1 ++ xs) (text_from s.1 text ss j.2) ∙ sym (drop_split text s.0 s.1 le) ∙ ap (λ k. drop k text) j.0

pub slices_are_text : SlicesAreText
slices_are_text ns text l below = text_from 0 text (slices ns (length text)) (slices_join ns (length text) l below)

-- ---- an index is in the slice of the greatest border up to it

past_first : (b j m end : ℕ) (bs : List ℕ) → IsStrict (b ∷ bs) → m < first_or end bs → Has bs j → m < j
past_first b j m end [] c lt h = cc
past_first b j m end (n ∷ ns) c lt h = elim (has_cases n j ns h) [
  | inl e ↦ omega (arith, e, lt)
  | inr later ↦ let less = above_has n j ns c.1.0 later in omega (arith, less, lt)
]

in_first : (b m end : ℕ) (bs : List ℕ) → IsStrict (b ∷ bs) → IsIn (b, first_or end bs) m → IsGreatestUpTo b m (b ∷ bs)
in_first b m end bs c i = record {
  among = has_here b bs;
  low = i.0;
  high = λ j h le. elim (has_cases b j bs h) [ inl e ↦ omega (arith, e) | inr later ↦ let less = past_first b j m end bs c i.1 later in absurd (omega (arith, less, le)) ];
}

in_later : (b k m : ℕ) (bs : List ℕ) → IsStrict (b ∷ bs) → IsGreatestUpTo k m bs → IsGreatestUpTo k m (b ∷ bs)
in_later b k m bs c g = record {
  among = has_more b k bs g.among;
  low = g.low;
  high = λ j h le. elim (has_cases b j bs h) [ inl e ↦ let less = above_has b k bs c.0 g.among in omega (arith, e, less) | inr later ↦ g.high j later le ];
}

shared_greatest : (end m n : ℕ) (bs : List ℕ) → IsStrict bs → ShareSlice (intervals bs end) m n → (k : ℕ) × IsGreatestUpTo k m bs × IsGreatestUpTo k n bs
shared_greatest end m n [] c h = absurd h
shared_greatest end m n (b ∷ bs) c h = elim h [
  | inl here ↦ (b, in_first b m end bs c here.0, in_first b n end bs c here.1)
  | inr later ↦ let rest = shared_greatest end m n bs c.1 later in (rest.0, in_later b rest.0 m bs c rest.1, in_later b rest.0 n bs c rest.2)
]

before_next : (b m end : ℕ) (bs : List ℕ) → IsStrict (b ∷ bs) → IsGreatestUpTo b m (b ∷ bs) → m < end → m < first_or end bs
before_next b m end [] c g lt = lt
before_next b m end (n ∷ ns) c g lt = by_test (nat_le n m) refl
  where
    by_test : (t : Bool) → nat_le n m ≡ t → m < n
    by_test true e =
        let le : n ≤ m = grind (arith, nat_tests, e) in
        let low = g.high n (has_more b n (n ∷ ns) (has_here n ns)) le in
        let less = c.0.0 in
        absurd (omega (arith, low, less))
    by_test false e = grind (arith, nat_tests, e)

rest_greatest : (b k m : ℕ) (bs : List ℕ) → Has bs k → IsGreatestUpTo k m (b ∷ bs) → IsGreatestUpTo k m bs
rest_greatest b k m bs there g = record { among = there; low = g.low; high = λ j h le. g.high j (has_more b j bs h) le }

greatest_shared : (end m n k : ℕ) (bs : List ℕ) → IsStrict bs → m < end → n < end → IsGreatestUpTo k m bs → IsGreatestUpTo k n bs → ShareSlice (intervals bs end) m n
greatest_shared end m n k [] c p q g h = let none = g.among in cc
greatest_shared end m n k (b ∷ bs) c p q g h = elim (has_cases b k bs g.among) [
  | inl e ↦
      let gb : IsGreatestUpTo b m (b ∷ bs) = subst (λ (j : ℕ). IsGreatestUpTo j m (b ∷ bs)) (sym e) g in
      let hb : IsGreatestUpTo b n (b ∷ bs) = subst (λ (j : ℕ). IsGreatestUpTo j n (b ∷ bs)) (sym e) h in
      inl ((gb.low, before_next b m end bs c gb p), (hb.low, before_next b n end bs c hb q))
  | inr later ↦ inr (greatest_shared end m n k bs c.1 p q (rest_greatest b k m bs later g) (rest_greatest b k n bs later h))
]

-- ---- so slices are parts

one_greatest : (k l n : ℕ) (ns : List ℕ) → IsGreatestUpTo k n ns → IsGreatestUpTo l n ns → k ≡ l
one_greatest k l n ns g h = let up = h.high k g.among g.low in let down = g.high l h.among h.low in omega (arith, up, down)

of_borders : (k n : ℕ) (ns : List ℕ) → IsGreatestUpTo k n (borders ns) → IsGreatestUpTo k n ns
of_borders k n ns g = record { among = borders_have k ns g.among; low = g.low; high = λ j h le. g.high j (have_borders j ns h) le }

to_borders : (k n : ℕ) (ns : List ℕ) → IsGreatestUpTo k n ns → IsGreatestUpTo k n (borders ns)
to_borders k n ns g = record { among = have_borders k ns g.among; low = g.low; high = λ j h le. g.high j (borders_have j ns h) le }

pub slices_share_parts : SlicesShareParts
slices_share_parts es falls ns end m n o g some hm hn pm pn = (shares, shared)
  where
    at_m : IsGreatestUpTo (part_after es ns m) m (after_part_events es ns)
    at_m = slices_are_parts es falls ns m o g some hm

    at_n : IsGreatestUpTo (part_after es ns n) n (after_part_events es ns)
    at_n = slices_are_parts es falls ns n o g some hn

    shares : ShareSlice (slices (after_part_events es ns) end) m n → part_after es ns m ≡ part_after es ns n
    shares h =
        let found = shared_greatest end m n (borders (after_part_events es ns)) (borders_rise (after_part_events es ns)) h in
        one_greatest (part_after es ns m) found.0 m (after_part_events es ns) at_m (of_borders found.0 m (after_part_events es ns) found.1)
        ∙ one_greatest found.0 (part_after es ns n) n (after_part_events es ns) (of_borders found.0 n (after_part_events es ns) found.2) at_n

    shared : part_after es ns m ≡ part_after es ns n → ShareSlice (slices (after_part_events es ns) end) m n
    shared e =
        greatest_shared end m n (part_after es ns m) (borders (after_part_events es ns)) (borders_rise (after_part_events es ns)) pm pn
        (to_borders (part_after es ns m) m (after_part_events es ns) at_m)
        (to_borders (part_after es ns m) n (after_part_events es ns) (subst (λ (k : ℕ). IsGreatestUpTo k n (after_part_events es ns)) (sym e) at_n))

pub slices_are_no_coarser : SlicesAreNoCoarser
slices_are_no_coarser es falls ns end m n o g some hm hn pm pn apart h =
    elim ((parts_are_united es ns m n).0 ((slices_share_parts es falls ns end m n o g some hm hn pm pn).0 h)) [ inl same ↦ absurd (apart same) | inr united ↦ united ]
