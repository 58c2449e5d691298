-- Normalizing a text that is broken into two.
use Rattle.std.proofs.Common.{ℕ, ◌≡◌, ◌<◌, ◌&&◌, inl, inr, nat_le, Bool, true, false, if◌then◌else◌, List, [], ◌∷◌, ◌++◌, length, map, Ok, Err, arith, refl, sym, ap, subst, ◌∙◌}
use Rattle.std.proofs.lemmas.List.{length-append}
use Rattle.buffer_glyphs.specs.declared.cause.ShapeCause.TheVariants.{TooLong}
use Rattle.buffer_glyphs.specs.Items.{Item}
use Rattle.buffer_glyphs.specs.Origins.{Origin}
use Rattle.buffer_glyphs.specs.Lemmas.Origins.{origins_after_both}
use Rattle.buffer_glyphs.specs.Rewriting.{Arrangement, beside, eventless_arrangement, shifted_event}
use Rattle.buffer_parts.specs.Counts.{count_after}
use Rattle.buffer_parts.specs.Lemmas.Orderly.{plain_is_orderly}
use Rattle.buffer_core.specs.Readings.{Read, Reading, BufferState, state_after}
use Rattle.buffer_core.specs.Sides.{zero_positions}
use Rattle.buffer_stages.specs.Appending.{with_arranged}
use Rattle.buffer_parts.specs.Lemmas.Stages.{same_read}
use Rattle.buffer_parts.specs.Breaks.Unsafe.{IsUnsafeAt}
use Rattle.buffer_parts.specs.Breaks.Concat.{without_concats}
use Rattle.buffer_parts.specs.Breaks.Sides.{AreBounded}
use Rattle.buffer_parts.specs.Breaks.Lossless.{AreLossless}
use Rattle.buffer_parts.specs.Breaks.Fragments.{AreFragments, AreGiven}
use Rattle.buffer_parts.specs.Breaks.Divisible.{IsBreakable, StaysDivided}
use Rattle.buffer_parts.specs.Breaks.Beside.{IsReadAlone, events_in_line}
use Rattle.buffer_parts.proofs.BreakLemmas.Beside.{beside_stays_divided}
use Rattle.buffer_parts.proofs.BreakLemmas.Events.{unsafe_stays}
use Rattle.buffer_properties.specs.Characters.{is_mark}
use Rattle.buffer_properties.specs.Expanding.{expanded_list}
use Rattle.buffer_properties.specs.NormalizedList.{arranged_marks, composition_if, has_later_mark, normalized_items, ordering_if}
use Rattle.buffer_properties.specs.Normalizer.{Normalizer, is_composing}
use Rattle.buffer_properties.specs.Ordering.{joiners_shown, ordered_list, with_joiners_shown}
use Rattle.shape_normalize.specs.Rounds.{normalization}
use Rattle.shape_laws.specs.Breaks.Normalizing.{BeginsAlone, EndsUnjoined, is_joiner}
use Rattle.shape_laws.specs.Breaks.Rewrites.{IsWholeRewrite, RewritesRuns}
use Rattle.shape_laws.proofs.BreakLemmas.Begun.{plainly_breakable}
use Rattle.shape_laws.proofs.BreakLemmas.Composed.{composed_apart, composed_rewrite, composed_some}
use Rattle.shape_laws.proofs.BreakLemmas.Expanded.{expanded_apart, expanded_rewrite, expanded_some}
use Rattle.shape_laws.proofs.BreakLemmas.Rewrites.{eventless_rewrite, whole_rewrite}
use Rattle.shape_laws.proofs.BreakLemmas.Sorted.{ordered_apart, ordered_first, ordered_many, ordered_rewrite, shown_apart, shown_given}
use Rattle.shape_laws.specs.Breaks.Texts.{AreUnnumbered}
use Rattle.shape_laws.specs.Breaks.Laws.{NormalizingDivides}
use Rattle.shape_laws.proofs.BreakLemmas.Unnumbered.{given_early, given_late, plain_items, plainly_beside}
use Rattle.layout_laws.proofs.BreakLemmas.Passes.{zero_both as zeros_both, zero_long as zeros_many}
use Rattle.layout_laws.proofs.BreakLemmas.Frames.{given_both}
use Rattle.shape_parts.proofs.Normalized.{shown_many}

-- ---- one round

-- the state of a text that a rule arranges
abbrev pub arranged_state : (List Item → Arrangement) → BufferState → BufferState
arranged_state f s = state_after (with_arranged (f s.view.items) s.view) s

-- a rule arranges two texts, one after the other, each by itself, and leaves items of both
pub record DividesRule (f : List Item → Arrangement) (xs ys : List Item) : Type 0 where
  pub apart : f (xs ++ ys) ≡ beside (f xs) (f ys)
  pub whole : AreGiven 0 (xs ++ ys) → IsWholeRewrite (length (xs ++ ys)) (f (xs ++ ys))
  pub first : AreGiven 0 xs → IsWholeRewrite (length xs) (f xs)
  pub second : AreGiven 0 ys → IsWholeRewrite (length ys) (f ys)
  pub first_some : 0 < length (f xs).items
  pub second_some : 0 < length (f ys).items

pub rule_breakable : (f : List Item → Arrangement) (s : BufferState) → IsWholeRewrite (length s.view.items) (f s.view.items) → IsBreakable s → IsBreakable (arranged_state f s)
rule_breakable f s p b = plainly_breakable s (with_arranged (f s.view.items) s.view) p.plain (ap (λ (n : ℕ). count_after (f s.view.items).events n) b.whole.origins ∙ p.counted) (zeros_many (length (f s.view.items).items)) b

pub rule_keeps : (f : List Item → Arrangement) (c : ℕ) (s : BufferState) → IsWholeRewrite (length s.view.items) (f s.view.items) → IsBreakable s → IsUnsafeAt c s.origins → IsUnsafeAt c (arranged_state f s).origins
rule_keeps f c s p b u =
    let es = (f s.view.items).events in
    unsafe_stays s.asks s.level es s.origins c b.breaks (plain_is_orderly s.asks s.level es s.origins p.plain) (subst (AreLossless es) (sym b.whole.origins) p.lossless) u

rule_alone : (f : List Item → Arrangement) (s : BufferState) → IsWholeRewrite (length s.view.items) (f s.view.items) → length s.origins ≡ length s.view.items → 0 < length (f s.view.items).items → IsReadAlone s.level (length s.origins) (with_arranged (f s.view.items) s.view)
rule_alone f s p count some = record {
  bounded = subst (λ (n : ℕ). AreBounded (without_concats (f s.view.items).events) n) (sym count) (subst (λ es. AreBounded es (length s.view.items)) (sym p.no_concat) p.bounded);
  positions = zeros_many (length (f s.view.items).items);
  counted = ap (λ (n : ℕ). count_after (f s.view.items).events n) count ∙ p.counted;
  some = some;
}

-- the events of both
rule_events : (a b d : Arrangement) (m : ℕ) → d ≡ beside a b → IsWholeRewrite m a → without_concats d.events ≡ d.events → without_concats b.events ≡ b.events → without_concats d.events ≡ events_in_line false (without_concats a.events) (without_concats b.events) m
rule_events a b d m e p q r =
    let many : count_after (without_concats a.events) m ≡ length a.items = ap (λ es. count_after es m) p.no_concat ∙ p.counted in
    q ∙ ap (λ (k : Arrangement). k.events) e
    ∙ ap (λ es. es ++ map (shifted_event (length a.items)) b.events) (sym p.no_concat)
    ∙ ap (λ (k : ℕ). without_concats a.events ++ map (shifted_event k) b.events) (sym many)
    ∙ ap (λ fs. without_concats a.events ++ map (shifted_event (count_after (without_concats a.events) m)) fs) (sym r)

-- what is left of a text by a round, and of its fragments
pub record AreArranged (f : List Item → Arrangement) (c : ℕ) (whole earlier later : BufferState) : Type 0 where
  pub breakable : IsBreakable (arranged_state f whole)
  pub divided : StaysDivided false c (arranged_state f whole) (arranged_state f earlier) (arranged_state f later)

pub rule_divides : (f : List Item → Arrangement) (c : ℕ) (whole earlier later : BufferState) → IsBreakable whole → AreFragments false c whole earlier later → AreUnnumbered whole.view earlier.view later.view → DividesRule f earlier.view.items later.view.items → AreArranged f c whole earlier later
rule_divides f c whole earlier later ready j un p =
    let xs = earlier.view.items in
    let ys = later.view.items in
    let plain = plain_items c whole earlier later j un in
    let early_given = given_early c whole earlier later j un in
    let late_given = given_late c whole earlier later j un in
    let all : IsWholeRewrite (length whole.view.items) (f whole.view.items) = subst (λ zs. IsWholeRewrite (length zs) (f zs)) (sym plain) (p.whole (given_both 0 xs ys early_given late_given)) in
    let first = p.first early_given in
    let second = p.second late_given in
    let is : f whole.view.items ≡ beside (f xs) (f ys) = ap f plain ∙ p.apart in
    let early_many = j.early_whole.origins in
    let items : (f whole.view.items).items ≡ (f xs).items ++ (f ys).items = ap (λ (k : Arrangement). k.items) is in
    let es = (f whole.view.items).events in
    record {
      breakable = rule_breakable f whole all ready;
      divided = beside_stays_divided false false c whole earlier later (with_arranged (f whole.view.items) whole.view) (with_arranged (f xs) earlier.view) (with_arranged (f ys) later.view) ready j
          (plain_is_orderly whole.asks whole.level es whole.origins all.plain) (subst (AreLossless es) (sym ready.whole.origins) all.lossless)
          (plainly_beside whole.level (length earlier.origins) (length later.origins) (with_arranged (f whole.view.items) whole.view) (with_arranged (f xs) earlier.view) (with_arranged (f ys) later.view) (record {
            numbers = record { whole_none = un.whole_none; early_none = un.early_none; late_none = un.late_none };
            early_given = first.given;
            late_given = second.given;
            items = items;
            positions = ap (λ zs. zero_positions (length zs)) items ∙ ap (λ (n : ℕ). zero_positions n) (length-append (f xs).items (f ys).items) ∙ zeros_both (length (f xs).items) (length (f ys).items);
            events = rule_events (f xs) (f ys) (f whole.view.items) (length earlier.origins) is (subst (λ (n : ℕ). IsWholeRewrite n (f xs)) (sym early_many) first) all.no_concat second.no_concat;
            early_direction = j.early_of.direction;
            late_direction = j.late_of.direction;
            early = subst (λ l. IsReadAlone l (length earlier.origins) (with_arranged (f xs) earlier.view)) j.early_of.level (rule_alone f earlier first early_many p.first_some);
            late = subst (λ l. IsReadAlone l (length later.origins) (with_arranged (f ys) later.view)) j.late_of.level (rule_alone f later second j.late_whole.origins p.second_some);
          }));
    }

-- ---- the rounds

-- a list that begins with a character of its own
record IsAlone (zs : List Item) : Type 0 where
  first : Item
  rest : List Item
  is : zs ≡ first ∷ rest
  no_mark : is_mark first ≡ false
  no_joiner : is_joiner first ≡ false

alone_is : (zs : List Item) → BeginsAlone zs → IsAlone zs
alone_is [] h = absurd h
alone_is (z ∷ zs) h = record { first = z; rest = zs; is = refl; no_mark = h.0; no_joiner = h.1 }

expanding : (c : Normalizer) (xs ys : List Item) → 0 < length xs → BeginsAlone ys → DividesRule (expanded_list c) xs ys
expanding c xs ys some h =
    let a = alone_is ys h in
    record {
      apart = subst (λ zs. expanded_list c (xs ++ zs) ≡ beside (expanded_list c xs) (expanded_list c zs)) (sym a.is) (expanded_apart c xs a.first a.rest a.no_mark);
      whole = λ g. whole_rewrite (length (xs ++ ys)) (expanded_list c (xs ++ ys)) (expanded_rewrite c (xs ++ ys) g);
      first = λ g. whole_rewrite (length xs) (expanded_list c xs) (expanded_rewrite c xs g);
      second = λ g. whole_rewrite (length ys) (expanded_list c ys) (expanded_rewrite c ys g);
      first_some = expanded_some c xs some;
      second_some = expanded_some c ys (subst (λ (zs : List Item). 0 < length zs) (sym a.is) (omega arith));
    }

ordering_rewrite : (b : Bool) (c : Normalizer) (zs : List Item) → RewritesRuns c.reorders → AreGiven 0 zs → IsWholeRewrite (length zs) (ordering_if b c zs)
ordering_rewrite true c zs rewrites g = whole_rewrite (length zs) (ordered_list c.reorders zs) (ordered_rewrite c.reorders zs rewrites g)
ordering_rewrite false c zs rewrites g = whole_rewrite (length zs) (eventless_arrangement zs) (eventless_rewrite zs g)

ordering_many : (b : Bool) (c : Normalizer) (zs : List Item) → RewritesRuns c.reorders → AreGiven 0 zs → length (ordering_if b c zs).items ≡ length zs
ordering_many true c zs rewrites g = ordered_many c.reorders zs rewrites g
ordering_many false c zs rewrites g = refl

ordering_apart : (b : Bool) (c : Normalizer) (xs : List Item) (y : Item) (ys : List Item) → is_mark y ≡ false → ordering_if b c (xs ++ y ∷ ys) ≡ beside (ordering_if b c xs) (ordering_if b c (y ∷ ys))
ordering_apart true c xs y ys e = ordered_apart c.reorders xs y ys e
ordering_apart false c xs y ys e = refl

ordering : (b : Bool) (c : Normalizer) (xs ys : List Item) → RewritesRuns c.reorders → AreGiven 0 xs → AreGiven 0 ys → 0 < length xs → BeginsAlone ys → DividesRule (ordering_if b c) xs ys
ordering b c xs ys rewrites g k some h =
    let a = alone_is ys h in
    let early = ordering_many b c xs rewrites g in
    let late = ordering_many b c ys rewrites k in
    let more : 0 < length ys = subst (λ (zs : List Item). 0 < length zs) (sym a.is) (omega arith) in
    record {
      apart = subst (λ zs. ordering_if b c (xs ++ zs) ≡ beside (ordering_if b c xs) (ordering_if b c zs)) (sym a.is) (ordering_apart b c xs a.first a.rest a.no_mark);
      whole = ordering_rewrite b c (xs ++ ys) rewrites;
      first = ordering_rewrite b c xs rewrites;
      second = ordering_rewrite b c ys rewrites;
      first_some = omega (arith, early, some);
      second_some = omega (arith, late, more);
    }

-- a text that begins with a character of its own begins with it once it is ordered
ordered_alone : (b : Bool) (c : Normalizer) (ys : List Item) → BeginsAlone ys → BeginsAlone (ordering_if b c ys).items
ordered_alone false c ys h = h
ordered_alone true c [] h = absurd h
ordered_alone true c (y ∷ ys) h = subst BeginsAlone (sym (ordered_first c.reorders y ys h.0)) h

-- the third round, after joiners are shown
abbrev pub composing : Bool → Normalizer → List Item → Arrangement
composing b c zs = composition_if b c (joiners_shown zs)

composition_rewrite : (b : Bool) (c : Normalizer) (zs : List Item) → AreGiven 0 zs → IsWholeRewrite (length zs) (composition_if b c zs)
composition_rewrite true c zs g = composed_rewrite c zs g
composition_rewrite false c zs g = whole_rewrite (length zs) (eventless_arrangement zs) (eventless_rewrite zs g)

composing_rewrite : (b : Bool) (c : Normalizer) (zs : List Item) → AreGiven 0 zs → IsWholeRewrite (length zs) (composing b c zs)
composing_rewrite b c zs g = subst (λ (n : ℕ). IsWholeRewrite n (composition_if b c (joiners_shown zs))) (shown_many zs) (composition_rewrite b c (joiners_shown zs) (shown_given zs g))

composition_apart : (b : Bool) (c : Normalizer) (xs : List Item) (y : Item) (ys : List Item) → is_mark y ≡ false → composition_if b c (xs ++ y ∷ ys) ≡ beside (composition_if b c xs) (composition_if b c (y ∷ ys))
composition_apart true c xs y ys e = composed_apart c xs y ys e
composition_apart false c xs y ys e = refl

composition_some : (b : Bool) (c : Normalizer) (xs : List Item) → 0 < length xs → 0 < length (composition_if b c xs).items
composition_some true c xs some = composed_some c xs some
composition_some false c xs some = some

composed_rule : (b : Bool) (c : Normalizer) (xs ys : List Item) → 0 < length xs → EndsUnjoined xs → BeginsAlone ys → DividesRule (composing b c) xs ys
composed_rule b c xs ys some ends h =
    let a = alone_is ys h in
    let early = shown_many xs in
    let late = shown_many ys in
    let more : 0 < length ys = subst (λ (zs : List Item). 0 < length zs) (sym a.is) (omega arith) in
    record {
      apart = subst (λ zs. composing b c (xs ++ zs) ≡ beside (composing b c xs) (composing b c zs)) (sym a.is)
          (ap (composition_if b c) (shown_apart xs a.first a.rest ends a.no_joiner) ∙ composition_apart b c (joiners_shown xs) a.first (with_joiners_shown a.first a.rest) a.no_mark);
      whole = composing_rewrite b c (xs ++ ys);
      first = composing_rewrite b c xs;
      second = composing_rewrite b c ys;
      first_some = composition_some b c (joiners_shown xs) (omega (arith, early, some));
      second_some = composition_some b c (joiners_shown ys) (omega (arith, late, more));
    }

-- ---- the stage

-- the state of a text after three rounds
abbrev pub rounds_state : Bool → Normalizer → BufferState → BufferState
rounds_state b c s = arranged_state (composing (b && is_composing c.mode) c) (arranged_state (ordering_if b c) (arranged_state (expanded_list c) s))

rounds_is : (c : Normalizer) (s : BufferState) → state_after (with_arranged (normalized_items c s.view.items) s.view) s ≡ rounds_state (has_later_mark s.view.items) c s
unfolding normalized_items arranged_marks
rounds_is c s =
    let b = has_later_mark s.view.items in
    let one = expanded_list c s.view.items in
    let two = ordering_if b c one.items in
    let three = composing (b && is_composing c.mode) c two.items in
    ap (λ (os : List Origin). record { view = record s.view { items = three.items; positions = zero_positions (length three.items) }; origins = os; level = s.level; asks = s.asks })
    (origins_after_both s.asks s.level one.events (two.events ++ three.events) s.origins ∙ origins_after_both s.asks s.level two.events three.events (state_after (with_arranged one s.view) s).origins)

pub normalized_read : (c : Normalizer) (s : BufferState) (r : Read) → normalization c s.view ≡ Ok r → state_after r s ≡ rounds_state (has_later_mark s.view.items) c s
normalized_read c s r e = by_room (nat_le (length (expanded_list c s.view.items).items) s.view.max_len) e
  where
    by_room : (t : Bool) → ◌≡◌ {A = Reading} (if t then Ok (with_arranged (normalized_items c s.view.items) s.view) else Err TooLong) (Ok r) → state_after r s ≡ rounds_state (has_later_mark s.view.items) c s
    by_room true f = ap (λ (x : Read). state_after x s) (sym (same_read (with_arranged (normalized_items c s.view.items) s.view) r f)) ∙ rounds_is c s
    by_room false f = cc

-- what three rounds leave of a text
pub record AreRounds (b : Bool) (k : Normalizer) (c : ℕ) (s : BufferState) : Type 0 where
  pub breakable : IsBreakable (rounds_state b k s)
  pub unsafe : IsUnsafeAt c s.origins → IsUnsafeAt c (rounds_state b k s).origins
  pub given : AreGiven 0 (rounds_state b k s).view.items

pub rounds_keep : (b : Bool) (k : Normalizer) (c : ℕ) (s : BufferState) → RewritesRuns k.reorders → IsBreakable s → AreGiven 0 s.view.items → AreRounds b k c s
rounds_keep b k c s rewrites ready given =
    let one = expanded_list k in
    let two = ordering_if b k in
    let three = composing (b && is_composing k.mode) k in
    let s1 = arranged_state one s in
    let s2 = arranged_state two s1 in
    let p1 = whole_rewrite (length s.view.items) (one s.view.items) (expanded_rewrite k s.view.items given) in
    let p2 = ordering_rewrite b k s1.view.items rewrites p1.given in
    let p3 = composing_rewrite (b && is_composing k.mode) k s2.view.items p2.given in
    let b1 = rule_breakable one s p1 ready in
    let b2 = rule_breakable two s1 p2 b1 in
    record {
      breakable = rule_breakable three s2 p3 b2;
      unsafe = λ u. rule_keeps three c s2 p3 b2 (rule_keeps two c s1 p2 b1 (rule_keeps one c s p1 ready u));
      given = p3.given;
    }

rounds_divide : (b : Bool) (k : Normalizer) (c : ℕ) (whole earlier later : BufferState) → RewritesRuns k.reorders → IsBreakable whole → AreGiven 0 whole.view.items → AreFragments false c whole earlier later → AreUnnumbered whole.view earlier.view later.view
    → BeginsAlone later.view.items → BeginsAlone (expanded_list k later.view.items).items → EndsUnjoined (ordering_if b k (expanded_list k earlier.view.items).items).items
    → StaysDivided false c (rounds_state b k whole) (rounds_state b k earlier) (rounds_state b k later)
rounds_divide b k c whole earlier later rewrites ready given j un begins expanded ends =
    let one = expanded_list k in
    let two = ordering_if b k in
    let three = composing (b && is_composing k.mode) k in
    let count = j.early_whole.origins in
    let early_some = j.early_some in
    let some : 0 < length earlier.view.items = omega (arith, count, early_some) in
    let w1 = arranged_state one whole in
    let e1 = arranged_state one earlier in
    let l1 = arranged_state one later in
    let w2 = arranged_state two w1 in
    let e2 = arranged_state two e1 in
    let l2 = arranged_state two l1 in
    let first = rule_divides one c whole earlier later ready j un (expanding k earlier.view.items later.view.items some begins) in
    let p1 = whole_rewrite (length whole.view.items) (one whole.view.items) (expanded_rewrite k whole.view.items given) in
    let p2 = ordering_rewrite b k w1.view.items rewrites p1.given in
    let p3 = composing_rewrite (b && is_composing k.mode) k w2.view.items p2.given in
    let b2 = rule_breakable two w1 p2 first.breakable in
    let un1 : AreUnnumbered w1.view e1.view l1.view = record { whole_none = un.whole_none; early_none = un.early_none; late_none = un.late_none } in
    let un2 : AreUnnumbered w2.view e2.view l2.view = record { whole_none = un.whole_none; early_none = un.early_none; late_none = un.late_none } in
    elim first.divided [
      | inl unsafe ↦ inl (rule_keeps three c w2 p3 b2 (rule_keeps two c w1 p2 first.breakable unsafe))
      | inr j1 ↦
          let some1 : 0 < length e1.view.items = expanded_some k earlier.view.items some in
          let given_e1 = given_early c w1 e1 l1 j1 un1 in
          let given_l1 = given_late c w1 e1 l1 j1 un1 in
          let many2 = ordering_many b k e1.view.items rewrites given_e1 in
          elim (rule_divides two c w1 e1 l1 first.breakable j1 un1 (ordering b k e1.view.items l1.view.items rewrites given_e1 given_l1 some1 expanded)).divided [
            | inl unsafe ↦ inl (rule_keeps three c w2 p3 b2 unsafe)
            | inr j2 ↦ (rule_divides three c w2 e2 l2 b2 j2 un2 (composed_rule (b && is_composing k.mode) k e2.view.items l2.view.items (omega (arith, many2, some1)) ends (ordered_alone b k l1.view.items expanded))).divided
          ]
    ]

-- normalizing a text that is broken into two normalizes each
pub normalizing_divides : NormalizingDivides
normalizing_divides k c whole earlier later r e l rewrites stays apart is_r is_e is_l =
    let b = has_later_mark whole.view.items in
    let w_is : state_after r whole ≡ rounds_state b k whole = normalized_read k whole r is_r in
    let e_is = normalized_read k earlier e is_e in
    let l_is = normalized_read k later l is_l in
    let kept = rounds_keep b k c whole rewrites stays.breakable stays.given in
    record {
      breakable = subst IsBreakable (sym w_is) kept.breakable;
      given = subst (λ (s : BufferState). AreGiven 0 s.view.items) (sym w_is) kept.given;
      numbers = record {
        whole_none = ap (λ (s : BufferState). s.view.lig_id) w_is ∙ stays.numbers.whole_none;
        early_none = ap (λ (s : BufferState). s.view.lig_id) e_is ∙ stays.numbers.early_none;
        late_none = ap (λ (s : BufferState). s.view.lig_id) l_is ∙ stays.numbers.late_none;
      };
      divided = subst (λ (s : BufferState). StaysDivided false c s (state_after e earlier) (state_after l later)) (sym w_is) (elim stays.divided [
        | inl unsafe ↦ inl (kept.unsafe unsafe)
        | inr j ↦
            let p = apart j in
            let plain = plain_items c whole earlier later j stays.numbers in
            let b_is : has_later_mark (earlier.view.items ++ later.view.items) ≡ b = ap has_later_mark (sym plain) in
            subst (λ (s : BufferState). StaysDivided false c (rounds_state b k whole) s (state_after l later)) (sym (e_is ∙ ap (λ t. rounds_state t k earlier) (p.early_marks ∙ b_is)))
            (subst (λ (s : BufferState). StaysDivided false c (rounds_state b k whole) (rounds_state b k earlier) s) (sym (l_is ∙ ap (λ t. rounds_state t k later) (p.late_marks ∙ b_is)))
            (rounds_divide b k c whole earlier later rewrites stays.breakable stays.given j stays.numbers p.begins p.expanded (subst (λ t. EndsUnjoined (ordering_if t k (expanded_list k earlier.view.items).items).items) b_is p.ends)))
      ]);
    }
