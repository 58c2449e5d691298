-- Events that keep the parts of a text.
use Rattle.std.proofs.Common.{ℕ, suc, ◌≡◌, ◌≢◌, ◌≤◌, ◌<◌, ◌+◌, ◌-◌, ◌==◌, false, min, if◌then◌else◌, List, [], ◌∷◌, length, map, arith, refl, ap, sym, subst, ◌∙◌}
use Rattle.std.proofs.lemmas.Grind.{common_steps}
use Rattle.std.proofs.lemmas.List.{length-map}
use Rattle.std.proofs.lemmas.List.Sums.{fold-append}
use Rattle.buffer_glyphs.specs.declared.level.BufferClusterLevel.{BufferClusterLevel}
use Rattle.buffer_glyphs.specs.Levels.{IsMonotone}
use Rattle.buffer_glyphs.specs.Parts.{PartEvent, after_part_events}
use Rattle.buffer_glyphs.specs.Order.{IsOrdered, IsLeast, IsGiving, falls_after}
use Rattle.buffer_glyphs.specs.Origins.{Origin, Asks, numbers}
use Rattle.buffer_glyphs.specs.Events.{Event, Merge, Replace, IsPlain, origins_after}
use Rattle.buffer_glyphs.specs.EventParts.{parts_of}
use Rattle.buffer_glyphs.specs.Lemmas.Parts.{stays_ordered, keeps_order, keeps_numbers}
use Rattle.buffer_parts.specs.Orderly.{IsOrderly}
use Rattle.buffer_parts.specs.Fits.{FitsText}
use Rattle.buffer_parts.specs.Counts.{count_after, count_after_event, ligature_deletions, AreBetween}
use Rattle.buffer_parts.specs.Keeping.{AreKept, AreSliced}
use Rattle.buffer_parts.specs.KeepingLaws.{KeptInTurn, PlainIsKept, ReplacementsKeepParts, LigaturesKeepParts, KeptEventsHaveParts}
use Rattle.buffer_parts.specs.Lemmas.Orderly.{plain_is_orderly, both_orderly, orderly_are_parts, orderly_keep_order}
use Rattle.buffer_parts.specs.Lemmas.Slices.{slices_join, slices_share_parts}
use Rattle.buffer_parts.specs.Lemmas.Turns.{parts_in_turn, giving_in_turn}
use Rattle.buffer_parts.specs.Lemmas.Counts.{counts_follow, giving_is_giving}
use Rattle.buffer_parts.specs.Lemmas.Ligatures.{ligatures_are_giving}
use Rattle.buffer_parts.specs.Lemmas.Deletions.{parts_fit_text}
use Rattle.buffer_glyphs.proofs.Least.{no_origins, in_order, keeps_least}

-- origins with such clusters
abbrev as_origins : List ℕ → List Origin
as_origins ns = map (λ n. record { cluster = n; flags = 0 }) ns

numbers_of_origins : (ns : List ℕ) → numbers (as_origins ns) ≡ ns
numbers_of_origins [] = refl
numbers_of_origins (n ∷ ns) = ap (λ ms. n ∷ ms) (numbers_of_origins ns)

-- the parts that kept events leave are as many as the glyphs
pub parts_counted : (level : BufferClusterLevel) (es : List Event) (before after : ℕ) (ns : List ℕ) → AreKept level es before after → IsMonotone level → length ns ≡ before → IsOrdered ns → length (after_part_events (parts_of level es) ns) ≡ after
parts_counted level es before after ns kept mono count o =
    let asks : Asks = record { concat = false; tatweel = false; breaks = false } in
    let os = as_origins ns in
    let same : numbers os ≡ ns = numbers_of_origins ns in
    let ordered : IsOrdered (numbers os) = subst IsOrdered (sym same) o in
    let many : length os ≡ before = length-map ns (λ n. record { cluster = n; flags = 0 }) ∙ count in
    let parts = orderly_are_parts asks level es os mono (kept.orderly asks os mono many ordered) ordered in
    ap (λ ms. length (after_part_events (parts_of level es) ms)) (sym same)
    ∙ ap length (sym parts)
    ∙ length-map (origins_after asks level es os) (λ (q : Origin). q.cluster)
    ∙ counts_follow asks level es os ∙ ap (count_after es) many ∙ kept.counted

pub kept_in_turn : KeptInTurn
kept_in_turn level es fs before mid after p q = record {
  orderly = λ asks os mono count o.
      let first = p.orderly asks os mono count o in
      let between = origins_after asks level es os in
      let parts : numbers between ≡ after_part_events (parts_of level es) (numbers os) = orderly_are_parts asks level es os mono first o in
      let ordered : IsOrdered (numbers between) = subst IsOrdered (sym parts) (stays_ordered (parts_of level es) (numbers os) o) in
      let many : length between ≡ mid = counts_follow asks level es os ∙ ap (count_after es) count ∙ p.counted in
      both_orderly asks level es fs os first (q.orderly asks between mono many ordered);
  giving = λ falls ns mono count o.
      let ps = parts_of level es in
      let many = parts_counted level es before mid ns p mono count (in_order falls ns o) in
      let second = q.giving (falls_after falls ps) (after_part_events ps ns) mono many (keeps_order ps falls ns o) in
      subst (λ (gs : List PartEvent). IsGiving gs ns) (sym (parts_in_turn level es fs)) (giving_in_turn ps (parts_of level fs) ns (p.giving falls ns mono count o) second);
  counted = fold-append count_after_event before es fs ∙ ap (count_after fs) p.counted ∙ q.counted;
}

pub plain_is_kept : PlainIsKept
plain_is_kept level es before after plain gives count = record {
  orderly = λ asks os mono many o. plain_is_orderly asks level es os plain;
  giving = λ falls ns mono many o. giving_is_giving level es ns gives;
  counted = count;
}

one_replaced : (at given n : ℕ) → at < n → count_after_event n (Replace at 1 given) ≡ n - 1 + given
one_replaced at given n lt =
    let some : (n == 0) ≡ false = grind (arith, common_steps, lt) in
    let total : min at n + given + (n - (at + 1)) ≡ n - 1 + given = omega (arith, lt) in
    ap (λ t. min at n + (if t then 0 else given) + (n - (at + 1))) some ∙ total

pub replacements_keep_parts : ReplacementsKeepParts
replacements_keep_parts level at given n lt some = plain_is_kept level (Replace at 1 given ∷ []) n (n - 1 + given) tt (some, tt) (one_replaced at given n lt)

one_removed : (p n : ℕ) → p < n → count_after_event n (Replace p 1 0) ≡ n - 1
one_removed p n lt = let e = one_replaced p 0 n lt in omega (arith, e)

all_removed : (at gone low end : ℕ) (places : List ℕ) (n : ℕ) → gone ≤ low → AreBetween low end places → at + (end - gone) ≤ n → count_after (ligature_deletions at gone places) n ≡ n - length places
all_removed at gone low end [] n le b total = omega arith
all_removed at gone low end (i ∷ places) n le b total =
    let past : low < i = b.0 in
    let inside : i < end = b.1 in
    let within : at + i - gone < n = omega (arith, past, inside, le, total) in
    let rest = all_removed at (gone + 1) i end places (n - 1) (omega (arith, past, le)) b.2 (omega (arith, past, inside, le, total)) in
    let less : n - 1 - length places ≡ n - suc (length places) = omega arith in
    ap (count_after (ligature_deletions at (gone + 1) places)) (one_removed (at + i - gone) n within) ∙ rest ∙ less

removals_plain : (at gone : ℕ) (places : List ℕ) → IsPlain (ligature_deletions at gone places)
removals_plain at gone [] = tt
removals_plain at gone (i ∷ places) = removals_plain at (gone + 1) places

pub ligatures_keep_parts : LigaturesKeepParts
ligatures_keep_parts how level at end places n total b = record {
  orderly = λ asks os mono count o. plain_is_orderly asks level (Merge how at (at + end) ∷ ligature_deletions at 0 places) os (removals_plain at 0 places);
  giving = λ falls ns mono count o. ligatures_are_giving how level falls at end places ns mono o (omega (arith, count, total)) b;
  counted = all_removed at 0 0 end places n (omega arith) b (omega (arith, total));
}

pub kept_events_have_parts : KeptEventsHaveParts
kept_events_have_parts level es before after falls asks os kept mono count o = record {
  clusters = same;
  line = orderly_keep_order asks level es falls os mono orderly o;
  least = λ m some l. subst (IsLeast m) (sym same) (keeps_least (parts_of level es) falls (numbers os) m giving o l (left some));
  fits = λ some zero_there. subst (FitsText (numbers os)) (sym same) (parts_fit_text (parts_of level es) falls (numbers os) o giving (left some) zero_there);
  sliced = λ end some. subst (λ (ns : List ℕ). AreSliced level es (numbers os) ns end) (sym same) (record {
    shared = λ m n hm hn pm pn. slices_share_parts (parts_of level es) falls (numbers os) end m n o giving (left some) hm hn pm pn;
    joined = λ l below. slices_join (after_part_events (parts_of level es) (numbers os)) end (keeps_least (parts_of level es) falls (numbers os) 0 giving o l (left some)) (λ n h. below n (keeps_numbers (parts_of level es) (numbers os) n h));
  });
}
  where
    orderly : IsOrderly asks level es os
    orderly = kept.orderly asks os mono count (in_order falls (numbers os) o)

    giving : IsGiving (parts_of level es) (numbers os)
    giving = kept.giving falls (numbers os) mono (length-map os (λ (q : Origin). q.cluster) ∙ count) o

    same : numbers (origins_after asks level es os) ≡ after_part_events (parts_of level es) (numbers os)
    same = orderly_are_parts asks level es os mono orderly (in_order falls (numbers os) o)

    left : origins_after asks level es os ≢ [] → after_part_events (parts_of level es) (numbers os) ≢ []
    left some none = some (no_origins (origins_after asks level es os) (same ∙ none))
