-- Pairs adjusted at the cursor.
use Rattle.std.proofs.Common.{ℕ, ◌≡◌, ◌<◌, ◌≤◌, ◌+◌, ◌-◌, Bool, true, false, if◌then◌else◌, List, [], ◌∷◌, Option, Some, None, Result, Ok, Err, length, arith, refl, sym, ap, subst, ◌∙◌, slice_get}
use Rattle.std.specs.Prelude.{option_and_then}
use Rattle.std.proofs.lemmas.List.{length-map}
use Rattle.buffer_common.specs.declared.direction.Direction.{Direction}
use Rattle.buffer_glyphs.specs.declared.info.hb_glyph_info_t.{hb_glyph_info_t}
use Rattle.buffer_glyphs.specs.Items.{Item, Position, clusters, item_of, strip}
use Rattle.buffer_glyphs.specs.Parts.{range_of}
use Rattle.buffer_glyphs.specs.Glyphs.{glyphs_marked, has_several_numbers}
use Rattle.buffer_glyphs.specs.Lemmas.Glyphs.{strip_marked}
use Rattle.buffer_glyphs.specs.Events.{Break, Event, StrictBreak}
use Rattle.buffer_core.specs.Sides.{Sides, after_next_glyphs, all_glyphs, origins_by, origins_of, requests_breaks}
use Rattle.buffer_core.specs.Marking.{end_in_all, start_in_all, strictly_marked, with_flagged_apart}
use Rattle.layout_match.specs.Applied.{ApplyContext}
use Rattle.layout_tables.specs.declared.value.ValueRecord.{ValueRecord}
use Rattle.layout_tables.specs.declared.pair.PairValues.{PairValues}
use Rattle.layout_tables.specs.declared.pair.PairPos.{PairPos}
use Rattle.buffer_stages.specs.Actions.{Cut, Outcome, Passes, at_first, attempt_around}
use Rattle.buffer_stages.specs.Buffers.{IsPassed, cut_of, Frame}
use Rattle.buffer_stages.specs.Performing.{IsPerformed, cut_with}
use Rattle.buffer_stages.proofs.Lemmas.Glyphs.{first_item}
use Rattle.buffer_stages.proofs.Lemmas.Performed.{passes_nothing}
use Rattle.buffer_stages.proofs.Lemmas.Attempts.{cut_with_glyphs}
use Rattle.layout_gpos.specs.Moving.{break_around, strict_break_around}
use Rattle.layout_tables.specs.Covers.{covers_first_of_pair}
use Rattle.layout_gpos.specs.Pairs.{next_item, null_pair_events, pair_adjusted, pair_events, pair_from, pair_has_no_effect, pair_length, pair_of, pair_second, pair_subtable, pair_values, takes_glyphs}
use Rattle.layout_gpos.proofs.Lemmas.Placed.{break_passed, front_count}
use Rattle.layout_gpos.proofs.Lemmas.Performed.{marked_made}
use Rattle.buffer_stages.proofs.Reversed.{got_strip as item_at}

-- ---- a pair

-- the events of a null pair, by whether it takes its glyphs from other pairs
abbrev null_events_by : Bool → ℕ → Cut → List Event
null_events_by takes apart c = if takes then strict_break_around (apart + 1) c else []

-- the events of a pair, by whether it is null
abbrev events_by : Bool → PairValues → ℕ → Cut → List Event
events_by null v apart c = if null then null_pair_events apart v.second c else break_around 0 (apart + 1) c

pub pair_marked : (v : PairValues) (apart : ℕ) (s new : Sides) → pair_has_no_effect v ≡ false → IsPassed (Break (length s.behind - 0) (length s.behind + (apart + 1)) ∷ []) s new → IsPassed (pair_events v apart (cut_of s)) s new
pair_marked v apart s new e p = subst (λ (b : Bool). IsPassed (events_by b v apart (cut_of s)) s new) (sym e) (break_passed 0 (apart + 1) s new p)

pub null_pair_marked : (v : PairValues) (apart : ℕ) (s new : Sides) → pair_has_no_effect v ≡ true → IsPassed (null_pair_events apart v.second (cut_of s)) s new → IsPassed (pair_events v apart (cut_of s)) s new
null_pair_marked v apart s new e p = subst (λ (b : Bool). IsPassed (events_by b v apart (cut_of s)) s new) (sym e) p

pub null_pair_unmarked : (second : Option ValueRecord) (apart : ℕ) (s : Sides) → takes_glyphs apart second ≡ false → IsPassed (null_pair_events apart second (cut_of s)) s s
null_pair_unmarked second apart s e = subst (λ (b : Bool). IsPassed (null_events_by b apart (cut_of s)) s s) (sym e) (record { cut_is = refl; happened = refl; still = refl; read = refl })

strictly_passed : (from to : ℕ) (s : Sides) (b : Bool) → from ≤ to → origins_of (if b then with_flagged_apart 3 from to s else s) ≡ origins_by (StrictBreak from to ∷ []) s
    → IsPassed (StrictBreak from to ∷ []) s (if b then with_flagged_apart 3 from to s else s)
strictly_passed from to s true le happened = record {
  cut_is = cut_with_glyphs (has_several_numbers (range_of from to (clusters (all_glyphs s)))) (glyphs_marked 3 from to (all_glyphs s)) s (strip_marked 3 from to (all_glyphs s) (omega arith) le);
  happened = happened;
  still = refl;
  read = refl;
}
strictly_passed from to s false le happened = record { cut_is = refl; happened = happened; still = refl; read = refl }

pub pair_strictly_marked : (second : Option ValueRecord) (apart at : ℕ) (s new : Sides) → takes_glyphs apart second ≡ true → at ≡ s.read → new ≡ strictly_marked (Some at) (Some (at + apart + 1)) s
    → origins_of new ≡ origins_by (StrictBreak (start_in_all (Some at) s) (end_in_all (Some (at + apart + 1)) s) ∷ []) s → IsPassed (null_pair_events apart second (cut_of s)) s new
pair_strictly_marked second apart at s new e here is happened =
    let from = length s.behind in
    let to = length s.behind + (apart + 1) in
    let end = end_in_all (Some (at + apart + 1)) s in
    let start_is : start_in_all (Some at) s ≡ from = omega (arith, here) in
    let end_is : end ≡ to = omega (arith, here) in
    let b = requests_breaks s in
    let same : new ≡ (if b then with_flagged_apart 3 from to s else s) =
    is ∙ ap (λ (k : ℕ). if b then with_flagged_apart 3 k end s else s) start_is ∙ ap (λ (k : ℕ). if b then with_flagged_apart 3 from k s else s) end_is in
    let events : origins_of new ≡ origins_by (StrictBreak from to ∷ []) s =
    happened ∙ ap (λ (k : ℕ). origins_by (StrictBreak k end ∷ []) s) start_is ∙ ap (λ (k : ℕ). origins_by (StrictBreak from k ∷ []) s) end_is in
    let passed = subst (λ (t : Sides). IsPassed (StrictBreak from to ∷ []) s t) (sym same) (strictly_passed from to s b (omega arith) (ap origins_of (sym same) ∙ events)) in
    let cut = subst (λ (k : ℕ). IsPassed (StrictBreak k (k + (apart + 1)) ∷ []) s new) (sym (length-map s.behind item_of)) passed in
    subst (λ (t : Bool). IsPassed (null_events_by t apart (cut_of s)) s new) (sym e) cut

pair_long : (apart : ℕ) (o : Option ValueRecord) (count : ℕ) → 0 < apart → apart < count → (0 < pair_length apart o) × (pair_length apart o ≤ count)
pair_long apart None count some lt = (some, omega (arith, lt))
pair_long apart (Some v) count some lt = (omega arith, omega (arith, lt))

pub pair_acted : (r apart i : ℕ) (v : PairValues) (s mid new : Sides) → IsPassed (pair_events v apart (cut_of s)) s mid → 0 < apart → apart < length mid.ahead → i ≡ length mid.behind
    → new ≡ after_next_glyphs (pair_length apart v.second) (record mid { positions = pair_adjusted mid.direction i (i + apart) v mid.positions }) → IsPerformed (pair_of s.direction apart (Some v) (cut_with r s)) true r r s new
pair_acted r apart i v s mid new p some lt here e =
    let long = pair_long apart v.second (length mid.ahead) some lt in
    let ps : Cut → List Position = λ c. pair_adjusted s.direction (length c.front) (length c.front + apart) v c.positions in
    let way : mid.direction ≡ s.direction = ap (λ (f : Frame). f.direction) p.still in
    let at : i ≡ length (cut_with r mid).front = here ∙ front_count r mid in
    let there : new ≡ after_next_glyphs (pair_length apart v.second) (record mid { positions = ps (cut_with r mid) }) =
    e ∙ ap (λ (d : Direction). after_next_glyphs (pair_length apart v.second) (record mid { positions = pair_adjusted d i (i + apart) v mid.positions })) way
    ∙ ap (λ (k : ℕ). after_next_glyphs (pair_length apart v.second) (record mid { positions = pair_adjusted s.direction k (k + apart) v mid.positions })) at in
    (refl, marked_made (pair_events v apart (cut_of s)) (pair_length apart v.second) r ps s mid new p long.0 long.1 there)

-- ---- the second glyph

pub second_failed : (r end : ℕ) (d : Direction) (values : Item → Option PairValues) (found : Result ℕ ℕ) (s new : Sides) → found ≡ Err end
    → IsPerformed (attempt_around 0 end (cut_with r s)) false r r s new → IsPerformed (pair_second d values found (cut_with r s)) false r r s new
second_failed r end d values found s new e done = subst (λ (f : Result ℕ ℕ). IsPerformed (pair_second d values f (cut_with r s)) false r r s new) (sym e) done

-- ---- the subtable

subtable_is : (r n : ℕ) (d : Direction) (a : ApplyContext) (t : PairPos) (s : Sides) (g : hb_glyph_info_t) → slice_get s.ahead 0 ≡ Some g → n ≡ g.glyph_id
    → pair_subtable d a t (cut_with r s) ≡ (if covers_first_of_pair t n then pair_second d (λ y. pair_values t n y.number) (next_item a (strip s.ahead)) (cut_with r s) else Passes [])
subtable_is r n d a t s g at is = ap (λ q. at_first (pair_from d a t) q (cut_with r s)) (first_item s.ahead g at)
    ∙ ap (λ (m : ℕ). if covers_first_of_pair t m then pair_second d (λ y. pair_values t m y.number) (next_item a (strip s.ahead)) (cut_with r s) else Passes []) (sym is)

-- what a pair adjustment does, by the first glyph
abbrev pub by_first : Direction → ApplyContext → PairPos → ℕ → Cut → Sides → Outcome
by_first d a t n c s = if covers_first_of_pair t n then pair_second d (λ y. pair_values t n y.number) (next_item a (strip s.ahead)) c else Passes []

pub pair_begun : (r n : ℕ) (d : Direction) (a : ApplyContext) (t : PairPos) (acted : Bool) (s new : Sides) (g : hb_glyph_info_t) → slice_get s.ahead 0 ≡ Some g → n ≡ g.glyph_id
    → IsPerformed (by_first d a t n (cut_with r s) s) acted r r s new → IsPerformed (pair_subtable d a t (cut_with r s)) acted r r s new
pair_begun r n d a t acted s new g at is done = subst (λ (o : Outcome). IsPerformed o acted r r s new) (sym (subtable_is r n d a t s g at is)) done

where_begun : (r n : ℕ) (d : Direction) (a : ApplyContext) (t : PairPos) (acted : Bool) (s new : Sides) → covers_first_of_pair t n ≡ true
    → IsPerformed (pair_second d (λ y. pair_values t n y.number) (next_item a (strip s.ahead)) (cut_with r s)) acted r r s new → IsPerformed (by_first d a t n (cut_with r s) s) acted r r s new
where_begun r n d a t acted s new e done = subst (λ (b : Bool). IsPerformed (if b then pair_second d (λ y. pair_values t n y.number) (next_item a (strip s.ahead)) (cut_with r s) else Passes []) acted r r s new) (sym e) done

pub where_not_begun : (r n : ℕ) (d : Direction) (a : ApplyContext) (t : PairPos) (s : Sides) → covers_first_of_pair t n ≡ false → IsPerformed (by_first d a t n (cut_with r s) s) false r r s s
where_not_begun r n d a t s e = passes_nothing r s (by_first d a t n (cut_with r s) s) (ap (λ (b : Bool). if b then pair_second d (λ y. pair_values t n y.number) (next_item a (strip s.ahead)) (cut_with r s) else Passes []) e)

-- what was sought tells whether the first glyph begins pairs
sought : (b : Bool) (o p : Option PairValues) → (if b then Some p else None) ≡ Some o → (b ≡ true) × (o ≡ p)
sought true o p e = (refl, sym (some_is e))
  where
    some_is : {x y : Option PairValues} → Some x ≡ Some y → x ≡ y
    some_is e = cc
sought false o p e = cc

sought_none : (b : Bool) (p : Option PairValues) → (if b then Some p else None) ≡ None → b ≡ false
sought_none true p e = cc
sought_none false p e = refl

pub none_sought : (r n m : ℕ) (d : Direction) (a : ApplyContext) (t : PairPos) (sought_is : Option (Option PairValues)) (s : Sides) → sought_is ≡ (if covers_first_of_pair t n then Some (pair_values t n m) else None) → sought_is ≡ None → IsPerformed (by_first d a t n (cut_with r s) s) false r r s s
none_sought r n m d a t sought_is s e none = where_not_begun r n d a t s (sought_none (covers_first_of_pair t n) (pair_values t n m) (sym e ∙ none))

pub none_after : (r n end : ℕ) (d : Direction) (a : ApplyContext) (t : PairPos) (s new : Sides) → Err end ≡ next_item a (strip s.ahead) → covers_first_of_pair t n ≡ true → IsPerformed (attempt_around 0 end (cut_with r s)) false r r s new → IsPerformed (by_first d a t n (cut_with r s) s) false r r s new
none_after r n end d a t s new found e done = where_begun r n d a t false s new e (second_failed r end d (λ y. pair_values t n y.number) (next_item a (strip s.ahead)) s new (sym found) done)

pub pair_not_begun : (r n : ℕ) (d : Direction) (a : ApplyContext) (t : PairPos) (s : Sides) (g : hb_glyph_info_t) → slice_get s.ahead 0 ≡ Some g → n ≡ g.glyph_id → covers_first_of_pair t n ≡ false
    → IsPerformed (pair_subtable d a t (cut_with r s)) false r r s s
pair_not_begun r n d a t s g at is e = pair_begun r n d a t false s s g at is (where_not_begun r n d a t s e)
