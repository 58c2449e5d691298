-- Syllables that get their bytes.
use Rattle.std.proofs.Common.{ℕ, zero, suc, ◌≡◌, ◌≢◌, ◌≤◌, ◌<◌, ◌+◌, ◌-◌, ◌&&◌, true, false, nat_lt, if◌then◌else◌, List, [], ◌∷◌, ◌++◌, length, map, take, drop, Err, refl, sym, ap, subst, ◌∙◌, arith}
use Rattle.std.specs.Prelude.{slice_range, Result, Ok, Some, IfErr, OnOk}
use Rattle.std.specs.List.{list_all}
use Rattle.std.proofs.lemmas.Bool.Decides.{nat_tests}
use Rattle.std.proofs.lemmas.List.{length-map, take_all, take-map, drop-map}
use Rattle.buffer_glyphs.specs.declared.cause.ShapeCause.TheVariants.{OutOfMemory, UnknownSyllableKind}
use Rattle.buffer_glyphs.specs.declared.cause.ShapeCause.{ShapeCause}
use Rattle.buffer_glyphs.specs.declared.info.hb_glyph_info_t.{hb_glyph_info_t}
use Rattle.buffer_glyphs.specs.Items.{Item, item_of, strip}
use Rattle.buffer_glyphs.specs.Origins.{origin_of, origins}
use Rattle.buffer_glyphs.specs.Events.{Break}
use Rattle.buffer_core.specs.Readings.{Follows, always}
use Rattle.buffer_core.specs.Sides.{Sides, all_glyphs, items_of, origins_by, origins_of, state_of, view_of}
use Rattle.buffer_core.specs.Lending.{with_refilled}
use Rattle.buffer_core.specs.Marking.{range_flagged_apart}
use Rattle.buffer_core.specs.Merging.{index_in_all}
use Rattle.script_categories.specs.Shapers.{kinds_of}
use Rattle.buffer_stages.proofs.Lemmas.Happened.{break_happens}
use Rattle.buffer_stages.specs.Ready.{IsReady}
use Rattle.script_categories.specs.declared.shaper.hb_ot_script_shaper_t.{hb_ot_script_shaper_t}
use Rattle.buffer_stages.specs.Cuts.{Syllable, syllable_from, syllables, syllables_from}
use Rattle.buffer_stages.specs.Bytes.{syllable_byte}
use Rattle.buffer_stages.specs.Stages.{Happens, IsFollowed}
use Rattle.buffer_glyphs.specs.Rewriting.{eventless_arrangement}
use Rattle.buffer_stages.specs.Rewriting.{within}
use Rattle.buffer_stages.specs.SyllableBuffers.{IsRewritten, with_rule}
use Rattle.buffer_stages.specs.Lemmas.Rewritings.{counted, origins_then, rewritten_count, rewritten_follows, rewritten_next, rewritten_same}
use Rattle.buffer_stages.specs.Lemmas.Parts.{part_written, range_size, rewritten_part, within_size}
use Rattle.script_syllabic.specs.Bytes.{bytes_of, bytes_set, is_known, itself, one_syllable, syllables_set, text_syllables, with_byte}
use Rattle.script_syllabic.specs.Rules.{glyph_with_byte}
use Rattle.buffer_lists.proofs.Lemmas.SortedItems.{strip_range as range_stripped}

-- ---- one syllable

items_with : (byte : ℕ) (gs : List hb_glyph_info_t) → strip (map (glyph_with_byte byte) gs) ≡ map (with_byte byte) (strip gs)
items_with byte [] = refl
items_with byte (g ∷ gs) = ap (λ xs. with_byte byte (item_of g) ∷ xs) (items_with byte gs)

origins_with : (byte : ℕ) (gs : List hb_glyph_info_t) → origins (map (glyph_with_byte byte) gs) ≡ origins gs
origins_with byte [] = refl
origins_with byte (g ∷ gs) = ap (λ os. origin_of g ∷ os) (origins_with byte gs)

-- a range got a byte, and then was flagged as unsafe to break
pub syllable_marked : (from to byte : ℕ) (gs : List hb_glyph_info_t) (a b : Sides) → IsReady a → from ≤ to → to ≤ length (all_glyphs a)
    → gs ≡ take from (all_glyphs a) ++ map (glyph_with_byte byte) (slice_range (all_glyphs a) from to) ++ drop to (all_glyphs a) → Happens (Break from to ∷ []) (with_refilled gs a) b
    → IsRewritten (one_syllable byte (slice_range (items_of a) from to)) from to a b
syllable_marked from to byte gs a b ready le fits e h =
    let range = slice_range (items_of a) from to in
    let ys = map (with_byte byte) range in
    let f = part_written from to ys (map (glyph_with_byte byte) (slice_range (all_glyphs a) from to)) gs a ready le fits e
    (items_with byte (slice_range (all_glyphs a) from to) ∙ ap (map (with_byte byte)) (range_stripped from to (all_glyphs a))) (origins_with byte (slice_range (all_glyphs a) from to)) in
    let size : length range ≡ to - from = range_size from to (items_of a) le (omega (arith, counted a, fits)) in
    let at : from + 0 ≡ from = omega arith in
    let end : from + length range ≡ to = omega (arith, size, le) in
    record {
      view = h.view ∙ f.view;
      origins = origins_then [] (Break from to ∷ []) a (with_refilled gs a) b f.settings f.origins h.origins
          ∙ ap (λ n. origins_by (Break n to ∷ []) a) (sym at) ∙ ap (λ n. origins_by (Break (from + 0) n ∷ []) a) (sym end);
      settings = h.settings ∙ f.settings;
      ready = h.ready;
    }

pub byte_size : (byte : ℕ) (xs : List Item) → length (one_syllable byte xs).items ≡ length xs
byte_size byte xs = length-map xs (with_byte byte)

-- ---- all syllables

-- the syllables before an index have their bytes: whatever the others do, all do
pub record IsMarking (next : ℕ → ℕ × ℕ) (at : ℕ → ℕ) (shaper : hb_ot_script_shaper_t) (count index start : ℕ) (old now : Sides) : Type 0 where
  pub ready : IsReady now
  pub size : length (all_glyphs now) ≡ length (all_glyphs old)
  pub few : index ≤ start
  pub most : ℕ
  pub enough : count - start ≤ most
  pub known : list_all (is_known shaper) (syllables next count) ≡ list_all (is_known shaper) (syllables_from next count most start)
  pub does : (new : Sides) → IsRewritten (bytes_set at index (syllables_from next count most start) (items_of now)) 0 (length (all_glyphs old)) now new
      → IsRewritten (bytes_set at 0 (syllables next count) (items_of old)) 0 (length (all_glyphs old)) old new

pub marking_begun : (next : ℕ → ℕ × ℕ) (at : ℕ → ℕ) (shaper : hb_ot_script_shaper_t) (count : ℕ) (s : Sides) → IsReady s → IsMarking next at shaper count 0 0 s s
marking_begun next at shaper count s ready = record { ready = ready; size = refl; few = omega arith; most = count; enough = omega arith; known = refl; does = λ new f. f }

-- the syllable at an index is the next
next_is : (next : ℕ → ℕ × ℕ) (count most start : ℕ) → start < count → syllables_from next count (suc most) start ≡ syllable_from next start ∷ syllables_from next count most (next start).0
next_is next count most start lt = let t : nat_lt start count ≡ true = grind (arith, nat_tests, lt) in ap (λ b. if b then syllable_from next start ∷ syllables_from next count most (next start).0 else []) t

some_most : (next : ℕ → ℕ × ℕ) (count most start : ℕ) → start < count → count - start ≤ most → most ≡ suc (most - 1)
some_most next count most start lt le = omega (arith, lt, le)

-- a kind that the shaper does not have
pub unknown_kind : (next : ℕ → ℕ × ℕ) (at : ℕ → ℕ) (shaper : hb_ot_script_shaper_t) (count index start : ℕ) (old now : Sides) → IsMarking next at shaper count index start old now → start < count
    → is_known shaper (syllable_from next start) ≡ false → bytes_of shaper at (syllables next count) (view_of old) ≡ Err UnknownSyllableKind
unknown_kind next at shaper count index start old now u lt e =
    let enough = u.enough in
    let most = some_most next count u.most start lt enough in
    let ss = syllables_from next count (u.most - 1) (next start).0 in
    let cut : syllables_from next count u.most start ≡ syllable_from next start ∷ ss = ap (λ m. syllables_from next count m start) most ∙ next_is next count (u.most - 1) start lt in
    let all : list_all (is_known shaper) (syllables next count) ≡ false = u.known ∙ ap (list_all (is_known shaper)) cut ∙ ap (λ b. b && list_all (is_known shaper) ss) e in
    ap (λ b. if b then always (with_rule (bytes_set at 0 (syllables next count))) (view_of old) else Err UnknownSyllableKind) all

-- one syllable more
pub marked_on : (next : ℕ → ℕ × ℕ) (at : ℕ → ℕ) (shaper : hb_ot_script_shaper_t) (count index start : ℕ) (old now after : Sides) → IsMarking next at shaper count index start old now → start < count
    → start < (next start).0 → at start ≤ at (next start).0 → at (next start).0 ≤ length (all_glyphs old) → is_known shaper (syllable_from next start) ≡ true
    → IsRewritten (one_syllable (syllable_byte index (next start).1) (slice_range (items_of now) (at start) (at (next start).0))) (at start) (at (next start).0) now after
    → IsMarking next at shaper count (index + 1) (next start).0 old after
marked_on next at shaper count index start old now after u lt more le fits e f =
    let enough = u.enough in
    let few = u.few in
    let same = u.size in
    let most = some_most next count u.most start lt enough in
    let end = (next start).0 in
    let ss = syllables_from next count (u.most - 1) end in
    let cut : syllables_from next count u.most start ≡ syllable_from next start ∷ ss = ap (λ m. syllables_from next count m start) most ∙ next_is next count (u.most - 1) start lt in
    let whole = length (all_glyphs old) in
    let xs = items_of now in
    let rule = one_syllable (syllable_byte index (next start).1) in
    let count_now : length xs ≡ whole = counted now ∙ same in
    let r = within (at start) (at end) rule xs in
    let size : length r.items ≡ length xs = within_size rule (at start) (at end) xs (byte_size (syllable_byte index (next start).1)) le (omega (arith, count_now, fits)) in
    let P : List Item → Type 0 = λ ys. IsRewritten (within (at start) (at end) rule ys) 0 whole now after in
    let all : slice_range xs 0 whole ≡ xs = take_all (whole - 0) xs (omega (arith, count_now)) in
    let g : IsRewritten r 0 whole now after = subst P all (rewritten_part rule 0 whole (at start) (at end) (at start) (at end) now after (omega arith) (omega arith) le (omega (arith, fits)) (omega (arith, count_now)) f) in
    let long : length r.items ≡ whole - 0 = omega (arith, size, count_now) in
    record {
      ready = f.ready;
      size = rewritten_count r 0 whole now after (omega arith) (omega (arith, count_now)) long g ∙ same;
      few = omega (arith, few, more);
      most = u.most - 1;
      enough = omega (arith, enough, more);
      known = u.known ∙ ap (list_all (is_known shaper)) cut ∙ ap (λ b. b && list_all (is_known shaper) ss) e;
      does = λ new h.
          let Q : List Syllable → Type 0 = λ ts. IsRewritten (bytes_set at index ts xs) 0 whole now new in
          let R : List Item → Type 0 = λ ys. IsRewritten (bytes_set at (index + 1) ss ys) 0 whole after new in
          let back : items_of after ≡ slice_range (items_of after) 0 whole = sym (take_all (whole - 0) (items_of after) (omega (arith, counted after, rewritten_count r 0 whole now after (omega arith) (omega (arith, count_now)) long g, same))) in
          u.does new (subst Q (sym cut) (rewritten_next r (bytes_set at (index + 1) ss) 0 whole now after new (omega arith) (omega (arith, count_now)) long g (subst R back h)));
    }

-- at the end
pub all_marked : (next : ℕ → ℕ × ℕ) (at : ℕ → ℕ) (shaper : hb_ot_script_shaper_t) (count index start : ℕ) (old now : Sides) → IsMarking next at shaper count index start old now → count ≤ start
    → IsFollowed (bytes_of shaper at (syllables next count)) old now
all_marked next at shaper count index start old now u past =
    let same = u.size in
    let whole = length (all_glyphs old) in
    let none : syllables_from next count u.most start ≡ [] = no_more u.most in
    let all : list_all (is_known shaper) (syllables next count) ≡ true = u.known ∙ ap (list_all (is_known shaper)) none in
    let stage : bytes_of shaper at (syllables next count) (view_of old) ≡ always (with_rule (bytes_set at 0 (syllables next count))) (view_of old) =
    ap (λ b. if b then always (with_rule (bytes_set at 0 (syllables next count))) (view_of old) else Err UnknownSyllableKind) all in
    let Q : List Syllable → Type 0 = λ ts. IsRewritten (bytes_set at index ts (items_of now)) 0 whole now now in
    let R : List Item → Type 0 = λ ys. IsRewritten (eventless_arrangement ys) 0 whole now now in
    let f = rewritten_follows (bytes_set at 0 (syllables next count)) old now
    (u.does now (subst Q (sym none) (subst R (take_all (whole - 0) (items_of now) (omega (arith, counted now, same))) (rewritten_same 0 whole now (omega arith) u.ready)))) in
    record { follows = subst (λ q. Follows q (state_of old) (state_of now)) (sym stage) f.follows; settings = f.settings; ready = f.ready }
  where
    no_more : (most : ℕ) → syllables_from next count most start ≡ []
    no_more zero = refl
    no_more (suc most) = let t : nat_lt start count ≡ false = grind (arith, nat_tests, past) in ap (λ b. if b then syllable_from next start ∷ syllables_from next count most (next start).0 else []) t

-- ---- the calls of the walk

-- a range that was written, and then flagged
pub syllable_done : (from to byte : ℕ) (gs : List hb_glyph_info_t) (a b : Sides) → IsReady a → from ≤ to → to ≤ length (all_glyphs a)
    → gs ≡ take from (all_glyphs a) ++ map (glyph_with_byte byte) (slice_range (all_glyphs a) from to) ++ drop to (all_glyphs a)
    → b ≡ range_flagged_apart 3 (Some from) (Some to) (with_refilled gs a) → items_of b ≡ items_of (with_refilled gs a)
    → origins_of b ≡ origins_by (Break (index_in_all from (with_refilled gs a)) (index_in_all to (with_refilled gs a)) ∷ []) (with_refilled gs a)
    → IsRewritten (one_syllable byte (slice_range (items_of a) from to)) from to a b
syllable_done from to byte gs a b ready le fits e marked items from_where =
    let f = part_written from to (map (with_byte byte) (slice_range (items_of a) from to)) (map (glyph_with_byte byte) (slice_range (all_glyphs a) from to)) gs a ready le fits e
    (items_with byte (slice_range (all_glyphs a) from to) ∙ ap (map (with_byte byte)) (range_stripped from to (all_glyphs a))) (origins_with byte (slice_range (all_glyphs a) from to)) in
    syllable_marked from to byte gs a b ready le fits e (break_happens from to (with_refilled gs a) b marked items from_where f.ready)

abbrev Goes : (ℕ → ℕ × ℕ) → (ℕ → ℕ) → hb_ot_script_shaper_t → ℕ → ℕ → ℕ → Sides → Sides → Sides → ℕ × ℕ → Type 0
Goes next at shaper count index start old now after p =
    start < p.0 → at start ≤ at p.0 → at p.0 ≤ length (all_glyphs old) → nat_lt p.1 (length (kinds_of shaper)) ≡ true
    → IsRewritten (one_syllable (syllable_byte index p.1) (slice_range (items_of now) (at start) (at p.0))) (at start) (at p.0) now after → IsMarking next at shaper count (index + 1) p.0 old after

-- a range by the spans' answer, and its index in the buffer
pub marked_by : (next : ℕ → ℕ × ℕ) (at : ℕ → ℕ) (shaper : hb_ot_script_shaper_t) (count index start : ℕ) (old now after : Sides) (p : ℕ × ℕ) (i j b : ℕ) → IsMarking next at shaper count index start old now → start < count
    → p ≡ next start → i ≡ at start → j ≡ at p.0 → b ≡ syllable_byte index p.1
    → start < p.0 → at start ≤ at p.0 → at p.0 ≤ length (all_glyphs old) → nat_lt p.1 (length (kinds_of shaper)) ≡ true
    → IsRewritten (one_syllable b (slice_range (items_of now) i j)) i j now after → IsMarking next at shaper count (index + 1) p.0 old after
marked_by next at shaper count index start old now after p i j b u lt e from to byte more le fits known f =
    let go : Goes next at shaper count index start old now after p = subst (Goes next at shaper count index start old now after) (sym e) (marked_on next at shaper count index start old now after u lt) in
    let P : ℕ → Type 0 = λ k. IsRewritten (one_syllable b (slice_range (items_of now) k j)) k j now after in
    let Q : ℕ → Type 0 = λ k. IsRewritten (one_syllable b (slice_range (items_of now) (at start) k)) (at start) k now after in
    let R : ℕ → Type 0 = λ k. IsRewritten (one_syllable k (slice_range (items_of now) (at start) (at p.0))) (at start) (at p.0) now after in
    go more le fits known (subst R byte (subst Q to (subst P from f)))

-- a kind that the spans answer and the shaper does not have
pub unknown_by : (next : ℕ → ℕ × ℕ) (at : ℕ → ℕ) (shaper : hb_ot_script_shaper_t) (count index start : ℕ) (old now : Sides) (p : ℕ × ℕ) → IsMarking next at shaper count index start old now → start < count
    → p ≡ next start → nat_lt p.1 (length (kinds_of shaper)) ≡ false → bytes_of shaper at (syllables next count) (view_of old) ≡ Err UnknownSyllableKind
unknown_by next at shaper count index start old now p u lt e f =
    unknown_kind next at shaper count index start old now u lt (ap (λ (q : ℕ × ℕ). nat_lt q.1 (length (kinds_of shaper))) (sym e) ∙ f)

-- ---- the categories of a text

pub categories_seen : (gs : List hb_glyph_info_t) → map (λ (g : hb_glyph_info_t). g.category) gs ≡ map (λ (x : Item). x.category) (strip gs)
categories_seen [] = refl
categories_seen (g ∷ gs) = ap (λ cs. g.category ∷ cs) (categories_seen gs)

syllables_meant : (span_of : hb_ot_script_shaper_t → List ℕ → ℕ → ℕ × ℕ) (shaper : hb_ot_script_shaper_t) (cs : List ℕ) (s : Sides) → cs ≡ map (λ (g : hb_glyph_info_t). g.category) (all_glyphs s)
    → syllables (span_of shaper cs) (length cs) ≡ text_syllables span_of shaper (items_of s)
syllables_meant span_of shaper cs s e =
    let seen : cs ≡ map (λ (x : Item). x.category) (items_of s) = e ∙ categories_seen (all_glyphs s) in
    ap (λ ds. syllables (span_of shaper ds) (length ds)) seen ∙ ap (syllables (span_of shaper (map (λ (x : Item). x.category) (items_of s)))) (length-map (items_of s) (λ (x : Item). x.category))

pub set_up : (span_of : hb_ot_script_shaper_t → List ℕ → ℕ → ℕ × ℕ) (shaper : hb_ot_script_shaper_t) (cs : List ℕ) (old new : Sides) (r : Result (Unit {0}) ShapeCause) → cs ≡ map (λ (g : hb_glyph_info_t). g.category) (all_glyphs old)
    → OnOk r (IsFollowed (bytes_of shaper itself (syllables (span_of shaper cs) (length cs))) old new) → OnOk r (IsFollowed (syllables_set span_of shaper) old new)
set_up span_of shaper cs old new (Err c) e f = tt
set_up span_of shaper cs old new (Ok a) e f =
    let stage : bytes_of shaper itself (syllables (span_of shaper cs) (length cs)) (view_of old) ≡ syllables_set span_of shaper (view_of old) = ap (λ ss. bytes_of shaper itself ss (view_of old)) (syllables_meant span_of shaper cs old e) in
    record { follows = subst (λ q. Follows q (state_of old) (state_of new)) stage f.follows; settings = f.settings; ready = f.ready }

pub set_up_refused : (span_of : hb_ot_script_shaper_t → List ℕ → ℕ → ℕ × ℕ) (shaper : hb_ot_script_shaper_t) (cs : List ℕ) (old : Sides) (r : Result (Unit {0}) ShapeCause) → cs ≡ map (λ (g : hb_glyph_info_t). g.category) (all_glyphs old)
    → IfErr r (λ (c : ShapeCause). bytes_of shaper itself (syllables (span_of shaper cs) (length cs)) (view_of old) ≡ Err c) → IfErr r (λ (c : ShapeCause). c ≢ OutOfMemory → syllables_set span_of shaper (view_of old) ≡ Err c)
set_up_refused span_of shaper cs old (Ok a) e f = tt
set_up_refused span_of shaper cs old (Err c) e f = λ other. ap (λ ss. bytes_of shaper itself ss (view_of old)) (sym (syllables_meant span_of shaper cs old e)) ∙ f
