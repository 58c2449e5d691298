-- Runs of marks on a buffer, arranged in place.
use Rattle.std.proofs.Common.{ℕ, ◌≡◌, ◌≢◌, ◌≤◌, ◌<◌, ◌+◌, ◌-◌, ◌==◌, Bool, true, false, List, [], ◌∷◌, ◌++◌, length, map, take, drop, refl, sym, ap, ap₂, subst, ◌∙◌, append_assoc, arith, le-leb}
use Rattle.std.specs.Prelude.{slice_get, slice_range, option_map, Some}
use Rattle.std.proofs.lemmas.Bool.{cond-true, cond-false, lt-leb}
use Rattle.std.proofs.lemmas.List.{append-nil, length-map, length-append, length-drop, length-take-le, take-append-drop}
use Rattle.std.proofs.lemmas.List.Folds.{drop_split}
use Rattle.std.proofs.lemmas.Bool.Decides.{nat_tests}
use Rattle.std.proofs.lemmas.Option.{slice_get-map}
use Rattle.std.proofs.Math.Seq.{take-append_seam, drop-append_seam}
use Rattle.buffer_glyphs.specs.declared.info.hb_glyph_info_t.{hb_glyph_info_t}
use Rattle.buffer_glyphs.specs.Items.{Item, item_of, strip}
use Rattle.buffer_glyphs.specs.Events.{Sort}
use Rattle.buffer_lists.specs.Events.{order_of}
use Rattle.buffer_lists.specs.Sorting.{SpanMerge}
use Rattle.buffer_core.specs.Sides.{Sides, all_glyphs, items_of, origins_of, origins_by}
use Rattle.buffer_core.specs.Sorting.{with_spanned}
use Rattle.buffer_core.proofs.Told.{stage_flags_ignore_glyph_flags}
use Rattle.buffer_stages.specs.Ready.{IsReady}
use Rattle.buffer_rows.specs.KeyOrder.{key_order}
use Rattle.buffer_unicode_tables.specs.ClassOrder.{run_order}
use Rattle.buffer_glyphs.specs.Rewriting.{Arrangement, beside, in_turn, eventless_arrangement, shifted_event}
use Rattle.buffer_properties.specs.Characters.{mark_class}
use Rattle.buffer_properties.specs.Ordering.{arranged_run, arranged_runs, ordered_list, sorted_order}
use Rattle.buffer_stages.specs.Appending.{frame_of}
use Rattle.buffer_stages.specs.Rearranged.{IsRearranged, Rearranges}
use Rattle.shape_normalize.proofs.Lemmas.Chain.{in_turn_both, items_both}
use Rattle.shape_normalize.specs.Runs.{in_class_order, RunsOn, Meets}
use Rattle.shape_normalize.proofs.Sorted.{sorted_order_is}
use Rattle.shape_normalize.proofs.Walk.{by_frame}
use Rattle.buffer_stages.specs.Lemmas.Shifts.{shift_none as all_shifted_none}
use Rattle.buffer_lists.specs.Lemmas.Picked.{got_after as get_seam}

-- ---- a sort

sort_frame : (t : SpanMerge) (s new : Sides) → new ≡ with_spanned t s → frame_of new ≡ frame_of s
sort_frame t s new e = ap frame_of e ∙ ap (λ n. record s { behind = []; ahead = []; is_apart = false; read = 0; scratch_flags = n }) (stage_flags_ignore_glyph_flags t.is_marked s.scratch_flags)

pub sort_ready : (t : SpanMerge) (s new : Sides) → IsReady s → new ≡ with_spanned t s → length (all_glyphs new) ≡ length (all_glyphs s) → IsReady new
sort_ready t s new ready e count = record {
  closed = ap (λ (q : Sides). q.is_open) e ∙ ready.closed;
  front = ap (λ (q : Sides). q.behind) e ∙ ap (λ (ys : List hb_glyph_info_t). take (length ys) t.glyphs) ready.front;
  unread = ap (λ (q : Sides). q.read) e ∙ ready.unread;
  placed = ap (λ (q : Sides). length q.positions) e ∙ ready.placed ∙ sym count;
  unrefused = ap (λ (q : Sides). q.has_refused) e ∙ ready.unrefused;
}

front_of : (front run rest xs : List Item) (start : ℕ) → xs ≡ front ++ (run ++ rest) → length front ≡ start → take start xs ≡ front
front_of front run rest xs start e len = ap₂ take (sym len) e ∙ take-append_seam front (run ++ rest)

behind_front : (front run rest xs : List Item) (start : ℕ) → xs ≡ front ++ (run ++ rest) → length front ≡ start → drop start xs ≡ run ++ rest
behind_front front run rest xs start e len = ap₂ drop (sym len) e ∙ drop-append_seam front (run ++ rest)

run_of : (front run rest xs : List Item) (start end : ℕ) → xs ≡ front ++ (run ++ rest) → length front ≡ start → start + length run ≡ end → slice_range xs start end ≡ run
run_of front run rest xs start end e len upto =
    ap (take (end - start)) (behind_front front run rest xs start e len) ∙ ap (λ n. take n (run ++ rest)) (omega (arith, upto)) ∙ take-append_seam run rest

rest_of : (front run rest xs : List Item) (start end : ℕ) → xs ≡ front ++ (run ++ rest) → length front ≡ start → start + length run ≡ end → drop end xs ≡ rest
rest_of front run rest xs start end e len upto =
    ap₂ drop (let all = length-append front run in omega (arith, all, len, upto)) (e ∙ sym (append_assoc front run rest)) ∙ drop-append_seam (front ++ run) rest

sorted_items : (run : List Item) → key_order mark_class run ≡ (in_class_order run).items
unfolding run_order
sorted_items run = refl

pub sort_rearranges : (t : SpanMerge) (start end : ℕ) (s new : Sides) → IsReady s → new ≡ with_spanned t s → length (all_glyphs new) ≡ length (all_glyphs s)
    → items_of new ≡ take start (items_of s) ++ key_order mark_class (slice_range (items_of s) start end) ++ drop end (items_of s)
    → origins_of new ≡ origins_by (Sort start (order_of (map mark_class (slice_range (items_of s) start end))) ∷ []) s → Rearranges in_class_order start end s new
sort_rearranges t start end s new ready e count items happened front run rest is len upto =
    let xs = items_of s in
    let one : take start (items_of s) ≡ front = front_of front run rest (items_of s) start is len in
    let two : slice_range (items_of s) start end ≡ run = run_of front run rest (items_of s) start end is len upto in
    let three : drop end (items_of s) ≡ rest = rest_of front run rest (items_of s) start end is len upto in
    let index : start ≡ length front + 0 = omega (arith, len) in
    record {
      items =
          items ∙ ap₂ (λ ys zs. ys ++ zs) (ap₂ (λ ys zs. ys ++ key_order mark_class zs) one two) three ∙ append_assoc front (key_order mark_class run) rest
          ∙ ap (λ ys. front ++ (ys ++ rest)) (sorted_items run);
      happened =
          happened ∙ ap (λ ys. origins_by (Sort start (order_of (map mark_class ys)) ∷ []) s) two ∙ ap (λ os. origins_by (Sort start os ∷ []) s) (sym (sorted_order_is (map mark_class run)))
          ∙ ap (λ n. origins_by (Sort n (sorted_order (map mark_class run)) ∷ []) s) index;
      frame = sort_frame t s new e;
      ready = sort_ready t s new ready e count;
    }

-- ---- a run

stays : (front run rest : List Item) (s : Sides) → items_of s ≡ front ++ (run ++ rest) → IsReady s → IsRearranged front (eventless_arrangement run) rest s s
stays front run rest s e ready = record { items = e; happened = refl; frame = refl; ready = ready }

pub none_arranged : (r : List Item → Arrangement) (start end : ℕ) (s : Sides) → IsReady s → end - start ≡ 0 → start ≤ end → Rearranges (arranged_run r) start end s s
unfolding arranged_run
none_arranged r start end s ready none le front [] rest e len upto = stays front [] rest s e ready
none_arranged r start end s ready none le front (x ∷ run) rest e len upto = absurd (omega (arith, none, le, upto))

pub long_stays : (r : List Item → Arrangement) (start end : ℕ) (s : Sides) → IsReady s → 32 < end - start → Rearranges (arranged_run r) start end s s
unfolding arranged_run
long_stays r start end s ready long front [] rest e len upto = absurd (omega (arith, long, upto))
long_stays r start end s ready long front (x ∷ run) rest e len upto =
    subst (λ a. IsRearranged front a rest s s) (sym (cond-false _ _ _ (lt-leb (length (x ∷ run)) 32 (omega (arith, long, upto))))) (stays front (x ∷ run) rest s e ready)

-- a run that was sorted, and then rewritten
pub short_arranged : (r : List Item → Arrangement) (start end : ℕ) (s t u : Sides) → end - start ≢ 0 → end - start ≤ 32 → length (all_glyphs t) ≡ length (all_glyphs s)
    → Rearranges in_class_order start end s t → Rearranges r start end t u → Rearranges (arranged_run r) start end s u
unfolding arranged_run
short_arranged r start end s t u some few count sorted rewritten front [] rest e len upto = absurd (some (omega (arith, upto)))
short_arranged r start end s t u some few count sorted rewritten front (x ∷ run) rest e len upto =
    let one = sorted front (x ∷ run) rest e len upto in
    let ys = run_order mark_class (x ∷ run) in
    let all_s = ap (λ (zs : List Item). length zs) e in
    let all_t = ap (λ (zs : List Item). length zs) one.items in
    let many : length (run_order mark_class (x ∷ run)) ≡ length (x ∷ run) =
    omega (
      arith,
      all_s,
      all_t,
      count,
      length-map (all_glyphs s) item_of,
      length-map (all_glyphs t) item_of,
      length-append front ((x ∷ run) ++ rest),
      length-append (x ∷ run) rest,
      length-append front (run_order mark_class (x ∷ run) ++ rest),
      length-append (run_order mark_class (x ∷ run)) rest,
    ) in
    let two = rewritten front (run_order mark_class (x ∷ run)) rest one.items len (ap (λ n. start + n) many ∙ upto) in
    subst (λ a. IsRearranged front a rest s u) (sym (cond-true _ _ _ (le-leb (length (x ∷ run)) 32 (omega (arith, few, upto)))))
    (record {
      items = two.items;
      happened =
          by_frame (map (shifted_event (length front)) (r (run_order mark_class (x ∷ run))).events) (map (shifted_event (length front)) (in_class_order (x ∷ run)).events) s t u one.frame one.happened two.happened;
      frame = two.frame ∙ one.frame;
      ready = two.ready;
    })

-- a rewriting of as many items
pub rewritten_count : (r : List Item → Arrangement) (start end : ℕ) (t u : Sides) → ((run : List Item) → length (r run).items ≡ length run) → start ≤ end → end ≤ length (all_glyphs t) → Rearranges r start end t u
    → length (all_glyphs u) ≡ length (all_glyphs t)
rewritten_count r start end t u keeps le within goes =
    let xs = items_of t in
    let many = length-map (all_glyphs t) item_of in
    let cut : items_of t ≡ take start (items_of t) ++ (slice_range (items_of t) start end ++ drop end (items_of t)) =
    sym (take-append-drop start (items_of t)) ∙ ap (λ ys. take start (items_of t) ++ ys) (drop_split (items_of t) start end le) in
    let one : length (take start (items_of t)) ≡ start = length-take-le start (items_of t) (omega (arith, le, within, many)) in
    let all = ap (λ (ys : List Item). length ys) cut in
    let three = length-drop end (items_of t) in
    let sides = length-append (take start (items_of t)) (slice_range (items_of t) start end ++ drop end (items_of t)) in
    let more = length-append (slice_range (items_of t) start end) (drop end (items_of t)) in
    let two : start + length (slice_range (items_of t) start end) ≡ end = omega (arith, one, all, three, sides, more, le, within, many) in
    let is = goes (take start (items_of t)) (slice_range (items_of t) start end) (drop end (items_of t)) cut one two in
    let now = ap (λ (ys : List Item). length ys) is.items in
    let eventless_arrangement = keeps (slice_range (items_of t) start end) in
    omega (
      arith,
      now,
      eventless_arrangement,
      all,
      sides,
      more,
      length-map (all_glyphs u) item_of,
      many,
      length-append (take start (items_of t)) ((r (slice_range (items_of t) start end)).items ++ drop end (items_of t)),
      length-append (r (slice_range (items_of t) start end)).items (drop end (items_of t)),
    )

-- ---- the item at an index

item_there : (gs : List hb_glyph_info_t) (front : List Item) (y : Item) (ys : List Item) (g : hb_glyph_info_t) → strip gs ≡ front ++ y ∷ ys → slice_get gs (length front) ≡ Some g → item_of g ≡ y
item_there gs front y ys g seen at =
    let both : Some (item_of g) ≡ Some y = sym (slice_get-map item_of gs (length front) ∙ ap (option_map item_of) at) ∙ ap (λ xs. slice_get xs (length front)) seen ∙ get_seam front y ys in
    cc

pub item_met : (i : ℕ) (front run : List Item) (y : Item) (ys : List Item) (start : ℕ) (g : hb_glyph_info_t) (s : Sides) → items_of s ≡ front ++ (run ++ y ∷ ys) → length front ≡ start → start + length run ≡ i → slice_get (all_glyphs s) i ≡ Some g
    → item_of g ≡ y
item_met i front run y ys start g s e len upto at =
    let index : i ≡ length (front ++ run) = let all = length-append front run in omega (arith, all, len, upto) in
    item_there (all_glyphs s) (front ++ run) y ys g (e ∙ sym (append_assoc front run (y ∷ ys))) (ap (slice_get (all_glyphs s)) (sym index) ∙ at)

pub run_goes_on : (r : List Item → Arrangement) (start i n : ℕ) (g : hb_glyph_info_t) (s : Sides) → slice_get (all_glyphs s) i ≡ Some g → n ≡ mark_class (item_of g) → n ≢ 0 → Meets r start i start s s
run_goes_on r start i n g s at class some front run y ys e len upto =
    let is : n ≡ mark_class y = class ∙ ap mark_class (item_met i front run y ys start g s e len upto at) in
    let t : (mark_class y == 0) ≡ false = grind (arith, nat_tests, is, some) in
    subst (λ b. RunsOn b r front run (y ∷ ys) start i start s s) (sym t) (refl, refl)

pub run_ends : (r : List Item → Arrangement) (start i n : ℕ) (g : hb_glyph_info_t) (s u : Sides) → slice_get (all_glyphs s) i ≡ Some g → n ≡ mark_class (item_of g) → n ≡ 0 → length (all_glyphs u) ≡ length (all_glyphs s)
    → Rearranges (arranged_run r) start i s u → Meets r start i (i + 1) s u
run_ends r start i n g s u at class none count goes front run y ys e len upto =
    let is : n ≡ mark_class y = class ∙ ap mark_class (item_met i front run y ys start g s e len upto at) in
    let t : (mark_class y == 0) ≡ true = grind (arith, nat_tests, is, none) in
    let there = goes front run (y ∷ ys) e len upto in
    let before = ap (λ (zs : List Item). length zs) e in
    let after = ap (λ (zs : List Item). length zs) there.items in
    let many : length (arranged_run r run).items ≡ length run =
    omega (
      arith,
      before,
      after,
      count,
      length-map (all_glyphs s) item_of,
      length-map (all_glyphs u) item_of,
      length-append front (run ++ y ∷ ys),
      length-append run (y ∷ ys),
      length-append front ((arranged_run r run).items ++ y ∷ ys),
      length-append (arranged_run r run).items (y ∷ ys),
    ) in
    subst (λ b. RunsOn b r front run (y ∷ ys) start i (i + 1) s u) (sym t) (refl, many, there)

-- ---- all runs

-- so many items were met; the run met last begins there
pub record IsOrdering (r : List Item → Arrangement) (count at start : ℕ) (s now : Sides) : Type 0 where
  pub ps : List Arrangement
  pub run : List Item
  pub ys : List Item
  pub items : items_of now ≡ (in_turn ps).items ++ (run ++ ys)
  pub begins : length (in_turn ps).items ≡ start
  pub met : start + length run ≡ at
  pub left : length ys + at ≡ count
  pub happened : origins_of now ≡ origins_by (in_turn ps).events s
  pub frame : frame_of now ≡ frame_of s
  pub ready : IsReady now
  pub whole : ps ++ arranged_runs r run ys ≡ arranged_runs r [] (items_of s)

pub ordering_begun : (r : List Item → Arrangement) (count : ℕ) (s : Sides) → IsReady s → count ≡ length (all_glyphs s) → IsOrdering r count 0 0 s s
ordering_begun r count s ready len = record {
  ps = [];
  run = [];
  ys = items_of s;
  items = refl;
  begins = refl;
  met = refl;
  left = omega (arith, len, length-map (all_glyphs s) item_of);
  happened = refl;
  frame = refl;
  ready = ready;
  whole = refl;
}

-- what was arranged, and then a run and the starter after it
turned : (ps : List Arrangement) (a : Arrangement) (y : Item) → (in_turn (ps ++ a ∷ eventless_arrangement (y ∷ []) ∷ [])).items ≡ (in_turn ps).items ++ (a.items ++ y ∷ [])
turned ps a y = items_both ps (a ∷ eventless_arrangement (y ∷ []) ∷ [])

happens : (ps : List Arrangement) (a : Arrangement) (y : Item) → (in_turn (ps ++ a ∷ eventless_arrangement (y ∷ []) ∷ [])).events ≡ (in_turn ps).events ++ map (shifted_event (length (in_turn ps).items)) a.events
happens ps a y =
    ap (λ (b : Arrangement). b.events) (sym (in_turn_both ps (a ∷ eventless_arrangement (y ∷ []) ∷ [])))
    ∙ ap (λ es. (in_turn ps).events ++ map (shifted_event (length (in_turn ps).items)) es) (append-nil a.events)

pub ordering_more : (r : List Item → Arrangement) (count at start n : ℕ) (s now next : Sides) → at < count → IsOrdering r count at start s now → Meets r start at n now next → IsOrdering r count (at + 1) n s next
ordering_more r count at start n s now next lt w goes = by_case w.ys refl
  where
    by_case : (zs : List Item) → w.ys ≡ zs → IsOrdering r count (at + 1) n s next
    by_case [] e = absurd (let none = ap length e in let left = w.left in omega (arith, none, left, lt))
    by_case (y ∷ ys) e = by_class (mark_class y == 0) refl (goes (in_turn w.ps).items w.run y ys seen w.begins w.met)
      where
        seen : items_of now ≡ (in_turn w.ps).items ++ (w.run ++ y ∷ ys)
        seen = w.items ∙ ap (λ zs. (in_turn w.ps).items ++ (w.run ++ zs)) e

        less : length ys + (at + 1) ≡ count
        less = let left = w.left in let some = ap length e in omega (arith, left, some)

        by_class : (t : Bool) → (mark_class y == 0) ≡ t → RunsOn t r (in_turn w.ps).items w.run (y ∷ ys) start at n now next → IsOrdering r count (at + 1) n s next
        by_class true t on =
            let is = on.2 in
            let a = arranged_run r w.run in
            record {
              ps = w.ps ++ arranged_run r w.run ∷ eventless_arrangement (y ∷ []) ∷ [];
              run = [];
              ys = ys;
              items =
                  is.items
                  ∙ ap (λ zs. (in_turn w.ps).items ++ zs) (sym (append_assoc (arranged_run r w.run).items (y ∷ []) ys))
                  ∙ sym (append_assoc (in_turn w.ps).items ((arranged_run r w.run).items ++ y ∷ []) ys) ∙ ap (λ zs. zs ++ ys) (sym (turned w.ps (arranged_run r w.run) y));
              begins =
                  let all = ap (λ (zs : List Item). length zs) (turned w.ps (arranged_run r w.run) y) in
                  let many = on.1 in
                  let begins = w.begins in
                  let met = w.met in
                  let next = on.0 in
                  omega (arith, all, many, begins, met, next, length-append (in_turn w.ps).items ((arranged_run r w.run).items ++ y ∷ []), length-append (arranged_run r w.run).items (y ∷ []));
              met = let next = on.0 in omega (arith, next);
              left = less;
              happened =
                  by_frame (map (shifted_event (length (in_turn w.ps).items)) (arranged_run r w.run).events) (in_turn w.ps).events s now next w.frame w.happened is.happened
                  ∙ ap (λ es. origins_by es s) (sym (happens w.ps (arranged_run r w.run) y));
              frame = is.frame ∙ w.frame;
              ready = is.ready;
              whole =
                  append_assoc w.ps (arranged_run r w.run ∷ eventless_arrangement (y ∷ []) ∷ []) (arranged_runs r [] ys) ∙ ap (λ ps. w.ps ++ ps) (sym (ap (arranged_runs r w.run) e ∙ cond-true _ _ _ t)) ∙ w.whole;
            }
        by_class false t on = record {
          ps = w.ps;
          run = w.run ++ y ∷ [];
          ys = ys;
          items = ap items_of on.1 ∙ seen ∙ ap (λ zs. (in_turn w.ps).items ++ zs) (sym (append_assoc w.run (y ∷ []) ys));
          begins = w.begins ∙ sym on.0;
          met = let next = on.0 in let met = w.met in omega (arith, next, met, length-append w.run (y ∷ []));
          left = less;
          happened = ap origins_of on.1 ∙ w.happened;
          frame = ap frame_of on.1 ∙ w.frame;
          ready = subst IsReady (sym on.1) w.ready;
          whole = ap (λ ps. w.ps ++ ps) (sym (ap (arranged_runs r w.run) e ∙ cond-false _ _ _ t)) ∙ w.whole;
        }

pub ordering_done : (r : List Item → Arrangement) (count at start : ℕ) (s now next : Sides) → count ≤ at → IsOrdering r count at start s now → Rearranges (arranged_run r) start count now next → IsRearranged [] (ordered_list r (items_of s)) [] s next
ordering_done r count at start s now next le w goes = by_case w.ys refl
  where
    by_case : (zs : List Item) → w.ys ≡ zs → IsRearranged [] (ordered_list r (items_of s)) [] s next
    by_case (y ∷ ys) e = absurd (let some = ap length e in let left = w.left in omega (arith, some, left, le))
    by_case [] e =
        let a = arranged_run r w.run in
        let upto : start + length w.run ≡ count = let none = ap length e in let left = w.left in let met = w.met in omega (arith, none, left, met) in
        let is = goes (in_turn w.ps).items w.run [] (w.items ∙ ap (λ zs. (in_turn w.ps).items ++ (w.run ++ zs)) e) w.begins upto in
        let whole : in_turn (w.ps ++ arranged_run r w.run ∷ []) ≡ ordered_list r (items_of s) = ap in_turn (ap (λ zs. w.ps ++ arranged_runs r w.run zs) (sym e) ∙ w.whole) in
        let both : beside (in_turn w.ps) (in_turn (arranged_run r w.run ∷ [])) ≡ ordered_list r (items_of s) = in_turn_both w.ps (arranged_run r w.run ∷ []) ∙ whole in
        record {
          items = is.items ∙ ap (λ (b : Arrangement). b.items) both ∙ sym (append-nil (ordered_list r (items_of s)).items);
          happened =
              by_frame (map (shifted_event (length (in_turn w.ps).items)) (arranged_run r w.run).events) (in_turn w.ps).events s now next w.frame w.happened is.happened
              ∙ ap (λ es. origins_by ((in_turn w.ps).events ++ map (shifted_event (length (in_turn w.ps).items)) es) s) (sym (append-nil (arranged_run r w.run).events))
              ∙ ap (λ (b : Arrangement). origins_by b.events s) both ∙ ap (λ es. origins_by es s) (sym (all_shifted_none (ordered_list r (items_of s)).events));
          frame = is.frame ∙ w.frame;
          ready = is.ready;
        }
