-- Arrangements that are output one after another.
use Rattle.std.proofs.Common.{ℕ, subst, ◌≡◌, ◌≤◌, ◌+◌, List, [], ◌∷◌, ◌++◌, length, map, refl, sym, ap, ap₂, ◌∙◌, append_assoc, arith}
use Rattle.std.proofs.lemmas.List.{append-nil, map-append, length-map, length-append}
use Rattle.buffer_glyphs.specs.declared.cause.ShapeCause.{ShapeCause}
use Rattle.buffer_glyphs.specs.Items.{Item, item_of, strip}
use Rattle.buffer_glyphs.specs.Origins.{origins}
use Rattle.buffer_glyphs.specs.Events.{Event, Merge, MergeGrapheme, Replace, Circle, Delete, Move, Arrange, Sort, Reverse, Break, Concat, Tatweel, StrictBreak, Spread, Reset, origins_after}
use Rattle.buffer_glyphs.specs.Lemmas.Origins.{origins_after_both}
use Rattle.buffer_core.specs.Sides.{Sides, all_glyphs, flag_requests_of}
use Rattle.buffer_glyphs.specs.Rewriting.{Arrangement, eventless_arrangement, shifted_event, beside, in_turn}
use Rattle.buffer_stages.specs.Appending.{AppendsArrangement, RefusesRoomFor}
use Rattle.buffer_stages.specs.Lemmas.Shifts.{shift_none as all_shifted_none, shift_by_none as shifted_none, shift_events as all_shifted_twice, shift_event as shifted_twice, further, none_more as none_further}

arranged_same : (a b : Arrangement) → a.items ≡ b.items → a.events ≡ b.events → a ≡ b
arranged_same a b items events = ap (λ xs. record { items = xs; events = a.events }) items ∙ ap (λ es. record { items = b.items; events = es }) events

pub none_beside : (a : Arrangement) → beside (eventless_arrangement []) a ≡ a
none_beside a = arranged_same (beside (eventless_arrangement []) a) a refl (all_shifted_none a.events)

pub beside_assoc : (a b d : Arrangement) → beside (beside a b) d ≡ beside a (beside b d)
beside_assoc a b d =
    let m = length a.items in
    let n = length b.items in
    arranged_same (beside (beside a b) d) (beside a (beside b d)) (append_assoc a.items b.items d.items)
    (append_assoc a.events (map (shifted_event m) b.events) (map (shifted_event (length (a.items ++ b.items))) d.events)
    ∙ ap (λ es. a.events ++ es)
    (ap (λ k. map (shifted_event m) b.events ++ map (shifted_event k) d.events) (length-append a.items b.items)
    ∙ ap (λ es. map (shifted_event m) b.events ++ es) (sym (all_shifted_twice m n d.events))
    ∙ sym (map-append (shifted_event m) b.events (map (shifted_event n) d.events))))

-- arrangements in turn, and more of them
pub in_turn_both : (ps qs : List Arrangement) → beside (in_turn ps) (in_turn qs) ≡ in_turn (ps ++ qs)
in_turn_both [] qs = none_beside (in_turn qs)
in_turn_both (a ∷ ps) qs = beside_assoc a (in_turn ps) (in_turn qs) ∙ ap (beside a) (in_turn_both ps qs)

pub none_behind : (a : Arrangement) → beside a (eventless_arrangement []) ≡ a
none_behind a = arranged_same (beside a (eventless_arrangement [])) a (append-nil a.items) (append-nil a.events)

count_behind : (a : Arrangement) (rest : List Item) (s t : Sides) → AppendsArrangement a rest s t → length t.behind ≡ length s.behind + length a.items
count_behind a rest s t f = sym (length-map t.behind item_of) ∙ ap length f.behind ∙ length-append (strip s.behind) a.items ∙ ap (λ n. n + length a.items) (length-map s.behind item_of)

-- one arrangement brought, and then another
pub brought_then : (a b : Arrangement) (xs ys : List Item) (s t u : Sides) → AppendsArrangement a xs s t → AppendsArrangement b ys t u → AppendsArrangement (beside a b) ys s u
brought_then a b xs ys s t u f g = record {
  behind = g.behind ∙ ap (λ zs. zs ++ b.items) f.behind ∙ append_assoc (strip s.behind) a.items b.items;
  ahead = g.ahead;
  happened =
      let n = length s.behind in
      let os = origins (all_glyphs s) in
      let es = map (shifted_event n) a.events in
      let fs = map (shifted_event n) (map (shifted_event (length a.items)) b.events) in
      let shifts : map (shifted_event (length t.behind)) b.events ≡ fs = ap (λ k. map (shifted_event k) b.events) (count_behind a xs s t f) ∙ sym (all_shifted_twice n (length a.items) b.events) in
      g.happened ∙ ap (λ q. origins_after q t.level (map (shifted_event (length t.behind)) b.events) (origins (all_glyphs t))) (ap flag_requests_of f.frame)
      ∙ ap (λ l. origins_after (flag_requests_of s) l (map (shifted_event (length t.behind)) b.events) (origins (all_glyphs t))) (ap (λ (v : Sides). v.level) f.frame)
      ∙ ap (λ hs. origins_after (flag_requests_of s) s.level hs (origins (all_glyphs t))) shifts ∙ ap (origins_after (flag_requests_of s) s.level fs) f.happened ∙ sym (origins_after_both (flag_requests_of s) s.level es fs os)
      ∙ ap (λ hs. origins_after (flag_requests_of s) s.level hs os) (sym (map-append (shifted_event n) a.events (map (shifted_event (length a.items)) b.events)));
  frame = g.frame ∙ f.frame;
}

pub brought_none : (s : Sides) → AppendsArrangement (in_turn []) (strip s.ahead) s s
brought_none s = record { behind = sym (append-nil (strip s.behind)); ahead = refl; happened = refl; frame = refl }

-- arrangements in turn, and one more
pub brought_more : (ps : List Arrangement) (a : Arrangement) (xs ys : List Item) (s t u : Sides) → AppendsArrangement (in_turn ps) xs s t → AppendsArrangement a ys t u → AppendsArrangement (in_turn (ps ++ a ∷ [])) ys s u
brought_more ps a xs ys s t u f g =
    subst (λ b. AppendsArrangement b ys s u) (ap (beside (in_turn ps)) (sym (none_behind a)) ∙ in_turn_both ps (a ∷ [])) (brought_then (in_turn ps) a xs ys s t u f g)

pub brought_both : (ps qs : List Arrangement) (xs ys : List Item) (s t u : Sides) → AppendsArrangement (in_turn ps) xs s t → AppendsArrangement (in_turn qs) ys t u → AppendsArrangement (in_turn (ps ++ qs)) ys s u
brought_both ps qs xs ys s t u f g = subst (λ b. AppendsArrangement b ys s u) (in_turn_both ps qs) (brought_then (in_turn ps) (in_turn qs) xs ys s t u f g)

-- ---- too many

pub items_both : (ps qs : List Arrangement) → (in_turn (ps ++ qs)).items ≡ (in_turn ps).items ++ (in_turn qs).items
items_both ps qs = ap (λ (a : Arrangement). a.items) (sym (in_turn_both ps qs))

pub overfills_more : (n m : ℕ) (e : ShapeCause) (s : Sides) → n ≤ m → RefusesRoomFor n e s → RefusesRoomFor m e s
overfills_more n m e s le f some = let over = (f some).1 in ((f some).0, omega (arith, le, over))

pub overfills_behind : (a : Arrangement) (rest : List Item) (n : ℕ) (e : ShapeCause) (s t : Sides) → AppendsArrangement a rest s t → RefusesRoomFor n e t → RefusesRoomFor (length a.items + n) e s
overfills_behind a rest n e s t b f some =
    let over = (f some).1 in
    let limit = ap (λ (q : Sides). q.max_len) b.frame in
    let count = count_behind a rest s t b in
    ((f some).0, omega (arith, over, limit, count))

-- arrangements that were output, others that are too many, and the rest
pub overfills_after : (ps qs more : List Arrangement) (rest : List Item) (e : ShapeCause) (s t : Sides) → AppendsArrangement (in_turn ps) rest s t → RefusesRoomFor (length (in_turn qs).items) e t → RefusesRoomFor (length (in_turn (ps ++ (qs ++ more))).items) e s
overfills_after ps qs more rest e s t b f =
    let one = ap length (items_both ps (qs ++ more)) in
    let two = ap length (items_both qs more) in
    let three = length-append (in_turn ps).items (in_turn (qs ++ more)).items in
    let four = length-append (in_turn qs).items (in_turn more).items in
    overfills_more (length (in_turn ps).items + length (in_turn qs).items) (length (in_turn (ps ++ (qs ++ more))).items) e s (omega (arith, one, two, three, four))
    (overfills_behind (in_turn ps) rest (length (in_turn qs).items) e s t b f)
