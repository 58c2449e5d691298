-- What is known of the order of clusters, after each call.
use Rattle.std.proofs.Common.{take, None, Some, ℕ, ◌≡◌, ◌≤◌, ◌<◌, ◌+◌, ◌-◌, arith, Bool, true, false, if◌then◌else◌, List, [], ◌∷◌, ◌++◌, length, map, drop, reverse, get_or, set, refl, ap, sym, subst, ◌∙◌}
use Rattle.std.proofs.lemmas.List.{map-append, take-map, drop-map, drop-drop, take-append-drop, length-map, map-set, set-set, length-set, set-get_or, get_or-map}
use Rattle.buffer_glyphs.specs.declared.info.hb_glyph_info_t.{hb_glyph_info_t}
use Rattle.buffer_glyphs.specs.declared.position.GlyphPosition.{GlyphPosition}
use Rattle.buffer_glyphs.specs.Items.{clusters}
use Rattle.buffer_glyphs.specs.Parts.{range_of}
use Rattle.buffer_glyphs.specs.Order.{IsOrdered}
use Rattle.buffer_glyphs.specs.Lemmas.Drawn.{IsDrawn, past, drawn_second, drawn_drop, drawn_take}
use Rattle.buffer_glyphs.specs.Lemmas.Parts.{order_drawn}
use Rattle.std.specs.Global.{Vec}
use Rattle.buffer_core.specs.declared.buffer.hb_buffer_t.TheInside.{Inside}
use Rattle.buffer_core.specs.Inside.{all_clusters, list_clusters, sides_of, IsSound}
use Rattle.buffer_core.specs.Sides.{all_glyphs}
use Rattle.buffer_lists.specs.declared.order.KnownOrder.{KnownOrder}
use Rattle.buffer_lists.specs.declared.order.KnownOrder.TheVariants.{Unknown, Rising, Falling}
use Rattle.buffer_lists.specs.declared.order.ClusterOrder.{ClusterOrder}
use Rattle.buffer_lists.specs.Known.{HasOrder, is_known}
use Rattle.buffer_lists.proofs.Ordered.{known_ordered}
use Rattle.buffer_lists.specs.Masks.{glyph_masked}
use Rattle.buffer_glyphs.specs.Lemmas.EventParts.{map-reverse}

pub clusters_reversed : (gs : List hb_glyph_info_t) → reverse (clusters gs) ≡ clusters (reverse gs)
clusters_reversed gs = sym (map-reverse (λ (g : hb_glyph_info_t). g.cluster) gs)

pub clusters_masked : (m : ℕ) (gs : List hb_glyph_info_t) → clusters (map (glyph_masked m) gs) ≡ clusters gs
clusters_masked m [] = refl
clusters_masked m (g ∷ gs) = ap (λ ns. g.cluster ∷ ns) (clusters_masked m gs)

-- a glyph that was lent and came back, and then its cluster put back
pub clusters_back : (gs : List hb_glyph_info_t) (i : ℕ) (g d : hb_glyph_info_t) → i < length gs → clusters gs ≡ set (clusters (set gs i g)) i (get_or gs i d).cluster
clusters_back gs i g d lt =
    let f : hb_glyph_info_t → ℕ = λ h. h.cluster in
    let seen : get_or (clusters gs) i (f d) ≡ (get_or gs i d).cluster = get_or-map f gs i d (f d) lt in
    sym (ap (λ ns. set ns i (get_or gs i d).cluster) (map-set f gs i g) ∙ set-set (clusters gs) i (f g) (get_or gs i d).cluster ∙ ap (set (clusters gs) i) (sym seen) ∙ set-get_or (clusters gs) i (f d))

order_drawn_known : (o : KnownOrder) (xs ys : List ℕ) → IsDrawn xs ys → HasOrder o xs → HasOrder o ys
order_drawn_known Unknown xs ys d h = tt
order_drawn_known Rising xs ys d h = order_drawn false d h
order_drawn_known Falling xs ys d h = order_drawn true d h

-- a glyph of the input went
pub order_skipped : (o : KnownOrder) (front ns : List ℕ) (n : ℕ) → HasOrder o (front ++ drop n ns) → HasOrder o (front ++ drop (n + 1) ns)
order_skipped o front ns n h = rw (← drop-drop 1 n ns) (order_drawn_known o (front ++ drop n ns) (front ++ drop 1 (drop n ns)) (drawn_second front (drawn_drop 1 (drop n ns))) h)

drawn_pass : (xs ys : List ℕ) → IsDrawn (xs ++ ys) ys
drawn_pass [] ys = drawn_drop 0 ys
drawn_pass (x ∷ xs) ys = past x (xs ++ ys) ys (drawn_pass xs ys)

-- a range of what is left of the input is in order
pub range_ordered : (o : KnownOrder) (start end n : ℕ) (front : List ℕ) (info : List hb_glyph_info_t) → n ≤ start → is_known o ≡ true → HasOrder o (front ++ drop n (clusters info)) → IsOrdered (range_of start end (clusters info))
range_ordered o start end n front info le is h =
    let ns = clusters info in
    let left : HasOrder o (drop n ns) = order_drawn_known o (front ++ drop n ns) (drop n ns) (drawn_pass front (drop n ns)) h in
    let there : n + (start - n) ≡ start = omega (arith, le) in
    let from : HasOrder o (drop start ns) = subst (HasOrder o) (drop-drop (start - n) n ns ∙ ap (λ (k : ℕ). drop k ns) there) (order_drawn_known o (drop n ns) (drop (start - n) (drop n ns)) (drawn_drop (start - n) (drop n ns)) left) in
    known_ordered o (range_of start end ns) is (order_drawn_known o (drop start ns) (take (end - start) (drop start ns)) (drawn_take (end - start) (drop start ns)) from)

-- the clusters of all glyphs, as the list has them
abbrev pub own_clusters : Inside → List ℕ
own_clusters b = if b.have_output then take b.out_len (clusters b.info.items) ++ drop b.idx (clusters b.info.items) else clusters b.info.items

pub all_own : (b : Inside) → clusters (all_glyphs (sides_of b)) ≡ own_clusters b
all_own b = by_open b.have_output refl
  where
    f : hb_glyph_info_t → ℕ
    f g = g.cluster

    by_open : (t : Bool) → b.have_output ≡ t → clusters (all_glyphs (sides_of b)) ≡ own_clusters b
    by_open true h = rw h (map-append f (take b.out_len b.info.items) (drop b.idx b.info.items) ∙ ap (λ ns. ns ++ clusters (drop b.idx b.info.items)) (sym (take-map f b.out_len b.info.items)) ∙ ap (λ ns. take b.out_len (clusters b.info.items) ++ ns) (sym (drop-map f b.idx b.info.items)))
    by_open false h = rw h (ap clusters (take-append-drop b.idx b.info.items))

-- what is known once a lent glyph is back
pub settled_own : (b : Inside) (o : KnownOrder) → IsSound b
    → ((m n : ℕ) → HasOrder b.order.known (take m (list_clusters b) ++ drop n (list_clusters b)) → HasOrder o (take m (clusters b.info.items) ++ drop n (clusters b.info.items)))
    → HasOrder o (own_clusters b)
settled_own b o s settle = by_test b.have_output s.ordered
  where
    by_test : (t : Bool) → HasOrder b.order.known (if t then take b.out_len (list_clusters b) ++ drop b.idx (list_clusters b) else list_clusters b)
        → HasOrder o (if t then take b.out_len (clusters b.info.items) ++ drop b.idx (clusters b.info.items) else clusters b.info.items)
    by_test true h = settle b.out_len b.idx h
    by_test false h = settle 0 0 h

-- the same of the glyphs that clients see
pub settled_all : (b : Inside) (o : KnownOrder) → IsSound b
    → ((m n : ℕ) → HasOrder b.order.known (take m (list_clusters b) ++ drop n (list_clusters b)) → HasOrder o (take m (clusters b.info.items) ++ drop n (clusters b.info.items)))
    → HasOrder o (clusters (all_glyphs (sides_of b)))
settled_all b o s settle = subst (HasOrder o) (sym (all_own b)) (settled_own b o s settle)

-- where no glyph is lent, in a list of the same clusters
pub none_lent : (b : Inside) (o : KnownOrder) (info : Vec hb_glyph_info_t) (order : ClusterOrder) → order.lent ≡ None → clusters info.items ≡ clusters b.info.items → HasOrder o (own_clusters b)
    → HasOrder o (all_clusters (record b { info = info; order = order }))
none_lent b o info order e same h = rw (e, same) h

-- as many other glyphs in the list, with another order known of them
pub sound_as_many : (b : Inside) (info : Vec hb_glyph_info_t) (order : ClusterOrder) (flags : ℕ) → IsSound b → length info.items ≡ length b.info.items
    → HasOrder order.known (all_clusters (record b { info = info; order = order }))
    → IsSound (record b { info = info; order = order; scratch_flags = flags })
sound_as_many b info order flags s e h =
    record {
      cursor = rw e s.cursor;
      opened = s.opened;
      unopened = s.unopened;
      input_within = rw e s.input_within;
      output_within = s.output_within;
      out_len = s.out_len;
      together = s.together;
      placed = rw e s.placed;
      counted = rw e s.counted;
      cleared = s.cleared;
      ordered = h;
    }

-- the same with as many other positions
pub sound_placed : (b : Inside) (info : Vec hb_glyph_info_t) (positions : Vec GlyphPosition) (order : ClusterOrder) → IsSound b → length info.items ≡ length b.info.items → length positions.items ≡ length b.pos.items
    → HasOrder order.known (all_clusters (record b { info = info; order = order }))
    → IsSound (record b { info = info; pos = positions; is_placed = true; order = order })
sound_placed b info positions order s e p h =
    record {
      cursor = rw e s.cursor;
      opened = s.opened;
      unopened = s.unopened;
      input_within = rw e s.input_within;
      output_within = s.output_within;
      out_len = s.out_len;
      together = s.together;
      placed = rw (e, p) s.placed;
      counted = rw (e, p) s.counted;
      cleared = tt;
      ordered = h;
    }

-- the same glyphs, or others of the same clusters, with no glyph lent
pub sound_settled : (b : Inside) (info : Vec hb_glyph_info_t) (order : ClusterOrder) → IsSound b → clusters info.items ≡ clusters b.info.items → order.lent ≡ None → HasOrder order.known (own_clusters b)
    → IsSound (record b { info = info; order = order })
sound_settled b info order s same back h =
    sound_as_many b info order b.scratch_flags s (sym (length-map info.items (λ (g : hb_glyph_info_t). g.cluster)) ∙ ap length same ∙ length-map b.info.items (λ (g : hb_glyph_info_t). g.cluster)) (none_lent b order.known info order back same h)

pub sound_same : (b : Inside) (info : Vec hb_glyph_info_t) → IsSound b → clusters info.items ≡ clusters b.info.items → IsSound (record b { info = info })
sound_same b info s same =
    sound_as_many b info b.order b.scratch_flags s (sym (length-map info.items (λ (g : hb_glyph_info_t). g.cluster)) ∙ ap length same ∙ length-map b.info.items (λ (g : hb_glyph_info_t). g.cluster)) (rw same s.ordered)

-- a glyph that was lent and came back
pub sound_lent : (b : Inside) (o : KnownOrder) (info : Vec hb_glyph_info_t) (i : ℕ) (g d : hb_glyph_info_t) → IsSound b → i < length b.info.items → info.items ≡ set b.info.items i g → HasOrder o (own_clusters b)
    → IsSound (record b { info = info; order = record { known = o; lent = Some (record { at = i; cluster = (get_or b.info.items i d).cluster }) } })
sound_lent b o info i g d s lt e h =
    sound_as_many b info (record { known = o; lent = Some (record { at = i; cluster = (get_or b.info.items i d).cluster }) }) b.scratch_flags s (ap length e ∙ length-set b.info.items i g)
    (rw (e, ← clusters_back b.info.items i g d lt) h)

-- a range of the glyphs ahead is in order
pub range_known : (b : Inside) (o : KnownOrder) (start end : ℕ) → (if b.have_output then b.idx else 0) ≤ start → is_known o ≡ true → HasOrder o (own_clusters b) → IsOrdered (range_of start end (clusters b.info.items))
range_known b o start end le is h = by_open b.have_output refl
  where
    by_open : (t : Bool) → b.have_output ≡ t → IsOrdered (range_of start end (clusters b.info.items))
    by_open true e = range_ordered o start end b.idx (take b.out_len (clusters b.info.items)) b.info.items (rw e at le) is (rw e at h)
    by_open false e = range_ordered o start end 0 [] b.info.items (omega arith) is (rw e at h)

-- a glyph of the input went
pub known_skipped : (b : Inside) → b.have_output ≡ true → HasOrder b.order.known (all_clusters b) → HasOrder b.order.known (all_clusters (record b { idx = b.idx + 1 }))
known_skipped b h o = rw h (order_skipped b.order.known (take b.out_len (list_clusters b)) (list_clusters b) b.idx (rw h at o))

-- an output was opened
pub known_opened : (b : Inside) → b.have_output ≡ false → HasOrder b.order.known (all_clusters b) → HasOrder b.order.known (list_clusters b)
known_opened b h o = rw h at o
