-- Slices that are made glyph by glyph are those of the clusters.
use Rattle.std.proofs.Common.{ℕ, zero, suc, ◌≡◌, ◌≤◌, ◌<◌, ◌+◌, ◌-◌, ◌==◌, Bool, true, false, if◌then◌else◌, nat_lt, List, [], ◌∷◌, ◌++◌, length, map, take, drop, reverse, Option, None, Some, arith, refl, sym, ap, subst, ◌∙◌, append_assoc}
use Rattle.std.specs.Prelude.{replicate, slice_get}
use Rattle.std.specs.List.{flat_map}
use Rattle.std.proofs.lemmas.Bool.Decides.{nat_tests}
use Rattle.std.proofs.lemmas.Grind.{common_steps}
use Rattle.std.proofs.lemmas.List.{append-nil, length-append, map-append}
use Rattle.std.proofs.lemmas.List.Concat.{flat_map-append}
use Rattle.std.proofs.Math.Seq.{take-append_seam}
use Rattle.buffer_glyphs.specs.declared.info.hb_glyph_info_t.{hb_glyph_info_t}
use Rattle.buffer_glyphs.specs.Items.{clusters}
use Rattle.buffer_glyphs.specs.Order.{AllFrom, IsFalling, IsInOrder, IsRising}
use Rattle.buffer_glyphs.specs.Parts.{last_of}
use Rattle.buffer_parts.specs.Slices.{AreJoined, first_or, intervals, slices}
use Rattle.shape_slices.specs.declared.slices.SourceSlice.{SourceSlice}
use Rattle.shape_slices.specs.Runs.{AreSourceSlices, along_glyphs, byte_range, glyph_range, run_clusters}
use Rattle.shape_slices.specs.Walk.{last_with_glyph, one_glyph, with_glyph, with_glyph_by, with_glyphs}
use Rattle.shape_slices.proofs.Borders.{distinct_after, falling_borders, intervals_back, rising_borders, turned_intervals}

last_got : (front : List SourceSlice) (s : SourceSlice) → slice_get (front ++ s ∷ []) (length front) ≡ Some s
last_got [] s = refl
last_got (f ∷ front) s = last_got front s

-- the last of some slices
slices_last : (end at n : ℕ) (front : List SourceSlice) (s : SourceSlice) → with_glyph end at n (front ++ s ∷ []) ≡ front ++ last_with_glyph end at n s
slices_last end at n front s =
    let many = length-append front (s ∷ []) in
    let index : length (front ++ s ∷ []) - 1 ≡ length front = omega (arith, many) in
    ap (with_glyph_by end at n (front ++ s ∷ [])) (ap (slice_get (front ++ s ∷ [])) index ∙ last_got front s)
    ∙ ap (λ ss. ss ++ last_with_glyph end at n s) (ap (λ k. take k (front ++ s ∷ [])) index ∙ take-append_seam front (s ∷ []))

-- two slices pushed
pub two_pushed : (xs : List SourceSlice) (s t : SourceSlice) → (xs ++ s ∷ []) ++ t ∷ [] ≡ xs ++ s ∷ t ∷ []
two_pushed xs s t = append_assoc xs (s ∷ []) (t ∷ [])

-- ---- one glyph after another

-- what holds of slices whose last one is known, and of the clusters that are left, holds to the end
pub record IsWalked (end : ℕ) (P : ℕ → List SourceSlice → SourceSlice → List ℕ → Type 0) (Q : List SourceSlice → Type 0) : Type 0 where
  pub done : (at : ℕ) (front : List SourceSlice) (s : SourceSlice) → P at front s [] → Q (front ++ s ∷ [])
  pub same : (at n : ℕ) (front : List SourceSlice) (s : SourceSlice) (ns : List ℕ) → s.start ≡ n → P at front s (n ∷ ns) → P (at + 1) front (record s { end_glyph = at + 1 }) ns
  pub up : (at n : ℕ) (front : List SourceSlice) (s : SourceSlice) (ns : List ℕ) → s.start < n → P at front s (n ∷ ns) → P (at + 1) (front ++ record s { end = n } ∷ []) (one_glyph end at n) ns
  pub down : (at n : ℕ) (front : List SourceSlice) (s : SourceSlice) (ns : List ℕ) → n < s.start → P at front s (n ∷ ns) → P (at + 1) (front ++ s ∷ []) (one_glyph s.start at n) ns

-- what holds of the slices before the glyph at an index holds of all
abbrev Goes : (end : ℕ) → (ℕ → List SourceSlice → SourceSlice → List ℕ → Type 0) → (List SourceSlice → Type 0) → ℕ → List ℕ → Type 0
Goes end P Q at ns = (before : List SourceSlice) (r : SourceSlice) → P at before r ns → Q (with_glyphs end at ns (before ++ r ∷ []))

walked : (end : ℕ) (P : ℕ → List SourceSlice → SourceSlice → List ℕ → Type 0) (Q : List SourceSlice → Type 0) (at : ℕ) (front : List SourceSlice) (s : SourceSlice) (ns : List ℕ) → IsWalked end P Q → P at front s ns → Q (with_glyphs end at ns (front ++ s ∷ []))
walked end P Q at front s [] w p = w.done at front s p
walked end P Q at front s (n ∷ ns) w p = subst (λ (ss : List SourceSlice). Q (with_glyphs end (at + 1) ns ss)) (sym (slices_last end at n front s)) (by_same (s.start == n) refl (λ before r q. walked end P Q (at + 1) before r ns w q))
  where
    two : (t r : SourceSlice) → Q (with_glyphs end (at + 1) ns ((front ++ t ∷ []) ++ r ∷ [])) → Q (with_glyphs end (at + 1) ns (front ++ t ∷ r ∷ []))
    two t r q = subst (λ (ss : List SourceSlice). Q (with_glyphs end (at + 1) ns ss)) (append_assoc front (t ∷ []) (r ∷ [])) q

    by_side : (b : Bool) → nat_lt s.start n ≡ b → (s.start == n) ≡ false → Goes end P Q (at + 1) ns → Q (with_glyphs end (at + 1) ns (front ++ (if b then record s { end = n } ∷ one_glyph end at n ∷ [] else s ∷ one_glyph s.start at n ∷ [])))
    by_side true e other goes =
        let lt : s.start < n = grind (arith, nat_tests, e) in
        two (record s { end = n }) (one_glyph end at n) (goes (front ++ record s { end = n } ∷ []) (one_glyph end at n) (w.up at n front s ns lt p))
    by_side false e other goes =
        let lt : n < s.start = grind (arith, nat_tests, common_steps, e, other) in
        two s (one_glyph s.start at n) (goes (front ++ s ∷ []) (one_glyph s.start at n) (w.down at n front s ns lt p))

    by_same : (b : Bool) → (s.start == n) ≡ b → Goes end P Q (at + 1) ns → Q (with_glyphs end (at + 1) ns (front ++ (if b then record s { end_glyph = at + 1 } ∷ [] else if nat_lt s.start n then record s { end = n } ∷ one_glyph end at n ∷ [] else s ∷ one_glyph s.start at n ∷ [])))
    by_same true e goes = let same : s.start ≡ n = grind (arith, nat_tests, common_steps, e) in goes front (record s { end_glyph = at + 1 }) (w.same at n front s ns same p)
    by_same false e goes = by_side (nat_lt s.start n) refl e goes

-- ---- the glyphs of the runs

joined_last : (a b c : ℕ) (ss : List (ℕ × ℕ)) → AreJoined a b ss → b < c → AreJoined a c (ss ++ (b, c) ∷ [])
joined_last a b c [] e lt = (sym e, lt, refl)
joined_last a b c (s ∷ ss) (from, some, rest) lt = (from, some, joined_last s.1 b c ss rest lt)

ranges_last : (front : List SourceSlice) (s : SourceSlice) (to : ℕ) → AreJoined 0 s.first_glyph (map glyph_range front) → s.first_glyph < s.end_glyph → s.end_glyph ≡ to → AreJoined 0 to (map glyph_range (front ++ s ∷ []))
ranges_last front s to j lt e =
    subst (AreJoined 0 to) (sym (map-append glyph_range front (s ∷ [])))
    (subst (λ (k : ℕ). AreJoined 0 k (map glyph_range front ++ (s.first_glyph, s.end_glyph) ∷ [])) e (joined_last 0 s.first_glyph s.end_glyph (map glyph_range front) j lt))

pub record GlyphsWalked (total at : ℕ) (front : List SourceSlice) (s : SourceSlice) (ns : List ℕ) : Type 0 where
  pub before : AreJoined 0 s.first_glyph (map glyph_range front)
  pub some : s.first_glyph < s.end_glyph
  pub here : s.end_glyph ≡ at
  pub all : at + length ns ≡ total

glyphs_walked : (end total : ℕ) → IsWalked end (GlyphsWalked total) (λ ss. AreJoined 0 total (map glyph_range ss))
glyphs_walked end total = record {
  done = λ at front s p. let all = p.all in let here = p.here in ranges_last front s total p.before p.some (omega (arith, all, here));
  same = λ at n front s ns e p. let all = p.all in let some = p.some in let here = p.here in record { before = p.before; some = omega (arith, some, here); here = refl; all = omega (arith, all) };
  up = λ at n front s ns lt p. let all = p.all in record { before = ranges_last front (record s { end = n }) at p.before p.some p.here; some = omega arith; here = refl; all = omega (arith, all) };
  down = λ at n front s ns lt p. let all = p.all in record { before = ranges_last front s at p.before p.some p.here; some = omega arith; here = refl; all = omega (arith, all) };
}

-- ---- the clusters of the runs

next : (k : ℕ) → k + 1 ≡ suc k
next k = omega arith

more_copies : {X : Type 0} (k : ℕ) (x : X) (ys : List X) → replicate (suc k) x ++ ys ≡ replicate k x ++ x ∷ ys
more_copies zero x ys = refl
more_copies (suc k) x ys = ap (λ zs. x ∷ zs) (more_copies k x ys)

one_more : {X : Type 0} (k : ℕ) (x : X) (ys : List X) → replicate (k + 1) x ++ ys ≡ replicate k x ++ x ∷ ys
one_more k x ys = ap (λ j. replicate j x ++ ys) (next k) ∙ more_copies k x ys

clusters_last : (front : List SourceSlice) (s : SourceSlice) → flat_map run_clusters (front ++ s ∷ []) ≡ flat_map run_clusters front ++ run_clusters s
clusters_last front s = flat_map-append run_clusters front (s ∷ []) ∙ ap (λ ns. flat_map run_clusters front ++ ns) (append-nil (run_clusters s))

pub record ClustersWalked (whole : List ℕ) (at : ℕ) (front : List SourceSlice) (s : SourceSlice) (ns : List ℕ) : Type 0 where
  pub clusters : flat_map run_clusters front ++ (run_clusters s ++ ns) ≡ whole
  pub here : s.end_glyph ≡ at
  pub some : s.first_glyph ≤ at

clusters_walked : (end : ℕ) (whole : List ℕ) → IsWalked end (ClustersWalked whole) (λ ss. flat_map run_clusters ss ≡ whole)
clusters_walked end whole = record {
  done = λ at front s p. clusters_last front s ∙ ap (λ ns. flat_map run_clusters front ++ ns) (sym (append-nil (run_clusters s))) ∙ p.clusters;
  same = λ at n front s ns e p. record {
    clusters =
        let here = p.here in
        let some = p.some in
        let more : at + 1 - s.first_glyph ≡ s.end_glyph - s.first_glyph + 1 = omega (arith, here, some) in
        ap (λ k. flat_map run_clusters front ++ (replicate k s.start ++ ns)) more
        ∙ ap (λ ms. flat_map run_clusters front ++ ms) (one_more (s.end_glyph - s.first_glyph) s.start ns)
        ∙ ap (λ k. flat_map run_clusters front ++ (run_clusters s ++ k ∷ ns)) e
        ∙ p.clusters;
    here = refl;
    some = let some = p.some in omega (arith, some);
  };
  up = λ at n front s ns lt p. record { clusters = new_run at n front s (record s { end = n }) ns end (clusters_last front (record s { end = n })) ∙ p.clusters; here = refl; some = omega arith };
  down = λ at n front s ns lt p. record { clusters = new_run at n front s s ns s.start (clusters_last front s) ∙ p.clusters; here = refl; some = omega arith };
}
  where
    new_run : (at n : ℕ) (front : List SourceSlice) (s t : SourceSlice) (ns : List ℕ) (to : ℕ) → flat_map run_clusters (front ++ t ∷ []) ≡ flat_map run_clusters front ++ run_clusters s
        → flat_map run_clusters (front ++ t ∷ []) ++ (run_clusters (one_glyph to at n) ++ ns) ≡ flat_map run_clusters front ++ (run_clusters s ++ n ∷ ns)
    new_run at n front s t ns to e =
        let one : at + 1 - at ≡ 1 = omega arith in
        ap (λ k. flat_map run_clusters (front ++ t ∷ []) ++ (replicate k n ++ ns)) one
        ∙ ap (λ ms. ms ++ n ∷ ns) e ∙ append_assoc (flat_map run_clusters front) (run_clusters s) (n ∷ ns)

-- ---- the bytes of the runs

bytes_last : (front : List SourceSlice) (s : SourceSlice) (ss : List (ℕ × ℕ)) → map byte_range (front ++ s ∷ []) ++ ss ≡ map byte_range front ++ byte_range s ∷ ss
bytes_last front s ss = ap (λ ts. ts ++ ss) (map-append byte_range front (s ∷ [])) ∙ append_assoc (map byte_range front) (byte_range s ∷ []) ss

pub record RisingWalked (end : ℕ) (whole : List (ℕ × ℕ)) (at : ℕ) (front : List SourceSlice) (s : SourceSlice) (ns : List ℕ) : Type 0 where
  pub rises : IsRising (s.start ∷ ns)
  pub open_end : s.end ≡ end
  pub bytes : map byte_range front ++ intervals (s.start ∷ distinct_after s.start ns) end ≡ whole

same_after : (m n : ℕ) (ns : List ℕ) → m ≡ n → distinct_after m (n ∷ ns) ≡ distinct_after m ns
same_after m n ns e = let test : (m == n) ≡ true = grind (arith, common_steps, e) in rw test refl

other_after : (m n : ℕ) (ns : List ℕ) → (m == n) ≡ false → distinct_after m (n ∷ ns) ≡ n ∷ distinct_after n ns
other_after m n ns e = rw e refl

rising_walked : (end : ℕ) (whole : List (ℕ × ℕ)) → IsWalked end (RisingWalked end whole) (λ ss. map byte_range ss ≡ whole)
rising_walked end whole = record {
  done = λ at front s p. map-append byte_range front (s ∷ []) ∙ ap (λ e. map byte_range front ++ (s.start, e) ∷ []) p.open_end ∙ p.bytes;
  same = λ at n front s ns e p. record {
    rises = (p.rises.0.1, p.rises.1.1);
    open_end = p.open_end;
    bytes = ap (λ ms. map byte_range front ++ intervals (s.start ∷ ms) end) (sym (same_after s.start n ns e)) ∙ p.bytes;
  };
  up = λ at n front s ns lt p. record {
    rises = p.rises.1;
    open_end = refl;
    bytes =
        let other : (s.start == n) ≡ false = grind (arith, nat_tests, common_steps, lt) in
        bytes_last front (record s { end = n }) (intervals (n ∷ distinct_after n ns) end) ∙ ap (λ ms. map byte_range front ++ intervals (s.start ∷ ms) end) (sym (other_after s.start n ns other)) ∙ p.bytes;
  };
  down = λ at n front s ns lt p. absurd (let le = p.rises.0.0 in omega (arith, lt, le));
}

pub record FallingWalked (whole : List (ℕ × ℕ)) (at : ℕ) (front : List SourceSlice) (s : SourceSlice) (ns : List ℕ) : Type 0 where
  pub falls : IsFalling (s.start ∷ ns)
  pub bytes : map byte_range front ++ intervals_back s.end (s.start ∷ distinct_after s.start ns) ≡ whole

falling_walked : (end : ℕ) (whole : List (ℕ × ℕ)) → IsWalked end (FallingWalked whole) (λ ss. map byte_range ss ≡ whole)
falling_walked end whole = record {
  done = λ at front s p. map-append byte_range front (s ∷ []) ∙ p.bytes;
  same = λ at n front s ns e p. record {
    falls = (p.falls.0.1, p.falls.1.1);
    bytes = ap (λ ms. map byte_range front ++ intervals_back s.end (s.start ∷ ms)) (sym (same_after s.start n ns e)) ∙ p.bytes;
  };
  up = λ at n front s ns lt p. absurd (let le = p.falls.0.0 in omega (arith, lt, le));
  down = λ at n front s ns lt p. record {
    falls = p.falls.1;
    bytes =
        let other : (s.start == n) ≡ false = grind (arith, nat_tests, common_steps, lt) in
        bytes_last front s (intervals_back s.start (n ∷ distinct_after n ns)) ∙ ap (λ ms. map byte_range front ++ intervals_back s.end (s.start ∷ ms)) (sym (other_after s.start n ns other)) ∙ p.bytes;
  };
}

-- ---- all

walk_bytes : (n : ℕ) (ns : List ℕ) (end : ℕ) (falls : Bool) → IsInOrder falls (n ∷ ns) → map byte_range (with_glyphs end 1 ns (one_glyph end 0 n ∷ [])) ≡ along_glyphs falls (slices (n ∷ ns) end)
walk_bytes n ns end false h =
    walked end (RisingWalked end (intervals (n ∷ distinct_after n ns) end)) (λ ss. map byte_range ss ≡ intervals (n ∷ distinct_after n ns) end) 1 [] (one_glyph end 0 n) ns (rising_walked end (intervals (n ∷ distinct_after n ns) end)) (record { rises = h; open_end = refl; bytes = refl })
    ∙ ap (λ bs. intervals bs end) (sym (rising_borders n ns h))
walk_bytes n ns end true h =
    walked end (FallingWalked (intervals_back end (n ∷ distinct_after n ns))) (λ ss. map byte_range ss ≡ intervals_back end (n ∷ distinct_after n ns)) 1 [] (one_glyph end 0 n) ns (falling_walked end (intervals_back end (n ∷ distinct_after n ns))) (record { falls = h; bytes = refl })
    ∙ turned_intervals end (n ∷ distinct_after n ns) ∙ ap (λ bs. reverse (intervals bs end)) (sym (falling_borders n ns h))

none_along : (falls : Bool) → [] ≡ along_glyphs falls []
none_along false = refl
none_along true = refl

pub walk_gives_slices : (ns : List ℕ) (end : ℕ) → AreSourceSlices ns end (with_glyphs end 0 ns [])
walk_gives_slices [] end = record { glyphs = refl; clusters = refl; bytes = λ falls h. none_along falls }
walk_gives_slices (n ∷ ns) end = record {
  glyphs = walked end (GlyphsWalked (length (n ∷ ns))) (λ ss. AreJoined 0 (length (n ∷ ns)) (map glyph_range ss)) 1 [] (one_glyph end 0 n) ns (glyphs_walked end (length (n ∷ ns))) (record { before = refl; some = omega arith; here = refl; all = omega arith });
  clusters = walked end (ClustersWalked (n ∷ ns)) (λ ss. flat_map run_clusters ss ≡ n ∷ ns) 1 [] (one_glyph end 0 n) ns (clusters_walked end (n ∷ ns)) (record { clusters = refl; here = refl; some = omega arith });
  bytes = walk_bytes n ns end;
}

dropped : (at : ℕ) (gs : List hb_glyph_info_t) → length gs ≤ at → drop at gs ≡ []
dropped zero [] le = refl
dropped zero (g ∷ gs) le = absurd (omega (arith, le))
dropped (suc at) [] le = refl
dropped (suc at) (g ∷ gs) le = dropped at gs (omega (arith, le))

-- once all glyphs were walked
pub walk_ends : (gs : List hb_glyph_info_t) (end at : ℕ) (ss : List SourceSlice) → length gs ≤ at → with_glyphs end at (clusters (drop at gs)) ss ≡ with_glyphs end 0 (clusters gs) [] → AreSourceSlices (clusters gs) end ss
walk_ends gs end at ss le e = subst (AreSourceSlices (clusters gs) end) (sym e ∙ ap (λ hs. with_glyphs end at (clusters hs) ss) (dropped at gs le)) (walk_gives_slices (clusters gs) end)
