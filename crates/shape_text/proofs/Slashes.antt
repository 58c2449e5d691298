-- A slash and what is around it.
use Rattle.std.proofs.Common.{ℕ, suc, ◌≡◌, ◌≤◌, ◌<◌, ◌+◌, ◌-◌, ◌==◌, ◌||◌, Bool, true, false, if◌then◌else◌, List, [], ◌∷◌, length, Some, Ok, nat_lt, get_or, arith, refl, sym, ap, subst, ◌∙◌}
use Rattle.std.specs.Prelude.{bit_and, bit_or}
use Rattle.std.specs.Prelude.{Option}
use Rattle.std.specs.Option.{option_map_or}
use Rattle.std.proofs.lemmas.List.{length-map}
use Rattle.std.proofs.lemmas.Nat.{and_or_apart}
use Rattle.std.proofs.lemmas.Option.{slice_get-get_or}
use Rattle.std.proofs.Math.Numerals.{add-one}
use Rattle.buffer_common.specs.declared.direction.Direction.{Direction}
use Rattle.buffer_common.specs.Direction.{is_backward}
use Rattle.buffer_glyphs.specs.declared.info.hb_glyph_info_t.{hb_glyph_info_t}
use Rattle.buffer_glyphs.specs.Items.{Item, item_of, strip}
use Rattle.buffer_glyphs.specs.Events.{Break, Concat, Event}
use Rattle.buffer_glyphs.specs.Glyphs.{glyphs_flagged}
use Rattle.buffer_core.specs.Readings.{Read, View, always, state_after, with_events}
use Rattle.buffer_core.specs.Steps.{follows_then}
use Rattle.buffer_core.specs.Marking.{requests_concat, concat_marked, with_flagged}
use Rattle.buffer_core.specs.Merging.{index_in_all}
use Rattle.buffer_core.specs.Sides.{Sides, all_glyphs, items_of, origins_by, origins_of, state_of, settings_of, view_of}
use Rattle.buffer_stages.specs.Ready.{IsReady}
use Rattle.buffer_stages.proofs.Lemmas.Happened.{call_happens, nothing_happens, whole_index}
use Rattle.buffer_stages.specs.Lemmas.Written.{happened_followed, happens_followed}
use Rattle.buffer_stages.specs.Stages.{Becomes, Happens, IsFollowed}
use Rattle.shape_text.specs.declared.fractions.FractionMasks.{FractionMasks}
use Rattle.shape_text.specs.Fractions.{around_slash, fraction_at, digits_before, digits_after, first_mask, fraction_items, fractions_to, is_slash, is_slash_at, last_mask, with_features_within, with_fractions}
use Rattle.shape_text.proofs.RangeMasks.{become_both, items_now}
use Rattle.buffer_glyphs.proofs.Lists.{get_or_mapped}
use Rattle.buffer_facts.proofs.Bits.{either_without_three_bits as one_flagless, both_without_three_bits as both_flagless}

-- ---- masks without glyph flags

pub first_flagless : (d : Direction) (m : FractionMasks) → bit_and m.frac 7 ≡ 0 → bit_and m.numr 7 ≡ 0 → bit_and m.dnom 7 ≡ 0 → bit_and (first_mask d m) 7 ≡ 0
first_flagless d m f n e = both_flagless m.frac (if is_backward d then m.dnom else m.numr) f (one_flagless (is_backward d) m.dnom m.numr e n)

pub last_flagless : (d : Direction) (m : FractionMasks) → bit_and m.frac 7 ≡ 0 → bit_and m.numr 7 ≡ 0 → bit_and m.dnom 7 ≡ 0 → bit_and (last_mask d m) 7 ≡ 0
last_flagless d m f n e = both_flagless m.frac (if is_backward d then m.numr else m.dnom) f (one_flagless (is_backward d) m.numr m.dnom n e)

-- ---- a fraction

pub fraction_becomes : (m : FractionMasks) (start at end : ℕ) (s a b c : Sides)
    → Becomes (with_features_within (first_mask s.direction m) start at (items_of s)) s.positions s a
    → Becomes (with_features_within m.frac at (at + 1) (items_of a)) a.positions a b
    → Becomes (with_features_within (last_mask s.direction m) (at + 1) end (items_of b)) b.positions b c
    → Becomes (fraction_items s.direction m start at end (items_of s)) s.positions s c
fraction_becomes m start at end s a b c f g h =
    let xs = with_features_within (first_mask s.direction m) start at (items_of s) in
    let ys = with_features_within m.frac at (at + 1) xs in
    let g' : Becomes ys a.positions a b = subst (λ zs. Becomes (with_features_within m.frac at (at + 1) zs) a.positions a b) (items_now xs s a f) g in
    let fg : Becomes ys s.positions s b = become_both xs ys s a b f g' in
    let h' : Becomes (with_features_within (last_mask s.direction m) (at + 1) end ys) b.positions b c =
    subst (λ zs. Becomes (with_features_within (last_mask s.direction m) (at + 1) end zs) b.positions b c) (items_now ys s b fg) h in
    become_both ys (with_features_within (last_mask s.direction m) (at + 1) end ys) s b c fg h'

-- ---- a slash

concat_cases : (b : Bool) (es : List Event) (i j : ℕ) (s new : Sides) → new ≡ (if b then with_flagged 2 i j s else s) → items_of new ≡ items_of s → origins_of new ≡ origins_by es s → IsReady s → Happens es s new
concat_cases true es i j s new e items origins ready = call_happens (glyphs_flagged 2 i j (all_glyphs s)) (nat_lt i j) es s new e items origins ready
concat_cases false es i j s new e items origins ready = record {
  view = ap view_of e;
  origins = origins;
  settings = ap settings_of e;
  ready = subst IsReady (sym e) ready;
}

pub concat_happens : (from to : ℕ) (s new : Sides) → new ≡ concat_marked (Some from) (Some to) s → items_of new ≡ items_of s
    → origins_of new ≡ origins_by (Concat (index_in_all from s) (index_in_all to s) ∷ []) s → IsReady s → Happens (Concat from to ∷ []) s new
concat_happens from to s new e items origins ready =
    concat_cases (requests_concat s) (Concat from to ∷ []) (index_in_all from s) (index_in_all to s) s new e items
    (origins ∙ ap (λ i. origins_by (Concat i (index_in_all to s) ∷ []) s) (whole_index from s ready) ∙ ap (λ i. origins_by (Concat from i ∷ []) s) (whole_index to s ready)) ready

same_view_many : (s new : Sides) → view_of new ≡ view_of s → length (all_glyphs new) ≡ length (all_glyphs s)
same_view_many s new e = sym (length-map (all_glyphs new) item_of) ∙ ap (λ (v : View). length v.items) e ∙ length-map (all_glyphs s) item_of

pub happens_as_many : (es : List Event) (s new : Sides) → Happens es s new → length (all_glyphs new) ≡ length (all_glyphs s)
happens_as_many es s new h = same_view_many s new h.view

around_cases : (b : Bool) (r q w : Read) → b ≡ true → w ≡ r → (if b then r else q) ≡ w
around_cases true r q w e f = sym f
around_cases false r q w e f = cc e

between_cases : (b : Bool) (r q w : Read) → b ≡ false → w ≡ q → (if b then r else q) ≡ w
between_cases true r q w e f = cc e
between_cases false r q w e f = sym f

alone_followed : (m : FractionMasks) (at before after : ℕ) (s new : Sides) → (before == 0 || after == 0) ≡ true → Happens (Concat at (at + 1) ∷ []) s new
    → IsFollowed (always (around_slash m at before after)) s new
alone_followed m at before after s new e h =
    happens_followed (Concat at (at + 1) ∷ []) s new (always (around_slash m at before after)) h
    (ap (λ (r : Read). Ok r) (around_cases (before == 0 || after == 0) _ _ (with_events (Concat at (at + 1) ∷ []) (view_of s)) e refl))

between_followed : (m : FractionMasks) (at before after : ℕ) (s mid new : Sides) → (before == 0 || after == 0) ≡ false → Happens (Break (at - before) (at + 1 + after) ∷ []) s mid
    → Becomes (fraction_items mid.direction m (at - before) at (at + 1 + after) (items_of mid)) mid.positions mid new → IsFollowed (always (around_slash m at before after)) s new
between_followed m at before after s mid new e h b =
    let es = Break (at - before) (at + 1 + after) ∷ [] in
    let F : View → View = λ v. record v { items = fraction_items v.direction m (at - before) at (at + 1 + after) v.items } in
    happened_followed es (F (view_of s)) (always (around_slash m at before after)) s new (b.view ∙ ap F h.view) (b.origins ∙ h.origins) (b.settings ∙ h.settings) b.ready
    (ap (λ (r : Read). Ok r) (between_cases (before == 0 || after == 0) _ _ (with_events es (F (view_of s))) e refl))

pub slash_alone : (m : FractionMasks) (start at end : ℕ) (s new : Sides) → (at - start == 0 || end - (at + 1) == 0) ≡ true → Happens (Concat at (at + 1) ∷ []) s new
    → IsFollowed (always (around_slash m at (at - start) (end - (at + 1)))) s new
slash_alone m start at end s new e h = alone_followed m at (at - start) (end - (at + 1)) s new e h

pub slash_between : (m : FractionMasks) (start at end : ℕ) (s mid new : Sides) → start ≤ at → at < end → (at - start == 0 || end - (at + 1) == 0) ≡ false → Happens (Break start end ∷ []) s mid
    → Becomes (fraction_items mid.direction m start at end (items_of mid)) mid.positions mid new → IsFollowed (always (around_slash m at (at - start) (end - (at + 1)))) s new
slash_between m start at end s mid new le lt e h b =
    let first : start ≡ at - (at - start) = omega (arith, le) in
    let last : end ≡ at + 1 + (end - (at + 1)) = omega (arith, lt) in
    let h' : Happens (Break (at - (at - start)) (at + 1 + (end - (at + 1))) ∷ []) s mid =
    subst (λ j. Happens (Break (at - (at - start)) j ∷ []) s mid) last (subst (λ i. Happens (Break i end ∷ []) s mid) first h) in
    let b' : Becomes (fraction_items mid.direction m (at - (at - start)) at (at + 1 + (end - (at + 1))) (items_of mid)) mid.positions mid new =
    subst (λ j. Becomes (fraction_items mid.direction m (at - (at - start)) at j (items_of mid)) mid.positions mid new) last
    (subst (λ i. Becomes (fraction_items mid.direction m i at end (items_of mid)) mid.positions mid new) first b) in
    between_followed m at (at - start) (end - (at + 1)) s mid new e h' b'

-- ---- an index

slash_there : (gs : List hb_glyph_info_t) (at : ℕ) (d : hb_glyph_info_t) → at < length gs → is_slash_at at (strip gs) ≡ is_slash (item_of (get_or gs at d))
slash_there gs at d lt =
    let same = length-map gs item_of in
    ap (λ (o : Option Item). option_map_or is_slash o false) (slice_get-get_or (strip gs) at (item_of d) (omega (arith, lt, same))) ∙ ap is_slash (get_or_mapped item_of gs at d)

-- a stage that reads what another reads
read_alike : (f g : View → Read) (s new : Sides) → f (view_of s) ≡ g (view_of s) → IsFollowed (always f) s new → IsFollowed (always g) s new
read_alike f g s new e h = record { follows = h.follows ∙ ap (λ r. state_after r (state_of s)) e; settings = h.settings; ready = h.ready }

pub fraction_at_slash : (m : FractionMasks) (at before after : ℕ) (d : hb_glyph_info_t) (s new : Sides) → at < length (all_glyphs s) → is_slash (item_of (get_or (all_glyphs s) at d)) ≡ true
    → before ≡ digits_before at (items_of s) → after ≡ digits_after at (items_of s) → IsFollowed (always (around_slash m at before after)) s new → IsFollowed (always (fraction_at m at)) s new
fraction_at_slash m at before after d s new lt e b a f =
    let there = slash_there (all_glyphs s) at d lt ∙ e in
    read_alike (around_slash m at before after) (fraction_at m at) s new
    (ap (λ n. around_slash m at n after (view_of s)) b ∙ ap (λ n. around_slash m at (digits_before at (items_of s)) n (view_of s)) a
    ∙ sym (around_cases (is_slash_at at (items_of s)) _ _ _ there refl)) f

pub fraction_at_none : (m : FractionMasks) (at : ℕ) (d : hb_glyph_info_t) (s : Sides) → at < length (all_glyphs s) → is_slash (item_of (get_or (all_glyphs s) at d)) ≡ false
    → IsReady s → IsFollowed (always (fraction_at m at)) s s
fraction_at_none m at d s lt e ready =
    let there = slash_there (all_glyphs s) at d lt ∙ e in
    happens_followed [] s s (always (fraction_at m at)) (nothing_happens s ready) (ap (λ (r : Read). Ok r) (between_cases (is_slash_at at (items_of s)) _ _ (with_events [] (view_of s)) there refl))

-- ---- one index after another

pub record DoneTo (m : FractionMasks) (n : ℕ) (s now : Sides) : Type 0 where
  pub followed : IsFollowed (always (fractions_to m n)) s now
  pub as_many : length (all_glyphs now) ≡ length (all_glyphs s)

pub none_done : (m : FractionMasks) (s : Sides) → IsReady s → DoneTo m 0 s s
none_done m s ready = record { followed = happens_followed [] s s (always (fractions_to m 0)) (nothing_happens s ready) refl; as_many = refl }

next_followed : (m : FractionMasks) (n : ℕ) (s now new : Sides) → IsFollowed (always (fractions_to m n)) s now → IsFollowed (always (fraction_at m n)) now new → IsFollowed (always (fractions_to m (suc n))) s new
next_followed m n s now new f g = record {
  follows = follows_then (Ok (fractions_to m n (view_of s))) (always (fraction_at m n)) (state_of s) (state_of now) (state_of new) f.follows g.follows;
  settings = g.settings ∙ f.settings;
  ready = g.ready;
}

pub next_done : (m : FractionMasks) (n : ℕ) (s now new : Sides) → DoneTo m n s now → IsFollowed (always (fraction_at m n)) now new → length (all_glyphs new) ≡ length (all_glyphs now) → DoneTo m (n + 1) s new
next_done m n s now new d g same =
    let next : suc n ≡ n + 1 = sym (add-one n) in
    subst (λ k. DoneTo m k s new) next (record { followed = next_followed m n s now new d.followed g; as_many = same ∙ d.as_many })

pub all_done : (m : FractionMasks) (n : ℕ) (s now : Sides) → n ≡ length (all_glyphs s) → DoneTo m n s now → IsFollowed (always (with_fractions m)) s now
all_done m n s now e d = read_alike (fractions_to m n) (with_fractions m) s now (ap (λ k. fractions_to m k (view_of s)) (e ∙ sym (length-map (all_glyphs s) item_of))) d.followed
