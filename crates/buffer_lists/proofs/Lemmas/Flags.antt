-- Flags are spread over the runs of clusters.
use Rattle.std.specs.Int.RustNames.{bit_and, bit_or}
use Rattle.std.proofs.Common.{ℕ, ◌≡◌, ◌<◌, ◌+◌, ◌==◌, Bool, true, false, if◌then◌else◌, List, [], ◌∷◌, ◌++◌, Some, None, Option, length, take, drop, set, get_or, arith, ap, sym, subst, ◌∙◌, append_assoc}
use Rattle.buffer_glyphs.specs.declared.info.hb_glyph_info_t.{hb_glyph_info_t as Glyph}
use Rattle.buffer_glyphs.specs.Items.{glyph_flags, glyph_masked, item_masked, item_of, without_flags}
use Rattle.buffer_glyphs.specs.Origins.{Asks, Origin, origin_of, origins, concat_settled, run_flags, settled_flags, origins_spread_after, tatweel_settled}
use Rattle.buffer_lists.specs.Flags.{before_of, cluster_flags}
use Rattle.std.proofs.lemmas.List.{drop_more, drop-set-lt, map-append, take_more_set}
use Rattle.std.proofs.lemmas.Nat.{and_le_r, and_mask, or_lt}
use Rattle.buffer_glyphs.specs.Lemmas.Handed.{flags_defined as defined}

-- ---- no flag is other than the three

or_defined : (m n : ℕ) → m < 8 → n < 8 → bit_or m n < 8
or_defined m n a b = or_lt 3 m n a b

run_defined : (c : ℕ) (gs : List Glyph) → run_flags c (origins gs) < 8
run_defined c [] = omega arith
run_defined c (g ∷ gs) = elim (g.cluster == c) as (λ t. (if t then bit_or (glyph_flags g) (run_flags c (origins gs)) else 0) < 8) [ true ↦ or_defined (glyph_flags g) (run_flags c (origins gs)) (defined g.mask) (run_defined c gs) | false ↦ omega arith ]

tatweel_defined : (asked : Bool) (m : ℕ) → m < 8 → tatweel_settled asked m < 8
tatweel_defined false m lt = lt
tatweel_defined true m lt =
    let first : bit_and m 3 < 8 = (let low = and_mask m 2 in omega (arith, low)) in
    elim (bit_and m 1 == 1) as (λ t. (if t then bit_and m 3 else if bit_and m 4 == 4 then bit_or m 3 else m) < 8) [
      | true ↦ first
      | false ↦ elim (bit_and m 4 == 4) as (λ t. (if t then bit_or m 3 else m) < 8) [ true ↦ or_defined m 3 lt (omega arith) | false ↦ lt ]
    ]

concat_defined : (asked : Bool) (m : ℕ) → m < 8 → concat_settled asked m < 8
concat_defined true m lt = lt
concat_defined false m lt = let least = and_le_r m 5 in omega (arith, least)

cluster_defined : (asks : Asks) (before : Option Glyph) (gs : List Glyph) → cluster_flags asks before gs < 8
cluster_defined asks before [] = omega arith
cluster_defined asks None (g ∷ gs) = concat_defined asks.concat _ (tatweel_defined asks.tatweel _ (run_defined g.cluster (g ∷ gs)))
cluster_defined asks (Some p) (g ∷ gs) =
    elim (p.cluster == g.cluster) as (λ t. (if t then glyph_flags p else settled_flags asks (run_flags g.cluster (origins (g ∷ gs)))) < 8)
    [ true ↦ defined p.mask | false ↦ concat_defined asks.concat _ (tatweel_defined asks.tatweel _ (run_defined g.cluster (g ∷ gs))) ]

same_defined : (m : ℕ) → m < 8 → bit_and m 7 ≡ m
same_defined m lt = let low = and_mask m 3 in omega (arith, low)

-- ---- one step of the walk

-- a mask of flags alone has no other bit
pub flagged_item : (flags : ℕ) (g : Glyph) → item_of (glyph_masked (bit_and flags 7) g) ≡ item_masked 0 (item_of g)
flagged_item flags g = ap (λ (m : ℕ). record (item_of g) { mask = m }) (none_else flags)
  where
    none_else : (m : ℕ) → without_flags (bit_and m 7) ≡ 0
    none_else m = rw (same_defined (bit_and m 7) (defined m)) (omega arith)

flagged_origin : (flags : ℕ) (g : Glyph) → flags < 8 → origin_of (glyph_masked (bit_and flags 7) g) ≡ record { cluster = g.cluster; flags = flags }
flagged_origin flags g lt = ap (λ (f : ℕ). record { cluster = g.cluster; flags = f }) (same_defined (bit_and flags 7) (defined flags) ∙ same_defined flags lt)

pub spread_step : (asks : Asks) (before : Option Glyph) (at flags : ℕ) (gs : List Glyph) (d g : Glyph) (whole : List Origin) → at < length gs → flags ≡ cluster_flags asks before (drop at gs) → g ≡ glyph_masked (bit_and flags 7) (get_or gs at d)
    → origins (take at gs) ++ origins_spread_after asks (before_of before) (origins (drop at gs)) ≡ whole
    → origins (take (at + 1) (set gs at g)) ++ origins_spread_after asks (Some (origin_of g)) (origins (drop (at + 1) (set gs at g))) ≡ whole
spread_step asks before at flags gs d g whole lt f e prior =
    let h = get_or gs at d in
    let rest = drop (at + 1) gs in
    let front = origins (take at gs) in
    let cut : drop at gs ≡ h ∷ rest = drop_more gs at d lt in
    let now : Origin = record { cluster = h.cluster; flags = cluster_flags asks before (h ∷ rest) } in
    let same : flags ≡ cluster_flags asks before (h ∷ rest) = f ∙ ap (cluster_flags asks before) cut in
    let small : flags < 8 = subst (λ (n : ℕ). n < 8) (sym same) (cluster_defined asks before (h ∷ rest)) in
    let is : origin_of g ≡ now = ap origin_of e ∙ flagged_origin flags h small ∙ ap (λ (n : ℕ). record { cluster = h.cluster; flags = n }) same in
    let taken : origins (take (at + 1) (set gs at g)) ≡ front ++ origin_of g ∷ [] = ap origins (take_more_set gs at g lt) ∙ map-append origin_of (take at gs) (g ∷ []) in
    let left : drop (at + 1) (set gs at g) ≡ rest = drop-set-lt (at + 1) gs at g (omega arith) in
    ap (λ os. os ++ origins_spread_after asks (Some (origin_of g)) (origins (drop (at + 1) (set gs at g)))) taken ∙ ap (λ hs. (front ++ origin_of g ∷ []) ++ origins_spread_after asks (Some (origin_of g)) (origins hs)) left
    ∙ append_assoc front (origin_of g ∷ []) (origins_spread_after asks (Some (origin_of g)) (origins rest)) ∙ ap (λ (o : Origin). front ++ o ∷ origins_spread_after asks (Some o) (origins rest)) is
    ∙ ap (λ hs. front ++ origins_spread_after asks (before_of before) (origins hs)) (sym cut) ∙ prior
