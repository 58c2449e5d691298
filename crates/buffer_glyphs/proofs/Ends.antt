-- In order, the glyphs that a merge changes are those of its range and of the runs at its two ends.
use Rattle.std.specs.Prelude.{slice_range}
use borrow.Rule.Slice.PartMut.{put_mid}
use Rattle.std.proofs.Common.{ℕ, zero, suc, ◌≡◌, ◌≢◌, ◌≤◌, ◌<◌, ◌+◌, ◌-◌, ◌==◌, inl, inr, Bool, true, false, if◌then◌else◌, List, [], ◌∷◌, ◌++◌, length, map, take, drop, get_or, arith, refl, ap, sym, subst, ◌∙◌, append_assoc}
use Rattle.std.proofs.lemmas.Grind.{common_steps}
use Rattle.std.proofs.lemmas.List.{map-append, take-append-drop, drop-drop, drop_more, take_more, take_rest, drop_all, append-nil, get_or_default}
use Rattle.buffer_glyphs.specs.declared.info.hb_glyph_info_t.{hb_glyph_info_t}
use Rattle.buffer_glyphs.specs.Items.{clusters}
use Rattle.buffer_glyphs.specs.Order.{IsChain, IsOrdered, has_number}
use Rattle.buffer_glyphs.specs.Merges.{least_number, merged_number}
use Rattle.buffer_glyphs.specs.Glyphs.{in_cluster, glyphs_merged, glyphs_renumbered}
use Rattle.buffer_glyphs.specs.Lemmas.Parts.{Stands, stands_self}
use Rattle.buffer_glyphs.specs.Lemmas.Ends.{from_first, from_has}
use Rattle.buffer_glyphs.specs.Lemmas.Merges.{chain_left, chain_right, chain_across}
use Rattle.buffer_glyphs.specs.Lemmas.Numbers.{Has, has_here, has_more, has_right, has_cases}
use Rattle.buffer_glyphs.specs.Lemmas.Glyphs.{same_cluster}
use Rattle.buffer_facts.proofs.Numbers.{same_by_test as equal_test, apart_by_test as differ_test, test_of_apart as apart_test}

-- a relation by which no two numbers stand on both sides of each other
abbrev pub IsAnti : (ℕ → ℕ → Type 0) → Type 0
IsAnti R = (m n : ℕ) → R m n → R n m → m ≡ n

pub stands_anti : (falls : Bool) → IsAnti (Stands falls)
stands_anti false m n h k = omega arith
stands_anti true m n h k = omega arith

in_its_cluster : (c : ℕ) (g : hb_glyph_info_t) → (g.cluster == c) ≡ true → in_cluster c g ≡ g
in_its_cluster c g e = rw e refl

none_renamed : (c low : ℕ) (gs : List hb_glyph_info_t) → ((n : ℕ) → Has (clusters gs) n → n ≢ c) → glyphs_renumbered c low gs ≡ gs
none_renamed c low [] none = refl
none_renamed c low (g ∷ gs) none =
    let off : (g.cluster == c) ≡ false = apart_test g.cluster c (none g.cluster (has_here g.cluster (clusters gs))) in
    let rest = none_renamed c low gs (λ n h. none n (has_more g.cluster n (clusters gs) h)) in
    rw (off, rest) refl

pub renamed_self : (c : ℕ) (gs : List hb_glyph_info_t) → glyphs_renumbered c c gs ≡ gs
renamed_self c [] = refl
renamed_self c (g ∷ gs) = ap (λ h. h ∷ glyphs_renumbered c c gs) (by_test (g.cluster == c) refl) ∙ ap (λ hs. g ∷ hs) (renamed_self c gs)
  where
    by_test : (t : Bool) → (g.cluster == c) ≡ t → (if t then in_cluster c g else g) ≡ g
    by_test true e = in_its_cluster c g e
    by_test false e = refl

-- of the glyphs beyond an end of a range, a merge changes those of the end's cluster
pub merged_end : (R : ℕ → ℕ → Type 0) → IsAnti R → (range : List ℕ) (e : ℕ) → Has range e → ((n : ℕ) → Has range n → R n e) → (gs : List hb_glyph_info_t) → ((n : ℕ) → Has (clusters gs) n → R e n)
    → glyphs_merged range gs ≡ glyphs_renumbered e (least_number range) gs
merged_end R anti range e among within [] beyond = refl
merged_end R anti range e among within (g ∷ gs) beyond =
    ap (λ h. h ∷ glyphs_merged range gs) (by_test (g.cluster == e) refl)
    ∙ ap (λ hs. (if g.cluster == e then in_cluster (least_number range) g else g) ∷ hs) (merged_end R anti range e among within gs (λ n h. beyond n (has_more g.cluster n (clusters gs) h)))
  where
    there : R e g.cluster
    there = beyond g.cluster (has_here g.cluster (clusters gs))

    absent : (u : Bool) → has_number range g.cluster ≡ u → (g.cluster == e) ≡ false → u ≡ false
    absent false k d = refl
    absent true k d = absurd (differ_test g.cluster e d (anti g.cluster e (within g.cluster k) there))

    by_test : (t : Bool) → (g.cluster == e) ≡ t → in_cluster (merged_number range g.cluster) g ≡ (if t then in_cluster (least_number range) g else g)
    by_test true d =
        let same = equal_test g.cluster e d in
        let has : has_number range g.cluster ≡ true = rw same among in
        rw has refl
    by_test false d =
        let none : has_number range g.cluster ≡ false = absent (has_number range g.cluster) refl d in
        rw none (same_cluster g)

-- past a glyph of another cluster there is none of the end's
stops : (R : ℕ → ℕ → Type 0) → IsAnti R → (e m : ℕ) → R e m → m ≢ e → (ns : List ℕ) → ((n : ℕ) → Has ns n → R m n) → (n : ℕ) → Has ns n → n ≢ e
stops R anti e m h ne ns far n has same = let back : R m e = subst (R m) same (far n has) in ne (anti m e back h)

-- in one order or the other
pub by_order : {P : Type 0} (ns : List ℕ) → IsOrdered ns → ((falls : Bool) → IsChain (Stands falls) ns → P) → P
by_order ns o k = elim o [ inl rises ↦ k false rises | inr falls ↦ k true falls ]

abbrev pub Turned : (ℕ → ℕ → Type 0) → ℕ → ℕ → Type 0
Turned R m n = R n m

pub turned_anti : (falls : Bool) → IsAnti (Turned (Stands falls))
turned_anti falls m n h k = stands_anti falls m n k h

-- what a walk from the end of a list finds: before `at` stands a glyph of another cluster, or nothing
abbrev pub StopsBefore : ℕ → ℕ → List hb_glyph_info_t → Type 0
StopsBefore c at gs = (d : hb_glyph_info_t) → 0 < at → (get_or gs (at - 1) d).cluster ≢ c

front_stays : (c low at : ℕ) (gs : List hb_glyph_info_t) → at ≤ length gs → IsOrdered (clusters gs ++ c ∷ []) → StopsBefore c at gs → glyphs_renumbered c low (take at gs) ≡ take at gs
front_stays c low zero gs le o stop = refl
front_stays c low (suc i) [] le o stop = refl
front_stays c low (suc i) (g ∷ gs) le o stop =
    let d = get_or (g ∷ gs) i g in
    let lt : i < length (g ∷ gs) = omega arith in
    let one : i + 1 ≡ suc i = omega arith in
    let less : suc i - 1 ≡ i = omega arith in
    let cut : take (suc i) (g ∷ gs) ≡ take i (g ∷ gs) ++ d ∷ [] = ap (λ n. take n (g ∷ gs)) (sym one) ∙ take_more (g ∷ gs) i g lt in
    let ns = clusters (take i (g ∷ gs)) in
    let cluster_of : hb_glyph_info_t → ℕ = λ h. h.cluster in
    let seen : clusters (take (suc i) (g ∷ gs)) ≡ ns ++ d.cluster ∷ [] = ap clusters cut ∙ map-append cluster_of (take i (g ∷ gs)) (d ∷ []) in
    let whole : clusters (g ∷ gs) ++ c ∷ [] ≡ (ns ++ d.cluster ∷ []) ++ (clusters (drop (suc i) (g ∷ gs)) ++ c ∷ []) =
    ap (λ hs. clusters hs ++ c ∷ []) (sym (take-append-drop (suc i) (g ∷ gs))) ∙ ap (λ ms. ms ++ c ∷ []) (map-append cluster_of (take (suc i) (g ∷ gs)) (drop (suc i) (g ∷ gs)) ∙ ap (λ ms. ms ++ clusters (drop (suc i) (g ∷ gs))) seen)
    ∙ append_assoc (ns ++ d.cluster ∷ []) (clusters (drop (suc i) (g ∷ gs))) (c ∷ []) in
    let other : d.cluster ≢ c = subst (λ (n : ℕ). (get_or (g ∷ gs) n g).cluster ≢ c) less (stop g (omega arith)) in
    none_renamed c low (take (suc i) (g ∷ gs)) (λ n h. by_order (clusters (g ∷ gs) ++ c ∷ []) o (λ falls chain.
    let cut_chain : IsChain (Stands falls) ((ns ++ d.cluster ∷ []) ++ (clusters (drop (suc i) (g ∷ gs)) ++ c ∷ [])) = subst (IsChain (Stands falls)) whole chain in
    let near = chain_left (Stands falls) (ns ++ d.cluster ∷ []) (clusters (drop (suc i) (g ∷ gs)) ++ c ∷ []) cut_chain in
    let last : Stands falls d.cluster c = chain_across (Stands falls) d.cluster c (ns ++ d.cluster ∷ []) (clusters (drop (suc i) (g ∷ gs)) ++ c ∷ []) cut_chain (has_right d.cluster ns (d.cluster ∷ []) (has_here d.cluster [])) (has_right c (clusters (drop (suc i) (g ∷ gs))) (c ∷ []) (has_here c [])) in
    let among : Has (ns ++ d.cluster ∷ []) n = subst (λ (ms : List ℕ). Has ms n) seen h in
    stops (Turned (Stands falls)) (turned_anti falls) c d.cluster last other (ns ++ d.cluster ∷ []) (λ k has. to_end falls ns d.cluster k near has) n among))
  where
    to_end : (falls : Bool) (ns : List ℕ) (m k : ℕ) → IsChain (Stands falls) (ns ++ m ∷ []) → Has (ns ++ m ∷ []) k → Stands falls k m
    to_end falls [] m k chain has = elim (has_cases m k [] has) [ inl e ↦ subst (λ (j : ℕ). Stands falls j m) e (stands_self falls m) | inr none ↦ cc ]
    to_end falls (x ∷ xs) m k chain has = elim (has_cases x k (xs ++ m ∷ []) has) [
      | inl e ↦ subst (λ (j : ℕ). Stands falls j m) e (from_has (Stands falls) x m (xs ++ m ∷ []) chain.0 (has_right m xs (m ∷ []) (has_here m [])))
      | inr later ↦ to_end falls xs m k chain.1 later
    ]

-- a walk from the front finds a glyph of another cluster, or the end
abbrev pub StopsAt : ℕ → ℕ → List hb_glyph_info_t → Type 0
StopsAt c at gs = (d : hb_glyph_info_t) → at < length gs → (get_or gs at d).cluster ≢ c

back_stays : (c low at : ℕ) (gs : List hb_glyph_info_t) → IsOrdered (c ∷ clusters gs) → StopsAt c at gs → glyphs_renumbered c low (drop at gs) ≡ drop at gs
back_stays c low at gs o stop = by_rest (drop at gs) refl
  where
    by_rest : (rest : List hb_glyph_info_t) → drop at gs ≡ rest → glyphs_renumbered c low rest ≡ rest
    by_rest [] e = refl
    by_rest (d ∷ hs) e =
        let long : length (drop at gs) ≡ suc (length hs) = ap length e in
        let lt : at < length gs = within at gs (length hs) long in
        let here : get_or gs at d ≡ d = first_is (drop_more gs at d lt) in
        let other : d.cluster ≢ c = subst (λ (h : hb_glyph_info_t). h.cluster ≢ c) here (stop d lt) in
        let cluster_of : hb_glyph_info_t → ℕ = λ h. h.cluster in
        let whole : clusters gs ≡ clusters (take at gs) ++ (d.cluster ∷ clusters hs) = ap clusters (sym (take-append-drop at gs) ∙ ap (λ zs. take at gs ++ zs) e) ∙ map-append cluster_of (take at gs) (d ∷ hs) in
        none_renamed c low (d ∷ hs) (λ n h. by_order (c ∷ clusters gs) o (λ falls chain.
        let tail : IsChain (Stands falls) (clusters (take at gs) ++ (d.cluster ∷ clusters hs)) = subst (IsChain (Stands falls)) whole chain.1 in
        let rest = chain_right (Stands falls) (clusters (take at gs)) (d.cluster ∷ clusters hs) tail in
        let has : Has (clusters gs) d.cluster = subst (λ (ms : List ℕ). Has ms d.cluster) (sym whole) (has_right d.cluster (clusters (take at gs)) (d.cluster ∷ clusters hs) (has_here d.cluster (clusters hs))) in
        let first : Stands falls c d.cluster = from_has (Stands falls) c d.cluster (clusters gs) chain.0 has in
        stops (Stands falls) (stands_anti falls) c d.cluster first other (d.cluster ∷ clusters hs) (λ k there. from_first (Stands falls) (stands_self falls) d.cluster k (clusters hs) rest.0 there) n h))
      where
        within : (i : ℕ) (xs : List hb_glyph_info_t) (n : ℕ) → length (drop i xs) ≡ suc n → i < length xs
        within zero xs n l = omega (arith, l)
        within (suc i) [] n l = cc
        within (suc i) (x ∷ xs) n l = omega (arith, within i xs n l)

        first_is : drop at gs ≡ get_or gs at d ∷ drop (at + 1) gs → get_or gs at d ≡ d
        first_is f = let both : get_or gs at d ∷ drop (at + 1) gs ≡ d ∷ hs = sym f ∙ e in cc

in_it : (c low : ℕ) (g : hb_glyph_info_t) → g.cluster ≡ c → (if g.cluster == c then in_cluster low g else g) ≡ in_cluster low g
in_it c low g e = let yes : (g.cluster == c) ≡ true = grind (arith, common_steps, e) in rw yes refl

-- one glyph more of the cluster, before those that were passed
pub passed_back : (c low at i : ℕ) (gs : List hb_glyph_info_t) (d : hb_glyph_info_t) → i + 1 ≡ at → at ≤ length gs → (get_or gs i d).cluster ≡ c
    → glyphs_renumbered c low (drop at gs) ≡ map (in_cluster low) (drop at gs) → glyphs_renumbered c low (drop i gs) ≡ map (in_cluster low) (drop i gs)
passed_back c low at i gs d one le e before =
    let lt : i < length gs = omega arith in
    let cut : drop i gs ≡ get_or gs i d ∷ drop at gs = drop_more gs i d lt ∙ ap (λ n. get_or gs i d ∷ drop n gs) one in
    rw (cut, before, in_it c low (get_or gs i d) e) refl

-- and after them
pub passed_front : (c low at : ℕ) (gs : List hb_glyph_info_t) (d : hb_glyph_info_t) → at < length gs → (get_or gs at d).cluster ≡ c
    → glyphs_renumbered c low (take at gs) ≡ map (in_cluster low) (take at gs) → glyphs_renumbered c low (take (at + 1) gs) ≡ map (in_cluster low) (take (at + 1) gs)
passed_front c low at gs d lt e before =
    let cut : take (at + 1) gs ≡ take at gs ++ get_or gs at d ∷ [] = take_more gs at d lt in
    let f : hb_glyph_info_t → hb_glyph_info_t = λ g. if g.cluster == c then in_cluster low g else g in
    rw cut (map-append f (take at gs) (get_or gs at d ∷ []) ∙ ap (λ hs. hs ++ f (get_or gs at d) ∷ []) before ∙ ap (λ h. map (in_cluster low) (take at gs) ++ h ∷ []) (in_it c low (get_or gs at d) e) ∙ sym (map-append (in_cluster low) (take at gs) (get_or gs at d ∷ [])))

both_parts : (c low at : ℕ) (gs : List hb_glyph_info_t) → glyphs_renumbered c low gs ≡ glyphs_renumbered c low (take at gs) ++ glyphs_renumbered c low (drop at gs)
both_parts c low at gs =
    let f : hb_glyph_info_t → hb_glyph_info_t = λ g. if g.cluster == c then in_cluster low g else g in
    ap (map f) (sym (take-append-drop at gs)) ∙ map-append f (take at gs) (drop at gs)

pub renamed_back : (c low at : ℕ) (gs tail : List hb_glyph_info_t) → at ≤ length gs → IsOrdered (clusters gs ++ c ∷ []) → StopsBefore c at gs
    → glyphs_renumbered c low (drop at gs) ≡ map (in_cluster low) (drop at gs) → tail ≡ map (in_cluster low) (slice_range gs at (length gs))
    → put_mid at (length gs - at) gs tail ≡ glyphs_renumbered c low gs
renamed_back c low at gs tail le o stop passed e =
    let there : at + (length gs - at) ≡ length gs = omega arith in
    let none : drop (length gs - at) (drop at gs) ≡ [] = drop-drop (length gs - at) at gs ∙ ap (λ n. drop n gs) there ∙ drop_all (length gs) gs (omega arith) in
    let is : tail ≡ glyphs_renumbered c low (drop at gs) = e ∙ ap (map (in_cluster low)) (take_rest gs at) ∙ sym passed in
    rw (none, append-nil, both_parts c low at gs, front_stays c low at gs le o stop, is) refl

pub renamed_front : (c low at : ℕ) (gs head : List hb_glyph_info_t) → IsOrdered (c ∷ clusters gs) → StopsAt c at gs
    → glyphs_renumbered c low (take at gs) ≡ map (in_cluster low) (take at gs) → head ≡ map (in_cluster low) (take at gs)
    → head ++ drop at gs ≡ glyphs_renumbered c low gs
renamed_front c low at gs head o stop passed e = rw (both_parts c low at gs, back_stays c low at gs o stop, passed, e) refl

pub stops_before : (c at : ℕ) (gs : List hb_glyph_info_t) (d : hb_glyph_info_t) → at ≤ length gs → (get_or gs (at - 1) d).cluster ≢ c → StopsBefore c at gs
stops_before c at gs d le other e lt = let same : get_or gs (at - 1) e ≡ get_or gs (at - 1) d = get_or_default gs (at - 1) e d (omega arith) in rw same other

pub stops_at : (c at : ℕ) (gs : List hb_glyph_info_t) (d : hb_glyph_info_t) → (get_or gs at d).cluster ≢ c → StopsAt c at gs
stops_at c at gs d other e lt = let same : get_or gs at e ≡ get_or gs at d = get_or_default gs at e d lt in rw same other
