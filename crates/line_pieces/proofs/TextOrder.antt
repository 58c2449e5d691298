-- Glyphs in the order of the text, by their indices.
use Rattle.std.proofs.Common.{ℕ, zero, suc, ◌≡◌, ◌≤◌, ◌<◌, ◌-◌, Bool, true, false, List, [], ◌∷◌, length, reverse, get_or, arith, inl, inr, refl, sym, ap, subst, ◌∙◌}
use Rattle.std.specs.Prelude.{Some, slice_get}
use Rattle.std.proofs.lemmas.Bool.{cases_lt}
use Rattle.std.proofs.lemmas.List.{get_or-reverse, length-reverse}
use Rattle.std.proofs.lemmas.Option.{get_or_from_slice_get, slice_get-get_or, slice_get_within}
use Rattle.kuspveli.specs.buffer_common.Direction.{is_backward}
use Rattle.kuspveli.specs.buffer_common.declared.direction.Direction.{Direction}
use Rattle.kuspveli.specs.buffer_glyphs.declared.info.hb_glyph_info_t.{hb_glyph_info_t}
use Rattle.kuspveli.specs.buffer_glyphs.declared.position.GlyphPosition.{GlyphPosition}
use Rattle.kuspveli.specs.buffer_glyphs.Items.{clusters}
use Rattle.kuspveli.specs.buffer_glyphs.Order.{AllFrom, IsChain, IsInOrder}
use Rattle.kuspveli.specs.buffer_glyphs.Lemmas.Merges.{stands_chain}
use Rattle.kuspveli.specs.buffer_glyphs.Lemmas.Parts.{Stands, stands_self}
use Rattle.kuspveli.specs.shaping_buffer.buffer_core.Sides.{Sides, all_glyphs}
use Rattle.line_pieces.specs.declared.steps.Step.{Step}
use Rattle.line_pieces.specs.Steps.{in_text_order, step_of, steps_of, text_index, text_steps}

-- ---- a list from its end

from_reverse : (ss : List Step) (k : ℕ) (s : Step) → slice_get (reverse ss) k ≡ Some s → slice_get ss (length ss - 1 - k) ≡ Some s
from_reverse ss k s at =
    let inside = slice_get_within (reverse ss) k s at in
    let many = length-reverse ss in
    let within : k < length ss = omega (arith, inside, many) in
    let read : get_or ss (length ss - 1 - k) s ≡ s = sym (get_or-reverse ss k s within) ∙ get_or_from_slice_get (reverse ss) k s s at in
    slice_get-get_or ss (length ss - 1 - k) s (omega (arith, within)) ∙ ap (λ x. Some x) read

to_reverse : (ss : List Step) (j : ℕ) (s : Step) → slice_get ss j ≡ Some s → slice_get (reverse ss) (length ss - 1 - j) ≡ Some s
to_reverse ss j s at =
    let within = slice_get_within ss j s at in
    let many = length-reverse ss in
    let k = length ss - 1 - j in
    let inside : k < length ss = omega (arith, within) in
    let back : length ss - 1 - k ≡ j = omega (arith, within) in
    let read : get_or (reverse ss) k s ≡ s = get_or-reverse ss k s inside ∙ ap (λ i. get_or ss i s) back ∙ get_or_from_slice_get ss j s s at in
    slice_get-get_or (reverse ss) k s (omega (arith, inside, many)) ∙ ap (λ x. Some x) read

pub from_text : (b : Bool) (ss : List Step) (k : ℕ) (s : Step) → slice_get (in_text_order b ss) k ≡ Some s → slice_get ss (text_index b (length ss) k) ≡ Some s
from_text false ss k s at = at
from_text true ss k s at = from_reverse ss k s at

pub to_text : (b : Bool) (ss : List Step) (j : ℕ) (s : Step) → slice_get ss j ≡ Some s → slice_get (in_text_order b ss) (text_index b (length ss) j) ≡ Some s
to_text false ss j s at = at
to_text true ss j s at = to_reverse ss j s at

text_length : (b : Bool) (ss : List Step) → length (in_text_order b ss) ≡ length ss
text_length false ss = refl
text_length true ss = length-reverse ss

index_back : (b : Bool) (n k : ℕ) → k < n → text_index b n (text_index b n k) ≡ k
index_back false n k within = refl
index_back true n k within = omega (arith, within)

-- ---- glyphs and their steps

steps_count : (d : Direction) (gs : List hb_glyph_info_t) (ps : List GlyphPosition) → length ps ≡ length gs → length (steps_of d gs ps) ≡ length gs
steps_count d [] ps same = refl
steps_count d (g ∷ gs) [] same = absurd (omega (arith, same))
steps_count d (g ∷ gs) (p ∷ ps) same = ap suc (steps_count d gs ps (omega (arith, same)))

steps_there : (d : Direction) (gs : List hb_glyph_info_t) (ps : List GlyphPosition) (k : ℕ) (g : hb_glyph_info_t) (p : GlyphPosition) → k < length gs → k < length ps → slice_get (steps_of d gs ps) k ≡ Some (step_of d (get_or gs k g) (get_or ps k p))
steps_there d [] ps k g p one two = absurd (omega (arith, one))
steps_there d (h ∷ gs) [] k g p one two = absurd (omega (arith, two))
steps_there d (h ∷ gs) (q ∷ ps) zero g p one two = refl
steps_there d (h ∷ gs) (q ∷ ps) (suc k) g p one two = steps_there d gs ps k g p (omega (arith, one)) (omega (arith, two))

steps_cluster : (d : Direction) (gs : List hb_glyph_info_t) (ps : List GlyphPosition) (k : ℕ) (s : Step) → slice_get (steps_of d gs ps) k ≡ Some s → slice_get (clusters gs) k ≡ Some s.cluster
steps_cluster d [] ps k s at = cc
steps_cluster d (g ∷ gs) [] k s at = cc
steps_cluster d (g ∷ gs) (p ∷ ps) zero s at = let same : step_of d g p ≡ s = cc in ap (λ (t : Step). Some t.cluster) same
steps_cluster d (g ∷ gs) (p ∷ ps) (suc k) s at = steps_cluster d gs ps k s at

-- a step of a cluster at an index
pub record IsStepOf (ss : List Step) (k n : ℕ) : Type 0 where
  pub step : Step
  pub is : slice_get ss k ≡ Some step
  pub of : step.cluster ≡ n

cluster_step : (d : Direction) (gs : List hb_glyph_info_t) (ps : List GlyphPosition) (k n : ℕ) → length ps ≡ length gs → slice_get (clusters gs) k ≡ Some n → IsStepOf (steps_of d gs ps) k n
cluster_step d [] ps k n same at = cc
cluster_step d (g ∷ gs) [] k n same at = absurd (omega (arith, same))
cluster_step d (g ∷ gs) (p ∷ ps) zero n same at = let one : g.cluster ≡ n = cc in record { step = step_of d g p; is = refl; of = one }
cluster_step d (g ∷ gs) (p ∷ ps) (suc k) n same at = let rest = cluster_step d gs ps k n (omega (arith, same)) at in record { step = rest.step; is = rest.is; of = rest.of }

-- ---- glyphs of a result in the order of the text

pub text_count : (d : Direction) (r : Sides) → length r.positions ≡ length (all_glyphs r) → length (text_steps d r) ≡ length (all_glyphs r)
text_count d r same = text_length (is_backward d) (steps_of d (all_glyphs r) r.positions) ∙ steps_count d (all_glyphs r) r.positions same

steps_short : (d : Direction) (gs : List hb_glyph_info_t) (ps : List GlyphPosition) → length (steps_of d gs ps) ≤ length gs
steps_short d [] ps = omega arith
steps_short d (g ∷ gs) [] = omega arith
steps_short d (g ∷ gs) (p ∷ ps) = let rest = steps_short d gs ps in omega (arith, rest)

pub text_short : (d : Direction) (r : Sides) → length (text_steps d r) ≤ length (all_glyphs r)
text_short d r = let same = text_length (is_backward d) (steps_of d (all_glyphs r) r.positions) in let short = steps_short d (all_glyphs r) r.positions in omega (arith, same, short)

-- the step at an index in the order of the text, by that of its glyph
pub step_there : (d : Direction) (r : Sides) (at i : ℕ) (gs : List hb_glyph_info_t) (ps : List GlyphPosition) (g : hb_glyph_info_t) (p : GlyphPosition) (s : Step) → gs ≡ all_glyphs r → ps ≡ r.positions → length r.positions ≡ length (all_glyphs r)
    → at < length (all_glyphs r) → i ≡ text_index (is_backward d) (length (all_glyphs r)) at → i < length (all_glyphs r) → s ≡ step_of d (get_or gs i g) (get_or ps i p) → slice_get (text_steps d r) at ≡ Some s
step_there d r at i gs ps g p s glyphs positions same within is inside read =
    let ss = steps_of d (all_glyphs r) r.positions in
    let n = length (all_glyphs r) in
    let count : length ss ≡ n = steps_count d (all_glyphs r) r.positions same in
    let one : s ≡ step_of d (get_or (all_glyphs r) i g) (get_or r.positions i p) = read ∙ ap (λ hs. step_of d (get_or hs i g) (get_or ps i p)) glyphs ∙ ap (λ qs. step_of d (get_or (all_glyphs r) i g) (get_or qs i p)) positions in
    let here : slice_get ss i ≡ Some s = steps_there d (all_glyphs r) r.positions i g p inside (omega (arith, inside, same)) ∙ ap (λ t. Some t) (sym one) in
    let there = to_text (is_backward d) ss i s here in
    let index : text_index (is_backward d) (length ss) i ≡ at = ap (λ m. text_index (is_backward d) m i) count ∙ ap (text_index (is_backward d) n) is ∙ index_back (is_backward d) n at within in
    ap (slice_get (in_text_order (is_backward d) ss)) (sym index) ∙ there

-- a glyph's step in the order of the text
pub text_step : (d : Direction) (r : Sides) (j n : ℕ) → length r.positions ≡ length (all_glyphs r) → slice_get (clusters (all_glyphs r)) j ≡ Some n → IsStepOf (text_steps d r) (text_index (is_backward d) (length (all_glyphs r)) j) n
text_step d r j n same at =
    let ss = steps_of d (all_glyphs r) r.positions in
    let one = cluster_step d (all_glyphs r) r.positions j n same at in
    let P : ℕ → Type 0 = λ m. slice_get (in_text_order (is_backward d) ss) (text_index (is_backward d) m j) ≡ Some one.step in
    record { step = one.step; is = subst P (steps_count d (all_glyphs r) r.positions same) (to_text (is_backward d) ss j one.step one.is); of = one.of }

-- ---- the order of clusters

all_from_at : (R : ℕ → ℕ → Type 0) (m : ℕ) (ns : List ℕ) (j n : ℕ) → AllFrom R m ns → slice_get ns j ≡ Some n → R m n
all_from_at R m [] j n h at = cc
all_from_at R m (k ∷ ks) zero n h at = let same : k ≡ n = cc in subst (R m) same h.0
all_from_at R m (k ∷ ks) (suc j) n h at = all_from_at R m ks j n h.1 at

chain_at : (R : ℕ → ℕ → Type 0) (ns : List ℕ) (i j m n : ℕ) → IsChain R ns → i < j → slice_get ns i ≡ Some m → slice_get ns j ≡ Some n → R m n
chain_at R [] i j m n h less at to = cc
chain_at R (k ∷ ks) zero zero m n h less at to = absurd (omega (arith, less))
chain_at R (k ∷ ks) zero (suc j) m n h less at to = let same : k ≡ m = cc in let P : ℕ → Type 0 = λ x. R x n in subst P same (all_from_at R k ks j n h.0 to)
chain_at R (k ∷ ks) (suc i) zero m n h less at to = absurd (omega (arith, less))
chain_at R (k ∷ ks) (suc i) (suc j) m n h less at to = chain_at R ks i j m n h.1 (omega (arith, less)) at to

stands_at : (b : Bool) (ns : List ℕ) (i j m n : ℕ) → IsInOrder b ns → i ≤ j → slice_get ns i ≡ Some m → slice_get ns j ≡ Some n → Stands b m n
stands_at b ns i j m n order le at to = elim (cases_lt i j) [
  | inl less ↦ chain_at (Stands b) ns i j m n (stands_chain b ns order) less at to
  | inr back ↦
      let same : i ≡ j = omega (arith, le, back) in
      let both : Some m ≡ Some n = sym at ∙ ap (slice_get ns) same ∙ to in
      let one : m ≡ n = cc in
      subst (Stands b m) one (stands_self b m)
]

-- clusters never fall in the order of the text
abbrev pub Rises : List Step → Type 0
Rises ss = (i j : ℕ) (s t : Step) → i ≤ j → slice_get ss i ≡ Some s → slice_get ss j ≡ Some t → s.cluster ≤ t.cluster

rises_by : (b : Bool) (d : Direction) (gs : List hb_glyph_info_t) (ps : List GlyphPosition) → IsInOrder b (clusters gs) → Rises (in_text_order b (steps_of d gs ps))
rises_by false d gs ps order i j s t le at to = stands_at false (clusters gs) i j s.cluster t.cluster order le (steps_cluster d gs ps i s at) (steps_cluster d gs ps j t to)
rises_by true d gs ps order i j s t le at to =
    let ss = steps_of d gs ps in
    stands_at true (clusters gs) (length ss - 1 - j) (length ss - 1 - i) t.cluster s.cluster order (omega (arith, le))
    (steps_cluster d gs ps (length ss - 1 - j) t (from_reverse ss j t to))
    (steps_cluster d gs ps (length ss - 1 - i) s (from_reverse ss i s at))

pub rises : (d : Direction) (r : Sides) → IsInOrder (is_backward d) (clusters (all_glyphs r)) → Rises (text_steps d r)
rises d r order = rises_by (is_backward d) d (all_glyphs r) r.positions order
