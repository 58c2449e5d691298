-- What a rule leaves where it is tried.
use Rattle.std.proofs.Common.{ℕ, ◌≡◌, ◌≤◌, ◌+◌, ◌-◌, false, List, [], ◌∷◌, length, map, Option, Ok, refl, sym, ap, subst, ◌∙◌, arith}
use Rattle.buffer_glyphs.specs.Events.{Break, Concat}
use Rattle.buffer_core.specs.Sides.{Sides}
use Rattle.layout_match.specs.Applied.{ApplyContext}
use Rattle.buffer_stages.specs.Actions.{Cut, Outcome, Passes, Action, later, whole, attempt_around}
use Rattle.buffer_stages.specs.Buffers.{cut_of, IsPassed}
use Rattle.buffer_stages.specs.Performing.{cut_with}
use Rattle.buffer_stages.proofs.Lemmas.Performed.{same_with}
use Rattle.buffer_stages.proofs.Lemmas.Does.{passed_same}
use Rattle.layout_contexts.specs.Chains.{Chain, chain_rule}
use Rattle.layout_contexts.specs.Nested.{each_nested, cut_after_match}
use Rattle.layout_contexts.specs.Nesting.{Nests}
use Rattle.layout_contexts.specs.Fitting.{IsMatched}
use Rattle.layout_contexts.specs.MatchIndices.{AreRising}
use Rattle.layout_contexts.proofs.Lemmas.Lengths.{front_length, whole_length}
use Rattle.layout_contexts.proofs.Lemmas.Steps.{nests_later}
use Rattle.layout_contexts.proofs.Lemmas.Rising.{shifted_rise, wider}

-- without an attempt nothing is done
pub not_tried : (a : ApplyContext) (r : Chain) (random : ℕ) (s : Sides) → ((nest : Option (ℕ → Action)) → chain_rule nest a r (cut_with random s) ≡ Passes []) → (nest : Option (ℕ → Action)) → Nests (chain_rule nest a r (cut_with random s)) (Ok false) random random s s
not_tried a r random s e nest =
    let P : Outcome → Type 0 = λ o. Nests o (Ok false) random random s s in
    subst P (sym (e nest)) (refl, refl, passed_same s)

pub failed : (a : ApplyContext) (r : Chain) (random back ahead : ℕ) (s t : Sides) → ((nest : Option (ℕ → Action)) → chain_rule nest a r (cut_with random s) ≡ attempt_around back ahead (cut_with random s))
    → IsPassed (Concat (length s.behind - back) (length s.behind + ahead) ∷ []) s t → (nest : Option (ℕ → Action)) → Nests (chain_rule nest a r (cut_with random s)) (Ok false) random random s t
failed a r random back ahead s t e passed nest =
    let P : Outcome → Type 0 = λ o. Nests o (Ok false) random random s t in
    let Q : ℕ → Type 0 = λ n. IsPassed (Concat (n - back) (n + ahead) ∷ []) s t in
    subst P (sym (e nest)) (refl, refl, subst Q (sym (front_length s)) passed)

pub matched : (a : ApplyContext) (r : Chain) (random back end ahead front to : ℕ) (ps qs : List ℕ) (s t : Sides)
    → ((nest : Option (ℕ → Action)) → chain_rule nest a r (cut_with random s)
    ≡ later (Break (length (cut_with random s).front - back) (length (cut_with random s).front + ahead) ∷ []) (cut_after_match (each_nested nest r.records (cut_with random s) (map (λ k. k + length (cut_with random s).front) ps) (length (cut_with random s).front + end))))
    → (back ≤ length s.behind) × (ahead ≤ length s.ahead) × (end ≤ length s.ahead) × (1 ≤ end) × AreRising 0 (length s.ahead) ps
    → front ≡ length s.behind → qs ≡ map (λ q. q + front) ps → to ≡ front + end
    → IsPassed (Break (length s.behind - back) (length s.behind + ahead) ∷ []) s t → IsMatched a r random to qs s t
matched a r random back end ahead front to ps qs s t e inside ef eq et passed =
    let n = length s.behind in
    let es = Break (length (cut_of s).front - back) (length (cut_of s).front + ahead) ∷ [] in
    let at : qs ≡ map (λ k. k + n) ps = eq ∙ ap (λ m. map (λ q. q + m) ps) ef in
    let low : length (whole (cut_of t)) ≡ n + length s.ahead = ap (λ (c : Cut). length (whole c)) passed.cut_is ∙ whole_length s in
    let long : length s.ahead + n ≡ length (whole (cut_of t)) = omega (arith, low) in
    let R : ℕ → Type 0 = λ m. AreRising n m (map (λ k. k + n) ps) in
    let S : List ℕ → Type 0 = λ ks. AreRising n (length (whole (cut_of t))) ks in
    let Q : ℕ → Type 0 = λ m. IsPassed (Break (m - back) (m + ahead) ∷ []) s t in
    let marks : IsPassed es s t = subst Q (sym (front_length s)) passed in
    let ends = inside.2 in
    let least = inside.3 in
    record {
      cut_is = passed.cut_is;
      still = passed.still;
      rising = subst S (sym at) (subst R long (wider (0 + n) n (length s.ahead + n) (length s.ahead + n) (map (λ k. k + n) ps) (omega arith) (omega arith) (shifted_rise n 0 (length s.ahead) ps inside.4)));
      from = omega (arith, et, ef, least);
      within = omega (arith, et, ef, ends, low);
      nests = λ nest result after final h.
          let indices : qs ≡ map (λ k. k + length (cut_of s).front) ps = at ∙ ap (λ m. map (λ k. k + m) ps) (sym (front_length s)) in
          let stop : to ≡ length (cut_of s).front + end = et ∙ ap (λ m. m + end) (ef ∙ sym (front_length s)) in
          let P : Outcome → Type 0 = λ o. Nests o result random after s final in
          let C : Cut → Type 0 = λ c. Nests (cut_after_match (each_nested nest r.records c qs to)) result random after t final in
          let D : List ℕ → Type 0 = λ ks. Nests (cut_after_match (each_nested nest r.records (cut_with random s) ks to)) result random after t final in
          let F : ℕ → Type 0 = λ m. Nests (cut_after_match (each_nested nest r.records (cut_with random s) (map (λ k. k + length (cut_of s).front) ps) m)) result random after t final in
          let there = subst F stop (subst D indices (subst C (same_with random s t passed.cut_is) h)) in
          subst P (sym (e nest)) (nests_later es (cut_after_match (each_nested nest r.records (cut_with random s) (map (λ k. k + length (cut_of s).front) ps) (length (cut_of s).front + end))) result random after s t final marks there);
    }
