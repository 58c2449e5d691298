-- A rule, from its match to the way after it.
use Rattle.std.proofs.Common.{ℕ, ◌≡◌, ◌≤◌, ◌<◌, ◌+◌, ◌-◌, true, false, Bool, List, [], length, take, drop, min, Result, Ok, Err, Option, sym, ap, subst, ◌∙◌, if◌then◌else◌, arith}
use Rattle.std.proofs.lemmas.List.{length-map, length-take, length-drop}
use Rattle.buffer_glyphs.specs.declared.cause.ShapeCause.{ShapeCause}
use Rattle.buffer_glyphs.specs.declared.cause.ShapeCause.TheVariants.{TooLong}
use Rattle.buffer_glyphs.specs.Items.{item_of}
use Rattle.buffer_core.specs.Sides.{Sides}
use Rattle.layout_match.specs.Applied.{ApplyContext}
use Rattle.buffer_stages.specs.Actions.{Cut, Action, Outcome, Passes, Acts, Refuses, whole}
use Rattle.buffer_stages.specs.Buffers.{cut_of}
use Rattle.buffer_stages.specs.Performing.{cut_with, Performs}
use Rattle.buffer_stages.proofs.Lemmas.Frames.{same_lengths}
use Rattle.layout_contexts.specs.MatchIndices.{AreRising}
use Rattle.layout_contexts.specs.Inside.{StaysInside}
use Rattle.layout_contexts.specs.Chains.{Chain, chain_rule}
use Rattle.layout_contexts.specs.Nested.{Walks, cut_at, cut_after_match, each_nested, holds}
use Rattle.layout_contexts.specs.Nesting.{Nests, Walking}
use Rattle.layout_contexts.specs.Fitting.{IsMatched}
use Rattle.layout_contexts.proofs.Lemmas.Lengths.{front_length, whole_length}
use Rattle.layout_contexts.proofs.Lemmas.Rising.{wider}
use Rattle.layout_contexts.proofs.Lemmas.Walks.{act_ended, act_failed}

-- the cursor went on, and nothing that was done came back
abbrev pub IsFurther : Sides → Sides → Type 0
IsFurther a b = (length b.ahead < length a.ahead) × (length a.behind ≤ length b.behind)

-- what nests a rule performs it, where the cursor went on
pub nests_performs : (o : Outcome) (y : Result Bool ShapeCause) (before after : ℕ) (a b : Sides) → (y ≡ Ok true → IsFurther a b) → Nests o y before after a b → Performs o y before after a b
nests_performs (Passes es) (Ok acted) before after a b on d = d
nests_performs (Acts cut es) (Ok acted) before after a b on d =
    let further = on (ap Ok d.0) in
    let left = d.1 in
    (d.0, record { cut_is = left.cut_is; happened = left.happened; still = left.still; fewer = further.0; kept = further.1; numbers = left.numbers })
nests_performs (Refuses cause) (Ok acted) before after a b on d = absurd d
nests_performs (Passes es) (Err x) before after a b on d = d
nests_performs (Acts cut es) (Err x) before after a b on d = d
nests_performs (Refuses cause) (Err x) before after a b on d = d

-- where the cursor is after the match
behind_there : (p : ℕ) (b : Bool) (acted : Bool) (random : ℕ) (u final : Sides) → Nests (if b then Acts (cut_at p (cut_with random u)) [] else Refuses TooLong) (Ok acted) random random u final → cut_with random final ≡ cut_at p (cut_with random u)
behind_there p true acted random u final h = h.1.cut_is
behind_there p false acted random u final h = absurd h

-- so many glyphs are on both sides then
ended_lengths : (at : ℕ) (random : ℕ) (u final : Sides) → Nests (cut_after_match (Walks (cut_with random u) [] at [])) (Ok true) random random u final
    → (length final.behind ≡ min at (length (whole (cut_of u)))) × (length final.ahead ≡ length (whole (cut_of u)) - at)
ended_lengths at random u final h =
    let all = whole (cut_of u) in
    let p = min at (length all) in
    let is : cut_with random final ≡ cut_at p (cut_with random u) = behind_there p (holds p (cut_with random u)) true random u final h in
    let front : length final.behind ≡ length (take p all) = sym (front_length final) ∙ ap (λ (c : Cut). length c.front) is in
    let rest : length final.ahead ≡ length (drop p all) = sym (length-map final.ahead item_of) ∙ ap (λ (c : Cut). length c.rest) is in
    let taken : length (take p all) ≡ min p (length all) = length-take p all in
    let dropped : length (drop p all) ≡ length all - p = length-drop p all in
    (omega (arith, front, taken), omega (arith, rest, dropped))

-- what the indices of a match are, on the list that they are in
pub match_inside : (a : ApplyContext) (r : Chain) (before end : ℕ) (ps : List ℕ) (s t : Sides) → IsMatched a r before end ps s t → AreRising 0 (length (whole (cut_of t)) + 1) ps
match_inside a r before end ps s t m = wider (length s.behind) 0 (length (whole (cut_of t))) (length (whole (cut_of t)) + 1) ps (omega arith) (omega arith) m.rising

went_on : (a : ApplyContext) (r : Chain) (before random end at : ℕ) (ps qs : List ℕ) (s t u final : Sides) → IsMatched a r before end ps s t → StaysInside (length (whole (cut_of t))) (length (whole (cut_of u))) ps qs end at
    → Nests (cut_after_match (Walks (cut_with random u) [] at [])) (Ok true) random random u final → IsFurther s final
went_on a r before random end at ps qs s t u final m inside h =
    let n = length (whole (cut_of t)) in
    let sides = ended_lengths at random u final h in
    let same = same_lengths s t m.cut_is in
    let long = whole_length t in
    let low = length s.behind in
    let from = m.from in
    let within = m.within in
    let under : low ≤ n = omega (arith, from, within) in
    let rising = wider low low n (n + 1) ps (omega arith) (omega arith) m.rising in
    let kept = inside.from low under rising in
    let ends = inside.ends low under rising (omega (arith, from)) in
    let fewer = inside.fewer in
    (omega (arith, sides.1, fewer, from, within, long, same.0, same.1), omega (arith, sides.0, kept, ends))

-- the records were done, and the cursor went after the match
pub rule_acted : (a : ApplyContext) (nest : Option (ℕ → Action)) (r : Chain) (before random end at : ℕ) (ps qs : List ℕ) (y : Result Bool ShapeCause) (s t u final : Sides) → IsMatched a r before end ps s t
    → Walking (each_nested nest r.records (cut_with before t) ps end) (Ok at) qs random t u → StaysInside (length (whole (cut_of t))) (length (whole (cut_of u))) ps qs end at
    → Nests (cut_after_match (Walks (cut_with random u) [] at [])) y random random u final → Performs (chain_rule nest a r (cut_with before s)) y before random s final
rule_acted a nest r before random end at ps qs y s t u final m w inside h =
    let all = m.nests nest y random final (act_ended (each_nested nest r.records (cut_with before t) ps end) at before random random qs y t u final w h) in
    let N : Result Bool ShapeCause → Type 0 = λ z. Nests (cut_after_match (Walks (cut_with random u) [] at [])) z random random u final in
    nests_performs (chain_rule nest a r (cut_with before s)) y before random s final (λ e. went_on a r before random end at ps qs s t u final m inside (subst N e h)) all

-- a record refused
pub rule_failed : (a : ApplyContext) (nest : Option (ℕ → Action)) (r : Chain) (before random end : ℕ) (ps qs : List ℕ) (x : ShapeCause) (s t u : Sides) → IsMatched a r before end ps s t → Walking (each_nested nest r.records (cut_with before t) ps end) (Err x) qs random t u
    → Performs (chain_rule nest a r (cut_with before s)) (Err x) before random s u
rule_failed a nest r before random end ps qs x s t u m w =
    nests_performs (chain_rule nest a r (cut_with before s)) (Err x) before random s u (λ e. cc) (m.nests nest (Err x) random u (act_failed (each_nested nest r.records (cut_with before t) ps end) x before random qs t u w))

-- the rule doesn't fit
pub rule_passed : (a : ApplyContext) (nest : Option (ℕ → Action)) (r : Chain) (before : ℕ) (s t : Sides) → Nests (chain_rule nest a r (cut_with before s)) (Ok false) before before s t → Performs (chain_rule nest a r (cut_with before s)) (Ok false) before before s t
rule_passed a nest r before s t h = nests_performs (chain_rule nest a r (cut_with before s)) (Ok false) before before s t (λ e. cc) h
