-- Rules that cannot match by the next glyph need not be tried.
use Rattle.std.proofs.Common.{ℕ, ◌≡◌, ◌≤◌, ◌<◌, ◌+◌, ◌⊎◌, Bool, true, false, inl, inr, List, [], ◌∷◌, drop, length, get_or, Option, Some, None, map, slice_get, refl, sym, ap, subst, ◌∙◌, arith}
use Rattle.std.specs.Option.{option_map}
use Rattle.std.proofs.lemmas.Option.{same_Some, slice_get-map, slice_get_cases, slice_get_within, get_or_from_slice_get}
use Rattle.buffer_glyphs.specs.Items.{Item, strip}
use Rattle.buffer_glyphs.specs.Origins.{Asks}
use Rattle.buffer_glyphs.specs.Events.{Concat, concat_marked}
use Rattle.buffer_core.specs.Sides.{Sides, flag_requests_of, origins_of}
use Rattle.layout_match.specs.declared.next_glyph.NextGlyph.TheVariants.{Unknown}
use Rattle.layout_match.specs.declared.next_glyph.NextGlyphs.{NextGlyphs}
use Rattle.layout_match.specs.Applied.{ApplyContext, own_search, context_search}
use Rattle.layout_match.specs.Next.{IsNext, may_find}
use Rattle.buffer_stages.specs.Actions.{Action, Cut, Outcome, Passes}
use Rattle.buffer_stages.specs.Buffers.{IsPassed}
use Rattle.buffer_stages.specs.Performing.{IsPerformed, cut_with}
use Rattle.buffer_stages.proofs.Lemmas.Frames.{same_asks, still_settings}
use Rattle.buffer_stages.proofs.Lemmas.Performed.{ArePassed, passed_next, passes_nothing}
use Rattle.layout_contexts.specs.Chains.{Chain, chain_rule}
use Rattle.layout_contexts.specs.Following.{OnlyTries, may_find_second, may_follow}
use Rattle.layout_contexts.proofs.Followed.{excluded_tries}

-- what the next glyphs are told to be, where rules are tried in a buffer
pub record AreNext (next : NextGlyphs) (a : ApplyContext) (s : Sides) : Type 0 where
  pub input : IsNext next.input (own_search a (strip s.ahead)) 1 (strip s.ahead)
  pub lookahead : IsNext next.lookahead (context_search a (strip s.ahead)) 1 (strip s.ahead)
  pub unflagged : (flag_requests_of s).concat ≡ true → (next.input ≡ Unknown) × (next.lookahead ≡ Unknown)

-- a failed attempt changes nothing where it isn't flagged
attempt_unflagged : (from to r : ℕ) (s : Sides) (o : Outcome) → (flag_requests_of s).concat ≡ false → o ≡ Passes (Concat from to ∷ []) → IsPerformed o false r r s s
attempt_unflagged from to r s o unasked e =
    let P : Outcome → Type 0 = λ p. IsPerformed p false r r s s in
    let passed : IsPassed (Concat from to ∷ []) s s = record { cut_is = refl; happened = ap (λ b. concat_marked b from to (origins_of s)) (sym unasked); still = refl; read = refl } in
    subst P (sym e) (refl, refl, passed)

pub tries_nothing : (r : ℕ) (s : Sides) (o : Outcome) → (flag_requests_of s).concat ≡ false → OnlyTries o → IsPerformed o false r r s s
tries_nothing r s o unasked (inl e) = passes_nothing r s o e
tries_nothing r s o unasked (inr tries) = attempt_unflagged tries.0 tries.1 r s o unasked tries.2

told_of_unknown : (next : NextGlyphs) (input lookahead : List (Item → Bool)) → next.input ≡ Unknown → next.lookahead ≡ Unknown → may_find_second next input lookahead ≡ false → ⊥
told_of_unknown next (test ∷ input) lookahead i l none =
    let may : may_find next.input test ≡ true = ap (λ n. may_find n test) i in
    cc
told_of_unknown next [] (test ∷ lookahead) i l none =
    let may : may_find next.lookahead test ≡ true = ap (λ n. may_find n test) l in
    cc
told_of_unknown next [] [] i l none = cc

-- where something is told, failed matches aren't flagged
unasked_where_told : (asked : Bool) (next : NextGlyphs) (r : Chain) → (asked ≡ true → (next.input ≡ Unknown) × (next.lookahead ≡ Unknown)) → may_follow next r ≡ false → asked ≡ false
unasked_where_told false next r unknown none = refl
unasked_where_told true next r unknown none =
    let is = unknown refl in
    absurd (told_of_unknown next (drop 1 r.input) r.lookahead is.0 is.1 none)

-- the rule at an index is passed over where the next glyph excludes it
pub passed_over : (nest : Option (ℕ → Action)) (a : ApplyContext) (all : List Chain) (c : Chain) (next : NextGlyphs) (k r : ℕ) (start now : Sides) → slice_get all k ≡ Some c → may_follow next c ≡ false → AreNext next a start → ArePassed (chain_rule nest a) all (drop k all) r start now
    → ArePassed (chain_rule nest a) all (drop (k + 1) all) r start now
passed_over nest a all c next k r start now at none told t =
    let same : strip now.ahead ≡ strip start.ahead = ap (λ (x : Cut). x.rest) t.cut_is in
    let asks : flag_requests_of now ≡ flag_requests_of start = same_asks start now (still_settings start now t.still) in
    let own : IsNext next.input (own_search a (strip now.ahead)) 1 (strip now.ahead) = rw same told.input in
    let context : IsNext next.lookahead (context_search a (strip now.ahead)) 1 (strip now.ahead) = rw same told.lookahead in
    let unasked : (flag_requests_of now).concat ≡ false = ap (λ (q : Asks). q.concat) asks ∙ unasked_where_told (flag_requests_of start).concat next c told.unflagged none in
    let passes = tries_nothing r now (chain_rule nest a c (cut_with r now)) unasked (excluded_tries nest a c (cut_with r now) next own context none) in
    (passed_next (chain_rule nest a) all k c r r start now now (slice_get_within all k c at) (sym (get_or_from_slice_get all k c c at)) t passes).0

one_there : {X : Type 0} (xs : List X) (k : ℕ) → k < length xs → ((x : X) × (k < length xs) × (slice_get xs k ≡ Some x) × (get_or xs k x ≡ x)) ⊎ ((length xs ≤ k) × (slice_get xs k ≡ None)) → (x : X) × (slice_get xs k ≡ Some x)
one_there xs k lt (inl is) = (is.0, is.2)
one_there xs k lt (inr past) = absurd (omega (arith, lt, past.0))

-- the rule at an index is passed over where its test excludes it
pub passed_over_at : (nest : Option (ℕ → Action)) (a : ApplyContext) (all : List Chain) (next : NextGlyphs) (k r : ℕ) (start now : Sides) → k < length all → slice_get (map (may_follow next) all) k ≡ Some false → AreNext next a start
    → ArePassed (chain_rule nest a) all (drop k all) r start now → ArePassed (chain_rule nest a) all (drop (k + 1) all) r start now
passed_over_at nest a all next k r start now lt told are t =
    let there = one_there all k lt (slice_get_cases all k).1 in
    let P : Option Chain → Type 0 = λ o. option_map (may_follow next) o ≡ Some false in
    let excluded : may_follow next there.0 ≡ false = same_Some _ _ (subst P there.1 (sym (slice_get-map (may_follow next) all k) ∙ told)) in
    passed_over nest a all there.0 next k r start now there.1 excluded are t
