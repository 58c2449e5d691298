-- A rule is tried at a glyph that its lookup meets.
use Rattle.std.proofs.Common.{ℕ, ◌≡◌, true, false, Bool, List, [], ◌∷◌, refl, sym, ap, subst, ◌∙◌, slice_get, Some, length, ◌<◌, arith}
use Rattle.std.specs.Prelude.{Result}
use Rattle.buffer_glyphs.specs.declared.cause.ShapeCause.{ShapeCause}
use Rattle.buffer_glyphs.specs.declared.info.hb_glyph_info_t.{hb_glyph_info_t}
use Rattle.buffer_glyphs.specs.Items.{Item, item_of, strip}
use Rattle.buffer_core.specs.Sides.{Sides}
use Rattle.layout_match.specs.Applied.{ApplyContext}
use Rattle.buffer_stages.specs.Actions.{Action, Outcome, Passes, at_first}
use Rattle.buffer_stages.specs.Performing.{IsPerformed, Performs, PerformsWithoutOutput, cut_with}
use Rattle.buffer_stages.specs.Buffers.{cut_of}
use Rattle.buffer_stages.proofs.Lemmas.Does.{passed_same}
use Rattle.buffer_stages.proofs.Lemmas.Performed.{passes_nothing}
use Rattle.buffer_stages.proofs.Lemmas.Glyphs.{first_item}
use Rattle.layout_match.specs.Skipping.{PassesAt}
use Rattle.layout_match.specs.Steps.{MeetsGlyph}
use Rattle.layout_match.specs.Trying.{meets, at_met, met_first}

pub unmet : (a : ApplyContext) (act : Action) (r : ℕ) (s : Sides) (g : hb_glyph_info_t) → slice_get s.ahead 0 ≡ Some g → meets a (item_of g) ≡ false → met_first a act (cut_with r s) ≡ Passes []
unmet a act r s g at none = ap (λ o. at_first (at_met a act) o (cut_with r s)) (first_item s.ahead g at) ∙ rw none refl

pub met : (a : ApplyContext) (act : Action) (r : ℕ) (s : Sides) (g : hb_glyph_info_t) → slice_get s.ahead 0 ≡ Some g → meets a (item_of g) ≡ true → met_first a act (cut_with r s) ≡ act (cut_with r s)
met a act r s g at some = ap (λ o. at_first (at_met a act) o (cut_with r s)) (first_item s.ahead g at) ∙ rw some refl

glyph_there : (gs : List hb_glyph_info_t) → 0 < length gs → (g : hb_glyph_info_t) × (slice_get gs 0 ≡ Some g)
glyph_there [] some = absurd (omega (arith, some))
glyph_there (g ∷ gs) some = (g, refl)

-- a lookup that applies to the glyph at the cursor is tried there
pub met_glyph : (a : ApplyContext) (act : Action) (r : ℕ) (s : Sides) → 0 < length s.ahead → MeetsGlyph a 0 s → met_first a act (cut_with r s) ≡ act (cut_with r s)
met_glyph a act r s some applies =
    let first = glyph_there s.ahead some in
    met a act r s first.0 first.1 (applies first.0 first.1)

-- ---- a rule that passes at the glyph at the cursor need not be tried

pub starts : (gs : List hb_glyph_info_t) (g : hb_glyph_info_t) → slice_get gs 0 ≡ Some g → (rest : List Item) × (strip gs ≡ item_of g ∷ rest)
starts [] g at = cc
starts (h ∷ gs) g at = let same : h ≡ g = cc in (strip gs, ap (λ k. item_of k ∷ strip gs) same)

pub passes_there : (act : Action) (r : ℕ) (s : Sides) (g : hb_glyph_info_t) → slice_get s.ahead 0 ≡ Some g → PassesAt act (item_of g) → act (cut_with r s) ≡ Passes []
passes_there act r s g at passes = let first = starts s.ahead g at in passes (cut_with r s) first.0 first.1

-- a lookup whose rule passes at a glyph that isn't covered
pub uncovered_there : (a : ApplyContext) (act : Action) (covers : ℕ → Bool) (r n : ℕ) (s : Sides) (g : hb_glyph_info_t) → slice_get s.ahead 0 ≡ Some g → n ≡ g.glyph_id → covers n ≡ false → ((x : Item) → covers x.number ≡ false → PassesAt act x) → met_first a act (cut_with r s) ≡ Passes []
uncovered_there a act covers r n s g at is none passes = by_meeting (meets a (item_of g)) refl
  where
    by_meeting : (b : Bool) → meets a (item_of g) ≡ b → met_first a act (cut_with r s) ≡ Passes []
    by_meeting true e = met a act r s g at e ∙ passes_there act r s g at (passes (item_of g) (ap covers (sym is) ∙ none))
    by_meeting false e = unmet a act r s g at e

-- what is done by a rule is done by its lookup, where that is tried
pub performs_met : (a : ApplyContext) (act : Action) (r after : ℕ) (result : Result Bool ShapeCause) (s new : Sides) → met_first a act (cut_with r s) ≡ act (cut_with r s) → Performs (act (cut_with r s)) result r after s new → Performs (met_first a act (cut_with r s)) result r after s new
performs_met a act r after result s new is d =
    let P : Outcome → Type 0 = λ o. Performs o result r after s new in
    subst P (sym is) d

pub performs_met_in_place : (a : ApplyContext) (act : Action) (acted : Bool) (s new : Sides) → met_first a act (cut_of s) ≡ act (cut_of s) → PerformsWithoutOutput (act (cut_of s)) acted s new → PerformsWithoutOutput (met_first a act (cut_of s)) acted s new
performs_met_in_place a act acted s new is d =
    let P : Outcome → Type 0 = λ o. PerformsWithoutOutput o acted s new in
    subst P (sym is) d

-- a rule that passes in place
pub passes_in_place : (o : Outcome) (s : Sides) → o ≡ Passes [] → PerformsWithoutOutput o false s s
passes_in_place o s e =
    let P : Outcome → Type 0 = λ q. PerformsWithoutOutput q false s s in
    subst P (sym e) (refl, passed_same s)

pub not_tried : (act : Action) (r : ℕ) (s : Sides) (g : hb_glyph_info_t) → slice_get s.ahead 0 ≡ Some g → PassesAt act (item_of g) → IsPerformed (act (cut_with r s)) false r r s s
not_tried act r s g at passes = passes_nothing r s (act (cut_with r s)) (passes_there act r s g at passes)

pub not_tried_in_place : (act : Action) (s : Sides) (g : hb_glyph_info_t) → slice_get s.ahead 0 ≡ Some g → PassesAt act (item_of g) → PerformsWithoutOutput (act (cut_of s)) false s s
not_tried_in_place act s g at passes =
    let P : Outcome → Type 0 = λ o. PerformsWithoutOutput o false s s in
    subst P (sym (passes_there act 1 s g at passes)) (refl, passed_same s)

-- a glyph that a set misses is none of those that it has at least
pub missed : (covered has : Bool) → (covered ≡ true → has ≡ true) → has ≡ false → covered ≡ false
missed true has holds misses = sym (holds refl) ∙ misses
missed false has holds misses = refl
