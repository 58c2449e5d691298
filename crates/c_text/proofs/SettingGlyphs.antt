-- Glyphs of characters that a client gives, set one after another, and plans, which don't depend on them.
use Rattle.std.proofs.Common.{ℕ, zero, suc, arith, ◌≡◌, ◌<◌, ◌+◌, ◌==◌, if◌then◌else◌, ◌&&◌, Bool, true, false, List, [], ◌∷◌, ◌++◌, length, drop, take, get_or, refl, sym, ap, subst, ◌∙◌}
use Rattle.std.proofs.lemmas.Bool.{and_parts, eq-eqb, eqb-true, false≢true}
use Rattle.std.proofs.lemmas.List.{drop_more, take_more}
use Rattle.std.specs.Prelude.{⊤, ◌≢◌, Some}
use lib.Utf8.{scalar}
use Rattle.std.specs.List.{All}
use Rattle.buffer_common.specs.declared.tag.Tag.{Tag}
use Rattle.buffer_tags.specs.LanguageTable.{tags_of_table}
use Rattle.layout_face.specs.declared.parts.CharacterRow.{CharacterRow}
use Rattle.layout_face.specs.declared.parts.FaceParts.{FaceParts}
use Rattle.layout_face.specs.declared.parts.VariationRow.{VariationRow}
use Rattle.layout_face.specs.CharacterMap.{with_character, with_variation}
use Rattle.plan_cache.specs.Cache.{Cache}
use Rattle.plan_cache.specs.Cached.{IsCachedFor}
use Rattle.plan_cache.specs.declared.cached.CachedPlan.{CachedPlan}
use Rattle.script_dispatch.specs.declared.any_shaper.hb_ot_any_shaper_t.{hb_ot_any_shaper_t}
use Rattle.script_plan.specs.Plans.{planned_shaper, text_map, text_plan}
use Rattle.script_plan.specs.declared.plan.hb_ot_shape_plan_t.{hb_ot_shape_plan_t}
use Rattle.shape_pipeline.specs.Plans.{IsPlanOf}
use Rattle.shell_readers.specs.declared.input.RunInput.{RunInput}
use Rattle.c_text.specs.declared.types.kus_character_glyph_t.{kus_character_glyph_t}
use Rattle.c_text.specs.CharacterGlyphs.{AreSetAtFront, glyph_numbered, glyph_refusal, glyphs_refusal, is_glyph_or_none, with_glyph, with_glyphs}
use Rattle.c_text.specs.Fonts.{AreSetAtFrontIn, KeptFont}
use Rattle.c_text.specs.Plans.{HasPlansOf}

-- ---- one after another

set_after : (front given : List kus_character_glyph_t) (font : FaceParts) → with_glyphs (front ++ given) font ≡ with_glyphs given (with_glyphs front font)
set_after [] given font = refl
set_after (g ∷ front) given font = set_after front given (with_glyph g font)

-- ---- refusals

refusal_by : (b : Bool) (g : kus_character_glyph_t) (given : List kus_character_glyph_t) → (glyph_refusal g == 0) ≡ b
    → glyphs_refusal (g ∷ given) ≡ 0 → (glyph_refusal g ≡ 0) × (glyphs_refusal given ≡ 0)
refusal_by true g given e none = (eqb-true _ 0 e, sym (ap (λ b. if b then glyphs_refusal given else glyph_refusal g) e) ∙ none)
refusal_by false g given e none =
    let own : glyph_refusal g ≡ 0 = sym (ap (λ b. if b then glyphs_refusal given else glyph_refusal g) e) ∙ none in
    absurd (false≢true (sym e ∙ eq-eqb _ 0 own))

-- of a list that is taken each glyph is, and so are those that are left
pub taken_next : (given : List kus_character_glyph_t) (i : ℕ) (g d : kus_character_glyph_t) → glyphs_refusal (drop i given) ≡ 0 → i < length given → g ≡ get_or given i d
    → (glyph_refusal g ≡ 0) × (glyphs_refusal (drop (i + 1) given) ≡ 0)
taken_next given i g d none inside is =
    let rest = drop (i + 1) given in
    let opened : drop i given ≡ g ∷ rest = drop_more given i d inside ∙ ap (λ x. x ∷ rest) (sym is) in
    refusal_by (glyph_refusal g == 0) g rest refl (sym (ap glyphs_refusal opened) ∙ none)

-- one more glyph of a list that is taken is set; those that are left are taken
pub one_more_set : (given : List kus_character_glyph_t) (i : ℕ) (d : kus_character_glyph_t) (old font next : FaceParts)
    → (font ≡ with_glyphs (take i given) old) × (glyphs_refusal (drop i given) ≡ 0) → i < length given → next ≡ with_glyph (get_or given i d) font
    → (next ≡ with_glyphs (take (i + 1) given) old) × (glyphs_refusal (drop (i + 1) given) ≡ 0)
one_more_set given i d old font next are inside set = (
  set ∙ ap (with_glyph (get_or given i d)) are.0 ∙ sym (set_after (take i given) (get_or given i d ∷ []) old) ∙ sym (ap (λ l. with_glyphs l old) (take_more given i d inside)),
  (taken_next given i (get_or given i d) d are.1 inside refl).1,
)

-- the refusal of a glyph by its two tests
refusal_tests : (characters glyph : Bool) → ℕ
refusal_tests characters glyph = if characters then (if glyph then 0 else 27) else 29

tests_hold : (characters glyph : Bool) → refusal_tests characters glyph ≡ 0 → characters ≡ true
unfolding refusal_tests
tests_hold true glyph none = refl
tests_hold false glyph none = absurd (omega (arith, none))

-- a refusal is none of want of memory, and none of a font that is shared
abbrev pub IsOfGlyph : ℕ → Type 0
IsOfGlyph n = (n ≢ 1) × (n ≢ 26)

tests_of_glyph : (characters glyph : Bool) → IsOfGlyph (refusal_tests characters glyph)
unfolding refusal_tests
tests_of_glyph true true = (λ e. omega (arith, e), λ e. omega (arith, e))
tests_of_glyph true false = (λ e. omega (arith, e), λ e. omega (arith, e))
tests_of_glyph false glyph = (λ e. omega (arith, e), λ e. omega (arith, e))

one_of_glyph : (g : kus_character_glyph_t) → IsOfGlyph (glyph_refusal g)
unfolding refusal_tests
one_of_glyph g = tests_of_glyph (scalar g.character && scalar g.selector) (is_glyph_or_none g.glyph)

first_of_glyph : (b : Bool) (g : kus_character_glyph_t) (given : List kus_character_glyph_t) → (glyph_refusal g == 0) ≡ b → IsOfGlyph (glyphs_refusal given) → IsOfGlyph (glyphs_refusal (g ∷ given))
first_of_glyph true g given e rest = rw e rest
first_of_glyph false g given e rest = rw e (one_of_glyph g)

pub all_of_glyph : (given : List kus_character_glyph_t) → IsOfGlyph (glyphs_refusal given)
all_of_glyph [] = (λ e. omega (arith, e), λ e. omega (arith, e))
all_of_glyph (g ∷ given) = first_of_glyph (glyph_refusal g == 0) g given refl (all_of_glyph given)

-- the character and the selector of a glyph that is taken are scalar values
pub taken_scalars : (g : kus_character_glyph_t) → glyph_refusal g ≡ 0 → (scalar g.character ≡ true) × (scalar g.selector ≡ true)
unfolding refusal_tests
taken_scalars g none = and_parts (scalar g.character) (scalar g.selector) (tests_hold (scalar g.character && scalar g.selector) (is_glyph_or_none g.glyph) none)

-- ---- plans

-- a plan of a font is one of the font with other characters: it depends on the layout tables alone
plan_stays : (font : FaceParts) (rows : List CharacterRow) (variants : List VariationRow) (plan : hb_ot_shape_plan_t hb_ot_any_shaper_t ⊤) → IsPlanOf font plan → IsPlanOf (record font { cmap = rows; variants = variants }) plan
unfolding planned_shaper text_map text_plan
plan_stays font rows variants plan is = record { shaper = is.shaper; script_plan = is.script_plan; features = is.features; tags = is.tags }

cached_stays : (font : FaceParts) (rows : List CharacterRow) (variants : List VariationRow) (tags : List ℕ → List Tag) (k : CachedPlan) → IsCachedFor font tags k → IsCachedFor (record font { cmap = rows; variants = variants }) tags k
cached_stays font rows variants tags k is = record { plan = plan_stays font rows variants k.plan.value is.plan; tagged = is.tagged }

abbrev AreCached : FaceParts → (List ℕ → List Tag) → List CachedPlan → Type 0
AreCached font tags plans = All (IsCachedFor font tags) plans

rows_stay : (font : FaceParts) (rows : List CharacterRow) (variants : List VariationRow) (tags : List ℕ → List Tag) (plans : List CachedPlan) → AreCached font tags plans → AreCached (record font { cmap = rows; variants = variants }) tags plans
rows_stay font rows variants tags plans are k d lt = cached_stays font rows variants tags (get_or plans k d) (are k d lt)

one_stays : (g : kus_character_glyph_t) (font : FaceParts) (tags : List ℕ → List Tag) (plans : List CachedPlan) (b : Bool) → (g.selector == 0) ≡ b → AreCached font tags plans → AreCached (with_glyph g font) tags plans
one_stays g font tags plans true e are = rw e (rows_stay font (with_character g.character (glyph_numbered g.glyph) font.cmap) font.variants tags plans are)
one_stays g font tags plans false e are = rw e (rows_stay font font.cmap (with_variation g.character g.selector (glyph_numbered g.glyph) font.variants) tags plans are)

all_stay : (given : List kus_character_glyph_t) (font : FaceParts) (tags : List ℕ → List Tag) (plans : List CachedPlan) → AreCached font tags plans → AreCached (with_glyphs given font) tags plans
all_stay [] font tags plans are = are
all_stay (g ∷ given) font tags plans are = all_stay given (with_glyph g font) tags plans (one_stays g font tags plans (g.selector == 0) refl are)

-- the plans of a font stay, whether glyphs are set, some of them, or none
pub plans_stay : (status : ℕ) (old new : RunInput) (given : List kus_character_glyph_t) (plans : Cache)
    → (status ≡ 0 → (glyphs_refusal given ≡ 0) × (new ≡ record old { face = with_glyphs given old.face }))
    → (status ≡ 1 → (glyphs_refusal given ≡ 0) × AreSetAtFront given old.face new.face) → new ≡ record old { face = new.face }
    → (status ≢ 0 → status ≢ 1 → new ≡ old) → HasPlansOf old plans → HasPlansOf new plans
plans_stay zero old new given plans set front tables kept are =
    subst (λ (i : RunInput). HasPlansOf i plans) (sym ((set refl).1)) (all_stay given old.face (tags_of_table old.tables.languages) plans.plans are)
plans_stay (suc zero) old new given plans set front tables kept are =
    let at = (front refl).1 in
    let by_face = all_stay (take at.count given) old.face (tags_of_table old.tables.languages) plans.plans are in
    let own = subst (λ (f : FaceParts). HasPlansOf (record old { face = f }) plans) (sym at.same) by_face in
    subst (λ (i : RunInput). HasPlansOf i plans) (sym tables) own
plans_stay (suc (suc n)) old new given plans set front tables kept are =
    subst (λ (i : RunInput). HasPlansOf i plans) (sym (kept (λ e. absurd (omega (arith, e))) (λ e. absurd (omega (arith, e))))) are

-- ---- fonts

-- what is set at the front in what was read is set in the font
pub front_set : (given : List kus_character_glyph_t) (f g : KeptFont) (status : ℕ) (new : RunInput)
    → (status ≡ 1 → (glyphs_refusal given ≡ 0) × AreSetAtFront given f.input.face new.face) → new ≡ record f.input { face = new.face } → g ≡ record f { input = new }
    → status ≡ 1 → (glyphs_refusal given ≡ 0) × AreSetAtFrontIn given f (Some g)
front_set given f g status new front tables same short =
    let at = front short in
    (at.0, record { face = new.face; front = at.1; same = ap Some (same ∙ ap (λ (i : RunInput). record f { input = i }) tables) })
