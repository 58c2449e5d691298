-- Advances that a client gives, set one after another, and plans, which don't depend on them.
use Rattle.std.proofs.Common.{ℕ, zero, suc, arith, ◌≡◌, ◌<◌, ◌≤◌, ◌+◌, ◌==◌, if◌then◌else◌, ◌&&◌, ltb, is_some, Bool, true, false, List, [], ◌∷◌, length, drop, map, get_or, refl, sym, ap, ap₂, subst, ◌∙◌}
use Rattle.std.proofs.lemmas.Bool.{eq-eqb, eqb-true, false≢true, ltb-true}
use Rattle.std.proofs.lemmas.List.{at_drop_all, drop_more}
use Rattle.std.specs.Prelude.{⊤, ◌≢◌}
use Rattle.std.specs.List.{All}
use Rattle.buffer_common.specs.declared.tag.Tag.{Tag}
use Rattle.buffer_tags.specs.LanguageTable.{tags_of_table}
use Rattle.layout_common.specs.declared.glyph_row.GlyphRow.{GlyphRow}
use Rattle.layout_common.specs.Rows.{value_of, with_value}
use Rattle.layout_face.specs.declared.parts.FaceParts.{FaceParts}
use Rattle.plan_cache.specs.Cache.{Cache}
use Rattle.plan_cache.specs.Cached.{IsCachedFor}
use Rattle.plan_cache.specs.declared.cached.CachedPlan.{CachedPlan}
use Rattle.script_dispatch.specs.declared.any_shaper.hb_ot_any_shaper_t.{hb_ot_any_shaper_t}
use Rattle.script_plan.specs.Plans.{planned_shaper, text_map, text_plan}
use Rattle.script_plan.specs.declared.plan.hb_ot_shape_plan_t.{hb_ot_shape_plan_t}
use Rattle.shape_pipeline.specs.Plans.{IsPlanOf}
use Rattle.shell_readers.specs.declared.input.RunInput.{RunInput}
use Rattle.c_text.specs.declared.types.kus_glyph_advance_t.{kus_glyph_advance_t}
use Rattle.c_text.specs.Advances.{advance_by, advance_refusal, advances_refusal, with_advances}
use Rattle.c_text.specs.Plans.{HasPlansOf}

-- ---- rows of advances

-- rows by a client's list
abbrev pub rows_by : List kus_glyph_advance_t → List (GlyphRow ℕ) → List (GlyphRow ℕ)
rows_by given rows = map (λ r. record { glyph = r.glyph; value = advance_by given r.glyph r.value }) rows

abbrev row_of_value : ℕ → ℕ → GlyphRow ℕ
row_of_value glyph value = record { glyph = glyph; value = value }

row_by : (b : Bool) (glyph advance : ℕ) (r : GlyphRow ℕ) → (r.glyph == glyph) ≡ b
    → (if r.glyph == glyph then row_of_value glyph advance else r) ≡ row_of_value r.glyph (if r.glyph == glyph then advance else r.value)
row_by true glyph advance r e = rw e (ap (λ g. row_of_value g advance) (sym (eqb-true r.glyph glyph e)))
row_by false glyph advance r e = rw e refl

rows_with : (a : kus_glyph_advance_t) (rows : List (GlyphRow ℕ)) → with_value a.glyph a.advance rows ≡ rows_by (a ∷ []) rows
rows_with a [] = refl
rows_with a (r ∷ rows) = ap₂ (λ (x : GlyphRow ℕ) (xs : List (GlyphRow ℕ)). x ∷ xs) (row_by (r.glyph == a.glyph) a.glyph a.advance r refl) (rows_with a rows)

rows_in_turn : (a : kus_glyph_advance_t) (given : List kus_glyph_advance_t) (rows : List (GlyphRow ℕ)) → rows_by (a ∷ given) rows ≡ rows_by given (rows_by (a ∷ []) rows)
rows_in_turn a given [] = refl
rows_in_turn a given (r ∷ rows) = ap (λ (xs : List (GlyphRow ℕ)). row_of_value r.glyph (advance_by (a ∷ given) r.glyph r.value) ∷ xs) (rows_in_turn a given rows)

rows_by_none : (rows : List (GlyphRow ℕ)) → rows_by [] rows ≡ rows
rows_by_none [] = refl
rows_by_none (r ∷ rows) = ap (λ (xs : List (GlyphRow ℕ)). r ∷ xs) (rows_by_none rows)

-- ---- fonts

pub one_set : (a : kus_glyph_advance_t) (old new : FaceParts) → new ≡ record old { h = with_value a.glyph a.advance old.h } → new ≡ with_advances (a ∷ []) old
one_set a old new set = set ∙ ap (λ (rows : List (GlyphRow ℕ)). record old { h = rows }) (rows_with a old.h)

set_in_turn : (a : kus_glyph_advance_t) (given : List kus_glyph_advance_t) (font : FaceParts) → with_advances (a ∷ given) font ≡ with_advances given (with_advances (a ∷ []) font)
set_in_turn a given font = ap (λ (rows : List (GlyphRow ℕ)). record font { h = rows }) (rows_in_turn a given font.h)

none_set : (font : FaceParts) → with_advances [] font ≡ font
none_set font = ap (λ (rows : List (GlyphRow ℕ)). record font { h = rows }) (rows_by_none font.h)

-- one more advance is set; those that are left lead to the same font
set_next : (given : List kus_glyph_advance_t) (i : ℕ) (d : kus_glyph_advance_t) (font next all : FaceParts)
    → with_advances (drop i given) font ≡ all → i < length given → next ≡ with_advances (get_or given i d ∷ []) font → with_advances (drop (i + 1) given) next ≡ all
set_next given i d font next all left inside set =
    let rest = drop (i + 1) given in
    ap (λ f. with_advances rest f) set ∙ sym (set_in_turn (get_or given i d) rest font) ∙ sym (ap (λ l. with_advances l font) (drop_more given i d inside)) ∙ left

-- past the end all are set
pub all_set : (given : List kus_glyph_advance_t) (i : ℕ) (font all : FaceParts) → with_advances (drop i given) font ≡ all → length given ≤ i → font ≡ all
all_set given i font all left past = sym (none_set font) ∙ sym (at_drop_all (λ (l : List kus_glyph_advance_t). with_advances l font) given i past) ∙ left

-- ---- refusals

refusal_by : (b : Bool) (font : FaceParts) (a : kus_glyph_advance_t) (given : List kus_glyph_advance_t) → (advance_refusal font a == 0) ≡ b
    → advances_refusal font (a ∷ given) ≡ 0 → (advance_refusal font a ≡ 0) × (advances_refusal font given ≡ 0)
refusal_by true font a given e none = (eqb-true _ 0 e, sym (ap (λ b. if b then advances_refusal font given else advance_refusal font a) e) ∙ none)
refusal_by false font a given e none =
    let own : advance_refusal font a ≡ 0 = sym (ap (λ b. if b then advances_refusal font given else advance_refusal font a) e) ∙ none in
    absurd (false≢true (sym e ∙ eq-eqb _ 0 own))

-- of a list that is taken each advance is, and so are those that are left
pub taken_next : (given : List kus_glyph_advance_t) (i : ℕ) (a d : kus_glyph_advance_t) (font : FaceParts) → advances_refusal font (drop i given) ≡ 0 → i < length given → a ≡ get_or given i d
    → (advance_refusal font a ≡ 0) × (advances_refusal font (drop (i + 1) given) ≡ 0)
taken_next given i a d font none inside is =
    let rest = drop (i + 1) given in
    let opened : drop i given ≡ a ∷ rest = drop_more given i d inside ∙ ap (λ x. x ∷ rest) (sym is) in
    refusal_by (advance_refusal font a == 0) font a rest refl (sym (ap (λ l. advances_refusal font l) opened) ∙ none)

-- one more advance of a list that is taken is set: those that are left are taken, and lead to the same font
pub one_more_set : (given : List kus_glyph_advance_t) (i : ℕ) (d : kus_glyph_advance_t) (old font next : FaceParts)
    → (with_advances (drop i given) font ≡ with_advances given old) × (advances_refusal old (drop i given) ≡ 0) → i < length given → next ≡ with_advances (get_or given i d ∷ []) font
    → (with_advances (drop (i + 1) given) next ≡ with_advances given old) × (advances_refusal old (drop (i + 1) given) ≡ 0)
one_more_set given i d old font next are inside set =
    (set_next given i d font next (with_advances given old) are.0 inside set, (taken_next given i (get_or given i d) d old are.1 inside refl).1)

-- the refusal of an advance by its three tests
refusal_tests : (glyph row advance : Bool) → ℕ
refusal_tests glyph row advance = if glyph && row then (if advance then 0 else 28) else 27

tests_hold : (glyph row advance : Bool) → refusal_tests glyph row advance ≡ 0 → (glyph ≡ true) × (advance ≡ true)
unfolding refusal_tests
tests_hold true true true none = (refl, refl)
tests_hold true true false none = absurd (omega (arith, none))
tests_hold true false advance none = absurd (omega (arith, none))
tests_hold false row advance none = absurd (omega (arith, none))

-- an advance that is taken, and its glyph, have 16 bits
pub taken_fits : (font : FaceParts) (a : kus_glyph_advance_t) → advance_refusal font a ≡ 0 → (a.glyph < 65536) × (a.advance < 65536)
unfolding refusal_tests
taken_fits font a none =
    let hold = tests_hold (ltb a.glyph 65536) (is_some (value_of a.glyph font.h)) (ltb a.advance 65536) none in
    (ltb-true a.glyph 65536 hold.0, ltb-true a.advance 65536 hold.1)

-- ---- plans

-- a plan of a font is one of the font with other advances: it depends on the layout tables alone
plan_stays : (font : FaceParts) (rows : List (GlyphRow ℕ)) (plan : hb_ot_shape_plan_t hb_ot_any_shaper_t ⊤) → IsPlanOf font plan → IsPlanOf (record font { h = rows }) plan
unfolding planned_shaper text_map text_plan
plan_stays font rows plan is = record { shaper = is.shaper; script_plan = is.script_plan; features = is.features; tags = is.tags }

cached_stays : (font : FaceParts) (rows : List (GlyphRow ℕ)) (tags : List ℕ → List Tag) (k : CachedPlan) → IsCachedFor font tags k → IsCachedFor (record font { h = rows }) tags k
cached_stays font rows tags k is = record { plan = plan_stays font rows k.plan.value is.plan; tagged = is.tagged }

all_stay : (font : FaceParts) (rows : List (GlyphRow ℕ)) (tags : List ℕ → List Tag) (plans : List CachedPlan) → All (IsCachedFor font tags) plans → All (IsCachedFor (record font { h = rows }) tags) plans
all_stay font rows tags plans are k d lt = cached_stays font rows tags (get_or plans k d) (are k d lt)

-- the plans of a font stay, whether its advances are set or refused
pub plans_stay : (status : ℕ) (old new : RunInput) (given : List kus_glyph_advance_t) (plans : Cache)
    → (status ≡ 0 → (advances_refusal old.face given ≡ 0) × (new ≡ record old { face = with_advances given old.face })) → (status ≢ 0 → new ≡ old) → HasPlansOf old plans → HasPlansOf new plans
plans_stay zero old new given plans set kept are =
    let P : RunInput → Type 0 = λ i. HasPlansOf i plans in
    subst P (sym ((set refl).1)) (all_stay old.face (rows_by given old.face.h) (tags_of_table old.tables.languages) plans.plans are)
plans_stay (suc n) old new given plans set kept are =
    let P : RunInput → Type 0 = λ i. HasPlansOf i plans in
    subst P (sym (kept (λ e. absurd (omega (arith, e))))) are
