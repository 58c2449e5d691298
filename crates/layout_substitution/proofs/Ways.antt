-- The stages of substitution one after another.
use Rattle.std.proofs.Common.{ℕ, ◌≡◌, ◌≤◌, ◌<◌, ◌+◌, List, [], ◌∷◌, length, drop, get_or, Err, Option, Some, None, refl, sym, subst}
use Rattle.std.proofs.lemmas.List.{drop_more, drop_all}
use Rattle.std.specs.Option.{option_map_or}
use Rattle.layout_face.specs.declared.substitution.SubstitutionTable.{SubstitutionTable}
use Rattle.buffer_glyphs.specs.declared.cause.ShapeCause.{ShapeCause}
use Rattle.buffer_core.specs.Readings.{reading_of}
use Rattle.buffer_core.specs.Steps.{follows_then, follows_same, refused_first}
use Rattle.buffer_core.specs.Sides.{Sides}
use Rattle.layout_map.specs.declared.stages.StageMap.{StageMap}
use Rattle.layout_face.specs.declared.parts.FaceParts.{FaceParts}
use Rattle.layout_face.specs.declared.substitution.SubstLookup.{SubstLookup}
use Rattle.layout_map_features.specs.declared.lookup.lookup_map_t.{lookup_map_t}
use Rattle.layout_map.specs.Compiled.{TableStages, lookups_of_stage}
use Rattle.buffer_stages.specs.Ready.{IsReady, IsDoneFrom, state_with}
use Rattle.layout_substitution.specs.Lookups.{lookup_stage, lookups_stage}
use Rattle.buffer_stages.specs.Pauses.{Pauses, pause_stage}
use Rattle.layout_substitution.specs.Substituting.{substitution_lookups, table_stage, table_stages}
use Rattle.buffer_stages.proofs.Lemmas.Ways.{AreStagesDone, both_done, first_refused, next_done, nothing_done, second_refused}

-- lookups of a font without a table
pub no_lookups : (font : FaceParts) (maps : List lookup_map_t) (r : ℕ) (s : Sides) → IsReady s → IsDoneFrom r r (lookups_stage font [] maps) s s
no_lookups font [] r s ready = nothing_done r s ready
no_lookups font (m ∷ maps) r s ready =
    let others = no_lookups font maps r s ready in
    record {
      follows = follows_then (reading_of (lookup_stage font [] None m) (state_with r s)) (lookups_stage font [] maps) (state_with r s) (state_with r s) (state_with r s) (follows_same (state_with r s)) others.follows;
      settings = refl;
      ready = ready;
      numbers = λ h. h;
    }

pub no_table : (font : FaceParts) (maps : List lookup_map_t) (r : ℕ) (s : Sides) → IsReady s → font.gsub ≡ None → IsDoneFrom r r (lookups_stage font (substitution_lookups font) maps) s s
no_table font maps r s ready none =
    let P : Option SubstitutionTable → Type 0 = λ o. IsDoneFrom r r (lookups_stage font (option_map_or (λ t. t.lookups) o []) maps) s s in
    subst P (sym none) (no_lookups font maps r s ready)

-- what holds of the lookups of the font's table holds of the font's lookups
pub of_table : (font : FaceParts) (table : SubstitutionTable) → Some table ≡ font.gsub → (P : List SubstLookup → Type 0) → P table.lookups → P (substitution_lookups font)
of_table font table is P h =
    let Q : Option SubstitutionTable → Type 0 = λ o. P (option_map_or (λ t. t.lookups) o []) in
    subst Q is h

-- ---- the stages of a table

-- of the stages of a table those from an index on are left
abbrev pub AreTableStagesDone : FaceParts → List SubstLookup → TableStages → Pauses → ℕ → ℕ → ℕ → Sides → Sides → Type 0
AreTableStagesDone font lookups t pauses i before r old now =
    AreStagesDone (table_stages font lookups t pauses 0 t.stages) (table_stages font lookups t pauses i (drop i t.stages)) before r old now

pub table_stage_done : (font : FaceParts) (lookups : List SubstLookup) (t : TableStages) (pauses : Pauses) (i : ℕ) (e : StageMap) (before r mid after : ℕ) (old now paused_at next : Sides) → i < length t.stages
    → AreTableStagesDone font lookups t pauses i before r old now → IsDoneFrom r mid (lookups_stage font lookups (lookups_of_stage t i)) now paused_at → IsDoneFrom mid after (pause_stage pauses (get_or t.stages i e).pause) paused_at next
    → AreTableStagesDone font lookups t pauses (i + 1) before after old next
table_stage_done font lookups t pauses i e before r mid after old now paused_at next lt a d p =
    let s = get_or t.stages i e in
    let P : List StageMap → Type 0 = λ ss. AreStagesDone (table_stages font lookups t pauses 0 t.stages) (table_stages font lookups t pauses i ss) before r old now in
    next_done (table_stages font lookups t pauses 0 t.stages) (table_stage font lookups t pauses i s.pause) (table_stages font lookups t pauses (i + 1) (drop (i + 1) t.stages)) before r after old now next
    (subst P (drop_more t.stages i e lt) a) (both_done (lookups_stage font lookups (lookups_of_stage t i)) (pause_stage pauses s.pause) r mid after now paused_at next d p)

-- the stage that is next refuses
stage_refused : (font : FaceParts) (lookups : List SubstLookup) (t : TableStages) (pauses : Pauses) (i : ℕ) (e : StageMap) (before r : ℕ) (old now : Sides) (cause : ShapeCause) → i < length t.stages
    → AreTableStagesDone font lookups t pauses i before r old now → reading_of (table_stage font lookups t pauses i (get_or t.stages i e).pause) (state_with r now) ≡ Err cause
    → reading_of (table_stages font lookups t pauses 0 t.stages) (state_with before old) ≡ Err cause
stage_refused font lookups t pauses i e before r old now cause lt a is =
    let s = get_or t.stages i e in
    let P : List StageMap → Type 0 = λ ss. AreStagesDone (table_stages font lookups t pauses 0 t.stages) (table_stages font lookups t pauses i ss) before r old now in
    let here = subst P (drop_more t.stages i e lt) a in
    here.refuses cause (refused_first (reading_of (table_stage font lookups t pauses i s.pause) (state_with r now)) (table_stages font lookups t pauses (i + 1) (drop (i + 1) t.stages)) cause is)

pub lookups_refused : (font : FaceParts) (lookups : List SubstLookup) (t : TableStages) (pauses : Pauses) (i : ℕ) (e : StageMap) (before r : ℕ) (old now : Sides) (cause : ShapeCause) → i < length t.stages
    → AreTableStagesDone font lookups t pauses i before r old now → reading_of (lookups_stage font lookups (lookups_of_stage t i)) (state_with r now) ≡ Err cause
    → reading_of (table_stages font lookups t pauses 0 t.stages) (state_with before old) ≡ Err cause
lookups_refused font lookups t pauses i e before r old now cause lt a is =
    stage_refused font lookups t pauses i e before r old now cause lt a (first_refused (lookups_stage font lookups (lookups_of_stage t i)) (pause_stage pauses (get_or t.stages i e).pause) r now cause is)

pub then_refused : (font : FaceParts) (lookups : List SubstLookup) (t : TableStages) (pauses : Pauses) (i : ℕ) (e : StageMap) (before r mid : ℕ) (old now paused_at : Sides) (cause : ShapeCause) → i < length t.stages
    → AreTableStagesDone font lookups t pauses i before r old now → IsDoneFrom r mid (lookups_stage font lookups (lookups_of_stage t i)) now paused_at → reading_of (pause_stage pauses (get_or t.stages i e).pause) (state_with mid paused_at) ≡ Err cause
    → reading_of (table_stages font lookups t pauses 0 t.stages) (state_with before old) ≡ Err cause
then_refused font lookups t pauses i e before r mid old now paused_at cause lt a d is =
    stage_refused font lookups t pauses i e before r old now cause lt a (second_refused (lookups_stage font lookups (lookups_of_stage t i)) (pause_stage pauses (get_or t.stages i e).pause) r mid now paused_at cause d is)

pub all_stages_done : (font : FaceParts) (lookups : List SubstLookup) (t : TableStages) (pauses : Pauses) (i before r : ℕ) (old now : Sides) → length t.stages ≤ i → AreTableStagesDone font lookups t pauses i before r old now
    → IsDoneFrom before r (table_stages font lookups t pauses 0 t.stages) old now
all_stages_done font lookups t pauses i before r old now le a =
    let P : List StageMap → Type 0 = λ ss. AreStagesDone (table_stages font lookups t pauses 0 t.stages) (table_stages font lookups t pauses i ss) before r old now in
    let done = subst P (drop_all i t.stages le) a in
    record { follows = done.follows (state_with r now) (follows_same (state_with r now)); settings = done.settings; ready = done.ready; numbers = done.numbers }

-- ---- as calls say it

-- a stage of lookups was done, and its pause
pub stage_done : (font own : FaceParts) (t : TableStages) (pauses : Pauses) (i : ℕ) (e : StageMap) (ls : List lookup_map_t) (p : Option ℕ) (before r mid : ℕ) (old now paused_at next : Sides) → i < length t.stages
    → AreTableStagesDone font (substitution_lookups font) t pauses i before r old now → own ≡ font → ls ≡ lookups_of_stage t i → p ≡ (get_or t.stages i e).pause
    → IsDoneFrom r mid (lookups_stage own (substitution_lookups own) ls) now paused_at → IsDoneFrom mid mid (pause_stage pauses p) paused_at next
    → AreTableStagesDone font (substitution_lookups font) t pauses (i + 1) before mid old next
stage_done font own t pauses i e ls p before r mid old now paused_at next lt a same those that d f =
    let P : FaceParts → Type 0 = λ o. IsDoneFrom r mid (lookups_stage o (substitution_lookups o) ls) now paused_at in
    let Q : List lookup_map_t → Type 0 = λ ms. IsDoneFrom r mid (lookups_stage font (substitution_lookups font) ms) now paused_at in
    let R : Option ℕ → Type 0 = λ n. IsDoneFrom mid mid (pause_stage pauses n) paused_at next in
    table_stage_done font (substitution_lookups font) t pauses i e before r mid mid old now paused_at next lt a (subst Q those (subst P same d)) (subst R that f)

-- its lookups are refused
pub stage_lookups_refused : (font own : FaceParts) (t : TableStages) (pauses : Pauses) (i : ℕ) (ls : List lookup_map_t) (before r : ℕ) (old now : Sides) (cause : ShapeCause) → i < length t.stages
    → AreTableStagesDone font (substitution_lookups font) t pauses i before r old now → own ≡ font → ls ≡ lookups_of_stage t i
    → reading_of (lookups_stage own (substitution_lookups own) ls) (state_with r now) ≡ Err cause → reading_of (table_stages font (substitution_lookups font) t pauses 0 t.stages) (state_with before old) ≡ Err cause
stage_lookups_refused font own t pauses i ls before r old now cause lt a same those is =
    let P : FaceParts → Type 0 = λ o. reading_of (lookups_stage o (substitution_lookups o) ls) (state_with r now) ≡ Err cause in
    let Q : List lookup_map_t → Type 0 = λ ms. reading_of (lookups_stage font (substitution_lookups font) ms) (state_with r now) ≡ Err cause in
    lookups_refused font (substitution_lookups font) t pauses i (record { last_lookup = 0; pause = None }) before r old now cause lt a (subst Q those (subst P same is))

-- its pause is
pub stage_pause_refused : (font own : FaceParts) (t : TableStages) (pauses : Pauses) (i : ℕ) (e : StageMap) (ls : List lookup_map_t) (p : Option ℕ) (before r mid : ℕ) (old now paused_at : Sides) (cause : ShapeCause) → i < length t.stages
    → AreTableStagesDone font (substitution_lookups font) t pauses i before r old now → own ≡ font → ls ≡ lookups_of_stage t i → p ≡ (get_or t.stages i e).pause
    → IsDoneFrom r mid (lookups_stage own (substitution_lookups own) ls) now paused_at → reading_of (pause_stage pauses p) (state_with mid paused_at) ≡ Err cause
    → reading_of (table_stages font (substitution_lookups font) t pauses 0 t.stages) (state_with before old) ≡ Err cause
stage_pause_refused font own t pauses i e ls p before r mid old now paused_at cause lt a same those that d is =
    let P : FaceParts → Type 0 = λ o. IsDoneFrom r mid (lookups_stage o (substitution_lookups o) ls) now paused_at in
    let Q : List lookup_map_t → Type 0 = λ ms. IsDoneFrom r mid (lookups_stage font (substitution_lookups font) ms) now paused_at in
    let R : Option ℕ → Type 0 = λ n. reading_of (pause_stage pauses n) (state_with mid paused_at) ≡ Err cause in
    then_refused font (substitution_lookups font) t pauses i e before r mid old now paused_at cause lt a (subst Q those (subst P same d)) (subst R that is)
