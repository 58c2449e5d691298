-- The stages of positioning one after another.
use Rattle.std.proofs.Common.{ℕ, ◌≡◌, ◌≤◌, ◌<◌, ◌+◌, List, [], ◌∷◌, length, drop, get_or, Ok, Err, Option, Some, None, sym, subst}
use Rattle.std.specs.Prelude.{slice_get, Result}
use Rattle.std.specs.Option.{option_map_or}
use Rattle.std.proofs.lemmas.List.{drop_more, drop_all}
use Rattle.buffer_glyphs.specs.declared.cause.ShapeCause.{ShapeCause}
use Rattle.buffer_core.specs.Readings.{Stage, reading_of}
use Rattle.buffer_core.specs.Steps.{follows_same}
use Rattle.buffer_core.specs.Sides.{Sides}
use Rattle.layout_map.specs.declared.stages.StageMap.{StageMap}
use Rattle.layout_face.specs.declared.parts.FaceParts.{FaceParts}
use Rattle.layout_face.specs.declared.positioning.PositioningLookup.{PositioningLookup}
use Rattle.layout_face.specs.declared.positioning.PositioningTable.{PositioningTable}
use Rattle.layout_map_features.specs.declared.lookup.lookup_map_t.{lookup_map_t}
use Rattle.layout_map.specs.Compiled.{TableStages, lookups_of_stage}
use Rattle.buffer_stages.specs.Ready.{DoesGlyphStage, DoesGlyphStageFrom, IsReady, IsDone, IsDoneFrom, state_with}
use Rattle.buffer_stages.specs.Pauses.{Pauses, pause_stage}
use Rattle.buffer_stages.proofs.Lemmas.Ways.{AreStagesDone, both_done, first_refused, next_done, next_refused, no_stage_done, nothing_done, second_refused, stages_done}
use Rattle.layout_positioning.specs.Lookups.{lookup_stage}
use Rattle.layout_positioning.specs.Positioning.{lookups_stage, positioning_lookups, table_stage, table_stages}

-- ---- lookups one after another

-- of some lookups those from an index on are left
abbrev pub AreDone : FaceParts → List PositioningLookup → List lookup_map_t → ℕ → Sides → Sides → Type 0
AreDone font table all k old now = AreStagesDone (lookups_stage font table all) (lookups_stage font table (drop k all)) 1 1 old now

pub none_done : (font : FaceParts) (table : List PositioningLookup) (all : List lookup_map_t) (s : Sides) → IsReady s → AreDone font table all 0 s s
none_done font table all s ready = no_stage_done (lookups_stage font table all) 1 s ready

-- an index without a lookup
pub no_lookup_done : (font : FaceParts) (m : lookup_map_t) (table : List PositioningLookup) (o : Option PositioningLookup) (r : ℕ) (s : Sides) → IsReady s → None ≡ o → IsDoneFrom r r (lookup_stage font table o m) s s
no_lookup_done font m table o r s ready none =
    let P : Option PositioningLookup → Type 0 = λ p. IsDoneFrom r r (lookup_stage font table p m) s s in
    subst P none (nothing_done r s ready)

pub one_done : (font : FaceParts) (table : List PositioningLookup) (all : List lookup_map_t) (k : ℕ) (e : lookup_map_t) (old now next : Sides) → k < length all → AreDone font table all k old now
    → IsDoneFrom 1 1 (lookup_stage font table (slice_get table (get_or all k e).index) (get_or all k e)) now next → AreDone font table all (k + 1) old next
one_done font table all k e old now next lt a d =
    let m = get_or all k e in
    let P : List lookup_map_t → Type 0 = λ ms. AreStagesDone (lookups_stage font table all) (lookups_stage font table ms) 1 1 old now in
    next_done (lookups_stage font table all) (lookup_stage font table (slice_get table m.index) m) (lookups_stage font table (drop (k + 1) all)) 1 1 1 old now next (subst P (drop_more all k e lt) a) d

pub one_refused : (font : FaceParts) (table : List PositioningLookup) (all : List lookup_map_t) (k : ℕ) (e : lookup_map_t) (old now : Sides) (cause : ShapeCause) → k < length all → AreDone font table all k old now
    → reading_of (lookup_stage font table (slice_get table (get_or all k e).index) (get_or all k e)) (state_with 1 now) ≡ Err cause → reading_of (lookups_stage font table all) (state_with 1 old) ≡ Err cause
one_refused font table all k e old now cause lt a is =
    let m = get_or all k e in
    let P : List lookup_map_t → Type 0 = λ ms. AreStagesDone (lookups_stage font table all) (lookups_stage font table ms) 1 1 old now in
    next_refused (lookups_stage font table all) (lookup_stage font table (slice_get table m.index) m) (lookups_stage font table (drop (k + 1) all)) 1 1 old now cause (subst P (drop_more all k e lt) a) is

pub all_done : (font : FaceParts) (table : List PositioningLookup) (all : List lookup_map_t) (k : ℕ) (old now : Sides) → length all ≤ k → AreDone font table all k old now → IsDoneFrom 1 1 (lookups_stage font table all) old now
all_done font table all k old now le a =
    let P : List lookup_map_t → Type 0 = λ ms. AreStagesDone (lookups_stage font table all) (lookups_stage font table ms) 1 1 old now in
    stages_done (lookups_stage font table all) (lookups_stage font table []) 1 1 old now (follows_same (state_with 1 now)) (subst P (drop_all k all le) a)

-- lookups of a font without a table
no_lookups : (font : FaceParts) (maps : List lookup_map_t) (s : Sides) → IsReady s → IsDoneFrom 1 1 (lookups_stage font [] maps) s s
no_lookups font [] s ready = nothing_done 1 s ready
no_lookups font (m ∷ maps) s ready = both_done (lookup_stage font [] None m) (lookups_stage font [] maps) 1 1 1 s s s (nothing_done 1 s ready) (no_lookups font maps s ready)

pub no_table : (font : FaceParts) (maps : List lookup_map_t) (s : Sides) → IsReady s → font.gpos ≡ None → IsDoneFrom 1 1 (lookups_stage font (positioning_lookups font) maps) s s
no_table font maps s ready none =
    let P : Option PositioningTable → Type 0 = λ o. IsDoneFrom 1 1 (lookups_stage font (option_map_or (λ t. t.lookups) o []) maps) s s in
    subst P (sym none) (no_lookups font maps s ready)

-- what holds of the lookups of the font's table holds of the font's lookups
pub of_table : (font : FaceParts) (table : PositioningTable) → Some table ≡ font.gpos → (P : List PositioningLookup → Type 0) → P table.lookups → P (positioning_lookups font)
of_table font table is P h =
    let Q : Option PositioningTable → Type 0 = λ o. P (option_map_or (λ t. t.lookups) o []) in
    subst Q is h

-- ---- the stages of a table

-- of the stages of a table those from an index on are left
abbrev pub AreTableStagesDone : FaceParts → List PositioningLookup → TableStages → Pauses → ℕ → Sides → Sides → Type 0
AreTableStagesDone font lookups t pauses i old now =
    AreStagesDone (table_stages font lookups t pauses 0 t.stages) (table_stages font lookups t pauses i (drop i t.stages)) 1 1 old now

pub stage_done : (font : FaceParts) (lookups : List PositioningLookup) (t : TableStages) (pauses : Pauses) (i : ℕ) (e : StageMap) (ls : List lookup_map_t) (p : Option ℕ) (old now paused_at next : Sides) → i < length t.stages
    → AreTableStagesDone font lookups t pauses i old now → ls ≡ lookups_of_stage t i → p ≡ (get_or t.stages i e).pause → IsDoneFrom 1 1 (lookups_stage font lookups ls) now paused_at → IsDoneFrom 1 1 (pause_stage pauses p) paused_at next
    → AreTableStagesDone font lookups t pauses (i + 1) old next
stage_done font lookups t pauses i e ls p old now paused_at next lt a those that d f =
    let s = get_or t.stages i e in
    let P : List StageMap → Type 0 = λ ss. AreStagesDone (table_stages font lookups t pauses 0 t.stages) (table_stages font lookups t pauses i ss) 1 1 old now in
    let Q : List lookup_map_t → Type 0 = λ ms. IsDoneFrom 1 1 (lookups_stage font lookups ms) now paused_at in
    let R : Option ℕ → Type 0 = λ n. IsDoneFrom 1 1 (pause_stage pauses n) paused_at next in
    next_done (table_stages font lookups t pauses 0 t.stages) (table_stage font lookups t pauses i s.pause) (table_stages font lookups t pauses (i + 1) (drop (i + 1) t.stages)) 1 1 1 old now next (subst P (drop_more t.stages i e lt) a)
    (both_done (lookups_stage font lookups (lookups_of_stage t i)) (pause_stage pauses s.pause) 1 1 1 now paused_at next (subst Q those d) (subst R that f))

stage_refused : (font : FaceParts) (lookups : List PositioningLookup) (t : TableStages) (pauses : Pauses) (i : ℕ) (e : StageMap) (old now : Sides) (cause : ShapeCause) → i < length t.stages → AreTableStagesDone font lookups t pauses i old now
    → reading_of (table_stage font lookups t pauses i (get_or t.stages i e).pause) (state_with 1 now) ≡ Err cause → reading_of (table_stages font lookups t pauses 0 t.stages) (state_with 1 old) ≡ Err cause
stage_refused font lookups t pauses i e old now cause lt a is =
    let s = get_or t.stages i e in
    let P : List StageMap → Type 0 = λ ss. AreStagesDone (table_stages font lookups t pauses 0 t.stages) (table_stages font lookups t pauses i ss) 1 1 old now in
    next_refused (table_stages font lookups t pauses 0 t.stages) (table_stage font lookups t pauses i s.pause) (table_stages font lookups t pauses (i + 1) (drop (i + 1) t.stages)) 1 1 old now cause (subst P (drop_more t.stages i e lt) a) is

-- its lookups are refused
pub stage_lookups_refused : (font : FaceParts) (lookups : List PositioningLookup) (t : TableStages) (pauses : Pauses) (i : ℕ) (ls : List lookup_map_t) (old now : Sides) (cause : ShapeCause) → i < length t.stages → AreTableStagesDone font lookups t pauses i old now → ls ≡ lookups_of_stage t i
    → reading_of (lookups_stage font lookups ls) (state_with 1 now) ≡ Err cause → reading_of (table_stages font lookups t pauses 0 t.stages) (state_with 1 old) ≡ Err cause
stage_lookups_refused font lookups t pauses i ls old now cause lt a those is =
    let none : StageMap = record { last_lookup = 0; pause = None } in
    let Q : List lookup_map_t → Type 0 = λ ms. reading_of (lookups_stage font lookups ms) (state_with 1 now) ≡ Err cause in
    stage_refused font lookups t pauses i none old now cause lt a (first_refused (lookups_stage font lookups (lookups_of_stage t i)) (pause_stage pauses (get_or t.stages i none).pause) 1 now cause (subst Q those is))

-- its pause is
pub stage_pause_refused : (font : FaceParts) (lookups : List PositioningLookup) (t : TableStages) (pauses : Pauses) (i : ℕ) (e : StageMap) (ls : List lookup_map_t) (p : Option ℕ) (old now paused_at : Sides) (cause : ShapeCause) → i < length t.stages → AreTableStagesDone font lookups t pauses i old now
    → ls ≡ lookups_of_stage t i → p ≡ (get_or t.stages i e).pause → IsDoneFrom 1 1 (lookups_stage font lookups ls) now paused_at → reading_of (pause_stage pauses p) (state_with 1 paused_at) ≡ Err cause
    → reading_of (table_stages font lookups t pauses 0 t.stages) (state_with 1 old) ≡ Err cause
stage_pause_refused font lookups t pauses i e ls p old now paused_at cause lt a those that d is =
    let s = get_or t.stages i e in
    let Q : List lookup_map_t → Type 0 = λ ms. IsDoneFrom 1 1 (lookups_stage font lookups ms) now paused_at in
    let R : Option ℕ → Type 0 = λ n. reading_of (pause_stage pauses n) (state_with 1 paused_at) ≡ Err cause in
    stage_refused font lookups t pauses i e old now cause lt a (second_refused (lookups_stage font lookups (lookups_of_stage t i)) (pause_stage pauses s.pause) 1 1 now paused_at cause (subst Q those d) (subst R that is))

pub all_stages_done : (font : FaceParts) (lookups : List PositioningLookup) (t : TableStages) (pauses : Pauses) (i : ℕ) (old now : Sides) → length t.stages ≤ i → AreTableStagesDone font lookups t pauses i old now → IsDoneFrom 1 1 (table_stages font lookups t pauses 0 t.stages) old now
all_stages_done font lookups t pauses i old now le a =
    let P : List StageMap → Type 0 = λ ss. AreStagesDone (table_stages font lookups t pauses 0 t.stages) (table_stages font lookups t pauses i ss) 1 1 old now in
    stages_done (table_stages font lookups t pauses 0 t.stages) (table_stages font lookups t pauses i []) 1 1 old now (follows_same (state_with 1 now)) (subst P (drop_all i t.stages le) a)

-- a buffer's run is one whose random state is 1
done_from_one : (stage : Stage) (old new : Sides) → IsDoneFrom 1 1 stage old new → IsDone stage old new
done_from_one stage old new d = record { follows = d.follows; settings = d.settings; ready = d.ready; numbers = d.numbers }

pub does_from_one : {X : Type 0} (stage : Stage) (result : Result X ShapeCause) (old new : Sides) → DoesGlyphStageFrom 1 1 stage result old new → DoesGlyphStage stage result old new
does_from_one stage (Ok x) old new d = done_from_one stage old new d
does_from_one stage (Err e) old new d = d
