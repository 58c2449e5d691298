-- Rules that apply nested lookups, whatever those do.
use Rattle.std.proofs.Common.{ℕ, zero, suc, ◌≡◌, ◌≤◌, ◌<◌, ◌+◌, true, false, Bool, List, [], ◌∷◌, length, drop, get_or, Ok, Err, Option, Some, None, slice_get, refl, sym, ap, subst, ◌∙◌, if◌then◌else◌, arith}
use Rattle.std.specs.Prelude.{Result}
use Rattle.buffer_glyphs.specs.declared.cause.ShapeCause.{ShapeCause}
use Rattle.buffer_glyphs.specs.declared.info.hb_glyph_info_t.{hb_glyph_info_t}
use Rattle.buffer_glyphs.specs.Items.{item_of}
use Rattle.buffer_core.specs.Sides.{Sides, items_of}
use Rattle.layout_tables.specs.declared.context.ContextSubtable.{ContextSubtable}
use Rattle.layout_tables.specs.declared.context.SequenceLookupRecord.{SequenceLookupRecord}
use Rattle.layout_match.specs.Applied.{ApplyContext}
use Rattle.buffer_stages.specs.Actions.{Action, Outcome, Passes, Acts, Refuses, first_rule, whole}
use Rattle.buffer_stages.specs.Buffers.{cut_of, are_glyphs}
use Rattle.buffer_stages.specs.Performing.{cut_with, IsPerformed, Performs}
use Rattle.buffer_stages.proofs.Lemmas.Frames.{still_open, still_refused, same_numbers}
use Rattle.buffer_stages.proofs.Lemmas.Performed.{passes_nothing}
use Rattle.layout_contexts.specs.Chains.{Chain, chain_rule, context_subtable}
use Rattle.layout_contexts.specs.Fitting.{IsMatched}
use Rattle.layout_contexts.specs.Inside.{StaysInside}
use Rattle.layout_contexts.specs.Nested.{each_nested, one_record}
use Rattle.layout_contexts.specs.Nesting.{Walking}
use Rattle.layout_contexts.specs.Records.{RecordBegins, IsRecordBegun}
use Rattle.layout_contexts.specs.Rules.{chains_of, is_tried_at}
use Rattle.layout_contexts.specs.Shifts.{moved_end, indices_after_resize}
use Rattle.layout_contexts.proofs.Lemmas.Inside.{acted_stays}
use Rattle.layout_contexts.proofs.Lemmas.Lengths.{whole_length}
use Rattle.layout_contexts.proofs.Lemmas.Steps.{here, performs_nests}
use Rattle.layout_contexts.proofs.Lemmas.Subtables.{subtable_rules}
use Rattle.layout_contexts.proofs.Lemmas.Walks.{AreWalked, all_walked, lookup_acted, lookup_passed, one_walked, walk_failed}

-- ---- one context

pub not_tried : (nest : Option (ℕ → Action)) (a : ApplyContext) (subtable : ContextSubtable) (tried : Bool) (r : ℕ) (s : Sides) (g : hb_glyph_info_t) → slice_get s.ahead 0 ≡ Some g → tried ≡ is_tried_at subtable (item_of g) → tried ≡ false
    → Performs (context_subtable nest a subtable (cut_with r s)) (Ok false) r r s s
not_tried nest a subtable tried r s g at is off =
    passes_nothing r s (context_subtable nest a subtable (cut_with r s)) (subtable_rules nest a subtable r s g at ∙ ap (λ b. if b then first_rule (chain_rule nest a) (chains_of subtable) (cut_with r s) else Passes []) (sym is ∙ off))

pub tried_there : (nest : Option (ℕ → Action)) (a : ApplyContext) (subtable : ContextSubtable) (tried : Bool) (r after : ℕ) (y : Result Bool ShapeCause) (s new : Sides) (g : hb_glyph_info_t) → slice_get s.ahead 0 ≡ Some g → tried ≡ is_tried_at subtable (item_of g) → tried ≡ true
    → Performs (first_rule (chain_rule nest a) (chains_of subtable) (cut_with r s)) y r after s new → Performs (context_subtable nest a subtable (cut_with r s)) y r after s new
tried_there nest a subtable tried r after y s new g at is on d =
    let P : Outcome → Type 0 = λ o. Performs o y r after s new in
    subst P (sym (subtable_rules nest a subtable r s g at ∙ ap (λ b. if b then first_rule (chain_rule nest a) (chains_of subtable) (cut_with r s) else Passes []) (sym is ∙ on))) d

-- ---- records

-- without a level none is applied
pub none_nested : (nest : Option (ℕ → Action)) (records : List SequenceLookupRecord) (r end : ℕ) (ps : List ℕ) (s : Sides) → nest ≡ None → Walking (each_nested nest records (cut_with r s) ps end) (Ok end) ps r s s
none_nested nest records r end ps s e =
    let P : Option (ℕ → Action) → Type 0 = λ o. Walking (each_nested o records (cut_with r s) ps end) (Ok end) ps r s s in
    subst P (sym e) (refl, refl, here r s)

some_nested : (nest : Option (ℕ → Action)) (act : ℕ → Action) (records : List SequenceLookupRecord) (r after end : ℕ) (ps qs : List ℕ) (y : Result ℕ ShapeCause) (s new : Sides) → nest ≡ Some act
    → Walking (each_nested (Some act) records (cut_with r s) ps end) y qs after s new → Walking (each_nested nest records (cut_with r s) ps end) y qs after s new
some_nested nest act records r after end ps qs y s new e w =
    let P : Option (ℕ → Action) → Type 0 = λ o. Walking (each_nested o records (cut_with r s) ps end) y qs after s new in
    subst P (sym e) w

-- the lookup at a record's index kept what is before it
pub acted_inside : (r : SequenceLookupRecord) (ps rs : List ℕ) (p n m end to : ℕ) (s t u : Sides) → IsRecordBegun r ps p s t → n ≡ length (whole (cut_of t)) → length t.behind ≤ length u.behind → length u.behind ≤ m → rs ≡ indices_after_resize r.sequence_index n m ps → to ≡ moved_end p n m end
    → StaysInside (length (whole (cut_of s))) m ps rs end to
acted_inside r ps rs p n m end to s t u b en kept under er et =
    let at = b.behind in
    let same : n ≡ length (whole (cut_of s)) = en ∙ b.count in
    let P : ℕ → Type 0 = λ k. StaysInside k m ps rs end to in
    subst P same (acted_stays r ps rs p n m end to s t b (omega (arith, at, kept, under)) er et)

made_kept : (o : Outcome) (before after : ℕ) (a b : Sides) → IsPerformed o true before after a b → length a.behind ≤ length b.behind
made_kept (Passes es) before after a b d = cc
made_kept (Acts cut es) before after a b d = d.1.kept
made_kept (Refuses cause) before after a b d = absurd d

-- a record's lookup acted
pub record_acted : (act : ℕ → Action) (r : SequenceLookupRecord) (ps rs : List ℕ) (p end to n random after : ℕ) (acted : Bool) (s t u : Sides) → IsRecordBegun r ps p s t → acted ≡ true → IsPerformed (act r.lookup_index (cut_with random t)) acted random after t u → n ≡ length (whole (cut_of t))
    → rs ≡ indices_after_resize r.sequence_index n (length (whole (cut_of u))) ps → to ≡ moved_end p n (length (whole (cut_of u))) end → Walking (one_record act r (cut_with random s) ps end) (Ok to) rs after s u
record_acted act r ps rs p end to n random after acted s t u b acts d en er et =
    let P : Bool → Type 0 = λ k. IsPerformed (act r.lookup_index (cut_with random t)) k random after t u in
    let there = performs_nests (act r.lookup_index (cut_with random t)) (Ok true) random after t u (subst P acts d) in
    lookup_acted act r ps rs p end to n (length (whole (cut_of u))) random after s t u b there en refl er et

pub record_inside : (o : Outcome) (r : SequenceLookupRecord) (ps rs : List ℕ) (p end to n random after : ℕ) (acted : Bool) (s t u : Sides) → IsRecordBegun r ps p s t → acted ≡ true → IsPerformed o acted random after t u → n ≡ length (whole (cut_of t))
    → rs ≡ indices_after_resize r.sequence_index n (length (whole (cut_of u))) ps → to ≡ moved_end p n (length (whole (cut_of u))) end → StaysInside (length (whole (cut_of s))) (length (whole (cut_of u))) ps rs end to
record_inside o r ps rs p end to n random after acted s t u b acts d en er et =
    let P : Bool → Type 0 = λ k. IsPerformed o k random after t u in
    let long = whole_length u in
    acted_inside r ps rs p n (length (whole (cut_of u))) end to s t u b en (made_kept o random after t u (subst P acts d)) (omega (arith, long)) er et

-- it passed
pub record_passed : (act : ℕ → Action) (r : SequenceLookupRecord) (ps : List ℕ) (p end random after : ℕ) (acted : Bool) (s t u : Sides) → IsRecordBegun r ps p s t → acted ≡ false → IsPerformed (act r.lookup_index (cut_with random t)) acted random after t u
    → Walking (one_record act r (cut_with random s) ps end) (Ok end) ps after s u
record_passed act r ps p end random after acted s t u b passes d =
    let P : Bool → Type 0 = λ k. IsPerformed (act r.lookup_index (cut_with random t)) k random after t u in
    lookup_passed act r ps p end random after s t u b (performs_nests (act r.lookup_index (cut_with random t)) (Ok false) random after t u (subst P passes d))

-- what a record that was begun leaves of the buffer
pub begun_open : (r : SequenceLookupRecord) (ps : List ℕ) (p : ℕ) (s t : Sides) → IsRecordBegun r ps p s t → s.is_open ≡ true → t.is_open ≡ true
begun_open r ps p s t b e = still_open s t (b.left 1).still ∙ e

pub begun_closed : (r : SequenceLookupRecord) (ps : List ℕ) (p : ℕ) (s t : Sides) → IsRecordBegun r ps p s t → s.is_open ≡ false → t.is_open ≡ false
begun_closed r ps p s t b e = still_open s t (b.left 1).still ∙ e

pub begun_unrefused : (r : SequenceLookupRecord) (ps : List ℕ) (p : ℕ) (s t : Sides) → IsRecordBegun r ps p s t → s.has_refused ≡ false → t.has_refused ≡ false
begun_unrefused r ps p s t b e = still_refused s t (b.left 1).still ∙ e

pub begun_numbers : (r : SequenceLookupRecord) (ps : List ℕ) (p : ℕ) (s t : Sides) → IsRecordBegun r ps p s t → are_glyphs (items_of s) ≡ true → are_glyphs (items_of t) ≡ true
begun_numbers r ps p s t b e = (b.left 1).numbers e

pub begun_there : (r : SequenceLookupRecord) (ps : List ℕ) (p : ℕ) (s t : Sides) → IsRecordBegun r ps p s t → 0 < length t.ahead
begun_there r ps p s t b = b.ahead

-- what a match leaves of it
pub matched_open : (a : ApplyContext) (r : Chain) (random end : ℕ) (ps : List ℕ) (s t : Sides) → IsMatched a r random end ps s t → s.is_open ≡ true → t.is_open ≡ true
matched_open a r random end ps s t m e = still_open s t m.still ∙ e

pub matched_closed : (a : ApplyContext) (r : Chain) (random end : ℕ) (ps : List ℕ) (s t : Sides) → IsMatched a r random end ps s t → s.is_open ≡ false → t.is_open ≡ false
matched_closed a r random end ps s t m e = still_open s t m.still ∙ e

pub matched_unrefused : (a : ApplyContext) (r : Chain) (random end : ℕ) (ps : List ℕ) (s t : Sides) → IsMatched a r random end ps s t → s.has_refused ≡ false → t.has_refused ≡ false
matched_unrefused a r random end ps s t m e = still_refused s t m.still ∙ e

pub matched_numbers : (a : ApplyContext) (r : Chain) (random end : ℕ) (ps : List ℕ) (s t : Sides) → IsMatched a r random end ps s t → are_glyphs (items_of s) ≡ true → are_glyphs (items_of t) ≡ true
matched_numbers a r random end ps s t m e = ap are_glyphs (same_numbers s t m.cut_is) ∙ e

-- ---- records one after another; with what their lookups are applied may be told otherwise

pub next_walked : {A : Type 0} (act : A → ℕ → Action) (a b : A) (all : List SequenceLookupRecord) (k : ℕ) (r : SequenceLookupRecord) (before random after : ℕ) (start now next : Sides) (ps qs rs : List ℕ) (end at to : ℕ) → a ≡ b → k < length all → r ≡ get_or all k r
    → AreWalked (act b) all (drop k all) before random start now ps end qs at → Walking (one_record (act a) r (cut_with random now) qs at) (Ok to) rs after now next → AreWalked (act b) all (drop (k + 1) all) before after start next ps end rs to
next_walked {A = A} act a b all k r before random after start now next ps qs rs end at to same lt is w h =
    let P : A → Type 0 = λ j. Walking (one_record (act j) r (cut_with random now) qs at) (Ok to) rs after now next in
    one_walked (act b) all k r before random after start now next ps end qs at rs to lt is w (subst P same h)

pub next_failed : {A : Type 0} (act : A → ℕ → Action) (nest : Option (ℕ → Action)) (a b : A) (all : List SequenceLookupRecord) (k : ℕ) (r : SequenceLookupRecord) (before random after : ℕ) (start now final : Sides) (ps qs rs : List ℕ) (end at : ℕ) (x : ShapeCause) → nest ≡ Some (act b) → a ≡ b → k < length all → r ≡ get_or all k r
    → AreWalked (act b) all (drop k all) before random start now ps end qs at → Walking (one_record (act a) r (cut_with random now) qs at) (Err x) rs after now final
    → Walking (each_nested nest all (cut_with before start) ps end) (Err x) rs after start final
next_failed {A = A} act nest a b all k r before random after start now final ps qs rs end at x e same lt is w h =
    let P : A → Type 0 = λ j. Walking (one_record (act j) r (cut_with random now) qs at) (Err x) rs after now final in
    some_nested nest (act b) all before after end ps rs (Err x) start final e (walk_failed (act b) all k r before random after start now final ps end qs rs at x lt is w (subst P same h))

pub last_walked : (act : ℕ → Action) (nest : Option (ℕ → Action)) (all : List SequenceLookupRecord) (k before random : ℕ) (start now : Sides) (ps qs : List ℕ) (end at : ℕ) → nest ≡ Some act → length all ≤ k → AreWalked act all (drop k all) before random start now ps end qs at
    → Walking (each_nested nest all (cut_with before start) ps end) (Ok at) qs random start now
last_walked act nest all k before random start now ps qs end at e le w = some_nested nest act all before random end ps qs (Ok at) start now e (all_walked act all k before random start now ps end qs at le w)

-- what is told of an element that is there doesn't depend on what is told of one that isn't
pub get_or_any : {X : Type 0} (xs : List X) (k : ℕ) (d e : X) → k < length xs → get_or xs k d ≡ get_or xs k e
get_or_any [] k d e lt = absurd (omega (arith, lt))
get_or_any (x ∷ xs) zero d e lt = refl
get_or_any (x ∷ xs) (suc k) d e lt = get_or_any xs k d e (omega (arith, lt))

pub begun_some : (r : SequenceLookupRecord) (ps : List ℕ) (p : ℕ) (o : Option ℕ) (s t : Sides) → o ≡ Some p → RecordBegins r ps (Ok o) s t → IsRecordBegun r ps p s t
begun_some r ps p o s t e b = let P : Option ℕ → Type 0 = λ q. RecordBegins r ps (Ok q) s t in subst P e b
