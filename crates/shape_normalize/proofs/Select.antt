-- A character and the selector after it.
use Rattle.std.proofs.Common.{ℕ, ◌≡◌, ◌<◌, ◌+◌, Bool, true, false, List, [], ◌∷◌, ◌++◌, Option, Some, None, length, drop, refl, sym, ap, ap₂, subst, ◌∙◌, arith}
use Rattle.std.specs.Prelude.{slice_get, is_some, if◌then◌else◌}
use Rattle.std.proofs.lemmas.List.{drop-map, map-append}
use Rattle.buffer_glyphs.specs.declared.cause.ShapeCause.{ShapeCause}
use Rattle.buffer_glyphs.specs.declared.info.hb_glyph_info_t.{hb_glyph_info_t}
use Rattle.buffer_glyphs.specs.Items.{Item, item_of, strip}
use Rattle.buffer_glyphs.specs.Parts.{first_of, last_of, or}
use Rattle.buffer_glyphs.specs.Replacements.{numbered_copies, glyph_numbered, item_numbered}
use Rattle.buffer_glyphs.specs.Glyphs.{glyphs_merged_at, is_marked_at}
use Rattle.buffer_glyphs.specs.Items.{clusters}
use Rattle.buffer_glyphs.specs.Origins.{origin_of, origins}
use Rattle.buffer_glyphs.specs.Events.{Replace, origins_after}
use Rattle.buffer_glyphs.specs.Lemmas.Glyphs.{strip_merged_at}
use Rattle.buffer_core.specs.Sides.{Sides, all_glyphs, flag_requests_of, origins_of, origins_by}
use Rattle.buffer_core.proofs.Told.{stage_flags_ignore_glyph_flags}
use Rattle.buffer_core.specs.Merging.{with_merged, with_replaced}
use Rattle.buffer_core.proofs.HandedOn.{replaced_ahead, replaced_behind}
use Rattle.buffer_core.specs.Lending.{with_glyph_ahead}
use Rattle.buffer_stages.specs.Actions.{Cut}
use Rattle.buffer_stages.specs.Buffers.{cut_of}
use Rattle.buffer_stages.proofs.Lemmas.Attempts.{cut_with_glyphs}
use Rattle.buffer_glyphs.specs.Rewriting.{replacement, in_turn}
use Rattle.buffer_properties.specs.Characters.{is_selector, with_glyph, unjoined_selector}
use Rattle.buffer_properties.specs.Expanding.{unexpanded_item, selection, meets_selector, pending_item}
use Rattle.buffer_properties.specs.Normalizer.{Normalizer}
use Rattle.buffer_stages.specs.Appending.{AppendsArrangement, RefusesRoomFor, frame_of}
use Rattle.shape_normalize.specs.Walking.{one_or_none, waits_after, arrangements_at, PutsWaiting, Selects, SelectsTooMany}
use Rattle.shape_normalize.proofs.Lemmas.Chain.{none_behind, brought_none, brought_then, overfills_behind}

-- ---- one glyph for a character and a selector

merged_cut : (n : ℕ) (s : Sides) → cut_of (with_merged (length s.behind) (length s.behind + n) s) ≡ cut_of s
merged_cut n s = cut_with_glyphs (is_marked_at s.level (length s.behind) (length s.behind + n) (clusters (all_glyphs s))) (glyphs_merged_at s.level (length s.behind) (length s.behind + n) (all_glyphs s)) s (strip_merged_at s.level (length s.behind) (length s.behind + n) (all_glyphs s) (omega arith))

-- a copy of the first glyph is a copy of its item
copy_item : (ds : List hb_glyph_info_t) (o : Option hb_glyph_info_t) (k : ℕ) (x : Item) (xs : List Item) → strip ds ≡ x ∷ xs → strip (numbered_copies glyph_numbered (or (first_of ds) o) (k ∷ [])) ≡ item_numbered x k ∷ []
copy_item [] o k x xs e = absurd (let bad = e in cc)
copy_item (d ∷ ds) o k x xs e = let head : item_of d ≡ x = cc in ap (λ y. item_numbered y k ∷ []) head

replaced_front : (k : ℕ) (s : Sides) (x : Item) (xs : List Item) → strip s.ahead ≡ x ∷ xs → strip (with_replaced 2 (k ∷ []) s).behind ≡ strip s.behind ++ item_numbered x k ∷ []
replaced_front k s x xs e =
    let mid = with_merged (length s.behind) (length s.behind + 2) s in
    let ahead : strip mid.ahead ≡ x ∷ xs = ap (λ (c : Cut). c.rest) (merged_cut 2 s) ∙ e in
    replaced_behind 2 (k ∷ []) s ∙ map-append item_of mid.behind (numbered_copies glyph_numbered (or (first_of mid.ahead) (last_of mid.behind)) (k ∷ []))
    ∙ ap (λ ys. ys ++ strip (numbered_copies glyph_numbered (or (first_of mid.ahead) (last_of mid.behind)) (k ∷ []))) (ap (λ (c : Cut). c.front) (merged_cut 2 s))
    ∙ ap (λ ys. strip s.behind ++ ys) (copy_item mid.ahead (last_of mid.behind) k x xs ahead)

replaced_rest : (k : ℕ) (s : Sides) → strip (with_replaced 2 (k ∷ []) s).ahead ≡ drop 2 (strip s.ahead)
replaced_rest k s =
    let mid = with_merged (length s.behind) (length s.behind + 2) s in
    replaced_ahead 2 (k ∷ []) s ∙ sym (drop-map item_of 2 mid.ahead) ∙ ap (drop 2) (ap (λ (c : Cut). c.rest) (merged_cut 2 s))

replaced_frame : (k : ℕ) (s : Sides) → frame_of (with_replaced 2 (k ∷ []) s) ≡ frame_of s
replaced_frame k s = ap (λ n. record (frame_of s) { scratch_flags = n }) (stage_flags_ignore_glyph_flags (is_marked_at s.level (length s.behind) (length s.behind + 2) (clusters (all_glyphs s))) s.scratch_flags)

nothing_further : (n : ℕ) → n + 0 ≡ n
nothing_further n = omega arith

pub joined_brought : (glyph : ℕ) (g : hb_glyph_info_t) (s mid new : Sides) (x sel : Item) (xs : List Item) → slice_get s.ahead 0 ≡ Some g → strip s.ahead ≡ x ∷ sel ∷ xs
    → mid ≡ with_glyph_ahead 0 (record g { glyph_index = glyph }) s → new ≡ with_replaced 2 (g.glyph_id ∷ []) mid → origins_of new ≡ origins_by (Replace (length mid.behind) 2 1 ∷ []) mid
    → AppendsArrangement (replacement 2 (with_glyph glyph x ∷ [])) xs s new
joined_brought glyph g s mid new x sel xs at seen is replaced happened = by_case s.ahead refl
  where
    by_case : (gs : List hb_glyph_info_t) → s.ahead ≡ gs → AppendsArrangement (replacement 2 (with_glyph glyph x ∷ [])) xs s new
    by_case [] e = absurd (let bad = ap strip e in let all = seen in cc)
    by_case (h ∷ hs) e =
        let first : h ≡ g = let there = ap (λ zs. slice_get zs 0) (sym e) ∙ at in cc in
        let items : item_of h ∷ strip hs ≡ x ∷ sel ∷ xs = ap strip (sym e) ∙ seen in
        let item : item_of g ≡ x = let one : item_of h ≡ x = cc in ap item_of (sym first) ∙ one in
        let rest : strip hs ≡ sel ∷ xs = cc in
        let k : hb_glyph_info_t = record g { glyph_index = glyph } in
        let now : mid ≡ record s { ahead = k ∷ hs } = is ∙ ap (λ (zs : List hb_glyph_info_t). with_glyph_ahead 0 k (record s { ahead = zs })) e in
        let ahead : strip mid.ahead ≡ with_glyph glyph x ∷ sel ∷ xs = ap (λ (t : Sides). strip t.ahead) now ∙ ap₂ (λ y ys. with_glyph glyph y ∷ ys) item rest in
        let number : g.glyph_id ≡ x.number = ap (λ (y : Item). y.number) item in
        let from : origins_of mid ≡ origins_of s = ap origins_of now ∙ map-append origin_of s.behind (k ∷ hs) ∙ ap (λ o. origins s.behind ++ o ∷ origins hs) (ap origin_of (sym first)) ∙ sym (map-append origin_of s.behind (h ∷ hs)) ∙ ap (λ zs. origins (s.behind ++ zs)) (sym e) in
        record {
          behind = ap (λ (t : Sides). strip t.behind) replaced ∙ replaced_front g.glyph_id mid (with_glyph glyph x) (sel ∷ xs) ahead ∙ ap (λ n. strip mid.behind ++ item_numbered (with_glyph glyph x) n ∷ []) number ∙ ap (λ (t : Sides). strip t.behind ++ with_glyph glyph x ∷ []) now;
          ahead = ap (λ (t : Sides). strip t.ahead) replaced ∙ replaced_rest g.glyph_id mid ∙ ap (drop 2) ahead;
          happened =
              happened ∙ ap (λ os. origins_after (flag_requests_of mid) mid.level (Replace (length mid.behind) 2 1 ∷ []) os) from
              ∙ ap (λ (t : Sides). origins_after (flag_requests_of t) t.level (Replace (length t.behind) 2 1 ∷ []) (origins_of s)) now
              ∙ ap (λ n. origins_after (flag_requests_of s) s.level (Replace n 2 1 ∷ []) (origins_of s)) (sym (nothing_further (length s.behind)));
          frame = ap frame_of replaced ∙ replaced_frame g.glyph_id mid ∙ ap frame_of now;
        }

-- ---- a character and a selector

first_number : (g : hb_glyph_info_t) (gs : List hb_glyph_info_t) (x : Item) (xs : List Item) → slice_get gs 0 ≡ Some g → strip gs ≡ x ∷ xs → item_of g ≡ x
first_number g [] x xs at seen = absurd (let bad = seen in cc)
first_number g (h ∷ gs) x xs at seen = let first : h ≡ g = cc in let item : item_of h ≡ x = cc in ap item_of (sym first) ∙ item

second_number : (g : hb_glyph_info_t) (gs : List hb_glyph_info_t) (x y : Item) (xs : List Item) → slice_get gs 1 ≡ Some g → strip gs ≡ x ∷ y ∷ xs → item_of g ≡ y
second_number g [] x y xs at seen = absurd (let bad = seen in cc)
second_number g (h ∷ gs) x y xs at seen = let rest : strip gs ≡ y ∷ xs = cc in first_number g gs y xs at rest

variant_there : (c : Normalizer) (g h : hb_glyph_info_t) (s : Sides) (x sel : Item) (xs : List Item) (v : Option ℕ) → slice_get s.ahead 0 ≡ Some g → slice_get s.ahead 1 ≡ Some h → strip s.ahead ≡ x ∷ sel ∷ xs
    → v ≡ c.variant_of g.glyph_id h.glyph_id → v ≡ c.variant_of x.number sel.number
variant_there c g h s x sel xs v at0 at1 seen is =
    let one : g.glyph_id ≡ x.number = ap (λ (y : Item). y.number) (first_number g s.ahead x (sel ∷ xs) at0 seen) in
    let two : h.glyph_id ≡ sel.number = ap (λ (y : Item). y.number) (second_number h s.ahead x sel xs at1 seen) in
    is ∙ ap₂ (λ a b. c.variant_of a b) one two

pub pair_brought : (c : Normalizer) (g h : hb_glyph_info_t) (glyph : ℕ) (s new : Sides) → slice_get s.ahead 0 ≡ Some g → slice_get s.ahead 1 ≡ Some h → Some glyph ≡ c.variant_of g.glyph_id h.glyph_id
    → ((x sel : Item) (xs : List Item) → strip s.ahead ≡ x ∷ sel ∷ xs → AppendsArrangement (replacement 2 (with_glyph glyph x ∷ [])) xs s new)
    → (x sel : Item) (xs : List Item) → strip s.ahead ≡ x ∷ sel ∷ xs → AppendsArrangement (in_turn (selection c x sel (c.variant_of x.number sel.number))) xs s new
pair_brought c g h glyph s new at0 at1 is goes x sel xs seen =
    subst (λ (v : Option ℕ). AppendsArrangement (in_turn (selection c x sel v)) xs s new) (variant_there c g h s x sel xs (Some glyph) at0 at1 seen is)
    (subst (λ a. AppendsArrangement a xs s new) (sym (none_behind (replacement 2 (with_glyph glyph x ∷ [])))) (goes x sel xs seen))

pub pair_too_many : (c : Normalizer) (g h : hb_glyph_info_t) (glyph : ℕ) (e : ShapeCause) (s : Sides) → slice_get s.ahead 0 ≡ Some g → slice_get s.ahead 1 ≡ Some h → Some glyph ≡ c.variant_of g.glyph_id h.glyph_id → RefusesRoomFor 1 e s
    → (x sel : Item) (xs : List Item) → strip s.ahead ≡ x ∷ sel ∷ xs → RefusesRoomFor (length (in_turn (selection c x sel (c.variant_of x.number sel.number))).items) e s
pair_too_many c g h glyph e s at0 at1 is over x sel xs seen =
    subst (λ (v : Option ℕ). RefusesRoomFor (length (in_turn (selection c x sel v)).items) e s) (variant_there c g h s x sel xs (Some glyph) at0 at1 seen is) over

pub none_brought : (c : Normalizer) (g h : hb_glyph_info_t) (s new : Sides) → slice_get s.ahead 0 ≡ Some g → slice_get s.ahead 1 ≡ Some h → None ≡ c.variant_of g.glyph_id h.glyph_id
    → ((x sel : Item) (xs : List Item) → strip s.ahead ≡ x ∷ sel ∷ xs → AppendsArrangement (in_turn (selection c x sel None)) xs s new)
    → (x sel : Item) (xs : List Item) → strip s.ahead ≡ x ∷ sel ∷ xs → AppendsArrangement (in_turn (selection c x sel (c.variant_of x.number sel.number))) xs s new
none_brought c g h s new at0 at1 is goes x sel xs seen =
    subst (λ (v : Option ℕ). AppendsArrangement (in_turn (selection c x sel v)) xs s new) (variant_there c g h s x sel xs None at0 at1 seen is) (goes x sel xs seen)

pub none_too_many : (c : Normalizer) (g h : hb_glyph_info_t) (e : ShapeCause) (s : Sides) → slice_get s.ahead 0 ≡ Some g → slice_get s.ahead 1 ≡ Some h → None ≡ c.variant_of g.glyph_id h.glyph_id
    → ((x sel : Item) (xs : List Item) → strip s.ahead ≡ x ∷ sel ∷ xs → RefusesRoomFor (length (in_turn (selection c x sel None)).items) e s)
    → (x sel : Item) (xs : List Item) → strip s.ahead ≡ x ∷ sel ∷ xs → RefusesRoomFor (length (in_turn (selection c x sel (c.variant_of x.number sel.number))).items) e s
none_too_many c g h e s at0 at1 is goes x sel xs seen =
    subst (λ (v : Option ℕ). RefusesRoomFor (length (in_turn (selection c x sel v)).items) e s) (variant_there c g h s x sel xs None at0 at1 seen is) (goes x sel xs seen)

-- both stay
pub both_brought : (c : Normalizer) (b : Bool) (s mid new : Sides) → ((x : Item) (xs : List Item) → strip s.ahead ≡ x ∷ xs → AppendsArrangement (unexpanded_item c x) xs s mid)
    → ((x : Item) (xs : List Item) → strip mid.ahead ≡ x ∷ xs → AppendsArrangement (unexpanded_item c (unjoined_selector b x)) xs mid new)
    → (x sel : Item) (xs : List Item) → strip s.ahead ≡ x ∷ sel ∷ xs → AppendsArrangement (in_turn (unexpanded_item c x ∷ unexpanded_item c (unjoined_selector b sel) ∷ [])) xs s new
both_brought c b s mid new one two x sel xs seen =
    let first = one x (sel ∷ xs) seen in
    brought_then (unexpanded_item c x) (in_turn (unexpanded_item c (unjoined_selector b sel) ∷ [])) (sel ∷ xs) xs s mid new first
    (subst (λ a. AppendsArrangement a xs mid new) (sym (none_behind (unexpanded_item c (unjoined_selector b sel)))) (two sel xs first.ahead))

-- as many as the input has
pub one_left : (c : Normalizer) (s mid : Sides) → 1 < length s.ahead → ((x : Item) (xs : List Item) → strip s.ahead ≡ x ∷ xs → AppendsArrangement (unexpanded_item c x) xs s mid) → (mid.is_open ≡ s.is_open) × (0 < length mid.ahead)
one_left c s mid lt one = by_case s.ahead refl
  where
    by_case : (gs : List hb_glyph_info_t) → s.ahead ≡ gs → (mid.is_open ≡ s.is_open) × (0 < length mid.ahead)
    by_case [] e = absurd (let none = ap length e in omega (arith, none, lt))
    by_case (g ∷ []) e = absurd (let none = ap length e in omega (arith, none, lt))
    by_case (g ∷ h ∷ gs) e =
        let b = one (item_of g) (item_of h ∷ strip gs) (ap strip e) in
        (ap (λ (t : Sides). t.is_open) b.frame, some mid.ahead b.ahead)
      where
        some : (ms : List hb_glyph_info_t) → strip ms ≡ item_of h ∷ strip gs → 0 < length ms
        some [] bad = absurd (let worse = bad in cc)
        some (m ∷ ms) fine = omega arith

pub second_too_many : (c : Normalizer) (b : Bool) (e : ShapeCause) (s mid : Sides) → ((x : Item) (xs : List Item) → strip s.ahead ≡ x ∷ xs → AppendsArrangement (unexpanded_item c x) xs s mid) → RefusesRoomFor 1 e mid
    → (x sel : Item) (xs : List Item) → strip s.ahead ≡ x ∷ sel ∷ xs → RefusesRoomFor (length (in_turn (unexpanded_item c x ∷ unexpanded_item c (unjoined_selector b sel) ∷ [])).items) e s
second_too_many c b e s mid one over x sel xs seen = overfills_behind (unexpanded_item c x) (sel ∷ xs) 1 e s mid (one x (sel ∷ xs) seen) over

-- ---- the next item

selects_case : (c : Normalizer) (before : Option Item) (y : Item) (ys : List Item) (t : Bool) (old new : Sides) → is_selector y ≡ t
    → (is_some (if t then None else Some y) ≡ (if t then false else true)) × AppendsArrangement (in_turn (if t then meets_selector c before y else pending_item c before)) (one_or_none (if t then None else Some y) ++ ys) old new
    → (is_some (waits_after y) ≡ (if t then false else true)) × AppendsArrangement (in_turn (arrangements_at c before y)) (one_or_none (waits_after y) ++ ys) old new
selects_case c before y ys t old new e p = rw e p

-- none waits, and no selector is met
pub first_waits : (c : Normalizer) (g : hb_glyph_info_t) (s : Sides) → slice_get s.ahead 0 ≡ Some g → is_selector (item_of g) ≡ false → Selects c false true s s
first_waits c g s at other None y ys w seen =
    selects_case c None y ys false s s (ap is_selector (sym (first_number g s.ahead y ys at seen)) ∙ other) (refl, subst (λ zs. AppendsArrangement (in_turn []) zs s s) seen (brought_none s))
first_waits c g s at other (Some x) y ys w seen = absurd (let bad = w in cc)

-- none waits, and a selector is met
pub first_selector : (c : Normalizer) (g : hb_glyph_info_t) (s new : Sides) → slice_get s.ahead 0 ≡ Some g → is_selector (item_of g) ≡ true
    → ((x : Item) (xs : List Item) → strip s.ahead ≡ x ∷ xs → AppendsArrangement (unexpanded_item c x) xs s new) → Selects c false false s new
first_selector c g s new at picks goes None y ys w seen =
    selects_case c None y ys true s new (ap is_selector (sym (first_number g s.ahead y ys at seen)) ∙ picks) (refl, subst (λ a. AppendsArrangement a ys s new) (sym (none_behind (unexpanded_item c y))) (goes y ys seen))
first_selector c g s new at picks goes (Some x) y ys w seen = absurd (let bad = w in cc)

pub first_too_many : (c : Normalizer) (g : hb_glyph_info_t) (e : ShapeCause) (s : Sides) → slice_get s.ahead 0 ≡ Some g → is_selector (item_of g) ≡ true → RefusesRoomFor 1 e s → SelectsTooMany c false e s
first_too_many c g e s at picks over None y ys w seen =
    let there : is_selector y ≡ true = ap is_selector (sym (first_number g s.ahead y ys at seen)) ∙ picks in
    rw there over
first_too_many c g e s at picks over (Some x) y ys w seen = absurd (let bad = w in cc)

-- one waits, and no selector is met
pub behind_waits : (c : Normalizer) (g : hb_glyph_info_t) (s new : Sides) → slice_get s.ahead 1 ≡ Some g → is_selector (item_of g) ≡ false
    → ((x : Item) (xs : List Item) → strip s.ahead ≡ x ∷ xs → AppendsArrangement (unexpanded_item c x) xs s new) → Selects c true true s new
behind_waits c g s new at other goes None y ys w seen = absurd (let bad = w in cc)
behind_waits c g s new at other goes (Some x) y ys w seen =
    selects_case c (Some x) y ys false s new (ap is_selector (sym (second_number g s.ahead x y ys at seen)) ∙ other) (refl, subst (λ a. AppendsArrangement a (y ∷ ys) s new) (sym (none_behind (unexpanded_item c x))) (goes x (y ∷ ys) seen))

-- one waits, and a selector is met
pub selector_met : (c : Normalizer) (g : hb_glyph_info_t) (s new : Sides) → slice_get s.ahead 1 ≡ Some g → is_selector (item_of g) ≡ true
    → ((x sel : Item) (xs : List Item) → strip s.ahead ≡ x ∷ sel ∷ xs → AppendsArrangement (in_turn (selection c x sel (c.variant_of x.number sel.number))) xs s new) → Selects c true false s new
selector_met c g s new at picks goes None y ys w seen = absurd (let bad = w in cc)
selector_met c g s new at picks goes (Some x) y ys w seen = selects_case c (Some x) y ys true s new (ap is_selector (sym (second_number g s.ahead x y ys at seen)) ∙ picks) (refl, goes x y ys seen)

pub met_too_many : (c : Normalizer) (g : hb_glyph_info_t) (e : ShapeCause) (s : Sides) → slice_get s.ahead 1 ≡ Some g → is_selector (item_of g) ≡ true
    → ((x sel : Item) (xs : List Item) → strip s.ahead ≡ x ∷ sel ∷ xs → RefusesRoomFor (length (in_turn (selection c x sel (c.variant_of x.number sel.number))).items) e s) → SelectsTooMany c true e s
met_too_many c g e s at picks goes None y ys w seen = absurd (let bad = w in cc)
met_too_many c g e s at picks goes (Some x) y ys w seen =
    let there : is_selector y ≡ true = ap is_selector (sym (second_number g s.ahead x y ys at seen)) ∙ picks in
    rw there (goes x y ys seen)

-- ---- the last item

pub one_put : (c : Normalizer) (s new : Sides) (waits : Bool) → waits ≡ true → ((x : Item) (xs : List Item) → strip s.ahead ≡ x ∷ xs → AppendsArrangement (unexpanded_item c x) xs s new) → PutsWaiting c waits s new
one_put c s new waits on goes None ys w seen = absurd (let bad = w ∙ on in cc)
one_put c s new waits on goes (Some x) ys w seen = subst (λ a. AppendsArrangement a ys s new) (sym (none_behind (unexpanded_item c x))) (goes x ys seen)
