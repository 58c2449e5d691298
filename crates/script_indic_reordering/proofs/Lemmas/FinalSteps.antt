-- The steps of the final reordering of a syllable on a buffer.
use Rattle.std.proofs.Common.{ℕ, ◌≡◌, ◌≤◌, ◌<◌, ◌+◌, ◌-◌, Bool, true, false, if◌then◌else◌, List, [], ◌∷◌, ◌++◌, length, map, take, drop, min, Some, None, Option, refl, sym, ap, subst, ◌∙◌, arith}
use Rattle.std.specs.Prelude.{slice_range, nat_lt}
use Rattle.std.proofs.lemmas.List.{append-nil, drop_all, take-map}
use Rattle.buffer_glyphs.specs.declared.info.hb_glyph_info_t.{hb_glyph_info_t}
use Rattle.buffer_glyphs.specs.Items.{Item, item_of, strip}
use Rattle.buffer_glyphs.specs.Levels.{InList}
use Rattle.buffer_glyphs.specs.Events.{Merge}
use Rattle.buffer_core.specs.Readings.{BufferState, View, always}
use Rattle.buffer_core.specs.Merging.{index_in_all, with_merged}
use Rattle.buffer_core.specs.Sides.{Sides, all_glyphs, items_of, origins_by, origins_of, view_of}
use Rattle.buffer_stages.specs.Ready.{IsReady}
use Rattle.buffer_stages.specs.Moves.{with_move}
use Rattle.buffer_stages.specs.Stages.{IsFollowed}
use Rattle.buffer_stages.proofs.Lemmas.Counts.{rewritten_even}
use Rattle.buffer_stages.specs.Lemmas.Shifts.{shift_none}
use Rattle.buffer_stages.specs.Lemmas.Written.{happened_followed}
use Rattle.buffer_glyphs.specs.Rewriting.{Arrangement, eventless_arrangement, and_arranged}
use Rattle.buffer_stages.specs.Rewriting.{within}
use Rattle.buffer_stages.specs.Parts.{first_to_back}
use Rattle.buffer_stages.specs.SyllableBuffers.{IsRewritten, with_rule}
use Rattle.buffer_stages.proofs.Lemmas.Happened.{merge_happens}
use Rattle.buffer_stages.specs.Lemmas.Rewritings.{counted, origins_then, rewritten_next, rewritten_same}
use Rattle.buffer_stages.specs.Lemmas.Parts.{move_rewrites, range_size, rewritten_part}
use Rattle.script_indic_reordering.specs.Glyphs.{is_left}
use Rattle.script_indic_reordering.specs.Indices.{begins_with, first_at}
use Rattle.script_indic_reordering.specs.Final.{RephMoved, after_halant, base_passed, begins_with_reph, final_reordered, formed_base, last_halant, left_before, lefts_last, lefts_merged, lefts_moved, lefts_moved_by, lefts_moved_from, merged_to_base, passed_by_reph, pref_form, pref_moved, pref_moved_from, pref_target, reph_moved, then_pref}
use Rattle.script_indic_reordering.specs.Lemmas.Indices.{first_within}
use Rattle.script_indic_reordering.specs.Lemmas.FinalSize.{after_within, form_within, last_halant_within, lefts_moved_by_size, lefts_moved_size, passed_within, reph_moved_size, reph_some, take_short, take_within, target_within}
use Rattle.script_indic_reordering.proofs.Lemmas.Steps.{seen_in, size_in}
use Rattle.buffer_glyphs.specs.Lemmas.Glyphs.{cut_out as whole_cut}

-- ---- left matras

pub halant_none : (start end base : ℕ) (gs : List hb_glyph_info_t) (a : Sides) → gs ≡ all_glyphs a → IsReady a → start + base ≤ end → last_halant base (strip (slice_range gs start end)) ≡ None
    → IsRewritten (lefts_moved_by base (slice_range (items_of a) start end) (last_halant base (slice_range (items_of a) start end))) start end a a
halant_none start end base gs a e ready le none =
    let xs = slice_range (items_of a) start end in
    let is : last_halant base xs ≡ None = ap (last_halant base) (sym (seen_in start end gs a e)) ∙ none in
    subst (λ o. IsRewritten (lefts_moved_by base xs o) start end a a) (sym is) (rewritten_same start end a (omega (arith, le)) ready)

left_seen : (start end h : ℕ) (o : Option ℕ) (gs : List hb_glyph_info_t) (a : Sides) → gs ≡ all_glyphs a → first_at (begins_with is_left) 0 (strip (take h (slice_range gs start end))) ≡ o → left_before h (slice_range (items_of a) start end) ≡ o
left_seen start end h o gs a e f = ap (λ xs. first_at (begins_with is_left) 0 (take h xs)) (sym (seen_in start end gs a e)) ∙ ap (first_at (begins_with is_left) 0) (take-map item_of h (slice_range gs start end)) ∙ f

pub no_left : (start end base h : ℕ) (gs : List hb_glyph_info_t) (a : Sides) → gs ≡ all_glyphs a → IsReady a → start + base ≤ end → last_halant base (strip (slice_range gs start end)) ≡ Some h
    → first_at (begins_with is_left) 0 (strip (take h (slice_range gs start end))) ≡ None
    → IsRewritten (lefts_moved_by base (slice_range (items_of a) start end) (last_halant base (slice_range (items_of a) start end))) start end a a
no_left start end base h gs a e ready le some none =
    let xs = slice_range (items_of a) start end in
    let is : last_halant base xs ≡ Some h = ap (last_halant base) (sym (seen_in start end gs a e)) ∙ some in
    let left : left_before h xs ≡ None = left_seen start end h None gs a e none in
    subst (λ o. IsRewritten (lefts_moved_by base xs o) start end a a) (sym is) (subst (λ o. IsRewritten (lefts_moved_from base h xs o) start end a a) (sym left) (rewritten_same start end a (omega (arith, le)) ready))

pub lefts_move : (start end base h f to : ℕ) (gs : List hb_glyph_info_t) (a b : Sides) → gs ≡ all_glyphs a → start + base ≤ end → end ≤ length (all_glyphs a) → last_halant base (strip (slice_range gs start end)) ≡ Some h
    → first_at (begins_with is_left) 0 (strip (take h (slice_range gs start end))) ≡ Some f → to ≡ after_halant base (strip (slice_range gs start end)) h
    → IsRewritten (lefts_last (h - f) (slice_range (items_of a) (start + f) (start + to))) (start + f) (start + to) a b
    → IsRewritten (lefts_moved_by base (slice_range (items_of a) start end) (last_halant base (slice_range (items_of a) start end))) start end a b
lefts_move start end base h f to gs a b e le fits some first at g =
    let xs = slice_range (items_of a) start end in
    let seen = seen_in start end gs a e in
    let is : last_halant base xs ≡ Some h = ap (last_halant base) (sym seen) ∙ some in
    let left : left_before h xs ≡ Some f = left_seen start end h (Some f) gs a e first in
    let to_is : to ≡ after_halant base xs h = at ∙ ap (λ ys. after_halant base ys h) seen in
    let lt = last_halant_within base h xs is in
    let w = first_within (begins_with is_left) 0 f (take h xs) left in
    let short = take_short h xs in
    let most = after_within base h xs lt in
    let few = take_short base xs in
    let inside : end ≤ length (items_of a) = omega (arith, counted a, fits) in
    let high : f ≤ to = omega (arith, to_is, w.1, short) in
    let last : start + to ≤ end = omega (arith, to_is, most, few, le) in
    let part : IsRewritten (within f to (lefts_last (h - f)) xs) start end a b = rewritten_part (lefts_last (h - f)) start end f to (start + f) (start + to) a b refl refl high last inside g in
    subst (λ o. IsRewritten (lefts_moved_by base xs o) start end a b) (sym is) (subst (λ o. IsRewritten (lefts_moved_from base h xs o) start end a b) (sym left) (subst (λ n. IsRewritten (within f n (lefts_last (h - f)) xs) start end a b) to_is part))

pub none_merged : (start end base : ℕ) (gs : List hb_glyph_info_t) (a : Sides) → gs ≡ all_glyphs a → IsReady a → start + base ≤ end → first_at (begins_with is_left) 0 (strip (take base (slice_range gs start end))) ≡ None
    → IsRewritten (lefts_merged base (slice_range (items_of a) start end)) start end a a
none_merged start end base gs a e ready le none =
    let xs = slice_range (items_of a) start end in
    subst (λ o. IsRewritten (merged_to_base base xs o) start end a a) (sym (left_seen start end base None gs a e none)) (rewritten_same start end a (omega (arith, le)) ready)

pub some_merged : (start end base f last : ℕ) (gs : List hb_glyph_info_t) (a b : Sides) → gs ≡ all_glyphs a → last ≡ min (end - start) (base + 1) → IsReady a → start + base ≤ end → end ≤ length (all_glyphs a) → first_at (begins_with is_left) 0 (strip (take base (slice_range gs start end))) ≡ Some f
    → b ≡ with_merged (index_in_all (start + f) a) (index_in_all (start + last) a) a → items_of b ≡ items_of a → origins_of b ≡ origins_by (Merge InList (index_in_all (start + f) a) (index_in_all (start + last) a) ∷ []) a
    → IsRewritten (lefts_merged base (slice_range (items_of a) start end)) start end a b
some_merged start end base f last gs a b e least ready le fits some merged items origins =
    let xs = slice_range (items_of a) start end in
    let low : start ≤ end = omega (arith, le) in
    let h = merge_happens (start + f) (start + last) a b merged items origins ready in
    let size : length xs ≡ end - start = range_size start end (items_of a) low (omega (arith, counted a, fits)) in
    let r : IsRewritten (merged_to_base base xs (Some f)) start end a b = record {
      view = h.view ∙ ap (λ ys. record (view_of a) { items = ys }) (sym (whole_cut start end (items_of a) low));
      origins = h.origins ∙ ap (λ n. origins_by (Merge InList (start + f) (start + n) ∷ []) a) least ∙ ap (λ n. origins_by (Merge InList (start + f) (start + min n (base + 1)) ∷ []) a) (sym size);
      settings = h.settings;
      ready = h.ready;
    } in
    subst (λ o. IsRewritten (merged_to_base base xs o) start end a b) (sym (left_seen start end base (Some f) gs a e some)) r

pub lefts_both : (start end base : ℕ) (a b c : Sides) → start + base ≤ end → end ≤ length (all_glyphs a) → IsRewritten (lefts_moved_by base (slice_range (items_of a) start end) (last_halant base (slice_range (items_of a) start end))) start end a b
    → IsRewritten (lefts_merged base (slice_range (items_of b) start end)) start end b c → IsRewritten (lefts_moved base (slice_range (items_of a) start end)) start end a c
lefts_both start end base a b c le fits f g =
    let xs = slice_range (items_of a) start end in
    let inside : end ≤ length (items_of a) = omega (arith, counted a, fits) in
    let low : start ≤ end = omega (arith, le) in
    rewritten_next (lefts_moved_by base xs (last_halant base xs)) (lefts_merged base) start end a b c low inside (lefts_moved_by_size base xs ∙ range_size start end (items_of a) low inside) f g

-- ---- the form of the feature pref

pub form_none : (bits start end base : ℕ) (gs : List hb_glyph_info_t) (a : Sides) → gs ≡ all_glyphs a → IsReady a → start + base ≤ end → pref_form bits base (strip (slice_range gs start end)) ≡ None
    → IsRewritten (pref_moved bits base (slice_range (items_of a) start end)) start end a a
form_none bits start end base gs a e ready le none =
    let xs = slice_range (items_of a) start end in
    subst (λ o. IsRewritten (pref_moved_from base xs o) start end a a) (sym (ap (pref_form bits base) (sym (seen_in start end gs a e)) ∙ none)) (rewritten_same start end a (omega (arith, le)) ready)

pub form_moves : (bits start end base i to : ℕ) (gs : List hb_glyph_info_t) (a b : Sides) → gs ≡ all_glyphs a → start + base ≤ end → end ≤ length (all_glyphs a) → pref_form bits base (strip (slice_range gs start end)) ≡ Some i
    → to ≡ pref_target base (strip (slice_range gs start end)) (last_halant base (strip (slice_range gs start end)))
    → IsFollowed (always (with_move (start + to) (start + i - (start + to)) (start + (i + 1) - (start + i)))) a b
    → IsRewritten (pref_moved bits base (slice_range (items_of a) start end)) start end a b
form_moves bits start end base i to gs a b e le fits some at g =
    let xs = slice_range (items_of a) start end in
    let seen = seen_in start end gs a e in
    let is : pref_form bits base xs ≡ Some i = ap (pref_form bits base) (sym seen) ∙ some in
    let to_is : to ≡ pref_target base xs (last_halant base xs) = at ∙ ap (λ ys. pref_target base ys (last_halant base ys)) seen in
    let w = form_within bits base i xs is in
    let t = target_within base xs (last_halant base xs) refl in
    let inside : end ≤ length (items_of a) = omega (arith, counted a, fits) in
    let size = range_size start end (items_of a) (omega (arith, le)) inside in
    let turned : IsRewritten (first_to_back (i - to) (slice_range (items_of a) (start + to) (start + (i + 1)))) (start + to) (start + (i + 1)) a b =
    move_rewrites (start + to) (start + (i + 1)) (i - to) (start + i) a b (omega (arith, w.0, t, to_is)) (omega (arith, w.0, t, to_is)) (omega (arith, w.1, size, inside, le)) g in
    let part : IsRewritten (within to (i + 1) (first_to_back (i - to)) xs) start end a b =
    rewritten_part (first_to_back (i - to)) start end to (i + 1) (start + to) (start + (i + 1)) a b refl refl (omega (arith, w.0, t, to_is)) (omega (arith, w.1, size, le)) inside turned in
    subst (λ o. IsRewritten (pref_moved_from base xs o) start end a b) (sym is) (subst (λ n. IsRewritten (within n (i + 1) (first_to_back (i - n)) xs) start end a b) to_is part)

-- ---- the reph

abbrev reph_moved_if : ℕ → ℕ → List Item → Bool → RephMoved
reph_moved_if reph_pos base xs t = if t then record { rewritten = within 0 (passed_by_reph reph_pos base xs) (first_to_back 1) xs; base = base_passed (passed_by_reph reph_pos base xs) base } else record { rewritten = eventless_arrangement xs; base = base }

reph_seen : (start end : ℕ) (t : Bool) (gs : List hb_glyph_info_t) (a : Sides) → gs ≡ all_glyphs a → begins_with_reph (strip (slice_range gs start end)) ≡ t → begins_with_reph (slice_range (items_of a) start end) ≡ t
reph_seen start end t gs a e f = ap begins_with_reph (sym (seen_in start end gs a e)) ∙ f

pub reph_none : (reph_pos start end base : ℕ) (gs : List hb_glyph_info_t) (a : Sides) → gs ≡ all_glyphs a → IsReady a → start + base ≤ end → begins_with_reph (strip (slice_range gs start end)) ≡ false
    → IsRewritten (reph_moved reph_pos base (slice_range (items_of a) start end)).rewritten start end a a
reph_none reph_pos start end base gs a e ready le none =
    let xs = slice_range (items_of a) start end in
    subst (λ (m : RephMoved). IsRewritten m.rewritten start end a a) (sym (ap (reph_moved_if reph_pos base xs) (reph_seen start end false gs a e none))) (rewritten_same start end a (omega (arith, le)) ready)

pub reph_none_base : (reph_pos start end base : ℕ) (gs : List hb_glyph_info_t) (a : Sides) → gs ≡ all_glyphs a → begins_with_reph (strip (slice_range gs start end)) ≡ false → base ≡ (reph_moved reph_pos base (slice_range (items_of a) start end)).base
reph_none_base reph_pos start end base gs a e none = let xs = slice_range (items_of a) start end in sym (ap (λ (m : RephMoved). m.base) (ap (reph_moved_if reph_pos base xs) (reph_seen start end false gs a e none)))

passed_seen : (reph_pos start end base n : ℕ) (gs : List hb_glyph_info_t) (a : Sides) → gs ≡ all_glyphs a → n ≡ passed_by_reph reph_pos base (strip (slice_range gs start end)) → n ≡ passed_by_reph reph_pos base (slice_range (items_of a) start end)
passed_seen reph_pos start end base n gs a e f = f ∙ ap (passed_by_reph reph_pos base) (seen_in start end gs a e)

pub reph_moves : (reph_pos start end base n : ℕ) (gs : List hb_glyph_info_t) (a b : Sides) → gs ≡ all_glyphs a → start + base ≤ end → end ≤ length (all_glyphs a) → begins_with_reph (strip (slice_range gs start end)) ≡ true
    → n ≡ passed_by_reph reph_pos base (strip (slice_range gs start end)) → 0 < n → IsFollowed (always (with_move start (start + 1 - start) (start + n - (start + 1)))) a b
    → IsRewritten (reph_moved reph_pos base (slice_range (items_of a) start end)).rewritten start end a b
reph_moves reph_pos start end base n gs a b e le fits some at first g =
    let xs = slice_range (items_of a) start end in
    let is = reph_seen start end true gs a e some in
    let n_is = passed_seen reph_pos start end base n gs a e at in
    let inside : end ≤ length (items_of a) = omega (arith, counted a, fits) in
    let size = range_size start end (items_of a) (omega (arith, le)) inside in
    let few = passed_within reph_pos base xs (reph_some xs is) in
    let turned : IsRewritten (first_to_back 1 (slice_range (items_of a) start (start + n))) start (start + n) a b =
    move_rewrites start (start + n) 1 (start + 1) a b refl (omega (arith, first)) (omega (arith, few, n_is, size, inside, le)) g in
    let part : IsRewritten (within 0 n (first_to_back 1) xs) start end a b =
    rewritten_part (first_to_back 1) start end 0 n start (start + n) a b (omega arith) refl (omega arith) (omega (arith, few, n_is, size, le)) inside turned in
    subst (λ (m : RephMoved). IsRewritten m.rewritten start end a b) (sym (ap (reph_moved_if reph_pos base xs) is)) (subst (λ k. IsRewritten (within 0 k (first_to_back 1) xs) start end a b) n_is part)

pub reph_moves_base : (reph_pos start end base n k : ℕ) (gs : List hb_glyph_info_t) (a : Sides) → gs ≡ all_glyphs a → begins_with_reph (strip (slice_range gs start end)) ≡ true → n ≡ passed_by_reph reph_pos base (strip (slice_range gs start end)) → k ≡ base_passed n base
    → k ≡ (reph_moved reph_pos base (slice_range (items_of a) start end)).base
reph_moves_base reph_pos start end base n k gs a e some at f =
    let xs = slice_range (items_of a) start end in
    f ∙ ap (λ m. base_passed m base) (passed_seen reph_pos start end base n gs a e at) ∙ sym (ap (λ (m : RephMoved). m.base) (ap (reph_moved_if reph_pos base xs) (reph_seen start end true gs a e some)))

-- ---- a syllable

pub lefts_even : (start end base : ℕ) (a b : Sides) → start ≤ end → end ≤ length (all_glyphs a) → IsRewritten (lefts_moved base (slice_range (items_of a) start end)) start end a b → length (all_glyphs b) ≡ length (all_glyphs a)
lefts_even start end base a b le fits h = rewritten_even (lefts_moved base (slice_range (items_of a) start end)) start end a b le fits (lefts_moved_size base (slice_range (items_of a) start end)) h

pub reph_even : (reph_pos start end base : ℕ) (a b : Sides) → start ≤ end → end ≤ length (all_glyphs a) → IsRewritten (reph_moved reph_pos base (slice_range (items_of a) start end)).rewritten start end a b → length (all_glyphs b) ≡ length (all_glyphs a)
reph_even reph_pos start end base a b le fits h = rewritten_even (reph_moved reph_pos base (slice_range (items_of a) start end)).rewritten start end a b le fits (reph_moved_size reph_pos base (slice_range (items_of a) start end)) h

pub base_within : (start end n : ℕ) (gs : List hb_glyph_info_t) (a : Sides) → gs ≡ all_glyphs a → start ≤ end → end ≤ length (all_glyphs a) → n ≤ length (slice_range gs start end) → start + n ≤ end
base_within start end n gs a e le fits few = let size = size_in start end gs a e le fits in omega (arith, size, few, le)

pub final_does : (reph_pos pref start end base next : ℕ) (gs : List hb_glyph_info_t) (a b c d : Sides) → gs ≡ all_glyphs a → start ≤ end → end ≤ length (all_glyphs a) → base ≡ formed_base (strip (slice_range gs start end))
    → IsRewritten (lefts_moved base (slice_range (items_of a) start end)) start end a b → IsRewritten (reph_moved reph_pos base (slice_range (items_of b) start end)).rewritten start end b c
    → next ≡ (reph_moved reph_pos base (slice_range (items_of b) start end)).base → IsRewritten (pref_moved pref next (slice_range (items_of c) start end)) start end c d
    → IsRewritten (final_reordered reph_pos pref (slice_range (items_of a) start end)) start end a d
final_does reph_pos pref start end base next gs a b c d e le fits at f g n h =
    let xs = slice_range (items_of a) start end in
    let base_is : base ≡ formed_base xs = at ∙ ap formed_base (seen_in start end gs a e) in
    let even = lefts_even start end base a b le fits f in
    let inside : end ≤ length (items_of a) = omega (arith, counted a, fits) in
    let inside_b : end ≤ length (items_of b) = omega (arith, counted b, fits, even) in
    let ys = slice_range (items_of b) start end in
    let r = reph_moved reph_pos base ys in
    let inner : IsRewritten (then_pref pref r) start end b d =
    rewritten_next r.rewritten (pref_moved pref r.base) start end b c d le inside_b (reph_moved_size reph_pos base ys ∙ range_size start end (items_of b) le inside_b) g (subst (λ k. IsRewritten (pref_moved pref k (slice_range (items_of c) start end)) start end c d) n h) in
    let all : IsRewritten (and_arranged (lefts_moved base xs) (λ zs. then_pref pref (reph_moved reph_pos base zs))) start end a d =
    rewritten_next (lefts_moved base xs) (λ zs. then_pref pref (reph_moved reph_pos base zs)) start end a b d le inside (lefts_moved_size base xs ∙ range_size start end (items_of a) le inside) f inner in
    subst (λ k. IsRewritten (and_arranged (lefts_moved k xs) (λ zs. then_pref pref (reph_moved reph_pos k zs))) start end a d) base_is all

-- ---- words

-- a stage of rules, and then one for the whole list
pub followed_next : (rule next : List Item → Arrangement) (a b c : Sides) → IsFollowed (always (with_rule rule)) a b → IsRewritten (next (items_of b)) 0 (length (all_glyphs b)) b c → IsFollowed (always (with_rule (λ xs. and_arranged (rule xs) next))) a c
followed_next rule next a b c f g =
    let items : items_of b ≡ (rule (items_of a)).items = ap (λ (r : BufferState). r.view.items) f.follows in
    let many : length (items_of b) ≡ length (all_glyphs b) = counted b in
    let whole : take 0 (items_of b) ++ (next (items_of b)).items ++ drop (length (all_glyphs b)) (items_of b) ≡ (next (items_of b)).items = ap (λ ys. (next (items_of b)).items ++ ys) (drop_all (length (all_glyphs b)) (items_of b) (omega (arith, many))) ∙ append-nil (next (items_of b)).items in
    let both : List Item → Arrangement = λ xs. and_arranged (rule xs) next in
    happened_followed (both (items_of a)).events (record (view_of a) { items = (both (items_of a)).items }) (always (with_rule both)) a c
    (g.view ∙ ap (λ ys. record (view_of b) { items = ys }) whole ∙ ap (λ (v : View). record v { items = (next (items_of b)).items }) (ap (λ (r : BufferState). r.view) f.follows) ∙ ap (λ ys. record (view_of a) { items = (next ys).items }) items)
    (origins_then (rule (items_of a)).events (next (rule (items_of a)).items).events a b c f.settings (ap (λ (r : BufferState). r.origins) f.follows) (g.origins ∙ ap (λ es. origins_by es b) (shift_none (next (items_of b)).events) ∙ ap (λ ys. origins_by (next ys).events b) items))
    (g.settings ∙ f.settings) g.ready refl
