-- The walks over the glyphs of a syllable, step by step.
use Rattle.std.proofs.Common.{ℕ, zero, suc, ◌≡◌, ◌≢◌, ◌≤◌, ◌<◌, ◌+◌, ◌-◌, ◌&&◌, ◌||◌, Bool, true, false, if◌then◌else◌, List, [], ◌∷◌, ◌++◌, length, map, take, drop, get_or, set, Option, Some, None, inl, inr, refl, sym, ap, subst, ◌∙◌, arith}
use Rattle.std.specs.Prelude.{slice_range, IfSome}
use Rattle.std.specs.List.{list_any}
use Rattle.std.specs.Option.{option_or}
use Rattle.std.proofs.lemmas.Bool.{cases_lt}
use Rattle.std.proofs.lemmas.List.{append-nil, drop_all, length-map, take_all, drop-map, take-map, map-append}
use Rattle.script_categories.specs.declared.ot_position_t.TheConstants as position
use Rattle.buffer_glyphs.specs.declared.info.hb_glyph_info_t.{hb_glyph_info_t}
use Rattle.buffer_glyphs.specs.Items.{Item, item_of, strip}
use Rattle.buffer_glyphs.specs.Origins.{origin_of, origins}
use Rattle.buffer_stages.specs.Ordering.{AreMade}
use Rattle.buffer_stages.specs.Parts.{glyph_masked, item_with_features}
use Rattle.buffer_stages.proofs.Lemmas.Made.{AreWritten, AreWrittenBack, all_written, all_written_back, next_written, next_written_back, none_written, none_written_back, made_many}
use Rattle.buffer_stages.specs.Lemmas.Parts.{item_masked_is, origin_masked_is, range_size, items_masked as items_of_masked, origins_masked as origins_of_masked, part_seen}
use Rattle.script_indic_reordering.specs.declared.script.IndicMasks.{IndicMasks}
use Rattle.script_indic_reordering.specs.Base.{Forms, RephAndBase, base_from, ends_search, is_below_consonant, may_be_base, qualifies}
use Rattle.script_indic_reordering.specs.Glyphs.{is_consonant, is_halant, is_zwj, with_position}
use Rattle.script_indic_reordering.specs.Indices.{begins_with, first_at, last_at}
use Rattle.script_indic_reordering.specs.Initial.{all_led, all_placed, signs_attached, attached_position, base_in, base_placed, before_base, cleared_before_zwnj, without_bits_if, before_zwnj, continues, form_pref, forms_pref, all_led_after, led_item, masked_by_position, masks_set, led_position, led_position_with, pref_masked, pref_pair, reph_in, reph_placed}
use Rattle.script_indic_reordering.specs.Masks.{after_masked, own_bits, pair_masked, part_masked}
use Rattle.script_indic_reordering.specs.Lemmas.Indices.{first_hit, first_none, first_past, first_skip, last_found, last_next, last_past}
use Rattle.script_indic_reordering.proofs.Lemmas.Positions.{begins_at, items_from, past_end}
use Rattle.buffer_glyphs.specs.Lemmas.Origins.{slice_seen as range_seen}
use Rattle.buffer_glyphs.specs.Lemmas.Glyphs.{cut_out as whole_cut}

-- ---- two glyphs at an index

two_from : (gs : List hb_glyph_info_t) (i : ℕ) (d e : hb_glyph_info_t) → i + 1 < length gs → drop i (strip gs) ≡ item_of (get_or gs i d) ∷ item_of (get_or gs (i + 1) e) ∷ drop (i + 1 + 1) (strip gs)
two_from gs i d e lt = items_from gs i d (omega (arith, lt)) ∙ ap (λ xs. item_of (get_or gs i d) ∷ xs) (items_from gs (i + 1) e lt)

one_from : (gs : List hb_glyph_info_t) (i : ℕ) → i + 1 ≡ length gs → (d : hb_glyph_info_t) → drop i (strip gs) ≡ item_of (get_or gs i d) ∷ []
one_from gs i last d = items_from gs i d (omega (arith, last)) ∙ ap (λ xs. item_of (get_or gs i d) ∷ xs) (past_end gs (i + 1) (omega (arith, last)))

a_glyph : hb_glyph_info_t
a_glyph = record { glyph_id = 0; mask = 0; cluster = 0; glyph_index = 0; unicode_props = record { 0 = 0 }; modified_combining_class = 0; glyph_props = record { 0 = 0 }; lig_props = 0; syllable = 0; category = 0; auxiliary = 0 }

pub last_joins_none : (gs : List hb_glyph_info_t) (i : ℕ) → i + 1 ≡ length gs → false ≡ ends_search (drop i (strip gs))
last_joins_none gs i last = sym (ap ends_search (one_from gs i last a_glyph))

pub two_join : (gs : List hb_glyph_info_t) (i : ℕ) (d e : hb_glyph_info_t) (b : Bool) → i + 1 < length gs → b ≡ (is_halant (item_of (get_or gs i d)) && is_zwj (item_of (get_or gs (i + 1) e))) → b ≡ ends_search (drop i (strip gs))
two_join gs i d e b lt is = is ∙ sym (ap ends_search (two_from gs i d e lt))

pub last_forms_none : (forms : Forms) (gs : List hb_glyph_info_t) (i : ℕ) → i + 1 ≡ length gs → false ≡ forms_pref forms (drop i (strip gs))
last_forms_none forms gs i last = sym (ap (forms_pref forms) (one_from gs i last a_glyph))

pub two_form : (forms : Forms) (gs : List hb_glyph_info_t) (i : ℕ) (d e : hb_glyph_info_t) (b : Bool) → i + 1 < length gs → b ≡ form_pref forms (item_of (get_or gs i d)) (item_of (get_or gs (i + 1) e)) → b ≡ forms_pref forms (drop i (strip gs))
two_form forms gs i d e b lt is = is ∙ sym (ap (forms_pref forms) (two_from gs i d e lt))

-- ---- where the search for the base ends

many : (gs : List hb_glyph_info_t) → length (strip gs) ≡ length gs
many gs = length-map gs item_of

-- from an index on no ZWJ follows a halant
pub record IsUnjoined (i : ℕ) (gs : List hb_glyph_info_t) : Type 0 where
  pub none : last_at ends_search i (drop i (strip gs)) ≡ None
  pub inside : i ≤ length gs

pub joined_begun : (gs : List hb_glyph_info_t) → IsUnjoined (length gs) gs
joined_begun gs = record { none = last_past ends_search (length gs) (strip gs) (let m = many gs in omega (arith, m)); inside = omega arith }

pub joined_next : (gs : List hb_glyph_info_t) (i : ℕ) → 0 < i → false ≡ ends_search (drop (i - 1) (strip gs)) → IsUnjoined i gs → IsUnjoined (i - 1) gs
joined_next gs i some e h =
    let m = many gs in
    let le = h.inside in
    let at : i ≡ (i - 1) + 1 = omega (arith, some) in
    record {
      none = last_next ends_search (i - 1) (strip gs) (omega (arith, m, le, some)) (sym e) (subst (λ n. last_at ends_search n (drop n (strip gs)) ≡ None) at h.none);
      inside = omega (arith, le);
    }

pub joined_found : (gs : List hb_glyph_info_t) (from i : ℕ) → from < i → true ≡ ends_search (drop (i - 1) (strip gs)) → IsUnjoined i gs → Some (i - 1) ≡ last_at ends_search from (drop from (strip gs))
joined_found gs from i lt e h =
    let m = many gs in
    let le = h.inside in
    let at : i ≡ (i - 1) + 1 = omega (arith, lt) in
    sym (last_found ends_search from (i - 1) (strip gs) (omega (arith, lt)) (omega (arith, m, le, lt)) (sym e) (subst (λ n. last_at ends_search n (drop n (strip gs)) ≡ None) at h.none))

pub joined_none : (gs : List hb_glyph_info_t) (from i : ℕ) → i ≤ from → from ≤ i → IsUnjoined i gs → None ≡ last_at ends_search from (drop from (strip gs))
joined_none gs from i le ge h = let same : i ≡ from = omega (arith, le, ge) in sym (subst (λ n. last_at ends_search n (drop n (strip gs)) ≡ None) same h.none)

-- ---- the base

-- from an index on no consonant may be the base; the first consonant there, and whether one has a form below
pub record IsSeeking (i : ℕ) (first : Option ℕ) (below : Bool) (gs : List hb_glyph_info_t) : Type 0 where
  pub none : last_at qualifies i (drop i (strip gs)) ≡ None
  pub is_first : first ≡ first_at (begins_with is_consonant) i (drop i (strip gs))
  pub is_below : below ≡ list_any is_below_consonant (drop i (strip gs))
  pub inside : i ≤ length gs
  pub within : IfSome first (λ k. k < length gs)

pub seeking_begun : (gs : List hb_glyph_info_t) → IsSeeking (length gs) None false gs
seeking_begun gs =
    let m = many gs in
    record {
      none = last_past qualifies (length gs) (strip gs) (omega (arith, m));
      is_first = sym (first_past (begins_with is_consonant) (length gs) (strip gs) (omega (arith, m)));
      is_below = sym (ap (list_any is_below_consonant) (past_end gs (length gs) (omega arith)));
      inside = omega arith;
      within = tt;
    }

qualifies_at : (gs : List hb_glyph_info_t) (i : ℕ) (d : hb_glyph_info_t) (below : Bool) → i < length gs → below ≡ list_any is_below_consonant (drop (i + 1) (strip gs)) → qualifies (drop i (strip gs)) ≡ may_be_base (item_of (get_or gs i d)) below
qualifies_at gs i d below lt e = ap qualifies (items_from gs i d lt) ∙ ap (may_be_base (item_of (get_or gs i d))) (sym e)

pub seeking_found : (gs : List hb_glyph_info_t) (from i : ℕ) (first : Option ℕ) (below : Bool) (d : hb_glyph_info_t) → from < i → may_be_base (item_of (get_or gs (i - 1) d)) below ≡ true → IsSeeking i first below gs
    → Some (i - 1) ≡ base_from from (drop from (strip gs))
seeking_found gs from i first below d lt e h =
    let m = many gs in
    let le = h.inside in
    let at : i ≡ (i - 1) + 1 = omega (arith, lt) in
    let below_is : below ≡ list_any is_below_consonant (drop ((i - 1) + 1) (strip gs)) = subst (λ n. below ≡ list_any is_below_consonant (drop n (strip gs))) at h.is_below in
    let here : qualifies (drop (i - 1) (strip gs)) ≡ true = qualifies_at gs (i - 1) d below (omega (arith, le, lt)) below_is ∙ e in
    let last = last_found qualifies from (i - 1) (strip gs) (omega (arith, lt)) (omega (arith, m, le, lt)) here (subst (λ n. last_at qualifies n (drop n (strip gs)) ≡ None) at h.none) in
    sym (ap (λ o. option_or o (first_at (begins_with is_consonant) from (drop from (strip gs)))) last)

first_from : (gs : List hb_glyph_info_t) (i : ℕ) (first : Option ℕ) (x : Item) (t : Bool) → drop i (strip gs) ≡ x ∷ drop (i + 1) (strip gs) → is_consonant x ≡ t → first ≡ first_at (begins_with is_consonant) (i + 1) (drop (i + 1) (strip gs))
    → (if t then Some i else first) ≡ first_at (begins_with is_consonant) i (drop i (strip gs))
first_from gs i first x true cut e f = sym (ap (first_at (begins_with is_consonant) i) cut ∙ ap (λ t. if t then Some i else first_at (begins_with is_consonant) (i + 1) (drop (i + 1) (strip gs))) e)
first_from gs i first x false cut e f = f ∙ sym (ap (first_at (begins_with is_consonant) i) cut ∙ ap (λ t. if t then Some i else first_at (begins_with is_consonant) (i + 1) (drop (i + 1) (strip gs))) e)

stays_within : (n i : ℕ) (t : Bool) (first : Option ℕ) → i < n → IfSome first (λ k. k < n) → IfSome (if t then Some i else first) (λ k. k < n)
stays_within n i true first lt h = lt
stays_within n i false first lt h = h

pub seeking_next : (gs : List hb_glyph_info_t) (i : ℕ) (first next : Option ℕ) (below more : Bool) (d : hb_glyph_info_t) → 0 < i → may_be_base (item_of (get_or gs (i - 1) d)) below ≡ false
    → next ≡ (if is_consonant (item_of (get_or gs (i - 1) d)) then Some (i - 1) else first) → more ≡ (is_below_consonant (item_of (get_or gs (i - 1) d)) || below) → IsSeeking i first below gs → IsSeeking (i - 1) next more gs
seeking_next gs i first next below more d some e f g h =
    let m = many gs in
    let le = h.inside in
    let at : i ≡ (i - 1) + 1 = omega (arith, some) in
    let lt : i - 1 < length gs = omega (arith, le, some) in
    let cut = items_from gs (i - 1) d lt in
    let x = item_of (get_or gs (i - 1) d) in
    let below_is : below ≡ list_any is_below_consonant (drop ((i - 1) + 1) (strip gs)) = subst (λ n. below ≡ list_any is_below_consonant (drop n (strip gs))) at h.is_below in
    let first_is : first ≡ first_at (begins_with is_consonant) ((i - 1) + 1) (drop ((i - 1) + 1) (strip gs)) = subst (λ n. first ≡ first_at (begins_with is_consonant) n (drop n (strip gs))) at h.is_first in
    record {
      none = last_next qualifies (i - 1) (strip gs) (omega (arith, m, le, some)) (qualifies_at gs (i - 1) d below lt below_is ∙ e) (subst (λ n. last_at qualifies n (drop n (strip gs)) ≡ None) at h.none);
      is_first = f ∙ first_from gs (i - 1) first x (is_consonant x) cut refl first_is;
      is_below = g ∙ ap (λ b. is_below_consonant x || b) below_is ∙ sym (ap (list_any is_below_consonant) cut);
      inside = omega (arith, le);
      within = subst (λ o. IfSome o (λ k. k < length gs)) (sym f) (stays_within (length gs) (i - 1) (is_consonant x) first lt h.within);
    }

pub seeking_done : (gs : List hb_glyph_info_t) (from i : ℕ) (first : Option ℕ) (below : Bool) → i ≤ from → from ≤ i → IsSeeking i first below gs → first ≡ base_from from (drop from (strip gs))
seeking_done gs from i first below le ge h =
    let same : i ≡ from = omega (arith, le, ge) in
    let none : last_at qualifies from (drop from (strip gs)) ≡ None = subst (λ n. last_at qualifies n (drop n (strip gs)) ≡ None) same h.none in
    subst (λ n. first ≡ first_at (begins_with is_consonant) n (drop n (strip gs))) same h.is_first ∙ sym (ap (λ o. option_or o (first_at (begins_with is_consonant) from (drop from (strip gs)))) none)

pub seeking_within : (gs : List hb_glyph_info_t) (i : ℕ) (first : Option ℕ) (below : Bool) → IsSeeking i first below gs → IfSome first (λ k. k < length gs)
seeking_within gs i first below h = h.within

-- ---- positions

pub record IsBasing (base i : ℕ) (old now : List hb_glyph_info_t) : Type 0 where
  pub written : AreWritten (base_placed (base - i)) i (base_placed base (strip old)) old now
  pub inside : i ≤ base

pub basing_begun : (base : ℕ) (gs : List hb_glyph_info_t) → IsBasing base 0 gs gs
basing_begun base gs = record {
  written = subst (λ n. AreWritten (base_placed n) 0 (base_placed base (strip gs)) gs gs) (let same : base ≡ base - 0 = omega arith in same) (none_written (base_placed base) gs);
  inside = omega arith;
}

base_further : (n : ℕ) (x : Item) (xs : List Item) → 0 < n → base_placed n (x ∷ xs) ≡ before_base x ∷ base_placed (n - 1) xs
base_further zero x xs some = absurd (omega (arith, some))
base_further (suc n) x xs some = ap (λ k. before_base x ∷ base_placed k xs) (let same : n ≡ suc n - 1 = omega arith in same)

pub basing_next : (base i : ℕ) (old now : List hb_glyph_info_t) (d h : hb_glyph_info_t) → i < length now → i ≢ base → IsBasing base i old now → item_of h ≡ before_base (item_of (get_or now i d)) → origin_of h ≡ origin_of (get_or now i d)
    → IsBasing base (i + 1) old (set now i h)
basing_next base i old now d h lt other u e f =
    let le = u.inside in
    let some : 0 < base - i = omega (arith, le, other) in
    let less : base - i - 1 ≡ base - (i + 1) = omega arith in
    record {
      written = next_written (base_placed (base - i)) (base_placed (base - (i + 1))) i (base_placed base (strip old)) old now d h lt u.written
          (base_further (base - i) (item_of (get_or now i d)) (strip (drop (i + 1) now)) some ∙ ap (λ k. before_base (item_of (get_or now i d)) ∷ base_placed k (strip (drop (i + 1) now))) less ∙ ap (λ x. x ∷ base_placed (base - (i + 1)) (strip (drop (i + 1) now))) (sym e)) f;
      inside = omega (arith, le, other);
    }

-- what stands before an index and from it on is the list
written_all : (i : ℕ) (all : List Item) (old now : List hb_glyph_info_t) → AreWritten (λ xs. xs) i all old now → AreMade all old now
written_all i all old now h = record { items = sym (Rattle.std.proofs.lemmas.List.take-append-drop i (strip now)) ∙ h.items; origins = h.origins }

pub basing_here : (base i : ℕ) (old now : List hb_glyph_info_t) (d h : hb_glyph_info_t) → i < length now → i ≡ base → IsBasing base i old now → item_of h ≡ with_position position.POS_BASE_C (item_of (get_or now i d)) → origin_of h ≡ origin_of (get_or now i d)
    → AreMade (base_placed base (strip old)) old (set now i h)
basing_here base i old now d h lt at u e f =
    let none : base - i ≡ 0 = omega (arith, at) in
    let x = item_of (get_or now i d) in
    let rest = strip (drop (i + 1) now) in
    written_all (i + 1) (base_placed base (strip old)) old (set now i h)
    (next_written (base_placed (base - i)) (λ xs. xs) i (base_placed base (strip old)) old now d h lt u.written (ap (λ k. base_placed k (x ∷ rest)) none ∙ ap (λ y. y ∷ rest) (sym e)) f)

pub basing_past : (base i : ℕ) (old now : List hb_glyph_info_t) → length now ≤ i → IsBasing base i old now → AreMade (base_placed base (strip old)) old now
basing_past base i old now le u = all_written (base_placed (base - i)) i (base_placed base (strip old)) old now le (none_left (base - i)) u.written
  where
    none_left : (n : ℕ) → base_placed n [] ≡ []
    none_left n = refl

pub attaching_begun : (before : ℕ) (gs : List hb_glyph_info_t) → AreWritten (signs_attached before) 0 (signs_attached before (strip gs)) gs gs
attaching_begun before gs = none_written (signs_attached before) gs

pub attaching_next : (before pos i : ℕ) (all : List Item) (old now : List hb_glyph_info_t) (d h : hb_glyph_info_t) → i < length now → AreWritten (signs_attached before) i all old now → pos ≡ attached_position before (item_of (get_or now i d))
    → item_of h ≡ with_position pos (item_of (get_or now i d)) → origin_of h ≡ origin_of (get_or now i d) → AreWritten (signs_attached pos) (i + 1) all old (set now i h)
attaching_next before pos i all old now d h lt u at e f =
    let x = item_of (get_or now i d) in
    let rest = strip (drop (i + 1) now) in
    next_written (signs_attached before) (signs_attached pos) i all old now d h lt u (ap (λ p. with_position p x ∷ signs_attached p rest) (sym at) ∙ ap (λ y. y ∷ signs_attached pos rest) (sym e)) f

pub attaching_done : (before i : ℕ) (all : List Item) (old now : List hb_glyph_info_t) → length now ≤ i → AreWritten (signs_attached before) i all old now → AreMade all old now
attaching_done before i all old now le u = all_written (signs_attached before) i all old now le refl u

-- glyphs from an index on were led
pub record IsLeading (base i : ℕ) (pos : Option ℕ) (old now : List hb_glyph_info_t) : Type 0 where
  pub written : AreWrittenBack all_led i old now
  pub led : pos ≡ led_position (drop i (strip old))
  pub inside : i ≤ length old
  pub low : i ≤ base → i ≡ length old

pub leading_begun : (base : ℕ) (gs : List hb_glyph_info_t) → IsLeading base (length gs) None gs gs
leading_begun base gs = record {
  written = none_written_back all_led (length gs) gs (omega arith) refl;
  led = sym (ap led_position (past_end gs (length gs) (omega arith)));
  inside = omega arith;
  low = λ le. refl;
}

pub leading_next : (base i : ℕ) (pos next : Option ℕ) (old now : List hb_glyph_info_t) (d h : hb_glyph_info_t) → 0 < i → base < i - 1 → IsLeading base i pos old now → item_of h ≡ led_item pos (item_of (get_or now (i - 1) d)) → origin_of h ≡ origin_of (get_or now (i - 1) d)
    → next ≡ led_position_with pos (item_of (get_or now (i - 1) d)) → IsLeading base (i - 1) next old (set now (i - 1) h)
leading_next base i pos next old now d h some high u e f g =
    let le = u.inside in
    let at : i ≡ (i - 1) + 1 = omega (arith, some) in
    let lt : i - 1 < length old = omega (arith, le, some) in
    let w : AreWrittenBack all_led ((i - 1) + 1) old now = subst (λ n. AreWrittenBack all_led n old now) at u.written in
    let there = Rattle.buffer_stages.proofs.Lemmas.Made.still_there all_led (i - 1) d old now lt w in
    let x = item_of (get_or old (i - 1) d) in
    let rest = strip (drop ((i - 1) + 1) old) in
    let position_is : pos ≡ led_position rest = subst (λ n. pos ≡ led_position (drop n (strip old))) at u.led ∙ ap led_position (drop-map item_of ((i - 1) + 1) old) in
    let cut = items_from old (i - 1) d lt in
    record {
      written = next_written_back all_led (i - 1) d h old now lt w (ap (λ p. led_item p x ∷ all_led rest) (sym position_is) ∙ ap (λ y. y ∷ all_led rest) (sym (e ∙ ap (λ k. led_item pos (item_of k)) there))) f;
      led = g ∙ ap (λ k. led_position_with pos (item_of k)) there ∙ ap (λ p. led_position_with p x) (position_is ∙ ap led_position (sym (drop-map item_of ((i - 1) + 1) old))) ∙ sym (ap led_position cut);
      inside = omega (arith, le);
      low = λ bad. absurd (omega (arith, bad, high));
    }

pub leading_done : (base i : ℕ) (pos : Option ℕ) (old now : List hb_glyph_info_t) → i ≤ base + 1 → IsLeading base i pos old now → AreMade (all_led_after base (strip old)) old now
leading_done base i pos old now le u =
    elim (cases_lt i (base + 1)) [
      | inl lt ↦
          let all : i ≡ length old = u.low (omega (arith, lt)) in
          let m = many old in
          let a : take i (strip old) ≡ strip old = take_all i (strip old) (omega (arith, all, m)) in
          let b : drop i (strip old) ≡ [] = drop_all i (strip old) (omega (arith, all, m)) in
          let c : take (base + 1) (strip old) ≡ strip old = take_all (base + 1) (strip old) (omega (arith, all, m, lt)) in
          let e : drop (base + 1) (strip old) ≡ [] = drop_all (base + 1) (strip old) (omega (arith, all, m, lt)) in
          record {
            items = u.written.items ∙ ap (λ xs. xs ++ all_led (drop i (strip old))) a ∙ ap (λ xs. strip old ++ all_led xs) b ∙ sym (ap (λ xs. xs ++ all_led (drop (base + 1) (strip old))) c ∙ ap (λ xs. strip old ++ all_led xs) e);
            origins = u.written.origins;
          }
      | inr ge ↦
          let same : i ≡ base + 1 = omega (arith, le, ge) in
          record { items = u.written.items ∙ ap (λ n. take n (strip old) ++ all_led (drop n (strip old))) same; origins = u.written.origins }
    ]

-- one after another
then_made : (xs : List Item) (f : List Item → List Item) (a b c : List hb_glyph_info_t) → AreMade xs a b → AreMade (f (strip b)) b c → AreMade (f xs) a c
then_made xs f a b c h k = record { items = k.items ∙ ap f h.items; origins = k.origins ∙ h.origins }

pub positions_made : (base : ℕ) (r : Bool) (a b c d e : List hb_glyph_info_t) → AreMade (base_placed base (strip a)) a b → AreMade (reph_placed r (strip b)) b c → AreMade (signs_attached position.POS_START (strip c)) c d → AreMade (all_led_after base (strip d)) d e
    → AreMade (all_placed (record { has_reph = r; base = base }) (strip a)) a e
positions_made base r a b c d e h k l m =
    then_made (signs_attached position.POS_START (reph_placed r (base_placed base (strip a)))) (all_led_after base) a d e
    (then_made (reph_placed r (base_placed base (strip a))) (signs_attached position.POS_START) a c d (then_made (base_placed base (strip a)) (reph_placed r) a b c h k) l) m

-- ---- masks

pub part_made : (from to bits : ℕ) (gs hs : List hb_glyph_info_t) → from ≤ to → hs ≡ take from gs ++ map (glyph_masked bits) (slice_range gs from to) ++ drop to gs → AreMade (part_masked from to bits (strip gs)) gs hs
part_made from to bits gs hs le e =
    let part = slice_range gs from to in
    record {
      items = ap strip e ∙ part_seen item_of from to gs (map (glyph_masked bits) part) ∙ ap (λ ys. take from (strip gs) ++ ys ++ drop to (strip gs)) (items_of_masked bits part ∙ ap (map (item_with_features bits)) (range_seen item_of from to gs));
      origins = ap origins e ∙ part_seen origin_of from to gs (map (glyph_masked bits) part) ∙ ap (λ ys. take from (origins gs) ++ ys ++ drop to (origins gs)) (origins_of_masked bits part ∙ range_seen origin_of from to gs) ∙ whole_cut from to (origins gs) le;
    }

pub none_after : (base bits : ℕ) (gs : List hb_glyph_info_t) → base ≡ length gs → AreMade (after_masked (base + 1) bits (strip gs)) gs gs
none_after base bits gs at =
    let m = many gs in
    record {
      items = sym (ap (λ xs. take (base + 1) (strip gs) ++ map (item_with_features bits) xs) (drop_all (base + 1) (strip gs) (omega (arith, at, m))) ∙ append-nil (take (base + 1) (strip gs)) ∙ take_all (base + 1) (strip gs) (omega (arith, at, m)));
      origins = refl;
    }

pub after_made : (base count bits : ℕ) (gs hs : List hb_glyph_info_t) → base < length gs → count ≡ length gs → hs ≡ take (base + 1) gs ++ map (glyph_masked bits) (slice_range gs (base + 1) count) ++ drop count gs → AreMade (after_masked (base + 1) bits (strip gs)) gs hs
after_made base count bits gs hs lt all e =
    let made = part_made (base + 1) count bits gs hs (omega (arith, lt, all)) e in
    let m = many gs in
    let n = Rattle.std.proofs.lemmas.List.length-drop (base + 1) (strip gs) in
    let rest : drop count (strip gs) ≡ [] = drop_all count (strip gs) (omega (arith, m, all)) in
    let whole : slice_range (strip gs) (base + 1) count ≡ drop (base + 1) (strip gs) = take_all (count - (base + 1)) (drop (base + 1) (strip gs)) (omega (arith, n, m, all)) in
    record {
      items = made.items ∙ ap (λ xs. take (base + 1) (strip gs) ++ map (item_with_features bits) (slice_range (strip gs) (base + 1) count) ++ xs) rest ∙ append-nil (take (base + 1) (strip gs) ++ map (item_with_features bits) (slice_range (strip gs) (base + 1) count)) ∙ ap (λ xs. take (base + 1) (strip gs) ++ map (item_with_features bits) xs) whole;
      origins = made.origins;
    }

pub by_position_made : (m : IndicMasks) (base reph : ℕ) (a b c d : List hb_glyph_info_t) → base ≡ base_in (strip a) → reph ≡ reph_in (strip a) → AreMade (part_masked 0 reph m.rphf (strip a)) a b → AreMade (part_masked 0 base m.before_base (strip b)) b c
    → AreMade (after_masked (base + 1) m.after_base (strip c)) c d → AreMade (masked_by_position m (strip a)) a d
by_position_made m base reph a b c d e f h k l =
    let all = then_made (part_masked 0 base m.before_base (part_masked 0 reph m.rphf (strip a))) (after_masked (base + 1) m.after_base) a c d (then_made (part_masked 0 reph m.rphf (strip a)) (part_masked 0 base m.before_base) a b c h k) l in
    subst (λ n. AreMade (after_masked (n + 1) m.after_base (part_masked 0 n m.before_base (part_masked 0 (reph_in (strip a)) m.rphf (strip a)))) a d) e
    (subst (λ n. AreMade (after_masked (base + 1) m.after_base (part_masked 0 base m.before_base (part_masked 0 n m.rphf (strip a)))) a d) f all)

pair_short : (i bits : ℕ) (xs : List Item) → length xs ≤ i + 1 → pair_masked i bits xs ≡ xs
pair_short i bits [] le = refl
pair_short zero bits (x ∷ []) le = refl
pair_short zero bits (x ∷ y ∷ zs) le = absurd (omega (arith, le))
pair_short (suc i) bits (x ∷ xs) le = ap (λ ys. x ∷ ys) (pair_short i bits xs (omega (arith, le)))

pair_long : (i bits : ℕ) (xs : List Item) → i + 1 < length xs → part_masked i (i + 2) bits xs ≡ pair_masked i bits xs
pair_long i bits [] lt = absurd (omega (arith, lt))
pair_long zero bits (x ∷ []) lt = absurd (omega (arith, lt))
pair_long zero bits (x ∷ y ∷ zs) lt = refl
pair_long (suc i) bits (x ∷ xs) lt =
    let two : suc i + 2 ≡ suc (i + 2) = omega arith in
    let wide : suc (i + 2) - suc i ≡ i + 2 - i = omega arith in
    ap (λ n. take (suc i) (x ∷ xs) ++ map (item_with_features bits) (take (n - suc i) (drop (suc i) (x ∷ xs))) ++ drop n (x ∷ xs)) two ∙ ap (λ n. (x ∷ take i xs) ++ map (item_with_features bits) (take n (drop i xs)) ++ drop (i + 2) xs) wide ∙ ap (λ ys. x ∷ ys) (pair_long i bits xs (omega (arith, lt)))

pub no_pair : (i bits : ℕ) (gs : List hb_glyph_info_t) → length gs ≤ i + 1 → AreMade (pair_masked i bits (strip gs)) gs gs
no_pair i bits gs le = let m = many gs in record { items = sym (pair_short i bits (strip gs) (omega (arith, le, m))); origins = refl }

pub pair_made : (i bits : ℕ) (gs hs : List hb_glyph_info_t) → i + 1 < length gs → hs ≡ take i gs ++ map (glyph_masked bits) (slice_range gs i (i + 2)) ++ drop (i + 2) gs → AreMade (pair_masked i bits (strip gs)) gs hs
pair_made i bits gs hs lt e =
    let m = many gs in
    let made = part_made i (i + 2) bits gs hs (omega arith) e in
    record { items = made.items ∙ pair_long i bits (strip gs) (omega (arith, lt, m)); origins = made.origins }

-- glyphs from an index on lost bits before a ZWNJ
pub record IsClearing (bits i : ℕ) (is_before : Bool) (old now : List hb_glyph_info_t) : Type 0 where
  pub written : AreWrittenBack (cleared_before_zwnj bits) i old now
  pub met : is_before ≡ before_zwnj (drop i (strip old))
  pub inside : i ≤ length old

pub clearing_begun : (bits : ℕ) (gs : List hb_glyph_info_t) → IsClearing bits (length gs) false gs gs
clearing_begun bits gs = record {
  written = none_written_back (cleared_before_zwnj bits) (length gs) gs (omega arith) refl;
  met = sym (ap before_zwnj (past_end gs (length gs) (omega arith)));
  inside = omega arith;
}

pub clearing_next : (bits i : ℕ) (before next : Bool) (old now : List hb_glyph_info_t) (d h : hb_glyph_info_t) → 0 < i → IsClearing bits i before old now → item_of h ≡ without_bits_if before bits (item_of (get_or now (i - 1) d)) → origin_of h ≡ origin_of (get_or now (i - 1) d)
    → next ≡ continues (item_of (get_or now (i - 1) d)) before → IsClearing bits (i - 1) next old (set now (i - 1) h)
clearing_next bits i before next old now d h some u e f g =
    let le = u.inside in
    let at : i ≡ (i - 1) + 1 = omega (arith, some) in
    let lt : i - 1 < length old = omega (arith, le, some) in
    let made = cleared_before_zwnj bits in
    let w : AreWrittenBack made ((i - 1) + 1) old now = subst (λ n. AreWrittenBack made n old now) at u.written in
    let there = Rattle.buffer_stages.proofs.Lemmas.Made.still_there made (i - 1) d old now lt w in
    let x = item_of (get_or old (i - 1) d) in
    let rest = strip (drop ((i - 1) + 1) old) in
    let before_is : before ≡ before_zwnj rest = subst (λ n. before ≡ before_zwnj (drop n (strip old))) at u.met ∙ ap before_zwnj (drop-map item_of ((i - 1) + 1) old) in
    let cut = items_from old (i - 1) d lt in
    record {
      written = next_written_back made (i - 1) d h old now lt w (ap (λ b. without_bits_if b bits x ∷ made rest) (sym before_is) ∙ ap (λ y. y ∷ made rest) (sym (e ∙ ap (λ k. without_bits_if before bits (item_of k)) there))) f;
      met = g ∙ ap (λ k. continues (item_of k) before) there ∙ ap (continues x) (before_is ∙ ap before_zwnj (sym (drop-map item_of ((i - 1) + 1) old))) ∙ sym (ap before_zwnj cut);
      inside = omega (arith, le);
    }

pub clearing_done : (bits i : ℕ) (before : Bool) (old now : List hb_glyph_info_t) → i ≡ 0 → IsClearing bits i before old now → AreMade (cleared_before_zwnj bits (strip old)) old now
clearing_done bits i before old now none u = all_written_back (cleared_before_zwnj bits) old now (subst (λ n. AreWrittenBack (cleared_before_zwnj bits) n old now) none u.written)

pub features_made : (m : IndicMasks) (pair : Option ℕ) (bits : ℕ) (a b c d : List hb_glyph_info_t) → bits ≡ own_bits m.half → AreMade (masked_by_position m (strip a)) a b → AreMade (pref_masked m.pref pair (strip b)) b c → AreMade (cleared_before_zwnj bits (strip c)) c d
    → AreMade (masks_set m pair (strip a)) a d
features_made m pair bits a b c d e h k l =
    subst (λ n. AreMade (cleared_before_zwnj n (pref_masked m.pref pair (masked_by_position m (strip a)))) a d) e
    (then_made (pref_masked m.pref pair (masked_by_position m (strip a))) (cleared_before_zwnj bits) a c d (then_made (masked_by_position m (strip a)) (pref_masked m.pref pair) a b c h k) l)

-- ---- the pair that forms

-- none was met from the index after the base on
pub record IsPairing (forms : Forms) (i : ℕ) (gs : List hb_glyph_info_t) : Type 0 where
  pub rest : first_at (forms_pref forms) i (drop i (strip gs)) ≡ pref_pair forms (strip gs)

pub pair_next : (forms : Forms) (gs : List hb_glyph_info_t) (i : ℕ) → i < length gs → false ≡ forms_pref forms (drop i (strip gs)) → IsPairing forms i gs → IsPairing forms (i + 1) gs
pair_next forms gs i lt e h = let m = many gs in record { rest = first_skip (forms_pref forms) i (strip gs) (pref_pair forms (strip gs)) (omega (arith, lt, m)) (sym e) h.rest }

pub pair_found : (forms : Forms) (gs : List hb_glyph_info_t) (i : ℕ) → i < length gs → true ≡ forms_pref forms (drop i (strip gs)) → IsPairing forms i gs → Some i ≡ pref_pair forms (strip gs)
pair_found forms gs i lt e h = let m = many gs in first_hit (forms_pref forms) i (strip gs) (pref_pair forms (strip gs)) (omega (arith, lt, m)) (sym e) h.rest

pub pair_none : (forms : Forms) (gs : List hb_glyph_info_t) (i : ℕ) → length gs ≤ i → IsPairing forms i gs → None ≡ pref_pair forms (strip gs)
pair_none forms gs i le h = let m = many gs in first_none (forms_pref forms) i (strip gs) (pref_pair forms (strip gs)) (omega (arith, le, m)) h.rest

pub pairing_begun : (forms : Forms) (gs : List hb_glyph_info_t) (base : ℕ) → base ≡ base_in (strip gs) → IsPairing forms (base + 1) gs
pairing_begun forms gs base e = record { rest = ap (λ n. first_at (forms_pref forms) (n + 1) (drop (n + 1) (strip gs))) e }
