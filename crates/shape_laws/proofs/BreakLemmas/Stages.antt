-- The stages of a text that is broken into two.
use Rattle.std.proofs.Common.{ℕ, ◌≡◌, ◌≤◌, ◌==◌, ◌&&◌, ◌⊎◌, inl, inr, not, Bool, true, false, List, [], ◌∷◌, length, map, Option, None, Some, Ok, refl, sym, ap, subst, ◌∙◌}
use Rattle.std.specs.Int.RustNames.{bit_and}
use Rattle.std.specs.Prelude.{codes}
use Rattle.std.proofs.lemmas.Nat.{and_assoc}
use Rattle.buffer_common.specs.Direction.{is_backward, is_vertical}
use Rattle.buffer_unicode_tables.specs.Tables.{Tables}
use Rattle.buffer_glyphs.specs.Items.{Item}
use Rattle.buffer_glyphs.specs.LigatureWords.{lig_id}
use Rattle.buffer_glyphs.specs.Origins.{numbers}
use Rattle.buffer_parts.specs.Lemmas.Orderly.{plain_is_orderly}
use Rattle.buffer_parts.specs.Lemmas.Plainly.{steady_count, steady_plain}
use Rattle.buffer_core.specs.Readings.{BufferState, View, Read, state_after}
use Rattle.buffer_stages.specs.Settings.{TextSettings}
use Rattle.buffer_parts.specs.Breaks.Unsafe.{IsUnsafeAt}
use Rattle.buffer_parts.specs.Breaks.Fragments.{AreGiven}
use Rattle.buffer_parts.specs.Breaks.Divisible.{IsBreakable, StaysDivided}
use Rattle.buffer_parts.proofs.BreakLemmas.Events.{unsafe_stays}
use Rattle.layout_face.specs.declared.parts.FaceParts.{FaceParts}
use Rattle.layout_map.specs.Masks.{mask_at_one}
use Rattle.script_joining.specs.Joining.{forms, letters_with_forms, nearest, settled_forms, types_of_characters, types_of_items}
use Rattle.script_joining.specs.Lemmas.Steady.{joining_is_steady}
use Rattle.shape_text.specs.Circle.{flags_want_circle}
use Rattle.shape_text.specs.Ranges.{with_ranges}
use Rattle.shape_text.specs.Rotation.{mapped_where, mirror_image, mirrored_item, mirrored_or, upright_or, vertical_form, with_vertical_form}
use Rattle.shape_pipeline.specs.Characters.{text_begun, turned_to_line}
use Rattle.shape_pipeline.specs.Shaping.{Shaping}
use Rattle.shape_laws.specs.Breaks.Laws.{BegunTextsDivide, LettersDivide, RangesDivide, RotationDivides}
use Rattle.shape_laws.specs.Breaks.Texts.{AreBroken, AreBrokenSettings, AreBrokenShapings, IsNativeLine, KnowsGraphemes, StaysBroken}
use Rattle.shape_laws.proofs.BreakLemmas.Begun.{plainly_breakable}
use Rattle.shape_laws.proofs.BreakLemmas.BegunTexts.{BeginsCluster, begun_divide, begun_stage, begun_unnumbered}
use Rattle.shape_laws.proofs.BreakLemmas.Joined.{formed_given, joined_divide, joined_many}
use Rattle.shape_laws.proofs.BreakLemmas.Letters.{letters_lossless}
use Rattle.shape_laws.proofs.BreakLemmas.Ranged.{ranges_divide, ranges_given}
use Rattle.shape_laws.proofs.BreakLemmas.Rotated.{rotation_divides}
use Rattle.shape_laws.proofs.BreakLemmas.Glyphs.{same_bit}
use Rattle.shape_parts.proofs.Masks.{ranges_many}
use Rattle.layout_laws.proofs.BreakLemmas.Frames.{given_both}

-- ---- settings

early_wants : (w e l : TextSettings) → AreBrokenSettings w e l → flags_want_circle e.flags ≡ flags_want_circle w.flags
early_wants w e l s =
    ap (λ n. n == 1 && not (bit_and e.flags.0 16 == 16)) s.begins ∙ ap (λ n. bit_and w.flags.0 1 == 1 && not (n == 16)) (same_bit w.flags.0 e.flags.0 16 refl s.early_requests)

pub late_wants : (w e l : TextSettings) → AreBrokenSettings w e l → flags_want_circle l.flags ≡ false
late_wants w e l s = ap (λ n. n == 1 && not (bit_and l.flags.0 16 == 16)) s.begins_inside

-- ---- the first pipeline stage

pub begun_is : (p : Shaping) (v : View) (r : Read) → text_begun p v ≡ Ok r → begun_stage p.map.global_mask p.tables p.font p.settings.flags p.settings.pre_context p.settings.script v ≡ Ok r
unfolding text_begun
begun_is p v r e = e

-- what the first pipeline stage leaves of a text that is broken into two
pub begun_all : (p p1 p2 : Shaping) (c : ℕ) (whole earlier later : BufferState) (r e l : Read) → AreBrokenShapings p p1 p2 → KnowsGraphemes p.tables → IsBreakable whole → AreBroken c whole earlier later
    → IsNativeLine p.settings.script whole.view.direction → text_begun p whole.view ≡ Ok r → text_begun p1 earlier.view ≡ Ok e → text_begun p2 later.view ≡ Ok l → StaysBroken c (state_after r whole) (state_after e earlier) (state_after l later) × (IsUnsafeAt c (state_after r whole).origins ⊎ BeginsCluster later.view.items)
begun_all p p1 p2 c whole earlier later r e l shapings knows ready broken native is_r is_e is_l =
    let s = shapings.settings in
    let mask = p.map.global_mask in
    let w = p.settings in
    let one = p1.settings in
    let two = p2.settings in
    let early_shaping = shapings.early_is in
    let late_shaping = shapings.late_is in
    let script = w.script in
    let early : begun_stage mask p.tables p.font one.flags w.pre_context script earlier.view ≡ Ok e =
    subst (λ (q : Shaping). begun_stage q.map.global_mask q.tables q.font one.flags w.pre_context script earlier.view ≡ Ok e) early_shaping
    (subst (λ (t : TextSettings). begun_stage p1.map.global_mask p1.tables p1.font one.flags t.pre_context t.script earlier.view ≡ Ok e) s.early_is (begun_is p1 earlier.view e is_e)) in
    let late : begun_stage mask p.tables p.font two.flags two.pre_context script later.view ≡ Ok l =
    subst (λ (q : Shaping). begun_stage q.map.global_mask q.tables q.font two.flags two.pre_context script later.view ≡ Ok l) late_shaping
    (subst (λ (t : TextSettings). begun_stage p2.map.global_mask p2.tables p2.font two.flags two.pre_context t.script later.view ≡ Ok l) s.late_is (begun_is p2 later.view l is_l)) in
    let all = begun_divide mask p.tables p.font script w.flags one.flags two.flags w.pre_context two.pre_context c whole earlier later r e l knows ready broken native (early_wants w one two s) (late_wants w one two s) (begun_is p whole.view r is_r) early late in
    let given : AreGiven 0 whole.view.items = subst (AreGiven 0) (sym broken.items) (given_both 0 earlier.view.items later.view.items broken.early_unnumbered broken.late_unnumbered) in
    let w_none = begun_unnumbered mask p.tables p.font script w.flags w.pre_context whole r native given (begun_is p whole.view r is_r) in
    let e_none = begun_unnumbered mask p.tables p.font script one.flags w.pre_context earlier e (subst (IsNativeLine script) (sym broken.early_of.direction) native) broken.early_unnumbered early in
    let l_none = begun_unnumbered mask p.tables p.font script two.flags two.pre_context later l (subst (IsNativeLine script) (sym broken.late_of.direction) native) broken.late_unnumbered late in
    (record { breakable = all.breakable; given = w_none.1; numbers = record { whole_none = w_none.0; early_none = e_none.0; late_none = l_none.0 }; divided = all.divided }, all.begins)

pub begun_texts_divide : BegunTextsDivide
begun_texts_divide p p1 p2 c whole earlier later r e l shapings knows ready broken native is_r is_e is_l = (begun_all p p1 p2 c whole earlier later r e l shapings knows ready broken native is_r is_e is_l).0

-- ---- mirrored characters and vertical forms

mirrored_given : (t : Tables) (font : FaceParts) (mask : ℕ) (xs : List Item) → AreGiven 0 xs → AreGiven 0 (map (mirrored_item t font mask) xs)
mirrored_given t font mask [] h = tt
mirrored_given t font mask (x ∷ xs) h = (by_image (mirror_image t font x.number), mirrored_given t font mask xs h.1)
  where
    by_image : (o : Option ℕ) → lig_id (mirrored_or mask x o) ≤ 0
    by_image None = h.0
    by_image (Some u) = h.0

upright_given : (t : Tables) (font : FaceParts) (xs : List Item) → AreGiven 0 xs → AreGiven 0 (map (with_vertical_form t font) xs)
upright_given t font [] h = tt
upright_given t font (x ∷ xs) h = (by_form (vertical_form t font x.number), upright_given t font xs h.1)
  where
    by_form : (o : Option ℕ) → lig_id (upright_or x o) ≤ 0
    by_form None = h.0
    by_form (Some u) = h.0

where_given : (b : Bool) (k : Item → Item) (v : View) → AreGiven 0 v.items → (AreGiven 0 v.items → AreGiven 0 (map k v.items)) → AreGiven 0 (mapped_where b k v).view.items
where_given true k v h next = next h
where_given false k v h next = h

where_number : (b : Bool) (k : Item → Item) (v : View) → (mapped_where b k v).view.lig_id ≡ v.lig_id
where_number true k v = refl
where_number false k v = refl

turned_given : (p : Shaping) (v : View) → AreGiven 0 v.items → AreGiven 0 (turned_to_line p v).view.items
turned_given p v h =
    let mask = mask_at_one (codes "rtlm") p.map in
    let first = mapped_where (is_backward p.direction) (mirrored_item p.tables p.font mask) v in
    where_given (is_vertical p.direction && not p.choices.has_vert) (with_vertical_form p.tables p.font) first.view (where_given (is_backward p.direction) (mirrored_item p.tables p.font mask) v h (mirrored_given p.tables p.font mask v.items)) (upright_given p.tables p.font first.view.items)

turned_number : (p : Shaping) (v : View) → (turned_to_line p v).view.lig_id ≡ v.lig_id
turned_number p v =
    let mask = mask_at_one (codes "rtlm") p.map in
    let first = mapped_where (is_backward p.direction) (mirrored_item p.tables p.font mask) v in
    where_number (is_vertical p.direction && not p.choices.has_vert) (with_vertical_form p.tables p.font) first.view ∙ where_number (is_backward p.direction) (mirrored_item p.tables p.font mask) v

turned_alike : (p q : Shaping) (v : View) → q ≡ record p { settings = q.settings } → turned_to_line q v ≡ turned_to_line p v
turned_alike p q v e = ap (λ (k : Shaping). turned_to_line k v) e

pub turned_divide : RotationDivides
turned_divide p p1 p2 c whole earlier later shapings stays =
    let turns = rotation_divides false p.tables p.font p.direction (mask_at_one (codes "rtlm") p.map) p.choices.has_vert in
    let early = turned_alike p p1 earlier.view shapings.early_is in
    let late = turned_alike p p2 later.view shapings.late_is in
    record {
      breakable = turns.breakable whole (turned_to_line p whole.view) refl stays.breakable;
      given = turned_given p whole.view stays.given;
      numbers = record {
        whole_none = turned_number p whole.view ∙ stays.numbers.whole_none;
        early_none = turned_number p1 earlier.view ∙ stays.numbers.early_none;
        late_none = turned_number p2 later.view ∙ stays.numbers.late_none;
      };
      divided = subst (λ (r : Read). StaysDivided false c (state_after (turned_to_line p whole.view) whole) (state_after r earlier) (state_after (turned_to_line p2 later.view) later)) (sym early)
          (subst (λ (r : Read). StaysDivided false c (state_after (turned_to_line p whole.view) whole) (state_after (turned_to_line p earlier.view) earlier) (state_after r later)) (sym late) (elim stays.divided [
            | inl unsafe ↦ inl (turns.unsafe whole (turned_to_line p whole.view) c refl stays.breakable unsafe)
            | inr j ↦ turns.divides c whole earlier later (turned_to_line p whole.view) (turned_to_line p earlier.view) (turned_to_line p later.view) stays.breakable j refl refl refl
          ]));
    }

-- ---- letters

pub letters_of_both_divide : LettersDivide
letters_of_both_divide t mongolian masks pre post early_post late_pre c whole earlier later stays shows begins =
    let r = letters_with_forms t mongolian masks pre post whole.view in
    let es = r.events whole.level in
    let steady = joining_is_steady t mongolian masks pre post whole.view whole.level in
    let plain = steady_plain es steady in
    let many = joined_many t mongolian masks pre post whole.view in
    let lossless = letters_lossless (nearest (types_of_characters t pre)) None 0 (types_of_items t whole.view.items) (length whole.origins) in
    record {
      breakable = plainly_breakable whole r plain (steady_count (length whole.origins) es steady ∙ stays.breakable.whole.origins ∙ sym many) (stays.breakable.whole.positions ∙ sym many) stays.breakable;
      given = formed_given masks 0 whole.view.items (settled_forms mongolian whole.view.items (forms (types_of_characters t pre) (types_of_items t whole.view.items) (types_of_characters t post))) stays.given;
      numbers = record { whole_none = stays.numbers.whole_none; early_none = stays.numbers.early_none; late_none = stays.numbers.late_none };
      divided = elim stays.divided [
        | inl unsafe ↦ inl (unsafe_stays whole.asks whole.level es whole.origins c stays.breakable.breaks (plain_is_orderly whole.asks whole.level es whole.origins plain) lossless unsafe)
        | inr j ↦ joined_divide t mongolian masks pre post early_post late_pre c whole earlier later stays.breakable j stays.numbers (shows j) (begins j)
      ];
    }

-- ---- ranges

pub ranges_of_both_divide : RangesDivide
ranges_of_both_divide m features c whole earlier later stays =
    let r = with_ranges m features (numbers whole.origins) whole.view in
    let many = ranges_many m features (numbers whole.origins) whole.view.items in
    record {
      breakable = plainly_breakable whole r tt (stays.breakable.whole.origins ∙ sym many) (stays.breakable.whole.positions ∙ sym many) stays.breakable;
      given = ranges_given m features 0 (numbers whole.origins) whole.view.items stays.given;
      numbers = record { whole_none = stays.numbers.whole_none; early_none = stays.numbers.early_none; late_none = stays.numbers.late_none };
      divided = elim stays.divided [
        | inl unsafe ↦ inl unsafe
        | inr j ↦ inr (ranges_divide m features false c whole earlier later j)
      ];
    }
