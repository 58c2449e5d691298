-- A plain text begun.
use Rattle.std.proofs.Common.{ℕ, ◌≡◌, ◌≤◌, ◌*◌, ◌+◌, ◌&&◌, ◌==◌, Bool, true, false, if◌then◌else◌, List, [], ◌∷◌, map, length, max, refl, sym, ap, subst, ◌∙◌, arith}
use Rattle.std.specs.Prelude.{bit_and, bit_or, nat_le, Option, Some, None, is_some}
use Rattle.std.proofs.Math.Nat.{le-max_left}
use Rattle.std.proofs.lemmas.Nat.{and_or_apart}
use Rattle.buffer_common.specs.declared.constants.BufferFlags.{BufferFlags}
use Rattle.buffer_common.specs.declared.direction.Direction.{Direction}
use Rattle.buffer_common.specs.declared.direction.Direction.TheVariants.{Invalid, LeftToRight, RightToLeft, TopToBottom, BottomToTop}
use Rattle.buffer_common.specs.declared.script.Script.{Script}
use Rattle.buffer_unicode_tables.specs.Tables.{Tables}
use Rattle.buffer_unicode.specs.Character.{is_default_ignorable_character}
use Rattle.layout_face.specs.declared.parts.FaceParts.{FaceParts}
use Rattle.layout_face.specs.Glyphs.{nominal_glyph}
use Rattle.buffer_properties.specs.Properties.{bit_if, properties_of, scratch_flags_of, without_bits}
use Rattle.buffer_glyphs.specs.Items.{Item, item_masked}
use Rattle.buffer_core.specs.Readings.{Read, Stage, View, always, as_it_is, with_events}
use Rattle.buffer_core.specs.Settings.{length_limit}
use Rattle.shape_text.specs.Masks.{with_one_mask}
use Rattle.shape_text.specs.declared.graphemes.Before.{Before}
use Rattle.shape_text.specs.Graphemes.{continues}
use Rattle.shape_text.specs.Properties.{next_before, items_prepared, prepared_item, scratch_flags_of_items, with_properties, property_word_of}
use Rattle.shape_text.specs.Circle.{DOTTED_CIRCLE, flags_want_circle, begins_with_mark, first_circle, with_circle}
use Rattle.shape_text.specs.Clusters.{with_clusters}
use Rattle.shape_text.specs.NativeOrder.{is_number_text, is_reversed, native_order, in_native_order, runs_against, script_direction, reversed_text, with_numbers, without_continuation}
use Rattle.shape_pipeline.specs.Characters.{text_begun}
use Rattle.shape_pipeline.specs.Limits.{initial_view}
use Rattle.shape_pipeline.specs.Shaping.{Shaping}
use Rattle.shape_laws.specs.PlainTexts.{IsPlainShaping, RunsForth}
use Rattle.shape_laws.proofs.Plain.Texts.{Are, IsPlain, Leads, Stands, always_leads, are_many, are_mapped, both_lead, last_leads}
use Rattle.buffer_properties.specs.Characters.{is_mark_number}
use Rattle.shape_laws.proofs.Plain.Words.{word_alone, word_mark}
use Rattle.shape_laws.proofs.Begun.{no_circle, no_attachment, stays, none_attached as told_clear}

-- a character as it was added
pub record Given (font : FaceParts) (u : ℕ) (x : Item) : Type 0 where
  pub number : x.number ≡ u
  pub plain : IsPlain font u

-- with its properties
pub record Prepared (font : FaceParts) (u : ℕ) (x : Item) : Type 0 where
  pub number : x.number ≡ u
  pub plain : IsPlain font u
  pub is_continuation : Bool
  pub word : x.unicode_props ≡ property_word_of is_continuation u

-- in the order of the writing
pub record Ordered (font : FaceParts) (u : ℕ) (x : Item) : Type 0 where
  pub number : x.number ≡ u
  pub plain : IsPlain font u
  pub word : x.unicode_props ≡ properties_of u

-- a text before shaping
pub record IsText (font : FaceParts) (us : List ℕ) (v : View) : Type 0 where
  pub items : Are (Given font) us v.items
  pub line : v.direction ≡ LeftToRight
  pub room : length v.items ≤ v.max_len

-- ---- limits

limit_if : (b : Bool) (n limit : ℕ) → n ≤ limit → n ≤ (if b then max (n * 64) 16384 else limit)
limit_if true n limit le = let m = le-max_left (n * 64) 16384 in omega (arith, m)
limit_if false n limit le = le

begun_stands : (font : FaceParts) (us : List ℕ) (v : View) → IsText font us v → Stands (Given font) us (initial_view v).view
begun_stands font us v t =
    let many = are_many (Given font) us v.items t.items in
    let room = limit_if (nat_le (length v.items * 64) 0xFFFF_FFFF_FFFF_FFFF) (length v.items) v.max_len t.room in
    let P : ℕ → Type 0 = λ n. n ≤ length_limit (length v.items) v.max_len in
    record { items = t.items; line = t.line; scratch_flags = refl; room = subst P many room }

-- ---- masks and properties

masked_stands : (font : FaceParts) (m : ℕ) (us : List ℕ) (v : View) → Stands (Given font) us v → Stands (Given font) us (with_one_mask m v).view
masked_stands font m us v s = record {
  items = are_mapped (Given font) (Given font) (item_masked m) (λ u x g. record { number = g.number; plain = g.plain }) us v.items s.items;
  line = s.line;
  scratch_flags = s.scratch_flags;
  room = s.room;
}

prepared_as : (font : FaceParts) (t : Tables) (b : Bool) (u : ℕ) (x : Item) → Given font u x → Prepared font u (prepared_item t b x)
prepared_as font t b u x g = record { number = g.number; plain = g.plain; is_continuation = b; word = ap (property_word_of b) g.number }

are_prepared : (font : FaceParts) (t : Tables) (before : Option Before) (us : List ℕ) (xs : List Item) → Are (Given font) us xs → Are (Prepared font) us (items_prepared t before xs)
are_prepared font t before [] [] a = tt
are_prepared font t before [] (x ∷ xs) a = absurd a
are_prepared font t before (u ∷ us) [] a = absurd a
are_prepared font t before (u ∷ us) (x ∷ xs) a = (prepared_as font t (continues t before x.number) u x a.0, are_prepared font t (Some (next_before t before x.number)) us xs a.1)

properties_stand : (font : FaceParts) (t : Tables) (us : List ℕ) (v : View) → Stands (Given font) us v → Stands (Prepared font) us (with_properties t v).view
properties_stand font t us v s = record { items = are_prepared font t None us v.items s.items; line = s.line; scratch_flags = told_clear v.items v.scratch_flags s.scratch_flags; room = s.room }

-- ---- no circle

first_unmarked : (font : FaceParts) (us : List ℕ) (xs : List Item) → Are (Prepared font) us xs → begins_with_mark xs ≡ false
first_unmarked font [] [] a = refl
first_unmarked font [] (x ∷ xs) a = absurd a
first_unmarked font (u ∷ us) [] a = absurd a
first_unmarked font (u ∷ us) (x ∷ xs) a =
    let p = a.0 in
    ap (λ w. is_mark_number (bit_and w 0x1F)) p.word ∙ word_mark p.is_continuation u p.plain.shown ∙ p.plain.unmarked

abbrev circle_if : Bool → Tables → Stage
circle_if b t v = if b then with_circle t v else as_it_is v

uncircled : (font : FaceParts) (t : Tables) (flags : BufferFlags) (context us : List ℕ) (v : View) → Stands (Prepared font) us v → first_circle t font flags context v ≡ as_it_is v
uncircled font t flags context us v s =
    ap (λ b. circle_if b t v) (no_circle (flags_want_circle flags && length context == 0) (begins_with_mark v.items) (is_some (nominal_glyph DOTTED_CIRCLE font)) (first_unmarked font us v.items s.items))

circle_leads : (font : FaceParts) (t : Tables) (flags : BufferFlags) (context us : List ℕ) → Leads (Stands (Prepared font) us) (Stands (Prepared font) us) (first_circle t font flags context)
circle_leads font t flags context us v s = (with_events [] v, (uncircled font t flags context us v s, s))

-- ---- the order of the writing

not_turned : (script : Option Script) (d : Direction) (xs : List Item) → RunsForth script → d ≡ LeftToRight → is_reversed script d xs ≡ false
not_turned script d xs w e =
    ap (λ t. runs_against t (with_numbers (is_number_text xs) t (script_direction script))) e ∙ stays (is_number_text xs) (script_direction script) w

abbrev ordered_if : Bool → View → Read
ordered_if b v = if b then reversed_text v else with_events [] v

ordered_view : (script : Option Script) (v : View) → is_reversed script v.direction v.items ≡ false → (in_native_order script v).view ≡ v
ordered_view script v e = ap (λ b. (ordered_if b v).view) e

alone_item : (font : FaceParts) (u : ℕ) (x : Item) → Prepared font u x → Ordered font u (without_continuation x)
alone_item font u x p = record { number = p.number; plain = p.plain; word = ap (λ w. without_bits 128 w) p.word ∙ word_alone p.is_continuation u p.plain.shown }

order_stands : (font : FaceParts) (script : Option Script) (us : List ℕ) (v : View) → RunsForth script → Stands (Prepared font) us v → Stands (Ordered font) us (native_order script v).view
order_stands font script us v w s =
    let same : (in_native_order script v).view ≡ v = ordered_view script v (not_turned script v.direction v.items w s.line) in
    let P : View → Type 0 = λ t. Stands (Ordered font) us (record t { items = map without_continuation t.items }) in
    let there : P v = record { items = are_mapped (Prepared font) (Ordered font) without_continuation (alone_item font) us v.items s.items; line = s.line; scratch_flags = s.scratch_flags; room = s.room } in
    subst P (sym same) there

pub begun_leads : (p : Shaping) (us : List ℕ) → IsPlainShaping p → Leads (IsText p.font us) (Stands (Ordered p.font) us) (text_begun p)
unfolding text_begun
begun_leads p us plain =
    let T = IsText p.font us in
    let G = Stands (Given p.font) us in
    let Q = Stands (Prepared p.font) us in
    let O = Stands (Ordered p.font) us in
    let circle = first_circle p.tables p.font p.settings.flags p.settings.pre_context in
    let order = always (native_order p.settings.script) in
    both_lead T G O (always initial_view) (always (with_one_mask p.map.global_mask) ∷ always (with_properties p.tables) ∷ circle ∷ always with_clusters ∷ order ∷ []) (always_leads T G initial_view (begun_stands p.font us))
    (both_lead G G O (always (with_one_mask p.map.global_mask)) (always (with_properties p.tables) ∷ circle ∷ always with_clusters ∷ order ∷ []) (always_leads G G (with_one_mask p.map.global_mask) (masked_stands p.font p.map.global_mask us))
    (both_lead G Q O (always (with_properties p.tables)) (circle ∷ always with_clusters ∷ order ∷ []) (always_leads G Q (with_properties p.tables) (properties_stand p.font p.tables us))
    (both_lead Q Q O circle (always with_clusters ∷ order ∷ []) (circle_leads p.font p.tables p.settings.flags p.settings.pre_context us)
    (both_lead Q Q O (always with_clusters) (order ∷ []) (always_leads Q Q with_clusters (λ v s. s))
    (last_leads Q O order (always_leads Q O (native_order p.settings.script) (λ v s. order_stands p.font p.settings.script us v plain.writing s)))))))
