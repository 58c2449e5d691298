-- The letters of a text, joined.
use Rattle.std.proofs.Common.{ℕ, zero, suc, ◌≡◌, Bool, true, false, if◌then◌else◌, List, [], ◌∷◌, ◌++◌, Option, Some, None, length, map, arith, refl, sym, ap, subst, ◌∙◌}
use Rattle.std.specs.Prelude.{bit_and, find, unwrap_or}
use Rattle.std.proofs.lemmas.List.{length-map}
use Rattle.std.proofs.lemmas.Nat.{and_or_apart}
use Rattle.buffer_glyphs.specs.declared.info.hb_glyph_info_t.{hb_glyph_info_t}
use Rattle.buffer_glyphs.specs.Items.{Item, item_of, strip}
use Rattle.buffer_glyphs.specs.Origins.{Origin, origin_of, origins}
use Rattle.buffer_glyphs.specs.Events.{Event, origins_after}
use Rattle.buffer_core.specs.Readings.{BufferState, View, always}
use Rattle.buffer_core.specs.Sides.{Sides, all_glyphs, items_of, origins_by, origins_of, view_of}
use Rattle.buffer_core.specs.Lending.{with_refilled}
use Rattle.buffer_stages.specs.Stages.{Happens, IsFollowed, with_items_mapped}
use Rattle.buffer_stages.specs.Lemmas.Written.{happened_followed, written_becomes}
use Rattle.buffer_unicode_tables.specs.Tables.{Tables}
use Rattle.script_categories.specs.declared.joining_types.hb_arabic_joining_type_t.TheVariants.{U, L, R, D, GroupAlaph, GroupDalathRish, T, X}
use Rattle.script_joining.specs.Types.{JoiningType, type_of_item}
use Rattle.script_joining.specs.Forms.{letter_form}
use Rattle.script_joining.specs.Joining.{form_after, forms, forms_copied, is_letter, letters_with_forms, items_with_forms, mask_of, nearest, nearest_past, neighbour_events, settled_forms, types_of_characters, types_of_items, with_form, with_forms}
use Rattle.script_joining.specs.Flagged.{type_of_typed}
use Rattle.script_joining.specs.Glyphs.{AreFlagless, glyph_joined, glyphs_copied, glyphs_formed, glyphs_settled, item_typed, nearest_or, number_of, type_kept, type_numbered}
use Rattle.buffer_stages.proofs.Lemmas.Masks.{mask_above}

-- ---- types that are kept

kept_type : (t : JoiningType) → type_numbered (number_of t) ≡ t
kept_type U = refl
kept_type L = refl
kept_type R = refl
kept_type D = refl
kept_type GroupAlaph = refl
kept_type GroupDalathRish = refl
kept_type T = refl
kept_type X = refl

kept_types : (t : Tables) (xs : List Item) → map type_of_typed (map (item_typed t) xs) ≡ types_of_items t xs
kept_types t [] = refl
kept_types t (x ∷ xs) = rw (kept_type (type_of_item t x), kept_types t xs) refl

-- ---- forms

-- the nearest letter of two texts, one after the other
pub nearest_both : (ts us : List JoiningType) → nearest (ts ++ us) ≡ nearest_or (nearest us) ts
nearest_both [] us = refl
nearest_both (t ∷ ts) us =
    elim (is_letter t) as (λ b. unwrap_or (if b then Some t else find is_letter (ts ++ us)) U ≡ unwrap_or (if b then Some t else find is_letter ts) (nearest us))
    [ true ↦ refl | false ↦ nearest_both ts us ]

pub nearest_front : (t : JoiningType) (ts : List JoiningType) → nearest (t ∷ ts) ≡ nearest_past (nearest ts) t
nearest_front t ts = elim (is_letter t) as (λ b. unwrap_or (if b then Some t else find is_letter ts) U ≡ (if b then t else nearest ts)) [ true ↦ refl | false ↦ refl ]

-- items with given forms
abbrev item_formed : Item → ℕ → Item
item_formed x form = record x { auxiliary = form }

abbrev items_formed : List Item → List ℕ → List Item
items_formed [] fs = []
items_formed (x ∷ xs) [] = x ∷ xs
items_formed (x ∷ xs) (f ∷ fs) = item_formed x f ∷ items_formed xs fs

seen_types : (gs : List hb_glyph_info_t) → map type_kept gs ≡ map type_of_typed (strip gs)
seen_types [] = refl
seen_types (g ∷ gs) = ap (λ ts. type_kept g ∷ ts) (seen_types gs)

formed_items : (before after : List JoiningType) (gs : List hb_glyph_info_t) → strip (glyphs_formed (nearest before) (nearest after) gs) ≡ items_formed (strip gs) (forms before (map type_of_typed (strip gs)) after)
formed_items before after [] = refl
formed_items before after (g ∷ gs) =
    let b = type_kept g in
    let rest = ap (λ t. strip (glyphs_formed t (nearest after) gs)) (sym (nearest_front b before)) ∙ formed_items (b ∷ before) after gs in
    let here = ap (λ t. letter_form (nearest before) b t) (ap (nearest_or (nearest after)) (seen_types gs) ∙ sym (nearest_both (map type_of_typed (strip gs)) after)) in
    ap (λ n. item_formed (item_of g) n ∷ strip (glyphs_formed (nearest_past (nearest before) b) (nearest after) gs)) here
    ∙ ap (λ xs. item_formed (item_of g) (letter_form (nearest before) b (nearest (map type_of_typed (strip gs) ++ after))) ∷ xs) rest

-- ---- forms that are copied

abbrev items_copied : Option ℕ → List Item → List Item
items_copied before [] = []
items_copied before (x ∷ xs) = item_formed x (form_after before x x.auxiliary) ∷ items_copied (Some (form_after before x x.auxiliary)) xs

copied_seen : (before : Option ℕ) (gs : List hb_glyph_info_t) → strip (glyphs_copied before gs) ≡ items_copied before (strip gs)
copied_seen before [] = refl
copied_seen before (g ∷ gs) = ap (λ xs. item_formed (item_of g) (form_after before (item_of g) g.auxiliary) ∷ xs) (copied_seen (Some (form_after before (item_of g) g.auxiliary)) gs)

same_after : (before : Option ℕ) (x : Item) (f : ℕ) → form_after before (item_formed x f) f ≡ form_after before x f
same_after None x f = refl
same_after (Some n) x f = refl

copied_formed : (before : Option ℕ) (xs : List Item) (fs : List ℕ) → length fs ≡ length xs → items_copied before (items_formed xs fs) ≡ items_formed xs (forms_copied before xs fs)
copied_formed before [] fs e = refl
copied_formed before (x ∷ xs) [] e = absurd (omega (arith, e))
copied_formed before (x ∷ xs) (f ∷ fs) e =
    ap (λ n. item_formed x n ∷ items_copied (Some n) (items_formed xs fs)) (same_after before x f)
    ∙ ap (λ ys. item_formed x (form_after before x f) ∷ ys) (copied_formed (Some (form_after before x f)) xs fs (omega (arith, e)))

pub copied_length : (before : Option ℕ) (xs : List Item) (fs : List ℕ) → length fs ≡ length xs → length (forms_copied before xs fs) ≡ length xs
copied_length before [] fs e = refl
copied_length before (x ∷ xs) [] e = absurd (omega (arith, e))
copied_length before (x ∷ xs) (f ∷ fs) e = (let n = copied_length (Some (form_after before x f)) xs fs (omega (arith, e)) in omega (arith, n))

settled_seen : (mongolian : Bool) (gs : List hb_glyph_info_t) (xs : List Item) (fs : List ℕ) → length fs ≡ length xs → strip gs ≡ items_formed xs fs → strip (glyphs_settled mongolian gs) ≡ items_formed xs (settled_forms mongolian xs fs)
settled_seen true gs xs fs e h = copied_seen None gs ∙ ap (items_copied None) h ∙ copied_formed None xs fs e
settled_seen false gs xs fs e h = h

pub settled_length : (mongolian : Bool) (xs : List Item) (fs : List ℕ) → length fs ≡ length xs → length (settled_forms mongolian xs fs) ≡ length xs
settled_length true xs fs e = copied_length None xs fs e
settled_length false xs fs e = e

-- ---- masks

abbrev item_joined : List ℕ → Item → Item
item_joined masks x = with_form masks x x.auxiliary

joined_seen : (masks : List ℕ) (gs : List hb_glyph_info_t) → strip (map (glyph_joined masks) gs) ≡ map (item_joined masks) (strip gs)
joined_seen masks [] = refl
joined_seen masks (g ∷ gs) = rw (mask_above g.mask (mask_of masks g.auxiliary), joined_seen masks gs) refl

joined_formed : (masks : List ℕ) (xs : List Item) (fs : List ℕ) → length fs ≡ length xs → map (item_joined masks) (items_formed xs fs) ≡ with_forms masks xs fs
joined_formed masks [] [] e = refl
joined_formed masks [] (f ∷ fs) e = absurd (omega (arith, e))
joined_formed masks (x ∷ xs) [] e = absurd (omega (arith, e))
joined_formed masks (x ∷ xs) (f ∷ fs) e = ap (λ ys. with_form masks x f ∷ ys) (joined_formed masks xs fs (omega (arith, e)))

-- ---- items that keep their types

typed_forms : (t : Tables) (masks : List ℕ) (xs : List Item) (fs : List ℕ) → length fs ≡ length xs → with_forms masks (map (item_typed t) xs) fs ≡ with_forms masks xs fs
typed_forms t masks [] fs e = refl
typed_forms t masks (x ∷ xs) [] e = absurd (omega (arith, e))
typed_forms t masks (x ∷ xs) (f ∷ fs) e = ap (λ ys. with_form masks x f ∷ ys) (typed_forms t masks xs fs (omega (arith, e)))

typed_after : (t : Tables) (before : Option ℕ) (x : Item) (f : ℕ) → form_after before (item_typed t x) f ≡ form_after before x f
typed_after t None x f = refl
typed_after t (Some n) x f = refl

typed_copied : (t : Tables) (before : Option ℕ) (xs : List Item) (fs : List ℕ) → forms_copied before (map (item_typed t) xs) fs ≡ forms_copied before xs fs
typed_copied t before [] fs = refl
typed_copied t before (x ∷ xs) [] = refl
typed_copied t before (x ∷ xs) (f ∷ fs) =
    ap (λ n. n ∷ forms_copied (Some n) (map (item_typed t) xs) fs) (typed_after t before x f) ∙ ap (λ ns. form_after before x f ∷ ns) (typed_copied t (Some (form_after before x f)) xs fs)

typed_settled : (t : Tables) (mongolian : Bool) (xs : List Item) (fs : List ℕ) → settled_forms mongolian (map (item_typed t) xs) fs ≡ settled_forms mongolian xs fs
typed_settled t true xs fs = typed_copied t None xs fs
typed_settled t false xs fs = refl

pub forms_length : (before ts after : List JoiningType) → length (forms before ts after) ≡ length ts
forms_length before [] after = refl
forms_length before (t ∷ ts) after = (let n = forms_length (t ∷ before) ts after in omega (arith, n))

-- ---- all of it

abbrev all_joined : Bool → List ℕ → JoiningType → JoiningType → List hb_glyph_info_t → List hb_glyph_info_t
all_joined mongolian masks before after gs = map (glyph_joined masks) (glyphs_settled mongolian (glyphs_formed before after gs))

items_joined : (t : Tables) (mongolian : Bool) (masks pre post : List ℕ) (gs : List hb_glyph_info_t) (xs : List Item) → strip gs ≡ map (item_typed t) xs
    → strip (all_joined mongolian masks (nearest (types_of_characters t pre)) (nearest (types_of_characters t post)) gs) ≡ items_with_forms t mongolian masks pre post xs
items_joined t mongolian masks pre post gs xs e =
    let before = types_of_characters t pre in
    let after = types_of_characters t post in
    let ys : List Item = map (item_typed t) xs in
    let fs : List ℕ = forms before (types_of_items t xs) after in
    let len : length fs ≡ length ys = (let a = forms_length before (types_of_items t xs) after in let b = length-map xs (type_of_item t) in let c = length-map xs (item_typed t) in omega (arith, a, b, c)) in
    let here : strip (glyphs_formed (nearest before) (nearest after) gs) ≡ items_formed ys fs =
    formed_items before after gs ∙ ap (λ zs. items_formed zs (forms before (map type_of_typed zs) after)) e ∙ ap (λ ts. items_formed ys (forms before ts after)) (kept_types t xs) in
    let done = settled_seen mongolian (glyphs_formed (nearest before) (nearest after) gs) ys fs len here in
    let many = settled_length mongolian ys fs len in
    let same : length (settled_forms mongolian xs fs) ≡ length xs = settled_length mongolian xs fs (let c = length-map xs (item_typed t) in omega (arith, len, c)) in
    joined_seen masks (glyphs_settled mongolian (glyphs_formed (nearest before) (nearest after) gs))
    ∙ ap (map (item_joined masks)) done
    ∙ joined_formed masks ys (settled_forms mongolian ys fs) many
    ∙ ap (with_forms masks ys) (typed_settled t mongolian xs fs)
    ∙ typed_forms t masks xs (settled_forms mongolian xs fs) same

-- ---- where the glyphs come from

formed_origins : (before after : JoiningType) (gs : List hb_glyph_info_t) → origins (glyphs_formed before after gs) ≡ origins gs
formed_origins before after [] = refl
formed_origins before after (g ∷ gs) = ap (λ os. origin_of g ∷ os) (formed_origins (nearest_past before (type_kept g)) after gs)

copied_origins : (before : Option ℕ) (gs : List hb_glyph_info_t) → origins (glyphs_copied before gs) ≡ origins gs
copied_origins before [] = refl
copied_origins before (g ∷ gs) = ap (λ os. origin_of g ∷ os) (copied_origins (Some (form_after before (item_of g) g.auxiliary)) gs)

settled_origins : (mongolian : Bool) (gs : List hb_glyph_info_t) → origins (glyphs_settled mongolian gs) ≡ origins gs
settled_origins true gs = copied_origins None gs
settled_origins false gs = refl

flagless_mask : (masks : List ℕ) (form : ℕ) → AreFlagless masks → bit_and (mask_of masks form) 7 ≡ 0
flagless_mask [] form e = refl
flagless_mask (m ∷ ms) zero e = e.0
flagless_mask (m ∷ ms) (suc form) e = flagless_mask ms form e.1

pub joined_origin : (masks : List ℕ) (g : hb_glyph_info_t) → AreFlagless masks → origin_of (glyph_joined masks g) ≡ origin_of g
joined_origin masks g e = ap (λ n. record { cluster = g.cluster; flags = n }) (and_or_apart 7 g.mask (mask_of masks g.auxiliary) (flagless_mask masks g.auxiliary e))

masked_origins : (masks : List ℕ) (gs : List hb_glyph_info_t) → AreFlagless masks → origins (map (glyph_joined masks) gs) ≡ origins gs
masked_origins masks [] e = refl
masked_origins masks (g ∷ gs) e = rw (joined_origin masks g e, masked_origins masks gs e) refl

all_origins : (mongolian : Bool) (masks : List ℕ) (before after : JoiningType) (gs : List hb_glyph_info_t) → AreFlagless masks → origins (all_joined mongolian masks before after gs) ≡ origins gs
all_origins mongolian masks before after gs e =
    masked_origins masks (glyphs_settled mongolian (glyphs_formed before after gs)) e ∙ settled_origins mongolian (glyphs_formed before after gs) ∙ formed_origins before after gs

-- ---- the stage

pub same_many : (gs hs : List hb_glyph_info_t) → origins gs ≡ origins hs → length gs ≡ length hs
same_many gs hs e = sym (length-map gs origin_of) ∙ ap (λ (os : List Origin). length os) e ∙ length-map hs origin_of

-- the types were kept, flags set between letters, and the letters joined
joined_followed : (t : Tables) (mongolian : Bool) (masks pre post : List ℕ) (s typed flagged : Sides) (gs : List hb_glyph_info_t) → AreFlagless masks
    → IsFollowed (always (with_items_mapped (item_typed t))) s typed
    → Happens (neighbour_events (nearest (types_of_characters t pre)) None 0 (map type_of_typed (items_of typed))) typed flagged
    → gs ≡ map (glyph_joined masks) (glyphs_settled mongolian (glyphs_formed (nearest (types_of_characters t pre)) (nearest (types_of_characters t post)) (all_glyphs flagged)))
    → IsFollowed (always (letters_with_forms t mongolian masks pre post)) s (with_refilled gs flagged)
joined_followed t mongolian masks pre post s typed flagged gs none f h e =
    let before = nearest (types_of_characters t pre) in
    let after = nearest (types_of_characters t post) in
    let kept : items_of typed ≡ map (item_typed t) (items_of s) = ap (λ (r : BufferState). r.view.items) f.follows in
    let there : items_of flagged ≡ map (item_typed t) (items_of s) = ap (λ (v : View). v.items) h.view ∙ kept in
    let items : strip gs ≡ items_with_forms t mongolian masks pre post (items_of s) = ap strip e ∙ items_joined t mongolian masks pre post (all_glyphs flagged) (items_of s) there in
    let from : origins gs ≡ origins_of flagged = ap origins e ∙ all_origins mongolian masks before after (all_glyphs flagged) none in
    let b = written_becomes gs flagged (items_with_forms t mongolian masks pre post (items_of s)) (same_many gs (all_glyphs flagged) from) items from h.ready in
    let es : List Event = neighbour_events before None 0 (types_of_items t (items_of s)) in
    let types : map type_of_typed (items_of typed) ≡ types_of_items t (items_of s) = ap (map type_of_typed) kept ∙ kept_types t (items_of s) in
    let view : view_of flagged ≡ record (view_of s) { items = map (item_typed t) (items_of s) } = h.view ∙ ap (λ (r : BufferState). r.view) f.follows in
    let v : View = record (view_of s) { items = items_with_forms t mongolian masks pre post (items_of s) } in
    happened_followed es v (always (letters_with_forms t mongolian masks pre post)) s (with_refilled gs flagged)
    (b.view ∙ ap (λ (w : View). record w { items = items_with_forms t mongolian masks pre post (items_of s) }) view)
    (b.origins ∙ h.origins ∙ ap (λ ts. origins_by (neighbour_events before None 0 ts) typed) types ∙ ap (λ (r : BufferState). origins_after r.asks r.level es r.origins) f.follows)
    (b.settings ∙ h.settings ∙ f.settings)
    b.ready
    refl

pub joined_between : (t : Tables) (mongolian : Bool) (masks pre post : List ℕ) (before after : JoiningType) (s typed flagged : Sides) (gs : List hb_glyph_info_t) → AreFlagless masks
    → before ≡ nearest (types_of_characters t pre) → after ≡ nearest (types_of_characters t post)
    → IsFollowed (always (with_items_mapped (item_typed t))) s typed
    → Happens (neighbour_events before None 0 (map type_of_typed (items_of typed))) typed flagged
    → gs ≡ map (glyph_joined masks) (glyphs_settled mongolian (glyphs_formed before after (all_glyphs flagged)))
    → IsFollowed (always (letters_with_forms t mongolian masks pre post)) s (with_refilled gs flagged)
joined_between t mongolian masks pre post before after s typed flagged gs none b a f h e =
    let P : JoiningType → Type 0 = λ n. Happens (neighbour_events n None 0 (map type_of_typed (items_of typed))) typed flagged in
    joined_followed t mongolian masks pre post s typed flagged gs none f (subst P b h)
    (e ∙ ap (λ n. all_joined mongolian masks n after (all_glyphs flagged)) b ∙ ap (λ n. all_joined mongolian masks (nearest (types_of_characters t pre)) n (all_glyphs flagged)) a)
