-- What a glyph in the place of another does to a buffer.
use Rattle.std.proofs.Common.{ℕ, ◌≡◌, ◌≤◌, ◌<◌, ◌+◌, true, false, nat_le, Bool, List, [], ◌∷◌, ◌++◌, length, map, take, drop, refl, sym, ap, ◌∙◌, arith, Some, slice_get}
use Rattle.std.specs.Prelude.{slice_set}
use Rattle.std.proofs.lemmas.List.{map-append, length-append, length-map}
use Rattle.std.proofs.lemmas.Bool.Decides.{nat_tests}
use Rattle.buffer_glyphs.specs.declared.flags.GlyphPropsFlags.{GlyphPropsFlags}
use Rattle.buffer_glyphs.specs.declared.info.hb_glyph_info_t.{hb_glyph_info_t}
use Rattle.buffer_glyphs.specs.Items.{Item, item_of, strip}
use Rattle.buffer_glyphs.specs.Origins.{origins, origin_of}
use Rattle.buffer_glyphs.specs.Replacements.{glyph_numbered}
use Rattle.buffer_glyphs.specs.declared.cause.ShapeCause.TheVariants.{TooLong}
use Rattle.buffer_core.specs.Sides.{Sides, items_of, origins_of, has_output_room}
use Rattle.buffer_core.specs.Lending.{with_glyph_ahead}
use Rattle.buffer_core.specs.Merging.{with_replaced_glyph}
use Rattle.layout_face.specs.declared.parts.GlyphDefinition.{GlyphDefinition}
use Rattle.buffer_stages.specs.Actions.{Cut, whole, Outcome, Acts, Refuses, within_limit}
use Rattle.buffer_stages.specs.Buffers.{cut_of, are_glyphs, frame_of, IsRead, IsActed}
use Rattle.buffer_stages.proofs.Lemmas.Glyphs.{all_of_both, all_of_front, all_of_back, all_dropped}
use Rattle.buffer_stages.specs.Performing.{cut_with, IsPerformed}
use Rattle.buffer_stages.proofs.Lemmas.Performed.{made_of_acted}
use Rattle.layout_gsub.specs.Replacements.{substituted_item, substituted_props, single_substitution}
use Rattle.layout_gsub.specs.LigatureReplacement.{guessed_ligature_props, ligature_replacement}
use Rattle.buffer_facts.proofs.Truth.{and_true as and_both}

-- the glyph at the cursor with other properties
abbrev pub recast : GlyphPropsFlags → hb_glyph_info_t → hb_glyph_info_t
recast p g = record g { glyph_props = p }

-- an item with another number, and with properties made of its own
abbrev pub recast_item : (ℕ → ℕ) → ℕ → Item → Item
recast_item f n x = record x { number = n; glyph_props = f x.glyph_props }

-- the cut where the item was replaced by such a one, and is done
abbrev pub recast_cut : (ℕ → ℕ) → ℕ → Cut → Cut
recast_cut f n c = record c { front = c.front ++ map (recast_item f n) (take 1 c.rest); rest = drop 1 c.rest }

taken_item : (f : ℕ → ℕ) (n : ℕ) (p : GlyphPropsFlags) (gs : List hb_glyph_info_t) (g : hb_glyph_info_t) → slice_get gs 0 ≡ Some g → p.0 ≡ f g.glyph_props.0
    → strip (map (λ (h : hb_glyph_info_t). glyph_numbered h n) (take 1 (slice_set gs 0 (recast p g)))) ≡ map (recast_item f n) (take 1 (strip gs))
taken_item f n p [] g at is = cc
taken_item f n p (h ∷ gs) g at is =
    let same : h ≡ g = cc in
    rw (same) (ap (λ k. record (item_of g) { number = n; glyph_props = k } ∷ []) is)

left_items : (p : GlyphPropsFlags) (gs : List hb_glyph_info_t) (g : hb_glyph_info_t) → strip (drop 1 (slice_set gs 0 (recast p g))) ≡ drop 1 (strip gs)
left_items p [] g = refl
left_items p (h ∷ gs) g = refl

left_count : (p : GlyphPropsFlags) (gs : List hb_glyph_info_t) (g : hb_glyph_info_t) → 0 < length gs → length (drop 1 (slice_set gs 0 (recast p g))) + 1 ≡ length gs
left_count p [] g lt = absurd (omega (arith, lt))
left_count p (h ∷ gs) g lt = omega arith

taken_count : (n : ℕ) (gs : List hb_glyph_info_t) → length (map (λ (h : hb_glyph_info_t). glyph_numbered h n) (take 1 gs)) ≤ 1
taken_count n [] = omega arith
taken_count n (h ∷ gs) = omega arith

same_origins : (p : GlyphPropsFlags) (gs : List hb_glyph_info_t) (g : hb_glyph_info_t) → slice_get gs 0 ≡ Some g → origins (slice_set gs 0 (recast p g)) ≡ origins gs
same_origins p [] g at = cc
same_origins p (h ∷ gs) g at = let same : h ≡ g = cc in rw same refl

recast_numbers : (f : ℕ → ℕ) (n : ℕ) (xs : List Item) → n ≤ 65535 → are_glyphs (map (recast_item f n) (take 1 xs)) ≡ true
recast_numbers f n [] le = refl
recast_numbers f n (x ∷ xs) le = and_both (nat_le n 65535) true (grind (arith, nat_tests, le)) refl

pub substituted_numbers : (gdef : GlyphDefinition) (n : ℕ) (xs : List Item) → n ≤ 65535 → are_glyphs (map (substituted_item gdef n) (take 1 xs)) ≡ true
substituted_numbers gdef n xs le = recast_numbers (substituted_props gdef n) n xs le

numbers_kept : (f : ℕ → ℕ) (n : ℕ) (front rest : List Item) → n ≤ 65535 → are_glyphs (front ++ rest) ≡ true → are_glyphs ((front ++ map (recast_item f n) (take 1 rest)) ++ drop 1 rest) ≡ true
numbers_kept f n front rest le e =
    let p : Item → Bool = λ x. nat_le x.number 65535 in
    all_of_both p (front ++ map (recast_item f n) (take 1 rest)) (drop 1 rest) (all_of_both p front (map (recast_item f n) (take 1 rest)) (all_of_front p front rest e) (recast_numbers f n rest le)) (all_dropped p 1 rest (all_of_back p front rest e))

replaced_cut : (f : ℕ → ℕ) (n : ℕ) (p : GlyphPropsFlags) (s : Sides) (g : hb_glyph_info_t) → slice_get s.ahead 0 ≡ Some g → p.0 ≡ f g.glyph_props.0
    → cut_of (with_replaced_glyph n (with_glyph_ahead 0 (recast p g) s)) ≡ recast_cut f n (cut_of s)
replaced_cut f n p s g at is =
    let put = map (λ (h : hb_glyph_info_t). glyph_numbered h n) (take 1 (slice_set s.ahead 0 (recast p g))) in
    let front : strip (s.behind ++ put) ≡ strip s.behind ++ map (recast_item f n) (take 1 (strip s.ahead)) = map-append item_of s.behind put ∙ ap (λ xs. strip s.behind ++ xs) (taken_item f n p s.ahead g at is) in
    ap (λ (xs : List Item). record (cut_of s) { front = xs; rest = strip (drop 1 (slice_set s.ahead 0 (recast p g))) }) front
    ∙ ap (λ (xs : List Item). record (cut_of s) { front = strip s.behind ++ map (recast_item f n) (take 1 (strip s.ahead)); rest = xs }) (left_items p s.ahead g)

glyph_acted : (f : ℕ → ℕ) (n : ℕ) (p : GlyphPropsFlags) (s mid new : Sides) (g : hb_glyph_info_t) → slice_get s.ahead 0 ≡ Some g → 0 < length s.ahead → n ≤ 65535 → p.0 ≡ f g.glyph_props.0
    → mid ≡ with_glyph_ahead 0 (recast p g) s → new ≡ with_replaced_glyph n mid → origins_of new ≡ origins_of mid → IsActed (recast_cut f n (cut_of s)) [] s new
glyph_acted f n p s mid new g at some le is there after followed =
    let same : new ≡ with_replaced_glyph n (with_glyph_ahead 0 (recast p g) s) = after ∙ ap (with_replaced_glyph n) there in
    let cut = replaced_cut f n p s g at is in
    let ahead = slice_set s.ahead 0 (recast p g) in
    let put = map (λ (h : hb_glyph_info_t). glyph_numbered h n) (take 1 ahead) in
    let left = left_count p s.ahead g some in
    let more = taken_count n ahead in
    let long = length-append s.behind put in
    let counts : IsRead s (with_replaced_glyph n (with_glyph_ahead 0 (recast p g) s)) = record { forth = omega arith; total = omega (arith, left); front = omega (arith, more, long); kept = omega (arith, long) } in
    let start : origins_of mid ≡ origins_of s = ap origins_of there ∙ map-append origin_of s.behind ahead ∙ ap (λ os. origins s.behind ++ os) (same_origins p s.ahead g at) ∙ sym (map-append origin_of s.behind s.ahead) in
    let items : items_of new ≡ (strip s.behind ++ map (recast_item f n) (take 1 (strip s.ahead))) ++ drop 1 (strip s.ahead) = map-append item_of new.behind new.ahead ∙ ap whole (ap cut_of same ∙ cut) in
    record {
      cut_is = ap cut_of same ∙ cut;
      happened = followed ∙ start;
      still = ap frame_of same;
      counts = rw same counts;
      numbers = λ e. ap are_glyphs items ∙ numbers_kept f n (strip s.behind) (strip s.ahead) le (ap are_glyphs (sym (map-append item_of s.behind s.ahead)) ∙ e);
    }

-- the limit of a cut is that of its buffer
pub limit_of : (n r : ℕ) (s : Sides) → nat_le (length (cut_with r s).front + n) (cut_with r s).max_len ≡ has_output_room n s
limit_of n r s = ap (λ k. nat_le (k + n) s.max_len) (length-map s.behind item_of)

-- within the limit a rule acts, past it it gives up
pub acts_within : (n r after : ℕ) (o : Outcome) (acted : Bool) (s new : Sides) → has_output_room n s ≡ true → IsPerformed o acted r after s new → IsPerformed (within_limit n (cut_with r s) o) acted r after s new
acts_within n r after o acted s new room d = rw (limit_of n r s ∙ room) d

pub refuses_past : (n r : ℕ) (o : Outcome) (s : Sides) → has_output_room n s ≡ false → within_limit n (cut_with r s) o ≡ Refuses TooLong
refuses_past n r o s full = rw (limit_of n r s ∙ full) refl

-- a glyph in the place of another, with properties made of the other's, is what the rule makes of the cut
pub recast_performed : (f : ℕ → ℕ) (n r : ℕ) (p : GlyphPropsFlags) (s mid new : Sides) (g : hb_glyph_info_t) → slice_get s.ahead 0 ≡ Some g → 0 < length s.ahead → n ≤ 65535 → p.0 ≡ f g.glyph_props.0
    → mid ≡ with_glyph_ahead 0 (recast p g) s → has_output_room 1 mid ≡ true → new ≡ with_replaced_glyph n mid → origins_of new ≡ origins_of mid
    → IsPerformed (within_limit 1 (cut_with r s) (Acts (recast_cut f n (cut_with r s)) [])) true r r s new
recast_performed f n r p s mid new g at some le is there room after followed =
    let made = made_of_acted (recast_cut f n (cut_of s)) [] r s new (glyph_acted f n p s mid new g at some le is there after followed) in
    acts_within 1 r r (Acts (recast_cut f n (cut_with r s)) []) true s new (ap (has_output_room 1) (sym there) ∙ room) (refl, made)

pub glyph_performed : (gdef : GlyphDefinition) (n r : ℕ) (p : GlyphPropsFlags) (s mid new : Sides) (g : hb_glyph_info_t) → slice_get s.ahead 0 ≡ Some g → 0 < length s.ahead → n ≤ 65535 → p.0 ≡ substituted_props gdef n g.glyph_props.0
    → mid ≡ with_glyph_ahead 0 (recast p g) s → has_output_room 1 mid ≡ true → new ≡ with_replaced_glyph n mid → origins_of new ≡ origins_of mid → IsPerformed (single_substitution gdef (Some n) (cut_with r s)) true r r s new
glyph_performed gdef n r p s mid new g at some le is there room after followed =
    recast_performed (substituted_props gdef n) n r p s mid new g at some le is there room after followed

pub ligature_performed : (gdef : GlyphDefinition) (n guess r : ℕ) (p : GlyphPropsFlags) (s mid new : Sides) (g : hb_glyph_info_t) → slice_get s.ahead 0 ≡ Some g → 0 < length s.ahead → n ≤ 65535 → p.0 ≡ guessed_ligature_props gdef n guess g.glyph_props.0
    → mid ≡ with_glyph_ahead 0 (recast p g) s → has_output_room 1 mid ≡ true → new ≡ with_replaced_glyph n mid → origins_of new ≡ origins_of mid → IsPerformed (ligature_replacement gdef n guess (cut_with r s)) true r r s new
ligature_performed gdef n guess r p s mid new g at some le is there room after followed =
    recast_performed (guessed_ligature_props gdef n guess) n r p s mid new g at some le is there room after followed
