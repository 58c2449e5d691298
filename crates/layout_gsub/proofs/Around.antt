-- What is put in place, with what is marked on both sides of the cursor.
use Rattle.std.proofs.Common.{ℕ, ◌≡◌, ◌≤◌, ◌+◌, ◌-◌, nat_le, true, false, Bool, List, [], ◌∷◌, ◌++◌, length, map, take, drop, Some, Ok, refl, sym, ap, subst, ◌∙◌, slice_get}
use Rattle.std.specs.Prelude.{slice_set, Option, Result}
use Rattle.std.proofs.lemmas.List.{length-map, map-append}
use Rattle.buffer_glyphs.specs.declared.flags.GlyphPropsFlags.{GlyphPropsFlags}
use Rattle.buffer_glyphs.specs.declared.info.hb_glyph_info_t.{hb_glyph_info_t}
use Rattle.buffer_glyphs.specs.Items.{Item, item_of, strip}
use Rattle.buffer_glyphs.specs.Origins.{origins, origin_of}
use Rattle.buffer_glyphs.specs.Events.{Event, Break, Concat}
use Rattle.buffer_core.specs.Sides.{Sides}
use Rattle.buffer_core.specs.Lending.{with_glyph_ahead}
use Rattle.layout_face.specs.declared.parts.GlyphDefinition.{GlyphDefinition}
use Rattle.layout_common.specs.Rows.{value_of}
use Rattle.layout_tables.specs.declared.reverse.ReverseChainSubst.{ReverseChainSubst}
use Rattle.layout_match.specs.Applied.{ApplyContext}
use Rattle.layout_match.specs.Sequences.{is_covered_by}
use Rattle.buffer_stages.specs.Actions.{Cut, Outcome, Acts, Action, at_first, attempt_around}
use Rattle.buffer_stages.specs.Buffers.{cut_of, are_glyphs, IsPassed}
use Rattle.buffer_stages.specs.Performing.{IsPutWithoutOutput, PerformsWithoutOutput}
use Rattle.buffer_stages.proofs.Lemmas.Frames.{then_happened, still_settings, same_numbers}
use Rattle.buffer_stages.proofs.Lemmas.Glyphs.{all_of_both, all_of_front, all_of_back, all_dropped, first_item}
use Rattle.layout_gsub.specs.Replacements.{substituted_item, substituted_props}
use Rattle.layout_gsub.specs.Reverses.{reverse_after_lookahead, reverse_substitution, reverse_after_backtrack, cut_with_substitute_kept, reverse_subtable}
use Rattle.layout_gsub.proofs.Replaced.{substituted_numbers}

-- ---- in place

-- the glyph at the cursor under another number, with other properties
abbrev pub put : ℕ → GlyphPropsFlags → hb_glyph_info_t → hb_glyph_info_t
put n p g = record g { glyph_id = n; glyph_props = p }

put_items : (gdef : GlyphDefinition) (n : ℕ) (p : GlyphPropsFlags) (gs : List hb_glyph_info_t) (g : hb_glyph_info_t) → slice_get gs 0 ≡ Some g → p.0 ≡ substituted_props gdef n g.glyph_props.0
    → strip (slice_set gs 0 (put n p g)) ≡ map (substituted_item gdef n) (take 1 (strip gs)) ++ drop 1 (strip gs)
put_items gdef n p [] g at is = cc
put_items gdef n p (h ∷ gs) g at is =
    let same : h ≡ g = cc in
    rw same (ap (λ k. record (item_of g) { number = n; glyph_props = k } ∷ strip gs) is)

put_origins : (n : ℕ) (p : GlyphPropsFlags) (gs : List hb_glyph_info_t) (g : hb_glyph_info_t) → slice_get gs 0 ≡ Some g → origins (slice_set gs 0 (put n p g)) ≡ origins gs
put_origins n p [] g at = cc
put_origins n p (h ∷ gs) g at = let same : h ≡ g = cc in rw same refl

pub glyph_in_place : (gdef : GlyphDefinition) (n : ℕ) (p : GlyphPropsFlags) (s new : Sides) (g : hb_glyph_info_t) → slice_get s.ahead 0 ≡ Some g → n ≤ 65535 → p.0 ≡ substituted_props gdef n g.glyph_props.0 → new ≡ with_glyph_ahead 0 (put n p g) s
    → PerformsWithoutOutput (Acts (cut_with_substitute_kept gdef n (cut_of s)) []) true s new
glyph_in_place gdef n p s new g at le is there =
    let t = with_glyph_ahead 0 (put n p g) s in
    let c = cut_of s in
    let items = put_items gdef n p s.ahead g at is in
    let q : Item → Bool = λ y. nat_le y.number 65535 in
    let P : Sides → Type 0 = λ u. IsPutWithoutOutput (cut_with_substitute_kept gdef n c) [] s u in
    let made : P t = record {
      cut_is = ap (λ (xs : List Item). record c { rest = xs }) items;
      happened = map-append origin_of s.behind t.ahead ∙ ap (λ os. origins s.behind ++ os) (put_origins n p s.ahead g at) ∙ sym (map-append origin_of s.behind s.ahead);
      still = refl;
      read = refl;
      positions = refl;
      numbers = λ h.
          let before = ap are_glyphs (sym (map-append item_of s.behind s.ahead)) ∙ h in
          ap are_glyphs (map-append item_of s.behind t.ahead ∙ ap (λ xs. strip s.behind ++ xs) items)
          ∙ all_of_both q (strip s.behind) (map (substituted_item gdef n) (take 1 (strip s.ahead)) ++ drop 1 (strip s.ahead)) (all_of_front q (strip s.behind) (strip s.ahead) before)
          (all_of_both q (map (substituted_item gdef n) (take 1 (strip s.ahead))) (drop 1 (strip s.ahead)) (substituted_numbers gdef n (strip s.ahead) le) (all_dropped q 1 (strip s.ahead) (all_of_back q (strip s.behind) (strip s.ahead) before)));
    } in
    (refl, subst P (sym there) made)

-- ---- the rule

front_count : (s : Sides) → length s.behind ≡ length (cut_of s).front
front_count s = sym (length-map s.behind item_of)

pub attempt_performed : (back ahead : ℕ) (s new : Sides) → IsPassed (Concat (length s.behind - back) (length s.behind + ahead) ∷ []) s new → PerformsWithoutOutput (attempt_around back ahead (cut_of s)) false s new
attempt_performed back ahead s new p =
    let P : ℕ → Type 0 = λ k. IsPassed (Concat (k - back) (k + ahead) ∷ []) s new in
    (refl, subst P (front_count s) p)

then_put : (es : List Event) (cut : Cut) (a b c : Sides) → IsPassed es a b → IsPutWithoutOutput cut [] b c → IsPutWithoutOutput cut (es ++ []) a c
then_put es cut a b c f g = record {
  cut_is = g.cut_is;
  happened = then_happened es [] a b c (still_settings a b f.still) f.happened g.happened;
  still = g.still ∙ f.still;
  read = g.read ∙ f.read;
  positions = g.positions ∙ ap (λ (c : Cut). c.positions) f.cut_is;
  numbers = λ h. g.numbers (ap are_glyphs (same_numbers a b f.cut_is) ∙ h);
}

pub reverse_performed : (a : ApplyContext) (t : ReverseChainSubst) (n : ℕ) (o : Option ℕ) (acted : Bool) (s new : Sides) (g : hb_glyph_info_t) → slice_get s.ahead 0 ≡ Some g → n ≡ g.glyph_id → value_of n t.rows ≡ o
    → PerformsWithoutOutput (reverse_substitution a (map is_covered_by t.backtrack) (map is_covered_by t.lookahead) o (cut_of s)) acted s new → PerformsWithoutOutput (reverse_subtable a t (cut_of s)) acted s new
reverse_performed a t n o acted s new g at is row d =
    let act : Item → Action = λ x. reverse_substitution a (map is_covered_by t.backtrack) (map is_covered_by t.lookahead) (value_of x.number t.rows) in
    let here : reverse_subtable a t (cut_of s) ≡ act (item_of g) (cut_of s) = ap (λ q. at_first act q (cut_of s)) (first_item s.ahead g at) in
    let same : reverse_subtable a t (cut_of s) ≡ reverse_substitution a (map is_covered_by t.backtrack) (map is_covered_by t.lookahead) o (cut_of s) =
    here ∙ ap (λ m. reverse_substitution a (map is_covered_by t.backtrack) (map is_covered_by t.lookahead) (value_of m t.rows) (cut_of s)) (sym is) ∙ ap (λ q. reverse_substitution a (map is_covered_by t.backtrack) (map is_covered_by t.lookahead) q (cut_of s)) row in
    let P : Outcome → Type 0 = λ q. PerformsWithoutOutput q acted s new in
    subst P (sym same) d

-- what is known of the search after the cursor decides
pub after_performed : (a : ApplyContext) (glyph : ℕ) (backtrack : List (Item → Bool)) (found given : Result ℕ ℕ) (acted : Bool) (s new : Sides) → given ≡ found → PerformsWithoutOutput (reverse_after_lookahead a glyph backtrack given (cut_of s)) acted s new → PerformsWithoutOutput (reverse_after_lookahead a glyph backtrack found (cut_of s)) acted s new
after_performed a glyph backtrack found given acted s new e d = let P : Result ℕ ℕ → Type 0 = λ r. PerformsWithoutOutput (reverse_after_lookahead a glyph backtrack r (cut_of s)) acted s new in subst P e d
