-- The indices of a match that was found.
use Rattle.std.proofs.Common.{ℕ, ◌≡◌, ◌≤◌, ◌+◌, ◌-◌, List, [], ◌∷◌, length, take, drop, refl, sym, ap, subst, ◌∙◌, arith, Ok, Err, Some, slice_get}
use Rattle.std.specs.Prelude.{Result, Bool, Option}
use Rattle.std.proofs.lemmas.List.{take_all}
use Rattle.buffer_glyphs.specs.declared.cause.ShapeCause.{ShapeCause}
use Rattle.buffer_glyphs.specs.declared.info.hb_glyph_info_t.{hb_glyph_info_t}
use Rattle.buffer_core.specs.Sides.{Sides}
use Rattle.layout_tables.specs.Layout.{LigatureSetTable, ligature_set_of}
use Rattle.layout_match.specs.Applied.{ApplyContext}
use Rattle.layout_match.specs.Searches.{Search}
use Rattle.buffer_stages.specs.Actions.{Outcome}
use Rattle.buffer_stages.specs.Performing.{cut_with, Performs}
use Rattle.layout_gsub.specs.Ligating.{ligature_subst, ligatures_over}
use Rattle.layout_gsub.proofs.Tested.{first_tried}
use Rattle.buffer_glyphs.specs.Items.{Item}
use Rattle.layout_match.specs.declared.search.match_t.{match_t}
use Rattle.layout_match.specs.declared.search.match_t.TheVariants.{MATCH, SKIP, NOT_MATCH}
use Rattle.layout_match.specs.Matches.{answers_of, by_answer, indices, input_end, input_indices, nearest, nearest_from, sequence_end, then_sequence_end, with_index}
use Rattle.layout_gsub.specs.Uniting.{AreRising, end_of}

pub by_found : (m : match_t) (at i : ℕ) (r : Result ℕ ℕ) → (r ≡ Ok i → at + 1 ≤ i) → by_answer m at r ≡ Ok i → at ≤ i
by_found MATCH at i r h e = let same : at ≡ i = cc in omega (arith, same)
by_found NOT_MATCH at i r h e = cc
by_found SKIP at i r h e = let le = h e in omega (arith, le)

-- the nearest stands at the first or after it
nearest_after : (ask : Item → match_t) (at i : ℕ) (xs : List Item) → nearest ask at xs ≡ Ok i → at ≤ i
nearest_after ask at i [] e = cc
nearest_after ask at i (x ∷ xs) e = by_found (ask x) at i (nearest ask (at + 1) xs) (λ h. nearest_after ask (at + 1) i xs h) e

pub record AreFound (at end : ℕ) (places : List ℕ) : Type 0 where
  pub rising : AreRising at places
  pub end_is : end ≡ end_of at places

-- the indices rise, and the match ends after the last
found_one : (r : Result ℕ ℕ) (asks : List (Item → match_t)) (at end : ℕ) (xs : List Item) → ((i : ℕ) → r ≡ Ok i → at ≤ i) → ((next : ℕ) → sequence_end asks next xs ≡ Ok end → AreFound next end (indices asks next xs))
    → then_sequence_end r (λ next. sequence_end asks next xs) ≡ Ok end → AreFound at end (with_index r (λ next. indices asks next xs))
found_one (Ok i) asks at end xs le rest e = let f = rest (i + 1) e in record { rising = (le i refl, f.rising); end_is = f.end_is }
found_one (Err n) asks at end xs le rest e = cc

pub match_found : (asks : List (Item → match_t)) (at end : ℕ) (xs : List Item) → sequence_end asks at xs ≡ Ok end → AreFound at end (indices asks at xs)
match_found [] at end xs e = let same : at ≡ end = cc in record { rising = tt; end_is = sym same }
match_found (ask ∷ asks) at end xs e = found_one (nearest_from ask at xs) asks at end xs (λ i h. nearest_after ask at i (drop at xs) h) (λ next h. match_found asks next end xs h) e

others_of : (places rest : List ℕ) → places ≡ 0 ∷ rest → take (length places - 1) (drop 1 places) ≡ rest
others_of places rest is =
    let count : length (0 ∷ rest) - 1 ≡ length rest = omega arith in
    let all : length rest ≤ length rest = omega arith in
    ap (λ (ns : List ℕ). take (length ns - 1) (drop 1 ns)) is ∙ ap (λ n. take n rest) count ∙ take_all (length rest) rest all

-- those of an input but for its first
pub input_found : (search : Search) (tests : List (Item → Bool)) (xs : List Item) (end : ℕ) (places : List ℕ) → Ok end ≡ input_end search tests xs → places ≡ input_indices search tests xs → AreFound 1 end (take (length places - 1) (drop 1 places))
input_found search tests xs end places found are =
    let P : List ℕ → Type 0 = AreFound 1 end in
    subst P (sym (others_of places (indices (answers_of search tests) 1 xs) are)) (match_found (answers_of search tests) 1 end xs (sym found))

-- a subtable tries the ligatures of the glyph at the cursor
pub ligatures_perform : (a : ApplyContext) (sets : List LigatureSetTable) (r after : ℕ) (s new : Sides) (g : hb_glyph_info_t) (n : ℕ) (o : Option LigatureSetTable) (result : Result Bool ShapeCause) → slice_get s.ahead 0 ≡ Some g → n ≡ g.glyph_id → ligature_set_of n sets ≡ o
    → Performs (ligatures_over a o (cut_with r s)) result r after s new → Performs (ligature_subst a sets (cut_with r s)) result r after s new
ligatures_perform a sets r after s new g n o result at is row d =
    let here = first_tried (λ (y : Item). ligatures_over a (ligature_set_of y.number sets)) r s g at in
    let same : ligature_subst a sets (cut_with r s) ≡ ligatures_over a o (cut_with r s) = here ∙ ap (λ m. ligatures_over a (ligature_set_of m sets) (cut_with r s)) (sym is) ∙ ap (λ p. ligatures_over a p (cut_with r s)) row in
    let P : Outcome → Type 0 = λ q. Performs q result r after s new in
    subst P (sym same) d
