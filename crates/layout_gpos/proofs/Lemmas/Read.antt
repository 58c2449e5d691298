-- What searches read, and the numbers of glyphs.
use Rattle.std.proofs.Common.{ℕ, zero, suc, ◌≡◌, ◌≤◌, ◌+◌, nat_le, true, List, [], ◌∷◌, Some, Ok, Err, length, drop, reverse, arith, sym, ap, ◌∙◌, slice_get}
use Rattle.std.proofs.lemmas.Grind.{common_steps}
use Rattle.std.proofs.lemmas.Bool.Decides.{nat_tests}
use Rattle.std.proofs.lemmas.List.{length-drop, length-reverse, length-map, map-append}
use Rattle.std.proofs.lemmas.Option.{slice_get-map}
use Rattle.std.specs.Option.{option_map}
use Rattle.buffer_glyphs.specs.declared.info.hb_glyph_info_t.{hb_glyph_info_t}
use Rattle.buffer_glyphs.specs.Items.{Item, item_of, strip}
use Rattle.buffer_core.specs.Sides.{Sides, items_of}
use Rattle.layout_match.specs.declared.search.match_t.{match_t}
use Rattle.layout_match.specs.declared.search.match_t.TheVariants.{MATCH, SKIP, NOT_MATCH}
use Rattle.layout_match.specs.Matches.{by_answer, nearest, nearest_from}
use Rattle.buffer_stages.specs.Buffers.{are_glyphs}
use Rattle.buffer_stages.proofs.Lemmas.Glyphs.{all_of_back}
use Rattle.layout_match.proofs.Lemmas.Idle.{number_at as number_in}

-- ---- a search that fails reads no further than the list goes

read_within : (ask : Item → match_t) (at end : ℕ) (xs : List Item) → nearest ask at xs ≡ Err end → end ≤ at + length xs
read_within ask at end [] e = let same : at ≡ end = cc in omega (arith, same)
read_within ask at end (x ∷ xs) e = by_first (ask x) e (λ f. read_within ask (at + 1) end xs f)
  where
    by_first : (m : match_t) → by_answer m at (nearest ask (at + 1) xs) ≡ Err end → (nearest ask (at + 1) xs ≡ Err end → end ≤ at + 1 + length xs) → end ≤ at + suc (length xs)
    by_first MATCH f rest = cc
    by_first NOT_MATCH f rest = let same : at + 1 ≡ end = cc in omega (arith, same)
    by_first SKIP f rest = let le = rest f in omega (arith, le)

pub read_inside : (ask : Item → match_t) (from end : ℕ) (gs : List hb_glyph_info_t) → from ≤ length gs → nearest_from ask from (strip gs) ≡ Err end → end ≤ length gs
read_inside ask from end gs le e =
    let far = read_within ask from end (drop from (strip gs)) e in
    let len = length-drop from (strip gs) in
    let same = length-map gs item_of in
    omega (arith, far, len, same, le)

-- ---- numbers

-- ---- what is found stands no earlier than where the search began

found_from : (ask : Item → match_t) (at k : ℕ) (xs : List Item) → nearest ask at xs ≡ Ok k → at ≤ k
found_from ask at k [] e = cc
found_from ask at k (x ∷ xs) e = by_first (ask x) e (λ f. found_from ask (at + 1) k xs f)
  where
    by_first : (m : match_t) → by_answer m at (nearest ask (at + 1) xs) ≡ Ok k → (nearest ask (at + 1) xs ≡ Ok k → at + 1 ≤ k) → at ≤ k
    by_first MATCH f rest = let same : at ≡ k = cc in omega (arith, same)
    by_first NOT_MATCH f rest = cc
    by_first SKIP f rest = let le = rest f in omega (arith, le)

pub found_ahead : (ask : Item → match_t) (from k : ℕ) (xs : List Item) → nearest_from ask from xs ≡ Ok k → from ≤ k
found_ahead ask from k xs e = found_from ask from k (drop from xs) e

-- ---- the same backward

pub read_back : (ask : Item → match_t) (end : ℕ) (gs : List hb_glyph_info_t) → nearest_from ask 0 (reverse (strip gs)) ≡ Err end → end ≤ length gs
read_back ask end gs e =
    let far = read_within ask 0 end (reverse (strip gs)) e in
    let long = length-reverse (strip gs) in
    let same = length-map gs item_of in
    omega (arith, far, long, same)
