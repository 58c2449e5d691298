-- The glyphs beside the cursor.
use Rattle.std.proofs.Common.{ℕ, ◌≡◌, ◌≤◌, Bool, false, List, length, reverse, Some, None, refl, sym, subst, ◌∙◌}
use Rattle.std.proofs.lemmas.List.{length-reverse}
use Rattle.buffer_glyphs.specs.Lemmas.EventParts.{map-reverse}
use Rattle.buffer_glyphs.specs.declared.info.hb_glyph_info_t.{hb_glyph_info_t}
use Rattle.buffer_glyphs.specs.Items.{Item, item_of, strip}
use Rattle.layout_common.specs.declared.neighbours.Neighbour.{Neighbour}
use Rattle.layout_common.specs.declared.neighbours.Neighbour.TheVariants.{Unknown, Missing, Glyph}
use Rattle.layout_match.specs.declared.next_glyph.NextGlyph.TheVariants.{Found}
use Rattle.layout_match.specs.Next.{IsAdmitted, IsBeside, IsKnown}
use Rattle.layout_match.specs.Searches.{Search, is_skippable}
use Rattle.layout_match.proofs.Next.{GoesOn, decides_found, found_told, none_admitted, visible_shown}

pub none_admitted_behind : (props : ℕ) (sets : List (List ℕ)) (from at : ℕ) (gs : List hb_glyph_info_t) → length gs ≡ at → GoesOn props sets from at (strip (reverse gs)) → IsAdmitted None props sets from (strip (reverse gs))
none_admitted_behind props sets from at gs e on = none_admitted props sets from at (reverse gs) (length-reverse gs ∙ e) on

pub nothing_known : (s : Search) (from : ℕ) (xs : List Item) → IsBeside Unknown s from xs
nothing_known s from xs = tt

pub missing_there : (s : Search) (from : ℕ) (xs : List Item) → IsAdmitted None s.props s.sets from xs → IsBeside Missing s from xs
missing_there s from xs none test = none s test refl refl

-- of a glyph that the lookup flag admits
pub known_there : (n : Neighbour) (s : Search) (from : ℕ) (xs : List Item) (info : hb_glyph_info_t) → IsAdmitted (Some info) s.props s.sets from xs → IsKnown n (item_of info) → IsBeside n s from xs
known_there Unknown s from xs info admitted known = tt
known_there Missing s from xs info admitted known = absurd known
known_there (Glyph g) s from xs info admitted known = λ test other.
    let shown : is_skippable s (item_of info) ≡ false = visible_shown s (item_of info) known.0 in
    found_told (Found info) s from xs info admitted (decides_found s info shown) test (other (item_of info) known.1)

-- before the cursor
pub missing_behind : (s : Search) (gs : List hb_glyph_info_t) → IsAdmitted None s.props s.sets 0 (strip (reverse gs)) → IsBeside Missing s 0 (reverse (strip gs))
missing_behind s gs none = subst (λ xs. IsBeside Missing s 0 xs) (map-reverse item_of gs) (missing_there s 0 (strip (reverse gs)) none)

pub known_behind : (n : Neighbour) (s : Search) (gs : List hb_glyph_info_t) (info : hb_glyph_info_t) → IsAdmitted (Some info) s.props s.sets 0 (strip (reverse gs)) → IsKnown n (item_of info) → IsBeside n s 0 (reverse (strip gs))
known_behind n s gs info admitted known = subst (λ xs. IsBeside n s 0 xs) (map-reverse item_of gs) (known_there n s 0 (strip (reverse gs)) info admitted known)
