-- Positions that are written in a scale.
use Rattle.std.proofs.Common.{ℕ, ◌≡◌, ◌<◌, ◌+◌, ◌-◌, List, [], ◌∷◌, ◌++◌, length, take, drop, get_or, set, refl, sym, ap, subst, ◌∙◌, arith}
use Rattle.std.specs.Prelude.{min}
use Rattle.std.proofs.lemmas.List.{append_assoc, drop_min, drop_more, length-set, length-take, set_at, take_min, take_more}
use Rattle.buffer_glyphs.specs.declared.info.hb_glyph_info_t.{hb_glyph_info_t}
use Rattle.buffer_glyphs.specs.Items.{Position}
use Rattle.c_text.specs.declared.scale.Multipliers.{Multipliers}
use Rattle.c_text.specs.declared.scale.Pens.{Pens}
use Rattle.c_text.specs.declared.scale.TheConstants.{NO_PENS}
use Rattle.c_text.specs.declared.types.kus_glyph_position_t.{kus_glyph_position_t}
use Rattle.c_text.specs.Scale.{pens_after, pens_at, positions_from, scaled_position, scaled_positions}
use Rattle.c_text.specs.Written.{with_front}

-- as many positions as glyphs
pub length_scaled : (by : Multipliers) (before : ℕ) (pens : Pens) (gs : List hb_glyph_info_t) (ps : List Position) → length gs ≡ length ps → length (positions_from by before pens gs ps) ≡ length ps
length_scaled by before pens [] [] e = refl
length_scaled by before pens [] (p ∷ ps) e = e
length_scaled by before pens (g ∷ gs) [] e = refl
length_scaled by before pens (g ∷ gs) (p ∷ ps) e =
    let rest : length gs ≡ length ps = omega (arith, e) in
    let is = length_scaled by g.cluster (pens_after by (pens_at before g.cluster pens) p) gs ps rest in omega (arith, is)

-- the first positions are written, and those that are left follow from the pens
pub record IsWrittenTo (by : Multipliers) (gs : List hb_glyph_info_t) (ps : List Position) (old room : List kus_glyph_position_t) (k before : ℕ) (pens : Pens) : Type 0 where
  pub written : room ≡ take k (scaled_positions by gs ps) ++ drop k old
  pub long : length room ≡ length old
  pub left : drop k (scaled_positions by gs ps) ≡ positions_from by before pens (drop k gs) (drop k ps)

module _ (by : Multipliers) (gs : List hb_glyph_info_t) (ps : List Position) (old room : List kus_glyph_position_t) (k before : ℕ) (pens : Pens) where
  pub written_more : (d : hb_glyph_info_t) (e : Position) (z : kus_glyph_position_t) (at after : Pens) → IsWrittenTo by gs ps old room k before pens → length gs ≡ length ps → k < length ps → k < length old
      → at ≡ pens_at before (get_or gs k d).cluster pens → z ≡ scaled_position by at (get_or ps k e) → after ≡ pens_after by at (get_or ps k e)
      → IsWrittenTo by gs ps old (set room k z) (k + 1) (get_or gs k d).cluster after
  written_more d e z at after is even inside lt at_is z_is after_is =
      let whole = scaled_positions by gs ps in
      let glyph = get_or gs k d in
      let position = get_or ps k e in
      let here = pens_at before glyph.cluster pens in
      let rest = positions_from by glyph.cluster (pens_after by here position) (drop (k + 1) gs) (drop (k + 1) ps) in
      let within : k < length gs = omega (arith, even, inside) in
      let count : length whole ≡ length ps = length_scaled by 0 _ gs ps even in
      let long_enough : k < length whole = omega (arith, count, inside) in
      let opened : drop k whole ≡ scaled_position by here position ∷ rest =
      is.left ∙ ap (λ xs. positions_from by before pens xs (drop k ps)) (drop_more gs k d within) ∙ ap (λ xs. positions_from by before pens (glyph ∷ drop (k + 1) gs) xs) (drop_more ps k e inside) in
      let split : drop k whole ≡ get_or whole k z ∷ drop (k + 1) whole = drop_more whole k z long_enough in
      let both : get_or whole k z ∷ drop (k + 1) whole ≡ scaled_position by here position ∷ rest = sym split ∙ opened in
      let first : get_or whole k z ≡ scaled_position by here position = ap (λ (l : List kus_glyph_position_t). get_or l 0 z) both in
      let later : drop (k + 1) whole ≡ rest = ap (λ (l : List kus_glyph_position_t). drop 1 l) both in
      let own : z ≡ get_or whole k z = z_is ∙ ap (λ (q : Pens). scaled_position by q position) at_is ∙ sym first in
      let moved : after ≡ pens_after by here position = after_is ∙ ap (λ (q : Pens). pens_after by q position) at_is in
      let front = take k whole in
      let front_length : length front ≡ k = omega (arith, length-take k whole, long_enough) in
      let parts : room ≡ front ++ get_or old k z ∷ drop (k + 1) old = is.written ∙ ap (λ l. front ++ l) (drop_more old k z lt) in
      record {
        written = ap (λ l. set l k z) parts ∙ set_at front _ _ z k front_length ∙ sym (append_assoc front (z ∷ []) _)
            ∙ ap (λ l. l ++ drop (k + 1) old) (ap (λ y. front ++ y ∷ []) own ∙ sym (take_more whole k z long_enough));
        long = length-set room k z ∙ is.long;
        left = later ∙ ap (λ (q : Pens). positions_from by glyph.cluster q (drop (k + 1) gs) (drop (k + 1) ps)) (sym moved);
      }

  -- all that there is room for is written
  pub all_written : IsWrittenTo by gs ps old room k before pens → length gs ≡ length ps → k ≡ min (length ps) (length old) → room ≡ with_front (scaled_positions by gs ps) old
  all_written is even all =
      let whole = scaled_positions by gs ps in
      let count : length whole ≡ length ps = length_scaled by 0 _ gs ps even in
      let by_room : k ≡ min (length old) (length whole) = omega (arith, all, count) in
      let by_whole : k ≡ min (length whole) (length old) = omega (arith, all, count) in
      is.written ∙ ap (λ n. take n whole ++ drop k old) by_room ∙ ap (λ xs. xs ++ drop k old) (take_min (length old) whole)
      ∙ ap (λ n. take (length old) whole ++ drop n old) by_whole ∙ ap (λ xs. take (length old) whole ++ xs) (drop_min (length whole) old)

-- at first nothing is written
pub none_written : (by : Multipliers) (gs : List hb_glyph_info_t) (ps : List Position) (old : List kus_glyph_position_t) → IsWrittenTo by gs ps old old 0 0 NO_PENS
none_written by gs ps old = record { written = refl; long = refl; left = refl }
