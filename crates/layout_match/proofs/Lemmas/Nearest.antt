-- What a search finds, one glyph after another, from a glyph on and back from the cursor.
use Rattle.std.proofs.Common.{ℕ, ◌≡◌, ◌≤◌, ◌+◌, List, ◌∷◌, length, drop, reverse, Ok, Err, Some, slice_get, refl, sym, ap, ◌∙◌, arith}
use Rattle.std.specs.Prelude.{option_map}
use Rattle.std.proofs.lemmas.Option.{slice_get-map, slice_get_within, get_or_from_slice_get}
use Rattle.std.proofs.lemmas.List.{drop_all, length-map, length-reverse, drop_more}
use Rattle.buffer_glyphs.specs.declared.info.hb_glyph_info_t.{hb_glyph_info_t}
use Rattle.buffer_glyphs.specs.Items.{Item, item_of, strip}
use Rattle.layout_match.specs.declared.search.match_t.{match_t}
use Rattle.layout_match.specs.declared.search.match_t.TheVariants.{MATCH, SKIP, NOT_MATCH}
use Rattle.layout_match.specs.Matches.{by_answer, nearest_from}
use Rattle.buffer_glyphs.specs.Lemmas.EventParts.{map-reverse}
use Rattle.buffer_stages.proofs.Reversed.{got_strip as item_there}
use Rattle.buffer_stages.proofs.Lemmas.Elements.{split_at as some_left}

-- what comes of the items from one on
pub nearest_there : (ask : Item → match_t) (at : ℕ) (xs : List Item) (x : Item) (r : match_t) → slice_get xs at ≡ Some x → r ≡ ask x → nearest_from ask at xs ≡ by_answer r at (nearest_from ask (at + 1) xs)
nearest_there ask at xs x r there scratch_flags = rw (some_left xs at x there, scratch_flags) refl

pub taken_there : (ask : Item → match_t) (at : ℕ) (gs : List hb_glyph_info_t) (g : hb_glyph_info_t) (r : match_t) → slice_get gs at ≡ Some g → r ≡ ask (item_of g) → r ≡ MATCH → nearest_from ask at (strip gs) ≡ Ok at
taken_there ask at gs g r there scratch_flags e = nearest_there ask at (strip gs) (item_of g) r (item_there gs at g there) scratch_flags ∙ ap (λ a. by_answer a at (nearest_from ask (at + 1) (strip gs))) e

pub refused_there : (ask : Item → match_t) (at : ℕ) (gs : List hb_glyph_info_t) (g : hb_glyph_info_t) (r : match_t) → slice_get gs at ≡ Some g → r ≡ ask (item_of g) → r ≡ NOT_MATCH → nearest_from ask at (strip gs) ≡ Err (at + 1)
refused_there ask at gs g r there scratch_flags e = nearest_there ask at (strip gs) (item_of g) r (item_there gs at g there) scratch_flags ∙ ap (λ a. by_answer a at (nearest_from ask (at + 1) (strip gs))) e

pub passed_there : (ask : Item → match_t) (at : ℕ) (gs : List hb_glyph_info_t) (g : hb_glyph_info_t) (r : match_t) → slice_get gs at ≡ Some g → r ≡ ask (item_of g) → r ≡ SKIP → nearest_from ask at (strip gs) ≡ nearest_from ask (at + 1) (strip gs)
passed_there ask at gs g r there scratch_flags e = nearest_there ask at (strip gs) (item_of g) r (item_there gs at g there) scratch_flags ∙ ap (λ a. by_answer a at (nearest_from ask (at + 1) (strip gs))) e

nearest_end : (ask : Item → match_t) (at : ℕ) (xs : List Item) → length xs ≡ at → nearest_from ask at xs ≡ Err at
nearest_end ask at xs e = let le : length xs ≤ at = omega (arith, e) in rw (drop_all at xs le) refl

pub ended_there : (ask : Item → match_t) (at : ℕ) (gs : List hb_glyph_info_t) → length gs ≡ at → nearest_from ask at (strip gs) ≡ Err at
ended_there ask at gs e = nearest_end ask at (strip gs) (length-map gs item_of ∙ e)

-- ---- the same backward

pub strip_reversed : (gs : List hb_glyph_info_t) → reverse (strip gs) ≡ strip (reverse gs)
strip_reversed gs = sym (map-reverse item_of gs)

pub taken_before : (ask : Item → match_t) (at : ℕ) (gs : List hb_glyph_info_t) (g : hb_glyph_info_t) (r : match_t) → slice_get (reverse gs) at ≡ Some g → r ≡ ask (item_of g) → r ≡ MATCH → nearest_from ask at (reverse (strip gs)) ≡ Ok at
taken_before ask at gs g r there scratch_flags e = rw (strip_reversed gs) (taken_there ask at (reverse gs) g r there scratch_flags e)

pub refused_before : (ask : Item → match_t) (at : ℕ) (gs : List hb_glyph_info_t) (g : hb_glyph_info_t) (r : match_t) → slice_get (reverse gs) at ≡ Some g → r ≡ ask (item_of g) → r ≡ NOT_MATCH → nearest_from ask at (reverse (strip gs)) ≡ Err (at + 1)
refused_before ask at gs g r there scratch_flags e = rw (strip_reversed gs) (refused_there ask at (reverse gs) g r there scratch_flags e)

pub passed_before : (ask : Item → match_t) (at : ℕ) (gs : List hb_glyph_info_t) (g : hb_glyph_info_t) (r : match_t) → slice_get (reverse gs) at ≡ Some g → r ≡ ask (item_of g) → r ≡ SKIP → nearest_from ask at (reverse (strip gs)) ≡ nearest_from ask (at + 1) (reverse (strip gs))
passed_before ask at gs g r there scratch_flags e = rw (strip_reversed gs) (passed_there ask at (reverse gs) g r there scratch_flags e)

pub ended_before : (ask : Item → match_t) (at : ℕ) (gs : List hb_glyph_info_t) → length gs ≡ at → nearest_from ask at (reverse (strip gs)) ≡ Err at
ended_before ask at gs e = rw (strip_reversed gs) (ended_there ask at (reverse gs) (length-reverse gs ∙ e))
