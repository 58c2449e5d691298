-- The iterator over the glyphs that a lookup does not skip (`skipping_iterator_t`).
use Rattle.std.specs.Prelude.{ℕ, ◌+◌, Result, Ok, Err}
use Rattle.buffer_glyphs.specs.Items.{Item}
use Rattle.layout_match.specs.declared.search.match_t.{match_t}
use Rattle.layout_match.specs.declared.skipping.skipping_iterator_t.{skipping_iterator_t}
use Rattle.layout_match.specs.Searches.{answer, search_of, test_of}

-- the iterator's answer for an item
abbrev pub iterator_answer : skipping_iterator_t → Item → match_t
iterator_answer w = answer (search_of w.search) (test_of (search_of w.search) w.sequence w.glyph_data)

-- the iterator after the index that it found
abbrev pub after_found : Result ℕ ℕ → skipping_iterator_t → skipping_iterator_t
after_found (Ok at) w = record w { index = at + 1 }
after_found (Err end) w = w
