-- The order of glyphs in which left matras follow all others.
use Rattle.std.specs.Prelude.{ℕ, ◌≡◌, not, Bool, false, List, ◌++◌, drop, filter, take}
use Rattle.buffer_glyphs.specs.declared.info.hb_glyph_info_t.{hb_glyph_info_t}
use Rattle.buffer_glyphs.specs.Items.{Item, item_of}
use Rattle.buffer_stages.specs.Fronts.{StandApart}
use Rattle.script_indic_reordering.specs.Glyphs.{is_left}

-- an item is no left matra
abbrev pub is_other : Item → Bool
is_other x = not (is_left x)

-- no two items move to the front as a pair
abbrev pub together : Item → Item → Bool
together x y = false

pub never_together : StandApart together
never_together x y z e = λ i. false

-- the first n glyphs of a list without the left ones, the rest of the list, and the left ones of the first n
abbrev pub glyphs_put : ℕ → List hb_glyph_info_t → List hb_glyph_info_t
glyphs_put n gs = filter (λ g. is_other (item_of g)) (take n gs) ++ drop n gs ++ filter (λ g. is_left (item_of g)) (take n gs)
