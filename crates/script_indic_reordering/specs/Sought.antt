-- The items that are searched for in a syllable.
use Rattle.std.specs.Prelude.{ℕ, ◌&&◌, not, Bool}
use Rattle.script_categories.specs.declared.ot_position_t.TheConstants as position
use Rattle.buffer_glyphs.specs.Items.{Item}
use Rattle.script_indic_reordering.specs.declared.sought.Sought.{Sought}
use Rattle.script_indic_reordering.specs.declared.sought.Sought.TheVariants.{NoJoiner, LeftMatra, Left, NotLeft, Base, NotReph, FromBase, PastMain, FromPost, NoSign, NoNuktaOrHalant, FreeHalant, Stop, Formed}
use Rattle.script_indic_reordering.specs.Glyphs.{is_free_halant, is_joiner, is_left, is_left_matra, is_nukta_or_halant, stands_at}
use Rattle.script_indic_reordering.specs.Final.{is_from_base, is_pref, is_sign, stands_from_post, stands_up_to_main, stops_left}

-- an item is one that a search stops at
abbrev pub picks : Sought → Item → Bool
picks NoJoiner x = not (is_joiner x)
picks LeftMatra x = is_left_matra x
picks Left x = is_left x
picks NotLeft x = not (is_left x)
picks Base x = stands_at position.POS_BASE_C x
picks NotReph x = not (stands_at position.POS_RA_TO_BECOME_REPH x)
picks FromBase x = is_from_base x
picks PastMain x = not (stands_up_to_main x)
picks FromPost x = stands_from_post x
picks NoSign x = not (is_sign x)
picks NoNuktaOrHalant x = not (is_nukta_or_halant x)
picks FreeHalant x = is_free_halant x
picks Stop x = stops_left x
picks (Formed mask) x = is_pref mask x
