-- The parameters of applying one lookup, and its searches (`hb_ot_apply_context_t`).
use Rattle.std.specs.Prelude.{ℕ, ◌*◌, ◌%◌, ◌||◌, Bool, true, false, if◌then◌else◌, List, Option, Some, None, option_map}
use Rattle.buffer_glyphs.specs.Items.{Item}
use Rattle.buffer_glyphs.specs.Parts.{first_of}
use Rattle.layout_face.specs.declared.parts.FaceParts.{FaceParts}
use Rattle.layout_map_features.specs.declared.per_table.TableIndex.{TableIndex}
use Rattle.layout_map_features.specs.declared.per_table.TableIndex.TheVariants.{GSUB, GPOS}
use Rattle.layout_match.specs.declared.apply_context.hb_ot_apply_context_t.{hb_ot_apply_context_t}
use Rattle.layout_match.specs.Searches.{Search}

-- the parameters of applying one lookup
pub record ApplyContext : Type 0 where
  pub table : TableIndex
  pub font : FaceParts
  -- the lookup flag, and above its 16 bits the index of its mark filtering set
  pub props : ℕ
  -- the feature bits of the lookup
  pub mask : ℕ
  pub auto_zwnj : Bool
  pub auto_zwj : Bool
  pub per_syllable : Bool
  -- whether an alternate may be drawn at random (feature `rand`)
  pub random : Bool

-- the parameters of an apply context
abbrev pub apply_context_of : hb_ot_apply_context_t → ApplyContext
apply_context_of ctx = record { table = ctx.table_index; font = ctx.face.now; props = ctx.lookup_props; mask = ctx.lookup_mask; auto_zwnj = ctx.auto_zwnj; auto_zwj = ctx.auto_zwj; per_syllable = ctx.per_syllable; random = ctx.random }

-- whether the table is GPOS
abbrev pub positions_glyphs : TableIndex → Bool
positions_glyphs GSUB = false
positions_glyphs GPOS = true

-- the syllable byte of the item where a lookup per syllable is tried: the first of those from there on
abbrev pub own_syllable : ApplyContext → List Item → Option ℕ
own_syllable a rest = if a.per_syllable then option_map (λ x. x.syllable) (first_of rest) else None

-- the search for a rule's input: in GPOS, hidden ignorables and non-joiners are skipped
abbrev pub own_search : ApplyContext → List Item → Search
own_search a rest = record { props = a.props; sets = a.font.gdef.sets; zwnj = positions_glyphs a.table; zwj = a.auto_zwj; hidden = positions_glyphs a.table; mask = Some a.mask; syllable = own_syllable a rest }

-- the search for a rule's context: joiners are skipped, and items need no bit of the lookup's mask
abbrev pub context_search : ApplyContext → List Item → Search
context_search a rest = record { props = a.props; sets = a.font.gdef.sets; zwnj = positions_glyphs a.table || a.auto_zwnj; zwj = true; hidden = positions_glyphs a.table; mask = None; syllable = own_syllable a rest }

-- the next random number, which is also the next state (the minimal standard generator of Park and Miller, with
-- multiplier 48271)
abbrev pub next_random : ℕ → ℕ
next_random state = state * 48271 % 2147483647
