-- Font DICTs and private DICTs (TN 5176, 15 to 18; OpenType, CFF2 chapter).
use Rattle.std.specs.Prelude.{ℕ, zero, suc, ◌+◌, ◌-◌, ◌==◌, Bool, if◌then◌else◌, List, [], ◌∷◌, Result, Ok, Err}
use Rattle.font_bytes.specs.declared.fault.TableFault.{TableFault}
use Rattle.font_bytes.specs.Results.{and_then}
use Rattle.font_bytes.specs.Room.{room_after}
use Rattle.font_bytes.specs.Words.{need}
use Rattle.font_common.specs.Offsets.{tables_in}
use Rattle.font_charstrings.specs.declared.index.Index.{Index}
use Rattle.font_charstrings.specs.Index.{index_at, no_objects, object}
use Rattle.font_charstrings.specs.Operators.{regions_at}
use Rattle.font_cff.specs.declared.dict.Dict.{Dict}
use Rattle.font_cff.specs.declared.header.Cff.{Cff}
use Rattle.font_cff.specs.declared.fonts.Private.{Private}
use Rattle.font_cff.specs.Dict.{dict_of}

-- n numbers from one on
abbrev pub numbers : ℕ → ℕ → List ℕ
numbers first zero = []
numbers first (suc count) = first ∷ numbers (first + 1) count

-- the number of regions of item variation data, 0 without a variation store
abbrev pub default_regions : List ℕ → ℕ → ℕ → Result ℕ TableFault
default_regions table store index = if store == 0 then Ok 0 else regions_at table store index

-- the Local Subrs INDEX, at an offset from the private DICT, none where that is 0
abbrev pub local_subrs : List ℕ → ℕ → ℕ → Bool → Result Index TableFault
local_subrs table at subrs is_cff2 = if subrs == 0 then Ok no_objects else index_at table (at + subrs) is_cff2

-- the private DICT that a DICT names (Private: size and offset); its bytes take room
unfoldable pub private_of : List ℕ → Cff → Dict → ℕ → Result (Private × ℕ) TableFault
private_of table cff d room = and_then (need table d.private_at d.private_size) (λ _.
    and_then (room_after room d.private_size) (λ left.
    and_then (dict_of table (record { at = d.private_at; end = d.private_at + d.private_size })) (λ p.
    and_then (local_subrs table d.private_at p.subrs cff.is_cff2) (λ local.
    and_then (default_regions table cff.top.store p.vsindex) (λ regions.
    Ok (record { local = local; regions = regions }, left))))))

-- the private DICT of the font DICT with an index; the bytes of both, and one more, take room
unfoldable pub font_private : List ℕ → Cff → Index → ℕ → ℕ → Result (Private × ℕ) TableFault
font_private table cff dicts room index = and_then (object table dicts index) (λ span.
    and_then (room_after room 1) (λ some.
    and_then (room_after some (span.end - span.at)) (λ left.
    and_then (dict_of table span) (λ d.
    private_of table cff d left))))

-- the private DICTs of a table: of the font DICTs, or of the top DICT where it has no FDArray
unfoldable pub privates_of : List ℕ → Cff → ℕ → Result (List Private × ℕ) TableFault
privates_of table cff room = if cff.top.fonts == 0
    then and_then (private_of table cff cff.top room) (λ p. Ok (p.0 ∷ [], p.1))
    else and_then (index_at table cff.top.fonts cff.is_cff2) (λ dicts. tables_in (font_private table cff dicts) room (numbers 0 dicts.count))
