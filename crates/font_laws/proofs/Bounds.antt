-- The laws, as the contracts state them.
use Rattle.std.proofs.Common.{◌+◌, ◌*◌, ◌≤◌, length}
use Rattle.std.proofs.lemmas.Result.{IfOk-at_ok}
use Rattle.font_file.specs.Rooms.{character_room}
use Rattle.font_laws.specs.RowCounts.{optional_row_count}
use Rattle.font_laws.specs.Lists.{definition_row_count}
use Rattle.font_laws.specs.Substitutions.{substitution_row_count}
use Rattle.font_laws.specs.Positions.{positioning_row_count}
use Rattle.font_laws.specs.Bounds.{IsBounded}
use Rattle.font_laws.specs.Laws.{CharactersAreBounded, DefinitionsAreBounded, SubstitutionsAreBounded, PositionsAreBounded, KernIsBounded, FacesAreBounded}
use Rattle.font_laws.proofs.Lists.{definition_fits}
use Rattle.font_laws.proofs.Lookups.{gsub_fits, gpos_fits}
use Rattle.font_laws.proofs.KernTables.{kern_fits}
use Rattle.font_laws.proofs.Faces.{table_fits, face_bounded}

pub characters_are_bounded : CharactersAreBounded
characters_are_bounded table rows e = IfOk-at_ok (λ c. length c.0 + length c.1 ≤ character_room + 256) e (table_fits table)

pub definitions_are_bounded : DefinitionsAreBounded
definitions_are_bounded room table definition left e = IfOk-at_ok (λ r. definition_row_count r.0 + r.1 ≤ room) e (definition_fits room table)

pub substitutions_are_bounded : SubstitutionsAreBounded
substitutions_are_bounded set_count room table gsub left e = IfOk-at_ok (λ r. substitution_row_count r.0 + r.1 ≤ room) e (gsub_fits set_count room table)

pub positions_are_bounded : PositionsAreBounded
positions_are_bounded set_count room table gpos left e = IfOk-at_ok (λ r. positioning_row_count r.0 + r.1 ≤ room) e (gpos_fits set_count room table)

pub kern_is_bounded : KernIsBounded
kern_is_bounded room table characters gpos with_kern left e =
    IfOk-at_ok (λ r. optional_row_count positioning_row_count r.0 + 3 * r.1 ≤ 72 * optional_row_count positioning_row_count gpos + 3 * room) e (kern_fits room table characters gpos)

pub faces_are_bounded : FacesAreBounded
faces_are_bounded parts bytes index face are e = IfOk-at_ok IsBounded e (face_bounded parts bytes index are)
