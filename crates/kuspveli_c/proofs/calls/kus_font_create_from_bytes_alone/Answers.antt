use Rattle.std.proofs.Common.{◌≡◌, Ok, subst}
use Rattle.c_text.specs.Numbers.{parts_without}
use Rattle.font_file.specs.declared.parts.FontParts.{FontParts}
use Rattle.shell_fonts.specs.Fonts.{font_of}
use Rattle.kuspveli_c.proofs.Results.{file_was_read}
use Rattle.kuspveli_c.proofs.calls.kus_font_create_from_bytes_alone.Goals as goal

pub returns-clause-read : goal.returns-clause-read
returns-clause-read c done =
    let P : FontParts → Type 0 = λ p. font_of p c.args.bytes.now c.args.index ≡ Ok c.in-Ok.read.value.input.face in
    file_was_read (parts_without c.args.flags) c.args.bytes.now c.args.index c.in-Ok.read.value _ c.put.ensures c.in-Ok.ensures.new c.in-Ok.ensures.tables (subst P c.parts_without.ensures c.in-Ok.ensures.ok)
