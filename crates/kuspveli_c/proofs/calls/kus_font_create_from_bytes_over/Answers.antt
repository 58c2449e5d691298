use Rattle.std.proofs.Common.{◌≡◌, Ok, rules, subst}
use Rattle.c_text.specs.Numbers.{parts_without}
use Rattle.font_file.specs.declared.parts.FontParts.{FontParts}
use Rattle.shell_fonts.specs.Fonts.{font_of}
use Rattle.kuspveli_c.proofs.Results.{file_was_read_over}
use Rattle.kuspveli_c.proofs.calls.kus_font_create_from_bytes_over.Goals as goal

pub returns-clause-read : goal.returns-clause-read
returns-clause-read c done =
    let P : FontParts → Type 0 = λ p. font_of p c.args.bytes.now c.args.index ≡ Ok c.in-Ok.read.value.input.face in
    file_was_read_over c.args.tables.now.value c.in-Some.shared.value (parts_without c.args.flags) c.args.bytes.now c.args.index c.in-Ok.read.value _ c.in-Some.ensures.tables c.put-2.ensures c.in-Ok.ensures.new (search rules) (subst P c.parts_without.ensures c.in-Ok.ensures.ok)
