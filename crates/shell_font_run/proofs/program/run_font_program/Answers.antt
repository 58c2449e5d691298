use Rattle.std.proofs.Common.{◌∙◌, Some, ap, map, string_bytes}
use Rattle.shell_font_run.specs.declared.fault.FontRunFault.{FontRunFault}
use Rattle.shell_font_run.proofs.Endings.{ends_with_printing, ends_with_shaping, ends_with_usage, ends_with_version, ends_with_words}
use Rattle.shell_font_run.proofs.program.run_font_program.Goals as goal

pub returns-in-Ok-Shaping : goal.returns-in-Ok-Shaping
returns-in-Ok-Shaping g c =
    let words = map string_bytes c.args.words.now in
    ends_with_shaping words (g.O.Files.bytes c.args.files.now) _ _ _ _ c.shape_line.result _ _ c.in-Ok-Shaping.line
    (rw c.in-Ok-Shaping.field-0-is at c.in-Ok-Shaping.ensures.ok) c.shape_line.ensures

pub returns-in-Ok-Printing : goal.returns-in-Ok-Printing
returns-in-Ok-Printing g c =
    let words = map string_bytes c.args.words.now in
    ends_with_printing words (g.O.Files.bytes c.args.files.now) _ _ _ _ c.print_named.result _ _ (string_bytes c.in-Ok-Printing.name) c.in-Ok-Printing.face
    (rw c.in-Ok-Printing.field-0-is at c.in-Ok-Printing.ensures.ok) (rw c.deref.ensures at c.print_named.ensures)

pub returns-in-Ok-Usage : goal.returns-in-Ok-Usage
returns-in-Ok-Usage g c =
    let words = map string_bytes c.args.words.now in
    ends_with_usage words (g.O.Files.bytes c.args.files.now) _ _ _ _ c.say.result _
    (rw c.in-Ok-Usage.field-0-is at c.in-Ok-Usage.ensures.ok) c.say.ensures.said c.say.ensures.reported

pub returns-in-Ok-Version : goal.returns-in-Ok-Version
returns-in-Ok-Version g c =
    let words = map string_bytes c.args.words.now in
    ends_with_version words (g.O.Files.bytes c.args.files.now) _ _ _ _ c.say-in-Ok-Version.result _
    (rw c.in-Ok-Version.field-0-is at c.in-Ok-Version.ensures.ok) c.say-in-Ok-Version.ensures.said c.say-in-Ok-Version.ensures.reported

-- the words are refused, or memory is short
pub returns-in-Err : goal.returns-in-Err
returns-in-Err g c =
    let words = map string_bytes c.args.words.now in
    ends_with_words words (g.O.Files.bytes c.args.files.now) _ _ _ _ c.end.result c.in-Err.cause c.in-Err.ensures.refused
    (c.end.ensures.fault ∙ ap (λ (f : FontRunFault). Some f.cause) c.fault_of_run.ensures) (rw c.fault_of_run.ensures at c.end.ensures.reported)
