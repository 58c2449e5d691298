use Rattle.std.proofs.Common.{Some, map, string_bytes, subst, sym}
use Rattle.std.specs.Prelude.{Option}
use Rattle.shell_readers.specs.declared.fault.RunFault.{RunFault}
use Rattle.shell_readers.specs.declared.fault.RunFault.TheVariants.{Read}
use Rattle.shell_run.specs.Lines.{fault_of}
use Rattle.shell_run.specs.Program.{Runs, text_source}
use Rattle.shell_run.specs.Program.Source.{File}
use Rattle.shell_run.proofs.ProgramRuns.{ended_with, ends_with_missing, ends_with_run, ends_with_words, is_run}
use Rattle.shell_run.proofs.program.run_words.Goals as goal

pub returns-in_err-line : goal.returns-in_err-line
returns-in_err-line g c =
    let words = map string_bytes c.args.words.now in
    let asked = g.O.Files.asked c.args.files.now in
    let out = g.W.Write.contents c.args.out.now in
    let P : Option RunFault → Type 0 = λ end. Runs words (g.O.Files.bytes c.args.files.now) asked asked out out end in
    ended_with c.from_residual.result c.in_err-line.field-0.0 P c.from_residual.ensures.1 (ends_with_words words (g.O.Files.bytes c.args.files.now) asked out c.in_err-line.field-0.0 c.in_err-line.ensures.refused)

pub returns-in_err-opened : goal.returns-in_err-opened
returns-in_err-opened g c =
    let words = map string_bytes c.args.words.now in
    let bytes = g.O.Files.bytes c.args.files.now in
    let asked = g.O.Files.asked c.args.files.now in
    let asked' = g.O.Files.asked c.open_files.new.files in
    let out = g.W.Write.contents c.args.out.now in
    let P : Option RunFault → Type 0 = λ end. Runs words bytes asked asked' out out end in
    ended_with c.from_residual-in_err-opened.result c.in_err-opened.field-0.0 P c.from_residual-in_err-opened.ensures.1
    (subst (λ (f : RunFault). P (Some f)) (sym c.in_err-opened.ensures.fault) (ends_with_missing words bytes asked asked' out c.in_ok-line.line c.in_ok-line.ensures.ok c.in_err-opened.ensures.front))

pub returns : goal.returns
returns g c =
    let words = map string_bytes c.args.words.now in
    let bytes = g.O.Files.bytes c.args.files.now in
    let line = c.in_ok-line.line in
    let opened = c.in_ok-opened.opened in
    let out = g.W.Write.contents c.args.out.now in
    let out' = g.W.Write.contents c.run.new.out in
    ends_with_run words bytes _ _ out out' line (fault_of c.run.result) c.in_ok-line.ensures.ok c.in_ok-opened.ensures.all
    (is_run line.options (bytes (File (string_bytes line.tables))) (bytes (File (string_bytes line.font))) (bytes (text_source (string_bytes line.text)))
    (g.F.Read.remaining opened.tables) (g.F.Read.remaining opened.font) (g.F.Read.remaining opened.text) out out'
    c.in_ok-opened.ensures.tables c.in_ok-opened.ensures.font c.in_ok-opened.ensures.text
    c.run.result c.run.ensures.written c.run.ensures.refused c.run.ensures.write_last c.run.ensures.no_memory c.run.ensures.kept c.run.ensures.not_words c.run.ensures.read_limit)
