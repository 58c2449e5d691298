use Rattle.std.proofs.Common.{[], ◌∷◌, true, false, string_bytes}
use Rattle.shell_run.specs.Program.{Asks, text_source}
use Rattle.shell_run.specs.Program.Source.{File}
use Rattle.shell_run.proofs.Openings.{second_missing, third_missing}
use Rattle.shell_run.proofs.files.open_files.Goals as goal

-- the font is missing
pub returns-in_default-open-clause-front : goal.returns-in_default-open-clause-front
returns-in_default-open-clause-front g c =
    let before = g.O.Files.asked c.args.files.now in
    let between = g.O.Files.asked c.open.new.self in
    let after = g.O.Files.asked c.open-2.new.self in
    let line = c.args.line.now in
    let first : Asks before between ((File (string_bytes line.tables), true) ∷ []) = rw c.deref.ensures at c.in-Some.ensures.asks in
    let second : Asks between after ((File (string_bytes line.font), false) ∷ []) = rw c.deref-2.ensures at c.in_default-open.ensures.asks in
    second_missing before between after after (File (string_bytes line.tables)) (File (string_bytes line.font)) (text_source (string_bytes line.text)) first second

-- the text is missing
pub returns-in_default-open_text-clause-front : goal.returns-in_default-open_text-clause-front
returns-in_default-open_text-clause-front g c =
    let before = g.O.Files.asked c.args.files.now in
    let between = g.O.Files.asked c.open.new.self in
    let then = g.O.Files.asked c.open-2.new.self in
    let after = g.O.Files.asked c.open_text.new.files in
    let line = c.args.line.now in
    let first : Asks before between ((File (string_bytes line.tables), true) ∷ []) = rw c.deref.ensures at c.in-Some.ensures.asks in
    let second : Asks between then ((File (string_bytes line.font), true) ∷ []) = rw c.deref-2.ensures at c.in-Some-open.ensures.asks in
    let third : Asks then after ((text_source (string_bytes line.text), false) ∷ []) = rw c.deref-3.ensures at c.in_default-open_text.ensures.asks in
    third_missing before between then after (File (string_bytes line.tables)) (File (string_bytes line.font)) (text_source (string_bytes line.text)) first second third
