use Rattle.std.proofs.Common.{◌+◌, ◌*◌, ◌∙◌, ap, arith}
use Rattle.shell_tables_bytes.proofs.Pushes.{record_pushed, section_read}
use Rattle.shell_tables_bytes.proofs.sections.read_section.Goals as goal

pub loop-index-preserved : goal.loop-index-preserved
loop-index-preserved g c =
    record_pushed (g.T.RecordReader.means c.args.bytes.now) g.T.RecordReader.width c.in_ok-section.section.start c.in_ok-section.section.count c.loop-index.index
    c.loop-index.rows.items c.push.new.self.items _ c.read.result (omega arith) c.in_ok-push.ensures.items
    (c.read.ensures ∙ ap (λ w. g.T.RecordReader.means c.args.bytes.now (c.in_ok-section.section.start + w * c.loop-index.index)) c.width-width.ensures) c.loop-index.invariant

pub returns-clause-ok : goal.returns-clause-ok
returns-clause-ok g c =
    section_read g.T.RecordReader.means g.T.RecordReader.width c.args.number c.args.bytes.now c.in_ok-section.section.start c.in_ok-section.section.count c.loop-index.index c.width-width.result
    c.loop-index.rows.items c.in_ok-section.ensures.start c.in_ok-section.ensures.count c.width-width.ensures c.in_ok-section.ensures.inside (omega arith) c.loop-index.invariant
