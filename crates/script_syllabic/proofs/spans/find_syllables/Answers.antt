use Rattle.std.proofs.Common.{◌∙◌, length}
use Rattle.script_syllabic.specs.Spans.{indices_or_all, universal_set}
use Rattle.script_syllabic.proofs.Does.{does_stage}
use Rattle.script_syllabic.proofs.Counting.{rises, ends_within, found, found_refused}
use Rattle.script_syllabic.proofs.spans.find_syllables.Goals as goal

pub set_bytes-requires-clause-rising : goal.set_bytes-requires-clause-rising
set_bytes-requires-clause-rising g c =
    let n = c.in_ok-counted.counted.buffer_indices in
    rises c.info_slice.result.now (indices_or_all n.indices n.end) n.end c.in_ok-counted.ensures.indices c.in_ok-counted.ensures.end

pub set_bytes-requires-clause-within : goal.set_bytes-requires-clause-within
set_bytes-requires-clause-within g c =
    let n = c.in_ok-counted.counted.buffer_indices in
    ends_within c.info_slice.result.now (indices_or_all n.indices n.end) n.end (length c.deref.result.now) c.args.buffer.now c.info_slice.ensures c.in_ok-counted.ensures.indices c.in_ok-counted.ensures.end

pub returns : goal.returns
returns g c =
    let n = c.in_ok-counted.counted.buffer_indices in
    let spans = g.S.SyllableSpans.span_of c.args.spans.now in
    let same = c.deref.ensures.value ∙ c.in_ok-counted.ensures.categories in
    does_stage (universal_set spans) c.set_bytes.result c.args.buffer.now c.set_bytes.new.buffer
    (found spans c.deref.result.now (indices_or_all n.indices n.end) n.end c.info_slice.result.now c.args.buffer.now c.set_bytes.new.buffer c.set_bytes.result
    c.info_slice.ensures same c.in_ok-counted.ensures.indices c.in_ok-counted.ensures.end c.set_bytes.ensures.ok)
    (found_refused spans c.deref.result.now (indices_or_all n.indices n.end) n.end c.info_slice.result.now c.args.buffer.now c.set_bytes.result
    c.info_slice.ensures same c.in_ok-counted.ensures.indices c.in_ok-counted.ensures.end c.set_bytes.ensures.err)
