use Rattle.std.proofs.Common.{◌≡◌, ◌-◌, ◌∙◌, sym, true, false, arith, rules}
use Rattle.font_names.specs.Strings.{has_string, string_starts}
use Rattle.font_names.proofs.Starts.{starts_done, starts_pushed, starts_stop}
use Rattle.font_names.proofs.strings.string_starts.Goals as goal

pub returns-then-not-has_string-clause-ok : goal.returns-then-not-has_string-clause-ok
returns-then-not-has_string-clause-ok c =
    let none : has_string c.args.bytes.now c.loop-index.at ≡ false = search rules in
    starts_stop c.args.bytes.now c.loop-index.starts.items (string_starts c.args.bytes.now c.args.from c.args.count) c.loop-index.at (c.args.count - c.loop-index.index) none c.loop-index.invariant

pub returns-clause-ok : goal.returns-clause-ok
returns-clause-ok c = starts_done c.args.bytes.now c.loop-index.starts.items (string_starts c.args.bytes.now c.args.from c.args.count) c.loop-index.at c.args.count c.loop-index.index (omega arith) c.loop-index.invariant

pub loop-index-preserved : goal.loop-index-preserved
loop-index-preserved c =
    let has : has_string c.args.bytes.now c.loop-index.at ≡ true = search rules in
    let pushed = starts_pushed c.args.bytes.now c.loop-index.starts.items (string_starts c.args.bytes.now c.args.from c.args.count) c.loop-index.at c.args.count c.loop-index.index (omega arith) has c.loop-index.invariant in
    let items = c.in_ok-push.ensures.items in
    let length = c.byte.ensures in
    let wide = c.from.ensures in
    cc (pushed, items, length, wide)
