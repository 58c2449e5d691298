use Rattle.std.proofs.Common.{◌≡◌, ◌≤◌, ◌<◌, true, Some, length, slice_get, ap, sym, ◌∙◌, arith}
use Rattle.buffer_stages.specs.Actions.{Cut, whole}
use Rattle.buffer_stages.specs.Buffers.{cut_of}
use Rattle.buffer_stages.proofs.Lemmas.Frames.{still_open, still_refused}
use Rattle.layout_contexts.specs.Nested.{has_budget}
use Rattle.layout_contexts.proofs.Begun.{begun, beyond, no_way, unpaid}
use Rattle.layout_contexts.proofs.records.begin_record.Goals as goal

pub returns-then-glyph_count-index-clause-begins : goal.returns-then-glyph_count-index-clause-begins
returns-then-glyph_count-index-clause-begins c =
    let s = c.args.buffer.now in
    let ps = c.args.indices.now.items in
    let at : Some c.in-Some.index ≡ slice_get ps c.args.lookup_record.now.sequence_index = sym c.in-Some.is ∙ c.index_at.ensures ∙ ap (slice_get ps) c.from.ensures in
    let over : length (whole (cut_of s)) ≤ c.in-Some.index = omega (arith, c.if-glyph_count-index.true, c.glyph_count.ensures.count) in
    beyond c.args.lookup_record.now ps c.in-Some.index s at over

pub returns-then-not-spend-clause-begins : goal.returns-then-not-spend-clause-begins
returns-then-not-spend-clause-begins c =
    let s = c.args.buffer.now in
    let ps = c.args.indices.now.items in
    let at : Some c.in-Some.index ≡ slice_get ps c.args.lookup_record.now.sequence_index = sym c.in-Some.is ∙ c.index_at.ensures ∙ ap (slice_get ps) c.from.ensures in
    unpaid c.args.lookup_record.now ps c.in-Some.index s c.spend.new.buffer at (sym c.spend.ensures.left ∙ c.if-not-spend.true) (c.spend.ensures.none c.if-not-spend.true)

pub move_cursor_to-requires-clause-kept : goal.move_cursor_to-requires-clause-kept
move_cursor_to-requires-clause-kept c = still_refused c.args.buffer.now c.spend.new.buffer (c.spend.ensures.taken c.if-not-spend.false 1).still ∙ c.requires.kept

pub move_cursor_to-requires-clause-there : goal.move_cursor_to-requires-clause-there
move_cursor_to-requires-clause-there c =
    let s = c.args.buffer.now in
    let t = c.spend.new.buffer in
    let same : length (whole (cut_of t)) ≡ length (whole (cut_of s)) = ap (λ (d : Cut). length (whole d)) (c.spend.ensures.taken c.if-not-spend.false 1).cut_is in
    omega (arith, c.if-glyph_count-index.false, c.glyph_count.ensures.count, same)

pub returns-in-Err-clause-begins : goal.returns-in-Err-clause-begins
returns-in-Err-clause-begins c =
    let s = c.args.buffer.now in
    let ps = c.args.indices.now.items in
    let at : Some c.in-Some.index ≡ slice_get ps c.args.lookup_record.now.sequence_index = sym c.in-Some.is ∙ c.index_at.ensures ∙ ap (slice_get ps) c.from.ensures in
    let under : c.in-Some.index < length (whole (cut_of s)) = omega (arith, c.if-glyph_count-index.false, c.glyph_count.ensures.count) in
    let on : has_budget (cut_of s) ≡ true = sym c.spend.ensures.left ∙ c.if-not-spend.false in
    no_way c.args.lookup_record.now ps c.in-Some.index s c.spend.new.buffer c.move_cursor_to.new.buffer c.in-Err.cause at under on (c.spend.ensures.taken c.if-not-spend.false) c.in-Err.ensures.err

pub returns-in-Err-clause-memory : goal.returns-in-Err-clause-memory
returns-in-Err-clause-memory c = λ closed. c.in-Err.ensures.memory (still_open c.args.buffer.now c.spend.new.buffer (c.spend.ensures.taken c.if-not-spend.false 1).still ∙ closed)

pub returns-clause-begins : goal.returns-clause-begins
returns-clause-begins c =
    let s = c.args.buffer.now in
    let ps = c.args.indices.now.items in
    let at : Some c.in-Some.index ≡ slice_get ps c.args.lookup_record.now.sequence_index = sym c.in-Some.is ∙ c.index_at.ensures ∙ ap (slice_get ps) c.from.ensures in
    let under : c.in-Some.index < length (whole (cut_of s)) = omega (arith, c.if-glyph_count-index.false, c.glyph_count.ensures.count) in
    let on : has_budget (cut_of s) ≡ true = sym c.spend.ensures.left ∙ c.if-not-spend.false in
    begun c.args.lookup_record.now ps c.in-Some.index s c.spend.new.buffer c.move_cursor_to.new.buffer at under on (c.spend.ensures.taken c.if-not-spend.false) (c.in_default-move_cursor_to.ensures {u = tt}).held (c.in_default-move_cursor_to.ensures {u = tt}).ok
