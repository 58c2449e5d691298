use Rattle.std.proofs.Common.{◌≡◌, List, Some, None, Ok, Err, false, map, refl, sym, ap, subst, ◌∙◌}
use Rattle.buffer_glyphs.specs.Items.{strip}
use Rattle.layout_common.specs.Rows.{value_of}
use Rattle.layout_common.specs.declared.coverage.Coverage.{Coverage}
use Rattle.layout_match.specs.Applied.{apply_context_of, context_search}
use Rattle.layout_match.specs.Matches.{backtrack_end, lookahead_end}
use Rattle.layout_match.specs.Sequences.{is_covered_by}
use Rattle.buffer_stages.specs.Buffers.{cut_of}
use Rattle.buffer_stages.specs.Performing.{PerformsWithoutOutput}
use Rattle.buffer_stages.proofs.Lemmas.Does.{passed_same}
use Rattle.layout_gsub.specs.Reverses.{reverse_after_backtrack}
use Rattle.layout_gsub.proofs.Around.{reverse_performed, after_performed, attempt_performed}
use Rattle.layout_gsub.proofs.reverse.apply_reverse_chain_single_subst.Goals as goal

pub returns-in_default : goal.returns-in_default
returns-in_default c =
    let s = c.args.buffer.now in
    let t = c.args.subtable.now in
    let none : value_of c.as_glyph.result.0 t.rows ≡ None = sym (rw c.in_default.is at c.substitute.ensures) in
    reverse_performed (apply_context_of c.args.ctx.now) t c.as_glyph.result.0 None false s s c.cur.result.now c.cur.ensures c.as_glyph.ensures none (refl, passed_same s)

pub returns-in-Ok : goal.returns-in-Ok
returns-in-Ok c =
    let s = c.args.buffer.now in
    let t = c.args.subtable.now in
    let a = apply_context_of c.args.ctx.now in
    let xs = strip s.ahead in
    let new = c.apply_backtrack.new.buffer in
    let acted = c.apply_backtrack.result in
    let glyph = c.in-Some.glyph in
    let some : value_of c.as_glyph.result.0 t.rows ≡ Some glyph = sym (rw c.in-Some.is at c.substitute.ensures) in
    let found : Ok c.in-Ok.ahead ≡ lookahead_end (context_search a xs) (map is_covered_by t.lookahead) 1 xs = c.in-Ok.ensures.end ∙ ap (λ (sets : List Coverage). lookahead_end (context_search a xs) (map is_covered_by sets) 1 xs) c.as_slice.ensures in
    let P : List Coverage → Type 0 = λ sets. PerformsWithoutOutput (reverse_after_backtrack a.font.gdef glyph c.in-Ok.ahead (backtrack_end (context_search a xs) (map is_covered_by sets) (strip s.behind)) (cut_of s)) acted s new in
    let done = subst P c.as_slice-in-Ok.ensures c.apply_backtrack.ensures in
    reverse_performed a t c.as_glyph.result.0 (Some glyph) acted s new c.cur.result.now c.cur.ensures c.as_glyph.ensures some
    (after_performed a glyph (map is_covered_by t.backtrack) (lookahead_end (context_search a xs) (map is_covered_by t.lookahead) 1 xs) (Ok c.in-Ok.ahead) acted s new found done)

pub returns-in-Err : goal.returns-in-Err
returns-in-Err c =
    let s = c.args.buffer.now in
    let t = c.args.subtable.now in
    let a = apply_context_of c.args.ctx.now in
    let xs = strip s.ahead in
    let new = c.mark_attempt.new.buffer in
    let glyph = c.in-Some.glyph in
    let some : value_of c.as_glyph.result.0 t.rows ≡ Some glyph = sym (rw c.in-Some.is at c.substitute.ensures) in
    let found : Err c.in-Err.ahead ≡ lookahead_end (context_search a xs) (map is_covered_by t.lookahead) 1 xs = c.in-Err.ensures.end ∙ ap (λ (sets : List Coverage). lookahead_end (context_search a xs) (map is_covered_by sets) 1 xs) c.as_slice.ensures in
    reverse_performed a t c.as_glyph.result.0 (Some glyph) false s new c.cur.result.now c.cur.ensures c.as_glyph.ensures some
    (after_performed a glyph (map is_covered_by t.backtrack) (lookahead_end (context_search a xs) (map is_covered_by t.lookahead) 1 xs) (Err c.in-Err.ahead) false s new found (attempt_performed 0 c.in-Err.ahead s new c.mark_attempt.ensures))
