use Rattle.std.proofs.Common.{◌≡◌, ◌+◌, ◌-◌, ◌*◌, ◌++◌, None, true, sym, subst, arith, List, ℕ}
use Rattle.std.specs.Ordering.{nat_cmp}
use Rattle.buffer_rows.specs.Keys.{is_rising}
use Rattle.layout_face.specs.Names.{GlyphName}
use Rattle.font_bytes.specs.Words.{word}
use Rattle.font_names.specs.Names.{name_row, name_rows, indexed_name}
use Rattle.font_names.proofs.Rows.{name_pushed, name_end, name_rows_rise}
use Rattle.font_names.proofs.names.indexed_rows.Goals as goal

pub loop-glyph-preserved : goal.loop-glyph-preserved
loop-glyph-preserved c =
    let pushed = name_pushed (λ g. indexed_name c.args.post.now c.in_ok-starts.starts.items c.in_ok-standard.standard.items (word c.args.post.now (34 + 2 * g))) c.loop-glyph.rows.items (name_rows (λ g. indexed_name c.args.post.now c.in_ok-starts.starts.items c.in_ok-standard.standard.items (word c.args.post.now (34 + 2 * g))) 0 c.args.count) c.args.count c.loop-glyph.glyph (omega arith) c.loop-glyph.invariant in
    cc (pushed, c.in_ok-push_indexed.ensures.ok, c.deref.ensures.value, c.deref-in-loop-glyph.ensures.value)

pub new-requires : goal.new-requires
new-requires c =
    let all : c.loop-glyph.rows.items ≡ name_rows (λ g. indexed_name c.args.post.now c.in_ok-starts.starts.items c.in_ok-standard.standard.items (word c.args.post.now (34 + 2 * g))) 0 c.args.count = name_end (λ g. indexed_name c.args.post.now c.in_ok-starts.starts.items c.in_ok-standard.standard.items (word c.args.post.now (34 + 2 * g))) c.loop-glyph.rows.items (name_rows (λ g. indexed_name c.args.post.now c.in_ok-starts.starts.items c.in_ok-standard.standard.items (word c.args.post.now (34 + 2 * g))) 0 c.args.count) c.loop-glyph.glyph c.args.count (omega arith) c.loop-glyph.invariant in
    subst (λ (rows : List GlyphName). is_rising nat_cmp (λ r. r.glyph) None rows ≡ true) (sym all) (name_rows_rise (λ g. indexed_name c.args.post.now c.in_ok-starts.starts.items c.in_ok-standard.standard.items (word c.args.post.now (34 + 2 * g))) c.args.count)
