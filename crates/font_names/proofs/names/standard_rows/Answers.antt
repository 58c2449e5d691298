use Rattle.std.proofs.Common.{◌≡◌, ◌+◌, ◌-◌, ◌*◌, ◌++◌, None, true, sym, subst, arith, List, ℕ}
use Rattle.std.specs.Ordering.{nat_cmp}
use Rattle.buffer_rows.specs.Keys.{is_rising}
use Rattle.layout_face.specs.Names.{GlyphName}
use Rattle.font_names.specs.Strings.{string_in}
use Rattle.font_names.specs.Names.{name_row, name_rows}
use Rattle.font_names.proofs.Rows.{name_pushed, name_end, name_rows_rise}
use Rattle.font_names.proofs.names.standard_rows.Goals as goal

pub loop-glyph-preserved : goal.loop-glyph-preserved
loop-glyph-preserved c =
    let pushed = name_pushed (string_in c.macintosh_strings-names.result.now c.in_ok-starts.starts.items) c.loop-glyph.rows.items (name_rows (string_in c.macintosh_strings-names.result.now c.in_ok-starts.starts.items) 0 c.min-glyph-end.result) c.min-glyph-end.result c.loop-glyph.glyph (omega arith) c.loop-glyph.invariant in
    cc (pushed, c.in_ok-push_name.ensures.ok, c.string_in.ensures, c.deref.ensures.value, c.from.ensures)

pub new-requires : goal.new-requires
new-requires c =
    let all : c.loop-glyph.rows.items ≡ name_rows (string_in c.macintosh_strings-names.result.now c.in_ok-starts.starts.items) 0 c.min-glyph-end.result = name_end (string_in c.macintosh_strings-names.result.now c.in_ok-starts.starts.items) c.loop-glyph.rows.items (name_rows (string_in c.macintosh_strings-names.result.now c.in_ok-starts.starts.items) 0 c.min-glyph-end.result) c.loop-glyph.glyph c.min-glyph-end.result (omega arith) c.loop-glyph.invariant in
    subst (λ (rows : List GlyphName). is_rising nat_cmp (λ r. r.glyph) None rows ≡ true) (sym all) (name_rows_rise (string_in c.macintosh_strings-names.result.now c.in_ok-starts.starts.items) c.min-glyph-end.result)
