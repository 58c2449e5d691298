use Rattle.std.proofs.Common.{ℕ, ◌≡◌, List, length, map, ap, sym, ◌∙◌, rules, slice_index_or, arith, false}
use Rattle.std.proofs.lemmas.List.{length-map}
use lib.IntN.{pos}
use Rattle.buffer_glyphs.specs.declared.info.hb_glyph_info_t.{hb_glyph_info_t}
use Rattle.c_lines.specs.declared.types.kus_line_t.{kus_line_t}
use Rattle.c_lines.specs.Checked.{checked_line, first_from, line_between}
use Rattle.c_lines.proofs.Checking.{first_zero, mapped_next}
use Rattle.c_lines.proofs.checked.check_each.Goals as goal

abbrev numbers : List hb_glyph_info_t → List ℕ
numbers gs = map (λ (g : hb_glyph_info_t). g.glyph_id) gs

abbrev no_line : kus_line_t
no_line = record { start = 0; end = 0; width = pos 0; first_glyph = 0; end_glyph = 0; is_own = false }

pub loop-k-init : goal.loop-k-init
loop-k-init c = record { lines = search rules; index = sym (first_zero c.args.infos.now) }

pub checked-requires : goal.checked-requires
checked-requires c =
    let same : length c.args.text.now ≡ length c.args.infos.now = ap length c.requires ∙ length-map c.args.infos.now (λ (g : hb_glyph_info_t). g.glyph_id) in
    record { from = omega (arith, same, c.first_from-from.ensures.within); to = omega (arith, same, c.first_from-to.ensures.within); marks = c.of_text-marks.ensures }

pub loop-k-preserved : goal.loop-k-preserved
loop-k-preserved c =
    let s = c.loop-k in
    let b = c.args.premises in let t = c.args.tables.now in let plan = c.args.plan.now in
    let gs = c.args.infos.now in
    let line : kus_line_t = slice_index_or s.lines s.k no_line in
    record {
      lines = mapped_next (checked_line b t plan gs) c.args.lines.now s.lines s.k no_line c.checked.result s.invariant.lines (search rules)
          (c.checked.ensures ∙ ap (λ us. line_between b t plan us c.first_from-from.result c.first_from-to.result line) c.requires
          ∙ ap (λ n. line_between b t plan (numbers gs) n c.first_from-to.result line) c.first_from-from.ensures.is ∙ ap (λ n. line_between b t plan (numbers gs) (first_from line.start gs) n line) c.first_from-to.ensures.is);
      index = c.first_from-to.ensures.is;
    }
