use Rattle.std.proofs.Common.{rules, tests, ◌==◌, ◌∙◌}
use Rattle.std.specs.Int.RustNames.{bit_or}
use Rattle.std.proofs.lemmas.Iterator.{YieldsList-from_map, YieldsList-from_slice}
use Rattle.std.proofs.lemmas.Iterator.Consumers.{YieldsList-at, fold_from_yields_List}
use Rattle.std.proofs.lemmas.Iterator.Search.{YieldsList-from_take_while}
use Rattle.buffer_glyphs.specs.declared.info.hb_glyph_info_t.{hb_glyph_info_t as Glyph}
use Rattle.buffer_glyphs.specs.Items.{glyph_flags}
use Rattle.buffer_glyphs.proofs.RunFlags.{run_folded}
use Rattle.buffer_glyphs.proofs.run_flags.flags_of_run.Goals as goal

pub returns : goal.returns
returns c =
    fold_from_yields_List _ bit_or 0 c.fold.result c.fold.ensures.ran
    (YieldsList-from_map _ glyph_flags (YieldsList-at c.map.ensures.source (YieldsList-from_take_while _ (λ (g : Glyph). g.cluster == c.args.cluster)
    (YieldsList-from_slice c.args.glyphs.now (cc)) c.take_while.ensures.closure c.take_while.ensures.done (λ x b q k. search (rules, tests)))) c.map.ensures.closure (λ x b q k. search (rules, tests)))
    (λ a x b q k. search (rules, tests))
    ∙ run_folded c.args.cluster c.args.glyphs.now
