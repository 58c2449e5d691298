use Rattle.std.proofs.Common.{rules, arith}
use Rattle.buffer_glyphs.specs.Items.{item_of}
use Rattle.script_khmer.proofs.KhmerMoves.{vowel_met_does, vowel_not_met_does}
use Rattle.script_khmer.proofs.khmer.reorder_vowel.Goals as goal

pub returns-clause-rewritten : goal.returns-clause-rewritten
returns-clause-rewritten c = vowel_met_does c.args.start c.args.end c.args.index c.args.count (item_of c.args.glyph) c.args.buffer.now c.first_to_back.new.buffer (search rules) c.requires.there c.requires.within c.first_to_back.ensures

pub returns-then-glyph-ne-OT_VPre-clause-rewritten : goal.returns-then-glyph-ne-OT_VPre-clause-rewritten
returns-then-glyph-ne-OT_VPre-clause-rewritten c = let last = c.requires.there in vowel_not_met_does c.args.start c.args.end c.args.index c.args.count (item_of c.args.glyph) c.args.buffer.now (search rules) (omega (arith, last)) c.requires.ready
