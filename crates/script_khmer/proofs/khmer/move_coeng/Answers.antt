use Rattle.std.proofs.Common.{◌+◌, arith}
use Rattle.script_khmer.proofs.KhmerMoves.{coeng_does, masked_count, moved_count}
use Rattle.script_khmer.proofs.khmer.move_coeng.Goals as goal

pub add_mask-requires-2-clause-within : goal.add_mask-requires-2-clause-within
add_mask-requires-2-clause-within c =
    let start = c.args.start in
    let to = c.args.start + (c.args.index + 2) in
    let there = c.requires.there in
    let within = c.requires.within in
    let first = masked_count c.args.masks.now.pref (start + c.args.index) to c.args.buffer.now c.add_mask.new.buffer (omega arith) (omega (arith, there, within)) c.add_mask.ensures in
    let second = moved_count c.args.index start to c.add_mask.new.buffer c.first_to_back.new.buffer (omega arith) (omega (arith, there, within, first)) c.first_to_back.ensures in
    omega (arith, first, second, within)

pub returns : goal.returns
returns c = coeng_does c.args.masks.now c.args.start c.args.end c.args.index c.args.buffer.now c.add_mask.new.buffer c.first_to_back.new.buffer c.add_mask-2.new.buffer c.requires.there c.requires.within c.add_mask.ensures c.first_to_back.ensures c.add_mask-2.ensures
