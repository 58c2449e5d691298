use Rattle.std.proofs.Common.{◌≡◌, ◌+◌, ◌∷◌, [], length, arith}
use Rattle.buffer_glyphs.specs.Events.{Concat}
use Rattle.buffer_core.specs.Sides.{all_glyphs}
use Rattle.buffer_stages.specs.Stages.{Happens}
use Rattle.script_joining.proofs.Marked.{changed_between, concat_happens, kept_between, many_as_before, tatweel_happens}
use Rattle.script_joining.proofs.flags.flag_between.Goals as goal

pub returns-then-not-keeps_form : goal.returns-then-not-keeps_form
returns-then-not-keeps_form c =
    let p = c.args.letter in
    let end = c.args.at + 1 in
    let s = c.args.buffer.now in
    let new = c.safe_to_insert_tatweel.new.self in
    let call = c.safe_to_insert_tatweel.ensures in
    changed_between p c.args.joining c.args.at c.keeps_form.result s new c.keeps_form.ensures c.if-not-keeps_form.true (tatweel_happens p.at end s new call.marked call.items call.origins c.requires.ready)

pub flag_form-requires-clause-ready : goal.flag_form-requires-clause-ready
flag_form-requires-clause-ready c =
    let call = c.unsafe_to_concat.ensures in
    let h : Happens (Concat c.args.letter.at (c.args.at + 1) ∷ []) c.args.buffer.now c.unsafe_to_concat.new.self =
    concat_happens c.args.letter.at (c.args.at + 1) c.args.buffer.now c.unsafe_to_concat.new.self call.marked call.items call.origins c.requires.ready in
    h.ready

pub flag_form-requires-clause-within : goal.flag_form-requires-clause-within
flag_form-requires-clause-within c =
    let s = c.args.buffer.now in
    let mid = c.unsafe_to_concat.new.self in
    let call = c.unsafe_to_concat.ensures in
    let es = Concat c.args.letter.at (c.args.at + 1) ∷ [] in
    let many : length (all_glyphs mid) ≡ length (all_glyphs s) = many_as_before es s mid (concat_happens c.args.letter.at (c.args.at + 1) s mid call.marked call.items call.origins c.requires.ready) in
    let within = c.requires.within in
    omega (arith, many, within)

pub returns : goal.returns
returns c =
    let p = c.args.letter in
    let s = c.args.buffer.now in
    let mid = c.unsafe_to_concat.new.self in
    let call = c.unsafe_to_concat.ensures in
    let h = concat_happens p.at (c.args.at + 1) s mid call.marked call.items call.origins c.requires.ready in
    kept_between p c.args.joining c.args.at c.keeps_form.result s mid c.flag_form.new.buffer c.keeps_form.ensures c.if-not-keeps_form.false h c.flag_form.ensures
