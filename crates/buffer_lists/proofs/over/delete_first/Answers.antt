use Rattle.std.proofs.Common.{List, ◌≡◌, ◌+◌, ◌++◌, ◌∙◌, length, take, drop, rules, arith, ap, sym, subst}
use Rattle.std.proofs.lemmas.Grind.{common_steps}
use Rattle.std.proofs.lemmas.List.{length-drop, take-take}
use Rattle.buffer_glyphs.specs.declared.info.hb_glyph_info_t.{hb_glyph_info_t as Glyph}
use Rattle.buffer_glyphs.specs.Items.{clusters}
use Rattle.buffer_glyphs.specs.Deleting.{Deletes}
use Rattle.buffer_lists.specs.Known.{HasOrder}
use Rattle.buffer_lists.proofs.Fronts.{seam_front, seam_rest}
use Rattle.buffer_lists.proofs.over.delete_first.Goals as goal
use Rattle.buffer_lists.proofs.over.delete_first.Goals.{After-glyphs-2-1}

-- what stands between both lists
abbrev mid : After-glyphs-2-1 → List Glyph
mid c = drop c.args.front c.split_at_mut-before.result.0.now

wide : (c : After-glyphs-2-1) → length c.delete_first.new.output ≡ c.args.front
wide c = first_of (search rules, grind (arith, common_steps))

before : (c : After-glyphs-2-1) → take c.args.front c.split_at_mut-before.result.0.now ≡ take c.args.front c.args.glyphs.now
before c = ap (take c.args.front) c.split_at_mut-before.ensures.front ∙ take-take c.args.front c.args.from c.args.glyphs.now c.requires.apart

output : (c : After-glyphs-2-1) → c.delete_first.new.output ≡ take c.args.front (c.delete_first.new.output ++ mid c ++ c.delete_first.new.input)
output c = sym (seam_front c.delete_first.new.output (mid c) c.delete_first.new.input c.args.front (wide c))

input : (c : After-glyphs-2-1) → drop 1 c.delete_first.new.input ≡ drop (c.args.from + 1) (c.delete_first.new.output ++ mid c ++ c.delete_first.new.input)
input c =
    let some = wide c in
    let long = length-drop c.args.front c.split_at_mut-before.result.0.now in
    sym (seam_rest c.delete_first.new.output (mid c) c.delete_first.new.input c.args.from 1 (omega (arith, some, long, c.split_at_mut-before.ensures.front_len, c.requires.apart)))

pub returns-clause-deleted : goal.returns-clause-deleted
returns-clause-deleted c =
    let gone = rw (before c, c.split_at_mut-before.ensures.back) at c.delete_first.ensures.deleted in
    let old = take c.args.front c.args.glyphs.now in
    let rest = drop c.args.from c.args.glyphs.now in
    subst (λ (hs : List Glyph). Deletes c.args.level old rest (take c.args.front (c.delete_first.new.output ++ mid c ++ c.delete_first.new.input)) hs c.delete_first.result) (input c)
    (subst (λ (hs : List Glyph). Deletes c.args.level old rest hs (drop 1 c.delete_first.new.input) c.delete_first.result) (output c) gone)

pub returns-clause-order : goal.returns-clause-order
returns-clause-order c =
    subst (λ (hs : List Glyph). HasOrder c.args.known (clusters (take c.args.front (c.delete_first.new.output ++ mid c ++ c.delete_first.new.input)) ++ clusters hs)) (input c)
    (subst (λ (hs : List Glyph). HasOrder c.args.known (clusters hs ++ clusters (drop 1 c.delete_first.new.input))) (output c) c.delete_first.ensures.order)
