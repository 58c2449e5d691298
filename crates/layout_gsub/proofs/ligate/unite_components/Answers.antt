use Rattle.std.proofs.Common.{ℕ, ◌<◌, ◌+◌, ◌-◌, Bool, refl, sym, ap, subst, ◌∙◌, arith, slice_index_or, length}
use Rattle.std.proofs.lemmas.List.Elements.{All-get_or}
use Rattle.buffer_glyphs.specs.Items.{item_of}
use Rattle.buffer_glyphs.specs.LigatureWords.{lig_num_comps}
use Rattle.layout_gsub.specs.declared.ligate.ComponentNumbering.{ComponentNumbering}
use Rattle.layout_gsub.specs.Ligating.{passed_item}
use Rattle.layout_gsub.specs.Uniting.{ArePassedAs}
use Rattle.layout_gsub.proofs.United.{IsUniting, none_united, next_gone, component_there, all_united}
use Rattle.layout_gsub.proofs.ligate.unite_components.Goals as goal

pub loop-at-init : goal.loop-at-init
loop-at-init c =
    let n = c.args.first_numbering in
    record {
      united = none_united (item_of c.args.first) n.renumbers n.lig_id n.ended n.own c.args.others.now c.args.buffer.now c.pass_as.new.buffer c.requires.rising c.in_ok-pass_as.ensures.passed;
      renumbers = refl;
      number = refl;
      bound = c.requires.bound;
    }

pub cur-requires : goal.cur-requires
cur-requires c =
    let n = c.args.first_numbering in
    let k = c.loop-at.at-index in
    let m = c.loop-at.numbering in
    let i = slice_index_or c.args.others.now k 0 in
    let there : i < length c.args.buffer.now.ahead = All-get_or (λ q. q < length c.args.buffer.now.ahead) c.args.others.now k 0 c.loop-at-test.true c.requires.ahead in
    component_there (item_of c.args.first) n.renumbers n.lig_id n.ended n.own c.args.others.now c.args.buffer.now k c.loop-at.from m.ended m.own i (passed_item m.renumbers m.lig_id m.ended m.own) c.loop-at.buffer c.pass_between.new.buffer c.loop-at-test.true refl there c.loop-at.invariant.united c.in_ok-pass_between.ensures.passed

pub overflow_add-from : goal.overflow_add-from
overflow_add-from c =
    let k = c.loop-at.at-index in
    let i = slice_index_or c.args.others.now k 0 in
    let there : i < length c.args.buffer.now.ahead = All-get_or (λ q. q < length c.args.buffer.now.ahead) c.args.others.now k 0 c.loop-at-test.true c.requires.ahead in
    let end = c.len-end.ensures.input in
    omega (arith, there, end)

pub loop-at-preserved : goal.loop-at-preserved
loop-at-preserved c =
    let n = c.args.first_numbering in
    let k = c.loop-at.at-index in
    let m = c.loop-at.numbering in
    let v = c.loop-at.invariant in
    let s = c.args.buffer.now in
    let xs = c.args.others.now in
    let i = slice_index_or xs k 0 in
    let next = c.skip_glyph.new.self in
    let mid = c.pass_between.new.buffer in
    let g = c.cur.result.now in
    let r = c.behind-numbering.result in
    let there : i < length s.ahead = All-get_or (λ q. q < length s.ahead) xs k 0 c.loop-at-test.true c.requires.ahead in
    let P : Bool → Type 0 = λ b. ArePassedAs (passed_item b m.lig_id m.ended m.own) (i - c.loop-at.from) c.loop-at.buffer mid in
    let Q : ℕ → Type 0 = λ j. ArePassedAs (passed_item n.renumbers j m.ended m.own) (i - c.loop-at.from) c.loop-at.buffer mid in
    let passed = subst Q v.number (subst P v.renumbers c.in_ok-pass_between.ensures.passed) in
    let gone = next_gone (item_of c.args.first) n.renumbers n.lig_id n.ended n.own xs s k c.loop-at.from m.ended m.own i c.loop-at.buffer mid next g c.loop-at-test.true refl there c.cur.ensures v.united passed c.skip_glyph.ensures.skipped c.skip_glyph.ensures.origins in
    let scratch_flags = c.behind-numbering.ensures.numbering in
    let E : ℕ → Type 0 = λ e. IsUniting (item_of c.args.first) n.renumbers n.lig_id n.ended n.own xs s (k + 1) (i + 1) e (lig_num_comps (item_of g)) next in
    let O : ℕ → Type 0 = λ o. IsUniting (item_of c.args.first) n.renumbers n.lig_id n.ended n.own xs s (k + 1) (i + 1) r.ended o next in
    let long = c.behind-numbering.ensures.bound in
    let before = v.bound in
    record {
      united = subst O (sym (ap (λ (t : ComponentNumbering). t.own) scratch_flags)) (subst E (sym (ap (λ (t : ComponentNumbering). t.ended) scratch_flags)) gone);
      renumbers = ap (λ (t : ComponentNumbering). t.renumbers) scratch_flags ∙ v.renumbers;
      number = ap (λ (t : ComponentNumbering). t.lig_id) scratch_flags ∙ v.number;
      bound = omega (arith, long, before);
    }

pub returns-clause-united : goal.returns-clause-united
returns-clause-united c =
    let n = c.args.first_numbering in
    let m = c.loop-at.numbering in
    all_united (item_of c.args.first) n.renumbers n.lig_id n.ended n.own c.args.others.now c.args.buffer.now c.loop-at.at-index c.loop-at.from m.ended m.own c.loop-at.buffer c.loop-at-test.false c.loop-at.invariant.united
