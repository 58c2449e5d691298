use Rattle.std.proofs.Common.{ℕ, length, refl, sym, ap, subst, ◌∙◌}
use Rattle.std.proofs.lemmas.List.{length-map}
use Rattle.buffer_glyphs.specs.Items.{item_of}
use Rattle.layout_tables.specs.declared.context.ContextSubtable.{ContextSubtable}
use Rattle.layout_contexts.specs.Chains.{coverage_chain}
use Rattle.layout_contexts.specs.Rules.{BeginWithin, chains_of}
use Rattle.layout_contexts.proofs.Beginning.{all_begin, classes_begin, glyphs_begin}
use Rattle.layout_contexts.proofs.rules.rules_at.Goals as goal

pub returns-in-Glyphs : goal.returns-in-Glyphs
returns-in-Glyphs c =
    let x = item_of c.args.info.now in
    let start = c.beginning_with.result.0 in
    let end = c.beginning_with.result.1 in
    let P : ContextSubtable → Type 0 = λ s. BeginWithin x (chains_of s) start end in
    subst P (sym c.in-Glyphs.is) (glyphs_begin x c.args.info.now.glyph_id c.in-Glyphs.rules start end refl c.beginning_with.ensures)

pub returns-in-Classes : goal.returns-in-Classes
returns-in-Classes c =
    let x = item_of c.args.info.now in
    let start = c.beginning_with-in-Classes.result.0 in
    let end = c.beginning_with-in-Classes.result.1 in
    let P : ContextSubtable → Type 0 = λ s. BeginWithin x (chains_of s) start end in
    subst P (sym c.in-Classes.is) (classes_begin x c.in-Classes.rules c.class_of.result start end (sym c.class_of.ensures) c.beginning_with-in-Classes.ensures)

pub returns-in-Coverage : goal.returns-in-Coverage
returns-in-Coverage c =
    let x = item_of c.args.info.now in
    let all = chains_of c.args.subtable.now in
    let P : ℕ → Type 0 = λ n. BeginWithin x all 0 n in
    let long = ap (λ (s : ContextSubtable). length (chains_of s)) c.in-Coverage.is ∙ length-map c.in-Coverage.rules coverage_chain ∙ sym c.len.ensures in
    subst P long (all_begin x all)
