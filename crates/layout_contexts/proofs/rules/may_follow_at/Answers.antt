use Rattle.std.proofs.Common.{◌≡◌, ◌<◌, length, map, slice_get, Some, sym, ap, subst, ◌∙◌}
use Rattle.layout_tables.specs.declared.context.ContextSubtable.{ContextSubtable}
use Rattle.layout_contexts.specs.Chains.{class_chain, glyph_chain}
use Rattle.layout_contexts.specs.Following.{may_follow}
use Rattle.layout_contexts.specs.Rules.{chains_of}
use Rattle.layout_contexts.proofs.Followed.{test_there}
use Rattle.layout_contexts.proofs.rules.may_follow_at.Goals as goal

pub returns-in-Glyphs-clause-tested : goal.returns-in-Glyphs-clause-tested
returns-in-Glyphs-clause-tested c tested =
    let next = c.args.next.now in
    let P : ContextSubtable → Type 0 = λ s. c.args.i < length (chains_of s) → slice_get (map (may_follow next) (chains_of s)) c.args.i ≡ Some c.glyphs_may_follow.result in
    subst P (sym c.in-Glyphs.is) (λ lt. test_there next glyph_chain c.as_slice.result.now c.in-Glyphs.rules c.args.i c.index-as_slice-i.result c.glyphs_may_follow.result lt c.as_slice.ensures c.index-as_slice-i.is c.glyphs_may_follow.ensures) c.requires

pub returns-in-Glyphs-clause-excluded : goal.returns-in-Glyphs-clause-excluded
returns-in-Glyphs-clause-excluded c none =
    let next = c.args.next.now in
    let P : ContextSubtable → Type 0 = λ s. c.args.i < length (chains_of s) → slice_get (map (may_follow next) (chains_of s)) c.args.i ≡ Some c.glyphs_may_follow.result in
    subst P (sym c.in-Glyphs.is) (λ lt. test_there next glyph_chain c.as_slice.result.now c.in-Glyphs.rules c.args.i c.index-as_slice-i.result c.glyphs_may_follow.result lt c.as_slice.ensures c.index-as_slice-i.is c.glyphs_may_follow.ensures) c.requires ∙ ap Some none

pub returns-in-Classes-clause-tested : goal.returns-in-Classes-clause-tested
returns-in-Classes-clause-tested c tested =
    let next = c.args.next.now in
    let s = c.in-Classes.rules in
    let P : ContextSubtable → Type 0 = λ s. c.args.i < length (chains_of s) → slice_get (map (may_follow next) (chains_of s)) c.args.i ≡ Some c.classes_may_follow.result in
    subst P (sym c.in-Classes.is) (λ lt. test_there next (class_chain s) c.as_slice-in-Classes.result.now s.rules c.args.i c.index-as_slice-i-in-Classes.result c.classes_may_follow.result lt c.as_slice-in-Classes.ensures c.index-as_slice-i-in-Classes.is c.classes_may_follow.ensures) c.requires

pub returns-in-Classes-clause-excluded : goal.returns-in-Classes-clause-excluded
returns-in-Classes-clause-excluded c none =
    let next = c.args.next.now in
    let s = c.in-Classes.rules in
    let P : ContextSubtable → Type 0 = λ s. c.args.i < length (chains_of s) → slice_get (map (may_follow next) (chains_of s)) c.args.i ≡ Some c.classes_may_follow.result in
    subst P (sym c.in-Classes.is) (λ lt. test_there next (class_chain s) c.as_slice-in-Classes.result.now s.rules c.args.i c.index-as_slice-i-in-Classes.result c.classes_may_follow.result lt c.as_slice-in-Classes.ensures c.index-as_slice-i-in-Classes.is c.classes_may_follow.ensures) c.requires ∙ ap Some none
