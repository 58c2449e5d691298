use Rattle.std.proofs.Common.{◌+◌, Bool, nat_le, subst, arith}
use Rattle.std.specs.Prelude.{slice_range}
use Rattle.buffer_core.specs.Sides.{items_of}
use Rattle.script_khmer.specs.Runs.{IsRun}
use Rattle.script_khmer.proofs.KhmerWalk.{forms_two, forms_walked_at, vowels_walked_at}
use Rattle.script_khmer.proofs.khmer.reorder_run.Goals as goal

pub move_forms-requires-clause-two : goal.move_forms-requires-clause-two
move_forms-requires-clause-two c =
    let a = c.args in
    let r = c.requires in
    let to = a.walk.index + a.run in
    let long = r.long in
    let run = subst (λ (f : Bool). IsRun f (nat_le a.walk.count 2) (slice_range (items_of a.buffer.now) (a.start + a.walk.index) (a.start + to))) c.if-forms.true r.run in
    forms_two a.start a.end a.walk.index a.walk.count to a.buffer.now (omega (arith, long)) r.there (r.opens c.if-forms.true) run

pub returns-then-forms-clause-walked : goal.returns-then-forms-clause-walked
returns-then-forms-clause-walked c =
    let a = c.args in
    let r = c.requires in
    let to = a.walk.index + a.run in
    let long = r.long in
    let run = subst (λ (f : Bool). IsRun f (nat_le a.walk.count 2) (slice_range (items_of a.buffer.now) (a.start + a.walk.index) (a.start + to))) c.if-forms.true r.run in
    forms_walked_at a.masks.now a.start a.end a.walk.index a.walk.count to a.buffer.now c.move_forms.new.buffer r.some (omega (arith, long)) r.there r.within (r.opens c.if-forms.true) run c.move_forms.ensures

pub returns-clause-walked : goal.returns-clause-walked
returns-clause-walked c =
    let a = c.args in
    let r = c.requires in
    let to = a.walk.index + a.run in
    let run = subst (λ (f : Bool). IsRun f (nat_le a.walk.count 2) (slice_range (items_of a.buffer.now) (a.start + a.walk.index) (a.start + to))) c.if-forms.false r.run in
    vowels_walked_at a.masks.now a.start a.end a.walk.index a.walk.count to a.buffer.now c.move_run.new.buffer r.some (omega arith) r.there r.within run c.move_run.ensures
