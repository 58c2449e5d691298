use Rattle.std.proofs.Common.{ℕ, ◌≡◌, length, get_or, Option, None, Some, sym, ap, ◌∙◌, arith}
use Rattle.script_categories.specs.LongestMatch.{found_or, longest_up_to, state_by}
use Rattle.script_categories.specs.Machines.{accepted_kind, machine_in}
use Rattle.script_categories.proofs.Walks.{ends_here, led_on, stepped}
use Rattle.script_categories.proofs.scan.walk.Goals as goal

pub loop-i-preserved : goal.loop-i-preserved
loop-i-preserved c =
    let m = machine_in c.args.machine.now in
    let cs = c.args.categories.now in
    let i = c.loop-i.i in
    let j = c.step_end-i.result in
    let e = c.step_end-i.ensures in
    let led : state_by m (Some c.loop-i.state) (get_or cs i 0) ≡ Some c.in-Some.next = sym c.next_state.ensures ∙ c.in-Some.is in
    let on = stepped m cs i j c.loop-i.state c.in-Some.next c.loop-i-test.true e.on e.within c.loop-i.invariant.state led e.one e.alike in
    record {
      within = e.within;
      found = c.longer-found.ensures ∙ ap (λ (k : Option ℕ). found_or k j c.loop-i.found) c.kind_of.ensures
          ∙ ap (found_or (accepted_kind m c.in-Some.next) j) c.loop-i.invariant.found ∙ sym on.found;
      state = on.state;
    }

pub returns-in_default : goal.returns-in_default
returns-in_default c =
    let m = machine_in c.args.machine.now in
    let cs = c.args.categories.now in
    let i = c.loop-i.i in
    let on = led_on m cs i 0 c.loop-i.state c.loop-i-test.true c.loop-i.invariant.state in
    let none : state_by m (Some c.loop-i.state) (get_or cs i 0) ≡ None = sym c.next_state.ensures ∙ c.in_default.is in
    c.loop-i.invariant.found ∙ sym (ends_here m cs i c.loop-i-test.true (on ∙ none))

pub returns : goal.returns
returns c =
    let m = machine_in c.args.machine.now in
    let cs = c.args.categories.now in
    let le = c.loop-i.invariant.within in
    let past = c.loop-i-test.false in
    let all : c.loop-i.i ≡ length cs = omega (arith, le, past) in
    c.loop-i.invariant.found ∙ ap (longest_up_to m cs) all
