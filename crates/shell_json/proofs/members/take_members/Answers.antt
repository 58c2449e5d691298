use Rattle.std.proofs.Common.{◌≡◌, ◌-◌, length, Some, None, refl, ◌∙◌, arith}
use Rattle.json.specs.Json.{read_key, value}
use Rattle.json.proofs.Grammar.{read_key-shorter}
use Rattle.serde_json.specs.Data.{no_members, put}
use Rattle.shell_json.proofs.Reading.{member_read, members_over}
use Rattle.shell_json.proofs.members.take_members.Goals as goal

pub members-init : goal.members-init
members-init g c = (length c.args.reader.now, omega arith, omega arith, λ h. (no_members, refl, h))

pub members-preserved : goal.members-preserved
members-preserved g c =
    let p = value c.args.depth in
    let l = c.members in
    let n = l.invariant.0 in
    let k = c.in-Some.name.now in
    let s = c.next_key.new.self in
    let named : read_key l.reader ≡ Some (Some k, s) = grind arith in
    let r = c.take_member.new.reader in
    let less = read_key-shorter l.reader (Some k) s named in
    let lesser = c.in_ok-take_member.ensures.shorter in
    let done = c.in_ok-take_member.ensures.ok in (
      n - 1,
      omega (arith, less, lesser, l.invariant.1),
      omega (arith, less, lesser, l.invariant.2),
      λ h.
          let was = l.invariant.3 h in (
            put k done.0 was.0,
            was.1 ∙ member_read p was.0 n k l.reader s r done.0 (omega (arith, less, l.invariant.1)) named done.1,
            done.2 was.0 was.2,
          ),
    )

pub returns-clause-ok : goal.returns-clause-ok
returns-clause-ok g c =
    λ h.
    let l = c.members in
    let r = c.next_key.new.self in
    let over : read_key l.reader ≡ Some (None, r) = grind arith in
    let was = l.invariant.3 h in
    (was.0, was.1 ∙ members_over (value c.args.depth) was.0 l.invariant.0 l.reader r l.invariant.1 over, was.2)
