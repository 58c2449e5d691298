use Rattle.std.proofs.Common.{◌≡◌, ◌-◌, ◌<◌, length, Some, None, refl, ap, subst, ◌∙◌, arith}
use Rattle.json.specs.Json.{after_end_array, items, parse_map, value}
use Rattle.serde_json.specs.Data.{no_items, item}
use Rattle.serde_json.specs.Read.{of_items, converted}
use Rattle.shell_json.proofs.Reading.{item_read, items_over, none_before}
use Rattle.shell_json.specs.TextValues.{BeginsWith}
use Rattle.shell_face_json.proofs.OfText.InTurn.{first_items, item_before, last_items, one_more}
use Rattle.shell_face_json.proofs.text.rows.take_items.Goals as goal

pub items-init : goal.items-init
items-init g c =
    let all = converted of_items (items (value c.args.depth) (length c.args.reader.now) c.args.reader.now) in
    (length c.args.reader.now, omega arith, omega arith, λ ds. ds, none_before all, λ ds. first_items (g.P.FromJson.font_value c.args.limit) ds _ c.new-items.ensures.items)

pub items-preserved : goal.items-preserved
items-preserved g c =
    let p = value c.args.depth in
    let l = c.items in
    let n = l.invariant.0 in
    let before = l.invariant.3 in
    let going : (after_end_array l.reader ≡ None) × (c.take_end_array.new.self ≡ l.reader) = grind arith in
    let less : length c.take_item.new.reader < length l.reader = rw (← going.1) c.in_ok-item.ensures.shorter in
    let took = c.in_ok-item.ensures.ok in
    let r = c.take_item.new.reader in
    let begins = subst (λ ts. BeginsWith c.args.depth ts took.0 r) going.1 took.1 in
    let turn = item_read p n l.reader r took.0 (omega (arith, less, l.invariant.1)) going.0 begins in (
      n - 1,
      omega (arith, less, l.invariant.1),
      omega (arith, less, l.invariant.2),
      λ ds. before (item took.0 ds),
      l.invariant.4 ∙ ap (parse_map before) turn ∙ item_before before took.0 (converted of_items (items p (n - 1) r)),
      λ ds. l.invariant.5 (item took.0 ds) ∙ one_more (g.P.FromJson.font_value c.args.limit) l.items.items took.0 ds (item took.0 ds) c.in_ok-item.item _ refl took.2 c.in_ok-push.ensures.items,
    )

pub returns-clause-ok : goal.returns-clause-ok
returns-clause-ok g c =
    let l = c.items in
    let r = c.take_end_array.new.self in
    let closed : after_end_array l.reader ≡ Some r = grind arith in
    let before = l.invariant.3 in (
      before no_items,
      l.invariant.4 ∙ ap (parse_map before) (items_over (value c.args.depth) l.invariant.0 l.reader r l.invariant.1 closed),
      l.invariant.5 no_items ∙ last_items (g.P.FromJson.font_value c.args.limit) l.items.items no_items refl,
    )
