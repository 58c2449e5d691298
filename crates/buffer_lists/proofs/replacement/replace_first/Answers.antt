use Rattle.std.proofs.Common.{◌≡◌, ◌+◌, ◌++◌, ◌∙◌, take, drop, refl, ap, sym, subst}
use Rattle.buffer_glyphs.specs.Deleting.{DeletionSides}
use Rattle.buffer_glyphs.specs.Items.{clusters}
use Rattle.buffer_glyphs.specs.Lemmas.Handed.{sides_back_clusters, sides_front_clusters}
use Rattle.buffer_lists.specs.Copies.{with_copies}
use Rattle.buffer_lists.specs.Known.{HasOrder}
use Rattle.buffer_lists.proofs.Ordered.{order_copied}
use Rattle.buffer_lists.proofs.replacement.replace_first.Goals as goal

pub returns-clause-order : goal.returns-clause-order
returns-clause-order c =
    let merged = c.merge_input-marked in
    let put = c.put_handed-end in
    let ahead = drop c.args.from merged.new.glyphs in
    let behind = take c.args.front merged.new.glyphs in
    let copied = with_copies c.args.numbers.now ahead behind in
    let gone = take c.args.count ahead in
    let sides : DeletionSides = record { front = copied; back = drop c.args.count ahead } in
    let all : clusters (take put.result put.new.glyphs) ++ clusters (drop (c.args.from + c.args.count) put.new.glyphs) ≡ clusters copied ++ clusters (drop c.args.count ahead) =
    ap (λ hs. clusters hs ++ clusters (drop (c.args.from + c.args.count) put.new.glyphs)) put.ensures.output ∙ ap (λ ns. ns ++ clusters (drop (c.args.from + c.args.count) put.new.glyphs)) (sides_front_clusters c.args.breaks gone sides)
    ∙ ap (λ hs. clusters copied ++ clusters hs) put.ensures.input ∙ ap (λ ns. clusters copied ++ ns) (sides_back_clusters c.args.breaks gone sides) in
    subst (HasOrder merged.result.1) (sym all) (order_copied merged.result.1 c.args.count c.args.numbers.now behind ahead copied refl merged.ensures.order)
