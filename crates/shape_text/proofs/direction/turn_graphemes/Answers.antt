use Rattle.std.proofs.Common.{rules, ap, ◌∙◌}
use Rattle.buffer_glyphs.specs.Items.{item_of}
use Rattle.buffer_stages.specs.LayoutStages.{merges_graphemes}
use Rattle.shape_text.specs.NativeOrder.{continues_grapheme}
use Rattle.shape_text.proofs.Turned.{turned_followed}
use Rattle.shape_text.proofs.direction.turn_graphemes.Goals as goal

pub returns : goal.returns
returns c =
    let s = c.args.buffer.now in
    let mid = c.reverse_groups.new.self in
    let calls = c.reverse_groups.ensures in
    rw (c.set_direction.ensures, c.reverse-direction.ensures, c.direction.ensures)
    (turned_followed s mid (λ g h. continues_grapheme (item_of g) (item_of h)) c.merges_graphemes-merge.result (c.merges_graphemes-merge.ensures ∙ ap merges_graphemes c.cluster_level.ensures)
    (calls.turned (λ g h. continues_grapheme (item_of g) (item_of h)) (λ g h b r. search rules))
    (calls.items continues_grapheme (λ g h b r. search rules))
    (calls.positions continues_grapheme (λ g h b r. search rules))
    (calls.origins continues_grapheme (λ g h b r. search rules))
    calls.count c.requires)
