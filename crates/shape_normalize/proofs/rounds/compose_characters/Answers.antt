use Rattle.std.proofs.Common.{[], length, ap, sym, subst, ◌∙◌, ◌≤◌}
use Rattle.buffer_glyphs.specs.Items.{strip}
use Rattle.buffer_core.specs.Sides.{Sides, items_of}
use Rattle.buffer_properties.specs.Composing.{composed_list}
use Rattle.buffer_stages.specs.Appending.{AppendsArrangement}
use Rattle.shape_normalize.proofs.Joined.{list_arranged}
use Rattle.shape_normalize.proofs.Room.{opened_room}
use Rattle.shape_normalize.proofs.rounds.compose_characters.Goals as goal

pub compose_list-requires-clause-room : goal.compose_list-requires-clause-room
compose_list-requires-clause-room g c =
    opened_room c.args.buffer.now c.clear_output.new.self c.requires.ready c.clear_output.ensures.after
    (subst (λ n. n ≤ c.args.buffer.now.max_len) (c.len-count.ensures.count c.requires.ready.closed) (c.len-count.ensures.within c.requires.ready.closed))

pub compose_list-requires-clause-front : goal.compose_list-requires-clause-front
compose_list-requires-clause-front g c = ap (λ (s : Sides). s.behind) c.clear_output.ensures.after

pub compose_list-requires-clause-counted : goal.compose_list-requires-clause-counted
compose_list-requires-clause-counted g c = c.len-count.ensures.count c.requires.ready.closed ∙ ap (λ (s : Sides). length s.ahead) (sym c.clear_output.ensures.after)

pub returns-clause-ok : goal.returns-clause-ok
returns-clause-ok g c =
    list_arranged (composed_list (g.N.Normalizing.normalizer c.args.by.now) (items_of c.args.buffer.now)) c.args.buffer.now c.compose_list.new.buffer c.join_output.new.buffer c.requires.ready
    (subst (λ (s : Sides). AppendsArrangement (composed_list (g.N.Normalizing.normalizer c.args.by.now) (strip s.ahead)) [] s c.compose_list.new.buffer) c.clear_output.ensures.after c.in_ok-compose_list.ensures.ok)
    c.in_ok-join_output.ensures.ok
