use Rattle.std.proofs.Common.{ap, ◌∙◌}
use Rattle.geo_model.specs.Events.{spoil}
use Rattle.geo_event.specs.EventQueue.{Queued}
use Rattle.geo_life.specs.Life.{queued, sound_providers}
use Rattle.geo_moves.proofs.Effects.{rest-of, owed-same, room-of, room-after, spoil-kept, spoil-done}
use Rattle.geo_moves.proofs.events.spoil_above.Goals as goal

-- a place is owed to each provider without an error, and is kept
pub spoil-requires-clause-room : goal.spoil-requires-clause-room
spoil-requires-clause-room c =
    room-after (sound_providers c.args.state.now.topo.topology) c.args.state.now.queue c.drop_head.new.self
    c.drop_head.ensures (room-of c.args.state.now c.requires.stands.kept)

pub returns-clause-made : goal.returns-clause-made
returns-clause-made c =
    spoil-done c.args.state.now c.requires.stands.kept c.spoil.new.topo c.spoil.new.queue c.args.prov
    (c.spoil.ensures.spoiled
    ∙ ap (λ (r : Queued). spoil (queued c.args.state.now.topo r) c.args.prov) c.drop_head.ensures)

-- an error takes one place, and one place less is owed then; no part comes or goes
pub returns-clause-kept : goal.returns-clause-kept
returns-clause-kept c =
    spoil-kept c.args.state.now c.requires.stands.kept c.spoil.new.topo c.spoil.new.queue
    (rest-of c.args.state.now c.drop_head.new.self c.drop_head.ensures c.spoil.new.topo c.spoil.new.queue
    c.spoil.ensures.rest)
    c.spoil.ensures.kept
    (owed-same c.args.state.now c.drop_head.new.self c.drop_head.ensures c.spoil.new.topo c.spoil.new.queue
    c.spoil.ensures.owed)
    c.args.prov
    (c.spoil.ensures.spoiled
    ∙ ap (λ (r : Queued). spoil (queued c.args.state.now.topo r) c.args.prov) c.drop_head.ensures)
