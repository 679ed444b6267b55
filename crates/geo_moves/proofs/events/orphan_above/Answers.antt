use Rattle.std.proofs.Common.{ap, ◌∙◌}
use Rattle.geo_model.specs.Events.{orphan}
use Rattle.geo_event.specs.EventQueue.{Queued}
use Rattle.geo_life.specs.Life.{queued, sound_providers}
use Rattle.geo_moves.proofs.Effects.{rest-of, owed-same, room-of, room-after, orphan-kept, orphan-from}
use Rattle.geo_moves.proofs.events.orphan_above.Goals as goal

-- a place is owed to each provider without an error, and is kept
pub orphan-requires : goal.orphan-requires
orphan-requires c = record {
  room =
      room-after (sound_providers c.kill_at.new.state.topo.topology) c.kill_at.new.state.queue c.drop_head.new.self
      c.drop_head.ensures (room-of c.kill_at.new.state c.kill_at.ensures.kept);
}

-- the model lets the handles die and then the geoms above wither too
pub returns-clause-made : goal.returns-clause-made
returns-clause-made c =
    orphan-from c.args.state.now c.kill_at.new.state c.args.prov c.kill_at.ensures.killed
    c.orphan.new.topo c.orphan.new.queue
    (c.orphan.ensures.orphaned
    ∙ ap (λ (r : Queued). orphan (queued c.kill_at.new.state.topo r) c.args.prov) c.drop_head.ensures)

-- an error takes one place, and one place less is owed then; no part comes or goes
pub returns-clause-kept : goal.returns-clause-kept
returns-clause-kept c =
    orphan-kept c.kill_at.new.state c.kill_at.ensures.kept c.orphan.new.topo c.orphan.new.queue
    (rest-of c.kill_at.new.state c.drop_head.new.self c.drop_head.ensures c.orphan.new.topo c.orphan.new.queue
    c.orphan.ensures.rest)
    c.orphan.ensures.kept
    (owed-same c.kill_at.new.state c.drop_head.new.self c.drop_head.ensures c.orphan.new.topo c.orphan.new.queue
    c.orphan.ensures.owed)
    c.args.prov
    (c.orphan.ensures.orphaned
    ∙ ap (λ (r : Queued). orphan (queued c.kill_at.new.state.topo r) c.args.prov) c.drop_head.ensures)
