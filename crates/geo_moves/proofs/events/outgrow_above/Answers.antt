use Rattle.std.specs.Prelude.{◌+◌}
use Rattle.geo_model.proofs.FirmLemmas.{sound_of, steady_of}
use Rattle.geo_life.specs.Life.{sound_providers}
use Rattle.geo_life.proofs.Spared.{handles_are_spared}
use Rattle.geo_state.specs.World.{world}
use Rattle.geo_moves.proofs.Effects.{rest-of, owed-one, room-for, room-after, resize-kept, resize-done, resized-from}
use Rattle.geo_moves.proofs.events.outgrow_above.Goals as goal

-- in a sound and steady world no taste made DEV
pub resize-requires-clause-made : goal.resize-requires-clause-made
resize-requires-clause-made c =
    let w = world c.requires.stands.firm.1.0 c.requires.stands.firm.0 c.args.state.now in
    handles_are_spared.made w (sound_of w c.requires.stands.firm.1.1) (steady_of w c.requires.stands.firm.1.1)

-- a place is owed to each provider without an error, and the head leaves the one more
pub resize-requires-clause-room : goal.resize-requires-clause-room
resize-requires-clause-room c =
    room-after (sound_providers c.args.state.now.topo.topology + 1) c.args.state.now.queue c.drop_head.new.self
    c.drop_head.ensures (room-for c.args.state.now c.requires.stands.kept)

-- the stored counts are those of the world's grants, so the same geoms have outgrown
pub returns-clause-made : goal.returns-clause-made
returns-clause-made c =
    resize-done c.args.state.now c.requires.stands.kept c.resize.new.topo c.resize.new.queue c.args.prov
    (resized-from c.args.state.now c.drop_head.new.self c.drop_head.ensures c.resize.new.topo c.resize.new.queue
    c.args.prov c.resize.ensures.resized)

-- an error takes one place and an offer the head's, and no part comes or goes
pub returns-clause-kept : goal.returns-clause-kept
returns-clause-kept c =
    resize-kept c.args.state.now c.requires.stands.kept c.resize.new.topo c.resize.new.queue
    (rest-of c.args.state.now c.drop_head.new.self c.drop_head.ensures c.resize.new.topo c.resize.new.queue
    c.resize.ensures.rest)
    c.resize.ensures.kept
    (owed-one c.args.state.now c.drop_head.new.self c.drop_head.ensures c.resize.new.topo c.resize.new.queue
    c.resize.ensures.owed)
    c.args.prov
    (resized-from c.args.state.now c.drop_head.new.self c.drop_head.ensures c.resize.new.topo c.resize.new.queue
    c.args.prov c.resize.ensures.resized)
