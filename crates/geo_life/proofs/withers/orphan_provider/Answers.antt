use Rattle.std.proofs.Common.{arith, ap, ◌≡◌, ◌+◌, ◌-◌}
use Rattle.geo_model.specs.Topology.{set_error}
use Rattle.geo_life.proofs.Rest.{mesh_self, post_room}
use Rattle.geo_life.specs.Life.{sound_providers}
use Rattle.geo_life.proofs.Errors.{error_owes_some}
use Rattle.geo_life.proofs.withers.orphan_provider.Goals as goal

-- the provider carries no error yet, so a place was kept for it
pub post-requires : goal.post-requires
post-requires g c =
    let less = error_owes_some c.args.topo.now.topology c.requires.sound.orderly.order c.args.prov c.requires.lives in
    omega (arith, less, c.requires.room)

-- one sound provider less and one place less
pub returns-clause-owed : goal.returns-clause-owed
returns-clause-owed g c =
    let less : sound_providers c.set_error.new.self.topology + 1 ≡ sound_providers c.args.topo.now.topology =
    rw c.set_error.ensures
    (error_owes_some c.args.topo.now.topology c.requires.sound.orderly.order c.args.prov c.requires.lives) in
    let spare : c.post.new.self.spare ≡ c.args.queue.now.spare - 1 =
    ap (λ (q : Rattle.geo_event.specs.EventQueue.Queued). q.spare) c.post.ensures in
    omega (arith, less, spare, c.requires.room)

pub returns-clause-rest : goal.returns-clause-rest
returns-clause-rest g c =
    let less = error_owes_some c.args.topo.now.topology c.requires.sound.orderly.order c.args.prov c.requires.lives in
    record {
      mesh =
          mesh_self c.args.topo.now c.set_error.new.self (set_error c.args.topo.now.topology c.args.prov)
          c.set_error.ensures;
      room = rw c.post.ensures (post_room c.args.queue.now.events _ c.args.queue.now.spare
          (omega (arith, less, c.requires.room)));
    }
