use Rattle.std.specs.Prelude.{true, false, is_none}
use Rattle.std.proofs.Common.{◌∙◌, refl, sym}
use Rattle.geo_model.specs.World.{World}
use Rattle.geo_model.specs.Freeing.{reap_work, wash_work}
use Rattle.geo_core.specs.Mesh.{world_of}
use Rattle.geo_core.proofs.Meshes.{mesh_stands, kept_history, reads}
use Rattle.geo_core.proofs.Due.{rested, unreaped, unwashed}
use Rattle.geo_core.proofs.mesh.Mesh.at_rest.Goals as goal

pub wash_found-requires : goal.wash_found-requires
wash_found-requires c = record {
  stands = mesh_stands c.deref-running.result.now
      (reads c.deref-running.ensures c.self.view_is c.self.invariant).is;
}

pub returns-then-not-is_idle-clause-rest : goal.returns-then-not-is_idle-clause-rest
returns-then-not-is_idle-clause-rest c =
    let w : World = world_of c.args.self.now in
    rested (reads c.deref-running.ensures c.self.view_is c.self.invariant) false (is_none (reap_work w))
    (is_none (wash_work w)) (sym c.if-not-is_idle.true ∙ c.is_idle.ensures) refl refl

pub returns-then-not-is_idle-clause-history : goal.returns-then-not-is_idle-clause-history
returns-then-not-is_idle-clause-history c = kept_history c.self.view_is c.self.invariant

pub returns-then-is_some-clause-rest : goal.returns-then-is_some-clause-rest
returns-then-is_some-clause-rest c =
    let it = reads c.deref-running.ensures c.self.view_is c.self.invariant in
    rested it true true c.is_some-then-is_some.result (sym c.if-not-is_idle.false ∙ c.is_idle.ensures)
    (sym c.if-is_some.true ∙ c.is_some.ensures ∙ unreaped it c.reap_found.result c.reap_found.ensures)
    (c.is_some-then-is_some.ensures ∙ unwashed it c.wash_found.result c.wash_found.ensures)

pub returns-then-is_some-clause-history : goal.returns-then-is_some-clause-history
returns-then-is_some-clause-history c = kept_history c.self.view_is c.self.invariant

pub returns-else-is_some-clause-rest : goal.returns-else-is_some-clause-rest
returns-else-is_some-clause-rest c =
    let it = reads c.deref-running.ensures c.self.view_is c.self.invariant in
    c.if-is_some.false
    ∙ rested it true false (is_none (wash_work (world_of c.args.self.now)))
    (sym c.if-not-is_idle.false ∙ c.is_idle.ensures)
    (sym c.if-is_some.false ∙ c.is_some.ensures ∙ unreaped it c.reap_found.result c.reap_found.ensures) refl

pub returns-else-is_some-clause-history : goal.returns-else-is_some-clause-history
returns-else-is_some-clause-history c = kept_history c.self.view_is c.self.invariant
