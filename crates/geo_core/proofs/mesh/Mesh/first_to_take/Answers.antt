use Rattle.std.specs.Prelude.{unwrap_or}
use Rattle.std.proofs.Common.{ℕ, Option, ap, sym, ◌∙◌}
use Rattle.geo_core.proofs.Due.{take_none, take_some}
use Rattle.geo_core.proofs.Meshes.{reads}
use Rattle.geo_core.proofs.mesh.Mesh.first_to_take.Goals as goal

pub returns-in-Some : goal.returns-in-Some
returns-in-Some c =
    take_some (reads c.deref-running.ensures c.self.view_is c.self.invariant) c.requires c.in-Some.bio
    c.unwrap_or.result (sym c.first_sent.ensures ∙ c.in-Some.is)
    (c.unwrap_or.ensures ∙ ap (λ (o : Option ℕ). unwrap_or o 0) c.disk_of.ensures)

pub returns-in-None : goal.returns-in-None
returns-in-None c =
    take_none (reads c.deref-running.ensures c.self.view_is c.self.invariant) c.requires
    (sym c.first_sent.ensures ∙ c.in-None.is)
