use Rattle.std.proofs.Common.{sym, subst}
use Rattle.geo_model.specs.declared.command.Command.{Command}
use Rattle.geo_core.proofs.Meshes.{mesh_stands}
use Rattle.geo_core.proofs.Twins.{prints_lines, quiet_command}
use Rattle.geo_core.specs.declared.twin.Spare.TheVariants as spares
use Rattle.geo_core.specs.Twins.{HasCommand}
use Rattle.geo_core.proofs.twin.lines_of.Goals as goal

pub listing-requires : goal.listing-requires
listing-requires c = record { stands = mesh_stands c.args.running.now c.requires.mesh }

pub returns-in_default-clause-outcome : goal.returns-in_default-clause-outcome
returns-in_default-clause-outcome c =
    quiet_command c.args.running.now.state c.args.command.now _ c.in_default.not-Mesh

-- what is listed before the step is what the command will list
pub returns-in_ok-listing-in-Mesh-clause-outcome : goal.returns-in_ok-listing-in-Mesh-clause-outcome
returns-in_ok-listing-in-Mesh-clause-outcome c =
    let s = c.args.running.now.state in
    subst (λ (x : Command). HasCommand s x (spares.Lines c.in_ok-listing-in-Mesh.field-0)) (sym c.in-Mesh.is)
    (prints_lines s c.in_ok-listing-in-Mesh.field-0 c.in_ok-listing-in-Mesh.ensures)
