use Rattle.std.proofs.Common.{map, ap, ◌∙◌}
use Rattle.std.specs.Option.{is_some}
use Rattle.geo_mesh.specs.Cells.{provider_row}
use Rattle.geo_mesh.proofs.ViewLemmas.{name_taken}
use Rattle.geo_mesh.proofs.topo.Topo.is_name_taken.Goals as goal

-- the names keep a provider without an error for each name that one has, and for no other
pub returns : goal.returns
returns g c =
    rw (← c.self.view_is)
    (c.is_some.ensures ∙ ap is_some c.sound.ensures
    ∙ name_taken (map provider_row c.self.inside.tables.edges.providers.rows)
    c.self.inside.tables.edges.providers.next c.self.inside.tables.names c.self.invariant.tables.names_are
    c.args.name.now)
