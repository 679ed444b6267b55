use Rattle.std.proofs.Common.{ap, ◌∙◌, rules}
use Rattle.geo_mesh.specs.Cells.{risen_of}
use Rattle.geo_mesh.specs.Marks.{first_marked}
use Rattle.geo_mesh.specs.Rows.{rows_with}
use Rattle.geo_mesh.proofs.GraphLemmas.{sound-graph}
use Rattle.geo_mesh.proofs.MarkLemmas.{first-of_all}
use Rattle.geo_mesh.proofs.topo.Topo.first_risen.Goals as goal

-- the marks are the notes, so from 0 on the least number with a mark is the first with a note
pub returns-clause-first : goal.returns-clause-first
returns-clause-first g c =
    let first = ap (λ rows. first_marked rows 0) c.self.invariant.tables.notes.risen
    ∙ first-of_all (rows_with risen_of c.self.inside.tables.edges.providers.rows) in
    rw (← c.self.view_is, ← first, ← c.first_from.ensures) (search rules)

pub returns-clause-sound : goal.returns-clause-sound
returns-clause-sound g c = rw (← c.self.view_is) (sound-graph c.self.inside.tables c.self.invariant)
