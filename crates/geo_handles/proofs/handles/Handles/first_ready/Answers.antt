use Rattle.std.proofs.Common.{rules}
use Rattle.geo_handles.proofs.NumberLemmas.{first-ready}
use Rattle.geo_handles.proofs.handles.Handles.first_ready.Goals as goal

pub returns : goal.returns
returns c =
    rw (← c.self.view_is, ← first-ready c.self.inside.inside.ready.children, ← c.first_from.ensures) (search rules)
