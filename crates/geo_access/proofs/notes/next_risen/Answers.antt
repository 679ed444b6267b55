use Rattle.std.proofs.Common.{sym, false}
use Rattle.geo_access.proofs.Noting.{risen_lives, notes_counted}
use Rattle.geo_access.proofs.notes.next_risen.Goals as goal

pub set_noted-requires : goal.set_noted-requires
set_noted-requires g c = risen_lives c.args.topo.now c.in_ok-prov.prov c.requires (sym c.in_ok-prov.ensures.first)

pub returns-clause-counted : goal.returns-clause-counted
returns-clause-counted g c =
    rw c.set_noted.ensures (notes_counted c.args.topo.now c.in_ok-prov.prov false c.is_fallen-fallen.result c.requires)
