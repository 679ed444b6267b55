use Rattle.std.proofs.Common.{sym, ◌∙◌}
use Rattle.geo_mesh.proofs.GoingLemmas.{mark-there, marked, settled}
use Rattle.geo_mesh.proofs.going.look_again.Goals as goal

-- the geom withers, so it stands, and each geom that stands has a mark or none
pub set-requires : goal.set-requires
set-requires g c =
    mark-there c.args.tables.now c.args.geom c.requires c.withers.ensures.rising
    (sym c.withers.ensures.withers ∙ c.if-withers.true)

-- this geom's mark alone may have been wrong, and now it is set to what was found
pub returns-then-withers-clause-whole : goal.returns-then-withers-clause-whole
returns-then-withers-clause-whole g c =
    rw c.set.ensures
    (marked c.args.tables.now c.args.geom c.requires c.withers.ensures.rising
    (sym c.withers.ensures.withers ∙ c.if-withers.true) c.is_free-free.result c.is_free-free.ensures)

-- a geom that doesn't wither carries no mark, whatever of it could go
pub returns-else-withers-clause-whole : goal.returns-else-withers-clause-whole
returns-else-withers-clause-whole g c =
    settled c.args.tables.now c.args.geom c.requires c.withers.ensures.rising
    (sym c.withers.ensures.withers ∙ c.if-withers.false)
