use Rattle.std.proofs.Common.{refl}
use Rattle.geo_names.proofs.Rows.{number_stands}
use Rattle.geo_names.proofs.names.Names.add.Goals as goal

-- the id has a name, and the ids with a name are the parents
pub add_child_of-requires-clause-parent : goal.add_child_of-requires-clause-parent
add_child_of-requires-clause-parent c =
    let named = c.id_for-id.ensures.inside.named c.args.name.now c.id_for-id.result c.id_for-id.ensures.id in
    rw c.id_for-id.ensures.inside.parents
    (number_stands c.id_for-id.new.self.texts.rows c.id_for-id.result (rw named refl))
