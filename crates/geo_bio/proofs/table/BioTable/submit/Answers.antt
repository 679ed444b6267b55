use Rattle.std.proofs.Common.{refl}
use Rattle.geo_bio.specs.Rows.{IsTable}
use Rattle.geo_bio.proofs.TableLemmas.{in_order, table_pushed}
use Rattle.geo_bio.proofs.table.BioTable.submit.Goals as goal

-- the new bio is a root, so it counts in nobody's children, and it is down, so it has none
pub invariant_of-self-2 : goal.invariant_of-self-2
invariant_of-self-2 c =
    rw (c.insert.ensures.inserted, c.reserve.ensures.values_stay)
    (table_pushed _ _ _ c.self.invariant c.requires.root refl)

pub returns-clause-in_order : goal.returns-clause-in_order
returns-clause-in_order c =
    let new = c.insert.new.self in
    let table : IsTable new.rows new.next = rw (c.insert.ensures.inserted, c.reserve.ensures.values_stay)
    (table_pushed _ _ _ c.self.invariant c.requires.root refl) in
    in_order new.rows new.next new.spare table.rising
