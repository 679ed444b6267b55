use Rattle.std.proofs.Common.{◌≤◌, arith, sym, subst, ◌+◌, ◌-◌}
use Rattle.slab.specs.Slab.{HasRoomFor}
use Rattle.geo_slots.proofs.TableLemmas.{rows_with_next, index_with_next, rising_rows}
use Rattle.geo_slots.proofs.slots.Slots.insert.Goals as goal

-- the slab has room for as many as are spare, and one is
pub insert_reserved-key-requires : goal.insert_reserved-key-requires
insert_reserved-key-requires g c =
    let some : 1 ≤ c.self.inside.spare = subst (λ v. 1 ≤ v.spare) (sym c.self.view_is) c.requires in
    omega (arith, c.self.invariant.room)

-- so has the index
pub insert-requires-clause-room : goal.insert-requires-clause-room
insert-requires-clause-room g c =
    let some : 1 ≤ c.self.inside.spare = subst (λ v. 1 ≤ v.spare) (sym c.self.view_is) c.requires in
    omega (arith, c.self.invariant.paged, some)

-- the key was vacant, so no other number has it
pub invariant_of-self : goal.invariant_of-self
invariant_of-self g c =
    let some : 1 ≤ c.self.inside.spare = subst (λ v. 1 ≤ v.spare) (sym c.self.view_is) c.requires in
    let e = c.insert_reserved-key.ensures in
    let room : HasRoomFor c.insert_reserved-key.new.self (c.self.inside.spare - 1) =
    omega (arith, c.self.invariant.room, e.len, e.capacity) in
    index_with_next _ _ _ _ _ c.self.invariant _ _ _ c.args.value c.insert.ensures.keys e.was_vacant e.updates
    c.insert.new.index.end c.insert.ensures.end c.insert.ensures.pages some room

-- the next number's value comes behind the others
pub returns-clause-inserted : goal.returns-clause-inserted
returns-clause-inserted g c =
    let e = c.insert_reserved-key.ensures in
    let rows = rows_with_next _ _ _ _ _ c.self.invariant _ _ _ c.args.value c.insert.ensures.keys e.was_vacant e.updates in
    rw (← c.self.view_is) (λ i. record {
      rows = rows i;
      next = c.self.inside.next + 1;
      spare =
          c.self.inside.spare - 1;
    })

pub returns-clause-rising : goal.returns-clause-rising
returns-clause-rising g c = rw (← c.self.view_is) (rising_rows _ _ _ _ _ c.self.invariant)

-- the next number and those spare fit in 64 bits together, and one of them was given out
pub returns-clause-bound : goal.returns-clause-bound
returns-clause-bound g c =
    let some : 1 ≤ c.self.inside.spare = subst (λ v. 1 ≤ v.spare) (sym c.self.view_is) c.requires in
    omega (arith, c.self.invariant.numbers)
