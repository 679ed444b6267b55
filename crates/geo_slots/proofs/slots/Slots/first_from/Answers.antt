use Rattle.std.proofs.Common.{◌<◌, ◌^◌, arith, subst}
use Rattle.geo_slots.proofs.TableLemmas.{first_of_keys, rising_rows}
use Rattle.geo_slots.proofs.slots.Slots.first_from.Goals as goal

-- the first number with a key is the first row's
pub returns-clause-first : goal.returns-clause-first
returns-clause-first g c =
    rw (← c.self.view_is) (first_of_keys _ _ _ _ _ c.self.invariant c.args.number c.first_key.result
    (c.first_key.ensures c.self.inside.next c.self.invariant.pages_are))

pub returns-clause-rising : goal.returns-clause-rising
returns-clause-rising g c = rw (← c.self.view_is) (rising_rows _ _ _ _ _ c.self.invariant)

pub returns-clause-bound : goal.returns-clause-bound
returns-clause-bound g c = subst (λ v. v.next < 2 ^ 64) c.self.view_is (omega (arith, c.self.invariant.numbers))
