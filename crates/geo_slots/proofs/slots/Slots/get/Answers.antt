use Rattle.std.proofs.Common.{◌<◌, ◌^◌, refl, arith, subst}
use Rattle.geo_slots.proofs.TableLemmas.{value_of_key, rising_rows}
use Rattle.geo_slots.proofs.slots.Slots.get.Goals as goal

-- Each way out: a number has a value just where it has a key, and then it is the one under the key
pub returns-in-Some-clause-value : goal.returns-in-Some-clause-value
returns-in-Some-clause-value g c =
    rw (← c.self.view_is, ← value_of_key _ _ _ _ _ c.self.invariant c.args.number, ← c.key_of.ensures, c.in-Some.is)
    c.get.ensures

pub returns-in-Some-clause-rising : goal.returns-in-Some-clause-rising
returns-in-Some-clause-rising g c = rw (← c.self.view_is) (rising_rows _ _ _ _ _ c.self.invariant)

pub returns-in-None-clause-value : goal.returns-in-None-clause-value
returns-in-None-clause-value g c =
    rw (← c.self.view_is, ← value_of_key _ _ _ _ _ c.self.invariant c.args.number, ← c.key_of.ensures, c.in-None.is) refl

pub returns-in-None-clause-rising : goal.returns-in-None-clause-rising
returns-in-None-clause-rising g c = rw (← c.self.view_is) (rising_rows _ _ _ _ _ c.self.invariant)

pub returns-in-Some-clause-bound : goal.returns-in-Some-clause-bound
returns-in-Some-clause-bound g c = subst (λ v. v.next < 2 ^ 64) c.self.view_is (omega (arith, c.self.invariant.numbers))

pub returns-in-None-clause-bound : goal.returns-in-None-clause-bound
returns-in-None-clause-bound g c = subst (λ v. v.next < 2 ^ 64) c.self.view_is (omega (arith, c.self.invariant.numbers))
