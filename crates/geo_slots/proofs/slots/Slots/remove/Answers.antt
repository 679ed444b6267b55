use Rattle.std.proofs.Common.{◌≡◌, Some, refl, arith, sym, ◌∙◌}
use Rattle.slab.specs.Slab.{HasRoomFor}
use Rattle.geo_slots.specs.Pages.{key_at}
use Rattle.geo_slots.proofs.TableLemmas.{value_of_key, rows_without, index_without, others_without, rising_rows, key_held}
use Rattle.geo_slots.proofs.slots.Slots.remove.Goals as goal

-- no other number has the key, so the others keep their values, and the slab has no less room
pub invariant_of-self : goal.invariant_of-self
invariant_of-self g c =
    let found : key_at c.self.inside.index.pages.items c.args.number ≡ Some c.in-Some.key = sym c.remove.ensures.key
    ∙ c.in-Some.is in
    let held = key_held _ _ _ _ _ c.self.invariant c.args.number _ found in
    let e = c.try_remove.ensures in
    let less = rw (e.value ∙ held.1) at e.len in
    let room : HasRoomFor c.try_remove.new.self c.self.inside.spare =
    omega (arith, c.self.invariant.room, less, e.capacity) in
    index_without _ _ _ _ _ c.self.invariant _ c.args.number c.remove.ensures.keys c.try_remove.new.self
    (others_without _ _ _ _ _ c.self.invariant _ c.args.number _ found e.updates) c.remove.new.index.end
    c.remove.ensures.end c.remove.ensures.pages room

-- where the number has no key all stays
pub invariant_of-self-in-None : goal.invariant_of-self-in-None
invariant_of-self-in-None g c =
    index_without _ _ _ _ _ c.self.invariant _ c.args.number c.remove.ensures.keys c.self.inside.values
    (λ k differs key is. refl) c.remove.new.index.end c.remove.ensures.end c.remove.ensures.pages
    c.self.invariant.room

pub returns-in-Some-clause-value : goal.returns-in-Some-clause-value
returns-in-Some-clause-value g c =
    let value = value_of_key _ _ _ _ _ c.self.invariant c.args.number in
    rw (← c.self.view_is, ← value, ← c.remove.ensures.key, c.in-Some.is) c.try_remove.ensures.value

-- the number's key goes, and the keys of the others still have their values
pub returns-in-Some-clause-removed : goal.returns-in-Some-clause-removed
returns-in-Some-clause-removed g c =
    let found : key_at c.self.inside.index.pages.items c.args.number ≡ Some c.in-Some.key = sym c.remove.ensures.key
    ∙ c.in-Some.is in
    let rows = rows_without _ _ _ _ _ c.self.invariant _ c.args.number c.remove.ensures.keys c.try_remove.new.self
    (others_without _ _ _ _ _ c.self.invariant _ c.args.number _ found c.try_remove.ensures.updates) in
    rw (← c.self.view_is) (λ i. record { rows = rows i; next = c.self.inside.next; spare = c.self.inside.spare })

pub returns-in-Some-clause-rising : goal.returns-in-Some-clause-rising
returns-in-Some-clause-rising g c = rw (← c.self.view_is) (rising_rows _ _ _ _ _ c.self.invariant)

pub returns-in-None-clause-value : goal.returns-in-None-clause-value
returns-in-None-clause-value g c =
    let value = value_of_key _ _ _ _ _ c.self.invariant c.args.number in
    rw (← c.self.view_is, ← value, ← c.remove.ensures.key, c.in-None.is) refl

-- a number without a key has no value, so the table is without it already
pub returns-in-None-clause-removed : goal.returns-in-None-clause-removed
returns-in-None-clause-removed g c =
    let rows = rows_without _ _ _ _ _ c.self.invariant _ c.args.number c.remove.ensures.keys c.self.inside.values
    (λ k differs key is. refl) in
    rw (← c.self.view_is) (λ i. record { rows = rows i; next = c.self.inside.next; spare = c.self.inside.spare })

pub returns-in-None-clause-rising : goal.returns-in-None-clause-rising
returns-in-None-clause-rising g c = rw (← c.self.view_is) (rising_rows _ _ _ _ _ c.self.invariant)
