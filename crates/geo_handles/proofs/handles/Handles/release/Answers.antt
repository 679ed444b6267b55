use Rattle.std.proofs.Common.{None, sym, refl}
use Rattle.geo_handles.specs.Inside.{reaped_one}
use Rattle.geo_handles.proofs.InsideLemmas.{changes-held, held-by, held-none, held-change, inside-reaped}
use Rattle.geo_handles.proofs.handles.Handles.release.Goals as goal

-- the map forgets the consumer as its handle does, and both keep all others
pub invariant_of-self : goal.invariant_of-self
invariant_of-self c =
    let held = changes-held c.self.inside.inside c.self.invariant c.args.consumer c.in-Some.id
    c.drop_consumer.new.table reaped_one c.in-Some.ensures (rw c.number.ensures at c.drop_consumer.ensures) in
    inside-reaped c.self.inside.inside _ c.self.invariant c.in-Some.id held.value (reaped_one held.value) held.there
    held.table refl
    (λ q. rw (held-by c.self.inside.inside c.self.invariant c.args.consumer c.in-Some.id held.value held.has held.there)
    (c.forget_consumer.ensures.finds q))
    refl refl refl refl

-- the consumer has one handle alone, the one that is found, so no other is changed
pub returns-in-Some-clause-released : goal.returns-in-Some-clause-released
returns-in-Some-clause-released c =
    let held = changes-held c.self.inside.inside c.self.invariant c.args.consumer c.in-Some.id
    c.drop_consumer.new.table reaped_one c.in-Some.ensures (rw c.number.ensures at c.drop_consumer.ensures) in
    rw (
      ← c.self.view_is,
      held.table,
      held-change c.self.inside.inside c.self.invariant c.args.consumer (λ h. record h { consumer = None })
          c.in-Some.id held.value (reaped_one held.value) held.has held.there refl,
    ) refl

-- no handle has the consumer, so none is changed
pub returns-in_default-clause-released : goal.returns-in_default-clause-released
returns-in_default-clause-released c =
    rw (
      ← c.self.view_is,
      held-none c.self.inside.inside c.self.invariant c.args.consumer (λ h. record h { consumer = None })
          (sym c.in_default.ensures),
    ) refl
