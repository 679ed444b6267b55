use Rattle.std.proofs.Common.{true, sym, refl}
use Rattle.geo_handles.specs.Inside.{dead_one}
use Rattle.geo_handles.proofs.InsideLemmas.{changes-held, held-none, held-change, held-apart, inside-marked}
use Rattle.geo_handles.proofs.handles.Handles.kill.Goals as goal

-- a handle that dies keeps its name and its consumer, by which it is found
pub invariant_of-self : goal.invariant_of-self
invariant_of-self c =
    let held = changes-held c.self.inside.inside c.self.invariant c.args.consumer c.in-Some.id c.mark_dead.new.table
    dead_one c.in-Some.ensures (rw c.number.ensures at c.mark_dead.ensures) in
    inside-marked c.self.inside.inside _ c.self.invariant c.in-Some.id held.value (dead_one held.value) held.there
    held.table refl refl refl refl refl refl

-- the consumer has one handle alone, the one that is found, so this is all that dies
pub returns-in-Some-clause-killed : goal.returns-in-Some-clause-killed
returns-in-Some-clause-killed c =
    let held = changes-held c.self.inside.inside c.self.invariant c.args.consumer c.in-Some.id c.mark_dead.new.table
    dead_one c.in-Some.ensures (rw c.number.ensures at c.mark_dead.ensures) in
    rw (
      ← c.self.view_is,
      held.table,
      held-change c.self.inside.inside c.self.invariant c.args.consumer (λ h. record h { dead = true }) c.in-Some.id
          held.value (dead_one held.value) held.has held.there refl,
    ) refl

-- no handle has the consumer, so none dies
pub returns-in_default-clause-killed : goal.returns-in_default-clause-killed
returns-in_default-clause-killed c =
    rw (
      ← c.self.view_is,
      held-none c.self.inside.inside c.self.invariant c.args.consumer (λ h. record h { dead = true })
          (sym c.in_default.ensures),
    ) refl

pub returns-in-Some-clause-apart : goal.returns-in-Some-clause-apart
returns-in-Some-clause-apart c = rw (← c.self.view_is) (held-apart c.self.inside.inside c.self.invariant)

pub returns-in_default-clause-apart : goal.returns-in_default-clause-apart
returns-in_default-clause-apart c = rw (← c.self.view_is) (held-apart c.self.inside.inside c.self.invariant)
