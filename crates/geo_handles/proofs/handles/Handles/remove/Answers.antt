use Rattle.std.proofs.Common.{sym, refl}
use Rattle.geo_handles.proofs.InsideLemmas.{inside-removed, inside-absent, removed-view}
use Rattle.geo_handles.proofs.handles.Handles.remove.Goals as goal

-- both maps forget what the handle was found by, and its note is gone too
pub invariant_of-self : goal.invariant_of-self
invariant_of-self c =
    inside-removed c.self.inside.inside _ c.self.invariant c.number-number.result c.in-Some.handle
    (sym c.in-Some.ensures.value) c.remove.ensures.removed c.forget_name.ensures.finds c.forget_consumer.ensures.finds
    c.remove_child.ensures refl

-- no handle had the number, so no note had it either, and nothing changes
pub invariant_of-self-in_default : goal.invariant_of-self-in_default
invariant_of-self-in_default c =
    inside-absent c.self.inside.inside _ c.self.invariant c.number-number.result (sym c.in_default.ensures.value)
    c.remove.ensures.removed refl refl c.remove_child.ensures refl

-- Whether there was a handle or not, neither a row nor a note has the number
pub returns-in-Some-clause-removed : goal.returns-in-Some-clause-removed
returns-in-Some-clause-removed c =
    removed-view c.self.inside.inside c.args.self.now c.number-number.result c.args.id _ _ _ c.self.view_is
    c.number-number.ensures c.remove.ensures.removed c.remove_child.ensures

pub returns-in_default-clause-removed : goal.returns-in_default-clause-removed
returns-in_default-clause-removed c =
    removed-view c.self.inside.inside c.args.self.now c.number-number.result c.args.id _ _ _ c.self.view_is
    c.number-number.ensures c.remove.ensures.removed c.remove_child.ensures
