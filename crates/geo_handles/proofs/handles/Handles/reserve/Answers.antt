use Rattle.geo_handles.proofs.InsideLemmas.{inside-reserved}
use Rattle.std.proofs.Common.{refl}
use Rattle.geo_handles.proofs.handles.Handles.reserve.Goals as goal

-- Each way out: what was asked for room has its entries as before, and the rest wasn't touched
pub invariant_of-self-in_err-reserve-3 : goal.invariant_of-self-in_err-reserve-3
invariant_of-self-in_err-reserve-3 c =
    inside-reserved c.self.inside.inside _ c.self.invariant c.reserve.ensures.entries.2 c.reserve-2.ensures.entries.2
    c.reserve-3.ensures.values_stay refl refl

pub invariant_of-self-in_err-reserve-4 : goal.invariant_of-self-in_err-reserve-4
invariant_of-self-in_err-reserve-4 c =
    inside-reserved c.self.inside.inside _ c.self.invariant c.reserve.ensures.entries.2 c.reserve-2.ensures.entries.2
    c.reserve-3.ensures.values_stay c.reserve-4.ensures.same refl

pub invariant_of-self-2 : goal.invariant_of-self-2
invariant_of-self-2 c =
    inside-reserved c.self.inside.inside _ c.self.invariant c.reserve.ensures.entries.2 c.reserve-2.ensures.entries.2
    c.reserve-3.ensures.values_stay c.reserve-4.ensures.same refl
