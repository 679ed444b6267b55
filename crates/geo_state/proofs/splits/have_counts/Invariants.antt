-- What the rest has makes what all have.
use Rattle.std.proofs.Common.{ℕ, ◌<◌, ◌^◌, drop, IfSome}
use Rattle.std.specs.List.{AllByRecursion}
use Rattle.geo_slots.specs.Slots.{value_at}
use Rattle.geo_state.proofs.splits.have_counts.Given as goal

abbrev pub invariant-loop-target : goal.invariant-loop-target
invariant-loop-target l =
    AllByRecursion (λ (z : ℕ × ℕ). IfSome (value_at l.topo.active z.0) (λ n. n < 2 ^ 62))
    (drop l.target-index l.targets)
    → AllByRecursion (λ (z : ℕ × ℕ). IfSome (value_at l.topo.active z.0) (λ n. n < 2 ^ 62)) l.targets
