use Rattle.std.proofs.Common.{rules, sym, subst}
use Rattle.geo_jobs.specs.Passes.{MeshPass, IsGoodPass}
use Rattle.geo_jobs.proofs.shown.shown_at.Goals as goal

-- the pass was good when it was kept
pub invariant_of-result : goal.invariant_of-result
invariant_of-result c = record {
  is_listing = search rules;
  good = ∣ subst (λ (p : MeshPass). IsGoodPass p) (sym c.of-at.ensures) c.number.ensures.good ∣₁;
}
