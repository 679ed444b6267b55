-- When a publisher can show what its pass has seen.
use Rattle.std.proofs.Common.{◌≡◌, List, Some, refl, sym, subst, ◌∙◌}
use mathlib.Core.List.{IsPrefix}
use Rattle.geo_lock.specs.Pass.{IsSamePass}
use Rattle.geo_lock.proofs.Prefixes.{prefix_self, prefix_trans}
use Rattle.geo_model.specs.declared.step.Entry.{Entry}
use Rattle.geo_jobs.specs.Passes.{MeshPass}
use Rattle.geo_jobs.specs.Ends.{CanShow, PublisherView}

-- at the start
pub shows_first : (v : PublisherView) (p : MeshPass) → v.of ≡ Some p → v.stands ≡ p.seen → CanShow v p
shows_first v p of stands = record {
  of = (p, of, record { yard = refl; start = refl; number = refl });
  later = subst (λ (seen : List Entry). IsPrefix seen p.seen) (sym stands) (prefix_self p.seen);
}

-- after the pass went on
pub shows_on : (v : PublisherView) (p q : MeshPass) → CanShow v p → IsSamePass p q → IsPrefix p.seen q.seen
    → CanShow v q
shows_on v p q can same longer = record {
  of = (
    can.of.0,
    can.of.1,
    record {
      yard = same.yard ∙ can.of.2.yard;
      start = same.start ∙ can.of.2.start;
      number = same.number ∙ can.of.2.number;
    },
  );
  later = prefix_trans v.stands p.seen q.seen can.later longer;
}
