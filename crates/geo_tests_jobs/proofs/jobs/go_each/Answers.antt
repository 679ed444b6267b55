use Rattle.std.proofs.Common.{◌+◌, ◌∙◌, arith, subst, sym}
use Rattle.std.proofs.lemmas.List.{length-set}
use Rattle.geo_tests_jobs.specs.Standing.{IsStanding}
use Rattle.geo_tests_jobs.proofs.Standing.{standing_at, standing_set, went_on}
use Rattle.geo_tests_jobs.proofs.jobs.go_each.Goals as goal

pub loop-k-preserved : goal.loop-k-preserved
loop-k-preserved g c =
    let y = c.args.yard.now in
    let lanes = c.args.lanes.now in
    let ws = c.loop-k.workers.items in
    let k = c.loop-k.k in
    let old = c.index_mut.result.now in
    let inv = c.loop-k.invariant in
    let test = c.loop-k-test.true in
    let end = c.len-k-end.ensures in
    let len = c.args.workers.now.ok.0 in
    let long = inv.1 in
    let before : IsStanding y lanes (1 + k) old =
    subst (λ w. IsStanding y lanes (1 + k) w) (sym c.index_mut.ensures.value)
    (standing_at y lanes 1 ws k old inv.0 (omega (arith, test, end, len, long))) in (
      standing_set y lanes 1 ws k c.go_one.new.worker inv.0
          (went_on y lanes (1 + k) old c.go_one.new.worker before c.go_one.ensures.ready c.go_one.ensures.number),
      length-set ws k c.go_one.new.worker ∙ inv.1,
    )
