use Rattle.std.proofs.Common.{◌≡◌, ◌+◌, ◌++◌, ◌∷◌, ◌∙◌, [], ap, arith, length, refl, subst, suc, sym, take}
use Rattle.std.proofs.lemmas.List.{take_all}
use Rattle.std.proofs.lemmas.Option.{slice_get_read}
use Rattle.geo_base.proofs.PlaceLists.{take_one}
use Rattle.geo_jobs.specs.declared.run.Worker.{Worker}
use Rattle.geo_jobs.specs.Closing.{IsEndOf, worse}
use Rattle.geo_jobs.proofs.Homing.{ends_push}
use Rattle.geo_jobs.proofs.close.end_of.Goals as goal

-- the workers so far are one more, and their end is the worse of theirs before and this one's
pub loop-k-preserved : goal.loop-k-preserved
loop-k-preserved g c =
    let ws = c.args.workers.now in
    let k = c.loop-k.k in
    let w = c.index-workers-k.result in
    let more : take (k + 1) ws ≡ take k ws ++ w ∷ [] =
    ap (λ n. take n ws) (let e : k + 1 ≡ suc k = omega arith in e)
    ∙ take_one ws k w (slice_get_read ws (length ws) k w refl c.loop-k-test.true c.index-workers-k.is) in
    subst (λ e. IsEndOf (take (k + 1) ws) e)
    (sym (c.worse-ended.ensures ∙ ap (λ (x : Worker _). worse c.loop-k.ended x.answer) (sym c.index-workers-k.is)))
    (subst (λ l. IsEndOf l (worse c.loop-k.ended w.answer)) (sym more)
    (ends_push (take k ws) w c.loop-k.ended c.loop-k.invariant))

pub returns : goal.returns
returns g c =
    subst (λ l. IsEndOf l c.loop-k.ended) (take_all c.loop-k.k c.args.workers.now c.loop-k-test.false)
    c.loop-k.invariant
