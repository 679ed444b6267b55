use Rattle.std.proofs.Common.{◌≡◌, ◌++◌, ◌∷◌, ◌∙◌, [], ap, append_assoc, arith, length, sym}
use Rattle.std.proofs.lemmas.List.{map-append}
use Rattle.std.specs.Vec.Iter.{into_iter_items}
use Rattle.geo_disk.specs.Memory.{Memory}
use Rattle.geo_jobs.specs.declared.run.Worker.{Worker}
use Rattle.geo_tests_jobs.specs.Standing.{passes_of}
use Rattle.geo_tests_jobs.proofs.jobs.take_back.Goals as goal

pub push-requires : goal.push-requires
push-requires c =
    let shorter = ap (λ l. length l) c.in-Some.ensures.steps.0 in
    let room = c.loop-worker.invariant.4 in
    omega (arith, shorter, room)

pub loop-worker-preserved : goal.loop-worker-preserved
loop-worker-preserved c =
    let y = c.loop-worker.yielded in
    let w = c.in-Some.worker in
    let inv = c.loop-worker.invariant in
    let before = c.args.passes.now.items in
    let rest : into_iter_items c.loop-worker.worker-iterator ≡ w ∷ into_iter_items c.next.new.self =
    c.in-Some.ensures.steps.0 in
    let shorter = ap (λ l. length l) rest in
    let spare = c.push.ensures.spare in
    let room = inv.4 in (
      tt,
      tt,
      c.push.ensures.items ∙ ap (λ l. l ++ c.pass_of.result ∷ []) inv.2
          ∙ append_assoc before (passes_of y) (c.pass_of.result ∷ [])
          ∙ ap (λ p. before ++ (passes_of y ++ p ∷ [])) c.pass_of.ensures
          ∙ ap (λ l. before ++ l) (sym (map-append (λ (x : Worker Memory). x.job.pass) y (w ∷ []))),
      append_assoc y (w ∷ []) (into_iter_items c.next.new.self) ∙ ap (λ l. y ++ l) (sym rest) ∙ inv.3,
      omega (arith, spare, room, shorter),
    )
