use Rattle.std.proofs.Common.{◌≡◌, ◌++◌, ◌∷◌, ◌∙◌, [], ap, append_assoc, arith, length, sym}
use Rattle.std.specs.Option.{option_to_list}
use Rattle.std.specs.Vec.Iter.{into_iter_items}
use Rattle.geo_jobs.specs.Closing.{lists_of, passes_of}
use Rattle.geo_jobs.proofs.Homing.{lists_push, passes_push}
use Rattle.geo_jobs.proofs.close.take_back.Goals as goal

-- Both have room: it was made for each worker that is left, and this one is left
pub push-requires : goal.push-requires
push-requires g c =
    let shorter = ap (λ l. length l) c.in-Some.ensures.steps.0 in
    let room = c.loop-worker.invariant.5 in
    omega (arith, shorter, room)

pub keep-requires : goal.keep-requires
keep-requires g c =
    let shorter = ap (λ l. length l) c.in-Some.ensures.steps.0 in
    let room = c.loop-worker.invariant.6 in
    omega (arith, shorter, room)

-- one worker more gave its pass and its drives, which stand behind those of the others
pub loop-worker-preserved : goal.loop-worker-preserved
loop-worker-preserved g c =
    let y = c.loop-worker.yielded in
    let w = c.in-Some.worker in
    let inv = c.loop-worker.invariant in
    let rest : into_iter_items c.loop-worker.worker-iterator ≡ w ∷ into_iter_items c.next.new.self =
    c.in-Some.ensures.steps.0 in
    let shorter = ap (λ l. length l) rest in
    let spare = c.push.ensures.spare in
    let len = c.keep.ensures.len in
    let room = c.keep.ensures.room in
    let fits = inv.5 in
    let fits_too = inv.6 in (
      tt,
      tt,
      c.push.ensures.items ∙ ap (λ l. l ++ c.parts-pass.result.pass ∷ []) inv.2
          ∙ append_assoc c.args.passes.now.items (passes_of y) (c.parts-pass.result.pass ∷ [])
          ∙ ap (λ p. c.args.passes.now.items ++ (passes_of y ++ p ∷ [])) c.parts-pass.ensures.pass
          ∙ ap (λ l. c.args.passes.now.items ++ l) (sym (passes_push y w)),
      c.keep.ensures.items ∙ ap (λ l. l ++ option_to_list c.parts-pass.result.drives) inv.3
          ∙ append_assoc c.args.lists.now.items (lists_of y) (option_to_list c.parts-pass.result.drives)
          ∙ ap (λ d. c.args.lists.now.items ++ (lists_of y ++ option_to_list d)) c.parts-pass.ensures.drives
          ∙ ap (λ l. c.args.lists.now.items ++ l) (sym (lists_push y w)),
      append_assoc y (w ∷ []) (into_iter_items c.next.new.self) ∙ ap (λ l. y ++ l) (sym rest) ∙ inv.4,
      omega (arith, spare, fits, shorter),
      omega (arith, len, room, fits_too, shorter),
    )
