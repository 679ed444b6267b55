use Rattle.std.proofs.Common.{◌≡◌, ◌+◌, ◌++◌, ◌∷◌, ◌∙◌, [], ap, sym, length, append_assoc, arith}
use Rattle.std.proofs.lemmas.List.{length-append}
use Rattle.std.specs.Vec.Iter.{into_iter_items}
use Rattle.geo_jobs.specs.Deal.{dealt, own_disks}
use Rattle.geo_jobs.proofs.Dealing.{dealt_push}
use Rattle.geo_jobs.proofs.deal.deal.Goals as goal

-- the drive went to the worker of its number, even or odd, and the next number is counted
pub loop-drive-preserved : goal.loop-drive-preserved
loop-drive-preserved g c =
    let y = c.loop-drive.yielded in
    let z = c.in-Some.drive in
    let inv = c.loop-drive.invariant in
    let one = c.deal_one.ensures in
    let rest : into_iter_items c.loop-drive.drive-iterator ≡ z ∷ into_iter_items c.next.new.self =
    c.in-Some.ensures.steps.0 in
    let longer : length (y ++ z ∷ []) ≡ length y + 1 = length-append y (z ∷ []) in
    let shorter = ap (λ l. length l) rest in (
      tt,
      tt,
      one.even ∙ ap (λ l. l ++ own_disks 0 ((c.loop-drive.disk, z) ∷ [])) inv.2
          ∙ ap (λ n. dealt 0 y ++ own_disks 0 ((n, z) ∷ [])) inv.4 ∙ sym (dealt_push 0 y z),
      one.odd ∙ ap (λ l. l ++ own_disks 1 ((c.loop-drive.disk, z) ∷ [])) inv.3
          ∙ ap (λ n. dealt 1 y ++ own_disks 1 ((n, z) ∷ [])) inv.4 ∙ sym (dealt_push 1 y z),
      omega (arith, inv.4, longer),
      append_assoc y (z ∷ []) (into_iter_items c.next.new.self) ∙ ap (λ l. y ++ l) (sym rest) ∙ inv.5,
      omega (arith, one.room, inv.6, shorter),
      omega (arith, one.room_of_odd, inv.7, shorter),
    )
