use Rattle.std.proofs.Common.{◌++◌, ◌∙◌, ap, arith, length, sym}
use Rattle.geo_jobs.specs.Deal.{gathered_drives}
use Rattle.geo_jobs.proofs.Homing.{two_taken}
use Rattle.geo_jobs.proofs.close.gather_all.Goals as goal

-- the lists are those of the even and of the odd disks, and the even ones are as many or one more
pub gather-requires-clause-fewer : goal.gather-requires-clause-fewer
gather-requires-clause-fewer g c =
    (two_taken _ c.args.lists.items c.pop-2.new.self.items c.requires.two c.pop.ensures.items
    c.pop-2.ensures.items c.in-Some-pop.is c.in-Some.is).0

-- nothing is back yet, and there is room for the drives of both lists
pub gather-requires-clause-room : goal.gather-requires-clause-room
gather-requires-clause-room g c =
    let two = two_taken _ c.args.lists.items c.pop-2.new.self.items c.requires.two c.pop.ensures.items
    c.pop-2.ensures.items c.in-Some-pop.is c.in-Some.is in
    let fits = two.1 in
    let none = ap (λ l. length l) c.requires.none in
    let len = c.args.back.ok.0 in
    omega (arith, fits, none, len)

-- the second list was taken from the end first, so the two are in their order
pub returns : goal.returns
returns g c =
    c.gather.ensures ∙ ap (λ l. l ++ gathered_drives c.in-Some-pop.even.items c.in-Some.odd.items) c.requires.none
    ∙ sym (two_taken _ c.args.lists.items c.pop-2.new.self.items c.requires.two c.pop.ensures.items
    c.pop-2.ensures.items c.in-Some-pop.is c.in-Some.is).2
