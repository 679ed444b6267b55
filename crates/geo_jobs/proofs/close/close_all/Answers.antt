use Rattle.std.proofs.Common.{◌++◌, ◌∙◌, ap, arith, length, subst, sym, vec_capacity}
use Rattle.geo_lock.specs.Yard.{IsWhole}
use Rattle.geo_jobs.specs.Closing.{EndsYard, IsEndOf, lists_of, passes_of}
use Rattle.geo_jobs.specs.Deal.{AreTwo, gathered_of}
use Rattle.geo_jobs.proofs.Homing.{first_of_all}
use Rattle.geo_jobs.proofs.close.close_all.Goals as goal

-- Each call is given room: there was none in the lists, and room for all workers and one was made before
pub push-requires : goal.push-requires
push-requires g c = let room = c.requires.room.passes in omega (arith, room)

pub take_back-requires-clause-room : goal.take_back-requires-clause-room
take_back-requires-clause-room g c =
    let room = c.requires.room.passes in
    let spare = c.push.ensures.spare in
    omega (arith, room, spare)

pub take_back-requires-clause-room_of_lists : goal.take_back-requires-clause-room_of_lists
take_back-requires-clause-room_of_lists g c =
    let none = ap (λ l. length l) c.requires.room.no_list in
    let len = c.args.room.lists.ok.0 in
    let room = c.requires.room.lists in
    omega (arith, none, len, room)

-- the passes that came home are the first one's and the workers', which are all of the yard
pub close-requires : goal.close-requires
close-requires g c =
    let is = first_of_all c.args.first (passes_of c.args.workers.items) c.requires.room.no_pass c.push.ensures.items
    c.take_back.ensures.passes in
    subst (λ ps. IsWhole c.args.yard ps) (sym is) c.requires.whole

-- no list was there before, so the two lists are those of the disk workers
pub gather_all-drives-requires-clause-two : goal.gather_all-drives-requires-clause-two
gather_all-drives-requires-clause-two g c =
    subst (λ l. AreTwo (vec_capacity c.args.room.back) l)
    (sym (c.take_back.ensures.lists ∙ ap (λ l. l ++ lists_of c.args.workers.items) c.requires.room.no_list))
    c.requires.two

-- the yard was closed with all its passes, so the mesh is the one that its log leads to
pub returns-clause-mesh : goal.returns-clause-mesh
returns-clause-mesh g c =
    let is = first_of_all c.args.first (passes_of c.args.workers.items) c.requires.room.no_pass c.push.ensures.items
    c.take_back.ensures.passes in
    subst (λ ps. EndsYard c.args.yard ps c.in-Ok.mesh) is c.in-Ok.ensures.ok

pub returns-clause-drives : goal.returns-clause-drives
returns-clause-drives g c =
    c.gather_all-drives.ensures
    ∙ ap (λ l. gathered_of l)
    (c.take_back.ensures.lists ∙ ap (λ l. l ++ lists_of c.args.workers.items) c.requires.room.no_list)

pub returns-clause-ended : goal.returns-clause-ended
returns-clause-ended g c = subst (λ l. IsEndOf l c.end_of-ended.result) c.as_slice.ensures.value c.end_of-ended.ensures
