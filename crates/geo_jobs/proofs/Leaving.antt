-- A run in a yard: its workers begin, end, and are all; and what the threads left.
use Rattle.std.specs.Prelude.{◌≡◌, ◌≢◌, ℕ, zero, suc, ◌+◌, ◌<◌, ◌≤◌, ◌%◌, List, [], ◌∷◌, length, map, All, Contains, Option, Some, None, slice_get, ◌++◌, drop, slice_index_or, take, IfSome}
use Rattle.std.specs.List.{AllByRecursion, AllZip}
use Rattle.std.proofs.Common.{ap, arith, refl, subst, sym, ◌∙◌, rules}
use Rattle.std.proofs.lemmas.List.{length-map, append-nil, take_all}
use Rattle.std.proofs.lemmas.List.Elements.{All-weaker}
use Rattle.std.proofs.lemmas.Slice.Zip.{AllZip-long}
use Rattle.std.proofs.Math.ListN.{drop_of_length-le}
use Rattle.geo_disk.specs.declared.drive.Drive.{Drive}
use Rattle.geo_model.specs.declared.step.Entry.{Entry}
use Rattle.geo_model.specs.World.{Plan}
use Rattle.geo_model.specs.FixedOrder.{IsOfItsJob, disk_seat}
use Rattle.geo_model.specs.Passes.{entries_of_seat}
use Rattle.geo_serve.specs.Drives.{DriveView}
use Rattle.geo_serve.specs.Served.{IsServed}
use Rattle.geo_laws_graph.proofs.Members.{Contains-here, Contains-there, nothing_in}
use Rattle.geo_laws_disks.specs.SeatLaws.{AreBySeats}
use Rattle.geo_laws_disks.proofs.Seats.{seats_serve}
use Rattle.geo_lock.specs.Pass.{IsGoodIn}
use Rattle.geo_lock.specs.Yard.{IsPassOf, IsWhole, first_pass}
use Rattle.geo_core.specs.declared.logged.MeshStart.{MeshStart}
use Rattle.geo_core.specs.Mesh.{IsHistory, MeshView, world_of}
use Rattle.geo_core.specs.Logged.{mesh_of, mesh_start}
use Rattle.geo_jobs.specs.Passes.{MeshPass, opened_by}
use Rattle.geo_jobs.specs.DriveList.{DriveListView}
use Rattle.geo_jobs.specs.Served.{HasServed}
use Rattle.geo_jobs.specs.declared.job.Role.{Role}
use Rattle.geo_jobs.specs.declared.run.Worker.{Worker}
use Rattle.geo_jobs.specs.Jobs.{drives_of}
use Rattle.geo_jobs.specs.declared.left.JobsEnd.{JobsEnd}
use Rattle.geo_jobs.specs.Closing.{EndsYard, IsEndOf, lists_of, passes_of}
use Rattle.geo_jobs.specs.Deal.{AreTwo, dealt, gathered_of}
use Rattle.geo_jobs.specs.Ended.{DidAs, EndedAs, HasEnded, HaveEnded, WasFull}
use Rattle.geo_jobs.specs.Left.{DrivesFit, TellsEnd, ThreadsRan, size_of}
use Rattle.geo_jobs.specs.Started.{MeshYard, AreReady, AreStarted, IsFirst}
use Rattle.geo_jobs.proofs.Dealing.{dealt_long, DidServe, are_served, sizes_kept}
use Rattle.geo_jobs.proofs.RunEnding.{dealt_of_worker, IsMine, are_by_seats, are_of_kind, each_mine, none_is_busy, have_ended}
use Rattle.geo_jobs.proofs.Idle.{found_full, good_pass, jobs_ended_idle}
use Rattle.geo_base.specs.declared.limits.TheConstants.{MAX_DISKS}
use Rattle.geo_model.specs.declared.listing.GeomLine.{GeomLine}
use Rattle.geo_model.specs.Listing.{listing}
use Rattle.geo_model.specs.Plans.{IsFact}
use Rattle.geo_jobs.specs.Listings.{listing_after, listing_seen}
use Rattle.geo_jobs.specs.declared.lanes.Lanes.{Lanes}
use Rattle.geo_jobs.specs.Workers.{IsReady, WorkerRan}
use Rattle.geo_jobs.specs.declared.crew.Crew.{Crew}
use Rattle.geo_jobs.specs.Crews.{Begins}
use Rattle.geo_jobs.specs.declared.job.Role.TheVariants as roles
use Rattle.geo_jobs.specs.declared.left.JobsEnd.TheVariants as ends

-- The lists of the disk workers

-- what a disk worker did for its drives
pub record ListServed {D : Type 0} (seen : Drive D → DriveView) (actors : ℕ) (drives : List (Drive D)) (worker : ℕ)
    (ws : List (Worker D)) (items : List (ℕ × Drive D)) : Type 0 where
  pub worker_of : Worker D
  pub here : Contains ws worker_of
  pub number : worker_of.job.pass.number ≡ actors + 4 + worker
  pub served : HasServed seen worker_of.job.pass.own (dealt worker drives) items

-- the two lists, and what was done for them
pub record TwoServed {D : Type 0} (seen : Drive D → DriveView) (actors : ℕ) (drives : List (Drive D))
    (ws : List (Worker D)) (lists : List (DriveListView D)) : Type 0 where
  pub even : DriveListView D
  pub odd : DriveListView D
  pub lists_are : lists ≡ even ∷ odd ∷ []
  pub evens : ListServed seen actors drives 0 ws even.items
  pub odds : ListServed seen actors drives 1 ws odd.items

module _ {D : Type 0} (seen : Drive D → DriveView) (actors : ℕ) (drives : List (Drive D)) where
  -- a job before the disk workers has no list
  no_list : (n : ℕ) (q : MeshPass) (role : Role D) → n < actors + 4 → DidAs seen actors drives n q role
      → drives_of role ≡ None
  no_list n q (roles.Disk j) lt did = absurd (let e = did.1 in omega (arith, e, lt))
  no_list n q _ lt did = refl

  -- what is known of the list of a disk worker
  abbrev HasList : ℕ → MeshPass → Role D → Type 0
  HasList worker q role =
      (l : DriveListView D) × (drives_of role ≡ Some l) × HasServed seen q.own (dealt worker drives) l.items

  has_list : (n worker : ℕ) (q : MeshPass) (role : Role D) → n ≡ actors + 4 + worker
      → DidAs seen actors drives n q role → HasList worker q role
  has_list n worker q (roles.Client j) is did = absurd (let lt = did.0 in let e = did.1 in omega (arith, e, lt, is))
  has_list n worker q (roles.Disk j) is did =
      let same : j.worker ≡ worker = (let e = did.1 in omega (arith, e, is)) in
      (j.drives, refl, subst (λ k. HasServed seen q.own (dealt k drives) j.drives.items) same did.3)
  has_list n worker q _ is did = absurd (let e = did.0 in omega (arith, e, is))

module _ {D : Type 0} (y : MeshYard) (seen : Drive D → DriveView) (actors : ℕ) (drives : List (Drive D)) where
  -- a list that was served, where one more worker stands in front
  served_behind : (worker : ℕ) (w : Worker D) (ws : List (Worker D)) (items : List (ℕ × Drive D))
      → ListServed seen actors drives worker ws items → ListServed seen actors drives worker (w ∷ ws) items
  served_behind worker w ws items at = search (rules, Contains-there w at.worker_of ws at.here)

  -- the two disk workers
  two_last : (n : ℕ) (ws : List (Worker D)) → HaveEnded y seen actors drives n ws → n ≡ actors + 4 → length ws ≡ 2
      → TwoServed seen actors drives ws (lists_of ws)
  two_last n [] ended is long = absurd (omega (arith, long))
  two_last n (w ∷ []) ended is long = absurd (omega (arith, long))
  two_last n (w ∷ v ∷ x ∷ ws) ended is long = absurd (omega (arith, long))
  two_last n (w ∷ v ∷ []) ended is long =
      search (rules, Contains-here w (v ∷ []), Contains-there w v (v ∷ []) (Contains-here v []))

  -- behind so many others
  pub two_served : (k n : ℕ) (ws : List (Worker D)) → HaveEnded y seen actors drives n ws → n + k ≡ actors + 4
      → length ws ≡ k + 2 → TwoServed seen actors drives ws (lists_of ws)
  two_served zero n ws ended is long = two_last n ws ended (omega (arith, is)) (omega (arith, long))
  two_served (suc k) n [] ended is long = absurd (omega (arith, long))
  two_served (suc k) n (w ∷ ws) ended is long =
      search (
        rules,
        two_served k (n + 1) ws ended.1 (omega (arith, is)) (omega (arith, long)),
        served_behind 0 w ws,
        served_behind 1 w ws,
      )

  -- they have room
  pub are_two : (ws : List (Worker D)) (lists : List (DriveListView D)) (count : ℕ)
      → TwoServed seen actors drives ws lists → length drives ≤ count → AreTwo count lists
  are_two ws lists count two room =
      search (
        rules,
        dealt_long 0 drives,
        AllZip-long _ (dealt 0 drives) two.even.items two.evens.served.served,
        AllZip-long _ (dealt 1 drives) two.odd.items two.odds.served.served,
      )

-- All passes

module _ {D : Type 0} (y : MeshYard) (seen : Drive D → DriveView) (actors : ℕ) (drives : List (Drive D)) where
  -- the pass at a place
  pass_at : (n : ℕ) (ws : List (Worker D)) (k : ℕ) (p : MeshPass) → HaveEnded y seen actors drives n ws
      → slice_get (passes_of ws) k ≡ Some p → IsPassOf y p × (p.number ≡ n + k)
  pass_at n [] k p ended at = absurd (let bad : ⊥ = cc in bad)
  pass_at n (w ∷ ws) zero p ended at = search rules
  pass_at n (w ∷ ws) (suc k) p ended at = search (rules, pass_at (n + 1) ws k p ended.1)

  -- the passes are all that were made
  pub are_whole : (first : MeshPass) (ws : List (Worker D)) → IsPassOf y first → first.number ≡ 0
      → first.made ≡ 1 + length ws → HaveEnded y seen actors drives 1 ws → IsWhole y (first ∷ passes_of ws)
  are_whole first ws own zeroth made ended = search (rules, length-map ws (λ (w : Worker D). w.job.pass), pass_at 1 ws)

  -- each worker has ended
  pub ended_of : (n : ℕ) (ws : List (Worker D)) (w : Worker D) → HaveEnded y seen actors drives n ws → Contains ws w
      → (m : ℕ) × HasEnded y seen actors drives m w
  ended_of n [] w ended here = absurd (nothing_in w here)
  ended_of n (x ∷ ws) w ended here = search (rules, ended_of (n + 1) ws w ended.1)

-- What was left

-- where a disk worker's drives did what its entries say, they did what the log says
serve_log : {D : Type 0} (seen : Drive D → DriveView) (plan : Plan) (facts : List (ℕ × ℕ)) (log own : List Entry)
    (worker : ℕ) → IsHistory (record { plan = plan; facts = facts; log = log }) → AreBySeats (disk_seat plan) log
    → own ≡ entries_of_seat (length plan.actors + 4 + worker) log → (xs ys : List (ℕ × Drive D))
    → AllByRecursion (λ (x : ℕ × Drive D). x.0 % 2 ≡ worker) xs
    → AllZip (λ (x y : ℕ × Drive D). (y.0 ≡ x.0) × IsServed own x.0 (seen x.1) (seen y.1)) xs ys
    → AllZip (DidServe seen log) xs ys
serve_log seen plan facts log own worker law seats is [] [] of zip = tt
serve_log seen plan facts log own worker law seats is [] (y ∷ ys) of zip = absurd zip
serve_log seen plan facts log own worker law seats is (x ∷ xs) [] of zip = absurd zip
serve_log seen plan facts log own worker law seats is (x ∷ xs) (y ∷ ys) of zip =
    search (
      rules,
      seats_serve plan facts law.plan.begins law.facts log law.lawful.0 (disk_seat plan) x.0 (seen x.1) (seen y.1)
          seats,
      serve_log seen plan facts log own worker law seats is xs ys of.1 zip.1,
    )

module _ {D : Type 0} (y : MeshYard) (seen : Drive D → DriveView) (drives : List (Drive D)) (log : List Entry)
    (first : MeshPass) (ws : List (Worker D))
    (ended : HaveEnded y seen (length y.start.plan.actors) drives 1 ws)
    (many : length ws ≡ length y.start.plan.actors + 5)
    (good : All (λ (p : MeshPass). IsGoodIn (λ (e : Entry). e.seat) p log) (first ∷ passes_of ws))
    (mine : All (λ (e : Entry). IsMine y.start.plan (entries_of_seat e.seat log) e.seat e.step) log)
    (law : IsHistory (mesh_of y.start log)) where
  abbrev plan_of_yard : Plan
  plan_of_yard = y.start.plan

  abbrev count_of_yard : ℕ
  count_of_yard = length y.start.plan.actors

  -- the drives of a list did what the log says
  list_served : (worker : ℕ) (items : List (ℕ × Drive D)) → ListServed seen count_of_yard drives worker ws items
      → AllZip (DidServe seen log) (dealt worker drives) items
  list_served worker items at =
      let its = good_pass y seen drives log first ws ended many good mine at.worker_of at.here in
      serve_log seen plan_of_yard y.start.facts log at.worker_of.job.pass.own worker law
      (are_by_seats plan_of_yard log mine)
      (sym its.own ∙ ap (λ k. entries_of_seat k log) at.number) (dealt worker drives) items
      (dealt_of_worker worker drives) at.served.served

  -- why they ended
  tells_end : (e : JobsEnd) → IsEndOf ws e → TellsEnd plan_of_yard (opened_by y.start) log e
  tells_end ends.NoMemory is = tt
  tells_end ends.Idle is = jobs_ended_idle y seen drives log first ws ended many good mine is
  tells_end ends.LogFull is =
      let w : Worker D = is.1.1 in
      let here : Contains ws w = (is.1.0, is.1.2, is.1.3) in
      let its = ended_of y seen count_of_yard drives 1 ws w ended here in
      let full : WasFull (opened_by y.start) plan_of_yard w.job.pass =
      subst (λ a. EndedAs (opened_by y.start) plan_of_yard w.job.pass w.job.role a) is.1.4 its.1.ended in
      found_full plan_of_yard y.start.facts law.plan.begins law.facts log
      (All-weaker (λ (x : Entry). (x.seat ≢ 0) × IsOfItsJob plan_of_yard x.seat x.step) (λ (x : Entry). x.seat ≢ 0)
      (λ x job. job.0) log (are_of_kind plan_of_yard log mine)) w.job.pass
      (good_pass y seen drives log first ws ended many good mine w here).seen full

  -- all of it
  left_so : (back : List (Drive D)) (e : JobsEnd) → DrivesFit (mesh_of y.start []) (map seen drives)
      → back ≡ gathered_of (lists_of ws) → IsEndOf ws e
      → ThreadsRan (mesh_of y.start []) (mesh_of y.start log) (map seen drives) (map seen back) e
  left_so back e fit is how =
      search (
        rules,
        two_served y seen count_of_yard drives (count_of_yard + 3) 1 ws ended (omega arith) (omega (arith, many)),
        list_served 0,
        list_served 1,
        are_of_kind plan_of_yard log mine,
        none_is_busy plan_of_yard log mine y.start.facts law.plan.begins law.facts law.lawful.0,
        are_served seen log drives,
        sizes_kept seen log drives,
        tells_end e how,
      )

-- what the threads left, by the end of their yard
pub threads_ran : {D : Type 0} (y : MeshYard) (seen : Drive D → DriveView) (drives back : List (Drive D))
    (first : MeshPass) (ws : List (Worker D)) (m : MeshView) (e : JobsEnd)
    → DrivesFit (mesh_of y.start []) (map seen drives) → first.own ≡ []
    → HaveEnded y seen (length y.start.plan.actors) drives 1 ws → length ws ≡ length y.start.plan.actors + 5
    → EndsYard y (first ∷ passes_of ws) m → back ≡ gathered_of (lists_of ws) → IsEndOf ws e
    → ThreadsRan (mesh_of y.start []) m (map seen drives) (map seen back) e
threads_ran y seen drives back first ws m e fit none ended many end back_is how =
    let mine = each_mine y seen drives m.log first ws none ended end.good end.numbers in
    search (rules, left_so y seen drives m.log first ws ended many end.good mine end.law back e fit back_is how)

-- A run in a yard: its workers begin, end, and are all.

-- a slice that was written back whole
pub written : {A : Type 0} (xs ys : List A) (n : ℕ) → length xs ≡ length ys → n ≡ length ys
    → take n (xs ++ drop (length xs) ys) ≡ xs
written xs ys n same all =
    ap (λ l. take n (xs ++ l)) (drop_of_length-le ys (omega (arith, same)))
    ∙ ap (λ l. take n l) (append-nil xs) ∙ take_all n xs (omega (arith, same, all))

-- each of the workers is ready
pub ready_each : {D : Type 0} (y : MeshYard) (lanes : Lanes) (seen : Drive D → DriveView) (ws : List (Worker D)) (i : ℕ)
    (d : Worker D) → AreReady y lanes seen ws → i < length ws → IsReady y lanes seen (slice_index_or ws i d)
ready_each y lanes seen [] i d all lt = absurd (omega (arith, lt))
ready_each y lanes seen (w ∷ ws) zero d all lt = all.0
ready_each y lanes seen (w ∷ ws) (suc i) d all lt = ready_each y lanes seen ws i d all.1 (omega (arith, lt))

-- those that begin are
pub ready_all : {D : Type 0} (y : MeshYard) (lanes : Lanes) (seen : Drive D → DriveView) (actors : ℕ)
    (drives : List (Drive D)) (n : ℕ) (ws : List (Worker D)) → AreStarted y lanes seen actors drives n ws
    → AreReady y lanes seen ws
ready_all y lanes seen actors drives n [] started = tt
ready_all y lanes seen actors drives n (w ∷ ws) started =
    (started.0.ready, ready_all y lanes seen actors drives (n + 1) ws started.1)

-- the pass 0 of a new yard
pub is_first : (y : MeshYard) (p : MeshPass) → p ≡ first_pass y → IsFirst y 1 p
is_first y p is =
    subst (λ (q : MeshPass). IsFirst y 1 q) (sym is)
    (record { of_yard = record { yard = refl; start = refl }; number = refl; own = refl; made = refl })

-- there are few drives
pub few_drives : {D : Type 0} (y : MeshYard) (seen : Drive D → DriveView) (drives : List (Drive D))
    → IsHistory (mesh_of y.start []) → DrivesFit (mesh_of y.start []) (map seen drives) → length drives ≤ MAX_DISKS
few_drives y seen drives law fit =
    let one = length-map drives seen in
    let two = length-map (map seen drives) size_of in
    let facts = ap (λ (l : List (ℕ × ℕ)). length l) fit in
    let disks = AllZip-long IsFact y.start.plan.disks y.start.facts law.facts in
    let few = law.plan.begins.few_disks in
    omega (arith, one, two, facts, disks, few)

-- the mesh as it is printed before the first step is what the pass 0 of a new yard has seen
pub first_listing : (y : MeshYard) (p : MeshPass) → p ≡ first_pass y → (shown : Option (List GeomLine))
    → IfSome shown (λ (lines : List GeomLine). lines ≡ listing (world_of (mesh_of y.start [])))
    → IfSome shown (λ (lines : List GeomLine). lines ≡ listing_seen p)
unfolding listing_after
first_listing y p is None same = tt
first_listing y p is (Some lines) same = subst (λ (q : MeshPass). lines ≡ listing_seen q) (sym is) same

-- the workers of a run that have ended, and all that is known of them before the yard is closed
pub record AllEnded {D : Type 0} (y : MeshYard) (seen : Drive D → DriveView) (drives : List (Drive D))
    (first : MeshPass) (ws : List (Worker D)) : Type 0 where
  pub ended : HaveEnded y seen (length y.start.plan.actors) drives 1 ws
  pub many : length ws ≡ length y.start.plan.actors + 5
  pub whole : IsWhole y (first ∷ passes_of ws)
  pub two : (count : ℕ) → length drives ≤ count → AreTwo count (lists_of ws)

pub all_ended : {D : Type 0} (y : MeshYard) (lanes : Lanes) (seen : Drive D → DriveView) (drives : List (Drive D))
    (actors : ℕ) (first : MeshPass) (old new : List (Worker D)) → actors ≡ length y.start.plan.actors
    → IsFirst y (actors + 6) first → AreStarted y lanes seen actors drives 1 old → length old ≡ actors + 5
    → AllZip (WorkerRan y lanes seen) old new → AllEnded y seen drives first new
all_ended y lanes seen drives actors first old new is its started long ran =
    let count = length y.start.plan.actors in
    search (
      rules,
      have_ended y lanes seen drives 1 old new,
      AllZip-long (WorkerRan y lanes seen) old new ran,
      are_whole y seen count drives first new its.of_yard its.number,
      are_two y seen count drives new (lists_of new),
      two_served y seen count drives (count + 3) 1 new,
    )

-- so it is with those of a crew
module _ {D : Type 0} {y : MeshYard} {lanes : Lanes} {seen : Drive D → DriveView} {drives : List (Drive D)}
    {actors : ℕ} {first : MeshPass} {crew : Crew D} (after : Crew D) (is : actors ≡ length y.start.plan.actors)
    (begins : Begins y lanes seen actors drives first crew)
    (ran : AllZip (WorkerRan y lanes seen) crew.workers.items after.workers.items) where
  pub crew_ended : AllEnded y seen drives first after.workers.items
  crew_ended =
      all_ended y lanes seen drives actors first crew.workers.items after.workers.items is begins.first_is
      begins.started begins.many ran

-- A yard that holds a mesh that made no step

module _ (m : MeshView) (y : MeshYard) (none : m.log ≡ []) (start : y.start ≡ mesh_start m) where
  pub begins : mesh_of y.start [] ≡ m
  begins = ap (λ (s : MeshStart). mesh_of s []) start ∙ ap (λ (l : List Entry). mesh_of (mesh_start m) l) (sym none)

  pub begins_history : IsHistory m → IsHistory (mesh_of y.start [])
  begins_history law = subst (λ (x : MeshView). IsHistory x) (sym begins) law

  pub begins_fit : (drives : List DriveView) → DrivesFit m drives → DrivesFit (mesh_of y.start []) drives
  begins_fit drives fit = subst (λ (x : MeshView). DrivesFit x drives) (sym begins) fit

  pub begins_shown : (shown : Option (List GeomLine))
      → IfSome shown (λ (lines : List GeomLine). lines ≡ listing (world_of m))
      → IfSome shown (λ (lines : List GeomLine). lines ≡ listing (world_of (mesh_of y.start [])))
  begins_shown None same = tt
  begins_shown (Some lines) same = subst (λ (x : MeshView). lines ≡ listing (world_of x)) (sym begins) same
