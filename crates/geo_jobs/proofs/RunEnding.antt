-- A job that was started and ran has ended as its number says, and its entries are those of its kind.
use Rattle.geo_base.proofs.AllLists.{all_mapped}
use Rattle.std.specs.Prelude.{◌≡◌, ◌⊎◌, ℕ, zero, suc, ◌+◌, ◌<◌, ◌%◌, ◌==◌, true, List, [], ◌∷◌, ◌++◌, length, All, Contains, ◌≢◌, Bool, false, filter, find, map, slice_index_or, Any, Option, Some, None, IsSome, option_and_then, ⊤}
use Rattle.std.specs.List.{AllByRecursion, AllZip, enumerate_from}
use Rattle.std.proofs.Common.{ap, arith, inl, inr, refl, subst, sym, ◌∙◌, rules}
use Rattle.std.proofs.lemmas.Bool.{eqb-true, eq-eqb}
use Rattle.std.proofs.lemmas.List.Elements.{All-weaker, filter_passes, recursion_from_All, All-contains, All-from_recursion, All-nil}
use Rattle.geo_disk.specs.declared.drive.Drive.{Drive}
use Rattle.geo_model.specs.declared.step.Entry.{Entry}
use Rattle.geo_model.specs.declared.step.Step.{Step}
use Rattle.geo_model.specs.World.{Plan, World}
use Rattle.geo_model.specs.FixedOrder.{IsOfItsJob, event_seat, disk_seat}
use Rattle.geo_serve.specs.Drives.{DriveView}
use Rattle.geo_laws_graph.proofs.Members.{All-from_contained, at_contained, filter-Contains, find-Contains}
use Rattle.geo_jobs.specs.declared.lanes.Lanes.{Lanes}
use Rattle.geo_jobs.specs.declared.turn.Turn.{Turn}
use Rattle.geo_jobs.specs.Passes.{Goes, MeshPass, opened_by}
use Rattle.geo_jobs.specs.Drives.{disks_of}
use Rattle.geo_jobs.specs.Served.{HasServed, IsOfDisks, AreAnswered}
use Rattle.geo_jobs.specs.declared.client.ClientJob.{ClientJob}
use Rattle.geo_jobs.specs.declared.job.Role.{Role}
use Rattle.geo_jobs.specs.declared.run.Worker.{Worker}
use Rattle.geo_jobs.specs.Causes.{Cause, WasInVain}
use Rattle.geo_jobs.specs.Jobs.{IsOfRole}
use Rattle.geo_jobs.specs.Kinds.{IsOfClient, IsOfDown, IsOfEvents, IsOfUp, event_steps}
use Rattle.geo_jobs.specs.Runs.{IsKept}
use Rattle.geo_jobs.specs.Workers.{WorkerRan}
use Rattle.geo_jobs.specs.Deal.{dealt}
use Rattle.geo_jobs.specs.Started.{AreStarted, HasRole, IsStarted, MeshYard}
use Rattle.geo_jobs.specs.Ended.{AreOfKind, DidAs, EndedAs, HasEnded, HaveEnded, TriedEach, TriedLast}
use Rattle.geo_base.proofs.FindLists.{found_passes}
use Rattle.geo_model.specs.Laws.{NoneBusy}
use Rattle.geo_model.specs.Log.{Legal, replay}
use Rattle.geo_model.specs.Opening.{opening}
use Rattle.geo_model.specs.Passes.{entries_of_seat}
use Rattle.geo_model.specs.Plans.{FactsFit, MayBegin}
use Rattle.geo_model.specs.Results.{device_answer_in, device_answer_of, is_deliver_of, is_take_of, request_in, request_of}
use Rattle.geo_laws_disks.proofs.AllDelivered.{all_delivered_none_busy}
use Rattle.geo_laws_disks.specs.DriveLaws.{IsTaken}
use Rattle.geo_laws_disks.specs.SeatLaws.{AreBySeats}
use Rattle.geo_lock.specs.Pass.{IsGoodIn}
use Rattle.geo_lock.proofs.EachOwn.{each_own}
use Rattle.geo_jobs.specs.Closing.{passes_of}
use Rattle.geo_model.specs.declared.step.Step.TheVariants as steps
use Rattle.geo_jobs.specs.declared.turn.Turn.TheVariants as turns
use Rattle.geo_jobs.specs.declared.job.Role.TheVariants as roles

-- Entries

module _ (p q : MeshPass) (none : p.own ≡ []) where
  -- what a pass without an own entry added are its own entries
  added_are_own : (added : List Entry) → Goes p q added → q.own ≡ added
  added_are_own added goes = goes.own ∙ ap (λ (l : List Entry). l ++ added) none

  kind_of_own : (kind : Step → Type 0) (added : List Entry) → Goes p q added
      → All (λ (e : Entry). kind e.step) added → AreOfKind kind q
  kind_of_own kind added goes kinds = search rules

-- What a job did

module _ {D : Type 0} (seen : Drive D → DriveView) (actors : ℕ) (drives : List (Drive D)) (n : ℕ) (p q : MeshPass)
    (none : p.own ≡ []) where
  -- a client that ran
  client_did : (a b : ClientJob) → (a.actor < actors) × (n ≡ a.actor + 1) → AreOfKind (IsOfClient a.actor) q
      → b.actor ≡ a.actor → (b.actor < actors) × (n ≡ b.actor + 1) × AreOfKind (IsOfClient b.actor) q
  client_did a b role kinds same = search rules

  -- a disk worker that ran
  disk_did : (worker : ℕ) (items left : List (ℕ × Drive D)) (added : List Entry) → items ≡ dealt worker drives
      → Goes p q added → AreOfKind (IsOfDisks (disks_of items)) q → HasServed seen added items left
      → AreOfKind (IsOfDisks (disks_of (dealt worker drives))) q × HasServed seen q.own (dealt worker drives) left
  disk_did worker items left added is goes kinds served = search rules

  -- the job with a number
  did_as : (a b : Role D) (added : List Entry) → HasRole actors drives n a → Goes p q added
      → All (λ (e : Entry). IsOfRole a e.step) added → IsKept seen added a b → DidAs seen actors drives n q b
  did_as (roles.Client a) (roles.Client b) added role goes kinds kept = search rules
  did_as (roles.Events a) (roles.Events b) added role goes kinds kept = search rules
  did_as (roles.Down a) (roles.Down b) added role goes kinds kept = search rules
  did_as (roles.Up a) (roles.Up b) added role goes kinds kept = (role, kind_of_own p q none IsOfUp added goes kinds)
  did_as (roles.Disk a) (roles.Disk b) added role goes kinds kept = search rules
  did_as _ _ added role goes kinds kept = absurd kept

-- The place of a job among its kind

-- the disks are of the worker
abbrev AreOfWorker : {D : Type 0} → ℕ → List (ℕ × Drive D) → Type 0
AreOfWorker {D} worker items = AllByRecursion (λ (x : ℕ × Drive D). x.0 % 2 ≡ worker) items

-- those that were dealt to it are
pub dealt_of_worker : {X : Type 0} (worker : ℕ) (drives : List X)
    → AllByRecursion (λ (x : ℕ × X). x.0 % 2 ≡ worker) (dealt worker drives)
dealt_of_worker {X} worker drives =
    recursion_from_All (λ (x : ℕ × X). x.0 % 2 ≡ worker) (dealt worker drives)
    (All-weaker (λ (x : ℕ × X). (x.0 % 2 == worker) ≡ true) (λ (x : ℕ × X). x.0 % 2 ≡ worker)
    (λ x passes. eqb-true (x.0 % 2) worker passes) (dealt worker drives)
    (filter_passes (λ (x : ℕ × X). x.0 % 2 == worker) (enumerate_from 0 drives)))

-- one of two
pub of_two : (k : ℕ) → k < 2 → (k ≡ 0) ⊎ (k ≡ 1)
of_two zero lt = inl refl
of_two (suc zero) lt = inr refl
of_two (suc (suc k)) lt = absurd (omega (arith, lt))

-- Why a job ended

-- a worker has only disks of its own
own_disk : {X : Type 0} (worker disk : ℕ) (items : List (ℕ × X))
    → AllByRecursion (λ (x : ℕ × X). x.0 % 2 ≡ worker) items → Contains (map (λ (x : ℕ × X). x.0) items) disk
    → disk % 2 ≡ worker
own_disk {X} worker disk items of among =
    at_contained (λ d. d % 2 ≡ worker) (map (λ (x : ℕ × X). x.0) items) disk
    (all_mapped (λ d. d % 2 ≡ worker) (λ (x : ℕ × X). x.0) items of) among

module _ (plan : Plan) (k : ℕ) where
  -- a step of a role is of the kind of the job whose number the role has
  client_kind : (actor : ℕ) (s : Step) → k ≡ actor + 1 → IsOfClient actor s → IsOfItsJob plan k s
  client_kind actor (steps.Go other) number is = number ∙ ap (λ n. n + 1) (sym is)
  client_kind actor _ number is = absurd is

  events_kind : (s : Step) → k ≡ event_seat plan → IsOfEvents s → IsOfItsJob plan k s
  events_kind steps.Event number is = number
  events_kind steps.Judge number is = number
  events_kind steps.Reap number is = number
  events_kind steps.Wash number is = number
  events_kind _ number is = absurd is

  down_kind : (s : Step) → k ≡ event_seat plan + 1 → IsOfDown s → IsOfItsJob plan k s
  down_kind (steps.Start bio) number is = number
  down_kind _ number is = absurd is

  up_kind : (s : Step) → k ≡ event_seat plan + 2 → IsOfUp s → IsOfItsJob plan k s
  up_kind (steps.Up bio) number is = number
  up_kind _ number is = absurd is

  disk_kind : {D : Type 0} (worker : ℕ) (items : List (ℕ × Drive D)) (s : Step) → worker < 2
      → AreOfWorker worker items → k ≡ event_seat plan + 3 + worker → IsOfDisks (disks_of items) s
      → IsOfItsJob plan k s
  disk_kind worker items (steps.Take disk bio) two of number is = search (rules, own_disk worker disk items of is)
  disk_kind worker items (steps.Deliver bio got) two of number is = search rules
  disk_kind worker items _ two of number is = absurd is

module _ {D : Type 0} (opened : World) (plan : Plan) (drives : List (Drive D)) (n : ℕ) (q : MeshPass)
    (number : q.number ≡ n) where
  -- the number of a role, as the plan counts
  kind_of_role : (a : Role D) (s : Step) → HasRole (length plan.actors) drives n a → IsOfRole a s
      → IsOfItsJob plan q.number s
  kind_of_role (roles.Client a) s role is = client_kind plan q.number a.actor s (number ∙ role.1) is
  kind_of_role (roles.Events a) s role is = events_kind plan q.number s (number ∙ role) is
  kind_of_role (roles.Down a) s role is = search rules
  kind_of_role (roles.Up a) s role is = search rules
  kind_of_role (roles.Disk a) s role is =
      disk_kind plan q.number a.worker a.drives.items s role.0
      (subst (λ (xs : List (ℕ × Drive D)). AreOfWorker a.worker xs) (sym role.2) (dealt_of_worker a.worker drives))
      (let e = role.1 in omega (arith, number, e)) is

  -- a step that the event worker tried in vain
  tried_last : (s : Step) → WasInVain opened q s → TriedLast opened q s
  tried_last s vain = search rules

  tried_each : ((s : Step) → IsOfEvents s → WasInVain opened q s) → TriedEach opened q event_steps
  tried_each vain =
      let wash : TriedEach opened q (steps.Wash ∷ []) = (tried_last steps.Wash (vain steps.Wash tt), tt) in
      let reap : TriedEach opened q (steps.Reap ∷ steps.Wash ∷ []) =
      (tried_last steps.Reap (vain steps.Reap tt), wash) in
      let event : TriedEach opened q (steps.Event ∷ steps.Reap ∷ steps.Wash ∷ []) =
      (tried_last steps.Event (vain steps.Event tt), reap) in
      (tried_last steps.Judge (vain steps.Judge tt), event)

  -- a job ended with its answer
  ended_as : (seen : Drive D → DriveView) (added : List Entry) (a b : Role D) (answer : Turn)
      → HasRole (length plan.actors) drives n a → IsKept seen added a b → Cause opened q a answer
      → EndedAs opened plan q b answer
  ended_as seen added a b turns.Worked role kept cause = cause
  ended_as seen added a b turns.NoMemory role kept cause = tt
  ended_as seen added a b turns.LogFull role kept cause = search (rules, kind_of_role a cause.tried role cause.is_of)
  ended_as seen added (roles.Client a) (roles.Client b) turns.Idle role kept cause = search rules
  ended_as seen added (roles.Client a) (roles.Client b) turns.Finished role kept cause = search rules
  ended_as seen added (roles.Events a) (roles.Events b) turns.Idle role kept cause = tried_each (λ s is. cause s is)
  ended_as seen added _ (roles.Client b) turns.Idle role kept cause = absurd kept
  ended_as seen added _ (roles.Events b) turns.Idle role kept cause = absurd kept
  ended_as seen added _ _ turns.Idle role kept cause = tt
  ended_as seen added (roles.Client a) _ turns.Finished role kept cause = absurd kept
  ended_as seen added _ _ turns.Finished role kept cause = absurd cause

-- Workers

module _ {D : Type 0} (y : MeshYard) (lanes : Lanes) (seen : Drive D → DriveView) (drives : List (Drive D)) where
  abbrev actors_of_yard : ℕ
  actors_of_yard = length y.start.plan.actors

  -- a worker that was started and ran
  has_ended : (n : ℕ) (old new : Worker D) → IsStarted y lanes seen actors_of_yard drives n old
      → WorkerRan y lanes seen old new → HasEnded y seen actors_of_yard drives n new
  has_ended n old new started ran = search (rules, ended_as (opened_by y.start) y.start.plan drives n new.job.pass)

  -- all of them
  pub have_ended : (n : ℕ) (old new : List (Worker D)) → AreStarted y lanes seen actors_of_yard drives n old
      → AllZip (WorkerRan y lanes seen) old new → HaveEnded y seen actors_of_yard drives n new
  have_ended n [] [] started ran = tt
  have_ended n (x ∷ xs) (z ∷ zs) started ran =
      (has_ended n x z started.0 ran.0, have_ended (n + 1) xs zs started.1 ran.1)
  have_ended n [] (z ∷ zs) started ran = absurd ran
  have_ended n (x ∷ xs) [] started ran = absurd ran

-- Each entry of the threads' log is an own entry of the job whose number is its seat, and of the job's kind.

-- a Go is of one of so many actors
abbrev pub IsOfActors : ℕ → Step → Type 0
IsOfActors actors (steps.Go actor) = actor < actors
IsOfActors actors _ = ⊤

-- where a step is a Take, the entries deliver all that they take
abbrev pub AnswersIfTake : List Entry → Step → Type 0
AnswersIfTake mine (steps.Take disk bio) = AreAnswered mine
AnswersIfTake mine _ = ⊤

-- what is known of a step of the job with a number, whose own entries these are
pub record IsMine (plan : Plan) (mine : List Entry) (n : ℕ) (s : Step) : Type 0 where
  pub some_job : n ≢ 0
  pub kind : IsOfItsJob plan n s
  pub actor : IsOfActors (length plan.actors) s
  pub taken : IsTaken mine s
  pub answered : AnswersIfTake mine s

module _ (plan : Plan) (mine : List Entry) (n : ℕ) where
  known : n ≢ 0 → (s : Step) → IsOfItsJob plan n s → IsOfActors (length plan.actors) s → IsTaken mine s
      → AnswersIfTake mine s → IsMine plan mine n s
  known some_job s kind actor taken answered = search rules

  client_mine : (actor : ℕ) → actor < length plan.actors → n ≡ actor + 1 → (s : Step) → IsOfClient actor s
      → IsMine plan mine n s
  client_mine actor lt is (steps.Go other) of = search rules
  client_mine actor lt is _ of = absurd of

  events_mine : n ≡ length plan.actors + 1 → (s : Step) → IsOfEvents s → IsMine plan mine n s
  events_mine is steps.Judge of = known (λ none. omega (arith, is, none)) steps.Judge is tt tt tt
  events_mine is steps.Event of = known (λ none. omega (arith, is, none)) steps.Event is tt tt tt
  events_mine is steps.Reap of = known (λ none. omega (arith, is, none)) steps.Reap is tt tt tt
  events_mine is steps.Wash of = known (λ none. omega (arith, is, none)) steps.Wash is tt tt tt
  events_mine is _ of = absurd of

  down_mine : n ≡ length plan.actors + 2 → (s : Step) → IsOfDown s → IsMine plan mine n s
  down_mine is (steps.Start bio) of = search rules
  down_mine is _ of = absurd of

  up_mine : n ≡ length plan.actors + 3 → (s : Step) → IsOfUp s → IsMine plan mine n s
  up_mine is (steps.Up bio) of = known (λ none. omega (arith, is, none)) (steps.Up bio) (omega (arith, is)) tt tt tt
  up_mine is _ of = absurd of

  disk_mine : {X : Type 0} (worker : ℕ) (drives : List X) → worker < 2 → n ≡ length plan.actors + 4 + worker
      → (s : Step) → IsOfDisks (map (λ (x : ℕ × X). x.0) (dealt worker drives)) s → IsTaken mine s → AreAnswered mine
      → IsMine plan mine n s
  disk_mine {X} worker drives two is (steps.Take disk bio) of taken answered =
      search (rules, own_disk worker disk (dealt worker drives) (dealt_of_worker worker drives) of)
  disk_mine {X} worker drives two is (steps.Deliver bio got) of taken answered = search rules
  disk_mine worker drives two is _ of taken answered = absurd of

-- the own entries of the job with a number
mine_of : {D : Type 0} (seen : Drive D → DriveView) (plan : Plan) (drives : List (Drive D)) (n : ℕ) (q : MeshPass)
    (role : Role D) → DidAs seen (length plan.actors) drives n q role
    → All (λ (e : Entry). IsMine plan q.own n e.step) q.own
mine_of seen plan drives n q (roles.Client j) did = search rules
mine_of seen plan drives n q (roles.Events j) did = search rules
mine_of seen plan drives n q (roles.Down j) did = search rules
mine_of seen plan drives n q (roles.Up j) did = search rules
mine_of {D} seen plan drives n q (roles.Disk j) did = λ k d lt.
    disk_mine plan q.own n {X = Drive D} j.worker drives did.0 did.1 (slice_index_or q.own k d).step (did.2 k d lt)
    (All-from_recursion (λ (e : Entry). IsTaken q.own e.step) q.own did.3.taken k d lt) did.3.answered

-- The whole log

module _ {D : Type 0} (y : MeshYard) (seen : Drive D → DriveView) (drives : List (Drive D)) (log : List Entry) where
  abbrev plan : Plan
  plan = y.start.plan

  -- what is known of an entry of a number
  abbrev IsMineOf : ℕ → Entry → Type 0
  IsMineOf n e = IsMine plan (entries_of_seat n log) n e.step

  -- the own entries of a worker
  mine_one : (n : ℕ) (w : Worker D) → HasEnded y seen (length plan.actors) drives n w
      → IsGoodIn (λ (e : Entry). e.seat) w.job.pass log → All (IsMineOf w.job.pass.number) w.job.pass.own
  mine_one n w ended good = search (rules, mine_of seen plan drives n)

  mine_all : (n : ℕ) (ws : List (Worker D)) → HaveEnded y seen (length plan.actors) drives n ws
      → AllByRecursion (λ (p : MeshPass). IsGoodIn (λ (e : Entry). e.seat) p log) (passes_of ws)
      → AllByRecursion (λ (p : MeshPass). All (IsMineOf p.number) p.own) (passes_of ws)
  mine_all n [] ended good = tt
  mine_all n (w ∷ ws) ended good = (mine_one n w ended.0 good.0, mine_all (n + 1) ws ended.1 good.1)

  -- each entry of the log
  pub each_mine : (first : MeshPass) (ws : List (Worker D)) → first.own ≡ []
      → HaveEnded y seen (length plan.actors) drives 1 ws
      → All (λ (p : MeshPass). IsGoodIn (λ (e : Entry). e.seat) p log) (first ∷ passes_of ws)
      → All (λ (e : Entry). Any (λ (p : MeshPass). p.number ≡ e.seat) (first ∷ passes_of ws)) log
      → All (λ (e : Entry). IsMine plan (entries_of_seat e.seat log) e.seat e.step) log
  each_mine first ws none ended good numbers =
      each_own (λ (e : Entry). e.seat) IsMineOf (first ∷ passes_of ws) log good numbers
      (All-from_recursion (λ (p : MeshPass). All (IsMineOf p.number) p.own) (first ∷ passes_of ws) (
        subst (λ (l : List Entry). All (IsMineOf first.number) l) (sym none) (All-nil (IsMineOf first.number)),
        mine_all 1 ws ended
            (recursion_from_All (λ (p : MeshPass). IsGoodIn (λ (e : Entry). e.seat) p log) (first ∷ passes_of ws)
            good).1,
      ))

-- What that tells

-- what is found and kept is found among what is kept
found_kept : {X : Type 0} (test keep : X → Bool) (xs : List X) (x : X) → find test xs ≡ Some x → keep x ≡ true
    → find test (filter keep xs) ≡ Some x
found_kept test keep [] x found kept = found
found_kept {X} test keep (z ∷ xs) x found kept =
    by (test z) refl (keep z) refl found (λ rest. found_kept test keep xs x rest kept)
  where
    by : (c : Bool) → test z ≡ c → (k : Bool) → keep z ≡ k → find test (z ∷ xs) ≡ Some x
        → (find test xs ≡ Some x → find test (filter keep xs) ≡ Some x) → find test (filter keep (z ∷ xs)) ≡ Some x
    by true is true stays here rest = rw (stays, is) (rw is at here)
    by true is false stays here rest = search rules
    by false is true stays here rest = rw (stays, is) (rest (rw is at here))
    by false is false stays here rest = rw stays (rest (rw is at here))

-- a Deliver has an answer
answer_there : (b : ℕ) (s : Step) → is_deliver_of b s ≡ true → IsSome (device_answer_in s)
answer_there b (steps.Deliver x got) hit = refl
answer_there b _ hit = absurd (let bad : ⊥ = cc in bad)

-- an answer that some entries have, all have
answer_in_all : (b : ℕ) (keep : Entry → Bool) (es : List Entry) → IsSome (device_answer_of (filter keep es) b)
    → IsSome (device_answer_of es b)
answer_in_all b keep [] some = some
answer_in_all b keep (e ∷ es) some =
    by (is_deliver_of b e.step) refl (keep e) refl some (answer_in_all b keep es)
  where
    by : (c : Bool) → is_deliver_of b e.step ≡ c → (k : Bool) → keep e ≡ k
        → IsSome (device_answer_of (filter keep (e ∷ es)) b)
        → (IsSome (device_answer_of (filter keep es) b) → IsSome (device_answer_of es b))
        → IsSome (device_answer_of (e ∷ es) b)
    by true hit k stays here rest = rw hit (answer_there b e.step hit)
    by false hit true stays here rest = rw hit (rest (rw (stays, hit) at here))
    by false hit false stays here rest = rw hit (rest (rw stays at here))

-- where the step is a Take
answers_take : (mine : List Entry) (b : ℕ) (s : Step) → is_take_of b s ≡ true → AnswersIfTake mine s → AreAnswered mine
answers_take mine b (steps.Take disk x) hit answered = answered
answers_take mine b _ hit answered = absurd (let bad : ⊥ = cc in bad)

module _ (plan : Plan) (log : List Entry)
    (mine : All (λ (e : Entry). IsMine plan (entries_of_seat e.seat log) e.seat e.step) log) where
  -- what is known of one
  pub mine_at : (e : Entry) → Contains log e → IsMine plan (entries_of_seat e.seat log) e.seat e.step
  mine_at e here = All-contains (λ (x : Entry). IsMine plan (entries_of_seat x.seat log) x.seat x.step) log e mine here

  -- each is of a job and of its kind
  pub are_of_kind : All (λ (e : Entry). (e.seat ≢ 0) × IsOfItsJob plan e.seat e.step) log
  are_of_kind = search rules

  -- the disks are served by their seats
  pub are_by_seats : AreBySeats (disk_seat plan) log
  are_by_seats = record {
    takes = search rules;
    delivers = λ seat. All-from_contained (λ (e : Entry). IsTaken (entries_of_seat seat log) e.step)
        (entries_of_seat seat log) (λ e here.
        let at = filter-Contains (λ (x : Entry). x.seat == seat) log e here in
        subst (λ k. IsTaken (entries_of_seat k log) e.step) (eqb-true e.seat seat at.1) (mine_at e at.0).taken);
  }

  -- what was taken was delivered
  all_delivered : (b : ℕ) → IsSome (request_of log b) → IsSome (device_answer_of log b)
  all_delivered b some = by (find (λ (e : Entry). is_take_of b e.step) log) refl
    where
      by : (o : Option Entry) → find (λ (e : Entry). is_take_of b e.step) log ≡ o → IsSome (device_answer_of log b)
      by None none = search rules
      by (Some e) found =
          let here : Contains log e = find-Contains (λ (x : Entry). is_take_of b x.step) log e found in
          let own = entries_of_seat e.seat log in
          let answered : AreAnswered own =
          answers_take own b e.step (found_passes (λ (x : Entry). is_take_of b x.step) log e found)
          (mine_at e here).answered in
          let same : find (λ (x : Entry). is_take_of b x.step) own ≡ Some e =
          found_kept (λ (x : Entry). is_take_of b x.step) (λ (x : Entry). x.seat == e.seat) log e found
          (eq-eqb e.seat e.seat refl) in
          let asked : request_of log b ≡ request_of own b =
          ap (λ (o : Option Entry). option_and_then (λ (x : Entry). request_in x.outcome) o) (found ∙ sym same) in
          answer_in_all b (λ (x : Entry). x.seat == e.seat) log (answered b (subst (λ o. IsSome o) asked some))

  -- so no bio is at a disk
  pub none_is_busy : (facts : List (ℕ × ℕ)) → MayBegin plan → FactsFit plan facts → Legal (opening plan facts) log
      → NoneBusy (replay (opening plan facts) log)
  none_is_busy facts is fit legal = all_delivered_none_busy plan facts is fit log legal all_delivered
