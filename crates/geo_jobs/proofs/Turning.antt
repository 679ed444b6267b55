-- A turn, from what became of its ticket; what it leaves of the worker's passes and drives.
use Rattle.std.specs.Prelude.{◌≡◌, ◌≢◌, ◌⊎◌, ℕ, zero, suc, List, [], ◌∷◌, ◌++◌, Option, Some, None, AllPairs, Contains, IfSome, IsSomeAnd, slice_get, slice_set}
use Rattle.std.proofs.Common.{append-nil, inl, inr, refl, sym, ◌∙◌, ap, subst, arith}
use Rattle.std.proofs.lemmas.List.Elements.{All-set}
use Rattle.geo_disk.specs.declared.drive.Drive.{Drive}
use Rattle.geo_model.specs.declared.step.Entry.{Entry}
use Rattle.geo_model.specs.declared.step.Outcome.TheVariants as outcomes
use Rattle.geo_model.specs.declared.step.Step.TheVariants as steps
use Rattle.geo_model.specs.World.{World}
use Rattle.geo_model.specs.FixedOrder.{FoundFull, WasIdle}
use Rattle.geo_serve.specs.Drives.{DriveView}
use Rattle.geo_lane.specs.declared.ticket.Ticket.{Ticket}
use Rattle.geo_lane.specs.declared.ticket.TicketStep.TheVariants as hints
use Rattle.geo_lane.specs.LanePass.{LanePassView}
use Rattle.geo_jobs.specs.declared.lanes.Lanes.{Lanes}
use Rattle.geo_jobs.specs.declared.turn.Turn.{Turn}
use Rattle.geo_jobs.specs.declared.turn.Turn.TheVariants as turns
use Rattle.geo_jobs.specs.Passes.{Goes, MeshPass}
use Rattle.geo_jobs.specs.Putting.{PutsAll}
use Rattle.geo_jobs.proofs.Budgets.{within_worked}
use Rattle.geo_jobs.proofs.Joins.{goes_self}
use Rattle.geo_jobs.proofs.Tickets.{puts_one, puts_same}
use Rattle.geo_jobs.specs.declared.disk_job.DiskJob.{DiskJob}
use Rattle.geo_jobs.specs.Drives.{AnswersOne, HasDrives, LacksDisk, ServesAt, disks_of}
use Rattle.geo_jobs.specs.Turns.{DidBio, DidDiskTurn, IsDiskJob, Rests, ServesBio, WasEmpty, lane_of, take_in, with_ticket}
use Rattle.geo_jobs.proofs.Places.{at_place}

-- a worker with another pass of its own lane
abbrev pub with_own : {D : Type 0} → DiskJob D → LanePassView → DiskJob D
with_own j own = record j { own = own }

-- the pass with one ticket more taken
abbrev pub Took : LanePassView → LanePassView → Ticket → Type 0
Took p q t = q ≡ record p { taken = p.taken ++ t ∷ [] }

module _ {D : Type 0} (opened : World) (seen : Drive D → DriveView) (a : DiskJob D) where
  -- why a ticket to take a bio is passed over
  abbrev IsVain : MeshPass → ℕ × ℕ → Type 0
  IsVain q x = LacksDisk a.drives.items x.0 ⊎ WasIdle opened q.seen q.number (steps.Take x.0 x.1)

  -- a lane that was empty
  pub found_empty : (p : MeshPass) (own : LanePassView) → own ≡ a.own → WasEmpty a.own
      → DidDiskTurn opened seen p p a (with_own a own) turns.Idle
  found_empty p own same empty = inl (record { goes = goes_self p; same = ap (λ l. with_own a l) same }, empty)

  -- a turn that took a ticket and did nothing else
  took_one : (p : MeshPass) (own : LanePassView) (t : Ticket) → Took a.own own t
      → Rests p p (with_ticket a t) (with_own a own)
  took_one p own t took = record { goes = goes_self p; same = ap (λ l. with_own a l) took }

  -- a ticket that isn't one to take a bio
  pub other_ticket : (p : MeshPass) (own : LanePassView) (t : Ticket) → Took a.own own t → None ≡ take_in t.step
      → DidDiskTurn opened seen p p a (with_own a own) turns.Idle
  other_ticket p own t took none =
      inr (t, took_one p own t took, subst (λ o. IfSome o (IsVain p)) none tt)

  -- one for a disk that the worker hasn't
  pub foreign_ticket : (p : MeshPass) (own : LanePassView) (t : Ticket) (disk bio : ℕ) → Took a.own own t
      → Some (disk, bio) ≡ take_in t.step → LacksDisk a.drives.items disk
      → DidDiskTurn opened seen p p a (with_own a own) turns.Idle
  foreign_ticket p own t disk bio took named foreign =
      inr (t, took_one p own t took, subst (λ o. IfSome o (IsVain p)) named (inl foreign))

  -- one for which there was no room
  pub without_room : (p : MeshPass) (own : LanePassView) (t : Ticket) → Took a.own own t
      → DidDiskTurn opened seen p p a (with_own a own) turns.NoMemory
  without_room p own t took = (t, took_one p own t took)

  -- one that was tried
  pub tried_ticket : (p q : MeshPass) (b : DiskJob D) (own : LanePassView) (t : Ticket) (disk bio : ℕ) (r : Turn)
      → Took a.own own t → Some (disk, bio) ≡ take_in t.step → Contains (disks_of a.drives.items) disk
      → DidBio opened seen disk bio p q (with_own a own) b r → DidDiskTurn opened seen p q a b r
  tried_ticket p q b own t disk bio r took named has did =
      by r (subst (λ l. DidBio opened seen disk bio p q (with_own a l) b r) took did)
    where
      by : (r : Turn) → DidBio opened seen disk bio p q (with_ticket a t) b r → DidDiskTurn opened seen p q a b r
      by turns.Worked did =
          (t, subst (λ o. IsSomeAnd o (λ (x : ℕ × ℕ). ServesBio seen x.0 x.1 p q (with_ticket a t) b)) named did)
      by turns.Idle did = inr (t, did.0, subst (λ o. IfSome o (IsVain q)) named (inr did.1))
      by turns.Finished did = did
      by turns.LogFull did = (
        t,
        did.0,
        subst
            (λ o. IsSomeAnd o
            (λ (x : ℕ × ℕ). Contains (disks_of a.drives.items) x.0
            × FoundFull opened q.seen q.number (steps.Take x.0 x.1)))
            named (has, did.1),
      )
      by turns.NoMemory did = (t, did)

-- What a turn leaves

module _ {D : Type 0} (opened : World) (seen : Drive D → DriveView) (lanes : Lanes) where
  -- a worker that took a ticket
  ticket_job : (own : List Entry) (a : DiskJob D) (t : Ticket) → IsDiskJob lanes own a
      → IsDiskJob lanes own (with_ticket a t)
  ticket_job own a t job = record { own = job.own; takes = job.takes; up = job.up; within = job.within }

  pub took_job : (entries : List Entry) (a : DiskJob D) (own : LanePassView) (t : Ticket) → Took a.own own t
      → IsDiskJob lanes entries a → IsDiskJob lanes entries (with_own a own)
  took_job entries a own t took job =
      subst (λ l. IsDiskJob lanes entries (with_own a l)) (sym took) (ticket_job entries a t job)

  -- one whose lane was empty
  pub kept_job : (entries : List Entry) (a : DiskJob D) (own : LanePassView) → own ≡ a.own
      → IsDiskJob lanes entries a → IsDiskJob lanes entries (with_own a own)
  kept_job entries a own same job = subst (λ l. IsDiskJob lanes entries (with_own a l)) (sym same) job

  -- one that rests
  rest_job : (p q : MeshPass) (a b : DiskJob D) → IsDiskJob lanes p.own a → Rests p q a b → IsDiskJob lanes q.own b
  rest_job p q a b job rests =
      subst (λ (j : DiskJob D). IsDiskJob lanes q.own j) (sym rests.same)
      (subst (λ own. IsDiskJob lanes own a) (sym (rests.goes.own ∙ append-nil p.own)) job)

  -- one that served
  serve_job : (p q : MeshPass) (a b : DiskJob D) (disk bio : ℕ) → IsDiskJob lanes p.own a
      → ServesBio seen disk bio p q a b → IsDiskJob lanes q.own b
  serve_job p q a b disk bio job works = record {
    own = ap (λ (j : DiskJob D). j.own.lane) works.same ∙ job.own
        ∙ ap (λ n. lane_of lanes n) (sym (ap (λ (j : DiskJob D). j.worker) works.same));
    takes = ap (λ (j : DiskJob D). j.own.sender) works.same ∙ job.takes;
    up = ap (λ (l : LanePassView). l.lane) (puts_same a.up (hints.Up bio ∷ []) b.up puts) ∙ job.up;
    within = within_worked p q
        (record { seat = p.number; step = steps.Take disk bio; outcome = outcomes.Asked works.serves.request })
        (record { seat = p.number; step = steps.Deliver bio works.serves.got; outcome = outcomes.Delivered } ∷ []) a.up
        b.up (hints.Up bio ∷ []) (subst (λ (es : List Entry). Goes p q es) works.serves.adds works.goes) job.within puts
        (omega arith);
  }
    where
      puts : PutsAll a.up (hints.Up bio ∷ []) b.up
      puts = puts_one a.up (hints.Up bio) b.up works.puts

  -- its passes stay those of the lanes
  pub job_stays : (p q : MeshPass) (a b : DiskJob D) (r : Turn) → IsDiskJob lanes p.own a
      → DidDiskTurn opened seen p q a b r → IsDiskJob lanes q.own b
  job_stays p q a b turns.Worked job did = by (take_in did.0.step) did.1
    where
      by : (o : Option (ℕ × ℕ))
          → IsSomeAnd o (λ (x : ℕ × ℕ). ServesBio seen x.0 x.1 p q (with_ticket a did.0) b) → IsDiskJob lanes q.own b
      by None works = absurd works
      by (Some x) works =
          serve_job p q (with_ticket a did.0) b x.0 x.1 (ticket_job p.own a did.0 job) works
  job_stays p q a b turns.Idle job (inl empty) = rest_job p q a b job empty.0
  job_stays p q a b turns.Idle job (inr passed) =
      rest_job p q (with_ticket a passed.0) b (ticket_job p.own a passed.0 job) passed.1
  job_stays p q a b turns.Finished job did = absurd did
  job_stays p q a b turns.LogFull job did =
      rest_job p q (with_ticket a did.0) b (ticket_job p.own a did.0 job) did.1
  job_stays p q a b turns.NoMemory job did =
      rest_job p q (with_ticket a did.0) b (ticket_job p.own a did.0 job) did.1

-- the numbers of the disks stay, where a drive is changed
pub numbers_same : {D : Type 0} (items : List (ℕ × Drive D)) (place n : ℕ) (old new : Drive D)
    → slice_get items place ≡ Some (n, old) → disks_of (slice_set items place (n, new)) ≡ disks_of items
numbers_same [] place n old new at = refl
numbers_same {D} (x ∷ items) zero n old new at =
    let is : Some x ≡ Some (n, old) = at in
    let same : x ≡ (n, old) = cc in
    ap (λ (y : ℕ × Drive D). y.0 ∷ disks_of items) (sym same)
numbers_same (x ∷ items) (suc place) n old new at = ap (λ ns. x.0 ∷ ns) (numbers_same items place n old new at)

module _ {D : Type 0} (opened : World) (facts : List (ℕ × ℕ)) (seen : Drive D → DriveView) where
  -- drives of which one served
  serve_drives : (number disk bio : ℕ) (before after : List (ℕ × Drive D)) (added : List Entry)
      → HasDrives facts seen before → ServesAt seen number disk bio before after added → HasDrives facts seen after
  serve_drives number disk bio before after added has serves =
      subst (λ items. HasDrives facts seen items) (sym serves.answers.drives) (record {
        apart = subst (λ ns. AllPairs (λ x y. x ≢ y) ns)
            (sym (numbers_same before at.place serves.request.disk at.old at.new at.at)) has.apart;
        sizes = All-set Sized before at.place (serves.request.disk, at.new) sized has.sizes;
      })
    where
      at : AnswersOne seen serves.request before after serves.got
      at = serves.answers

      Sized : ℕ × Drive D → Type 0
      Sized x = slice_get facts x.0 ≡ Some ((seen x.1).sector, (seen x.1).count)

      sized : Sized (serves.request.disk, at.new)
      sized =
          at_place before at.place (serves.request.disk, at.old) at.at Sized has.sizes
          ∙ ap (λ n. Some (n, (seen at.old).count)) (sym at.serves.sector)
          ∙ ap (λ n. Some ((seen at.new).sector, n)) (sym at.serves.count)

  -- the drives stay those of their disks
  pub drives_stay : (p q : MeshPass) (a b : DiskJob D) (r : Turn) → HasDrives facts seen a.drives.items
      → DidDiskTurn opened seen p q a b r → HasDrives facts seen b.drives.items
  drives_stay p q a b turns.Worked has did = by (take_in did.0.step) did.1
    where
      by : (o : Option (ℕ × ℕ))
          → IsSomeAnd o (λ (x : ℕ × ℕ). ServesBio seen x.0 x.1 p q (with_ticket a did.0) b)
          → HasDrives facts seen b.drives.items
      by None works = absurd works
      by (Some x) works = serve_drives p.number x.0 x.1 a.drives.items b.drives.items works.added has works.serves
  drives_stay p q a b turns.Idle has (inl empty) =
      subst (λ (j : DiskJob D). HasDrives facts seen j.drives.items) (sym empty.0.same) has
  drives_stay p q a b turns.Idle has (inr passed) =
      subst (λ (j : DiskJob D). HasDrives facts seen j.drives.items) (sym passed.1.same) has
  drives_stay p q a b turns.Finished has did = absurd did
  drives_stay p q a b turns.LogFull has did =
      subst (λ (j : DiskJob D). HasDrives facts seen j.drives.items) (sym did.1.same) has
  drives_stay p q a b turns.NoMemory has did =
      subst (λ (j : DiskJob D). HasDrives facts seen j.drives.items) (sym did.1.same) has
