-- A turn of a disk worker.
use Rattle.std.specs.Prelude.{◌≡◌, ◌⊎◌, ℕ, ◌==◌, List, [], ◌∷◌, ◌++◌, Option, Some, None, Contains, IfSome, IsSomeAnd, if◌then◌else◌}
use Rattle.atomic_table.specs.Seated.{TableId}
use Rattle.crossbeam_queue.specs.Fifo.{Held}
use Rattle.geo_disk.specs.declared.drive.Drive.{Drive}
use Rattle.geo_model.specs.declared.step.Entry.{Entry}
use Rattle.geo_model.specs.declared.step.Step.TheVariants as steps
use Rattle.geo_model.specs.World.{World}
use Rattle.geo_model.specs.FixedOrder.{FoundFull, WasIdle}
use Rattle.geo_serve.specs.Drives.{DriveView}
use Rattle.geo_lane.specs.declared.ticket.Ticket.{Ticket}
use Rattle.geo_lane.specs.declared.ticket.TicketStep.{TicketStep}
use Rattle.geo_lane.specs.declared.ticket.TicketStep.TheVariants as hints
use Rattle.geo_lane.specs.Delivery.{Tells}
use Rattle.geo_lane.specs.LanePass.{LanePassView, view_of}
use Rattle.geo_jobs.specs.declared.lanes.Lanes.{Lanes}
use Rattle.geo_jobs.specs.declared.turn.Turn.{Turn}
use Rattle.geo_jobs.specs.declared.turn.Turn.TheVariants as turns
use Rattle.geo_jobs.specs.Passes.{Goes, MeshPass}
use Rattle.geo_jobs.specs.Putting.{IsWithin, PutsOne}
use Rattle.geo_jobs.specs.declared.disk_job.DiskJob.{DiskJob}
use Rattle.geo_jobs.specs.Drives.{LacksDisk, ServesAt, disks_of}

-- the lane of a disk worker; there are two workers, with the numbers 0 and 1
abbrev pub lane_of : Lanes → ℕ → TableId
lane_of lanes worker = if worker == 0 then lanes.disk0 else lanes.disk1

-- the passes of a worker are of the lanes: it takes from its own lane, and puts into the up lane, by few tickets for
-- each own entry of its pass
pub record IsDiskJob {D : Type 0} (lanes : Lanes) (entries : List Entry) (j : DiskJob D) : Type 0 where
  pub own : j.own.lane ≡ lane_of lanes j.worker
  pub takes : j.own.sender ≡ 0
  pub up : j.up.lane ≡ lanes.up
  pub within : IsWithin j.up entries

-- the disk and the bio of a ticket to take one
abbrev pub take_in : TicketStep → Option (ℕ × ℕ)
take_in (hints.Take disk bio) = Some (disk, bio)
take_in _ = None

-- the worker that took one ticket more from its lane
abbrev pub with_ticket : {D : Type 0} → DiskJob D → Ticket → DiskJob D
with_ticket j t = record j { own = record j.own { taken = j.own.taken ++ t ∷ [] } }

-- the lane was empty at one moment of the call
abbrev pub WasEmpty : LanePassView → Type 0
WasEmpty p = Held 0 (Tells (view_of p))

-- nothing was added to the log, no drive was asked and no ticket was put
pub record Rests {D : Type 0} (p q : MeshPass) (a b : DiskJob D) : Type 0 where
  pub goes : Goes p q []
  pub same : b ≡ a

-- a bio was taken, served and delivered, and the ticket to give it up was put
pub record ServesBio {D : Type 0} (seen : Drive D → DriveView) (disk bio : ℕ) (p q : MeshPass) (a b : DiskJob D)
    : Type 0 where
  pub added : List Entry
  pub goes : Goes p q added
  pub serves : ServesAt seen p.number disk bio a.drives.items b.drives.items added
  pub puts : PutsOne a.up (hints.Up bio) b.up
  pub same : b ≡ record a { drives = b.drives; up = b.up }

-- what became of a bio that was tried to be taken for a disk
abbrev pub DidBio : {D : Type 0} → World → (Drive D → DriveView) → ℕ → ℕ → MeshPass → MeshPass → DiskJob D → DiskJob D
    → Turn → Type 0
DidBio opened seen disk bio p q a b turns.Worked = ServesBio seen disk bio p q a b
DidBio opened seen disk bio p q a b turns.Idle = Rests p q a b × WasIdle opened q.seen q.number (steps.Take disk bio)
DidBio opened seen disk bio p q a b turns.Finished = ⊥
DidBio opened seen disk bio p q a b turns.LogFull =
    Rests p q a b × FoundFull opened q.seen q.number (steps.Take disk bio)
DidBio opened seen disk bio p q a b turns.NoMemory = Rests p q a b

-- a ticket is passed over: it isn't one to take a bio, or the worker hasn't its disk, or its Take isn't enabled at what
-- the pass has seen
abbrev pub IsPassedOver : {D : Type 0} → World → MeshPass → List (ℕ × Drive D) → TicketStep → Type 0
IsPassedOver opened q items t =
    IfSome (take_in t)
    (λ (x : ℕ × ℕ). LacksDisk items x.0 ⊎ WasIdle opened q.seen q.number (steps.Take x.0 x.1))

-- what a turn did, by its answer
abbrev pub DidDiskTurn : {D : Type 0} → World → (Drive D → DriveView) → MeshPass → MeshPass → DiskJob D → DiskJob D
    → Turn
    → Type 0
DidDiskTurn opened seen p q a b turns.Worked =
    (t : Ticket) × IsSomeAnd (take_in t.step) (λ (x : ℕ × ℕ). ServesBio seen x.0 x.1 p q (with_ticket a t) b)
DidDiskTurn opened seen p q a b turns.Idle =
    (Rests p q a b × WasEmpty a.own)
    ⊎ ((t : Ticket) × Rests p q (with_ticket a t) b × IsPassedOver opened q a.drives.items t.step)
DidDiskTurn opened seen p q a b turns.Finished = ⊥
DidDiskTurn opened seen p q a b turns.LogFull =
    (t : Ticket) × Rests p q (with_ticket a t) b
    × IsSomeAnd (take_in t.step)
    (λ (x : ℕ × ℕ). Contains (disks_of a.drives.items) x.0 × FoundFull opened q.seen q.number (steps.Take x.0 x.1))
DidDiskTurn opened seen p q a b turns.NoMemory = (t : Ticket) × Rests p q (with_ticket a t) b
