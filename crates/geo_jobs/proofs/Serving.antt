-- What the drives of a worker can be asked, and what their answers allow.
use Rattle.std.specs.Prelude.{◌≡◌, ℕ, ◌-◌, ◌*◌, ◌^◌, ◌<◌, ◌≤◌, List, [], ◌∷◌, length}
use Rattle.std.proofs.Common.{refl, sym, ◌∙◌, subst, arith}
use Rattle.std.proofs.lemmas.List.Elements.{All-weaker}
use Rattle.geo_base.specs.declared.limits.TheConstants.{MAX_REQUEST_BYTES}
use Rattle.geo_disk.specs.declared.drive.Drive.{Drive}
use Rattle.geo_model.specs.declared.step.DeviceResult.{DeviceResult}
use Rattle.geo_model.specs.declared.step.Outcome.TheVariants as outcomes
use Rattle.geo_model.specs.declared.step.Request.{Request}
use Rattle.geo_model.specs.declared.step.Step.TheVariants as steps
use Rattle.geo_model.specs.FixedOrder.{FoundFull, WasIdle}
use Rattle.geo_serve.specs.Drives.{DriveView}
use Rattle.geo_serve.specs.Serve.{CanServe, HasRoom}
use Rattle.geo_lane.specs.declared.ticket.TicketStep.TheVariants as hints
use Rattle.geo_lane.specs.LanePass.{LanePassView}
use Rattle.geo_lock.specs.Yard.{IsPassOf, YardView}
use Rattle.geo_jobs.specs.declared.turn.Turn.TheVariants as turns
use Rattle.geo_jobs.specs.Passes.{Goes, IsGoodPass, MeshPass, opened_by}
use Rattle.geo_jobs.specs.Putting.{IsWithin, PutsOne}
use Rattle.geo_jobs.specs.Taking.{CanDeliver, HasSizesOf, IsAskedOf}
use Rattle.geo_jobs.specs.Making.{MakesStep}
use Rattle.geo_jobs.proofs.Budgets.{has_room}
use Rattle.geo_jobs.proofs.Delivering.{can_deliver, goes_two}
use Rattle.geo_jobs.proofs.Joins.{still_of}
use Rattle.geo_jobs.specs.declared.disk_job.DiskJob.{DiskJob}
use Rattle.geo_jobs.specs.Drives.{AnswersOne, CanAnswer, HasDrives, LacksDisk, take_and_deliver}
use Rattle.geo_jobs.specs.Turns.{DidBio, ServesBio}
use Rattle.geo_jobs.proofs.Places.{at_place}

module _ {D : Type 0} (y : YardView _) (seen : Drive D → DriveView) (p q : MeshPass) (of : IsPassOf y p)
    (disk bio : ℕ) where
  -- a bio that couldn't be taken
  pub rests_idle : (a : DiskJob D) → Goes p q []
      → WasIdle (opened_by y.start) q.seen p.number (steps.Take disk bio)
      → DidBio (opened_by y.start) seen disk bio p q a a turns.Idle
  rests_idle a goes idle = (
    record { goes = goes; same = refl },
    subst (λ n. WasIdle (opened_by y.start) q.seen n (steps.Take disk bio)) (sym goes.same.number) idle,
  )

  -- one whose Take had no place
  pub rests_full : (a : DiskJob D) → Goes p q []
      → FoundFull (opened_by y.start) q.seen p.number (steps.Take disk bio)
      → DidBio (opened_by y.start) seen disk bio p q a a turns.LogFull
  rests_full a goes full = (
    record { goes = goes; same = refl },
    subst (λ n. FoundFull (opened_by y.start) q.seen n (steps.Take disk bio)) (sym goes.same.number) full,
  )

  module _ (request : Request) (asked : IsAskedOf y.start disk request) where
    -- the worker has the disk that is asked
    pub has_disk : (items : List (ℕ × Drive D)) → (LacksDisk items disk → ⊥) → LacksDisk items request.disk → ⊥
    has_disk items has = subst (λ n. LacksDisk items n → ⊥) (sym asked.disk_is) has

    -- the drive of a disk can serve what a Take asks of it, in room for the longest request
    pub can_answer : (items : List (ℕ × Drive D)) (room : List ℕ) → HasDrives y.start.facts seen items
        → MAX_REQUEST_BYTES ≤ length room → CanAnswer seen items request room
    can_answer items room has long =
        All-weaker (λ (x : ℕ × Drive D). HasSizesOf y.start x.0 (seen x.1))
        (λ (x : ℕ × Drive D). x.0 ≡ request.disk → CanServe (seen x.1) request × HasRoom (seen x.1) request room)
        (λ x sizes own. both x (subst (λ n. HasSizesOf y.start n (seen x.1)) (own ∙ asked.disk_is) sizes)) items
        has.sizes
      where
        both : (x : ℕ × Drive D) → HasSizesOf y.start disk (seen x.1)
            → CanServe (seen x.1) request × HasRoom (seen x.1) request room
        both x sizes =
            let can : CanServe (seen x.1) request = asked.can (seen x.1) sizes in
            let short : request.count * (seen x.1).sector ≤ MAX_REQUEST_BYTES = can.not_long in
            (can, (λ reads. omega (arith, short, long)))

    module _ (m : MeshPass) (took : MakesStep y.start p m (steps.Take disk bio) (outcomes.Asked request))
        (got : DeviceResult) where
      -- after the Take what it answered can be delivered
      pub can_deliver_answer : (items after : List (ℕ × Drive D)) → HasDrives y.start.facts seen items
          → AnswersOne seen request items after got → CanDeliver y.start m bio got
      can_deliver_answer items after has answers =
          can_deliver y.start p m disk bio request got (seen answers.old) took
          (subst (λ n. HasSizesOf y.start n (seen answers.old)) asked.disk_is
          (at_place items answers.place (request.disk, answers.old) answers.at
          (λ (x : ℕ × Drive D). HasSizesOf y.start x.0 (seen x.1)) has.sizes))
          answers.serves.fits

      module _ (delivered : MakesStep y.start m q (steps.Deliver bio got) outcomes.Delivered) where
        -- then there is room for the ticket to give the bio up
        pub room_to_put : (lane : LanePassView) → IsGoodPass q → IsWithin lane p.own → length lane.put < 2 ^ 64 - 1
        room_to_put lane good within =
            let goes : Goes p q (take_and_deliver p.number disk bio request got) =
            goes_two y.start p m q disk bio request got took delivered in
            has_room y p q
            (record { seat = p.number; step = steps.Take disk bio; outcome = outcomes.Asked request })
            (record { seat = p.number; step = steps.Deliver bio got; outcome = outcomes.Delivered } ∷ []) lane lane []
            (still_of y p q (take_and_deliver p.number disk bio request got) of goes) good goes within refl
            (omega arith)

        -- and the bio was served
        pub serves_bio : (a b : DiskJob D) → AnswersOne seen request a.drives.items b.drives.items got
            → PutsOne a.up (hints.Up bio) b.up → b ≡ record a { drives = b.drives; up = b.up }
            → ServesBio seen disk bio p q a b
        serves_bio a b answers puts same = record {
          added = take_and_deliver p.number disk bio request got;
          goes = goes_two y.start p m q disk bio request got took delivered;
          serves = record { request = request; disk_is = asked.disk_is; got = got; answers = answers; adds = refl };
          puts = puts;
          same = same;
        }
