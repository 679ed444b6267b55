-- A Take that was made asks for what the drive of its disk can serve.
use Rattle.std.specs.Prelude.{◌≡◌, ℕ, zero, suc, ◌<◌, ◌*◌, ◌≤◌, List, [], ◌∷◌, ◌++◌, length, map, zip, Option, Some, None, Ok, IsSomeAnd, IsTrue, slice_get, slice_set}
use Rattle.std.specs.Option.{option_map_or}
use Rattle.std.proofs.Common.{get_or, refl, sym, ◌∙◌, ap, subst, arith}
use Rattle.std.proofs.lemmas.List.{length-map, map-set, same_from_push}
use Rattle.std.proofs.lemmas.Option.{slice_get_within}
use Rattle.geo_model.specs.declared.step.DeviceResult.{DeviceResult}
use Rattle.geo_model.specs.declared.step.Entry.{Entry}
use Rattle.geo_model.specs.declared.step.Outcome.{Outcome}
use Rattle.geo_model.specs.declared.step.Outcome.TheVariants as outcomes
use Rattle.geo_model.specs.declared.step.Request.{Request}
use Rattle.geo_model.specs.declared.step.Step.TheVariants as steps
use Rattle.geo_model.specs.World.{Bio, HeaderDisk, bio_at}
use Rattle.geo_model.specs.Opening.{disk_in_size}
use Rattle.geo_model.specs.Log.{Legal}
use Rattle.geo_model.specs.Step.{is_enabled, step}
use Rattle.geo_laws_disks.proofs.Legal.{firm_after}
use Rattle.geo_laws_disks.specs.DiskLaws.{AsksInside, LiesInside}
use Rattle.geo_laws_disks.proofs.Inside.{disks_are_asked}
use Rattle.geo_serve.specs.Drives.{DriveView}
use Rattle.geo_serve.specs.Serve.{CanServe, HasRoom, Serves, fits_request}
use Rattle.geo_laws_disks.specs.DriveLaws.{IsReadOf, IsServable}
use Rattle.geo_laws_disks.proofs.Takes.{takes_are_servable}
use Rattle.geo_core.specs.Mesh.{IsHistory, Made, MeshView, bytes_read, bytes_read_by, entry_of, opened, world_of}
use Rattle.geo_drain.specs.Drain.{DrivesFit}
use Rattle.geo_drain.specs.Turns.{AnswersRequest, EndsWithRequest}
use Rattle.geo_laws_disks.proofs.Drives.{DriveAt, drive_at, opening_disks}

-- the request of a Take, which the drive of its disk can serve, in room of as many bytes as the bio reads, and whose
-- answers can be delivered
pub record TakesRequest (old taken : MeshView) (drives : List DriveView) (bio : ℕ) (o : Outcome) (q : Request) : Type 0
  where
    pub asked : o ≡ outcomes.Asked q
    pub drive : DriveView
    pub is_its : slice_get drives q.disk ≡ Some drive
    pub can : CanServe drive q
    pub room : (block : List ℕ) → length block ≡ bytes_read_by (world_of old) bio → HasRoom drive q block
    pub fits : (got : DeviceResult) → IsTrue (fits_request drive.sector q got)
        → IsTrue (is_enabled (world_of taken) 0 (steps.Deliver bio got))

-- a READ of so many bytes fits the room of its bio
read_fits : (o : Option Bio) (n : ℕ) → IsSomeAnd o (IsReadOf n)
    → n ≤ option_map_or (λ (x : Bio). bytes_read x.cmd x.len) o 0
read_fits None n is = absurd is
read_fits (Some x) n is = rw is.0 (let same : x.len ≡ n = is.1 in omega (arith, same))

-- each Take is of such a request
pub takes_request : (old taken : MeshView) (drives : List DriveView) (disk bio : ℕ) (o : Outcome) → IsHistory old
    → IsHistory taken → DrivesFit old drives → Made old taken 0 (steps.Take disk bio) o
    → (q : Request) × TakesRequest old taken drives bio o q
takes_request old taken drives disk bio o history after fit made =
    by (slice_get (opened old).disks disk) refl asks.inside
  where
    e : Entry
    e = entry_of 0 (steps.Take disk bio) o

    legal : Legal (opened old) (old.log ++ e ∷ [])
    legal = subst (λ (m : MeshView). Legal (opened m) m.log) made.logged after.lawful.0

    asks : AsksInside (opened old) disk o
    asks =
        disks_are_asked.inside old.plan old.facts history.plan.begins history.facts (old.log ++ e ∷ []) legal old.log e
        ([], refl) disk bio refl

    of_header : (header : HeaderDisk) → slice_get (opened old).disks disk ≡ Some header → LiesInside asks.request header
        → (q : Request) × TakesRequest old taken drives bio o q
    of_header header here lies =
        let at : DriveAt drives disk header =
        drive_at old.plan.disks drives disk header
        (subst (λ facts. slice_get (map disk_in_size (zip old.plan.disks facts)) disk ≡ Some header) (sym fit)
        (subst (λ ds. slice_get ds disk ≡ Some header) (opening_disks old.plan old.facts) here)) in
        let now : slice_get (world_of old).disks disk ≡ Some header =
        subst (λ ds. slice_get ds disk ≡ Some header)
        (sym (disks_are_asked.disks old.plan old.facts history.plan.begins history.facts old.log history.lawful.0))
        here in
        let servable : IsServable (world_of old) (world_of taken) 0 bio asks.request header =
        takes_are_servable (world_of old) (world_of taken) 0 disk bio asks.request header
        (firm_after old.plan old.facts history.plan.begins history.facts old.log)
        (subst (λ (x : Outcome). step (world_of old) 0 (steps.Take disk bio) ≡ Ok (world_of taken, x)) asks.is
        made.does)
        now lies in (
          asks.request,
          record {
            asked = asks.is;
            drive = at.drive;
            is_its = ap (λ n. slice_get drives n) asks.disk_is ∙ at.is;
            can = servable.can at.drive at.sizes;
            room = λ block long reads.
                subst (λ z. asks.request.count * z ≤ length block) (sym at.sizes.sector)
                (subst (λ n. asks.request.count * header.sector ≤ n) (sym long)
                (read_fits (bio_at (world_of old) bio) (asks.request.count * header.sector) (servable.reads reads)));
            fits = λ got fit_got.
                servable.fits got (subst (λ z. IsTrue (fits_request z asks.request got)) at.sizes.sector fit_got);
          },
        )

    by : (o2 : Option HeaderDisk) → slice_get (opened old).disks disk ≡ o2 → IsSomeAnd o2 (LiesInside asks.request)
        → (q : Request) × TakesRequest old taken drives bio o q
    by None here lies = absurd lies
    by (Some header) here lies = of_header header here lies

-- the last entry asked for one request
pub same_request : (log : List Entry) (q r : Request) → EndsWithRequest log q → EndsWithRequest log r → q ≡ r
same_request log q r first second =
    let both : (first.front ≡ second.front) × (first.last ≡ second.last) =
    same_from_push first.front second.front first.last second.last (sym first.is ∙ second.is) in
    let asked : outcomes.Asked q ≡ outcomes.Asked r =
    sym first.asked ∙ ap (λ (e : Entry). e.outcome) both.1 ∙ second.asked in
    cc

-- after a Take the last entry asked for its request
pub ends_with : (old taken : MeshView) (disk bio : ℕ) (o : Outcome) (q : Request)
    → Made old taken 0 (steps.Take disk bio) o → o ≡ outcomes.Asked q → EndsWithRequest taken.log q
ends_with old taken disk bio o q made asked = record {
  front = old.log;
  last = entry_of 0 (steps.Take disk bio) o;
  is = ap (λ (m : MeshView). m.log) made.logged;
  asked = asked;
}

-- so the request of the last entry is the one that can be served
module _ {old taken : MeshView} (drives : List DriveView) {disk bio : ℕ} {o : Outcome} {q : Request}
    (history : IsHistory old) (after : IsHistory taken) (fit : DrivesFit old drives)
    (made : Made old taken 0 (steps.Take disk bio) o) (ends : EndsWithRequest taken.log q) where
  pub takes_last : TakesRequest old taken drives bio o q
  takes_last =
      let some : (r : Request) × TakesRequest old taken drives bio o r =
      takes_request old taken drives disk bio o history after fit made in
      subst (λ (r : Request). TakesRequest old taken drives bio o r)
      (same_request taken.log some.0 q (ends_with old taken disk bio o some.0 made some.1.asked) ends) some.1

-- Drives as they are seen

module _ {X Y : Type 0} (f : X → Y) where
  -- one of them
  seen_at : (xs : List X) (i : ℕ) (d : X) → i < length xs → slice_get (map f xs) i ≡ Some (f (get_or xs i d))
  seen_at [] i d below = absurd (omega arith)
  seen_at (x ∷ xs) zero d below = refl
  seen_at (x ∷ xs) (suc i) d below = seen_at xs i d (omega arith)

  -- and what holds of it
  holds_at : (P : Y → Type 0) (xs : List X) (i : ℕ) (d : X) → i < length xs → IsSomeAnd (slice_get (map f xs) i) P
      → P (f (get_or xs i d))
  holds_at P xs i d below holds = subst (λ o. IsSomeAnd o P) (seen_at xs i d below) holds

  -- where one is seen it is there
  seen_within : (xs : List X) (i : ℕ) (y : Y) → slice_get (map f xs) i ≡ Some y → i < length xs
  seen_within xs i y at = subst (λ n. i < n) (length-map xs f) (slice_get_within (map f xs) i y at)

-- the drive of the request's disk, where it is kept
module _ {X : Type 0} (f : X → DriveView) {old taken : MeshView} (disks : List X) {bio : ℕ} {o : Outcome} {q : Request}
    (it : TakesRequest old taken (map f disks) bio o q) where
  pub is_within : q.disk < length disks
  is_within = seen_within f disks q.disk it.drive it.is_its

  module _ (d : X) where
    abbrev its : X
    its = get_or disks q.disk d

    -- is the one that the request fits
    is_drive : it.drive ≡ f its
    is_drive =
        let both : Some it.drive ≡ Some (f its) = sym it.is_its ∙ seen_at f disks q.disk d is_within in
        cc

    -- it can serve it
    pub can_at : CanServe (f its) q
    can_at = subst (λ (v : DriveView). CanServe v q) is_drive it.can

    -- in room of as many bytes as the bio reads
    pub room_at : (block : List ℕ) → length block ≡ bytes_read_by (world_of old) bio → HasRoom (f its) q block
    room_at block long = subst (λ (v : DriveView). HasRoom v q block) is_drive (it.room block long)

    -- and where it served it its answer can be delivered
    module _ (after : X) (got : DeviceResult) (serves : Serves q (f its) (f after) got) where
      pub is_answered : AnswersRequest q (map f disks) (map f (slice_set disks q.disk after)) got
      is_answered = record {
        old = f its;
        is_its = seen_at f disks q.disk d is_within;
        new = f after;
        serves = serves;
        drives = map-set f disks q.disk after;
      }

      pub is_enabled_after : IsTrue (is_enabled (world_of taken) 0 (steps.Deliver bio got))
      is_enabled_after =
          it.fits got (subst (λ (v : DriveView). IsTrue (fits_request v.sector q got)) (sym is_drive) serves.fits)
