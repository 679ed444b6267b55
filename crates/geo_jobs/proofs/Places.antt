-- Items at places of lists.
use Rattle.std.specs.Prelude.{◌≡◌, ◌≢◌, ℕ, eqb, Bool, true, false, List, [], ◌∷◌, Some, All, Contains, slice_get}
use Rattle.std.proofs.Common.{◌∙◌, ap, get_or, refl, subst, sym}
use Rattle.std.proofs.lemmas.Bool.{eq-eqb, eqb-true}
use Rattle.std.proofs.lemmas.List.Elements.{All-cons, All-get_or, All-nil}
use Rattle.std.proofs.lemmas.Option.{get_or_from_slice_get, slice_get_within}
use Rattle.geo_disk.specs.declared.drive.Drive.{Drive}
use Rattle.geo_laws_graph.proofs.Members.{Contains-here, Contains-there}
use Rattle.geo_model.specs.declared.step.Request.{Request}
use Rattle.geo_serve.specs.Drives.{DriveView}
use Rattle.geo_serve.specs.Serve.{CanServe, HasRoom}
use Rattle.geo_jobs.specs.Drives.{CanAnswer, LacksDisk, disks_of}

module _ {X : Type 0} (xs : List X) (i : ℕ) (x : X) (at : slice_get xs i ≡ Some x) where
  -- what holds of each item of a list holds of the one at a place
  pub at_place : (P : X → Type 0) → All P xs → P x
  at_place P all = subst P (get_or_from_slice_get xs i x x at) (All-get_or P xs i x (slice_get_within xs i x at) all)

  -- the item at a place is contained
  pub place_contained : Contains xs x
  place_contained = (i, slice_get_within xs i x at, get_or_from_slice_get xs i x x at)

-- a disk that isn't foreign is one of the worker's
pub own_disk : {D : Type 0} (items : List (ℕ × Drive D)) (disk : ℕ) → (LacksDisk items disk → ⊥)
    → Contains (disks_of items) disk
own_disk {D} [] disk has = absurd (has (All-nil (λ (x : ℕ × Drive D). x.0 ≢ disk)))
own_disk {D} (x ∷ items) disk has = by (eqb x.0 disk) refl (own_disk items disk)
  where
    by : (b : Bool) → eqb x.0 disk ≡ b → ((LacksDisk items disk → ⊥) → Contains (disks_of items) disk)
        → Contains (disks_of (x ∷ items)) disk
    by true is among =
        subst (λ n. Contains (disks_of (x ∷ items)) n) (eqb-true x.0 disk is) (Contains-here x.0 (disks_of items))
    by false is among =
        Contains-there x.0 disk (disks_of items)
        (among
        (λ foreign. has (All-cons (λ (y : ℕ × Drive D). y.0 ≢ disk) x items
        (λ same. let yes : eqb x.0 disk ≡ true = eq-eqb x.0 disk same in let bad : ⊥ = cc in bad) foreign)))

-- The drive of a request

-- the item at a place is the drive of the disk
pub record IsDriveAt {X : Type 0} (items : List (ℕ × X)) (place disk : ℕ) (item : ℕ × X) : Type 0 where
  pub drive : X
  pub there : slice_get items place ≡ Some (disk, drive)
  pub is : item ≡ (disk, drive)

-- so it is with the one that was found there
module _ {X : Type 0} (items : List (ℕ × X)) (place disk : ℕ) {seen : List (ℕ × X)} {item : ℕ × X} (same : seen ≡ items)
    (found : (x : X) × (slice_get seen place ≡ Some (disk, x))) (is : item ≡ get_or items place item) where
  pub drive_at : IsDriveAt items place disk item
  drive_at =
      let there : slice_get items place ≡ Some (disk, found.0) =
      ap (λ l. slice_get l place) (sym same) ∙ found.1 in
      record {
        drive = found.0;
        there = there;
        is = is ∙ get_or_from_slice_get items place (disk, found.0) item there;
      }

-- what can be answered by one of the drives can be by that of the disk
module _ {D : Type 0} (seen : Drive D → DriveView) {items old : List (ℕ × Drive D)} (q : Request) (room : List ℕ)
    {place : ℕ} {item : ℕ × Drive D} (at : IsDriveAt items place q.disk item) (view : items ≡ old)
    (can : CanAnswer seen old q room) where
  pub drive_serves : CanServe (seen item.1) q × HasRoom (seen item.1) q room
  drive_serves =
      subst (λ (x : ℕ × Drive D). CanServe (seen x.1) q × HasRoom (seen x.1) q room) (sym at.is)
      (at_place items place (q.disk, at.drive) at.there
      (λ (x : ℕ × Drive D). x.0 ≡ q.disk → CanServe (seen x.1) q × HasRoom (seen x.1) q room)
      (subst (λ l. CanAnswer seen l q room) (sym view) can) refl)
