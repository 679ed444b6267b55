-- What drives did by entries, with one entry more.
use Rattle.std.specs.Prelude.{◌≡◌, ◌≢◌, ℕ, zero, suc, List, [], ◌∷◌, ◌++◌, Some, None, All, AllPairs, Contains, slice_get, slice_set}
use Rattle.std.specs.List.{AllByRecursion, AllZip}
use Rattle.std.proofs.Common.{refl, sym, ◌∙◌, ap, subst, arith}
use Rattle.std.proofs.lemmas.List.Elements.{All-contains, recursion_from_All}
use Rattle.geo_disk.specs.declared.drive.Drive.{Drive}
use Rattle.geo_model.specs.declared.step.DeviceResult.{DeviceResult}
use Rattle.geo_model.specs.declared.step.Entry.{Entry}
use Rattle.geo_model.specs.declared.step.Request.{Request}
use Rattle.geo_model.specs.declared.step.Step.TheVariants as steps
use Rattle.geo_model.specs.FixedOrder.{delivered_in}
use Rattle.geo_model.specs.Results.{request_of}
use Rattle.geo_laws_graph.proofs.Members.{Contains-map}
use Rattle.geo_serve.specs.Drives.{DriveView}
use Rattle.geo_serve.specs.Serve.{Serves}
use Rattle.geo_serve.specs.Served.{IsServed}
use Rattle.geo_laws_disks.specs.DriveLaws.{AreTaken}
use Rattle.geo_jobs.proofs.Disks.{served_none, served_other, served_own, served_quiet}
use Rattle.geo_jobs.specs.Drives.{disks_of}
use Rattle.geo_jobs.proofs.Places.{place_contained}

-- Numbers that differ

-- the first of several disks is another than those behind it
first_apart : (n : ℕ) (ns : List ℕ) → AllPairs (λ x y. x ≢ y) (n ∷ ns) → All (λ k. n ≢ k) ns
first_apart n ns apart k d lt = apart 0 (suc k) d (omega arith) (omega (arith, lt))

-- and those are apart
rest_apart : (n : ℕ) (ns : List ℕ) → AllPairs (λ x y. x ≢ y) (n ∷ ns) → AllPairs (λ x y. x ≢ y) ns
rest_apart n ns apart i j d below lt = apart (suc i) (suc j) d (omega (arith, below)) (omega (arith, lt))

module _ {D : Type 0} (seen : Drive D → DriveView) where
  -- each drive did what the entries say, and keeps its number
  abbrev pub HaveDone : List Entry → List (ℕ × Drive D) → List (ℕ × Drive D) → Type 0
  HaveDone xs before after =
      AllZip (λ (x y : ℕ × Drive D). (y.0 ≡ x.0) × IsServed xs x.0 (seen x.1) (seen y.1)) before after

  -- the numbers of the disks stay
  pub numbers_stay : (xs : List Entry) (before after : List (ℕ × Drive D)) → HaveDone xs before after
      → disks_of after ≡ disks_of before
  numbers_stay xs [] [] did = refl
  numbers_stay xs [] (y ∷ after) did = absurd did
  numbers_stay xs (x ∷ before) [] did = absurd did
  numbers_stay xs (x ∷ before) (y ∷ after) did =
      ap (λ n. n ∷ disks_of after) did.0.0 ∙ ap (λ ns. x.0 ∷ ns) (numbers_stay xs before after did.1)

  -- no entry
  pub done_none : (items : List (ℕ × Drive D)) → HaveDone [] items items
  done_none [] = tt
  done_none (x ∷ items) = ((refl, served_none x.0 (seen x.1)), done_none items)

  -- an entry that delivers nothing
  pub done_quiet : (xs : List Entry) (e : Entry) (before after : List (ℕ × Drive D)) → AreTaken xs xs
      → delivered_in e.step ≡ None → HaveDone xs before after → HaveDone (xs ++ e ∷ []) before after
  done_quiet xs e [] [] taken quiet did = tt
  done_quiet xs e [] (y ∷ after) taken quiet did = absurd did
  done_quiet xs e (x ∷ before) [] taken quiet did = absurd did
  done_quiet xs e (x ∷ before) (y ∷ after) taken quiet did = (
    (did.0.0, served_quiet xs e x.0 (seen x.1) (seen y.1) taken quiet did.0.1),
    done_quiet xs e before after taken quiet did.1,
  )

  module _ (xs : List Entry) (e : Entry) (b : ℕ) (got : DeviceResult) (q : Request) (taken : AreTaken xs xs)
      (delivers : e.step ≡ steps.Deliver b got) (asked : request_of xs b ≡ Some q) where
    -- a Deliver of what another disk answered
    done_others : (before after : List (ℕ × Drive D)) → AllByRecursion (λ n. q.disk ≢ n) (disks_of after)
        → HaveDone xs before after → HaveDone (xs ++ e ∷ []) before after
    done_others [] [] others did = tt
    done_others [] (y ∷ after) others did = absurd did
    done_others (x ∷ before) [] others did = absurd did
    done_others (x ∷ before) (y ∷ after) others did = (
      (
        did.0.0,
        served_other xs e b got q x.0 (seen x.1) (seen y.1) taken delivers asked
            (λ same. others.0 (same ∙ sym did.0.0)) did.0.1,
      ),
      done_others before after others.1 did.1,
    )

    -- a Deliver of what the disk at a place answered
    pub done_answered : (before mid : List (ℕ × Drive D)) (place : ℕ) (old new : Drive D)
        → slice_get mid place ≡ Some (q.disk, old) → AllPairs (λ x y. x ≢ y) (disks_of mid)
        → Serves q (seen old) (seen new) got → HaveDone xs before mid
        → HaveDone (xs ++ e ∷ []) before (slice_set mid place (q.disk, new))
    done_answered [] [] place old new at apart serves did = tt
    done_answered [] (y ∷ mid) place old new at apart serves did = absurd did
    done_answered (x ∷ before) [] place old new at apart serves did = absurd did
    done_answered (x ∷ before) (y ∷ mid) zero old new at apart serves did =
        let is : Some y ≡ Some (q.disk, old) = at in
        let same : y ≡ (q.disk, old) = cc in
        let number : y.0 ≡ q.disk = ap (λ (z : ℕ × Drive D). z.0) same in
        let its : q.disk ≡ x.0 = sym number ∙ did.0.0 in
        let drive : y.1 ≡ old = ap (λ (z : ℕ × Drive D). z.1) same in
        let so_far : IsServed xs q.disk (seen x.1) (seen old) =
        subst (λ n. IsServed xs n (seen x.1) (seen old)) (sym its)
        (subst (λ (z : Drive D). IsServed xs x.0 (seen x.1) (seen z)) drive did.0.1) in (
          (
            its,
            subst (λ n. IsServed (xs ++ e ∷ []) n (seen x.1) (seen new)) its
                (served_own xs e b got q (seen x.1) (seen old) (seen new) taken delivers asked so_far serves),
          ),
          done_others before mid
              (recursion_from_All (λ n. q.disk ≢ n) (disks_of mid)
              (subst (λ n. All (λ k. n ≢ k) (disks_of mid)) number (first_apart y.0 (disks_of mid) apart))) did.1,
        )
    done_answered (x ∷ before) (y ∷ mid) (suc place) old new at apart serves did =
        let there : Contains (disks_of mid) q.disk =
        Contains-map (λ (z : ℕ × Drive D). z.0) mid (q.disk, old) (place_contained mid place (q.disk, old) at) in
        let other : y.0 ≢ q.disk =
        All-contains (λ k. y.0 ≢ k) (disks_of mid) q.disk (first_apart y.0 (disks_of mid) apart) there in (
          (
            did.0.0,
            served_other xs e b got q x.0 (seen x.1) (seen y.1) taken delivers asked
                (λ same. other (did.0.0 ∙ sym same)) did.0.1,
          ),
          done_answered before mid place old new at (rest_apart y.0 (disks_of mid) apart) serves did.1,
        )
