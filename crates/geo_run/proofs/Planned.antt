-- Disks that were taken for a plan, served its mesh, and were given back.
use Rattle.std.proofs.Common.{◌≡◌, ℕ, suc, ◌+◌, ◌*◌, ◌/◌, ◌<◌, true, false, not, List, [], ◌∷◌, ◌++◌, length, map, Option, Some, None, refl, sym, ◌∙◌, ap, subst, arith, bytes_eq, inl, inr, Contains, IfSome, IsSomeAnd, get_or, zip, rules}
use Rattle.std.specs.List.{AllByRecursion, AllPairs, AllZip, enumerate_from}
use Rattle.geo_base.specs.Images.{Images, IsDiskSize}
use Rattle.geo_disk.specs.Counts.{counted_many}
use Rattle.geo_base.specs.Sectors.{IsSectorSize, sectors_of}
use Rattle.geo_model.specs.declared.command.DiskDecl.{DiskDecl}
use Rattle.geo_model.specs.declared.command.DiskKind.{DiskKind}
use Rattle.geo_model.specs.declared.command.DiskKind.TheVariants as disk_kinds
use Rattle.geo_model.specs.declared.step.Entry.{Entry}
use Rattle.geo_model.specs.Contents.{contents, AreTrue}
use Rattle.geo_model.specs.Plans.{Differ, IsDiskDecl, IsFact}
use Rattle.geo_headline.specs.Outside.{ShelfView, IsShelf, IsThere, HasImage, HasToldSize, CanBeTaken, PlannedDisk, planned_disk, calls_logged, failures_of, image_after, HoldsWhatIsLogged, IsMemory, IsDiskKept, kept_back}
use Rattle.geo_serve.specs.Served.{IsServed}
use Rattle.geo_run.specs.Drives.{DriveView, ServeAll, size_of, drive_kind}
use Rattle.geo_run.specs.Lending.{AreApart, AreOther, IsMade}
use Rattle.geo_run.proofs.Tests.{same_itself}
use Rattle.geo_run.proofs.Told.{OfName, chain}
use Rattle.geo_run.proofs.Taking.{EachHad, IsHad, IsTaken, WentInto}
use Rattle.geo_run.proofs.Giving.{SameKinds}
use Rattle.geo_run.proofs.Fates.{EachFate, Fate, HasSectors, WasGiven, WasKept}
use Rattle.geo_run.proofs.Sizes.{cut_count}

-- Names

others_from : (name : List ℕ) (names : List (List ℕ))
    → ((k : ℕ) (d : List ℕ) → k < length names → Differ name (get_or names k d)) → AreOther name names
others_from name [] h = tt
others_from name (x ∷ names) h = (
  λ e. let told : not (bytes_eq name x) ≡ true = h 0 x (omega arith) in
      let same : bytes_eq name x ≡ true = subst (λ (n : List ℕ). bytes_eq name n ≡ true) (sym e) (same_itself name) in
      let bad : false ≡ true = ap not (sym same) ∙ told in cc,
  others_from name names (λ k d lt. h (suc k) d (omega (arith, lt))),
)

-- names that differ two by two
pub apart_from : (names : List (List ℕ)) → AllPairs Differ names → AreApart names
apart_from [] h = tt
apart_from (x ∷ names) h = (
  others_from x names (λ k d lt. h 0 (suc k) d (omega arith) (omega (arith, lt))),
  apart_from names (λ i j d lt ub. h (suc i) (suc j) d (omega (arith, lt)) (omega (arith, ub))),
)

-- Kinds and sizes

kind_had : (a b : ShelfView) (d : DiskDecl) (x : DriveView) (kind : DiskKind) → IsHad a b d x kind → drive_kind x ≡ kind
kind_had a b d x disk_kinds.Ram h = h.kind
kind_had a b d x disk_kinds.Shelf h = h.kind

pub kinds_had : (a b : ShelfView) (ds : List DiskDecl) (xs : List DriveView) → EachHad a b ds xs → SameKinds ds xs
kinds_had a b [] [] h = tt
kinds_had a b (d ∷ ds) (x ∷ xs) h = (kind_had a b d x d.kind h.0, kinds_had a b ds xs h.1)
kinds_had a b _ _ h = absurd h

pub kinds_served : (log : List Entry) (n : ℕ) (ds : List DiskDecl) (xs ys : List DriveView)
    → SameKinds ds xs → ServeAll log n xs ys → SameKinds ds ys
kinds_served log n [] [] [] k s = tt
kinds_served log n [] (x ∷ xs) ys k s = absurd k
kinds_served log n (d ∷ ds) [] ys k s = absurd k
kinds_served log n (d ∷ ds) (x ∷ xs) (y ∷ ys) k s = search (rules, kinds_served log (n + 1) ds xs ys k.1 s.1)
kinds_served log n _ _ _ k s = absurd s

fact_had : (a b : ShelfView) (d : DiskDecl) (x : DriveView) (kind : DiskKind) → d.kind ≡ kind → IsDiskDecl d
    → IsHad a b d x kind → IsFact d (size_of x)
fact_had a b d x disk_kinds.Ram k decl h = search rules
fact_had a b d x disk_kinds.Shelf k decl h = search rules

-- the sizes of the drives fit the plan
pub facts_had : (a b : ShelfView) (ds : List DiskDecl) (xs : List DriveView) → AllByRecursion IsDiskDecl ds
    → EachHad a b ds xs → AllZip IsFact ds (map size_of xs)
facts_had a b [] [] decls h = tt
facts_had a b (d ∷ ds) (x ∷ xs) decls h = (fact_had a b d x d.kind refl decls.0 h.0, facts_had a b ds xs decls.1 h.1)
facts_had a b _ _ decls h = absurd h

-- What was there

image_told : (d : DiskDecl) (x : DriveView) (a b : Option Images) → OfName a b d.name (WentInto d x)
    → IfSome a (HasImage d)
image_told d x None b h = tt
image_told d x (Some u) None h = absurd h.is
image_told d x (Some u) (Some v) h = search rules

there_had : (a b : ShelfView) (d : DiskDecl) (x : DriveView) (kind : DiskKind) → IsHad a b d x kind
    → IsShelf kind → CanBeTaken a d
there_had a b d x disk_kinds.Ram h s = absurd (let bad : false ≡ true = s in cc)
there_had a b d x disk_kinds.Shelf h s = search rules

pub all_there : (a b : ShelfView) (ds : List DiskDecl) (xs : List DriveView) → EachHad a b ds xs
    → AllByRecursion (IsThere a) ds
all_there a b [] [] h = tt
all_there a b (d ∷ ds) (x ∷ xs) h = (λ s. there_had a b d x d.kind h.0 s, all_there a b ds xs h.1)
all_there a b _ _ h = absurd h

-- the bytes of an image by the size of its drive
pub image_bytes : (d : DiskDecl) (x : DriveView) (bytes : List ℕ) → IsSectorSize d.sector → x.sector ≡ d.sector
    → IfSome x.held (λ sectors. length sectors ≡ x.count) → IsDiskSize d.sector (length bytes)
    → x.held ≡ Some (sectors_of d.sector bytes) → x.count * x.sector ≡ length bytes
image_bytes d x bytes is same counted fits held = search (rules, cut_count (length bytes / d.sector) d.sector bytes)

size_told : (d : DiskDecl) (x : DriveView) (a b : Option Images) → IsSectorSize d.sector → x.sector ≡ d.sector
    → IfSome x.held (λ sectors. length sectors ≡ x.count) → OfName a b d.name (WentInto d x)
    → IfSome a (λ images. IsSomeAnd (images d.name) (λ bytes. x.count * x.sector ≡ length bytes))
size_told d x None b is same counted h = tt
size_told d x (Some u) None is same counted h = absurd h.is
size_told d x (Some u) (Some v) is same counted h = search (rules, image_bytes d x)

size_had : (a b : ShelfView) (d : DiskDecl) (x : DriveView) (kind : DiskKind) → IsSectorSize d.sector
    → IsHad a b d x kind → IsShelf kind
    → IfSome a.told (λ images. IsSomeAnd (images d.name) (λ bytes. x.count * x.sector ≡ length bytes))
size_had a b d x disk_kinds.Ram is h s = absurd (let bad : false ≡ true = s in cc)
size_had a b d x disk_kinds.Shelf is h s = size_told d x a.told b.told is h.size.asked h.counted h.image

pub sizes_told : (a b : ShelfView) (ds : List DiskDecl) (xs : List DriveView) → AllByRecursion IsDiskDecl ds
    → EachHad a b ds xs → AllByRecursion (HasToldSize a) (zip ds (map size_of xs))
sizes_told a b [] [] decls h = tt
sizes_told a b (d ∷ ds) (x ∷ xs) decls h =
    (λ s. size_had a b d x d.kind decls.0.sector h.0 s, sizes_told a b ds xs decls.1 h.1)
sizes_told a b _ _ decls h = absurd h

-- What each disk holds

-- the disk of a declaration in memory fails never, and is read as it was written
memory_kept : (a b : ShelfView) (log : List Entry) (n : ℕ) (d : DiskDecl) (x y : DriveView)
    → IsMade d x → IsServed log n x y → IsMemory log (record { number = n; decl = d })
memory_kept a b log n d x y made served = search rules

-- what a drive holds after the log, by the bytes that its disk had
pub held_after : (log : List Entry) (n : ℕ) (d : DiskDecl) (x y : DriveView) (bytes : List ℕ) → x.sector ≡ d.sector
    → x.held ≡ Some (sectors_of d.sector bytes) → IsServed log n x y
    → y.held ≡ Some (contents d.sector (sectors_of d.sector bytes) log n)
held_after log n d x y bytes same held served = search rules

bytes_after : (log : List Entry) (n : ℕ) (d : DiskDecl) (x y : DriveView) → x.sector ≡ d.sector → IsServed log n x y
    → (u v w : Option (List ℕ)) → WentInto d x u v → HasSectors y v w
    → IsSomeAnd u (λ bytes. w ≡ Some (image_after log (record { number = n; decl = d }) bytes))
bytes_after log n d x y same served None v w p q = p.0
bytes_after log n d x y same served (Some bytes) v w p q = search rules

reads_after : (log : List Entry) (n : ℕ) (d : DiskDecl) (x y : DriveView) → x.sector ≡ d.sector → IsServed log n x y
    → (u v : Option (List ℕ)) → WentInto d x u v
    → IsSomeAnd u (λ bytes. AreTrue d.sector (sectors_of d.sector bytes) log n)
reads_after log n d x y same served None v p = p.0
reads_after log n d x y same served (Some bytes) v p = search rules

-- a disk that was given back holds what the log says
shelf_kept : (a m b : ShelfView) (log : List Entry) (n : ℕ) (d : DiskDecl) (x y : DriveView) (kept : List (List ℕ))
    → IsTaken a m d x → IsServed log n x y → WasGiven m b d.name y kept
    → HoldsWhatIsLogged a b log (record { number = n; decl = d })
shelf_kept a m b log n d x y kept had served given = search rules

-- one that was kept back did what the log says
kept_did : (a m b : ShelfView) (log : List Entry) (n : ℕ) (d : DiskDecl) (x y : DriveView) (kept : List (List ℕ))
    → kept_back a b ≡ kept → IsTaken a m d x → IsServed log n x y → WasKept m b d.name y kept
    → HoldsWhatIsLogged a b log (record { number = n; decl = d })
kept_did a m b log n d x y kept e had served held = record {
  asked = held.known.asked ∙ served.asked ∙ ap (λ calls. calls ++ calls_logged log n) had.asked;
  failures = held.known.faults ∙ served.failures ∙ ap (λ k. counted_many (failures_of log n) k) had.brought;
  bytes = λ given. absurd (given (subst (λ ks. Contains ks d.name) (sym e) held.among));
  reads = (chain a.told m.told b.told d.name
      {H = λ u w. IsSomeAnd u (λ bytes. AreTrue d.sector (sectors_of d.sector bytes) log n)}
      (λ u v w p q. reads_after log n d x y had.size.asked served u v p) had.image held.told).is;
}

disk_kept : (a m b : ShelfView) (log : List Entry) (n : ℕ) (d : DiskDecl) (x y : DriveView) (kept : List (List ℕ))
    (kind : DiskKind) → kept_back a b ≡ kept → IsHad a m d x kind → IsServed log n x y → Fate m b d.name y kept kind
    → IsDiskKept a b log (record { number = n; decl = d }) kind
disk_kept a m b log n d x y kept disk_kinds.Ram e had served fate = memory_kept a b log n d x y had served
disk_kept a m b log n d x y kept disk_kinds.Shelf e had served (inl given) =
    shelf_kept a m b log n d x y kept had served given
disk_kept a m b log n d x y kept disk_kinds.Shelf e had served (inr held) =
    kept_did a m b log n d x y kept e had served held

-- each disk of the plan did what the log says
pub disks_kept : (a m b : ShelfView) (log : List Entry) (n : ℕ) (ds : List DiskDecl) (xs ys : List DriveView)
    (kept : List (List ℕ)) → kept_back a b ≡ kept → EachHad a m ds xs → ServeAll log n xs ys → EachFate m b ds ys kept
    → AllByRecursion (λ (p : PlannedDisk). IsDiskKept a b log p p.decl.kind) (map planned_disk (enumerate_from n ds))
disks_kept a m b log n [] xs ys kept e h s f = tt
disks_kept a m b log n (d ∷ ds) [] ys kept e h s f = absurd h
disks_kept a m b log n (d ∷ ds) (x ∷ xs) [] kept e h s f = absurd s
disks_kept a m b log n (d ∷ ds) (x ∷ xs) (y ∷ ys) kept e h s f = (
  disk_kept a m b log n d x y kept d.kind e h.0 s.0 f.0,
  disks_kept a m b log (n + 1) ds xs ys kept e h.1 s.1 f.1,
)
