-- Drives that were taken are out.
use Rattle.std.proofs.Common.{◌≡◌, ℕ, List, [], ◌∷◌, ◌++◌, sym, ◌∙◌, ap, subst, Contains, rules}
use Rattle.std.proofs.lemmas.List.{map-append}
use Rattle.std.proofs.lemmas.List.Elements.{Contains-append_right}
use Rattle.geo_model.specs.declared.command.DiskDecl.{DiskDecl}
use Rattle.geo_model.specs.declared.command.DiskKind.{DiskKind}
use Rattle.geo_model.specs.declared.command.DiskKind.TheVariants as disk_kinds
use Rattle.geo_headline.specs.Outside.{ShelfView}
use Rattle.geo_run.specs.Drives.{DriveView, drive_kind}
use Rattle.geo_run.specs.declared.stop.Stop.{Stop}
use Rattle.geo_run.specs.Lending.{AreApart, AreOther, AreOut, IsOut, OpensDrives, OpensNoDrive, SameCounts, StopsOpening, names_of}
use Rattle.geo_run.proofs.Tests.{contains_more}
use Rattle.geo_run.proofs.Taking.{EachHad, IsHad, each_had, shelf_names, takes_count, takes_lend, with_shelf}

-- the names that stand first differ too
pub apart_front : (xs ys : List (List ℕ)) → AreApart (xs ++ ys) → AreApart xs
apart_front [] ys h = tt
apart_front (x ∷ xs) ys h = (front x xs h.0, apart_front xs ys h.1)
  where
    front : (n : List ℕ) (zs : List (List ℕ)) → AreOther n (zs ++ ys) → AreOther n zs
    front n [] o = tt
    front n (z ∷ zs) o = (o.0, front n zs o.1)

-- the drives that were taken are out
pub all_out : (a b : ShelfView) (ds : List DiskDecl) (xs : List DriveView) → SameCounts a b → AreApart (names_of ds)
    → ((name : List ℕ) → Contains (shelf_names ds) name → Contains b.lent name) → EachHad a b ds xs
    → AreOut b (names_of ds) xs
all_out a b [] [] counts apart lent h = tt
all_out a b (d ∷ ds) (x ∷ xs) counts apart lent h = (
    search (rules, all_out a b ds xs counts apart.1 (λ name c. lent name (more d.kind name c)) h.1)
    )
  where
    more : (kind : DiskKind) (name : List ℕ) → Contains (shelf_names ds) name
        → Contains (with_shelf kind d.name (shelf_names ds)) name
    more disk_kinds.Ram name c = c
    more disk_kinds.Shelf name c = contains_more d.name name (shelf_names ds) c

    one : (kind : DiskKind)
        → ((name : List ℕ) → Contains (with_shelf kind d.name (shelf_names ds)) name → Contains b.lent name)
        → IsHad a b d x kind → drive_kind x ≡ disk_kinds.Shelf → IsOut b d.name x
    one disk_kinds.Ram l had s = absurd (let bad : disk_kinds.Ram ≡ disk_kinds.Shelf = sym had.kind ∙ s in cc)
    one disk_kinds.Shelf l had s = search rules
all_out a b _ _ counts apart lent h = absurd h

-- by what was done
pub taken_out : (ds : List DiskDecl) (names : List (List ℕ)) (xs : List DriveView) (a m : ShelfView)
    → AreApart (names_of ds) → names ≡ names_of ds → OpensDrives a ds xs m → AreOut m names xs
taken_out ds names xs a m apart named opens =
    subst (λ (ns : List (List ℕ)). AreOut m ns xs) (sym named)
    (all_out a m ds xs (takes_count a m ds xs opens) apart
    (λ name c. subst (λ (ns : List (List ℕ)). Contains ns name) (sym (takes_lend a m ds xs opens))
    (Contains-append_right a.lent (shelf_names ds) name c))
    (each_had a m ds xs apart opens))

-- they stay out where what is lent and what is counted of disks stays
stays_out : (m n : ShelfView) (names : List (List ℕ)) (xs : List DriveView) → n.lent ≡ m.lent
    → ((name : List ℕ) → n.faults_of name ≡ m.faults_of name) → AreOut m names xs → AreOut n names xs
stays_out m n [] [] lent disks out = tt
stays_out m n (name ∷ names) (x ∷ xs) lent disks out = search (rules, stays_out m n names xs lent disks out.2)
stays_out m n _ _ lent disks out = absurd out

-- where a take stopped, those that were taken before are out
pub stopped_out : (a b : ShelfView) (ds : List DiskDecl) (names : List (List ℕ)) (xs : List DriveView) (stop : Stop)
    → AreApart (names_of ds) → StopsOpening a ds names xs stop b → AreOut b names xs
stopped_out a b ds names xs stop apart s = by s.disk.kind s.stopped
  where
    fronts : AreApart (names_of s.front)
    fronts = apart_front (names_of s.front) (names_of (s.disk ∷ s.back))
        (subst AreApart (ap names_of s.all ∙ map-append (λ (d : DiskDecl). d.name) s.front (s.disk ∷ s.back)) apart)

    before : AreOut s.between names xs
    before = taken_out s.front names xs a s.between fronts s.named s.earlier

    by : (kind : DiskKind) → OpensNoDrive s.between s.disk stop b kind → AreOut b names xs
    by disk_kinds.Ram h = subst (λ (v : ShelfView). AreOut v names xs) (sym h.1) before
    by disk_kinds.Shelf h = stays_out s.between b names xs h.lent h.disks before
