-- What a shelf keeps over a course: disks are taken, perhaps they serve a mesh, and they are given back.
use Rattle.std.proofs.Common.{◌≡◌, ◌≢◌, ◌⊎◌, ℕ, ◌+◌, ◌*◌, true, false, List, [], ◌∷◌, ◌++◌, length, All, Option, Some, None, refl, sym, ◌∙◌, ap, subst, inl, inr, Contains, IfSome, IsSomeAnd, map, zip, rules}
use Rattle.std.specs.List.{AllByRecursion}
use Rattle.std.proofs.lemmas.List.Elements.{All-from_recursion}
use Rattle.geo_base.specs.Faults.{Rose}
use Rattle.geo_base.specs.Sectors.{IsSectorSize, sectors_of}
use Rattle.geo_model.specs.declared.command.DiskDecl.{DiskDecl}
use Rattle.geo_model.specs.declared.command.DiskKind.{DiskKind}
use Rattle.geo_model.specs.declared.command.DiskKind.TheVariants as disk_kinds
use Rattle.geo_model.specs.declared.step.Entry.{Entry}
use Rattle.geo_model.specs.Plans.{IsDiskDecl}
use Rattle.geo_headline.specs.Outside.{ShelfView, IsUnasked, HasFactSectors, IsShelf, kept_back, ImagesStay, ImagesStand, KeepsLength}
use Rattle.geo_serve.specs.Served.{IsServed}
use Rattle.geo_headline.specs.Headline.{NoneAsked}
use Rattle.geo_run.specs.Drives.{size_of, DriveView, ServeAll}
use Rattle.geo_run.specs.Lending.{AreApart, AreOther, names_of}
use Rattle.geo_run.proofs.Tests.{other-contains, other-from, same_or_other}
use Rattle.geo_run.proofs.Told.{OfName, IsSame, chain, weaker}
use Rattle.geo_run.proofs.Taking.{EachHad, IsForeign, IsHad, WentInto, shelf_names}
use Rattle.geo_run.proofs.Giving.{GivesAll, gives_stay, kept_other}
use Rattle.geo_run.proofs.Fates.{EachFate, Fate, HasSectors, NoneAmong, each_fate, gives_lend, kept_back_is, kept_none, kept_rose}
use Rattle.geo_run.proofs.Sizes.{all_bytes, image_whole, joined_image}
use Rattle.geo_run.proofs.Planned.{held_after, image_bytes}

-- disks were taken of the shelf as it was before, and given back to the shelf as it then was
pub record Course (before between after : ShelfView) (ds : List DiskDecl) (xs ys : List DriveView)
    (kept : List (List ℕ)) : Type 0 where
  pub decls : AllByRecursion IsDiskDecl ds
  pub apart : AreApart (names_of ds)
  pub had : EachHad before between ds xs
  pub lent : between.lent ≡ before.lent ++ shelf_names ds
  pub disks : (name : List ℕ) → between.faults_of name ≡ before.faults_of name
  pub gives : (name : List ℕ) → between.give_faults name ≡ before.give_faults name
  pub asked : (name : List ℕ) → between.asked_of name ≡ before.asked_of name
  pub sectors : (name : List ℕ) → between.sectors_of name ≡ before.sectors_of name
  pub foreign : (name : List ℕ) → IsForeign name ds → OfName before.told between.told name IsSame
  pub given : GivesAll between ds ys kept after

-- no name that was lent before is one of the disks that were taken
none_lent : (before between : ShelfView) (ds : List DiskDecl) (xs : List DriveView) → EachHad before between ds xs
    → NoneAmong before.lent ds
none_lent before between [] [] h = tt
none_lent before between (d ∷ ds) (x ∷ xs) h =
    search (rules, none_lent before between ds xs h.1, other-from d.name before.lent)
none_lent before between _ _ h = absurd h

pub course_fate : (a m b : ShelfView) (ds : List DiskDecl) (xs ys : List DriveView) (kept : List (List ℕ))
    → Course a m b ds xs ys kept → EachFate m b ds ys kept
course_fate a m b ds xs ys kept c = each_fate m b ds ys kept c.apart c.given

-- what is lent after the course
pub course_lent : (a m b : ShelfView) (ds : List DiskDecl) (xs ys : List DriveView) (kept : List (List ℕ))
    → Course a m b ds xs ys kept → b.lent ≡ a.lent ++ kept
course_lent a m b ds xs ys kept c = gives_lend a.lent m b ds ys kept c.lent (none_lent a m ds xs c.had) c.apart c.given

-- what is kept back
pub course_back : (a m b : ShelfView) (ds : List DiskDecl) (xs ys : List DriveView) (kept : List (List ℕ))
    → Course a m b ds xs ys kept → kept_back a b ≡ kept
course_back a m b ds xs ys kept c =
    kept_back_is a b kept (course_lent a m b ds xs ys kept c)
    (kept_none a.lent m b ds ys kept (none_lent a m ds xs c.had) c.given)

-- a give of each name kept back failed
pub course_rose : (a m b : ShelfView) (ds : List DiskDecl) (xs ys : List DriveView) (kept : List (List ℕ))
    → Course a m b ds xs ys kept → All (λ name. Rose (a.give_faults name) (b.give_faults name)) (kept_back a b)
course_rose a m b ds xs ys kept c =
    All-from_recursion (λ name. Rose (a.give_faults name) (b.give_faults name)) (kept_back a b)
    (search (rules, course_back a m b ds xs ys kept c, from kept (kept_rose m b ds ys kept c.apart c.given)))
  where
    from : (names : List (List ℕ)) → AllByRecursion (λ name. Rose (m.give_faults name) (b.give_faults name)) names
        → AllByRecursion (λ name. Rose (a.give_faults name) (b.give_faults name)) names
    from [] all = tt
    from (n ∷ names) all = (subst (λ (k : ℕ). Rose k (b.give_faults n)) (c.gives n) all.0, from names all.1)

-- a foreign name isn't kept
pub course_foreign : (a m b : ShelfView) (ds : List DiskDecl) (xs ys : List DriveView) (kept : List (List ℕ))
    → Course a m b ds xs ys kept → (name : List ℕ) → IsForeign name ds → Contains (kept_back a b) name → ⊥
course_foreign a m b ds xs ys kept c name foreign back =
    other-contains name kept (kept_other m b ds ys kept name c.given foreign)
    (subst (λ ks. Contains ks name) (course_back a m b ds xs ys kept c) back)

-- and has what it had
pub course_told : (a m b : ShelfView) (ds : List DiskDecl) (xs ys : List DriveView) (kept : List (List ℕ))
    → Course a m b ds xs ys kept → (name : List ℕ) → IsForeign name ds → OfName a.told b.told name IsSame
course_told a m b ds xs ys kept c name foreign =
    chain a.told m.told b.told name (λ u v w p q. q ∙ p) (c.foreign name foreign)
    (gives_stay m b ds ys kept name c.given foreign).told

-- Images

-- a fact on the name of each disk of the shelf holds of a name, unless it is foreign
lookup : (P : List ℕ → Type 0) (ds : List DiskDecl) → AllByRecursion (λ (d : DiskDecl). IsShelf d.kind → P d.name) ds
    → (name : List ℕ) → IsForeign name ds ⊎ P name
lookup P [] all name = inl tt
lookup P (d ∷ ds) all name = by d.kind all.0 (lookup P ds all.1 name)
  where
    by : (kind : DiskKind) → (IsShelf kind → P d.name) → IsForeign name ds ⊎ P name
        → ((IsShelf kind → d.name ≢ name) × IsForeign name ds) ⊎ P name
    by kind h (inr p) = inr p
    by disk_kinds.Ram h (inl f) = inl ((λ s. absurd (let bad : false ≡ true = s in cc)), f)
    by disk_kinds.Shelf h (inl f) = search (rules, same_or_other d.name name)

-- a name has nothing
abbrev IsGone : Option (List ℕ) → Option (List ℕ) → Type 0
IsGone had has = has ≡ None

-- an image is as it was, or is gone where it is kept back
abbrev ImageFate : ShelfView → ShelfView → List (List ℕ) → List ℕ → Type 0
ImageFate a b kept name =
    (AreOther name kept × OfName a.told b.told name IsSame) ⊎ (Contains kept name × OfName a.told b.told name IsGone)

same_image : (d : DiskDecl) (x : DriveView) → IsSectorSize d.sector → (u v w : Option (List ℕ)) → WentInto d x u v
    → HasSectors x v w → w ≡ u
same_image d x is None v w p q = absurd p.0
same_image d x is (Some bytes) v w p q = search (rules, joined_image d.sector bytes is p.0.0)

images_fate : (a m b : ShelfView) (ds : List DiskDecl) (xs : List DriveView) (kept : List (List ℕ))
    → AllByRecursion IsDiskDecl ds → EachHad a m ds xs → EachFate m b ds xs kept
    → AllByRecursion (λ (d : DiskDecl). IsShelf d.kind → ImageFate a b kept d.name) ds
images_fate a m b [] xs kept decls h f = tt
images_fate a m b (d ∷ ds) [] kept decls h f = absurd h
images_fate a m b (d ∷ ds) (x ∷ xs) kept decls h f = (one d.kind h.0 f.0, images_fate a m b ds xs kept decls.1 h.1 f.1)
  where
    one : (kind : DiskKind) → IsHad a m d x kind → Fate m b d.name x kept kind → IsShelf kind
        → ImageFate a b kept d.name
    one disk_kinds.Ram had fate s = absurd (let bad : false ≡ true = s in cc)
    one disk_kinds.Shelf had fate s = elim fate [
      | inl given ↦ inl (
        given.not_kept,
        chain a.told m.told b.told d.name (same_image d x decls.0.sector) had.image given.told,
      )
      | inr held ↦ inr (
        held.among,
        chain a.told m.told b.told d.name (λ u v w p q. q ∙ p.1) had.image held.told,
      )
    ]

-- where the disks served no mesh, the images are as they were, but that those kept back are gone
pub images_stay : (a m b : ShelfView) (ds : List DiskDecl) (xs : List DriveView) (kept : List (List ℕ))
    → Course a m b ds xs xs kept → ImagesStay a b
images_stay a m b ds xs kept c name =
    search (
      rules,
      lookup (ImageFate a b kept) ds (images_fate a m b ds xs kept c.decls c.had (course_fate a m b ds xs xs kept c))
          name,
      course_back a m b ds xs xs kept c,
      weaker a.told b.told name,
      course_foreign a m b ds xs xs kept c name,
      course_told a m b ds xs xs kept c name,
      other-contains name kept,
    )

-- Lengths

pub same_length : (u w : Option (List ℕ)) → w ≡ u → KeepsLength u w
same_length None w e = tt
same_length (Some bytes) w e = subst (λ o. IsSomeAnd o (λ now. length now ≡ length bytes)) (sym e) refl

-- what a drive that served holds is as long as what it held
length_after : (log : List Entry) (n : ℕ) (d : DiskDecl) (x y : DriveView) → IsSectorSize d.sector
    → x.sector ≡ d.sector → IfSome x.held (λ sectors. length sectors ≡ x.count)
    → IfSome y.held (λ sectors. length sectors ≡ y.count) → IsServed log n x y
    → (u v w : Option (List ℕ)) → WentInto d x u v → HasSectors y v w → KeepsLength u w
length_after log n d x y is asked counted counted_after served None v w p q = absurd p.0
length_after log n d x y is asked counted counted_after served (Some bytes) v w p q =
    search (
      rules,
      all_bytes y.sector,
      ap (λ k. x.count * k) served.sector,
      image_bytes d x bytes is asked counted p.0.0 p.0.1,
      held_after log n d x y bytes asked p.0.1 served,
      image_whole d.sector bytes is p.0.0,
    )

-- an image keeps its length, or is kept back
abbrev Stands : ShelfView → ShelfView → List (List ℕ) → List ℕ → Type 0
Stands a b kept name = OfName a.told b.told name KeepsLength ⊎ Contains kept name

served_stand : (a m b : ShelfView) (log : List Entry) (n : ℕ) (ds : List DiskDecl) (xs ys : List DriveView)
    (kept : List (List ℕ)) → AllByRecursion IsDiskDecl ds → EachHad a m ds xs → ServeAll log n xs ys
    → EachFate m b ds ys kept → AllByRecursion (λ (d : DiskDecl). IsShelf d.kind → Stands a b kept d.name) ds
served_stand a m b log n [] xs ys kept decls h s f = tt
served_stand a m b log n (d ∷ ds) [] ys kept decls h s f = absurd h
served_stand a m b log n (d ∷ ds) (x ∷ xs) [] kept decls h s f = absurd s
served_stand a m b log n (d ∷ ds) (x ∷ xs) (y ∷ ys) kept decls h s f =
    (one d.kind h.0 f.0, served_stand a m b log (n + 1) ds xs ys kept decls.1 h.1 s.1 f.1)
  where
    one : (kind : DiskKind) → IsHad a m d x kind → Fate m b d.name y kept kind → IsShelf kind → Stands a b kept d.name
    one disk_kinds.Ram had fate is = absurd (let bad : false ≡ true = is in cc)
    one disk_kinds.Shelf had fate is = elim fate [
      | inl given ↦ inl (chain a.told m.told b.told d.name
          (length_after log n d x y decls.0.sector had.size.asked had.counted given.counted s.0) had.image given.told)
      | inr held ↦ inr held.among
    ]

images_stand_by : (a m b : ShelfView) (ds : List DiskDecl) (xs ys : List DriveView) (kept : List (List ℕ))
    → Course a m b ds xs ys kept
    → AllByRecursion (λ (d : DiskDecl). IsShelf d.kind → Stands a b kept d.name) ds → ImagesStand a b
images_stand_by a m b ds xs ys kept c all name not_back =
    search (
      rules,
      lookup (Stands a b kept) ds all name,
      same_length,
      course_told a m b ds xs ys kept c name,
      course_back a m b ds xs ys kept c,
    )

-- images that served keep their lengths
pub images_stand : (a m b : ShelfView) (log : List Entry) (ds : List DiskDecl) (xs ys : List DriveView)
    (kept : List (List ℕ)) → Course a m b ds xs ys kept → ServeAll log 0 xs ys → ImagesStand a b
images_stand a m b log ds xs ys kept c served =
    images_stand_by a m b ds xs ys kept c
    (served_stand a m b log 0 ds xs ys kept c.decls c.had served (course_fate a m b ds xs ys kept c))

still_stand : (a b : ShelfView) (kept : List (List ℕ)) (ds : List DiskDecl)
    → AllByRecursion (λ (d : DiskDecl). IsShelf d.kind → ImageFate a b kept d.name) ds
    → AllByRecursion (λ (d : DiskDecl). IsShelf d.kind → Stands a b kept d.name) ds
still_stand a b kept [] all = tt
still_stand a b kept (d ∷ ds) all = search (rules, still_stand a b kept ds all.1)

-- and so do images that didn't
pub images_stand_still : (a m b : ShelfView) (ds : List DiskDecl) (xs : List DriveView) (kept : List (List ℕ))
    → Course a m b ds xs xs kept → ImagesStand a b
images_stand_still a m b ds xs kept c =
    images_stand_by a m b ds xs xs kept c
    (still_stand a b kept ds (images_fate a m b ds xs kept c.decls c.had (course_fate a m b ds xs xs kept c)))

-- What is known of disks

unasked_fates : (a m b : ShelfView) (ds : List DiskDecl) (xs : List DriveView) (kept : List (List ℕ))
    → EachHad a m ds xs → EachFate m b ds xs kept
    → AllByRecursion (λ (d : DiskDecl). IsShelf d.kind → IsUnasked a b d.name) ds
unasked_fates a m b [] xs kept h f = tt
unasked_fates a m b (d ∷ ds) [] kept h f = absurd f
unasked_fates a m b (d ∷ ds) (x ∷ xs) kept h f = search (rules, unasked_fates a m b ds xs kept h.1 f.1)

-- disks that served no mesh weren't asked
pub none_asked : (a m b : ShelfView) (ds : List DiskDecl) (xs : List DriveView) (kept : List (List ℕ))
    → Course a m b ds xs xs kept → NoneAsked a b
none_asked a m b ds xs kept c name =
    search (
      rules,
      lookup (λ n. IsUnasked a b n) ds
          (unasked_fates a m b ds xs kept c.had (course_fate a m b ds xs xs kept c)) name,
      gives_stay m b ds xs kept name c.given,
    )

-- disks that served have the sizes that they had
pub sizes_back : (m b : ShelfView) (log : List Entry) (n : ℕ) (ds : List DiskDecl) (xs ys : List DriveView)
    (kept : List (List ℕ)) → ServeAll log n xs ys → EachFate m b ds ys kept
    → AllByRecursion (HasFactSectors b) (zip ds (map size_of xs))
sizes_back m b log n [] xs ys kept s f = tt
sizes_back m b log n (d ∷ ds) [] ys kept s f = tt
sizes_back m b log n (d ∷ ds) (x ∷ xs) [] kept s f = absurd s
sizes_back m b log n (d ∷ ds) (x ∷ xs) (y ∷ ys) kept s f =
    search (rules, sizes_back m b log (n + 1) ds xs ys kept s.1 f.1)
