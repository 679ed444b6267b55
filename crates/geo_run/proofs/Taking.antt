-- Disks that are taken from a shelf.
use Rattle.std.proofs.Common.{◌≡◌, ◌≢◌, ℕ, List, [], ◌∷◌, ◌++◌, length, Option, Some, None, refl, sym, ◌∙◌, ap, subst, Contains, IfSome, IsSomeAnd, append_assoc, rules}
use Rattle.std.specs.Prelude.{⊤}
use Rattle.std.specs.List.{AllByRecursion}
use Rattle.std.proofs.lemmas.List.{append-nil}
use Rattle.std.proofs.lemmas.List.Elements.{Contains-append_left}
use Rattle.geo_base.specs.Images.{IsDiskSize}
use Rattle.geo_base.specs.Sectors.{sectors_of}
use Rattle.geo_disk.specs.Shelf.{IsTakenFrom, IsOfSize}
use Rattle.geo_model.specs.declared.command.DiskDecl.{DiskDecl}
use Rattle.geo_model.specs.declared.command.DiskKind.{DiskKind}
use Rattle.geo_model.specs.declared.command.DiskKind.TheVariants as disk_kinds
use Rattle.geo_headline.specs.Outside.{ShelfView, IsShelf}
use Rattle.geo_run.specs.Drives.{DriveView, drive_kind}
use Rattle.geo_run.specs.Lending.{AreApart, AreOther, IsMade, OpensDrive, OpensDrives, SameCounts, names_of}
use Rattle.geo_run.proofs.Told.{OfName, IsSame, of_name, chain}

-- One disk more

-- the drives of a list of disks, and of another behind it
pub opens_both : (a b c : ShelfView) (ds es : List DiskDecl) (xs ys : List DriveView)
    → OpensDrives a ds xs b → OpensDrives b es ys c → OpensDrives a (ds ++ es) (xs ++ ys) c
opens_both a b c [] es [] ys h k = subst (λ (v : ShelfView). OpensDrives v es ys c) h k
opens_both a b c (d ∷ ds) es (x ∷ xs) ys h k = (h.0, h.1, opens_both h.0 b c ds es xs ys h.2 k)
opens_both a b c _ es _ ys h k = absurd h

-- one disk more
pub opens_more : (a b c : ShelfView) (ds : List DiskDecl) (d : DiskDecl) (xs : List DriveView) (x : DriveView)
    → OpensDrives a ds xs b → OpensDrive b d x c d.kind → OpensDrives a (ds ++ d ∷ []) (xs ++ x ∷ []) c
opens_more a b c ds d xs x h k = opens_both a b c ds (d ∷ []) xs (x ∷ []) h (c, k, refl)

-- What stays

-- no disk of the shelf has the name
abbrev pub IsForeign : List ℕ → List DiskDecl → Type 0
IsForeign name ds = AllByRecursion (λ (d : DiskDecl). IsShelf d.kind → d.name ≢ name) ds

-- a name has what it had, and nothing that is known of it changed
pub record NameStays (before after : ShelfView) (name : List ℕ) : Type 0 where
  pub told : OfName before.told after.told name IsSame
  pub disks : after.faults_of name ≡ before.faults_of name
  pub takes : after.take_faults name ≡ before.take_faults name
  pub gives : after.give_faults name ≡ before.give_faults name
  pub asked : after.asked_of name ≡ before.asked_of name
  pub sectors : after.sectors_of name ≡ before.sectors_of name

pub stays : (s : ShelfView) (name : List ℕ) → NameStays s s name
stays s name = search rules

pub stays_along : (a b : ShelfView) (name : List ℕ) → b ≡ a → NameStays a b name
stays_along a b name e = subst (λ (v : ShelfView). NameStays a v name) (sym e) (stays a name)

pub stays_twice : (a b c : ShelfView) (name : List ℕ) → NameStays a b name → NameStays b c name → NameStays a c name
stays_twice a b c name p q = search rules

-- a take changes nothing of another name
pub take_stays : (a b : ShelfView) (d : DiskDecl) (x : DriveView) (name : List ℕ) (kind : DiskKind)
    → OpensDrive a d x b kind → (IsShelf kind → d.name ≢ name) → NameStays a b name
take_stays a b d x name disk_kinds.Ram h other = stays_along a b name h.1
take_stays a b d x name disk_kinds.Shelf h other = record {
  told = of_name a.told b.told name (IsTakenFrom d.name d.sector x.held)
      (λ o n p. p.others name (λ e. other refl (sym e))) h.told;
  disks = h.counts.disks name;
  takes = h.counts.takes name;
  gives = h.counts.gives name;
  asked = h.counts.asked name;
  sectors = h.counts.sectors name;
}

-- nor do all takes
pub takes_stay : (a b : ShelfView) (ds : List DiskDecl) (xs : List DriveView) (name : List ℕ)
    → OpensDrives a ds xs b → IsForeign name ds → NameStays a b name
takes_stay a b [] [] name h other = stays_along a b name h
takes_stay a b (d ∷ ds) (x ∷ xs) name h other =
    stays_twice a h.0 b name (take_stays a h.0 d x name d.kind h.1 other.0) (takes_stay h.0 b ds xs name h.2 other.1)
takes_stay a b _ _ name h other = absurd h

-- What is lent

-- the names of the disks of the shelf
abbrev pub with_shelf : DiskKind → List ℕ → List (List ℕ) → List (List ℕ)
with_shelf disk_kinds.Ram name names = names
with_shelf disk_kinds.Shelf name names = name ∷ names

abbrev pub shelf_names : List DiskDecl → List (List ℕ)
shelf_names [] = []
shelf_names (d ∷ ds) = with_shelf d.kind d.name (shelf_names ds)

-- what is lent after a take
take_lends : (a b : ShelfView) (d : DiskDecl) (x : DriveView) (rest : List (List ℕ)) (kind : DiskKind)
    → OpensDrive a d x b kind → b.lent ++ rest ≡ a.lent ++ with_shelf kind d.name rest
take_lends a b d x rest disk_kinds.Ram h = ap (λ (v : ShelfView). v.lent ++ rest) h.1
take_lends a b d x rest disk_kinds.Shelf h = ap (λ names. names ++ rest) h.lent ∙ append_assoc a.lent (d.name ∷ []) rest

pub takes_lend : (a b : ShelfView) (ds : List DiskDecl) (xs : List DriveView)
    → OpensDrives a ds xs b → b.lent ≡ a.lent ++ shelf_names ds
takes_lend a b [] [] h = ap (λ (v : ShelfView). v.lent) h ∙ sym (append-nil a.lent)
takes_lend a b (d ∷ ds) (x ∷ xs) h = takes_lend h.0 b ds xs h.2 ∙ take_lends a h.0 d x (shelf_names ds) d.kind h.1
takes_lend a b _ _ h = absurd h

-- what was lent stays so
take_keeps_lent : (a b : ShelfView) (d : DiskDecl) (x : DriveView) (name : List ℕ) (kind : DiskKind)
    → OpensDrive a d x b kind → Contains a.lent name → Contains b.lent name
take_keeps_lent a b d x name disk_kinds.Ram h c = subst (λ (v : ShelfView). Contains v.lent name) (sym h.1) c
take_keeps_lent a b d x name disk_kinds.Shelf h c = search (rules, Contains-append_left a.lent (d.name ∷ []) name c)

-- Counts

same_counts : (a b : ShelfView) → b ≡ a → SameCounts a b
same_counts a b e = search rules

take_counts : (a b : ShelfView) (d : DiskDecl) (x : DriveView) (kind : DiskKind)
    → OpensDrive a d x b kind → SameCounts a b
take_counts a b d x disk_kinds.Ram h = same_counts a b h.1
take_counts a b d x disk_kinds.Shelf h = h.counts

-- no count of a name changes
pub takes_count : (a b : ShelfView) (ds : List DiskDecl) (xs : List DriveView)
    → OpensDrives a ds xs b → SameCounts a b
takes_count a b [] [] h = same_counts a b h
takes_count a b (d ∷ ds) (x ∷ xs) h = search (rules, takes_count h.0 b ds xs h.2)
takes_count a b _ _ h = absurd h

take_no_fault : (a b : ShelfView) (d : DiskDecl) (x : DriveView) (kind : DiskKind)
    → OpensDrive a d x b kind → b.faults ≡ a.faults
take_no_fault a b d x disk_kinds.Ram h = ap (λ (v : ShelfView). v.faults) h.1
take_no_fault a b d x disk_kinds.Shelf h = h.no_fault

-- takes that go through are no fault
pub takes_no_fault : (a b : ShelfView) (ds : List DiskDecl) (xs : List DriveView)
    → OpensDrives a ds xs b → b.faults ≡ a.faults
takes_no_fault a b [] [] h = ap (λ (v : ShelfView). v.faults) h
takes_no_fault a b (d ∷ ds) (x ∷ xs) h = takes_no_fault h.0 b ds xs h.2 ∙ take_no_fault a h.0 d x d.kind h.1
takes_no_fault a b _ _ h = absurd h

-- What each drive is

-- the image that a name had, which went into a drive; the name has nothing then
abbrev pub WentInto : DiskDecl → DriveView → Option (List ℕ) → Option (List ℕ) → Type 0
WentInto d x had has =
    IsSomeAnd had (λ bytes. IsDiskSize d.sector (length bytes) × (x.held ≡ Some (sectors_of d.sector bytes)))
    × (has ≡ None)

-- a drive is the disk of the shelf that a declaration names, by the shelf before and after all were taken
pub record IsTaken (before after : ShelfView) (d : DiskDecl) (x : DriveView) : Type 0 where
  pub kind : drive_kind x ≡ disk_kinds.Shelf
  pub not_lent : Contains before.lent d.name → ⊥
  pub size : IsOfSize d.sector x.sector x.count
  pub brought : x.faults ≡ before.faults_of d.name
  pub asked : x.asked ≡ before.asked_of d.name
  pub counted : IfSome x.held (λ sectors. length sectors ≡ x.count)
  pub image : OfName before.told after.told d.name (WentInto d x)

abbrev pub IsHad : ShelfView → ShelfView → DiskDecl → DriveView → DiskKind → Type 0
IsHad before after d x disk_kinds.Ram = IsMade d x
IsHad before after d x disk_kinds.Shelf = IsTaken before after d x

abbrev pub EachHad : ShelfView → ShelfView → List DiskDecl → List DriveView → Type 0
EachHad before after [] [] = ⊤
EachHad before after (d ∷ ds) (x ∷ xs) = IsHad before after d x d.kind × EachHad before after ds xs
EachHad before after _ _ = ⊥

-- it is the same by a shelf at an earlier take
had_before : (a b c : ShelfView) (d : DiskDecl) (x : DriveView) (e : DiskDecl) (y : DriveView) (kind : DiskKind)
    → OpensDrive a d x b d.kind → d.name ≢ e.name → IsHad b c e y kind → IsHad a c e y kind
had_before a b c d x e y disk_kinds.Ram h other had = had
had_before a b c d x e y disk_kinds.Shelf h other had =
    let kept = take_stays a b d x e.name d.kind h (λ s. other) in
    record {
      kind = had.kind;
      not_lent = λ lent. had.not_lent (take_keeps_lent a b d x e.name d.kind h lent);
      size = had.size;
      brought = had.brought ∙ kept.disks;
      asked = had.asked ∙ kept.asked;
      counted = had.counted;
      image = chain a.told b.told c.told e.name
          (λ u v w p q. (
            subst (λ o.
                IsSomeAnd o (λ bytes. IsDiskSize e.sector (length bytes) × (y.held ≡ Some (sectors_of e.sector bytes))))
                p q.0,
            q.1,
          ))
          kept.told had.image;
    }

each_before : (a b c : ShelfView) (d : DiskDecl) (x : DriveView) (ds : List DiskDecl) (xs : List DriveView)
    → OpensDrive a d x b d.kind → AreOther d.name (names_of ds) → EachHad b c ds xs → EachHad a c ds xs
each_before a b c d x [] [] h others each = tt
each_before a b c d x (e ∷ es) (y ∷ ys) h others each =
    (had_before a b c d x e y e.kind h (λ s. others.0 (sym s)) each.0, each_before a b c d x es ys h others.1 each.1)
each_before a b c d x _ _ h others each = absurd each

-- where names are others, no disk has the name
pub foreign_from : (name : List ℕ) (ds : List DiskDecl) → AreOther name (names_of ds) → IsForeign name ds
foreign_from name [] others = tt
foreign_from name (d ∷ ds) others = (λ s. others.0, foreign_from name ds others.1)

-- the first drive
had_first : (a b c : ShelfView) (d : DiskDecl) (x : DriveView) (kind : DiskKind)
    → OpensDrive a d x b kind → NameStays b c d.name → IsHad a c d x kind
had_first a b c d x disk_kinds.Ram h kept = h.0
had_first a b c d x disk_kinds.Shelf h kept = record {
  kind = h.kind;
  not_lent = h.not_lent;
  size = h.size;
  brought = h.brought;
  asked = h.asked;
  counted = h.counted;
  image = chain a.told b.told c.told d.name (λ u v w p q. (p.0, q ∙ p.1))
      (of_name a.told b.told d.name (IsTakenFrom d.name d.sector x.held) {F = WentInto d x} (λ o n p. (p.bytes, p.gone))
      h.told) kept.told;
}

-- what each drive is
pub each_had : (a b : ShelfView) (ds : List DiskDecl) (xs : List DriveView)
    → AreApart (names_of ds) → OpensDrives a ds xs b → EachHad a b ds xs
each_had a b [] [] apart h = tt
each_had a b (d ∷ ds) (x ∷ xs) apart h = (
  had_first a h.0 b d x d.kind h.1 (takes_stay h.0 b ds xs d.name h.2 (foreign_from d.name ds apart.0)),
  each_before a h.0 b d x ds xs h.1 apart.0 (each_had h.0 b ds xs apart.1 h.2),
)
each_had a b _ _ apart h = absurd h
