-- Drives that are given back to a shelf.
use Rattle.std.proofs.Common.{◌≡◌, ◌≢◌, ℕ, List, [], ◌∷◌, ◌++◌, refl, sym, subst, inl, inr, Contains, rules}
use Rattle.std.specs.Prelude.{⊤}
use Rattle.geo_disk.specs.Shelf.{IsAsBefore, IsGivenTo}
use Rattle.std.proofs.lemmas.List.{append-nil}
use Rattle.geo_disk.specs.Names.{names_without}
use Rattle.geo_model.specs.declared.command.DiskDecl.{DiskDecl}
use Rattle.geo_model.specs.declared.command.DiskKind.{DiskKind}
use Rattle.geo_model.specs.declared.command.DiskKind.TheVariants as disk_kinds
use Rattle.geo_headline.specs.Outside.{ShelfView, IsShelf}
use Rattle.geo_run.specs.Drives.{DriveView, drive_kind}
use Rattle.geo_run.specs.Lending.{AreOther, AreOut, GivesBack, GivesDrive, IsOut, names_of}
use Rattle.geo_run.proofs.Tests.{contains_first, contains_more, contains_none, same_names, other-append}
use Rattle.geo_run.proofs.Told.{of_name}
use Rattle.geo_run.proofs.Taking.{IsForeign, NameStays, stays_along, stays_twice}

-- One drive more

pub gives_more : (a b c : ShelfView) (ns : List (List ℕ)) (n : List ℕ) (xs : List DriveView) (x : DriveView)
    (kept k : List (List ℕ)) → GivesBack a ns xs kept b → GivesDrive b n x k c (drive_kind x)
    → GivesBack a (ns ++ n ∷ []) (xs ++ x ∷ []) (kept ++ k) c
gives_more a b c [] n [] x kept k h g = search (rules, append-nil k)
gives_more a b c (m ∷ ms) n (y ∷ ys) x kept k h g = search (rules, gives_more h.0 b c ms n ys x h.2 k h.5 g)
gives_more a b c _ n _ x kept k h g = absurd h

-- What is out stays out

-- a name that isn't taken away stays
without_contains : (gone name : List ℕ) (names : List (List ℕ)) → name ≢ gone → Contains names name
    → Contains (names_without gone names) name
without_contains gone name [] other c = absurd (contains_none name c)
without_contains gone name (x ∷ names) other c =
    search (
      rules,
      without_contains gone name names other,
      same_names gone x,
      contains_first x (names_without gone names),
      contains_more x name (names_without gone names),
    )

-- one drive is given back, and another is out as before
still_out : (a b : ShelfView) (n m : List ℕ) (x y : DriveView) (k : List (List ℕ)) (kind : DiskKind)
    → GivesDrive a n x k b kind → m ≢ n → IsOut a m y → IsOut b m y
still_out a b n m x y k disk_kinds.Ram h other out = subst (λ (v : ShelfView). IsOut v m y) (sym h.1) out
still_out a b n m x y k disk_kinds.Shelf h other out = search (rules, without_contains n m a.lent other out.lent)

all_still_out : (a b : ShelfView) (n : List ℕ) (x : DriveView) (k : List (List ℕ)) (kind : DiskKind)
    (ms : List (List ℕ)) (ys : List DriveView)
    → GivesDrive a n x k b kind → AreOther n ms → AreOut a ms ys → AreOut b ms ys
all_still_out a b n x k kind [] [] h others out = tt
all_still_out a b n x k kind (m ∷ ms) (y ∷ ys) h others out =
    search (rules, still_out a b n m x y k kind h others.0, all_still_out a b n x k kind ms ys h others.1 out.2)
all_still_out a b n x k kind _ _ h others out = absurd out

-- the others are still out after one was given back
pub out_next : (a b : ShelfView) (n : List ℕ) (x : DriveView) (k : List (List ℕ))
    (ms : List (List ℕ)) (ys : List DriveView)
    → AreOut a (n ∷ ms) (x ∷ ys) → GivesDrive a n x k b (drive_kind x) → AreOut b ms ys
out_next a b n x k ms ys out h = all_still_out a b n x k (drive_kind x) ms ys h out.1 out.2

-- By declarations

-- each drive is of the kind of its disk
abbrev pub SameKinds : List DiskDecl → List DriveView → Type 0
SameKinds [] [] = ⊤
SameKinds (d ∷ ds) (x ∷ xs) = (drive_kind x ≡ d.kind) × SameKinds ds xs
SameKinds _ _ = ⊥

-- the drives of disks are given back
abbrev pub GivesAll : ShelfView → List DiskDecl → List DriveView → List (List ℕ) → ShelfView → Type 0
GivesAll a [] [] kept b = (kept ≡ []) × (b ≡ a)
GivesAll a (d ∷ ds) (x ∷ xs) kept b =
    (m : ShelfView) × (first : List (List ℕ)) × (rest : List (List ℕ)) × (kept ≡ first ++ rest)
    × GivesDrive a d.name x first m d.kind × GivesAll m ds xs rest b
GivesAll a _ _ kept b = ⊥

pub gives_all : (a b : ShelfView) (ds : List DiskDecl) (xs : List DriveView) (kept : List (List ℕ))
    → SameKinds ds xs → GivesBack a (names_of ds) xs kept b → GivesAll a ds xs kept b
gives_all a b [] [] kept kinds h = h
gives_all a b (d ∷ ds) (x ∷ xs) kept kinds h = search (rules, gives_all h.0 b ds xs h.2 kinds.1 h.5)
gives_all a b _ _ kept kinds h = absurd h

-- What stays

-- a give changes nothing of another name
pub give_stays : (a b : ShelfView) (n : List ℕ) (x : DriveView) (k : List (List ℕ)) (name : List ℕ) (kind : DiskKind)
    → GivesDrive a n x k b kind → (IsShelf kind → n ≢ name) → NameStays a b name
give_stays a b n x k name disk_kinds.Ram h other = stays_along a b name h.1
give_stays a b n x k name disk_kinds.Shelf h other =
    elim h [
      | inl given ↦ record {
        told = of_name a.told b.told name (IsGivenTo n x.held) (λ o v p. p.others name (λ e. other refl (sym e)))
            given.1.told;
        disks = given.1.disks.others name (λ e. other refl (sym e));
        takes = given.1.takes name;
        gives = given.1.gives name;
        asked = given.1.asked.others name (λ e. other refl (sym e));
        sectors = given.1.sectors.others name (λ e. other refl (sym e));
      }
      | inr kept ↦ record {
        told = of_name a.told b.told name IsAsBefore (λ o v p. p name) kept.1.told;
        disks = kept.1.disks.others name (λ e. other refl (sym e));
        takes = kept.1.takes name;
        gives = kept.1.gives.others name (λ e. other refl (sym e));
        asked = kept.1.asked.others name (λ e. other refl (sym e));
        sectors = kept.1.sectors.others name (λ e. other refl (sym e));
      }
    ]

-- nor do all gives
pub gives_stay : (a b : ShelfView) (ds : List DiskDecl) (xs : List DriveView) (kept : List (List ℕ)) (name : List ℕ)
    → GivesAll a ds xs kept b → IsForeign name ds → NameStays a b name
gives_stay a b [] [] kept name h other = stays_along a b name h.1
gives_stay a b (d ∷ ds) (x ∷ xs) kept name h other =
    stays_twice a h.0 b name (give_stays a h.0 d.name x h.1 name d.kind h.4 other.0)
    (gives_stay h.0 b ds xs h.2 name h.5 other.1)
gives_stay a b _ _ kept name h other = absurd h

-- What is kept

-- what one give keeps is no other name
pub first_other : (a b : ShelfView) (n : List ℕ) (x : DriveView) (k : List (List ℕ)) (name : List ℕ) (kind : DiskKind)
    → GivesDrive a n x k b kind → (IsShelf kind → n ≢ name) → AreOther name k
first_other a b n x k name disk_kinds.Ram h other = subst (λ ks. AreOther name ks) (sym h.0) tt
first_other a b n x k name disk_kinds.Shelf h other = search rules

-- what is kept is none but the names of the disks
pub kept_other : (a b : ShelfView) (ds : List DiskDecl) (xs : List DriveView) (kept : List (List ℕ)) (name : List ℕ)
    → GivesAll a ds xs kept b → IsForeign name ds → AreOther name kept
kept_other a b [] [] kept name h others = subst (λ ks. AreOther name ks) (sym h.0) tt
kept_other a b (d ∷ ds) (x ∷ xs) kept name h others =
    subst (λ ks. AreOther name ks) (sym h.3)
    (other-append name h.1 h.2 (first_other a h.0 d.name x h.1 name d.kind h.4 others.0)
    (kept_other h.0 b ds xs h.2 name h.5 others.1))
kept_other a b _ _ kept name h others = absurd h
