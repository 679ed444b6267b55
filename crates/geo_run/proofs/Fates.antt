-- What becomes of each disk that is given back, and which names are kept.
use Rattle.std.proofs.Common.{◌≡◌, ◌≢◌, ◌⊎◌, ℕ, ◌+◌, ◌-◌, Bool, true, false, not, ◌&&◌, ◌||◌, List, [], ◌∷◌, ◌++◌, length, filter, find, Option, Some, refl, sym, ◌∙◌, ap, subst, inl, inr, bytes_eq, Contains, IfSome, IsSomeAnd, append_assoc, slice_get, if◌then◌else◌, rules}
use Rattle.std.specs.Prelude.{⊤}
use Rattle.geo_disk.specs.Shelf.{IsAsBefore, IsGivenTo}
use Rattle.std.specs.List.{AllByRecursion, list_any}
use Rattle.std.proofs.lemmas.List.Elements.{Contains-append_right}
use Rattle.geo_base.specs.Faults.{Rose, RoseBy}
use Rattle.geo_base.specs.Sectors.{joined_sectors}
use Rattle.geo_disk.proofs.CountLemmas.{counted_many_rose}
use Rattle.geo_disk.specs.Counts.{counted_on}
use Rattle.geo_disk.specs.Names.{names_without}
use Rattle.geo_model.specs.declared.command.DiskDecl.{DiskDecl}
use Rattle.geo_model.specs.declared.command.DiskKind.{DiskKind}
use Rattle.geo_model.specs.declared.command.DiskKind.TheVariants as disk_kinds
use Rattle.geo_headline.specs.Outside.{ShelfView, IsShelf, is_shelf, kept_back}
use Rattle.geo_run.specs.Drives.{DriveView}
use Rattle.geo_run.specs.Lending.{AreApart, AreOther, GivesDrive, names_of}
use Rattle.geo_run.proofs.Tests.{contains_first, contains-among, same_itself, other-append, other-among, without_none, without_first, without_both}
use Rattle.geo_run.proofs.Told.{OfName, IsSame, of_name, chain}
use Rattle.geo_run.proofs.Taking.{NameStays, foreign_from, with_shelf, shelf_names}
use Rattle.geo_run.proofs.Giving.{GivesAll, first_other, give_stays, gives_stay, kept_other}

-- Each disk

-- a name has the sectors of a drive, where it tells them
abbrev pub HasSectors : DriveView → Option (List ℕ) → Option (List ℕ) → Type 0
HasSectors x had has = IfSome x.held (λ sectors. has ≡ Some (joined_sectors sectors))

-- what is known of a name is what a drive was
pub record IsKnown (b : ShelfView) (name : List ℕ) (x : DriveView) : Type 0 where
  pub faults : b.faults_of name ≡ x.faults
  pub asked : b.asked_of name ≡ x.asked
  pub sectors : b.sectors_of name ≡ x.count

-- a disk was given back
pub record WasGiven (a b : ShelfView) (name : List ℕ) (x : DriveView) (kept : List (List ℕ)) : Type 0 where
  pub not_kept : AreOther name kept
  pub told : OfName a.told b.told name (HasSectors x)
  pub counted : IfSome x.held (λ sectors. length sectors ≡ x.count)
  pub known : IsKnown b name x

-- a disk wasn't given back
pub record WasKept (a b : ShelfView) (name : List ℕ) (x : DriveView) (kept : List (List ℕ)) : Type 0 where
  pub among : Contains kept name
  pub told : OfName a.told b.told name IsSame
  pub gives : Rose (a.give_faults name) (b.give_faults name)
  pub known : IsKnown b name x

abbrev pub Fate : ShelfView → ShelfView → List ℕ → DriveView → List (List ℕ) → DiskKind → Type 0
Fate a b name x kept disk_kinds.Ram = ⊤
Fate a b name x kept disk_kinds.Shelf = WasGiven a b name x kept ⊎ WasKept a b name x kept

abbrev pub EachFate : ShelfView → ShelfView → List DiskDecl → List DriveView → List (List ℕ) → Type 0
EachFate a b [] [] kept = ⊤
EachFate a b (d ∷ ds) (x ∷ xs) kept = Fate a b d.name x kept d.kind × EachFate a b ds xs kept
EachFate a b _ _ kept = ⊥

-- the same by a shelf at an earlier give, whose name is another
fate_before : (a m b : ShelfView) (name : List ℕ) (x : DriveView) (first rest kept : List (List ℕ)) (kind : DiskKind)
    → kept ≡ first ++ rest → AreOther name first → NameStays a m name
    → Fate m b name x rest kind → Fate a b name x kept kind
fate_before a m b name x first rest kept disk_kinds.Ram e others stays fate = tt
fate_before a m b name x first rest kept disk_kinds.Shelf e others stays fate =
    elim fate [
      | inl given ↦ inl (record {
        not_kept = subst (λ ks. AreOther name ks) (sym e) (other-append name first rest others given.not_kept);
        told = chain a.told m.told b.told name (λ u v w p q. q) stays.told given.told;
        counted = given.counted;
        known = given.known;
      })
      | inr held ↦ inr (search (rules, Contains-append_right first rest name held.among))
    ]

each_before : (a m b : ShelfView) (n : List ℕ) (x : DriveView) (first rest kept : List (List ℕ)) (kind : DiskKind)
    (ds : List DiskDecl) (xs : List DriveView) → GivesDrive a n x first m kind → kept ≡ first ++ rest
    → AreOther n (names_of ds) → EachFate m b ds xs rest → EachFate a b ds xs kept
each_before a m b n x first rest kept kind [] [] h e others each = tt
each_before a m b n x first rest kept kind (d ∷ ds) (y ∷ ys) h e others each =
    let other : n ≢ d.name = λ s. others.0 (sym s) in (
      fate_before a m b d.name y first rest kept d.kind e (first_other a m n x first d.name kind h (λ shelf. other))
          (give_stays a m n x first d.name kind h (λ shelf. other)) each.0,
      each_before a m b n x first rest kept kind ds ys h e others.1 each.1,
    )
each_before a m b n x first rest kept kind _ _ h e others each = absurd each

-- a count that was counted on rose
pub counted_rose : (before now after : ℕ) → now ≡ counted_on before → after ≡ now → Rose before after
counted_rose before now after e s = subst (λ (k : ℕ). Rose before k) (sym (s ∙ e)) (counted_many_rose 1 before)

-- the first disk
fate_first : (a m b : ShelfView) (name : List ℕ) (x : DriveView) (first rest kept : List (List ℕ)) (kind : DiskKind)
    → GivesDrive a name x first m kind → kept ≡ first ++ rest → AreOther name rest → NameStays m b name
    → Fate a b name x kept kind
fate_first a m b name x first rest kept disk_kinds.Ram h e others stays = tt
fate_first a m b name x first rest kept disk_kinds.Shelf h e others stays =
    elim h [
      | inl given ↦ inl (record {
        not_kept = subst (λ ks. AreOther name ks) (sym (e ∙ ap (λ ks. ks ++ rest) given.0)) others;
        told = chain a.told m.told b.told name (λ u v w p q. subst (λ o. HasSectors x u o) (sym q) p)
            (of_name a.told m.told name (IsGivenTo name x.held) {F = HasSectors x} (λ o v p. p.bytes) given.1.told)
            stays.told;
        counted = given.1.counted;
        known = record {
          faults = stays.disks ∙ given.1.disks.own;
          asked = stays.asked ∙ given.1.asked.own;
          sectors = stays.sectors ∙ given.1.sectors.own;
        };
      })
      | inr held ↦ inr (record {
        among = subst (λ ks. Contains ks name) (sym (e ∙ ap (λ ks. ks ++ rest) held.0)) (contains_first name rest);
        told = chain a.told m.told b.told name (λ u v w p q. q ∙ p)
            (of_name a.told m.told name IsAsBefore (λ o v p. p name) held.1.told) stays.told;
        gives = counted_rose (a.give_faults name) (m.give_faults name) (b.give_faults name) held.1.gives.own
            stays.gives;
        known = record {
          faults = stays.disks ∙ held.1.disks.own;
          asked = stays.asked ∙ held.1.asked.own;
          sectors = stays.sectors ∙ held.1.sectors.own;
        };
      })
    ]

-- what becomes of each disk
pub each_fate : (a b : ShelfView) (ds : List DiskDecl) (xs : List DriveView) (kept : List (List ℕ))
    → AreApart (names_of ds) → GivesAll a ds xs kept b → EachFate a b ds xs kept
each_fate a b [] [] kept apart h = tt
each_fate a b (d ∷ ds) (x ∷ xs) kept apart h = (
  fate_first a h.0 b d.name x h.1 h.2 kept d.kind h.4 h.3
      (kept_other h.0 b ds xs h.2 d.name h.5 (foreign_from d.name ds apart.0))
      (gives_stay h.0 b ds xs h.2 d.name h.5 (foreign_from d.name ds apart.0)),
  each_before a h.0 b d.name x h.1 h.2 kept d.kind ds xs h.4 h.3 apart.0 (each_fate h.0 b ds xs h.2 apart.1 h.5),
)
each_fate a b _ _ kept apart h = absurd h

-- Gives that failed

rose_before : (a m b : ShelfView) (n : List ℕ) (x : DriveView) (k : List (List ℕ)) (kind : DiskKind)
    (names : List (List ℕ)) → GivesDrive a n x k m kind → AreOther n names
    → AllByRecursion (λ name. Rose (m.give_faults name) (b.give_faults name)) names
    → AllByRecursion (λ name. Rose (a.give_faults name) (b.give_faults name)) names
rose_before a m b n x k kind [] h others all = tt
rose_before a m b n x k kind (name ∷ names) h others all =
    search (rules, rose_before a m b n x k kind names h others.1 all.1)

-- a give of each name that is kept failed
pub kept_rose : (a b : ShelfView) (ds : List DiskDecl) (xs : List DriveView) (kept : List (List ℕ))
    → AreApart (names_of ds) → GivesAll a ds xs kept b
    → AllByRecursion (λ name. Rose (a.give_faults name) (b.give_faults name)) kept
kept_rose a b [] [] kept apart h = search rules
kept_rose a b (d ∷ ds) (x ∷ xs) kept apart h = by d.kind h.4 (kept_rose h.0 b ds xs h.2 apart.1 h.5)
  where
    others : AreOther d.name h.2
    others = kept_other h.0 b ds xs h.2 d.name h.5 (foreign_from d.name ds apart.0)

    rest : (kind : DiskKind) → GivesDrive a d.name x h.1 h.0 kind
        → AllByRecursion (λ name. Rose (h.0.give_faults name) (b.give_faults name)) h.2
        → AllByRecursion (λ name. Rose (a.give_faults name) (b.give_faults name)) h.2
    rest kind g more = rose_before a h.0 b d.name x h.1 kind h.2 g others more

    fewer : kept ≡ h.2 → AllByRecursion (λ name. Rose (a.give_faults name) (b.give_faults name)) h.2
        → AllByRecursion (λ name. Rose (a.give_faults name) (b.give_faults name)) kept
    fewer e all = subst (λ ks. AllByRecursion (λ name. Rose (a.give_faults name) (b.give_faults name)) ks) (sym e) all

    by : (kind : DiskKind) → GivesDrive a d.name x h.1 h.0 kind
        → AllByRecursion (λ name. Rose (h.0.give_faults name) (b.give_faults name)) h.2
        → AllByRecursion (λ name. Rose (a.give_faults name) (b.give_faults name)) kept
    by disk_kinds.Ram g more = fewer (h.3 ∙ ap (λ ks. ks ++ h.2) g.0) (rest disk_kinds.Ram g more)
    by disk_kinds.Shelf g more = elim g [
      | inl given ↦ fewer (h.3 ∙ ap (λ ks. ks ++ h.2) given.0) (rest disk_kinds.Shelf (inl given) more)
      | inr held ↦ subst (λ ks. AllByRecursion (λ name. Rose (a.give_faults name) (b.give_faults name)) ks)
          (sym (h.3 ∙ ap (λ ks. ks ++ h.2) held.0)) (
            counted_rose (a.give_faults d.name) (h.0.give_faults d.name) (b.give_faults d.name) held.1.gives.own
                (gives_stay h.0 b ds xs h.2 d.name h.5 (foreign_from d.name ds apart.0)).gives,
            rest disk_kinds.Shelf (inr held) more,
          )
    ]
kept_rose a b _ _ kept apart h = absurd h

-- What is lent at the end

-- no disk of the shelf has a name of these
abbrev pub NoneAmong : List (List ℕ) → List DiskDecl → Type 0
NoneAmong names ds = AllByRecursion (λ (d : DiskDecl). IsShelf d.kind → AreOther d.name names) ds

none_with : (names : List (List ℕ)) (n : List ℕ) (ds : List DiskDecl) → NoneAmong names ds → AreOther n (names_of ds)
    → NoneAmong (names ++ n ∷ []) ds
none_with names n [] none others = tt
none_with names n (d ∷ ds) none others =
    search (rules, other-append d.name names (n ∷ []), none_with names n ds none.1 others.1)

other_shelf : (name : List ℕ) (ds : List DiskDecl) → AreOther name (names_of ds) → AreOther name (shelf_names ds)
other_shelf name [] others = tt
other_shelf name (d ∷ ds) others = by d.kind (other_shelf name ds others.1)
  where
    by : (kind : DiskKind) → AreOther name (shelf_names ds) → AreOther name (with_shelf kind d.name (shelf_names ds))
    by disk_kinds.Ram more = more
    by disk_kinds.Shelf more = (others.0, more)

-- what was lent before all takes is lent still, and then what is kept
pub gives_lend : (base : List (List ℕ)) (a b : ShelfView) (ds : List DiskDecl) (xs : List DriveView)
    (kept : List (List ℕ)) → a.lent ≡ base ++ shelf_names ds → NoneAmong base ds → AreApart (names_of ds)
    → GivesAll a ds xs kept b → b.lent ≡ base ++ kept
gives_lend base a b [] [] kept lent none apart h = search rules
gives_lend base a b (d ∷ ds) (x ∷ xs) kept lent none apart h =
    by d.kind lent none.0 h.4 (λ l. gives_lend base h.0 b ds xs h.2 l none.1 apart.1 h.5)
    (λ l. gives_lend (base ++ d.name ∷ []) h.0 b ds xs h.2 l (none_with base d.name ds none.1 apart.0) apart.1 h.5)
  where
    n : List ℕ
    n = d.name

    sn : List (List ℕ)
    sn = shelf_names ds

    by : (kind : DiskKind) → a.lent ≡ base ++ with_shelf kind n sn → (IsShelf kind → AreOther n base)
        → GivesDrive a n x h.1 h.0 kind → (h.0.lent ≡ base ++ sn → b.lent ≡ base ++ h.2)
        → (h.0.lent ≡ (base ++ n ∷ []) ++ sn → b.lent ≡ (base ++ n ∷ []) ++ h.2) → b.lent ≡ base ++ kept
    by disk_kinds.Ram l other g go more = search rules
    by disk_kinds.Shelf l other g go more = elim g [
      | inl given ↦ go
          (given.1.lent ∙ ap (λ ns. names_without n ns) l ∙ without_both n base (n ∷ sn)
          ∙ ap (λ ns. ns ++ names_without n (n ∷ sn)) (without_none n base (other refl))
          ∙ ap (λ ns. base ++ ns) (without_first n sn ∙ without_none n sn (other_shelf n ds apart.0)))
          ∙ ap (λ ks. base ++ ks) (sym (h.3 ∙ ap (λ ks. ks ++ h.2) given.0))
      | inr held ↦ more (held.1.lent ∙ l ∙ sym (append_assoc base (n ∷ []) sn))
          ∙ append_assoc base (n ∷ []) h.2 ∙ ap (λ ks. base ++ ks) (sym (h.3 ∙ ap (λ ks. ks ++ h.2) held.0))
    ]
gives_lend base a b _ _ kept lent none apart h = absurd h

-- the names that are lent and were before are none of what is kept back
not_kept : (base names : List (List ℕ)) → AllByRecursion (λ name. Contains base name) names
    → filter (λ name. not (list_any (bytes_eq name) base)) names ≡ []
not_kept base [] all = refl
not_kept base (n ∷ names) all = search (rules, contains-among n base all.0, not_kept base names all.1)

all_kept : (base names : List (List ℕ)) → AllByRecursion (λ name. AreOther name base) names
    → filter (λ name. not (list_any (bytes_eq name) base)) names ≡ names
all_kept base [] all = refl
all_kept base (n ∷ names) all = search (rules, other-among n base all.0, all_kept base names all.1)

filter_both : (p : List ℕ → Bool) (xs ys : List (List ℕ)) → filter p (xs ++ ys) ≡ filter p xs ++ filter p ys
filter_both p [] ys = refl
filter_both p (x ∷ xs) ys = search (rules, filter_both p xs ys)

own_names : (pre names : List (List ℕ)) → AllByRecursion (λ name. Contains (pre ++ names) name) names
own_names pre [] = tt
own_names pre (n ∷ names) = (
  Contains-append_right pre (n ∷ names) n (contains_first n names),
  subst (λ all. AllByRecursion (λ name. Contains all name) names) (append_assoc pre (n ∷ []) names)
      (own_names (pre ++ n ∷ []) names),
)

-- the names kept back, where these were lent before and those are lent besides
pub kept_back_is : (before after : ShelfView) (kept : List (List ℕ)) → after.lent ≡ before.lent ++ kept
    → AllByRecursion (λ name. AreOther name before.lent) kept → kept_back before after ≡ kept
kept_back_is before after kept lent others =
    ap (λ ns. filter (λ name. not (list_any (bytes_eq name) before.lent)) ns) lent
    ∙ filter_both (λ name. not (list_any (bytes_eq name) before.lent)) before.lent kept
    ∙ ap (λ ns. ns ++ filter (λ name. not (list_any (bytes_eq name) before.lent)) kept)
    (not_kept before.lent before.lent (own_names [] before.lent))
    ∙ all_kept before.lent kept others

-- what is kept is no name of these
pub kept_none : (base : List (List ℕ)) (a b : ShelfView) (ds : List DiskDecl) (xs : List DriveView)
    (kept : List (List ℕ)) → NoneAmong base ds → GivesAll a ds xs kept b
    → AllByRecursion (λ name. AreOther name base) kept
kept_none base a b [] [] kept none h = subst (λ ks. AllByRecursion (λ name. AreOther name base) ks) (sym h.0) tt
kept_none base a b (d ∷ ds) (x ∷ xs) kept none h = by d.kind none.0 h.4 (kept_none base h.0 b ds xs h.2 none.1 h.5)
  where
    fewer : kept ≡ h.2 → AllByRecursion (λ name. AreOther name base) h.2
        → AllByRecursion (λ name. AreOther name base) kept
    fewer e all = subst (λ ks. AllByRecursion (λ name. AreOther name base) ks) (sym e) all

    by : (kind : DiskKind) → (IsShelf kind → AreOther d.name base) → GivesDrive a d.name x h.1 h.0 kind
        → AllByRecursion (λ name. AreOther name base) h.2 → AllByRecursion (λ name. AreOther name base) kept
    by disk_kinds.Ram other g rest = fewer (h.3 ∙ ap (λ ks. ks ++ h.2) g.0) rest
    by disk_kinds.Shelf other g rest = search rules
kept_none base a b _ _ kept none h = absurd h

-- Faults

-- each disk that is kept is one more fault
pub gives_fault : (a b : ShelfView) (ds : List DiskDecl) (xs : List DriveView) (kept : List (List ℕ))
    → GivesAll a ds xs kept b → RoseBy (length kept) a.faults b.faults
gives_fault a b [] [] kept h = search rules
gives_fault a b (d ∷ ds) (x ∷ xs) kept h = by d.kind h.4 (gives_fault h.0 b ds xs h.2 h.5)
  where
    by : (kind : DiskKind) → GivesDrive a d.name x h.1 h.0 kind → RoseBy (length h.2) h.0.faults b.faults
        → RoseBy (length kept) a.faults b.faults
    by disk_kinds.Ram g rest = search rules
    by disk_kinds.Shelf g rest = search rules
gives_fault a b _ _ kept h = absurd h

-- Kept names of the plan

-- a disk of the shelf has the name
abbrev pub is_of : List DiskDecl → List ℕ → Bool
is_of ds name = list_any (λ (d : DiskDecl). is_shelf d.kind && bytes_eq d.name name) ds

of_more : (d : DiskDecl) (ds : List DiskDecl) (names : List (List ℕ))
    → AllByRecursion (λ name. is_of ds name ≡ true) names → AllByRecursion (λ name. is_of (d ∷ ds) name ≡ true) names
of_more d ds [] all = tt
of_more d ds (n ∷ names) all = search (rules, of_more d ds names all.1)

-- each name that is kept is one of the plan
pub kept_of_plan : (a b : ShelfView) (ds : List DiskDecl) (xs : List DriveView) (kept : List (List ℕ))
    → GivesAll a ds xs kept b → AllByRecursion (λ name. is_of ds name ≡ true) kept
kept_of_plan a b [] [] kept h = subst (λ ks. AllByRecursion (λ name. is_of [] name ≡ true) ks) (sym h.0) tt
kept_of_plan a b (d ∷ ds) (x ∷ xs) kept h =
    by d.kind refl h.4 (of_more d ds h.2 (kept_of_plan h.0 b ds xs h.2 h.5))
  where
    fewer : kept ≡ h.2 → AllByRecursion (λ name. is_of (d ∷ ds) name ≡ true) h.2
        → AllByRecursion (λ name. is_of (d ∷ ds) name ≡ true) kept
    fewer e all = subst (λ ks. AllByRecursion (λ name. is_of (d ∷ ds) name ≡ true) ks) (sym e) all

    own : d.kind ≡ disk_kinds.Shelf → is_of (d ∷ ds) d.name ≡ true
    own e = search rules

    by : (kind : DiskKind) → d.kind ≡ kind → GivesDrive a d.name x h.1 h.0 kind
        → AllByRecursion (λ name. is_of (d ∷ ds) name ≡ true) h.2
        → AllByRecursion (λ name. is_of (d ∷ ds) name ≡ true) kept
    by disk_kinds.Ram e g rest = fewer (h.3 ∙ ap (λ ks. ks ++ h.2) g.0) rest
    by disk_kinds.Shelf e g rest = search rules
kept_of_plan a b _ _ kept h = absurd h

-- the first disk that is kept
abbrev pub first_of : List DiskDecl → List (List ℕ) → Option DiskDecl
first_of ds kept = find (λ (d : DiskDecl). is_shelf d.kind && list_any (bytes_eq d.name) kept) ds

-- the first name that is kept is that of the first disk
pub first_kept : (a b : ShelfView) (ds : List DiskDecl) (xs : List DriveView) (kept : List (List ℕ)) (name : List ℕ)
    → AreApart (names_of ds) → GivesAll a ds xs kept b → slice_get kept 0 ≡ Some name
    → IsSomeAnd (first_of ds kept) (λ d. d.name ≡ name)
first_kept a b [] [] kept name apart h e = search rules
first_kept a b (d ∷ ds) (x ∷ xs) kept name apart h e =
    by d.kind refl h.4 (λ got. first_kept h.0 b ds xs h.2 name apart.1 h.5 got)
  where
    skip : (is_shelf d.kind && list_any (bytes_eq d.name) kept) ≡ false → kept ≡ h.2
        → (slice_get h.2 0 ≡ Some name → IsSomeAnd (first_of ds h.2) (λ z. z.name ≡ name))
        → IsSomeAnd (first_of (d ∷ ds) kept) (λ z. z.name ≡ name)
    skip fails same more =
        subst (λ t. IsSomeAnd (if t then Some d else first_of ds kept) (λ z. z.name ≡ name)) (sym fails)
        (search rules)

    take_it : (is_shelf d.kind && list_any (bytes_eq d.name) kept) ≡ true → d.name ≡ name
        → IsSomeAnd (first_of (d ∷ ds) kept) (λ z. z.name ≡ name)
    take_it passes same =
        subst (λ t. IsSomeAnd (if t then Some d else first_of ds kept) (λ z. z.name ≡ name)) (sym passes) same

    by : (kind : DiskKind) → d.kind ≡ kind → GivesDrive a d.name x h.1 h.0 kind
        → (slice_get h.2 0 ≡ Some name → IsSomeAnd (first_of ds h.2) (λ z. z.name ≡ name))
        → IsSomeAnd (first_of (d ∷ ds) kept) (λ z. z.name ≡ name)
    by disk_kinds.Ram k g more = search rules
    by disk_kinds.Shelf k g more =
        search (
          rules,
          bytes_eq d.name,
          other-among d.name kept,
          kept_other h.0 b ds xs h.2 d.name h.5 (foreign_from d.name ds apart.0),
          take_it,
          ap (λ t. t || list_any (bytes_eq d.name) h.2) (same_itself d.name),
          same_itself d.name,
          slice_get,
        )
first_kept a b _ _ kept name apart h e = absurd h
