-- Takes and gives that failed, each once.
use Rattle.std.proofs.Common.{◌≡◌, ◌≢◌, ◌⊎◌, ℕ, true, List, [], ◌∷◌, ◌++◌, sym, ◌∙◌, ap, inl, inr, arith, bytes_eq, rules}
use Rattle.std.specs.List.{list_any}
use Rattle.geo_disk.specs.Counts.{counted_if}
use Rattle.geo_model.specs.declared.command.DiskDecl.{DiskDecl}
use Rattle.geo_model.specs.declared.command.DiskKind.{DiskKind}
use Rattle.geo_model.specs.declared.command.DiskKind.TheVariants as disk_kinds
use Rattle.geo_headline.specs.Outside.{ShelfView}
use Rattle.geo_headline.specs.Endings.{Ending, ShelfFault, blamed_by, failed_takes}
use Rattle.geo_headline.specs.Headline.{TakesAreTold}
use Rattle.geo_run.specs.Drives.{DriveView}
use Rattle.geo_run.specs.Lending.{AreApart, GivesDrive, names_of}
use Rattle.geo_run.proofs.Taking.{foreign_from}
use Rattle.geo_run.proofs.Giving.{GivesAll, gives_stay}

-- of each name that is kept one give failed, and of each other none
pub gives_told : (a b : ShelfView) (ds : List DiskDecl) (xs : List DriveView) (kept : List (List ℕ)) (name : List ℕ)
    → AreApart (names_of ds) → GivesAll a ds xs kept b
    → b.give_faults name ≡ counted_if (list_any (bytes_eq name) kept) (a.give_faults name)
gives_told a b [] [] kept name apart h = search rules
gives_told a b (d ∷ ds) (x ∷ xs) kept name apart h =
    by d.kind h.4 (gives_told h.0 b ds xs h.2 name apart.1 h.5)
  where
    -- where this give kept nothing and failed not
    passed : kept ≡ h.2 → h.0.give_faults name ≡ a.give_faults name
        → b.give_faults name ≡ counted_if (list_any (bytes_eq name) h.2) (h.0.give_faults name)
        → b.give_faults name ≡ counted_if (list_any (bytes_eq name) kept) (a.give_faults name)
    passed fewer same more = search rules

    -- where it failed
    failed : kept ≡ d.name ∷ h.2 → (d.name ≡ name) ⊎ (d.name ≢ name)
        → h.0.give_faults d.name ≡ counted_if true (a.give_faults d.name)
        → ((other : List ℕ) → other ≢ d.name → h.0.give_faults other ≡ a.give_faults other)
        → b.give_faults name ≡ counted_if (list_any (bytes_eq name) h.2) (h.0.give_faults name)
        → b.give_faults name ≡ counted_if (list_any (bytes_eq name) kept) (a.give_faults name)
    failed one_more (inl e) own others more =
        search (rules, gives_stay h.0 b ds xs h.2 d.name h.5 (foreign_from d.name ds apart.0), bytes_eq d.name)
    failed one_more (inr other) own others more = search rules

    by : (kind : DiskKind) → GivesDrive a d.name x h.1 h.0 kind
        → b.give_faults name ≡ counted_if (list_any (bytes_eq name) h.2) (h.0.give_faults name)
        → b.give_faults name ≡ counted_if (list_any (bytes_eq name) kept) (a.give_faults name)
    by disk_kinds.Ram g more = search rules
    by disk_kinds.Shelf g more = search (rules, failed)
gives_told a b _ _ kept name apart h = absurd h

-- a give is no take
pub gives_take_none : (a b : ShelfView) (ds : List DiskDecl) (xs : List DriveView) (kept : List (List ℕ))
    (name : List ℕ)
    → GivesAll a ds xs kept b → b.take_faults name ≡ a.take_faults name
gives_take_none a b [] [] kept name h = ap (λ (v : ShelfView). v.take_faults name) h.1
gives_take_none a b (d ∷ ds) (x ∷ xs) kept name h = gives_take_none h.0 b ds xs h.2 name h.5 ∙ one d.kind h.4
  where
    one : (kind : DiskKind) → GivesDrive a d.name x h.1 h.0 kind → h.0.take_faults name ≡ a.take_faults name
    one disk_kinds.Ram g = ap (λ (v : ShelfView). v.take_faults name) g.1
    one disk_kinds.Shelf g = elim g [ inl given ↦ given.1.takes name | inr held ↦ held.1.takes name ]
gives_take_none a b _ _ kept name h = absurd h

-- where nothing is kept no give was a fault
pub gives_no_fault : (a b : ShelfView) (ds : List DiskDecl) (xs : List DriveView) (kept : List (List ℕ))
    → GivesAll a ds xs kept b → kept ≡ [] → b.faults ≡ a.faults
gives_no_fault a b [] [] kept h none = ap (λ (v : ShelfView). v.faults) h.1
gives_no_fault a b (d ∷ ds) (x ∷ xs) kept h none = by d.kind h.4 (λ e. gives_no_fault h.0 b ds xs h.2 h.5 e)
  where
    nothing_first : (n : List ℕ) (ks : List (List ℕ)) → n ∷ ks ≡ [] → ⊥
    nothing_first n ks e = cc

    by : (kind : DiskKind) → GivesDrive a d.name x h.1 h.0 kind → (h.2 ≡ [] → b.faults ≡ h.0.faults)
        → b.faults ≡ a.faults
    by disk_kinds.Ram g more = more (sym (h.3 ∙ ap (λ ks. ks ++ h.2) g.0) ∙ none) ∙ ap (λ (v : ShelfView). v.faults) g.1
    by disk_kinds.Shelf g more = search rules
gives_no_fault a b _ _ kept h none = absurd h

-- where no take failed none is told
pub none_blamed : (ending : Ending) (a b : ShelfView) → failed_takes ending ≡ 0
    → ((name : List ℕ) → b.take_faults name ≡ a.take_faults name) → TakesAreTold (blamed_by ending) a b
none_blamed (ShelfFault name) a b e h = absurd (let bad : 1 ≡ 0 = e in omega (arith, bad))
none_blamed _ a b e h = h
