-- What is found among the bios of a world, and what becomes of them, is what is of the table's.
use Rattle.std.proofs.Common.{◌≡◌, ℕ, List, [], ◌∷◌, map, count_by, length, cond, ◌+◌, ◌==◌, Bool, true, Option, sym, refl, ap, ◌∙◌, suc, rules}
use Rattle.std.specs.List.{AllByRecursion}
use Rattle.std.proofs.lemmas.List.{map-append}
use Rattle.std.proofs.lemmas.List.Folds.{list_all-map}
use Rattle.std.proofs.lemmas.List.Sums.{sum_by-cons}
use Rattle.geo_base.proofs.FindLists.{find-map, any-map}
use Rattle.geo_base.proofs.FilterLists.{filter-map}
use Rattle.geo_base.proofs.AllLists.{of_each}
use Rattle.geo_model.specs.declared.step.Phase.{Phase}
use Rattle.geo_model.specs.World.{Bio, BioOf, change_number}
use Rattle.geo_bio.specs.declared.bio.Held.{Held}
use Rattle.geo_state.specs.Traffic.{first_in}
use Rattle.geo_state.specs.Shown.{shown_bio, shown_bios}
use Rattle.geo_state.specs.ShownLaws.{ShownAreFound, ShownChanges}

module _ {X Y : Type 0} (f : X → Y) where
  -- a count goes through a map
  pub count-map : (test : Y → Bool) (xs : List X) → count_by test (map f xs) ≡ count_by (λ x. test (f x)) xs
  count-map test [] = refl
  count-map test (x ∷ xs) =
      sum_by-cons (λ y. cond (test y) 1 0) (f x) (map f xs) ∙ ap (λ n. cond (test (f x)) 1 0 + n) (count-map test xs)
      ∙ sym (sum_by-cons (λ z. cond (test (f z)) 1 0) x xs)

  -- a map keeps the length
  pub length-of_map : (xs : List X) → length (map f xs) ≡ length xs
  length-of_map [] = refl
  length-of_map (x ∷ xs) = ap suc (length-of_map xs)

  -- a change goes through a map, where it does at each value that is changed
  pub changed-map : (hit : X → Bool) (also : Y → Bool) (change : X → X) (other : Y → Y)
      → ((x : X) → also (f x) ≡ hit x) → (xs : List X)
      → AllByRecursion (λ x. hit x ≡ true → f (change x) ≡ other (f x)) xs
      → map f (map (λ x. cond (hit x) (change x) x) xs) ≡ map (λ y. cond (also y) (other y) y) (map f xs)
  changed-map hit also change other same [] goes = refl
  changed-map hit also change other same (x ∷ xs) goes =
      search (rules, changed-map hit also change other same xs goes.1, change x)

module _ (log : ℕ → Option (List ℕ)) where
  -- the first number in a phase
  first_shown : (test : Phase → Bool) (bios : List (BioOf Held)) → first_in test (shown_bios log bios)
      ≡ first_in test bios
  first_shown test bios = search (rules, find-map (λ (x : Bio). test x.phase) (shown_bio log) bios)

  -- a change of the bio of a number
  pub change_shown : (b : ℕ) (f : BioOf Held → BioOf Held) (g : Bio → Bio)
      → ((x : BioOf Held) → shown_bio log (f x) ≡ g (shown_bio log x))
      → (bios : List (BioOf Held)) → shown_bios log (change_number b f bios) ≡ change_number b g (shown_bios log bios)
  change_shown b f g goes bios =
      changed-map (shown_bio log) (λ x. x.number == b) (λ x. x.number == b) f g (λ x. refl) bios
      (of_each _ (λ x e. goes x) bios)

  pub shown_are_found : (bios : List (BioOf Held)) → ShownAreFound log bios
  shown_are_found bios = record {
    finds = λ test. find-map test (shown_bio log) bios;
    filters = λ test. filter-map test (shown_bio log) bios;
    counts = λ test. count-map (shown_bio log) test bios;
    any = λ test. any-map test (shown_bio log) bios;
    all = λ test. list_all-map test (shown_bio log) bios;
    len = length-of_map (shown_bio log) bios;
    first = λ test. first_shown test bios;
    count = λ test. count-map (shown_bio log) (λ x. test x.phase) bios;
  }

  pub shown_change : (bios : List (BioOf Held)) → ShownChanges log bios
  shown_change bios = search (rules, map-append (shown_bio log) bios, change_shown)
