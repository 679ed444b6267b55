-- Places that bios name stay in the log.
use Rattle.std.proofs.Common.{◌≡◌, ℕ, ◌+◌, ◌<◌, ◌==◌, List, [], ◌∷◌, ◌++◌, length, filter, not, Bool, true, false, Option, Some, None, refl, cond, rules}
use Rattle.std.specs.List.{AllByRecursion}
use Rattle.std.specs.Option.{option_map_or}
use Rattle.std.proofs.lemmas.List.Elements.{All-append, All-filter, All-from_recursion, recursion_from_All}
use Rattle.geo_base.specs.declared.request.BioCmd.{BioCmd}
use Rattle.geo_base.specs.declared.errno.Errno.{Errno}
use Rattle.geo_model.specs.declared.span.Piece.{Piece}
use Rattle.geo_model.specs.declared.step.BioResult.{BioResult}
use Rattle.geo_model.specs.declared.step.BioResult.TheVariants as results
use Rattle.geo_model.specs.declared.step.Entry.{Entry}
use Rattle.geo_model.specs.declared.step.Owner.{Owner}
use Rattle.geo_model.specs.declared.step.Owner.TheVariants as owners
use Rattle.geo_model.specs.declared.step.Phase.TheVariants as phases
use Rattle.geo_model.specs.World.{BioOf, change_number, is_child_of, bio_among}
use Rattle.geo_model.specs.Bios.{up_with}
use Rattle.geo_bio.specs.declared.bio.Held.{Held}
use Rattle.geo_bio.specs.declared.bio.Held.TheVariants as held
use Rattle.geo_bio.specs.BioTable.{with_phase, delivered_result}
use Rattle.geo_bio.specs.Split.{split_into}
use Rattle.geo_bio.specs.Up.{held_as, gathered, are_in, completed, after_up}
use Rattle.geo_laws_graph.proofs.Lists.{all-changed}
use Rattle.geo_log.specs.Places.{delivered_at}
use Rattle.geo_log.proofs.PlaceLemmas.{places_stay}
use Rattle.geo_state.specs.Shown.{shown_bios, shown_bio, IsBelow, AreLogged}
use Rattle.geo_state.specs.ShownLaws.{GrownLogShowsTheSame, LoggedStay, PlacesStayLogged}

-- A log that grows

-- the result of a bio whose place is in the log
same_result : (entries more : List Entry) (x : BioOf Held) (o : Option Held) → IsBelow (length entries) o
    → shown_bio (delivered_at (entries ++ more)) (record x { result = o })
    ≡ shown_bio (delivered_at entries) (record x { result = o })
same_result entries more x None below = refl
same_result entries more x (Some held.Done) below = refl
same_result entries more x (Some (held.Bytes bytes)) below = refl
same_result entries more x (Some (held.Failed errno)) below = refl
same_result entries more x (Some (held.AtPlace place)) below = search (rules, places_stay entries more place below)

-- so for all
same_results : (entries more : List Entry) (bios : List (BioOf Held))
    → AllByRecursion (λ x. IsBelow (length entries) x.result) bios
    → shown_bios (delivered_at (entries ++ more)) bios ≡ shown_bios (delivered_at entries) bios
same_results entries more [] below = refl
same_results entries more (x ∷ xs) below =
    (λ i. same_result entries more x x.result below.0 i ∷ same_results entries more xs below.1 i)

pub grown_log_shows_the_same : GrownLogShowsTheSame
grown_log_shows_the_same entries more bios logged =
    same_results entries more bios (recursion_from_All _ bios logged)

-- What each call leaves

-- a result that is held names no place
held_below : (places : ℕ) (r : BioResult) → IsBelow places (Some (held_as r))
held_below places results.Done = tt
held_below places (results.Bytes bytes) = tt
held_below places (results.Failed errno) = tt

-- what is delivered names at most its own place
delivered_below : (places place : ℕ) (cmd : BioCmd) (errno : Option Errno) → place < places
    → IsBelow places (Some (delivered_result cmd place errno))
delivered_below places place cmd (Some errno) less = tt
delivered_below places place cmd None less = search rules

module _ (places : ℕ) where
  -- the place of a bio is in the log
  abbrev Fits : BioOf Held → Type 0
  Fits x = IsBelow places x.result

  -- a change that leaves a bio's place in the log
  change_logged : (b : ℕ) (f : BioOf Held → BioOf Held)
      → ((x : BioOf Held) → IsBelow places x.result → IsBelow places (f x).result) → (bios : List (BioOf Held))
      → AreLogged places bios → AreLogged places (change_number b f bios)
  change_logged b f goes bios logged =
      All-from_recursion Fits (change_number b f bios)
      (all-changed (λ (x : BioOf Held). x.number == b) f Fits (λ x e below. goes x below) bios
      (recursion_from_All Fits bios logged))

  -- children name no place
  split_logged : (first : ℕ) (x : BioOf Held) (k : ℕ) (pieces : List Piece) (targets : List (ℕ × ℕ))
      → AllByRecursion (λ y. IsBelow places y.result) (split_into first x k pieces targets)
  split_logged first x k [] targets = tt
  split_logged first x k (piece ∷ pieces) [] = tt
  split_logged first x k (piece ∷ pieces) (target ∷ targets) = (tt, split_logged first x (k + 1) pieces targets)

  -- a parent that is complete
  completed_logged : (log : ℕ → Option (List ℕ)) (bios : List (BioOf Held)) (p : ℕ) → AreLogged places bios
      → AreLogged places (completed log bios p)
  completed_logged log bios p logged = at (bio_among bios p) where
    at : (o : Option (BioOf Held))
        → AreLogged places (option_map_or
        (λ x. filter (λ y. not (is_child_of y.owner p)) (change_number p (up_with (gathered log bios x)) bios)) o bios)
    at None = logged
    at (Some x) =
        All-filter (λ (y : BioOf Held). not (is_child_of y.owner p)) Fits
        (change_number p (up_with (gathered log bios x)) bios)
        (change_logged p (up_with (gathered log bios x)) (λ y below. held_below places _) bios logged)

  -- a parent whose children may all be in
  done_logged : (log : ℕ → Option (List ℕ)) (bios : List (BioOf Held)) (p : ℕ) → AreLogged places bios → (b : Bool)
      → AreLogged places (cond b (completed log bios p) bios)
  done_logged log bios p logged true = completed_logged log bios p logged
  done_logged log bios p logged false = logged

  module _ (bios : List (BioOf Held)) (logged : AreLogged places bios) where
    -- after a bio went up
    up_logged : (log : ℕ → Option (List ℕ)) (x : BioOf Held) (owner : Owner)
        → AreLogged places (after_up log bios x owner)
    up_logged log x (owners.Line handle line) =
        All-filter (λ (y : BioOf Held). not (y.number == x.number)) Fits bios logged
    up_logged log x owners.Taste = All-filter (λ (y : BioOf Held). not (y.number == x.number)) Fits bios logged
    up_logged log x (owners.Child parent index) =
        done_logged log (change_number x.number (with_phase phases.Done) bios) parent
        (change_logged x.number (with_phase phases.Done) (λ y below. below) bios logged)
        (are_in (change_number x.number (with_phase phases.Done) bios) parent)

    -- the bios with one that waits
    abbrev split : ℕ → List (BioOf Held)
    split b = change_number b (with_phase phases.Waiting) bios

    logged_stay : LoggedStay places bios
    logged_stay = record {
      more =
          search rules;
      submits =
          search (rules, All-append Fits bios);
      bounces = λ b e. change_logged b (up_with (held.Failed e)) (λ y below. tt) bios logged;
      moves = λ b phase. change_logged b (with_phase phase) (λ y below. below) bios logged;
      splits =
          search (rules, All-append Fits, change_logged, All-from_recursion Fits, split_logged);
      delivers =
          search (rules, change_logged, delivered_below places);
      ends = λ b r. change_logged b (up_with (held_as r)) (λ y below. held_below places r) bios logged;
      rises = up_logged;
    }

pub places_stay_logged : PlacesStayLogged
places_stay_logged places bios logged = logged_stay places bios logged
