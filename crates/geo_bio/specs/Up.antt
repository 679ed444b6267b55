-- What becomes of a bio that goes up.
use Rattle.std.specs.Prelude.{ℕ, ◌==◌, Bool, not, List, [], Option, Some, None, map, filter, unwrap_or, if◌then◌else◌}
use Rattle.std.specs.List.{list_all}
use Rattle.std.specs.Option.{option_map_or}
use Rattle.geo_model.specs.declared.step.BioResult.{BioResult}
use Rattle.geo_model.specs.declared.step.BioResult.TheVariants as results
use Rattle.geo_model.specs.declared.step.Owner.{Owner}
use Rattle.geo_model.specs.declared.step.Owner.TheVariants as owners
use Rattle.geo_model.specs.declared.step.Phase.TheVariants as phases
use Rattle.geo_model.specs.World.{BioOf, is_done, is_child_of, children_among, change_number, bio_among}
use Rattle.geo_model.specs.Bios.{up_with, joined_result}
use Rattle.geo_bio.specs.declared.bio.Held.{Held}
use Rattle.geo_bio.specs.declared.bio.Held.TheVariants as held
use Rattle.geo_bio.specs.declared.bio.Risen.{Risen}
use Rattle.geo_bio.specs.declared.bio.Risen.TheVariants as risen
use Rattle.geo_bio.specs.BioTable.{with_phase}

-- what a bio holds as a result, where `log` tells the bytes of a place
abbrev pub resolved : (ℕ → Option (List ℕ)) → Option Held → BioResult
resolved log None = results.Done
resolved log (Some held.Done) = results.Done
resolved log (Some (held.Bytes bytes)) = results.Bytes bytes
resolved log (Some (held.AtPlace place)) = results.Bytes (unwrap_or (log place) [])
resolved log (Some (held.Failed errno)) = results.Failed errno

-- a result as a bio holds it
abbrev pub held_as : BioResult → Held
held_as results.Done = held.Done
held_as (results.Bytes bytes) = held.Bytes bytes
held_as (results.Failed errno) = held.Failed errno

-- the result of a bio from those of its children, in the order of its pieces: the first error, else the bytes joined
abbrev pub gathered : (ℕ → Option (List ℕ)) → List (BioOf Held) → BioOf Held → Held
gathered log bios parent =
    held_as (joined_result parent.cmd (map (λ x. resolved log x.result) (children_among bios parent.number)))

-- whether each child of a bio is Done
abbrev pub are_in : List (BioOf Held) → ℕ → Bool
are_in bios parent = list_all (λ x. is_done x.phase) (children_among bios parent)

-- the parent goes up with its result, and its children are gone
abbrev pub completed : (ℕ → Option (List ℕ)) → List (BioOf Held) → ℕ → List (BioOf Held)
completed log bios parent =
    option_map_or
    (λ x. filter (λ y. not (is_child_of y.owner parent)) (change_number parent (up_with (gathered log bios x)) bios))
    (bio_among bios parent)
    bios

-- the bios after a bio went up to its owner: a child is Done, and the last one completes its parent; a root is gone
abbrev pub after_up : (ℕ → Option (List ℕ)) → List (BioOf Held) → BioOf Held → Owner → List (BioOf Held)
after_up log bios x (owners.Child parent index) =
    let with_child : List (BioOf Held) = change_number x.number (with_phase phases.Done) bios in
    if are_in with_child parent then completed log with_child parent else with_child
after_up log bios x _ = filter (λ y. not (y.number == x.number)) bios

-- what is told of it
abbrev pub told_of_up : (ℕ → Option (List ℕ)) → List (BioOf Held) → BioOf Held → Owner → Risen
told_of_up log bios x (owners.Child parent index) =
    risen.InParent parent (are_in (change_number x.number (with_phase phases.Done) bios) parent)
told_of_up log bios x _ = risen.Root (resolved log x.result)
