-- What the parts of the mesh read of the requests on their way (g_bio(9)): not what they hold, but from where to where
-- they go, whose they are, and whether they are at their disk or have come back.
use Rattle.std.specs.Prelude.{◌≡◌, ℕ, ◌==◌, ◌≤◌, Bool, true, false, not, ◌&&◌, List, Option, map, find, count_by}
use Rattle.std.specs.List.{AllByRecursion}
use Rattle.std.specs.Option.{option_map, option_map_or}
use Rattle.geo_model.specs.declared.step.Owner.{Owner}
use Rattle.geo_model.specs.Topology.{Topology}
use Rattle.geo_model.specs.World.{BioOf, Config, Handle, is_busy, is_done, is_of_handle, is_taste_root}
use Rattle.geo_model.specs.Bios.{disk_at}

-- a request on its way
pub record Trip : Type 0 where
  pub number : ℕ
  pub source : ℕ
  pub target : ℕ
  pub owner : Owner
  pub done : Bool
  pub busy : Bool

abbrev pub trip_of : {R : Type 0} → BioOf R → Trip
trip_of x = record {
  number = x.number;
  source = x.source;
  target = x.target;
  owner = x.owner;
  done = is_done x.phase;
  busy = is_busy x.phase;
}

abbrev pub trips : {R : Type 0} → List (BioOf R) → List Trip
trips bios = map trip_of bios

-- whether it is out through the consumer: it was made through it, and hasn't come back
abbrev pub is_out : ℕ → Trip → Bool
is_out c x = (x.source == c) && not x.done

-- how many are
abbrev pub out_through : List Trip → ℕ → ℕ
out_through xs c = count_by (is_out c) xs

-- whether the handle can be reaped: it is dead, and has a consumer through which nothing is out
abbrev pub can_be_reaped : List Trip → Handle → Bool
can_be_reaped xs h = h.dead && option_map_or (λ c. out_through xs c == 0) h.consumer false

-- the number of the first that was made for the taste
abbrev pub taste_read : List Trip → Option ℕ
taste_read xs = option_map (λ x. x.number) (find (λ x. is_taste_root x.owner) xs)

-- whether it is at the disk
abbrev pub is_at_disk : Topology Config → ℕ → Trip → Bool
is_at_disk t disk x = x.busy && option_map_or (λ d. d == disk) (disk_at t x.target) false

-- the number of the one at the disk
abbrev pub busy_at : Topology Config → List Trip → ℕ → Option ℕ
busy_at t xs disk = option_map (λ x. x.number) (find (is_at_disk t disk) xs)

-- the handle through which it was asked for, if it is of a line
abbrev pub handle_of_owner : List Handle → Owner → Option Handle
handle_of_owner handles o = find (λ h. is_of_handle o h.number) handles

-- whether it is of a line of the actor
abbrev pub is_own : List Handle → ℕ → Trip → Bool
is_own handles actor x = option_map_or (λ h. h.actor == actor) (handle_of_owner handles x.owner) false

-- the number of the first that is
abbrev pub own_first : List Handle → List Trip → ℕ → Option ℕ
own_first handles xs actor = option_map (λ x. x.number) (find (is_own handles actor) xs)

-- what is kept of an actor's own requests: how many are out, and a number below which there is none
pub record IsOwnCount (handles : List Handle) (xs : List Trip) (actor count low : ℕ) : Type 0 where
  pub count_is : count ≡ count_by (is_own handles actor) xs
  pub low_is : AllByRecursion (λ x. is_own handles actor x ≡ true → low ≤ x.number) xs
