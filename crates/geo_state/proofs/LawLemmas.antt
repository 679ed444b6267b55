-- What is kept beside the parts follows each change of a part.
use Rattle.std.specs.Prelude.{◌≡◌, ℕ, ◌==◌, false, not, ◌&&◌, List, [], ◌∷◌, map, filter, slice_get}
use Rattle.std.specs.Option.{option_map, option_map_or}
use Rattle.std.proofs.Common.{refl, sym, ◌∙◌, ap, rules}
use Rattle.std.proofs.lemmas.List.{map-append}
use Rattle.geo_base.proofs.AllLists.{all_weaker, of_each}
use Rattle.geo_base.proofs.Options.{if_some_weaker}
use Rattle.geo_base.proofs.FindLists.{find_agree}
use Rattle.geo_base.specs.declared.request.Counts.{Counts}
use Rattle.geo_model.specs.Topology.{Topology, Consumer}
use Rattle.geo_model.specs.World.{Config}
use Rattle.geo_model.specs.Bios.{disk_at}
use Rattle.geo_model.specs.Events.{QueuedTopology}
use Rattle.geo_slots.specs.Slots.{without}
use Rattle.geo_mesh.specs.Topo.{TopoView}
use Rattle.geo_state.specs.declared.state.DiskSeat.{DiskSeat}
use Rattle.geo_state.specs.Trips.{Trip, trips, out_through, is_at_disk, busy_at}
use Rattle.geo_state.specs.Parts.{SameParts, DisksStay}
use Rattle.geo_state.specs.Holds.{AreSeats, IsSeat}
use Rattle.geo_state.specs.Laws.{EffectsKeepParts, HoldsAfterEffects, FieldsFollow}
use Rattle.geo_state.proofs.Frames.{parts-geom, parts-disk, parts-count, parts-risen, parts-fallen, parts-spoil_at, parts-offer_again, parts-wither, parts-unless, parts-spoil, parts-orphan, parts-resize}
use Rattle.std.specs.List.{AllByRecursion}

pub effects_keep_parts : (granted : ℕ → Counts) (q : QueuedTopology Config) → EffectsKeepParts granted q
effects_keep_parts granted q = record {
  risen = λ ps. parts-risen granted ps q;
  fallen = λ ps. parts-fallen ps q;
  spoiled_at = λ p. parts-spoil_at granted q p;
  offered = λ p. parts-offer_again q p;
  withered = λ g. parts-wither q g;
  unless = λ g. parts-unless q g;
  spoiled = λ p. parts-spoil q p;
  orphaned = λ p. parts-orphan q p;
  resized = λ p. parts-resize granted q p;
}

-- a number with how many are out through its consumer
abbrev pub row_out : List Trip → ℕ → ℕ × ℕ
row_out xs n = (n, out_through xs n)

-- rows are those of the numbers
pub rows_out : (xs : List Trip) (cs : List Consumer)
    → map (λ (c : Consumer). let row : ℕ × ℕ = (c.number, out_through xs c.number) in row) cs
    ≡ map (row_out xs) (map (λ (c : Consumer). c.number) cs)
rows_out xs [] = refl
rows_out xs (c ∷ cs) = ap (λ rows. row_out xs c.number ∷ rows) (rows_out xs cs)

-- each request on its way goes to the disk to which it went
abbrev pub TargetsStay : Topology Config → Topology Config → List Trip → Type 0
TargetsStay t u xs = AllByRecursion (λ (x : Trip). disk_at u x.target ≡ disk_at t x.target) xs

pub busy-stays : (t u : Topology Config) (xs : List Trip) → TargetsStay t u xs → (disk : ℕ)
    → busy_at u xs disk ≡ busy_at t xs disk
busy-stays t u xs stay disk =
    ap (option_map (λ (x : Trip). x.number))
    (find_agree (is_at_disk u disk) (is_at_disk t disk) xs
    (all_weaker (λ (x : Trip). disk_at u x.target ≡ disk_at t x.target)
    (λ x. is_at_disk u disk x ≡ is_at_disk t disk x)
    (λ x e. ap (λ o. x.busy && option_map_or (λ d. d == disk) o false) e) xs stay))

-- the seats stay where the disks do
pub seats-stay : (seats : List DiskSeat) (t u : Topology Config) (xs : List Trip) → DisksStay t u xs
    → AreSeats seats t xs → AreSeats seats u xs
seats-stay seats t u xs stay are disk =
    if_some_weaker (λ (seat : DiskSeat). IsSeat t xs disk seat.geom seat.busy)
    (λ (seat : DiskSeat). IsSeat u xs disk seat.geom seat.busy)
    (λ seat is. record {
      geom_is = is.geom_is ∙ sym (stay.geoms disk);
      busy_is = is.busy_is ∙ sym (busy-stays t u xs stay.targets disk);
    }) (slice_get seats disk) (are disk)

-- where the parts are the same the disks stay
pub parts-stay : (t u : Topology Config) (xs : List Trip) → SameParts t u → DisksStay t u xs
parts-stay t u xs same = record {
  geoms = parts-geom t u same;
  targets = of_each (λ (x : Trip). disk_at u x.target ≡ disk_at t x.target) (λ x. parts-disk t u same x.target) xs;
}

pub holds_after_effects : HoldsAfterEffects
holds_after_effects s u q h same active granted counted quiet room =
    let xs : List Trip = trips s.traffic.bios in
    record {
      counted = counted;
      quiet = quiet;
      numbers = h.numbers;
      grants = (λ i c. granted c i) ∙ h.grants;
      active =
          search (rules, rows_out xs s.topo.topology.consumers, rows_out xs u.topology.consumers);
      ready = h.ready;
      own = h.own;
      read = h.read;
      seats =
          seats-stay s.disks.items s.topo.topology u.topology xs (parts-stay s.topo.topology u.topology xs same)
          h.seats;
      providers = h.providers ∙ sym (parts-count s.topo.topology u.topology same);
      room = room;
    }

-- rows without a number are those of the others
rows_without : (xs : List Trip) (c : ℕ) (cs : List Consumer)
    → without (map (λ (x : Consumer). let row : ℕ × ℕ = (x.number, out_through xs x.number) in row) cs) c
    ≡ map (λ (x : Consumer). let row : ℕ × ℕ = (x.number, out_through xs x.number) in row)
    (filter (λ (x : Consumer). not (x.number == c)) cs)
rows_without xs c [] = refl
rows_without xs c (y ∷ ys) = search (rules, rows_without xs c ys)

pub fields_follow : (t u : TopoView Config) (xs : List Trip) → FieldsFollow t u xs
fields_follow t u xs =
    search (
      rules,
      rows_out xs t.topology.consumers,
      map-append (row_out xs),
      rows_out xs u.topology.consumers,
      rows_without xs,
      seats-stay,
    )
