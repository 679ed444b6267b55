-- The world once some disks stand: a DISK geom for each, with one provider, which is offered for taste; and that the
-- disks of a plan differ.
use Rattle.std.specs.Prelude.{◌≡◌, ℕ, ◌+◌, ◌*◌, false, not, List, [], ◌∷◌, ◌++◌, length, fold, filter, zip, ◌<◌, suc, ◌≢◌, ◌⊎◌, ◌≤◌, Bool, map, Some, AllPairs, slice_get}
use Rattle.std.specs.List.{enumerate_from, AllByRecursion, AllZip}
use Rattle.std.proofs.Common.{◌∙◌, arith, append_assoc, inl, inr, ap}
use Rattle.std.proofs.lemmas.List.{append-nil}
use Rattle.geo_model.specs.Kind.TheVariants as kinds
use Rattle.geo_model.specs.declared.command.DiskDecl.{DiskDecl}
use Rattle.geo_model.specs.declared.step.Event.{Event}
use Rattle.geo_model.specs.declared.step.Event.TheVariants as events
use Rattle.geo_model.specs.Topology.{Geom, Provider}
use Rattle.geo_model.specs.World.{World, Config, Disk, Plan, HeaderDisk}
use Rattle.geo_model.specs.GeomCommands.{stand}
use Rattle.geo_model.specs.Opening.{disk_in_size, bare_world, opening}
use Rattle.std.proofs.lemmas.List.Elements.{recursion_from_All, All-from_recursion}
use Rattle.std.proofs.lemmas.List.Kept.{AllPairs-cons, AllPairs-filter}
use Rattle.std.proofs.Math.Nat.{mul-mod_right}
use Rattle.geo_model.proofs.AllLists.{pairs_head, pairs_tail}
use Rattle.geo_model.specs.TheConstants.{MAX_IMAGE_BYTES}
use Rattle.geo_model.specs.Plans.{MayBegin, FactsFit, IsFact, IsDiskDecl, Differ}
use Rattle.geo_model.specs.Sound.{IsMediaSize}
use Rattle.geo_model.proofs.DemandLemmas.{kept_by}

-- nothing stands at a place of an empty list
pub nowhere : {A : Type 0} (k : ℕ) → k < 0 → A
nowhere k less = absurd (omega (arith, less))

-- a disk that stands: its number in the header, what the header says of it, its sector size and its sectors
abbrev pub Stander : Type 0
Stander = ℕ × (DiskDecl × (ℕ × ℕ))

-- the geom and the provider of a disk
abbrev pub disk_geom : ℕ → Stander → Geom Config
disk_geom n x = record {
  number = n;
  kind = kinds.Disk;
  name = x.1.0.name;
  config = Disk x.0;
  automatic = false;
  withering = false;
  started = 0;
}

-- the provider of a disk, of its geom and with its sizes
abbrev pub disk_provider : ℕ → ℕ → Stander → Provider
disk_provider n g x = record {
  number = n;
  geom = g;
  name = x.1.0.name;
  size = x.1.1.0 * x.1.1.1;
  sector = x.1.1.0;
  errored = false;
}

-- the geoms and providers of disks, from a number on, and their offers
abbrev pub disk_geoms : ℕ → List Stander → List (Geom Config)
disk_geoms n [] = []
disk_geoms n (x ∷ xs) = disk_geom n x ∷ disk_geoms (n + 1) xs

-- their providers, from a number on, of geoms from another number on
abbrev pub disk_providers : ℕ → ℕ → List Stander → List Provider
disk_providers n g [] = []
disk_providers n g (x ∷ xs) = disk_provider n g x ∷ disk_providers (n + 1) (g + 1) xs

-- and the events that offer these providers for taste
abbrev pub disk_offers : ℕ → List Stander → List Event
disk_offers n [] = []
disk_offers n (x ∷ xs) = events.NewProvider n ∷ disk_offers (n + 1) xs

-- a world with other lists of its graph and its queue
abbrev with_lists : World → List (Geom Config) → List Provider → ℕ → ℕ → List Event → World
with_lists w geoms providers next_geom next_provider queue = record w {
  topology = record w.topology {
    geoms = geoms;
    providers = providers;
    next_geom = next_geom;
    next_provider = next_provider;
  };
  events = queue;
}

-- the world in which these disks stand too
abbrev pub stood : World → List Stander → World
stood w xs =
    with_lists w
    (w.topology.geoms ++ disk_geoms w.topology.next_geom xs)
    (w.topology.providers ++ disk_providers w.topology.next_provider w.topology.next_geom xs)
    (w.topology.next_geom + length xs)
    (w.topology.next_provider + length xs)
    (w.events ++ disk_offers w.topology.next_provider xs)

-- a number on the way
one_more : (n k : ℕ) → n + 1 + k ≡ n + suc k
one_more n k = omega arith

-- nothing more
add_none : (n : ℕ) → n + 0 ≡ n
add_none n = omega arith

-- disks that are set up one after another make the world in which they all stand
pub stand-all : (xs : List Stander) (w : World)
    → fold (λ v item. stand v (item.0, disk_in_size item.1)) w xs ≡ stood w xs
stand-all [] w = simp (append-nil, add_none)
stand-all (x ∷ xs) w = stand-all xs (stand w (x.0, disk_in_size x.1)) ∙ simp (append_assoc, one_more)

-- the disks of a plan that stand at its opening, in header order
abbrev pub standers : Plan → List (ℕ × ℕ) → List Stander
standers plan facts = filter (λ item. not item.1.0.later) (enumerate_from 0 (zip plan.disks facts))

-- the opening of a plan is the bare world in which its disks stand
pub opening-stood : (plan : Plan) (facts : List (ℕ × ℕ))
    → opening plan facts ≡ stood (bare_world plan facts) (standers plan facts)
unfolding opening
opening-stood plan facts = stand-all (standers plan facts) (bare_world plan facts)

-- What holds of the disks of a plan that stand at its opening.

-- a fact of each item and each later one, by recursion
abbrev pub PairsByRecursion : {X : Type 0} → (X → X → Type 0) → List X → Type 0
PairsByRecursion R [] = Unit {0}
PairsByRecursion R (x ∷ xs) = AllByRecursion (R x) xs × PairsByRecursion R xs

-- what holds so holds of any two in their order
pub pairs-from_recursion : {X : Type 0} (R : X → X → Type 0) (xs : List X) → PairsByRecursion R xs → AllPairs R xs
pairs-from_recursion R [] facts = λ i j d less short. absurd (omega (arith, short))
pairs-from_recursion R (x ∷ xs) facts =
    AllPairs-cons R x xs (All-from_recursion (R x) xs facts.0) (pairs-from_recursion R xs facts.1)

-- so what holds of any two in their order holds by recursion
pub recursion-from_pairs : {X : Type 0} (R : X → X → Type 0) (xs : List X) → AllPairs R xs → PairsByRecursion R xs
recursion-from_pairs R [] facts = tt
recursion-from_pairs R (x ∷ xs) facts =
    (recursion_from_All (R x) xs (pairs_head R x xs facts), recursion-from_pairs R xs (pairs_tail R x xs facts))

-- what holds of any two holds of any two that a filter keeps
kept_pairs : {X : Type 0} (R : X → X → Type 0) (test : X → Bool) (xs : List X) → PairsByRecursion R xs
    → PairsByRecursion R (filter test xs)
kept_pairs R test xs facts =
    recursion-from_pairs R (filter test xs) (AllPairs-filter R test xs (pairs-from_recursion R xs facts))

-- what a disk that stands has: its place in the header, and the sizes of the media
pub record IsStander (disks : List HeaderDisk) (x : Stander) : Type 0 where
  pub at : slice_get disks x.0 ≡ Some (disk_in_size x.1)
  pub size : IsMediaSize (x.1.1.0 * x.1.1.1) x.1.1.0

-- no two are one disk, or of one name
pub record AreApart (x y : Stander) : Type 0 where
  pub disks : x.0 ≢ y.0
  pub names : Differ x.1.0.name y.1.0.name

-- the sizes that a plan and its facts give
pub sizes_of : (d : DiskDecl) (fact : ℕ × ℕ) → IsDiskDecl d → IsFact d fact → IsMediaSize (fact.0 * fact.1) fact.0
sizes_of d fact decl is = media fact.0 fact.1 (rw is.sector decl.sector) is.some is.limited where
  -- some sectors have some bytes
  some_sector : (sector sectors : ℕ) → (sector ≡ 512) ⊎ (sector ≡ 4096) → 1 ≤ sectors → 1 ≤ sector * sectors
  some_sector sector sectors (inl e) some = rw e (omega arith)
  some_sector sector sectors (inr e) some = rw e (omega arith)

  -- some whole sectors within the limit are a size of media
  media : (sector sectors : ℕ) → (sector ≡ 512) ⊎ (sector ≡ 4096) → 1 ≤ sectors → sectors * sector ≤ MAX_IMAGE_BYTES
      → IsMediaSize (sector * sectors) sector
  media sector sectors of some limited = record {
    positive = some_sector sector sectors of some;
    whole = mul-mod_right sector sectors;
    limited = omega arith;
  }

-- so all disks of a header have sizes of media
sizes_all : (ds : List DiskDecl) (facts : List (ℕ × ℕ)) → AllByRecursion IsDiskDecl ds → AllZip IsFact ds facts
    → AllByRecursion (λ (z : DiskDecl × (ℕ × ℕ)). IsMediaSize (z.1.0 * z.1.1) z.1.0) (zip ds facts)
sizes_all [] facts decls fits = tt
sizes_all (d ∷ ds) [] decls fits = tt
sizes_all (d ∷ ds) (fact ∷ facts) decls fits = (sizes_of d fact decls.0 fits.0, sizes_all ds facts decls.1 fits.1)

-- a name other than those of disks is other than theirs where their facts stand beside them
names_beside : (name : List ℕ) (ds : List DiskDecl) (facts : List (ℕ × ℕ))
    → AllByRecursion (Differ name) (map (λ d. d.name) ds)
    → AllByRecursion (λ (z : DiskDecl × (ℕ × ℕ)). Differ name z.0.name) (zip ds facts)
names_beside name [] facts apart = tt
names_beside name (d ∷ ds) [] apart = tt
names_beside name (d ∷ ds) (fact ∷ facts) apart = (apart.0, names_beside name ds facts apart.1)

-- so the names of disks differ where the facts stand beside the disks
names_all : (ds : List DiskDecl) (facts : List (ℕ × ℕ)) → PairsByRecursion Differ (map (λ d. d.name) ds)
    → PairsByRecursion (λ (y z : DiskDecl × (ℕ × ℕ)). Differ y.0.name z.0.name) (zip ds facts)
names_all [] facts apart = tt
names_all (d ∷ ds) [] apart = tt
names_all (d ∷ ds) (fact ∷ facts) apart = (names_beside d.name ds facts apart.0, names_all ds facts apart.1)

module _ (disks : List HeaderDisk) where
  -- disks numbered from a number on are at those places in the header, with sizes of media
  places : (n : ℕ) (zs : List (DiskDecl × (ℕ × ℕ)))
      → ((i : ℕ) → slice_get disks (n + i) ≡ slice_get (map disk_in_size zs) i)
      → AllByRecursion (λ (z : DiskDecl × (ℕ × ℕ)). IsMediaSize (z.1.0 * z.1.1) z.1.0) zs
      → AllByRecursion (IsStander disks) (enumerate_from n zs)
  places n [] at sizes = tt
  places n (z ∷ zs) at sizes =
      let e : n + 0 ≡ n = omega arith in
      let here : slice_get disks n ≡ Some (disk_in_size z) = rw e at (at 0) in (
        record { at = here; size = sizes.0 },
        places (n + 1) zs (λ i. let f : n + 1 + i ≡ n + suc i = omega arith in ap (slice_get disks) f
            ∙ at (suc i)) sizes.1,
      )

-- a disk of a lower number and another name is apart from each of the later ones
apart_from : (m n : ℕ) (z : DiskDecl × (ℕ × ℕ)) (zs : List (DiskDecl × (ℕ × ℕ))) → m < n
    → AllByRecursion (λ (y : DiskDecl × (ℕ × ℕ)). Differ z.0.name y.0.name) zs
    → AllByRecursion (AreApart (m, z)) (enumerate_from n zs)
apart_from m n z [] less apart = tt
apart_from m n z (y ∷ zs) less apart =
    (record { disks = λ same. omega (arith, same); names = apart.0 }, apart_from m (n + 1) z zs (omega arith) apart.1)

-- so disks of different names, counted from a number on, are apart
apart_all : (n : ℕ) (zs : List (DiskDecl × (ℕ × ℕ)))
    → PairsByRecursion (λ (y z : DiskDecl × (ℕ × ℕ)). Differ y.0.name z.0.name) zs
    → PairsByRecursion AreApart (enumerate_from n zs)
apart_all n [] apart = tt
apart_all n (z ∷ zs) apart = (apart_from n (n + 1) z zs (omega arith) apart.0, apart_all (n + 1) zs apart.1)

module _ (plan : Plan) (facts : List (ℕ × ℕ)) (is : MayBegin plan) (fits : FactsFit plan facts) where
  -- the disks of a plan that stand have their places in the header and sizes of media
  pub standers-stand : AllByRecursion (IsStander (map disk_in_size (zip plan.disks facts))) (standers plan facts)
  standers-stand =
      kept_by (IsStander (map disk_in_size (zip plan.disks facts)))
      (IsStander (map disk_in_size (zip plan.disks facts))) (λ item. not item.1.0.later) (λ x e fact. fact)
      (enumerate_from 0 (zip plan.disks facts))
      (places (map disk_in_size (zip plan.disks facts)) 0 (zip plan.disks facts)
      (λ i. let e : 0 + i ≡ i = omega arith in ap (slice_get (map disk_in_size (zip plan.disks facts))) e)
      (sizes_all plan.disks facts (recursion_from_All IsDiskDecl plan.disks is.disks) fits))

  -- and no two of them are one disk, or of one name
  pub standers-apart : PairsByRecursion AreApart (standers plan facts)
  standers-apart =
      kept_pairs AreApart (λ item. not item.1.0.later) (enumerate_from 0 (zip plan.disks facts))
      (apart_all 0 (zip plan.disks facts)
      (names_all plan.disks facts (recursion-from_pairs Differ (map (λ d. d.name) plan.disks) is.disk_names)))
