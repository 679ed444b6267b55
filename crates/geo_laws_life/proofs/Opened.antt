-- The opened world is sound, steady and fitting.
use Rattle.std.specs.Prelude.{◌≡◌, ℕ, ◌+◌, ◌<◌, ◌≤◌, ◌==◌, false, ◌&&◌, List, [], ◌∷◌, length, map, filter, Some, None, Contains, slice_get, ◌⊎◌, nat_le, true, zip, All, IsSome, IsTrue, ◌≢◌, zero, suc}
use Rattle.std.specs.List.{AllByRecursion, list_any, AllZip, range_with_len}
use Rattle.std.proofs.Common.{refl, sym, ◌∙◌, arith, inl, ap, subst, inr}
use Rattle.std.proofs.lemmas.Bool.{ne_eqb, and_right, eqb-true}
use Rattle.std.proofs.lemmas.List.Elements.{All-from_recursion, recursion_from_All}
use Rattle.std.proofs.lemmas.List.Sums.{list_all-from_AllPass}
use Rattle.geo_model.specs.Kind.TheVariants as kinds
use Rattle.geo_model.proofs.Tests.{from_false_true}
use Rattle.geo_model.specs.declared.step.Event.{Event}
use Rattle.geo_model.specs.Topology.{Geom, Provider, Topology, geom_at, provider_at, providers_of, attached_to, is_withering}
use Rattle.geo_model.specs.Place.{disk_of}
use Rattle.geo_model.specs.Events.{provider_of_event}
use Rattle.geo_model.specs.World.{Config, Disk, HeaderDisk, World, Nothing, Plan, granted_in, commands_of}
use Rattle.geo_model.specs.Opening.{disk_in_size, bare_world, opening}
use Rattle.geo_model.specs.Sound.{IsOfItsClass, IsMediaSize, DifferInName, DifferInDisk, Sound, HasDiskSizes, LeadsDown, RanksHold, CountsHold, ProvidersHold, NumbersHold, HandlesHold, EventsHold}
use Rattle.geo_model.proofs.DemandLemmas.{all_weaker, kept_by, map_all}
use Rattle.geo_model.specs.TheConstants.{MAX_ACCESS_COUNT}
use Rattle.geo_model.specs.Names.{dev_name, taste_name}
use Rattle.geo_model.specs.Demand.{have, stand_together}
use Rattle.geo_model.specs.Plans.{MayBegin, FactsFit, IsFact, IsDiskDecl, IsCommand, IsCommandOf}
use Rattle.geo_model.specs.Graph.{AreNumbers}
use Rattle.geo_model.specs.Steady.{Steady, HasItsComponents, WaitsForPlaces}
use Rattle.geo_model.specs.Sectors.{IsSectorSize}
use Rattle.geo_model.specs.declared.command.DiskDecl.{DiskDecl}
use Rattle.geo_model.specs.declared.command.LineCommand.{LineCommand}
use Rattle.geo_model.specs.Fitting.{Fitting, IsHeaderDisk, FitsPlaces, HasOneProvider, PlacesHold, HasItsSum}
use Rattle.geo_laws_graph.proofs.Members.{Contains-here, Contains-there, All-from_contained, at_contained}
use Rattle.geo_laws_graph.proofs.Lists.{Rise, rise-wider, numbers-from, found_itself}
use Rattle.geo_laws_life.proofs.Standing.{Stander, disk_geom, disk_provider, disk_geoms, disk_providers, disk_offers, standers, stood, opening-stood, nowhere, IsStander, AreApart, PairsByRecursion, pairs-from_recursion, standers-stand, standers-apart, sizes_of}

-- a number before numbers that rise
rise_more : (n k : ℕ) (ns : List ℕ) → Rise (n + 1) ns (n + 1 + k) → Rise n (n ∷ ns) (n + suc k)
rise_more n k ns rise = (
  omega arith,
  omega arith,
  rise-wider (n + 1) (n + 1) (n + 1 + k) (n + suc k) ns (omega arith) (omega arith) rise,
)

-- the numbers rise
geoms-rise : (n : ℕ) (xs : List Stander) → Rise n (map (λ x. x.number) (disk_geoms n xs)) (n + length xs)
geoms-rise n [] = tt
geoms-rise n (x ∷ xs) =
    rise_more n (length xs) (map (λ y. y.number) (disk_geoms (n + 1) xs)) (geoms-rise (n + 1) xs)

-- so do those of the providers
providers-rise : (n g : ℕ) (xs : List Stander)
    → Rise n (map (λ x. x.number) (disk_providers n g xs)) (n + length xs)
providers-rise n g [] = tt
providers-rise n g (x ∷ xs) =
    rise_more n (length xs) (map (λ y. y.number) (disk_providers (n + 1) (g + 1) xs))
    (providers-rise (n + 1) (g + 1) xs)

-- the geom of a disk of the header
pub record IsDiskGeom (disks : List HeaderDisk) (x : Geom Config) : Type 0 where
  pub above : 3 ≤ x.number
  pub place : ℕ
  pub config : x.config ≡ Disk place
  pub disk : HeaderDisk
  pub at : slice_get disks place ≡ Some disk
  pub kind : x.kind ≡ kinds.Disk
  pub withering : x.withering ≡ false
  pub automatic : x.automatic ≡ false

-- the geoms of disks that are numbered from a number on are so
geoms-are : (disks : List HeaderDisk) (n : ℕ) (xs : List Stander) → 3 ≤ n → AllByRecursion (IsStander disks) xs
    → AllByRecursion (IsDiskGeom disks) (disk_geoms n xs)
geoms-are disks n [] less are = tt
geoms-are disks n (x ∷ xs) less are = (
  record {
    above = less;
    place = x.0;
    config = refl;
    disk = disk_in_size x.1;
    at = are.0.at;
    kind = refl;
    withering = refl;
    automatic = refl;
  },
  geoms-are disks (n + 1) xs (omega arith) are.1,
)

-- a provider of a disk's geom, with the sizes of the disk
pub record IsOfDisk (disks : List HeaderDisk) (geoms : List (Geom Config)) (y : Provider) : Type 0 where
  pub geom : Geom Config
  pub stands : Contains geoms geom
  pub number : geom.number ≡ y.geom
  pub place : ℕ
  pub config : geom.config ≡ Disk place
  pub disk : HeaderDisk
  pub at : slice_get disks place ≡ Some disk
  pub sector : y.sector ≡ disk.sector
  pub size : y.size ≡ disk.size
  pub media : IsMediaSize y.size y.sector
  pub errored : y.errored ≡ false

-- the providers of disks are of their geoms, where these are among some, with their sizes
providers-are : (disks : List HeaderDisk) (geoms : List (Geom Config)) (n g : ℕ) (xs : List Stander)
    → ((x : Geom Config) → Contains (disk_geoms g xs) x → Contains geoms x) → AllByRecursion (IsStander disks) xs
    → AllByRecursion (IsOfDisk disks geoms) (disk_providers n g xs)
providers-are disks geoms n g [] among are = tt
providers-are disks geoms n g (x ∷ xs) among are = (
  record {
    geom = disk_geom g x;
    stands = among (disk_geom g x) (Contains-here (disk_geom g x) (disk_geoms (g + 1) xs));
    number = refl;
    place = x.0;
    config = refl;
    disk = disk_in_size x.1;
    at = are.0.at;
    sector = refl;
    size = refl;
    media = are.0.size;
    errored = refl;
  },
  providers-are disks geoms (n + 1) (g + 1) xs
      (λ y here. among y (Contains-there (disk_geom g x) y (disk_geoms (g + 1) xs) here)) are.1,
)

-- the geoms of providers are those of disks
providers-above : (n g low : ℕ) (xs : List Stander) → low ≤ g
    → AllByRecursion (λ y. low ≤ y.geom) (disk_providers n g xs)
providers-above n g low [] less = tt
providers-above n g low (x ∷ xs) less = (less, providers-above (n + 1) (g + 1) low xs (omega arith))

-- a provider of another geom is passed over
none_step : (h : ℕ) (y : Provider) (ys : List Provider) → (y.geom == h) ≡ false → filter (λ z. z.geom == h) ys ≡ []
    → filter (λ z. z.geom == h) (y ∷ ys) ≡ []
none_step h y ys e rest = rw e rest

-- other geoms have none
none-of : (low h : ℕ) (ys : List Provider) → h < low → AllByRecursion (λ y. low ≤ y.geom) ys
    → filter (λ z. z.geom == h) ys ≡ []
none-of low h [] less above = refl
none-of low h (y ∷ ys) less above =
    none_step h y ys (ne_eqb y.geom h (λ same. omega (arith, above.0))) (none-of low h ys less above.1)

-- no two disks are one, and no two providers have one name
disks_apart : (n : ℕ) (a : ℕ) (g : Geom Config) → g.config ≡ Disk a → (xs : List Stander) → (x : Stander) → x.0 ≡ a
    → AllByRecursion (AreApart x) xs
    → AllByRecursion (DifferInDisk g) (disk_geoms n xs)
disks_apart n a g config [] x is apart = tt
disks_apart n a g config (y ∷ xs) x is apart = (
  (λ d e f.
      let first : Some a ≡ Some d = rw config at e in
      let one : a ≡ d = cc in
      let other : y.0 ≡ d = (let second : Some y.0 ≡ Some d = f in cc) in
      apart.0.disks (is ∙ one ∙ sym other)),
  disks_apart (n + 1) a g config xs x is apart.1,
)

-- so no two geoms are of one disk
geoms-differ : (n : ℕ) (xs : List Stander) → PairsByRecursion AreApart xs
    → PairsByRecursion DifferInDisk (disk_geoms n xs)
geoms-differ n [] apart = tt
geoms-differ n (x ∷ xs) apart =
    (disks_apart (n + 1) x.0 (disk_geom n x) refl xs x refl apart.0, geoms-differ (n + 1) xs apart.1)

-- a disk's provider differs in name from those of disks of other names
names_apart : (n g : ℕ) (p : Provider) (xs : List Stander) (x : Stander) → p.name ≡ x.1.0.name → p.errored ≡ false
    → AllByRecursion (AreApart x) xs
    → AllByRecursion (DifferInName p) (disk_providers n g xs)
names_apart n g p [] x named well apart = tt
names_apart n g p (y ∷ xs) x named well apart =
    (rw (well, named) apart.0.names, names_apart (n + 1) (g + 1) p xs x named well apart.1)

-- so no two providers have one name
names-differ : (n g : ℕ) (xs : List Stander) → PairsByRecursion AreApart xs
    → PairsByRecursion DifferInName (disk_providers n g xs)
names-differ n g [] apart = tt
names-differ n g (x ∷ xs) apart =
    (names_apart (n + 1) (g + 1) (disk_provider n g x) xs x refl refl apart.0, names-differ (n + 1) (g + 1) xs apart.1)

-- each offer is of a provider that stands
pub record IsOffered (ys : List Provider) (e : Event) : Type 0 where
  pub provider : Provider
  pub stands : Contains ys provider
  pub number : provider.number ≡ provider_of_event e

-- the offers of disks are of their providers, where these are among some
offers-are : (ys : List Provider) (n g : ℕ) (xs : List Stander)
    → ((y : Provider) → Contains (disk_providers n g xs) y → Contains ys y)
    → AllByRecursion (IsOffered ys) (disk_offers n xs)
offers-are ys n g [] among = tt
offers-are ys n g (x ∷ xs) among = (
  record {
    provider = disk_provider n g x;
    stands = among (disk_provider n g x) (Contains-here (disk_provider n g x) (disk_providers (n + 1) (g + 1) xs));
    number = refl;
  },
  offers-are ys (n + 1) (g + 1) xs
      (λ y here. among y (Contains-there (disk_provider n g x) y (disk_providers (n + 1) (g + 1) xs) here)),
)

-- a geom of a disk is of its class
disk-class : (disks : List HeaderDisk) (x : Geom Config) → IsDiskGeom disks x → IsOfItsClass x
disk-class disks x is = record {
  config = rw (is.kind, is.config) refl;
  dev = rw (is.kind, ne_eqb x.number 1 (λ same. omega (arith, is.above))) refl;
  taste = rw (is.kind, ne_eqb x.number 2 (λ same. omega (arith, is.above))) refl;
}

-- none withers
no-withering : (g : ℕ) (xs : List (Geom Config)) → AllByRecursion (λ x. x.withering ≡ false) xs
    → list_any (λ x. (x.number == g) && x.withering) xs ≡ false
no-withering g [] are = refl
no-withering g (x ∷ xs) are = rw (and_right (x.number == g) x.withering are.0, no-withering g xs are.1) refl

-- a geom of no disk differs from each
bare-differs : (g : Geom Config) → disk_of g.config ≡ None → (ys : List (Geom Config))
    → AllByRecursion (DifferInDisk g) ys
bare-differs g none [] = tt
bare-differs g none (y ∷ ys) = ((λ d e f. let bad : None ≡ Some d = sym none ∙ e in cc), bare-differs g none ys)

-- The opening of a plan is sound, and steady.

-- geoms 1 and 2
abbrev dev_geom : Geom Config
dev_geom = record {
  number = 1;
  kind = kinds.Dev;
  name = dev_name;
  config = Nothing;
  automatic = false;
  withering = false;
  started = 0;
}

-- the second of them, TASTE
abbrev taste_geom : Geom Config
taste_geom = record {
  number = 2;
  kind = kinds.Taste;
  name = taste_name;
  config = Nothing;
  automatic = false;
  withering = false;
  started = 0;
}

module _ (plan : Plan) (facts : List (ℕ × ℕ)) (xs : List Stander) where
  -- the disks of the header, with their sizes
  abbrev disks : List HeaderDisk
  disks = map disk_in_size (zip plan.disks facts)

  -- the world in which these disks stand
  abbrev w : World
  w = stood (bare_world plan facts) xs

  -- its graph
  abbrev t : Topology Config
  t = w.topology

  -- there is no loop, nothing is too deep, and DEV and TASTE stand bare
  ranks : RanksHold t
  ranks = record {
    ranked = λ k d short. nowhere k short;
    not_deep = λ k d short apart other. omega arith;
    dev = record {
      stands = refl;
      no_provider =
          none-of 3 1 (disk_providers 1 3 xs) (omega arith) (providers-above 1 3 3 xs (omega arith));
    };
    taste = record {
      stands = refl;
      no_provider =
          none-of 3 2 (disk_providers 1 3 xs) (omega arith) (providers-above 1 3 3 xs (omega arith));
    };
  }

  -- nothing is open, so all counts are within their limits
  counts : CountsHold (granted_in w) t
  counts = record {
    exclusive =
        list_all-from_AllPass (λ (x : Provider). stand_together (granted_in w) t (attached_to t x.number)) t.providers
        (λ k d short. refl);
    limited = list_all-from_AllPass (λ (x : Provider). let a = have (granted_in w) t x.number in
        nat_le a.r MAX_ACCESS_COUNT && (nat_le a.w MAX_ACCESS_COUNT && nat_le a.e MAX_ACCESS_COUNT)) t.providers
        (λ k d short. refl);
  }

  module _ (stand : AllByRecursion (IsStander disks) xs) (apart : PairsByRecursion AreApart xs) where
    -- the geoms after DEV and TASTE are those of disks
    geoms_of_disks : AllByRecursion (IsDiskGeom disks) (disk_geoms 3 xs)
    geoms_of_disks = geoms-are disks 3 xs (omega arith) stand

    -- no geom withers
    none_withers : (g : ℕ) → is_withering t g ≡ false
    none_withers g =
        no-withering g t.geoms (
          refl,
          (
            refl,
            all_weaker (IsDiskGeom disks) (λ (x : Geom Config). x.withering ≡ false) (λ x is. is.withering)
                (disk_geoms 3 xs) geoms_of_disks,
          ),
        )

    -- each provider is of a disk's geom, with the sizes of the disk
    providers_of_disks : AllByRecursion (IsOfDisk disks t.geoms) t.providers
    providers_of_disks =
        providers-are disks t.geoms 1 3 xs (λ x here.
        Contains-there dev_geom x (taste_geom ∷ disk_geoms 3 xs)
        (Contains-there taste_geom x (disk_geoms 3 xs) here)) stand

    -- what holds of providers of disks holds of all
    of_providers : (P : Provider → Type 0) → ((p : Provider) → IsOfDisk disks t.geoms p → P p) → All P t.providers
    of_providers P so = All-from_recursion P t.providers
        (all_weaker (IsOfDisk disks t.geoms) P so t.providers providers_of_disks)

    -- what holds of DEV, of TASTE and of the geoms of disks holds of all
    of_each_geom : (P : Geom Config → Type 0) → P dev_geom → P taste_geom
        → ((x : Geom Config) → IsDiskGeom disks x → P x) → All P t.geoms
    of_each_geom P dev taste so =
        All-from_recursion P t.geoms (dev, (taste, all_weaker (IsDiskGeom disks) P so (disk_geoms 3 xs) geoms_of_disks))

    -- no two providers have one name, no geom of theirs withers, and their sizes are those of media
    providers : ProvidersHold t
    providers = record {
      names = pairs-from_recursion DifferInName (disk_providers 1 3 xs) (names-differ 1 3 xs apart);
      withering = of_providers (λ (x : Provider). IsTrue (is_withering t x.geom) → x.errored ≡ true)
          (λ x is h. let bad : false ≡ true = sym (none_withers x.geom) ∙ h in cc);
      sizes = of_providers (λ (x : Provider). IsMediaSize x.size x.sector) (λ x is. is.media);
    }

    -- the geoms stand in order of numbers
    geom_numbers : AreNumbers (map (λ x. x.number) t.geoms) t.next_geom
    geom_numbers =
        numbers-from 1 t.next_geom (map (λ x. x.number) t.geoms)
        ((omega arith, omega arith, (omega arith, omega arith, geoms-rise 3 xs)))

    -- so do the providers
    provider_numbers : AreNumbers (map (λ x. x.number) t.providers) t.next_provider
    provider_numbers = numbers-from 1 t.next_provider (map (λ x. x.number) t.providers) (providers-rise 1 3 xs)

    -- each geom is what is found at its number
    geom_found : (x : Geom Config) → Contains t.geoms x → geom_at t x.number ≡ Some x
    geom_found x here = found_itself (λ (y : Geom Config). y.number) t.next_geom t.geoms x geom_numbers here

    -- so each provider's geom is found
    geom_of : (p : Provider) (is : IsOfDisk disks t.geoms p) → geom_at t p.geom ≡ Some is.geom
    geom_of p is = subst (λ (n : ℕ). geom_at t n ≡ Some is.geom) is.number (geom_found is.geom is.stands)

    -- a provider of a disk's geom has the sizes of that disk
    same_sizes : (x : Geom Config) (h : IsDiskGeom disks x) → Contains t.geoms x → (p : Provider)
        → IsOfDisk disks t.geoms p → p.geom ≡ x.number
        → (p.sector ≡ h.disk.sector) × (p.size ≡ h.disk.size)
    same_sizes x h here p is own =
        let found : geom_at t x.number ≡ Some is.geom =
        subst (λ (n : ℕ). geom_at t n ≡ Some is.geom) own (geom_of p is) in
        let found_too = geom_found x here in
        let same : is.geom ≡ x = cc in
        let configs : Disk is.place ≡ Disk h.place = sym is.config ∙ ap (λ (g : Geom Config). g.config) same
        ∙ h.config in
        let places : is.place ≡ h.place = cc in
        let at : slice_get disks h.place ≡ Some is.disk =
        subst (λ (n : ℕ). slice_get disks n ≡ Some is.disk) places is.at in
        let at_too : slice_get disks h.place ≡ Some h.disk = h.at in
        let disk : is.disk ≡ h.disk = cc in
        (is.sector ∙ ap (λ (d : HeaderDisk). d.sector) disk, is.size ∙ ap (λ (d : HeaderDisk). d.size) disk)

    -- so have all that the geom offers
    disk_sizes_of : (x : Geom Config) → Contains t.geoms x → IsDiskGeom disks x → HasDiskSizes t disks x
    disk_sizes_of x here h =
        let sizes : All (λ (p : Provider). (p.sector ≡ h.disk.sector) × (p.size ≡ h.disk.size))
        (providers_of t x.number) =
        All-from_recursion (λ (p : Provider). (p.sector ≡ h.disk.sector) × (p.size ≡ h.disk.size))
        (providers_of t x.number)
        (kept_by (IsOfDisk disks t.geoms) (λ (p : Provider). (p.sector ≡ h.disk.sector) × (p.size ≡ h.disk.size))
        (λ (p : Provider). p.geom == x.number)
        (λ p e is. same_sizes x h here p is (eqb-true p.geom x.number e)) t.providers providers_of_disks) in
        let config : x.config ≡ Disk h.place = h.config in
        let at : slice_get disks h.place ≡ Some h.disk = h.at in
        rw (config, at) sizes

    -- numbers are in order, each geom is of its class, and no disk has two geoms
    numbers : NumbersHold t disks
    numbers = record {
      geoms = geom_numbers;
      providers = provider_numbers;
      consumers = numbers-from 0 1 [] tt;
      classes = of_each_geom IsOfItsClass (record { config = refl; dev = refl; taste = refl })
          (record { config = refl; dev = refl; taste = refl }) (disk-class disks);
      one_geom_of_disk = pairs-from_recursion DifferInDisk t.geoms (
        bare-differs dev_geom refl (taste_geom ∷ disk_geoms 3 xs),
        (bare-differs taste_geom refl (disk_geoms 3 xs), geoms-differ 3 xs apart),
      );
      disk_sizes = All-from_recursion (HasDiskSizes t disks) t.geoms (
        tt,
        (
          tt,
          All-from_contained (HasDiskSizes t disks) (disk_geoms 3 xs)
              (λ x here. disk_sizes_of x
              (Contains-there dev_geom x (taste_geom ∷ disk_geoms 3 xs)
              (Contains-there taste_geom x (disk_geoms 3 xs) here))
              (at_contained (IsDiskGeom disks) (disk_geoms 3 xs) x geoms_of_disks here)),
        ),
      );
    }

    -- there is no consumer, no handle and no taste yet
    handles : HandlesHold t w.handles w.next_handle w.taste
    handles = record {
      numbers = numbers-from 0 1 [] tt;
      consumers = λ k d short. nowhere k short;
      handles = λ k d short. nowhere k short;
      taste = refl;
    }

    -- each provider is that of a disk
    leads_down : (p : Provider) → IsOfDisk disks t.geoms p → LeadsDown (granted_in w) t p
    leads_down p is =
        let found = geom_of p is in
        let config : is.geom.config ≡ Disk is.place = is.config in
        let some : IsSome (disk_of is.geom.config) = rw config refl in
        rw found (λ used. inl some)

    -- what an event offers is a provider that lives
    offered : (e : Event) → IsOffered t.providers e → IsSome (provider_at t (provider_of_event e))
    offered e is =
        let found : provider_at t is.provider.number ≡ Some is.provider =
        found_itself (λ (y : Provider). y.number) t.next_provider t.providers is.provider provider_numbers
        is.stands in
        let there : provider_at t (provider_of_event e) ≡ Some is.provider =
        subst (λ (n : ℕ). provider_at t n ≡ Some is.provider) is.number found in
        rw there refl

    -- so each event is of a provider that lives, and no taste goes on
    events : EventsHold t w.events w.taste w.bios
    events = record {
      living = All-from_recursion (λ (e : Event). IsSome (provider_at t (provider_of_event e))) w.events
          (all_weaker (IsOffered t.providers) (λ (e : Event). IsSome (provider_at t (provider_of_event e))) offered
          w.events (offers-are t.providers 1 3 xs (λ y here. here)));
      read_out = ((λ h. h), (λ h. h));
      taste = tt;
    }

    -- the world in which disks stand is sound
    stood-sound : Sound w
    stood-sound = record {
      ranks = ranks;
      counts = counts;
      providers = providers;
      numbers = numbers;
      handles = handles;
      places = of_providers (LeadsDown (granted_in w) t) leads_down;
      bio_numbers = numbers-from 0 1 [] tt;
      bios = λ k d short. nowhere k short;
      families = λ k d short. nowhere k short;
      disks = record { at_disk = λ k d short. nowhere k short; one_busy = λ i j d less short. nowhere j short };
      events = events;
    }

    -- each provider's geom lives
    lives : (p : Provider) → IsOfDisk disks t.geoms p → IsSome (geom_at t p.geom)
    lives p is = let found = geom_of p is in rw found refl

    -- a disk's geom has no components
    no_components : (x : Geom Config) → IsDiskGeom disks x → HasItsComponents (granted_in w) t x
    no_components x is = let config : x.config ≡ Disk is.place = is.config in
        rw config (λ used k d short. nowhere k short)

    -- and no free places
    no_places : (x : Geom Config) → IsDiskGeom disks x → WaitsForPlaces t x
    no_places x is = let config : x.config ≡ Disk is.place = is.config in
        rw config (λ free. from_false_true free)

    -- the world in which disks stand is steady
    stood-steady : Steady w
    stood-steady = record {
      made = of_each_geom (λ (g : Geom Config). (g.number ≡ 1) ⊎ (g.number ≡ 2) → g.automatic ≡ false)
          (λ of. refl) (λ of. refl) (λ x is of. is.automatic);
      parts = record {
        providers = of_providers (λ (p : Provider). IsSome (geom_at t p.geom)) lives;
        consumers = λ k d short. nowhere k short;
      };
      attached = λ k d short. nowhere k short;
      components = of_each_geom (HasItsComponents (granted_in w) t) (λ used k d short. nowhere k short)
          (λ used k d short. nowhere k short) no_components;
      partial = of_each_geom (WaitsForPlaces t)
          (λ free. from_false_true free)
          (λ free. from_false_true free) no_places;
      owners = λ k d short. nowhere k short;
      results = λ k d short. nowhere k short;
      unmarked = λ k d short. nowhere k short;
    }

-- the opening of each plan is sound
pub opening-sound : (plan : Plan) (facts : List (ℕ × ℕ)) → MayBegin plan → FactsFit plan facts
    → Sound (opening plan facts)
opening-sound plan facts is fits =
    subst Sound (sym (opening-stood plan facts))
    (stood-sound plan facts (standers plan facts) (standers-stand plan facts is fits)
    (standers-apart plan facts is fits))

-- and steady
pub opening-steady : (plan : Plan) (facts : List (ℕ × ℕ)) → MayBegin plan → FactsFit plan facts
    → Steady (opening plan facts)
opening-steady plan facts is fits =
    subst Steady (sym (opening-stood plan facts))
    (stood-steady plan facts (standers plan facts) (standers-stand plan facts is fits)
    (standers-apart plan facts is fits))

-- The opening of a plan is fitting.

-- what holds of each item holds of what stands at a place
at_place : {X : Type 0} (P : X → Type 0) (xs : List X) (k : ℕ) (x : X) → AllByRecursion P xs → slice_get xs k ≡ Some x
    → P x
at_place P [] k x facts e = absurd (let no : ⊥ = cc in no)
at_place P (y ∷ ys) zero x facts e = let same : y ≡ x = cc in subst P same facts.0
at_place P (y ∷ ys) (suc k) x facts e = at_place P ys k x facts.1 e

-- the disks of a header have sector sizes and sizes of media
header_disks : (ds : List DiskDecl) (facts : List (ℕ × ℕ)) → AllByRecursion IsDiskDecl ds → AllZip IsFact ds facts
    → AllByRecursion IsHeaderDisk (map disk_in_size (zip ds facts))
header_disks [] facts decls fits = tt
header_disks (d ∷ ds) [] decls fits = tt
header_disks (d ∷ ds) (fact ∷ facts) decls fits = (
  record { sector = subst IsSectorSize (sym fits.0.sector) decls.0.sector; size = sizes_of d fact decls.0 fits.0 },
  header_disks ds facts decls.1 fits.1,
)

-- the commands of each actor are commands of the plan
actor_commands : (plan : Plan) → MayBegin plan → (actors : List ℕ)
    → All (All (λ c. IsCommand c.command)) (map (commands_of plan) actors)
actor_commands plan is actors =
    All-from_recursion (All (λ c. IsCommand c.command)) (map (commands_of plan) actors)
    (map_all (All (λ c. IsCommand c.command)) (commands_of plan)
    (λ actor.
    All-from_recursion (λ (c : LineCommand). IsCommand c.command) (commands_of plan actor)
    (kept_by (IsCommandOf (length plan.actors)) (λ (c : LineCommand). IsCommand c.command)
    (λ (c : LineCommand). c.actor == actor)
    (λ c e line. line.command) plan.commands
    (recursion_from_All (IsCommandOf (length plan.actors)) plan.commands is.commands)))
    actors)

-- what is asked of a geom that has no places and is neither a concat nor a stripe
pub record IsBare (t : Topology Config) (g : Geom Config) : Type 0 where
  pub places : FitsPlaces t g
  pub one : HasOneProvider t g
  pub apart : PlacesHold g
  pub sum : HasItsSum t g

-- one without places that is neither
bare_of : (t : Topology Config) (g : Geom Config) → FitsPlaces t g → PlacesHold g → g.kind ≢ kinds.Concat
    → g.kind ≢ kinds.Stripe → IsBare t g
bare_of t g places apart concat stripe = record {
  places = places;
  one = λ is. absurd (concat is);
  apart = apart;
  sum = λ joined. absurd (elim joined [ inl is ↦ concat is | inr is ↦ stripe is ]);
}

-- so a geom of a disk
bare_disk : (disks : List HeaderDisk) (t : Topology Config) (g : Geom Config) → IsDiskGeom disks g → IsBare t g
bare_disk disks t g is =
    let config : g.config ≡ Disk is.place = is.config in
    bare_of t g (rw config tt)
    (record { apart = rw config (λ i j d less short. nowhere j short); few = rw config (omega arith) })
    (λ same. let bad : kinds.Disk ≡ kinds.Concat = sym is.kind ∙ same in cc)
    (λ same. let bad : kinds.Disk ≡ kinds.Stripe = sym is.kind ∙ same in cc)

module _ (plan : Plan) (facts : List (ℕ × ℕ)) (is : MayBegin plan) (fits : FactsFit plan facts) where
  -- the disks that stand
  abbrev xs : List Stander
  xs = standers plan facts

  -- the world in which they stand
  abbrev v : World
  v = stood (bare_world plan facts) xs

  -- the disks of the header
  disks_fit : AllByRecursion IsHeaderDisk v.disks
  disks_fit = header_disks plan.disks facts (recursion_from_All IsDiskDecl plan.disks is.disks) fits

  -- each provider has the sectors of its disk
  sector_of : (p : Provider) → IsOfDisk v.disks (disk_geoms 3 xs) p → IsSectorSize p.sector
  sector_of p of = subst IsSectorSize (sym of.sector)
      (at_place IsHeaderDisk v.disks of.place of.disk disks_fit of.at).sector

  -- DEV, TASTE and the geoms of disks have no places, and none is a concat or a stripe
  bare_geoms : AllByRecursion (IsBare v.topology) v.topology.geoms
  bare_geoms = (
    bare_of v.topology _ tt (record { apart = λ i j d less short. nowhere j short; few = omega arith })
        (λ same. let no : ⊥ = cc in no) (λ same. let no : ⊥ = cc in no),
    (
      bare_of v.topology _ tt (record { apart = λ i j d less short. nowhere j short; few = omega arith })
          (λ same. let no : ⊥ = cc in no) (λ same. let no : ⊥ = cc in no),
      all_weaker (IsDiskGeom v.disks) (IsBare v.topology) (bare_disk v.disks v.topology) (disk_geoms 3 xs)
          (geoms-are v.disks 3 xs (omega arith) (standers-stand plan facts is fits)),
    ),
  )

  -- a part of that, of each geom
  of_geoms : (P : Geom Config → Type 0) → ((g : Geom Config) → IsBare v.topology g → P g) → All P v.topology.geoms
  of_geoms P part = All-from_recursion P v.topology.geoms
      (all_weaker (IsBare v.topology) P part v.topology.geoms bare_geoms)

  -- the world in which disks stand is fitting
  stood-fitting : Fitting v
  stood-fitting = record {
    disks = All-from_recursion IsHeaderDisk v.disks disks_fit;
    sectors = All-from_recursion (λ (p : Provider). IsSectorSize p.sector) v.topology.providers
        (all_weaker (IsOfDisk v.disks (disk_geoms 3 xs)) (λ (p : Provider). IsSectorSize p.sector) sector_of
        (disk_providers 1 3 xs)
        (providers-are v.disks (disk_geoms 3 xs) 1 3 xs (λ x here. here) (standers-stand plan facts is fits)));
    wholes = λ k d short. nowhere k short;
    places = of_geoms (FitsPlaces v.topology) (λ g bare. bare.places);
    one = of_geoms (HasOneProvider v.topology) (λ g bare. bare.one);
    apart = of_geoms PlacesHold (λ g bare. bare.apart);
    sums = of_geoms (HasItsSum v.topology) (λ g bare. bare.sum);
    asked = tt;
    read = record { one = omega arith; sector = λ k d short. nowhere k short };
    commands = actor_commands plan is (range_with_len 0 (length plan.actors));
  }

-- the opening of each plan is fitting
pub opening-fitting : (plan : Plan) (facts : List (ℕ × ℕ)) → MayBegin plan → FactsFit plan facts
    → Fitting (opening plan facts)
opening-fitting plan facts is fits = subst Fitting (sym (opening-stood plan facts)) (stood-fitting plan facts is fits)
