-- One level of the way down: it is the same where the components lead to the same providers, and these go on
-- the same.
use Rattle.std.specs.Prelude.{◌≡◌, ℕ, suc, ◌/◌, List, [], ◌∷◌, ◌++◌, flat_map, filter_map, Option, Some, None, Contains, option_and_then}
use Rattle.std.specs.Option.{option_map_or}
use Rattle.std.proofs.Common.{refl, sym, ◌∙◌, ap}
use Rattle.geo_model.specs.Words.{◌>>=◌}
use Rattle.geo_model.specs.Topology.{Topology, Geom, Provider, geom_at, provider_at, provider_of_consumer, provider_with_geom}
use Rattle.geo_model.specs.World.{Config, Nothing, Disk}
use Rattle.geo_model.specs.Place.{Spot, DiskSector, place, component, components, disk_of, provider_below, flat_step, flat_within, ends_step, ends_within}
use Rattle.geo_laws_graph.proofs.Members.{Contains-here, Contains-there}
use Rattle.geo_laws_bios.proofs.Components.{component-among}

-- A provider with its geom

-- the two that are found
pub found_with_geom : (t : Topology Config) (p : ℕ) (x : Provider) (g : Geom Config) → provider_at t p ≡ Some x
    → geom_at t x.geom ≡ Some g → provider_with_geom t p ≡ Some (x, g)
found_with_geom t p x g found of =
    ap (λ o. o >>= (λ (y : Provider). geom_at t y.geom >>= (λ (h : Geom Config). Some (y, h)))) found
    ∙ ap (λ o. o >>= (λ (h : Geom Config). Some (x, h))) of

-- the first level of the way to a sector
pub flat_level : (t : Topology Config) (k p o : ℕ) (x : Provider) (g : Geom Config) → provider_at t p ≡ Some x
    → geom_at t x.geom ≡ Some g → flat_within (suc k) t p o ≡ flat_step (flat_within k t) t g.config x o
flat_level t k p o x g found of =
    ap (λ z. z >>= (λ (here : Provider × Geom Config). flat_step (flat_within k t) t here.1.config here.0 o))
    (found_with_geom t p x g found of)

-- and of that to the disks
pub ends_level : (t : Topology Config) (k p : ℕ) (x : Provider) (g : Geom Config) → provider_at t p ≡ Some x
    → geom_at t x.geom ≡ Some g → ends_within (suc k) t p ≡ ends_step (ends_within k t) t g.config
ends_level t k p x g found of =
    ap (λ z. option_map_or (λ (here : Provider × Geom Config). ends_step (ends_within k t) t here.1.config) z [])
    (found_with_geom t p x g found of)

-- the components of a configuration are attached to the same providers in both graphs
abbrev pub LeadSame : Topology Config → Topology Config → Config → Type 0
LeadSame t u config =
    (c : ℕ) → Contains (components config) c → provider_of_consumer u c ≡ provider_of_consumer t c

-- a fact of each provider below
abbrev pub OfEachBelow : Topology Config → Config → (ℕ → Type 0) → Type 0
OfEachBelow t config P =
    (c q : ℕ) → Contains (components config) c → provider_of_consumer t c ≡ Some q → P q

-- Sectors

module _ (F G : ℕ → ℕ → Option DiskSector) (t u : Topology Config) where
  -- from a provider below
  flat_below : (a b : Option ℕ) → b ≡ a → (o : ℕ) → ((q : ℕ) → a ≡ Some q → G q o ≡ F q o)
      → (b >>= (λ n. G n o)) ≡ (a >>= (λ n. F n o))
  flat_below a None e o so = let none : a ≡ None = sym e in ap (λ z. z >>= (λ n. F n o)) e
  flat_below a (Some q) e o so = so q (sym e) ∙ ap (λ z. z >>= (λ n. F n o)) e

  module _ (config : Config) (lead : LeadSame t u config)
      (so : OfEachBelow t config (λ q. (o : ℕ) → G q o ≡ F q o)) where
    -- from a component
    flat_component : (k : Option ℕ) (o : ℕ) → ((c : ℕ) → k ≡ Some c → Contains (components config) c)
        → (option_and_then (provider_of_consumer u) k >>= (λ n. G n o))
        ≡ (option_and_then (provider_of_consumer t) k >>= (λ n. F n o))
    flat_component None o among = refl
    flat_component (Some c) o among =
        flat_below (provider_of_consumer t c) (provider_of_consumer u c) (lead c (among c refl)) o
        (λ q e. so c q (among c refl) e o)

    -- from a spot
    flat_spot : (s : Option Spot) → (s >>= (λ z. provider_below u config z >>= (λ n. G n z.offset)))
        ≡ (s >>= (λ z. provider_below t config z >>= (λ n. F n z.offset)))
    flat_spot None = refl
    flat_spot (Some z) =
        flat_component (component config z.component) z.offset (λ c e. component-among config z.component c e)

  -- and by the name
  flat_named : (config : Config) → LeadSame t u config → OfEachBelow t config (λ q. (o : ℕ) → G q o ≡ F q o)
      → (a b : List ℕ) (o : ℕ) → b ≡ a
      → (place config b o >>= (λ z. provider_below u config z >>= (λ n. G n z.offset)))
      ≡ (place config a o >>= (λ z. provider_below t config z >>= (λ n. F n z.offset)))
  flat_named config lead so a b o name =
      ap (λ d. place config d o >>= (λ z. provider_below u config z >>= (λ n. G n z.offset))) name
      ∙ flat_spot config lead so (place config a o)

  -- the whole level
  pub flat_step-same : (config : Config) → LeadSame t u config → OfEachBelow t config (λ q. (o : ℕ) → G q o ≡ F q o)
      → (x y : Provider) (o : ℕ) → y.name ≡ x.name → y.sector ≡ x.sector
      → flat_step G u config y o ≡ flat_step F t config x o
  flat_step-same (Disk disk) lead so x y o name sector =
      ap (λ s. Some (record { disk = disk; sector = o / s })) sector
  flat_step-same config lead so x y o name sector = flat_named config lead so x.name y.name o name

-- an offset that has a place lies where the provider below says
module _ (F : ℕ → ℕ → Option DiskSector) (t : Topology Config) where
  -- by the place and what is below it
  placed_at : (config : Config) (s : Option Spot) (spot : Spot) (n : ℕ) → s ≡ Some spot
      → provider_below t config spot ≡ Some n
      → (s >>= (λ z. provider_below t config z >>= (λ m. F m z.offset))) ≡ F n spot.offset
  placed_at config s spot n at below =
      ap (λ o. o >>= (λ z. provider_below t config z >>= (λ m. F m z.offset))) at
      ∙ ap (λ o. o >>= (λ m. F m spot.offset)) below

  -- so for each configuration
  pub flat_step-place : (config : Config) (x : Provider) (o : ℕ) (spot : Spot) (n : ℕ)
      → place config x.name o ≡ Some spot → provider_below t config spot ≡ Some n
      → flat_step F t config x o ≡ F n spot.offset
  flat_step-place Nothing x o spot n at below = absurd (let no : ⊥ = cc in no)
  flat_step-place (Disk disk) x o spot n at below = absurd (let no : ⊥ = cc in no)
  flat_step-place config x o spot n at below = placed_at config (place config x.name o) spot n at below

-- Disks

-- at a geom that isn't a disk's, the disks are those below
pub ends_step-down : (F : ℕ → List ℕ) (t : Topology Config) (config : Config) → disk_of config ≡ None
    → ends_step F t config ≡ flat_map F (filter_map (provider_of_consumer t) (components config))
ends_step-down F t (Disk disk) none = absurd (let no : ⊥ = cc in no)
ends_step-down F t _ none = refl

module _ (F G : ℕ → List ℕ) (t u : Topology Config) where
  -- from a provider below, and then the rest
  ends_below : (a b : Option ℕ) → b ≡ a → ((q : ℕ) → a ≡ Some q → G q ≡ F q) → (c : ℕ) (cs : List ℕ)
      → provider_of_consumer t c ≡ a → provider_of_consumer u c ≡ b
      → flat_map G (filter_map (provider_of_consumer u) cs) ≡ flat_map F (filter_map (provider_of_consumer t) cs)
      → flat_map G (filter_map (provider_of_consumer u) (c ∷ cs))
      ≡ flat_map F (filter_map (provider_of_consumer t) (c ∷ cs))
  ends_below None None same so c cs ea eb rest = rw (ea, eb) rest
  ends_below (Some q) (Some r) same so c cs ea eb rest =
      let number : r ≡ q = cc in
      let first : G r ≡ F q = ap G number ∙ so q refl in
      rw (ea, eb)
      (ap (λ n. n ++ flat_map G (filter_map (provider_of_consumer u) cs)) first ∙ ap (λ n. F q ++ n) rest)
  ends_below None (Some r) same so c cs ea eb rest = absurd (let no : ⊥ = cc in no)
  ends_below (Some q) None same so c cs ea eb rest = absurd (let no : ⊥ = cc in no)

  -- from some components
  ends_over : (cs : List ℕ) → ((c : ℕ) → Contains cs c → provider_of_consumer u c ≡ provider_of_consumer t c)
      → ((c q : ℕ) → Contains cs c → provider_of_consumer t c ≡ Some q → G q ≡ F q)
      → flat_map G (filter_map (provider_of_consumer u) cs) ≡ flat_map F (filter_map (provider_of_consumer t) cs)
  ends_over [] lead so = refl
  ends_over (c ∷ cs) lead so =
      ends_below (provider_of_consumer t c) (provider_of_consumer u c) (lead c (Contains-here c cs))
      (λ q e. so c q (Contains-here c cs) e) c cs refl refl
      (ends_over cs (λ d here. lead d (Contains-there c d cs here))
      (λ d q here e. so d q (Contains-there c d cs here) e))

  -- the whole level
  pub ends_step-same : (config : Config) → LeadSame t u config → OfEachBelow t config (λ q. G q ≡ F q)
      → ends_step G u config ≡ ends_step F t config
  ends_step-same (Disk disk) lead so = refl
  ends_step-same config lead so = ends_over (components config) lead so
