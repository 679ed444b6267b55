-- What a wash takes away (g_wither_geom(9)).
use Rattle.std.specs.Prelude.{◌≡◌, ℕ, [], Some, IsSome, IsTrue}
use Rattle.geo_model.specs.declared.step.WashWork.{WashWork}
use Rattle.geo_model.specs.declared.step.WashWork.TheVariants as washes
use Rattle.geo_model.specs.Topology.{consumer_at, attached_to, providers_of, consumers_of, is_withering}
use Rattle.geo_slots.specs.Slots.{value_at}
use Rattle.geo_mesh.specs.Topo.{TopoView, no_counts, without_geom, without_provider, without_consumer}

module _ {C : Type 0} where
  -- the consumer stands, holds no count, and no request is out through it
  pub record IsIdle (t : TopoView C) (c : ℕ) : Type 0 where
    pub lives : IsSome (consumer_at t.topology c)
    pub no_counts : value_at t.wants c ≡ Some no_counts
    pub none_out : value_at t.active c ≡ Some 0

  -- the geom withers, and nothing of it is left
  pub record IsBare (t : TopoView C) (g : ℕ) : Type 0 where
    pub withering : IsTrue (is_withering t.topology g)
    pub no_provider : providers_of t.topology g ≡ []
    pub no_consumer : consumers_of t.topology g ≡ []

  -- the part can go
  abbrev pub IsFree : TopoView C → WashWork → Type 0
  IsFree t (washes.Provider p) = attached_to t.topology p ≡ []
  IsFree t (washes.Consumer c) = IsIdle t c
  IsFree t (washes.Geom g) = IsBare t g

  -- the mesh without the part
  abbrev pub washed_view : TopoView C → WashWork → TopoView C
  washed_view t (washes.Provider p) = without_provider t p
  washed_view t (washes.Consumer c) = without_consumer t c
  washed_view t (washes.Geom g) = without_geom t g
