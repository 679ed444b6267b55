-- Where a mesh follows another, what bios use is kept.
use Rattle.std.specs.Prelude.{◌≡◌, ℕ, ◌==◌, List, Some, Contains}
use Rattle.std.proofs.Common.{refl, subst}
use Rattle.std.proofs.lemmas.Bool.{eq-eqb}
use Rattle.geo_model.specs.Topology.{Topology, Provider, provider_at}
use Rattle.geo_model.specs.World.{World, Config}
use Rattle.geo_model.specs.Fitting.{Firm}
use Rattle.geo_laws_graph.proofs.Members.{find-Contains, Contains-filter, nothing_in}
use Rattle.geo_laws_life.proofs.Found.{some-with}
use Rattle.geo_laws_maps.specs.Ways.{Used}
use Rattle.geo_laws_steps.specs.WayLaws.{IsSameProvider, IsSameGeom, IsSameConsumer, KeepsWays}
use Rattle.geo_laws_steps.proofs.Kept.{used-kept}
use Rattle.geo_laws_steps.specs.Heirs.{IsBare, Follows}

-- a firm mesh after another keeps what that one's bios use
abbrev pub Keeps : World → World → Type 0
Keeps w v = Firm v → KeepsWays (Used w) w.topology v.topology

-- a provider that stands is of no bare geom
stands_offered : (t : Topology Config) (p : ℕ) (x : Provider) → provider_at t p ≡ Some x → IsBare t x.geom → ⊥
stands_offered t p x found bare =
    nothing_in x
    (subst (λ (xs : List Provider). Contains xs x) bare
    (Contains-filter (λ (z : Provider). z.geom == x.geom) t.providers x
    (find-Contains (λ (z : Provider). z.number == p) t.providers x found) (eq-eqb x.geom x.geom refl)))

-- so where it follows it
pub follows-keep : (w v : World) → Firm w → Follows w v → Keeps w v
follows-keep w v firm follows after =
    used-kept w v firm after (IsBare w.topology) follows.heir follows.bios
    (λ p x used found bare. stands_offered w.topology p x found bare)

-- the same graph keeps everything
pub keeps-same : (U : ℕ → Type 0) (t : Topology Config) → KeepsWays U t t
keeps-same U t = record {
  provider = λ p x inside found.
      some-with (provider_at t p) (IsSameProvider x) x found
      (record { number = refl; geom = refl; name = refl; sector = refl; size = refl });
  geom = λ p x g inside found of.
      some-with _ (IsSameGeom g) g of (record { number = refl; kind = refl; config = refl });
  consumer = λ p x g c d inside found of among e.
      some-with _ (IsSameConsumer d) d e (record { number = refl; geom = refl; provider = refl });
}

-- what keeps more keeps less
pub keeps-fewer : (U V : ℕ → Type 0) → ((p : ℕ) → U p → V p) → (t u : Topology Config) → KeepsWays V t u
    → KeepsWays U t u
keeps-fewer U V so t u keeps = record {
  provider = λ p x inside found. keeps.provider p x (so p inside) found;
  geom = λ p x g inside found of. keeps.geom p x g (so p inside) found of;
  consumer = λ p x g c d inside found of among e. keeps.consumer p x g c d (so p inside) found of among e;
}
