-- What is known of a tasted provider whose sector a class accepts.
use Rattle.std.specs.Prelude.{◌≡◌, ℕ, ◌-◌, ◌*◌, ◌/◌, ◌<◌, ◌≤◌, ◌==◌, nat_le, Bool, true, false, List, [], ◌∷◌, Some, None, IsSome, IfSome, Contains, if◌then◌else◌}
use Rattle.std.proofs.Common.{refl, subst, arith}
use Rattle.std.proofs.lemmas.Bool.{leb-true}
use Rattle.std.proofs.lemmas.List.Elements.{All-contains}
use Rattle.std.proofs.Math.Nat.{div-mul-le_self, mul-le-mul_right}
use Rattle.geo_base.specs.Sectors.{IsSectorSize}
use Rattle.geo_base.specs.declared.kind.Kind.{Kind}
use Rattle.geo_base.specs.declared.limits.TheConstants.{MAX_RANK, UNTASTED_RANK}
use Rattle.geo_model.specs.declared.class.Shape.{Shape}
use Rattle.geo_model.specs.declared.step.BioResult.TheVariants as results
use Rattle.geo_model.specs.Topology.{Topology, Geom, Provider, geom_at, provider_at, geom_of_provider}
use Rattle.geo_model.specs.Rank.{rank}
use Rattle.geo_model.specs.World.{World, Config, Taste, ReadBack}
use Rattle.geo_model.specs.Events.{QueuedTopology}
use Rattle.geo_model.specs.GeomCommands.{rank_over}
use Rattle.geo_model.specs.Sound.{IsMediaSize, IsTasteInOrder}
use Rattle.geo_model.specs.Fitting.{AsksThere, IsOneSector, IsAskedInOrder, Firm}
use Rattle.geo_laws_graph.proofs.Members.{find-Contains}
use Rattle.geo_laws_graph.proofs.Numbered.{number_found}
use Rattle.geo_laws_life.proofs.Found.{found-with, at-found, one-found}
use Rattle.geo_laws_making.proofs.Made.{through}
use Rattle.geo_laws_making.proofs.Nopped.{found_by_number}
use Rattle.geo_laws_making.specs.AcceptLaws.{IsAccepted}

-- a test of two sectors that asks has two
two_sectors : (n m : ℕ) → IsSome (if nat_le 2 n then Some m else None) → 2 ≤ n
two_sectors n m = by (nat_le 2 n) refl where
  -- by the test
  by : (b : Bool) → nat_le 2 n ≡ b → IsSome (if b then Some m else None) → 2 ≤ n
  by true e asks = leb-true 2 n e
  by false e asks = absurd (let no : ⊥ = cc in no)

module _ (w : World) (s : Taste) (p : Provider) (kind : Kind) (bytes : List ℕ) (shape : Shape)
    (made : QueuedTopology Config) (firm : Firm w) (accepted : IsAccepted w s p kind bytes shape made) where
  -- the graph
  abbrev t : Topology Config
  t = w.topology

  -- the provider is found by its number
  pub found : provider_at t p.number ≡ Some p
  found = found_by_number w s.provider p accepted.found

  -- and stands
  pub stands : Contains t.providers p
  stands = find-Contains (λ (x : Provider). x.number == p.number) t.providers p found

  -- has a size
  pub media : IsMediaSize p.size p.sector
  media =
      All-contains (λ (x : Provider). IsMediaSize x.size x.sector) t.providers p firm.graph.providers.sizes stands

  -- and a sector size
  pub sector_size : IsSectorSize p.sector
  sector_size = All-contains (λ (x : Provider). IsSectorSize x.sector) t.providers p firm.sizes.sectors stands

  -- the class asks there, and the bytes are those of one sector
  asked : IsAskedInOrder t p (ReadBack kind (results.Bytes bytes))
  asked =
      subst (IsAskedInOrder t p) accepted.asked
      (at-found (provider_at t s.provider) (λ x. IsAskedInOrder t x s.asked) p accepted.found
      (at-found w.taste (λ z. IfSome (provider_at t z.provider) (λ x. IsAskedInOrder t x z.asked)) s accepted.taste
      firm.taste.asked))

  -- so it asks
  pub asks : AsksThere t p kind
  asks = asked.0

  -- and so they are
  pub one_sector : IsOneSector p (results.Bytes bytes)
  one_sector = asked.1

  -- the taste is in order
  pub tasting : IsTasteInOrder t s
  tasting = at-found w.taste (IsTasteInOrder t) s accepted.taste firm.taste.order

  -- the geom of the provider
  pub record HasGeom : Type 0 where
    pub geom : Geom Config
    pub is : geom_at t p.geom ≡ Some geom
    pub low : rank t p.geom < UNTASTED_RANK

  -- is not too high
  pub has_geom : HasGeom
  has_geom =
      let h = found-with (geom_of_provider t s.provider) (λ h. rank t h.number < UNTASTED_RANK) tasting.rank in
      let x = through (λ (x : Provider). geom_at t x.geom) (provider_at t s.provider) h.item h.is in
      let same : x.first ≡ p = one-found (provider_at t s.provider) x.first p x.is accepted.found in
      let is : geom_at t p.geom ≡ Some h.item =
      subst (λ (z : Provider). geom_at t z.geom ≡ Some h.item) same x.then in
      let number : h.item.number ≡ p.geom = number_found (λ (z : Geom Config). z.number) t.geoms p.geom h.item is in
      record { geom = h.item; is = is; low = subst (λ m. rank t m < UNTASTED_RANK) number h.fact }

  -- so a geom over it isn't too high
  pub low : rank_over t (p ∷ []) ≤ MAX_RANK
  low = let here : rank t p.geom < UNTASTED_RANK = has_geom.low in omega arith

  -- where a class asks whether there are two sectors, the provider is longer than one
  pub longer : IsSome (if nat_le 2 (p.size / p.sector) then Some (p.size / p.sector - 1) else None)
      → p.sector < p.size
  longer some =
      let two : 2 ≤ p.size / p.sector = two_sectors (p.size / p.sector) (p.size / p.sector - 1) some in
      let all : p.size / p.sector * p.sector ≤ p.size = div-mul-le_self p.size p.sector in
      let more : 2 * p.sector ≤ p.size / p.sector * p.sector = mul-le-mul_right p.sector two in
      let positive : 1 ≤ p.size = media.positive in
      omega arith
