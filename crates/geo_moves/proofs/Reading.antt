-- The read of a taste that is submitted.
use Rattle.std.specs.Prelude.{◌≡◌, ℕ, ◌*◌, ◌/◌, ◌%◌, ◌<◌, ◌≤◌, ◌^◌, ◌==◌, nat_le, ◌||◌, List, [], ◌∷◌, ◌++◌, Some, IsSomeAnd}
use Rattle.std.specs.Option.{option_map_or}
use Rattle.std.proofs.Common.{subst, arith}
use Rattle.std.proofs.Math.Nat.{div-mul-le_self, mul-le-mul_right}
use Rattle.std.proofs.lemmas.Bool.{and_parts, leb-true}
use Rattle.std.proofs.lemmas.List.Elements.{All-contains}
use Rattle.geo_base.specs.declared.request.BioCmd.TheVariants as cmds
use Rattle.geo_base.specs.declared.limits.TheConstants.{MAX_MEDIA_BYTES}
use Rattle.geo_model.specs.declared.span.Span.{Span}
use Rattle.geo_model.specs.declared.step.Owner.TheVariants as owners
use Rattle.geo_model.specs.Topology.{Topology, Provider, provider_at}
use Rattle.geo_model.specs.World.{Config, Taste}
use Rattle.geo_model.specs.Bios.{new_bio}
use Rattle.geo_laws_graph.proofs.Members.{find-Contains}
use Rattle.geo_mesh.specs.Graph.{IsOffer, IsSoundGraph}
use Rattle.geo_state.specs.declared.state.State.{State}
use Rattle.geo_state.specs.Bios.{OnlyBios}
use Rattle.geo_moves.specs.Judging.{with_taste}

-- the offset of a sector of a provider fits
pub sector-fits : (t : Topology Config) → IsSoundGraph t → (prov sector : ℕ) (p : Provider)
    → provider_at t prov ≡ Some p → IsSomeAnd (provider_at t prov) (λ x. sector < x.size / x.sector)
    → sector * p.sector < 2 ^ 64
sector-fits t sound prov sector p found inside =
    let offer : IsOffer p =
    All-contains IsOffer t.providers p sound.orderly.offers
    (find-Contains (λ (x : Provider). x.number == prov) t.providers p found) in
    let sizes = and_parts ((p.sector == 512) || (p.sector == 4096)) _ offer.sizes in
    let some = and_parts (nat_le 1 p.size) _ sizes.1 in
    let most = and_parts (nat_le p.size MAX_MEDIA_BYTES) (p.size % p.sector == 0) some.1 in
    let size : p.size ≤ MAX_MEDIA_BYTES = leb-true p.size MAX_MEDIA_BYTES most.0 in
    let below : sector < p.size / p.sector = subst (λ o. IsSomeAnd o (λ x. sector < x.size / x.sector)) found inside in
    let less : sector ≤ p.size / p.sector = omega (arith, below) in
    let times : sector * p.sector ≤ p.size / p.sector * p.sector = mul-le-mul_right p.sector less in
    let whole : p.size / p.sector * p.sector ≤ p.size = div-mul-le_self p.size p.sector in
    omega (arith, size, times, whole)

module _ (s new : State) (a : Taste) (sector : ℕ) (only : OnlyBios (with_taste s a) new) (span : Span) (bytes : List ℕ)
    (bios : new.traffic.bios ≡ s.traffic.bios
    ++ new_bio s.traffic.next cmds.Read span.offset span.len bytes a.consumer a.provider owners.Taste ∷ [])
  where
    -- the bytes of the sector
    abbrev size : ℕ
    size = option_map_or (λ (p : Provider). p.sector) (provider_at s.topo.topology a.provider) 512
