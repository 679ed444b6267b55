-- Where a legal log leads, no piece of a request that can start is lost (g_bio(9)).
use Rattle.std.specs.Prelude.{◌≡◌, ℕ, Option, Some, None}
use Rattle.std.proofs.Common.{refl, ap, sym, ◌∙◌}
use Rattle.std.proofs.lemmas.Option.{same_Some}
use Rattle.geo_model.specs.Words.{◌>>=◌}
use Rattle.geo_model.specs.Topology.{Topology, Geom, Provider, provider_at, geom_at, provider_with_geom}
use Rattle.geo_model.specs.World.{World, Config}
use Rattle.geo_model.specs.Opening.{opening}
use Rattle.geo_model.specs.Log.{replay}
use Rattle.geo_model.specs.Laws.{NoPieceIsLost}
use Rattle.geo_laws_bios.proofs.Pieces.{firm_meshes_lose_no_piece}
use Rattle.geo_laws_steps.proofs.Logs.{firm_after}

-- a provider that is found with its geom is found, and so is the geom
record FoundBoth (t : Topology Config) (n : ℕ) (p : Provider) (g : Geom Config) : Type 0 where
  pub provider : provider_at t n ≡ Some p
  pub geom : geom_at t p.geom ≡ Some g

-- the pair, and the provider with its geom
abbrev paired : Provider → Geom Config → Option (Provider × Geom Config)
paired q h = Some (q, h)

abbrev with_geom_of : Topology Config → Provider → Option (Provider × Geom Config)
with_geom_of t q = geom_at t q.geom >>= paired q

-- what stands in two Somes that are equal
same_pair : (x y : Provider × Geom Config) → Some x ≡ Some y → x ≡ y
same_pair x y e = same_Some x y e

-- so it is where the two are found together
found_both : (t : Topology Config) (n : ℕ) (p : Provider) (g : Geom Config)
    → provider_with_geom t n ≡ Some (p, g) → FoundBoth t n p g
found_both t n p g is = by (provider_at t n) refl is
  where
    geom_by : (q : Provider) → provider_at t n ≡ Some q → (o : Option (Geom Config)) → geom_at t q.geom ≡ o
        → (o >>= paired q) ≡ Some (p, g) → FoundBoth t n p g
    geom_by q at None of e = absurd (let bad : ⊥ = cc in bad)
    geom_by q at (Some h) of e =
        let both : (q, h) ≡ (p, g) = same_pair (q, h) (p, g) e in
        let one : q ≡ p = ap (λ (x : Provider × Geom Config). x.0) both in
        let two : h ≡ g = ap (λ (x : Provider × Geom Config). x.1) both in
        record {
          provider = at ∙ ap (λ x. Some x) one;
          geom = ap (λ (x : Provider). geom_at t x.geom) (sym one) ∙ of ∙ ap (λ x. Some x) two;
        }

    by : (o : Option Provider) → provider_at t n ≡ o
        → (o >>= with_geom_of t) ≡ Some (p, g) → FoundBoth t n p g
    by None at e = absurd (let bad : ⊥ = cc in bad)
    by (Some q) at e = geom_by q at (geom_at t q.geom) refl e

-- no piece is lost
pub no_piece_is_lost : NoPieceIsLost
no_piece_is_lost plan facts is fit log legal x p g here found sound inner asks =
    let w : World = replay (opening plan facts) log in
    let both : FoundBoth w.topology x.target p g = found_both w.topology x.target p g found in
    (firm_meshes_lose_no_piece w x p g (firm_after plan facts is fit log) here both.provider both.geom inner asks).0
