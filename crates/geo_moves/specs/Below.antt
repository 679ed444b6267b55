-- The providers that a command names, as far as its tests read them.
use Rattle.std.specs.Prelude.{ℕ, ◌+◌, ◌==◌, ◌%◌, nat_le, nat_lt, Bool, not, ◌||◌, List, [], ◌∷◌, length, map, Option, is_none, option_and_then}
use Rattle.std.specs.List.{list_any, list_all}
use Rattle.geo_base.specs.declared.errno.Errno.{Errno}
use Rattle.geo_base.specs.declared.errno.Errno.TheVariants.{ENOENT, EEXIST, ENXIO, EINVAL, EDEEP}
use Rattle.geo_base.specs.declared.limits.TheConstants.{MAX_RANK, MAX_STRIPE_BYTES}
use Rattle.geo_model.specs.Words.{largest}
use Rattle.geo_model.specs.Topology.{Topology, Provider, provider_at, find_provider, is_name_taken}
use Rattle.geo_model.specs.Rank.{rank}
use Rattle.geo_model.specs.World.{Config}
use Rattle.geo_moves.specs.declared.below.Below.{Below}

-- a provider, with the rank of its geom
abbrev pub below_seen : Topology Config → Provider → Below
below_seen t p = record {
  prov = p.number;
  size = p.size;
  sector = p.sector;
  errored = p.errored;
  rank = rank t p.geom;
}

-- the provider of a name
abbrev pub provider_named : Topology Config → List ℕ → Option Provider
provider_named t name = option_and_then (provider_at t) (find_provider t name)

-- the sector size of the first, 512 where there is none
abbrev pub sector_below : List Below → ℕ
sector_below [] = 512
sector_below (x ∷ xs) = x.sector

-- whether one carries an error
abbrev pub any_errored : List Below → Bool
any_errored xs = list_any (λ x. x.errored) xs

-- whether all have this sector size
abbrev pub have_sector : ℕ → List Below → Bool
have_sector sector xs = list_all (λ x. x.sector == sector) xs

-- the greatest rank of their geoms
abbrev pub rank_below : List Below → ℕ
rank_below xs = largest (map (λ x. x.rank) xs)

-- whether a stripe size isn't whole sectors, or is longer than the longest request
abbrev pub is_bad_stripe : ℕ → List Below → Bool
is_bad_stripe stripe xs = not (stripe % sector_below xs == 0) || nat_lt MAX_STRIPE_BYTES stripe

-- whether the sector sizes differ, or the size is none that a provider may have
abbrev pub is_bad_join : List Below → Option ℕ → Bool
is_bad_join xs size = not (have_sector (sector_below xs) xs) || is_none size

-- whether a window is empty, isn't in whole sectors or passes the media
abbrev pub is_bad_nop : Below → ℕ → ℕ → Bool
is_bad_nop x offset size =
    (size == 0) || (not (offset % x.sector == 0) || (not (size % x.sector == 0) || nat_lt x.size (offset + size)))

-- what is against a concat or a stripe, by what was found below
abbrev pub tests_below : Topology Config → List ℕ → List Below → ℕ → Option ℕ → Bool → List (Bool × Errno)
tests_below t name xs wanted size is_bad =
    (is_name_taken t name, EEXIST)
    ∷ (not (length xs == wanted), ENOENT)
    ∷ (any_errored xs, ENXIO)
    ∷ (is_bad || is_bad_join xs size, EINVAL)
    ∷ (nat_le MAX_RANK (rank_below xs), EDEEP)
    ∷ []
