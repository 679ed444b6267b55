-- Concats and stripes of the providers that a command names, by what they have in common.
use Rattle.std.specs.Prelude.{◌≡◌, ℕ, ◌*◌, ◌/◌, ◌%◌, ◌≤◌, ◌==◌, nat_lt, Bool, true, false, not, ◌||◌, List, length, map, sum, Option, Some, None, All}
use Rattle.std.specs.List.{range_with_len}
use Rattle.geo_base.specs.declared.errno.Errno.{Errno}
use Rattle.geo_base.specs.declared.kind.Kind.{Kind}
use Rattle.geo_base.specs.declared.kind.Kind.TheVariants as kinds
use Rattle.geo_base.specs.declared.limits.TheConstants.{MAX_COMPONENTS, MAX_MEDIA_BYTES, MAX_STRIPE_BYTES}
use Rattle.geo_model.specs.declared.step.Outcome.{Outcome}
use Rattle.geo_model.specs.Words.{first_error}
use Rattle.geo_model.specs.Names.{concat_name, stripe_name}
use Rattle.geo_model.specs.Topology.{Topology, Provider, is_name_taken}
use Rattle.geo_model.specs.World.{World, Config, Concat, Stripe}
use Rattle.geo_model.specs.Acceptance.{joined_size, smallest}
use Rattle.geo_model.specs.GeomCommands.{found_providers, joined_tests, new_places, sector_of, with_made}
use Rattle.geo_model.specs.HandleCommands.{answer}
use Rattle.geo_mesh.specs.Topo.{is_provider_size}
use Rattle.geo_moves.specs.NewGeom.{NewGeom}
use Rattle.geo_moves.specs.Offer.{Offer}
use Rattle.geo_moves.specs.Standing.{CanStandOn}
use Rattle.geo_moves.specs.declared.assemblies.Assembly.{Assembly}
use Rattle.geo_moves.specs.declared.assemblies.Assembly.TheVariants as assemblies
use Rattle.geo_moves.specs.declared.below.Below.{Below}
use Rattle.geo_moves.specs.Below.{below_seen}

-- What tells them apart

-- the class
abbrev pub assembly_kind : Assembly → Kind
assembly_kind assemblies.Concat = kinds.Concat
assembly_kind (assemblies.Stripe stripe) = kinds.Stripe

-- the size over components of these sizes
abbrev pub assembly_size : Assembly → List ℕ → ℕ
assembly_size assemblies.Concat sizes = sum sizes
assembly_size (assemblies.Stripe stripe) sizes = length sizes * ((smallest sizes / stripe) * stripe)

-- whether there are strips that aren't whole sectors of a size, or are longer than the longest request
abbrev pub has_bad_strips : Assembly → ℕ → Bool
has_bad_strips assemblies.Concat sector = false
has_bad_strips (assemblies.Stripe stripe) sector = not (stripe % sector == 0) || nat_lt MAX_STRIPE_BYTES stripe

-- the name of the provider, by that of the geom
abbrev pub assembly_name : Assembly → List ℕ → List ℕ
assembly_name assemblies.Concat name = concat_name name
assembly_name (assemblies.Stripe stripe) name = stripe_name name

-- the configuration, by the consumers and the sizes of the components
abbrev pub assembly_config : Assembly → List (Option ℕ) → List ℕ → Config
assembly_config assemblies.Concat places sizes = Concat None places sizes
assembly_config (assemblies.Stripe stripe) places sizes = Stripe None stripe places sizes

-- What they have in common

-- the providers of at most 16 names, as they were found
pub record AreAllFound (t : Topology Config) (names : List (List ℕ)) (below : List Below) : Type 0 where
  pub few : length names ≤ MAX_COMPONENTS
  pub is : below ≡ map (below_seen t) (found_providers t names)

-- the configuration of a new assembly of whole providers
abbrev pub config_of_all : Topology Config → Assembly → List Provider → Config
config_of_all t assembly ps = assembly_config assembly (new_places t ps) (map (λ p. p.size) ps)

-- what refuses it under a name, where so many providers were wanted
abbrev pub assembly_refusal : Topology Config → Assembly → List ℕ → ℕ → List Provider → Option Errno
assembly_refusal t assembly name wanted ps =
    first_error
    (joined_tests t (assembly_name assembly name) (config_of_all t assembly ps) wanted ps
    (has_bad_strips assembly (sector_of ps)))

-- the model's command, be it `do_concat` or `do_stripe`
abbrev pub do_assembly : World → ℕ → Assembly → List ℕ → ℕ → List Provider → World × Outcome
do_assembly w line assembly name wanted ps =
    let config : Config = config_of_all w.topology assembly ps in
    answer w line
    (assembly_refusal w.topology assembly name wanted ps)
    (with_made w (assembly_kind assembly) name config ps (assembly_name assembly name) (joined_size config)
    (sector_of ps))

-- What is made

-- the geom of an assembly of what was found
abbrev pub assembly_geom : Topology Config → Assembly → List ℕ → List Below → NewGeom
assembly_geom t assembly name below = record {
  kind = assembly_kind assembly;
  name = name;
  config = assembly_config assembly (map (λ n. Some n) (range_with_len t.next_consumer (length below)))
      (map (λ x. x.size) below);
}

-- it can be made of what was found, which has these sizes, with such a provider
pub record CanAssemble (t : Topology Config) (assembly : Assembly) (below : List Below) (sizes : List ℕ)
    (offer : Offer) : Type 0 where
  pub read : sizes ≡ map (λ x. x.size) below
  pub few : length below ≤ MAX_COMPONENTS
  pub some : 1 ≤ assembly_size assembly sizes
  pub limited : assembly_size assembly sizes ≤ MAX_MEDIA_BYTES
  pub stands : All (CanStandOn t) (map (λ x. x.prov) below)
  pub sized : is_provider_size offer.size offer.sector ≡ true
  pub free : is_name_taken t offer.name ≡ false
