-- What append answers and does: a standing concat gets one more component, and its provider grows.
use Rattle.std.specs.Prelude.{ℕ, ◌+◌, ◌==◌, nat_lt, nat_le, Bool, false, not, ◌&&◌, ◌||◌, List, [], ◌∷◌, length, find, Option, Some, None}
use Rattle.std.specs.List.{list_any}
use Rattle.std.specs.Option.{option_map_or, option_and_then, option_or}
use Rattle.geo_base.specs.declared.errno.Errno.{Errno}
use Rattle.geo_base.specs.declared.errno.Errno.TheVariants.{ENOENT, EBUSY, EINVAL}
use Rattle.geo_base.specs.declared.kind.Kind.TheVariants as kinds
use Rattle.geo_base.specs.declared.limits.TheConstants.{MAX_COMPONENTS, MAX_MEDIA_BYTES}
use Rattle.geo_model.specs.declared.step.Event.TheVariants as events
use Rattle.geo_model.specs.declared.step.Outcome.{Outcome}
use Rattle.geo_model.specs.Words.{first_error, is_kind, same_name}
use Rattle.geo_model.specs.Topology.{Topology, Geom, Provider, providers_of, consumers_of, add_consumer, set_config, set_size}
use Rattle.geo_model.specs.Opens.{is_below, join_refusal}
use Rattle.geo_model.specs.World.{World, Config, granted_in}
use Rattle.geo_model.specs.Events.{post}
use Rattle.geo_model.specs.WorldEvents.{queued_of, with_queued, after_open}
use Rattle.geo_model.specs.Acceptance.{add_place}
use Rattle.geo_model.specs.HandleCommands.{refused, done, without_number}
use Rattle.geo_model.specs.GeomCommands.{found_provider}

-- a concat that may grow, and its provider
pub record Growing : Type 0 where
  pub geom : Geom Config
  pub provider : Provider

-- the first provider of a geom, with the geom
abbrev pub with_provider : Geom Config → List Provider → Option Growing
with_provider g [] = None
with_provider g (p ∷ ps) = Some (record { geom = g; provider = p })

-- the CONCAT geom of the name that isn't withering and has a provider, the one with the smallest number
abbrev pub is_growing : Topology Config → List ℕ → Geom Config → Bool
is_growing t name g =
    is_kind g.kind kinds.Concat
    && (not g.withering && (same_name g.name name && not (length (providers_of t g.number) == 0)))

abbrev pub growing_concat : Topology Config → List ℕ → Option Growing
growing_concat t name =
    option_and_then (λ g. with_provider g (providers_of t g.number)) (find (is_growing t name) t.geoms)

-- the geom was made by a taste or is full, the sector sizes differ, or the provider would be too large
abbrev pub is_invalid_append : Topology Config → Growing → Provider → Bool
is_invalid_append t x q =
    x.geom.automatic
    || (nat_le MAX_COMPONENTS (length (consumers_of t x.geom.number))
    || (not (x.provider.sector == q.sector) || nat_lt MAX_MEDIA_BYTES (x.provider.size + q.size)))

-- whether a bio is to the provider or to one above it, or a taste of such a provider is under way
abbrev pub is_growth_busy : World → ℕ → Bool
is_growth_busy w p =
    list_any (λ x. is_below w.topology p x.target) w.bios
    || option_map_or (λ s. is_below w.topology p s.provider) w.taste false

-- what is against an append before a consumer is made for it
abbrev pub append_tests : World → Growing → Provider → List (Bool × Errno)
append_tests w x q = (is_invalid_append w.topology x q, EINVAL) ∷ (is_growth_busy w x.provider.number, EBUSY) ∷ []

-- what refuses the new consumer of the geom, if anything does
abbrev pub component_refusal : World → Growing → Provider → Option Errno
component_refusal w x q =
    join_refusal (granted_in w) (add_consumer w.topology x.geom.number None) w.topology.next_consumer q.number

-- the world with the new component and the provider grown by its size
abbrev pub with_component : World → Growing → Provider → World
with_component w x q = record w {
  topology =
      set_size
      (set_config
      (add_consumer w.topology x.geom.number (Some q.number))
      x.geom.number
      (add_place x.geom.config w.topology.next_consumer q.size))
      x.provider.number
      (x.provider.size + q.size);
}

-- what rises is treated as at an open, and then the growth is to be heard of above
abbrev pub appended : World → Growing → Provider → World
appended w x q =
    let opened : World = after_open w (with_component w x q) in
    with_queued opened (post (queued_of opened) (events.Resize x.provider.number))

-- a refusal of the new consumer uses up its number
abbrev pub append_joined : World → ℕ → Growing → Provider → Option Errno → World × Outcome
append_joined w line x q None = done (appended w x q) line
append_joined w line x q (Some e) = refused (without_number w) line e

abbrev pub append_tested : World → ℕ → Growing → Provider → Option Errno → World × Outcome
append_tested w line x q None = append_joined w line x q (component_refusal w x q)
append_tested w line x q (Some e) = refused w line e

abbrev pub do_append : World → ℕ → Option Growing → Option Provider → World × Outcome
do_append w line (Some x) (Some q) = append_tested w line x q (first_error (append_tests w x q))
do_append w line _ _ = refused w line ENOENT

-- what refuses an append, if anything does
abbrev pub append_refusal_of : World → Option Growing → Option Provider → Option Errno
append_refusal_of w (Some x) (Some q) = option_or (first_error (append_tests w x q)) (component_refusal w x q)
append_refusal_of w _ _ = Some ENOENT

abbrev pub append_refusal : World → List ℕ → List ℕ → Option Errno
append_refusal w name prov = append_refusal_of w (growing_concat w.topology name) (found_provider w prov)
