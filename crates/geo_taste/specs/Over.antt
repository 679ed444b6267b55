-- Which classes have a geom over a provider.
use Rattle.std.specs.Prelude.{ℕ, ◌==◌, Bool, false, not, ◌&&◌, ◌||◌, List, filter}
use Rattle.std.specs.Option.{option_map_or}
use Rattle.geo_base.specs.declared.kind.Kind.{Kind}
use Rattle.geo_base.specs.declared.kind.Kind.TheVariants as kinds
use Rattle.geo_model.specs.Words.{is_kind, names_number}
use Rattle.geo_model.specs.Topology.{Topology, Consumer, geom_at}

-- whether the geom stands, is of the class and isn't withering
abbrev pub stands_as : {C : Type 0} → Topology C → Kind → ℕ → Bool
stands_as t kind g = option_map_or (λ x. is_kind x.kind kind && not x.withering) (geom_at t g) false

-- whether a consumer may be of a geom of the class: a handle's is of DEV
abbrev pub may_be_of : Kind → Consumer → Bool
may_be_of kind c = is_kind kind kinds.Dev || not (c.geom == 1)

-- the consumers at the provider that may be
abbrev pub over : {C : Type 0} → Topology C → Kind → ℕ → List Consumer
over t kind p = filter (λ c. names_number c.provider p && may_be_of kind c) t.consumers
