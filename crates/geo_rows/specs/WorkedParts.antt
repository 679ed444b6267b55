-- Worked parts: attaching, pieces and records.
use Rattle.std.specs.Prelude.{ℕ, zero, suc, Bool, false, List, [], ◌∷◌, ◌++◌, replicate, Option, Some, None, is_some, codes}
use Rattle.geo_base.specs.declared.errno.Errno.{Errno}
use Rattle.geo_base.specs.declared.kind.Kind.TheVariants as kinds
use Rattle.geo_model.specs.Words.{first_error}
use Rattle.geo_model.specs.Names.{concat_name}
use Rattle.geo_model.specs.Topology.{Topology, Provider, provider_at, add_geom, add_provider, add_consumer}
use Rattle.geo_model.specs.Rank.{attach_refusal}
use Rattle.geo_model.specs.World.{World, Config, Nothing, Stripe}
use Rattle.geo_model.specs.declared.span.Piece.{Piece}
use Rattle.geo_model.specs.Place.{Spot}
use Rattle.geo_model.specs.declared.class.Shape.TheVariants.{Slices}
use Rattle.geo_model.specs.Acceptance.{accept}
use Rattle.geo_model.specs.GeomCommands.{joined_tests, concat_config}
use Rattle.geo_model.specs.Opening.{first_topology, opening}
use Rattle.geo_rows.specs.Rows.{idle_plan}

-- a chain of geoms: the first has a provider alone, each next one also a consumer at the one before; geom k has
-- number k + 2
abbrev pub below_next : ℕ → Option ℕ
below_next (suc (suc p)) = Some (suc p)
below_next _ = None

abbrev pub floor : Topology Config → Topology Config
floor t =
    add_provider
    (add_consumer (add_geom t kinds.Nop (codes "n") Nothing false) t.next_geom (below_next t.next_provider))
    t.next_geom (codes "n") 2048 512

abbrev pub chain : ℕ → Topology Config
chain zero = first_topology
chain (suc k) = floor (chain k)

-- a new geom with one consumer that isn't attached, beside a chain
abbrev pub with_loose : Topology Config → Topology Config
with_loose t = add_consumer (add_geom t kinds.Nop (codes "m") Nothing false) t.next_geom None

-- the same with a provider of the new geom
abbrev pub with_own : Topology Config → Topology Config
with_own t = add_provider (with_loose t) t.next_geom (codes "m") 2048 512

-- what refuses that the new consumer is attached to a provider
abbrev pub loose_refusal : Topology Config → ℕ → Option Errno
loose_refusal t p = attach_refusal (with_own t) t.next_consumer p

-- a stripe over three components of four sectors
abbrev pub three_way : Config
three_way = Stripe None 512 (Some 1 ∷ Some 2 ∷ Some 3 ∷ []) (2048 ∷ 2048 ∷ 2048 ∷ [])

abbrev pub three_way_provider : Provider
three_way_provider = record {
  number = 1;
  geom = 3;
  name = codes "stripe/s";
  size = 6144;
  sector = 512;
  errored = false;
}

abbrev pub piece : ℕ → ℕ → ℕ → ℕ → Piece
piece child offset len place = record { child = child; span = record { offset = offset; len = len }; at = place }

abbrev pub spot : ℕ → ℕ → Spot
spot component offset = record { component = component; offset = offset }

-- a table with one entry
abbrev pub one_entry : ℕ → List ℕ → List ℕ
one_entry kind numbers = replicate 450 0 ++ (kind ∷ replicate 3 0 ++ numbers ++ replicate 48 0 ++ 85 ∷ 170 ∷ [])

-- what refuses that a concat of one component is made over a provider
abbrev pub concat_refusal_over : World → List ℕ → Option Provider → Option Errno
concat_refusal_over w name None = None
concat_refusal_over w name (Some p) =
    first_error (joined_tests w.topology (concat_name name) (concat_config w.topology (p ∷ [])) 1 (p ∷ []) false)

abbrev pub concat_refusal : Topology Config → List ℕ → ℕ → Option Errno
concat_refusal t name p =
    concat_refusal_over (record (opening idle_plan ((512, 4) ∷ [])) { topology = t }) name (provider_at t p)

-- a disk whose name has so many bytes, and what an MBR table with one slice makes of it
abbrev pub long_named : ℕ → Provider
long_named n = record { number = 1; geom = 3; name = replicate n 97; size = 4096; sector = 512; errored = false }

abbrev pub makes_slice : ℕ → Bool
makes_slice n =
    is_some (accept (record { topology = first_topology; events = [] }) (long_named n)
    (Slices (record { slices = Some (record { first = 1; count = 7 }) ∷ None ∷ None ∷ None ∷ [] })))
