-- Which way a request goes down (g_bio(9)), and its pieces with the consumers through which they go.
use Rattle.std.specs.Prelude.{◌≡◌, ℕ, ◌+◌, ◌<◌, ◌≤◌, ◌^◌, false, List, map, Some, None, IsSome, IsSomeAnd, unwrap_or, if◌then◌else◌}
use Rattle.std.specs.List.{AllByRecursion}
use Rattle.geo_model.specs.Words.{is_flush}
use Rattle.geo_model.specs.Topology.{Topology, Geom, Provider, geom_at, provider_at, provider_of_consumer}
use Rattle.geo_model.specs.World.{BioOf, Config}
use Rattle.geo_model.specs.Place.{component, disk_of, pieces}
use Rattle.geo_model.specs.Bios.{PieceTarget, Way, Bounces, Fails, Sends, Splits, Passes, is_hit, piece_targets}
use Rattle.geo_bio.specs.PieceLaws.{target_in}
use Rattle.geo_class.specs.Split.{Covers}
use Rattle.geo_moves.specs.declared.cut.Cut.{Cut}
use Rattle.geo_moves.specs.declared.way.Way.{Way as OwnWay}
use Rattle.geo_moves.specs.declared.way.Way.TheVariants as ways

-- a consumer with the provider to which it is attached; the zero stands for a consumer that isn't attached, which no
-- component is
abbrev pub through : Topology Config → ℕ → ℕ × ℕ
through t c = (c, unwrap_or (provider_of_consumer t c) 0)

-- a range lies in the geom's provider, whose offsets the geom's map covers, and each of its pieces has a consumer
pub record IsCovered (config : Config) (p : Provider) (offset len : ℕ) : Type 0 where
  pub some_byte : 0 < len
  pub inside : offset + len ≤ p.size
  pub covered : Covers config p.name p.size
  pub filled : AllByRecursion (λ s. IsSome (component config s.child)) (pieces config p offset len)

-- a request that isn't a FLUSH has such a range
abbrev pub CanBeCut : {R : Type 0} → Config → Provider → BioOf R → Type 0
CanBeCut config p x = is_flush x.cmd ≡ false → IsCovered config p x.offset x.len

-- so it is at the provider to which the request goes, unless a disk stands for its geom
abbrev pub CanGoDown : {R : Type 0} → Topology Config → BioOf R → Type 0
CanGoDown t x =
    (p : Provider) (g : Geom Config) → provider_at t x.target ≡ Some p → geom_at t p.geom ≡ Some g
    → disk_of g.config ≡ None → CanBeCut g.config p x

-- pieces of a request, with the consumers and the providers of their targets
pub record IsCut (t : Topology Config) (cut : Cut) (zs : List PieceTarget) : Type 0 where
  pub pieces : cut.pieces.items ≡ map (λ z. z.piece) zs
  pub targets : cut.targets.items ≡ map (target_in t) zs

-- a way that the model names by the targets of some pieces
pub record GoesBy (t : Topology Config) (parts : Cut) (named : List PieceTarget → Way) (way : Way) : Type 0 where
  pub targets : List PieceTarget
  pub is : way ≡ named targets
  pub cut : IsCut t parts targets

-- one more request can be counted at the geom
abbrev pub CanCount : Topology Config → ℕ → Type 0
CanCount t g = IsSomeAnd (geom_at t g) (λ x. x.started < 2 ^ 63)

-- the way that the model names
abbrev pub IsModelWay : Topology Config → OwnWay → Way → Type 0
IsModelWay t (ways.Bounces e) way = way ≡ Bounces e
IsModelWay t (ways.Fails g) way = (way ≡ Fails g) × CanCount t g
IsModelWay t (ways.Sends disk) way = way ≡ Sends disk
IsModelWay t (ways.Splits cut) way = GoesBy t cut Splits way
IsModelWay t (ways.Passes g cut) way = GoesBy t cut (Passes g) way × CanCount t g

-- the way at a NOP geom
abbrev pub at_nop : {R : Type 0} → BioOf R → Provider → Geom Config → ℕ → Way
at_nop x p g fail =
    if is_hit (g.started + 1) fail then Fails g.number else Passes g.number (piece_targets g.config p x)
