-- What a taste needs to know of its provider, as long as it goes on.
use Rattle.std.specs.Prelude.{Option, None, if◌then◌else◌}
use Rattle.geo_model.specs.Topology.{Topology, Provider, provider_at}
use Rattle.geo_model.specs.Tasting.{is_ended}
use Rattle.geo_model.specs.World.{Config, Taste}

-- the tasted provider, unless the taste has ended
abbrev pub going : Topology Config → Taste → Option Provider
going t s = if is_ended t s then None else provider_at t s.provider
