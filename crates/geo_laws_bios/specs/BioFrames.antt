-- What a mesh keeps where only its bios change, or what is left of the commands, or how often a geom was started.
use Rattle.std.specs.Prelude.{ℕ, List, map, All}
use Rattle.geo_model.specs.declared.command.LineCommand.{LineCommand}
use Rattle.geo_model.specs.Topology.{Geom}
use Rattle.geo_model.specs.World.{World, Config, Bio}
use Rattle.geo_model.specs.Plans.{IsCommand}
use Rattle.geo_model.specs.Fitting.{BiosOf, Firm}

-- the world with other bios
abbrev pub with_bios : World → List Bio → ℕ → World
with_bios w bios next = record w { bios = bios; next_bio = next }

-- the world in which the actors have other commands left
abbrev pub with_left : World → List (List LineCommand) → World
with_left w actors = record w { actors = actors }

-- a firm mesh with other bios is firm where these are in order
abbrev pub BiosAreApart : Type 0
BiosAreApart = (w : World) (bios : List Bio) (next : ℕ) → Firm w → BiosOf (with_bios w bios next)
    → Firm (with_bios w bios next)

-- with other commands left a mesh stays firm
abbrev pub CommandsAreApart : Type 0
CommandsAreApart =
    (w : World) (actors : List (List LineCommand)) → All (All (λ c. IsCommand c.command)) actors → Firm w
    → Firm (with_left w actors)

-- a geom that has started another number of requests
abbrev pub restart : (Geom Config → ℕ) → Geom Config → Geom Config
restart started x = record x { started = started x }

-- the world in which each geom has started another number of requests
abbrev pub restarted : (Geom Config → ℕ) → World → World
restarted started w = record w { topology = record w.topology { geoms = map (restart started) w.topology.geoms } }

-- how many requests geoms have started doesn't matter to what holds of a mesh
abbrev pub RestartsStayFirm : Type 0
RestartsStayFirm = (started : Geom Config → ℕ) (w : World) → Firm w → Firm (restarted started w)
