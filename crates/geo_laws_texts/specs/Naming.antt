-- Names of providers.
use Rattle.std.specs.Prelude.{All, IsTrue}
use Rattle.geo_base.specs.Name.{is_name}
use Rattle.geo_model.specs.Topology.{Topology}
use Rattle.geo_model.specs.World.{Config}
use Rattle.geo_model.specs.Log.{replay}
use Rattle.geo_model.specs.Laws.{OfEachLegalLog}

-- each provider has a name that is one
abbrev pub HaveNames : Topology Config → Type 0
HaveNames t = All (λ p. IsTrue (is_name p.name)) t.providers

-- so it is where each legal log leads
abbrev pub LegalLogsHaveNames : Type 0
LegalLogsHaveNames = OfEachLegalLog (λ opened log. HaveNames (replay opened log).topology)
