-- What judging a sector makes of a taste is what the model's step makes of it.
use Rattle.std.specs.Prelude.{◌≡◌, ℕ}
use Rattle.geo_model.specs.Kind.{Kind}
use Rattle.geo_model.specs.Counts.{Counts}
use Rattle.geo_model.specs.declared.step.BioResult.{BioResult}
use Rattle.geo_model.specs.Events.{QueuedTopology}
use Rattle.geo_model.specs.Tasting.{facts_of, take_result}
use Rattle.geo_model.specs.Topology.{Provider}
use Rattle.geo_model.specs.World.{Config, Taste, ReadBack}
use Rattle.geo_class.specs.Taste.{after_back}

abbrev pub TastesFollow : Type 0
TastesFollow =
    (granted : ℕ → Counts) (q : QueuedTopology Config) (s : Taste) (p : Provider) (kind : Kind) (got : BioResult)
    → s.asked ≡ ReadBack kind got
    → (take_result granted q s p kind got).taste ≡ after_back granted s (facts_of q.topology p)
