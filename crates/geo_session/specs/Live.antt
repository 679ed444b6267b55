-- What a live mesh holds, and what holds of it.
use Rattle.std.specs.Prelude.{[]}
use Rattle.geo_model.specs.Fitting.{Firm}
use Rattle.geo_state.specs.Holds.{Holds}
use Rattle.geo_state.specs.World.{world, HasBytes}
use Rattle.geo_session.specs.declared.live.Live.{Live}
use Rattle.geo_session.specs.Session.{SessionView, HistoryOf, none_left}

-- what is seen of it: the world for which its state stands, where no actor has a command left, and the counts of
-- steps and of those of the graph
abbrev pub session_view : Live → SessionView
session_view l = record {
  world = world (none_left l.actors) [] l.state;
  steps = l.steps;
  generation = l.generation;
}

-- what is kept beside its parts is kept, no bio names a place of a log, and it is firm; and there are a plan, sizes of
-- its disks and a legal log that lead from the opening to its world
pub record IsSession (l : Live) : Type 0 where
  pub holds : Holds l.state
  pub bytes : HasBytes [] l.state
  pub firm : Firm (session_view l).world
  pub history : ∥ HistoryOf (session_view l) ∥₁
