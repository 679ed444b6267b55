-- What is washed, and what a state is after it (g_wither_geom(9)).
use Rattle.std.specs.Prelude.{◌≡◌, ℕ, List, Some}
use Rattle.geo_base.specs.declared.request.Counts.{Counts}
use Rattle.geo_model.specs.declared.command.LineCommand.{LineCommand}
use Rattle.geo_model.specs.declared.step.Entry.{Entry}
use Rattle.geo_model.specs.declared.step.WashWork.{WashWork}
use Rattle.geo_model.specs.Freeing.{wash_where, wash}
use Rattle.geo_life.specs.Life.{is_out, AreStored}
use Rattle.geo_life.specs.Wash.{IsFree}
use Rattle.geo_state.specs.declared.state.State.{State}
use Rattle.geo_state.specs.World.{world}

-- the part is the first that can go
pub record IsDue (s : State) (work : WashWork) : Type 0 where
  pub found : (granted : ℕ → Counts) → AreStored granted s.topo
      → Some work ≡ wash_where granted (is_out s.topo) s.topo.topology
  pub free : IsFree s.topo work

-- the part was washed away
abbrev pub HasWashed : State → State → WashWork → Type 0
HasWashed old new work =
    (actors : List (List LineCommand)) (log : List Entry) → world actors log new ≡ wash (world actors log old) work
