-- What a Start does: to the bios, to the graph, and what comes of it.
use Rattle.std.specs.Prelude.{◌≡◌, ℕ, ◌+◌, List, ◌++◌, length, map}
use Rattle.geo_base.specs.declared.errno.Errno.TheVariants.{EIO}
use Rattle.geo_model.specs.declared.command.LineCommand.{LineCommand}
use Rattle.geo_model.specs.declared.step.Entry.{Entry}
use Rattle.geo_model.specs.declared.step.Outcome.{Outcome}
use Rattle.geo_model.specs.declared.step.Outcome.TheVariants as outcomes
use Rattle.geo_model.specs.declared.step.Phase.TheVariants as phases
use Rattle.geo_model.specs.Topology.{Topology, note_started}
use Rattle.geo_model.specs.World.{BioOf, Config, change_number}
use Rattle.geo_model.specs.Bios.{PieceTarget, Way, Bounces, Fails, Sends, Splits, Passes, up_with}
use Rattle.geo_bio.specs.declared.bio.Held.{Held}
use Rattle.geo_bio.specs.declared.bio.Held.TheVariants as held
use Rattle.geo_bio.specs.BioTable.{with_phase}
use Rattle.geo_bio.specs.PieceLaws.{target_in}
use Rattle.geo_bio.specs.Split.{split_into}
use Rattle.geo_log.specs.Places.{delivered_at}
use Rattle.geo_state.specs.Shown.{shown_bios}
use Rattle.geo_state.specs.declared.state.State.{State}
use Rattle.geo_state.specs.World.{world}

-- the bios once one was split by targets
abbrev pub split_bios : Topology Config → ℕ → ℕ → BioOf Held → List (BioOf Held) → List PieceTarget → List (BioOf Held)
split_bios t next b x bios zs =
    change_number b (with_phase phases.Waiting) bios
    ++ split_into next x 0 (map (λ z. z.piece) zs) (map (target_in t) zs)

-- the bios after a bio went a way
abbrev pub bios_after : Topology Config → ℕ → ℕ → BioOf Held → List (BioOf Held) → Way → List (BioOf Held)
bios_after t next b x bios (Bounces e) = change_number b (up_with (held.Failed e)) bios
bios_after t next b x bios (Fails g) = change_number b (up_with (held.Failed EIO)) bios
bios_after t next b x bios (Sends disk) = change_number b (with_phase phases.Sent) bios
bios_after t next b x bios (Splits zs) = split_bios t next b x bios zs
bios_after t next b x bios (Passes g zs) = split_bios t next b x bios zs

-- the next number
abbrev pub next_after : ℕ → Way → ℕ
next_after next (Splits zs) = next + length zs
next_after next (Passes g zs) = next + length zs
next_after next _ = next

-- the graph
abbrev pub graph_after : Topology Config → Way → Topology Config
graph_after t (Fails g) = note_started t g
graph_after t (Passes g zs) = note_started t g
graph_after t _ = t

-- what comes of it
abbrev pub outcome_of : ℕ → Way → Outcome
outcome_of next (Bounces e) = outcomes.Bounced
outcome_of next (Fails g) = outcomes.Bounced
outcome_of next (Sends disk) = outcomes.Queued disk
outcome_of next (Splits zs) = outcomes.Split next (length zs)
outcome_of next (Passes g zs) = outcomes.Split next (length zs)

-- the bio of a number went a way
pub record HasStarted (old new : State) (b : ℕ) (x : BioOf Held) (way : Way) (o : Outcome) : Type 0 where
  pub bios : new.traffic.bios ≡ bios_after old.topo.topology old.traffic.next b x old.traffic.bios way
  pub outcome : o ≡ outcome_of old.traffic.next way
  pub seen : (actors : List (List LineCommand)) (log : List Entry)
      → world actors log new ≡ record (world actors log old) {
        topology = graph_after old.topo.topology way;
        bios = shown_bios (delivered_at log) new.traffic.bios;
        next_bio = next_after old.traffic.next way;
      }
