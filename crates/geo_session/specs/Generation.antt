-- Which steps are of the graph. All that may change geoms, providers, consumers, their counts or handles are: each
-- step that works on the graph, each command but requests, waits and the listing, and the Up that brings a taste's
-- read back, since the read count of the taste goes with it. What else a step does is done to bios alone, and to the
-- count of started requests that a NOP geom keeps for itself.
use Rattle.std.specs.Prelude.{ℕ, ◌+◌, ◌%◌, ◌^◌, Bool, true, false, cond}
use Rattle.std.specs.Option.{option_map_or}
use Rattle.geo_model.specs.declared.command.Command.{Command}
use Rattle.geo_model.specs.declared.command.Command.TheVariants as commands
use Rattle.geo_model.specs.declared.step.Outcome.{Outcome}
use Rattle.geo_model.specs.declared.step.Outcome.TheVariants as outcomes
use Rattle.geo_model.specs.declared.step.Step.{Step}
use Rattle.geo_model.specs.declared.step.Step.TheVariants as steps
use Rattle.geo_model.specs.History.{next_command}
use Rattle.geo_model.specs.World.{World}

-- a command is of the graph unless it is a request (a record is written by one), waits, or lists
abbrev pub is_graph_command : Command → Bool
is_graph_command (commands.Read name offset len) = false
is_graph_command (commands.Write name offset bytes) = false
is_graph_command (commands.Delete name offset len) = false
is_graph_command (commands.Flush name) = false
is_graph_command (commands.Label name label) = false
is_graph_command (commands.Relabel name label) = false
is_graph_command (commands.MarkConcat name label id place count) = false
is_graph_command (commands.MarkStripe name label id place count stripe) = false
is_graph_command commands.Sync = false
is_graph_command commands.Settle = false
is_graph_command commands.Mesh = false
is_graph_command _ = true

-- a step that works on the graph itself
abbrev pub is_graph_step : Step → Bool
is_graph_step steps.Event = true
is_graph_step steps.Judge = true
is_graph_step steps.Reap = true
is_graph_step steps.Wash = true
is_graph_step _ = false

-- the read of a taste came back
abbrev pub is_taste_back : Outcome → Bool
is_taste_back outcomes.TasteBack = true
is_taste_back _ = false

-- whether a step that is made in a world, with this outcome, is of the graph
abbrev pub is_of_graph : World → Step → Outcome → Bool
is_of_graph w (steps.Go actor) outcome =
    option_map_or (λ c. is_graph_command c.command) (next_command w actor) false
is_of_graph w (steps.Up bio) outcome = is_taste_back outcome
is_of_graph w s outcome = is_graph_step s

-- the generation after a step: one more if the step is of the graph; after 2^64 - 1 comes 0
abbrev pub next_generation : ℕ → Bool → ℕ
next_generation generation is = (generation + cond is 1 0) % 2 ^ 64
