-- Each step keeps all that bios use, and so the map of each bio's target.
use Rattle.std.specs.Prelude.{◌≡◌, ℕ, false, List, [], ◌∷◌, Some, slice_get}
use Rattle.std.proofs.Common.{refl}
use Rattle.geo_model.specs.declared.command.Command.{Command}
use Rattle.geo_model.specs.declared.command.Command.TheVariants as commands
use Rattle.geo_model.specs.declared.command.LineCommand.{LineCommand}
use Rattle.geo_model.specs.declared.step.Step.{Step}
use Rattle.geo_model.specs.declared.step.Step.TheVariants as steps
use Rattle.geo_model.specs.World.{World}
use Rattle.geo_model.specs.Commands.{do_command}
use Rattle.geo_model.proofs.StepWalk.{step_by}
use Rattle.geo_model.specs.Step.{with_commands}
use Rattle.geo_model.specs.Log.{world_after}
use Rattle.geo_model.specs.Laws.{world_by}
use Rattle.geo_model.specs.Fitting.{Firm}
use Rattle.geo_laws_handles.proofs.Left.{commands_left_stay_firm}
use Rattle.geo_laws_steps.proofs.Stepped.{steps_stay_firm}
use Rattle.geo_laws_maps.specs.Ways.{Used}
use Rattle.geo_laws_maps.proofs.Opened.{used-down}
use Rattle.geo_laws_steps.specs.HeirLaws.{is_append, StepsInherit}
use Rattle.geo_laws_steps.specs.Heirs.{Follows}
use Rattle.geo_laws_steps.specs.WayLaws.{KeepsWays, StepsKeepUsed}
use Rattle.geo_laws_steps.proofs.SameMaps.{same-map}
use Rattle.geo_laws_steps.proofs.Followed.{Keeps, follows-keep, keeps-fewer}
use Rattle.geo_laws_steps.proofs.HeirJudges.{follows-same, judges-follow}
use Rattle.geo_laws_steps.proofs.HeirSteps.{head-follows, wash-follows, consumer-follows}
use Rattle.geo_laws_steps.proofs.HeirCommands.{command-follows}
use Rattle.geo_laws_steps.proofs.HeirBios.{same, way_kept, owner_kept}
use Rattle.geo_laws_steps.proofs.Growths.{appends-keep}

module _ (w : World) (firm : Firm w) (line actor : ℕ) where
  -- a command that isn't an append
  other_kept : (c : Command) → is_append c ≡ false → Keeps w (do_command w line actor c).0
  other_kept c other = follows-keep w (do_command w line actor c).0 firm (command-follows w line actor c other)

  -- an append
  append_kept : (name prov : List ℕ) → Keeps w (do_command w line actor (commands.Append name prov)).0
  unfolding do_command
  append_kept name prov = appends-keep w firm line name prov

  -- each command
  command_kept : (c : Command) → Keeps w (do_command w line actor c).0
  command_kept (commands.Append name prov) = append_kept name prov
  command_kept c = other_kept c refl

-- a Go
go_kept : (w : World) → Firm w → (actor : ℕ) (c : LineCommand) (rest : List LineCommand)
    → slice_get w.actors actor ≡ Some (c ∷ rest)
    → Keeps w (do_command (with_commands w actor rest) c.line actor c.command).0
go_kept w firm actor c rest left after =
    let v : World = with_commands w actor rest in
    keeps-fewer (Used w) (Used v)
    (λ p used. record { bio = used.bio; stands = used.stands; under = used.under })
    w.topology (do_command v c.line actor c.command).0.topology
    (command_kept v (commands_left_stay_firm.taken w actor c rest left firm) c.line actor c.command after)

-- what a step does, by its kind
abbrev Does : World → Step → World → Type 0
Does w (steps.Go actor) v = Firm w → Keeps w v
Does w steps.Event v = Follows w v
Does w steps.Judge v = Firm w → Follows w v
Does w steps.Reap v = Follows w v
Does w steps.Wash v = Follows w v
Does w s v = Keeps w v

-- one that isn't enabled does nothing
nothing_does : (w : World) (s : Step) → Does w s w
nothing_does w (steps.Go actor) = λ firm after. same (Used w) w
nothing_does w steps.Event = follows-same w
nothing_does w steps.Judge = λ firm. follows-same w
nothing_does w steps.Reap = follows-same w
nothing_does w steps.Wash = follows-same w
nothing_does w s = λ after. same (Used w) w

-- each step
step_does : (w : World) (seat : ℕ) (s : Step) → Does w s (world_by w seat s)
step_does w seat =
    step_by w seat (λ s a. Does w s (world_after w a)) (record {
      refuses = λ s f. nothing_does w s;
      goes = λ actor c rest is firm. go_kept w firm actor c rest is.left;
      runs = λ e rest is. head-follows w e rest;
      judges = λ s x j is firm. judges-follow w firm s x is.step j;
      reaps = λ h c is. consumer-follows w c;
      washes = λ work is. wash-follows w work;
      starts = λ b x way is after. way_kept (Used w) w x way;
      takes = λ disk b x is after. same (Used w) w;
      delivers = λ b got x is after. same (Used w) w;
      rises = λ b x o is after. owner_kept (Used w) w x o;
    })

-- so each leaves each part of the graph what it was, or makes it new
pub steps_inherit : StepsInherit
steps_inherit = record {
  done = command-follows;
  event = λ w seat. step_does w seat steps.Event;
  judge = λ w seat. step_does w seat steps.Judge;
  reap = λ w seat. step_does w seat steps.Reap;
  wash = λ w seat. step_does w seat steps.Wash;
}

-- and keeps what is used
step_kept : (w : World) (s : Step) (v : World) → Firm w → Does w s v → Keeps w v
step_kept w (steps.Go actor) v firm does = does firm
step_kept w steps.Event v firm does = follows-keep w v firm does
step_kept w steps.Judge v firm does = follows-keep w v firm (does firm)
step_kept w steps.Reap v firm does = follows-keep w v firm does
step_kept w steps.Wash v firm does = follows-keep w v firm does
step_kept w s v firm does = does

-- each step keeps ways
ways_kept : (w : World) (seat : ℕ) (s : Step) → Firm w → KeepsWays (Used w) w.topology (world_by w seat s).topology
ways_kept w seat s firm =
    step_kept w s (world_by w seat s) firm (step_does w seat s) (steps_stay_firm w seat s firm)

-- so each step keeps what is used, and the maps of it
pub steps_keep_used : StepsKeepUsed
steps_keep_used = record {
  ways = ways_kept;
  maps = λ w seat s x firm here.
      same-map w.topology (world_by w seat s).topology (Used w) (used-down w firm) (ways_kept w seat s firm)
      firm.graph.ranks.ranked (steps_stay_firm w seat s firm).graph.ranks.ranked x.target
      (record { bio = x; stands = here; under = record { over = []; way = refl } });
}
