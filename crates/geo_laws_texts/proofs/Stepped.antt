-- Each step keeps names.
use Rattle.std.specs.Prelude.{◌≡◌, ℕ, List, [], ◌∷◌, fold, Option, Some, None, slice_get}
use Rattle.std.specs.List.{AllByRecursion}
use Rattle.std.specs.Option.{option_map_or}
use Rattle.std.proofs.Common.{refl, sym, subst}
use Rattle.geo_model.specs.declared.command.LineCommand.{LineCommand}
use Rattle.geo_model.specs.declared.step.Event.{Event}
use Rattle.geo_model.specs.declared.step.Event.TheVariants as events
use Rattle.geo_model.specs.declared.step.Owner.{Owner}
use Rattle.geo_model.specs.declared.step.Owner.TheVariants as owners
use Rattle.geo_model.specs.declared.step.Phase.TheVariants as phases
use Rattle.geo_model.specs.declared.step.Step.{Step}
use Rattle.geo_model.specs.declared.step.WashWork.{WashWork}
use Rattle.geo_model.specs.declared.step.WashWork.TheVariants as washes
use Rattle.geo_model.specs.World.{World, Bio, bio_at, change_bio, granted_in}
use Rattle.geo_model.specs.Events.{is_not_tasted, spoil, orphan, resize, dying_consumers}
use Rattle.geo_model.specs.WorldEvents.{queued_of, with_queued, begin_taste, kill_handle, do_event}
use Rattle.geo_model.specs.Bios.{Way, Bounces, Fails, Sends, Splits, Passes, start_by, up_to, complete_parent, is_complete}
use Rattle.geo_model.specs.Freeing.{reap_consumer, reap_handle, washed}
use Rattle.geo_model.specs.Step.{with_commands}
use Rattle.geo_model.specs.Commands.{do_command}
use Rattle.geo_model.specs.Log.{world_after}
use Rattle.geo_model.specs.Laws.{world_by}
use Rattle.geo_model.proofs.Options.{at-found}
use Rattle.geo_model.proofs.StepWalk.{step_by}
use Rattle.geo_laws_texts.proofs.Lists.{all_placed, fact_at, either}
use Rattle.geo_laws_texts.proofs.Graphs.{IsNamed, gone_named, spoil_named, orphan_named, resize_named}
use Rattle.geo_laws_texts.proofs.Worlds.{AreCommands, KeepsNames, with_graph, with_queue, closed_keeps}
use Rattle.geo_laws_texts.proofs.Commanded.{command_keeps}
use Rattle.geo_laws_texts.proofs.Tasted.{judge_keeps}

-- handles that die
killed_keeps : (cs : List ℕ) (w : World) → KeepsNames w → KeepsNames (fold kill_handle w cs)
killed_keeps [] w keeps = keeps
killed_keeps (c ∷ cs) w keeps =
    killed_keeps cs (kill_handle w c) (record { graph = keeps.graph; disks = keeps.disks; left = keeps.left })

module _ (w : World) (keeps : KeepsNames w) where
  -- Events

  done_keeps : (e : Event) → KeepsNames (do_event w e)
  unfolding do_event
  done_keeps (events.NewProvider p) =
      either KeepsNames w (begin_taste w p) (is_not_tasted (granted_in w) w.topology p) keeps
      (record { graph = keeps.graph; disks = keeps.disks; left = keeps.left })
  done_keeps (events.Spoil p) = with_queue w (spoil (queued_of w) p) keeps (spoil_named (queued_of w) p keeps.graph)
  done_keeps (events.Orphan p) =
      with_queue (fold kill_handle w (dying_consumers w.topology p)) (orphan (queued_of w) p)
      (killed_keeps (dying_consumers w.topology p) w keeps) (orphan_named (queued_of w) p keeps.graph)
  done_keeps (events.Resize p) =
      with_queue w (resize (granted_in w) (queued_of w) p) keeps
      (resize_named (granted_in w) (queued_of w) p keeps.graph)

  -- Reaps and washes

  consumer_keeps : (o : Option ℕ) → KeepsNames (reap_handle w o)
  consumer_keeps None = keeps
  consumer_keeps (Some c) =
      closed_keeps w (reap_consumer w c) (record { graph = keeps.graph; disks = keeps.disks; left = keeps.left })

  wash_keeps : (work : WashWork) → KeepsNames (with_queued w (washed (queued_of w) work))
  wash_keeps (washes.Provider p) =
      record { graph = gone_named w.topology p keeps.graph; disks = keeps.disks; left = keeps.left }
  wash_keeps (washes.Consumer c) = record { graph = keeps.graph; disks = keeps.disks; left = keeps.left }
  wash_keeps (washes.Geom g) = record { graph = keeps.graph; disks = keeps.disks; left = keeps.left }

  -- Bios: they change no provider

  same_keeps : (v : World) → v.topology.providers ≡ w.topology.providers → v.disks ≡ w.disks → v.actors ≡ w.actors
      → KeepsNames v
  same_keeps v providers disks actors =
      with_graph w v keeps disks actors (subst (AllByRecursion IsNamed) (sym providers) keeps.graph)

  way_keeps : (x : Bio) (way : Way) → KeepsNames (start_by w x way).0
  way_keeps x (Bounces e) = same_keeps _ refl refl refl
  way_keeps x (Fails g) = same_keeps _ refl refl refl
  way_keeps x (Sends disk) = same_keeps _ refl refl refl
  way_keeps x (Splits targets) = same_keeps _ refl refl refl
  way_keeps x (Passes g targets) = same_keeps _ refl refl refl

  -- a parent that goes up, if it is there
  parent_keeps : (v : World) → KeepsNames v → (o : Option Bio) → KeepsNames (option_map_or (complete_parent v) o v)
  parent_keeps v before None = before
  parent_keeps v before (Some y) = record { graph = before.graph; disks = before.disks; left = before.left }

  rise_keeps : (x : Bio) (o : Owner) → KeepsNames (up_to w x o).0
  rise_keeps x (owners.Line handle line) = same_keeps _ refl refl refl
  rise_keeps x owners.Taste = same_keeps _ refl refl refl
  rise_keeps x (owners.Child parent index) =
      let gathered : World = change_bio w x.number (λ y. record y { phase = phases.Done }) in
      let before : KeepsNames gathered = record { graph = keeps.graph; disks = keeps.disks; left = keeps.left } in
      either KeepsNames (option_map_or (complete_parent gathered) (bio_at gathered parent) gathered) gathered
      (is_complete gathered parent) (parent_keeps gathered before (bio_at gathered parent)) before

-- the next command, of those that are left
go_keeps : (w : World) → KeepsNames w → (actor : ℕ) (c : LineCommand) (rest : List LineCommand)
    → slice_get w.actors actor ≡ Some (c ∷ rest)
    → KeepsNames (do_command (with_commands w actor rest) c.line actor c.command).0
go_keeps w keeps actor c rest left =
    let are : AreCommands (c ∷ rest) =
    at-found (slice_get w.actors actor) AreCommands (c ∷ rest) left (fact_at AreCommands w.actors actor keeps.left) in
    let before : KeepsNames (with_commands w actor rest) = record {
      graph = keeps.graph;
      disks = keeps.disks;
      left = all_placed AreCommands w.actors actor rest are.1 keeps.left;
    } in
    command_keeps (with_commands w actor rest) before c.line actor c.command are.0

-- each step
pub step_keeps : (w : World) → KeepsNames w → (seat : ℕ) (s : Step) → KeepsNames (world_by w seat s)
step_keeps w keeps seat =
    step_by w seat (λ s a. KeepsNames (world_after w a)) (record {
      refuses = λ s f. keeps;
      goes = λ actor c rest is. go_keeps w keeps actor c rest is.left;
      runs = λ e rest is.
          done_keeps (record w { events = rest })
          (record { graph = keeps.graph; disks = keeps.disks; left = keeps.left }) e;
      judges = λ s x j is. judge_keeps w keeps s x j is.step;
      reaps = λ h c is. consumer_keeps w keeps c;
      washes = λ work is. wash_keeps w keeps work;
      starts = λ b x way is. way_keeps w keeps x way;
      takes = λ disk b x is. same_keeps w keeps _ refl refl refl;
      delivers = λ b got x is. same_keeps w keeps _ refl refl refl;
      rises = λ b x o is. rise_keeps w keeps x o;
    })
