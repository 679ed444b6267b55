-- Where a legal log leads each provider has a name.
use Rattle.std.specs.Prelude.{◌≡◌, ℕ, ◌==◌, true, not, List, [], ◌∷◌, length, filter, zip}
use Rattle.std.specs.List.{AllByRecursion, enumerate_from, range_with_len}
use Rattle.std.proofs.lemmas.List.Elements.{All-from_recursion, recursion_from_All}
use Rattle.geo_base.proofs.AllLists.{all_kept, all_mapped}
use Rattle.geo_base.specs.Name.{is_name}
use Rattle.geo_model.specs.declared.command.DiskDecl.{DiskDecl}
use Rattle.geo_model.specs.declared.command.LineCommand.{LineCommand}
use Rattle.geo_model.specs.declared.step.Entry.{Entry}
use Rattle.geo_model.specs.World.{World, Plan, commands_of}
use Rattle.geo_model.specs.Plans.{MayBegin, IsDiskDecl, IsCommand, IsCommandOf}
use Rattle.geo_model.specs.GeomCommands.{stand}
use Rattle.geo_model.specs.Opening.{disk_in_size, bare_world, opening}
use Rattle.geo_model.specs.Log.{replay, after_entry}
use Rattle.geo_model.proofs.DemandLemmas.{all_weaker, map_all}
use Rattle.geo_laws_texts.specs.Naming.{LegalLogsHaveNames}
use Rattle.geo_laws_texts.proofs.Lists.{all_counted, all_paired, kept_over}
use Rattle.geo_laws_texts.proofs.Words.{short_name}
use Rattle.geo_laws_texts.proofs.Graphs.{IsNamed}
use Rattle.geo_laws_texts.proofs.Worlds.{IsNamedDisk, AreCommands, KeepsNames}
use Rattle.geo_laws_texts.proofs.Commanded.{stand_keeps}
use Rattle.geo_laws_texts.proofs.Stepped.{step_keeps}

-- a disk of the plan has a name
abbrev HasName : DiskDecl → Type 0
HasName d = is_name d.name ≡ true

module _ (plan : Plan) (facts : List (ℕ × ℕ)) (is : MayBegin plan) where
  -- the disks of the plan
  decls : AllByRecursion HasName plan.disks
  decls = all_weaker IsDiskDecl HasName (λ d of. short_name d.name of.name) plan.disks
      (recursion_from_All IsDiskDecl plan.disks is.disks)

  pairs : AllByRecursion (λ (item : DiskDecl × (ℕ × ℕ)). HasName item.0) (zip plan.disks facts)
  pairs = all_paired HasName plan.disks facts decls

  -- the commands of the plan
  commands : AllByRecursion (λ (c : LineCommand). IsCommand c.command) plan.commands
  commands = all_weaker (IsCommandOf (length plan.actors)) (λ c. IsCommand c.command) (λ c of. of.command)
      plan.commands (recursion_from_All (IsCommandOf (length plan.actors)) plan.commands is.commands)

  -- before any disk stands
  bare_keeps : KeepsNames (bare_world plan facts)
  bare_keeps = record {
    graph = tt;
    disks = all_mapped IsNamedDisk disk_in_size (zip plan.disks facts) pairs;
    left = map_all AreCommands (commands_of plan)
        (λ actor. all_kept (λ (c : LineCommand). IsCommand c.command) (λ c. c.actor == actor) plan.commands commands)
        (range_with_len 0 (length plan.actors));
  }

  -- once they do
  opening_keeps : KeepsNames (opening plan facts)
  unfolding opening
  opening_keeps =
      kept_over KeepsNames (λ (item : ℕ × (DiskDecl × (ℕ × ℕ))). HasName item.1.0)
      (λ w item. stand w (item.0, disk_in_size item.1))
      (λ w item before named. stand_keeps w (item.0, disk_in_size item.1) before named)
      (filter (λ item. not item.1.0.later) (enumerate_from 0 (zip plan.disks facts)))
      (bare_world plan facts)
      (all_kept (λ (item : ℕ × (DiskDecl × (ℕ × ℕ))). HasName item.1.0) (λ item. not item.1.0.later)
      (enumerate_from 0 (zip plan.disks facts))
      (all_counted (λ (item : DiskDecl × (ℕ × ℕ)). HasName item.0) 0 (zip plan.disks facts) pairs))
      bare_keeps

-- along a log
along : (w : World) (log : List Entry) → KeepsNames w → KeepsNames (replay w log)
along w [] keeps = keeps
along w (e ∷ log) keeps = along (after_entry w e) log (step_keeps w keeps e.seat e.step)

-- so say all
pub legal_logs_have_names : LegalLogsHaveNames
legal_logs_have_names plan facts is fit log legal =
    All-from_recursion IsNamed (replay (opening plan facts) log).topology.providers
    (along (opening plan facts) log (opening_keeps plan facts is)).graph
