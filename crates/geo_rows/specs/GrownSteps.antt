-- Steps while a concat is to grow, in orders other than the fixed one, and appends that are refused.
use Rattle.std.specs.Prelude.{ℕ, ◌+◌, false, List, [], ◌∷◌, ◌++◌, Option, Some, None, option_map, codes}
use Rattle.geo_base.specs.declared.errno.Errno.{Errno}
use Rattle.geo_base.specs.declared.kind.Kind.TheVariants as kinds
use Rattle.geo_model.specs.declared.command.Command.TheVariants as commands
use Rattle.geo_model.specs.declared.command.LineCommand.{LineCommand}
use Rattle.geo_model.specs.declared.step.DeviceResult.TheVariants as devices
use Rattle.geo_model.specs.declared.step.Step.{Step}
use Rattle.geo_model.specs.declared.step.Step.TheVariants as steps
use Rattle.geo_model.specs.Topology.{Topology, Provider, provider_at, add_geom, add_provider, add_consumer}
use Rattle.geo_model.specs.World.{World, Config, Concat, Plan}
use Rattle.geo_model.specs.Append.{append_refusal_of, growing_concat}
use Rattle.geo_model.specs.GeomCommands.{found_provider}
use Rattle.geo_model.specs.Listing.{listing}
use Rattle.geo_model.specs.Log.{replay}
use Rattle.geo_model.specs.Opening.{opening}
use Rattle.geo_model.specs.Report.{mesh_text}
use Rattle.geo_rows.specs.FixedRuns.{run_fixed, zero_devices}
use Rattle.geo_rows.specs.Rows.{counts, ram, command, idle_plan, text_of}
use Rattle.geo_rows.specs.StepLists.{world_after_plan, log_of_steps, fill_of, go_step}

-- the world after these steps of seat 0, and the size that a provider of a name has there
abbrev pub world_after_steps : World → List Step → World
world_after_steps w list = replay w (log_of_steps w list)

abbrev pub size_after : World → List Step → List ℕ → Option ℕ
size_after w list name = option_map (λ p. p.size) (found_provider (world_after_steps w list) name)

-- two disks, of which a concat has the first, and what two actors do next
abbrev pub two_disks : List (ℕ × ℕ)
two_disks = (512, 8) ∷ (512, 4) ∷ []

abbrev pub two_disks_plan : List LineCommand → Plan
two_disks_plan commands = record {
  disks = ram (codes "md0") 8 ∷ ram (codes "md1") 4 ∷ [];
  actors = codes "a" ∷ codes "b" ∷ [];
  commands = commands;
}

abbrev pub concat_line : LineCommand
concat_line = command 5 0 (commands.Concat (codes "c") (codes "md0" ∷ []))

-- the line of b that appends the second disk
abbrev pub append_line : LineCommand
append_line = command 8 1 (commands.Append (codes "c") (codes "md1"))

-- the concat is open, a reads it, and b appends
abbrev pub held_world : World
held_world =
    world_after_plan
    (two_disks_plan (concat_line ∷ command 6 0 (commands.Open (codes "h") (codes "concat/c") (counts 1 0 0)) ∷ []))
    two_disks
    ((command 7 0 (commands.Read (codes "h") 0 512) ∷ []) ∷ (append_line ∷ []) ∷ [])

-- the read comes to where its piece is done, and only the request itself has to go up
abbrev pub read_before_up : World → List Step
read_before_up w =
    let x = w.next_bio in
    go_step 0 ∷ steps.Start x ∷ steps.Start (x + 1) ∷ steps.Take 0 (x + 1)
    ∷ steps.Deliver (x + 1) (devices.Bytes (fill_of 0)) ∷ steps.Up (x + 1) ∷ []

abbrev pub append_before_up : World → List Step
append_before_up w = read_before_up w ++ go_step 1 ∷ steps.Up w.next_bio ∷ []

abbrev pub append_after_up : World → List Step
append_after_up w = read_before_up w ++ steps.Up w.next_bio ∷ go_step 1 ∷ []

-- the mesh at rest, where the fixed order goes on after these steps over disks of zeros
abbrev pub mesh_after : World → List Step → List (ℕ × ℕ) → List ℕ
mesh_after w list facts = mesh_text (listing (run_fixed 400 (world_after_steps w list) (zero_devices facts)).world)

abbrev pub held_mesh : List ℕ
held_mesh = text_of
    (codes "geom DISK md0 rank 1"
    ∷ codes "  provider md0 size 4096 sector 512 r1w0e1"
    ∷ codes "geom DISK md1 rank 1"
    ∷ codes "  provider md1 size 2048 sector 512 r0w0e0"
    ∷ codes "geom CONCAT c rank 2"
    ∷ codes "  provider concat/c size 4096 sector 512 r1w0e0"
    ∷ codes "  consumer md0 r1w0e1"
    ∷ [])

-- a reads a nop over the concat, or its disk, and b appends
abbrev pub around_world : List ℕ → World
around_world prov =
    world_after_plan
    (two_disks_plan
    (concat_line
    ∷ command 6 0 (commands.Nop (codes "concat/c") 0 512 0)
    ∷ command 7 0 (commands.Open (codes "h") prov (counts 1 0 0))
    ∷ []))
    two_disks
    ((command 9 0 (commands.Read (codes "h") 0 512) ∷ []) ∷ (append_line ∷ []) ∷ [])

-- the concat is made, which offers it for taste, and b appends
abbrev pub new_world : World
new_world = world_after_plan (two_disks_plan []) two_disks ((concat_line ∷ []) ∷ (append_line ∷ []) ∷ [])

-- a pulls the second disk below a nop, and b appends the disk or the nop before these have withered
abbrev pub pulled_world : List ℕ → World
pulled_world prov =
    world_after_plan
    (two_disks_plan (concat_line ∷ command 6 0 (commands.Nop (codes "md1") 0 512 0) ∷ []))
    two_disks
    ((command 7 0 (commands.Pull (codes "md1")) ∷ []) ∷ (command 8 1 (commands.Append (codes "c") prov) ∷ []) ∷ [])

-- the concat is open with so many read counts, the second disk with one
abbrev pub counted_world : ℕ → World
counted_world r =
    world_after_plan
    (two_disks_plan
    (concat_line
    ∷ command 6 0 (commands.Open (codes "h") (codes "concat/c") (counts r 0 0))
    ∷ command 7 0 (commands.Open (codes "k") (codes "md1") (counts 1 0 0))
    ∷ []))
    two_disks
    ([] ∷ (append_line ∷ []) ∷ [])

-- a concat over the lowest geom of a chain
abbrev pub with_concat : Topology Config → Topology Config
with_concat t =
    add_provider
    (add_consumer
    (add_geom t kinds.Concat (codes "c") (Concat None (Some t.next_consumer ∷ []) (2048 ∷ [])) false)
    t.next_geom (Some 1))
    t.next_geom (codes "concat/c") 2048 512

-- what refuses that this concat gets a provider as one more component, where the provider is changed before
abbrev pub growth_refusal : World → Option Provider → Option Errno
growth_refusal w p = append_refusal_of w (growing_concat w.topology (codes "c")) p

abbrev pub refusal_over : Topology Config → ℕ → (Provider → Provider) → Option Errno
refusal_over t p change =
    growth_refusal (record (opening idle_plan ((512, 4) ∷ [])) { topology = with_concat t })
    (option_map change (provider_at t p))
