-- Worked lists of steps, in orders other than the fixed one.
use Rattle.std.specs.Prelude.{ℕ, ◌+◌, List, [], ◌∷◌, ◌++◌, map, replicate, Option, codes}
use Rattle.geo_model.specs.declared.command.Command.TheVariants as commands
use Rattle.geo_model.specs.declared.command.LineCommand.{LineCommand}
use Rattle.geo_model.specs.declared.step.DeviceResult.TheVariants as devices
use Rattle.geo_model.specs.declared.step.Reply.{Reply}
use Rattle.geo_model.specs.declared.step.Step.{Step}
use Rattle.geo_model.specs.declared.step.Step.TheVariants as steps
use Rattle.geo_model.specs.World.{World, Plan}
use Rattle.geo_base.specs.declared.errno.Errno.{Errno}
use Rattle.geo_model.specs.declared.step.Entry.{Entry}
use Rattle.geo_model.specs.Errors.{errors_of}
use Rattle.geo_model.specs.Log.{made, moments}
use Rattle.geo_model.specs.Opening.{opening}
use Rattle.geo_model.specs.Report.{reply_from}
use Rattle.geo_rows.specs.FixedRuns.{run_fixed, zero_devices}
use Rattle.geo_rows.specs.Rows.{counts, ram, command, bytes_of, idle_plan}

-- the world at rest after the plan, and then with these commands left
abbrev pub world_after_plan : Plan → List (ℕ × ℕ) → List (List LineCommand) → World
world_after_plan plan facts left =
    record (run_fixed 400 (opening plan facts) (zero_devices facts)).world { actors = left }

-- steps, all of seat 0
abbrev pub by_seat_0 : List Step → List (ℕ × Step)
by_seat_0 list = map (λ s. (0, s)) list

-- the reply to a line after these steps
abbrev pub reply_after : World → List Step → ℕ → Option Reply
reply_after w list line = reply_from (made w (by_seat_0 list)) line

abbrev pub go_step : ℕ → Step
go_step actor = steps.Go actor

-- a slice is open, and its disk is to be pulled

-- the table with one slice of 7 sectors, from sector 1 on
abbrev pub one_slice : List ℕ
one_slice = bytes_of ((0, 450) ∷ (165, 1) ∷ (0, 3) ∷ (1, 1) ∷ (0, 3) ∷ (7, 1) ∷ (0, 51) ∷ (85, 1) ∷ (170, 1) ∷ [])

abbrev pub sliced_plan : Plan
sliced_plan = record {
  disks = ram (codes "md0") 8 ∷ [];
  actors = codes "a" ∷ codes "b" ∷ [];
  commands =
      command 4 0 (commands.Open (codes "h") (codes "md0") (counts 1 1 0))
      ∷ command 5 0 (commands.Write (codes "h") 0 one_slice)
      ∷ command 6 0 (commands.Close (codes "h"))
      ∷ command 7 0 commands.Settle
      ∷ command 8 0 (commands.Open (codes "p") (codes "md0s1") (counts 1 0 0))
      ∷ [];
}

abbrev pub sliced_world : World
sliced_world =
    world_after_plan sliced_plan ((512, 8) ∷ [])
    ((command 9 0 (commands.Read (codes "p") 0 512) ∷ command 10 0 (commands.Close (codes "p")) ∷ [])
    ∷ (command 11 1 (commands.Pull (codes "md0")) ∷ [])
    ∷ [])

-- the disk is pulled before the request goes down
abbrev pub pulled_early : World → List Step
pulled_early w =
    let x = w.next_bio in
    go_step 0 ∷ go_step 1 ∷ steps.Start x ∷ steps.Start (x + 1) ∷ steps.Up (x + 1) ∷ steps.Up x ∷ []

-- the disk is pulled while the request is on its way to it
abbrev pub pulled_late : World → List Step
pulled_late w =
    let x = w.next_bio in
    go_step 0 ∷ steps.Start x ∷ steps.Start (x + 1) ∷ go_step 1 ∷ steps.Take 0 (x + 1)
    ∷ steps.Deliver (x + 1) (devices.Bytes (replicate 512 0)) ∷ steps.Up (x + 1) ∷ steps.Up x ∷ []

-- a writer opens a disk, and a reader of its slice comes before the spoil is done
abbrev pub spoiled_plan : Plan
spoiled_plan = record {
  disks = ram (codes "md0") 8 ∷ [];
  actors = codes "a" ∷ codes "b" ∷ [];
  commands =
      command 4 0 (commands.Open (codes "h") (codes "md0") (counts 0 1 0))
      ∷ command 5 0 (commands.Write (codes "h") 0 one_slice)
      ∷ command 6 0 (commands.Close (codes "h"))
      ∷ [];
}

abbrev pub spoiled_world : World
spoiled_world =
    world_after_plan spoiled_plan ((512, 8) ∷ [])
    ((command 10 0 (commands.Open (codes "h") (codes "md0") (counts 0 1 0)) ∷ [])
    ∷ (command 14 1 (commands.Open (codes "p") (codes "md0s1") (counts 1 0 0)) ∷ [])
    ∷ [])

-- a stripe over three disks, of which the pieces come back in reverse order
abbrev pub striped_plan : Plan
striped_plan = record {
  disks = ram (codes "md0") 4 ∷ ram (codes "md1") 4 ∷ ram (codes "md2") 4 ∷ [];
  actors = codes "a" ∷ [];
  commands =
      command 5 0 (commands.Stripe (codes "s") 512 (codes "md0" ∷ codes "md1" ∷ codes "md2" ∷ []))
      ∷ command 6 0 (commands.Open (codes "h") (codes "stripe/s") (counts 1 1 0))
      ∷ [];
}

abbrev pub striped_world : World
striped_world =
    world_after_plan striped_plan ((512, 4) ∷ (512, 4) ∷ (512, 4) ∷ [])
    ((command 7 0 (commands.Read (codes "h") 0 3584) ∷ []) ∷ [])

abbrev pub fill_of : ℕ → List ℕ
fill_of byte = replicate 512 byte

-- a piece is taken, delivered and goes up
abbrev pub served : ℕ → ℕ → ℕ → List Step
served disk b byte = steps.Take disk b ∷ steps.Deliver b (devices.Bytes (fill_of byte)) ∷ steps.Up b ∷ []

abbrev pub read_in_reverse : World → List Step
read_in_reverse w =
    let x = w.next_bio in
    (go_step 0 ∷ steps.Start x ∷ steps.Start (x + 1) ∷ steps.Start (x + 2) ∷ steps.Start (x + 3) ∷ steps.Start (x + 4)
    ∷ steps.Start (x + 5) ∷ steps.Start (x + 6) ∷ steps.Start (x + 7) ∷ [])
    ++ (served 0 (x + 7) 6 ++ (served 2 (x + 6) 5 ++ (served 1 (x + 5) 4 ++ (served 0 (x + 4) 3
    ++ (served 2 (x + 3) 2 ++ (served 1 (x + 2) 1 ++ (served 0 (x + 1) 0 ++ (steps.Up x ∷ []))))))))

-- a concat over a nop that always fails and a disk that is pulled, in both orders
abbrev pub failing_plan : List ℕ → List ℕ → Plan
failing_plan first second = record {
  disks = ram (codes "md0") 4 ∷ ram (codes "md1") 4 ∷ [];
  actors = codes "a" ∷ codes "b" ∷ [];
  commands =
      command 5 0 (commands.Nop (codes "md0") 0 1024 1)
      ∷ command 6 0 (commands.Concat (codes "c") (first ∷ second ∷ []))
      ∷ command 7 0 (commands.Open (codes "h") (codes "concat/c") (counts 1 0 0))
      ∷ [];
}

abbrev pub failing_world : List ℕ → List ℕ → World
failing_world first second =
    world_after_plan (failing_plan first second) ((512, 4) ∷ (512, 4) ∷ [])
    ((command 8 0 (commands.Read (codes "h") 0 3072) ∷ [])
    ∷ (command 9 1 (commands.Pull (codes "md1")) ∷ [])
    ∷ [])

-- both pieces bounce, and the second goes up before the first
abbrev pub second_up_first : World → List Step
second_up_first w =
    let x = w.next_bio in
    go_step 0 ∷ steps.Start x ∷ go_step 1 ∷ steps.Start (x + 1) ∷ steps.Start (x + 2)
    ∷ steps.Up (x + 2) ∷ steps.Up (x + 1) ∷ steps.Up x ∷ []

-- a disk is open, and fails the read that comes next
abbrev pub opened_world : World
opened_world =
    world_after_plan (record idle_plan {
      actors = codes "a" ∷ [];
      commands = command 3 0 (commands.Open (codes "h") (codes "md0") (counts 1 0 0)) ∷ [];
    }) ((512, 4) ∷ [])
    ((command 4 0 (commands.Read (codes "h") 0 512) ∷ []) ∷ [])

abbrev pub failed_read : World → List Step
failed_read w =
    let x = w.next_bio in
    go_step 0 ∷ steps.Start x ∷ steps.Take 0 x ∷ steps.Deliver x (devices.Failed 0) ∷ steps.Up x ∷ []

-- the log of some steps, and the errors that a bio met in it
abbrev pub log_of_steps : World → List Step → List Entry
log_of_steps w list = made w (by_seat_0 list)

abbrev pub errors_met : World → List Step → ℕ → List Errno
errors_met w list b = errors_of (moments w (log_of_steps w list)) b
