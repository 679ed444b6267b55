-- Worked runs: small plans, and what their reports say.
use Rattle.std.specs.Prelude.{ℕ, true, false, List, [], ◌∷◌, ◌++◌, replicate, codes}
use Rattle.geo_base.specs.declared.request.Counts.{Counts}
use Rattle.geo_model.specs.declared.command.Command.{Command}
use Rattle.geo_model.specs.declared.command.Command.TheVariants as commands
use Rattle.geo_model.specs.declared.command.DiskDecl.{DiskDecl}
use Rattle.geo_model.specs.declared.command.DiskKind.TheVariants.{Ram}
use Rattle.geo_model.specs.declared.command.LineCommand.{LineCommand}
use Rattle.geo_model.specs.World.{Plan}
use Rattle.geo_model.specs.Opening.{opening}
use Rattle.geo_model.specs.Report.{report}
use Rattle.geo_rows.specs.FixedRuns.{run_fixed, zero_devices}

abbrev pub counts : ℕ → ℕ → ℕ → Counts
counts r w e = record { r = r; w = w; e = e }

-- a memory disk of 512-byte sectors
abbrev pub ram : List ℕ → ℕ → DiskDecl
ram name sectors = record { kind = Ram; name = name; sector = 512; sectors = sectors; later = false }

abbrev pub command : ℕ → ℕ → Command → LineCommand
command line actor c = record { line = line; actor = actor; command = c }

-- the report of a plan over memory disks of zeros, run in the fixed order over at most so many steps
abbrev pub report_of : ℕ → Plan → List (ℕ × ℕ) → List ℕ
report_of n plan facts = report plan (opening plan facts) (run_fixed n (opening plan facts) (zero_devices facts)).log

-- lines, each with its end
abbrev pub text_of : List (List ℕ) → List ℕ
text_of [] = []
text_of (line ∷ lines) = line ++ 10 ∷ text_of lines

-- one disk, one actor, one read
abbrev pub first_plan : Plan
first_plan = record {
  disks = ram (codes "md0") 4 ∷ [];
  actors = codes "a" ∷ [];
  commands =
      command 3 0 (commands.Open (codes "h") (codes "md0") (counts 1 0 0))
      ∷ command 4 0 (commands.Read (codes "h") 0 512)
      ∷ command 5 0 commands.Sync
      ∷ command 6 0 (commands.Close (codes "h"))
      ∷ [];
}

abbrev pub first_facts : List (ℕ × ℕ)
first_facts = (512, 4) ∷ []

abbrev pub first_text : List ℕ
first_text = text_of
    (codes "3 ok"
    ∷ codes "4 ok 00*512"
    ∷ codes "5 ok"
    ∷ codes "6 ok"
    ∷ codes "geom DISK md0 rank 1"
    ∷ codes "  provider md0 size 2048 sector 512 r0w0e0"
    ∷ [])

-- a memory disk that stands only after an insert
abbrev pub later_ram : List ℕ → ℕ → DiskDecl
later_ram name sectors = record { kind = Ram; name = name; sector = 512; sectors = sectors; later = true }

-- bytes, each with how often it stands
abbrev pub bytes_of : List (ℕ × ℕ) → List ℕ
bytes_of [] = []
bytes_of (x ∷ xs) = replicate x.1 x.0 ++ bytes_of xs

-- no command at all
abbrev pub idle_plan : Plan
idle_plan = record { disks = ram (codes "md0") 4 ∷ []; actors = []; commands = [] }

-- a second opener is refused by an exclusive count, but not by its own
abbrev pub exclusion_plan : Plan
exclusion_plan = record {
  disks = ram (codes "md0") 4 ∷ [];
  actors = codes "a" ∷ codes "b" ∷ [];
  commands =
      command 4 0 (commands.Open (codes "h") (codes "md0") (counts 0 0 1))
      ∷ command 5 1 (commands.Open (codes "k") (codes "md0") (counts 0 1 0))
      ∷ command 6 1 (commands.Open (codes "m") (codes "md0") (counts 1 0 0))
      ∷ command 7 0 (commands.Close (codes "h"))
      ∷ command 8 1 (commands.Open (codes "k") (codes "md0") (counts 1 1 1))
      ∷ command 9 1 (commands.Read (codes "k") 0 512)
      ∷ [];
}

abbrev pub exclusion_facts : List (ℕ × ℕ)
exclusion_facts = (512, 4) ∷ []

abbrev pub exclusion_text : List ℕ
exclusion_text = text_of
    (codes "4 ok"
    ∷ codes "5 EPERM"
    ∷ codes "6 ok"
    ∷ codes "7 ok"
    ∷ codes "8 ok"
    ∷ codes "9 ok 00*512"
    ∷ codes "geom DISK md0 rank 1"
    ∷ codes "  provider md0 size 2048 sector 512 r2w1e1"
    ∷ [])

-- the checks of a request, in their order
abbrev pub boundaries_plan : Plan
boundaries_plan = record {
  disks = ram (codes "md0") 4 ∷ [];
  actors = codes "a" ∷ [];
  commands =
      command 3 0 (commands.Open (codes "h") (codes "md0") (counts 1 0 0))
      ∷ command 4 0 (commands.Read (codes "h") 1536 512)
      ∷ command 5 0 (commands.Read (codes "h") 2048 512)
      ∷ command 6 0 (commands.Read (codes "h") 1536 1024)
      ∷ command 7 0 (commands.Read (codes "h") 0 0)
      ∷ command 8 0 (commands.Read (codes "h") 0 513)
      ∷ command 9 0 (commands.Read (codes "h") 1 512)
      ∷ command 10 0 (commands.Read (codes "h") 0 33280)
      ∷ command 11 0 (commands.Read (codes "h") 0 2048)
      ∷ command 12 0 (commands.Flush (codes "h"))
      ∷ command 13 0 (commands.Read (codes "k") 0 512)
      ∷ command 14 0 (commands.Open (codes "h") (codes "md0") (counts 1 0 0))
      ∷ command 15 0 (commands.Insert (codes "md0"))
      ∷ command 16 0 (commands.Insert (codes "md7"))
      ∷ [];
}

abbrev pub boundaries_facts : List (ℕ × ℕ)
boundaries_facts = (512, 4) ∷ []

abbrev pub boundaries_text : List ℕ
boundaries_text = text_of
    (codes "3 ok"
    ∷ codes "4 ok 00*512"
    ∷ codes "5 EIO"
    ∷ codes "6 EIO"
    ∷ codes "7 EINVAL"
    ∷ codes "8 EINVAL"
    ∷ codes "9 EINVAL"
    ∷ codes "10 EINVAL"
    ∷ codes "11 ok 00*2048"
    ∷ codes "12 EPERM"
    ∷ codes "13 EBADF"
    ∷ codes "14 EEXIST"
    ∷ codes "15 EBUSY"
    ∷ codes "16 ENOENT"
    ∷ codes "geom DISK md0 rank 1"
    ∷ codes "  provider md0 size 2048 sector 512 r1w0e0"
    ∷ [])

-- a slice is found on the last close of a writer
abbrev pub slice_plan : Plan
slice_plan = record {
  disks = ram (codes "md0") 8 ∷ [];
  actors = codes "a" ∷ [];
  commands =
      command 3 0 (commands.Open (codes "h") (codes "md0") (counts 1 1 0))
      ∷ command 4 0
      (commands.Write (codes "h") 0
      (bytes_of ((0, 450) ∷ (165, 1) ∷ (0, 3) ∷ (1, 1) ∷ (0, 3) ∷ (7, 1) ∷ (0, 51) ∷ (85, 1) ∷ (170, 1) ∷ [])))
      ∷ command 5 0 (commands.Close (codes "h"))
      ∷ command 6 0 (commands.Settle)
      ∷ command 7 0 (commands.Open (codes "p") (codes "md0s1") (counts 1 0 0))
      ∷ command 8 0 (commands.Read (codes "p") 0 512)
      ∷ [];
}

abbrev pub slice_facts : List (ℕ × ℕ)
slice_facts = (512, 8) ∷ []

abbrev pub slice_text : List ℕ
slice_text = text_of
    (codes "3 ok"
    ∷ codes "4 ok"
    ∷ codes "5 ok"
    ∷ codes "6 ok"
    ∷ codes "7 ok"
    ∷ codes "8 ok 00*512"
    ∷ codes "geom DISK md0 rank 1"
    ∷ codes "  provider md0 size 4096 sector 512 r1w0e1"
    ∷ codes "geom MBR md0 rank 2"
    ∷ codes "  provider md0s1 size 3584 sector 512 r1w0e0"
    ∷ codes "  consumer md0 r1w0e1"
    ∷ [])

-- entries that end past the media or begin at 0 are left out, overlapping ones are kept
abbrev pub hostile_table_plan : Plan
hostile_table_plan = record {
  disks = ram (codes "md0") 64 ∷ [];
  actors = codes "a" ∷ [];
  commands =
      command 3 0 (commands.Open (codes "h") (codes "md0") (counts 1 1 0))
      ∷ command 4 0
      (commands.Write (codes "h") 0
      (bytes_of ((0, 450) ∷ (165, 1) ∷ (0, 3) ∷ (8, 1) ∷ (0, 3) ∷ (56, 1) ∷ (0, 7) ∷ (165, 1) ∷ (0, 3)
      ∷ (8, 1) ∷ (0, 3) ∷ (57, 1) ∷ (0, 7) ∷ (165, 1) ∷ (0, 7) ∷ (4, 1) ∷ (0, 7) ∷ (165, 1) ∷ (0, 3)
      ∷ (10, 1) ∷ (0, 3) ∷ (4, 1) ∷ (0, 3) ∷ (85, 1) ∷ (170, 1) ∷ [])))
      ∷ command 5 0 (commands.Close (codes "h"))
      ∷ [];
}

abbrev pub hostile_table_facts : List (ℕ × ℕ)
hostile_table_facts = (512, 64) ∷ []

abbrev pub hostile_table_text : List ℕ
hostile_table_text = text_of
    (codes "3 ok"
    ∷ codes "4 ok"
    ∷ codes "5 ok"
    ∷ codes "geom DISK md0 rank 1"
    ∷ codes "  provider md0 size 32768 sector 512 r0w0e0"
    ∷ codes "geom MBR md0 rank 2"
    ∷ codes "  provider md0s1 size 28672 sector 512 r0w0e0"
    ∷ codes "  provider md0s4 size 2048 sector 512 r0w0e0"
    ∷ codes "  consumer md0 r0w0e0"
    ∷ [])

-- an opener of a slice keeps writers out, and a writer spoils the slice
abbrev pub spoiling_plan : Plan
spoiling_plan = record {
  disks = ram (codes "md0") 8 ∷ [];
  actors = codes "a" ∷ [];
  commands =
      command 3 0 (commands.Open (codes "h") (codes "md0") (counts 0 1 0))
      ∷ command 4 0
      (commands.Write (codes "h") 0
      (bytes_of ((0, 450) ∷ (165, 1) ∷ (0, 3) ∷ (1, 1) ∷ (0, 3) ∷ (7, 1) ∷ (0, 51) ∷ (85, 1) ∷ (170, 1) ∷ [])))
      ∷ command 5 0 (commands.Close (codes "h"))
      ∷ command 6 0 (commands.Open (codes "p") (codes "md0s1") (counts 1 0 0))
      ∷ command 7 0 (commands.Open (codes "h") (codes "md0") (counts 0 1 0))
      ∷ command 8 0 (commands.Close (codes "p"))
      ∷ command 9 0 (commands.Open (codes "h") (codes "md0") (counts 0 1 0))
      ∷ command 10 0 (commands.Open (codes "p") (codes "md0s1") (counts 1 0 0))
      ∷ command 11 0 (commands.Close (codes "h"))
      ∷ command 12 0 (commands.Open (codes "p") (codes "md0s1") (counts 1 0 0))
      ∷ command 13 0 (commands.Close (codes "p"))
      ∷ [];
}

abbrev pub spoiling_facts : List (ℕ × ℕ)
spoiling_facts = (512, 8) ∷ []

abbrev pub spoiling_text : List ℕ
spoiling_text = text_of
    (codes "3 ok"
    ∷ codes "4 ok"
    ∷ codes "5 ok"
    ∷ codes "6 ok"
    ∷ codes "7 EPERM"
    ∷ codes "8 ok"
    ∷ codes "9 ok"
    ∷ codes "10 ENOENT"
    ∷ codes "11 ok"
    ∷ codes "12 ok"
    ∷ codes "13 ok"
    ∷ codes "geom DISK md0 rank 1"
    ∷ codes "  provider md0 size 4096 sector 512 r0w0e0"
    ∷ codes "geom MBR md0 rank 2"
    ∷ codes "  provider md0s1 size 3584 sector 512 r0w0e0"
    ∷ codes "  consumer md0 r0w0e0"
    ∷ [])

-- a disk is pulled while its slice is open
abbrev pub pulling_plan : Plan
pulling_plan = record {
  disks = ram (codes "md0") 8 ∷ [];
  actors = codes "a" ∷ codes "b" ∷ [];
  commands =
      command 4 0 (commands.Open (codes "h") (codes "md0") (counts 1 1 0))
      ∷ command 5 0
      (commands.Write (codes "h") 0
      (bytes_of ((0, 450) ∷ (165, 1) ∷ (0, 3) ∷ (1, 1) ∷ (0, 3) ∷ (7, 1) ∷ (0, 51) ∷ (85, 1) ∷ (170, 1) ∷ [])))
      ∷ command 6 0 (commands.Close (codes "h"))
      ∷ command 7 0 (commands.Settle)
      ∷ command 8 0 (commands.Open (codes "p") (codes "md0s1") (counts 1 0 0))
      ∷ command 9 0 (commands.Read (codes "p") 0 512)
      ∷ command 10 1 (commands.Pull (codes "md0"))
      ∷ command 11 0 (commands.Settle)
      ∷ command 12 0 (commands.Read (codes "p") 0 512)
      ∷ command 13 0 (commands.Close (codes "p"))
      ∷ [];
}

abbrev pub pulling_facts : List (ℕ × ℕ)
pulling_facts = (512, 8) ∷ []

abbrev pub pulling_text : List ℕ
pulling_text = text_of
    (codes "4 ok"
    ∷ codes "5 ok"
    ∷ codes "6 ok"
    ∷ codes "7 ok"
    ∷ codes "8 ok"
    ∷ codes "9 ok 00*512"
    ∷ codes "10 ok"
    ∷ codes "11 ok"
    ∷ codes "12 ENXIO"
    ∷ codes "13 ok"
    ∷ [])

-- a write across the two components of a concat
abbrev pub joining_plan : Plan
joining_plan = record {
  disks = ram (codes "md0") 3 ∷ ram (codes "md1") 5 ∷ [];
  actors = codes "a" ∷ [];
  commands =
      command 4 0 (commands.Concat (codes "c") (codes "md0" ∷ codes "md1" ∷ []))
      ∷ command 5 0 (commands.Open (codes "h") (codes "concat/c") (counts 1 1 0))
      ∷ command 6 0 (commands.Write (codes "h") 1024 (bytes_of ((170, 512) ∷ (187, 512) ∷ (204, 1024) ∷ [])))
      ∷ command 7 0 (commands.Read (codes "h") 1024 2048)
      ∷ command 8 0 (commands.Close (codes "h"))
      ∷ command 9 0 (commands.Open (codes "k") (codes "md1") (counts 1 0 0))
      ∷ command 10 0 (commands.Read (codes "k") 0 2048)
      ∷ [];
}

abbrev pub joining_facts : List (ℕ × ℕ)
joining_facts = (512, 3) ∷ (512, 5) ∷ []

abbrev pub joining_text : List ℕ
joining_text = text_of
    (codes "4 ok"
    ∷ codes "5 ok"
    ∷ codes "6 ok"
    ∷ codes "7 ok aa*512 bb*512 cc*1024"
    ∷ codes "8 ok"
    ∷ codes "9 ok"
    ∷ codes "10 ok bb*512 cc*1024 00*512"
    ∷ codes "geom DISK md0 rank 1"
    ∷ codes "  provider md0 size 1536 sector 512 r0w0e0"
    ∷ codes "geom DISK md1 rank 1"
    ∷ codes "  provider md1 size 2560 sector 512 r1w0e0"
    ∷ codes "geom CONCAT c rank 2"
    ∷ codes "  provider concat/c size 4096 sector 512 r0w0e0"
    ∷ codes "  consumer md0 r0w0e0"
    ∷ codes "  consumer md1 r0w0e0"
    ∷ [])

-- seven strips over three components
abbrev pub striping_plan : Plan
striping_plan = record {
  disks = ram (codes "md0") 4 ∷ ram (codes "md1") 4 ∷ ram (codes "md2") 4 ∷ [];
  actors = codes "a" ∷ [];
  commands =
      command 5 0 (commands.Stripe (codes "s") 512 (codes "md0" ∷ codes "md1" ∷ codes "md2" ∷ []))
      ∷ command 6 0 (commands.Open (codes "h") (codes "stripe/s") (counts 1 1 0))
      ∷ command 7 0
      (commands.Write (codes "h") 0
      (bytes_of ((0, 512) ∷ (1, 512) ∷ (2, 512) ∷ (3, 512) ∷ (4, 512) ∷ (5, 512) ∷ (6, 512) ∷ [])))
      ∷ command 8 0 (commands.Read (codes "h") 0 3584)
      ∷ command 9 0 (commands.Close (codes "h"))
      ∷ command 10 0 (commands.Open (codes "k") (codes "md0") (counts 1 0 0))
      ∷ command 11 0 (commands.Read (codes "k") 0 2048)
      ∷ [];
}

abbrev pub striping_facts : List (ℕ × ℕ)
striping_facts = (512, 4) ∷ (512, 4) ∷ (512, 4) ∷ []

abbrev pub striping_text : List ℕ
striping_text = text_of
    (codes "5 ok"
    ∷ codes "6 ok"
    ∷ codes "7 ok"
    ∷ codes "8 ok 00*512 01*512 02*512 03*512 04*512 05*512 06*512"
    ∷ codes "9 ok"
    ∷ codes "10 ok"
    ∷ codes "11 ok 00*512 03*512 06*512 00*512"
    ∷ codes "geom DISK md0 rank 1"
    ∷ codes "  provider md0 size 2048 sector 512 r1w0e0"
    ∷ codes "geom DISK md1 rank 1"
    ∷ codes "  provider md1 size 2048 sector 512 r0w0e0"
    ∷ codes "geom DISK md2 rank 1"
    ∷ codes "  provider md2 size 2048 sector 512 r0w0e0"
    ∷ codes "geom STRIPE s rank 2"
    ∷ codes "  provider stripe/s size 6144 sector 512 r0w0e0"
    ∷ codes "  consumer md0 r0w0e0"
    ∷ codes "  consumer md1 r0w0e0"
    ∷ codes "  consumer md2 r0w0e0"
    ∷ [])

-- a concat of a slice and of its own disk
abbrev pub diamond_plan : Plan
diamond_plan = record {
  disks = ram (codes "md0") 8 ∷ [];
  actors = codes "a" ∷ [];
  commands =
      command 3 0 (commands.Open (codes "h") (codes "md0") (counts 1 1 0))
      ∷ command 4 0
      (commands.Write (codes "h") 0
      (bytes_of ((0, 450) ∷ (165, 1) ∷ (0, 3) ∷ (1, 1) ∷ (0, 3) ∷ (7, 1) ∷ (0, 51) ∷ (85, 1) ∷ (170, 1) ∷ [])))
      ∷ command 5 0 (commands.Close (codes "h"))
      ∷ command 6 0 (commands.Concat (codes "d") (codes "md0s1" ∷ codes "md0" ∷ []))
      ∷ command 7 0 (commands.Open (codes "w") (codes "concat/d") (counts 0 1 0))
      ∷ command 8 0 (commands.Open (codes "r") (codes "concat/d") (counts 1 0 0))
      ∷ [];
}

abbrev pub diamond_facts : List (ℕ × ℕ)
diamond_facts = (512, 8) ∷ []

abbrev pub diamond_text : List ℕ
diamond_text = text_of
    (codes "3 ok"
    ∷ codes "4 ok"
    ∷ codes "5 ok"
    ∷ codes "6 ok"
    ∷ codes "7 EPERM"
    ∷ codes "8 ok"
    ∷ codes "geom DISK md0 rank 1"
    ∷ codes "  provider md0 size 4096 sector 512 r2w0e3"
    ∷ codes "geom MBR md0 rank 2"
    ∷ codes "  provider md0s1 size 3584 sector 512 r1w0e1"
    ∷ codes "  consumer md0 r1w0e2"
    ∷ codes "geom CONCAT d rank 3"
    ∷ codes "  provider concat/d size 7680 sector 512 r1w0e0"
    ∷ codes "  consumer md0s1 r1w0e1"
    ∷ codes "  consumer md0 r1w0e1"
    ∷ [])

-- every second request through a nop fails
abbrev pub failing_nop_plan : Plan
failing_nop_plan = record {
  disks = ram (codes "md0") 4 ∷ [];
  actors = codes "a" ∷ [];
  commands =
      command 3 0 (commands.Nop (codes "md0") 512 1024 2)
      ∷ command 4 0 (commands.Open (codes "h") (codes "md0.nop") (counts 1 0 0))
      ∷ command 5 0 (commands.Read (codes "h") 0 512)
      ∷ command 6 0 (commands.Read (codes "h") 0 512)
      ∷ command 7 0 (commands.Read (codes "h") 512 512)
      ∷ command 8 0 (commands.Read (codes "h") 1024 512)
      ∷ [];
}

abbrev pub failing_nop_facts : List (ℕ × ℕ)
failing_nop_facts = (512, 4) ∷ []

abbrev pub failing_nop_text : List ℕ
failing_nop_text = text_of
    (codes "3 ok"
    ∷ codes "4 ok"
    ∷ codes "5 ok 00*512"
    ∷ codes "6 EIO"
    ∷ codes "7 ok 00*512"
    ∷ codes "8 EIO"
    ∷ codes "geom DISK md0 rank 1"
    ∷ codes "  provider md0 size 2048 sector 512 r1w0e0"
    ∷ codes "geom NOP md0.nop rank 2"
    ∷ codes "  provider md0.nop size 1024 sector 512 r1w0e0"
    ∷ codes "  consumer md0 r1w0e0"
    ∷ [])

-- a concat is assembled from its records, and goes with one of its disks
abbrev pub assembling_plan : Plan
assembling_plan = record {
  disks = ram (codes "md0") 4 ∷ later_ram (codes "md1") 4 ∷ [];
  actors = codes "a" ∷ [];
  commands =
      command 4 0 (commands.Open (codes "h") (codes "md0") (counts 0 1 0))
      ∷ command 5 0 (commands.MarkConcat (codes "h") (codes "v") 7 0 2)
      ∷ command 6 0 (commands.Close (codes "h"))
      ∷ command 7 0 (commands.Mesh)
      ∷ command 8 0 (commands.Insert (codes "md1"))
      ∷ command 9 0 (commands.Open (codes "h") (codes "md1") (counts 0 1 0))
      ∷ command 10 0 (commands.MarkConcat (codes "h") (codes "v") 7 1 2)
      ∷ command 11 0 (commands.Close (codes "h"))
      ∷ command 12 0 (commands.Open (codes "k") (codes "concat/v") (counts 1 0 0))
      ∷ command 13 0 (commands.Read (codes "k") 1024 1024)
      ∷ command 14 0 (commands.Close (codes "k"))
      ∷ command 15 0 (commands.Pull (codes "md0"))
      ∷ command 16 0 (commands.Open (codes "k") (codes "concat/v") (counts 1 0 0))
      ∷ [];
}

abbrev pub assembling_facts : List (ℕ × ℕ)
assembling_facts = (512, 4) ∷ (512, 4) ∷ []

abbrev pub assembling_text : List ℕ
assembling_text = text_of
    (codes "4 ok"
    ∷ codes "5 ok"
    ∷ codes "6 ok"
    ∷ codes "7 ok"
    ∷ codes "geom DISK md0 rank 1"
    ∷ codes "  provider md0 size 2048 sector 512 r0w0e0"
    ∷ codes "geom CONCAT v rank 2"
    ∷ codes "  consumer md0 r0w0e0"
    ∷ codes "8 ok"
    ∷ codes "9 ok"
    ∷ codes "10 ok"
    ∷ codes "11 ok"
    ∷ codes "12 ok"
    ∷ codes "13 ok 00*1024"
    ∷ codes "14 ok"
    ∷ codes "15 ok"
    ∷ codes "16 ENOENT"
    ∷ codes "geom DISK md1 rank 1"
    ∷ codes "  provider md1 size 2048 sector 512 r0w0e0"
    ∷ [])

-- a label is written, found and read
abbrev pub labelling_plan : Plan
labelling_plan = record {
  disks = ram (codes "md0") 4 ∷ [];
  actors = codes "a" ∷ [];
  commands =
      command 3 0 (commands.Open (codes "h") (codes "md0") (counts 1 1 0))
      ∷ command 4 0 (commands.Label (codes "h") (codes "vol"))
      ∷ command 5 0 (commands.Read (codes "h") 1536 512)
      ∷ command 6 0 (commands.Close (codes "h"))
      ∷ command 7 0 (commands.Open (codes "k") (codes "label/vol") (counts 1 0 0))
      ∷ command 8 0 (commands.Read (codes "k") 1024 512)
      ∷ command 9 0 (commands.Read (codes "k") 1536 512)
      ∷ [];
}

abbrev pub labelling_facts : List (ℕ × ℕ)
labelling_facts = (512, 4) ∷ []

abbrev pub labelling_text : List ℕ
labelling_text = text_of
    (codes "3 ok"
    ∷ codes "4 ok"
    ∷ codes "5 ok 52*1 47*1 45*1 4f*1 4d*1 3a*2 4c*1 41*1 42*1 45*1 4c*1 00*4 01*1 00*3 76*1 6f*1 6c*1 00*489"
    ∷ codes "6 ok"
    ∷ codes "7 ok"
    ∷ codes "8 ok 00*512"
    ∷ codes "9 EIO"
    ∷ codes "geom DISK md0 rank 1"
    ∷ codes "  provider md0 size 2048 sector 512 r1w0e1"
    ∷ codes "geom LABEL md0 rank 2"
    ∷ codes "  provider label/vol size 1536 sector 512 r1w0e0"
    ∷ codes "  consumer md0 r1w0e1"
    ∷ [])

-- two users of a stripe, one of whose disks is pulled
abbrev pub two_users_plan : Plan
two_users_plan = record {
  disks = ram (codes "ada0") 16 ∷ ram (codes "ada1") 16 ∷ [];
  actors = codes "root" ∷ codes "user" ∷ [];
  commands =
      command 5 0 (commands.Stripe (codes "fast") 4096 (codes "ada0" ∷ codes "ada1" ∷ []))
      ∷ command 6 0 (commands.Open (codes "s") (codes "stripe/fast") (counts 1 1 0))
      ∷ command 7 0 (commands.Write (codes "s") 0 (bytes_of ((17, 4096) ∷ (34, 4096) ∷ [])))
      ∷ command 8 1 (commands.Open (codes "u") (codes "stripe/fast") (counts 1 0 0))
      ∷ command 9 1 (commands.Read (codes "u") 4096 4096)
      ∷ command 10 1 (commands.Open (codes "v") (codes "ada0") (counts 1 1 0))
      ∷ command 11 0 (commands.Pull (codes "ada1"))
      ∷ command 12 1 (commands.Read (codes "u") 0 512)
      ∷ command 13 0 (commands.Close (codes "s"))
      ∷ command 14 1 (commands.Close (codes "u"))
      ∷ command 15 1 (commands.Open (codes "v") (codes "ada0") (counts 1 0 0))
      ∷ command 16 1 (commands.Read (codes "v") 0 512)
      ∷ [];
}

abbrev pub two_users_facts : List (ℕ × ℕ)
two_users_facts = (512, 16) ∷ (512, 16) ∷ []

abbrev pub two_users_text : List ℕ
two_users_text = text_of
    (codes "5 ok"
    ∷ codes "6 ok"
    ∷ codes "7 ok"
    ∷ codes "8 ok"
    ∷ codes "9 ok 22*4096"
    ∷ codes "10 EPERM"
    ∷ codes "11 ok"
    ∷ codes "12 ENXIO"
    ∷ codes "13 ok"
    ∷ codes "14 ok"
    ∷ codes "15 ok"
    ∷ codes "16 ok 11*512"
    ∷ codes "geom DISK ada0 rank 1"
    ∷ codes "  provider ada0 size 8192 sector 512 r1w0e0"
    ∷ [])

-- the same over two disks of 1,048,576 bytes
abbrev pub large_users_facts : List (ℕ × ℕ)
large_users_facts = (512, 2048) ∷ (512, 2048) ∷ []

abbrev pub large_users_text : List ℕ
large_users_text = text_of
    (codes "5 ok"
    ∷ codes "6 ok"
    ∷ codes "7 ok"
    ∷ codes "8 ok"
    ∷ codes "9 ok 22*4096"
    ∷ codes "10 EPERM"
    ∷ codes "11 ok"
    ∷ codes "12 ENXIO"
    ∷ codes "13 ok"
    ∷ codes "14 ok"
    ∷ codes "15 ok"
    ∷ codes "16 ok 11*512"
    ∷ codes "geom DISK ada0 rank 1"
    ∷ codes "  provider ada0 size 1048576 sector 512 r1w0e0"
    ∷ [])
