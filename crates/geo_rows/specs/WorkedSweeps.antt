-- Worked runs in the elevator order.
use Rattle.std.specs.Prelude.{ℕ, List, [], ◌∷◌, flat_map, codes, if◌then◌else◌}
use Rattle.geo_base.specs.declared.request.BioCmd.{BioCmd}
use Rattle.geo_model.specs.declared.command.Command.TheVariants as commands
use Rattle.geo_model.specs.declared.step.Entry.{Entry}
use Rattle.geo_model.specs.declared.step.Outcome.{Outcome}
use Rattle.geo_model.specs.declared.step.Outcome.TheVariants as outcomes
use Rattle.geo_model.specs.Opening.{opening}
use Rattle.geo_model.specs.Report.{report}
use Rattle.geo_model.specs.Words.{is_read}
use Rattle.geo_model.specs.World.{Plan}
use Rattle.geo_rows.specs.FixedRuns.{run_swept, zero_devices}
use Rattle.geo_rows.specs.Rows.{bytes_of, command, counts, ram, text_of}

-- the log of a plan over memory disks of zeros in the elevator order, over at most so many steps, and its report
abbrev pub swept_log : ℕ → Plan → List (ℕ × ℕ) → List Entry
swept_log n plan facts = (run_swept n (opening plan facts) (zero_devices facts)).log

abbrev pub swept_report : ℕ → Plan → List (ℕ × ℕ) → List ℕ
swept_report n plan facts = report plan (opening plan facts) (swept_log n plan facts)

-- what a disk was asked that isn't a read: the command and the first sector
abbrev pub change_asked : Outcome → List (BioCmd × ℕ)
change_asked (outcomes.Asked q) = if is_read q.cmd then [] else (q.cmd, q.first) ∷ []
change_asked _ = []

abbrev pub changes_asked : List Entry → List (BioCmd × ℕ)
changes_asked log = flat_map (λ e. change_asked e.outcome) log

-- two writes before a FLUSH and one behind it
abbrev pub sweeping_script : List ℕ
sweeping_script = text_of
    (codes "ram md0 512 8"
    ∷ codes "actor a"
    ∷ codes "a open h md0 r1w1e0"
    ∷ codes "a write h 2048 04*512"
    ∷ codes "a write h 512 01*512"
    ∷ codes "a flush h"
    ∷ codes "a write h 0 aa*512"
    ∷ codes "a sync"
    ∷ codes "a read h 0 1024"
    ∷ [])

abbrev pub sweeping_plan : Plan
sweeping_plan = record {
  disks = ram (codes "md0") 8 ∷ [];
  actors = codes "a" ∷ [];
  commands =
      command 3 0 (commands.Open (codes "h") (codes "md0") (counts 1 1 0))
      ∷ command 4 0 (commands.Write (codes "h") 2048 (bytes_of ((4, 512) ∷ [])))
      ∷ command 5 0 (commands.Write (codes "h") 512 (bytes_of ((1, 512) ∷ [])))
      ∷ command 6 0 (commands.Flush (codes "h"))
      ∷ command 7 0 (commands.Write (codes "h") 0 (bytes_of ((170, 512) ∷ [])))
      ∷ command 8 0 commands.Sync
      ∷ command 9 0 (commands.Read (codes "h") 0 1024)
      ∷ [];
}

abbrev pub sweeping_facts : List (ℕ × ℕ)
sweeping_facts = (512, 8) ∷ []

abbrev pub sweeping_text : List ℕ
sweeping_text = text_of
    (codes "3 ok"
    ∷ codes "4 ok"
    ∷ codes "5 ok"
    ∷ codes "6 ok"
    ∷ codes "7 ok"
    ∷ codes "8 ok"
    ∷ codes "9 ok aa*512 01*512"
    ∷ codes "geom DISK md0 rank 1"
    ∷ codes "  provider md0 size 4096 sector 512 r1w1e0"
    ∷ [])

-- the write of a slice table is still out at the close, so no slice is found
abbrev pub swept_slice_text : List ℕ
swept_slice_text = text_of
    (codes "3 ok"
    ∷ codes "4 ok"
    ∷ codes "5 EBUSY"
    ∷ codes "6 ok"
    ∷ codes "7 ENOENT"
    ∷ codes "8 EBADF"
    ∷ codes "geom DISK md0 rank 1"
    ∷ codes "  provider md0 size 4096 sector 512 r1w1e0"
    ∷ [])

-- with a sync before the close it is found
abbrev pub synced_slice_script : List ℕ
synced_slice_script = text_of
    (codes "ram md0 512 8"
    ∷ codes "actor a"
    ∷ codes "a open h md0 r1w1e0"
    ∷ codes "a write h 0 00*450 a5*1 00*3 01*1 00*3 07*1 00*51 55*1 aa*1"
    ∷ codes "a sync"
    ∷ codes "a close h"
    ∷ codes "a settle"
    ∷ codes "a open p md0s1 r1w0e0"
    ∷ codes "a read p 0 512"
    ∷ [])

abbrev pub synced_slice_plan : Plan
synced_slice_plan = record {
  disks = ram (codes "md0") 8 ∷ [];
  actors = codes "a" ∷ [];
  commands =
      command 3 0 (commands.Open (codes "h") (codes "md0") (counts 1 1 0))
      ∷ command 4 0
      (commands.Write (codes "h") 0
      (bytes_of ((0, 450) ∷ (165, 1) ∷ (0, 3) ∷ (1, 1) ∷ (0, 3) ∷ (7, 1) ∷ (0, 51) ∷ (85, 1) ∷ (170, 1) ∷ [])))
      ∷ command 5 0 commands.Sync
      ∷ command 6 0 (commands.Close (codes "h"))
      ∷ command 7 0 commands.Settle
      ∷ command 8 0 (commands.Open (codes "p") (codes "md0s1") (counts 1 0 0))
      ∷ command 9 0 (commands.Read (codes "p") 0 512)
      ∷ [];
}

abbrev pub synced_slice_facts : List (ℕ × ℕ)
synced_slice_facts = (512, 8) ∷ []

abbrev pub synced_slice_text : List ℕ
synced_slice_text = text_of
    (codes "3 ok"
    ∷ codes "4 ok"
    ∷ codes "5 ok"
    ∷ codes "6 ok"
    ∷ codes "7 ok"
    ∷ codes "8 ok"
    ∷ codes "9 ok 00*512"
    ∷ codes "geom DISK md0 rank 1"
    ∷ codes "  provider md0 size 4096 sector 512 r1w0e1"
    ∷ codes "geom MBR md0 rank 2"
    ∷ codes "  provider md0s1 size 3584 sector 512 r1w0e0"
    ∷ codes "  consumer md0 r1w0e1"
    ∷ [])
