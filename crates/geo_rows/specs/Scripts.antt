-- Worked scripts: the texts of the worked plans, faults, and the script that is made from a number.
use Rattle.std.specs.Prelude.{ℕ, List, [], ◌∷◌, Result, Ok, Err, codes}
use Rattle.geo_model.specs.declared.command.Cause.{Cause}
use Rattle.geo_model.specs.World.{Plan}
use Rattle.geo_model.specs.Generator.{generated}
use Rattle.geo_model.specs.Opening.{opening}
use Rattle.geo_model.specs.Report.{summary}
use Rattle.geo_rows.specs.Rows.{text_of}
use Rattle.geo_rows.specs.FixedRuns.{run_fixed, zero_devices}
use Rattle.geo_model.specs.Script.{script, Fault, empty_plan}

-- a fault at a line
abbrev pub fault : ℕ → Cause → Result Plan Fault
fault line cause = Err (record { line = line; cause = cause })

-- the plan of a text, and none where it is no script
abbrev pub plan_read : Result Plan Fault → Plan
plan_read (Ok plan) = plan
plan_read (Err found) = empty_plan

-- the summary of the script that is made from a number
abbrev pub generated_summary : ℕ → ℕ → ℕ → List ℕ
generated_summary steps start count =
    let plan : Plan = plan_read (script (generated start count)) in
    let facts : List (ℕ × ℕ) = (512, 1024) ∷ (512, 1024) ∷ (512, 1024) ∷ (512, 1024) ∷ [] in
    summary plan (opening plan facts) (run_fixed steps (opening plan facts) (zero_devices facts)).log

abbrev pub exclusion_script : List ℕ
exclusion_script = text_of
    (codes "ram md0 512 4"
    ∷ codes "actor a"
    ∷ codes "actor b"
    ∷ codes "a open h md0 r0w0e1"
    ∷ codes "b open k md0 r0w1e0"
    ∷ codes "b open m md0 r1w0e0"
    ∷ codes "a close h"
    ∷ codes "b open k md0 r1w1e1"
    ∷ codes "b read k 0 512"
    ∷ [])

abbrev pub boundaries_script : List ℕ
boundaries_script = text_of
    (codes "ram md0 512 4"
    ∷ codes "actor a"
    ∷ codes "a open h md0 r1w0e0"
    ∷ codes "a read h 1536 512"
    ∷ codes "a read h 2048 512"
    ∷ codes "a read h 1536 1024"
    ∷ codes "a read h 0 0"
    ∷ codes "a read h 0 513"
    ∷ codes "a read h 1 512"
    ∷ codes "a read h 0 33280"
    ∷ codes "a read h 0 2048"
    ∷ codes "a flush h"
    ∷ codes "a read k 0 512"
    ∷ codes "a open h md0 r1w0e0"
    ∷ codes "a insert md0"
    ∷ codes "a insert md7"
    ∷ [])

abbrev pub slice_script : List ℕ
slice_script = text_of
    (codes "ram md0 512 8"
    ∷ codes "actor a"
    ∷ codes "a open h md0 r1w1e0"
    ∷ codes "a write h 0 00*450 a5*1 00*3 01*1 00*3 07*1 00*51 55*1 aa*1"
    ∷ codes "a close h"
    ∷ codes "a settle"
    ∷ codes "a open p md0s1 r1w0e0"
    ∷ codes "a read p 0 512"
    ∷ [])

abbrev pub hostile_table_script : List ℕ
hostile_table_script = text_of
    (codes "ram md0 512 64"
    ∷ codes "actor a"
    ∷ codes "a open h md0 r1w1e0"
    ∷ codes "a write h 0 00*450 a5*1 00*3 08*1 00*3 38*1 00*7 a5*1 00*3 08*1 00*3 39*1 00*7 a5*1 00*7 04*1 00*7 a5*1 00*3 0a*1 00*3 04*1 00*3 55*1 aa*1"
    ∷ codes "a close h"
    ∷ [])

abbrev pub spoiling_script : List ℕ
spoiling_script = text_of
    (codes "ram md0 512 8"
    ∷ codes "actor a"
    ∷ codes "a open h md0 r0w1e0"
    ∷ codes "a write h 0 00*450 a5*1 00*3 01*1 00*3 07*1 00*51 55*1 aa*1"
    ∷ codes "a close h"
    ∷ codes "a open p md0s1 r1w0e0"
    ∷ codes "a open h md0 r0w1e0"
    ∷ codes "a close p"
    ∷ codes "a open h md0 r0w1e0"
    ∷ codes "a open p md0s1 r1w0e0"
    ∷ codes "a close h"
    ∷ codes "a open p md0s1 r1w0e0"
    ∷ codes "a close p"
    ∷ [])

abbrev pub pulling_script : List ℕ
pulling_script = text_of
    (codes "ram md0 512 8"
    ∷ codes "actor a"
    ∷ codes "actor b"
    ∷ codes "a open h md0 r1w1e0"
    ∷ codes "a write h 0 00*450 a5*1 00*3 01*1 00*3 07*1 00*51 55*1 aa*1"
    ∷ codes "a close h"
    ∷ codes "a settle"
    ∷ codes "a open p md0s1 r1w0e0"
    ∷ codes "a read p 0 512"
    ∷ codes "b pull md0"
    ∷ codes "a settle"
    ∷ codes "a read p 0 512"
    ∷ codes "a close p"
    ∷ [])

abbrev pub joining_script : List ℕ
joining_script = text_of
    (codes "ram md0 512 3"
    ∷ codes "ram md1 512 5"
    ∷ codes "actor a"
    ∷ codes "a concat c md0 md1"
    ∷ codes "a open h concat/c r1w1e0"
    ∷ codes "a write h 1024 aa*512 bb*512 cc*1024"
    ∷ codes "a read h 1024 2048"
    ∷ codes "a close h"
    ∷ codes "a open k md1 r1w0e0"
    ∷ codes "a read k 0 2048"
    ∷ [])

abbrev pub striping_script : List ℕ
striping_script = text_of
    (codes "ram md0 512 4"
    ∷ codes "ram md1 512 4"
    ∷ codes "ram md2 512 4"
    ∷ codes "actor a"
    ∷ codes "a stripe s 512 md0 md1 md2"
    ∷ codes "a open h stripe/s r1w1e0"
    ∷ codes "a write h 0 00*512 01*512 02*512 03*512 04*512 05*512 06*512"
    ∷ codes "a read h 0 3584"
    ∷ codes "a close h"
    ∷ codes "a open k md0 r1w0e0"
    ∷ codes "a read k 0 2048"
    ∷ [])

abbrev pub diamond_script : List ℕ
diamond_script = text_of
    (codes "ram md0 512 8"
    ∷ codes "actor a"
    ∷ codes "a open h md0 r1w1e0"
    ∷ codes "a write h 0 00*450 a5*1 00*3 01*1 00*3 07*1 00*51 55*1 aa*1"
    ∷ codes "a close h"
    ∷ codes "a concat d md0s1 md0"
    ∷ codes "a open w concat/d r0w1e0"
    ∷ codes "a open r concat/d r1w0e0"
    ∷ [])

abbrev pub failing_nop_script : List ℕ
failing_nop_script = text_of
    (codes "ram md0 512 4"
    ∷ codes "actor a"
    ∷ codes "a nop md0 512 1024 2"
    ∷ codes "a open h md0.nop r1w0e0"
    ∷ codes "a read h 0 512"
    ∷ codes "a read h 0 512"
    ∷ codes "a read h 512 512"
    ∷ codes "a read h 1024 512"
    ∷ [])

abbrev pub assembling_script : List ℕ
assembling_script = text_of
    (codes "ram md0 512 4"
    ∷ codes "ram md1 512 4 later"
    ∷ codes "actor a"
    ∷ codes "a open h md0 r0w1e0"
    ∷ codes "a mark h concat v 7 0 2"
    ∷ codes "a close h"
    ∷ codes "a mesh"
    ∷ codes "a insert md1"
    ∷ codes "a open h md1 r0w1e0"
    ∷ codes "a mark h concat v 7 1 2"
    ∷ codes "a close h"
    ∷ codes "a open k concat/v r1w0e0"
    ∷ codes "a read k 1024 1024"
    ∷ codes "a close k"
    ∷ codes "a pull md0"
    ∷ codes "a open k concat/v r1w0e0"
    ∷ [])

abbrev pub labelling_script : List ℕ
labelling_script = text_of
    (codes "ram md0 512 4"
    ∷ codes "actor a"
    ∷ codes "a open h md0 r1w1e0"
    ∷ codes "a label h vol"
    ∷ codes "a read h 1536 512"
    ∷ codes "a close h"
    ∷ codes "a open k label/vol r1w0e0"
    ∷ codes "a read k 1024 512"
    ∷ codes "a read k 1536 512"
    ∷ [])

abbrev pub two_users_script : List ℕ
two_users_script = text_of
    (codes "ram ada0 512 16"
    ∷ codes "ram ada1 512 16"
    ∷ codes "actor root"
    ∷ codes "actor user"
    ∷ codes "root stripe fast 4096 ada0 ada1"
    ∷ codes "root open s stripe/fast r1w1e0"
    ∷ codes "root write s 0 11*4096 22*4096"
    ∷ codes "user open u stripe/fast r1w0e0"
    ∷ codes "user read u 4096 4096"
    ∷ codes "user open v ada0 r1w1e0"
    ∷ codes "root pull ada1"
    ∷ codes "user read u 0 512"
    ∷ codes "root close s"
    ∷ codes "user close u"
    ∷ codes "user open v ada0 r1w0e0"
    ∷ codes "user read v 0 512"
    ∷ [])

abbrev pub first_script : List ℕ
first_script = text_of
    (codes "ram md0 512 4"
    ∷ codes "actor a"
    ∷ codes "a open h md0 r1w0e0"
    ∷ codes "a read h 0 512"
    ∷ codes "a sync"
    ∷ codes "a close h"
    ∷ [])

-- Texts with a fault

abbrev pub no_counts_script : List ℕ
no_counts_script = text_of (codes "ram md0 512 4" ∷ codes "actor a" ∷ codes "a open h md0 r0w0e0" ∷ [])

abbrev pub equal_neighbours_script : List ℕ
equal_neighbours_script = text_of (codes "ram md0 512 4" ∷ codes "actor a" ∷ codes "a write h 0 00*256 00*256" ∷ [])

abbrev pub late_header_script : List ℕ
late_header_script = text_of (codes "ram md0 512 4" ∷ codes "actor a" ∷ codes "a sync" ∷ codes "ram md1 512 4" ∷ [])

abbrev pub same_disk_script : List ℕ
same_disk_script = text_of (codes "ram md0 512 4" ∷ codes "" ∷ codes "# a note" ∷ codes "ram md0 512 4" ∷ [])

abbrev pub stranger_script : List ℕ
stranger_script = text_of (codes "ram md0 512 4" ∷ codes "b sync" ∷ [])

abbrev pub two_spaces_script : List ℕ
two_spaces_script = text_of (codes "actor a" ∷ codes "a  sync" ∷ [])

abbrev pub zero_in_front_script : List ℕ
zero_in_front_script = text_of (codes "actor a" ∷ codes "a read h 07 512" ∷ [])

abbrev pub odd_sector_script : List ℕ
odd_sector_script = text_of (codes "ram md0 513 4" ∷ [])

abbrev pub left_over_script : List ℕ
left_over_script = text_of (codes "actor a" ∷ codes "a sync now" ∷ [])

abbrev pub missing_script : List ℕ
missing_script = text_of (codes "actor a" ∷ codes "a read h 0" ∷ [])

abbrev pub unknown_script : List ℕ
unknown_script = text_of (codes "actor a" ∷ codes "a jump" ∷ [])

abbrev pub no_lines_summary : List ℕ
no_lines_summary = text_of
    (codes "commands 6"
    ∷ codes "ok 6"
    ∷ codes "ENOENT 0"
    ∷ codes "EEXIST 0"
    ∷ codes "EBADF 0"
    ∷ codes "ENXIO 0"
    ∷ codes "EPERM 0"
    ∷ codes "EOVERFLOW 0"
    ∷ codes "EBUSY 0"
    ∷ codes "EINVAL 0"
    ∷ codes "EIO 0"
    ∷ codes "ELOOP 0"
    ∷ codes "EDEEP 0"
    ∷ codes "bytes 0"
    ∷ codes "geoms 6"
    ∷ [])

abbrev pub three_lines_summary : List ℕ
three_lines_summary = text_of
    (codes "commands 9"
    ∷ codes "ok 7"
    ∷ codes "ENOENT 0"
    ∷ codes "EEXIST 0"
    ∷ codes "EBADF 2"
    ∷ codes "ENXIO 0"
    ∷ codes "EPERM 0"
    ∷ codes "EOVERFLOW 0"
    ∷ codes "EBUSY 0"
    ∷ codes "EINVAL 0"
    ∷ codes "EIO 0"
    ∷ codes "ELOOP 0"
    ∷ codes "EDEEP 0"
    ∷ codes "bytes 0"
    ∷ codes "geoms 6"
    ∷ [])
