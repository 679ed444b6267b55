-- Worked runs: a concat that grows, labels of two versions, logical partitions.
use Rattle.std.specs.Prelude.{ℕ, ◌+◌, nat_lt, List, [], ◌∷◌, flat_map, replicate, codes, if◌then◌else◌}
use Rattle.std.specs.List.{range_with_len}
use Rattle.geo_base.specs.declared.kind.Kind.TheVariants as kinds
use Rattle.geo_model.specs.declared.command.Command.TheVariants as commands
use Rattle.geo_model.specs.World.{Plan}
use Rattle.geo_rows.specs.WorkedChains.{link}
use Rattle.geo_rows.specs.Rows.{counts, ram, command, bytes_of, text_of}

-- a concat grows while it is open, but not by itself, by what stands on it or by a disk that it already writes
abbrev pub growing_plan : Plan
growing_plan = record {
  disks = ram (codes "md0") 3 ∷ ram (codes "md1") 5 ∷ ram (codes "md2") 2 ∷ [];
  actors = codes "a" ∷ [];
  commands =
      command 5 0 (commands.Concat (codes "c") (codes "md0" ∷ codes "md1" ∷ []))
      ∷ command 6 0 (commands.Open (codes "h") (codes "concat/c") (counts 1 1 0))
      ∷ command 7 0 (commands.Write (codes "h") 3584 (bytes_of ((17, 512) ∷ [])))
      ∷ command 8 0 (commands.Append (codes "c") (codes "md2"))
      ∷ command 9 0 (commands.Read (codes "h") 3584 1536)
      ∷ command 10 0 (commands.Append (codes "c") (codes "concat/c"))
      ∷ command 11 0 (commands.Concat (codes "d") (codes "concat/c" ∷ []))
      ∷ command 12 0 (commands.Append (codes "c") (codes "concat/d"))
      ∷ command 13 0 (commands.Append (codes "c") (codes "md0"))
      ∷ [];
}

abbrev pub growing_facts : List (ℕ × ℕ)
growing_facts = (512, 3) ∷ (512, 5) ∷ (512, 2) ∷ []

abbrev pub growing_text : List ℕ
growing_text = text_of
    (codes "5 ok"
    ∷ codes "6 ok"
    ∷ codes "7 ok"
    ∷ codes "8 ok"
    ∷ codes "9 ok 11*512 00*1024"
    ∷ codes "10 ELOOP"
    ∷ codes "11 ok"
    ∷ codes "12 ELOOP"
    ∷ codes "13 EPERM"
    ∷ codes "geom DISK md0 rank 1"
    ∷ codes "  provider md0 size 1536 sector 512 r1w1e1"
    ∷ codes "geom DISK md1 rank 1"
    ∷ codes "  provider md1 size 2560 sector 512 r1w1e1"
    ∷ codes "geom DISK md2 rank 1"
    ∷ codes "  provider md2 size 1024 sector 512 r1w1e1"
    ∷ codes "geom CONCAT c rank 2"
    ∷ codes "  provider concat/c size 5120 sector 512 r1w1e0"
    ∷ codes "  consumer md0 r1w1e1"
    ∷ codes "  consumer md1 r1w1e1"
    ∷ codes "  consumer md2 r1w1e1"
    ∷ codes "geom CONCAT d rank 3"
    ∷ codes "  provider concat/d size 5120 sector 512 r0w0e0"
    ∷ codes "  consumer concat/c r0w0e0"
    ∷ [])

-- the table with a slice of seven sectors from sector 1 on, and one of four sectors behind it
abbrev pub two_slices : List ℕ
two_slices =
    bytes_of
    ((0, 450) ∷ (165, 1) ∷ (0, 3) ∷ (1, 1) ∷ (0, 3) ∷ (7, 1) ∷ (0, 7) ∷ (165, 1) ∷ (0, 3) ∷ (8, 1) ∷ (0, 3) ∷ (4, 1)
    ∷ (0, 35) ∷ (85, 1) ∷ (170, 1) ∷ [])

-- a link with a partition of four sectors behind it, which leads on to sector 10
abbrev pub first_link : List ℕ
first_link =
    bytes_of
    ((0, 450) ∷ (165, 1) ∷ (0, 3) ∷ (1, 1) ∷ (0, 3) ∷ (4, 1) ∷ (0, 7) ∷ (5, 1) ∷ (0, 3) ∷ (10, 1) ∷ (0, 3) ∷ (5, 1)
    ∷ (0, 35) ∷ (85, 1) ∷ (170, 1) ∷ [])

-- a slice past the end of a concat is found when the concat has grown
abbrev pub appearing_plan : Plan
appearing_plan = record {
  disks = ram (codes "md0") 8 ∷ ram (codes "md1") 4 ∷ [];
  actors = codes "a" ∷ [];
  commands =
      command 4 0 (commands.Concat (codes "c") (codes "md0" ∷ []))
      ∷ command 5 0 (commands.Open (codes "h") (codes "concat/c") (counts 0 1 0))
      ∷ command 6 0 (commands.Write (codes "h") 0 two_slices)
      ∷ command 7 0 (commands.Close (codes "h"))
      ∷ command 8 0 (commands.Open (codes "p") (codes "concat/cs2") (counts 1 0 0))
      ∷ command 9 0 (commands.Append (codes "c") (codes "md1"))
      ∷ command 10 0 (commands.Open (codes "p") (codes "concat/cs2") (counts 1 0 0))
      ∷ command 11 0 (commands.Read (codes "p") 0 2048)
      ∷ [];
}

abbrev pub appearing_facts : List (ℕ × ℕ)
appearing_facts = (512, 8) ∷ (512, 4) ∷ []

abbrev pub appearing_text : List ℕ
appearing_text = text_of
    (codes "4 ok"
    ∷ codes "5 ok"
    ∷ codes "6 ok"
    ∷ codes "7 ok"
    ∷ codes "8 ENOENT"
    ∷ codes "9 ok"
    ∷ codes "10 ok"
    ∷ codes "11 ok 00*2048"
    ∷ codes "geom DISK md0 rank 1"
    ∷ codes "  provider md0 size 4096 sector 512 r1w0e2"
    ∷ codes "geom DISK md1 rank 1"
    ∷ codes "  provider md1 size 2048 sector 512 r1w0e2"
    ∷ codes "geom CONCAT c rank 2"
    ∷ codes "  provider concat/c size 6144 sector 512 r1w0e1"
    ∷ codes "  consumer md0 r1w0e2"
    ∷ codes "  consumer md1 r1w0e2"
    ∷ codes "geom MBR md0 rank 2"
    ∷ codes "  provider md0s1 size 3584 sector 512 r0w0e0"
    ∷ codes "  consumer md0 r0w0e0"
    ∷ codes "geom MBR concat/c rank 3"
    ∷ codes "  provider concat/cs1 size 3584 sector 512 r0w0e0"
    ∷ codes "  provider concat/cs2 size 2048 sector 512 r1w0e0"
    ∷ codes "  consumer concat/c r1w0e1"
    ∷ [])

-- a label that says a size is found on the slice on which it was written, and not on the disk that ends with the same
-- sector
abbrev pub sized_label_plan : Plan
sized_label_plan = record {
  disks = ram (codes "md0") 8 ∷ [];
  actors = codes "a" ∷ [];
  commands =
      command 3 0 (commands.Open (codes "h") (codes "md0") (counts 1 1 0))
      ∷ command 4 0 (commands.Write (codes "h") 0 (link 165 1 7 0 0))
      ∷ command 5 0 (commands.Close (codes "h"))
      ∷ command 6 0 (commands.Open (codes "p") (codes "md0s1") (counts 1 1 0))
      ∷ command 7 0 (commands.Relabel (codes "p") (codes "vol"))
      ∷ command 8 0 (commands.Read (codes "p") 3072 512)
      ∷ command 9 0 (commands.Close (codes "p"))
      ∷ [];
}

abbrev pub sized_label_facts : List (ℕ × ℕ)
sized_label_facts = (512, 8) ∷ []

abbrev pub sized_label_text : List ℕ
sized_label_text = text_of
    (codes "3 ok"
    ∷ codes "4 ok"
    ∷ codes "5 ok"
    ∷ codes "6 ok"
    ∷ codes "7 ok"
    ∷ codes
    "8 ok 52*1 47*1 45*1 4f*1 4d*1 3a*2 4c*1 41*1 42*1 45*1 4c*1 00*4 02*1 00*3 76*1 6f*1 6c*1 00*14 0e*1 00*474"
    ∷ codes "9 ok"
    ∷ codes "geom DISK md0 rank 1"
    ∷ codes "  provider md0 size 4096 sector 512 r0w0e0"
    ∷ codes "geom MBR md0 rank 2"
    ∷ codes "  provider md0s1 size 3584 sector 512 r0w0e0"
    ∷ codes "  consumer md0 r0w0e0"
    ∷ codes "geom LABEL md0s1 rank 3"
    ∷ codes "  provider label/vol size 3072 sector 512 r0w0e0"
    ∷ codes "  consumer md0s1 r0w0e0"
    ∷ [])

-- a label that says no size is found on the disk, which is tasted first
abbrev pub plain_label_plan : Plan
plain_label_plan = record {
  disks = ram (codes "md0") 8 ∷ [];
  actors = codes "a" ∷ [];
  commands =
      command 3 0 (commands.Open (codes "h") (codes "md0") (counts 1 1 0))
      ∷ command 4 0 (commands.Write (codes "h") 0 (link 165 1 7 0 0))
      ∷ command 5 0 (commands.Close (codes "h"))
      ∷ command 6 0 (commands.Open (codes "p") (codes "md0s1") (counts 1 1 0))
      ∷ command 7 0 (commands.Label (codes "p") (codes "vol"))
      ∷ command 8 0 (commands.Read (codes "p") 3072 512)
      ∷ command 9 0 (commands.Close (codes "p"))
      ∷ [];
}

abbrev pub plain_label_facts : List (ℕ × ℕ)
plain_label_facts = (512, 8) ∷ []

abbrev pub plain_label_text : List ℕ
plain_label_text = text_of
    (codes "3 ok"
    ∷ codes "4 ok"
    ∷ codes "5 ok"
    ∷ codes "6 ok"
    ∷ codes "7 ok"
    ∷ codes "8 ok 52*1 47*1 45*1 4f*1 4d*1 3a*2 4c*1 41*1 42*1 45*1 4c*1 00*4 01*1 00*3 76*1 6f*1 6c*1 00*489"
    ∷ codes "9 ok"
    ∷ codes "geom DISK md0 rank 1"
    ∷ codes "  provider md0 size 4096 sector 512 r0w0e0"
    ∷ codes "geom MBR md0 rank 2"
    ∷ codes "  provider md0s1 size 3584 sector 512 r0w0e0"
    ∷ codes "  consumer md0 r0w0e0"
    ∷ codes "geom LABEL md0 rank 2"
    ∷ codes "  provider label/vol size 3584 sector 512 r0w0e0"
    ∷ codes "  consumer md0 r0w0e0"
    ∷ [])

-- a chain of two links is found, and its second partition is read
abbrev pub logical_plan : Plan
logical_plan = record {
  disks = ram (codes "md0") 64 ∷ [];
  actors = codes "a" ∷ [];
  commands =
      command 3 0 (commands.Open (codes "h") (codes "md0") (counts 1 1 0))
      ∷ command 4 0 (commands.Write (codes "h") 0 (link 5 1 63 0 0))
      ∷ command 5 0 (commands.Write (codes "h") 512 first_link)
      ∷ command 6 0 (commands.Write (codes "h") 5632 (link 165 1 3 0 0))
      ∷ command 7 0 (commands.Write (codes "h") 6144 (bytes_of ((119, 512) ∷ [])))
      ∷ command 8 0 (commands.Close (codes "h"))
      ∷ command 9 0 (commands.Open (codes "p") (codes "md0s1l2") (counts 1 0 0))
      ∷ command 10 0 (commands.Read (codes "p") 0 512)
      ∷ [];
}

abbrev pub logical_facts : List (ℕ × ℕ)
logical_facts = (512, 64) ∷ []

abbrev pub logical_text : List ℕ
logical_text = text_of
    (codes "3 ok"
    ∷ codes "4 ok"
    ∷ codes "5 ok"
    ∷ codes "6 ok"
    ∷ codes "7 ok"
    ∷ codes "8 ok"
    ∷ codes "9 ok"
    ∷ codes "10 ok 77*512"
    ∷ codes "geom DISK md0 rank 1"
    ∷ codes "  provider md0 size 32768 sector 512 r1w0e2"
    ∷ codes "geom MBR md0 rank 2"
    ∷ codes "  provider md0s1 size 32256 sector 512 r1w0e1"
    ∷ codes "  consumer md0 r1w0e2"
    ∷ codes "geom EBR md0s1 rank 3"
    ∷ codes "  provider md0s1l1 size 2048 sector 512 r0w0e0"
    ∷ codes "  provider md0s1l2 size 1536 sector 512 r1w0e0"
    ∷ codes "  consumer md0s1 r1w0e1"
    ∷ [])

-- a chain whose second link leads back to the first is declined
abbrev pub looping_plan : Plan
looping_plan = record {
  disks = ram (codes "md0") 64 ∷ [];
  actors = codes "a" ∷ [];
  commands =
      command 3 0 (commands.Open (codes "h") (codes "md0") (counts 1 1 0))
      ∷ command 4 0 (commands.Write (codes "h") 0 (link 5 1 63 0 0))
      ∷ command 5 0 (commands.Write (codes "h") 512 first_link)
      ∷ command 6 0 (commands.Write (codes "h") 5632 (link 165 1 3 5 0))
      ∷ command 7 0 (commands.Write (codes "h") 6144 (bytes_of ((119, 512) ∷ [])))
      ∷ command 8 0 (commands.Close (codes "h"))
      ∷ command 9 0 (commands.Open (codes "p") (codes "md0s1l2") (counts 1 0 0))
      ∷ command 10 0 (commands.Read (codes "p") 0 512)
      ∷ [];
}

abbrev pub looping_facts : List (ℕ × ℕ)
looping_facts = (512, 64) ∷ []

abbrev pub looping_text : List ℕ
looping_text = text_of
    (codes "3 ok"
    ∷ codes "4 ok"
    ∷ codes "5 ok"
    ∷ codes "6 ok"
    ∷ codes "7 ok"
    ∷ codes "8 ok"
    ∷ codes "9 ENOENT"
    ∷ codes "10 EBADF"
    ∷ codes "geom DISK md0 rank 1"
    ∷ codes "  provider md0 size 32768 sector 512 r0w0e0"
    ∷ codes "geom MBR md0 rank 2"
    ∷ codes "  provider md0s1 size 32256 sector 512 r0w0e0"
    ∷ codes "  consumer md0 r0w0e0"
    ∷ [])

-- each error of an append that the fixed order shows
abbrev pub refusing_plan : Plan
refusing_plan = record {
  disks =
      ram (codes "md0") 4 ∷ ram (codes "md1") 4 ∷ ram (codes "md2") 4 ∷ ram (codes "md3") 4
      ∷ record (ram (codes "md4") 4) { sector = 4096 } ∷ [];
  actors = codes "a" ∷ [];
  commands =
      command 7 0 (commands.Append (codes "c") (codes "md1"))
      ∷ command 8 0 (commands.Concat (codes "c") (codes "md0" ∷ []))
      ∷ command 9 0 (commands.Append (codes "c") (codes "md9"))
      ∷ command 10 0 (commands.Append (codes "c") (codes "md4"))
      ∷ command 11 0 (commands.Open (codes "p") (codes "concat/c") (counts 1 0 0))
      ∷ command 12 0 (commands.Open (codes "q") (codes "md1") (counts 0 1 0))
      ∷ command 13 0 (commands.Append (codes "c") (codes "md1"))
      ∷ command 14 0 (commands.Close (codes "q"))
      ∷ command 15 0 (commands.Close (codes "p"))
      ∷ command 16 0 (commands.Concat (codes "f") (replicate 16 (codes "md1")))
      ∷ command 17 0 (commands.Append (codes "f") (codes "md1"))
      ∷ command 18 0 (commands.Open (codes "h") (codes "md2") (counts 0 1 0))
      ∷ command 19 0 (commands.MarkConcat (codes "h") (codes "v") 7 0 1)
      ∷ command 20 0 (commands.Close (codes "h"))
      ∷ command 21 0 (commands.Append (codes "v") (codes "md1"))
      ∷ command 22 0 (commands.Open (codes "h") (codes "md3") (counts 0 1 0))
      ∷ command 23 0 (commands.MarkConcat (codes "h") (codes "w") 8 0 2)
      ∷ command 24 0 (commands.Close (codes "h"))
      ∷ command 25 0 (commands.Append (codes "w") (codes "md1"))
      ∷ command 26 0 (commands.Destroy kinds.Concat (codes "c"))
      ∷ command 27 0 (commands.Append (codes "c") (codes "md1"))
      ∷ [];
}

abbrev pub refusing_facts : List (ℕ × ℕ)
refusing_facts = (512, 4) ∷ (512, 4) ∷ (512, 4) ∷ (512, 4) ∷ (4096, 4) ∷ []

abbrev pub refusing_text : List ℕ
refusing_text = text_of
    (codes "7 ENOENT"
    ∷ codes "8 ok"
    ∷ codes "9 ENOENT"
    ∷ codes "10 EINVAL"
    ∷ codes "11 ok"
    ∷ codes "12 ok"
    ∷ codes "13 EPERM"
    ∷ codes "14 ok"
    ∷ codes "15 ok"
    ∷ codes "16 ok"
    ∷ codes "17 EINVAL"
    ∷ codes "18 ok"
    ∷ codes "19 ok"
    ∷ codes "20 ok"
    ∷ codes "21 EINVAL"
    ∷ codes "22 ok"
    ∷ codes "23 ok"
    ∷ codes "24 ok"
    ∷ codes "25 ENOENT"
    ∷ codes "26 ok"
    ∷ codes "27 ENOENT"
    ∷ codes "geom DISK md0 rank 1"
    ∷ codes "  provider md0 size 2048 sector 512 r0w0e0"
    ∷ codes "geom DISK md1 rank 1"
    ∷ codes "  provider md1 size 2048 sector 512 r0w0e0"
    ∷ codes "geom DISK md2 rank 1"
    ∷ codes "  provider md2 size 2048 sector 512 r0w0e0"
    ∷ codes "geom DISK md3 rank 1"
    ∷ codes "  provider md3 size 2048 sector 512 r0w0e0"
    ∷ codes "geom DISK md4 rank 1"
    ∷ codes "  provider md4 size 16384 sector 4096 r0w0e0"
    ∷ codes "geom CONCAT f rank 2"
    ∷ codes "  provider concat/f size 32768 sector 512 r0w0e0"
    ∷ codes "  consumer md1 r0w0e0"
    ∷ codes "  consumer md1 r0w0e0"
    ∷ codes "  consumer md1 r0w0e0"
    ∷ codes "  consumer md1 r0w0e0"
    ∷ codes "  consumer md1 r0w0e0"
    ∷ codes "  consumer md1 r0w0e0"
    ∷ codes "  consumer md1 r0w0e0"
    ∷ codes "  consumer md1 r0w0e0"
    ∷ codes "  consumer md1 r0w0e0"
    ∷ codes "  consumer md1 r0w0e0"
    ∷ codes "  consumer md1 r0w0e0"
    ∷ codes "  consumer md1 r0w0e0"
    ∷ codes "  consumer md1 r0w0e0"
    ∷ codes "  consumer md1 r0w0e0"
    ∷ codes "  consumer md1 r0w0e0"
    ∷ codes "  consumer md1 r0w0e0"
    ∷ codes "geom CONCAT v rank 2"
    ∷ codes "  provider concat/v size 1536 sector 512 r0w0e0"
    ∷ codes "  consumer md2 r0w0e0"
    ∷ codes "geom CONCAT w rank 2"
    ∷ codes "  consumer md3 r0w0e0"
    ∷ [])

-- a label that says a size is written over one that says none, and needs a writer
abbrev pub relabelling_plan : Plan
relabelling_plan = record {
  disks = ram (codes "md0") 4 ∷ [];
  actors = codes "a" ∷ [];
  commands =
      command 3 0 (commands.Relabel (codes "h") (codes "vol"))
      ∷ command 4 0 (commands.Open (codes "h") (codes "md0") (counts 1 0 0))
      ∷ command 5 0 (commands.Relabel (codes "h") (codes "vol"))
      ∷ command 6 0 (commands.Close (codes "h"))
      ∷ command 7 0 (commands.Open (codes "h") (codes "md0") (counts 0 1 0))
      ∷ command 8 0 (commands.Label (codes "h") (codes "old"))
      ∷ command 9 0 (commands.Close (codes "h"))
      ∷ command 10 0 (commands.Open (codes "h") (codes "md0") (counts 0 1 0))
      ∷ command 11 0 (commands.Relabel (codes "h") (codes "vol"))
      ∷ command 12 0 (commands.Close (codes "h"))
      ∷ command 13 0 (commands.Open (codes "k") (codes "label/old") (counts 1 0 0))
      ∷ command 14 0 (commands.Open (codes "k") (codes "label/vol") (counts 1 0 0))
      ∷ command 15 0 (commands.Read (codes "k") 1024 512)
      ∷ [];
}

abbrev pub relabelling_facts : List (ℕ × ℕ)
relabelling_facts = (512, 4) ∷ []

abbrev pub relabelling_text : List ℕ
relabelling_text = text_of
    (codes "3 EBADF"
    ∷ codes "4 ok"
    ∷ codes "5 EPERM"
    ∷ codes "6 ok"
    ∷ codes "7 ok"
    ∷ codes "8 ok"
    ∷ codes "9 ok"
    ∷ codes "10 ok"
    ∷ codes "11 ok"
    ∷ codes "12 ok"
    ∷ codes "13 ENOENT"
    ∷ codes "14 ok"
    ∷ codes "15 ok 00*512"
    ∷ codes "geom DISK md0 rank 1"
    ∷ codes "  provider md0 size 2048 sector 512 r1w0e1"
    ∷ codes "geom LABEL md0 rank 2"
    ∷ codes "  provider label/vol size 1536 sector 512 r1w0e0"
    ∷ codes "  consumer md0 r1w0e1"
    ∷ [])

-- a write and a flush go through a concat that has grown to both of its disks
abbrev pub written_through_plan : Plan
written_through_plan = record {
  disks = ram (codes "md0") 3 ∷ ram (codes "md1") 2 ∷ [];
  actors = codes "a" ∷ [];
  commands =
      command 4 0 (commands.Concat (codes "c") (codes "md0" ∷ []))
      ∷ command 5 0 (commands.Open (codes "h") (codes "concat/c") (counts 1 1 0))
      ∷ command 6 0 (commands.Append (codes "c") (codes "md1"))
      ∷ command 7 0 (commands.Write (codes "h") 1024 (bytes_of ((170, 512) ∷ (187, 512) ∷ [])))
      ∷ command 8 0 (commands.Flush (codes "h"))
      ∷ command 9 0 (commands.Close (codes "h"))
      ∷ command 10 0 (commands.Open (codes "k") (codes "md1") (counts 1 0 0))
      ∷ command 11 0 (commands.Read (codes "k") 0 1024)
      ∷ [];
}

abbrev pub written_through_facts : List (ℕ × ℕ)
written_through_facts = (512, 3) ∷ (512, 2) ∷ []

abbrev pub written_through_text : List ℕ
written_through_text = text_of
    (codes "4 ok"
    ∷ codes "5 ok"
    ∷ codes "6 ok"
    ∷ codes "7 ok"
    ∷ codes "8 ok"
    ∷ codes "9 ok"
    ∷ codes "10 ok"
    ∷ codes "11 ok bb*512 00*512"
    ∷ codes "geom DISK md0 rank 1"
    ∷ codes "  provider md0 size 1536 sector 512 r0w0e0"
    ∷ codes "geom DISK md1 rank 1"
    ∷ codes "  provider md1 size 1024 sector 512 r1w0e0"
    ∷ codes "geom CONCAT c rank 2"
    ∷ codes "  provider concat/c size 2560 sector 512 r0w0e0"
    ∷ codes "  consumer md0 r0w0e0"
    ∷ codes "  consumer md1 r0w0e0"
    ∷ [])

-- a slice in use stays when the concat below it grows, and so no new slice is found
abbrev pub used_slice_plan : Plan
used_slice_plan = record {
  disks = ram (codes "md0") 8 ∷ ram (codes "md1") 4 ∷ [];
  actors = codes "a" ∷ [];
  commands =
      command 4 0 (commands.Concat (codes "c") (codes "md0" ∷ []))
      ∷ command 5 0 (commands.Open (codes "h") (codes "concat/c") (counts 0 1 0))
      ∷ command 6 0 (commands.Write (codes "h") 0 two_slices)
      ∷ command 7 0 (commands.Close (codes "h"))
      ∷ command 8 0 (commands.Open (codes "p") (codes "concat/cs1") (counts 1 0 0))
      ∷ command 9 0 (commands.Append (codes "c") (codes "md1"))
      ∷ command 10 0 (commands.Open (codes "q") (codes "concat/cs2") (counts 1 0 0))
      ∷ command 11 0 (commands.Close (codes "p"))
      ∷ command 12 0 (commands.Open (codes "q") (codes "concat/cs2") (counts 1 0 0))
      ∷ [];
}

abbrev pub used_slice_facts : List (ℕ × ℕ)
used_slice_facts = (512, 8) ∷ (512, 4) ∷ []

abbrev pub used_slice_text : List ℕ
used_slice_text = text_of
    (codes "4 ok"
    ∷ codes "5 ok"
    ∷ codes "6 ok"
    ∷ codes "7 ok"
    ∷ codes "8 ok"
    ∷ codes "9 ok"
    ∷ codes "10 ENOENT"
    ∷ codes "11 ok"
    ∷ codes "12 ENOENT"
    ∷ codes "geom DISK md0 rank 1"
    ∷ codes "  provider md0 size 4096 sector 512 r0w0e0"
    ∷ codes "geom DISK md1 rank 1"
    ∷ codes "  provider md1 size 2048 sector 512 r0w0e0"
    ∷ codes "geom CONCAT c rank 2"
    ∷ codes "  provider concat/c size 6144 sector 512 r0w0e0"
    ∷ codes "  consumer md0 r0w0e0"
    ∷ codes "  consumer md1 r0w0e0"
    ∷ codes "geom MBR md0 rank 2"
    ∷ codes "  provider md0s1 size 3584 sector 512 r0w0e0"
    ∷ codes "  consumer md0 r0w0e0"
    ∷ codes "geom MBR concat/c rank 3"
    ∷ codes "  provider concat/cs1 size 3584 sector 512 r0w0e0"
    ∷ codes "  consumer concat/c r0w0e0"
    ∷ [])

-- what stands on a concat keeps its size when the concat grows, and grows by a command of its own
abbrev pub kept_above_plan : Plan
kept_above_plan = record {
  disks = ram (codes "md0") 3 ∷ ram (codes "md1") 5 ∷ [];
  actors = codes "a" ∷ [];
  commands =
      command 4 0 (commands.Concat (codes "c") (codes "md0" ∷ []))
      ∷ command 5 0 (commands.Concat (codes "d") (codes "concat/c" ∷ []))
      ∷ command 6 0 (commands.Open (codes "h") (codes "concat/d") (counts 1 0 0))
      ∷ command 7 0 (commands.Append (codes "c") (codes "md1"))
      ∷ command 8 0 (commands.Read (codes "h") 1024 1024)
      ∷ command 9 0 (commands.Append (codes "d") (codes "md1"))
      ∷ command 10 0 (commands.Read (codes "h") 1024 1024)
      ∷ [];
}

abbrev pub kept_above_facts : List (ℕ × ℕ)
kept_above_facts = (512, 3) ∷ (512, 5) ∷ []

abbrev pub kept_above_text : List ℕ
kept_above_text = text_of
    (codes "4 ok"
    ∷ codes "5 ok"
    ∷ codes "6 ok"
    ∷ codes "7 ok"
    ∷ codes "8 EIO"
    ∷ codes "9 ok"
    ∷ codes "10 ok 00*1024"
    ∷ codes "geom DISK md0 rank 1"
    ∷ codes "  provider md0 size 1536 sector 512 r1w0e2"
    ∷ codes "geom DISK md1 rank 1"
    ∷ codes "  provider md1 size 2560 sector 512 r2w0e3"
    ∷ codes "geom CONCAT c rank 2"
    ∷ codes "  provider concat/c size 4096 sector 512 r1w0e1"
    ∷ codes "  consumer md0 r1w0e2"
    ∷ codes "  consumer md1 r1w0e2"
    ∷ codes "geom CONCAT d rank 3"
    ∷ codes "  provider concat/d size 4096 sector 512 r1w0e0"
    ∷ codes "  consumer concat/c r1w0e1"
    ∷ codes "  consumer md1 r1w0e1"
    ∷ [])

-- the sectors of so many links in a row, the last of which alone has a partition, of two sectors
abbrev pub chain_bytes : ℕ → List ℕ
chain_bytes n =
    flat_map (λ k. if nat_lt (k + 1) n then link 0 0 0 5 (k + 1) else link 165 1 2 0 0) (range_with_len 0 n)

-- a chain of thirty-two links, of which the last alone has a partition, is read to its end
abbrev pub long_chain_plan : Plan
long_chain_plan = record {
  disks = ram (codes "md0") 40 ∷ [];
  actors = codes "a" ∷ [];
  commands =
      command 3 0 (commands.Open (codes "h") (codes "md0") (counts 1 1 0))
      ∷ command 4 0 (commands.Write (codes "h") 0 (link 5 1 39 0 0))
      ∷ command 5 0 (commands.Write (codes "h") 512 (chain_bytes 32))
      ∷ command 6 0 (commands.Close (codes "h"))
      ∷ command 7 0 (commands.Open (codes "p") (codes "md0s1l32") (counts 1 0 0))
      ∷ command 8 0 (commands.Read (codes "p") 512 512)
      ∷ [];
}

abbrev pub long_chain_facts : List (ℕ × ℕ)
long_chain_facts = (512, 40) ∷ []

abbrev pub long_chain_text : List ℕ
long_chain_text = text_of
    (codes "3 ok"
    ∷ codes "4 ok"
    ∷ codes "5 ok"
    ∷ codes "6 ok"
    ∷ codes "7 ok"
    ∷ codes "8 ok 00*512"
    ∷ codes "geom DISK md0 rank 1"
    ∷ codes "  provider md0 size 20480 sector 512 r1w0e2"
    ∷ codes "geom MBR md0 rank 2"
    ∷ codes "  provider md0s1 size 19968 sector 512 r1w0e1"
    ∷ codes "  consumer md0 r1w0e2"
    ∷ codes "geom EBR md0s1 rank 3"
    ∷ codes "  provider md0s1l32 size 1024 sector 512 r1w0e0"
    ∷ codes "  consumer md0s1 r1w0e1"
    ∷ [])

-- a chain of thirty-three links is declined
abbrev pub too_long_chain_plan : Plan
too_long_chain_plan = record {
  disks = ram (codes "md0") 40 ∷ [];
  actors = codes "a" ∷ [];
  commands =
      command 3 0 (commands.Open (codes "h") (codes "md0") (counts 1 1 0))
      ∷ command 4 0 (commands.Write (codes "h") 0 (link 5 1 39 0 0))
      ∷ command 5 0 (commands.Write (codes "h") 512 (chain_bytes 33))
      ∷ command 6 0 (commands.Close (codes "h"))
      ∷ command 7 0 (commands.Open (codes "p") (codes "md0s1l33") (counts 1 0 0))
      ∷ [];
}

abbrev pub too_long_chain_facts : List (ℕ × ℕ)
too_long_chain_facts = (512, 40) ∷ []

abbrev pub too_long_chain_text : List ℕ
too_long_chain_text = text_of
    (codes "3 ok"
    ∷ codes "4 ok"
    ∷ codes "5 ok"
    ∷ codes "6 ok"
    ∷ codes "7 ENOENT"
    ∷ codes "geom DISK md0 rank 1"
    ∷ codes "  provider md0 size 20480 sector 512 r0w0e0"
    ∷ codes "geom MBR md0 rank 2"
    ∷ codes "  provider md0s1 size 19968 sector 512 r0w0e0"
    ∷ codes "  consumer md0 r0w0e0"
    ∷ [])
