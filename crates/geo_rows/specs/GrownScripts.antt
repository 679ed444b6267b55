-- The scripts of the runs in which a concat grows, labels are written and logical partitions are found.
use Rattle.std.specs.Prelude.{ℕ, List, [], ◌∷◌, codes}
use Rattle.geo_rows.specs.Rows.{text_of}

abbrev pub growing_script : List ℕ
growing_script = text_of
    (codes "ram md0 512 3"
    ∷ codes "ram md1 512 5"
    ∷ codes "ram md2 512 2"
    ∷ codes "actor a"
    ∷ codes "a concat c md0 md1"
    ∷ codes "a open h concat/c r1w1e0"
    ∷ codes "a write h 3584 11*512"
    ∷ codes "a append c md2"
    ∷ codes "a read h 3584 1536"
    ∷ codes "a append c concat/c"
    ∷ codes "a concat d concat/c"
    ∷ codes "a append c concat/d"
    ∷ codes "a append c md0"
    ∷ [])

abbrev pub appearing_script : List ℕ
appearing_script = text_of
    (codes "ram md0 512 8"
    ∷ codes "ram md1 512 4"
    ∷ codes "actor a"
    ∷ codes "a concat c md0"
    ∷ codes "a open h concat/c r0w1e0"
    ∷ codes "a write h 0 00*450 a5*1 00*3 01*1 00*3 07*1 00*7 a5*1 00*3 08*1 00*3 04*1 00*35 55*1 aa*1"
    ∷ codes "a close h"
    ∷ codes "a open p concat/cs2 r1w0e0"
    ∷ codes "a append c md1"
    ∷ codes "a open p concat/cs2 r1w0e0"
    ∷ codes "a read p 0 2048"
    ∷ [])

abbrev pub sized_label_script : List ℕ
sized_label_script = text_of
    (codes "ram md0 512 8"
    ∷ codes "actor a"
    ∷ codes "a open h md0 r1w1e0"
    ∷ codes "a write h 0 00*450 a5*1 00*3 01*1 00*3 07*1 00*51 55*1 aa*1"
    ∷ codes "a close h"
    ∷ codes "a open p md0s1 r1w1e0"
    ∷ codes "a relabel p vol"
    ∷ codes "a read p 3072 512"
    ∷ codes "a close p"
    ∷ [])

abbrev pub plain_label_script : List ℕ
plain_label_script = text_of
    (codes "ram md0 512 8"
    ∷ codes "actor a"
    ∷ codes "a open h md0 r1w1e0"
    ∷ codes "a write h 0 00*450 a5*1 00*3 01*1 00*3 07*1 00*51 55*1 aa*1"
    ∷ codes "a close h"
    ∷ codes "a open p md0s1 r1w1e0"
    ∷ codes "a label p vol"
    ∷ codes "a read p 3072 512"
    ∷ codes "a close p"
    ∷ [])

abbrev pub logical_script : List ℕ
logical_script = text_of
    (codes "ram md0 512 64"
    ∷ codes "actor a"
    ∷ codes "a open h md0 r1w1e0"
    ∷ codes "a write h 0 00*450 05*1 00*3 01*1 00*3 3f*1 00*51 55*1 aa*1"
    ∷ codes "a write h 512 00*450 a5*1 00*3 01*1 00*3 04*1 00*7 05*1 00*3 0a*1 00*3 05*1 00*35 55*1 aa*1"
    ∷ codes "a write h 5632 00*450 a5*1 00*3 01*1 00*3 03*1 00*51 55*1 aa*1"
    ∷ codes "a write h 6144 77*512"
    ∷ codes "a close h"
    ∷ codes "a open p md0s1l2 r1w0e0"
    ∷ codes "a read p 0 512"
    ∷ [])

abbrev pub looping_script : List ℕ
looping_script = text_of
    (codes "ram md0 512 64"
    ∷ codes "actor a"
    ∷ codes "a open h md0 r1w1e0"
    ∷ codes "a write h 0 00*450 05*1 00*3 01*1 00*3 3f*1 00*51 55*1 aa*1"
    ∷ codes "a write h 512 00*450 a5*1 00*3 01*1 00*3 04*1 00*7 05*1 00*3 0a*1 00*3 05*1 00*35 55*1 aa*1"
    ∷ codes "a write h 5632 00*450 a5*1 00*3 01*1 00*3 03*1 00*7 05*1 00*43 55*1 aa*1"
    ∷ codes "a write h 6144 77*512"
    ∷ codes "a close h"
    ∷ codes "a open p md0s1l2 r1w0e0"
    ∷ codes "a read p 0 512"
    ∷ [])

abbrev pub refusing_script : List ℕ
refusing_script = text_of
    (codes "ram md0 512 4"
    ∷ codes "ram md1 512 4"
    ∷ codes "ram md2 512 4"
    ∷ codes "ram md3 512 4"
    ∷ codes "ram md4 4096 4"
    ∷ codes "actor a"
    ∷ codes "a append c md1"
    ∷ codes "a concat c md0"
    ∷ codes "a append c md9"
    ∷ codes "a append c md4"
    ∷ codes "a open p concat/c r1w0e0"
    ∷ codes "a open q md1 r0w1e0"
    ∷ codes "a append c md1"
    ∷ codes "a close q"
    ∷ codes "a close p"
    ∷ codes "a concat f md1 md1 md1 md1 md1 md1 md1 md1 md1 md1 md1 md1 md1 md1 md1 md1"
    ∷ codes "a append f md1"
    ∷ codes "a open h md2 r0w1e0"
    ∷ codes "a mark h concat v 7 0 1"
    ∷ codes "a close h"
    ∷ codes "a append v md1"
    ∷ codes "a open h md3 r0w1e0"
    ∷ codes "a mark h concat w 8 0 2"
    ∷ codes "a close h"
    ∷ codes "a append w md1"
    ∷ codes "a destroy concat c"
    ∷ codes "a append c md1"
    ∷ [])

abbrev pub relabelling_script : List ℕ
relabelling_script = text_of
    (codes "ram md0 512 4"
    ∷ codes "actor a"
    ∷ codes "a relabel h vol"
    ∷ codes "a open h md0 r1w0e0"
    ∷ codes "a relabel h vol"
    ∷ codes "a close h"
    ∷ codes "a open h md0 r0w1e0"
    ∷ codes "a label h old"
    ∷ codes "a close h"
    ∷ codes "a open h md0 r0w1e0"
    ∷ codes "a relabel h vol"
    ∷ codes "a close h"
    ∷ codes "a open k label/old r1w0e0"
    ∷ codes "a open k label/vol r1w0e0"
    ∷ codes "a read k 1024 512"
    ∷ [])

abbrev pub written_through_script : List ℕ
written_through_script = text_of
    (codes "ram md0 512 3"
    ∷ codes "ram md1 512 2"
    ∷ codes "actor a"
    ∷ codes "a concat c md0"
    ∷ codes "a open h concat/c r1w1e0"
    ∷ codes "a append c md1"
    ∷ codes "a write h 1024 aa*512 bb*512"
    ∷ codes "a flush h"
    ∷ codes "a close h"
    ∷ codes "a open k md1 r1w0e0"
    ∷ codes "a read k 0 1024"
    ∷ [])

abbrev pub used_slice_script : List ℕ
used_slice_script = text_of
    (codes "ram md0 512 8"
    ∷ codes "ram md1 512 4"
    ∷ codes "actor a"
    ∷ codes "a concat c md0"
    ∷ codes "a open h concat/c r0w1e0"
    ∷ codes "a write h 0 00*450 a5*1 00*3 01*1 00*3 07*1 00*7 a5*1 00*3 08*1 00*3 04*1 00*35 55*1 aa*1"
    ∷ codes "a close h"
    ∷ codes "a open p concat/cs1 r1w0e0"
    ∷ codes "a append c md1"
    ∷ codes "a open q concat/cs2 r1w0e0"
    ∷ codes "a close p"
    ∷ codes "a open q concat/cs2 r1w0e0"
    ∷ [])

abbrev pub kept_above_script : List ℕ
kept_above_script = text_of
    (codes "ram md0 512 3"
    ∷ codes "ram md1 512 5"
    ∷ codes "actor a"
    ∷ codes "a concat c md0"
    ∷ codes "a concat d concat/c"
    ∷ codes "a open h concat/d r1w0e0"
    ∷ codes "a append c md1"
    ∷ codes "a read h 1024 1024"
    ∷ codes "a append d md1"
    ∷ codes "a read h 1024 1024"
    ∷ [])
