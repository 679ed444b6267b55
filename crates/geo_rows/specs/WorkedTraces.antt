-- Traces of worked runs, and texts that are almost traces.
use Rattle.std.specs.Prelude.{ℕ, zero, suc, false, List, [], ◌∷◌, ◌++◌, codes}
use Rattle.geo_model.specs.declared.command.DiskDecl.{DiskDecl}
use Rattle.geo_model.specs.declared.command.DiskKind.TheVariants.{Shelf}
use Rattle.geo_model.specs.Opening.{opening}
use Rattle.geo_model.specs.World.{Plan}
use Rattle.geo_headline.specs.Endings.{reported_by}
use Rattle.geo_headline.specs.Modes.{TraceMode}
use Rattle.geo_rows.specs.FixedRuns.{run_fixed, zero_devices}
use Rattle.geo_rows.specs.Rows.{text_of, two_users_plan}

-- the trace of a script whose plan went to rest in the fixed order, over at most so many steps
abbrev pub traced : ℕ → List ℕ → Plan → List (ℕ × ℕ) → List ℕ
traced n script plan facts =
    reported_by TraceMode script plan facts (run_fixed n (opening plan facts) (zero_devices facts)).log

-- a disk of the shelf
abbrev pub shelf : List ℕ → ℕ → DiskDecl
shelf name sector = record { kind = Shelf; name = name; sector = sector; sectors = 0; later = false }

-- a disk with a single sector, on which every class is passed over
abbrev pub taste_script : List ℕ
taste_script = text_of (codes "disk d 4096" ∷ codes "actor a" ∷ [])

abbrev pub taste_plan : Plan
taste_plan = record { disks = shelf (codes "d") 4096 ∷ []; actors = codes "a" ∷ []; commands = [] }

abbrev pub taste_facts : List (ℕ × ℕ)
taste_facts = (4096, 1) ∷ []

-- with these steps, and these counts in the report
abbrev pub taste_trace : List (List ℕ) → List ℕ → List ℕ
taste_trace steps counts =
    taste_script
    ++ text_of (codes "% disk 1" ∷ steps)
    ++ text_of
    (codes "% report" ∷ codes "geom DISK d rank 1" ∷ (codes "  provider d size 4096 sector 4096 " ++ counts) ∷ [])

-- so many tastes; behind the event of the new provider
abbrev pub judges : ℕ → List (List ℕ)
judges zero = []
judges (suc n) = codes "% 0 judge" ∷ judges n

abbrev pub judged : ℕ → List (List ℕ)
judged n = codes "% 0 event" ∷ judges n

abbrev pub whole_trace : List ℕ
whole_trace = taste_trace (judged 6) (codes "r0w0e0")

-- with one step less, and with one more
abbrev pub short_trace : List ℕ
short_trace = taste_trace (judged 5) (codes "r0w0e0")

abbrev pub long_trace : List ℕ
long_trace = taste_trace (judged 7) (codes "r0w0e0")

-- with another report
abbrev pub other_report_trace : List ℕ
other_report_trace = taste_trace (judged 6) (codes "r1w0e0")

-- with a line that is no step
abbrev pub jump_trace : List ℕ
jump_trace = taste_trace (codes "% 0 event" ∷ codes "% 0 jump" ∷ judges 5) (codes "r0w0e0")

-- two users of two images
abbrev pub image_users_plan : Plan
image_users_plan = record two_users_plan { disks = shelf (codes "ada0") 512 ∷ shelf (codes "ada1") 512 ∷ [] }

abbrev pub image_users_script : List ℕ
image_users_script = text_of
    (codes "disk ada0 512"
    ∷ codes "disk ada1 512"
    ∷ codes "actor root"
    ∷ codes "actor user"
    ∷ codes "root stripe fast 4096 ada0 ada1"
    ∷ codes "root open s stripe/fast r1w1e0"
    ∷ codes "root write s 0 11*4096 22*4096"
    ∷ codes "user open u stripe/fast r1w0e0"
    ∷ codes "user read u 4096 4096"
    ∷ codes "user open v ada0 r1w1e0"
    ∷ codes "root pull ada1"
    ∷ codes "user read u 0 512"
    ∷ codes "root close s"
    ∷ codes "user close u"
    ∷ codes "user open v ada0 r1w0e0"
    ∷ codes "user read v 0 512"
    ∷ [])
