-- What a watcher of worked runs sees.
use Rattle.std.specs.Prelude.{ℕ, List, [], ◌∷◌, ◌++◌, codes, map}
use Rattle.geo_model.specs.declared.command.Command.TheVariants as commands
use Rattle.geo_model.specs.declared.step.Entry.{Entry}
use Rattle.geo_model.specs.Opening.{opening}
use Rattle.geo_model.specs.World.{Plan}
use Rattle.geo_headline.specs.Endings.{reported_by}
use Rattle.geo_headline.specs.Modes.{WatchMode}
use Rattle.geo_rows.specs.FixedRuns.{run_fixed, zero_devices}
use Rattle.geo_rows.specs.Rows.{command, counts, first_text, ram, text_of}

-- the log of a plan in the fixed order, with each entry made by a seat
abbrev pub by_seat : ℕ → Entry → Entry
by_seat seat e = record e { seat = seat }

abbrev pub log_by_seat : ℕ → ℕ → Plan → List (ℕ × ℕ) → List Entry
log_by_seat seat n plan facts = map (by_seat seat) (run_fixed n (opening plan facts) (zero_devices facts)).log

-- what a watched run of a script prints
abbrev pub watched : ℕ → ℕ → List ℕ → Plan → List (ℕ × ℕ) → List ℕ
watched seat n script plan facts = reported_by WatchMode script plan facts (log_by_seat seat n plan facts)

-- where no mesh was asked for, the view is that of the opening
abbrev pub first_watched : List ℕ
first_watched =
    first_text
    ++ text_of
    (codes "view 0" ∷ codes "geom DISK md0 rank 1" ∷ codes "  provider md0 size 2048 sector 512 r0w0e0" ∷ [])

-- a mesh is asked for at the end
abbrev pub listing_script : List ℕ
listing_script = text_of
    (codes "ram md0 512 4"
    ∷ codes "actor a"
    ∷ codes "a open h md0 r1w0e0"
    ∷ codes "a read h 0 512"
    ∷ codes "a sync"
    ∷ codes "a close h"
    ∷ codes "a settle"
    ∷ codes "a mesh"
    ∷ [])

abbrev pub listing_plan : Plan
listing_plan = record {
  disks = ram (codes "md0") 4 ∷ [];
  actors = codes "a" ∷ [];
  commands =
      command 3 0 (commands.Open (codes "h") (codes "md0") (counts 1 0 0))
      ∷ command 4 0 (commands.Read (codes "h") 0 512)
      ∷ command 5 0 commands.Sync
      ∷ command 6 0 (commands.Close (codes "h"))
      ∷ command 7 0 commands.Settle
      ∷ command 8 0 commands.Mesh
      ∷ [];
}

abbrev pub listing_facts : List (ℕ × ℕ)
listing_facts = (512, 4) ∷ []

-- what is printed where the view's number is this one
abbrev pub listing_watched : List ℕ → List ℕ
listing_watched view = text_of
    (codes "3 ok"
    ∷ codes "4 ok 00*512"
    ∷ codes "5 ok"
    ∷ codes "6 ok"
    ∷ codes "7 ok"
    ∷ codes "8 ok"
    ∷ codes "geom DISK md0 rank 1"
    ∷ codes "  provider md0 size 2048 sector 512 r0w0e0"
    ∷ codes "geom DISK md0 rank 1"
    ∷ codes "  provider md0 size 2048 sector 512 r0w0e0"
    ∷ (codes "view " ++ view)
    ∷ codes "geom DISK md0 rank 1"
    ∷ codes "  provider md0 size 2048 sector 512 r0w0e0"
    ∷ [])

-- a mesh is asked for while a handle is open, which is closed behind it
abbrev pub early_listing_script : List ℕ
early_listing_script = text_of
    (codes "ram md0 512 4"
    ∷ codes "actor a"
    ∷ codes "a open h md0 r1w0e0"
    ∷ codes "a mesh"
    ∷ codes "a close h"
    ∷ [])

abbrev pub early_listing_plan : Plan
early_listing_plan = record {
  disks = ram (codes "md0") 4 ∷ [];
  actors = codes "a" ∷ [];
  commands =
      command 3 0 (commands.Open (codes "h") (codes "md0") (counts 1 0 0))
      ∷ command 4 0 commands.Mesh
      ∷ command 5 0 (commands.Close (codes "h"))
      ∷ [];
}

abbrev pub early_listing_watched : List ℕ
early_listing_watched = text_of
    (codes "3 ok"
    ∷ codes "4 ok"
    ∷ codes "geom DISK md0 rank 1"
    ∷ codes "  provider md0 size 2048 sector 512 r1w0e0"
    ∷ codes "5 ok"
    ∷ codes "geom DISK md0 rank 1"
    ∷ codes "  provider md0 size 2048 sector 512 r0w0e0"
    ∷ codes "view 29"
    ∷ codes "geom DISK md0 rank 1"
    ∷ codes "  provider md0 size 2048 sector 512 r1w0e0"
    ∷ [])
