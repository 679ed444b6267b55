-- Calls of a right program.
use Rattle.std.specs.Prelude.{ℕ, false, true, List, [], ◌∷◌, ◌++◌, Some, None, codes}
use Rattle.geo_disk.specs.declared.shelf.TakeAnswer.TheVariants as answers
use Rattle.geo_model.specs.declared.command.DiskDecl.{DiskDecl}
use Rattle.geo_model.specs.declared.command.DiskKind.TheVariants.{Shelf}
use Rattle.geo_model.specs.World.{Plan}
use Rattle.geo_headline.specs.Outside.{ShelfView, SinkView, SourceView, gives_of, takes_of}
use Rattle.geo_headline.specs.Endings.{Call}

-- a disk of the shelf that isn't to stand yet
abbrev pub later_text : List ℕ
later_text = codes "disk d 512 later"

abbrev pub later_disk : DiskDecl
later_disk = record { kind = Shelf; name = codes "d"; sector = 512; sectors = 0; later = true }

abbrev pub later_plan : Plan
later_plan = record { disks = later_disk ∷ []; actors = []; commands = [] }

-- a shelf that tells nothing and wasn't called yet, of which nothing is lent and nothing failed; no disk was asked, and
-- each had 1,000 sectors
abbrev pub silent_shelf : ShelfView
silent_shelf = record {
  told = None;
  lent = [];
  faults = 0;
  faults_of = λ name. 0;
  take_faults = λ name. 0;
  give_faults = λ name. 0;
  asked_of = λ name. [];
  sectors_of = λ name. 1000;
  calls = [];
}

-- the same after its disk was taken and given back
abbrev pub shelf_after : ShelfView
shelf_after = record silent_shelf { calls = takes_of answers.Disk (codes "d" ∷ []) ++ gives_of (codes "d" ∷ []) }

-- a stream that gave these bytes so far
abbrev pub stream_before : SourceView
stream_before = record { given = []; ended = false; left = None; reads = 0; faults = 0; failed = false }

abbrev pub stream_after : SourceView
stream_after =
    record { given = later_text; ended = true; left = None; reads = 2; faults = 0; failed = false }

-- a sink that took nothing
abbrev pub nothing_taken : SinkView
nothing_taken = record { taken = []; held = None; faults = 0; failed = false }

-- its disk has 1,000 sectors, no step is made, and the report is empty
abbrev pub quiet_call : Call
quiet_call = record {
  words = codes "step" ∷ [];
  text = later_text;
  facts = (512, 1000) ∷ [];
  status = 0;
  written = [];
  log = Some [];
  before = record { source = stream_before; sink = nothing_taken; shelf = silent_shelf };
  after = record { source = stream_after; sink = nothing_taken; shelf = shelf_after };
}
