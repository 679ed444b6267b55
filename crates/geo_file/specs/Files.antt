-- Image files as contracts see them: what they hold isn't told.
use Rattle.std.specs.Prelude.{ℕ, ◌*◌, ◌<◌, ◌≤◌, List, Contains, None}
use Rattle.geo_base.specs.declared.limits.TheConstants.{MAX_IMAGE_BYTES}
use Rattle.geo_disk.specs.Disk.{DiskView}
use Rattle.geo_disk.specs.Lending.{Loans, faults_of, give_faults_of, returned_asked, returned_sectors, take_faults_of}
use Rattle.geo_disk.specs.Shelf.{ShelfView}
use Rattle.geo_disk.specs.Calls.{CallMade}
use Rattle.geo_disk.specs.declared.shelf.ShelfCall.{ShelfCall}
use Rattle.geo_file.specs.Pieces.{Put}

-- an image file that is open
pub record Image : Type 0 where
  -- its sector size, and how many sectors it has
  pub sector : ℕ
  pub sectors : ℕ
  -- how many calls failed
  pub faults : ℕ
  -- what it was asked and what it answered, in order
  pub asked : List CallMade
  -- what was written to the file since it was opened, in order
  pub wrote : List Put

-- a file doesn't tell what it holds
abbrev pub image_view : Image → DiskView
image_view d = record {
  held = None;
  sector = d.sector;
  count = d.sectors;
  faults = d.faults;
  asked = d.asked;
}

-- a sector has bytes, and the places of all of them are far below the end of an offset
pub record IsReachable (sector sectors : ℕ) : Type 0 where
  pub some : 0 < sector
  pub limited : sectors * sector ≤ MAX_IMAGE_BYTES

-- a folder: what is lent of it, how many calls failed, and what its calls were
pub record Folder : Type 0 where
  pub loans : Loans
  pub faults : ℕ
  pub asked : List ShelfCall

-- a folder doesn't tell what it holds
abbrev pub folder_view : Folder → ShelfView
folder_view s = record {
  told = None;
  lent = s.loans.lent;
  faults = s.faults;
  faults_of = faults_of s.loans;
  take_faults = take_faults_of s.loans;
  give_faults = give_faults_of s.loans;
  asked_of = returned_asked s.loans;
  sectors_of = returned_sectors s.loans;
  calls = s.asked;
}

-- where nothing is told, nothing is to be shown of what is told
pub tells_nothing : (s : Folder) (name : List ℕ) → Contains s.loans.lent name → Unit {0}
tells_nothing s name one = tt
