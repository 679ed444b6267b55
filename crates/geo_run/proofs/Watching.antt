-- What a watcher knows of a mesh, and what is reported of it.
use Rattle.std.proofs.Common.{◌≡◌, ℕ, List, [], ◌++◌, Option, Some, None, Result, Ok, Err, IfOk, IfSome, rules}
use Rattle.geo_model.specs.declared.listing.GeomLine.{GeomLine}
use Rattle.geo_model.specs.declared.step.Entry.{Entry}
use Rattle.geo_model.specs.World.{Plan}
use Rattle.geo_model.specs.Listing.{listing}
use Rattle.geo_model.specs.Report.{report}
use Rattle.geo_headline.specs.Modes.{Mode}
use Rattle.geo_headline.specs.Viewing.{view_text}
use Rattle.geo_elev.specs.Meshes.{IsHistory, MeshView, opened, world_of}
use Rattle.geo_elev.specs.DrainRefusal.{DrainRefusal}
use Rattle.geo_shown.specs.Shown.{IsWatchedReport}
use Rattle.geo_run.specs.Drives.{DriveView}
use Rattle.geo_run.specs.Runners.{RanOrNot}

-- what holds of each holds of one that may be there
pub holds_if_there : {A : Type 0} (o : Option A) (P : A → Type 0) → ((a : A) → P a) → IfSome o P
holds_if_there None P all = tt
holds_if_there (Some a) P all = all a

-- a mesh that was run opened as it was printed before its first step
pub opening_listed : (mode : Mode) (old : MeshView) (left : Option MeshView) (xs ys : List DriveView)
    (answer : Result (Unit {0}) DrainRefusal) (list : List GeomLine) → old.log ≡ [] → list ≡ listing (world_of old)
    → RanOrNot mode old left xs ys answer → IfSome left (λ m. list ≡ listing (opened m))
opening_listed mode old None xs ys answer list none is ran = tt
opening_listed mode old (Some new) xs ys answer list none is ran = search rules

-- a report of what a mesh lists and listed as it opened is the report of its log with what was shown of it
pub watched_is : {E : Type 0} (m : MeshView) (plan : Plan) (log : List Entry) (lines first : List GeomLine)
    (r : Result (List ℕ) E) → IsHistory m → plan ≡ m.plan → log ≡ m.log → lines ≡ listing (world_of m)
    → first ≡ listing (opened m) → IfOk r (IsWatchedReport plan log lines first)
    → IfOk r (λ text. text ≡ report m.plan (opened m) m.log ++ view_text m.plan (opened m) m.log)
watched_is m plan log lines first (Err e) h p l at begins is = tt
watched_is m plan log lines first (Ok text) h p l at begins is = search rules
