-- What one thread made of a mesh, by the word that asked for it.
use Rattle.std.proofs.Common.{◌≡◌, ℕ, List, [], ◌++◌, Option, Some, Result, Ok, Err, OnOk, IfOk, IsErrOf, sym, ◌∙◌, ap, subst, rules}
use Rattle.geo_model.specs.declared.listing.GeomLine.{GeomLine}
use Rattle.geo_model.specs.declared.step.Entry.{Entry}
use Rattle.geo_model.specs.World.{World, Plan}
use Rattle.geo_model.specs.FixedOrder.{FollowsOrder, StepOrder, fixed_order}
use Rattle.geo_model.specs.History.{KeepsHistory, RanToItsEnd}
use Rattle.geo_model.specs.Listing.{listing}
use Rattle.geo_model.specs.Log.{Fits}
use Rattle.geo_model.specs.Report.{report, summary}
use Rattle.geo_headline.specs.Modes.{Mode, StepMode, GenMode}
use Rattle.geo_headline.specs.Endings.{Ending, order_of}
use Rattle.geo_headline.specs.Headline.{FollowsMode}
use Rattle.geo_elev.specs.Meshes.{MeshView, opened, world_of}
use Rattle.geo_elev.specs.DrainRefusal.{DrainRefusal}
use Rattle.geo_elev.specs.DrainRefusal.TheVariants as refusals
use Rattle.geo_report.specs.Texts.{IsReport, IsSummary}
use Rattle.geo_run.specs.Drives.{DriveView}
use Rattle.geo_run.specs.Rest.{Adds, RanFull}
use Rattle.geo_run.specs.Runners.{RanAlone, RanOrNot, ending_after}

-- an order from an empty log
order_from : (order : StepOrder) (w : World) (earlier log added : List Entry) → earlier ≡ [] → log ≡ earlier ++ added
    → FollowsOrder order w earlier added → FollowsOrder order w [] log
order_from order w earlier log added none e follows =
    subst (λ (l : List Entry). FollowsOrder order w [] l) (sym (e ∙ ap (λ es. es ++ added) none))
    (subst (λ (es : List Entry). FollowsOrder order w es added) none follows)

-- what a mesh did that began with an empty log
pub ran_alone : (order : StepOrder) (old new : MeshView) (left : Option MeshView) (xs ys : List DriveView)
    (answer : Result (Unit {0}) DrainRefusal) → old.log ≡ [] → left ≡ Some new → Adds order old new xs ys
    → KeepsHistory (opened new) new.log → Fits (opened new) new.log → OnOk answer (RanToItsEnd (opened new) new.log)
    → (IsErrOf answer refusals.LogFull → RanFull order (opened new) new.log)
    → RanAlone order old left xs ys answer
ran_alone order old new left xs ys answer none some adds history fits rest full =
    search (
      rules,
      order_from order (opened new) old.log new.log adds.added none (ap (λ (m : MeshView). m.log) adds.mesh)
          (subst (λ (w : World). FollowsOrder order w old.log adds.added)
          (sym (ap (λ (m : MeshView). opened m) adds.mesh)) adds.follows),
    )

-- that is what a mode asks for which has this order, and no threads
ran_in : (mode : Mode) (old : MeshView) (left : Option MeshView) (xs ys : List DriveView)
    (answer : Result (Unit {0}) DrainRefusal)
    → ((plan : Plan) (w : World) (ending : Ending) (log : List Entry)
    → FollowsOrder (order_of mode) w [] log → FollowsMode mode plan w ending log)
    → RanAlone (order_of mode) old left xs ys answer → RanOrNot mode old left xs ys answer
ran_in mode old left xs ys answer alone r =
    search (rules, alone r.new.plan (opened r.new) (ending_after answer) r.new.log r.follows)

pub stepped : (old : MeshView) (left : Option MeshView) (xs ys : List DriveView)
    (answer : Result (Unit {0}) DrainRefusal) → RanAlone fixed_order old left xs ys answer
    → RanOrNot StepMode old left xs ys answer
stepped old left xs ys answer r = ran_in StepMode old left xs ys answer (λ plan w ending log f. f) r

pub drawn : (start count : ℕ) (old : MeshView) (left : Option MeshView) (xs ys : List DriveView)
    (answer : Result (Unit {0}) DrainRefusal) → RanAlone fixed_order old left xs ys answer
    → RanOrNot (GenMode start count) old left xs ys answer
drawn start count old left xs ys answer r = search rules

-- The report

-- a report of what a mesh lists is the report of its log
pub report_is : {E : Type 0} (m : MeshView) (plan : Plan) (log : List Entry) (lines : List GeomLine)
    (r : Result (List ℕ) E) → plan ≡ m.plan → log ≡ m.log → lines ≡ listing (world_of m)
    → IfOk r (IsReport plan log lines) → IfOk r (λ text. text ≡ report m.plan (opened m) m.log)
report_is m plan log lines (Err e) p l at h = tt
report_is m plan log lines (Ok text) p l at h = search rules

-- and a summary of it is its summary
pub summary_is : {E : Type 0} (m : MeshView) (plan : Plan) (log : List Entry) (lines : List GeomLine)
    (r : Result (List ℕ) E) → plan ≡ m.plan → log ≡ m.log → lines ≡ listing (world_of m)
    → IfOk r (IsSummary plan log lines) → IfOk r (λ text. text ≡ summary m.plan (opened m) m.log)
summary_is m plan log lines (Err e) p l at h = tt
summary_is m plan log lines (Ok text) p l at h = search rules
