-- What the grammar of traces keeps, and what it means that a trace is verified.
use Rattle.std.specs.Prelude.{◌≡◌, ℕ, ◌+◌, ◌^◌, ◌<◌, ◌≤◌, List, length, Ok, All, ⊤}
use Rattle.geo_base.specs.declared.limits.TheConstants.{MAX_REQUEST_BYTES}
use Rattle.geo_model.specs.declared.step.DeviceResult.{DeviceResult}
use Rattle.geo_model.specs.declared.step.DeviceResult.TheVariants as devices
use Rattle.geo_model.specs.declared.step.Entry.{Entry}
use Rattle.geo_model.specs.declared.step.Step.{Step}
use Rattle.geo_model.specs.declared.step.Step.TheVariants as steps
use Rattle.geo_model.specs.World.{World, Plan}
use Rattle.geo_model.specs.Opening.{opening}
use Rattle.geo_model.specs.Plans.{IsRunsBytes, FactsFit}
use Rattle.geo_model.specs.Log.{Legal, replay, owed}
use Rattle.geo_model.specs.Order.{Rest}
use Rattle.geo_model.specs.Report.{report}
use Rattle.geo_model.specs.Script.{IsScript}
use Rattle.geo_model.specs.Laws.{OfEachLegalLog, world_by}
use Rattle.geo_model.specs.Fitting.{Firm}
use Rattle.geo_headline.specs.declared.verified.Verified.TheVariants as found
use Rattle.geo_headline.specs.Traces.{Trace, IsTrace, trace_text, script_part, steps_of}
use Rattle.geo_headline.specs.Verifying.{verified, IsVerified}

-- Both ways

-- a device's answer whose number or bytes are within their ranges
abbrev pub IsWritableAnswer : DeviceResult → Type 0
IsWritableAnswer devices.Done = ⊤
IsWritableAnswer (devices.Failed done) = done < 2 ^ 32
IsWritableAnswer (devices.Bytes bytes) = IsRunsBytes bytes

-- a step whose numbers are within their ranges
abbrev pub IsWritable : Step → Type 0
IsWritable (steps.Go actor) = actor < 2 ^ 32
IsWritable (steps.Start b) = b < 2 ^ 64
IsWritable (steps.Take disk b) = (disk < 2 ^ 32) × (b < 2 ^ 64)
IsWritable (steps.Deliver b got) = (b < 2 ^ 64) × IsWritableAnswer got
IsWritable (steps.Up b) = b < 2 ^ 64
IsWritable _ = ⊤

-- steps that can be written, each with a seat that can
abbrev pub AreWritable : List (ℕ × Step) → Type 0
AreWritable items = All (λ item. (item.0 < 2 ^ 32) × IsWritable item.1) items

-- what is written is read: whatever report stands behind
abbrev pub WrittenIsRead : Type 0
WrittenIsRead =
    (script : List ℕ) (t : Trace) → IsScript script t.plan → FactsFit t.plan t.facts → AreWritable t.steps
    → IsTrace (trace_text script t) t

-- what is read was written so
abbrev pub ReadIsWritten : Type 0
ReadIsWritten = (text : List ℕ) (t : Trace) → IsTrace text t → text ≡ trace_text (script_part text) t

-- a trace fits the script before it: the plan is the script's, the sizes fit the plan, and the steps can be written
pub record FitsItsScript (text : List ℕ) (t : Trace) : Type 0 where
  pub reads : IsScript (script_part text) t.plan
  pub facts : FactsFit t.plan t.facts
  pub steps : AreWritable t.steps

-- what is read of a text fits its script
abbrev pub ReadFits : Type 0
ReadFits = (text : List ℕ) (t : Trace) → IsTrace text t → FitsItsScript text t

-- Verified

-- yes is said exactly where the steps make a whole log that ends at rest and has this report
pub record YesMeans (text : List ℕ) (t : Trace) : Type 0 where
  pub says : verified text ≡ Ok found.Yes → IsVerified t
  pub said : IsVerified t → verified text ≡ Ok found.Yes

abbrev pub YesIsVerified : Type 0
YesIsVerified = (text : List ℕ) (t : Trace) → IsTrace text t → YesMeans text t

-- so a trace of a legal log that ends at rest, with its report, is verified
abbrev pub LegalIsVerified : Type 0
LegalIsVerified =
    (plan : Plan) (facts : List (ℕ × ℕ)) (log : List Entry) (text : List ℕ) → Legal (opening plan facts) log
    → Rest (replay (opening plan facts) log)
    → IsTrace text
    (record { plan = plan; facts = facts; steps = steps_of log; report = report plan (opening plan facts) log })
    → verified text ≡ Ok found.Yes

-- What legal logs give a writer and a verifier

-- each Deliver of bytes has some, and no more than a request can ask for
abbrev pub FewBytes : Step → Type 0
FewBytes (steps.Deliver b (devices.Bytes bytes)) = (1 ≤ length bytes) × (length bytes ≤ MAX_REQUEST_BYTES)
FewBytes _ = ⊤

abbrev pub DeliversAreShort : Type 0
DeliversAreShort = OfEachLegalLog (λ opened log. All (λ e. FewBytes e.step) log)

-- a step begins to owe one place at most
abbrev pub OwesOneMore : Type 0
OwesOneMore = (w : World) (seat : ℕ) (s : Step) → Firm w → owed (world_by w seat s) ≤ owed w + 1

-- so a legal log owes no more places than it has entries, and one of few entries is never full
abbrev pub OwesFew : Type 0
OwesFew = OfEachLegalLog (λ opened log. owed (replay opened log) ≤ length log)
