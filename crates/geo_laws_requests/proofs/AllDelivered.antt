-- A Busy bio was asked and isn't delivered, so where all are delivered none is Busy.
use Rattle.std.specs.Prelude.{◌≡◌, ℕ, false, List, [], ◌∷◌, find, None, IsSome, option_and_then}
use Rattle.std.specs.List.{AllByRecursion}
use Rattle.std.proofs.Common.{refl, sym, ap, subst}
use Rattle.std.proofs.lemmas.List.Elements.{All-map, recursion_from_All}
use Rattle.geo_base.proofs.Options.{there_with_fact}
use Rattle.geo_model.specs.declared.step.Entry.{Entry}
use Rattle.geo_model.specs.declared.step.Phase.{Phase}
use Rattle.geo_model.specs.declared.step.Phase.TheVariants as phases
use Rattle.geo_model.specs.World.{World, Bio, is_busy}
use Rattle.geo_model.specs.Opening.{opening}
use Rattle.geo_model.specs.Log.{Moment, moments, replay}
use Rattle.geo_model.specs.Results.{device_answer_in, device_answer_of, entries_of, is_deliver_of, request_of}
use Rattle.geo_laws_graph.proofs.Living.{all_members}
use Rattle.geo_laws_steps.proofs.Logs.{opened_firm}
use Rattle.geo_laws_requests.specs.DeliveredLaws.{AllDeliveredNoneBusy}
use Rattle.geo_laws_requests.specs.Ledger.{IsLogged, Ledger, NotDelivered, SoFar, WasAsked}
use Rattle.geo_laws_requests.proofs.Along.{ledger_along}
use Rattle.geo_laws_requests.proofs.Complete.{entries_back}
use Rattle.geo_laws_requests.proofs.Opened.{opened_ledger}

-- what is found has passed a test that none passes
none_passes : (b : ℕ) (es : List Entry) → AllByRecursion (λ (e : Entry). is_deliver_of b e.step ≡ false) es
    → find (λ (e : Entry). is_deliver_of b e.step) es ≡ None
none_passes b [] none = refl
none_passes b (e ∷ es) none = rw none.0 (none_passes b es none.1)

-- a bio without a Deliver has no answer
unanswered : (b : ℕ) (h : List Moment) → NotDelivered h b → device_answer_of (entries_of h) b ≡ None
unanswered b h never =
    ap (λ o. option_and_then (λ (e : Entry). device_answer_in e.step) o)
    (none_passes b (entries_of h)
    (recursion_from_All (λ (e : Entry). is_deliver_of b e.step ≡ false) (entries_of h)
    (All-map (λ (e : Entry). is_deliver_of b e.step ≡ false) (λ (m : Moment). m.entry) h never)))

-- so a logged bio isn't Busy
quiet : (h : List Moment) (w : World) (x : Bio) → IsLogged h w x
    → ((b : ℕ) → IsSome (request_of (entries_of h) b) → IsSome (device_answer_of (entries_of h) b))
    → is_busy x.phase ≡ false
quiet h w x logged answers = by x.phase refl
  where
    at : WasAsked h w x → is_busy x.phase ≡ false
    at asked =
        let some : IsSome (device_answer_of (entries_of h) x.number) =
        answers x.number (there_with_fact _ (request_of (entries_of h) x.number) asked.asked) in
        absurd (let none = unanswered x.number h asked.undelivered in (let bad : ⊥ = cc in bad))

    by : (p : Phase) → x.phase ≡ p → is_busy x.phase ≡ false
    by (phases.Busy seat) is = at (subst (SoFar h w x) is logged.so_far)
    by phases.Down is = ap is_busy is
    by phases.Sent is = ap is_busy is
    by phases.Waiting is = ap is_busy is
    by phases.Up is = ap is_busy is
    by phases.Done is = ap is_busy is

-- where all that was taken was delivered none is Busy
pub all_delivered_none_busy : AllDeliveredNoneBusy
all_delivered_none_busy plan facts is fit log legal delivered =
    all_members (IsLogged h v) (λ x. is_busy x.phase ≡ false) v.bios
    (λ x here logged. quiet h v x logged (subst (λ es. (b : ℕ) → IsSome (request_of es b) → IsSome
    (device_answer_of es b)) (sym (entries_back w log)) delivered)) ledger.live
  where
    w : World
    w = opening plan facts

    h : List Moment
    h = moments w log

    v : World
    v = replay w log

    ledger : Ledger h v
    ledger = ledger_along [] w log (opened_ledger plan facts) (opened_firm plan facts is fit) legal
