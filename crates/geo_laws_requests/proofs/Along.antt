-- A legal log keeps the ledger all along.
use Rattle.std.specs.Prelude.{◌≡◌, List, [], ◌∷◌, ◌++◌, Ok, Err, IsOkAnd}
use Rattle.std.proofs.Common.{refl, sym, ap, subst, append-nil}
use Rattle.std.proofs.lemmas.List.{append_assoc}
use Rattle.std.proofs.lemmas.List.Elements.{All-from_recursion}
use Rattle.geo_laws_graph.proofs.Members.{All-from_contained}
use Rattle.geo_model.specs.declared.step.Entry.{Entry}
use Rattle.geo_model.specs.World.{World, Bio}
use Rattle.geo_model.specs.Step.{Answer, step}
use Rattle.geo_model.specs.Log.{IsMade, Legal, Moment, after_entry, moments, replay}
use Rattle.geo_model.specs.Fitting.{Firm}
use Rattle.geo_laws_steps.proofs.Steps.{steps_keep_used}
use Rattle.geo_laws_steps.proofs.Stepped.{steps_stay_firm}
use Rattle.geo_laws_steps.specs.WayLaws.{SameMap}
use Rattle.geo_laws_requests.specs.Covering.{SameMaps}
use Rattle.geo_laws_requests.specs.Ledger.{Ledger}
use Rattle.geo_laws_requests.proofs.Stepped.{steps_keep_ledger}

-- an entry that is made leads to the world after it
pub entry_made : (w : World) (e : Entry) → IsMade w e → step w e.seat e.step ≡ Ok (after_entry w e, e.outcome)
entry_made w e made = by (step w e.seat e.step) refl made
  where
    by : (r : Answer) → step w e.seat e.step ≡ r → IsOkAnd r (λ m. m.1 ≡ e.outcome)
        → step w e.seat e.step ≡ Ok (after_entry w e, e.outcome)
    by (Ok m) is same = rw is (ap (λ o. Ok (m.0, o)) same)
    by (Err f) is same = absurd same

-- the map of each bio's provider stays
maps_stay : (w : World) (e : Entry) → Firm w → SameMaps w (after_entry w e)
maps_stay w e firm =
    All-from_recursion (λ (x : Bio). SameMap w.topology (after_entry w e).topology x.target) w.bios
    (All-from_contained (λ (x : Bio). SameMap w.topology (after_entry w e).topology x.target) w.bios
    (λ x here. steps_keep_used.maps w e.seat e.step x firm here))

-- one entry more
pub ledger_after : (h : List Moment) (w : World) (e : Entry) → Ledger h w → Firm w → IsMade w e
    → Ledger (h ++ record { before = w; entry = e } ∷ []) (after_entry w e)
ledger_after h w e ledger firm made =
    steps_keep_ledger h w (after_entry w e) e.seat e.step e.outcome ledger firm (maps_stay w e firm)
    (entry_made w e made)

-- along a legal log
pub ledger_along : (h : List Moment) (w : World) (log : List Entry) → Ledger h w → Firm w → Legal w log
    → Ledger (h ++ moments w log) (replay w log)
ledger_along h w [] ledger firm legal = subst (λ k. Ledger k w) (sym (append-nil h)) ledger
ledger_along h w (e ∷ log) ledger firm legal =
    subst (λ k. Ledger k (replay w (e ∷ log)))
    (append_assoc h (record { before = w; entry = e } ∷ []) (moments (after_entry w e) log))
    (ledger_along (h ++ record { before = w; entry = e } ∷ []) (after_entry w e) log
    (ledger_after h w e ledger firm legal.0) (steps_stay_firm w e.seat e.step firm) legal.1)
