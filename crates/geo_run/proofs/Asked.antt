-- What a run to rest did with all drives.
use Rattle.std.proofs.Common.{◌≡◌, ℕ, ◌+◌, List, [], ◌∷◌, suc, Result, Ok, Err, OnOk, slice_get, subst, arith, rules}
use Rattle.geo_model.specs.declared.step.Entry.{Entry}
use Rattle.geo_model.specs.FixedOrder.{StepOrder}
use Rattle.geo_model.specs.History.{RanToItsEnd}
use Rattle.geo_model.specs.Order.{Rest}
use Rattle.geo_serve.specs.Served.{AreServed, IsServedAt}
use Rattle.geo_elev.specs.Meshes.{IsHistory, MeshView, opened, world_of}
use Rattle.geo_elev.specs.Drain as drain
use Rattle.geo_laws_disks.proofs.Legal.{legal_logs_complete_requests}
use Rattle.geo_laws_disks.proofs.Drives.{all_served_none}
use Rattle.geo_laws_disks.proofs.Requests.{none_in}
use Rattle.geo_run.specs.Drives.{DriveView, ServeAll}
use Rattle.geo_run.specs.Rest.{Adds, RanFull}

serve_all : (log : List Entry) (n : ℕ) (xs ys : List DriveView)
    → ((i k : ℕ) → k ≡ n + i → IsServedAt log k (slice_get xs i) (slice_get ys i)) → ServeAll log n xs ys
serve_all log n [] [] h = tt
serve_all log n [] (y ∷ ys) h = absurd (h 0 n (omega arith))
serve_all log n (x ∷ xs) [] h = absurd (h 0 n (omega arith))
serve_all log n (x ∷ xs) (y ∷ ys) h =
    (h 0 n (omega arith), serve_all log (n + 1) xs ys (λ i k e. h (suc i) k (omega (arith, e))))

pub served_all : (log : List Entry) (xs ys : List DriveView) → AreServed log xs ys → ServeAll log 0 xs ys
served_all log xs ys h = serve_all log 0 xs ys (λ i k e.
    let same : i ≡ k = omega (arith, e) in
    subst (λ (j : ℕ). IsServedAt log j (slice_get xs i) (slice_get ys i)) same (h i))

-- A run to rest

pub adds_by : (order : StepOrder) (xs ys : List DriveView) (old new : MeshView) → drain.Runs order old new xs ys
    → Adds order old new xs ys
adds_by order xs ys old new runs = search (rules, served_all runs.added xs ys runs.served)

-- nothing was done
pub adds_nothing : (order : StepOrder) (m : MeshView) (xs : List DriveView) → Adds order m m xs xs
adds_nothing order m xs = search (rules, none_in, served_all, all_served_none xs)

-- at rest a mesh ran to its end
pub ran_to_rest : {E : Type 0} (r : Result (Unit {0}) E) (m : MeshView) → IsHistory m → OnOk r (Rest (world_of m))
    → OnOk r (RanToItsEnd (opened m) m.log)
ran_to_rest (Ok u) m history rest = record {
  rest = rest;
  complete =
      legal_logs_complete_requests.rest m.plan m.facts history.plan.begins history.facts m.log history.lawful.0 rest;
}
ran_to_rest (Err e) m history rest = tt

pub ran_full : (order : StepOrder) (m : MeshView) → drain.RanFull order m → RanFull order (opened m) m.log
ran_full order m full = record { due = full.due; nearly = full.nearly }
