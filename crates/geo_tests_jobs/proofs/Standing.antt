-- Workers that stand by their numbers.
use Rattle.std.specs.Prelude.{◌≡◌, ℕ, zero, suc, ◌+◌, ◌<◌, List, [], ◌∷◌, ◌++◌, drop, false, length, Some, slice_get, slice_index_or, slice_set, take}
use Rattle.std.specs.List.{AllZip}
use Rattle.std.proofs.Common.{ap, arith, refl, subst, sym, ◌∙◌}
use Rattle.std.proofs.lemmas.List.{append-nil, length-map, take_all}
use Rattle.std.proofs.Math.ListN.{drop_of_length-le}
use Rattle.geo_disk.specs.Memory.{Memory}
use Rattle.geo_lock.specs.Yard.{IsPassOf, IsWhole, YardView, first_pass}
use Rattle.geo_jobs.specs.MeshStart.{MeshStart}
use Rattle.geo_jobs.specs.declared.lanes.Lanes.{Lanes}
use Rattle.geo_jobs.specs.Passes.{IsGoodPass, MeshPass, opened_by}
use Rattle.geo_jobs.specs.declared.turn.Turn.{Turn}
use Rattle.geo_jobs.specs.declared.job.Job.{Job}
use Rattle.geo_jobs.specs.declared.job.Role.{Role}
use Rattle.geo_jobs.specs.declared.run.Worker.{Worker}
use Rattle.geo_jobs.specs.Jobs.{DidTurn, HasItsDrives}
use Rattle.geo_jobs.specs.Workers.{IsReady, WorkerRan}
use Rattle.geo_jobs.proofs.Running.{job_more, job_none}
use Rattle.geo_tests_jobs.specs.Benches.{seen_drive}
use Rattle.geo_tests_jobs.specs.Standing.{AreStanding, IsFirst, IsNewRole, IsStanding, passes_of}

-- a slice that was written back whole
pub written : {A : Type 0} (xs ys : List A) (n : ℕ) → length xs ≡ length ys → n ≡ length ys
    → take n (xs ++ drop (length xs) ys) ≡ xs
written xs ys n same all =
    ap (λ l. take n (xs ++ l)) (drop_of_length-le ys (omega (arith, same)))
    ∙ ap (λ l. take n l) (append-nil xs) ∙ take_all n xs (omega (arith, same, all))

-- the pass 0 of a new yard
pub is_first : (y : YardView MeshStart) (p : MeshPass) → p ≡ first_pass y → IsFirst y 1 p
is_first y p is =
    subst (λ (q : MeshPass). IsFirst y 1 q) (sym is)
    (record { of_yard = record { yard = refl; start = refl }; number = refl; own = refl; made = refl })

-- a turn leaves the number of the pass
pub turn_leaves_number : (y : YardView MeshStart) (a b : Job Memory) (r : Turn) → IsPassOf y a.pass → IsGoodPass b.pass
    → HasItsDrives y.start.facts seen_drive a.role → DidTurn (opened_by y.start) seen_drive a b r
    → b.pass.number ≡ a.pass.number
turn_leaves_number y a b r of good has did =
    let ran = job_more y (opened_by y.start) y.start.facts seen_drive a a b r of good has (job_none seen_drive a) did in
    ran.goes.same.number

module _ (y : YardView MeshStart) (lanes : Lanes) where
  -- one more worker behind the others
  pub standing_push : (n : ℕ) (ws : List (Worker Memory)) (w : Worker Memory) → AreStanding y lanes n ws
      → IsStanding y lanes (n + length ws) w → AreStanding y lanes n (ws ++ w ∷ [])
  standing_push n [] w all one = (subst (λ k. IsStanding y lanes k w) (omega arith) one, tt)
  standing_push n (x ∷ xs) w all one =
      (all.0, standing_push (n + 1) xs w all.1 (subst (λ k. IsStanding y lanes k w) (omega arith) one))

  -- a worker that has the next pass
  pub new_worker : (opener pass : MeshPass) (ws : List (Worker Memory)) (role : Role Memory) (a : Turn)
      → IsFirst y (length ws + 1) opener → pass ≡ record opener { number = opener.made; own = []; made = 0 }
      → IsNewRole lanes role → HasItsDrives y.start.facts seen_drive role
      → IsStanding y lanes (1 + length ws) (record { job = record { pass = pass; role = role; quiet = false }; answer = a })
  new_worker opener pass ws role a is next new drives =
      let made = is.made in
      let number = ap (λ (p : MeshPass). p.number) next in
      record {
        ready = record {
          job = record {
            pass = subst (λ (p : MeshPass). IsPassOf y p) (sym next)
                (record { yard = is.of_yard.yard; start = is.of_yard.start });
            role = new pass (ap (λ (p : MeshPass). p.own) next);
            quiet = λ is. absurd (let bad : ⊥ = cc in bad);
          };
          drives = drives;
        };
        number = omega (arith, number, made);
      }

  -- the worker at a place
  pub standing_at : (n : ℕ) (ws : List (Worker Memory)) (k : ℕ) (d : Worker Memory) → AreStanding y lanes n ws
      → k < length ws → IsStanding y lanes (n + k) (slice_index_or ws k d)
  standing_at n [] k d all lt = absurd (omega (arith, lt))
  standing_at n (x ∷ xs) zero d all lt = subst (λ k. IsStanding y lanes k x) (omega arith) all.0
  standing_at n (x ∷ xs) (suc k) d all lt =
      subst (λ m. IsStanding y lanes m (slice_index_or xs k d)) (omega arith)
      (standing_at (n + 1) xs k d all.1 (omega (arith, lt)))

  -- another worker at a place
  pub standing_set : (n : ℕ) (ws : List (Worker Memory)) (k : ℕ) (w : Worker Memory) → AreStanding y lanes n ws
      → IsStanding y lanes (n + k) w → AreStanding y lanes n (slice_set ws k w)
  standing_set n [] k w all one = tt
  standing_set n (x ∷ xs) zero w all one = (subst (λ m. IsStanding y lanes m w) (omega arith) one, all.1)
  standing_set n (x ∷ xs) (suc k) w all one =
      (all.0, standing_set (n + 1) xs k w all.1 (subst (λ m. IsStanding y lanes m w) (omega arith) one))

  -- a worker that went on
  pub went_on : (n : ℕ) (a b : Worker Memory) → IsStanding y lanes n a → IsReady y lanes seen_drive b
      → b.job.pass.number ≡ a.job.pass.number → IsStanding y lanes n b
  went_on n a b standing ready same = record { ready = ready; number = same ∙ standing.number }

  -- each is ready
  pub ready_each : (n : ℕ) (ws : List (Worker Memory)) (i : ℕ) (d : Worker Memory) → AreStanding y lanes n ws
      → i < length ws → IsReady y lanes seen_drive (slice_index_or ws i d)
  ready_each n ws i d all lt = (standing_at n ws i d all lt).ready

  -- workers that ran
  pub standing_ran : (n : ℕ) (old new : List (Worker Memory)) → AreStanding y lanes n old
      → AllZip (WorkerRan y lanes seen_drive) old new → AreStanding y lanes n new
  standing_ran n [] [] all ran = tt
  standing_ran n (x ∷ xs) (z ∷ zs) all ran =
      (went_on n x z all.0 ran.0.ready ran.0.ran.goes.same.number, standing_ran (n + 1) xs zs all.1 ran.1)
  standing_ran n [] (z ∷ zs) all ran = absurd ran
  standing_ran n (x ∷ xs) [] all ran = absurd ran

  -- a pass at a place
  pass_at : (n : ℕ) (ws : List (Worker Memory)) (k : ℕ) (p : MeshPass) → AreStanding y lanes n ws
      → slice_get (passes_of ws) k ≡ Some p → IsPassOf y p × (p.number ≡ n + k)
  pass_at n [] k p all at = absurd (let no : ⊥ = cc in no)
  pass_at n (x ∷ xs) zero p all at =
      let same : x.job.pass ≡ p = cc in
      let number = all.0.number in
      subst (λ (q : MeshPass). IsPassOf y q × (q.number ≡ n + 0)) same (all.0.ready.job.pass, omega (arith, number))
  pass_at n (x ∷ xs) (suc k) p all at =
      let rest = pass_at (n + 1) xs k p all.1 at in
      let number = rest.1 in
      (rest.0, omega (arith, number))

  -- the passes are all that were made
  pub are_whole : (opener : MeshPass) (ws : List (Worker Memory)) → IsFirst y 8 opener → length ws ≡ 7
      → AreStanding y lanes 1 ws → IsWhole y (opener ∷ passes_of ws)
  are_whole opener ws is many all = record {
    some_pass = omega arith;
    of_yard = of_yard;
    count = λ p at.
        let same : opener ≡ p = cc in
        let long = length-map ws (λ (w : Worker Memory). w.job.pass) in
        ap (λ (q : MeshPass). q.made) (sym same) ∙ is.made ∙ omega (arith, long, many);
  }
    where
      of_yard : (k : ℕ) (p : MeshPass) → slice_get (opener ∷ passes_of ws) k ≡ Some p → IsPassOf y p × (p.number ≡ k)
      of_yard zero p at =
          let same : opener ≡ p = cc in
          subst (λ (q : MeshPass). IsPassOf y q × (q.number ≡ 0)) same (is.of_yard, is.number)
      of_yard (suc k) p at =
          let rest = pass_at 1 ws k p all at in
          let number = rest.1 in
          (rest.0, omega (arith, number))
