-- What the lock's answer to a step tells.
use Rattle.std.specs.Prelude.{◌≡◌, Bool, true, false, Ok, Err}
use Rattle.std.proofs.Common.{refl}
use mathlib.Core.List.{IsPrefix}
use Rattle.geo_model.specs.declared.step.Found.{Found}
use Rattle.geo_model.specs.declared.step.Outcome.{Outcome}
use Rattle.geo_model.specs.declared.step.Step.{Step}
use Rattle.geo_model.specs.Log.{replay}
use Rattle.geo_lock.specs.Pass.{IsSamePass}
use Rattle.geo_lock.specs.Yard.{Makes}
use Rattle.geo_core.specs.declared.logged.MeshStart.{MeshStart}
use Rattle.geo_core.specs.declared.refusal.ApplyRefusal.TheVariants as refusals
use Rattle.geo_core.specs.Mesh.{entry_of}
use Rattle.geo_core.specs.Logged.{answer_of, is_sure, is_want, mesh_of}
use Rattle.geo_core.proofs.LoggedAnswers.{answers_tell}
use Rattle.geo_jobs.specs.declared.tried.Tried.TheVariants as tries
use Rattle.geo_jobs.specs.Passes.{MeshPass, opened_by}
use Rattle.geo_jobs.specs.Making.{DidTry}
use Rattle.geo_jobs.proofs.Joins.{goes_none}

-- it was made
pub made_tells : (s : MeshStart) (p q : MeshPass) (st : Step) (o : Outcome)
    → IsSamePass p q → IsPrefix p.seen q.seen
    → Makes p q (entry_of p.number st o) (λ before. Ok o ≡ answer_of (mesh_of s before) p.number st)
    → DidTry s p q st (tries.Made o)
made_tells s p q st o same longer made =
    let told = answers_tell.made (mesh_of s made.before) p.number st o made.answers in
    record {
      before = made.before;
      longer = made.longer;
      ends = made.ends;
      goes = record { same = same; longer = longer; own = made.one_more };
      after = told.0;
      does = told.1;
      had_place = told.2;
    }

-- it isn't enabled
pub found_tells : (s : MeshStart) (p q : MeshPass) (st : Step) (found : Found)
    → IsSamePass p q → IsPrefix p.seen q.seen → q.own ≡ p.own
    → (is_want (refusals.NotEnabled found) ≡ false
    → Err (refusals.NotEnabled found) ≡ answer_of (mesh_of s q.seen) p.number st)
    → DidTry s p q st (tries.NotEnabled found)
found_tells s p q st found same longer own refused = (
  goes_none p q same longer own,
  answers_tell.not_enabled (mesh_of s q.seen) p.number st found (refused refl),
)

-- it has no place
pub full_tells : (s : MeshStart) (p q : MeshPass) (st : Step)
    → IsSamePass p q → IsPrefix p.seen q.seen → q.own ≡ p.own
    → (is_want refusals.LogFull ≡ false → Err refusals.LogFull ≡ answer_of (mesh_of s q.seen) p.number st)
    → DidTry s p q st tries.LogFull
full_tells s p q st same longer own refused = (
  goes_none p q same longer own,
  answers_tell.full (mesh_of s q.seen) p.number st (refused refl),
)

-- a test that can't be passed
never_passed : (b : Bool) → (b ≡ true → true ≡ false) → b ≡ false
never_passed true never = never refl
never_passed false never = refl

-- memory was wanting
pub want_tells : (s : MeshStart) (p q : MeshPass) (st : Step)
    → IsSamePass p q → IsPrefix p.seen q.seen → q.own ≡ p.own
    → (is_sure (replay (opened_by s) q.seen) p.number st ≡ true → is_want refusals.NoMemory ≡ false)
    → DidTry s p q st tries.NoMemory
want_tells s p q st same longer own sure = (
  goes_none p q same longer own,
  never_passed (is_sure (replay (opened_by s) q.seen) p.number st) sure,
)
