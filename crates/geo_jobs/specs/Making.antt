-- A step that was tried under the lock.
use Rattle.std.specs.Prelude.{◌≡◌, false, List, [], ◌∷◌, ◌++◌, Ok, Err}
use mathlib.Core.List.{IsPrefix}
use Rattle.geo_model.specs.declared.step.Entry.{Entry}
use Rattle.geo_model.specs.declared.step.Outcome.{Outcome}
use Rattle.geo_model.specs.declared.step.Step.{Step}
use Rattle.geo_model.specs.World.{World}
use Rattle.geo_model.specs.Step.{step}
use Rattle.geo_model.specs.Log.{is_full, replay}
use Rattle.geo_model.specs.FixedOrder.{FoundFull}
use Rattle.geo_core.specs.declared.logged.MeshStart.{MeshStart}
use Rattle.geo_core.specs.Mesh.{entry_of}
use Rattle.geo_core.specs.Logged.{is_sure}
use Rattle.geo_jobs.specs.declared.tried.Tried.{Tried}
use Rattle.geo_jobs.specs.declared.tried.Tried.TheVariants as tries
use Rattle.geo_jobs.specs.Passes.{Goes, MeshPass, opened_by}

-- the pass made a step: the entry, which is one more of its own, ends what it has seen now, and what it had seen begins
-- the log before the entry, at which the step has its place and gives the outcome
pub record MakesStep (s : MeshStart) (p q : MeshPass) (st : Step) (o : Outcome) : Type 0 where
  pub before : List Entry
  pub longer : IsPrefix p.seen before
  pub ends : q.seen ≡ before ++ entry_of p.number st o ∷ []
  pub goes : Goes p q (entry_of p.number st o ∷ [])
  pub after : World
  pub does : step (replay (opened_by s) before) p.number st ≡ Ok (after, o)
  pub had_place : is_full before (replay (opened_by s) before) p.number st ≡ false

-- how a step went that a pass tried; one that wasn't made adds nothing, and what the pass has seen now tells why: it
-- isn't enabled, and this is found; it is enabled, and has no place; or it isn't one of those that take no memory
abbrev pub DidTry : MeshStart → MeshPass → MeshPass → Step → Tried → Type 0
DidTry s p q st (tries.Made o) = MakesStep s p q st o
DidTry s p q st (tries.NotEnabled found) = Goes p q [] × (step (replay (opened_by s) q.seen) p.number st ≡ Err found)
DidTry s p q st tries.LogFull = Goes p q [] × FoundFull (opened_by s) q.seen p.number st
DidTry s p q st tries.NoMemory = Goes p q [] × (is_sure (replay (opened_by s) q.seen) p.number st ≡ false)
