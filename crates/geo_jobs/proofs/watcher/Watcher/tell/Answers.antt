use Rattle.std.proofs.Common.{rules, subst, sym}
use Rattle.geo_jobs.specs.Passes.{MeshPass}
use Rattle.geo_jobs.specs.Ends.{IsLooking}
use Rattle.geo_jobs.proofs.Meeting.{notes}
use Rattle.geo_jobs.proofs.watcher.Watcher.tell.Goals as goal

pub split_seat-note-requires : goal.split_seat-note-requires
split_seat-note-requires c = (search rules, search rules, notes _ _ _)

-- a note takes nothing from who tells
pub invariant_of-self : goal.invariant_of-self
invariant_of-self c = (
  search rules,
  search rules,
  search rules,
  subst (λ m. (o : MeshPass) × IsLooking o c.self.inside.front m) (sym c.split_seat-note.ensures.2) c.self.invariant.3,
)
