-- A whole step of a taste: what is made of the tasted provider, and the mesh and its events after it (geom(4)).
use Rattle.std.specs.Prelude.{◌≡◌, Option, Some, None, Result, Ok, Err, IsSomeAnd, option_and_then}
use Rattle.geo_model.specs.declared.class.Judged.{Judged}
use Rattle.geo_model.specs.declared.class.Judged.TheVariants.{Next, Made}
use Rattle.geo_model.specs.declared.class.Shape.{Shape}
use Rattle.geo_model.specs.declared.class.Verdict.{Verdict}
use Rattle.geo_model.specs.declared.class.Verdict.TheVariants.{Accept}
use Rattle.geo_model.specs.Fitting.{Firm}
use Rattle.geo_model.specs.Tasting.{facts_of, taste_step}
use Rattle.geo_model.specs.Topology.{Provider}
use Rattle.geo_model.specs.World.{Config, Taste, World}
use Rattle.geo_model.specs.WorldEvents.{queued_of}
use Rattle.geo_event.specs.EventQueue.{Queued}
use Rattle.geo_mesh.specs.Topo.{TopoView}
use Rattle.geo_access.specs.Access.{granted_by}
use Rattle.geo_class.specs.Taste.{verdict_back}
use Rattle.geo_taste.specs.declared.shapes.Accepted.{Accepted}
use Rattle.geo_taste.specs.declared.shapes.Accepted.TheVariants as answers
use Rattle.geo_taste.specs.Accepting.{accepted}
use Rattle.geo_taste.specs.Accepts.{MayAccept}
use Rattle.geo_taste.specs.Making.{AreBoth, QueuedMesh, queued}
use Rattle.geo_taste.specs.Going.{going}
use Rattle.geo_taste.specs.Saying.{accepting}
use Rattle.geo_taste.specs.Taster.{IsSettled, IsTasteOf, judging, with_judged}

-- what the class that is asked says to what it read, while the taste goes on
abbrev pub verdict_at : QueuedMesh → Taste → Provider → Option Verdict
verdict_at m s p = verdict_back (granted_by m.mesh) s (facts_of m.mesh.topology p)

-- what a verdict makes of the provider, if anything
abbrev pub made_by : Option Verdict → QueuedMesh → Provider → Option QueuedMesh
made_by (Some (Accept shape)) m p = accepted m p shape
made_by verdict m p = None

-- what a step makes of the tasted provider, if anything
abbrev pub making : QueuedMesh → Taste → Option QueuedMesh
making m s = option_and_then (λ p. made_by (verdict_at m s p) m p) (going m.mesh.topology s)

-- whatever the class accepts of the tasted provider may be made: so it is in a sound, steady and fitting mesh
abbrev pub MayJudge : QueuedMesh → Taste → Type 0
MayJudge m s =
    (p : Provider) (shape : Shape) → going m.mesh.topology s ≡ Some p → verdict_at m s p ≡ Some (Accept shape)
    → MayAccept (queued m) p shape

-- a fact that holds after a step that came to this; where something was made it is known if that might be
abbrev pub IsKnownWith : Judged → Type 0 → Type 0 → Type 0
IsKnownWith Made may fact = may → fact
IsKnownWith judged may fact = fact

-- so after a step that may have been refused
abbrev pub IsKnownAfter : {E : Type 0} → Result Judged E → Type 0 → Type 0 → Type 0
IsKnownAfter (Ok j) may fact = IsKnownWith j may fact
IsKnownAfter (Err e) may fact = fact

-- the mesh and its events after a step that came to this: what could be made is made of the provider, if it might be;
-- or nothing is, and a read may be granted
abbrev pub IsMadeOf : Option QueuedMesh → Type 0 → QueuedMesh → Taste → TopoView Config → Queued → Judged → Type 0
IsMadeOf made may m s t q Made = may → IsSomeAnd made (AreBoth t q)
IsMadeOf made may m s t q judged = AreBoth t q (record m { mesh = with_judged m.mesh s.consumer judged })

-- a step of the taste came to this: it is the model's, and so are the mesh, the events and the taste after it
pub record IsJudged (m : QueuedMesh) (s : Taste) (t : TopoView Config) (q : Queued) (z : Taste) (j : Judged)
    : Type 0 where
  pub step : MayJudge m s → taste_step (granted_by m.mesh) (queued m) s ≡ judging t q.events z j
  pub mesh : IsMadeOf (making m s) (MayJudge m s) m s t q j

-- In a step

-- what a step comes to where a class accepted
abbrev pub judged_of : Accepted → Judged
judged_of answers.Made = Made
judged_of answers.Declined = Next

-- a shape of the provider was accepted, and the step came to this
pub record IsTakenAs (m : QueuedMesh) (s : Taste) (p : Provider) (shape : Shape) (t : TopoView Config) (q : Queued)
    (z : Taste) (j : Judged) : Type 0 where
  pub step : MayAccept (queued m) p shape
      → accepting (granted_by m.mesh) (queued m) s p shape ≡ judging t q.events z j
  pub mesh : IsMadeOf (accepted m p shape) (MayAccept (queued m) p shape) m s t q j
  pub settled : IsKnownWith j (MayAccept (queued m) p shape) (IsSettled t)
  pub tasting : IsKnownWith j (MayAccept (queued m) p shape) (IsTasteOf t z)

-- Laws

-- in a sound, steady and fitting mesh with this taste whatever a class accepts may be made
abbrev pub FirmMeshesJudge : Type 0
FirmMeshesJudge =
    (w : World) (m : QueuedMesh) (s : Taste) → Firm w → w.taste ≡ Some s → queued m ≡ queued_of w → MayJudge m s
