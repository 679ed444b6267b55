-- What a step of a taste comes to before anything is made of the provider.
use Rattle.std.specs.Prelude.{◌≡◌, ℕ, Bool, true, not, List, Option, Some, None}
use Rattle.std.specs.Option.{option_map_or}
use Rattle.geo_base.specs.declared.kind.Kind.{Kind}
use Rattle.geo_base.specs.declared.request.Counts.{Counts}
use Rattle.geo_model.specs.declared.class.Judged.TheVariants.{Next, Made}
use Rattle.geo_model.specs.declared.class.Shape.{Shape}
use Rattle.geo_model.specs.declared.class.Verdict.TheVariants.{Accept}
use Rattle.geo_model.specs.declared.step.BioResult.{BioResult}
use Rattle.geo_model.specs.declared.step.Event.{Event}
use Rattle.geo_model.specs.Acceptance.{accept}
use Rattle.geo_model.specs.Events.{QueuedTopology}
use Rattle.geo_model.specs.Tasting.{Judging, end_class, facts_of, go_on, take_result, taste_step}
use Rattle.geo_model.specs.Topology.{Provider}
use Rattle.geo_model.specs.World.{Config, Taste}
use Rattle.geo_mesh.specs.Topo.{TopoView}
use Rattle.geo_access.specs.Access.{granted_by}
use Rattle.geo_class.specs.Taste.{verdict_back}
use Rattle.geo_taste.specs.declared.judge.Said.{Said}
use Rattle.geo_taste.specs.declared.judge.Said.TheVariants.{Came, Accepts}
use Rattle.geo_taste.specs.Going.{going}
use Rattle.geo_taste.specs.Taster.{judging, makes, queued, with_judged}

-- the step where the class that is asked accepts a shape: the class is done with, whether anything could be made or not
abbrev pub accepting : (ℕ → Counts) → QueuedTopology Config → Taste → Provider → Shape → Judging
accepting granted q s p shape =
    option_map_or (λ made. end_class granted made s Made) (accept q p shape) (end_class granted q s Next)

-- what is said where a shape was found or none
abbrev pub said_of : Option Shape → Said
said_of (Some shape) = Accepts shape
said_of None = Came Next

-- whether nothing was made yet
abbrev pub is_plain : Said → Bool
is_plain (Came j) = not (makes j)
is_plain (Accepts shape) = true

-- what becomes of a read that is back: the next step goes on, or the class accepts a shape, and the taste is as it was
abbrev pub IsReadTaken : (ℕ → Counts) → QueuedTopology Config → Taste → Provider → Kind → BioResult → Taste → Said
    → Type 0
IsReadTaken granted q s p kind got z (Came j) =
    take_result granted q s p kind got ≡ record { queued = q; taste = z; judged = j }
IsReadTaken granted q s p kind got z (Accepts shape) =
    (z ≡ s) × (verdict_back granted s (facts_of q.topology p) ≡ Some (Accept shape))
    × (take_result granted q s p kind got ≡ accepting granted q s p shape)

-- the mesh after what was said
abbrev pub with_said : TopoView Config → ℕ → Said → TopoView Config
with_said t c (Came j) = with_judged t c j
with_said t c (Accepts shape) = t

-- the class that is asked accepts this shape of the tasted provider, and so the step goes on
pub record IsAccepting (t : TopoView Config) (s : Taste) (shape : Shape) : Type 0 where
  pub provider : Provider
  pub goes : going t.topology s ≡ Some provider
  pub verdict : verdict_back (granted_by t) s (facts_of t.topology provider) ≡ Some (Accept shape)
  pub step : (events : List Event)
      → taste_step (granted_by t) (queued t events) s ≡ accepting (granted_by t) (queued t events) s provider shape

-- the step came to this, in this mesh and with this taste; or the class accepts a shape, and nothing changed yet
abbrev pub IsSaidOn : TopoView Config → Taste → Provider → TopoView Config → Taste → Said → Type 0
IsSaidOn t s p u z (Came j) =
    (events : List Event) → go_on (granted_by t) (queued t events) s p s.asked ≡ judging u events z j
IsSaidOn t s p u z (Accepts shape) = (u ≡ t) × (z ≡ s)
    × (verdict_back (granted_by t) s (facts_of t.topology p) ≡ Some (Accept shape)) × ((events : List Event)
    → go_on (granted_by t) (queued t events) s p s.asked ≡ accepting (granted_by t) (queued t events) s p shape)

-- so for the whole step
abbrev pub IsSaid : TopoView Config → Taste → TopoView Config → Taste → Said → Type 0
IsSaid t s u z (Came j) =
    (events : List Event) → taste_step (granted_by t) (queued t events) s ≡ judging u events z j
IsSaid t s u z (Accepts shape) = (u ≡ t) × (z ≡ s) × IsAccepting t s shape
