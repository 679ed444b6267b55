-- In a mesh that is sound, steady and fitting a class may accept what it read (geom(4)).
use Rattle.std.specs.Prelude.{◌≡◌, ℕ, false, List, Some}
use Rattle.geo_base.specs.declared.kind.Kind.{Kind}
use Rattle.geo_model.specs.declared.class.Shape.{Shape}
use Rattle.geo_model.specs.declared.class.Verdict.TheVariants.{Accept}
use Rattle.geo_model.specs.declared.step.BioResult.TheVariants as results
use Rattle.geo_model.specs.Topology.{Provider, provider_at}
use Rattle.geo_model.specs.World.{World, Taste, ReadBack, granted_in}
use Rattle.geo_model.specs.WorldEvents.{queued_of}
use Rattle.geo_model.specs.Tasting.{facts_of, is_ended, verdict_on}
use Rattle.geo_model.specs.Fitting.{Firm}
use Rattle.geo_taste.specs.Accepts.{MayAccept, NamesAPlace}
use Rattle.geo_taste.specs.Standing.{CanStandOn}

-- the read of a taste that goes on is back, and the class accepts its bytes as a shape
pub record HasAccepted (w : World) (s : Taste) (p : Provider) (kind : Kind) (bytes : List ℕ) (shape : Shape)
    : Type 0 where
  pub taste : w.taste ≡ Some s
  pub asked : s.asked ≡ ReadBack kind (results.Bytes bytes)
  pub going : is_ended w.topology s ≡ false
  pub found : provider_at w.topology s.provider ≡ Some p
  pub verdict : verdict_on (granted_in w) s kind bytes (facts_of w.topology p) ≡ Accept shape

-- what accepting asks holds then
pub record AcceptsAreFit (w : World) (s : Taste) (p : Provider) (shape : Shape) : Type 0 where
  pub stands : CanStandOn w.topology s.provider
  pub place : NamesAPlace shape
  pub may : MayAccept (queued_of w) p shape

abbrev pub FirmMeshesAccept : Type 0
FirmMeshesAccept =
    (w : World) (s : Taste) (p : Provider) (kind : Kind) (bytes : List ℕ) (shape : Shape) → Firm w
    → HasAccepted w s p kind bytes shape → AcceptsAreFit w s p shape
