-- What an accepted verdict makes of a tasted provider keeps a mesh sound, steady and fitting: a label, slices,
-- logical partitions, a place of an assembly (geom(4)).
use Rattle.std.specs.Prelude.{◌≡◌, ℕ, false, List, Some}
use Rattle.geo_base.specs.declared.kind.Kind.{Kind}
use Rattle.geo_base.specs.declared.kind.Kind.TheVariants as kinds
use Rattle.geo_model.specs.declared.class.ConcatRecord.{ConcatRecord}
use Rattle.geo_model.specs.declared.class.EbrTable.{EbrTable}
use Rattle.geo_model.specs.declared.class.LabelRecord.{LabelRecord}
use Rattle.geo_model.specs.declared.class.MbrTable.{MbrTable}
use Rattle.geo_model.specs.declared.class.Shape.{Shape}
use Rattle.geo_model.specs.declared.class.StripeRecord.{StripeRecord}
use Rattle.geo_model.specs.declared.class.Shape.TheVariants.{Slices, Logical, Named, Joined, Striped}
use Rattle.geo_model.specs.declared.class.Verdict.TheVariants.{Accept}
use Rattle.geo_model.specs.declared.step.BioResult.TheVariants as results
use Rattle.geo_model.specs.Topology.{Provider, provider_at}
use Rattle.geo_model.specs.World.{World, Config, Taste, ReadBack, granted_in}
use Rattle.geo_model.specs.Events.{QueuedTopology}
use Rattle.geo_model.specs.WorldEvents.{queued_of, with_queued}
use Rattle.geo_model.specs.Acceptance.{accept}
use Rattle.geo_model.specs.Tasting.{facts_of, is_ended, verdict_on}
use Rattle.geo_model.specs.Fitting.{Firm}

-- the read of a taste that goes on is back, the class accepts its bytes as a shape, and something is made of it
pub record IsAccepted (w : World) (s : Taste) (p : Provider) (kind : Kind) (bytes : List ℕ) (shape : Shape)
    (made : QueuedTopology Config) : Type 0 where
  pub taste : w.taste ≡ Some s
  pub asked : s.asked ≡ ReadBack kind (results.Bytes bytes)
  pub going : is_ended w.topology s ≡ false
  pub found : provider_at w.topology s.provider ≡ Some p
  pub verdict : verdict_on (granted_in w) s kind bytes (facts_of w.topology p) ≡ Accept shape
  pub makes : accept (queued_of w) p shape ≡ Some made

-- with what is made a firm mesh is firm
pub record AcceptsStayFirm : Type 0 where
  pub accept : (w : World) (s : Taste) (p : Provider) (kind : Kind) (bytes : List ℕ) (shape : Shape)
      (made : QueuedTopology Config) → Firm w → IsAccepted w s p kind bytes shape made → Firm (with_queued w made)

-- with a label
pub record LabelsStayFirm : Type 0 where
  pub label : (w : World) (s : Taste) (p : Provider) (bytes : List ℕ) (found : LabelRecord)
      (made : QueuedTopology Config) → Firm w → IsAccepted w s p kinds.Label bytes (Named found) made
      → Firm (with_queued w made)

-- with the slices of a table
pub record SlicesStayFirm : Type 0 where
  pub slices : (w : World) (s : Taste) (p : Provider) (bytes : List ℕ) (table : MbrTable)
      (made : QueuedTopology Config) → Firm w → IsAccepted w s p kinds.Mbr bytes (Slices table) made
      → Firm (with_queued w made)

-- with the logical partitions of a chain
pub record PartitionsStayFirm : Type 0 where
  pub partitions : (w : World) (s : Taste) (p : Provider) (bytes : List ℕ) (table : EbrTable)
      (made : QueuedTopology Config) → Firm w → IsAccepted w s p kinds.Ebr bytes (Logical table) made
      → Firm (with_queued w made)

-- with a place of a concat or of a stripe, and with the provider that comes with the last one
pub record PlacesStayFirm : Type 0 where
  pub concat : (w : World) (s : Taste) (p : Provider) (bytes : List ℕ) (found : ConcatRecord)
      (made : QueuedTopology Config) → Firm w → IsAccepted w s p kinds.Concat bytes (Joined found) made
      → Firm (with_queued w made)
  pub stripe : (w : World) (s : Taste) (p : Provider) (bytes : List ℕ) (found : StripeRecord)
      (made : QueuedTopology Config) → Firm w → IsAccepted w s p kinds.Stripe bytes (Striped found) made
      → Firm (with_queued w made)
