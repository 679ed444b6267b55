-- What labels of both versions come to.
use Rattle.std.specs.Prelude.{◌≡◌, ◌≢◌, ℕ, ◌*◌, ◌^◌, ◌<◌, List, Some, None, IsTrue}
use Rattle.geo_base.specs.Name.{is_short_name}
use Rattle.geo_base.specs.declared.decline.DeclineCause.TheVariants as causes
use Rattle.geo_base.specs.declared.kind.Kind.TheVariants as kinds
use Rattle.geo_model.specs.declared.class.Facts.{Facts}
use Rattle.geo_model.specs.declared.class.LabelRecord.{LabelRecord}
use Rattle.geo_model.specs.declared.class.Shape.TheVariants.{Named}
use Rattle.geo_model.specs.declared.class.Verdict.TheVariants.{Accept, Decline}
use Rattle.geo_model.specs.Acceptance.{accept, judge}
use Rattle.geo_model.specs.Events.{QueuedTopology}
use Rattle.geo_model.specs.Records.{label_sector}
use Rattle.geo_model.specs.Topology.{Provider}
use Rattle.geo_model.specs.World.{Config}

-- the labels of a name: of version 1, and of version 2 with a media size
abbrev pub old_label : List ℕ → LabelRecord
old_label name = record { name = name; size = None }

abbrev pub new_label : List ℕ → ℕ → LabelRecord
new_label name media = record { name = name; size = Some media }

-- a label of version 1 is accepted, one of version 2 exactly where its media size is the provider's
pub record AreJudged (sector : ℕ) (name : List ℕ) (media : ℕ) (f : Facts) : Type 0 where
  pub old : judge kinds.Label (label_sector sector (old_label name)) f ≡ Accept (Named (old_label name))
  pub same : media ≡ f.sectors * f.sector
      → judge kinds.Label (label_sector sector (new_label name media)) f ≡ Accept (Named (new_label name media))
  pub other : media ≢ f.sectors * f.sector
      → judge kinds.Label (label_sector sector (new_label name media)) f ≡ Decline causes.Media

abbrev pub LabelsAreJudged : Type 0
LabelsAreJudged =
    (sector : ℕ) (name : List ℕ) (media : ℕ) (f : Facts) → IsTrue (is_short_name name) → media < 2 ^ 64
    → AreJudged sector name media f

-- accepted labels of one name make the same, of whichever version
abbrev pub VersionsMakeTheSame : Type 0
VersionsMakeTheSame =
    (q : QueuedTopology Config) (p : Provider) (name : List ℕ) (media : ℕ)
    → accept q p (Named (new_label name media)) ≡ accept q p (Named (old_label name))
