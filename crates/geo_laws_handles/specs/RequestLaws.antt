-- A request keeps a mesh sound, steady and fitting (g_bio(9)).
use Rattle.std.specs.Prelude.{◌≡◌, ℕ, List, length, Some, Contains}
use Rattle.geo_base.specs.Sectors.{IsSectorSize}
use Rattle.geo_model.specs.declared.class.ConcatRecord.{ConcatRecord}
use Rattle.geo_model.specs.declared.class.LabelRecord.{LabelRecord}
use Rattle.geo_model.specs.declared.class.StripeRecord.{StripeRecord}
use Rattle.geo_model.specs.Topology.{Provider}
use Rattle.geo_model.specs.World.{World, Handle}
use Rattle.geo_model.specs.Requests.{Asking}
use Rattle.geo_model.specs.Records.{label_sector, concat_sector, stripe_sector}
use Rattle.geo_model.specs.HandleCommands.{do_request}
use Rattle.geo_model.specs.Commands.{request, write_record}
use Rattle.geo_model.specs.CommandEffects.{HasItsBytes, FillsSectors}
use Rattle.geo_model.specs.Plans.{IsShortName}
use Rattle.geo_model.specs.Fitting.{Firm}

-- a request through a handle leaves a firm mesh firm, and so does one through the handle which an actor has under a
-- name, if any, and the write of a record: whether it is refused or not
pub record RequestsStayFirm : Type 0 where
  pub handle : (w : World) (line : ℕ) (h : Handle) (a : Asking) → Contains w.handles h → HasItsBytes a → Firm w
      → Firm (do_request w line (Some h) a).0
  pub named : (w : World) (line actor : ℕ) (name : List ℕ) (a : Asking) → HasItsBytes a → Firm w
      → Firm (request w line actor name a).0
  pub recorded : (w : World) (line actor : ℕ) (name : List ℕ) (sector_of : Provider → List ℕ)
      → FillsSectors sector_of → Firm w → Firm (write_record w line actor name sector_of).0

-- records with short names fill a sector
pub record RecordsFillSectors : Type 0 where
  pub label : (size : ℕ) (x : LabelRecord) → IsSectorSize size → IsShortName x.name
      → length (label_sector size x) ≡ size
  pub concat : (size : ℕ) (x : ConcatRecord) → IsSectorSize size → IsShortName x.name
      → length (concat_sector size x) ≡ size
  pub stripe : (size : ℕ) (x : StripeRecord) → IsSectorSize size → IsShortName x.name
      → length (stripe_sector size x) ≡ size
