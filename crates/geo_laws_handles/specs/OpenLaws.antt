-- An open keeps a mesh sound, steady and fitting (g_access(9), g_attach(9)).
use Rattle.std.specs.Prelude.{◌≡◌, ℕ, List, Some, None}
use Rattle.geo_base.specs.declared.request.Counts.{Counts}
use Rattle.geo_model.specs.Topology.{find_provider}
use Rattle.geo_model.specs.Opens.{open_refusal}
use Rattle.geo_model.specs.World.{World, granted_in}
use Rattle.geo_model.specs.HandleCommands.{with_handle, without_number, do_open}
use Rattle.geo_model.specs.Fitting.{Firm}

-- an open that is refused after its provider was found uses up one consumer number; one that isn't refused has a
-- new handle; and so an open by its names and its counts leaves a firm mesh firm, whatever it answers
pub record OpensStayFirm : Type 0 where
  pub number : (w : World) → Firm w → Firm (without_number w)
  pub opened : (w : World) (actor : ℕ) (name prov : List ℕ) (p : ℕ) (grant : Counts)
      → find_provider w.topology prov ≡ Some p → open_refusal (granted_in w) w.topology prov grant ≡ None → Firm w
      → Firm (with_handle w actor name p grant)
  pub answered : (w : World) (line actor : ℕ) (name prov : List ℕ) (grant : Counts) → Firm w
      → Firm (do_open w line actor name prov grant).0
