-- A close and a reap keep a mesh sound, steady and fitting (g_access(9), g_detach(9)).
use Rattle.std.specs.Prelude.{◌≡◌, ℕ, List, Some, Contains}
use Rattle.geo_model.specs.declared.step.Step.TheVariants as steps
use Rattle.geo_model.specs.World.{World, Handle, handle_of}
use Rattle.geo_model.specs.HandleCommands.{close_handle}
use Rattle.geo_model.specs.Freeing.{reap_work, reap}
use Rattle.geo_model.specs.Laws.{world_by}
use Rattle.geo_model.specs.Fitting.{Firm}

-- a close of a handle leaves a firm mesh firm, and so does that of the handle which an actor has under a name, if
-- any, whether it is refused or not
pub record ClosesStayFirm : Type 0 where
  pub handle : (w : World) (line : ℕ) (h : Handle) → Contains w.handles h → Firm w
      → Firm (close_handle w line (Some h)).0
  pub named : (w : World) (line actor : ℕ) (name : List ℕ) → Firm w
      → Firm (close_handle w line (handle_of w actor name)).0

-- so does a reap of what can be reaped, and the step of a reap, whether it is enabled or not
pub record ReapsStayFirm : Type 0 where
  pub reaped : (w : World) (h : Handle) → reap_work w ≡ Some h → Firm w → Firm (reap w h)
  pub step : (w : World) (seat : ℕ) → Firm w → Firm (world_by w seat steps.Reap)
