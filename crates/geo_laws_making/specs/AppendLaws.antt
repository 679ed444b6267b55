-- An append keeps a mesh sound, steady and fitting: a standing concat gets one more component (g_attach(9),
-- g_resize_provider(9)).
use Rattle.std.specs.Prelude.{ℕ, List}
use Rattle.geo_model.specs.World.{World}
use Rattle.geo_model.specs.GeomCommands.{found_provider}
use Rattle.geo_model.specs.Append.{growing_concat, do_append}
use Rattle.geo_model.specs.Fitting.{Firm}

-- an append of what is found by names, whether it is refused or not
pub record AppendsStayFirm : Type 0 where
  pub append : (w : World) (line : ℕ) (name prov : List ℕ) → Firm w
      → Firm (do_append w line (growing_concat w.topology name) (found_provider w prov)).0
