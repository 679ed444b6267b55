-- A Start keeps a mesh sound, steady and fitting (g_bio(9)).
use Rattle.std.specs.Prelude.{ℕ}
use Rattle.geo_model.specs.World.{World, bio_at}
use Rattle.geo_model.specs.Step.{start_of}
use Rattle.geo_model.specs.Log.{world_after}
use Rattle.geo_model.specs.Fitting.{Firm}

-- a Start leaves a firm mesh firm, whichever way the bio goes, and whether it is enabled or not
abbrev pub StartsStayFirm : Type 0
StartsStayFirm = (w : World) (b : ℕ) → Firm w → Firm (world_after w (start_of w (bio_at w b)))
