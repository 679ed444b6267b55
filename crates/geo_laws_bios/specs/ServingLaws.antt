-- Counts under the bios of a mesh, by other grants (g_access(9)).
use Rattle.std.specs.Prelude.{◌≡◌, ℕ, Bool, true, Contains}
use Rattle.geo_model.specs.Counts.{Counts}
use Rattle.geo_model.specs.World.{World, Bio, is_root, is_waiting}
use Rattle.geo_model.specs.Fitting.{Firm}
use Rattle.geo_laws_bios.specs.PieceLaws.{SourceServes}

-- of some bios of a firm mesh, each Waiting one among them: where by other grants the sources of the roots have the
-- counts for them, so have the sources of all
abbrev pub SourcesServeAll : Type 0
SourcesServeAll =
    (w : World) (granted : ℕ → Counts) (keep : Bio → Bool) → Firm w
    → ((z : Bio) → Contains w.bios z → is_root z.owner ≡ true → keep z ≡ true → SourceServes granted w.topology z)
    → ((z : Bio) → Contains w.bios z → is_waiting z.phase ≡ true → keep z ≡ true)
    → (z : Bio) → Contains w.bios z → keep z ≡ true → SourceServes granted w.topology z
