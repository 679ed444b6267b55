-- A bio goes down by what the graph tells and what becomes of the bios, taken apart.
use Rattle.std.specs.Prelude.{◌≡◌, ℕ, ◌+◌, Bool, true, false, Option, Some, None}
use Rattle.std.proofs.Common.{refl, ◌∙◌}
use Rattle.geo_model.specs.Topology.{Provider, Geom, is_errored, provider_with_geom}
use Rattle.geo_model.specs.World.{World, Bio, Config, Nothing, Disk, Mbr, Ebr, Label, Concat, Stripe, Nop}
use Rattle.geo_model.specs.Bios.{is_hit, start, start_at, start_found, start_by, way_at, way_of}

-- at a NOP geom
hit : (w : World) (x : Bio) (p : Provider) (g : Geom Config) (below : Option ℕ) (offset fail : ℕ) (b : Bool)
    → is_hit (g.started + 1) fail ≡ b
    → start_at w x p g (Nop below offset fail) ≡ start_by w x (way_at x p g (Nop below offset fail))
hit w x p g below offset fail true e = rw e refl
hit w x p g below offset fail false e = rw e refl

-- by the class of the geom
by-config : (w : World) (x : Bio) (p : Provider) (g : Geom Config) (config : Config)
    → start_at w x p g config ≡ start_by w x (way_at x p g config)
by-config w x p g Nothing = refl
by-config w x p g (Disk disk) = refl
by-config w x p g (Mbr below slices) = refl
by-config w x p g (Ebr below parts) = refl
by-config w x p g (Label below) = refl
by-config w x p g (Concat id places sizes) = refl
by-config w x p g (Stripe id stripe places sizes) = refl
by-config w x p g (Nop below offset fail) = hit w x p g below offset fail (is_hit (g.started + 1) fail) refl

-- by what is found
by-found : (w : World) (x : Bio) (found : Option (Provider × Geom Config)) → is_errored w.topology x.target ≡ false
    → provider_with_geom w.topology x.target ≡ found → start_found w x found ≡ start_by w x (way_of w.topology x)
by-found w x None fine e = rw (fine, e) refl
by-found w x (Some found) fine e = rw (fine, e) (by-config w x found.0 found.1 found.1.config)

by-error : (w : World) (x : Bio) (b : Bool) → is_errored w.topology x.target ≡ b
    → start w x ≡ start_by w x (way_of w.topology x)
unfolding start
by-error w x true e = rw e refl
by-error w x false e =
    let found : start_found w x (provider_with_geom w.topology x.target) ≡ start_by w x (way_of w.topology x) =
    by-found w x (provider_with_geom w.topology x.target) e refl in
    let same : start w x ≡ start_found w x (provider_with_geom w.topology x.target) = rw e refl in
    same ∙ found

pub starts_in_parts : (w : World) (x : Bio) → start w x ≡ start_by w x (way_of w.topology x)
starts_in_parts w x = by-error w x (is_errored w.topology x.target) refl
