-- What becomes of a request in a firm mesh: its pieces, and the counts for them (g_bio(9)).
use Rattle.std.specs.Prelude.{◌≡◌, ℕ, ◌<◌, false, map, Some, None, Contains, IsSomeAnd, IsTrue}
use Rattle.geo_model.specs.Counts.{Counts}
use Rattle.geo_model.specs.Words.{is_read, is_flush}
use Rattle.geo_model.specs.Topology.{Topology, Geom, Provider, Consumer, geom_at, provider_at, consumer_at}
use Rattle.geo_model.specs.Demand.{want}
use Rattle.geo_model.specs.World.{World, Bio, Config}
use Rattle.geo_model.specs.Place.{pieces, disk_of, Follow}
use Rattle.geo_model.specs.Bios.{piece_targets}
use Rattle.geo_model.specs.Fitting.{Firm}

-- the counts that a consumer needs for a bio, by what is granted
abbrev pub Serves : (ℕ → Counts) → Topology Config → Bio → Consumer → Type 0
Serves granted t x c =
    (IsTrue (is_read x.cmd) → 0 < (want granted t c).r) × (is_read x.cmd ≡ false → 0 < (want granted t c).w)

-- the source of a bio is attached to its target and has the counts for it, by what is granted
abbrev pub SourceServes : (ℕ → Counts) → Topology Config → Bio → Type 0
SourceServes granted t z = IsSomeAnd (consumer_at t z.source) (λ c. (c.provider ≡ Some z.target) × Serves granted t z c)

-- in a firm mesh each piece of a request has its consumer, and the pieces follow each other from its beginning
-- to its end
abbrev pub FirmMeshesLoseNoPiece : Type 0
FirmMeshesLoseNoPiece =
    (w : World) (x : Bio) (p : Provider) (g : Geom Config) → Firm w → Contains w.bios x
    → provider_at w.topology x.target ≡ Some p → geom_at w.topology p.geom ≡ Some g → disk_of g.config ≡ None
    → is_flush x.cmd ≡ false
    → (map (λ target. target.piece) (piece_targets g.config p x) ≡ pieces g.config p x.offset x.len)
    × Follow 0 x.len (pieces g.config p x.offset x.len)
