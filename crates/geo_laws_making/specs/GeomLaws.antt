-- The commands of geoms keep a mesh sound, steady and fitting: insert, pull, nop, concat, stripe and destroy
-- (geom(4)).
use Rattle.std.specs.Prelude.{ℕ, ◌≤◌, List, length, Option}
use Rattle.geo_base.specs.declared.kind.Kind.{Kind}
use Rattle.geo_base.specs.declared.limits.TheConstants.{MAX_COMPONENTS}
use Rattle.geo_model.specs.World.{World, HeaderDisk}
use Rattle.geo_model.specs.GeomCommands.{header_disk, do_insert, do_pull, do_nop, found_provider, found_providers, do_concat, do_stripe, do_destroy, named_geom}
use Rattle.geo_model.specs.Plans.{IsNamedClass}
use Rattle.geo_model.specs.Fitting.{Firm}

-- a pull of a disk leaves a firm mesh firm, whether the disk is found or not
pub record PullsStayFirm : Type 0 where
  pub pull : (w : World) (line : ℕ) (o : Option (ℕ × HeaderDisk)) → Firm w → Firm (do_pull w line o).0

-- so does a destroy of a geom of a class that a command can name
pub record DestroysStayFirm : Type 0 where
  pub destroy : (w : World) (line : ℕ) (kind : Kind) (name : List ℕ) → IsNamedClass kind → Firm w
      → Firm (do_destroy w line (named_geom w kind name)).0

-- an insert of a disk of the header
pub record InsertsStayFirm : Type 0 where
  pub insert : (w : World) (line : ℕ) (disk : List ℕ) → Firm w → Firm (do_insert w line (header_disk w disk)).0

-- a nop over a provider, by any name
pub record NopsStayFirm : Type 0 where
  pub nop : (w : World) (line : ℕ) (name : List ℕ) (offset size fail : ℕ) (prov : List ℕ) → Firm w
      → Firm (do_nop w line name offset size fail (found_provider w prov)).0

-- a concat of at most as many providers as a geom has places
pub record ConcatsStayFirm : Type 0 where
  pub concat : (w : World) (line : ℕ) (name : List ℕ) (provs : List (List ℕ)) → length provs ≤ MAX_COMPONENTS
      → Firm w
      → Firm (do_concat w line name (length provs) (found_providers w.topology provs)).0

-- and a stripe of as many, of one byte or more
pub record StripesStayFirm : Type 0 where
  pub stripe : (w : World) (line : ℕ) (name : List ℕ) (stripe : ℕ) (provs : List (List ℕ)) → 1 ≤ stripe
      → length provs ≤ MAX_COMPONENTS → Firm w
      → Firm (do_stripe w line name stripe (length provs) (found_providers w.topology provs)).0
