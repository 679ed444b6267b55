-- What is granted, after a consumer came, after its grant changed, and by a taste.
use Rattle.std.specs.Prelude.{◌≡◌, ℕ, true, false, List, Some, None, IsSomeAnd}
use Rattle.geo_base.specs.declared.request.Counts.{Counts}
use Rattle.geo_model.specs.Topology.{consumer_at}
use Rattle.geo_model.specs.Demand.{one_read}
use Rattle.geo_model.specs.Opens.{with_grant}
use Rattle.geo_model.specs.World.{Config, Handle, Taste, is_read_out, granted_of}
use Rattle.geo_mesh.specs.Topo.{TopoView}
use Rattle.geo_laws_counts.specs.CountWords.{HoldsGrants}
use Rattle.geo_access.specs.Access.{IsCounted, counted_view, granted_by}
use Rattle.geo_handles.specs.Handles.{holding_handle}
use Rattle.geo_state.specs.Changes.{with_consumer_at, coming}

-- a consumer that comes is granted nothing, and takes no one's grant
abbrev pub ComersHoldNothing : Type 0
ComersHoldNothing =
    (t : TopoView Config) (geom prov : ℕ) → IsCounted t → consumer_at t.topology (coming t) ≡ None → (c : ℕ)
    → granted_by (with_consumer_at t geom prov) c ≡ granted_by t c

-- the counts that are summed up with another grant of a consumer of DEV or TASTE are those of that grant
abbrev pub GrantsAreCounted : Type 0
GrantsAreCounted =
    (t : TopoView Config) (cons : ℕ) (grant : Counts)
    → IsSomeAnd (consumer_at t.topology cons) (λ x. HoldsGrants t.topology x.geom) → (c : ℕ)
    → granted_by (counted_view t (with_grant (granted_by t) cons grant)) c ≡ with_grant (granted_by t) cons grant c

-- a taste grants nothing while its read isn't out
abbrev pub TastesGrantNothing : Type 0
TastesGrantNothing =
    (handles : List Handle) (s : Taste) → is_read_out s.asked ≡ false → (c : ℕ)
    → granted_of handles (Some s) c ≡ granted_of handles None c

-- while it is out the taste grants one read to its consumer, which is no handle's
abbrev pub TastesGrantReads : Type 0
TastesGrantReads =
    (handles : List Handle) (s : Taste) → is_read_out s.asked ≡ true → holding_handle handles s.consumer ≡ None
    → (c : ℕ) → granted_of handles (Some s) c ≡ with_grant (granted_of handles None) s.consumer one_read c

-- all of these
pub record GrantsFollow : Type 0 where
  pub comers : ComersHoldNothing
  pub counted : GrantsAreCounted
  pub nothing : TastesGrantNothing
  pub reads : TastesGrantReads
