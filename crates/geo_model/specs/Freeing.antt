-- Reaping dead handles, and washing withering geoms (g_wither_geom(9)).
use Rattle.std.specs.Prelude.{◌≡◌, ◌≢◌, ℕ, ◌==◌, Bool, false, not, ◌&&◌, List, [], ◌∷◌, length, filter, find, Option, Some, None, IsTrue, All, if◌then◌else◌}
use Rattle.std.specs.Option.{option_map, option_map_or, option_or}
use Rattle.geo_base.specs.declared.request.Counts.{Counts}
use Rattle.geo_model.specs.declared.step.WashWork.{WashWork}
use Rattle.geo_model.specs.declared.step.WashWork.TheVariants as washes
use Rattle.geo_model.specs.Words.{names_number, change_where, first_some}
use Rattle.geo_model.specs.Topology.{Topology, Geom, geom_of_provider, geom_of_consumer, attached_to, providers_of, consumers_of, is_withering, remove_geom, remove_provider, remove_consumer, Consumer}
use Rattle.geo_model.specs.Demand.{want, is_zero}
use Rattle.geo_model.specs.World.{World, Config, Handle, granted_in, is_active}
use Rattle.geo_model.specs.Events.{QueuedTopology, without_events_of}
use Rattle.geo_model.specs.WorldEvents.{queued_of, with_queued, after_close}

-- Reap

-- whether a handle is dead and has a consumer with no active request
abbrev pub is_to_reap : World → Handle → Bool
is_to_reap w h = h.dead && option_map_or (λ c. not (is_active w c)) h.consumer false

-- the dead handle with the smallest number that can be reaped
abbrev pub reap_work : World → Option Handle
reap_work w = find (is_to_reap w) w.handles

-- the consumer is released, detached and destroyed, and its handle has none from then on
abbrev pub reap_consumer : World → ℕ → World
reap_consumer w c = record w {
  topology = remove_consumer w.topology c;
  handles = change_where (λ h. names_number h.consumer c) (λ h. record h { consumer = None }) w.handles;
}

abbrev pub reap_handle : World → Option ℕ → World
reap_handle w None = w
reap_handle w (Some c) = after_close w (reap_consumer w c)

unfoldable pub reap : World → Handle → World
reap w h = reap_handle w h.consumer

-- Wash, for any configuration of a class; granted tells what each consumer was granted, active whether it has a
-- request out

module _ {C : Type 0} (granted : ℕ → Counts) (active : ℕ → Bool) where
  -- a provider of a geom with nothing attached
  abbrev pub free_provider : Topology C → Geom C → Option WashWork
  free_provider t g =
      option_map (λ p. washes.Provider p.number)
      (find (λ p. length (attached_to t p.number) == 0) (providers_of t g.number))

  -- a consumer of a geom with zero counts and no active request (a sound world implies the second by the first)
  abbrev pub is_idle : Topology C → Consumer → Bool
  is_idle t c = is_zero (want granted t c) && not (active c.number)

  abbrev pub free_consumer : Topology C → Geom C → Option WashWork
  free_consumer t g = option_map (λ c. washes.Consumer c.number) (find (is_idle t) (consumers_of t g.number))

  -- the geom itself, once it has neither
  abbrev pub free_geom : Topology C → Geom C → Option WashWork
  free_geom t g =
      if (length (providers_of t g.number) == 0) && (length (consumers_of t g.number) == 0)
      then Some (washes.Geom g.number)
      else None

  -- what of a geom can go first
  abbrev pub wash_work_of : Topology C → Geom C → Option WashWork
  wash_work_of t g = first_some (free_provider t g ∷ free_consumer t g ∷ free_geom t g ∷ [])

  -- the first that is found in a list of geoms
  abbrev pub first_wash : Topology C → List (Geom C) → Option WashWork
  first_wash t [] = None
  first_wash t (g ∷ gs) = option_or (wash_work_of t g) (first_wash t gs)

  -- what can be washed, in the withering geom with the smallest number in which anything can
  abbrev pub wash_where : Topology C → Option WashWork
  wash_where t = first_wash t (filter (λ g. g.withering) t.geoms)

-- the state after that; a provider that goes takes the events that name it with it
abbrev pub washed : {C : Type 0} → QueuedTopology C → WashWork → QueuedTopology C
washed q (washes.Provider p) = record { topology = remove_provider q.topology p; events = without_events_of q.events p }
washed q (washes.Consumer c) = record q { topology = remove_consumer q.topology c }
washed q (washes.Geom g) = record q { topology = remove_geom q.topology g }

-- what can be washed in a world, and the world after it
unfoldable pub wash_work : World → Option WashWork
wash_work w = wash_where (granted_in w) (is_active w) w.topology

unfoldable pub wash : World → WashWork → World
wash w work = with_queued w (washed (queued_of w) work)

-- Free

-- whether the part is one of the geom
abbrev pub is_of_geom : Option (Geom Config) → ℕ → Bool
is_of_geom None g = false
is_of_geom (Some x) g = x.number == g

-- a geom may be freed: it isn't DEV or TASTE, it withers, nothing of it is left, and no bio is from or to a part of it
pub record Free (w : World) (g : ℕ) : Type 0 where
  pub not_dev : g ≢ 1
  pub not_taste : g ≢ 2
  pub withering : IsTrue (is_withering w.topology g)
  pub no_provider : providers_of w.topology g ≡ []
  pub no_consumer : consumers_of w.topology g ≡ []
  pub no_bio : All (λ x. IsTrue (not (is_of_geom (geom_of_consumer w.topology x.source) g)
      && not (is_of_geom (geom_of_provider w.topology x.target) g))) w.bios
