-- Events, reaps and washes: each part of the graph is new or stood before, and each bio stays.
use Rattle.std.specs.Prelude.{◌≡◌, ℕ, Bool, true, false, List, [], ◌∷◌, fold, Option, Some, None, Contains, if◌then◌else◌}
use Rattle.std.proofs.Common.{refl, sym, subst}
use Rattle.geo_model.specs.declared.step.Event.{Event}
use Rattle.geo_model.specs.declared.step.Event.TheVariants as events
use Rattle.geo_model.specs.declared.step.WashWork.{WashWork}
use Rattle.geo_model.specs.declared.step.WashWork.TheVariants as washes
use Rattle.geo_model.specs.Demand.{fallen}
use Rattle.geo_model.specs.World.{World, Config, Bio, granted_in}
use Rattle.geo_model.specs.Events.{QueuedTopology, is_not_tasted, spoil, resize, dying_consumers}
use Rattle.geo_model.specs.WorldEvents.{queued_of, with_queued, after_close, begin_taste, kill_handle, do_event}
use Rattle.geo_model.specs.Freeing.{reap_consumer, reap_handle, washed}
use Rattle.geo_laws_steps.specs.Heirs.{IsBare, Follows}
use Rattle.geo_laws_steps.proofs.Heirs.{inherits-same, heir-consumer, heir-no_geom, heir-no_provider, heir-no_consumer}
use Rattle.geo_laws_steps.proofs.HeirQueues.{Comes, comes-spoil, comes-orphan, comes-resize, comes-fallen}
use Rattle.geo_laws_steps.proofs.HeirJudges.{follows-same}

-- handles that die leave the bios
killed-bios : (cs : List ℕ) (w : World) → (fold kill_handle w cs).bios ≡ w.bios
killed-bios [] w = refl
killed-bios (c ∷ cs) w = killed-bios cs (kill_handle w c)

module _ (w : World) where
  -- the mesh with a graph that comes from it
  pub follows-queued : (q : QueuedTopology Config) → Comes (IsBare w.topology) w.topology q
      → Follows w (with_queued w q)
  follows-queued q comes = record { heir = comes; bios = λ x here. here }

  -- what follows a close
  pub follows-close : (v : World) → Follows w v → Follows w (after_close w v)
  follows-close v follows = record {
    heir = comes-fallen (IsBare w.topology) w.topology
        (fallen (granted_in w) w.topology (granted_in v) v.topology) (queued_of v) follows.heir;
    bios = follows.bios;
  }

  -- a taste begins, or not
  taste-follows : (p : ℕ) (b : Bool) → Follows w (if b then w else begin_taste w p)
  taste-follows p true = follows-same w
  taste-follows p false = record {
    heir = heir-consumer (IsBare w.topology) w.topology w.topology (inherits-same (IsBare w.topology) w.topology) 2
        (Some p);
    bios = λ x here. here;
  }

  -- an event is done
  done-follows : (e : Event) → Follows w (do_event w e)
  unfolding do_event
  done-follows (events.NewProvider p) = taste-follows p (is_not_tasted (granted_in w) w.topology p)
  done-follows (events.Spoil p) =
      follows-queued (spoil (queued_of w) p)
      (comes-spoil (IsBare w.topology) w.topology (queued_of w) p (inherits-same (IsBare w.topology) w.topology))
  done-follows (events.Orphan p) = record {
    heir = comes-orphan (IsBare w.topology) w.topology (queued_of w) p
        (inherits-same (IsBare w.topology) w.topology);
    bios = λ x here.
        subst (λ (xs : List Bio). Contains xs x) (sym (killed-bios (dying_consumers w.topology p) w)) here;
  }
  done-follows (events.Resize p) =
      follows-queued (resize (granted_in w) (queued_of w) p)
      (comes-resize (IsBare w.topology) w.topology (granted_in w) (queued_of w) p
      (inherits-same (IsBare w.topology) w.topology))

  -- what a wash removes
  pub wash-follows : (work : WashWork) → Follows w (with_queued w (washed (queued_of w) work))
  wash-follows (washes.Provider p) = record {
    heir = heir-no_provider (IsBare w.topology) w.topology w.topology
        (inherits-same (IsBare w.topology) w.topology) p;
    bios = λ x here. here;
  }
  wash-follows (washes.Consumer c) = record {
    heir = heir-no_consumer (IsBare w.topology) w.topology w.topology
        (inherits-same (IsBare w.topology) w.topology) c;
    bios = λ x here. here;
  }
  wash-follows (washes.Geom g) = record {
    heir = heir-no_geom (IsBare w.topology) w.topology w.topology (inherits-same (IsBare w.topology) w.topology) g;
    bios = λ x here. here;
  }

  -- a consumer is reaped
  pub consumer-follows : (o : Option ℕ) → Follows w (reap_handle w o)
  consumer-follows None = follows-same w
  consumer-follows (Some c) =
      follows-close (reap_consumer w c) (record {
        heir = heir-no_consumer (IsBare w.topology) w.topology w.topology
            (inherits-same (IsBare w.topology) w.topology) c;
        bios = λ x here. here;
      })

-- the head of the queue is done
pub head-follows : (w : World) (e : Event) (rest : List Event) → Follows w (do_event (record w { events = rest }) e)
head-follows w e rest =
    let done = done-follows (record w { events = rest }) e in record { heir = done.heir; bios = done.bios }
