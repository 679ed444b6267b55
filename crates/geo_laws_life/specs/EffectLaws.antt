-- What effects keep of a firm world: of one that is sound, steady and fitting (g_event(9), g_wither_geom(9)).
use Rattle.std.specs.Prelude.{◌≡◌, ◌≢◌, ℕ, Bool, true, false, List, ◌∷◌, fold, None, All, IsSome}
use Rattle.geo_model.specs.declared.step.Event.{Event}
use Rattle.geo_model.specs.Topology.{Topology, Consumer, provider_at, set_error, set_withering, set_marks, note_started}
use Rattle.geo_model.specs.Events.{provider_of_event, post, mark_spoiled, spoil_at, orphan_provider, wither, wither_unless_withering, offer_again, announce_risen, announce_fallen, spoil, orphan, resize}
use Rattle.geo_model.specs.World.{World, Config, granted_in}
use Rattle.geo_model.specs.WorldEvents.{queued_of, with_queued, after_open, after_close, kill_handle}
use Rattle.geo_model.specs.Fitting.{Firm}
use Rattle.geo_laws_life.specs.LessLaws.{IsLess}

-- the provider lives
abbrev pub Lives : World → ℕ → Type 0
Lives w p = IsSome (provider_at w.topology p)

-- changes by which a graph comes to less: an error, a geom other than DEV and TASTE that withers, marks, and a
-- started request
pub record ChangesMakeLess : Type 0 where
  pub error : (w : World) (u : Topology Config) (p : ℕ) → IsLess w u → IsLess w (set_error u p)
  pub withering : (w : World) (u : Topology Config) (g : ℕ) → g ≢ 1 → g ≢ 2 → IsLess w u → IsLess w (set_withering u g)
  pub marks : (w : World) (u : Topology Config) (test : Consumer → Bool) (mark : Bool) → IsLess w u
      → IsLess w (set_marks u test mark)
  pub started : (w : World) (u : Topology Config) (g : ℕ) → IsLess w u → IsLess w (note_started u g)

-- another queue of events of providers that live: with one event more at the end, and without the first one
pub record QueuesKeepFirm : Type 0 where
  pub queue : (w : World) (queue : List Event) → All (λ e. Lives w (provider_of_event e)) queue → Firm w
      → Firm (record w { events = queue })
  pub posted : (w : World) (e : Event) → Lives w (provider_of_event e) → Firm w
      → Firm (with_queued w (post (queued_of w) e))
  pub taken : (w : World) (e : Event) (rest : List Event) → w.events ≡ e ∷ rest → Firm w
      → Firm (record w { events = rest })

-- handles that become dead
pub record KillsKeepFirm : Type 0 where
  pub one : (w : World) (c : ℕ) → Firm w → Firm (kill_handle w c)
  pub all : (w : World) (cs : List ℕ) → Firm w → Firm (fold kill_handle w cs)

-- marks at consumers that aren't of DEV, marks that are taken, and the marks of a spoil, with its event or without
pub record MarksKeepFirm : Type 0 where
  pub set : (w : World) (test : Consumer → Bool) → All (λ c. c.geom ≡ 1 → test c ≡ false) w.topology.consumers → Firm w
      → Firm (record w { topology = set_marks w.topology test true })
  pub taken : (w : World) (test : Consumer → Bool) → Firm w
      → Firm (record w { topology = set_marks w.topology test false })
  pub spoiled : (w : World) (p : ℕ) → Firm w → Firm (record w { topology = mark_spoiled (granted_in w) w.topology p })
  pub announced : (w : World) (p : ℕ) → Lives w p → Firm w
      → Firm (with_queued w (spoil_at (granted_in w) (queued_of w) p))

-- an error at a provider with its event, a geom other than DEV and TASTE that withers, and a geom that starts a request
pub record ErrorsKeepFirm : Type 0 where
  pub orphaned : (w : World) (p : ℕ) → Lives w p → Firm w → Firm (with_queued w (orphan_provider (queued_of w) p))
  pub withered : (w : World) (g : ℕ) → g ≢ 1 → g ≢ 2 → Firm w → Firm (with_queued w (wither (queued_of w) g))
  pub started : (w : World) (g : ℕ) → Firm w → Firm (record w { topology = note_started w.topology g })
  pub unless : (w : World) (g : ℕ) → g ≢ 1 → g ≢ 2 → Firm w
      → Firm (with_queued w (wither_unless_withering (queued_of w) g))

-- what follows a change of write counts: an offer, offers at some providers, spoils at some that live, and so after
-- an open and after a close
pub record AnnouncesKeepFirm : Type 0 where
  pub offered : (w : World) (p : ℕ) → Firm w → Firm (with_queued w (offer_again (queued_of w) p))
  pub fallen : (w : World) (ps : List ℕ) → Firm w → Firm (with_queued w (announce_fallen ps (queued_of w)))
  pub risen : (w : World) (ps : List ℕ) → All (Lives w) ps → Firm w
      → Firm (with_queued w (announce_risen (granted_in w) ps (queued_of w)))
  pub opened : (w after : World) → All (λ x. Lives after x.number) w.topology.providers → Firm after
      → Firm (after_open w after)
  pub closed : (w after : World) → Firm after → Firm (after_close w after)

-- what a spoil, an orphan and a resize do to the graph and the queue, the first two while nothing is tasted
pub record EventsKeepFirm : Type 0 where
  pub spoiled : (w : World) (p : ℕ) → w.taste ≡ None → Firm w → Firm (with_queued w (spoil (queued_of w) p))
  pub orphaned : (w : World) (p : ℕ) → w.taste ≡ None → Firm w → Firm (with_queued w (orphan (queued_of w) p))
  pub resized : (w : World) (p : ℕ) → Firm w → Firm (with_queued w (resize (granted_in w) (queued_of w) p))
