-- Commands but for appends: each part of the graph is new or stood before, and each bio stays.
use Rattle.std.specs.Prelude.{◌≡◌, ℕ, false, List, Option, Some, None}
use Rattle.std.specs.Option.{option_map_or}
use Rattle.std.proofs.Common.{refl, sym, ap, subst}
use Rattle.std.proofs.lemmas.List.Elements.{Contains-append_left}
use Rattle.geo_base.specs.declared.kind.Kind.TheVariants as kinds
use Rattle.geo_base.specs.declared.request.Counts.{Counts}
use Rattle.geo_model.specs.declared.command.Command.{Command}
use Rattle.geo_model.specs.Topology.{Topology, add_geom, remove_consumer}
use Rattle.geo_model.specs.Demand.{risen}
use Rattle.geo_model.specs.World.{World, Config, Disk, HeaderDisk, Handle, granted_in}
use Rattle.geo_model.specs.Events.{QueuedTopology, offer, wither}
use Rattle.geo_model.specs.WorldEvents.{queued_of, with_queued, after_open, after_close}
use Rattle.geo_model.specs.Requests.{Asking}
use Rattle.geo_model.specs.HandleCommands.{accept_request, with_handle, without_number, without_handle}
use Rattle.geo_model.specs.GeomCommands.{stand, with_geom_at}
use Rattle.geo_model.specs.Commands.{do_command}
use Rattle.geo_model.specs.CommandEffects.{Making, with_making}
use Rattle.geo_model.proofs.CommandWalk.{command_by}
use Rattle.geo_laws_steps.specs.Heirs.{Inherits, IsBare, Follows}
use Rattle.geo_laws_steps.specs.HeirLaws.{is_append}
use Rattle.geo_laws_steps.proofs.Heirs.{inherits-same, heir-number, heir-geom, heir-consumer, heir-no_consumer}
use Rattle.geo_laws_steps.proofs.HeirQueues.{comes-wither, comes-risen, comes-offer, comes-consumers}
use Rattle.geo_laws_steps.proofs.HeirJudges.{follows-same}
use Rattle.geo_laws_steps.proofs.HeirSteps.{follows-queued, follows-close}

module _ (w : World) where
  -- the graph, and that it comes from itself
  abbrev t : Topology Config
  t = w.topology

  -- the geoms that may change
  abbrev T : ℕ → Type 0
  T = IsBare w.topology

  -- it comes from itself
  here_same : Inherits T t t
  here_same = inherits-same T t

  -- Handles

  -- what follows an open
  pub follows-open : (v : World) → Follows w v → Follows w (after_open w v)
  follows-open v follows = record {
    heir = comes-risen T t (granted_in v) (risen (granted_in w) t (granted_in v) v.topology) (queued_of v)
        follows.heir;
    bios = follows.bios;
  }

  -- a consumer's number is used up
  pub follows-number : Follows w (without_number w)
  follows-number = record { heir = heir-number T t t here_same; bios = λ x here. here }

  -- a handle comes with its consumer
  opened-follows : (actor : ℕ) (name : List ℕ) (p : ℕ) (grant : Counts)
      → Follows w (after_open w (with_handle w actor name p grant))
  opened-follows actor name p grant =
      follows-open (with_handle w actor name p grant)
      (record { heir = heir-consumer T t t here_same 1 (Some p); bios = λ x here. here })

  -- a handle goes with its consumer
  handle-follows : (h : Handle) (o : Option ℕ) → h.consumer ≡ o → Follows w (without_handle w h)
  handle-follows h None e = record {
    heir = subst (Inherits T t) (sym (ap (λ (c : Option ℕ). option_map_or (remove_consumer t) c t) e)) here_same;
    bios = λ x here. here;
  }
  handle-follows h (Some c) e = record {
    heir = subst (Inherits T t) (sym (ap (λ (c : Option ℕ). option_map_or (remove_consumer t) c t) e))
        (heir-no_consumer T t t here_same c);
    bios = λ x here. here;
  }

  -- and what follows a close
  closed-follows : (h : Handle) → Follows w (after_close w (without_handle w h))
  closed-follows h = follows-close w (without_handle w h) (handle-follows h h.consumer refl)

  -- a request is accepted
  accepted-follows : (line : ℕ) (h : Handle) (a : Asking) → Follows w (accept_request w line h a).0
  accepted-follows line h a = record { heir = here_same; bios = λ x here. Contains-append_left w.bios _ x here }

  -- Geoms

  -- a geom withers
  wither-follows : (g : ℕ) → Follows w (with_queued w (wither (queued_of w) g))
  wither-follows g = follows-queued w (wither (queued_of w) g) (comes-wither T t (queued_of w) g here_same)

  -- a disk stands
  stand-follows : (item : ℕ × HeaderDisk) → Follows w (stand w item)
  stand-follows item =
      let q : QueuedTopology Config =
      record (queued_of w) { topology = add_geom t kinds.Disk item.1.name (Disk item.0) false } in
      follows-queued w (offer q t.next_geom item.1.name item.1.size item.1.sector)
      (comes-offer T t q t.next_geom item.1.name item.1.size item.1.sector
      (heir-geom T t t here_same kinds.Disk item.1.name (Disk item.0) false))

  -- a geom is made over some providers, and a provider of it
  made-follows : (m : Making) → Follows w (with_making w m)
  made-follows m =
      let q : QueuedTopology Config =
      record (queued_of w) { topology = with_geom_at t m.kind m.geom_name m.config m.providers } in
      follows-queued w (offer q t.next_geom m.name m.size m.sector)
      (comes-offer T t q t.next_geom m.name m.size m.sector
      (comes-consumers T t t.next_geom m.providers (add_geom t m.kind m.geom_name m.config false)
      (heir-geom T t t here_same m.kind m.geom_name m.config false)))

  -- each command but an append
  pub command-follows : (line actor : ℕ) (c : Command) → is_append c ≡ false → Follows w (do_command w line actor c).0
  command-follows line actor =
      command_by w line actor (λ c made. is_append c ≡ false → Follows w made.0)
      (record { refuses = λ c e other. follows-same w; numbers = λ c e other. follows-number })
      (record {
        waits = λ c is other. follows-same w;
        lists = λ other. follows-same w;
        opens = λ name prov grant p is other. opened-follows actor name p grant;
        closes = λ name h is other. closed-follows h;
        accepts = λ c h a is other. accepted-follows line h a;
      })
      (record {
        inserts = λ disk item is other. stand-follows item;
        makes = λ c m is other. made-follows m;
        withers = λ c g is other. wither-follows g.number;
        grows = λ name prov x q is other. absurd (let no : ⊥ = cc in no);
      })
