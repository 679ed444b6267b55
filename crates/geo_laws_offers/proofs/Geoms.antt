-- The commands of geoms destroy nothing, and what they offer for taste lives.
use Rattle.std.specs.Prelude.{◌≡◌, ℕ, ◌+◌, true, false, Some}
use Rattle.std.proofs.Common.{refl}
use Rattle.geo_base.specs.declared.kind.Kind.TheVariants as kinds
use Rattle.geo_model.specs.declared.command.Command.{Command}
use Rattle.geo_model.specs.declared.step.Event.TheVariants as events
use Rattle.geo_model.specs.Topology.{Topology, Provider, add_geom, add_consumer, set_config}
use Rattle.geo_model.specs.Demand.{risen}
use Rattle.geo_model.specs.World.{World, Config, Disk, HeaderDisk, granted_in}
use Rattle.geo_model.specs.Events.{QueuedTopology, post, offer, wither, announce_risen}
use Rattle.geo_model.specs.WorldEvents.{queued_of, with_queued}
use Rattle.geo_model.specs.Acceptance.{add_place}
use Rattle.geo_model.specs.HandleCommands.{without_number}
use Rattle.geo_model.specs.GeomCommands.{stand, with_geom_at}
use Rattle.geo_model.specs.Append.{Growing, with_component, appended}
use Rattle.geo_model.specs.Commands.{do_command}
use Rattle.geo_model.specs.Graph.{IsInOrder}
use Rattle.geo_model.specs.CommandEffects.{is_of_geoms, Making, with_making}
use Rattle.geo_model.proofs.CommandWalk.{geoms_by}
use Rattle.geo_laws_graph.proofs.Found.{added-geom}
use Rattle.geo_laws_offers.specs.OfferingLaws.{Adds}
use Rattle.geo_laws_offers.proofs.Quiet.{stays-trans, size-stays, config-stays, geom-stays, consumer-stays, quiet-trans, quiet-change, quiet-post, wither-quiet, risen-quiet, quiet-adds, adds-after}
use Rattle.geo_laws_offers.proofs.Offers.{new-upright, consumers-come, offered-adds}
use Rattle.geo_laws_offers.proofs.Bios.{nothing-adds}

-- a geom withers
wither-adds : (w : World) (g : ℕ) → Adds w (with_queued w (wither (queued_of w) g))
wither-adds w g = quiet-adds (queued_of w) (wither (queued_of w) g) (wither-quiet (queued_of w) g)

module _ (w : World) (order : IsInOrder w.topology) where
  -- a disk stands
  stand-adds : (item : ℕ × HeaderDisk) → Adds w (stand w item)
  stand-adds item =
      let t : Topology Config = w.topology in
      let u : Topology Config = add_geom t kinds.Disk item.1.name (Disk item.0) false in
      let q : QueuedTopology Config = record (queued_of w) { topology = u } in
      adds-after (queued_of w) q (offer q t.next_geom item.1.name item.1.size item.1.sector)
      (quiet-change (queued_of w) u (geom-stays t kinds.Disk item.1.name (Disk item.0) false))
      (offered-adds q t.next_geom item.1.name item.1.size item.1.sector
      (added-geom.order t kinds.Disk item.1.name (Disk item.0) false order)
      (new-upright t kinds.Disk item.1.name (Disk item.0) false order))

  -- a geom is made over some providers, and a provider of it
  made-adds : (m : Making) → Adds w (with_making w m)
  made-adds m =
      let t : Topology Config = w.topology in
      let base : Topology Config = add_geom t m.kind m.geom_name m.config false in
      let u : Topology Config = with_geom_at t m.kind m.geom_name m.config m.providers in
      let q : QueuedTopology Config = record (queued_of w) { topology = u } in
      let come = consumers-come t.next_geom t.next_geom m.providers base
      (added-geom.order t m.kind m.geom_name m.config false order)
      (new-upright t m.kind m.geom_name m.config false order) in
      adds-after (queued_of w) q (offer q t.next_geom m.name m.size m.sector)
      (quiet-change (queued_of w) u
      (stays-trans t base u (geom-stays t m.kind m.geom_name m.config false) come.stays))
      (offered-adds q t.next_geom m.name m.size m.sector come.order come.upright)

  -- a concat grows by a provider
  appended-adds : (x : Growing) (q : Provider) → Adds w (appended w x q)
  appended-adds x q =
      let t : Topology Config = w.topology in
      let one : Topology Config = add_consumer t x.geom.number (Some q.number) in
      let config : Config = add_place x.geom.config t.next_consumer q.size in
      let two : Topology Config = set_config one x.geom.number config in
      let v : World = with_component w x q in
      let marked : QueuedTopology Config =
      announce_risen (granted_in v) (risen (granted_in w) t (granted_in v) v.topology) (queued_of v) in
      quiet-adds (queued_of w) (post marked (events.Resize x.provider.number))
      (quiet-trans (queued_of w) (queued_of v) (post marked (events.Resize x.provider.number))
      (quiet-change (queued_of w) v.topology
      (stays-trans t one v.topology (consumer-stays t x.geom.number (Some q.number))
      (stays-trans one two v.topology (config-stays one x.geom.number config)
      (size-stays two x.provider.number (x.provider.size + q.size)))))
      (quiet-trans (queued_of v) marked (post marked (events.Resize x.provider.number))
      (risen-quiet (granted_in v) (risen (granted_in w) t (granted_in v) v.topology) (queued_of v))
      (quiet-post marked (events.Resize x.provider.number) (λ p. refl))))

  -- a consumer's number is used up
  number-adds : Adds w (without_number w)
  number-adds =
      quiet-adds (queued_of w) (queued_of (without_number w))
      (quiet-change (queued_of w) (without_number w).topology
      (record { geoms = λ g gone. gone; providers = λ p gone. gone; consumers = λ c gone. gone }))

  -- each command of geoms
  pub command-adds : (line actor : ℕ) (c : Command) → is_of_geoms c ≡ true → Adds w (do_command w line actor c).0
  command-adds line actor =
      geoms_by w line actor (λ c made. Adds w made.0)
      (record { refuses = λ c e. nothing-adds w; numbers = λ c e. number-adds })
      (record {
        inserts = λ disk item is. stand-adds item;
        makes = λ c m is. made-adds m;
        withers = λ c g is. wither-adds w g.number;
        grows = λ name prov x q is. appended-adds x q;
      })
