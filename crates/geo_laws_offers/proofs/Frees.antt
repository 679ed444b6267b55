-- A step after which each part is still there destroys nothing.
use Rattle.std.specs.Prelude.{◌≡◌, false, Some, None, Contains, is_some}
use Rattle.std.proofs.Common.{ap}
use Rattle.geo_model.specs.declared.step.Entry.{Entry}
use Rattle.geo_model.specs.Topology.{Topology, Provider, Consumer, geom_at, provider_at, consumer_at}
use Rattle.geo_model.specs.World.{World, Config}
use Rattle.geo_model.specs.Log.{after_entry}
use Rattle.geo_model.specs.History.{FreesOnlyIdle}
use Rattle.geo_model.specs.Graph.{IsInOrder}
use Rattle.geo_model.specs.Fitting.{Firm}
use Rattle.geo_laws_graph.proofs.Lists.{found_itself}
use Rattle.geo_laws_graph.proofs.Living.{sound-order}
use Rattle.geo_laws_offers.specs.OfferingLaws.{StaysThere}

module _ (w : World) (firm : Firm w) where
  -- the graph
  abbrev t : Topology Config
  t = w.topology

  -- it stands in order
  order : IsInOrder t
  order = sound-order w firm.graph.numbers

  -- a consumer that stands is found
  pub consumer-found : (c : Consumer) → Contains t.consumers c → consumer_at t c.number ≡ Some c
  consumer-found c here = found_itself (λ (x : Consumer). x.number) t.next_consumer t.consumers c order.consumers here

  -- so is a provider
  pub provider-found : (p : Provider) → Contains t.providers p → provider_at t p.number ≡ Some p
  provider-found p here = found_itself (λ (x : Provider). x.number) t.next_provider t.providers p order.providers here

  -- where each part is still there, nothing goes
  pub stays-frees : (e : Entry) → StaysThere t (after_entry w e).topology → FreesOnlyIdle w e
  stays-frees e stays = record {
    consumers = λ c here gone.
        let found : consumer_at t c.number ≡ Some c = consumer-found c here in
        let not_found : consumer_at t c.number ≡ None = stays.consumers c.number gone in
        absurd (let bad : ⊥ = cc in bad);
    providers = λ p here gone.
        let found : provider_at t p.number ≡ Some p = provider-found p here in
        let not_found : provider_at t p.number ≡ None = stays.providers p.number gone in
        absurd (let bad : ⊥ = cc in bad);
    geoms = λ g there gone.
        let no_one : is_some (geom_at t g) ≡ false = ap (λ o. is_some o) (stays.geoms g gone) in
        absurd (let bad : ⊥ = cc in bad);
  }
