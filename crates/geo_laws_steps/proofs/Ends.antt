-- The end of a taste: its consumer goes alone, which holds no count and has no bio.
use Rattle.std.specs.Prelude.{◌≡◌, ◌≢◌, ◌⊎◌, false, Some, None, Contains, is_some}
use Rattle.std.proofs.Common.{inl, inr, sym, ◌∙◌, ap, subst}
use Rattle.std.proofs.lemmas.Bool.{cases_eq}
use Rattle.std.proofs.lemmas.List.Elements.{All-contains}
use Rattle.geo_model.specs.declared.step.Entry.{Entry}
use Rattle.geo_model.specs.Words.{is_read}
use Rattle.geo_model.specs.Topology.{Topology, Consumer, geom_at, provider_at, consumer_at, remove_consumer}
use Rattle.geo_model.specs.Demand.{want, is_zero, no_counts}
use Rattle.geo_model.specs.World.{World, Config, Bio, Taste, granted_in, is_read_out}
use Rattle.geo_model.specs.Tasting.{abort_taste}
use Rattle.geo_model.specs.Log.{after_entry}
use Rattle.geo_model.specs.History.{GoesIdle, FreesOnlyIdle}
use Rattle.geo_model.specs.SoundBios.{IsBioInOrder, HasCountFor}
use Rattle.geo_model.specs.Fitting.{Firm}
use Rattle.geo_laws_graph.proofs.Found.{removed-consumer}
use Rattle.geo_laws_counts.proofs.LimitFacts.{all_of}
use Rattle.geo_laws_life.proofs.Found.{found-with, one-found}
use Rattle.geo_laws_life.proofs.LessBios.{no_count}
use Rattle.geo_laws_making.proofs.Ending.{wants_none}
use Rattle.geo_laws_making.proofs.Tasters.{tasting, taster, taster_found}
use Rattle.geo_laws_offers.proofs.Frees.{consumer-found, provider-found}

module _ (w : World) (firm : Firm w) (s : Taste) (is : w.taste ≡ Some s) (none : is_read_out s.asked ≡ false) where
  -- the graph
  abbrev t : Topology Config
  t = w.topology

  -- the consumer that goes
  abbrev d : Consumer
  d = taster w firm s is

  -- no bio is from it
  no_bio_from : (x : Bio) → Contains w.bios x → x.source ≢ d.number
  no_bio_from x here same =
      let c = found-with (consumer_at t x.source) (λ z. (z.provider ≡ Some x.target) × HasCountFor (granted_in w) t x z)
      (All-contains (IsBioInOrder (granted_in w) t) w.bios x firm.bios.order here).source in
      let there : consumer_at t d.number ≡ Some c.item = subst (λ n. consumer_at t n ≡ Some c.item) same c.is in
      let one : d ≡ c.item = one-found (consumer_at t d.number) d c.item (taster_found w firm s is) there in
      let idle : want (granted_in w) t c.item ≡ no_counts =
      subst (λ z. want (granted_in w) t z ≡ no_counts) one (wants_none w firm s is none) in
      no_count (is_read x.cmd) (want (granted_in w) t c.item).r (want (granted_in w) t c.item).w
      (ap (λ a. a.r) idle) (ap (λ a. a.w) idle) c.fact.1

  module _ (e : Entry) (ends : after_entry w e ≡ abort_taste w s) where
    -- a consumer that goes is the taste's
    consumer-idle : (c : Consumer) → Contains t.consumers c
        → consumer_at (remove_consumer t s.consumer) c.number ≡ None
        → (c.number ≡ s.consumer) ⊎ (c.number ≢ s.consumer) → GoesIdle w e c
    consumer-idle c here gone (inl same) =
        let number : c.number ≡ d.number = same ∙ sym (tasting w firm s is).number in
        let there : consumer_at t d.number ≡ Some c =
        subst (λ n. consumer_at t n ≡ Some c) number (consumer-found w firm c here) in
        let one : d ≡ c = one-found (consumer_at t d.number) d c (taster_found w firm s is) there in
        subst (GoesIdle w e) one (record {
          no_bio = all_of (λ (x : Bio). x.source ≢ d.number) w.bios no_bio_from;
          closed = inl (ap is_zero (wants_none w firm s is none));
        })
    consumer-idle c here gone (inr apart) =
        let found : consumer_at t c.number ≡ Some c = consumer-found w firm c here in
        let same = removed-consumer.others t s.consumer c.number apart in
        absurd (let bad : ⊥ = cc in bad)

    -- what goes by the end of a taste was idle
    pub ends-frees : FreesOnlyIdle w e
    ends-frees = record {
      consumers = λ c here gone.
          consumer-idle c here (subst (λ (v : World). consumer_at v.topology c.number ≡ None) ends gone)
          (cases_eq c.number s.consumer);
      providers = λ p here gone.
          let found : provider_at t p.number ≡ Some p = provider-found w firm p here in
          let not_found : provider_at t p.number ≡ None =
          subst (λ (v : World). provider_at v.topology p.number ≡ None) ends gone in
          absurd (let bad : ⊥ = cc in bad);
      geoms = λ g there gone.
          let not_found : geom_at t g ≡ None = subst (λ (v : World). geom_at v.topology g ≡ None) ends gone in
          let no_one : is_some (geom_at t g) ≡ false = ap (λ o. is_some o) not_found in
          absurd (let bad : ⊥ = cc in bad);
    }
