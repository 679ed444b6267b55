-- What a close, a reap and each other command of a handle destroy was closed and idle.
use Rattle.std.specs.Prelude.{◌≡◌, ◌≢◌, ◌⊎◌, ℕ, ◌==◌, Bool, true, false, not, ◌||◌, List, [], ◌∷◌, find, Option, Some, None, All, Contains, is_some, if◌then◌else◌}
use Rattle.std.specs.Option.{option_map_or}
use Rattle.std.proofs.Common.{inl, inr, refl, sym, ◌∙◌, ap, subst}
use Rattle.std.proofs.lemmas.Bool.{eq-eqb, cases_eq}
use Rattle.std.proofs.lemmas.List.Elements.{All-map}
use Rattle.geo_base.proofs.Options.{none-mapped}
use Rattle.geo_base.specs.declared.request.Counts.{Counts}
use Rattle.geo_model.specs.declared.step.Entry.{Entry}
use Rattle.geo_model.specs.declared.step.Event.TheVariants as events
use Rattle.geo_model.specs.Words.{names_number}
use Rattle.geo_model.specs.Topology.{Topology, Geom, Provider, Consumer, geom_at, provider_at, consumer_at, geom_of_provider, is_errored, remove_consumer, set_marks}
use Rattle.geo_model.specs.Demand.{risen, fallen}
use Rattle.geo_model.specs.Events.{QueuedTopology, post, offer_again, spoil_at, announce_risen, announce_fallen, is_to_spoil}
use Rattle.geo_model.specs.World.{World, Config, Handle, Bio, granted_in, is_active}
use Rattle.geo_model.specs.WorldEvents.{queued_of, after_open, after_close}
use Rattle.geo_model.specs.HandleCommands.{close_handle, with_handle}
use Rattle.geo_model.specs.Freeing.{reap_handle}
use Rattle.geo_model.specs.Log.{after_entry}
use Rattle.geo_model.specs.History.{GoesIdle, FreesOnlyIdle}
use Rattle.geo_model.specs.Fitting.{Firm}
use Rattle.geo_laws_graph.proofs.Members.{filter-Contains}
use Rattle.geo_laws_graph.proofs.Lists.{changed, find-changed}
use Rattle.geo_laws_graph.proofs.Found.{removed-consumer}
use Rattle.geo_laws_graph.proofs.Living.{found-before}
use Rattle.geo_laws_counts.proofs.LimitFacts.{all_of}
use Rattle.geo_laws_offers.proofs.Frees.{consumer-found, provider-found}
use Rattle.geo_laws_handles.proofs.Released.{AreReleased, no_source}
use Rattle.geo_laws_handles.proofs.Closed.{others, others_released, has_dev, one_holder}
use Rattle.geo_laws_handles.proofs.Reaped.{after, after_released}
use Rattle.geo_laws_handles.specs.FactLaws.{LosesOnly, IsLetGo}

-- Graphs

-- one of two queues with the same graph
pub either-keeps : (b : Bool) (q r : QueuedTopology Config) → r.topology ≡ q.topology
    → (if b then q else r).topology ≡ q.topology
either-keeps true q r same = refl
either-keeps false q r same = same

-- offers leave the graph
pub offers-keep : (ps : List ℕ) (q : QueuedTopology Config) → (announce_fallen ps q).topology ≡ q.topology
offers-keep [] q = refl
offers-keep (p ∷ ps) q =
    offers-keep ps (offer_again q p)
    ∙ either-keeps (is_errored q.topology p || option_map_or (λ (g : Geom Config). g.withering)
    (geom_of_provider q.topology p) true) q (post q (events.NewProvider p)) refl

-- from the one graph to the other geoms and providers stay, and what isn't found wasn't
pub record Keeps (t u : Topology Config) : Type 0 where
  pub geoms : u.geoms ≡ t.geoms
  pub providers : u.providers ≡ t.providers
  pub consumers : (n : ℕ) → consumer_at u n ≡ None → consumer_at t n ≡ None

-- so over two
keeps-trans : (t u v : Topology Config) → Keeps t u → Keeps u v → Keeps t v
keeps-trans t u v first second = record {
  geoms = second.geoms ∙ first.geoms;
  providers = second.providers ∙ first.providers;
  consumers = λ n gone. first.consumers n (second.consumers n gone);
}

-- marks keep the parts
marks-keep : (t : Topology Config) (test : Consumer → Bool) → Keeps t (set_marks t test true)
marks-keep t test = record {
  geoms = refl;
  providers = refl;
  consumers = λ n gone.
      none-mapped (changed test (λ (x : Consumer). record x { spoiled = true })) (consumer_at t n)
      (sym (find-changed test (λ (x : Consumer). record x { spoiled = true }) (λ (x : Consumer). x.number == n)
      (λ x e. refl) t.consumers) ∙ gone);
}

-- so do spoils
spoils-keep : (granted : ℕ → Counts) (ps : List ℕ) (q : QueuedTopology Config)
    → Keeps q.topology (announce_risen granted ps q).topology
spoils-keep granted [] q = record { geoms = refl; providers = refl; consumers = λ n gone. gone }
spoils-keep granted (p ∷ ps) q =
    keeps-trans q.topology (set_marks q.topology (is_to_spoil granted q.topology p) true)
    (announce_risen granted ps (spoil_at granted q p)).topology
    (marks-keep q.topology (is_to_spoil granted q.topology p)) (spoils-keep granted ps (spoil_at granted q p))

module _ (w : World) (firm : Firm w) where
  -- the graph
  abbrev t : Topology Config
  t = w.topology

  -- where the graph keeps its parts, nothing goes
  pub nothing-goes : (after : World) (Lost : Consumer → Type 0) → Keeps t after.topology → LosesOnly w after Lost
  nothing-goes after Lost keeps = record {
    geoms = keeps.geoms;
    providers = keeps.providers;
    consumers = λ c here gone.
        let found : consumer_at t c.number ≡ Some c = consumer-found w firm c here in
        let not_found : consumer_at t c.number ≡ None = keeps.consumers c.number gone in
        absurd (let bad : ⊥ = cc in bad);
  }

  -- where the graph is the same
  pub same-goes : (after : World) (Lost : Consumer → Type 0) → after.topology ≡ t → LosesOnly w after Lost
  same-goes after Lost same = nothing-goes after Lost (record {
    geoms = ap (λ (u : Topology Config). u.geoms) same;
    providers = ap (λ (u : Topology Config). u.providers) same;
    consumers = λ n gone. subst (λ (u : Topology Config). consumer_at u n ≡ None) same gone;
  })

  -- what a step of an entry destroys was idle, where only idle consumers go
  pub frees-idle : (e : Entry) → LosesOnly w (after_entry w e) (GoesIdle w e) → FreesOnlyIdle w e
  frees-idle e loses = record {
    consumers = loses.consumers;
    providers = λ p here gone.
        let found : provider_at t p.number ≡ Some p = provider-found w firm p here in
        let not_found : provider_at t p.number ≡ None =
        subst (λ (ps : List Provider). find (λ (x : Provider). x.number == p.number) ps ≡ None)
        loses.providers gone in
        absurd (let bad : ⊥ = cc in bad);
    geoms = λ g there gone.
        let not_found : geom_at t g ≡ None =
        subst (λ (gs : List (Geom Config)). find (λ (x : Geom Config). x.number == g) gs ≡ None) loses.geoms gone in
        let no_one : is_some (geom_at t g) ≡ false = ap (λ o. is_some o) not_found in
        absurd (let bad : ⊥ = cc in bad);
  }

  -- after an open nothing goes
  pub open-goes : (actor : ℕ) (name : List ℕ) (p : ℕ) (grant : Counts) (Lost : Consumer → Type 0)
      → LosesOnly w (after_open w (with_handle w actor name p grant)) Lost
  open-goes actor name p grant Lost =
      let v : World = with_handle w actor name p grant in
      let marked = spoils-keep (granted_in (with_handle w actor name p grant))
      (risen (granted_in w) t (granted_in (with_handle w actor name p grant))
      (with_handle w actor name p grant).topology)
      (queued_of (with_handle w actor name p grant)) in
      record {
        geoms = marked.geoms;
        providers = marked.providers;
        consumers = λ c here gone.
            let found : consumer_at t c.number ≡ Some c = consumer-found w firm c here in
            let still = found-before (λ (x : Consumer). x.number == c.number) t.consumers
            (record { number = t.next_consumer; geom = 1; provider = Some p; spoiled = false } ∷ []) c found in
            let not_found = marked.consumers c.number gone in
            absurd (let bad : ⊥ = cc in bad);
      }

  module _ (h : Handle) (here : Contains w.handles h) where
    -- the consumer that is released goes alone
    let-go : (d : Consumer) → Contains t.consumers d → d.geom ≡ 1 → h.consumer ≡ Some d.number → (hs : List Handle)
        → AreReleased w d.number hs → All (λ x. x.consumer ≢ Some d.number) hs → is_active w d.number ≡ false
        → LosesOnly w (after_close w (record w { topology = remove_consumer t d.number; handles = hs }))
        (IsLetGo w (after_close w (record w { topology = remove_consumer t d.number; handles = hs })) h)
    let-go d d_here dev names hs released none idle =
        let closed : World = record w { topology = remove_consumer t d.number; handles = hs } in
        let same : (after_close w (record w { topology = remove_consumer t d.number; handles = hs })).topology
        ≡ remove_consumer t d.number =
        offers-keep (fallen (granted_in w) t
        (granted_in (record w { topology = remove_consumer t d.number; handles = hs }))
        (remove_consumer t d.number))
        (queued_of (record w { topology = remove_consumer t d.number; handles = hs })) in
        record {
          geoms = ap (λ (u : Topology Config). u.geoms) same;
          providers = ap (λ (u : Topology Config). u.providers) same;
          consumers = λ c c_here gone. by c c_here
              (subst (λ (u : Topology Config). consumer_at u c.number ≡ None) same gone)
              (cases_eq c.number d.number);
        }
      where
        -- it is the one
        by : (c : Consumer) → Contains t.consumers c → consumer_at (remove_consumer t d.number) c.number ≡ None
            → (c.number ≡ d.number) ⊎ (c.number ≢ d.number)
            → IsLetGo w (after_close w (record w { topology = remove_consumer t d.number; handles = hs })) h c
        by c c_here gone (inl same) =
            let found : consumer_at t c.number ≡ Some c = consumer-found w firm c c_here in
            let there : consumer_at t c.number ≡ Some d =
            subst (λ n. consumer_at t n ≡ Some d) (sym same) (consumer-found w firm d d_here) in
            let one : d ≡ c = cc in
            subst (IsLetGo w (after_close w (record w { topology = remove_consumer t d.number; handles = hs })) h)
            one
            (record {
              of_dev = dev;
              its_consumer = names;
              no_bio = all_of (λ (z : Bio). z.source ≢ d.number) w.bios
                  (no_source w firm d d_here dev hs released idle);
              none_after = none;
            })
        by c c_here gone (inr apart) =
            let found : consumer_at t c.number ≡ Some c = consumer-found w firm c c_here in
            let same = removed-consumer.others t d.number c.number apart in
            absurd (let bad : ⊥ = cc in bad)

    -- no other handle has the consumer
    others-lack : (d : Consumer) → h.consumer ≡ Some d.number
        → All (λ (x : Handle). x.consumer ≢ Some d.number) (others w firm h here)
    others-lack d names =
        all_of (λ (x : Handle). x.consumer ≢ Some d.number) (others w firm h here) (λ x x_here has.
        let kept = filter-Contains (λ (y : Handle). not (y.number == h.number)) w.handles x x_here in
        let one : x ≡ h = one_holder w firm h x d.number here kept.0 names has in
        let is : (x.number == h.number) ≡ true = eq-eqb x.number h.number (ap (λ (y : Handle). y.number) one) in
        let not_it : false ≡ true = sym (ap not is) ∙ kept.1 in
        cc)

    -- what goes by the close
    abbrev Goes : ℕ → Consumer → Type 0
    Goes line = IsLetGo w (close_handle w line (Some h)).0 h

    -- by whether its consumer is active
    close-idle : (d : Consumer) → Contains t.consumers d → d.geom ≡ 1 → h.consumer ≡ Some d.number → (b : Bool)
        → is_active w d.number ≡ b → (line : ℕ) → LosesOnly w (close_handle w line (Some h)).0 (Goes line)
    close-idle d d_here dev names true active line =
        same-goes (close_handle w line (Some h)).0 (Goes line) (rw (names, active) refl)
    close-idle d d_here dev names false idle line =
        let is : (close_handle w line (Some h)).0
        ≡ after_close w (record w { topology = remove_consumer t d.number; handles = others w firm h here }) =
        rw (names, idle) refl in
        subst (λ (v : World). LosesOnly w v (IsLetGo w v h)) (sym is)
        (let-go d d_here dev names (others w firm h here) (others_released w firm h here d names)
        (others-lack d names) idle)

    -- by its consumer
    close-by : (o : Option ℕ) → h.consumer ≡ o → (line : ℕ)
        → LosesOnly w (close_handle w line (Some h)).0 (Goes line)
    close-by None none line =
        same-goes (close_handle w line (Some h)).0 (Goes line) (rw none
        (offers-keep (fallen (granted_in w) t (granted_in (record w { handles = others w firm h here })) t)
        (queued_of (record w { handles = others w firm h here }))))
    close-by (Some n) names line =
        let c = has_dev w firm h n here names in
        close-idle c.consumer c.here c.dev c.names (is_active w c.consumer.number) refl line

    -- a close
    pub close-goes : (line : ℕ) → LosesOnly w (close_handle w line (Some h)).0 (Goes line)
    close-goes line = close-by h.consumer refl line

    -- what a reap lets go
    pub reap-goes : (dead : h.dead ≡ true) → (d : Consumer) → Contains t.consumers d → d.geom ≡ 1
        → h.consumer ≡ Some d.number → is_active w d.number ≡ false
        → LosesOnly w (reap_handle w (Some d.number)) (IsLetGo w (reap_handle w (Some d.number)) h)
    reap-goes dead d d_here dev names idle =
        let-go d d_here dev names (after w firm h here dead d names) (after_released w firm h here dead d names)
        (All-map (λ (x : Handle). x.consumer ≢ Some d.number)
        (λ x. if names_number x.consumer d.number then record x { consumer = None } else x) w.handles
        (all_of (λ (x : Handle). (if names_number x.consumer d.number then record x {
          consumer = None;
        } else x).consumer
        ≢ Some d.number) w.handles (λ x x_here. lacks x (names_number x.consumer d.number) refl))) idle
      where
        -- no handle has it
        lacks : (x : Handle) (b : Bool) → names_number x.consumer d.number ≡ b
            → (if names_number x.consumer d.number then record x {
              consumer = None;
            } else x).consumer ≢ Some d.number
        lacks x true e = rw e (λ has. absurd (let bad : ⊥ = cc in bad))
        lacks x false e = rw e (λ has.
            let named : names_number x.consumer d.number ≡ true = rw has (eq-eqb d.number d.number refl) in
            absurd (let bad : ⊥ = cc in bad))
