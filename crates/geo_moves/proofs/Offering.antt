-- A taste that begins, and what is kept then.
use Rattle.std.specs.Prelude.{◌≡◌, ℕ, ◌+◌, ◌≤◌, ◌==◌, Bool, true, false, not, List, [], ◌∷◌, map, find, Some, None, if◌then◌else◌}
use Rattle.std.specs.Option.{option_map}
use Rattle.std.proofs.Common.{refl, sym, ◌∙◌, ap, subst, arith, rules}
use Rattle.std.proofs.lemmas.List.{map-append}
use Rattle.geo_base.specs.declared.request.Counts.{Counts}
use Rattle.geo_model.specs.declared.step.Event.TheVariants as heads
use Rattle.geo_model.specs.Topology.{Topology, Consumer, consumer_at}
use Rattle.geo_model.specs.Events.{is_not_tasted}
use Rattle.geo_model.specs.World.{World, Config, Taste, granted_of}
use Rattle.geo_model.specs.WorldEvents.{do_event, begin_taste}
use Rattle.geo_laws_graph.proofs.Lists.{found_fresh}
use Rattle.geo_event.specs.EventQueue.{Queued}
use Rattle.geo_slots.specs.Slots.{value_at}
use Rattle.geo_mesh.specs.Topo.{TopoView, IsButForRoom}
use Rattle.geo_access.specs.Access.{granted_by}
use Rattle.geo_taste.specs.Taster.{IsSettled, first_taste, with_taster}
use Rattle.geo_state.specs.declared.state.State.{State}
use Rattle.geo_state.specs.Trips.{trips, out_through}
use Rattle.geo_state.specs.Holds.{Holds, owed_events}
use Rattle.geo_state.specs.Parts.{SameParts}
use Rattle.geo_state.specs.Sites.{Comers, HasComers}
use Rattle.geo_state.specs.World.{world}
use Rattle.geo_state.specs.Steps.{Stands, SameWorld}
use Rattle.geo_state.proofs.GrantLaws.{comers_hold_nothing, tastes_grant_nothing}
use Rattle.geo_state.proofs.SiteLemmas.{kept_after_comers}
use Rattle.geo_state.proofs.Frames.{parts-self}
use Rattle.geo_state.proofs.LawLemmas.{holds_after_effects}
use Rattle.geo_moves.specs.Steps.{HasDone, without_head}
use Rattle.geo_moves.proofs.Effects.{headless}

-- nothing is stored of a number that no consumer has
pub none-stored : {V : Type 0} (f : Consumer → V) (n : ℕ) (cs : List Consumer)
    → find (λ (c : Consumer). c.number == n) cs ≡ None
    → find (λ (row : ℕ × V). row.0 == n) (map (λ (c : Consumer). let row : ℕ × V = (c.number, f c) in row) cs) ≡ None
none-stored f n [] none = refl
none-stored {V} f n (c ∷ cs) none = search (rules, none-stored f n cs)

module _ (s : State) (stands : Stands s) where
  abbrev t : Topology Config
  t = s.topo.topology

  -- no consumer has the next number
  fresh : consumer_at t t.next_consumer ≡ None
  fresh =
      found_fresh (λ (c : Consumer). c.number) t.next_consumer t.next_consumer t.consumers
      stands.firm.1.1.graph.numbers.consumers (omega arith)

  -- so nothing is stored of it
  unknown : value_at s.topo.active t.next_consumer ≡ None
  unknown =
      ap (λ rows. value_at rows t.next_consumer) stands.kept.active
      ∙ ap (option_map (λ (row : ℕ × ℕ). row.1))
      (none-stored (λ c. out_through (trips s.traffic.bios) c.number) t.next_consumer t.consumers fresh)

  module _ (none : s.taste ≡ None) (p : ℕ) where
    -- what comes with a taste
    abbrev comers : Comers
    comers = record { consumers = t.next_consumer ∷ []; geoms = []; providers = [] }

    module _ (u : TopoView Config) (came : IsButForRoom u (with_taster s.topo p)) (is_settled : IsSettled u) where
      has-come : HasComers s.topo u comers
      has-come =
          search (
            rules,
            map-append (λ (x : Consumer). x.number) t.consumers
                (record { number = t.next_consumer; geom = 2; provider = Some p; spoiled = false } ∷ []),
          )

      -- nobody is granted more by it
      granted : (c : ℕ)
          → granted_by u c ≡ granted_of s.handles.handles (Some (first_taste p t.next_consumer)) c
      granted c =
          ap (λ (v : TopoView Config). granted_by v c) came
          ∙ comers_hold_nothing s.topo 2 p stands.kept.counted fresh c
          ∙ ap (λ (g : ℕ → Counts). g c) stands.kept.grants
          ∙ ap (λ o. granted_of s.handles.handles o c) none
          ∙ sym (tastes_grant_nothing s.handles.handles (first_taste p t.next_consumer) refl c)

      -- all is kept once it has begun
      pub begun-kept : Holds (record s {
        topo = u;
        queue = headless s.queue;
        taste = Some (first_taste p t.next_consumer);
      })
      begun-kept =
          let owed : owed_events u ≡ owed_events s.topo = ap (λ (v : TopoView Config). owed_events v) came in
          let room : owed_events s.topo ≤ s.queue.spare = stands.kept.room in
          let zero : s.providers + 0 ≡ s.providers = omega arith in
          subst (λ n. Holds (record s {
            topo = u;
            queue = headless s.queue;
            taste = Some (first_taste p t.next_consumer);
            providers = n;
          })) zero
          (kept_after_comers stands.firm.0 s u (headless s.queue) (Some (first_taste p t.next_consumer)) comers
          stands.kept stands.firm.1
          has-come (unknown, tt) tt granted
          (record {
            counted = is_settled.counted;
            quiet = is_settled.quiet;
            room = (let so : owed_events u ≤ s.queue.spare + 1 = omega (arith, owed, room) in so);
          }))

      -- the world then
      pub begun-done : is_not_tasted (granted_by s.topo) t p ≡ false
          → HasDone s (record s {
            topo = u;
            queue = headless s.queue;
            taste = Some (first_taste p t.next_consumer);
          }) (heads.NewProvider p)
      unfolding do_event
      begun-done tasted actors log =
          let w : World = without_head (world actors log s) in
          ap (λ (v : TopoView Config). record w {
            topology = v.topology;
            taste = Some (first_taste p t.next_consumer);
          }) came
          ∙ sym (ap (λ (b : Bool). if b then w else begin_taste w p)
          (sym (ap (λ (g : ℕ → Counts). is_not_tasted g t p) stands.kept.grants) ∙ tasted))

      module _ (queue : Queued) (headless_is : queue ≡ headless s.queue) (taste : Taste)
          (first_is : taste ≡ first_taste p t.next_consumer) where
        pub began-kept : Holds (record s { topo = u; queue = queue; taste = Some taste })
        began-kept =
            subst (λ (q : Queued). Holds (record s { topo = u; queue = q; taste = Some taste })) (sym headless_is)
            (subst (λ (x : Taste). Holds (record s { topo = u; queue = headless s.queue; taste = Some x }))
            (sym first_is) begun-kept)

        pub began-done : is_not_tasted (granted_by s.topo) t p ≡ false
            → HasDone s (record s { topo = u; queue = queue; taste = Some taste }) (heads.NewProvider p)
        began-done tasted =
            subst (λ (q : Queued). HasDone s (record s { topo = u; queue = q; taste = Some taste })
            (heads.NewProvider p)) (sym headless_is)
            (subst (λ (x : Taste). HasDone s (record s { topo = u; queue = headless s.queue; taste = Some x })
            (heads.NewProvider p)) (sym first_is) (begun-done tasted))

  -- a provider that isn't to be tasted is passed over
  pub passed-done : (p : ℕ) → false ≡ not (is_not_tasted (granted_by s.topo) t p)
      → HasDone s (record s { queue = headless s.queue }) (heads.NewProvider p)
  unfolding do_event
  passed-done p isnt actors log =
      let w : World = without_head (world actors log s) in
      sym (ap (λ (b : Bool). if b then w else begin_taste w p)
      (sym (ap (λ (g : ℕ → Counts). is_not_tasted g t p) stands.kept.grants)
      ∙ back (is_not_tasted (granted_by s.topo) t p) isnt))
    where
      back : (b : Bool) → false ≡ not b → b ≡ true
      back true e = refl
      back false never = absurd cc

  module _ (queue : Queued) (headless_is : queue ≡ headless s.queue) where
    -- and the event is done
    pub passed-at : (p : ℕ) → false ≡ not (is_not_tasted (granted_by s.topo) t p)
        → HasDone s (record s { queue = queue }) (heads.NewProvider p)
    passed-at p isnt =
        subst (λ (q : Queued). HasDone s (record s { queue = q }) (heads.NewProvider p)) (sym headless_is)
        (passed-done p isnt)

  -- with other room of the mesh all is as before
  module _ (u : TopoView Config) (same : IsButForRoom u s.topo) where
    pub roomed-kept : IsSettled u → Holds (record s { topo = u })
    roomed-kept is_settled =
        holds_after_effects s u s.queue stands.kept
        (subst (λ (v : TopoView Config). SameParts t v.topology) (sym same) (parts-self t))
        (ap (λ (v : TopoView Config). v.active) same) (λ c. ap (λ (v : TopoView Config). granted_by v c) same)
        is_settled.counted is_settled.quiet
        (let owed : owed_events u ≡ owed_events s.topo = ap (λ (v : TopoView Config). owed_events v) same in
        let room : owed_events s.topo ≤ s.queue.spare = stands.kept.room in
        omega (arith, owed, room))

    -- and the world is the same
    pub roomed-world : SameWorld s (record s { topo = u })
    roomed-world actors log = search rules
