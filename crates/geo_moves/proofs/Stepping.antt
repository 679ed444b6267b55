-- The steps of closes and reaps: the world once a handle or its consumer is gone, and that all is kept.
use Rattle.std.specs.Prelude.{◌≡◌, ◌≢◌, ℕ, ◌≤◌, ◌==◌, Bool, true, false, not, ◌&&◌, List, [], ◌∷◌, map, filter, find, Option, Some, None, Ok, Err, Contains, IsSome, IsSomeAnd, IfSome, MatchOption, option_map, option_and_then, if◌then◌else◌}
use Rattle.std.specs.Option.{option_map_or}
use Rattle.std.proofs.Common.{refl, sym, ◌∙◌, ap, subst, arith, rules}
use Rattle.std.proofs.lemmas.Bool.{cases_Bool, eq-eqb, ne_eqb}
use Rattle.std.proofs.lemmas.List.Elements.{All-contains}
use Rattle.geo_base.proofs.Options.{at-found, if-with, some_and_of, some-there, some-with}
use Rattle.geo_base.specs.declared.errno.Errno.TheVariants.{EBUSY}
use Rattle.geo_base.specs.declared.request.Counts.{Counts}
use Rattle.geo_model.specs.declared.command.LineCommand.{LineCommand}
use Rattle.geo_model.specs.declared.step.Entry.{Entry}
use Rattle.geo_model.specs.declared.step.Found.TheVariants as refusals
use Rattle.geo_model.specs.declared.step.Outcome.{Outcome}
use Rattle.geo_model.specs.declared.step.Outcome.TheVariants as outcomes
use Rattle.geo_model.specs.declared.step.Reply.TheVariants as replies
use Rattle.geo_model.specs.Words.{names_number}
use Rattle.geo_model.specs.Topology.{Topology, Provider, Consumer, provider_at, consumer_at, remove_consumer}
use Rattle.geo_model.specs.Demand.{no_counts, have, fallen}
use Rattle.geo_model.specs.Opens.{with_grant}
use Rattle.geo_model.specs.Events.{announce_fallen}
use Rattle.geo_model.specs.World.{World, Config, Handle, granted_in, handle_of, is_active, taste_grant}
use Rattle.geo_model.specs.WorldEvents.{queued_of, with_queued, after_close}
use Rattle.geo_model.specs.HandleCommands.{close_handle, without_handle}
use Rattle.geo_model.specs.Freeing.{reap_handle, reap_work, reap}
use Rattle.geo_model.specs.Step.{reap_next}
use Rattle.geo_model.specs.Sound.{HasItsConsumer}
use Rattle.geo_model.proofs.DemandLemmas.{all_weaker, names_some}
use Rattle.geo_event.specs.EventQueue.{Queued}
use Rattle.geo_slots.specs.Slots.{value_at, with_value, without}
use Rattle.geo_mesh.specs.Topo.{TopoView}
use Rattle.geo_laws_graph.proofs.Lists.{find-changed}
use Rattle.geo_laws_graph.proofs.Members.{find-Contains, All-from_contained}
use Rattle.geo_laws_graph.proofs.Numbered.{number_found, unique}
use Rattle.geo_laws_graph.proofs.Spared.{IsSpared, find-spared, IsUntouched, find-untouched}
use Rattle.geo_laws_counts.specs.CountWords.{DemandStays, HoldsGrants}
use Rattle.geo_laws_counts.proofs.Numbers.{number_is_only}
use Rattle.geo_laws_counts.proofs.Openers.{went_quietly}
use Rattle.geo_handles.specs.Handles.{HandlesView, handle_at, named_handle, first_ready, released, closed}
use Rattle.geo_access.specs.Access.{consumers_below, granted_by, place_of, IsPlaced, IsHolder, released_view}
use Rattle.geo_life.specs.Life.{is_out, without_falls}
use Rattle.geo_state.specs.declared.state.State.{State}
use Rattle.geo_state.specs.Holds.{Holds}
use Rattle.geo_state.specs.Steps.{IsFirm, Stands}
use Rattle.geo_state.specs.World.{world}
use Rattle.geo_state.proofs.FirmLemmas.{firm-order}
use Rattle.geo_state.proofs.HolderFacts.{dev-holds}
use Rattle.geo_state.proofs.KeptLemmas.{kept_with_handles}
use Rattle.geo_moves.specs.Holders.{written, HasGone}
use Rattle.geo_moves.specs.Handles.{IsIdle, counts_computed}
use Rattle.geo_moves.proofs.Settling.{IsNext, out-is, idle-stored, next-to-reap, goer-of, gone-settled}

-- no write count comes to zero where all stay
none_falls : {X : Type 0} (test : X → Bool) (xs : List X) → filter (λ x. not (test x) && test x) xs ≡ []
none_falls test [] = refl
none_falls test (x ∷ xs) = search (rules, cases_Bool (test x), none_falls test xs)

module _ (s : State) (stands : Stands s) where
  abbrev kept : Holds s
  kept = stands.kept

  abbrev firm : IsFirm s
  firm = stands.firm

  -- the graph and the handles
  abbrev t : Topology Config
  t = s.topo.topology

  abbrev hs : List Handle
  hs = s.handles.handles

  -- the new state is what a close of the handle, or a reap, leaves
  abbrev Closes : State → Handle → Type 0
  Closes new h =
      (actors : List (List LineCommand)) (log : List Entry)
      → world actors log new ≡ after_close (world actors log s) (without_handle (world actors log s) h)

  abbrev Reaps : State → Handle → Type 0
  Reaps new h =
      (actors : List (List LineCommand)) (log : List Entry) → world actors log new ≡ reap (world actors log s) h

  -- there are places in the queue for all write counts
  pub written-room : written s.topo ≤ s.queue.spare
  written-room = let room = kept.room in omega (arith, room)

  -- no consumer is left unattached
  pub step-placed : IsPlaced t
  step-placed = search rules

  -- A consumer of DEV of a handle

  pub record IsHeld (c : ℕ) : Type 0 where
    pub one : Consumer
    pub found : consumer_at t c ≡ Some one
    pub dev : one.geom ≡ 1
    pub attached : IsSome one.provider

  -- is that of each handle that has one
  pub held : (h : Handle) (c : ℕ) → Contains hs h → h.consumer ≡ Some c → IsHeld c
  held h c here names =
      let its : HasItsConsumer t h = All-contains (HasItsConsumer t) hs h firm.1.1.handles.handles here in
      let d = some_and_of (λ (x : Consumer). x.geom ≡ 1) (consumer_at t c)
      (subst (λ o. MatchOption o (h.dead ≡ true) (λ m. IsSomeAnd (consumer_at t m) (λ x. x.geom ≡ 1))) names its) in
      record {
        one = d.0;
        found = d.1;
        dev = d.2;
        attached = there d.0.provider
            (All-contains (λ (x : Consumer). IsSome (option_and_then (provider_at t) x.provider)) t.consumers d.0
            firm.1.1.graph.attached (find-Contains (λ (x : Consumer). x.number == c) t.consumers d.0 d.1));
      }
    where
      there : (o : Option ℕ) → IsSome (option_and_then (provider_at t) o) → IsSome o
      there None never = never
      there (Some p) lives = refl

  -- it holds grants
  held-holder : (c : ℕ) → IsHeld c → IsHolder t c
  held-holder c is = record {
    kind = some-with (consumer_at t c) (λ (x : Consumer). HoldsGrants t x.geom) is.one is.found
        (subst (HoldsGrants t) (sym is.dev) (dev-holds firm.0 s firm.1));
    attached = some-with (consumer_at t c) (λ (x : Consumer). IsSome x.provider) is.one is.found is.attached;
  }

  -- where none is out through it, none is kept
  held-idle : (c : ℕ) → IsHeld c → is_active (world firm.1.0 firm.0 s) c ≡ false → value_at s.topo.active c ≡ Some 0
  held-idle c is idle = idle-stored s kept firm.1.0 firm.0 c (some-there (consumer_at t c) is.one is.found) idle

  -- The world without it, and with other handles that have no other consumer's grant changed

  module _ (c : ℕ) (is_held : IsHeld c) (ks : List Handle)
      (others : (n : ℕ) → n ≢ c → find (λ h. names_number h.consumer n) ks ≡ find (λ h. names_number h.consumer n) hs)
      (actors : List (List LineCommand)) (log : List Entry) where
    -- the world before, and then
    abbrev w : World
    w = world actors log s

    abbrev after : World
    after = record w { topology = remove_consumer t c; handles = ks }

    -- the grants without its own
    abbrev left : ℕ → Counts
    left = with_grant (granted_by s.topo) c no_counts

    -- its number
    its_number : is_held.one.number ≡ c
    its_number = number_found (λ (x : Consumer). x.number) t.consumers c is_held.one is_held.found

    -- all others have what they had
    agree : (n : ℕ) → n ≢ c → granted_in after n ≡ left n
    agree n apart =
        ap (λ o. option_map_or (λ (h : Handle). h.grant) o (taste_grant s.taste n)) (others n apart)
        ∙ sym (ap (λ (G : ℕ → Counts). G n) kept.grants)
        ∙ sym (ap (λ b. if b then no_counts else granted_by s.topo n) (ne_eqb n c apart))

    -- it has nothing
    nothing_left : left c ≡ no_counts
    nothing_left = ap (λ b. if b then no_counts else granted_by s.topo c) (eq-eqb c c refl)

    -- so it goes without notice
    quiet : DemandStays left t (granted_in after) (remove_consumer t is_held.one.number)
        (Contains (remove_consumer t is_held.one.number).consumers)
    quiet =
        went_quietly left (granted_in after) t is_held.one
        (number_is_only t (firm-order firm.0 s firm.1).consumers.0 is_held.one
        (find-Contains (λ (x : Consumer). x.number == c) t.consumers is_held.one is_held.found))
        (subst (HoldsGrants t) (sym is_held.dev) (dev-holds firm.0 s firm.1))
        (λ n apart. agree n (λ same. apart (same ∙ sym its_number)))
        (ap left its_number ∙ nothing_left)

    -- each provider has what these grants make
    have_same : (q : ℕ) → have left t q ≡ have (granted_in after) (remove_consumer t c) q
    have_same q =
        sym (quiet.haves q) ∙ ap (λ n. have (granted_in after) (remove_consumer t n) q) its_number

    -- where write counts come to zero
    fallen_same : fallen (granted_by s.topo) t left t
        ≡ fallen (granted_in w) t (granted_in after) (remove_consumer t c)
    fallen_same =
        ap (λ (G : ℕ → Counts). fallen G t left t) kept.grants
        ∙ ap (λ (f : ℕ → Counts). map (λ (x : Provider). x.number)
        (filter (λ (x : Provider). not ((have (granted_in w) t x.number).w == 0) && ((f x.number).w == 0)) t.providers))
        (λ i q. have_same q i)

    -- the world after it
    gone-world : (u : TopoView Config) (q : Queued) (v : HandlesView) → HasGone s.topo s.queue c u q → v.handles ≡ ks
        → v.next ≡ s.handles.next → world actors log (record s { topo = u; queue = q; handles = v })
        ≡ after_close w after
    gone-world u q v gone handles next =
        (λ i. record w { topology = u.topology; handles = handles i; events = q.events; next_handle = next i })
        ∙ ap (with_queued after)
        (gone.announced
        ∙ ap (λ ps. announce_fallen ps (record { topology = remove_consumer t c; events = s.queue.events }))
        fallen_same)

  -- The world without a handle

  module _ (h : Handle) (there : handle_at hs h.number ≡ Some h) where
    -- it stands
    closing-here : Contains hs h
    closing-here = find-Contains (λ (x : Handle). x.number == h.number) hs h there

    -- where a test doesn't pass it, what is found is as before
    closed_found : (test : Handle → Bool) → test h ≡ false → find test (closed hs h.number) ≡ find test hs
    closed_found test out =
        find-spared (λ (x : Handle). x.number == h.number) test hs
        (all_weaker (λ (y : Handle). (y.number == h.number) ≡ true → y ≡ h)
        (IsSpared (λ (x : Handle). x.number == h.number) test)
        (λ y same e. ap test (same e) ∙ out) hs
        (unique (λ (x : Handle). x.number) s.handles.next h.number hs h kept.numbers there))

    -- one that has no consumer
    forgotten-world : h.consumer ≡ None → (v : HandlesView) → v.handles ≡ closed hs h.number
        → v.next ≡ s.handles.next → Closes (record s { handles = v }) h
    forgotten-world none v handles next actors log =
        let was : World = world actors log s in
        let now : World = record was { handles = closed hs h.number } in
        let same : world actors log (record s { handles = v }) ≡ now =
        λ i. record was { handles = handles i; next_handle = next i } in
        let grants : granted_in now ≡ granted_in was =
        λ i n. ap (λ o. option_map_or (λ (x : Handle). x.grant) o (taste_grant s.taste n))
        (closed_found (λ (x : Handle). names_number x.consumer n) (ap (λ o. names_number o n) none)) i in
        let nothing : fallen (granted_in was) t (granted_in now) t ≡ [] =
        ap (λ (G : ℕ → Counts). fallen (granted_in was) t G t) grants
        ∙ ap (map (λ (x : Provider). x.number))
        (none_falls (λ (x : Provider). (have (granted_in was) t x.number).w == 0) t.providers) in
        same
        ∙ sym (ap (λ ps. with_queued now (announce_fallen ps (queued_of now))) nothing)
        ∙ ap (λ o. after_close was (record was {
          topology = option_map_or (remove_consumer t) o t;
          handles = closed hs h.number;
        })) (sym none)

    module _ (c : ℕ) (names : h.consumer ≡ Some c) (u : TopoView Config) (q : Queued) (v : HandlesView)
        (gone : HasGone s.topo s.queue c u q) (next : v.next ≡ s.handles.next) where
      -- one whose consumer goes with it
      closed-world : v.handles ≡ closed hs h.number → Closes (record s { topo = u; queue = q; handles = v }) h
      closed-world handles actors log =
          gone-world c (held h c closing-here names) (closed hs h.number)
          (λ n apart.
          closed_found (λ (x : Handle). names_number x.consumer n)
          (ap (λ o. names_number o n) names ∙ ne_eqb c n (λ same. apart (sym same))))
          actors log u q v gone handles next
          ∙ ap (λ o. after_close (world actors log s) (record (world actors log s) {
            topology = option_map_or (remove_consumer t) o t;
            handles = closed hs h.number;
          })) (sym names)

      -- one that is reaped: another consumer's handle isn't touched
      reaped-world : v.handles ≡ released hs c → Reaps (record s { topo = u; queue = q; handles = v }) h
      unfolding reap
      reaped-world handles actors log =
          gone-world c (held h c closing-here names) (released hs c) others_stay actors log u q v gone handles next
          ∙ ap (reap_handle (world actors log s)) (sym names)
        where
          others_stay : (n : ℕ) → n ≢ c
              → find (λ (x : Handle). names_number x.consumer n) (released hs c)
              ≡ find (λ (x : Handle). names_number x.consumer n) hs
          others_stay n apart =
              find-untouched (λ (y : Handle). names_number y.consumer c) (λ (y : Handle). names_number y.consumer n)
              (λ y. record y { consumer = None }) hs
              (All-from_contained
              (IsUntouched (λ (y : Handle). names_number y.consumer c) (λ (y : Handle). names_number y.consumer n)
              (λ y. record y { consumer = None })) hs
              (λ x here e.
              (ap (λ o. names_number o n) (names_some x.consumer c e) ∙ ne_eqb c n (λ same. apart (sym same)), refl)))

  -- A step by which a handle's consumer goes

  module _ (id cons : ℕ) (idle : IsIdle s id cons) where
    -- the handle, and what is known of it
    abbrev its : (h : Handle) × (handle_at hs id ≡ Some h)
        × ((h.consumer ≡ Some cons) × (value_at s.topo.active cons ≡ Some 0))
    its = some_and_of (λ (h : Handle). (h.consumer ≡ Some cons) × (value_at s.topo.active cons ≡ Some 0))
        (handle_at hs id)
        idle

    abbrev h : Handle
    h = its.0

    number : h.number ≡ id
    number = number_found (λ (x : Handle). x.number) hs id h its.1

    there : handle_at hs h.number ≡ Some h
    there = subst (λ n. handle_at hs n ≡ Some h) (sym number) its.1

    -- its consumer
    pub step-holder : IsHolder t cons
    step-holder = held-holder cons (held h cons (closing-here h there) its.2.0)

    -- nothing is out through it
    pub step-idle : value_at s.topo.active cons ≡ Some 0
    step-idle = its.2.1

    -- the handle is still there once it has no consumer
    pub step-there : IsSome (handle_at (released hs cons) id)
    step-there =
        subst (λ o. IsSome o)
        (sym (find-changed (λ (x : Handle). names_number x.consumer cons) (λ x. record x { consumer = None })
        (λ x. x.number == id) (λ x e. refl) hs
        ∙ ap (option_map _) its.1)) refl

    module _ (u : TopoView Config) (q : Queued) (v : HandlesView)
        (gone : HasGone s.topo s.queue cons u q) where
      -- the state then
      abbrev new : State
      new = record s { topo = u; queue = q; handles = v }

      -- a close
      module _ (is : v ≡ record s.handles {
        handles = closed hs id;
        ready = without s.handles.ready id;
        room = v.room;
      }) where
        -- by the number of the handle
        by_number : v ≡ record s.handles {
          handles = closed hs h.number;
          ready = without s.handles.ready h.number;
          room = v.room;
        }
        by_number =
            is ∙ ap (λ n. record s.handles {
              handles = closed hs n;
              ready = without s.handles.ready n;
              room = v.room;
            }) (sym number)

        pub close-made : IfSome (handle_at hs id) (Closes new)
        close-made =
            if-with (handle_at hs id) (Closes new) h its.1
            (closed-world h there cons its.2.0 u q v gone (ap (λ (x : HandlesView). x.next) by_number)
            (ap (λ (x : HandlesView). x.handles) by_number))

        pub close-kept : Holds new
        close-kept =
            kept_with_handles.closed firm.0 s (released_view s.topo cons) (without_falls (released_view s.topo cons)) u
            q v h cons kept firm.1 there its.2.0 its.2.1 (goer-of s.topo s.queue cons u q gone)
            (gone-settled s.topo s.queue cons u q gone kept.room) by_number

      -- a reap: the handle let go of its consumer, and is to be reaped no more
      module _ (mid : HandlesView) (let_go : mid ≡ record s.handles { handles = released hs cons; room = mid.room })
          (set : v ≡ record mid { ready = with_value mid.ready id false }) where
        -- the handles then
        then_so : v ≡ record s.handles {
          handles = released hs cons;
          ready = with_value s.handles.ready id false;
          room = v.room;
        }
        then_so =
            set
            ∙ ap (λ (x : HandlesView). record x { ready = with_value x.ready id false }) let_go
            ∙ ap (λ r. record s.handles {
              handles = released hs cons;
              ready = with_value s.handles.ready id false;
              room = r;
            }) (sym (ap (λ (x : HandlesView). x.room) set))

        pub reap-made : IfSome (handle_at hs id) (Reaps new)
        reap-made =
            if-with (handle_at hs id) (Reaps new) h its.1
            (reaped-world h there cons its.2.0 u q v gone (ap (λ (x : HandlesView). x.next) then_so)
            (ap (λ (x : HandlesView). x.handles) then_so))

        pub reap-kept : Holds new
        reap-kept =
            kept_with_handles.reaped firm.0 s (released_view s.topo cons) (without_falls (released_view s.topo cons)) u
            q v h cons kept firm.1 there its.2.0 its.2.1 (goer-of s.topo s.queue cons u q gone)
            (gone-settled s.topo s.queue cons u q gone kept.room)
            (then_so ∙ ap (λ n. record s.handles {
              handles = released hs cons;
              ready = with_value s.handles.ready n false;
              room = v.room;
            }) (sym number))

  -- A handle without a consumer

  module _ (id : ℕ) (reaped : IsSomeAnd (handle_at hs id) (λ h. h.consumer ≡ None)) (v : HandlesView)
      (is : v ≡ record s.handles {
        handles = closed hs id;
        ready = without s.handles.ready id;
        room = v.room;
      }) where
    -- the handle
    abbrev it : (h : Handle) × (handle_at hs id ≡ Some h) × (h.consumer ≡ None)
    it = some_and_of (λ (h : Handle). h.consumer ≡ None) (handle_at hs id) reaped

    same : it.0.number ≡ id
    same = number_found (λ (x : Handle). x.number) hs id it.0 it.1

    found : handle_at hs it.0.number ≡ Some it.0
    found = subst (λ n. handle_at hs n ≡ Some it.0) (sym same) it.1

    so : v ≡ record s.handles {
      handles = closed hs it.0.number;
      ready = without s.handles.ready it.0.number;
      room = v.room;
    }
    so = is ∙ ap (λ n. record s.handles { handles = closed hs n; ready = without s.handles.ready n; room = v.room })
        (sym same)

    pub forget-made : IfSome (handle_at hs id) (Closes (record s { handles = v }))
    forget-made =
        if-with (handle_at hs id) (Closes (record s { handles = v })) it.0 it.1
        (forgotten-world it.0 found it.2 v (ap (λ (x : HandlesView). x.handles) so)
        (ap (λ (x : HandlesView). x.next) so))

    pub forget-kept : Holds (record s { handles = v })
    forget-kept = kept_with_handles.forgotten firm.0 s v it.0 kept firm.1 found it.2 so

  -- A close, by what is found

  module _ (line actor : ℕ) (name : List ℕ) where
    -- the handle of a number that was found
    pub close-found : (r : Option ℕ) (id : ℕ)
        → r ≡ option_map (λ (x : Handle). x.number) (named_handle hs actor name)
        → option_and_then (handle_at hs) r ≡ named_handle hs actor name → r ≡ Some id
        → (k : Handle) × ((handle_at hs id ≡ Some k) × (handle_at hs id ≡ named_handle hs actor name))
    close-found r id numbered found_so is = search rules

    module _ (id : ℕ) (named : handle_at hs id ≡ named_handle hs actor name) (k : Handle)
        (is_k : handle_at hs id ≡ Some k) where
      -- whether a request is out through its consumer, as it was looked up
      pub close-told : (o : Option ℕ) (b x : Bool)
          → o ≡ option_and_then (λ (h : Handle). h.consumer) (handle_at hs id)
          → b ≡ option_map_or (is_out s.topo) o false → b ≡ x
          → option_map_or (is_out s.topo) k.consumer false ≡ x
      close-told o b x looked asked is_x = search rules

      -- as the world has it
      told : (actors : List (List LineCommand)) (log : List Entry)
          → option_map_or (is_out s.topo) k.consumer false
          ≡ option_map_or (is_active (world actors log s)) k.consumer false
      told actors log = λ i. option_map_or (λ c. out-is s stands actors log c i) k.consumer false

      -- the answer, by whether a request is out
      answer_by : (b : Bool) → option_map_or (is_out s.topo) k.consumer false ≡ b
          → (actors : List (List LineCommand)) (log : List Entry)
          → close_handle (world actors log s) line (handle_of (world actors log s) actor name)
          ≡ (if b
          then (world actors log s, outcomes.Replied line (replies.Refused EBUSY))
          else (
            after_close (world actors log s) (without_handle (world actors log s) k),
            outcomes.Replied line replies.Ok,
          ))
      answer_by b e actors log =
          ap (close_handle (world actors log s) line) (sym named ∙ is_k)
          ∙ ap (λ c. if c
          then (world actors log s, outcomes.Replied line (replies.Refused EBUSY))
          else (
            after_close (world actors log s) (without_handle (world actors log s) k),
            outcomes.Replied line replies.Ok,
          )) (sym (told actors log) ∙ e)

      pub close-busy : option_map_or (is_out s.topo) k.consumer false ≡ true → (o : Outcome)
          → o ≡ outcomes.Replied line (replies.Refused EBUSY) → (actors : List (List LineCommand)) (log : List Entry)
          → close_handle (world actors log s) line (handle_of (world actors log s) actor name)
          ≡ (world actors log s, o)
      close-busy busy o is_o actors log = search (rules, answer_by true busy actors log)

      pub close-done : option_map_or (is_out s.topo) k.consumer false ≡ false → (next : State)
          → IfSome (handle_at hs id) (Closes next) → (o : Outcome) → o ≡ outcomes.Replied line replies.Ok
          → (actors : List (List LineCommand)) (log : List Entry)
          → close_handle (world actors log s) line (handle_of (world actors log s) actor name)
          ≡ (world actors log next, o)
      close-done free next made o is_o actors log =
          answer_by false free actors log
          ∙ (λ i. (sym (at-found (handle_at hs id) (Closes next) k is_k made actors log) i, sym is_o i))

  -- A reap, by what is found

  module _ (n : ℕ) (first : first_ready s.handles.ready ≡ Some n) where
    -- the handle that is reaped next
    next_at : (actors : List (List LineCommand)) (log : List Entry) → IsNext s kept actors log n
    next_at actors log = next-to-reap s kept actors log n first

    abbrev nx : IsNext s kept firm.1.0 firm.0 n
    nx = next-to-reap s kept firm.1.0 firm.0 n first

    -- it has a consumer
    pub next-names : option_and_then (λ (x : Handle). x.consumer) (handle_at hs n) ≡ Some nx.consumer
    next-names = ap (option_and_then (λ (x : Handle). x.consumer)) nx.there ∙ nx.names

    -- through which nothing is out
    pub next-idle : (c : ℕ) → Some c ≡ option_and_then (λ (x : Handle). x.consumer) (handle_at hs n) → IsIdle s n c
    next-idle c has =
        let same : Some nx.consumer ≡ Some c = sym next-names ∙ sym has in
        let is_c : nx.consumer ≡ c = cc in
        let named : nx.handle.consumer ≡ Some c = nx.names ∙ same in
        let idle : is_active (world firm.1.0 firm.0 s) c ≡ false =
        subst (λ m. is_active (world firm.1.0 firm.0 s) m ≡ false) is_c nx.idle in
        let is = held nx.handle c (find-Contains (λ (x : Handle). x.number == n) hs nx.handle nx.there) named in
        some-with (handle_at hs n) (λ (x : Handle). (x.consumer ≡ Some c) × (value_at s.topo.active c ≡ Some 0))
        nx.handle nx.there (named, held-idle c is idle)

    -- what it does
    pub reap-done : (new : State) → IfSome (handle_at hs n) (Reaps new) → (actors : List (List LineCommand))
        (log : List Entry) → reap_next (world actors log s) ≡ Ok (world actors log new, outcomes.Ran)
    unfolding reap_next
    reap-done new made actors log =
        let x : IsNext s kept actors log n = next_at actors log in
        ap (λ o. option_map_or (λ (h : Handle). Ok (reap (world actors log s) h, outcomes.Ran)) o
        (Err refusals.NothingToReap)) x.work
        ∙ ap (λ (w : World). Ok (w, outcomes.Ran))
        (sym (at-found (handle_at hs n) (Reaps new) x.handle x.there made actors log))

    -- the steps that it takes
    pub reap-steps : (c : ℕ) → IsIdle s n c → (actors : List (List LineCommand)) (log : List Entry)
        → counts_computed s (reap_work (world actors log s)) ≡ consumers_below t (place_of t c)
    reap-steps c idle actors log =
        search (
          rules,
          next_at actors log,
          some_and_of (λ (h : Handle). (h.consumer ≡ Some c) × (value_at s.topo.active c ≡ Some 0)) (handle_at hs n)
              idle,
        )

  -- A handle that is forgotten, with its consumer or without: one with a consumer is idle

  pub forget-idle : (id c : ℕ) → IsSomeAnd (handle_at hs id) (λ h. h.consumer ≡ Some c)
      → option_map_or (is_out s.topo) (Some c) false ≡ false → IsIdle s id c
  forget-idle id c there free =
      let k = some_and_of (λ (h : Handle). h.consumer ≡ Some c) (handle_at hs id) there in
      let is = held k.0 c (find-Contains (λ (x : Handle). x.number == id) hs k.0 k.1) k.2 in
      some-with (handle_at hs id) (λ (x : Handle). (x.consumer ≡ Some c) × (value_at s.topo.active c ≡ Some 0)) k.0 k.1
      (k.2, held-idle c is (sym (out-is s stands firm.1.0 firm.0 c) ∙ free))
