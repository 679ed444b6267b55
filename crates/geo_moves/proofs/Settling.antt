-- What is kept beside the parts: requests out, and the handle that is reaped next; and what is kept after a consumer
-- came or went, and with other room.
use Rattle.std.specs.Prelude.{◌≡◌, ℕ, ◌==◌, Bool, true, false, not, ◌&&◌, List, Option, Some, None, Ok, Err, IsSome, option_map, ◌*◌, ◌≤◌, length, count_by}
use Rattle.std.specs.List.{list_any}
use Rattle.std.specs.Option.{option_map_or}
use Rattle.std.proofs.Common.{refl, sym, ◌∙◌, ap, subst, rules}
use Rattle.std.proofs.Math.Bool.{not-not}
use Rattle.std.proofs.lemmas.Bool.{and_parts, eqb-true}
use Rattle.std.proofs.lemmas.List.Sums.{length-filter, count_by-le-length}
use Rattle.geo_base.proofs.Options.{none-mapped}
use Rattle.geo_base.proofs.FindLists.{any-map, any-kept_some}
use Rattle.geo_model.specs.declared.command.LineCommand.{LineCommand}
use Rattle.geo_model.specs.declared.step.Entry.{Entry}
use Rattle.geo_model.specs.declared.step.Found.{Found}
use Rattle.geo_model.specs.declared.step.Found.TheVariants as refusals
use Rattle.geo_model.specs.declared.step.Outcome.TheVariants as outcomes
use Rattle.geo_model.specs.Topology.{consumer_at, Topology, Provider}
use Rattle.geo_model.specs.World.{BioOf, Handle, World, Bio, is_active, is_done, Config}
use Rattle.geo_model.specs.Freeing.{is_to_reap, reap_work, reap}
use Rattle.geo_model.specs.Step.{reap_next}
use Rattle.geo_model.proofs.DemandLemmas.{find_passes}
use Rattle.geo_bio.specs.declared.bio.Held.{Held}
use Rattle.geo_log.specs.Places.{delivered_at}
use Rattle.geo_state.specs.Shown.{shown_bio, shown_bios}
use Rattle.geo_slots.specs.Slots.{value_at}
use Rattle.geo_laws_graph.proofs.Lists.{found_itself}
use Rattle.geo_laws_graph.proofs.Members.{find-Contains}
use Rattle.geo_handles.specs.Handles.{handle_at, first_ready}
use Rattle.geo_handles.specs.HandleLaws.{noted_handles}
use Rattle.geo_handles.proofs.HandleLawLemmas.{handles_are_of_world}
use Rattle.geo_life.specs.Life.{is_out, without_falls}
use Rattle.geo_access.proofs.Decided.{item_at}
use Rattle.geo_state.specs.declared.state.State.{State}
use Rattle.geo_state.specs.Trips.{trip_of, trips, out_through, can_be_reaped, is_out as goes_through}
use Rattle.geo_state.specs.Holds.{Holds, owed_events}
use Rattle.geo_state.specs.World.{world, StandsFirm}
use Rattle.geo_state.specs.Steps.{against, SameWorld, Stands}
use Rattle.std.proofs.lemmas.List.{length-map}
use Rattle.geo_base.specs.declared.request.Counts.{Counts}
use Rattle.geo_model.specs.Demand.{have, risen}
use Rattle.geo_model.specs.Opens.{with_opener}
use Rattle.geo_model.specs.Events.{QueuedTopology}
use Rattle.geo_model.specs.Fitting.{Firm}
use Rattle.geo_event.specs.EventQueue.{Queued}
use Rattle.geo_mesh.specs.Topo.{TopoView}
use Rattle.geo_access.specs.Access.{granted_by, released_view}
use Rattle.geo_state.specs.Parts.{SameParts}
use Rattle.geo_state.specs.Changes.{IsSettled, HasComer, HasGoer}
use Rattle.geo_state.proofs.Frames.{parts-self, parts-count, parts-risen}
use Rattle.geo_moves.specs.Holders.{grants_with, holding_mesh, HasGone, HasCome}
use Rattle.geo_moves.specs.Handles.{IsRoomed}
use Rattle.geo_state.proofs.ViewLemmas.{states_show}

-- Requests out, and the handle that is reaped next, by what is kept beside the parts

-- whether a request is out through a consumer in the world
pub active-is : (log : List Entry) (bios : List (BioOf Held)) (c : ℕ)
    → list_any (λ (x : Bio). (x.source == c) && not (is_done x.phase)) (shown_bios (delivered_at log) bios)
    ≡ not (out_through (trips bios) c == 0)
active-is log bios c =
    any-map (λ (x : Bio). (x.source == c) && not (is_done x.phase)) (shown_bio (delivered_at log)) bios
    ∙ sym (any-map (goes_through c) (trip_of {R = Held}) bios)
    ∙ any-kept_some (goes_through c) (trips bios)
    ∙ ap (λ n. not (n == 0)) (length-filter (goes_through c) (trips bios))

-- requests that are out through a consumer are those of the world
pub out-is : (s : State) → Stands s → (actors : List (List LineCommand)) (log : List Entry) (c : ℕ)
    → is_out s.topo c ≡ is_active (world actors log s) c
out-is s stands actors log c =
    (states_show stands.firm.0 s stands.firm.1.0 stands.kept stands.firm.1.1).active c
    ∙ active-is stands.firm.0 s.traffic.bios c
    ∙ sym (active-is log s.traffic.bios c)

module _ (s : State) (kept : Holds s) where
  -- as many are kept as go through a consumer
  pub stored-out : (c : ℕ) → IsSome (consumer_at s.topo.topology c)
      → value_at s.topo.active c ≡ Some (out_through (trips s.traffic.bios) c)
  stored-out c lives = on (consumer_at s.topo.topology c) refl lives
    where
      on : (o : Option _) → consumer_at s.topo.topology c ≡ o → IsSome o
          → value_at s.topo.active c ≡ Some (out_through (trips s.traffic.bios) c)
      on None none never = let no : false ≡ true = never in absurd (cc)
      on (Some x) is there =
          ap (λ rows. value_at rows c) kept.active
          ∙ item_at (λ y. y.number) (λ y. out_through (trips s.traffic.bios) y.number) c s.topo.topology.consumers x is
          ∙ ap (λ n. Some (out_through (trips s.traffic.bios) n))
          (eqb-true x.number c (find_passes (λ y. y.number == c) s.topo.topology.consumers x is))

  module _ (actors : List (List LineCommand)) (log : List Entry) where
    -- the world
    abbrev w : World
    w = world actors log s

    -- where nothing is out, none is kept
    pub idle-stored : (c : ℕ) → IsSome (consumer_at s.topo.topology c) → is_active w c ≡ false
        → value_at s.topo.active c ≡ Some 0
    idle-stored c lives idle =
        stored-out c lives
        ∙ ap (λ n. Some n)
        (eqb-true (out_through (trips s.traffic.bios) c) 0
        (sym (not-not (out_through (trips s.traffic.bios) c == 0))
        ∙ ap not (sym (active-is log s.traffic.bios c) ∙ idle)))

    -- the handles that can be reaped are those of the world
    to_reap : (h : Handle) → is_to_reap w h ≡ can_be_reaped (trips s.traffic.bios) h
    to_reap h = search (rules, active-is log s.traffic.bios, not-not)

    -- the first that is noted is the one that is reaped next
    pub first-to-reap : first_ready s.handles.ready ≡ option_map (λ h. h.number) (reap_work w)
    first-to-reap =
        (handles_are_of_world w).first s.handles.ready
        (kept.ready
        ∙ ap (λ (test : Handle → Bool). noted_handles test s.handles.handles) (λ i h. sym (to_reap h) i))

    -- what is found against a reap
    abbrev found_of : Option Handle → Option Found
    found_of None = Some refusals.NothingToReap
    found_of (Some h) = None

    pub reap-found : against (reap_next w) ≡ found_of (reap_work w)
    unfolding reap_next
    reap-found = on (reap_work w)
      where
        on : (o : Option Handle)
            → against (option_map_or (λ h. Ok (reap w h, outcomes.Ran)) o (Err refusals.NothingToReap)) ≡ found_of o
        on None = refl
        on (Some h) = refl

    -- where nothing is noted there is nothing to reap
    pub none-to-reap : first_ready s.handles.ready ≡ None → against (reap_next w) ≡ Some refusals.NothingToReap
    none-to-reap none =
        reap-found
        ∙ ap found_of (none-mapped (λ (h : Handle). h.number) (reap_work w) (sym first-to-reap ∙ none))

    -- where one is noted nothing is against a reap
    pub some-to-reap : (r : Option ℕ) (n : ℕ) → r ≡ first_ready s.handles.ready → r ≡ Some n
        → against (reap_next w) ≡ None
    some-to-reap r n is some = reap-found ∙ ap found_of (by (reap_work w) refl (sym first-to-reap ∙ sym is ∙ some)).1
      where
        by : (o : Option Handle) → reap_work w ≡ o → option_map (λ (h : Handle). h.number) o ≡ Some n
            → (h : Handle) × (reap_work w ≡ Some h)
        by None e never = absurd (cc)
        by (Some h) e same = (h, e)

    -- the handle that is reaped next, its consumer, and that it is dead and idle
    pub record IsNext (n : ℕ) : Type 0 where
      pub handle : Handle
      pub work : reap_work w ≡ Some handle
      pub number : handle.number ≡ n
      pub there : handle_at s.handles.handles n ≡ Some handle
      pub consumer : ℕ
      pub names : handle.consumer ≡ Some consumer
      pub idle : is_active w consumer ≡ false

    -- where one is noted it is that
    pub next-to-reap : (n : ℕ) → first_ready s.handles.ready ≡ Some n → IsNext n
    next-to-reap n first = by (reap_work w) refl (sym first-to-reap ∙ first)
      where
        -- its consumer
        has : (h : Handle) (o : Option ℕ) → h.consumer ≡ o → reap_work w ≡ Some h → h.number ≡ n
            → option_map_or (λ c. not (is_active w c)) o false ≡ true → IsNext n
        has h None is work number never = absurd (cc)
        has h (Some c) is work number idle =
            search (
              rules,
              Some h,
              found_itself (λ (x : Handle). x.number) s.handles.next s.handles.handles h kept.numbers
                  (find-Contains (is_to_reap w) s.handles.handles h work),
              not-not (is_active w c),
              ap not idle,
            )

        by : (o : Option Handle) → reap_work w ≡ o → option_map (λ (h : Handle). h.number) o ≡ Some n → IsNext n
        by None work never = absurd (cc)
        by (Some h) work number =
            let passes : is_to_reap w h ≡ true = find_passes (is_to_reap w) s.handles.handles h work in
            let parts = and_parts h.dead (option_map_or (λ c. not (is_active w c)) h.consumer false) passes in
            let same : h.number ≡ n = cc in
            has h h.consumer refl work same parts.1

-- What is kept beside the parts, after a consumer went or came, and with other room

-- how many providers carry no error
abbrev good : Topology Config → ℕ
good t = count_by (λ (p : Provider). not p.errored) t.providers

-- A consumer that went

module _ (t : TopoView Config) (q : Queued) (c : ℕ) (u : TopoView Config) (queue : Queued)
    (gone : HasGone t q c u queue) where
  -- it was released, effects followed, and then it went
  pub goer-of : HasGoer t c (released_view t c) (without_falls (released_view t c)) u
  goer-of = record {
    released = refl;
    followed = record { parts = parts-self t.topology; active = refl; granted = λ n. refl };
    goes = gone.mesh;
    granted = gone.granted;
  }

  -- the queue has the places that are owed
  pub gone-settled : owed_events t ≤ q.spare → IsSettled u queue
  gone-settled enough = search rules

-- A consumer that came

module _ (t : TopoView Config) (q : Queued) (p : ℕ) (add : Counts) (u : TopoView Config) (queue : Queued)
    (come : HasCome t q p add u queue) where
  -- the mesh once it holds its grant
  abbrev holding : TopoView Config
  holding = holding_mesh t p add u.room

  -- the parts are the same after the effects
  parts : SameParts holding.topology u.topology
  parts =
      subst (λ (r : QueuedTopology Config). SameParts (with_opener t.topology p) r.topology) (sym come.announced)
      (parts-risen (grants_with t add)
      (risen (granted_by t) t.topology (grants_with t add) (with_opener t.topology p))
      (record { topology = with_opener t.topology p; events = q.events }))

  -- it came, was granted its counts, and effects followed
  pub comer-of : HasComer t p add holding u
  comer-of = search (rules, parts, ap (λ (v : TopoView Config). v.active) come.mesh)

  -- the queue has the places that are owed
  pub come-settled : 3 * length t.topology.providers ≤ q.spare → IsSettled u queue
  come-settled enough =
      search (
        rules,
        parts-count holding.topology u.topology parts,
        count_by-le-length (λ (x : Provider). not x.errored) u.topology.providers,
        count_by-le-length (λ (row : ℕ × Counts). not (row.1.w == 0)) u.haves,
        ap (λ (xs : List (ℕ × Counts)). length xs) come.counted.haves,
        length-map u.topology.providers
            (λ (x : Provider). let row : ℕ × Counts = (x.number, have (granted_by u) u.topology x.number) in row),
      )

-- Other room

module _ (s new : State) (roomed : IsRoomed s new) where
  -- it stands for the same world
  pub roomed-world : SameWorld s new
  roomed-world actors log = ap (world actors log) roomed.rest

  -- which is as firm as it was
  pub roomed-firm : (log : List Entry) → StandsFirm log s → StandsFirm log new
  roomed-firm log stands = (stands.0, subst Firm (sym (roomed-world stands.0 log)) stands.1)

  -- and all is kept
  pub roomed-kept : Holds s → Holds new
  roomed-kept h =
      subst Holds (sym roomed.rest)
      (search rules)
