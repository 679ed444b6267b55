-- Opens: what is decided before, and what is made and kept.
use Rattle.std.specs.Prelude.{◌≡◌, ◌≢◌, ◌⊎◌, ℕ, Bool, true, false, List, Option, Some, None, Result, Ok, Err, IsSome, is_some, if◌then◌else◌, [], OnOk, OnErr, IfSome, option_map, ◌≤◌}
use Rattle.std.specs.Option.{option_map_or}
use Rattle.std.proofs.Common.{refl, sym, ◌∙◌, ap, subst, inl, inr, arith, rules}
use Rattle.std.proofs.lemmas.Bool.{cases_eq, eq-eqb, ne_eqb}
use Rattle.geo_base.specs.declared.request.Counts.{Counts}
use Rattle.geo_base.specs.declared.errno.Errno.{Errno}
use Rattle.geo_base.specs.declared.errno.Errno.TheVariants.{EEXIST}
use Rattle.geo_model.specs.declared.command.LineCommand.{LineCommand}
use Rattle.geo_model.specs.declared.step.Entry.{Entry}
use Rattle.geo_model.specs.declared.step.Outcome.{Outcome}
use Rattle.geo_model.specs.declared.step.Outcome.TheVariants as outcomes
use Rattle.geo_model.specs.declared.step.Reply.TheVariants as replies
use Rattle.geo_model.specs.Words.{same_name, names_number, unless}
use Rattle.geo_model.specs.Topology.{Topology, Provider, provider_at, find_provider, Consumer}
use Rattle.geo_model.specs.Demand.{risen}
use Rattle.geo_model.specs.Opens.{open_refusal, open_refusal_at, grant_refusal, with_opener}
use Rattle.geo_model.specs.Events.{announce_risen}
use Rattle.geo_model.specs.World.{World, Config, Handle, granted_in, taste_grant, handle_of}
use Rattle.geo_model.specs.WorldEvents.{queued_of, with_queued, after_open}
use Rattle.geo_model.specs.HandleCommands.{with_handle, do_open}
use Rattle.geo_model.proofs.DemandLemmas.{find_passes, names_some}
use Rattle.geo_event.specs.EventQueue.{Queued}
use Rattle.geo_mesh.specs.Topo.{TopoView, IsButForRoom}
use Rattle.geo_mesh.specs.Graph.{IsSoundGraph}
use Rattle.geo_laws_graph.proofs.Members.{find-Contains}
use Rattle.geo_laws_graph.proofs.Numbered.{find-pushed, find-pushed_hit}
use Rattle.geo_laws_graph.proofs.Finding.{found_lives}
use Rattle.geo_handles.specs.Handles.{HandlesView, holding_handle, with_opened, named_handle}
use Rattle.geo_access.specs.Access.{granted_by}
use Rattle.geo_state.specs.declared.state.State.{State}
use Rattle.geo_state.specs.Holds.{Holds}
use Rattle.geo_state.specs.World.{world}
use Rattle.geo_state.specs.Steps.{Stands, SameWorld}
use Rattle.geo_moves.specs.Holders.{grants_with, HasCome, holding_mesh}
use Rattle.geo_moves.specs.Handles.{refusal_in, refused_world, IsOpenRefusal, IsRoomed, HasRoom}
use Rattle.geo_state.proofs.FirmLemmas.{firm-order}
use Rattle.geo_moves.proofs.Stepping.{held}
use Rattle.geo_moves.proofs.Holding.{next_free}
use Rattle.geo_base.proofs.Options.{there_with_fact, at-found, if-with}
use Rattle.geo_base.specs.declared.block.NoMemory.{NoMemory}
use Rattle.geo_model.specs.Graph.{IsInOrder}
use Rattle.geo_slots.specs.Slots.{value_at}
use Rattle.geo_access.specs.GoneLaws.{HasUsedNumber}
use Rattle.geo_state.specs.Trips.{trips, out_through}
use Rattle.geo_laws_graph.proofs.Lists.{found_fresh}
use Rattle.geo_state.proofs.Frames.{under_read}
use Rattle.geo_state.proofs.KeptLemmas.{kept_with_handles}
use Rattle.geo_moves.proofs.Settling.{comer-of, come-settled, roomed-world, roomed-kept}

-- A provider that is opened: what is decided before, and the world after it

-- What an open does, by what refuses it

module _ (w : World) (line actor : ℕ) (name prov : List ℕ) (grant : Counts) where
  -- where something refuses it
  pub refused-open : (e : Errno) → Some e ≡ refusal_in w actor name prov grant
      → do_open w line actor name prov grant
      ≡ (refused_world w actor name prov, outcomes.Replied line (replies.Refused e))
  refused-open e is = search rules

  -- where nothing does: there is no handle of the name, the provider is found, and nothing refuses its counts
  pub record IsFree : Type 0 where
    pub provider : ℕ
    pub found : find_provider w.topology prov ≡ Some provider
    pub name_free : handle_of w actor name ≡ None
    pub allowed : open_refusal_at (granted_in w) w.topology (Some provider) grant ≡ None
    pub answer : do_open w line actor name prov grant
        ≡ (after_open w (with_handle w actor name provider grant), outcomes.Replied line replies.Ok)

  pub free-open : None ≡ refusal_in w actor name prov grant → IsFree
  free-open is = search rules

-- What is decided

module _ (s : State) (actors : List (List LineCommand)) (log : List Entry) (actor : ℕ) (name prov : List ℕ)
    (grant : Counts) where
  abbrev w : World
  w = world actors log s

  -- what refuses its counts
  pub counts-refuse : Holds s → is_some (handle_of w actor name) ≡ false → (p : ℕ)
      → find_provider w.topology prov ≡ Some p
      → grant_refusal (grants_with s.topo grant) (with_opener s.topo.topology p) p
      ≡ refusal_in w actor name prov grant
  counts-refuse kept free p found =
      ap (λ (G : ℕ → Counts). open_refusal_at G s.topo.topology (Some p) grant) kept.grants
      ∙ sym (ap (λ b. if b then Some EEXIST else open_refusal (granted_in w) w.topology prov grant) free
      ∙ ap (λ o. open_refusal_at (granted_in w) w.topology o grant) found)

-- an answer
abbrev Told : Type 0
Told = Result (Unit {0}) Errno

abbrev AreSame : Told → Told → Type 0
AreSame a b = a ≡ b

-- what it says of what refuses
pub refusal-told : (o : Option Errno) (r : Told) (e : Errno) → r ≡ unless o tt → r ≡ Err e → Some e ≡ o
refusal-told None r e is told = let never : AreSame (Ok tt) (Err e) = sym is ∙ told in absurd (cc)
refusal-told (Some f) r e is told = let same : AreSame (Err f) (Err e) = sym is ∙ told in cc

pub none-told : (o : Option Errno) (r : Told) (u : Unit {0}) → r ≡ unless o tt → r ≡ Ok u → None ≡ o
none-told None r u is told = refl
none-told (Some f) r u is told = let never : AreSame (Err f) (Ok u) = sym is ∙ told in absurd (cc)

-- a provider that is found lives
pub found-there : {C : Type 0} (t : Topology C) (name : List ℕ) (p : ℕ) → IsSoundGraph t → find_provider t name ≡ Some p
    → IsSome (provider_at t p)
found-there t name p sound found =
    there_with_fact (λ (x : Provider). same_name x.name name ≡ true) (provider_at t p)
    (found_lives.named t name p sound.orderly.order found)

-- The world after it

-- no handle has the next consumer
pub nobodys-next : (s : State) → Stands s → holding_handle s.handles.handles s.topo.topology.next_consumer ≡ None
nobodys-next s stands =
    search (
      rules,
      names_some,
      find_passes,
      held s stands,
      find-Contains,
      next_free s.topo.topology (firm-order stands.firm.0 s stands.firm.1),
    )

module _ (s : State) (kept : Holds s) where
  module _ (nobodys : holding_handle s.handles.handles s.topo.topology.next_consumer ≡ None) (actor : ℕ)
      (name : List ℕ) (p : ℕ) (grant : Counts)
      (actors : List (List LineCommand)) (log : List Entry) where
    -- the world before, and with the handle
    abbrev was : World
    was = world actors log s

    abbrev now : World
    now = with_handle was actor name p grant

    abbrev next : ℕ
    next = s.topo.topology.next_consumer

    abbrev handle : Handle
    handle = record {
      number = s.handles.next;
      actor = actor;
      name = name;
      consumer = Some next;
      grant = grant;
      dead = false;
    }

    -- the grants are those
    grants-now : (n : ℕ) → grants_with s.topo grant n ≡ granted_in now n
    grants-now n = by (cases_eq n next)
      where
        by : (n ≡ next) ⊎ (n ≢ next) → grants_with s.topo grant n ≡ granted_in now n
        by (inl same) =
            subst (λ m. grants_with s.topo grant m ≡ granted_in now m) (sym same)
            (ap (λ b. if b then grant else granted_by s.topo next) (eq-eqb next next refl)
            ∙ sym (ap (λ o. option_map_or (λ (h : Handle). h.grant) o (taste_grant s.taste next))
            (find-pushed_hit (λ (h : Handle). names_number h.consumer next) s.handles.handles handle nobodys
            (eq-eqb next next refl))))
        by (inr apart) =
            ap (λ b. if b then grant else granted_by s.topo n) (ne_eqb n next apart)
            ∙ ap (λ (G : ℕ → Counts). G n) kept.grants
            ∙ sym (ap (λ o. option_map_or (λ (h : Handle). h.grant) o (taste_grant s.taste n))
            (find-pushed (λ (h : Handle). names_number h.consumer n) s.handles.handles handle
            (ne_eqb next n (λ same. apart (sym same)))))

    grants_are : grants_with s.topo grant ≡ granted_in now
    grants_are = λ i n. grants-now n i

    -- the world after it
    pub opened-world : (u : TopoView Config) (q : Queued) (v : HandlesView) → HasCome s.topo s.queue p grant u q
        → v ≡ record (with_opened s.handles actor name next grant) { room = v.room }
        → record was { topology = u.topology; handles = v.handles; events = q.events; next_handle = v.next }
        ≡ after_open was now
    opened-world u q v come opened =
        ap (λ (x : HandlesView). record was {
          topology = u.topology;
          handles = x.handles;
          events = q.events;
          next_handle = x.next;
        }) opened
        ∙ ap (with_queued now)
        (come.announced
        ∙ (λ i. announce_risen (grants_are i)
        (risen (kept.grants i) s.topo.topology (grants_are i) (with_opener s.topo.topology p)) (queued_of now)))

-- The steps of opens, from what their bodies know

-- A number that is used up

-- other room of the mesh alone
pub mesh-roomed : (s : State) (u : TopoView Config) (q : Queued) → IsButForRoom u s.topo → q ≡ s.queue
    → IsRoomed s (record s { topo = u; queue = q })
mesh-roomed s u q room same = record {
  rest =
      ap (λ (v : TopoView Config). record s { topo = v; queue = q }) room
      ∙ ap (λ (x : Queued). record s {
        topo = record s.topo { room = u.room };
        queue = record s.queue { events = x.events; spare = q.spare };
      }) same;
  spare = let n : s.queue.spare ≡ q.spare = ap (λ (x : Queued). x.spare) (sym same) in omega (arith, n);
}

module _ (s : State) (kept : Holds s) where
  -- nothing is kept of a number that wasn't given out yet
  pub unknown-from : IsInOrder s.topo.topology → (n : ℕ) → s.topo.topology.next_consumer ≤ n
      → value_at s.topo.active n ≡ None
  unknown-from order n past =
      ap (λ rows. value_at rows n) kept.active
      ∙ sym (under_read (λ (c : Consumer). c.number) (λ c. out_through (trips s.traffic.bios) c.number) n
      s.topo.topology.consumers)
      ∙ ap (option_map (λ (c : Consumer). out_through (trips s.traffic.bios) c.number))
      (found_fresh (λ (c : Consumer). c.number) s.topo.topology.next_consumer n s.topo.topology.consumers
      order.consumers past)

  pub next-unknown : IsInOrder s.topo.topology → value_at s.topo.active s.topo.topology.next_consumer ≡ None
  next-unknown order = unknown-from order s.topo.topology.next_consumer (omega arith)

  -- where a number was used up, all is kept
  pub used-kept : (u : TopoView Config) → HasUsedNumber s.topo u → Holds (record s { topo = u })
  used-kept u used = kept_with_handles.refused s u s.queue s.handles kept used refl (omega arith) refl

  -- and so it is with other room of the mesh
  pub room-kept : (u : TopoView Config) → IsButForRoom u s.topo → Holds (record s { topo = u })
  room-kept u room = roomed-kept s (record s { topo = u }) (mesh-roomed s u s.queue room refl) kept

-- An open that nothing refuses

module _ (s : State) (stands : Stands s) (actor : ℕ) (name : List ℕ) (p : ℕ) (grant : Counts) (room : HasRoom s)
    (u : TopoView Config) (q : Queued) (v : HandlesView) (come : HasCome s.topo s.queue p grant u q) (cons : ℕ)
    (number : cons ≡ s.topo.topology.next_consumer)
    (is : v ≡ record (with_opened s.handles actor name cons grant) { room = v.room }) where
  -- by the next number
  opened : v ≡ record (with_opened s.handles actor name s.topo.topology.next_consumer grant) { room = v.room }
  opened = is ∙ ap (λ n. record (with_opened s.handles actor name n grant) { room = v.room }) number

  pub admit-made : (actors : List (List LineCommand)) (log : List Entry)
      → world actors log (record s { topo = u; queue = q; handles = v })
      ≡ after_open (world actors log s) (with_handle (world actors log s) actor name p grant)
  admit-made actors log =
      opened-world s stands.kept (nobodys-next s stands) actor name p grant actors log u q v come opened

  pub admit-kept : Holds (record s { topo = u; queue = q; handles = v })
  admit-kept =
      kept_with_handles.opened stands.firm.0 s (holding_mesh s.topo p grant u.room) u q v p actor name grant stands.kept
      stands.firm.1 (comer-of s.topo s.queue p grant u q come)
      (come-settled s.topo s.queue p grant u q come room.events) opened

-- What is decided, with other room

module _ (old s : State) (roomed : IsRoomed old s) (kept : Holds s) (actor : ℕ) (name prov : List ℕ) (grant : Counts)
    (decided : IsOpenRefusal old actor name prov grant None) where
  -- the open is free
  free : (actors : List (List LineCommand)) (log : List Entry) → IsFree (world actors log s) 0 actor name prov grant
  free actors log =
      free-open (world actors log s) 0 actor name prov grant
      (decided actors log
      ∙ ap (λ (w : World). refusal_in w actor name prov grant) (sym (roomed-world old s roomed actors log)))

  -- its provider is found
  pub free-found : find_provider s.topo.topology prov ≡ None → ⊥
  free-found none =
      let is = free [] [] in
      search rules

  -- the name is free
  pub free-name : named_handle s.handles.handles actor name ≡ None
  free-name = (free [] []).name_free

  -- nothing refuses its counts
  pub free-allowed : (p : ℕ) → find_provider s.topo.topology prov ≡ Some p
      → grant_refusal (grants_with s.topo grant) (with_opener s.topo.topology p) p ≡ None
  free-allowed p found =
      ap (λ (G : ℕ → Counts). open_refusal_at G s.topo.topology (Some p) grant) kept.grants
      ∙ ap (λ o. open_refusal_at (granted_in (world [] [] s)) s.topo.topology o grant) (sym found ∙ (free [] []).found)
      ∙ (free [] []).allowed

-- The answers of an open

module _ (s new : State) (line actor : ℕ) (name prov : List ℕ) (grant : Counts) (o : Outcome)
    (actors : List (List LineCommand))
    (log : List Entry) where
  abbrev before : World
  before = world actors log s

  pub open-refused : (e : Errno) → IsOpenRefusal s actor name prov grant (Some e)
      → world actors log new ≡ refused_world before actor name prov → o ≡ outcomes.Replied line (replies.Refused e)
      → do_open before line actor name prov grant ≡ (world actors log new, o)
  open-refused e decided made is = search (rules, refused-open before line actor name prov grant e (decided actors log))

  pub open-done : IsOpenRefusal s actor name prov grant None
      → IfSome (find_provider s.topo.topology prov) (λ p. world actors log new
      ≡ after_open before (with_handle before actor name p grant))
      → o ≡ outcomes.Replied line replies.Ok
      → do_open before line actor name prov grant ≡ (world actors log new, o)
  open-done decided made is =
      let fine = free-open before line actor name prov grant (decided actors log) in
      let whole = at-found (find_provider s.topo.topology prov)
      (λ p. world actors log new ≡ after_open before (with_handle before actor name p grant)) fine.provider fine.found
      made in
      fine.answer ∙ (λ i. (sym whole i, sym is i))

-- What is made, by how the calls end

-- where no number is found, nothing of the name is there
pub free-of : (s : State) (actor : ℕ) (name : List ℕ) (r : Option ℕ) (b : Bool)
    → r ≡ option_map (λ (h : Handle). h.number) (named_handle s.handles.handles actor name) → b ≡ is_some r → b ≡ false
    → is_some (named_handle s.handles.handles actor name) ≡ false
free-of s actor name r b is told none = search rules

-- an answer without a value
abbrev Ends : Type 0
Ends = Result (Unit {0}) NoMemory

-- all is kept, whether a number was used up or memory was wanting
pub refuse-kept : (s : State) → Holds s → (u : TopoView Config) (r : Ends) → OnOk r (HasUsedNumber s.topo u)
    → OnErr r (IsButForRoom u s.topo) → Holds (record s { topo = u })
refuse-kept s kept u (Ok v) used room = used-kept s kept u used
refuse-kept s kept u (Err e) used room = room-kept s kept u room

-- an open made of the state with other room
pub made-then : (r : Ends) (old s new : State) → IsRoomed old s → (actor : ℕ) (name prov : List ℕ) (grant : Counts)
    (p : ℕ) → find_provider s.topo.topology prov ≡ Some p
    → OnOk r ((actors : List (List LineCommand)) (log : List Entry) → world actors log new
    ≡ after_open (world actors log s) (with_handle (world actors log s) actor name p grant))
    → OnOk r ((actors : List (List LineCommand)) (log : List Entry)
    → IfSome (find_provider old.topo.topology prov) (λ p. world actors log new
    ≡ after_open (world actors log old) (with_handle (world actors log old) actor name p grant)))
made-then (Ok v) old s new roomed actor name prov grant p found made = λ actors log.
    if-with (find_provider old.topo.topology prov) (λ n. world actors log new
    ≡ after_open (world actors log old) (with_handle (world actors log old) actor name n grant)) p
    (ap (λ (x : State). find_provider x.topo.topology prov) (sym roomed.rest) ∙ found)
    (made actors log
    ∙ ap (λ (w : World). after_open w (with_handle w actor name p grant)) (roomed-world old s roomed actors log))
made-then (Err e) old s new roomed actor name prov grant p found made = tt

pub same-then : (r : Ends) (old s new : State) → IsRoomed old s → OnErr r (SameWorld s new)
    → OnErr r (SameWorld old new)
same-then (Ok v) old s new roomed same = same
same-then (Err e) old s new roomed same = λ actors log. same actors log ∙ roomed-world old s roomed actors log
