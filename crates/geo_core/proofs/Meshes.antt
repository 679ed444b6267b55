-- A mesh is firm, and with one more entry it is a mesh again.
use Rattle.std.specs.Prelude.{◌≡◌, ℕ, ◌+◌, ◌-◌, ◌≤◌, false, List, [], ◌∷◌, ◌++◌, length, Ok, All}
use Rattle.std.proofs.Common.{refl, sym, ◌∙◌, ap, subst, arith}
use Rattle.std.specs.List.{enumerate_from}
use Rattle.std.proofs.lemmas.List.{length-append, length-map}
use Rattle.std.proofs.lemmas.List.FromFn.{length-enumerate_from}
use Rattle.geo_model.specs.declared.command.LineCommand.{LineCommand}
use Rattle.geo_model.specs.declared.step.Entry.{Entry}
use Rattle.geo_model.specs.declared.step.Outcome.{Outcome}
use Rattle.geo_model.specs.declared.step.Step.{Step}
use Rattle.geo_model.specs.World.{World, Bio, is_busy}
use Rattle.geo_model.specs.Fitting.{Firm}
use Rattle.geo_model.specs.Plans.{IsCommand}
use Rattle.geo_model.specs.Step.{Answer, step}
use Rattle.geo_model.specs.Log.{replay, world_after, owed, is_full, IsMade}
use Rattle.geo_model.proofs.LogLemmas.{replay-append}
use Rattle.geo_laws_requests.proofs.Legal.{firm_after}
use Rattle.geo_laws_texts.specs.Naming.{HaveNames}
use Rattle.geo_laws_texts.proofs.Logs.{legal_logs_have_names}
use Rattle.geo_moves.proofs.Owed.{logs_stay_lawful}
use Rattle.geo_laws_requests.proofs.Complete.{legal_logs_complete_requests}
use Rattle.geo_log.specs.Places.{delivered_at}
use Rattle.geo_state.specs.ShownLaws.{LoggedStay}
use Rattle.geo_state.proofs.ShownLemmas.{shown_are_found}
use Rattle.geo_state.proofs.LoggedLemmas.{grown_log_shows_the_same, places_stay_logged}
use Rattle.geo_state.specs.declared.state.State.{State}
use Rattle.geo_state.specs.Holds.{Holds}
use Rattle.geo_state.specs.Steps.{Makes, SameWorld, Stands}
use Rattle.geo_state.specs.World.{world, HasBytes}
use Rattle.geo_core.specs.declared.running.Running.{Running}
use Rattle.geo_moves.specs.Decisions.{places_owed}
use Rattle.geo_core.specs.Goes.{HasRoomFor}
use Rattle.geo_core.specs.Left.{left_at, left_of, AreNext}
use Rattle.geo_core.specs.Mesh.{MeshView, opened, world_of, entry_of, IsHistory, Made}
use Rattle.geo_core.specs.Moves.{Moves}
use Rattle.geo_core.specs.Running.{seen, world_now, IsMesh}

-- the world of a mesh's log is firm
pub seen_firm : (r : Running) → IsMesh r → Firm (world_of (seen r))
seen_firm r is = firm_after r.plan r.facts.items is.plan.begins is.facts r.log.items

-- and so is the world for which the mesh stands
pub mesh_firm : (r : Running) → IsMesh r → Firm (world_now r)
mesh_firm r is = subst Firm (sym is.world) (seen_firm r is)

-- so its state, which keeps what it has to keep, stands for a firm world
pub mesh_stands : (r : Running) → IsMesh r → Stands r.state
mesh_stands r is = record {
  kept = is.holds;
  firm = (r.log.items, (left_of r.plan.commands r.left, mesh_firm r is));
}

-- its providers have names
pub mesh_names : (r : Running) → IsMesh r → HaveNames r.state.topo.topology
mesh_names r is =
    subst (λ (w : World). HaveNames w.topology) (sym is.world)
    (legal_logs_have_names r.plan r.facts.items is.plan.begins is.facts r.log.items is.lawful.0)

-- the commands that are left are commands
pub mesh_commands : (r : Running) → IsMesh r
    → All (All (λ (c : LineCommand). IsCommand c.command)) (left_of r.plan.commands r.left)
mesh_commands r is = (mesh_firm r is).commands

-- the mesh keeps what a history does
pub mesh_history : (r : Running) → IsMesh r → IsHistory (seen r)
mesh_history r is = record {
  plan = is.plan;
  facts = is.facts;
  lawful = is.lawful;
  keeps = legal_logs_complete_requests.all r.plan r.facts.items is.plan.begins is.facts r.log.items is.lawful.0;
}

-- so does one that is kept elsewhere
pub kept_history : {r : Running} {v : MeshView} → seen r ≡ v → IsMesh r → IsHistory v
kept_history {r} view is = subst IsHistory view (mesh_history r is)

-- a mesh that is read, and what is seen of it
pub record Reads (r : Running) (v : MeshView) : Type 0 where
  pub is : IsMesh r
  pub same : seen r ≡ v

-- as it was read where it is kept
pub reads : {r kept : Running} {v : MeshView} → r ≡ kept → seen kept ≡ v → IsMesh kept → Reads r v
reads is view mesh = record { is = subst IsMesh (sym is) mesh; same = ap seen is ∙ view }

-- there are as many actors as the plan names
pub mesh_actors : {r : Running} {v : MeshView} → Reads r v → length r.plan.actors ≡ length (world_of v).actors
mesh_actors {r} {v} it =
    sym it.is.left.each ∙ sym (length-enumerate_from 0 r.left)
    ∙ sym (length-map (enumerate_from 0 r.left) (left_at r.plan.commands))
    ∙ ap (λ (w : World). length w.actors) (it.is.world ∙ ap (λ (m : MeshView). world_of m) it.same)

-- what is owed is what the state tells
pub owed_shown : (actors : List (List LineCommand)) (log : List Entry) (s : State)
    → owed (world actors log s) ≡ places_owed s
owed_shown actors log s =
    ap (λ n. length s.handles.handles + n) ((shown_are_found (delivered_at log) s.traffic.bios).count is_busy)

-- a log with more entries shows the same world
pub longer_world : (actors : List (List LineCommand)) (log more : List Entry) (s : State) → HasBytes log s
    → world actors (log ++ more) s ≡ world actors log s
longer_world actors log more s bytes =
    ap (λ (bios : List Bio). let w : World = world actors log s in record w { bios = bios })
    (grown_log_shows_the_same log more s.traffic.bios bytes)

-- and has the bytes
pub longer_bytes : (log : List Entry) (e : Entry) (s : State) → HasBytes log s → HasBytes (log ++ e ∷ []) s
longer_bytes log e s bytes =
    let stay : LoggedStay (length log) s.traffic.bios = places_stay_logged (length log) s.traffic.bios bytes in
    let long : length (log ++ e ∷ []) ≡ length log + 1 = length-append log (e ∷ []) in
    stay.more (length (log ++ e ∷ [])) (omega (arith, long))

-- a step that leads to a world leads to it also where the log has one more entry
pub turned : (f : World → Answer) (log : List Entry) (old new : State) (o : Outcome) → Makes f log old new o
    → HasBytes log new → (actors : List (List LineCommand)) (e : Entry)
    → f (world actors log old) ≡ Ok (world actors (log ++ e ∷ []) new, o)
turned f log old new o makes bytes actors e =
    let result : World → Answer = λ w. Ok (w, o) in
    makes actors ∙ ap result (sym (longer_world actors log (e ∷ []) new bytes))

-- a mesh with one more entry

module _ (r : Running) (left : List ℕ) (s : State) (seat : ℕ) (st : Step) (o : Outcome) (is : IsMesh r)
    (place : is_full r.log.items (world_of (seen r)) seat st ≡ false)
    (room : HasRoomFor (world_of (seen r)) seat st r.log.spare) (next : AreNext r.plan left) (holds : Holds s)
    (bytes : (e : Entry) → HasBytes (r.log.items ++ e ∷ []) s)
    (moves : Moves r.plan.commands r.log.items r.left left r.state s seat st o) where
  -- the entry
  abbrev entry : Entry
  entry = entry_of seat st o

  abbrev longer : List Entry
  longer = r.log.items ++ entry ∷ []

  -- the mesh with it
  abbrev pub with_one : Running
  with_one = record r { left = left; state = s; log = record { items = longer; spare = r.log.spare - 1 } }

  -- the step leads to its world
  does : step (world_of (seen r)) seat st ≡ Ok (world_now with_one, o)
  does = let led = moves entry refl in subst (λ (w : World). step w seat st ≡ Ok (world_now with_one, o)) is.world led

  -- to which its log leads
  replayed : replay (opened (seen r)) longer ≡ world_now with_one
  replayed =
      replay-append (opened (seen r)) r.log.items (entry ∷ []) ∙ ap (world_after (world_of (seen r))) does

  made : IsMade (world_of (seen r)) entry
  made = rw does refl

  -- the last entry leaves room for what is owed
  left_room : owed (world_now with_one) ≤ r.log.spare - 1
  left_room = let all = room (world_now with_one) o does in omega (arith, all)

  -- there is room for the entry
  pub one_place : 1 ≤ r.log.spare
  one_place = let all = room (world_now with_one) o does in omega (arith, all)

  pub more_mesh : IsMesh with_one
  more_mesh = record {
    plan = is.plan;
    facts = is.facts;
    lawful = logs_stay_lawful (opened (seen r)) r.log.items entry is.lawful made place;
    left = next;
    world = sym replayed;
    holds = holds;
    bytes = bytes entry;
    room = left_room;
  }

  pub more_made : Made (seen r) (seen with_one) seat st o
  more_made = record {
    does = subst (λ (w : World). step (world_of (seen r)) seat st ≡ Ok (w, o)) (sym replayed) does;
    had_place = place;
    logged = refl;
  }

-- the mesh after a step for which memory was wanting
pub same_mesh : (r : Running) (s : State) → IsMesh r → Holds s → SameWorld r.state s → HasBytes r.log.items s
    → IsMesh (record r { state = s })
same_mesh r s is holds same bytes =
    let e : world_now (record r { state = s }) ≡ world_now r = same (left_of r.plan.commands r.left) r.log.items in
    record {
      plan = is.plan;
      facts = is.facts;
      lawful = is.lawful;
      left = is.left;
      world = e ∙ is.world;
      holds = holds;
      bytes = bytes;
      room = subst (λ (w : World). owed w ≤ r.log.spare) (sym e) is.room;
    }
