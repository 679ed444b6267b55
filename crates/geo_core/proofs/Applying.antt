-- What is answered to a step.
use Rattle.std.specs.Prelude.{◌≡◌, ℕ, ◌+◌, ◌<◌, ◌≤◌, Bool, true, false, ◌&&◌, List, [], ◌∷◌, ◌++◌, length, Option, Some, None, Result, Ok, Err, IsOk, IsErrAnd, IfErr, is_ok, is_none, if◌then◌else◌}
use Rattle.std.proofs.Common.{refl, sym, ◌∙◌, ap, subst, arith}
use Rattle.geo_base.specs.declared.limits.TheConstants.{MAX_LOG_ENTRIES}
use Rattle.geo_model.specs.declared.command.Command.{Command}
use Rattle.geo_model.specs.declared.command.LineCommand.{LineCommand}
use Rattle.geo_model.specs.declared.step.Entry.{Entry}
use Rattle.geo_model.specs.declared.step.Found.{Found}
use Rattle.geo_model.specs.declared.step.Outcome.{Outcome}
use Rattle.geo_model.specs.declared.step.Step.{Step}
use Rattle.geo_model.specs.World.{World}
use Rattle.geo_model.specs.History.{next_command}
use Rattle.geo_model.specs.Step.{Answer, step}
use Rattle.geo_model.specs.Log.{owed, is_full}
use Rattle.geo_moves.proofs.Told.{enabled_by}
use Rattle.geo_moves.specs.Owed.{is_answered_ok, is_close, is_open}
use Rattle.geo_moves.proofs.Owed.{owed_changes}
use Rattle.geo_state.specs.Steps.{against}
use Rattle.geo_moves.specs.declared.decisions.Decision.{Decision}
use Rattle.geo_core.specs.declared.refusal.ApplyRefusal.{ApplyRefusal}
use Rattle.geo_core.specs.declared.running.Running.{Running}
use Rattle.geo_core.specs.declared.twin.Spare.{Spare}
use Rattle.geo_core.specs.Goes.{IsAdmitted, IsOwedAfter, HasRoomFor, PaysOff, IsReady}
use Rattle.geo_core.specs.Mesh.{MeshView, world_of, entry_of, Made, Refuses, Applies, Advances, IsSure}
use Rattle.geo_core.specs.Moves.{IsFound}
use Rattle.geo_core.specs.Running.{seen, IsMesh, world_now}
use Rattle.geo_core.specs.Twins.{HasOutcome, EndsWith}
use Rattle.geo_core.proofs.Meshes.{Reads, seen_firm}
use Rattle.geo_core.proofs.Admits.{found_at, found_some, found_none, full_is, full_not}
use Rattle.geo_log.specs.Room.{Room}
use Rattle.geo_state.specs.declared.state.State.{State}
use Rattle.geo_model.specs.declared.command.Command.TheVariants as commands
use Rattle.geo_model.specs.declared.step.Outcome.TheVariants as outcomes
use Rattle.geo_model.specs.declared.step.Reply.TheVariants as replies
use Rattle.geo_model.specs.declared.step.Step.TheVariants as steps
use Rattle.geo_core.specs.declared.refusal.ApplyRefusal.TheVariants as refusals

-- what an enabled step leads to
pub record Leads (w : World) (seat : ℕ) (st : Step) : Type 0 where
  pub after : World
  pub outcome : Outcome
  pub does : step w seat st ≡ Ok (after, outcome)

leads_by : (w : World) (seat : ℕ) (st : Step) (a : Answer) → step w seat st ≡ a → IsOk a → Leads w seat st
leads_by w seat st (Ok made) e ok = record { after = made.0; outcome = made.1; does = e }
leads_by w seat st (Err found) e ok = absurd (let wrong : ⊥ = cc ok in wrong)

pub leads : (w : World) (seat : ℕ) (st : Step) → IsOk (step w seat st) → Leads w seat st
leads w seat st ok = leads_by w seat st (step w seat st) refl ok

module _ (r : Running) (is : IsMesh r) (seat : ℕ) (st : Step) where
  abbrev w : World
  w = world_of (seen r)

  -- what is found against a step is what its world answers
  pub found_in_world : (f : Option Found)
      → IsFound r.plan.commands r.left r.state seat st f → against (step w seat st) ≡ f
  found_in_world f found =
      subst (λ (v : World). against (step v seat st) ≡ f) is.world
      (found_at r.plan.commands r.left r.state seat st f found r.log.items)

  pub enabled : IsFound r.plan.commands r.left r.state seat st None → IsOk (step w seat st)
  enabled found = found_none (step w seat st) (found_in_world None found)

  pub refused_found : (f : Found)
      → IsFound r.plan.commands r.left r.state seat st (Some f) → step w seat st ≡ Err f
  refused_found f found = found_some (step w seat st) f (found_in_world (Some f) found)

  -- whether there is a place for a step after which so many places are owed

  pub full : (n : ℕ) → IsFound r.plan.commands r.left r.state seat st None → IsOwedAfter w st n
      → MAX_LOG_ENTRIES < length r.log.items + 1 + n → is_full r.log.items w seat st ≡ true
  unfolding is_full
  full n found owes over =
      let to = leads w seat st (enabled found) in
      let same : n ≡ owed to.after = owes seat to.after to.outcome to.does in
      full_is (length r.log.items) (step w seat st) to.after to.outcome to.does (omega (arith, over, same))

  pub placed : (n : ℕ) → IsFound r.plan.commands r.left r.state seat st None → IsOwedAfter w st n
      → length r.log.items + 1 + n ≤ MAX_LOG_ENTRIES → is_full r.log.items w seat st ≡ false
  unfolding is_full
  placed n found owes fits =
      let to = leads w seat st (enabled found) in
      let same : n ≡ owed to.after = owes seat to.after to.outcome to.does in
      full_not (length r.log.items) (step w seat st) to.after to.outcome to.does (omega (arith, fits, same))

  pub roomed : (n spare : ℕ) → IsOwedAfter w st n → n + 1 ≤ spare → HasRoomFor w seat st spare
  roomed n spare owes room after outcome does =
      let same : n ≡ owed after = owes seat after outcome does in omega (arith, room, same)

  -- a step that pays off has its place, and room for it
  pub pays_room : (n : ℕ) → IsOwedAfter w st n → PaysOff w seat st → n + 1 ≤ r.log.spare
  pays_room n owes pays =
      let same : n ≡ owed pays.after = owes seat pays.after pays.outcome pays.does in
      let less = pays.less in
      let room : owed w ≤ r.log.spare = subst (λ (v : World). owed v ≤ r.log.spare) is.world is.room in
      omega (arith, same, less, room)

  pub pays_place : (n : ℕ) → IsOwedAfter w st n → PaysOff w seat st → length r.log.items + 1 + n ≤ MAX_LOG_ENTRIES
  pays_place n owes pays =
      let same : n ≡ owed pays.after = owes seat pays.after pays.outcome pays.does in
      let less = pays.less in
      let fits : length r.log.items + owed w ≤ MAX_LOG_ENTRIES = is.lawful.1 in
      omega (arith, same, less, fits)

  pub pays_found : (f : Found)
      → IsFound r.plan.commands r.left r.state seat st (Some f) → PaysOff w seat st → ⊥
  pays_found f found pays =
      let e = refused_found f found in let does = pays.does in let wrong : ⊥ = cc (e, does) in wrong

-- a step that is never refused pays off

closes_pay : (c : LineCommand) (name : List ℕ) → c.command ≡ commands.Close name
    → (is_answered_ok is_close (Some c) (outcomes.Replied c.line replies.Ok) ≡ true)
    × (is_answered_ok is_open (Some c) (outcomes.Replied c.line replies.Ok) ≡ false)
closes_pay c name e =
    (ap (λ (x : Command). is_close x && true) e, ap (λ (x : Command). is_open x && true) e)

-- one, if it is so
abbrev count : Bool → ℕ
count b = if b then 1 else 0

pub sure_pays : (r : Running) → IsMesh r → (seat : ℕ) (st : Step) → IsSure (world_of (seen r)) seat st
    → PaysOff (world_of (seen r)) seat st
sure_pays r is seat (steps.Deliver b got) sure =
    let v : World = world_of (seen r) in
    let st : Step = steps.Deliver b got in
    let to = leads v seat st sure in
    let changes = owed_changes v seat st to.after to.outcome (seen_firm r is) to.does in
    record { after = to.after; outcome = to.outcome; does = to.does; less = omega (arith, changes) }
sure_pays r is seat (steps.Go actor) closes =
    let v : World = world_of (seen r) in
    let c : LineCommand = closes.command in
    let out : Outcome = outcomes.Replied c.line replies.Ok in
    let st : Step = steps.Go actor in
    let changes = owed_changes v seat st closes.after out (seen_firm r is) closes.is_ok in
    let answered = closes_pay c closes.name closes.is_close in
    let paid : ◌≡◌ {A = ℕ} (if is_answered_ok is_close (next_command v actor) out then 1 else 0) 1 =
    ap (λ (o : Option LineCommand). count (is_answered_ok is_close o out)) closes.is_next
    ∙ ap count answered.0 in
    let begun : ◌≡◌ {A = ℕ} (if is_answered_ok is_open (next_command v actor) out then 1 else 0) 0 =
    ap (λ (o : Option LineCommand). count (is_answered_ok is_open o out)) closes.is_next
    ∙ ap count answered.1 in
    record { after = closes.after; outcome = out; does = closes.is_ok; less = omega (arith, changes, paid, begun) }
sure_pays r is seat st sure = absurd sure

-- the answer, by what came

-- memory is wanting
pub refused_memory : (old : MeshView) (mid : Running) (new : MeshView) (seat : ℕ) (st : Step) (d : Option Decision)
    → IsMesh mid → seen mid ≡ old → IsAdmitted mid seat st d → new ≡ seen mid
    → Refuses refusals.NoMemory old new seat st
refused_memory old mid new seat st d is same admitted stays =
    subst (λ (v : MeshView). Refuses refusals.NoMemory v new seat st) same
    (enabled mid is seat st admitted.found, admitted.place, stays)

-- what a call that was refused so tells of it
pub refused_by : {A : Type 0} (result : Result A ApplyRefusal) (refusal : ApplyRefusal) (old new : MeshView) (seat : ℕ)
    (st : Step)
    → IsErrAnd result (λ x. x ≡ refusal) → Refuses refusal old new seat st
    → IfErr result (λ x. Refuses x old new seat st)
refused_by (Ok a) refusal old new seat st is refuses = tt
refused_by (Err x) refusal old new seat st is refuses =
    subst (λ (y : ApplyRefusal). Refuses y old new seat st) (sym is) refuses

-- what a call that was refused so answers, where it answers an outcome and where it doesn't
pub applies_refusal : (result : Result Outcome ApplyRefusal) (refusal : ApplyRefusal) (old new : MeshView) (seat : ℕ)
    (st : Step)
    → IsErrAnd result (λ x. x ≡ refusal) → Refuses refusal old new seat st → Applies result old new seat st
applies_refusal (Ok o) refusal old new seat st is refuses = absurd is
applies_refusal (Err x) refusal old new seat st is refuses =
    subst (λ (y : ApplyRefusal). Refuses y old new seat st) (sym is) refuses

pub advances_refusal : (result : Result (Unit {0}) ApplyRefusal) (refusal : ApplyRefusal) (old new : MeshView)
    (seat : ℕ) (st : Step)
    → IsErrAnd result (λ x. x ≡ refusal) → Refuses refusal old new seat st → Advances result old new seat st
advances_refusal (Ok done) refusal old new seat st is refuses = absurd is
advances_refusal (Err x) refusal old new seat st is refuses =
    subst (λ (y : ApplyRefusal). Refuses y old new seat st) (sym is) refuses

-- the last entry's outcome is there once more
pub ends_with : (mid new : Running) (seat : ℕ) (st : Step) (o : Outcome) (spare : Spare)
    → Made (seen mid) (seen new) seat st o → HasOutcome (world_of (seen mid)) st spare → EndsWith new.log.items spare
ends_with mid new seat st o spare made has = (
  mid.log.items,
  entry_of seat st o,
  ap (λ (v : MeshView). v.log) made.logged,
  has seat (world_of (seen new)) o made.does,
)

-- so that what is told of the last entry is the outcome
pub last_is : (mid new : Running) (seat : ℕ) (st : Step) (o told : Outcome) → Made (seen mid) (seen new) seat st o
    → ((entries : List Entry) (e : Entry) → new.log.items ≡ entries ++ e ∷ [] → told ≡ e.outcome)
    → Made (seen mid) (seen new) seat st told
last_is mid new seat st o told made tells =
    let same : told ≡ o = tells mid.log.items (entry_of seat st o) (ap (λ (v : MeshView). v.log) made.logged) in
    subst (λ (x : Outcome). Made (seen mid) (seen new) seat st x) (sym same) made

-- What is told of a mesh

-- a step is enabled where nothing is against it
pub enabled_is : {r : Running} {v : MeshView} → Reads r v → (seat : ℕ) (st : Step) (f : Option Found)
    → IsFound r.plan.commands r.left r.state seat st f → is_none f ≡ is_ok (step (world_of v) seat st)
enabled_is {r} {v} it seat st f found =
    enabled_by (step (world_of v) seat st) f
    (subst (λ (m : MeshView). against (step (world_of m) seat st) ≡ f) it.same (found_in_world r it.is seat st f found))

-- A step that is admitted, and one that is refused its place.

-- the same mesh with more room in its log

roomy : (r : Running) → IsMesh r → (spare : ℕ) → r.log.spare ≤ spare
    → IsMesh (record r { log = record { items = r.log.items; spare = spare } })
roomy r is spare more = record {
  plan = is.plan;
  facts = is.facts;
  lawful = is.lawful;
  left = is.left;
  world = is.world;
  holds = is.holds;
  bytes = is.bytes;
  room = let room : owed (world_now r) ≤ r.log.spare = is.room in omega (arith, room, more);
}

module _ (r : Running) (is : IsMesh r) (s : State) (l : Room Entry) (state_is : s ≡ r.state)
    (items_are : l.items ≡ r.log.items) where
  -- with the state and the log that it has
  abbrev pub other : Running
  other = record r { state = s; log = l }

  pub other_mesh : r.log.spare ≤ l.spare → IsMesh other
  other_mesh more =
      subst (λ (t : State). IsMesh (record r { state = t; log = l })) (sym state_is)
      (subst (λ (xs : List Entry). IsMesh (record r { log = record { items = xs; spare = l.spare } })) (sym items_are)
      (roomy r is l.spare more))

  pub other_seen : seen other ≡ seen r
  other_seen =
      ap (λ (xs : List Entry). let v : MeshView = record { plan = r.plan; facts = r.facts.items; log = xs } in v)
      items_are

module _ (r : Running) (is : IsMesh r) (s : State) (l : Room Entry) (state_is : s ≡ r.state)
    (items_are : l.items ≡ r.log.items) (seat : ℕ) (st : Step) (d : Option Decision) (n : ℕ)
    {f : Option Found} (none : f ≡ None) (looked : IsFound r.plan.commands r.left r.state seat st f)
    (ready : IsReady r.plan.commands r.left r.state st d) (owes : IsOwedAfter (world_of (seen r)) st n) where
  abbrev now : Running
  now = record r { state = s; log = l }

  -- nothing was found against the step
  found : IsFound r.plan.commands r.left r.state seat st None
  found = subst (λ (o : Option Found). IsFound r.plan.commands r.left r.state seat st o) none looked

  seen_now : seen now ≡ seen r
  seen_now = other_seen r is s l state_is items_are

  -- the step is admitted where it has its place
  pub other_admitted : (n + 1 ≤ l.spare) × (length r.log.items + 1 + n ≤ MAX_LOG_ENTRIES) → IsAdmitted now seat st d
  other_admitted place = record {
    found = subst (λ (t : State). IsFound r.plan.commands r.left t seat st None) (sym state_is) found;
    ready = subst (λ (t : State). IsReady r.plan.commands r.left t st d) (sym state_is) ready;
    place = subst (λ (v : MeshView). is_full v.log (world_of v) seat st ≡ false) (sym seen_now)
        (placed r is seat st n found owes place.1);
    room = λ after outcome does.
        roomed r is seat st n l.spare owes place.0 after outcome
        (subst (λ (v : MeshView). step (world_of v) seat st ≡ Ok (after, outcome)) seen_now does);
  }

  -- the log is full where it hasn't
  pub other_full : MAX_LOG_ENTRIES < length r.log.items + 1 + n → Refuses refusals.LogFull (seen r) (seen now) seat st
  other_full over = (full r is seat st n found owes over, seen_now)

  -- or memory is wanting
  pub other_wanting : length r.log.items + 1 + n ≤ MAX_LOG_ENTRIES
      → Refuses refusals.NoMemory (seen r) (seen now) seat st
  other_wanting fits = (enabled r is seat st found, placed r is seat st n found owes fits, seen_now)
