-- Why the jobs of a run ended: one found the log full, or each tried its steps in vain.
use Rattle.std.specs.Prelude.{◌≡◌, ◌≢◌, ℕ, ◌+◌, ◌-◌, ◌≤◌, List, [], ◌++◌, length, All, Contains, ◌⊎◌, zero, suc, ◌<◌, ◌==◌, ◌∷◌, map, Option, Some, None, Err, IsOkAnd, IsSomeAnd, option_and_then, slice_get}
use Rattle.std.specs.List.{range_with_len}
use Rattle.std.proofs.Common.{arith, subst, sym, ap, inl, inr, refl, ◌∙◌, rules}
use Rattle.std.proofs.lemmas.List.Elements.{All-contains, All-from_recursion, Contains-append_left, All-append, Contains-append_right, filter-append}
use Rattle.std.proofs.lemmas.Bool.{cases_lt, eq-eqb}
use Rattle.std.proofs.lemmas.List.{append-nil, append_assoc, append_cancel_left}
use Rattle.std.proofs.lemmas.List.FromFn.{length-map-range_with_len}
use Rattle.std.proofs.lemmas.Option.{slice_get_past}
use mathlib.Core.List.{IsPrefix}
use Rattle.geo_base.specs.declared.limits.TheConstants.{MAX_LOG_ENTRIES}
use Rattle.geo_model.specs.declared.step.Entry.{Entry}
use Rattle.geo_model.specs.World.{Plan, World, commands_of}
use Rattle.geo_model.specs.Fitting.{Firm}
use Rattle.geo_model.specs.Log.{owed, replay, IsMade, Legal}
use Rattle.geo_model.specs.Opening.{opening}
use Rattle.geo_model.specs.Plans.{FactsFit, MayBegin}
use Rattle.geo_laws_graph.proofs.Members.{All-from_contained, Contains-filter, Contains-map, Contains-there, nothing_in}
use Rattle.geo_laws_owed.proofs.Full.{full_logs_are_long, owed_never_falls}
use Rattle.geo_laws_disks.proofs.Legal.{firm_after}
use Rattle.geo_jobs.specs.Passes.{MeshPass, opened_by}
use Rattle.geo_jobs.specs.Ended.{WasFull, DidAs, EndedAs, HasEnded, HaveEnded, TriedEach, TriedLast}
use Rattle.geo_jobs.specs.Left.{FoundFullByJob}
use Rattle.geo_disk.specs.declared.drive.Drive.{Drive}
use Rattle.geo_model.specs.declared.command.LineCommand.{LineCommand}
use Rattle.geo_model.specs.declared.step.Found.{Found}
use Rattle.geo_model.specs.declared.step.Outcome.{Outcome}
use Rattle.geo_model.specs.declared.step.Step.{Step}
use Rattle.geo_model.specs.FixedOrder.{ClientStopped, EndedIdle, HasFinished, IsOfItsJob, IsWait, JobsEndedIdle, WasIdle, event_seat}
use Rattle.geo_model.specs.History.{first_command, next_command}
use Rattle.geo_model.specs.Passes.{entries_of_seat}
use Rattle.geo_model.specs.Step.{Answer, go, go_of, step}
use Rattle.geo_model.proofs.LogLemmas.{Legal-back, replay-append}
use Rattle.geo_serve.specs.Drives.{DriveView}
use Rattle.geo_laws_rest.proofs.CommandsLeft.{others_leave_commands}
use Rattle.geo_lock.specs.Pass.{IsGoodIn}
use Rattle.geo_lock.proofs.Prefixes.{prefix_self, prefix_trans}
use Rattle.geo_core.proofs.Openings.{opening_actors}
use Rattle.geo_jobs.specs.declared.turn.Turn.{Turn}
use Rattle.geo_jobs.specs.declared.job.Role.{Role}
use Rattle.geo_jobs.specs.declared.run.Worker.{Worker}
use Rattle.geo_jobs.specs.Clients.{IsWaiting}
use Rattle.geo_jobs.specs.Kinds.{event_steps}
use Rattle.geo_jobs.specs.Closing.{passes_of}
use Rattle.geo_jobs.specs.Started.{MeshYard}
use Rattle.geo_jobs.proofs.RunEnding.{IsMine, mine_at}
use Rattle.geo_model.specs.declared.step.Found.TheVariants as founds
use Rattle.geo_model.specs.declared.step.Step.TheVariants as steps
use Rattle.geo_jobs.specs.declared.turn.Turn.TheVariants as turns
use Rattle.geo_jobs.specs.declared.job.Role.TheVariants as roles

pub found_full : (plan : Plan) (facts : List (ℕ × ℕ)) → MayBegin plan → FactsFit plan facts → (log : List Entry)
    → All (λ (e : Entry). e.seat ≢ 0) log → (q : MeshPass) → IsPrefix q.seen log
    → WasFull (opening plan facts) plan q → FoundFullByJob plan (opening plan facts) log
found_full plan facts is fit log jobs q begins full =
    let w = opening plan facts in
    let whole : log ≡ q.seen ++ begins.0 = sym begins.1 in
    let firm : Firm (replay w q.seen) = firm_after plan facts is fit q.seen in
    let long : MAX_LOG_ENTRIES - 1 ≤ length q.seen + owed (replay w q.seen) =
    full_logs_are_long q.seen (replay w q.seen) q.number full.0 firm full.2 in
    let more : length q.seen + owed (replay w q.seen)
    ≤ length (q.seen ++ begins.0) + owed (replay w (q.seen ++ begins.0)) =
    owed_never_falls w q.seen begins.0 (firm_after plan facts is fit []) in
    record {
      job = record {
        seen = q.seen;
        seat = q.number;
        tried = full.0;
        prefix = (begins.0, whole);
        by_jobs = All-from_recursion (λ (e : Entry). e.seat ≢ 0) q.seen
            (All-from_contained (λ (e : Entry). e.seat ≢ 0) q.seen (λ e here.
            All-contains (λ (x : Entry). x.seat ≢ 0) log e jobs
            (subst (λ (l : List Entry). Contains l e) begins.1 (Contains-append_left q.seen begins.0 e here))));
        own_kind = full.1;
        full = full.2;
      };
      nearly = subst (λ (l : List Entry). MAX_LOG_ENTRIES - 1 ≤ length l + owed (replay w l)) begins.1
          (omega (arith, long, more));
    }

-- Where the jobs ended idle, the log tells why, whatever is done after them.

-- Jobs by their numbers

-- a worker that stands among others
pub record Standing {D : Type 0} (y : MeshYard) (seen : Drive D → DriveView) (actors : ℕ) (drives : List (Drive D))
    (n : ℕ) (ws : List (Worker D)) : Type 0 where
  pub worker : Worker D
  pub here : Contains ws worker
  pub ended : HasEnded y seen actors drives n worker

-- the worker at a place
pub worker_at : {D : Type 0} (y : MeshYard) (seen : Drive D → DriveView) (actors : ℕ) (drives : List (Drive D)) (n : ℕ)
    (ws : List (Worker D)) (k : ℕ) → HaveEnded y seen actors drives n ws → k < length ws
    → Standing y seen actors drives (n + k) ws
worker_at y seen actors drives n [] k ended lt = absurd (omega (arith, lt))
worker_at y seen actors drives n (w ∷ ws) zero ended lt = search rules
worker_at y seen actors drives n (w ∷ ws) (suc k) ended lt =
    search (rules, worker_at y seen actors drives (n + 1) ws k ended.1 (omega (arith, lt)), Contains-there w)

module _ {D : Type 0} (opened : World) (plan : Plan) (seen : Drive D → DriveView) (drives : List (Drive D)) (n : ℕ)
    (q : MeshPass) where
  abbrev actors : ℕ
  actors = length plan.actors

  -- the client of an actor waits, or its actor has no command left
  client_at : (a : ℕ) → a < actors → n ≡ a + 1 → (role : Role D) (answer : Turn)
      → DidAs seen actors drives n q role → EndedAs opened plan q role answer
      → answer ≢ turns.NoMemory → answer ≢ turns.LogFull → IsWaiting opened q a ⊎ HasFinished opened q.seen a
  client_at a lt is role turns.Worked did ended memory full = absurd ended
  client_at a lt is role turns.LogFull did ended memory full = absurd (full refl)
  client_at a lt is role turns.NoMemory did ended memory full = absurd (memory refl)
  client_at a lt is (roles.Client j) turns.Idle did ended memory full = search rules
  client_at a lt is (roles.Client j) turns.Finished did ended memory full = search rules
  client_at a lt is (roles.Disk j) answer did ended memory full = absurd (let e = did.1 in omega (arith, e, is, lt))
  client_at a lt is _ answer did ended memory full = absurd (let e = did.0 in omega (arith, e, is, lt))

  -- the event worker tried each of its steps in vain
  events_at : n ≡ actors + 1 → (role : Role D) (answer : Turn)
      → DidAs seen actors drives n q role → EndedAs opened plan q role answer
      → answer ≢ turns.NoMemory → answer ≢ turns.LogFull → TriedEach opened q event_steps
  events_at is role turns.Worked did ended memory full = absurd ended
  events_at is role turns.LogFull did ended memory full = absurd (full refl)
  events_at is role turns.NoMemory did ended memory full = absurd (memory refl)
  events_at is (roles.Events j) turns.Idle did ended memory full = ended
  events_at is (roles.Events j) turns.Finished did ended memory full = absurd ended
  events_at is (roles.Client j) answer did ended memory full = search rules
  events_at is (roles.Disk j) answer did ended memory full = absurd (let e = did.1 in omega (arith, e, is))
  events_at is _ answer did ended memory full = absurd (let e = did.0 in omega (arith, e, is))

-- A step that a job tried

-- a try in vain at what a pass had seen, with all its own entries, is one at the whole log
ended_idle : (opened : World) (log : List Entry) (k : ℕ) (q : MeshPass) (at : List Entry) (s : Step)
    → IsGoodIn (λ (e : Entry). e.seat) q log → q.number ≡ k → IsPrefix at q.seen
    → entries_of_seat q.number at ≡ q.own → WasIdle opened at q.number s → EndedIdle opened log k s
ended_idle opened log k q at s good is before own idle =
    let begins = prefix_trans at q.seen log before good.seen in
    search rules

last_idle : (opened : World) (log : List Entry) (k : ℕ) (q : MeshPass) (s : Step)
    → IsGoodIn (λ (e : Entry). e.seat) q log → q.number ≡ k → TriedLast opened q s → EndedIdle opened log k s
last_idle opened log k q s good is tried =
    ended_idle opened log k q tried.seen s good is tried.before_last tried.own tried.was_idle

-- Commands

-- an actor without a next command makes no Go
none_to_make : (w : World) (actor : ℕ) (left : Option (List LineCommand)) → option_and_then first_command left ≡ None
    → (f : Found) × (go_of w actor left ≡ Err f)
none_to_make w actor None none = (founds.NoSuchActor, refl)
none_to_make w actor (Some []) none = (founds.NoCommand, refl)
none_to_make w actor (Some (c ∷ rest)) none = absurd (let bad : ⊥ = cc in bad)

go_needs_command : (w : World) (e : Entry) (actor : ℕ) → IsMade w e → e.step ≡ steps.Go actor
    → next_command w actor ≡ None → ⊥
unfolding step go
go_needs_command w e actor made is none =
    let at : IsOkAnd (step w e.seat (steps.Go actor)) (λ (m : World × Outcome). m.1 ≡ e.outcome) =
    subst (λ (s : Step). IsOkAnd (step w e.seat s) (λ (m : World × Outcome). m.1 ≡ e.outcome)) is made in
    let not_made = none_to_make w actor (slice_get w.actors actor) none in
    subst (λ (a : Answer). IsOkAnd a (λ (m : World × Outcome). m.1 ≡ e.outcome)) not_made.1 at

-- where a seat has no more entries in a log than in a part, the rest has none of it
no_more : (k : ℕ) (at rest : List Entry) → entries_of_seat k at ≡ entries_of_seat k (at ++ rest) → (x : Entry)
    → Contains rest x → x.seat ≡ k → ⊥
no_more k at rest all x here is =
    let split : entries_of_seat k at ++ entries_of_seat k rest ≡ entries_of_seat k at ++ [] =
    sym (filter-append (λ (e : Entry). e.seat == k) at rest) ∙ sym all ∙ sym (append-nil (entries_of_seat k at)) in
    let empty : entries_of_seat k rest ≡ [] =
    append_cancel_left (entries_of_seat k at) (entries_of_seat k rest) [] split in
    nothing_in x (subst (λ (l : List Entry). Contains l x) empty
    (Contains-filter (λ (e : Entry). e.seat == k) rest x here (eq-eqb x.seat k is)))

module _ (plan : Plan) (facts : List (ℕ × ℕ)) (log : List Entry)
    (mine : All (λ (e : Entry). IsMine plan (entries_of_seat e.seat log) e.seat e.step) log) where
  abbrev began : World
  began = opening plan facts

  -- the commands of an actor, where no entry is a Go of it
  same_next : (w : World) (es : List Entry) (actor : ℕ) → All (λ (e : Entry). e.step ≢ steps.Go actor) es
      → next_command (replay w es) actor ≡ next_command w actor
  same_next w es actor others = search (rules, others_leave_commands w es actor others)

  -- so it is with those that a client had seen when it had made all its entries
  same_as_seen : (at rest earlier : List Entry) (actor : ℕ) → log ≡ at ++ rest
      → entries_of_seat (actor + 1) at ≡ entries_of_seat (actor + 1) log
      → All (λ (e : Entry). e.step ≢ steps.Go actor) earlier
      → next_command (replay began (log ++ earlier)) actor ≡ next_command (replay began at) actor
  same_as_seen at rest earlier actor is all first =
      let none : All (λ (e : Entry). e.step ≢ steps.Go actor) rest =
      All-from_recursion (λ (e : Entry). e.step ≢ steps.Go actor) rest
      (All-from_contained (λ (e : Entry). e.step ≢ steps.Go actor) rest (λ e here go_is.
      let in_log : Contains log e =
      subst (λ (l : List Entry). Contains l e) (sym is) (Contains-append_right at rest e here) in
      let seat : e.seat ≡ actor + 1 =
      subst (λ (s : Step). IsOfItsJob plan e.seat s) go_is (mine_at plan log mine e in_log).kind in
      no_more (actor + 1) at rest
      (all ∙ ap (λ (l : List Entry). entries_of_seat (actor + 1) l) is) e here seat)) in
      let joined : replay began (log ++ earlier) ≡ replay (replay began at) (rest ++ earlier) =
      ap (λ (l : List Entry). replay began (l ++ earlier)) is
      ∙ ap (λ (l : List Entry). replay began l) (append_assoc at rest earlier)
      ∙ replay-append began at (rest ++ earlier) in
      ap (λ (w : World). next_command w actor) joined
      ∙ same_next (replay began at) (rest ++ earlier) actor
      (All-append (λ (e : Entry). e.step ≢ steps.Go actor) rest earlier none first)

  -- an actor that isn't there has none
  none_there : (earlier : List Entry) (actor : ℕ) → length plan.actors ≤ actor
      → All (λ (e : Entry). e.step ≢ steps.Go actor) earlier
      → next_command (replay began (log ++ earlier)) actor ≡ None
  none_there earlier actor past first =
      search (
        rules,
        length-map-range_with_len (commands_of plan) 0 (length plan.actors),
        opening_actors plan facts,
        slice_get_past (map (commands_of plan) (range_with_len 0 (length plan.actors))) actor,
        same_next began (log ++ earlier) actor,
        All-append (λ (e : Entry). e.step ≢ steps.Go actor) log earlier,
      )

-- All jobs

module _ {D : Type 0} (y : MeshYard) (seen : Drive D → DriveView) (drives : List (Drive D)) (log : List Entry)
    (first : MeshPass) (ws : List (Worker D))
    (ended : HaveEnded y seen (length y.start.plan.actors) drives 1 ws)
    (many : length ws ≡ length y.start.plan.actors + 5)
    (good : All (λ (p : MeshPass). IsGoodIn (λ (e : Entry). e.seat) p log) (first ∷ passes_of ws))
    (mine : All (λ (e : Entry). IsMine y.start.plan (entries_of_seat e.seat log) e.seat e.step) log) where
  abbrev plan_of_yard : Plan
  plan_of_yard = y.start.plan

  abbrev count : ℕ
  count = length y.start.plan.actors

  -- the pass of a worker is good
  pub good_pass : (w : Worker D) → Contains ws w → IsGoodIn (λ (e : Entry). e.seat) w.job.pass log
  good_pass w here =
      All-contains (λ (p : MeshPass). IsGoodIn (λ (e : Entry). e.seat) p log) (first ∷ passes_of ws) w.job.pass good
      (Contains-there first w.job.pass (passes_of ws) (Contains-map (λ (x : Worker D). x.job.pass) ws w here))

  module _ (quiet : All (λ (w : Worker D). (w.answer ≢ turns.NoMemory) × (w.answer ≢ turns.LogFull)) ws) where
    abbrev IsQuiet : Worker D → Type 0
    IsQuiet w = (w.answer ≢ turns.NoMemory) × (w.answer ≢ turns.LogFull)

    -- a client left its next command
    stopped : (actor : ℕ) (earlier later : List Entry) (e : Entry)
        → Legal (opened_by y.start) (log ++ (earlier ++ e ∷ later)) → e.step ≡ steps.Go actor
        → All (λ (x : Entry). x.step ≢ steps.Go actor) earlier
        → (actor < count) ⊎ (count ≤ actor) → ClientStopped (opened_by y.start) log earlier actor
    stopped actor earlier later e legal is none where_is =
        let w = replay (opened_by y.start) (log ++ earlier) in
        let made : IsMade w e =
        (Legal-back (opened_by y.start) (log ++ earlier) (e ∷ later)
        (subst (λ (l : List Entry). Legal (opened_by y.start) l) (sym (append_assoc log earlier (e ∷ later)))
        legal)).0 in
        elim where_is [
          | inl lt ↦
              let at = worker_at y seen count drives 1 ws actor ended (omega (arith, lt, many)) in
              let q = at.worker.job.pass in
              let its = good_pass at.worker at.here in
              let number : q.number ≡ actor + 1 = (let m = at.ended.number in omega (arith, m)) in
              let calm = All-contains IsQuiet ws at.worker quiet at.here in
              let all : entries_of_seat (actor + 1) q.seen ≡ entries_of_seat (actor + 1) log =
              subst (λ k. entries_of_seat k q.seen ≡ entries_of_seat k log) number (its.own_seen ∙ sym its.own) in
              let same : next_command w actor ≡ next_command (replay (opened_by y.start) q.seen) actor =
              same_as_seen plan_of_yard y.start.facts log mine q.seen its.seen.0 earlier actor (sym its.seen.1) all
              none in
              elim
              (client_at (opened_by y.start) plan_of_yard seen drives (1 + actor) q actor lt (omega arith)
              at.worker.job.role at.worker.answer at.ended.did at.ended.ended calm.0 calm.1) [
                | inl waiting ↦ record {
                  waits = subst (λ (o : Option LineCommand). IsSomeAnd o (λ c. IsWait c.command)) (sym same)
                      waiting.waits;
                  was_idle = ended_idle (opened_by y.start) log (actor + 1) q q.seen (steps.Go actor) its number
                      (prefix_self q.seen) its.own_seen waiting.was_idle;
                }
                | inr finished ↦ absurd (go_needs_command w e actor made is (same ∙ finished))
              ]
          | inr past ↦
              absurd (go_needs_command w e actor made is
              (none_there plan_of_yard y.start.facts log mine earlier actor past none))
        ]

    -- what the event worker tried
    tried : TriedEach (opened_by y.start)
        (worker_at y seen count drives 1 ws count ended (omega (arith, many))).worker.job.pass event_steps
    tried = search rules

    -- why they ended
    pub jobs_ended_idle : (rest : List Entry) → Legal (opened_by y.start) (log ++ rest)
        → JobsEndedIdle plan_of_yard (opened_by y.start) log rest
    jobs_ended_idle rest legal =
        let at = worker_at y seen count drives 1 ws count ended (omega (arith, many)) in
        let q = at.worker.job.pass in
        let its = good_pass at.worker at.here in
        let number : q.number ≡ event_seat plan_of_yard = (let m = at.ended.number in omega (arith, m)) in
        record {
          clients = λ actor earlier e split.
              stopped actor earlier split.split.0 e
              (subst (λ (l : List Entry). Legal (opened_by y.start) (log ++ l)) split.split.1 legal) split.go
              split.first (cases_lt actor count);
          judge = last_idle (opened_by y.start) log (event_seat plan_of_yard) q steps.Judge its number tried.0;
          event = last_idle (opened_by y.start) log (event_seat plan_of_yard) q steps.Event its number tried.1.0;
          reap = last_idle (opened_by y.start) log (event_seat plan_of_yard) q steps.Reap its number tried.1.1.0;
          wash = last_idle (opened_by y.start) log (event_seat plan_of_yard) q steps.Wash its number tried.1.1.1.0;
        }
