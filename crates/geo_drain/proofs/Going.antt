-- A run begins, and goes on by one turn.
use Rattle.std.specs.Prelude.{◌≡◌, ℕ, ◌==◌, true, false, List, [], ◌∷◌, ◌++◌, map, Option, Some, None, is_ok, IsSome, IfSome, IsTrue}
use Rattle.std.proofs.Common.{append-nil, inl, inr, refl, sym, ◌∙◌, ap, subst}
use Rattle.std.proofs.lemmas.Bool.{both_ways, eq-eqb}
use Rattle.std.proofs.lemmas.List.{append_assoc}
use Rattle.std.proofs.lemmas.List.Elements.{All-contains, All-from_recursion, recursion_from_All}
use Rattle.geo_base.proofs.PlaceLists.{slot-seen}
use Rattle.geo_model.specs.declared.step.DeviceResult.{DeviceResult}
use Rattle.geo_model.specs.declared.step.Entry.{Entry}
use Rattle.geo_model.specs.declared.step.Found.{Found}
use Rattle.geo_model.specs.declared.step.Outcome.{Outcome}
use Rattle.geo_model.specs.declared.step.Outcome.TheVariants as outcomes
use Rattle.geo_model.specs.declared.step.Request.{Request}
use Rattle.geo_model.specs.declared.step.Step.{Step}
use Rattle.geo_model.specs.declared.step.Step.TheVariants as steps
use Rattle.geo_model.specs.World.{World, Bio, bio_at, is_busy}
use Rattle.geo_model.specs.Step.{Answer, deliver_found, deliver_of, is_enabled, step, unless_found}
use Rattle.geo_model.specs.Bios.{deliver}
use Rattle.geo_model.specs.Log.{Legal, replay, world_after}
use Rattle.geo_model.specs.FixedOrder.{FollowsOrder, IsOfOrder, StepOrder, delivered_in, taken_in}
use Rattle.geo_model.specs.Results.{request_of}
use Rattle.geo_model.specs.Laws.{NoneBusy, world_by}
use Rattle.geo_model.proofs.LogLemmas.{Legal-front}
use Rattle.geo_laws_graph.proofs.Members.{find-Contains}
use Rattle.geo_laws_bios.proofs.Phases.{can_deliver}
use Rattle.geo_laws_disks.proofs.Legal.{legal_logs_complete_requests}
use Rattle.geo_laws_rest.proofs.Quiet.{step_idle, take_idle}
use Rattle.geo_serve.specs.Drives.{DriveView}
use Rattle.geo_serve.specs.Served.{AreServed}
use Rattle.geo_laws_disks.specs.DriveLaws.{AreTaken}
use Rattle.geo_laws_disks.proofs.Drives.{all_served_answered, all_served_none, all_served_quiet}
use Rattle.geo_laws_disks.proofs.Requests.{each_more, none_in, request_last, taken_more}
use Rattle.geo_core.specs.Mesh.{IsHistory, Made, MeshView, entry_of, opened, with_entry, world_of}
use Rattle.geo_drain.specs.Drain.{DrivesFit, with_entries}
use Rattle.geo_drain.specs.Running.{IsRunning}
use Rattle.geo_drain.specs.Turns.{MakesStep, MakesTurn, ServesTake}

-- a run that made no step
pub begins : (order : StepOrder) (m : MeshView) (drives : List DriveView) → NoneBusy (world_of m)
    → DrivesFit m drives → IsRunning order m m drives drives
begins order m drives none_busy fit = record {
  runs = record {
    added = [];
    grown = ap (λ l. record m { log = l }) (sym (append-nil m.log));
    follows = λ earlier e split. absurd (none_in earlier e split.0 split.1);
    taken = tt;
    served = all_served_none drives;
  };
  none_busy = none_busy;
  fit = fit;
}

-- the world after a step that was made
made_world : (old new : MeshView) (s : Step) (o : Outcome) → Made old new 0 s o
    → world_of new ≡ world_by (world_of old) 0 s
made_world old new s o made = sym (ap (λ a. world_after (world_of old) a) made.does)

-- a run with the entry of one step more
module _ (order : StepOrder) (old new : MeshView) (added : List Entry) (grown : new ≡ with_entries old added) where
  -- the log after a step
  pub grown_more : (next : MeshView) (e : Entry) → next ≡ with_entry new e → next ≡ with_entries old (added ++ e ∷ [])
  grown_more next e is =
      is ∙ ap (λ (m : MeshView). with_entry m e) grown
      ∙ ap (λ l. record old { log = l }) (append_assoc old.log added (e ∷ []))

  -- what was due is so by the log at that moment
  pub due_then : (e : Entry) → e.seat ≡ 0 → order (world_of new) new.log ≡ Some e.step
      → IsOfOrder order (opened old) (old.log ++ added) e
  due_then e seat due = record {
    seat = seat;
    was_due = inl
        (subst (λ (m : MeshView). order (replay (opened m) m.log) m.log ≡ Some e.step) grown due);
  }

-- what follows the order does so with one entry more
follows_more : (order : StepOrder) (old : MeshView) (added : List Entry) (e : Entry)
    → FollowsOrder order (opened old) old.log added → IsOfOrder order (opened old) (old.log ++ added) e
    → FollowsOrder order (opened old) old.log (added ++ e ∷ [])
follows_more order old added e before last =
    each_more (λ earlier x. IsOfOrder order (opened old) (old.log ++ earlier) x) added e before last

-- One step alone

-- a step that neither takes nor delivers
plain_turn : (order : StepOrder) (old new next : MeshView) (before after later : List DriveView) (s : Step)
    → taken_in s ≡ None → delivered_in s ≡ None → IsRunning order old new before after
    → order (world_of new) new.log ≡ Some s → MakesStep new next after later s
    → IsRunning order old next before later
plain_turn order old new next before after later s takes delivers run due turn = record {
  runs = record {
    added = run.runs.added ++ e ∷ [];
    grown = grown_more order old new run.runs.added run.runs.grown next e turn.made.logged;
    follows = follows_more order old run.runs.added e run.runs.follows
        (due_then order old new run.runs.added run.runs.grown e refl due);
    taken = taken_more run.runs.added e run.runs.taken
        (subst (λ o. IfSome o (λ b. IsSome (request_of run.runs.added b))) (sym delivers) tt);
    served = subst (λ ds. AreServed (run.runs.added ++ e ∷ []) before ds) (sym turn.drives)
        (all_served_quiet run.runs.added e before after run.runs.taken delivers run.runs.served);
  };
  none_busy = subst (λ (w : World). NoneBusy w) (sym (made_world new next s turn.outcome turn.made))
      (All-from_recursion (λ (x : Bio). is_busy x.phase ≡ false) (world_by (world_of new) 0 s).bios
      (step_idle (world_of new)
      (recursion_from_All (λ (x : Bio). is_busy x.phase ≡ false) (world_of new).bios run.none_busy) 0 s takes));
  fit = subst (λ ds. DrivesFit next ds) (sym turn.drives)
      (run.fit ∙ ap (λ (m : MeshView). m.facts) (sym turn.made.logged));
}
  where
    e : Entry
    e = entry_of 0 s turn.outcome

-- where no bio is Busy none can be delivered
none_delivered : (w : World) (b : ℕ) (got : DeviceResult) → NoneBusy w
    → IsTrue (is_enabled w 0 (steps.Deliver b got)) → ⊥
unfolding step
none_delivered w b got idle enabled = by (bio_at w b) refl enabled
  where
    at : (x : Bio) → bio_at w b ≡ Some x → (f : Option Found) → deliver_found w 0 x got x.phase ≡ f
        → is_ok (unless_found f (deliver w x got)) ≡ true → ⊥
    at x found None none ok =
        both_ways (is_busy x.phase)
        (All-contains (λ (y : Bio). is_busy y.phase ≡ false) w.bios x idle
        (find-Contains (λ (y : Bio). y.number == b) w.bios x found))
        (can_deliver w 0 x got x.phase none).0
    at x found (Some f) none ok = let bad : ⊥ = cc in bad

    by : (o : Option Bio) → bio_at w b ≡ o → is_ok (deliver_of w 0 got o) ≡ true → ⊥
    by None found ok = let bad : ⊥ = cc in bad
    by (Some x) found ok = at x found (deliver_found w 0 x got x.phase) refl ok

-- a step that was made was enabled
made_enabled : (old new : MeshView) (s : Step) (o : Outcome) → Made old new 0 s o
    → IsTrue (is_enabled (world_of old) 0 s)
made_enabled old new s o made = ap (λ (a : Answer). is_ok a) made.does

-- A Take with its Deliver

-- the sizes of a drive
abbrev sizes : DriveView → ℕ × ℕ
sizes d = (d.sector, d.count)

-- drives of the same sizes
sizes_same : (d e : DriveView) → d.sector ≡ e.sector → d.count ≡ e.count → sizes d ≡ sizes e
sizes_same d e sector count =
    let by_sector : ℕ → ℕ × ℕ = (λ n. (n, d.count)) in
    let by_count : ℕ → ℕ × ℕ = (λ n. (e.sector, n)) in
    ap by_sector sector ∙ ap by_count count

-- a bio that is taken, served and delivered
take_turn : (order : StepOrder) (old new next : MeshView) (before after later : List DriveView) (disk b : ℕ)
    → IsRunning order old new before after → order (world_of new) new.log ≡ Some (steps.Take disk b) → IsHistory next
    → ServesTake new next after later disk b → IsRunning order old next before later
take_turn order old new next before after later disk b run due history turn = record {
  runs = record {
    added = two;
    grown = grown_more order old turn.taken one grown_one next d turn.deliver.logged;
    follows = follows_more order old one d follows_one (record { seat = refl; was_due = inr follows_take });
    taken = taken_more one d taken_one (subst (λ (o : Option Request). IsSome o) (sym asked) refl);
    served = subst (λ ds. AreServed two before ds) (sym turn.answers.drives)
        (all_served_answered one d b turn.got turn.request before after turn.answers.old turn.answers.new taken_one refl
        asked turn.answers.is_its turn.answers.serves
        (all_served_quiet run.runs.added t before after run.runs.taken refl run.runs.served));
  };
  none_busy = subst (λ (w : World). NoneBusy w) (sym world_next)
      (All-from_recursion (λ (x : Bio). is_busy x.phase ≡ false)
      (world_by (world_by (world_of new) 0 (steps.Take disk b)) 0 (steps.Deliver b turn.got)).bios
      (take_idle (world_of new)
      (recursion_from_All (λ (x : Bio). is_busy x.phase ≡ false) (world_of new).bios run.none_busy) b turn.got disk
      enabled));
  fit = ap (λ (ds : List DriveView). map sizes ds) turn.answers.drives
      ∙ slot-seen sizes after turn.request.disk turn.answers.new turn.answers.old turn.answers.is_its
      (sizes_same turn.answers.new turn.answers.old turn.answers.serves.sector turn.answers.serves.count)
      ∙ run.fit ∙ ap (λ (m : MeshView). m.facts) (sym logged_both);
}
  where
    t : Entry
    t = entry_of 0 (steps.Take disk b) (outcomes.Asked turn.request)

    d : Entry
    d = entry_of 0 (steps.Deliver b turn.got) turn.outcome

    one : List Entry
    one = run.runs.added ++ t ∷ []

    two : List Entry
    two = one ++ d ∷ []

    grown_one : turn.taken ≡ with_entries old one
    grown_one = grown_more order old new run.runs.added run.runs.grown turn.taken t turn.take.logged

    follows_one : FollowsOrder order (opened old) old.log one
    follows_one = follows_more order old run.runs.added t run.runs.follows
        (due_then order old new run.runs.added run.runs.grown t refl due)

    follows_take : (start : List Entry) × (x : Entry) × (old.log ++ one ≡ start ++ x ∷ [])
        × IsSome (taken_in x.step) × (taken_in x.step ≡ delivered_in d.step)
    follows_take =
        (old.log ++ run.runs.added, t, sym (append_assoc old.log run.runs.added (t ∷ [])), refl, refl)

    taken_one : AreTaken one one
    taken_one = taken_more run.runs.added t run.runs.taken tt

    facts_next : with_entries old two ≡ next
    facts_next = sym (grown_more order old turn.taken one grown_one next d turn.deliver.logged)

    old_history : IsHistory (with_entries old two)
    old_history = subst (λ (m : MeshView). IsHistory m) (sym facts_next) history

    legal_one : Legal (opened old) (old.log ++ one)
    legal_one = Legal-front (opened old) (old.log ++ one) (d ∷ [])
        (subst (λ l. Legal (opened old) l) (sym (append_assoc old.log one (d ∷ []))) old_history.lawful.0)

    asked : request_of one b ≡ Some turn.request
    asked =
        request_last old.log run.runs.added t b turn.request
        (legal_logs_complete_requests.taken old.plan old.facts old_history.plan.begins old_history.facts
        (old.log ++ one) legal_one b)
        (eq-eqb b b refl) refl

    world_one : world_of turn.taken ≡ world_by (world_of new) 0 (steps.Take disk b)
    world_one = made_world new turn.taken (steps.Take disk b) (outcomes.Asked turn.request) turn.take

    world_next : world_of next ≡ world_by (world_by (world_of new) 0 (steps.Take disk b)) 0 (steps.Deliver b turn.got)
    world_next =
        made_world turn.taken next (steps.Deliver b turn.got) turn.outcome turn.deliver
        ∙ ap (λ (w : World). world_by w 0 (steps.Deliver b turn.got)) world_one

    enabled : IsTrue (is_enabled (world_by (world_of new) 0 (steps.Take disk b)) 0 (steps.Deliver b turn.got))
    enabled = subst (λ (w : World). IsTrue (is_enabled w 0 (steps.Deliver b turn.got))) world_one
        (made_enabled turn.taken next (steps.Deliver b turn.got) turn.outcome turn.deliver)

    logged_both : next ≡ with_entry (with_entry new t) d
    logged_both = turn.deliver.logged ∙ ap (λ (m : MeshView). with_entry m d) turn.take.logged

-- Each turn

pub goes_on : (order : StepOrder) (old new next : MeshView) (before after later : List DriveView) (s : Step)
    → IsRunning order old new before after → order (world_of new) new.log ≡ Some s → IsHistory next
    → MakesTurn new next after later s → IsRunning order old next before later
goes_on order old new next before after later (steps.Take disk b) run due history turn =
    take_turn order old new next before after later disk b run due history turn
goes_on order old new next before after later (steps.Deliver b got) run due history turn =
    absurd (none_delivered (world_of new) b got run.none_busy
    (made_enabled new next (steps.Deliver b got) turn.outcome turn.made))
goes_on order old new next before after later s run due history turn =
    plain_turn order old new next before after later s refl refl run due turn
