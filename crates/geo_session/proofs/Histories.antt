-- Each history of a mesh goes on with each step and each command.
use Rattle.std.specs.Prelude.{◌≡◌, ℕ, ◌+◌, ◌<◌, ◌%◌, ◌^◌, List, [], ◌∷◌, ◌++◌, length, Option, Some, None, Ok, slice_get}
use Rattle.std.specs.List.{enumerate_from}
use Rattle.std.proofs.Common.{refl, ap, sym, subst, ◌∙◌, arith}
use Rattle.std.proofs.Math.Nat.{mod-add-mod}
use Rattle.std.proofs.Props.{props}
use Rattle.std.proofs.lemmas.List.{length-append, length-map}
use Rattle.std.proofs.lemmas.List.Elements.{All-push}
use Rattle.std.proofs.lemmas.List.FromFn.{length-enumerate_from}
use Rattle.std.proofs.lemmas.Option.{slice_get_within}
use Rattle.geo_model.specs.declared.command.LineCommand.{LineCommand}
use Rattle.geo_model.specs.declared.step.Entry.{Entry}
use Rattle.geo_model.specs.declared.step.Outcome.{Outcome}
use Rattle.geo_model.specs.declared.step.Step.{Step}
use Rattle.geo_model.specs.declared.step.Step.TheVariants as steps
use Rattle.geo_model.specs.World.{World, Plan}
use Rattle.geo_model.specs.History.{KeepsHistory}
use Rattle.geo_model.specs.Log.{IsMade, Legal, after_entry, replay, world_after}
use Rattle.geo_model.specs.Opening.{opening}
use Rattle.geo_model.specs.Plans.{MayBegin, FactsFit, IsCommand, IsCommandOf}
use Rattle.geo_model.specs.Step.{Answer, go, go_of, step}
use Rattle.geo_model.proofs.LogLemmas.{Legal-append, replay-append}
use Rattle.geo_laws_requests.proofs.Complete.{legal_logs_complete_requests}
use Rattle.geo_laws_texts.specs.Naming.{HaveNames}
use Rattle.geo_laws_texts.proofs.Logs.{legal_logs_have_names}
use Rattle.geo_session.specs.Going.{HistoriesGoOn, GoesOn, entry_of_step}
use Rattle.geo_session.specs.Growth.{plan_with, with_command, more_for}
use Rattle.geo_session.specs.Session.{SessionView, HistoryOf, Made}
use Rattle.geo_session.proofs.Actors.{actors_of_plan}
use Rattle.geo_session.proofs.Logs.{plans_may_grow}

-- one more entry, that of a step from the world to which a log leads

module _ (plan : Plan) (facts : List (ℕ × ℕ)) (begins : MayBegin plan) (fit : FactsFit plan facts) (log : List Entry)
    (legal : Legal (opening plan facts) log) {before : World} (leads : replay (opening plan facts) log ≡ before)
    {old new : SessionView} (counts : length log % 2 ^ 64 ≡ old.steps) (seat : ℕ) (s : Step) (o : Outcome)
    (made : Made before old new seat s o) where
  abbrev entry : Entry
  entry = entry_of_step seat s o

  is_made : IsMade (replay (opening plan facts) log) entry
  is_made = rw (leads, made.does) refl

  longer_counts : length (log ++ entry ∷ []) % 2 ^ 64 ≡ new.steps
  longer_counts =
      ap (λ n. n % 2 ^ 64) (length-append log (entry ∷ [])) ∙ sym (mod-add-mod (length log) (2 ^ 64) 1)
      ∙ ap (λ n. (n + 1) % 2 ^ 64) counts ∙ sym made.counted

  pub longer : HistoryOf new
  longer = record {
    plan = plan;
    facts = facts;
    begins = begins;
    fit = fit;
    log = log ++ entry ∷ [];
    legal = Legal-append (opening plan facts) log (entry ∷ []) legal (is_made, tt);
    leads = replay-append (opening plan facts) log (entry ∷ []) ∙ ap (λ (w : World). after_entry w entry) leads
        ∙ ap (λ (a : Answer). world_after before a) made.does;
    counts = longer_counts;
  }

-- a step goes on with the same plan
pub steps_go_on : {old new : SessionView} (seat : ℕ) (s : Step) (o : Outcome) → Made old.world old new seat s o
    → (h : HistoryOf old) → GoesOn h h.plan (entry_of_step seat s o) new
unfolding longer
steps_go_on {old} {new} seat s o made h = record {
  next = longer h.plan h.facts h.begins h.fit h.log h.legal h.leads h.counts seat s o made;
  plan_is = refl;
  facts_are = refl;
  log_is = refl;
}

-- the actor of a Go that is enabled is there
there : (w after : World) (actor : ℕ) (o : Outcome) → step w 0 (steps.Go actor) ≡ Ok (after, o)
    → actor < length w.actors
unfolding step go
there w after actor o does = by (slice_get w.actors actor) refl does where
  by : (l : Option (List LineCommand)) → slice_get w.actors actor ≡ l → go_of w actor l ≡ Ok (after, o)
      → actor < length w.actors
  by None is does = absurd (let no : ⊥ = cc does in no)
  by (Some rest) is does = slice_get_within w.actors actor rest is

module _ {old new : SessionView} (c : LineCommand) (o : Outcome) (is : IsCommand c.command)
    (made : Made (with_command c old.world) old new 0 (steps.Go c.actor) o) (h : HistoryOf old) where
  -- the plan with the command names its actor
  named : c.actor < length h.plan.actors
  named =
      let given = there (with_command c old.world) new.world c.actor o made.does in
      let mapped = length-map (enumerate_from 0 (old.world).actors) (more_for c) in
      let counted = length-enumerate_from 0 (old.world).actors in
      let led : length (old.world).actors ≡ length h.plan.actors =
      sym (ap (λ (w : World). length w.actors) h.leads) ∙ actors_of_plan h.plan h.facts h.log in
      omega (arith, given, mapped, counted, led)

  begins : MayBegin (plan_with h.plan c)
  begins = record {
    few_disks = h.begins.few_disks;
    disks = h.begins.disks;
    disk_names = h.begins.disk_names;
    few_actors = h.begins.few_actors;
    actors = h.begins.actors;
    actor_names = h.begins.actor_names;
    commands = All-push (IsCommandOf (length h.plan.actors)) h.plan.commands c h.begins.commands
        (record { actor = named; command = is });
  }

  opens : opening (plan_with h.plan c) h.facts ≡ with_command c (opening h.plan h.facts)
  opens = plans_may_grow.opened h.plan h.facts c

  legal : Legal (opening (plan_with h.plan c) h.facts) h.log
  legal =
      subst (λ (w : World). Legal w h.log) (sym opens)
      (plans_may_grow.legal (opening h.plan h.facts) h.log c h.legal)

  leads : replay (opening (plan_with h.plan c) h.facts) h.log ≡ with_command c old.world
  leads =
      ap (λ (w : World). replay w h.log) opens ∙ plans_may_grow.world (opening h.plan h.facts) h.log c h.legal
      ∙ ap (with_command c) h.leads

  -- a command with the plan that has it
  pub commands_go_on : GoesOn h (plan_with h.plan c) (entry_of_step 0 (steps.Go c.actor) o) new
  unfolding longer
  commands_go_on = record {
    next = longer (plan_with h.plan c) h.facts begins h.fit h.log legal leads h.counts 0 (steps.Go c.actor) o made;
    plan_is = refl;
    facts_are = refl;
    log_is = refl;
  }

pub histories_go_on : HistoriesGoOn
histories_go_on = record {
  step = λ old new seat s o made h. steps_go_on seat s o made h;
  command = λ old new c o is made h. commands_go_on c o is made h;
}

-- What a history has

pub history_keeps : {v : SessionView} → (h : HistoryOf v) → KeepsHistory (opening h.plan h.facts) h.log
history_keeps h = legal_logs_complete_requests.all h.plan h.facts h.begins h.fit h.log h.legal

-- the providers of its world have names
pub history_names : {v : SessionView} → HistoryOf v → HaveNames (v.world).topology
history_names h =
    subst (λ (w : World). HaveNames w.topology) h.leads
    (legal_logs_have_names h.plan h.facts h.begins h.fit h.log h.legal)

-- which they have in one way
pub names_prop : (w : World) → IsProp (HaveNames w.topology)
names_prop w = hlevel props
