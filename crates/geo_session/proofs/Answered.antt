-- What is found against a step and a command, and what they lead to.
use Rattle.std.specs.Prelude.{◌≡◌, ℕ, ◌+◌, ◌<◌, ◌≤◌, ◌==◌, ◌%◌, ◌^◌, ◌⊎◌, ◌&&◌, ◌||◌, filter, true, false, Bool, List, [], ◌∷◌, Option, Some, None, Result, Ok, Err, IsOk, IsErrAnd, IfOk, slice_get, All, if◌then◌else◌, option_and_then}
use Rattle.std.specs.List.{AllByRecursion}
use Rattle.std.specs.Option.{option_map_or}
use Rattle.std.proofs.Common.{refl, ap, sym, subst, ◌∙◌, inl, inr}
use Rattle.std.proofs.Math.Logic.{∥∥₁_elim, ∥∥₁_map}
use Rattle.std.proofs.lemmas.List.Elements.{All-append, All-from_recursion, All-nil, All-push, recursion_from_All}
use Rattle.geo_base.specs.declared.block.NoMemory.{NoMemory}
use Rattle.geo_base.specs.declared.errno.Errno.TheVariants.{EBUSY}
use Rattle.geo_model.specs.declared.command.Command.{Command}
use Rattle.geo_model.specs.declared.command.Command.TheVariants as commands
use Rattle.geo_model.specs.declared.command.LineCommand.{LineCommand}
use Rattle.geo_model.specs.declared.step.Entry.{Entry}
use Rattle.geo_model.specs.declared.step.Found.{Found}
use Rattle.geo_model.specs.declared.step.Found.TheVariants as found
use Rattle.geo_model.specs.declared.step.Outcome.{Outcome}
use Rattle.geo_model.specs.declared.step.Outcome.TheVariants as outcomes
use Rattle.geo_model.specs.declared.step.Reply.TheVariants as replies
use Rattle.geo_model.specs.declared.step.Step.{Step}
use Rattle.geo_model.specs.declared.step.Step.TheVariants as steps
use Rattle.geo_model.specs.World.{World, Handle, handle_of, is_active}
use Rattle.geo_model.specs.Commands.{do_command}
use Rattle.geo_model.specs.Fitting.{Firm}
use Rattle.geo_model.specs.HandleCommands.{close_handle}
use Rattle.geo_model.specs.History.{first_command}
use Rattle.geo_model.specs.Laws.{ClosesOk}
use Rattle.geo_model.specs.Log.{world_after}
use Rattle.geo_model.specs.Plans.{IsCommand}
use Rattle.geo_model.specs.Step.{Answer, go, go_of, step, unless_found, waits_for, with_commands}
use Rattle.geo_laws_requests.proofs.Legal.{steps_stay_firm}
use Rattle.geo_laws_texts.specs.Naming.{HaveNames}
use Rattle.geo_moves.specs.declared.decisions.Decision.{Decision}
use Rattle.geo_moves.specs.declared.decisions.Decision.TheVariants as decisions
use Rattle.geo_moves.specs.Decisions.{decision_of, is_closed}
use Rattle.geo_state.specs.declared.state.State.{State}
use Rattle.geo_state.specs.Holds.{Holds}
use Rattle.geo_state.specs.Steps.{against, Does, Makes, SameWorld, Stands}
use Rattle.geo_state.specs.World.{world, HasBytes}
use Rattle.geo_session.specs.declared.live.Live.{Live}
use Rattle.geo_session.specs.declared.refusal.SessionRefusal.{SessionRefusal}
use Rattle.geo_session.specs.Generation.{is_graph_command, is_graph_step, is_of_graph, is_taste_back, next_generation}
use Rattle.geo_session.specs.Growth.{more_left, with_command}
use Rattle.geo_session.specs.Live.{session_view, IsSession}
use Rattle.geo_session.specs.Moves.{IsFoundAgainst, IsFoundGiven, IsEnabledDeliver, Leads, SurelyCloses, is_up_step}
use Rattle.geo_session.specs.Session.{SessionView, HistoryOf, AnswersFrom, Made, IsRefusedFor, none_left}
use Rattle.geo_session.proofs.Histories.{commands_go_on, history_names, names_prop, steps_go_on}
use Rattle.geo_session.proofs.Lists.{get_more, more_from}
use Rattle.geo_session.proofs.Nones.{given, gone, none_at, none_beyond, none_given, none_or_less}

-- With a command that one actor has left a firm world is firm

module _ (c : LineCommand) (is : IsCommand c.command) where
  abbrev IsOne : LineCommand → Type 0
  IsOne x = IsCommand x.command

  one : (k : ℕ) (b : Bool) → (c.actor == k) ≡ b → All IsOne (filter (λ x. x.actor == k) (c ∷ []))
  one k true e = rw e (All-push IsOne [] c (All-nil IsOne) is)
  one k false e = rw e (All-nil IsOne)

  each : (k : ℕ) (lists : List (List LineCommand)) → AllByRecursion (All IsOne) lists
      → AllByRecursion (All IsOne) (more_from c k lists)
  each k [] all = tt
  each k (l ∷ lists) all = (
    All-append IsOne l (filter (λ x. x.actor == k) (c ∷ [])) all.0 (one k (c.actor == k) refl),
    each (k + 1) lists all.1,
  )

  pub firm_with : (w : World) → Firm w → Firm (with_command c w)
  firm_with w firm = record {
    graph = firm.graph;
    demand = firm.demand;
    sizes = firm.sizes;
    handles = firm.handles;
    taste = firm.taste;
    bios = firm.bios;
    commands = All-from_recursion (All IsOne) (more_left c w.actors)
        (each 0 w.actors (recursion_from_All (All IsOne) w.actors firm.commands));
  }

-- A live mesh

pub session_stands : (l : Live) → IsSession l → Stands l.state
session_stands l is =
    let none : List Entry = [] in record { kept = is.holds; firm = (none, (none_left l.actors, is.firm)) }

pub session_names : (l : Live) → IsSession l → HaveNames l.state.topo.topology
session_names l is = ∥∥₁_elim is.history (names_prop (session_view l).world) (λ h. history_names h)

-- one to which a step led: it is a live mesh, and the step was made
pub record Ends (next : Live) (before : World) (old : SessionView) (seat : ℕ) (st : Step) (o : Outcome) : Type 0 where
  pub session : IsSession next
  pub made : Made before old (session_view next) seat st o

-- after a step from a firm world it is one again
module _ (l : Live) (s : State) (count generation : ℕ) (is : IsSession l) (before : World) (firm : Firm before)
    (seat : ℕ) (st : Step) (o : Outcome) (holds : Holds s) (bytes : HasBytes [] s)
    (does : step before seat st ≡ Ok (world (none_left l.actors) [] s, o))
    (counted : count ≡ (l.steps + 1) % 2 ^ 64)
    (raised : generation ≡ next_generation l.generation (is_of_graph before st o)) where
  abbrev next : Live
  next = record l { state = s; steps = count; generation = generation }

  next_made : Made before (session_view l) (session_view next) seat st o
  next_made = record { does = does; counted = counted; generation = raised }

  pub next_ends : (Made before (session_view l) (session_view next) seat st o
      → HistoryOf (session_view l) → HistoryOf (session_view next))
      → Ends next before (session_view l) seat st o
  next_ends goes_on = record {
    session = record {
      holds = holds;
      bytes = bytes;
      firm = subst Firm (ap (λ (a : Answer). world_after before a) does) (steps_stay_firm before seat st firm);
      history = ∥∥₁_map is.history (goes_on next_made);
    };
    made = next_made;
  }

-- so it is after a step
pub step_ends : (l : Live) (s : State) (count generation : ℕ) → IsSession l → (seat : ℕ) (st : Step) (o : Outcome)
    → Holds s → HasBytes [] s → step (session_view l).world seat st ≡ Ok (world (none_left l.actors) [] s, o)
    → count ≡ (l.steps + 1) % 2 ^ 64
    → generation ≡ next_generation l.generation (is_of_graph (session_view l).world st o)
    → Ends (record l { state = s; steps = count; generation = generation }) (session_view l).world (session_view l) seat
    st o
step_ends l s count generation is seat st o holds bytes does counted raised =
    next_ends l s count generation is (session_view l).world is.firm seat st o holds bytes does counted raised
    (λ made h. (steps_go_on seat st o made h).next)

-- and after a command
pub command_ends : (l : Live) (s : State) (count generation : ℕ) → IsSession l → (c : LineCommand)
    → IsCommand c.command → (o : Outcome) → Holds s → HasBytes [] s
    → step (with_command c (session_view l).world) 0 (steps.Go c.actor) ≡ Ok (world (none_left l.actors) [] s, o)
    → count ≡ (l.steps + 1) % 2 ^ 64
    → generation ≡ next_generation l.generation
    (is_of_graph (with_command c (session_view l).world) (steps.Go c.actor) o)
    → Ends (record l { state = s; steps = count; generation = generation }) (with_command c (session_view l).world)
    (session_view l) 0 (steps.Go c.actor) o
command_ends l s count generation is c is_command o holds bytes does counted raised =
    next_ends l s count generation is (with_command c (session_view l).world)
    (firm_with c is_command (session_view l).world is.firm) 0 (steps.Go c.actor) o holds bytes does counted raised
    (λ made h. (commands_go_on c o is_command made h).next)

-- where memory was wanting it is the one that it was
module _ (l : Live) (s : State) (is : IsSession l) (same : SameWorld l.state s) where
  pub same_seen : session_view (record l { state = s }) ≡ session_view l
  same_seen =
      ap (λ (w : World). let v : SessionView = record { world = w; steps = l.steps; generation = l.generation } in v)
      (same (none_left l.actors) [])

  pub same_session : Holds s → HasBytes [] s → IsSession (record l { state = s })
  same_session holds bytes = record {
    holds = holds;
    bytes = bytes;
    firm = subst (λ (v : SessionView). Firm v.world) (sym same_seen) is.firm;
    history = subst (λ (v : SessionView). ∥ HistoryOf v ∥₁) (sym same_seen) is.history;
  }

-- What is answered

-- what a call that was refused so answers
pub answers_refusal : (result : Result Outcome SessionRefusal) (refusal : SessionRefusal) (before : World)
    (old new : SessionView) (seat : ℕ) (st : Step)
    → IsErrAnd result (λ x. x ≡ refusal) → IsRefusedFor refusal before old new seat st
    → AnswersFrom before result old new seat st
answers_refusal (Ok o) refusal before old new seat st is refuses = absurd is
answers_refusal (Err x) refusal before old new seat st is refuses =
    subst (λ (y : SessionRefusal). IsRefusedFor y before old new seat st) (sym is) refuses

-- what ended with an error isn't ok
pub not_ok : {A E : Type 0} (r : Result A E) (e : E) → r ≡ Err e → IsOk r → ⊥
not_ok (Ok a) e was ok = let no : ⊥ = cc was in no
not_ok (Err d) e was ok = let no : ⊥ = cc ok in no

-- a Deliver that is enabled isn't refused
pub never_refused : (w : World) (seat : ℕ) (st : Step) (f : Found) → step w seat st ≡ Err f
    → IsEnabledDeliver w seat st → ⊥
never_refused w seat (steps.Deliver b got) f is ok = not_ok (step w seat (steps.Deliver b got)) f is ok
never_refused w seat st f is ok = ok

-- nor a close that is answered ok
pub closes_enabled : (w : World) (actor : ℕ) (f : Found) → step w 0 (steps.Go actor) ≡ Err f → ClosesOk w 0 actor → ⊥
closes_enabled w actor f is closes = let e = closes.is_ok in let no : ⊥ = cc (e, is) in no

-- What was found

found_some : (a : Answer) (f : Found) → against a ≡ Some f → a ≡ Err f
found_some (Ok made) f e = absurd (let no : ⊥ = cc in no)
found_some (Err g) f e = cc

found_none : (a : Answer) → against a ≡ None → IsOk a
found_none (Ok made) e = refl
found_none (Err f) e = absurd (let no : ⊥ = cc in no)

-- against a step is what its world answers
pub found_at : (actors : ℕ) (s : State) (seat : ℕ) (st : Step) (f : Option Found) → IsFoundAgainst actors s seat st f
    → against (step (world (none_left actors) [] s) seat st) ≡ f
unfolding step
found_at actors s seat (steps.Go actor) f is = is
found_at actors s seat st f is = is (none_left actors) []

pub refused_found : (actors : ℕ) (s : State) (seat : ℕ) (st : Step) (f : Found)
    → IsFoundAgainst actors s seat st (Some f)
    → step (world (none_left actors) [] s) seat st ≡ Err f
refused_found actors s seat st f is =
    found_some (step (world (none_left actors) [] s) seat st) f (found_at actors s seat st (Some f) is)

pub enabled_found : (actors : ℕ) (s : State) (seat : ℕ) (st : Step) → IsFoundAgainst actors s seat st None
    → IsOk (step (world (none_left actors) [] s) seat st)
enabled_found actors s seat st is =
    found_none (step (world (none_left actors) [] s) seat st) (found_at actors s seat st None is)

-- against a Go is that there is no command, or no such actor
pub no_command : (actors actor : ℕ) (s : State) → actor < actors
    → IsFoundAgainst actors s 0 (steps.Go actor) (Some found.NoCommand)
unfolding go
no_command actors actor s less =
    ap (λ l. against (go_of (world (none_left actors) [] s) actor l)) (none_at actors actor less)

pub no_actor : (actors actor : ℕ) (s : State) → actors ≤ actor
    → IsFoundAgainst actors s 0 (steps.Go actor) (Some found.NoSuchActor)
unfolding go
no_actor actors actor s less =
    ap (λ l. against (go_of (world (none_left actors) [] s) actor l)) (none_beyond actors actor less)

-- so that something is
pub never_none : (actors : ℕ) (s : State) (seat actor : ℕ) → IsFoundAgainst actors s seat (steps.Go actor) None → ⊥
unfolding go
never_none actors s seat actor is = by (none_or_less actors actor) where
  w : World
  w = world (none_left actors) [] s

  none : {f : Found} → against (go w actor) ≡ Some f → ⊥
  none e = let wrong : ⊥ = cc (e, is) in wrong

  by : (actor < actors) ⊎ (actors ≤ actor) → ⊥
  by (inl less) = none (no_command actors actor s less)
  by (inr less) = none (no_actor actors actor s less)

-- What is of the graph

-- a step against which nothing is: it works on it, or is an Up that brings a taste's read back
pub told_graph : (actors : ℕ) (s : State) (seat : ℕ) (st : Step) (o : Outcome)
    → IsFoundAgainst actors s seat st None
    → (is_graph_step st || (is_up_step st && is_taste_back o)) ≡ is_of_graph (world (none_left actors) [] s) st o
told_graph actors s seat (steps.Go actor) o none = absurd (never_none actors s seat actor none)
told_graph actors s seat steps.Event o none = refl
told_graph actors s seat steps.Judge o none = refl
told_graph actors s seat steps.Reap o none = refl
told_graph actors s seat steps.Wash o none = refl
told_graph actors s seat st o none = refl

pub raised_by : (l : Live) (seat : ℕ) (st : Step) (o : Outcome) {f : Option Found} → f ≡ None
    → IsFoundAgainst l.actors l.state seat st f → (generation : ℕ) (works rises is : Bool)
    → works ≡ is_graph_step st → rises ≡ is_up_step st → is ≡ (works || (rises && is_taste_back o))
    → generation ≡ next_generation l.generation is
    → generation ≡ next_generation l.generation (is_of_graph (session_view l).world st o)
raised_by l seat st o none found generation works rises is w r i g =
    g ∙ ap (next_generation l.generation)
    (i ∙ ap (λ x. x || (rises && is_taste_back o)) w ∙ ap (λ x. is_graph_step st || (x && is_taste_back o)) r
    ∙ told_graph l.actors l.state seat st o
    (subst (λ (x : Option Found). IsFoundAgainst l.actors l.state seat st x) none found))

-- A close that is answered ok has no request out
closed_ok : (w : World) (line : ℕ) (o : Option Handle) (after : World)
    → close_handle w line o ≡ (after, outcomes.Replied line replies.Ok) → is_closed w o ≡ true
closed_ok w line None after e =
    absurd (let no : ⊥ = cc (ap (λ (made : World × Outcome). made.1) e) in no)
closed_ok w line (Some h) after e = by (option_map_or (is_active w) h.consumer false) refl where
  by : (b : Bool) → option_map_or (is_active w) h.consumer false ≡ b → is_closed w (Some h) ≡ true
  by false idle = rw idle refl
  by true busy =
      let refused : (close_handle w line (Some h)).1 ≡ outcomes.Replied line (replies.Refused EBUSY) = rw busy refl in
      absurd (let no : ⊥ = cc (ap (λ (made : World × Outcome). made.1) e, refused) in no)

unless : (o : Option Found) (made : World × Outcome) → against (unless_found o made) ≡ o
unless None made = refl
unless (Some f) made = refl

-- A command, given to an actor that is there

module _ (actors : ℕ) (s : State) (c : LineCommand) where
  -- the world in which it is given
  abbrev pub before : World
  before = with_command c (world (none_left actors) [] s)

  -- there is no such actor
  pub beyond : actors ≤ c.actor → step before 0 (steps.Go c.actor) ≡ Err found.NoSuchActor
  unfolding step go
  beyond less = ap (λ l. go_of before c.actor l) (none_given c actors less)

  -- where nothing is against it there is the actor, and it waits for nothing
  pub given_there : IsFoundGiven actors s c None → c.actor < actors
  given_there none = by (none_or_less actors c.actor) where
    by : (c.actor < actors) ⊎ (actors ≤ c.actor) → c.actor < actors
    by (inl less) = less
    by (inr less) =
        absurd (let e : Some found.NoSuchActor ≡ None = sym (ap against (beyond less)) ∙ none in let no : ⊥ = cc in no)

  module _ (there : c.actor < actors) where
    -- it is what the actor has left
    has : slice_get before.actors c.actor ≡ Some (c ∷ [])
    has =
        get_more c (none_left actors) c.actor [] (none_at actors c.actor there)
        ∙ ap (λ (l : List LineCommand). let o : Option (List LineCommand) = Some l in o) (given c)

    -- so it is of the graph by its command
    pub given_graph : (o : Outcome) → is_of_graph before (steps.Go c.actor) o ≡ is_graph_command c.command
    given_graph o =
        ap (λ l. option_map_or (λ (x : LineCommand). is_graph_command x.command) (option_and_then first_command l)
        false) has

    abbrev gone_world : World
    gone_world = with_commands before c.actor []

    answers : step before 0 (steps.Go c.actor)
        ≡ unless_found (waits_for before c.actor c.command) (do_command gone_world c.line c.actor c.command)
    unfolding step go
    answers = ap (λ l. go_of before c.actor l) has

    -- what it waits for is against it
    pub waiting : against (step before 0 (steps.Go c.actor)) ≡ waits_for before c.actor c.command
    waiting =
        ap against answers
        ∙ unless (waits_for before c.actor c.command) (do_command gone_world c.line c.actor c.command)

    module _ (none : None ≡ waits_for before c.actor c.command) where
      makes : step before 0 (steps.Go c.actor) ≡ Ok (do_command gone_world c.line c.actor c.command)
      makes =
          answers
          ∙ ap (λ o. unless_found o (do_command gone_world c.line c.actor c.command)) (sym none)

      -- it is made
      pub done : (new : State) (o : Outcome) → Does (λ w. do_command w c.line c.actor c.command) [] s new o
          → step before 0 (steps.Go c.actor) ≡ Ok (world (none_left actors) [] new, o)
      done new o does =
          let leads : List (List LineCommand) → Answer = λ lists. Ok (world lists [] new, o) in
          makes ∙ ap (λ (made : World × Outcome). let a : Answer = Ok made in a) (does gone_world.actors)
          ∙ ap leads (gone c actors)

      -- a close that is answered ok is decided as one
      pub closes : ClosesOk before 0 c.actor → SurelyCloses s c.actor c.command
      unfolding do_command
      closes is d decided =
          let same : c ≡ is.command =
          (let e : Some c ≡ Some is.command = sym (ap (option_and_then first_command) has) ∙ is.is_next in cc) in
          let named : c.command ≡ commands.Close is.name = ap (λ (x : LineCommand). x.command) same ∙ is.is_close in
          let out : ℕ → World × Outcome = λ line. (is.after, outcomes.Replied line replies.Ok) in
          let made : do_command gone_world c.line c.actor c.command ≡ out c.line =
          (let e : Ok (do_command gone_world c.line c.actor c.command) ≡ Ok (out is.command.line) =
          sym makes ∙ is.is_ok in
          let led : do_command gone_world c.line c.actor c.command ≡ out is.command.line = cc in
          led ∙ ap (λ (x : LineCommand). out x.line) (sym same)) in
          let close : close_handle gone_world c.line (handle_of gone_world c.actor is.name) ≡ out c.line =
          subst (λ (x : Command). do_command gone_world c.line c.actor x ≡ out c.line) named made in
          let ok = closed_ok gone_world c.line (handle_of gone_world c.actor is.name) is.after close in
          decided gone_world.actors [] ∙ ap (decision_of gone_world c.actor) named
          ∙ (let choose : Bool → Decision = λ b. if b then decisions.Closes else decisions.Other in ap choose ok)

-- A step, by its kind

module _ (actors : ℕ) (old new : State) (seat : ℕ) {st it : Step} (is : st ≡ it) where
  -- where nothing is against it, nothing is against the one that a match shows it to be
  pub none_by : IsFoundAgainst actors old seat st None → IsFoundAgainst actors old seat it None
  none_by none = subst (λ (x : Step). IsFoundAgainst actors old seat x None) is none

  -- what is against that one, is against it
  pub found_by : (f : Option Found) → IsFoundAgainst actors old seat it f → IsFoundAgainst actors old seat st f
  found_by f is_found = subst (λ (x : Step). IsFoundAgainst actors old seat x f) (sym is) is_found

  -- and it leads where that one does
  pub made_by : (o : Outcome) → Makes (λ w. step w seat it) [] old new o
      → Leads (world (none_left actors) [] old) seat st (world (none_left actors) [] new) o
  made_by o makes =
      subst (λ (x : Step). Leads (world (none_left actors) [] old) seat x (world (none_left actors) [] new) o) (sym is)
      (makes (none_left actors))

  -- by what comes of a call
  pub turned : (result : Result Outcome NoMemory) → IfOk result (λ o. Makes (λ w. step w seat it) [] old new o)
      → IfOk result (λ o. Leads (world (none_left actors) [] old) seat st (world (none_left actors) [] new) o)
  turned (Ok o) does = made_by o does
  turned (Err e) does = tt

  -- it isn't a Deliver where that one is none
  pub no_deliver_by : (IsEnabledDeliver (world (none_left actors) [] old) seat it → ⊥)
      → IsEnabledDeliver (world (none_left actors) [] old) seat st → ⊥
  no_deliver_by never sure = never (subst (λ (x : Step). IsEnabledDeliver (world (none_left actors) [] old) seat x)
      is sure)

-- What a command is answered that is given

module _ (l : Live) (c : LineCommand) where
  abbrev given_to : World
  given_to = with_command c (session_view l).world

  -- something is against it
  pub refused_given : (f : Found) → IsFoundGiven l.actors l.state c (Some f)
      → step given_to 0 (steps.Go c.actor) ≡ Err f
  refused_given f is = found_some (step given_to 0 (steps.Go c.actor)) f is

  -- nothing is, by what was found
  pub none_given_by : {f : Option Found} → f ≡ None → IsFoundGiven l.actors l.state c f
      → IsFoundGiven l.actors l.state c None
  none_given_by none is = subst (λ (f : Option Found). IsFoundGiven l.actors l.state c f) none is

  -- nothing is
  module _ (none : IsFoundGiven l.actors l.state c None) where
    pub enabled_given : IsOk (step given_to 0 (steps.Go c.actor))
    enabled_given = found_none (step given_to 0 (steps.Go c.actor)) none

    has_actor : c.actor < l.actors
    has_actor = given_there l.actors l.state c none

    waits_not : None ≡ waits_for given_to c.actor c.command
    waits_not = sym none ∙ waiting l.actors l.state c has_actor

    pub raised_given : (generation : ℕ) (o : Outcome)
        → generation ≡ next_generation l.generation (is_graph_command c.command)
        → generation ≡ next_generation l.generation (is_of_graph given_to (steps.Go c.actor) o)
    raised_given generation o raised =
        raised ∙ sym (ap (next_generation l.generation) (given_graph l.actors l.state c has_actor o))

    pub done_given : (s : State) (o : Outcome) → Does (λ w. do_command w c.line c.actor c.command) [] l.state s o
        → step given_to 0 (steps.Go c.actor) ≡ Ok (world (none_left l.actors) [] s, o)
    done_given = done l.actors l.state c has_actor waits_not

    pub closes_given : ClosesOk given_to 0 c.actor → SurelyCloses l.state c.actor c.command
    closes_given = closes l.actors l.state c has_actor waits_not
