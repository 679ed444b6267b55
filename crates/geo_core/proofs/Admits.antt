-- What is against a step, and whether it has its place in the log.
use Rattle.std.specs.Prelude.{◌≡◌, ℕ, ◌+◌, ◌<◌, ◌≤◌, true, false, List, [], ◌∷◌, Option, Some, None, Result, Ok, Err, IsOk, slice_get, Bool, ◌-◌, ◌^◌, length, slice_set, All, option_and_then, if◌then◌else◌}
use Rattle.std.specs.Option.{option_map_or}
use Rattle.std.proofs.Common.{refl, ◌∙◌, ap, sym, subst, arith}
use Rattle.std.proofs.lemmas.Bool.{lt-ltb, le-ltb}
use Rattle.std.proofs.lemmas.List.Elements.{All-contains}
use Rattle.geo_base.specs.declared.limits.TheConstants.{MAX_LOG_ENTRIES}
use Rattle.geo_model.specs.declared.command.LineCommand.{LineCommand}
use Rattle.geo_model.specs.declared.step.Entry.{Entry}
use Rattle.geo_model.specs.declared.step.Found.{Found}
use Rattle.geo_model.specs.declared.step.Outcome.{Outcome}
use Rattle.geo_model.specs.declared.step.Step.{Step}
use Rattle.geo_model.specs.World.{World, Handle, handle_of, is_active}
use Rattle.geo_model.specs.Step.{Answer, step, unless_found, go_of, waits_for, with_commands, go}
use Rattle.geo_model.specs.Commands.{do_command}
use Rattle.geo_model.specs.Log.{owed, is_full_after, world_after}
use Rattle.geo_state.specs.declared.state.State.{State}
use Rattle.geo_state.specs.Steps.{against, Does}
use Rattle.geo_state.specs.World.{world, HasBytes}
use Rattle.geo_core.specs.Left.{left_of, next_command_of, rest_of}
use Rattle.geo_core.specs.Moves.{IsFound, Moves}
use Rattle.geo_moves.specs.declared.decisions.Decision.{Decision}
use Rattle.geo_moves.specs.Decisions.{IsDecided, places_owed, decision_of, is_closed}
use Rattle.geo_core.specs.Goes.{IsReady, IsOwedAfter, IsDecidedNext}
use Rattle.geo_model.specs.declared.command.Command.{Command}
use Rattle.geo_model.specs.declared.step.DeviceResult.{DeviceResult}
use Rattle.geo_moves.proofs.Owed.{owed_changes}
use Rattle.geo_core.specs.declared.running.Running.{Running}
use Rattle.geo_core.specs.Mesh.{world_of}
use Rattle.geo_core.specs.Running.{seen, world_now, IsMesh}
use Rattle.geo_core.proofs.Meshes.{seen_firm, owed_shown, longer_world}
use Rattle.geo_base.proofs.MemberLists.{slot-contained}
use Rattle.geo_base.specs.declared.errno.Errno.TheVariants.{EBUSY}
use Rattle.geo_model.specs.Plans.{IsCommand}
use Rattle.geo_model.specs.HandleCommands.{close_handle}
use Rattle.geo_model.specs.History.{first_command}
use Rattle.geo_model.specs.Laws.{ClosesOk}
use Rattle.geo_laws_graph.proofs.Members.{Contains-here}
use Rattle.geo_model.specs.declared.step.Step.TheVariants as steps
use Rattle.geo_model.specs.declared.step.Outcome.TheVariants as outcomes
use Rattle.geo_model.specs.declared.step.Reply.TheVariants as replies
use Rattle.geo_moves.specs.declared.decisions.Decision.TheVariants as decisions

-- what is against a step is so in each world for which the state stands with these commands left
pub found_at : (commands : List LineCommand) (left : List ℕ) (s : State) (seat : ℕ) (st : Step) (f : Option Found)
    → IsFound commands left s seat st f → (log : List Entry)
    → against (step (world (left_of commands left) log s) seat st) ≡ f
unfolding step
found_at commands left s seat (steps.Go actor) f is log = is log
found_at commands left s seat st f is log = is (left_of commands left) log

-- what was found is what the step answers
pub found_some : (a : Answer) (f : Found) → against a ≡ Some f → a ≡ Err f
found_some (Ok made) f e = absurd (let no : ⊥ = cc in no)
found_some (Err g) f e = cc

-- a step against which nothing is, is enabled
pub found_none : (a : Answer) → against a ≡ None → IsOk a
found_none (Ok made) e = refl
found_none (Err found) e = absurd (let no : ⊥ = cc in no)

-- what a Go answers, by the actor's next command

-- where there is none
pub go_none : (w : World) (actor : ℕ) (o : Option (List LineCommand)) (f : Found) → next_command_of o ≡ Err f
    → against (go_of w actor o) ≡ Some f
go_none w actor None f e = cc
go_none w actor (Some []) f e = cc
go_none w actor (Some (c ∷ rest)) f e = absurd (let no : ⊥ = cc in no)

unless : (o : Option Found) (made : World × Outcome) → against (unless_found o made) ≡ o
unless None made = refl
unless (Some f) made = refl

-- where there is one, what it waits for
pub go_some : (w : World) (actor : ℕ) (o : Option (List LineCommand)) (c : LineCommand) → next_command_of o ≡ Ok c
    → against (go_of w actor o) ≡ waits_for w actor c.command
go_some w actor None c e = absurd (let no : ⊥ = cc in no)
go_some w actor (Some []) c e = absurd (let no : ⊥ = cc in no)
go_some w actor (Some (d ∷ rest)) c e =
    let same : d ≡ c = cc in
    unless (waits_for w actor d.command) (do_command (with_commands w actor rest) d.line actor d.command)
    ∙ ap (λ (x : LineCommand). waits_for w actor x.command) same

-- an enabled Go makes its command, with what is left after it
pub go_does : (w : World) (actor : ℕ) (o : Option (List LineCommand)) (c : LineCommand) → next_command_of o ≡ Ok c
    → against (go_of w actor o) ≡ None
    → go_of w actor o ≡ Ok (do_command (with_commands w actor (rest_of o)) c.line actor c.command)
go_does w actor None c e none = absurd (let no : ⊥ = cc in no)
go_does w actor (Some []) c e none = absurd (let no : ⊥ = cc in no)
go_does w actor (Some (d ∷ rest)) c e none = by (waits_for w actor d.command) refl where
  same : d ≡ c
  same = cc

  by : (o : Option Found) → waits_for w actor d.command ≡ o
      → go_of w actor (Some (d ∷ rest)) ≡ Ok (do_command (with_commands w actor rest) c.line actor c.command)
  by None is =
      rw is (let P : LineCommand → Answer = λ x. Ok (do_command (with_commands w actor rest) x.line actor x.command) in
      ap P same)
  by (Some f) is = absurd (let no : ⊥ = cc (
    none,
    unless (waits_for w actor d.command)
        (do_command (with_commands w actor rest) d.line actor d.command),
    is,
  ) in no)

-- places

pub full_is : (entries : ℕ) (a : Answer) (after : World) (outcome : Outcome) → a ≡ Ok (after, outcome)
    → MAX_LOG_ENTRIES < entries + 1 + owed after → is_full_after entries a ≡ true
full_is entries a after outcome e h = rw e (lt-ltb MAX_LOG_ENTRIES (entries + 1 + owed after) h)

pub full_not : (entries : ℕ) (a : Answer) (after : World) (outcome : Outcome) → a ≡ Ok (after, outcome)
    → entries + 1 + owed after ≤ MAX_LOG_ENTRIES → is_full_after entries a ≡ false
full_not entries a after outcome e h = rw e (le-ltb MAX_LOG_ENTRIES (entries + 1 + owed after) h)

-- what ended with an error isn't ok
pub not_ok : {A E : Type 0} (r : Result A E) (e : E) → r ≡ Err e → IsOk r → ⊥
not_ok (Ok a) e was ok = let no : ⊥ = cc was in no
not_ok (Err d) e was ok = let no : ⊥ = cc ok in no

-- What is found against a step, and what is decided of it, by its kind.

module _ (commands : List LineCommand) (left : List ℕ) (s : State) (actor : ℕ) where
  -- against a Go is what its command waits for
  pub found_next : (c : LineCommand) (f : Option Found)
      → next_command_of (slice_get (left_of commands left) actor) ≡ Ok c
      → ((actors : List (List LineCommand)) (log : List Entry) → f ≡ waits_for (world actors log s) actor c.command)
      → (log : List Entry) → against (go (world (left_of commands left) log s) actor) ≡ f
  unfolding go
  found_next c f e waits log =
      go_some (world (left_of commands left) log s) actor (slice_get (left_of commands left) actor) c e
      ∙ sym (waits (left_of commands left) log)

  -- or that there is none
  pub found_nothing : (f : Found) → next_command_of (slice_get (left_of commands left) actor) ≡ Err f
      → (log : List Entry) → against (go (world (left_of commands left) log s) actor) ≡ Some f
  unfolding go
  found_nothing f e log =
      go_none (world (left_of commands left) log s) actor (slice_get (left_of commands left) actor) f e

  -- what is decided of the next command
  pub ready_some : (c : LineCommand) (d : Decision) → next_command_of (slice_get (left_of commands left) actor) ≡ Ok c
      → IsDecided s actor c.command d → IsReady commands left s (steps.Go actor) (Some d)
  ready_some c d e decided other same =
      let one : c ≡ other = cc (e, same) in subst (λ (x : LineCommand). IsDecided s actor x.command d) one decided

  pub ready_none : (f : Found) → next_command_of (slice_get (left_of commands left) actor) ≡ Err f
      → IsReady commands left s (steps.Go actor) None
  ready_none f e other same = let wrong : ⊥ = cc (e, same) in wrong

-- nothing is decided of another step
pub ready_other : (commands : List LineCommand) (left : List ℕ) (s : State) (st : Step)
    → ((actor : ℕ) → st ≡ steps.Go actor → ⊥) → IsReady commands left s st None
ready_other commands left s (steps.Go actor) other = absurd (other actor refl)
ready_other commands left s st other = tt

-- what is found against a step is what is found against the one that a match shows it to be
pub found_by : (commands : List LineCommand) (left : List ℕ) (s : State) (seat : ℕ) (f : Option Found) {st it : Step}
    → st ≡ it → IsFound commands left s seat it f → IsFound commands left s seat st f
found_by commands left s seat f is found =
    subst (λ (x : Step). IsFound commands left s seat x f) (sym is) found

-- How many places of the log are owed after a step.

-- what the state tells is what is owed
pub owed_is : (r : Running) → IsMesh r → owed (world_of (seen r)) ≡ places_owed r.state
owed_is r is =
    ap (λ (w : World). owed w) (sym is.world) ∙ owed_shown (left_of r.plan.commands r.left) r.log.items r.state

-- it is little
pub owed_few : (r : Running) → IsMesh r → places_owed r.state < 2 ^ 63
owed_few r is =
    let same = owed_is r is in let most = is.lawful.1 in
    omega (arith, same, most)

-- the log is within its limit
pub log_few : (r : Running) → IsMesh r → length r.log.items + places_owed r.state ≤ MAX_LOG_ENTRIES
log_few r is = let same = owed_is r is in let most = is.lawful.1 in omega (arith, same, most)

-- an enabled Go has a next command
go_command : (w : World) (actor : ℕ) (o : Option (List LineCommand)) (after : World) (outcome : Outcome)
    → go_of w actor o ≡ Ok (after, outcome) → (c : LineCommand) × (next_command_of o ≡ Ok c)
go_command w actor None after outcome e = absurd (let no : ⊥ = cc in no)
go_command w actor (Some []) after outcome e = absurd (let no : ⊥ = cc in no)
go_command w actor (Some (c ∷ rest)) after outcome e = (c, refl)

-- a Go owes what its command does
pub owed_go : (r : Running) → IsMesh r → (actor : ℕ) (d : Decision) (n : ℕ)
    → IsReady r.plan.commands r.left r.state (steps.Go actor) (Some d)
    → ((actors : List (List LineCommand)) (log : List Entry) (line actor : ℕ) (c : Command)
    → IsDecided r.state actor c d → n ≡ owed (do_command (world actors log r.state) line actor c).0)
    → IsOwedAfter (world_of (seen r)) (steps.Go actor) n
unfolding step go
owed_go r is actor d n ready tells seat after outcome e =
    let left : List (List LineCommand) = left_of r.plan.commands r.left in
    let w : World = world_now r in
    let o : Option (List LineCommand) = slice_get left actor in
    let here : go_of w actor o ≡ Ok (after, outcome) =
    subst (λ (v : World). go_of v actor (slice_get v.actors actor) ≡ Ok (after, outcome)) (sym is.world) e in
    let next = go_command w actor o after outcome here in
    let none : against (go_of w actor o) ≡ None = ap against here in
    let does = go_does w actor o next.0 next.1 none in
    let told =
    tells (slice_set left actor (rest_of o)) r.log.items next.0.line actor next.0.command (ready next.0 next.1) in
    told ∙ ap (λ (a : Answer). owed (world_after after a)) (sym does ∙ here)

-- a Go that has no next command isn't enabled
pub owed_none : (r : Running) → IsMesh r → (actor n : ℕ)
    → IsReady r.plan.commands r.left r.state (steps.Go actor) None
    → IsOwedAfter (world_of (seen r)) (steps.Go actor) n
unfolding step go
owed_none r is actor n ready seat after outcome e =
    let w : World = world_now r in
    let o : Option (List LineCommand) = slice_get (left_of r.plan.commands r.left) actor in
    let here : go_of w actor o ≡ Ok (after, outcome) =
    subst (λ (v : World). go_of v actor (slice_get v.actors actor) ≡ Ok (after, outcome)) (sym is.world) e in
    let next = go_command w actor o after outcome here in
    absurd (ready next.0 next.1)

-- another step owes by what it begins to owe and pays

module _ (r : Running) (is : IsMesh r) where
  pub owed_take : (disk b n : ℕ) → n ≡ places_owed r.state + 1 → IsOwedAfter (world_of (seen r)) (steps.Take disk b) n
  owed_take disk b n e seat after outcome does =
      let changes = owed_changes (world_of (seen r)) seat (steps.Take disk b) after outcome (seen_firm r is) does in
      let same = owed_is r is in omega (arith, changes, same, e)

  pub owed_deliver : (b n : ℕ) (got : DeviceResult)
      → n ≡ places_owed r.state - 1 → IsOwedAfter (world_of (seen r)) (steps.Deliver b got) n
  owed_deliver b n got e seat after outcome does =
      let changes = owed_changes (world_of (seen r)) seat (steps.Deliver b got) after outcome (seen_firm r is) does in
      let same = owed_is r is in omega (arith, changes, same, e)

  -- after a step that begins to owe no place, and pays none, as much is owed as before
  as_before : (after : World) (n : ℕ) → owed after + 0 ≡ owed (world_of (seen r)) + 0 → n ≡ places_owed r.state
      → n ≡ owed after
  as_before after n changes e = let same = owed_is r is in omega (arith, changes, same, e)

  pub owed_same : (it : Step) → ((actor : ℕ) → it ≡ steps.Go actor → ⊥)
      → ((disk b : ℕ) → it ≡ steps.Take disk b → ⊥) → ((b : ℕ) (got : DeviceResult) → it ≡ steps.Deliver b got → ⊥)
      → (n : ℕ) → n ≡ places_owed r.state → IsOwedAfter (world_of (seen r)) it n
  owed_same (steps.Go actor) go take deliver n e seat after outcome does = absurd (go actor refl)
  owed_same (steps.Take disk b) go take deliver n e seat after outcome does = absurd (take disk b refl)
  owed_same (steps.Deliver b got) go take deliver n e seat after outcome does = absurd (deliver b got refl)
  owed_same it go take deliver n e seat after outcome does =
      as_before after n (owed_changes (world_of (seen r)) seat it after outcome (seen_firm r is) does) e

-- A Go: what its command does, and when it takes no memory.

-- a Go leads where its command does
pub went : (commands : List LineCommand) (left rest : List ℕ) (old new : State) (actor : ℕ) (c : LineCommand)
    (o : Outcome) (log : List Entry) → next_command_of (slice_get (left_of commands left) actor) ≡ Ok c
    → against (go (world (left_of commands left) log old) actor) ≡ None
    → Does (λ w. do_command w c.line actor c.command) log old new o
    → left_of commands rest
    ≡ slice_set (left_of commands left) actor (rest_of (slice_get (left_of commands left) actor))
    → go (world (left_of commands left) log old) actor ≡ Ok (world (left_of commands rest) log new, o)
unfolding go
went commands left rest old new actor c o log next none does gone =
    let all : List (List LineCommand) = left_of commands left in
    let after : List (List LineCommand) = slice_set all actor (rest_of (slice_get all actor)) in
    let result : World × Outcome → Answer = λ made. Ok made in
    let leads : List (List LineCommand) → Answer = λ actors. Ok (world actors log new, o) in
    go_does (world all log old) actor (slice_get all actor) c next none ∙ ap result (does after)
    ∙ ap leads (sym gone)

-- also where the log has one more entry
pub moved : (commands : List LineCommand) (log : List Entry) (left rest : List ℕ) (old new : State) (seat actor : ℕ)
    (o : Outcome) → HasBytes log new
    → go (world (left_of commands left) log old) actor ≡ Ok (world (left_of commands rest) log new, o)
    → Moves commands log left rest old new seat (steps.Go actor) o
unfolding step
moved commands log left rest old new seat actor o bytes does e same =
    let result : World → Answer = λ w. Ok (w, o) in
    does ∙ ap result (sym (longer_world (left_of commands rest) log (e ∷ []) new bytes))

-- the next command is one of those that are left

abbrev AreCommands : List LineCommand → Type 0
AreCommands = All (λ (x : LineCommand). IsCommand x.command)

pub next_is_command : (xss : List (List LineCommand)) (actor : ℕ) (c : LineCommand)
    → next_command_of (slice_get xss actor) ≡ Ok c → All AreCommands xss → IsCommand c.command
next_is_command xss actor c e all = by (slice_get xss actor) refl where
  by : (o : Option (List LineCommand)) → slice_get xss actor ≡ o → IsCommand c.command
  by None at = absurd (let no : ⊥ = cc (ap next_command_of at, e) in no)
  by (Some []) at = absurd (let no : ⊥ = cc (ap next_command_of at, e) in no)
  by (Some (d ∷ rest)) at =
      let front : AreCommands (d ∷ rest) =
      All-contains AreCommands xss (d ∷ rest) all (slot-contained xss actor (d ∷ rest) at) in
      let one : IsCommand d.command =
      All-contains (λ (x : LineCommand). IsCommand x.command) (d ∷ rest) d front (Contains-here d rest) in
      let same : d ≡ c = cc (ap next_command_of at, e) in
      subst (λ (x : LineCommand). IsCommand x.command) same one

-- a close that is answered ok

closed_ok : (w : World) (line : ℕ) (o : Option Handle) (after : World)
    → close_handle w line o ≡ (after, outcomes.Replied line replies.Ok) → is_closed w o ≡ true
closed_ok w line None after e =
    absurd (let no : ⊥ = cc (ap (λ (made : World × Outcome). made.1) e) in no)
closed_ok w line (Some h) after e = by (option_map_or (is_active w) h.consumer false) refl where
  by : (b : Bool) → option_map_or (is_active w) h.consumer false ≡ b → is_closed w (Some h) ≡ true
  by false idle = rw idle refl
  by true busy =
      let refused : (close_handle w line (Some h)).1 ≡ outcomes.Replied line (replies.Refused EBUSY) = rw busy refl in
      absurd (let no : ⊥ = cc (ap (λ (made : World × Outcome). made.1) e, refused) in no)

next_first : (o : Option (List LineCommand)) (c : LineCommand) → option_and_then first_command o ≡ Some c
    → next_command_of o ≡ Ok c
next_first None c e = absurd (let no : ⊥ = cc in no)
next_first (Some []) c e = absurd (let no : ⊥ = cc in no)
next_first (Some (d ∷ rest)) c e =
    let same : d ≡ c = cc in ap (λ (x : LineCommand). let r : Result LineCommand Found = Ok x in r) same

-- is decided as one
pub closes_surely : (commands : List LineCommand) (left : List ℕ) (s : State) (log : List Entry) (seat actor : ℕ)
    (d : Decision) → ClosesOk (world (left_of commands left) log s) seat actor
    → IsDecidedNext commands left s actor d → d ≡ decisions.Closes
unfolding step go do_command
closes_surely commands left s log seat actor d closes decided =
    let all : List (List LineCommand) = left_of commands left in
    let o : Option (List LineCommand) = slice_get all actor in
    let w : World = world all log s in
    let c : LineCommand = closes.command in
    let next : next_command_of o ≡ Ok c = next_first o c closes.is_next in
    let here : go_of w actor o ≡ Ok (closes.after, outcomes.Replied c.line replies.Ok) = closes.is_ok in
    let does = go_does w actor o c next (ap against here) in
    let v : World = with_commands w actor (rest_of o) in
    let answered : do_command v c.line actor c.command ≡ (closes.after, outcomes.Replied c.line replies.Ok) =
    cc (does, here) in
    let close : close_handle v c.line (handle_of v actor closes.name)
    ≡ (closes.after, outcomes.Replied c.line replies.Ok) =
    subst (λ (x : Command). do_command v c.line actor x ≡ (closes.after, outcomes.Replied c.line replies.Ok))
    closes.is_close answered in
    let ok = closed_ok v c.line (handle_of v actor closes.name) closes.after close in
    decided c next (slice_set all actor (rest_of o)) log
    ∙ ap (decision_of v actor) closes.is_close
    ∙ (let choose : Bool → Decision = λ b. if b then decisions.Closes else decisions.Other in ap choose ok)
