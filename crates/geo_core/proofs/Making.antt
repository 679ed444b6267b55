-- A step is made, by its kind.
use Rattle.std.specs.Prelude.{◌≡◌, ℕ, List, [], ◌∷◌, Option, Some, None, Result, ◌++◌, Ok, Err, IfOk, IsOk, OnErr, slice_get}
use Rattle.std.proofs.Common.{refl, sym, subst}
use Rattle.std.proofs.lemmas.Result.{IfOk-weaker}
use Rattle.geo_base.specs.declared.block.NoMemory.{NoMemory}
use Rattle.geo_model.specs.declared.command.LineCommand.{LineCommand}
use Rattle.geo_model.specs.declared.step.Entry.{Entry}
use Rattle.geo_model.specs.declared.step.Outcome.{Outcome}
use Rattle.geo_model.specs.declared.step.Step.{Step}
use Rattle.geo_model.specs.World.{World, bio_at}
use Rattle.geo_model.specs.Laws.{ClosesOk}
use Rattle.geo_model.specs.Step.{step, go, go_of, deliver_of}
use Rattle.geo_state.specs.declared.state.State.{State}
use Rattle.geo_state.specs.Steps.{against, Makes}
use Rattle.geo_state.specs.World.{world, HasBytes}
use Rattle.geo_moves.specs.declared.decisions.Decision.{Decision}
use Rattle.geo_core.specs.declared.running.Running.{Running}
use Rattle.geo_core.specs.Goes.{IsReady}
use Rattle.geo_core.specs.Left.{left_of, next_command_of}
use Rattle.geo_core.specs.Mesh.{world_of, IsSure}
use Rattle.geo_core.specs.Moves.{IsFound, Moves}
use Rattle.geo_core.specs.Running.{seen, world_now, IsMesh}
use Rattle.geo_core.proofs.Admits.{moved}
use Rattle.geo_core.proofs.Meshes.{longer_bytes, turned}
use Rattle.geo_model.specs.declared.step.DeviceResult.{DeviceResult}
pub use Rattle.geo_moves.proofs.Phased.{is_down_now, is_up_now}
use Rattle.geo_model.specs.declared.step.Step.TheVariants as steps

-- a Go

-- an enabled one has a next command
pub go_next : (w : World) (actor : ℕ) (o : Option (List LineCommand)) → against (go_of w actor o) ≡ None
    → (c : LineCommand) × (next_command_of o ≡ Ok c)
go_next w actor None none = absurd (let no : ⊥ = cc in no)
go_next w actor (Some []) none = absurd (let no : ⊥ = cc in no)
go_next w actor (Some (c ∷ rest)) none = (c, refl)

pub go_next_of : (commands : List LineCommand) (left : List ℕ) (s : State) (actor : ℕ) → ((log : List Entry)
    → against (go (world (left_of commands left) log s) actor) ≡ None)
    → (c : LineCommand) × (next_command_of (slice_get (left_of commands left) actor) ≡ Ok c)
unfolding go
go_next_of commands left s actor none =
    go_next (world (left_of commands left) [] s) actor (slice_get (left_of commands left) actor) (none [])

-- whose seat doesn't matter
pub closes_by : (w : World) (seat other actor : ℕ) → ClosesOk w seat actor → ClosesOk w other actor
unfolding step
closes_by w seat other actor closes = record {
  command = closes.command;
  is_next = closes.is_next;
  name = closes.name;
  is_close = closes.is_close;
  after = closes.after;
  is_ok = closes.is_ok;
}

-- a step that is never refused in the world of the log is so in that for which the mesh stands
pub sure_now : (r : Running) → IsMesh r → (seat : ℕ) (st : Step) → IsSure (world_of (seen r)) seat st
    → IsSure (world_now r) seat st
sure_now r is seat st sure = subst (λ (w : World). IsSure w seat st) (sym is.world) sure

-- By what comes of a step

pub go_moves : (commands : List LineCommand) (log : List Entry) (left rest : List ℕ) (old new : State)
    (seat actor : ℕ) (st : Step) (result : Result Outcome NoMemory) → st ≡ steps.Go actor → HasBytes log new
    → IfOk result (λ o.
    go (world (left_of commands left) log old) actor ≡ Ok (world (left_of commands rest) log new, o))
    → IfOk result (λ o. Moves commands log left rest old new seat st o)
go_moves commands log left rest old new seat actor st result is bytes made =
    IfOk-weaker result
    (λ o. go (world (left_of commands left) log old) actor ≡ Ok (world (left_of commands rest) log new, o))
    (λ o. Moves commands log left rest old new seat st o)
    (λ o did. subst (λ (x : Step). Moves commands log left rest old new seat x o) (sym is)
    (moved commands log left rest old new seat actor o bytes did)) made

pub more_bytes : (log : List Entry) (s : State) (result : Result Outcome NoMemory) → HasBytes log s
    → IfOk result (λ o. (e : Entry) → HasBytes (log ++ e ∷ []) s)
more_bytes log s (Ok o) bytes = λ e. longer_bytes log e s bytes
more_bytes log s (Err e) bytes = tt

pub all_bytes : (log : List Entry) (s : State) (result : Result Outcome NoMemory) → HasBytes log s
    → OnErr result (HasBytes log s)
all_bytes log s (Ok o) bytes = tt
all_bytes log s (Err e) bytes = bytes

same_left : (left : List ℕ) (result : Result Outcome NoMemory) → OnErr result (left ≡ left)
same_left left (Ok o) = tt
same_left left (Err e) = refl

-- what is answered to a step that leaves the commands
pub record IsTurned (commands : List LineCommand) (log : List Entry) (left : List ℕ) (old new : State) (seat : ℕ)
    (st : Step) (result : Result Outcome NoMemory) : Type 0 where
  pub made : IfOk result (λ o. Moves commands log left left old new seat st o)
  pub left_stays : OnErr result (left ≡ left)
  pub logged : IfOk result (λ o. (e : Entry) → HasBytes (log ++ e ∷ []) new)
  pub bytes : OnErr result (HasBytes log new)
  pub sure : IsSure (world (left_of commands left) log old) seat st → IsOk result

-- a Go that is ready, by what the step is and by what was decided of it
module _ (commands : List LineCommand) (left : List ℕ) (s : State) {st : Step} {actor : ℕ} {d e : Option Decision}
    (is : st ≡ steps.Go actor) (decided : d ≡ e) where
  pub ready_go : IsReady commands left s st d → IsReady commands left s (steps.Go actor) e
  ready_go ready =
      subst (λ (o : Option Decision). IsReady commands left s (steps.Go actor) o) decided
      (subst (λ (x : Step). IsReady commands left s x d) is ready)

-- Steps that aren't commands: where they lead, and what is against them.

-- each leaves the commands, and does what the one does that a match shows it to be
module _ (commands : List LineCommand) (log : List Entry) (left : List ℕ) (old new : State) (seat : ℕ) {st it : Step}
    (is : st ≡ it) where
  pub turn_moves : (o : Outcome) → HasBytes log new → Makes (λ w. step w seat it) log old new o
      → Moves commands log left left old new seat st o
  turn_moves o bytes makes =
      subst (λ (x : Step). Moves commands log left left old new seat x o) (sym is)
      (λ e same. turned (λ w. step w seat it) log old new o makes bytes (left_of commands left) e)

  abbrev IsSureOf : Step → Type 0
  IsSureOf x = IsSure (world (left_of commands left) log old) seat x

  -- one that isn't a Deliver may be refused
  pub turn_unsure : (IsSureOf it → ⊥) → IsSureOf st → ⊥
  turn_unsure unsure sure = unsure (subst IsSureOf is sure)

  -- what is answered to it, by what comes of a call
  pub step_turned : (result : Result Outcome NoMemory) → (IsSureOf it → ⊥) → HasBytes log new
      → IfOk result (λ o. Makes (λ w. step w seat it) log old new o)
      → IsTurned commands log left old new seat st result
  step_turned result unsure bytes makes = record {
    made = IfOk-weaker result (λ o. Makes (λ w. step w seat it) log old new o)
        (λ o. Moves commands log left left old new seat st o) (λ o made. turn_moves o bytes made) makes;
    left_stays = same_left left result;
    logged = more_bytes log new result bytes;
    bytes = all_bytes log new result bytes;
    sure = λ sure. absurd (turn_unsure unsure sure);
  }

-- a Deliver, whose entry comes next
pub deliver_moves : (commands : List LineCommand) (log : List Entry) (left : List ℕ) (old new : State) (seat b : ℕ)
    (got : DeviceResult) (o : Outcome) {st : Step} → st ≡ steps.Deliver b got
    → ((e : Entry) → e.step ≡ steps.Deliver b got → (actors : List (List LineCommand))
    → deliver_of (world actors log old) seat got (bio_at (world actors log old) b)
    ≡ Ok (world actors (log ++ e ∷ []) new, o))
    → Moves commands log left left old new seat st o
unfolding step
deliver_moves commands log left old new seat b got o is makes =
    subst (λ (x : Step). Moves commands log left left old new seat x o) (sym is)
    (λ e same. makes e same (left_of commands left))

-- What is against each of them

-- where nothing is against a step, nothing is against the one that a match shows it to be
pub none_by : (commands : List LineCommand) (left : List ℕ) (s : State) (seat : ℕ) {st it : Step} → st ≡ it
    → IsFound commands left s seat st None → IsFound commands left s seat it None
none_by commands left s seat is none = subst (λ (x : Step). IsFound commands left s seat x None) is none
