-- A step that spends a place that was owed is never refused for want of a place.
use Rattle.std.specs.Prelude.{◌≡◌, ℕ, ◌+◌, ◌≤◌, ◌==◌, nat_lt, Bool, true, false, not, ◌&&◌, List, [], ◌∷◌, length, filter, count_by, slice_get, option_and_then, Option, Some, None, Ok}
use Rattle.std.specs.Option.{option_map_or}
use Rattle.std.proofs.Common.{refl, ap, arith}
use Rattle.std.proofs.lemmas.Bool.{le-ltb, eqb-true, eq-eqb}
use Rattle.geo_model.specs.declared.command.Command.TheVariants as commands
use Rattle.geo_model.specs.declared.command.LineCommand.{LineCommand}
use Rattle.geo_model.specs.declared.step.BioResult.{BioResult}
use Rattle.geo_model.specs.declared.step.DeviceResult.{DeviceResult}
use Rattle.geo_model.specs.declared.step.Entry.{Entry}
use Rattle.geo_model.specs.declared.step.Found.{Found}
use Rattle.geo_model.specs.declared.step.Outcome.{Outcome}
use Rattle.geo_model.specs.declared.step.Outcome.TheVariants as outcomes
use Rattle.geo_model.specs.declared.step.Phase.{Phase}
use Rattle.geo_model.specs.declared.step.Phase.TheVariants as phases
use Rattle.geo_model.specs.declared.step.Reply.TheVariants as replies
use Rattle.geo_model.specs.declared.step.Step.TheVariants as steps
use Rattle.geo_model.specs.World.{World, Bio, Handle, is_busy, is_active, bio_at, change_bio, change_number, handle_of}
use Rattle.geo_model.specs.Bios.{up_with, deliver, result_of_device}
use Rattle.geo_model.specs.Step.{step, go, go_of, with_commands, deliver_of, deliver_found, unless_found}
use Rattle.geo_base.specs.declared.errno.Errno.TheVariants.{EBADF, EBUSY}
use Rattle.geo_base.specs.declared.limits.TheConstants.{MAX_LOG_ENTRIES}
use Rattle.geo_model.specs.Words.{same_name}
use Rattle.geo_model.specs.WorldEvents.{after_close}
use Rattle.geo_model.specs.HandleCommands.{refused, without_handle, close_handle}
use Rattle.geo_model.specs.Commands.{do_command}
use Rattle.geo_model.specs.History.{first_command}
use Rattle.geo_model.specs.Laws.{ClosesOk}
use Rattle.geo_model.specs.Log.{owed, is_full, is_full_after}
use Rattle.geo_model.proofs.DemandLemmas.{find_passes}
use Rattle.geo_model.proofs.FullLemmas.{change_where-count-found, kept-length-found}

-- what a Deliver finds against itself says whether the bio is Busy
busy_of : (w : World) (seat : ℕ) (x : Bio) (got : DeviceResult) (phase : Phase)
    → deliver_found w seat x got phase ≡ None → is_busy phase ≡ true
busy_of w seat x got phases.Down e = cc
busy_of w seat x got phases.Sent e = cc
busy_of w seat x got (phases.Busy holder) e = refl
busy_of w seat x got phases.Waiting e = cc
busy_of w seat x got phases.Up e = cc
busy_of w seat x got phases.Done e = cc

-- a Busy bio that goes up leaves one place less owed
owed-up : (w : World) (x : Bio) (b : ℕ) (r : BioResult) → bio_at w b ≡ Some x → is_busy x.phase ≡ true
    → owed (change_bio w x.number (up_with r)) + 1 ≤ owed w
owed-up w x b r found busy =
    let same : x.number ≡ b = eqb-true x.number b (find_passes (λ (y : Bio). y.number == b) w.bios x found) in
    let less : count_by (λ (y : Bio). is_busy y.phase) (change_number b (up_with r) w.bios) + 1
    ≤ count_by (λ (y : Bio). is_busy y.phase) w.bios =
    change_where-count-found (λ (y : Bio). is_busy y.phase) (λ (y : Bio). y.number == b) (up_with r) (λ y. refl)
    w.bios x found busy in
    rw same (omega (arith, less))

-- an answer fits where it leaves one place less owed than the log has
fits-after : (n limit_left : ℕ) (w : World) (made : World × Outcome) → owed made.0 + 1 ≤ owed w
    → n + owed w ≤ MAX_LOG_ENTRIES → nat_lt MAX_LOG_ENTRIES (n + 1 + owed made.0) ≡ false
fits-after n limit_left w made less fits = le-ltb MAX_LOG_ENTRIES (n + 1 + owed made.0) (omega (arith, less, fits))

deliver-fits : (n : ℕ) (w : World) (seat b : ℕ) (got : DeviceResult) (x : Bio) (found : Option Found)
    → bio_at w b ≡ Some x → deliver_found w seat x got x.phase ≡ found → n + owed w ≤ MAX_LOG_ENTRIES
    → is_full_after n (unless_found found (deliver w x got)) ≡ false
unfolding deliver
deliver-fits n w seat b got x (Some f) e d fits = refl
deliver-fits n w seat b got x None e d fits =
    le-ltb MAX_LOG_ENTRIES (n + 1 + owed (change_bio w x.number (up_with (result_of_device got))))
    (omega (arith, owed-up w x b (result_of_device got) e (busy_of w seat x got x.phase d), fits))

deliver_of-fits : (n : ℕ) (w : World) (seat b : ℕ) (got : DeviceResult) (o : Option Bio)
    → bio_at w b ≡ o → n + owed w ≤ MAX_LOG_ENTRIES → is_full_after n (deliver_of w seat got o) ≡ false
deliver_of-fits n w seat b got None e fits = refl
deliver_of-fits n w seat b got (Some x) e fits =
    deliver-fits n w seat b got x (deliver_found w seat x got x.phase) e refl fits

pub deliver-is_full : (log : List Entry) (w : World) (seat b : ℕ) (got : DeviceResult)
    → length log + owed w ≤ MAX_LOG_ENTRIES → is_full log w seat (steps.Deliver b got) ≡ false
unfolding is_full step
deliver-is_full log w seat b got fits = deliver_of-fits (length log) w seat b got (bio_at w b) refl fits

-- a handle that is closed leaves one place less owed
owed-close : (w : World) (h : Handle) (actor : ℕ) (name : List ℕ) → handle_of w actor name ≡ Some h
    → owed (after_close w (without_handle w h)) + 1 ≤ owed w
owed-close w h actor name found =
    let less : length (filter (λ (x : Handle). not (x.number == h.number)) w.handles) + 1 ≤ length w.handles =
    kept-length-found (λ (x : Handle). x.number == h.number) (λ (x : Handle). (x.actor == actor)
    && same_name x.name name)
    w.handles h found (eq-eqb h.number h.number refl)
    in omega (arith, less)

-- the reply of a close that isn't refused
close-active : (n : ℕ) (w : World) (line actor : ℕ) (name : List ℕ) (h : Handle) (after : World) (b : Bool)
    → handle_of w actor name ≡ Some h → option_map_or (is_active w) h.consumer false ≡ b
    → close_handle w line (Some h) ≡ (after, outcomes.Replied line replies.Ok) → n + owed w ≤ MAX_LOG_ENTRIES
    → nat_lt MAX_LOG_ENTRIES (n + 1 + owed (close_handle w line (Some h)).0) ≡ false
close-active n w line actor name h after true found active ok fits =
    let same : refused w line EBUSY ≡ (after, outcomes.Replied line replies.Ok) = rw active at ok in
    let replied : outcomes.Replied line (replies.Refused EBUSY) ≡ outcomes.Replied line replies.Ok =
    ap (λ (x : World × Outcome). x.1) same in
    let no : ⊥ = cc in absurd no
close-active n w line actor name h after false found active ok fits =
    rw active
    (le-ltb MAX_LOG_ENTRIES (n + 1 + owed (after_close w (without_handle w h)))
    (omega (arith, owed-close w h actor name found, fits)))

close-found : (n : ℕ) (w : World) (line actor : ℕ) (name : List ℕ) (o : Option Handle) (after : World)
    → handle_of w actor name ≡ o
    → close_handle w line o ≡ (after, outcomes.Replied line replies.Ok) → n + owed w ≤ MAX_LOG_ENTRIES
    → nat_lt MAX_LOG_ENTRIES (n + 1 + owed (close_handle w line o).0) ≡ false
close-found n w line actor name None after found ok fits =
    let replied : outcomes.Replied line (replies.Refused EBADF) ≡ outcomes.Replied line replies.Ok =
    ap (λ (x : World × Outcome). x.1) ok in
    let no : ⊥ = cc in absurd no
close-found n w line actor name (Some h) after found ok fits =
    close-active n w line actor name h after (option_map_or (is_active w) h.consumer false) found refl ok fits

-- a step whose command is a close
go-close : (n : ℕ) (w : World) (actor : ℕ) (c : LineCommand) (rest : List LineCommand) (name : List ℕ) (after : World)
    → c.command ≡ commands.Close name
    → go_of w actor (Some (c ∷ rest)) ≡ Ok (after, outcomes.Replied c.line replies.Ok) → n + owed w ≤ MAX_LOG_ENTRIES
    → is_full_after n (go_of w actor (Some (c ∷ rest))) ≡ false
unfolding do_command
go-close n w actor c rest name after close ok fits =
    let closed : World × Outcome =
    close_handle (with_commands w actor rest) c.line (handle_of (with_commands w actor rest) actor name) in
    let made : Ok closed ≡ Ok (after, outcomes.Replied c.line replies.Ok) = rw close at ok in
    let same : closed ≡ (after, outcomes.Replied c.line replies.Ok) = cc in
    rw close
    (close-found n (with_commands w actor rest) c.line actor name
    (handle_of (with_commands w actor rest) actor name) after refl same fits)

go-of-close : (n : ℕ) (w : World) (actor : ℕ) (o : Option (List LineCommand)) (c : LineCommand) (name : List ℕ)
    (after : World)
    → option_and_then first_command o ≡ Some c → c.command ≡ commands.Close name
    → go_of w actor o ≡ Ok (after, outcomes.Replied c.line replies.Ok) → n + owed w ≤ MAX_LOG_ENTRIES
    → is_full_after n (go_of w actor o) ≡ false
go-of-close n w actor None c name after next close ok fits = cc
go-of-close n w actor (Some []) c name after next close ok fits = cc
go-of-close n w actor (Some (d ∷ rest)) c name after next close ok fits =
    let same : d ≡ c = cc in
    go-close n w actor d rest name after (rw same close) (rw same (rw same at ok)) fits

pub close-is_full : (log : List Entry) (w : World) (seat actor : ℕ)
    → ClosesOk w seat actor → length log + owed w ≤ MAX_LOG_ENTRIES → is_full log w seat (steps.Go actor) ≡ false
unfolding is_full step go
close-is_full log w seat actor closes fits =
    go-of-close (length log) w actor (slice_get w.actors actor) closes.command closes.name closes.after
    closes.is_next closes.is_close closes.is_ok fits
