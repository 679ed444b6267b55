-- What the outcomes of steps have that takes memory.
use Rattle.std.specs.Prelude.{◌≡◌, ℕ, false, List, ◌∷◌, slice_get, Option, Some, Ok, Err, IfSome, ⊤, [], None, Result, IfOk, option_and_then}
use Rattle.std.specs.Option.{unwrap_or, option_map}
use Rattle.std.proofs.Common.{subst, refl, sym, ◌∙◌, ap}
use Rattle.geo_model.specs.declared.command.Command.{Command}
use Rattle.geo_model.specs.declared.command.LineCommand.{LineCommand}
use Rattle.geo_model.specs.declared.class.Judged.{Judged}
use Rattle.geo_model.specs.declared.step.Outcome.{Outcome}
use Rattle.geo_model.specs.declared.step.Owner.{Owner}
use Rattle.geo_model.specs.declared.step.Step.{Step}
use Rattle.geo_model.specs.World.{World, Bio, bio_at, BioOf, bio_among}
use Rattle.geo_model.specs.Commands.{do_command}
use Rattle.geo_model.specs.Bios.{Way, Bounces, Fails, Sends, Splits, Passes, start_by, up_to, reply_of_result}
use Rattle.geo_model.specs.Tasting.{Judging, judged_world}
use Rattle.geo_model.specs.Step.{Answer, step, with_commands}
use Rattle.geo_model.proofs.CommandWalk.{any_graph_by}
use Rattle.geo_model.proofs.StepWalk.{step_by}
use Rattle.geo_core.specs.declared.twin.Spare.{Spare}
use Rattle.geo_core.specs.Twins.{HasReply, HasTwin, prints, HasOutcome, HasCommand, HasReplyOf, HasRead}
use Rattle.geo_base.specs.declared.block.NoMemory.{NoMemory}
use Rattle.geo_model.specs.declared.step.Entry.{Entry}
use Rattle.geo_model.specs.declared.step.Found.{Found}
use Rattle.geo_model.specs.declared.listing.GeomLine.{GeomLine}
use Rattle.geo_model.specs.Listing.{listing}
use Rattle.geo_model.specs.History.{first_command, next_command}
use Rattle.geo_model.specs.Laws.{ClosesOk}
use Rattle.geo_bio.specs.declared.bio.Held.{Held}
use Rattle.geo_log.specs.Places.{delivered_at}
use Rattle.geo_state.specs.Shown.{shown_bio}
use Rattle.geo_state.specs.ShownLaws.{BiosAreOfWorld}
use Rattle.geo_state.proofs.StepLemmas.{got_is, world_shows_bios}
use Rattle.geo_state.specs.declared.state.State.{State}
use Rattle.geo_state.specs.World.{world}
use Rattle.geo_core.specs.declared.running.Running.{Running}
use Rattle.geo_core.specs.Left.{left_of, next_command_of}
use Rattle.geo_core.specs.Mesh.{world_of}
use Rattle.geo_core.specs.Running.{seen, world_now, IsMesh}
use Rattle.geo_model.specs.declared.class.Judged.TheVariants as judgings
use Rattle.geo_model.specs.declared.step.BioResult.TheVariants as results
use Rattle.geo_model.specs.declared.step.Owner.TheVariants as owners
use Rattle.geo_model.specs.declared.step.Step.TheVariants as steps
use Rattle.geo_core.specs.declared.twin.Spare.TheVariants as spares
use Rattle.geo_model.specs.declared.command.Command.TheVariants as commands

-- each command but the one that prints the mesh
pub plain_command : (w : World) (spare : Spare) (line actor : ℕ) (c : Command) → prints c ≡ false
    → HasTwin (do_command w line actor c).1 spare
plain_command w spare line actor =
    any_graph_by w line actor (λ c made. prints c ≡ false → HasTwin made.1 spare)
    (λ c q e quiet. tt) (λ c q quiet. tt)
    (record {
      waits = λ c is quiet. tt;
      lists = λ quiet. absurd (let wrong : ⊥ = cc in wrong);
      opens = λ name prov grant p is quiet. tt;
      closes = λ name h is quiet. tt;
      accepts = λ c h a is quiet. tt;
    })

-- Steps

-- the outcome of an answer, if it is one of an enabled step, has nothing that isn't there once more
abbrev pub TwinAnswer : Answer → Spare → Type 0
TwinAnswer (Ok made) spare = HasTwin made.1 spare
TwinAnswer (Err found) spare = ⊤

pub twin_answer : (a : Answer) (spare : Spare) → TwinAnswer a spare → (after : World) (o : Outcome)
    → a ≡ Ok (after, o) → HasTwin o spare
twin_answer a spare is after o e = subst (λ (x : Answer). TwinAnswer x spare) e is

-- the outcome of a Judge has nothing, nor has that of a Start, whichever way its bio goes
judged_twin : (w : World) (spare : Spare) (x : Judging) (j : Judged) → HasTwin (judged_world w x j).1 spare
judged_twin w spare x (judgings.Read sector) = tt
judged_twin w spare x judgings.Next = tt
judged_twin w spare x judgings.Made = tt
judged_twin w spare x judgings.Ended = tt

way_twin : (w : World) (spare : Spare) (x : Bio) (way : Way) → HasTwin (start_by w x way).1 spare
way_twin w spare x (Bounces e) = tt
way_twin w spare x (Fails g) = tt
way_twin w spare x (Sends disk) = tt
way_twin w spare x (Splits targets) = tt
way_twin w spare x (Passes g targets) = tt

-- Up

-- what the reply to the line of a bio has is there once more
abbrev pub HasLine : Bio → Owner → Spare → Type 0
HasLine x (owners.Line handle line) spare = HasReply (reply_of_result (unwrap_or x.result results.Done)) spare
HasLine x _ spare = ⊤

owner_twin : (w : World) (spare : Spare) (x : Bio) (owner : Owner) → HasLine x owner spare
    → HasTwin (up_to w x owner).1 spare
owner_twin w spare x (owners.Line handle line) is = is
owner_twin w spare x owners.Taste is = tt
owner_twin w spare x (owners.Child parent index) is = tt

-- Each step

-- what the outcome of the step has, if it is enabled, is there once more: the answer of the next command, the bytes of
-- the bio that is taken, or the reply to the line of the bio that goes up
abbrev pub Has : World → Step → Spare → Type 0
Has w (steps.Go actor) spare =
    (c : LineCommand) (rest : List LineCommand) → slice_get w.actors actor ≡ Some (c ∷ rest)
    → HasTwin (do_command (with_commands w actor rest) c.line actor c.command).1 spare
Has w (steps.Take disk b) spare = IfSome (bio_at w b) (λ x. spare ≡ spares.Bytes x.bytes)
Has w (steps.Up b) spare = IfSome (bio_at w b) (λ x. HasLine x x.owner spare)
Has w s spare = ⊤

-- so it is in what the step answers
pub step_twin : (w : World) (spare : Spare) (seat : ℕ) (s : Step) → Has w s spare
    → TwinAnswer (step w seat s) spare
step_twin w spare seat =
    step_by w seat (λ s a. Has w s spare → TwinAnswer a spare) (record {
      refuses = λ s f has. tt;
      goes = λ actor c rest is has. has c rest is.left;
      runs = λ e rest is has. tt;
      judges = λ s x j is has. judged_twin w spare x j;
      reaps = λ h c is has. tt;
      washes = λ work is has. tt;
      starts = λ b x way is has. way_twin w spare x way;
      takes = λ disk b x is has.
          subst (λ (o : Option Bio). IfSome o (λ y. spare ≡ spares.Bytes y.bytes)) is.found has;
      delivers = λ b got x is has. tt;
      rises = λ b x o is has.
          owner_twin w spare x o
          (subst (λ (k : Owner). HasLine x k spare) is.owner
          (subst (λ (z : Option Bio). IfSome z (λ y. HasLine y y.owner spare)) is.found has));
    })

-- What is copied before a step is what its outcome has.

-- what holds of the world for which a mesh stands holds of the world of its log
here : (r : Running) → IsMesh r → (st : Step) (spare : Spare)
    → Has (world_now r) st spare → HasOutcome (world_of (seen r)) st spare
here r is st spare has seat after outcome e =
    twin_answer (step (world_now r) seat st) spare (step_twin (world_now r) spare seat st has) after outcome
    (subst (λ (w : World). step w seat st ≡ Ok (after, outcome)) (sym is.world) e)

module _ (r : Running) (is : IsMesh r) where
  abbrev log : ℕ → Option (List ℕ)
  log = delivered_at r.log.items

  abbrev bios : List (BioOf Held)
  bios = r.state.traffic.bios

  -- a bio of the world is that of the table
  there : (b : ℕ) → bio_at (world_now r) b ≡ option_map (shown_bio log) (bio_among bios b)
  there b =
      let shows : BiosAreOfWorld log bios (world_now r) = world_shows_bios log bios (world_now r) refl in shows.finds b

  -- a Go, by its command
  pub spare_go : (actor : ℕ) (c : LineCommand) (spare : Spare)
      → next_command_of (slice_get (left_of r.plan.commands r.left) actor) ≡ Ok c → HasCommand r.state c.command spare
      → HasOutcome (world_of (seen r)) (steps.Go actor) spare
  spare_go actor c spare next has =
      here r is (steps.Go actor) spare (λ d rest at.
      let after : World = with_commands (world_now r) actor rest in
      let first : next_command_of (Some (d ∷ rest)) ≡ Ok c = subst (λ o. next_command_of o ≡ Ok c) at next in
      let same : c ≡ d = cc first in
      subst (λ (x : LineCommand). HasTwin (do_command after x.line actor x.command).1 spare) same
      (has _ r.log.items c.line actor))

  pub spare_no_go : (actor : ℕ) (f : Found) (spare : Spare)
      → next_command_of (slice_get (left_of r.plan.commands r.left) actor) ≡ Err f
      → HasOutcome (world_of (seen r)) (steps.Go actor) spare
  spare_no_go actor f spare next =
      here r is (steps.Go actor) spare (λ d rest at.
      let first : next_command_of (Some (d ∷ rest)) ≡ Err f = subst (λ o. next_command_of o ≡ Err f) at next in
      absurd (let no : ⊥ = cc first in no))

  -- a step of a bio, by what was copied of the one that the state has
  copied : (st : Step) (b : ℕ) (P : BioOf Held → Spare → Type 0) (Q : Bio → Spare → Type 0)
      → ((x : BioOf Held) (spare : Spare) → P x spare → Q (shown_bio log x) spare)
      → ((spare : Spare) → IfSome (bio_at (world_now r) b) (λ x. Q x spare) → Has (world_now r) st spare)
      → (result : Result Spare NoMemory) → IfSome (bio_among bios b) (λ x. IfOk result (λ spare. P x spare))
      → IfOk result (λ spare. HasOutcome (world_of (seen r)) st spare)
  copied st b P Q shows has (Err e) made = tt
  copied st b P Q shows has (Ok spare) made =
      here r is st spare (has spare (subst (λ (o : Option Bio). IfSome o (λ x. Q x spare)) (sym (there b))
      (by (bio_among bios b) made)))
    where
      by : (o : Option (BioOf Held)) → IfSome o (λ x. P x spare)
          → IfSome (option_map (shown_bio log) o) (λ x. Q x spare)
      by None it = tt
      by (Some x) it = shows x spare it

  -- a Take has the bytes of its bio
  pub spare_take : (disk b : ℕ) (result : Result Spare NoMemory)
      → IfSome (bio_among bios b) (λ x. IfOk result (λ spare. spare ≡ spares.Bytes x.bytes))
      → IfOk result (λ spare. HasOutcome (world_of (seen r)) (steps.Take disk b) spare)
  spare_take disk b result made =
      copied (steps.Take disk b) b (λ x spare. spare ≡ spares.Bytes x.bytes) (λ x spare. spare ≡ spares.Bytes x.bytes)
      (λ x spare it. it) (λ spare it. it) result made

  -- an Up has the reply to the line of its bio
  line_by : (x : BioOf Held) (owner : Owner) (spare : Spare) → HasReplyOf log x owner spare
      → HasLine (shown_bio log x) owner spare
  line_by x (owners.Line handle line) spare has =
      subst (λ result. HasReply (reply_of_result result) spare) (sym (got_is log x.result)) has
  line_by x owners.Taste spare has = tt
  line_by x (owners.Child parent index) spare has = tt

  pub spare_up : (b : ℕ) (result : Result Spare NoMemory)
      → IfSome (bio_among bios b) (λ x. IfOk result (λ spare. HasRead log x spare))
      → IfOk result (λ spare. HasOutcome (world_of (seen r)) (steps.Up b) spare)
  spare_up b result made =
      copied (steps.Up b) b (λ x spare. HasRead log x spare) (λ x spare. HasLine x x.owner spare)
      (λ x spare it. line_by x x.owner spare it) (λ spare it. it) result made

  -- the others have nothing
  pub spare_none : (st : Step) → ((actor : ℕ) → st ≡ steps.Go actor → ⊥)
      → ((disk b : ℕ) → st ≡ steps.Take disk b → ⊥) → ((b : ℕ) → st ≡ steps.Up b → ⊥)
      → HasOutcome (world_of (seen r)) st spares.Nothing
  spare_none (steps.Go actor) go take up = absurd (go actor refl)
  spare_none (steps.Take disk b) go take up = absurd (take disk b refl)
  spare_none (steps.Up b) go take up = absurd (up b refl)
  spare_none s go take up = here r is s spares.Nothing tt

  -- a Go, by what comes of the copy
  pub spare_go_result : (actor : ℕ) (c : LineCommand) (result : Result Spare NoMemory)
      → next_command_of (slice_get (left_of r.plan.commands r.left) actor) ≡ Ok c
      → IfOk result (λ spare. HasCommand r.state c.command spare)
      → IfOk result (λ spare. HasOutcome (world_of (seen r)) (steps.Go actor) spare)
  spare_go_result actor c (Ok spare) next has = spare_go actor c spare next has
  spare_go_result actor c (Err e) next has = tt

  -- a close prints nothing
  same_command : (o : Option (List LineCommand)) (c d : LineCommand) → next_command_of o ≡ Ok c
      → option_and_then first_command o ≡ Some d → c ≡ d
  same_command None c d next first = absurd (let wrong : ⊥ = cc next in wrong)
  same_command (Some []) c d next first = absurd (let wrong : ⊥ = cc next in wrong)
  same_command (Some (x ∷ rest)) c d next first = cc (next, first)

  pub close_is_quiet : (seat actor : ℕ) (c : LineCommand)
      → next_command_of (slice_get (left_of r.plan.commands r.left) actor) ≡ Ok c
      → ClosesOk (world_of (seen r)) seat actor → prints c.command ≡ false
  close_is_quiet seat actor c next closes =
      let left = slice_get (left_of r.plan.commands r.left) actor in
      let first : option_and_then first_command left ≡ Some closes.command =
      subst (λ (w : World). next_command w actor ≡ Some closes.command) (sym is.world) closes.is_next in
      let same = same_command left c closes.command next first in
      ap (λ (x : LineCommand). prints x.command) same ∙ ap prints closes.is_close

-- a command that doesn't print has nothing
is_quiet : (c : Command) → (c ≡ commands.Mesh → ⊥) → prints c ≡ false
is_quiet commands.Mesh other = absurd (other refl)
is_quiet _ other = refl

pub quiet_command : (s : State) (c : Command) (spare : Spare) → (c ≡ commands.Mesh → ⊥) → HasCommand s c spare
quiet_command s c spare other actors log line actor =
    plain_command (world actors log s) spare line actor c (is_quiet c other)

-- the one that prints has the mesh
pub prints_lines : (s : State) (lines : List GeomLine) → ((actors : List (List LineCommand)) (log : List Entry)
    → lines ≡ listing (world actors log s)) → HasCommand s commands.Mesh (spares.Lines lines)
unfolding do_command
prints_lines s lines is actors log line actor = ap (λ (xs : List GeomLine). spares.Lines xs) (is actors log)
