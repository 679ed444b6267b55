-- Each command of a handle, and the step by which an actor does its next command, keep a firm mesh firm.
use Rattle.std.specs.Prelude.{◌≡◌, ℕ, ◌==◌, ◌&&◌, Bool, true, false, List, [], ◌∷◌, Option, Some, None, Contains, IfSome, option_and_then, slice_get}
use Rattle.std.proofs.Common.{refl, subst}
use Rattle.std.proofs.lemmas.Bool.{not-true}
use Rattle.geo_model.specs.declared.command.Command.{Command}
use Rattle.geo_model.specs.declared.command.LineCommand.{LineCommand}
use Rattle.geo_model.specs.declared.step.Found.{Found}
use Rattle.geo_model.specs.declared.step.Outcome.{Outcome}
use Rattle.geo_model.specs.declared.step.Step.TheVariants as steps
use Rattle.geo_model.specs.Words.{same_name}
use Rattle.geo_model.specs.World.{World, Handle, handle_of}
use Rattle.geo_model.specs.WorldEvents.{after_close}
use Rattle.geo_model.specs.Requests.{Asking}
use Rattle.geo_model.specs.HandleCommands.{without_handle, accept_request}
use Rattle.geo_model.specs.Commands.{do_command}
use Rattle.geo_model.specs.CommandEffects.{is_of_geoms, IsClosed, IsAsked}
use Rattle.geo_model.specs.Plans.{IsCommand}
use Rattle.geo_model.specs.Step.{unless_found, waits_for, with_commands, go_of, go, step}
use Rattle.geo_model.specs.Log.{world_after}
use Rattle.geo_model.specs.History.{first_command, next_command}
use Rattle.geo_model.specs.Laws.{world_by}
use Rattle.geo_model.specs.Fitting.{Firm}
use Rattle.geo_model.proofs.CommandWalk.{request_is, close_is, handles_by}
use Rattle.geo_laws_graph.proofs.Members.{find-Contains}
use Rattle.geo_laws_handles.proofs.Closed.{closes_stay_firm}
use Rattle.geo_laws_handles.proofs.Opening.{opened_on-firm, opens_stay_firm}
use Rattle.geo_laws_handles.specs.CommandLaws.{is_of_handles, EachStaysFirm, HandleCommandsStayFirm, GoesStayFirm}
use Rattle.geo_laws_handles.proofs.Left.{commands_left_stay_firm}
use Rattle.geo_laws_handles.proofs.Requested.{requests_stay_firm}

module _ (w : World) (firm : Firm w) (line actor : ℕ) where
  -- the handle of a name stands
  handle_stands : (name : List ℕ) (h : Handle) → handle_of w actor name ≡ Some h → Contains w.handles h
  handle_stands name h found =
      find-Contains (λ (x : Handle). (x.actor == actor) && same_name x.name name) w.handles h found

  -- a handle is closed
  closed-firm : (name : List ℕ) (h : Handle) → IsClosed w actor name h
      → Firm (after_close w (without_handle w h))
  closed-firm name h is =
      subst (λ (made : World × Outcome). Firm made.0) (close_is w line h is.idle)
      (closes_stay_firm.handle w line h (handle_stands name h is.found) firm)

  -- a request is accepted
  accepted-firm : (c : Command) (h : Handle) (a : Asking) → IsAsked w actor c h a → IsCommand c
      → Firm (accept_request w line h a).0
  accepted-firm c h a is form =
      subst (λ (made : World × Outcome). Firm made.0) (request_is w line h a is.passes)
      (requests_stay_firm.handle w line h a (handle_stands is.name h is.found)
      (is.formed.bytes form firm.sizes.sectors) firm)

  -- each command of a handle
  done-firm : (c : Command) → is_of_geoms c ≡ false → IsCommand c → Firm (do_command w line actor c).0
  done-firm =
      handles_by w line actor (λ c made. IsCommand c → Firm made.0)
      (record { refuses = λ c e form. firm; numbers = λ c e form. opens_stay_firm.number w firm })
      (record {
        waits = λ c is form. firm;
        lists = λ form. firm;
        opens = λ name prov grant p is form. opened_on-firm w actor name prov p grant is.found is.passes firm;
        closes = λ name h is form. closed-firm name h is;
        accepts = λ c h a is form. accepted-firm c h a is form;
      })

-- commands of handles keep a firm mesh firm
pub handle_commands_stay_firm : HandleCommandsStayFirm
handle_commands_stay_firm = record {
  done = λ w line actor c of form firm. done-firm w firm line actor c (not-true (is_of_geoms c) of) form;
}

-- Go

-- unless something is against it
unless-firm : (w : World) (o : Option Found) (made : World × Outcome) → Firm w → Firm made.0
    → Firm (world_after w (unless_found o made))
unless-firm w None made before after = after
unless-firm w (Some f) made before after = before

-- by the commands that are left
go-by : (test : Command → Bool) → EachStaysFirm test
    → (w : World) (actor : ℕ) (o : Option (List LineCommand)) → slice_get w.actors actor ≡ o
    → IfSome (option_and_then first_command o) (λ c. test c.command ≡ true) → Firm w
    → Firm (world_after w (go_of w actor o))
go-by test each w actor None left next firm = firm
go-by test each w actor (Some []) left next firm = firm
go-by test each w actor (Some (c ∷ rest)) left next firm =
    unless-firm w (waits_for w actor c.command) (do_command (with_commands w actor rest) c.line actor c.command)
    firm
    (each.done (with_commands w actor rest) c.line actor c.command next
    (commands_left_stay_firm.command w actor c rest left firm)
    (commands_left_stay_firm.taken w actor c rest left firm))

-- a Go
go-firm : (test : Command → Bool) → EachStaysFirm test
    → (w : World) (seat actor : ℕ) → IfSome (next_command w actor) (λ c. test c.command ≡ true) → Firm w
    → Firm (world_by w seat (steps.Go actor))
unfolding step go
go-firm test each w seat actor next firm = go-by test each w actor (slice_get w.actors actor) refl next firm

-- goes keep a firm mesh firm
pub goes_stay_firm : GoesStayFirm
goes_stay_firm = record {
  any = go-firm;
  handles = λ w seat actor next firm. go-firm is_of_handles handle_commands_stay_firm w seat actor next firm;
}
