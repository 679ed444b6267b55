-- What a command of a handle and a reap destroy was closed and idle, what they offer for taste lives, and what an
-- open answers (g_access(9), g_detach(9)).
use Rattle.std.specs.Prelude.{◌≡◌, ◌≢◌, ℕ, true, List, Some, None, Ok, All, Contains, IfSome}
use Rattle.geo_base.specs.declared.request.Counts.{Counts}
use Rattle.geo_model.specs.declared.step.Entry.{Entry}
use Rattle.geo_model.specs.declared.step.Outcome.TheVariants as outcomes
use Rattle.geo_model.specs.declared.step.Step.TheVariants as steps
use Rattle.geo_model.specs.Topology.{Consumer, consumer_at}
use Rattle.geo_model.specs.World.{World, Handle, granted_in, handle_of}
use Rattle.geo_model.specs.Opens.{open_refusal}
use Rattle.geo_model.specs.HandleCommands.{do_open, close_handle}
use Rattle.geo_model.specs.Step.{step}
use Rattle.geo_model.specs.History.{next_command, reply_of_refusal, AnswersOpen, FreesOnlyIdle}
use Rattle.geo_model.specs.WorldEvents.{after_close}
use Rattle.geo_model.specs.Laws.{world_by}
use Rattle.geo_model.specs.Steady.{OffersOnlyLiving}
use Rattle.geo_model.specs.Fitting.{Firm}
use Rattle.geo_laws_handles.specs.CommandLaws.{is_of_handles}

-- from the one world to the other all geoms and providers stay, and each consumer that goes is one that may go
pub record LosesOnly (before after : World) (Lost : Consumer → Type 0) : Type 0 where
  pub geoms : after.topology.geoms ≡ before.topology.geoms
  pub providers : after.topology.providers ≡ before.topology.providers
  pub consumers : (c : Consumer) → Contains before.topology.consumers c → consumer_at after.topology c.number ≡ None
      → Lost c

-- a consumer of DEV is let go with its handle: no bio is from it, and no handle has it then
pub record IsLetGo (before after : World) (h : Handle) (c : Consumer) : Type 0 where
  pub of_dev : c.geom ≡ 1
  pub its_consumer : h.consumer ≡ Some c.number
  pub no_bio : All (λ x. x.source ≢ c.number) before.bios
  pub none_after : All (λ x. x.consumer ≢ Some c.number) after.handles

-- in a firm mesh a close lets at most its handle's consumer go; and what a Reap, and a Go of a command of a handle,
-- destroy was closed, detached and idle
pub record HandlesFreeIdle : Type 0 where
  pub closed : (w : World) (line : ℕ) (h : Handle) → Contains w.handles h → Firm w
      → LosesOnly w (close_handle w line (Some h)).0 (IsLetGo w (close_handle w line (Some h)).0 h)
  pub reaped : (w : World) (e : Entry) → e.step ≡ steps.Reap → Firm w → FreesOnlyIdle w e
  pub done : (w : World) (e : Entry) (actor : ℕ) → e.step ≡ steps.Go actor
      → IfSome (next_command w actor) (λ c. is_of_handles c.command ≡ true) → Firm w → FreesOnlyIdle w e

-- an open under a free handle name is answered by what the mesh forbids, and so is a step that is enabled
pub record OpensAreAnsweredRight : Type 0 where
  pub answer : (w : World) (line actor : ℕ) (name prov : List ℕ) (grant : Counts) → handle_of w actor name ≡ None
      → (do_open w line actor name prov grant).1
      ≡ outcomes.Replied line (reply_of_refusal (open_refusal (granted_in w) w.topology prov grant))
  pub entry : (w after : World) (e : Entry) → step w e.seat e.step ≡ Ok (after, e.outcome) → AnswersOpen w e

-- a close, and so a Reap and a Go of a command of a handle, offer for taste only what lives
pub record HandlesOfferLiving : Type 0 where
  pub closed : (w closed : World) → closed.events ≡ w.events → OffersOnlyLiving w (after_close w closed)
  pub reaped : (w : World) (seat : ℕ) → OffersOnlyLiving w (world_by w seat steps.Reap)
  pub done : (w : World) (seat actor : ℕ) → IfSome (next_command w actor) (λ c. is_of_handles c.command ≡ true)
      → OffersOnlyLiving w (world_by w seat (steps.Go actor))
