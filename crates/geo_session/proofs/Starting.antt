-- A live mesh that has made no step.
use Rattle.std.specs.Prelude.{◌≡◌, ℕ, List, [], ◌∷◌, length, fold, filter, zip, not}
use Rattle.std.specs.List.{enumerate_from}
use Rattle.std.proofs.Common.{refl, ap, sym, subst, ◌∙◌, arith}
use Rattle.std.proofs.lemmas.List.Elements.{All-nil}
use Rattle.geo_model.specs.declared.command.DiskDecl.{DiskDecl}
use Rattle.geo_model.specs.declared.command.LineCommand.{LineCommand}
use Rattle.geo_model.specs.declared.step.Entry.{Entry}
use Rattle.geo_model.specs.World.{World, Plan, BioOf}
use Rattle.geo_model.specs.Fitting.{Firm}
use Rattle.geo_model.specs.GeomCommands.{stand}
use Rattle.geo_model.specs.Opening.{bare_world, disk_in_size, opening}
use Rattle.geo_model.specs.Plans.{MayBegin, IsPlan, FactsFit, IsCommandOf}
use Rattle.geo_laws_requests.proofs.Legal.{opened_firm}
use Rattle.geo_bio.specs.declared.bio.Held.{Held}
use Rattle.geo_state.specs.declared.state.State.{State}
use Rattle.geo_state.specs.Shown.{AreLogged}
use Rattle.geo_state.specs.World.{world, HasBytes}
use Rattle.geo_moves.specs.Openings.{IsOpened}
use Rattle.geo_session.specs.declared.live.Live.{Live}
use Rattle.geo_session.specs.Live.{session_view, IsSession}
use Rattle.geo_session.specs.Session.{SessionView, HistoryOf, none_left, without_commands}

abbrev Item : Type 0
Item = ℕ × (DiskDecl × (ℕ × ℕ))

-- disks stand whatever commands are left
stands : (lists : List (List LineCommand)) (w : World) (items : List Item)
    → fold (λ u item. stand u (item.0, disk_in_size item.1)) (record w { actors = lists }) items
    ≡ record (fold (λ u item. stand u (item.0, disk_in_size item.1)) w items) { actors = lists }
stands lists w [] = refl
stands lists w (item ∷ items) = stands lists (stand w (item.0, disk_in_size item.1)) items

-- the opening without commands is the opening with no command left
pub opening_without : (plan : Plan) (facts : List (ℕ × ℕ))
    → opening (without_commands plan) facts
    ≡ record (opening plan facts) { actors = none_left (length plan.actors) }
unfolding opening
opening_without plan facts =
    stands (none_left (length plan.actors)) (bare_world plan facts)
    (filter (λ item. not item.1.0.later) (enumerate_from 0 (zip plan.disks facts)))

-- a mesh can begin with it
without_begins : (plan : Plan) → MayBegin plan → MayBegin (without_commands plan)
without_begins plan is = record {
  few_disks = is.few_disks;
  disks = is.disks;
  disk_names = is.disk_names;
  few_actors = is.few_actors;
  actors = is.actors;
  actor_names = is.actor_names;
  commands = All-nil (IsCommandOf (length plan.actors));
}

-- nothing names a place of a log where no request is
no_bytes : (s : State) → s.traffic.bios ≡ [] → HasBytes [] s
no_bytes s none =
    let no_entry : List Entry = [] in
    subst (λ (xs : List (BioOf Held)). AreLogged (length no_entry) xs) (sym none)
    (λ k d less. absurd (omega (arith, less)))

module _ (plan : Plan) (facts : List (ℕ × ℕ)) (s : State) (actors : ℕ) (is : IsPlan plan)
    (fit : FactsFit plan facts) (opens : IsOpened (opening plan facts) s) (each : actors ≡ length plan.actors) where
  abbrev first : Live
  first = record { state = s; actors = actors; steps = 0; generation = 0 }

  first_world : world (none_left actors) [] s ≡ opening (without_commands plan) facts
  first_world =
      ap (λ n. world (none_left n) [] s) each
      ∙ ap (λ (w : World). record w { actors = none_left (length plan.actors) }) (opens.world [])
      ∙ sym (opening_without plan facts)

  pub first_seen : session_view first
      ≡ record { world = opening (without_commands plan) facts; steps = 0; generation = 0 }
  first_seen =
      ap (λ (w : World). let v : SessionView = record { world = w; steps = 0; generation = 0 } in v) first_world

  first_history : HistoryOf (session_view first)
  first_history = record {
    plan = without_commands plan;
    facts = facts;
    begins = without_begins plan is.begins;
    fit = fit;
    log = [];
    legal = tt;
    leads = sym first_world;
    counts = refl;
  }

  pub first_session : IsSession first
  first_session = record {
    holds = opens.holds;
    bytes = no_bytes s opens.bios;
    firm = subst Firm (sym first_world)
        (opened_firm (without_commands plan) facts (without_begins plan is.begins) fit);
    history = ∣ first_history ∣₁;
  }
