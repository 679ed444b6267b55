-- What a Reap, and a Go of a command of a handle, destroy was closed, detached and idle.
use Rattle.std.specs.Prelude.{◌≡◌, ◌≢◌, ℕ, ◌==◌, true, false, not, ◌&&◌, List, [], ◌∷◌, Option, Some, None, Ok, Err, All, Contains, IfSome, option_and_then, slice_get}
use Rattle.std.specs.Option.{option_map_or}
use Rattle.std.proofs.Common.{inr, refl, sym, ◌∙◌, ap, subst}
use Rattle.std.proofs.lemmas.Bool.{eqb-true, and_parts, not-true}
use Rattle.std.proofs.lemmas.Slice.Eq.{bytes_eq-Decides}
use Rattle.geo_model.specs.declared.command.Command.{Command}
use Rattle.geo_model.specs.declared.command.Command.TheVariants as commands
use Rattle.geo_model.specs.declared.command.LineCommand.{LineCommand}
use Rattle.geo_model.specs.declared.step.Entry.{Entry}
use Rattle.geo_model.specs.declared.step.Found.{Found}
use Rattle.geo_model.specs.declared.step.Found.TheVariants as refusals
use Rattle.geo_model.specs.declared.step.Outcome.{Outcome}
use Rattle.geo_model.specs.declared.step.Outcome.TheVariants as outcomes
use Rattle.geo_model.specs.declared.step.Step.TheVariants as steps
use Rattle.geo_model.specs.Words.{same_name}
use Rattle.geo_model.specs.Topology.{Consumer}
use Rattle.geo_model.specs.World.{World, Handle, is_active}
use Rattle.geo_model.specs.HandleCommands.{with_handle, without_handle, close_handle, without_number, accept_request}
use Rattle.geo_model.specs.WorldEvents.{after_open, after_close}
use Rattle.geo_model.specs.Freeing.{is_to_reap, reap_work, reap_handle, reap}
use Rattle.geo_model.specs.Commands.{do_command}
use Rattle.geo_model.specs.CommandEffects.{is_of_geoms, IsClosed}
use Rattle.geo_model.specs.Step.{unless_found, waits_for, with_commands, go_of, go, step, reap_next}
use Rattle.geo_model.specs.Log.{world_after, after_entry}
use Rattle.geo_model.specs.History.{first_command, next_command, GivesUp, GoesIdle, FreesOnlyIdle}
use Rattle.geo_model.specs.Fitting.{Firm}
use Rattle.geo_model.proofs.CommandWalk.{close_is, handles_by}
use Rattle.geo_model.proofs.DemandLemmas.{find_passes}
use Rattle.geo_laws_graph.proofs.Members.{find-Contains}
use Rattle.geo_laws_life.proofs.Found.{some-with}
use Rattle.geo_laws_handles.proofs.Closed.{has_dev}
use Rattle.geo_laws_handles.proofs.Reaped.{idle_by}
use Rattle.geo_laws_handles.specs.CommandLaws.{is_of_handles}
use Rattle.geo_laws_handles.specs.FactLaws.{LosesOnly, IsLetGo, HandlesFreeIdle}
use Rattle.geo_laws_handles.proofs.Left.{commands_left_stay_firm}
use Rattle.geo_laws_handles.proofs.Freed.{nothing-goes, same-goes, open-goes, close-goes, reap-goes, frees-idle}

-- what may go, seen otherwise
loses-weaker : (w after : World) (P Q : Consumer → Type 0) → ((c : Consumer) → P c → Q c) → LosesOnly w after P
    → LosesOnly w after Q
loses-weaker w after P Q so loses = record {
  geoms = loses.geoms;
  providers = loses.providers;
  consumers = λ c here gone. so c (loses.consumers c here gone);
}

-- A reap

module _ (w : World) (firm : Firm w) where
  -- what a reap lets go
  reap-lets : (h : Handle) → reap_work w ≡ Some h → (o : Option ℕ) → h.consumer ≡ o
      → LosesOnly w (reap_handle w h.consumer) (IsLetGo w (reap_handle w h.consumer) h)
  reap-lets h work None names =
      same-goes w firm (reap_handle w h.consumer) (IsLetGo w (reap_handle w h.consumer) h)
      (ap (λ o. (reap_handle w o).topology) names)
  reap-lets h work (Some n) names =
      let here : Contains w.handles h = find-Contains (is_to_reap w) w.handles h work in
      let passes : is_to_reap w h ≡ true = find_passes (is_to_reap w) w.handles h work in
      let parts = and_parts h.dead (option_map_or (λ c. not (is_active w c)) h.consumer false) passes in
      let c = has_dev w firm h n here names in
      subst (λ o. LosesOnly w (reap_handle w o) (IsLetGo w (reap_handle w o) h)) (sym c.names)
      (reap-goes w firm h here parts.0 c.consumer c.here c.dev c.names
      (idle_by w h.consumer c.consumer.number c.names parts.1))

  -- a handle that is found to reap is dead
  reap-dead : (h : Handle) → reap_work w ≡ Some h → h.dead ≡ true
  reap-dead h work =
      (and_parts h.dead (option_map_or (λ c. not (is_active w c)) h.consumer false)
      (find_passes (is_to_reap w) w.handles h work)).0

  -- a consumer that is let go in an entry
  let_go-idle : (e : Entry) (after : World) (h : Handle) → Contains w.handles h → GivesUp w e.step h
      → after_entry w e ≡ after → LosesOnly w after (IsLetGo w after h) → FreesOnlyIdle w e
  let_go-idle e after h here gives is loses =
      frees-idle w firm e (subst (λ (v : World). LosesOnly w v (GoesIdle w e)) (sym is)
      (loses-weaker w after (IsLetGo w after h) (GoesIdle w e) (λ c go. record {
        no_bio = go.no_bio;
        closed = inr (record {
          of_dev = go.of_dev;
          handle = h;
          held = here;
          its_consumer = go.its_consumer;
          by_step = gives;
          none_after = subst (λ (v : World). All (λ (x : Handle). x.consumer ≢ Some c.number) v.handles) (sym is)
              go.none_after;
        });
      }) loses))

  -- an entry in which the graph keeps all
  kept-idle : (e : Entry) (after : World) → after_entry w e ≡ after → LosesOnly w after (GoesIdle w e)
      → FreesOnlyIdle w e
  kept-idle e after is loses =
      frees-idle w firm e (subst (λ (v : World). LosesOnly w v (GoesIdle w e)) (sym is) loses)

  -- the world after a Reap
  reap-is : (e : Entry) → e.step ≡ steps.Reap → (o : Option Handle) → reap_work w ≡ o
      → after_entry w e ≡ world_after w (option_map_or (λ h. Ok (reap w h, outcomes.Ran)) o
      (Err refusals.NothingToReap))
  unfolding step reap_next
  reap-is e is o found = rw (is, found) refl

  -- by what is found
  reap-idle : (e : Entry) → e.step ≡ steps.Reap → (o : Option Handle) → reap_work w ≡ o → FreesOnlyIdle w e
  unfolding reap
  reap-idle e is None found =
      kept-idle e w (reap-is e is None found) (same-goes w firm w (GoesIdle w e) refl)
  reap-idle e is (Some h) found =
      let_go-idle e (reap_handle w h.consumer) h (find-Contains (is_to_reap w) w.handles h found)
      (subst (λ s. GivesUp w s h) (sym is) (reap-dead h found)) (reap-is e is (Some h) found)
      (reap-lets h found h.consumer refl)

-- A Go

module _ (w : World) (firm : Firm w) (e : Entry) (actor : ℕ) (is : e.step ≡ steps.Go actor) (c : LineCommand)
    (rest : List LineCommand) (left : slice_get w.actors actor ≡ Some (c ∷ rest)) where
  -- the world in which the command is done
  abbrev v : World
  v = with_commands w actor rest

  -- it is firm
  v-firm : Firm v
  v-firm = commands_left_stay_firm.taken w actor c rest left firm

  -- what goes from it, goes from the world before
  loses-too : (after : World) (Lost : Consumer → Type 0) → LosesOnly v after Lost → LosesOnly w after Lost
  loses-too after Lost loses = record {
    geoms = loses.geoms;
    providers = loses.providers;
    consumers = loses.consumers;
  }

  -- so does a consumer that is let go
  lets-too : (after : World) (h : Handle) (d : Consumer) → IsLetGo v after h d → IsLetGo w after h d
  lets-too after h d go = record {
    of_dev = go.of_dev;
    its_consumer = go.its_consumer;
    no_bio = go.no_bio;
    none_after = go.none_after;
  }

  -- a handle is closed
  closed-idle : (name : List ℕ) (h : Handle) → IsClosed v actor name h → c.command ≡ commands.Close name
      → after_entry w e ≡ after_close v (without_handle v h) → FreesOnlyIdle w e
  closed-idle name h closes of after =
      let here : Contains w.handles h =
      find-Contains (λ (x : Handle). (x.actor == actor) && same_name x.name name) w.handles h closes.found in
      let parts = and_parts (h.actor == actor) (same_name h.name name)
      (find_passes (λ (x : Handle). (x.actor == actor) && same_name x.name name) w.handles h closes.found) in
      let named : h.name ≡ name = (bytes_eq-Decides h.name name).0 parts.1 in
      let next : next_command w actor ≡ Some c = ap (λ o. option_and_then first_command o) left in
      let by_name : c.command ≡ commands.Close h.name = of ∙ ap (λ n. commands.Close n) (sym named) in
      let gives : GivesUp w e.step h = subst (λ s. GivesUp w s h) (sym is) (
        eqb-true h.actor actor parts.0,
        some-with (next_command w actor) (λ x. x.command ≡ commands.Close h.name) c next by_name,
      ) in
      let_go-idle w firm e (close_handle v c.line (Some h)).0 h here gives
      (after ∙ sym (ap (λ (made : World × Outcome). made.0) (close_is v c.line h closes.idle)))
      (loses-weaker w (close_handle v c.line (Some h)).0 (IsLetGo v (close_handle v c.line (Some h)).0 h)
      (IsLetGo w (close_handle v c.line (Some h)).0 h) (lets-too (close_handle v c.line (Some h)).0 h)
      (loses-too (close_handle v c.line (Some h)).0 (IsLetGo v (close_handle v c.line (Some h)).0 h)
      (close-goes v v-firm h here c.line)))

  -- where nothing goes
  none-idle : (u : World) → LosesOnly v u (GoesIdle w e) → after_entry w e ≡ u → FreesOnlyIdle w e
  none-idle u loses after = kept-idle w firm e u after (loses-too u (GoesIdle w e) loses)

  -- where the graph stays
  same-idle : (u : World) → u.topology ≡ w.topology → after_entry w e ≡ u → FreesOnlyIdle w e
  same-idle u same after = kept-idle w firm e u after (same-goes w firm u (GoesIdle w e) same)

  -- each command of a handle
  command-idle : (x : Command) → is_of_geoms x ≡ false → c.command ≡ x
      → after_entry w e ≡ (do_command v c.line actor x).0 → FreesOnlyIdle w e
  command-idle =
      handles_by v c.line actor (λ x made. c.command ≡ x → after_entry w e ≡ made.0 → FreesOnlyIdle w e)
      (record {
        refuses = λ x error of. same-idle v refl;
        numbers = λ x error of.
            none-idle (without_number v) (nothing-goes v v-firm (without_number v) (GoesIdle w e)
            (record { geoms = refl; providers = refl; consumers = λ n gone. gone }));
      })
      (record {
        waits = λ x waits of. same-idle v refl;
        lists = λ of. same-idle v refl;
        opens = λ name prov grant p opens of.
            none-idle (after_open v (with_handle v actor name p grant))
            (open-goes v v-firm actor name p grant (GoesIdle w e));
        closes = λ name h closes of. closed-idle name h closes of;
        accepts = λ x h a asks of. same-idle (accept_request v c.line h a).0 refl;
      })

  -- by what it waits for
  waits-idle : (o : Option Found) → is_of_handles c.command ≡ true
      → after_entry w e ≡ world_after w (unless_found o (do_command v c.line actor c.command)) → FreesOnlyIdle w e
  waits-idle None kind after = command-idle c.command (not-true (is_of_geoms c.command) kind) refl after
  waits-idle (Some f) kind after = kept-idle w firm e w after (same-goes w firm w (GoesIdle w e) refl)

-- the world after a Go
go-is : (w : World) (e : Entry) (actor : ℕ) → e.step ≡ steps.Go actor
    → after_entry w e ≡ world_after w (go_of w actor (slice_get w.actors actor))
unfolding step go
go-is w e actor is = rw is refl

-- by the commands that are left
go-idle : (w : World) (firm : Firm w) (e : Entry) (actor : ℕ) → e.step ≡ steps.Go actor
    → (o : Option (List LineCommand)) → slice_get w.actors actor ≡ o
    → IfSome (option_and_then first_command o) (λ c. is_of_handles c.command ≡ true)
    → after_entry w e ≡ world_after w (go_of w actor o) → FreesOnlyIdle w e
go-idle w firm e actor is None left kind after = kept-idle w firm e w after (same-goes w firm w (GoesIdle w e) refl)
go-idle w firm e actor is (Some []) left kind after =
    kept-idle w firm e w after (same-goes w firm w (GoesIdle w e) refl)
go-idle w firm e actor is (Some (c ∷ rest)) left kind after =
    waits-idle w firm e actor is c rest left (waits_for w actor c.command) kind after

-- what handles' commands and a reap destroy was idle
pub handles_free_idle : HandlesFreeIdle
handles_free_idle = record {
  closed = λ w line h here firm. close-goes w firm h here line;
  reaped = λ w e is firm. reap-idle w firm e is (reap_work w) refl;
  done = λ w e actor is kind firm. go-idle w firm e actor is (slice_get w.actors actor) refl kind
      (go-is w e actor is);
}
