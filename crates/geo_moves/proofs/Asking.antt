-- What a request through a handle does to the state it does to the world.
use Rattle.std.specs.Prelude.{◌≡◌, ℕ, ◌+◌, ◌-◌, ◌==◌, ◌&&◌, List, [], ◌∷◌, ◌++◌, Option, Some, None, Result, Ok, Err, IsSomeAnd, IfOk, option_and_then, unwrap_or}
use Rattle.std.specs.Option.{option_map_or}
use Rattle.std.proofs.Common.{refl, sym, ◌∙◌, ap, subst}
use Rattle.geo_base.specs.declared.block.NoMemory.{NoMemory}
use Rattle.geo_base.specs.declared.request.BioCmd.{BioCmd}
use Rattle.geo_base.specs.declared.request.BioCmd.TheVariants as cmds
use Rattle.geo_base.specs.declared.errno.Errno.{Errno}
use Rattle.geo_model.specs.declared.command.LineCommand.{LineCommand}
use Rattle.geo_model.specs.declared.step.Entry.{Entry}
use Rattle.geo_model.specs.declared.step.Outcome.{Outcome}
use Rattle.geo_model.specs.declared.step.Outcome.TheVariants as outcomes
use Rattle.geo_model.specs.declared.step.Owner.TheVariants as owners
use Rattle.geo_model.specs.declared.step.Reply.TheVariants as replies
use Rattle.geo_model.specs.Topology.{Provider}
use Rattle.geo_model.specs.World.{World, Handle, handle_of}
use Rattle.geo_model.specs.Bios.{new_bio, submit}
use Rattle.geo_model.specs.Commands.{asking, request, write_record}
use Rattle.geo_model.specs.HandleCommands.{request_answered, accept_request, record_request}
use Rattle.geo_model.specs.Requests.{Asking, request_refusal, provider_of_handle}
use Rattle.geo_handles.specs.Handles.{named_handle, handle_at}
use Rattle.geo_log.specs.Places.{delivered_at}
use Rattle.geo_state.specs.Shown.{shown_bios, AreLogged}
use Rattle.geo_state.proofs.StepLemmas.{world_shows_bios}
use Rattle.geo_state.proofs.LoggedLemmas.{places_stay_logged}
use Rattle.geo_state.specs.declared.state.State.{State}
use Rattle.geo_state.specs.Bios.{OnlyBios, IsAsking}
use Rattle.geo_state.specs.World.{world}
use Rattle.geo_state.specs.Holds.{Holds}
use Rattle.geo_state.specs.Steps.{Does}
use Rattle.geo_moves.specs.declared.gate.Gate.{Gate}
use Rattle.geo_moves.specs.Asked.{LetsThrough, mark_bytes, mark_sector, media_sizes, provider_attached, refusal_by}
use Rattle.geo_moves.proofs.Against.{world_moved}
use Rattle.geo_model.specs.Words.{same_name}
use Rattle.geo_laws_graph.proofs.Members.{find-Contains, at_contained}
use Rattle.geo_laws_graph.proofs.Numbered.{each_found}
use Rattle.geo_moves.specs.declared.mark.Mark.{Mark}

-- what refuses a request in the world, whatever its bytes are
refusal_is : (w : World) (o : Option Handle) (cmd : BioCmd) (offset len : ℕ) (bytes : List ℕ)
    → request_refusal w o (asking cmd offset len bytes) ≡ refusal_by w.topology o (asking cmd offset len [])
refusal_is w None cmd offset len bytes = refl
refusal_is w (Some h) cmd offset len bytes = refl

module _ (s : State) (line actor : ℕ) (name : List ℕ) (cmd : BioCmd) (offset len : ℕ) (bytes : List ℕ) where
  -- a request that is refused
  pub does_refuse : (e : Errno)
      → refusal_by s.topo.topology (named_handle s.handles.handles actor name) (asking cmd offset len []) ≡ Some e
      → (log : List Entry)
      → Does (λ w. request w line actor name (asking cmd offset len bytes)) log s s
      (outcomes.Replied line (replies.Refused e))
  does_refuse e is log actors =
      let w : World = world actors log s in
      ap (request_answered w line (handle_of w actor name) (asking cmd offset len bytes))
      (refusal_is w (handle_of w actor name) cmd offset len bytes ∙ is)

  module _ (new : State) (gate : Gate) (only : OnlyBios s new)
      (bios : new.traffic.bios ≡ s.traffic.bios
      ++ new_bio s.traffic.next cmd offset len bytes gate.source gate.target (owners.Line gate.handle line) ∷ [])
      (next : new.traffic.next ≡ s.traffic.next + 1) where
    -- the number of a provider that is there
    number_of : (o : Option Provider) → IsSomeAnd o (λ p. p.number ≡ gate.target)
        → option_map_or (λ (p : Provider). p.number) o 0 ≡ gate.target
    number_of None has = absurd has
    number_of (Some p) has = has

    module _ (h : Handle) (lets : LetsThrough s.topo.topology h gate (asking cmd offset len [])) (log : List Entry)
        (actors : List (List LineCommand)) where
      abbrev w : World
      w = world actors log s

      accepted : accept_request w line h (asking cmd offset len bytes)
          ≡ (world actors log new, outcomes.Accepted line s.traffic.next)
      accepted =
          let source : unwrap_or h.consumer 0 ≡ gate.source = ap (λ o. unwrap_or o 0) lets.consumer in
          let target : option_map_or (λ (p : Provider). p.number) (provider_of_handle w h) 0 ≡ gate.target =
          number_of (provider_attached s.topo.topology h.consumer) lets.provider in
          let after : submit w cmd offset len bytes gate.source gate.target (owners.Line gate.handle line)
          ≡ world actors log new =
          (world_shows_bios (delivered_at log) s.traffic.bios w refl).submits cmd offset len bytes gate.source
          gate.target (owners.Line gate.handle line)
          ∙ (λ i. let u : World = record w {
            bios = shown_bios (delivered_at log) (sym bios i);
            next_bio = sym next i;
          } in u)
          ∙ sym (world_moved s new only actors log) in
          (λ i. (
            submit w cmd offset len bytes (source i) (target i) (owners.Line (lets.number i) line),
            outcomes.Accepted line s.traffic.next,
          ))
          ∙ ap (λ u. let made : World × Outcome = (u, outcomes.Accepted line s.traffic.next) in made) after

    by_handle : (o : Option Handle) → IsSomeAnd o (λ h. LetsThrough s.topo.topology h gate (asking cmd offset len []))
        → (log : List Entry) (actors : List (List LineCommand))
        → request_answered (world actors log s) line o (asking cmd offset len bytes)
        (request_refusal (world actors log s) o (asking cmd offset len bytes))
        ≡ (world actors log new, outcomes.Accepted line s.traffic.next)
    by_handle None has log actors = absurd has
    by_handle (Some h) lets log actors =
        ap (request_answered (world actors log s) line (Some h) (asking cmd offset len bytes))
        (refusal_is (world actors log s) (Some h) cmd offset len bytes ∙ lets.allowed)
        ∙ accepted h lets log actors

    -- a request that is let through
    pub does_accept :
        IsSomeAnd (named_handle s.handles.handles actor name)
        (λ h. LetsThrough s.topo.topology h gate (asking cmd offset len []))
        → (log : List Entry)
        → Does (λ w. request w line actor name (asking cmd offset len bytes)) log s new
        (outcomes.Accepted line s.traffic.next)
    does_accept lets log actors = by_handle (named_handle s.handles.handles actor name) lets log actors

    pub logged_accepted : (n : ℕ) → AreLogged n s.traffic.bios → AreLogged n new.traffic.bios
    logged_accepted n logged =
        subst (AreLogged n) (sym bios)
        ((places_stay_logged n s.traffic.bios logged).submits s.traffic.next cmd offset len bytes gate.source
        gate.target (owners.Line gate.handle line))

-- What a call asks and tells

module _ (s : State) (holds : Holds s) (gate : Gate) (a : Asking) where
  asks_by : (actor : ℕ) (name : List ℕ) (o : Option Handle) → named_handle s.handles.handles actor name ≡ o
      → IsSomeAnd o (λ h. LetsThrough s.topo.topology h gate a) → IsAsking s gate.handle gate.source
  asks_by actor name None e has = absurd has
  asks_by actor name (Some h) e lets =
      let stands = find-Contains (λ (v : Handle). (v.actor == actor) && same_name v.name name) s.handles.handles h e in
      let itself : handle_at s.handles.handles h.number ≡ Some h =
      at_contained (λ (v : Handle). handle_at s.handles.handles v.number ≡ Some v) s.handles.handles h
      (each_found (λ (v : Handle). v.number) s.handles.next s.handles.handles holds.numbers) stands in
      let there : handle_at s.handles.handles gate.handle ≡ Some h =
      subst (λ n. handle_at s.handles.handles n ≡ Some h) lets.number itself in
      record { holds = rw there (lets.consumer, lets.alive); lives = lets.lives }

  -- a handle that lets a request through asks
  pub asks : (actor : ℕ) (name : List ℕ)
      → IsSomeAnd (named_handle s.handles.handles actor name) (λ h. LetsThrough s.topo.topology h gate a)
      → IsAsking s gate.handle gate.source
  asks actor name lets = asks_by actor name (named_handle s.handles.handles actor name) refl lets

-- Records

module _ (w : World) (h : Option Handle) (mark : Mark) where
  -- the request of a record, by the media
  abbrev of_media : Option (ℕ × ℕ) → Asking
  of_media o =
      option_map_or
      (λ (m : ℕ × ℕ). record { cmd = cmds.Write; offset = m.0 - m.1; len = m.1; bytes = mark_bytes mark m.0 m.1 })
      o
      (record { cmd = cmds.Write; offset = 0; len = 0; bytes = [] })

  media_by : (o : Option Provider)
      → option_map_or
      (λ (p : Provider). let a : Asking = record {
        cmd = cmds.Write;
        offset = p.size - p.sector;
        len = p.sector;
        bytes = mark_bytes mark p.size p.sector;
      } in a) o (record { cmd = cmds.Write; offset = 0; len = 0; bytes = [] })
      ≡ of_media (media_sizes o)
  media_by None = refl
  media_by (Some p) = refl

  pub record_is : (m : Option (ℕ × ℕ))
      → m ≡ media_sizes (option_and_then (λ (x : Handle). provider_attached w.topology x.consumer) h)
      → record_request w h (mark_sector mark) ≡ of_media m
  record_is m is =
      media_by (option_and_then (λ (x : Handle). provider_attached w.topology x.consumer) h) ∙ ap of_media (sym is)

module _ (s new : State) (line actor : ℕ) (name : List ℕ) (mark : Mark) (m : Option (ℕ × ℕ))
    (is : m ≡ media_sizes (option_and_then (λ (x : Handle). provider_attached s.topo.topology x.consumer)
    (named_handle s.handles.handles actor name))) where
  -- a record is written by its request
  pub record_does : (a : Asking) → of_media (world [] [] s) (named_handle s.handles.handles actor name) mark m ≡ a
      → (r : Result Outcome NoMemory) (log : List Entry)
      → IfOk r (λ o. Does (λ w. request w line actor name a) log s new o)
      → IfOk r (λ o. Does (λ w. write_record w line actor name (mark_sector mark)) log s new o)
  record_does a same (Err n) log does = tt
  record_does a same (Ok o) log does = λ actors.
      ap (request (world actors log s) line actor name)
      (record_is (world actors log s) (named_handle s.handles.handles actor name) mark m is ∙ same) ∙ does actors
