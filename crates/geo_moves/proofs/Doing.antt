-- What a command waits for, what is decided of it before it is made, and what it does.
use Rattle.std.specs.Prelude.{◌≡◌, ℕ, ◌==◌, Bool, true, false, not, ◌&&◌, ◌||◌, List, length, find, Option, Some, None, is_some, option_map, if◌then◌else◌, ◌+◌, is_none, []}
use Rattle.std.specs.List.{list_any}
use Rattle.std.proofs.Common.{refl, sym, ◌∙◌, ap, subst, arith, rules}
use Rattle.geo_base.specs.declared.request.Counts.{Counts}
use Rattle.geo_model.specs.declared.command.Command.{Command}
use Rattle.geo_model.specs.declared.command.Command.TheVariants as commands
use Rattle.geo_model.specs.declared.command.LineCommand.{LineCommand}
use Rattle.geo_model.specs.declared.step.Entry.{Entry}
use Rattle.geo_model.specs.declared.step.Found.{Found}
use Rattle.geo_model.specs.declared.step.Found.TheVariants as found
use Rattle.geo_model.specs.declared.step.WashWork.{WashWork}
use Rattle.geo_model.specs.World.{World, Bio, BioOf, Handle, granted_in, is_active, is_of_handle, handle_of, is_busy}
use Rattle.geo_model.specs.Freeing.{reap_work, wash_work, wash_where}
use Rattle.geo_model.specs.Step.{is_of_actor, own_bio, is_unsettled, waits_for}
use Rattle.geo_bio.specs.declared.bio.Held.{Held}
use Rattle.geo_log.specs.Places.{delivered_at}
use Rattle.geo_state.specs.Shown.{shown_bio, AreLogged}
use Rattle.geo_state.specs.ShownLaws.{ShownAreFound}
use Rattle.geo_state.proofs.ShownLemmas.{shown_are_found}
use Rattle.geo_access.specs.Access.{granted_by}
use Rattle.geo_handles.specs.Handles.{first_ready, named_handle}
use Rattle.geo_life.specs.Life.{AreStored, is_out}
use Rattle.geo_life.proofs.Places.{counts_are_stored}
use Rattle.geo_state.specs.declared.state.State.{State}
use Rattle.geo_state.specs.Trips.{trips, own_first}
use Rattle.geo_state.specs.Steps.{Stands, Does}
use Rattle.geo_state.specs.World.{world, HasBytes}
use Rattle.geo_state.proofs.ViewLemmas.{states_show}
use Rattle.geo_moves.proofs.Settling.{first-to-reap, out-is}
use Rattle.geo_base.proofs.Options.{is_some-map}
use Rattle.std.specs.Option.{option_map_or}
use Rattle.geo_base.specs.declared.errno.Errno.{Errno}
use Rattle.geo_model.specs.HandleCommands.{do_open, close_handle}
use Rattle.geo_model.specs.Commands.{do_command}
use Rattle.geo_model.specs.Log.{owed}
use Rattle.geo_laws_owed.specs.OwedLaws.{is_ok_outcome, is_close}
use Rattle.geo_laws_owed.proofs.OwedCommands.{HandlesInOrder, command_owes}
use Rattle.geo_state.specs.Holds.{Holds}
use Rattle.geo_moves.specs.Handles.{refusal_in, IsOpenRefusal}
use Rattle.geo_moves.specs.declared.decisions.Decision.{Decision}
use Rattle.geo_moves.specs.declared.decisions.Decision.TheVariants.{Opens, Closes, Other}
use Rattle.geo_moves.specs.Decisions.{IsDecided, decision_of, is_closed, owed_by, places_owed}
use Rattle.std.proofs.lemmas.Bool.{cases_Bool, ne_eqb}
use Rattle.std.proofs.Math.Bool.{and-false}
use Rattle.geo_model.specs.declared.listing.GeomLine.{GeomLine}
use Rattle.geo_model.specs.declared.step.Outcome.{Outcome}
use Rattle.geo_model.specs.declared.step.Outcome.TheVariants as outcomes
use Rattle.geo_model.specs.declared.step.Reply.TheVariants as replies
use Rattle.geo_model.specs.Demand.{is_zero}
use Rattle.geo_model.specs.Listing.{listing}
use Rattle.geo_model.specs.Plans.{IsGrant}
use Rattle.geo_state.specs.Traffic.{TrafficView}

-- What a sync and a settle wait for, by what is kept beside the parts of the mesh

-- no other command waits
pub no_wait : (w : World) (actor : ℕ) (c : Command) → (c ≡ commands.Sync → ⊥) → (c ≡ commands.Settle → ⊥)
    → None ≡ waits_for w actor c
no_wait w actor commands.Sync no_sync no_settle = absurd (no_sync refl)
no_wait w actor commands.Settle no_sync no_settle = absurd (no_settle refl)
no_wait w actor c no_sync no_settle = refl

-- what is seen of what is seen
seen-twice : {X Y Z : Type 0} (f : Y → Z) (g : X → Y) (o : Option X)
    → option_map f (option_map g o) ≡ option_map (λ x. f (g x)) o
seen-twice f g None = refl
seen-twice f g (Some x) = refl

module _ (s : State) where
  -- the first request of the actor's lines in a world, by the table alone
  own_number : (actors : List (List LineCommand)) (log : List Entry) (actor : ℕ)
      → option_map (λ (x : Bio). x.number) (own_bio (world actors log s) actor)
      ≡ option_map (λ (x : BioOf Held). x.number)
      (find (λ (x : BioOf Held). list_any (λ (h : Handle). (h.actor == actor) && is_of_handle x.owner h.number)
      s.handles.handles) s.traffic.bios)
  own_number actors log actor =
      ap (option_map (λ (x : Bio). x.number))
      (ShownAreFound.finds (shown_are_found (delivered_at log) s.traffic.bios)
      (is_of_actor (world actors log s) actor))
      ∙ seen-twice (λ (x : Bio). x.number) (shown_bio (delivered_at log)) _

  -- whether an event waits, a taste is under way or a request is out
  pub under_way : (actors : List (List LineCommand)) (log : List Entry)
      → (not (length s.queue.events == 0) || (is_some s.taste || not (length s.traffic.bios == 0)))
      ≡ (not (length s.queue.events == 0) || (is_some s.taste || not (length (world actors log s).bios == 0)))
  under_way actors log =
      ap (λ n. not (length s.queue.events == 0) || (is_some s.taste || not (n == 0)))
      (sym (ShownAreFound.len (shown_are_found (delivered_at log) s.traffic.bios)))

-- what is due, in two parts
in_parts : (a b c d e : Bool) → ((a || (b || c)) || (d || e)) ≡ (a || (b || (c || (d || e))))
in_parts true b c d e = refl
in_parts false true c d e = refl
in_parts false false c d e = refl

module _ (s : State) (stands : Stands s) where
  -- what a sync waits for
  pub sync_waits : (o : Option ℕ) (actor : ℕ) → o ≡ own_first s.handles.handles (trips s.traffic.bios) actor
      → (actors : List (List LineCommand)) (log : List Entry)
      → option_map (λ b. found.OwnBiosOut b) o ≡ waits_for (world actors log s) actor commands.Sync
  sync_waits o actor is actors log =
      ap (option_map (λ b. found.OwnBiosOut b))
      (is
      ∙ (states_show stands.firm.0 s stands.firm.1.0 stands.kept stands.firm.1.1).own actor
      ∙ own_number s stands.firm.1.0 stands.firm.0 actor
      ∙ sym (own_number s actors log actor))
      ∙ seen-twice (λ b. found.OwnBiosOut b) (λ (y : Bio). y.number) (own_bio (world actors log s) actor)

  -- what can be washed is what can be washed in the world
  work_is : (o : Option WashWork)
      → ((granted : ℕ → Counts) → AreStored granted s.topo → o ≡ wash_where granted (is_out s.topo) s.topo.topology)
      → (actors : List (List LineCommand)) (log : List Entry) → o ≡ wash_work (world actors log s)
  unfolding wash_work
  work_is o tells actors log =
      tells (granted_by s.topo) (counts_are_stored s.topo (granted_by s.topo) stands.kept.counted (λ c. refl))
      ∙ ap (λ (g : ℕ → Counts). wash_where g (is_out s.topo) s.topo.topology) stands.kept.grants
      ∙ ap (λ (a : ℕ → Bool). wash_where (granted_in (world actors log s)) a s.topo.topology)
      (λ i c. out-is s stands actors log c i)

  -- whether something can be freed in the world
  abbrev IsFreed : Bool → Type 0
  IsFreed b =
      (actors : List (List LineCommand)) (log : List Entry)
      → b ≡ (is_some (reap_work (world actors log s)) || is_some (wash_work (world actors log s)))

  -- whether something can be reaped
  reaped : (b : Bool) (r : Option ℕ) → b ≡ is_some r → r ≡ first_ready s.handles.ready
      → (actors : List (List LineCommand)) (log : List Entry) → b ≡ is_some (reap_work (world actors log s))
  reaped b r is first actors log =
      is ∙ ap is_some (first ∙ first-to-reap s stands.kept actors log)
      ∙ is_some-map (λ (h : Handle). h.number) (reap_work (world actors log s))

  -- where something can be reaped, something can be freed
  pub freed_reaped : (b : Bool) (r : Option ℕ) → b ≡ is_some r → r ≡ first_ready s.handles.ready → b ≡ true
      → IsFreed b
  freed_reaped b r is first some actors log =
      some
      ∙ sym (ap (λ x. x || is_some (wash_work (world actors log s))) (sym (reaped b r is first actors log) ∙ some))

  -- else where something can be washed
  pub freed_washed : (b : Bool) (r : Option ℕ) → b ≡ is_some r → r ≡ first_ready s.handles.ready → b ≡ false
      → (c : Bool) (o : Option WashWork) → c ≡ is_some o
      → ((granted : ℕ → Counts) → AreStored granted s.topo → o ≡ wash_where granted (is_out s.topo) s.topo.topology)
      → IsFreed c
  freed_washed b r is first none c o washes tells actors log =
      washes
      ∙ ap is_some (work_is o tells actors log)
      ∙ sym (ap (λ x. x || is_some (wash_work (world actors log s))) (sym (reaped b r is first actors log) ∙ none))

  -- so whether anything is due
  pub unsettled : (a b : Bool)
      → a ≡ (not (length s.queue.events == 0) || (is_some s.taste || not (length s.traffic.bios == 0)))
      → IsFreed b → (actors : List (List LineCommand)) (log : List Entry)
      → (a || b) ≡ is_unsettled (world actors log s)
  unsettled a b first then_freed actors log =
      (λ i. (first ∙ under_way s actors log) i || then_freed actors log i)
      ∙ in_parts (not (length s.queue.events == 0)) (is_some s.taste)
      (not (length (world actors log s).bios == 0)) (is_some (reap_work (world actors log s)))
      (is_some (wash_work (world actors log s)))

-- what a settle waits for, by whether anything is due
pub settle_waits : (s : State) (actors : List (List LineCommand)) (log : List Entry) (actor : ℕ) (b : Bool)
    → b ≡ is_unsettled (world actors log s)
    → (if b then Some found.Unsettled else None) ≡ waits_for (world actors log s) actor commands.Settle
settle_waits s actors log actor b is = ap (λ x. let f : Option Found = if x then Some found.Unsettled else None in f) is

-- What is decided of opens and closes, and what is owed after a command

-- nothing is decided of any other command
pub no_decision : (w : World) (actor : ℕ) (c : Command)
    → ((name prov : List ℕ) (grant : Counts) → c ≡ commands.Open name prov grant → ⊥)
    → ((name : List ℕ) → c ≡ commands.Close name → ⊥) → Other ≡ decision_of w actor c
no_decision w actor (commands.Open name prov grant) no_open no_close = absurd (no_open name prov grant refl)
no_decision w actor (commands.Close name) no_open no_close = absurd (no_close name refl)
no_decision w actor c no_open no_close = refl

-- an open, by what refuses it
pub open_decided : (s : State) (actor : ℕ) (c : Command) (name prov : List ℕ) (grant : Counts) (r : Option Errno)
    → c ≡ commands.Open name prov grant → IsOpenRefusal s actor name prov grant r → IsDecided s actor c (Opens r)
open_decided s actor c name prov grant r is refusal = λ actors log.
    ap (λ x. Opens x) (refusal actors log) ∙ sym (ap (decision_of (world actors log s) actor) is)

-- a close, by whether it is answered ok
pub close_decided : (s : State) (actor : ℕ) (name : List ℕ) (actors : List (List LineCommand)) (log : List Entry)
    (b : Bool) → b ≡ is_closed (world actors log s) (handle_of (world actors log s) actor name)
    → (if b then Closes else Other) ≡ decision_of (world actors log s) actor (commands.Close name)
close_decided s actor name actors log b is = ap (λ x. let d : Decision = if x then Closes else Other in d) is

module _ (s : State) (stands : Stands s) where
  -- whether a close of the actor's handle of the name is answered ok
  pub closed_at : (actor : ℕ) (name : List ℕ) (o : Option Handle)
      → o ≡ named_handle s.handles.handles actor name → (actors : List (List LineCommand)) (log : List Entry)
      → option_map_or (λ (h : Handle). not (option_map_or (is_out s.topo) h.consumer false)) o false
      ≡ is_closed (world actors log s) (handle_of (world actors log s) actor name)
  closed_at actor name o is actors log =
      search (rules, out-is s stands actors log, ap (is_closed (world actors log s)) is)

-- Owed

-- what is owed in the world is what is kept of it
pub owed_is : (s : State) (actors : List (List LineCommand)) (log : List Entry)
    → owed (world actors log s) ≡ places_owed s
owed_is s actors log =
    ap (λ n. length s.handles.handles + n)
    (ShownAreFound.count (shown_are_found (delivered_at log) s.traffic.bios) is_busy)

module _ (w : World) (line actor : ℕ) where
  -- an open is answered ok where nothing refuses it
  open_ok : (name prov : List ℕ) (grant : Counts)
      → is_ok_outcome (do_open w line actor name prov grant).1 ≡ is_none (refusal_in w actor name prov grant)
  open_ok name prov grant = search (rules, cases_Bool (is_some (handle_of w actor name)))

  -- a close is answered ok where there is the handle and nothing is out through it
  close_ok : (o : Option Handle) → is_ok_outcome (close_handle w line o).1 ≡ is_closed w o
  close_ok None = refl
  close_ok (Some h) = search (rules, cases_Bool (option_map_or (is_active w) h.consumer false))

  -- what a command that is decided owes
  module _ (order : HandlesInOrder w) where
    opens_owe : (name prov : List ℕ) (grant : Counts)
        → owed_by (owed w) (Opens (refusal_in w actor name prov grant))
        ≡ owed (do_command w line actor (commands.Open name prov grant)).0
    unfolding do_command
    opens_owe name prov grant =
        by (refusal_in w actor name prov grant)
        (subst (λ b. owed (do_open w line actor name prov grant).0 + 0 ≡ owed w + (if b then 1 else 0))
        (open_ok name prov grant) (command_owes w line actor order (commands.Open name prov grant)))
      where
        by : (r : Option Errno)
            → owed (do_open w line actor name prov grant).0 + 0 ≡ owed w + (if is_none r then 1 else 0)
            → owed_by (owed w) (Opens r) ≡ owed (do_open w line actor name prov grant).0
        by None changes = omega (arith, changes)
        by (Some e) changes = omega (arith, changes)

    closes_owe : (name : List ℕ) → owed_by (owed w) (if is_closed w (handle_of w actor name) then Closes else Other)
        ≡ owed (do_command w line actor (commands.Close name)).0
    unfolding do_command
    closes_owe name =
        by (is_closed w (handle_of w actor name))
        (subst (λ x. owed (close_handle w line (handle_of w actor name)).0 + (if x then 1 else 0) ≡ owed w + 0)
        (close_ok (handle_of w actor name)) (command_owes w line actor order (commands.Close name)))
      where
        by : (x : Bool) → owed (close_handle w line (handle_of w actor name)).0 + (if x then 1 else 0) ≡ owed w + 0
            → owed_by (owed w) (if x then Closes else Other) ≡ owed (close_handle w line (handle_of w actor name)).0
        by true changes = omega (arith, changes)
        by false changes = omega (arith, changes)

    -- each command
    pub decided_owes : (c : Command)
        → owed_by (owed w) (decision_of w actor c) ≡ owed (do_command w line actor c).0
    decided_owes (commands.Open name prov grant) = opens_owe name prov grant
    decided_owes (commands.Close name) = closes_owe name
    decided_owes c = let same = command_owes w line actor order c in omega (arith, same)

-- so by what is kept
pub owes_after : (s : State) → Holds s → (n : ℕ) → n ≡ places_owed s → (d e : Decision) → d ≡ e
    → (actors : List (List LineCommand)) (log : List Entry) (line actor : ℕ) (c : Command) → IsDecided s actor c d
    → owed_by n e ≡ owed (do_command (world actors log s) line actor c).0
owes_after s kept n are d e is actors log line actor c decided =
    (λ i. owed_by (are i) (sym is i))
    ∙ ap (λ m. owed_by m d) (sym (owed_is s actors log))
    ∙ ap (owed_by (owed (world actors log s))) (decided actors log)
    ∙ decided_owes (world actors log s) line actor kept.numbers c

-- What a command does, from what the calls below say of it

-- counts that aren't all zero
pub some_counts : (a : Counts) → IsGrant a → is_zero a ≡ false
some_counts a grant =
    search (
      rules,
      ne_eqb a.r 0,
      ne_eqb a.w 0,
      and-false (a.r == 0),
      ne_eqb a.e 0,
      ap (λ b. (a.r == 0) && b) (and-false (a.w == 0)),
      and-false (a.w == 0),
    )

-- the bytes that bios name are in the log as before
pub logged_same : (old new : State) → new.traffic ≡ old.traffic → (log : List Entry) → HasBytes log old
    → HasBytes log new
logged_same old new same log has = subst (λ (v : TrafficView). AreLogged (length log) v.bios) (sym same) has

-- An open

-- only what refuses it was decided
pub opens_refusal : (s : State) (actor : ℕ) (name prov : List ℕ) (grant : Counts) (r : Option Errno)
    → IsDecided s actor (commands.Open name prov grant) (Opens r) → IsOpenRefusal s actor name prov grant r
opens_refusal s actor name prov grant r decided = λ actors log.
    let same : Opens r ≡ Opens (refusal_in (world actors log s) actor name prov grant) = decided actors log in cc

-- nothing else was
pub only_opens : (s : State) (actor : ℕ) (name prov : List ℕ) (grant : Counts) (d : Decision)
    → IsDecided s actor (commands.Open name prov grant) d → ((r : Option Errno) → d ≡ Opens r → ⊥) → ⊥
only_opens s actor name prov grant d decided other =
    other (refusal_in (world [] [] s) actor name prov grant) (decided [] [])

-- where it is decided that a close is answered ok, the command is a close
pub only_closes : (s : State) (actor : ℕ) (c : Command) (d : Decision) → IsDecided s actor c d → d ≡ Closes
    → ((name : List ℕ) → c ≡ commands.Close name → ⊥) → ⊥
only_closes s actor c d decided closes other = by c refl (sym closes ∙ decided [] [])
  where
    by : (k : Command) → c ≡ k → Closes ≡ decision_of (world [] [] s) actor k → ⊥
    by (commands.Open name prov grant) is e = let no : ⊥ = cc in no
    by (commands.Close name) is e = other name is
    by k is e = let no : ⊥ = cc in no

-- so no other command
pub never_closes : {R : Type 0} (s : State) (actor : ℕ) (command made : Command) (d : Decision)
    → IsDecided s actor command d → command ≡ made → is_close made ≡ false → d ≡ Closes → R
never_closes s actor command made d decided is other closes =
    absurd
    (only_closes s actor command d decided closes
    (λ name same. let never : true ≡ false = ap is_close (sym same ∙ is) ∙ other in let no : ⊥ = cc in no))

-- The listing

-- the listing is what the command Mesh answers
pub lists : (s : State) (line : ℕ) (log : List Entry) (lines : List GeomLine)
    → ((actors : List (List LineCommand)) (log : List Entry) → lines ≡ listing (world actors log s))
    → Does (λ w. (w, outcomes.Replied line (replies.Listing (listing w)))) log s s
    (outcomes.Replied line (replies.Listing lines))
lists s line log lines is actors =
    ap
    (λ (ls : List GeomLine).
    let made : World × Outcome = (world actors log s, outcomes.Replied line (replies.Listing ls)) in made)
    (sym (is actors log))
