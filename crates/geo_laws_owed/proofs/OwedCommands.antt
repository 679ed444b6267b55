-- What a command does to the places that are owed.
use Rattle.std.specs.Prelude.{◌≡◌, ℕ, ◌+◌, ◌==◌, Bool, true, false, not, ◌&&◌, List, [], ◌∷◌, ◌++◌, map, filter, find, length, sum_by, Option, Some, None, is_some, if◌then◌else◌}
use Rattle.std.specs.Option.{option_map_or}
use Rattle.std.proofs.Common.{refl, arith}
use Rattle.std.proofs.lemmas.List.{length-append}
use Rattle.std.proofs.lemmas.List.Sums.{sum_by_push}
use Rattle.geo_base.specs.declared.errno.Errno.{Errno}
use Rattle.geo_base.specs.declared.request.Counts.{Counts}
use Rattle.geo_model.specs.declared.command.Command.{Command}
use Rattle.geo_model.specs.declared.command.Command.TheVariants as commands
use Rattle.geo_model.specs.declared.step.Outcome.{Outcome}
use Rattle.geo_model.specs.Words.{same_name}
use Rattle.geo_model.specs.Topology.{find_provider}
use Rattle.geo_model.specs.Opens.{open_refusal_at}
use Rattle.geo_model.specs.World.{World, Handle, Bio, granted_in, handle_of, is_active}
use Rattle.geo_model.specs.Graph.{AreNumbers}
use Rattle.geo_model.specs.HandleCommands.{open_answered, do_open, close_handle}
use Rattle.geo_model.specs.Commands.{do_command}
use Rattle.geo_model.specs.Log.{owed}
use Rattle.geo_model.proofs.CommandWalk.{any_graph_by}
use Rattle.geo_laws_graph.proofs.Lists.{found_itself}
use Rattle.geo_laws_graph.proofs.Members.{find-Contains}
use Rattle.geo_laws_owed.specs.OwedLaws.{is_open, is_close, is_ok_outcome}
use Rattle.geo_laws_owed.proofs.Counting.{ones, sum_gone}
use Rattle.geo_laws_owed.proofs.OwedBios.{busy}

-- the numbers of handles are in order
abbrev pub HandlesInOrder : World → Type 0
HandlesInOrder w = AreNumbers (map (λ (h : Handle). h.number) w.handles) w.next_handle

-- a new bio counts nothing
pub submit_owes : (w : World) (x : Bio) → busy x ≡ 0
    → owed (record w { bios = w.bios ++ x ∷ []; next_bio = w.next_bio + 1 }) ≡ owed w
submit_owes w x quiet = let sums = sum_by_push busy w.bios x in omega (arith, sums, quiet)

module _ (w : World) where
  -- as much is owed as before
  abbrev Same : World × Outcome → Type 0
  Same made = owed made.0 ≡ owed w

  -- the places that an answer begins to owe, and those that it pays
  abbrev Owes : (begun paid : ℕ) → World × Outcome → Type 0
  Owes begun paid made = owed made.0 + paid ≡ owed w + begun

  -- an open of a provider that is found, by what refuses it
  opened_at : (line actor : ℕ) (name : List ℕ) (p : ℕ) (grant : Counts) (e : Option Errno)
      → Owes (if is_ok_outcome (open_answered w line actor name (Some p) grant e).1 then 1 else 0) 0
      (open_answered w line actor name (Some p) grant e)
  opened_at line actor name p grant (Some e) = refl
  opened_at line actor name p grant None =
      let more : length (w.handles ++ record {
        number = w.next_handle;
        actor = actor;
        name = name;
        consumer = Some w.topology.next_consumer;
        grant = grant;
        dead = false;
      } ∷ []) ≡ length w.handles + 1 = length-append w.handles _ in
      omega (arith, more)

  -- by what is found
  opened : (line actor : ℕ) (name : List ℕ) (o : Option ℕ) (grant : Counts)
      → Owes
      (if is_ok_outcome
      (open_answered w line actor name o grant (open_refusal_at (granted_in w) w.topology o grant)).1
      then 1
      else 0)
      0
      (open_answered w line actor name o grant (open_refusal_at (granted_in w) w.topology o grant))
  opened line actor name None grant = refl
  opened line actor name (Some p) grant =
      opened_at line actor name p grant (open_refusal_at (granted_in w) w.topology (Some p) grant)

  -- an open, by whether its name is one of a handle
  opens : (line actor : ℕ) (name prov : List ℕ) (grant : Counts) (b : Bool)
      → is_some (handle_of w actor name) ≡ b
      → Owes (if is_ok_outcome (do_open w line actor name prov grant).1 then 1 else 0) 0
      (do_open w line actor name prov grant)
  opens line actor name prov grant true e = rw e refl
  opens line actor name prov grant false e =
      rw e (opened line actor name (find_provider w.topology prov) grant)

  -- a close of a handle that is found, by whether a request of it is out
  closed_by : (line : ℕ) (h : Handle) → HandlesInOrder w
      → find (λ (x : Handle). x.number == h.number) w.handles ≡ Some h → (b : Bool)
      → option_map_or (is_active w) h.consumer false ≡ b
      → Owes 0 (if is_ok_outcome (close_handle w line (Some h)).1 then 1 else 0) (close_handle w line (Some h))
  closed_by line h order found true e = rw e refl
  closed_by line h order found false e =
      let less : sum_by (λ (x : Handle). 1) (filter (λ (x : Handle). not (x.number == h.number)) w.handles) + 1
      ≡ sum_by (λ (x : Handle). 1) w.handles =
      sum_gone (λ (x : Handle). x.number) h.number (λ (x : Handle). 1) h w.next_handle w.handles order found in
      let after = ones (filter (λ (x : Handle). not (x.number == h.number)) w.handles) in
      let before = ones w.handles in
      rw e (omega (arith, less, after, before))

  -- a close
  closed : (line actor : ℕ) (name : List ℕ) → HandlesInOrder w → (o : Option Handle) → handle_of w actor name ≡ o
      → Owes 0 (if is_ok_outcome (close_handle w line o).1 then 1 else 0) (close_handle w line o)
  closed line actor name order None found = refl
  closed line actor name order (Some h) found =
      closed_by line h order
      (found_itself (λ (x : Handle). x.number) w.next_handle w.handles h order
      (find-Contains (λ (x : Handle). (x.actor == actor) && same_name x.name name) w.handles h found))
      (option_map_or (is_active w) h.consumer false) refl

-- what a command does
abbrev pub CommandOwes : World → Command → World × Outcome → Type 0
CommandOwes w c made =
    owed made.0 + (if is_close c && is_ok_outcome made.1 then 1 else 0)
    ≡ owed w + (if is_open c && is_ok_outcome made.1 then 1 else 0)

-- a command that is no open and no close owes as much as before
others_owe : (w : World) (line actor : ℕ) (c : Command) → is_open c ≡ false → is_close c ≡ false
    → Same w (do_command w line actor c)
others_owe w line actor =
    any_graph_by w line actor (λ c made. is_open c ≡ false → is_close c ≡ false → Same w made)
    (λ c q e opens closes. refl) (λ c q opens closes. refl)
    (record {
      waits = λ c is opens closes. refl;
      lists = λ opens closes. refl;
      opens = λ name prov grant p is opens closes. absurd (let no : ⊥ = cc in no);
      closes = λ name h is opens closes. absurd (let no : ⊥ = cc in no);
      accepts = λ c h a is opens closes. submit_owes w _ refl;
    })

-- so it begins to owe nothing and pays nothing
others_change : (w : World) (line actor : ℕ) (c : Command) → is_open c ≡ false → is_close c ≡ false
    → CommandOwes w c (do_command w line actor c)
others_change w line actor c opens closes =
    let same = others_owe w line actor c opens closes in rw (opens, closes) (omega (arith, same))

-- an open
open_owes : (w : World) (line actor : ℕ) (name prov : List ℕ) (grant : Counts)
    → CommandOwes w (commands.Open name prov grant) (do_command w line actor (commands.Open name prov grant))
unfolding do_command
open_owes w line actor name prov grant = opens w line actor name prov grant (is_some (handle_of w actor name)) refl

-- a close
close_owes : (w : World) (line actor : ℕ) (name : List ℕ) → HandlesInOrder w
    → CommandOwes w (commands.Close name) (do_command w line actor (commands.Close name))
unfolding do_command
close_owes w line actor name order = closed w line actor name order (handle_of w actor name) refl

-- each command
pub command_owes : (w : World) (line actor : ℕ) → HandlesInOrder w → (c : Command)
    → CommandOwes w c (do_command w line actor c)
command_owes w line actor order (commands.Open name prov grant) = open_owes w line actor name prov grant
command_owes w line actor order (commands.Close name) = close_owes w line actor name order
command_owes w line actor order c = others_change w line actor c refl refl
