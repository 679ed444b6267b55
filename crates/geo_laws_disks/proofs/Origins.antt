-- Where each bio that stands after a step comes from: it stood before, or is new and without a range if it is a FLUSH.
use Rattle.std.proofs.Common.{◌≡◌, ◌⊎◌, ℕ, ◌+◌, true, [], ◌∷◌, ◌++◌, unwrap_or, refl, inl, inr, ◌≢◌, ◌≤◌, ◌==◌, Bool, false, List, map, Some, All, Contains, sym, ◌∙◌, ap, subst, arith, eq-eqb, eqb-true, Option, None, not, filter, IsSomeAnd, IsTrue, if◌then◌else◌, fold, Ok, Err}
use Rattle.std.proofs.lemmas.Bool.{both_ways}
use Rattle.std.proofs.lemmas.List.Elements.{All-from_recursion, recursion_from_All, All-append, All-contains, All-filter}
use Rattle.std.specs.List.{AllByRecursion, enumerate_from}
use Rattle.std.specs.Option.{option_map_or}
use Rattle.std.specs.Prelude.{⊤}
use Rattle.geo_base.specs.declared.errno.Errno.TheVariants.{EIO}
use Rattle.geo_model.specs.declared.class.Judged.{Judged}
use Rattle.geo_model.specs.declared.class.Judged.TheVariants as judgeds
use Rattle.geo_model.specs.declared.command.Command.{Command}
use Rattle.geo_model.specs.declared.step.BioResult.{BioResult}
use Rattle.geo_model.specs.declared.step.BioResult.TheVariants as results
use Rattle.geo_model.specs.declared.step.Event.{Event}
use Rattle.geo_model.specs.declared.step.Event.TheVariants as events
use Rattle.geo_model.specs.declared.step.Outcome.{Outcome}
use Rattle.geo_model.specs.declared.step.Owner.{Owner}
use Rattle.geo_model.specs.declared.step.Owner.TheVariants as owners
use Rattle.geo_model.specs.declared.step.Phase.{Phase}
use Rattle.geo_model.specs.declared.step.Phase.TheVariants as phases
use Rattle.geo_model.specs.declared.step.Step.{Step}
use Rattle.geo_model.specs.Bios.{new_bio, Way, Bounces, Fails, Sends, Splits, Passes, PieceTarget, empty_piece, is_hit, piece_child, piece_children, piece_targets, split_bio, start_by, up_with, way_at, way_of, child_results, complete_parent, is_complete, joined_result, up_to, result_of_device}
use Rattle.geo_model.specs.Commands.{do_command}
use Rattle.geo_model.specs.Events.{is_not_tasted, dying_consumers}
use Rattle.geo_model.specs.Fitting.{Firm}
use Rattle.geo_model.specs.Freeing.{reap_handle}
use Rattle.geo_model.specs.Graph.{AreNumbers}
use Rattle.geo_model.specs.HandleCommands.{accept_request}
use Rattle.geo_model.specs.Place.{components}
use Rattle.geo_model.specs.Requests.{Asking, provider_of_handle}
use Rattle.geo_model.specs.SoundBios.{IsFamilyInOrder}
use Rattle.geo_model.specs.Step.{Answer, with_commands, step}
use Rattle.geo_model.specs.Tasting.{Judging, judged_world}
use Rattle.geo_model.specs.Topology.{Provider, Topology, Geom, is_errored, provider_with_geom, note_started}
use Rattle.geo_model.specs.Words.{is_flush}
use Rattle.geo_model.specs.World.{World, Handle, Bio, bio_at, change_number, is_busy, Config, Disk, Nop, change_bio, is_child_of, is_up, is_waiting, granted_in, is_down, is_sent}
use Rattle.geo_model.specs.WorldEvents.{do_event, kill_handle}
use Rattle.geo_model.proofs.BioLemmas.{quiet_phase}
use Rattle.geo_model.proofs.CommandWalk.{any_graph_by}
use Rattle.geo_model.proofs.StepWalk.{step_by}
use Rattle.geo_laws_graph.proofs.Members.{All-from_contained, at_contained, find-Contains}
use Rattle.geo_laws_graph.proofs.Numbered.{unique, number_found}
use Rattle.geo_laws_requests.proofs.Legal.{found_there, can_take}
use Rattle.geo_laws_requests.proofs.Named.{own_phase}
use Rattle.geo_laws_requests.proofs.Starts.{in_phase, keeps_phase, keeps_up}
use Rattle.geo_laws_requests.proofs.Turning.{KeepsRequest}

-- a FLUSH has no range
abbrev pub IsBare : Bio → Type 0
IsBare x = is_flush x.cmd ≡ true → (x.offset ≡ 0) × (x.len ≡ 0)

-- the bios and the disks of the header are what they were
abbrev Stays : World → World → Type 0
Stays w v = (v.bios ≡ w.bios) × (v.next_bio ≡ w.next_bio) × (v.disks ≡ w.disks)

-- a bio comes: it is the last, and has the next number, and no range if it is a FLUSH
abbrev BioComes : World → World → Bio → Type 0
BioComes w v y =
    (v.bios ≡ w.bios ++ y ∷ []) × (v.next_bio ≡ w.next_bio + 1) × (v.disks ≡ w.disks) × (y.number ≡ w.next_bio)
    × IsBare y

-- the bios stay, or one comes
abbrev pub StayOrCome : World → World → Type 0
StayOrCome w v = Stays w v ⊎ ((y : Bio) × BioComes w v y)

-- what a command made, by the world before it
abbrev pub Made : World → World × Outcome → Type 0
Made w made = StayOrCome w made.0

-- a request that is accepted comes
accepted : (w : World) (line : ℕ) (h : Handle) (a : Asking)
    → (is_flush a.cmd ≡ true → (a.offset ≡ 0) × (a.len ≡ 0)) → Made w (accept_request w line h a)
accepted w line h a bare =
    inr (made, (refl, refl, refl, refl, bare))
  where
    made : Bio
    made = new_bio w.next_bio a.cmd a.offset a.len a.bytes (unwrap_or h.consumer 0)
        (option_map_or (λ (p : Provider). p.number) (provider_of_handle w h) 0) (owners.Line h.number line)

-- each command
pub command_made : (w : World) (line actor : ℕ) (c : Command) → Made w (do_command w line actor c)
command_made w line actor =
    any_graph_by w line actor (λ c made. Made w made)
    (λ c q e. inl (refl, refl, refl))
    (λ c q. inl (refl, refl, refl))
    (record {
      waits = λ c is. inl (refl, refl, refl);
      lists = inl (refl, refl, refl);
      opens = λ name prov grant p is. inl (refl, refl, refl);
      closes = λ name h is. inl (refl, refl, refl);
      accepts = λ c h a is. accepted w line h a is.formed.bare;
    })

-- a bio stood before, with its number and its range; while another seat is at it, it is Busy as it was
pub record Stood (w : World) (seat : ℕ) (z : Bio) : Type 0 where
  pub before : Bio
  pub here : Contains w.bios before
  pub number : z.number ≡ before.number
  pub cmd : z.cmd ≡ before.cmd
  pub offset : z.offset ≡ before.offset
  pub len : z.len ≡ before.len
  pub busy : (other : ℕ) → other ≢ seat → before.phase ≡ phases.Busy other → z.phase ≡ phases.Busy other

-- a bio is new: it has a number that none had, and no range if it is a FLUSH
pub record IsNew (w : World) (z : Bio) : Type 0 where
  pub number : w.next_bio ≤ z.number
  pub bare : IsBare z

-- each bio after a step stood before, or is new
abbrev pub Origin : World → ℕ → Bio → Type 0
Origin w seat z = Stood w seat z ⊎ IsNew w z

-- what a step of a seat does to the bios: each has an origin, numbers are given out in order, and disks stay
pub record HasOrigins (w v : World) (seat : ℕ) : Type 0 where
  pub next : w.next_bio ≤ v.next_bio
  pub disks : v.disks ≡ w.disks
  pub each : All (Origin w seat) v.bios

-- no other seat is at a bio in this phase
abbrev pub IsFree : ℕ → Phase → Type 0
IsFree seat p = (other : ℕ) → other ≢ seat → p ≡ phases.Busy other → ⊥

-- a bio that isn't Busy is free
pub not_busy : (seat : ℕ) (p : Phase) → is_busy p ≡ false → IsFree seat p
not_busy seat p quiet other apart is = both_ways (is_busy p) quiet (ap is_busy is)

module _ (w : World) (seat : ℕ) where
  -- a bio that stays
  pub stays_so : (z : Bio) → Contains w.bios z → Origin w seat z
  stays_so z here = inl (record {
    before = z;
    here = here;
    number = refl;
    cmd = refl;
    offset = refl;
    len = refl;
    busy = λ other apart is. is;
  })

  -- all stay
  pub all_stay : All (Origin w seat) w.bios
  all_stay =
      All-from_recursion (Origin w seat) w.bios (All-from_contained (Origin w seat) w.bios (λ z here. stays_so z here))

  -- a bio that is turned, while no other seat is at it
  turned : (change : Bio → Bio) → KeepsRequest change → (z : Bio)
      → ((y : Bio) → Contains w.bios y → y.number ≡ z.number → IsFree seat y.phase)
      → Origin w seat z → Origin w seat (change z)
  turned change keeps z free (inl was) = inl (record {
    before = was.before;
    here = was.here;
    number = keeps.number z ∙ was.number;
    cmd = (keeps.request z).cmd ∙ was.cmd;
    offset = (keeps.request z).offset ∙ was.offset;
    len = (keeps.request z).len ∙ was.len;
    busy = λ other apart is. absurd (free was.before was.here (sym was.number) other apart is);
  })
  turned change keeps z free (inr new) = inr (record {
    number = omega (arith, keeps.number z, new.number);
    bare = λ flushes.
        let none : (z.offset ≡ 0) × (z.len ≡ 0) = new.bare (ap is_flush (sym (keeps.request z).cmd) ∙ flushes) in
        ((keeps.request z).offset ∙ none.0, (keeps.request z).len ∙ none.1);
  })

  -- where no other seat is at the bio of a number, it may be turned
  pub changed_origins : (n : ℕ) (change : Bio → Bio) → KeepsRequest change
      → ((y : Bio) → Contains w.bios y → y.number ≡ n → IsFree seat y.phase)
      → (zs : List Bio) → All (Origin w seat) zs → All (Origin w seat) (change_number n change zs)
  changed_origins n change keeps free zs all =
      All-from_recursion (Origin w seat) (change_number n change zs)
      (go zs (recursion_from_All (Origin w seat) zs all))
    where
      go : (zs : List Bio) → AllByRecursion (Origin w seat) zs
          → AllByRecursion (Origin w seat) (change_number n change zs)
      go [] all = tt
      go (z ∷ zs) all = by (z.number == n) refl (go zs all.1)
        where
          by : (c : Bool) → (z.number == n) ≡ c → AllByRecursion (Origin w seat) (change_number n change zs)
              → AllByRecursion (Origin w seat) (change_number n change (z ∷ zs))
          by true e rest =
              rw e (turned change keeps z (λ y here same. free y here (same ∙ eqb-true z.number n e)) all.0, rest)
          by false e rest = rw e (all.0, rest)

  -- no other seat is at any bio of the number of one that is free
  pub free_at : (n : ℕ) (x : Bio) → AreNumbers (map (λ (y : Bio). y.number) w.bios) w.next_bio → bio_at w n ≡ Some x
      → IsFree seat x.phase → (y : Bio) → Contains w.bios y → y.number ≡ n → IsFree seat y.phase
  free_at n x are found free y here same =
      let one : y ≡ x =
      at_contained (λ (q : Bio). (q.number == n) ≡ true → q ≡ x) w.bios y
      (unique (λ (q : Bio). q.number) w.next_bio n w.bios x are found) here (rw same (eq-eqb n n refl)) in
      subst (λ (q : Bio). IsFree seat q.phase) (sym one) free

-- Start

-- a piece has no range
abbrev IsEmptyTarget : PieceTarget → Type 0
IsEmptyTarget z = (z.piece.span.offset ≡ 0) × (z.piece.span.len ≡ 0)

-- the pieces of a way, if it has any, have no range
abbrev EmptyWay : Way → Type 0
EmptyWay (Splits targets) = AllByRecursion IsEmptyTarget targets
EmptyWay (Passes g targets) = AllByRecursion IsEmptyTarget targets
EmptyWay way = ⊤

-- the pieces of a FLUSH have none
empty_targets : (config : Config) (p : Provider) (x : Bio) → is_flush x.cmd ≡ true
    → AllByRecursion IsEmptyTarget (piece_targets config p x)
empty_targets config p x flushes = rw flushes (each (components config))
  where
    each : (cs : List ℕ)
        → AllByRecursion IsEmptyTarget (map (λ c. record { consumer = c; piece = empty_piece }) cs)
    each [] = tt
    each (c ∷ cs) = ((refl, refl), each cs)

-- the pieces of a FLUSH are empty
empty_at : (x : Bio) (p : Provider) (g : Geom Config) → is_flush x.cmd ≡ true → (config : Config)
    → EmptyWay (way_at x p g config)
empty_at x p g flushes (Disk disk) = tt
empty_at x p g flushes (Nop below offset fail) = by (is_hit (g.started + 1) fail) refl
  where
    by : (b : Bool) → is_hit (g.started + 1) fail ≡ b → EmptyWay (way_at x p g (Nop below offset fail))
    by true e = rw e tt
    by false e = rw e (empty_targets g.config p x flushes)
empty_at x p g flushes config = empty_targets config p x flushes

-- whatever way a FLUSH goes
empty_way : (t : Topology Config) (x : Bio) → is_flush x.cmd ≡ true → EmptyWay (way_of t x)
empty_way t x flushes = by (is_errored t x.target) refl
  where
    at : is_errored t x.target ≡ false → (o : Option (Provider × Geom Config)) → provider_with_geom t x.target ≡ o
        → EmptyWay (way_of t x)
    at fine None e = rw fine (rw e tt)
    at fine (Some both) e = rw fine (rw e (empty_at x both.0 both.1 flushes both.1.config))

    by : (b : Bool) → is_errored t x.target ≡ b → EmptyWay (way_of t x)
    by true e = rw e tt
    by false e = at e (provider_with_geom t x.target) refl

-- the children of a bio are new
kids_new : (w : World) (seat : ℕ) (t : Topology Config) (x : Bio) (k : ℕ) (targets : List PieceTarget)
    → (is_flush x.cmd ≡ true → AllByRecursion IsEmptyTarget targets)
    → AllByRecursion (Origin w seat)
    (map (λ item. piece_child t w.next_bio x item.0 item.1) (enumerate_from k targets))
kids_new w seat t x k [] empty = tt
kids_new w seat t x k (z ∷ zs) empty = (
  inr (record { number = omega arith; bare = λ flushes. (empty flushes).0 }),
  kids_new w seat t x (k + 1) zs (λ flushes. (empty flushes).1),
)

-- a bio to which no other seat is

module _ (w : World) (seat : ℕ) (are : AreNumbers (map (λ (y : Bio). y.number) w.bios) w.next_bio) (x : Bio)
    (found : bio_at w x.number ≡ Some x) (free : IsFree seat x.phase) where
  -- the bios that stood
  old : (change : Bio → Bio) → KeepsRequest change → All (Origin w seat) (change_number x.number change w.bios)
  old change keeps = changed_origins w seat x.number change keeps (free_at w seat x.number x are found free) w.bios
      (all_stay w seat)

  -- a bio that is turned alone
  pub alone : (t : Topology Config) (change : Bio → Bio) → KeepsRequest change
      → HasOrigins w (record w { topology = t; bios = change_number x.number change w.bios }) seat
  alone t change keeps = record { next = omega arith; disks = refl; each = old change keeps }

  -- one that is split
  split : (t : Topology Config) (targets : List PieceTarget)
      → (is_flush x.cmd ≡ true → AllByRecursion IsEmptyTarget targets)
      → HasOrigins w (split_bio (record w { topology = t }) x targets).0 seat
  split t targets empty = record {
    next = omega arith;
    disks = refl;
    each = All-append (Origin w seat) (change_number x.number (in_phase phases.Waiting) w.bios)
        (piece_children t w.next_bio x targets) (old (in_phase phases.Waiting) (keeps_phase phases.Waiting))
        (All-from_recursion (Origin w seat) (piece_children t w.next_bio x targets)
        (kids_new w seat t x 0 targets empty));
  }

  -- a Start, by the way
  start_origins : (way : Way) → (is_flush x.cmd ≡ true → EmptyWay way) → HasOrigins w (start_by w x way).0 seat
  start_origins (Bounces e) empty = alone w.topology (up_with (results.Failed e)) (keeps_up (results.Failed e))
  start_origins (Fails g) empty =
      alone (note_started w.topology g) (up_with (results.Failed EIO)) (keeps_up (results.Failed EIO))
  start_origins (Sends disk) empty = alone w.topology (in_phase phases.Sent) (keeps_phase phases.Sent)
  start_origins (Splits targets) empty = split w.topology targets empty
  start_origins (Passes g targets) empty = split (note_started w.topology g) targets empty

  -- so for the way that it goes
  pub started_origins : (way : Way) → way_of w.topology x ≡ way → HasOrigins w (start_by w x way).0 seat
  started_origins way goes = start_origins way (λ flushes. subst EmptyWay goes (empty_way w.topology x flushes))

-- no other seat is at a bio that is Busy at a seat
pub free_of_others : (seat : ℕ) (p : Phase) → p ≡ phases.Busy seat → IsFree seat p
free_of_others seat p own other apart is =
    let same : phases.Busy other ≡ phases.Busy seat = sym is ∙ own in
    apart (let it : other ≡ seat = cc in it)

-- the world after the Up of a child, by whether it is the last
abbrev pub gathered_or : World → ℕ → Bool → World
gathered_or done parent c = if c then option_map_or (λ y. complete_parent done y) (bio_at done parent) done else done

module _ (w : World) (seat : ℕ) (firm : Firm w) (x : Bio) (found : bio_at w x.number ≡ Some x)
    (free : IsFree seat x.phase) (parent : ℕ)
    (waits : IsSomeAnd (bio_at w parent) (λ y. IsTrue (is_waiting y.phase))) where
  -- the world in which the child is Done
  abbrev done : World
  done = change_bio w x.number (in_phase phases.Done)

  -- its bios
  done_origins : All (Origin w seat) done.bios
  done_origins =
      changed_origins w seat x.number (in_phase phases.Done) (keeps_phase phases.Done)
      (free_at w seat x.number x firm.bios.numbers found free) w.bios (all_stay w seat)

  -- no other seat is at the parent
  parent_free : (y : Bio) → Contains w.bios y → y.number ≡ parent → IsFree seat y.phase
  parent_free = by (bio_at w parent) refl waits
    where
      by : (z : Option Bio) → bio_at w parent ≡ z → IsSomeAnd z (λ y. IsTrue (is_waiting y.phase))
          → (y : Bio) → Contains w.bios y → y.number ≡ parent → IsFree seat y.phase
      by None at waits = absurd waits
      by (Some q) at waits =
          free_at w seat parent q firm.bios.numbers at
          (not_busy seat q.phase (quiet_phase is_waiting (λ s. refl) q.phase waits))

  -- the parent goes up, and its children go
  parent_up : (y : Bio) → bio_at done parent ≡ Some y → All (Origin w seat) (complete_parent done y).bios
  parent_up y at =
      let its : y.number ≡ parent = number_found (λ (z : Bio). z.number) done.bios parent y at in
      let got : BioResult = joined_result y.cmd (child_results done y.number) in
      All-filter (λ (z : Bio). not (is_child_of z.owner y.number)) (Origin w seat)
      (change_number y.number (up_with got) done.bios)
      (changed_origins w seat y.number (up_with got) (keeps_up got)
      (λ z here same. parent_free z here (same ∙ its)) done.bios done_origins)

  -- by whether it is the last
  gathered_origins : (c : Bool) → All (Origin w seat) (gathered_or done parent c).bios
  gathered_origins false = done_origins
  gathered_origins true = by (bio_at done parent) refl
    where
      by : (z : Option Bio) → bio_at done parent ≡ z
          → All (Origin w seat) (option_map_or (λ y. complete_parent done y) z done).bios
      by None at = done_origins
      by (Some y) at = parent_up y at

  -- no number is given out, and the disks stay
  gathered_rest : (c : Bool)
      → ((gathered_or done parent c).next_bio ≡ w.next_bio) × ((gathered_or done parent c).disks ≡ w.disks)
  gathered_rest false = (refl, refl)
  gathered_rest true = by (bio_at done parent)
    where
      by : (z : Option Bio)
          → ((option_map_or (λ y. complete_parent done y) z done).next_bio ≡ w.next_bio)
          × ((option_map_or (λ y. complete_parent done y) z done).disks ≡ w.disks)
      by None = (refl, refl)
      by (Some y) = (refl, refl)

-- an Up

module _ (w : World) (seat : ℕ) (firm : Firm w) (x : Bio) (found : bio_at w x.number ≡ Some x)
    (up : is_up x.phase ≡ true) where
  free : IsFree seat x.phase
  free = not_busy seat x.phase (quiet_phase is_up (λ s. refl) x.phase up)

  -- a root goes
  goes : (v : World) → v.bios ≡ filter (λ (y : Bio). not (y.number == x.number)) w.bios → v.next_bio ≡ w.next_bio
      → v.disks ≡ w.disks → HasOrigins w v seat
  goes v bios next disks = record {
    next = omega (arith, next);
    disks = disks;
    each = subst (λ ys. All (Origin w seat) ys) (sym bios)
        (All-filter (λ (y : Bio). not (y.number == x.number)) (Origin w seat) w.bios (all_stay w seat));
  }

  family : IsFamilyInOrder w.topology w.bios x
  family =
      All-contains (IsFamilyInOrder w.topology w.bios) w.bios x firm.bios.families
      (find-Contains (λ (y : Bio). y.number == x.number) w.bios x found)

  -- by the owner
  pub owner_origins : (o : Owner) → x.owner ≡ o → HasOrigins w (up_to w x o).0 seat
  owner_origins (owners.Line handle line) of = goes (up_to w x (owners.Line handle line)).0 refl refl refl
  owner_origins owners.Taste of = goes (up_to w x owners.Taste).0 refl refl refl
  owner_origins (owners.Child parent index) of =
      let waits : IsSomeAnd (bio_at w parent) (λ y. IsTrue (is_waiting y.phase)) = rw of at family.parent in
      let last : Bool = is_complete (done w seat firm x found free parent waits) parent in
      let rest = gathered_rest w seat firm x found free parent waits last in
      record {
        next = omega (arith, rest.0);
        disks = rest.1;
        each = gathered_origins w seat firm x found free parent waits last;
      }

-- Event, Judge, Reap, Wash

-- killed handles change no bio
killed : (w : World) (cs : List ℕ) → Stays w (fold kill_handle w cs)
killed w [] = (refl, refl, refl)
killed w (c ∷ cs) = killed (kill_handle w c) cs

-- an event that is done changes no bio and no disk
event_stays : (w : World) (e : Event) → Stays w (do_event w e)
unfolding do_event
event_stays w (events.NewProvider p) = by (is_not_tasted (granted_in w) w.topology p) refl
  where
    by : (b : Bool) → is_not_tasted (granted_in w) w.topology p ≡ b → Stays w (do_event w (events.NewProvider p))
    by true e = rw e (refl, refl, refl)
    by false e = rw e (refl, refl, refl)
event_stays w (events.Orphan p) = killed w (dying_consumers w.topology p)
event_stays w e = (refl, refl, refl)

-- a read of a taste comes
judged : (w : World) (x : Judging) (j : Judged) → Made w (judged_world w x j)
judged w x (judgeds.Read sector) = inr (_, (refl, refl, refl, refl, λ e. absurd (let bad : ⊥ = cc in bad)))
judged w x j = inl (refl, refl, refl)

-- a reap changes no bio
reaped : (w : World) (c : Option ℕ) → Stays w (reap_handle w c)
reaped w None = (refl, refl, refl)
reaped w (Some c) = (refl, refl, refl)

-- Each step

-- bios that stay, and one that comes, have their origins
come_origins : (w v : World) (seat : ℕ) → StayOrCome w v → HasOrigins w v seat
come_origins w v seat (inl stay) = record {
  next = omega (arith, stay.1);
  disks = stay.2;
  each = subst (λ ys. All (Origin w seat) ys) (sym stay.0) (all_stay w seat);
}
come_origins w v seat (inr come) = record {
  next = omega (arith, come.1.1);
  disks = come.1.2;
  each = subst (λ ys. All (Origin w seat) ys) (sym come.1.0)
      (All-append (Origin w seat) w.bios (come.0 ∷ []) (all_stay w seat)
      (All-from_recursion (Origin w seat) (come.0 ∷ [])
      (inr (record { number = omega (arith, come.1.3); bare = come.1.4 }), tt)));
}

-- what is known of an answer
abbrev Known : World → ℕ → Answer → Type 0
Known w seat (Ok made) = HasOrigins w made.0 seat
Known w seat (Err found) = ⊤

-- each step
all_origins : (w : World) (seat : ℕ) → Firm w → (s : Step) → Known w seat (step w seat s)
all_origins w seat firm =
    let are = firm.bios.numbers in
    step_by w seat (λ s a. Known w seat a) (record {
      refuses = λ s f. tt;
      goes = λ actor c rest is.
          come_origins w (do_command (with_commands w actor rest) c.line actor c.command).0 seat
          (command_made (with_commands w actor rest) c.line actor c.command);
      runs = λ e rest is.
          come_origins w (do_event (record w { events = rest }) e) seat
          (inl (event_stays (record w { events = rest }) e));
      judges = λ s x j is. come_origins w (judged_world w x j).0 seat (judged w x j);
      reaps = λ h c is. come_origins w (reap_handle w c) seat (inl (reaped w c));
      washes = λ work is. record { next = omega arith; disks = refl; each = all_stay w seat };
      starts = λ b x way is.
          started_origins w seat are x (found_there w b x is.found)
          (not_busy seat x.phase (quiet_phase is_down (λ s. refl) x.phase is.down)) way is.goes;
      takes = λ disk b x is.
          alone w seat are x (found_there w b x is.found)
          (not_busy seat x.phase (quiet_phase is_sent (λ s. refl) x.phase (can_take w disk x is.free).sent)) w.topology
          (in_phase (phases.Busy seat)) (keeps_phase (phases.Busy seat));
      delivers = λ b got x is.
          alone w seat are x (found_there w b x is.found)
          (free_of_others seat x.phase (own_phase w seat x got x.phase is.fits)) w.topology
          (up_with (result_of_device got)) (keeps_up (result_of_device got));
      rises = λ b x o is. owner_origins w seat firm x (found_there w b x is.found) is.up o is.owner;
    })

-- where each bio comes from, whatever the step
pub steps_origins : (w v : World) (seat : ℕ) (s : Step) (o : Outcome) → Firm w → step w seat s ≡ Ok (v, o)
    → HasOrigins w v seat
steps_origins w v seat s o firm made = subst (Known w seat) made (all_origins w seat firm s)
