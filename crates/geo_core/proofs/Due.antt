-- What a mesh has that is read: what is due next, whether all is at rest, how many bytes a bio reads and where it goes.
use Rattle.std.specs.Prelude.{◌≡◌, ℕ, suc, ◌==◌, nat_le, Bool, true, false, not, ◌&&◌, ◌||◌, List, [], ◌∷◌, length, find, map, Option, Some, None, unwrap_or, is_some, is_none, IsSome, IsTrue, Contains, slice_get, ◌≤◌}
use Rattle.std.specs.List.{AllByRecursion, list_all}
use Rattle.std.specs.Option.{option_map, option_map_or, option_and_then}
use Rattle.std.proofs.Common.{refl, sym, ◌∙◌, ap, subst, arith}
use Rattle.std.proofs.lemmas.Bool.{ne_eqb}
use Rattle.std.proofs.lemmas.List.Elements.{recursion_from_All}
use Rattle.std.proofs.lemmas.Simd.{map-map}
use Rattle.geo_base.proofs.Options.{none-mapped}
use Rattle.geo_base.proofs.FindLists.{find_agree}
use Rattle.geo_base.proofs.AllLists.{all_weaker}
use Rattle.geo_model.specs.declared.command.LineCommand.{LineCommand}
use Rattle.geo_model.specs.declared.step.Found.{Found}
use Rattle.geo_model.specs.declared.step.Phase.{Phase}
use Rattle.geo_model.specs.declared.step.Step.{Step}
use Rattle.geo_model.specs.World.{World, Bio, BioOf, is_busy, is_sent, bio_among}
use Rattle.geo_model.specs.Bios.{busy_bio, disk_of_bio, disk_at}
use Rattle.geo_model.specs.Fitting.{Firm}
use Rattle.geo_model.specs.Graph.{AreNumbers}
use Rattle.geo_model.specs.Freeing.{reap_work, wash_work}
use Rattle.geo_model.specs.Laws.{NoneBusy}
use Rattle.geo_model.specs.Order.{is_at_rest, first_bio, is_to_take, take_step}
use Rattle.geo_model.specs.Step.{reap_next, wash_next}
use Rattle.geo_bio.specs.declared.bio.Held.{Held}
use Rattle.geo_log.specs.Places.{delivered_at}
use Rattle.geo_state.specs.Traffic.{first_in}
use Rattle.geo_state.specs.Shown.{shown_bio}
use Rattle.geo_state.specs.Steps.{IsAgainst}
use Rattle.geo_core.specs.declared.running.Running.{Running}
use Rattle.geo_core.specs.Left.{left_of}
use Rattle.geo_core.specs.Mesh.{MeshView, world_of, bytes_read, bytes_read_by}
use Rattle.geo_core.specs.Running.{seen, world_now, is_idle}
use Rattle.geo_laws_graph.proofs.Lists.{found_itself}
use Rattle.geo_laws_graph.proofs.Members.{find-Contains}
use Rattle.geo_state.proofs.Lists.{find-none}
use Rattle.geo_core.proofs.Meshes.{Reads, mesh_firm}
use Rattle.geo_base.specs.declared.limits.TheConstants.{MAX_REQUEST_BYTES}
use Rattle.geo_model.specs.Words.{is_read}
use Rattle.geo_core.specs.Sent.{spot_in, spot_of}
use Rattle.geo_model.specs.declared.step.Step.TheVariants as steps
use Rattle.geo_moves.proofs.Told as told
pub use Rattle.geo_moves.proofs.Told.{none_told}

-- What is first

-- a Take, where no bio is Busy

module _ (w : World) (firm : Firm w) (none : NoneBusy w) where
  idle : AllByRecursion (λ (x : Bio). is_busy x.phase ≡ false) w.bios
  idle = recursion_from_All (λ (x : Bio). is_busy x.phase ≡ false) w.bios none

  no_busy : (disk : ℕ) → busy_bio w disk ≡ None
  no_busy disk =
      find-none (λ (x : Bio). is_busy x.phase && option_map_or (λ d. d == disk) (disk_at w.topology x.target) false)
      w.bios
      (all_weaker (λ (x : Bio). is_busy x.phase ≡ false)
      (λ (x : Bio). (is_busy x.phase && option_map_or (λ d. d == disk) (disk_at w.topology x.target) false) ≡ false)
      (λ x e. rw e refl) w.bios idle)

  -- a bio that is Sent has its disk
  abbrev HasDisk : Bio → Type 0
  HasDisk x = IsTrue (is_sent x.phase || is_busy x.phase) → IsSome (disk_of_bio w x)

  can_take : (x : Bio) → HasDisk x → is_to_take w x ≡ is_sent x.phase
  can_take x has = by (is_sent x.phase) refl where
    at : (o : Option ℕ) → IsSome o → option_map_or (λ d. is_none (busy_bio w d)) o false ≡ true
    at None is = absurd (let no : ⊥ = cc in no)
    at (Some d) is = rw (no_busy d) refl

    by : (b : Bool) → is_sent x.phase ≡ b → is_to_take w x ≡ is_sent x.phase
    by false e = rw e refl
    by true e = rw e (at (disk_of_bio w x) (has (rw e refl)))

  disks : AllByRecursion HasDisk w.bios
  disks = recursion_from_All HasDisk w.bios firm.bios.disks.at_disk

  pub first_taken : find (is_to_take w) w.bios ≡ find (λ (x : Bio). is_sent x.phase) w.bios
  first_taken =
      find_agree (is_to_take w) (λ (x : Bio). is_sent x.phase) w.bios
      (all_weaker HasDisk (λ (x : Bio). is_to_take w x ≡ is_sent x.phase) can_take w.bios disks)

-- what is first by its number

some_first : (o : Option (BioOf Held)) (bio : ℕ) → option_map (λ (x : BioOf Held). x.number) o ≡ Some bio
    → (x : BioOf Held) × (o ≡ Some x) × (x.number ≡ bio)
some_first None bio e = absurd (let no : ⊥ = cc in no)
some_first (Some x) bio e = (x, refl, let same : x.number ≡ bio = cc in same)

-- a number, or 0 where there is none
or_none : (o : Option ℕ) → unwrap_or o 0 ≡ option_map_or (λ d. d) o 0
or_none None = refl
or_none (Some d) = refl

-- whether nothing is in a list
pub no_items : {X : Type 0} (xs : List X) → is_none (slice_get xs 0) ≡ (length xs == 0)
no_items [] = refl
no_items (x ∷ xs) = sym (ne_eqb (suc (length xs)) 0 (λ same. omega (arith, same)))

-- What a mesh that is read has

module _ {r : Running} {v : MeshView} (it : Reads r v) where
  abbrev log : ℕ → Option (List ℕ)
  log = delivered_at r.log.items

  abbrev bios : List (BioOf Held)
  bios = r.state.traffic.bios

  abbrev w : World
  w = world_of v

  shows : world_now r ≡ w
  shows = it.is.world ∙ ap (λ (m : MeshView). world_of m) it.same

  firm_now : Firm w
  firm_now = subst Firm shows (mesh_firm r it.is)

  -- the first bio that passes, as a step by its number
  pub first_step : (test : Phase → Bool) (make : ℕ → Step) (o : Option ℕ) → o ≡ first_in test bios
      → option_map make o ≡ first_bio w (λ x. test x.phase) (λ x. make x.number)
  first_step = told.first_step (left_of r.plan.commands r.left) r.log.items r.state shows

  -- the first one from a number on
  pub next_shown : (from : ℕ)
      → option_map (λ (x : BioOf Held). x.number) (find (λ (x : BioOf Held). nat_le from x.number) bios)
      ≡ option_map (λ (x : Bio). x.number) (find (λ (x : Bio). nat_le from x.number) w.bios)
  next_shown = told.next_shown (left_of r.plan.commands r.left) r.log.items r.state shows

  -- bios stand in order of their numbers
  numbers : AreNumbers (map (λ (x : BioOf Held). x.number) bios) r.state.traffic.next
  numbers =
      subst (λ ns. AreNumbers ns r.state.traffic.next) (map-map (λ (x : Bio). x.number) (shown_bio log) bios)
      (mesh_firm r it.is).bios.numbers

  module _ (none : NoneBusy w) where
    -- the first that can be taken is the first that is Sent
    first_of : find (is_to_take w) w.bios
        ≡ option_map (shown_bio log) (find (λ (x : BioOf Held). is_sent x.phase) bios)
    first_of =
        first_taken w firm_now none
        ∙ told.finds (left_of r.plan.commands r.left) r.log.items r.state shows (λ x. is_sent x.phase)

    pub take_none : first_in is_sent bios ≡ None → None ≡ first_bio w (is_to_take w) (take_step w)
    take_none e =
        let o = none-mapped (λ (x : BioOf Held). x.number) (find (λ (x : BioOf Held). is_sent x.phase) bios) e in
        sym (ap (option_map (take_step w)) (first_of ∙ ap (option_map (shown_bio log)) o))

    pub take_some : (bio disk : ℕ) → first_in is_sent bios ≡ Some bio
        → disk ≡ unwrap_or (option_and_then (λ (x : BioOf Held). disk_at r.state.topo.topology x.target)
        (bio_among bios bio)) 0
        → Some (steps.Take disk bio) ≡ first_bio w (is_to_take w) (take_step w)
    take_some bio disk e at =
        let first = some_first (find (λ (x : BioOf Held). is_sent x.phase) bios) bio e in
        let x : BioOf Held = first.0 in
        let here : Contains bios x = find-Contains (λ (y : BioOf Held). is_sent y.phase) bios x first.1 in
        let itself : bio_among bios x.number ≡ Some x =
        found_itself (λ (y : BioOf Held). y.number) r.state.traffic.next bios x numbers here in
        let named : bio_among bios bio ≡ Some x = subst (λ n. bio_among bios n ≡ Some x) first.2 itself in
        let to : disk ≡ option_map_or (λ d. d) (disk_at r.state.topo.topology x.target) 0 =
        rw named at at ∙ or_none (disk_at r.state.topo.topology x.target) in
        let graph : disk ≡ option_map_or (λ d. d) (disk_at w.topology x.target) 0 =
        subst (λ (u : World). disk ≡ option_map_or (λ d. d) (disk_at u.topology x.target) 0) shows to in
        let P : ℕ → ℕ → Option Step = λ d n. Some (steps.Take d n) in
        sym (ap (option_map (take_step w)) (first_of ∙ ap (option_map (shown_bio log)) first.1)
        ∙ ap (λ d. P d x.number) (sym graph) ∙ ap (P disk) first.2)

  -- how many bytes a bio reads
  pub bytes_shown : (bio : ℕ) (o : Option (BioOf Held)) → o ≡ bio_among bios bio
      → option_map_or (λ (x : Bio). bytes_read x.cmd x.len) (option_map (shown_bio log) o) 0 ≡ bytes_read_by w bio
  bytes_shown = told.bytes_shown (left_of r.plan.commands r.left) r.log.items r.state shows

  -- a READ is short
  pub held_is_short : (bio : ℕ) (x : BioOf Held) → Some x ≡ bio_among bios bio → is_read x.cmd ≡ true
      → x.len ≤ MAX_REQUEST_BYTES
  held_is_short = told.held_is_short (left_of r.plan.commands r.left) r.log.items r.state shows firm_now

  -- where it goes if it waits for its disk
  pub spot_shown : (bio : ℕ) (o : Option (BioOf Held)) → o ≡ bio_among bios bio
      → option_and_then (spot_in r.state.topo.topology) (option_map (shown_bio log) o) ≡ spot_of w bio
  spot_shown = told.spot_shown (left_of r.plan.commands r.left) r.log.items r.state shows

  -- nothing can be reaped where that is what is found
  pub unreaped : (reaps : Option Found) → IsAgainst reap_next r.state reaps → is_some reaps ≡ is_none (reap_work w)
  unreaped = told.unreaped (left_of r.plan.commands r.left) r.log.items r.state shows

  -- nor washed
  pub unwashed : (washes : Option Found) → IsAgainst wash_next r.state washes → is_some washes ≡ is_none (wash_work w)
  unwashed = told.unwashed (left_of r.plan.commands r.left) r.log.items r.state shows

  -- all is at rest where each test holds
  pub rested : (idle no_reap no_wash : Bool) → idle ≡ is_idle (world_of (seen r)) → no_reap ≡ is_none (reap_work w)
      → no_wash ≡ is_none (wash_work w) → (idle && (no_reap && no_wash)) ≡ is_at_rest w
  unfolding is_at_rest
  rested idle no_reap no_wash is_so reaps washes =
      rw (is_so ∙ ap (λ (m : MeshView). is_idle (world_of m)) it.same, reaps, washes)
      (by (length w.bios == 0) (length w.events == 0) (is_none w.taste)
      (list_all (λ (rest : List LineCommand). length rest == 0) w.actors)
      (is_none (reap_work w) && is_none (wash_work w)))
    where
      by : (bios events taste done last : Bool)
          → (((bios && (events && taste)) && done) && last) ≡ (done && (bios && (events && (taste && last))))
      by true true true true last = refl
      by true true true false last = refl
      by true true false true last = refl
      by true true false false last = refl
      by true false taste true last = refl
      by true false taste false last = refl
      by false events taste true last = refl
      by false events taste false last = refl
