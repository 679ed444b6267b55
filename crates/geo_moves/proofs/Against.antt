-- What is against a step of a request in the world that a state stands for, and what a Take and a Deliver do.
use Rattle.std.specs.Prelude.{◌≡◌, ℕ, ◌==◌, Bool, true, false, ◌&&◌, List, find, Option, Some, None, Contains, IsSome, option_and_then, slice_get, is_some, IsTrue, ◌+◌, ◌<◌, ◌||◌, [], ◌∷◌, ◌++◌, length, map, Ok, IsSomeAnd}
use Rattle.std.specs.Option.{option_map, option_map_or}
use Rattle.std.proofs.Common.{refl, sym, ◌∙◌, ap, subst, inl, inr, arith, length-append}
use Rattle.std.proofs.lemmas.Bool.{eqb-true, cases_Bool, eq-eqb, and_parts, or_right}
use Rattle.std.proofs.lemmas.List.Elements.{All-contains}
use Rattle.std.proofs.lemmas.Option.{slice_get-map, slice_get_within}
use Rattle.geo_base.proofs.FindLists.{find-map}
use Rattle.geo_model.specs.declared.command.LineCommand.{LineCommand}
use Rattle.geo_model.specs.declared.step.DeviceResult.{DeviceResult}
use Rattle.geo_model.specs.declared.step.Entry.{Entry}
use Rattle.geo_model.specs.declared.step.Found.{Found}
use Rattle.geo_model.specs.declared.step.Found.TheVariants as found
use Rattle.geo_model.specs.declared.step.Outcome.{Outcome}
use Rattle.geo_model.specs.declared.step.Phase.{Phase}
use Rattle.geo_model.specs.declared.step.Phase.TheVariants as phases
use Rattle.geo_model.specs.Topology.{Geom, Provider, geom_at, provider_at}
use Rattle.geo_model.specs.World.{World, Bio, BioOf, Config, bio_at, is_down, is_sent, is_busy, is_up, bio_among, change_number}
use Rattle.geo_model.specs.Place.{disk_of}
use Rattle.geo_model.specs.Bios.{take_bio, deliver, disk_at, busy_bio, disk_of_bio, sector_at, fits_bio, device_request, request_of_bio, result_of_device, up_with}
use Rattle.geo_model.specs.Fitting.{Firm}
use Rattle.geo_model.specs.Sound.{HasDiskSizes}
use Rattle.geo_model.specs.Step.{unless_found, start_of, take_of, deliver_of, up_of, take_found, disk_found, deliver_found}
use Rattle.geo_laws_graph.proofs.Members.{find-Contains, Contains-cases, at_contained}
use Rattle.geo_bio.specs.declared.bio.Held.{Held}
use Rattle.geo_log.specs.Places.{delivered_at}
use Rattle.geo_state.specs.Shown.{shown_bio, shown_bios, errno_of, held_of, AreLogged}
use Rattle.geo_state.specs.Seats.{with_busy_at}
use Rattle.geo_state.proofs.Fields.{Answers, holds-taken, holds-answered, only-taken}
use Rattle.geo_state.proofs.ShownLemmas.{shown_are_found}
use Rattle.geo_state.proofs.StepLemmas.{world_shows_bios, deliveries_are_shown, place_is_answer}
use Rattle.geo_state.specs.declared.state.State.{State}
use Rattle.geo_state.specs.declared.state.DiskSeat.{DiskSeat}
use Rattle.geo_state.specs.Trips.{Trip, trip_of, trips, is_at_disk}
use Rattle.geo_state.specs.Holds.{IsSeat, Holds}
use Rattle.geo_state.specs.World.{world, disk_of_seat, HasBytes}
use Rattle.geo_state.specs.Steps.{IsFirm, Stands, against, SameWorld, IsAgainst, Makes}
use Rattle.geo_moves.specs.Founds.{phase_found, seat_found, way_found, sent_found, take_against, busy_found, deliver_against}
use Rattle.geo_base.proofs.Options.{is_some-map, there_with_fact, none-mapped, some_of}
use Rattle.geo_bio.specs.BioTable.{has_phase, AreInOrder, BioTableView, with_phase, delivered, delivered_result}
use Rattle.geo_state.specs.Bios.{OnlyBios, GoesTo, IsFree, IsAloneAt}
use Rattle.std.specs.List.{AllByRecursion}
use Rattle.std.proofs.lemmas.Simd.{map-map}
use Rattle.geo_base.specs.declared.errno.Errno.{Errno}
use Rattle.geo_model.specs.declared.step.Outcome.TheVariants as outcomes
use Rattle.geo_model.specs.declared.step.Request.{Request}
use Rattle.geo_model.specs.declared.step.Step.TheVariants as steps
use Rattle.geo_model.specs.Graph.{AreNumbers}
use Rattle.geo_model.specs.SoundBios.{NotBothBusy}
use Rattle.geo_laws_graph.proofs.Numbered.{number_found}
use Rattle.geo_laws_life.proofs.Standers.{PairsByRecursion, recursion-from_pairs}
use Rattle.geo_laws_bios.proofs.Phases.{CanTake, can_take, CanDeliver, can_deliver}
use Rattle.geo_model.proofs.DemandLemmas.{all_weaker}
use Rattle.geo_bio.specs.Up.{resolved}
use Rattle.geo_state.proofs.LoggedLemmas.{grown_log_shows_the_same, places_stay_logged}

-- What is against a step of a request in the world that a state stands for

-- what is against an answer is what was found
pub against_unless : (o : Option Found) (made : World × Outcome) → against (unless_found o made) ≡ o
against_unless None made = refl
against_unless (Some f) made = refl

-- Seats

-- the disk of a provider is one of the header
disk_geom : (w : World) → Firm w → (g : Geom Config) → Contains w.topology.geoms g → (o : Option ℕ)
    → disk_of g.config ≡ o → (disk : ℕ) → o ≡ Some disk → IsSome (slice_get w.disks disk)
disk_geom w firm g here None e disk is = absurd cc
disk_geom w firm g here (Some d) e disk is =
    let sizes : HasDiskSizes w.topology w.disks g =
    All-contains (HasDiskSizes w.topology w.disks) w.topology.geoms g firm.graph.numbers.disk_sizes here in
    let same : d ≡ disk = cc in
    subst (λ n. IsSome (slice_get w.disks n)) same (there_with_fact _ (slice_get w.disks d) (rw e at sizes))

module _ (w : World) (firm : Firm w) (prov disk : ℕ) where
  disk_there : (p : Provider) (o : Option (Geom Config)) → geom_at w.topology p.geom ≡ o
      → option_and_then (λ (g : Geom Config). disk_of g.config) o ≡ Some disk → IsSome (slice_get w.disks disk)
  disk_there p None e is = absurd cc
  disk_there p (Some g) e is =
      disk_geom w firm g (find-Contains (λ (x : Geom Config). x.number == p.geom) w.topology.geoms g e)
      (disk_of g.config) refl disk is

  disk_by : (o : Option Provider) → provider_at w.topology prov ≡ o
      → option_and_then (λ (g : Geom Config). disk_of g.config)
      (option_and_then (λ (x : Provider). geom_at w.topology x.geom) o) ≡ Some disk
      → IsSome (slice_get w.disks disk)
  disk_by None e is = absurd cc
  disk_by (Some p) e is = disk_there p (geom_at w.topology p.geom) refl is

  pub disk_stands : disk_at w.topology prov ≡ Some disk → IsSome (slice_get w.disks disk)
  disk_stands is = disk_by (provider_at w.topology prov) refl is

-- so it has a seat
pub has_seat : (s : State) → IsFirm s → (prov disk : ℕ) → disk_at s.topo.topology prov ≡ Some disk
    → IsSome (slice_get s.disks.items disk)
has_seat s firm prov disk is =
    sym (is_some-map disk_of_seat (slice_get s.disks.items disk))
    ∙ ap (λ o. is_some o) (sym (slice_get-map disk_of_seat s.disks.items disk))
    ∙ disk_stands (world firm.1.0 firm.0 s) firm.1.1 prov disk is

-- the bio of the world is that of the table
pub there : (actors : List (List LineCommand)) (log : List Entry) (s : State) (b : ℕ)
    → bio_at (world actors log s) b ≡ option_map (shown_bio (delivered_at log)) (bio_among s.traffic.bios b)
there actors log s b =
    (world_shows_bios (delivered_at log) s.traffic.bios (world actors log s) refl).finds b

-- Bios that are there

-- a bio that is there is one of the world
pub here : (s : State) (firm : IsFirm s) (b : ℕ) (x : BioOf Held) → bio_among s.traffic.bios b ≡ Some x
    → Contains (world firm.1.0 firm.0 s).bios (shown_bio (delivered_at firm.0) x)
here s firm b x found =
    find-Contains (λ (y : Bio). y.number == b) (shown_bios (delivered_at firm.0) s.traffic.bios)
    (shown_bio (delivered_at firm.0) x)
    (there firm.1.0 firm.0 s b ∙ ap (option_map (shown_bio (delivered_at firm.0))) found)

-- a bio that is there, with a fact of it
pub record FoundBio (s : State) (b : ℕ) (P : BioOf Held → Type 0) : Type 0 where
  pub bio : BioOf Held
  pub found : bio_among s.traffic.bios b ≡ Some bio
  pub fact : P bio

-- a bio in a phase is there
pub in_phase : (s : State) (b : ℕ) (test : Phase → Bool) → IsTrue (has_phase test s.traffic.bios b)
    → FoundBio s b (λ x. test x.phase ≡ true)
in_phase s b test is = by (bio_among s.traffic.bios b) refl is
  where
    by : (o : Option (BioOf Held)) → bio_among s.traffic.bios b ≡ o
        → IsTrue (option_map_or (λ (x : BioOf Held). test x.phase) o false) → FoundBio s b (λ x. test x.phase ≡ true)
    by None e never = absurd cc
    by (Some x) e fact = record { bio = x; found = e; fact = fact }

-- Where only bios change

-- only the bios of the world are others
pub world_moved : (s new : State) → OnlyBios s new → (actors : List (List LineCommand)) (log : List Entry)
    → world actors log new ≡ record (world actors log s) {
      bios = shown_bios (delivered_at log) new.traffic.bios;
      next_bio = new.traffic.next;
    }
world_moved s new only actors log =
    ap (world actors log) only.rest
    ∙ ap (λ ds. let v : World = record (world actors log s) {
      bios = shown_bios (delivered_at log) new.traffic.bios;
      next_bio = new.traffic.next;
      disks = ds;
    } in v) only.disks

-- where nothing of the bios changed the world is the same
pub same_moved : (s new : State) → OnlyBios s new → new.traffic.bios ≡ s.traffic.bios
    → new.traffic.next ≡ s.traffic.next → SameWorld s new
same_moved s new only bios next actors log =
    world_moved s new only actors log
    ∙ (λ i. let v : World = record (world actors log s) {
      bios = shown_bios (delivered_at log) (bios i);
      next_bio = next i;
    } in v)

-- Steps

module _ (actors : List (List LineCommand)) (log : List Entry) (s : State) where
  abbrev now : World
  now = world actors log s

  abbrev texts : ℕ → Option (List ℕ)
  texts = delivered_at log

  -- Start

  start_bio : (o : Option (BioOf Held))
      → against (start_of now (option_map (shown_bio texts) o)) ≡ phase_found is_down o
  start_bio None = refl
  start_bio (Some x) = elim (cases_Bool (is_down x.phase)) [ inl e ↦ rw e refl | inr e ↦ rw e refl ]

  pub start_against : (b : ℕ) → against (start_of now (bio_at now b)) ≡ phase_found is_down (bio_among s.traffic.bios b)
  start_against b = ap (λ o. against (start_of now o)) (there actors log s b) ∙ start_bio (bio_among s.traffic.bios b)

  -- Up

  up_bio : (o : Option (BioOf Held)) → against (up_of now (option_map (shown_bio texts) o)) ≡ phase_found is_up o
  up_bio None = refl
  up_bio (Some x) = elim (cases_Bool (is_up x.phase)) [ inl e ↦ rw e refl | inr e ↦ rw e refl ]

  pub up_against : (b : ℕ) → against (up_of now (bio_at now b)) ≡ phase_found is_up (bio_among s.traffic.bios b)
  up_against b = ap (λ o. against (up_of now o)) (there actors log s b) ∙ up_bio (bio_among s.traffic.bios b)

  -- Deliver

  deliver_phase : (seat : ℕ) (x : BioOf Held) (got : DeviceResult) (p : Phase)
      → deliver_found now seat (shown_bio texts x) got p ≡ busy_found s.topo.topology seat x got p
  deliver_phase seat x got (phases.Busy holder) = refl
  deliver_phase seat x got _ = refl

  deliver_bio : (seat : ℕ) (got : DeviceResult) (o : Option (BioOf Held))
      → against (deliver_of now seat got (option_map (shown_bio texts) o)) ≡ deliver_against s.topo.topology seat got o
  deliver_bio seat got None = refl
  deliver_bio seat got (Some x) =
      against_unless (deliver_found now seat (shown_bio texts x) got x.phase) (deliver now (shown_bio texts x) got)
      ∙ deliver_phase seat x got x.phase

  pub delivers_against : (seat b : ℕ) (got : DeviceResult)
      → against (deliver_of now seat got (bio_at now b))
      ≡ deliver_against s.topo.topology seat got (bio_among s.traffic.bios b)
  delivers_against seat b got =
      ap (λ o. against (deliver_of now seat got o)) (there actors log s b)
      ∙ deliver_bio seat got (bio_among s.traffic.bios b)

  -- Take

  -- what is at a disk is what the seat has
  at_disk : (disk : ℕ) (o : Option (BioOf Held))
      → option_map (λ (y : Bio). found.DiskBusy y.number) (option_map (shown_bio texts) o)
      ≡ option_map (λ b. found.DiskBusy b)
      (option_map (λ (z : Trip). z.number) (option_map {T = BioOf Held} trip_of o))
  at_disk disk None = refl
  at_disk disk (Some x) = refl

  pub seat_same : (disk : ℕ) (seat : DiskSeat) → IsSeat s.topo.topology (trips s.traffic.bios) disk seat.geom seat.busy
      → option_map (λ (y : Bio). found.DiskBusy y.number) (busy_bio now disk)
      ≡ option_map (λ b. found.DiskBusy b) seat.busy
  seat_same disk seat is =
      ap (option_map (λ (y : Bio). found.DiskBusy y.number))
      ((shown_are_found texts s.traffic.bios).finds
      (λ (y : Bio). is_busy y.phase && option_map_or (λ d. d == disk) (disk_at s.topo.topology y.target) false))
      ∙ at_disk disk (find (λ (y : BioOf Held). is_busy y.phase
      && option_map_or (λ d. d == disk) (disk_at s.topo.topology y.target) false) s.traffic.bios)
      ∙ ap (λ o. option_map (λ b. found.DiskBusy b) (option_map (λ (z : Trip). z.number) o))
      (sym (find-map (is_at_disk s.topo.topology disk) (trip_of {R = Held}) s.traffic.bios))
      ∙ ap (option_map (λ b. found.DiskBusy b)) (sym is.busy_is)

  module _ (stands : Stands s) (disk : ℕ) (x : BioOf Held) where
    -- the disk of a bio has a seat
    seat_by : (o : Option DiskSeat) → slice_get s.disks.items disk ≡ o → IsSome o
        → option_map (λ (y : Bio). found.DiskBusy y.number) (busy_bio now disk) ≡ seat_found s.disks.items disk
    seat_by None e some = absurd (let bad : ⊥ = cc in bad)
    seat_by (Some seat) e some =
        let is : IsSeat s.topo.topology (trips s.traffic.bios) disk seat.geom seat.busy = rw e at
        (stands.kept.seats disk) in
        seat_same disk seat is ∙ ap (λ (o : Option DiskSeat).
        option_map (λ b. found.DiskBusy b) (option_and_then (λ (z : DiskSeat). z.busy) o)) (sym e)

    way_by : (d : ℕ) (b : Bool) → (d == disk) ≡ b → disk_at s.topo.topology x.target ≡ Some d
        → disk_found now disk (shown_bio texts x) (Some d) ≡ way_found s.disks.items disk x.phase (Some d)
    way_by d true e at =
        let same : d ≡ disk = eqb-true d disk e in
        let here : disk_at s.topo.topology x.target ≡ Some disk = at ∙ ap (λ n. Some n) same in
        rw e (seat_by (slice_get s.disks.items disk) refl (has_seat s stands.firm x.target disk here))
    way_by d false e at = rw e refl

    way_at_disk : (o : Option ℕ) → disk_at s.topo.topology x.target ≡ o
        → disk_found now disk (shown_bio texts x) o ≡ way_found s.disks.items disk x.phase o
    way_at_disk None at = refl
    way_at_disk (Some d) at = way_by d (d == disk) refl at

    pub take_is : take_found now disk (shown_bio texts x) ≡ sent_found s.topo.topology s.disks.items disk x
    take_is =
        elim (cases_Bool (is_sent x.phase)) [
          | inl e ↦ rw e (way_at_disk (disk_at s.topo.topology x.target) refl)
          | inr e ↦ rw e refl
        ]

  take_bio_by : Stands s → (seat disk : ℕ) (o : Option (BioOf Held))
      → against (take_of now seat disk (option_map (shown_bio texts) o))
      ≡ take_against s.topo.topology s.disks.items disk o
  take_bio_by stands seat disk None = refl
  take_bio_by stands seat disk (Some x) =
      against_unless (take_found now disk (shown_bio texts x)) (take_bio now seat disk (shown_bio texts x))
      ∙ take_is stands disk x

  pub takes_against : Stands s → (seat disk b : ℕ)
      → against (take_of now seat disk (bio_at now b))
      ≡ take_against s.topo.topology s.disks.items disk (bio_among s.traffic.bios b)
  takes_against stands seat disk b =
      ap (λ o. against (take_of now seat disk o)) (there actors log s b)
      ∙ take_bio_by stands seat disk (bio_among s.traffic.bios b)

-- What a Take and a Deliver do to the state they do to the world

-- What lies in a step that nothing is against

module _ (s : State) (firm : IsFirm s) (b : ℕ) where
  abbrev w : World
  w = world firm.1.0 firm.0 s

  abbrev l : ℕ → Option (List ℕ)
  l = delivered_at firm.0

  -- Take

  take_there : (seat disk : ℕ) (o : Option (BioOf Held)) → bio_among s.traffic.bios b ≡ o
      → against (take_of w seat disk (option_map (shown_bio l) o)) ≡ None
      → FoundBio s b (λ x. CanTake w disk (shown_bio l x))
  take_there seat disk None e none = absurd cc
  take_there seat disk (Some x) e none = record {
    bio = x;
    found = e;
    fact = can_take w disk (shown_bio l x)
        (sym (against_unless (take_found w disk (shown_bio l x)) (take_bio w seat disk (shown_bio l x))) ∙ none);
  }

  pub takes : (seat disk : ℕ) → IsAgainst (λ v. take_of v seat disk (bio_at v b)) s None
      → FoundBio s b (λ x. CanTake w disk (shown_bio l x))
  takes seat disk none =
      take_there seat disk (bio_among s.traffic.bios b) refl
      (ap (λ o. against (take_of w seat disk o)) (sym (there firm.1.0 firm.0 s b)) ∙ none firm.1.0 firm.0)

  -- Deliver

  deliver_there : (seat : ℕ) (got : DeviceResult) (o : Option (BioOf Held)) → bio_among s.traffic.bios b ≡ o
      → against (deliver_of w seat got (option_map (shown_bio l) o)) ≡ None
      → FoundBio s b (λ x. CanDeliver w seat (shown_bio l x) got x.phase)
  deliver_there seat got None e none = absurd cc
  deliver_there seat got (Some x) e none = record {
    bio = x;
    found = e;
    fact = can_deliver w seat (shown_bio l x) got x.phase
        (sym (against_unless (deliver_found w seat (shown_bio l x) got x.phase) (deliver w (shown_bio l x) got))
        ∙ none);
  }

  pub delivers : (seat : ℕ) (got : DeviceResult) → IsAgainst (λ v. deliver_of v seat got (bio_at v b)) s None
      → FoundBio s b (λ x. CanDeliver w seat (shown_bio l x) got x.phase)
  delivers seat got none =
      deliver_there seat got (bio_among s.traffic.bios b) refl
      (ap (λ o. against (deliver_of w seat got o)) (sym (there firm.1.0 firm.0 s b)) ∙ none firm.1.0 firm.0)

  -- The disk

  module _ (holds : Holds s) (disk : ℕ) where
    free_by : (o : Option DiskSeat) → slice_get s.disks.items disk ≡ o → IsSome o → busy_bio w disk ≡ None
        → IsSomeAnd o (λ seat. seat.busy ≡ None)
    free_by None e some none = absurd (let bad : ⊥ = cc in bad)
    free_by (Some seat) e some none =
        let is : IsSeat s.topo.topology (trips s.traffic.bios) disk seat.geom seat.busy = rw e at (holds.seats disk) in
        none-mapped (λ n. found.DiskBusy n) seat.busy
        (sym (seat_same firm.1.0 firm.0 s disk seat is)
        ∙ ap (option_map (λ (y : Bio). found.DiskBusy y.number)) none)

    pub is_free : (prov : ℕ) → disk_at s.topo.topology prov ≡ Some disk → busy_bio w disk ≡ None → IsFree s disk
    is_free prov at none = free_by (slice_get s.disks.items disk) refl (has_seat s firm prov disk at) none

    -- Alone at a disk

    abbrev at : Bio → Bool
    at y = is_busy y.phase && option_map_or (λ d. d == disk) (disk_of_bio w y) false

    goes_there : (o : Option ℕ) → option_map_or (λ d. d == disk) o false ≡ true → o ≡ Some disk
    goes_there None is = absurd cc
    goes_there (Some d) is = ap (λ n. Some n) (eqb-true d disk is)

    -- two of them can't stand in this order
    never : (y z : Bio) → NotBothBusy w.topology y z → at y ≡ true → at z ≡ true → ⊥
    never y z apart first second =
        let a = and_parts (is_busy y.phase) (option_map_or (λ d. d == disk) (disk_of_bio w y) false) first in
        let c = and_parts (is_busy z.phase) (option_map_or (λ d. d == disk) (disk_of_bio w z) false) second in
        apart a.0 c.0 disk (goes_there (disk_of_bio w y) a.1) (goes_there (disk_of_bio w z) c.1)

    module _ (x : Bio) (busy : at x ≡ true) where
      alone_by : (ys : List Bio) → PairsByRecursion (NotBothBusy w.topology) ys → Contains ys x
          → AllByRecursion (λ y. at y ≡ true → y ≡ x) ys
      alone_by [] pairs stands = tt
      alone_by (y ∷ ys) pairs stands =
          elim (Contains-cases y x ys stands) [
            | inl same ↦ (
              (λ _. same),
              all_weaker (NotBothBusy w.topology y) (λ z. at z ≡ true → z ≡ x)
                  (λ z apart is. absurd (never y z apart (subst (λ v. at v ≡ true) (sym same) busy) is)) ys pairs.0,
            )
            | inr rest ↦ (
              (λ is. absurd (never y x (at_contained (NotBothBusy w.topology y) ys x pairs.0 rest) is busy)),
              alone_by ys pairs.1 rest,
            )
          ]

    -- of what is seen of bios
    seen_alone : (x : BioOf Held) (number : x.number ≡ b) (bios : List (BioOf Held))
        → AllByRecursion (λ y. at y ≡ true → y ≡ shown_bio l x) (shown_bios l bios)
        → AllByRecursion (λ (z : Trip). is_at_disk s.topo.topology disk z ≡ true → (z.number == b) ≡ true) (trips bios)
    seen_alone x number [] all = tt
    seen_alone x number (y ∷ bios) all = (
      (λ is. let same : y.number ≡ b = ap (λ (v : Bio). v.number) (all.0 is) ∙ number in eq-eqb y.number b same),
      seen_alone x number bios all.1,
    )

    pub is_alone : (x : BioOf Held) → bio_among s.traffic.bios b ≡ Some x → is_busy x.phase ≡ true
        → disk_at s.topo.topology x.target ≡ Some disk → IsAloneAt s b disk
    is_alone x is busy goes =
        let one : at (shown_bio l x) ≡ true = rw (busy, goes, eq-eqb disk disk refl) refl in
        seen_alone x (number_found (λ (y : BioOf Held). y.number) s.traffic.bios b x is) s.traffic.bios
        (alone_by (shown_bio l x) one (shown_bios l s.traffic.bios)
        (recursion-from_pairs (NotBothBusy w.topology) (shown_bios l s.traffic.bios) firm.1.1.bios.disks.one_busy)
        (here s firm b x is))

-- What the change of a bio at its disk and of the disk's seat leaves

-- only the bio and the seat are others, and all is kept
pub record IsMoved (s new : State) (b : ℕ) (f : BioOf Held → BioOf Held) : Type 0 where
  pub only : OnlyBios s new
  pub kept : Holds new
  pub turned : new.traffic ≡ record s.traffic { bios = change_number b f s.traffic.bios }

module _ (s new : State) (v : BioTableView) (b disk : ℕ) (holds : Holds s) (order : AreInOrder s.traffic)
    (goes : GoesTo s b disk) (rest : new ≡ record s { traffic = v; disks = new.disks }) where
  -- the bio is taken
  pub moved_taken : (seat : ℕ) → IsTrue (has_phase is_sent s.traffic.bios b) → IsFree s disk
      → v ≡ record s.traffic { bios = change_number b (with_phase (phases.Busy seat)) s.traffic.bios }
      → new.disks.items ≡ with_busy_at s.disks.items disk (Some b) → IsMoved s new b (with_phase (phases.Busy seat))
  moved_taken seat sent free turned seats = record {
    only = only-taken s new v s.traffic.next b disk order.numbers goes rest holds (Some b) seats;
    kept = holds-taken s new v s.traffic.next b disk order.numbers goes rest holds seat sent free turned seats;
    turned = ap (λ (z : State). z.traffic) rest ∙ turned;
  }

  -- its disk has answered
  pub moved_answered : (f : BioOf Held → BioOf Held) → Answers f → IsTrue (has_phase is_busy s.traffic.bios b)
      → IsAloneAt s b disk → v ≡ record s.traffic { bios = change_number b f s.traffic.bios }
      → new.disks.items ≡ with_busy_at s.disks.items disk None → IsMoved s new b f
  moved_answered f answers busy alone turned seats = record {
    only = only-taken s new v s.traffic.next b disk order.numbers goes rest holds None seats;
    kept = holds-answered s new v s.traffic.next b disk order.numbers goes rest holds f answers busy alone turned seats;
    turned = ap (λ (z : State). z.traffic) rest ∙ turned;
  }

-- A Take

module _ (s new : State) (b seat disk : ℕ) (x : BioOf Held) (is : bio_among s.traffic.bios b ≡ Some x)
    (only : OnlyBios s new)
    (bios : new.traffic.bios ≡ change_number b (with_phase (phases.Busy seat)) s.traffic.bios)
    (next : new.traffic.next ≡ s.traffic.next) where
  pub makes_taken : (request : Request) → request ≡ device_request disk (sector_at s.topo.topology x.target) x
      → IsAgainst (λ w. take_of w seat disk (bio_at w b)) s None
      → (log : List Entry) → Makes (λ w. take_of w seat disk (bio_at w b)) log s new (outcomes.Asked request)
  makes_taken request asked none log actors =
      let v : World = world actors log s in
      let y : Bio = shown_bio (delivered_at log) x in
      let at_bio : bio_at v b ≡ Some y = there actors log s b ∙ ap (option_map (shown_bio (delivered_at log))) is in
      let free : take_found v disk y ≡ None =
      sym (against_unless (take_found v disk y) (take_bio v seat disk y))
      ∙ ap (λ o. against (take_of v seat disk o)) (sym at_bio) ∙ none actors log in
      let number : x.number ≡ b = number_found (λ (z : BioOf Held). z.number) s.traffic.bios b x is in
      let made : take_bio v seat disk y ≡ (
        record v {
          bios = shown_bios (delivered_at log) (change_number x.number (with_phase (phases.Busy seat)) s.traffic.bios);
        },
        outcomes.Asked (request_of_bio v disk y),
      ) =
      (world_shows_bios (delivered_at log) s.traffic.bios v refl).takes x seat disk in
      let after : (record v {
        bios = shown_bios (delivered_at log) (change_number x.number (with_phase (phases.Busy seat)) s.traffic.bios);
      }) ≡ world actors log new =
      (λ i. let u : World = record v {
        bios = shown_bios (delivered_at log)
            ((ap (λ n. change_number n (with_phase (phases.Busy seat)) s.traffic.bios) number ∙ sym bios) i);
        next_bio = sym next i;
      } in u) ∙ sym (world_moved s new only actors log) in
      ap (take_of v seat disk) at_bio
      ∙ ap (λ o. unless_found o (take_bio v seat disk y)) free
      ∙ ap Ok made
      ∙ (λ i. Ok (after i, outcomes.Asked (sym asked i)))

  pub logged_taken : (n : ℕ) → AreLogged n s.traffic.bios → AreLogged n new.traffic.bios
  logged_taken n logged =
      subst (AreLogged n) (sym bios) ((places_stay_logged n s.traffic.bios logged).moves b (phases.Busy seat))

-- A Deliver

module _ (s new : State) (b seat : ℕ) (x : BioOf Held) (is : bio_among s.traffic.bios b ≡ Some x)
    (got : DeviceResult) (log : List Entry) (logged : HasBytes log s) (only : OnlyBios s new)
    (bios : new.traffic.bios ≡ change_number b (delivered (length log) (errno_of got)) s.traffic.bios)
    (next : new.traffic.next ≡ s.traffic.next) where
  pub makes_delivered : IsFirm s → (e : Entry) → e.step ≡ steps.Deliver b got
      → IsTrue (fits_bio (sector_at s.topo.topology x.target) x got)
      → IsAgainst (λ w. deliver_of w seat got (bio_at w b)) s None → (actors : List (List LineCommand))
      → deliver_of (world actors log s) seat got (bio_at (world actors log s) b)
      ≡ Ok (world actors (log ++ e ∷ []) new, outcomes.Delivered)
  makes_delivered firm e step fits none actors =
      let v : World = world actors log s in
      let more : ℕ → Option (List ℕ) = delivered_at (log ++ e ∷ []) in
      let y : Bio = shown_bio more x in
      let same : v.bios ≡ shown_bios more s.traffic.bios =
      sym (grown_log_shows_the_same log (e ∷ []) s.traffic.bios logged) in
      let at_bio : bio_at v b ≡ Some y =
      (world_shows_bios more s.traffic.bios v same).finds b ∙ ap (option_map (shown_bio more)) is in
      let free : deliver_found v seat y got y.phase ≡ None =
      sym (against_unless (deliver_found v seat y got y.phase) (deliver v y got))
      ∙ ap (λ o. against (deliver_of v seat got o)) (sym at_bio) ∙ none actors log in
      let number : x.number ≡ b = number_found (λ (z : BioOf Held). z.number) s.traffic.bios b x is in
      let itself : bio_among s.traffic.bios x.number ≡ Some x =
      subst (λ n. bio_among s.traffic.bios n ≡ Some x) (sym number) is in
      let numbers : AreNumbers (map (λ (z : BioOf Held). z.number) s.traffic.bios) s.traffic.next =
      subst (λ ns. AreNumbers ns s.traffic.next)
      (map-map (λ (z : Bio). z.number) (shown_bio (delivered_at firm.0)) s.traffic.bios)
      firm.1.1.bios.numbers in
      let answer : resolved more (Some (delivered_result x.cmd (length log) (errno_of got))) ≡ result_of_device got =
      place_is_answer log [] e b (sector_at s.topo.topology x.target) x got step fits in
      let made : deliver v y got ≡ (
        record v {
          bios = shown_bios more (change_number x.number (delivered (length log) (errno_of got)) s.traffic.bios);
        },
        outcomes.Delivered,
      ) =
      deliveries_are_shown more s.traffic.bios v x (length log) got s.traffic.next same numbers itself answer in
      let after : (record v {
        bios = shown_bios more (change_number x.number (delivered (length log) (errno_of got)) s.traffic.bios);
      }) ≡ world actors (log ++ e ∷ []) new =
      (λ i. let u : World = record v {
        bios = shown_bios more
            ((ap (λ n. change_number n (delivered (length log) (errno_of got)) s.traffic.bios) number ∙ sym bios) i);
        next_bio = sym next i;
      } in u) ∙ sym (world_moved s new only actors (log ++ e ∷ [])) in
      ap (deliver_of v seat got) at_bio
      ∙ ap (λ o. unless_found o (deliver v y got)) free
      ∙ ap Ok made
      ∙ ap (λ u. Ok (u, outcomes.Delivered)) after

  pub logged_delivered : (e : Entry) → HasBytes (log ++ e ∷ []) new
  logged_delivered e =
      let len : length (log ++ e ∷ []) ≡ length log + 1 = length-append log (e ∷ []) in
      let more : AreLogged (length (log ++ e ∷ [])) s.traffic.bios =
      (places_stay_logged (length log) s.traffic.bios logged).more (length (log ++ e ∷ [])) (omega (arith, len)) in
      subst (AreLogged (length (log ++ e ∷ []))) (sym bios)
      ((places_stay_logged (length (log ++ e ∷ [])) s.traffic.bios more).delivers b (length log) (errno_of got)
      (omega (arith, len)))

-- What the calls below ask

module _ (s : State) (stands : Stands s) (b seat disk : ℕ)
    (none : IsAgainst (λ v. take_of v seat disk (bio_at v b)) s None) where
  abbrev pub taken_bio : FoundBio s b
      (λ x. CanTake (world stands.firm.1.0 stands.firm.0 s) disk (shown_bio (delivered_at stands.firm.0) x))
  taken_bio = takes s stands.firm b seat disk none

  pub take_sent : IsTrue (has_phase is_sent s.traffic.bios b)
  take_sent = let is = taken_bio.found in rw is taken_bio.fact.sent

  pub take_goes : GoesTo s b disk
  take_goes = let is = taken_bio.found in rw is taken_bio.fact.disk_is

  pub take_free : IsFree s disk
  take_free = is_free s stands.firm b stands.kept disk taken_bio.bio.target taken_bio.fact.disk_is taken_bio.fact.free

  pub take_seat : disk < length s.disks.items
  take_seat =
      let seat = some_of (slice_get s.disks.items disk)
      (has_seat s stands.firm taken_bio.bio.target disk taken_bio.fact.disk_is) in
      slice_get_within s.disks.items disk seat.0 seat.1

-- a Deliver of a bio at its disk
pub record DeliversAt (s : State) (b disk : ℕ) (got : DeviceResult) : Type 0 where
  pub bio : BioOf Held
  pub found : bio_among s.traffic.bios b ≡ Some bio
  pub busy : is_busy bio.phase ≡ true
  pub goes : disk_at s.topo.topology bio.target ≡ Some disk
  pub fits : IsTrue (fits_bio (sector_at s.topo.topology bio.target) bio got)

module _ (s : State) (firm : IsFirm s) (b seat : ℕ) (got : DeviceResult)
    (none : IsAgainst (λ v. deliver_of v seat got (bio_at v b)) s None) where
  abbrev pub delivered_bio : FoundBio s b
      (λ x. CanDeliver (world firm.1.0 firm.0 s) seat (shown_bio (delivered_at firm.0) x) got x.phase)
  delivered_bio = delivers s firm b seat got none

  -- the bio has a disk
  pub deliver_has_disk : IsSome (option_and_then (λ (x : BioOf Held). disk_at s.topo.topology x.target)
      (bio_among s.traffic.bios b))
  deliver_has_disk =
      let x = delivered_bio.bio in
      let is = delivered_bio.found in
      let busy : (is_sent x.phase || is_busy x.phase) ≡ true = or_right (is_sent x.phase) (is_busy x.phase)
      delivered_bio.fact.0 in
      rw is (All-contains
      (λ (y : Bio). IsTrue (is_sent y.phase || is_busy y.phase) → IsSome (disk_of_bio (world firm.1.0 firm.0 s) y))
      (world firm.1.0 firm.0 s).bios (shown_bio (delivered_at firm.0) x) firm.1.1.bios.disks.at_disk
      (here s firm b x is) busy)

  pub delivers_at : (disk : ℕ) → option_and_then (λ (x : BioOf Held). disk_at s.topo.topology x.target)
      (bio_among s.traffic.bios b) ≡ Some disk → DeliversAt s b disk got
  delivers_at disk goes =
      let is = delivered_bio.found in
      record {
        bio = delivered_bio.bio;
        found = is;
        busy = delivered_bio.fact.0;
        goes = sym (ap (option_and_then (λ (x : BioOf Held). disk_at s.topo.topology x.target)) is) ∙ goes;
        fits = delivered_bio.fact.1;
      }

-- what the call below asks of a Deliver
pub record IsDelivering (s : State) (b disk : ℕ) : Type 0 where
  pub busy : IsTrue (has_phase is_busy s.traffic.bios b)
  pub goes : GoesTo s b disk
  pub seat : disk < length s.disks.items
  pub alone : IsAloneAt s b disk

deliver_requires : (s : State) → Stands s → (b disk : ℕ) (got : DeviceResult) → DeliversAt s b disk got
    → IsDelivering s b disk
deliver_requires s stands b disk got at =
    let is = at.found in
    record {
      busy = rw is at.busy;
      goes = rw is at.goes;
      seat =
          let seat = some_of (slice_get s.disks.items disk) (has_seat s stands.firm at.bio.target disk at.goes) in
          slice_get_within s.disks.items disk seat.0 seat.1;
      alone = is_alone s stands.firm b stands.kept disk at.bio is at.busy at.goes;
    }

-- so what it asks holds where nothing is against the Deliver
pub delivering_requires : (s : State) → Stands s → (b seat : ℕ) (got : DeviceResult)
    → IsAgainst (λ v. deliver_of v seat got (bio_at v b)) s None → (disk : ℕ)
    → option_and_then (λ (x : BioOf Held). disk_at s.topo.topology x.target) (bio_among s.traffic.bios b) ≡ Some disk
    → IsDelivering s b disk
delivering_requires s stands b seat got none disk goes =
    deliver_requires s stands b disk got (delivers_at s stands.firm b seat got none disk goes)

-- the bios after a Deliver
pub deliver_bios : (s new : State) (b place : ℕ) (errno : Option Errno) (got : DeviceResult) (log : List Entry)
    → new.traffic ≡ record s.traffic { bios = change_number b (delivered place errno) s.traffic.bios }
    → place ≡ length log → errno ≡ errno_of got
    → new.traffic.bios ≡ change_number b (delivered (length log) (errno_of got)) s.traffic.bios
deliver_bios s new b place errno got log is at failed =
    ap (λ (v : BioTableView). v.bios) is
    ∙ (λ i. change_number b (delivered (at i) (failed i)) s.traffic.bios)

-- a bio that has a disk goes to one
pub some_disk : (o : Option ℕ) → None ≡ o → IsSome o → ⊥
some_disk None is some = cc
some_disk (Some n) is some = cc

-- What a Deliver leaves, by the calls

module _ (s new : State) (firm : IsFirm s) (b seat disk place : ℕ) (errno : Option Errno) (got : DeviceResult)
    (log : List Entry) (none : IsAgainst (λ v. deliver_of v seat got (bio_at v b)) s None)
    (goes : option_and_then (λ (x : BioOf Held). disk_at s.topo.topology x.target) (bio_among s.traffic.bios b)
    ≡ Some disk) (logged : HasBytes log s) (only : OnlyBios s new)
    (is : new.traffic ≡ record s.traffic { bios = change_number b (delivered place errno) s.traffic.bios })
    (at_end : place ≡ length log) (failed : errno ≡ errno_of got) where
  -- the bio that is delivered
  delivering : DeliversAt s b disk got
  delivering = delivers_at s firm b seat got none disk goes

  -- the bios then
  bios_are : new.traffic.bios ≡ change_number b (delivered (length log) (errno_of got)) s.traffic.bios
  bios_are = deliver_bios s new b place errno got log is at_end failed

  -- no number was given out
  next_stays : new.traffic.next ≡ s.traffic.next
  next_stays = ap (λ (v : BioTableView). v.next) is

  -- the step is the world's
  pub delivery_made : (e : Entry) → e.step ≡ steps.Deliver b got → (actors : List (List LineCommand))
      → deliver_of (world actors log s) seat got (bio_at (world actors log s) b)
      ≡ Ok (world actors (log ++ e ∷ []) new, outcomes.Delivered)
  delivery_made e step actors =
      makes_delivered s new b seat delivering.bio delivering.found got log logged only bios_are next_stays firm e step
      delivering.fits none actors

  -- and the bytes that bios name are in the log
  pub delivery_logged : (e : Entry) → HasBytes (log ++ e ∷ []) new
  delivery_logged =
      logged_delivered s new b seat delivering.bio delivering.found got log logged only bios_are next_stays

-- A Deliver of which the bio holds the answer itself

module _ (s new : State) (firm : IsFirm s) (b seat : ℕ) (got : DeviceResult)
    (none : IsAgainst (λ v. deliver_of v seat got (bio_at v b)) s None) (h : Held) (holds : h ≡ held_of got)
    (only : OnlyBios s new)
    (is : new.traffic ≡ record s.traffic { bios = change_number b (up_with h) s.traffic.bios }) where
  -- the bios then
  bios_kept : new.traffic.bios ≡ change_number b (up_with (held_of got)) s.traffic.bios
  bios_kept =
      ap (λ (v : BioTableView). v.bios) is ∙ ap (λ (g : Held). change_number b (up_with g) s.traffic.bios) holds

  -- the step is the world's, whatever a log has
  pub makes_kept : (log : List Entry)
      → Makes (λ w. deliver_of w seat got (bio_at w b)) log s new outcomes.Delivered
  makes_kept log actors =
      let v : World = world actors log s in
      let l : ℕ → Option (List ℕ) = delivered_at log in
      let x : BioOf Held = (delivered_bio s firm b seat got none).bio in
      let found : bio_among s.traffic.bios b ≡ Some x = (delivered_bio s firm b seat got none).found in
      let y : Bio = shown_bio l x in
      let at_bio : bio_at v b ≡ Some y = there actors log s b ∙ ap (option_map (shown_bio l)) found in
      let free : deliver_found v seat y got y.phase ≡ None =
      sym (against_unless (deliver_found v seat y got y.phase) (deliver v y got))
      ∙ ap (λ o. against (deliver_of v seat got o)) (sym at_bio) ∙ none actors log in
      let number : x.number ≡ b = number_found (λ (z : BioOf Held). z.number) s.traffic.bios b x found in
      let after : (record v {
        bios = shown_bios l (change_number x.number (up_with (held_of got)) s.traffic.bios);
      }) ≡ world actors log new =
      (λ i. let u : World = record v {
        bios = shown_bios l
            ((ap (λ n. change_number n (up_with (held_of got)) s.traffic.bios) number ∙ sym bios_kept) i);
        next_bio = s.traffic.next;
      } in u) ∙ (λ i. let u : World = record v {
        bios = shown_bios l new.traffic.bios;
        next_bio = sym (ap (λ (t : BioTableView). t.next) is) i;
      } in u) ∙ sym (world_moved s new only actors log) in
      ap (deliver_of v seat got) at_bio
      ∙ ap (λ o. unless_found o (deliver v y got)) free
      ∙ ap Ok ((world_shows_bios l s.traffic.bios v refl).delivers x got)
      ∙ ap (λ u. Ok (u, outcomes.Delivered)) after

  -- and the bytes that bios name are in the log, where they were
  pub logged_kept : (log : List Entry) → HasBytes log s → HasBytes log new
  logged_kept log logged =
      subst (AreLogged (length log)) (sym bios_kept)
      ((places_stay_logged (length log) s.traffic.bios logged).ends b (result_of_device got))
