-- Where a legal log leads without a Busy bio, and not to rest, the elevator order gives an enabled step that lowers the
-- measure.
use Rattle.std.proofs.Common.{rules, ◌≡◌, ℕ, zero, suc, ◌+◌, ◌<◌, ◌≤◌, ◌==◌, Bool, true, false, ◌||◌, List, [], ◌∷◌, length, map, filter, Option, Some, None, Contains, IsSome, IsSomeAnd, IfSome, IsTrue, All, option_and_then, slice_get, refl, subst, arith, eqb-true, eq-eqb}
use Rattle.std.specs.List.{AllByRecursion, range_with_len}
use Rattle.std.specs.Option.{option_map_or, option_or}
use Rattle.std.proofs.lemmas.Option.{slice_get_within}
use Rattle.std.proofs.lemmas.Bool.{and_parts}
use Rattle.std.proofs.lemmas.List.Elements.{All-contains}
use Rattle.std.proofs.lemmas.Grind.{common_steps}
use Rattle.geo_base.proofs.FindLists.{none_passes}
use Rattle.geo_model.specs.declared.step.Entry.{Entry}
use Rattle.geo_model.specs.declared.step.Step.{Step}
use Rattle.geo_model.specs.declared.step.Step.TheVariants as steps
use Rattle.geo_model.specs.Words.{first_some}
use Rattle.geo_model.specs.Topology.{Geom, Provider, geom_at, provider_at, providers_of}
use Rattle.geo_model.specs.World.{World, Bio, Config, HeaderDisk, bio_at, is_up, is_down, is_sent, is_busy}
use Rattle.geo_model.specs.Place.{disk_of}
use Rattle.geo_model.specs.Bios.{disk_of_bio, busy_bio}
use Rattle.geo_model.specs.Freeing.{reap_work, wash_work}
use Rattle.geo_model.specs.Step.{is_enabled}
use Rattle.geo_model.specs.Order.{Rest, is_to_take, ready_actors}
use Rattle.geo_model.specs.Opening.{opening}
use Rattle.geo_model.specs.Log.{replay}
use Rattle.geo_model.specs.Fitting.{Firm}
use Rattle.geo_model.specs.Sound.{HasDiskSizes}
use Rattle.geo_model.specs.Laws.{NoneBusy}
use Rattle.geo_laws_graph.proofs.Lists.{found_itself}
use Rattle.geo_laws_graph.proofs.Members.{All-from_contained, Contains-filter, Contains-map, filter-Contains, find-Contains, map-Contains, has, nothing_in}
use Rattle.geo_laws_life.proofs.Found.{found-with}
use Rattle.geo_laws_steps.proofs.Logs.{firm_after}
use Rattle.geo_laws_sweep.specs.SweepLaws.{SweepGoesOn}
use Rattle.geo_laws_rest.proofs.Moving.{no_bios, free_by}
use Rattle.geo_laws_rest.proofs.Picking.{IsGood, first_of, from_some, from_none, given, withheld, take_by, no_taste, no_events_by, judge_not, event_not, reap_not, wash_not, earliest_none, at_rest, good, goes_up, starts, tried, late, goes}
use Rattle.geo_headline.specs.Sweep.{Waiting, waiting_of, is_sent_to, waiting_for, candidates, next_of, head_of, next_take, first_take, enabled_one, pick_sweep}
use Rattle.geo_laws_sweep.proofs.ElevatorFacts.{some_is_next, next_holds}

-- The first of some

-- of two, by which is there
pub one_of : (P : Step → Type 0) (a b : Option Step) → ((s : Step) → a ≡ Some s → P s) → ((s : Step) → b ≡ Some s → P s)
    → (s : Step) → option_or a b ≡ Some s → P s
one_of P None b one rest s e = rest s e
one_of P (Some x) b one rest s e = one s e

-- it has what they all have
pub first_holds : (P : Step → Type 0) (f : ℕ → Option Step) → ((d : ℕ) (s : Step) → f d ≡ Some s → P s) → (ds : List ℕ)
    → (s : Step) → first_some (map f ds) ≡ Some s → P s
first_holds P f so [] s e = absurd (let no : ⊥ = cc in no)
first_holds P f so (d ∷ ds) s e = one_of P (f d) (first_some (map f ds)) (so d) (first_holds P f so ds) s e

-- where there is none, each is none
first_none : (f : ℕ → Option Step) (ds : List ℕ) → first_some (map f ds) ≡ None
    → AllByRecursion (λ (d : ℕ). f d ≡ None) ds
first_none f [] e = tt
first_none f (d ∷ ds) e = (grind (arith, e), first_none f ds (grind (arith, e)))

-- what holds of a range holds of each number in it
range_at : (P : ℕ → Type 0) (a n d : ℕ) → AllByRecursion P (range_with_len a n) → a ≤ d → d < a + n → P d
range_at P a zero d all low high = absurd (omega (arith, low, high))
range_at P a (suc n) d all low high = search (rules, all, range_at P (a + 1) n d all.1)

-- where nothing is next, nothing waits
none_is_next : (head : ℕ) (xs : List Waiting) → next_of head (candidates xs) ≡ None → xs ≡ []
none_is_next head [] e = refl
none_is_next head (x ∷ xs) e = grind (arith, e, some_is_next head x xs, common_steps)

-- What waits for a disk

module _ (w : World) (firm : Firm w) where
  -- a disk of a geom is one of the header
  of_header : (g : Geom Config) (d : ℕ) → Contains w.topology.geoms g → disk_of g.config ≡ Some d
      → d < length w.disks
  of_header g d here is =
      let sizes : HasDiskSizes w.topology w.disks g =
      All-contains (HasDiskSizes w.topology w.disks) w.topology.geoms g firm.graph.numbers.disk_sizes here in
      let at : IsSomeAnd (slice_get w.disks d) (λ (disk : HeaderDisk).
      All (λ (p : Provider). (p.sector ≡ disk.sector) × (p.size ≡ disk.size)) (providers_of w.topology g.number)) =
      subst (λ (o : Option ℕ). IfSome o (λ (n : ℕ). IsSomeAnd (slice_get w.disks n) (λ (disk : HeaderDisk).
      All (λ (p : Provider). (p.sector ≡ disk.sector) × (p.size ≡ disk.size)) (providers_of w.topology g.number))))
      is sizes in
      let y = found-with (slice_get w.disks d) (λ (disk : HeaderDisk).
      All (λ (p : Provider). (p.sector ≡ disk.sector) × (p.size ≡ disk.size)) (providers_of w.topology g.number)) at in
      slice_get_within w.disks d y.item y.is

  -- by the geom that is found
  by_geom : (n d : ℕ) (o : Option (Geom Config)) → geom_at w.topology n ≡ o
      → option_and_then (λ (g : Geom Config). disk_of g.config) o ≡ Some d → d < length w.disks
  by_geom n d None found is = absurd (let no : ⊥ = cc in no)
  by_geom n d (Some g) found is =
      of_header g d (find-Contains (λ (x : Geom Config). x.number == n) w.topology.geoms g found) is

  -- by the provider
  by_provider : (d : ℕ) (o : Option Provider)
      → option_and_then (λ (g : Geom Config). disk_of g.config)
      (option_and_then (λ (p : Provider). geom_at w.topology p.geom) o) ≡ Some d
      → d < length w.disks
  by_provider d None is = absurd (let no : ⊥ = cc in no)
  by_provider d (Some p) is = by_geom p.geom d (geom_at w.topology p.geom) refl is

  -- so is the disk of a bio
  disk_within : (x : Bio) (d : ℕ) → disk_of_bio w x ≡ Some d → d < length w.disks
  disk_within x d is = by_provider d (provider_at w.topology x.target) is

  -- where no Take is first, no bio is Sent to a disk: it would wait for it
  none_sent_to : (log : List Entry) → first_take w log ≡ None → (x : Bio) → Contains w.bios x → is_sent x.phase ≡ true
      → (d : ℕ) → disk_of_bio w x ≡ Some d → ⊥
  none_sent_to log none x here sent d at =
      let within = disk_within x d at in
      let not_next : next_take w log d ≡ None =
      range_at (λ (n : ℕ). next_take w log n ≡ None) 0 (length w.disks) d
      (first_none (next_take w log) (range_with_len 0 (length w.disks)) none) (omega arith) (omega (arith, within)) in
      let empty : waiting_for w d ≡ [] =
      none_is_next (head_of log d) (waiting_for w d) (from_none (λ (y : Waiting). steps.Take d y.bio) _ not_next) in
      let same : (d == d) ≡ true = eq-eqb d d refl in
      let passes : is_sent_to w d x ≡ true = rw (sent, at, same) refl in
      let waits : Contains (waiting_for w d) (waiting_of w x) =
      Contains-map (waiting_of w) (filter (is_sent_to w d) w.bios) x
      (Contains-filter (is_sent_to w d) w.bios x here passes) in
      nothing_in (waiting_of w x) (subst (λ (ys : List Waiting). Contains ys (waiting_of w x)) empty waits)

  -- so none is Sent
  sent_by : (log : List Entry) → first_take w log ≡ None → (x : Bio) → Contains w.bios x → (b : Bool)
      → is_sent x.phase ≡ b → b ≡ false
  sent_by log none x here false e = refl
  sent_by log none x here true e =
      let at_disk : IsSome (disk_of_bio w x) =
      All-contains (λ (y : Bio). IsTrue (is_sent y.phase || is_busy y.phase) → IsSome (disk_of_bio w y)) w.bios x
      firm.bios.disks.at_disk here (rw e refl) in
      let d = has (disk_of_bio w x) at_disk in
      absurd (none_sent_to log none x here e d.item d.is)

  -- so none can be taken
  none_to_take : (log : List Entry) → first_take w log ≡ None
      → AllByRecursion (λ (x : Bio). is_to_take w x ≡ false) w.bios
  none_to_take log none =
      All-from_contained (λ (x : Bio). is_to_take w x ≡ false) w.bios (λ x here.
      rw (sent_by log none x here (is_sent x.phase) refl) refl)

  module _ (idle : NoneBusy w) where
    -- what waits for a disk is taken by it
    sent_to : (disk : ℕ) (x : Bio) → Contains w.bios x → is_sent_to w disk x ≡ true
        → is_enabled w 0 (steps.Take disk x.number) ≡ true
    sent_to disk x here is =
        let both = and_parts (is_sent x.phase) (option_map_or (λ d. d == disk) (disk_of_bio w x) false) is in
        by both.0 (disk_of_bio w x) refl both.1
      where
        by : is_sent x.phase ≡ true → (o : Option ℕ) → disk_of_bio w x ≡ o
            → option_map_or (λ d. d == disk) o false ≡ true → is_enabled w 0 (steps.Take disk x.number) ≡ true
        by sent None at same = absurd (let no : ⊥ = cc in no)
        by sent (Some d) at same =
            let found : bio_at w x.number ≡ Some x =
            found_itself (λ (y : Bio). y.number) w.next_bio w.bios x firm.bios.numbers here in
            subst (λ (n : ℕ). is_enabled w 0 (steps.Take n x.number) ≡ true) (eqb-true d disk same)
            (take_by w firm x found sent (Some d) at (free_by w firm idle d (busy_bio w d) refl))

    -- so all that waits
    abbrev CanBeTaken : ℕ → Waiting → Type 0
    CanBeTaken disk y = is_enabled w 0 (steps.Take disk y.bio) ≡ true

    -- each can be taken
    all_can : (disk : ℕ) → AllByRecursion (CanBeTaken disk) (waiting_for w disk)
    all_can disk =
        All-from_contained (CanBeTaken disk) (waiting_for w disk) (λ y waits.
        let o = map-Contains (waiting_of w) (filter (is_sent_to w disk) w.bios) y waits in
        let x = filter-Contains (is_sent_to w disk) w.bios o.item o.stands in
        subst (CanBeTaken disk) o.fact (sent_to disk o.item x.0 x.1))

-- The one that is enabled

module _ (w : World) where
  -- of good steps it is good
  one_good : (o : Option Step) → ((s : Step) → o ≡ Some s → IsGood w s) → (r : Step) → enabled_one w o ≡ Some r
      → IsGood w r
  one_good None so r e = absurd (let no : ⊥ = cc in no)
  one_good (Some s) so r e = given w s (IsGood w) (λ enabled. so s refl) (is_enabled w 0 s) refl r e

  -- and where none is given, none was there
  one_none : (o : Option Step) → ((s : Step) → o ≡ Some s → IsGood w s) → enabled_one w o ≡ None → o ≡ None
  one_none None so e = refl
  one_none (Some s) so e =
      let not_enabled : is_enabled w 0 s ≡ false = withheld s (is_enabled w 0 s) e in
      let enabled : is_enabled w 0 s ≡ true = (so s refl).0 in
      absurd (let no : ⊥ = cc in no)

-- The elevator order

module _ (w : World) (log : List Entry) (firm : Firm w) (idle : NoneBusy w) (busy : Rest w → ⊥) where
  -- a Take that is next at a disk is good
  next_good : (disk : ℕ) (s : Step) → next_take w log disk ≡ Some s → IsGood w s
  next_good disk =
      from_some (λ (y : Waiting). steps.Take disk y.bio) (next_of (head_of log disk) (candidates (waiting_for w disk)))
      (IsGood w)
      (λ y found. good w firm idle busy (steps.Take disk y.bio) refl
      (next_holds (CanBeTaken w firm idle disk) (head_of log disk) (waiting_for w disk) y (all_can w firm idle disk)
      found))

  -- so the first
  take_good : (s : Step) → first_take w log ≡ Some s → IsGood w s
  take_good = first_holds (IsGood w) (next_take w log) next_good (range_with_len 0 (length w.disks))

  -- the first step that is enabled is good
  pub sweep_good : IsSomeAnd (pick_sweep w log) (IsGood w)
  unfolding pick_sweep
  sweep_good =
      first_of w _ _ (goes_up w firm idle busy) (λ no_up.
      first_of w _ _ (starts w firm idle busy) (λ no_down.
      first_of w _ _ (tried w firm idle busy steps.Judge refl) (λ no_judge.
      first_of w _ _ (tried w firm idle busy steps.Event refl) (λ no_event.
      first_of w _ _ (goes w firm idle busy) (λ no_go.
      first_of w _ _ (one_good w (first_take w log) take_good) (λ no_take.
      let bios : w.bios ≡ [] =
      no_bios w firm idle
      (none_passes (λ (x : Bio). is_up x.phase) w.bios (from_none (λ (x : Bio). steps.Up x.number) _ no_up))
      (none_to_take w firm log (one_none w (first_take w log) take_good no_take))
      (none_passes (λ (x : Bio). is_down x.phase) w.bios (from_none (λ (x : Bio). steps.Start x.number) _ no_down))
      w.bios refl in
      let taste : w.taste ≡ None =
      no_taste w firm bios w.taste refl (judge_not w (withheld steps.Judge (is_enabled w 0 steps.Judge) no_judge)) in
      let events : w.events ≡ [] =
      no_events_by w taste (event_not w (withheld steps.Event (is_enabled w 0 steps.Event) no_event)) in
      first_of w _ _ (tried w firm idle busy steps.Reap refl) (λ no_reap.
      let reaps : reap_work w ≡ None = reap_not w (withheld steps.Reap (is_enabled w 0 steps.Reap) no_reap) in
      first_of w _ _ (tried w firm idle busy steps.Wash (late w firm idle busy taste events)) (λ no_wash.
      let washes : wash_work w ≡ None = wash_not w (withheld steps.Wash (is_enabled w 0 steps.Wash) no_wash) in
      let none : ready_actors w ≡ [] =
      earliest_none (ready_actors w) (from_none (λ (actor : ℕ). steps.Go actor) _ no_go) in
      absurd (busy (at_rest w bios events taste reaps washes none))))))))))

-- so where legal logs lead the elevator order goes on
pub sweep_goes_on : SweepGoesOn
sweep_goes_on plan facts is fit log legal idle busy =
    sweep_good (replay (opening plan facts) log) log (firm_after plan facts is fit log) idle busy
