-- What a disk sees of a bio in a graph, and so what waits for it, step by step; and what a Take asks for.
use Rattle.std.proofs.Common.{arith, ◌≡◌, ℕ, ◌/◌, ◌==◌, Bool, true, false, not, List, [], ◌∷◌, filter, filter_map, map, Option, Some, None, Ok, Contains, if◌then◌else◌, refl, sym, ◌∙◌, ap, subst, ◌≤◌, ◌++◌, IsTrue, append-nil, eqb-true, eq-eqb}
use Rattle.std.specs.List.{AllByRecursion, enumerate_from}
use Rattle.std.specs.Option.{option_map_or}
use Rattle.std.proofs.lemmas.List.Elements.{All-from_recursion, filter-append, filter_map-append}
use Rattle.geo_base.specs.declared.errno.Errno.TheVariants.{EIO}
use Rattle.geo_model.specs.declared.step.BioResult.TheVariants as results
use Rattle.geo_model.specs.declared.step.Outcome.{Outcome}
use Rattle.geo_model.specs.declared.step.Outcome.TheVariants as outcomes
use Rattle.geo_model.specs.declared.step.Phase.TheVariants as phases
use Rattle.geo_model.specs.declared.step.Step.{Step}
use Rattle.geo_model.specs.declared.step.Step.TheVariants as steps
use Rattle.geo_model.specs.Words.{is_flush}
use Rattle.geo_model.specs.Topology.{Topology, geom_at, provider_at, note_started}
use Rattle.geo_model.specs.World.{World, Config, Bio, is_sent, bio_at, change_number}
use Rattle.geo_model.specs.Place.{disk_of}
use Rattle.geo_model.specs.Bios.{disk_at, sector_at, PieceTarget, Way, Bounces, Fails, Sends, Splits, Passes, piece_child, up_with, start_by, way_of, take_bio, request_of_bio, disk_of_bio}
use Rattle.geo_model.specs.Step.{step}
use Rattle.geo_model.specs.Log.{world_after}
use Rattle.geo_model.specs.Fitting.{Firm}
use Rattle.geo_laws_graph.proofs.Members.{All-from_contained, filter-Contains, at_contained, Contains-filter, Contains-map, find-Contains}
use Rattle.geo_laws_life.proofs.Found.{FoundWith, found-with}
use Rattle.geo_laws_maps.specs.Ways.{GoesDown, Used}
use Rattle.geo_laws_maps.proofs.Opened.{used-down}
use Rattle.geo_laws_steps.specs.WayLaws.{IsSameGeom, IsSameProvider, KeepsWays}
use Rattle.geo_laws_steps.proofs.Steps.{steps_keep_used}
use Rattle.geo_laws_graph.proofs.Lists.{rise-from}
use Rattle.geo_laws_graph.proofs.Numbered.{number_found, unique}
use Rattle.geo_laws_bios.proofs.Turning.{sent_disk}
use Rattle.geo_laws_requests.proofs.Named.{StartsIt, starts_it, TakesIt, takes_it}
use Rattle.geo_laws_sweep.specs.SweepLaws.{is_queued, is_asked, OneMore, StepsChangeWaiting, Asks, TakesAskWaiting}
use Rattle.geo_headline.specs.Sweep.{Waiting, waiting_of, is_sent_to, waiting_for}
use Rattle.geo_laws_sweep.proofs.SentBios.{sent_in, NotSentAt, OneSent, as_sent, changed_same, found_not_sent, no_child_sent, queued_in, sent_same, taken_in_list, is_to_disk, starts_or_takes, others_not_to_disk}

-- whether a disk is the one that is found
abbrev is_disk : ℕ → Option ℕ → Bool
is_disk disk o = option_map_or (λ d. d == disk) o false

-- a bio as its disk sees it, with sectors of so many bytes
abbrev seen_in : ℕ → Bio → Waiting
seen_in sector x = record { bio = x.number; flush = is_flush x.cmd; first = x.offset / sector }

-- what a disk sees of a bio, by the disk to which that goes
abbrev look_by : ℕ → Option ℕ → ℕ → Bio → Option Waiting
look_by disk o sector x = if is_disk disk o then Some (seen_in sector x) else None

-- in a graph
abbrev look : Topology Config → ℕ → Bio → Option Waiting
look t disk x = look_by disk (disk_at t x.target) (sector_at t x.target) x

-- it has the bio's number
look_number : (t : Topology Config) (disk : ℕ) (x : Bio) (z : Waiting) → look t disk x ≡ Some z → z.bio ≡ x.number
look_number t disk x z is = grind (arith, is)

-- Lists

-- what waits is what the disk sees of the bios that are Sent
seen_by : (w : World) (disk : ℕ) (xs : List Bio)
    → map (waiting_of w) (filter (is_sent_to w disk) xs) ≡ filter_map (look w.topology disk) (sent_in xs)
seen_by w disk [] = refl
seen_by w disk (x ∷ xs) = grind (arith, seen_by w disk xs)

-- so in a mesh
waiting_seen : (w : World) (disk : ℕ) → waiting_for w disk ≡ filter_map (look w.topology disk) (sent_in w.bios)
waiting_seen w disk = seen_by w disk w.bios

-- two looks that agree on each item of a list
looks_agree : (f g : Bio → Option Waiting) (xs : List Bio) → AllByRecursion (λ (x : Bio). f x ≡ g x) xs
    → filter_map f xs ≡ filter_map g xs
looks_agree f g [] same = refl
looks_agree f g (x ∷ xs) same = rw (same.0, looks_agree f g xs same.1) refl

-- where of those that go nothing is seen, the same is seen
kept_looks : (f : Bio → Option Waiting) (keep : Bio → Bool) (xs : List Bio)
    → AllByRecursion (λ (x : Bio). keep x ≡ false → f x ≡ None) xs → filter_map f (filter keep xs) ≡ filter_map f xs
kept_looks f keep [] so = refl
kept_looks f keep (x ∷ xs) so = grind (arith, so.0, kept_looks f keep xs so.1)

-- whether a bio and what waits have another number
abbrev is_other_bio : ℕ → Bio → Bool
is_other_bio n y = not (y.number == n)

-- whether what waits has another number
abbrev pub is_other : ℕ → Waiting → Bool
is_other n z = not (z.bio == n)

-- where the bio of a number goes, so does what was seen of it
gone_looks : (f : Bio → Option Waiting) → ((x : Bio) (z : Waiting) → f x ≡ Some z → z.bio ≡ x.number) → (n : ℕ)
    (xs : List Bio)
    → filter_map f (filter (is_other_bio n) xs) ≡ filter (is_other n) (filter_map f xs)
gone_looks f so n [] = refl
gone_looks f so n (x ∷ xs) = grind (arith, so x, gone_looks f so n xs)

-- a fact of what is seen of each item
all_looks : (f : Bio → Option Waiting) (P : Bio → Type 0) (Q : Waiting → Type 0)
    → ((x : Bio) (z : Waiting) → f x ≡ Some z → P x → Q z) → (xs : List Bio) → AllByRecursion P xs
    → AllByRecursion Q (filter_map f xs)
all_looks f P Q so [] facts = tt
all_looks f P Q so (x ∷ xs) facts = by (f x) refl (all_looks f P Q so xs facts.1)
  where
    by : (o : Option Waiting) → f x ≡ o → AllByRecursion Q (filter_map f xs)
        → AllByRecursion Q (filter_map f (x ∷ xs))
    by None e rest = rw e rest
    by (Some z) e rest = rw e (so x z e facts.0, rest)

-- Along a step

module _ (w : World) (firm : Firm w) (v : World) (keeps : KeepsWays (Used w) w.topology v.topology) (x : Bio)
    (here : Contains w.bios x) where
  -- the target of a bio is used
  used : Used w x.target
  used = record { bio = x; stands = here; under = record { over = []; way = refl } }

  -- so it stands with its geom
  down : GoesDown w.topology (Used w) x.target
  down = used-down w firm x.target used

  -- also then
  provider : FoundWith (provider_at v.topology x.target) (IsSameProvider down.provider)
  provider =
      found-with (provider_at v.topology x.target) (IsSameProvider down.provider)
      (keeps.provider x.target down.provider used down.found)

  -- and its geom does
  geom : FoundWith (geom_at v.topology down.provider.geom) (IsSameGeom down.geom)
  geom =
      found-with (geom_at v.topology down.provider.geom) (IsSameGeom down.geom)
      (keeps.geom x.target down.provider down.geom used down.found down.of)

  -- at the same disk
  disk_same : disk_at v.topology x.target ≡ disk_at w.topology x.target
  disk_same = rw (provider.is, provider.fact.geom, geom.is, down.found, down.of) (ap disk_of geom.fact.config)

  -- with the same sectors
  sector_same : sector_at v.topology x.target ≡ sector_at w.topology x.target
  sector_same = rw (provider.is, down.found) provider.fact.sector

  -- so a disk sees the same of it
  look_same : (disk : ℕ) → look v.topology disk x ≡ look w.topology disk x
  look_same disk = rw (disk_same, sector_same) refl

-- each step leaves what disks see of the bios that are Sent
looks_stay : (w v : World) (seat : ℕ) (s : Step) (o : Outcome) (disk : ℕ) → Firm w → step w seat s ≡ Ok (v, o)
    → filter_map (look v.topology disk) (sent_in w.bios) ≡ filter_map (look w.topology disk) (sent_in w.bios)
looks_stay w v seat s o disk firm made =
    let keeps : KeepsWays (Used w) w.topology v.topology =
    subst (λ a. KeepsWays (Used w) w.topology (world_after w a).topology) made (steps_keep_used.ways w seat s firm) in
    looks_agree (look v.topology disk) (look w.topology disk) (sent_in w.bios)
    (All-from_contained (λ (x : Bio). look v.topology disk x ≡ look w.topology disk x) (sent_in w.bios) (λ x here.
    look_same w firm v keeps x (filter-Contains (λ (y : Bio). is_sent y.phase) w.bios x here).0 disk))

-- an outcome that neither queues nor asks doesn't queue
quiet_queues : (disk : ℕ) (p : Outcome) → is_to_disk p ≡ false → IsTrue (is_queued disk p) → ⊥
quiet_queues disk (outcomes.Queued d) none queued = let no : ⊥ = cc in no
quiet_queues disk _ none queued = let no : ⊥ = cc in no

-- A Start

module _ (w v : World) (firm : Firm w) (seat b : ℕ) (o : Outcome) (made : step w seat (steps.Start b) ≡ Ok (v, o)) where
  -- the bio that starts
  it : StartsIt w v b o
  it = starts_it w v seat b o made

  -- it itself
  abbrev started : Bio
  started = it.bio

  -- it has the number
  its_number : started.number ≡ b
  its_number = number_found (λ (y : Bio). y.number) w.bios b started it.found

  -- it is not Sent
  not_yet : is_sent started.phase ≡ false
  not_yet = ap is_sent it.down

  -- nor is another of its number
  quiet : NotSentAt started.number w.bios
  quiet =
      found_not_sent w.next_bio started.number w.bios started firm.bios.numbers
      (ap (bio_at w) its_number ∙ it.found) not_yet

  -- where it isn't sent, the same are Sent
  split_same : (t : Topology Config) (targets : List PieceTarget)
      → v.bios ≡ change_number started.number (λ y. record y { phase = phases.Waiting }) w.bios
      ++ map (λ item. piece_child t w.next_bio started item.0 item.1) (enumerate_from 0 targets)
      → sent_in v.bios ≡ sent_in w.bios
  split_same t targets is =
      ap sent_in is
      ∙ filter-append (λ (y : Bio). is_sent y.phase)
      (change_number started.number (λ y. record y { phase = phases.Waiting }) w.bios)
      (map (λ item. piece_child t w.next_bio started item.0 item.1) (enumerate_from 0 targets))
      ∙ ap (λ (ys : List Bio). sent_in (change_number started.number (λ y. record y { phase = phases.Waiting }) w.bios)
      ++ ys)
      (no_child_sent t w.next_bio started (enumerate_from 0 targets))
      ∙ append-nil (sent_in (change_number started.number (λ y. record y { phase = phases.Waiting }) w.bios))
      ∙ changed_same started.number (λ y. record y { phase = phases.Waiting }) (λ y. refl) w.bios quiet

  -- what a Start does to those that are Sent
  data Starts : Type 0 where
    -- it isn't sent
    Stays : (same : sent_in v.bios ≡ sent_in w.bios) (none : is_to_disk o ≡ false) → Starts
    -- it is sent to its disk
    Comes : (disk : ℕ) (to : o ≡ outcomes.Queued disk) (at : disk_of_bio w started ≡ Some disk)
        (graph : v.topology ≡ w.topology)
        (one : OneSent started.number (as_sent started) (sent_in w.bios) (sent_in v.bios)) → Starts

  -- by the way that it goes
  starts_by : (way : Way) → way_of w.topology started ≡ way → (v, o) ≡ start_by w started way → Starts
  starts_by (Bounces e) way is =
      Stays
      (ap (λ (m : World × Outcome). sent_in m.0.bios) is
      ∙ changed_same started.number (up_with (results.Failed e)) (λ y. refl) w.bios quiet)
      (ap (λ (m : World × Outcome). is_to_disk m.1) is)
  starts_by (Fails g) way is =
      Stays
      (ap (λ (m : World × Outcome). sent_in m.0.bios) is
      ∙ changed_same started.number (up_with (results.Failed EIO)) (λ y. refl) w.bios quiet)
      (ap (λ (m : World × Outcome). is_to_disk m.1) is)
  starts_by (Sends disk) way is =
      Comes disk (ap (λ (m : World × Outcome). m.1) is) (sent_disk w started disk way)
      (ap (λ (m : World × Outcome). m.0.topology) is)
      (subst (λ (xs : List Bio). OneSent started.number (as_sent started) (sent_in w.bios) (sent_in xs))
      (sym (ap (λ (m : World × Outcome). m.0.bios) is))
      (queued_in started.number w.next_bio started not_yet 0 w.bios
      (rise-from w.next_bio (map (λ (y : Bio). y.number) w.bios) firm.bios.numbers)
      (ap (bio_at w) its_number ∙ it.found)))
  starts_by (Splits targets) way is =
      Stays (split_same w.topology targets (ap (λ (m : World × Outcome). m.0.bios) is))
      (ap (λ (m : World × Outcome). is_to_disk m.1) is)
  starts_by (Passes g targets) way is =
      Stays (split_same (note_started w.topology g) targets (ap (λ (m : World × Outcome). m.0.bios) is))
      (ap (λ (m : World × Outcome). is_to_disk m.1) is)

  -- so by its way
  starts : Starts
  starts = starts_by (way_of w.topology started) refl it.made

  module _ (disk : ℕ) where
    -- where the same are Sent, the same waits
    same_waits : sent_in v.bios ≡ sent_in w.bios → waiting_for v disk ≡ waiting_for w disk
    same_waits same =
        waiting_seen v disk ∙ ap (filter_map (look v.topology disk)) same
        ∙ looks_stay w v seat (steps.Start b) o disk firm made ∙ sym (waiting_seen w disk)

    -- where one more is Sent, the disk sees it or not
    abbrev seen_of : List Bio → List Waiting
    seen_of xs = filter_map (look w.topology disk) xs

    -- what waited
    before_is : (one : OneSent started.number (as_sent started) (sent_in w.bios) (sent_in v.bios))
        → waiting_for w disk ≡ seen_of one.front ++ seen_of one.back
    before_is one =
        waiting_seen w disk ∙ ap seen_of one.was
        ∙ filter_map-append (look w.topology disk) one.front one.back

    -- what waits then
    after_is : (one : OneSent started.number (as_sent started) (sent_in w.bios) (sent_in v.bios))
        → v.topology ≡ w.topology
        → waiting_for v disk ≡ seen_of one.front ++ seen_of (as_sent started ∷ one.back)
    after_is one graph =
        waiting_seen v disk ∙ ap (λ (t : Topology Config). filter_map (look t disk) (sent_in v.bios)) graph
        ∙ ap seen_of one.is ∙ filter_map-append (look w.topology disk) one.front (as_sent started ∷ one.back)

    -- the disk is another
    other_waits : (d : ℕ) → disk_of_bio w started ≡ Some d → (d == disk) ≡ false → v.topology ≡ w.topology
        → OneSent started.number (as_sent started) (sent_in w.bios) (sent_in v.bios)
        → waiting_for v disk ≡ waiting_for w disk
    other_waits d at other graph one =
        let none : look w.topology disk (as_sent started) ≡ None = rw at (rw other refl) in
        let behind : seen_of (as_sent started ∷ one.back) ≡ seen_of one.back = rw none refl in
        after_is one graph ∙ ap (λ (zs : List Waiting). seen_of one.front ++ zs) behind ∙ sym (before_is one)

    -- the disk is this one
    one_waits : (d : ℕ) → disk_of_bio w started ≡ Some d → (d == disk) ≡ true → v.topology ≡ w.topology
        → OneSent started.number (as_sent started) (sent_in w.bios) (sent_in v.bios)
        → OneMore b (waiting_for w disk) (waiting_for v disk)
    one_waits d at this graph one =
        let some : look w.topology disk (as_sent started) ≡ Some (waiting_of w started) = rw at (rw this refl) in
        let behind : seen_of (as_sent started ∷ one.back) ≡ waiting_of w started ∷ seen_of one.back = rw some refl in
        record {
          front = seen_of one.front;
          one = waiting_of w started;
          back = seen_of one.back;
          was = before_is one;
          is = after_is one graph ∙ ap (λ (zs : List Waiting). seen_of one.front ++ zs) behind;
          number = its_number;
          below = All-from_recursion (λ (x : Waiting). x.bio ≤ b) (seen_of one.front)
              (all_looks (look w.topology disk) (λ (y : Bio). y.number ≤ started.number)
              (λ (x : Waiting). x.bio ≤ b)
              (λ y z is low. omega (arith, look_number w.topology disk y z is, its_number, low)) one.front one.below);
          above = All-from_recursion (λ (x : Waiting). b ≤ x.bio) (seen_of one.back)
              (all_looks (look w.topology disk) (λ (y : Bio). started.number ≤ y.number)
              (λ (x : Waiting). b ≤ x.bio)
              (λ y z is high. omega (arith, look_number w.topology disk y z is, its_number, high)) one.back one.above);
        }

    -- a Start that queues to the disk
    queued_by : Starts → IsTrue (is_queued disk o) → OneMore b (waiting_for w disk) (waiting_for v disk)
    queued_by (Stays same none) queued = absurd (quiet_queues disk o none queued)
    queued_by (Comes d to at graph one) queued =
        one_waits d at (subst (λ (p : Outcome). IsTrue (is_queued disk p)) to queued) graph one

    -- one that doesn't
    start_stays : Starts → is_queued disk o ≡ false → waiting_for v disk ≡ waiting_for w disk
    start_stays (Stays same none) not_queued = same_waits same
    start_stays (Comes d to at graph one) not_queued =
        other_waits d at (subst (λ (p : Outcome). is_queued disk p ≡ false) to not_queued) graph one

-- A Take

module _ (w v : World) (firm : Firm w) (seat other b : ℕ) (o : Outcome)
    (made : step w seat (steps.Take other b) ≡ Ok (v, o)) where
  -- the bio that is taken
  taking : TakesIt w v seat other b o
  taking = takes_it w v seat other b o made

  -- it itself
  abbrev taken : Bio
  taken = taking.bio

  -- it has the number
  taken_number : taken.number ≡ b
  taken_number = number_found (λ (y : Bio). y.number) w.bios b taken taking.found

  -- it is Busy then
  taken_bios : v.bios ≡ change_number taken.number (λ y. record y { phase = phases.Busy seat }) w.bios
  unfolding take_bio
  taken_bios = ap (λ (m : World × Outcome). m.0.bios) taking.made

  -- the disk is asked for it
  taken_asks : o ≡ outcomes.Asked (request_of_bio w other taken)
  unfolding take_bio
  taken_asks = ap (λ (m : World × Outcome). m.1) taking.made

  -- it is Sent no more
  taken_sent : sent_in v.bios ≡ filter (is_other_bio b) (sent_in w.bios)
  taken_sent =
      ap sent_in taken_bios ∙ taken_in_list taken.number seat w.bios
      ∙ ap (λ (n : ℕ). filter (is_other_bio n) (sent_in w.bios)) taken_number

  module _ (disk : ℕ) where
    -- what waits, by what is Sent
    take_waits : waiting_for v disk ≡ filter (is_other b) (waiting_for w disk)
    take_waits =
        waiting_seen v disk ∙ ap (filter_map (look v.topology disk)) taken_sent
        ∙ gone_looks (look v.topology disk) (look_number v.topology disk) b (sent_in w.bios)
        ∙ ap (filter (is_other b)) (looks_stay w v seat (steps.Take other b) o disk firm made)
        ∙ ap (filter (is_other b)) (sym (waiting_seen w disk))

    -- for another disk it didn't wait
    not_seen_by : (x : Bio) → (x.number == b) ≡ true → Contains w.bios x → (other == disk) ≡ false
        → look w.topology disk x ≡ None
    not_seen_by x hit here apart =
        let only : x ≡ taken =
        at_contained (λ (y : Bio). (y.number == b) ≡ true → y ≡ taken) w.bios x
        (unique (λ (y : Bio). y.number) w.next_bio b w.bios taken firm.bios.numbers taking.found) here hit in
        let goes : disk_at w.topology x.target ≡ Some other =
        ap (λ (y : Bio). disk_at w.topology y.target) only ∙ taking.can.disk_is in
        rw goes (rw apart refl)

    -- so for it the same waits
    take_stays : (other == disk) ≡ false → waiting_for v disk ≡ waiting_for w disk
    take_stays apart =
        waiting_seen v disk ∙ ap (filter_map (look v.topology disk)) taken_sent
        ∙ gone_looks (look v.topology disk) (look_number v.topology disk) b (sent_in w.bios)
        ∙ ap (filter (is_other b)) (looks_stay w v seat (steps.Take other b) o disk firm made)
        ∙ sym (gone_looks (look w.topology disk) (look_number w.topology disk) b (sent_in w.bios))
        ∙ kept_looks (look w.topology disk) (is_other_bio b) (sent_in w.bios)
        (All-from_contained (λ (x : Bio). is_other_bio b x ≡ false → look w.topology disk x ≡ None) (sent_in w.bios)
        (λ x here gone.
        not_seen_by x (grind (arith, gone)) (filter-Contains (λ (y : Bio). is_sent y.phase) w.bios x here).0 apart))
        ∙ sym (waiting_seen w disk)

  -- it waited for its disk
  taken_waited : Contains (waiting_for w other) (waiting_of w taken)
  taken_waited =
      let same : (other == other) ≡ true = eq-eqb other other refl in
      let passes : is_sent_to w other taken ≡ true = rw (taking.can.sent, taking.can.disk_is, same) refl in
      Contains-map (waiting_of w) (filter (is_sent_to w other) w.bios) taken
      (Contains-filter (is_sent_to w other) w.bios taken
      (find-Contains (λ (y : Bio). y.number == b) w.bios taken taking.found) passes)

-- a Take asks for what the bio waited for
pub takes_ask_waiting : TakesAskWaiting
takes_ask_waiting w v seat disk b o firm made = (
  waiting_of w (taken w v firm seat disk b o made),
  taken_waited w v firm seat disk b o made,
  taken_number w v firm seat disk b o made,
  subst (Asks (waiting_of w (taken w v firm seat disk b o made))) (sym (taken_asks w v firm seat disk b o made))
      (refl, refl),
)

-- Each step

module _ (w v : World) (firm : Firm w) (seat disk : ℕ) (o : Outcome) where
  -- neither a Start nor a Take
  others_stay : (s : Step) → starts_or_takes s ≡ false → step w seat s ≡ Ok (v, o)
      → waiting_for v disk ≡ waiting_for w disk
  others_stay s other made =
      waiting_seen v disk ∙ ap (filter_map (look v.topology disk)) (sent_same w firm v seat s o other made)
      ∙ looks_stay w v seat s o disk firm made ∙ sym (waiting_seen w disk)

  -- where nothing is queued and nothing asked, the same waits
  stay : (s : Step) → step w seat s ≡ Ok (v, o) → is_queued disk o ≡ false → is_asked disk o ≡ false
      → waiting_for v disk ≡ waiting_for w disk
  stay (steps.Start b) made queued asked =
      start_stays w v firm seat b o made disk (starts w v firm seat b o made) queued
  stay (steps.Take other b) made queued asked =
      take_stays w v firm seat other b o made disk
      (subst (λ (p : Outcome). is_asked disk p ≡ false) (taken_asks w v firm seat other b o made) asked)
  stay s made queued asked = others_stay s refl made

  -- only a Start queues to the disk
  not_queued : (s : Step) → starts_or_takes s ≡ false → step w seat s ≡ Ok (v, o) → IsTrue (is_queued disk o) → ⊥
  not_queued s other made = quiet_queues disk o (others_not_to_disk w v seat s o other made)

  -- so by the step
  by_start : (s : Step) → step w seat s ≡ Ok (v, o) → IsTrue (is_queued disk o) → (b : ℕ) × (s ≡ steps.Start b)
  by_start (steps.Start b) made queued = (b, refl)
  by_start (steps.Take other b) made queued =
      let no : IsTrue false =
      subst (λ (p : Outcome). IsTrue (is_queued disk p)) (taken_asks w v firm seat other b o made) queued in
      absurd (let bad : ⊥ = cc in bad)
  by_start s made queued = absurd (not_queued s refl made queued)

  -- only a Take asks it
  quiet_asks : (p : Outcome) → is_to_disk p ≡ false → IsTrue (is_asked disk p) → ⊥
  quiet_asks (outcomes.Asked q) none asked = let no : ⊥ = cc in no
  quiet_asks _ none asked = let no : ⊥ = cc in no

  -- nor does a step that is neither
  not_asked : (s : Step) → starts_or_takes s ≡ false → step w seat s ≡ Ok (v, o) → IsTrue (is_asked disk o) → ⊥
  not_asked s other made = quiet_asks o (others_not_to_disk w v seat s o other made)

  -- nor does a Start
  start_asks : (b : ℕ) (made : step w seat (steps.Start b) ≡ Ok (v, o)) → Starts w v firm seat b o made
      → IsTrue (is_asked disk o) → ⊥
  start_asks b made (Stays same none) asked = quiet_asks o none asked
  start_asks b made (Comes d to at graph one) asked =
      let no : IsTrue false = subst (λ (p : Outcome). IsTrue (is_asked disk p)) to asked in let bad : ⊥ = cc in bad

  -- so by the step
  by_take : (s : Step) → step w seat s ≡ Ok (v, o) → IsTrue (is_asked disk o) → (b : ℕ) × (s ≡ steps.Take disk b)
  by_take (steps.Take other b) made asked =
      let here : (other == disk) ≡ true =
      subst (λ (p : Outcome). IsTrue (is_asked disk p)) (taken_asks w v firm seat other b o made) asked in
      (b, ap (λ (d : ℕ). steps.Take d b) (eqb-true other disk here))
  by_take (steps.Start b) made asked =
      absurd (start_asks b made (starts w v firm seat b o made) asked)
  by_take s made asked = absurd (not_asked s refl made asked)

-- so by each step what waits changes
pub steps_change_waiting : StepsChangeWaiting
steps_change_waiting w v seat disk s o firm made = record {
  queued = λ b is queues.
      let starting : step w seat (steps.Start b) ≡ Ok (v, o) =
      subst (λ (r : Step). step w seat r ≡ Ok (v, o)) is made in
      queued_by w v firm seat b o starting disk (starts w v firm seat b o starting) queues;
  taken = λ b is.
      take_waits w v firm seat disk b o (subst (λ (r : Step). step w seat r ≡ Ok (v, o)) is made) disk;
  queued_by_start = by_start w v firm seat disk o s made;
  asked_by_take = by_take w v firm seat disk o s made;
  stays = stay w v firm seat disk o s made;
}
