-- What disks hold, tell and fail along a log with one entry more, and drives that serve what its entries say.
use Rattle.std.proofs.Common.{count_by, map, ◌≡◌, ℕ, ◌+◌, ◌==◌, Bool, false, cond, List, [], ◌∷◌, ◌++◌, fold, Option, Some, None, IsSome, IfSome, refl, sym, ◌∙◌, ap, subst, add-zero, append-nil, ◌≢◌, suc, true, Contains, slice_get, slice_set, append_assoc, arith, eqb-true, eq-eqb, ne_eqb, zero, not, filter, zip}
use Rattle.std.proofs.lemmas.Bool.{both_ways}
use Rattle.std.proofs.lemmas.List.Sums.{sum_by-append}
use Rattle.std.specs.List.{cons_option, enumerate_from}
use Rattle.std.specs.Option.{option_map}
use Rattle.geo_base.proofs.Options.{if_some_weaker, option_map-same}
use Rattle.geo_base.proofs.PlaceLists.{slot-same, slot-other}
use Rattle.geo_disk.specs.Counts.{counted_if, counted_many, counted_on}
use Rattle.geo_model.specs.declared.command.DiskDecl.{DiskDecl}
use Rattle.geo_model.specs.declared.step.DeviceResult.{DeviceResult}
use Rattle.geo_model.specs.declared.step.DeviceResult.TheVariants as devices
use Rattle.geo_model.specs.declared.step.Entry.{Entry}
use Rattle.geo_model.specs.declared.step.Request.{Request}
use Rattle.geo_model.specs.declared.step.Step.{Step}
use Rattle.geo_model.specs.declared.step.Step.TheVariants as steps
use Rattle.geo_model.specs.Contents.{bytes_at, contents, AreTrue, ReadsWhatIsHeld}
use Rattle.geo_model.specs.FixedOrder.{delivered_in}
use Rattle.geo_model.specs.GeomCommands.{stand}
use Rattle.geo_model.specs.Opening.{opening, bare_world, disk_in_size}
use Rattle.geo_model.specs.Results.{request_of}
use Rattle.geo_model.specs.World.{World, Plan, HeaderDisk}
use Rattle.geo_serve.specs.Drives.{DriveView, HasAllSectors, HasWholeSectors, RamCalls, called_once, fails_of}
use Rattle.geo_serve.specs.Serve.{TellsWhatIsHeld, is_failed, FailsAsTold, Serves}
use Rattle.geo_serve.specs.Served.{AreServed, IsServed, IsServedAt}
use Rattle.geo_laws_graph.proofs.Members.{nothing_in}
use Rattle.geo_laws_disks.specs.DriveLaws.{AreTaken, IsTaken, DrivesFollow, HasSizes}
use Rattle.geo_disk.specs.Calls.{CallMade}
use Rattle.std.proofs.lemmas.List.{map-append}
use Rattle.std.proofs.lemmas.List.Elements.{filter_map-append}
use Rattle.geo_laws_disks.specs.Deliveries.{Delivery, deliveries, delivery_in, delivery_of, held_by}
use Rattle.geo_laws_disks.proofs.Joined.{call_delivered, calls_by, contents_by, deliver_same, failures_by, held_by_both}
use Rattle.geo_laws_disks.proofs.Requests.{each_more, request_same, none_in}

-- how many of some deliveries are failures
abbrev failures : List Delivery → ℕ
failures ds = count_by (λ d. is_failed d.got) ds

-- the calls of some deliveries
abbrev calls : List Delivery → List CallMade
calls ds = map call_delivered ds

-- a drive did what these deliveries say, whatever its bytes told
pub record DidBy (ds : List Delivery) (before after : DriveView) : Type 0 where
  held : after.held ≡ option_map (λ sectors. held_by before.sector sectors ds) before.held
  whole : HasWholeSectors before → HasWholeSectors after
  all : HasAllSectors before → HasAllSectors after
  asked : after.asked ≡ before.asked ++ calls ds
  failed : after.faults ≡ counted_many (failures ds) before.faults
  sector : after.sector ≡ before.sector
  count : after.count ≡ before.count
  kind : fails_of after ≡ fails_of before
  memory : fails_of before ≡ Some [] → failures ds ≡ 0

module _ (log : List Entry) (disk : ℕ) (before after : DriveView) where
  -- what a drive did along a log it did by what the log delivers
  pub by_log : IsServed log disk before after → DidBy (deliveries log disk) before after
  by_log served = record {
    held = served.held
        ∙ option_map-same (λ held. contents before.sector held log disk)
        (λ held. held_by before.sector held (deliveries log disk)) (λ held. contents_by log before.sector disk held)
        before.held;
    whole = served.whole;
    all = served.all;
    asked = served.asked ∙ ap (λ cs. before.asked ++ cs) (calls_by log disk);
    failed = served.failures ∙ ap (λ n. counted_many n before.faults) (failures_by log disk);
    sector = served.sector;
    count = served.count;
    kind = served.kind;
    memory = λ none. sym (failures_by log disk) ∙ served.memory none;
  }

  -- and the other way, where its bytes told what it held
  pub along_log : DidBy (deliveries log disk) before after
      → IfSome before.held (λ held. AreTrue before.sector held log disk) → IsServed log disk before after
  along_log did reads = record {
    held = did.held
        ∙ option_map-same (λ held. held_by before.sector held (deliveries log disk))
        (λ held. contents before.sector held log disk) (λ held. sym (contents_by log before.sector disk held))
        before.held;
    reads = reads;
    whole = did.whole;
    all = did.all;
    asked = did.asked ∙ ap (λ cs. before.asked ++ cs) (sym (calls_by log disk));
    failures = did.failed ∙ ap (λ n. counted_many n before.faults) (sym (failures_by log disk));
    sector = did.sector;
    count = did.count;
    kind = did.kind;
    memory = λ none. failures_by log disk ∙ did.memory none;
  }

-- so many more, and then so many
counted_both : (j k n : ℕ) → counted_many j (counted_many k n) ≡ counted_many (k + j) n
counted_both zero k n = ap (λ i. counted_many i n) (sym (add-zero k))
counted_both (suc j) k n =
    let more : suc (k + j) ≡ k + suc j = omega arith in
    ap counted_on (counted_both j k n) ∙ ap (λ i. counted_many i n) more

-- what a drive did by some deliveries and then by others, it did by both
pub did_both : (ds es : List Delivery) (before mid after : DriveView) → DidBy ds before mid → DidBy es mid after
    → DidBy (ds ++ es) before after
did_both ds es before mid after first second = record {
  held = second.held
      ∙ ap (λ o. option_map (λ held. held_by mid.sector held es) o) first.held
      ∙ ap
      (λ s. option_map (λ held. held_by s held es) (option_map (λ held. held_by before.sector held ds) before.held))
      first.sector
      ∙ joined before.held;
  whole = λ w. second.whole (first.whole w);
  all = λ a. second.all (first.all a);
  asked = second.asked ∙ ap (λ cs. cs ++ calls es) first.asked ∙ append_assoc before.asked (calls ds) (calls es)
      ∙ ap (λ cs. before.asked ++ cs) (sym (map-append call_delivered ds es));
  failed = second.failed ∙ ap (λ n. counted_many (failures es) n) first.failed
      ∙ counted_both (failures es) (failures ds) before.faults
      ∙ ap (λ n. counted_many n before.faults) (sym failures_both);
  sector = second.sector ∙ first.sector;
  count = second.count ∙ first.count;
  kind = second.kind ∙ first.kind;
  memory = λ none. failures_both ∙ (rw (first.memory none, second.memory (first.kind ∙ none)) refl);
}
  where
    failures_both : failures (ds ++ es) ≡ failures ds + failures es
    failures_both = sum_by-append (λ (d : Delivery). cond (is_failed d.got) 1 0) ds es

    joined : (o : Option (List (List ℕ)))
        → option_map (λ held. held_by before.sector held es) (option_map (λ held. held_by before.sector held ds) o)
        ≡ option_map (λ held. held_by before.sector held (ds ++ es)) o
    joined None = refl
    joined (Some held) = ap Some (sym (held_by_both before.sector held ds es))

-- a disk in memory without a call to fail doesn't fail
never : (ram : Option RamCalls) (got : DeviceResult) → IfSome ram (FailsAsTold got)
    → option_map (λ (c : RamCalls). c.fails) ram ≡ Some [] → is_failed got ≡ false
never None got told none = absurd (let bad : ⊥ = cc in bad)
never (Some c) got told none = by (is_failed got) refl
  where
    by : (failed : Bool) → is_failed got ≡ failed → is_failed got ≡ false
    by false is = is
    by true is =
        let empty : c.fails ≡ [] = cc in
        absurd
        (nothing_in (counted_on c.calls) (subst (λ fails. Contains fails (counted_on c.calls)) empty (told.0 is)))

-- a call more leaves the numbers of those that are to fail
same_fails : (ram : Option RamCalls)
    → option_map (λ (c : RamCalls). c.fails) (option_map called_once ram) ≡ option_map (λ (c : RamCalls). c.fails) ram
same_fails None = refl
same_fails (Some c) = refl

-- a drive that served one request did so
did_one : (q : Request) (got : DeviceResult) (before after : DriveView) → Serves q before after got
    → DidBy (record { request = q; got = got } ∷ []) before after
did_one q got before after serves = record {
  held = serves.held;
  whole = serves.whole;
  all = serves.all;
  asked = serves.asked;
  failed = serves.faults ∙ by (is_failed got);
  sector = serves.sector;
  count = serves.count;
  kind = ap (λ o. option_map (λ (c : RamCalls). c.fails) o) serves.ram ∙ same_fails before.ram;
  memory = λ none. rw (never before.ram got serves.fails none) refl;
}
  where
    by : (c : Bool) → counted_if c before.faults ≡ counted_many (0 + cond c 1 0) before.faults
    by true = refl
    by false = refl

-- One entry more

-- drives at the beginning of a log
pub served_none : (disk : ℕ) (before : DriveView) → IsServed [] disk before before
unfolding contents AreTrue
served_none disk before = record {
  held = by before.held;
  reads = reads before.held;
  whole = λ w. w;
  all = λ a. a;
  asked = sym (append-nil before.asked);
  failures = refl;
  sector = refl;
  count = refl;
  kind = refl;
  memory = λ e. refl;
}
  where
    by : (o : Option (List (List ℕ))) → o ≡ option_map (λ held. contents before.sector held [] disk) o
    by None = refl
    by (Some held) = refl

    reads : (o : Option (List (List ℕ))) → IfSome o (λ held. AreTrue before.sector held [] disk)
    reads None = tt
    reads (Some held) = λ earlier e split. absurd (none_in earlier e split.0 split.1)

-- what a log delivers with one entry more
deliveries_more : (xs : List Entry) (e : Entry) (disk : ℕ) → AreTaken xs xs
    → deliveries (xs ++ e ∷ []) disk
    ≡ deliveries xs disk ++ cons_option (delivery_in (request_of (xs ++ e ∷ [])) disk e.step) []
deliveries_more xs e disk taken =
    filter_map-append (λ (x : Entry). delivery_in (request_of (xs ++ e ∷ [])) disk x.step) xs (e ∷ [])
    ∙ ap (λ ds. ds ++ cons_option (delivery_in (request_of (xs ++ e ∷ [])) disk e.step) [])
    (deliver_same (request_of (xs ++ e ∷ [])) (request_of xs) disk (IsTaken xs) same xs taken)
  where
    same : (s : Step) → IsTaken xs s
        → delivery_in (request_of (xs ++ e ∷ [])) disk s ≡ delivery_in (request_of xs) disk s
    same (steps.Deliver b got) its = ap (λ o. delivery_of disk got o) (request_same xs (e ∷ []) b its)
    same s its = refl

-- a drive of whose disk the entry delivers nothing
served_still : (xs : List Entry) (e : Entry) (disk : ℕ) (before after : DriveView) → AreTaken xs xs
    → delivery_in (request_of (xs ++ e ∷ [])) disk e.step ≡ None
    → ((size : ℕ) (held : List (List ℕ)) → ReadsWhatIsHeld size held xs disk e.step)
    → IsServed xs disk before after → IsServed (xs ++ e ∷ []) disk before after
unfolding AreTrue
served_still xs e disk before after taken none reads served =
    along_log (xs ++ e ∷ []) disk before after
    (subst (λ ds. DidBy ds before after) (sym same) (by_log xs disk before after served))
    (if_some_weaker (λ held. AreTrue before.sector held xs disk)
    (λ held. AreTrue before.sector held (xs ++ e ∷ []) disk)
    (λ held so_far. each_more (λ earlier x. ReadsWhatIsHeld before.sector held earlier disk x.step) xs e so_far
    (reads before.sector held)) before.held
    served.reads)
  where
    same : deliveries (xs ++ e ∷ []) disk ≡ deliveries xs disk
    same =
        deliveries_more xs e disk taken ∙ ap (λ o. deliveries xs disk ++ cons_option o []) none
        ∙ append-nil (deliveries xs disk)

-- a step that delivers nothing delivers nothing of a disk
quiet_delivers : (asked : ℕ → Option Request) (disk : ℕ) (s : Step) → delivered_in s ≡ None
    → delivery_in asked disk s ≡ None
quiet_delivers asked disk (steps.Deliver b got) none = absurd (let bad : ⊥ = cc in bad)
quiet_delivers asked disk s none = refl

-- nor does it tell bytes
quiet_reads : (size disk : ℕ) (held : List (List ℕ)) (earlier : List Entry) (s : Step) → delivered_in s ≡ None
    → ReadsWhatIsHeld size held earlier disk s
quiet_reads size disk held earlier (steps.Deliver b got) none = absurd (let bad : ⊥ = cc in bad)
quiet_reads size disk held earlier s none = tt

-- a drive that isn't asked
pub served_quiet : (xs : List Entry) (e : Entry) (disk : ℕ) (before after : DriveView) → AreTaken xs xs
    → delivered_in e.step ≡ None → IsServed xs disk before after → IsServed (xs ++ e ∷ []) disk before after
served_quiet xs e disk before after taken quiet served =
    served_still xs e disk before after taken (quiet_delivers (request_of (xs ++ e ∷ [])) disk e.step quiet)
    (λ size held. quiet_reads size disk held xs e.step quiet) served

-- the bytes that it delivers, if it is of the disk, are those that the disk held
told : (size disk : ℕ) (held : List (List ℕ)) (earlier : List Entry) (b : ℕ) (got : DeviceResult) (q : Request)
    → request_of earlier b ≡ Some q → (q.disk ≡ disk → TellsWhatIsHeld q got (contents size held earlier disk))
    → ReadsWhatIsHeld size held earlier disk (steps.Deliver b got)
told size disk held earlier b (devices.Bytes bytes) q asked tells =
    subst (λ o. IfSome o (λ q. q.disk ≡ disk → bytes ≡ bytes_at (contents size held earlier disk) q)) (sym asked) tells
told size disk held earlier b got q asked tells = tt

-- what the entry delivers of a disk
delivers_it : (xs : List Entry) (e : Entry) (b : ℕ) (got : DeviceResult) (q : Request) (disk : ℕ)
    → e.step ≡ steps.Deliver b got → request_of xs b ≡ Some q
    → delivery_in (request_of (xs ++ e ∷ [])) disk e.step ≡ delivery_of disk got (Some q)
delivers_it xs e b got q disk delivers asked =
    ap (λ s. delivery_in (request_of (xs ++ e ∷ [])) disk s) delivers
    ∙ ap (λ o. delivery_of disk got o)
    (request_same xs (e ∷ []) b (subst (λ (o : Option Request). IsSome o) (sym asked) refl) ∙ asked)

-- a drive of another disk than the one that answered
pub served_other : (xs : List Entry) (e : Entry) (b : ℕ) (got : DeviceResult) (q : Request) (disk : ℕ)
    (before after : DriveView) → AreTaken xs xs → e.step ≡ steps.Deliver b got → request_of xs b ≡ Some q
    → q.disk ≢ disk → IsServed xs disk before after → IsServed (xs ++ e ∷ []) disk before after
served_other xs e b got q disk before after taken delivers asked other served =
    served_still xs e disk before after taken
    (delivers_it xs e b got q disk delivers asked ∙ rw (ne_eqb q.disk disk other) refl)
    (λ size held. subst (λ s. ReadsWhatIsHeld size held xs disk s) (sym delivers)
    (told size disk held xs b got q asked (λ its. absurd (other its)))) served

-- the drive of the disk that answered
pub served_own : (xs : List Entry) (e : Entry) (b : ℕ) (got : DeviceResult) (q : Request) (before mid after : DriveView)
    → AreTaken xs xs → e.step ≡ steps.Deliver b got → request_of xs b ≡ Some q
    → IsServed xs q.disk before mid → Serves q mid after got → IsServed (xs ++ e ∷ []) q.disk before after
unfolding AreTrue
served_own xs e b got q before mid after taken delivers asked served serves =
    along_log (xs ++ e ∷ []) q.disk before after
    (subst (λ ds. DidBy ds before after) (sym more)
    (did_both (deliveries xs q.disk) (record { request = q; got = got } ∷ []) before mid after
    (by_log xs q.disk before mid served) (did_one q got mid after serves)))
    (reads before.held served.reads (subst (λ o. IfSome o (TellsWhatIsHeld q got)) served.held serves.tells))
  where
    more : deliveries (xs ++ e ∷ []) q.disk ≡ deliveries xs q.disk ++ record { request = q; got = got } ∷ []
    more =
        let own : delivery_of q.disk got (Some q) ≡ Some (record { request = q; got = got }) =
        rw (eq-eqb q.disk q.disk refl) refl in
        deliveries_more xs e q.disk taken
        ∙ ap (λ o. deliveries xs q.disk ++ cons_option o []) (delivers_it xs e b got q q.disk delivers asked ∙ own)

    reads : (o : Option (List (List ℕ))) → IfSome o (λ held. AreTrue before.sector held xs q.disk)
        → IfSome (option_map (λ held. contents before.sector held xs q.disk) o) (TellsWhatIsHeld q got)
        → IfSome o (λ held. AreTrue before.sector held (xs ++ e ∷ []) q.disk)
    reads None so_far tells = tt
    reads (Some held) so_far tells =
        each_more (λ earlier x. ReadsWhatIsHeld before.sector held earlier q.disk x.step) xs e so_far
        (subst (λ s. ReadsWhatIsHeld before.sector held xs q.disk s) (sym delivers)
        (told before.sector q.disk held xs b got q asked (λ its. tells)))

-- All drives

-- each drive at the beginning of a log
pub all_served_none : (drives : List DriveView) → AreServed [] drives drives
all_served_none drives disk = by (slice_get drives disk)
  where
    by : (o : Option DriveView) → IsServedAt [] disk o o
    by None = tt
    by (Some d) = served_none disk d

-- an entry that delivers nothing
pub all_served_quiet : (xs : List Entry) (e : Entry) (before after : List DriveView) → AreTaken xs xs
    → delivered_in e.step ≡ None → AreServed xs before after → AreServed (xs ++ e ∷ []) before after
all_served_quiet xs e before after taken quiet served disk =
    by (slice_get before disk) (slice_get after disk) (served disk)
  where
    by : (a c : Option DriveView) → IsServedAt xs disk a c → IsServedAt (xs ++ e ∷ []) disk a c
    by (Some a) (Some c) at = served_quiet xs e disk a c taken quiet at
    by a c at = at

-- an entry that delivers what one of them answered
pub all_served_answered : (xs : List Entry) (e : Entry) (b : ℕ) (got : DeviceResult) (q : Request)
    (before mid : List DriveView) (old new : DriveView) → AreTaken xs xs → e.step ≡ steps.Deliver b got
    → request_of xs b ≡ Some q → slice_get mid q.disk ≡ Some old → Serves q old new got → AreServed xs before mid
    → AreServed (xs ++ e ∷ []) before (slice_set mid q.disk new)
all_served_answered xs e b got q before mid old new taken delivers asked here serves served disk =
    by (disk == q.disk) refl
  where
    other : (a c : Option DriveView) → q.disk ≢ disk → IsServedAt xs disk a c → IsServedAt (xs ++ e ∷ []) disk a c
    other (Some a) (Some c) apart at = served_other xs e b got q disk a c taken delivers asked apart at
    other a c apart at = at

    own : (a : Option DriveView) → IsServedAt xs q.disk a (Some old) → IsServedAt (xs ++ e ∷ []) q.disk a (Some new)
    own None at = at
    own (Some a) at = served_own xs e b got q a old new taken delivers asked at serves

    by : (c : Bool) → (disk == q.disk) ≡ c
        → IsServedAt (xs ++ e ∷ []) disk (slice_get before disk) (slice_get (slice_set mid q.disk new) disk)
    by true is =
        let same : disk ≡ q.disk = eqb-true disk q.disk is in
        subst (λ n. IsServedAt (xs ++ e ∷ []) n (slice_get before n) (slice_get (slice_set mid q.disk new) n))
        (sym same)
        (rw (slot-same mid q.disk new old here)
        (own (slice_get before q.disk)
        (subst (λ o. IsServedAt xs q.disk (slice_get before q.disk) o) here (served q.disk))))
    by false is =
        let apart : disk ≢ q.disk = (λ same. both_ways (disk == q.disk) is (eq-eqb disk q.disk same)) in
        rw (slot-other mid q.disk disk new apart)
        (other (slice_get before disk) (slice_get mid disk) (λ same. apart (sym same)) (served disk))

-- all of it
pub drives_follow : DrivesFollow
drives_follow = record { none = all_served_none; quiet = all_served_quiet; answered = all_served_answered }

-- disks that stand leave the header
stand_same : (w : World) (items : List (ℕ × (DiskDecl × (ℕ × ℕ))))
    → (fold (λ u item. stand u (item.0, disk_in_size item.1)) w items).disks ≡ w.disks
stand_same w [] = refl
stand_same w (item ∷ items) = stand_same (stand w (item.0, disk_in_size item.1)) items

-- so the opening has the disks of the plan in their sizes
pub opening_disks : (plan : Plan) (facts : List (ℕ × ℕ))
    → (opening plan facts).disks ≡ map disk_in_size (zip plan.disks facts)
unfolding opening
opening_disks plan facts =
    stand_same (bare_world plan facts)
    (filter (λ item. not item.1.0.later) (enumerate_from 0 (zip plan.disks facts)))

-- the drive of a disk of the header
pub record DriveAt (drives : List DriveView) (disk : ℕ) (header : HeaderDisk) : Type 0 where
  pub drive : DriveView
  pub is : slice_get drives disk ≡ Some drive
  pub sizes : HasSizes drive header

-- where there is one drive for each disk, with its sizes, a disk of the header has its drive
pub drive_at : (decls : List DiskDecl) (drives : List DriveView) (disk : ℕ) (header : HeaderDisk)
    → slice_get (map disk_in_size (zip decls (map (λ (d : DriveView). (d.sector, d.count)) drives))) disk ≡ Some header
    → DriveAt drives disk header
drive_at [] drives disk header at = absurd (let bad : ⊥ = cc in bad)
drive_at (decl ∷ decls) [] disk header at = absurd (let bad : ⊥ = cc in bad)
drive_at (decl ∷ decls) (d ∷ drives) zero header at =
    let made : Some (disk_in_size (decl, (d.sector, d.count))) ≡ Some header = at in
    let same : disk_in_size (decl, (d.sector, d.count)) ≡ header = cc in
    record {
      drive = d;
      is = refl;
      sizes = record {
        sector = ap (λ (h : HeaderDisk). h.sector) same;
        size = sym (ap (λ (h : HeaderDisk). h.size) same);
      };
    }
drive_at (decl ∷ decls) (d ∷ drives) (suc n) header at =
    let rest : DriveAt drives n header = drive_at decls drives n header at in
    record { drive = rest.drive; is = rest.is; sizes = rest.sizes }
