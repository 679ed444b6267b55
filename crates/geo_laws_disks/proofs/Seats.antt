-- The entries of a disk's seat deliver what the log does, two parts what both do, and drives serve so.
use Rattle.std.proofs.Common.{◌≡◌, ◌⊎◌, ℕ, ◌≤◌, Bool, true, false, cond, List, [], ◌∷◌, ◌++◌, filter, find, count_by, Option, Some, None, IsSome, IfSome, Contains, option_and_then, inl, inr, refl, sym, ◌∙◌, ap, subst, arith, append_assoc, ◌≢◌, ◌==◌, eq-eqb, eqb-true, ne_eqb}
use Rattle.std.proofs.lemmas.List.Elements.{Contains-append_cases, Contains-append_left, Contains-append_right, All-contains, filter_map-append}
use Rattle.std.proofs.lemmas.List.Sums.{sum_by-append}
use Rattle.std.specs.List.{AllByRecursion, cons_option}
use Rattle.std.specs.Option.{option_map}
use Rattle.geo_base.proofs.FindLists.{found_passes}
use Rattle.geo_base.proofs.Options.{if_some_weaker}
use Rattle.geo_model.specs.declared.step.DeviceResult.{DeviceResult}
use Rattle.geo_model.specs.declared.step.Entry.{Entry}
use Rattle.geo_model.specs.declared.step.Request.{Request}
use Rattle.geo_model.specs.declared.step.Step.{Step}
use Rattle.geo_model.specs.declared.step.Step.TheVariants as steps
use Rattle.geo_model.specs.Contents.{AreTrue, contents}
use Rattle.geo_model.specs.FixedOrder.{delivered_in}
use Rattle.geo_model.specs.Log.{IsSplitBy, Legal}
use Rattle.geo_model.specs.Opening.{opening}
use Rattle.geo_model.specs.Passes.{entries_of_seat}
use Rattle.geo_model.specs.Plans.{FactsFit, MayBegin}
use Rattle.geo_model.specs.Results.{is_take_of, request_in, request_of}
use Rattle.geo_model.specs.World.{Plan}
use Rattle.geo_laws_graph.proofs.Members.{Contains-filter, Contains-here, at_contained, filter-Contains, find-Contains, All-from_contained, Contains-cases, nothing_in}
use Rattle.geo_laws_requests.proofs.Complete.{legal_logs_complete_requests}
use Rattle.geo_laws_disks.specs.Deliveries.{deliveries, deliveries_by, delivery_in, AreTold}
use Rattle.geo_laws_disks.specs.DiskLaws.{AsksInside}
use Rattle.geo_laws_disks.specs.DriveLaws.{AreTaken, IsTaken}
use Rattle.geo_laws_disks.specs.SeatLaws.{AreBySeats, PartsDeliver, SeatsDeliver, PartsServe, SeatsServe}
use Rattle.geo_laws_disks.proofs.Drives.{DidBy, along_log, by_log, did_both}
use Rattle.geo_laws_disks.proofs.Joined.{holds_contents, InOrder, IsAsked, log_in_order, deliveries_in_order, order_in_front, told_by_both, told_by_true, true_by_told}
use Rattle.geo_laws_disks.proofs.Inside.{disks_are_asked}
use Rattle.geo_laws_disks.proofs.Requests.{none_in, passes_counted, found_some, only_found}

-- The Take of a bio

-- a Take of the bio stands in the entries
pub record HasTake (es : List Entry) (b : ℕ) : Type 0 where
  pub take : Entry
  pub here : Contains es take
  pub takes : is_take_of b take.step ≡ true

-- where a request is found there is its Take
pub take_of_request : (es : List Entry) (b : ℕ) → IsSome (request_of es b) → HasTake es b
take_of_request es b some = by (find (λ (e : Entry). is_take_of b e.step) es) refl
  where
    by : (o : Option Entry) → find (λ (e : Entry). is_take_of b e.step) es ≡ o → HasTake es b
    by None is =
        let none : IsSome (option_and_then (λ (e : Entry). request_in e.outcome) None) =
        subst (λ o. IsSome (option_and_then (λ (e : Entry). request_in e.outcome) o)) is some in
        absurd (let bad : ⊥ = cc in bad)
    by (Some e) is = record {
      take = e;
      here = find-Contains (λ (x : Entry). is_take_of b x.step) es e is;
      takes = found_passes (λ (x : Entry). is_take_of b x.step) es e is;
    }

module _ (log : List Entry) (once : (b : ℕ) → count_by (λ (e : Entry). is_take_of b e.step) log ≤ 1) where
  -- a Take of the bio is the one that is found
  pub one_take : (b : ℕ) (e : Entry) → Contains log e → is_take_of b e.step ≡ true
      → find (λ (x : Entry). is_take_of b x.step) log ≡ Some e
  one_take b e here takes = only_found (λ (x : Entry). is_take_of b x.step) log e (once b) here takes

  -- so two of them are one
  pub same_take : (b : ℕ) (x y : Entry) → Contains log x → is_take_of b x.step ≡ true → Contains log y
      → is_take_of b y.step ≡ true → x ≡ y
  same_take b x y here_x takes_x here_y takes_y =
      let both : Some x ≡ Some y = sym (one_take b x here_x takes_x) ∙ one_take b y here_y takes_y in cc

  -- entries of the log that have the Take of a bio have its request
  pub request_among : (es : List Entry) → ((y : Entry) → Contains es y → Contains log y) → (b : ℕ) → HasTake es b
      → request_of es b ≡ request_of log b
  request_among es within b its = by (find (λ (e : Entry). is_take_of b e.step) es) refl
    where
      by : (o : Option Entry) → find (λ (e : Entry). is_take_of b e.step) es ≡ o → request_of es b ≡ request_of log b
      by None is = absurd (found_some (λ (e : Entry). is_take_of b e.step) es its.take its.here its.takes is)
      by (Some e) is =
          ap (λ o. option_and_then (λ (x : Entry). request_in x.outcome) o)
          (is
          ∙ sym (one_take b e (within e (find-Contains (λ (x : Entry). is_take_of b x.step) es e is))
          (found_passes (λ (x : Entry). is_take_of b x.step) es e is)))

  -- where the request is that of a table, and stands before
  asked_among : (es : List Entry) → ((y : Entry) → Contains es y → Contains log y) → (b : ℕ) → HasTake es b
      → (earlier : List Entry) → IsAsked (request_of log) earlier b → IsAsked (request_of log) es b
  asked_among es within b its earlier asked = record {
    request = asked.request;
    before = request_among es within b its ∙ asked.known;
    known = asked.known;
  }

-- Parts of a log in which each Deliver has its request before it

-- an entry that splits a list is one of it
split_here : (es earlier : List Entry) (e : Entry) → IsSplitBy es earlier e → Contains es e
split_here es earlier e split =
    subst (λ (l : List Entry). Contains l e) (sym split.1)
    (Contains-append_right earlier (e ∷ split.0) e (Contains-here e split.0))

-- where all are taken, the bio of a Deliver has its Take
pub take_of_delivered : (es : List Entry) (e : Entry) (b : ℕ) (got : DeviceResult) → AreTaken es es → Contains es e
    → e.step ≡ steps.Deliver b got → HasTake es b
take_of_delivered es e b got taken here is =
    let its : IsTaken es e.step = at_contained (λ (x : Entry). IsTaken es x.step) es e taken here in
    take_of_request es b (subst (λ s. IfSome (delivered_in s) (λ n. IsSome (request_of es n))) is its)

-- what is asked has its Take
take_of_asked : (table : ℕ → Option Request) (es : List Entry) (b : ℕ) → IsAsked table es b → HasTake es b
take_of_asked table es b asked =
    take_of_request es b (subst (λ (o : Option Request). IsSome o) (sym asked.before) refl)

-- the second part, which has the Takes of its Delivers
pub order_behind : (earlier later : List Entry)
    → ((b : ℕ) → count_by (λ (e : Entry). is_take_of b e.step) (earlier ++ later) ≤ 1)
    → InOrder (request_of (earlier ++ later)) (earlier ++ later) → AreTaken later later
    → InOrder (request_of (earlier ++ later)) later
order_behind earlier later once order taken front e b got split is =
    asked_among (earlier ++ later) once front
    (λ y here. Contains-append_right earlier later y (within y here)) b
    (by (Contains-append_cases earlier front its.take its.here)) (earlier ++ front) asked
  where
    log : List Entry
    log = earlier ++ later

    whole : log ≡ (earlier ++ front) ++ e ∷ split.0
    whole = ap (λ (l : List Entry). earlier ++ l) split.1 ∙ sym (append_assoc earlier front (e ∷ split.0))

    asked : IsAsked (request_of log) (earlier ++ front) b
    asked = order (earlier ++ front) e b got (split.0, whole) is

    its : HasTake (earlier ++ front) b
    its = take_of_asked (request_of log) (earlier ++ front) b asked

    own : HasTake later b
    own = take_of_delivered later e b got taken (split_here later front e split) is

    within : (y : Entry) → Contains front y → Contains later y
    within y here =
        subst (λ (l : List Entry). Contains l y) (sym split.1) (Contains-append_left front (e ∷ split.0) y here)

    -- a Take in the first part would be a second one
    by : Contains earlier its.take ⊎ Contains front its.take → HasTake front b
    by (inr here) = record { take = its.take; here = here; takes = its.takes }
    by (inl here) =
        let first = passes_counted (λ (x : Entry). is_take_of b x.step) earlier its.take here its.takes in
        let second = passes_counted (λ (x : Entry). is_take_of b x.step) later own.take own.here own.takes in
        let both = sum_by-append (λ (x : Entry). cond (is_take_of b x.step) 1 0) earlier later in
        absurd (omega (arith, first, second, both, once b))

-- a list of what passes a test is split where the whole list is
record SplitWithin (test : Entry → Bool) (log earlier : List Entry) (e : Entry) : Type 0 where
  front : List Entry
  back : List Entry
  split : log ≡ front ++ e ∷ back
  same : filter test front ≡ earlier

split_within : (test : Entry → Bool) (log earlier : List Entry) (e : Entry) → IsSplitBy (filter test log) earlier e
    → SplitWithin test log earlier e
split_within test [] earlier e split = absurd (none_in earlier e split.0 split.1)
split_within test (x ∷ log) earlier e split =
    by (test x) refl earlier split (λ rest there. split_within test log rest e there)
  where
    by : (c : Bool) → test x ≡ c → (early : List Entry) → IsSplitBy (filter test (x ∷ log)) early e
        → ((rest : List Entry) → IsSplitBy (filter test log) rest e → SplitWithin test log rest e)
        → SplitWithin test (x ∷ log) early e
    by false is early split rest =
        let so : SplitWithin test log early e = rest early (split.0, rw is at split.1) in
        record {
          front = x ∷ so.front;
          back = so.back;
          split = ap (λ (l : List Entry). x ∷ l) so.split;
          same = rw is so.same;
        }
    by true is [] split rest =
        let kept : x ∷ filter test log ≡ e ∷ split.0 = rw is at split.1 in
        let same : x ≡ e = cc in
        record { front = []; back = log; split = ap (λ (y : Entry). y ∷ log) same; same = refl }
    by true is (y ∷ early) split rest =
        let kept : x ∷ filter test log ≡ y ∷ (early ++ e ∷ split.0) = rw is at split.1 in
        let one : x ≡ y = cc in
        let behind : filter test log ≡ early ++ e ∷ split.0 = cc in
        let so : SplitWithin test log early e = rest early (split.0, behind) in
        record {
          front = x ∷ so.front;
          back = so.back;
          split = ap (λ (l : List Entry). x ∷ l) so.split;
          same = rw is (ap (λ (l : List Entry). x ∷ l) so.same ∙ ap (λ (z : Entry). z ∷ early) one);
        }

-- the entries that pass a test, which have the Takes of their Delivers
pub order_within : (test : Entry → Bool) (log : List Entry)
    → ((b : ℕ) → count_by (λ (e : Entry). is_take_of b e.step) log ≤ 1)
    → InOrder (request_of log) log → AreTaken (filter test log) (filter test log)
    → InOrder (request_of log) (filter test log)
order_within test log once order taken earlier e b got split is =
    asked_among log once earlier (λ y here. (within y here).0) b
    (record { take = its.take; here = kept; takes = its.takes })
    so.front asked
  where
    so : SplitWithin test log earlier e
    so = split_within test log earlier e split

    asked : IsAsked (request_of log) so.front b
    asked = order so.front e b got (so.back, so.split) is

    its : HasTake so.front b
    its = take_of_asked (request_of log) so.front b asked

    own : HasTake (filter test log) b
    own = take_of_delivered (filter test log) e b got taken (split_here (filter test log) earlier e split) is

    in_log : (y : Entry) → Contains so.front y → Contains log y
    in_log y here =
        subst (λ (l : List Entry). Contains l y) (sym so.split) (Contains-append_left so.front (e ∷ so.back) y here)

    within : (y : Entry) → Contains earlier y → Contains log y × (test y ≡ true)
    within y here =
        let there = filter-Contains test so.front y (subst (λ (l : List Entry). Contains l y) (sym so.same) here) in
        (in_log y there.0, there.1)

    -- the Take before it is the one that passes
    kept : Contains earlier its.take
    kept =
        let mine = filter-Contains test log own.take own.here in
        let one : own.take ≡ its.take =
        same_take log once b own.take its.take mine.0 own.takes (in_log its.take its.here) its.takes in
        subst (λ (l : List Entry). Contains l its.take) so.same
        (Contains-filter test so.front its.take its.here
        (subst (λ (y : Entry). test y ≡ true) one mine.1))

module _ (plan : Plan) (facts : List (ℕ × ℕ)) (is : MayBegin plan) (fit : FactsFit plan facts) (log : List Entry)
    (legal : Legal (opening plan facts) log) where
  -- each bio is taken once
  pub taken_once : (b : ℕ) → count_by (λ (e : Entry). is_take_of b e.step) log ≤ 1
  taken_once b = legal_logs_complete_requests.taken plan facts is fit log legal b

-- Seats

-- a Take of a bio, by the test
take_is : (b : ℕ) (s : Step) → is_take_of b s ≡ true → (disk : ℕ) × (s ≡ steps.Take disk b)
take_is b (steps.Take disk n) e = (disk, ap (λ k. steps.Take disk k) (eqb-true n b e))
take_is b s e = absurd (let bad : ⊥ = cc in bad)

-- an entry of a list splits it
split_at : (es : List Entry) (e : Entry) → Contains es e → (earlier : List Entry) × IsSplitBy es earlier e
split_at [] e here = absurd (nothing_in e here)
split_at (x ∷ es) e here =
    elim (Contains-cases x e es here) [
      | inl same ↦ ([], (es, ap (λ (y : Entry). y ∷ es) same))
      | inr rest ↦
          let so = split_at es e rest in (x ∷ so.0, (so.1.0, ap (λ (l : List Entry). x ∷ l) so.1.1))
    ]

-- where entries that don't pass deliver nothing, those that pass deliver all
passing_deliver : (table : ℕ → Option Request) (disk : ℕ) (test : Entry → Bool) (es : List Entry)
    → AllByRecursion (λ (e : Entry). test e ≡ false → delivery_in table disk e.step ≡ None) es
    → deliveries_by table disk (filter test es) ≡ deliveries_by table disk es
passing_deliver table disk test [] none = refl
passing_deliver table disk test (e ∷ es) none =
    by (test e) refl none.0 (passing_deliver table disk test es none.1)
  where
    by : (c : Bool) → test e ≡ c → (test e ≡ false → delivery_in table disk e.step ≡ None)
        → deliveries_by table disk (filter test es) ≡ deliveries_by table disk es
        → deliveries_by table disk (filter test (e ∷ es)) ≡ deliveries_by table disk (e ∷ es)
    by true is none rest = rw is (ap (λ ds. cons_option (delivery_in table disk e.step) ds) rest)
    by false is none rest = rw (is, none is) rest

module _ (plan : Plan) (facts : List (ℕ × ℕ)) (is : MayBegin plan) (fit : FactsFit plan facts) (log : List Entry)
    (legal : Legal (opening plan facts) log) (seat_of_disk : ℕ → ℕ) (disk : ℕ) (seats : AreBySeats seat_of_disk log)
  where
    abbrev is_own : Entry → Bool
    is_own e = e.seat == seat_of_disk disk

    -- the entries of the disk's seat
    abbrev mine : List Entry
    mine = filter is_own log

    -- they are in order
    pub mine_in_order : InOrder (request_of log) mine
    mine_in_order =
        order_within is_own log (taken_once plan facts is fit log legal) (log_in_order plan facts is fit log legal)
        (seats.delivers (seat_of_disk disk))

    -- what another seat delivers isn't of the disk
    other_delivers : (e : Entry) → Contains log e → (s : Step) → e.step ≡ s → is_own e ≡ false
        → delivery_in (request_of log) disk s ≡ None
    other_delivers e here (steps.Deliver b got) step other =
        rw asked (rw (ne_eqb asks.request.disk disk apart) refl)
      where
        mates : List Entry
        mates = entries_of_seat e.seat log

        its : HasTake mates b
        its =
            take_of_delivered mates e b got (seats.delivers e.seat)
            (Contains-filter (λ (x : Entry). x.seat == e.seat) log e here (eq-eqb e.seat e.seat refl)) step

        its_own : Contains log its.take × ((its.take.seat == e.seat) ≡ true)
        its_own = filter-Contains (λ (x : Entry). x.seat == e.seat) log its.take its.here

        taken : (d : ℕ) × (its.take.step ≡ steps.Take d b)
        taken = take_is b its.take.step its.takes

        asks : AsksInside (opening plan facts) taken.0 its.take.outcome
        asks =
            let so = split_at log its.take its_own.0 in
            disks_are_asked.inside plan facts is fit log legal so.0 its.take so.1 taken.0 b taken.1

        asked : request_of log b ≡ Some asks.request
        asked =
            ap (λ o. option_and_then (λ (x : Entry). request_in x.outcome) o)
            (one_take log (taken_once plan facts is fit log legal) b its.take its_own.0 its.takes)
            ∙ ap (λ o. request_in o) asks.is

        apart : asks.request.disk ≢ disk
        apart same =
            let seat : its.take.seat ≡ seat_of_disk taken.0 =
            All-contains (λ (x : Entry). (d n : ℕ) → x.step ≡ steps.Take d n → x.seat ≡ seat_of_disk d) log its.take
            seats.takes its_own.0 taken.0 b taken.1 in
            let own : e.seat ≡ seat_of_disk disk =
            sym (eqb-true its.take.seat e.seat its_own.1) ∙ seat
            ∙ ap (λ d. seat_of_disk d) (sym asks.disk_is ∙ same) in
            (let bad : true ≡ false = sym (eq-eqb e.seat (seat_of_disk disk) own) ∙ other in
            (let wrong : ⊥ = cc in wrong))
    other_delivers e here s step other = refl

    -- so the seat's entries deliver all
    pub mine_deliver : deliveries_by (request_of log) disk mine ≡ deliveries log disk
    mine_deliver =
        passing_deliver (request_of log) disk is_own log
        (All-from_contained (λ (e : Entry). is_own e ≡ false → delivery_in (request_of log) disk e.step ≡ None) log
        (λ e here other. other_delivers e here e.step refl other))

-- in each legal log
pub seats_deliver : SeatsDeliver
seats_deliver plan facts is fit log legal seat_of_disk disk seats =
    deliveries_in_order (request_of log) disk (entries_of_seat (seat_of_disk disk) log)
    (mine_in_order plan facts is fit log legal seat_of_disk disk seats)
    ∙ mine_deliver plan facts is fit log legal seat_of_disk disk seats

-- Parts

-- the second part is in order
pub later_in_order : (plan : Plan) (facts : List (ℕ × ℕ)) → MayBegin plan → FactsFit plan facts
    → (earlier later : List Entry) → Legal (opening plan facts) (earlier ++ later) → AreTaken later later
    → InOrder (request_of (earlier ++ later)) later
later_in_order plan facts is fit earlier later legal taken =
    order_behind earlier later (taken_once plan facts is fit (earlier ++ later) legal)
    (log_in_order plan facts is fit (earlier ++ later) legal) taken

-- in each legal log
pub parts_deliver : PartsDeliver
parts_deliver plan facts is fit log legal earlier later disk split taken =
    subst (λ (l : List Entry). deliveries l disk ≡ deliveries earlier disk ++ deliveries later disk) (sym split)
    (filter_map-append (λ (e : Entry). delivery_in table disk e.step) earlier later
    ∙ ap (λ ds. ds ++ deliveries_by table disk later)
    (sym (deliveries_in_order table disk earlier (order_in_front table earlier later (log_in_order plan facts is fit
    (earlier ++ later) whole))))
    ∙ ap (λ ds. deliveries earlier disk ++ ds)
    (sym (deliveries_in_order table disk later (later_in_order plan facts is fit earlier later whole taken))))
  where
    whole : Legal (opening plan facts) (earlier ++ later)
    whole = subst (λ (l : List Entry). Legal (opening plan facts) l) split legal

    table : ℕ → Option Request
    table = request_of (earlier ++ later)

-- what a drive did by the entries of its seat it did by the log
pub seats_serve : SeatsServe
seats_serve plan facts is fit log legal seat_of_disk disk before after seats served =
    along_log log disk before after
    (subst (λ ds. DidBy ds before after) (seats_deliver plan facts is fit log legal seat_of_disk disk seats)
    (by_log own disk before after served))
    (if_some_weaker (λ held. AreTrue before.sector held own disk) (λ held. AreTrue before.sector held log disk)
    (λ held reads. true_by_told (request_of log) before.sector disk held log
    (log_in_order plan facts is fit log legal)
    (subst (λ ds. AreTold before.sector held ds)
    (mine_deliver plan facts is fit log legal seat_of_disk disk seats)
    (told_by_true (request_of log) before.sector disk held own
    (mine_in_order plan facts is fit log legal seat_of_disk disk seats) reads))) before.held served.reads)
  where
    own : List Entry
    own = entries_of_seat (seat_of_disk disk) log

-- a drive that served both parts served the log
pub parts_serve : PartsServe
parts_serve plan facts is fit log legal earlier later disk before mid after split taken first second =
    along_log log disk before after
    (subst (λ ds. DidBy ds before after)
    (sym (parts_deliver plan facts is fit log legal earlier later disk split taken))
    (did_both (deliveries earlier disk) (deliveries later disk) before mid after
    (by_log earlier disk before mid first) (by_log later disk mid after second)))
    (subst (λ (l : List Entry). IfSome before.held (λ held. AreTrue before.sector held l disk)) (sym split)
    (reads before.held first.reads
    (subst (λ s. IfSome (option_map (λ held. contents before.sector held earlier disk) before.held)
    (λ held. AreTrue s held later disk)) first.sector
    (subst (λ o. IfSome o (λ held. AreTrue mid.sector held later disk)) first.held second.reads))))
  where
    whole : Legal (opening plan facts) (earlier ++ later)
    whole = subst (λ (l : List Entry). Legal (opening plan facts) l) split legal

    table : ℕ → Option Request
    table = request_of (earlier ++ later)

    order : InOrder table (earlier ++ later)
    order = log_in_order plan facts is fit (earlier ++ later) whole

    front : InOrder table earlier
    front = order_in_front table earlier later order

    reads : (o : Option (List (List ℕ))) → IfSome o (λ held. AreTrue before.sector held earlier disk)
        → IfSome (option_map (λ held. contents before.sector held earlier disk) o)
        (λ held. AreTrue before.sector held later disk)
        → IfSome o (λ held. AreTrue before.sector held (earlier ++ later) disk)
    reads None so_far then = tt
    reads (Some held) so_far then =
        true_by_told table before.sector disk held (earlier ++ later) order
        (subst (λ ds. AreTold before.sector held ds)
        (sym (filter_map-append (λ (e : Entry). delivery_in table disk e.step) earlier later))
        (told_by_both before.sector held (deliveries_by table disk earlier) (deliveries_by table disk later)
        (told_by_true table before.sector disk held earlier front so_far)
        (subst (λ h. AreTold before.sector h (deliveries_by table disk later))
        (holds_contents table before.sector disk held earlier front)
        (told_by_true table before.sector disk (contents before.sector held earlier disk) later
        (later_in_order plan facts is fit earlier later whole taken) then))))
