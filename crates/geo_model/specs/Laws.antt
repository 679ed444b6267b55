-- The headline doesn't rest on this file: it states the laws by which it is proved.
-- The laws of the definitions that everything else rests on.
use Rattle.std.specs.Prelude.{◌≡◌, ℕ, ◌+◌, ◌<◌, ◌≤◌, Bool, true, false, ◌&&◌, ◌||◌, List, [], ◌∷◌, ◌++◌, length, map, sum, Option, Some, None, Ok, is_some, IsSome, IsSomeAnd, IsTrue, All, Contains}
use Rattle.std.specs.List.{AllByRecursion, list_any}
use Rattle.geo_base.specs.declared.request.Counts.{Counts}
use Rattle.geo_base.specs.declared.limits.TheConstants.{MAX_LOG_ENTRIES}
use Rattle.geo_model.specs.declared.command.Command.TheVariants as commands
use Rattle.geo_model.specs.declared.command.LineCommand.{LineCommand}
use Rattle.geo_model.specs.declared.step.BioResult.{BioResult}
use Rattle.geo_model.specs.declared.step.DeviceResult.{DeviceResult}
use Rattle.geo_model.specs.declared.step.Entry.{Entry}
use Rattle.geo_model.specs.declared.step.Event.{Event}
use Rattle.geo_model.specs.declared.step.Event.TheVariants as events
use Rattle.geo_model.specs.declared.step.Outcome.TheVariants as outcomes
use Rattle.geo_model.specs.declared.step.Reply.TheVariants as replies
use Rattle.geo_model.specs.declared.step.Step.{Step}
use Rattle.geo_model.specs.declared.step.Step.TheVariants as steps
use Rattle.geo_model.specs.declared.step.WashWork.{WashWork}
use Rattle.geo_model.specs.declared.step.WashWork.TheVariants as washes
use Rattle.geo_model.specs.Words.{largest, is_flush}
use Rattle.geo_model.specs.Topology.{Topology, Geom, Provider, provider_at, provider_with_geom, attached_to}
use Rattle.geo_model.specs.Rank.{rank, geoms_under, Ranked}
use Rattle.geo_model.specs.Demand.{have, want, sum_counts}
use Rattle.geo_model.specs.World.{Config, World, Plan, Bio, bio_at, is_busy, Nothing, Disk, Mbr, Ebr, Label, Concat, Stripe, Nop}
use Rattle.geo_model.specs.Place.{place, pieces, slice_at, part_at, disk_of, PieceIsPlaced, Follow}
use Rattle.geo_model.specs.Bios.{piece_targets, error_of_result, is_fitting, start, start_by, way_of}
use Rattle.geo_model.specs.Freeing.{wash_work}
use Rattle.geo_model.specs.Opening.{opening}
use Rattle.geo_model.specs.Plans.{MayBegin, FactsFit}
use Rattle.geo_model.specs.Step.{step, is_enabled}
use Rattle.geo_model.specs.Log.{Legal, Moment, replay, world_after, after_entry, owed, is_full}
use Rattle.geo_model.specs.Results.{result_of}
use Rattle.geo_model.specs.Errors.{errors_of, first_of}
use Rattle.geo_model.specs.Steady.{Steady, OffersOnlyLiving}
use Rattle.geo_model.specs.Fitting.{Fitting, Firm}
use Rattle.geo_model.specs.Order.{Rest, measure, IsLess}
use Rattle.geo_model.specs.Passes.{entries_of_seat}
use Rattle.geo_model.specs.FixedOrder.{StepOrder, fixed_order}
use Rattle.geo_model.specs.History.{KeepsHistory, EndsAtRest, RequestsAreComplete, AtEachEntry, next_command}

-- a fact about each legal log from an opening, by whatever plan a mesh can begin with
abbrev pub OfEachLegalLog : (World → List Entry → Type 0) → Type 0
OfEachLegalLog P =
    (plan : Plan) (facts : List (ℕ × ℕ)) → MayBegin plan → FactsFit plan facts
    → (log : List Entry) → Legal (opening plan facts) log → P (opening plan facts) log

-- by any seats in any order: the mesh stays sound, opens are answered, requests complete once, only what is idle goes
abbrev pub LegalLogsKeepAll : Type 0
LegalLogsKeepAll = OfEachLegalLog KeepsHistory

-- at rest each accepted request is complete
abbrev pub RestIsComplete : Type 0
RestIsComplete = OfEachLegalLog (λ opened log. EndsAtRest opened log → RequestsAreComplete opened log)

-- no bio is Busy
abbrev pub NoneBusy : World → Type 0
NoneBusy w = All (λ x. is_busy x.phase ≡ false) w.bios

-- the world after a step of a seat
abbrev pub world_by : World → ℕ → Step → World
world_by w seat s = world_after w (step w seat s)

-- a Take lowers the measure together with any Deliver of the seat that fits; another step lowers it alone
abbrev pub Lowers : World → ℕ → Step → Type 0
Lowers w seat (steps.Take disk b) =
    (got : DeviceResult) → IsTrue (is_enabled (world_by w seat (steps.Take disk b)) seat (steps.Deliver b got))
    → IsLess (measure (world_by (world_by w seat (steps.Take disk b)) seat (steps.Deliver b got))) (measure w)
Lowers w seat s = IsLess (measure (world_by w seat s)) (measure w)

-- what each step keeps, by any seat
abbrev pub StepsStayFirm : Type 0
StepsStayFirm = (w : World) (seat : ℕ) (s : Step) → Firm w → Firm (world_by w seat s)

-- whether the work is to destroy a consumer
abbrev pub is_of_consumer : Option WashWork → Bool
is_of_consumer (Some (washes.Consumer c)) = true
is_of_consumer _ = false

-- whether the event offers a provider for taste, at once or after a growth
abbrev pub is_offer : Event → Bool
is_offer (events.NewProvider p) = true
is_offer (events.Resize p) = true
is_offer _ = false

-- whether a step washes a consumer while a taste is under way or to come: by it the rank of the tasted provider's
-- geom can fall, and what the taste may cost rises
abbrev pub is_early_wash : World → Step → Bool
is_early_wash w steps.Wash = is_of_consumer (wash_work w) && (is_some w.taste || list_any is_offer w.events)
is_early_wash w s = false

-- each other enabled step lowers the measure
abbrev pub StepsLower : Type 0
StepsLower =
    (w : World) (seat : ℕ) (s : Step)
    → Firm w → IsTrue (is_enabled w seat s) → is_early_wash w s ≡ false → Lowers w seat s

-- what else holds at every moment
abbrev pub LegalLogsStaySteady : Type 0
LegalLogsStaySteady = OfEachLegalLog (λ opened log. Steady (replay opened log))

abbrev pub LegalLogsStayFitting : Type 0
LegalLogsStayFitting = OfEachLegalLog (λ opened log. Fitting (replay opened log))

-- each step offers for taste only what lives
abbrev pub LegalLogsOfferOnlyLiving : Type 0
LegalLogsOfferOnlyLiving =
    OfEachLegalLog (λ opened log. AtEachEntry opened log (λ w e. OffersOnlyLiving w (after_entry w e)))

-- where a legal log leads, an order gives an enabled step that lowers the measure, unless all is at rest
abbrev pub OrderGoesOn : StepOrder → Type 0
OrderGoesOn order =
    OfEachLegalLog (λ opened log.
    NoneBusy (replay opened log) → (Rest (replay opened log) → ⊥)
    → IsSomeAnd (order (replay opened log) log) (λ s.
    IsTrue (is_enabled (replay opened log) 0 s) × Lowers (replay opened log) 0 s))

-- at rest it gives none
abbrev pub OrderEnds : StepOrder → Type 0
OrderEnds order = (w : World) (log : List Entry) → Rest w → order w log ≡ None

-- so does the fixed order
abbrev pub PickGoesOn : Type 0
PickGoesOn = OrderGoesOn fixed_order

abbrev pub PickEnds : Type 0
PickEnds = OrderEnds fixed_order

-- where legal logs lead, no piece of a request that can start is lost: each has a consumer through which it goes down
abbrev pub NoPieceIsLost : Type 0
NoPieceIsLost =
    OfEachLegalLog (λ opened log.
    (x : Bio) (p : Provider) (g : Geom Config) → Contains (replay opened log).bios x
    → provider_with_geom (replay opened log).topology x.target ≡ Some (p, g)
    → p.errored ≡ false → disk_of g.config ≡ None → is_flush x.cmd ≡ false
    → map (λ target. target.piece) (piece_targets g.config p x) ≡ pieces g.config p x.offset x.len)

-- where everything owed has its place, a Deliver that is enabled is never refused for want of a place
abbrev pub DeliversAreNeverFull : Type 0
DeliversAreNeverFull =
    (log : List Entry) (w : World) (seat b : ℕ) (got : DeviceResult)
    → length log + owed w ≤ MAX_LOG_ENTRIES → is_full log w seat (steps.Deliver b got) ≡ false

-- a Deliver that fits is enabled where the last entry of its seat is the Take of the bio, whatever others did since
abbrev pub TakenCanBeDelivered : Type 0
TakenCanBeDelivered =
    OfEachLegalLog (λ opened log.
    (seat disk b : ℕ) (start : List Entry) (e : Entry) (x : Bio) (got : DeviceResult)
    → entries_of_seat seat log ≡ start ++ e ∷ [] → e.step ≡ steps.Take disk b
    → bio_at (replay opened log) b ≡ Some x → IsTrue (is_fitting (replay opened log) x got)
    → IsTrue (is_enabled (replay opened log) seat (steps.Deliver b got)))

-- the step is a close that is answered ok
pub record ClosesOk (w : World) (seat actor : ℕ) : Type 0 where
  pub command : LineCommand
  pub is_next : next_command w actor ≡ Some command
  pub name : List ℕ
  pub is_close : command.command ≡ commands.Close name
  pub after : World
  pub is_ok : step w seat (steps.Go actor) ≡ Ok (after, outcomes.Replied command.line replies.Ok)

-- and so is a close that is answered ok
abbrev pub ClosesAreNeverFull : Type 0
ClosesAreNeverFull =
    (log : List Entry) (w : World) (seat actor : ℕ)
    → ClosesOk w seat actor → length log + owed w ≤ MAX_LOG_ENTRIES → is_full log w seat (steps.Go actor) ≡ false

-- the error of a finished bio is the first that it met, and it has none where it met none
abbrev pub ErrorsAreFirst : Type 0
ErrorsAreFirst =
    (history : List Moment) (b : ℕ) (r : BioResult)
    → result_of history b ≡ Some r → error_of_result r ≡ first_of (errors_of history b)

-- each provider is the one that its number leads to, which holds where numbers differ
abbrev pub NumbersLead : Topology Config → Type 0
NumbersLead t = AllByRecursion (λ (x : Provider). provider_at t x.number ≡ Some x) t.providers

-- the counts of a provider are the sum over the consumers attached to it
abbrev pub CountsAreSums : Type 0
CountsAreSums =
    (granted : ℕ → Counts) (t : Topology Config) → Ranked t → NumbersLead t
    → (p : ℕ) (x : Provider) → provider_at t p ≡ Some x
    → have granted t p ≡ sum_counts (map (want granted t) (attached_to t p))

-- the rank of a geom is one more than the highest rank below it, and 1 where nothing is below
abbrev pub RanksAreHighest : Type 0
RanksAreHighest = (t : Topology Config) → Ranked t → (g : ℕ) → rank t g ≡ 1 + largest (map (rank t) (geoms_under t g))

-- a log in two parts: its world, and its legality
abbrev pub WorldsJoin : Type 0
WorldsJoin = (w : World) (xs ys : List Entry) → replay w (xs ++ ys) ≡ replay (replay w xs) ys

abbrev pub LegalJoins : Type 0
LegalJoins = (w : World) (xs ys : List Entry) → Legal w xs → Legal (replay w xs) ys → Legal w (xs ++ ys)

abbrev pub LegalParts : Type 0
LegalParts = (w : World) (xs ys : List Entry) → Legal w (xs ++ ys) → Legal w xs × Legal (replay w xs) ys

-- each byte of each piece of a request lies where the address map says
abbrev pub PiecesArePlaced : Type 0
PiecesArePlaced =
    (config : Config) (x : Provider) (o len : ℕ)
    → AllByRecursion (PieceIsPlaced (place config x.name) o) (pieces config x o len)

-- a range is one of the address map
abbrev pub HasRange : Config → Provider → ℕ → ℕ → Type 0
HasRange Nothing x o len = ⊥
HasRange (Disk disk) x o len = ⊥
HasRange (Mbr below slices) x o len = IsSome (slice_at slices x.name) × (o + len ≤ x.size)
HasRange (Ebr below parts) x o len = IsSome (part_at parts x.name) × (o + len ≤ x.size)
HasRange (Label below) x o len = o + len ≤ x.size
HasRange (Concat id places sizes) x o len = o + len ≤ sum sizes
HasRange (Stripe id stripe places sizes) x o len = 0 < stripe
HasRange (Nop below offset fail) x o len = o + len ≤ x.size

-- the pieces of a request follow each other from its beginning to its end
abbrev pub PiecesFollow : Type 0
PiecesFollow =
    (config : Config) (x : Provider) (o len : ℕ) → 0 < len → HasRange config x o len
    → Follow 0 len (pieces config x o len)

-- what a start does, the graph tells, and the bios change by that alone
abbrev pub StartsAreInParts : Type 0
StartsAreInParts = (w : World) (x : Bio) → start w x ≡ start_by w x (way_of w.topology x)
