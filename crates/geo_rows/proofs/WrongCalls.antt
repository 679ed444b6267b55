-- The programs that keep failures or calls of the outside to themselves are refused.
use Rattle.std.specs.Prelude.{◌≡◌, ◌≢◌, ℕ, true, false, List, ◌∷◌, ◌++◌, Option, Some, None, IsSome, IfSome, IfNone, All, filter, map, zip, if◌then◌else◌}
use Rattle.std.specs.List.{enumerate_from, list_any}
use Rattle.std.proofs.Common.{sym, ◌∙◌, ap, append_assoc, subst, arith}
use Rattle.std.proofs.lemmas.List.{append_cancel_left}
use Rattle.geo_io.specs.Counts.{FailedAtLast}
use Rattle.geo_disk.specs.Counts.{counted_if, counted_many}
use Rattle.geo_disk.specs.declared.shelf.ShelfCall.{ShelfCall}
use Rattle.geo_disk.specs.declared.shelf.ShelfCall.TheVariants as shelf_calls
use Rattle.geo_disk.specs.declared.shelf.TakeAnswer.{TakeAnswer}
use Rattle.geo_disk.specs.declared.shelf.TakeAnswer.TheVariants as answers
use Rattle.geo_model.specs.declared.command.DiskDecl.{DiskDecl}
use Rattle.geo_model.specs.declared.step.Entry.{Entry}
use Rattle.geo_model.specs.World.{Plan}
use Rattle.geo_model.specs.Words.{same_name}
use Rattle.geo_model.specs.Script.{IsScript}
use Rattle.geo_headline.specs.Modes.{Mode, StepMode}
use Rattle.geo_headline.specs.Outside.{ShelfView, calls_logged, failures_of, gives_of, is_shelf, names_of_shelf, takes_of, DisksAreKept, HasFactSectors, HoldsWhatIsLogged, IsDiskKept, IsShelf, PlannedDisk, planned_disk}
use Rattle.geo_headline.specs.Endings.{Call, CauseOf, Ending, Reported, ReadFault, Answered, blamed_by, status_of, script_of}
use Rattle.geo_headline.specs.Headline.{KeepsAll, NoneAsked, TakesAreTold}
use Rattle.geo_model.specs.declared.command.DiskKind.{DiskKind}
use Rattle.geo_model.specs.declared.command.DiskKind.TheVariants as disk_kinds
use Rattle.geo_rows.specs.WrongPrograms.{IsRefused, AsksInSecret, AsksOtherwise, GivesAgain, HidesDiskFault, HidesReadFault, HidesWriteFault, InventsSize, ReadsOn, ReportsDisk, TakesAgain, TakesAnotherFirst, WritesOn}
use Rattle.geo_rows.proofs.WrongPrograms.{answered, ends}
use Rattle.geo_rows.proofs.WrongDisks.{by_report}

pub hides_write-refused : IsRefused HidesWriteFault
hides_write-refused call mode plan ending wrong kept = wrong.1 (kept.texts.streams.writes wrong.0)

pub hides_read-refused : IsRefused HidesReadFault
hides_read-refused call mode plan ending wrong kept =
    wrong.2 (kept.texts.streams.reads (λ e. wrong.0 ((kept.texts.prints.whole wrong.1).status ∙ ap status_of e)))

pub writes_on-refused : IsRefused WritesOn
writes_on-refused call mode plan ending wrong kept = wrong.1 (kept.texts.prints.cut_off wrong.0).fault

-- a read fault is told where one read failed, the last
one_read : (call : Call) (mode : Mode) (plan : Plan) (ending : Ending) → status_of ending ≡ 3
    → CauseOf call mode plan ending
    → FailedAtLast call.before.source.faults call.after.source.faults call.after.source.failed
one_read call mode plan ReadFault s cause = cause.2
one_read call mode plan (Answered found) s cause =
    answered 3 found s (λ e. omega (arith, e)) (λ e. omega (arith, e))
one_read call mode plan _ s cause = absurd (omega (arith, s))

pub reads_on-refused : IsRefused ReadsOn
reads_on-refused call mode plan ending wrong kept =
    wrong.1
    (one_read call mode plan ending (ends 3 call mode plan ending kept (λ e. omega (arith, e)) wrong.0)
    kept.ends.cause)

pub gives_again-refused : IsRefused GivesAgain
gives_again-refused call mode plan ending wrong kept =
    wrong.failed (kept.outside.calls.gives wrong.name
    ∙ ap (λ (names : List (List ℕ)).
    counted_if (list_any (same_name wrong.name) names) (call.before.shelf.give_faults wrong.name))
    wrong.all_back)

-- at status 0 no take failed
no_take : (ending : Ending) (before after : ShelfView) (name : List ℕ) → status_of ending ≡ 0
    → TakesAreTold (blamed_by ending) before after → after.take_faults name ≡ before.take_faults name
no_take Reported before after name s told = told name
no_take (Answered found) before after name s told = told name
no_take _ before after name s told = absurd (omega (arith, s))

pub takes_again-refused : IsRefused TakesAgain
takes_again-refused call mode plan ending wrong kept =
    wrong.failed (no_take ending call.before.shelf call.after.shelf wrong.name
    (ends 0 call mode plan ending kept (λ e. omega (arith, e)) wrong.status) kept.outside.calls.takes)

pub asks_in_secret-refused : IsRefused AsksInSecret
asks_in_secret-refused call mode plan ending wrong kept =
    let none : NoneAsked call.before.shelf call.after.shelf =
    subst (λ (log : Option (List Entry)). IfNone log (NoneAsked call.before.shelf call.after.shelf)) wrong.no_log
    kept.outside.unasked in
    wrong.asked (none wrong.name)

-- Of the first disk

-- the disks of the plan, where the call reports one
first_disk : (call : Call) (mode : Mode) (plan : Plan) (ending : Ending) (disk : DiskDecl)
    → (reports : ReportsDisk call disk)
    → KeepsAll call mode plan ending → plan.disks ≡ disk ∷ reports.rest
first_disk call mode plan ending disk reports kept =
    let has_log =
    by_report call mode plan ending (ends 0 call mode plan ending kept (λ e. omega (arith, e)) reports.status)
    reports.words kept in
    let as_step : StepMode ≡ mode = kept.texts.read_as.mode_is StepMode reports.words in
    let read : IsScript (script_of mode call.text) plan = (kept.ends.is_opened has_log).parsed.script in
    let good : IsScript (script_of StepMode call.text) plan =
    subst (λ m. IsScript (script_of m call.text) plan) (sym as_step) read in
    reports.text plan good

-- the log of such a call
log_of_first : (call : Call) (mode : Mode) (plan : Plan) (ending : Ending) (disk : DiskDecl)
    → (reports : ReportsDisk call disk)
    → KeepsAll call mode plan ending → IsSome call.log
log_of_first call mode plan ending disk reports kept =
    by_report call mode plan ending (ends 0 call mode plan ending kept (λ e. omega (arith, e)) reports.status)
    reports.words kept

-- it holds and was asked what the log says
first_kept : (plan : Plan) (disk : DiskDecl) (rest : List DiskDecl) (before after : ShelfView) (log : List Entry)
    → plan.disks ≡ disk ∷ rest → DisksAreKept plan before after log → IsShelf disk.kind
    → HoldsWhatIsLogged before after log (record { number = 0; decl = disk })
first_kept plan disk rest before after log e all is =
    let moved : All (λ (d : PlannedDisk). IsDiskKept before after log d d.decl.kind)
    (map planned_disk (enumerate_from 0 (disk ∷ rest))) =
    subst (λ (ds : List DiskDecl). All (λ (d : PlannedDisk). IsDiskKept before after log d d.decl.kind)
    (map planned_disk (enumerate_from 0 ds))) e all in
    by disk.kind is (moved 0 (record { number = 0; decl = disk }) (omega arith))
  where
    by : (kind : DiskKind) → IsShelf kind → IsDiskKept before after log (record { number = 0; decl = disk }) kind
        → HoldsWhatIsLogged before after log (record { number = 0; decl = disk })
    by disk_kinds.Ram s h = absurd (let bad : false ≡ true = s in cc)
    by disk_kinds.Shelf s h = h

otherwise : (call : Call) (mode : Mode) (plan : Plan) (ending : Ending) (wrong : AsksOtherwise call)
    → KeepsAll call mode plan ending → (log : Option (List Entry)) → IsSome log
    → IfSome log (DisksAreKept plan call.before.shelf call.after.shelf)
    → IfSome log (λ l. call.after.shelf.asked_of wrong.disk.name
    ≢ call.before.shelf.asked_of wrong.disk.name ++ calls_logged l 0) → ⊥
otherwise call mode plan ending wrong kept None some disks other = let bad : ⊥ = cc in bad
otherwise call mode plan ending wrong kept (Some l) some disks other =
    other (first_kept plan wrong.disk wrong.reports.rest call.before.shelf call.after.shelf l
    (first_disk call mode plan ending wrong.disk wrong.reports kept) disks wrong.reports.of_shelf).asked

pub asks_otherwise-refused : IsRefused AsksOtherwise
asks_otherwise-refused call mode plan ending wrong kept =
    otherwise call mode plan ending wrong kept call.log
    (log_of_first call mode plan ending wrong.disk wrong.reports kept) kept.outside.disks wrong.otherwise

hidden : (call : Call) (mode : Mode) (plan : Plan) (ending : Ending) (wrong : HidesDiskFault call)
    → KeepsAll call mode plan ending → (log : Option (List Entry)) → IsSome log
    → IfSome log (DisksAreKept plan call.before.shelf call.after.shelf) → IfSome log (λ l. failures_of l 0 ≡ 0) → ⊥
hidden call mode plan ending wrong kept None some disks none = let bad : ⊥ = cc in bad
hidden call mode plan ending wrong kept (Some l) some disks none =
    wrong.failed ((first_kept plan wrong.disk wrong.reports.rest call.before.shelf call.after.shelf l
    (first_disk call mode plan ending wrong.disk wrong.reports kept) disks wrong.reports.of_shelf).failures
    ∙ ap (λ (k : ℕ). counted_many k (call.before.shelf.faults_of wrong.disk.name)) none)

pub hides_disk_fault-refused : IsRefused HidesDiskFault
hides_disk_fault-refused call mode plan ending wrong kept =
    hidden call mode plan ending wrong kept call.log
    (log_of_first call mode plan ending wrong.disk wrong.reports kept) kept.outside.disks wrong.none_told

pub invents_size-refused : IsRefused InventsSize
invents_size-refused call mode plan ending wrong kept =
    let sizes : All (HasFactSectors call.after.shelf) (zip plan.disks call.facts) =
    kept.outside.sizes (log_of_first call mode plan ending wrong.disk wrong.reports kept) in
    let disks : plan.disks ≡ wrong.disk ∷ wrong.reports.rest =
    first_disk call mode plan ending wrong.disk wrong.reports kept in
    let moved : All (HasFactSectors call.after.shelf)
    ((wrong.disk, (wrong.bytes, wrong.sectors)) ∷ zip wrong.reports.rest wrong.rest) =
    rw (disks, wrong.facts) at sizes in
    wrong.other (moved 0 (wrong.disk, (wrong.bytes, wrong.sectors)) (omega arith) wrong.reports.of_shelf)

-- where the first name that was had is this one, so is that of the first take
first_take : (start calls rest : List ShelfCall) (first other : List ℕ) (had more : List (List ℕ))
    (answer : TakeAnswer) (misses : List ShelfCall)
    → had ≡ first ∷ more → calls ≡ start ++ takes_of answers.Disk had ++ misses ++ gives_of had
    → calls ≡ start ++ shelf_calls.Take other answer ∷ rest → other ≡ first
first_take start calls rest first other had more answer misses e is told =
    let takes : List ShelfCall = takes_of answers.Disk (first ∷ more) in
    let moved : calls ≡ start ++ takes ++ misses ++ gives_of (first ∷ more) =
    subst (λ (ns : List (List ℕ)). calls ≡ start ++ takes_of answers.Disk ns ++ misses ++ gives_of ns) e is in
    let both : shelf_calls.Take other answer ∷ rest ≡ takes ++ misses ++ gives_of (first ∷ more) =
    append_cancel_left start (shelf_calls.Take other answer ∷ rest) (takes ++ misses ++ gives_of (first ∷ more))
    (sym told ∙ moved ∙ ap (λ (cs : List ShelfCall). cs ++ gives_of (first ∷ more)) (append_assoc start takes misses)
    ∙ append_assoc start (takes ++ misses) (gives_of (first ∷ more))) in
    let same : other ≡ first = cc in same

-- the names of the shelf begin with that of the first disk, where it is of the shelf
first_name : (disk : DiskDecl) (rest : List DiskDecl) → IsShelf disk.kind
    → names_of_shelf (disk ∷ rest) ≡ disk.name ∷ names_of_shelf rest
first_name disk rest is =
    ap (λ t. map (λ (d : DiskDecl). d.name)
    (if t then disk ∷ filter (λ (d : DiskDecl). is_shelf d.kind) rest
    else filter (λ (d : DiskDecl). is_shelf d.kind) rest)) is

pub takes_another_first-refused : IsRefused TakesAnotherFirst
takes_another_first-refused call mode plan ending wrong kept =
    let order = kept.outside.in_order in
    let had : order.had ≡ wrong.disk.name ∷ names_of_shelf wrong.reports.rest =
    order.all (log_of_first call mode plan ending wrong.disk wrong.reports kept)
    ∙ ap (λ (ds : List DiskDecl). names_of_shelf ds) (first_disk call mode plan ending wrong.disk wrong.reports kept)
    ∙ first_name wrong.disk wrong.reports.rest wrong.reports.of_shelf in
    wrong.other
    (first_take call.before.shelf.calls call.after.shelf.calls wrong.rest wrong.disk.name wrong.name order.had
    (names_of_shelf wrong.reports.rest) wrong.answer (takes_of order.answer order.missed) had order.calls wrong.calls)

-- what `hidden_calls_are_refused` says
pub ruleset hidden_calls_are_refused = (
  hides_write-refused,
  hides_read-refused,
  writes_on-refused,
  reads_on-refused,
  gives_again-refused,
  takes_again-refused,
  asks_in_secret-refused,
  asks_otherwise-refused,
  hides_disk_fault-refused,
  invents_size-refused,
  takes_another_first-refused,
)
