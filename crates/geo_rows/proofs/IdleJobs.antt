-- A run of threads in which no job made a step is refused, and an event worker that doesn't look.
use Rattle.std.specs.Prelude.{◌≡◌, ◌≢◌, ℕ, true, false, List, [], ◌∷◌, ◌++◌, length, Option, Some, None, Ok, IsSome, IfSome, All, refl, codes}
use Rattle.std.proofs.Common.{sym, ◌∙◌, subst, arith, ap}
use Rattle.std.proofs.lemmas.List.{append-nil, length-append, nil_from_length}
use Rattle.geo_model.specs.declared.step.Step.TheVariants as steps
use Rattle.geo_model.specs.declared.step.Entry.{Entry}
use Rattle.geo_model.specs.declared.command.DiskKind.TheVariants.{Ram}
use Rattle.geo_model.specs.World.{Plan, World}
use Rattle.geo_model.specs.Script.{script}
use Rattle.geo_model.specs.Opening.{opening}
use Rattle.geo_model.specs.Log.{replay, IsPrefixOf}
use Rattle.geo_model.specs.Step.{step, event, is_enabled}
use Rattle.geo_model.specs.WorldEvents.{do_event}
use Rattle.geo_headline.specs.Modes.{Mode, RunMode, GenMode, WatchMode, TraceMode, VerifyMode, StartsThreads}
use Rattle.geo_model.specs.FixedOrder.{StepOrder, fixed_order, JobsEndedIdle, EndedIdle, WasIdle, event_seat, IsOfItsJob}
use Rattle.geo_headline.specs.Endings.{Call, Ending, Reported, ReportedButFault, Answered, status_of, script_of, IsWhole, HasLog}
use Rattle.geo_headline.specs.Headline.{KeepsAll, FollowsMode, FollowsRun}
use Rattle.geo_rows.specs.WrongPrograms.{IsRefused, LeavesAllToTheDrain, IdlesAtEvent}
use Rattle.geo_rows.proofs.WrongPrograms.{answers_verify, ends}

-- one disk that stands at the opening
abbrev one_disk_plan : Plan
one_disk_plan =
    record {
      disks = record { kind = Ram; name = codes "md0"; sector = 512; sectors = 4; later = false } ∷ [];
      actors = [];
      commands = [];
    }

script-is : script (codes "ram md0 512 4") ≡ Ok one_disk_plan
unfolding script
script-is = refl

event-due : is_enabled (opening one_disk_plan ((512, 4) ∷ [])) 1 steps.Event ≡ true
unfolding opening step event do_event
event-due = refl

whole : (call : Call) (mode : Mode) (plan : Plan) (ending : Ending) → status_of ending ≡ 0 → StartsThreads mode
    → KeepsAll call mode plan ending → IsWhole ending
whole call mode plan Reported s threads kept = tt
whole call mode plan (ReportedButFault name) s threads kept = tt
whole call mode plan (Answered found) s threads kept =
    let no : StartsThreads VerifyMode = subst StartsThreads (sym (answers_verify call mode plan found kept)) threads in
    let bad : ⊥ = cc in absurd bad
whole call mode plan _ s threads kept = absurd (omega (arith, s))

at_nothing : (seen : List Entry) → IsPrefixOf seen []
    → is_enabled (replay (opening one_disk_plan ((512, 4) ∷ [])) seen) 1 steps.Event ≡ false → ⊥
at_nothing [] pre idle = let e : true ≡ false = sym event-due ∙ idle in let no : ⊥ = cc in no
at_nothing (x ∷ xs) pre idle = let y : [] ≡ x ∷ (xs ++ pre.0) = pre.1 in let no : ⊥ = cc in no

not-idle : EndedIdle (opening one_disk_plan ((512, 4) ∷ [])) [] (event_seat one_disk_plan) steps.Event → ⊥
not-idle idle = at_nothing idle.0 idle.1 idle.3

logged : (ending : Ending) (log : Option (List Entry)) → IsWhole ending → HasLog ending log → IsSome log
logged Reported log w h = h
logged (ReportedButFault name) log w h = h
logged _ log w h = elim w [ ]

-- a log of seat 0 alone has no entry of a job in front
none-of-jobs : (plan : Plan) (threads rest : List Entry) → All (λ e. e.seat ≡ 0) (threads ++ rest)
    → All (λ e. (e.seat ≢ 0) × IsOfItsJob plan e.seat e.step) threads → threads ≡ []
none-of-jobs plan [] rest zero own = refl
none-of-jobs plan (e ∷ threads) rest zero own = absurd ((own 0 e (omega arith)).0 (zero 0 e (omega arith)))

by_jobs : (threads rest : List Entry) → All (λ e. e.seat ≡ 0) (threads ++ rest)
    → All (λ e. (e.seat ≢ 0) × IsOfItsJob one_disk_plan e.seat e.step) threads
    → JobsEndedIdle one_disk_plan (opening one_disk_plan ((512, 4) ∷ [])) threads rest → ⊥
by_jobs threads rest zero own idle =
    not-idle (subst (λ t. EndedIdle (opening one_disk_plan ((512, 4) ∷ [])) t (event_seat one_disk_plan) steps.Event)
    (none-of-jobs one_disk_plan threads rest zero own) idle.event)

-- a log of threads is the jobs' and what was left
by_threads : (order : StepOrder) (ending : Ending) (log : List Entry) → IsWhole ending → All (λ e. e.seat ≡ 0) log
    → FollowsRun order one_disk_plan (opening one_disk_plan ((512, 4) ∷ [])) ending log → ⊥
by_threads order ending log w zero follows =
    by_jobs follows.threads follows.rest (subst (λ l. All (λ e. e.seat ≡ 0) l) follows.parts zero)
    follows.jobs.own_kind (follows.idle w)

by_mode : (mode : Mode) (ending : Ending) (log : List Entry) → StartsThreads mode → IsWhole ending
    → All (λ e. e.seat ≡ 0) log
    → FollowsMode mode one_disk_plan (opening one_disk_plan ((512, 4) ∷ [])) ending log → ⊥
by_mode RunMode ending log threads w zero follows = by_threads fixed_order ending log w zero follows
by_mode WatchMode ending log threads w zero follows = by_threads fixed_order ending log w zero follows
by_mode TraceMode ending log threads w zero follows = by_threads fixed_order ending log w zero follows
by_mode _ ending log threads w zero follows = let no : ⊥ = cc in no

by_log : (mode : Mode) (ending : Ending) (log : Option (List Entry)) → StartsThreads mode → IsWhole ending
    → IsSome log → IfSome log (λ l. All (λ e. e.seat ≡ 0) l)
    → IfSome log (FollowsMode mode one_disk_plan (opening one_disk_plan ((512, 4) ∷ [])) ending) → ⊥
by_log mode ending None threads w some zero order = let e : false ≡ true = some in let no : ⊥ = cc in no
by_log mode ending (Some log) threads w some zero order = by_mode mode ending log threads w zero order

-- with threads the text is the script
text_is : (mode : Mode) (text : List ℕ) → StartsThreads mode → script_of mode text ≡ text
text_is (GenMode start count) text threads = let no : ⊥ = cc in absurd no
text_is VerifyMode text threads = let no : ⊥ = cc in absurd no
text_is _ text threads = refl

plan-of : (call : Call) (mode : Mode) (plan : Plan) (ending : Ending) → StartsThreads mode → IsSome call.log
    → call.text ≡ codes "ram md0 512 4" → KeepsAll call mode plan ending → plan ≡ one_disk_plan
plan-of call mode plan ending threads some text kept =
    let good : script (script_of mode call.text) ≡ Ok one_disk_plan =
    subst (λ t. script t ≡ Ok one_disk_plan) (sym (text_is mode call.text threads ∙ text)) script-is in
    sym (kept.texts.read_as.plan_is (kept.ends.is_opened some).parsed.read one_disk_plan good)

by_plan : (call : Call) (mode : Mode) (plan : Plan) (ending : Ending) → StartsThreads mode
    → LeavesAllToTheDrain call → IsSome call.log → IsWhole ending → KeepsAll call mode plan ending → ⊥
by_plan call mode plan ending threads wrong some w kept =
    let order : IfSome call.log (FollowsMode mode one_disk_plan (opening one_disk_plan call.facts) ending) =
    subst (λ x. IfSome call.log (FollowsMode mode x (opening x call.facts) ending))
    (plan-of call mode plan ending threads some wrong.text kept) kept.log.order in
    let fixed : IfSome call.log (FollowsMode mode one_disk_plan (opening one_disk_plan ((512, 4) ∷ [])) ending) =
    subst (λ f. IfSome call.log (FollowsMode mode one_disk_plan (opening one_disk_plan f) ending))
    wrong.facts order in
    by_log mode ending call.log threads w some wrong.seats fixed

pub drain_refused : IsRefused LeavesAllToTheDrain
drain_refused call mode plan ending wrong kept =
    let threads : StartsThreads mode =
    subst StartsThreads (kept.texts.read_as.mode_is wrong.mode wrong.words) wrong.threads in
    let w : IsWhole ending =
    whole call mode plan ending (ends 0 call mode plan ending kept (λ e. omega (arith, e)) wrong.status) threads kept in
    by_plan call mode plan ending threads wrong (logged ending call.log w kept.ends.has_log) w kept

-- what lies between a log and itself is that log
between : (log seen : List Entry) → IsPrefixOf log seen → IsPrefixOf seen log → seen ≡ log
between log seen behind before =
    let same : log ≡ (log ++ behind.0) ++ before.0 = before.1 ∙ ap (λ l. l ++ before.0) behind.1 in
    let none : length behind.0 ≡ 0 = omega (arith, simp length-append at (ap length same)) in
    behind.1 ∙ ap (λ l. log ++ l) (nil_from_length behind.0 none) ∙ append-nil log

pub event_worker_refused : (opened : World) (plan : Plan) (log : List Entry) → IdlesAtEvent opened plan log → ⊥
event_worker_refused opened plan log wrong =
    let tried = wrong.idle.at_event in
    let idle : WasIdle opened log (event_seat plan) steps.Event =
    subst (λ l. WasIdle opened l (event_seat plan) steps.Event)
    (between log tried.seen tried.behind_first tried.before_last) tried.was_idle in
    let both : true ≡ false = sym wrong.is_due ∙ idle in
    let no : ⊥ = cc in no
