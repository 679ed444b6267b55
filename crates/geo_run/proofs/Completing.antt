-- Where nothing fails and all is there, the status is 0, or 6 or 7; that of a verified trace is one of a verdict.
use Rattle.std.proofs.Common.{◌≡◌, ◌⊎◌, ℕ, ◌+◌, ◌-◌, ◌^◌, ◌≤◌, min, Bool, false, List, [], ◌∷◌, ◌++◌, length, find, All, Option, Some, None, Ok, Err, unwrap_or, refl, ◌∙◌, ap, subst, inl, inr, arith, IfSome, IsSome, IsSomeAnd, ◌&&◌, bytes_eq, if◌then◌else◌, rules, drop, Contains, sym, append_assoc}
use Rattle.std.specs.List.{AllByRecursion, list_any}
use Rattle.std.proofs.lemmas.List.{append-nil, length-append}
use Rattle.std.proofs.lemmas.List.Elements.{recursion_from_All, Contains-append_left, Contains-append_right}
use Rattle.std.proofs.Math.Seq.{drop-append_seam}
use Rattle.geo_base.specs.Faults.{Rose, RoseBy}
use Rattle.geo_io.specs.Counts.{FailedAtLast}
use Rattle.geo_base.specs.Images.{Images}
use Rattle.geo_disk.specs.declared.shelf.ShelfCall.{ShelfCall}
use Rattle.geo_disk.specs.declared.shelf.ShelfCall.TheVariants as shelf_calls
use Rattle.geo_disk.specs.declared.shelf.TakeAnswer.{TakeAnswer}
use Rattle.geo_disk.specs.declared.shelf.TakeAnswer.TheVariants as answers
use Rattle.geo_model.specs.declared.command.DiskDecl.{DiskDecl}
use Rattle.geo_model.specs.declared.command.DiskKind.{DiskKind}
use Rattle.geo_model.specs.declared.command.DiskKind.TheVariants as disk_kinds
use Rattle.geo_model.specs.declared.step.Entry.{Entry}
use Rattle.geo_model.specs.World.{Plan}
use Rattle.geo_model.specs.Script.{Fault, script}
use Rattle.geo_headline.specs.Modes.{Mode, StepMode, RunMode, GenMode, SweepMode, WatchMode, TraceMode, VerifyMode, Accepts, source_limit}
use Rattle.geo_headline.specs.Outside.{ShelfView, IsShelf, is_shelf, kept_back, HasImage, IsMissing, IsBadSize, takes_of, gives_of}
use Rattle.geo_headline.specs.Endings.{Ending, Reported, ReportedButFault, BadWords, NoScript, ReadFault, ShelfFault, NoDisk, BadSize, OutOfMemory, LogFull, TooLong, Answered, NoTrace, BytesPass, Call, IsParsed, IsReadWhole, StopsAt, WasReadWhole, failed_takes, first_kept_back, script_of, status_of}
use Rattle.geo_headline.specs.declared.verified.Verified.TheVariants as found
use Rattle.geo_headline.specs.Headline.{CallsInOrder, DisksAreThere, FindsDisks, GivesScript, IsComplete, IsToldThere, KeepsAll, ModeIsComplete, NoFault, RunIsComplete, calls_made, text_to_give}
use Rattle.geo_run.proofs.Tests.{contains_first}
use Rattle.geo_run.proofs.Generated.{generated_in_memory, one_plan, plan_or_fault}

-- Texts

-- a text that was read whole is all that the source had to give
all_given : (before after : Option (List ℕ)) (text : List ℕ)
    → IfSome before (λ had. IsSomeAnd after (λ has. had ≡ text ++ has)) → IfSome after (λ left. left ≡ [])
    → unwrap_or before text ≡ text
all_given None after text h none = refl
all_given (Some had) None text h none = absurd h
all_given (Some had) (Some has) text h none = h ∙ ap (λ bs. text ++ bs) none ∙ append-nil text

-- a text is no longer than what the source had to give
no_longer : (before after : Option (List ℕ)) (text : List ℕ)
    → IfSome before (λ had. IsSomeAnd after (λ has. had ≡ text ++ has)) → length text ≤ length (unwrap_or before text)
no_longer None after text h = omega arith
no_longer (Some had) None text h = absurd h
no_longer (Some had) (Some has) text h = search (rules, length-append text has)

-- Faults

-- a call that failed is a fault more
failed_rose : (before now : ℕ) (failed : Bool) → FailedAtLast before now failed → Rose before now
failed_rose before now failed f =
    let e : now ≡ min (before + 1) (2 ^ 64 - 1) = f.one in omega (arith, e)

rose_from : (f n before after : ℕ) → 1 ≤ f + n → RoseBy (f + n) before after → Rose before after
rose_from f n before after some r = let h : min (before + (f + n)) (2 ^ 64 - 1) ≤ after = r in omega (arith, some, h)

never : (kind : DiskKind) → (is_shelf kind && false) ≡ false
never disk_kinds.Ram = refl
never disk_kinds.Shelf = refl

none_first : (ds : List DiskDecl) (P : DiskDecl → Type 0)
    → IsSomeAnd (find (λ (d : DiskDecl). is_shelf d.kind && false) ds) P → ⊥
none_first [] P h = h
none_first (d ∷ ds) P h =
    none_first ds P
    (subst (λ t. IsSomeAnd (if t then Some d else find (λ (z : DiskDecl). is_shelf z.kind && false) ds) P)
    (never d.kind) h)

-- where a disk was kept back, some name was
some_kept : (ds : List DiskDecl) (names : List (List ℕ)) (P : DiskDecl → Type 0)
    → IsSomeAnd (find (λ (d : DiskDecl). is_shelf d.kind && list_any (bytes_eq d.name) names) ds) P → 1 ≤ length names
some_kept ds [] P h = absurd (none_first ds P h)
some_kept ds (n ∷ names) P h = omega arith

-- Disks

-- what holds of each disk holds of one of them
of_one : (P : DiskDecl → Type 0) (front : List DiskDecl) (d : DiskDecl) (back : List DiskDecl)
    → AllByRecursion P (front ++ d ∷ back) → P d
of_one P [] d back all = all.0
of_one P (x ∷ front) d back all = of_one P front d back all.1

not_missing : (d : DiskDecl) (told : Option Images) → IsSomeAnd told (HasImage d) → IfSome told (IsMissing d) → ⊥
not_missing d None has missing = has
not_missing d (Some images) has missing = search rules

not_bad : (d : DiskDecl) (told : Option Images) → IsSomeAnd told (HasImage d) → IfSome told (IsBadSize d) → ⊥
not_bad d None has bad = has
not_bad d (Some images) has bad = search rules

-- a disk at which taking stopped is of the plan, and of the shelf
stopped_there : (shelf : ShelfView) (plan : Plan) (name : List ℕ) (F : DiskDecl → Images → Type 0)
    → (s : StopsAt shelf plan name F) → All (IsToldThere shelf) plan.disks → IsSomeAnd shelf.told (HasImage s.disk)
stopped_there shelf plan name F s all =
    of_one (IsToldThere shelf) s.front s.disk s.back
    (subst (λ (ds : List DiskDecl). AllByRecursion (IsToldThere shelf) ds) s.in_plan
    (recursion_from_All (IsToldThere shelf) plan.disks all)) s.of_shelf

in_memory : (plan : Plan) (name : List ℕ) (F : DiskDecl → Images → Type 0) (shelf : ShelfView)
    → StopsAt shelf plan name F → All (λ (d : DiskDecl). IsShelf d.kind → ⊥) plan.disks → ⊥
in_memory plan name F shelf s all =
    of_one (λ (d : DiskDecl). IsShelf d.kind → ⊥) s.front s.disk s.back
    (subst (λ (ds : List DiskDecl). AllByRecursion (λ (d : DiskDecl). IsShelf d.kind → ⊥) ds) s.in_plan
    (recursion_from_All (λ (d : DiskDecl). IsShelf d.kind → ⊥) plan.disks all)) s.of_shelf

-- the takes and gives of a call came behind those before it
made : (plan : Plan) (ending : Ending) (log : Option (List Entry)) (a b : ShelfView)
    → (c : CallsInOrder plan ending log a b)
    → calls_made a b ≡ takes_of answers.Disk c.had ++ takes_of c.answer c.missed ++ gives_of c.had
made plan ending log a b c =
    let had : List ShelfCall = takes_of answers.Disk c.had in
    let missed : List ShelfCall = takes_of c.answer c.missed in
    ap (λ (calls : List ShelfCall). drop (length a.calls) calls)
    (c.calls ∙ ap (λ (calls : List ShelfCall). calls ++ gives_of c.had) (append_assoc a.calls had missed)
    ∙ append_assoc a.calls (had ++ missed) (gives_of c.had))
    ∙ drop-append_seam a.calls (had ++ missed ++ gives_of c.had)

-- the take of the one name that was missed is among them, with its answer
missed_made : (plan : Plan) (ending : Ending) (log : Option (List Entry)) (a b : ShelfView)
    (c : CallsInOrder plan ending log a b) (name : List ℕ) (answer : TakeAnswer) → c.missed ≡ name ∷ []
    → c.answer ≡ answer → Contains (calls_made a b) (shelf_calls.Take name answer)
missed_made plan ending log a b c name answer missed is =
    let had : List ShelfCall = takes_of answers.Disk c.had in
    let taken : List ShelfCall = takes_of c.answer c.missed in
    let one : Contains taken (shelf_calls.Take name answer) =
    subst (λ (calls : List ShelfCall). Contains calls (shelf_calls.Take name answer))
    (ap (λ (names : List (List ℕ)). takes_of answer names) (sym missed)
    ∙ ap (λ (z : TakeAnswer). takes_of z c.missed) (sym is))
    (contains_first (shelf_calls.Take name answer) []) in
    subst (λ (calls : List ShelfCall). Contains calls (shelf_calls.Take name answer)) (sym (made plan ending log a b c))
    (Contains-append_left (had ++ taken) (gives_of c.had) (shelf_calls.Take name answer)
    (Contains-append_right had taken (shelf_calls.Take name answer) one))

-- where no take missed its disk, none is told to be missing, or of a bad size
never_missing : (plan : Plan) (log : Option (List Entry)) (a b : ShelfView) (name : List ℕ) → FindsDisks a b
    → CallsInOrder plan (NoDisk name) log a b → ⊥
never_missing plan log a b name finds c =
    (finds name).0 (missed_made plan (NoDisk name) log a b c name answers.Missing c.missed_is c.answer_is)

never_bad : (plan : Plan) (log : Option (List Entry)) (a b : ShelfView) (name : List ℕ) → FindsDisks a b
    → CallsInOrder plan (BadSize name) log a b → ⊥
never_bad plan log a b name finds c =
    (finds name).1 (missed_made plan (BadSize name) log a b c name answers.BadSize c.missed_is c.answer_is)

-- the disks of a plan are those of another that is the same
same_disks : (shelf : ShelfView) (p plan : Plan) → p ≡ plan → All (IsToldThere shelf) p.disks
    → All (IsToldThere shelf) plan.disks
same_disks shelf p plan e all = subst (λ (z : Plan). All (IsToldThere shelf) z.disks) e all

-- the plan of the text that was to be given is the plan of the text
same_plan : (text to_give : List ℕ) (p plan : Plan) → to_give ≡ text → script to_give ≡ Ok p → script text ≡ Ok plan
    → p ≡ plan
same_plan text to_give p plan e a b = one_plan p plan (script to_give) a (ap script e ∙ b)

the_plan : (call : Call) (mode : Mode) (plan p : Plan) → (WasReadWhole call mode → IsReadWhole call mode)
    → script_of mode call.text ≡ call.text → IsParsed call mode plan → BytesPass call
    → script (text_to_give call) ≡ Ok p → p ≡ plan
the_plan call mode plan p whole text parsed bytes is =
    same_plan call.text (text_to_give call) p plan
    (all_given call.before.source.left call.after.source.left call.text bytes.had_left (whole parsed.read).none_left)
    is (ap script (sym text) ∙ parsed.script)

no_fault_there : (text to_give : List ℕ) (p : Plan) (fault : Fault) → to_give ≡ text → script to_give ≡ Ok p
    → script text ≡ Err fault → ⊥
no_fault_there text to_give p fault e a b = plan_or_fault p fault (script to_give) a (ap script e ∙ b)

-- Each mode

-- what a source has to give where its text is the script
abbrev HasScript : Call → Mode → Type 0
HasScript call mode =
    (length (text_to_give call) ≤ source_limit mode)
    × ((p : Plan) × (script (text_to_give call) ≡ Ok p) × DisksAreThere call.before.shelf call.after.shelf p)

-- an ending that can't be where nothing fails, or one with its status
abbrev IsGood : Ending → Type 0
IsGood ending = (status_of ending ≡ 0) ⊎ (status_of ending ≡ 6) ⊎ (status_of ending ≡ 7)

kept_rose : (call : Call) (plan : Plan) (ending : Ending) (name : List ℕ)
    → IsSomeAnd (first_kept_back plan call.before.shelf call.after.shelf) (λ d. d.name ≡ name)
    → RoseBy (failed_takes ending + length (kept_back call.before.shelf call.after.shelf)) call.before.shelf.faults
    call.after.shelf.faults
    → Rose call.before.shelf.faults call.after.shelf.faults
kept_rose call plan ending name first rose =
    search (rules, some_kept plan.disks (kept_back call.before.shelf call.after.shelf) (λ d. d.name ≡ name) first)

-- where a trace is verified, another mode isn't
not_verified : (call : Call) (mode : Mode) (plan : Plan) (ending : Ending) → (VerifyMode ≡ mode → ⊥)
    → KeepsAll call mode plan ending → Accepts call.words VerifyMode → ⊥
not_verified call mode plan ending other k a = other (k.texts.read_as.mode_is VerifyMode a)

-- where the text that a source gives is the script
script_ends : (call : Call) (mode : Mode) (plan : Plan) (ending : Ending) → (VerifyMode ≡ mode → ⊥)
    → (WasReadWhole call mode → IsReadWhole call mode) → script_of mode call.text ≡ call.text
    → Accepts call.words mode → KeepsAll call mode plan ending
    → NoFault call.before call.after → HasScript call mode → IsGood ending
script_ends call mode plan Reported other whole text a k fine s = inl refl
script_ends call mode plan (ReportedButFault name) other whole text a k fine s =
    absurd (fine.shelf (kept_rose call plan (ReportedButFault name) name k.ends.cause.1 k.outside.lent.faults))
script_ends call mode plan BadWords other whole text a k fine s = absurd (k.ends.cause mode a)
script_ends call mode plan (NoScript line c) other whole text a k fine s = search rules
script_ends call mode plan ReadFault other whole text a k fine s = absurd (fine.source (failed_rose _ _ _ k.ends.cause.2))
script_ends call mode plan (ShelfFault name) other whole text a k fine s = search rules
script_ends call mode plan (NoDisk name) other whole text a k fine s = by s.1.2
  where
    by : DisksAreThere call.before.shelf call.after.shelf s.1.0 → IsGood (NoDisk name)
    by (inl told) =
        let all = same_disks call.before.shelf s.1.0 plan
        (the_plan call mode plan s.1.0 whole text k.ends.cause.0 k.texts.bytes s.1.1) told in
        absurd (not_missing k.ends.cause.1.disk call.before.shelf.told
        (stopped_there call.before.shelf plan name IsMissing k.ends.cause.1 all) k.ends.cause.1.cause)
    by (inr finds) =
        absurd (never_missing plan call.log call.before.shelf call.after.shelf name finds k.outside.in_order)
script_ends call mode plan (BadSize name) other whole text a k fine s = by s.1.2
  where
    by : DisksAreThere call.before.shelf call.after.shelf s.1.0 → IsGood (BadSize name)
    by (inl told) =
        let all = same_disks call.before.shelf s.1.0 plan
        (the_plan call mode plan s.1.0 whole text k.ends.cause.0 k.texts.bytes s.1.1) told in
        absurd (not_bad k.ends.cause.1.disk call.before.shelf.told
        (stopped_there call.before.shelf plan name IsBadSize k.ends.cause.1 all) k.ends.cause.1.cause)
    by (inr finds) =
        absurd (never_bad plan call.log call.before.shelf call.after.shelf name finds k.outside.in_order)
script_ends call mode plan OutOfMemory other whole text a k fine s = inr (inl refl)
script_ends call mode plan LogFull other whole text a k fine s = inr (inr refl)
script_ends call mode plan TooLong other whole text a k fine s =
    search (rules, no_longer call.before.source.left call.after.source.left call.text k.texts.bytes.had_left)
script_ends call mode plan (Answered found) other whole text a k fine s = search rules
script_ends call mode plan (NoTrace line) other whole text a k fine s = search rules

-- where the script is made
generated_ends : (call : Call) (plan : Plan) (ending : Ending) (start count : ℕ)
    → Accepts call.words (GenMode start count)
    → KeepsAll call (GenMode start count) plan ending → NoFault call.before call.after → IsGood ending
generated_ends call plan Reported s c a k fine = inl refl
generated_ends call plan (ReportedButFault name) s c a k fine =
    absurd (fine.shelf (kept_rose call plan (ReportedButFault name) name k.ends.cause.1 k.outside.lent.faults))
generated_ends call plan BadWords s c a k fine = absurd (k.ends.cause (GenMode s c) a)
generated_ends call plan (NoScript line cause) s c a k fine = absurd k.ends.cause.0
generated_ends call plan ReadFault s c a k fine = absurd k.ends.cause.0
generated_ends call plan (ShelfFault name) s c a k fine = search rules
generated_ends call plan (NoDisk name) s c a k fine =
    absurd (in_memory plan name IsMissing call.before.shelf k.ends.cause.1
    (generated_in_memory s c a.in_range plan k.ends.cause.0.script))
generated_ends call plan (BadSize name) s c a k fine =
    absurd (in_memory plan name IsBadSize call.before.shelf k.ends.cause.1
    (generated_in_memory s c a.in_range plan k.ends.cause.0.script))
generated_ends call plan OutOfMemory s c a k fine = inr (inl refl)
generated_ends call plan LogFull s c a k fine = inr (inr refl)
generated_ends call plan TooLong s c a k fine = absurd k.ends.cause.0
generated_ends call plan (Answered found) s c a k fine = search rules
generated_ends call plan (NoTrace line) s c a k fine = search rules

-- an ending that can be where a trace is verified and neither the source nor the sink fails
abbrev IsVerdict : Ending → Type 0
IsVerdict ending =
    (status_of ending ≡ 0) ⊎ (status_of ending ≡ 2) ⊎ (status_of ending ≡ 6) ⊎ (status_of ending ≡ 8)
    ⊎ (status_of ending ≡ 9)

-- where a trace is verified no mesh is run
no_mesh : (call : Call) (plan : Plan) (ending : Ending) → KeepsAll call VerifyMode plan ending → IsSome call.log → ⊥
no_mesh call plan ending k some = (k.ends.is_opened some).parsed.mesh

some_log : {A : Type 0} (log : Option A) (P : A → Type 0) → IsSomeAnd log P → IsSome log
some_log None P h = absurd h
some_log (Some l) P h = refl

verify_ends : (call : Call) (plan : Plan) (ending : Ending) → Accepts call.words VerifyMode
    → KeepsAll call VerifyMode plan ending → (Rose call.before.source.faults call.after.source.faults → ⊥)
    → IsVerdict ending
verify_ends call plan Reported a k fine = absurd (no_mesh call plan Reported k k.ends.cause.0)
verify_ends call plan (ReportedButFault name) a k fine = search rules
verify_ends call plan BadWords a k fine = absurd (k.ends.cause VerifyMode a)
verify_ends call plan (NoScript line c) a k fine = inr (inl refl)
verify_ends call plan ReadFault a k fine = absurd (fine (failed_rose _ _ _ k.ends.cause.2))
verify_ends call plan OutOfMemory a k fine = inr (inr (inl refl))
verify_ends call plan LogFull a k fine = search rules
verify_ends call plan TooLong a k fine = inr (inr (inr (inl refl)))
verify_ends call plan (Answered found.Yes) a k fine = inl refl
verify_ends call plan (NoTrace line) a k fine = inr (inl refl)
verify_ends call plan (Answered _) a k fine = inr (inr (inr (inr refl)))
verify_ends call plan _ a k fine = absurd k.ends.cause.0.mesh

good_status : (call : Call) (ending : Ending) → call.status ≡ status_of ending → IsGood ending
    → (call.status ≡ 0) ⊎ (call.status ≡ 6) ⊎ (call.status ≡ 7)
good_status call ending e (inl z) = inl (e ∙ z)
good_status call ending e (inr (inl z)) = inr (inl (e ∙ z))
good_status call ending e (inr (inr z)) = inr (inr (e ∙ z))

verdict_status : (call : Call) (ending : Ending) → call.status ≡ status_of ending → IsVerdict ending
    → (call.status ≡ 0) ⊎ (call.status ≡ 2) ⊎ (call.status ≡ 6) ⊎ (call.status ≡ 8) ⊎ (call.status ≡ 9)
verdict_status call ending e (inl z) = inl (e ∙ z)
verdict_status call ending e (inr (inl z)) = inr (inl (e ∙ z))
verdict_status call ending e (inr (inr (inl z))) = inr (inr (inl (e ∙ z)))
verdict_status call ending e (inr (inr (inr (inl z)))) = inr (inr (inr (inl (e ∙ z))))
verdict_status call ending e (inr (inr (inr (inr z)))) = inr (inr (inr (inr (e ∙ z))))

-- what is written whole has the status of its ending
status_is : (call : Call) (mode : Mode) (plan : Plan) (ending : Ending) → KeepsAll call mode plan ending
    → (Rose call.before.sink.faults call.after.sink.faults → ⊥) → call.status ≡ status_of ending
status_is call mode plan ending k fine =
    search (rules, failed_rose call.before.sink.faults call.after.sink.faults call.after.sink.failed)

-- a call that keeps all is complete where its text is the script
run_complete : (call : Call) (mode : Mode) (plan : Plan) (ending : Ending) → KeepsAll call mode plan ending
    → (NoFault call.before call.after → GivesScript call mode → IsGood ending) → RunIsComplete call mode
run_complete call mode plan ending k ends = search rules

-- a call that keeps all is complete in its mode
in_mode : (call : Call) (mode : Mode) (plan : Plan) (ending : Ending) → Accepts call.words mode
    → KeepsAll call mode plan ending → ModeIsComplete call mode
in_mode call StepMode plan ending a k =
    run_complete call StepMode plan ending k (λ fine gives. script_ends call StepMode plan ending
    (λ e. let bad : VerifyMode ≡ StepMode = e in cc) (λ w. w) refl a k fine gives)
in_mode call RunMode plan ending a k =
    run_complete call RunMode plan ending k (λ fine gives. script_ends call RunMode plan ending
    (λ e. let bad : VerifyMode ≡ RunMode = e in cc) (λ w. w) refl a k fine gives)
in_mode call (GenMode s c) plan ending a k =
    run_complete call (GenMode s c) plan ending k (λ fine gives. generated_ends call plan ending s c a k fine)
in_mode call SweepMode plan ending a k =
    run_complete call SweepMode plan ending k (λ fine gives. script_ends call SweepMode plan ending
    (λ e. let bad : VerifyMode ≡ SweepMode = e in cc) (λ w. w) refl a k fine gives)
in_mode call WatchMode plan ending a k =
    run_complete call WatchMode plan ending k (λ fine gives. script_ends call WatchMode plan ending
    (λ e. let bad : VerifyMode ≡ WatchMode = e in cc) (λ w. w) refl a k fine gives)
in_mode call TraceMode plan ending a k =
    run_complete call TraceMode plan ending k (λ fine gives. script_ends call TraceMode plan ending
    (λ e. let bad : VerifyMode ≡ TraceMode = e in cc) (λ w. w) refl a k fine gives)
in_mode call VerifyMode plan ending a k = search (rules, verify_ends call plan ending a k)

-- a call that keeps all is complete
pub complete : (call : Call) (mode : Mode) (plan : Plan) (ending : Ending) → KeepsAll call mode plan ending
    → IsComplete call
complete call mode plan ending k = search (rules, in_mode call)
