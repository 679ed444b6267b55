-- The programs that do wrong with disks are refused.
use Rattle.std.specs.Prelude.{◌≡◌, ◌≢◌, ℕ, ◌&&◌, List, [], ◌∷◌, ◌++◌, find, None, IsSome, IsSomeAnd, All, codes, refl}
use Rattle.std.specs.List.{list_any}
use Rattle.std.proofs.Common.{sym, ◌∙◌, subst, arith}
use Rattle.std.proofs.lemmas.List.{append_cancel_left, append_cancel_right}
use Rattle.std.proofs.Math.Bool.{and-false}
use Rattle.geo_base.specs.Faults.{Rose}
use Rattle.geo_model.specs.declared.command.DiskDecl.{DiskDecl}
use Rattle.geo_model.specs.World.{Plan}
use Rattle.geo_model.specs.Words.{same_name}
use Rattle.geo_model.specs.Report.{end_line}
use Rattle.geo_model.specs.Script.{IsScript}
use Rattle.geo_headline.specs.Modes.{Mode, StepMode, VerifyMode, Accepts}
use Rattle.geo_headline.specs.Outside.{is_shelf, IsThere, KeepsLength, WhereTold}
use Rattle.geo_headline.specs.Endings.{Call, Ending, Reported, ReportedButFault, ShelfFault, NoDisk, BadSize, Answered, status_of, due_text, reported, CauseOf, IsOpened, script_of}
use Rattle.geo_headline.specs.Headline.{KeepsAll}
use Rattle.geo_rows.specs.WrongPrograms.{IsRefused, KeepsDisk, DropsDisk, BlamesAnotherDisk, LosesImage, ReportsDisk, InventsDisk, InventsLentDisk}
use Rattle.geo_rows.proofs.WrongPrograms.{answered, answers_verify, ends}

pub keeps_disk-refused : IsRefused KeepsDisk
keeps_disk-refused call mode plan ending wrong kept =
    omega (arith, kept.outside.lent.faults, wrong.kept.1, wrong.no_fault, wrong.counted)

pub drops_disk-refused : IsRefused DropsDisk
drops_disk-refused call mode plan ending wrong kept =
    let P : List ℕ → Type 0 = λ n. Rose (call.before.shelf.give_faults n) (call.after.shelf.give_faults n) in
    wrong.not_given (subst P wrong.kept.2 (kept.outside.lent.gives wrong.kept.0 wrong.name wrong.kept.1))

-- where nothing was kept back there is no first disk that was
no_first : (disks : List DiskDecl) → find (λ d. is_shelf d.kind && list_any (same_name d.name) []) disks ≡ None
no_first [] = refl
no_first (d ∷ disks) = rw (and-false (is_shelf d.kind)) (no_first disks)

other_letter : (a b : ℕ) (x y : List ℕ) → a ∷ x ≡ b ∷ y → a ≢ b → ⊥
other_letter a b x y e differ = let same : a ≡ b = cc in differ same

same_end : (a b : List ℕ) → codes "shelf fault " ++ a ++ end_line ≡ codes "shelf fault " ++ b ++ end_line → a ≡ b
same_end a b e =
    append_cancel_left (codes "shelf fault ") a b
    (append_cancel_right (codes "shelf fault " ++ a) (codes "shelf fault " ++ b) end_line e)

by_blame : (call : Call) (mode : Mode) (plan : Plan) (ending : Ending) (text : List ℕ) → status_of ending ≡ 5
    → BlamesAnotherDisk call
    → CauseOf call mode plan ending → call.written ≡ due_text text ending → ⊥
by_blame call mode plan (ReportedButFault name) text s wrong cause e =
    let first : IsSomeAnd (find (λ d. is_shelf d.kind && list_any (same_name d.name) []) plan.disks)
    (λ d. d.name ≡ name) =
    rw wrong.all_back at cause.1 in
    rw (no_first plan.disks) at first
by_blame call mode plan (ShelfFault name) text s wrong cause e =
    let same : name ≡ wrong.name = same_end name wrong.name (sym e ∙ wrong.blamed) in
    wrong.not_taken (subst (λ n. Rose (call.before.shelf.take_faults n) (call.after.shelf.take_faults n)) same cause.2)
by_blame call mode plan (NoDisk name) text s wrong cause e =
    other_letter _ _ _ _ (sym e ∙ wrong.blamed) (λ letters. omega (arith, letters))
by_blame call mode plan (BadSize name) text s wrong cause e =
    other_letter _ _ _ _ (sym e ∙ wrong.blamed) (λ letters. omega (arith, letters))
by_blame call mode plan (Answered found) text s wrong cause e =
    answered 5 found s (λ z. omega (arith, z)) (λ z. omega (arith, z))
by_blame call mode plan _ text s wrong cause e = omega (arith, s)

pub blames_another-refused : IsRefused BlamesAnotherDisk
blames_another-refused call mode plan ending wrong kept =
    by_blame call mode plan ending (reported mode call.text plan call.facts call.log)
    (ends 5 call mode plan ending kept (λ e. omega (arith, e)) wrong.status) wrong kept.ends.cause
    ((kept.texts.prints.whole (λ four. omega (arith, four, wrong.status))).written)

pub loses_image-refused : IsRefused LosesImage
loses_image-refused call mode plan ending wrong kept =
    let stand : WhereTold call.before.shelf call.after.shelf wrong.name KeepsLength =
    kept.outside.images_stand wrong.name wrong.not_kept in
    rw (wrong.told_before, wrong.told_after, wrong.there, wrong.gone) at stand

pub by_report : (call : Call) (mode : Mode) (plan : Plan) (ending : Ending) → status_of ending ≡ 0
    → Accepts call.words StepMode → KeepsAll call mode plan ending → IsSome call.log
by_report call mode plan Reported s words kept = kept.ends.has_log
by_report call mode plan (Answered found) s words kept =
    let both : StepMode ≡ VerifyMode =
    kept.texts.read_as.mode_is StepMode words ∙ sym (answers_verify call mode plan found kept) in
    let no : ⊥ = cc in absurd no
by_report call mode plan _ s words kept = absurd (omega (arith, s))

-- a disk that is reported on can be taken
was_there : (call : Call) (mode : Mode) (plan : Plan) (ending : Ending) (disk : DiskDecl) → ReportsDisk call disk
    → KeepsAll call mode plan ending → IsThere call.before.shelf disk
was_there call mode plan ending disk wrong kept =
    let has_log =
    by_report call mode plan ending (ends 0 call mode plan ending kept (λ e. omega (arith, e)) wrong.status) wrong.words
    kept in
    let opened : IsOpened call mode plan = kept.ends.is_opened has_log in
    let as_step : StepMode ≡ mode = kept.texts.read_as.mode_is StepMode wrong.words in
    let read : IsScript (script_of mode call.text) plan = opened.parsed.script in
    let good : IsScript (script_of StepMode call.text) plan =
    subst (λ m. IsScript (script_of m call.text) plan) (sym as_step) read in
    let disks : plan.disks ≡ disk ∷ wrong.rest = wrong.text plan good in
    let there : All (IsThere call.before.shelf) (disk ∷ wrong.rest) = rw disks at opened.there in
    there 0 disk (omega arith)

pub invents_disk-refused : IsRefused InventsDisk
invents_disk-refused call mode plan ending wrong kept =
    let can = was_there call mode plan ending wrong.disk wrong.reports kept wrong.reports.of_shelf in
    rw (wrong.told, wrong.missing) at can.image

pub invents_lent_disk-refused : IsRefused InventsLentDisk
invents_lent_disk-refused call mode plan ending wrong kept =
    let can = was_there call mode plan ending wrong.disk wrong.reports kept wrong.reports.of_shelf in
    can.not_lent wrong.lent

-- what `lost_disks_are_refused` says
pub ruleset lost_disks_are_refused = (
  keeps_disk-refused,
  drops_disk-refused,
  blames_another-refused,
  loses_image-refused,
  invents_disk-refused,
  invents_lent_disk-refused,
)
