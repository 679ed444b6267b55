-- In which order the shelf is called.
use Rattle.std.proofs.Common.{◌≡◌, ℕ, true, false, List, [], ◌∷◌, ◌++◌, map, filter, Option, None, refl, sym, ◌∙◌, ap, subst, arith, append_assoc, if◌then◌else◌, rules, ◌≢◌, ◌≤◌, length}
use Rattle.std.proofs.lemmas.List.{append-nil, map-append}
use Rattle.geo_disk.specs.declared.shelf.ShelfCall.{ShelfCall}
use Rattle.geo_disk.specs.declared.shelf.ShelfCall.TheVariants as shelf_calls
use Rattle.geo_disk.specs.declared.shelf.TakeAnswer.{TakeAnswer}
use Rattle.geo_disk.specs.declared.shelf.TakeAnswer.TheVariants as answers
use Rattle.geo_model.specs.declared.command.DiskDecl.{DiskDecl}
use Rattle.geo_model.specs.declared.command.DiskKind.{DiskKind}
use Rattle.geo_model.specs.declared.command.DiskKind.TheVariants as disk_kinds
use Rattle.geo_model.specs.declared.step.Entry.{Entry}
use Rattle.geo_model.specs.World.{Plan}
use Rattle.geo_headline.specs.Outside.{ShelfView, is_shelf, names_of_shelf, takes_of, gives_of}
use Rattle.geo_headline.specs.Endings.{Ending, ShelfFault, NoDisk, BadSize, OutOfMemory, failed_takes, missed_by}
use Rattle.geo_headline.specs.Headline.{CallsInOrder, IsAnswerAt, IsMissedAt}
use Rattle.geo_run.specs.Drives.{DriveView}
use Rattle.geo_run.specs.Lending.{GivesDrive, OpensDrive, OpensDrives, OpensNoDrive, TakeCause, answer_at}
use Rattle.geo_run.specs.Stops.{ending_of}
use Rattle.geo_run.specs.declared.stop.Stop.{Stop}
use Rattle.geo_run.specs.declared.stop.Stop.TheVariants as stops
use Rattle.geo_run.proofs.Taking.{shelf_names, with_shelf}
use Rattle.geo_run.proofs.Giving.{GivesAll}

-- Names

-- the names of the disks of the shelf, by cases of their kind
names_are : (ds : List DiskDecl) → names_of_shelf ds ≡ shelf_names ds
names_are [] = refl
names_are (d ∷ ds) = by d.kind (names_are ds)
  where
    by : (kind : DiskKind) → names_of_shelf ds ≡ shelf_names ds
        → map (λ (z : DiskDecl). z.name)
        (if is_shelf kind then d ∷ filter (λ (z : DiskDecl). is_shelf z.kind) ds
        else filter (λ (z : DiskDecl). is_shelf z.kind) ds)
        ≡ with_shelf kind d.name (shelf_names ds)
    by disk_kinds.Ram e = e
    by disk_kinds.Shelf e = ap (λ names. d.name ∷ names) e

-- those before a disk, its own, and those behind it
names_around : (front : List DiskDecl) (d : DiskDecl) (back : List DiskDecl)
    → shelf_names (front ++ d ∷ back) ≡ shelf_names front ++ with_shelf d.kind d.name [] ++ shelf_names back
names_around [] d back = search rules
names_around (e ∷ front) d back = by e.kind (names_around front d back)
  where
    by : (kind : DiskKind)
        → shelf_names (front ++ d ∷ back) ≡ shelf_names front ++ with_shelf d.kind d.name [] ++ shelf_names back
        → with_shelf kind e.name (shelf_names (front ++ d ∷ back))
        ≡ with_shelf kind e.name (shelf_names front) ++ with_shelf d.kind d.name [] ++ shelf_names back
    by disk_kinds.Ram same = same
    by disk_kinds.Shelf same = ap (λ names. e.name ∷ names) same

-- Takes

-- a take is one call, where the disk is of the shelf
take_called : (a b : ShelfView) (d : DiskDecl) (x : DriveView) (rest : List (List ℕ)) (kind : DiskKind)
    → OpensDrive a d x b kind
    → b.calls ++ takes_of answers.Disk rest ≡ a.calls ++ takes_of answers.Disk (with_shelf kind d.name rest)
take_called a b d x rest disk_kinds.Ram h = ap (λ (v : ShelfView). v.calls ++ takes_of answers.Disk rest) h.1
take_called a b d x rest disk_kinds.Shelf h =
    search (rules, append_assoc a.calls (shelf_calls.Take d.name answers.Disk ∷ []) (takes_of answers.Disk rest))

takes_called : (a b : ShelfView) (ds : List DiskDecl) (xs : List DriveView) → OpensDrives a ds xs b
    → b.calls ≡ a.calls ++ takes_of answers.Disk (shelf_names ds)
takes_called a b [] [] h = ap (λ (v : ShelfView). v.calls) h ∙ sym (append-nil a.calls)
takes_called a b (d ∷ ds) (x ∷ xs) h = takes_called h.0 b ds xs h.2 ∙ take_called a h.0 d x (shelf_names ds) d.kind h.1
takes_called a b _ _ h = absurd h

-- so is one by which no disk was had
stop_called : (a b : ShelfView) (d : DiskDecl) (stop : Stop) (kind : DiskKind) → OpensNoDrive a d stop b kind
    → b.calls ≡ a.calls ++ takes_of (answer_at stop) (with_shelf kind d.name [])
stop_called a b d stop disk_kinds.Ram h = ap (λ (v : ShelfView). v.calls) h.1 ∙ sym (append-nil a.calls)
stop_called a b d stop disk_kinds.Shelf h = h.called

-- Gives

-- so is a give, whether it fails or not
give_called : (a b : ShelfView) (n : List ℕ) (x : DriveView) (k : List (List ℕ)) (rest : List (List ℕ))
    (kind : DiskKind)
    → GivesDrive a n x k b kind → b.calls ++ gives_of rest ≡ a.calls ++ gives_of (with_shelf kind n rest)
give_called a b n x k rest disk_kinds.Ram h = ap (λ (v : ShelfView). v.calls ++ gives_of rest) h.1
give_called a b n x k rest disk_kinds.Shelf h =
    search (rules, append_assoc a.calls (shelf_calls.Give n ∷ []) (gives_of rest))

gives_called : (a b : ShelfView) (ds : List DiskDecl) (xs : List DriveView) (kept : List (List ℕ))
    → GivesAll a ds xs kept b → b.calls ≡ a.calls ++ gives_of (shelf_names ds)
gives_called a b [] [] kept h = ap (λ (v : ShelfView). v.calls) h.1 ∙ sym (append-nil a.calls)
gives_called a b (d ∷ ds) (x ∷ xs) kept h =
    gives_called h.0 b ds xs h.2 h.5 ∙ give_called a h.0 d.name x h.1 (shelf_names ds) d.kind h.4
gives_called a b _ _ kept h = absurd h

-- takes, and then gives
both_called : (start taken after : List ShelfCall) (had missed : List (List ℕ)) (answer : TakeAnswer)
    → taken ≡ start ++ takes_of answers.Disk had ++ takes_of answer missed → after ≡ taken ++ gives_of had
    → after ≡ start ++ takes_of answers.Disk had ++ takes_of answer missed ++ gives_of had
both_called start taken after had missed answer takes gives = gives ∙ ap (λ calls. calls ++ gives_of had) takes

-- In order

-- a take that had no memory had no disk
none_had : answers.NoMemory ≢ answers.Disk
none_had e = let bad : answers.NoMemory ≡ answers.Disk = e in cc

-- where no disk was missed, no take is told that missed one
none_answered : (ending : Ending) → IsMissedAt ending [] → IsAnswerAt ending answers.NoMemory
none_answered (ShelfFault name) h = absurd (let bad : [] ≡ name ∷ [] = h in cc)
none_answered (NoDisk name) h = absurd (let bad : [] ≡ name ∷ [] = h in cc)
none_answered (BadSize name) h = absurd (let bad : [] ≡ name ∷ [] = h in cc)
none_answered OutOfMemory h = refl
none_answered _ h = none_had

-- the answer of the take that stopped is the one that the ending tells
answered : (stop : Stop) → IsAnswerAt (ending_of stop) (answer_at stop)
answered (stops.ShelfFault name) = refl
answered (stops.NoDisk name) = refl
answered (stops.BadSize name) = refl
answered stops.NoMemory = refl
answered _ = none_had

-- all disks were had, and given back
pub all_in_order : (plan : Plan) (ending : Ending) (log : Option (List Entry)) (a m b : ShelfView)
    (xs ys : List DriveView) (kept : List (List ℕ)) → IsMissedAt ending [] → OpensDrives a plan.disks xs m
    → GivesAll m plan.disks ys kept b → CallsInOrder plan ending log a b
all_in_order plan ending log a m b xs ys kept missed opens gives = record {
  had = shelf_names plan.disks;
  missed = [];
  left = [];
  names = names_are plan.disks ∙ none_more ∙ sym (append-nil (shelf_names plan.disks ++ []));
  missed_is = missed;
  answer = answers.NoMemory;
  answer_is = none_answered ending missed;
  all = λ some. sym (names_are plan.disks);
  calls = both_called a.calls m.calls b.calls (shelf_names plan.disks) [] answers.NoMemory
      (takes_called a m plan.disks xs opens
      ∙ sym (append-nil (a.calls ++ takes_of answers.Disk (shelf_names plan.disks))))
      (gives_called m b plan.disks ys kept gives);
}
  where
    none_more : shelf_names plan.disks ≡ shelf_names plan.disks ++ []
    none_more = sym (append-nil (shelf_names plan.disks))

-- the disk that couldn't be had is the one that is told
missed_told : (a b : ShelfView) (d : DiskDecl) (stop : Stop) (kind : DiskKind) → OpensNoDrive a d stop b kind
    → IsMissedAt (ending_of stop) (with_shelf kind d.name [])
missed_told a b d stop disk_kinds.Ram h = subst (λ (s : Stop). IsMissedAt (ending_of s) []) (sym h.0) (omega arith)
missed_told a b d stop disk_kinds.Shelf h = by stop h.cause
  where
    by : (s : Stop) → TakeCause a d s b → IsMissedAt (ending_of s) (d.name ∷ [])
    by (stops.ShelfFault name) c = ap (λ (n : List ℕ). n ∷ []) (sym c.0)
    by (stops.NoDisk name) c = ap (λ (n : List ℕ). n ∷ []) (sym c.0)
    by (stops.BadSize name) c = ap (λ (n : List ℕ). n ∷ []) (sym c.0)
    by stops.NoMemory c = omega arith
    by _ c = absurd c

-- a disk couldn't be had, and those before it were given back
pub stopped_in_order : (plan : Plan) (stop : Stop) (a m n b : ShelfView) (front : List DiskDecl) (d : DiskDecl)
    (back : List DiskDecl) (xs ys : List DriveView) (kept : List (List ℕ)) → plan.disks ≡ front ++ d ∷ back
    → OpensDrives a front xs m → OpensNoDrive m d stop n d.kind → GivesAll n front ys kept b
    → CallsInOrder plan (ending_of stop) None a b
stopped_in_order plan stop a m n b front d back xs ys kept e opens stopped gives = record {
  had = had;
  missed = missed;
  left = shelf_names back;
  names = names_are plan.disks ∙ ap (λ (ds : List DiskDecl). shelf_names ds) e ∙ names_around front d back;
  missed_is = missed_told m n d stop d.kind stopped;
  answer = answer_at stop;
  answer_is = answered stop;
  all = λ some. absurd (let bad : false ≡ true = some in cc);
  calls = both_called a.calls n.calls b.calls had missed (answer_at stop) tried (gives_called n b front ys kept gives);
}
  where
    had : List (List ℕ)
    had = shelf_names front

    missed : List (List ℕ)
    missed = with_shelf d.kind d.name []

    tried : n.calls ≡ a.calls ++ takes_of answers.Disk had ++ takes_of (answer_at stop) missed
    tried =
        stop_called m n d stop d.kind stopped
        ∙ ap (λ calls. calls ++ takes_of (answer_at stop) missed) (takes_called a m front xs opens)

-- where no name is told, none was missed
none_missed : (ending : Ending) → missed_by ending ≡ [] → IsMissedAt ending []
none_missed (ShelfFault name) e = sym e
none_missed (NoDisk name) e = sym e
none_missed (BadSize name) e = sym e
none_missed OutOfMemory e = omega arith
none_missed _ e = refl

-- the shelf wasn't called
pub none_in_order : (plan : Plan) (ending : Ending) (a : ShelfView) → missed_by ending ≡ []
    → CallsInOrder plan ending None a a
none_in_order plan ending a none_told = record {
  had = [];
  missed = [];
  left = names_of_shelf plan.disks;
  names = refl;
  missed_is = none_missed ending none_told;
  answer = answers.NoMemory;
  answer_is = none_answered ending (none_missed ending none_told);
  all = λ some. absurd (let bad : false ≡ true = some in cc);
  calls = sym (append-nil a.calls) ∙ sym (append-nil (a.calls ++ [])) ∙ sym (append-nil (a.calls ++ [] ++ []));
}

-- where no disk is told to be missed, no take failed
pub none_failed : (ending : Ending) → missed_by ending ≡ [] → failed_takes ending ≡ 0
none_failed (ShelfFault name) e = search rules
none_failed _ e = refl
