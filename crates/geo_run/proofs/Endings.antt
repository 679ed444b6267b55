-- How the run of a plan ends, from what each part of it did.
use Rattle.std.proofs.Common.{◌≡◌, ◌≢◌, ℕ, ◌+◌, ◌-◌, ◌^◌, ◌≤◌, min, Bool, true, false, List, [], ◌∷◌, ◌++◌, length, map, All, Option, Some, None, refl, sym, ◌∙◌, ap, subst, inl, inr, arith, Contains, IfSome, IfNone, IsSome, IsSomeAnd, IsTrue, bytes_eq, ◌&&◌, slice_get, zip, rules}
use Rattle.std.specs.Prelude.{⊤}
use Rattle.std.specs.List.{AllByRecursion, enumerate_from, list_any}
use Rattle.std.proofs.lemmas.List.{map-append}
use Rattle.std.proofs.lemmas.List.Elements.{All-from_recursion, recursion_from_All, Contains-append_left}
use Rattle.geo_base.specs.Faults.{Rose, RoseBy}
use Rattle.geo_base.specs.Images.{Images, IsDiskSize}
use Rattle.geo_disk.specs.Counts.{counted_if}
use Rattle.geo_disk.specs.Shelf.{CountsCall, IsAsBefore}
use Rattle.geo_model.specs.declared.command.DiskDecl.{DiskDecl}
use Rattle.geo_model.specs.declared.command.DiskKind.{DiskKind}
use Rattle.geo_model.specs.declared.command.DiskKind.TheVariants as disk_kinds
use Rattle.geo_model.specs.declared.step.Entry.{Entry}
use Rattle.geo_model.specs.World.{World, Plan}
use Rattle.geo_model.specs.Opening.{opening}
use Rattle.geo_model.specs.Plans.{IsPlan, IsDiskDecl, FactsFit}
use Rattle.geo_headline.specs.Modes.{Mode}
use Rattle.geo_headline.specs.Outside.{ShelfView, HasFactSectors, IsShelf, is_shelf, kept_back, IsThere, IsMissing, IsBadSize, HasToldSize, ImagesStay, ImagesStand, DisksAreKept, PlannedDisk, planned_disk, IsDiskKept, CountsStay, is_of_plan, IsForeign as IsForeignName}
use Rattle.geo_headline.specs.Endings.{Ending, Reported, ReportedButFault, ShelfFault, NoDisk, BadSize, OutOfMemory, LogFull, HasLog, LogRanFull, StopsAt, blamed_by, failed_takes}
use Rattle.geo_headline.specs.Headline.{GivesAreTold, HaveFactSectors, IsMissedAt, LentAfter, NoneAsked, TakesAreTold}
use Rattle.geo_run.specs.Drives.{DriveView, size_of}
use Rattle.geo_run.specs.declared.stop.Stop.{Stop}
use Rattle.geo_run.specs.declared.stop.Stop.TheVariants as stops
use Rattle.geo_run.specs.Stops.{ending_of}
use Rattle.geo_run.specs.Lending.{AreApart, AreOther, GivesBack, GivesUp, OpensDrives, OpensNoDrive, TakeCause, TakesBack, is_shelf_fault, names_of}
use Rattle.geo_run.specs.Ends.{LentCause, PlanCause, RunsDrives, RunsPlan, Served}
use Rattle.geo_run.proofs.Told.{OfName, IsSame, chain, of_name, same_twice}
use Rattle.geo_run.proofs.Taking.{EachHad, IsForeign, IsHad, each_had, takes_count, takes_no_fault, takes_lend, takes_stay}
use Rattle.geo_run.proofs.Giving.{GivesAll, SameKinds, gives_all, gives_stay}
use Rattle.geo_run.proofs.Fates.{first_kept, gives_fault, is_of, kept_of_plan}
use Rattle.geo_run.proofs.Outs.{apart_front}
use Rattle.geo_run.proofs.Visits.{all_in_order, none_in_order, stopped_in_order}
use Rattle.geo_run.proofs.Telling.{gives_no_fault, gives_take_none, gives_told, none_blamed}
use Rattle.geo_run.proofs.Planned.{all_there, apart_from, disks_kept, facts_had, kinds_had, kinds_served, sizes_told}
use Rattle.geo_run.proofs.Courses.{Course, course_back, course_fate, course_lent, course_rose, course_told, images_stand, images_stand_still, images_stay, none_asked, sizes_back}
use Rattle.geo_run.proofs.Untaken.{images_stand_same, images_stay_same, lent_still, others_still, told_still}

-- The parts of a course

decls_of : (plan : Plan) → IsPlan plan → AllByRecursion IsDiskDecl plan.disks
decls_of plan is = recursion_from_All IsDiskDecl plan.disks is.begins.disks

pub apart_of : (plan : Plan) → IsPlan plan → AreApart (names_of plan.disks)
apart_of plan is = apart_from (names_of plan.disks) is.begins.disk_names

-- after all takes the gives
taken_course : (a m b : ShelfView) (ds : List DiskDecl) (xs ys : List DriveView) (kept : List (List ℕ))
    → AllByRecursion IsDiskDecl ds → AreApart (names_of ds) → OpensDrives a ds xs m → GivesAll m ds ys kept b
    → Course a m b ds xs ys kept
taken_course a m b ds xs ys kept decls apart opens gives = record {
  decls = decls;
  apart = apart;
  had = each_had a m ds xs apart opens;
  lent = takes_lend a m ds xs opens;
  disks = (takes_count a m ds xs opens).disks;
  gives = (takes_count a m ds xs opens).gives;
  asked = (takes_count a m ds xs opens).asked;
  sectors = (takes_count a m ds xs opens).sectors;
  foreign = λ name foreign. (takes_stay a m ds xs name opens foreign).told;
  given = gives;
}

-- the drives after they served are of the same kinds
served_kinds : (log : Option (List Entry)) (ds : List DiskDecl) (xs ys : List DriveView) → SameKinds ds xs
    → Served log xs ys → SameKinds ds ys
served_kinds None ds xs ys kinds served = subst (λ (zs : List DriveView). SameKinds ds zs) (sym served) kinds
served_kinds (Some log) ds xs ys kinds served = kinds_served log 0 ds xs ys kinds served

not_less : {x y : ℕ} → y ≡ x → x ≤ y
not_less {x} {y} e = omega (arith, e)

-- at least no fault came where none is due
rose_none : (f x y : ℕ) → f ≡ 0 → x ≤ y → RoseBy f x y
rose_none f x y e le = omega arith

-- Where no disk is of the shelf

no_takes : (a b : ShelfView) (ds : List DiskDecl) (xs : List DriveView)
    → AllByRecursion (λ (d : DiskDecl). IsShelf d.kind → ⊥) ds → OpensDrives a ds xs b → b ≡ a
no_takes a b [] [] none h = h
no_takes a b (d ∷ ds) (x ∷ xs) none h = search (rules, no_takes h.0 b ds xs none.1 h.2)
no_takes a b _ _ none h = absurd h

no_gives : (a b : ShelfView) (ds : List DiskDecl) (xs : List DriveView) (kept : List (List ℕ))
    → AllByRecursion (λ (d : DiskDecl). IsShelf d.kind → ⊥) ds → GivesAll a ds xs kept b → b ≡ a
no_gives a b [] [] kept none h = h.1
no_gives a b (d ∷ ds) (x ∷ xs) kept none h = search (rules, no_gives h.0 b ds xs h.2 none.1 h.5)
no_gives a b _ _ kept none h = absurd h

-- What is lent and what is foreign

lent_after : (ending : Ending) (a m b : ShelfView) (ds : List DiskDecl) (xs ys : List DriveView)
    (kept : List (List ℕ)) → Course a m b ds xs ys kept → RoseBy (failed_takes ending) a.faults m.faults
    → LentAfter ending a b
lent_after ending a m b ds xs ys kept c rose =
    search (
      rules,
      course_back a m b ds xs ys kept c,
      rose,
      gives_fault m b ds ys kept c.given,
      course_rose a m b ds xs ys kept c,
    )

-- of each name that was kept back one give failed, and of each other none
course_gives : (a m b : ShelfView) (ds : List DiskDecl) (xs ys : List DriveView)
    (kept : List (List ℕ)) → Course a m b ds xs ys kept → GivesAreTold a b
course_gives a m b ds xs ys kept c name =
    gives_told m b ds ys kept name c.apart c.given
    ∙ ap (λ (k : ℕ). counted_if (list_any (bytes_eq name) kept) k) (c.gives name)
    ∙ ap (λ (ks : List (List ℕ)). counted_if (list_any (bytes_eq name) ks) (a.give_faults name))
    (sym (course_back a m b ds xs ys kept c))

-- the names that are kept are of these disks
kept_of : (a m b : ShelfView) (ds : List DiskDecl) (xs ys : List DriveView) (kept : List (List ℕ))
    → Course a m b ds xs ys kept → AllByRecursion (λ name. is_of ds name ≡ true) (kept_back a b)
kept_of a m b ds xs ys kept c = search (rules, course_back a m b ds xs ys kept c, kept_of_plan m b ds ys kept c.given)

still_lent : (a m b : ShelfView) (ds : List DiskDecl) (xs ys : List DriveView) (kept : List (List ℕ))
    → Course a m b ds xs ys kept → (name : List ℕ) → Contains a.lent name → Contains b.lent name
still_lent a m b ds xs ys kept c name lent =
    search (rules, course_lent a m b ds xs ys kept c, Contains-append_left a.lent kept name lent)

foreign_counts : (a m b : ShelfView) (ds : List DiskDecl) (xs ys : List DriveView) (kept : List (List ℕ))
    → Course a m b ds xs ys kept → (name : List ℕ) → m.take_faults name ≡ a.take_faults name → IsForeign name ds
    → CountsStay a b name
foreign_counts a m b ds xs ys kept c name takes foreign =
    let stays = gives_stay m b ds ys kept name c.given foreign in
    record {
      disk = stays.disks ∙ c.disks name;
      takes = stays.takes ∙ takes;
      gives = stays.gives ∙ c.gives name;
      asked = stays.asked ∙ c.asked name;
      sectors = stays.sectors ∙ c.sectors name;
    }

-- Over drives

-- no take failed where the drives were had
no_failed : (mode : Mode) (plan : Plan) (opened : World) (log : Option (List Entry)) (kept : List (List ℕ))
    (ending : Ending)
    → LentCause mode plan opened log kept ending → failed_takes ending ≡ 0
no_failed mode plan opened log kept (ShelfFault name) h = absurd h
no_failed mode plan opened log kept _ h = refl

-- nor was one missed
none_missed : (mode : Mode) (plan : Plan) (opened : World) (log : Option (List Entry)) (kept : List (List ℕ))
    (ending : Ending)
    → LentCause mode plan opened log kept ending → IsMissedAt ending []
none_missed mode plan opened log kept (ShelfFault name) h = absurd h
none_missed mode plan opened log kept (NoDisk name) h = absurd h
none_missed mode plan opened log kept (BadSize name) h = absurd h
none_missed mode plan opened log kept OutOfMemory h = omega arith
none_missed mode plan opened log kept _ h = refl

some_log : (mode : Mode) (plan : Plan) (opened : World) (log : Option (List Entry))
    → IsSomeAnd log (LogRanFull mode plan opened) → IsSome log
some_log mode plan opened None h = absurd h
some_log mode plan opened (Some l) h = refl

has_log : (mode : Mode) (plan : Plan) (opened : World) (log : Option (List Entry)) (kept : List (List ℕ))
    (ending : Ending)
    → LentCause mode plan opened log kept ending → HasLog ending log
has_log mode plan opened log kept Reported h = h.0
has_log mode plan opened log kept (ReportedButFault name) h = h.0
has_log mode plan opened log kept OutOfMemory h = tt
has_log mode plan opened log kept LogFull h = some_log mode plan opened log h
has_log mode plan opened log kept _ h = absurd h

plan_cause : (mode : Mode) (plan : Plan) (opened : World) (log : Option (List Entry)) (a m b : ShelfView)
    (xs ys : List DriveView) (kept : List (List ℕ)) (ending : Ending) → Course a m b plan.disks xs ys kept
    → LentCause mode plan opened log kept ending → PlanCause mode plan opened log a b ending
plan_cause mode plan opened log a m b xs ys kept Reported c h = (h.0, course_back a m b plan.disks xs ys kept c ∙ h.1)
plan_cause mode plan opened log a m b xs ys kept (ReportedButFault name) c h = (
  h.0,
  search (rules, course_back a m b plan.disks xs ys kept c, first_kept m b plan.disks ys kept name c.apart c.given h.1),
  rose (kept_back a b) (ap (λ (ks : List (List ℕ)). slice_get ks 0) (course_back a m b plan.disks xs ys kept c) ∙ h.1)
      (recursion_from_All (λ n. Rose (a.give_faults n) (b.give_faults n)) (kept_back a b)
      (course_rose a m b plan.disks xs ys kept c)),
)
  where
    rose : (names : List (List ℕ)) → slice_get names 0 ≡ Some name
        → AllByRecursion (λ n. Rose (a.give_faults n) (b.give_faults n)) names
        → Rose (a.give_faults name) (b.give_faults name)
    rose [] e all = absurd (let bad : None ≡ Some name = e in cc)
    rose (n ∷ names) e all = search rules
plan_cause mode plan opened log a m b xs ys kept OutOfMemory c h = tt
plan_cause mode plan opened log a m b xs ys kept LogFull c h = h
plan_cause mode plan opened log a m b xs ys kept _ c h = absurd h

-- each disk, where there is a log
disks_by : (plan : Plan) (log : Option (List Entry)) (a m b : ShelfView) (xs ys : List DriveView)
    (kept : List (List ℕ)) → Course a m b plan.disks xs ys kept → Served log xs ys
    → IfSome log (DisksAreKept plan a b)
disks_by plan None a m b xs ys kept c served = tt
disks_by plan (Some log) a m b xs ys kept c served =
    All-from_recursion (λ (p : PlannedDisk). IsDiskKept a b log p p.decl.kind)
    (map planned_disk (enumerate_from 0 plan.disks))
    (disks_kept a m b log 0 plan.disks xs ys kept (course_back a m b plan.disks xs ys kept c) c.had served
    (course_fate a m b plan.disks xs ys kept c))

images_by : (plan : Plan) (log : Option (List Entry)) (a m b : ShelfView) (xs ys : List DriveView)
    (kept : List (List ℕ)) → Course a m b plan.disks xs ys kept → Served log xs ys → IfNone log (ImagesStay a b)
images_by plan None a m b xs ys kept c served =
    images_stay a m b plan.disks xs kept (subst (λ (zs : List DriveView). Course a m b plan.disks xs zs kept) served c)
images_by plan (Some log) a m b xs ys kept c served = tt

unasked_by : (plan : Plan) (log : Option (List Entry)) (a m b : ShelfView) (xs ys : List DriveView)
    (kept : List (List ℕ)) → Course a m b plan.disks xs ys kept → Served log xs ys → IfNone log (NoneAsked a b)
unasked_by plan None a m b xs ys kept c served =
    none_asked a m b plan.disks xs kept (subst (λ (zs : List DriveView). Course a m b plan.disks xs zs kept) served c)
unasked_by plan (Some log) a m b xs ys kept c served = tt

sizes_by : (plan : Plan) (log : Option (List Entry)) (a m b : ShelfView) (xs ys : List DriveView)
    (kept : List (List ℕ)) → Course a m b plan.disks xs ys kept → Served log xs ys → IsSome log
    → HaveFactSectors plan (map size_of xs) b
sizes_by plan None a m b xs ys kept c served some = absurd (let bad : false ≡ true = some in cc)
sizes_by plan (Some log) a m b xs ys kept c served some =
    All-from_recursion (HasFactSectors b) (zip plan.disks (map size_of xs))
    (sizes_back m b log 0 plan.disks xs ys kept served (course_fate a m b plan.disks xs ys kept c))

stand_by : (plan : Plan) (log : Option (List Entry)) (a m b : ShelfView) (xs ys : List DriveView)
    (kept : List (List ℕ)) → Course a m b plan.disks xs ys kept → Served log xs ys → ImagesStand a b
stand_by plan None a m b xs ys kept c served =
    images_stand_still a m b plan.disks xs kept
    (subst (λ (zs : List DriveView). Course a m b plan.disks xs zs kept) served c)
stand_by plan (Some log) a m b xs ys kept c served = images_stand a m b log plan.disks xs ys kept c served

-- a plan whose drives were had and served
pub runs_plan : (mode : Mode) (plan : Plan) (facts : List (ℕ × ℕ)) (log : Option (List Entry)) (ending : Ending)
    (xs : List DriveView) (a m b : ShelfView) → IsPlan plan → OpensDrives a plan.disks xs m
    → RunsDrives mode plan (names_of plan.disks) xs facts log ending m b → RunsPlan mode plan facts log ending a b
runs_plan mode plan facts log ending xs a m b is opens r = record {
  cause = plan_cause mode plan (opening plan facts) log a m b xs r.served r.kept ending course r.cause;
  has_log = has_log mode plan (opening plan facts) log r.kept ending r.cause;
  opens = λ some. record {
    there = All-from_recursion (IsThere a) plan.disks (all_there a m plan.disks xs course.had);
    facts_fit = subst (λ (fs : List (ℕ × ℕ)). FactsFit plan fs) (sym (r.sizes some))
        (facts_had a m plan.disks xs course.decls course.had);
    told_sizes = subst (λ (fs : List (ℕ × ℕ)). All (HasToldSize a) (zip plan.disks fs)) (sym (r.sizes some))
        (All-from_recursion (HasToldSize a) (zip plan.disks (map size_of xs))
        (sizes_told a m plan.disks xs course.decls course.had));
  };
  mesh = r.mesh;
  disks = disks_by plan log a m b xs r.served r.kept course r.serves;
  lent = lent_after ending a m b plan.disks xs r.served r.kept course
      (rose_none (failed_takes ending) a.faults m.faults
      (no_failed mode plan (opening plan facts) log r.kept ending r.cause)
      (not_less (takes_no_fault a m plan.disks xs opens)));
  calls = record {
    takes = none_blamed ending a b (no_failed mode plan (opening plan facts) log r.kept ending r.cause)
        (λ name. gives_take_none m b plan.disks r.served r.kept name course.given
        ∙ (takes_count a m plan.disks xs opens).takes name);
    gives = course_gives a m b plan.disks xs r.served r.kept course;
    no_fault = λ other no_take none. gives_no_fault m b plan.disks r.served r.kept course.given
        (sym (course_back a m b plan.disks xs r.served r.kept course) ∙ none) ∙ takes_no_fault a m plan.disks xs opens;
  };
  in_order = all_in_order plan ending log a m b xs r.served r.kept
      (none_missed mode plan (opening plan facts) log r.kept ending r.cause) opens course.given;
  others = record {
    bytes =
        λ name foreign. (course_told a m b plan.disks xs r.served r.kept course name (names_foreign name foreign)).is;
    counts = λ name foreign. foreign_counts a m b plan.disks xs r.served r.kept course name
        ((takes_count a m plan.disks xs opens).takes name) (names_foreign name foreign);
    still_lent = still_lent a m b plan.disks xs r.served r.kept course;
    of_plan = All-from_recursion (λ name. IsTrue (is_of_plan plan name)) (kept_back a b)
        (kept_of a m b plan.disks xs r.served r.kept course);
  };
  unasked = unasked_by plan log a m b xs r.served r.kept course r.serves;
  sizes = search (rules, sizes_by plan log a m b xs r.served r.kept course r.serves);
  images = images_by plan log a m b xs r.served r.kept course r.serves;
  images_stand = stand_by plan log a m b xs r.served r.kept course r.serves;
  untouched = λ none.
      let each = recursion_from_All (λ (d : DiskDecl). IsShelf d.kind → ⊥) plan.disks none in
      no_gives m b plan.disks r.served r.kept each course.given ∙ no_takes a m plan.disks xs each opens;
}
  where
    kinds : SameKinds plan.disks xs
    kinds = kinds_had a m plan.disks xs (each_had a m plan.disks xs (apart_of plan is) opens)

    course : Course a m b plan.disks xs r.served r.kept
    course = taken_course a m b plan.disks xs r.served r.kept (decls_of plan is) (apart_of plan is) opens
        (gives_all m b plan.disks r.served r.kept (served_kinds log plan.disks xs r.served kinds r.serves) r.given)

    names_foreign : (name : List ℕ) → IsForeignName plan name → IsForeign name plan.disks
    names_foreign name foreign =
        recursion_from_All (λ (d : DiskDecl). IsShelf d.kind → d.name ≢ name) plan.disks foreign

-- Where a disk couldn't be had

-- a take that failed leaves all but what it counts
record Stopped (a b : ShelfView) (d : DiskDecl) (stop : Stop) (kind : DiskKind) : Type 0 where
  told : (name : List ℕ) → OfName a.told b.told name IsSame
  lent : b.lent ≡ a.lent
  disks : (name : List ℕ) → b.faults_of name ≡ a.faults_of name
  gives : (name : List ℕ) → b.give_faults name ≡ a.give_faults name
  asked : (name : List ℕ) → b.asked_of name ≡ a.asked_of name
  sectors : (name : List ℕ) → b.sectors_of name ≡ a.sectors_of name
  takes : (name : List ℕ) → (IsShelf kind → d.name ≢ name) → b.take_faults name ≡ a.take_faults name
  faults : RoseBy (failed_takes (ending_of stop)) a.faults b.faults

take_stopped : (a b : ShelfView) (d : DiskDecl) (stop : Stop) (kind : DiskKind) → OpensNoDrive a d stop b kind
    → Stopped a b d stop kind
take_stopped a b d stop disk_kinds.Ram h = search rules
take_stopped a b d stop disk_kinds.Shelf h = record {
  told = λ name. of_name a.told b.told name IsAsBefore (λ o v p. p name) h.told;
  lent = h.lent;
  disks = h.disks;
  gives = h.gives;
  asked = h.asked;
  sectors = h.sectors;
  takes = λ name foreign. h.takes.others name (λ e. foreign refl (sym e));
  faults = by stop h.cause;
}
  where
    by : (s : Stop) → TakeCause a d s b → RoseBy (failed_takes (ending_of s)) a.faults b.faults
    by (stops.ShelfFault name) c = c.1
    by (stops.NoDisk name) c = rose_none 0 a.faults b.faults refl h.later
    by (stops.BadSize name) c = rose_none 0 a.faults b.faults refl h.later
    by stops.NoMemory c = rose_none 0 a.faults b.faults refl h.later
    by _ c = absurd c

-- the take that failed is the one that is blamed
stopped_takes : (a m n b : ShelfView) (d : DiskDecl) (stop : Stop) (kind : DiskKind)
    → OpensNoDrive m d stop n kind → ((name : List ℕ) → m.take_faults name ≡ a.take_faults name)
    → ((name : List ℕ) → b.take_faults name ≡ n.take_faults name) → TakesAreTold (blamed_by (ending_of stop)) a b
stopped_takes a m n b d stop disk_kinds.Ram h before after = search rules
stopped_takes a m n b d stop disk_kinds.Shelf h before after = by stop h.cause h.takes
  where
    -- what is counted of the name, and what of each other
    counted : (t : Bool) (name : List ℕ) → CountsCall t d.name m.take_faults n.take_faults
        → b.take_faults name ≡ counted_if (t && bytes_eq d.name name) (a.take_faults name)
    counted t name c = search rules

    by : (s : Stop) → TakeCause m d s n → CountsCall (is_shelf_fault s) d.name m.take_faults n.take_faults
        → TakesAreTold (blamed_by (ending_of s)) a b
    by (stops.ShelfFault name) c takes = search rules
    by (stops.NoDisk name) c takes = λ z. counted false z takes
    by (stops.BadSize name) c takes = λ z. counted false z takes
    by stops.NoMemory c takes = λ z. counted false z takes
    by _ c takes = absurd c

-- a take that didn't fail is no fault, unless memory ran out
stopped_no_fault : (m n : ShelfView) (d : DiskDecl) (stop : Stop) (kind : DiskKind) → OpensNoDrive m d stop n kind
    → ending_of stop ≢ OutOfMemory → failed_takes (ending_of stop) ≡ 0 → n.faults ≡ m.faults
stopped_no_fault m n d stop disk_kinds.Ram h other none = ap (λ (v : ShelfView). v.faults) h.1
stopped_no_fault m n d stop disk_kinds.Shelf h other none = search rules

-- the drives that were had, by the shelf after the failed take
had_along : (a m n : ShelfView) (ds : List DiskDecl) (xs : List DriveView)
    → ((name : List ℕ) → OfName m.told n.told name IsSame) → EachHad a m ds xs → EachHad a n ds xs
had_along a m n [] [] told h = tt
had_along a m n (d ∷ ds) (x ∷ xs) told h = (one d.kind h.0, had_along a m n ds xs told h.1)
  where
    one : (kind : DiskKind) → IsHad a m d x kind → IsHad a n d x kind
    one disk_kinds.Ram had = had
    one disk_kinds.Shelf had = record {
      kind = had.kind;
      not_lent = had.not_lent;
      size = had.size;
      brought = had.brought;
      asked = had.asked;
      counted = had.counted;
      image = chain a.told m.told n.told d.name (λ u v w p q. (p.0, q ∙ p.1)) had.image (told d.name);
    }
had_along a m n _ _ told h = absurd h

front_of : (P : DiskDecl → Type 0) (front back : List DiskDecl) → AllByRecursion P (front ++ back)
    → AllByRecursion P front
front_of P [] back all = tt
front_of P (d ∷ front) back all = (all.0, front_of P front back all.1)

back_of : (P : DiskDecl → Type 0) (front back : List DiskDecl) → AllByRecursion P (front ++ back)
    → AllByRecursion P back
back_of P [] back all = all
back_of P (d ∷ front) back all = back_of P front back all.1

-- a name of the disk is foreign to those before it
foreign_front : (front : List DiskDecl) (d : DiskDecl) (back : List DiskDecl) → AreApart (names_of (front ++ d ∷ back))
    → IsForeign d.name front
foreign_front [] d back apart = tt
foreign_front (e ∷ front) d back apart = (λ s. differ front apart.0, foreign_front front d back apart.1)
  where
    differ : (fs : List DiskDecl) → AreOther e.name (names_of (fs ++ d ∷ back)) → e.name ≢ d.name
    differ [] others = λ same_name. others.0 (sym same_name)
    differ (f ∷ fs) others = differ fs others.1

-- the names of the front are of the plan
more_of : (front back : List DiskDecl) (names : List (List ℕ))
    → AllByRecursion (λ name. is_of front name ≡ true) names
    → AllByRecursion (λ name. is_of (front ++ back) name ≡ true) names
more_of front back [] all = tt
more_of front back (n ∷ names) all = (one front all.0, more_of front back names all.1)
  where
    one : (ds : List DiskDecl) → is_of ds n ≡ true → is_of (ds ++ back) n ≡ true
    one [] e = absurd (let bad : false ≡ true = e in cc)
    one (d ∷ ds) e = search (rules, one ds)

-- a fact on what a name had, by a shelf on which the name is the same
told_before : (a b : Option Images) (name : List ℕ) (F : Option (List ℕ) → Type 0) → OfName a b name IsSame
    → IfSome b (λ images. F (images name)) → IfSome a (λ images. F (images name))
told_before None b name F h f = tt
told_before (Some u) None name F h f = absurd h.is
told_before (Some u) (Some v) name F h f = subst F h.is f

any_fact : (a : Option Images) → IfSome a (λ images. ⊤)
any_fact None = tt
any_fact (Some u) = tt

-- where a take stopped
stops_for : (plan : Plan) (a : ShelfView) (front : List DiskDecl) (d : DiskDecl) (back : List DiskDecl) (name : List ℕ)
    (F : DiskDecl → Images → Type 0) → plan.disks ≡ front ++ d ∷ back → IsShelf d.kind → name ≡ d.name
    → AllByRecursion (IsThere a) front → IfSome a.told (F d) → StopsAt a plan name F
stops_for plan a front d back name F e shelf named there cause = record {
  front = front;
  disk = d;
  back = back;
  in_plan = e;
  of_shelf = shelf;
  named = sym named;
  earlier = All-from_recursion (IsThere a) front there;
  cause = cause;
}

-- why a plan ends so whose disks couldn't be had
stopped_cause : (mode : Mode) (plan : Plan) (facts : List (ℕ × ℕ)) (a m n b : ShelfView) (front : List DiskDecl)
    (d : DiskDecl)
    (back : List DiskDecl) (stop : Stop) (kind : DiskKind) → d.kind ≡ kind → plan.disks ≡ front ++ d ∷ back
    → AllByRecursion (IsThere a) front → OfName a.told m.told d.name IsSame
    → m.take_faults d.name ≡ a.take_faults d.name
    → b.take_faults d.name ≡ n.take_faults d.name → OpensNoDrive m d stop n kind
    → PlanCause mode plan (opening plan facts) None a b (ending_of stop)
stopped_cause mode plan facts a m n b front d back stop disk_kinds.Ram k e there told before after h = search rules
stopped_cause mode plan facts a m n b front d back stop disk_kinds.Shelf k e there told before after h =
    by stop h.cause h.takes
  where
    shelf : IsShelf d.kind
    shelf = ap is_shelf k

    by : (s : Stop) → TakeCause m d s n → CountsCall (is_shelf_fault s) d.name m.take_faults n.take_faults
        → PlanCause mode plan (opening plan facts) None a b (ending_of s)
    by (stops.ShelfFault name) c takes =
        search (
          rules,
          stops_for plan a front d back name (λ z images. ⊤) e shelf c.0 there (any_fact a.told),
          n.take_faults d.name,
        )
    by (stops.NoDisk name) c takes =
        stops_for plan a front d back name IsMissing e shelf c.0 there
        (told_before a.told m.told d.name (λ o. o ≡ None) told
        (subst (λ (z : List ℕ). IfSome m.told (λ images. images z ≡ None)) c.0 c.1))
    by (stops.BadSize name) c takes =
        stops_for plan a front d back name IsBadSize e shelf c.0 there
        (told_before a.told m.told d.name (λ o. IsSomeAnd o (λ bytes. IsDiskSize d.sector (length bytes) → ⊥)) told
        (subst (λ (z : List ℕ). IfSome m.told
        (λ images. IsSomeAnd (images z) (λ bytes. IsDiskSize d.sector (length bytes) → ⊥))) c.0 c.1))
    by stops.NoMemory c takes = tt
    by _ c takes = absurd c

no_log : (mode : Mode) (plan : Plan) (opened : World) (a b : ShelfView) (ending : Ending)
    → PlanCause mode plan opened None a b ending
    → HasLog ending None
no_log mode plan opened a b Reported c = c.0
no_log mode plan opened a b (ReportedButFault name) c = c.0
no_log mode plan opened a b OutOfMemory c = tt
no_log mode plan opened a b (ShelfFault name) c = refl
no_log mode plan opened a b (NoDisk name) c = refl
no_log mode plan opened a b (BadSize name) c = refl
no_log mode plan opened a b _ c = absurd c

-- a plan of which nothing was done
nothing_done : (mode : Mode) (plan : Plan) (facts : List (ℕ × ℕ)) (a : ShelfView)
    → RunsPlan mode plan facts None OutOfMemory a a
nothing_done mode plan facts a = record {
  cause = tt;
  has_log = tt;
  opens = λ some. absurd (let bad : false ≡ true = some in cc);
  mesh = tt;
  disks = tt;
  lent = lent_still OutOfMemory a refl;
  calls = told_still OutOfMemory a refl;
  in_order = none_in_order plan OutOfMemory a refl;
  others = others_still plan a;
  unasked = λ name. record { faults = refl; asked = refl };
  sizes = λ some. absurd (let bad : false ≡ true = some in cc);
  images = images_stay_same a;
  images_stand = images_stand_same a;
  untouched = λ none. refl;
}

-- a plan whose disks couldn't all be had
gave_up : (mode : Mode) (plan : Plan) (facts : List (ℕ × ℕ)) (stop : Stop) (a b : ShelfView) → IsPlan plan
    → GivesUp a plan.disks stop b → RunsPlan mode plan facts None (ending_of stop) a b
gave_up mode plan facts stop a b is g = record {
  cause = cause;
  has_log = no_log mode plan (opening plan facts) a b (ending_of stop) cause;
  opens = λ some. absurd (let bad : false ≡ true = some in cc);
  mesh = tt;
  disks = tt;
  lent = lent_after (ending_of stop) a n b front xs xs g.kept course
      (later (failed_takes (ending_of stop)) a.faults m.faults n.faults
      (not_less (takes_no_fault a m front xs g.stops.earlier)) left.faults);
  calls = record {
    takes = stopped_takes a m n b disk stop disk.kind g.stops.stopped
        (λ name. (takes_count a m front xs g.stops.earlier).takes name)
        (λ name. gives_take_none n b front xs g.kept name course.given);
    gives = course_gives a n b front xs xs g.kept course;
    no_fault = λ other no_take none. gives_no_fault n b front xs g.kept course.given
        (sym (course_back a n b front xs xs g.kept course) ∙ none)
        ∙ stopped_no_fault m n disk stop disk.kind g.stops.stopped other no_take
        ∙ takes_no_fault a m front xs g.stops.earlier;
  };
  in_order =
      stopped_in_order plan stop a m n b front disk back xs xs g.kept e g.stops.earlier g.stops.stopped course.given;
  others = record {
    bytes = λ name foreign. (course_told a n b front xs xs g.kept course name (names_foreign name foreign)).is;
    counts = λ name foreign. foreign_counts a n b front xs xs g.kept course name
        (left.takes name (disk_foreign name foreign) ∙ (takes_count a m front xs g.stops.earlier).takes name)
        (names_foreign name foreign);
    still_lent = still_lent a n b front xs xs g.kept course;
    of_plan = All-from_recursion (λ name. IsTrue (is_of_plan plan name)) (kept_back a b)
        (subst (λ (ds : List DiskDecl). AllByRecursion (λ name. is_of ds name ≡ true) (kept_back a b)) (sym e)
        (more_of front (disk ∷ back) (kept_back a b) (kept_of a n b front xs xs g.kept course)));
  };
  unasked = none_asked a n b front xs g.kept course;
  sizes = λ some. absurd (let bad : false ≡ true = some in cc);
  images = images_stay a n b front xs g.kept course;
  images_stand = images_stand_still a n b front xs g.kept course;
  untouched = λ none.
      let each : AllByRecursion (λ (d : DiskDecl). IsShelf d.kind → ⊥) (front ++ disk ∷ back) =
      subst (λ (ds : List DiskDecl). AllByRecursion (λ (d : DiskDecl). IsShelf d.kind → ⊥) ds) e
      (recursion_from_All (λ (d : DiskDecl). IsShelf d.kind → ⊥) plan.disks none) in
      no_gives n b front xs g.kept (front_of (λ (d : DiskDecl). IsShelf d.kind → ⊥) front (disk ∷ back) each)
      course.given
      ∙ no_stop disk.kind (back_of (λ (d : DiskDecl). IsShelf d.kind → ⊥) front (disk ∷ back) each).0 g.stops.stopped
      ∙ no_takes a m front xs (front_of (λ (d : DiskDecl). IsShelf d.kind → ⊥) front (disk ∷ back) each)
      g.stops.earlier;
}
  where
    front : List DiskDecl
    front = g.stops.front

    disk : DiskDecl
    disk = g.stops.disk

    back : List DiskDecl
    back = g.stops.back

    xs : List DriveView
    xs = g.drives

    m : ShelfView
    m = g.stops.between

    n : ShelfView
    n = g.between

    e : plan.disks ≡ front ++ disk ∷ back
    e = g.stops.all

    apart : AreApart (names_of (front ++ disk ∷ back))
    apart = subst (λ (ds : List DiskDecl). AreApart (names_of ds)) e (apart_of plan is)

    apart_fronts : AreApart (names_of front)
    apart_fronts = apart_front (names_of front) (names_of (disk ∷ back))
        (subst AreApart (map-append (λ (d : DiskDecl). d.name) front (disk ∷ back)) apart)

    left : Stopped m n disk stop disk.kind
    left = take_stopped m n disk stop disk.kind g.stops.stopped

    had : EachHad a m front xs
    had = each_had a m front xs apart_fronts g.stops.earlier

    course : Course a n b front xs xs g.kept
    course = record {
      decls = front_of IsDiskDecl front (disk ∷ back)
          (subst (λ (ds : List DiskDecl). AllByRecursion IsDiskDecl ds) e (decls_of plan is));
      apart = apart_fronts;
      had = had_along a m n front xs left.told had;
      lent = left.lent ∙ takes_lend a m front xs g.stops.earlier;
      disks = λ name. left.disks name ∙ (takes_count a m front xs g.stops.earlier).disks name;
      gives = λ name. left.gives name ∙ (takes_count a m front xs g.stops.earlier).gives name;
      asked = λ name. left.asked name ∙ (takes_count a m front xs g.stops.earlier).asked name;
      sectors = λ name. left.sectors name ∙ (takes_count a m front xs g.stops.earlier).sectors name;
      foreign = search (rules, same_twice a.told m.told n.told, takes_stay a m front xs);
      given = gives_all n b front xs g.kept (kinds_had a m front xs had)
          (subst (λ (ns : List (List ℕ)). GivesBack n ns xs g.kept b) g.stops.named g.given);
    }

    foreign_disk : IsForeign disk.name front
    foreign_disk = foreign_front front disk back apart

    cause : PlanCause mode plan (opening plan facts) None a b (ending_of stop)
    cause = stopped_cause mode plan facts a m n b front disk back stop disk.kind refl e (all_there a m front xs had)
        (takes_stay a m front xs disk.name g.stops.earlier foreign_disk).told
        ((takes_count a m front xs g.stops.earlier).takes disk.name)
        (gives_stay n b front xs g.kept disk.name course.given foreign_disk).takes g.stops.stopped

    all_foreign : (name : List ℕ) → IsForeignName plan name
        → AllByRecursion (λ (d : DiskDecl). IsShelf d.kind → d.name ≢ name) (front ++ disk ∷ back)
    all_foreign name foreign =
        subst (λ (ds : List DiskDecl). AllByRecursion (λ (d : DiskDecl). IsShelf d.kind → d.name ≢ name) ds) e
        (recursion_from_All (λ (d : DiskDecl). IsShelf d.kind → d.name ≢ name) plan.disks foreign)

    names_foreign : (name : List ℕ) → IsForeignName plan name → IsForeign name front
    names_foreign name foreign =
        front_of (λ (d : DiskDecl). IsShelf d.kind → d.name ≢ name) front (disk ∷ back) (all_foreign name foreign)

    disk_foreign : (name : List ℕ) → IsForeignName plan name → IsShelf disk.kind → disk.name ≢ name
    disk_foreign name foreign =
        (back_of (λ (d : DiskDecl). IsShelf d.kind → d.name ≢ name) front (disk ∷ back) (all_foreign name foreign)).0

    later : (f x y z : ℕ) → x ≤ y → RoseBy f y z → RoseBy f x z
    later f x y z le r = let h : min (y + f) (2 ^ 64 - 1) ≤ z = r in omega (arith, le, h)

    no_stop : (kind : DiskKind) → (IsShelf kind → ⊥) → OpensNoDrive m disk stop n kind → n ≡ m
    no_stop disk_kinds.Ram never h = h.1
    no_stop disk_kinds.Shelf never h = absurd (never refl)

-- a plan whose disks weren't all had
pub runs_stopped : (mode : Mode) (plan : Plan) (facts : List (ℕ × ℕ)) (stop : Stop) (a b : ShelfView) → IsPlan plan
    → TakesBack a plan.disks stop b → RunsPlan mode plan facts None (ending_of stop) a b
runs_stopped mode plan facts stop a b is (inl same_shelf) = search (rules, nothing_done mode plan facts a)
runs_stopped mode plan facts stop a b is (inr g) = gave_up mode plan facts stop a b is g
