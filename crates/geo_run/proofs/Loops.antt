-- Disks that are taken and given back one after the other.
use Rattle.std.proofs.Common.{◌≡◌, ℕ, ◌+◌, ◌-◌, ◌<◌, ◌≤◌, List, [], ◌∷◌, ◌++◌, length, map, take, drop, get_or, refl, sym, ◌∙◌, ap, subst, Option, Some, None, Bool, true, false, slice_get, rules}
use Rattle.std.proofs.lemmas.List.{append-nil, drop_more, map-append, length-drop, take-append-drop, take_more, length_push, nil_from_length}
use Rattle.geo_model.specs.declared.command.DiskDecl.{DiskDecl}
use Rattle.geo_model.specs.declared.step.Entry.{Entry}
use Rattle.geo_disk.proofs.CountLemmas.{counted_many_later}
use Rattle.geo_headline.specs.Outside.{ShelfView, failures_of}
use Rattle.geo_serve.specs.Served.{IsServed}
use Rattle.geo_run.specs.Drives.{DriveView, ServeAll, drive_kind}
use Rattle.geo_run.specs.declared.stop.Stop.{Stop}
use Rattle.geo_run.specs.Lending.{AreOut, GivesBack, GivesDrive, OpensDrive, OpensDrives, OpensNoDrive, StopsOpening, first_kept, kept_name, names_of}
use Rattle.geo_run.proofs.Taking.{opens_more}
use Rattle.geo_run.proofs.Giving.{gives_more, out_next}

-- Taking

-- a disk that couldn't be had, after those before it
pub stops_at : (a b c : ShelfView) (ds : List DiskDecl) (i : ℕ) (d : DiskDecl) (names : List (List ℕ))
    (xs : List DriveView) (stop : Stop) → i < length ds → d ≡ get_or ds i d → names ≡ names_of (take i ds)
    → OpensDrives a (take i ds) xs b → OpensNoDrive b d stop c d.kind → StopsOpening a ds names xs stop c
stops_at a b c ds i d names xs stop lt at named opens fails =
    search (rules, take-append-drop i ds, ap (λ es. take i ds ++ es) (drop_more ds i d lt))

-- one disk more
pub opens_next : (a b c : ShelfView) (ds : List DiskDecl) (i : ℕ) (d : DiskDecl) (xs : List DriveView) (x : DriveView)
    → i < length ds → d ≡ get_or ds i d → OpensDrives a (take i ds) xs b → OpensDrive b d x c d.kind
    → OpensDrives a (take (i + 1) ds) (xs ++ x ∷ []) c
opens_next a b c ds i d xs x lt at opens one =
    search (rules, take_more ds i d lt, opens_more a b c (take i ds) d xs x opens one)

-- and its name
pub named_next : (ds : List DiskDecl) (i : ℕ) (d : DiskDecl) (names : List (List ℕ)) → i < length ds
    → d ≡ get_or ds i d → names ≡ names_of (take i ds) → names ++ d.name ∷ [] ≡ names_of (take (i + 1) ds)
named_next ds i d names lt at named =
    search (rules, take_more ds i d lt, map-append (λ (e : DiskDecl). e.name) (take i ds) (d ∷ []))

-- Giving back

-- where a drive is left, a name is left
pub name_left : (s : ShelfView) (names : List (List ℕ)) (n : ℕ) (x : DriveView) (xs : List DriveView)
    → AreOut s (drop n names) (x ∷ xs) → n < length names
name_left s names n x xs out = by (drop n names) refl out
  where
    by : (left : List (List ℕ)) → drop n names ≡ left → AreOut s left (x ∷ xs) → n < length names
    by [] e h = absurd h
    by (m ∷ ms) e h = search (rules, length-drop n names)

-- where none is left, all names were given
pub none_left : (s : ShelfView) (names : List (List ℕ)) (n : ℕ) → AreOut s (drop n names) [] → take n names ≡ names
none_left s names n out = by (drop n names) refl out
  where
    by : (left : List (List ℕ)) → drop n names ≡ left → AreOut s left [] → take n names ≡ names
    by [] e h = sym (append-nil (take n names)) ∙ ap (λ ns. take n names ++ ns) (sym e) ∙ take-append-drop n names
    by (m ∷ ms) e h = absurd h

-- the name of the next drive, and the others
pub next_out : (s : ShelfView) (names : List (List ℕ)) (n : ℕ) (name : List ℕ) (x : DriveView) (xs : List DriveView)
    → n < length names → name ≡ get_or names n name → AreOut s (drop n names) (x ∷ xs)
    → AreOut s (name ∷ drop (n + 1) names) (x ∷ xs)
next_out s names n name x xs lt at out = search (rules, drop_more names n name lt)

-- one more was given back
pub gives_next : (a b c : ShelfView) (names : List (List ℕ)) (n : ℕ) (name : List ℕ) (xs : List DriveView)
    (x : DriveView) (kept k : List (List ℕ)) → n < length names → name ≡ get_or names n name
    → GivesBack a (take n names) xs kept b → GivesDrive b name x k c (drive_kind x)
    → GivesBack a (take (n + 1) names) (xs ++ x ∷ []) (kept ++ k) c
gives_next a b c names n name xs x kept k lt at given one =
    search (rules, take_more names n name lt, gives_more a b c (take n names) name xs x kept k given one)

-- the first that is kept stays the first
pub first_stays : (kept k : List (List ℕ)) (name : List ℕ) → slice_get kept 0 ≡ Some name
    → slice_get (kept ++ k) 0 ≡ Some name
first_stays [] k name e = absurd (let bad : None ≡ Some name = e in cc)
first_stays (n ∷ kept) k name e = e

pub first_none : (kept k : List (List ℕ)) → slice_get kept 0 ≡ None → slice_get (kept ++ k) 0 ≡ slice_get k 0
first_none [] k e = refl
first_none (n ∷ kept) k e = absurd (let bad : Some n ≡ None = e in cc)

-- the first of the names that are kept
pub keep_first : (kept : Option (List ℕ)) (given : Bool) (name : List ℕ) (names : List (List ℕ))
    → kept ≡ slice_get names 0 → first_kept kept given name ≡ slice_get (names ++ kept_name given name) 0
keep_first (Some first) given name names e = sym (first_stays names (kept_name given name) first (sym e))
keep_first None true name names e = sym (first_none names [] (sym e))
keep_first None false name names e = sym (first_none names (name ∷ []) (sym e))

-- nothing is kept where there is no first
pub none_kept : (kept : List (List ℕ)) → slice_get kept 0 ≡ None → kept ≡ []
none_kept [] e = refl
none_kept (n ∷ kept) e = absurd (let bad : Some n ≡ None = e in cc)

-- each drive is given back in turn
pub gave_next : (a b c : ShelfView) (names : List (List ℕ)) (n : ℕ) (name : List ℕ) (xs : List DriveView)
    (x : DriveView) (first next : Option (List ℕ)) (given : Bool) → n < length names → name ≡ get_or names n name
    → next ≡ first_kept first given name
    → (kept : List (List ℕ)) × (first ≡ slice_get kept 0) × GivesBack a (take n names) xs kept b
    → GivesDrive b name x (kept_name given name) c (drive_kind x)
    → (kept : List (List ℕ)) × (next ≡ slice_get kept 0) × GivesBack a (take (n + 1) names) (xs ++ x ∷ []) kept c
gave_next a b c names n name xs x first next given lt at is so_far one = (
  so_far.0 ++ kept_name given name,
  is ∙ keep_first first given name so_far.0 so_far.1,
  gives_next a b c names n name xs x so_far.0 (kept_name given name) lt at so_far.2 one,
)

-- Serving

-- the faults of a drive that served don't fall
served_later : (log : List Entry) (n : ℕ) (x y : DriveView) → IsServed log n x y → x.faults ≤ y.faults
served_later log n x y s = search (rules, counted_many_later (failures_of log n) x.faults)

-- drives that served are still out
pub out_served : (s : ShelfView) (log : List Entry) (n : ℕ) (names : List (List ℕ)) (xs ys : List DriveView)
    → AreOut s names xs → ServeAll log n xs ys → AreOut s names ys
out_served s log n [] [] [] out served = tt
out_served s log n [] (x ∷ xs) ys out served = absurd out
out_served s log n (m ∷ ms) [] ys out served = absurd out
out_served s log n (m ∷ ms) (x ∷ xs) (y ∷ ys) out served =
    search (rules, served_later log n x y served.0, out_served s log (n + 1) ms xs ys out.2 served.1)
out_served s log n _ _ _ out served = absurd served

-- The items of loops

-- one disk more, as an item
pub opens_item : {X : Type 0} (f : X → DriveView) (a b c : ShelfView) (ds : List DiskDecl) (i : ℕ) (d : DiskDecl)
    (items more : List X) (x : X) → i < length ds → d ≡ get_or ds i d → more ≡ items ++ x ∷ []
    → OpensDrives a (take i ds) (map f items) b → OpensDrive b d (f x) c d.kind
    → OpensDrives a (take (i + 1) ds) (map f more) c
opens_item f a b c ds i d items more x lt at e opens one =
    subst (λ (xs : List DriveView). OpensDrives a (take (i + 1) ds) xs c)
    (sym (ap (map f) e ∙ map-append f items (x ∷ []))) (opens_next a b c ds i d (map f items) (f x) lt at opens one)

-- the next item is out
pub item_out : {X : Type 0} (f : X → DriveView) (s : ShelfView) (names : List (List ℕ)) (n : ℕ) (left : List X) (x : X)
    (rest : List X) → left ≡ x ∷ rest → AreOut s (drop n names) (map f left)
    → AreOut s (drop n names) (f x ∷ map f rest)
item_out f s names n left x rest e out = subst (λ xs. AreOut s (drop n names) (map f xs)) e out

-- so a name is left for it
pub name_there : {X : Type 0} (f : X → DriveView) (s : ShelfView) (names : List (List ℕ)) (n : ℕ) (left : List X)
    (x : X) (rest : List X) → left ≡ x ∷ rest → AreOut s (drop n names) (map f left) → n < length names
name_there f s names n left x rest e out =
    name_left s names n (f x) (map f rest) (item_out f s names n left x rest e out)

-- the name at a place by another number of the place
module _ (names : List (List ℕ)) {name : List ℕ} {k n : ℕ} (same : k ≡ n) (at : name ≡ get_or names k name) where
  pub name_at : name ≡ get_or names n name
  name_at = subst (λ (i : ℕ). name ≡ get_or names i name) same at

-- one item more was given back
pub gave_item : {X : Type 0} (f : X → DriveView) (a b c : ShelfView) (names : List (List ℕ)) (items : List X) (x : X)
    (name : List ℕ) (first next : Option (List ℕ)) (given : Bool) → length items < length names
    → name ≡ get_or names (length items) name → next ≡ first_kept first given name
    → (kept : List (List ℕ)) × (first ≡ slice_get kept 0) × GivesBack a (take (length items) names) (map f items) kept b
    → GivesDrive b name (f x) (kept_name given name) c (drive_kind (f x))
    → (kept : List (List ℕ)) × (next ≡ slice_get kept 0)
    × GivesBack a (take (length (items ++ x ∷ [])) names) (map f (items ++ x ∷ [])) kept c
gave_item f a b c names items x name first next given lt at is so_far one =
    let more = gave_next a b c names (length items) name (map f items) (f x) first next given lt at is so_far one in
    search (rules, length_push items x, map-append f items (x ∷ []))

-- the others are out
pub rest_out : {X : Type 0} (f : X → DriveView) (b c : ShelfView) (names : List (List ℕ)) (items : List X) (x : X)
    (rest : List X) (name : List ℕ) (k : List (List ℕ)) → length items < length names
    → name ≡ get_or names (length items) name → AreOut b (drop (length items) names) (f x ∷ map f rest)
    → GivesDrive b name (f x) k c (drive_kind (f x)) → AreOut c (drop (length (items ++ x ∷ [])) names) (map f rest)
rest_out f b c names items x rest name k lt at out one =
    subst (λ (n : ℕ). AreOut c (drop n names) (map f rest)) (sym (length_push items x))
    (out_next b c name (f x) k (drop (length items + 1) names) (map f rest)
    (next_out b names (length items) name (f x) (map f rest) lt at out) one)

-- all items were given back
pub gave_all : {X : Type 0} (f : X → DriveView) (a b : ShelfView) (names : List (List ℕ)) (all items left : List X)
    (kept : List (List ℕ)) → all ≡ items ++ left → length left ≡ 0 → AreOut b (drop (length items) names) (map f left)
    → GivesBack a (take (length items) names) (map f items) kept b → GivesBack a names (map f all) kept b
gave_all f a b names all items left kept e none out given =
    search (rules, nil_from_length left none, none_left b names (length items), append-nil items)
