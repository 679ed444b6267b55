-- Trips of requests: how changes show in them, how many are out, whose they are, and which are at disks.
use Rattle.std.specs.Prelude.{◌≡◌, ℕ, ◌==◌, Bool, true, false, List, [], ◌∷◌, filter, ◌≢◌, ◌+◌, ◌-◌, ◌≤◌, not, ◌++◌, map, count_by, Option, Some, None, if◌then◌else◌, min, find}
use Rattle.std.specs.List.{AllByRecursion}
use Rattle.std.proofs.Common.{refl, sym, ◌∙◌, ap, arith, eq-eqb, rules}
use Rattle.geo_model.specs.Words.{change_where, names_number}
use Rattle.geo_model.specs.World.{BioOf, is_taste_root, change_number, Handle, Config}
use Rattle.geo_state.specs.Trips.{Trip, trip_of, trips, is_out, out_through, can_be_reaped, taste_read, is_at_disk, busy_at, is_own, IsOwnCount}
use Rattle.std.specs.Option.{option_map_or, option_map}
use Rattle.std.proofs.Math.Bool.{and-false}
use Rattle.std.proofs.lemmas.Bool.{eqb-true, not-false}
use Rattle.geo_mesh.specs.Rows.{change_at}
use Rattle.geo_state.proofs.Lists.{Around, around-changed, around-gone, around-count, count-append, counts, around-all, count-step, count-skip, count-kept, find-none, find-past, find-before, find-kept_by, all-front, all-back, around-with}
use Rattle.geo_base.proofs.Options.{none-mapped}
use Rattle.geo_base.proofs.FindLists.{none_passes}
use Rattle.geo_base.proofs.AllLists.{all_appended, all_kept, all_weaker}
use Rattle.geo_model.specs.Topology.{Topology}
use Rattle.geo_model.specs.Bios.{disk_at}

-- Trips after a change of requests

module _ {R : Type 0} where
  -- a change of one request is a change of its trip
  pub trips-changed : (b : ℕ) (change : BioOf R → BioOf R) (g : Trip → Trip) (bios : List (BioOf R))
      → AllByRecursion (λ x. (x.number == b) ≡ true → trip_of (change x) ≡ g (trip_of x)) bios
      → trips (change_number b change bios) ≡ change_where (λ z. z.number == b) g (trips bios)
  trips-changed b change g [] all = refl
  trips-changed b change g (x ∷ xs) all = search (rules, trips-changed b change g xs all.1)

  -- a change that no trip shows
  pub trips-same : (b : ℕ) (change : BioOf R → BioOf R) (bios : List (BioOf R))
      → AllByRecursion (λ x. (x.number == b) ≡ true → trip_of (change x) ≡ trip_of x) bios
      → trips (change_number b change bios) ≡ trips bios
  trips-same b change [] all = refl
  trips-same b change (x ∷ xs) all = search (rules, trips-same b change xs all.1)

  -- what a filter keeps
  pub trips-kept : (keep : BioOf R → Bool) (seen : Trip → Bool) → ((x : BioOf R) → seen (trip_of x) ≡ keep x)
      → (bios : List (BioOf R)) → trips (filter keep bios) ≡ filter seen (trips bios)
  trips-kept keep seen same [] = refl
  trips-kept keep seen same (x ∷ xs) = search (rules, trips-kept keep seen same xs)

-- Requests out through a consumer: how many are, and which handles can be reaped

-- equal numbers, either way
pub eqb_sym : (m n : ℕ) → (m == n) ≡ (n == m)
eqb_sym m n = search rules

-- rows of numbers with a count, where one count changes
pub rows-changed : {X : Type 0} (key : X → ℕ) (f g change : ℕ → ℕ) (c : ℕ)
    → ((d : ℕ) → g d ≡ (if d == c then change (f d) else f d)) → (xs : List X)
    → change_at change (map (λ x. let row : ℕ × ℕ = (key x, f (key x)) in row) xs) c
    ≡ map (λ x. let row : ℕ × ℕ = (key x, g (key x)) in row) xs
rows-changed key f g change c so [] = refl
rows-changed {X} key f g change c so (x ∷ xs) = search (rules, rows-changed key f g change c so xs)

-- one more that is out through its consumer
pub out-more : (xs : List Trip) (z : Trip) → z.done ≡ false → (d : ℕ)
    → out_through (xs ++ z ∷ []) d ≡ (if d == z.source then out_through xs d + 1 else out_through xs d)
out-more xs z going d = search (rules, count-append (is_out d) xs (z ∷ []))

-- one that was out through its consumer, and isn't any more: it has come back, or is gone
module _ (b : ℕ) (x : Trip) (xs : List Trip) (r : Around (λ (z : Trip). z.number) b x xs) (going : x.done ≡ false)
  where
    -- how many there were
    with_it : (d : ℕ) → out_through xs d ≡ out_through (r.front ++ r.back) d + counts (is_out d) x
    with_it d = around-with (λ (z : Trip). z.number) b x xs r (is_out d)

    less_by : (d : ℕ) (ys : List Trip) → out_through ys d ≡ out_through (r.front ++ r.back) d
        → out_through ys d ≡ (if d == x.source then out_through xs d - 1 else out_through xs d)
    less_by d ys e = search (rules, with_it d)

    -- it has come back
    pub out-back : (d : ℕ)
        → out_through (change_where (λ z. z.number == b) (λ z. record z { done = true }) xs) d
        ≡ (if d == x.source then out_through xs d - 1 else out_through xs d)
    out-back d =
        less_by d (change_where (λ z. z.number == b) (λ z. record z { done = true }) xs)
        (ap (λ zs. out_through zs d)
        (around-changed (λ (z : Trip). z.number) b x xs r (λ z. record z { done = true }))
        ∙ (let it : Trip = record x { done = true } in
        let fails : is_out d it ≡ false = and-false (x.source == d) in
        let n : counts (is_out d) it ≡ 0 = ap (λ b. if b then 1 else 0) fails in
        let all = around-count (λ (z : Trip). z.number) b x xs r (is_out d) it (counts (is_out d) it) (omega arith) in
        omega (arith, n, all)))

    -- it is gone
    pub out-gone : (d : ℕ)
        → out_through (filter (λ z. not (z.number == b)) xs) d
        ≡ (if d == x.source then out_through xs d - 1 else out_through xs d)
    out-gone d =
        less_by d (filter (λ z. not (z.number == b)) xs)
        (ap (λ zs. out_through zs d) (around-gone (λ (z : Trip). z.number) b x xs r))

    -- there was one at least
    pub out-some : 1 ≤ out_through xs x.source
    out-some = search (rules, with_it x.source)

-- Handles that can be reaped

-- where as many are out through each other consumer, and the handles of this one aren't dead, the same can be reaped
pub reaped-same : (c : ℕ) (xs ys : List Trip) → ((d : ℕ) → d ≢ c → out_through ys d ≡ out_through xs d)
    → (h : Handle) → (names_number h.consumer c ≡ true → h.dead ≡ false)
    → can_be_reaped ys h ≡ can_be_reaped xs h
reaped-same c xs ys others h alive = at h.dead refl
  where
    rest : (o : Option ℕ) → (names_number o c ≡ true → h.dead ≡ false) → h.dead ≡ true
        → option_map_or (λ d. out_through ys d == 0) o false ≡ option_map_or (λ d. out_through xs d == 0) o false
    rest None lives dead = refl
    rest (Some d) lives dead =
        search (rules, others d (λ same. let never : true ≡ false = sym dead ∙ lives (eq-eqb d c same) in cc))

    at : (b : Bool) → h.dead ≡ b → can_be_reaped ys h ≡ can_be_reaped xs h
    at true dead = rw dead (rest h.consumer alive dead)
    at false dead = rw dead refl

-- Actors' own requests, the taste's read and the requests at the disks, after one came, and after one is gone

-- where none is counted none passes
pub none-counted : {X : Type 0} (p : X → Bool) (xs : List X) → count_by p xs ≡ 0 → AllByRecursion (λ x. p x ≡ false) xs
none-counted p [] none = tt
none-counted p (x ∷ xs) none = search (rules, none-counted p xs, count-step p x xs, count-skip p x xs)

-- An actor's own requests

module _ (handles : List Handle) (actor : ℕ) where
  -- a request that isn't one came
  pub own-other : (xs : List Trip) (z : Trip) (count low : ℕ) → is_own handles actor z ≡ false
      → IsOwnCount handles xs actor count low → IsOwnCount handles (xs ++ z ∷ []) actor count low
  own-other xs z count low other is =
      search (
        rules,
        count-append (is_own handles actor) xs (z ∷ []),
        all_appended (λ x. is_own handles actor x ≡ true → low ≤ x.number) xs (z ∷ []) is.low_is
            ((λ e. let never : true ≡ false = sym e ∙ other in absurd cc), tt),
      )

  -- one more came
  pub own-more : (xs : List Trip) (z : Trip) (count low : ℕ) → is_own handles actor z ≡ true
      → IsOwnCount handles xs actor count low
      → IsOwnCount handles (xs ++ z ∷ []) actor (count + 1) (if count == 0 then z.number else min low z.number)
  own-more xs z count low own is =
      search (
        rules,
        count-append (is_own handles actor) xs (z ∷ []),
        all_appended,
        all_weaker,
        none-counted (is_own handles actor) xs,
        eqb-true count 0,
      )

  -- one is gone
  pub own-gone : (b : ℕ) (x : Trip) (xs : List Trip) (count low : ℕ) → Around (λ (z : Trip). z.number) b x xs
      → is_own handles actor x ≡ true → IsOwnCount handles xs actor count low
      → IsOwnCount handles (filter (λ z. not (z.number == b)) xs) actor (count - 1) low
  own-gone b x xs count low r own is = record {
    count_is =
        let gone = ap (count_by (is_own handles actor)) (around-gone (λ (z : Trip). z.number) b x xs r) in
        let with_it = around-with (λ (z : Trip). z.number) b x xs r (is_own handles actor) in
        let one : counts (is_own handles actor) x ≡ 1 = ap (λ b. if b then 1 else 0) own in
        let was = is.count_is in
        omega (arith, gone, with_it, one, was);
    low_is =
        all_kept (λ x. is_own handles actor x ≡ true → low ≤ x.number) (λ z. not (z.number == b)) xs is.low_is;
  }

  -- there was one at least
  pub own-some : (b : ℕ) (x : Trip) (xs : List Trip) (count low : ℕ) → Around (λ (z : Trip). z.number) b x xs
      → is_own handles actor x ≡ true → IsOwnCount handles xs actor count low → 1 ≤ count
  own-some b x xs count low r own is =
      let with_it = around-with (λ (z : Trip). z.number) b x xs r (is_own handles actor) in
      let one : counts (is_own handles actor) x ≡ 1 = ap (λ b. if b then 1 else 0) own in
      search rules

  -- some that aren't own are gone
  pub own-kept : (keep : Trip → Bool) (xs : List Trip) (count low : ℕ)
      → AllByRecursion (λ x. keep x ≡ false → is_own handles actor x ≡ false) xs
      → IsOwnCount handles xs actor count low → IsOwnCount handles (filter keep xs) actor count low
  own-kept keep xs count low others is = record {
    count_is = is.count_is ∙ sym (count-kept (is_own handles actor) keep xs others);
    low_is = all_kept (λ x. is_own handles actor x ≡ true → low ≤ x.number) keep xs is.low_is;
  }

-- only the one of a number fails a test of other numbers
pub only-fails : (b : ℕ) (x : Trip) (xs : List Trip) (p : Trip → Bool) → Around (λ (z : Trip). z.number) b x xs
    → p x ≡ false → AllByRecursion (λ z. not (z.number == b) ≡ false → p z ≡ false) xs
only-fails b x xs p r fails =
    all_weaker (λ z. (z.number == b) ≡ true → p z ≡ false) (λ z. not (z.number == b) ≡ false → p z ≡ false)
    (λ z so e. so (not-false (z.number == b) e)) xs
    (around-all (λ (z : Trip). z.number) b x xs r (λ z. p z ≡ false) fails)

-- The taste's read

-- another request came, or the first read
pub read-other : (xs : List Trip) (z : Trip) → is_taste_root z.owner ≡ false → taste_read (xs ++ z ∷ []) ≡ taste_read xs
read-other xs z other = search (rules, find-before (λ x. is_taste_root x.owner) xs (z ∷ []) (other, tt))

pub read-first : (xs : List Trip) (z : Trip) → is_taste_root z.owner ≡ true → taste_read xs ≡ None
    → taste_read (xs ++ z ∷ []) ≡ Some z.number
read-first xs z reads none =
    search (
      rules,
      find-past (λ x. is_taste_root x.owner) xs (z ∷ [])
          (none_passes (λ (x : Trip). is_taste_root x.owner) xs
          (none-mapped (λ (x : Trip). x.number) (find (λ (x : Trip). is_taste_root x.owner) xs) none)),
    )

-- another request is gone, or the only read
pub read-kept : (b : ℕ) (x : Trip) (xs : List Trip) → Around (λ (z : Trip). z.number) b x xs
    → is_taste_root x.owner ≡ false → taste_read (filter (λ z. not (z.number == b)) xs) ≡ taste_read xs
read-kept b x xs r other =
    ap (option_map (λ (z : Trip). z.number))
    (find-kept_by (λ z. is_taste_root z.owner) (λ z. not (z.number == b)) xs
    (only-fails b x xs (λ z. is_taste_root z.owner) r other))

pub read-gone : (b : ℕ) (x : Trip) (xs : List Trip) → Around (λ (z : Trip). z.number) b x xs
    → is_taste_root x.owner ≡ true → count_by (λ (z : Trip). is_taste_root z.owner) xs ≤ 1
    → taste_read (filter (λ z. not (z.number == b)) xs) ≡ None
read-gone b x xs r reads one =
    ap (option_map (λ (z : Trip). z.number))
    (find-none (λ z. is_taste_root z.owner) (filter (λ z. not (z.number == b)) xs)
    (none-counted (λ z. is_taste_root z.owner) (filter (λ z. not (z.number == b)) xs)
    (let p : Trip → Bool = λ z. is_taste_root z.owner in
    let gone = ap (count_by p) (around-gone (λ (z : Trip). z.number) b x xs r) in
    let with_it = around-with (λ (z : Trip). z.number) b x xs r p in
    let it : counts p x ≡ 1 = ap (λ b. if b then 1 else 0) reads in
    omega (arith, gone, with_it, it, one))))

-- Requests at the disks

module _ (t : Topology Config) (disk : ℕ) where
  -- one came that isn't at its disk
  pub busy-other : (xs : List Trip) (z : Trip) → z.busy ≡ false → busy_at t (xs ++ z ∷ []) disk ≡ busy_at t xs disk
  busy-other xs z idle = search (rules, find-before (is_at_disk t disk) xs (z ∷ []) (rw idle refl, tt))

  -- one is gone that wasn't
  pub busy-kept : (b : ℕ) (x : Trip) (xs : List Trip) → Around (λ (z : Trip). z.number) b x xs → x.busy ≡ false
      → busy_at t (filter (λ z. not (z.number == b)) xs) disk ≡ busy_at t xs disk
  busy-kept b x xs r idle =
      ap (option_map (λ (z : Trip). z.number))
      (find-kept_by (is_at_disk t disk) (λ z. not (z.number == b)) xs
      (only-fails b x xs (is_at_disk t disk) r (rw idle refl)))

-- what doesn't pass may stand anywhere
pub find-skip : {X : Type 0} (p : X → Bool) (front back : List X) (x : X) → p x ≡ false
    → find p (front ++ x ∷ back) ≡ find p (front ++ back)
find-skip p [] back x fails = rw fails refl
find-skip p (y ∷ ys) back x fails = search (rules, find-skip p ys back x fails)

module _ (t : Topology Config) (disk b : ℕ) (x : Trip) (xs : List Trip) (r : Around (λ (z : Trip). z.number) b x xs)
    (there : disk_at t x.target ≡ Some disk) where
  -- whether it would be at a disk
  abbrev moved : Bool → Trip
  moved busy = record x { busy = busy }

  changed_to : (busy : Bool) (d : ℕ)
      → busy_at t (change_where (λ z. z.number == b) (λ z. record z { busy = busy }) xs) d
      ≡ option_map (λ (z : Trip). z.number) (find (is_at_disk t d) (r.front ++ moved busy ∷ r.back))
  changed_to busy d = search (rules, around-changed (λ (z : Trip). z.number) b x xs r (λ z. record z { busy = busy }))

  -- it is at no other disk
  elsewhere : (busy : Bool) (d : ℕ) → (d == disk) ≡ false → is_at_disk t d (moved busy) ≡ false
  elsewhere false d other = refl
  elsewhere true d other = search rules

  -- so at another disk nothing changes
  at_others : (busy : Bool) (d : ℕ) → (d == disk) ≡ false
      → busy_at t (change_where (λ z. z.number == b) (λ z. record z { busy = busy }) xs) d ≡ busy_at t xs d
  at_others busy d other =
      search (
        rules,
        changed_to busy d,
        find-skip (is_at_disk t d) r.front r.back (moved busy) (elsewhere busy d other),
        find-skip (is_at_disk t d) r.front r.back x,
        ap (λ zs. busy_at t zs d) r.is,
        elsewhere,
      )

  -- it came to the disk, at which nothing was
  pub busy-taken : busy_at t xs disk ≡ None → (d : ℕ)
      → busy_at t (change_where (λ z. z.number == b) (λ z. record z { busy = true }) xs) d
      ≡ (if d == disk then Some x.number else busy_at t xs d)
  busy-taken none d = by (d == disk) refl
    where
      here : is_at_disk t disk (moved true) ≡ true
      here = ap (λ o. option_map_or (λ n. n == disk) o false) there ∙ eq-eqb disk disk refl

      found : find (is_at_disk t disk) (moved true ∷ r.back) ≡ Some (moved true)
      found = ap (λ c. if c then Some (moved true) else find (is_at_disk t disk) r.back) here

      by : (c : Bool) → (d == disk) ≡ c
          → busy_at t (change_where (λ z. z.number == b) (λ z. record z { busy = true }) xs) d
          ≡ (if c then Some x.number else busy_at t xs d)
      by true e =
          let same : d ≡ disk = eqb-true d disk e in
          let all = none_passes (is_at_disk t disk) xs
          (none-mapped (λ (z : Trip). z.number) (find (is_at_disk t disk) xs) none) in
          let front = all-front (λ z. is_at_disk t disk z ≡ false) r.front (x ∷ r.back) (rw r.is at all) in
          rw same
          (changed_to true disk
          ∙ ap (option_map (λ (z : Trip). z.number))
          (find-past (is_at_disk t disk) r.front (moved true ∷ r.back) front ∙ found))
      by false e = at_others true d e

  -- it came from the disk, at which nothing else was
  pub busy-freed : AllByRecursion (λ z. is_at_disk t disk z ≡ true → (z.number == b) ≡ true) xs → (d : ℕ)
      → busy_at t (change_where (λ z. z.number == b) (λ z. record z { busy = false }) xs) d
      ≡ (if d == disk then None else busy_at t xs d)
  busy-freed alone d = by (d == disk) refl
    where
      apart : (zs : List Trip) → AllByRecursion (λ z. is_at_disk t disk z ≡ true → (z.number == b) ≡ true) zs
          → AllByRecursion (λ z. (z.number == b) ≡ false) zs → AllByRecursion (λ z. is_at_disk t disk z ≡ false) zs
      apart [] so others = tt
      apart (z ∷ zs) so others = search (rules, apart zs)

      whole : AllByRecursion (λ z. is_at_disk t disk z ≡ true → (z.number == b) ≡ true) (r.front ++ x ∷ r.back)
      whole = rw r.is at alone

      back : AllByRecursion (λ z. is_at_disk t disk z ≡ false) r.back
      back = apart r.back
          (all-back (λ z. is_at_disk t disk z ≡ true → (z.number == b) ≡ true) r.front (x ∷ r.back) whole).1 r.after

      front : AllByRecursion (λ z. is_at_disk t disk z ≡ false) r.front
      front = apart r.front
          (all-front (λ z. is_at_disk t disk z ≡ true → (z.number == b) ≡ true) r.front (x ∷ r.back) whole) r.before

      by : (c : Bool) → (d == disk) ≡ c
          → busy_at t (change_where (λ z. z.number == b) (λ z. record z { busy = false }) xs) d
          ≡ (if c then None else busy_at t xs d)
      by true e =
          let same : d ≡ disk = eqb-true d disk e in
          rw same
          (changed_to false disk
          ∙ ap (option_map (λ (z : Trip). z.number))
          (find-past (is_at_disk t disk) r.front (moved false ∷ r.back) front
          ∙ find-none (is_at_disk t disk) (moved false ∷ r.back) (refl, back)))
      by false e = at_others false d e
