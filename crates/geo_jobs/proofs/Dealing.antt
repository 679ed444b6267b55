-- Drives are dealt to two workers and gathered again: each has those of its disks, and all did what the log says.
use Rattle.std.specs.Prelude.{◌≡◌, ℕ, ◌+◌, ◌≤◌, ◌%◌, ◌==◌, List, [], ◌∷◌, ◌++◌, drop, length, take, Option, Some, None, slice_get, ◌≢◌, zero, suc, ◌<◌, map, All, AllPairs, slice_index_or}
use Rattle.std.specs.List.{AllZip, enumerate_from}
use Rattle.std.proofs.Common.{ap, arith, refl, sym, ◌∙◌, subst, rules}
use Rattle.std.proofs.lemmas.Bool.{eq-eqb, ne_eqb}
use Rattle.std.proofs.lemmas.List.Elements.{filter-append, All-filter}
use Rattle.std.proofs.lemmas.List.{length-map, get_or-map}
use Rattle.std.proofs.lemmas.List.FromFn.{get_or-enumerate_from, length-enumerate_from}
use Rattle.std.proofs.lemmas.List.Kept.{AllPairs-filter}
use Rattle.std.proofs.lemmas.Option.{slice_get-get_or, slice_get-map}
use Rattle.geo_jobs.specs.Deal.{dealt, drives_in, gathered_drives, merged, own_disks}
use Rattle.geo_disk.specs.declared.drive.Drive.{Drive}
use Rattle.geo_model.specs.declared.step.Entry.{Entry}
use Rattle.geo_serve.specs.Drives.{DriveView}
use Rattle.geo_serve.specs.Served.{AreServed, IsServed, IsServedAt}
use Rattle.geo_jobs.specs.Drives.{HasDrives}
use Rattle.geo_jobs.specs.Left.{size_of}

-- one more element comes with the next number
enumerate_push : {X : Type 0} (n : ℕ) (xs : List X) (z : X)
    → enumerate_from n (xs ++ z ∷ []) ≡ enumerate_from n xs ++ (n + length xs, z) ∷ []
enumerate_push n [] z = ap (λ k. (k, z) ∷ []) (omega arith)
enumerate_push n (x ∷ xs) z =
    ap (λ l. (n, x) ∷ l)
    (enumerate_push (n + 1) xs z ∙ ap (λ k. enumerate_from (n + 1) xs ++ (k, z) ∷ []) (omega arith))

-- and goes to the worker to which it belongs
pub dealt_push : {X : Type 0} (worker : ℕ) (xs : List X) (z : X)
    → dealt worker (xs ++ z ∷ []) ≡ dealt worker xs ++ own_disks worker ((length xs, z) ∷ [])
dealt_push {X} worker xs z =
    ap (λ (l : List (ℕ × X)). own_disks worker l)
    (enumerate_push 0 xs z ∙ ap (λ n. enumerate_from 0 xs ++ (n, z) ∷ []) (omega arith))
    ∙ filter-append (λ (x : ℕ × X). x.0 % 2 == worker) (enumerate_from 0 xs) ((length xs, z) ∷ [])

module _ {X : Type 0} where
  -- the disk of an even number, and that of an odd one
  pub even_kept : (n : ℕ) (z : X) → n % 2 ≡ 0 → own_disks 0 ((n, z) ∷ []) ≡ (n, z) ∷ []
  even_kept n z e = rw (eq-eqb (n % 2) 0 e) refl

  pub even_left : (n : ℕ) (z : X) → n % 2 ≡ 0 → own_disks 1 ((n, z) ∷ []) ≡ []
  even_left n z e = rw (ne_eqb (n % 2) 1 (λ h. omega (arith, e, h))) refl

  -- in turn with no other
  pub merged_alone : (xs : List X) → merged xs [] ≡ xs
  merged_alone [] = refl
  merged_alone (x ∷ xs) = refl

  -- where both have one, the first of each comes first
  two_more : (n : ℕ) (x y : X) (xs : List (ℕ × X)) → n % 2 ≡ 0
      → (own_disks 0 ((n, x) ∷ (n + 1, y) ∷ xs) ≡ (n, x) ∷ own_disks 0 xs)
      × (own_disks 1 ((n, x) ∷ (n + 1, y) ∷ xs) ≡ (n + 1, y) ∷ own_disks 1 xs)
  two_more n x y xs e = search rules

  -- those of both workers, in turn, are all
  pub merged_from : (n : ℕ) (xs : List X) → n % 2 ≡ 0
      → merged (own_disks 0 (enumerate_from n xs)) (own_disks 1 (enumerate_from n xs)) ≡ enumerate_from n xs
  merged_from n [] e = refl
  merged_from n (x ∷ []) e = rw (even_kept n x e, even_left n x e) refl
  merged_from n (x ∷ y ∷ xs) e =
      search (rules, ap (λ (l : List (ℕ × X)). (n, x) ∷ (n + 1, y) ∷ l) (merged_from (n + 1 + 1) xs (omega (arith, e))))

  -- the worker of the even numbers has as many as the other, or one more
  pub dealt_long : (n : ℕ) (xs : List X) → n % 2 ≡ 0
      → (length (own_disks 1 (enumerate_from n xs)) ≤ length (own_disks 0 (enumerate_from n xs)))
      × (length (own_disks 0 (enumerate_from n xs)) + length (own_disks 1 (enumerate_from n xs)) ≡ length xs)
  dealt_long n [] e = (omega arith, refl)
  dealt_long n (x ∷ []) e = rw (even_kept n x e, even_left n x e) (omega arith, refl)
  dealt_long n (x ∷ y ∷ xs) e = search (rules, dealt_long (n + 1 + 1) xs (omega (arith, e)))

  -- what holds of each two in two lists holds of them in turn
  pub merged_zip : (R : X → X → Type 0) (xs us ys vs : List X) → AllZip R xs us → AllZip R ys vs
      → AllZip R (merged xs ys) (merged us vs)
  merged_zip R [] [] ys vs one two = two
  merged_zip R (x ∷ xs) (u ∷ us) [] [] one two = one
  merged_zip R (x ∷ xs) (u ∷ us) (y ∷ ys) (v ∷ vs) one two = (one.0, (two.0, merged_zip R xs us ys vs one.1 two.1))
  merged_zip R [] (u ∷ us) ys vs one two = absurd one
  merged_zip R (x ∷ xs) [] ys vs one two = absurd one
  merged_zip R (x ∷ xs) (u ∷ us) [] (v ∷ vs) one two = absurd two
  merged_zip R (x ∷ xs) (u ∷ us) (y ∷ ys) [] one two = absurd two

-- Gathering

-- what one round of gathering leaves
pub record Rounds {X : Type 0} (even odd : List (ℕ × X)) (x : ℕ × X) : Type 0 where
  pub gives : gathered_drives even odd ≡ x.1 ∷ [] ++ drives_in (take 1 odd)
      ++ gathered_drives (drop 1 even) (drop 1 odd)
  pub fewer : length (drop 1 odd) ≤ length (drop 1 even)
  pub one_less : length even ≡ length (drop 1 even) + 1
  pub rest : length odd ≡ length (take 1 odd) + length (drop 1 odd)

-- so it is while the first list has a drive
pub one_round : {X : Type 0} (even odd : List (ℕ × X)) (x : ℕ × X) → Some x ≡ slice_get even 0
    → length odd ≤ length even → Rounds even odd x
one_round [] odd x first fewer = absurd (let bad : ⊥ = cc in bad)
one_round {X} (e ∷ even) [] x first fewer = search (rules, merged_alone even)
one_round {X} (e ∷ even) (o ∷ odd) x first fewer = search rules

-- as it was taken
module _ {X : Type 0} (even odd : List (ℕ × X)) {o : Option (ℕ × X)} {x : ℕ × X} (taken : o ≡ slice_get even 0)
    (some : o ≡ Some x) (fewer : length odd ≤ length even) where
  pub one_taken : Rounds even odd x
  one_taken = one_round even odd x (sym some ∙ taken) fewer

-- and then there is none
pub none_left : {X : Type 0} (even odd : List (ℕ × X)) → None ≡ slice_get even 0 → length odd ≤ length even
    → gathered_drives even odd ≡ []
none_left [] [] first fewer = refl
none_left [] (o ∷ odd) first fewer = absurd (omega (arith, fewer))
none_left (e ∷ even) odd first fewer = absurd (let bad : ⊥ = cc in bad)

-- The drives of a run: each worker has those of its disks, and all did what the log says.

-- Facts

module _ {X : Type 0} where
  -- each element of an enumeration has its place
  place_is : (xs : List X) (i : ℕ) (d : ℕ × X) → i < length (enumerate_from 0 xs)
      → slice_index_or (enumerate_from 0 xs) i d ≡ (i, slice_index_or xs i d.1)
  place_is xs i d lt =
      get_or-enumerate_from 0 xs i d (let e = length-enumerate_from 0 xs in omega (arith, e, lt))
      ∙ ap (λ k. (k, slice_index_or xs i d.1)) (omega arith)

  -- no two have one place
  apart_all : (xs : List X) → AllPairs (λ (x y : ℕ × X). x.0 ≢ y.0) (enumerate_from 0 xs)
  apart_all xs i j d lt within same =
      search (rules, place_is xs i d (omega (arith, lt, within)), place_is xs j d within)

-- so no disk of a worker stands twice
apart_mapped : {X : Type 0} (items : List (ℕ × X)) → AllPairs (λ (x y : ℕ × X). x.0 ≢ y.0) items
    → AllPairs (λ a b. a ≢ b) (map (λ (x : ℕ × X). x.0) items)
apart_mapped [] apart i j d lt within same = omega (arith, within)
apart_mapped {X} (x ∷ xs) apart i j d lt within same =
    let items = x ∷ xs in
    let long = length-map items (λ (z : ℕ × X). z.0) in
    let one = get_or-map (λ (z : ℕ × X). z.0) items i x d (omega (arith, lt, within, long)) in
    let other = get_or-map (λ (z : ℕ × X). z.0) items j x d (omega (arith, within, long)) in
    apart i j x lt (omega (arith, within, long)) (sym one ∙ same ∙ other)

module _ {D : Type 0} (facts : List (ℕ × ℕ)) (seen : Drive D → DriveView) (drives : List (Drive D))
    (fit : map size_of (map seen drives) ≡ facts) where
  -- each disk has the size of its drive
  sized : All (λ (x : ℕ × Drive D). slice_get facts x.0 ≡ Some ((seen x.1).sector, (seen x.1).count))
      (enumerate_from 0 drives)
  sized i d lt =
      search (
        rules,
        length-enumerate_from 0 drives,
        slice_get-map size_of (map seen drives) i,
        slice_get-map seen drives i,
        slice_get-get_or drives i d.1,
        place_is drives i d lt,
      )

  -- a worker has the drives of its disks
  pub dealt_fit : (worker : ℕ) → HasDrives facts seen (dealt worker drives)
  dealt_fit worker = record {
    apart = apart_mapped (dealt worker drives)
        (AllPairs-filter (λ (x y : ℕ × Drive D). x.0 ≢ y.0) (λ (x : ℕ × Drive D). x.0 % 2 == worker)
        (enumerate_from 0 drives) (apart_all drives));
    sizes = All-filter (λ (x : ℕ × Drive D). x.0 % 2 == worker)
        (λ (x : ℕ × Drive D). slice_get facts x.0 ≡ Some ((seen x.1).sector, (seen x.1).count))
        (enumerate_from 0 drives) sized;
  }

-- What they did

module _ {D : Type 0} (seen : Drive D → DriveView) (log : List Entry) where
  -- a drive kept the number of its disk, and did what the log says of the disk
  abbrev pub DidServe : ℕ × Drive D → ℕ × Drive D → Type 0
  DidServe x y = (y.0 ≡ x.0) × IsServed log x.0 (seen x.1) (seen y.1)

  served_from : (n : ℕ) (xs : List (Drive D)) (ys : List (ℕ × Drive D)) → AllZip DidServe (enumerate_from n xs) ys
      → (k : ℕ) → IsServedAt log (n + k) (slice_get (map seen xs) k)
      (slice_get (map seen (map (λ (y : ℕ × Drive D). y.1) ys)) k)
  served_from n [] [] zip k = tt
  served_from n [] (y ∷ ys) zip k = absurd zip
  served_from n (x ∷ xs) [] zip k = absurd zip
  served_from n (x ∷ xs) (y ∷ ys) zip zero = subst (λ m. IsServed log m (seen x) (seen y.1)) (omega arith) zip.0.1
  served_from n (x ∷ xs) (y ∷ ys) zip (suc k) = search (rules, served_from (n + 1) xs ys zip.1 k)

  sizes_stay : (n : ℕ) (xs : List (Drive D)) (ys : List (ℕ × Drive D)) → AllZip DidServe (enumerate_from n xs) ys
      → map size_of (map seen (map (λ (y : ℕ × Drive D). y.1) ys))
      ≡ map size_of (map seen xs)
  sizes_stay n [] [] zip = refl
  sizes_stay n [] (y ∷ ys) zip = absurd zip
  sizes_stay n (x ∷ xs) [] zip = absurd zip
  sizes_stay n (x ∷ xs) (y ∷ ys) zip = search (rules, sizes_stay (n + 1) xs ys zip.1)

  module _ (drives : List (Drive D)) (even odd : List (ℕ × Drive D))
      (evens : AllZip DidServe (dealt 0 drives) even) (odds : AllZip DidServe (dealt 1 drives) odd) where
    in_turn : AllZip DidServe (enumerate_from 0 drives) (merged even odd)
    in_turn =
        search (rules, merged_from 0 drives, merged_zip DidServe (dealt 0 drives) even (dealt 1 drives) odd evens odds)

    -- all drives did what the log says
    pub are_served : AreServed log (map seen drives) (map seen (gathered_drives even odd))
    are_served disk = search (rules, served_from 0 drives (merged even odd) in_turn disk)

    -- and have their sizes
    pub sizes_kept : map size_of (map seen (gathered_drives even odd))
        ≡ map size_of (map seen drives)
    sizes_kept = sizes_stay 0 drives (merged even odd) in_turn
