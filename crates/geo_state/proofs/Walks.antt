-- The first bio from a number on that passes a test.
use Rattle.std.specs.Prelude.{◌≡◌, ℕ, ◌+◌, ◌<◌, ◌≤◌, nat_le, Bool, true, false, ◌&&◌, List, [], ◌∷◌, find, count_by, Some, None, slice_get}
use Rattle.std.specs.List.{AllByRecursion}
use Rattle.std.specs.Option.{option_map}
use Rattle.std.proofs.Common.{refl, sym, ◌∙◌, ap, subst, arith, rules}
use Rattle.std.proofs.lemmas.Bool.{eq-eqb, ne_eqb, lt-leb, leb-true, leb-false}
use Rattle.geo_base.proofs.FindLists.{find_agree}
use Rattle.geo_model.specs.declared.step.Owner.TheVariants as owners
use Rattle.geo_model.specs.World.{BioOf, Handle}
use Rattle.geo_bio.specs.declared.bio.Held.{Held}
use Rattle.geo_bio.specs.BioTable.{bio_from}
use Rattle.geo_handles.specs.Handles.{handle_at}
use Rattle.geo_state.proofs.OrderLemmas.{Rising}
use Rattle.geo_state.proofs.CursorLemmas.{reached_above}
use Rattle.geo_state.specs.declared.state.State.{State}
use Rattle.geo_state.specs.declared.state.OwnBios.{OwnBios}
use Rattle.geo_state.specs.Trips.{Trip, trip_of, trips, handle_of_owner, is_own, own_first, IsOwnCount}
use Rattle.geo_state.specs.Oldest.{passes, first_passing}
use Rattle.geo_state.specs.Holds.{Holds}
use Rattle.geo_state.proofs.Lists.{find-none}
use Rattle.geo_state.proofs.TripLemmas.{none-counted}
use Rattle.geo_base.proofs.AllLists.{of_each}

-- The walk from a number on

module _ (test : BioOf Held → Bool) where
  -- a search from a number on, and that by a test too
  abbrev from_on : ℕ → BioOf Held → Bool
  from_on low x = nat_le low x.number && test x

  -- where no number is reached, nothing is found
  none_reached : (low : ℕ) (bios : List (BioOf Held)) → bio_from bios low ≡ None → find (from_on low) bios ≡ None
  none_reached low [] none = refl
  none_reached low (x ∷ xs) none = search (rules, none_reached low xs)

  pub walk_ends : (low : ℕ) (bios : List (BioOf Held)) → bio_from bios low ≡ None → first_passing test bios low ≡ None
  walk_ends low bios none = ap (option_map (λ (x : BioOf Held). x.number)) (none_reached low bios none)

  -- one that passes is found
  pub walk_hits : (low b : ℕ) (bios : List (BioOf Held)) → Rising bios → bio_from bios low ≡ Some b
      → passes test bios b ≡ true → first_passing test bios low ≡ Some b
  walk_hits low b [] rising first hits = absurd cc
  walk_hits low b (x ∷ xs) rising first hits =
      search (rules, walk_hits low b xs rising.1, reached_above, leb-false low x.number, ne_eqb x.number b)

  -- from one that doesn't pass the walk goes on behind it
  pub walk_goes_on : (low b : ℕ) (bios : List (BioOf Held)) → Rising bios → bio_from bios low ≡ Some b
      → passes test bios b ≡ false → first_passing test bios (b + 1) ≡ first_passing test bios low
  walk_goes_on low b [] rising first fails = refl
  walk_goes_on low b (x ∷ xs) rising first fails =
      at (nat_le low x.number) refl (walk_goes_on low b xs rising.1)
    where
      behind : low ≤ b → (ys : List (BioOf Held)) → AllByRecursion (λ y. b < y.number) ys
          → AllByRecursion (λ y. from_on (b + 1) y ≡ from_on low y) ys
      behind under [] all = tt
      behind under (y ∷ ys) all = search (rules, behind under ys all.1)

      at : (d : Bool) → nat_le low x.number ≡ d
          → (bio_from xs low ≡ Some b → passes test xs b ≡ false
          → first_passing test xs (b + 1) ≡ first_passing test xs low)
          → first_passing test (x ∷ xs) (b + 1) ≡ first_passing test (x ∷ xs) low
      at true e later =
          let here : Some x.number ≡ Some b = rw e at first in
          let same : x.number ≡ b = cc in
          let miss : test x ≡ false = rw (eq-eqb x.number b same) at fails in
          let under : low ≤ b = subst (λ m. low ≤ m) same (leb-true low x.number e) in
          rw (e, miss, lt-leb (b + 1) x.number (omega (arith, same)))
          (ap (option_map (λ (y : BioOf Held). y.number)) (find_agree (from_on (b + 1)) (from_on low) xs
          (behind under xs (subst (λ m. AllByRecursion (λ y. m < y.number) xs) same rising.0))))
      at false e later = search (rules, reached_above (λ p. true) low b xs)

-- the first that passes, by trips
first-trips : (handles : List Handle) (actor low : ℕ) (bios : List (BioOf Held))
    → AllByRecursion (λ (x : Trip). is_own handles actor x ≡ true → low ≤ x.number) (trips bios)
    → first_passing (λ (x : BioOf Held). is_own handles actor (trip_of x)) bios low
    ≡ own_first handles (trips bios) actor
first-trips handles actor low [] above = refl
first-trips handles actor low (x ∷ xs) above = search (rules, first-trips handles actor low xs above.1)

-- none is out
none-first : (handles : List Handle) (actor : ℕ) (xs : List Trip) → count_by (is_own handles actor) xs ≡ 0
    → own_first handles xs actor ≡ None
none-first handles actor xs none =
    search (rules, find-none (is_own handles actor) xs (none-counted (is_own handles actor) xs none))

module _ (s : State) (h : Holds s) (actor : ℕ) (o : OwnBios) (found : slice_get s.own.items actor ≡ Some o) where
  own_count : IsOwnCount s.handles.handles (trips s.traffic.bios) actor o.count o.low
  own_count = search rules

  -- where none is out there is no first
  pub oldest-none : o.count ≡ 0 → own_first s.handles.handles (trips s.traffic.bios) actor ≡ None
  oldest-none none =
      none-first s.handles.handles actor (trips s.traffic.bios) (sym own_count.count_is ∙ none)

  -- else it is the first from the low number on
  pub oldest-is : first_passing (λ (x : BioOf Held). is_own s.handles.handles actor (trip_of x)) s.traffic.bios o.low
      ≡ own_first s.handles.handles (trips s.traffic.bios) actor
  oldest-is = first-trips s.handles.handles actor o.low s.traffic.bios own_count.low_is

-- from number 0 on it is the first of all
pub oldest-of-all : (handles : List Handle) (actor : ℕ) (bios : List (BioOf Held))
    → first_passing (λ (x : BioOf Held). is_own handles actor (trip_of x)) bios 0 ≡ own_first handles (trips bios) actor
oldest-of-all handles actor bios =
    first-trips handles actor 0 bios
    (of_each (λ (x : Trip). is_own handles actor x ≡ true → 0 ≤ x.number) (λ x own. omega arith) (trips bios))

-- The handle of an owner

pub owner_line : (handles : List Handle) (hd line : ℕ)
    → handle_of_owner handles (owners.Line hd line) ≡ handle_at handles hd
owner_line handles hd line = search rules

pub owner_taste : (handles : List Handle) → handle_of_owner handles owners.Taste ≡ None
owner_taste [] = refl
owner_taste (h ∷ hs) = owner_taste hs

pub owner_child : (handles : List Handle) (parent index : ℕ)
    → handle_of_owner handles (owners.Child parent index) ≡ None
owner_child [] parent index = refl
owner_child (h ∷ hs) parent index = owner_child hs parent index
