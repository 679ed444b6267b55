-- Values that are mended along a graph: how the steps of a walk upwards join, and that at the end each value is one
-- more than the largest below.
use Rattle.std.specs.Prelude.{◌≡◌, ◌⊎◌, ℕ, ◌+◌, ◌-◌, ◌<◌, ◌≤◌, nat_le, max, List, [], ◌∷◌, map}
use Rattle.std.proofs.Common.{refl, inl, inr, arith, rules}
use Rattle.std.proofs.lemmas.Bool.{cases_eq, le-leb, leb-true}
use Rattle.geo_model.specs.Words.{largest}
use Rattle.geo_mesh.specs.Mending.{IsAmong, above, ExceedsThoseBelow, StandsAbove, Lifted, Lowered, Joined, IsJoinable}

-- a value of the list is at most the largest
pub largest-among : (f : ℕ → ℕ) (ms : List ℕ) (n : ℕ) → IsAmong ms n → f n ≤ largest (map f ms)
largest-among f [] n there = absurd there
largest-among f (m ∷ ms) n there = search (rules, largest-among f ms n)

-- a bound of the values is one of the largest
pub largest-most : (f : ℕ → ℕ) (most : ℕ) (ms : List ℕ) → ((n : ℕ) → IsAmong ms n → f n ≤ most)
    → largest (map f ms) ≤ most
largest-most f most [] so = omega arith
largest-most f most (m ∷ ms) so = search (rules, largest-most f most ms (λ n i. so n (inr i)))

-- greater values have a greater largest one
pub largest-grows : (f r : ℕ → ℕ) (ms : List ℕ) → ((n : ℕ) → IsAmong ms n → f n ≤ r n)
    → largest (map f ms) ≤ largest (map r ms)
largest-grows f r [] so = omega arith
largest-grows f r (m ∷ ms) so = search (rules, largest-grows f r ms (λ n i. so n (inr i)))

-- the same values have the same largest one
pub largest-same : (f r : ℕ → ℕ) (ms : List ℕ) → ((n : ℕ) → IsAmong ms n → f n ≡ r n)
    → largest (map f ms) ≡ largest (map r ms)
largest-same f r [] so = refl
largest-same f r (m ∷ ms) so = search (rules, largest-same f r ms (λ n i. so n (inr i)))

-- the largest is none, or a value of the list
pub largest-is : (f : ℕ → ℕ) (ms : List ℕ) → (largest (map f ms) ≡ 0)
    ⊎ ((n : ℕ) × IsAmong ms n × (f n ≡ largest (map f ms)))
largest-is f [] = inl refl
largest-is f (m ∷ ms) = search (rules, largest-is f ms, cases_eq (max (f m) (largest (map f ms))) (f m))

module _ (below : ℕ → List ℕ) where
  -- what stands above another stands above what is below that one
  pub stands_on : (y x g : ℕ) → StandsAbove below y x → IsAmong (below x) g → StandsAbove below y g
  stands_on y x g stands under = λ has at so. stands has (so x g under at) so

  -- values that grew leave no less above
  pub above-grows : (f r : ℕ → ℕ) (x : ℕ) → ((y : ℕ) → f y ≤ r y) → above below f x ≤ above below r x
  above-grows f r x so = search (rules, largest-grows f r (below x) (λ n i. so n))

  -- nothing is lifted
  pub lifted-none : (g least : ℕ) (f : ℕ → ℕ) → Lifted below g least f f
  lifted-none g least f = record {
    grows = λ x. omega arith;
    mended = λ x h i low. absurd (omega arith);
    here = omega arith;
    bounded = λ x other. omega arith;
    reached = λ x low. absurd (omega arith);
  }

  -- two steps of a walk that lift what stands above a geom
  pub lifted-more : (g : ℕ) (f r s : ℕ → ℕ) → Lifted below g 0 f r → Lifted below g 0 r s → Lifted below g 0 f s
  lifted-more g f r s one two = record {
    grows = λ x. omega (arith, one.grows x, two.grows x);
    mended = λ x h i low. mended x h i low (cases_eq (r h) (s h));
    here =
        (let up : above below r g ≤ above below s g = above-grows r s g two.grows in omega (arith, one.here, two.here));
    bounded = search (rules, above-grows r s);
    reached = λ x low. reached x low (cases_eq (r x) (s x));
  } where
    mended : (x h : ℕ) → IsAmong (below x) h → f h < s h → (r h ≡ s h) ⊎ (r h ≡ s h → ⊥) → s h < s x
    mended x h i low (inl same) = search rules
    mended x h i low (inr differs) = two.mended x h i (omega (arith, two.grows h, differs))

    reached : (x : ℕ) → f x < s x → (r x ≡ s x) ⊎ (r x ≡ s x → ⊥) → StandsAbove below x g
    reached x low (inl same) = one.reached x (omega arith)
    reached x low (inr differs) = two.reached x (omega (arith, two.grows x, differs))

  -- lifting a geom that stands directly above another, as far as that one asks for
  pub lifted-above : (g x least : ℕ) (f r : ℕ → ℕ) → IsAmong (below x) g → least ≤ f g + 1
      → Lifted below x least f r → Lifted below g 0 f r
  lifted-above g x least f r under low one = record {
    grows = one.grows;
    mended = one.mended;
    here = (let low : r g ≤ max (f g) (above below r g) = at g (cases_eq g x) in omega arith);
    bounded = λ y other. at y (cases_eq y x);
    reached = λ y grew. stands_on y x g (one.reached y grew) under;
  } where
    at : (y : ℕ) → (y ≡ x) ⊎ (y ≡ x → ⊥) → r y ≤ max (f y) (above below r y)
    at y (inl same) =
        let asks : r g ≤ largest (map r (below x)) = largest-among r (below x) g under in
        rw same (omega (arith, one.here, one.grows g))
    at y (inr differs) = omega (arith, one.bounded y differs)

  -- a geom is given a greater value, and what stands above it is lifted
  pub lifted-whole : (g least : ℕ) (f m r : ℕ → ℕ) → f g < least → m g ≡ least → ((x : ℕ) → (x ≡ g → ⊥) → m x ≡ f x)
      → Lifted below g 0 m r → ((x : ℕ) → IsAmong (below x) g → least + 1 ≤ r x) → Lifted below g least f r
  lifted-whole g least f m r low at others one passed = record {
    grows = λ x. grows x (cases_eq x g);
    mended = λ x h i grew. mended x h i grew (cases_eq h g);
    here = omega (arith, one.here);
    bounded = λ x other. omega (arith, others x other, one.bounded x other);
    reached = λ x grew. reached x grew (cases_eq x g);
  } where
    grows : (x : ℕ) → (x ≡ g) ⊎ (x ≡ g → ⊥) → f x ≤ r x
    grows x (inl same) = rw same (omega (arith, one.grows g))
    grows x (inr differs) = omega (arith, others x differs, one.grows x)

    mended : (x h : ℕ) → IsAmong (below x) h → f h < r h → (h ≡ g) ⊎ (h ≡ g → ⊥) → r h < r x
    mended x h i grew (inl same) = elim (cases_eq (m g) (r g)) [
      | inl kept ↦ rw same (omega (arith, passed x (rw same at i)))
      | inr more ↦ rw same (one.mended x g (rw same at i) (omega (arith, one.grows g, more)))
    ]
    mended x h i grew (inr differs) = one.mended x h i (omega (arith, others h differs))

    reached : (x : ℕ) → f x < r x → (x ≡ g) ⊎ (x ≡ g → ⊥) → StandsAbove below x g
    reached x grew (inl same) = λ has here so. rw same here
    reached x grew (inr differs) = one.reached x (omega (arith, others x differs))

  -- nothing is lowered
  pub lowered-none : (f : ℕ → ℕ) → ((x : ℕ) → above below f x ≤ f x) → Lowered below f f
  lowered-none f enough = record { falls = λ x. omega arith; enough = enough; stays = λ x h. h }

  -- a geom is given the value that it has to have, and what stands directly above it is lowered
  pub lowered-store : (g : ℕ) (f m : ℕ → ℕ) → (IsAmong (below g) g → ⊥) → ((x : ℕ) → above below f x ≤ f x)
      → above below f g < f g
      → m g ≡ above below f g → ((x : ℕ) → (x ≡ g → ⊥) → m x ≡ f x)
      → ((x : ℕ) → m x ≤ f x) × ((x : ℕ) → above below m x ≤ m x) × (m g ≤ above below m g)
      × ((x : ℕ) → (IsAmong (below x) g → ⊥) → f x ≤ above below f x → m x ≤ above below m x)
  lowered-store g f m apart enough high at others = search (rules, above-grows m f, largest-same m f)

module _ (below : ℕ → List ℕ) (f : ℕ → ℕ) where
  -- where each value is enough, what is below has less
  pub enough-climbs : ((x : ℕ) → above below f x ≤ f x) → ExceedsThoseBelow below f
  enough-climbs enough x h under = search (rules, largest-among f (below x) h under)

  -- no geom is directly below itself
  pub climbs-apart : ExceedsThoseBelow below f → (g : ℕ) → IsAmong (below g) g → ⊥
  climbs-apart climbs g under = omega (arith, climbs g g under)

  module _ (g least : ℕ) (r : ℕ → ℕ) (one : Lifted below g least f r) where
    -- after a lift each value is enough again
    pub lifted-enough : ((x : ℕ) → above below f x ≤ f x) → (x : ℕ) → above below r x ≤ r x
    lifted-enough enough x = search (rules, largest-most r (r x - 1) (below x), enough-climbs enough x)

    module _ (local : (x : ℕ) → f x ≡ above below f x) where
      -- after a lift no other geom has a greater value than it has to have
      lifted-low : (x : ℕ) → (x ≡ g → ⊥) → r x ≤ above below r x
      lifted-low x other = search (rules, above-grows below f r x one.grows)

      -- after a lift of values that are one more than the largest below, each value is enough
      enough_all : (x : ℕ) → above below r x ≤ r x
      enough_all = lifted-enough (λ x. omega (arith, local x))

      -- a lift that is taken back leaves values that are one more than the largest below
      pub lifted-undone : (s : ℕ → ℕ) → Lowered below r s → s g ≤ above below s g → (x : ℕ) → s x ≡ above below s x
      lifted-undone s two low x = search (rules, lifted-low x)

      module _ (q : ℕ) (asked : least ≡ f q + 1) where
        -- a lift that reached the geom that asked for it: that one stands above
        pub lifted-loops : (r q ≡ f q → ⊥) → StandsAbove below q g
        lifted-loops moved = one.reached q (omega (arith, one.grows q, moved))

        -- where the geom that asks stands above, it is reached
        pub loops-lifted : least ≤ r g → StandsAbove below q g → r q ≡ f q → ⊥
        loops-lifted raised stands kept =
            let high : r g ≤ r q = leb-true (r g) (r q)
            (stands (λ y. nat_le (r g) (r y)) (le-leb (r g) (r g) (omega arith))
            (λ y h under there.
            le-leb (r g) (r y) (omega (arith, leb-true (r g) (r h) there, enough-climbs_of y h under)))) in
            omega arith where
              enough-climbs_of : (y h : ℕ) → IsAmong (below y) h → r h < r y
              enough-climbs_of y h under = search (rules, largest-among r (below y) h under, enough_all y)

        -- where the geom that asks wasn't reached, the values are one more than the largest below in the graph with
        -- it below
        pub lifted-joined : (joined : ℕ → List ℕ) → Joined below joined g q → least ≤ r g → r q ≡ f q → (x : ℕ)
            → r x ≡ above joined r x
        lifted-joined joined graph raised kept x =
            search (rules, above-grows below f r g one.grows, lifted-low x, enough_all x)

        -- so that one may be put below
        pub lifted-joinable : least ≤ r g → r q ≡ f q → IsJoinable below g q r
        lifted-joinable raised kept = search (rules, loops-lifted raised, lifted-joined)

module _ (apart joined : ℕ → List ℕ) (g q : ℕ) (graph : Joined apart joined g q) (f : ℕ → ℕ) (local : (x : ℕ)
    → f x ≡ above joined f x) where
  -- with one geom less below each value is still enough
  pub apart-enough : (x : ℕ) → above apart f x ≤ f x
  apart-enough x = search rules

  -- once the geom is lowered, each is one more than the largest below
  pub apart-lowered : (s : ℕ → ℕ) → Lowered apart f s → s g ≤ above apart s g → (x : ℕ) → s x ≡ above apart s x
  apart-lowered s one low x = search rules

  -- where what was below was low, nothing changes
  pub apart-kept : f q + 1 < f g → (x : ℕ) → f x ≡ above apart f x
  apart-kept low x = search rules
