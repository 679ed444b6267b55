-- A log with one entry more, or more of them: the entries before each of its entries, and its requests.
use Rattle.std.proofs.Common.{◌≡◌, ◌⊎◌, List, [], ◌∷◌, ◌++◌, inl, inr, refl, sym, ap, subst, ℕ, ◌+◌, ◌≤◌, Bool, true, false, cond, find, count_by, Option, Some, None, IsSome, IfSome, option_and_then, ◌∙◌, arith, Contains, filter}
use Rattle.std.proofs.lemmas.List.Sums.{sum_by-append, length-filter}
use Rattle.geo_base.proofs.FindLists.{found-before, found_in, none_passes}
use Rattle.geo_model.specs.declared.step.Entry.{Entry}
use Rattle.geo_model.specs.declared.step.Request.{Request}
use Rattle.geo_model.specs.declared.step.Step.{Step}
use Rattle.geo_model.specs.FixedOrder.{delivered_in}
use Rattle.geo_model.specs.Log.{IsSplitBy}
use Rattle.geo_model.specs.Results.{is_take_of, request_in, request_of}
use Rattle.geo_laws_disks.specs.DriveLaws.{AreTaken, IsTaken}
use Rattle.std.proofs.lemmas.Bool.{both_ways}
use Rattle.std.proofs.lemmas.List.Elements.{Contains-append_right}
use Rattle.geo_base.proofs.MemberLists.{one_only}
use Rattle.geo_laws_graph.proofs.Members.{Contains-filter, Contains-here, at_contained}

-- an empty list has no entry in it
pub none_in : (front : List Entry) (x : Entry) (back : List Entry) → [] ≡ front ++ x ∷ back → ⊥
none_in [] x back is = let bad : ⊥ = cc in bad
none_in (y ∷ front) x back is = let bad : ⊥ = cc in bad

-- the log is this front, then the entry, then this back
front_of : (y : Entry) (xs : List Entry) (e : Entry) (earlier : List Entry) (x : Entry)
    → IsSplitBy xs earlier x ⊎ ((earlier ≡ xs) × (x ≡ e))
    → IsSplitBy (y ∷ xs) (y ∷ earlier) x ⊎ ((y ∷ earlier ≡ y ∷ xs) × (x ≡ e))
front_of y xs e earlier x (inl split) = inl (split.0, ap (λ (l : List Entry). y ∷ l) split.1)
front_of y xs e earlier x (inr same) = inr (ap (λ (l : List Entry). y ∷ l) same.0, same.1)

-- an entry of a log with one entry more is one of the log, or that one behind all of the log
pub split_more : (xs : List Entry) (e : Entry) (earlier : List Entry) (x : Entry) → IsSplitBy (xs ++ e ∷ []) earlier x
    → IsSplitBy xs earlier x ⊎ ((earlier ≡ xs) × (x ≡ e))
split_more [] e [] x split =
    let whole : e ∷ [] ≡ x ∷ split.0 = split.1 in
    let same : e ≡ x = cc in
    inr (refl, sym same)
split_more [] e (z ∷ earlier) x split =
    let whole : e ∷ [] ≡ z ∷ (earlier ++ x ∷ split.0) = split.1 in
    let rest : [] ≡ earlier ++ x ∷ split.0 = cc in
    absurd (none_in earlier x split.0 rest)
split_more (y ∷ xs) e [] x split =
    let whole : y ∷ (xs ++ e ∷ []) ≡ x ∷ split.0 = split.1 in
    let same : y ≡ x = cc in
    inl (xs, ap (λ (z : Entry). z ∷ xs) same)
split_more (y ∷ xs) e (z ∷ earlier) x split =
    let whole : y ∷ (xs ++ e ∷ []) ≡ z ∷ (earlier ++ x ∷ split.0) = split.1 in
    let same : y ≡ z = cc in
    let rest : xs ++ e ∷ [] ≡ earlier ++ x ∷ split.0 = cc in
    subst
    (λ (v : Entry). IsSplitBy (y ∷ xs) (v ∷ earlier) x ⊎ ((v ∷ earlier ≡ y ∷ xs) × (x ≡ e))) same
    (front_of y xs e earlier x (split_more xs e earlier x (split.0, rest)))

-- what holds of each entry of a log with those before it, and of one entry more, holds of each of both
pub each_more : (P : List Entry → Entry → Type 0) (xs : List Entry) (e : Entry)
    → ((earlier : List Entry) (x : Entry) → IsSplitBy xs earlier x → P earlier x) → P xs e
    → (earlier : List Entry) (x : Entry) → IsSplitBy (xs ++ e ∷ []) earlier x → P earlier x
each_more P xs e before last earlier x split = by (split_more xs e earlier x split)
  where
    by : IsSplitBy xs earlier x ⊎ ((earlier ≡ xs) × (x ≡ e)) → P earlier x
    by (inl there) = before earlier x there
    by (inr same) = subst (λ (l : List Entry). P l x) (sym same.0) (subst (λ (z : Entry). P xs z) (sym same.1) last)

-- a request that was found is the same in a longer log
pub request_same : (xs ys : List Entry) (b : ℕ) → IsSome (request_of xs b) → request_of (xs ++ ys) b ≡ request_of xs b
request_same xs ys b some = by (find (λ (e : Entry). is_take_of b e.step) xs) refl
  where
    by : (o : Option Entry) → find (λ (e : Entry). is_take_of b e.step) xs ≡ o
        → request_of (xs ++ ys) b ≡ request_of xs b
    by None is =
        let none : IsSome (option_and_then (λ (e : Entry). request_in e.outcome) None) =
        subst (λ o. IsSome (option_and_then (λ (e : Entry). request_in e.outcome) o)) is some in
        absurd (let bad : ⊥ = cc in bad)
    by (Some e) is =
        ap (λ o. option_and_then (λ (x : Entry). request_in x.outcome) o)
        (found-before (λ (x : Entry). is_take_of b x.step) xs ys e is ∙ sym is)

-- what was taken stays taken
taken_stays : (xs ys : List Entry) (s : Step) → IsTaken xs s → IsTaken (xs ++ ys) s
taken_stays xs ys s taken = by (delivered_in s) taken
  where
    by : (o : Option ℕ) → IfSome o (λ b. IsSome (request_of xs b)) → IfSome o (λ b. IsSome (request_of (xs ++ ys) b))
    by None taken = tt
    by (Some b) taken = subst (λ (o : Option Request). IsSome o) (sym (request_same xs ys b taken)) taken

-- with one entry more
taken_with : (xs ys : List Entry) (e : Entry) (es : List Entry) → AreTaken xs es → IsTaken xs e.step
    → AreTaken (xs ++ ys) (es ++ e ∷ [])
taken_with xs ys e [] all last = (taken_stays xs ys e.step last, tt)
taken_with xs ys e (x ∷ es) all last = (taken_stays xs ys x.step all.0, taken_with xs ys e es all.1 last)

-- a log in which each bio is taken before it is delivered, with one such entry more
pub taken_more : (xs : List Entry) (e : Entry) → AreTaken xs xs → IsTaken xs e.step
    → AreTaken (xs ++ e ∷ []) (xs ++ e ∷ [])
taken_more xs e all last = taken_with xs (e ∷ []) e xs all last

-- Items that pass a test

module _ {X : Type 0} (test : X → Bool) where
  -- what is contained and passes is counted
  pub passes_counted : (xs : List X) (y : X) → Contains xs y → test y ≡ true → 1 ≤ count_by test xs
  passes_counted xs y here passes =
      let kept = Contains-filter test xs y here passes in omega (arith, kept.1, length-filter test xs)

  -- where one passes something is found
  pub found_some : (xs : List X) (y : X) → Contains xs y → test y ≡ true → find test xs ≡ None → ⊥
  found_some xs y here passes none =
      both_ways (test y) (at_contained (λ (z : X). test z ≡ false) xs y (none_passes test xs none) here) passes

  -- where one passes at most, it is found
  pub only_found : (xs : List X) (y : X) → count_by test xs ≤ 1 → Contains xs y → test y ≡ true → find test xs ≡ Some y
  only_found xs y once here passes = by (find test xs) refl
    where
      by : (o : Option X) → find test xs ≡ o → find test xs ≡ Some y
      by None none = absurd (found_some xs y here passes none)
      by (Some z) is =
          let found = found_in test xs z is in
          is ∙ ap Some (one_only (filter test xs) z y (omega (arith, length-filter test xs, once))
          (Contains-filter test xs z found.0 found.1) (Contains-filter test xs y here passes))

-- the last Take of a bio that is taken at most once has its request
pub request_last : (first xs : List Entry) (e : Entry) (b : ℕ) (q : Request)
    → count_by (λ (x : Entry). is_take_of b x.step) (first ++ (xs ++ e ∷ [])) ≤ 1 → is_take_of b e.step ≡ true
    → request_in e.outcome ≡ Some q → request_of (xs ++ e ∷ []) b ≡ Some q
request_last first xs e b q once hit asks =
    let test : Entry → Bool = (λ x. is_take_of b x.step) in
    let both : count_by test (first ++ (xs ++ e ∷ [])) ≡ count_by test first + count_by test (xs ++ e ∷ []) =
    sum_by-append (λ x. cond (test x) 1 0) first (xs ++ e ∷ []) in
    ap (λ o. option_and_then (λ (x : Entry). request_in x.outcome) o)
    (only_found test (xs ++ e ∷ []) e (omega (arith, both, once))
    (Contains-append_right xs (e ∷ []) e (Contains-here e [])) hit)
    ∙ asks
