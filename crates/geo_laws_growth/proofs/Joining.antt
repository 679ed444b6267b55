-- A consumer that isn't attached and joins a provider: sums over what is attached, and that no count falls.
use Rattle.std.specs.Prelude.{◌≡◌, ◌≢◌, ℕ, zero, suc, ◌==◌, Bool, true, false, cond, List, [], ◌∷◌, map, filter, Option, Some, Contains, length, if◌then◌else◌}
use Rattle.std.specs.List.{AllByRecursion}
use Rattle.std.proofs.Common.{refl, sym, ◌∙◌, ap, subst, arith}
use Rattle.std.proofs.lemmas.Bool.{eqb-true, ne_eqb}
use Rattle.geo_model.specs.Counts.{Counts}
use Rattle.geo_model.specs.Words.{names_number, change_where}
use Rattle.geo_model.specs.Topology.{Topology, Consumer, attached_to, attach}
use Rattle.geo_model.specs.Demand.{no_counts, add_counts, sum_counts, want_given, have_within, have, want}
use Rattle.geo_model.proofs.DemandLemmas.{all_weaker, find_passes}
use Rattle.geo_laws_graph.proofs.Members.{find-Contains}
use Rattle.geo_laws_graph.proofs.Numbered.{unique}
use Rattle.geo_laws_graph.proofs.Spared.{IsUntouched, filter-untouched}
use Rattle.geo_laws_graph.proofs.RankChanges.{loop-ranked}
use Rattle.geo_laws_counts.specs.CountWords.{IsAtMost, NumbersLead, IsOnlyOne}
use Rattle.geo_laws_counts.proofs.Sums.{add-assoc, add-zero, zero-add, at_most-zero, sum-at_most, add-move}
use Rattle.geo_laws_counts.proofs.Levels.{of_each, want_given-at_most, grants-same}
use Rattle.geo_laws_counts.proofs.Numbers.{numbers_lead, number_is_only}
use Rattle.geo_laws_growth.specs.JoinLaws.{Joins, JoinsWithoutLoop, JoiningRaises}

-- Sums

module _ {X : Type 0} (f : X → Counts) (test hit : X → Bool) (change : X → X)
    (same : (x : X) → f (change x) ≡ f x) where
  -- a changed item, which counts now or doesn't
  with_changed : (x : X) (after before gain : List X)
      → sum_counts (map f after) ≡ add_counts (sum_counts (map f before)) (sum_counts (map f gain))
      → (b : Bool)
      → sum_counts (map f (cond b (change x ∷ after) after))
      ≡ add_counts (sum_counts (map f before)) (sum_counts (map f (cond b (x ∷ gain) gain)))
  with_changed x after before gain rest true =
      ap (λ a. add_counts a (sum_counts (map f after))) (same x)
      ∙ ap (add_counts (f x)) rest
      ∙ add-move (f x) (sum_counts (map f before)) (sum_counts (map f gain))
  with_changed x after before gain rest false = rest

  -- an item that stays, which counts or doesn't
  with_kept : (x : X) (after before gain : List X)
      → sum_counts (map f after) ≡ add_counts (sum_counts (map f before)) (sum_counts (map f gain))
      → (b : Bool)
      → sum_counts (map f (cond b (x ∷ after) after))
      ≡ add_counts (sum_counts (map f (cond b (x ∷ before) before))) (sum_counts (map f gain))
  with_kept x after before gain rest true =
      ap (add_counts (f x)) rest ∙ sym (add-assoc (f x) (sum_counts (map f before)) (sum_counts (map f gain)))
  with_kept x after before gain rest false = rest

  -- a sum over items that change, where none that changes counted before: it gains what counts afterwards
  pub sum_joined : (xs : List X) → AllByRecursion (λ x. hit x ≡ true → test x ≡ false) xs
      → sum_counts (map f (filter test (change_where hit change xs)))
      ≡ add_counts (sum_counts (map f (filter test xs)))
      (sum_counts (map f (filter (λ x. test (change x)) (filter hit xs))))
  sum_joined [] out = sym (zero-add no_counts)
  sum_joined (x ∷ xs) out = step (hit x) refl (sum_joined xs out.1)
    where
      step : (b : Bool) → hit x ≡ b
          → sum_counts (map f (filter test (change_where hit change xs)))
          ≡ add_counts (sum_counts (map f (filter test xs)))
          (sum_counts (map f (filter (λ y. test (change y)) (filter hit xs))))
          → sum_counts (map f (filter test ((if b then change x else x) ∷ change_where hit change xs)))
          ≡ add_counts (sum_counts (map f (filter test (x ∷ xs))))
          (sum_counts (map f (filter (λ y. test (change y)) (cond b (x ∷ filter hit xs) (filter hit xs)))))
      step true e rest =
          let gone : test x ≡ false = out.0 e in
          rw gone
          (with_changed x (filter test (change_where hit change xs)) (filter test xs)
          (filter (λ y. test (change y)) (filter hit xs)) rest (test (change x)))
      step false e rest =
          with_kept x (filter test (change_where hit change xs)) (filter test xs)
          (filter (λ y. test (change y)) (filter hit xs)) rest (test x)

-- the sum over one item that counts, or over none
sum_one : {X : Type 0} (f : X → Counts) (x : X) (b : Bool) → sum_counts (map f (cond b (x ∷ []) []))
    ≡ (if b then f x else no_counts)
sum_one f x true = add-zero (f x)
sum_one f x false = refl

-- What is attached

module _ {C : Type 0} (t : Topology C) (c p : ℕ) (j : Joins t c p) where
  -- the consumer's number is that by which it is found
  pub its_number : j.consumer.number ≡ c
  its_number = eqb-true j.consumer.number c
      (find_passes (λ (y : Consumer). y.number == c) t.consumers j.consumer j.stands)

  -- it stands
  pub it_stands : Contains t.consumers j.consumer
  it_stands = find-Contains (λ (y : Consumer). y.number == c) t.consumers j.consumer j.stands

  -- each provider is the one that its number leads to
  pub joined_known : NumbersLead t
  joined_known = numbers_lead t j.order.providers.0

  -- it alone has the number
  alone : filter (λ y. y.number == c) t.consumers ≡ j.consumer ∷ []
  alone =
      let only : IsOnlyOne t j.consumer = number_is_only t j.order.consumers.0 j.consumer it_stands in
      subst (λ n. filter (λ y. y.number == n) t.consumers ≡ j.consumer ∷ []) its_number only

  -- no consumer of the number is attached
  unattached : (q : ℕ) → AllByRecursion (λ y. (y.number == c) ≡ true → names_number y.provider q ≡ false) t.consumers
  unattached q =
      all_weaker (λ (y : Consumer). (y.number == c) ≡ true → y ≡ j.consumer)
      (λ (y : Consumer). (y.number == c) ≡ true → names_number y.provider q ≡ false)
      (λ y is e. ap (λ (z : Consumer). names_number z.provider q) (is e) ∙ ap (λ o. names_number o q) j.free)
      t.consumers (unique (λ (y : Consumer). y.number) t.next_consumer c t.consumers j.consumer j.order.consumers
      j.stands)

  -- the same consumers are attached at another provider
  pub attached_elsewhere : (q : ℕ) → p ≢ q → attached_to (attach t c p) q ≡ attached_to t q
  attached_elsewhere q other =
      filter-untouched (λ (y : Consumer). y.number == c) (λ (y : Consumer). names_number y.provider q)
      (λ y. record y { provider = Some p }) t.consumers
      (all_weaker (λ (y : Consumer). (y.number == c) ≡ true → names_number y.provider q ≡ false)
      (IsUntouched (λ (y : Consumer). y.number == c) (λ (y : Consumer). names_number y.provider q)
      (λ y. record y { provider = Some p }))
      (λ y out e. (out e, ne_eqb p q other)) t.consumers (unattached q))

  -- a sum over what is attached gains the part of the consumer, at its provider
  pub sum_attached : (f : Consumer → Counts) → ((y : Consumer) (o : Option ℕ) → f (record y { provider = o }) ≡ f y)
      → (q : ℕ)
      → sum_counts (map f (attached_to (attach t c p) q))
      ≡ add_counts (sum_counts (map f (attached_to t q))) (if p == q then f j.consumer else no_counts)
  sum_attached f same q =
      sum_joined f (λ (y : Consumer). names_number y.provider q) (λ (y : Consumer). y.number == c)
      (λ y. record y { provider = Some p })
      (λ y. same y (Some p)) t.consumers (unattached q)
      ∙ ap (λ ys. add_counts (sum_counts (map f (attached_to t q)))
      (sum_counts (map f (filter (λ (y : Consumer). p == q) ys)))) alone
      ∙ ap (add_counts (sum_counts (map f (attached_to t q)))) (sum_one f j.consumer (p == q))

  module _ (granted : ℕ → Counts) where
    -- over so many levels no count falls
    raised : (k q : ℕ) → IsAtMost (have_within granted k t q) (have_within granted k (attach t c p) q)
    raised zero q = at_most-zero no_counts
    raised (suc k) q =
        let u : Topology C = attach t c p in
        let f : Consumer → Counts = λ d. want_given granted (have_within granted k u) u d in
        let less : IsAtMost (sum_counts (map (want_given granted (have_within granted k t) t) (attached_to t q)))
        (sum_counts (map f (attached_to t q))) =
        sum-at_most (want_given granted (have_within granted k t) t) f (attached_to t q)
        (of_each (λ (d : Consumer). IsAtMost (want_given granted (have_within granted k t) t d) (f d))
        (λ d. want_given-at_most granted granted (grants-same granted) (have_within granted k t)
        (have_within granted k u) (raised k) t d)
        (attached_to t q)) in
        subst (λ a. IsAtMost (have_within granted (suc k) t q) a) (sym (sum_attached f (λ y o. refl) q))
        (more_at_most (have_within granted (suc k) t q) (sum_counts (map f (attached_to t q)))
        (if p == q then f j.consumer else no_counts) less)
      where
        more_at_most : (a b d : Counts) → IsAtMost a b → IsAtMost a (add_counts b d)
        more_at_most a b d h = record { r = omega arith; w = omega arith; e = omega arith }

    -- no count falls
    pub counts_raised : (q : ℕ) → IsAtMost (have granted t q) (have granted (attach t c p) q)
    counts_raised q = raised (length t.geoms) q

    -- nor does a want
    pub wants_raised : (d : Consumer) → IsAtMost (want granted t d) (want granted (attach t c p) d)
    wants_raised d = want_given-at_most granted granted (grants-same granted) (have granted t)
        (have granted (attach t c p)) counts_raised t d

-- a consumer joins without a loop where its geom wouldn't reach itself
pub joins_without_loop : {C : Type 0} → JoinsWithoutLoop C
joins_without_loop t c p can ranked live order e = record {
  consumer = can.consumer;
  stands = can.stands;
  free = can.free;
  order = order;
  ranked = ranked;
  after = (loop-ranked t c p can ranked live order).0 e;
}

-- with a consumer that joins no count and no want falls
pub joining_raises : {C : Type 0} → JoiningRaises C
joining_raises = record {
  counts = λ granted t c p j. counts_raised t c p j granted;
  wants = λ granted t c p j. wants_raised t c p j granted;
}
