-- By how much counts rise where a consumer joins a provider.
use Rattle.std.specs.Prelude.{◌≡◌, ℕ, ◌==◌, true, List, map, Some, if◌then◌else◌}
use Rattle.std.specs.Option.{option_map_or}
use Rattle.std.proofs.Common.{refl, sym, ◌∙◌, ap, eq-eqb}
use Rattle.geo_model.specs.Counts.{Counts}
use Rattle.geo_model.specs.Topology.{Topology, Geom, Provider, Consumer, geom_at, providers_of, attached_to, attach}
use Rattle.geo_model.specs.Demand.{no_counts, add_counts, sum_counts, want_of_kind, have, want}
use Rattle.geo_laws_counts.specs.CountWords.{IsAtMost, more_counts, gain_of_kind}
use Rattle.geo_laws_counts.proofs.Sums.{sum-same, add-assoc, add-zero}
use Rattle.geo_laws_counts.proofs.Wants.{want_of_sum, want-sum, want_of_sum-gain}
use Rattle.geo_laws_counts.proofs.Upward.{have_is_sum}
use Rattle.geo_laws_counts.proofs.Gains.{sum_of_more}
use Rattle.geo_laws_growth.specs.JoinLaws.{Joins, JoiningGains}
use Rattle.geo_laws_growth.proofs.Joining.{joined_known, sum_attached, counts_raised, wants_raised}
use Rattle.geo_laws_growth.proofs.JoiningBelow.{wants_at_it_kept}

-- what a consumer of a class wants more where each provider has no less, by the same grant
gain_over : (H K : ℕ → Counts) → ((p : ℕ) → IsAtMost (H p) (K p))
    → {C : Type 0} (g : Geom C) (ys : List Provider) (grant : Counts)
    → want_of_kind g.kind (map (λ x. K x.number) ys) grant
    ≡ add_counts (want_of_kind g.kind (map (λ x. H x.number) ys) grant)
    (gain_of_kind g.kind (map (λ x. H x.number) ys) (map (λ x. more_counts (H x.number) (K x.number)) ys) no_counts)
gain_over H K less g ys grant =
    let had : List Counts = map (λ (x : Provider). H x.number) ys in
    let has : List Counts = map (λ (x : Provider). K x.number) ys in
    let gains : List Counts = map (λ (x : Provider). more_counts (H x.number) (K x.number)) ys in
    want-sum g.kind has grant
    ∙ ap (λ s. want_of_sum g.kind s grant)
    (sum_of_more (λ (x : Provider). H x.number) (λ (x : Provider). K x.number) (λ x. less x.number) ys)
    ∙ ap (want_of_sum g.kind (add_counts (sum_counts had) (sum_counts gains))) (sym (add-zero grant))
    ∙ want_of_sum-gain g.kind had gains grant no_counts
    ∙ ap (λ a. add_counts a (gain_of_kind g.kind had gains no_counts)) (sym (want-sum g.kind had grant))

module _ {C : Type 0} (t : Topology C) (c p : ℕ) (j : Joins t c p) (granted : ℕ → Counts) where
  -- the graph with the consumer attached
  abbrev u : Topology C
  u = attach t c p

  -- what a consumer wants more, from what the providers of its geom have more
  joining_want_gains : (d : Consumer) (g : Geom C) → geom_at t d.geom ≡ Some g
      → want granted u d
      ≡ add_counts (want granted t d)
      (gain_of_kind g.kind
      (map (λ x. have granted t x.number) (providers_of t g.number))
      (map (λ x. more_counts (have granted t x.number) (have granted u x.number)) (providers_of t g.number))
      no_counts)
  joining_want_gains d g found =
      let ys : List Provider = providers_of t g.number in
      let want_by : (ℕ → Counts) → Counts =
      λ H. option_map_or (λ (k : Geom C). want_of_kind k.kind
      (map (λ (x : Provider). H x.number) (providers_of t k.number)) (granted d.number))
      (geom_at t d.geom) no_counts in
      let of_found : (H : ℕ → Counts) → want_by H
      ≡ want_of_kind g.kind (map (λ (x : Provider). H x.number) ys) (granted d.number) =
      λ H. ap (λ o. option_map_or (λ (k : Geom C). want_of_kind k.kind
      (map (λ (x : Provider). H x.number) (providers_of t k.number)) (granted d.number)) o no_counts) found in
      of_found (have granted u)
      ∙ gain_over (have granted t) (have granted u) (counts_raised t c p j granted) g ys (granted d.number)
      ∙ ap (λ a. add_counts a (gain_of_kind g.kind (map (λ (x : Provider). have granted t x.number) ys)
      (map (λ (x : Provider). more_counts (have granted t x.number) (have granted u x.number)) ys) no_counts))
      (sym (of_found (have granted t)))

  -- what a provider has is the sum over those attached before, and at p the want of the one that joins
  joined_sum : (q : ℕ)
      → have granted u q
      ≡ add_counts (sum_counts (map (want granted u) (attached_to t q)))
      (if p == q then want granted u j.consumer else no_counts)
  joined_sum q =
      have_is_sum u j.after (joined_known t c p j) granted q
      ∙ sum_attached t c p j (want granted u) (λ y o. refl) q

  -- what a provider has more
  joining_have_gains : (q : ℕ)
      → have granted u q
      ≡ add_counts (have granted t q)
      (add_counts
      (sum_counts (map (λ d. more_counts (want granted t d) (want granted u d)) (attached_to t q)))
      (if p == q then want granted u j.consumer else no_counts))
  joining_have_gains q =
      let its : Counts = if p == q then want granted u j.consumer else no_counts in
      let more : Counts = sum_counts (map (λ d. more_counts (want granted t d) (want granted u d)) (attached_to t q)) in
      joined_sum q
      ∙ ap (λ a. add_counts a its) (sum_of_more (want granted t) (want granted u) (wants_raised t c p j granted)
      (attached_to t q))
      ∙ add-assoc (sum_counts (map (want granted t) (attached_to t q))) more its
      ∙ ap (λ a. add_counts a (add_counts more its)) (sym (have_is_sum t j.ranked (joined_known t c p j) granted q))

  -- what the provider has more that is joined
  joined_gains : have granted u p ≡ add_counts (have granted t p) (want granted u j.consumer)
  joined_gains =
      let here : (p == p) ≡ true = eq-eqb p p refl in
      joined_sum p
      ∙ ap (λ b. add_counts (sum_counts (map (want granted u) (attached_to t p)))
      (if b then want granted u j.consumer else no_counts)) here
      ∙ ap (λ a. add_counts a (want granted u j.consumer))
      (sum-same (want granted u) (want granted t) (attached_to t p) (wants_at_it_kept t c p j granted)
      ∙ sym (have_is_sum t j.ranked (joined_known t c p j) granted p))

-- by how much counts rise
pub joining_gains : {C : Type 0} → JoiningGains C
joining_gains = record {
  joined = λ granted t c p j. joined_gains t c p j granted;
  providers = λ granted t c p j. joining_have_gains t c p j granted;
  consumers = λ granted t c p j. joining_want_gains t c p j granted;
}
