-- A grant that is tried at a consumer that holds nothing, and what it is told.
use Rattle.std.specs.Prelude.{◌≡◌, ◌≢◌, ℕ, ◌==◌, true, List, [], ◌∷◌, map, filter, Option, Some, None, IsSome, IfSome, Contains, if◌then◌else◌, ◌≤◌, Result, option_map}
use Rattle.std.proofs.Common.{refl, ◌∙◌, ap, subst, inl, inr, eq-eqb, rules}
use Rattle.std.proofs.lemmas.Bool.{eqb-true, cases_eq, ne_eqb}
use Rattle.std.proofs.lemmas.List.Elements.{All-contains}
use Rattle.std.proofs.lemmas.List.Kept.{AllPairs-from_increasing}
use Rattle.geo_base.proofs.FindLists.{found_in, find-Contains}
use Rattle.geo_base.specs.declared.request.Counts.{Counts}
use Rattle.geo_model.specs.Words.{names_number}
use Rattle.geo_model.specs.Topology.{Topology, Consumer, provider_at, consumer_at}
use Rattle.geo_model.specs.Opens.{grant_refusal, with_grant}
use Rattle.geo_model.specs.Demand.{no_counts, add_counts, have, want}
use Rattle.geo_slots.specs.Slots.{value_at}
use Rattle.geo_mesh.specs.Topo.{TopoView}
use Rattle.geo_mesh.specs.Graph.{IsSoundGraph}
use Rattle.geo_laws_counts.specs.CountWords.{AreAtMost, more_counts, NumbersLead, HoldsGrants}
use Rattle.geo_laws_counts.proofs.Sums.{add-more, zero-add}
use Rattle.geo_laws_counts.proofs.Levels.{have-at_most, want-at_most}
use Rattle.geo_laws_counts.proofs.LimitFacts.{of_filter, all_of}
use Rattle.geo_laws_counts.proofs.Numbers.{numbers_lead, only_of}
use Rattle.geo_laws_counts.proofs.Upward.{have_is_sum}
use Rattle.geo_laws_counts.specs.DemandLaws.{DiffersAt}
use Rattle.geo_laws_counts.proofs.Singles.{differing_stays}
use Rattle.geo_laws_counts.proofs.Openers.{wants_grant}
use Rattle.geo_laws_counts.proofs.Raising.{Covers, grant_demands}
use Rattle.geo_access.specs.declared.decide.Refused.{Refused}
use Rattle.geo_access.specs.declared.decide.Refused.TheVariants.{Named, Writer, Exclusive}
use Rattle.geo_access.specs.declared.refusal.GrantRefusal.TheVariants.{Enxio, Eperm, Eoverflow}
use Rattle.geo_access.specs.Access.{granted_by, IsCounted, IsHolder, place_of, IsRefusal, IsNamed, consumers_below}
use Rattle.geo_access.specs.Views.{grant_answer, order_of, IsTried, judged, consumers_over, errno_of_refused}
use Rattle.geo_access.proofs.Verdict.{After, IsVerdict, refused}
use Rattle.geo_access.proofs.Decided.{consumer_known, counted_told, decided, steps_bound, IsDemand, nothing_granted}
use Rattle.geo_access.specs.declared.counts.Way.TheVariants.{Rises}
use Rattle.geo_access.specs.declared.order.Order.{Order}
use Rattle.geo_access.proofs.Walked.{walk, walk_covers}
use Rattle.geo_access.specs.declared.refusal.GrantRefusal.{GrantRefusal}
use Rattle.geo_access.proofs.Walking.{consumer_only}

-- a consumer of DEV or TASTE at its provider
pub record Holder {C : Type 0} (t : Topology C) (cons : ℕ) : Type 0 where
  pub one : Consumer
  pub found : consumer_at t cons ≡ Some one
  pub kind : HoldsGrants t one.geom
  pub place : one.provider ≡ Some (place_of t cons)

-- is what the condition says
pub holder_is : {C : Type 0} (t : Topology C) (cons : ℕ) → IsHolder t cons → Holder t cons
holder_is t cons holder = search rules

-- its provider lives
pub holder_lives : {C : Type 0} (t : Topology C) → IsSoundGraph t → (cons : ℕ) → Holder t cons
    → IsSome (provider_at t (place_of t cons))
holder_lives t sound cons holder =
    subst (λ o. IfSome o (λ p. IsSome (provider_at t p))) holder.place
    (All-contains (λ (c : Consumer). IfSome c.provider (λ p. IsSome (provider_at t p))) t.consumers holder.one
    sound.orderly.parts.providers
    (find-Contains (λ (c : Consumer). c.number == cons) t.consumers holder.one holder.found))

module _ {C : Type 0} {t : TopoView C} {cons : ℕ} (sound : IsSoundGraph t.topology) (counted : IsCounted t)
    (holder : Holder t.topology cons) where
  -- the provider to which it is attached
  abbrev place : ℕ
  place = place_of t.topology cons

  -- numbers lead to providers
  pub numbers_are : NumbersLead t.topology
  numbers_are = numbers_lead t.topology sound.orderly.order.providers.0

  -- it stands, with its number
  one_is : Contains t.topology.consumers holder.one × ((holder.one.number == cons) ≡ true)
  one_is = found_in (λ (c : Consumer). c.number == cons) t.topology.consumers holder.one holder.found

  pub one_number : holder.one.number ≡ cons
  one_number = eqb-true holder.one.number cons one_is.1

  -- a consumer of its number is it
  pub one_only : (c : Consumer) → Contains t.topology.consumers c → c.number ≡ cons → c ≡ holder.one
  one_only = consumer_only t sound cons holder.one holder.found

  pub one_filtered : filter (λ (x : Consumer). x.number == cons) t.topology.consumers ≡ holder.one ∷ []
  one_filtered =
      subst (λ n. filter (λ (x : Consumer). x.number == n) t.topology.consumers ≡ holder.one ∷ []) one_number
      (only_of (λ (x : Consumer). x.number) t.topology.consumers
      (AllPairs-from_increasing (map (λ (x : Consumer). x.number) t.topology.consumers)
      sound.orderly.order.consumers.0) holder.one one_is.0)

  -- with another grant of its own
  module _ (add : Counts) where
    abbrev after : ℕ → Counts
    after = with_grant (granted_by t) cons add

    -- the other grants stay
    pub others_stay : (n : ℕ) → n ≢ cons → after n ≡ granted_by t n
    others_stay n other = ap (λ b. if b then add else granted_by t n) (ne_eqb n cons other)

    -- its own is this one
    pub own_is : after cons ≡ add
    own_is = ap (λ b. if b then add else granted_by t cons) (eq-eqb cons cons refl)

    -- so it wants that
    pub own_want : (c : Consumer) → Contains t.topology.consumers c → c.number ≡ cons
        → want after t.topology c ≡ add
    own_want c there same =
        ap (want after t.topology) (one_only c there same) ∙ wants_grant after t.topology holder.one holder.kind
        ∙ ap after one_number ∙ own_is

    -- no other grant differs
    pub one_differs : DiffersAt (granted_by t) after t.topology cons place
    one_differs = record {
      agree = others_stay;
      place =
          all_of (λ (c : Consumer). c.number ≡ cons → c.provider ≡ Some place) t.topology.consumers
          (λ c there same. ap (λ (x : Consumer). x.provider) (one_only c there same) ∙ holder.place);
    }

    -- where it was granted nothing
    module _ (stored : value_at t.wants cons ≡ Some no_counts) where
      none_granted : granted_by t cons ≡ no_counts
      none_granted = nothing_granted t cons holder.one holder.found stored

      -- no grant falls
      pub grants_rise : AreAtMost (granted_by t) after
      grants_rise n = search rules

      -- the demand is the whole grant
      first_is : more_counts (granted_by t cons) (after cons) ≡ add
      first_is = search rules

      -- what providers and consumers gain by it
      abbrev pub gains : ℕ → Counts
      gains q = more_counts (have (granted_by t) t.topology q) (have after t.topology q)

      abbrev pub mores : Consumer → Counts
      mores x = if x.number == cons then no_counts else more_counts (want (granted_by t) t.topology x)
          (want after t.topology x)

      -- a consumer other than it wants what it wanted and gains
      pub other_wants : (c : Consumer) → c.number ≢ cons
          → want after t.topology c ≡ add_counts (want (granted_by t) t.topology c) (mores c)
      other_wants c other =
          search (
            rules,
            add-more (want (granted_by t) t.topology c) (want after t.topology c)
                (want-at_most (granted_by t) after grants_rise t.topology c),
          )

      -- how the state with the grant stands to the one without
      granting_after : After t.topology place cons add (granted_by t) after t.topology gains mores
      granting_after = record {
        providers = refl;
        stays = differing_stays (granted_by t) after t.topology cons place one_differs sound.ranked numbers_are;
        haves = search (rules, have-at_most (granted_by t) after grants_rise t.topology);
        sums = λ q. have_is_sum t.topology sound.ranked numbers_are after q;
        opener = holder.one;
        opener_there = one_is.0;
        opener_place = holder.place;
        opener_is = one_number;
        opener_wants = own_want holder.one one_is.0 one_number;
        cases = λ c there.
            elim (cases_eq c.number cons)
            [ inl same ↦ inl (one_only c there same) | inr other ↦ inr (there, other) ];
        kept = λ c there other. there;
        others = λ c there other. other_wants c other;
        own_none = λ q c at same.
            ap (λ a. add_counts a (mores c))
            (ap (want (granted_by t) t.topology)
            (one_only c (of_filter (λ (x : Consumer). names_number x.provider q) t.topology.consumers c at).0 same)
            ∙ wants_grant (granted_by t) t.topology holder.one holder.kind ∙ ap (granted_by t) one_number
            ∙ none_granted)
            ∙ ap (λ b. add_counts no_counts
            (if b then no_counts else more_counts (want (granted_by t) t.topology c)
            (want after t.topology c))) (eq-eqb c.number cons same)
            ∙ zero-add no_counts;
        found = consumer_known t sound;
        errors = refl;
      }

      -- so it is a demand
      pub grant_demand : (order : List ℕ) → Covers t.topology place order
          → IsDemand t place cons add after t.topology order
      grant_demand order covers =
          search (
            rules,
            granting_after,
            first_is,
            grant_demands t.topology sound.ranked numbers_are (granted_by t) after grants_rise cons place holder.one
                one_differs one_filtered holder.place one_number holder.kind order covers,
          )

      module _ {new : TopoView C} {o : Order} (tried : IsTried t place add Rises new o) where
        -- the demand that was tried
        abbrev pub its_demand : IsDemand t place cons add after t.topology (walk sound counted.clear tried)
        its_demand = grant_demand (walk sound counted.clear tried) (walk_covers sound counted.clear tried)

        -- what its judgement says
        pub its_verdict : IsVerdict t.topology place cons after t.topology (judged new place add (order_of new o))
        its_verdict = decided sound (counted_told t sound counted) tried its_demand

-- The answer

-- what is told has the error of what refuses
refusal_told : (own p : ℕ) (r : Option Refused) → IsRefusal (grant_answer r own p) (option_map errno_of_refused r)
refusal_told own p None = refl
refusal_told own p (Some (Named (Enxio q))) = refl
refusal_told own p (Some (Named (Eperm q w e))) = refl
refusal_told own p (Some (Named (Eoverflow q))) = refl
refusal_told own p (Some (Writer w)) = refl
refusal_told own p (Some (Exclusive e)) = refl

-- and names what it has to
pub answer_names : {C : Type 0} (t : Topology C) (p own : ℕ) (after : ℕ → Counts) (r : Option Refused)
    → IsVerdict t p own after t r → IsNamed after t p (grant_answer r own p)
answer_names t p own after None says = tt
answer_names t p own after (Some (Named (Enxio q))) says = says.1
answer_names t p own after (Some (Named (Eperm q w e))) says = says.2
answer_names t p own after (Some (Named (Eoverflow q))) says = says.3
answer_names t p own after (Some (Writer w)) says = says.2
answer_names t p own after (Some (Exclusive e)) says = says.2

-- a grant that was asked for: the answer is the model's, it names what it has to, and the steps are within the bound
pub record IsAnswered {C : Type 0} (t : TopoView C) (cons : ℕ) (add : Counts) (new : TopoView C) (o : Order)
    (told : Result (Unit {0}) GrantRefusal) : Type 0 where
  pub answer : IsRefusal told (grant_refusal (with_grant (granted_by t) cons add) t.topology (place_of t.topology cons))
  pub named : IsNamed (with_grant (granted_by t) cons add) t.topology (place_of t.topology cons) told
  pub bound : consumers_over t.topology (order_of new o) ≤ consumers_below t.topology (place_of t.topology cons)

-- so it is where it was tried at the provider of its consumer, and judged
pub answered : {C : Type 0} {t : TopoView C} {p : ℕ} {add : Counts} {new : TopoView C} {o : Order}
    {judgement : Option Refused} {told : Result (Unit {0}) GrantRefusal} (cons : ℕ) → IsTried t p add Rises new o
    → p ≡ place_of t.topology cons → IsSoundGraph t.topology → IsCounted t → IsHolder t.topology cons
    → value_at t.wants cons ≡ Some no_counts → judgement ≡ judged new p add (order_of new o)
    → grant_answer judgement cons p ≡ told → IsAnswered t cons add new o told
answered {C} {t} {p} {add} {new} {o} {judgement} {told} cons tried at sound counted holds stored judges answers =
    let holder : Holder t.topology cons = holder_is t.topology cons holds in
    let here : IsTried t (place_of t.topology cons) add Rises new o =
    subst (λ n. IsTried t n add Rises new o) at tried in
    search (
      rules,
      its_verdict sound counted holder add stored here,
      refused t.topology (place_of t.topology cons) cons (with_grant (granted_by t) cons add) t.topology,
      refusal_told cons (place_of t.topology cons) judgement,
      answer_names t.topology (place_of t.topology cons) cons (with_grant (granted_by t) cons add) judgement,
      steps_bound sound counted.clear here,
    )
