-- A consumer of DEV that would come to a provider.
use Rattle.std.specs.Prelude.{◌≡◌, ◌≢◌, ℕ, suc, max, ◌==◌, ◌≤◌, ◌<◌, true, false, cond, List, [], ◌∷◌, filter, fold, Option, Some, None, IsSome, IfSome, IsSomeAnd, Contains, All, option_map, if◌then◌else◌}
use Rattle.std.proofs.Common.{refl, sym, ◌∙◌, ap, subst, arith, inl, inr, eq-eqb, rules}
use Rattle.std.proofs.lemmas.Bool.{ne_eqb}
use Rattle.std.proofs.lemmas.List.Elements.{All-contains, All-push, Contains-push, Contains-push_cases, Contains-append_left}
use Rattle.geo_base.proofs.Options.{some_of, there_with_fact, if_some_weaker, some_and_of, some-with}
use Rattle.geo_base.proofs.FindLists.{find-Contains, found-before, find-pushed_hit}
use Rattle.geo_base.specs.declared.request.Counts.{Counts}
use Rattle.geo_base.proofs.MemberLists.{Contains-there, Contains-here}
use Rattle.geo_model.specs.Words.{names_number, is_granted_kind}
use Rattle.geo_model.specs.Topology.{Topology, Geom, Provider, Consumer, geom_at, provider_at, consumer_at, providers_of}
use Rattle.geo_model.specs.Rank.{rank, Ranked}
use Rattle.geo_model.specs.Opens.{has_error_below, grant_refusal, with_grant, with_opener}
use Rattle.geo_model.specs.Refusals.{IsFirstErrored}
use Rattle.geo_model.specs.Demand.{add_counts, have, want}
use Rattle.geo_mesh.specs.Topo.{TopoView}
use Rattle.geo_mesh.specs.Graph.{IsSoundGraph, IsOffer}
use Rattle.geo_laws_counts.specs.CountWords.{more_counts, NumbersLead, HoldsGrants}
use Rattle.geo_laws_counts.proofs.Sums.{add-more, more-add}
use Rattle.geo_laws_counts.proofs.LimitFacts.{of_filter, all_of}
use Rattle.geo_laws_counts.proofs.Numbers.{numbers_lead, free_of}
use Rattle.geo_laws_counts.proofs.Upward.{have_is_sum}
use Rattle.geo_laws_graph.proofs.EdgeRanks.{climbing-ranked}
use Rattle.geo_laws_counts.specs.DemandLaws.{Comes}
use Rattle.geo_laws_counts.proofs.Openers.{wants_grant, came_more, came_stays, came_wants}
use Rattle.geo_laws_counts.proofs.Refusing.{errors_came}
use Rattle.geo_laws_counts.proofs.Raising.{Covers, coming_demands}
use Rattle.geo_access.specs.declared.counts.Way.TheVariants.{Rises}
use Rattle.geo_access.specs.declared.order.Order.{Order}
use Rattle.geo_access.specs.declared.decide.Refused.{Refused}
use Rattle.geo_access.specs.declared.decide.Refused.TheVariants.{Named}
use Rattle.geo_access.specs.declared.refusal.GrantRefusal.TheVariants.{Enxio}
use Rattle.geo_access.specs.Access.{granted_by}
use Rattle.geo_access.specs.Views.{CountsTell, CountsTellBelow, order_of, finish_geom, IsTried, judged, errno_of_refused}
use Rattle.geo_access.proofs.Trying.{trying}
use Rattle.geo_access.proofs.Walked.{walk, walk_covers}
use Rattle.geo_access.proofs.Verdict.{After, refused}
use Rattle.geo_access.proofs.Decided.{IsTold, consumer_known, new_is, tells, below_tells, cleared, decided, end, IsDemand}
use Rattle.geo_access.proofs.Walking.{none_numbered}

-- what a refusal says of errors: it names the first, or there is none
abbrev pub SaysError : {C : Type 0} → Topology C → ℕ → Option Refused → Type 0
SaysError t p (Some (Named (Enxio q))) = (has_error_below t p ≡ true) × IsFirstErrored t p q
SaysError t p r = has_error_below t p ≡ false

-- of a geom without providers none stands
pub bare_of : (ps : List Provider) (g : ℕ) → ((y : Provider) → Contains ps y → y.geom ≢ g)
    → filter (λ (y : Provider). y.geom == g) ps ≡ []
bare_of [] g none = refl
bare_of (y ∷ ys) g none =
    ap (λ b. cond b (y ∷ filter (λ (z : Provider). z.geom == g) ys) (filter (λ (z : Provider). z.geom == g) ys))
    (ne_eqb y.geom g (none y (Contains-here y ys)))
    ∙ bare_of ys g (λ z there. none z (Contains-there y z ys there))

module _ {C : Type 0} {t : TopoView C} (sound : IsSoundGraph t.topology) (told : IsTold t) (p : ℕ) (y : Provider)
    (offered : provider_at t.topology p ≡ Some y) (add : Counts) where
  -- the graph with the new consumer
  abbrev pub opened : Topology C
  opened = with_opener t.topology p

  -- the grants with its own
  abbrev pub opened_grants : ℕ → Counts
  opened_grants = with_grant (granted_by t) t.topology.next_consumer add

  -- the new consumer
  abbrev pub newcomer : Consumer
  newcomer = record { number = t.topology.next_consumer; geom = 1; provider = Some p; spoiled = false }

  -- no consumer has its number
  pub newcomer_free : All (λ (c : Consumer). c.number ≢ t.topology.next_consumer) t.topology.consumers
  newcomer_free =
      free_of (λ (c : Consumer). c.number) t.topology.consumers t.topology.next_consumer sound.orderly.order.consumers.1

  -- DEV holds grants
  pub dev_holds : HoldsGrants t.topology 1
  dev_holds = search rules

  -- it has no provider
  pub dev_bare : providers_of t.topology 1 ≡ []
  dev_bare = bare_of t.topology.providers 1
      (λ z there. (All-contains (λ (w : Provider). IsOffer w) t.topology.providers z sound.orderly.offers
      there).not_dev)

  -- so a consumer of DEV comes
  pub comes : Comes (granted_by t) t.topology opened_grants 1
  comes = search (rules, newcomer_free)

  pub own_grant : opened_grants t.topology.next_consumer ≡ add
  own_grant = search rules

  -- numbers lead to providers
  pub opened_known : NumbersLead t.topology
  opened_known = numbers_lead t.topology sound.orderly.order.providers.0

  -- with the newcomer DEV is above the provider's geom, and nothing is above DEV
  abbrev tall : ℕ → ℕ
  tall g = if g == 1 then suc (max (rank t.topology 1) (rank t.topology y.geom)) else rank t.topology g

  -- a geom is no less tall than its rank
  tall_most : (g : ℕ) → rank t.topology g ≤ tall g
  tall_most g = search rules

  -- the geom of a provider is as tall as its rank
  tall_offer : (q : ℕ) (z : Provider) → provider_at t.topology q ≡ Some z → tall z.geom ≡ rank t.topology z.geom
  tall_offer q z found =
      ap (λ b. if b then suc (max (rank t.topology 1) (rank t.topology y.geom)) else rank t.topology z.geom)
      (ne_eqb z.geom 1 (All-contains (λ (w : Provider). IsOffer w) t.topology.providers z sound.orderly.offers
      (find-Contains (λ (w : Provider). w.number == q) t.topology.providers z found)).not_dev)

  -- one edge climbs
  climbs_old : (c : Consumer) → Contains t.topology.consumers c
      → IfSome c.provider (λ q. IsSomeAnd (provider_at t.topology q) (λ z. tall z.geom < tall c.geom))
  climbs_old c there =
      if_some_weaker (λ q. IsSomeAnd (provider_at t.topology q) (λ z. rank t.topology z.geom < rank t.topology c.geom))
      (λ q. IsSomeAnd (provider_at t.topology q) (λ z. tall z.geom < tall c.geom))
      (λ q less.
      let z = some_and_of (λ (z : Provider). rank t.topology z.geom < rank t.topology c.geom)
      (provider_at t.topology q) less in
      let same : tall z.0.geom ≡ rank t.topology z.0.geom = tall_offer q z.0 z.1 in
      let most : rank t.topology c.geom ≤ tall c.geom = tall_most c.geom in
      some-with (provider_at t.topology q) (λ (z : Provider). tall z.geom < tall c.geom) z.0 z.1
      (omega (arith, z.2)))
      c.provider
      (All-contains
      (λ (d : Consumer).
      IfSome d.provider
      (λ q. IsSomeAnd (provider_at t.topology q) (λ z. rank t.topology z.geom
      < rank t.topology d.geom))) t.topology.consumers c sound.ranked there)

  -- so the graph with it is ranked
  pub opened_ranked : Ranked opened
  opened_ranked =
      climbing-ranked opened tall
      (All-push (λ (c : Consumer).
      IfSome c.provider (λ q. IsSomeAnd (provider_at t.topology q) (λ z. tall z.geom < tall c.geom)))
      t.topology.consumers newcomer
      (all_of (λ (c : Consumer).
      IfSome c.provider (λ q. IsSomeAnd (provider_at t.topology q) (λ z. tall z.geom < tall c.geom)))
      t.topology.consumers climbs_old)
      (subst (λ o. IsSomeAnd o (λ (z : Provider). tall z.geom < tall 1)) (sym offered)
      (let same : tall y.geom ≡ rank t.topology y.geom = tall_offer p y offered in
      let high : tall 1 ≡ suc (max (rank t.topology 1) (rank t.topology y.geom)) = refl in
      omega arith)))
      (All-push (λ (c : Consumer). IsSome (geom_at t.topology c.geom)) t.topology.consumers newcomer
      sound.orderly.parts.geoms
      (there_with_fact (λ (x : Geom C). is_granted_kind x.kind ≡ true) (geom_at t.topology 1) dev_holds))

  -- what providers and consumers gain by it
  abbrev pub opened_gains : ℕ → Counts
  opened_gains q = more_counts (have (granted_by t) t.topology q) (have opened_grants opened q)

  abbrev pub opened_mores : Consumer → Counts
  opened_mores c = more_counts (want (granted_by t) t.topology c) (want opened_grants opened c)

  -- a consumer that stood wants what it wanted and gains
  old_wants : (c : Consumer) → Contains t.topology.consumers c
      → want opened_grants opened c ≡ add_counts (want (granted_by t) t.topology c) (opened_mores c)
  old_wants c there =
      let g = some_of (geom_at t.topology c.geom)
      (search rules) in
      let e = came_wants (granted_by t) opened_grants t.topology 1 p comes.free comes.kind comes.agree c g.0
      there g.1 in
      e ∙ ap (add_counts (want (granted_by t) t.topology c))
      (sym (ap (more_counts (want (granted_by t) t.topology c)) e ∙ more-add (want (granted_by t) t.topology c) _))

  -- its number isn't the newcomer's
  old_number : (c : Consumer) → Contains t.topology.consumers c → c.number ≢ t.topology.next_consumer
  old_number c there =
      All-contains (λ (d : Consumer). d.number ≢ t.topology.next_consumer) t.topology.consumers c newcomer_free there

  -- how the state with it stands to the one without
  pub opening_after : After t.topology p t.topology.next_consumer add (granted_by t) opened_grants opened
      opened_gains opened_mores
  opening_after = record {
    providers = refl;
    stays = came_stays (granted_by t) opened_grants t.topology 1 p comes.free comes.kind comes.agree opened_ranked
        opened_known dev_bare;
    haves = λ q.
        sym (add-more (have (granted_by t) t.topology q) (have opened_grants opened q)
        (came_more (granted_by t) opened_grants t.topology 1 p comes.free comes.kind comes.agree q));
    sums = λ q. have_is_sum opened opened_ranked opened_known opened_grants q;
    opener = newcomer;
    opener_there = Contains-push t.topology.consumers newcomer;
    opener_place = refl;
    opener_is = refl;
    opener_wants = wants_grant opened_grants opened newcomer dev_holds ∙ own_grant;
    cases = λ c there.
        elim (Contains-push_cases t.topology.consumers newcomer c there)
        [ inl old ↦ inr (old, old_number c old) | inr same ↦ inl (sym same) ];
    kept = λ c there other. Contains-append_left t.topology.consumers (newcomer ∷ []) c there;
    others = λ c there other. old_wants c there;
    own_none = λ q c at same.
        absurd (old_number c
        (of_filter (λ (x : Consumer). names_number x.provider q) t.topology.consumers c at).0 same);
    found = λ c there.
        elim (Contains-push_cases t.topology.consumers newcomer c there) [
          | inl old ↦ found-before (λ (x : Consumer). x.number == c.number) t.topology.consumers (newcomer ∷ []) c
              (consumer_known t sound c old)
          | inr same ↦
              subst (λ d. consumer_at opened d.number ≡ Some d) same
              (find-pushed_hit (λ (x : Consumer). x.number == t.topology.next_consumer) t.topology.consumers newcomer
              (none_numbered t.topology.next_consumer t.topology.consumers old_number)
              (eq-eqb t.topology.next_consumer t.topology.next_consumer refl))
        ];
    errors = errors_came t.topology 1 p dev_bare p;
  }

  -- so it is a demand
  pub opener_demand : (order : List ℕ) → Covers t.topology p order
      → IsDemand t p t.topology.next_consumer add opened_grants opened order
  opener_demand order covers =
      search (
        rules,
        opening_after,
        own_grant,
        coming_demands t.topology opened_known (granted_by t) opened_grants 1 p comes opened_ranked dev_bare order
            covers,
      )

-- where it was tried
module _ {C : Type 0} {t : TopoView C} {p : ℕ} {add : Counts} {new : TopoView C} {o : Order}
    (tried : IsTried t p add Rises new o) (sound : IsSoundGraph t.topology) (told : IsTold t) where
  abbrev its_demand : IsDemand t p t.topology.next_consumer add
      (with_grant (granted_by t) t.topology.next_consumer add) (with_opener t.topology p) (walk sound told.clear tried)
  its_demand =
      opener_demand sound told p tried.offer tried.found add (walk sound told.clear tried)
      (walk_covers sound told.clear tried)

  -- the mesh after the walk has the graph that it had, and stored the counts that it had
  pub open_is : new ≡ trying t (end sound told tried its_demand).tries
  open_is = new_is sound told tried its_demand

  -- where the stored counts are told, those of the provider tell whether a consumer there stands in the way
  pub tells_of : CountsTell new p
  tells_of = tells sound told tried its_demand

  -- and those below tell whether a writer stands beside another's exclusive count there
  pub below_tells_of : CountsTellBelow new (order_of new o)
  below_tells_of = below_tells sound told tried its_demand

  -- the end that keeps nothing leaves the mesh as it was
  pub end_of : fold (finish_geom None) new (order_of new o) ≡ t
  end_of = cleared sound told tried its_demand

  -- the judgement is the model's
  pub open_refused : option_map errno_of_refused (judged new p add (order_of new o))
      ≡ grant_refusal (with_grant (granted_by t) t.topology.next_consumer add) (with_opener t.topology p) p
  open_refused =
      refused t.topology p t.topology.next_consumer (with_grant (granted_by t) t.topology.next_consumer add)
      (with_opener t.topology p) its_demand.stands.errors (judged new p add (order_of new o))
      (decided sound told tried its_demand)

  -- what it says of errors
  pub open_errors : SaysError t.topology p (judged new p add (order_of new o))
  open_errors = search (rules, decided sound told tried its_demand)
