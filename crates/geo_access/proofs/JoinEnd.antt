-- What a consumer that would join is told, the end of a join that nothing refuses, and what its answers see of both.
use Rattle.std.specs.Prelude.{◌≡◌, ℕ, ◌==◌, Bool, true, false, not, List, [], ◌∷◌, Option, Some, None, Result, Err, IsOk, fold, if◌then◌else◌, ◌≢◌, IsSome, Contains}
use Rattle.std.proofs.Common.{refl, sym, ◌∙◌, ap, subst, eq-eqb, rules}
use Rattle.geo_base.specs.declared.request.Counts.{Counts}
use Rattle.geo_base.specs.declared.errno.Errno.{Errno}
use Rattle.geo_base.specs.declared.errno.Errno.TheVariants.{ENXIO, EPERM, EOVERFLOW, ELOOP, EDEEP}
use Rattle.geo_model.specs.Words.{first_error, names_number}
use Rattle.geo_model.specs.Topology.{Topology, provider_at, consumer_at, is_errored, attach, Provider, Consumer, providers_of, consumers_of}
use Rattle.geo_model.specs.Rank.{would_loop, is_too_deep, attach_refusal}
use Rattle.geo_model.specs.Demand.{is_exclusive, fits_limit, want, no_counts, have, risen}
use Rattle.geo_model.specs.Opens.{below, has_error_below, join_refusal}
use Rattle.geo_mesh.specs.Topo.{TopoView, no_scratch, with_topology, with_want, with_geom_scratch}
use Rattle.geo_mesh.specs.Graph.{IsSoundGraph}
use Rattle.geo_laws_counts.specs.WalkWords.{cap, has_number}
use Rattle.geo_laws_growth.specs.JoinLaws.{Joins}
use Rattle.geo_laws_growth.proofs.Joining.{joins_without_loop, its_number}
use Rattle.geo_access.specs.declared.counts.Way.{Way}
use Rattle.geo_access.specs.declared.counts.Way.TheVariants.{Rises, Falls}
use Rattle.geo_access.specs.declared.order.Order.{Order}
use Rattle.geo_access.specs.declared.decide.Refused.{Refused}
use Rattle.geo_access.specs.declared.decide.Refused.TheVariants.{Named, Writer, Exclusive}
use Rattle.geo_access.specs.declared.refusal.GrantRefusal.TheVariants.{Enxio, Eperm, Eoverflow}
use Rattle.geo_access.specs.Access.{granted_by, IsQuiet, leaves_zero, holds_grants, clear_scratches, IsCounted, noted}
use Rattle.geo_access.specs.declared.refusal.JoinRefusal.{JoinRefusal}
use Rattle.geo_access.specs.Views.{order_of, IsTried, judged, grant_answer, other, raise_want, raise_wants, finish_provider, finish_geom, made_at, MayEnd}
use Rattle.geo_access.specs.Join.{IsCountedBut, IsJoinRefusal, IsJoinNamed, join_answer, attach_told, errno_of_join, errored_below, error_answer, attach_answer, demand_answer, IsPlacedBut, joined_view, IsLoose, wanted}
use Rattle.geo_access.proofs.Walked.{walk, walk_covers, tried_graph, tried_order, walk_reached}
use Rattle.geo_access.proofs.Verdict.{IsVerdict, After, opener_at}
use Rattle.geo_access.proofs.Decided.{decided, IsDemand, IsTold, granted_found, grows}
use Rattle.geo_access.proofs.Coming.{SaysError, open_errors, open_is}
use Rattle.geo_access.proofs.JoinDemand.{Loose, but_told, joined_want, joined_want_is, join_demand, join_after, joined_cases, loose_is, loose_only, nothing_stored, other_stays, wanted_is, change_none}
use Rattle.std.proofs.lemmas.Bool.{eqb-true, ne_eqb}
use Rattle.geo_laws_graph.specs.LookupLaws.{AttachedIsFound}
use Rattle.geo_laws_graph.proofs.Found.{attached-found}
use Rattle.geo_laws_graph.proofs.Lists.{map-changed}
use Rattle.geo_laws_graph.proofs.Members.{All-from_contained, at_contained, Contains-there, Contains-here, Contains-filter}
use Rattle.geo_laws_counts.specs.CountWords.{IsAtMost}
use Rattle.geo_laws_counts.specs.LimitLaws.{greatest_counts}
use Rattle.geo_laws_counts.proofs.LimitFacts.{of_filter}
use Rattle.geo_laws_counts.proofs.Orders.{has-contains, contains-has}
use Rattle.geo_laws_growth.proofs.JoiningBelow.{own_away as never_below}
use Rattle.geo_access.proofs.Folding.{geom_graph, order_graph}
use Rattle.geo_access.proofs.Trying.{trying, Tries}
use Rattle.geo_slots.specs.Slots.{value_at}
use Rattle.geo_mesh.specs.declared.records.Scratch.{Scratch}
use Rattle.geo_access.proofs.Kept.{MayKeep, attached_below, kept_end, want_within, tries, walked_is, may_rise}
use Rattle.geo_access.proofs.Granted.{capped_is, counted_by, numbers_of, noted_is}
use Rattle.geo_access.proofs.Walking.{consumer_known, provider_stands}
use Rattle.geo_base.proofs.Options.{some_and_of, some_of}

-- Counts that are stopped

-- so what is tried with it is tried with the whole
pub tried_whole : {C : Type 0} {t : TopoView C} {p : ℕ} {a b : Counts} {way : Way} {new : TopoView C} {o : Order}
    → a ≡ cap b → IsTried t p a way new o → IsTried t p b way new o
tried_whole {C} {t} {p} {a} {b} {way} {new} {o} is tried = search rules

-- and is judged alike
pub judged_whole : {C : Type 0} (v : TopoView C) (p : ℕ) (a b : Counts) (xs : List ℕ) → a ≡ cap b
    → judged v p a xs ≡ judged v p b xs
judged_whole v p a b xs is = search rules

-- The order of the tests

-- the tests of an attach, and those of a join
abbrev attach_tests : Bool → Bool → Bool → Option Errno
attach_tests errored loop deep = first_error ((errored, ENXIO) ∷ (loop, ELOOP) ∷ (deep, EDEEP) ∷ [])

abbrev join_tests : Bool → Bool → Bool → Bool → Bool → Option Errno
join_tests below loop deep exclusive limit =
    first_error ((below, ENXIO) ∷ (loop, ELOOP) ∷ (deep, EDEEP) ∷ (not exclusive, EPERM) ∷ (not limit, EOVERFLOW) ∷ [])

-- what refuses an attach at a provider without an error refuses a join, where there is no error below
attach_first : (p : ℕ) (loop deep exclusive limit : Bool) (e : Errno) → attach_tests false loop deep ≡ Some e
    → join_tests false loop deep exclusive limit ≡ Some (errno_of_join (attach_told e p))
attach_first p true deep exclusive limit e is = search rules
attach_first p false true exclusive limit e is = search rules
attach_first p false false exclusive limit e is = absurd (cc)

-- and names nothing
attach_names : {C : Type 0} (granted : ℕ → Counts) (t : Topology C) (c p : ℕ) (loop deep : Bool) (e : Errno)
    → attach_tests false loop deep ≡ Some e
    → IsJoinNamed granted t c p (Err (attach_told e p))
attach_names granted t c p true deep e is = search rules
attach_names granted t c p false true e is = search rules
attach_names granted t c p false false e is = absurd (cc)

-- no error is below, so there is none at the provider
sound_here : {C : Type 0} (t : Topology C) (p : ℕ) → has_error_below t p ≡ false → is_errored t p ≡ false
sound_here t p none = search rules

module _ {C : Type 0} (t : Topology C) (c p : ℕ) (granted : ℕ → Counts) where
  -- the tests of an attach there
  abbrev loops : Bool
  loops = would_loop t (consumer_at t c) (provider_at t p)

  abbrev too_deep : Bool
  too_deep = is_too_deep (attach t c p)

  -- what a join is told, from its tests
  tests_are : {below loop deep exclusive limit : Bool} → has_error_below t p ≡ below → loops ≡ loop → too_deep ≡ deep
      → is_exclusive granted (attach t c p) ≡ exclusive → fits_limit granted (attach t c p) ≡ limit
      → join_refusal granted t c p ≡ join_tests below loop deep exclusive limit
  tests_are errors looped deep exclusive limit = search rules

  -- the answer is right, and names what it has to
  abbrev pub IsRight : Result (Unit {0}) JoinRefusal → Type 0
  IsRight r = IsJoinRefusal r (join_refusal granted t c p) × IsJoinNamed granted t c p r

  -- where the attach is refused
  right_attach : (e : Errno) → has_error_below t p ≡ false → attach_refusal t c p ≡ Some e
      → IsRight (Err (attach_told e p))
  right_attach e none refused =
      let tests : attach_tests false loops too_deep ≡ Some e =
      sym (ap (λ b. attach_tests b loops too_deep) (sound_here t p none)) ∙ refused in (
        tests_are none refl refl refl refl
            ∙ attach_first p loops too_deep (is_exclusive granted (attach t c p)) (fits_limit granted (attach t c p)) e
            tests,
        attach_names granted t c p loops too_deep e tests,
      )

  -- where nothing refuses the attach: the tests that are left
  abbrev IsPassed : Type 0
  IsPassed = (has_error_below t p ≡ false) × (loops ≡ false) × (too_deep ≡ false)

  -- the answer to a demand that is judged so
  right_demand : IsPassed → (r : Option Refused) → IsVerdict t p c granted (attach t c p) r
      → errored_below r ≡ None → IsRight (demand_answer (grant_answer r c p))
  right_demand passed None says none = (tests_are passed.0 passed.1 passed.2 says.1 says.2, tt)
  right_demand passed (Some (Named (Enxio q))) says none = absurd (cc)
  right_demand passed (Some (Named (Eperm q w e))) says none =
      (tests_are passed.0 passed.1 passed.2 says.1 refl, says.2)
  right_demand passed (Some (Named (Eoverflow q))) says none = search rules
  right_demand passed (Some (Writer w)) says none = (tests_are passed.0 passed.1 passed.2 says.1 refl, says.2)
  right_demand passed (Some (Exclusive e)) says none = (tests_are passed.0 passed.1 passed.2 says.1 refl, says.2)

  -- an error is named, or there is none
  right_error : (r : Option Refused) → SaysError t p r → (rest : Result (Unit {0}) JoinRefusal)
      → (has_error_below t p ≡ false → errored_below r ≡ None → IsRight rest)
      → IsRight (error_answer (errored_below r) rest)
  right_error (Some (Named (Enxio q))) errors rest so = (tests_are errors.0 refl refl refl refl, errors.1)
  right_error None errors rest so = so errors refl
  right_error (Some (Named (Eperm q w x))) errors rest so = so errors refl
  right_error (Some (Named (Eoverflow q))) errors rest so = so errors refl
  right_error (Some (Writer w)) errors rest so = so errors refl
  right_error (Some (Exclusive x)) errors rest so = so errors refl

  -- a refused attach, or none
  right_attached : has_error_below t p ≡ false → (o : Option Errno) → attach_refusal t c p ≡ o
      → (rest : Result (Unit {0}) JoinRefusal)
      → (IsPassed → IsRight rest) → IsRight (attach_answer o p rest)
  right_attached none None refused rest so = search rules
  right_attached none (Some e) refused rest so = right_attach e none refused

-- an answer that is Ok
pub passed_all : (r : Option Refused) (o : Option Errno) (c p : ℕ) → IsOk (join_answer r o c p)
    → (r ≡ None) × (o ≡ None)
passed_all None None c p ok = (refl, refl)
passed_all None (Some e) c p ok = absurd (cc)
passed_all (Some (Named (Enxio q))) o c p ok = absurd (cc)
passed_all (Some (Named (Eperm q w x))) None c p ok = absurd (cc)
passed_all (Some (Named (Eperm q w x))) (Some e) c p ok = absurd (cc)
passed_all (Some (Named (Eoverflow q))) None c p ok = absurd (cc)
passed_all (Some (Named (Eoverflow q))) (Some e) c p ok = absurd (cc)
passed_all (Some (Writer w)) None c p ok = absurd (cc)
passed_all (Some (Writer w)) (Some e) c p ok = absurd (cc)
passed_all (Some (Exclusive x)) None c p ok = absurd (cc)
passed_all (Some (Exclusive x)) (Some e) c p ok = absurd (cc)

module _ {C : Type 0} {t : TopoView C} {cons : ℕ} (sound : IsSoundGraph t.topology) (counted : IsCountedBut t cons)
    (loose : Loose t cons) {p : ℕ} {add : Counts} {new : TopoView C} {o : Order} (tried : IsTried t p add Rises new o)
    (is : add ≡ cap (want (granted_by t) t.topology loose.one)) where
  abbrev told : IsTold t
  told = but_told sound counted loose

  -- where its geom wouldn't reach itself, it joins
  abbrev pub joins_of : would_loop t.topology (consumer_at t.topology cons) (provider_at t.topology p) ≡ false
      → Joins t.topology cons p
  joins_of around = record {
    consumer = loose.one;
    stands = loose.found;
    free = loose.free;
    order = sound.orderly.order;
    ranked = sound.ranked;
    after =
        Joins.after
        (joins_without_loop t.topology cons p
        (record {
          consumer = loose.one;
          stands = loose.found;
          free = loose.free;
          provider = tried.offer;
          offers = tried.found;
        }) sound.ranked sound.orderly.parts.geoms sound.orderly.order around);
  }

  -- the judgement of the walk
  abbrev pub its_judgement : Option Refused
  its_judgement = judged new p add (order_of new o)

  module _ (j : Joins t.topology cons p) (one : j.consumer ≡ loose.one) where
    -- what it wants once it has joined
    abbrev pub whole : Counts
    whole = joined_want (granted_by t) j

    -- is what was tried, not stopped
    pub add_whole : add ≡ cap whole
    add_whole = search (rules, ap cap (sym (joined_want_is (granted_by t) j)))

    -- so that was tried
    pub whole_tried : IsTried t p whole Rises new o
    whole_tried = tried_whole add_whole tried

    -- as a demand
    abbrev pub whole_demand : IsDemand t p cons whole (granted_by t) (attach t.topology cons p)
        (walk sound counted.clear whole_tried)
    whole_demand = join_demand j (walk sound counted.clear whole_tried) (walk_covers sound counted.clear whole_tried)

    pub its_verdict : IsVerdict t.topology p cons (granted_by t) (attach t.topology cons p) its_judgement
    its_verdict =
        subst (IsVerdict t.topology p cons (granted_by t) (attach t.topology cons p))
        (sym (judged_whole new p add whole (order_of new o) add_whole)) (decided sound told whole_tried whole_demand)

  -- what it is told is right
  pub told_right : IsRight t.topology cons p (granted_by t)
      (join_answer its_judgement (attach_refusal t.topology cons p) cons p)
  told_right =
      let demand : Result (Unit {0}) JoinRefusal = demand_answer (grant_answer its_judgement cons p) in
      right_error t.topology cons p (granted_by t) its_judgement (open_errors tried sound told)
      (attach_answer (attach_refusal t.topology cons p) p demand)
      (λ none no_error.
      right_attached t.topology cons p (granted_by t) none (attach_refusal t.topology cons p) refl demand
      (λ passed. right_demand t.topology cons p (granted_by t) passed its_judgement
      (its_verdict (joins_of passed.1) refl) no_error))

  -- where nothing refuses the attach, its geom wouldn't reach itself
  pub around_free : attach_refusal t.topology cons p ≡ None
      → would_loop t.topology (consumer_at t.topology cons) (provider_at t.topology p) ≡ false
  around_free none = search rules

  -- and where nothing refuses the demand, none stands in another's way and no count is too great
  pub join_fits : (j : Joins t.topology cons p) → (one : j.consumer ≡ loose.one) → its_judgement ≡ None
      → IsVerdict t.topology p cons (granted_by t) (attach t.topology cons p) None
  join_fits j one none = search (rules, its_verdict j one)

-- The end of a walk over another graph

module _ {C : Type 0} where
  -- steps that don't see the graph make the same over another one
  fold_over : {X : Type 0} (u : Topology C) (f : TopoView C → X → TopoView C)
      → ((v : TopoView C) (x : X) → f (with_topology v u) x ≡ with_topology (f v x) u)
      → (xs : List X) (v : TopoView C) → fold f (with_topology v u) xs ≡ with_topology (fold f v xs) u
  fold_over u f same [] v = refl
  fold_over u f same (x ∷ xs) v = ap (λ w. fold f w xs) (same v x) ∙ fold_over u f same xs (f v x)

  -- so what is kept at a provider
  provider_over : (u : Topology C) (keep : Option Way) (v : TopoView C) (y : Provider)
      → finish_provider keep (with_topology v u) y ≡ with_topology (finish_provider keep v y) u
  provider_over u None v y = refl
  provider_over u (Some Rises) v y = refl
  provider_over u (Some Falls) v y = refl

  -- what consumers gain
  wants_over : (u : Topology C) (keep : Option Way) (v : TopoView C) (x : ℕ)
      → consumers_of u x ≡ consumers_of v.topology x
      → raise_wants keep (with_topology v u) x ≡ with_topology (raise_wants keep v x) u
  wants_over u None v x same = refl
  wants_over u (Some way) v x same =
      search (rules, fold_over u (raise_want way (made_at v x)) (λ w c. refl) (consumers_of v.topology x) v)

  -- at a geom whose consumers and providers are the same in both graphs
  geom_over : (u : Topology C) (keep : Option Way) (v : TopoView C) (x : ℕ)
      → consumers_of u x ≡ consumers_of v.topology x → providers_of u x ≡ providers_of v.topology x
      → finish_geom keep (with_topology v u) x ≡ with_topology (finish_geom keep v x) u
  geom_over u keep v x consumers providers =
      ap (λ ys. with_geom_scratch (fold (finish_provider keep) (raise_wants keep (with_topology v u) x) ys) x
      no_scratch) providers
      ∙ ap (λ w. with_geom_scratch (fold (finish_provider keep) w (providers_of v.topology x)) x no_scratch)
      (wants_over u keep v x consumers)
      ∙ ap (λ w. with_geom_scratch w x no_scratch)
      (fold_over u (finish_provider keep) (provider_over u keep) (providers_of v.topology x) (raise_wants keep v x))

  -- so over an order
  pub order_over : (t u : Topology C) (keep : Option Way) (xs : List ℕ) (v : TopoView C) → v.topology ≡ t
      → ((x : ℕ) → Contains xs x → (consumers_of u x ≡ consumers_of t x) × (providers_of u x ≡ providers_of t x))
      → fold (finish_geom keep) (with_topology v u) xs ≡ with_topology (fold (finish_geom keep) v xs) u
  order_over t u keep [] v is same = refl
  order_over t u keep (x ∷ xs) v is same =
      let here = same x (Contains-here x xs) in
      ap (λ w. fold (finish_geom keep) w xs)
      (geom_over u keep v x (here.0 ∙ ap (λ (g : Topology C). consumers_of g x) (sym is)) (here.1
      ∙ ap (λ (g : Topology C). providers_of g x) (sym is)))
      ∙ order_over t u keep xs (finish_geom keep v x) (geom_graph keep v x
      ∙ is) (λ y there. same y (Contains-there x y xs there))

-- What is kept

module _ {C : Type 0} {t : TopoView C} {cons : ℕ} (sound : IsSoundGraph t.topology) (counted : IsCountedBut t cons)
    (loose : Loose t cons) {p : ℕ} {add : Counts} {new : TopoView C} {o : Order} (tried : IsTried t p add Rises new o)
    (is : add ≡ cap (want (granted_by t) t.topology loose.one)) (quiet : IsQuiet t)
    (placed : IsPlacedBut t.topology cons)
    (j : Joins t.topology cons p) (one : j.consumer ≡ loose.one)
    (limit : fits_limit (granted_by t) (attach t.topology cons p) ≡ true) where
  abbrev granted : ℕ → Counts
  granted = granted_by t

  -- the graph with the consumer
  abbrev u : Topology C
  u = attach t.topology cons p

  abbrev its_told : IsTold t
  its_told = but_told sound counted loose

  -- what it wants
  abbrev its : Counts
  its = joined_want granted j

  abbrev full : IsTried t p its Rises new o
  full = whole_tried sound counted loose tried is j one

  abbrev its_order : List ℕ
  its_order = walk sound counted.clear full

  abbrev d : IsDemand t p cons its granted u its_order
  d = whole_demand sound counted loose tried is j one

  -- the geom of the one that joins isn't in the order
  own_away : has_number its_order loose.one.geom ≡ false
  own_away = by (has_number its_order loose.one.geom) refl
    where
      by : (b : Bool) → has_number its_order loose.one.geom ≡ b → b ≡ false
      by false e = refl
      by true e =
          let reached =
          walk_reached sound counted.clear full loose.one.geom (has-contains its_order loose.one.geom e) in
          let z =
          some_and_of (λ (y : Provider). y.geom ≡ loose.one.geom) (provider_at t.topology reached.0) reached.2 in
          let at = provider_stands t sound reached.0 z.0 z.1 in
          absurd (at_contained (λ (y : Provider). Contains (below t.topology p) y.number
          → ⊥) (providers_of t.topology j.consumer.geom) z.0 (never_below t.topology cons p j)
          (Contains-filter (λ (y : Provider). y.geom == j.consumer.geom) t.topology.providers z.0 at.0
          (eq-eqb z.0.geom j.consumer.geom (z.2 ∙ ap (λ (c : Consumer). c.geom) (sym one))))
          (subst (Contains (below t.topology p)) (sym at.1) reached.1))

  -- so the consumers of a geom in it are the same in both graphs
  same_consumers : (x : ℕ) → Contains its_order x → consumers_of u x ≡ consumers_of t.topology x
  same_consumers x inside =
      AttachedIsFound.of attached-found t.topology cons p x
      ∙ change_none (λ (y : Consumer). y.number == cons) (λ y. record y { provider = Some p })
      (consumers_of t.topology x)
      (All-from_contained (λ (y : Consumer). (y.number == cons) ≡ true → (record y { provider = Some p }) ≡ y)
      (consumers_of t.topology x)
      (λ y at e.
      let there = of_filter (λ (d : Consumer). d.geom == x) t.topology.consumers y at in
      let own : y ≡ loose.one = loose_only sound counted loose y there.0 (eqb-true y.number cons e) in
      let geom : x ≡ loose.one.geom = sym (eqb-true y.geom x there.1) ∙ ap (λ (d : Consumer). d.geom) own in
      let no : true ≡ false = sym (contains-has its_order loose.one.geom (subst (Contains its_order) geom inside))
      ∙ own_away in
      absurd (cc)))

  -- what was tried was the whole: it is within the limit
  add_is : add ≡ its
  add_is =
      let at = provider_stands t sound p tried.offer tried.found in
      add_whole sound counted loose tried is j one
      ∙ capped_is its (subst (λ a. IsAtMost a greatest_counts) d.stands.opener_wants
      (want_within granted u d.stands.sums limit p tried.offer at.0 at.1 d.stands.opener (opener_at d.stands)))

  -- what another consumer of the order comes to want is within the limit
  want_fits : (c : Consumer) → Contains t.topology.consumers c → c.number ≢ cons
      → has_number its_order c.geom ≡ true → IsAtMost (want granted u c) greatest_counts
  want_fits c there other inside =
      let at = attached_below sound its_told full c there
      (search rules) inside in
      let z = some_of (provider_at t.topology at.0) at.2 in
      let stands = provider_stands t sound at.0 z.0 z.1 in
      want_within granted u d.stands.sums limit at.0 z.0 stands.0 stands.1 c
      (Contains-filter (λ (x : Consumer). names_number x.provider at.0) u.consumers c
      (other_stays granted j c there other)
      (ap (λ w. names_number w at.0) at.1 ∙ eq-eqb at.0 at.0 refl))

  -- so all of it may be kept
  joins_whole : MayKeep t Rises its_order d.gain d.more cons its (λ z. have granted u z.number) (want granted u)
  joins_whole =
      may_rise d limit (λ (c : Consumer). if c.number == cons then no_counts else want granted t.topology c)
      counted.wants
      (λ c there same. ap (want granted u) (loose_only sound counted loose c there same ∙ sym one))
      (λ c there other. ap (λ b. if b then no_counts else want granted t.topology c) (ne_eqb c.number cons other))
      want_fits

  -- what the walk comes to
  abbrev its_tries : Tries
  its_tries = tries sound its_told full d.demand (grows sound its_told full d) quiet joins_whole

  -- the mesh at the end of the walk
  abbrev attached : TopoView C → TopoView C
  attached v = with_topology v (attach v.topology cons p)

  -- the end of the walk over the graph with the consumer, with its own counts
  pub join_end : with_want (fold (finish_geom (Some Rises)) (attached new) (order_of (attached new) o)) cons add
      ≡ joined_view t cons p
  join_end =
      ap (λ xs. with_want (fold (finish_geom (Some Rises)) (attached new) xs) cons add)
      (tried_order sound counted.clear full)
      ∙ ap (λ v. with_want (fold (finish_geom (Some Rises)) (attached v) its_order) cons add)
      (walked_is sound its_told full d.demand (grows sound its_told full d) quiet joins_whole)
      ∙ ap (λ v. with_want v cons add)
      (search (rules, order_over t.topology u (Some Rises) its_order (trying t its_tries), same_consumers))
      ∙ ap (λ a. with_topology
      (with_want (fold (finish_geom (Some Rises)) (trying t its_tries) its_order) cons a) u) add_is
      ∙ ap (λ v. with_topology v u)
      (kept_end sound its_told full d.demand (grows sound its_told full d) quiet joins_whole)
      ∙ (λ i. record (joined_view t cons p) {
        wants =
            sym (map-changed (λ (c : Consumer). c.number == cons) (λ c. record c { provider = Some p })
            (λ (c : Consumer). let row : ℕ × Counts = (c.number, want granted u c) in row) (λ c e. refl)
            t.topology.consumers) i;
        fallen = sym quiet.fallen i;
      })

-- The mesh in which it has joined

module _ {C : Type 0} {t : TopoView C} {cons : ℕ} (sound : IsSoundGraph t.topology) (counted : IsCountedBut t cons)
    {p : ℕ} (j : Joins t.topology cons p)
    (exclusive : is_exclusive (granted_by t) (attach t.topology cons p) ≡ true)
    (limit : fits_limit (granted_by t) (attach t.topology cons p) ≡ true) where
  -- a consumer that is granted nothing by its class is granted nothing
  none_granted : (c : Consumer) → Contains (attach t.topology cons p).consumers c
      → holds_grants t.topology c.geom ≡ false → granted_by t c.number ≡ no_counts
  none_granted c there none =
      search (
        rules,
        joined_cases (granted_by t) j c there,
        ap (consumer_at t.topology) (its_number t.topology cons p j),
        its_number t.topology cons p j,
        consumer_known t sound c,
        granted_found t c.number,
      )

  -- so the mesh is counted
  joined_counted : IsCounted (joined_view t cons p)
  joined_counted =
      counted_by (joined_view t cons p) (granted_by t) (After.found (join_after (granted_by t) j)) none_granted refl
      refl counted.kinds exclusive limit
      (numbers_of (λ (z : Provider). z.number)
      (λ (z : Provider).
      leaves_zero (have (granted_by t) t.topology z.number) (have (granted_by t) (attach t.topology cons p) z.number))
      t.topology.providers)
      counted.fallen
      (counted.clear
      ∙ ap (λ rows. record (clear_scratches t.topology) { consumers = rows })
      (sym (map-changed (λ (c : Consumer). c.number == cons) (λ c. record c { provider = Some p })
      (λ (c : Consumer). let row : ℕ × Scratch = (c.number, no_scratch) in row) (λ c e. refl) t.topology.consumers)))

-- What its answers see

-- the mesh around a consumer that would join is told
pub joiner_told : {C : Type 0} (t : TopoView C) (cons : ℕ) → IsSoundGraph t.topology → IsCountedBut t cons
    → IsLoose t cons → IsTold t
joiner_told t cons sound counted free = but_told sound counted (loose_is t cons free)

-- a mesh in which the consumer may be attached to the provider, or refused
pub record MayAdmit {C : Type 0} (v : TopoView C) (cons p : ℕ) : Type 0 where
  pub loose : IsLoose v cons
  pub nothing : value_at v.wants cons ≡ Some no_counts
  pub lives : IsSome (provider_at v.topology p)
  pub sound : IsSoundGraph v.topology

-- the one in which its demand was tried is such a mesh
pub may_admit : {C : Type 0} {t : TopoView C} {p : ℕ} {add : Counts} {new : TopoView C} {o : Order} (cons : ℕ)
    → IsTried t p add Rises new o → IsSoundGraph t.topology → IsCountedBut t cons → IsLoose t cons
    → MayAdmit new cons p
may_admit {C} {t} {p} {add} {new} {o} cons tried sound counted free =
    search (
      rules,
      open_is tried sound (joiner_told t cons sound counted free),
      nothing_stored sound counted (loose_is t cons free),
    )

-- where a walk can be ended, it can with a consumer attached
pub attached_may_end : {C : Type 0} {new v : TopoView C} {o : Order} (cons p : ℕ)
    → MayEnd new o → v ≡ with_topology new (attach new.topology cons p) → MayEnd v o
attached_may_end {C} {new} {v} {o} cons p ends attached = search rules

-- and its end leaves the consumer there
pub joiner_stays : {C : Type 0} {t : TopoView C} {p : ℕ} {add : Counts} {new v last : TopoView C} {o : Order}
    (cons : ℕ) → IsTried t p add Rises new o → IsSoundGraph t.topology → IsCountedBut t cons → IsLoose t cons
    → v ≡ with_topology new (attach new.topology cons p) → last ≡ fold (finish_geom (Some Rises)) v (order_of v o)
    → IsSome (consumer_at last.topology cons)
joiner_stays {C} {t} {p} {add} {new} {v} {last} {o} cons tried sound counted free attached ends =
    let loose : Loose t cons = loose_is t cons free in
    subst (λ (u : Topology C). IsSome (consumer_at u cons))
    (sym (ap (λ (w : TopoView C). w.topology) ends ∙ order_graph (Some Rises) (order_of v o) v
    ∙ ap (λ (w : TopoView C). w.topology) attached
    ∙ ap (λ (u : Topology C). attach u cons p) (tried_graph sound counted.clear tried)))
    (subst (λ y. IsSome y) (sym (AttachedIsFound.here attached-found t.topology cons p loose.one loose.found)) refl)

-- the mesh in which a join stands: all counts are kept, and the providers are noted whose write count rose from zero
pub record IsJoined {C : Type 0} (t : TopoView C) (cons p : ℕ) (last : TopoView C) : Type 0 where
  pub is : last ≡ joined_view t cons p
  pub counted : IsCounted last
  pub notes : noted last.risen ≡ risen (granted_by t) t.topology (granted_by t) last.topology

-- a consumer that would join, once the demand is judged and the consumer is attached or refused
module _ {C : Type 0} {t : TopoView C} {p : ℕ} {add : Counts} {new : TopoView C} {o : Order}
    {judgement : Option Refused} {told : Result (Unit {0}) JoinRefusal} (cons : ℕ)
    (tried : IsTried t p add Rises new o) (sound : IsSoundGraph t.topology) (counted : IsCountedBut t cons)
    (free : IsLoose t cons) (wants : add ≡ wanted t cons) (judges : judgement ≡ judged new p add (order_of new o))
    (answers : told ≡ join_answer judgement (attach_refusal new.topology cons p) cons p) where
  -- the consumer
  abbrev joiner : Loose t cons
  joiner = loose_is t cons free

  -- what it wants is what was tried
  wants_is : add ≡ cap (want (granted_by t) t.topology joiner.one)
  wants_is = wants ∙ wanted_is sound counted joiner

  -- it is told what the judgement and the graph before say
  told_is : told ≡ join_answer (judged new p add (order_of new o)) (attach_refusal t.topology cons p) cons p
  told_is =
      answers
      ∙ ap (λ r. join_answer r (attach_refusal new.topology cons p) cons p) judges
      ∙ ap (λ (u : Topology C). join_answer (judged new p add (order_of new o)) (attach_refusal u cons p) cons p)
      (tried_graph sound counted.clear tried)

  -- and that is right
  pub join_told : IsRight t.topology cons p (granted_by t) told
  join_told = search (rules, told_is, told_right sound counted joiner tried wants_is)

  -- where nothing refused it and the walk has ended, it stands
  pub join_stands : {v last : TopoView C} → IsOk told → IsQuiet t → IsPlacedBut t.topology cons
      → v ≡ with_topology new (attach new.topology cons p)
      → last ≡ with_want (fold (finish_geom (Some Rises)) v (order_of v o)) cons add → IsJoined t cons p last
  join_stands {v} {last} ok quiet placed attached ends =
      let passed : IsOk (join_answer (judged new p add (order_of new o)) (attach_refusal t.topology cons p) cons p) =
      subst (λ r. IsOk r) told_is ok in
      let none = passed_all (judged new p add (order_of new o)) (attach_refusal t.topology cons p) cons p passed in
      let j : Joins t.topology cons p =
      joins_of sound counted joiner tried wants_is (around_free sound counted joiner tried wants_is none.1) in
      let fits : IsVerdict t.topology p cons (granted_by t) (attach t.topology cons p) None =
      join_fits sound counted joiner tried wants_is j refl none.0 in
      let is : last ≡ joined_view t cons p =
      ends
      ∙ ap (λ (w : TopoView C). with_want (fold (finish_geom (Some Rises)) w (order_of w o)) cons add) attached
      ∙ join_end sound counted joiner tried wants_is quiet placed j refl fits.2 in
      record {
        is = is;
        counted = subst IsCounted (sym is) (joined_counted sound counted j fits.1 fits.2);
        notes =
            subst (λ (w : TopoView C). noted w.risen
            ≡ risen (granted_by t) t.topology (granted_by t) w.topology) (sym is)
            (noted_is (λ (z : Provider). z.number)
            (λ (z : Provider).
            leaves_zero (have (granted_by t) t.topology z.number)
            (have (granted_by t) (attach t.topology cons p) z.number))
            t.topology.providers);
      }
