-- The judgement is the model's, with what it names.
use Rattle.std.specs.Prelude.{◌≡◌, ◌≢◌, ◌⊎◌, ℕ, ◌==◌, ◌<◌, ◌≤◌, find, min, nat_lt, Bool, true, false, not, ◌&&◌, ◌||◌, List, [], ◌∷◌, map, flat_map, Option, Some, None, IsTrue, Contains, All, option_map, if◌then◌else◌}
use Rattle.std.specs.List.{list_any}
use Rattle.std.specs.Option.{option_or, option_map_or}
use Rattle.std.proofs.Common.{refl, sym, ◌∙◌, ap, subst, arith, inl, inr, eq-eqb, rules}
use Rattle.std.proofs.lemmas.Bool.{eqb-true, cases_eq, ne_eqb}
use Rattle.geo_base.proofs.FindLists.{any-contained}
use Rattle.geo_base.specs.declared.request.Counts.{Counts}
use Rattle.geo_base.specs.declared.errno.Errno.TheVariants.{ENXIO, EPERM, EOVERFLOW}
use Rattle.geo_base.specs.declared.limits.TheConstants.{MAX_ACCESS_COUNT}
use Rattle.geo_base.proofs.MemberLists.{Contains-cases, nothing_in, Contains-filter}
use Rattle.geo_model.specs.Words.{first_error, names_number}
use Rattle.geo_model.specs.Topology.{Topology, Provider, Consumer, provider_at, consumer_at, providers_of, attached_to, providers_under, is_errored}
use Rattle.geo_model.specs.Demand.{no_counts, add_counts, sum_counts, have, want, is_exclusive, fits_limit}
use Rattle.geo_model.specs.Opens.{below, has_error_below, grant_refusal}
use Rattle.geo_model.specs.Refusals.{IsFirstErrored, StandAgainst, IsOverLimit, WantsAt}
use Rattle.geo_mesh.specs.Topo.{TopoView}
use Rattle.geo_laws_counts.specs.CountWords.{IsAtMost}
use Rattle.geo_laws_counts.specs.LimitLaws.{NoneInTheWay, greatest_counts}
use Rattle.geo_laws_counts.proofs.LimitFacts.{of_filter, all_of, apart_from, within_limit}
use Rattle.geo_laws_counts.proofs.Upward.{names_some}
use Rattle.geo_laws_counts.specs.DemandLaws.{StaysAround}
use Rattle.geo_laws_counts.specs.WalkWords.{cap}
use Rattle.geo_laws_counts.proofs.Rising.{changed_exclusive, changed_limit}
use Rattle.geo_access.specs.declared.decide.Side.{Side}
use Rattle.geo_access.specs.declared.decide.Side.TheVariants.{Writes, Excludes}
use Rattle.geo_access.specs.declared.decide.Asked.{Asked}
use Rattle.geo_access.specs.declared.decide.Asked.TheVariants.{Exclusion, Limit}
use Rattle.geo_access.specs.declared.decide.Refused.{Refused}
use Rattle.geo_access.specs.declared.decide.Refused.TheVariants.{Named, Writer, Exclusive}
use Rattle.geo_access.specs.declared.refusal.GrantRefusal.{GrantRefusal}
use Rattle.geo_access.specs.declared.refusal.GrantRefusal.TheVariants.{Enxio, Eperm, Eoverflow}
use Rattle.geo_access.specs.Tries.{is_too_great}
use Rattle.geo_access.specs.Views.{raised, raised_have, has_side, other, pair_at, fault_at, fault_in, first_errored, first_given, beside_exclusive, beside_writer, against, judged, errno_of_refused}
use Rattle.geo_access.proofs.Judging.{errored_at, IsLeastOf, errored_is, other_some, other_none, Clash, Says, pair_says, first_none, first_of}
use Rattle.std.proofs.lemmas.List.Folds.{list_any_none}

-- how the state with the demand stands to the one without: a consumer is the one that makes it, or stood before; each
-- other one stays, and wants what it wanted and what it gains
pub record After {C : Type 0} (t : Topology C) (p own : ℕ) (add : Counts) (granted after : ℕ
    → Counts) (u : Topology C) (gain : ℕ → Counts) (more : Consumer → Counts) : Type 0 where
  pub providers : u.providers ≡ t.providers
  pub stays : StaysAround granted t after u (below t p)
  pub haves : (q : ℕ) → have after u q ≡ add_counts (have granted t q) (gain q)
  pub sums : (q : ℕ) → have after u q ≡ sum_counts (map (want after u) (attached_to u q))
  pub opener : Consumer
  pub opener_there : Contains u.consumers opener
  pub opener_place : opener.provider ≡ Some p
  pub opener_is : opener.number ≡ own
  pub opener_wants : want after u opener ≡ add
  pub cases : (c : Consumer) → Contains u.consumers c → (c ≡ opener) ⊎ (Contains t.consumers c × (c.number ≢ own))
  pub kept : (c : Consumer) → Contains t.consumers c → c.number ≢ own → Contains u.consumers c
  pub others : (c : Consumer) → Contains t.consumers c → c.number ≢ own
      → want after u c ≡ add_counts (want granted t c) (more c)
  pub own_none : (q : ℕ) (c : Consumer) → Contains (attached_to t q) c → c.number ≡ own
      → add_counts (want granted t c) (more c) ≡ no_counts
  pub found : (c : Consumer) → Contains u.consumers c → consumer_at u c.number ≡ Some c
  pub errors : has_error_below u p ≡ has_error_below t p

module _ {C : Type 0} {t : Topology C} {p own : ℕ} {add : Counts} {granted after : ℕ → Counts} {u : Topology C}
    {gain : ℕ → Counts} {more : Consumer → Counts} (ctx : After t p own add granted after u gain more) where
  -- the one that makes the demand is at its provider
  pub opener_at : Contains (attached_to u p) ctx.opener
  opener_at =
      Contains-filter (λ (x : Consumer). names_number x.provider p) u.consumers ctx.opener ctx.opener_there
      (ap (λ o. names_number o p) ctx.opener_place ∙ eq-eqb p p refl)

  -- a consumer at a provider is that one, or was there
  each_after : (q : ℕ) (c : Consumer) → Contains (attached_to u q) c
      → ((c.number ≡ own) × (p ≡ q) × (want after u c ≡ add))
      ⊎ (Contains (attached_to t q) c × (want after u c ≡ add_counts (want granted t c) (more c)))
  each_after q c at =
      let inside = of_filter (λ (x : Consumer). names_number x.provider q) u.consumers c at in
      search (
        rules,
        ctx.cases c inside.0,
        Some p,
        Some q,
        names_some c.provider q inside.1,
        Contains-filter (λ (x : Consumer). names_number x.provider q) t.consumers c,
      )

  -- one that was there is still, where it wants something
  old_after : (q : ℕ) (c : Consumer) → Contains (attached_to t q) c
      → (add_counts (want granted t c) (more c) ≡ no_counts)
      ⊎ (Contains (attached_to u q) c × (c.number ≢ own)
      × (want after u c ≡ add_counts (want granted t c) (more c)))
  old_after q c at =
      search (
        rules,
        of_filter (λ (x : Consumer). names_number x.provider q) t.consumers c,
        cases_eq c.number own,
        ctx.own_none q c,
        Contains-filter (λ (x : Consumer). names_number x.provider q) u.consumers c,
      )

-- a side that is there isn't zero
pub side_there : (n : ℕ) → not (n == 0) ≡ true → n ≢ 0
side_there n e none = let no : false ≡ true = sym (ap not (eq-eqb n 0 none)) ∙ e in absurd (cc)

-- and one that isn't is
pub side_gone : (n : ℕ) → not (n == 0) ≡ false → n ≡ 0
side_gone n e = search rules

-- what is one of the parts of a sum is at most the sum
pub part_at_most : {X : Type 0} (f : X → Counts) (xs : List X) (x : X) → Contains xs x
    → IsAtMost (f x) (sum_counts (map f xs))
part_at_most f [] x there = absurd (nothing_in x there)
part_at_most f (y ∷ ys) x there = search (rules, Contains-cases y x ys there, f x, part_at_most f ys x)

-- whether a count that is stopped is past the limit
abbrev over : ℕ → Bool
over n = nat_lt MAX_ACCESS_COUNT (min n 4294967295)

-- counts that are stopped are within the limit just where the counts are
not_over : (a : Counts) → is_too_great (cap a) ≡ false → IsAtMost a greatest_counts
not_over a e = search rules

-- counts of which one is past the limit
abbrev IsPast : Counts → Type 0
IsPast a = (MAX_ACCESS_COUNT < a.r) ⊎ (MAX_ACCESS_COUNT < a.w) ⊎ (MAX_ACCESS_COUNT < a.e)

-- they are past it just where they are so stopped
is_past : (a : Counts) → is_too_great (cap a) ≡ true → IsPast a
is_past a e = search rules

-- a look that is made unless a count is zero, and finds nothing
beside_none : (n : ℕ) (found : Option ℕ) (why : ℕ → Refused)
    → (if n == 0 then None else option_map why found) ≡ None → (n ≡ 0) ⊎ (found ≡ None)
beside_none n None why none = inr refl
beside_none n (Some m) why none = search rules

-- no item passes, so none does
any_false : {X : Type 0} (test : X → Bool) (xs : List X) → ((x : X) → Contains xs x → test x ≡ false)
    → list_any test xs ≡ false
any_false test xs none = list_any_none test xs (all_of (λ x. test x ≡ false) xs none)

module _ {C : Type 0} (t : Topology C) (known : (z : Provider) → Contains t.providers z
    → provider_at t z.number ≡ Some z)
    (stands : (q : ℕ) (z : Provider) → provider_at t q ≡ Some z → Contains t.providers z × (z.number ≡ q)) where
  -- a provider that is found with an error is one
  error_yes : (q : ℕ) → errored_at t q ≡ true → is_errored t q ≡ true
  error_yes q e = by (provider_at t q) refl e
    where
      by : (o : Option Provider) → provider_at t q ≡ o → option_map_or (λ (y : Provider). y.errored) o false ≡ true
          → is_errored t q ≡ true
      by None at never = absurd (cc)
      by (Some z) at err =
          let is = stands q z at in
          any-contained (λ (x : Provider). (x.number == q) && x.errored) t.providers z is.0
          (ap (λ b. b && z.errored) (eq-eqb z.number q is.1) ∙ err)

  -- and one without isn't
  error_no : (q : ℕ) → errored_at t q ≡ false → is_errored t q ≡ false
  error_no q e = search (rules, any_false (λ (x : Provider). (x.number == q) && x.errored) t.providers, cases_eq)

-- what is said of what refuses a demand at the provider: of the graph before, the consumer that makes it, and the
-- grants and the graph once it stands
abbrev pub IsVerdict : {C : Type 0} → Topology C → ℕ → ℕ → (ℕ → Counts) → Topology C → Option Refused → Type 0
IsVerdict t p own after u None =
    (has_error_below t p ≡ false) × (is_exclusive after u ≡ true) × (fits_limit after u ≡ true)
IsVerdict t p own after u (Some (Named (Enxio q))) = (has_error_below t p ≡ true) × IsFirstErrored t p q
IsVerdict t p own after u (Some (Named (Eperm q w e))) =
    (has_error_below t p ≡ false) × (is_exclusive after u ≡ false) × StandAgainst after u q w e
IsVerdict t p own after u (Some (Named (Eoverflow q))) =
    (has_error_below t p ≡ false) × (is_exclusive after u ≡ true) × (fits_limit after u ≡ false) × IsOverLimit after u q
IsVerdict t p own after u (Some (Writer w)) =
    (has_error_below t p ≡ false) × (is_exclusive after u ≡ false) × StandAgainst after u p w own
IsVerdict t p own after u (Some (Exclusive e)) =
    (has_error_below t p ≡ false) × (is_exclusive after u ≡ false) × StandAgainst after u p own e

module _ {C : Type 0} (v : TopoView C) (p own : ℕ) (add : Counts) (granted after : ℕ
    → Counts) (u : Topology C) (gain : ℕ → Counts) (more : Consumer → Counts)
    (ctx : After v.topology p own add granted after u gain more) where
  -- no error is below
  abbrev HasNoError : Type 0
  HasNoError = has_error_below v.topology p ≡ false

  -- what the look has to say
  abbrev Verdict : Option Refused → Type 0
  Verdict = IsVerdict v.topology p own after u

  -- two consumers at a provider that stand in each other's way
  stand : (q : ℕ) (z : Provider) → Contains u.providers z → z.number ≡ q → (a b : Consumer)
      → Contains (attached_to u q) a → Contains (attached_to u q) b
      → (w e : ℕ) → a.number ≡ w → b.number ≡ e → w ≢ e
      → has_side Writes (want after u a) ≡ true → has_side Excludes (want after u b) ≡ true
      → (is_exclusive after u ≡ false) × StandAgainst after u q w e
  stand q z there at_q a b at bt w e aw be apart writes excludes = (
    never (is_exclusive after u) refl,
    (apart, wanted a w at aw (λ x. x.w ≢ 0) wrote, wanted b e bt be (λ x. x.e ≢ 0) excluded),
  )
    where
      wrote : (want after u a).w ≢ 0
      wrote = side_there (want after u a).w writes

      excluded : (want after u b).e ≢ 0
      excluded = side_there (want after u b).e excludes

      wanted : (c : Consumer) (n : ℕ) → Contains (attached_to u q) c → c.number ≡ n → (Fact : Counts → Type 0)
          → Fact (want after u c) → WantsAt after u q n Fact
      wanted c n ct is Fact fact =
          let inside = of_filter (λ (d : Consumer). names_number d.provider q) u.consumers c ct in
          search (rules, ctx.found c inside.0)

      never : (x : Bool) → is_exclusive after u ≡ x → x ≡ false
      never false is = refl
      never true is =
          elim (apart_from after u is z a b there (subst (λ n. Contains (attached_to u n) a) (sym at_q) at)
          (subst (λ n. Contains (attached_to u n) b) (sym at_q) bt) (λ same. apart (sym aw ∙ same ∙ be)))
          [ inl none ↦ absurd (wrote none) | inr none ↦ absurd (excluded none) ]

  module _ (raises : (q : ℕ) (c : Consumer) → Contains (attached_to v.topology q) c
      → raised v c ≡ cap (add_counts (want granted v.topology c) (more c)))
      (totals : (z : Provider) → Contains v.topology.providers z → raised_have v z.number ≡ cap (have after u z.number))
      (positive : (c : Consumer) → Contains v.topology.consumers c → c.number ≢ 0)
      (known : (z : Provider) → Contains v.topology.providers z → provider_at v.topology z.number ≡ Some z)
      (stands : (q : ℕ) (z : Provider) → provider_at v.topology q ≡ Some z → Contains v.topology.providers z
      × (z.number ≡ q))
      (xs : List ℕ)
      (touched : (q : ℕ) → Contains (below v.topology p) q → Contains (p ∷ flat_map (providers_under v.topology) xs) q)
      (reached : (q : ℕ) → Contains (p ∷ flat_map (providers_under v.topology) xs) q → Contains (below v.topology p) q)
      (covers : (z : Provider) → Contains v.topology.providers z → Contains (below v.topology p) z.number
      → Contains xs z.geom)
      (offer : Provider) (offered : provider_at v.topology p ≡ Some offer)
      (exclusive : is_exclusive granted v.topology ≡ true) (limit : fits_limit granted v.topology ≡ true) where
    -- what a consumer wanted and gains
    abbrev sum_of : Consumer → Counts
    sum_of c = add_counts (want granted v.topology c) (more c)

    -- a consumer that has a side stands in the new state with it
    stays : (side : Side) (q : ℕ) (c : Consumer) → Contains (attached_to v.topology q) c
        → has_side side (sum_of c) ≡ true
        → Contains (attached_to u q) c × (c.number ≢ own) × (has_side side (want after u c) ≡ true)
    stays side q c at has = search (rules, old_after ctx q c)

    -- a provider stands in the new state
    offered_after : (z : Provider) → Contains v.topology.providers z → Contains u.providers z
    offered_after z there = subst (λ ys. Contains ys z) (sym ctx.providers) there

    -- a clash is a refusal
    clash_stands : (z : Provider) → Contains v.topology.providers z → (w e : ℕ) → Clash v sum_of raises z.number w e
        → (is_exclusive after u ≡ false) × StandAgainst after u z.number w e
    clash_stands z there w e clash =
        let a = stays Writes z.number clash.writer clash.writer_at clash.writes in
        let b = stays Excludes z.number clash.exclusive clash.exclusive_at clash.excludes in
        stand z.number z (offered_after z there) refl clash.writer clash.exclusive a.0 b.0 w e clash.writer_is
        clash.exclusive_is clash.apart a.2 b.2

    -- where the demand writes beside another's exclusive count
    exclusive_stands : (e : ℕ) → add.w ≢ 0 → other v p 0 Excludes ≡ Some e
        → (is_exclusive after u ≡ false) × StandAgainst after u p own e
    exclusive_stands e some found =
        let one = other_some v sum_of raises p 0 Excludes e found in
        let there = stays Excludes p one.one one.at one.has in
        let is = stands p offer offered in
        stand p offer (offered_after offer is.0) is.1 ctx.opener one.one (opener_at ctx) there.0 own e ctx.opener_is
        one.number (λ same. there.1 (one.number ∙ sym same))
        (ap (has_side Writes) ctx.opener_wants ∙ ap not (ne_eqb add.w 0 some)) there.2

    -- where it has an exclusive count beside another writer
    writer_stands : (w : ℕ) → add.e ≢ 0 → other v p 0 Writes ≡ Some w
        → (is_exclusive after u ≡ false) × StandAgainst after u p w own
    writer_stands w some found =
        let one = other_some v sum_of raises p 0 Writes w found in
        let there = stays Writes p one.one one.at one.has in
        let is = stands p offer offered in
        stand p offer (offered_after offer is.0) is.1 one.one ctx.opener there.0 (opener_at ctx) w own one.number
        ctx.opener_is (λ same. there.1 (one.number ∙ same)) there.2
        (ap (has_side Excludes) ctx.opener_wants ∙ ap not (ne_eqb add.e 0 some))

    -- what a fault would say of a provider, where there is none in the order
    no_fault_at : (asked : Asked) → first_given (fault_in v asked) xs ≡ None → (z : Provider)
        → Contains v.topology.providers z
        → Contains (below v.topology p) z.number → fault_at v asked z.number ≡ None
    no_fault_at asked none z there near =
        first_none (λ (y : Provider). fault_at v asked y.number) (providers_of v.topology z.geom)
        (first_none (fault_in v asked) xs none z.geom (covers z there near)) z
        (Contains-filter (λ (y : Provider). y.geom == z.geom) v.topology.providers z there (eq-eqb z.geom z.geom refl))

    -- a consumer wants no more than its provider would have, where both are stopped
    stopped_most : (z : Provider) → Contains v.topology.providers z → (c : Consumer)
        → Contains (attached_to u z.number) c → IsAtMost (cap (want after u c)) (raised_have v z.number)
    stopped_most z there c at = search (rules, part_at_most (want after u) (attached_to u z.number) c, totals z there)

    -- two that stood before
    old_pair : (z : Provider) → Contains v.topology.providers z → (a b : Consumer)
        → Contains (attached_to u z.number) a → Contains (attached_to u z.number) b
        → Contains (attached_to v.topology z.number) a → Contains (attached_to v.topology z.number) b
        → a.number ≢ b.number
        → want after u a ≡ sum_of a → want after u b ≡ sum_of b
        → (x y : Bool) → ((raised_have v z.number).w == 0) ≡ x → ((raised_have v z.number).e == 0) ≡ y
        → (o : Option (ℕ × ℕ)) → Says v sum_of raises z.number o
        → ◌≡◌ {A = Option GrantRefusal} (if x || y then None else option_map (λ ab. Eperm z.number ab.0 ab.1) o) None
        → ((want after u a).w ≡ 0) ⊎ ((want after u b).e ≡ 0)
    old_pair z there a b at bt ao bo apart wa wb true y ex ey o says f =
        inl (omega (arith, (stopped_most z there a at).w, eqb-true (raised_have v z.number).w 0 ex))
    old_pair z there a b at bt ao bo apart wa wb false true ex ey o says f =
        inr (omega (arith, (stopped_most z there b bt).e, eqb-true (raised_have v z.number).e 0 ey))
    old_pair z there a b at bt ao bo apart wa wb false false ex ey (Some ab) says f = absurd (cc)
    old_pair z there a b at bt ao bo apart wa wb false false ex ey None says f =
        search (rules, side_gone (sum_of a).w, ap (λ (x : Counts). x.e) wb, side_gone (sum_of b).e)

    -- where no other has a side, none at the provider of the demand has it
    none_beside : (side : Side) → other v p 0 side ≡ None → (c : Consumer) (q : ℕ) → p ≡ q
        → Contains (attached_to v.topology q) c → has_side side (sum_of c) ≡ false
    none_beside side none c q place old =
        let at : Contains (attached_to v.topology p) c =
        subst (λ n. Contains (attached_to v.topology n) c) (sym place) old in
        other_none v sum_of raises p 0 side none c at
        (positive c (of_filter (λ (d : Consumer). names_number d.provider p) v.topology.consumers c at).0)

    -- the demand's own writing beside another
    own_writes : beside_exclusive v p add ≡ None → (z : Provider) → (a b : Consumer) → p ≡ z.number
        → want after u a ≡ add
        → Contains (attached_to v.topology z.number) b → want after u b ≡ sum_of b → ((want after u a).w ≡ 0)
        ⊎ ((want after u b).e ≡ 0)
    own_writes none z a b place wa bo wb =
        elim (beside_none add.w (other v p 0 Excludes) (λ c. Exclusive c) none) [
          | inl zero ↦ inl (ap (λ (x : Counts). x.w) wa ∙ zero)
          | inr is ↦
              inr (ap (λ (x : Counts). x.e) wb
              ∙ side_gone (sum_of b).e (none_beside Excludes is b z.number place bo))
        ]

    -- and its own exclusive count
    own_excludes : beside_writer v p add ≡ None → (z : Provider) → (a b : Consumer) → p ≡ z.number
        → want after u b ≡ add
        → Contains (attached_to v.topology z.number) a → want after u a ≡ sum_of a → ((want after u a).w ≡ 0)
        ⊎ ((want after u b).e ≡ 0)
    own_excludes none z a b place wb ao wa =
        elim (beside_none add.e (other v p 0 Writes) (λ c. Writer c) none) [
          | inl zero ↦ inr (ap (λ (x : Counts). x.e) wb ∙ zero)
          | inr is ↦
              inl (ap (λ (x : Counts). x.w) wa ∙ side_gone (sum_of a).w (none_beside Writes is a z.number place ao))
        ]

    -- where nothing stands in its way, none does in any other's
    none_stand : beside_exclusive v p add ≡ None → beside_writer v p add ≡ None
        → first_given (fault_in v Exclusion) xs ≡ None → is_exclusive after u ≡ true
    none_stand no_exclusive no_writer no_fault =
        changed_exclusive granted v.topology after u (below v.topology p) ctx.stays ctx.providers exclusive
        (all_of (λ (z : Provider). Contains (below v.topology p) z.number
        → NoneInTheWay after u (attached_to u z.number)) v.topology.providers
        (λ z there near.
        all_of (λ (a : Consumer). All (λ (b : Consumer). a.number ≢ b.number → ((want after u a).w ≡ 0)
        ⊎ ((want after u b).e ≡ 0)) (attached_to u z.number)) (attached_to u z.number)
        (λ a at.
        all_of (λ (b : Consumer). a.number ≢ b.number → ((want after u a).w ≡ 0) ⊎ ((want after u b).e ≡ 0))
        (attached_to u z.number)
        (λ b bt apart.
        elim (each_after ctx z.number a at) [
          | inl own_a ↦
              elim (each_after ctx z.number b bt) [
                | inl own_b ↦ absurd (apart (own_a.0 ∙ sym own_b.0))
                | inr old_b ↦ own_writes no_exclusive z a b own_a.1 own_a.2 old_b.0 old_b.1
              ]
          | inr old_a ↦
              elim (each_after ctx z.number b bt) [
                | inl own_b ↦ own_excludes no_writer z a b own_b.1 own_b.2 old_a.0 old_a.1
                | inr old_b ↦
                    old_pair z there a b at bt old_a.0 old_b.0 apart old_a.1 old_b.1
                    ((raised_have v z.number).w == 0) ((raised_have v z.number).e == 0) refl refl (pair_at v z.number)
                    (pair_says v sum_of raises positive z.number) (no_fault_at Exclusion no_fault z there near)
              ]
        ]))))

    -- where no count is too great
    none_over : first_given (fault_in v Limit) xs ≡ None → fits_limit after u ≡ true
    none_over no_fault =
        search (
          rules,
          changed_limit granted v.topology after u (below v.topology p) ctx.stays ctx.providers limit,
          all_of
              (λ (z : Provider). Contains (below v.topology p) z.number → IsAtMost (have after u z.number)
              greatest_counts) v.topology.providers,
          no_fault_at Limit no_fault,
          not_over,
        )

    -- a pair that was found
    pair_stands : HasNoError → (z : Provider) → Contains v.topology.providers z → (r : GrantRefusal) → (x : Bool)
        → (o : Option (ℕ × ℕ)) → Says v sum_of raises z.number o
        → ◌≡◌ {A = Option GrantRefusal} (if x then None else option_map (λ ab. Eperm z.number ab.0 ab.1) o)
        (Some r) → Verdict (Some (Named r))
    pair_stands sound z there r true o says f = absurd (cc)
    pair_stands sound z there r false None says f = absurd (cc)
    pair_stands sound z there r false (Some ab) says f = search (rules, clash_stands z there ab.0 ab.1 says)

    -- a count that is too great
    over_stands : HasNoError → is_exclusive after u ≡ true → (z : Provider) → Contains v.topology.providers z
        → (r : GrantRefusal) → (x : Bool) → is_too_great (raised_have v z.number) ≡ x
        → ◌≡◌ {A = Option GrantRefusal} (if x then Some (Eoverflow z.number) else None) (Some r)
        → Verdict (Some (Named r))
    over_stands sound fine z there r false e f = absurd (cc)
    over_stands sound fine z there r true e f =
        search (
          rules,
          Eoverflow z.number,
          is_past (have after u z.number),
          ap is_too_great (totals z there),
          totals z there,
          ap (λ ys. find (λ (x : Provider). x.number == z.number) ys) ctx.providers,
          known z there,
          within_limit after u,
          offered_after z there,
        )

    -- the provider that a fault names
    fault_of : (asked : Asked) → (r : GrantRefusal) → first_given (fault_in v asked) xs ≡ Some r
        → (z : Provider) × Contains v.topology.providers z × (fault_at v asked z.number ≡ Some r)
    fault_of asked r found =
        let x = first_of (fault_in v asked) xs r found in
        let z = first_of (λ (y : Provider). fault_at v asked y.number) (providers_of v.topology x.0) r x.2 in
        (z.0, (of_filter (λ (y : Provider). y.geom == x.0) v.topology.providers z.0 z.1).0, z.2)

    -- after the look for what is wrong at providers
    by_limit : HasNoError → is_exclusive after u ≡ true → (o : Option GrantRefusal)
        → first_given (fault_in v Limit) xs ≡ o → Verdict (option_map (λ r. Named r) o)
    by_limit sound fine None e = (sound, fine, none_over e)
    by_limit sound fine (Some r) e = search (rules, fault_of Limit r e, over_stands sound fine)

    by_fault : HasNoError → beside_exclusive v p add ≡ None → beside_writer v p add ≡ None
        → (o : Option GrantRefusal) → first_given (fault_in v Exclusion) xs ≡ o
        → Verdict (option_map (λ r. Named r) (option_or o (first_given (fault_in v Limit) xs)))
    by_fault sound no_exclusive no_writer None e =
        by_limit sound (none_stand no_exclusive no_writer e) (first_given (fault_in v Limit) xs) refl
    by_fault sound no_exclusive no_writer (Some r) e =
        search (rules, fault_of Exclusion r e, pair_stands sound, pair_says v sum_of raises positive)

    -- after the look for what stands beside the demand
    by_writer : HasNoError → beside_exclusive v p add ≡ None → (o : Option Refused) → beside_writer v p add ≡ o
        → Verdict (option_or o
        (option_map (λ r. Named r)
        (option_or (first_given (fault_in v Exclusion) xs) (first_given (fault_in v Limit) xs))))
    by_writer sound no_exclusive None e = by_fault sound no_exclusive e (first_given (fault_in v Exclusion) xs) refl
    by_writer sound no_exclusive (Some r) e = search (rules, writer_stands)

    by_exclusive : HasNoError → (o : Option Refused) → beside_exclusive v p add ≡ o
        → Verdict (option_or (option_or o (beside_writer v p add))
        (option_map (λ r. Named r)
        (option_or (first_given (fault_in v Exclusion) xs) (first_given (fault_in v Limit) xs))))
    by_exclusive sound None e = by_writer sound e (beside_writer v p add) refl
    by_exclusive sound (Some r) e = search (rules, exclusive_stands)

    -- after the look for errors
    by_error : (o : Option ℕ) → IsLeastOf v.topology (λ z. Contains (p ∷ flat_map (providers_under v.topology) xs) z) o
        → Verdict (option_or (option_map (λ q. Named (Enxio q)) o)
        (option_or (against v p add)
        (option_map (λ r. Named r)
        (option_or (first_given (fault_in v Exclusion) xs) (first_given (fault_in v Limit) xs)))))
    by_error None least =
        by_exclusive
        (any_false (is_errored v.topology) (below v.topology p)
        (λ z near. error_no v.topology known stands z (least z (touched z near))))
        (beside_exclusive v p add) refl
    by_error (Some q) least = (
      any-contained (is_errored v.topology) (below v.topology p) q (reached q least.0)
          (error_yes v.topology known stands q least.1),
      record {
        is_below = reached q least.0;
        errored = error_yes v.topology known stands q least.1;
        smallest = all_of (λ z. IsTrue (is_errored v.topology z)
            → q ≤ z) (below v.topology p)
            (λ z near err. least.2 z (touched z near) (sure z err (errored_at v.topology z) refl));
      },
    )
      where
        sure : (z : ℕ) → is_errored v.topology z ≡ true → (b : Bool) → errored_at v.topology z ≡ b
            → errored_at v.topology z ≡ true
        sure z err true e = e
        sure z err false e = let no : true ≡ false = sym err ∙ error_no v.topology known stands z e in absurd (cc)

    -- the verdict
    pub verdict : Verdict (judged v p add xs)
    verdict = by_error (first_errored v p xs) (errored_is v p xs)

-- what refuses, from what the three tests say
tests_say : {C : Type 0} (after : ℕ → Counts) (u : Topology C) (p : ℕ) (a b c : Bool) → has_error_below u p ≡ a
    → is_exclusive after u ≡ b → fits_limit after u ≡ c
    → grant_refusal after u p ≡ first_error ((a, ENXIO) ∷ (not b, EPERM) ∷ (not c, EOVERFLOW) ∷ [])
tests_say after u p a b c errors exclusive limit = search rules

-- so the verdict is the model's refusal, where the demand adds no error below
pub refused : {C : Type 0} (t : Topology C) (p own : ℕ) (after : ℕ → Counts) (u : Topology C)
    → has_error_below u p ≡ has_error_below t p → (r : Option Refused) → IsVerdict t p own after u r
    → option_map errno_of_refused r ≡ grant_refusal after u p
refused t p own after u same None says = sym (tests_say after u p false true true (same ∙ says.0) says.1 says.2)
refused t p own after u same (Some (Named (Enxio q))) says = search rules
refused t p own after u same (Some (Named (Eperm q w e))) says = search rules
refused t p own after u same (Some (Named (Eoverflow q))) says = search rules
refused t p own after u same (Some (Writer w)) says = search rules
refused t p own after u same (Some (Exclusive e)) says = search rules
