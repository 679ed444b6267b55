-- The end of a demand that is kept: what is gained or lost below comes into the counts, once each.
use Rattle.std.specs.Prelude.{◌≡◌, ◌≢◌, ℕ, ◌==◌, Bool, true, false, List, [], map, fold, Option, Some, None, IsSome, IfSome, Contains, if◌then◌else◌, unwrap_or, ◌≤◌}
use Rattle.std.proofs.Common.{refl, sym, ◌∙◌, ap, subst, eq-eqb, arith, rules}
use Rattle.std.proofs.Math.Bool.{and-not_self, not-and_self}
use Rattle.std.proofs.lemmas.Bool.{cases_eq, ne_eqb}
use Rattle.geo_base.specs.declared.request.Counts.{Counts}
use Rattle.geo_base.proofs.MemberLists.{nothing_in, Contains-filter}
use Rattle.geo_model.specs.Words.{names_number}
use Rattle.geo_model.specs.Topology.{Provider, Consumer, provider_at, providers_of, attached_to, geom_at, Topology}
use Rattle.geo_model.specs.Demand.{no_counts, add_counts, sum_counts, have, want, fits_limit, risen, fallen, is_exclusive}
use Rattle.geo_slots.specs.Slots.{value_at}
use Rattle.geo_mesh.specs.Topo.{TopoView, with_want}
use Rattle.geo_mesh.specs.Graph.{IsSoundGraph}
use Rattle.geo_laws_counts.specs.CountWords.{IsAtMost, more_counts, AreAtMost}
use Rattle.geo_laws_counts.specs.LimitLaws.{greatest_counts}
use Rattle.geo_laws_counts.proofs.Sums.{add-zero, add-more, at_most-trans, counts-same}
use Rattle.geo_laws_counts.proofs.Levels.{want-at_most, have-at_most}
use Rattle.geo_laws_counts.proofs.LimitFacts.{within_limit}
use Rattle.geo_laws_counts.specs.WalkWords.{has_number, cap}
use Rattle.geo_laws_counts.proofs.Orders.{has-contains, has_not}
use Rattle.geo_laws_counts.proofs.Flows.{add-cap}
use Rattle.geo_laws_counts.proofs.Raising.{Demands, grant_demands}
use Rattle.geo_access.specs.declared.counts.Way.TheVariants.{Rises, Falls}
use Rattle.geo_access.specs.declared.order.Order.{Order}
use Rattle.geo_access.specs.Access.{granted_by, IsCounted, IsQuiet, IsPlaced, granted_view, leaves_zero, IsHolder, place_of, noted, holds_grants, released_view, comes_to_zero, consumers_below, counted_view}
use Rattle.geo_access.specs.Tries.{shifted, had}
use Rattle.geo_access.specs.Views.{order_of, finish_geom, IsTried, judged, have_at, consumers_over, want_at}
use Rattle.geo_access.proofs.Trying.{Tries, trying}
use Rattle.geo_model.specs.Opens.{with_grant}
use Rattle.geo_laws_counts.proofs.Upward.{have_is_sum}
use Rattle.geo_laws_counts.specs.DemandLaws.{DiffersAt}
use Rattle.geo_access.proofs.TryOut.{Spread}
use Rattle.geo_laws_counts.proofs.Keeping.{exclusive_less, limit_less}
use Rattle.geo_access.proofs.Granting.{Holder, holder_is, numbers_are, one_differs, one_filtered, one_number, one_only, others_stay, own_want, its_demand, its_verdict}
use Rattle.geo_access.proofs.Decided.{IsDemand, IsTold, counted_told, granted_found, grows, holds_true, steps_bound, stored_have, item_at}
use Rattle.geo_access.proofs.Verdict.{IsVerdict, part_at_most}
use Rattle.geo_access.proofs.Granted.{Kept, Parts, capped_is, counted_by, fall_of, keep_all, kept_cell, parts_rows, rise_of, with_parts, Cell, numbers_of, noted_is}
use Rattle.geo_access.specs.declared.counts.Way.{Way}
use Rattle.geo_access.proofs.Walking.{consumer_known, provider_known, provider_stands}
use Rattle.geo_access.proofs.Walked.{first_tries, made_is, order_apart, outside_gain, tried_order, tried_view, walk, walk_covers, walk_lives, walk_ordered, walk_reached, walked}
use Rattle.geo_access.proofs.Clearing.{link_outside, rows_agree}
use Rattle.geo_base.proofs.Options.{some_and_of, some_of}

-- a choice between the same
same_both : {V : Type 0} (b : Bool) (x y z : V) → (b ≡ true → x ≡ z) → (b ≡ false → y ≡ z)
    → (if b then x else y) ≡ z
same_both true x y z here away = here refl
same_both false x y z here away = away refl

-- Cells

-- a provider that isn't noted, with counts and what it gains
abbrev cell : Counts → Counts → Cell
cell have gain = record { have = have; risen = false; fallen = false; gain = gain }

-- one that gains nothing stays as it is, where its counts are within the limit
idle_cell : (way : Way) (a gain : Counts) → IsAtMost a greatest_counts → gain ≡ no_counts
    → kept_cell way (cell a gain) ≡ cell a gain
idle_cell way a gain most none =
    let counted : Counts → Cell =
    λ h. record { have = h; risen = rise_of way a h; fallen = fall_of way a h; gain = no_counts } in
    ap (λ g. kept_cell way (cell a g)) none ∙ ap counted (stays way) ∙ quiet way ∙ sym (ap (cell a) none)
  where
    stays : (by : Way) → shifted by a no_counts ≡ a
    stays Rises = ap cap (add-zero a) ∙ capped_is a most
    stays Falls = counts-same (more_counts no_counts a) a (omega arith) (omega arith) (omega arith)

    quiet : (by : Way)
        → ◌≡◌ {A = Cell}
        (record { have = a; risen = rise_of by a a; fallen = fall_of by a a; gain = no_counts }) (cell a no_counts)
    quiet Rises = ap (λ b. record { have = a; risen = b; fallen = false; gain = no_counts }) (and-not_self (a.w == 0))
    quiet Falls = ap (λ b. record { have = a; risen = false; fallen = b; gain = no_counts }) (not-and_self (a.w == 0))

-- The end of a walk that is kept

-- what it may come to: what the consumers held; the counts that providers come to have; and what the consumers come to
-- want, where the one that makes the demand wants its own
pub record MayKeep {C : Type 0} (t : TopoView C) (way : Way) (order : List ℕ) (gain : ℕ → Counts)
    (more : Consumer → Counts) (cons : ℕ) (its : Counts) (counts : Provider → Counts)
    (wanted : Consumer → Counts) : Type 0 where
  pub held : Consumer → Counts
  pub stored : t.wants ≡ map (λ (c : Consumer). (c.number, held c)) t.topology.consumers
  pub keeps : (z : Provider) → Contains t.topology.providers z
      → shifted way (have (granted_by t) t.topology z.number) (cap (gain z.number)) ≡ counts z
  pub own : (c : Consumer) → Contains t.topology.consumers c → c.number ≡ cons → wanted c ≡ its
  pub changes : (c : Consumer) → Contains t.topology.consumers c → c.number ≢ cons → has_number order c.geom ≡ true
      → shifted way (held c) (cap (more c)) ≡ wanted c
  pub stays : (c : Consumer) → Contains t.topology.consumers c → c.number ≢ cons → more c ≡ no_counts
      → held c ≡ wanted c

module _ {C : Type 0} {t : TopoView C} (sound : IsSoundGraph t.topology) (told : IsTold t) {p : ℕ} {add : Counts}
    {way : Way} {new : TopoView C} {o : Order} (tried : IsTried t p add way new o) where
  abbrev pub below : List ℕ
  below = walk sound told.clear tried

  -- a consumer of a geom below is attached to a provider, where one that isn't is of a geom without providers
  pub attached_below : (c : Consumer) → Contains t.topology.consumers c
      → (c.provider ≡ None → providers_of t.topology c.geom ≡ []) → has_number below c.geom ≡ true
      → (q : ℕ) × (c.provider ≡ Some q) × IsSome (provider_at t.topology q)
  attached_below c there placed inside =
      by c.provider refl
      (search rules)
    where
      by : (w : Option ℕ) → c.provider ≡ w → IfSome w (λ q. IsSome (provider_at t.topology q))
          → (q : ℕ) × (c.provider ≡ Some q) × IsSome (provider_at t.topology q)
      by (Some q) attached lives = (q, attached, lives)
      by None loose lives =
          let reached = walk_reached sound told.clear tried c.geom (has-contains below c.geom inside) in
          let z = some_and_of (λ (y : Provider). y.geom ≡ c.geom) (provider_at t.topology reached.0) reached.2 in
          absurd (nothing_in z.0 (subst (λ ys. Contains ys z.0) (placed loose)
          (Contains-filter (λ (w : Provider). w.geom == c.geom) t.topology.providers z.0
          (provider_stands t sound reached.0 z.0 z.1).0 (eq-eqb z.0.geom c.geom z.2))))

  module _ {small gain : ℕ → Counts} {more : Consumer → Counts}
      (demand : Demands t.topology p add small gain more below)
      (shrinks : (z : Provider) → Contains t.topology.providers z
      → had way (have_at t z.number) (cap (gain z.number)) ≡ small z.number) (quiet : IsQuiet t)
      {cons : ℕ} {its : Counts} {counts : Provider → Counts} {wanted : Consumer → Counts}
      (may : MayKeep t way below gain more cons its counts wanted) where
    -- what the walk came to
    abbrev pub spread : Spread t sound way p add small gain more below demand shrinks below
        (first_tries tried.offer.geom below p add)
    spread = walked t sound told.clear p tried.offer tried.found way add small gain more demand shrinks

    abbrev pub tries : Tries
    tries = spread.tries

    pub walked_is : new ≡ trying t tries
    walked_is = tried_view sound told.clear tried ∙ spread.is

    -- the parts of the mesh then
    abbrev parts : Parts
    parts = record {
      marks = tries.marks;
      made = tries.made;
      cells = λ n. cell (have (granted_by t) t.topology n) (tries.gains n);
      wants = want_at t;
    }

    -- what a consumer held
    held_is : (c : Consumer) → Contains t.topology.consumers c → want_at t c.number ≡ may.held c
    held_is c there =
        ap (λ rows. unwrap_or (value_at rows c.number) no_counts) may.stored
        ∙ ap (λ o. unwrap_or o no_counts)
        (item_at (λ (x : Consumer). x.number) may.held c.number t.topology.consumers c (consumer_known t sound c there))

    -- a quiet mesh is told by them
    parts_are : trying t tries ≡ with_parts t parts
    parts_are =
        search (
          rules,
          rows_agree (λ (c : Consumer). c.number) (λ (c : Consumer). want_at t c.number) may.held t.topology.consumers
              held_is,
        )

    -- what is kept
    all : Kept t sound way below parts
    all =
        keep_all t sound way below parts (order_apart t.topology below (walk_ordered sound told.clear tried))
        (walk_lives sound told.clear tried)

    -- what each provider gained is kept: one outside the order gained nothing
    each_cell : (z : Provider) → Contains t.topology.providers z
        → all.parts.cells z.number ≡ kept_cell way (parts.cells z.number)
    each_cell z there =
        all.cells z there
        ∙ same_both (has_number below z.geom) (kept_cell way (parts.cells z.number)) (parts.cells z.number)
        (kept_cell way (parts.cells z.number)) (λ inside. refl)
        (λ away. sym (idle_cell way (have (granted_by t) t.topology z.number) (tries.gains z.number)
        (within_limit (granted_by t) t.topology told.limit z there)
        (spread.gains z.number
        ∙ ap cap (outside_gain t sound told.clear p tried.offer tried.found way add small gain more demand
        shrinks z there away))))

    -- so it comes to have these counts
    shifted_is : (z : Provider) → Contains t.topology.providers z
        → shifted way (have (granted_by t) t.topology z.number) (tries.gains z.number) ≡ counts z
    shifted_is z there = search rules

    -- and a consumer comes to want this, but the one that makes the demand
    kept_want : (c : Consumer) → Contains t.topology.consumers c → c.number ≢ cons
        → all.parts.wants c.number ≡ wanted c
    kept_want c there other =
        let made : tries.made c.geom ≡ cap (more c) =
        made_is t sound told.clear p tried.offer tried.found way add small gain more demand shrinks c there in
        all.wants c there
        ∙ same_both (has_number below c.geom) (shifted way (want_at t c.number) (tries.made c.geom))
        (want_at t c.number) (wanted c)
        (λ inside. ap (λ a. shifted way a (tries.made c.geom)) (held_is c there)
        ∙ ap (shifted way (may.held c)) made ∙ may.changes c there other inside)
        (λ away. held_is c there
        ∙ may.stays c there other (demand.flow.around c there (has_not below c.geom away)))

    -- the end of the walk, with the demand's own counts
    pub kept_end : with_want (fold (finish_geom (Some way)) (trying t tries) below) cons its
        ≡ record t {
          haves = map (λ (z : Provider). (z.number, counts z)) t.topology.providers;
          wants = map (λ (c : Consumer). (c.number, wanted c)) t.topology.consumers;
          risen = map (λ (z : Provider).
              (z.number, rise_of way (have (granted_by t) t.topology z.number) (counts z))) t.topology.providers;
          fallen = map (λ (z : Provider).
              (z.number, fall_of way (have (granted_by t) t.topology z.number) (counts z))) t.topology.providers;
        }
    kept_end =
        ap (λ v. with_want v cons its) (ap (λ v. fold (finish_geom (Some way)) v below) parts_are ∙ all.is)
        ∙ parts_rows t told.clear counts wanted cons its all.parts
        (λ z. rise_of way (have (granted_by t) t.topology z.number) (counts z))
        (λ z. fall_of way (have (granted_by t) t.topology z.number) (counts z))
        (λ z there. ap (λ (x : Cell). x.have) (each_cell z there) ∙ shifted_is z there)
        (search (rules, each_cell, rise_of way, shifted_is))
        (λ z there. ap (λ (x : Cell). x.fallen) (each_cell z there)
        ∙ ap (fall_of way (have (granted_by t) t.topology z.number)) (shifted_is z there))
        (λ z there. ap (λ (x : Cell). x.gain) (each_cell z there))
        (λ c there.
        search (rules, cases_eq c.number cons, eq-eqb c.number cons, ne_eqb c.number cons, kept_want c there))
        (λ n.
        all.marks n
        ∙ same_both (has_number below n) 0 (tries.marks n) 0 (λ inside. refl)
        (λ away. spread.marks n ∙ link_outside tried.offer.geom below n away))
        (λ n.
        all.made n
        ∙ same_both (has_number below n) no_counts (tries.made n) no_counts (λ inside. refl)
        (λ away. spread.others n (has_not below n away)))

    -- so at the end of what was tried
    pub tried_end : with_want (fold (finish_geom (Some way)) new (order_of new o)) cons its
        ≡ with_want (fold (finish_geom (Some way)) (trying t tries) below) cons its
    tried_end =
        ap (λ v. with_want v cons its)
        (ap (fold (finish_geom (Some way)) new) (tried_order sound told.clear tried)
        ∙ ap (λ v. fold (finish_geom (Some way)) v below) walked_is)

-- what a consumer at a provider wants is within the limit where the provider's counts are
pub want_within : {C : Type 0} (after : ℕ → Counts) (u : Topology C)
    → ((q : ℕ) → have after u q ≡ sum_counts (map (want after u) (attached_to u q))) → fits_limit after u ≡ true
    → (q : ℕ) (z : Provider) → Contains u.providers z → z.number ≡ q → (c : Consumer) → Contains (attached_to u q) c
    → IsAtMost (want after u c) greatest_counts
want_within after u sums limit q z there is c at =
    at_most-trans (want after u c) (have after u q) greatest_counts
    (subst (IsAtMost (want after u c)) (sym (sums q)) (part_at_most (want after u) (attached_to u q) c at))
    (subst (λ n. IsAtMost (have after u n) greatest_counts) is (within_limit after u limit z there))

-- a demand that rises may be kept, where no new count is too great
module _ {C : Type 0} {t : TopoView C} {p own : ℕ} {add : Counts} {after : ℕ → Counts} {u : Topology C}
    {order : List ℕ} (d : IsDemand t p own add after u order) (limit : fits_limit after u ≡ true)
    (held : Consumer → Counts) (stored : t.wants ≡ map (λ (c : Consumer). (c.number, held c)) t.topology.consumers)
    (its : (c : Consumer) → Contains t.topology.consumers c → c.number ≡ own → want after u c ≡ add)
    (others : (c : Consumer) → Contains t.topology.consumers c → c.number ≢ own
    → held c ≡ want (granted_by t) t.topology c)
    (fits : (c : Consumer) → Contains t.topology.consumers c → c.number ≢ own → has_number order c.geom ≡ true
    → IsAtMost (want after u c) greatest_counts) where
  pub may_rise : MayKeep t Rises order d.gain d.more own add (λ z. have after u z.number) (want after u)
  may_rise = record {
    held = held;
    stored = stored;
    keeps = λ z there.
        add-cap (have (granted_by t) t.topology z.number) (d.gain z.number)
        ∙ ap cap (sym (d.stands.haves z.number))
        ∙ capped_is (have after u z.number)
        (within_limit after u limit z (subst (λ ys. Contains ys z) (sym d.stands.providers) there));
    own = its;
    changes = λ c there other inside.
        ap (λ a. cap (add_counts a (cap (d.more c)))) (others c there other)
        ∙ add-cap (want (granted_by t) t.topology c) (d.more c) ∙ ap cap (sym (d.stands.others c there other))
        ∙ capped_is (want after u c) (fits c there other inside);
    stays = λ c there other none.
        others c there other
        ∙ sym (d.stands.others c there other ∙ ap (add_counts (want (granted_by t) t.topology c)) none
        ∙ add-zero (want (granted_by t) t.topology c));
  }

-- Grants

module _ {C : Type 0} {t : TopoView C} {cons : ℕ} (sound : IsSoundGraph t.topology) (counted : IsCounted t)
    (quiet : IsQuiet t) (placed : IsPlaced t.topology) (holder : Holder t.topology cons) where
  abbrev p : ℕ
  p = place_of t.topology cons

  abbrev told : IsTold t
  told = counted_told t sound counted

  -- what a consumer of the order wants by these grants is within the limit
  order_fits : (granted : ℕ → Counts) → fits_limit granted t.topology ≡ true → {add : Counts} {way : Way}
      {new : TopoView C} {o : Order} (tried : IsTried t p add way new o) (c : Consumer)
      → Contains t.topology.consumers c → has_number (walk sound counted.clear tried) c.geom ≡ true
      → IsAtMost (want granted t.topology c) greatest_counts
  order_fits granted limit tried c there inside =
      let at = attached_below sound told tried c there
      (λ loose. search rules) inside in
      let z = some_of (provider_at t.topology at.0) at.2 in
      let is = provider_stands t sound at.0 z.0 z.1 in
      want_within granted t.topology
      (have_is_sum t.topology sound.ranked (numbers_are sound counted holder) granted) limit at.0 z.0 is.0 is.1 c
      (Contains-filter (λ (x : Consumer). names_number x.provider at.0) t.topology.consumers c there
      (ap (λ w. names_number w at.0) at.1 ∙ eq-eqb at.0 at.0 refl))

  -- the mesh with other counts of the holder is counted
  new_counted : (add : Counts) (rises falls : Provider → Bool)
      → is_exclusive (with_grant (granted_by t) cons add) t.topology ≡ true
      → fits_limit (with_grant (granted_by t) cons add) t.topology ≡ true
      → IsCounted (record (counted_view t (with_grant (granted_by t) cons add)) {
        risen = map (λ (z : Provider). (z.number, rises z)) t.topology.providers;
        fallen = map (λ (z : Provider). (z.number, falls z)) t.topology.providers;
      })
  new_counted add rises falls exclusive limit =
      counted_by (record (counted_view t (with_grant (granted_by t) cons add)) {
        risen = map (λ (z : Provider). (z.number, rises z)) t.topology.providers;
        fallen = map (λ (z : Provider). (z.number, falls z)) t.topology.providers;
      }) (with_grant (granted_by t) cons add) (consumer_known t sound)
      (λ c there none.
      others_stay sound counted holder add c.number
      (λ same.
      let no : true ≡ false =
      sym (holds_true (geom_at t.topology holder.one.geom) holder.kind)
      ∙ ap (λ (x : Consumer). holds_grants t.topology x.geom) (sym (one_only sound counted holder c there same))
      ∙ none in cc)
      ∙ granted_found t c.number c (consumer_known t sound c there)
      ∙ ap (λ b. if b then unwrap_or (value_at t.wants c.number) no_counts else no_counts) none)
      refl refl counted.kinds exclusive limit (numbers_of (λ (z : Provider). z.number) rises t.topology.providers)
      (numbers_of (λ (z : Provider). z.number) falls t.topology.providers) counted.clear

  -- the end of a grant that fits
  grant_end : {add : Counts} → value_at t.wants cons ≡ Some no_counts → {new : TopoView C} {o : Order}
      → IsTried t p add Rises new o → fits_limit (with_grant (granted_by t) cons add) t.topology ≡ true
      → with_want (fold (finish_geom (Some Rises)) new (order_of new o)) cons add ≡ granted_view t cons add
  grant_end {add} stored {new} {o} tried limit =
      let d : IsDemand t p cons add (with_grant (granted_by t) cons add) t.topology (walk sound counted.clear tried) =
      its_demand sound counted holder add stored tried in
      let may = may_rise d limit (want (granted_by t) t.topology) counted.wants (own_want sound counted holder add)
      (λ c there other. refl)
      (λ c there other inside. order_fits (with_grant (granted_by t) cons add) limit tried c there inside) in
      tried_end sound told tried d.demand (grows sound told tried d) quiet may
      ∙ kept_end sound told tried d.demand (grows sound told tried d) quiet may
      ∙ ap (λ rows. record (granted_view t cons add) { fallen = rows }) (sym quiet.fallen)

-- the mesh in which a grant stands: all counts are kept, and the providers are noted whose write count rose from zero
pub record IsGranted {C : Type 0} (t : TopoView C) (cons : ℕ) (add : Counts) (last : TopoView C) : Type 0 where
  pub is : last ≡ granted_view t cons add
  pub counted : IsCounted last
  pub notes : noted last.risen
      ≡ risen (granted_by t) t.topology (with_grant (granted_by t) cons add) t.topology

-- so it is where nothing refused the grant and the walk has ended
pub grant_stands : {C : Type 0} {t : TopoView C} {p : ℕ} {add : Counts} {new : TopoView C} {o : Order}
    {last : TopoView C} (cons : ℕ) → IsTried t p add Rises new o → p ≡ place_of t.topology cons
    → IsSoundGraph t.topology → IsCounted t → IsQuiet t → IsPlaced t.topology → IsHolder t.topology cons
    → value_at t.wants cons ≡ Some no_counts → judged new p add (order_of new o) ≡ None
    → last ≡ with_want (fold (finish_geom (Some Rises)) new (order_of new o)) cons add → IsGranted t cons add last
grant_stands {C} {t} {p} {add} {new} {o} {last} cons tried at sound counted quiet placed holds stored none ends =
    let granted : ℕ → Counts = with_grant (granted_by t) cons add in
    let holder : Holder t.topology cons = holder_is t.topology cons holds in
    let here : IsTried t (place_of t.topology cons) add Rises new o =
    subst (λ n. IsTried t n add Rises new o) at tried in
    let says : IsVerdict t.topology (place_of t.topology cons) cons granted t.topology None =
    subst (IsVerdict t.topology (place_of t.topology cons) cons granted t.topology)
    (subst (λ n. judged new n add (order_of new o) ≡ None) at none)
    (its_verdict sound counted holder add stored here) in
    let is : last ≡ granted_view t cons add =
    ends ∙ grant_end sound counted quiet placed holder stored here says.2 in
    record {
      is = is;
      counted =
          subst IsCounted (sym (is ∙ ap (λ rows. record (granted_view t cons add) { fallen = rows }) quiet.fallen))
          (new_counted sound counted quiet placed holder add
          (λ z. leaves_zero (have (granted_by t) t.topology z.number) (have granted t.topology z.number))
          (λ z. false) says.1 says.2);
      notes =
          ap (λ (v : TopoView C). noted v.risen) is
          ∙ noted_is (λ (z : Provider). z.number)
          (λ (z : Provider).
          leaves_zero (have (granted_by t) t.topology z.number) (have granted t.topology z.number))
          t.topology.providers;
    }

-- Releases

-- what is left of what was, less what the smaller has less
less_back : (a b : Counts) → IsAtMost a b → IsAtMost b greatest_counts → more_counts (cap (more_counts a b)) b ≡ a
less_back a b less most = search rules

module _ {C : Type 0} {t : TopoView C} {cons : ℕ} (sound : IsSoundGraph t.topology) (counted : IsCounted t)
    (holder : Holder t.topology cons) {held : Counts} (stored : value_at t.wants cons ≡ Some held) where
  abbrev granted : ℕ → Counts
  granted = granted_by t

  -- the grants without its own
  abbrev released : ℕ → Counts
  released = with_grant granted cons no_counts

  -- no grant rises
  grants_fall : AreAtMost released granted
  grants_fall n = search rules

  -- read backwards, one grant rises
  one_falls : DiffersAt released granted t.topology cons (place_of t.topology cons)
  one_falls = search (rules, one_differs sound counted holder no_counts)

  -- it is the whole of what was granted
  first_is : more_counts (released cons) (granted cons) ≡ held
  first_is = search rules

  -- what providers and consumers lose
  abbrev loss : ℕ → Counts
  loss q = more_counts (have released t.topology q) (have granted t.topology q)

  abbrev losses : Consumer → Counts
  losses x = if x.number == cons then no_counts else more_counts (want released t.topology x)
      (want granted t.topology x)

  -- what another one loses
  lost : (c : Consumer) → c.number ≢ cons
      → losses c ≡ more_counts (want released t.topology c) (want granted t.topology c)
  lost c other = search rules

  -- what a provider comes to have
  falls_back : (z : Provider) → Contains t.topology.providers z
      → more_counts (cap (loss z.number)) (have granted t.topology z.number) ≡ have released t.topology z.number
  falls_back z there =
      less_back (have released t.topology z.number) (have granted t.topology z.number)
      (have-at_most released granted grants_fall t.topology z.number)
      (within_limit granted t.topology counted.limit z there)

  shrinks : (z : Provider) → Contains t.topology.providers z
      → had Falls (have_at t z.number) (cap (loss z.number)) ≡ have released t.topology z.number
  shrinks z there =
      ap (more_counts (cap (loss z.number)))
      (stored_have sound (counted_told t sound counted) z (provider_known t sound z there)) ∙ falls_back z there

  -- the end of the walk, without the holder's counts
  release_end : IsQuiet t → IsPlaced t.topology → {new : TopoView C} {o : Order}
      → IsTried t (place_of t.topology cons) held Falls new o
      → with_want (fold (finish_geom (Some Falls)) new (order_of new o)) cons no_counts ≡ released_view t cons
  release_end quiet placed {new} {o} tried =
      let order : List ℕ = walk sound counted.clear tried in
      let demand : Demands t.topology (place_of t.topology cons) held (have released t.topology) loss losses order =
      subst (λ a. Demands t.topology (place_of t.topology cons) a (have released t.topology) loss losses order) first_is
      (grant_demands t.topology sound.ranked (numbers_are sound counted holder) released granted grants_fall cons
      (place_of t.topology cons) holder.one one_falls (one_filtered sound counted holder) holder.place
      (one_number sound counted holder) holder.kind order (walk_covers sound counted.clear tried)) in
      let may : MayKeep t Falls order loss losses cons no_counts (λ z. have released t.topology z.number)
      (want released t.topology) =
      record {
        held = want granted t.topology;
        stored = counted.wants;
        keeps = falls_back;
        own = own_want sound counted holder no_counts;
        changes = λ c there other inside.
            ap (λ a. more_counts (cap a) (want granted t.topology c)) (lost c other)
            ∙ less_back (want released t.topology c) (want granted t.topology c)
            (want-at_most released granted grants_fall t.topology c)
            (order_fits sound counted quiet placed holder granted counted.limit tried c there inside);
        stays = λ c there other none.
            sym (add-more (want released t.topology c) (want granted t.topology c)
            (want-at_most released granted grants_fall t.topology c))
            ∙ ap (add_counts (want released t.topology c)) (sym (lost c other) ∙ none)
            ∙ add-zero (want released t.topology c);
      } in
      tried_end sound (counted_told t sound counted) tried demand shrinks quiet may
      ∙ kept_end sound (counted_told t sound counted) tried demand shrinks quiet may
      ∙ ap (λ rows. record (released_view t cons) { risen = rows }) (sym quiet.risen)

-- the mesh in which the consumer holds nothing: all counts are kept, and the providers are noted whose write count fell
-- to zero; and the steps are within the bound
pub record IsReleased {C : Type 0} (t : TopoView C) (cons : ℕ) (new : TopoView C) (o : Order)
    (last : TopoView C) : Type 0 where
  pub is : last ≡ released_view t cons
  pub counted : IsCounted last
  pub notes : noted last.fallen
      ≡ fallen (granted_by t) t.topology (with_grant (granted_by t) cons no_counts) t.topology
  pub bound : consumers_over t.topology (order_of new o) ≤ consumers_below t.topology (place_of t.topology cons)

-- so it is where the walk has ended
pub release_stands : {C : Type 0} {t : TopoView C} {q : ℕ} {held : Counts} {new : TopoView C} {o : Order}
    {last : TopoView C} (cons : ℕ) → IsTried t q held Falls new o → q ≡ place_of t.topology cons
    → IsSoundGraph t.topology → IsCounted t → IsQuiet t → IsPlaced t.topology → IsHolder t.topology cons
    → value_at t.wants cons ≡ Some held
    → last ≡ with_want (fold (finish_geom (Some Falls)) new (order_of new o)) cons no_counts
    → IsReleased t cons new o last
release_stands {C} {t} {q} {held} {new} {o} {last} cons tried at sound counted quiet placed holds stored ends =
    let released : ℕ → Counts = with_grant (granted_by t) cons no_counts in
    let holder : Holder t.topology cons = holder_is t.topology cons holds in
    let here : IsTried t (place_of t.topology cons) held Falls new o =
    subst (λ n. IsTried t n held Falls new o) at tried in
    let fall : AreAtMost released (granted_by t) = grants_fall sound counted holder stored in
    let is : last ≡ released_view t cons =
    ends ∙ release_end sound counted holder stored quiet placed here in
    record {
      is = is;
      counted =
          subst IsCounted (sym (is ∙ ap (λ rows. record (released_view t cons) { risen = rows }) quiet.risen))
          (new_counted sound counted quiet placed holder no_counts (λ z. false)
          (λ z. comes_to_zero (have (granted_by t) t.topology z.number) (have released t.topology z.number))
          (exclusive_less released (granted_by t) fall t.topology counted.exclusive)
          (limit_less released (granted_by t) fall t.topology counted.limit));
      notes =
          ap (λ (v : TopoView C). noted v.fallen) is
          ∙ noted_is (λ (z : Provider). z.number)
          (λ (z : Provider).
          comes_to_zero (have (granted_by t) t.topology z.number) (have released t.topology z.number))
          t.topology.providers;
      bound = steps_bound sound counted.clear here;
    }
