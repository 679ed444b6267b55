-- What the walks do to a mesh, step by step. Scratch has the walk's state: a geom's mark is the next geom of the
-- order, and its counts are what each of its consumers gains; a provider's counts are what it gains.
use Rattle.std.specs.Prelude.{◌≡◌, ◌≢◌, ℕ, zero, suc, ◌+◌, ◌-◌, ◌==◌, ◌<◌, ◌≤◌, ◌^◌, min, Bool, true, false, not, ◌&&◌, ◌||◌, List, [], ◌∷◌, length, fold, find, Option, Some, None, Result, Ok, Err, IsSome, IfSome, All, unwrap_or, option_map, if◌then◌else◌}
use Rattle.std.specs.Option.{option_map_or, option_and_then, option_or}
use Rattle.geo_base.specs.declared.request.Counts.{Counts}
use Rattle.geo_model.specs.Topology.{Topology, Provider, Consumer, geom_at, provider_at, consumer_at, providers_of, consumers_of, providers_under, attached_to}
use Rattle.geo_model.specs.Demand.{no_counts, add_counts, is_zero}
use Rattle.geo_model.specs.Rank.{rank}
use Rattle.geo_slots.specs.Slots.{value_at}
use Rattle.geo_mesh.specs.declared.records.Scratch.{Scratch}
use Rattle.geo_mesh.specs.declared.records.ConsRec.{ConsRec}
use Rattle.geo_mesh.specs.declared.records.ProvRec.{ProvRec}
use Rattle.geo_mesh.specs.Topo.{TopoView, no_scratch, with_want, with_have, with_notes, with_geom_scratch, with_provider_scratch}
use Rattle.geo_mesh.specs.Cells.{consumer_seen, provider_seen}
use Rattle.geo_laws_graph.specs.LookupLaws.{left_from}
use Rattle.geo_access.specs.declared.counts.Way.{Way}
use Rattle.geo_access.specs.declared.counts.Way.TheVariants.{Rises, Falls}
use Rattle.geo_access.specs.declared.counts.Weight.{Weight}
use Rattle.geo_access.specs.declared.order.Order.{Order}
use Rattle.geo_access.specs.declared.decide.Side.{Side}
use Rattle.geo_access.specs.declared.decide.Side.TheVariants.{Writes, Excludes}
use Rattle.geo_access.specs.declared.decide.Asked.{Asked}
use Rattle.geo_access.specs.declared.decide.Asked.TheVariants.{Exclusion, Limit}
use Rattle.geo_access.specs.declared.refusal.GrantRefusal.{GrantRefusal}
use Rattle.geo_access.specs.declared.refusal.GrantRefusal.TheVariants.{Enxio, Eperm, Eoverflow}
use Rattle.geo_access.specs.declared.decide.Refused.{Refused}
use Rattle.geo_access.specs.declared.decide.Refused.TheVariants.{Named, Writer, Exclusive}
use Rattle.geo_base.specs.declared.errno.Errno.{Errno}
use Rattle.geo_base.specs.declared.errno.Errno.TheVariants.{ENXIO, EPERM, EOVERFLOW}
use Rattle.geo_laws_counts.specs.WalkWords.{cap}
use Rattle.geo_access.specs.declared.judge.Sign.{Sign}
use Rattle.geo_access.specs.declared.judge.Sign.TheVariants.{Clash}
use Rattle.geo_access.specs.Tries.{is_too_great, had, shifted, made_of, sign_of, Apart}

-- a walk over some consumers of the graph comes to this one next
pub record IsNextConsumer {C : Type 0} (t : Topology C) (xs : List Consumer) (from_number id : ℕ)
    (x : ConsRec) : Type 0 where
  pub left : left_from (λ y. y.number) from_number xs ≡ consumer_seen id x ∷ left_from (λ y. y.number) (id + 1) xs
  pub lives : consumer_at t id ≡ Some (consumer_seen id x)
  pub geom : IsSome (geom_at t x.geom)
  pub place : IfSome x.prov (λ p. IsSome (provider_at t p))
  pub past : from_number ≤ id
  pub known : id < t.next_consumer
  pub fits : t.next_consumer < 2 ^ 64

-- a walk over some providers of the graph comes to this one next
pub record IsNextProvider {C : Type 0} (t : Topology C) (xs : List Provider) (from_number id : ℕ)
    (x : ProvRec) : Type 0 where
  pub left : left_from (λ y. y.number) from_number xs ≡ provider_seen id x ∷ left_from (λ y. y.number) (id + 1) xs
  pub lives : provider_at t id ≡ Some (provider_seen id x)
  pub past : from_number ≤ id
  pub known : id < t.next_provider
  pub fits : t.next_provider < 2 ^ 64

-- so many numbers, each the one to which the one before leads
abbrev pub numbers_along : (ℕ → ℕ) → ℕ → ℕ → List ℕ
numbers_along next zero x = []
numbers_along next (suc n) x = x ∷ numbers_along next n (next x)

-- the first value that is given for one of the items
abbrev pub first_given : {X Y : Type 0} → (X → Option Y) → List X → Option Y
first_given f [] = None
first_given f (x ∷ xs) = option_or (f x) (first_given f xs)

-- whether a write count, or an exclusive count, isn't zero
abbrev pub has_side : Side → Counts → Bool
has_side Writes a = not (a.w == 0)
has_side Excludes a = not (a.e == 0)

-- the number, or the other one where that is smaller
abbrev pub smaller : Option ℕ → ℕ → ℕ
smaller None q = q
smaller (Some best) q = min best q

-- the mesh and the order while the order is made
pub record Gathered (C : Type 0) : Type 0 where
  pub view : TopoView C
  pub order : Order

-- the answer to a consumer at a provider
abbrev pub grant_answer : Option Refused → ℕ → ℕ → Result (Unit {0}) GrantRefusal
grant_answer None cons prov = Ok tt
grant_answer (Some (Named refusal)) cons prov = Err refusal
grant_answer (Some (Writer writer)) cons prov = Err (Eperm prov writer cons)
grant_answer (Some (Exclusive exclusive)) cons prov = Err (Eperm prov cons exclusive)

-- the error of what refuses
abbrev pub errno_of_refused : Refused → Errno
errno_of_refused (Named (Enxio p)) = ENXIO
errno_of_refused (Named (Eoverflow p)) = EOVERFLOW
errno_of_refused _ = EPERM

module _ {C : Type 0} where
  -- the mark of a geom, and what its consumers gain
  abbrev pub mark_at : TopoView C → ℕ → ℕ
  mark_at v x = option_map_or (λ (s : Scratch). s.mark) (value_at v.scratches.geoms x) 0

  abbrev pub made_at : TopoView C → ℕ → Counts
  made_at v x = option_map_or (λ (s : Scratch). s.trial) (value_at v.scratches.geoms x) no_counts

  -- what a provider gains
  abbrev pub gain_at : TopoView C → ℕ → Counts
  gain_at v y = option_map_or (λ (s : Scratch). s.trial) (value_at v.scratches.providers y) no_counts

  -- the counts of a provider, and those of a consumer
  abbrev pub have_at : TopoView C → ℕ → Counts
  have_at v y = unwrap_or (value_at v.haves y) no_counts

  abbrev pub want_at : TopoView C → ℕ → Counts
  want_at v c = unwrap_or (value_at v.wants c) no_counts

  -- The order: each geom that is reached downwards, before those below it

  -- the geoms of an order
  abbrev pub order_of : TopoView C → Order → List ℕ
  order_of v o = numbers_along (mark_at v) o.count o.head

  -- with a geom in front
  abbrev pub put_geom : ℕ → Gathered C → Gathered C
  put_geom x s = record {
    view = with_geom_scratch s.view x (record { mark = s.order.head; trial = no_counts });
    order = record { head = x; count = min (s.order.count + 1) (2 ^ 64 - 1) };
  }

  -- the geom of the provider to which a consumer is attached, if it isn't in the order
  abbrev pub fresh_under : TopoView C → Consumer → Option ℕ
  fresh_under v c =
      option_and_then (λ q. option_and_then (λ y. if mark_at v y.geom == 0 then Some y.geom else None)
      (provider_at v.topology q)) c.provider

  -- with a geom and all that is reached downwards from it, over so many levels
  abbrev pub visit : ℕ → ℕ → Gathered C → Gathered C
  visit zero x s = s
  visit (suc levels) x s =
      put_geom x
      (fold (λ u c. option_map_or (λ h. visit levels h u) (fresh_under u.view c) u) s (consumers_of s.view.topology x))

  -- with what is reached from the provider to which a consumer is attached
  abbrev pub visit_under : ℕ → Gathered C → Consumer → Gathered C
  visit_under levels u c = option_map_or (λ h. visit levels h u) (fresh_under u.view c) u

  -- What is gained

  -- what a provider adds to the weight of its geom
  abbrev pub weigh : TopoView C → Way → Weight → Provider → Weight
  weigh v way weight y = record {
    sum = cap (add_counts weight.sum (gain_at v y.number));
    quiet = weight.quiet && is_zero (had way (have_at v y.number) (gain_at v y.number));
  }

  -- what each consumer of a geom gains
  abbrev pub gain_of : TopoView C → Way → ℕ → Counts
  gain_of v way x =
      option_map_or
      (λ g. made_of g.kind (fold (weigh v way) (record { sum = no_counts; quiet = true }) (providers_of v.topology x)))
      (geom_at v.topology x)
      no_counts

  -- with more gained at a provider
  abbrev pub give : Counts → TopoView C → ℕ → TopoView C
  give gain v q = with_provider_scratch v q (record { mark = 0; trial = cap (add_counts (gain_at v q) gain) })

  -- with what a consumer gains handed to its provider
  abbrev pub hand : Counts → TopoView C → Consumer → TopoView C
  hand gain v c = option_map_or (give gain v) c.provider v

  -- with what each consumer of a geom gains, at all of them
  abbrev pub spread_from : Way → TopoView C → ℕ → TopoView C
  spread_from way v x =
      fold (hand (gain_of v way x))
      (with_geom_scratch v x (record { mark = mark_at v x; trial = gain_of v way x }))
      (consumers_of v.topology x)

  -- how many consumers the geoms have
  abbrev pub consumers_over : Topology C → List ℕ → ℕ
  consumers_over t [] = 0
  consumers_over t (x ∷ xs) = length (consumers_of t x) + consumers_over t xs

  -- the order of the geoms that are reached downwards from one, and the mesh in which it stands
  abbrev pub gathered_from : TopoView C → ℕ → Gathered C
  gathered_from t geom =
      visit (rank t.topology geom) geom (record { view = t; order = record { head = geom; count = 0 } })

  -- the mesh after a demand at a provider is tried, and the order of the geoms below
  pub record IsTried (t : TopoView C) (p : ℕ) (add : Counts) (way : Way) (new : TopoView C) (o : Order) : Type 0 where
    pub offer : Provider
    pub found : provider_at t.topology p ≡ Some offer
    pub order : o ≡ (gathered_from t offer.geom).order
    pub view : new
        ≡ fold (spread_from way) (give add (gathered_from t offer.geom).view p)
        (order_of (give add (gathered_from t offer.geom).view p) o)
    pub orders : order_of new o ≡ order_of (give add (gathered_from t offer.geom).view p) o

  -- What refuses

  -- of two providers the one with an error, and of two such the smaller
  abbrev pub lesser : TopoView C → Option ℕ → ℕ → Option ℕ
  lesser v best q =
      if option_map_or (λ (y : Provider). y.errored) (provider_at v.topology q) false then Some
      (smaller best q) else best

  -- what a consumer wants once it has what it gains
  abbrev pub raised : TopoView C → Consumer → Counts
  raised v c = cap (add_counts (want_at v c.number) (made_at v c.geom))

  -- the first consumer at a provider, other than one, that writes or excludes
  abbrev pub other : TopoView C → ℕ → ℕ → Side → Option ℕ
  other v q but side =
      option_map (λ (c : Consumer). c.number)
      (find (λ c. not (c.number == but) && has_side side (raised v c)) (attached_to v.topology q))

  -- a writer that stands beside another's exclusive count, where the first writer doesn't
  abbrev pub second_pair : TopoView C → ℕ → ℕ → Option (ℕ × ℕ)
  second_pair v q first =
      option_and_then (λ a. option_map (λ b. (a, b)) (other v q a Excludes)) (other v q first Writes)

  abbrev pub pair_with : TopoView C → ℕ → ℕ → Option ℕ → Option (ℕ × ℕ)
  pair_with v q a None = second_pair v q a
  pair_with v q a (Some b) = Some (a, b)

  -- a writer and another consumer with an exclusive count at a provider
  abbrev pub pair_at : TopoView C → ℕ → Option (ℕ × ℕ)
  pair_at v q = option_and_then (λ a. pair_with v q a (other v q a Excludes)) (other v q 0 Writes)

  -- the counts that a provider would have
  abbrev pub raised_have : TopoView C → ℕ → Counts
  raised_have v q = cap (add_counts (have_at v q) (gain_at v q))

  -- what is wrong at a provider
  abbrev pub fault_at : TopoView C → Asked → ℕ → Option GrantRefusal
  fault_at v Exclusion q =
      if ((raised_have v q).w == 0) || ((raised_have v q).e == 0)
      then None
      else option_map (λ ab. Eperm q ab.0 ab.1) (pair_at v q)
  fault_at v Limit q = if is_too_great (raised_have v q) then Some (Eoverflow q) else None

  -- what is wrong at the first provider of a geom, or of some geoms, where something is wrong
  abbrev pub fault_in : TopoView C → Asked → ℕ → Option GrantRefusal
  fault_in v asked x = first_given (λ y. fault_at v asked y.number) (providers_of v.topology x)

  -- of a provider and those to which consumers of these geoms are attached, the smallest with an error
  abbrev pub first_errored : TopoView C → ℕ → List ℕ → Option ℕ
  first_errored v p xs = fold (λ best x. fold (lesser v) best (providers_under v.topology x)) (lesser v None p) xs

  -- what counts tell of a consumer, and of the consumers of a geom
  abbrev pub sign_at : TopoView C → Consumer → Option Sign
  sign_at v c = option_and_then (λ q. sign_of (raised v c) (raised_have v q)) c.provider

  abbrev pub sign_in : TopoView C → ℕ → Option Sign
  sign_in v x = first_given (sign_at v) (consumers_of v.topology x)

  -- a consumer at the provider would have an exclusive count just where the provider has one, and one writes just where
  -- the provider has a write count
  pub record CountsTell (v : TopoView C) (q : ℕ) : Type 0 where
    pub exclusive : (have_at v q).e ≡ 0 → other v q 0 Excludes ≡ None
    pub writes : (have_at v q).w ≡ 0 → other v q 0 Writes ≡ None
    pub excluder : (have_at v q).e ≢ 0 → IsSome (other v q 0 Excludes)
    pub writer : (have_at v q).w ≢ 0 → IsSome (other v q 0 Writes)

  -- where counts tell nothing of the consumers of these geoms, no writer stands beside another's exclusive count at
  -- their providers; where the first that they tell is a clash, one does
  pub record CountsTellBelow (v : TopoView C) (xs : List ℕ) : Type 0 where
    pub free : first_given (sign_in v) xs ≡ None → first_given (fault_in v Exclusion) xs ≡ None
    pub clash : first_given (sign_in v) xs ≡ Some Clash → IsSome (first_given (fault_in v Exclusion) xs)

  -- a demand that was tried can be judged: the geoms of its order live, and counts tell at its provider and below
  pub record MayJudge (v : TopoView C) (q : ℕ) (o : Order) : Type 0 where
    pub lives : All (λ x. IsSome (geom_at v.topology x)) (order_of v o)
    pub tells : CountsTell v q
    pub below : CountsTellBelow v (order_of v o)

  -- another consumer's exclusive count, where the demand writes; another writer, where it has an exclusive count
  abbrev pub beside_exclusive : TopoView C → ℕ → Counts → Option Refused
  beside_exclusive v p add = if add.w == 0 then None else option_map (λ c. Exclusive c) (other v p 0 Excludes)

  abbrev pub beside_writer : TopoView C → ℕ → Counts → Option Refused
  beside_writer v p add = if add.e == 0 then None else option_map (λ c. Writer c) (other v p 0 Writes)

  abbrev pub against : TopoView C → ℕ → Counts → Option Refused
  against v p add = option_or (beside_exclusive v p add) (beside_writer v p add)

  -- what refuses the demand that is tried, where these are the geoms below
  abbrev pub judged : TopoView C → ℕ → Counts → List ℕ → Option Refused
  judged v p add xs =
      option_or (option_map (λ q. Named (Enxio q)) (first_errored v p xs))
      (option_or (against v p add)
      (option_map (λ r. Named r)
      (option_or (first_given (fault_in v Exclusion) xs) (first_given (fault_in v Limit) xs))))

  -- The end of a walk

  -- a walk can be ended: the geoms of its order live and differ
  pub record MayEnd (v : TopoView C) (o : Order) : Type 0 where
    pub lives : All (λ x. IsSome (geom_at v.topology x)) (order_of v o)
    pub apart : Apart (order_of v o)

  -- with what a consumer of a geom gains in its counts
  abbrev pub raise_want : Way → Counts → TopoView C → Consumer → TopoView C
  raise_want way gain v c = with_want v c.number (shifted way (want_at v c.number) gain)

  -- with what a provider gains in its counts, and a note where its write count left zero or came to it
  abbrev pub raise_have : Way → TopoView C → ℕ → TopoView C
  raise_have Rises v y =
      with_notes (with_have v y (shifted Rises (have_at v y) (gain_at v y))) y
      (((have_at v y).w == 0) && not ((shifted Rises (have_at v y) (gain_at v y)).w == 0)) false
  raise_have Falls v y =
      with_notes (with_have v y (shifted Falls (have_at v y) (gain_at v y))) y
      false (not ((have_at v y).w == 0) && ((shifted Falls (have_at v y) (gain_at v y)).w == 0))

  -- with all that, where it is kept, and nothing left to try at the provider
  abbrev pub finish_provider : Option Way → TopoView C → Provider → TopoView C
  finish_provider keep v y =
      with_provider_scratch (option_map_or (λ way. raise_have way v y.number) keep v) y.number no_scratch

  -- with all that at the consumers and providers of a geom
  abbrev pub raise_wants : Option Way → TopoView C → ℕ → TopoView C
  raise_wants None v x = v
  raise_wants (Some way) v x = fold (raise_want way (made_at v x)) v (consumers_of v.topology x)

  abbrev pub finish_geom : Option Way → TopoView C → ℕ → TopoView C
  finish_geom keep v x =
      with_geom_scratch (fold (finish_provider keep) (raise_wants keep v x) (providers_of v.topology x)) x no_scratch
