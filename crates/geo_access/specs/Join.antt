-- A consumer that joins a provider while its geom may be open: what holds before, what it changes, and what it is
-- told (g_attach(9), g_access(9)).
use Rattle.std.specs.Prelude.{◌≡◌, ◌≢◌, ◌⊎◌, ℕ, ◌==◌, true, [], map, filter, fold, Option, Some, None, Result, Ok, Err, IsSomeAnd, IsTrue, All, if◌then◌else◌}
use Rattle.std.specs.Option.{option_map_or}
use Rattle.geo_base.specs.declared.request.Counts.{Counts}
use Rattle.geo_base.specs.declared.errno.Errno.{Errno}
use Rattle.geo_base.specs.declared.errno.Errno.TheVariants.{ENXIO, EPERM, EOVERFLOW, ELOOP, EDEEP}
use Rattle.geo_model.specs.Words.{is_granted_kind}
use Rattle.geo_model.specs.Topology.{Topology, Provider, Consumer, geom_at, consumer_at, providers_of, attach}
use Rattle.geo_model.specs.Demand.{no_counts, add_counts, have, want, is_exclusive, fits_limit}
use Rattle.geo_model.specs.Refusals.{IsFirstErrored, StandAgainst, IsOverLimit}
use Rattle.geo_slots.specs.Slots.{value_at}
use Rattle.geo_mesh.specs.Topo.{TopoView, with_topology}
use Rattle.geo_laws_counts.specs.WalkWords.{cap}
use Rattle.geo_access.specs.declared.refusal.GrantRefusal.{GrantRefusal}
use Rattle.geo_access.specs.declared.refusal.GrantRefusal.TheVariants as grants
use Rattle.geo_access.specs.declared.refusal.JoinRefusal.{JoinRefusal}
use Rattle.geo_access.specs.declared.refusal.JoinRefusal.TheVariants.{Enxio, Eloop, Edeep, Eperm, Eoverflow}
use Rattle.geo_access.specs.declared.decide.Refused.{Refused}
use Rattle.geo_access.specs.declared.decide.Refused.TheVariants.{Named, Writer, Exclusive}
use Rattle.geo_access.specs.Access.{granted_by, clear_scratches, counted_view, leaves_zero}
use Rattle.geo_access.specs.Tries.{made_of}
use Rattle.geo_access.specs.Views.{have_at, grant_answer}

-- the error of a refused join
abbrev pub errno_of_join : JoinRefusal → Errno
errno_of_join (Enxio p) = ENXIO
errno_of_join Eloop = ELOOP
errno_of_join Edeep = EDEEP
errno_of_join (Eperm p writer exclusive) = EPERM
errno_of_join (Eoverflow p) = EOVERFLOW

-- the answer to a consumer that would join, where this refuses it, if anything does
abbrev pub IsJoinRefusal : Result (Unit {0}) JoinRefusal → Option Errno → Type 0
IsJoinRefusal (Ok _) refusal = refusal ≡ None
IsJoinRefusal (Err e) refusal = refusal ≡ Some (errno_of_join e)

module _ {C : Type 0} where
  -- the consumer is attached to nothing, and no request is out through it
  pub record IsLoose (t : TopoView C) (cons : ℕ) : Type 0 where
    pub free : IsSomeAnd (consumer_at t.topology cons) (λ x. x.provider ≡ None)
    pub idle : value_at t.active cons ≡ Some 0

  -- the stored counts are those that the model sums up from the grants, as `IsCounted` says, but this consumer holds
  -- nothing, whatever the model would have it want; none stands in another's way, no count is too great, only the first
  -- two geoms are of DEV or TASTE, each provider has its notes, and nothing is left to try
  pub record IsCountedBut (t : TopoView C) (cons : ℕ) : Type 0 where
    pub kinds : All (λ g. is_granted_kind g.kind ≡ true → (g.number ≡ 1) ⊎ (g.number ≡ 2)) t.topology.geoms
    pub haves : t.haves ≡ map (λ (p : Provider). (p.number, have (granted_by t) t.topology p.number))
        t.topology.providers
    pub wants : t.wants
        ≡ map (λ (c : Consumer).
        (c.number, (if c.number == cons then no_counts else want (granted_by t) t.topology c))) t.topology.consumers
    pub exclusive : IsTrue (is_exclusive (granted_by t) t.topology)
    pub limit : IsTrue (fits_limit (granted_by t) t.topology)
    pub risen : map (λ row. row.0) t.risen ≡ map (λ (p : Provider). p.number) t.topology.providers
    pub fallen : map (λ row. row.0) t.fallen ≡ map (λ (p : Provider). p.number) t.topology.providers
    pub clear : t.scratches ≡ clear_scratches t.topology

  -- a consumer, other than this one, that isn't attached is of a geom without providers
  abbrev pub IsPlacedBut : Topology C → ℕ → Type 0
  IsPlacedBut t cons =
      All (λ c. c.number ≢ cons → c.provider ≡ None
      → filter (λ (y : Provider). y.geom == c.geom) t.providers ≡ []) t.consumers

  -- with the consumer attached, the counts that the same grants make then, and a note at each provider whose write
  -- count left zero
  abbrev pub joined_view : TopoView C → ℕ → ℕ → TopoView C
  joined_view t cons prov =
      let joined : TopoView C = with_topology t (attach t.topology cons prov) in
      record (counted_view joined (granted_by t)) {
        risen = map (λ (p : Provider). (
          p.number,
          leaves_zero (have (granted_by t) t.topology p.number)
              (have (granted_by t) joined.topology p.number),
        )) t.topology.providers;
      }

  -- what a refusal names: of the providers reached downwards that carry an error the one with the smallest number; with
  -- the consumer attached a writer and another consumer with an exclusive count, or a provider past the limit
  abbrev pub IsJoinNamed : (ℕ → Counts) → Topology C → ℕ → ℕ → Result (Unit {0}) JoinRefusal → Type 0
  IsJoinNamed granted t cons prov (Ok _) = Unit {0}
  IsJoinNamed granted t cons prov (Err (Enxio q)) = IsFirstErrored t prov q
  IsJoinNamed granted t cons prov (Err Eloop) = Unit {0}
  IsJoinNamed granted t cons prov (Err Edeep) = Unit {0}
  IsJoinNamed granted t cons prov (Err (Eperm q writer exclusive)) =
      StandAgainst granted (attach t cons prov) q writer exclusive
  IsJoinNamed granted t cons prov (Err (Eoverflow q)) = IsOverLimit granted (attach t cons prov) q

  -- What is tried

  -- with the counts of one more provider, stopped
  abbrev pub with_have_of : TopoView C → Counts → Provider → Counts
  with_have_of v sum y = cap (add_counts sum (have_at v y.number))

  -- what a consumer of the geom wants by the counts of the geom's providers, stopped
  abbrev pub wanted_of : TopoView C → ℕ → Counts
  wanted_of v x =
      option_map_or
      (λ g. made_of g.kind (record { sum = fold (with_have_of v) no_counts (providers_of v.topology x); quiet = true }))
      (geom_at v.topology x)
      no_counts

  -- what the consumer wants
  abbrev pub wanted : TopoView C → ℕ → Counts
  wanted v cons = option_map_or (λ (c : Consumer). wanted_of v c.geom) (consumer_at v.topology cons) no_counts

-- What is told

-- why the demand is refused, as a join tells it
abbrev pub demand_told : GrantRefusal → JoinRefusal
demand_told (grants.Enxio p) = Enxio p
demand_told (grants.Eperm p writer exclusive) = Eperm p writer exclusive
demand_told (grants.Eoverflow p) = Eoverflow p

-- why the consumer isn't attached
abbrev pub attach_told : Errno → ℕ → JoinRefusal
attach_told ELOOP p = Eloop
attach_told EDEEP p = Edeep
attach_told _ p = Enxio p

-- the answer, where nothing refuses that the consumer is attached
abbrev pub demand_answer : Result (Unit {0}) GrantRefusal → Result (Unit {0}) JoinRefusal
demand_answer (Ok _) = Ok tt
demand_answer (Err e) = Err (demand_told e)

-- what refuses that the consumer is attached comes before what refuses the demand
abbrev pub attach_answer : Option Errno → ℕ → Result (Unit {0}) JoinRefusal → Result (Unit {0}) JoinRefusal
attach_answer None p rest = rest
attach_answer (Some e) p rest = Err (attach_told e p)

-- the provider with an error that a refusal names
abbrev pub errored_of : GrantRefusal → Option ℕ
errored_of (grants.Enxio q) = Some q
errored_of (grants.Eperm q writer exclusive) = None
errored_of (grants.Eoverflow q) = None

abbrev pub errored_below : Option Refused → Option ℕ
errored_below (Some (Named refusal)) = errored_of refusal
errored_below (Some (Writer c)) = None
errored_below (Some (Exclusive c)) = None
errored_below None = None

-- an error below comes before all else
abbrev pub error_answer : Option ℕ → Result (Unit {0}) JoinRefusal → Result (Unit {0}) JoinRefusal
error_answer None rest = rest
error_answer (Some q) rest = Err (Enxio q)

-- the answer, by what refuses the demand and by what refuses that the consumer is attached
abbrev pub join_answer : Option Refused → Option Errno → ℕ → ℕ → Result (Unit {0}) JoinRefusal
join_answer refused attaching cons prov =
    error_answer (errored_below refused) (attach_answer attaching prov (demand_answer (grant_answer refused cons prov)))
