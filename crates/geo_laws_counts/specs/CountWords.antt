-- Words for comparing access counts.
use Rattle.std.specs.Prelude.{◌≡◌, ◌≢◌, ℕ, ◌-◌, ◌≤◌, Bool, true, not, ◌&&◌, ◌==◌, List, [], ◌∷◌, map, filter, Option, Some, IsSomeAnd, IsTrue, All, option_map, if◌then◌else◌}
use Rattle.std.specs.List.{AllByRecursion, list_all}
use Rattle.geo_model.specs.Kind.{Kind}
use Rattle.geo_model.specs.Kind.TheVariants as kinds
use Rattle.geo_model.specs.Counts.{Counts}
use Rattle.geo_model.specs.Words.{is_granted_kind, change_where}
use Rattle.geo_model.specs.Topology.{Topology, Provider, Consumer, geom_at, provider_at, attached_to, providers_of}
use Rattle.geo_model.specs.Demand.{no_counts, add_counts, sum_counts, is_zero, have, want, is_exclusive, fits_limit}

-- each count of the one is at most that of the other
pub record IsAtMost (a b : Counts) : Type 0 where
  pub r : a.r ≤ b.r
  pub w : a.w ≤ b.w
  pub e : a.e ≤ b.e

-- each grant of the one is at most that of the other
abbrev pub AreAtMost : (ℕ → Counts) → (ℕ → Counts) → Type 0
AreAtMost small large = (c : ℕ) → IsAtMost (small c) (large c)

-- what the second has more than the first
abbrev pub more_counts : Counts → Counts → Counts
more_counts a b = record { r = b.r - a.r; w = b.w - a.w; e = b.e - a.e }

-- each provider is the one that its number leads to, which holds where numbers differ
abbrev pub NumbersLead : {C : Type 0} → Topology C → Type 0
NumbersLead t = AllByRecursion (λ (x : Provider). provider_at t x.number ≡ Some x) t.providers

-- the graph with only the consumers that pass the test
abbrev pub keep_consumers : {C : Type 0} → Topology C → (Consumer → Bool) → Topology C
keep_consumers t test = record t { consumers = filter test t.consumers }

-- with the consumer attached to this provider, or to none (g_attach(9), g_detach(9))
abbrev pub move_consumer : {C : Type 0} → Topology C → ℕ → Option ℕ → Topology C
move_consumer t c to =
    record t { consumers = change_where (λ x. x.number == c) (λ x. record x { provider = to }) t.consumers }

-- what a consumer of a class wants more, from what the providers of its geom had, what each has more, and what is
-- granted more: partition tables, labels, concats and stripes add an exclusive count where none of them had a count
-- and now one has
abbrev pub gain_of_kind : Kind → List Counts → List Counts → Counts → Counts
gain_of_kind kinds.Dev had gains grant = grant
gain_of_kind kinds.Taste had gains grant = grant
gain_of_kind kinds.Disk had gains grant = no_counts
gain_of_kind kinds.Nop had gains grant = sum_counts gains
gain_of_kind _ had gains grant =
    let exclusive : ℕ = if list_all is_zero had && not (list_all is_zero gains) then 1 else 0
    in add_counts (sum_counts gains) (record { r = 0; w = 0; e = exclusive })

-- all that counts see of a graph: of a geom its number and class, of a provider its number and geom, of a consumer its
-- number, geom and provider
pub record Seen : Type 0 where
  pub geoms : List (ℕ × Kind)
  pub providers : List (ℕ × ℕ)
  pub consumers : List (ℕ × ℕ × Option ℕ)

-- what counts see of this graph
abbrev pub seen_by_counts : {C : Type 0} → Topology C → Seen
seen_by_counts t = record {
  geoms = map (λ x. (x.number, x.kind)) t.geoms;
  providers = map (λ x. (x.number, x.geom)) t.providers;
  consumers = map (λ x. (x.number, x.geom, x.provider)) t.consumers;
}

-- from the one state to the other each provider keeps its counts, each consumer of which a fact holds wants what it
-- wanted, and neither exclusiveness nor the limit begins to fail
pub record DemandStays {C D : Type 0} (granted : ℕ → Counts) (t : Topology C) (other : ℕ → Counts) (u : Topology D)
    (Of : Consumer → Type 0) : Type 0 where
  pub haves : (p : ℕ) → have other u p ≡ have granted t p
  pub wants : (c : Consumer) → Of c → want other u c ≡ want granted t c
  pub exclusive : IsTrue (is_exclusive granted t) → IsTrue (is_exclusive other u)
  pub limit : IsTrue (fits_limit granted t) → IsTrue (fits_limit other u)

-- any consumer at all
abbrev pub AnyConsumer : Consumer → Type 0
AnyConsumer c = Unit {0}

-- the grants agree at each other number
abbrev pub AgreeExcept : ℕ → (ℕ → Counts) → (ℕ → Counts) → Type 0
AgreeExcept c granted other = (n : ℕ) → n ≢ c → other n ≡ granted n

-- the geom stands and is one of DEV or TASTE, whose consumers hold what was granted to them
abbrev pub HoldsGrants : {C : Type 0} → Topology C → ℕ → Type 0
HoldsGrants t g = IsSomeAnd (geom_at t g) (λ x. is_granted_kind x.kind ≡ true)

-- the consumer stands, and no other one has its number
abbrev pub IsOnlyOne : {C : Type 0} → Topology C → Consumer → Type 0
IsOnlyOne t d = filter (λ x. x.number == d.number) t.consumers ≡ d ∷ []

-- the class of a geom
abbrev pub kind_at : {C : Type 0} → Topology C → ℕ → Option Kind
kind_at t g = option_map (λ x. x.kind) (geom_at t g)

-- a set of providers with all that stands above them, which is the same in both graphs: the consumers attached, their
-- grants, the classes of their geoms and the providers of these
pub record SameAbove {C D : Type 0} (granted : ℕ → Counts) (t : Topology C) (other : ℕ → Counts) (u : Topology D)
    (Above : ℕ → Type 0) : Type 0 where
  pub attached : (p : ℕ) → Above p → attached_to u p ≡ attached_to t p
  pub grants : (p : ℕ) → Above p → All (λ c. other c.number ≡ granted c.number) (attached_to t p)
  pub classes : (p : ℕ) → Above p → All (λ c. kind_at u c.geom ≡ kind_at t c.geom) (attached_to t p)
  pub providers : (p : ℕ) → Above p → All (λ c. providers_of u c.geom ≡ providers_of t c.geom) (attached_to t p)
  pub above : (p : ℕ) → Above p → All (λ c. All (λ y. Above y.number) (providers_of t c.geom)) (attached_to t p)
