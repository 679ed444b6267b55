-- The running access counts as contracts see them (g_access(9)): what holds of them at each call, and what a call
-- does and answers.
use Rattle.std.specs.Prelude.{◌≡◌, ◌⊎◌, ℕ, ◌==◌, Bool, true, false, not, ◌&&◌, List, [], map, filter, Option, Some, None, Result, Ok, Err, IsSome, IsSomeAnd, IsTrue, All, unwrap_or, length, find, if◌then◌else◌}
use Rattle.std.specs.List.{list_any}
use Rattle.std.specs.Option.{option_map, option_map_or}
use Rattle.geo_base.specs.declared.request.Counts.{Counts}
use Rattle.geo_base.specs.declared.errno.Errno.{Errno}
use Rattle.geo_base.specs.declared.errno.Errno.TheVariants.{ENXIO, EPERM, EOVERFLOW}
use Rattle.geo_model.specs.Words.{is_granted_kind}
use Rattle.geo_model.specs.Topology.{Topology, Provider, Consumer, geom_at, provider_at, consumer_at, provider_of_consumer}
use Rattle.geo_model.specs.Demand.{no_counts, have, want, is_exclusive, fits_limit}
use Rattle.geo_model.specs.Opens.{below, with_grant}
use Rattle.geo_model.specs.Refusals.{IsFirstErrored, StandAgainst, IsOverLimit}
use Rattle.geo_slots.specs.Slots.{value_at}
use Rattle.geo_mesh.specs.Topo.{TopoView, Scratches, no_scratch, with_notes}
use Rattle.geo_laws_counts.specs.CountWords.{HoldsGrants}
use Rattle.geo_access.specs.declared.refusal.GrantRefusal.{GrantRefusal}
use Rattle.geo_access.specs.declared.refusal.GrantRefusal.TheVariants.{Enxio, Eperm, Eoverflow}

-- the error of a refused demand
abbrev pub grant_errno : GrantRefusal → Errno
grant_errno (Enxio p) = ENXIO
grant_errno (Eperm p writer exclusive) = EPERM
grant_errno (Eoverflow p) = EOVERFLOW

-- the answer to a demand that this refuses, if anything does
abbrev pub IsRefusal : Result (Unit {0}) GrantRefusal → Option Errno → Type 0
IsRefusal (Ok _) refusal = refusal ≡ None
IsRefusal (Err e) refusal = refusal ≡ Some (grant_errno e)

-- whether a write count left zero, and whether it came to zero
abbrev pub leaves_zero : Counts → Counts → Bool
leaves_zero old new = (old.w == 0) && not (new.w == 0)

abbrev pub comes_to_zero : Counts → Counts → Bool
comes_to_zero old new = not (old.w == 0) && (new.w == 0)

-- the numbers at which a note is set
abbrev pub noted : List (ℕ × Bool) → List ℕ
noted rows = map (λ row. row.0) (filter (λ row. row.1) rows)

module _ {C : Type 0} where
  -- whether the geom is there and is one of DEV or TASTE
  abbrev pub holds_grants : Topology C → ℕ → Bool
  holds_grants t g = option_map_or (λ x. is_granted_kind x.kind) (geom_at t g) false

  -- what each consumer of DEV and TASTE is granted: its stored counts; nothing for any other
  abbrev pub granted_by : TopoView C → ℕ → Counts
  granted_by t c =
      option_map_or
      (λ (x : Consumer). if holds_grants t.topology x.geom then unwrap_or (value_at t.wants c) no_counts else no_counts)
      (consumer_at t.topology c)
      no_counts

  -- nothing is left to try
  abbrev pub clear_scratches : Topology C → Scratches
  clear_scratches t = record {
    geoms = map (λ x. (x.number, no_scratch)) t.geoms;
    providers = map (λ x. (x.number, no_scratch)) t.providers;
    consumers = map (λ x. (x.number, no_scratch)) t.consumers;
  }

  -- no write count is noted to have left zero or to have come to it
  pub record IsQuiet (t : TopoView C) : Type 0 where
    pub risen : t.risen ≡ map (λ (p : Provider). (p.number, false)) t.topology.providers
    pub fallen : t.fallen ≡ map (λ (p : Provider). (p.number, false)) t.topology.providers

  -- the stored counts are those that the model sums up from the grants, none stands in another's way, and no count is
  -- too great; only the first two geoms are of DEV or TASTE, each provider has its notes, and nothing is left to try
  pub record IsCounted (t : TopoView C) : Type 0 where
    pub kinds : All (λ g. is_granted_kind g.kind ≡ true → (g.number ≡ 1) ⊎ (g.number ≡ 2)) t.topology.geoms
    pub haves : t.haves ≡ map (λ (p : Provider). (p.number, have (granted_by t) t.topology p.number))
        t.topology.providers
    pub wants : t.wants ≡ map (λ (c : Consumer). (c.number, want (granted_by t) t.topology c)) t.topology.consumers
    pub exclusive : IsTrue (is_exclusive (granted_by t) t.topology)
    pub limit : IsTrue (fits_limit (granted_by t) t.topology)
    pub risen : map (λ row. row.0) t.risen ≡ map (λ (p : Provider). p.number) t.topology.providers
    pub fallen : map (λ row. row.0) t.fallen ≡ map (λ (p : Provider). p.number) t.topology.providers
    pub clear : t.scratches ≡ clear_scratches t.topology

  -- a consumer that isn't attached is of a geom without providers
  abbrev pub IsPlaced : Topology C → Type 0
  IsPlaced t = All (λ c. c.provider ≡ None → filter (λ (y : Provider). y.geom == c.geom) t.providers ≡ []) t.consumers

  -- the consumer is attached, and is one of DEV or TASTE
  pub record IsHolder (t : Topology C) (c : ℕ) : Type 0 where
    pub kind : IsSomeAnd (consumer_at t c) (λ x. HoldsGrants t x.geom)
    pub attached : IsSomeAnd (consumer_at t c) (λ x. IsSome x.provider)

  -- the provider to which a consumer is attached
  abbrev pub place_of : Topology C → ℕ → ℕ
  place_of t c = unwrap_or (provider_of_consumer t c) 0

  -- with the counts that these grants make
  abbrev pub counted_view : TopoView C → (ℕ → Counts) → TopoView C
  counted_view t after = record t {
    haves = map (λ (p : Provider). (p.number, have after t.topology p.number)) t.topology.providers;
    wants = map (λ (c : Consumer). (c.number, want after t.topology c)) t.topology.consumers;
  }

  -- with a grant, and a note at each provider whose write count left zero
  abbrev pub granted_view : TopoView C → ℕ → Counts → TopoView C
  granted_view t c add =
      let after : ℕ → Counts = with_grant (granted_by t) c add in
      record (counted_view t after) {
        risen = map (λ (p : Provider).
            (p.number, leaves_zero (have (granted_by t) t.topology p.number) (have after t.topology p.number)))
            t.topology.providers;
      }

  -- without a consumer's grant, and a note at each provider whose write count came to zero
  abbrev pub released_view : TopoView C → ℕ → TopoView C
  released_view t c =
      let after : ℕ → Counts = with_grant (granted_by t) c no_counts in
      record (counted_view t after) {
        fallen = map
            (λ (p : Provider). (
              p.number,
              comes_to_zero (have (granted_by t) t.topology p.number)
                  (have after t.topology p.number),
            )) t.topology.providers;
      }

  -- how many consumers belong to the geom of a provider that is reached downwards from one
  abbrev pub consumers_below : Topology C → ℕ → ℕ
  consumers_below t p =
      length
      (filter
      (λ (c : Consumer). list_any (λ q. option_map_or (λ (y : Provider). y.geom == c.geom) (provider_at t q) false)
      (below t p))
      t.consumers)

  -- what a refusal names, where these are the grants once the demand stands: of the providers reached downwards that
  -- carry an error the one with the smallest number; a writer and another consumer with an exclusive count; a
  -- provider past the limit
  abbrev pub IsNamed : (ℕ → Counts) → Topology C → ℕ → Result (Unit {0}) GrantRefusal → Type 0
  IsNamed after t p (Ok _) = Unit {0}
  IsNamed after t p (Err (Enxio q)) = IsFirstErrored t p q
  IsNamed after t p (Err (Eperm q writer exclusive)) = StandAgainst after t q writer exclusive
  IsNamed after t p (Err (Eoverflow q)) = IsOverLimit after t q

-- Notes

-- the least number at which a note is set
abbrev pub first_noted : List (ℕ × Bool) → Option ℕ
first_noted rows = option_map (λ row. row.0) (find (λ row. row.1) rows)

-- whether the note of a number is set
abbrev pub is_noted : List (ℕ × Bool) → ℕ → Bool
is_noted rows p = unwrap_or (value_at rows p) false

module _ {C : Type 0} where
  -- without the note that the write count of a provider left zero, or came to it; the other note is as it was
  abbrev pub without_risen : TopoView C → Option ℕ → TopoView C
  without_risen t None = t
  without_risen t (Some p) = with_notes t p false (is_noted t.fallen p)

  abbrev pub without_fallen : TopoView C → Option ℕ → TopoView C
  without_fallen t None = t
  without_fallen t (Some p) = with_notes t p (is_noted t.risen p) false
