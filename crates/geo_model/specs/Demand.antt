-- Access counts as sums of what is demanded above (g_access(9)).
use Rattle.std.specs.Prelude.{ℕ, zero, suc, ◌+◌, ◌==◌, nat_le, Bool, not, ◌&&◌, ◌||◌, List, [], ◌∷◌, length, map, filter, if◌then◌else◌}
use Rattle.std.specs.List.{list_all}
use Rattle.std.specs.Option.{option_map_or}
use Rattle.geo_base.specs.declared.request.Counts.{Counts}
use Rattle.geo_base.specs.Kind.{adds_exclusive}
use Rattle.geo_base.specs.declared.kind.Kind.{Kind}
use Rattle.geo_base.specs.declared.kind.Kind.TheVariants as kinds
use Rattle.geo_base.specs.declared.limits.TheConstants.{MAX_ACCESS_COUNT}
use Rattle.geo_model.specs.Topology.{Topology, Consumer, geom_at, attached_to, providers_of}

-- no count at all, and one read count
abbrev pub no_counts : Counts
no_counts = record { r = 0; w = 0; e = 0 }

abbrev pub one_read : Counts
one_read = record { r = 1; w = 0; e = 0 }

abbrev pub add_counts : Counts → Counts → Counts
add_counts a b = record { r = a.r + b.r; w = a.w + b.w; e = a.e + b.e }

abbrev pub sum_counts : List Counts → Counts
sum_counts [] = no_counts
sum_counts (a ∷ rest) = add_counts a (sum_counts rest)

abbrev pub is_zero : Counts → Bool
is_zero a = (a.r == 0) && ((a.w == 0) && (a.e == 0))

-- whether none of the counts is above the limit
abbrev pub is_within_limit : Counts → Bool
is_within_limit a = nat_le a.r MAX_ACCESS_COUNT && (nat_le a.w MAX_ACCESS_COUNT && nat_le a.e MAX_ACCESS_COUNT)

-- one exclusive count, where the class adds one and one of its geom's providers has a count
abbrev pub extra_exclusive : Kind → List Counts → Counts
extra_exclusive kind haves =
    record { r = 0; w = 0; e = if adds_exclusive kind && not (list_all is_zero haves) then 1 else 0 }

-- what a consumer of a class holds, from what its geom's providers have and what was granted to it
abbrev pub want_of_kind : Kind → List Counts → Counts → Counts
want_of_kind kinds.Dev haves granted = granted
want_of_kind kinds.Taste haves granted = granted
want_of_kind kinds.Disk haves granted = no_counts
want_of_kind kind haves granted = add_counts (sum_counts haves) (extra_exclusive kind haves)

-- granted tells for each consumer of DEV and TASTE what it was granted
module _ {C : Type 0} (granted : ℕ → Counts) where
  -- what a consumer wants, from what each provider has
  abbrev pub want_given : (ℕ → Counts) → Topology C → Consumer → Counts
  want_given haves t c =
      option_map_or
      (λ g. want_of_kind g.kind (map (λ x. haves x.number) (providers_of t g.number)) (granted c.number))
      (geom_at t c.geom)
      no_counts

  -- the counts of a provider over so many levels: the sum over the consumers attached to it
  abbrev pub have_within : ℕ → Topology C → ℕ → Counts
  have_within zero t p = no_counts
  have_within (suc levels) t p = sum_counts (map (want_given (have_within levels t) t) (attached_to t p))

  -- the counts of a provider
  abbrev pub have : Topology C → ℕ → Counts
  have t p = have_within (length t.geoms) t p

  -- the counts that a consumer holds
  abbrev pub want : Topology C → Consumer → Counts
  want t c = want_given (have t) t c

  -- whether no consumer of the list has a write count while a different one has an exclusive count
  abbrev pub stand_together : Topology C → List Consumer → Bool
  stand_together t cs =
      list_all
      (λ a. list_all (λ b. (a.number == b.number) || (((want t a).w == 0) || ((want t b).e == 0))) cs)
      cs

  -- whether no writer stands beside another's exclusive count, at any provider
  abbrev pub is_exclusive : Topology C → Bool
  is_exclusive t = list_all (λ x. stand_together t (attached_to t x.number)) t.providers

  -- whether no provider has a count above the limit
  abbrev pub fits_limit : Topology C → Bool
  fits_limit t = list_all (λ x. is_within_limit (have t x.number)) t.providers

-- the providers whose write count leaves zero from the one state to the other, in order of numbers
abbrev pub risen : {C : Type 0} → (ℕ → Counts) → Topology C → (ℕ → Counts) → Topology C → List ℕ
risen granted t granted_after t_after =
    map (λ x. x.number)
    (filter (λ x. ((have granted t x.number).w == 0) && not ((have granted_after t_after x.number).w == 0))
    t.providers)

-- the providers whose write count comes to zero from the one state to the other, in order of numbers
abbrev pub fallen : {C : Type 0} → (ℕ → Counts) → Topology C → (ℕ → Counts) → Topology C → List ℕ
fallen granted t granted_after t_after =
    map (λ x. x.number)
    (filter (λ x. not ((have granted t x.number).w == 0) && ((have granted_after t_after x.number).w == 0))
    t.providers)
