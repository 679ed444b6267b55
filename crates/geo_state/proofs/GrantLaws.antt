-- What consumers are granted, after one came, was released, and what the laws say of it.
use Rattle.std.specs.Prelude.{◌≡◌, ℕ, ◌==◌, Bool, true, false, List, map, Option, Some, None, IsSomeAnd, unwrap_or, if◌then◌else◌, [], ◌∷◌, ◌++◌, find}
use Rattle.std.specs.Option.{option_map_or, option_map}
use Rattle.std.proofs.Common.{refl, ◌∙◌, ap, rules}
use Rattle.std.proofs.lemmas.Bool.{eqb-true}
use Rattle.geo_base.proofs.FindLists.{found_passes, none_passes}
use Rattle.geo_base.specs.declared.request.Counts.{Counts}
use Rattle.geo_model.specs.Topology.{Topology, Consumer, consumer_at}
use Rattle.geo_base.specs.declared.kind.Kind.TheVariants as kinds
use Rattle.geo_model.specs.Demand.{no_counts, want}
use Rattle.geo_model.specs.Opens.{with_grant}
use Rattle.geo_slots.specs.Slots.{value_at}
use Rattle.geo_mesh.specs.Topo.{TopoView}
use Rattle.geo_laws_counts.specs.CountWords.{HoldsGrants}
use Rattle.geo_access.specs.Access.{granted_by, holds_grants, counted_view, IsCounted}
use Rattle.geo_access.proofs.Decided.{item_at}
use Rattle.geo_model.specs.World.{Config}
use Rattle.geo_state.specs.Changes.{with_consumer_at, coming}
use Rattle.geo_state.specs.Grants.{ComersHoldNothing, TastesGrantNothing, TastesGrantReads, GrantsFollow}
use Rattle.geo_state.proofs.Lists.{find-before, find-past}

-- What is granted to each consumer, after one came that was granted counts, and after one was released

-- the grants with one of a consumer, there and elsewhere
pub grant-at : (g : ℕ → Counts) (c : ℕ) (add : Counts) (d : ℕ) (b : Bool) → (d == c) ≡ b
    → with_grant g c add d ≡ (if b then add else g d)
grant-at g c add d b e = ap (λ z. if z then add else g d) e

module _ {C : Type 0} where
  -- a consumer of such a geom does
  wants_grant : (granted : ℕ → Counts) (t : Topology C) (c : Consumer) → HoldsGrants t c.geom
      → want granted t c ≡ granted c.number
  wants_grant granted t c holds = search rules

  pub true-holds : (t : Topology C) (g : ℕ) → holds_grants t g ≡ true → HoldsGrants t g
  true-holds t g holds = search rules

  module _ (t : TopoView C) (c : ℕ) (add : Counts)
      (kind : IsSomeAnd (consumer_at t.topology c) (λ x. HoldsGrants t.topology x.geom)) where
    abbrev after : ℕ → Counts
    after = with_grant (granted_by t) c add

    -- the counts that are stored then, as grants
    abbrev seen : ℕ → Option Consumer → Counts
    seen d o =
        option_map_or
        (λ (x : Consumer). if holds_grants t.topology x.geom
        then unwrap_or
        (value_at (map (λ (y : Consumer). let row : ℕ × Counts = (y.number, want after t.topology y) in row)
        t.topology.consumers) d) no_counts
        else no_counts)
        o no_counts

    -- what was granted before
    abbrev was : ℕ → Option Consumer → Counts
    was d o =
        option_map_or
        (λ (x : Consumer). if holds_grants t.topology x.geom then unwrap_or (value_at t.wants d) no_counts
        else no_counts)
        o no_counts

    -- one of a geom that holds grants has its own
    holder_has : (d : ℕ) (x : Consumer) → consumer_at t.topology d ≡ Some x → holds_grants t.topology x.geom ≡ true
        → seen d (Some x) ≡ after d
    holder_has d x found holds =
        search (
          rules,
          item_at (λ (y : Consumer). y.number) (want after t.topology) d t.topology.consumers x found,
          wants_grant after t.topology x (true-holds t.topology x.geom holds),
          ap after (eqb-true x.number d (found_passes (λ (y : Consumer). y.number == d) t.topology.consumers x found)),
          eqb-true x.number d (found_passes (λ (y : Consumer). y.number == d) t.topology.consumers x found),
        )

    -- what is granted once the counts are those of the grants with this one
    pub granted-after : (d : ℕ) → granted_by (counted_view t (with_grant (granted_by t) c add)) d
        ≡ with_grant (granted_by t) c add d
    granted-after d = search (rules, holder_has d)

-- The laws: after a consumer came, after its grant changed, and by a taste

-- rows of items have what is found among the items
rows-none : {X V : Type 0} (key : X → ℕ) (f : X → V) (n : ℕ) (xs : List X) → find (λ x. key x == n) xs ≡ None
    → find (λ (row : ℕ × V). row.0 == n) (map (λ x. let row : ℕ × V = (key x, f x) in row) xs) ≡ None
rows-none key f n [] none = refl
rows-none {X} {V} key f n (x ∷ xs) none = search (rules, rows-none key f n xs)

module _ (t : TopoView Config) (geom prov : ℕ) where
  abbrev newcomer : Consumer
  newcomer = record { number = coming t; geom = geom; provider = Some prov; spoiled = false }

  abbrev stored : ℕ → Option Counts → Option Consumer → Counts
  stored d w o =
      option_map_or (λ (x : Consumer). if holds_grants t.topology x.geom then unwrap_or w no_counts else no_counts) o
      no_counts

  elsewhere : (d : ℕ) → (coming t == d) ≡ false → granted_by (with_consumer_at t geom prov) d ≡ granted_by t d
  elsewhere d other =
      ap (stored d (value_at (t.wants ++ (coming t, no_counts) ∷ []) d))
      (find-before (λ (c : Consumer). c.number == d) t.topology.consumers (newcomer ∷ []) (other, tt))
      ∙ ap (λ w. stored d w (consumer_at t.topology d))
      (ap (option_map (λ (row : ℕ × Counts). row.1))
      (find-before (λ (row : ℕ × Counts). row.0 == d) t.wants ((coming t, no_counts) ∷ []) (other, tt)))

  here : IsCounted t → consumer_at t.topology (coming t) ≡ None
      → granted_by (with_consumer_at t geom prov) (coming t) ≡ granted_by t (coming t)
  here counted fresh =
      search (
        rules,
        find-past (λ (c : Consumer). c.number == coming t) t.topology.consumers (newcomer ∷ [])
            (none_passes (λ (c : Consumer). c.number == coming t) t.topology.consumers fresh),
        ap (find (λ (row : ℕ × Counts). row.0 == coming t)) counted.wants,
        rows-none (λ (c : Consumer). c.number) (want (granted_by t) t.topology) (coming t) t.topology.consumers fresh,
        find-past (λ (row : ℕ × Counts). row.0 == coming t) t.wants ((coming t, no_counts) ∷ []),
        none_passes (λ (row : ℕ × Counts). row.0 == coming t) t.wants,
        Some (let row : ℕ × Counts = (coming t, no_counts) in row),
        Some no_counts,
      )

pub comers_hold_nothing : ComersHoldNothing
comers_hold_nothing t geom prov counted fresh c =
    search (rules, here t geom prov counted fresh, elsewhere t geom prov c)

pub tastes_grant_nothing : TastesGrantNothing
tastes_grant_nothing handles s idle c = search rules

pub tastes_grant_reads : TastesGrantReads
tastes_grant_reads handles s out nobodys c = search rules

pub grants_follow : GrantsFollow
grants_follow = record {
  comers = comers_hold_nothing;
  counted = λ t cons grant kind c. granted-after t cons grant kind c;
  nothing = tastes_grant_nothing;
  reads = tastes_grant_reads;
}
