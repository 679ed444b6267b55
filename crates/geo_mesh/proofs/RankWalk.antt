-- The walks that mend ranks: what their loops keep.
use Rattle.std.specs.Prelude.{◌≡◌, ℕ, ◌+◌, ◌<◌, ◌==◌, Bool, true, List, Option, Some, None, IsSome}
use Rattle.std.proofs.Common.{refl, ap, subst, rules}
use Rattle.std.proofs.lemmas.Bool.{eqb-true, eq-eqb}
use Rattle.geo_model.specs.Kind.{Kind}
use Rattle.geo_model.proofs.DemandLemmas.{names_some}
use Rattle.geo_slots.specs.Slots.{SlotsView, IsRising, value_at}
use Rattle.geo_mesh.specs.declared.records.GeomCell.{GeomCell}
use Rattle.geo_mesh.specs.declared.tables.Edges.{Edges}
use Rattle.geo_mesh.specs.Rows.{passes}
use Rattle.geo_mesh.specs.Mending.{IsAmong}
use Rattle.geo_mesh.specs.Ranks.{kinds, bare, offers, ranked_links, ranked_below, ranked_link_of, owner, user, user_of, number_or, is_offered, is_attached, IsFirst, IsWalkable}
use Rattle.geo_mesh.proofs.RankRows.{IsWay, under-way, way-under, kinds-bare, rising-with, all-at}

-- the graph may be walked over whatever the ranks
pub walkable-bare : {C : Type 0} (gs ns : SlotsView (GeomCell C)) (edges : Edges) → bare ns ≡ bare gs
    → IsWalkable (kinds gs) edges → IsWalkable (kinds ns) edges
walkable-bare gs ns edges same walkable = search (rules, kinds-bare gs ns same)

-- a provider that is offered by a geom has it as its owner
pub offered-is : (g : ℕ) (o : Option ℕ) → passes (is_offered g) o ≡ true → o ≡ Some g
offered-is g None there = absurd cc
offered-is g (Some h) there = ap (λ (n : ℕ). Some n) (eqb-true h g there)

-- a consumer that is attached to a provider is of its user
pub attached-is : (p : ℕ) (o : Option (ℕ × Option ℕ)) → passes (is_attached p) o ≡ true → o ≡ Some (user_of o, Some p)
attached-is p None there = absurd cc
attached-is p (Some e) there = ap (λ (q : Option ℕ). Some (e.0, q)) (names_some e.1 p there)

-- a number that is there is the one that is read where 0 would stand for none
pub some_number : (o : Option ℕ) → IsSome o → o ≡ Some (number_or 0 o)
some_number None there = absurd cc
some_number (Some n) there = refl

module _ (edges : Edges) where
  -- the owner of a provider that a geom offers is that geom
  pub owner-is : (g p : ℕ) → passes (is_offered g) (value_at (offers edges).rows p) ≡ true → owner edges p ≡ g
  owner-is g p there = rw (offered-is g (value_at (offers edges).rows p) there) refl

  -- the owner of a provider is below the user of a consumer that is attached to it
  pub user-above : (p c : ℕ) → IsSome (value_at (offers edges).rows p)
      → passes (is_attached p) (value_at (ranked_links edges).rows c) ≡ true
      → IsAmong (ranked_below edges (user edges c)) (owner edges p)
  user-above p c lives there =
      way-under (offers edges).rows (ranked_links edges).rows c p (user edges c) (owner edges p)
      (attached-is p (value_at (ranked_links edges).rows c) there)
      (some_number (value_at (offers edges).rows p) lives)

  -- what stands directly above a geom does so by a consumer that is attached to a provider of the geom
  pub above-user : IsRising 1 edges.consumers.rows edges.consumers.next → (P : ℕ → Type 0) (g : ℕ)
      → ((p c : ℕ) → passes (is_offered g) (value_at (offers edges).rows p) ≡ true
      → passes (is_attached p) (value_at (ranked_links edges).rows c) ≡ true → P (user edges c))
      → (x : ℕ) → IsAmong (ranked_below edges x) g → P x
  above-user rising P g so x there =
      let way : IsWay (offers edges).rows (ranked_links edges).rows x g =
      under-way (offers edges).rows 1 edges.consumers.next (ranked_links edges).rows
      (rising-with ranked_link_of 1 edges.consumers.next edges.consumers.rows rising) x g there in
      at way (so way.prov way.cons (rw way.owner (self g)) (rw way.user (self way.prov))) where
        self : (n : ℕ) → (n == n) ≡ true
        self n = eq-eqb n n refl

        at : (way : IsWay (offers edges).rows (ranked_links edges).rows x g) → P (user edges way.cons) → P x
        at way fact = let same : user edges way.cons ≡ x = rw way.user refl in subst P same fact

  -- the geom of a consumer is there
  pub user-lives : (classes : List (ℕ × Kind)) (p c : ℕ) → IsWalkable classes edges
      → passes (is_attached p) (value_at (ranked_links edges).rows c) ≡ true → IsSome (value_at classes (user edges c))
  user-lives classes p c walkable there =
      all-at (λ (row : ℕ × (ℕ × Option ℕ)). IsSome (value_at classes row.1.0)) (ranked_links edges).rows c
      (user edges c, Some p) walkable.owned (attached-is p (value_at (ranked_links edges).rows c) there)

-- one more of a walk: a fact of all that pass below the next number
pub walk-more : {T : Type 0} (test : T → Bool) (rows : List (ℕ × T)) (next at n : ℕ) (P : ℕ → Type 0)
    → IsFirst test rows next at n
    → ((m : ℕ) → m < at → passes test (value_at rows m) ≡ true → P m) → P n → (m : ℕ) → m < n + 1
    → passes test (value_at rows m) ≡ true → P m
walk-more test rows next at n P first so here m low there = search rules
