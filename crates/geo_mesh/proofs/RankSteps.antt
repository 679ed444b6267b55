-- The walks that mend ranks, step by step: from a geom to a provider that it offers, from there to the geom of a
-- consumer that is attached to it; and the rank that a geom is given when it is lowered.
use Rattle.std.specs.Prelude.{◌≡◌, ℕ, ◌+◌, ◌<◌, ◌≤◌, nat_lt, false, not, ◌&&◌, ◌||◌, List, Option, Some, IsSome, length, map, option_map}
use Rattle.std.proofs.Common.{refl, sym, ap, ◌∙◌, subst, arith, rules}
use Rattle.geo_model.specs.TheConstants.{MAX_RANK}
use Rattle.geo_model.specs.Words.{largest, is_granted_kind}
use Rattle.geo_slots.specs.Slots.{SlotsView, IsRising, value_at}
use Rattle.geo_mesh.specs.declared.records.GeomCell.{GeomCell}
use Rattle.geo_mesh.specs.declared.records.ProvCell.{ProvCell}
use Rattle.geo_mesh.specs.declared.records.ConsCell.{ConsCell}
use Rattle.geo_mesh.specs.declared.tables.Edges.{Edges}
use Rattle.geo_mesh.specs.Rows.{passes}
use Rattle.geo_mesh.specs.Mending.{IsAmong, height, AreEnough, AreLocal, IsLow, Lifted, Lowered, IsJoinable}
use Rattle.geo_mesh.specs.Ranks.{kind_of, kinds, bare, owner_of, links_of, offers, links, ranked_links, stored, number_or, rank_through, rank_under, ranked_below, below, owner, user, is_high, is_dev_or_taste, is_offered, is_attached, belongs, IsFirst, IsWalkable}
use Rattle.geo_mesh.proofs.RowLemmas.{value_at-rows_with}
use Rattle.geo_mesh.proofs.RankMend.{lowered-store, enough-climbs, climbs-apart, lifted-joinable}
use Rattle.geo_mesh.proofs.RankHeights.{height-most}
use Rattle.geo_mesh.proofs.RankRows.{rising-with, high-more, kinds-bare, rank_under-most}
use Rattle.geo_mesh.proofs.RankFirst.{ranked-below, attached-later}
use Rattle.geo_mesh.proofs.RankWalk.{owner-is, user-above, user-lives}

-- the first provider of a geom from a number on has the geom as its owner
pub first-owned : (edges : Edges) (g p at : ℕ)
    → IsFirst (is_offered g) (offers edges).rows edges.providers.next at p → owner edges p ≡ g
first-owned edges g p at first = owner-is edges g p first.passing

-- where a walk is at a provider of the geom: it is there, the geom has a height like any, and that of the provider's
-- owner is the same in other cells of the same classes
pub record IsAtProvider {C : Type 0} (gs ns : SlotsView (GeomCell C)) (edges : Edges) (g p : ℕ) : Type 0 where
  pub walkable : IsWalkable (kinds ns) edges
  pub lives : IsSome (value_at (offers edges).rows p)
  pub count : length (kinds ns) ≡ length (kinds gs)
  pub most : height (ranked_below edges) (length (kinds gs)) g ≤ length (kinds gs) + 1
  pub tall : height (ranked_below edges) (length (kinds ns)) (owner edges p)
      ≡ height (ranked_below edges) (length (kinds gs)) g

-- where a walk is at a consumer that is attached to the provider: its geom is there and a later one, and stands above
-- the provider's owner, so that its height is greater
pub record IsAtConsumer {C : Type 0} (gs ns : SlotsView (GeomCell C)) (edges : Edges) (p c g : ℕ) : Type 0 where
  pub walkable : IsWalkable (kinds ns) edges
  pub lives : IsSome (value_at (kinds ns) g)
  pub later : is_dev_or_taste g ≡ false
  pub near : IsAmong (ranked_below edges g) (owner edges p)
  pub count : length (kinds ns) ≡ length (kinds gs)
  pub climbs : height (ranked_below edges) (length (kinds gs)) (owner edges p)
      < height (ranked_below edges) (length (kinds gs)) g
  pub most : height (ranked_below edges) (length (kinds gs)) g ≤ length (kinds gs) + 1
  pub tall : height (ranked_below edges) (length (kinds ns)) g ≡ height (ranked_below edges) (length (kinds gs)) g

module _ {C : Type 0} (gs ns : SlotsView (GeomCell C)) (edges : Edges) (same : bare ns ≡ bare gs)
    (walkable : IsWalkable (kinds gs) edges) where
  -- a step to the first provider of a geom from a number on
  pub at-provider : (g p at : ℕ) → IsFirst (is_offered g) (offers edges).rows edges.providers.next at p
      → IsAtProvider gs ns edges g p
  at-provider g p at first =
      search (rules, kinds-bare gs ns same, height-most (ranked_below edges) (length (kinds gs)) g)

  -- a step to the first consumer that is attached to a provider from a number on, of the geom that is read there
  pub at-consumer : (p c at g : ℕ) → IsSome (value_at (offers edges).rows p)
      → IsFirst (is_attached p) (ranked_links edges).rows edges.consumers.next at c → g ≡ user edges c
      → IsAtConsumer gs ns edges p c g
  at-consumer p c at g lives first is =
      search (
        rules,
        kinds-bare gs ns same,
        user-above edges p c lives first.passing,
        user-lives edges (kinds ns) p c,
        attached-later edges p c first.passing,
        height-most (ranked_below edges) (length (kinds gs)) (user edges c),
      )

-- a geom was given the rank that it has to have: no rank is too small, its own is no greater than it has to be, and
-- once what stands directly above is lowered too, it is as if nothing had been stored
pub record IsSettingDown (below : ℕ → List ℕ) (g : ℕ) (f m : ℕ → ℕ) : Type 0 where
  pub enough : AreEnough below m
  pub low : IsLow below m g
  pub whole : (r : ℕ → ℕ) → Lowered below m r → ((x : ℕ) → IsAmong (below x) g → IsLow below r x) → Lowered below f r

module _ {C : Type 0} (gs : SlotsView (GeomCell C)) (edges : Edges) (g : ℕ) (later : is_dev_or_taste g ≡ false) where
  -- the highest rank directly below a later geom is that of the geoms on which its rank stands
  pub highest-ranked : (n : ℕ) → n ≡ largest (map (stored gs) (below edges g))
      → n ≡ largest (map (stored gs) (ranked_below edges g))
  highest-ranked n is = subst (λ ms. n ≡ largest (map (stored gs) ms)) (sym (ranked-below edges g later)) is

module _ {C : Type 0} (gs ms : SlotsView (GeomCell C)) (edges : Edges) (g : ℕ) (later : is_dev_or_taste g ≡ false)
    (enough : AreEnough (ranked_below edges) (stored gs)) where
  -- so it is where a later geom of too great a rank is given one more than the highest directly below
  pub set-down : {rank highest : ℕ} → rank ≡ stored gs g → highest ≡ largest (map (stored gs) (below edges g))
      → 1 + highest < rank → stored ms g ≡ 1 + highest → ((x : ℕ) → (x ≡ g → ⊥) → stored ms x ≡ stored gs x)
      → IsSettingDown (ranked_below edges) g (stored gs) (stored ms)
  set-down {highest = highest} rank_is highest_is less there others =
      search (
        rules,
        climbs-apart (ranked_below edges) (stored gs) (enough-climbs (ranked_below edges) (stored gs) enough) g,
        highest-ranked gs edges g later highest highest_is,
        lowered-store (ranked_below edges) g (stored gs) (stored ms),
      )

-- whether a geom is above the limit, once one that is there was given a greater rank
pub high-raised : {C : Type 0} (gs ms : SlotsView (GeomCell C)) (g rank : ℕ) → IsRising 1 gs.rows gs.next
    → IsSome (value_at (kinds gs) g) → stored gs g < rank → stored ms g ≡ rank
    → ((x : ℕ) → (x ≡ g → ⊥) → stored ms x ≡ stored gs x)
    → is_high (kinds gs) (stored ms)
    ≡ (is_high (kinds gs) (stored gs)
    || (nat_lt MAX_RANK (stored ms g) && not (passes is_granted_kind (value_at (kinds gs) g))))
high-raised {C} gs ms g rank rising lives less here others =
    let more : stored gs g < stored ms g = omega arith in
    high-more (stored gs) (stored ms) g 1 gs.next (kinds gs)
    (rising-with (kind_of {C = C}) 1 gs.next gs.rows rising) lives more others

-- the rank below a consumer, by its cell and the provider that stands there
pub below-cell : {C : Type 0} (gs : SlotsView (GeomCell C)) (edges : Edges) (c : ℕ) (v : ConsCell) (o : Option ℕ)
    → Some v ≡ value_at edges.consumers.rows c → v.consumer.prov ≡ o
    → rank_under (stored gs) (offers edges).rows (value_at (links edges).rows c)
    ≡ rank_through (stored gs) (offers edges).rows o
below-cell gs edges c v o at is = rw (value_at-rows_with links_of c edges.consumers.rows, ← at, is) refl

-- so by the cell of that provider, where there is one
pub below-cells : {C : Type 0} (gs : SlotsView (GeomCell C)) (edges : Edges) (c p n : ℕ) (v : ConsCell)
    (o : Option ProvCell) → Some v ≡ value_at edges.consumers.rows c → v.consumer.prov ≡ Some p → n ≡ p
    → o ≡ value_at edges.providers.rows n
    → rank_under (stored gs) (offers edges).rows (value_at (links edges).rows c)
    ≡ number_or 0 (option_map (stored gs) (option_map owner_of o))
below-cells gs edges c p n v o at is same there =
    search (rules, below-cell gs edges c v (Some p), value_at-rows_with owner_of n edges.providers.rows)

-- the rank below the first consumer of a geom from a number on is at most the highest directly below the geom
pub under-first : {C : Type 0} (gs : SlotsView (GeomCell C)) (edges : Edges) (g c at : ℕ)
    → IsFirst (belongs g) (links edges).rows edges.consumers.next at c
    → rank_under (stored gs) (offers edges).rows (value_at (links edges).rows c)
    ≤ largest (map (stored gs) (below edges g))
under-first gs edges g c at first =
    rank_under-most (stored gs) (offers edges).rows (links edges).rows g c first.passing

-- where the upper geom was raised above the lower one, and the lower one's rank stood, that may be put below
pub raised-joinable : {C : Type 0} (gs ns : SlotsView (GeomCell C)) (edges : Edges) (upper under : ℕ) {rank stood : ℕ}
    → rank ≡ stored gs under → stood ≡ stored ns under → stood ≡ rank → AreLocal (ranked_below edges) (stored gs)
    → Lifted (ranked_below edges) upper (rank + 1) (stored gs) (stored ns) → rank + 1 ≤ stored ns upper
    → IsJoinable (ranked_below edges) upper under (stored ns)
raised-joinable gs ns edges upper under {rank = rank} rank_is stood_is same local lifted raised =
    lifted-joinable (ranked_below edges) (stored gs) upper (rank + 1) (stored ns) lifted local under
    (ap (λ n. n + 1) rank_is) raised (sym stood_is ∙ same ∙ rank_is)
