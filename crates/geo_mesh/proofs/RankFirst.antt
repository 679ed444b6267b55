-- The first two geoms, on whose ranks no geom stands: the ranks of all geoms from those that stand in the cells.
use Rattle.std.specs.Prelude.{◌≡◌, ◌⊎◌, ℕ, ◌+◌, ◌≤◌, Bool, true, false, ◌||◌, List, [], ◌∷◌, Option, Some, None, IsSome, IsSomeAnd, map, filter_map, length, All}
use Rattle.std.specs.List.{AllByRecursion}
use Rattle.std.proofs.Common.{refl, sym, ap, ◌∙◌, inl, inr, arith, rules}
use Rattle.std.proofs.lemmas.Bool.{cases_Bool}
use Rattle.std.proofs.lemmas.List.Elements.{recursion_from_All}
use Rattle.std.proofs.Math.Bool.{or-false}
use Rattle.geo_model.specs.Kind.{Kind}
use Rattle.geo_model.specs.Kind.TheVariants as kinds
use Rattle.geo_model.specs.Words.{largest, is_granted_kind, names_number}
use Rattle.geo_model.specs.Topology.{Provider, Geom, Consumer, geom_at}
use Rattle.geo_laws_graph.specs.LookupLaws.{EachIsFound}
use Rattle.geo_laws_graph.proofs.Lists.{Rise, rise-from}
use Rattle.geo_laws_graph.proofs.Found.{each-found}
use Rattle.geo_slots.specs.Slots.{SlotsView, IsRising, value_at}
use Rattle.geo_mesh.specs.declared.records.GeomCell.{GeomCell}
use Rattle.geo_mesh.specs.declared.records.ProvCell.{ProvCell}
use Rattle.geo_mesh.specs.declared.records.ConsCell.{ConsCell}
use Rattle.geo_mesh.specs.declared.tables.Edges.{Edges}
use Rattle.geo_mesh.specs.Rows.{rows_with, passes}
use Rattle.geo_mesh.specs.Cells.{graph_of, geom_row, provider_row, consumer_row}
use Rattle.geo_mesh.specs.Graph.{IsOffer, IsOrderly}
use Rattle.geo_mesh.specs.Mending.{IsAmong, StandsAbove, above}
use Rattle.geo_model.specs.Graph.{AreNumbers}
use Rattle.geo_mesh.specs.Index.{IsIndexed}
use Rattle.geo_mesh.specs.Ranks.{IsKin, is_dev_or_taste, footing, ranked_link_of, links_of, ranked_links, links, offers, ranked_below, below, provs_of, rank_from, is_high, is_attached, is_above, owner, user, bare, kind_of, owner_of, HaveDevAndTaste}
use Rattle.geo_mesh.proofs.RowLemmas.{map-bare, value_at-rows_with}
use Rattle.geo_mesh.proofs.RankMend.{largest-same}
use Rattle.geo_mesh.proofs.RankHeights.{local-few}
use Rattle.geo_mesh.proofs.ViewLemmas.{geom_at-view}
use Rattle.geo_mesh.proofs.RankRows.{all-at}

-- the rank of a later geom stands on what its consumers are attached to
pub footing-later : (g : ℕ) (o : Option ℕ) → is_dev_or_taste g ≡ false → footing g o ≡ o
footing-later g o later = rw later refl

-- that of one of the first two stands on nothing
pub footing-first : (g : ℕ) (o : Option ℕ) → is_dev_or_taste g ≡ true → footing g o ≡ None
footing-first g o first = rw first refl

-- and so does that of a geom by a consumer that is attached to nothing
pub footing-none : (g : ℕ) → footing g None ≡ None
footing-none g = grind arith

-- by a consumer that isn't attached to a provider it doesn't stand on that
pub footing-unnamed : (g n : ℕ) (o : Option ℕ) → names_number o n ≡ false → names_number (footing g o) n ≡ false
footing-unnamed g n o e = grind (arith, e)

module _ (g : ℕ) where
  -- the providers below a later geom, by either table
  links_same : is_dev_or_taste g ≡ false → (rows : List (ℕ × ConsCell))
      → provs_of (rows_with ranked_link_of rows) g ≡ provs_of (rows_with links_of rows) g
  links_same later [] = refl
  links_same later (row ∷ rows) =
      grind (arith, footing-later row.1.consumer.geom row.1.consumer.prov, links_same later rows)

  -- the first two stand on no provider
  no_footing : is_dev_or_taste g ≡ true → (rows : List (ℕ × ConsCell))
      → provs_of (rows_with ranked_link_of rows) g ≡ []
  no_footing first [] = refl
  no_footing first (row ∷ rows) =
      grind (arith, footing-first row.1.consumer.geom row.1.consumer.prov, no_footing first rows)

module _ (edges : Edges) where
  -- a consumer by which a rank stands on a provider is of a later geom
  pub attached-later : (p c : ℕ) → passes (is_attached p) (value_at (ranked_links edges).rows c) ≡ true
      → is_dev_or_taste (user edges c) ≡ false
  attached-later p c there = search (rules, value_at-rows_with ranked_link_of c edges.consumers.rows)

  -- so it is one of those that aren't DEV's
  pub attached-above : (p c : ℕ) → passes (is_attached p) (value_at (ranked_links edges).rows c) ≡ true
      → passes (is_above p) (value_at (links edges).rows c) ≡ true
  attached-above p c there =
      search (
        rules,
        value_at-rows_with links_of c edges.consumers.rows,
        value_at-rows_with ranked_link_of c edges.consumers.rows,
      )

  -- those that aren't DEV's are among all that are attached
  pub above-linked : (p c : ℕ) → passes (is_above p) (value_at (links edges).rows c) ≡ true
      → passes (is_attached p) (value_at (links edges).rows c) ≡ true
  above-linked p c there = search rules

  -- the rank of a later geom stands on a provider to which its consumer is attached
  pub attached-ranked : (p c : ℕ) → is_dev_or_taste (user edges c) ≡ false
      → passes (is_attached p) (value_at (links edges).rows c) ≡ true
      → passes (is_attached p) (value_at (ranked_links edges).rows c) ≡ true
  attached-ranked p c later there =
      search (
        rules,
        value_at-rows_with ranked_link_of c edges.consumers.rows,
        value_at-rows_with links_of c edges.consumers.rows,
      )

-- a provider's geom is a later one
pub owner-later : (edges : Edges) → AllByRecursion (λ row. is_dev_or_taste row.1 ≡ false) (offers edges).rows
    → (p : ℕ) → IsSome (value_at (offers edges).rows p) → is_dev_or_taste (owner edges p) ≡ false
owner-later edges bare p there =
    search (rules, all-at (λ (row : ℕ × ℕ). is_dev_or_taste row.1 ≡ false) (offers edges).rows p)

module _ (edges : Edges) where
  -- a later geom stands on all geoms directly below it
  pub ranked-below : (g : ℕ) → is_dev_or_taste g ≡ false → ranked_below edges g ≡ below edges g
  ranked-below g later = ap (filter_map (value_at (offers edges).rows)) (links_same g later edges.consumers.rows)

  -- and one of the first two on none
  pub ranked_below-first : (g : ℕ) → is_dev_or_taste g ≡ true → ranked_below edges g ≡ []
  ranked_below-first g first = ap (filter_map (value_at (offers edges).rows)) (no_footing g first edges.consumers.rows)

  module _ (bare : AllByRecursion (λ row. is_dev_or_taste row.1 ≡ false) (offers edges).rows) where
    -- what offers a provider is a later geom
    offered_later : (qs : List ℕ) (h : ℕ) → IsAmong (filter_map (value_at (offers edges).rows) qs) h
        → is_dev_or_taste h ≡ false
    offered_later [] h there = absurd there
    offered_later (q ∷ qs) h there =
        search (
          rules,
          offered_later qs h,
          all-at (λ (row : ℕ × ℕ). is_dev_or_taste row.1 ≡ false) (offers edges).rows q,
        )

    -- so what is directly below a geom is one
    pub below-later : (x h : ℕ) → IsAmong (below edges x) h → is_dev_or_taste h ≡ false
    below-later x h there =
        offered_later (provs_of (links edges).rows x) h there

    module _ (f : ℕ → ℕ) (local : (x : ℕ) → f x ≡ above (ranked_below edges) f x) where
      -- what is directly below a geom has the rank that stands in its cell
      same_beneath : (x : ℕ) → largest (map (rank_from f edges) (below edges x)) ≡ largest (map f (below edges x))
      same_beneath x =
          largest-same (rank_from f edges) f (below edges x) (λ h there. (let later : is_dev_or_taste h ≡ false =
          below-later x h there in rw later refl))

      -- the ranks are one more than the highest directly below
      pub rank_from-local : (x : ℕ) → rank_from f edges x ≡ above (below edges) (rank_from f edges) x
      rank_from-local x = search (rules, same_beneath x, ranked-below x)

      -- and no more than one above the number of geoms
      pub rank_from-few : (numbers : List ℕ) → ((g : ℕ) → is_dev_or_taste g ≡ true → IsAmong numbers g)
          → ((g : ℕ) → 2 ≤ f g → IsAmong numbers g) → (x : ℕ) → rank_from f edges x ≤ length numbers + 1
      rank_from-few numbers listed stood x =
          search (rules, local-few (rank_from f edges) (below edges) numbers rank_from-local)

    -- what stands above a later geom does so by the ranks
    pub stands-down : (x g : ℕ) → is_dev_or_taste x ≡ false → StandsAbove (below edges) x g
        → StandsAbove (ranked_below edges) x g
    stands-down x g later stands =
        λ has here so.
        only (has x)
        (stands (λ y. has y || is_dev_or_taste y) (rw here refl)
        (λ y h there is. up has so y h there is (cases_Bool (is_dev_or_taste y)))) where
          -- of one of two facts, of which the second is false
          only : (b : Bool) → (b || is_dev_or_taste x) ≡ true → b ≡ true
          only b fact = sym (or-false b) ∙ (rw later at fact)

          -- the fact goes up along each edge
          up : (has : ℕ → Bool) → ((y h : ℕ) → IsAmong (ranked_below edges y) h → has h ≡ true → has y ≡ true)
              → (y h : ℕ) → IsAmong (below edges y) h → (has h || is_dev_or_taste h) ≡ true
              → (is_dev_or_taste y ≡ true) ⊎ (is_dev_or_taste y ≡ false) → (has y || is_dev_or_taste y) ≡ true
          up has so y h there is (inl first) = search rules
          up has so y h there is (inr above_later) = search (rules, ranked-below y above_later, below-later y h there)

  -- what stands above a geom by the ranks does so by the graph
  pub stands-up : (x g : ℕ) → StandsAbove (ranked_below edges) x g → StandsAbove (below edges) x g
  stands-up x g stands =
      λ has here so. stands has here (search (rules, ranked_below-first, ranked-below))

  -- the classes of the first two have no limit, so only the ranks in the cells can be too great
  pub rank_from-high : (f : ℕ → ℕ) (classes : List (ℕ × Kind))
      → AllByRecursion (λ row. is_dev_or_taste row.0 ≡ true → is_granted_kind row.1 ≡ true) classes
      → is_high classes (rank_from f edges) ≡ is_high classes f
  rank_from-high f [] granted = refl
  rank_from-high f (row ∷ rows) granted = grind (arith, granted.0, rank_from-high f rows granted.1)

-- other ranks in the cells leave the numbers
pub numbers-bare : {C : Type 0} (gs ns : SlotsView (GeomCell C)) → bare ns ≡ bare gs
    → map (λ (row : ℕ × GeomCell C). row.0) ns.rows ≡ map (λ (row : ℕ × GeomCell C). row.0) gs.rows
numbers-bare = map-bare (λ row. row.0)

-- a number with a value is among the numbers
value-listed : {T : Type 0} (rows : List (ℕ × T)) (n : ℕ) → IsSome (value_at rows n)
    → IsAmong (map (λ (row : ℕ × T). row.0) rows) n
value-listed [] n there = absurd (cc)
value-listed (row ∷ rows) n there = search (rules, value-listed rows n)

-- rows rise from 1 on where the numbers of what they stand for do
module _ {T X : Type 0} (seen : ℕ × T → X) (number : X → ℕ) (is : (row : ℕ × T)
    → number (seen row) ≡ row.0) (next : ℕ) (some : 1 ≤ next) where
  -- behind a number
  behind : (low : ℕ) (rows : List (ℕ × T)) → low ≤ next → Rise low (map number (map seen rows)) next
      → IsRising low rows next
  behind low [] below rise = below
  behind low (row ∷ rows) below rise = search (rules, behind (row.0 + 1) rows (omega (arith, rise.1)))

  -- from the first on
  from_one : (rows : List (ℕ × T)) → AllByRecursion (λ x. 1 ≤ number x) (map seen rows)
      → Rise 0 (map number (map seen rows)) next → IsRising 1 rows next
  from_one [] one rise = some
  from_one (row ∷ rows) one rise = search (rules, behind (row.0 + 1) rows (omega (arith, rise.1)))

  -- so for a list in order
  rows-rise : (rows : List (ℕ × T)) → All (λ x. 1 ≤ number x) (map seen rows)
      → AreNumbers (map number (map seen rows)) next → IsRising 1 rows next
  rows-rise rows one order =
      from_one rows (recursion_from_All (λ x. 1 ≤ number x) (map seen rows) one)
      (rise-from next (map number (map seen rows)) order)

module _ {C : Type 0} (gs : SlotsView (GeomCell C)) (edges : Edges) (orderly : IsOrderly (graph_of gs edges)) where
  -- a geom of which something is known is there
  stands_there : (n : ℕ) (P : Geom C → Type 0) → IsSomeAnd (geom_at (graph_of gs edges) n) P
      → IsSome (value_at gs.rows n)
  stands_there n P fact = search (rules, geom_at-view gs edges n)

  -- the first two are there
  first_listed : (g : ℕ) → is_dev_or_taste g ≡ true → IsAmong (map (λ (row : ℕ × GeomCell C). row.0) gs.rows) g
  first_listed g first =
      search (
        rules,
        value-listed gs.rows 1 (stands_there 1 (λ x. x.kind ≡ kinds.Dev) orderly.first.dev),
        value-listed gs.rows 2 (stands_there 2 (λ x. x.kind ≡ kinds.Taste) orderly.first.taste),
      )

  -- their classes have no limit
  granted_of : (x : Geom C) → geom_at (graph_of gs edges) x.number ≡ Some x → is_dev_or_taste x.number ≡ true
      → is_granted_kind x.kind ≡ true
  granted_of x found first = search rules

  -- so for each row
  first_granted : (rows : List (ℕ × GeomCell C))
      → AllByRecursion (λ (x : Geom C). geom_at (graph_of gs edges) x.number ≡ Some x) (map geom_row rows)
      → AllByRecursion (λ (row : ℕ × Kind). is_dev_or_taste row.0 ≡ true
      → is_granted_kind row.1 ≡ true) (rows_with (kind_of {C = C}) rows)
  first_granted [] facts = tt
  first_granted (row ∷ rows) facts = (granted_of (geom_row row) facts.0, first_granted rows facts.1)

  -- and they offer no provider
  first_bare : (rows : List (ℕ × ProvCell)) → AllByRecursion IsOffer (map provider_row rows)
      → AllByRecursion (λ (row : ℕ × ℕ). is_dev_or_taste row.1 ≡ false) (rows_with owner_of rows)
  first_bare [] facts = tt
  first_bare (row ∷ rows) facts = search (rules, first_bare rows facts.1)

  -- in an orderly graph the ranks find the first two geoms as they need them
  pub first-two : HaveDevAndTaste gs edges
  first-two =
      let found : EachIsFound C = each-found in
      record {
        listed = first_listed;
        granted = first_granted gs.rows (found.geoms (graph_of gs edges) orderly.order);
        bare = first_bare edges.providers.rows
            (recursion_from_All IsOffer (map provider_row edges.providers.rows) orderly.offers);
      }

  -- the rows of the geoms rise
  pub geoms-rise : IsRising 1 gs.rows gs.next
  geoms-rise =
      rows-rise geom_row (λ (x : Geom C). x.number) (λ row. refl) gs.next orderly.numbers.next_geom.some gs.rows
      orderly.numbers.geoms orderly.order.geoms

  -- the index tells what is in an orderly graph, and its rows rise
  pub kin-of : IsIndexed (graph_of gs edges) edges.index → IsKin edges
  kin-of indexed =
      search (
        rules,
        rows-rise provider_row (λ (x : Provider). x.number) (λ row. refl) edges.providers.next
            orderly.numbers.next_provider.some edges.providers.rows orderly.numbers.providers orderly.order.providers,
        rows-rise consumer_row (λ (x : Consumer). x.number) (λ row. refl) edges.consumers.next
            orderly.numbers.next_consumer.some edges.consumers.rows orderly.numbers.consumers orderly.order.consumers,
      )
