-- The ranks that stand in the cells of the geoms, and the graph below them, by the rows.
use Rattle.std.specs.Prelude.{◌≡◌, ℕ, ◌+◌, ◌<◌, ◌≤◌, ◌^◌, ◌==◌, nat_lt, Bool, true, false, not, ◌&&◌, ◌||◌, List, Option, Some, None, IsSome, IfSome, filter, filter_map, length, map, option_map, if◌then◌else◌}
use Rattle.std.specs.List.{list_any, AllByRecursion}
use Rattle.geo_model.specs.Kind.{Kind}
use Rattle.geo_model.specs.TheConstants.{MAX_RANK}
use Rattle.geo_model.specs.Words.{is_granted_kind, names_number}
use Rattle.geo_slots.specs.Slots.{SlotsView, IsRising, value_at}
use Rattle.geo_mesh.specs.declared.records.Scratch.{Scratch}
use Rattle.geo_mesh.specs.declared.records.GeomRec.{GeomRec}
use Rattle.geo_mesh.specs.declared.records.GeomCell.{GeomCell}
use Rattle.geo_mesh.specs.declared.records.ProvCell.{ProvCell}
use Rattle.geo_mesh.specs.declared.records.ConsCell.{ConsCell}
use Rattle.geo_mesh.specs.declared.tables.Edges.{Edges}
use Rattle.geo_mesh.specs.Rows.{rows_with, passes}
use Rattle.geo_mesh.specs.Cells.{IsCount, provider_row, consumer_row}
use Rattle.geo_mesh.specs.Index.{provider_geoms, consumer_geoms, consumers_above}
use Rattle.geo_mesh.specs.declared.records.AttachRefusal.{AttachRefusal}
use Rattle.geo_mesh.specs.declared.records.AttachRefusal.TheVariants.{Enxio, Eloop, Edeep}
use Rattle.geo_mesh.specs.Mending.{IsAmong, ExceedsThoseBelow, StandsAbove, IsJoinable, AreLocal, above, height}

-- the number, and another where there is none
abbrev pub number_or : ℕ → Option ℕ → ℕ
number_or n None = n
number_or n (Some m) = m

-- parts of cells
abbrev pub kind_of : {C : Type 0} → GeomCell C → Kind
kind_of x = x.geom.kind

-- the rank that stands in the cell
abbrev pub rank_of : {C : Type 0} → GeomCell C → ℕ
rank_of x = x.rank

-- all but the rank
abbrev pub without_rank : {C : Type 0} → GeomCell C → GeomRec C × Scratch
without_rank x = (x.geom, x.scratch)

-- the geom that offers the provider
abbrev pub owner_of : ProvCell → ℕ
owner_of x = x.provider.geom

-- whether the geom is one of the first two, DEV and TASTE: they have no provider, so no geom stands on their ranks
abbrev pub is_dev_or_taste : ℕ → Bool
is_dev_or_taste g = (g == 1) || (g == 2)

-- on which provider the rank of a consumer's geom stands: that to which it is attached, but none for the first two
-- geoms
abbrev pub footing : ℕ → Option ℕ → Option ℕ
footing g o = if is_dev_or_taste g then None else o

-- the consumer's geom, and the provider on which the geom's rank stands by it
abbrev pub ranked_link_of : ConsCell → ℕ × Option ℕ
ranked_link_of x = (x.consumer.geom, footing x.consumer.geom x.consumer.prov)

-- the consumer's geom, and the provider to which it may be attached
abbrev pub links_of : ConsCell → ℕ × Option ℕ
links_of x = (x.consumer.geom, x.consumer.prov)

-- the class of each geom
abbrev pub kinds : {C : Type 0} → SlotsView (GeomCell C) → List (ℕ × Kind)
kinds {C} gs = rows_with (kind_of {C = C}) gs.rows

-- the rank that stands in each cell
abbrev pub ranks : {C : Type 0} → SlotsView (GeomCell C) → List (ℕ × ℕ)
ranks {C} gs = rows_with (rank_of {C = C}) gs.rows

-- all but the ranks
abbrev pub bare : {C : Type 0} → SlotsView (GeomCell C) → SlotsView (GeomRec C × Scratch)
bare {C} gs = record { rows = rows_with (without_rank {C = C}) gs.rows; next = gs.next; spare = gs.spare }

-- the geom that offers each provider
abbrev pub offers : Edges → SlotsView ℕ
offers edges = record {
  rows = rows_with owner_of edges.providers.rows;
  next = edges.providers.next;
  spare = edges.providers.spare;
}

-- the geom of each consumer, and the provider on which the geom's rank stands by it
abbrev pub ranked_links : Edges → SlotsView (ℕ × Option ℕ)
ranked_links edges = record {
  rows = rows_with ranked_link_of edges.consumers.rows;
  next = edges.consumers.next;
  spare = edges.consumers.spare;
}

-- the geom of each consumer, and the provider to which it is attached
abbrev pub links : Edges → SlotsView (ℕ × Option ℕ)
links edges = record {
  rows = rows_with links_of edges.consumers.rows;
  next = edges.consumers.next;
  spare = edges.consumers.spare;
}

-- the rank under a number, and 1 where there is none
abbrev pub rank_at : List (ℕ × ℕ) → ℕ → ℕ
rank_at rows g = number_or 1 (value_at rows g)

-- the rank that stands in the cell of a geom, and 1 where there is no geom
abbrev pub stored : {C : Type 0} → SlotsView (GeomCell C) → ℕ → ℕ
stored gs g = rank_at (ranks gs) g

-- the providers to which the consumers of a geom are attached
abbrev pub provs_of : List (ℕ × (ℕ × Option ℕ)) → ℕ → List ℕ
provs_of users g = filter_map (λ row. row.1.1) (filter (λ row. row.1.0 == g) users)

-- the geoms directly below a geom
abbrev pub under : List (ℕ × ℕ) → List (ℕ × (ℕ × Option ℕ)) → ℕ → List ℕ
under owners users g = filter_map (value_at owners) (provs_of users g)

-- the geoms on which the stored rank of a geom stands: those directly below it, but none for the first two geoms
abbrev pub ranked_below : Edges → ℕ → List ℕ
ranked_below edges = under (offers edges).rows (ranked_links edges).rows

-- the geoms directly below a geom
abbrev pub below : Edges → ℕ → List ℕ
below edges = under (offers edges).rows (links edges).rows

-- the rank of a geom: it stands in the cell, but for the first two geoms it is found from the ranks of the geoms
-- beneath
abbrev pub rank_from : (ℕ → ℕ) → Edges → ℕ → ℕ
rank_from f edges g = if is_dev_or_taste g then above (below edges) f g else f g

-- the geom that offers the provider, and the geom of the consumer: 0 where there is none
abbrev pub owner : Edges → ℕ → ℕ
owner edges p = number_or 0 (value_at (offers edges).rows p)

-- the geom of a consumer that may be there, and 0 where there is none
abbrev pub user_of : Option (ℕ × Option ℕ) → ℕ
user_of None = 0
user_of (Some e) = e.0

-- the geom of the consumer of a number, and 0 where there is none
abbrev pub user : Edges → ℕ → ℕ
user edges c = user_of (value_at (ranked_links edges).rows c)

-- whether the provider is offered by the geom, and the consumer attached to the provider, and the consumer the geom's
abbrev pub is_offered : ℕ → ℕ → Bool
is_offered g o = o == g

-- whether the consumer is attached to the provider
abbrev pub is_attached : ℕ → ℕ × Option ℕ → Bool
is_attached p e = names_number e.1 p

-- whether the consumer is attached to the provider and isn't DEV's
abbrev pub is_above : ℕ → ℕ × Option ℕ → Bool
is_above p e = names_number e.1 p && not (e.0 == 1)

-- whether the consumer is the geom's
abbrev pub belongs : ℕ → ℕ × Option ℕ → Bool
belongs g e = e.0 == g

-- the value at the geom to whose provider a consumer is attached, and 0 where it is attached to nothing
abbrev pub rank_through : (ℕ → ℕ) → List (ℕ × ℕ) → Option ℕ → ℕ
rank_through f owners None = 0
rank_through f owners (Some p) = number_or 0 (option_map f (value_at owners p))

-- the value at the geom below a consumer that may be there, and 0 where there is none
abbrev pub rank_under : (ℕ → ℕ) → List (ℕ × ℕ) → Option (ℕ × Option ℕ) → ℕ
rank_under f owners None = 0
rank_under f owners (Some e) = rank_through f owners e.1

-- a fact of the geom of each consumer by which a rank stands on the provider
abbrev pub EachUser : Edges → ℕ → (ℕ → Type 0) → Type 0
EachUser edges prov P = (c : ℕ) → passes (is_attached prov) (value_at (ranked_links edges).rows c) ≡ true
    → P (user edges c)

-- how far a geom may be raised at most: more than any rank that it can need
abbrev pub highest_raise : {C : Type 0} → SlotsView (GeomCell C) → Edges → ℕ → ℕ
highest_raise gs edges g = height (ranked_below edges) (length (kinds gs)) g + 2 ^ 33

-- whether a geom other than DEV and TASTE is above the limit
abbrev pub is_high : List (ℕ × Kind) → (ℕ → ℕ) → Bool
is_high classes f = list_any (λ row. not (is_granted_kind row.1) && nat_lt MAX_RANK (f row.0)) classes

-- the first number from a number on whose value passes a test
pub record IsFirst {T : Type 0} (test : T → Bool) (rows : List (ℕ × T)) (next at n : ℕ) : Type 0 where
  pub past : at ≤ n
  pub passing : passes test (value_at rows n) ≡ true
  pub least : (m : ℕ) → at ≤ m → passes test (value_at rows m) ≡ true → n ≤ m
  pub known : n < next
  pub bound : next < 2 ^ 64

-- the first number from a number on whose value passes, or none where all that pass come before
abbrev pub FirstIs : {T : Type 0} → (T → Bool) → SlotsView T → ℕ → Option ℕ → Type 0
FirstIs test s at None = (m : ℕ) → passes test (value_at s.rows m) ≡ true → m < at
FirstIs test s at (Some n) = IsFirst test s.rows s.next at n

-- the index tells whose each provider and each consumer is, and where each consumer other than DEV's is attached; the
-- numbers rise, and the next ones fit
pub record IsKin (edges : Edges) : Type 0 where
  pub offered : edges.index.offered.children ≡ provider_geoms (map provider_row edges.providers.rows)
  pub owned : edges.index.owned.children ≡ consumer_geoms (map consumer_row edges.consumers.rows)
  pub above : edges.index.above.children ≡ consumers_above (map consumer_row edges.consumers.rows)
  pub providers_rise : IsRising 1 edges.providers.rows edges.providers.next
  pub providers_few : edges.providers.next < 2 ^ 64
  pub consumers_rise : IsRising 1 edges.consumers.rows edges.consumers.next
  pub consumers_few : edges.consumers.next < 2 ^ 64

-- the graph has no loop, each consumer's geom is there, the index tells what is in it, and there aren't too many geoms
pub record IsWalkable (classes : List (ℕ × Kind)) (edges : Edges) : Type 0 where
  pub kin : IsKin edges
  pub climbs : ExceedsThoseBelow (ranked_below edges) (height (ranked_below edges) (length classes))
  pub owned : AllByRecursion (λ row. IsSome (value_at classes row.1.0)) (ranked_links edges).rows
  pub few : length classes ≤ 4294967294

-- the geom of the row's consumer is there
abbrev pub UserLives : List (ℕ × Kind) → ℕ × (ℕ × Option ℕ) → Type 0
UserLives classes row = IsSome (value_at classes row.1.0)

-- the provider on which the rank stands by the row's consumer, if there is one, has a geom
abbrev pub OwnerLives : List (ℕ × ℕ) → ℕ × (ℕ × Option ℕ) → Type 0
OwnerLives owners row = IfSome row.1.1 (λ p. IsSome (value_at owners p))

-- each rank that stands in a cell is one more than the highest below, no geom other than DEV and TASTE is above the
-- limit, and each consumer's geom and each attached provider are there
pub record AreRanks (classes : List (ℕ × Kind)) (standing owners : List (ℕ × ℕ))
    (users : List (ℕ × (ℕ × Option ℕ))) : Type 0 where
  pub local : AreLocal (under owners users) (rank_at standing)
  pub low : is_high classes (rank_at standing) ≡ false
  pub owned : AllByRecursion (UserLives classes) users
  pub attached : AllByRecursion (OwnerLives owners) users

-- the mesh that stands: its geoms are counted, and their ranks stand in their cells
pub record HaveRanks {C : Type 0} (gs : SlotsView (GeomCell C)) (edges : Edges) (live : ℕ) : Type 0 where
  pub count : IsCount (length gs.rows) live
  pub standing : AreRanks (kinds gs) (ranks gs) (offers edges).rows (ranked_links edges).rows

-- why one geom isn't put below another: the other stands below it already, or a geom other than DEV and TASTE would
-- be above the limit
abbrev pub IsRefusedFor : {C : Type 0} → AttachRefusal → SlotsView (GeomCell C) → (ℕ → List ℕ) → ℕ → ℕ → Type 0
IsRefusedFor Enxio gs below upper lower = ⊥
IsRefusedFor Eloop gs below upper lower = StandsAbove below lower upper
IsRefusedFor {C} Edeep gs below upper lower = (ns : SlotsView (GeomCell C)) × (bare ns ≡ bare gs)
    × IsJoinable below upper lower (stored ns) × (is_high (kinds gs) (stored ns) ≡ true)

-- one geom is let below another: the other is one of the first two, and the ranks stay, or the ranks fit the graph
-- with the edge
abbrev pub IsAdmitted : Bool → (ℕ → List ℕ) → ℕ → ℕ → (ℕ → ℕ) → (ℕ → ℕ) → Type 0
IsAdmitted true below upper lower old new = (x : ℕ) → new x ≡ old x
IsAdmitted false below upper lower old new = IsJoinable below upper lower new

-- what the ranks need of the first two geoms: they are there, of classes without a limit, and offer no provider
pub record HaveDevAndTaste {C : Type 0} (gs : SlotsView (GeomCell C)) (edges : Edges) : Type 0 where
  pub listed : (g : ℕ) → is_dev_or_taste g ≡ true → IsAmong (map (λ row. row.0) gs.rows) g
  pub granted : AllByRecursion (λ row. is_dev_or_taste row.0 ≡ true → is_granted_kind row.1 ≡ true) (kinds gs)
  pub bare : AllByRecursion (λ row. is_dev_or_taste row.1 ≡ false) (offers edges).rows
