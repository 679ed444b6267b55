-- What a class makes of a provider only comes: which consumers, geoms and providers, and that none is of a disk.
use Rattle.std.specs.Prelude.{◌≡◌, ℕ, ◌+◌, ◌-◌, ◌≤◌, ◌==◌, Bool, true, false, not, ◌&&◌, List, [], ◌∷◌, ◌++◌, length, map, Option, Some, None, IfSome, is_some, if◌then◌else◌}
use Rattle.std.specs.List.{AllByRecursion, list_all}
use Rattle.std.proofs.Common.{refl, sym, ◌∙◌, ap, subst, arith, rules}
use Rattle.std.proofs.lemmas.Bool.{and_parts, eqb-true}
use Rattle.std.proofs.lemmas.List.{append_assoc, append-nil, length-append, map-append}
use Rattle.std.proofs.lemmas.List.Elements.{recursion_from_All}
use Rattle.geo_base.proofs.AllLists.{all_appended, all_weaker}
use Rattle.geo_base.specs.declared.kind.Kind.{Kind}
use Rattle.geo_base.specs.declared.kind.Kind.TheVariants as kinds
use Rattle.geo_base.specs.declared.request.Counts.{Counts}
use Rattle.geo_base.specs.declared.limits.TheConstants.{MAX_LINKS}
use Rattle.geo_model.specs.declared.class.EbrPart.{EbrPart}
use Rattle.geo_model.specs.declared.class.Shape.{Shape}
use Rattle.geo_model.specs.declared.class.Shape.TheVariants.{Slices, Logical, Named, Joined, Striped}
use Rattle.geo_model.specs.declared.class.Slice.{Slice}
use Rattle.geo_model.specs.Graph.{IsInOrder}
use Rattle.geo_model.specs.Words.{change_where, same_name}
use Rattle.geo_model.specs.Names.{label_name, logical_name, slice_name}
use Rattle.geo_model.specs.Demand.{no_counts}
use Rattle.geo_model.specs.Topology.{Geom, Provider, Consumer, geom_at, set_config}
use Rattle.geo_model.specs.Place.{disk_of}
use Rattle.geo_model.specs.World.{Config, Disk, Mbr, Ebr, Label}
use Rattle.geo_model.specs.Acceptance.{Member, NewSlice, are_names_free, can_join, concat_member, fill_place, is_same_assembly, joined_size, new_parts, new_slices, places_of, standing_geom, stripe_member}
use Rattle.geo_mesh.specs.Topo.{TopoView, with_geom, with_provider, with_topology}
use Rattle.geo_laws_graph.specs.LookupLaws.{EachIsFound, new_geom, new_provider}
use Rattle.geo_laws_graph.proofs.Found.{each-found}
use Rattle.geo_laws_graph.proofs.Members.{at_contained, find-Contains}
use Rattle.geo_laws_counts.proofs.Numbers.{free_of}
use Rattle.geo_model.proofs.DemandLemmas.{find_passes}
use Rattle.geo_taste.proofs.HandedOn.{new_few}
use Rattle.geo_taste.specs.Making.{QueuedMesh, with_attached, with_offer}
use Rattle.geo_taste.specs.Accepting.{accepted, finished, joined, joined_at, labelled, over, placed, sliced, with_member, with_slices_of}
use Rattle.geo_state.specs.Sites.{no_row}

-- a number that wants nothing
abbrev pub no_want : ℕ → ℕ × Counts
no_want c = (c, no_counts)

-- a geom's number with its class and its disk
abbrev pub class_row : Geom Config → ℕ × (Kind × Option ℕ)
class_row g = (g.number, (g.kind, disk_of g.config))

-- the consumer's number
abbrev pub number_of : Consumer → ℕ
number_of c = c.number

-- from the one mesh to the other these came, at the ends, and all else is as it was
pub record Grows (t u : TopoView Config) : Type 0 where
  pub consumers : List Consumer
  pub geoms : List (ℕ × (Kind × Option ℕ))
  pub providers : List Provider
  pub with_consumers : u.topology.consumers ≡ t.topology.consumers ++ consumers
  pub with_wants : u.wants ≡ t.wants ++ map no_want (map number_of consumers)
  pub with_active : u.active ≡ t.active ++ map no_row (map number_of consumers)
  pub with_geoms : map class_row u.topology.geoms ≡ map class_row t.topology.geoms ++ geoms
  pub with_providers : u.topology.providers ≡ t.topology.providers ++ providers
  pub diskless : AllByRecursion (λ (row : ℕ × (Kind × Option ℕ)). row.1.1 ≡ None) geoms
  pub fresh : AllByRecursion (λ (c : Consumer). t.topology.next_consumer ≤ c.number) consumers
  pub next_consumer : t.topology.next_consumer ≤ u.topology.next_consumer
  pub next_provider : u.topology.next_provider ≡ t.topology.next_provider + length providers

-- what came first, and then
twice : {X : Type 0} (xs ys zs first more : List X) → ys ≡ xs ++ first → zs ≡ ys ++ more → zs ≡ xs ++ (first ++ more)
twice xs ys zs first more was then_on = then_on ∙ ap (λ ws. ws ++ more) was ∙ append_assoc xs first more

-- one growth after another
pub grows-on : (t u v : TopoView Config) → Grows t u → Grows u v → Grows t v
grows-on t u v g h = record {
  consumers = g.consumers ++ h.consumers;
  geoms = g.geoms ++ h.geoms;
  providers = g.providers ++ h.providers;
  with_consumers =
      twice t.topology.consumers u.topology.consumers v.topology.consumers g.consumers h.consumers g.with_consumers
      h.with_consumers;
  with_wants =
      twice t.wants u.wants v.wants (map no_want (map number_of g.consumers)) (map no_want (map number_of h.consumers))
      g.with_wants h.with_wants
      ∙ ap (λ rows. t.wants ++ rows)
      (sym (ap (map no_want) (map-append number_of g.consumers h.consumers)
      ∙ map-append no_want (map number_of g.consumers) (map number_of h.consumers)));
  with_active =
      twice t.active u.active v.active (map no_row (map number_of g.consumers)) (map no_row (map number_of h.consumers))
      g.with_active h.with_active
      ∙ ap (λ rows. t.active ++ rows)
      (sym (ap (map no_row) (map-append number_of g.consumers h.consumers)
      ∙ map-append no_row (map number_of g.consumers) (map number_of h.consumers)));
  with_geoms =
      twice (map class_row t.topology.geoms) (map class_row u.topology.geoms) (map class_row v.topology.geoms) g.geoms
      h.geoms g.with_geoms h.with_geoms;
  with_providers =
      twice t.topology.providers u.topology.providers v.topology.providers g.providers h.providers g.with_providers
      h.with_providers;
  diskless =
      all_appended (λ (row : ℕ × (Kind × Option ℕ)). row.1.1 ≡ None) g.geoms h.geoms g.diskless h.diskless;
  fresh =
      all_appended (λ (c : Consumer). t.topology.next_consumer ≤ c.number) g.consumers h.consumers g.fresh
      (all_weaker (λ (c : Consumer). u.topology.next_consumer ≤ c.number)
      (λ c. t.topology.next_consumer ≤ c.number)
      (λ c above. let first = g.next_consumer in omega (arith, first, above)) h.consumers h.fresh);
  next_consumer = let first = g.next_consumer in let then_on = h.next_consumer in omega (arith, first, then_on);
  next_provider =
      search (rules, length-append g.providers h.providers);
}

-- One change

module _ (t : TopoView Config) where
  -- nothing came
  same_rows : {X : Type 0} (xs : List X) → xs ≡ xs ++ []
  same_rows xs = sym (append-nil xs)

  -- no number is given out
  none_more : t.topology.next_provider ≡ t.topology.next_provider + 0
  none_more = omega arith

  -- the next number isn't lower
  not_less : t.topology.next_consumer ≤ t.topology.next_consumer
  not_less = omega arith

  -- a geom that is of no disk
  pub geom-grows : (kind : Kind) (name : List ℕ) (config : Config) (automatic : Bool) → disk_of config ≡ None
      → Grows t (with_geom t kind name config automatic)
  geom-grows kind name config automatic none =
      search (
        rules,
        same_rows t.topology.consumers,
        map-append class_row t.topology.geoms (new_geom t.topology kind name config automatic ∷ []),
        same_rows t.topology.providers,
        not_less,
        none_more,
      )

  -- a provider
  pub provider-grows : (geom : ℕ) (name : List ℕ) (size sector : ℕ) → Grows t (with_provider t geom name size sector)
  provider-grows geom name size sector =
      search (rules, same_rows t.topology.consumers, same_rows (map class_row t.topology.geoms), not_less)

  -- a consumer
  pub consumer-grows : (geom p : ℕ) → Grows t (with_attached t geom p)
  consumer-grows geom p = search (rules, same_rows (map class_row t.topology.geoms))

  -- the geom of a number is of no disk
  abbrev pub OfNoDisk : ℕ → Type 0
  OfNoDisk geom =
      AllByRecursion (λ (x : Geom Config). (x.number == geom) ≡ true → disk_of x.config ≡ None) t.topology.geoms

  -- another configuration of it, of no disk either
  pub config-grows : (geom : ℕ) (config : Config) → disk_of config ≡ None → OfNoDisk geom
      → Grows t (with_topology t (set_config t.topology geom config))
  config-grows geom config none before = record {
    consumers = [];
    geoms = [];
    providers = [];
    with_consumers = same_rows t.topology.consumers;
    with_wants = same_rows t.wants;
    with_active = same_rows t.active;
    with_geoms = rows t.topology.geoms before ∙ same_rows (map class_row t.topology.geoms);
    with_providers = same_rows t.topology.providers;
    diskless = tt;
    fresh = tt;
    next_consumer = not_less;
    next_provider = none_more;
  }
    where
      changed : List (Geom Config) → List (Geom Config)
      changed gs = change_where (λ x. x.number == geom) (λ x. record x { config = config }) gs

      row : (x : Geom Config) (b : Bool) → (b ≡ true → disk_of x.config ≡ None)
          → class_row (if b then record x { config = config } else x) ≡ class_row x
      row x true was = ap (λ d. let r : ℕ × (Kind × Option ℕ) = (x.number, (x.kind, d)) in r) (none ∙ sym (was refl))
      row x false was = refl

      rows : (gs : List (Geom Config))
          → AllByRecursion (λ (x : Geom Config). (x.number == geom) ≡ true → disk_of x.config ≡ None) gs
          → map class_row (change_where (λ x. x.number == geom) (λ x. record x { config = config }) gs)
          ≡ map class_row gs
      rows [] was = refl
      rows (x ∷ xs) was = search (rules, ap (λ rs. class_row x ∷ rs) (rows xs was.1))

-- What is accepted

-- so many providers may come at most
abbrev pub most : ℕ
most = MAX_LINKS

-- a growth by few providers
pub record GrowsFew (t u : TopoView Config) : Type 0 where
  pub grows : Grows t u
  pub few : length grows.providers ≤ most

-- in another room
pub few-roomed : (t u v : TopoView Config) → v ≡ record u { room = v.room } → GrowsFew t u → GrowsFew t v
few-roomed t u v same g =
    subst (λ (x : TopoView Config). GrowsFew t x) (sym same)
    (record {
      grows = search rules;
      few = g.few;
    })

-- so of what may be made
abbrev pub AllGrow : TopoView Config → Option QueuedMesh → Type 0
AllGrow t made = IfSome made (λ m. GrowsFew t m.mesh)

-- what is made if something holds
made-if : (b : Bool) (t : TopoView Config) (m : QueuedMesh) → GrowsFew t m.mesh → AllGrow t (if b then Some m else None)
made-if true t m grown = grown
made-if false t m grown = tt

-- one more provider where none came yet
one-more : (t : TopoView Config) (m : QueuedMesh) (g : Grows t m.mesh) → length g.providers ≡ 0
    → (geom : ℕ) (name : List ℕ) (size sector : ℕ) → GrowsFew t (with_offer m geom name size sector).mesh
unfolding grows-on provider-grows
one-more t m g none geom name size sector = record {
  grows =
      grows-on t m.mesh (with_offer m geom name size sector).mesh g (provider-grows m.mesh geom name size sector);
  few =
      let all : length (g.providers ++ new_provider m.mesh.topology geom name size sector ∷ [])
      ≡ length g.providers + 1 =
      length-append g.providers (new_provider m.mesh.topology geom name size sector ∷ []) in
      let so : length (g.providers ++ new_provider m.mesh.topology geom name size sector ∷ []) ≤ MAX_LINKS =
      omega (arith, all, none) in
      so;
}

-- providers of slices: as many as there are
record GrowsBy (t u : TopoView Config) (n : ℕ) : Type 0 where
  grows : Grows t u
  number : length grows.providers ≡ n

-- each slice makes one provider
slices-grow : (t : TopoView Config) (geom : ℕ) (slices : List NewSlice) (m : QueuedMesh) (n : ℕ)
    → GrowsBy t m.mesh n → GrowsBy t (with_slices_of m geom slices).mesh (n + length slices)
unfolding grows-on provider-grows
slices-grow t geom [] m n g = record {
  grows = g.grows;
  number = let was : length g.grows.providers ≡ n = g.number in omega (arith, was);
}
slices-grow t geom (x ∷ slices) m n g =
    let more : Provider = new_provider m.mesh.topology geom x.name x.size 512 in
    let one : GrowsBy t (with_offer m geom x.name x.size 512).mesh (n + 1) = record {
      grows =
          grows-on t m.mesh (with_offer m geom x.name x.size 512).mesh g.grows
          (provider-grows m.mesh geom x.name x.size 512);
      number = length-append g.grows.providers (more ∷ []) ∙ ap (λ k. k + 1) g.number;
    } in
    let all : GrowsBy t (with_slices_of (with_offer m geom x.name x.size 512) geom slices).mesh
    (n + 1 + length slices) =
    slices-grow t geom slices (with_offer m geom x.name x.size 512) (n + 1) one in
    let sum : n + 1 + length slices ≡ n + length (x ∷ slices) = omega arith in
    subst (GrowsBy t (with_slices_of (with_offer m geom x.name x.size 512) geom slices).mesh) sum all

-- a place that is filled doesn't make a geom one of a disk
fill-disk : (config : Config) (k c size : ℕ) → disk_of (fill_place config k c size) ≡ disk_of config
fill-disk (Disk disk) k c size = refl
fill-disk _ k c size = refl

-- a shape whose table has few parts
abbrev pub IsShort : Shape → Type 0
IsShort (Slices table) = length table.slices ≤ most
IsShort (Logical table) = length table.parts ≤ most
IsShort shape = Unit {0}

module _ (m : QueuedMesh) where
  abbrev t : TopoView Config
  t = m.mesh

  -- a geom over a provider
  over-grows : (p : ℕ) (kind : Kind) (name : List ℕ) (config : Config) → disk_of config ≡ None
      → GrowsBy t (over m p kind name config).mesh 0
  unfolding grows-on geom-grows consumer-grows
  over-grows p kind name config none = record {
    grows =
        grows-on t (with_geom t kind name config true) (over m p kind name config).mesh
        (geom-grows t kind name config true none)
        (consumer-grows (with_geom t kind name config true) t.topology.next_geom p);
    number = refl;
  }

  -- a table
  sliced-grows : (p : ℕ) (kind : Kind) (name : List ℕ) (config : Config) (slices : List NewSlice)
      → disk_of config ≡ None → length slices ≤ MAX_LINKS → AllGrow t (sliced m p kind name config slices)
  sliced-grows p kind name config slices none few =
      let all : GrowsBy t (with_slices_of (over m p kind name config) t.topology.next_geom slices).mesh
      (0 + length slices) =
      slices-grow t t.topology.next_geom slices (over m p kind name config) 0 (over-grows p kind name config none) in
      made-if (are_names_free t.topology (map (λ (x : NewSlice). x.name) slices)) t
      (with_slices_of (over m p kind name config) t.topology.next_geom slices)
      (record { grows = all.grows; few = let is = all.number in omega (arith, is, few) })

  -- a label
  labelled-grows : (p : Provider) (name : List ℕ) → AllGrow t (labelled m p name)
  labelled-grows p name =
      let below : QueuedMesh = over m p.number kinds.Label p.name (Label (Some t.topology.next_consumer)) in
      let g : GrowsBy t below.mesh 0 =
      over-grows p.number kinds.Label p.name (Label (Some t.topology.next_consumer)) refl in
      made-if (are_names_free t.topology (name ∷ [])) t
      (with_offer below t.topology.next_geom name (p.size - p.sector) p.sector)
      (one-more t below g.grows g.number t.topology.next_geom name (p.size - p.sector) p.sector)

-- a place of an assembly that is taken
finished-grows : (t : TopoView Config) (m : QueuedMesh) (g : GrowsBy t m.mesh 0) (geom : ℕ) (config : Config)
    (name : List ℕ) (sector : ℕ) → AllGrow t (finished m geom config name sector)
finished-grows t m g geom config name sector =
    search (
      rules,
      made-if (are_names_free m.mesh.topology (name ∷ [])) t (with_offer m geom name (joined_size config) sector)
          (one-more t m g.grows g.number geom name (joined_size config) sector),
    )

-- and after it the provider, once all places are filled
joined-grows : (t : TopoView Config) (m : QueuedMesh) (g : GrowsBy t m.mesh 0) (p : Provider) (geom : ℕ)
    (config : Config) (place : ℕ) (name : List ℕ) → disk_of config ≡ None → OfNoDisk m.mesh geom
    → AllGrow t (joined m p geom config place name)
unfolding grows-on consumer-grows config-grows
joined-grows t m g p geom config place name none before = by (list_all is_some (places_of filled))
  where
    filled : Config
    filled = fill_place config place m.mesh.topology.next_consumer (p.size - p.sector)

    with_place : GrowsBy t (placed m p.number geom filled).mesh 0
    with_place =
        let attached : Grows t (with_attached m.mesh geom p.number) =
        grows-on t m.mesh (with_attached m.mesh geom p.number) g.grows (consumer-grows m.mesh geom p.number) in
        record {
          grows =
              grows-on t (with_attached m.mesh geom p.number) (placed m p.number geom filled).mesh attached
              (config-grows (with_attached m.mesh geom p.number) geom filled
              (fill-disk config place m.mesh.topology.next_consumer (p.size - p.sector) ∙ none) before);
          number = ap length (append-nil (g.grows.providers ++ []) ∙ append-nil g.grows.providers) ∙ g.number;
        }

    by : (b : Bool)
        → AllGrow t
        (if b then finished (placed m p.number geom filled) geom filled name p.sector
        else Some (placed m p.number geom filled))
    by true = finished-grows t (placed m p.number geom filled) with_place geom filled name p.sector
    by false = record {
      grows = with_place.grows;
      few = let none_came = with_place.number in omega (arith, none_came);
    }

module _ (m : QueuedMesh) (order : IsInOrder m.mesh.topology) (p : Provider) where
  -- nothing came yet
  nothing : GrowsBy m.mesh m.mesh 0
  nothing = record {
    grows = search (
      rules,
      append-nil m.mesh.topology.consumers,
      append-nil (map class_row m.mesh.topology.geoms),
      append-nil m.mesh.topology.providers,
    );
    number = refl;
  }

  module _ (x : Member) (none : disk_of x.empty ≡ None) where
    -- a new geom is the only one of its number
    new-no_disk : OfNoDisk (with_geom m.mesh x.kind x.geom_name x.empty true) m.mesh.topology.next_geom
    new-no_disk =
        all_appended (λ (y : Geom Config). (y.number == m.mesh.topology.next_geom) ≡ true → disk_of y.config ≡ None)
        m.mesh.topology.geoms (new_geom m.mesh.topology x.kind x.geom_name x.empty true ∷ [])
        (all_weaker (λ (y : Geom Config). y.number ≡ m.mesh.topology.next_geom → ⊥)
        (λ y. (y.number == m.mesh.topology.next_geom) ≡ true → disk_of y.config ≡ None)
        (λ y apart same. absurd (apart (eqb-true y.number m.mesh.topology.next_geom same))) m.mesh.topology.geoms
        (recursion_from_All (λ (y : Geom Config). y.number ≡ m.mesh.topology.next_geom → ⊥) m.mesh.topology.geoms
        (free_of (λ (y : Geom Config). y.number) m.mesh.topology.geoms m.mesh.topology.next_geom order.geoms.1)))
        ((λ same. none), tt)

    -- the standing geom is an assembly
    standing-disk : (g : Geom Config) → standing_geom m.mesh.topology x.geom_name x.empty ≡ Some g
        → disk_of g.config ≡ None
    standing-disk g found =
        let passes : (g.automatic && (not g.withering && (same_name g.name x.geom_name
        && is_same_assembly g.config x.empty))) ≡ true =
        find_passes (λ (y : Geom Config). y.automatic && (not y.withering && (same_name y.name x.geom_name
        && is_same_assembly y.config x.empty))) m.mesh.topology.geoms g found in
        let one = and_parts g.automatic _ passes in
        search rules

    -- it is the only geom of its number
    standing-no_disk : (g : Geom Config) → standing_geom m.mesh.topology x.geom_name x.empty ≡ Some g
        → OfNoDisk m.mesh g.number
    standing-no_disk g found =
        let each : EachIsFound Config = each-found in
        let at : geom_at m.mesh.topology g.number ≡ Some g =
        at_contained (λ (y : Geom Config). geom_at m.mesh.topology y.number ≡ Some y) m.mesh.topology.geoms g
        (each.geoms m.mesh.topology order)
        (find-Contains (λ (y : Geom Config). y.automatic && (not y.withering && (same_name y.name x.geom_name
        && is_same_assembly y.config x.empty))) m.mesh.topology.geoms g found) in
        all_weaker (λ (y : Geom Config). geom_at m.mesh.topology y.number ≡ Some y)
        (λ y. (y.number == g.number) ≡ true → disk_of y.config ≡ None)
        (λ y here same.
        let both : Some y ≡ Some g =
        sym here ∙ ap (geom_at m.mesh.topology) (eqb-true y.number g.number same) ∙ at in
        let it : y ≡ g = cc in
        ap (λ (z : Geom Config). disk_of z.config) it ∙ standing-disk g found) m.mesh.topology.geoms
        (each.geoms m.mesh.topology order)

    -- a place in the standing geom, or in a new one
    joined_at-grows : (o : Option (Geom Config)) → standing_geom m.mesh.topology x.geom_name x.empty ≡ o
        → AllGrow m.mesh (joined_at m p x o)
    unfolding geom-grows
    joined_at-grows None e =
        joined-grows m.mesh (record m { mesh = with_geom m.mesh x.kind x.geom_name x.empty true })
        (record { grows = geom-grows m.mesh x.kind x.geom_name x.empty true none; number = refl })
        p m.mesh.topology.next_geom x.empty x.place x.name none new-no_disk
    joined_at-grows (Some g) e = by (can_join m.mesh.topology p g x.place)
      where
        by : (b : Bool) → AllGrow m.mesh (if b then joined m p g.number g.config x.place x.name else None)
        by true =
            joined-grows m.mesh m nothing p g.number g.config x.place x.name (standing-disk g e) (standing-no_disk g e)
        by false = tt

    -- so of a member
    member-grows : AllGrow m.mesh (with_member m p x)
    member-grows = joined_at-grows (standing_geom m.mesh.topology x.geom_name x.empty) refl

  -- whatever a class accepts
  pub accepted-grows : (shape : Shape) → IsShort shape → AllGrow m.mesh (accepted m p shape)
  accepted-grows (Slices table) few =
      sliced-grows m p.number kinds.Mbr p.name (Mbr (Some m.mesh.topology.next_consumer) table.slices)
      (new_slices p.name table.slices) refl
      (let less = new_few (slice_name p.name) (λ (x : Slice). x.count) 0 table.slices in omega (arith, less, few))
  accepted-grows (Logical table) few =
      sliced-grows m p.number kinds.Ebr p.name (Ebr (Some m.mesh.topology.next_consumer) table.parts)
      (new_parts p.name table.parts) refl
      (let less = new_few (logical_name p.name) (λ (x : EbrPart). x.count) 0 table.parts in omega (arith, less, few))
  accepted-grows (Named found) few = labelled-grows m p (label_name found.name)
  accepted-grows (Joined found) few = member-grows (concat_member found) refl
  accepted-grows (Striped found) few = member-grows (stripe_member found) refl
