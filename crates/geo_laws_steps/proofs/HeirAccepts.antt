-- What an accepted shape makes: each part is new or stood before, where geoms without providers may change.
use Rattle.std.specs.Prelude.{◌≡◌, ◌⊎◌, ℕ, zero, suc, ◌-◌, ◌≤◌, ◌==◌, Bool, true, false, not, ◌&&◌, List, [], ◌∷◌, length, map, Option, Some, None, Contains, IfSome, is_some, is_none, slice_get, slice_set, if◌then◌else◌}
use Rattle.std.specs.List.{list_all, list_any}
use Rattle.std.specs.Option.{option_flatten}
use Rattle.std.proofs.Common.{inl, inr, refl, sym, ◌∙◌, ap, subst, arith}
use Rattle.std.proofs.lemmas.Bool.{and_parts, eqb-true}
use Rattle.std.proofs.lemmas.List.Elements.{All-contains}
use Rattle.std.proofs.lemmas.Slice.Zip.{AllZip-long}
use Rattle.std.proofs.lemmas.List.{set_past}
use Rattle.geo_base.specs.declared.kind.Kind.{Kind}
use Rattle.geo_base.specs.declared.kind.Kind.TheVariants as kinds
use Rattle.geo_model.specs.declared.class.Shape.{Shape}
use Rattle.geo_model.specs.declared.class.Shape.TheVariants.{Slices, Logical, Named, Joined, Striped}
use Rattle.geo_model.specs.Words.{same_name}
use Rattle.geo_model.specs.Names.{label_name}
use Rattle.geo_model.specs.Topology.{Topology, Geom, Provider, geom_at, add_geom, add_consumer}
use Rattle.geo_model.specs.World.{World, Config, Mbr, Ebr, Label, Concat, Stripe}
use Rattle.geo_model.specs.Events.{QueuedTopology, offer}
use Rattle.geo_model.specs.WorldEvents.{queued_of}
use Rattle.geo_model.specs.Acceptance.{NewSlice, new_slices, new_parts, are_names_free, with_geom_over, with_slices, accept_slices, with_label, accept_named, is_same_assembly, standing_geom, places_of, fill_place, joined_size, is_size, if_free, providers_at, finish, with_place, join_place, can_join, Member, concat_member, stripe_member, join_at, accept_member, accept}
use Rattle.geo_model.specs.Steady.{WaitsForPlaces}
use Rattle.geo_model.specs.Fitting.{FitsPlace, FitsPlaces, sizes_of, Firm}
use Rattle.geo_laws_graph.proofs.Members.{find-Contains}
use Rattle.geo_laws_graph.proofs.Lists.{found_itself}
use Rattle.geo_laws_graph.proofs.Living.{sound-order}
use Rattle.geo_laws_life.proofs.Found.{one-found}
use Rattle.geo_laws_steps.specs.Heirs.{IsBare}
use Rattle.geo_laws_steps.proofs.Heirs.{inherits-same, heir-config, heir-geom, heir-consumer}
use Rattle.geo_laws_steps.proofs.HeirQueues.{Comes, comes-offer, comes-offers}

-- Places

-- where all places are full, one that nobody fills is past the end
past_full : (places : List (Option ℕ)) (k : ℕ) → list_any is_none places ≡ false
    → is_none (option_flatten (slice_get places k)) ≡ true → length places ≤ k
past_full [] k full free = omega arith
past_full (None ∷ places) k full free = absurd (let no : ⊥ = cc in no)
past_full (Some c ∷ places) zero full free = absurd (let no : ⊥ = cc in no)
past_full (Some c ∷ places) (suc k) full free = let rest = past_full places k full free in omega (arith, rest)

-- a place past the end changes no configuration
fill_past : (config : Config) (k c size : ℕ) → length (places_of config) ≤ k → length (sizes_of config) ≤ k
    → fill_place config k c size ≡ config
fill_past (Concat id places sizes) k c size a b =
    ap (λ ps. Concat id ps (slice_set sizes k size)) (set_past places k (Some c) a)
    ∙ ap (λ ns. Concat id places ns) (set_past sizes k size b)
fill_past (Stripe id stripe places sizes) k c size a b =
    ap (λ ps. Stripe id stripe ps (slice_set sizes k size)) (set_past places k (Some c) a)
    ∙ ap (λ ns. Stripe id stripe places ns) (set_past sizes k size b)
fill_past _ k c size a b = refl

module _ (T : ℕ → Type 0) (t : Topology Config) where
  -- what is made where something passes
  where-made : (r : QueuedTopology Config) (b : Bool) → Comes T t r
      → IfSome (if b then Some r else None) (Comes T t)
  where-made r true comes = comes
  where-made r false comes = tt

  module _ (q : QueuedTopology Config) (before : Comes T t q) (p : Provider) where
    -- a geom over the provider
    over-comes : (kind : Kind) (config : Config) → Comes T t (with_geom_over q p kind config)
    over-comes kind config =
        heir-consumer T t (add_geom q.topology kind p.name config true)
        (heir-geom T t q.topology before kind p.name config true) q.topology.next_geom (Some p.number)

    -- with its slices
    slices-come : (kind : Kind) (config : Config) (xs : List NewSlice)
        → IfSome (accept_slices q p kind config xs) (Comes T t)
    slices-come kind config xs =
        where-made (with_slices q p kind config xs)
        (are_names_free q.topology (map (λ (x : NewSlice). x.name) xs))
        (comes-offers T t q.topology.next_geom 512 xs (with_geom_over q p kind config) (over-comes kind config))

    -- with the provider of a label
    named-comes : (name : List ℕ) → IfSome (accept_named q p name) (Comes T t)
    named-comes name =
        let config : Config = Label (Some q.topology.next_consumer) in
        where-made (with_label q p name) (are_names_free q.topology (name ∷ []))
        (comes-offer T t (with_geom_over q p kinds.Label config) q.topology.next_geom name
        (p.size - p.sector) p.sector
        (over-comes kinds.Label config))

    -- the geom of a place that is filled may have the configuration
    abbrev MayBe : ℕ → Config → Type 0
    MayBe g config =
        (y : Geom Config) → Contains q.topology.geoms y → (y.number == g) ≡ true
        → (t.next_geom ≤ y.number) ⊎ ((T y.number → ⊥) → config ≡ y.config)

    -- all places are filled, or not
    filled-comes : (g : ℕ) (filled : Config) (name : List ℕ) → MayBe g filled → (b : Bool)
        → IfSome
        (if b then finish (with_place q p g filled) g filled name p.sector else Some (with_place q p g filled))
        (Comes T t)
    filled-comes g filled name may true = sized (is_size (joined_size filled)) where
      -- the provider is made, or not
      sized : (b : Bool)
          → IfSome (if b
          then if_free (with_place q p g filled).topology (name ∷ [])
          (offer (with_place q p g filled) g name (joined_size filled) p.sector)
          else None) (Comes T t)
      sized true =
          let r : QueuedTopology Config = with_place q p g filled in
          where-made (offer r g name (joined_size filled) p.sector) (are_names_free r.topology (name ∷ []))
          (comes-offer T t r g name (joined_size filled) p.sector
          (heir-config T t (add_consumer q.topology g (Some p.number))
          (heir-consumer T t q.topology before g (Some p.number)) g filled may))
      sized false = tt
    filled-comes g filled name may false =
        heir-config T t (add_consumer q.topology g (Some p.number))
        (heir-consumer T t q.topology before g (Some p.number)) g filled may

    -- the provider takes its place
    place-comes : (g : ℕ) (config : Config) (place : ℕ) (name : List ℕ)
        → MayBe g (fill_place config place q.topology.next_consumer (p.size - p.sector))
        → IfSome (join_place q p g config place name) (Comes T t)
    place-comes g config place name may =
        let filled : Config = fill_place config place q.topology.next_consumer (p.size - p.sector) in
        filled-comes g filled name may (list_all is_some (places_of filled))

module _ (w : World) (firm : Firm w) (p : Provider) where
  -- the graph, with the queue
  abbrev t : Topology Config
  t = w.topology

  -- with the queue
  abbrev q : QueuedTopology Config
  q = queued_of w

  -- a standing geom with a place that nobody fills has no provider, or the place is past its end
  stands_bare : (g : Geom Config) → Contains t.geoms g → (k c size : ℕ)
      → is_none (option_flatten (slice_get (places_of g.config) k)) ≡ true → (b : Bool)
      → list_any is_none (places_of g.config) ≡ b → (IsBare t g.number → ⊥)
      → fill_place g.config k c size ≡ g.config
  stands_bare g here k c size free true some touched =
      absurd (touched (All-contains (WaitsForPlaces t) t.geoms g firm.graph.partial here some))
  stands_bare g here k c size free false full touched =
      let past = past_full (places_of g.config) k full free in
      let same = AllZip-long (FitsPlace t g.number) (places_of g.config) (sizes_of g.config)
      (All-contains (FitsPlaces t) t.geoms g firm.sizes.places here) in
      fill_past g.config k c size past (omega (arith, past, same))

  -- so its configuration may become that with the place filled
  stands_may : (g : Geom Config) → Contains t.geoms g → (k c size : ℕ)
      → is_none (option_flatten (slice_get (places_of g.config) k)) ≡ true
      → MayBe (IsBare t) t q (inherits-same (IsBare t) t) p g.number (fill_place g.config k c size)
  stands_may g here k c size free y stands number =
      let order = sound-order w firm.graph.numbers in
      let at : geom_at t g.number ≡ Some y =
      subst (λ n. geom_at t n ≡ Some y) (eqb-true y.number g.number number)
      (found_itself (λ (x : Geom Config). x.number) t.next_geom t.geoms y order.geoms stands) in
      let one : g ≡ y = one-found (geom_at t g.number) g y
      (found_itself (λ (x : Geom Config). x.number) t.next_geom t.geoms g order.geoms here) at in
      inr (λ touched.
      stands_bare g here k c size free (list_any is_none (places_of g.config)) refl
      (subst (λ (z : Geom Config). IsBare t z.number → ⊥) (sym one) touched)
      ∙ ap (λ (z : Geom Config). z.config) one)

  -- a new geom may have any
  new_may : (kind : Kind) (name : List ℕ) (empty config : Config)
      → MayBe (IsBare t) t (record q { topology = add_geom t kind name empty true })
      (heir-geom (IsBare t) t t (inherits-same (IsBare t) t) kind name empty true) p t.next_geom config
  new_may kind name empty config y stands number =
      let is = eqb-true y.number t.next_geom number in inl (omega (arith, is))

  -- a place in an assembly, by what stands
  join-comes : (m : Member) (o : Option (Geom Config)) → standing_geom t m.geom_name m.empty ≡ o
      → IfSome (join_at q p m o) (Comes (IsBare t) t)
  join-comes m None e =
      let base : Topology Config = add_geom t m.kind m.geom_name m.empty true in
      place-comes (IsBare t) t (record q { topology = base })
      (heir-geom (IsBare t) t t (inherits-same (IsBare t) t) m.kind m.geom_name m.empty true) p t.next_geom m.empty
      m.place m.name
      (new_may m.kind m.geom_name m.empty (fill_place m.empty m.place t.next_consumer (p.size - p.sector)))
  join-comes m (Some g) e = by (can_join t p g m.place) refl where
    -- whether it can join
    by : (b : Bool) → can_join t p g m.place ≡ b
        → IfSome (if b then join_place q p g.number g.config m.place m.name else None) (Comes (IsBare t) t)
    by true can =
        let parts = and_parts (is_none (option_flatten (slice_get (places_of g.config) m.place)))
        (list_all (λ (x : Provider). x.sector == p.sector) (providers_at t (places_of g.config))) can in
        place-comes (IsBare t) t q (inherits-same (IsBare t) t) p g.number g.config m.place m.name
        (stands_may g
        (find-Contains (λ (x : Geom Config). x.automatic && (not x.withering && (same_name x.name m.geom_name
        && is_same_assembly x.config m.empty))) t.geoms g e)
        m.place t.next_consumer (p.size - p.sector) parts.0)
    by false can = tt

  -- so for a member
  member-comes : (m : Member) → IfSome (accept_member q p m) (Comes (IsBare t) t)
  member-comes m = join-comes m (standing_geom t m.geom_name m.empty) refl

  -- what is accepted
  pub accept-comes : (shape : Shape) → IfSome (accept q p shape) (Comes (IsBare t) t)
  accept-comes (Slices table) =
      slices-come (IsBare t) t q (inherits-same (IsBare t) t) p kinds.Mbr (Mbr (Some t.next_consumer) table.slices)
      (new_slices p.name table.slices)
  accept-comes (Logical table) =
      slices-come (IsBare t) t q (inherits-same (IsBare t) t) p kinds.Ebr (Ebr (Some t.next_consumer) table.parts)
      (new_parts p.name table.parts)
  accept-comes (Named found) =
      named-comes (IsBare t) t q (inherits-same (IsBare t) t) p (label_name found.name)
  accept-comes (Joined found) = member-comes (concat_member found)
  accept-comes (Striped found) = member-comes (stripe_member found)
