-- Meshes stay built.
use Rattle.std.specs.Prelude.{◌≡◌, ℕ, ◌==◌, Bool, true, false, List, [], ◌∷◌, map, find, Option, Some, None, Contains, IsSome, is_some, option_map, not, if◌then◌else◌}
use Rattle.std.proofs.Common.{refl, sym, ◌∙◌, ap, subst, inl, inr, eq-eqb}
use Rattle.std.proofs.lemmas.Bool.{cases_eq, ne_eqb}
use Rattle.std.proofs.lemmas.List.Elements.{All-contains, Contains-push_cases}
use Rattle.geo_base.specs.declared.kind.Kind.{Kind}
use Rattle.geo_model.specs.Words.{is_granted_kind}
use Rattle.geo_model.specs.Topology.{Topology, Provider, Consumer, add_consumer, attach}
use Rattle.geo_mesh.specs.Topo.{TopoView, first_mesh, with_geom, with_provider, with_consumer, with_topology, IsButForRoom}
use Rattle.geo_laws_graph.proofs.Members.{Origin, map-Contains, nothing_in}
use Rattle.geo_laws_counts.proofs.LimitFacts.{all_of}
use Rattle.geo_access.specs.Access.{IsCounted, IsQuiet}
use Rattle.geo_access.specs.ShutLaws.{MeshesStayShut, ShutMeshesAreCounted}
use Rattle.geo_access.proofs.Shut.{meshes_stay_shut, shut_meshes_are_counted}
use Rattle.geo_tests_core.specs.Built.{ConsumersAreAttached, IsBuilt}

-- the first mesh is built
pub first_built : {C : Type 0} (t : TopoView C) (dev taste : C) → t ≡ first_mesh dev taste t.room → IsBuilt t
first_built t dev taste is =
    subst IsBuilt (sym is)
    (record {
      shut = MeshesStayShut.first meshes_stay_shut dev taste t.room;
      attached = all_of (λ (c : Consumer). IsSome c.provider) [] (λ c there. absurd (nothing_in c there));
    })

-- with a geom
pub geom_built : {C : Type 0} (t new : TopoView C) (kind : Kind) (name : List ℕ) (config : C) (automatic : Bool)
    → is_granted_kind kind ≡ false
    → IsButForRoom new (with_geom t kind name config automatic) → IsBuilt t → IsBuilt new
geom_built {C} t new kind name config automatic other is built = record {
  shut = MeshesStayShut.geom meshes_stay_shut t new kind name config automatic other is built.shut;
  attached = subst (λ (v : TopoView C). ConsumersAreAttached v.topology) (sym is) built.attached;
}

-- with a provider
pub provider_built : {C : Type 0} (t new : TopoView C) (geom : ℕ) (name : List ℕ) (size sector : ℕ)
    → IsButForRoom new (with_provider t geom name size sector) → IsBuilt t → IsBuilt new
provider_built {C} t new geom name size sector is built = record {
  shut = MeshesStayShut.provider meshes_stay_shut t new geom name size sector is built.shut;
  attached = subst (λ (v : TopoView C). ConsumersAreAttached v.topology) (sym is) built.attached;
}

-- a consumer, attached where it has the number
abbrev put : ℕ → ℕ → Consumer → Consumer
put n p y = if y.number == n then record y { provider = Some p } else y

-- where a consumer is made and attached, each one is
pub comer_attached : {C : Type 0} (t : Topology C) (geom p : ℕ) → ConsumersAreAttached t
    → ConsumersAreAttached (attach (add_consumer t geom None) t.next_consumer p)
comer_attached {C} t geom p before =
    all_of (λ (c : Consumer). IsSome c.provider) (attach (add_consumer t geom None) t.next_consumer p).consumers
    (λ c there.
    let from_one : Origin (λ y. put t.next_consumer p y ≡ c) (add_consumer t geom None).consumers =
    map-Contains (put t.next_consumer p) (add_consumer t geom None).consumers c there in
    subst (λ (x : Consumer). IsSome x.provider) from_one.fact (by from_one.item from_one.stands))
  where
    same_one : (y : Consumer) → y.number ≡ t.next_consumer → IsSome (put t.next_consumer p y).provider
    same_one y same =
        subst (λ (x : Consumer). IsSome x.provider)
        (sym (ap (λ b. if b then record y { provider = Some p } else y)
        (eq-eqb y.number t.next_consumer same))) refl

    by : (y : Consumer) → Contains (add_consumer t geom None).consumers y → IsSome (put t.next_consumer p y).provider
    by y there =
        elim (cases_eq y.number t.next_consumer) [
          | inl same ↦ same_one y same
          | inr other ↦
              subst (λ (x : Consumer). IsSome x.provider)
              (sym (ap (λ b. if b then record y { provider = Some p } else y)
              (ne_eqb y.number t.next_consumer other)))
              (elim (Contains-push_cases t.consumers (record {
                number = t.next_consumer;
                geom = geom;
                provider =
                    None;
                spoiled = false;
              }) y there) [
                | inl old ↦ All-contains (λ (c : Consumer). IsSome c.provider) t.consumers y before old
                | inr new ↦ absurd (other (ap (λ (x : Consumer). x.number) (sym new)))
              ])
        ]

-- with a consumer made and attached
pub consumer_built : {C : Type 0} (t mid : TopoView C) (geom p : ℕ)
    → IsButForRoom mid (with_consumer t geom) → IsBuilt t
    → IsBuilt (with_topology mid (attach mid.topology t.topology.next_consumer p))
consumer_built {C} t mid geom p is built = record {
  shut = MeshesStayShut.attached meshes_stay_shut mid t.topology.next_consumer p
      (MeshesStayShut.consumer meshes_stay_shut t mid geom is built.shut);
  attached =
      subst (λ (v : TopoView C). ConsumersAreAttached (attach v.topology t.topology.next_consumer p)) (sym is)
      (comer_attached t.topology geom p built.attached);
}

-- nothing is noted where no note is found
quiet_rows : {X : Type 0} (key : X → ℕ) (rows : List (ℕ × Bool)) (xs : List X) → map (λ row. row.0) rows ≡ map key xs
    → option_map (λ (row : ℕ × Bool). row.0) (find (λ (row : ℕ × Bool). row.1) rows) ≡ None
    → rows ≡ map (λ x. (key x, false)) xs
quiet_rows key [] [] keys none = refl
quiet_rows key [] (x ∷ xs) keys none = absurd (cc)
quiet_rows key (row ∷ rows) [] keys none = absurd (cc)
quiet_rows {X} key (row ∷ rows) (x ∷ xs) keys none =
    let first : row.0 ≡ key x = cc in
    let rest : map (λ (r : ℕ × Bool). r.0) rows ≡ map key xs = cc in
    by row.1 refl none first (quiet_rows key rows xs rest)
  where
    by : (b : Bool) → row.1 ≡ b
        → option_map (λ (r : ℕ × Bool). r.0) (if b then Some row else find (λ (r : ℕ × Bool). r.1) rows) ≡ None
        → row.0 ≡ key x
        → (option_map (λ (r : ℕ × Bool). r.0) (find (λ (r : ℕ × Bool). r.1) rows) ≡ None
        → rows ≡ map (λ y. (key y, false)) xs)
        → row ∷ rows ≡ map {B = ℕ × Bool} (λ y. (key y, false)) (x ∷ xs)
    by true e never first so = absurd (cc)
    by false e rest first so =
        let P : ℕ → Bool → ℕ × Bool = λ m b. (m, b) in
        ap (λ rs. row ∷ rs) (so rest)
        ∙ ap (λ r. r ∷ map {B = ℕ × Bool} (λ y. (key y, false)) xs) (ap (λ m. P m row.1) first ∙ ap (P (key x)) e)

-- so a mesh without a note is quiet
pub quiet_found : {C : Type 0} (t : TopoView C) → IsCounted t
    → option_map (λ (row : ℕ × Bool). row.0) (find (λ (row : ℕ × Bool). row.1) t.risen) ≡ None
    → option_map (λ (row : ℕ × Bool). row.0) (find (λ (row : ℕ × Bool). row.1) t.fallen) ≡ None → IsQuiet t
quiet_found t counted risen fallen = record {
  risen = quiet_rows (λ (p : Provider). p.number) t.risen t.topology.providers counted.risen risen;
  fallen = quiet_rows (λ (p : Provider). p.number) t.fallen t.topology.providers counted.fallen fallen;
}

-- where a new consumer of a mesh has joined, each one is attached
pub joined_attached : {C : Type 0} (t mid : TopoView C) (geom p : ℕ) → IsButForRoom mid (with_consumer t geom)
    → ConsumersAreAttached t.topology
    → ConsumersAreAttached (attach mid.topology t.topology.next_consumer p)
joined_attached {C} t mid geom p is before =
    subst (λ (v : TopoView C). ConsumersAreAttached (attach v.topology t.topology.next_consumer p)) (sym is)
    (comer_attached t.topology geom p before)

-- nothing is there where nothing is said to be
pub none_said : {X : Type 0} (o : Option X) (b : Bool) → is_some o ≡ not b → b ≡ true → o ≡ None
none_said None b is e = refl
none_said (Some x) b is e = let no : true ≡ false = is ∙ ap not e in absurd (cc)

-- a built mesh has its counts
pub built_counted : {C : Type 0} (t : TopoView C) → IsBuilt t → IsCounted t
built_counted t built = ShutMeshesAreCounted.counted shut_meshes_are_counted t built.shut
