-- Where nothing is open.
use Rattle.std.specs.Prelude.{◌≡◌, ◌⊎◌, ℕ, zero, suc, ◌==◌, Bool, true, false, not, ◌&&◌, List, [], ◌∷◌, ◌++◌, length, map, find, Some, None, unwrap_or, option_map, if◌then◌else◌}
use Rattle.std.specs.List.{list_all}
use Rattle.std.proofs.Common.{refl, sym, ◌∙◌, ap, subst, inl, rules}
use Rattle.std.proofs.lemmas.List.Elements.{All-push}
use Rattle.geo_base.proofs.PlaceLists.{row_more}
use Rattle.geo_base.specs.declared.request.Counts.{Counts}
use Rattle.geo_base.specs.declared.kind.Kind.{Kind}
use Rattle.geo_base.specs.declared.kind.Kind.TheVariants as kinds
use Rattle.geo_model.specs.Words.{is_granted_kind}
use Rattle.geo_model.specs.Topology.{Geom, Provider, Consumer, attached_to, attach}
use Rattle.geo_model.specs.Demand.{no_counts, add_counts, sum_counts, is_zero, want_of_kind, want_given, have_within, have, want}
use Rattle.geo_slots.specs.Slots.{value_at}
use Rattle.geo_mesh.specs.declared.records.Scratch.{Scratch}
use Rattle.geo_mesh.specs.Topo.{TopoView, Scratches, Room, no_scratch, first_mesh, with_geom, with_provider, with_consumer, with_topology}
use Rattle.geo_laws_graph.proofs.Lists.{map-changed}
use Rattle.geo_laws_counts.specs.CountWords.{IsAtMost}
use Rattle.geo_laws_counts.specs.LimitLaws.{greatest_counts}
use Rattle.geo_laws_counts.proofs.Sums.{at_most-zero}
use Rattle.geo_access.proofs.Clearing.{rows_agree}
use Rattle.geo_laws_counts.proofs.LimitFacts.{exclusive_from, limit_from}
use Rattle.geo_laws_counts.proofs.Flows.{sum-none}
use Rattle.geo_access.specs.Access.{granted_by, clear_scratches, IsCounted}
use Rattle.geo_access.specs.ShutLaws.{IsShut, ShutMeshesAreCounted, MeshesStayShut}
use Rattle.geo_access.proofs.Granted.{numbers_of}

-- Counts

-- counts that are none are zero
all_zero : (f : Provider → Counts) (ys : List Provider) → ((y : Provider) → f y ≡ no_counts)
    → list_all is_zero (map f ys) ≡ true
all_zero f [] none = refl
all_zero f (y ∷ ys) none = ap (λ a. is_zero a && list_all is_zero (map f ys)) (none y) ∙ all_zero f ys none

-- no exclusive count is added to them
none_added : (f : Provider → Counts) (ys : List Provider) → ((y : Provider) → f y ≡ no_counts)
    → add_counts (sum_counts (map f ys))
    (record { r = 0; w = 0; e = (if not (list_all is_zero (map f ys)) then 1 else 0) }) ≡ no_counts
none_added f ys none =
    ap (λ a. add_counts a (record { r = 0; w = 0; e = (if not (list_all is_zero (map f ys)) then 1 else 0) }))
    (sum-none f ys (λ y there. none y))
    ∙ ap (λ b. add_counts no_counts (record { r = 0; w = 0; e = (if not b then 1 else 0) })) (all_zero f ys none)

-- a consumer of any class wants nothing where no provider has a count, and nothing was granted to it
nothing_wanted : (kind : Kind) (f : Provider → Counts) (ys : List Provider) (grant : Counts)
    → ((y : Provider) → f y ≡ no_counts) → grant ≡ no_counts
    → want_of_kind kind (map f ys) grant ≡ no_counts
nothing_wanted kinds.Dev f ys grant none given = given
nothing_wanted kinds.Taste f ys grant none given = given
nothing_wanted kinds.Disk f ys grant none given = refl
nothing_wanted kinds.Nop f ys grant none given = ap (λ a. add_counts a no_counts) (sum-none f ys (λ y there. none y))
nothing_wanted _ f ys grant none given = none_added f ys none

-- what is found among rows of one value is that value
one_value : {X V : Type 0} (key : X → ℕ) (v : V) (n : ℕ) (xs : List X)
    → unwrap_or (value_at (map (λ x. let row : ℕ × V = (key x, v) in row) xs) n) v ≡ v
one_value key v n [] = refl
one_value {X} {V} key v n (x ∷ xs) = by (key x == n) (one_value key v n xs)
  where
    by : (b : Bool) → unwrap_or (value_at (map (λ y. let row : ℕ × V = (key y, v) in row) xs) n) v ≡ v
        → unwrap_or (option_map (λ (row : ℕ × V). row.1)
        (if b then Some (key x, v) else find (λ (row : ℕ × V). row.0 == n)
        (map (λ y. let row : ℕ × V = (key y, v) in row) xs))) v ≡ v
    by true so = refl
    by false so = so

module _ {C : Type 0} (t : TopoView C) (shut : IsShut t) where
  -- nothing is granted
  no_grant : (n : ℕ) → granted_by t n ≡ no_counts
  no_grant n = search (rules, one_value (λ (c : Consumer). c.number) no_counts n t.topology.consumers)

  -- so nothing is wanted where no provider has a count
  wants_none : (H : ℕ → Counts) → ((n : ℕ) → H n ≡ no_counts) → (c : Consumer)
      → want_given (granted_by t) H t.topology c ≡ no_counts
  wants_none H none c = search (rules, nothing_wanted, no_grant c.number)

  -- and no provider has one
  haves_none : (k q : ℕ) → have_within (granted_by t) k t.topology q ≡ no_counts
  haves_none zero q = refl
  haves_none (suc k) q =
      sum-none (want_given (granted_by t) (have_within (granted_by t) k t.topology) t.topology)
      (attached_to t.topology q)
      (λ c there. wants_none (have_within (granted_by t) k t.topology) (haves_none k) c)

  no_have : (q : ℕ) → have (granted_by t) t.topology q ≡ no_counts
  no_have q = haves_none (length t.topology.geoms) q

  no_want : (c : Consumer) → want (granted_by t) t.topology c ≡ no_counts
  no_want c = wants_none (have (granted_by t) t.topology) no_have c

  -- so all counts are kept
  shut_counted : IsCounted t
  shut_counted =
      search (
        rules,
        rows_agree (λ (p : Provider). p.number) (λ (p : Provider). no_counts)
            (λ (p : Provider). have (granted_by t) t.topology p.number) t.topology.providers
            (λ p there. sym (no_have p.number)),
        rows_agree (λ (c : Consumer). c.number) (λ (c : Consumer). no_counts) (want (granted_by t) t.topology)
            t.topology.consumers (λ c there. sym (no_want c)),
        exclusive_from (granted_by t) t.topology
            (λ z a b there at bt apart. inl (ap (λ (x : Counts). x.w) (no_want a))),
        limit_from (granted_by t) t.topology
            (λ z there. subst (λ a. IsAtMost a greatest_counts) (sym (no_have z.number))
            (at_most-zero greatest_counts)),
        ap (map (λ row. row.0)) shut.risen,
        numbers_of (λ (p : Provider). p.number) (λ (p : Provider). false) t.topology.providers,
        ap (map (λ row. row.0)) shut.fallen,
      )

-- where nothing is open all counts are kept
pub shut_meshes_are_counted : {C : Type 0} → ShutMeshesAreCounted C
shut_meshes_are_counted = record {
  counted = λ t shut. shut_counted t shut;
  quiet = λ t shut. record { risen = shut.risen; fallen = shut.fallen };
}

-- Changes

module _ {C : Type 0} (t : TopoView C) (shut : IsShut t) (room : Room) where
  -- with a geom of another class
  geom_shut : (kind : Kind) (name : List ℕ) (config : C) (automatic : Bool) → is_granted_kind kind ≡ false
      → IsShut (record (with_geom t kind name config automatic) { room = room })
  geom_shut kind name config automatic other =
      let made : Geom C = record {
        number = t.topology.next_geom;
        kind = kind;
        name = name;
        config = config;
        automatic = automatic;
        withering = false;
        started = 0;
      } in
      record {
        kinds =
            All-push (λ (g : Geom C). is_granted_kind g.kind ≡ true
            → (g.number ≡ 1) ⊎ (g.number ≡ 2)) t.topology.geoms made shut.kinds
            (λ granted. let no : true ≡ false = sym granted ∙ other in absurd (cc));
        haves = shut.haves;
        wants = shut.wants;
        risen = shut.risen;
        fallen = shut.fallen;
        clear =
            ap (λ (s : Scratches). record s { geoms = s.geoms ++ (t.topology.next_geom, no_scratch) ∷ [] }) shut.clear
            ∙ ap (λ rows. record (clear_scratches t.topology) { geoms = rows })
            (row_more (λ (g : Geom C). let r : ℕ × Scratch = (g.number, no_scratch) in
            r) t.topology.geoms made (clear_scratches t.topology).geoms refl);
      }

  -- with a provider
  provider_shut : (geom : ℕ) (name : List ℕ) (size sector : ℕ)
      → IsShut (record (with_provider t geom name size sector) { room = room })
  provider_shut geom name size sector =
      let made : Provider = record {
        number = t.topology.next_provider;
        geom = geom;
        name = name;
        size = size;
        sector = sector;
        errored = false;
      } in
      record {
        kinds = shut.kinds;
        haves = row_more (λ (p : Provider). let r : ℕ × Counts = (p.number, no_counts) in
            r) t.topology.providers made t.haves shut.haves;
        wants = shut.wants;
        risen = row_more (λ (p : Provider). let r : ℕ × Bool = (p.number, false) in
            r) t.topology.providers made t.risen shut.risen;
        fallen = row_more (λ (p : Provider). let r : ℕ × Bool = (p.number, false) in
            r) t.topology.providers made t.fallen shut.fallen;
        clear =
            ap (λ (s : Scratches). record s {
              providers = s.providers ++ (t.topology.next_provider, no_scratch)
                  ∷ [];
            }) shut.clear
            ∙ ap (λ rows. record (clear_scratches t.topology) { providers = rows })
            (row_more (λ (p : Provider). let r : ℕ × Scratch = (p.number, no_scratch) in
            r) t.topology.providers made (clear_scratches t.topology).providers refl);
      }

  -- with a consumer
  consumer_shut : (geom : ℕ) → IsShut (record (with_consumer t geom) { room = room })
  consumer_shut geom =
      let made : Consumer =
      record { number = t.topology.next_consumer; geom = geom; provider = None; spoiled = false } in
      search (
        rules,
        row_more (λ (c : Consumer). let r : ℕ × Counts = (c.number, no_counts) in r) t.topology.consumers made t.wants
            shut.wants,
        ap (λ (s : Scratches). record s { consumers = s.consumers ++ (t.topology.next_consumer, no_scratch) ∷ [] })
            shut.clear,
        ap (λ rows. record (clear_scratches t.topology) { consumers = rows })
            (row_more (λ (c : Consumer). let r : ℕ × Scratch = (c.number, no_scratch) in r) t.topology.consumers made
            (clear_scratches t.topology).consumers refl),
        row_more (λ (c : Consumer). let r : ℕ × Scratch = (c.number, no_scratch) in r) t.topology.consumers made
            (clear_scratches t.topology).consumers,
      )

-- with a consumer attached
attached_shut : {C : Type 0} (t : TopoView C) (cons prov : ℕ) → IsShut t
    → IsShut (with_topology t (attach t.topology cons prov))
attached_shut t cons prov shut =
    search (
      rules,
      map-changed (λ (c : Consumer). c.number == cons) (λ c. record c { provider = Some prov })
          (λ (c : Consumer). let r : ℕ × Counts = (c.number, no_counts) in r) (λ c e. refl) t.topology.consumers,
      ap (λ rows. record (clear_scratches t.topology) { consumers = rows })
          (sym
          (map-changed (λ (c : Consumer). c.number == cons) (λ c. record c { provider = Some prov })
          (λ (c : Consumer). let r : ℕ × Scratch = (c.number, no_scratch) in r) (λ c e. refl) t.topology.consumers)),
      map-changed (λ (c : Consumer). c.number == cons) (λ c. record c { provider = Some prov })
          (λ (c : Consumer). let r : ℕ × Scratch = (c.number, no_scratch) in r) (λ c e. refl) t.topology.consumers,
    )

-- in the first mesh nothing is open
first_shut : {C : Type 0} (dev taste : C) (room : Room) → IsShut (first_mesh dev taste room)
first_shut {C} dev taste room = search rules

-- so meshes stay so
pub meshes_stay_shut : {C : Type 0} → MeshesStayShut C
meshes_stay_shut = record {
  first = first_shut;
  geom = λ t new kind name config automatic other is shut.
      subst IsShut (sym is) (geom_shut t shut new.room kind name config automatic other);
  provider = λ t new geom name size sector is shut.
      subst IsShut (sym is) (provider_shut t shut new.room geom name size sector);
  consumer = λ t new geom is shut. subst IsShut (sym is) (consumer_shut t shut new.room geom);
  attached = λ t cons prov shut. attached_shut t cons prov shut;
}
