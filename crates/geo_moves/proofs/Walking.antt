-- What walks over the geoms and the providers of the mesh meet: names, counts, and the lines that are printed.
use Rattle.std.specs.Prelude.{◌≡◌, ℕ, ◌+◌, nat_le, Bool, true, false, not, ◌&&◌, List, [], ◌∷◌, filter, find, Option, Some, None, Contains, MatchOption, if◌then◌else◌, ◌==◌, ◌++◌, map, IsSome, unwrap_or, Result, Ok, Err, IfOk, ◌||◌}
use Rattle.std.specs.Option.{option_map, option_and_then, option_map_or}
use Rattle.std.proofs.Common.{refl, sym, ap, ◌∙◌, subst, arith, append_assoc, rules}
use Rattle.std.proofs.lemmas.Bool.{le-leb}
use Rattle.geo_base.specs.declared.kind.Kind.{Kind}
use Rattle.geo_base.specs.declared.kind.Kind.TheVariants as kinds
use Rattle.geo_model.specs.Words.{is_kind, same_name}
use Rattle.geo_model.specs.Topology.{Topology, Geom, Provider, geom_at, provider_at, providers_of, Consumer, consumer_at, consumers_of}
use Rattle.geo_model.specs.World.{Config}
use Rattle.geo_model.specs.Append.{is_growing}
use Rattle.geo_mesh.specs.Graph.{IsSoundGraph}
use Rattle.geo_mesh.specs.Topo.{first_geom, first_provider, TopoView}
use Rattle.geo_laws_graph.specs.LookupLaws.{left_from, IsStep, WalksMeetAll}
use Rattle.geo_laws_graph.proofs.Walks.{walks-meet, walk-begin}
use Rattle.geo_laws_graph.proofs.Members.{Contains-here, filter-Contains, find-Contains, at_contained}
use Rattle.geo_laws_graph.proofs.Lists.{found_itself}
use Rattle.geo_moves.specs.Names.{IsNextNamed, can_grow, named_from, named_geoms, stands}
use Rattle.std.proofs.lemmas.Grind.{common_steps}
use Rattle.std.proofs.lemmas.List.Elements.{recursion_from_All}
use Rattle.geo_model.specs.declared.command.LineCommand.{LineCommand}
use Rattle.geo_model.specs.declared.listing.ConsLine.{ConsLine}
use Rattle.geo_model.specs.declared.listing.GeomLine.{GeomLine}
use Rattle.geo_model.specs.declared.listing.ProvLine.{ProvLine}
use Rattle.geo_model.specs.declared.step.Entry.{Entry}
use Rattle.geo_model.specs.Demand.{have, want, no_counts, is_zero}
use Rattle.geo_model.specs.Listing.{listing}
use Rattle.geo_model.specs.Steady.{AreAttached}
use Rattle.geo_slots.specs.Slots.{value_at}
use Rattle.geo_mesh.specs.declared.records.ConsRec.{ConsRec}
use Rattle.geo_mesh.specs.declared.records.ProvRec.{ProvRec}
use Rattle.geo_mesh.specs.Cells.{provider_seen, consumer_seen}
use Rattle.geo_access.specs.Access.{IsCounted, granted_by}
use Rattle.geo_access.specs.Views.{IsNextConsumer, IsNextProvider, have_at, want_at}
use Rattle.geo_access.proofs.Decided.{item_at}
use Rattle.geo_state.specs.declared.state.State.{State}
use Rattle.geo_state.specs.Holds.{Holds}
use Rattle.geo_state.specs.World.{world}
use Rattle.geo_moves.specs.Lines.{IsNextGeom, cons_line, cons_lines, geoms_from, mesh_lines, prov_line, prov_lines, stored_line}
use Rattle.std.specs.List.{list_any}
use Rattle.geo_model.specs.GeomCommands.{is_in_use}

-- What the walks over the geoms of a name meet

-- Geoms of a name

module _ (t : Topology Config) (kind : Kind) (name : List ℕ) where
  abbrev named : Geom Config → Bool
  named g = is_kind g.kind kind && same_name g.name name

  abbrev number : Geom Config → ℕ
  number g = g.number

  -- the next geom of a walk
  next_of : IsSoundGraph t → (from_number n : ℕ) → first_geom (named_geoms t kind name) from_number ≡ Some n
      → IsNextNamed t kind name from_number n
  next_of sound from_number n first =
      let step : IsStep number (named_geoms t kind name) t.next_geom from_number n =
      WalksMeetAll.step walks-meet number (named_geoms t kind name) t.next_geom from_number n
      (WalksMeetAll.part walks-meet number named t.geoms t.next_geom sound.orderly.order.geoms) first in
      let there =
      filter-Contains (λ (g : Geom Config). nat_le from_number g.number) (named_geoms t kind name) step.item
      (subst (λ ys. Contains ys step.item) (sym step.left)
      (Contains-here step.item (left_from number (n + 1) (named_geoms t kind name)))) in
      let inside = filter-Contains named t.geoms step.item there.0 in
      record {
        geom = step.item;
        number = step.is;
        found = subst (λ m. geom_at t m ≡ Some step.item) step.is
            (found_itself number t.next_geom t.geoms step.item sound.orderly.order.geoms inside.0);
        left = step.left;
        past = step.past;
        known = step.known;
        fits = sound.orderly.numbers.next_geom.fits;
      }

  -- what the look-up gives
  pub next_named : IsSoundGraph t → (from_number : ℕ) (o : Option ℕ)
      → o ≡ first_geom (named_geoms t kind name) from_number
      → MatchOption o (named_from t kind name from_number ≡ []) (λ n. IsNextNamed t kind name from_number n)
  next_named sound from_number None is =
      WalksMeetAll.rest walks-meet number (named_geoms t kind name) from_number (sym is)
  next_named sound from_number (Some n) is = next_of sound from_number n (sym is)

  module _ (more test : Geom Config → Bool) (agree : (g : Geom Config) → test g ≡ (named g && more g)) where
    -- the first of those of the name that passes is the first that passes both tests
    among : (xs : List (Geom Config)) → find more (filter named xs) ≡ find test xs
    among [] = refl
    among (x ∷ xs) = grind (arith, agree x, among xs)

    -- at the beginning all of them are left
    pub find_begin : find more (named_from t kind name 0) ≡ find test t.geoms
    find_begin = ap (find more) (walk-begin number (named_geoms t kind name)) ∙ among t.geoms

    module _ (from_number n : ℕ) (next : IsNextNamed t kind name from_number n)
        (so_far : find more (named_from t kind name from_number) ≡ find test t.geoms) where
      -- one that doesn't pass is passed over
      pub find_on : more next.geom ≡ false → find more (named_from t kind name (n + 1)) ≡ find test t.geoms
      find_on fails = search (rules, ap (find more) next.left)

-- the geom that stands, as the model tests it
pub stands_agree : (kind : Kind) (name : List ℕ) (g : Geom Config)
    → (is_kind g.kind kind && (not g.withering && same_name g.name name))
    ≡ ((is_kind g.kind kind && same_name g.name name) && stands g)
stands_agree kind name g = grind (arith, common_steps)

-- the geom that can grow
pub offers_agree : (t : Topology Config) (name : List ℕ) (g : Geom Config)
    → is_growing t name g ≡ ((is_kind g.kind kinds.Concat && same_name g.name name) && can_grow t g)
offers_agree t name g = grind (arith, common_steps)

-- a geom of which nothing is offered can't grow
pub cannot_grow : (t : Topology Config) (name : List ℕ) (from_number n : ℕ)
    (next : IsNextNamed t kinds.Concat name from_number n)
    → (if option_map_or stands (geom_at t n) false then first_provider (providers_of t n) 0 else None) ≡ None
    → can_grow t next.geom ≡ false
cannot_grow t name from_number n next none =
    by (not next.geom.withering) (providers_of t next.geom.number) refl refl
    (search rules)
  where
    by : (b : Bool) (ps : List Provider) → not next.geom.withering ≡ b → providers_of t next.geom.number ≡ ps
        → (if option_map_or stands (geom_at t n) false then first_provider (providers_of t next.geom.number) 0
        else None)
        ≡ None
        → can_grow t next.geom ≡ false
    by false ps e f is = rw e refl
    by true [] e f is = rw (e, f) refl
    by true (p ∷ ps) e f is = search (rules, Some p.number, le-leb 0 p.number (omega arith))

-- What the walks print, and that it is the model's listing

-- A walk: print tells what is printed of a list
module _ {X Y : Type 0} (number : X → ℕ) (print : List X → List Y) (xs : List X) where
  -- at the beginning nothing is printed
  pub print_begin : (lines : List Y) → lines ≡ [] → lines ++ print (left_from number 0 xs) ≡ print xs
  print_begin lines none = ap (λ ys. ys ++ print (left_from number 0 xs)) none ∙ ap print (walk-begin number xs)

  -- one item more is printed, where one tells what is printed of it
  pub print_on : (one : List Y) (x : X) → ((ys : List X) → print (x ∷ ys) ≡ one ++ print ys)
      → (lines new : List Y) (from_number n : ℕ) → new ≡ lines ++ one
      → left_from number from_number xs ≡ x ∷ left_from number (n + 1) xs
      → lines ++ print (left_from number from_number xs) ≡ print xs
      → new ++ print (left_from number (n + 1) xs) ≡ print xs
  print_on one x split lines new from_number n is left so_far =
      ap (λ ys. ys ++ print (left_from number (n + 1) xs)) is
      ∙ append_assoc lines one (print (left_from number (n + 1) xs))
      ∙ ap (λ ys. lines ++ ys) (sym (ap print left ∙ split (left_from number (n + 1) xs)))
      ∙ so_far

-- the next geom of a walk
pub next_geom : (t : Topology Config) → IsSoundGraph t → (from_number : ℕ) (o : Option ℕ)
    → o ≡ first_geom t.geoms from_number
    → MatchOption o (geoms_from t from_number ≡ []) (λ n. IsNextGeom t from_number n)
next_geom t sound from_number None is = WalksMeetAll.rest walks-meet (λ g. g.number) t.geoms from_number (sym is)
next_geom t sound from_number (Some n) is =
    let step : IsStep (λ (g : Geom Config). g.number) t.geoms t.next_geom from_number n =
    WalksMeetAll.step walks-meet (λ (g : Geom Config). g.number) t.geoms t.next_geom from_number n
    sound.orderly.order.geoms (sym is) in
    let inside = filter-Contains (λ (g : Geom Config). nat_le from_number g.number) t.geoms step.item
    (subst (λ ys. Contains ys step.item) (sym step.left)
    (Contains-here step.item (geoms_from t (n + 1)))) in
    record {
      geom = step.item;
      found =
          subst (λ m. geom_at t m ≡ Some step.item) step.is
          (found_itself (λ (g : Geom Config). g.number) t.next_geom t.geoms step.item sound.orderly.order.geoms
          inside.0);
      left = step.left;
      past = step.past;
      known = step.known;
      fits = sound.orderly.numbers.next_geom.fits;
    }

module _ (t : TopoView Config) (counted : IsCounted t) where
  -- the counts that are stored at a provider are the model's
  pub have_shown : (id : ℕ) (x : ProvRec) → provider_at t.topology id ≡ Some (provider_seen id x)
      → have_at t id ≡ x.have → x.have ≡ have (granted_by t) t.topology id
  have_shown id x lives stored =
      sym stored
      ∙ ap (λ rows. unwrap_or (value_at rows id) no_counts) counted.haves
      ∙ ap (λ o. unwrap_or o no_counts)
      (item_at (λ (y : Provider). y.number) (λ (y : Provider). have (granted_by t) t.topology y.number)
      id t.topology.providers (provider_seen id x) lives)

  -- the counts that are stored at a consumer are the model's
  want_shown : (id : ℕ) (x : ConsRec) → consumer_at t.topology id ≡ Some (consumer_seen id x)
      → want_at t id ≡ x.want → x.want ≡ want (granted_by t) t.topology (consumer_seen id x)
  want_shown id x lives stored =
      sym stored
      ∙ ap (λ rows. unwrap_or (value_at rows id) no_counts) counted.wants
      ∙ ap (λ o. unwrap_or o no_counts)
      (item_at (λ (y : Consumer). y.number) (λ (y : Consumer). want (granted_by t) t.topology y)
      id t.topology.consumers (consumer_seen id x) lives)

  -- one provider more is printed
  pub prov_on : (geom from_number id : ℕ) (x : ProvRec)
      → IsNextProvider t.topology (providers_of t.topology geom) from_number id x → have_at t id ≡ x.have
      → (line : ProvLine) → line ≡ stored_line x → (lines new : List ProvLine) → new ≡ lines ++ line ∷ []
      → lines ++ map (prov_line (granted_by t) t.topology)
      (left_from (λ (y : Provider). y.number) from_number (providers_of t.topology geom))
      ≡ prov_lines (granted_by t) t.topology geom
      → new ++ map (prov_line (granted_by t) t.topology)
      (left_from (λ (y : Provider). y.number) (id + 1) (providers_of t.topology geom))
      ≡ prov_lines (granted_by t) t.topology geom
  prov_on geom from_number id x next stored line is lines new pushed so_far =
      print_on (λ (y : Provider). y.number) (map (prov_line (granted_by t) t.topology)) (providers_of t.topology geom)
      (line ∷ []) (provider_seen id x)
      (λ ys. ap (λ l. l ∷ map (prov_line (granted_by t) t.topology) ys)
      (sym (is ∙ ap (λ counts. record (stored_line x) { counts = counts }) (have_shown id x next.lives stored))))
      lines new from_number id pushed next.left so_far

  -- one consumer more
  pub cons_on : (geom from_number id : ℕ) (x : ConsRec)
      → IsNextConsumer t.topology (consumers_of t.topology geom) from_number id x → want_at t id ≡ x.want
      → (name : List ℕ)
      → name ≡ option_map_or (λ (p : Provider). p.name) (option_and_then (provider_at t.topology) x.prov) []
      → (lines new : List ConsLine) → new ≡ lines ++ record { prov = name; counts = x.want } ∷ []
      → lines ++ map (cons_line (granted_by t) t.topology)
      (left_from (λ (y : Consumer). y.number) from_number (consumers_of t.topology geom))
      ≡ cons_lines (granted_by t) t.topology geom
      → new ++ map (cons_line (granted_by t) t.topology)
      (left_from (λ (y : Consumer). y.number) (id + 1) (consumers_of t.topology geom))
      ≡ cons_lines (granted_by t) t.topology geom
  cons_on geom from_number id x next stored name named lines new pushed so_far =
      let shown : cons_line (granted_by t) t.topology (consumer_seen id x) ≡ record { prov = name; counts = x.want } =
      search (rules, want_shown id x next.lives stored) in
      print_on (λ (y : Consumer). y.number) (map (cons_line (granted_by t) t.topology)) (consumers_of t.topology geom)
      (record { prov = name; counts = x.want } ∷ []) (consumer_seen id x)
      (λ ys. ap (λ l. l ∷ map (cons_line (granted_by t) t.topology) ys) shown)
      lines new from_number id pushed next.left so_far

-- a consumer that is there is attached
pub attached-there : (t : Topology Config) → AreAttached t → (id : ℕ) (c : Consumer) → consumer_at t id ≡ Some c
    → IsSome (option_and_then (provider_at t) c.provider)
attached-there t attached id c found =
    at_contained (λ (x : Consumer). IsSome (option_and_then (provider_at t) x.provider)) t.consumers c
    (recursion_from_All (λ (x : Consumer). IsSome (option_and_then (provider_at t) x.provider)) t.consumers attached)
    (find-Contains (λ (x : Consumer). x.number == id) t.consumers c found)

-- what is printed is the model's listing of the world
listing_is : (s : State) → Holds s → (actors : List (List LineCommand)) (log : List Entry)
    → mesh_lines (granted_by s.topo) s.topo.topology ≡ listing (world actors log s)
unfolding listing
listing_is s kept actors log = ap (λ granted. mesh_lines granted s.topo.topology) kept.grants

-- so what was printed, if there was memory
pub listing_of : {E : Type 0} (s : State) → Holds s → (r : Result (List GeomLine) E)
    → IfOk r (λ lines. lines ≡ mesh_lines (granted_by s.topo) s.topo.topology)
    → IfOk r (λ lines. (actors : List (List LineCommand)) (log : List Entry) → lines ≡ listing (world actors log s))
listing_of s kept (Ok lines) is = λ actors log. is ∙ listing_is s kept actors log
listing_of s kept (Err e) is = tt

-- The walk over the providers of a geom that may be in use

module _ (t : TopoView Config) (geom : ℕ) where
  abbrev prov_number : Provider → ℕ
  prov_number p = p.number

  -- whether a provider has a count
  abbrev used : Provider → Bool
  used p = not (is_zero (have (granted_by t) t.topology p.number))

  -- whether one has of those that are left
  abbrev pub used_left : ℕ → Bool
  used_left n = list_any used (left_from prov_number n (providers_of t.topology geom))

  -- at the beginning all are left
  pub use_begin : used_left 0 ≡ is_in_use (granted_by t) t.topology geom
  use_begin = ap (list_any used) (walk-begin prov_number (providers_of t.topology geom))

  -- at the end none is left
  pub use_end : (from_number : ℕ) → left_from prov_number from_number (providers_of t.topology geom) ≡ []
      → false ≡ used_left from_number
  use_end from_number none = sym (ap (list_any used) none)

  module _ (counted : IsCounted t) (from_number id : ℕ) (x : ProvRec)
      (next : IsNextProvider t.topology (providers_of t.topology geom) from_number id x)
      (stored : have_at t id ≡ x.have) where
    -- once this one is met, one has where it has or one behind it
    pub use_step : (b : Bool) → is_zero x.have ≡ b → used_left from_number ≡ (not b || used_left (id + 1))
    use_step b is =
        ap (list_any used) next.left
        ∙ ap (λ z. not z || used_left (id + 1)) (ap is_zero (sym (have_shown t counted id x next.lives stored)) ∙ is)
