-- What an accepted shape makes: each part stays, and what is offered lives.
use Rattle.std.specs.Prelude.{◌≡◌, ℕ, ◌-◌, Bool, true, false, not, ◌&&◌, List, [], ◌∷◌, map, Option, Some, None, IsSomeAnd, IfSome, is_some, if◌then◌else◌}
use Rattle.std.specs.List.{list_all}
use Rattle.std.proofs.Common.{refl, sym, subst}
use Rattle.std.proofs.lemmas.Bool.{and_parts, not-true}
use Rattle.geo_base.specs.declared.kind.Kind.{Kind}
use Rattle.geo_base.specs.declared.kind.Kind.TheVariants as kinds
use Rattle.geo_model.specs.declared.class.Shape.{Shape}
use Rattle.geo_model.specs.declared.class.Shape.TheVariants.{Slices, Logical, Named, Joined, Striped}
use Rattle.geo_model.specs.Words.{same_name}
use Rattle.geo_model.specs.Names.{label_name}
use Rattle.geo_model.specs.Topology.{Topology, Geom, Provider, geom_at, add_geom, add_consumer, set_config}
use Rattle.geo_model.specs.World.{Config, Mbr, Ebr, Label}
use Rattle.geo_model.specs.Events.{QueuedTopology, offer}
use Rattle.geo_model.specs.Acceptance.{NewSlice, new_slices, new_parts, are_names_free, with_geom_over, with_slices, accept_slices, with_label, accept_named, is_same_assembly, standing_geom, places_of, fill_place, joined_size, is_size, if_free, finish, with_place, join_place, can_join, Member, concat_member, stripe_member, join_at, accept_member, accept}
use Rattle.geo_model.specs.Graph.{IsInOrder}
use Rattle.geo_model.proofs.DemandLemmas.{find_passes}
use Rattle.geo_laws_graph.proofs.Members.{find-Contains}
use Rattle.geo_laws_graph.proofs.Lists.{found_itself}
use Rattle.geo_laws_graph.proofs.Found.{added-geom, added-consumer, config-found}
use Rattle.geo_laws_offers.specs.OfferingLaws.{OnlyAdds}
use Rattle.geo_laws_offers.proofs.Quiet.{stays-trans, geom-stays, consumer-stays, config-stays, quiet-change, quiet-adds, adds-after}
use Rattle.geo_laws_offers.proofs.Offers.{IsUpright, KeepsUpright, new-upright, consumers-come, offers-add, offered-adds}

-- what is made where something passes
where-made : (q r : QueuedTopology Config) (b : Bool) → OnlyAdds q r
    → IfSome (if b then Some r else None) (OnlyAdds q)
where-made q r true adds = adds
where-made q r false adds = tt

-- a geom with another configuration stands as before
config-upright : (t : Topology Config) (g : ℕ) (config : Config) (o : Option (Geom Config)) → geom_at t g ≡ o
    → IsSomeAnd o (λ x. x.withering ≡ false) → IsUpright (set_config t g config) g
config-upright t g config None e upright = absurd upright
config-upright t g config (Some x) e upright =
    subst (λ o. IsSomeAnd o (λ y. y.withering ≡ false)) (sym (config-found.here t g config x e)) upright

module _ (q : QueuedTopology Config) (order : IsInOrder q.topology) where
  -- the graph before
  abbrev t : Topology Config
  t = q.topology

  -- a geom over the provider
  over-upright : (p : Provider) (kind : Kind) (config : Config)
      → KeepsUpright t (with_geom_over q p kind config).topology t.next_geom
  over-upright p kind config =
      let base : Topology Config = add_geom t kind p.name config true in
      let come = consumers-come t.next_geom t.next_geom (p ∷ []) (add_geom t kind p.name config true)
      (added-geom.order t kind p.name config true order) (new-upright t kind p.name config true order) in
      record {
        stays = stays-trans t base (with_geom_over q p kind config).topology
            (geom-stays t kind p.name config true) come.stays;
        order = come.order;
        upright = come.upright;
      }

  -- with its slices
  slices-add : (p : Provider) (kind : Kind) (config : Config) (xs : List NewSlice)
      → IfSome (accept_slices q p kind config xs) (OnlyAdds q)
  slices-add p kind config xs =
      let over : QueuedTopology Config = with_geom_over q p kind config in
      let kept = over-upright p kind config in
      where-made q (with_slices q p kind config xs) (are_names_free t (map (λ (x : NewSlice). x.name) xs))
      (offers-add q t.next_geom 512 xs over kept.order kept.upright
      (quiet-adds q over (quiet-change q over.topology kept.stays)))

  -- with the provider of a label
  named-adds : (p : Provider) (name : List ℕ) → IfSome (accept_named q p name) (OnlyAdds q)
  named-adds p name =
      let config : Config = Label (Some t.next_consumer) in
      let over : QueuedTopology Config = with_geom_over q p kinds.Label config in
      let kept = over-upright p kinds.Label (Label (Some t.next_consumer)) in
      where-made q (with_label q p name) (are_names_free t (name ∷ []))
      (adds-after q over (with_label q p name) (quiet-change q over.topology kept.stays)
      (offered-adds over t.next_geom name (p.size - p.sector) p.sector kept.order kept.upright))

  module _ (p : Provider) (g : ℕ) (upright : IsUpright t g) where
    -- a place is filled
    placed : (filled : Config) → KeepsUpright t (with_place q p g filled).topology g
    placed filled =
        let one : Topology Config = add_consumer t g (Some p.number) in
        record {
          stays = stays-trans t one (set_config one g filled) (consumer-stays t g (Some p.number))
              (config-stays one g filled);
          order = config-found.order one g filled (added-consumer.order t g (Some p.number) order);
          upright = config-upright one g filled (geom_at one g) refl upright;
        }

    -- all places are filled, or not
    filled-adds : (filled : Config) (name : List ℕ) (b : Bool)
        → IfSome
        (if b then finish (with_place q p g filled) g filled name p.sector else Some (with_place q p g filled))
        (OnlyAdds q)
    filled-adds filled name true = sized (is_size (joined_size filled)) where
      -- the provider is made, or not
      sized : (b : Bool)
          → IfSome (if b
          then if_free (with_place q p g filled).topology (name ∷ [])
          (offer (with_place q p g filled) g name (joined_size filled) p.sector)
          else None) (OnlyAdds q)
      sized true =
          let r : QueuedTopology Config = with_place q p g filled in
          let kept = placed filled in
          where-made q (offer r g name (joined_size filled) p.sector) (are_names_free r.topology (name ∷ []))
          (adds-after q r (offer r g name (joined_size filled) p.sector) (quiet-change q r.topology kept.stays)
          (offered-adds r g name (joined_size filled) p.sector kept.order kept.upright))
      sized false = tt
    filled-adds filled name false =
        quiet-adds q (with_place q p g filled)
        (quiet-change q (with_place q p g filled).topology (placed filled).stays)

    -- the provider takes its place
    place-adds : (config : Config) (place : ℕ) (name : List ℕ)
        → IfSome (join_place q p g config place name) (OnlyAdds q)
    place-adds config place name =
        let filled : Config = fill_place config place t.next_consumer (p.size - p.sector) in
        filled-adds filled name (list_all is_some (places_of filled))

  -- a standing geom of an assembly is upright
  standing-upright : (name : List ℕ) (empty : Config) (g : Geom Config) → standing_geom t name empty ≡ Some g
      → IsUpright t g.number
  standing-upright name empty g e =
      let test = λ (x : Geom Config). x.automatic
      && (not x.withering && (same_name x.name name && is_same_assembly x.config empty)) in
      let one = and_parts g.automatic
      (not g.withering && (same_name g.name name && is_same_assembly g.config empty))
      (find_passes test t.geoms g e) in
      let two = and_parts (not g.withering) (same_name g.name name && is_same_assembly g.config empty) one.1 in
      let found : geom_at t g.number ≡ Some g =
      found_itself (λ (x : Geom Config). x.number) t.next_geom t.geoms g order.geoms
      (find-Contains test t.geoms g e) in
      subst (λ o. IsSomeAnd o (λ x. x.withering ≡ false)) (sym found) (not-true g.withering two.0)

-- a new geom of an assembly takes its first place
new-place-adds : (q : QueuedTopology Config) → IsInOrder q.topology → (p : Provider) (m : Member)
    → (o : Option (QueuedTopology Config))
    → IfSome o (OnlyAdds (record q { topology = add_geom q.topology m.kind m.geom_name m.empty true }))
    → IfSome o (OnlyAdds q)
new-place-adds q order p m None adds = tt
new-place-adds q order p m (Some r) adds =
    let base : Topology Config = add_geom q.topology m.kind m.geom_name m.empty true in
    adds-after q (record q { topology = base }) r
    (quiet-change q base (geom-stays q.topology m.kind m.geom_name m.empty true)) adds

module _ (q : QueuedTopology Config) (order : IsInOrder q.topology) (p : Provider) where
  -- a place in an assembly, by what stands
  join-adds : (m : Member) (o : Option (Geom Config)) → standing_geom q.topology m.geom_name m.empty ≡ o
      → IfSome (join_at q p m o) (OnlyAdds q)
  join-adds m None e =
      let base : Topology Config = add_geom q.topology m.kind m.geom_name m.empty true in
      new-place-adds q order p m
      (join_place (record q { topology = base }) p q.topology.next_geom m.empty m.place m.name)
      (place-adds (record q { topology = base })
      (added-geom.order q.topology m.kind m.geom_name m.empty true order) p q.topology.next_geom
      (new-upright q.topology m.kind m.geom_name m.empty true order) m.empty m.place m.name)
  join-adds m (Some g) e = by (can_join q.topology p g m.place) where
    -- whether it can join
    by : (b : Bool) → IfSome (if b then join_place q p g.number g.config m.place m.name else None) (OnlyAdds q)
    by true = place-adds q order p g.number (standing-upright q order m.geom_name m.empty g e) g.config m.place m.name
    by false = tt

  -- so for a member
  member-adds : (m : Member) → IfSome (accept_member q p m) (OnlyAdds q)
  member-adds m = join-adds m (standing_geom q.topology m.geom_name m.empty) refl

  -- what is accepted
  pub accept-adds : (shape : Shape) → IfSome (accept q p shape) (OnlyAdds q)
  accept-adds (Slices table) =
      slices-add q order p kinds.Mbr (Mbr (Some q.topology.next_consumer) table.slices)
      (new_slices p.name table.slices)
  accept-adds (Logical table) =
      slices-add q order p kinds.Ebr (Ebr (Some q.topology.next_consumer) table.parts) (new_parts p.name table.parts)
  accept-adds (Named found) = named-adds q order p (label_name found.name)
  accept-adds (Joined found) = member-adds (concat_member found)
  accept-adds (Striped found) = member-adds (stripe_member found)
