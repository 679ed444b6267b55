-- What is made is what the model makes, and so is each answer to a shape that a class accepts.
use Rattle.std.proofs.Common.{◌≡◌, ℕ, ◌-◌, Bool, true, false, List, [], ◌∷◌, ◌++◌, map, fold, Option, Some, None, option_map, if◌then◌else◌, ◌%◌, ◌<◌, ◌≤◌, ◌==◌, nat_le, ◌&&◌, ◌||◌, length, IfSome, Result, IfOk, replicate, refl, ap, sym, ◌∙◌, subst, rules}
use Rattle.geo_base.specs.declared.kind.Kind.{Kind}
use Rattle.geo_base.specs.declared.kind.Kind.TheVariants as kinds
use Rattle.geo_model.specs.declared.class.Shape.{Shape}
use Rattle.geo_model.specs.declared.class.Shape.TheVariants.{Slices, Logical, Named, Joined, Striped}
use Rattle.geo_model.specs.declared.step.Event.TheVariants.{NewProvider}
use Rattle.geo_model.specs.Names.{label_name}
use Rattle.geo_model.specs.Topology.{Topology, Geom, Provider, add_consumer, add_provider, provider_at}
use Rattle.geo_model.specs.World.{Config, Mbr, Ebr}
use Rattle.geo_model.specs.Events.{QueuedTopology, offer}
use Rattle.geo_model.specs.Acceptance.{NewSlice, Member, are_names_free, with_slices, with_label, join_at, accept, accept_member, places_of, new_slices, new_parts, concat_member, stripe_member, standing_geom}
use Rattle.geo_model.specs.GeomCommands.{build}
use Rattle.geo_mesh.specs.Topo.{TopoView, with_geom}
use Rattle.geo_taste.specs.Making.{QueuedMesh, queued, with_attached, with_all_attached, with_built, with_offer, both}
use Rattle.geo_taste.specs.Accepting.{over, with_slices_of, sliced, labelled, joined_at, with_member, accepted, IsAccepted}
use Rattle.geo_taste.specs.MakingLaws.{MakesAsTheModel}
use Rattle.std.proofs.lemmas.Bool.{and_parts, leb-true}
use Rattle.std.proofs.lemmas.List.{length-replicate}
use Rattle.geo_base.specs.declared.limits.TheConstants.{MAX_MEDIA_BYTES}
use Rattle.geo_mesh.specs.Graph.{IsSoundGraph}
use Rattle.geo_event.specs.EventQueue.{Queued}
use Rattle.geo_laws_texts.specs.RecordLaws.{IsPlace}
use Rattle.geo_taste.specs.declared.shapes.Accepted.{Accepted}
use Rattle.geo_taste.specs.declared.shapes.Accepted.TheVariants.{Made, Declined}
use Rattle.geo_taste.specs.Accepts.{HaveSizes, MakesSizes, MayAccept}
use Rattle.geo_taste.specs.Joining.{MayBeMember}
use Rattle.geo_base.proofs.Options.{if_ok_weaker, if-with}
use Rattle.geo_taste.proofs.Asking.{sized_there}

-- the graph with the consumers
attached_topology : (geom : ℕ) (ps : List Provider) (t : TopoView Config)
    → (with_all_attached t geom (map (λ (p : Provider). p.number) ps)).topology
    ≡ fold (λ u (p : Provider). add_consumer u geom (Some p.number)) t.topology ps
attached_topology geom [] t = refl
attached_topology geom (p ∷ ps) t = attached_topology geom ps (with_attached t geom p.number)

-- a geom of a command with its provider
built_is : (m : QueuedMesh) (kind : Kind) (geom_name : List ℕ) (config : Config) (ps : List Provider)
    (name : List ℕ) (size sector : ℕ)
    → queued (with_built m kind geom_name config (map (λ (p : Provider). p.number) ps) name size sector)
    ≡ build (queued m) kind geom_name config ps name size sector
built_is m kind geom_name config ps name size sector =
    ap (λ (t : Topology Config). record {
      topology = add_provider t m.mesh.topology.next_geom name size sector;
      events = m.events ++ NewProvider t.next_provider ∷ [];
    }) (attached_topology m.mesh.topology.next_geom ps (with_geom m.mesh kind geom_name config false))

-- what is made where a test holds
made_if : (b : Bool) (made other : Option QueuedMesh) (x y : Option (QueuedTopology Config))
    → option_map queued made ≡ x → option_map queued other ≡ y
    → option_map queued (if b then made else other) ≡ (if b then x else y)
made_if true made other x y e f = e
made_if false made other x y e f = f

-- with the providers of slices
slices_are : (geom : ℕ) (slices : List NewSlice) (m : QueuedMesh)
    → queued (with_slices_of m geom slices)
    ≡ fold (λ v (x : NewSlice). offer v geom x.name x.size 512) (queued m) slices
slices_are geom [] m = refl
slices_are geom (x ∷ slices) m = slices_are geom slices (with_offer m geom x.name x.size 512)

module _ (m : QueuedMesh) (p : Provider) where
  -- the graph before
  abbrev t : Topology Config
  t = m.mesh.topology

  -- a table
  sliced_is : (kind : Kind) (config : Config) (slices : List NewSlice)
      → option_map queued (sliced m p.number kind p.name config slices)
      ≡ (if are_names_free t (map (λ (x : NewSlice). x.name) slices)
      then Some (with_slices (queued m) p kind config slices) else None)
  sliced_is kind config slices =
      made_if (are_names_free t (map (λ (x : NewSlice). x.name) slices)) _ None _ None
      (ap (λ q. Some q) (slices_are t.next_geom slices (over m p.number kind p.name config))) refl

  -- a label
  labelled_is : (name : List ℕ)
      → option_map queued (labelled m p name)
      ≡ (if are_names_free t (name ∷ []) then Some (with_label (queued m) p name) else None)
  labelled_is name =
      made_if (are_names_free t (name ∷ [])) _ None (Some (with_label (queued m) p name)) None refl refl

-- in a standing geom or in a new one
joined_at_is : (m : QueuedMesh) (p : Provider) (x : Member) (o : Option (Geom Config))
    → option_map queued (joined_at m p x o) ≡ join_at (queued m) p x o
joined_at_is m p x (Some g) = search rules
joined_at_is m p x None = search rules

-- a member of an assembly
member_is : (m : QueuedMesh) (p : Provider) (x : Member)
    → option_map queued (with_member m p x) ≡ accept_member (queued m) p x
member_is m p x = joined_at_is m p x (standing_geom m.mesh.topology x.geom_name x.empty)

-- each shape
pub accepted_is : (m : QueuedMesh) (p : Provider) (shape : Shape)
    → option_map queued (accepted m p shape) ≡ accept (queued m) p shape
accepted_is m p (Slices table) =
    sliced_is m p kinds.Mbr (Mbr (Some m.mesh.topology.next_consumer) table.slices)
    (new_slices p.name table.slices)
accepted_is m p (Logical table) =
    sliced_is m p kinds.Ebr (Ebr (Some m.mesh.topology.next_consumer) table.parts) (new_parts p.name table.parts)
accepted_is m p (Named found) = labelled_is m p (label_name found.name)
accepted_is m p (Joined found) = member_is m p (concat_member found)
accepted_is m p (Striped found) = member_is m p (stripe_member found)

-- so all that is made is the model's
pub makes_as_model : MakesAsTheModel
makes_as_model = record { build = built_is; disk = λ m disk item. refl; accept = accepted_is }

-- Sectors

-- a provider has a sector
pub has_sector : (t : Topology Config) (prov : ℕ) (p : Provider) → IsSoundGraph t → provider_at t prov ≡ Some p
    → p.sector ≤ p.size
has_sector t prov p sound found =
    search (
      rules,
      and_parts ((p.sector == 512) || (p.sector == 4096))
          (nat_le 1 p.size && (nat_le p.size MAX_MEDIA_BYTES && (p.size % p.sector == 0)))
          (sized_there t sound prov p found),
      and_parts (nat_le p.size MAX_MEDIA_BYTES) (p.size % p.sector == 0),
      leb-true 1 p.size,
    )

-- Answers

-- an answer for other facts, where they make the same
pub answered_as : (a : Accepted) (v : TopoView Config) (s : Queued) (m : QueuedMesh) (made other : Option QueuedMesh)
    (facts more : Type 0) → (more → made ≡ other) → (more → facts) → IsAccepted a v s m made facts
    → IsAccepted a v s m other more
answered_as Made v s m made other facts more same so is = search rules
answered_as Declined v s m made other facts more same so is = (is.0, λ f. sym (same f) ∙ is.1 (so f))

-- sizes of what the model makes are those of what is made
sizes_from : (o : Option QueuedMesh) (r : Option (QueuedTopology Config)) → option_map queued o ≡ r
    → IfSome r (λ made. HaveSizes made.topology) → MakesSizes o
sizes_from None r e sizes = tt
sizes_from (Some m) r e sizes = search rules

module _ (m : QueuedMesh) (p : Provider) (shape : Shape) where
  -- so where a class may accept
  may_sizes : MayAccept (queued m) p shape → MakesSizes (accepted m p shape)
  may_sizes may = sizes_from (accepted m p shape) (accept (queued m) p shape) (accepted_is m p shape) may.sizes

  -- and where it accepts a member, that may be one
  pub may_member : (x : Member) → accepted m p shape ≡ with_member m p x → MayAccept (queued m) p shape
      → MayBeMember m p x
  may_member x same may = search (rules, may_sizes may)

module _ {E : Type 0} (t : TopoView Config) (q : Queued) (prov : ℕ) (p : Provider)
    (at : provider_at t.topology prov ≡ Some p) (shape other : Shape) (is : shape ≡ other) (v : TopoView Config)
    (s : Queued) (r : Result Accepted E) where
  -- the mesh and the events before
  abbrev old : QueuedMesh
  old = both t q

  -- what the class answers is answered to the shape
  abbrev pub IsAnswered : Type 0
  IsAnswered =
      IfOk r (λ a. IfSome (provider_at t.topology prov)
      (λ x. IsAccepted a v s old (accepted old x shape) (MayAccept (queued old) x shape)))

  -- so it is where it is answered to what the shape is
  answered : (P : Accepted → Type 0)
      → ((a : Accepted) → P a → IsAccepted a v s old (accepted old p other) (MayAccept (queued old) p other))
      → IfOk r P → IsAnswered
  answered P so given =
      if_ok_weaker P _ r (λ a told.
      if-with (provider_at t.topology prov) _ p at
      (subst (λ (z : Shape). IsAccepted a v s old (accepted old p z) (MayAccept (queued old) p z)) (sym is)
      (so a told)))
      given

  -- where what is made has sizes of providers
  pub shape_answered : IfOk r (λ a. IsAccepted a v s old (accepted old p other) (MakesSizes (accepted old p other)))
      → IsAnswered
  shape_answered =
      answered (λ a. IsAccepted a v s old (accepted old p other) (MakesSizes (accepted old p other)))
      (λ a. answered_as a v s old (accepted old p other) (accepted old p other) (MakesSizes (accepted old p other))
      (MayAccept (queued old) p other) (λ may. refl) (may_sizes old p other))

  -- where it may be a member
  pub member_answered : (x y : Member) → x ≡ y → accepted old p other ≡ with_member old p y
      → IfOk r (λ a. IsAccepted a v s old (with_member old p x) (MayBeMember old p x)) → IsAnswered
  member_answered x y same made = search (rules, may_member old p other x)

-- Places

-- the place of a record is one of as many as the record counts
pub place_inside : (place count : ℕ) → IsPlace place count → place < length (replicate {A = Option ℕ} count None)
place_inside place count is = subst (λ n. place < n) (sym (length-replicate {A = Option ℕ} count None)) is.inside

-- so is that of the member that it names
pub member_inside : (x y : Member) → x ≡ y → y.place < length (places_of y.empty) → x.place < length (places_of x.empty)
member_inside x y same inside = subst (λ (z : Member). z.place < length (places_of z.empty)) (sym same) inside
