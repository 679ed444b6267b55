-- A geom over a provider with its slices, its partitions or its label: what is made, and when nothing can be.
use Rattle.std.specs.List.{AllByRecursion, list_all}
use Rattle.std.proofs.Common.{◌≡◌, ℕ, ◌+◌, ◌-◌, ◌≤◌, Bool, true, false, List, [], ◌∷◌, length, map, Option, ◌<◌, ◌++◌, drop, get_or, Some, None, option_map, if◌then◌else◌, Result, IfOk, IsSomeAnd, All, refl, sym, ◌∙◌, ap, subst, arith, append_assoc, rules}
use Rattle.std.proofs.lemmas.List.Elements.{All-pop}
use Rattle.geo_base.specs.Name.{is_name, name_of}
use Rattle.geo_base.specs.declared.limits.TheConstants.{MAX_LINKS}
use Rattle.geo_model.specs.declared.class.Slice.{Slice}
use Rattle.geo_model.specs.declared.class.EbrPart.{EbrPart}
use Rattle.geo_model.specs.Words.{same_name}
use Rattle.geo_model.specs.Names.{slice_name, logical_name}
use Rattle.geo_model.specs.Place.{slice_place, end_number}
use Rattle.geo_model.specs.Topology.{Topology, Provider, is_name_taken, add_provider}
use Rattle.geo_model.specs.World.{Config, Label}
use Rattle.geo_model.specs.Acceptance.{NewSlice, are_names_free, new_parts, new_slices}
use Rattle.geo_mesh.specs.Topo.{TopoView, with_provider, is_provider_size, IsButForRoom}
use Rattle.geo_laws_graph.specs.LookupLaws.{new_provider}
use Rattle.geo_laws_graph.proofs.Found.{added-provider}
use Rattle.geo_laws_life.proofs.Standers.{PairsByRecursion}
use Rattle.geo_laws_making.proofs.NewSlices.{new-differ, slice-tells, logical-tells, new_of}
use Rattle.geo_taste.specs.Making.{QueuedMesh, with_offer, both, AreBoth, with_geom_on}
use Rattle.geo_taste.specs.Accepting.{with_slices_of, over, labelled, sliced, IsAccepted}
use Rattle.geo_taste.specs.Accepts.{HaveSizes, MakesSizes}
use Rattle.geo_taste.specs.Parts.{are_names, ArePartsApart, CanAddPart, is_addable, PartsDiffer, named_all, IsPlacePushed}
use Rattle.geo_taste.specs.Standing.{MayOffer, CanStandOn}
use Rattle.std.proofs.Math.ListN.{drop_of_length-le}
use Rattle.std.proofs.lemmas.List.{get_or_default}
use Rattle.std.proofs.lemmas.List.Folds.{list_all-append}
use Rattle.geo_base.proofs.PlaceLists.{first_left}
use Rattle.geo_event.specs.EventQueue.{Queued}
use Rattle.geo_base.specs.declared.kind.Kind.{Kind}
use Rattle.geo_base.specs.declared.kind.Kind.TheVariants as kinds
use Rattle.geo_laws_life.proofs.Found.{some-with}
use Rattle.geo_taste.specs.declared.shapes.Accepted.{Accepted}
use Rattle.geo_taste.specs.Free.{free_name}
use Rattle.geo_taste.proofs.Raising.{CarriesRoom, with_room, followed, risen_over, risen_providers}

-- Providers of slices and partitions

module _ (t u : TopoView Config) (geom : ℕ) (name : List ℕ) (size sector : ℕ)
    (made : IsButForRoom u (with_provider t geom name size sector)) where
  -- the graph with it
  graph : u.topology ≡ add_provider t.topology geom name size sector
  graph = ap (λ (v : TopoView Config). v.topology) made

  -- a part of another name can be added still
  add_one : (x : NewSlice) → same_name name x.name ≡ false → CanAddPart t.topology x → CanAddPart u.topology x
  add_one x apart can = (
    subst (λ (g : Topology Config). is_name_taken g x.name ≡ false) (sym graph)
        (added-provider.taken t.topology geom name size sector x.name ∙ rw (can.0, apart) refl),
    can.1,
  )

  -- so can all
  pub add_more : (xs : List NewSlice) → AllByRecursion (λ (x : NewSlice). same_name name x.name ≡ false) xs
      → AllByRecursion (CanAddPart t.topology) xs → AllByRecursion (CanAddPart u.topology) xs
  add_more [] apart can = tt
  add_more (x ∷ xs) apart can = (add_one x apart.0 can.0, add_more xs apart.1 can.1)

-- All of them

-- room doesn't matter to providers that are offered
pub offers_carry : (geom : ℕ) (xs : List NewSlice) → CarriesRoom (λ m. with_slices_of m geom xs)
offers_carry geom [] m room = refl
offers_carry geom (x ∷ xs) m room = offers_carry geom xs (with_offer m geom x.name x.size 512) room

-- Sizes

-- where all that there is after an offer has sizes of providers, so had all before, and what was offered
pub offer_sized : (m : QueuedMesh) (geom : ℕ) (name : List ℕ) (size sector : ℕ)
    → HaveSizes (with_offer m geom name size sector).mesh.topology
    → HaveSizes m.mesh.topology × (is_provider_size size sector ≡ true)
offer_sized m geom name size sector sizes =
    All-pop (λ (z : Provider). is_provider_size z.size z.sector ≡ true)
    (with_offer m geom name size sector).mesh.topology.providers m.mesh.topology.providers
    (Some (new_provider m.mesh.topology geom name size sector)) refl sizes

-- so before each of the parts
sized_before : (geom : ℕ) (xs : List NewSlice) (m : QueuedMesh) → HaveSizes (with_slices_of m geom xs).mesh.topology
    → HaveSizes m.mesh.topology
sized_before geom [] m sizes = sizes
sized_before geom (x ∷ xs) m sizes =
    (offer_sized m geom x.name x.size 512 (sized_before geom xs (with_offer m geom x.name x.size 512) sizes)).0

-- and each part has
pub part_sizes : (geom : ℕ) (xs : List NewSlice) (m : QueuedMesh)
    → HaveSizes (with_slices_of m geom xs).mesh.topology
    → AllByRecursion (λ (x : NewSlice). is_provider_size x.size 512 ≡ true) xs
part_sizes geom [] m sizes = tt
part_sizes geom (x ∷ xs) m sizes =
    let more : QueuedMesh = with_offer m geom x.name x.size 512 in
    ((offer_sized m geom x.name x.size 512 (sized_before geom xs more sizes)).1, part_sizes geom xs more sizes)

-- where a test doesn't hold that would have to, with such sizes, nothing is made
pub gone_without : (b : Bool) (made : QueuedMesh) → (b ≡ true → HaveSizes made.mesh.topology → ⊥)
    → MakesSizes (if b then Some made else None) → (if b then Some made else None) ≡ None
gone_without true made never sizes = absurd (never refl sizes)
gone_without false made never sizes = refl

-- Names

-- where one isn't a name, they aren't free
free_named : (t : Topology Config) (xs : List NewSlice) → are_names_free t (map (λ (x : NewSlice). x.name) xs) ≡ true
    → are_names xs ≡ true
free_named t [] free = refl
free_named t (x ∷ xs) free = search (rules, free_named t xs)

pub unnamed_where : (t : Topology Config) (xs : List NewSlice) → are_names xs ≡ false
    → are_names_free t (map (λ (x : NewSlice). x.name) xs) ≡ false
unnamed_where t xs named = search (rules, free_named t xs)

-- each part can be added where all are addable
pub can_add_all : (t : Topology Config) (xs : List NewSlice) → list_all (is_addable t) xs ≡ true
    → AllByRecursion (CanAddPart t) xs
can_add_all t [] can = tt
can_add_all t (x ∷ xs) can = search (rules, can_add_all t xs)

-- those that are addable are free
pub addable_free : (t : Topology Config) (xs : List NewSlice) → are_names xs ≡ true
    → list_all (is_addable t) xs ≡ true
    → are_names_free t (map (λ (x : NewSlice). x.name) xs) ≡ true
addable_free t [] named can = refl
addable_free t (x ∷ xs) named can = search (rules, addable_free t xs)

-- those that are free and have sizes of providers are addable
pub free_addable : (t : Topology Config) (xs : List NewSlice)
    → AllByRecursion (λ (x : NewSlice). is_provider_size x.size 512 ≡ true) xs
    → are_names_free t (map (λ (x : NewSlice). x.name) xs) ≡ true
    → list_all (is_addable t) xs ≡ true
free_addable t [] sizes free = refl
free_addable t (x ∷ xs) sizes free = search (rules, free_addable t xs sizes.1)

-- parts that differ two by two
apart_by_pairs : (xs : List NewSlice) → PairsByRecursion PartsDiffer xs → ArePartsApart xs
apart_by_pairs [] apart = tt
apart_by_pairs (x ∷ xs) apart = (apart.0, apart_by_pairs xs apart.1)

-- slices differ in name
pub slices_differ : (below : List ℕ) (xs : List (Option Slice)) → ArePartsApart (new_slices below xs)
slices_differ below xs =
    apart_by_pairs (new_slices below xs)
    (new-differ (slice_name below) (λ (y : Slice). y.count) slice_place (length xs)
    (λ i less. slice-tells below i) 0 xs (omega arith))

-- and so do partitions
pub partitions_differ : (below : List ℕ) (xs : List (Option EbrPart)) → length xs ≤ MAX_LINKS
    → ArePartsApart (new_parts below xs)
partitions_differ below xs few =
    apart_by_pairs (new_parts below xs)
    (new-differ (logical_name below) (λ (y : EbrPart). y.count) (λ name. end_number name - 1) (length xs)
    (λ i less.
    let back : i + 1 - 1 ≡ i = omega arith in
    ap (λ n. n - 1) (logical-tells below i (omega (arith, less, few))) ∙ back) 0 xs (omega arith))

-- What a test keeps

-- what is kept is what was tested
pub kept_some : {A : Type 0} (b : Bool) (x y : A) → (if b then Some x else None) ≡ Some y → (b ≡ true) × (x ≡ y)
kept_some true x y e = (refl, cc)
kept_some false x y e = absurd (let no : ⊥ = cc in no)

-- nothing is kept where the test fails
pub kept_none : {A : Type 0} (b : Bool) (x : A) → (if b then Some x else None) ≡ None → b ≡ false
kept_none true x e = absurd (let no : ⊥ = cc in no)
kept_none false x e = refl

-- Parts that are named, one after another

module _ {X : Type 0} (name : ℕ → List ℕ) (count : X → ℕ) (all : List (Option X)) where
  -- how far the parts are named
  pub record NamedSoFar (place : ℕ) (items : List NewSlice) (rest : List (Option X)) : Type 0 where
    pub so_far : items ++ new_of name count place rest ≡ new_of name count 0 all
    pub named : are_names items ≡ true
    pub number : place + length rest ≡ length all

  -- at first
  pub named_begin : NamedSoFar 0 [] all
  named_begin = record { so_far = refl; named = refl; number = omega arith }

  -- one place more
  named_step : (place : ℕ) (items more : List NewSlice) (o : Option X) (rest : List (Option X)) (named : Bool)
      → NamedSoFar place items (o ∷ rest)
      → IsPlacePushed (name_of (name place)) (option_map count o) named items more → named ≡ true
      → NamedSoFar (place + 1) more rest
  named_step place items more None rest named far placed good = search rules
  named_step place items more (Some s) rest named far placed good =
      search (rules, append_assoc items, list_all-append (λ (x : NewSlice). is_name x.name) items)

  -- a place without a name
  named_no : (place : ℕ) (items more : List NewSlice) (o : Option X) (rest : List (Option X)) (named : Bool)
      → NamedSoFar place items (o ∷ rest)
      → IsPlacePushed (name_of (name place)) (option_map count o) named items more → named ≡ false
      → None ≡ named_all (new_of name count 0 all)
  named_no place items more None rest named far placed bad = search rules
  named_no place items more (Some s) rest named far placed bad =
      search (rules, list_all-append (λ (x : NewSlice). is_name x.name) items, new_of name count (place + 1) rest)

module _ {X : Type 0} {name : ℕ → List ℕ} {count : X → ℕ} {all : List (Option X)} {place : ℕ} {items : List NewSlice}
    (i : ℕ) (far : NamedSoFar name count all place items (drop i all)) where
  -- the one of the list
  abbrev one : Option X
  one = get_or all i None

  -- what was so far
  now : i < length all → NamedSoFar name count all place items (one ∷ drop (i + 1) all)
  now less = search (rules, first_left all i one less (get_or_default all i None one less))

  -- its place is one of those
  pub named_place : i < length all → place < length all
  named_place less = search (rules, now less)

  -- it is named
  pub named_more : i < length all → (more : List NewSlice) (named : Bool)
      → IsPlacePushed (name_of (name place)) (option_map count one) named items more → named ≡ true
      → NamedSoFar name count all (place + 1) more (drop (i + 1) all)
  named_more less more named placed good =
      named_step name count all place items more one (drop (i + 1) all) named (now less) placed good

  -- or it has no name
  pub named_none : i < length all → (more : List NewSlice) (named : Bool)
      → IsPlacePushed (name_of (name place)) (option_map count one) named items more → named ≡ false
      → None ≡ named_all (new_of name count 0 all)
  named_none less more named placed bad =
      named_no name count all place items more one (drop (i + 1) all) named (now less) placed bad

  -- at the end
  pub named_end : length all ≤ i → Some items ≡ named_all (new_of name count 0 all)
  named_end done = search (rules, drop_of_length-le all done)

-- Providers that are made of them, one after another

-- how far the providers are made: what is left makes of this mesh what all make of the first one
pub record OfferedSoFar (t u : TopoView Config) (q r : Queued) (geom : ℕ) (rest all : List NewSlice) : Type 0 where
  pub same : with_room (with_slices_of (both u r) geom rest) t.room
      ≡ with_room (with_slices_of (both t q) geom all) t.room
  pub may : MayOffer u.topology geom
  pub can : AllByRecursion (CanAddPart u.topology) rest
  pub apart : ArePartsApart rest
  pub room : length rest ≤ u.room.providers
  pub spare : length rest ≤ r.spare
  pub left : q.spare + length rest ≤ r.spare + length all

-- what the making of one leaves
pub record IsOneOffer (u v : TopoView Config) (r s : Queued) (geom : ℕ) (x : NewSlice) : Type 0 where
  pub made : AreBoth v s (with_offer (both u r) geom x.name x.size 512)
  pub room : u.room.providers ≤ v.room.providers + 1
  pub spare : r.spare ≤ s.spare + 1

-- one more is made
one_offer : (t u v : TopoView Config) (q r s : Queued) (geom : ℕ) (x : NewSlice) (rest all : List NewSlice)
    → OfferedSoFar t u q r geom (x ∷ rest) all → IsOneOffer u v r s geom x → OfferedSoFar t v q s geom rest all
one_offer t u v q r s geom x rest all far one =
    search (
      rules,
      offers_carry geom rest (with_offer (both u r) geom x.name x.size 512) v.room,
      add_more u v geom x.name x.size 512 one.made.mesh rest far.apart.0 far.can.1,
    )

module _ {t u : TopoView Config} {q r : Queued} {geom : ℕ} {parts : List NewSlice} (i : ℕ)
    (far : OfferedSoFar t u q r geom (drop i parts) parts) where
  -- one of the list
  pub offer_step : (v : TopoView Config) (s : Queued) {x : NewSlice} → i < length parts → x ≡ get_or parts i x
      → IsOneOffer u v r s geom x → OfferedSoFar t v q s geom (drop (i + 1) parts) parts
  offer_step v s {x} less is one =
      one_offer t u v q r s geom x (drop (i + 1) parts) parts
      (subst (λ xs. OfferedSoFar t u q r geom xs parts) (first_left parts i x less is) far) one

  -- the end of the list
  done : length parts ≤ i → OfferedSoFar t u q r geom [] parts
  done all = subst (λ xs. OfferedSoFar t u q r geom xs parts) (drop_of_length-le parts all) far

  -- then all are made
  pub offer_end : length parts ≤ i → AreBoth u r (with_slices_of (both t q) geom parts)
  offer_end all = search (rules, done all)

  -- and as many places are spent at most
  pub offer_spare : length parts ≤ i → q.spare ≤ r.spare + length parts
  offer_spare all = omega (arith, (done all).left)

-- Named parts

-- the parts that were named are all of these
pub record AreAllNamed (xs parts : List NewSlice) : Type 0 where
  pub names : are_names parts ≡ true
  pub same : parts ≡ xs

module _ {A : Type 0} (f : A → List NewSlice) (xs : List NewSlice) (o : Option A)
    (named : option_map f o ≡ named_all xs) where
  -- so they are where each has a name
  pub all_named : (x : A) → o ≡ Some x → (parts : List NewSlice) → parts ≡ f x → AreAllNamed xs parts
  all_named x some parts are = search rules

  -- else one of these has none
  pub none_named : o ≡ None → are_names xs ≡ false
  none_named none = kept_none (are_names xs) xs (sym named ∙ ap (option_map f) none)

-- A geom over a provider

module _ (t : TopoView Config) (q : Queued) (kind : Kind) (name : List ℕ) (config : Config) (prov : ℕ)
    (parts : List NewSlice) where
  -- what is to be made
  abbrev table : Option QueuedMesh
  table = sliced (both t q) prov kind name config parts

  module _ (u v : TopoView Config) (kept : IsButForRoom u t)
      (risen : IsButForRoom v (with_geom_on u kind name config true (prov ∷ [])))
      (addable : list_all (is_addable t.topology) parts ≡ true) where
    -- the parts can be added to the new geom
    pub table_can : AllByRecursion (CanAddPart v.topology) parts
    table_can =
        subst (λ (ps : List Provider). AllByRecursion (CanAddPart (record v.topology { providers = ps })) parts)
        (sym (risen_providers t u v kind name config true (prov ∷ []) kept risen))
        (can_add_all t.topology parts addable)

    -- then it is made
    pub table_made : (w : TopoView Config) (r s : Queued) (id : ℕ) → r.events ≡ q.events
        → id ≡ t.topology.next_geom → are_names parts ≡ true
        → AreBoth w s (with_slices_of (both v r) id parts) → IsSomeAnd table (AreBoth w s)
    table_made w r s id same number named made =
        some-with table (AreBoth w s)
        (with_slices_of (over (both t q) prov kind name config) t.topology.next_geom parts)
        (rw (addable_free t.topology parts named addable) refl)
        (followed (λ m. with_slices_of m t.topology.next_geom parts) (offers_carry t.topology.next_geom parts) v w r s
        (over (both t q) prov kind name config)
        (record { mesh = risen_over t u v kind name config true (prov ∷ []) kept risen; events = same })
        (subst (λ n. AreBoth w s (with_slices_of (both v r) n parts)) number made))

  -- where a part can't be added nothing is made
  pub table_none : list_all (is_addable t.topology) parts ≡ false → MakesSizes table → table ≡ None
  table_none bad =
      search (
        rules,
        free_addable t.topology parts,
        part_sizes t.topology.next_geom parts (over (both t q) prov kind name config),
      )

  -- nor where one has no name
  pub table_unnamed : are_names parts ≡ false → table ≡ None
  table_unnamed bad = rw (unnamed_where t.topology parts bad) refl

-- what is answered where what is made has sizes of providers
abbrev pub IsAnsweredBy : {E : Type 0} → Result Accepted E → TopoView Config → Queued → QueuedMesh → Option QueuedMesh
    → Type 0
IsAnsweredBy r v s m made = IfOk r (λ answer. IsAccepted answer v s m made (MakesSizes made))

-- what was answered for a table is answered for an equal configuration and equal parts
pub sliced_as : {E : Type 0} {config other : Config} {parts more : List NewSlice} (m : QueuedMesh) (prov : ℕ)
    (kind : Kind) (name : List ℕ) (r : Result Accepted E) (v : TopoView Config) (s : Queued) → config ≡ other
    → parts ≡ more → IsAnsweredBy r v s m (sliced m prov kind name config parts)
    → IsAnsweredBy r v s m (sliced m prov kind name other more)
sliced_as {E} {config} {other} {parts} m prov kind name r v s same are answer = search rules

module _ (t : TopoView Config) (q : Queued) (p : Provider) (name : List ℕ) where
  -- what is to be made
  abbrev label : Option QueuedMesh
  label = labelled (both t q) p name

  -- the configuration
  abbrev below : Config
  below = Label (Some t.topology.next_consumer)

  -- what is offered with it
  abbrev offered : Config → List ℕ → ℕ → QueuedMesh
  offered config other size =
      with_offer (over (both t q) p.number kinds.Label p.name config) t.topology.next_geom other size p.sector

  -- the name of a label that is free
  pub label_free : (o : List ℕ) → free_name t.topology name ≡ Some o
      → (are_names_free t.topology (name ∷ []) ≡ true) × (name ≡ o)
  label_free o e = kept_some (are_names_free t.topology (name ∷ [])) name o e

  -- isn't taken
  pub label_untaken : are_names_free t.topology (name ∷ []) ≡ true → is_name_taken t.topology name ≡ false
  label_untaken free = search rules

  -- the label that is made is what was offered, where configuration, name and size are equal
  pub label_made : (w : TopoView Config) (s : Queued) (config : Config) (other : List ℕ) (size : ℕ)
      → are_names_free t.topology (name ∷ []) ≡ true → config ≡ below → name ≡ other → size ≡ p.size - p.sector
      → AreBoth w s (offered config other size) → IsSomeAnd label (AreBoth w s)
  label_made w s config other size free is same fits made = search rules

  -- no label where its name isn't free
  pub label_taken : free_name t.topology name ≡ None → label ≡ None
  label_taken e = rw (kept_none (are_names_free t.topology (name ∷ [])) name e) refl

  -- nor where its provider would have no size of one
  pub label_small : is_provider_size (p.size - p.sector) p.sector ≡ false → MakesSizes label → label ≡ None
  label_small small =
      gone_without (are_names_free t.topology (name ∷ [])) (offered below name (p.size - p.sector))
      (λ free sizes.
      let good : is_provider_size (p.size - p.sector) p.sector ≡ true =
      (offer_sized (over (both t q) p.number kinds.Label p.name below) t.topology.next_geom name (p.size - p.sector)
      p.sector sizes).1 in
      let never : false ≡ true = sym small ∙ good in cc)

-- Where only the room changed

-- nothing changed
pub unchanged : (t : TopoView Config) (q : Queued) → AreBoth t q (both t q)
unchanged t q = record { mesh = refl; events = refl }

-- what may be stood on may be where only the room changed
pub stands_kept : (t u : TopoView Config) (prov : ℕ) → IsButForRoom u t → CanStandOn t.topology prov
    → All (CanStandOn u.topology) (prov ∷ [])
stands_kept t u prov kept can = search rules
