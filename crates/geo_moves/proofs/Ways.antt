-- The way of a request by the graph: whether its provider carries an error, and what it can be cut into.
use Rattle.std.specs.Prelude.{◌≡◌, ℕ, ◌≤◌, ◌==◌, Bool, true, false, ◌&&◌, List, [], ◌∷◌, find, Some, None, if◌then◌else◌, map, ◌≢◌, ◌<◌, length, Option, is_none, Contains, IsSome, IsSomeAnd, IsTrue, MatchOption}
use Rattle.std.specs.List.{AllByRecursion, list_any}
use Rattle.std.proofs.Common.{refl, ◌∙◌, ap, arith, inl, inr, sym, subst}
use Rattle.std.proofs.lemmas.Bool.{eq-eqb, eqb-true, cases_Bool, false_from_ne_true}
use Rattle.std.proofs.lemmas.List.Elements.{All-contains}
use Rattle.geo_model.specs.Graph.{IsInOrder}
use Rattle.geo_model.specs.Topology.{Topology, Provider, provider_at, is_errored, Geom, geom_at, provider_with_geom, Consumer, consumer_at, providers_of}
use Rattle.geo_laws_graph.proofs.Members.{find-Contains, Contains-filter, nothing_in}
use Rattle.geo_laws_graph.proofs.Numbered.{any-contained, number_found, unique}
use Rattle.geo_mesh.specs.Graph.{IsSoundGraph, IsOffer}
use Rattle.geo_mesh.specs.Topo.{is_provider_size}
use Rattle.std.specs.Option.{option_map_or}
use Rattle.geo_base.specs.declared.errno.Errno.TheVariants.{ENXIO, EIO}
use Rattle.geo_model.specs.declared.step.Owner.TheVariants as owners
use Rattle.geo_model.specs.World.{BioOf, Config, Disk, World, Bio, Stripe, Handle}
use Rattle.geo_model.specs.Bios.{Bounces, new_bio, way_at, way_of, PieceTarget, piece_targets}
use Rattle.geo_bio.specs.declared.bio.Held.{Held}
use Rattle.std.proofs.lemmas.Simd.{map-map}
use Rattle.geo_model.specs.declared.span.Piece.{Piece}
use Rattle.geo_class.specs.Targets.{AreTargets}
use Rattle.geo_moves.specs.declared.cut.Cut.{Cut}
use Rattle.geo_moves.specs.Ways.{IsCut, through, CanBeCut}
use Rattle.geo_base.specs.declared.kind.Kind.{Kind}
use Rattle.geo_base.specs.declared.kind.Kind.TheVariants as kinds
use Rattle.geo_base.specs.declared.limits.TheConstants.{MAX_MEDIA_BYTES}
use Rattle.geo_model.specs.Words.{names_number}
use Rattle.geo_model.specs.Place.{place, pieces, component, disk_of}
use Rattle.geo_model.specs.Acceptance.{places_of, joined_size}
use Rattle.geo_model.specs.Sound.{IsOfItsClass, IsMediaSize, IsPlaceInside, HasItsConsumer, fits_kind}
use Rattle.geo_model.specs.SoundBios.{IsRangeInside}
use Rattle.geo_model.specs.Steady.{WaitsForPlaces}
use Rattle.geo_model.specs.Fitting.{Firm, HasItsSum}
use Rattle.geo_model.proofs.DemandLemmas.{all_weaker, find_passes}
use Rattle.geo_laws_bios.proofs.Pieces.{below_of, LiesBelow, is_placed, range_of, pieces_below}
use Rattle.geo_laws_bios.proofs.Splitting.{GoesDown}
use Rattle.geo_laws_bios.proofs.Descending.{all_go, some_go}
use Rattle.geo_handles.specs.Handles.{holding_handle}
use Rattle.geo_class.specs.Cover.{LiesBefore, IsAsLong}
use Rattle.geo_class.proofs.CoverLemmas.{what_lies_is_covered}
use Rattle.geo_base.proofs.Options.{some_weaker}

-- Whether a provider carries an error, by what is found at its number; and its sector size

-- nothing of a number passes where nothing has the number
nothing_at : {X : Type 0} (at test : X → Bool) (xs : List X) → find at xs ≡ None
    → list_any (λ y. at y && test y) xs ≡ false
nothing_at at test [] none = refl
nothing_at at test (x ∷ xs) none =
    elim (cases_Bool (at x)) [
      | inl e ↦ (let bad : Some x ≡ None = rw e at none in absurd cc)
      | inr e ↦ rw e (nothing_at at test xs (rw e at none))
    ]

-- nothing of a number passes where the only one that has it doesn't
module _ {X : Type 0} (at test : X → Bool) (x : X) (fails : test x ≡ false) where
  only_fails : (ys : List X) → AllByRecursion (λ y. at y ≡ true → y ≡ x) ys
      → list_any (λ z. at z && test z) ys ≡ false
  only_fails [] alone = refl
  only_fails (y ∷ ys) alone =
      elim (cases_Bool (at y)) [
        | inl e ↦ (let here : test y ≡ false = ap test (alone.0 e) ∙ fails in rw (e, here) (only_fails ys alone.1))
        | inr e ↦ rw e (only_fails ys alone.1)
      ]

module _ {C : Type 0} (t : Topology C) (order : IsInOrder t) (n : ℕ) (x : Provider)
    (found : provider_at t n ≡ Some x) where
  errored_by : (b : Bool) → x.errored ≡ b → is_errored t n ≡ b
  errored_by true e =
      let number : (x.number == n) ≡ true =
      eq-eqb x.number n (number_found (λ (y : Provider). y.number) t.providers n x found) in
      any-contained (λ (y : Provider). (y.number == n) && y.errored) t.providers x
      (find-Contains (λ (y : Provider). y.number == n) t.providers x found) (rw (number, e) refl)
  errored_by false e =
      only_fails (λ (y : Provider). y.number == n) (λ y. y.errored) x e t.providers
      (unique (λ (y : Provider). y.number) t.next_provider n t.providers x order.providers found)

  -- what is found at the number tells it
  pub errored_found : is_errored t n ≡ x.errored
  errored_found = errored_by x.errored refl

-- where there is no provider none carries an error
pub errored_nowhere : {C : Type 0} (t : Topology C) (n : ℕ) → provider_at t n ≡ None → is_errored t n ≡ false
errored_nowhere t n none = nothing_at (λ (y : Provider). y.number == n) (λ y. y.errored) t.providers none

-- a sector has at least 512 bytes
pub wide_sector : {C : Type 0} (t : Topology C) → IsSoundGraph t → (n : ℕ) (x : Provider)
    → provider_at t n ≡ Some x → 512 ≤ x.sector
wide_sector t sound n x found =
    let offer = All-contains IsOffer t.providers x sound.orderly.offers
    (find-Contains (λ (y : Provider). y.number == n) t.providers x found) in
    by (x.sector == 512) refl (x.sector == 4096) refl offer.sizes
  where
    by : (a : Bool) → (x.sector == 512) ≡ a → (b : Bool) → (x.sector == 4096) ≡ b
        → is_provider_size x.size x.sector ≡ true → 512 ≤ x.sector
    by true e b f is = omega (arith, eqb-true x.sector 512 e)
    by false e true f is = omega (arith, eqb-true x.sector 4096 f)
    by false e false f is = let bad : false ≡ true = rw (e, f) at is in absurd cc

-- The way of a request reads only its command, its range and its target

-- a bio with the same command, range and target
abbrev pub plain : {R : Type 0} → BioOf R → BioOf Held
plain x = new_bio 0 x.cmd x.offset x.len [] 0 x.target owners.Taste

way_at_plain : {R : Type 0} (x : BioOf R) (p : Provider) (g : Geom Config) (config : Config)
    → way_at x p g config ≡ way_at (plain x) p g config
way_at_plain x p g (Disk disk) = refl
way_at_plain x p g _ = refl

-- it goes the same way
pub way_plain : {R : Type 0} (t : Topology Config) (x : BioOf R) → way_of t x ≡ way_of t (plain x)
way_plain t x i =
    if is_errored t x.target
    then Bounces ENXIO
    else option_map_or (λ (f : Provider × Geom Config). way_at_plain x f.0 f.1 f.1.config i)
    (provider_with_geom t x.target) (Bounces EIO)

-- By the graph

module _ {R : Type 0} (t : Topology Config) (x : BioOf R) where
  -- a provider with an error
  pub way_errored : is_errored t x.target ≡ true → way_of t x ≡ Bounces ENXIO
  way_errored e = rw e refl

  -- no provider
  pub way_nowhere : is_errored t x.target ≡ false → provider_at t x.target ≡ None → way_of t x ≡ Bounces EIO
  way_nowhere e none = rw (e, none) refl

  -- no geom
  pub way_bare : (p : Provider) → is_errored t x.target ≡ false → provider_at t x.target ≡ Some p
      → geom_at t p.geom ≡ None → way_of t x ≡ Bounces EIO
  way_bare p e found none = rw (e, found, none) refl

  -- a provider and its geom
  pub way_there : (p : Provider) (g : Geom Config) → is_errored t x.target ≡ false → provider_at t x.target ≡ Some p
      → geom_at t p.geom ≡ Some g → way_of t x ≡ way_at x p g g.config
  way_there p g e found of_it = rw (e, found, of_it) refl

-- Pieces and consumers as the targets of the mesh's definitions

-- so many consumers and pieces are a cut
pub cut_of : (t : Topology Config) (cut : Cut) (zs : List PieceTarget) (ways : List ℕ) (list : List Piece)
    → AreTargets zs ways list → cut.pieces.items ≡ list → cut.targets.items ≡ map (through t) ways → IsCut t cut zs
cut_of t cut zs ways list are pieces targets = record {
  pieces = pieces ∙ sym are.pieces;
  targets =
      targets
      ∙ ap (map (through t)) (sym are.consumers)
      ∙ map-map (through t) (λ (z : PieceTarget). z.consumer) zs;
}

-- What a firm mesh tells of a request that goes down in pieces: its range is covered, it has pieces, and each goes
-- through a consumer that lives and that no handle has

-- only STRIPE has the configuration of a stripe
stripe_kind : (kind : Kind) (id : Option ℕ) (stripe : ℕ) (places : List (Option ℕ)) (sizes : List ℕ)
    → IsTrue (fits_kind kind (Stripe id stripe places sizes)) → kind ≡ kinds.Stripe
stripe_kind kinds.Stripe id stripe places sizes fits = refl
stripe_kind _ id stripe places sizes fits = absurd cc

-- a list that isn't empty has some
some_length : {X : Type 0} (xs : List X) → xs ≢ [] → 1 ≤ length xs
some_length [] some = absurd (some refl)
some_length (x ∷ xs) some = omega arith

-- a handle with a consumer of another geom than DEV isn't there
module _ (w : World) (firm : Firm w) (c : ℕ) (v : Consumer) (found : consumer_at w.topology c ≡ Some v)
    (apart : v.geom ≢ 1) where
  held_by : (h : Handle) (o : Option ℕ) → h.consumer ≡ o → names_number o c ≡ true
      → MatchOption o (h.dead ≡ true) (λ n. IsSomeAnd (consumer_at w.topology n) (λ x. x.geom ≡ 1)) → ⊥
  held_by h None is names fact = cc
  held_by h (Some n) is names fact =
      let same : n ≡ c = eqb-true n c names in
      let there : IsSomeAnd (consumer_at w.topology c) (λ x. x.geom ≡ 1) =
      subst (λ (m : ℕ). IsSomeAnd (consumer_at w.topology m) (λ x. x.geom ≡ 1)) same fact in
      apart (rw found at there)

  -- so no handle has the consumer
  pub nobodys : (o : Option Handle) → holding_handle w.handles c ≡ o → o ≡ None
  nobodys None e = refl
  nobodys (Some h) e =
      let stands = find-Contains (λ (x : Handle). names_number x.consumer c) w.handles h e in
      let its : HasItsConsumer w.topology h =
      All-contains (HasItsConsumer w.topology) w.handles h firm.handles.handles stands in
      absurd (held_by h h.consumer refl (find_passes (λ (x : Handle). names_number x.consumer c) w.handles h e) its)

module _ (w : World) (firm : Firm w) (x : Bio) (here : Contains w.bios x) (p : Provider)
    (at_target : provider_at w.topology x.target ≡ Some p)
    (g : Geom Config) (of_it : geom_at w.topology p.geom ≡ Some g) (no_disk : disk_of g.config ≡ None) where
  abbrev t : Topology Config
  t = w.topology

  p_stands : Contains t.providers p
  p_stands = find-Contains (λ (v : Provider). v.number == x.target) t.providers p at_target

  g_stands : Contains t.geoms g
  g_stands = find-Contains (λ (v : Geom Config). v.number == p.geom) t.geoms g of_it

  geom_number : g.number ≡ p.geom
  geom_number = number_found (λ (v : Geom Config). v.number) t.geoms p.geom g of_it

  -- the provider is one of its geom
  p_offered : Contains (providers_of t g.number) p
  p_offered = Contains-filter (λ (v : Provider). v.geom == g.number) t.providers p p_stands
      (eq-eqb p.geom g.number (sym geom_number))

  media : IsMediaSize p.size p.sector
  media = All-contains (λ (v : Provider). IsMediaSize v.size v.sector) t.providers p firm.graph.providers.sizes p_stands

  -- each offset lies before MAX_MEDIA_BYTES
  lies : LiesBefore g.config p.name p.size
  lies o low =
      some_weaker (IsPlaceInside t g p) (λ spot. spot.offset < MAX_MEDIA_BYTES)
      (λ spot inside.
      let b = below_of t g p spot inside in
      let size : IsMediaSize b.provider.size b.provider.sector =
      All-contains (λ (v : Provider). IsMediaSize v.size v.sector) t.providers b.provider firm.graph.providers.sizes
      (find-Contains (λ (v : Provider). v.number == b.under) t.providers b.provider b.stands) in
      omega (arith, b.low, size.limited))
      (place g.config p.name o) (is_placed w firm x here p at_target g of_it no_disk o low)

  -- no place is free
  whole : list_any is_none (places_of g.config) ≡ false
  whole = false_from_ne_true (list_any is_none (places_of g.config)) (λ free.
      let waits : WaitsForPlaces w.topology g =
      All-contains (WaitsForPlaces w.topology) t.geoms g firm.graph.partial g_stands in
      nothing_in p (subst (λ ps. Contains ps p) (waits free) p_offered))

  -- a stripe is as long as its provider
  long_by : (config : Config) → g.config ≡ config → IsAsLong config p.size
  long_by (Stripe id stripe places sizes) is =
      let class : IsOfItsClass g = All-contains IsOfItsClass t.geoms g firm.graph.numbers.classes g_stands in
      let kind = stripe_kind g.kind id stripe places sizes (rw is at class.config) in
      let sum_fact : HasItsSum t g = All-contains (HasItsSum t) t.geoms g firm.sizes.sums g_stands in
      let total : p.size ≡ joined_size g.config =
      All-contains (λ (v : Provider). v.size ≡ joined_size g.config) (providers_of t g.number) p
      (sum_fact (inr kind)) p_offered in
      let size : p.size ≡ joined_size (Stripe id stripe places sizes) = total ∙ ap joined_size is in
      omega (arith, size)
  long_by _ is = tt

  -- its range can be cut
  pub can_be_cut : CanBeCut g.config p x
  can_be_cut moves =
      let range : IsRangeInside x p = range_of w firm x here p at_target moves in
      record {
        some_byte = omega (arith, range.some_byte);
        inside = range.inside;
        covered = what_lies_is_covered g.config p.name p.size media.positive lies whole (long_by g.config refl);
        filled =
            all_weaker (LiesBelow w firm x here p at_target g of_it no_disk moves)
            (λ (s : Piece). IsSome (component g.config s.child))
            (λ s lies.
            let b = lies.1 0 lies.0.some in
            let is : component g.config s.child ≡ Some b.number = b.is in rw is refl)
            (pieces g.config p x.offset x.len)
            (pieces_below w firm x here p at_target g of_it no_disk moves);
      }

  -- it has pieces
  pub some_targets : 1 ≤ length (piece_targets g.config p x)
  some_targets = some_length (piece_targets g.config p x) (some_go w firm x here p at_target g of_it no_disk)

  -- no provider is DEV's
  not_dev : p.geom ≢ 1
  not_dev is =
      let its : (p.geom == 1) ≡ true = eq-eqb p.geom 1 is in
      let offered : Contains (providers_of t 1) p =
      Contains-filter (λ (v : Provider). v.geom == 1) t.providers p p_stands its in
      nothing_in p (subst (λ ps. Contains ps p) firm.graph.ranks.dev.no_provider offered)

  -- each piece goes through a consumer that lives and is no handle's
  abbrev pub GoesThrough : PieceTarget → Type 0
  GoesThrough z = IsSome (consumer_at t z.consumer) × (holding_handle w.handles z.consumer ≡ None)

  pub all_through : AllByRecursion GoesThrough (piece_targets g.config p x)
  all_through =
      all_weaker (GoesDown w x) GoesThrough
      (λ z goes. (
        (let found : consumer_at t z.consumer ≡ Some goes.consumer = goes.found in rw found refl),
        nobodys w firm z.consumer goes.consumer goes.found (λ is. not_dev (sym (goes.of_geom p at_target) ∙ is))
            (holding_handle w.handles z.consumer) refl,
      ))
      (piece_targets g.config p x)
      (all_go w firm x here p at_target g of_it no_disk)
