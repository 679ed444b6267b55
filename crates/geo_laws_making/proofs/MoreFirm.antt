-- A graph that has come to more: what is found in it, and that a firm world with it is firm.
use Rattle.std.specs.Prelude.{◌≡◌, ◌≢◌, ◌⊎◌, ℕ, ◌<◌, ◌≤◌, ◌/◌, ◌%◌, ◌==◌, Bool, true, false, ◌&&◌, ◌||◌, List, map, Option, Some, None, All, Contains, IsSome, IsSomeAnd, IfSome, IsTrue, option_and_then, slice_get, not, length}
use Rattle.std.specs.List.{enumerate_from, list_any}
use Rattle.std.proofs.Common.{inl, inr, refl, sym, ◌∙◌, ap, subst, arith, get_or}
use Rattle.std.proofs.lemmas.Bool.{and_parts, eqb-true, cases_eq, not-true}
use Rattle.std.proofs.lemmas.List.Elements.{All-contains, All-weaker, Contains-get_or}
use Rattle.geo_base.proofs.FindLists.{some-passes}
use Rattle.geo_base.proofs.Options.{some_weaker}
use Rattle.geo_base.specs.declared.limits.TheConstants.{UNTASTED_RANK}
use Rattle.geo_model.specs.Words.{is_read, is_flush}
use Rattle.geo_model.specs.Topology.{Topology, Geom, Provider, Consumer, geom_at, provider_at, consumer_at, geom_of_provider, is_withering, providers_of}
use Rattle.geo_model.specs.Rank.{rank}
use Rattle.geo_model.specs.Demand.{have, want, is_zero}
use Rattle.geo_model.specs.Bios.{piece_targets, disk_at}
use Rattle.geo_model.specs.Place.{Spot, place, component, disk_of, components}
use Rattle.geo_model.specs.World.{World, Config, Taste, Bio, granted_in, children_of, is_sent, is_busy, Asked, NoClass, NextSector, ReadOut, ReadBack, is_taste_root}
use Rattle.geo_model.specs.Graph.{IsInOrder}
use Rattle.geo_model.specs.Sound.{IsMediaSize, ProvidersHold, CountsHold, IsOfItsClass, HasDiskSizes, NumbersHold, IsHandleConsumer, HasItsConsumer, HandlesHold, IsPlaceInside, IsPlaced, LeadsDown, ChainHolds, IsTasteInOrder}
use Rattle.geo_model.specs.SoundBios.{IsRangeInside, HasCountFor, IsBioInOrder, shape_of_child, shape_of_piece, HasItsPieces, IsFamilyInOrder, DisksHold}
use Rattle.geo_model.specs.Fitting.{Firm, IsWholeIn, FitsBelow, sizes_of, FitsPlace, FitsPlaces, IsAskedInOrder, HasOneProvider, PlacesHold, HasItsSum, TasteReadHolds, GraphHolds, SizesHold}
use Rattle.geo_laws_graph.proofs.Members.{has, find-Contains, filter-Contains}
use Rattle.geo_laws_graph.proofs.Numbered.{any-contained, number_found}
use Rattle.geo_laws_graph.proofs.Living.{sound-order}
use Rattle.geo_laws_counts.proofs.LimitFacts.{all_of}
use Rattle.geo_laws_life.proofs.Frames.{has_its-still, tasting_stays, IsOver, Leads, fact_still, IsPart, FitsOver}
use Rattle.geo_laws_life.proofs.Found.{found-with, some-with, at-some, if-found, at-found, one-found, some-there}
use Rattle.geo_laws_life.proofs.LessLooks.{disk_there}
use Rattle.geo_laws_making.specs.MoreLaws.{IsGrownFrom, StandsGrown, ProviderFits, IsMore, MoreIsFirm}
use Rattle.std.specs.Option.{option_map_or}
use Rattle.geo_base.specs.Sectors.{IsSectorSize}
use Rattle.geo_base.specs.declared.kind.Kind.TheVariants as kinds
use Rattle.geo_base.proofs.MemberLists.{zip_members}
use Rattle.geo_model.specs.declared.class.Facts.{Facts}
use Rattle.geo_model.specs.declared.step.Event.{Event}
use Rattle.geo_model.specs.Events.{provider_of_event}
use Rattle.geo_model.specs.Acceptance.{taste_where, places_of, joined_size}
use Rattle.geo_model.specs.Tasting.{facts_of}
use Rattle.geo_model.specs.Steady.{has_open_provider, HasItsComponents, WaitsForPlaces}
use Rattle.geo_laws_graph.proofs.Lists.{found_itself}
use Rattle.geo_laws_life.proofs.Less.{remade}

-- a provider that stands with its geom as it stood
pub record StandsBoth (t u : Topology Config) (p : ℕ) : Type 0 where
  pub provider : Provider
  pub was : provider_at t p ≡ Some provider
  pub found : provider_at u p ≡ Some provider
  pub geom : Geom Config
  pub was_of : geom_at t provider.geom ≡ Some geom
  pub of : geom_at u provider.geom ≡ Some geom

-- a provider below that may have grown
pub record WasBelow (t : Topology Config) (o : Option ℕ) (q : Provider) : Type 0 where
  pub before : Provider
  pub was : option_and_then (provider_at t) o ≡ Some before
  pub is : IsGrownFrom before q

module _ (t u : Topology Config)
    (grown : (m : ℕ) (x : Provider) → provider_at t m ≡ Some x → StandsGrown x (provider_at u m)) where
  -- what is below then was below, and may have grown
  pub was_below : (o : Option ℕ) → IsSome (option_and_then (provider_at t) o) → (q : Provider)
      → option_and_then (provider_at u) o ≡ Some q → WasBelow t o q
  was_below None there q found = absurd (let no : ⊥ = cc in no)
  was_below (Some m) there q found =
      let x = has (provider_at t m) there in
      let s = grown m x.item x.is in
      record {
        before = x.item;
        was = x.is;
        is = subst (IsGrownFrom x.item) (one-found (provider_at u m) s.now q s.found found) s.is;
      }

  -- so a place that fitted fits
  pub fits_grown : (o : Option ℕ) → IsSome (option_and_then (provider_at t) o) → (size : ℕ)
      → IfSome (option_and_then (provider_at t) o) (λ q. (size ≤ q.size) × (size % q.sector ≡ 0))
      → IfSome (option_and_then (provider_at u) o) (λ q. (size ≤ q.size) × (size % q.sector ≡ 0))
  fits_grown o there size fact =
      if-found (option_and_then (provider_at u) o) (λ q. (size ≤ q.size) × (size % q.sector ≡ 0)) (λ q found.
      let b = was_below o there q found in
      let fit = at-found (option_and_then (provider_at t) o) (λ q. (size ≤ q.size) × (size % q.sector ≡ 0)) b.before
      b.was fact in
      let low : size ≤ b.before.size = fit.0 in
      let larger : b.before.size ≤ q.size = b.is.larger in
      (omega arith, subst (λ m. size % m ≡ 0) (sym (ap (λ (z : Provider). z.sector) b.is.same)) fit.1))

  -- and one that was inside is, where consumers stand
  pub inside_grown : ((m : ℕ) (c : Consumer) → consumer_at t m ≡ Some c → consumer_at u m ≡ Some c) → (g : Geom Config)
      (p : Provider) (spot : Spot) (a b : Option ℕ) → ((m : ℕ) → a ≡ Some m → b ≡ Some m)
      → IsSomeAnd (option_and_then (consumer_at t) a) (IsOver t g p spot)
      → IsSomeAnd (option_and_then (consumer_at u) b) (IsOver u g p spot)
  inside_grown still g p spot None b same fact = absurd fact
  inside_grown still g p spot (Some m) b same fact =
      let d = found-with (consumer_at t m) (IsOver t g p spot) fact in
      some-with (option_and_then (consumer_at u) b) (IsOver u g p spot) d.item
      (ap (option_and_then (consumer_at u)) (same m refl) ∙ still m d.item d.is)
      (d.fact.0, below d.item.provider d.fact.1)
    where
      -- by what the consumer is attached to
      below : (o : Option ℕ)
          → IsSomeAnd (option_and_then (provider_at t) o) (λ r. (spot.offset < r.size) × (r.sector ≡ p.sector))
          → IsSomeAnd (option_and_then (provider_at u) o) (λ r. (spot.offset < r.size) × (r.sector ≡ p.sector))
      below None under = under
      below (Some n) under =
          let r = found-with (provider_at t n) (λ r. (spot.offset < r.size) × (r.sector ≡ p.sector)) under in
          let s = grown n r.item r.is in
          let short : spot.offset < r.item.size = r.fact.0 in
          let larger : r.item.size ≤ s.now.size = s.is.larger in
          some-with (provider_at u n) (λ r. (spot.offset < r.size) × (r.sector ≡ p.sector)) s.now s.found
          (omega arith, ap (λ (z : Provider). z.sector) s.is.same ∙ r.fact.1)

-- counts that are enough stay so where they are no less
enough : (b : Bool) (r n s m : ℕ) → r ≤ s → n ≤ m → (IsTrue b → 0 < r) × (b ≡ false → 0 < n)
    → (IsTrue b → 0 < s) × (b ≡ false → 0 < m)
enough b r n s m first second counts =
    (λ e. let x : 0 < r = counts.0 e in omega arith, λ e. let x : 0 < n = counts.1 e in omega arith)

-- what is asked stays in order where the facts are the same
asked_still : (t u : Topology Config) (p : Provider) → facts_of u p ≡ facts_of t p → (a : Asked)
    → IsAskedInOrder t p a
    → IsAskedInOrder u p a
asked_still t u p facts NoClass fact = fact
asked_still t u p facts (NextSector kind sector) fact = (
  subst (λ f. IsSome (taste_where kind f))
      (sym facts) fact.0,
  fact.1,
)
asked_still t u p facts (ReadOut kind) fact = subst (λ f. IsSome (taste_where kind f)) (sym facts) fact
asked_still t u p facts (ReadBack kind got) fact = (
  subst (λ f. IsSome (taste_where kind f)) (sym facts) fact.0,
  fact.1,
)

-- the facts, by the class and the provider
abbrev with_kind : Provider → Option (Geom Config) → Facts
with_kind p o = record {
  kind = option_map_or (λ (x : Geom Config). x.kind) o kinds.Disk;
  sector = p.sector;
  sectors = p.size / p.sector;
}

-- the provider that is found through a number that there may be
pub record Through {X Y : Type 0} (f : X → Option Y) (o : Option X) (y : Y) : Type 0 where
  pub first : X
  pub is : o ≡ Some first
  pub then : f first ≡ Some y

-- what is found so
pub through : {X Y : Type 0} (f : X → Option Y) (o : Option X) (y : Y) → option_and_then f o ≡ Some y
    → Through f o y
through f None y e = absurd (let no : ⊥ = cc in no)
through f (Some x) y e = record { first = x; is = refl; then = e }

-- a taste isn't too high where its provider and the geom of that stand, and the rank of the geom is what it was
pub tastes-low : (w : World) (u : Topology Config) → Firm w
    → ((s : Taste) → w.taste ≡ Some s → (x : Provider) → provider_at w.topology s.provider ≡ Some x
    → (h : Geom Config) → geom_at w.topology x.geom ≡ Some h
    → (geom_of_provider u s.provider ≡ Some h) × (rank u h.number ≡ rank w.topology h.number))
    → IfSome w.taste (λ s. IsSomeAnd (geom_of_provider u s.provider) (λ h. rank u h.number < UNTASTED_RANK))
tastes-low w u firm still =
    if-found w.taste (λ s. IsSomeAnd (geom_of_provider u s.provider) (λ h. rank u h.number < UNTASTED_RANK)) (λ s e.
    let old = at-found w.taste (IsTasteInOrder w.topology) s e firm.taste.order in
    let h = found-with (geom_of_provider w.topology s.provider) (λ h. rank w.topology h.number < UNTASTED_RANK)
    old.rank in
    let x = through (λ (x : Provider). geom_at w.topology x.geom) (provider_at w.topology s.provider) h.item h.is in
    let now = still s e x.first x.is h.item x.then in
    some-with (geom_of_provider u s.provider) (λ h. rank u h.number < UNTASTED_RANK) h.item now.0
    (subst (λ m. m < UNTASTED_RANK) (sym now.1) h.fact))

module _ (w : World) (u : Topology Config) (g : Geom Config) (firm : Firm w) (more : IsMore w u g) where
  -- the graph before
  abbrev t : Topology Config
  t = w.topology

  -- it stood in order
  before_order : IsInOrder t
  before_order = sound-order w firm.graph.numbers

  -- what held of each geom and still holds of all but the one, and holds of the one, holds of each
  each_geom : (Before After : Geom Config → Type 0) → All Before t.geoms
      → ((y : Geom Config) → Contains t.geoms y → y.number ≢ g.number → Before y → After y) → After g
      → All After u.geoms
  each_geom Before After held still own = all_of After u.geoms (λ y here.
      elim (more.geoms y here) [
        | inl old ↦ still y old.0 old.1 (All-contains Before t.geoms y held old.0)
        | inr same ↦ subst After (sym same) own
      ])

  -- and so with providers, where it holds of each that fits
  each_provider : (Before After : Provider → Type 0) → All Before t.providers
      → ((y : Provider) → Contains t.providers y → y.geom ≢ g.number → Before y → After y)
      → ((y : Provider) → ProviderFits u g y → After y) → All After u.providers
  each_provider Before After held still own = all_of After u.providers (λ y here.
      elim (more.providers y here) [
        | inl old ↦ still y old.0 old.1 (All-contains Before t.providers y held old.0)
        | inr made ↦ own y made
      ])

  -- a geom that withers did before, and isn't the one
  pub withered_before : (n : ℕ) → is_withering u n ≡ true → (n ≢ g.number) × (is_withering t n ≡ true)
  withered_before n withers =
      let one = some-passes (λ (x : Geom Config). (x.number == n) && x.withering) u.geoms withers in
      let parts = and_parts (one.item.number == n) one.item.withering one.passes in
      let number = eqb-true one.item.number n parts.0 in
      elim (more.geoms one.item one.here) [
        | inl old ↦ (
          λ same. old.1 (number ∙ same),
          any-contained (λ (x : Geom Config). (x.number == n) && x.withering) t.geoms one.item old.0 one.passes,
        )
        | inr same ↦
            (let no : true ≡ false = sym parts.1 ∙ ap (λ (z : Geom Config). z.withering) same ∙ more.fits.upright in
            absurd (let bad : ⊥ = cc in bad))
      ]

  -- each provider has its name and size
  more-providers : ProvidersHold u
  more-providers = record {
    names = more.names;
    withering = each_provider (λ (x : Provider). IsTrue (is_withering t x.geom) → x.errored ≡ true)
        (λ (x : Provider). IsTrue (is_withering u x.geom) → x.errored ≡ true) firm.graph.providers.withering
        (λ y here apart old withers. old (withered_before y.geom withers).1)
        (λ y made withers. absurd ((withered_before y.geom withers).0 made.geom));
    sizes = each_provider (λ (x : Provider). IsMediaSize x.size x.sector)
        (λ (x : Provider). IsMediaSize x.size x.sector) firm.graph.providers.sizes (λ y here apart old. old)
        (λ y made. made.size);
  }

  -- no count is in another's way or above the limit
  more-counts : CountsHold (granted_in w) u
  more-counts = record { exclusive = more.exclusive; limited = more.limited }

  -- numbers and classes hold
  more-numbers : NumbersHold u w.disks
  more-numbers = record {
    geoms = more.order.geoms;
    providers = more.order.providers;
    consumers = more.order.consumers;
    classes = each_geom IsOfItsClass IsOfItsClass firm.graph.numbers.classes (λ y here apart old. old)
        more.fits.class;
    one_geom_of_disk = more.disks;
    disk_sizes = each_geom (HasDiskSizes t w.disks) (HasDiskSizes u w.disks) firm.graph.numbers.disk_sizes
        (λ y here apart old.
        subst (λ (ps : List Provider). IfSome (disk_of y.config) (λ d. IsSomeAnd (slice_get w.disks d) (λ disk.
        All (λ (p : Provider). (p.sector ≡ disk.sector) × (p.size ≡ disk.size)) ps)))
        (sym (more.others y.number apart)) old)
        more.fits.disk_sizes;
  }

  -- handles and the taste's consumer hold
  more-handles : HandlesHold u w.handles w.next_handle w.taste
  more-handles = record {
    numbers = firm.handles.numbers;
    consumers = subst (All (IsHandleConsumer w.handles)) (sym more.dev) firm.handles.consumers;
    handles = All-weaker (HasItsConsumer t) (HasItsConsumer u)
        (has_its-still t u (λ m c e one. more.old_consumers m c e)) w.handles firm.handles.handles;
    taste = tasting_stays t u more.tasting w.taste firm.handles.taste;
  }

  -- Places

  -- a place is still inside, and so is each offset
  placed : (h : Geom Config) (p : Provider) → IsPlaced t h p → IsPlaced u h p
  placed h p old o short =
      some_weaker (IsPlaceInside t h p) (IsPlaceInside u h p) (λ spot.
      inside_grown t u more.old_providers more.old_consumers h p spot (component h.config spot.component)
      (component h.config spot.component) (λ m e. e)) (place h.config p.name o) (old o short)

  -- an old provider leads down
  old_leads : (p : Provider) → Contains t.providers p → p.geom ≢ g.number → LeadsDown (granted_in w) t p
      → LeadsDown (granted_in w) u p
  old_leads p here apart old =
      let h = found-with (geom_at t p.geom) (Leads (granted_in w) t p) old in
      some-with (geom_at u p.geom) (Leads (granted_in w) u p) h.item (more.old_geoms p.geom h.item apart h.is) (λ used.
      elim (h.fact (before h.item h.is used)) [
        | inl disk ↦ inl disk
        | inr is_placed ↦ inr (placed h.item p is_placed)
      ])
    where
      -- it was used before
      before : (h : Geom Config) → geom_at t p.geom ≡ Some h
          → (is_zero (have (granted_in w) u p.number) ≡ false) ⊎ (h.withering ≡ false)
          → (is_zero (have (granted_in w) t p.number) ≡ false) ⊎ (h.withering ≡ false)
      before h found (inl opened) =
          elim (more.opened p here opened) [
            | inl was ↦ inl was
            | inr upright ↦ inr (at-some (geom_at t p.geom) (λ h. h.withering ≡ false) h found upright)
          ]
      before h found (inr stands) = inr stands

  -- each provider leads down
  more-places : All (LeadsDown (granted_in w) u) u.providers
  more-places = each_provider (LeadsDown (granted_in w) t) (LeadsDown (granted_in w) u) firm.demand.places old_leads
      (λ p made.
      some-with (geom_at u p.geom) (Leads (granted_in w) u p) g (ap (geom_at u) made.geom ∙ more.stands)
      (λ used. made.leads))

  -- Bios

  -- a provider that is untouched stands with its geom
  stands_both : (p : ℕ) → (x : Provider) → provider_at t p ≡ Some x → (provider_at u p ≡ Some x)
      × (x.geom ≢ g.number)
      → StandsBoth t u p
  stands_both p x was still =
      let h = has (geom_at t x.geom) (All-contains (λ (z : Provider). IsSome (geom_at t z.geom)) t.providers x
      firm.graph.parts.providers (find-Contains (λ (z : Provider). z.number == p) t.providers x was)) in
      record {
        provider = x;
        was = was;
        found = still.0;
        geom = h.item;
        was_of = h.is;
        of = more.old_geoms x.geom h.item still.1 h.is;
      }

  -- so does the target of a bio
  target_stands : (x : Bio) → Contains w.bios x → StandsBoth t u x.target
  target_stands x here =
      let p = found-with (provider_at t x.target) (λ p. is_flush x.cmd ≡ false → IsRangeInside x p)
      (All-contains (IsBioInOrder (granted_in w) t) w.bios x firm.bios.order here).target in
      stands_both x.target p.item p.is (more.bios x here p.item p.is)

  -- a bio is in order
  bio_in_order : (x : Bio) → Contains w.bios x → IsBioInOrder (granted_in w) u x
  bio_in_order x here =
      let old = All-contains (IsBioInOrder (granted_in w) t) w.bios x firm.bios.order here in
      let d = found-with (consumer_at t x.source)
      (λ c. (c.provider ≡ Some x.target) × HasCountFor (granted_in w) t x c) old.source in
      let less = more.wants d.item (find-Contains (λ (z : Consumer). z.number == x.source) t.consumers d.item
      d.is) in
      let s = target_stands x here in
      record {
        source = some-with (consumer_at u x.source) (λ c. (c.provider ≡ Some x.target)
            × HasCountFor (granted_in w) u x c)
            d.item (more.old_consumers x.source d.item d.is) (
              d.fact.0,
              enough (is_read x.cmd) (want (granted_in w) t d.item).r (want (granted_in w) t d.item).w
                  (want (granted_in w) u d.item).r (want (granted_in w) u d.item).w less.r less.w d.fact.1,
            );
        target = some-with (provider_at u x.target) (λ p. is_flush x.cmd ≡ false → IsRangeInside x p) s.provider
            s.found
            (at-some (provider_at t x.target) (λ p. is_flush x.cmd ≡ false → IsRangeInside x p) s.provider s.was
            old.target);
        bytes = old.bytes;
      }

  -- the children of a bio are its pieces
  has_pieces : (x : Bio) → Contains w.bios x → HasItsPieces t w.bios x → HasItsPieces u w.bios x
  has_pieces x here old =
      let s = target_stands x here in
      some-with (provider_at u x.target) (λ p. IsSomeAnd (geom_at u p.geom) (λ g.
      map shape_of_child (children_of w x.number) ≡ map (λ item. shape_of_piece x item.0 item.1)
      (enumerate_from 0 (piece_targets g.config p x))))
      s.provider s.found (some-with (geom_at u s.provider.geom)
      (λ g. map shape_of_child (children_of w x.number) ≡ map (λ item. shape_of_piece x item.0 item.1)
      (enumerate_from 0 (piece_targets g.config s.provider x)))
      s.geom s.of (at-some (geom_at t s.provider.geom)
      (λ g. map shape_of_child (children_of w x.number) ≡ map (λ item. shape_of_piece x item.0 item.1)
      (enumerate_from 0 (piece_targets g.config s.provider x)))
      s.geom s.was_of (at-some (provider_at t x.target)
      (λ p. IsSomeAnd (geom_at t p.geom) (λ g.
      map shape_of_child (children_of w x.number) ≡ map (λ item. shape_of_piece x item.0 item.1)
      (enumerate_from 0 (piece_targets g.config p x))))
      s.provider s.was old)))

  -- families are in order
  family_in_order : (x : Bio) → Contains w.bios x → IsFamilyInOrder u w.bios x
  family_in_order x here =
      let old = All-contains (IsFamilyInOrder t w.bios) w.bios x firm.bios.families here in
      record {
        parent = old.parent;
        pieces = λ waits. has_pieces x here (old.pieces waits);
        not_complete = old.not_complete;
        root = old.root;
      }

  -- the disk of a bio is what it was
  same_disk : (x : Bio) → Contains w.bios x → disk_at u x.target ≡ disk_at t x.target
  same_disk x here =
      let s = target_stands x here in
      disk_there u x.target s.provider s.geom s.found s.of
      ∙ sym (disk_there t x.target s.provider s.geom s.was s.was_of)

  -- bios are in order
  more-bios : All (IsBioInOrder (granted_in w) u) w.bios
  more-bios = all_of (IsBioInOrder (granted_in w) u) w.bios bio_in_order

  -- families are
  more-families : All (IsFamilyInOrder u w.bios) w.bios
  more-families = all_of (IsFamilyInOrder u w.bios) w.bios family_in_order

  -- and so are those at disks
  more-disks : DisksHold u w.bios
  more-disks = record {
    at_disk = all_of (λ x. IsTrue (is_sent x.phase || is_busy x.phase) → IsSome (disk_at u x.target)) w.bios
        (λ x here out.
        subst (λ o. IsSome o) (sym (same_disk x here))
        (All-contains (λ x. IsTrue (is_sent x.phase || is_busy x.phase) → IsSome (disk_at t x.target)) w.bios x
        firm.bios.disks.at_disk here out));
    one_busy = λ i j d less_than short a b disk first second.
        let here : Contains w.bios (get_or w.bios i d) = Contains-get_or w.bios i d
        (omega (arith, less_than, short)) in
        let there : Contains w.bios (get_or w.bios j d) = Contains-get_or w.bios j d short in
        firm.bios.disks.one_busy i j d less_than short a b disk
        (sym (same_disk (get_or w.bios i d) here) ∙ first)
        (sym (same_disk (get_or w.bios j d) there) ∙ second);
  }

  -- Events and the taste

  -- the provider of a taste stands
  taste_stands : (s : Taste) → IsTasteInOrder t s → ((x : Provider) → provider_at t s.provider ≡ Some x
      → (provider_at u s.provider ≡ Some x) × (x.geom ≢ g.number)) → StandsBoth t u s.provider
  taste_stands s old still =
      let p = has (provider_at t s.provider) (by (provider_at t s.provider) old.rank) in
      stands_both s.provider p.item p.is (still p.item p.is)
    where
      -- it is there, since its geom is
      by : (o : Option Provider) → IsSomeAnd (option_and_then (λ (x : Provider). geom_at t x.geom) o)
          (λ h. rank t h.number < UNTASTED_RANK)
          → IsSome o
      by None fact = absurd fact
      by (Some x) fact = refl

  -- a taste is in order
  taste_holds : (o : Option Taste) → IfSome o (IsTasteInOrder t)
      → IfSome o (λ s. (x : Provider) → provider_at t s.provider ≡ Some x → (provider_at u s.provider ≡ Some x)
      × (x.geom ≢ g.number))
      → IfSome o (λ s. IsSomeAnd (geom_of_provider u s.provider) (λ h. rank u h.number < UNTASTED_RANK))
      → IfSome o (IsTasteInOrder u)
  taste_holds None old still low = tt
  taste_holds (Some s) old still low =
      let both = taste_stands s old still in
      record {
        rank = low;
        reads = old.reads;
        chain = λ ebr. subst (λ o. IfSome o (λ p. ChainHolds (p.size / p.sector) s.asked s.reads s.chain))
            (both.was ∙ sym both.found) (old.chain ebr);
      }

  -- the taste is in order
  more-taste : IfSome w.taste (IsTasteInOrder u)
  more-taste = taste_holds w.taste firm.taste.order more.tasted more.rank

  -- a geom that was there is found, where it isn't the one
  old_geom : (n : ℕ) → n ≢ g.number → IsSome (geom_at t n) → (h : Geom Config) → geom_at u n ≡ Some h
      → geom_at t n ≡ Some h
  old_geom n apart there h found =
      let x = has (geom_at t n) there in
      let same : x.item ≡ h = one-found (geom_at u n) x.item h (more.old_geoms n x.item apart x.is) found in
      x.is ∙ ap (λ z. Some z) same

  -- an old consumer is attached
  attached_before : (o : Option ℕ) → IsSome (option_and_then (provider_at t) o)
      → IsSome (option_and_then (provider_at u) o)
  attached_before None there = there
  attached_before (Some n) there =
      let x = has (provider_at t n) there in
      let s = more.old_providers n x.item x.is in
      some-there (provider_at u n) s.now s.found

  -- a consumer of another geom was there before
  other_consumer : (c : Consumer) → Contains u.consumers c → c.geom ≢ g.number → Contains t.consumers c
  other_consumer c here apart =
      elim (more.consumers c here) [
        | inl old ↦ old
        | inr made ↦ absurd (apart made.geom)
      ]

  -- Steadiness

  -- a geom that is open or stands upright was so before
  used_before : (x : Geom Config) → Contains t.geoms x → x.number ≢ g.number
      → (x.withering ≡ false) ⊎ IsTrue (has_open_provider (granted_in w) u x)
      → (x.withering ≡ false) ⊎ IsTrue (has_open_provider (granted_in w) t x)
  used_before x here apart (inl stands) = inl stands
  used_before x here apart (inr some) =
      let was : list_any (λ (z : Provider). not (is_zero (have (granted_in w) u z.number)))
      (providers_of t x.number) ≡ true =
      subst (λ ps. list_any (λ (z : Provider). not (is_zero (have (granted_in w) u z.number))) ps ≡ true)
      (more.others x.number apart) some in
      let p = some-passes (λ (z : Provider). not (is_zero (have (granted_in w) u z.number)))
      (providers_of t x.number) was in
      let kept = filter-Contains (λ (z : Provider). z.geom == x.number) t.providers p.item p.here in
      elim (more.opened p.item kept.0 (not-true (is_zero (have (granted_in w) u p.item.number)) p.passes)) [
        | inl opened ↦
            inr (any-contained (λ (z : Provider). not (is_zero (have (granted_in w) t z.number)))
            (providers_of t x.number)
            p.item p.here (ap not opened))
        | inr upright ↦
            inl (at-some (geom_at t p.item.geom) (λ h. h.withering ≡ false) x
            (subst (λ n. geom_at t n ≡ Some x) (sym (eqb-true p.item.geom x.number kept.1))
            (found_itself (λ (z : Geom Config). z.number) t.next_geom t.geoms x
            before_order.geoms here))
            upright)
      ]

  -- each component still stands
  components_stand : All (HasItsComponents (granted_in w) u) u.geoms
  components_stand = each_geom (HasItsComponents (granted_in w) t) (HasItsComponents (granted_in w) u)
      firm.demand.components (λ y here apart old used.
      All-weaker (λ c. IsSomeAnd (consumer_at t c) (IsPart y)) (λ c. IsSomeAnd (consumer_at u c) (IsPart y))
      (λ c. fact_still t u (IsPart y) (λ m d e part. more.old_consumers m d e) (Some c)) (components y.config)
      (old (used_before y here apart used)))
      (λ used. more.fits.components)

  -- the graph holds
  more-graph : GraphHolds u w.disks
  more-graph = record {
    ranks = more.ranks;
    providers = more-providers;
    numbers = more-numbers;
    made = each_geom (λ (x : Geom Config). (x.number ≡ 1) ⊎ (x.number ≡ 2) → x.automatic ≡ false)
        (λ (x : Geom Config). (x.number ≡ 1) ⊎ (x.number ≡ 2) → x.automatic ≡ false) firm.graph.made
        (λ y here apart old. old)
        (λ which. absurd (elim which [ inl dev ↦ more.fits.dev dev | inr taste ↦ more.fits.taste taste ]));
    parts = record { providers = more.live.offerers; consumers = more.live.geoms };
    attached = all_of (λ (c : Consumer). IsSome (option_and_then (provider_at u) c.provider)) u.consumers (λ c here.
        elim (more.consumers c here) [
          | inl old ↦
              attached_before c.provider
              (All-contains (λ (c : Consumer). IsSome (option_and_then (provider_at t) c.provider)) t.consumers c
              firm.graph.attached old)
          | inr made ↦ made.attached
        ]);
    partial = each_geom (WaitsForPlaces t) (WaitsForPlaces u) firm.graph.partial
        (λ y here apart old free. more.others y.number apart ∙ old free) more.fits.partial;
    unmarked = subst (All (λ (c : Consumer). c.spoiled ≡ false)) (sym more.dev) firm.graph.unmarked;
  }

  -- Fitting

  -- what is below a consumer fits
  fits_below : (c : Consumer) → Contains u.consumers c → FitsBelow u c
  fits_below c here =
      if-found (geom_at u c.geom) (λ h. IfSome (option_and_then (provider_at u) c.provider)
      (λ q. IsWholeIn h.config q.sector))
      (λ h found. by h found (cases_eq c.geom g.number))
    where
      -- of the geom itself, or of another one
      by : (h : Geom Config) → geom_at u c.geom ≡ Some h → (c.geom ≡ g.number) ⊎ (c.geom ≢ g.number)
          → IfSome (option_and_then (provider_at u) c.provider) (λ q. IsWholeIn h.config q.sector)
      by h found (inl own) =
          let same : g ≡ h = one-found (geom_at u c.geom) g h (ap (geom_at u) own ∙ more.stands) found in
          subst (λ (z : Geom Config). IfSome (option_and_then (provider_at u) c.provider)
          (λ q. IsWholeIn z.config q.sector))
          same (more.wholes c here own)
      by h found (inr apart) =
          let old = other_consumer c here apart in
          let was = old_geom c.geom apart
          (All-contains (λ (z : Consumer). IsSome (geom_at t z.geom)) t.consumers c firm.graph.parts.consumers
          old) h found in
          if-found (option_and_then (provider_at u) c.provider) (λ q. IsWholeIn h.config q.sector) (λ q under.
          let b = was_below t u more.old_providers c.provider
          (All-contains (λ (z : Consumer). IsSome (option_and_then (provider_at t) z.provider)) t.consumers c
          firm.graph.attached old) q under in
          subst (λ n. IsWholeIn h.config n) (sym (ap (λ (z : Provider). z.sector) b.is.same))
          (at-found (option_and_then (provider_at t) c.provider) (λ q. IsWholeIn h.config q.sector) b.before b.was
          (at-found (geom_at t c.geom)
          (λ h. IfSome (option_and_then (provider_at t) c.provider) (λ q. IsWholeIn h.config q.sector)) h was
          (All-contains (FitsBelow t) t.consumers c firm.sizes.wholes old))))

  -- a place of another geom fits
  fits_place : (n : ℕ) → n ≢ g.number → (place : Option ℕ) (size : ℕ) → FitsPlace t n place size
      → FitsPlace u n place size
  fits_place n apart None size fact = tt
  fits_place n apart (Some k) size fact =
      if-found (consumer_at u k) (FitsOver u n size) (λ c found own.
      let here = find-Contains (λ (z : Consumer). z.number == k) u.consumers c found in
      let old = other_consumer c here (λ same. apart (sym own ∙ same)) in
      let was : consumer_at t k ≡ Some c = subst (λ m. consumer_at t m ≡ Some c)
      (number_found (λ (z : Consumer). z.number) u.consumers k c found)
      (found_itself (λ (z : Consumer). z.number) t.next_consumer t.consumers c
      before_order.consumers old) in
      fits_grown t u more.old_providers c.provider
      (All-contains (λ (z : Consumer). IsSome (option_and_then (provider_at t) z.provider)) t.consumers c
      firm.graph.attached old) size (at-found (consumer_at t k) (FitsOver t n size) c was fact own))

  -- the taste asks in order
  asks : (o : Option Taste) → IfSome o (IsTasteInOrder t)
      → IfSome o (λ s. (x : Provider) → provider_at t s.provider ≡ Some x → (provider_at u s.provider ≡ Some x)
      × (x.geom ≢ g.number))
      → IfSome o (λ s. IfSome (provider_at t s.provider) (λ p. IsAskedInOrder t p s.asked))
      → IfSome o (λ s. IfSome (provider_at u s.provider) (λ p. IsAskedInOrder u p s.asked))
  asks None order still old = tt
  asks (Some s) order still old =
      let both = taste_stands s order still in
      subst (λ o. IfSome o (λ p. IsAskedInOrder u p s.asked)) (sym both.found)
      (asked_still t u both.provider
      (ap (with_kind both.provider) both.of ∙ sym (ap (with_kind both.provider) both.was_of)) s.asked
      (at-found (provider_at t s.provider) (λ p. IsAskedInOrder t p s.asked) both.provider both.was old))

  -- sizes fit
  more-sizes : SizesHold u w.disks
  more-sizes = record {
    disks = firm.sizes.disks;
    sectors = each_provider (λ (p : Provider). IsSectorSize p.sector) (λ (p : Provider). IsSectorSize p.sector)
        firm.sizes.sectors (λ p here apart old. old) (λ p made. made.sector);
    wholes = all_of (FitsBelow u) u.consumers fits_below;
    places = each_geom (FitsPlaces t) (FitsPlaces u) firm.sizes.places
        (λ y here apart.
        zip_members (FitsPlace t y.number) (FitsPlace u y.number) (places_of y.config) (sizes_of y.config)
        (λ a b here. fits_place y.number apart a b))
        more.fits.places;
    one = each_geom (HasOneProvider t) (HasOneProvider u) firm.sizes.one
        (λ y here apart.
        subst (λ (ps : List Provider). y.kind ≡ kinds.Concat → length ps ≤ 1) (sym (more.others y.number apart)))
        more.fits.one;
    apart = each_geom PlacesHold PlacesHold firm.sizes.apart (λ y here apart old. old) more.fits.apart;
    sums = each_geom (HasItsSum t) (HasItsSum u) firm.sizes.sums
        (λ y here apart.
        subst (λ (ps : List Provider). (y.kind ≡ kinds.Concat) ⊎ (y.kind ≡ kinds.Stripe)
        → All (λ p. p.size ≡ joined_size y.config) ps)
        (sym (more.others y.number apart)))
        more.fits.sums;
  }

  -- the taste's read is of one sector
  more-read : TasteReadHolds u w.bios
  more-read = record {
    one = firm.bios.read.one;
    sector = all_of (λ x. IsTrue (is_taste_root x.owner)
        → IsSomeAnd (provider_at u x.target) (λ p. x.len ≡ p.sector)) w.bios (λ x here root.
        let s = target_stands x here in
        some-with (provider_at u x.target) (λ p. x.len ≡ p.sector) s.provider s.found
        (at-some (provider_at t x.target) (λ p. x.len ≡ p.sector) s.provider s.was
        (All-contains (λ x. IsTrue (is_taste_root x.owner)
        → IsSomeAnd (provider_at t x.target) (λ p. x.len ≡ p.sector)) w.bios x firm.bios.read.sector here
        root)));
  }

  -- a firm world with a graph that has come to more is firm
  pub more-firm : (queue : List Event) → All (λ e. IsSome (provider_at u (provider_of_event e))) queue
      → Firm (remade w u queue)
  more-firm queue living = record {
    graph = more-graph;
    demand = record {
      counts = more-counts;
      places = more-places;
      components = components_stand;
    };
    sizes = more-sizes;
    handles = more-handles;
    taste = record {
      living = living;
      order = more-taste;
      asked = asks w.taste firm.taste.order more.tasted firm.taste.asked;
    };
    bios = record {
      numbers = firm.bios.numbers;
      order = more-bios;
      families = more-families;
      disks = more-disks;
      read_out = firm.bios.read_out;
      owners = firm.bios.owners;
      results = firm.bios.results;
      read = more-read;
    };
    commands = firm.commands;
  }

-- a graph that has come to more keeps a firm world firm
pub more_is_firm : MoreIsFirm
more_is_firm = record { firm = λ w u g queue firm more living. more-firm w u g firm more queue living }
