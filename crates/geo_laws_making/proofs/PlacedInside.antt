-- A provider takes a place of a concat or a stripe by its record, and the mesh with it is firm.
use Rattle.std.specs.Prelude.{◌≡◌, ◌≢◌, ℕ, zero, suc, ◌-◌, ◌%◌, ◌<◌, ◌≤◌, ◌==◌, nat_le, Bool, true, false, not, ◌&&◌, List, [], ◌∷◌, length, replicate, Option, Some, None, is_some, is_none, All, AllPairs, Contains, IfSome, IsSome, option_and_then, slice_get, if◌then◌else◌, nat_lt}
use Rattle.std.specs.List.{AllZip, list_all}
use Rattle.std.specs.Option.{option_flatten}
use Rattle.std.proofs.Common.{inl, inr, refl, sym, ◌∙◌, ap, subst, arith}
use Rattle.std.proofs.lemmas.Bool.{and_parts, not-true, leb-true, eqb-true, not-false, ltb-true}
use Rattle.std.proofs.lemmas.List.{length-replicate}
use Rattle.std.proofs.lemmas.List.Elements.{All-contains, All-nil}
use Rattle.geo_base.proofs.PlaceLists.{free_at}
use Rattle.geo_base.specs.Sectors.{IsSectorSize}
use Rattle.geo_base.specs.declared.kind.Kind.{Kind}
use Rattle.geo_base.specs.declared.kind.Kind.TheVariants as kinds
use Rattle.geo_base.specs.declared.limits.TheConstants.{MAX_COMPONENTS, MAX_MEDIA_BYTES, MAX_RANK, MAX_STRIPE_BYTES}
use Rattle.geo_model.specs.Words.{is_kind, same_name, first_error, unless}
use Rattle.geo_model.specs.Topology.{Topology, Geom, Provider, Consumer, provider_at, consumer_at, provider_of_consumer, add_geom, add_consumer}
use Rattle.geo_model.specs.Rank.{rank}
use Rattle.geo_model.specs.World.{World, Config, Concat, Stripe, Taste}
use Rattle.geo_model.specs.Events.{QueuedTopology, offer}
use Rattle.geo_model.specs.WorldEvents.{queued_of, with_queued}
use Rattle.geo_model.specs.Place.{components}
use Rattle.geo_model.specs.Acceptance.{NewSlice, if_free, places_of, fill_place, joined_size, is_size, providers_at, finish, with_place, join_place, can_join, Member, concat_member, stripe_member, empty_concat, empty_stripe, is_same_assembly, standing_geom, join_at, verdict_of}
use Rattle.geo_model.specs.Sound.{fits_kind}
use Rattle.geo_model.specs.Steady.{WaitsForPlaces}
use Rattle.geo_model.specs.Fitting.{IsWholeIn, sizes_of, Firm}
use Rattle.geo_model.proofs.DemandLemmas.{find_passes}
use Rattle.geo_laws_graph.specs.LookupLaws.{new_geom, new_consumer}
use Rattle.geo_laws_graph.proofs.Members.{Contains-here, Contains-filter_map, find-Contains, nothing_in}
use Rattle.geo_laws_graph.proofs.Lists.{found_itself}
use Rattle.geo_laws_graph.proofs.Found.{added-geom, config-found}
use Rattle.geo_laws_graph.proofs.Living.{sound-order, steady-parts}
use Rattle.geo_laws_graph.proofs.RankChanges.{adding-stay}
use Rattle.geo_laws_graph.proofs.Opens.{offers-nothing}
use Rattle.geo_laws_counts.proofs.LimitFacts.{all_true}
use Rattle.geo_laws_life.proofs.Standers.{pairs-from_recursion}
use Rattle.geo_laws_life.proofs.Found.{found-with, one-found}
use Rattle.geo_laws_making.specs.MakingLaws.{below_new, CanOffer, IsNewDisk, CanMake}
use Rattle.geo_laws_making.proofs.Over.{false_true}
use Rattle.geo_laws_making.proofs.Made.{made-firm}
use Rattle.geo_laws_making.specs.PlaceLaws.{CanTakePlace, IsAssembly, IsOpenAssembly}
use Rattle.geo_laws_making.specs.AssemblyLaws.{ConcatPlacesStayFirm, StripePlacesStayFirm}
use Rattle.geo_laws_making.proofs.PlaceTaken.{has-places, filled-is, filled_of, filled-cases, of-places, component-there, taken-firm, new-found, consumer-still, components-now}
use Rattle.geo_laws_making.proofs.Finished.{finished-firm}
use Rattle.geo_laws_making.proofs.MadeFree.{free-made, not-taken}
use Rattle.geo_model.proofs.RefusalLemmas.{none_refused, none_behind}
use Rattle.geo_base.specs.declared.decline.DeclineCause.{DeclineCause}
use Rattle.geo_base.specs.declared.decline.DeclineCause.TheVariants as causes
use Rattle.geo_model.specs.declared.class.ConcatRecord.{ConcatRecord}
use Rattle.geo_model.specs.declared.class.StripeRecord.{StripeRecord}
use Rattle.geo_model.specs.declared.class.Shape.TheVariants.{Joined, Striped}
use Rattle.geo_model.specs.declared.class.Verdict.TheVariants.{Accept}
use Rattle.geo_model.specs.Records.{u16_at, u32_at, head_tests, place_test, size_test, concat_magic, stripe_magic, concat_tests, stripe_tests, is_stripe_size}
use Rattle.geo_laws_texts.specs.RecordLaws.{IsPlace}
use Rattle.geo_laws_making.specs.AcceptLaws.{IsAccepted, PlacesStayFirm}
use Rattle.geo_laws_making.proofs.Accepted.{found, has_geom, one_sector}

-- The place that a record names: in the standing geom of the assembly or in a new one, and its completion.

-- all that is below an assembly is of one sector size
abbrev pub AreOfOneSize : World → Geom Config → ℕ → Type 0
AreOfOneSize w g sector =
    (d : ℕ) (x : Consumer) (q : Provider) → Contains (components g.config) d → consumer_at w.topology d ≡ Some x
    → option_and_then (provider_at w.topology) x.provider ≡ Some q → q.sector ≡ sector

-- One more place, and the last one

module _ (w : World) (p : Provider) (g : Geom Config) (k : ℕ) (name : List ℕ) (made : QueuedTopology Config)
    (firm : Firm w) (can : CanTakePlace w p) (waits : IsOpenAssembly w g) (whole : IsWholeIn g.config p.sector)
    (same : AreOfOneSize w g p.sector) where
  -- the graph before
  abbrev t : Topology Config
  t = w.topology

  -- the configuration with the place filled
  abbrev filled : Config
  filled = fill_place g.config k t.next_consumer (p.size - p.sector)

  -- the geom with it
  abbrev now : Geom Config
  now = record g { config = filled }

  -- the world with it
  abbrev taken : World
  taken = with_queued w (with_place (queued_of w) p g.number filled)

  -- which is firm
  firm_taken : Firm taken
  firm_taken = taken-firm w p g k firm can waits whole

  -- the geom stands in it
  waits_still : IsOpenAssembly taken now
  waits_still = record {
    stands = config-found.here (add_consumer t g.number (Some p.number)) g.number filled g waits.stands;
    upright = waits.upright;
    assembly = (filled-is g.config k t.next_consumer (p.size - p.sector) waits.assembly).assembly;
    offers_none = waits.offers_none;
  }

  -- and all below it is of one sector size
  same_still : AreOfOneSize taken now p.sector
  same_still d x q among found below =
      elim (filled-cases (places_of g.config) k t.next_consumer d
      (subst (λ xs. Contains xs d) (components-now w p g k firm can waits whole) among)) [
        | inl new ↦
            (let it : new_consumer t g.number (Some p.number) ≡ x =
            one-found (consumer_at taken.topology d) (new_consumer t g.number (Some p.number)) x
            (ap (consumer_at taken.topology) new ∙ new-found w p g k firm can waits whole) found in
            let under : p ≡ q = one-found (provider_at t p.number) p q can.found
            (ap (λ (z : Consumer). option_and_then (provider_at t) z.provider) it ∙ below) in
            ap (λ (z : Provider). z.sector) (sym under))
        | inr old ↦
            (let here : Contains (components g.config) d =
            subst (λ xs. Contains xs d) (sym (has-places g.config waits.assembly).components_are) old in
            let y = found-with (consumer_at t d) (λ x. (x.geom ≡ g.number) × IsSome x.provider)
            (component-there w g firm waits d here) in
            let it : y.item ≡ x = one-found (consumer_at taken.topology d) y.item x
            (consumer-still w p g k firm can waits whole d y.item y.is) found in
            same d x q here (y.is ∙ ap (λ z. Some z) it) below)
      ]

  -- it is finished where its places are full
  finished_by : list_all is_some (places_of filled) ≡ true → (b : Bool) → is_size (joined_size filled) ≡ b
      → (if b
      then if_free taken.topology (name ∷ []) (offer (with_place (queued_of w) p g.number filled) g.number name
      (joined_size filled) p.sector)
      else None) ≡ Some made
      → Firm (with_queued w made)
  finished_by full false size e = absurd (let no : ⊥ = cc in no)
  finished_by full true size e =
      let free = free-made taken.topology (name ∷ [])
      (offer (with_place (queued_of w) p g.number filled) g.number name (joined_size filled) p.sector) made e in
      let sizes = and_parts (nat_le 1 (joined_size filled)) (nat_le (joined_size filled) MAX_MEDIA_BYTES) size in
      subst (λ q. Firm (with_queued w q)) free.is
      (finished-firm taken now name p.sector firm_taken waits_still (record {
        full = full;
        sectors = All-contains (λ (x : Provider). IsSectorSize x.sector) t.providers p firm.sizes.sectors
            (find-Contains (λ (x : Provider). x.number == p.number) t.providers p can.found);
        whole = (filled-is g.config k t.next_consumer (p.size - p.sector) waits.assembly).whole p.sector whole;
        same = same_still;
        free = not-taken taken.topology (name ∷ []) free.free name (Contains-here name []);
        some = leb-true 1 (joined_size filled) sizes.0;
        limited = leb-true (joined_size filled) MAX_MEDIA_BYTES sizes.1;
      }))

  -- by whether they are full
  joined_by : (b : Bool) → list_all is_some (places_of filled) ≡ b
      → (if b
      then finish (with_place (queued_of w) p g.number filled) g.number filled name p.sector
      else Some (with_place (queued_of w) p g.number filled)) ≡ Some made
      → Firm (with_queued w made)
  joined_by true full e = finished_by full (is_size (joined_size filled)) refl e
  joined_by false open_still e =
      let is : with_place (queued_of w) p g.number filled ≡ made = cc in
      subst (λ q. Firm (with_queued w q)) is firm_taken

  -- so a provider that joins keeps the world firm
  joined-firm : join_place (queued_of w) p g.number g.config k name ≡ Some made → Firm (with_queued w made)
  joined-firm e = joined_by (list_all is_some (places_of filled)) refl e

-- Standing geoms

-- what a standing configuration of an assembly has
pub record IsSameAs (config : Config) (count : ℕ) (sector : ℕ) : Type 0 where
  pub assembly : IsAssembly config
  pub number : length (places_of config) ≡ count
  pub whole : IsWholeIn config sector

-- that of a concat
same_concat : (config : Config) (id count sector : ℕ)
    → is_same_assembly config (Concat (Some id) (replicate count None) (replicate count 0)) ≡ true
    → IsSameAs config count sector
same_concat (Concat (Some a) places sizes) id count sector e =
    let parts = and_parts (a == id) (length places == length (replicate {A = Option ℕ} count None)) e in
    record {
      assembly = tt;
      number = eqb-true (length places) (length (replicate {A = Option ℕ} count None)) parts.1
          ∙ length-replicate {A = Option ℕ} count None;
      whole = tt;
    }
same_concat (Stripe (Some a) s places sizes) id count sector e = false_true e
same_concat _ id count sector e = false_true e

-- and of a stripe
same_stripe : (config : Config) (id stripe count sector : ℕ) → (1 ≤ stripe) × (stripe % sector ≡ 0)
    → is_same_assembly config (Stripe (Some id) stripe (replicate count None) (replicate count 0)) ≡ true
    → IsSameAs config count sector
same_stripe (Stripe (Some a) s places sizes) id stripe count sector whole e =
    let parts =
    and_parts (a == id) ((s == stripe) && (length places == length (replicate {A = Option ℕ} count None))) e in
    let rest = and_parts (s == stripe) (length places == length (replicate {A = Option ℕ} count None)) parts.1 in
    record {
      assembly = tt;
      number = eqb-true (length places) (length (replicate {A = Option ℕ} count None)) rest.1
          ∙ length-replicate {A = Option ℕ} count None;
      whole = subst (λ m. (1 ≤ m) × (m % sector ≡ 0)) (sym (eqb-true s stripe rest.0)) whole;
    }
same_stripe (Concat (Some a) places sizes) id stripe count sector whole e = false_true e
same_stripe _ id stripe count sector whole e = false_true e

-- New geoms

-- nothing is in places of which none is filled
none_filled : (count : ℕ) → filled_of (replicate count None) ≡ []
none_filled zero = refl
none_filled (suc count) = none_filled count

-- each of them fits
none_fit : (next count : ℕ) → AllZip
    (λ place size. IfSome (option_and_then (below_new next []) place)
    (λ q. (size ≤ q.size) × (size % q.sector ≡ 0)))
    (replicate count None) (replicate count 0)
none_fit next zero = tt
none_fit next (suc count) = (tt, none_fit next count)

-- an assembly with no place filled
pub record IsEmpty (kind : Kind) (config : Config) (count : ℕ) : Type 0 where
  pub assembly : IsAssembly config
  pub fits : fits_kind kind config ≡ true
  pub dev : is_kind kind kinds.Dev ≡ false
  pub taste : is_kind kind kinds.Taste ≡ false
  pub places : places_of config ≡ replicate count None
  pub sizes : sizes_of config ≡ replicate count 0

-- a member of an assembly that a record names
module _ (w : World) (p : Provider) (m : Member) (count : ℕ) (made : QueuedTopology Config) (firm : Firm w)
    (can : CanTakePlace w p) (empty : IsEmpty m.kind m.empty count) (few : count ≤ MAX_COMPONENTS)
    (inside : m.place < count)
    (whole : IsWholeIn m.empty p.sector) where
  -- the graph before
  abbrev before : Topology Config
  before = w.topology

  -- nothing is in its places
  bare : components m.empty ≡ []
  bare =
      (has-places m.empty empty.assembly).components_are ∙ ap (λ xs. filled_of xs) empty.places ∙ none_filled count

  -- so it can be made
  empty_can : CanMake w m.kind m.empty [] 512 []
  empty_can = record {
    fits = empty.fits;
    dev = empty.dev;
    taste = empty.taste;
    found = All-nil (λ (x : Provider). provider_at before x.number ≡ Some x);
    low = omega arith;
    wholes = All-nil (λ (x : Provider). IsWholeIn m.empty x.sector);
    filled = subst (All (λ c. IsSome (below_new before.next_consumer [] c))) (sym bare)
        (All-nil (λ c. IsSome (below_new before.next_consumer [] c)));
    apart = subst (AllPairs (λ a b. a ≢ b)) (sym bare) (pairs-from_recursion (λ a b. a ≢ b) [] tt);
    few = subst (λ n. n ≤ MAX_COMPONENTS)
        (sym (ap length empty.places ∙ length-replicate {A = Option ℕ} count None)) few;
    places = subst (λ xs. AllZip (λ place size. IfSome (option_and_then (below_new before.next_consumer []) place)
        (λ q.
        (size ≤ q.size) × (size % q.sector ≡ 0))) xs (sizes_of m.empty)) (sym empty.places)
        (subst (λ ys. AllZip (λ place size. IfSome (option_and_then (below_new before.next_consumer []) place) (λ q.
        (size ≤ q.size) × (size % q.sector ≡ 0))) (replicate count None) ys) (sym empty.sizes)
        (none_fit before.next_consumer count));
    disk = subst (λ o. IfSome o (IsNewDisk w 512 [])) (sym (has-places m.empty empty.assembly).no_disk) tt;
    sectors = inl refl;
    offers = All-nil (CanOffer w m.empty [] 512);
    names = pairs-from_recursion (λ (x y : NewSlice). same_name x.name y.name ≡ false) [] tt;
    partial = λ some. refl;
    one = λ concat. omega arith;
    sums = λ joined. All-nil (λ (x : NewSlice). x.size ≡ joined_size m.empty);
  }

  -- the world with it
  abbrev begun : World
  begun = with_queued w (record (queued_of w) { topology = add_geom before m.kind m.geom_name m.empty true })

  -- a provider that joins a new geom
  new_firm : join_place (queued_of begun) p before.next_geom m.empty m.place m.name ≡ Some made
      → Firm (with_queued w made)
  new_firm e =
      let order = sound-order w firm.graph.numbers in
      let live = steady-parts before firm.graph.parts firm.graph.attached in
      let same : rank begun.topology p.geom ≡ rank before p.geom =
      (adding-stay.geom before m.kind m.geom_name m.empty true firm.graph.ranks.ranked live.geoms).same p.geom in
      joined-firm begun p (new_geom before m.kind m.geom_name m.empty true) m.place m.name made
      (made-firm w m.kind m.geom_name m.empty true [] 512 [] firm empty_can)
      (record { found = can.found; low = subst (λ n. n < MAX_RANK) (sym same) can.low })
      (record {
        stands = added-geom.new before m.kind m.geom_name m.empty true order;
        upright = refl;
        assembly = empty.assembly;
        offers_none = offers-nothing before order live.offerers;
      })
      whole (λ d x q here found below. absurd (nothing_in d (subst (λ xs. Contains xs d) bare here))) e

  -- a provider that joins a standing geom
  standing_firm : (g : Geom Config) → Contains before.geoms g → g.withering ≡ false
      → IsSameAs g.config count p.sector
      → (b : Bool) → can_join before p g m.place ≡ b
      → (if b then join_place (queued_of w) p g.number g.config m.place m.name else None) ≡ Some made
      → Firm (with_queued w made)
  standing_firm g here upright is false joins e = absurd (let no : ⊥ = cc in no)
  standing_firm g here upright is true joins e =
      let parts = and_parts (is_none (option_flatten (slice_get (places_of g.config) m.place)))
      (list_all (λ x. x.sector == p.sector) (providers_at before (places_of g.config))) joins in
      let free = free_at (places_of g.config) m.place (subst (λ n. m.place < n) (sym is.number) inside) parts.0 in
      joined-firm w p g m.place m.name made firm can
      (record {
        stands = found_itself (λ (z : Geom Config). z.number) before.next_geom before.geoms g
            (sound-order w firm.graph.numbers).geoms here;
        upright = upright;
        assembly = is.assembly;
        offers_none = All-contains (WaitsForPlaces before) before.geoms g firm.graph.partial here free;
      })
      is.whole (λ d x q among found below.
      let place : Contains (places_of g.config) (Some d) =
      of-places (places_of g.config) d (subst (λ xs. Contains xs d)
      (has-places g.config is.assembly).components_are among) in
      eqb-true q.sector p.sector
      (all_true (λ x. x.sector == p.sector) (providers_at before (places_of g.config)) parts.1 q
      (Contains-filter_map
      (λ place. option_and_then (provider_at before) (option_and_then (provider_of_consumer before) place))
      (places_of g.config) (Some d) q place
      (ap (λ o. option_and_then (provider_at before) (option_and_then (λ (z : Consumer). z.provider) o)) found
      ∙ below)))) e

  -- by whether one stands
  pub member-firm
      : ((g : Geom Config) → is_same_assembly g.config m.empty ≡ true → IsSameAs g.config count p.sector)
      → (o : Option (Geom Config)) → standing_geom before m.geom_name m.empty ≡ o
      → join_at (queued_of w) p m o ≡ Some made → Firm (with_queued w made)
  member-firm is None named e = new_firm e
  member-firm is (Some g) named e =
      let test = find_passes (λ (x : Geom Config). x.automatic && (not x.withering && (same_name x.name m.geom_name
      && is_same_assembly x.config m.empty))) before.geoms g named in
      let here = find-Contains (λ (x : Geom Config). x.automatic &&
      (not x.withering && (same_name x.name m.geom_name
      && is_same_assembly x.config m.empty))) before.geoms g named in
      let first = and_parts g.automatic (not g.withering && (same_name g.name m.geom_name
      && is_same_assembly g.config m.empty)) test in
      let second =
      and_parts (not g.withering) (same_name g.name m.geom_name && is_same_assembly g.config m.empty) first.1 in
      let third = and_parts (same_name g.name m.geom_name) (is_same_assembly g.config m.empty) second.1 in
      standing_firm g here (not-true g.withering second.0) (is g third.1) (can_join before p g m.place) refl e

-- a place of a concat
pub concat_places_stay : ConcatPlacesStayFirm
concat_places_stay = record {
  concat = λ w p found made firm can place e.
      member-firm w p (concat_member found) found.count made firm can
      (record { assembly = tt; fits = refl; dev = refl; taste = refl; places = refl; sizes = refl })
      place.few place.inside tt (λ g same. same_concat g.config found.id found.count p.sector same)
      (standing_geom w.topology found.name (empty_concat found)) refl e;
}

-- and of a stripe
pub stripe_places_stay : StripePlacesStayFirm
stripe_places_stay = record {
  stripe = λ w p found made firm can place some whole e.
      member-firm w p (stripe_member found) found.count made firm can
      (record { assembly = tt; fits = refl; dev = refl; taste = refl; places = refl; sizes = refl })
      place.few place.inside (some, whole)
      (λ g same. same_stripe g.config found.id found.stripe found.count p.sector (some, whole) same)
      (standing_geom w.topology found.name (empty_stripe found)) refl e;
}

-- A place of a concat or a stripe: what its record says, and that the mesh with it is firm.

-- what is read where a record is accepted
pub record IsRead {A : Type 0} (o : Option DeclineCause) (read found : A) : Type 0 where
  pub none : o ≡ None
  pub same : read ≡ found

-- a concat's
concat_read : (o : Option DeclineCause) (x found : ConcatRecord)
    → verdict_of Joined (unless o x) ≡ Accept (Joined found) → IsRead o x found
concat_read None x found e = record { none = refl; same = cc }
concat_read (Some cause) x found e = absurd (let no : ⊥ = cc in no)

-- a stripe's
stripe_read : (o : Option DeclineCause) (x found : StripeRecord)
    → verdict_of Striped (unless o x) ≡ Accept (Striped found) → IsRead o x found
stripe_read None x found e = record { none = refl; same = cc }
stripe_read (Some cause) x found e = absurd (let no : ⊥ = cc in no)

-- a place that isn't declined
pub good_place : (place count : ℕ) → not (nat_le 1 count && (nat_le count MAX_COMPONENTS && nat_lt place count)) ≡ false
    → IsPlace place count
good_place place count e =
    let a = and_parts (nat_le 1 count) (nat_le count MAX_COMPONENTS && nat_lt place count)
    (not-false (nat_le 1 count && (nat_le count MAX_COMPONENTS && nat_lt place count)) e) in
    let b = and_parts (nat_le count MAX_COMPONENTS) (nat_lt place count) a.1 in
    record { some = leb-true 1 count a.0; few = leb-true count MAX_COMPONENTS b.0; inside = ltb-true place count b.1 }

-- a stripe size that isn't declined
good_size : (stripe sector : ℕ) → not (is_stripe_size stripe sector) ≡ false → (1 ≤ stripe) × (stripe % sector ≡ 0)
good_size stripe sector e =
    let a = and_parts (nat_le 1 stripe) (nat_le stripe MAX_STRIPE_BYTES && (stripe % sector == 0))
    (not-false (is_stripe_size stripe sector) e) in
    let b = and_parts (nat_le stripe MAX_STRIPE_BYTES) (stripe % sector == 0) a.1 in
    (leb-true 1 stripe a.0, eqb-true (stripe % sector) 0 b.1)

-- the place in a concat's record
concat_place : (bytes : List ℕ) → first_error (concat_tests bytes) ≡ None
    → IsPlace (u16_at bytes 40) (u16_at bytes 42)
concat_place bytes none =
    let rest = none_behind (head_tests concat_magic 1 bytes)
    (place_test (u16_at bytes 40) (u16_at bytes 42) ∷ []) none in
    good_place (u16_at bytes 40) (u16_at bytes 42)
    (none_refused (place_test (u16_at bytes 40) (u16_at bytes 42)).0 causes.Place [] rest).0

-- that in a stripe's, and its stripe size
stripe_place : (bytes : List ℕ) → first_error (stripe_tests bytes) ≡ None
    → IsPlace (u16_at bytes 40) (u16_at bytes 42) × (1 ≤ u32_at bytes 44) × (u32_at bytes 44 % length bytes ≡ 0)
stripe_place bytes none =
    let rest = none_behind (head_tests stripe_magic 1 bytes)
    (place_test (u16_at bytes 40) (u16_at bytes 42) ∷ size_test (u32_at bytes 44) (length bytes) ∷ []) none in
    let first = none_refused (place_test (u16_at bytes 40) (u16_at bytes 42)).0 causes.Place
    (size_test (u32_at bytes 44) (length bytes) ∷ []) rest in
    let second = none_refused (size_test (u32_at bytes 44) (length bytes)).0 causes.Size [] first.1 in
    let size = good_size (u32_at bytes 44) (length bytes) second.0 in
    (good_place (u16_at bytes 40) (u16_at bytes 42) first.0, size.0, size.1)

-- a place of a concat
concat_firm : (w : World) (s : Taste) (p : Provider) (bytes : List ℕ) (member : ConcatRecord)
    (made : QueuedTopology Config) → Firm w → IsAccepted w s p kinds.Concat bytes (Joined member) made
    → Firm (with_queued w made)
concat_firm w s p bytes member made firm accepted =
    let read = concat_read (first_error (concat_tests bytes)) _ member accepted.verdict in
    let low = (has_geom w s p kinds.Concat bytes (Joined member) made firm accepted).low in
    concat_places_stay.concat w p member made firm
    (record {
      found = found w s p kinds.Concat bytes (Joined member) made firm accepted;
      low = omega arith;
    })
    (subst (λ (x : ConcatRecord). IsPlace x.place x.count) read.same (concat_place bytes read.none))
    accepted.makes

-- and of a stripe
stripe_firm : (w : World) (s : Taste) (p : Provider) (bytes : List ℕ) (member : StripeRecord)
    (made : QueuedTopology Config) → Firm w → IsAccepted w s p kinds.Stripe bytes (Striped member) made
    → Firm (with_queued w made)
stripe_firm w s p bytes member made firm accepted =
    let read = stripe_read (first_error (stripe_tests bytes)) _ member accepted.verdict in
    let low = (has_geom w s p kinds.Stripe bytes (Striped member) made firm accepted).low in
    let place = stripe_place bytes read.none in
    let sector : length bytes ≡ p.sector =
    one_sector w s p kinds.Stripe bytes (Striped member) made firm accepted in
    stripe_places_stay.stripe w p member made firm
    (record {
      found = found w s p kinds.Stripe bytes (Striped member) made firm accepted;
      low = omega arith;
    })
    (subst (λ (x : StripeRecord). IsPlace x.place x.count) read.same place.0)
    (subst (λ (x : StripeRecord). 1 ≤ x.stripe) read.same place.1)
    (subst (λ m. member.stripe % m ≡ 0) sector
    (subst (λ (x : StripeRecord). x.stripe % length bytes ≡ 0) read.same place.2))
    accepted.makes

-- so say all places
pub places_stay : PlacesStayFirm
places_stay = record {
  concat = λ w s p bytes member made firm accepted. concat_firm w s p bytes member made firm accepted;
  stripe = λ w s p bytes member made firm accepted. stripe_firm w s p bytes member made firm accepted;
}
