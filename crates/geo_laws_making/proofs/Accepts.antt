-- What a class makes of what it accepts: labels, and by the verdict all the others.
use Rattle.std.specs.Prelude.{◌≡◌, ℕ, ◌-◌, ◌<◌, ◌≤◌, true, false, List, [], ◌∷◌, Some, ◌*◌, Bool, Option, None, Result, Ok, Err, if◌then◌else◌}
use Rattle.std.proofs.Common.{inr, refl, subst, arith, sym}
use Rattle.std.proofs.lemmas.List.Elements.{All-from_recursion}
use Rattle.std.proofs.lemmas.Nat.Gcd.{dvd_of_mod-eq-zero, mod-eq-zero_of_dvd, dvd_refl}
use Rattle.std.proofs.Math.Nat.{dvd-sub}
use Rattle.geo_base.specs.declared.kind.Kind.TheVariants as kinds
use Rattle.geo_base.specs.declared.limits.TheConstants.{MAX_MEDIA_BYTES}
use Rattle.geo_model.specs.declared.class.LabelRecord.{LabelRecord}
use Rattle.geo_model.specs.declared.class.Shape.TheVariants.{Named, Slices, Logical, Joined, Striped}
use Rattle.geo_model.specs.Words.{same_name, first_error}
use Rattle.geo_model.specs.Names.{label_name}
use Rattle.geo_model.specs.Topology.{Provider}
use Rattle.geo_model.specs.World.{World, Config, Label, Taste}
use Rattle.geo_model.specs.Events.{QueuedTopology}
use Rattle.geo_model.specs.WorldEvents.{queued_of, with_queued}
use Rattle.geo_model.specs.Acceptance.{NewSlice, are_names_free, with_label, verdict_of, is_other_size, label_verdict}
use Rattle.geo_model.specs.Sound.{IsMediaSize}
use Rattle.geo_model.specs.Fitting.{Firm}
use Rattle.geo_laws_graph.proofs.Members.{Contains-here}
use Rattle.geo_laws_life.proofs.Standers.{pairs-from_recursion}
use Rattle.geo_laws_making.specs.MakingLaws.{HasPlace, CanOffer, CanMake}
use Rattle.geo_laws_making.proofs.Made.{made-firm, IsPlain, plain-place, plain-can}
use Rattle.geo_laws_making.proofs.MadeFree.{free-made, not-taken}
use Rattle.geo_laws_making.specs.AcceptLaws.{IsAccepted, LabelsStayFirm, AcceptsStayFirm}
use Rattle.geo_laws_making.proofs.Accepted.{found, media, sector_size, asks, low, longer}
use Rattle.geo_base.specs.declared.decline.DeclineCause.{DeclineCause}
use Rattle.geo_base.specs.declared.decline.DeclineCause.TheVariants as causes
use Rattle.geo_base.specs.declared.kind.Kind.{Kind}
use Rattle.geo_model.specs.declared.class.Facts.{Facts}
use Rattle.geo_model.specs.declared.class.Shape.{Shape}
use Rattle.geo_model.specs.declared.class.Verdict.TheVariants.{Decline, More, Accept}
use Rattle.geo_model.specs.Chain.{Chain, with_link, link_tests, table_of, chain_verdict, leads_on}
use Rattle.geo_model.specs.Records.{mbr_table, label_record, concat_record, stripe_record}
use Rattle.geo_model.specs.Tasting.{facts_of}
use Rattle.geo_laws_making.proofs.Parted.{slices-firm, parts-firm}
use Rattle.geo_laws_making.proofs.PlacedInside.{places_stay}

-- A label: a geom over the tasted provider, with a provider that is one sector smaller.

module _ (w : World) (s : Taste) (p : Provider) (bytes : List ℕ) (record_of : LabelRecord)
    (made : QueuedTopology Config) (firm : Firm w)
    (accepted : IsAccepted w s p kinds.Label bytes (Named record_of) made) where
  -- the number of the consumer
  abbrev c : ℕ
  c = w.topology.next_consumer

  -- the configuration
  abbrev config : Config
  config = Label (Some c)

  -- the provider to be made
  abbrev slice : NewSlice
  slice = record { name = label_name record_of.name; size = p.size - p.sector }

  -- there are two sectors
  large : p.sector < p.size
  large =
      longer w s p kinds.Label bytes (Named record_of) made firm accepted
      (asks w s p kinds.Label bytes (Named record_of) made firm accepted)

  -- its size is one
  label_media : IsMediaSize (p.size - p.sector) p.sector
  label_media =
      let m = media w s p kinds.Label bytes (Named record_of) made firm accepted in
      let big = large in
      let limited : p.size ≤ MAX_MEDIA_BYTES = m.limited in
      record {
        positive = omega arith;
        whole = mod-eq-zero_of_dvd p.sector (dvd-sub p.sector (dvd_of_mod-eq-zero p.sector m.whole)
            (dvd_refl p.sector));
        limited = omega arith;
      }

  -- the configuration is one over one consumer
  plain : IsPlain kinds.Label config c
  plain = record {
    fits = refl;
    dev = refl;
    taste = refl;
    concat = refl;
    stripe = refl;
    one_component = refl;
    first_component = refl;
    no_places = refl;
    no_sizes = refl;
    no_disk = refl;
  }

  -- an offset has its place
  has_place : (o : ℕ) → o < p.size - p.sector → HasPlace config (p ∷ []) c p.sector slice.name o
  has_place o short = plain-place w kinds.Label config p plain p.sector slice.name o o refl (omega arith) refl

  -- what is made
  names : are_names_free w.topology (slice.name ∷ []) ≡ true
  names = (free-made w.topology (slice.name ∷ []) (with_label (queued_of w) p slice.name) made accepted.makes).free

  -- so the label can be made
  label_can : CanMake w kinds.Label config (p ∷ []) p.sector (slice ∷ [])
  label_can =
      plain-can w kinds.Label config p plain p.sector (slice ∷ [])
      (found w s p kinds.Label bytes (Named record_of) made firm accepted)
      (low w s p kinds.Label bytes (Named record_of) made firm accepted) tt
      (sector_size w s p kinds.Label bytes (Named record_of) made firm accepted)
      (All-from_recursion (CanOffer w config (p ∷ []) p.sector) (slice ∷ []) (
        record {
          free = not-taken w.topology (slice.name ∷ []) names slice.name (Contains-here slice.name []);
          size = label_media;
          leads = inr has_place;
        },
        tt,
      ))
      (pairs-from_recursion (λ (x y : NewSlice). same_name x.name y.name ≡ false) (slice ∷ []) (tt, tt))

  -- and the mesh with it is firm
  pub label-firm : Firm (with_queued w made)
  label-firm =
      subst (λ q. Firm (with_queued w q))
      (free-made w.topology (slice.name ∷ []) (with_label (queued_of w) p slice.name) made accepted.makes).is
      (made-firm w kinds.Label p.name config true (p ∷ []) p.sector (slice ∷ []) firm label_can)

-- so say all labels
pub labels_stay : LabelsStayFirm
labels_stay = record {
  label = λ w s p bytes found made firm accepted. label-firm w s p bytes found made firm accepted;
}

-- Whatever is made of an accepted verdict: the class tells the shape.

-- a shape is made of what a class found
pub record IsOfShape {A : Type 0} (make : A → Shape) (shape : Shape) : Type 0 where
  pub found : A
  pub is : shape ≡ make found

-- so it is where a class says so
shape_of : {A : Type 0} (make : A → Shape) (r : Result A DeclineCause) (shape : Shape)
    → verdict_of make r ≡ Accept shape
    → IsOfShape make shape
shape_of make (Ok found) shape e = record { found = found; is = let same : make found ≡ shape = cc in sym same }
shape_of make (Err cause) shape e = absurd (let no : ⊥ = cc in no)

-- of a label, by whether it says another size
label_by : (found : LabelRecord) (shape : Shape) (b : Bool)
    → (if b then Decline causes.Media else Accept (Named found)) ≡ Accept shape → IsOfShape Named shape
label_by found shape true e = absurd (let no : ⊥ = cc in no)
label_by found shape false e = record { found = found; is = let same : Named found ≡ shape = cc in sym same }

-- so of a label
label_of : (f : Facts) (r : Result LabelRecord DeclineCause) (shape : Shape) → label_verdict f r ≡ Accept shape
    → IsOfShape Named shape
label_of f (Ok found) shape e = label_by found shape (is_other_size found.size (f.sectors * f.sector)) e
label_of f (Err cause) shape e = absurd (let no : ⊥ = cc in no)

-- of a chain, by whether it leads on
chain_by : (c : Chain) (shape : Shape) (b : Bool)
    → (if b then More c.next else Accept (Logical (table_of c.links))) ≡ Accept shape
    → IsOfShape Logical shape
chain_by c shape true e = absurd (let no : ⊥ = cc in no)
chain_by c shape false e =
    record { found = table_of c.links; is = let same : Logical (table_of c.links) ≡ shape = cc in sym same }

-- so of a chain
chain_of : (c : Chain) (bytes : List ℕ) (o : Option DeclineCause) (shape : Shape)
    → chain_verdict c bytes o ≡ Accept shape
    → IsOfShape Logical shape
chain_of c bytes (Some cause) shape e = absurd (let no : ⊥ = cc in no)
chain_of c bytes None shape e = chain_by c shape (leads_on bytes) e

module _ (w : World) (s : Taste) (p : Provider) (bytes : List ℕ) (shape : Shape) (made : QueuedTopology Config)
    (firm : Firm w) where
  -- the facts of the provider
  abbrev f : Facts
  f = facts_of w.topology p

  -- by the class
  accepted-firm : (kind : Kind) → IsAccepted w s p kind bytes shape made → Firm (with_queued w made)
  accepted-firm kinds.Mbr accepted =
      let o = shape_of Slices (mbr_table bytes f.sectors) shape accepted.verdict in
      slices-firm w s p bytes o.found made firm (subst (λ x. IsAccepted w s p kinds.Mbr bytes x made) o.is accepted)
  accepted-firm kinds.Ebr accepted =
      let o = chain_of (with_link f.sectors s.chain bytes) bytes
      (first_error (link_tests f.sectors (with_link f.sectors s.chain bytes) bytes)) shape accepted.verdict in
      parts-firm w s p bytes o.found made firm (subst (λ x. IsAccepted w s p kinds.Ebr bytes x made) o.is accepted)
  accepted-firm kinds.Label accepted =
      let o = label_of f (label_record bytes) shape accepted.verdict in
      label-firm w s p bytes o.found made firm (subst
      (λ x. IsAccepted w s p kinds.Label bytes x made) o.is accepted)
  accepted-firm kinds.Concat accepted =
      let o = shape_of Joined (concat_record bytes) shape accepted.verdict in
      places_stay.concat w s p bytes o.found made firm
      (subst (λ x. IsAccepted w s p kinds.Concat bytes x made) o.is accepted)
  accepted-firm kinds.Stripe accepted =
      let o = shape_of Striped (stripe_record bytes) shape accepted.verdict in
      places_stay.stripe w s p bytes o.found made firm
      (subst (λ x. IsAccepted w s p kinds.Stripe bytes x made) o.is accepted)
  accepted-firm _ accepted = absurd (let e = accepted.verdict in let no : ⊥ = cc in no)

-- so say all verdicts
pub accepts_stay : AcceptsStayFirm
accepts_stay = record {
  accept = λ w s p kind bytes shape made firm accepted. accepted-firm w s p bytes shape made firm kind accepted;
}
