-- A class accepts a table of few parts.
use Rattle.std.specs.Prelude.{◌≡◌, ℕ, ◌+◌, ◌-◌, ◌*◌, ◌<◌, ◌≤◌, Bool, true, false, List, length, map, replicate, Option, Some, None, Result, Ok, Err, if◌then◌else◌}
use Rattle.std.specs.Option.{option_map}
use Rattle.std.proofs.Common.{refl, ap, subst, arith, rules}
use Rattle.std.proofs.lemmas.List.{length-append, length-map, length-replicate}
use Rattle.geo_base.specs.declared.decline.DeclineCause.{DeclineCause}
use Rattle.geo_base.specs.declared.decline.DeclineCause.TheVariants as causes
use Rattle.geo_base.specs.declared.kind.Kind.{Kind}
use Rattle.geo_base.specs.declared.kind.Kind.TheVariants as kinds
use Rattle.geo_base.specs.declared.request.Counts.{Counts}
use Rattle.geo_base.specs.declared.limits.TheConstants.{MAX_LINKS}
use Rattle.geo_model.specs.declared.class.EbrPart.{EbrPart}
use Rattle.geo_model.specs.declared.class.Facts.{Facts}
use Rattle.geo_model.specs.declared.class.LabelRecord.{LabelRecord}
use Rattle.geo_model.specs.declared.class.MbrTable.{MbrTable}
use Rattle.geo_model.specs.declared.class.Shape.{Shape}
use Rattle.geo_model.specs.declared.class.Shape.TheVariants.{Slices, Logical, Named, Joined, Striped}
use Rattle.geo_model.specs.declared.class.Verdict.TheVariants.{Decline, More, Accept}
use Rattle.geo_model.specs.declared.step.BioResult.TheVariants as results
use Rattle.geo_model.specs.Words.{first_error, unless}
use Rattle.geo_model.specs.World.{Taste, Asked, NoClass, NextSector, ReadOut, ReadBack}
use Rattle.geo_model.specs.Acceptance.{verdict_of, is_other_size, label_verdict}
use Rattle.geo_model.specs.Records.{concat_record, stripe_record, label_record, kept_entries, mbr_tests}
use Rattle.geo_model.specs.Chain.{Chain, LinkRead, with_link, link_tests, table_of, chain_verdict, leads_on}
use Rattle.geo_model.specs.Tasting.{verdict_on}
use Rattle.geo_model.specs.Sound.{class_asked}
use Rattle.geo_class.specs.Taste.{sector_back, verdict_back}
use Rattle.geo_moves.proofs.Growing.{IsShort}

-- what isn't accepted
not-accepted : {A : Type 0} (cause : DeclineCause) (shape : Shape) → Decline cause ≡ Accept shape → A
not-accepted cause shape e = absurd (let no : ⊥ = cc in no)

-- a table of slices
short-slices : (o : Option DeclineCause) (x : MbrTable) (shape : Shape) → length x.slices ≤ MAX_LINKS
    → verdict_of Slices (unless o x) ≡ Accept shape → IsShort shape
short-slices None x shape few e = subst IsShort (let same : Slices x ≡ shape = cc in same) few
short-slices (Some cause) x shape few e = not-accepted cause shape e

-- a chain of at most MAX_LINKS links has MAX_LINKS places
places-of : (links : List LinkRead) → length links ≤ MAX_LINKS → length (table_of links).parts ≤ MAX_LINKS
places-of links few =
    search (
      rules,
      length-append (map (λ (l : LinkRead). l.part) links) (replicate (MAX_LINKS - length links) None),
      length-map links (λ (l : LinkRead). l.part),
      length-replicate {A = Option EbrPart} (MAX_LINKS - length links) None,
    )

-- the partitions of a chain
short-parts : (c : Chain) (bytes : List ℕ) (shape : Shape) (b : Bool) → length c.links ≤ MAX_LINKS
    → (if b then More c.next else Accept (Logical (table_of c.links))) ≡ Accept shape → IsShort shape
short-parts c bytes shape true few e = absurd (let no : ⊥ = cc in no)
short-parts c bytes shape false few e = search (rules, places-of c.links few)

-- so of a chain
short-chain : (c : Chain) (bytes : List ℕ) (shape : Shape) (o : Option DeclineCause) → length c.links ≤ MAX_LINKS
    → chain_verdict c bytes o ≡ Accept shape → IsShort shape
short-chain c bytes shape None few e = short-parts c bytes shape (leads_on bytes) few e
short-chain c bytes shape (Some cause) few e = not-accepted cause shape e

-- a label
short-label : (f : Facts) (x : LabelRecord) (shape : Shape) (b : Bool)
    → (if b then Decline causes.Media else Accept (Named x)) ≡ Accept shape → IsShort shape
short-label f x shape true e = not-accepted causes.Media shape e
short-label f x shape false e = subst IsShort (let same : Named x ≡ shape = cc in same) tt

-- so of the record of a label
short-named : (f : Facts) (r : Result LabelRecord DeclineCause) (shape : Shape) → label_verdict f r ≡ Accept shape
    → IsShort shape
short-named f (Ok x) shape e = short-label f x shape (is_other_size x.size (f.sectors * f.sector)) e
short-named f (Err cause) shape e = not-accepted cause shape e

-- a record of an assembly
short-record : {X : Type 0} (make : X → Shape) (r : Result X DeclineCause) (shape : Shape)
    → ((x : X) → IsShort (make x)) → verdict_of make r ≡ Accept shape → IsShort shape
short-record make (Ok x) shape short e = subst IsShort (let same : make x ≡ shape = cc in same) (short x)
short-record make (Err cause) shape short e = not-accepted cause shape e

module _ (granted : ℕ → Counts) (s : Taste) (f : Facts) (shape : Shape)
    (few : class_asked s.asked ≡ Some kinds.Ebr → length s.chain.links < MAX_LINKS) where
  -- so of what any class accepts of the bytes that it asked for
  by-class : (kind : Kind) (bytes : List ℕ) → class_asked s.asked ≡ Some kind
      → verdict_on granted s kind bytes f ≡ Accept shape → IsShort shape
  by-class kinds.Mbr bytes asked e =
      let four : length (kept_entries bytes f.sectors) ≡ 4 = refl in
      short-slices (first_error (mbr_tests bytes f.sectors)) (record { slices = kept_entries bytes f.sectors }) shape
      (omega (arith, four)) e
  by-class kinds.Ebr bytes asked e =
      let c : Chain = with_link f.sectors s.chain bytes in
      let before : length s.chain.links < MAX_LINKS = few asked in
      let more : length (with_link f.sectors s.chain bytes).links ≡ length s.chain.links + 1 =
      length-append s.chain.links _ in
      short-chain c bytes shape (first_error (link_tests f.sectors c bytes)) (omega (arith, before, more)) e
  by-class kinds.Label bytes asked e = short-named f (label_record bytes) shape e
  by-class kinds.Concat bytes asked e = short-record Joined (concat_record bytes) shape (λ x. tt) e
  by-class kinds.Stripe bytes asked e = short-record Striped (stripe_record bytes) shape (λ x. tt) e
  by-class _ bytes asked e = absurd (let no : ⊥ = cc in no)

  -- so of the sector that is back
  pub verdict-short : verdict_back granted s f ≡ Some (Accept shape) → IsShort shape
  verdict-short e = by s.asked refl e
    where
      by : (a : Asked) → s.asked ≡ a
          → option_map (λ (x : Kind × List ℕ). verdict_on granted s x.0 x.1 f) (sector_back a) ≡ Some (Accept shape)
          → IsShort shape
      by NoClass at never = absurd cc
      by (NextSector kind sector) at never = absurd cc
      by (ReadOut kind) at never = absurd cc
      by (ReadBack kind (results.Bytes bytes)) at is =
          by-class kind bytes (ap class_asked at)
          (let same : verdict_on granted s kind bytes f ≡ Accept shape = cc in same)
      by (ReadBack kind results.Done) at never = absurd cc
      by (ReadBack kind (results.Failed error)) at never = absurd cc
