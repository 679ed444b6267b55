-- What a taste reads: the sector for which a class asks first, which classes ask for more, and links of a chain.
use Rattle.std.specs.Prelude.{◌≡◌, ℕ, ◌-◌, ◌*◌, ◌/◌, ◌%◌, ◌<◌, ◌≤◌, ◌==◌, nat_le, Bool, true, false, not, ◌&&◌, List, Some, None, Result, Ok, Err, if◌then◌else◌, ◌≢◌, ◌+◌, nat_lt, ◌||◌, [], ◌∷◌, ◌++◌, length, map, Option, All, AllPairs, IfSome}
use Rattle.std.proofs.Common.{inl, inr, refl, sym, subst, arith, length-append}
use Rattle.std.proofs.lemmas.Bool.{leb-true, eqb-false, ltb-false, or_parts}
use Rattle.geo_base.specs.Sectors.{IsSectorSize}
use Rattle.geo_base.specs.declared.decline.DeclineCause.{DeclineCause}
use Rattle.geo_base.specs.declared.decline.DeclineCause.TheVariants as causes
use Rattle.geo_base.specs.declared.kind.Kind.{Kind}
use Rattle.geo_base.specs.declared.kind.Kind.TheVariants as kinds
use Rattle.geo_model.specs.declared.class.Facts.{Facts}
use Rattle.geo_model.specs.declared.class.LabelRecord.{LabelRecord}
use Rattle.geo_model.specs.declared.class.Shape.{Shape}
use Rattle.geo_model.specs.declared.class.Shape.TheVariants.{Slices, Named, Joined, Striped, Logical}
use Rattle.geo_model.specs.declared.class.Verdict.TheVariants.{Decline, More, Accept}
use Rattle.geo_model.specs.Words.{is_kind, first_error}
use Rattle.geo_model.specs.Records.{mbr_table, label_record, concat_record, stripe_record, entry_start, entry_type, u32_at}
use Rattle.geo_model.specs.Acceptance.{taste_where, verdict_of, is_other_size, label_verdict, judge}
use Rattle.geo_model.specs.Sound.{IsMediaSize, ChainHolds, IsPartOf}
use Rattle.std.specs.List.{list_any}
use Rattle.std.proofs.lemmas.List.{map-append}
use Rattle.std.proofs.lemmas.List.Elements.{All-cons, All-map, All-nil, All-push}
use Rattle.std.proofs.lemmas.List.Quantifiers.{all_pairs_push}
use Rattle.geo_base.specs.declared.limits.TheConstants.{MAX_LINKS}
use Rattle.geo_model.specs.declared.step.BioResult.{BioResult}
use Rattle.geo_model.specs.Chain.{LinkRead, Chain, BeginsAtZero, chain_verdict, feed, leads_on, link_tests, named_part, next_link, table_of, with_link}
use Rattle.geo_model.specs.World.{ReadBack}
use Rattle.geo_laws_texts.proofs.ChainWalks.{leads-to}
use Rattle.geo_laws_texts.proofs.ChainTests.{LeadsTo}
use Rattle.geo_laws_making.specs.ChainSteps.{GoesOnTo, LinksStayInOrder}

-- The sector for which a class asks first, and which classes ask for more.

-- The first sector

-- nothing isn't a sector
not_some : {A : Type 0} (sector : ℕ) → None ≡ Some sector → A
not_some sector e = absurd (let no : ⊥ = cc in no)

-- sector 0, where a class asks for it
zero_in : (b : Bool) (n sector : ℕ) → 1 ≤ n → (if b then Some 0 else None) ≡ Some sector → sector < n
zero_in true n sector some e = let zero : 0 ≡ sector = cc in omega (arith, some, zero)
zero_in false n sector some e = not_some sector e

-- the last sector, where a class asks for it
last_in : (b : Bool) (n sector : ℕ) → nat_le 2 n ≡ b → (if b then Some (n - 1) else None) ≡ Some sector → sector < n
last_in true n sector enough e =
    let least : 2 ≤ n = leb-true 2 n enough in
    let last : n - 1 ≡ sector = cc in
    omega (arith, least, last)
last_in false n sector enough e = not_some sector e

-- the first sector for which a class asks is one of the provider
pub first_inside : (kind : Kind) (f : Facts) (sector : ℕ) → 1 ≤ f.sectors → taste_where kind f ≡ Some sector
    → sector < f.sectors
first_inside kinds.Mbr f sector some e =
    zero_in ((f.sector == 512) && not (is_kind f.kind kinds.Mbr)) f.sectors sector some e
first_inside kinds.Ebr f sector some e = zero_in ((f.sector == 512) && is_kind f.kind kinds.Mbr) f.sectors sector some e
first_inside kinds.Label f sector some e = last_in (nat_le 2 f.sectors) f.sectors sector refl e
first_inside kinds.Concat f sector some e = last_in (nat_le 2 f.sectors) f.sectors sector refl e
first_inside kinds.Stripe f sector some e = last_in (nat_le 2 f.sectors) f.sectors sector refl e
first_inside _ f sector some e = not_some sector e

-- a media size has a sector
pub has_sector : (size sector : ℕ) → IsSectorSize sector → IsMediaSize size sector → 1 ≤ size / sector
has_sector size sector (inl e) media =
    let whole : size % 512 ≡ 0 = subst (λ n. size % n ≡ 0) e media.whole in
    let some : 1 ≤ size = media.positive in
    subst (λ n. 1 ≤ size / n) (sym e) (omega (arith, whole, some))
has_sector size sector (inr e) media =
    let whole : size % 4096 ≡ 0 = subst (λ n. size % n ≡ 0) e media.whole in
    let some : 1 ≤ size = media.positive in
    subst (λ n. 1 ≤ size / n) (sym e) (omega (arith, whole, some))

-- Verdicts

-- a verdict on a record isn't that more is asked for
no_more : {X A : Type 0} (shape : X → Shape) (r : Result X DeclineCause) (sector : ℕ)
    → verdict_of shape r ≡ More sector → A
no_more shape (Ok found) sector e = absurd (let no : ⊥ = cc in no)
no_more shape (Err cause) sector e = absurd (let no : ⊥ = cc in no)

-- nor where a label may be declined
no_more_label : {A : Type 0} (found : LabelRecord) (b : Bool) (sector : ℕ)
    → (if b then Decline causes.Media else Accept (Named found)) ≡ More sector → A
no_more_label found true sector e = absurd (let no : ⊥ = cc in no)
no_more_label found false sector e = absurd (let no : ⊥ = cc in no)

-- nor is a label's
label_no_more : {A : Type 0} (f : Facts) (r : Result LabelRecord DeclineCause) (sector : ℕ)
    → label_verdict f r ≡ More sector → A
label_no_more f (Ok found) sector e =
    no_more_label found (is_other_size found.size (f.sectors * f.sector)) sector e
label_no_more f (Err cause) sector e = absurd (let no : ⊥ = cc in no)

-- no class that judges one sector asks for more
pub judge_no_more : {A : Type 0} (kind : Kind) (bytes : List ℕ) (f : Facts) (sector : ℕ)
    → judge kind bytes f ≡ More sector → A
judge_no_more kinds.Mbr bytes f sector e = no_more Slices (mbr_table bytes f.sectors) sector e
judge_no_more kinds.Label bytes f sector e = label_no_more f (label_record bytes) sector e
judge_no_more kinds.Concat bytes f sector e = no_more Joined (concat_record bytes) sector e
judge_no_more kinds.Stripe bytes f sector e = no_more Striped (stripe_record bytes) sector e
judge_no_more _ bytes f sector e = absurd (let no : ⊥ = cc in no)

-- A link of a chain that leads on: what holds of the chain with it.

-- Lists of sectors

-- with a link behind the others a chain begins as with its sector behind theirs
begins_with : (links : List LinkRead) (l : LinkRead) → BeginsAtZero (map (λ x. x.sector) links ++ l.sector ∷ [])
    → BeginsAtZero (map (λ x. x.sector) (links ++ l ∷ []))
begins_with [] l zero = zero
begins_with (x ∷ links) l zero = zero

-- and so with one sector more
begins_on : (links : List LinkRead) (l : LinkRead) (next : ℕ) → BeginsAtZero (map (λ x. x.sector) (links ++ l ∷ []))
    → BeginsAtZero (map (λ x. x.sector) (links ++ l ∷ []) ++ next ∷ [])
begins_on [] l next zero = zero
begins_on (x ∷ links) l next zero = zero

-- what no link of a list passes holds of none
none_at : (next : ℕ) (links : List LinkRead) → list_any (λ (l : LinkRead). l.sector == next) links ≡ false
    → All (λ l. l.sector ≢ next) links
none_at next [] none = All-nil (λ (l : LinkRead). l.sector ≢ next)
none_at next (l ∷ links) none =
    let parts = or_parts (l.sector == next) (list_any (λ (x : LinkRead). x.sector == next) links) none in
    All-cons (λ (x : LinkRead). x.sector ≢ next) l links (eqb-false l.sector next parts.0)
    (none_at next links parts.1)

-- Partitions

-- a partition that is kept is some sectors of the n, by what is against it
part_by : (n first count : ℕ) (no_type no_first no_count far : Bool) → (no_count ≡ false → count ≢ 0)
    → (far ≡ false → first + count ≤ n)
    → IfSome
    (if no_type || (no_first || (no_count || far)) then None else Some (record { first = first; count = count }))
    (IsPartOf n)
part_by n first count true no_first no_count far some inside = tt
part_by n first count false true no_count far some inside = tt
part_by n first count false false true far some inside = tt
part_by n first count false false false true some inside = tt
part_by n first count false false false false some inside = record {
  some = (let more : count ≢ 0 = some refl in omega arith);
  inside = inside refl;
}

-- so is the partition that a link names
named_in : (n sector : ℕ) (bytes : List ℕ) → IfSome (named_part n sector bytes) (IsPartOf n)
named_in n sector bytes =
    let first : ℕ = u32_at bytes (entry_start 0 + 8) in
    let count : ℕ = u32_at bytes (entry_start 0 + 12) in
    part_by n (sector + first) count (entry_type bytes 0 == 0) (first == 0) (count == 0)
    (nat_lt n (sector + first + count))
    (eqb-false count 0) (ltb-false n (sector + first + count))

-- Links

-- a link that leads on: the chain's next link is the sector that is asked for, and nothing is opposed to it
record FollowsOn (n : ℕ) (c : Chain) (bytes : List ℕ) (sector : ℕ) : Type 0 where
  next : next_link bytes ≡ sector
  leads : LeadsTo (λ s. bytes) n c.links c.next (next_link bytes)

module _ (n : ℕ) (c : Chain) (bytes : List ℕ) (sector : ℕ) where
  -- by whether the link leads on
  by_on : (b : Bool) → leads_on bytes ≡ b → first_error (link_tests n (with_link n c bytes) bytes) ≡ None
      → (shape : Shape)
      → (if b then More (next_link bytes) else Accept shape) ≡ More sector → FollowsOn n c bytes sector
  by_on true on none shape e = record {
    next = (let same : next_link bytes ≡ sector = cc in same);
    leads = leads-to (λ s. bytes) n c.links c.next on none;
  }
  by_on false on none shape e = absurd (let no : ⊥ = cc in no)

  -- by what is against it
  by_cause : (o : Option DeclineCause) → first_error (link_tests n (with_link n c bytes) bytes) ≡ o
      → chain_verdict (with_link n c bytes) bytes o ≡ More sector → FollowsOn n c bytes sector
  by_cause (Some cause) is e = absurd (let no : ⊥ = cc in no)
  by_cause None is e = by_on (leads_on bytes) refl is (Logical (table_of (with_link n c bytes).links)) e

-- a link that leads on leaves a chain in order
pub more_links : (n made sector : ℕ) (c : Chain) (bytes : List ℕ) (got : BioResult)
    → ChainHolds n (ReadBack kinds.Ebr got) made c → feed n c bytes ≡ More sector
    → GoesOnTo n made sector (with_link n c bytes)
more_links n made sector c bytes got hold e =
    let on = by_cause n c bytes sector (first_error (link_tests n (with_link n c bytes) bytes)) refl e in
    let l : LinkRead = record { sector = c.next; part = named_part n c.next bytes } in
    let fresh = or_parts (next_link bytes == 0)
    (list_any (λ (x : LinkRead). x.sector == next_link bytes) (c.links ++ l ∷ []))
    on.leads.fresh in
    let longer : length (c.links ++ l ∷ []) ≡ length c.links + 1 = length-append c.links (l ∷ []) in
    let few : length (c.links ++ l ∷ []) < MAX_LINKS = on.leads.few in
    let near : next_link bytes < n = on.leads.near in
    let reads : made ≡ length c.links + 1 = hold.reads in
    let zero : BeginsAtZero (map (λ x. x.sector) (c.links ++ l ∷ [])) = begins_with c.links l hold.zero in
    record {
      hold = record {
        reads = omega (arith, longer, reads);
        few = few;
        parts = All-push (λ (x : LinkRead). IfSome x.part (IsPartOf n)) c.links l hold.parts (named_in n c.next bytes);
        sector = sym on.next;
        zero = begins_on c.links l (next_link bytes) zero;
        inside = All-push (λ (x : LinkRead). x.sector < n) c.links l hold.inside hold.near;
        near = near;
        apart = subst (AllPairs (λ a b. a ≢ b)) (sym (map-append (λ (x : LinkRead). x.sector) c.links (l ∷ [])))
            (all_pairs_push (λ a b. a ≢ b) (map (λ (x : LinkRead). x.sector) c.links) c.next hold.apart
            (All-map (λ a. a ≢ c.next) (λ (x : LinkRead). x.sector) c.links hold.new));
        new = none_at (next_link bytes) (c.links ++ l ∷ []) fresh.1;
      };
      reads = omega (arith, longer, few, reads);
      inside = subst (λ m. m < n) on.next near;
    }

-- links stay in order
pub links_stay_in_order : LinksStayInOrder
links_stay_in_order = record { link = more_links }
