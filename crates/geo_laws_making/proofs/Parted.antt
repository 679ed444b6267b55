-- Tables of sectors of the tasted provider: the slices of an MBR, and the logical partitions of a chain. A geom is
-- made over the provider, with a provider for each entry.
use Rattle.std.specs.Prelude.{◌≡◌, ℕ, zero, suc, ◌+◌, ◌*◌, ◌/◌, ◌<◌, ◌≤◌, ◌==◌, nat_lt, Bool, true, false, ◌&&◌, ◌||◌, List, [], ◌∷◌, length, map, Option, Some, None, IsSome, slice_get, if◌then◌else◌, ◌-◌, ◌++◌, replicate, All, IfSome}
use Rattle.std.specs.List.{range_with_len}
use Rattle.std.specs.Option.{option_flatten, option_map}
use Rattle.std.proofs.Common.{inl, inr, refl, sym, ◌∙◌, ap, subst, arith}
use Rattle.std.proofs.lemmas.Bool.{or_parts, ltb-false, eqb-true}
use Rattle.std.proofs.lemmas.List.Elements.{All-append, All-map, All-push, All-replicate}
use Rattle.std.proofs.Math.Nat.{div-mul-le_self, mul-mod_left}
use Rattle.geo_base.specs.declared.decline.DeclineCause.{DeclineCause}
use Rattle.geo_base.specs.declared.kind.Kind.{Kind}
use Rattle.geo_base.specs.declared.kind.Kind.TheVariants as kinds
use Rattle.geo_base.specs.declared.limits.TheConstants.{MAX_MEDIA_BYTES, MAX_LINKS}
use Rattle.geo_model.specs.declared.class.MbrTable.{MbrTable}
use Rattle.geo_model.specs.declared.class.Slice.{Slice}
use Rattle.geo_model.specs.declared.class.Shape.{Shape}
use Rattle.geo_model.specs.declared.class.Shape.TheVariants.{Slices, Logical}
use Rattle.geo_model.specs.declared.class.Verdict.TheVariants.{Accept, More}
use Rattle.geo_model.specs.Words.{first_error, unless, same_name}
use Rattle.geo_model.specs.Names.{slice_name, logical_name}
use Rattle.geo_model.specs.Topology.{Provider, provider_at}
use Rattle.geo_model.specs.World.{World, Config, Mbr, Taste, Ebr}
use Rattle.geo_model.specs.Events.{QueuedTopology}
use Rattle.geo_model.specs.WorldEvents.{queued_of, with_queued}
use Rattle.geo_model.specs.Place.{slice_place, component, place, end_number}
use Rattle.geo_model.specs.Acceptance.{NewSlice, with_slices, verdict_of, accept_slices}
use Rattle.geo_model.specs.Records.{u32_at, entry_start, entry_type, kept_entry, kept_entries, mbr_tests}
use Rattle.geo_model.specs.Sound.{IsMediaSize, IsPartOf, ChainHolds, class_asked}
use Rattle.geo_model.specs.Fitting.{IsWholeIn, Firm}
use Rattle.geo_laws_graph.proofs.Members.{Contains-map}
use Rattle.geo_laws_counts.proofs.LimitFacts.{all_of}
use Rattle.geo_laws_life.proofs.Standers.{pairs-from_recursion}
use Rattle.geo_laws_life.proofs.Found.{at-found, if-found}
use Rattle.geo_laws_making.specs.MakingLaws.{HasPlace, CanOffer}
use Rattle.geo_laws_making.proofs.Made.{made-firm, IsPlain, plain-place, plain-can}
use Rattle.geo_laws_making.proofs.MadeFree.{free-made, not-taken, IsMadeFree}
use Rattle.geo_laws_making.specs.AcceptLaws.{IsAccepted, SlicesStayFirm, PartitionsStayFirm}
use Rattle.geo_laws_making.proofs.Accepted.{found, media, asks, low, tasting}
use Rattle.geo_laws_making.proofs.NewSlices.{IsOfPlace, of-place, new-differ, slice-tells, logical-tells, new_of}
use Rattle.std.proofs.lemmas.List.{length-append, length-map, length-replicate}
use Rattle.std.proofs.lemmas.Option.{slice_get_within, get_or_from_slice_get}
use Rattle.geo_model.specs.declared.class.EbrPart.{EbrPart}
use Rattle.geo_model.specs.declared.class.EbrTable.{EbrTable}
use Rattle.geo_model.specs.Chain.{Chain, LinkRead, with_link, link_tests, table_of, chain_verdict, leads_on, named_part}

-- where a class asks only with 512 bytes a sector, the provider has so many
sectors-are : (p : Provider) (b : Bool) → IsSome {T = ℕ} (if (p.sector == 512) && b then Some 0 else None)
    → p.sector ≡ 512
sectors-are p b some = eqb-true p.sector 512 (by (p.sector == 512) b some) where
  -- the first part of the test holds
  by : (a b : Bool) → IsSome {T = ℕ} (if a && b then Some 0 else None) → a ≡ true
  by true b some = refl
  by false b some = absurd (let no : ⊥ = cc in no)

-- what isn't 0 is some
not-zero : (n : ℕ) → (n == 0) ≡ false → 1 ≤ n
not-zero zero e = absurd (let no : ⊥ = cc in no)
not-zero (suc n) e = omega arith

-- an entry that is kept has some sectors, which end inside
record IsKept {A : Type 0} (count end n : ℕ) (entry found : A) : Type 0 where
  some : 1 ≤ count
  inside : end ≤ n
  is : entry ≡ found

-- so it is where nothing is against it
entry-kept : {A : Type 0} (type first count end n : ℕ) (entry found : A)
    → (if (type == 0) || ((first == 0) || ((count == 0) || nat_lt n end)) then None else Some entry) ≡ Some found
    → IsKept count end n entry found
entry-kept type first count end n entry found e =
    by ((type == 0) || ((first == 0) || ((count == 0) || nat_lt n end))) refl e
  where
    -- by whether anything is
    by : (b : Bool) → ((type == 0) || ((first == 0) || ((count == 0) || nat_lt n end))) ≡ b
        → (if b then None else Some entry) ≡ Some found → IsKept count end n entry found
    by true is e = absurd (let no : ⊥ = cc in no)
    by false is e =
        let a = or_parts (type == 0) ((first == 0) || ((count == 0) || nat_lt n end)) is in
        let b = or_parts (first == 0) ((count == 0) || nat_lt n end) a.1 in
        let d = or_parts (count == 0) (nat_lt n end) b.1 in
        record { some = not-zero count d.0; inside = ltb-false n end d.1; is = cc }

-- a configuration with entries of sectors: each is inside the provider, and is found by the name of its place
record IsTable {X : Type 0} (w : World) (p : Provider) (kind : Kind) (config : Config) (name : ℕ → List ℕ)
    (index : List ℕ → ℕ) (first count : X → ℕ) (xs : List (Option X)) : Type 0 where
  plain : IsPlain kind config w.topology.next_consumer
  whole : IsWholeIn config p.sector
  sectors : p.sector ≡ 512
  inside : (k : ℕ) (x : X) → slice_get xs k ≡ Some (Some x) → (1 ≤ count x) × (first x + count x ≤ p.size / p.sector)
  places : (bytes : List ℕ) (o : ℕ) → place config bytes o
      ≡ option_map (λ y. record { component = 0; offset = first y * 512 + o })
      (option_flatten (slice_get xs (index bytes)))
  tells : (k : ℕ) → k < length xs → index (name k) ≡ k

module _ {X : Type 0} (w : World) (s : Taste) (p : Provider) (kind : Kind) (bytes : List ℕ) (shape : Shape)
    (made : QueuedTopology Config) (firm : Firm w) (accepted : IsAccepted w s p kind bytes shape made)
    (config : Config) (name : ℕ → List ℕ) (index : List ℕ → ℕ) (first count : X → ℕ) (xs : List (Option X))
    (table : IsTable w p kind config name index first count xs)
    (makes : accept_slices (queued_of w) p kind config (new_of name count 0 xs) ≡ Some made) where
  -- the providers to be made
  abbrev slices : List NewSlice
  slices = new_of name count 0 xs

  -- the sectors are so many bytes
  all_sectors : p.size / p.sector * 512 ≤ p.size
  all_sectors = subst (λ m. p.size / p.sector * m ≤ p.size) table.sectors (div-mul-le_self p.size p.sector)

  -- the size of an entry is one
  entry_media : (x : NewSlice) → IsOfPlace name count 0 xs x → IsMediaSize x.size 512
  entry_media x o =
      let f = table.inside o.place o.item o.at in
      let some : 1 ≤ count o.item = f.0 in
      let end : first o.item + count o.item ≤ p.size / p.sector = f.1 in
      let all = all_sectors in
      let limited : p.size ≤ MAX_MEDIA_BYTES = (media w s p kind bytes shape made firm accepted).limited in
      subst (λ m. IsMediaSize m 512) (sym o.size_is)
      (record { positive = omega arith; whole = mul-mod_left (count o.item) 512; limited = omega arith })

  -- its offsets have their places
  has_place : (x : NewSlice) → IsOfPlace name count 0 xs x → (o : ℕ) → o < x.size
      → HasPlace config (p ∷ []) w.topology.next_consumer 512 x.name o
  has_place x entry o short =
      let number : 0 + entry.place ≡ entry.place = omega arith in
      let told : index x.name ≡ entry.place =
      ap index (entry.name_is ∙ ap name number)
      ∙ table.tells entry.place (slice_get_within xs entry.place (Some entry.item) entry.at) in
      let end : first entry.item + count entry.item ≤ p.size / p.sector =
      (table.inside entry.place entry.item entry.at).1 in
      let less : o < count entry.item * 512 = subst (λ m. o < m) entry.size_is short in
      let all = all_sectors in
      plain-place w kind config p table.plain 512 x.name o (first entry.item * 512 + o)
      (table.places x.name o
      ∙ ap (λ z. option_map (λ y. record { component = 0; offset = first y * 512 + o }) (option_flatten z))
      (ap (slice_get xs) told ∙ entry.at))
      (omega arith) table.sectors

  -- the names are free, and what is made is the geom with these
  there : IsMadeFree w.topology (map (λ (x : NewSlice). x.name) slices)
      (with_slices (queued_of w) p kind config slices) made
  there =
      free-made w.topology (map (λ (x : NewSlice). x.name) slices)
      (with_slices (queued_of w) p kind config slices) made makes

  -- so the mesh with it is firm
  table-firm : Firm (with_queued w made)
  table-firm =
      subst (λ q. Firm (with_queued w q)) there.is
      (made-firm w kind p.name config true (p ∷ []) 512 slices firm
      (plain-can w kind config p table.plain 512 slices (found w s p kind bytes shape made firm accepted)
      (low w s p kind bytes shape made firm accepted) table.whole (inl refl)
      (all_of (CanOffer w config (p ∷ []) 512) slices (λ x here.
      let entry = of-place name count 0 xs x here in
      record {
        free = not-taken w.topology (map (λ (z : NewSlice). z.name) slices) there.free x.name
            (Contains-map (λ (z : NewSlice). z.name) slices x here);
        size = entry_media x entry;
        leads = inr (has_place x entry);
      }))
      (pairs-from_recursion (λ (x y : NewSlice). same_name x.name y.name ≡ false) slices
      (new-differ name count index (length xs) table.tells 0 xs (omega arith)))))

-- Slices

-- an item of a list that is made of numbers from one on
made-at : {X : Type 0} (f : ℕ → X) (n m k : ℕ) (x : X) → slice_get (map f (range_with_len n m)) k ≡ Some x
    → f (n + k) ≡ x
made-at f n zero k x e = absurd (let no : ⊥ = cc in no)
made-at f n (suc m) zero x e =
    let number : n + 0 ≡ n = omega arith in
    ap f number ∙ (let same : f n ≡ x = cc in same)
made-at f n (suc m) (suc k) x e =
    let number : n + suc k ≡ n + 1 + k = omega arith in
    ap f number ∙ made-at f (n + 1) m k x e

-- the table that is accepted is the one that was read
table-read : (o : Option DeclineCause) (x table : MbrTable) → verdict_of Slices (unless o x) ≡ Accept (Slices table)
    → x ≡ table
table-read None x table e = cc
table-read (Some cause) x table e = absurd (let no : ⊥ = cc in no)

module _ (w : World) (s : Taste) (p : Provider) (bytes : List ℕ) (table : MbrTable)
    (made : QueuedTopology Config) (firm : Firm w)
    (accepted : IsAccepted w s p kinds.Mbr bytes (Slices table) made) where
  -- a slice of the table is an entry that is kept, so it is inside
  slice-inside : (k : ℕ) (x : Slice) → slice_get table.slices k ≡ Some (Some x)
      → (1 ≤ x.count) × (x.first + x.count ≤ p.size / p.sector)
  slice-inside k x at =
      let n : ℕ = p.size / p.sector in
      let same : kept_entries bytes n ≡ table.slices =
      ap (λ (x : MbrTable). x.slices)
      (table-read (first_error (mbr_tests bytes n)) (record { slices = kept_entries bytes n }) table
      accepted.verdict) in
      let e : kept_entry bytes n (0 + k) ≡ Some x =
      made-at (kept_entry bytes n) 0 4 k (Some x) (subst (λ xs. slice_get xs k ≡ Some (Some x)) (sym same) at) in
      let first : ℕ = u32_at bytes (entry_start (0 + k) + 8) in
      let count : ℕ = u32_at bytes (entry_start (0 + k) + 12) in
      let kept = entry-kept {A = Slice} (entry_type bytes (0 + k)) first count (first + count) n
      (record { first = first; count = count }) x e in
      subst (λ (y : Slice). (1 ≤ y.count) × (y.first + y.count ≤ n)) kept.is (kept.some, kept.inside)

  -- so the mesh with the slices is firm
  pub slices-firm : Firm (with_queued w made)
  slices-firm =
      let sectors = sectors-are p _ (asks w s p kinds.Mbr bytes (Slices table) made firm accepted) in
      table-firm w s p kinds.Mbr bytes (Slices table) made firm accepted
      (Mbr (Some w.topology.next_consumer) table.slices) (slice_name p.name) slice_place (λ (y : Slice). y.first)
      (λ (y : Slice). y.count) table.slices
      (record {
        plain = record {
          fits = refl;
          dev = refl;
          taste = refl;
          concat = refl;
          stripe = refl;
          one_component = refl;
          first_component = refl;
          no_places = refl;
          no_sizes = refl;
          no_disk = refl;
        };
        whole = sectors;
        sectors = sectors;
        inside = slice-inside;
        places = λ name o. refl;
        tells = λ k less. slice-tells p.name k;
      }) accepted.makes

-- so say all tables
pub slices_stay : SlicesStayFirm
slices_stay = record {
  slices = λ w s p bytes table made firm accepted. slices-firm w s p bytes table made firm accepted;
}

-- Partitions

-- the table of a chain that is accepted is that of its links
links-read : (c : Chain) (bytes : List ℕ) (o : Option DeclineCause) (table : EbrTable)
    → chain_verdict c bytes o ≡ Accept (Logical table) → table_of c.links ≡ table
links-read c bytes (Some cause) table e = absurd (let no : ⊥ = cc in no)
links-read c bytes None table e = by (leads_on bytes) e where
  -- by whether it leads on
  by : (b : Bool) → (if b then More c.next else Accept (Logical (table_of c.links))) ≡ Accept (Logical table)
      → table_of c.links ≡ table
  by true e = absurd (let no : ⊥ = cc in no)
  by false e = cc

-- the partition that a link names is some sectors of those that there are
named-inside : (bytes : List ℕ) (n sector : ℕ) (x : EbrPart) → named_part n sector bytes ≡ Some x → IsPartOf n x
named-inside bytes n sector x e =
    let first : ℕ = u32_at bytes (entry_start 0 + 8) in
    let count : ℕ = u32_at bytes (entry_start 0 + 12) in
    let kept = entry-kept {A = EbrPart} (entry_type bytes 0) first count (sector + first + count) n
    (record { first = sector + first; count = count }) x e in
    subst (IsPartOf n) kept.is (record { some = kept.some; inside = kept.inside })

module _ (w : World) (s : Taste) (p : Provider) (bytes : List ℕ) (table : EbrTable)
    (made : QueuedTopology Config) (firm : Firm w)
    (accepted : IsAccepted w s p kinds.Ebr bytes (Logical table) made) where
  -- the number of sectors
  abbrev n : ℕ
  n = p.size / p.sector

  -- the chain that was read
  chain : ChainHolds n s.asked s.reads s.chain
  chain =
      at-found (provider_at w.topology s.provider) (λ x. ChainHolds (x.size / x.sector) s.asked s.reads s.chain) p
      accepted.found
      ((tasting w s p kinds.Ebr bytes (Logical table) made firm accepted).chain (ap class_asked accepted.asked))

  -- its links with the one that came back
  abbrev links : List LinkRead
  links = (with_link n s.chain bytes).links

  -- are at most as many as there may be
  few : length links ≤ MAX_LINKS
  few =
      let before : length s.chain.links < MAX_LINKS = chain.few in
      let more : length links ≡ length s.chain.links + 1 = length-append s.chain.links _ in
      omega arith

  -- their partitions are those of the table
  parts_are : (table_of links).parts ≡ table.parts
  parts_are =
      ap (λ (x : EbrTable). x.parts)
      (links-read (with_link n s.chain bytes) bytes
      (first_error (link_tests n (with_link n s.chain bytes) bytes)) table
      accepted.verdict)

  -- so many
  number : length table.parts ≡ MAX_LINKS
  number =
      let all : length (map (λ (l : LinkRead). l.part) links ++ replicate (MAX_LINKS - length links) None)
      ≡ length (map (λ (l : LinkRead). l.part) links)
      + length (replicate {A = Option EbrPart} (MAX_LINKS - length links) None) =
      length-append (map (λ (l : LinkRead). l.part) links) (replicate (MAX_LINKS - length links) None) in
      let first : length (map (λ (l : LinkRead). l.part) links) ≡ length links =
      length-map links (λ (l : LinkRead). l.part) in
      let rest : length (replicate {A = Option EbrPart} (MAX_LINKS - length links) None) ≡ MAX_LINKS - length links =
      length-replicate {A = Option EbrPart} (MAX_LINKS - length links) None in
      let short = few in
      sym (ap length parts_are) ∙ all ∙ (let sum : length (map (λ (l : LinkRead). l.part) links)
      + length (replicate {A = Option EbrPart} (MAX_LINKS - length links) None) ≡ MAX_LINKS = omega arith in sum)

  -- each is some sectors
  parts_inside : All (λ (o : Option EbrPart). IfSome o (IsPartOf n)) (table_of links).parts
  parts_inside =
      All-append (λ (o : Option EbrPart). IfSome o (IsPartOf n)) (map (λ (l : LinkRead). l.part) links)
      (replicate (MAX_LINKS - length links) None)
      (All-map (λ (o : Option EbrPart). IfSome o (IsPartOf n)) (λ (l : LinkRead). l.part) links
      (All-push (λ (l : LinkRead). IfSome l.part (IsPartOf n)) s.chain.links _ chain.parts
      (if-found (named_part n s.chain.next bytes) (IsPartOf n) (λ x e. named-inside bytes n s.chain.next x e))))
      (All-replicate (λ (o : Option EbrPart). IfSome o (IsPartOf n)) (MAX_LINKS - length links) None tt)

  -- so the one at a place
  inside : (k : ℕ) (x : EbrPart) → slice_get table.parts k ≡ Some (Some x) → IsPartOf n x
  inside k x at =
      let here : slice_get (table_of links).parts k ≡ Some (Some x) =
      subst (λ xs. slice_get xs k ≡ Some (Some x)) (sym parts_are) at in
      subst (λ (o : Option EbrPart). IfSome o (IsPartOf n))
      (get_or_from_slice_get (table_of links).parts k (Some x) None here)
      (parts_inside k None (slice_get_within (table_of links).parts k (Some x) here))

  -- the name of a partition tells its place
  tells : (k : ℕ) → k < length table.parts → end_number (logical_name p.name k) - 1 ≡ k
  tells k less =
      let here : k + 1 - 1 ≡ k = omega arith in
      let all : length table.parts ≡ MAX_LINKS = number in
      ap (λ m. m - 1) (logical-tells p.name k (omega arith)) ∙ here

  -- so the mesh with the partitions is firm
  pub parts-firm : Firm (with_queued w made)
  parts-firm =
      let sectors = sectors-are p _ (asks w s p kinds.Ebr bytes (Logical table) made firm accepted) in
      table-firm w s p kinds.Ebr bytes (Logical table) made firm accepted
      (Ebr (Some w.topology.next_consumer) table.parts) (logical_name p.name) (λ name. end_number name - 1)
      (λ (y : EbrPart). y.first) (λ (y : EbrPart). y.count) table.parts
      (record {
        plain = record {
          fits = refl;
          dev = refl;
          taste = refl;
          concat = refl;
          stripe = refl;
          one_component = refl;
          first_component = refl;
          no_places = refl;
          no_sizes = refl;
          no_disk = refl;
        };
        whole = sectors;
        sectors = sectors;
        inside = λ k x at. let f = inside k x at in (f.some, f.inside);
        places = λ name o. refl;
        tells = tells;
      }) accepted.makes

-- so say all chains
pub partitions_stay : PartitionsStayFirm
partitions_stay = record {
  partitions = λ w s p bytes table made firm accepted. parts-firm w s p bytes table made firm accepted;
}
