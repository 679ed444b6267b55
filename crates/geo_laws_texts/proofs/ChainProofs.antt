-- Chains have tables exactly where their links stand at sectors that are a chain.
use Rattle.std.specs.Prelude.{◌==◌, nat_lt, is_some, All, AllPairs, if◌then◌else◌}
use Rattle.std.specs.List.{list_any}
use Rattle.std.proofs.Common.{◌≡◌, ◌≢◌, ℕ, suc, ◌+◌, ◌<◌, ◌≤◌, Bool, true, false, ◌||◌, List, [], ◌∷◌, ◌++◌, length, Some, None, Ok, refl, sym, ap, ◌∙◌, arith, append_assoc, length-append, inl, inr}
use Rattle.std.proofs.Math.Bool.{or-true}
use Rattle.std.proofs.lemmas.Bool.{cases_Bool, eq-eqb, eqb-false, ltb-false, ne_eqb, or_from, or_parts}
use Rattle.std.proofs.lemmas.List.Elements.{All-cons, All-head, All-nil, All-tail}
use Rattle.std.proofs.lemmas.List.Folds.{list_any-append}
use Rattle.std.proofs.lemmas.List.Kept.{AllPairs-cons}
use Rattle.geo_base.specs.declared.limits.TheConstants.{MAX_LINKS}
use Rattle.geo_model.specs.declared.class.EbrPart.{EbrPart}
use Rattle.geo_model.specs.declared.class.EbrTable.{EbrTable}
use Rattle.geo_model.specs.Chain.{LinkRead, IsChain, LeadOn, chain_table, chain_within, has_part, links_at, named_part, table_of, was_read}
use Rattle.geo_model.specs.Records.{entry_start, entry_type, u32_at}
use Rattle.geo_laws_texts.specs.ChainLaws.{ChainsAreRead, IsTableOf}
use Rattle.geo_laws_texts.proofs.ChainTests.{link_at, and_link, GoesOn}
use Rattle.geo_laws_texts.proofs.ChainWalks.{Walk, walk-read, read-walk}

-- what is against a partition: its first sector or its size is 0, or its end is past the media
abbrev is_out : ℕ → ℕ → ℕ → ℕ → Bool
is_out n sector first count = (first == 0) || ((count == 0) || nat_lt n (sector + first + count))

-- a partition that is kept ends inside the media, so there is a sector
kept-some : (none : Bool) (n sector first count : ℕ) (part : EbrPart)
    → is_some (if none || is_out n sector first count then None else Some part) ≡ true → 0 < n
kept-some true n sector first count part kept = let no : ⊥ = cc in absurd no
kept-some false n sector first count part kept = elim (cases_Bool (is_out n sector first count)) [
  | inl against ↦ let no : false ≡ true = rw against at kept in let never : ⊥ = cc in absurd never
  | inr free ↦
      let outer = or_parts (first == 0) ((count == 0) || nat_lt n (sector + first + count)) free in
      let inner = or_parts (count == 0) (nat_lt n (sector + first + count)) outer.1 in
      let some : first ≢ 0 = eqb-false first 0 outer.0 in
      let within : sector + first + count ≤ n = ltb-false n (sector + first + count) inner.1 in
      omega (arith, some, within)
]

module _ (media : ℕ → List ℕ) (n : ℕ) where
  -- where a link has a partition, there is a sector
  named-some : (sector : ℕ) → is_some (named_part n sector (media sector)) ≡ true → 0 < n
  named-some sector kept =
      let first : ℕ = u32_at (media sector) (entry_start 0 + 8) in
      let count : ℕ = u32_at (media sector) (entry_start 0 + 12) in
      kept-some (entry_type (media sector) 0 == 0) n sector first count
      (record { first = sector + first; count = count }) kept

  -- where one of some links has a partition, there is a sector
  some-sector : (sectors : List ℕ) → has_part (links_at media n sectors) ≡ true → 0 < n
  some-sector [] some = let no : ⊥ = cc in absurd no
  some-sector (sector ∷ sectors) some = elim (cases_Bool (is_some (named_part n sector (media sector)))) [
    | inl here ↦ named-some sector here
    | inr other ↦ some-sector sectors (rw other at some)
  ]

  -- A walk's sectors are a chain

  -- each link of a walk leads to the next, and the last one leads on no more
  goes-leads : (rest : List ℕ) (links : List LinkRead) (sector : ℕ) → GoesOn media n links sector rest
      → LeadOn media (sector ∷ rest)
  goes-leads [] links sector goes = goes.at
  goes-leads (next ∷ rest) links sector goes =
      (goes.0.at, goes.0.leads, goes-leads rest (and_link media n links sector) next goes.1)

  -- a walk goes to sectors of the media alone
  goes-inside : (rest : List ℕ) (links : List LinkRead) (sector : ℕ) → GoesOn media n links sector rest
      → All (λ s. s < n) rest
  goes-inside [] links sector goes = All-nil (λ s. s < n)
  goes-inside (next ∷ rest) links sector goes =
      All-cons (λ s. s < n) next rest goes.0.near (goes-inside rest (and_link media n links sector) next goes.1)

  -- it never comes back to a sector that was read
  goes-past : (x : ℕ) (rest : List ℕ) (links : List LinkRead) (sector : ℕ)
      → list_any (λ (l : LinkRead). l.sector == x) (and_link media n links sector) ≡ true
      → GoesOn media n links sector rest
      → All (λ s. x ≢ s) rest
  goes-past x [] links sector read goes = All-nil (λ s. x ≢ s)
  goes-past x (next ∷ rest) links sector read goes =
      let fresh : list_any (λ (l : LinkRead). l.sector == next) (and_link media n links sector) ≡ false =
      (or_parts (next == 0) (list_any (λ (l : LinkRead). l.sector == next) (and_link media n links sector))
      goes.0.fresh).1 in
      let here : x ≢ next =
      (λ e.
      let both : true ≡ false =
      sym read ∙ ap (λ s. list_any (λ (l : LinkRead). l.sector == s) (and_link media n links sector)) e ∙ fresh in
      let no : ⊥ = cc in no) in
      let still : list_any (λ (l : LinkRead). l.sector == x) (and_link media n (and_link media n links sector) next)
      ≡ true =
      list_any-append (λ (l : LinkRead). l.sector == x) (and_link media n links sector) (link_at media n next ∷ [])
      ∙ ap (λ b. b || list_any (λ (l : LinkRead). l.sector == x) (link_at media n next ∷ [])) read in
      All-cons (λ s. x ≢ s) next rest here (goes-past x rest (and_link media n links sector) next still goes.1)

  -- the sector of the last link that was read was read
  was_read-last : (links : List LinkRead) (sector : ℕ)
      → list_any (λ (l : LinkRead). l.sector == sector) (and_link media n links sector) ≡ true
  was_read-last links sector =
      list_any-append (λ (l : LinkRead). l.sector == sector) links (link_at media n sector ∷ [])
      ∙ ap (λ b. list_any (λ (l : LinkRead). l.sector == sector) links || (b || false)) (eq-eqb sector sector refl)
      ∙ or-true (list_any (λ (l : LinkRead). l.sector == sector) links)

  -- a walk is at no sector twice
  goes-apart : (rest : List ℕ) (links : List LinkRead) (sector : ℕ) → GoesOn media n links sector rest
      → AllPairs (λ a b. a ≢ b) (sector ∷ rest)
  goes-apart [] links sector goes = λ i j d lt within. absurd (omega (arith, lt, within))
  goes-apart (next ∷ rest) links sector goes =
      AllPairs-cons (λ a b. a ≢ b) sector (next ∷ rest)
      (goes-past sector (next ∷ rest) links sector (was_read-last links sector) goes)
      (goes-apart rest (and_link media n links sector) next goes.1)

  -- a walk has at most MAX_LINKS links
  goes-few : (rest : List ℕ) (links : List LinkRead) (sector : ℕ) → length links + 1 ≤ MAX_LINKS
      → GoesOn media n links sector rest
      → length links + 1 + length rest ≤ MAX_LINKS
  goes-few [] links sector room goes = omega (arith, room)
  goes-few (next ∷ rest) links sector room goes =
      let few : length (and_link media n links sector) < MAX_LINKS = goes.0.few in
      let more : length (and_link media n links sector) ≡ length links + 1 =
      length-append links (link_at media n sector ∷ []) in
      let so : length (and_link media n links sector) + 1 + length rest ≤ MAX_LINKS =
      goes-few rest (and_link media n links sector) next (omega (arith, few)) goes.1 in
      omega (arith, more, so)

  -- some link of a walk has a partition
  goes-kept : (rest : List ℕ) (links : List LinkRead) (sector : ℕ) → GoesOn media n links sector rest
      → has_part (links ++ links_at media n (sector ∷ rest)) ≡ true
  goes-kept [] links sector goes = goes.kept
  goes-kept (next ∷ rest) links sector goes =
      ap has_part (sym (append_assoc links (link_at media n sector ∷ []) (links_at media n (next ∷ rest))))
      ∙ goes-kept rest (and_link media n links sector) next goes.1

  -- the sectors of a walk from sector 0 are a chain
  to_chain : (rest : List ℕ) → GoesOn media n [] 0 rest → IsChain media n (0 ∷ rest)
  to_chain rest goes =
      let kept : has_part (links_at media n (0 ∷ rest)) ≡ true = goes-kept rest [] 0 goes in
      record {
        zero = refl;
        leads = goes-leads rest [] 0 goes;
        inside = All-cons (λ s. s < n) 0 rest (some-sector (0 ∷ rest) kept) (goes-inside rest [] 0 goes);
        apart = goes-apart rest [] 0 goes;
        few = (let so : 0 + 1 + length rest ≤ MAX_LINKS = goes-few rest [] 0 (omega arith) goes in omega (arith, so));
        some = kept;
      }

  -- A chain's sectors are a walk

  -- a sector that was read by none of the links, nor by one more
  fresh-more : (links : List LinkRead) (sector s : ℕ) → was_read links s ≡ false → sector ≢ s
      → was_read (and_link media n links sector) s ≡ false
  fresh-more links sector s fresh other =
      let parts = or_parts (s == 0) (list_any (λ (l : LinkRead). l.sector == s) links) fresh in
      or_from (s == 0) (list_any (λ (l : LinkRead). l.sector == s) (and_link media n links sector)) parts.0
      (list_any-append (λ (l : LinkRead). l.sector == s) links (link_at media n sector ∷ [])
      ∙ or_from (list_any (λ (l : LinkRead). l.sector == s) links) ((sector == s) || false) parts.1
      (or_from (sector == s) false (ne_eqb sector s other) refl))

  -- sectors that lead on, are of the media, apart, unread and few, one of them with a partition, are a walk
  goes-from : (rest : List ℕ) (links : List LinkRead) (sector : ℕ) → LeadOn media (sector ∷ rest)
      → All (λ s. s < n) rest
      → All (λ s. was_read (and_link media n links sector) s ≡ false) rest → AllPairs (λ a b. a ≢ b) rest
      → length links + 1 + length rest ≤ MAX_LINKS → has_part (links ++ links_at media n (sector ∷ rest)) ≡ true
      → GoesOn media n links sector rest
  goes-from [] links sector leads inside fresh apart few kept = record { at = leads; kept = kept }
  goes-from (next ∷ rest) links sector leads inside fresh apart few kept =
      let more : length (and_link media n links sector) ≡ length links + 1 =
      length-append links (link_at media n sector ∷ []) in
      let later : All (λ s. was_read (and_link media n links sector) s ≡ false) rest =
      All-tail (λ s. was_read (and_link media n links sector) s ≡ false) next rest fresh in (
        record {
          at = leads.0;
          leads = leads.1;
          fresh = All-head (λ s. was_read (and_link media n links sector) s ≡ false) next rest fresh;
          near = All-head (λ s. s < n) next rest inside;
          few = omega (arith, more, few);
        },
        goes-from rest (and_link media n links sector) next leads.2 (All-tail (λ s. s < n) next rest inside)
            (λ k d within. fresh-more (and_link media n links sector) next _ (later k d within)
            (apart 0 (suc k) d (omega arith) (omega (arith, within))))
            (λ i j d lt within. apart (suc i) (suc j) d (omega (arith, lt)) (omega (arith, within)))
            (omega (arith, more, few))
            (ap has_part (append_assoc links (link_at media n sector ∷ []) (links_at media n (next ∷ rest))) ∙ kept),
      )

  -- the first link stands at sector 0, to which none of the others leads
  fresh-first : (sector s : ℕ) → sector ≡ 0 → sector ≢ s → was_read (and_link media n [] sector) s ≡ false
  fresh-first sector s zero other =
      or_from (s == 0) ((sector == s) || false) (ne_eqb s 0 (λ e. other (zero ∙ sym e)))
      (or_from (sector == s) false (ne_eqb sector s other) refl)

  -- the sectors of a chain are a walk
  from_chain : (sector : ℕ) (rest : List ℕ) → IsChain media n (sector ∷ rest) → GoesOn media n [] sector rest
  from_chain sector rest chain =
      goes-from rest [] sector chain.leads (All-tail (λ s. s < n) sector rest chain.inside)
      (λ k d within. fresh-first sector _ chain.zero (chain.apart 0 (suc k) d (omega arith) (omega (arith, within))))
      (λ i j d lt within. chain.apart (suc i) (suc j) d (omega (arith, lt)) (omega (arith, within)))
      (let few : length (sector ∷ rest) ≤ MAX_LINKS = chain.few in omega (arith, few)) chain.some

  -- the table of sectors that are a chain
  chain-read : (table : EbrTable) (sectors : List ℕ) → IsChain media n sectors
      → table ≡ table_of (links_at media n sectors)
      → chain_table media n ≡ Ok table
  chain-read table [] chain same = absurd chain.leads
  chain-read table (sector ∷ rest) chain same =
      let few : length rest < MAX_LINKS =
      (let all : length (sector ∷ rest) ≤ MAX_LINKS = chain.few in omega (arith, all)) in
      ap (λ s. chain_within MAX_LINKS media n (record { links = []; next = s })) (sym chain.zero)
      ∙ read-walk media n rest MAX_LINKS [] sector (from_chain sector rest chain) few ∙ ap Ok (sym same)

  -- the sectors of a chain with a table
  read-chain : (table : EbrTable) → chain_table media n ≡ Ok table → IsTableOf media n table
  read-chain table read =
      let walk : Walk media n [] 0 table = walk-read media n MAX_LINKS [] 0 table read in
      record { sectors = 0 ∷ walk.rest; chain = to_chain walk.rest walk.goes; same = walk.same }

-- a table is read from a media exactly where its links make a chain that gives it
pub chains_are_read : ChainsAreRead
chains_are_read media n table = (
  read-chain media n table,
  (λ found. chain-read media n table found.sectors found.chain found.same),
)
