-- Chains of logical partitions. A link is a sector with the signature of an MBR table: its first entry names a
-- partition, its second entry leads to the next link. The first link is sector 0 of the provider; sectors are of 512
-- bytes.
use Rattle.std.specs.Prelude.{◌≡◌, ◌≢◌, ℕ, zero, suc, ◌+◌, ◌-◌, ◌<◌, ◌≤◌, ◌==◌, nat_lt, nat_le, Bool, true, false, not, ◌&&◌, ◌||◌, List, [], ◌∷◌, ◌++◌, length, map, replicate, Option, Some, None, Result, Ok, Err, is_some, All, AllPairs, IsTrue, ⊤, if◌then◌else◌}
use Rattle.std.specs.List.{list_any}
use Rattle.geo_base.specs.declared.decline.DeclineCause.{DeclineCause}
use Rattle.geo_base.specs.declared.decline.DeclineCause.TheVariants as causes
use Rattle.geo_base.specs.declared.limits.TheConstants.{MAX_LINKS}
use Rattle.geo_model.specs.declared.class.EbrPart.{EbrPart}
use Rattle.geo_model.specs.declared.class.EbrTable.{EbrTable}
use Rattle.geo_model.specs.declared.class.Shape.TheVariants.{Logical}
use Rattle.geo_model.specs.declared.class.Verdict.{Verdict}
use Rattle.geo_model.specs.declared.class.Verdict.TheVariants.{Decline, More, Accept}
use Rattle.geo_model.specs.Words.{first_error}
use Rattle.geo_model.specs.Records.{u32_at, entry_start, entry_type, has_signature}

-- a link that was read: its sector, and the partition that it names where that is kept
pub record LinkRead : Type 0 where
  pub sector : ℕ
  pub part : Option EbrPart

-- a chain as far as it was read: its links, and the sector of the link that comes next, or is out or back
pub record Chain : Type 0 where
  pub links : List LinkRead
  pub next : ℕ

-- a chain of which nothing was read
abbrev pub no_links : Chain
no_links = record { links = []; next = 0 }

-- What a link says

-- the partition that the link at a sector names, of a provider of n sectors: the first entry counts from the link,
-- and is kept where its type, first sector and size aren't 0 and its end isn't past the media
abbrev pub named_part : ℕ → ℕ → List ℕ → Option EbrPart
named_part n sector bytes =
    let first = u32_at bytes (entry_start 0 + 8) in
    let count = u32_at bytes (entry_start 0 + 12) in
    if (entry_type bytes 0 == 0) || ((first == 0) || ((count == 0) || nat_lt n (sector + first + count)))
    then None
    else Some (record { first = sector + first; count = count })

-- whether the second entry leads to another link, and to which sector of the provider
abbrev pub leads_on : List ℕ → Bool
leads_on bytes = not (entry_type bytes 1 == 0)

abbrev pub next_link : List ℕ → ℕ
next_link bytes = u32_at bytes (entry_start 1 + 8)

-- whether the second entry is of a type that a link may have: none, or one of the two that lead on
abbrev pub is_link_type : ℕ → Bool
is_link_type kind = (kind == 0) || ((kind == 0x05) || (kind == 0x0F))

-- One link more

-- the chain with the link that comes next, in a provider of n sectors
abbrev pub with_link : ℕ → Chain → List ℕ → Chain
with_link n c bytes = record {
  links = c.links ++ record { sector = c.next; part = named_part n c.next bytes } ∷ [];
  next = next_link bytes;
}

-- whether the sector is 0 or one of a link that was read
abbrev pub was_read : List LinkRead → ℕ → Bool
was_read links sector = (sector == 0) || list_any (λ l. l.sector == sector) links

-- whether one of the links has a partition
abbrev pub has_part : List LinkRead → Bool
has_part links = list_any (λ l. is_some l.part) links

-- what is against a chain of n sectors whose last link has these bytes: the signature, the second entry, a way back,
-- a way past the media, one link too many; at its end, that it has no partition
abbrev pub link_tests : ℕ → Chain → List ℕ → List (Bool × DeclineCause)
link_tests n c bytes =
    (not (has_signature bytes), causes.Signature)
    ∷ (not (is_link_type (entry_type bytes 1)), causes.Second)
    ∷ (leads_on bytes && was_read c.links c.next, causes.Loop)
    ∷ (leads_on bytes && nat_le n c.next, causes.Far)
    ∷ (leads_on bytes && nat_le MAX_LINKS (length c.links), causes.Long)
    ∷ (not (leads_on bytes) && not (has_part c.links), causes.Nothing)
    ∷ []

-- the partitions by their links, a place for each link that a chain may have
abbrev pub table_of : List LinkRead → EbrTable
table_of links = record { parts = map (λ l. l.part) links ++ replicate (MAX_LINKS - length links) None }

-- what a chain comes to with its last link, which has these bytes
abbrev pub chain_verdict : Chain → List ℕ → Option DeclineCause → Verdict
chain_verdict c bytes (Some cause) = Decline cause
chain_verdict c bytes None = if leads_on bytes then More c.next else Accept (Logical (table_of c.links))

-- what the class says to the sector of the next link of a chain
abbrev pub feed : ℕ → Chain → List ℕ → Verdict
feed n c bytes = chain_verdict (with_link n c bytes) bytes (first_error (link_tests n (with_link n c bytes) bytes))

-- Whole chains, where the media tells the bytes of each sector

-- the link at a sector is one, and it leads on or doesn't
pub record IsLinkAt (media : ℕ → List ℕ) (sector : ℕ) (on : Bool) : Type 0 where
  pub signature : IsTrue (has_signature (media sector))
  pub second : IsTrue (is_link_type (entry_type (media sector) 1))
  pub leads : leads_on (media sector) ≡ on

-- each link leads to the next one, and the last one to none
abbrev pub LeadOn : (ℕ → List ℕ) → List ℕ → Type 0
LeadOn media [] = ⊥
LeadOn media (sector ∷ []) = IsLinkAt media sector false
LeadOn media (sector ∷ next ∷ rest) = IsLinkAt media sector true × (next_link (media sector) ≡ next)
    × LeadOn media (next ∷ rest)

-- a walk over sectors begins at sector 0
abbrev pub BeginsAtZero : List ℕ → Type 0
BeginsAtZero [] = ⊤
BeginsAtZero (sector ∷ rest) = sector ≡ 0

-- the links at these sectors of a provider
abbrev pub links_at : (ℕ → List ℕ) → ℕ → List ℕ → List LinkRead
links_at media n sectors = map (λ sector. record { sector = sector; part = named_part n sector (media sector) }) sectors

-- the sectors of n are those of the links of a chain
pub record IsChain (media : ℕ → List ℕ) (n : ℕ) (sectors : List ℕ) : Type 0 where
  pub zero : BeginsAtZero sectors
  pub leads : LeadOn media sectors
  pub inside : All (λ sector. sector < n) sectors
  pub apart : AllPairs (λ a b. a ≢ b) sectors
  pub few : length sectors ≤ MAX_LINKS
  pub some : IsTrue (has_part (links_at media n sectors))

-- the table of the chain from here on, read over so many links
abbrev pub read_on : (Chain → Result EbrTable DeclineCause) → Chain → Verdict → Result EbrTable DeclineCause
read_on rest c (Decline cause) = Err cause
read_on rest c (More sector) = rest c
read_on rest c (Accept (Logical table)) = Ok table
read_on rest c (Accept shape) = Err causes.Nothing

abbrev pub chain_within : ℕ → (ℕ → List ℕ) → ℕ → Chain → Result EbrTable DeclineCause
chain_within zero media n c = Err causes.Long
chain_within (suc links) media n c =
    read_on (chain_within links media n) (with_link n c (media c.next)) (feed n c (media c.next))

-- the table of the chain of a media, or the first cause to decline it
abbrev pub chain_table : (ℕ → List ℕ) → ℕ → Result EbrTable DeclineCause
chain_table media n = chain_within MAX_LINKS media n no_links
