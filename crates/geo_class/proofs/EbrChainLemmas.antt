-- One link more in a chain whose links stand in rows of cells.
use Rattle.std.specs.Prelude.{if◌then◌else◌}
use Rattle.std.proofs.Common.{◌≡◌, ℕ, ◌+◌, ◌-◌, ◌<◌, true, false, List, [], ◌∷◌, ◌++◌, length, map, take, drop, set, replicate, Option, Some, None, sym, ap, ◌∙◌, arith, length-take-le, take-append-drop}
use Rattle.std.proofs.lemmas.List.{take_more_set, length-set, drop-set-lt, drop-replicate, drop-drop}
use Rattle.geo_model.specs.DeclineCause.{DeclineCause}
use Rattle.geo_model.specs.TheConstants.{MAX_LINKS}
use Rattle.geo_model.specs.declared.class.EbrPart.{EbrPart}
use Rattle.geo_model.specs.declared.class.Shape.TheVariants.{Logical}
use Rattle.geo_model.specs.declared.class.Verdict.TheVariants.{Decline, More, Accept}
use Rattle.geo_model.specs.Chain.{LinkRead, Chain, with_link, named_part, next_link, leads_on, link_tests, feed, chain_verdict, table_of}
use Rattle.geo_model.specs.Words.{first_error}
use Rattle.geo_class.specs.ebr.ChainView.{ChainView}
use Rattle.geo_class.specs.ebr.Links.{AreLinks, chain_in, links_read}
use Rattle.geo_class.proofs.EbrLinkLemmas.{links-length, links-parts, links-more}
use Rattle.geo_class.proofs.EbrCauseLemmas.{against-few}

-- a chain in rows of cells, and its next link: the bytes, and the partition that they name
module _ (sectors next count : ℕ) (visited : List ℕ) (parts : List (Option EbrPart))
    (kept : AreLinks visited parts count)
    (bytes : List ℕ) (part : Option EbrPart) (named : part ≡ named_part sectors next bytes) where
  -- the chain as it was
  abbrev pub old : Chain
  old = chain_in visited parts count next

  -- its rows with the link
  abbrev pub more_visited : List ℕ
  more_visited = set visited count next

  abbrev pub more_parts : List (Option EbrPart)
  more_parts = set parts count part

  -- the chain with the link
  abbrev pub longer : Chain
  longer = chain_in more_visited more_parts (count + 1) (next_link bytes)

  -- what is against it
  abbrev pub against_longer : Option DeclineCause
  against_longer = first_error (link_tests sectors longer bytes)

  -- the rows have as many cells as there are links
  old_visited : length (take count visited) ≡ count
  old_visited = length-take-le count visited (omega (arith, kept.sectors, kept.few))

  old_parts : length (take count parts) ≡ count
  old_parts = length-take-le count parts (omega (arith, kept.places, kept.few))

  long_visited : length (take (count + 1) more_visited) ≡ count + 1
  long_visited = length-take-le (count + 1) more_visited
      (omega (arith, length-set visited count next, kept.sectors, kept.few))

  long_parts : length (take (count + 1) more_parts) ≡ count + 1
  long_parts =
      length-take-le (count + 1) more_parts (omega (arith, length-set parts count part, kept.places, kept.few))

  pub long_alike : length (take (count + 1) more_visited) ≡ length (take (count + 1) more_parts)
  long_alike = long_visited ∙ sym long_parts

  -- the model's chain with the link is that of the longer rows
  pub with_link-is : with_link sectors old bytes ≡ longer
  with_link-is =
      let in_visited : count < length visited = omega (arith, kept.sectors, kept.few) in
      let in_parts : count < length parts = omega (arith, kept.places, kept.few) in
      let links : links_read (take (count + 1) more_visited) (take (count + 1) more_parts)
      ≡ links_read (take count visited) (take count parts) ++ record { sector = next; part = part } ∷ [] =
      ap (λ vs. links_read vs (take (count + 1) more_parts)) (take_more_set visited count next in_visited)
      ∙ ap (λ ps. links_read (take count visited ++ next ∷ []) ps) (take_more_set parts count part in_parts)
      ∙ links-more (take count visited) (take count parts) next part (old_visited ∙ sym old_parts) in
      ap (λ p. record { links = old.links ++ record { sector = next; part = p } ∷ []; next = next_link bytes })
      (sym named)
      ∙ ap (λ ls. record { links = ls; next = next_link bytes }) (sym links)

  -- the model's answer by the longer chain
  feed-is : feed sectors old bytes ≡ chain_verdict longer bytes against_longer
  feed-is = ap (λ c. chain_verdict c bytes (first_error (link_tests sectors c bytes))) with_link-is

  pub feed-declined : (cause : DeclineCause) → Some cause ≡ against_longer → Decline cause ≡ feed sectors old bytes
  feed-declined cause some = ap (chain_verdict longer bytes) some ∙ sym feed-is

  pub feed-more : None ≡ against_longer → leads_on bytes ≡ true → More (next_link bytes) ≡ feed sectors old bytes
  feed-more none on =
      ap (λ b. if b then More (next_link bytes) else Accept (Logical (table_of longer.links))) (sym on)
      ∙ ap (chain_verdict longer bytes) none ∙ sym feed-is

  -- no partition stands behind the links
  rest_free : drop (count + 1) more_parts ≡ replicate (MAX_LINKS - (count + 1)) None
  rest_free =
      drop-set-lt (count + 1) parts count part (omega arith) ∙ sym (drop-drop 1 count parts) ∙ ap (drop 1) kept.rest
      ∙ drop-replicate 1 (MAX_LINKS - count) None ∙ ap (λ n. replicate n None) (omega arith)

  -- the table has the partitions by their links
  table-is : table_of longer.links ≡ record { parts = more_parts }
  table-is =
      let same : map (λ (l : LinkRead). l.part) longer.links ≡ take (count + 1) more_parts =
      links-parts (take (count + 1) more_visited) (take (count + 1) more_parts) long_alike in
      let many : length longer.links ≡ count + 1 =
      links-length (take (count + 1) more_visited) (take (count + 1) more_parts) long_alike ∙ long_visited in
      let whole : map (λ (l : LinkRead). l.part) longer.links ++ replicate (MAX_LINKS - length longer.links) None
      ≡ more_parts =
      ap (λ ps. ps ++ replicate (MAX_LINKS - length longer.links) None) same
      ∙ ap (λ n. take (count + 1) more_parts ++ replicate (MAX_LINKS - n) None) many
      ∙ ap (λ ps. take (count + 1) more_parts ++ ps) (sym rest_free) ∙ take-append-drop (count + 1) more_parts in
      ap (λ ps. record { parts = ps }) whole

  pub feed-whole : None ≡ against_longer → leads_on bytes ≡ false
      → Accept (Logical (record { parts = more_parts })) ≡ feed sectors old bytes
  feed-whole none ends =
      ap (λ table. Accept (Logical table)) (sym table-is)
      ∙ ap (λ b. if b then More (next_link bytes) else Accept (Logical (table_of longer.links))) (sym ends)
      ∙ ap (chain_verdict longer bytes) none ∙ sym feed-is

  -- where more is wanted the longer rows are kept
  pub more_kept : None ≡ against_longer → leads_on bytes ≡ true → AreLinks more_visited more_parts (count + 1)
  more_kept none on =
      let few : length (take (count + 1) more_visited) < MAX_LINKS =
      against-few sectors (take (count + 1) more_visited) (take (count + 1) more_parts) bytes long_alike on
      (sym none) in
      record {
        sectors = length-set visited count next ∙ kept.sectors;
        places = length-set parts count part ∙ kept.places;
        few = omega (arith, few, long_visited);
        rest = rest_free;
      }

  -- and the chain is the model's
  pub more_seen : (said : ℕ) → said ≡ next_link bytes
      → ◌≡◌ {A = ChainView}
      (record { sectors = sectors; chain = chain_in more_visited more_parts (count + 1) said })
      (record { sectors = sectors; chain = with_link sectors old bytes })
  more_seen said same =
      ap (λ n. record { sectors = sectors; chain = chain_in more_visited more_parts (count + 1) n }) same
      ∙ ap (λ c. record { sectors = sectors; chain = c }) (sym with_link-is)
