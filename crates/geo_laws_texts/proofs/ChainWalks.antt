-- The table is read exactly along a walk.
use Rattle.std.specs.Prelude.{nat_le}
use Rattle.std.proofs.Common.{◌≡◌, ℕ, zero, suc, ◌<◌, Bool, true, false, List, [], ◌∷◌, ◌++◌, length, Option, Some, None, Result, Ok, refl, sym, ap, ◌∙◌, arith, append_assoc}
use Rattle.std.proofs.lemmas.Bool.{leb-false, lt-leb}
use Rattle.geo_base.specs.declared.decline.DeclineCause.{DeclineCause}
use Rattle.geo_base.specs.declared.limits.TheConstants.{MAX_LINKS}
use Rattle.geo_model.specs.declared.class.EbrTable.{EbrTable}
use Rattle.geo_model.specs.Chain.{LinkRead, Chain, chain_verdict, chain_within, has_part, is_link_type, leads_on, link_tests, links_at, next_link, read_on, table_of, was_read, with_link}
use Rattle.geo_model.specs.Records.{entry_type, has_signature}
use Rattle.geo_model.specs.Words.{first_error}
use Rattle.geo_laws_texts.proofs.ChainTests.{cause_of, cause_of-on, cause_of-end, link_at, and_link, LeadsTo, EndsAt, GoesOn}

-- a walk over some sectors, and its table
pub record Walk (media : ℕ → List ℕ) (n : ℕ) (links : List LinkRead) (sector : ℕ) (table : EbrTable) : Type 0 where
  pub rest : List ℕ
  pub goes : GoesOn media n links sector rest
  pub same : table ≡ table_of (links ++ links_at media n (sector ∷ rest))

module _ (media : ℕ → List ℕ) (n : ℕ) where
  -- a chain of these links, whose next one stands at a sector
  abbrev at : List LinkRead → ℕ → Chain
  at links sector = record { links = links; next = sector }

  -- with that link
  abbrev longer : List LinkRead → ℕ → Chain
  longer links sector = with_link n (at links sector) (media sector)

  -- what is against it
  abbrev against : List LinkRead → ℕ → Option DeclineCause
  against links sector = first_error (link_tests n (longer links sector) (media sector))

  -- the same by its tests, where it is known whether the link leads on
  against-is : (links : List LinkRead) (sector : ℕ) (on : Bool) → leads_on (media sector) ≡ on
      → against links sector
      ≡ cause_of (has_signature (media sector)) (is_link_type (entry_type (media sector) 1)) on
      (was_read (and_link media n links sector) (next_link (media sector))) (nat_le n (next_link (media sector)))
      (nat_le MAX_LINKS (length (and_link media n links sector))) (has_part (and_link media n links sector))
  against-is links sector on is =
      ap (λ b. cause_of (has_signature (media sector)) (is_link_type (entry_type (media sector) 1)) b
      (was_read (and_link media n links sector) (next_link (media sector))) (nat_le n (next_link (media sector)))
      (nat_le MAX_LINKS (length (and_link media n links sector))) (has_part (and_link media n links sector))) is

  -- a link that leads on, and that nothing is against, leads to one that may follow it
  pub leads-to : (links : List LinkRead) (sector : ℕ) → leads_on (media sector) ≡ true → against links sector ≡ None
      → LeadsTo media n links sector (next_link (media sector))
  leads-to links sector is none =
      let parts = cause_of-on (has_signature (media sector)) (is_link_type (entry_type (media sector) 1))
      (was_read (and_link media n links sector) (next_link (media sector))) (nat_le n (next_link (media sector)))
      (nat_le MAX_LINKS (length (and_link media n links sector))) (has_part (and_link media n links sector))
      (sym (against-is links sector true is) ∙ none) in
      record {
        at = record { signature = parts.0; second = parts.1; leads = is };
        leads = refl;
        fresh = parts.2;
        near = leb-false n (next_link (media sector)) parts.3;
        few = leb-false MAX_LINKS (length (and_link media n links sector)) parts.4;
      }

  -- a link that leads on no more, and that nothing is against, is a last one
  ends-at : (links : List LinkRead) (sector : ℕ) → leads_on (media sector) ≡ false → against links sector ≡ None
      → EndsAt media n links sector
  ends-at links sector is none =
      let parts = cause_of-end (has_signature (media sector)) (is_link_type (entry_type (media sector) 1))
      (was_read (and_link media n links sector) (next_link (media sector))) (nat_le n (next_link (media sector)))
      (nat_le MAX_LINKS (length (and_link media n links sector))) (has_part (and_link media n links sector))
      (sym (against-is links sector false is) ∙ none) in
      record { at = record { signature = parts.0; second = parts.1; leads = is }; kept = parts.2 }

  -- nothing is against a link that leads to one that may follow it
  none-leads : (links : List LinkRead) (sector next : ℕ) → LeadsTo media n links sector next
      → against links sector ≡ None
  none-leads links sector next l =
      let fresh : was_read (and_link media n links sector) (next_link (media sector)) ≡ false =
      ap (was_read (and_link media n links sector)) l.leads ∙ l.fresh in
      let near : nat_le n (next_link (media sector)) ≡ false = ap (nat_le n) l.leads ∙ lt-leb n next l.near in
      let few : nat_le MAX_LINKS (length (and_link media n links sector)) ≡ false =
      lt-leb MAX_LINKS (length (and_link media n links sector)) l.few in
      against-is links sector true l.at.leads ∙ (rw (l.at.signature, l.at.second, fresh, near, few) refl)

  -- nothing is against a last link
  none-ends : (links : List LinkRead) (sector : ℕ) → EndsAt media n links sector → against links sector ≡ None
  none-ends links sector e =
      against-is links sector false e.at.leads ∙ (rw (e.at.signature, e.at.second, e.kept) refl)

  -- what is read from a chain on
  abbrev reads : ℕ → List LinkRead → ℕ → Option DeclineCause → Result EbrTable DeclineCause
  reads k links sector cause =
      read_on (chain_within k media n) (longer links sector) (chain_verdict (longer links sector) (media sector) cause)

  -- behind a link that leads on, the next one is read
  reads-on : (k : ℕ) (links : List LinkRead) (sector : ℕ) → leads_on (media sector) ≡ true
      → reads k links sector None
      ≡ chain_within k media n (at (and_link media n links sector) (next_link (media sector)))
  reads-on k links sector is = rw is refl

  -- behind a last link, the table is that of all links
  reads-end : (k : ℕ) (links : List LinkRead) (sector : ℕ) → leads_on (media sector) ≡ false
      → reads k links sector None ≡ Ok (table_of (and_link media n links sector))
  reads-end k links sector is = rw is refl

  -- a table that is read behind a link that nothing is against is that of a walk
  walk-none : (k : ℕ) (links : List LinkRead) (sector : ℕ) (table : EbrTable) (on : Bool)
      → ((more : List LinkRead) (next : ℕ) → chain_within k media n (at more next) ≡ Ok table
      → Walk media n more next table)
      → leads_on (media sector) ≡ on → against links sector ≡ None → reads k links sector None ≡ Ok table
      → Walk media n links sector table
  walk-none k links sector table true rest is none read =
      let walk : Walk media n (and_link media n links sector) (next_link (media sector)) table =
      rest (and_link media n links sector) (next_link (media sector)) (sym (reads-on k links sector is) ∙ read) in
      record {
        rest = next_link (media sector) ∷ walk.rest;
        goes = (leads-to links sector is none, walk.goes);
        same = walk.same ∙ ap table_of
            (append_assoc links (link_at media n sector ∷ [])
            (links_at media n (next_link (media sector) ∷ walk.rest)));
      }
  walk-none k links sector table false rest is none read =
      let same : Ok (table_of (and_link media n links sector)) ≡ Ok table = sym (reads-end k links sector is) ∙ read in
      record { rest = []; goes = ends-at links sector is none; same = cc }

  -- a table that is read is that of a walk, whatever is against the link
  walk-step : (k : ℕ) (links : List LinkRead) (sector : ℕ) (table : EbrTable) (cause : Option DeclineCause)
      → ((more : List LinkRead) (next : ℕ) → chain_within k media n (at more next) ≡ Ok table
      → Walk media n more next table)
      → against links sector ≡ cause → reads k links sector cause ≡ Ok table → Walk media n links sector table
  walk-step k links sector table (Some cause) rest is read = let no : ⊥ = cc in absurd no
  walk-step k links sector table None rest is read =
      walk-none k links sector table (leads_on (media sector)) rest refl is read

  -- a table that is read is that of a walk
  pub walk-read : (k : ℕ) (links : List LinkRead) (sector : ℕ) (table : EbrTable)
      → chain_within k media n (at links sector) ≡ Ok table → Walk media n links sector table
  walk-read zero links sector table read = let no : ⊥ = cc in absurd no
  walk-read (suc k) links sector table read =
      walk-step k links sector table (against links sector) (λ more next. walk-read k more next table) refl read

  -- the table of a walk is read
  pub read-walk : (rest : List ℕ) (k : ℕ) (links : List LinkRead) (sector : ℕ) → GoesOn media n links sector rest
      → length rest < k
      → chain_within k media n (at links sector) ≡ Ok (table_of (links ++ links_at media n (sector ∷ rest)))
  read-walk rest zero links sector goes few = absurd (omega (arith, few))
  read-walk [] (suc k) links sector goes few =
      ap (reads k links sector) (none-ends links sector goes) ∙ reads-end k links sector goes.at.leads
  read-walk (next ∷ rest) (suc k) links sector goes few =
      ap (reads k links sector) (none-leads links sector next goes.0) ∙ reads-on k links sector goes.0.at.leads
      ∙ ap (λ s. chain_within k media n (at (and_link media n links sector) s)) goes.0.leads
      ∙ read-walk rest k (and_link media n links sector) next goes.1 (omega (arith, few))
      ∙ ap (λ ls. Ok (table_of ls)) (append_assoc links (link_at media n sector ∷ []) (links_at media n (next ∷ rest)))
