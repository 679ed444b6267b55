-- The tests of a link, and walks along links.
use Rattle.std.proofs.Common.{◌≡◌, ℕ, ◌<◌, Bool, true, false, not, ◌&&◌, List, [], ◌∷◌, ◌++◌, length, Option, None, refl}
use Rattle.std.specs.Prelude.{IsTrue}
use Rattle.geo_base.specs.declared.decline.DeclineCause.{DeclineCause}
use Rattle.geo_base.specs.declared.decline.DeclineCause.TheVariants as causes
use Rattle.geo_base.specs.declared.limits.TheConstants.{MAX_LINKS}
use Rattle.geo_model.specs.Chain.{LinkRead, IsLinkAt, has_part, named_part, next_link, was_read}
use Rattle.geo_model.specs.Words.{first_error}

-- the first cause, by the tests: the signature, the second entry's type, whether it leads on, back, past the media or
-- to one link too many, and whether a partition is kept
abbrev pub cause_of : Bool → Bool → Bool → Bool → Bool → Bool → Bool → Option DeclineCause
cause_of signed second on back far long kept =
    first_error
    ((not signed, causes.Signature) ∷ (not second, causes.Second) ∷ (on && back, causes.Loop) ∷ (on && far, causes.Far)
    ∷ (on && long, causes.Long) ∷ (not on && not kept, causes.Nothing) ∷ [])

-- what holds of a link that leads on and is not declined
pub cause_of-on : (signed second back far long kept : Bool) → cause_of signed second true back far long kept ≡ None
    → (signed ≡ true) × (second ≡ true) × (back ≡ false) × (far ≡ false) × (long ≡ false)
cause_of-on false second back far long kept none = let no : ⊥ = cc in absurd no
cause_of-on true false back far long kept none = let no : ⊥ = cc in absurd no
cause_of-on true true true far long kept none = let no : ⊥ = cc in absurd no
cause_of-on true true false true long kept none = let no : ⊥ = cc in absurd no
cause_of-on true true false false true kept none = let no : ⊥ = cc in absurd no
cause_of-on true true false false false kept none = (refl, refl, refl, refl, refl)

-- what holds of a last link that is not declined
pub cause_of-end : (signed second back far long kept : Bool) → cause_of signed second false back far long kept ≡ None
    → (signed ≡ true) × (second ≡ true) × (kept ≡ true)
cause_of-end false second back far long kept none = let no : ⊥ = cc in absurd no
cause_of-end true false back far long kept none = let no : ⊥ = cc in absurd no
cause_of-end true true back far long false none = let no : ⊥ = cc in absurd no
cause_of-end true true back far long true none = (refl, refl, refl)

-- the link at a sector
abbrev pub link_at : (ℕ → List ℕ) → ℕ → ℕ → LinkRead
link_at media n sector = record { sector = sector; part = named_part n sector (media sector) }

-- links with one more
abbrev pub and_link : (ℕ → List ℕ) → ℕ → List LinkRead → ℕ → List LinkRead
and_link media n links sector = links ++ link_at media n sector ∷ []

-- a link that leads on to one that may follow it
pub record LeadsTo (media : ℕ → List ℕ) (n : ℕ) (links : List LinkRead) (sector next : ℕ) : Type 0 where
  pub at : IsLinkAt media sector true
  pub leads : next_link (media sector) ≡ next
  pub fresh : was_read (and_link media n links sector) next ≡ false
  pub near : next < n
  pub few : length (and_link media n links sector) < MAX_LINKS

-- a last link
pub record EndsAt (media : ℕ → List ℕ) (n : ℕ) (links : List LinkRead) (sector : ℕ) : Type 0 where
  pub at : IsLinkAt media sector false
  pub kept : IsTrue (has_part (and_link media n links sector))

-- behind links that were read, the walk goes on from a sector over these ones
abbrev pub GoesOn : (ℕ → List ℕ) → ℕ → List LinkRead → ℕ → List ℕ → Type 0
GoesOn media n links sector [] = EndsAt media n links sector
GoesOn media n links sector (next ∷ rest) =
    LeadsTo media n links sector next × GoesOn media n (and_link media n links sector) next rest
