-- What is against a chain, by the tests of its last link.
use Rattle.std.proofs.Common.{◌≡◌, ℕ, ◌<◌, Bool, true, false, not, ◌&&◌, ◌||◌, List, [], ◌∷◌, length, Option, Some, None, refl, sym, ap, ◌∙◌}
use Rattle.std.proofs.lemmas.Bool.{leb-false}
use Rattle.std.specs.Prelude.{◌==◌, is_some, nat_le}
use Rattle.std.specs.List.{list_any}
use Rattle.geo_model.specs.DeclineCause.{DeclineCause}
use Rattle.geo_model.specs.DeclineCause.TheVariants as causes
use Rattle.geo_model.specs.TheConstants.{MAX_LINKS}
use Rattle.geo_model.specs.declared.class.EbrPart.{EbrPart}
use Rattle.geo_model.specs.Chain.{has_part, is_link_type, leads_on, next_link}
use Rattle.geo_model.specs.Records.{entry_type, has_signature}
use Rattle.geo_model.specs.Words.{first_error}
use Rattle.geo_class.specs.ebr.Links.{cause_against, is_back, links_read}
use Rattle.geo_class.proofs.EbrLinkLemmas.{links-any_sector, links-has_part, links-length}

-- the first cause, by the tests: the signature, the second entry's type, whether it leads on, back, past the media or
-- to one link too many, and whether a partition is kept
abbrev cause_of : Bool → Bool → Bool → Bool → Bool → Bool → Bool → Option DeclineCause
cause_of signed second on back far long kept =
    first_error
    ((not signed, causes.Signature) ∷ (not second, causes.Second) ∷ (on && back, causes.Loop) ∷ (on && far, causes.Far)
    ∷ (on && long, causes.Long) ∷ (not on && not kept, causes.Nothing) ∷ [])

-- where nothing is against a chain that leads on, it leads inside the media, and not to one link too many
cause_of-none : (signed second back far long kept : Bool) → cause_of signed second true back far long kept ≡ None
    → (far ≡ false) × (long ≡ false)
cause_of-none false second back far long kept none = cc
cause_of-none true false back far long kept none = cc
cause_of-none true true true far long kept none = cc
cause_of-none true true false true long kept none = cc
cause_of-none true true false false true kept none = cc
cause_of-none true true false false false kept none = (refl, refl)

-- links in rows of the same length, of which the last has these bytes
module _ (sectors : ℕ) (visited : List ℕ) (parts : List (Option EbrPart)) (bytes : List ℕ)
    (alike : length visited ≡ length parts) where
  -- what is against them
  abbrev against : Option DeclineCause
  against = cause_against sectors visited parts bytes

  -- the cause, where these tests of the rows have these answers
  abbrev by_rows : Bool → Bool → Bool → Option DeclineCause
  by_rows back long kept =
      cause_of (has_signature bytes) (is_link_type (entry_type bytes 1)) (leads_on bytes) back
      (nat_le sectors (next_link bytes)) long kept

  -- what is against them, by their rows
  against-is : against
      ≡ by_rows (is_back visited (next_link bytes)) (nat_le MAX_LINKS (length visited)) (list_any is_some parts)
  against-is =
      ap (λ back. by_rows ((next_link bytes == 0) || back) (nat_le MAX_LINKS (length (links_read visited parts)))
      (has_part (links_read visited parts)))
      (links-any_sector visited parts (next_link bytes) alike)
      ∙ ap (λ n. by_rows (is_back visited (next_link bytes)) (nat_le MAX_LINKS n) (has_part (links_read visited parts)))
      (links-length visited parts alike)
      ∙ ap (by_rows (is_back visited (next_link bytes)) (nat_le MAX_LINKS (length visited)))
      (links-has_part visited parts alike)

  -- where nothing is against them and the last one leads on, the next one is inside the media, and one of MAX_LINKS
  against-passed : leads_on bytes ≡ true → against ≡ None
      → (nat_le sectors (next_link bytes) ≡ false) × (nat_le MAX_LINKS (length visited) ≡ false)
  against-passed on none =
      cause_of-none (has_signature bytes) (is_link_type (entry_type bytes 1)) (is_back visited (next_link bytes))
      (nat_le sectors (next_link bytes)) (nat_le MAX_LINKS (length visited)) (list_any is_some parts)
      (ap (λ o. cause_of (has_signature bytes) (is_link_type (entry_type bytes 1)) o (is_back visited (next_link bytes))
      (nat_le sectors (next_link bytes)) (nat_le MAX_LINKS (length visited)) (list_any is_some parts)) (sym on)
      ∙ sym against-is ∙ none)

  pub against-few : leads_on bytes ≡ true → against ≡ None → length visited < MAX_LINKS
  against-few on none = leb-false MAX_LINKS (length visited) (against-passed on none).1

  -- what is against a last one that is signed and of such a type: at the end of the chain
  module _ (signed : has_signature bytes ≡ true) (second : is_link_type (entry_type bytes 1) ≡ true) where
    pub against-end : (kept : Bool) → leads_on bytes ≡ false → list_any is_some parts ≡ kept
        → against ≡ cause_of true true false false false false kept
    against-end true ends some = against-is ∙ (rw (signed, second, ends, some) refl)
    against-end false ends some = against-is ∙ (rw (signed, second, ends, some) refl)

    -- where it leads back, past the media, to one link too many, and to a link that may follow
    pub against-back : leads_on bytes ≡ true → is_back visited (next_link bytes) ≡ true → against ≡ Some causes.Loop
    against-back on back = against-is ∙ (rw (signed, second, on, back) refl)

    pub against-far : leads_on bytes ≡ true → is_back visited (next_link bytes) ≡ false
        → nat_le sectors (next_link bytes) ≡ true → against ≡ Some causes.Far
    against-far on back far = against-is ∙ (rw (signed, second, on, back, far) refl)

    pub against-long : nat_le MAX_LINKS (length visited) ≡ true → leads_on bytes ≡ true
        → is_back visited (next_link bytes) ≡ false → nat_le sectors (next_link bytes) ≡ false
        → against ≡ Some causes.Long
    against-long long on back far = against-is ∙ (rw (signed, second, on, back, far, long) refl)

    pub against-none : nat_le MAX_LINKS (length visited) ≡ false → leads_on bytes ≡ true
        → is_back visited (next_link bytes) ≡ false → nat_le sectors (next_link bytes) ≡ false → against ≡ None
    against-none long on back far = against-is ∙ (rw (signed, second, on, back, far, long) refl)
