-- The bits of a page.
use Rattle.std.proofs.Common.{◌≡◌, ◌≢◌, ℕ, ◌+◌, ◌-◌, ◌/◌, ◌%◌, ◌^◌, ◌*◌, ◌<◌, ◌≤◌, length, Option, Some, None, IsSome, ◌⊎◌, slice_set, bit_and, bit_or, sym, refl, ap, ◌∙◌, inl, inr, arith}
use Rattle.std.proofs.lemmas.List.{length-set, get_or-set_same, get_or-set_other}
use Rattle.std.proofs.lemmas.Nat.{shr-shr}
use Rattle.std.proofs.lemmas.Nat.Bits.{bit_at-trailing_zeros, bit_at-zero, bit_at_above, bit_at_set_same, bit_at_set_other, bit_at_clear_same, bit_at_clear_other}
use Rattle.std.proofs.Math.Nat.{div-le_self}
use Rattle.std.specs.Int.{bit_at, bit_not, trailing_zeros}
use mir.Syntax.{w64}
use mir.Val.{bits}
use Rattle.geo_slots.specs.Pages.{IsFull, IsFirst, IsWith, key_in}
use Rattle.geo_slots.specs.declared.page.Page.{Page}

-- a bit of a number that is shifted
bit_at-shr : (n from i : ℕ) → bit_at (n / 2 ^ from) i ≡ bit_at n (from + i)
bit_at-shr n from i = ap (λ x. x % 2) (shr-shr n from i)

-- a number whose bit isn't set has no key
none_unset : (page : Page) (n : ℕ) → bit_at page.live n ≡ 0 → key_in page n ≡ None
none_unset page n unset = rw unset refl

-- a page of which no bit is set from one on has no key from there on
pub none_from : (page : Page) (from n : ℕ) → page.live / 2 ^ from ≡ 0 → from ≤ n → key_in page n ≡ None
none_from page from n none below =
    let place : from + (n - from) ≡ n = omega (arith, below) in
    none_unset page n (ap (bit_at page.live) (sym place) ∙ sym (bit_at-shr page.live from (n - from))
    ∙ ap (λ x. bit_at x (n - from)) none ∙ bit_at-zero (n - from))

-- a page without a bit has no key
pub none_live : (page : Page) (n : ℕ) → page.live ≡ 0 → key_in page n ≡ None
none_live page n none = none_unset page n (ap (λ x. bit_at x n) none ∙ bit_at-zero n)

-- a page with a key has a bit
pub live_with_key : (page : Page) (n : ℕ) → IsSome (key_in page n) → page.live ≢ 0
live_with_key page n some none = no_some (key_in page n) some (none_live page n none)
  where
    no_some : (o : Option ℕ) → IsSome o → o ≡ None → ⊥
    no_some None some none = absurd cc
    no_some (Some key) some none = absurd cc

-- the lowest bit from one on
pub lowest_bit : (live from : ℕ) → live < 2 ^ 64 → (live / 2 ^ from ≡ 0 → ⊥)
    → (from + trailing_zeros w64 (live / 2 ^ from) < 64) × (bit_at live (from + trailing_zeros w64 (live / 2 ^ from)) ≡ 1)
    × ((n : ℕ) → from ≤ n → n < from + trailing_zeros w64 (live / 2 ^ from) → bit_at live n ≡ 0)
lowest_bit live from fits some =
    let rest = live / 2 ^ from in
    let t = trailing_zeros w64 rest in
    let less = div-le_self live (2 ^ from) in
    let lowest = bit_at-trailing_zeros w64 rest (omega (arith, some)) (omega (arith, less, fits)) in
    let bit : bit_at live (from + t) ≡ 1 = sym (bit_at-shr live from t) ∙ lowest.1 in (
      elim (cases_below (from + t)) [
        | inl below ↦ below
        | inr past ↦ absurd (omega (arith, bit, bit_at_above live 64 (from + t) fits past))
      ],
      bit,
      λ n low high.
          let place : from + (n - from) ≡ n = omega (arith, low) in
          ap (bit_at live) (sym place) ∙ sym (bit_at-shr live from (n - from))
          ∙ lowest.2 (n - from) (omega (arith, low, high)),
    )
  where
    cases_below : (m : ℕ) → (m < 64) ⊎ (64 ≤ m)
    cases_below m = grind arith

-- it is that of the first number with a key
pub first_from : (page : Page) (live from : ℕ) → page.live ≡ live → live < 2 ^ 64 → (live / 2 ^ from ≡ 0 → ⊥)
    → IsFirst (key_in page) from 64 (Some (from + trailing_zeros w64 (live / 2 ^ from)))
first_from page live from is fits some =
    let lowest = lowest_bit live from fits some in (
      omega arith,
      lowest.0,
      rw (is, lowest.1) refl,
      λ n low high. none_unset page n (ap (λ x. bit_at x n) is ∙ lowest.2 n low high),
    )

-- a bit is set and a key is written
pub with_set : (page new : Page) (at key : ℕ) → at < 64 → IsFull page
    → new.live ≡ bit_or page.live (1 * 2 ^ at % 2 ^ bits w64) → new.keys.items ≡ slice_set page.keys.items at key
    → IsWith page at (Some key) new
with_set page new at key within full live keys =
    record {
      here = rw (
        live,
        keys,
        bit_at_set_same w64 page.live at within,
        get_or-set_same page.keys.items at key 0 (omega (arith, within, full)),
      ) refl;
      others = λ other below differs. rw (
        live,
        keys,
        bit_at_set_other w64 page.live at within other differs,
        get_or-set_other page.keys.items at other key 0 differs,
      ) refl;
      full = ap length keys ∙ length-set page.keys.items at key;
    }

-- a bit is cleared
pub with_cleared : (page new : Page) (at : ℕ) → at < 64
    → new.live ≡ bit_and page.live (bit_not w64 (1 * 2 ^ at % 2 ^ bits w64)) → new.keys.items ≡ page.keys.items
    → IsWith page at None new
with_cleared page new at within live keys =
    record {
      here = none_unset new at (ap (λ x. bit_at x at) live ∙ bit_at_clear_same w64 page.live at within);
      others = λ other below differs. rw (live, keys, bit_at_clear_other w64 page.live at within other below differs)
          refl;
      full = ap length keys;
    }
