-- Names and access counts that C gave.
use Rattle.std.specs.Prelude.{◌≡◌, ◌≢◌, ◌⊎◌, ℕ, zero, suc, ◌+◌, ◌≤◌, nat_le, ◌&&◌, List, Bool, true, false, None}
use Rattle.std.proofs.Common.{refl, inl, inr, arith}
use Rattle.std.proofs.lemmas.Bool.{and_parts, leb-true}
use Rattle.geo_base.specs.Name.{is_short_name, name_of}
use Rattle.geo_base.proofs.Tests.{short_name-named}
use Rattle.geo_model.specs.Plans.{IsGrant}
use Rattle.geo_exports.specs.Forms.{is_grant}

-- a test that never holds is false
unless : (b : Bool) → (b ≡ true → ⊥) → b ≡ false
unless false never = refl
unless true never = absurd (never refl)

-- what isn't a name isn't a short name
pub unnamed : (bytes : List ℕ) → name_of bytes ≡ None → is_short_name bytes ≡ false
unnamed bytes none =
    unless (is_short_name bytes) (λ short. let named = short_name-named bytes short in let never : ⊥ = cc in never)

-- some count
some_count : (r w e : ℕ) → 1 ≤ r + w + e → (r ≢ 0) ⊎ (w ≢ 0) ⊎ (e ≢ 0)
some_count (suc r) w e some = inl (λ is. let never : ⊥ = cc in never)
some_count zero (suc w) e some = inr (inl (λ is. let never : ⊥ = cc in never))
some_count zero zero (suc e) some = inr (inr (λ is. let never : ⊥ = cc in never))
some_count zero zero zero some = absurd (omega (arith, some))

-- counts that are tested are a grant
pub tested_grant : (r w e : ℕ) → is_grant r w e ≡ true → IsGrant (record { r = r; w = w; e = e })
tested_grant r w e is =
    let last = and_parts (nat_le r 9 && nat_le w 9 && nat_le e 9) (nat_le 1 (r + w + e)) is in
    let third = and_parts (nat_le r 9 && nat_le w 9) (nat_le e 9) last.0 in
    let each = and_parts (nat_le r 9) (nat_le w 9) third.0 in
    record {
      r = leb-true r 9 each.0;
      w = leb-true w 9 each.1;
      e = leb-true e 9 third.1;
      some = some_count r w e (leb-true 1 (r + w + e) last.1);
    }
