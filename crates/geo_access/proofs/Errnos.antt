-- The error of what refuses a demand, by the looks that find something.
use Rattle.std.specs.Prelude.{◌≡◌, ℕ, ◌==◌, Bool, true, false, List, Option, Some, None, is_some, option_map, if◌then◌else◌}
use Rattle.std.specs.Option.{option_or}
use Rattle.std.proofs.Common.{refl, ◌∙◌, ap, rules}
use Rattle.geo_base.specs.declared.request.Counts.{Counts}
use Rattle.geo_base.specs.declared.errno.Errno.TheVariants.{ENXIO, EPERM, EOVERFLOW}
use Rattle.geo_model.specs.Topology.{Provider, providers_of}
use Rattle.geo_mesh.specs.Topo.{TopoView}
use Rattle.geo_access.specs.declared.decide.Asked.TheVariants.{Exclusion, Limit}
use Rattle.geo_access.specs.declared.decide.Refused.{Refused}
use Rattle.geo_access.specs.declared.decide.Refused.TheVariants.{Named, Writer, Exclusive}
use Rattle.geo_access.specs.declared.refusal.GrantRefusal.{GrantRefusal}
use Rattle.geo_access.specs.declared.refusal.GrantRefusal.TheVariants.{Enxio, Eperm, Eoverflow}
use Rattle.geo_access.specs.Views.{pair_at, fault_at, fault_in, first_errored, first_given, against, judged, errno_of_refused}
use Rattle.geo_access.proofs.Judging.{first_of}

-- what stands beside a demand is told as one error
beside_error : (x y : Bool) (m n : Option ℕ) (rest : Option Refused)
    → is_some (option_or (if x then None else option_map (λ c. Exclusive c) m)
    (if y then None else option_map (λ c. Writer c) n)) ≡ true
    → option_map errno_of_refused
    (option_or (option_or (if x then None else option_map (λ c. Exclusive c) m)
    (if y then None else option_map (λ c. Writer c) n)) rest) ≡ Some EPERM
beside_error false y (Some m) n rest found = refl
beside_error false false None (Some n) rest found = refl
beside_error true false m (Some n) rest found = refl
beside_error false true None n rest found = absurd (cc)
beside_error false false None None rest found = absurd (cc)
beside_error true true m n rest found = absurd (cc)
beside_error true false m None rest found = absurd (cc)

-- so is a pair
pair_error : (q : ℕ) (x : Bool) (o : Option (ℕ × ℕ)) (r : GrantRefusal)
    → ◌≡◌ {A = Option GrantRefusal} (if x then None else option_map (λ ab. Eperm q ab.0 ab.1) o) (Some r)
    → errno_of_refused (Named r) ≡ EPERM
pair_error q true o r found = absurd (cc)
pair_error q false None r found = absurd (cc)
pair_error q false (Some ab) r found = search rules

-- and a count that is too great
over_error : (q : ℕ) (x : Bool) (r : GrantRefusal)
    → ◌≡◌ {A = Option GrantRefusal} (if x then Some (Eoverflow q) else None) (Some r)
    → errno_of_refused (Named r) ≡ EOVERFLOW
over_error q true r found = search rules
over_error q false r found = absurd (cc)

module _ {C : Type 0} (v : TopoView C) (p : ℕ) (add : Counts) (xs : List ℕ) where
  -- an error below
  pub errored_errno : is_some (first_errored v p xs) ≡ true
      → option_map errno_of_refused (judged v p add xs) ≡ Some ENXIO
  errored_errno found = search rules

  module _ (sound : first_errored v p xs ≡ None) where
    -- another at the provider that stands in the way
    pub against_errno : is_some (against v p add) ≡ true
        → option_map errno_of_refused (judged v p add xs) ≡ Some EPERM
    against_errno found =
        ap (λ o. option_map errno_of_refused (option_or (option_map (λ q. Named (Enxio q)) o)
        (option_or (against v p add) (option_map (λ r. Named r)
        (option_or (first_given (fault_in v Exclusion) xs) (first_given (fault_in v Limit) xs)))))) sound
        ∙ beside_error (add.w == 0) (add.e == 0) _ _ _ found

    module _ (alone : against v p add ≡ None) where
      -- what is left to be said
      rest_errno : option_map errno_of_refused (judged v p add xs)
          ≡ option_map errno_of_refused (option_map (λ r. Named r)
          (option_or (first_given (fault_in v Exclusion) xs) (first_given (fault_in v Limit) xs)))
      rest_errno = search (rules, sound, alone)

      -- a writer beside another's exclusive count below
      pub exclusion_errno : is_some (first_given (fault_in v Exclusion) xs) ≡ true
          → option_map errno_of_refused (judged v p add xs) ≡ Some EPERM
      exclusion_errno found = rest_errno ∙ by (first_given (fault_in v Exclusion) xs) refl found
        where
          by : (o : Option GrantRefusal) → first_given (fault_in v Exclusion) xs ≡ o → is_some o ≡ true
              → option_map errno_of_refused (option_map (λ r. Named r)
              (option_or o (first_given (fault_in v Limit) xs))) ≡ Some EPERM
          by None e found = absurd (cc)
          by (Some r) e found =
              let x = first_of (fault_in v Exclusion) xs r e in
              let z = first_of (λ (y : Provider). fault_at v Exclusion y.number) (providers_of v.topology x.0) r x.2 in
              ap (λ n. Some n) (pair_error z.0.number _ (pair_at v z.0.number) r z.2)

      -- a count that is too great
      pub limit_errno : first_given (fault_in v Exclusion) xs ≡ None
          → is_some (first_given (fault_in v Limit) xs) ≡ true
          → option_map errno_of_refused (judged v p add xs) ≡ Some EOVERFLOW
      limit_errno none found =
          rest_errno
          ∙ ap (λ o. option_map errno_of_refused (option_map (λ r. Named r)
          (option_or o (first_given (fault_in v Limit) xs)))) none
          ∙ by (first_given (fault_in v Limit) xs) refl found
        where
          by : (o : Option GrantRefusal) → first_given (fault_in v Limit) xs ≡ o → is_some o ≡ true
              → option_map errno_of_refused (option_map (λ r. Named r) o) ≡ Some EOVERFLOW
          by None e found = absurd (cc)
          by (Some r) e found =
              let x = first_of (fault_in v Limit) xs r e in
              let z = first_of (λ (y : Provider). fault_at v Limit y.number) (providers_of v.topology x.0) r x.2 in
              ap (λ n. Some n) (over_error z.0.number _ r z.2)
