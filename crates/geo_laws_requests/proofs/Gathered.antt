-- The result of a Waiting bio whose children are all back, and what it covers.
use Rattle.std.specs.Prelude.{◌≡◌, ℕ, ◌+◌, List, [], ◌∷◌, ◌++◌, length, map, flat_map, Option, Some, None, All, unwrap_or}
use Rattle.std.specs.List.{AllByRecursion}
use Rattle.std.proofs.Common.{refl, sym, ◌∙◌, ap, subst, arith}
use Rattle.std.proofs.lemmas.List.Elements.{All-from_recursion, recursion_from_All}
use Rattle.geo_base.specs.declared.errno.Errno.{Errno}
use Rattle.geo_base.specs.declared.request.BioCmd.{BioCmd}
use Rattle.geo_model.specs.declared.step.BioResult.{BioResult}
use Rattle.geo_model.specs.declared.step.BioResult.TheVariants as results
use Rattle.geo_model.specs.Words.{◌>>=◌}
use Rattle.geo_model.specs.World.{World, Bio, children_of}
use Rattle.geo_model.specs.Bios.{first_failure, joined_result}
use Rattle.geo_model.specs.Log.{Moment}
use Rattle.geo_model.specs.Results.{all_there, leaves, leaves_within, result_of, result_within, start_moment}
use Rattle.geo_model.specs.History.{IsSuccess}
use Rattle.geo_laws_requests.specs.Histories.{AnsweredAreTaken}
use Rattle.geo_laws_requests.proofs.Finished.{leaves_within_stay, within_stays}
use Rattle.geo_laws_requests.proofs.Looks.{start_stays}
use Rattle.geo_laws_requests.specs.Covering.{CoversThere}
use Rattle.geo_laws_requests.specs.Ledger.{HasResult, WasSplit}
use Rattle.geo_laws_requests.proofs.Answered.{leaves_at, result_at}

-- a child that is back, with its result
pub record IsBack (h : List Moment) (w : World) (c : Bio) : Type 0 where
  pub result : BioResult
  pub is : c.result ≡ Some result
  pub has : HasResult h w c result

-- the result of a child that is back
abbrev pub back_result : Bio → BioResult
back_result c = unwrap_or c.result results.Done

-- no failure among results means that each is a success
none_failed : (r : BioResult) (rs : List BioResult) → first_failure (r ∷ rs) ≡ None → IsSuccess r
none_failed results.Done rs none = tt
none_failed (results.Bytes bytes) rs none = tt
none_failed (results.Failed e) rs none = absurd (let bad : ⊥ = cc in bad)

-- nor is there one among the rest
none_later : (r : BioResult) (rs : List BioResult) → first_failure (r ∷ rs) ≡ None → first_failure rs ≡ None
none_later results.Done rs none = none
none_later (results.Bytes bytes) rs none = none
none_later (results.Failed e) rs none = absurd (let bad : ⊥ = cc in bad)

-- a joined result that is a success has no failure
pub joined_success : (cmd : BioCmd) (rs : List BioResult) → IsSuccess (joined_result cmd rs) → first_failure rs ≡ None
joined_success cmd rs success = by (first_failure rs) refl
  where
    by : (o : Option Errno) → first_failure rs ≡ o → o ≡ None
    by None e = refl
    by (Some f) e = absurd (let wrong : IsSuccess (results.Failed f) = rw e at success in wrong)

module _ (h : List Moment) (m : Moment) (w : World) (taken : AnsweredAreTaken h) where
  -- a result that was found is found in the levels of the history before
  found_before : (b : ℕ) (r : BioResult) → result_of h b ≡ Some r
      → result_within (length h) (h ++ m ∷ []) b ≡ Some r
  found_before b r is =
      ap (λ n. result_within n (h ++ m ∷ []) b) (let e : length h ≡ length h + 0 = omega arith in e)
      ∙ within_stays (length h) 0 h (m ∷ []) b r is

  -- so are the leaves of a bio that has a result
  leaves_before : (b : ℕ) (r : BioResult) → result_of h b ≡ Some r
      → leaves_within (length h) (h ++ m ∷ []) b ≡ leaves h b
  leaves_before b r is =
      ap (λ n. leaves_within n (h ++ m ∷ []) b) (let e : length h ≡ length h + 0 = omega arith in e)
      ∙ leaves_within_stay (length h) 0 h (m ∷ []) taken b r is

  -- the results of children that are back are all there
  pub all_back : (cs : List Bio) → AllByRecursion (IsBack h w) cs
      → all_there (map (result_within (length h) (h ++ m ∷ [])) (map (λ (c : Bio). c.number) cs))
      ≡ Some (map back_result cs)
  all_back [] all = refl
  all_back (c ∷ cs) all =
      rw (found_before c.number all.0.result all.0.has.is, all_back cs all.1)
      (ap (λ r. Some (r ∷ map back_result cs)) (sym (ap (λ o. unwrap_or o results.Done) all.0.is)))

  -- their leaves follow each other
  pub leaves_back : (cs : List Bio) → AllByRecursion (IsBack h w) cs
      → flat_map (leaves_within (length h) (h ++ m ∷ [])) (map (λ (c : Bio). c.number) cs)
      ≡ flat_map (λ (c : Bio). leaves h c.number) cs
  leaves_back [] all = refl
  leaves_back (c ∷ cs) all =
      rw (leaves_before c.number all.0.result all.0.has.is) (ap (λ ls. leaves h c.number ++ ls) (leaves_back cs all.1))

  -- where none failed each covers its own range
  pub each_covers : (cs : List Bio) → AllByRecursion (IsBack h w) cs → first_failure (map back_result cs) ≡ None
      → AllByRecursion (λ (c : Bio). CoversThere w c (leaves h c.number)) cs
  each_covers [] all none = tt
  each_covers (c ∷ cs) all none =
      let its : back_result c ≡ all.0.result = ap (λ o. unwrap_or o results.Done) all.0.is in (
        all.0.has.covers (subst IsSuccess its (none_failed (back_result c) (map back_result cs) none)),
        each_covers cs all.1 (none_later (back_result c) (map back_result cs) none),
      )

  module _ (y : Bio) (split : WasSplit h w y) (back : All (IsBack h w) (children_of w y.number)) where
    -- its children by recursion
    by_each : AllByRecursion (IsBack h w) (children_of w y.number)
    by_each = recursion_from_All (IsBack h w) (children_of w y.number) back

    -- the Start is found later
    split_found : start_moment (h ++ m ∷ []) y.number ≡ Some split.moment
    split_found = start_stays h (m ∷ []) y.number split.moment split.is

    -- the result of the bio is the one that joins those of its children
    pub joined_now : result_of (h ++ m ∷ []) y.number
        ≡ Some (joined_result y.cmd (map back_result (children_of w y.number)))
    joined_now =
        result_at h m y.number split.moment split_found
        ∙ (rw (split.outcome, split.cmd)
        (ap (λ o. o >>= (λ found. Some (joined_result y.cmd found)))
        (ap (λ ns. all_there (map (result_within (length h) (h ++ m ∷ [])) ns)) (sym split.children)
        ∙ all_back (children_of w y.number) by_each)))

    -- its leaves are those of its children, in order
    pub leaves_now : leaves (h ++ m ∷ []) y.number
        ≡ flat_map (λ (c : Bio). leaves h c.number) (children_of w y.number)
    leaves_now =
        leaves_at h m y.number split.moment split_found
        ∙ (rw split.outcome
        (ap (λ ns. flat_map (leaves_within (length h) (h ++ m ∷ [])) ns) (sym split.children)
        ∙ leaves_back (children_of w y.number) by_each))

    -- where the joined result is a success each child covers its own range
    pub children_cover : IsSuccess (joined_result y.cmd (map back_result (children_of w y.number)))
        → All (λ (c : Bio). CoversThere w c (leaves h c.number)) (children_of w y.number)
    children_cover success =
        All-from_recursion (λ (c : Bio). CoversThere w c (leaves h c.number)) (children_of w y.number)
        (each_covers (children_of w y.number) by_each
        (joined_success y.cmd (map back_result (children_of w y.number)) success))
