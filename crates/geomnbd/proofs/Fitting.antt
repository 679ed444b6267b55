-- Sizes of disks that are listed one by one.
use Rattle.std.proofs.Common.{◌≡◌, ℕ, zero, suc, List, [], ◌∷◌, ◌++◌, take, Some, slice_get, sym, subst}
use Rattle.std.specs.List.{AllZip}
use Rattle.geo_model.specs.declared.command.DiskDecl.{DiskDecl}
use Rattle.geo_model.specs.Plans.{IsFact}

-- the sizes of one disk more, in the order of the plan
pub facts_push : (disks : List DiskDecl) (facts : List (ℕ × ℕ)) (k : ℕ) (d : DiskDecl) (fact : ℕ × ℕ)
    → AllZip IsFact (take k disks) facts → slice_get disks k ≡ Some d → IsFact d fact
    → AllZip IsFact (take (suc k) disks) (facts ++ fact ∷ [])
facts_push [] facts k d fact fit here is = absurd (let no : ⊥ = cc in no)
facts_push (e ∷ disks) [] zero d fact fit here is =
    let same : e ≡ d = cc in (subst (λ (x : DiskDecl). IsFact x fact) (sym same) is, tt)
facts_push (e ∷ disks) (f ∷ facts) zero d fact fit here is = absurd fit
facts_push (e ∷ disks) [] (suc k) d fact fit here is = absurd fit
facts_push (e ∷ disks) (f ∷ facts) (suc k) d fact fit here is = (fit.0, facts_push disks facts k d fact fit.1 here is)
