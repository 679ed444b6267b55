-- The opening has no bio, so the empty history and it keep a ledger.
use Rattle.std.specs.Prelude.{◌≡◌, ℕ, false, not, List, [], ◌∷◌, filter, fold, zip, All}
use Rattle.std.specs.List.{enumerate_from}
use Rattle.std.proofs.Common.{refl, subst, sym}
use Rattle.std.proofs.lemmas.List.Elements.{All-from_recursion}
use Rattle.geo_model.specs.declared.command.DiskDecl.{DiskDecl}
use Rattle.geo_model.specs.World.{World, Plan}
use Rattle.geo_model.specs.GeomCommands.{stand}
use Rattle.geo_model.specs.Opening.{opening, bare_world, disk_in_size}
use Rattle.geo_laws_requests.specs.Histories.{names_bio}
use Rattle.geo_laws_requests.specs.Ledger.{AcceptsAreAccounted, IsLogged, Ledger}

-- disks that stand make no bio
stand_none : (w : World) (items : List (ℕ × (DiskDecl × (ℕ × ℕ)))) → w.bios ≡ []
    → (fold (λ u item. stand u (item.0, disk_in_size item.1)) w items).bios ≡ []
stand_none w [] none = none
stand_none w (item ∷ items) none = stand_none (stand w (item.0, disk_in_size item.1)) items none

-- so the opening has none
pub opening_none : (plan : Plan) (facts : List (ℕ × ℕ)) → (opening plan facts).bios ≡ []
unfolding opening
opening_none plan facts =
    stand_none (bare_world plan facts)
    (filter (λ item. not item.1.0.later) (enumerate_from 0 (zip plan.disks facts))) refl

-- with nothing told and no bio
pub opened_ledger : (plan : Plan) (facts : List (ℕ × ℕ)) → Ledger [] (opening plan facts)
opened_ledger plan facts = record {
  fresh = λ b above. All-from_recursion (λ m. names_bio b m.entry.step ≡ false) [] tt;
  taken = λ b some. (let bad : ⊥ = cc in absurd bad);
  live = subst (λ xs. All (IsLogged [] (opening plan facts)) xs) (sym (opening_none plan facts))
      (All-from_recursion (IsLogged [] (opening plan facts)) [] tt);
  accepted = All-from_recursion (AcceptsAreAccounted [] (opening plan facts)) [] tt;
}
