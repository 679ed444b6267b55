use Rattle.std.specs.Prelude.{ℕ, List, Contains, Ok}
use Rattle.std.proofs.Common.{◌∙◌, ap, sym, subst}
use Rattle.std.proofs.lemmas.List.Elements.{Contains-push}
use Rattle.geo_disk.specs.Shelf.{lent_by}
use Rattle.geo_tests_program.proofs.calls.fail_after.Goals as goal

pub give_failing-requires : goal.give_failing-requires
give_failing-requires c =
    subst (λ (l : List (List ℕ)). Contains l c.args.name.now)
    (sym (c.in-Ok-Disk.ensures.lent
    ∙ ap (λ taken. lent_by (Ok taken) c.args.name.now c.args.shelf.now.loans.lent) c.in-Ok-Disk.field-0-is))
    (Contains-push c.args.shelf.now.loans.lent c.args.name.now)
