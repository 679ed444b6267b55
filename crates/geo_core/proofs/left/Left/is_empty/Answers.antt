use Rattle.std.proofs.Common.{◌≡◌, ◌==◌, ℕ, List, length, ◌∙◌, ap}
use Rattle.std.specs.List.{list_all}
use Rattle.geo_model.specs.declared.command.LineCommand.{LineCommand}
use Rattle.geo_core.proofs.Lefts.{all_done}
use Rattle.geo_core.proofs.left.Left.is_empty.Goals as goal

-- an actor's commands are all done where its place is the end
pub returns : goal.returns
returns c =
    let places : c.deref.result.now ≡ c.args.self.now = c.deref.ensures.value ∙ c.self.view_is in
    c.are_all.ensures
    ∙ ap (λ (ps : List ℕ). list_all (λ (p : ℕ). p == length c.commands.result.now) ps) places
    ∙ ap (λ (cs : List LineCommand). list_all (λ (p : ℕ). p == length cs) c.args.self.now) c.commands.ensures.commands
    ∙ all_done c.args.plan.now c.args.self.now c.requires
