-- The one command of a plan.
use Rattle.std.proofs.Common.{◌≡◌, ◌<◌, ℕ, List, [], ◌∷◌, ◌++◌, length, Option, Some, None, ap, subst, arith}
use Rattle.std.specs.List.{All}
use Rattle.std.proofs.lemmas.List.Elements.{recursion_from_All}
use Rattle.geo_model.specs.declared.command.LineCommand.{LineCommand}
use Rattle.geo_model.specs.Plans.{IsCommand, IsCommandOf, IsPlan}
use Rattle.geo_model.specs.World.{Plan}
use Rattle.geo_exports.specs.Texts.{only_one}

-- commands behind which one more stands have not one
pub no_other : (all front : List LineCommand) (last : LineCommand) → all ≡ front ++ last ∷ [] → 0 < length front
    → only_one all ≡ None
no_other all [] last is some = absurd (omega arith)
no_other all (a ∷ []) last is some = ap only_one is
no_other all (a ∷ b ∷ front) last is some = ap only_one is

-- the one of some commands that have their forms
only_of_all : (actors : ℕ) (all : List LineCommand) (c : LineCommand) → All (IsCommandOf actors) all
    → only_one all ≡ Some c
    → IsCommand c.command
only_of_all actors [] c each is = absurd (let no : ⊥ = cc in no)
only_of_all actors (a ∷ []) c each is =
    let same : a ≡ c = cc in
    subst (λ (x : LineCommand). IsCommand x.command) same
    (recursion_from_All (IsCommandOf actors) (a ∷ []) each).0.command
only_of_all actors (a ∷ b ∷ all) c each is = absurd (let no : ⊥ = cc in no)

-- the one of a plan has its form
pub only_of_plan : (plan : Plan) (c : LineCommand) → IsPlan plan → only_one plan.commands ≡ Some c → IsCommand c.command
only_of_plan plan c is one = only_of_all (length plan.actors) plan.commands c is.begins.commands one
