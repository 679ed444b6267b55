use Rattle.std.proofs.Common.{◌≡◌, ℕ, List, ◌∷◌, Option, Ok, Result, sym, subst, rules}
use Rattle.geo_model.specs.World.{Plan}
use Rattle.geo_model.specs.Script.{Words, next_word, actor_line}
use Rattle.geo_script.specs.declared.refusal.LineRefusal.{LineRefusal}
use Rattle.geo_script.specs.Draft.{LineLeaves}
use Rattle.geo_script.proofs.WordsLemmas.{next_word-cons}
use Rattle.geo_script.proofs.line.add_command.Goals as goal

-- the words are the one that was read and those behind it
by_name : (ws words : Words) (word : List ℕ) → next_word ws ≡ Ok (word, words) → (r : Result (Unit {0}) LineRefusal)
    (new plan : Plan) (n : ℕ) (actor : Option ℕ) → LineLeaves r new (actor_line plan n actor (word ∷ words))
    → LineLeaves r new (actor_line plan n actor ws)
by_name ws words word e r new plan n actor = subst (λ ws. LineLeaves r new (actor_line plan n actor ws))
    (sym (next_word-cons ws word words e))

-- so the model reads the same command
pub returns-in_err-command : goal.returns-in_err-command
returns-in_err-command c =
    by_name _ _ _ c.in_ok-command_name.ensures c.from_residual-in_err-command.result _ _ _ _ (search rules)

pub returns : goal.returns
returns c = by_name _ _ _ c.in_ok-command_name.ensures c.add_command.result _ _ _ _ (search rules)
