use Rattle.std.proofs.Common.{◌≡◌, ℕ, List, ◌∷◌, None, Ok, Result, sym, subst, ◌∙◌, rules}
use Rattle.geo_model.specs.Words.{first_error}
use Rattle.geo_model.specs.World.{Plan}
use Rattle.geo_model.specs.Script.{Words, next_word, words_of, line_tests, words_line, plan_with_line}
use Rattle.geo_script.specs.declared.refusal.LineRefusal.{LineRefusal}
use Rattle.geo_script.specs.Draft.{LineLeaves}
use Rattle.geo_script.proofs.FormLemmas.{plan_with_line-by}
use Rattle.geo_script.proofs.WordsLemmas.{next_word-cons}
use Rattle.geo_script.proofs.line.add_plan_line.Goals as goal

-- nothing is against the line, so the model too goes by its first word
by_first_word : (plan : Plan) (n : ℕ) (line : List ℕ) (ws words : Words) (word : List ℕ)
    → first_error (line_tests n line) ≡ None → ws ≡ words_of line → next_word ws ≡ Ok (word, words)
    → (r : Result (Unit {0}) LineRefusal) (new : Plan) → LineLeaves r new (words_line plan n (word ∷ words))
    → LineLeaves r new (plan_with_line plan n line)
by_first_word plan n line ws words word none e f r new = subst (LineLeaves r new)
    (sym (plan_with_line-by plan n line word words none (sym e ∙ next_word-cons ws word words f)))

pub returns-then-eq : goal.returns-then-eq
returns-then-eq c =
    by_first_word c.args.draft.now c.args.number c.args.line.now _ _ _ (sym c.line_fault.ensures ∙ c.in_default.is)
    c.of.ensures c.in_ok-word.ensures c.add_ram.result c.add_ram.new.draft (search rules)

pub returns-then-eq-2 : goal.returns-then-eq-2
returns-then-eq-2 c =
    by_first_word c.args.draft.now c.args.number c.args.line.now _ _ _ (sym c.line_fault.ensures ∙ c.in_default.is)
    c.of.ensures c.in_ok-word.ensures c.add_shelf_disk.result c.add_shelf_disk.new.draft (search rules)

pub returns-then-eq-3 : goal.returns-then-eq-3
returns-then-eq-3 c =
    by_first_word c.args.draft.now c.args.number c.args.line.now _ _ _ (sym c.line_fault.ensures ∙ c.in_default.is)
    c.of.ensures c.in_ok-word.ensures c.add_actor.result c.add_actor.new.draft (search rules)

pub returns-else-eq-3 : goal.returns-else-eq-3
returns-else-eq-3 c =
    by_first_word c.args.draft.now c.args.number c.args.line.now _ _ _ (sym c.line_fault.ensures ∙ c.in_default.is)
    c.of.ensures c.in_ok-word.ensures c.add_command.result c.add_command.new.draft (search rules)
