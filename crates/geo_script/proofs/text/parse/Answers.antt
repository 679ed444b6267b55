use Rattle.std.proofs.Common.{◌≡◌, length, Ok, sym, ap, ◌∙◌, arith}
use Rattle.std.proofs.lemmas.Bool.Decides.{nat_tests}
use Rattle.std.proofs.lemmas.Result.{err_from_is_err_and}
use Rattle.geo_model.specs.Script.{script}
use Rattle.geo_script.proofs.PlanLaw.{scripts-are-plans}
use Rattle.geo_script.proofs.TextLemmas.{rest_read, read_end, read_none, read_refused}
use Rattle.geo_script.proofs.text.parse.Goals as goal

-- no line was read, and the draft is empty
pub loop-rest-init : goal.loop-rest-init
loop-rest-init c = record {
  read = ap (λ plan. rest_read plan 0 c.args.text.now) c.new-draft.ensures ∙ read_none c.args.text.now;
  room = omega arith;
}

-- the lines before were in order, so what refuses this one refuses the text
pub returns-in_err-add_line-clause-answer : goal.returns-in_err-add_line-clause-answer
returns-in_err-add_line-clause-answer c =
    let p = err_from_is_err_and c.from_residual.result c.from_residual.ensures.1 in
    rw (p.1, p.2)
    (read_refused c.loop-rest.draft c.add_line.new.draft c.in_err-add_line.field-0.0 c.loop-rest.number
    c.loop-rest.rest.now c.first_line.result.0.now c.first_line.result.1.now _ c.first_line.ensures.lines
    c.in_err-add_line.ensures c.loop-rest.invariant.read)

-- no line is left, so the draft is what the text reads as, and each script that is accepted is a plan
pub into_plan-requires : goal.into_plan-requires
into_plan-requires c =
    let empty : length c.loop-rest.rest.now ≡ 0 = grind (arith, nat_tests) in
    let read : script c.args.text.now ≡ Ok c.loop-rest.draft =
    read_end c.loop-rest.draft c.loop-rest.number c.loop-rest.rest.now _ empty c.loop-rest.invariant.read in
    scripts-are-plans c.args.text.now c.loop-rest.draft read

-- the plan has the parts of the draft
pub returns-clause-answer : goal.returns-clause-answer
returns-clause-answer c =
    let empty : length c.loop-rest.rest.now ≡ 0 = grind (arith, nat_tests) in
    read_end c.loop-rest.draft c.loop-rest.number c.loop-rest.rest.now _ empty c.loop-rest.invariant.read
    ∙ ap Ok (sym c.into_plan.ensures)
