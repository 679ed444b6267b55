use Rattle.std.proofs.Common.{sym, ◌∙◌, ap, subst, ◌++◌, List, ℕ}
use Rattle.geo_headline.specs.Traces.{IsTrace}
use Rattle.geo_laws_traces.proofs.Delivers.{delivers_are_short}
use Rattle.geo_laws_traces.proofs.Written.{written_is_read}
use Rattle.geo_script.proofs.PlanLaw.{scripts-are-plans}
use Rattle.geo_verify.specs.Written.{trace_of, written_of}
use Rattle.geo_verify.proofs.WrittenOut.{is_trace_text}
use Rattle.geo_verify.proofs.write.trace_text.Goals as goal

-- all was added to an empty text
pub returns-clause-text : goal.returns-clause-text
returns-clause-text c =
    c.into_block.ensures ∙ c.in_ok-add_trace.ensures.text
    ∙ ap (λ (xs : List ℕ). xs ++ written_of c.args.script.now c.args.plan.now c.args.facts.now.items
    c.args.log.now.items c.args.report.now) c.in_ok-text.ensures
    ∙ is_trace_text c.args.script.now c.args.plan.now c.args.facts.now.items c.args.log.now.items c.args.report.now

-- a legal log delivers no more bytes than a request asks for, so each of its lines is read as it is written
pub returns-clause-trace : goal.returns-clause-trace
returns-clause-trace c =
    let t = trace_of c.args.plan.now c.args.facts.now.items c.args.log.now.items c.args.report.now in
    let few = delivers_are_short c.args.plan.now c.args.facts.now.items
    (scripts-are-plans c.args.script.now c.args.plan.now c.requires.script).begins c.requires.facts c.args.log.now.items
    c.requires.legal in
    subst (λ (b : List ℕ). IsTrace b t) (sym (returns-clause-text c))
    (written_is_read c.args.script.now t c.requires.script c.requires.facts (c.in_ok-add_trace.ensures.fits few))
