-- What the words ask for.
use Rattle.geo_run.specs.declared.words.Work.TheVariants as works
use Rattle.geo_run.proofs.Keeping.{finishes_none, generation_finishes}
use Rattle.geo_run.proofs.Sources.{verified_finishes, work_finishes}
use Rattle.geo_run.proofs.source_run.run_words.Goals as goal

-- The word's mode reads a script from the source, and its run is that of the mode
pub returns-in-Some-Step : goal.returns-in-Some-Step
returns-in-Some-Step g c =
    work_finishes _ works.Step c.in-Some-Step.field-0 _ _ _ _ _ tt (λ gen. gen) c.in-Some-Step.field-0-is
    c.in-Some-Step.ensures c.run_source.ensures

pub returns-in-Some-Sweep : goal.returns-in-Some-Sweep
returns-in-Some-Sweep g c =
    work_finishes _ works.Sweep c.in-Some-Sweep.field-0 _ _ _ _ _ tt (λ gen. gen) c.in-Some-Sweep.field-0-is
    c.in-Some-Sweep.ensures c.run_source-in-Some-Sweep.ensures

-- START and COUNT are within their limits, and the script is the one that is made from them
pub returns-in-Some-Generate : goal.returns-in-Some-Generate
returns-in-Some-Generate g c =
    generation_finishes _ c.in-Some-Generate.field-0 _ _ _ _ c.in-Some-Generate.start c.in-Some-Generate.count
    c.in-Some-Generate.field-0-is c.in-Some-Generate.ensures c.run_generated.ensures

-- no disk is taken, so the shelf stays as it is
pub returns-in-Some-Verify : goal.returns-in-Some-Verify
returns-in-Some-Verify g c =
    verified_finishes _ c.in-Some-Verify.field-0 _ _ _ _ _ c.in-Some-Verify.field-0-is c.in-Some-Verify.ensures
    (c.run_verify.ensures _)

-- no words of a mode, and none that start threads were given here, so they are bad
pub returns-in-None : goal.returns-in-None
returns-in-None g c =
    finishes_none _ c.unopened.result _ _ (c.in-None.ensures c.requires.alone) c.unopened.ensures.due
    c.unopened.ensures.log
