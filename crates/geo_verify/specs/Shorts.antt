-- The steps of the lines that are read in one pass.
use Rattle.geo_model.specs.declared.step.Step.{Step}
use Rattle.geo_model.specs.declared.step.Step.TheVariants as steps
use Rattle.geo_verify.specs.declared.short.Short.{Short}
use Rattle.geo_verify.specs.declared.short.Short.TheVariants as shorts

abbrev pub step_of : Short → Step
step_of (shorts.Start bio) = steps.Start bio
step_of (shorts.Take disk bio) = steps.Take disk bio
step_of (shorts.Up bio) = steps.Up bio
