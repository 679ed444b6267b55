use Rattle.geo_laws_steps.proofs.Frees.{steps_free_only_idle}
use Rattle.geo_laws_steps.proofs.freeing.steps_free_only_idle.Goals as goal

pub returns : goal.returns
returns c = steps_free_only_idle
