-- The mesh goes to rest in the fixed order.
use Rattle.std.proofs.Common.{[], refl}
use Rattle.geo_model.specs.FixedOrder.{fixed_order}
use Rattle.geo_run.proofs.Asked.{adds_by, ran_full, ran_to_rest}
use Rattle.geo_run.proofs.rest.in_fixed_order.Goals as goal

-- the fixed order keeps nothing of the steps, so it knows all that it needs
pub run_to_rest-requires-clause-known : goal.run_to_rest-requires-clause-known
run_to_rest-requires-clause-known g c = ([], (c.args.mesh.now.log, refl), tt)

pub returns-clause-added : goal.returns-clause-added
returns-clause-added g c = adds_by fixed_order _ _ c.args.mesh.now c.run_to_rest.new.mesh c.run_to_rest.ensures.runs

pub returns-clause-history : goal.returns-clause-history
returns-clause-history g c = c.run_to_rest.ensures.history.keeps

pub returns-clause-fits : goal.returns-clause-fits
returns-clause-fits g c = c.run_to_rest.ensures.history.lawful.1

pub returns-clause-rest : goal.returns-clause-rest
returns-clause-rest g c = ran_to_rest _ c.run_to_rest.new.mesh c.run_to_rest.ensures.history c.run_to_rest.ensures.rest

pub returns-clause-full : goal.returns-clause-full
returns-clause-full g c = λ e. ran_full fixed_order c.run_to_rest.new.mesh (c.run_to_rest.ensures.full e)
