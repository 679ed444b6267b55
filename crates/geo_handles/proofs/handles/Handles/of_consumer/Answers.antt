use Rattle.std.proofs.Common.{◌∙◌}
use Rattle.geo_model.specs.Words.{names_number}
use Rattle.geo_handles.specs.Keys.{number_of_consumer}
use Rattle.geo_handles.proofs.InsideLemmas.{found-number, found-handle, held-all, held-there, held-alone}
use Rattle.geo_handles.proofs.handles.Handles.of_consumer.Goals as goal

-- the map finds just the number whose handle has the consumer, so no other passes
pub returns-clause-number : goal.returns-clause-number
returns-clause-number c =
    rw (← c.self.view_is)
    (c.number_held.ensures
    ∙ found-number c.self.inside.inside.table.rows (λ h. names_number h.consumer c.args.consumer)
    (number_of_consumer c.self.inside.inside.consumers c.args.consumer)
    (held-all c.self.inside.inside c.self.invariant c.args.consumer)
    (held-there c.self.inside.inside c.self.invariant c.args.consumer))

-- the number that is found has a handle, which is the one with the consumer
pub returns-clause-handle : goal.returns-clause-handle
returns-clause-handle c =
    rw (← c.self.view_is, c.number_held.ensures)
    (found-handle c.self.inside.inside.table.rows (λ h. names_number h.consumer c.args.consumer)
    (number_of_consumer c.self.inside.inside.consumers c.args.consumer)
    (held-all c.self.inside.inside c.self.invariant c.args.consumer))

-- any handle with the consumer would be found by it, and the map has one number for it
pub returns-clause-alone : goal.returns-clause-alone
returns-clause-alone c =
    rw (← c.self.view_is, c.number_held.ensures) (held-alone c.self.inside.inside c.self.invariant c.args.consumer)
