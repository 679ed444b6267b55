use Rattle.std.specs.Prelude.{◌≤◌, length}
use Rattle.std.proofs.Common.{sym, subst}
use Rattle.geo_base.specs.declared.limits.TheConstants.{MAX_COMPONENTS}
use Rattle.geo_model.specs.Commands.{do_command}
use Rattle.geo_moves.proofs.dispatch.on_geoms.Goals as goal

-- For each command: the model does what the call of its arm does

pub returns-in-Insert-clause-does : goal.returns-in-Insert-clause-does
unfolding do_command
returns-in-Insert-clause-does g c log = rw c.in-Insert.is (c.insert.ensures.does log)

pub returns-in-Pull-clause-does : goal.returns-in-Pull-clause-does
unfolding do_command
returns-in-Pull-clause-does g c log = rw c.in-Pull.is (c.pull.ensures.does log)

pub returns-in-Nop-clause-does : goal.returns-in-Nop-clause-does
unfolding do_command
returns-in-Nop-clause-does g c log = rw c.in-Nop.is (c.nop.ensures.does log)

pub returns-in-Concat-clause-does : goal.returns-in-Concat-clause-does
unfolding do_command
returns-in-Concat-clause-does g c log = rw c.in-Concat.is (rw c.items.ensures at (c.concat.ensures.does log))

pub returns-in-Stripe-clause-does : goal.returns-in-Stripe-clause-does
unfolding do_command
returns-in-Stripe-clause-does g c log = rw c.in-Stripe.is (rw c.items-in-Stripe.ensures at (c.stripe.ensures.does log))

pub returns-in-Append-clause-does : goal.returns-in-Append-clause-does
unfolding do_command
returns-in-Append-clause-does g c log = rw c.in-Append.is (c.append.ensures.does log)

pub returns-in-Destroy-clause-does : goal.returns-in-Destroy-clause-does
unfolding do_command
returns-in-Destroy-clause-does g c log = rw c.in-Destroy.is (c.destroy.ensures.does log)

-- For each condition: what is known of the command is known of its parts

pub concat-requires-clause-short : goal.concat-requires-clause-short
concat-requires-clause-short g c = (rw c.in-Concat.is at c.requires.is_command).0

pub concat-requires-clause-few : goal.concat-requires-clause-few
concat-requires-clause-few g c =
    subst (λ ps. length ps ≤ MAX_COMPONENTS) (sym c.items.ensures)
    (rw c.in-Concat.is at c.requires.is_command).1.not_many

pub stripe-requires-clause-short : goal.stripe-requires-clause-short
stripe-requires-clause-short g c = (rw c.in-Stripe.is at c.requires.is_command).0

pub stripe-requires-clause-limited : goal.stripe-requires-clause-limited
stripe-requires-clause-limited g c = (rw c.in-Stripe.is at c.requires.is_command).1.limited

pub stripe-requires-clause-few : goal.stripe-requires-clause-few
stripe-requires-clause-few g c =
    subst (λ ps. length ps ≤ MAX_COMPONENTS) (sym c.items-in-Stripe.ensures)
    (rw c.in-Stripe.is at c.requires.is_command).2.not_many
