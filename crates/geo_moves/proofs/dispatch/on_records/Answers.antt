use Rattle.std.specs.Prelude.{IsTrue}
use Rattle.std.proofs.Common.{sym, subst}
use Rattle.geo_base.specs.Name.{is_short_name}
use Rattle.geo_model.specs.Commands.{do_command}
use Rattle.geo_model.specs.declared.class.ConcatRecord.{ConcatRecord}
use Rattle.geo_model.specs.declared.class.StripeRecord.{StripeRecord}
use Rattle.geo_moves.proofs.dispatch.on_records.Goals as goal

-- For each command: the model does what the call of its arm does

pub returns-in-Label-clause-does : goal.returns-in-Label-clause-does
unfolding do_command
returns-in-Label-clause-does c log = rw c.in-Label.is (c.write_record.ensures.does log)

pub returns-in-Relabel-clause-does : goal.returns-in-Relabel-clause-does
unfolding do_command
returns-in-Relabel-clause-does c log = rw c.in-Relabel.is (c.write_record-in-Relabel.ensures.does log)

pub returns-in-MarkConcat-clause-does : goal.returns-in-MarkConcat-clause-does
unfolding do_command
returns-in-MarkConcat-clause-does c log =
    rw c.in-MarkConcat.is (rw c.concat_record-part.ensures at (c.write_record-in-MarkConcat.ensures.does log))

pub returns-in-MarkStripe-clause-does : goal.returns-in-MarkStripe-clause-does
unfolding do_command
returns-in-MarkStripe-clause-does c log =
    rw c.in-MarkStripe.is (rw c.stripe_record-part.ensures at (c.write_record-in-MarkStripe.ensures.does log))

-- For each condition: what is known of the command is known of its parts

pub write_record-requires-clause-short : goal.write_record-requires-clause-short
write_record-requires-clause-short c = (rw c.in-Label.is at c.requires.is_command).1

pub write_record-requires-in-Relabel-clause-short : goal.write_record-requires-in-Relabel-clause-short
write_record-requires-in-Relabel-clause-short c = (rw c.in-Relabel.is at c.requires.is_command).1

pub concat_record-part-requires : goal.concat_record-part-requires
concat_record-part-requires c = (rw c.in-MarkConcat.is at c.requires.is_command).2

pub stripe_record-part-requires-clause-mark : goal.stripe_record-part-requires-clause-mark
stripe_record-part-requires-clause-mark c = (rw c.in-MarkStripe.is at c.requires.is_command).2

pub stripe_record-part-requires-clause-strips : goal.stripe_record-part-requires-clause-strips
stripe_record-part-requires-clause-strips c = (rw c.in-MarkStripe.is at c.requires.is_command).3

pub write_record-requires-in-MarkConcat-clause-short : goal.write_record-requires-in-MarkConcat-clause-short
write_record-requires-in-MarkConcat-clause-short c =
    subst (λ (part : ConcatRecord). IsTrue (is_short_name part.name)) (sym c.concat_record-part.ensures)
    (rw c.in-MarkConcat.is at c.requires.is_command).1

pub write_record-requires-in-MarkStripe-clause-short : goal.write_record-requires-in-MarkStripe-clause-short
write_record-requires-in-MarkStripe-clause-short c =
    subst (λ (part : StripeRecord). IsTrue (is_short_name part.name)) (sym c.stripe_record-part.ensures)
    (rw c.in-MarkStripe.is at c.requires.is_command).1
