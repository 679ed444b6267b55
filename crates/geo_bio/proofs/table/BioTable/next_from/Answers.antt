use Rattle.std.proofs.Common.{sym, ap, subst, ◌∙◌, Some}
use Rattle.geo_bio.specs.BioTable.{AreInOrder, bio_from}
use Rattle.geo_bio.proofs.TableLemmas.{in_order, find-from_seen}
use Rattle.geo_bio.proofs.table.BioTable.next_from.Goals as goal

-- Each way out: the rows show in their order, so the first row is the first bio
pub returns-in-Some-clause-first : goal.returns-in-Some-clause-first
returns-in-Some-clause-first c =
    let first = find-from_seen c.args.number c.self.inside.bios.rows in
    ap Some c.new.ensures ∙ sym c.in-Some.is ∙ c.first_from.ensures.first ∙ sym first
    ∙ ap (λ v. bio_from v.bios c.args.number) c.self.view_is

pub returns-in-None-clause-first : goal.returns-in-None-clause-first
returns-in-None-clause-first c =
    let first = find-from_seen c.args.number c.self.inside.bios.rows in
    sym c.in-None.is ∙ c.first_from.ensures.first ∙ sym first ∙ ap (λ v. bio_from v.bios c.args.number) c.self.view_is

pub returns-in-Some-clause-in_order : goal.returns-in-Some-clause-in_order
returns-in-Some-clause-in_order c =
    let s = c.self.inside.bios in
    subst AreInOrder c.self.view_is (in_order s.rows s.next s.spare c.self.invariant.rising)

pub returns-in-None-clause-in_order : goal.returns-in-None-clause-in_order
returns-in-None-clause-in_order c =
    let s = c.self.inside.bios in
    subst AreInOrder c.self.view_is (in_order s.rows s.next s.spare c.self.invariant.rising)
