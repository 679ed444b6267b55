use Rattle.std.proofs.Common.{◌≡◌, true, sym, ap, subst, ◌∙◌, IfSome}
use Rattle.std.specs.Option.{option_map, option_copied}
use Rattle.geo_model.specs.World.{is_waiting, children_among, bio_among}
use Rattle.geo_slots.specs.Slots.{value_at}
use Rattle.geo_bio.specs.BioTable.{BioTableView, AreInOrder, HasParent}
use Rattle.geo_bio.specs.Rows.{as_bio, KnowsChildren}
use Rattle.geo_bio.proofs.TableLemmas.{family_told, parent_told, in_order, bio_among-rows}
use Rattle.geo_bio.proofs.table.BioTable.get.Goals as goal

-- the rows are the bios that show, each under its number
pub returns-clause-found : goal.returns-clause-found
returns-clause-found c =
    let found = c.get.ensures.value ∙ ap (value_at c.self.inside.bios.rows) c.number.ensures in
    ap (option_map (as_bio c.args.bio)) found ∙ sym (bio_among-rows c.self.inside.bios.rows c.args.bio)
    ∙ ap (λ v. bio_among v.bios c.args.bio) c.self.view_is

-- a bio that waits knows its children in the rows, which are those that show
pub returns-clause-family : goal.returns-clause-family
returns-clause-family c =
    let found = c.get.ensures.value ∙ ap (value_at c.self.inside.bios.rows) c.number.ensures in
    let told = family_told c.self.inside.bios.rows c.self.inside.bios.next c.args.bio c.self.invariant
    (option_copied c.get.result) found in
    subst (λ (v : BioTableView). IfSome (option_copied c.get.result) (λ x. is_waiting x.phase ≡ true
    → KnowsChildren c.args.bio (children_among v.bios c.args.bio) x)) c.self.view_is told

-- the parent of a child is in the rows and waits, so it shows so too
pub returns-clause-parent : goal.returns-clause-parent
returns-clause-parent c =
    let found = c.get.ensures.value ∙ ap (value_at c.self.inside.bios.rows) c.number.ensures in
    let told = parent_told c.self.inside.bios.rows c.self.inside.bios.next c.args.bio c.self.invariant
    (option_copied c.get.result) found in
    subst (λ (v : BioTableView). IfSome (option_copied c.get.result) (λ x. HasParent v.bios x.owner)) c.self.view_is
    told

pub returns-clause-in_order : goal.returns-clause-in_order
returns-clause-in_order c =
    let s = c.self.inside.bios in
    subst AreInOrder c.self.view_is (in_order s.rows s.next s.spare c.self.invariant.rising)
