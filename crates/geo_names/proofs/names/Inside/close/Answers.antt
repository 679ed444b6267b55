use Rattle.std.specs.Option.{is_some}
use Rattle.std.proofs.Common.{sym, ap, ◌∙◌}
use Rattle.geo_names.proofs.Texts.{no_last, inside-closed, rows-closed}
use Rattle.geo_names.proofs.names.Inside.close.Goals as goal

-- the id has no last number, so it has none
pub remove_parent-requires : goal.remove_parent-requires
remove_parent-requires c =
    no_last c.args.self.now.alike.children c.in-Some.id (sym (ap is_some c.last.ensures) ∙ c.if-is_none.ensures)

-- no number stands under the id, so none misses it, and no other name has it
pub returns-then-is_none-clause-inside : goal.returns-then-is_none-clause-inside
returns-then-is_none-clause-inside c =
    let alone = no_last c.args.self.now.alike.children c.in-Some.id
    (sym (ap is_some c.last.ensures) ∙ c.if-is_none.ensures) in
    inside-closed c.args.self.now _ c.requires c.args.name.now c.in-Some.id
    (sym c.get.ensures.value ∙ sym c.copied.ensures ∙ c.in-Some.is) alone c.remove.ensures.removed
    (ap (λ v. v.children) c.remove_parent.ensures)
    (ap (λ v. v.parents) c.remove_parent.ensures) (ap (λ v. v.next_parent) c.remove_parent.ensures)
    (λ q. c.remove-then-is_none.ensures.updates.0 (record { 0 = q }))

-- no number stands under the id, so each one keeps its name
pub returns-then-is_none-clause-rows : goal.returns-then-is_none-clause-rows
returns-then-is_none-clause-rows c =
    let alone = no_last c.args.self.now.alike.children c.in-Some.id
    (sym (ap is_some c.last.ensures) ∙ c.if-is_none.ensures) in
    rows-closed c.args.self.now (record {
      ids = c.remove-then-is_none.new.self;
      texts = c.remove.new.self;
      alike = c.remove_parent.new.self;
    }) c.requires c.args.name.now c.in-Some.id (sym c.get.ensures.value ∙ sym c.copied.ensures ∙ c.in-Some.is) alone
    c.remove.ensures.removed (ap (λ v. v.children) c.remove_parent.ensures)
