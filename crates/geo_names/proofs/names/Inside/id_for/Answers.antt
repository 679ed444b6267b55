use Rattle.std.proofs.Common.{◌≡◌, None, sym, ap, arith}
use Rattle.geo_model.proofs.Options.{on_ok}
use Rattle.geo_names.specs.Inside.{id_of}
use Rattle.geo_names.proofs.Texts.{inside-opened, rows-opened}
use Rattle.geo_names.proofs.names.Inside.id_for.Goals as goal

-- the name had no id, and the new one is the next, so ids and names are still each other's
pub returns-clause-inside : goal.returns-clause-inside
returns-clause-inside c =
    let updates =
    on_ok c.insert.result (c.insert.ensures.succeeds (omega (arith, c.requires.room))) c.insert.ensures.updates in
    let none : id_of c.args.self.now c.args.name.now ≡ None = sym c.in_default.ensures.value in
    inside-opened c.args.self.now _ c.requires.inside c.args.name.now none c.insert-id.ensures.rising
    c.insert-id.ensures.inserted
    (ap (λ v. v.parents) c.add_parent.ensures.added) (ap (λ v. v.next_parent) c.add_parent.ensures.added)
    (ap (λ v. v.children) c.add_parent.ensures.added)
    (λ q. rw (← c.insert-id.ensures.number) (updates.0 (record { 0 = q })))

-- no number stands under an id that was just given, so each one keeps its name
pub returns-clause-rows : goal.returns-clause-rows
returns-clause-rows c =
    rows-opened c.args.self.now (record {
      ids = c.insert.new.self;
      texts = c.insert-id.new.self;
      alike = c.add_parent.new.self;
    }) c.requires.inside c.args.name.now c.insert-id.ensures.inserted
    (ap (λ v. v.children) c.add_parent.ensures.added)
