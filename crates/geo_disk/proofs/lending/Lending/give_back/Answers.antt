use Rattle.std.proofs.Common.{rules, ◌≡◌, true, bytes_eq, not, ap, ◌∙◌, sym, ◌&&◌}
use Rattle.std.proofs.lemmas.Fn.{filter_same}
use Rattle.std.proofs.lemmas.Bool.{and_parts}
use Rattle.geo_disk.specs.Lending.{Loans}
use Rattle.geo_disk.specs.Names.{is_among, names_without}
use Rattle.geo_disk.proofs.NameLemmas.{among-without}
use Rattle.geo_disk.proofs.lending.Lending.give_back.Goals as goal

-- what is lent afterwards was lent before, so it has counts
pub invariant_of-self : goal.invariant_of-self
invariant_of-self c name among =
    let left : c.retain.new.self.items ≡ names_without c.args.name.now c.self.inside.lent.items =
    filter_same _ (λ other. not (bytes_eq c.args.name.now other)) _ (λ x b f' k. search rules) _ _
    c.retain.ensures.filtered in
    let both : (not (bytes_eq c.args.name.now name) && is_among name c.self.inside.lent.items) ≡ true =
    sym (among-without name c.args.name.now c.self.inside.lent.items) ∙ (rw left at among) in
    c.self.invariant name
    (and_parts (not (bytes_eq c.args.name.now name)) (is_among name c.self.inside.lent.items) both).1

-- just the names that aren't this one are retained
pub returns-clause-lent : goal.returns-clause-lent
returns-clause-lent c =
    filter_same _ (λ other. not (bytes_eq c.args.name.now other)) _ (λ x b f' k. search rules) _ _
    c.retain.ensures.filtered ∙ ap (λ (l : Loans). names_without c.args.name.now l.lent) c.self.view_is
