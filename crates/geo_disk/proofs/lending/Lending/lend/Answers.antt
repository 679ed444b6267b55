use Rattle.std.proofs.Common.{◌≡◌, ◌||◌, true, bytes_eq, ◌∙◌, sym, inl, inr}
use Rattle.std.proofs.lemmas.Bool.{or_cases}
use Rattle.geo_base.proofs.Tests.{same_from_bytes_eq}
use Rattle.geo_disk.specs.Names.{is_among}
use Rattle.geo_disk.proofs.NameLemmas.{among-push}
use Rattle.geo_disk.proofs.lending.Lending.lend.Goals as goal

-- a name that was lent keeps its counts, and the last one was given some before it was lent
pub invariant_of-self-2 : goal.invariant_of-self-2
invariant_of-self-2 c name among =
    let one : (is_among name c.self.inside.lent.items || bytes_eq name c.args.name.now) ≡ true =
    sym (among-push name c.args.name.now c.self.inside.lent.items) ∙ (rw c.in_ok-push.ensures.items at among) in
    elim (or_cases (is_among name c.self.inside.lent.items) (bytes_eq name c.args.name.now) one) [
      | inl before ↦ c.ensure_count.ensures.kept name (c.self.invariant name before)
      | inr last ↦ rw (same_from_bytes_eq name c.args.name.now last) c.in_ok-ensure_count.ensures.has
    ]
