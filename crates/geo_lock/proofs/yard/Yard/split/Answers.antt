use Rattle.std.proofs.Common.{rules, ◌∙◌, ap}
use lib.ListN.{get_elem?}
use Rattle.geo_lock.proofs.Keeps.{splits}
use Rattle.geo_lock.proofs.Sounds.{newcomer_sound}
use Rattle.geo_lock.proofs.yard.Yard.split.Goals as goal

-- the pass with number 0 counts those that were made, so the next number is new
pub split_seat-seat-requires : goal.split_seat-seat-requires
split_seat-seat-requires g c = (
  search rules,
  search rules,
  splits _ _ _ _ _ _ _ _ (ap (λ m. get_elem? m.0.claims 0) c.pass.invariant.0.1.me_is)
      (ap (λ p. p.number) c.pass.view_is ∙ c.requires.first),
)

-- no entry in what was seen has the new number, so the new pass has none of its own
pub invariant_of-result : goal.invariant_of-result
invariant_of-result g c = (
  newcomer_sound _ _ _ _ _ _ c.pass.invariant.0.1 (ap (λ p. p.number) c.pass.view_is ∙ c.requires.first) _
      (search rules),
  search rules,
)
