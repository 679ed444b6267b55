use Rattle.std.specs.Prelude.{Bool, Some, None, IfSome, if◌then◌else◌}
use Rattle.std.proofs.Common.{sym, subst, ◌≡◌, ◌∙◌}
use Rattle.geo_model.specs.World.{bio_at}
use Rattle.geo_state.specs.World.{world}
use Rattle.geo_session.proofs.FirstTaken.{found_free, free, none_free}
use Rattle.geo_session.proofs.takes.free_disk.Goals as goal

pub returns-in_default-clause-disk : goal.returns-in_default-clause-disk
returns-in_default-clause-disk c = λ actors log.
    none_free c.args.state.now actors log c.args.bio c.disk_of.result c.disk_of.ensures c.in_default.is

pub returns-then-is_some-clause-disk : goal.returns-then-is_some-clause-disk
returns-then-is_some-clause-disk c = λ actors log.
    let w = world actors log c.args.state.now in
    subst
    (λ (b : Bool). IfSome (bio_at w c.args.bio) (λ x. (if b then None else Some c.in-Some.disk) ≡ free w x))
    (sym c.is_some.ensures ∙ c.if-is_some.true)
    (found_free c.args.state.now actors log c.args.bio c.disk_of.result c.disk_of.ensures c.in-Some.disk
    c.take_found.result c.in-Some.is (c.take_found.ensures 0 actors log))

pub returns-clause-disk : goal.returns-clause-disk
returns-clause-disk c = λ actors log.
    let w = world actors log c.args.state.now in
    subst
    (λ (b : Bool). IfSome (bio_at w c.args.bio) (λ x. (if b then None else Some c.in-Some.disk) ≡ free w x))
    (sym c.is_some.ensures ∙ c.if-is_some.false)
    (found_free c.args.state.now actors log c.args.bio c.disk_of.result c.disk_of.ensures c.in-Some.disk
    c.take_found.result c.in-Some.is (c.take_found.ensures 0 actors log))
