use Rattle.std.proofs.Common.{refl, sym, ap, ◌∙◌, subst, arith, None}
use Rattle.std.specs.Prelude.{fold}
use Rattle.geo_mesh.specs.Topo.{TopoView, with_want}
use Rattle.geo_access.specs.Views.{order_of, finish_geom, MayEnd}
use Rattle.geo_access.proofs.Decided.{steps_bound}
use Rattle.geo_access.proofs.Coming.{end_of}
use Rattle.geo_access.proofs.Ready.{may_end, may_judge}
use Rattle.geo_access.proofs.JoinEnd.{joiner_told, may_admit, attached_may_end, joiner_stays, join_told, join_stands}
use Rattle.geo_access.proofs.joins.join.Goals as goal

-- the joiner is attached to nothing, and all others' counts are right, so they tell of the provider's consumers
pub judge-refused-requires : goal.judge-refused-requires
judge-refused-requires g c =
    may_judge c.try_out-order.ensures.tried c.wanted-add.ensures.sound
    (joiner_told c.args.topo.now c.args.cons c.wanted-add.ensures.sound c.requires.counted c.requires.loose)

-- what is tried leaves the graph and the stored counts, so the joiner is loose and holds nothing still
pub admit-requires : goal.admit-requires
admit-requires g c =
    let ready =
    may_admit c.args.cons c.try_out-order.ensures.tried c.wanted-add.ensures.sound c.requires.counted
    c.requires.loose in
    record { loose = ready.loose; nothing = ready.nothing; lives = ready.lives; sound = ready.sound }

-- a refused consumer leaves the mesh as it was tried
pub finish-requires : goal.finish-requires
finish-requires g c =
    subst (λ (v : TopoView g.row.C.Denot). MayEnd v c.try_out-order.result) (sym c.in-Err.ensures.same)
    (may_end c.try_out-order.ensures.tried c.wanted-add.ensures.sound c.requires.counted.clear)

-- so the walk ends as it began
pub returns-in-Err : goal.returns-in-Err
returns-in-Err g c =
    let few = steps_bound c.wanted-add.ensures.sound c.requires.counted.clear c.try_out-order.ensures.tried in
    let told =
    joiner_told c.args.topo.now c.args.cons c.wanted-add.ensures.sound c.requires.counted c.requires.loose in
    let right =
    join_told c.args.cons c.try_out-order.ensures.tried c.wanted-add.ensures.sound c.requires.counted
    c.requires.loose c.wanted-add.ensures.wanted c.judge-refused.ensures
    (sym c.in-Err.is ∙ c.admit.ensures.answer) in
    record {
      joined = tt;
      same =
          c.finish.ensures
          ∙ ap (λ (v : TopoView g.row.C.Denot). fold (finish_geom None) v (order_of v c.try_out-order.result))
          c.in-Err.ensures.same
          ∙ end_of c.try_out-order.ensures.tried c.wanted-add.ensures.sound told;
      counted = tt;
      risen = tt;
      answer = right.0;
      named = right.1;
      bound = omega (arith, c.tick.ensures, c.try_out-order.ensures.steps, few);
    }

-- a consumer that is attached changes no geom and no mark, so the walk can end
pub finish-requires-2 : goal.finish-requires-2
finish-requires-2 g c =
    attached_may_end c.args.cons c.args.prov
    (may_end c.try_out-order.ensures.tried c.wanted-add.ensures.sound c.requires.counted.clear)
    c.in_default.ensures.attached

-- the joiner stood before it was attached, and counts that rise take no consumer away
pub set_want-requires : goal.set_want-requires
set_want-requires g c =
    joiner_stays c.args.cons c.try_out-order.ensures.tried c.wanted-add.ensures.sound c.requires.counted
    c.requires.loose c.in_default.ensures.attached c.finish-2.ensures

-- where nothing refuses, the consumer has joined
pub returns : goal.returns
returns g c =
    let answer = sym c.in_default.is ∙ c.admit.ensures.answer in
    let right =
    join_told c.args.cons c.try_out-order.ensures.tried c.wanted-add.ensures.sound c.requires.counted
    c.requires.loose c.wanted-add.ensures.wanted c.judge-refused.ensures answer in
    let few = steps_bound c.wanted-add.ensures.sound c.requires.counted.clear c.try_out-order.ensures.tried in
    let stands =
    join_stands c.args.cons c.try_out-order.ensures.tried c.wanted-add.ensures.sound c.requires.counted
    c.requires.loose c.wanted-add.ensures.wanted c.judge-refused.ensures answer refl c.requires.quiet
    c.requires.placed c.in_default.ensures.attached
    (c.set_want.ensures ∙ ap (λ v. with_want v c.args.cons c.wanted-add.result) c.finish-2.ensures) in
    record {
      joined = stands.is;
      same = tt;
      counted = stands.counted;
      risen = stands.notes;
      answer = right.0;
      named = tt;
      bound = omega (arith, c.tick.ensures, c.try_out-order.ensures.steps, few);
    }
