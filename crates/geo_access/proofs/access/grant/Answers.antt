use Rattle.std.proofs.Common.{◌≡◌, refl, sym, ap, ◌∙◌, subst, arith, Ok, None, Some}
use Rattle.geo_mesh.specs.Topo.{with_want}
use Rattle.geo_access.specs.declared.counts.Way.TheVariants.{Rises}
use Rattle.geo_access.specs.Access.{IsCounted}
use Rattle.geo_access.proofs.Granting.{holder_is, holder_lives, answered}
use Rattle.geo_access.proofs.Decided.{counted_told}
use Rattle.geo_access.proofs.Coming.{end_of}
use Rattle.geo_access.proofs.Ready.{may_end, holder_stays, may_judge}
use Rattle.geo_access.proofs.Kept.{grant_stands}
use Rattle.geo_access.proofs.access.grant.Goals as goal

pub try_out-order-requires : goal.try_out-order-requires
try_out-order-requires g c = record {
  lives =
      rw c.place_of-prov.ensures.place
      (holder_lives c.args.topo.now.topology c.place_of-prov.ensures.sound c.args.cons
      (holder_is c.args.topo.now.topology c.args.cons c.requires.holder));
  clear = c.requires.counted.clear;
}

-- the geoms that were met stand, and counts that are right tell of each consumer at the provider
pub judge-requires : goal.judge-requires
judge-requires g c =
    may_judge c.try_out-order.ensures.tried c.place_of-prov.ensures.sound
    (counted_told c.args.topo.now c.place_of-prov.ensures.sound c.requires.counted)

pub finish-requires : goal.finish-requires
finish-requires g c =
    may_end c.try_out-order.ensures.tried c.place_of-prov.ensures.sound c.requires.counted.clear

-- where something refuses, the mesh is as before
pub returns-in-Some : goal.returns-in-Some
returns-in-Some g c =
    let told = counted_told c.args.topo.now c.place_of-prov.ensures.sound c.requires.counted in
    let same : c.finish.new.topo ≡ c.args.topo.now =
    c.finish.ensures ∙ end_of c.try_out-order.ensures.tried c.place_of-prov.ensures.sound told in
    let asked =
    answered c.args.cons c.try_out-order.ensures.tried c.place_of-prov.ensures.place c.place_of-prov.ensures.sound
    c.requires.counted c.requires.holder c.requires.nothing (sym c.in-Some.is ∙ c.judge.ensures) c.refusal.ensures in
    record {
      granted = tt;
      same = same;
      counted = subst IsCounted (sym same) c.requires.counted;
      risen = tt;
      answer = asked.answer;
      named = asked.named;
      bound = omega (arith, c.try_out-order.ensures.steps, asked.bound);
    }

pub finish-requires-2 : goal.finish-requires-2
finish-requires-2 g c =
    may_end c.try_out-order.ensures.tried c.place_of-prov.ensures.sound c.requires.counted.clear

-- counts that rise take no consumer away
pub set_want-requires : goal.set_want-requires
set_want-requires g c =
    holder_stays (Some Rises) c.args.cons c.try_out-order.ensures.tried c.place_of-prov.ensures.sound
    c.requires.counted.clear c.requires.holder c.finish-2.ensures

-- where nothing refuses, the grant stands
pub returns : goal.returns
returns g c =
    let asked =
    answered {judgement = None} {told = Ok tt} c.args.cons c.try_out-order.ensures.tried c.place_of-prov.ensures.place
    c.place_of-prov.ensures.sound c.requires.counted c.requires.holder c.requires.nothing
    (sym c.in_default.is ∙ c.judge.ensures) refl in
    let stands =
    grant_stands c.args.cons c.try_out-order.ensures.tried c.place_of-prov.ensures.place
    c.place_of-prov.ensures.sound c.requires.counted c.requires.quiet c.requires.placed c.requires.holder
    c.requires.nothing (sym c.judge.ensures ∙ c.in_default.is)
    (c.set_want.ensures ∙ ap (λ v. with_want v c.args.cons c.args.add) c.finish-2.ensures) in
    record {
      granted = stands.is;
      same = tt;
      counted = stands.counted;
      risen = stands.notes;
      answer = asked.answer;
      named = tt;
      bound = omega (arith, c.try_out-order.ensures.steps, asked.bound);
    }
