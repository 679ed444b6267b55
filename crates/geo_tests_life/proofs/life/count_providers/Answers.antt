use Rattle.std.proofs.Common.{sym, arith}
use Rattle.geo_tests_life.proofs.Walks.{many_begin, many_next, many_step, many_end}
use Rattle.geo_tests_life.proofs.life.count_providers.Goals as goal

pub loop-prov-init : goal.loop-prov-init
loop-prov-init c = record { many = many_begin c.args.topo.now.topology; low = omega arith }

pub overflow_add-count : goal.overflow_add-count
overflow_add-count c =
    let next = many_next c.args.topo.now.topology c.in-Some.ensures.sound c.loop-prov.from c.in-Some.prov
    (sym c.in-Some.ensures.first) in
    let fits = c.in-Some.ensures.sound.orderly.numbers.next_provider.fits in
    omega (arith, next.past, next.known, fits, c.loop-prov.invariant.low)

pub overflow_add-from : goal.overflow_add-from
overflow_add-from c =
    let next = many_next c.args.topo.now.topology c.in-Some.ensures.sound c.loop-prov.from c.in-Some.prov
    (sym c.in-Some.ensures.first) in
    omega (arith, next.known, c.in-Some.ensures.sound.orderly.numbers.next_provider.fits, c.number-from.ensures)

pub loop-prov-smaller : goal.loop-prov-smaller
loop-prov-smaller c =
    let next = many_next c.args.topo.now.topology c.in-Some.ensures.sound c.loop-prov.from c.in-Some.prov
    (sym c.in-Some.ensures.first) in
    omega (arith, next.past, next.known, c.number-from.ensures)

pub loop-prov-preserved : goal.loop-prov-preserved
loop-prov-preserved c =
    let next = many_next c.args.topo.now.topology c.in-Some.ensures.sound c.loop-prov.from c.in-Some.prov
    (sym c.in-Some.ensures.first) in
    let step = many_step c.args.topo.now.topology c.in-Some.ensures.sound c.loop-prov.from c.in-Some.prov
    (sym c.in-Some.ensures.first) in
    record {
      many = rw c.number-from.ensures (omega (arith, step, c.loop-prov.invariant.many));
      low = omega (arith, next.past, c.loop-prov.invariant.low, c.number-from.ensures);
    }

pub returns : goal.returns
returns c =
    let none =
    many_end c.args.topo.now.topology c.loop-prov.from (sym c.in_default.ensures.first) in
    omega (arith, none, c.loop-prov.invariant.many)
