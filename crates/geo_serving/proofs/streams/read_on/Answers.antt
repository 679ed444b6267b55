use Rattle.std.proofs.Common.{◌≡◌, ◌+◌, ◌-◌, [], length, take, drop, arith}
use Rattle.geo_io.specs.Source.{Gives}
use Rattle.geo_io.proofs.SourceLemmas.{Gives-more}
use Rattle.geo_serving.proofs.Reading.{found_end, gives_no_bytes, read_inside, read_more, still_end}
use Rattle.geo_serving.proofs.streams.read_on.Goals as goal

-- nothing is left
pub returns-in-Ok-eq0-clause-breaks : goal.returns-in-Ok-eq0-clause-breaks
returns-in-Ok-eq0-clause-breaks g c =
    let old = g.S.Source.view c.args.source.now in
    let new = g.S.Source.view c.read.new.self in
    let none : Gives old [] new =
    gives_no_bytes old new c.in-Ok-eq0.field-0 c.read.new.out c.in-Ok-eq0.field-0-test c.in-Ok-eq0.ensures.bytes in
    record {
      gives = none;
      cause = record {
        ended = found_end c.in-Ok-eq0.field-0 new.ended c.in-Ok-eq0.field-0-test c.in-Ok-eq0.ensures.ended;
        none_left = still_end old.left new.left none.goes (c.in-Ok-eq0.ensures.end c.in-Ok-eq0.field-0-test);
      };
    }

-- what was read before stands in front
pub returns-in-Ok-clause-on : goal.returns-in-Ok-clause-on
returns-in-Ok-clause-on g c =
    let old = g.S.Source.view c.args.source.now in
    let new = g.S.Source.view c.read.new.self in
    record {
      on = omega arith;
      inside =
          read_inside c.args.done c.in-Ok.count c.args.out.now c.read.new.out c.requires c.in-Ok.ensures.bound
          c.read.auto.out;
      grown = λ first before.
          rw (read_more c.args.done c.in-Ok.count (length c.args.out.now - c.args.done) c.args.out.now c.read.new.out
          c.requires c.in-Ok.ensures.bound)
          (Gives-more first old new (take c.args.done c.args.out.now) (take c.in-Ok.count c.read.new.out) before
          c.in-Ok.ensures.bytes);
    }
