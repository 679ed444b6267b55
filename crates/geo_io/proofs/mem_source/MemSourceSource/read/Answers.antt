use Rattle.std.proofs.Common.{◌++◌, ◌≤◌, take, drop, arith, sym, ◌∙◌, ap, length, length-take-le}
use Rattle.geo_io.specs.MemSource.{Feed, after_read}
use Rattle.geo_io.proofs.SourceLemmas.{fed, given, moved, tail_range}
use Rattle.geo_io.proofs.mem_source.MemSourceSource.read.Goals as goal

-- what was copied is the front of what was left, so it goes from the bytes left to those given
pub returns-clause-bytes : goal.returns-clause-bytes
returns-clause-bytes c =
    let within_room : c.min-count.result ≤ length c.args.out.now = omega (arith, c.min.ensures, c.min-count.ensures) in
    let size = c.copy_from_slice.ensures.len ∙ length-take-le c.min-count.result c.args.out.now within_room in
    let part = tail_range c.self.inside.at c.bytes.result.now ∙ ap (drop c.self.inside.at) c.bytes.ensures in
    record {
      given =
          given c.self.inside.at c.min-count.result c.self.inside.bytes c.args.out.now c.copy_from_slice.new.self _
          part size c.copy_from_slice.ensures.after
          ∙ ap (λ (f : Feed). f.given
          ++ take c.min-count.result (c.copy_from_slice.new.self ++ drop c.min-count.result c.args.out.now))
          c.self.view_is;
      goes =
          sym (ap (λ (f : Feed). f.left) c.self.view_is)
          ∙ moved c.self.inside.at c.min-count.result c.self.inside.bytes c.args.out.now
          c.copy_from_slice.new.self _ part
          (omega (arith, c.min.ensures, c.min-count.ensures)) size c.copy_from_slice.ensures.after;
    }

-- the place moves behind what was copied, and the call was counted
pub returns-clause-fed : goal.returns-clause-fed
returns-clause-fed c =
    fed c.self.inside.at c.min-count.result c.self.inside.calls c.saturating_add-self-inside.result
    c.self.inside.piece c.self.inside.faults c.self.inside.bytes c.self.inside.fails c.self.inside.ended
    c.self.inside.failed
    c.saturating_add-self-inside.ensures
    ∙ ap (λ (f : Feed). after_read f c.min-count.result) c.self.view_is
