use Rattle.std.proofs.Common.{◌≡◌, Some, sym, ◌∙◌}
use Rattle.geo_server.specs.Judging.{data_len}
use Rattle.geo_serving.proofs.Turning.{followed}
use Rattle.geo_serving.proofs.serving.follow.Goals as goal

-- the request came with its bytes
pub returns-in-Ok-clause-makes : goal.returns-in-Ok-clause-makes
returns-in-Ok-clause-makes g c = λ mesh sink.
    let count : data_len c.args.request.now ≡ Some c.in-Some.len = sym c.data_len.ensures ∙ c.in-Some.is in
    followed c.args.client.now c.meet_with.new.client mesh c.args.request.now c.in-Ok.bytes c.in-Some.len
    (g.S.Source.view c.args.source.now) (g.S.Source.view c.read_bytes.new.source) sink c.meet_with.result count
    c.in-Ok.ensures.len c.in-Ok.ensures.reads (c.meet_with.ensures.meets mesh)
