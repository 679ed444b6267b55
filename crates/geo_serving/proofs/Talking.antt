-- What an exchange of the handshake led to.
use Rattle.std.proofs.Common.{◌≡◌, List, MatchResult, Result, Ok, Err}
use Rattle.std.proofs.lemmas.Result.{MatchResult-at_ok, MatchResult-at_err}
use Rattle.geo_connection.specs.declared.stage.Stage.{Stage}
use Rattle.geo_io.specs.Sink.{SinkView}
use Rattle.geo_io.specs.Source.{SourceView}
use Rattle.geo_nbd.specs.declared.export.Export.{Export}
use Rattle.geo_tags.specs.Tags.{TaggedView}
use Rattle.geo_serving.specs.declared.halt.Halt.{Halt}
use Rattle.geo_serving.specs.declared.talk.Talk.{Talk}
use Rattle.geo_serving.specs.Courses.{HaltsAt, Makes}
use Rattle.geo_serving.specs.Points.{hears, talk_point}

-- a step was made, or the session halts there
abbrev pub Exchanged : List Export → Stage → TaggedView → SourceView → SinkView → Result Talk Halt → SourceView
    → SinkView → Type 0
Exchanged exports stage mesh f t result r w =
    MatchResult result
    (λ talk. Makes (hears exports stage mesh) f t (talk_point exports mesh talk) r w)
    (λ halt. HaltsAt (hears exports stage mesh) halt f t r w)

pub talks_on : (exports : List Export) (stage : Stage) (mesh : TaggedView) (f r : SourceView) (t w : SinkView)
    (result : Result Talk Halt) (talk : Talk) → result ≡ Ok talk → Exchanged exports stage mesh f t result r w
    → Makes (hears exports stage mesh) f t (talk_point exports mesh talk) r w
talks_on exports stage mesh f r t w result talk e h =
    MatchResult-at_ok (λ (x : Talk). Makes (hears exports stage mesh) f t (talk_point exports mesh x) r w)
    (λ (halt : Halt). HaltsAt (hears exports stage mesh) halt f t r w) talk e h

pub talk_halts : (exports : List Export) (stage : Stage) (mesh : TaggedView) (f r : SourceView) (t w : SinkView)
    (result : Result Talk Halt) (halt : Halt) → result ≡ Err halt → Exchanged exports stage mesh f t result r w
    → HaltsAt (hears exports stage mesh) halt f t r w
talk_halts exports stage mesh f r t w result halt e h =
    MatchResult-at_err (λ (x : Talk). Makes (hears exports stage mesh) f t (talk_point exports mesh x) r w)
    (λ (y : Halt). HaltsAt (hears exports stage mesh) y f t r w) halt e h
