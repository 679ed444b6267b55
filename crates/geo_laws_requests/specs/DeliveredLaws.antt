-- Where each request that a disk was asked is answered, no bio is Busy (g_bio(9)).
use Rattle.std.specs.Prelude.{ℕ, IsSome}
use Rattle.geo_model.specs.Log.{replay}
use Rattle.geo_model.specs.Results.{device_answer_of, request_of}
use Rattle.geo_model.specs.Laws.{NoneBusy, OfEachLegalLog}

-- where each bio that was taken was delivered, a legal log leads to a mesh without a Busy bio
abbrev pub AllDeliveredNoneBusy : Type 0
AllDeliveredNoneBusy =
    OfEachLegalLog (λ opened log. ((b : ℕ) → IsSome (request_of log b) → IsSome (device_answer_of log b))
    → NoneBusy (replay opened log))
