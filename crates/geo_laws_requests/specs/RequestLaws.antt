-- In each legal log requests complete once, are taken once, and at rest all are complete (g_bio(9)).
use Rattle.std.specs.Prelude.{ℕ, ◌≤◌, count_by}
use Rattle.geo_model.specs.Results.{is_take_of}
use Rattle.geo_model.specs.History.{RequestsCompleteOnce}
use Rattle.geo_model.specs.Laws.{LegalLogsKeepAll, OfEachLegalLog, RestIsComplete}

-- each bio is taken by a disk at most once
abbrev pub BiosAreTakenOnce : Type 0
BiosAreTakenOnce = OfEachLegalLog (λ opened log. (b : ℕ) → count_by (λ e. is_take_of b e.step) log ≤ 1)

-- what each legal log keeps of requests
pub record LegalLogsCompleteRequests : Type 0 where
  pub once : OfEachLegalLog RequestsCompleteOnce
  pub rest : RestIsComplete
  pub taken : BiosAreTakenOnce
  pub all : LegalLogsKeepAll
