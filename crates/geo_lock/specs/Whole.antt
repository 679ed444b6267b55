-- The whole log, by the numbers of the passes.
use Rattle.std.specs.Prelude.{◌≡◌, ℕ, List, All, Any, Contains}
use Rattle.geo_lock.specs.Pass.{PassView, IsGoodIn}

-- where each pass is good in a log and each entry has the number of a pass, each entry is an own entry of the pass
-- whose number is its seat
abbrev pub EachIsOwn : (B E : Type 0) → (E → ℕ) → Type 0
EachIsOwn B E seat_of =
    (ps : List (PassView B E)) (log : List E)
    → All (λ p. IsGoodIn seat_of p log) ps → All (λ e. Any (λ p. p.number ≡ seat_of e) ps) log
    → All (λ e. Any (λ p. (p.number ≡ seat_of e) × Contains p.own e) ps) log
