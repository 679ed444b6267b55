-- Laws of the world with which a plan begins.
use Rattle.std.specs.Prelude.{ℕ, List}
use Rattle.geo_model.specs.World.{Plan}
use Rattle.geo_model.specs.Plans.{MayBegin, FactsFit}
use Rattle.geo_model.specs.Opening.{opening}
use Rattle.geo_model.specs.Sound.{Sound}
use Rattle.geo_model.specs.Steady.{Steady}
use Rattle.geo_model.specs.Fitting.{Fitting}

-- the world with which a plan begins is sound
abbrev pub OpeningsAreSound : Type 0
OpeningsAreSound = (plan : Plan) (facts : List (ℕ × ℕ)) → MayBegin plan → FactsFit plan facts
    → Sound (opening plan facts)

-- and steady
abbrev pub OpeningsAreSteady : Type 0
OpeningsAreSteady = (plan : Plan) (facts : List (ℕ × ℕ)) → MayBegin plan → FactsFit plan facts
    → Steady (opening plan facts)

-- and fitting
abbrev pub OpeningsAreFitting : Type 0
OpeningsAreFitting =
    (plan : Plan) (facts : List (ℕ × ℕ)) → MayBegin plan → FactsFit plan facts → Fitting (opening plan facts)
