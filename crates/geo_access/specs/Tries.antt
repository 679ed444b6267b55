-- Counts while they are tried: they stop at the greatest number of their type.
use Rattle.std.specs.Prelude.{ℕ, ◌==◌, nat_lt, Bool, not, ◌&&◌, ◌||◌, if◌then◌else◌, List, [], ◌∷◌, Option, Some, None, Contains}
use Rattle.geo_base.specs.declared.request.Counts.{Counts}
use Rattle.geo_base.specs.declared.kind.Kind.{Kind}
use Rattle.geo_base.specs.declared.kind.Kind.TheVariants as kinds
use Rattle.geo_base.specs.Kind.{adds_exclusive}
use Rattle.geo_base.specs.declared.limits.TheConstants.{MAX_ACCESS_COUNT}
use Rattle.geo_model.specs.Demand.{no_counts, add_counts, is_zero}
use Rattle.geo_laws_counts.specs.CountWords.{more_counts}
use Rattle.geo_laws_counts.specs.WalkWords.{cap}
use Rattle.geo_access.specs.declared.counts.Way.{Way}
use Rattle.geo_access.specs.declared.counts.Way.TheVariants.{Rises, Falls}
use Rattle.geo_access.specs.declared.counts.Weight.{Weight}
use Rattle.geo_access.specs.declared.judge.Sign.{Sign}
use Rattle.geo_access.specs.declared.judge.Sign.TheVariants.{Clash, Unclear}

-- whether a count is above what a provider may have
abbrev pub is_too_great : Counts → Bool
is_too_great a = nat_lt MAX_ACCESS_COUNT a.r || (nat_lt MAX_ACCESS_COUNT a.w || nat_lt MAX_ACCESS_COUNT a.e)

-- the counts once they are moved by what is gained or lost
abbrev pub shifted : Way → Counts → Counts → Counts
shifted Rises have gain = cap (add_counts have gain)
shifted Falls have gain = more_counts gain have

-- the counts without the demand that comes or goes
abbrev pub had : Way → Counts → Counts → Counts
had Rises have gain = have
had Falls have gain = more_counts gain have

-- one exclusive count where the test holds
abbrev pub exclusive_where : Bool → Counts
exclusive_where more = record { r = 0; w = 0; e = (if more then 1 else 0) }

-- what a consumer of a class gains, where its geom's providers gain so much
abbrev pub made_of : Kind → Weight → Counts
made_of kinds.Disk weight = no_counts
made_of kinds.Dev weight = no_counts
made_of kinds.Taste weight = no_counts
made_of kind weight =
    cap (add_counts weight.sum (exclusive_where (adds_exclusive kind && (weight.quiet && not (is_zero weight.sum)))))

-- whether others have an exclusive count beside this writer, or write beside this exclusive count, where all together
-- have so much
abbrev pub stands_beside : Counts → Counts → Bool
stands_beside mine all =
    (not (mine.w == 0) && nat_lt mine.e all.e) || (not (mine.e == 0) && nat_lt mine.w all.w)

-- whether the write count or the exclusive count stopped at the greatest number
abbrev pub is_stopped : Counts → Bool
is_stopped a = (a.w == 4294967295) || (a.e == 4294967295)

-- what the counts of a consumer tell beside those of all consumers at its provider
abbrev pub sign_of : Counts → Counts → Option Sign
sign_of mine all = if stands_beside mine all then Some Clash else if is_stopped mine then Some Unclear else None

-- no number comes twice
abbrev pub Apart : List ℕ → Type 0
Apart [] = Unit {0}
Apart (x ∷ xs) = (Contains xs x → ⊥) × Apart xs
