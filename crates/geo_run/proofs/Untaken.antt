-- What holds where nothing is taken: a shelf on which nothing happened.
use Rattle.std.proofs.Common.{◌≡◌, [], None, sym, Contains, rules}
use Rattle.std.proofs.lemmas.List.{append-nil}
use Rattle.geo_model.specs.World.{Plan}
use Rattle.geo_headline.specs.Outside.{ShelfView, kept_back, ImagesStay, ImagesStand, OthersStay}
use Rattle.geo_headline.specs.Endings.{Ending, failed_takes}
use Rattle.geo_headline.specs.Headline.{CallsAreTold, LentAfter}
use Rattle.geo_run.proofs.Told.{OfName, same, weaker}
use Rattle.geo_run.proofs.Fates.{kept_back_is}

-- a shelf on which nothing happened
pub nothing_back : (a : ShelfView) → kept_back a a ≡ []
nothing_back a = kept_back_is a a [] (sym (append-nil a.lent)) tt

pub lent_still : (ending : Ending) (a : ShelfView) → failed_takes ending ≡ 0 → LentAfter ending a a
lent_still ending a none = search (rules, nothing_back a)

pub told_still : (ending : Ending) (a : ShelfView) → failed_takes ending ≡ 0 → CallsAreTold ending a a
told_still ending a none = search (rules, nothing_back a)

pub others_still : (plan : Plan) (a : ShelfView) → OthersStay plan a a
others_still plan a = search (rules, nothing_back a)

pub images_stay_same : (a : ShelfView) → ImagesStay a a
images_stay_same a name = told.is
  where
    told : OfName a.told a.told name
        (λ had has. ((Contains (kept_back a a) name → ⊥) → has ≡ had) × (Contains (kept_back a a) name → has ≡ None))
    told = weaker a.told a.told name
        (search (rules, nothing_back a))
        (same a.told name)

pub images_stand_same : (a : ShelfView) → ImagesStand a a
images_stand_same a name not_back = search rules
