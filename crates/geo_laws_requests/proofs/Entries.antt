-- What holds of each moment holds at each entry.
use Rattle.std.specs.Prelude.{List, [], ◌∷◌, ◌++◌, All}
use Rattle.std.specs.List.{AllByRecursion}
use Rattle.std.proofs.Common.{subst}
use Rattle.std.proofs.lemmas.List.Elements.{recursion_from_All}
use Rattle.geo_model.specs.declared.step.Entry.{Entry}
use Rattle.geo_model.specs.World.{World}
use Rattle.geo_model.specs.Log.{moments, after_entry, replay}
use Rattle.geo_model.specs.History.{AtEachEntry}

-- at the entry that an earlier log leads to
at_entry : (P : World → Entry → Type 0) (w : World) (earlier : List Entry) (e : Entry) (later : List Entry)
    → AllByRecursion (λ m. P m.before m.entry) (moments w (earlier ++ e ∷ later)) → P (replay w earlier) e
at_entry P w [] e later all = all.0
at_entry P w (x ∷ earlier) e later all = at_entry P (after_entry w x) earlier e later all.1

-- at each entry
pub entries_are_moments : (opened : World) (log : List Entry) (P : World → Entry → Type 0)
    → All (λ m. P m.before m.entry) (moments opened log) → AtEachEntry opened log P
entries_are_moments opened log P all earlier e split =
    at_entry P opened earlier e split.0
    (recursion_from_All (λ m. P m.before m.entry) (moments opened (earlier ++ e ∷ split.0))
    (subst (λ l. All (λ m. P m.before m.entry) (moments opened l)) split.1 all))
