-- The result and the leaves of a finished bio stay, whatever is done later.
use Rattle.std.specs.Prelude.{◌≡◌, ℕ, zero, suc, ◌+◌, List, [], ◌∷◌, ◌++◌, length, map, flat_map, Option, Some, None, IsSome, option_map}
use Rattle.std.specs.List.{range_with_len}
use Rattle.std.specs.Option.{option_to_list}
use Rattle.std.proofs.Common.{refl, sym, ◌∙◌, ap}
use Rattle.std.proofs.Math.Nat.{suc-add}
use Rattle.std.proofs.lemmas.List.{length-append}
use Rattle.geo_base.specs.declared.request.BioCmd.{BioCmd}
use Rattle.geo_model.specs.declared.step.BioResult.{BioResult}
use Rattle.geo_model.specs.declared.step.DeviceResult.{DeviceResult}
use Rattle.geo_model.specs.declared.step.Outcome.{Outcome}
use Rattle.geo_model.specs.declared.step.Outcome.TheVariants as outcomes
use Rattle.geo_model.specs.declared.step.Request.{Request}
use Rattle.geo_model.specs.Words.{◌>>=◌}
use Rattle.geo_model.specs.World.{World}
use Rattle.geo_model.specs.Bios.{joined_result, result_of_device}
use Rattle.geo_model.specs.Log.{Moment}
use Rattle.geo_model.specs.Results.{Leaf, start_moment, request_of, device_answer_of, entries_of, queued_leaf, leaves_by, leaves_within, all_there, cmd_before, children_in, result_by, result_within}
use Rattle.geo_laws_requests.specs.Histories.{AnsweredAreTaken, ResultsStay, LeavesStay, HistoriesKeep}
use Rattle.geo_laws_requests.proofs.Looks.{start_stays, request_stays, answer_stays}

-- what is found of each by one way is found by another
abbrev Finds : (ℕ → Option BioResult) → (ℕ → Option BioResult) → Type 0
Finds f g = (b : ℕ) (r : BioResult) → f b ≡ Some r → g b ≡ Some r

-- results that are all there are those of their parts
pub record AreThere (o : Option BioResult) (os : List (Option BioResult)) (found : List BioResult) : Type 0 where
  pub first : BioResult
  pub others : List BioResult
  pub is_first : o ≡ Some first
  pub are_others : all_there os ≡ Some others
  pub are : found ≡ first ∷ others

-- results that are all there begin with a result that is there
pub there_in_parts : (o : Option BioResult) (os : List (Option BioResult)) (found : List BioResult)
    → all_there (o ∷ os) ≡ Some found → AreThere o os found
there_in_parts o os found all = by o (all_there os) refl refl all
  where
    by : (x : Option BioResult) (y : Option (List BioResult)) → o ≡ x → all_there os ≡ y
        → (x >>= (λ first. y >>= (λ others. Some (first ∷ others)))) ≡ Some found → AreThere o os found
    by None y here rest e = absurd (let bad : ⊥ = cc in bad)
    by (Some x) None here rest e = absurd (let bad : ⊥ = cc in bad)
    by (Some x) (Some xs) here rest e = record {
      first = x;
      others = xs;
      is_first = here;
      are_others = rest;
      are = let same : x ∷ xs ≡ found = cc in sym same;
    }

-- results whose parts are there are all there
all_of : (o : Option BioResult) (os : List (Option BioResult)) (x : BioResult) (xs : List BioResult)
    → o ≡ Some x → all_there os ≡ Some xs → all_there (o ∷ os) ≡ Some (x ∷ xs)
all_of o os x xs is are = rw (is, are) refl

-- results that one way finds of all, another finds of all
pub all_found : (f g : ℕ → Option BioResult) → Finds f g → (bs : List ℕ) (found : List BioResult)
    → all_there (map f bs) ≡ Some found → all_there (map g bs) ≡ Some found
all_found f g finds [] found all = all
all_found f g finds (b ∷ bs) found all =
    let parts : AreThere (f b) (map f bs) found = there_in_parts (f b) (map f bs) found all in
    all_of (g b) (map g bs) parts.first parts.others (finds b parts.first parts.is_first)
    (all_found f g finds bs parts.others parts.are_others) ∙ ap (λ xs. Some xs) (sym parts.are)

-- a device's answer that was found gives the same result later
answered : (h k : List Moment) (b : ℕ) (r : BioResult) (o : Option DeviceResult) → device_answer_of (entries_of h) b ≡ o
    → option_map result_of_device o ≡ Some r
    → option_map result_of_device (device_answer_of (entries_of (h ++ k)) b) ≡ Some r
answered h k b r None is e = absurd (let bad : ⊥ = cc in bad)
answered h k b r (Some got) is e = ap (λ o. option_map result_of_device o) (answer_stays h k b got is) ∙ e

-- results of children that were found give the same result later
joined : (f g : ℕ → Option BioResult) → Finds f g → (bs : List ℕ) (cmd : Option BioCmd) (r : BioResult)
    → (o : Option (List BioResult)) → all_there (map f bs) ≡ o
    → (cmd >>= (λ c. o >>= (λ found. Some (joined_result c found)))) ≡ Some r
    → (cmd >>= (λ c. all_there (map g bs) >>= (λ found. Some (joined_result c found)))) ≡ Some r
joined f g finds bs None r o is e = absurd (let bad : ⊥ = cc in bad)
joined f g finds bs (Some cmd) r None is e = absurd (let bad : ⊥ = cc in bad)
joined f g finds bs (Some cmd) r (Some found) is e = rw (all_found f g finds bs found is) e

-- by the outcome of the Start
by_outcome : (h k : List Moment) (f g : ℕ → Option BioResult) → Finds f g
    → (b : ℕ) (before : World) (o : Outcome) (r : BioResult)
    → result_by h b before o (map f (children_in o)) ≡ Some r
    → result_by (h ++ k) b before o (map g (children_in o)) ≡ Some r
by_outcome h k f g finds b before outcomes.Bounced r e = e
by_outcome h k f g finds b before (outcomes.Queued disk) r e =
    answered h k b r (device_answer_of (entries_of h) b) refl e
by_outcome h k f g finds b before (outcomes.Split first count) r e =
    joined f g finds (range_with_len first count) (cmd_before before b) r
    (all_there (map f (range_with_len first count))) refl e
by_outcome h k f g finds b before (outcomes.Replied line reply) r e = absurd (let bad : ⊥ = cc in bad)
by_outcome h k f g finds b before (outcomes.Accepted line bio) r e = absurd (let bad : ⊥ = cc in bad)
by_outcome h k f g finds b before (outcomes.Reading bio) r e = absurd (let bad : ⊥ = cc in bad)
by_outcome h k f g finds b before outcomes.Ran r e = absurd (let bad : ⊥ = cc in bad)
by_outcome h k f g finds b before (outcomes.Asked request) r e = absurd (let bad : ⊥ = cc in bad)
by_outcome h k f g finds b before outcomes.Delivered r e = absurd (let bad : ⊥ = cc in bad)
by_outcome h k f g finds b before (outcomes.Gathered parent complete) r e = absurd (let bad : ⊥ = cc in bad)
by_outcome h k f g finds b before outcomes.TasteBack r e = absurd (let bad : ⊥ = cc in bad)

-- a result that so many levels find, more levels find in a history that goes on
pub within_stays : (n d : ℕ) (h k : List Moment) → Finds (result_within n h) (result_within (n + d) (h ++ k))
within_stays zero d h k b r e = absurd (let bad : ⊥ = cc in bad)
within_stays (suc n) d h k b r e =
    ap (λ l. result_within l (h ++ k) b) (suc-add n d) ∙ by (within_stays n d h k) (start_moment h b) refl e
  where
    by : Finds (result_within n h) (result_within (n + d) (h ++ k)) → (o : Option Moment) → start_moment h b ≡ o
        → (o >>= (λ m. result_by h b m.before m.entry.outcome (map (result_within n h) (children_in m.entry.outcome))))
        ≡ Some r
        → result_within (suc (n + d)) (h ++ k) b ≡ Some r
    by stays None is e = absurd (let bad : ⊥ = cc in bad)
    by stays (Some m) is e =
        rw (start_stays h k b m is)
        (by_outcome h k (result_within n h) (result_within (n + d) (h ++ k)) stays b m.before m.entry.outcome r e)

-- a result stays
results_stay : ResultsStay
results_stay history later b r e =
    ap (λ n. result_within n (history ++ later) b) (length-append history later)
    ∙ within_stays (length history) (length later) history later b r e

-- Leaves

-- the leaf of a queued bio that was answered stays
queued_stays : (h k : List Moment) (b : ℕ) → AnsweredAreTaken h
    → (got : Option DeviceResult) → device_answer_of (entries_of h) b ≡ got
    → (asked : Option Request) → request_of (entries_of h) b ≡ asked
    → IsSome got
    → queued_leaf (entries_of (h ++ k)) b ≡ queued_leaf (entries_of h) b
queued_stays h k b taken None is asked of some = absurd (let wrong : ⊥ = cc in wrong)
queued_stays h k b taken (Some got) is None of some =
    absurd (let bad : IsSome (request_of (entries_of h) b) = taken b (rw is refl) in
    let none : IsSome {T = Request} None = rw of at bad in let wrong : ⊥ = cc in wrong)
queued_stays h k b taken (Some got) is (Some q) of some =
    rw (is, of, answer_stays h k b got is, request_stays h k b q of) refl

-- leaves of each of some bios are joined alike
joined_leaves : (f : ℕ → Option BioResult) (l m : ℕ → List Leaf)
    → ((b : ℕ) (r : BioResult) → f b ≡ Some r → l b ≡ m b)
    → (bs : List ℕ) (found : List BioResult) → all_there (map f bs) ≡ Some found → flat_map l bs ≡ flat_map m bs
joined_leaves f l m same [] found all = refl
joined_leaves f l m same (b ∷ bs) found all =
    let parts = there_in_parts (f b) (map f bs) found all in
    rw (same b parts.first parts.is_first, joined_leaves f l m same bs parts.others parts.are_others) refl

-- by the outcome of the Start
leaves_by_outcome : (h k : List Moment) (f : ℕ → Option BioResult) (l m : ℕ → List Leaf)
    → ((b : ℕ) (r : BioResult) → f b ≡ Some r → l b ≡ m b) → AnsweredAreTaken h
    → (b : ℕ) (before : World) (o : Outcome) (r : BioResult)
    → result_by h b before o (map f (children_in o)) ≡ Some r
    → leaves_by l (entries_of (h ++ k)) b o ≡ leaves_by m (entries_of h) b o
leaves_by_outcome h k f l m same taken b before outcomes.Bounced r e = refl
leaves_by_outcome h k f l m same taken b before (outcomes.Queued disk) r e =
    ap (λ o. option_to_list o) (by (device_answer_of (entries_of h) b) refl e)
  where
    by : (o : Option DeviceResult) → device_answer_of (entries_of h) b ≡ o → option_map result_of_device o ≡ Some r
        → queued_leaf (entries_of (h ++ k)) b ≡ queued_leaf (entries_of h) b
    by None is e = absurd (let bad : ⊥ = cc in bad)
    by (Some got) is e = queued_stays h k b taken (Some got) is (request_of (entries_of h) b) refl refl
leaves_by_outcome h k f l m same taken b before (outcomes.Split first count) r e =
    by (cmd_before before b) (all_there (map f (range_with_len first count))) refl e
  where
    by : (c : Option BioCmd) (o : Option (List BioResult)) → all_there (map f (range_with_len first count)) ≡ o
        → (c >>= (λ cmd. o >>= (λ found. Some (joined_result cmd found)))) ≡ Some r
        → flat_map l (range_with_len first count) ≡ flat_map m (range_with_len first count)
    by None o is e = absurd (let bad : ⊥ = cc in bad)
    by (Some cmd) None is e = absurd (let bad : ⊥ = cc in bad)
    by (Some cmd) (Some found) is e = joined_leaves f l m same (range_with_len first count) found is
leaves_by_outcome h k f l m same taken b before (outcomes.Replied line reply) r e = refl
leaves_by_outcome h k f l m same taken b before (outcomes.Accepted line bio) r e = refl
leaves_by_outcome h k f l m same taken b before (outcomes.Reading bio) r e = refl
leaves_by_outcome h k f l m same taken b before outcomes.Ran r e = refl
leaves_by_outcome h k f l m same taken b before (outcomes.Asked request) r e = refl
leaves_by_outcome h k f l m same taken b before outcomes.Delivered r e = refl
leaves_by_outcome h k f l m same taken b before (outcomes.Gathered parent complete) r e = refl
leaves_by_outcome h k f l m same taken b before outcomes.TasteBack r e = refl

-- the leaves of a bio with a result over so many levels stay, over more levels too
pub leaves_within_stay : (n d : ℕ) (h k : List Moment) → AnsweredAreTaken h
    → (b : ℕ) (r : BioResult) → result_within n h b ≡ Some r
    → leaves_within (n + d) (h ++ k) b ≡ leaves_within n h b
leaves_within_stay zero d h k taken b r e = absurd (let bad : ⊥ = cc in bad)
leaves_within_stay (suc n) d h k taken b r e =
    ap (λ l. leaves_within l (h ++ k) b) (suc-add n d) ∙ by (leaves_within_stay n d h k taken) (start_moment h b) refl e
  where
    by : ((x : ℕ) (got : BioResult) → result_within n h x ≡ Some got
        → leaves_within (n + d) (h ++ k) x ≡ leaves_within n h x) → (o : Option Moment) → start_moment h b ≡ o
        → (o >>= (λ m. result_by h b m.before m.entry.outcome (map (result_within n h) (children_in m.entry.outcome))))
        ≡ Some r
        → leaves_within (suc (n + d)) (h ++ k) b ≡ leaves_within (suc n) h b
    by stay None is e = absurd (let bad : ⊥ = cc in bad)
    by stay (Some m) is e =
        rw (start_stays h k b m is, is)
        (leaves_by_outcome h k (result_within n h) (leaves_within (n + d) (h ++ k)) (leaves_within n h) stay taken b
        m.before m.entry.outcome r e)

-- the leaves of a finished bio stay
leaves_stay : LeavesStay
leaves_stay history later b r taken e =
    ap (λ n. leaves_within n (history ++ later) b) (length-append history later)
    ∙ leaves_within_stay (length history) (length later) history later taken b r e

-- both stay
pub finished_stay : HistoriesKeep
finished_stay = record { results = results_stay; leaves = leaves_stay }
