-- The step that names a bio at last is the one that the history tells: its Start, its Take, its Deliver.
use Rattle.std.specs.Prelude.{◌≡◌, ℕ, suc, Bool, true, false, List, [], ◌∷◌, ◌++◌, length, map, find, Some, None, option_and_then}
use Rattle.std.specs.List.{AllByRecursion}
use Rattle.std.proofs.Common.{refl, sym, ◌∙◌, ap}
use Rattle.std.proofs.Math.Numerals.{suc-eq-add-one}
use Rattle.std.proofs.lemmas.List.{length-append}
use Rattle.std.proofs.lemmas.List.Elements.{recursion_from_All}
use Rattle.geo_model.specs.declared.step.Entry.{Entry}
use Rattle.geo_model.specs.declared.step.Step.{Step}
use Rattle.geo_model.specs.Log.{Moment}
use Rattle.geo_model.specs.Results.{start_moment, request_of, request_in, device_answer_of, device_answer_in, entries_of, is_start_of, is_take_of, is_deliver_of, result_of, result_within, result_by, children_in, leaves, leaves_within, leaves_by}
use Rattle.geo_laws_graph.proofs.Numbered.{find-pushed_hit}
use Rattle.geo_laws_requests.specs.Histories.{Never}
use Rattle.geo_laws_requests.proofs.Looks.{entries_of_both}

-- nothing is found where nothing passes
pub never_found : (test : Step → Bool) (h : List Moment) → Never test h
    → find (λ (m : Moment). test m.entry.step) h ≡ None
never_found test h never = by h (recursion_from_All (λ m. test m.entry.step ≡ false) h never)
  where
    by : (xs : List Moment) → AllByRecursion (λ (m : Moment). test m.entry.step ≡ false) xs
        → find (λ (m : Moment). test m.entry.step) xs ≡ None
    by [] all = refl
    by (m ∷ xs) all = rw all.0 (by xs all.1)

-- so among the entries
pub never_entered : (test : Step → Bool) (h : List Moment) → Never test h
    → find (λ (e : Entry). test e.step) (entries_of h) ≡ None
never_entered test h never = by h (recursion_from_All (λ m. test m.entry.step ≡ false) h never)
  where
    by : (xs : List Moment) → AllByRecursion (λ (m : Moment). test m.entry.step ≡ false) xs
        → find (λ (e : Entry). test e.step) (entries_of xs) ≡ None
    by [] all = refl
    by (m ∷ xs) all = rw all.0 (by xs all.1)

-- the Start that is made is found
pub started_now : (h : List Moment) (m : Moment) (b : ℕ) → Never (is_start_of b) h → is_start_of b m.entry.step ≡ true
    → start_moment (h ++ m ∷ []) b ≡ Some m
started_now h m b never it = find-pushed_hit (λ (x : Moment). is_start_of b x.entry.step) h m (never_found _ h never) it

-- the Take that is made is found, and what it asked
pub asked_now : (h : List Moment) (m : Moment) (b : ℕ) → Never (is_take_of b) h → is_take_of b m.entry.step ≡ true
    → request_of (entries_of (h ++ m ∷ [])) b ≡ request_in m.entry.outcome
asked_now h m b never it =
    ap (λ log. request_of log b) (entries_of_both h (m ∷ []))
    ∙ ap (λ o. option_and_then (λ (e : Entry). request_in e.outcome) o)
    (find-pushed_hit (λ (e : Entry). is_take_of b e.step) (entries_of h) m.entry (never_entered _ h never) it)

-- the Deliver that is made is found, and what the device answered
pub answered_now : (h : List Moment) (m : Moment) (b : ℕ) → Never (is_deliver_of b) h
    → is_deliver_of b m.entry.step ≡ true
    → device_answer_of (entries_of (h ++ m ∷ [])) b ≡ device_answer_in m.entry.step
answered_now h m b never it =
    ap (λ log. device_answer_of log b) (entries_of_both h (m ∷ []))
    ∙ ap (λ o. option_and_then (λ (e : Entry). device_answer_in e.step) o)
    (find-pushed_hit (λ (e : Entry). is_deliver_of b e.step) (entries_of h) m.entry (never_entered _ h never) it)

-- a history with one more moment has one more level
pub one_longer : (h : List Moment) (m : Moment) → length (h ++ m ∷ []) ≡ suc (length h)
one_longer h m = length-append h (m ∷ []) ∙ sym (suc-eq-add-one (length h))

-- the result of a bio by its Start, in a history with one more moment
pub result_at : (h : List Moment) (m : Moment) (b : ℕ) (s : Moment) → start_moment (h ++ m ∷ []) b ≡ Some s
    → result_of (h ++ m ∷ []) b
    ≡ result_by (h ++ m ∷ []) b s.before s.entry.outcome
    (map (result_within (length h) (h ++ m ∷ [])) (children_in s.entry.outcome))
result_at h m b s found = ap (λ n. result_within n (h ++ m ∷ []) b) (one_longer h m) ∙ (rw found refl)

-- the leaves of a bio by its Start, in a history with one more moment
pub leaves_at : (h : List Moment) (m : Moment) (b : ℕ) (s : Moment) → start_moment (h ++ m ∷ []) b ≡ Some s
    → leaves (h ++ m ∷ []) b
    ≡ leaves_by (leaves_within (length h) (h ++ m ∷ [])) (entries_of (h ++ m ∷ [])) b s.entry.outcome
leaves_at h m b s found = ap (λ n. leaves_within n (h ++ m ∷ []) b) (one_longer h m) ∙ (rw found refl)
