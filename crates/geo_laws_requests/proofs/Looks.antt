-- Look-ups in a history that goes on.
use Rattle.std.specs.Prelude.{◌≡◌, ℕ, Bool, List, ◌++◌, find, Option, Some, None, option_and_then}
use Rattle.std.proofs.Common.{refl, ◌∙◌, ap}
use Rattle.std.proofs.lemmas.List.{map-append}
use Rattle.geo_base.proofs.FindLists.{found-before}
use Rattle.geo_model.specs.declared.step.DeviceResult.{DeviceResult}
use Rattle.geo_model.specs.declared.step.Request.{Request}
use Rattle.geo_model.specs.Log.{Moment}
use Rattle.geo_model.specs.Results.{start_moment, request_of, request_in, device_answer_of, device_answer_in, entries_of, is_start_of, is_take_of, is_deliver_of}

-- an entry for each moment
pub entries_of_both : (h k : List Moment) → entries_of (h ++ k) ≡ entries_of h ++ entries_of k
entries_of_both h k = map-append (λ m. m.entry) h k

-- what a look-up with a part gives, where it gives anything, is given in a longer list too
part_in_front : {X Y : Type 0} (test : X → Bool) (part : X → Option Y) (xs ys : List X) (y : Y) (o : Option X)
    → find test xs ≡ o → option_and_then part o ≡ Some y
    → option_and_then part (find test (xs ++ ys)) ≡ Some y
part_in_front test part xs ys y None found given = absurd (let bad : ⊥ = cc in bad)
part_in_front test part xs ys y (Some x) found given =
    ap (λ o. option_and_then part o) (found-before test xs ys x found) ∙ given

-- the Start of a bio stays the one that was found
pub start_stays : (h k : List Moment) (b : ℕ) (m : Moment) → start_moment h b ≡ Some m
    → start_moment (h ++ k) b ≡ Some m
start_stays h k b m found = found-before (λ x. is_start_of b x.entry.step) h k m found

-- so does the request of its Take
pub request_stays : (h k : List Moment) (b : ℕ) (q : Request)
    → request_of (entries_of h) b ≡ Some q → request_of (entries_of (h ++ k)) b ≡ Some q
request_stays h k b q found =
    ap (λ log. request_of log b) (entries_of_both h k)
    ∙ part_in_front (λ e. is_take_of b e.step) (λ e. request_in e.outcome) (entries_of h) (entries_of k) q
    (find (λ e. is_take_of b e.step) (entries_of h)) refl found

-- and the answer of its Deliver
pub answer_stays : (h k : List Moment) (b : ℕ) (got : DeviceResult)
    → device_answer_of (entries_of h) b ≡ Some got → device_answer_of (entries_of (h ++ k)) b ≡ Some got
answer_stays h k b got found =
    ap (λ log. device_answer_of log b) (entries_of_both h k)
    ∙ part_in_front (λ e. is_deliver_of b e.step) (λ e. device_answer_in e.step) (entries_of h) (entries_of k) got
    (find (λ e. is_deliver_of b e.step) (entries_of h)) refl found
