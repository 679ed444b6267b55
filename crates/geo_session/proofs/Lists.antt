-- Lists of commands that are left, with one more.
use Rattle.std.specs.Prelude.{◌≡◌, ℕ, zero, suc, ◌+◌, ◌==◌, List, [], ◌∷◌, map, length, Some, slice_get, slice_set}
use Rattle.std.specs.List.{enumerate_from, range_with_len}
use Rattle.std.proofs.Common.{refl, ap, ◌∙◌, arith}
use Rattle.std.proofs.lemmas.List.Elements.{filter-append}
use Rattle.geo_model.specs.declared.command.LineCommand.{LineCommand}
use Rattle.geo_model.specs.World.{Plan, commands_of}
use Rattle.geo_session.specs.Growth.{plan_with, more_for, more_left}

-- the same from a number on
abbrev pub more_from : LineCommand → ℕ → List (List LineCommand) → List (List LineCommand)
more_from c n lists = map (more_for c) (enumerate_from n lists)

-- what an actor has in the longer plan
of_actor : (plan : Plan) (c : LineCommand) (a : ℕ)
    → commands_of (plan_with plan c) a ≡ more_for c (a, commands_of plan a)
of_actor plan c a = filter-append (λ x. x.actor == a) plan.commands (c ∷ [])

-- what all have
from_plan : (plan : Plan) (c : LineCommand) (a n : ℕ)
    → map (commands_of (plan_with plan c)) (range_with_len a n) ≡ more_from c a
    (map (commands_of plan) (range_with_len a n))
from_plan plan c a zero = refl
from_plan plan c a (suc n) =
    ap (λ x. x ∷ map (commands_of (plan_with plan c)) (range_with_len (a + 1) n)) (of_actor plan c a)
    ∙ ap (λ rest. more_for c (a, commands_of plan a) ∷ rest) (from_plan plan c (a + 1) n)

pub left_in_plan : (plan : Plan) (c : LineCommand)
    → map (commands_of (plan_with plan c)) (range_with_len 0 (length plan.actors))
    ≡ more_left c (map (commands_of plan) (range_with_len 0 (length plan.actors)))
left_in_plan plan c = from_plan plan c 0 (length plan.actors)

-- the list of an actor, with what it has more
get_from : (c : LineCommand) (n : ℕ) (lists : List (List LineCommand)) (a : ℕ) (list : List LineCommand) (m : ℕ)
    → m ≡ n + a → slice_get lists a ≡ Some list → slice_get (more_from c n lists) a ≡ Some (more_for c (m, list))
get_from c n [] a list m at is = absurd (let no : ⊥ = cc in no)
get_from c n (l ∷ lists) zero list m at is =
    let same : l ≡ list = cc in
    let here : n ≡ m = omega (arith, at) in
    ap (λ x. Some (more_for c (n, x))) same ∙ ap (λ k. Some (more_for c (k, list))) here
get_from c n (l ∷ lists) (suc a) list m at is = get_from c (n + 1) lists a list m (omega (arith, at)) is

pub get_more : (c : LineCommand) (lists : List (List LineCommand)) (a : ℕ) (list : List LineCommand)
    → slice_get lists a ≡ Some list → slice_get (more_left c lists) a ≡ Some (more_for c (a, list))
get_more c lists a list is = get_from c 0 lists a list a (omega arith) is

-- and where it is another list
set_from : (c : LineCommand) (n : ℕ) (lists : List (List LineCommand)) (a : ℕ) (list : List LineCommand) (m : ℕ)
    → m ≡ n + a → slice_set (more_from c n lists) a (more_for c (m, list)) ≡ more_from c n (slice_set lists a list)
set_from c n [] a list m at = refl
set_from c n (l ∷ lists) zero list m at =
    let here : m ≡ n = omega (arith, at) in
    ap (λ k. more_for c (k, list) ∷ more_from c (n + 1) lists) here
set_from c n (l ∷ lists) (suc a) list m at =
    ap (λ rest. more_for c (n, l) ∷ rest) (set_from c (n + 1) lists a list m (omega (arith, at)))

pub set_more : (c : LineCommand) (lists : List (List LineCommand)) (a : ℕ) (list : List LineCommand)
    → slice_set (more_left c lists) a (more_for c (a, list)) ≡ more_left c (slice_set lists a list)
set_more c lists a list = set_from c 0 lists a list a (omega arith)
