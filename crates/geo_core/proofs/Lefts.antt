-- The commands that are left, by their places.
use Rattle.std.specs.Prelude.{◌≡◌, ℕ, zero, suc, ◌+◌, ◌==◌, ◌≤◌, true, false, List, [], ◌∷◌, ◌++◌, length, map, Option, Some, None, Ok, Err, IsOk, IfSome, slice_get, slice_set}
use Rattle.std.specs.List.{enumerate_from, range_with_len, list_all}
use Rattle.std.specs.Option.{option_map}
use Rattle.std.proofs.Common.{refl, sym, ◌∙◌, ap, subst, arith, add-one, add-zero, zero-add}
use Rattle.std.proofs.lemmas.Bool.{eq-eqb, ne_eqb}
use Rattle.std.proofs.lemmas.List.{length_push, map_push}
use Rattle.std.proofs.lemmas.Option.{slice_get_within}
use Rattle.geo_model.specs.declared.command.LineCommand.{LineCommand}
use Rattle.geo_model.specs.declared.step.Found.TheVariants.{NoSuchActor, NoCommand}
use Rattle.geo_model.specs.World.{Plan}
use Rattle.geo_core.specs.Left.{commands_from, left_at, left_of, IsNext, AreNext, next_command_of, rest_of}

-- those of an actor, by its place, where the actors are counted from a number on
abbrev from : List LineCommand → ℕ → List ℕ → List (List LineCommand)
from commands k places = map (left_at commands) (enumerate_from k places)

get-from : (commands : List LineCommand) (k : ℕ) (places : List ℕ) (i j : ℕ) → j ≡ k + i
    → slice_get (from commands k places) i ≡ option_map (commands_from commands j) (slice_get places i)
get-from commands k [] i j e = refl
get-from commands k (p ∷ places) zero j e =
    let same : k ≡ j = omega (arith, e) in ap (λ (n : ℕ). Some (commands_from commands n p)) same
get-from commands k (p ∷ places) (suc i) j e = get-from commands (k + 1) places i j (omega (arith, e))

set-from : (commands : List LineCommand) (k : ℕ) (places : List ℕ) (i j p : ℕ) → j ≡ k + i
    → from commands k (slice_set places i p) ≡ slice_set (from commands k places) i (commands_from commands j p)
set-from commands k [] i j p e = refl
set-from commands k (q ∷ places) zero j p e =
    let same : k ≡ j = omega (arith, e) in
    ap (λ (n : ℕ). commands_from commands n p ∷ from commands (k + 1) places) same
set-from commands k (q ∷ places) (suc i) j p e =
    ap (λ (rest : List (List LineCommand)). commands_from commands k q ∷ rest)
    (set-from commands (k + 1) places i j p (omega (arith, e)))

push-from : (commands : List LineCommand) (k : ℕ) (places : List ℕ) (p j : ℕ) → j ≡ k + length places
    → from commands k (places ++ p ∷ []) ≡ from commands k places ++ commands_from commands j p ∷ []
push-from commands k [] p j e =
    let same : k ≡ j = omega (arith, e) in ap (λ (n : ℕ). commands_from commands n p ∷ []) same
push-from commands k (q ∷ places) p j e =
    ap (λ (rest : List (List LineCommand)). commands_from commands k q ∷ rest)
    (push-from commands (k + 1) places p j (omega (arith, e)))

-- one number more
range-more : (a n j : ℕ) → j ≡ a + n → range_with_len a (suc n) ≡ range_with_len a n ++ j ∷ []
range-more a zero j e = let same : a ≡ j = omega (arith, e) in ap (λ (m : ℕ). m ∷ []) same
range-more a (suc n) j e = ap (λ (rest : List ℕ). a ∷ rest) (range-more (a + 1) n j (omega (arith, e)))

-- the commands from a place on

-- a command of the actor is the first from its place on
here : (commands : List LineCommand) (actor place : ℕ) (c : LineCommand) → slice_get commands place ≡ Some c
    → (c.actor == actor) ≡ true → commands_from commands actor place ≡ c ∷ commands_from commands actor (suc place)
here [] actor place c at own = absurd (let no : ⊥ = cc in no)
here (x ∷ xs) actor zero c at own = let same : x ≡ c = cc in rw (same, own) refl
here (x ∷ xs) actor (suc place) c at own = here xs actor place c at own

-- behind all there is none
nothing : (commands : List LineCommand) (actor place : ℕ) → slice_get commands place ≡ None
    → commands_from commands actor place ≡ []
nothing [] actor zero at = refl
nothing [] actor (suc place) at = refl
nothing (x ∷ xs) actor zero at = absurd (let no : ⊥ = cc in no)
nothing (x ∷ xs) actor (suc place) at = nothing xs actor place at

-- what an actor has left, and what comes after its next command

module _ (plan : Plan) (places : List ℕ) (next : AreNext plan places) (actor : ℕ) where
  abbrev left : Option (List LineCommand)
  left = slice_get (left_of plan.commands places) actor

  at_place : (place : ℕ) → slice_get places actor ≡ Some place
      → left ≡ Some (commands_from plan.commands actor place)
  at_place place at =
      get-from plan.commands 0 places actor actor (omega arith)
      ∙ ap (option_map (commands_from plan.commands actor)) at

  pub no_actor : slice_get places actor ≡ None → next_command_of left ≡ Err NoSuchActor
  no_actor at =
      ap next_command_of (get-from plan.commands 0 places actor actor (omega arith)
      ∙ ap (option_map (commands_from plan.commands actor)) at)

  pub no_command : (place : ℕ) → slice_get places actor ≡ Some place → slice_get plan.commands place ≡ None
      → next_command_of left ≡ Err NoCommand
  no_command place at end =
      ap next_command_of (at_place place at ∙ ap Some (nothing plan.commands actor place end))

  own : (place : ℕ) (c : LineCommand) → slice_get places actor ≡ Some place
      → slice_get plan.commands place ≡ Some c → (c.actor == actor) ≡ true
  own place c at has =
      let is : IsNext plan.commands actor place = rw at at (next.next actor) in
      let of : c.actor ≡ actor = rw has at is.own in
      eq-eqb c.actor actor of

  pub all_left : (place : ℕ) (c : LineCommand) → slice_get places actor ≡ Some place
      → slice_get plan.commands place ≡ Some c
      → left ≡ Some (c ∷ commands_from plan.commands actor (suc place))
  all_left place c at has =
      at_place place at ∙ ap Some (here plan.commands actor place c has (own place c at has))

  pub a_command : (place : ℕ) (c : LineCommand) → slice_get places actor ≡ Some place
      → slice_get plan.commands place ≡ Some c → next_command_of left ≡ Ok c
  a_command place c at has = ap next_command_of (all_left place c at has)

  -- one that has a next command has a place
  pub has_place : IsOk (next_command_of left) → slice_get places actor ≡ None → ⊥
  has_place some none = let e = no_actor none in let wrong : ⊥ = cc (e, some) in wrong

  -- at which the command stands
  command_there : (place : ℕ) → slice_get places actor ≡ Some place → IsOk (next_command_of left)
      → (c : LineCommand) × (slice_get plan.commands place ≡ Some c)
  command_there place at some = by (slice_get plan.commands place) refl where
    by : (o : Option LineCommand) → slice_get plan.commands place ≡ o
        → (c : LineCommand) × (slice_get plan.commands place ≡ Some c)
    by None end = absurd (let e = no_command place at end in let wrong : ⊥ = cc (e, some) in wrong)
    by (Some c) has = (c, has)

  -- the places after its next command is gone
  pub gone : (place after : ℕ) → slice_get places actor ≡ Some place → IsOk (next_command_of left)
      → commands_from plan.commands actor after ≡ commands_from plan.commands actor (place + 1)
      → left_of plan.commands (slice_set places actor after)
      ≡ slice_set (left_of plan.commands places) actor (rest_of left)
  gone place after at some skips =
      let found = command_there place at some in
      let whole = all_left place found.0 at found.1 in
      let one : place + 1 ≡ suc place = add-one place in
      set-from plan.commands 0 places actor actor after (omega arith)
      ∙ ap (λ (rest : List LineCommand). slice_set (left_of plan.commands places) actor rest)
      (skips ∙ ap (commands_from plan.commands actor) one ∙ sym (ap rest_of whole))

  -- there is one more command at the place
  pub inside_place : (place : ℕ) → slice_get places actor ≡ Some place → IsOk (next_command_of left)
      → place + 1 ≤ length plan.commands
  inside_place place at some =
      let found = command_there place at some in
      let less = slice_get_within plan.commands place found.0 found.1 in
      omega (arith, less)

-- another place of one actor, which is that of its next command
length-set : {X : Type 0} (xs : List X) (i : ℕ) (x : X) → length (slice_set xs i x) ≡ length xs
length-set [] i x = refl
length-set (y ∷ xs) zero x = refl
length-set (y ∷ xs) (suc i) x = ap suc (length-set xs i x)

set-each : {X : Type 0} (P : ℕ → X → Type 0) (xs : List X) (i : ℕ) (x : X) → P i x
    → ((j : ℕ) → IfSome (slice_get xs j) (P j)) → (j : ℕ) → IfSome (slice_get (slice_set xs i x) j) (P j)
set-each P [] i x is each j = tt
set-each P (y ∷ xs) zero x is each zero = is
set-each P (y ∷ xs) zero x is each (suc j) = each (suc j)
set-each P (y ∷ xs) (suc i) x is each zero = each zero
set-each {X} P (y ∷ xs) (suc i) x is each (suc j) =
    set-each (λ (n : ℕ) (z : X). P (suc n) z) xs i x is (λ n. each (suc n)) j

pub next-set : (plan : Plan) (places : List ℕ) (actor place : ℕ) → AreNext plan places
    → IsNext plan.commands actor place → AreNext plan (slice_set places actor place)
next-set plan places actor place next is = record {
  each = length-set places actor place ∙ next.each;
  next = λ j. set-each (IsNext plan.commands) places actor place is next.next j;
}

-- whether all are done

-- inside or at the end of a list, where nothing stands is the end
ends : {X : Type 0} (xs : List X) (i : ℕ) → i ≤ length xs → slice_get xs i ≡ None → i ≡ length xs
ends [] i low at = omega (arith, low)
ends (x ∷ xs) zero low at = absurd (let no : ⊥ = cc in no)
ends (x ∷ xs) (suc i) low at = ap suc (ends xs i (omega (arith, low)) at)

shift : (k i : ℕ) → k + suc i ≡ k + 1 + i
shift k i = omega arith

some : (xs : List LineCommand) → (suc (length xs) == 0) ≡ false
some xs = ne_eqb (suc (length xs)) 0 (λ same. omega (arith, same))

module _ (commands : List LineCommand) where
  one-done : (actor place : ℕ) → IsNext commands actor place
      → (length (commands_from commands actor place) == 0) ≡ (place == length commands)
  one-done actor place is = by (slice_get commands place) refl where
    by : (o : Option LineCommand) → slice_get commands place ≡ o
        → (length (commands_from commands actor place) == 0) ≡ (place == length commands)
    by None end =
        let none = nothing commands actor place end in
        let at_end : place ≡ length commands = ends commands place is.inside end in
        ap (λ (rest : List LineCommand). length rest == 0) none ∙ sym (eq-eqb place (length commands) at_end)
    by (Some c) has =
        let of : c.actor ≡ actor = rw has at is.own in
        let first = here commands actor place c has (eq-eqb c.actor actor of) in
        let less = slice_get_within commands place c has in
        ap (λ (rest : List LineCommand). length rest == 0) first ∙ some (commands_from commands actor (suc place))
        ∙ sym (ne_eqb place (length commands) (λ same. omega (arith, less, same)))

  done-from : (k : ℕ) (places : List ℕ) → ((i : ℕ) → IfSome (slice_get places i) (IsNext commands (k + i)))
      → list_all (λ (rest : List LineCommand). length rest == 0) (from commands k places)
      ≡ list_all (λ p. p == length commands) places
  done-from k [] is = refl
  done-from k (p ∷ places) is =
      let head : IsNext commands k p = subst (λ n. IsNext commands n p) (add-zero k) (is 0) in
      let rest =
      done-from (k + 1) places
      (λ i. subst (λ n. IfSome (slice_get places i) (IsNext commands n)) (shift k i) (is (suc i))) in
      rw (one-done k p head, rest) refl

-- all are done where each place is the end
pub all_done : (plan : Plan) (places : List ℕ) → AreNext plan places
    → list_all (λ (p : ℕ). p == length plan.commands) places
    ≡ list_all (λ (rest : List LineCommand). length rest == 0) (left_of plan.commands places)
all_done plan places next =
    sym (done-from plan.commands 0 places
    (λ i. subst (λ n. IfSome (slice_get places i) (IsNext plan.commands n)) (sym (zero-add i)) (next.next i)))

-- all is left at the beginning

-- the places of so many actors are those of their first commands
pub record AreFirst (commands : List LineCommand) (places : List ℕ) (actors : ℕ) : Type 0 where
  pub each : length places ≡ actors
  pub next : (actor : ℕ) → IfSome (slice_get places actor) (IsNext commands actor)
  pub left : left_of commands places ≡ map (λ actor. commands_from commands actor 0) (range_with_len 0 actors)

push-each : {X : Type 0} (P : ℕ → X → Type 0) (xs : List X) (x : X) → P (length xs) x
    → ((j : ℕ) → IfSome (slice_get xs j) (P j)) → (j : ℕ) → IfSome (slice_get (xs ++ x ∷ []) j) (P j)
push-each P [] x is each zero = is
push-each P [] x is each (suc j) = tt
push-each P (y ∷ xs) x is each zero = each zero
push-each {X} P (y ∷ xs) x is each (suc j) =
    push-each (λ (n : ℕ) (z : X). P (suc n) z) xs x is (λ n. each (suc n)) j

-- those of one actor more
pub first-push : (commands : List LineCommand) (places : List ℕ) (actors place : ℕ) → AreFirst commands places actors
    → IsNext commands actors place → commands_from commands actors place ≡ commands_from commands actors 0
    → AreFirst commands (places ++ place ∷ []) (actors + 1)
first-push commands places actors place first is skips =
    let f : ℕ → List LineCommand = λ actor. commands_from commands actor 0 in
    let long : actors ≡ 0 + length places = (let e = first.each in omega (arith, e)) in
    let more : range_with_len 0 (actors + 1) ≡ range_with_len 0 actors ++ actors ∷ [] =
    ap (range_with_len 0) (add-one actors) ∙ range-more 0 actors actors (omega arith) in
    record {
      each = length_push places place ∙ ap (λ n. n + 1) first.each;
      next = push-each (IsNext commands) places place (subst (λ n. IsNext commands n place) (sym first.each) is)
          first.next;
      left = push-from commands 0 places place actors long
          ∙ ap (λ (xs : List (List LineCommand)). xs ++ commands_from commands actors place ∷ []) first.left
          ∙ ap (λ (c : List LineCommand). map f (range_with_len 0 actors) ++ c ∷ []) skips
          ∙ sym (map_push f (range_with_len 0 actors) actors) ∙ ap (map f) (sym more);
    }
