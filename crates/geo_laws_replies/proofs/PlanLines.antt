-- The lines of a plan: each actor has its commands, and no line has two.
use Rattle.std.specs.Prelude.{◌≡◌, ◌≢◌, ℕ, zero, suc, ◌+◌, ◌<◌, ◌≤◌, ◌==◌, Bool, true, false, not, List, [], ◌∷◌, length, map, filter, fold, sum_by, zip, All, AllPairs, Contains, cond}
use Rattle.std.specs.List.{AllByRecursion, enumerate_from, range_with_len}
use Rattle.std.proofs.Common.{refl, arith, inl, inr}
use Rattle.std.proofs.lemmas.Bool.{cases_lt, ne_eqb, eqb-true, eqb-false}
use Rattle.std.proofs.lemmas.List.Sums.{sum_by-cons}
use Rattle.geo_model.specs.declared.command.DiskDecl.{DiskDecl}
use Rattle.geo_model.specs.declared.command.LineCommand.{LineCommand}
use Rattle.geo_model.specs.World.{World, Plan, commands_of}
use Rattle.geo_model.specs.GeomCommands.{stand}
use Rattle.geo_model.specs.Opening.{bare_world, disk_in_size, opening}
use Rattle.geo_laws_replies.specs.ReplyLaws.{counts_command, left_of_line, unanswered}

module _ (line : ℕ) where
  -- disks that stand leave what is unanswered
  pub stands_leave : (items : List (ℕ × (DiskDecl × (ℕ × ℕ)))) (w : World)
      → unanswered line (fold (λ w item. stand w (item.0, disk_in_size item.1)) w items) ≡ unanswered line w
  stands_leave [] w = refl
  stands_leave (item ∷ items) w = stands_leave items (stand w (item.0, disk_in_size item.1))

  -- the commands of an actor
  abbrev of_actor : ℕ → List LineCommand → List LineCommand
  of_actor actor cs = filter (λ (c : LineCommand). c.actor == actor) cs

  -- a command more of an actor, or of another one
  one_more : (c : LineCommand) (cs : List LineCommand) (actor : ℕ) (b : Bool) → (c.actor == actor) ≡ b
      → sum_by (counts_command line) (of_actor actor (c ∷ cs))
      ≡ cond (c.actor == actor) (counts_command line c) 0 + sum_by (counts_command line) (of_actor actor cs)
  one_more c cs actor true e = rw e (sum_by-cons (counts_command line) c (of_actor actor cs))
  one_more c cs actor false e = rw e (omega arith)

  -- so among these actors
  more_among : (c : LineCommand) (cs : List LineCommand) (actors : List ℕ)
      → sum_by (λ (a : ℕ). sum_by (counts_command line) (of_actor a (c ∷ cs))) actors
      ≡ sum_by (λ (a : ℕ). cond (c.actor == a) (counts_command line c) 0) actors
      + sum_by (λ (a : ℕ). sum_by (counts_command line) (of_actor a cs)) actors
  more_among c cs [] = refl
  more_among c cs (a ∷ actors) =
      omega (
        arith,
        sum_by-cons (λ (a : ℕ). sum_by (counts_command line) (of_actor a (c ∷ cs))) a actors,
        sum_by-cons (λ (a : ℕ). cond (c.actor == a) (counts_command line c) 0) a actors,
        sum_by-cons (λ (a : ℕ). sum_by (counts_command line) (of_actor a cs)) a actors,
        one_more c cs a (c.actor == a) refl,
        more_among c cs actors,
      )

  -- a number that isn't among these counts nothing
  none_among : (k v from n : ℕ) → k < from
      → sum_by (λ (a : ℕ). cond (k == a) v 0) (range_with_len from n) ≡ 0
  none_among k v from zero below = refl
  none_among k v from (suc n) below =
      let other : (k == from) ≡ false = ne_eqb k from (λ same. omega (arith, same, below)) in
      let none : cond (k == from) v 0 ≡ 0 = rw other refl in
      omega (
        arith,
        sum_by-cons (λ (a : ℕ). cond (k == a) v 0) from (range_with_len (from + 1) n),
        none,
        none_among k v (from + 1) n (omega (arith, below)),
      )

  -- a number that isn't below another and isn't it is above
  above : (k from : ℕ) → from ≤ k → k ≢ from → from + 1 ≤ k
  above k from low apart = elim (cases_lt from k) [
    | inl less ↦ omega (arith, less)
    | inr more ↦ absurd (apart (let same : k ≡ from = omega (arith, more, low) in same))
  ]

  -- and one that is counts once
  once_among : (k v from n : ℕ) → from ≤ k → k < from + n
      → sum_by (λ (a : ℕ). cond (k == a) v 0) (range_with_len from n) ≡ v
  once_among k v from zero low high = absurd (omega (arith, low, high))
  once_among k v from (suc n) low high =
      by (k == from) refl (λ more. once_among k v (from + 1) n more (omega (arith, high)))
    where
      by : (b : Bool) → (k == from) ≡ b
          → (from + 1 ≤ k → sum_by (λ (a : ℕ). cond (k == a) v 0) (range_with_len (from + 1) n) ≡ v)
          → sum_by (λ (a : ℕ). cond (k == a) v 0) (range_with_len from (suc n)) ≡ v
      by true e rest =
          let is : k ≡ from = eqb-true k from e in
          let here : cond (k == from) v 0 ≡ v = rw e refl in
          omega (
            arith,
            sum_by-cons (λ (a : ℕ). cond (k == a) v 0) from (range_with_len (from + 1) n),
            here,
            none_among k v (from + 1) n (omega (arith, is)),
          )
      by false e rest =
          let apart : k ≢ from = eqb-false k from e in
          let none : cond (k == from) v 0 ≡ 0 = rw e refl in
          omega (
            arith,
            sum_by-cons (λ (a : ℕ). cond (k == a) v 0) from (range_with_len (from + 1) n),
            none,
            rest (above k from low apart),
          )

  -- so all commands are those of the actors
  pub actors_have : (n : ℕ) (cs : List LineCommand) → AllByRecursion (λ (c : LineCommand). c.actor < n) cs
      → sum_by (λ (a : ℕ). sum_by (counts_command line) (of_actor a cs)) (range_with_len 0 n)
      ≡ sum_by (counts_command line) cs
  actors_have n [] low = zeros (range_with_len 0 n)
    where
      zeros : (actors : List ℕ) → sum_by (λ (a : ℕ). sum_by (counts_command line) (of_actor a [])) actors ≡ 0
      zeros [] = refl
      zeros (a ∷ actors) =
          omega (
            arith,
            sum_by-cons (λ (b : ℕ). sum_by (counts_command line) (of_actor b [])) a actors,
            zeros actors,
          )
  actors_have n (c ∷ cs) low =
      omega (
        arith,
        more_among c cs (range_with_len 0 n),
        once_among c.actor (counts_command line c) 0 n (omega arith) (omega (arith, low.0)),
        actors_have n cs low.1,
        sum_by-cons (counts_command line) c cs,
      )
