-- Where a legal log comes to rest, each command has its reply.
use Rattle.std.specs.Prelude.{◌≡◌, ℕ, suc, ◌+◌, ◌<◌, ◌==◌, Bool, true, false, ◌&&◌, List, [], ◌∷◌, ◌++◌, length, map, not, filter, sum_by, count_by, zip, Ok, Err, IsOkAnd, All, AllPairs, IsTrue, cond}
use Rattle.std.specs.List.{AllByRecursion, enumerate_from, list_all, range_with_len}
use Rattle.std.proofs.Common.{refl, sym, ◌∙◌, ap, subst, arith}
use Rattle.std.proofs.lemmas.Bool.{ne_eqb, eq-eqb, eqb-true}
use Rattle.std.proofs.lemmas.List.Elements.{All-contains, All-from_recursion, recursion_from_All}
use Rattle.std.proofs.lemmas.List.Kept.{AllPairs-from_increasing}
use Rattle.std.proofs.lemmas.List.Sums.{sum_by-cons}
use Rattle.geo_model.specs.declared.command.LineCommand.{LineCommand}
use Rattle.geo_model.specs.declared.step.Entry.{Entry}
use Rattle.geo_model.specs.declared.step.Outcome.{Outcome}
use Rattle.geo_model.specs.World.{World, Plan, Bio, commands_of}
use Rattle.geo_model.specs.Opening.{bare_world, disk_in_size, opening}
use Rattle.geo_model.specs.Plans.{MayBegin, IsCommandOf}
use Rattle.geo_model.specs.Step.{Answer, step}
use Rattle.geo_model.specs.Log.{Legal, IsMade, after_entry, replay, world_after}
use Rattle.geo_model.specs.Order.{Rest, is_at_rest}
use Rattle.geo_model.specs.Fitting.{Firm}
use Rattle.geo_laws_steps.proofs.Stepped.{steps_stay_firm}
use Rattle.geo_laws_steps.proofs.Logs.{firm_after}
use Rattle.geo_headline.specs.Replies.{replies_for, commands_at}
use Rattle.geo_laws_replies.specs.ReplyLaws.{counts_command, counts_bio, counts_reply, left_of_line, unanswered, RestAnswersEachCommand}
use Rattle.geo_laws_replies.proofs.AnsweringSteps.{steps_answer}
use Rattle.geo_laws_replies.proofs.PlanLines.{stands_leave, actors_have}

module _ (line : ℕ) where
  -- an answer that an entry tells takes its reply from what is unanswered
  entry_by : (w : World) (e : Entry) → Firm w → (a : Answer) → step w e.seat e.step ≡ a
      → IsOkAnd a (λ made. made.1 ≡ e.outcome)
      → unanswered line (world_after w a) + counts_reply line e.outcome ≡ unanswered line w
  entry_by w e firm (Ok made) is told =
      let one = steps_answer line w e.seat e.step made.0 made.1 firm is in
      let same : counts_reply line made.1 ≡ counts_reply line e.outcome = ap (counts_reply line) told in
      omega (arith, one, same)
  entry_by w e firm (Err found) is told = absurd told

  -- along a legal log its replies and what is still unanswered are as many as were unanswered
  along : (w : World) (log : List Entry) → Firm w → Legal w log
      → unanswered line (replay w log) + replies_for line log ≡ unanswered line w
  along w [] firm legal = omega arith
  along w (e ∷ log) firm legal =
      let one = entry_by w e firm (step w e.seat e.step) refl legal.0 in
      let rest = along (after_entry w e) log (steps_stay_firm w e.seat e.step firm) legal.1 in
      omega (
        arith,
        one,
        rest,
        sum_by-cons (λ (x : Entry). counts_reply line x.outcome) e log,
      )

  -- Rest

  -- both parts of a test that holds
  first_part : (a b : Bool) → (a && b) ≡ true → a ≡ true
  first_part true b both = refl
  first_part false b both = both

  second_part : (a b : Bool) → (a && b) ≡ true → b ≡ true
  second_part true b both = both
  second_part false b both = absurd (let no : ⊥ = cc in no)

  -- an actor without a command
  empty_counts : (cs : List LineCommand) → (length cs == 0) ≡ true → sum_by (counts_command line) cs ≡ 0
  empty_counts [] empty = refl
  empty_counts (c ∷ cs) empty = let none : length (c ∷ cs) ≡ 0 = eqb-true (length (c ∷ cs)) 0 empty in
      absurd (omega (arith, none))

  -- where no actor has a command left
  none_left : (actors : List (List LineCommand)) → list_all (λ rest. length rest == 0) actors ≡ true
      → left_of_line line actors ≡ 0
  none_left [] empty = refl
  none_left (cs ∷ actors) empty =
      omega (
        arith,
        sum_by-cons (λ (r : List LineCommand). sum_by (counts_command line) r) cs actors,
        empty_counts cs (first_part (length cs == 0) (list_all (λ rest. length rest == 0) actors) empty),
        none_left actors (second_part (length cs == 0) (list_all (λ rest. length rest == 0) actors) empty),
      )

  -- where no request is on its way
  none_out : (bios : List Bio) → (length bios == 0) ≡ true → sum_by (counts_bio line) bios ≡ 0
  none_out [] empty = refl
  none_out (x ∷ bios) empty = let none : length (x ∷ bios) ≡ 0 = eqb-true (length (x ∷ bios)) 0 empty in
      absurd (omega (arith, none))

  -- at rest nothing is unanswered
  rest_has_none : (w : World) → is_at_rest w ≡ true → unanswered line w ≡ 0
  unfolding is_at_rest
  rest_has_none w rests =
      let left = none_left w.actors (first_part (list_all (λ rest. length rest == 0) w.actors) _ rests) in
      let others = second_part (list_all (λ rest. length rest == 0) w.actors) _ rests in
      let out = none_out w.bios (first_part (length w.bios == 0) _ others) in
      omega (arith, left, out)

  -- The opening

  -- what the actors begin with, one by one
  begins_with : (plan : Plan) (actors : List ℕ)
      → left_of_line line (map (commands_of plan) actors)
      ≡ sum_by (λ (a : ℕ). sum_by (counts_command line) (commands_of plan a)) actors
  begins_with plan [] = refl
  begins_with plan (a ∷ actors) =
      omega (
        arith,
        sum_by-cons (λ (r : List LineCommand). sum_by (counts_command line) r) (commands_of plan a)
            (map (commands_of plan) actors),
        sum_by-cons (λ (b : ℕ). sum_by (counts_command line) (commands_of plan b)) a actors,
        begins_with plan actors,
      )

  -- at the opening the line is unanswered as often as the plan has a command there
  opening_has : (plan : Plan) (facts : List (ℕ × ℕ)) → MayBegin plan
      → unanswered line (opening plan facts) ≡ commands_at line plan
  unfolding opening
  opening_has plan facts is =
      let stands = stands_leave line
      (filter (λ item. not item.1.0.later) (enumerate_from 0 (zip plan.disks facts))) (bare_world plan facts) in
      let begins = begins_with plan (range_with_len 0 (length plan.actors)) in
      let low : AllByRecursion (λ (c : LineCommand). c.actor < length plan.actors) plan.commands =
      lower plan.commands (recursion_from_All (IsCommandOf (length plan.actors)) plan.commands is.commands) in
      let have = actors_have line (length plan.actors) plan.commands low in
      omega (arith, stands, begins, have)
    where
      lower : (cs : List LineCommand) → AllByRecursion (IsCommandOf (length plan.actors)) cs
          → AllByRecursion (λ (c : LineCommand). c.actor < length plan.actors) cs
      lower [] lines = tt
      lower (c ∷ cs) lines = (lines.0.actor, lower cs lines.1)

  -- so at rest the line has as many replies as commands
  pub as_many : (plan : Plan) (facts : List (ℕ × ℕ)) → MayBegin plan → Firm (opening plan facts)
      → (log : List Entry) → Legal (opening plan facts) log → Rest (replay (opening plan facts) log)
      → replies_for line log ≡ commands_at line plan
  as_many plan facts is firm log legal rests =
      let all = along (opening plan facts) log firm legal in
      let none = rest_has_none (replay (opening plan facts) log) rests in
      let begins = opening_has plan facts is in
      omega (arith, all, none, begins)

-- Lines that rise have one command each

-- of numbers that rise the first is below all others, and the others rise
first_below : (n : ℕ) (ns : List ℕ) → AllPairs (λ x y. x < y) (n ∷ ns) → All (λ m. n < m) ns
first_below n ns rise = λ j d within. rise 0 (suc j) d (omega arith) (omega (arith, within))

others_rise : (n : ℕ) (ns : List ℕ) → AllPairs (λ x y. x < y) (n ∷ ns) → AllPairs (λ x y. x < y) ns
others_rise n ns rise = λ i j d before within. rise (suc i) (suc j) d (omega (arith, before)) (omega (arith, within))

-- commands of later lines are none of the line
none_later : (line : ℕ) (cs : List LineCommand) → AllByRecursion (λ (n : ℕ). line < n) (map (λ c. c.line) cs)
    → count_by (λ (c : LineCommand). c.line == line) cs ≡ 0
none_later line [] later = refl
none_later line (c ∷ cs) later =
    let other : (c.line == line) ≡ false = ne_eqb c.line line (λ same. omega (arith, same, later.0)) in
    let none : counts_command line c ≡ 0 = rw other refl in
    omega (arith, sum_by-cons (counts_command line) c cs, none, none_later line cs later.1)

-- so each command is the only one of its line, also behind commands of earlier lines
one_each : (cs : List LineCommand) → AllPairs (λ x y. x < y) (map (λ c. c.line) cs)
    → AllByRecursion (λ (c : LineCommand). count_by (λ (d : LineCommand). d.line == c.line) cs ≡ 1) cs
one_each [] rise = tt
one_each (c ∷ cs) rise = (first, behind cs (one_each cs (others_rise c.line lines rise)) below)
  where
    lines : List ℕ
    lines = map (λ d. d.line) cs

    below : AllByRecursion (λ (n : ℕ). c.line < n) lines
    below = recursion_from_All (λ n. c.line < n) lines (first_below c.line lines rise)

    first : count_by (λ (d : LineCommand). d.line == c.line) (c ∷ cs) ≡ 1
    first =
        let itself : (c.line == c.line) ≡ true = eq-eqb c.line c.line refl in
        let one : counts_command c.line c ≡ 1 = rw itself refl in
        omega (arith, sum_by-cons (counts_command c.line) c cs, one, none_later c.line cs below)

    behind : (ds : List LineCommand)
        → AllByRecursion (λ (d : LineCommand). count_by (λ (x : LineCommand). x.line == d.line) cs ≡ 1) ds
        → AllByRecursion (λ (n : ℕ). c.line < n) (map (λ d. d.line) ds)
        → AllByRecursion (λ (d : LineCommand). count_by (λ (x : LineCommand). x.line == d.line) (c ∷ cs) ≡ 1) ds
    behind [] ones later = tt
    behind (d ∷ ds) ones later = (
      (let other : (c.line == d.line) ≡ false = ne_eqb c.line d.line (λ same. omega (arith, same, later.0)) in
          let none : counts_command d.line c ≡ 0 = rw other refl in
          omega (arith, sum_by-cons (counts_command d.line) c cs, none, ones.0)),
      behind ds ones.1 later.1,
    )

-- each command has its reply
pub rest_answers_each_command : RestAnswersEachCommand
rest_answers_each_command plan facts is fit log legal rests =
    let firm : Firm (opening plan facts) = firm_after plan facts is.begins fit [] in
    record {
      once = All-from_recursion (λ c. replies_for c.line log ≡ 1) plan.commands
          (answered plan.commands
          (one_each plan.commands (AllPairs-from_increasing (map (λ c. c.line) plan.commands) is.lines)));
      no_other = λ line. as_many line plan facts is.begins firm log legal rests;
    }
  where
    answered : (cs : List LineCommand)
        → AllByRecursion (λ (c : LineCommand). commands_at c.line plan ≡ 1) cs
        → AllByRecursion (λ (c : LineCommand). replies_for c.line log ≡ 1) cs
    answered [] ones = tt
    answered (c ∷ cs) ones =
        let firm : Firm (opening plan facts) = firm_after plan facts is.begins fit [] in
        (as_many c.line plan facts is.begins firm log legal rests ∙ ones.0, answered cs ones.1)
