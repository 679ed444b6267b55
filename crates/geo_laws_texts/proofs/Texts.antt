-- Each generated text is a script, with so many disks, actors and commands.
use Rattle.std.specs.Prelude.{◌≡◌, ℕ, zero, suc, ◌+◌, ◌*◌, ◌<◌, ◌≤◌, ◌==◌, true, List, [], ◌∷◌, ◌++◌, length, codes, fold, Ok, Err, Result, is_ok}
use Rattle.std.specs.Fmt.{digits}
use Rattle.std.specs.List.{enumerate_from, slice_split}
use Rattle.std.proofs.Common.{refl, ◌∙◌, ap, arith}
use Rattle.std.proofs.lemmas.List.{append_assoc, length-append}
use Rattle.std.proofs.lemmas.List.Splits.{slice_split_at}
use Rattle.std.proofs.lemmas.List.Sums.{fold-append}
use Rattle.geo_base.proofs.PlaceLists.{numbered_both}
use Rattle.geo_base.specs.declared.limits.TheConstants.{MAX_SCRIPT_LINES}
use Rattle.geo_model.specs.declared.command.DiskDecl.{DiskDecl}
use Rattle.geo_model.specs.World.{Plan}
use Rattle.geo_model.specs.Generator.{CanBeGenerated, actor_lines, disk_lines, drawn_lines, draws, draw_value, first_lines, generated, next_draw}
use Rattle.geo_model.specs.Script.{Fault, drop_empty_end, empty_plan, lines_of, next_line, script}
use Rattle.geo_laws_texts.specs.GeneratorLaws.{GeneratedPlans, SaysWhatIsAsked}
use Rattle.geo_laws_texts.proofs.Lines.{AddsCommand, drawn_line, drawn_text, four_actors}

-- the lines that are drawn from a number, as texts
abbrev pub drawn_texts : ℕ → ℕ → ℕ → List (List ℕ)
drawn_texts i zero x = []
drawn_texts i (suc n) x =
    drawn_text i (draw_value (next_draw x)) (draw_value (next_draw (next_draw x)))
    (draw_value (next_draw (next_draw (next_draw x))))
    ∷ drawn_texts (i + 1) n (next_draw (next_draw (next_draw x)))

-- three draws more
three_draws : (n x : ℕ) → draws (3 * suc n) x
    ≡ draw_value (next_draw x) ∷ draw_value (next_draw (next_draw x))
    ∷ draw_value (next_draw (next_draw (next_draw x))) ∷ draws (3 * n) (next_draw (next_draw (next_draw x)))
three_draws n x = ap (λ k. draws k x) (let e : 3 * suc n ≡ suc (suc (suc (3 * n))) = omega arith in e)

-- where a text is cut at its line feeds, those of the lines come out
pub cut_drawn : (i n x : ℕ) → slice_split (λ b. b == 10) (drawn_lines i (draws (3 * n) x))
    ≡ drawn_texts i n x ++ [] ∷ []
cut_drawn i zero x = refl
cut_drawn i (suc n) x =
    let d1 = draw_value (next_draw x) in
    let d2 = draw_value (next_draw (next_draw x)) in
    let d3 = draw_value (next_draw (next_draw (next_draw x))) in
    let y = next_draw (next_draw (next_draw x)) in
    ap (λ ds. slice_split (λ b. b == 10) (drawn_lines i ds)) (three_draws n x)
    ∙ ap (λ t. slice_split (λ b. b == 10) t)
    (append_assoc (drawn_text i d1 d2 d3) (10 ∷ []) (drawn_lines (i + 1) (draws (3 * n) y)))
    ∙ slice_split_at (λ b. b == 10) (drawn_text i d1 d2 d3) 10 (drawn_lines (i + 1) (draws (3 * n) y))
    (drawn_line i d1 d2 d3).no_feed refl
    ∙ ap (λ ts. drawn_text i d1 d2 d3 ∷ ts) (cut_drawn (i + 1) n y)

-- the empty end goes
pub drop_end : (i n x : ℕ) → drop_empty_end (drawn_texts i n x ++ [] ∷ []) ≡ drawn_texts i n x
drop_end i zero x = refl
drop_end i (suc n) x =
    by (drawn_text i d1 d2 d3) (drawn_texts (i + 1) n y ++ [] ∷ []) (drawn_line i d1 d2 d3).not_empty
    ∙ ap (λ ts. drawn_text i d1 d2 d3 ∷ ts) (drop_end (i + 1) n y)
  where
    d1 : ℕ
    d1 = draw_value (next_draw x)

    d2 : ℕ
    d2 = draw_value (next_draw (next_draw x))

    d3 : ℕ
    d3 = draw_value (next_draw (next_draw (next_draw x)))

    y : ℕ
    y = next_draw (next_draw (next_draw x))

    by : (t : List ℕ) (ts : List (List ℕ)) → 0 < length t → drop_empty_end (t ∷ ts) ≡ t ∷ drop_empty_end ts
    by [] ts some = absurd (omega (arith, some))
    by (b ∷ t) ts some = refl

-- a plan that goes on from another by so many commands
pub record GoesOn (plan : Plan) (from : ℕ) (lines : List (List ℕ)) (count : ℕ) : Type 0 where
  pub then_plan : Plan
  pub is : fold next_line (Ok plan) (enumerate_from from lines) ≡ Ok then_plan
  pub disks : then_plan.disks ≡ plan.disks
  pub actors : then_plan.actors ≡ plan.actors
  pub commands : length then_plan.commands ≡ length plan.commands + count

-- the lines that are drawn add a command each
pub draws_add : (plan : Plan) (from i n x : ℕ) → plan.actors ≡ four_actors → from + n ≤ MAX_SCRIPT_LINES + 1
    → GoesOn plan from (drawn_texts i n x) n
draws_add plan from i zero x are few = record {
  then_plan = plan;
  is = refl;
  disks = refl;
  actors = refl;
  commands = omega arith;
}
draws_add plan from i (suc n) x are few =
    let d1 = draw_value (next_draw x) in
    let d2 = draw_value (next_draw (next_draw x)) in
    let d3 = draw_value (next_draw (next_draw (next_draw x))) in
    let line : AddsCommand (drawn_text i d1 d2 d3) = drawn_line i d1 d2 d3 in
    let next : Plan = record plan {
      commands = plan.commands ++ record { line = from; actor = line.actor; command = line.command } ∷ [];
    } in
    let rest : GoesOn next (from + 1) (drawn_texts (i + 1) n (next_draw (next_draw (next_draw x)))) n =
    draws_add next (from + 1) (i + 1) n (next_draw (next_draw (next_draw x))) are (omega (arith, few)) in
    let one : next_line (Ok plan) (from, drawn_text i d1 d2 d3) ≡ Ok next =
    rw (line.shown, line.adds plan from (omega (arith, few)) are) refl in
    record {
      then_plan = rest.then_plan;
      is = ap (λ r. fold next_line r
          (enumerate_from (from + 1) (drawn_texts (i + 1) n (next_draw (next_draw (next_draw x)))))) one ∙ rest.is;
      disks = rest.disks;
      actors = rest.actors;
      commands =
          let longer = length-append plan.commands
          (record { line = from; actor = line.actor; command = line.command } ∷ []) in
          omega (arith, rest.commands, longer);
    }

-- The lines that come first

-- their texts
abbrev pub first_texts : List (List ℕ)
first_texts =
    codes "ram md0 512 1024" ∷ codes "ram md1 512 1024" ∷ codes "ram md2 512 1024" ∷ codes "ram md3 512 1024"
    ∷ codes "actor a0" ∷ codes "actor a1" ∷ codes "actor a2" ∷ codes "actor a3"
    ∷ codes "a0 stripe s 4096 md0 md1" ∷ codes "a0 concat c md2 md3"
    ∷ codes "a0 open h0 stripe/s r1w1e0" ∷ codes "a1 open h0 concat/c r1w1e0"
    ∷ codes "a2 open h0 stripe/s r1w0e0" ∷ codes "a3 open h0 concat/c r1w0e0" ∷ []

-- where a text that begins with them is cut, they come out first
cut_first : (rest : List ℕ) → slice_split (λ b. b == 10) (disk_lines ++ actor_lines ++ first_lines ++ rest)
    ≡ first_texts ++ slice_split (λ b. b == 10) rest
unfolding digits
cut_first rest = refl

-- none of them is the empty end
keep_first : (ts : List (List ℕ)) → drop_empty_end (first_texts ++ ts) ≡ first_texts ++ drop_empty_end ts
keep_first ts = refl

-- what they say
abbrev pub first_read : Result Plan Fault
first_read = fold next_line (Ok empty_plan) (enumerate_from 1 first_texts)

-- the plan that a reading gives
abbrev pub plan_or : Result Plan Fault → Plan
plan_or (Ok plan) = plan
plan_or (Err fault) = empty_plan

-- the plan of the lines that come first
abbrev pub first_plan : Plan
first_plan = plan_or first_read

-- it is a plan, of four disks, four actors and six commands
first_is : is_ok first_read ≡ true
first_is = refl

-- it has four disks
first_disks : length first_plan.disks ≡ 4
first_disks = refl

-- its actors are the four
first_actors : first_plan.actors ≡ four_actors
first_actors = refl

-- it has six commands
first_commands : length first_plan.commands ≡ 6
first_commands = refl

-- so the lines that come first are read
first_ok : first_read ≡ Ok first_plan
first_ok = by first_read first_is
  where
    by : (r : Result Plan Fault) → is_ok r ≡ true → r ≡ Ok (plan_or r)
    by (Ok plan) e = refl
    by (Err fault) e = absurd (let bad : ⊥ = cc in bad)

-- the lines of a generated text
lines_are : (start count : ℕ) → lines_of (generated start count) ≡ first_texts ++ drawn_texts 0 count start
unfolding generated
lines_are start count =
    ap drop_empty_end
    (cut_first (drawn_lines 0 (draws (3 * count) start)) ∙ ap (λ ts. first_texts ++ ts) (cut_drawn 0 count start))
    ∙ keep_first (drawn_texts 0 count start ++ [] ∷ [])
    ∙ ap (λ ts. first_texts ++ ts) (drop_end 0 count start)

-- a generated text is read as a plan that goes on from that of the lines that come first
pub record IsRead (start count : ℕ) : Type 0 where
  pub rest : GoesOn first_plan 15 (drawn_texts 0 count start) count
  pub is : script (generated start count) ≡ Ok rest.then_plan

-- so is each that can be generated
pub reads : (start count : ℕ) → CanBeGenerated start count → IsRead start count
unfolding script
reads start count mode =
    let rest : GoesOn first_plan 15 (drawn_texts 0 count start) count =
    draws_add first_plan 15 0 count start first_actors (omega (arith, mode.1)) in
    record {
      rest = rest;
      is =
          ap (λ ls. fold next_line (Ok empty_plan) (enumerate_from 1 ls)) (lines_are start count)
          ∙ ap (λ xs. fold next_line (Ok empty_plan) xs)
          (numbered_both 1 first_texts (drawn_texts 0 count start))
          ∙ fold-append next_line (Ok empty_plan) (enumerate_from 1 first_texts)
          (enumerate_from 15 (drawn_texts 0 count start))
          ∙ ap (λ r. fold next_line r (enumerate_from 15 (drawn_texts 0 count start))) first_ok
          ∙ rest.is;
    }

-- it has so many disks, actors and commands
says : (start count : ℕ) → CanBeGenerated start count → (plan : Plan) × SaysWhatIsAsked start count plan
says start count mode =
    let made = reads start count mode in (
      made.rest.then_plan,
      record {
        is = made.is;
        disks = ap (λ (ds : List DiskDecl). length ds) made.rest.disks ∙ first_disks;
        actors = ap (λ (xs : List (List ℕ)). length xs) (made.rest.actors ∙ first_actors);
        commands = let first = first_commands in omega (arith, made.rest.commands, first);
      },
    )

-- both laws
pub generated_plans : GeneratedPlans
generated_plans = record {
  scripts = λ start count mode. let made = says start count mode in (made.0, made.1.is);
  says = says;
}
