-- The disks of each generated script are in memory.
use Rattle.std.specs.Prelude.{All, false, ◌≡◌, ℕ, ◌+◌, ◌*◌, ◌==◌, true, List, [], ◌∷◌, ◌++◌, codes, fold, Ok, Err, Result, is_ok}
use Rattle.std.specs.Fmt.{digits}
use Rattle.std.specs.List.{enumerate_from, slice_split, AllByRecursion}
use Rattle.std.proofs.Common.{refl, ◌∙◌, ap, arith, sym, subst, rules}
use Rattle.std.proofs.lemmas.List.Sums.{fold-append}
use Rattle.geo_model.specs.declared.command.DiskDecl.{DiskDecl}
use Rattle.geo_model.specs.World.{Plan}
use Rattle.geo_headline.specs.Outside.{IsShelf}
use Rattle.std.proofs.lemmas.List.Elements.{All-from_recursion}
use Rattle.geo_model.specs.Generator.{actor_lines, disk_lines, drawn_lines, draws, first_lines, generated}
use Rattle.geo_headline.specs.Modes.{GenMode, IsMode}
use Rattle.geo_model.specs.Script.{Fault, drop_empty_end, empty_plan, lines_of, next_line, script}
use Rattle.geo_base.proofs.PlaceLists.{numbered_both}
use Rattle.geo_laws_texts.proofs.Texts.{GoesOn, cut_drawn, draws_add, drawn_texts, drop_end}
use Rattle.geo_laws_texts.proofs.Lines.{four_actors}

-- The lines that come first

-- their texts
abbrev first_texts : List (List ℕ)
first_texts =
    codes "ram md0 512 1024" ∷ codes "ram md1 512 1024" ∷ codes "ram md2 512 1024" ∷ codes "ram md3 512 1024"
    ∷ codes "actor a0" ∷ codes "actor a1" ∷ codes "actor a2" ∷ codes "actor a3"
    ∷ codes "a0 stripe s 4096 md0 md1" ∷ codes "a0 concat c md2 md3"
    ∷ codes "a0 open h0 stripe/s r1w1e0" ∷ codes "a1 open h0 concat/c r1w1e0"
    ∷ codes "a2 open h0 stripe/s r1w0e0" ∷ codes "a3 open h0 concat/c r1w0e0" ∷ []

-- where a text that begins with them is cut, they come out first
cut_first : (rest : List ℕ) → slice_split (λ b. b == 10) (disk_lines ++ actor_lines ++ first_lines ++ rest)
    ≡ first_texts ++ slice_split (λ b. b == 10) rest
unfolding digits
cut_first rest = refl

-- none of them is the empty end
keep_first : (ts : List (List ℕ)) → drop_empty_end (first_texts ++ ts) ≡ first_texts ++ drop_empty_end ts
keep_first ts = refl

-- what they say
abbrev first_read : Result Plan Fault
first_read = fold next_line (Ok empty_plan) (enumerate_from 1 first_texts)

-- the plan that a reading gives
abbrev pub plan_in : Result Plan Fault → Plan
plan_in (Ok plan) = plan
plan_in (Err fault) = empty_plan

-- the plan of the lines that come first
abbrev first_plan : Plan
first_plan = plan_in first_read

-- it is a plan, of four disks, four actors and six commands
first_is : is_ok first_read ≡ true
first_is = refl

-- its actors are the four
first_actors : first_plan.actors ≡ four_actors
first_actors = refl

-- so the lines that come first are read
first_ok : first_read ≡ Ok first_plan
first_ok = search rules

-- the lines of a generated text
lines_are : (start count : ℕ) → lines_of (generated start count) ≡ first_texts ++ drawn_texts 0 count start
unfolding generated
lines_are start count =
    ap drop_empty_end
    (cut_first (drawn_lines 0 (draws (3 * count) start)) ∙ ap (λ ts. first_texts ++ ts) (cut_drawn 0 count start))
    ∙ keep_first (drawn_texts 0 count start ++ [] ∷ [])
    ∙ ap (λ ts. first_texts ++ ts) (drop_end 0 count start)

-- one reading gives one plan, and no fault beside it
pub one_plan : (a b : Plan) (r : Result Plan Fault) → r ≡ Ok a → r ≡ Ok b → a ≡ b
one_plan a b r p q = cc

pub plan_or_fault : (a : Plan) (f : Fault) (r : Result Plan Fault) → r ≡ Ok a → r ≡ Err f → ⊥
plan_or_fault a f r p q = cc

-- the disks of a generated script are those that come first, which are in memory
pub generated_in_memory : (start count : ℕ) → IsMode (GenMode start count) → (plan : Plan)
    → script (generated start count) ≡ Ok plan → All (λ (d : DiskDecl). IsShelf d.kind → ⊥) plan.disks
unfolding script
generated_in_memory start count mode plan e =
    let rest : GoesOn first_plan 15 (drawn_texts 0 count start) count =
    draws_add first_plan 15 0 count start first_actors (omega (arith, mode.1)) in
    let is : script (generated start count) ≡ Ok rest.then_plan =
    ap (λ ls. fold next_line (Ok empty_plan) (enumerate_from 1 ls)) (lines_are start count)
    ∙ ap (λ xs. fold next_line (Ok empty_plan) xs)
    (numbered_both 1 first_texts (drawn_texts 0 count start))
    ∙ fold-append next_line (Ok empty_plan) (enumerate_from 1 first_texts)
    (enumerate_from 15 (drawn_texts 0 count start))
    ∙ ap (λ r. fold next_line r (enumerate_from 15 (drawn_texts 0 count start))) first_ok
    ∙ rest.is in
    let same : rest.then_plan ≡ plan = one_plan rest.then_plan plan (script (generated start count)) is e in
    subst (λ (ds : List DiskDecl). All (λ (d : DiskDecl). IsShelf d.kind → ⊥) ds)
    (sym rest.disks ∙ ap (λ (p : Plan). p.disks) same)
    (All-from_recursion (λ (d : DiskDecl). IsShelf d.kind → ⊥) first_plan.disks in_memory)
  where
    no_shelf : false ≡ true → ⊥
    no_shelf s = cc

    in_memory : AllByRecursion (λ (d : DiskDecl). IsShelf d.kind → ⊥) first_plan.disks
    in_memory = (no_shelf, (no_shelf, (no_shelf, (no_shelf, tt))))
