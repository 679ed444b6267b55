-- The text of a plan is read as the plan.
use Rattle.std.specs.Prelude.{◌≡◌, ℕ, zero, suc, ◌+◌, ◌-◌, ◌<◌, ◌≤◌, ◌==◌, nat_le, nat_lt, true, false, List, [], ◌∷◌, ◌++◌, length, map, flat_map, fold, replicate, position, Some, Ok, All, AllPairs}
use Rattle.std.specs.List.{AllByRecursion, enumerate_from, list_any, slice_split, position_or_len}
use Rattle.std.specs.List.Sorted.{IsStrictlyIncreasing}
use Rattle.std.proofs.Common.{refl, sym, ◌∙◌, ap, arith, get_or, subst}
use Rattle.std.proofs.lemmas.Bool.{lt-ltb, not-true}
use Rattle.std.proofs.lemmas.Bool.Decides.{nat_tests}
use Rattle.std.proofs.lemmas.List.{append_assoc, append-nil, length-append, map-append}
use Rattle.std.proofs.lemmas.List.Elements.{All-nil, recursion_from_All}
use Rattle.std.proofs.lemmas.List.Kept.{AllPairs-from_increasing}
use Rattle.std.proofs.lemmas.List.Splits.{slice_split_at}
use Rattle.std.proofs.lemmas.List.Sums.{position_or_len_is}
use Rattle.std.proofs.lemmas.Option.{unwrap_or-slice_get}
use Rattle.std.proofs.lemmas.Slice.Eq.{bytes_eq-Decides}
use Rattle.geo_base.proofs.AllLists.{pairs_head, pairs_tail, in_middle, all_appended}
use Rattle.geo_base.specs.declared.limits.TheConstants.{MAX_ACTORS, MAX_DISKS, MAX_SCRIPT_LINES}
use Rattle.geo_model.specs.declared.command.DiskDecl.{DiskDecl}
use Rattle.geo_model.specs.declared.command.LineCommand.{LineCommand}
use Rattle.geo_model.specs.Generator.{entry_at, line}
use Rattle.geo_model.specs.Plans.{Differ, IsActor, IsCommandOf, IsDiskDecl, IsLineNumber, MayBegin}
use Rattle.geo_model.specs.Words.{same_name}
use Rattle.geo_model.specs.World.{Plan}
use Rattle.geo_model.specs.Script.{add_actor, add_disk, drop_empty_end, empty_plan, header_words, lines_of, next_line, script}
use Rattle.geo_laws_scripts.specs.PlanTexts.{actor_in_words, command_line, command_lines, disk_line, plan_lines, plan_text}
use Rattle.geo_laws_scripts.specs.ScriptLaws.{LineHasRoom, LinesFit, PlansAreRead, StandsBehind}
use Rattle.geo_laws_scripts.proofs.LinesRead.{IsUnended, actor_read, actor_unended, command_read, command_unended, disk_read, disk_unended, turned, with_command}

-- Lists

-- what holds of any two holds of each before the one behind some
before_seam : {X : Type 0} (R : X → X → Type 0) (xs : List X) (y : X) (ys : List X) → AllPairs R (xs ++ y ∷ ys)
    → AllByRecursion (λ x. R x y) xs
before_seam R [] y ys pairs = tt
before_seam R (x ∷ xs) y ys pairs =
    let each = recursion_from_All (R x) (xs ++ y ∷ ys) (pairs_head R x (xs ++ y ∷ ys) pairs) in
    (in_middle (R x) xs y ys each, before_seam R xs y ys (pairs_tail R x (xs ++ y ∷ ys) pairs))

-- Lines

-- a text of lines is cut into them
cut : (lines : List (List ℕ)) → AllByRecursion IsUnended lines
    → slice_split (λ b. b == 10) (flat_map line lines) ≡ lines ++ [] ∷ []
cut [] all = refl
cut (l ∷ ls) all =
    ap (λ t. slice_split (λ b. b == 10) t) (append_assoc l (10 ∷ []) (flat_map line ls))
    ∙ slice_split_at (λ b. b == 10) l 10 (flat_map line ls) all.0 refl
    ∙ ap (λ ts. l ∷ ts) (cut ls all.1)

-- the empty end goes
drop_end : (lines : List (List ℕ)) → drop_empty_end (lines ++ [] ∷ []) ≡ lines
drop_end [] = refl
drop_end ([] ∷ []) = refl
drop_end ([] ∷ next ∷ ls) = ap (λ (ts : List (List ℕ)). [] ∷ ts) (drop_end (next ∷ ls))
drop_end ((b ∷ bs) ∷ ls) = ap (λ (ts : List (List ℕ)). (b ∷ bs) ∷ ts) (drop_end ls)

-- the lines of a text of lines
lines_back : (lines : List (List ℕ)) → AllByRecursion IsUnended lines → lines_of (flat_map line lines) ≡ lines
lines_back lines all = ap drop_empty_end (cut lines all) ∙ drop_end lines

-- Disks

-- a name differs from those of some disks
no_disk : (disks : List DiskDecl) (name : List ℕ) → AllByRecursion (λ x. Differ x name) (map (λ d. d.name) disks)
    → list_any (λ x. same_name x.name name) disks ≡ false
no_disk [] name all = refl
no_disk (d ∷ ds) name all =
    let first : same_name d.name name ≡ false = not-true (same_name d.name name) all.0 in
    rw first (no_disk ds name all.1)

-- a plan of disks alone, and of disks and actors
abbrev of_disks : List DiskDecl → Plan
of_disks disks = record { disks = disks; actors = []; commands = [] }

abbrev pub of_header : List DiskDecl → List (List ℕ) → Plan
of_header disks actors = record { disks = disks; actors = actors; commands = [] }

-- fewer than so many
not_many : (most k m : ℕ) → k + (m + 1) ≤ most → nat_le most k ≡ false
not_many most k m few = grind (arith, nat_tests)

-- the lines of disks add them, whatever follows
disks_read : (done rest : List DiskDecl) (n : ℕ) (more : List (List ℕ)) → length done + length rest ≤ MAX_DISKS
    → n + length rest ≤ MAX_SCRIPT_LINES + 1 → AllByRecursion IsDiskDecl rest
    → AllPairs Differ (map (λ d. d.name) (done ++ rest))
    → fold next_line (Ok (of_disks done)) (enumerate_from n (map disk_line rest ++ more))
    ≡ fold next_line (Ok (of_disks (done ++ rest))) (enumerate_from (n + length rest) more)
disks_read done [] n more few lines all names =
    let same : n ≡ n + 0 = omega arith in
    ap (λ ds. fold next_line (Ok (of_disks ds)) (enumerate_from n more)) (sym (append-nil done))
    ∙ ap (λ k. fold next_line (Ok (of_disks (done ++ []))) (enumerate_from k more)) same
disks_read done (d ∷ ds) n more few lines all names =
    let apart : AllPairs Differ (map (λ (x : DiskDecl). x.name) done ++ d.name ∷ map (λ (x : DiskDecl). x.name) ds) =
    subst (AllPairs Differ) (map-append (λ (x : DiskDecl). x.name) done (d ∷ ds)) names in
    let other : list_any (λ x. same_name x.name d.name) done ≡ false =
    no_disk done d.name
    (before_seam Differ (map (λ (x : DiskDecl). x.name) done) d.name (map (λ (x : DiskDecl). x.name) ds) apart) in
    let place : nat_le MAX_DISKS (length done) ≡ false =
    not_many MAX_DISKS (length done) (length ds) (omega (arith, few)) in
    let added : add_disk (of_disks done) d ≡ Ok (of_disks (done ++ d ∷ [])) = rw (other, place) refl in
    let step : next_line (Ok (of_disks done)) (n, disk_line d) ≡ Ok (of_disks (done ++ d ∷ [])) =
    disk_read d all.0 (of_disks done) (of_disks (done ++ d ∷ [])) n (omega (arith, lines)) refl added in
    let grown = length-append done (d ∷ []) in
    let whole : (done ++ d ∷ []) ++ ds ≡ done ++ d ∷ ds = append_assoc done (d ∷ []) ds in
    let next : (n + 1) + length ds ≡ n + length (d ∷ ds) = omega arith in
    ap (λ r. fold next_line r (enumerate_from (n + 1) (map disk_line ds ++ more))) step
    ∙ disks_read (done ++ d ∷ []) ds (n + 1) more (omega (arith, few, grown)) (omega (arith, lines)) all.1
    (subst (λ xs. AllPairs Differ (map (λ x. x.name) xs)) (sym whole) names)
    ∙ ap (λ xs. fold next_line (Ok (of_disks xs)) (enumerate_from ((n + 1) + length ds) more)) whole
    ∙ ap (λ k. fold next_line (Ok (of_disks (done ++ d ∷ ds))) (enumerate_from k more)) next

-- Actors

-- a name differs from some
no_actor : (names : List (List ℕ)) (name : List ℕ) → AllByRecursion (λ x. Differ x name) names
    → list_any (same_name name) names ≡ false
no_actor [] name all = refl
no_actor (x ∷ xs) name all =
    let first : same_name name x ≡ false = turned x name (not-true (same_name x name) all.0) in
    rw first (no_actor xs name all.1)

-- the lines of actors add them, whatever follows
actors_read : (disks : List DiskDecl) (done rest : List (List ℕ)) (n : ℕ) (more : List (List ℕ))
    → length done + length rest ≤ MAX_ACTORS → n + length rest ≤ MAX_SCRIPT_LINES + 1 → AllByRecursion IsActor rest
    → AllPairs Differ (done ++ rest)
    → fold next_line (Ok (of_header disks done)) (enumerate_from n (map actor_in_words rest ++ more))
    ≡ fold next_line (Ok (of_header disks (done ++ rest))) (enumerate_from (n + length rest) more)
actors_read disks done [] n more few lines all names =
    let same : n ≡ n + 0 = omega arith in
    ap (λ xs. fold next_line (Ok (of_header disks xs)) (enumerate_from n more)) (sym (append-nil done))
    ∙ ap (λ k. fold next_line (Ok (of_header disks (done ++ []))) (enumerate_from k more)) same
actors_read disks done (name ∷ rest) n more few lines all names =
    let other : list_any (same_name name) done ≡ false = no_actor done name (before_seam Differ done name rest names) in
    let none : list_any (same_name name) header_words ≡ false =
    not-true (list_any (same_name name) header_words) all.0.no_header_word in
    let place : nat_le MAX_ACTORS (length done) ≡ false =
    not_many MAX_ACTORS (length done) (length rest) (omega (arith, few)) in
    let added : add_actor (of_header disks done) name ≡ Ok (of_header disks (done ++ name ∷ [])) =
    rw (other, none, place) refl in
    let step : next_line (Ok (of_header disks done)) (n, actor_in_words name)
    ≡ Ok (of_header disks (done ++ name ∷ [])) =
    actor_read name all.0.short (of_header disks done) (of_header disks (done ++ name ∷ [])) n (omega (arith, lines))
    refl added in
    let grown = length-append done (name ∷ []) in
    let whole : (done ++ name ∷ []) ++ rest ≡ done ++ name ∷ rest = append_assoc done (name ∷ []) rest in
    let next : (n + 1) + length rest ≡ n + length (name ∷ rest) = omega arith in
    ap (λ r. fold next_line r (enumerate_from (n + 1) (map actor_in_words rest ++ more))) step
    ∙ actors_read disks (done ++ name ∷ []) rest (n + 1) more (omega (arith, few, grown)) (omega (arith, lines)) all.1
    (subst (AllPairs Differ) (sym whole) names)
    ∙ ap (λ xs. fold next_line (Ok (of_header disks xs)) (enumerate_from ((n + 1) + length rest) more)) whole
    ∙ ap (λ k. fold next_line (Ok (of_header disks (done ++ name ∷ rest))) (enumerate_from k more)) next

-- the first actor of a name is its own
actor_place : (actors : List (List ℕ)) (k : ℕ) → AllPairs Differ actors → k < length actors
    → position (same_name (get_or actors k [])) actors ≡ Some k
actor_place actors k pairs inside =
    let same : same_name (get_or actors k []) (get_or actors k []) ≡ true =
    (bytes_eq-Decides (get_or actors k []) (get_or actors k [])).1 refl in
    let first : position_or_len (same_name (get_or actors k [])) actors ≡ k =
    position_or_len_is (same_name (get_or actors k [])) actors k [] (omega (arith, inside))
    (λ j below. turned (get_or actors j []) (get_or actors k [])
    (not-true (same_name (get_or actors j []) (get_or actors k [])) (pairs j k [] below inside)))
    (λ h. same) in
    let fits : nat_lt k (length actors) ≡ true = lt-ltb k (length actors) inside in
    rw (first, fits) refl

-- Commands

-- empty lines are skipped
pub blank : (plan : Plan) (k n : ℕ) (more : List (List ℕ))
    → fold next_line (Ok plan) (enumerate_from n (replicate k [] ++ more))
    ≡ fold next_line (Ok plan) (enumerate_from (n + k) more)
blank plan zero n more =
    ap (λ j. fold next_line (Ok plan) (enumerate_from j more)) (let same : n ≡ n + 0 = omega arith in same)
blank plan (suc k) n more =
    blank plan k (n + 1) more
    ∙ ap (λ j. fold next_line (Ok plan) (enumerate_from j more))
    (let same : (n + 1) + k ≡ n + suc k = omega arith in same)

-- a command that can be written for the actors
pub record IsWritable (actors : List (List ℕ)) (c : LineCommand) : Type 0 where
  pub is : IsCommandOf (length actors) c
  pub fits : LineHasRoom c.command (length (command_line actors c))

-- lines that rise from a number on
abbrev pub Rising : ℕ → List LineCommand → Type 0
Rising from [] = Unit {0}
Rising from (c ∷ cs) = (from ≤ c.line) × Rising (c.line + 1) cs

-- the lines of a plan do
pub rising : (from : ℕ) (c : LineCommand) (cs : List LineCommand) → from ≤ c.line
    → AllPairs (λ x y. x < y) (map (λ (x : LineCommand). x.line) (c ∷ cs)) → Rising from (c ∷ cs)
rising from c [] first pairs = (first, tt)
rising from c (d ∷ cs) first pairs =
    let each = recursion_from_All (λ y. c.line < y) (map (λ (x : LineCommand). x.line) (d ∷ cs))
    (pairs_head (λ x y. x < y) c.line (map (λ (x : LineCommand). x.line) (d ∷ cs)) pairs) in
    let above : c.line < d.line = each.0 in (
      first,
      rising (c.line + 1) d cs (omega (arith, above))
          (pairs_tail (λ x y. x < y) c.line (map (λ (x : LineCommand). x.line) (d ∷ cs)) pairs),
    )

-- an actor's name by its number
named : (actors : List (List ℕ)) (k : ℕ) → entry_at actors k ≡ get_or actors k []
named actors k = unwrap_or-slice_get actors k []

-- it is one
pub actor_named : (actors : List (List ℕ)) (k : ℕ) → All IsActor actors → k < length actors
    → IsActor (entry_at actors k)
actor_named actors k are inside = subst IsActor (sym (named actors k)) (are k [] inside)

-- a command's line adds it, at whatever number it stands
pub step_read : (plan : Plan) (n : ℕ) (c : LineCommand) → n ≤ MAX_SCRIPT_LINES → All IsActor plan.actors
    → AllPairs Differ plan.actors → IsWritable plan.actors c
    → next_line (Ok plan) (n, command_line plan.actors c) ≡ Ok (with_command plan n c.actor c.command)
step_read plan n c few are apart is =
    let inside = is.is.actor in
    let place : position (same_name (entry_at plan.actors c.actor)) plan.actors ≡ Some c.actor =
    ap (λ w. position (same_name w) plan.actors) (named plan.actors c.actor)
    ∙ actor_place plan.actors c.actor apart inside in
    command_read plan n c.actor (entry_at plan.actors c.actor) c.command few
    (actor_named plan.actors c.actor are inside) place is.is.command is.fits

-- the lines of commands add them
commands_read : (disks : List DiskDecl) (actors : List (List ℕ)) (done rest : List LineCommand) (n : ℕ)
    → All IsActor actors → AllPairs Differ actors → AllByRecursion (IsWritable actors) rest
    → AllByRecursion IsLineNumber (map (λ c. c.line) rest) → Rising n rest
    → fold next_line (Ok (record { disks = disks; actors = actors; commands = done }))
    (enumerate_from n (command_lines actors n rest))
    ≡ Ok (record { disks = disks; actors = actors; commands = done ++ rest })
commands_read disks actors done [] n are apart all numbered up =
    ap (λ cs. Ok (record { disks = disks; actors = actors; commands = cs })) (sym (append-nil done))
commands_read disks actors done (c ∷ cs) n are apart all numbered up =
    let plan : Plan = record { disks = disks; actors = actors; commands = done } in
    let first = up.0 in
    let whole : (done ++ c ∷ []) ++ cs ≡ done ++ c ∷ cs = append_assoc done (c ∷ []) cs in
    let reached : n + (c.line - n) ≡ c.line = omega (arith, first) in
    let step : next_line (Ok plan) (c.line, command_line actors c)
    ≡ Ok (record { disks = disks; actors = actors; commands = done ++ c ∷ [] }) =
    step_read plan c.line c numbered.0.few are apart all.0 in
    blank plan (c.line - n) n (command_line actors c ∷ command_lines actors (c.line + 1) cs)
    ∙ ap (λ k. fold next_line (Ok plan)
    (enumerate_from k (command_line actors c ∷ command_lines actors (c.line + 1) cs))) reached
    ∙ ap (λ r. fold next_line r (enumerate_from (c.line + 1) (command_lines actors (c.line + 1) cs))) step
    ∙ commands_read disks actors (done ++ c ∷ []) cs (c.line + 1) are apart all.1 numbered.1 up.1
    ∙ ap (λ xs. Ok (record { disks = disks; actors = actors; commands = xs })) whole

-- Line feeds

-- no line of the header has one
disks_unended : (disks : List DiskDecl) → AllByRecursion IsDiskDecl disks
    → AllByRecursion IsUnended (map disk_line disks)
disks_unended [] all = tt
disks_unended (d ∷ ds) all = (disk_unended d all.0, disks_unended ds all.1)

actors_unended : (actors : List (List ℕ)) → AllByRecursion IsActor actors
    → AllByRecursion IsUnended (map actor_in_words actors)
actors_unended [] all = tt
actors_unended (name ∷ names) all = (actor_unended name all.0.short, actors_unended names all.1)

-- nor have empty lines
blanks_unended : (k : ℕ) → AllByRecursion IsUnended (replicate k [])
blanks_unended zero = tt
blanks_unended (suc k) = (All-nil (λ b. (b == 10) ≡ false), blanks_unended k)

-- nor lines of commands
commands_unended : (actors : List (List ℕ)) (n : ℕ) (cs : List LineCommand) → All IsActor actors
    → AllByRecursion (IsCommandOf (length actors)) cs → AllByRecursion IsUnended (command_lines actors n cs)
commands_unended actors n [] are all = tt
commands_unended actors n (c ∷ cs) are all =
    all_appended IsUnended (replicate (c.line - n) []) (command_line actors c ∷ command_lines actors (c.line + 1) cs)
    (blanks_unended (c.line - n)) (
      command_unended (entry_at actors c.actor) c.command (actor_named actors c.actor are all.0.actor).short
          all.0.command,
      commands_unended actors (c.line + 1) cs are all.1,
    )

-- Plans

-- the commands of a plan can be written
writable : (plan : Plan) → MayBegin plan → LinesFit plan → AllByRecursion (IsWritable plan.actors) plan.commands
writable plan is fits =
    recursion_from_All (IsWritable plan.actors) plan.commands
    (λ k d inside. record { is = is.commands k d inside; fits = fits k d inside })

-- and rise behind the header
pub behind : (n : ℕ) (cs : List LineCommand) → StandsBehind n cs
    → IsStrictlyIncreasing (map (λ (c : LineCommand). c.line) cs)
    → Rising (n + 1) cs
behind n [] stands up = tt
behind n (c ∷ cs) stands up =
    rising (n + 1) c cs (omega (arith, stands))
    (AllPairs-from_increasing (map (λ (x : LineCommand). x.line) (c ∷ cs)) up)

-- the line at which the first command of a plan may stand
abbrev pub first_line : Plan → ℕ
first_line plan = length plan.disks + length plan.actors + 1

-- what a plan's text says is what the lines of its commands say behind its header
pub header_read : (plan : Plan) → MayBegin plan
    → script (plan_text plan)
    ≡ fold next_line (Ok (of_header plan.disks plan.actors))
    (enumerate_from (first_line plan) (command_lines plan.actors (first_line plan) plan.commands))
unfolding script plan_text
header_read plan is =
    let disks = recursion_from_All IsDiskDecl plan.disks is.disks in
    let actors = recursion_from_All IsActor plan.actors is.actors in
    let commands = recursion_from_All (IsCommandOf (length plan.actors)) plan.commands is.commands in
    let few_disks = is.few_disks in
    let few_actors = is.few_actors in
    let last : List (List ℕ) = command_lines plan.actors (first_line plan) plan.commands in
    let reached : (1 + length plan.disks) + length plan.actors ≡ first_line plan = omega arith in
    let unended : AllByRecursion IsUnended (plan_lines plan) =
    all_appended IsUnended (map disk_line plan.disks ++ map actor_in_words plan.actors) last
    (all_appended IsUnended (map disk_line plan.disks) (map actor_in_words plan.actors) (disks_unended plan.disks disks)
    (actors_unended plan.actors actors))
    (commands_unended plan.actors (first_line plan) plan.commands is.actors commands) in
    ap (λ ls. fold next_line (Ok empty_plan) (enumerate_from 1 ls))
    (lines_back (plan_lines plan) unended
    ∙ append_assoc (map disk_line plan.disks) (map actor_in_words plan.actors) last)
    ∙ disks_read [] plan.disks 1 (map actor_in_words plan.actors ++ last) (omega (arith, few_disks))
    (omega (arith, few_disks))
    disks is.disk_names
    ∙ actors_read plan.disks [] plan.actors (1 + length plan.disks) last (omega (arith, few_actors))
    (omega (arith, few_disks, few_actors)) actors is.actor_names
    ∙ ap (λ k. fold next_line (Ok (of_header plan.disks plan.actors)) (enumerate_from k last)) reached

pub plans_are_read : PlansAreRead
plans_are_read plan is header fits =
    header_read plan is.begins
    ∙ commands_read plan.disks plan.actors [] plan.commands (first_line plan) is.begins.actors is.begins.actor_names
    (writable plan is.begins fits) (recursion_from_All IsLineNumber (map (λ c. c.line) plan.commands) is.numbered)
    (behind (length plan.disks + length plan.actors) plan.commands header is.lines)
