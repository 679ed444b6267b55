-- The plan of a script keeps the rules of plans.
use Rattle.std.proofs.Common.{◌≡◌, ℕ, ◌+◌, ◌<◌, ◌≤◌, ◌==◌, ◌&&◌, ◌||◌, nat_lt, nat_le, Bool, true, false, not, List, [], ◌∷◌, ◌++◌, length, map, fold, get_or, Option, Some, None, Result, Ok, Err, refl, sym, ◌∙◌, ap, arith, if◌then◌else◌, subst, position, AllPairs, All}
use Rattle.std.specs.List.{list_any, list_all, enumerate_from}
use Rattle.std.specs.List.Sorted.{IsStrictlyIncreasing}
use Rattle.std.proofs.lemmas.Bool.Decides.{nat_tests}
use Rattle.std.proofs.lemmas.List.{map_push, get_or_append_left, get_or_push, length_push}
use Rattle.std.proofs.lemmas.List.Elements.{All-nil, All-cons, All-push, All-weaker, All-map}
use Rattle.std.proofs.lemmas.List.Quantifiers.{all_pairs_push, position-Some}
use Rattle.std.proofs.lemmas.Slice.Eq.{bytes_eq-Decides}
use Rattle.std.proofs.lemmas.Bool.{ltb-true}
use Rattle.geo_base.specs.declared.limits.TheConstants.{MAX_ACTORS, MAX_DISKS, MAX_SCRIPT_LINES}
use Rattle.geo_model.specs.declared.command.Cause.{Cause}
use Rattle.geo_model.specs.declared.command.Cause.TheVariants as causes
use Rattle.geo_model.specs.declared.command.Command.{Command}
use Rattle.geo_model.specs.declared.command.DiskDecl.{DiskDecl}
use Rattle.geo_model.specs.declared.command.LineCommand.{LineCommand}
use Rattle.geo_model.specs.FormatLaws.{ScriptsArePlans}
use Rattle.geo_model.specs.Plans.{IsPlan, IsDiskDecl, IsActor, IsCommand, IsCommandOf, IsLineNumber, IsShortName, Differ}
use Rattle.geo_model.specs.Words.{same_name, unless, first_error}
use Rattle.geo_model.specs.World.{Plan}
use Rattle.geo_model.specs.Script.{◌>>=◌, Words, Fault, beside, by_word, command_table, ram_words, disk_words, actor_words, header_words, empty_plan, add_disk, add_actor, add_command, before_commands, actor_line, header_table, line_by, words_line, words_of, plan_with_line, is_skipped, is_long, lines_of, at_line, next_line, script}
use Rattle.geo_script.proofs.ReaderLaws.{Gives, after, EachRow, Reader, beside-all, commands-give, ram-gives, disk-gives, actor-gives}

-- a plan of lines below a number
record Upto (n : ℕ) (p : Plan) : Type 0 where
  plan : IsPlan p
  below : All (λ (c : LineCommand). c.line < n) p.commands

-- Names

-- no element passes a test that none passes
none_passes : {X : Type 0} (p : X → Bool) (xs : List X) → list_any p xs ≡ false → All (λ x. p x ≡ false) xs
none_passes p [] e = All-nil (λ x. p x ≡ false)
none_passes {X = X} p (x ∷ xs) e = into (p x) refl e (λ more. none_passes p xs more)
  where
    into : (t : Bool) → p x ≡ t → (t || list_any p xs) ≡ false
        → (list_any p xs ≡ false → All (λ y. p y ≡ false) xs) → All (λ y. p y ≡ false) (x ∷ xs)
    into true t e more = absurd (cc)
    into false t e more = All-cons (λ y. p y ≡ false) x xs t (more e)

-- names that aren't the same differ
differ : (a b : List ℕ) → same_name a b ≡ false → Differ a b
differ a b e = ap not e

-- names that differ differ the other way round
differ_back : (a b : List ℕ) → same_name b a ≡ false → Differ a b
differ_back a b e = into (same_name a b) refl
  where
    into : (t : Bool) → same_name a b ≡ t → not t ≡ true
    into false t = refl
    into true t =
        let same : a ≡ b = (bytes_eq-Decides a b).0 t in
        let back : same_name b a ≡ true = (bytes_eq-Decides b a).1 (sym same) in
        let wrong : true ≡ false = sym back ∙ e in
        absurd (cc)

-- a name more that differs from those before
names_push : (names : List (List ℕ)) (name : List ℕ) → AllPairs Differ names → All (λ x. Differ x name) names
    → AllPairs Differ (names ++ name ∷ [])
names_push names name pairs others = all_pairs_push Differ names name pairs (λ k d h. others k d h)

-- an element more than fewer than so many
few-push : {X : Type 0} (most : ℕ) (xs : List X) (x : X) → nat_le most (length xs) ≡ false
    → length (xs ++ x ∷ []) ≤ most
few-push most xs x e = grown (length xs) (length (xs ++ x ∷ [])) (length_push xs x) e
  where
    grown : (a b : ℕ) → b ≡ a + 1 → nat_le most a ≡ false → b ≤ most
    grown a b e h = grind (arith, nat_tests)

-- What is added to a plan

-- a plan with a disk more keeps the rules
with_disk : (n : ℕ) (plan : Plan) (d : DiskDecl) → Upto n plan → IsDiskDecl d
    → list_any (λ x. same_name x.name d.name) plan.disks ≡ false → nat_le MAX_DISKS (length plan.disks) ≡ false →
    Upto n (record plan { disks = plan.disks ++ d ∷ [] })
with_disk n plan d is disk other few =
    let names : AllPairs Differ (map (λ x. x.name) plan.disks ++ d.name ∷ []) =
    names_push (map (λ x. x.name) plan.disks) d.name is.plan.begins.disk_names
    (All-map (λ x. Differ x d.name) (λ x. x.name) plan.disks
    (All-weaker (λ x. same_name x.name d.name ≡ false) (λ x. Differ x.name d.name) (λ x e. differ x.name d.name e)
    plan.disks (none_passes (λ x. same_name x.name d.name) plan.disks other))) in
    record {
      plan = record {
        begins = record {
          few_disks = few-push MAX_DISKS plan.disks d few;
          disks = All-push IsDiskDecl plan.disks d is.plan.begins.disks disk;
          disk_names = subst (AllPairs Differ) (sym (map_push (λ (x : DiskDecl). x.name) plan.disks d)) names;
          few_actors = is.plan.begins.few_actors;
          actors = is.plan.begins.actors;
          actor_names = is.plan.begins.actor_names;
          commands = is.plan.begins.commands;
        };
        numbered = is.plan.numbered;
        lines = is.plan.lines;
      };
      below = is.below;
    }

-- a disk is added under the rules
add_disk-keeps : (n : ℕ) (plan : Plan) (d : DiskDecl) → Upto n plan → IsDiskDecl d → Gives (Upto n) (add_disk plan d)
add_disk-keeps n plan d is disk =
    into (list_any (λ x. same_name x.name d.name) plan.disks) refl (nat_le MAX_DISKS (length plan.disks)) refl
  where
    into : (a : Bool) → list_any (λ x. same_name x.name d.name) plan.disks ≡ a → (b : Bool)
        → nat_le MAX_DISKS (length plan.disks) ≡ b →
        Gives (Upto n)
        (unless (first_error ((a, causes.Twice) ∷ (b, causes.Many) ∷ []))
        (record plan { disks = plan.disks ++ d ∷ [] }))
    into true ea b eb = tt
    into false ea true eb = tt
    into false ea false eb = with_disk n plan d is disk ea eb

-- a plan with an actor more keeps the rules
with_actor : (n : ℕ) (plan : Plan) (name : List ℕ) → Upto n plan → IsShortName name
    → list_any (same_name name) plan.actors ≡ false → list_any (same_name name) header_words ≡ false
    → nat_le MAX_ACTORS (length plan.actors) ≡ false →
    Upto n (record plan { actors = plan.actors ++ name ∷ [] })
with_actor n plan name is short other no_word few =
    record {
      plan = record {
        begins = record {
          few_disks = is.plan.begins.few_disks;
          disks = is.plan.begins.disks;
          disk_names = is.plan.begins.disk_names;
          few_actors = few-push MAX_ACTORS plan.actors name few;
          actors = All-push IsActor plan.actors name is.plan.begins.actors (record {
            short = short;
            no_header_word =
                ap not no_word;
          });
          actor_names = names_push plan.actors name is.plan.begins.actor_names
              (All-weaker (λ x. same_name name x ≡ false) (λ x. Differ x name) (λ x e. differ_back x name e)
              plan.actors (none_passes (same_name name) plan.actors other));
          commands = All-weaker (IsCommandOf (length plan.actors))
              (IsCommandOf (length (plan.actors ++ name ∷ []))) (λ c h. more c h) plan.commands
              is.plan.begins.commands;
        };
        numbered = is.plan.numbered;
        lines = is.plan.lines;
      };
      below = is.below;
    }
  where
    more : (c : LineCommand) → IsCommandOf (length plan.actors) c
        → IsCommandOf (length (plan.actors ++ name ∷ [])) c
    more c h = record {
      actor =
          up c.actor (length plan.actors) _ (length_push plan.actors name) h.actor;
      command = h.command;
    }
      where
        up : (a b k : ℕ) → k ≡ b + 1 → a < b → a < k
        up a b k e h = omega arith

-- an actor is added under the rules
add_actor-keeps : (n : ℕ) (plan : Plan) (name : List ℕ) → Upto n plan → IsShortName name
    → Gives (Upto n) (add_actor plan name)
add_actor-keeps n plan name is short =
    into (list_any (same_name name) plan.actors) refl (list_any (same_name name) header_words) refl
    (nat_le MAX_ACTORS (length plan.actors)) refl
  where
    into : (a : Bool) → list_any (same_name name) plan.actors ≡ a → (w : Bool)
        → list_any (same_name name) header_words ≡ w → (b : Bool) → nat_le MAX_ACTORS (length plan.actors) ≡ b →
        Gives (Upto n)
        (unless (first_error ((a || w, causes.Twice) ∷ (b, causes.Many) ∷ []))
        (record plan { actors = plan.actors ++ name ∷ [] }))
    into true ea w ew b eb = tt
    into false ea true ew b eb = tt
    into false ea false ew true eb = tt
    into false ea false ew false eb = with_actor n plan name is short ea ew eb

-- numbers that rise, and one above them
rising-push : (xs : List ℕ) (y : ℕ) → IsStrictlyIncreasing xs → All (λ x. x < y) xs
    → IsStrictlyIncreasing (xs ++ y ∷ [])
rising-push xs y rising below = λ k inside. into k (nat_lt (k + 1) (length xs)) refl inside
  where
    before : (k : ℕ) → k + 1 < length xs → get_or (xs ++ y ∷ []) k 0 < get_or (xs ++ y ∷ []) (k + 1) 0
    before k lt =
        let less : get_or xs k 0 < get_or xs (k + 1) 0 = rising k lt in
        let a : get_or (xs ++ y ∷ []) k 0 ≡ get_or xs k 0 = get_or_append_left xs (y ∷ []) 0 k (omega arith) in
        let b : get_or (xs ++ y ∷ []) (k + 1) 0 ≡ get_or xs (k + 1) 0 = get_or_append_left xs (y ∷ []) 0 (k + 1) lt in
        omega arith

    at : (k : ℕ) → length xs ≡ k + 1 → get_or (xs ++ y ∷ []) k 0 < get_or (xs ++ y ∷ []) (k + 1) 0
    at k last =
        let less : get_or xs k 0 < y = below k 0 (omega arith) in
        let a : get_or (xs ++ y ∷ []) k 0 ≡ get_or xs k 0 = get_or_append_left xs (y ∷ []) 0 k (omega arith) in
        let b : get_or (xs ++ y ∷ []) (k + 1) 0 ≡ y = get_or_push xs y 0 (k + 1) last in
        omega arith

    into : (k : ℕ) (t : Bool) → nat_lt (k + 1) (length xs) ≡ t → k + 1 < length (xs ++ y ∷ [])
        → get_or (xs ++ y ∷ []) k 0 < get_or (xs ++ y ∷ []) (k + 1) 0
    into k true t inside = before k (ltb-true (k + 1) (length xs) t)
    into k false t inside = at k (last (length xs) (length (xs ++ y ∷ [])) (length_push xs y) t inside)
      where
        last : (a b : ℕ) → b ≡ a + 1 → nat_lt (k + 1) a ≡ false → k + 1 < b → a ≡ k + 1
        last a b e t h = grind (arith, nat_tests)

-- a command line of an actor
abbrev line_command : ℕ → ℕ → Command → LineCommand
line_command n actor c = record { line = n; actor = actor; command = c }

-- a command line is added under the rules
add_command-keeps : (n : ℕ) (plan : Plan) (actor : ℕ) (c : Command) → 1 ≤ n → n ≤ MAX_SCRIPT_LINES → Upto n plan
    → actor < length plan.actors → IsCommand c → Gives (Upto (n + 1)) (add_command plan n actor c)
add_command-keeps n plan actor c some few is inside command =
    let lines : IsStrictlyIncreasing (map (λ (x : LineCommand). x.line) plan.commands ++ n ∷ []) =
    rising-push (map (λ (x : LineCommand). x.line) plan.commands) n is.plan.lines
    (All-map (λ x. x < n) (λ (x : LineCommand). x.line) plan.commands is.below) in
    record {
      plan = record {
        begins = record {
          few_disks = is.plan.begins.few_disks;
          disks = is.plan.begins.disks;
          disk_names = is.plan.begins.disk_names;
          few_actors = is.plan.begins.few_actors;
          actors = is.plan.begins.actors;
          actor_names = is.plan.begins.actor_names;
          commands = All-push (IsCommandOf (length plan.actors)) plan.commands (line_command n actor c)
              is.plan.begins.commands (record { actor = inside; command = command });
        };
        numbered = subst (All IsLineNumber)
            (sym (map_push (λ (x : LineCommand). x.line) plan.commands (line_command n actor c)))
            (All-push IsLineNumber (map (λ (x : LineCommand). x.line) plan.commands) n is.plan.numbered
            (record { some = some; few = few }));
        lines = subst IsStrictlyIncreasing
            (sym (map_push (λ (x : LineCommand). x.line) plan.commands (line_command n actor c))) lines;
      };
      below = All-push (λ (x : LineCommand). x.line < n + 1) plan.commands (line_command n actor c)
          (All-weaker (λ (x : LineCommand). x.line < n) (λ (x : LineCommand). x.line < n + 1) (λ x h. omega arith)
          plan.commands is.below) (omega arith);
    }

-- lines below a number are below the next
next_number : (n : ℕ) (plan : Plan) → Upto n plan → Upto (n + 1) plan
next_number n plan is = record {
  plan = is.plan;
  below = All-weaker (λ (x : LineCommand). x.line < n) (λ (x : LineCommand). x.line < n + 1) (λ x h. omega arith)
      plan.commands is.below;
}

-- the same for what a reader gives
next_gives : (n : ℕ) (r : Result Plan Cause) → Gives (Upto n) r → Gives (Upto (n + 1)) r
next_gives n (Ok plan) h = next_number n plan h
next_gives n (Err cause) h = tt

-- Lines

-- each header line keeps the rules
header-rows : (n : ℕ) (plan : Plan) → Upto n plan → EachRow (Reader (Upto n)) (header_table plan)
header-rows n plan is = (ram, (disk, (actor, tt)))
  where
    ram : Reader (Upto n) (λ ws. ram_words ws >>= add_disk plan)
    ram ws = after IsDiskDecl (Upto n) (ram_words ws) (add_disk plan) (ram-gives ws)
        (λ d h. add_disk-keeps n plan d is h)

    disk : Reader (Upto n) (λ ws. disk_words ws >>= add_disk plan)
    disk ws = after IsDiskDecl (Upto n) (disk_words ws) (add_disk plan) (disk-gives ws)
        (λ d h. add_disk-keeps n plan d is h)

    actor : Reader (Upto n) (λ ws. actor_words ws >>= add_actor plan)
    actor ws = after IsShortName (Upto n) (actor_words ws) (add_actor plan) (actor-gives ws)
        (λ name h. add_actor-keeps n plan name is h)

-- so does one that may stand behind a command line
header-keeps : (n : ℕ) (plan : Plan) (r : Result Plan Cause) → Gives (Upto n) r
    → Gives (Upto n) (before_commands plan r)
header-keeps n plan r h = into (length plan.commands == 0)
  where
    into : (t : Bool) → Gives (Upto n) (if t then r else Err causes.Header)
    into true = h
    into false = tt

-- a line of an actor keeps the rules
actor_line-keeps : (n : ℕ) (plan : Plan) (o : Option ℕ) (ws : Words) → 1 ≤ n → n ≤ MAX_SCRIPT_LINES → Upto n plan
    → ((actor : ℕ) → o ≡ Some actor → actor < length plan.actors) → Gives (Upto (n + 1)) (actor_line plan n o ws)
actor_line-keeps n plan None ws some few is inside = tt
actor_line-keeps n plan (Some actor) ws some few is inside =
    after IsCommand (Upto (n + 1)) (by_word command_table ws) (add_command plan n actor) (commands-give ws)
    (λ c h. add_command-keeps n plan actor c some few is (inside actor refl) h)

-- a line keeps the rules, by its words
words_line-keeps : (n : ℕ) (plan : Plan) (ws : Words) → 1 ≤ n → n ≤ MAX_SCRIPT_LINES → Upto n plan
    → Gives (Upto (n + 1)) (words_line plan n ws)
words_line-keeps n plan [] some few is = tt
words_line-keeps n plan (word ∷ words) some few is =
    into (beside (header_table plan) word)
    (λ read e. beside-all (Reader (Upto n)) (header_table plan) word read (header-rows n plan is) e)
  where
    into : (o : Option (Words → Result Plan Cause))
        → ((read : Words → Result Plan Cause) → o ≡ Some read → Reader (Upto n) read)
        → Gives (Upto (n + 1)) (line_by plan n word words o)
    into None known =
        actor_line-keeps n plan (position (same_name word) plan.actors) words some few is
        (λ actor e. (position-Some (same_name word) plan.actors actor [] e).0)
    into (Some read) known =
        next_gives n (before_commands plan (read words)) (header-keeps n plan (read words) (known read refl words))

-- a line that isn't skipped keeps the rules
plan_with_line-keeps : (n : ℕ) (plan : Plan) (line : List ℕ) → 1 ≤ n → Upto n plan
    → Gives (Upto (n + 1)) (plan_with_line plan n line)
plan_with_line-keeps n plan line some is =
    into (nat_lt MAX_SCRIPT_LINES n) refl
    ((is_long line, causes.Long) ∷ (not (list_all (λ b. nat_le 32 b && nat_le b 126) line), causes.Byte)
    ∷ (list_any (λ word. length word == 0) (words_of line), causes.Space) ∷ [])
  where
    not_above : nat_lt MAX_SCRIPT_LINES n ≡ false → n ≤ MAX_SCRIPT_LINES
    not_above t = grind (arith, nat_tests)

    tested : n ≤ MAX_SCRIPT_LINES → (o : Option Cause)
        → Gives (Upto (n + 1)) (unless o (words_of line) >>= words_line plan n)
    tested few None = words_line-keeps n plan (words_of line) some few is
    tested few (Some cause) = tt

    into : (t : Bool) → nat_lt MAX_SCRIPT_LINES n ≡ t → (rows : List (Bool × Cause))
        → Gives (Upto (n + 1)) (unless (first_error ((t, causes.Lines) ∷ rows)) (words_of line) >>= words_line plan n)
    into true t rows = tt
    into false t rows = tested (not_above t) (first_error rows)

-- Texts

-- the plan of a part of a text
abbrev Keeps : (Plan → Type 0) → Result Plan Fault → Type 0
Keeps P (Ok plan) = P plan
Keeps P (Err fault) = Unit {0}

-- the number of a fault's line is no matter
at_line-keeps : (P : Plan → Type 0) (n : ℕ) (r : Result Plan Cause) → Gives P r → Keeps P (at_line n r)
at_line-keeps P n (Ok plan) h = h
at_line-keeps P n (Err cause) h = tt

-- each line keeps the rules
next_line-keeps : (n : ℕ) (r : Result Plan Fault) (line : List ℕ) → 1 ≤ n → Keeps (Upto n) r
    → Keeps (Upto (n + 1)) (next_line r (n, line))
next_line-keeps n (Err fault) line some h = tt
next_line-keeps n (Ok plan) line some is = into (is_skipped line)
  where
    into : (t : Bool) → Keeps (Upto (n + 1)) (if t then Ok plan else at_line n (plan_with_line plan n line))
    into true = next_number n plan is
    into false = at_line-keeps (Upto (n + 1)) n (plan_with_line plan n line) (plan_with_line-keeps n plan line some is)

-- what is left is the rules
without_number : (n : ℕ) (r : Result Plan Fault) → Keeps (Upto n) r → Keeps IsPlan r
without_number n (Ok plan) h = h.plan
without_number n (Err fault) h = tt

-- all lines keep the rules
lines-keep : (lines : List (List ℕ)) (n : ℕ) (r : Result Plan Fault) → 1 ≤ n → Keeps (Upto n) r
    → Keeps IsPlan (fold next_line r (enumerate_from n lines))
lines-keep [] n r some h = without_number n r h
lines-keep (line ∷ lines) n r some h =
    lines-keep lines (n + 1) (next_line r (n, line)) (omega arith) (next_line-keeps n r line some h)

-- the empty plan keeps the rules
nothing_yet : Upto 1 empty_plan
nothing_yet = record {
  plan = record {
    begins = record {
      few_disks = omega arith;
      disks = All-nil IsDiskDecl;
      disk_names = λ i j d lt inside. absurd (omega arith);
      few_actors = omega arith;
      actors = All-nil IsActor;
      actor_names = λ i j d lt inside. absurd (omega arith);
      commands = All-nil (IsCommandOf 0);
    };
    numbered = All-nil IsLineNumber;
    lines = λ k inside. absurd (omega arith);
  };
  below = All-nil (λ (c : LineCommand). c.line < 1);
}

-- the plan of a script keeps the rules of plans
pub scripts-are-plans : ScriptsArePlans
unfolding script
scripts-are-plans text plan e =
    subst (Keeps IsPlan) e (lines-keep (lines_of text) 1 (Ok empty_plan) (omega arith) nothing_yet)
