-- Each line that is drawn adds a command to the plan of those before it.
use Rattle.std.specs.Prelude.{◌≡◌, ℕ, zero, suc, ◌+◌, ◌%◌, ◌<◌, ◌≤◌, ◌==◌, ◌&&◌, nat_le, nat_lt, true, false, List, [], ◌∷◌, ◌++◌, length, codes, decimal, None, Ok, All}
use Rattle.std.specs.Fmt.{digits}
use Rattle.std.specs.List.{AllByRecursion, list_all, list_any}
use Rattle.std.proofs.Common.{refl, sym, ◌∙◌, ap, arith, subst}
use Rattle.std.proofs.lemmas.Bool.Decides.{nat_tests}
use Rattle.std.proofs.lemmas.List.{append_assoc, length-append}
use Rattle.geo_base.specs.declared.limits.TheConstants.{MAX_LINE_BYTES, MAX_SCRIPT_LINES, MAX_WRITE_LINE_BYTES}
use Rattle.geo_model.specs.declared.command.Command.{Command}
use Rattle.geo_model.specs.Words.{first_error}
use Rattle.geo_model.specs.World.{Plan}
use Rattle.geo_model.specs.Script.{Words, by_word, command_table, is_skipped, line_tests, plan_with_line, words_line, words_of}
use Rattle.geo_model.specs.Generator.{command_text}
use Rattle.geo_laws_texts.proofs.Clean.{IsClean, line_in_range, line_no_feed, line_of, none_empty, words_back}
use Rattle.geo_laws_texts.proofs.CommandTexts.{IsCommandText, drawn_command}

-- the four actors
abbrev pub four_actors : List (List ℕ)
four_actors = codes "a0" ∷ codes "a1" ∷ codes "a2" ∷ codes "a3" ∷ []

-- one of them
pub record IsActorWord (word : List ℕ) : Type 0 where
  pub actor : ℕ
  pub clean : IsClean word
  pub two : length word ≡ 2
  pub begins : (rest : List ℕ) → is_skipped (word ++ rest) ≡ false
  pub reads : (plan : Plan) (n : ℕ) (words : Words) (c : Command) → plan.actors ≡ four_actors
      → by_word command_table words ≡ Ok c
      → words_line plan n (word ∷ words)
      ≡ Ok (record plan { commands = plan.commands ++ record { line = n; actor = actor; command = c } ∷ [] })

-- each of the four
actor_by : (k : ℕ) → k < 4 → IsActorWord (codes "a" ++ decimal k)
unfolding digits
actor_by zero b = record {
  actor = 0;
  clean = record { some_byte = omega arith; bytes = refl };
  two = refl;
  begins = λ rest. refl;
  reads = λ plan n words c are is. (rw (are, is) refl);
}
actor_by (suc zero) b = record {
  actor = 1;
  clean = record { some_byte = omega arith; bytes = refl };
  two = refl;
  begins = λ rest. refl;
  reads = λ plan n words c are is. (rw (are, is) refl);
}
actor_by (suc (suc zero)) b = record {
  actor = 2;
  clean = record { some_byte = omega arith; bytes = refl };
  two = refl;
  begins = λ rest. refl;
  reads = λ plan n words c are is. (rw (are, is) refl);
}
actor_by (suc (suc (suc zero))) b = record {
  actor = 3;
  clean = record { some_byte = omega arith; bytes = refl };
  two = refl;
  begins = λ rest. refl;
  reads = λ plan n words c are is. (rw (are, is) refl);
}
actor_by (suc (suc (suc (suc k)))) b = absurd (omega (arith, b))

-- the text of a line that is drawn, without its line feed
abbrev pub drawn_text : ℕ → ℕ → ℕ → ℕ → List ℕ
drawn_text i d1 d2 d3 = codes "a" ++ decimal (i % 4) ++ codes " " ++ command_text d1 d2 d3

-- a line that adds a command to any plan with the four actors
pub record AddsCommand (line : List ℕ) : Type 0 where
  pub no_feed : All (λ b. (b == 10) ≡ false) line
  pub not_empty : 0 < length line
  pub shown : is_skipped line ≡ false
  pub command : Command
  pub actor : ℕ
  pub adds : (plan : Plan) (n : ℕ) → n ≤ MAX_SCRIPT_LINES → plan.actors ≡ four_actors
      → plan_with_line plan n line
      ≡ Ok (record plan { commands = plan.commands ++ record { line = n; actor = actor; command = command } ∷ [] })

-- a short line of clean words passes the tests of lines
passes_tests : (n : ℕ) (line : List ℕ) (w : List ℕ) (ws : Words) → line ≡ line_of (w ∷ ws) → n ≤ MAX_SCRIPT_LINES
    → length line ≤ MAX_LINE_BYTES → AllByRecursion IsClean (w ∷ ws) → first_error (line_tests n line) ≡ None
passes_tests n line w ws is few short clean =
    let not_many : nat_lt MAX_SCRIPT_LINES n ≡ false = grind (arith, nat_tests) in
    let not_wide : nat_lt MAX_WRITE_LINE_BYTES (length line) ≡ false = grind (arith, nat_tests) in
    let not_wider : nat_lt MAX_LINE_BYTES (length line) ≡ false = grind (arith, nat_tests) in
    let bytes : list_all (λ b. nat_le 32 b && nat_le b 126) line ≡ true =
    ap (λ l. list_all (λ b. nat_le 32 b && nat_le b 126) l) is ∙ line_in_range w ws clean in
    let some : list_any (λ word. length word == 0) (words_of line) ≡ false =
    ap (λ l. list_any (λ word. length word == 0) (words_of l)) is
    ∙ ap (λ xs. list_any (λ word. length word == 0) xs) (words_back w ws clean) ∙ none_empty (w ∷ ws) clean in
    rw (not_many, not_wide, not_wider, bytes, some) refl

-- a line of an actor and a command's words
pub adds_command : (a text : List ℕ) → IsActorWord a → IsCommandText text → AddsCommand (a ++ codes " " ++ text)
adds_command a text actor of = record {
  no_feed = subst (λ l. All (λ b. (b == 10) ≡ false) l) (sym is) (line_no_feed a (of.first ∷ of.others) clean);
  not_empty = omega (arith, long, actor.two);
  shown = ap is_skipped (append_assoc a (codes " ") text) ∙ actor.begins (codes " " ++ text);
  command = of.command;
  actor = actor.actor;
  adds = λ plan n few are.
      let tests : first_error (line_tests n (a ++ codes " " ++ text)) ≡ None =
      passes_tests n (a ++ codes " " ++ text) a (of.first ∷ of.others) is few (omega (arith, long, of.short, actor.two))
      clean in
      let words : words_of (a ++ codes " " ++ text) ≡ a ∷ of.first ∷ of.others =
      ap words_of is ∙ words_back a (of.first ∷ of.others) clean in
      rw (tests, words) (actor.reads plan n (of.first ∷ of.others) of.command are of.reads);
}
  where
    is : a ++ codes " " ++ text ≡ line_of (a ∷ of.first ∷ of.others)
    is = append_assoc a (codes " ") text ∙ ap (λ t. a ++ 32 ∷ t) of.text_is

    clean : AllByRecursion IsClean (a ∷ of.first ∷ of.others)
    clean = (actor.clean, of.clean)

    long : length (a ++ codes " " ++ text) ≡ length a + 1 + length text
    long =
        let first = length-append (a ++ codes " ") text in
        let second = length-append a (codes " ") in omega (arith, first, second)

-- a line that is drawn
pub drawn_line : (i d1 d2 d3 : ℕ) → AddsCommand (drawn_text i d1 d2 d3)
drawn_line i d1 d2 d3 =
    adds_command (codes "a" ++ decimal (i % 4)) (command_text d1 d2 d3) (actor_by (i % 4) (omega arith))
    (drawn_command d1 d2 d3)
